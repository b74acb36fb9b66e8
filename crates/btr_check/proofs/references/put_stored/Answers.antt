use Rattle.std.proofs.Common.{◌≡◌, ◌++◌, true, refl, ap, ◌∙◌}
use Rattle.btr_findings.specs.Findings.{Adds}
use Rattle.btr_read.specs.Layout.{Layout}
use Rattle.btr_super.specs.declared.superblock.Super.{Super}
use Rattle.btr_volume.specs.declared.stop.Stop.TheVariants.{Memory as NoMemory}
use Rattle.btr_check.specs.ExtentTree.{AreCollected, IsBegun}
use Rattle.btr_check.specs.Families.{found_on_groups}
use Rattle.btr_check.specs.Passes.{ListsSound}
use Rattle.btr_check.specs.Running.{world, filesystem, is_outside}
use Rattle.btr_check.specs.Uses.{found_on_totals}
use Rattle.btr_check.proofs.Passes.{ran_no_memory}
use Rattle.btr_check.proofs.Referring.{begun_of, collected_put}
use Rattle.btr_check.proofs.Runs.{ran_stop, ran_value, stop_is}
use Rattle.btr_check.proofs.references.put_stored.Goals as goal

pub returns-in_err-both : goal.returns-in_err-both
returns-in_err-both g c =
    let x = world (g.R.Rack.seen c.args.rack.now) c.args.vol.now in
    let y = world (g.R.Rack.seen c.read_extents.new.rack) c.read_extents.new.vol in
    let stop = c.in_err-both.field-0.0 in
    record {
      ran = rw (stop_is c.from_residual.result c.from_residual.ensures.1)
          (ran_stop (λ fs. ListsSound c.args.listed.now fs → is_outside stop ≡ true)
          (λ fs. ListsSound c.args.listed.now fs → is_outside stop ≡ true) x y stop c.in_err-both.ensures.ran (λ B h. h));
    }

pub returns-in-Ok : goal.returns-in-Ok
returns-in-Ok g c =
    let x = world (g.R.Rack.seen c.args.rack.now) c.args.vol.now in
    let y = world (g.R.Rack.seen c.read_extents.new.rack) c.read_extents.new.vol in
    let both = c.in_ok-both.both in
    let begun = c.in-Ok.begun in
    let ran = c.in_ok-both.ensures.ran in
    let a = c.args.found.now in
    let b = c.put_collected.new.found in
    record {
      ran = ran_value (λ fs. ListsSound c.args.listed.now fs → AreCollected fs both)
          (λ fs. ListsSound c.args.listed.now fs → IsBegun fs begun × Adds (found_on_totals fs ++ found_on_groups fs) a b) x y both begun ran
          (λ B h known.
          let fs = filesystem c.args.vol.now B in
          let is = h known in (
            begun_of fs both begun is c.in-Ok.ensures.forward c.in-Ok.ensures.full,
            collected_put fs both c.read_extents.new.vol.store.layout.chunks c.read_extents.new.vol.sup.bytes_used a b is
                (ap (λ (l : Layout). l.chunks) ran.volume.store.layout) (ap (λ (s : Super). s.bytes_used) ran.volume.sup)
                c.in-Ok.ensures.found,
          ));
    }

pub returns-in-Err : goal.returns-in-Err
returns-in-Err g c =
    let x = world (g.R.Rack.seen c.args.rack.now) c.args.vol.now in
    let y = world (g.R.Rack.seen c.read_extents.new.rack) c.read_extents.new.vol in
    record {
      ran = ran_no_memory (λ fs. ListsSound c.args.listed.now fs → AreCollected fs c.in_ok-both.both)
          (λ fs. ListsSound c.args.listed.now fs → is_outside NoMemory ≡ true) x y c.in_ok-both.both c.in_ok-both.ensures.ran (λ B known. refl);
    }

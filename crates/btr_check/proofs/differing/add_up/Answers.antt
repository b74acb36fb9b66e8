use Rattle.std.proofs.Common.{◌≡◌, ◌∙◌, Bool, true, false, List, Some, None, fold, ap, sym, subst}
use Rattle.std.specs.Bool.{⊤}
use Rattle.btr_chunk.specs.declared.chunk.Chunk.{Chunk}
use Rattle.btr_check_names.specs.Unpaired.{compared, unpaired_step}
use Rattle.btr_read.specs.Layout.{Layout}
use Rattle.btr_check.specs.Differing.{OfNone, AddUp, own_marks}
use Rattle.btr_check.specs.FileTrees.{IsSoundAlone, file_step, nothing_met}
use Rattle.btr_check.specs.Running.{world, filesystem}
use Rattle.btr_check.proofs.AddingUp.{paired_by, whole_alone}
use Rattle.btr_check.proofs.Runs.{ran_both, ran_value}
use Rattle.btr_check.proofs.differing.add_up.Goals as goal

pub returns-in-None : goal.returns-in-None
returns-in-None g c =
    let x = world (g.R.Rack.seen c.args.rack.now) c.args.vol.now in
    let y = world (g.R.Rack.seen c.meet_own.new.rack) c.meet_own.new.vol in
    record {
      ran = ran_value (λ fs. ⊤) (λ fs. false ≡ true → AddUp fs c.args.sums.now c.args.before.now c.args.after.now c.args.ranges.now) x y _ false
          c.in-None.ensures.ran (λ B h yes. cc);
    }

pub returns-then-not-is_sound_alone : goal.returns-then-not-is_sound_alone
returns-then-not-is_sound_alone g c =
    let x = world (g.R.Rack.seen c.args.rack.now) c.args.vol.now in
    let y = world (g.R.Rack.seen c.meet_own.new.rack) c.meet_own.new.vol in
    let own = c.in-Some.own in
    record {
      ran = ran_value (λ fs. own ≡ fold file_step (nothing_met c.args.after.now.tree.dirid) (own_marks fs c.args.after.now c.args.ranges.now))
          (λ fs. false ≡ true → AddUp fs c.args.sums.now c.args.before.now c.args.after.now c.args.ranges.now) x y _ false
          c.in-Some.ensures.ran (λ B h yes. cc);
    }

pub returns-in-None-meet_others : goal.returns-in-None-meet_others
returns-in-None-meet_others g c =
    let x = world (g.R.Rack.seen c.args.rack.now) c.args.vol.now in
    let y = world (g.R.Rack.seen c.meet_own.new.rack) c.meet_own.new.vol in
    let z = world (g.R.Rack.seen c.meet_others.new.rack) c.meet_others.new.vol in
    let own = c.in-Some.own in
    record {
      ran = ran_both {V = OfNone} (λ fs. own ≡ fold file_step (nothing_met c.args.after.now.tree.dirid) (own_marks fs c.args.after.now c.args.ranges.now))
          (λ fs. ⊤)
          (λ fs. false ≡ true → AddUp fs c.args.sums.now c.args.before.now c.args.after.now c.args.ranges.now) x y z _ false
          c.in-Some.ensures.ran (ran_value (λ fs. ⊤) (λ fs. ⊤) y z _ false c.in-None-meet_others.ensures.ran (λ B h. tt)) (λ B p q yes. cc);
    }

pub returns : goal.returns
returns g c =
    let x = world (g.R.Rack.seen c.args.rack.now) c.args.vol.now in
    let y = world (g.R.Rack.seen c.meet_own.new.rack) c.meet_own.new.vol in
    let z = world (g.R.Rack.seen c.meet_others.new.rack) c.meet_others.new.vol in
    let before = c.args.before.now in
    let after = c.args.after.now in
    let ranges = c.args.ranges.now in
    let sums = c.args.sums.now in
    let own = c.in-Some.own in
    let names = c.in-Some-meet_others.names in
    let r = c.are_paired_here.result in
    let are : c.chunks-chunks.result.now ≡ c.args.vol.now.store.layout.chunks =
    c.chunks-chunks.ensures ∙ ap (λ (l : Layout). l.chunks) c.in-Some.ensures.ran.volume.store.layout in
    record {
      ran = ran_both {V = OfNone} (λ fs. own ≡ fold file_step (nothing_met after.tree.dirid) (own_marks fs after ranges))
          (λ fs. names ≡ fold unpaired_step (compared own.names) (own_marks fs before ranges))
          (λ fs. r ≡ true → AddUp fs sums before after ranges) x y z _ r c.in-Some.ensures.ran
          (ran_value (λ fs. names ≡ fold unpaired_step (compared own.names) (own_marks fs before ranges))
          (λ fs. names ≡ fold unpaired_step (compared own.names) (own_marks fs before ranges)) y z _ r c.in-Some-meet_others.ensures.ran (λ B h. h))
          (λ B p q yes.
          let fs = filesystem c.args.vol.now B in
          record {
            alone = whole_alone fs c.keeps_law.ensures.uses sums after ranges own p
                (subst (λ (l : List Chunk). IsSoundAlone after.tree.id own l sums) are (c.is_sound_alone.ensures c.if-not-is_sound_alone.false));
            both = paired_by fs before after ranges own names p q (c.are_paired_here.ensures yes);
          });
    }

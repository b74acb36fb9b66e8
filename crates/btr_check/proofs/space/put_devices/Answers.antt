use Rattle.std.proofs.Common.{◌≡◌, true, List, Err, Some, fold, ap, ◌∙◌}
use Rattle.btr_read.specs.Layout.{Layout}
use Rattle.btr_findings.specs.Findings.{Adds}
use Rattle.btr_check_space.specs.Items.{with_mark, device_extent_in, device_in}
use Rattle.btr_check_space.specs.declared.stated_device.StatedDevice.{StatedDevice}
use Rattle.btr_volume.specs.Tree.{named_root}
use Rattle.btr_check.specs.Families.{found_on_devices}
use Rattle.btr_check.specs.Passes.{Lists, marks_if}
use Rattle.btr_check.specs.Running.{world, filesystem, is_outside}
use Rattle.btr_check.specs.Trees.{chunk_tree}
use Rattle.btr_check.proofs.Passes.{on_done, ran_put}
use Rattle.btr_check.proofs.Runs.{nothing, ran_both, ran_stop, ran_stop_within, ran_then, stop_is, volume_then}
use Rattle.btr_check.proofs.Wanting.{chunk_wanted, last_wanted, one_wanted}
use Rattle.btr_check.proofs.Spaces.{device_extents_are, devices_are, devices_put}
use Rattle.btr_check.proofs.space.put_devices.Goals as goal

pub returns-in_err-extents : goal.returns-in_err-extents
returns-in_err-extents g c =
    let x = world (g.R.Rack.seen c.args.rack.now) c.args.vol.now in
    let y = world (g.R.Rack.seen c.collect.new.rack) c.collect.new.vol in
    record {
      ran = rw (stop_is c.from_residual.result c.from_residual.ensures.1)
          (ran_stop_within (λ fs. is_outside c.in_err-extents.field-0.0 ≡ true) (λ fs. Lists c.args.listed.now fs
          → is_outside c.in_err-extents.field-0.0 ≡ true) x y c.in_err-extents.field-0.0 c.in_err-extents.ensures.ran (λ B h known. h)
          (λ B want w lists. last_wanted (filesystem c.args.vol.now B) c.args.listed.now 4 c.last_of-device_tree.result want
          c.last_of-device_tree.ensures lists w));
    }

pub returns-in_err-devices : goal.returns-in_err-devices
returns-in_err-devices g c =
    let x = world (g.R.Rack.seen c.args.rack.now) c.args.vol.now in
    let y = world (g.R.Rack.seen c.collect.new.rack) c.collect.new.vol in
    let z = world (g.R.Rack.seen c.collect-2.new.rack) c.collect-2.new.vol in
    record {
      ran = rw (stop_is c.from_residual-in_err-devices.result c.from_residual-in_err-devices.ensures.1)
          (ran_stop {A = List StatedDevice} {C = Unit {0}} (λ fs. Lists c.args.listed.now fs → is_outside c.in_err-devices.field-0.0 ≡ true)
          (λ fs. Lists c.args.listed.now fs → is_outside c.in_err-devices.field-0.0 ≡ true) x z c.in_err-devices.field-0.0
          (ran_then {C = List StatedDevice} (λ fs. c.in_ok-extents.extents ≡ fold (with_mark device_extent_in) c.new.result
          (marks_if fs.blocks c.last_of-device_tree.result)) (λ fs. is_outside c.in_err-devices.field-0.0 ≡ true)
          (λ fs. Lists c.args.listed.now fs → is_outside c.in_err-devices.field-0.0 ≡ true) x y z c.in_ok-extents.extents
          (Err c.in_err-devices.field-0.0) c.in_ok-extents.ensures.ran c.in_err-devices.ensures.ran (λ B p q known. q)
          (λ B p want w lists.
          let fs = filesystem c.args.vol.now B in
          let tree = c.named_root-chunk_tree.result in
          chunk_wanted fs tree want (c.named_root-chunk_tree.ensures ∙ ap (named_root 3) c.chunk_root.ensures
          ∙ ap chunk_tree c.in_ok-extents.ensures.ran.volume.sup)
          (one_wanted fs tree want w)))
          (λ B h. h));
    }

pub returns : goal.returns
returns g c =
    let x = world (g.R.Rack.seen c.args.rack.now) c.args.vol.now in
    let y = world (g.R.Rack.seen c.collect.new.rack) c.collect.new.vol in
    let z = world (g.R.Rack.seen c.collect-2.new.rack) c.collect-2.new.vol in
    let one = c.in_ok-extents.ensures.ran in
    let two = c.in_ok-devices.ensures.ran in
    let same = volume_then one.volume two.volume in
    let both = ran_both {U = nothing}
    (λ fs. c.in_ok-extents.extents ≡ fold (with_mark device_extent_in) c.new.result (marks_if fs.blocks c.last_of-device_tree.result))
    (λ fs. c.in_ok-devices.devices ≡ fold (with_mark device_in) c.new-2.result (marks_if fs.blocks (Some c.named_root-chunk_tree.result)))
    (λ fs. (c.in_ok-extents.extents ≡ fold (with_mark device_extent_in) c.new.result (marks_if fs.blocks c.last_of-device_tree.result))
    × (c.in_ok-devices.devices ≡ fold (with_mark device_in) c.new-2.result (marks_if fs.blocks (Some c.named_root-chunk_tree.result))))
    x y z c.in_ok-extents.extents c.in_ok-devices.devices one two (λ B p q. (p, q)) in
    record {
      ran = ran_put (λ fs. (c.in_ok-extents.extents ≡ fold (with_mark device_extent_in) c.new.result (marks_if fs.blocks c.last_of-device_tree.result))
          × (c.in_ok-devices.devices ≡ fold (with_mark device_in) c.new-2.result (marks_if fs.blocks (Some c.named_root-chunk_tree.result))))
          (Lists c.args.listed.now) (λ fs. Adds (found_on_devices fs) c.args.found.now c.put_device_findings.new.found) x z c.in_ok-devices.devices
          c.put_device_findings.result c.or_memory.result both c.or_memory.ensures
          (λ B met known. on_done _ _ c.put_device_findings.result
          (devices_put (filesystem c.args.vol.now B) c.chunks.result.now c.as_slice.result.now c.as_slice-2.result.now c.args.found.now
          c.put_device_findings.new.found
          (c.chunks.ensures ∙ ap (λ (l : Layout). l.chunks) same.store.layout)
          (c.as_slice.ensures ∙ device_extents_are (filesystem c.args.vol.now B) c.collects_law.ensures.device_extents c.args.listed.now
          c.last_of-device_tree.result c.new.result c.in_ok-extents.extents known c.last_of-device_tree.ensures c.new.ensures met.0)
          (c.as_slice-2.ensures ∙ devices_are (filesystem c.args.vol.now B) c.collects_law.ensures.devices c.named_root-chunk_tree.result
          c.new-2.result c.in_ok-devices.devices (c.named_root-chunk_tree.ensures ∙ ap (named_root 3) c.chunk_root.ensures
          ∙ ap chunk_tree one.volume.sup) c.new-2.ensures met.1))
          c.put_device_findings.ensures);
    }

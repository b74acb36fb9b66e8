use Rattle.std.proofs.Common.{◌≡◌, ◌∷◌, [], ◌&&◌, eqb, get_or, ◌∙◌}
use Rattle.std.specs.List.{list_any}
use Rattle.btr_findings.specs.declared.kind.Kind.TheVariants as kind
use Rattle.btr_findings.specs.Findings.{unless, found}
use Rattle.btr_check_space.specs.Devices.{chunk_device}
use Rattle.btr_check_space.specs.declared.device_extent.DeviceExtent.{DeviceExtent}
use Rattle.btr_check_space.proofs.Found.{extent_found}
use Rattle.btr_check_space.proofs.Put.{adds_row, unless_same}
use Rattle.btr_check_space.proofs.devices.put_chunk_devices.Goals as goal

abbrev nothing : DeviceExtent
nothing = record { devid = 0; offset = 0; chunk = 0; len = 0 }

pub loop-range-preserved : goal.loop-range-preserved
loop-range-preserved c =
    let extents = c.args.extents.now in
    let ranges = c.args.ranges.now in
    let i = c.loop-range.range-index in
    let range : DeviceExtent = get_or ranges i nothing in
    let test = list_any (λ (extent : DeviceExtent).
    ((eqb extent.devid range.devid && eqb extent.offset range.offset) && eqb extent.chunk range.chunk) && eqb extent.len range.len) extents in
    let tests : c.contains-is_kept.result ≡ test = c.contains-is_kept.ensures ∙ extent_found extents c.in_ok-set.set range c.in_ok-set.ensures in
    adds_row (chunk_device extents) ranges i nothing c.args.found.now c.loop-range.found c.put_unless.new.found
    (unless c.contains-is_kept.result c.new.result) c.loop-range-test.true
    (unless_same c.contains-is_kept.result test c.new.result (found kind.ChunkDevice (range.chunk ∷ range.devid ∷ range.offset ∷ [])) tests c.new.ensures)
    c.loop-range.invariant c.in_ok-put_unless.ensures

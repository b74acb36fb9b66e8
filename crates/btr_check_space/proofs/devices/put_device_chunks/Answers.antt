use Rattle.std.proofs.Common.{◌≡◌, ◌∷◌, [], ◌&&◌, eqb, get_or, ◌∙◌}
use Rattle.std.specs.List.{list_any}
use Rattle.btr_findings.specs.declared.kind.Kind.TheVariants as kind
use Rattle.btr_findings.specs.Findings.{unless, found}
use Rattle.btr_check_space.specs.Devices.{device_chunk}
use Rattle.btr_check_space.specs.declared.device_extent.DeviceExtent.{DeviceExtent}
use Rattle.btr_check_space.proofs.Found.{place_found}
use Rattle.btr_check_space.proofs.Put.{adds_row, unless_same}
use Rattle.btr_check_space.proofs.devices.put_device_chunks.Goals as goal

abbrev nothing : DeviceExtent
nothing = record { devid = 0; offset = 0; chunk = 0; len = 0 }

pub loop-extent-preserved : goal.loop-extent-preserved
loop-extent-preserved c =
    let extents = c.args.extents.now in
    let ranges = c.args.ranges.now in
    let i = c.loop-extent.extent-index in
    let extent : DeviceExtent = get_or extents i nothing in
    let test = list_any (λ (range : DeviceExtent). eqb range.devid extent.devid && eqb range.offset extent.offset) ranges in
    let tests : c.contains-is_kept.result ≡ test = c.contains-is_kept.ensures ∙ place_found ranges c.in_ok-places.places extent c.in_ok-places.ensures in
    adds_row (device_chunk ranges) extents i nothing c.args.found.now c.loop-extent.found c.put_unless.new.found
    (unless c.contains-is_kept.result c.new.result) c.loop-extent-test.true
    (unless_same c.contains-is_kept.result test c.new.result (found kind.DeviceChunk (extent.devid ∷ extent.offset ∷ [])) tests c.new.ensures)
    c.loop-extent.invariant c.in_ok-put_unless.ensures

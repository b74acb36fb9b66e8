use Rattle.std.proofs.Common.{◌≡◌, ◌++◌, List, filter_map, ap, ◌∙◌}
use Rattle.std.proofs.lemmas.Result.{on_ok_weaker}
use Rattle.btr_findings.proofs.Adding.{adds_then, adds_as}
use Rattle.btr_findings.specs.Findings.{Adds}
use Rattle.btr_findings.specs.declared.finding.Finding.{Finding}
use Rattle.btr_check_space.specs.Devices as words
use Rattle.btr_check_space.specs.Devices.{chunk_device, device_chunk, device_used, unstated_used}
use Rattle.btr_check_space.specs.declared.device_extent.DeviceExtent.{DeviceExtent}
use Rattle.btr_check_space.proofs.devices.put_device_findings.Goals as goal

pub returns : goal.returns
returns c =
    let extents = c.args.extents.now in
    let devices = c.args.devices.now in
    let ranges = words.ranges_of c.args.chunks.now in
    let same : c.deref.result.now ≡ ranges = c.deref.ensures.value ∙ c.in_ok-ranges.ensures in
    let also : c.deref-2.result.now ≡ ranges = c.deref-2.ensures.value ∙ c.in_ok-ranges.ensures in
    let a : List Finding = filter_map (chunk_device extents) ranges in
    let b : List Finding = filter_map (device_chunk ranges) extents in
    let d : List Finding = filter_map (device_used extents) devices in
    let e : List Finding = filter_map (unstated_used devices extents) extents in
    let old = c.args.found.now in
    let first = c.put_chunk_devices.new.found in
    let second = c.put_device_chunks.new.found in
    let third = c.put_device_used.new.found in
    let last = c.put_unstated_used.new.found in
    let one : Adds a old first = adds_as (filter_map (chunk_device extents) c.deref.result.now) a old first
    (ap (filter_map (chunk_device extents)) same) c.in_ok-put_chunk_devices.ensures in
    let two : Adds b first second =
    adds_as (filter_map (device_chunk c.deref-2.result.now) extents) b first second
    (ap (λ (list : List DeviceExtent). filter_map (device_chunk list) extents) also) c.in_ok-put_device_chunks.ensures in
    let three : Adds d second third = c.in_ok-put_device_used.ensures extents c.in_ok-given.ensures in
    on_ok_weaker c.put_unstated_used.result
    (λ more. adds_then (a ++ b ++ d) e old third last (adds_then (a ++ b) d old second third (adds_then a b old first second one two) three) more)
    (c.put_unstated_used.ensures devices c.in_ok-devids.ensures c.in_ok-given.ensures)

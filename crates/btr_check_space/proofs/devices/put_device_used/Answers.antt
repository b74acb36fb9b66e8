use Rattle.std.proofs.Common.{◌≡◌, ◌∷◌, [], eqb, get_or, ap, ◌∙◌}
use Rattle.btr_findings.specs.declared.kind.Kind.TheVariants as kind
use Rattle.btr_findings.specs.Findings.{unless, found, shown_sum}
use Rattle.btr_check_space.specs.Devices.{device_used, given_of, used_row}
use Rattle.btr_check_space.specs.declared.stated_device.StatedDevice.{StatedDevice}
use Rattle.btr_check_space.proofs.Put.{adds_row, unless_same}
use Rattle.btr_check_space.proofs.devices.put_device_used.Goals as goal

abbrev nobody : StatedDevice
nobody = record { devid = 0; used = 0 }

pub loop-device-preserved : goal.loop-device-preserved
loop-device-preserved c = λ extents given.
    let devices = c.args.devices.now in
    let i = c.loop-device.device-index in
    let device : StatedDevice = get_or devices i nobody in
    let sum : c.given_at-sum.result ≡ given_of extents device.devid = c.given_at-sum.ensures ∙ given device.devid in
    let row : c.new.result ≡ used_row device.devid device.used (given_of extents device.devid) =
    c.new.ensures ∙ ap (λ n. found kind.DeviceUsed (device.devid ∷ device.used ∷ n ∷ [])) (c.shown.ensures ∙ ap shown_sum sum) in
    let tests : eqb c.from.result c.given_at-sum.result ≡ eqb device.used (given_of extents device.devid) =
    ap (λ n. eqb n c.given_at-sum.result) c.from.ensures ∙ ap (eqb device.used) sum in
    adds_row (device_used extents) devices i nobody c.args.found.now c.loop-device.found c.put_unless.new.found
    (unless (eqb c.from.result c.given_at-sum.result) c.new.result) c.loop-device-test.true
    (unless_same (eqb c.from.result c.given_at-sum.result) (eqb device.used (given_of extents device.devid)) c.new.result
    (used_row device.devid device.used (given_of extents device.devid)) tests row)
    (c.loop-device.invariant extents given) c.in_ok-put_unless.ensures

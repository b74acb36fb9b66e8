use Rattle.std.proofs.Common.{◌≡◌, ◌||◌, ◌∷◌, [], eqb, get_or, ap, ◌∙◌}
use Rattle.std.specs.BTreeSet.{contains}
use Rattle.std.specs.Ordering.{nat_cmp}
use Rattle.btr_findings.specs.declared.kind.Kind.TheVariants as kind
use Rattle.btr_findings.specs.Findings.{unless, found, shown_sum}
use Rattle.btr_check_space.specs.Devices.{unstated_used, has_device, given_of, used_row}
use Rattle.btr_check_space.specs.declared.device_extent.DeviceExtent.{DeviceExtent}
use Rattle.btr_check_space.proofs.Put.{adds_row, unless_same}
use Rattle.btr_check_space.proofs.devices.put_unstated_used.Goals as goal

abbrev nothing : DeviceExtent
nothing = record { devid = 0; offset = 0; chunk = 0; len = 0 }

pub loop-extent-preserved : goal.loop-extent-preserved
loop-extent-preserved c = λ devices listed given.
    let extents = c.args.extents.now in
    let i = c.loop-extent.extent-index in
    let devid = (get_or extents i nothing).devid in
    let sum : c.given_at-sum.result ≡ given_of extents devid = c.given_at-sum.ensures ∙ given devid in
    let row : c.new.result ≡ used_row devid 0 (given_of extents devid) =
    c.new.ensures ∙ ap (λ n. found kind.DeviceUsed (devid ∷ 0 ∷ n ∷ [])) (c.shown.ensures ∙ ap shown_sum sum) in
    let tests : c.is_free-is_kept.result ≡ (has_device devices devid || eqb (given_of extents devid) 0) =
    c.is_free-is_kept.ensures ∙ ap (λ n. contains nat_cmp c.args.devids.now devid || eqb n 0) sum
    ∙ ap (λ b. b || eqb (given_of extents devid) 0) (listed devid) in
    adds_row (unstated_used devices extents) extents i nothing c.args.found.now c.loop-extent.found c.put_unless.new.found
    (unless c.is_free-is_kept.result c.new.result) c.loop-extent-test.true
    (unless_same c.is_free-is_kept.result (has_device devices devid || eqb (given_of extents devid) 0) c.new.result
    (used_row devid 0 (given_of extents devid)) tests row)
    (c.loop-extent.invariant devices listed given) c.in_ok-put_unless.ensures

use Rattle.std.proofs.Common.{◌≡◌, ◌+◌, ◌∷◌, [], get_or, None, ap, ◌∙◌, arith}
use Rattle.std.specs.List.{list_any}
use Rattle.btr_findings.specs.declared.kind.Kind.TheVariants as kind
use Rattle.btr_findings.specs.Findings.{unless, found}
use Rattle.btr_findings.specs.declared.extent.Extent.{Extent}
use Rattle.btr_check_space.specs.AddressRanges.{is_held}
use Rattle.btr_check_space.specs.Groups.{lies_in, outside_group}
use Rattle.btr_check_space.specs.Orders.{group_range}
use Rattle.btr_check_space.proofs.Prefixes.{any_map}
use Rattle.btr_check_space.proofs.Put.{adds_row, unless_same}
use Rattle.btr_check_space.proofs.groups.put_outside.Goals as goal

abbrev nothing : Extent
nothing = record { addr = 0; len = 0; refs = 0; flags = 0; level = None }

pub loop-extent-preserved : goal.loop-extent-preserved
loop-extent-preserved c =
    let groups = c.args.groups.now in
    let ranges = c.in_ok-ranges.ranges in
    let extents = c.args.extents.now in
    let i = c.loop-extent.extent-index in
    let extent : Extent = get_or extents i nothing in
    let start : c.from-start.result ≡ extent.addr = c.from-start.ensures in
    let end : c.from-start.result + c.from.result ≡ extent.addr + extent.len = omega arith in
    let tests : c.holds-is_kept.result ≡ list_any (lies_in extent) groups =
    c.holds-is_kept.ensures
    ∙ ap (λ n. list_any (is_held n (c.from-start.result + c.from.result)) ranges) start
    ∙ ap (λ n. list_any (is_held extent.addr n) ranges) end
    ∙ c.in_ok-ranges.ensures extent.addr (extent.addr + extent.len)
    ∙ any_map (is_held extent.addr (extent.addr + extent.len)) group_range groups in
    adds_row (outside_group groups) extents i nothing c.args.found.now c.loop-extent.found c.put_unless.new.found
    (unless c.holds-is_kept.result c.new.result) c.loop-extent-test.true
    (unless_same c.holds-is_kept.result (list_any (lies_in extent) groups) c.new.result
    (found kind.OutsideGroup (extent.addr ∷ extent.len ∷ [])) tests c.new.ensures)
    c.loop-extent.invariant c.in_ok-put_unless.ensures

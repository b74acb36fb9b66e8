use Rattle.std.proofs.Common.{◌≡◌, ◌+◌, suc, ◌<◌, ◌≤◌, ◌∷◌, [], None, List, length, leb, get_or, take, filter_map, zip, sym, ap, ◌∙◌, arith}
use Rattle.std.proofs.lemmas.List.{take_all}
use Rattle.std.proofs.lemmas.Slice.Zip.{get_or-zip}
use Rattle.btr_findings.proofs.Adding.{adds_as}
use Rattle.btr_findings.specs.declared.kind.Kind.TheVariants as kind
use Rattle.btr_findings.specs.Findings.{unless, found}
use Rattle.btr_findings.specs.declared.extent.Extent.{Extent}
use Rattle.btr_check_space.specs.Groups.{neighbours, overlap}
use Rattle.btr_check_space.proofs.Put.{adds_row, unless_same}
use Rattle.btr_check_space.proofs.Elements.{default_free, zip_long, zip_short}
use Rattle.btr_check_space.proofs.groups.put_overlaps.Goals as goal

abbrev nothing : Extent
nothing = record { addr = 0; len = 0; refs = 0; flags = 0; level = None }

pub loop-extent-preserved : goal.loop-extent-preserved
loop-extent-preserved c =
    let rest = c.in-Some.rest.now in
    let all : List Extent = c.in-Some.earlier.now ∷ rest in
    let i = c.loop-extent.extent-index in
    let below : i < length rest = c.loop-extent-test.true in
    let also : i < length all = omega arith in
    let one : i + 1 ≡ suc i = omega arith in
    let extent : Extent = get_or rest i nothing in
    let earlier : c.loop-extent.earlier.now ≡ get_or all i nothing = c.loop-extent.invariant.last nothing in
    let pair : get_or (zip all rest) i (nothing, nothing) ≡ (get_or all i nothing, extent) = get_or-zip all rest i (nothing, nothing) also below in
    let row : c.new.result ≡ found kind.Overlap (extent.addr ∷ (get_or all i nothing).addr ∷ []) =
    c.new.ensures ∙ ap (λ (e : Extent). found kind.Overlap (extent.addr ∷ e.addr ∷ [])) earlier in
    let tests : c.ends_by-is_kept.result ≡ leb ((get_or all i nothing).addr + (get_or all i nothing).len) extent.addr =
    c.ends_by-is_kept.ensures ∙ ap (λ (e : Extent). leb (e.addr + e.len) extent.addr) earlier in
    let rule : unless c.ends_by-is_kept.result c.new.result ≡ overlap (get_or (zip all rest) i (nothing, nothing)) =
    unless_same c.ends_by-is_kept.result (leb ((get_or all i nothing).addr + (get_or all i nothing).len) extent.addr) c.new.result
    (found kind.Overlap (extent.addr ∷ (get_or all i nothing).addr ∷ [])) tests row ∙ ap overlap (sym pair) in
    record {
      last = λ d. default_free rest i nothing d below ∙ ap (λ n. get_or all n d) (sym one);
      found = adds_row overlap (zip all rest) i (nothing, nothing) c.args.found.now c.loop-extent.found c.put_unless.new.found
          (unless c.ends_by-is_kept.result c.new.result) (zip_long all rest i also below) rule c.loop-extent.invariant.found c.in_ok-put_unless.ensures;
    }

pub returns : goal.returns
returns c =
    let rest = c.in-Some.rest.now in
    let all : List Extent = c.in-Some.earlier.now ∷ rest in
    let i = c.loop-extent.extent-index in
    let short : length (zip all rest) ≤ i = omega (arith, zip_short all rest, c.loop-extent-test.false) in
    let whole : take i (zip all rest) ≡ zip all rest = take_all i (zip all rest) short in
    adds_as (filter_map overlap (take i (zip all rest))) (filter_map overlap (neighbours c.args.extents.now)) c.args.found.now c.loop-extent.found
    (ap (filter_map overlap) (whole ∙ ap neighbours (sym c.in-Some.ensures.cases.0)))
    c.loop-extent.invariant.found

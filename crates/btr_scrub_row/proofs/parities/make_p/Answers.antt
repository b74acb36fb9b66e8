use Rattle.std.proofs.Common.{◌+◌, ◌*◌, map, slice_range, sym, ap, ◌∙◌, arith}
use Rattle.btr_scrub_row.proofs.Common.{IsSlice, bytes_of, element_in, parity_by_folding, parity_p, plus, range_with_len}
use Rattle.std.proofs.lemmas.List.FromFn.{map-range_with_len_more}
use Rattle.btr_scrub_row.proofs.Folded.{p_of_one}
use Rattle.btr_scrub_row.proofs.Gathered.{cut_slice}
use Rattle.btr_scrub_row.proofs.parities.make_p.Goals as goal

pub loop-slice-init : goal.loop-slice-init
loop-slice-init c =
    let bytes = c.args.bytes.now in
    let d = slice_range bytes 0 (0 + 65536) in
    let slice : IsSlice 65536 d = cut_slice bytes 0 65536 (bytes_of bytes c.type_inv.bytes) (omega (arith, c.requires.some, c.requires.within)) in
    c.copy_front.ensures ∙ sym (p_of_one 65536 d slice)

pub loop-slice-preserved : goal.loop-slice-preserved
loop-slice-preserved c =
    let bytes = c.args.bytes.now in
    let k = c.loop-slice.slice in
    c.add_front.ensures ∙ ap (λ p. plus p (element_in bytes k)) c.loop-slice.invariant
    ∙ sym (parity_by_folding.p_of_one_more 65536 (map (element_in bytes) (range_with_len 0 k)) (element_in bytes k)
    (cut_slice bytes (k * 65536) 65536 (bytes_of bytes c.type_inv.bytes) (omega (arith, c.loop-slice-test.true, c.requires.within))))
    ∙ ap (parity_p 65536) (sym (map-range_with_len_more (element_in bytes) 0 k k (omega arith)))

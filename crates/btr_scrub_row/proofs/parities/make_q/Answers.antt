use Rattle.std.proofs.Common.{◌≡◌, ℕ, suc, ◌+◌, ◌-◌, ◌*◌, ◌<◌, ◌≤◌, ◌∷◌, List, length, map, refl, sym, ap, ◌∙◌, subst, arith}
use Rattle.btr_scrub_row.proofs.Common.{IsSlice, bytes_of, element_in, parity_by_folding, parity_q, plus, range_with_len}
use Rattle.std.specs.List.{All}
use Rattle.std.proofs.lemmas.List.FromFn.{get_or-map-range_with_len, length-map-range_with_len}
use Rattle.btr_parity.specs.Slices.{scaled}
use Rattle.btr_scrub_row.proofs.Folded.{q_of_one}
use Rattle.btr_scrub_row.proofs.Gathered.{cut_slice}
use Rattle.btr_scrub_row.proofs.parities.make_q.Goals as goal

-- the elements behind a place
elements_are : (bytes : List ℕ) (a n : ℕ) → All (λ b. b < 256) bytes → (a + n) * 65536 ≤ length bytes
    → All (IsSlice 65536) (map (element_in bytes) (range_with_len a n))
elements_are bytes a n all le i d lt =
    let below : i < n = omega (arith, lt, length-map-range_with_len (element_in bytes) a n) in
    subst (IsSlice 65536) (sym (get_or-map-range_with_len (element_in bytes) a n i (a + i) d below refl))
    (cut_slice bytes ((a + i) * 65536) 65536 all (omega (arith, below, le)))

-- one more in front
one_before : (bytes : List ℕ) (a b n : ℕ) → b ≡ a + 1 → map (element_in bytes) (range_with_len a (n + 1))
    ≡ element_in bytes a ∷ map (element_in bytes) (range_with_len b n)
one_before bytes a b n e =
    let more : n + 1 ≡ suc n = omega arith in
    ap (λ m. map (element_in bytes) (range_with_len a m)) more ∙ ap (λ s. element_in bytes a ∷ map (element_in bytes) (range_with_len s n)) (sym e)

pub loop-done-init : goal.loop-done-init
loop-done-init c =
    let bytes = c.args.bytes.now in
    let a = c.args.slices - 1 in
    let d = element_in bytes a in
    let slice : IsSlice 65536 d = cut_slice bytes (a * 65536) 65536 (bytes_of bytes c.type_inv.bytes) (omega (arith, c.requires.some, c.requires.within)) in
    c.copy_front.ensures ∙ sym (q_of_one 65536 d slice)

pub loop-done-preserved : goal.loop-done-preserved
loop-done-preserved c =
    let bytes = c.args.bytes.now in
    let all = bytes_of bytes c.type_inv.bytes in
    let n = c.loop-done.done in
    let a = c.args.slices - 1 - n in
    let b = c.args.slices - n in
    let next : b ≡ a + 1 = omega (arith, c.loop-done-test.true) in
    c.double_front.ensures ∙ ap (λ q. plus (scaled 2 q) (element_in bytes a)) c.loop-done.invariant
    ∙ sym (parity_by_folding.q_of_one_before 65536 (map (element_in bytes) (range_with_len b n)) (element_in bytes a)
    (elements_are bytes b n all (omega (arith, c.loop-done-test.true, c.requires.within)))
    (cut_slice bytes (a * 65536) 65536 all (omega (arith, c.loop-done-test.true, c.requires.within))))
    ∙ ap (parity_q 65536) (sym (one_before bytes a b n next))
    ∙ ap (λ s. parity_q 65536 (map (element_in bytes) (range_with_len s (n + 1)))) (omega (arith, c.loop-done-test.true))

pub returns : goal.returns
returns c =
    let whole : c.loop-done.done ≡ c.args.slices = omega arith in
    let first : c.args.slices - c.loop-done.done ≡ 0 = omega (arith, whole) in
    c.loop-done.invariant ∙ ap (λ a. parity_q 65536 (map (element_in c.args.bytes.now) (range_with_len a c.loop-done.done))) first
    ∙ ap (λ n. parity_q 65536 (map (element_in c.args.bytes.now) (range_with_len 0 n))) whole

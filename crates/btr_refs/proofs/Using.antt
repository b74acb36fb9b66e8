-- Uses, one more at a time.
use Rattle.std.proofs.Common.{◌≡◌, ℕ, suc, ◌+◌, ◌-◌, ◌<◌, List, [], ◌∷◌, ◌++◌, map, take, length, fold, slice_index_or, sym, ap, ◌∙◌, arith}
use Rattle.std.proofs.lemmas.List.{map-append}
use Rattle.std.proofs.lemmas.List.Sums.{fold-append}
use Rattle.std.proofs.Math.Seq.{take-suc}
use Rattle.std.specs.List.{HoldsAt}
use Rattle.btr_items.specs.declared.link.Link.{Link}
use Rattle.btr_node.specs.Block.{KeyPointer}
use Rattle.btr_refs.specs.declared.forward.Origin.{Origin}
use Rattle.btr_refs.specs.Forward.{Use, Tally, block_use, tree_link, child_use, tally_with}

-- a pointer to nothing
none : KeyPointer
none = record { key = record { objectid = 0; kind = 0; offset = 0 }; addr = 0; generation = 0 }

one_more : (i : ℕ) → i + 1 ≡ suc i
one_more i = omega arith

-- the children up to one more are those before it, and then that one
pub child_more : (from : Origin) (level lower : ℕ) (link : Link) (ps : List KeyPointer) (i addr : ℕ) (old now new : Tally) → i < length ps
    → HoldsAt (λ pointer. pointer.addr ≡ addr) ps i → link ≡ tree_link from → lower ≡ level - 1
    → now ≡ fold tally_with old (map (child_use from level) (take i ps)) → new ≡ tally_with now (block_use addr link lower) → new
    ≡ fold tally_with old (map (child_use from level) (take (i + 1) ps))
child_more from level lower link ps i addr old now new below holds links lowers before is =
    let at : KeyPointer = slice_index_or ps i none in
    let done : List Use = map (child_use from level) (take i ps) in
    let taken : map (child_use from level) (take (i + 1) ps) ≡ done ++ (child_use from level at ∷ []) =
    ap (λ n. map (child_use from level) (take n ps)) (one_more i) ∙ ap (map (child_use from level)) (take-suc ps i none below)
    ∙ map-append (child_use from level) (take i ps) (at ∷ []) in
    let same : block_use addr link lower ≡ child_use from level at =
    ap (λ n. block_use n link lower) (sym (holds none)) ∙ ap (λ l. block_use at.addr l lower) links ∙ ap (block_use at.addr (tree_link from)) lowers in
    is ∙ ap (tally_with now) same ∙ ap (λ (u : Tally). tally_with u (child_use from level at)) before
    ∙ sym (fold-append tally_with old done (child_use from level at ∷ []))
    ∙ ap (fold tally_with old) (sym taken)

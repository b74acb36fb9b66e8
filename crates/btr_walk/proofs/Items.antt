-- The items of a leaf in hand, one after another.
use Rattle.std.proofs.Common.{◌≡◌, ℕ, suc, ◌+◌, ◌-◌, ◌<◌, ◌≤◌, List, [], ◌∷◌, length, get_or, take, drop, map, ap, ◌∙◌, arith}
use Rattle.btr_node.specs.Block.{Item, items}
use Rattle.btr_prog.specs.Prog.{Does, first, exec}
use Rattle.btr_walk.specs.Le.{tree_item}
use Rattle.btr_walk.specs.Range.{RangeProg, emit_all}
use Rattle.btr_walk.specs.Reading.{Map}
use Rattle.btr_walk.specs.Scans.{part_items}
use Rattle.btr_walk.proofs.Belows.{drop_at}

take_more : {X : Type 0} (n m : ℕ) (x : X) (xs : List X) → n ≡ suc m → take n (x ∷ xs) ≡ x ∷ take m xs
take_more n m x xs e = ap (λ (k : ℕ). take k (x ∷ xs)) e

-- the next item of a leaf in hand, and those behind it
pub part_next : (addr : ℕ) (block : List ℕ) (next end : ℕ) (d : Item) → next < end → end ≤ length (items block) → part_items addr block next end
    ≡ tree_item addr (get_or (items block) next d) ∷ part_items addr block (next + 1) end
part_next addr block next end d lt le =
    let m : ℕ = end - (next + 1) in
    ap (λ l. map (tree_item addr) (take (end - next) l)) (drop_at (items block) next d (omega (arith, lt, le)))
    ∙ ap (map (tree_item addr)) (take_more (end - next) m (get_or (items block) next d) (drop (next + 1) (items block)) (omega (arith, lt)))

-- no item is left
pub part_none : (addr : ℕ) (block : List ℕ) (next end : ℕ) → end ≤ next → part_items addr block next end ≡ []
part_none addr block next end le = let e : end - next ≡ 0 = omega (arith, le) in ap (λ n. map (tree_item addr) (take n (drop next (items block)))) e

-- so what is to come of a leaf in hand is its next item, and then what is behind it
pub leaf_next : (B : Map) (addr : ℕ) (block : List ℕ) (next end : ℕ) (d : Item) (rest : RangeProg) → next < end → end ≤ length (items block)
    → exec B (emit_all (part_items addr block next end) rest)
    ≡ first (Does (tree_item addr (get_or (items block) next d))) (exec B (emit_all (part_items addr block (next + 1) end) rest))
leaf_next B addr block next end d rest lt le = ap (λ l. exec B (emit_all l rest)) (part_next addr block next end d lt le)

-- a part of a leaf that has no item leaves only the rest
pub leaf_none : (B : Map) (addr : ℕ) (block : List ℕ) (next end : ℕ) (rest : RangeProg) → end ≤ next
    → exec B (emit_all (part_items addr block next end) rest) ≡ exec B rest
leaf_none B addr block next end rest le = ap (λ l. exec B (emit_all l rest)) (part_none addr block next end le)

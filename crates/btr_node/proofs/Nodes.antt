-- What a block holds that is known to be a good one, by its level.
use Rattle.std.proofs.Common.{◌≡◌, ℕ, Bool, true, false, cond, List, Some, None, IsSome, refl, ap, ◌∙◌}
use Rattle.std.proofs.lemmas.Bool.{false≢true}
use Rattle.btr_node.specs.Block.{level_of, items, pointers, is_leaf, is_inner}
use Rattle.btr_node.specs.Node.{node_of}
use Rattle.btr_node.specs.declared.node.Node.{Node}
use Rattle.btr_node.specs.declared.node.Node.TheVariants.{Leaf, Inner}
use Rattle.btr_node.proofs.Leaves.{leaf_level}
use Rattle.btr_node.proofs.Inners.{inner_leaf}

-- where one of two tests gave something and the second failed, the first passed
chosen : (a b : Bool) (x y : Node) → IsSome (cond a (Some x) (cond b (Some y) None)) → b ≡ false → a ≡ true
chosen true b x y h e = refl
chosen false true x y h e = cc
chosen false false x y h e = absurd (false≢true h)

-- where one of two tests gave something and the first failed, the second passed
left : (a b : Bool) (x y : Node) → IsSome (cond a (Some x) (cond b (Some y) None)) → a ≡ false → b ≡ true
left true b x y h e = cc
left false true x y h e = refl
left false false x y h e = absurd (false≢true h)

-- one of level 0 is a good leaf
pub good_leaf : (block : List ℕ) → IsSome (node_of block) → level_of block ≡ 0 → is_leaf block ≡ true
good_leaf block good level = chosen (is_leaf block) (is_inner block) (Leaf (items block)) (Inner (pointers block)) good (inner_leaf block level)

-- and another one a good inner node
pub good_inner : (block : List ℕ) → IsSome (node_of block) → (level_of block ≡ 0 → ⊥) → is_inner block ≡ true
good_inner block good level = left (is_leaf block) (is_inner block) (Leaf (items block)) (Inner (pointers block)) good (leaf_level block level)

-- a good leaf holds its items
pub leaf_is : (block : List ℕ) → is_leaf block ≡ true → node_of block ≡ Some (Leaf (items block))
leaf_is block e = ap (λ b. cond b (Some (Leaf (items block))) (cond (is_inner block) (Some (Inner (pointers block))) None)) e

-- a good inner node holds its pointers
pub inner_is : (block : List ℕ) → is_leaf block ≡ false → is_inner block ≡ true → node_of block ≡ Some (Inner (pointers block))
inner_is block leafless e = ap (λ b. cond b (Some (Leaf (items block))) (cond (is_inner block) (Some (Inner (pointers block))) None)) leafless
    ∙ ap (λ b. cond b (Some (Inner (pointers block))) None) e

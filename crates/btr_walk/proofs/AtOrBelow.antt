-- What a lookup finds is at or below the key that it sought.
use Rattle.std.proofs.Common.{◌≡◌, ℕ, zero, suc, ◌≤◌, List, Option, Some, None, Result, Ok, Err, refl, subst, arith}
use Rattle.std.specs.Option.{option_map}
use Rattle.btr_base.specs.declared.key.Key.{Key}
use Rattle.btr_base.specs.Key.{key_number}
use Rattle.btr_node.specs.Block.{Item}
use Rattle.btr_node.specs.declared.node.Node.{Node}
use Rattle.btr_node.specs.declared.node.Node.TheVariants.{Leaf, Inner}
use Rattle.btr_prog.specs.Prog.{Prog, Run, exec, given}
use Rattle.btr_read.specs.Fate.{Fault}
use Rattle.btr_read.specs.declared.want.Want.{Want}
use Rattle.btr_walk.specs.declared.place.RootPlace.{RootPlace}
use Rattle.btr_walk.specs.declared.block_pointer.BlockPointer.{BlockPointer}
use Rattle.btr_walk.specs.Le.{TreeItem, tree_item, go_down, le, le_at, le_child, le_inner, le_item, le_leaf, root_pointer, want_of}
use Rattle.btr_walk.specs.Reading.{Map}
use Rattle.btr_walk.specs.BlockPointer.{judged}
use Rattle.btr_walk.proofs.Reaching.{found_le}

module _ (B : Map) (key : Key) where
  -- an item that came is at or below the key
  abbrev IsLow : Result (Option TreeItem) Fault → Type 0
  IsLow r = (item : TreeItem) → r ≡ Ok (Some item) → key_number item.key ≤ key_number key

  -- what a lookup finds in a leaf is at or below its key
  leaf_low : (pointer : BlockPointer) (node : Option Node) → IsLow (exec {S = ⊥} B (le_leaf key pointer node)).ending
  leaf_low pointer None item e = absurd (cc e)
  leaf_low pointer (Some (Inner pointers)) item e = absurd (cc e)
  leaf_low pointer (Some (Leaf items)) item e = of (le_item key items) refl item e
    where
      of : (o : Option Item) → le_item key items ≡ o → IsLow (Ok (option_map (tree_item pointer.addr) o))
      of None is i f = absurd (cc f)
      of (Some x) is i f =
          let same : tree_item pointer.addr x ≡ i = cc f in
          subst (λ (t : TreeItem). key_number t.key ≤ key_number key) same (found_le key key (omega arith) items x is)

  -- what a lookup finds below a child, if there is one, is at or below its key, where that holds of each child
  down_low : (k : BlockPointer → Prog Want Fault ⊥ (Option TreeItem)) → ((child : BlockPointer) → IsLow (exec B (k child)).ending) → (o : Option BlockPointer)
      → IsLow (exec B (go_down k o)).ending
  down_low k low None item e = absurd (cc e)
  down_low k low (Some child) item e = low child item e

  -- what a lookup finds in an inner node is at or below its key, where that holds of each child
  inner_low : (k : BlockPointer → Prog Want Fault ⊥ (Option TreeItem)) → ((child : BlockPointer) → IsLow (exec B (k child)).ending) → (pointer : BlockPointer)
      (node : Option Node) → IsLow (exec B (le_inner k key pointer node)).ending
  inner_low k low pointer None item e = absurd (cc e)
  inner_low k low pointer (Some (Leaf items)) item e = absurd (cc e)
  inner_low k low pointer (Some (Inner pointers)) item e = down_low k low (le_child key pointers pointer.up) item e

  -- what comes of a want is at or below the key, where that holds of each block that it may come to
  given_low : (k : List ℕ → Run Want Fault ⊥ (Option TreeItem)) → ((block : List ℕ) → IsLow (k block).ending) → (r : Result (List ℕ) Fault)
      → IsLow (given r k).ending
  given_low k low (Ok block) item e = low block item e
  given_low k low (Err fault) item e = absurd (cc e)

  -- what a lookup finds from a block of any level on down is at or below its key
  at_low : (n : ℕ) (pointer : BlockPointer) → IsLow (exec {S = ⊥} B (le_at n key pointer)).ending
  at_low zero pointer =
      given_low (λ block. exec B (le_leaf key pointer (judged 0 pointer block))) (λ block. leaf_low pointer (judged 0 pointer block)) (B (want_of 0 pointer))
  at_low (suc n) pointer =
      given_low (λ block. exec B (le_inner (le_at n key) key pointer (judged (suc n) pointer block)))
      (λ block. inner_low (le_at n key) (at_low n) pointer (judged (suc n) pointer block)) (B (want_of (suc n) pointer))

  -- the item that a lookup finds is at or below its key
  pub le_low : (root : RootPlace) (item : TreeItem) → (exec {S = ⊥} B (le root key)).ending ≡ Ok (Some item) → key_number item.key ≤ key_number key
  le_low root item e = at_low root.level (root_pointer root) item e

-- Bodies of ROOT_ITEMs.
use Rattle.std.proofs.Common.{◌≡◌, ℕ, Bool, true, false, cond, Option, Some, None, Result, Ok, Err, refl, ◌∙◌}
use Rattle.btr_items.specs.Form.{map_ok}
use Rattle.btr_items.specs.RootItem.{root_item_of}
use Rattle.btr_items.specs.declared.fault.ItemFault.{ItemFault}
use Rattle.btr_items.specs.declared.root_item.RootItem.{RootItem}
use Rattle.btr_prog.specs.Prog.{Return, Stop}
use Rattle.btr_read.specs.Fate as fate
use Rattle.btr_walk.specs.Le.{TreeItem}
use Rattle.btr_volume.specs.Lookup.{Lookup, formed}
use Rattle.btr_volume.specs.Tree.{described, is_root_of}
use Rattle.btr_volume.specs.declared.root.TreeRoot.{TreeRoot}
use Rattle.btr_send.specs.declared.source.Source.{Source}
use Rattle.btr_send.specs.Source.{source_at, source_found}

if_true : {A : Type 0} (b : Bool) (x y : A) → b ≡ true → cond b x y ≡ x
if_true true x y e = refl
if_true false x y e = absurd (cc e)

if_false : {A : Type 0} (b : Bool) (x y : A) → b ≡ false → cond b x y ≡ y
if_false true x y e = absurd (cc e)
if_false false x y e = refl

-- what comes of an item that was found for an id
module _ (item : TreeItem) (id : ℕ) where
  -- the subvolume in the item, by the form of its fields
  abbrev judged : Result RootItem ItemFault → Lookup (Option Source)
  judged fields = formed item fields (λ root. Return (Some (source_at item (described item.key root))))

  -- an item of good form gives its subvolume
  judged_ok : (fields : Result RootItem ItemFault) (root : TreeRoot) → map_ok (described item.key) fields ≡ Ok root
      → judged fields ≡ Return (Some (source_at item root))
  judged_ok (Ok x) root e = cc
  judged_ok (Err x) root e = absurd (cc e)

  -- an item that breaks its form makes its leaf malformed
  judged_err : (fields : Result RootItem ItemFault) (fault : ItemFault) → map_ok (described item.key) fields ≡ Err fault
      → judged fields ≡ Stop (fate.Malformed item.leaf)
  judged_err (Ok x) fault e = absurd (cc e)
  judged_err (Err x) fault e = refl

  -- an item of the id that is of good form gives the subvolume
  pub found_ok : (root : TreeRoot) → is_root_of id item.key ≡ true → map_ok (described item.key) (root_item_of item.body) ≡ Ok root
      → source_found id (Some item) ≡ Return (Some (source_at item root))
  found_ok root is e = if_true (is_root_of id item.key) (judged (root_item_of item.body)) (Return None) is ∙ judged_ok (root_item_of item.body) root e

  -- an item of the id that breaks its form makes its leaf malformed
  pub found_err : (fault : ItemFault) → is_root_of id item.key ≡ true → map_ok (described item.key) (root_item_of item.body) ≡ Err fault
      → source_found id (Some item) ≡ Stop (fate.Malformed item.leaf)
  found_err fault is e = if_true (is_root_of id item.key) (judged (root_item_of item.body)) (Return None) is ∙ judged_err (root_item_of item.body) fault e

  -- an item that isn't of the id gives no subvolume
  pub found_none : is_root_of id item.key ≡ false → source_found id (Some item) ≡ Return None
  found_none is = if_false (is_root_of id item.key) (judged (root_item_of item.body)) (Return None) is

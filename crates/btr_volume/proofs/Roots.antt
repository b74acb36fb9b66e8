-- Bodies of ROOT_ITEMs.
use Rattle.std.proofs.Common.{◌≡◌, ℕ, ◌<◌, Bool, true, false, List, length, Option, Some, None, Result, Ok, Err, refl, sym, ap, ◌∙◌, arith, slice_index}
use Rattle.btr_base.specs.declared.key.Key.{Key}
use Rattle.btr_items.specs.Form.{fields_if, map_ok}
use Rattle.btr_items.specs.RootItem.{is_root_size, root_item_of}
use Rattle.btr_items.specs.declared.fault.ItemFault.{ItemFault}
use Rattle.btr_items.specs.declared.root_item.RootItem.{RootItem}
use Rattle.btr_walk.specs.Le.{TreeItem}
use Rattle.btr_read.specs.Fate as fate
use Rattle.btr_prog.specs.Prog.{Return, Stop}
use Rattle.btr_volume.specs.Lookup.{Lookup, formed}
use Rattle.btr_volume.specs.Tree.{described, is_root_of, root_found}
use Rattle.btr_volume.specs.declared.root.TreeRoot.{TreeRoot}
use Rattle.std.specs.Prelude.{if◌then◌else◌}

-- a test that fields must pass holds where there are fields, and they are these
held : {T : Type 0} (b : Bool) (x y : T) → fields_if b x ≡ Ok y → (b ≡ true) × (x ≡ y)
held true x y e = (refl, cc)
held false x y e = absurd (cc e)

-- a ROOT_ITEM of any size has more than 238 bytes
sized : (n : ℕ) → is_root_size n ≡ true → 238 < n
sized n e = grind arith

-- a ROOT_ITEM has more bytes than that of its level
pub root_long : (body : List ℕ) (root : RootItem) → root_item_of body ≡ Ok root → 238 < length body
root_long body root e = sized (length body) (held (is_root_size (length body)) _ root e).0

-- the level of a ROOT_ITEM is byte 238 of its body
pub root_level : (body : List ℕ) (root : RootItem) → root_item_of body ≡ Ok root → slice_index body 238 ≡ root.level
root_level body root e = ap (λ (r : RootItem). r.level) (held (is_root_size (length body)) _ root e).1

-- the root that a ROOT_ITEM describes, with its level read from the body
pub root_read : (key : Key) (body : List ℕ) (root : RootItem) → root_item_of body ≡ Ok root → map_ok (described key) (root_item_of body) ≡ Ok (record {
  id = key.objectid;
  offset = key.offset;
  place = record { addr = root.bytenr; generation = root.generation; level = slice_index body 238 };
  dirid = root.dirid;
  refs = root.refs;
})
root_read key body root e =
    ap (map_ok (described key)) e
    ∙ ap (λ (level : ℕ). Ok (record {
      id = key.objectid;
      offset = key.offset;
      place = record { addr = root.bytenr; generation = root.generation; level = level };
      dirid =
          root.dirid;
      refs = root.refs;
    })) (sym (root_level body root e))

if_true : {A : Type 0} (b : Bool) (x y : A) → b ≡ true → (if b then x else y) ≡ x
if_true true x y e = refl
if_true false x y e = absurd (cc e)

module _ (item : TreeItem) where
  -- what the fields of a ROOT_ITEM, or their fault, come to for this item
  abbrev judged : Result RootItem ItemFault → Lookup (Option TreeRoot)
  judged fields = formed item fields (λ root. Return (Some (described item.key root)))

  -- fields that describe a root come to this root
  judged_ok : (fields : Result RootItem ItemFault) (root : TreeRoot) → map_ok (described item.key) fields ≡ Ok root → judged fields ≡ Return (Some root)
  judged_ok (Ok x) root e = cc
  judged_ok (Err x) root e = absurd (cc e)

  -- fields that break their form make the item's leaf malformed
  judged_err : (fields : Result RootItem ItemFault) (fault : ItemFault) → map_ok (described item.key) fields ≡ Err fault → judged fields
      ≡ Stop (fate.Malformed item.leaf)
  judged_err (Ok x) fault e = absurd (cc e)
  judged_err (Err x) fault e = refl

  -- what comes of a root that was found for an id
  pub found_ok : (id : ℕ) (root : TreeRoot) → is_root_of id item.key ≡ true → map_ok (described item.key) (root_item_of item.body) ≡ Ok root
      → root_found id (Some item) ≡ Return (Some root)
  found_ok id root is e = if_true (is_root_of id item.key) (judged (root_item_of item.body)) (Return None) is ∙ judged_ok (root_item_of item.body) root e

  -- a ROOT_ITEM that was found for an id and breaks its form makes its leaf malformed
  pub found_err : (id : ℕ) (fault : ItemFault) → is_root_of id item.key ≡ true → map_ok (described item.key) (root_item_of item.body) ≡ Err fault
      → root_found id (Some item) ≡ Stop (fate.Malformed item.leaf)
  found_err id fault is e = if_true (is_root_of id item.key) (judged (root_item_of item.body)) (Return None) is ∙ judged_err (root_item_of item.body) fault e

-- Checksums that are missing.
use Rattle.std.proofs.Common.{◌≡◌, ◌∙◌, ℕ, Bool, true, false, not, cond, eqb, List, [], ◌∷◌, ◌++◌, filter, filter_map, Option, Some, None}
use Rattle.std.proofs.Common.{refl, sym, ap, subst, arith, ◌||◌, bit_and, eqb-true, ne_eqb, true≢false}
use Rattle.std.specs.List.{cons_option, list_any}
use Rattle.std.specs.Result.{result_ok}
use Rattle.btr_chunk.specs.declared.chunk.Chunk.{Chunk}
use Rattle.btr_findings.specs.declared.finding.Finding.{Finding}
use Rattle.btr_items.specs.FileExtent.{file_extent_of}
use Rattle.btr_items.specs.Inode.{inode_of}
use Rattle.btr_items.specs.Types.{extent_data, inode_item, orphan_item}
use Rattle.btr_items.specs.declared.file_extent.FileExtent.{FileExtent}
use Rattle.btr_items.specs.declared.inode.Inode.{Inode}
use Rattle.btr_items.specs.declared.shape.Shape.{Shape}
use Rattle.btr_items.specs.declared.shape.Shape.TheVariants.{Inline, Regular, Prealloc}
use Rattle.btr_items.specs.declared.sum_run.SumRun.{SumRun}
use Rattle.btr_walk.specs.Le.{TreeItem}
use Rattle.btr_check_names.specs.Differences.{inode_of_key, items_of, others}
use Rattle.btr_check_sums.specs.Items.{loose_if, loose_in, used_if, used_in, used_of}
use Rattle.btr_check_sums.specs.Sums.{range_missing, tree_missing, used_missing}
use Rattle.btr_check_sums.specs.declared.used_range.UsedRange.{UsedRange}
use Rattle.btr_check_differences.specs.Law.{MissingLaw}

-- where two lists together are empty, each of them is
pub both_none : {X : Type 0} (xs ys : List X) → xs ++ ys ≡ [] → (xs ≡ []) × (ys ≡ [])
both_none [] ys e = (refl, e)
both_none (x ∷ xs) ys e = cc

-- a number, if there is one, is this one
abbrev IsNumber : ℕ → Option ℕ → Type 0
IsNumber number None = Unit {0}
IsNumber number (Some one) = one ≡ number

-- a range, if there is one, is of this inode
abbrev IsOf : ℕ → Option UsedRange → Type 0
IsOf number None = Unit {0}
IsOf number (Some range) = range.inode ≡ number

-- an item of another type than an orphan's is of the inode of its key
plain_inode : (item : TreeItem) (kind : ℕ) → (kind ≡ orphan_item → ⊥) → eqb item.key.kind kind ≡ true → inode_of_key item.key ≡ item.key.objectid
plain_inode item kind other e =
    let same : item.key.kind ≡ kind = eqb-true _ _ e in
    ap (λ b. cond b item.key.offset item.key.objectid) (ne_eqb item.key.kind orphan_item (λ h. other (sym same ∙ h)))

-- an inode whose data has no checksums, by an item, is the one that the item is of
loose_is : (item : TreeItem) → IsNumber (inode_of_key item.key) (loose_in item)
loose_is item = by (eqb item.key.kind inode_item) refl
  where
    found : (o : Option Inode) → inode_of_key item.key ≡ item.key.objectid → IsNumber (inode_of_key item.key) (loose_if item.key.objectid o)
    found None e = tt
    found (Some inode) e = flag (eqb (bit_and inode.flags 1) 0) e
      where
        flag : (b : Bool) → inode_of_key item.key ≡ item.key.objectid
            → IsNumber (inode_of_key item.key) (cond b None (Some item.key.objectid))
        flag true e = tt
        flag false e = sym e

    by : (b : Bool) → eqb item.key.kind inode_item ≡ b
        → IsNumber (inode_of_key item.key) (cond b (loose_if item.key.objectid (result_ok (inode_of item.body))) None)
    by false e = tt
    by true e = found (result_ok (inode_of item.body)) (plain_inode item inode_item (λ h. absurd (omega (arith, h))) e)

-- a range that a file uses, by an item, is of the inode that the item is of
used_is : (item : TreeItem) → IsOf (inode_of_key item.key) (used_in item)
used_is item = by (eqb item.key.kind extent_data) refl
  where
    shaped : (extent : FileExtent) (shape : Shape) → inode_of_key item.key ≡ item.key.objectid
        → IsOf (inode_of_key item.key) (used_of item.key.objectid extent shape)
    shaped extent (Inline len) e = tt
    shaped extent (Prealloc addr disk_len skip len) e = tt
    shaped extent (Regular addr disk_len skip len) e = two (eqb addr 0) (eqb extent.compression 0) e
      where
        two : (b c : Bool) → inode_of_key item.key ≡ item.key.objectid → IsOf (inode_of_key item.key)
            (cond b None (cond c (Some (record { inode = item.key.objectid; addr = addr; skip = skip; len = len }))
            (Some (record { inode = item.key.objectid; addr = addr; skip = 0; len = disk_len }))))
        two true c e = tt
        two false true e = sym e
        two false false e = sym e

    found : (o : Option FileExtent) → inode_of_key item.key ≡ item.key.objectid → IsOf (inode_of_key item.key) (used_if item.key.objectid o)
    found None e = tt
    found (Some extent) e = shaped extent extent.shape e

    by : (b : Bool) → eqb item.key.kind extent_data ≡ b
        → IsOf (inode_of_key item.key) (cond b (used_if item.key.objectid (result_ok (file_extent_of item.key.offset item.body))) None)
    by false e = tt
    by true e =
        found (result_ok (file_extent_of item.key.offset item.body)) (plain_inode item extent_data (λ h. absurd (omega (arith, h))) e)

-- a number is among some
abbrev has : List ℕ → ℕ → Bool
has numbers number = list_any (λ one. eqb one number) numbers

-- whether an inode of a part of the items is loose the part says
module _ (p : ℕ → Bool) (number : ℕ) (is : p number ≡ true) where
  -- the number of an inode outside of the part is another one
  other_number : (a : ℕ) → p a ≡ false → eqb a number ≡ false
  other_number a aside = ne_eqb a number (λ same. true≢false (sym is ∙ sym (ap p same) ∙ aside))

  -- an item of an inode outside of the part doesn't say that this one has no checksums
  not_this : (o : Option ℕ) (inode : ℕ) (rest : List ℕ) → IsNumber inode o → p inode ≡ false → has (cons_option o rest) number ≡ has rest number
  not_this None inode rest e aside = refl
  not_this (Some one) inode rest e aside = ap (λ b. b || has rest number) (other_number one (ap p e ∙ aside))

  -- two lists that both have a number, or both not, are so with one more in front
  has_then : (o : Option ℕ) (xs ys : List ℕ) → has xs number ≡ has ys number → has (cons_option o xs) number ≡ has (cons_option o ys) number
  has_then None xs ys e = e
  has_then (Some one) xs ys e = ap (λ b. eqb one number || b) e

  -- an inode has no checksums by all items just where it has none by those of the part that it is in
  loose_part : (items : List TreeItem) → has (filter_map loose_in items) number ≡ has (filter_map loose_in (items_of p items)) number
  loose_part [] = refl
  loose_part (item ∷ items) = by (p (inode_of_key item.key)) refl (loose_part items)
    where
      by : (b : Bool) → p (inode_of_key item.key) ≡ b → has (filter_map loose_in items) number ≡ has (filter_map loose_in (items_of p items)) number
          → has (cons_option (loose_in item) (filter_map loose_in items)) number
          ≡ has (filter_map loose_in (cond b (item ∷ items_of p items) (items_of p items))) number
      by true e rest = has_then (loose_in item) (filter_map loose_in items) (filter_map loose_in (items_of p items)) rest
      by false e rest = not_this (loose_in item) (inode_of_key item.key) (filter_map loose_in items) (loose_is item) e ∙ rest

module _ (chunks : List Chunk) (runs : List SumRun) (tree : ℕ) where
  -- the checksums that are missing of a range, if there is one
  abbrev missing : List ℕ → Option UsedRange → List Finding
  missing loose None = []
  missing loose (Some range) = range_missing chunks runs tree loose range

  -- nothing is missing, item by item
  abbrev AllThere : List ℕ → List TreeItem → Type 0
  AllThere loose [] = Unit {0}
  AllThere loose (item ∷ items) = (missing loose (used_in item) ≡ []) × AllThere loose items

  -- what is missing with one more range is what is missing of it, and then of the others
  missing_then : (loose : List ℕ) (o : Option UsedRange) (used : List UsedRange)
      → tree_missing chunks runs tree loose (cons_option o used) ≡ missing loose o ++ tree_missing chunks runs tree loose used
  missing_then loose None used = refl
  missing_then loose (Some range) used = refl

  -- where nothing is missing of all items, nothing is of each one
  each_there : (loose : List ℕ) (items : List TreeItem) → tree_missing chunks runs tree loose (filter_map used_in items) ≡ [] → AllThere loose items
  each_there loose [] e = tt
  each_there loose (item ∷ items) e =
      let two = both_none _ _ (sym (missing_then loose (used_in item) (filter_map used_in items)) ∙ e) in
      (two.0, each_there loose items two.1)

  -- where nothing is missing of each item, nothing is of all
  none_missing : (loose : List ℕ) (items : List TreeItem) → AllThere loose items → tree_missing chunks runs tree loose (filter_map used_in items) ≡ []
  none_missing loose [] h = refl
  none_missing loose (item ∷ items) h =
      missing_then loose (used_in item) (filter_map used_in items) ∙ (λ i. h.0 i ++ none_missing loose items h.1 i)

  -- where nothing is missing of some items, nothing is of a part of them
  there_part : (p : TreeItem → Bool) (loose : List ℕ) (items : List TreeItem) → AllThere loose items → AllThere loose (filter p items)
  there_part p loose [] h = tt
  there_part p loose (item ∷ items) h = by (p item) h.0 (there_part p loose items h.1)
    where
      by : (b : Bool) → missing loose (used_in item) ≡ [] → AllThere loose (filter p items)
          → AllThere loose (cond b (item ∷ filter p items) (filter p items))
      by true e rest = (e, rest)
      by false e rest = rest

  -- where nothing is missing of a part of some items and of the rest, nothing is of all
  there_both : (p : TreeItem → Bool) (loose : List ℕ) (items : List TreeItem) → AllThere loose (filter p items)
      → AllThere loose (filter (λ item. not (p item)) items) → AllThere loose items
  there_both p loose [] h k = tt
  there_both p loose (item ∷ items) h k = by (p item) h k (there_both p loose items)
    where
      by : (b : Bool) → AllThere loose (cond b (item ∷ filter p items) (filter p items))
          → AllThere loose (cond (not b) (item ∷ filter (λ x. not (p x)) items) (filter (λ x. not (p x)) items))
          → (AllThere loose (filter p items) → AllThere loose (filter (λ x. not (p x)) items) → AllThere loose items)
          → (missing loose (used_in item) ≡ []) × AllThere loose items
      by true h k rest = (h.0, rest h.1 k)
      by false h k rest = (k.0, rest h k.1)

  -- what is loose of other inodes doesn't matter to a part
  module _ (p : ℕ → Bool) (loose loose' : List ℕ) (same : (number : ℕ) → p number ≡ true → has loose number ≡ has loose' number) where
    -- of a range of an inode in the part, the same is missing by both lists of inodes without checksums
    missing_same : (o : Option UsedRange) (number : ℕ) → IsOf number o → p number ≡ true → missing loose o ≡ missing loose' o
    missing_same None number e is = refl
    missing_same (Some range) number e is =
        ap (λ b. cond b [] (used_missing chunks runs tree range)) (same range.inode (ap p e ∙ is))

    -- where nothing is missing of the part by one list of inodes without checksums, nothing is by the other
    there_same : (items : List TreeItem) → AllThere loose (items_of p items) → AllThere loose' (items_of p items)
    there_same [] h = tt
    there_same (item ∷ items) h = by (p (inode_of_key item.key)) refl h (there_same items)
      where
        by : (b : Bool) → p (inode_of_key item.key) ≡ b → AllThere loose (cond b (item ∷ items_of p items) (items_of p items))
            → (AllThere loose (items_of p items) → AllThere loose' (items_of p items))
            → AllThere loose' (cond b (item ∷ items_of p items) (items_of p items))
        by true e h rest = (sym (missing_same (used_in item) (inode_of_key item.key) (used_is item) e) ∙ h.0, rest h.1)
        by false e h rest = rest h

-- nothing is missing of a tree where nothing is of its own items, nor of a tree with the same others
pub missing_law : MissingLaw
missing_law chunks runs tree own before after shared one two =
    let loose : List TreeItem → List ℕ = filter_map loose_in in
    let aside = others own in
    let part : (p : ℕ → Bool) (items : List TreeItem) (number : ℕ) → p number ≡ true
    → has (loose items) number ≡ has (loose (items_of p items)) number = λ p items number is. loose_part p number is items in
    let first = there_part chunks runs tree (λ item. aside (inode_of_key item.key)) (loose before) before
    (each_there chunks runs tree (loose before) before one) in
    let second = there_same chunks runs tree aside (loose before) (loose (items_of aside before)) (part aside before) before first in
    let third = subst (λ items. AllThere chunks runs tree (loose items) items) shared second in
    let fourth = there_same chunks runs tree aside (loose (items_of aside after)) (loose after) (λ number is. sym (part aside after number is)) after third in
    let mine = there_same chunks runs tree own (loose (items_of own after)) (loose after) (λ number is. sym (part own after number is)) after
    (each_there chunks runs tree (loose (items_of own after)) (items_of own after) two) in
    none_missing chunks runs tree (loose after) after (there_both chunks runs tree (λ item. own (inode_of_key item.key)) (loose after) after mine fourth)

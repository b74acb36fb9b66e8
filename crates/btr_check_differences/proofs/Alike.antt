-- Two trees that differ by the inodes of some ranges alone.
use Rattle.std.proofs.Common.{◌≡◌, ◌∙◌, ℕ, ◌^◌, ◌-◌, ◌≤◌, Bool, true, false, not, cond, ◌&&◌, ◌||◌, leb, eqb, List, [], ◌∷◌, filter, refl, sym, ap, arith}
use Rattle.std.specs.List.{list_all}
use Rattle.std.proofs.lemmas.Bool.{and_parts, leb-true}
use Rattle.btr_base.specs.Key.{key_le, key_number}
use Rattle.btr_base.specs.declared.key.Key.{Key}
use Rattle.btr_items.specs.Types.{orphan_item}
use Rattle.btr_tour.specs.Tour.{items_met, whole}
use Rattle.btr_walk.specs.Le.{TreeItem}
use Rattle.btr_check_names.specs.Differences.{inode_of_key, items_of, others}
use Rattle.btr_check_differences.specs.declared.inode_range.InodeRange.{InodeRange}
use Rattle.btr_check_differences.specs.Law.{AlikeLaw, is_own, is_plain}
use Rattle.btr_check_differences.specs.Ranges.{high, holds, is_among, items_among, items_beside, low}
use Rattle.btr_check_differences.proofs.Tours.{tours_law}

-- two tests of order agree where each order gives the other
leb_same : (a b c d : ℕ) → (a ≤ b → c ≤ d) → (c ≤ d → a ≤ b) → leb a b ≡ leb c d
leb_same a b c d f g = by (leb a b) (leb c d) refl refl
  where
    no_le : (m n : ℕ) → leb m n ≡ false → m ≤ n → ⊥
    no_le m n e le = grind arith

    by : (x y : Bool) → leb a b ≡ x → leb c d ≡ y → x ≡ y
    by true true e h = refl
    by false false e h = refl
    by true false e h = absurd (no_le c d h (f (leb-true _ _ e)))
    by false true e h = absurd (no_le a b e (g (leb-true _ _ h)))

-- a key of these sizes lies in a range where its inode does
module _ (key : Key) (kind : key.kind ≤ 255) (offset : key.offset ≤ 2 ^ 64 - 1) where
  -- the key is one of a range just where its inode is
  held_same : (range : InodeRange) → holds key range ≡ (leb range.first key.objectid && leb key.objectid range.last)
  held_same range =
      let one : key_le (low range) key ≡ leb range.first key.objectid =
      leb_same (key_number (low range)) (key_number key) range.first key.objectid (λ le. omega (arith, le, kind, offset)) (λ le. omega (arith, le)) in
      let two : key_le key (high range) ≡ leb key.objectid range.last =
      leb_same (key_number key) (key_number (high range)) key.objectid range.last (λ le. omega (arith, le)) (λ le. omega (arith, le, kind, offset)) in
      λ i. one i && two i

  -- the key is one of some ranges just where its inode is
  among_same : (ranges : List InodeRange) → is_among ranges key ≡ is_own ranges key.objectid
  among_same [] = refl
  among_same (range ∷ ranges) = λ i. held_same range i || among_same ranges i

-- of plain items those of some inodes are those whose keys lie in the ranges
module _ (ranges : List InodeRange) where
  -- a plain item is of an inode in the ranges just where its key is one of theirs
  inode_same : (item : TreeItem) → is_plain item ≡ true → is_own ranges (inode_of_key item.key) ≡ is_among ranges item.key
  inode_same item plain =
      let key = item.key in
      let parts = and_parts (not (eqb key.kind orphan_item)) (leb key.kind 255 && leb key.offset (2 ^ 64 - 1)) plain in
      let sizes = and_parts (leb key.kind 255) (leb key.offset (2 ^ 64 - 1)) parts.1 in
      ap (is_own ranges) (ap (λ b. cond b key.offset key.objectid) (not_true (eqb key.kind orphan_item) parts.0))
      ∙ sym (among_same key (leb-true _ _ sizes.0) (leb-true _ _ sizes.1) ranges)
    where
      not_true : (b : Bool) → not b ≡ true → b ≡ false
      not_true true e = cc
      not_true false e = refl

  -- tests that agree on plain items leave the same of such
  filter_same : (p q : TreeItem → Bool) (items : List TreeItem) → ((item : TreeItem) → is_plain item ≡ true → p item ≡ q item)
      → list_all is_plain items ≡ true → filter p items ≡ filter q items
  filter_same p q [] same plain = refl
  filter_same p q (item ∷ items) same plain =
      let parts = and_parts (is_plain item) (list_all is_plain items) plain in
      let rest = filter_same p q items same parts.1 in
      λ i. cond (same item parts.0 i) (item ∷ rest i) (rest i)

  -- plain items of inodes in the ranges are those whose keys are theirs
  own_items : (items : List TreeItem) → list_all is_plain items ≡ true → items_of (is_own ranges) items ≡ items_among ranges items
  own_items items plain = filter_same (λ item. is_own ranges (inode_of_key item.key)) (λ item. is_among ranges item.key) items inode_same plain

  -- plain items of all other inodes are those whose keys are not theirs
  other_items : (items : List TreeItem) → list_all is_plain items ≡ true → items_of (others (is_own ranges)) items ≡ items_beside ranges items
  other_items items plain =
      filter_same (λ item. not (is_own ranges (inode_of_key item.key))) (λ item. not (is_among ranges item.key)) items
      (λ item h. ap not (inode_same item h)) plain

-- what holds of each part of a list holds of all
all_parts : (test own : TreeItem → Bool) (items : List TreeItem) → list_all test (filter own items) ≡ true
    → list_all test (filter (λ item. not (own item)) items) ≡ true → list_all test items ≡ true
all_parts test own [] h k = refl
all_parts test own (item ∷ items) h k = by (own item) h k (all_parts test own items)
  where
    by : (b : Bool) → list_all test (cond b (item ∷ filter own items) (filter own items)) ≡ true
        → list_all test (cond (not b) (item ∷ filter (λ x. not (own x)) items) (filter (λ x. not (own x)) items)) ≡ true
        → (list_all test (filter own items) ≡ true → list_all test (filter (λ x. not (own x)) items) ≡ true → list_all test items ≡ true)
        → (test item && list_all test items) ≡ true
    by true h k rest =
        let parts = and_parts (test item) (list_all test (filter own items)) h in
        let more = rest parts.1 k in λ i. parts.0 i && more i
    by false h k rest =
        let parts = and_parts (test item) (list_all test (filter (λ x. not (own x)) items)) k in
        let more = rest h parts.1 in λ i. parts.0 i && more i

-- what holds of all items holds of a part of them
all_of_part : (test own : TreeItem → Bool) (items : List TreeItem) → list_all test items ≡ true → list_all test (filter own items) ≡ true
all_of_part test own [] h = refl
all_of_part test own (item ∷ items) h =
    let parts = and_parts (test item) (list_all test items) h in
    by (own item) parts.0 (all_of_part test own items parts.1)
  where
    by : (b : Bool) → test item ≡ true → list_all test (filter own items) ≡ true
        → list_all test (cond b (item ∷ filter own items) (filter own items)) ≡ true
    by true e rest = λ i. e i && rest i
    by false e rest = rest

-- tours over the inodes by which two trees differ settle the second tree by the first one
pub alike_law : AlikeLaw
alike_law B dirid level before after old new ranges c =
    let one = items_met (whole B before) in
    let two = items_met (whole B after) in
    let beside : items_beside ranges one ≡ items_beside ranges two =
    ap (items_beside ranges) c.below ∙ c.differ ranges (λ key h. h) ∙ sym (ap (items_beside ranges) c.below_new) in
    let met = tours_law B after ranges c.apart in
    let plain : list_all is_plain two ≡ true =
    all_parts is_plain (λ item. is_among ranges item.key) two (sym (ap (list_all is_plain) met) ∙ c.plain_new)
    (ap (list_all is_plain) (sym beside) ∙ all_of_part is_plain (λ item. not (is_among ranges item.key)) one c.plain) in
    record {
      settles = record {
        shared = other_items ranges one c.plain ∙ beside ∙ sym (other_items ranges two plain);
        ours_met = met ∙ sym (own_items ranges two plain);
        theirs_met = tours_law B before ranges c.apart ∙ sym (own_items ranges one c.plain);
        whole = c.whole_new;
        paired = c.paired;
      };
      plain = plain;
    }

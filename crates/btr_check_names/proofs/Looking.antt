-- Looking up in sets that are made of lists.
use Rattle.std.proofs.Common.{◌≡◌, ◌==◌, ℕ, ◌+◌, ◌<◌, Bool, true, false, cond, ◌||◌, ◌&&◌, List, ◌∷◌, length, map, filter, take, get_or, refl, sym, ap, ◌∙◌}
use Rattle.std.proofs.Common.{arith}
use Rattle.std.proofs.lemmas.Bool.Decides.{nat_tests}
use Rattle.std.proofs.lemmas.List.Folds.{list_any_more}
use Rattle.std.proofs.lemmas.Map.Text.{is_eq-slice_cmp}
use Rattle.std.specs.BTreeMap.{is_at}
use Rattle.std.specs.BTreeSet.{BTreeSet, contains}
use Rattle.std.specs.Cmp.{eq_by_cmp_equiv}
use Rattle.std.specs.Cmp.Lexicographic.{slice_cmp, nat_list_cmp_total}
use Rattle.std.specs.List.{list_any}
use Rattle.std.specs.Ordering.{is_eq, nat_cmp, ordering_then}
use Rattle.std.specs.Str.{bytes_eq}
use Rattle.std.specs.declared.cmp.Ordering.{Ordering}
use Rattle.std.specs.declared.cmp.Ordering.TheVariants.{Less, Equal, Greater}
use Rattle.btr_check_names.specs.declared.dir_entry.DirEntry.{DirEntry}
use Rattle.btr_check_names.specs.declared.dir_entry.Target.{Target}
use Rattle.btr_check_names.specs.declared.link_name.LinkName.{LinkName}
use Rattle.btr_check_names.specs.declared.mode_at.ModeAt.{ModeAt}
use Rattle.btr_check_names.specs.Entry.{Entry, entry_of, ref_of, location_of}
use Rattle.btr_check_names.specs.Names.{is_entry, same_location, same_ref, leads_to_inode, ref_to, asked}
use Rattle.btr_check_names.specs.Sets.{target_cmp, entry_cmp, link_cmp, mode_cmp}
use Rattle.btr_check_names.specs.Subvolume.{name_of}
use Rattle.btr_check_names.specs.Subvolumes.{name_cmp, same_name as same_subvolume}
use Rattle.btr_check_names.specs.declared.subvolume_name.SubvolumeName.{SubvolumeName}

or_moves : (a b c : Bool) → (cond a true b || c) ≡ (b || (a || c))
or_moves true true c = refl
or_moves true false c = refl
or_moves false b c = refl

or_last : (a b : Bool) → cond a true b ≡ (b || a)
or_last true true = refl
or_last true false = refl
or_last false true = refl
or_last false false = refl

-- a set of what a list has, one more at a time: whatever key is put for an element is met where that element is
module _ {K X : Type 0} (cmp : K → K → Ordering) (is : K → X → Bool) where
  -- what a set and the rest of a list have together stays the same as the first of the rest is put in the set
  pub set_more : (old new : BTreeSet K) (key : K) (first : X) (rest left : List X) (all : K → Bool)
      → ((q : K) → contains cmp new q ≡ cond (is_at (cmp key) q) true (contains cmp old q)) → left ≡ first ∷ rest
      → ((q : K) → is_eq (cmp key q) ≡ is q first) → ((q : K) → (contains cmp old q || list_any (is q) left) ≡ all q) → (q : K)
      → (contains cmp new q || list_any (is q) rest) ≡ all q
  set_more old new key first rest left all put split alike before q =
      ap (λ b. b || list_any (is q) rest) (put q) ∙ or_moves (is_eq (cmp key q)) (contains cmp old q) (list_any (is q) rest)
      ∙ ap (λ b. contains cmp old q || (b || list_any (is q) rest)) (alike q)
      ∙ ap (λ l. contains cmp old q || list_any (is q) l) (sym split) ∙ before q

  -- the same, by the index of the element
  pub set_next : (old new : BTreeSet K) (key : K) (xs : List X) (n : ℕ) (d : X) → n < length xs
      → ((q : K) → contains cmp new q ≡ cond (is_at (cmp key) q) true (contains cmp old q))
      → ((q : K) → is_eq (cmp key q) ≡ is q (get_or xs n d)) → ((q : K) → contains cmp old q ≡ list_any (is q) (take n xs)) → (q : K)
      → contains cmp new q ≡ list_any (is q) (take (n + 1) xs)
  set_next old new key xs n d below put alike before q =
      put q ∙ or_last (is_eq (cmp key q)) (contains cmp old q) ∙ ap (λ b. b || is_eq (cmp key q)) (before q)
      ∙ ap (λ b. list_any (is q) (take n xs) || b) (alike q) ∙ sym (list_any_more (is q) xs n d below)

-- keys that compare as equal say the same
pub is_eq-then : (a b : Ordering) → is_eq (ordering_then a b) ≡ (is_eq a && is_eq b)
is_eq-then Less b = refl
is_eq-then Equal b = refl
is_eq-then Greater b = refl

-- numbers compare as equal just where they are equal
pub same_number : (x y : ℕ) → is_eq (nat_cmp x y) ≡ (y == x)
same_number x y = grind (arith, nat_tests)

-- names compare as equal just where their bytes are equal
same_name : (xs ys : List ℕ) → is_eq (slice_cmp nat_cmp xs ys) ≡ bytes_eq ys xs
same_name xs ys = (eq_by_cmp_equiv nat_list_cmp_total).symm xs ys ∙ is_eq-slice_cmp ys xs

and_nested : (a b c : Bool) → (a && (b && c)) ≡ ((a && b) && c)
and_nested true b c = refl
and_nested false b c = refl

-- the tests on an entry's fields, in the order of a comparison and in that of a look-up
and_order : (d o l k n : Bool) → (d && (o && (l && (k && n)))) ≡ (o && (((d && l) && k) && n))
and_order true true true k n = refl
and_order true true false k n = refl
and_order true false l k n = refl
and_order false true l k n = refl
and_order false false l k n = refl

-- targets compare as equal just where they are the same location
target-alike : (a b : Target) → is_eq (target_cmp a b) ≡ same_location (location_of b) (location_of a)
target-alike a b =
    let objectid = same_number a.objectid b.objectid in
    let kind = same_number a.kind b.kind in
    let offset = same_number a.offset b.offset in
    is_eq-then (nat_cmp a.objectid b.objectid) (ordering_then (nat_cmp a.kind b.kind) (nat_cmp a.offset b.offset))
    ∙ ap (λ r. is_eq (nat_cmp a.objectid b.objectid) && r) (is_eq-then (nat_cmp a.kind b.kind) (nat_cmp a.offset b.offset))
    ∙ (λ i. objectid i && (kind i && offset i))
    ∙ and_nested (b.objectid == a.objectid) (b.kind == a.kind) (b.offset == a.offset)

-- entries compare as equal just where they lead to the same by one name and stand at one place
pub entry-alike : (a b : DirEntry) → is_eq (entry_cmp a b) ≡ is_entry (entry_of b) (entry_of a)
entry-alike a b =
    let dir = same_number a.dir b.dir in
    let offset = same_number a.offset b.offset in
    let target = target-alike a.target b.target in
    let kind = same_number a.kind b.kind in
    let name = same_name a.name.now b.name.now in
    let named : Ordering = ordering_then (nat_cmp a.kind b.kind) (slice_cmp nat_cmp a.name.now b.name.now) in
    let leading : Ordering = ordering_then (target_cmp a.target b.target) named in
    let placed : Ordering = ordering_then (nat_cmp a.offset b.offset) leading in
    is_eq-then (nat_cmp a.dir b.dir) placed
    ∙ ap (λ r. is_eq (nat_cmp a.dir b.dir) && r) (is_eq-then (nat_cmp a.offset b.offset) leading
    ∙ ap (λ r. is_eq (nat_cmp a.offset b.offset) && r) (is_eq-then (target_cmp a.target b.target) named
    ∙ ap (λ r. is_eq (target_cmp a.target b.target) && r) (is_eq-then (nat_cmp a.kind b.kind) (slice_cmp nat_cmp a.name.now b.name.now))))
    ∙ (λ i. dir i && (offset i && (target i && (kind i && name i))))
    ∙ and_order (b.dir == a.dir) (b.offset == a.offset) (same_location (location_of b.target) (location_of a.target)) (b.kind == a.kind)
    (bytes_eq b.name.now a.name.now)

-- references compare as equal just where they are the same
pub link-alike : (a b : LinkName) → is_eq (link_cmp a b) ≡ same_ref (ref_of b) (ref_of a)
link-alike a b =
    let inode = same_number a.inode b.inode in
    let parent = same_number a.parent b.parent in
    let index = same_number a.index b.index in
    let name = same_name a.name.now b.name.now in
    let named : Ordering = ordering_then (nat_cmp a.index b.index) (slice_cmp nat_cmp a.name.now b.name.now) in
    is_eq-then (nat_cmp a.inode b.inode) (ordering_then (nat_cmp a.parent b.parent) named)
    ∙ ap (λ r. is_eq (nat_cmp a.inode b.inode) && r) (is_eq-then (nat_cmp a.parent b.parent) named
    ∙ ap (λ r. is_eq (nat_cmp a.parent b.parent) && r) (is_eq-then (nat_cmp a.index b.index) (slice_cmp nat_cmp a.name.now b.name.now)))
    ∙ (λ i. inode i && (parent i && (index i && name i)))
    ∙ and_nested (b.inode == a.inode) (b.parent == a.parent) ((b.index == a.index) && bytes_eq b.name.now a.name.now)
    ∙ and_nested ((b.inode == a.inode) && (b.parent == a.parent)) (b.index == a.index) (bytes_eq b.name.now a.name.now)

-- modes compare as equal just where the inodes' numbers and their kinds are equal
pub mode-alike : (a b : ModeAt) → is_eq (mode_cmp a b) ≡ ((b.number == a.number) && (b.format == a.format))
mode-alike a b =
    let number = same_number a.number b.number in
    let format = same_number a.format b.format in
    is_eq-then (nat_cmp a.number b.number) (nat_cmp a.format b.format) ∙ (λ i. number i && format i)

-- an entry that leads to an inode asks for its reference
pub asked-first : (entry : Entry) (rest : List Entry) → leads_to_inode entry ≡ true → asked (entry ∷ rest) ≡ ref_to entry ∷ asked rest
asked-first entry rest leads = ap (λ b. map ref_to (cond b (entry ∷ filter leads_to_inode rest) (filter leads_to_inode rest))) leads

-- names of subvolumes compare as equal just where they are the same
pub subvolume-alike : (a b : SubvolumeName) → is_eq (name_cmp a b) ≡ same_subvolume (name_of b) (name_of a)
subvolume-alike a b =
    let parent = same_number a.parent b.parent in
    let dirid = same_number a.dirid b.dirid in
    let index = same_number a.index b.index in
    let child = same_number a.child b.child in
    let name = same_name a.name.now b.name.now in
    let named : Ordering = ordering_then (nat_cmp a.child b.child) (slice_cmp nat_cmp a.name.now b.name.now) in
    let placed : Ordering = ordering_then (nat_cmp a.index b.index) named in
    is_eq-then (nat_cmp a.parent b.parent) (ordering_then (nat_cmp a.dirid b.dirid) placed)
    ∙ ap (λ r. is_eq (nat_cmp a.parent b.parent) && r) (is_eq-then (nat_cmp a.dirid b.dirid) placed
    ∙ ap (λ r. is_eq (nat_cmp a.dirid b.dirid) && r) (is_eq-then (nat_cmp a.index b.index) named
    ∙ ap (λ r. is_eq (nat_cmp a.index b.index) && r) (is_eq-then (nat_cmp a.child b.child) (slice_cmp nat_cmp a.name.now b.name.now))))
    ∙ (λ i. parent i && (dirid i && (index i && (child i && name i))))
    ∙ and_nested (b.parent == a.parent) (b.dirid == a.dirid) ((b.index == a.index) && ((b.child == a.child) && bytes_eq b.name.now a.name.now))
    ∙ and_nested ((b.parent == a.parent) && (b.dirid == a.dirid)) (b.index == a.index) ((b.child == a.child) && bytes_eq b.name.now a.name.now)
    ∙ and_nested (((b.parent == a.parent) && (b.dirid == a.dirid)) && (b.index == a.index)) (b.child == a.child) (bytes_eq b.name.now a.name.now)

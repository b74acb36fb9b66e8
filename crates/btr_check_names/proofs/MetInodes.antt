-- Inodes, one after another, and what is counted of each one's items.
use Rattle.std.proofs.Common.{◌≡◌, ℕ, ◌+◌, ◌*◌, ◌≤◌, ◌<◌, Bool, true, false, not, cond, if◌then◌else◌, ◌==◌, ◌&&◌, ◌||◌, ◌⊎◌, nat_le, List, [], ◌∷◌, ◌++◌}
use Rattle.std.proofs.Common.{length, All, Option, Some, None, inl, inr, refl, sym, ap, ◌∙◌, subst, true≢false, eqb-true, eq-eqb, ne_eqb, leb-false}
use Rattle.std.proofs.Common.{lt_trans, add-zero, arith}
use Rattle.std.proofs.lemmas.List.Elements.{All-nil, All-push, All-weaker, recursion_from_All}
use Rattle.std.proofs.lemmas.List.Folds.{list_any-append, list_any_none}
use Rattle.std.proofs.lemmas.List.Sums.{sum_by_push}
use Rattle.std.specs.List.{AllByRecursion, list_any}
use Rattle.std.specs.BTreeMap.{is_at}
use Rattle.std.specs.BTreeSet.{insert_key}
use Rattle.std.specs.Ordering.{is_eq, nat_cmp, match_ordering}
use Rattle.std.specs.Set.{remove_key}
use Rattle.std.specs.declared.cmp.Ordering.{Ordering}
use Rattle.std.specs.declared.cmp.Ordering.TheVariants.{Less, Equal, Greater}
use Rattle.btr_check_names.specs.declared.current.Current.{Current}
use Rattle.btr_check_names.specs.declared.inode_at.InodeAt.{InodeAt}
use Rattle.btr_check_names.specs.Entry.{Entry, NameRef}
use Rattle.btr_check_names.specs.Halves.{format_at, is_gone_in}
use Rattle.btr_check_names.specs.Inodes.{Inodes, begun_with, is_counted, last_counted, last_format, may_follow, is_gone, is_last, last_linked, last_named}
use Rattle.btr_check_names.specs.Inodes.{with_unlinked, are_settled}
use Rattle.btr_check_names.specs.Names.{Names, format_of, is_among, is_unlinked, links_of, names_size, orphan_kept}
use Rattle.btr_check_names.specs.Settled.{counted_in}
use Rattle.btr_check_names.proofs.Claims.{number_is}
use Rattle.btr_check_names.proofs.Counting.{is_not, or_left, or_right, sum_none}
use Rattle.btr_check_names.proofs.Claims.{two_hold}
use Rattle.btr_findings.proofs.Adding.{or_none}

-- names with some more of each
abbrev pub add_inodes : Names → List InodeAt → Names
add_inodes n more = record n { inodes = n.inodes ++ more }

-- names with some more entries at indexes
abbrev pub add_indexed : Names → List Entry → Names
add_indexed n more = record n { indexed = n.indexed ++ more }

-- names with some more entries under hashes
abbrev pub add_hashed : Names → List Entry → Names
add_hashed n more = record n { hashed = n.hashed ++ more }

-- names with some more references
abbrev pub add_refs : Names → List NameRef → Names
add_refs n more = record n { refs = n.refs ++ more }

-- names without any orphans
abbrev pub without_orphans : Names → Names
without_orphans n = record n { orphans = [] }

-- names with some more orphans
abbrev pub add_orphans : Names → List ℕ → Names
add_orphans n more = record n { orphans = n.orphans ++ more }

-- an inode of a lower number, which states what there is of it
abbrev IsBefore : ℕ → Names → InodeAt → Type 0
IsBefore number names at = (at.number < number) × (is_counted (counted_in names at) ≡ true)

-- all that names say is of inodes below a number
pub record AreBelow (number : ℕ) (names : Names) : Type 0 where
  pub indexed : All (λ (e : Entry). e.dir < number) names.indexed
  pub hashed : All (λ (e : Entry). e.dir < number) names.hashed
  pub refs : All (λ (r : NameRef). r.inode < number) names.refs

-- the last inode: those before it have lower numbers and state what there is of them; of higher ones
-- there is nothing, and of it what was counted
pub record IsLast (current : Current) (names : Names) : Type 0 where
  pub front : List InodeAt
  pub is : names.inodes ≡ front ++ current.at ∷ []
  pub before : All (IsBefore current.at.number names) front
  pub none_above : AreBelow (current.at.number + 1) names
  pub links : current.links ≡ links_of names.refs current.at.number
  pub lengths : current.names ≡ names_size names.indexed current.at.number

-- before the first inode there is nothing
pub record NothingYet (names : Names) : Type 0 where
  pub inodes : names.inodes ≡ []
  pub indexed : names.indexed ≡ []
  pub hashed : names.hashed ≡ []
  pub refs : names.refs ≡ []

-- the names so far, by the last inode, if one came
abbrev pub LastMet : Option Current → Names → Type 0
LastMet None names = NothingYet names
LastMet (Some current) names = IsLast current names

-- a number is one of these
abbrev pub IsIn : List ℕ → ℕ → Type 0
IsIn [] n = ⊥
IsIn (x ∷ xs) n = (x ≡ n) ⊎ IsIn xs n

-- an inode has links, or waits for an orphan item, or has one
abbrev pub IsKept : List ℕ → List ℕ → InodeAt → Type 0
IsKept unlinked orphans at = ((at.inode.nlink == 0) ≡ false) ⊎ (IsIn unlinked at.number ⊎ (is_among orphans at.number ≡ true))

below_from : (a b : ℕ) → not (nat_le b a) ≡ true → a < b
below_from a b h = grind (arith, leb-false)

above_number : (a b : ℕ) → a < b → (b == a) ≡ false
above_number a b below = ne_eqb b a (λ same. absurd (omega arith))

below_number : (a b : ℕ) → a < b → (a == b) ≡ false
below_number a b below = ne_eqb a b (λ same. absurd (omega arith))

-- where all is of inodes below a number, it is so of a higher number too
below_more : (a b : ℕ) (names : Names) → a ≤ b → AreBelow a names → AreBelow b names
below_more a b names more below = record {
  indexed = All-weaker (λ (e : Entry). e.dir < a) (λ e. e.dir < b) (λ e h. omega arith) names.indexed below.indexed;
  hashed = All-weaker (λ (e : Entry). e.dir < a) (λ e. e.dir < b) (λ e h. omega arith) names.hashed below.hashed;
  refs = All-weaker (λ (r : NameRef). r.inode < a) (λ r. r.inode < b) (λ r h. omega arith) names.refs below.refs;
}

-- all that came is of inodes below the one that comes
pub below_next : (last : Option Current) (names : Names) (number : ℕ) → may_follow last number ≡ true → LastMet last names → AreBelow number names
below_next None names number may nothing =
    let entry : Entry → Type 0 = λ e. e.dir < number in
    let ref : NameRef → Type 0 = λ r. r.inode < number in
    record {
      indexed = subst (All entry) (sym nothing.indexed) (All-nil entry);
      hashed = subst (All entry) (sym nothing.hashed) (All-nil entry);
      refs = subst (All ref) (sym nothing.refs) (All-nil ref);
    }
below_next (Some current) names number may here =
    let below = below_from current.at.number number (two_hold (not (nat_le number current.at.number)) (is_counted current) may).0 in
    below_more (current.at.number + 1) number names (omega arith) here.none_above

-- an inode comes behind the last one
pub inode_comes : (last : Option Current) (at : InodeAt) (names : Names) → may_follow last at.number ≡ true → LastMet last names
    → LastMet (Some (begun_with at)) (add_inodes names (at ∷ []))
inode_comes last at names may here =
    let below = below_next last names at.number may here in
    let number = at.number in
    record {
      front = names.inodes;
      is = refl;
      before = all_before last here may;
      none_above = below_more number (number + 1) (add_inodes names (at ∷ [])) (omega arith)
          (record { indexed = below.indexed; hashed = below.hashed; refs = below.refs });
      links = sym (sum_none (λ (r : NameRef). cond (r.inode == number) 1 0) names.refs
          (All-weaker (λ (r : NameRef). r.inode < number) (λ r. ◌≡◌ {A = ℕ} (cond (r.inode == number) 1 0) 0)
          (λ r h. ap (λ b. cond b 1 0) (below_number r.inode number h)) names.refs below.refs));
      lengths = sym (sum_none (λ (e : Entry). cond (e.dir == number) (2 * length e.name) 0) names.indexed
          (All-weaker (λ (e : Entry). e.dir < number) (λ e. cond (e.dir == number) (2 * length e.name) 0 ≡ 0)
          (λ e h. ap (λ b. cond b (2 * length e.name) 0) (below_number e.dir number h)) names.indexed below.indexed));
    }
  where
    -- the inodes so far have lower numbers than the one that comes, and state what there is of them
    all_before : (o : Option Current) → LastMet o names → may_follow o at.number ≡ true → All (IsBefore at.number names) names.inodes
    all_before None nothing may = subst (All (IsBefore at.number names)) (sym nothing.inodes) (All-nil (IsBefore at.number names))
    all_before (Some current) here may =
        let two = two_hold (not (nat_le at.number current.at.number)) (is_counted current) may in
        let under = below_from current.at.number at.number two.0 in
        subst (All (IsBefore at.number names)) (sym here.is)
        (All-push (IsBefore at.number names) here.front current.at
        (All-weaker (IsBefore current.at.number names) (IsBefore at.number names) (λ one h. (lt_trans h.0 under, h.1)) here.front here.before)
        (under, (λ i. is_counted (record { at = current.at; links = sym here.links i; names = sym here.lengths i })) ∙ two.1))

-- a reference of the last inode comes
pub ref_comes : (last : Option Current) (ref : NameRef) (names : Names) → is_last ref.inode last ≡ true → LastMet last names
    → LastMet (last_linked last) (add_refs names (ref ∷ []))
ref_comes None ref names is nothing = absurd (true≢false (sym is))
ref_comes (Some current) ref names is here =
    let same : current.at.number ≡ ref.inode = eqb-true current.at.number ref.inode is in
    let more : (n : ℕ) → links_of (names.refs ++ ref ∷ []) n ≡ links_of names.refs n + cond (ref.inode == n) 1 0 =
    λ n. sum_by_push (λ (r : NameRef). cond (r.inode == n) 1 0) names.refs ref in
    let other : (n : ℕ) → (ref.inode == n) ≡ false → links_of (names.refs ++ ref ∷ []) n ≡ links_of names.refs n =
    λ n h. more n ∙ ap (λ b. links_of names.refs n + cond b 1 0) h ∙ add-zero (links_of names.refs n) in
    record {
      front = here.front;
      is = here.is;
      before = All-weaker (IsBefore current.at.number names) (IsBefore current.at.number (add_refs names (ref ∷ [])))
          (λ one h. (
            h.0,
            ap (λ n. is_counted (record { at = one; links = n; names = names_size names.indexed one.number }))
                (other one.number (above_number one.number ref.inode (subst (λ m. one.number < m) same h.0))) ∙ h.1,
          )) here.front here.before;
      none_above = record {
        indexed = here.none_above.indexed;
        hashed = here.none_above.hashed;
        refs = All-push (λ (r : NameRef). r.inode < current.at.number + 1) names.refs ref here.none_above.refs (omega arith);
      };
      links = ap (λ n. n + 1) here.links ∙ sym (more current.at.number
          ∙ ap (λ b. links_of names.refs current.at.number + cond b 1 0) (eq-eqb ref.inode current.at.number (sym same)));
      lengths = here.lengths;
    }

-- an entry at an index comes, of the last inode
pub name_comes : (last : Option Current) (entry : Entry) (names : Names) → is_last entry.dir last ≡ true → LastMet last names
    → LastMet (last_named last entry.name) (add_indexed names (entry ∷ []))
name_comes None entry names is nothing = absurd (true≢false (sym is))
name_comes (Some current) entry names is here =
    let same : current.at.number ≡ entry.dir = eqb-true current.at.number entry.dir is in
    let long = 2 * length entry.name in
    let more : (n : ℕ) → names_size (names.indexed ++ entry ∷ []) n ≡ names_size names.indexed n + cond (entry.dir == n) (2 * length entry.name) 0 =
    λ n. sum_by_push (λ (e : Entry). cond (e.dir == n) (2 * length e.name) 0) names.indexed entry in
    let other : (n : ℕ) → (entry.dir == n) ≡ false → names_size (names.indexed ++ entry ∷ []) n ≡ names_size names.indexed n =
    λ n h. more n ∙ ap (λ b. names_size names.indexed n + cond b (2 * length entry.name) 0) h ∙ add-zero (names_size names.indexed n) in
    record {
      front = here.front;
      is = here.is;
      before = All-weaker (IsBefore current.at.number names) (IsBefore current.at.number (add_indexed names (entry ∷ [])))
          (λ one h. (
            h.0,
            ap (λ n. is_counted (record { at = one; links = links_of names.refs one.number; names = n }))
                (other one.number (above_number one.number entry.dir (subst (λ m. one.number < m) same h.0))) ∙ h.1,
          )) here.front here.before;
      none_above = record {
        indexed = All-push (λ (e : Entry). e.dir < current.at.number + 1) names.indexed entry here.none_above.indexed (omega arith);
        hashed = here.none_above.hashed;
        refs = here.none_above.refs;
      };
      links = here.links;
      lengths = ap (λ n. n + long) here.lengths ∙ sym (more current.at.number
          ∙ ap (λ b. names_size names.indexed current.at.number + cond b long 0) (eq-eqb entry.dir current.at.number (sym same)));
    }

-- an entry under a hash comes, of the last inode
pub hash_comes : (last : Option Current) (entry : Entry) (names : Names) → is_last entry.dir last ≡ true → LastMet last names
    → LastMet last (add_hashed names (entry ∷ []))
hash_comes None entry names is nothing = absurd (true≢false (sym is))
hash_comes (Some current) entry names is here =
    let same : current.at.number ≡ entry.dir = eqb-true current.at.number entry.dir is in
    record {
      front = here.front;
      is = here.is;
      before = here.before;
      none_above = record {
        indexed = here.none_above.indexed;
        hashed = All-push (λ (e : Entry). e.dir < current.at.number + 1) names.hashed entry here.none_above.hashed (omega arith);
        refs = here.none_above.refs;
      };
      links = here.links;
      lengths = here.lengths;
    }

-- at the end each inode states what there is of it
pub all_counted : (last : Option Current) (names : Names) → last_counted last ≡ true → LastMet last names
    → All (λ at. is_counted (counted_in names at) ≡ true) names.inodes
all_counted None names counted nothing =
    let P : InodeAt → Type 0 = λ at. is_counted (counted_in names at) ≡ true in
    subst (All P) (sym nothing.inodes) (All-nil P)
all_counted (Some current) names counted here =
    let P : InodeAt → Type 0 = λ at. is_counted (counted_in names at) ≡ true in
    subst (All P) (sym here.is)
    (All-push P here.front current.at (All-weaker (IsBefore current.at.number names) P (λ one h. h.1) here.front here.before)
    ((λ i. is_counted (record { at = current.at; links = sym here.links i; names = sym here.lengths i })) ∙ counted))

-- the kind in the mode of the last of some inodes, and of those before one more
format_last : (front : List InodeAt) (at : InodeAt) → AllByRecursion (λ (one : InodeAt). one.number < at.number) front
    → format_at (front ++ at ∷ []) at.number ≡ format_of at.inode
format_last [] at all = ap (λ b. if b then format_of at.inode else 0) (eq-eqb at.number at.number refl)
format_last (x ∷ xs) at all =
    ap (λ b. if b then format_of x.inode else format_at (xs ++ at ∷ []) at.number) (below_number x.number at.number all.0) ∙ format_last xs at all.1

-- one more inode behind the others doesn't change the kind in the mode of a lower one
pub format_before : (inodes : List InodeAt) (at : InodeAt) (n : ℕ) → n < at.number → format_at (inodes ++ at ∷ []) n ≡ format_at inodes n
format_before [] at n below = ap (λ b. if b then format_of at.inode else 0) (above_number n at.number below)
format_before (x ∷ xs) at n below = ap (λ f. if x.number == n then format_of x.inode else f) (format_before xs at n below)

-- a directory below one more inode is gone where it was
pub gone_before : (inodes : List InodeAt) (at : InodeAt) (dir : ℕ) → dir < at.number → is_gone_in (inodes ++ at ∷ []) dir ≡ is_gone_in inodes dir
gone_before inodes at dir below =
    list_any-append (λ (one : InodeAt). (one.number == dir) && is_unlinked one) inodes (at ∷ [])
    ∙ ap (λ b. is_gone_in inodes dir || ((b && is_unlinked at) || false)) (above_number dir at.number below) ∙ or_none (is_gone_in inodes dir)

-- what is said of the last inode is so among all
pub format_there : (last : Option Current) (names : Names) (number : ℕ) → is_last number last ≡ true → LastMet last names
    → last_format last ≡ format_at names.inodes number
format_there None names number is nothing = absurd (true≢false (sym is))
format_there (Some current) names number is here =
    let below : AllByRecursion (λ (one : InodeAt). one.number < current.at.number) here.front = recursion_from_All
    (λ (one : InodeAt). one.number < current.at.number) here.front (All-weaker (IsBefore current.at.number names)
    (λ one. one.number < current.at.number) (λ one h. h.0) here.front here.before) in
    sym ((λ i. format_at (here.is i) (sym (eqb-true current.at.number number is) i)) ∙ format_last here.front current.at below)

-- the last inode is a directory without links just where there is one of its number among all inodes
pub gone_there : (last : Option Current) (names : Names) (dir : ℕ) → is_last dir last ≡ true → LastMet last names
    → is_gone dir last ≡ is_gone_in names.inodes dir
gone_there None names dir is nothing = absurd (true≢false (sym is))
gone_there (Some current) names dir is here =
    let test : InodeAt → Bool = λ at. (at.number == dir) && is_unlinked at in
    let below : All (λ at. ((at.number == dir) && is_unlinked at) ≡ false) here.front = All-weaker (IsBefore current.at.number names)
    (λ at. ((at.number == dir) && is_unlinked at) ≡ false)
    (λ at h. ap (λ b. b && is_unlinked at) (below_number at.number dir (subst (λ m. at.number < m) (eqb-true current.at.number dir is) h.0)))
    here.front here.before in
    sym (ap (list_any test) here.is ∙ list_any-append test here.front (current.at ∷ [])
    ∙ ap (λ b. b || (test current.at || false)) (list_any_none test here.front below) ∙ or_none (test current.at))

-- inodes without links
inserted_by : (o : Ordering) (x : ℕ) (xs : List ℕ) (k n : ℕ) → (IsIn xs n → IsIn (insert_key nat_cmp xs k) n) → IsIn (x ∷ xs) n
    → IsIn (match_ordering o (k ∷ x ∷ xs) (x ∷ xs) (x ∷ insert_key nat_cmp xs k)) n
inserted_by Less x xs k n rest h = inr h
inserted_by Equal x xs k n rest h = h
inserted_by Greater x xs k n rest (inl it) = inl it
inserted_by Greater x xs k n rest (inr old) = inr (rest old)

-- a number that is in a list still is after one more was put in
inserted : (xs : List ℕ) (k n : ℕ) → IsIn xs n → IsIn (insert_key nat_cmp xs k) n
inserted [] k n h = absurd h
inserted (x ∷ xs) k n h = inserted_by (nat_cmp k x) x xs k n (inserted xs k n) h

new_by : (o : Ordering) (x : ℕ) (xs : List ℕ) (k : ℕ) → nat_cmp k x ≡ o → IsIn (insert_key nat_cmp xs k) k
    → IsIn (match_ordering o (k ∷ x ∷ xs) (x ∷ xs) (x ∷ insert_key nat_cmp xs k)) k
new_by Less x xs k is rest = inl refl
new_by Equal x xs k is rest = inl (sym (number_is k x (ap is_eq is)))
new_by Greater x xs k is rest = inr rest

-- a number that was put in a list is in it
new_inserted : (xs : List ℕ) (k : ℕ) → IsIn (insert_key nat_cmp xs k) k
new_inserted [] k = inl refl
new_inserted (x ∷ xs) k = new_by (nat_cmp k x) x xs k refl (new_inserted xs k)

removed_by : (b : Bool) (x : ℕ) (xs : List ℕ) (k n : ℕ) → is_eq (nat_cmp k x) ≡ b → (IsIn xs n → IsIn (remove_key (is_at (nat_cmp k)) xs) n ⊎ (k ≡ n))
    → IsIn (x ∷ xs) n
    → IsIn (cond b xs (x ∷ remove_key (is_at (nat_cmp k)) xs)) n ⊎ (k ≡ n)
removed_by true x xs k n is rest (inl it) = inr (number_is k x is ∙ it)
removed_by true x xs k n is rest (inr old) = inl old
removed_by false x xs k n is rest (inl it) = inl (inl it)
removed_by false x xs k n is rest (inr old) = still (rest old)
  where
    still : IsIn (remove_key (is_at (nat_cmp k)) xs) n ⊎ (k ≡ n) → IsIn (x ∷ remove_key (is_at (nat_cmp k)) xs) n ⊎ (k ≡ n)
    still (inl h) = inl (inr h)
    still (inr same) = inr same

-- after a number was taken from a list, one that was in it still is, or it is the one that was taken
removed : (xs : List ℕ) (k n : ℕ) → IsIn xs n → IsIn (remove_key (is_at (nat_cmp k)) xs) n ⊎ (k ≡ n)
removed [] k n h = absurd h
removed (x ∷ xs) k n h = removed_by (is_eq (nat_cmp k x)) x xs k n refl (removed xs k n) h

-- an inode that waits for an orphan item still does as one more comes, with links or without
unlinked_if : (b : Bool) (at : InodeAt) (unlinked : List ℕ) (n : ℕ) → IsIn unlinked n → IsIn (if b then insert_key nat_cmp unlinked at.number else unlinked) n
unlinked_if true at unlinked n h = inserted unlinked at.number n h
unlinked_if false at unlinked n h = h

-- an inode that has links, waits for an orphan item or has one still does as one more comes
still_kept : (at : InodeAt) (unlinked orphans : List ℕ) (one : InodeAt) → IsKept unlinked orphans one → IsKept (with_unlinked at unlinked) orphans one
still_kept at unlinked orphans one (inl linked) = inl linked
still_kept at unlinked orphans one (inr (inl waits)) = inr (inl (unlinked_if (at.inode.nlink == 0) at unlinked one.number waits))
still_kept at unlinked orphans one (inr (inr named)) = inr (inr named)

-- the inode that comes has links, or waits for an orphan item
new_if : (b : Bool) (at : InodeAt) (unlinked orphans : List ℕ) → (at.inode.nlink == 0) ≡ b
    → ((at.inode.nlink == 0) ≡ false) ⊎ (IsIn (if b then insert_key nat_cmp unlinked at.number else unlinked) at.number
    ⊎ (list_any (λ number. at.number == number) orphans ≡ true))
new_if false at unlinked orphans is = inl is
new_if true at unlinked orphans is = inr (inl (new_inserted unlinked at.number))

-- with one inode more, each has links, or waits for an orphan item, or has one
pub kept_more : (at : InodeAt) (unlinked orphans : List ℕ) (inodes : List InodeAt) → All (IsKept unlinked orphans) inodes
    → All (IsKept (with_unlinked at unlinked) orphans) (inodes ++ at ∷ [])
kept_more at unlinked orphans inodes kept =
    All-push (IsKept (with_unlinked at unlinked) orphans) inodes at
    (All-weaker (IsKept unlinked orphans) (IsKept (with_unlinked at unlinked) orphans) (still_kept at unlinked orphans) inodes kept)
    (new_if (at.inode.nlink == 0) at unlinked orphans refl)

-- an orphan item names one
waits_or_named : (number : ℕ) (unlinked orphans : List ℕ) (one : InodeAt) → IsIn (remove_key (is_at (nat_cmp number)) unlinked) one.number
    ⊎ (number ≡ one.number) → IsKept (remove_key (is_at (nat_cmp number)) unlinked) (orphans ++ number ∷ []) one
waits_or_named number unlinked orphans one (inl waits) = inr (inl waits)
waits_or_named number unlinked orphans one (inr same) = inr (inr
    (list_any-append (λ n. one.number == n) orphans (number ∷ []) ∙ or_right (is_among orphans one.number) ((one.number == number) || false)
    (or_left (one.number == number) false (eq-eqb one.number number (sym same)))))

-- an inode that has links, waits for an orphan item or has one still does after an orphan item
named_kept : (number : ℕ) (unlinked orphans : List ℕ) (one : InodeAt) → IsKept unlinked orphans one
    → IsKept (remove_key (is_at (nat_cmp number)) unlinked) (orphans ++ number ∷ []) one
named_kept number unlinked orphans one (inl linked) = inl linked
named_kept number unlinked orphans one (inr (inl waits)) = waits_or_named number unlinked orphans one (removed unlinked number one.number waits)
named_kept number unlinked orphans one (inr (inr named)) =
    inr (inr (list_any-append (λ n. one.number == n) orphans (number ∷ []) ∙ or_left (is_among orphans one.number) ((one.number == number) || false) named))

-- after an orphan item each inode still has links, or waits for an orphan item, or has one
pub orphan_comes : (number : ℕ) (unlinked orphans : List ℕ) (inodes : List InodeAt) → All (IsKept unlinked orphans) inodes
    → All (IsKept (remove_key (is_at (nat_cmp number)) unlinked) (orphans ++ number ∷ [])) inodes
orphan_comes number unlinked orphans inodes kept = All-weaker (IsKept unlinked orphans)
    (IsKept (remove_key (is_at (nat_cmp number)) unlinked) (orphans ++ number ∷ [])) (named_kept number unlinked orphans) inodes kept

-- what it is that all are settled
pub record AreSettled (inodes : Inodes) : Type 0 where
  pub right : inodes.is_wrong ≡ false
  pub counted : last_counted inodes.last ≡ true
  pub none : (number : ℕ) → IsIn inodes.unlinked number → ⊥

-- no number is in a list of length 0
nothing_in : (xs : List ℕ) (n : ℕ) → (length xs == 0) ≡ true → IsIn xs n → ⊥
nothing_in [] n empty h = h
nothing_in (x ∷ xs) n empty h = absurd (true≢false (sym empty ∙ ne_eqb (length (x ∷ xs)) 0 (λ is. absurd (omega arith))))

-- settled inodes: none was wrong, the last one states what was counted, and none waits for an orphan item
pub all_settled : (inodes : Inodes) → are_settled inodes ≡ true → AreSettled inodes
all_settled inodes h =
    let one = two_hold (not inodes.is_wrong && (length inodes.unlinked == 0)) (last_counted inodes.last) h in
    let two = two_hold (not inodes.is_wrong) (length inodes.unlinked == 0) one.0 in
    record { right = is_not inodes.is_wrong two.0; counted = one.1; none = λ n is. nothing_in inodes.unlinked n two.1 is }

-- where none waits for an orphan item, each inode has links or one
pub kept_orphan : (unlinked orphans : List ℕ) (at : InodeAt) → ((number : ℕ) → IsIn unlinked number → ⊥) → IsKept unlinked orphans at
    → orphan_kept orphans at ≡ true
kept_orphan unlinked orphans at none (inl linked) = or_left (not (at.inode.nlink == 0)) (is_among orphans at.number) (ap not linked)
kept_orphan unlinked orphans at none (inr (inl waits)) = absurd (none at.number waits)
kept_orphan unlinked orphans at none (inr (inr named)) = or_right (not (at.inode.nlink == 0)) (is_among orphans at.number) named

-- How candidates are compared, one after another.
use Rattle.std.proofs.Common.{◌≡◌, ℕ, ◌+◌, ◌<◌, ◌≤◌, Bool, true, false, not, cond, ◌&&◌, List, [], ◌∷◌, ◌++◌, length, map, take, drop, slice_get, Option, Some}
use Rattle.std.proofs.Common.{None, IfSome, Result, Ok, Err, refl, sym, ap, ◌∙◌, subst, arith, inl, inr}
use Rattle.std.specs.Option.{option_and_then, option_map_or, option_or}
use Rattle.std.proofs.lemmas.Slice.Eq.{bytes_eq-Decides}
use Rattle.std.proofs.lemmas.List.{drop_all, take_more, take_all, take-append-drop, append-nil, append_assoc, map-append, map-id}
use Rattle.std.proofs.lemmas.List.Elements.{filter-append}
use Rattle.std.proofs.lemmas.List.FromFn.{map-range_with_len_more}
use Rattle.std.proofs.lemmas.List.Sums.{fold-append}
use Rattle.std.proofs.lemmas.List.Folds.{find-append}
use Rattle.std.proofs.lemmas.Option.{get_or_from_slice_get}
use Rattle.std.specs.List.{Any, Contains, filter, find, cons_option, range_with_len}
use Rattle.btr_chunk.specs.declared.place.Part.{Part}
use Rattle.btr_chunk.specs.declared.place.Part.TheVariants.{Slice}
use Rattle.btr_rack.specs.Rack.{Seen, NoneFailed, OneFailed, OnlyReads, Rose, Steady, forgotten}
use Rattle.btr_rack.specs.declared.place.Place.{Place as Range}
use Rattle.btr_read.specs.declared.candidate.Candidate.{Candidate}
use Rattle.btr_read.specs.declared.want.Want.{Want}
use Rattle.btr_read.specs.Want.{passes}
use Rattle.btr_read.specs.Candidates.{Target, candidates, range_of, reading, reads_slice, slices_read, stands}
use Rattle.btr_read.specs.Cause.{IsOf, IsMissed}
use Rattle.btr_read.specs.Fate.{Agree, Fault, passing, passing_for, sought}
use Rattle.btr_read.specs.Layout.{Layout}
use Rattle.btr_read.specs.Trial.{passing_of}
use Rattle.btr_read.specs.Comparing.{AreAlike, AreRead, Compares, ComparesSought, IsCompared, IsOther, NonePass, ReadUpTo, differ, disagreeing, disagreeing_of}
use Rattle.btr_read.specs.Comparing.{is_other, least_of, least_slot, lesser, other_of, other_slot}
use Rattle.btr_read.proofs.Ones.{In, at_in, in_either, in_left, in_right}
use Rattle.btr_read.proofs.ReadsOn.{same_held}
use Rattle.btr_read.proofs.Trials.{any_before, any_last, nothing_left, passes_first, passing-append, telling, told}

-- ---- which candidates were read

module _ (t : Target) (missed : List Range) where
  -- what was read of one list of candidates and of another behind it was read of both together
  pub are_read-append : (cs ds xs ys : List Candidate) → AreRead t missed cs xs → AreRead t missed ds ys → AreRead t missed (cs ++ ds) (xs ++ ys)
  are_read-append [] ds xs ys a b = subst (λ zs. AreRead t missed ds (zs ++ ys)) (sym a) b
  are_read-append (c ∷ cs) ds xs ys (inl h) b = inl (h.0 ++ ys, ap (λ zs. zs ++ ys) h.1, are_read-append cs ds h.0 ys h.2 b)
  are_read-append (c ∷ cs) ds xs ys (inr h) b = inr (h.0, are_read-append cs ds xs ys h.1 b)

  -- all candidates may have been read, whatever reads failed
  pub all_read : (cs : List Candidate) → AreRead t missed cs cs
  all_read [] = refl
  all_read (c ∷ cs) = inl (cs, refl, all_read cs)

  -- one more read failed
  pub read_still : (place : Range) (cs xs : List Candidate) → AreRead t missed cs xs → AreRead t (missed ++ place ∷ []) cs xs
  read_still place [] xs a = a
  read_still place (c ∷ cs) xs (inl h) = inl (h.0, h.1, read_still place cs h.0 h.2)
  read_still place (c ∷ cs) xs (inr h) = inr (any_before (λ m. IsOf t m c) missed (place ∷ []) h.0, read_still place cs xs h.1)

-- where no read failed all were read
pub none_left_out : (t : Target) (cs xs : List Candidate) → AreRead t [] cs xs → xs ≡ cs
none_left_out t [] xs a = a
none_left_out t (c ∷ cs) xs (inl h) = h.1 ∙ ap (λ rest. c ∷ rest) (none_left_out t cs h.0 h.2)
none_left_out t (c ∷ cs) xs (inr h) = let lt = h.0.2 in absurd (omega (arith, lt))

-- a count that was steady didn't rise
pub steady_not_rose : (before now : ℕ) → Steady before now → Rose before now → ⊥
steady_not_rose before now steady rose = omega (arith, steady.0, steady.1, rose.0, rose.1)

-- the first k candidates and one more
take_next : (cs : List Candidate) (k : ℕ) (c : Candidate) → slice_get cs k ≡ Some c → k < length cs → take (k + 1) cs ≡ take k cs ++ c ∷ []
take_next cs k c is lt = take_more cs k c lt ∙ ap (λ x. take k cs ++ x ∷ []) (get_or_from_slice_get cs k c c is)

-- before a candidate is tried none was read
pub none_yet : (t : Target) (rack : Seen) (P : List (List ℕ) → List Candidate → Type 0) → IfSome rack.held (λ images. P images [])
    → ReadUpTo t rack rack 0 P
none_yet t rack P h = record { read = []; are_read = refl; holds = h; later = omega arith; misses_none = λ steady. refl }

-- a fact of what is told, if anything is, gives the fact that follows from it
mapped : {X : Type 0} (o : Option X) (P Q : X → Type 0) → ((x : X) → o ≡ Some x → P x → Q x) → IfSome o P → IfSome o Q
mapped None P Q f h = tt
mapped (Some x) P Q f h = f x refl h

-- one more candidate was read
pub one_read : (t : Target) (old now after : Seen) (k : ℕ) (c : Candidate) (P Q : List (List ℕ) → List Candidate → Type 0) → ReadUpTo t old now k P
    → slice_get (candidates t) k ≡ Some c → k < length (candidates t) → NoneFailed now.account after.account
    → ((images : List (List ℕ)) → old.held ≡ Some images → (cs : List Candidate) → P images cs → Q images (cs ++ c ∷ [])) → ReadUpTo t old after (k + 1) Q
one_read t old now after k c P Q h is lt none f =
    let ms = after.account.missed in
    let before : AreRead t ms (take k (candidates t)) h.read = subst (λ m. AreRead t m (take k (candidates t)) h.read) (sym none.missed) h.are_read in
    record {
      read = h.read ++ c ∷ [];
      are_read = subst (λ cs. AreRead t ms cs (h.read ++ c ∷ [])) (sym (take_next (candidates t) k c is lt))
          (are_read-append t ms (take k (candidates t)) (c ∷ []) h.read (c ∷ []) before (all_read t ms (c ∷ [])));
      holds = mapped old.held (λ images. P images h.read) (λ images. Q images (h.read ++ c ∷ [])) (λ images told p. f images told h.read p) h.holds;
      later = omega (arith, h.later, none.faults);
      misses_none = λ steady. none.missed ∙ h.misses_none (omega (arith, steady.0, none.faults), omega (arith, steady.1, none.faults));
    }

-- one more is left out, of which a read failed
pub one_missed : (t : Target) (old now after : Seen) (k s : ℕ) (c : Candidate) (P : List (List ℕ) → List Candidate → Type 0)
    → ReadUpTo t old now k P → slice_get (candidates t) k ≡ Some c → k < length (candidates t) → IsMissed t c s now after
    → ReadUpTo t old after (k + 1) P
one_missed t old now after k s c P h is lt fault =
    let m : Range = fault.0 in
    let one : OneFailed m now.account after.account = fault.1.one in
    let ms = now.account.missed in
    let all = ms ++ m ∷ [] in
    let before = read_still t ms m (take k (candidates t)) h.read h.are_read in
    let here : AreRead t all (c ∷ []) [] = inr (any_last (λ place. IsOf t place c) ms m fault.3, refl) in
    let both : AreRead t all (take k (candidates t) ++ c ∷ []) h.read = subst (AreRead t all (take k (candidates t) ++ c ∷ [])) (append-nil h.read)
    (are_read-append t all (take k (candidates t)) (c ∷ []) h.read [] before here) in
    record {
      read = h.read;
      are_read = subst (λ m. AreRead t m (take (k + 1) (candidates t)) h.read) (sym one.missed)
          (subst (λ cs. AreRead t all cs h.read) (sym (take_next (candidates t) k c is lt)) both);
      holds = h.holds;
      later = omega (arith, h.later, one.faults.0);
      misses_none = λ steady. absurd (steady_not_rose old.account.faults after.account.faults steady
          (omega (arith, h.later, one.faults.0), omega (arith, h.later, one.faults.1)));
    }

-- the others need not be read
pub with_rest : (t : Target) (old now : Seen) (k : ℕ) (P Q : List (List ℕ) → List Candidate → Type 0) → ReadUpTo t old now k P
    → ((images : List (List ℕ)) (cs : List Candidate) → P images cs → Q images (cs ++ drop k (candidates t)))
    → ReadUpTo t old now (length (candidates t)) Q
with_rest t old now k P Q h f =
    let ms = now.account.missed in
    let rest = drop k (candidates t) in
    let all : take k (candidates t) ++ rest ≡ take (length (candidates t)) (candidates t) = take-append-drop k (candidates t)
    ∙ sym (take_all (length (candidates t)) (candidates t) (omega arith)) in
    record {
      read = h.read ++ rest;
      are_read = subst (λ cs. AreRead t ms cs (h.read ++ rest)) all
          (are_read-append t ms (take k (candidates t)) rest h.read rest h.are_read (all_read t ms rest));
      holds = mapped old.held (λ images. P images h.read) (λ images. Q images (h.read ++ rest)) (λ images told p. f images h.read p) h.holds;
      later = h.later;
      misses_none = h.misses_none;
    }

-- all were read
pub up_to_all : (t : Target) (old now : Seen) (k : ℕ) (P Q : List (List ℕ) → List Candidate → Type 0) → length (candidates t) ≤ k
    → ReadUpTo t old now k P → ((images : List (List ℕ)) (cs : List Candidate) → P images cs → Q images cs)
    → ReadUpTo t old now (length (candidates t)) Q
up_to_all t old now k P Q le h f = with_rest t old now k P Q h (λ images cs p. subst (λ rest. Q images (cs ++ rest))
    (sym (drop_all k (candidates t) le)) (subst (Q images) (sym (append-nil cs)) (f images cs p)))

-- ---- blocks that differ

-- no block differs from itself
pub differ_not : (block : List ℕ) → differ block block ≡ false
differ_not block = ap not ((bytes_eq-Decides (drop 32 block) (drop 32 block)).1 refl)

pub and_false : (b : Bool) → (b && false) ≡ false
and_false true = refl
and_false false = refl

-- the first of a list stays the first where more follow
first_stays : (xs ys : List (List ℕ)) (x : List ℕ) → slice_get xs 0 ≡ Some x → slice_get (xs ++ ys) 0 ≡ Some x
first_stays [] ys x e = cc
first_stays (y ∷ xs) ys x e = e

module _ (images : List (List ℕ)) (t : Target) where
  -- a candidate that doesn't pass is none that differs
  pub not_other : (block : List ℕ) (c : Candidate) → passing_of images t (c ∷ []) ≡ [] → is_other images t block c ≡ false
  not_other block c none = by (reading images t c) none
    where
      test : (b : Bool) (bytes : List ℕ) → cond b (bytes ∷ []) [] ≡ [] → (b && differ block bytes) ≡ false
      test true bytes e = cc
      test false bytes e = refl

      by : (o : Option (List ℕ)) → filter (passes t.setting t.want) (cons_option o []) ≡ []
          → option_map_or (λ other. passes t.setting t.want other && differ block other) o false ≡ false
      by None e = refl
      by (Some bytes) e = test (passes t.setting t.want bytes) bytes e

  -- one that passes and is alike
  pub alike_other : (block bytes : List ℕ) (c : Candidate) → reading images t c ≡ Some bytes → differ block bytes ≡ false
      → is_other images t block c ≡ false
  alike_other block bytes c e same =
      ap (λ o. option_map_or (λ other. passes t.setting t.want other && differ block other) o false) e
      ∙ ap (λ b. passes t.setting t.want bytes && b) same ∙ and_false (passes t.setting t.want bytes)

  -- one that differs
  pub differs_other : (block bytes : List ℕ) (c : Candidate) → reading images t c ≡ Some bytes → passes t.setting t.want bytes ≡ true
      → differ block bytes ≡ true → is_other images t block c ≡ true
  differs_other block bytes c e pass other =
      ap (λ o. option_map_or (λ other. passes t.setting t.want other && differ block other) o false) e
      ∙ ap (λ b. b && differ block bytes) pass ∙ other

  -- where none passes none differs
  pub none_other : (block : List ℕ) (cs : List Candidate) → NonePass t images cs → find (is_other images t block) cs ≡ None
  none_other block [] none = refl
  none_other block (c ∷ cs) none =
      let parts = nothing_left (passing_of images t (c ∷ [])) (passing_of images t cs) (sym (passing-append images t (c ∷ []) cs) ∙ none) in
      ap (λ b. cond b (Some c) (find (is_other images t block) cs)) (not_other block c parts.0) ∙ none_other block cs parts.1

  -- where none of some candidates differs from a block, nor one more, none of all does
  find_last : (block : List ℕ) (cs : List Candidate) (c : Candidate) → find (is_other images t block) cs ≡ None → is_other images t block c ≡ false
      → find (is_other images t block) (cs ++ c ∷ []) ≡ None
  find_last block cs c none test =
      find-append (is_other images t block) cs (c ∷ [])
      ∙ ap (λ o. option_or o (find (is_other images t block) (c ∷ []))) none
      ∙ ap (λ b. cond b (Some c) None) test

  -- one more that doesn't pass
  pub none_then : (c : Candidate) → passing_of images t (c ∷ []) ≡ [] → (cs : List Candidate) → NonePass t images cs → NonePass t images (cs ++ c ∷ [])
  none_then c none cs so_far = passing-append images t cs (c ∷ []) ∙ ap (λ xs. xs ++ passing_of images t (c ∷ [])) so_far ∙ none

  -- one more that doesn't differ
  alike_more : (block : List ℕ) (c : Candidate) → is_other images t block c ≡ false → (cs : List Candidate) → AreAlike t block images cs
      → AreAlike t block images (cs ++ c ∷ [])
  alike_more block c test cs are = record {
    first = ap (λ xs. slice_get xs 0) (passing-append images t cs (c ∷ []))
        ∙ first_stays (passing_of images t cs) (passing_of images t (c ∷ [])) block are.first;
    none = find_last block cs c are.none test;
  }

  -- one more candidate that doesn't pass leaves the others alike
  pub alike_then : (block : List ℕ) (c : Candidate) → passing_of images t (c ∷ []) ≡ [] → (cs : List Candidate) → AreAlike t block images cs
      → AreAlike t block images (cs ++ c ∷ [])
  alike_then block c none = alike_more block c (not_other block c none)

  -- the first one that passes
  pub first_then : (block : List ℕ) (c : Candidate) → reading images t c ≡ Some block → passes t.setting t.want block ≡ true → (cs : List Candidate)
      → NonePass t images cs → AreAlike t block images (cs ++ c ∷ [])
  first_then block c e pass cs none = record {
    first = ap (λ xs. slice_get xs 0) (passing-append images t cs (c ∷ []) ∙ ap (λ xs. xs ++ passing_of images t (c ∷ [])) none
        ∙ passes_first images t c [] block e pass);
    none = find_last block cs c (none_other block cs none) (alike_other block block c e (differ_not block));
  }

  -- one more that is alike
  pub same_then : (block bytes : List ℕ) (c : Candidate) → reading images t c ≡ Some bytes → differ block bytes ≡ false → (cs : List Candidate)
      → AreAlike t block images cs → AreAlike t block images (cs ++ c ∷ [])
  same_then block bytes c e same = alike_more block c (alike_other block bytes c e same)

  -- one that differs, before others
  pub other_then : (block bytes : List ℕ) (c : Candidate) → reading images t c ≡ Some bytes → passes t.setting t.want bytes ≡ true
      → differ block bytes ≡ true → (cs ds : List Candidate) → AreAlike t block images cs → other_of images t (cs ++ c ∷ ds) ≡ Some c
  other_then block bytes c e pass other cs ds are =
      ap (λ o. option_and_then (λ b. find (is_other images t b) (cs ++ c ∷ ds)) o)
      (ap (λ xs. slice_get xs 0) (passing-append images t cs (c ∷ ds))
      ∙ first_stays (passing_of images t cs) (passing_of images t (c ∷ ds)) block are.first)
      ∙ find-append (is_other images t block) cs (c ∷ ds)
      ∙ ap (λ o. option_or o (find (is_other images t block) (c ∷ ds))) are.none
      ∙ ap (λ b. cond b (Some c) (find (is_other images t block) ds)) (differs_other block bytes c e pass other)

  -- none differs
  pub alike_none : (block : List ℕ) (cs : List Candidate) → AreAlike t block images cs → other_of images t cs ≡ None
  alike_none block cs are = ap (option_and_then (λ b. find (is_other images t b) cs)) are.first ∙ are.none

  -- where no candidate passes, there is none that differs from the first that does
  pub no_other : (cs : List Candidate) → NonePass t images cs → other_of images t cs ≡ None
  no_other cs none = ap (λ xs. option_and_then (λ b. find (is_other images t b) cs) (slice_get xs 0)) none

  -- nor does the only one
  pub only_one : (cs : List Candidate) → length cs < 2 → other_of images t cs ≡ None
  only_one [] few = refl
  only_one (c ∷ []) few = by (reading images t c) refl
    where
      here : (b : Bool) (bytes : List ℕ) → passes t.setting t.want bytes ≡ b → reading images t c ≡ Some bytes → other_of images t (c ∷ []) ≡ None
      here true bytes test e = alike_none bytes (c ∷ []) (first_then bytes c e test [] refl)
      here false bytes test e = no_other (c ∷ [])
          (ap (λ o. filter (passes t.setting t.want) (cons_option o [])) e ∙ ap (λ (b : Bool). cond b (bytes ∷ []) []) test)

      by : (o : Option (List ℕ)) → reading images t c ≡ o → other_of images t (c ∷ []) ≡ None
      by None e = no_other (c ∷ []) (ap (λ o. filter (passes t.setting t.want) (cons_option o [])) e)
      by (Some bytes) e = here (passes t.setting t.want bytes) bytes refl e
  only_one (c ∷ d ∷ cs) few = absurd (omega (arith, few))

-- one more is the first that differs, and the others need not be read
pub other_read : (t : Target) (old now after : Seen) (k : ℕ) (c : Candidate) (block bytes : List ℕ) → ReadUpTo t old now k (AreAlike t block)
    → slice_get (candidates t) k ≡ Some c → k < length (candidates t) → NoneFailed now.account after.account
    → ((images : List (List ℕ)) → old.held ≡ Some images → reading images t c ≡ Some bytes) → passes t.setting t.want bytes ≡ true
    → differ block bytes ≡ true
    → ReadUpTo t old after (length (candidates t)) (λ images cs. other_of images t cs ≡ Some c)
other_read t old now after k c block bytes h is lt none reads pass other =
    let rest = drop (k + 1) (candidates t) in
    with_rest t old after (k + 1) (λ images cs. other_of images t (cs ++ rest) ≡ Some c) (λ images cs. other_of images t cs ≡ Some c)
    (one_read t old now after k c (AreAlike t block) (λ images cs. other_of images t (cs ++ rest) ≡ Some c) h is lt none (λ images told cs are.
    ap (other_of images t) (append_assoc cs (c ∷ []) rest) ∙ other_then images t block bytes c (reads images told) pass other cs rest are))
    (λ images cs e. e)

-- ---- where all that pass agree none differs

module _ (images : List (List ℕ)) (t : Target) where
  -- what passes of those that were read passes of all
  passes_of_all : (missed : List Range) (cs xs : List Candidate) (block : List ℕ) → AreRead t missed cs xs → In block (passing_of images t xs)
      → In block (passing_of images t cs)
  passes_of_all missed [] xs block a h = subst (λ xs. In block (passing_of images t xs)) a h
  passes_of_all missed (c ∷ cs) xs block (inl a) h =
      let parts : In block (passing_of images t (c ∷ []) ++ passing_of images t a.0) = subst (In block) (passing-append images t (c ∷ []) a.0)
      (subst (λ xs. In block (passing_of images t xs)) a.1 h) in
      subst (In block) (sym (passing-append images t (c ∷ []) cs)) (elim (in_either block (passing_of images t (c ∷ [])) (passing_of images t a.0) parts) [
        | inl first ↦ in_left block (passing_of images t (c ∷ [])) (passing_of images t cs) first
        | inr rest ↦ in_right block (passing_of images t (c ∷ [])) (passing_of images t cs) (passes_of_all missed cs a.0 block a.2 rest)
      ])
  passes_of_all missed (c ∷ cs) xs block (inr a) h =
      subst (In block) (sym (passing-append images t (c ∷ []) cs))
      (in_right block (passing_of images t (c ∷ [])) (passing_of images t cs) (passes_of_all missed cs xs block a.1 h))

  -- none differs from a block that all that pass are
  none_differs : (block : List ℕ) (xs : List Candidate) → ((other : List ℕ) → In other (passing_of images t xs) → block ≡ other)
      → find (is_other images t block) xs ≡ None
  none_differs block [] same = refl
  none_differs block (c ∷ xs) same =
      let split = passing-append images t (c ∷ []) xs in
      let here : is_other images t block c ≡ false = by (reading images t c) refl
      (λ other i. same other (subst (In other) (sym split) (in_left other (passing_of images t (c ∷ [])) (passing_of images t xs) i))) in
      ap (λ b. cond b (Some c) (find (is_other images t block) xs)) here
      ∙ none_differs block xs (λ other i. same other
      (subst (In other) (sym split) (in_right other (passing_of images t (c ∷ [])) (passing_of images t xs) i)))
    where
      test : (b : Bool) (bytes : List ℕ) → passes t.setting t.want bytes ≡ b → reading images t c ≡ Some bytes
          → ((other : List ℕ) → In other (passing_of images t (c ∷ [])) → block ≡ other) → is_other images t block c ≡ false
      test true bytes pass e all =
          let alike : block ≡ bytes = all bytes (subst (In bytes) (sym (passes_first images t c [] bytes e pass)) (inl refl)) in
          alike_other images t block bytes c e (ap (λ b. differ b bytes) alike ∙ differ_not bytes)
      test false bytes pass e all = ap (λ o. option_map_or (λ other. passes t.setting t.want other && differ block other) o false) e
          ∙ ap (λ b. b && differ block bytes) pass

      by : (o : Option (List ℕ)) → reading images t c ≡ o → ((other : List ℕ) → In other (passing_of images t (c ∷ [])) → block ≡ other)
          → is_other images t block c ≡ false
      by None e all = ap (λ o. option_map_or (λ other. passes t.setting t.want other && differ block other) o false) e
      by (Some bytes) e all = test (passes t.setting t.want bytes) bytes refl e all

  -- where all blocks that pass agree, none of the candidates that were read differs
  agree_none : (missed : List Range) (xs : List Candidate) → AreRead t missed (candidates t) xs
      → ((a b : List ℕ) → In a (passing images t) → In b (passing images t) → a ≡ b) → other_of images t xs ≡ None
  agree_none missed xs read agree = by (passing_of images t xs) refl
    where
      all : (other : List ℕ) → In other (passing_of images t xs) → In other (passing images t)
      all other i = passes_of_all missed (candidates t) xs other read i

      by : (blocks : List (List ℕ)) → passing_of images t xs ≡ blocks → other_of images t xs ≡ None
      by [] e = no_other images t xs e
      by (block ∷ rest) e =
          ap (λ blocks. option_and_then (λ b. find (is_other images t b) xs) (slice_get blocks 0)) e
          ∙ none_differs block xs (λ other i. agree block other (all block (subst (In block) (sym e) (inl refl))) (all other i))

-- what is in a list stands at a place of it
contained : (xs : List (List ℕ)) (x : List ℕ) → In x xs → Contains xs x
contained xs x i = at_in x xs i

-- where the candidates of what is sought agree, comparing them answers no slot
agree_of : (images : List (List ℕ)) (old new : Seen) (s : Result Target Fault) (slot : Option ℕ) → old.held ≡ Some images
    → ((a b : List ℕ) → Contains (passing_for images s) a → Contains (passing_for images s) b → a ≡ b)
    → ComparesSought s old new slot → slot ≡ None
agree_of images old new (Err fault) slot told agree h = h
agree_of images old new (Ok t) slot told agree h =
    telling old.held (λ images. slot ≡ other_slot images t h.read) h.is_other images told
    ∙ ap (option_and_then (least_slot t)) (agree_none images t new.account.missed h.read h.are_read
    (λ a b i j. agree a b (contained (passing images t) a i) (contained (passing images t) b j)))

-- where the candidates agree none differs, whatever failed
pub compares_agreed : (images : List (List ℕ)) (layout : Layout) (want : Want) (old new : Seen) (slot : Option ℕ) → old.held ≡ Some images
    → Agree images layout want → Compares layout want old new slot → slot ≡ None
compares_agreed images layout want old new slot told agree h = agree_of images old new (sought layout want) slot told agree h

-- where no count rose, comparing the candidates of what is sought answers just where they don't agree
steady_of : (images : List (List ℕ)) (old new : Seen) (s : Result Target Fault) (slot : Option ℕ) → old.held ≡ Some images
    → Steady old.account.faults new.account.faults → ComparesSought s old new slot → slot ≡ disagreeing_of images s
steady_of images old new (Err fault) slot told steady h = h
steady_of images old new (Ok t) slot told steady h =
    telling old.held (λ images. slot ≡ other_slot images t h.read) h.is_other images told
    ∙ ap (other_slot images t) (none_left_out t (candidates t) h.read (subst (λ m. AreRead t m (candidates t) h.read) (h.misses_none steady) h.are_read))

-- where no count rose all are compared
pub compares_steady : (images : List (List ℕ)) (layout : Layout) (want : Want) (old new : Seen) (slot : Option ℕ) → old.held ≡ Some images
    → Steady old.account.faults new.account.faults → Compares layout want old new slot → slot ≡ disagreeing images layout want
compares_steady images layout want old new slot told steady h = steady_of images old new (sought layout want) slot told steady h

-- where the candidates of what is sought agree, there is no slot by which they don't
disagree_agreed_of : (images : List (List ℕ)) (s : Result Target Fault)
    → ((a b : List ℕ) → Contains (passing_for images s) a → Contains (passing_for images s) b → a ≡ b) → disagreeing_of images s ≡ None
disagree_agreed_of images (Err fault) agree = refl
disagree_agreed_of images (Ok t) agree =
    ap (option_and_then (least_slot t)) (agree_none images t [] (candidates t) (all_read t [] (candidates t))
    (λ a b i j. agree a b (contained (passing images t) a i) (contained (passing images t) b j)))

-- candidates that agree don't disagree
pub disagreeing-agreed : (images : List (List ℕ)) (layout : Layout) (want : Want) → Agree images layout want → disagreeing images layout want ≡ None
disagreeing-agreed images layout want agree = disagree_agreed_of images (sought layout want) agree

-- calls before that only read
pub compares_before : (layout : Layout) (want : Want) (old now new : Seen) (slot : Option ℕ) → OnlyReads old now → Compares layout want now new slot
    → Compares layout want old new slot
compares_before layout want old now new slot reads h = by (sought layout want) h
  where
    by : (s : Result Target Fault) → ComparesSought s now new slot → ComparesSought s old new slot
    by (Err fault) h = h
    by (Ok t) h = record {
      read = h.read;
      are_read = h.are_read;
      is_other = subst (λ o. IfSome o (λ images. slot ≡ other_slot images t h.read)) (same_held reads) h.is_other;
      of_one = h.of_one;
      misses_none = λ steady. h.misses_none (omega (arith, steady.0, reads.later), steady.1);
    }

-- ---- the smallest slot

module _ (t : Target) (first least least' : Option ℕ) (candidate : Candidate) (slice : ℕ) where
  -- of one more slice the candidate reads those it read before, and that slice if it is one that it reads
  slices_more : slices_read (slice + 1) t.at.index candidate ≡ slices_read slice t.at.index candidate ++ map Slice
      (cond (reads_slice t.at.index candidate slice) (slice ∷ []) [])
  slices_more =
      let p = reads_slice t.at.index candidate in
      let more : range_with_len 0 (slice + 1) ≡ range_with_len 0 slice ++ slice ∷ [] =
      sym (map-id (range_with_len 0 (slice + 1))) ∙ map-range_with_len_more (λ (x : ℕ). x) 0 slice slice (omega arith)
      ∙ ap (λ xs. xs ++ slice ∷ []) (map-id (range_with_len 0 slice)) in
      ap (λ xs. map Slice (filter p xs)) more ∙ ap (map Slice) (filter-append p (range_with_len 0 slice) (slice ∷ []))
      ∙ map-append Slice (filter p (range_with_len 0 slice)) (filter p (slice ∷ []))

  -- the smallest slot with one more slice comes of the smallest before and of that slice, if it is read
  least_more : least ≡ least_of t first (slices_read slice t.at.index candidate)
      → least_of t first (slices_read (slice + 1) t.at.index candidate) ≡ least_of t least
      (map Slice (cond (reads_slice t.at.index candidate slice) (slice ∷ []) []))
  least_more so_far =
      let f : Option ℕ → Part → Option ℕ = λ l part. lesser l (range_of t part) in
      let last = map Slice (cond (reads_slice t.at.index candidate slice) (slice ∷ []) []) in
      ap (least_of t first) slices_more ∙ fold-append f first (slices_read slice t.at.index candidate) last ∙ ap (λ l. least_of t l last) (sym so_far)

  -- a slice that the candidate reads
  pub least_read : reads_slice t.at.index candidate slice ≡ true → least ≡ least_of t first (slices_read slice t.at.index candidate)
      → least' ≡ lesser least (range_of t (Slice slice))
      → least' ≡ least_of t first (slices_read (slice + 1) t.at.index candidate)
  least_read reads so_far is = is ∙ sym (least_more so_far ∙ ap (λ b. least_of t least (map Slice (cond b (slice ∷ []) []))) reads)

  -- one that it doesn't read
  pub least_passed : reads_slice t.at.index candidate slice ≡ false → least ≡ least_of t first (slices_read slice t.at.index candidate)
      → least' ≡ least → least' ≡ least_of t first (slices_read (slice + 1) t.at.index candidate)
  least_passed reads so_far is = is ∙ sym (least_more so_far ∙ ap (λ b. least_of t least (map Slice (cond b (slice ∷ []) []))) reads)

-- ---- what comparing answers, where the rack was told to forget before

module _ (t : Target) (old mid new : Seen) (forgot : mid ≡ record old { account = forgotten old.account }) where
  -- a fact of the candidates that were read makes the answer, if it gives the slot and the slot is one that a candidate reads
  compared_by : (slot : Option ℕ) (P : List (List ℕ) → List Candidate → Type 0) → ReadUpTo t mid new (length (candidates t)) P
      → ((images : List (List ℕ)) (cs : List Candidate) → P images cs → slot ≡ other_slot images t cs)
      → IfSome slot (λ s. Any (λ c. (stands t c ≡ true) × (least_slot t c ≡ Some s)) (candidates t)) → IsCompared t old new slot
  compared_by slot P h f one =
      let held : mid.held ≡ old.held = ap (λ (s : Seen). s.held) forgot in
      let faults : mid.account.faults ≡ old.account.faults = ap (λ (s : Seen). s.account.faults) forgot in
      let missed : mid.account.missed ≡ [] = ap (λ (s : Seen). s.account.missed) forgot in
      record {
        read = h.read;
        are_read = subst (λ cs. AreRead t new.account.missed cs h.read) (take_all (length (candidates t)) (candidates t) (omega arith)) h.are_read;
        is_other = mapped old.held (λ images. P images h.read) (λ images. slot ≡ other_slot images t h.read) (λ images told p. f images h.read p)
            (subst (λ o. IfSome o (λ images. P images h.read)) held h.holds);
        of_one = one;
        misses_none = λ steady. h.misses_none (omega (arith, steady.0, faults), steady.1) ∙ missed;
      }

  -- none differs
  pub compared_none : ReadUpTo t mid new (length (candidates t)) (λ images cs. other_of images t cs ≡ None) → IsCompared t old new None
  compared_none h = compared_by None (λ images cs. other_of images t cs ≡ None) h (λ images cs e. sym (ap (option_and_then (least_slot t)) e)) tt

  -- one does
  pub compared_some : (k : ℕ) (c : Candidate) (slot : Option ℕ) → IsOther t mid new k → slice_get (candidates t) k ≡ Some c → slot ≡ least_slot t c
      → IsCompared t old new slot
  compared_some k c slot h at is =
      let same : Some h.candidate ≡ Some c = sym h.at ∙ at in
      let c_is : h.candidate ≡ c = cc in
      let standing : stands t c ≡ true = ap (stands t) (sym c_is) ∙ h.standing in
      compared_by slot (λ images cs. other_of images t cs ≡ Some h.candidate) h.other
      (λ images cs e. is ∙ sym (ap (option_and_then (least_slot t)) (e ∙ same))) (one slot is standing)
    where
      -- the slot, if one is answered, is the smallest that a candidate that stands reads
      one : (slot : Option ℕ) → slot ≡ least_slot t c → stands t c ≡ true
          → IfSome slot (λ s. Any (λ c. (stands t c ≡ true) × (least_slot t c ≡ Some s)) (candidates t))
      one None e standing = tt
      one (Some s) e standing = (k, c, h.there, get_or_from_slice_get (candidates t) k c c at, (standing, sym e))

  -- the only one differs from none
  pub compared_few : new ≡ mid → length (candidates t) < 2 → IsCompared t old new None
  compared_few still few = record {
    read = candidates t;
    are_read = all_read t new.account.missed (candidates t);
    is_other = told old.held (λ images. None ≡ other_slot images t (candidates t))
        (λ images e. sym (ap (option_and_then (least_slot t)) (only_one images t (candidates t) few)));
    of_one = tt;
    misses_none = λ steady. ap (λ (s : Seen). s.account.missed) still ∙ ap (λ (s : Seen). s.account.missed) forgot;
  }

-- What a loop over the candidates keeps.
use Rattle.std.proofs.Common.{◌≡◌, ℕ, ◌+◌, ◌^◌, ◌<◌, ◌≤◌, ◌⊎◌, Bool, true, false, cond, List, [], ◌∷◌, ◌++◌, length, take, drop, get_or, slice_get, Option}
use Rattle.std.proofs.Common.{Some, None, IfSome, IsSomeAnd, refl, sym, ap, ◌∙◌, subst, arith, inl, inr, length-take, length-append}
use Rattle.std.proofs.lemmas.Bool.{cases_lt}
use Rattle.std.proofs.lemmas.List.{take_more, take_all, take-append-drop, drop_more, get_or_append_left}
use Rattle.std.proofs.lemmas.List.Elements.{filter-append, filter_map-append}
use Rattle.std.proofs.Math.Seq.{get_or-append_seam}
use Rattle.std.proofs.lemmas.Option.{get_or_from_slice_get}
use Rattle.std.specs.List.{filter, filter_map, cons_option, Any, All, Contains}
use Rattle.btr_rack.specs.Rack.{Seen, NoneFailed, OneFailed, OnlyReads}
use Rattle.btr_rack.specs.declared.place.Place.{Place as Range}
use Rattle.btr_read.specs.declared.candidate.Candidate.{Candidate}
use Rattle.btr_read.specs.Want.{passes}
use Rattle.btr_read.specs.Candidates.{Target, size_of, candidates, stands, value_of, reading}
use Rattle.btr_read.specs.Fate.{passing}
use Rattle.btr_read.specs.declared.attempt.TrialOutcome.TheVariants as outcome
use Rattle.btr_read.specs.Attempt.{FitsOutcome}
use Rattle.btr_read.specs.Cause.{IsOf, IsMissed, ReadFailed, Passes, IsUnread}
use Rattle.btr_read.specs.Trial.{passing_of, passed_outcome, ended_outcome, CauseSoFar, TriedSoFar, BeganAt}
use Rattle.btr_read.proofs.Ones.{In}
use Rattle.btr_read.proofs.Keeping.{none_failed, none_more}
use Rattle.btr_read.proofs.ReadsOn.{same_held, same_sure}

-- a fact for the images that are told
pub told : {X : Type 0} (o : Option X) (P : X → Type 0) → ((x : X) → o ≡ Some x → P x) → IfSome o P
told None P h = tt
told (Some x) P h = h x refl

-- what holds of the images that are told holds of these images
pub telling : {X : Type 0} (o : Option X) (P : X → Type 0) → IfSome o P → (x : X) → o ≡ Some x → P x
telling None P h x e = cc
telling (Some y) P h x e = let same : y ≡ x = cc in subst P same h

-- where one of a list has it, one of the list with more behind has it
pub any_before : {X : Type 0} (P : X → Type 0) (xs ys : List X) → Any P xs → Any P (xs ++ ys)
any_before P xs ys h = (h.0, h.1, omega (arith, h.2, length-append xs ys), get_or_append_left xs ys h.1 h.0 h.2 ∙ h.3, h.4)

-- where the last of a list has it, one of the list has it
pub any_last : {X : Type 0} (P : X → Type 0) (xs : List X) (y : X) → P y → Any P (xs ++ y ∷ [])
any_last P xs y h = (length xs, y, omega (arith, length-append xs (y ∷ [])), get_or-append_seam xs y [] y, h)

-- what holds of all of a list and of one more holds of all with that one behind
all_last : {X : Type 0} (P : X → Type 0) (xs : List X) (y : X) → All P xs → P y → All P (xs ++ y ∷ [])
all_last P xs y all h j d lt = elim (cases_lt j (length xs)) [
  | inl before ↦ subst P (sym (get_or_append_left xs (y ∷ []) d j before)) (all j d before)
  | inr there ↦
      let same : length xs ≡ j = omega (arith, there, lt, length-append xs (y ∷ [])) in
      subst P (sym (subst (λ n. get_or (xs ++ y ∷ []) n d ≡ y) same (get_or-append_seam xs y [] d))) h
]

module _ (images : List (List ℕ)) (t : Target) where
  -- of candidates and of others behind them those pass that pass of each
  pub passing-append : (cs ds : List Candidate) → passing_of images t (cs ++ ds) ≡ passing_of images t cs ++ passing_of images t ds
  passing-append cs ds = ap (filter (passes t.setting t.want)) (filter_map-append (reading images t) cs ds)
      ∙ filter-append (passes t.setting t.want) (filter_map (reading images t) cs) (filter_map (reading images t) ds)

  -- a candidate that stands is read with its value
  pub reading_stands : (c : Candidate) → stands t c ≡ true → reading images t c ≡ Some (value_of images t c)
  reading_stands c e = ap (λ (b : Bool). cond b (Some (value_of images t c)) None) e

  -- a candidate that doesn't stand gives no bytes
  pub reading_absent : (c : Candidate) → stands t c ≡ false → reading images t c ≡ None
  reading_absent c e = ap (λ (b : Bool). cond b (Some (value_of images t c)) None) e

  -- one candidate before others
  one_before : (o : Option (List ℕ)) (cs : List Candidate) → List (List ℕ)
  one_before o cs = filter (passes t.setting t.want) (cons_option o (filter_map (reading images t) cs))

  -- where the first candidate passes, its bytes come before those of the others that pass
  pub passes_first : (c : Candidate) (cs : List Candidate) (bytes : List ℕ) → reading images t c ≡ Some bytes → passes t.setting t.want bytes ≡ true
      → passing_of images t (c ∷ cs) ≡ bytes ∷ passing_of images t cs
  passes_first c cs bytes e test =
      ap (λ o. filter (passes t.setting t.want) (cons_option o (filter_map (reading images t) cs))) e
      ∙ ap (λ b. cond b (bytes ∷ passing_of images t cs) (passing_of images t cs)) test

  -- of a candidate alone whose bytes don't pass none passes
  pub differs_alone : (c : Candidate) (bytes : List ℕ) → reading images t c ≡ Some bytes → passes t.setting t.want bytes ≡ false
      → passing_of images t (c ∷ []) ≡ []
  differs_alone c bytes e test =
      ap (λ o. filter (passes t.setting t.want) (cons_option o [])) e
      ∙ ap (λ (b : Bool). cond b (bytes ∷ []) []) test

  -- of a candidate alone that doesn't stand none passes
  pub absent_alone : (c : Candidate) → reading images t c ≡ None → passing_of images t (c ∷ []) ≡ []
  absent_alone c e = ap (λ o. filter (passes t.setting t.want) (cons_option o [])) e

  at_most_one_if : (b : Bool) (bytes : List ℕ) → length (cond b (bytes ∷ []) []) ≤ 1
  at_most_one_if true bytes = omega arith
  at_most_one_if false bytes = omega arith

  at_most_one_of : (o : Option (List ℕ)) → length (filter (passes t.setting t.want) (cons_option o [])) ≤ 1
  at_most_one_of None = omega arith
  at_most_one_of (Some bytes) = at_most_one_if (passes t.setting t.want bytes) bytes

  -- of a candidate alone no more than one passes
  pub at_most_one : (c : Candidate) → length (passing_of images t (c ∷ [])) ≤ 1
  at_most_one c = at_most_one_of (reading images t c)

  -- no more pass than there are
  pub at_most_all : (cs : List Candidate) → length (passing_of images t cs) ≤ length cs
  at_most_all [] = omega arith
  at_most_all (c ∷ cs) =
      let all = passing-append (c ∷ []) cs in
      let len = ap length all in
      let parts = length-append (passing_of images t (c ∷ [])) (passing_of images t cs) in
      let one = at_most_one c in
      let rest = at_most_all cs in
      omega (arith, len, parts, one, rest)

  -- a candidate that doesn't pass
  pub differs_not : (c : Candidate) → passing_of images t (c ∷ []) ≡ [] → Passes images t c → ⊥
  differs_not c none h = passes_not (reading images t c) none h
    where
      passes_not : (o : Option (List ℕ)) → filter (passes t.setting t.want) (cons_option o []) ≡ []
          → IsSomeAnd o (λ bytes. passes t.setting t.want bytes ≡ true) → ⊥
      passes_not None e h = absurd h
      passes_not (Some bytes) e h =
          let first : bytes ∷ [] ≡ [] = sym (ap (λ b. cond b (bytes ∷ []) []) h) ∙ e in
          cc

-- before a candidate is tried none was, and no read failed
pub tried_none : (t : Target) (rack : Seen) → rack.account.missed ≡ [] → TriedSoFar t rack rack None 0
tried_none t rack missed = record {
  later = omega arith;
  cause = none_failed rack.account;
  only = λ j d lt. absurd (omega (arith, lt, ap length missed));
  enough = λ images e. omega arith;
  each = λ images e j d lt p. absurd (omega (arith, lt));
}

-- the candidate at a place
at_place : (cs : List Candidate) (j k : ℕ) (c d : Candidate) → slice_get cs k ≡ Some c → k ≤ j → j < k + 1 → get_or cs j d ≡ c
at_place cs j k c d is le lt =
    let same : j ≡ k = omega (arith, le, lt) in
    ap (λ n. get_or cs n d) same ∙ get_or_from_slice_get cs k c d is

-- of one more candidate those pass that passed before, and it, if it does
take_one_more : (images : List (List ℕ)) (t : Target) (cs : List Candidate) (k : ℕ) (c : Candidate) → slice_get cs k ≡ Some c → k < length cs
    → passing_of images t (take (k + 1) cs) ≡ passing_of images t (take k cs) ++ passing_of images t (c ∷ [])
take_one_more images t cs k c is lt =
    ap (passing_of images t) (take_more cs k c lt)
    ∙ passing-append images t (take k cs) (get_or cs k c ∷ [])
    ∙ ap (λ x. passing_of images t (take k cs) ++ passing_of images t (x ∷ [])) (get_or_from_slice_get cs k c c is)

-- where no call failed since, the cause is as before
cause_unfailed : (t : Target) (before now after : Seen) (failed : Option ℕ) → CauseSoFar t before now failed → NoneFailed now.account after.account
    → CauseSoFar t before after failed
cause_unfailed t before now after None h unfailed = none_more before.account now.account after.account h unfailed
cause_unfailed t before now after (Some s) h unfailed = (
  h.0,
  (omega (arith, h.1.0, unfailed.faults), omega (arith, h.1.1, unfailed.faults)),
  ap (λ r. r.slot) unfailed.last ∙ h.2,
  subst (λ r. Any (λ c. (stands t c ≡ true) × IsOf t r c) (candidates t)) (sym unfailed.last) h.3,
  omega (arith, h.4, unfailed.fresh),
  unfailed.opening ∙ h.5,
)

-- one more candidate, which stands and doesn't pass, or doesn't stand
pub tried_unfailed : (t : Target) (before now after : Seen) (failed : Option ℕ) (k : ℕ) (c : Candidate) → TriedSoFar t before now failed k
    → slice_get (candidates t) k ≡ Some c → k < length (candidates t) → NoneFailed now.account after.account
    → ((images : List (List ℕ)) → before.held ≡ Some images → passing_of images t (c ∷ []) ≡ []) → TriedSoFar t before after failed (k + 1)
tried_unfailed t before now after failed k c h is lt unfailed none = record {
  later = omega (arith, h.later, unfailed.faults);
  cause = cause_unfailed t before now after failed h.cause unfailed;
  only = subst (All (λ missed. Any (IsOf t missed) (candidates t))) (sym unfailed.missed) h.only;
  enough = λ images e.
      let more = ap length (take_one_more images t (candidates t) k c is lt) in
      let parts = length-append (passing_of images t (take k (candidates t))) (passing_of images t (c ∷ [])) in
      let zero : length (passing_of images t (c ∷ [])) ≡ 0 = ap length (none images e) in
      let so_far = h.enough images e in
      omega (arith, more, parts, zero, so_far, unfailed.fresh);
  each = λ images e j d below p. elim (cases_lt j k) [
    | inl earlier ↦ subst (Any (λ missed. IsOf t missed (get_or (candidates t) j d))) (sym unfailed.missed) (h.each images e j d earlier p)
    | inr here ↦ absurd (differs_not images t c (none images e) (subst (Passes images t) (at_place (candidates t) j k c d is here below) p))
  ];
}

-- a read failed that isn't of the next candidate
pub tried_missed : (t : Target) (before now after : Seen) (failed : Option ℕ) (k s : ℕ) (m : Range) → TriedSoFar t before now failed k → k < 2 ^ 64
    → now.sure ≡ before.sure → Any (λ c. (stands t c ≡ true) × IsOf t m c) (candidates t) → ReadFailed m now after → m.slot ≡ s
    → TriedSoFar t before after (Some s) k
tried_missed t before now after failed k s m h short sure of fault slot =
    let one : OneFailed m now.account after.account = fault.one in
    let some : Any (IsOf t m) (candidates t) = (of.0, of.1, of.2, of.3, of.4.1) in
    record {
      later = omega (arith, h.later, one.faults.0);
      cause = (
        sym sure ∙ fault.unsure,
        (omega (arith, h.later, one.faults.0), omega (arith, h.later, one.faults.1)),
        ap (λ r. r.slot) one.last ∙ slot,
        subst (λ r. Any (λ c. (stands t c ≡ true) × IsOf t r c) (candidates t)) (sym one.last) of,
        omega (arith, one.fresh),
        fault.read,
      );
      only = subst (All (λ missed. Any (IsOf t missed) (candidates t))) (sym one.missed)
          (all_last (λ missed. Any (IsOf t missed) (candidates t)) now.account.missed m h.only some);
      enough = λ images e.
          let all = at_most_all images t (take k (candidates t)) in
          let taken = length-take k (candidates t) in
          let so_far = h.enough images e in
          omega (arith, all, taken, so_far, one.fresh, short);
      each = λ images e j d below p. subst (Any (λ missed. IsOf t missed (get_or (candidates t) j d))) (sym one.missed)
          (any_before (λ missed. IsOf t missed (get_or (candidates t) j d)) now.account.missed (m ∷ []) (h.each images e j d below p));
    }

-- one more candidate, of which a read failed
pub tried_failed : (t : Target) (before now after : Seen) (failed : Option ℕ) (k s : ℕ) (c : Candidate) → TriedSoFar t before now failed k
    → slice_get (candidates t) k ≡ Some c → k < length (candidates t) → k + 1 < 2 ^ 64 → now.sure ≡ before.sure → stands t c ≡ true
    → IsMissed t c s now after → TriedSoFar t before after (Some s) (k + 1)
tried_failed t before now after failed k s c h is lt short sure standing fault =
    let m : Range = fault.0 in
    let one : OneFailed m now.account after.account = fault.1.one in
    let of : Any (λ c. (stands t c ≡ true) × IsOf t m c) (candidates t) =
    (k, c, lt, get_or_from_slice_get (candidates t) k c c is, (standing, fault.3)) in
    let missed = tried_missed t before now after failed k s m h (omega (arith, short)) sure of fault.1 fault.2 in
    record {
      later = missed.later;
      cause = missed.cause;
      only = missed.only;
      enough = λ images e.
          let more = ap length (take_one_more images t (candidates t) k c is lt) in
          let parts = length-append (passing_of images t (take k (candidates t))) (passing_of images t (c ∷ [])) in
          let single = at_most_one images t c in
          let all = at_most_all images t (take k (candidates t)) in
          let taken = length-take k (candidates t) in
          let so_far = h.enough images e in
          omega (arith, more, parts, single, all, taken, so_far, one.fresh, short);
      each = λ images e j d below p. elim (cases_lt j k) [
        | inl earlier ↦ missed.each images e j d earlier p
        | inr there ↦ subst (Any (λ missed. IsOf t missed (get_or (candidates t) j d))) (sym one.missed)
            (any_last (λ missed. IsOf t missed (get_or (candidates t) j d)) now.account.missed m
            (subst (IsOf t m) (sym (at_place (candidates t) j k c d is there below)) fault.3))
      ];
    }

-- all were tried
pub all_lost : (t : Target) (before now : Seen) (k : ℕ) → before.account.fresh ≡ 0 → length (candidates t) ≤ k → TriedSoFar t before now None k
    → NoneFailed before.account now.account × IfSome before.held (λ images. slice_get (passing images t) 0 ≡ None)
all_lost t before now k fresh le h = (
  h.cause,
  told before.held (λ images. slice_get (passing images t) 0 ≡ None) (λ images e.
      let whole : passing_of images t (take k (candidates t)) ≡ passing images t = ap (passing_of images t) (take_all k (candidates t) le) in
      let so_far = h.enough images e in
      let len : length (passing images t) ≡ 0 = omega (arith, ap length whole, so_far, h.cause.fresh, fresh) in
      none_first (passing images t) len),
)
  where
    none_first : (xs : List (List ℕ)) → length xs ≡ 0 → slice_get xs 0 ≡ None
    none_first [] e = refl
    none_first (x ∷ xs) e = absurd (omega (arith, e))

-- where all were tried, none passed and a read failed, the block is unread
pub all_unread : (t : Target) (before now : Seen) (k s : ℕ) → length (candidates t) ≤ k → TriedSoFar t before now (Some s) k → IsUnread t before now s
all_unread t before now k s le h = record {
  unsure = h.cause.0;
  rose = h.cause.1;
  on_slot = h.cause.2;
  of_candidate = h.cause.3;
  only = h.only;
  read = h.cause.5;
  some = h.cause.4;
  enough = told before.held (λ images. length (passing images t) ≤ now.account.fresh) (λ images e.
      subst (λ cs. length (passing_of images t cs) ≤ now.account.fresh) (take_all k (candidates t) le) (h.enough images e));
  each = told before.held (λ images. All (λ candidate. Passes images t candidate → Any (λ missed. IsOf t missed candidate) now.account.missed)
      (candidates t)) (λ images e j d lt p. h.each images e j d (omega (arith, lt, le)) p);
}

-- where all were tried and none passed, the block is lost, or unread if a read failed
pub all_ended : (t : Target) (before now : Seen) (failed : Option ℕ) (k : ℕ) (slot : List ℕ) → before.account.fresh ≡ 0 → length (candidates t) ≤ k
    → TriedSoFar t before now failed k → FitsOutcome t before now slot (ended_outcome failed)
all_ended t before now None k slot fresh le h = all_lost t before now k fresh le h
all_ended t before now (Some s) k slot fresh le h = all_unread t before now k s le h

-- no more reads failed
pub tried_still : (t : Target) (before now after : Seen) (failed : Option ℕ) (k : ℕ) → TriedSoFar t before now failed k
    → NoneFailed now.account after.account → TriedSoFar t before after failed k
tried_still t before now after failed k h unfailed = record {
  later = omega (arith, h.later, unfailed.faults);
  cause = cause_unfailed t before now after failed h.cause unfailed;
  only = subst (All (λ missed. Any (IsOf t missed) (candidates t))) (sym unfailed.missed) h.only;
  enough = λ images e. omega (arith, h.enough images e, unfailed.fresh);
  each = λ images e j d below p. subst (Any (λ missed. IsOf t missed (get_or (candidates t) j d))) (sym unfailed.missed) (h.each images e j d below p);
}

-- a trial that began goes on
pub began_on : {before a b : Seen} → OnlyReads a b → BeganAt before a → BeganAt before b
began_on reads is = record { fresh = is.fresh; held = same_held reads ∙ is.held; sure = same_sure reads ∙ is.sure }

-- bytes that pass stand between those of the candidates before them and those of the candidates behind
split_at : (images : List (List ℕ)) (t : Target) (k : ℕ) (c : Candidate) (bytes : List ℕ) → slice_get (candidates t) k ≡ Some c
    → k < length (candidates t) → reading images t c ≡ Some bytes → passes t.setting t.want bytes ≡ true → passing images t
    ≡ passing_of images t (take k (candidates t)) ++ bytes ∷ passing_of images t (drop (k + 1) (candidates t))
split_at images t k c bytes is lt reads test =
    let cs = candidates t in
    let rest : drop k cs ≡ c ∷ drop (k + 1) cs = drop_more cs k c lt ∙ ap (λ x. x ∷ drop (k + 1) cs) (get_or_from_slice_get cs k c c is) in
    ap (passing_of images t) (sym (take-append-drop k cs))
    ∙ passing-append images t (take k cs) (drop k cs)
    ∙ ap (λ xs. passing_of images t (take k cs) ++ xs) (ap (passing_of images t) rest ∙ passes_first images t c (drop (k + 1) cs) bytes reads test)

-- an entry behind nothing is the first
first_of : (xs : List (List ℕ)) (bytes : List ℕ) (ys : List (List ℕ)) → length xs ≡ 0 → slice_get (xs ++ bytes ∷ ys) 0 ≡ Some bytes
first_of [] bytes ys e = refl
first_of (x ∷ xs) bytes ys e = absurd (omega (arith, e))

-- a candidate at any place passes after a read that failed
pub later_passes : (t : Target) (before now after : Seen) (s k m : ℕ) (c : Candidate) (slot : List ℕ) → TriedSoFar t before now (Some s) k
    → slice_get (candidates t) m ≡ Some c → m < length (candidates t) → NoneFailed now.account after.account → stands t c ≡ true
    → passes t.setting t.want (take (size_of t) slot) ≡ true
    → ((images : List (List ℕ)) → before.held ≡ Some images → value_of images t c ≡ take (size_of t) slot) → FitsOutcome t before after slot outcome.Later
later_passes t before now after s k m c slot h is lt unfailed standing test value =
    let bytes : List ℕ = take (size_of t) slot in
    let cause = cause_unfailed t before now after (Some s) h.cause unfailed in
    record {
      rose = cause.1;
      read = cause.5;
      of_candidate = cause.3;
      pass = test;
      stand = told before.held (λ images. Contains (passing images t) bytes) (λ images e.
          let before_it = passing_of images t (take m (candidates t)) in
          let behind = passing_of images t (drop (m + 1) (candidates t)) in
          let split = split_at images t m c bytes is lt (reading_stands images t c standing ∙ ap Some (value images e)) test in
          subst (λ xs. Contains xs bytes) (sym split) (
            length before_it,
            omega (arith, length-append before_it (bytes ∷ behind)),
            get_or-append_seam
                before_it bytes behind bytes,
          ));
    }

-- the next candidate passes: as the first one, or as a later one if a read failed
pub one_passes : (t : Target) (before now after : Seen) (failed : Option ℕ) (k : ℕ) (c : Candidate) (slot : List ℕ) → before.account.fresh ≡ 0
    → TriedSoFar t before now failed k → slice_get (candidates t) k ≡ Some c → k < length (candidates t) → NoneFailed now.account after.account
    → stands t c ≡ true → passes t.setting t.want (take (size_of t) slot) ≡ true
    → ((images : List (List ℕ)) → before.held ≡ Some images → value_of images t c ≡ take (size_of t) slot)
    → FitsOutcome t before after slot (passed_outcome failed)
one_passes t before now after None k c slot fresh h is lt unfailed standing test value =
    let bytes : List ℕ = take (size_of t) slot in
    record {
      none = none_more before.account now.account after.account h.cause unfailed;
      pass = test;
      first = told before.held (λ images. slice_get (passing images t) 0 ≡ Some bytes) (λ images e.
          let split = split_at images t k c bytes is lt (reading_stands images t c standing ∙ ap Some (value images e)) test in
          let so_far = h.enough images e in
          subst (λ xs. slice_get xs 0 ≡ Some bytes) (sym split)
          (first_of (passing_of images t (take k (candidates t))) bytes (passing_of images t (drop (k + 1) (candidates t)))
          (omega (arith, so_far, h.cause.fresh, fresh))));
    }
one_passes t before now after (Some s) k c slot fresh h is lt unfailed standing test value = later_passes t before now after s k k c slot h is lt unfailed
    standing test value

-- ---- what is accepted, where all candidates are read

-- where two lists together are empty, each is
pub nothing_left : {X : Type 0} (xs ys : List X) → xs ++ ys ≡ [] → (xs ≡ []) × (ys ≡ [])
nothing_left [] ys e = (refl, e)
nothing_left (x ∷ xs) ys e = absurd (cc)

module _ (images : List (List ℕ)) (t : Target) where
  module _ (k : ℕ) (c : Candidate) (is : slice_get (candidates t) k ≡ Some c) (lt : k < length (candidates t)) (standing : stands t c ≡ true)
      (so_far : passing_of images t (take k (candidates t)) ≡ []) where
    -- one more that doesn't pass
    pub none_then : passes t.setting t.want (value_of images t c) ≡ false → passing_of images t (take (k + 1) (candidates t)) ≡ []
    none_then test = take_one_more images t (candidates t) k c is lt ∙ ap (λ xs. xs ++ passing_of images t (c ∷ [])) so_far
        ∙ differs_alone images t c (value_of images t c) (reading_stands images t c standing) test

    -- the first that passes
    pub first_then : passes t.setting t.want (value_of images t c) ≡ true → slice_get (passing images t) 0 ≡ Some (value_of images t c)
    first_then test =
        let behind = passing_of images t (drop (k + 1) (candidates t)) in
        ap (λ xs. slice_get xs 0) (split_at images t k c (value_of images t c) is lt (reading_stands images t c standing) test
        ∙ ap (λ xs. xs ++ value_of images t c ∷ behind) so_far)

  -- none of them passes
  pub none_of_all : (k : ℕ) → length (candidates t) ≤ k → passing_of images t (take k (candidates t)) ≡ [] → passing images t ≡ []
  none_of_all k le none = ap (passing_of images t) (sym (take_all k (candidates t) le)) ∙ none

  -- where none of some candidates passes, each of them that stands fails the test
  fails_in : (cs : List Candidate) (c : Candidate) → passing_of images t cs ≡ [] → In c cs → stands t c ≡ true
      → passes t.setting t.want (value_of images t c) ≡ false
  fails_in [] c none i standing = absurd i
  fails_in (d ∷ cs) c none i standing =
      let parts = nothing_left (passing_of images t (d ∷ [])) (passing_of images t cs) (sym (passing-append images t (d ∷ []) cs) ∙ none) in
      by i parts.0 (fails_in cs c parts.1)
    where
      here : (b : Bool) → passes t.setting t.want (value_of images t c) ≡ b → passing_of images t (c ∷ []) ≡ [] → stands t c ≡ true → b ≡ false
      here true test none standing = let one = sym (passes_first images t c [] (value_of images t c) (reading_stands images t c standing) test) ∙ none in cc
      here false test none standing = refl

      by : (d ≡ c) ⊎ In c cs → passing_of images t (d ∷ []) ≡ []
          → (In c cs → stands t c ≡ true → passes t.setting t.want (value_of images t c) ≡ false) → passes t.setting t.want (value_of images t c) ≡ false
      by (inl same) none rest = here (passes t.setting t.want (value_of images t c)) refl (subst (λ e. passing_of images t (e ∷ []) ≡ []) same none) standing
      by (inr j) none rest = rest j standing

  -- where no candidate passes, each that stands fails the test
  pub fails_where_none : (c : Candidate) → passing images t ≡ [] → In c (candidates t) → stands t c ≡ true
      → passes t.setting t.want (value_of images t c) ≡ false
  fails_where_none c none i standing = fails_in (candidates t) c none i standing

-- The ways to get bytes, in the order in which they are tried.
use Rattle.std.proofs.Common.{◌≡◌, ℕ, zero, suc, ◌+◌, ◌-◌, ◌<◌, ◌≤◌, Bool, true, false, not, cond, ◌&&◌, ◌||◌, eqb, List, [], ◌∷◌, ◌++◌, length, map, take}
use Rattle.std.proofs.Common.{get_or, Some, slice_get, Ok, Err, refl, sym, ap, ◌∙◌, subst, inl, inr, arith, length-append}
use Rattle.std.specs.Bool.{beq}
use Rattle.std.proofs.lemmas.Bool.{false≢true}
use Rattle.std.proofs.lemmas.List.Filters.{length-filter_both}
use Rattle.std.proofs.lemmas.List.{length-map, get_or-map}
use Rattle.std.proofs.lemmas.List.FromFn.{get_or-range_with_len, length-range_with_len}
use Rattle.std.proofs.lemmas.Option.{slice_get-get_or, slice_get_past, slice_get_within}
use Rattle.std.specs.List.{Any, filter, list_any, range_with_len}
use Rattle.std.specs.Option.{option_map_or}
use Rattle.btr_chunk.specs.Chunk.{mirrors}
use Rattle.btr_chunk.specs.Mapping.{place_at}
use Rattle.btr_chunk.specs.declared.place.Part.{Part}
use Rattle.btr_chunk.specs.declared.place.Part.TheVariants.{Mirror, Slice}
use Rattle.btr_chunk.specs.declared.profile.Profile.TheVariants.{Raid6}
use Rattle.btr_read.specs.Candidates.{Target, among, candidates, copies, is_on_older, others, parts_read, reads_older, rebuilt, slice_count, ways}
use Rattle.btr_read.specs.Layout.{device_in, is_older}
use Rattle.btr_read.specs.Order.{FitsAmong, IsWayAt}
use Rattle.btr_read.specs.Sought.{IsByParities}
use Rattle.btr_read.specs.declared.candidate.Candidate.{Candidate}
use Rattle.btr_read.specs.declared.candidate.Candidate.TheVariants.{Read, ByP, ByQ, ByBoth}
use Rattle.btr_read.specs.declared.device.Device.{Device}
use Rattle.btr_read.specs.declared.device.Member.{Member}
use Rattle.btr_read.proofs.InOrder.{with_p_and_q}
use Rattle.btr_read.proofs.Ones.{In, at_in, below_in, in_at, in_below, in_either, in_left, in_right}

-- ---- a list, and those of it that pass a test

module _ {X : Type 0} (p : X → Bool) where
  -- one that passes stands behind those that pass before it
  pub filter_at : (xs : List X) (i : ℕ) (x : X) → slice_get xs i ≡ Some x → p x ≡ true → slice_get (filter p xs) (length (filter p (take i xs))) ≡ Some x
  filter_at [] zero x at test = cc
  filter_at [] (suc i) x at test = cc
  filter_at (y ∷ ys) zero x at test =
      let same : y ≡ x = cc in
      ap (λ b. slice_get (cond b (y ∷ filter p ys) (filter p ys)) 0) (ap p same ∙ test) ∙ ap Some same
  filter_at (y ∷ ys) (suc i) x at test = by (p y) (filter_at ys i x at test)
    where
      by : (b : Bool) → slice_get (filter p ys) (length (filter p (take i ys))) ≡ Some x
          → slice_get (cond b (y ∷ filter p ys) (filter p ys)) (length (cond b (y ∷ filter p (take i ys)) (filter p (take i ys)))) ≡ Some x
      by true rest = rest
      by false rest = rest

  -- what a test leaves of a list was in the list
  pub of_filter : (x : X) (xs : List X) → In x (filter p xs) → In x xs
  of_filter x [] h = absurd h
  of_filter x (y ∷ ys) h = by (p y) h (of_filter x ys)
    where
      by : (b : Bool) → In x (cond b (y ∷ filter p ys) (filter p ys)) → (In x (filter p ys) → In x ys) → In x (y ∷ ys)
      by true (inl same) rest = inl same
      by true (inr j) rest = inr (rest j)
      by false j rest = inr (rest j)

  -- what is in a list and passes the test is left
  pub to_filter : (x : X) (xs : List X) → In x xs → p x ≡ true → In x (filter p xs)
  to_filter x [] h e = absurd h
  to_filter x (y ∷ ys) (inl same) e = subst (λ b. In x (cond b (y ∷ filter p ys) (filter p ys))) (sym (ap p same ∙ e)) (inl same)
  to_filter x (y ∷ ys) (inr h) e = by (p y) (to_filter x ys h e)
    where
      by : (b : Bool) → In x (filter p ys) → In x (cond b (y ∷ filter p ys) (filter p ys))
      by true j = inr j
      by false j = j

-- an entry of a list stands at the same place with more behind
slice_left : {X : Type 0} (xs ys : List X) (k : ℕ) (x : X) → slice_get xs k ≡ Some x → slice_get (xs ++ ys) k ≡ Some x
slice_left [] ys zero x at = cc
slice_left [] ys (suc k) x at = cc
slice_left (y ∷ xs) ys zero x at = at
slice_left (y ∷ xs) ys (suc k) x at = slice_left xs ys k x at

-- behind a list stand the entries of the list that follows
slice_right : {X : Type 0} (xs ys : List X) (left : ℕ) → slice_get (xs ++ ys) (left + length xs) ≡ slice_get ys left
slice_right [] ys left = ap (slice_get ys) (omega arith)
slice_right (x ∷ xs) ys left =
    let next : left + suc (length xs) ≡ suc (left + length xs) = omega arith in
    ap (slice_get (x ∷ xs ++ ys)) next ∙ slice_right xs ys left

-- ---- the order

module _ (t : Target) where
  one_or_other : (b : Bool) → beq b true ≡ not (beq b false)
  one_or_other true = refl
  one_or_other false = refl

  -- there are as many candidates as ways
  pub length-candidates : length (candidates t) ≡ length (ways t)
  length-candidates =
      length-append (among t false) (among t true)
      ∙ length-filter_both (λ c. beq (reads_older t c) false) (λ c. beq (reads_older t c) true) (λ c. one_or_other (reads_older t c)) (ways t)

  -- and they are the same ones
  pub in_candidates : (c : Candidate) → In c (ways t) → In c (candidates t)
  in_candidates c h = by (reads_older t c) refl
    where
      by : (b : Bool) → reads_older t c ≡ b → In c (candidates t)
      by true e = in_right c (among t false) (among t true) (to_filter (λ c. beq (reads_older t c) true) c (ways t) h (ap (λ b. beq b true) e))
      by false e = in_left c (among t false) (among t true) (to_filter (λ c. beq (reads_older t c) false) c (ways t) h (ap (λ b. beq b false) e))

  -- each candidate in the order is one of the ways
  pub in_ways : (c : Candidate) → In c (candidates t) → In c (ways t)
  in_ways c h = elim (in_either c (among t false) (among t true) h) [
    | inl i ↦ of_filter (λ c. beq (reads_older t c) false) c (ways t) i
    | inr i ↦ of_filter (λ c. beq (reads_older t c) true) c (ways t) i
  ]

  -- what some way has some candidate in the order has
  pub any_candidates : (P : Candidate → Type 0) → Any P (ways t) → Any P (candidates t)
  any_candidates P h =
      let there = subst (λ c. In c (ways t)) h.3 (in_at (ways t) h.0 h.1 h.2) in
      let at = at_in h.1 (candidates t) (in_candidates h.1 there) in
      (at.0, h.1, at.1, at.2, h.4)

  -- where no way reads an older image, those that read none, before those that do, are all in their order
  newest : (cs : List Candidate) → length (filter (λ c. beq (reads_older t c) true) cs) ≡ 0
      → filter (λ c. beq (reads_older t c) false) cs ++ filter (λ c. beq (reads_older t c) true) cs ≡ cs
  newest [] e = refl
  newest (c ∷ cs) e = by (reads_older t c) e (newest cs)
    where
      by : (b : Bool) → length (cond (beq b true) (c ∷ filter (λ c. beq (reads_older t c) true) cs) (filter (λ c. beq (reads_older t c) true) cs)) ≡ 0
          → (length (filter (λ c. beq (reads_older t c) true) cs) ≡ 0 → filter (λ c. beq (reads_older t c) false) cs
          ++ filter (λ c. beq (reads_older t c) true) cs ≡ cs)
          → cond (beq b false) (c ∷ filter (λ c. beq (reads_older t c) false) cs) (filter (λ c. beq (reads_older t c) false) cs)
          ++ cond (beq b true) (c ∷ filter (λ c. beq (reads_older t c) true) cs) (filter (λ c. beq (reads_older t c) true) cs) ≡ c ∷ cs
      by true e rest = absurd (omega (arith, e))
      by false e rest = ap (λ cs. c ∷ cs) (rest e)

  -- where no candidate reads an older image, the order is that of the ways
  pub same_order : length (among t true) ≡ 0 → candidates t ≡ ways t
  same_order e = newest (ways t) e

  -- where no device's image is older, that of an id isn't
  none_in : (members : List Member) (devid : ℕ) → list_any is_older members ≡ false
      → option_map_or (λ (device : Device). device.older) (device_in members devid) false ≡ false
  none_in [] devid none = refl
  none_in (m ∷ members) devid none = by m.device.older (eqb m.devid devid) refl none (none_in members devid)
    where
      by : (a b : Bool) → m.device.older ≡ a → (a || list_any is_older members) ≡ false
          → (list_any is_older members ≡ false → option_map_or (λ (device : Device). device.older) (device_in members devid) false ≡ false)
          → option_map_or (λ (device : Device). device.older) (cond b (Some m.device) (device_in members devid)) false ≡ false
      by true b is none rest = absurd (false≢true (sym none))
      by false true is none rest = is
      by false false is none rest = rest none

  -- where no device is older, no candidate reads an older image
  module _ (none : list_any is_older t.devices ≡ false) where
    -- where no device's image is older, no part lies on an older one
    none_read : (parts : List Part) → list_any (is_on_older t) parts ≡ false
    none_read [] = refl
    none_read (part ∷ parts) = ap (λ b. b || list_any (is_on_older t) parts) (none_in t.devices (place_at t.chunk part t.at).devid none) ∙ none_read parts

    -- where no device's image is older, no candidate reads an older one
    none_among : (cs : List Candidate) → length (filter (λ c. beq (reads_older t c) true) cs) ≡ 0
    none_among [] = refl
    none_among (c ∷ cs) =
        ap (λ b. length (cond (beq b true) (c ∷ filter (λ c. beq (reads_older t c) true) cs) (filter (λ c. beq (reads_older t c) true) cs)))
        (none_read (parts_read (slice_count t) t.at.index c))
        ∙ none_among cs

    -- where no device's image is older, the order is that of the ways
    pub none_older : candidates t ≡ ways t
    none_older = same_order (none_among (ways t))

    -- where no device's image is older, each place in the order has the way of its number
    pub none_older_at : (k : ℕ) → IsWayAt k k t
    none_older_at k = ap (λ cs. slice_get cs k) (sym none_older)

  -- the place of a candidate in the order
  pub first_part : (k way : ℕ) → FitsAmong t false k (Ok way) → IsWayAt k way t
  first_part k way h = h.1 ∙ sym (slice_left (among t false) (among t true) k h.0 h.2)

  -- a place behind those that read no older image is that of a way that reads one
  pub second_part : (k left way : ℕ) → FitsAmong t false k (Err left) → FitsAmong t true left (Ok way) → IsWayAt k way t
  second_part k left way before h = h.1 ∙ sym (ap (slice_get (candidates t)) (sym before) ∙ slice_right (among t false) (among t true) left ∙ h.2)

  -- a place behind all candidates is one behind all ways
  pub behind_all : (k left rest : ℕ) → FitsAmong t false k (Err left) → FitsAmong t true left (Err rest) → IsWayAt k k t
  behind_all k left rest before h =
      let all = length-append (among t false) (among t true) in
      let le : length (candidates t) ≤ k = omega (arith, before, h, all) in
      slice_get_past (ways t) k (omega (arith, le, length-candidates)) ∙ sym (slice_get_past (candidates t) k le)

-- ---- copies

-- the copy at a place is the mirror of its number
pub copy_at : (n m : ℕ) → m < n → slice_get (copies n) m ≡ Some (Read (Mirror m))
copy_at n m lt =
    let long : m < length (copies n) = omega (arith, lt, length-map (range_with_len 0 n) (λ copy. Read (Mirror copy)), length-range_with_len 0 n) in
    let at : get_or (copies n) m (Read (Mirror 0)) ≡ Read (Mirror m) =
    get_or-map (λ copy. Read (Mirror copy)) (range_with_len 0 n) m 0 (Read (Mirror 0)) (omega (arith, lt, length-range_with_len 0 n))
    ∙ ap (λ copy. Read (Mirror copy)) (get_or-range_with_len 0 n m 0 lt ∙ omega arith) in
    slice_get-get_or (copies n) m (Read (Mirror 0)) long ∙ ap Some at

-- there are as many candidates as copies
pub length-copies : (n : ℕ) → length (copies n) ≡ n
length-copies n = length-map (range_with_len 0 n) (λ copy. Read (Mirror copy)) ∙ length-range_with_len 0 n

-- the ways where there are copies
pub with_copies : (t : Target) (n : ℕ) → mirrors t.chunk ≡ Some n → ways t ≡ copies n
with_copies t n has = ap (λ o. option_map_or copies o (rebuilt t.chunk.profile (slice_count t) t.at.index)) has

-- the candidate at a place in the order is a copy
pub copy_in_order : (t : Target) (n k m : ℕ) → mirrors t.chunk ≡ Some n → k < n → IsWayAt k m t → (m < n)
    × (slice_get (candidates t) k ≡ Some (Read (Mirror m)))
copy_in_order t n k m has lt at =
    let long : length (candidates t) ≡ n = length-candidates t ∙ ap length (with_copies t n has) ∙ length-copies n in
    let there = slice_get-get_or (candidates t) k (Read (Mirror 0)) (omega (arith, lt, long)) in
    let within : m < n = omega (
      arith,
      slice_get_within (ways t) m (get_or (candidates t) k (Read (Mirror 0))) (at ∙ there),
      ap length
          (with_copies t n has),
      length-copies n,
    ) in
    (within, sym at ∙ ap (λ cs. slice_get cs m) (with_copies t n has) ∙ copy_at n m within)

-- behind the slice itself the ways of a row with P and Q are by parities
both_there : (xs : List ℕ) (j : ℕ) (c : Candidate) → slice_get (map ByBoth xs) j ≡ Some c → IsByParities c
both_there [] zero c e = cc
both_there [] (suc j) c e = cc
both_there (x ∷ xs) zero c e = let same : ByBoth x ≡ c = cc in subst IsByParities same tt
both_there (x ∷ xs) (suc j) c e = both_there xs j c e

-- with P and Q each way but the first is by parities
pub by_parities : (t : Target) (k : ℕ) (c : Candidate) → t.chunk.profile ≡ Raid6 → 0 < k → slice_get (ways t) k ≡ Some c → IsByParities c
by_parities t k c six some at = by k some (ap (λ cs. slice_get cs k) (sym (with_p_and_q t six)) ∙ at)
  where
    by : (k : ℕ) → 0 < k → slice_get (rebuilt Raid6 (length t.chunk.stripes - 2) t.at.index) k ≡ Some c → IsByParities c
    by zero some at = absurd (omega (arith, some))
    by (suc zero) some at = let same : ByP ≡ c = cc in subst IsByParities same tt
    by (suc (suc zero)) some at = let same : ByQ ≡ c = cc in subst IsByParities same tt
    by (suc (suc (suc j))) some at = both_there (others (length t.chunk.stripes - 2) t.at.index) j c at

-- ---- the slices that are read

module _ (f : Part → Bool) (p : ℕ → Bool) where
  -- of a list of slices none that is read passes a test, where each is unread or fails it
  none_of : (xs : List ℕ) → ((x : ℕ) → In x xs → (p x && f (Slice x)) ≡ false) → list_any f (map Slice (filter p xs)) ≡ false
  none_of [] h = refl
  none_of (x ∷ xs) h = by (p x) (f (Slice x)) refl (h x (inl refl)) (none_of xs (λ y i. h y (inr i)))
    where
      by : (b c : Bool) → f (Slice x) ≡ c → (b && c) ≡ false → list_any f (map Slice (filter p xs)) ≡ false
          → list_any f (map Slice (cond b (x ∷ filter p xs) (filter p xs))) ≡ false
      by true true e test rest = absurd (false≢true (sym test))
      by true false e test rest = ap (λ c. c || list_any f (map Slice (filter p xs))) e ∙ rest
      by false c e test rest = rest

  -- of a list of slices one that is read passes a test, where some slice is read and passes
  one_of : (xs : List ℕ) (x : ℕ) → In x xs → (p x && f (Slice x)) ≡ true → list_any f (map Slice (filter p xs)) ≡ true
  one_of [] x i test = absurd i
  one_of (y ∷ xs) x (inl same) test =
      let here : (p y && f (Slice y)) ≡ true = subst (λ z. (p z && f (Slice z)) ≡ true) (sym same) test in
      by (p y) (f (Slice y)) refl here
    where
      by : (b c : Bool) → f (Slice y) ≡ c → (b && c) ≡ true → list_any f (map Slice (cond b (y ∷ filter p xs) (filter p xs))) ≡ true
      by true true e test = ap (λ c. c || list_any f (map Slice (filter p xs))) e
      by true false e test = absurd (false≢true test)
      by false c e test = absurd (false≢true test)
  one_of (y ∷ xs) x (inr i) test = by (p y) (f (Slice y)) refl (one_of xs x i test)
    where
      by : (b c : Bool) → f (Slice y) ≡ c → list_any f (map Slice (filter p xs)) ≡ true → list_any f (map Slice (cond b (y ∷ filter p xs) (filter p xs))) ≡ true
      by true true e rest = ap (λ c. c || list_any f (map Slice (filter p xs))) e
      by true false e rest = ap (λ c. c || list_any f (map Slice (filter p xs))) e ∙ rest
      by false c e rest = rest

  -- of the slices below k none that is read passes a test, where each is unread or fails it
  pub none_slice : (k : ℕ) → ((s : ℕ) → s < k → (p s && f (Slice s)) ≡ false) → list_any f (map Slice (filter p (range_with_len 0 k))) ≡ false
  none_slice k h = none_of (range_with_len 0 k) (λ s i. h s (in_below k s i))

  -- of the slices below k one that is read passes a test, where some slice is read and passes
  pub one_slice : (k s : ℕ) → s < k → (p s && f (Slice s)) ≡ true → list_any f (map Slice (filter p (range_with_len 0 k))) ≡ true
  one_slice k s lt test = one_of (range_with_len 0 k) s (below_in k s lt) test

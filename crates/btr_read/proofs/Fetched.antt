-- What a fetch answers.
use Rattle.std.proofs.Common.{◌≡◌, ℕ, ◌≤◌, true, List, [], ◌∷◌, length, slice_get, Option, Some, None, IfSome, IsSomeAnd, Result, Ok, Err, IfOk, refl, sym, ap}
use Rattle.std.proofs.Common.{◌∙◌, subst, arith, inl, inr}
use Rattle.std.specs.List.{All, Any as AnyOf, Contains}
use Rattle.std.specs.Result.{is_ok}
use Rattle.btr_prog.specs.Calls.{Sure, First, Any}
use Rattle.btr_prog.specs.Calls as calls
use Rattle.btr_rack.specs.Rack.{Seen, Steady, OnlyReads, forgotten}
use Rattle.btr_read.specs.declared.fault.ReadFault.{ReadFault}
use Rattle.btr_read.specs.declared.fault.ReadFault.TheVariants as fault
use Rattle.btr_read.specs.declared.want.Want.{Want}
use Rattle.btr_read.specs.Want.{addr_of, passes}
use Rattle.btr_read.specs.Layout.{Layout}
use Rattle.btr_read.specs.Candidates.{Target, candidates, stands}
use Rattle.btr_read.specs.Fate.{Fault, Unmapped, Crosses, Lost, sought, passing, passing_for, or_lost, fate_of, fate, Agree, IsTested}
use Rattle.btr_rack.specs.declared.place.Place.{Place as Range}
use Rattle.btr_read.specs.Cause.{IsOf, LastOf, Passes, IsUnread}
use Rattle.btr_read.specs.Attempt.{IsFirstPassing, IsLater}
use Rattle.btr_read.specs.Reading.{AgreedOn, OnMap, shown}
use Rattle.btr_read.specs.Serves.{IsKept}
use Rattle.btr_read.specs.Store.{Blocks, Lent, block_of}
use Rattle.btr_read.specs.Fetch.{IsFetched, IsUnreadFor, FitsFetch, AnswersOf, CallsFetch}
use Rattle.btr_read.proofs.Fates.{sought_of}
use Rattle.btr_read.proofs.ReadsOn.{same_held}
use Rattle.btr_read.proofs.Trials.{told, telling}

-- what is seen of a rack that was told to forget
abbrev pub forgot : Seen → Seen
forgot seen = record seen { account = forgotten seen.account }

-- a list that contains something has a first entry, which it contains
first_there : (xs : List (List ℕ)) (bytes : List ℕ) → Contains xs bytes → (first : List ℕ) × (slice_get xs 0 ≡ Some first) × Contains xs first
first_there [] bytes h = absurd (omega (arith, h.1))
first_there (x ∷ xs) bytes h = (x, refl, (0, omega arith, refl))

-- a list contains its first entry
contains_first : (xs : List (List ℕ)) (bytes : List ℕ) → slice_get xs 0 ≡ Some bytes → Contains xs bytes
contains_first [] bytes e = cc
contains_first (x ∷ xs) bytes e = let same : x ≡ bytes = cc in (0, omega arith, same)

-- the bytes of a want's fate are among those that pass
fate_passes : (images : List (List ℕ)) (addr : ℕ) (s : Result Target Fault) (bytes : List ℕ) → fate_of images addr s ≡ Ok bytes
    → Contains (passing_for images s) bytes
fate_passes images addr (Err fault) bytes e = cc
fate_passes images addr (Ok t) bytes e = contains_first (passing images t) bytes (some_of (slice_get (passing images t) 0) e)
  where
    some_of : (o : Option (List ℕ)) → or_lost addr o ≡ Ok bytes → o ≡ Some bytes
    some_of None e = cc
    some_of (Some x) e = let same : x ≡ bytes = cc in ap Some same

-- a block that is kept is fetched without a read
pub kept_fetched : (layout : Layout) (want : Want) (old new : Seen) (bytes : List ℕ) → IsKept layout old.held (record { want = want; bytes = bytes })
    → IsFetched layout want old new bytes
kept_fetched layout want old new bytes h = record {
  pass = h.pass;
  stand = told old.held (λ images. Contains (passing_for images (sought layout want)) bytes)
      (λ images tells. fate_passes images (addr_of want) (sought layout want) bytes
      (telling old.held (λ images. fate images layout want ≡ Ok bytes) h.fate images tells));
  first = λ steady. h.fate;
  agreed = told old.held (λ images. Agree images layout want → fate images layout want ≡ Ok bytes)
      (λ images tells agree. telling old.held (λ images. fate images layout want ≡ Ok bytes) h.fate images tells);
}

-- then no call failed
pub kept_last : (layout : Layout) (want : Want) (old new : Seen) → new ≡ forgot old → (new.account.fresh ≡ 0) × (new.account.missed ≡ [])
    × IfOk (sought layout want) (λ t. LastOf t old.account new.account)
kept_last layout want old new e = (
  ap (λ (s : Seen). s.account.fresh) e,
  ap (λ (s : Seen). s.account.missed) e,
  if_ok (sought layout want) (λ t. LastOf t old.account new.account) (λ t. inl (ap (λ (s : Seen). s.account.last) e, ap (λ (s : Seen). s.account.opening) e)),
)
  where
    if_ok : (s : Result Target Fault) (P : Target → Type 0) → ((t : Target) → P t) → IfOk s P
    if_ok (Ok t) P f = f t
    if_ok (Err e) P f = tt

-- what is sought is found between a rack's two states `mid` and `after`, and before and behind these it is told to forget
module _ (layout : Layout) (want : Want) (t : Target) (old mid after new : Seen) (seeks : sought layout want ≡ Ok t) (begin : mid ≡ forgot old)
    (end : new ≡ forgot after) where
  -- forgetting before the search changes no image that is told
  held_mid : mid.held ≡ old.held
  held_mid = ap (λ (s : Seen). s.held) begin

  -- forgetting before the search leaves the count of faults
  faults_mid : mid.account.faults ≡ old.account.faults
  faults_mid = ap (λ (s : Seen). s.account.faults) begin

  -- forgetting behind the search leaves the count of faults
  faults_new : new.account.faults ≡ after.account.faults
  faults_new = ap (λ (s : Seen). s.account.faults) end

  -- bytes that pass for what is sought pass for the want
  pass_is : (bytes : List ℕ) → passes t.setting t.want bytes ≡ true → passes layout.setting want bytes ≡ true
  pass_is bytes test =
      let is = sought_of layout want t seeks in
      subst (λ s. passes s want bytes ≡ true) is.setting_is (subst (λ w. passes t.setting w bytes ≡ true) is.want_is test)

  module _ (bytes : List ℕ) where
    -- the bytes are those of the first candidate that stands and passes
    abbrev leads : List (List ℕ) → Type 0
    leads images = slice_get (passing images t) 0 ≡ Some bytes

    -- the bytes are among those of the candidates that stand and pass
    abbrev among : List (List ℕ) → Type 0
    among images = Contains (passing images t) bytes

    -- the first bytes that pass are the want's fate
    fate_is : IfSome mid.held leads → IfSome old.held (λ images. fate images layout want ≡ Ok bytes)
    fate_is h = told old.held (λ images. fate images layout want ≡ Ok bytes)
        (λ images tells. ap (fate_of images (addr_of want)) seeks ∙ ap (or_lost (addr_of want)) (telling mid.held leads h images (held_mid ∙ tells)))

    -- bytes that pass for what is sought are among those that pass for the want
    stands_for : IfSome mid.held among → IfSome old.held (λ images. Contains (passing_for images (sought layout want)) bytes)
    stands_for h = told old.held (λ images. Contains (passing_for images (sought layout want)) bytes)
        (λ images tells. subst (λ s. Contains (passing_for images s) bytes) (sym seeks) (telling mid.held among h images (held_mid ∙ tells)))

    -- where all bytes that pass are equal, any of them are the want's fate
    agreed_is : IfSome mid.held among → IfSome old.held (λ images. Agree images layout want → fate images layout want ≡ Ok bytes)
    agreed_is h = told old.held (λ images. Agree images layout want → fate images layout want ≡ Ok bytes) (λ images tells agree.
        let there = telling mid.held among h images (held_mid ∙ tells) in
        let one = first_there (passing images t) bytes there in
        let for : (xs : List ℕ) → Contains (passing images t) xs → Contains (passing_for images (sought layout want)) xs =
        λ xs h. subst (λ s. Contains (passing_for images s) xs) (sym seeks) h in
        let same : one.0 ≡ bytes = agree one.0 bytes (for one.0 one.2) (for bytes there) in
        ap (fate_of images (addr_of want)) seeks ∙ ap (or_lost (addr_of want)) (one.1 ∙ ap Some same))

    -- the first bytes that pass are among those that do
    among_first : IfSome mid.held leads → IfSome mid.held among
    among_first h = told mid.held among (λ images tells. contains_first (passing images t) bytes (telling mid.held leads h images tells))

    -- the first that passes
    pub first_fetched : IsFirstPassing t mid after bytes → IsFetched layout want old new bytes
    first_fetched h = record {
      pass = pass_is bytes h.pass;
      stand = stands_for (among_first h.first);
      first = λ steady. fate_is h.first;
      agreed = agreed_is (among_first h.first);
    }

    -- it may be kept
    pub first_kept : IsFirstPassing t mid after bytes → IsKept layout old.held (record { want = want; bytes = bytes })
    first_kept h = record { sought = ap is_ok seeks; pass = pass_is bytes h.pass; fate = fate_is h.first }

    -- one that passes after a read that failed
    pub not_steady : IsLater t mid after bytes → Steady old.account.faults new.account.faults → ⊥
    not_steady h steady = omega (arith, h.rose.0, h.rose.1, steady.0, steady.1, faults_mid, faults_new)

    -- bytes that passed after a failed read are what a fetch may answer
    pub later_fetched : IsLater t mid after bytes → IsFetched layout want old new bytes
    later_fetched h = record {
      pass = pass_is bytes h.pass;
      stand = stands_for h.stand;
      first = λ steady. absurd (not_steady h steady);
      agreed = agreed_is h.stand;
    }

    -- where no read failed, the last failed call is the one before
    pub first_last : IsFirstPassing t mid after bytes → IfOk (sought layout want) (λ t. LastOf t old.account new.account)
    first_last h = subst (λ s. IfOk s (λ t. LastOf t old.account new.account)) (sym seeks) (inl (
      ap (λ (s : Seen). s.account.last) end ∙ h.none.last ∙ ap (λ (s : Seen). s.account.last) begin,
      ap (λ (s : Seen). s.account.opening) end ∙ h.none.opening ∙ ap (λ (s : Seen). s.account.opening) begin,
    ))

    -- where a read failed, the last failed call lies in a range of a candidate that stands
    pub later_last : IsLater t mid after bytes → IfOk (sought layout want) (λ t. LastOf t old.account new.account)
    later_last h =
        let last : new.account.last ≡ after.account.last = ap (λ (s : Seen). s.account.last) end in
        subst (λ s. IfOk s (λ t. LastOf t old.account new.account)) (sym seeks) (inr (
          ap (λ (s : Seen). s.account.opening) end ∙ h.read,
          subst (λ (l : Range). AnyOf (λ candidate. (stands t candidate ≡ true) × IsOf t l candidate) (candidates t)) (sym last) h.of_candidate,
        ))

  -- none passes
  pub lost_fetched : (store : Blocks) → IfSome mid.held (λ images. slice_get (passing images t) 0 ≡ None)
      → FitsFetch layout want old after store (Err (fault.Lost (addr_of want)))
  lost_fetched store h = (
    refl,
    ap is_ok seeks,
    told old.held (λ images. fate images layout want ≡ Err (Lost (addr_of want)))
        (λ images tells. ap (fate_of images (addr_of want)) seeks
        ∙ ap (or_lost (addr_of want)) (telling mid.held (λ images. slice_get (passing images t) 0 ≡ None) h images (held_mid ∙ tells))),
  )

  -- some read failed
  pub unread_fetched : (slot : ℕ) → IsUnread t mid after slot → IsUnreadFor layout want old after (addr_of want) slot
  unread_fetched slot h = record {
    same_addr = refl;
    target = t;
    is_sought = seeks;
    unread = record {
      unsure = sym (ap (λ (s : Seen). s.sure) begin) ∙ h.unsure;
      rose = (omega (arith, h.rose.0, faults_mid), omega (arith, h.rose.1, faults_mid));
      read = h.read;
      on_slot = h.on_slot;
      of_candidate = h.of_candidate;
      only = h.only;
      some = h.some;
      enough = subst (λ (o : Option (List (List ℕ))). IfSome o (λ images. length (passing images t) ≤ after.account.fresh)) held_mid h.enough;
      each = subst (λ (o : Option (List (List ℕ))). IfSome o
          (λ images. All (λ candidate. Passes images t candidate → AnyOf (λ missed. IsOf t missed candidate) after.account.missed) (candidates t)))
          held_mid h.each;
    };
  }

-- ---- as calls

-- a fact of what may be there gives the fact that follows from it
pub map_some : {X : Type 0} (o : Option X) (P Q : X → Type 0) → ((x : X) → P x → Q x) → IfSome o P → IfSome o Q
map_some None P Q f p = tt
map_some (Some x) P Q f p = f x p

-- what holds of all holds of what may be there
pub if_all : {X : Type 0} (o : Option X) (P : X → Type 0) → ((x : X) → P x) → IfSome o P
if_all None P f = tt
if_all (Some x) P f = f x

-- the bytes that were fetched for a tested want are its fate, where no count rose or all candidates agree
known : (layout : Layout) (want : Want) (old new : Seen) (bytes : List ℕ) → IsTested want → IsFetched layout want old new bytes → (sure : Sure)
    → calls.CanTell (AgreedOn layout) sure (shown old) (shown new) → IfSome old.held (λ images. fate images layout want ≡ Ok bytes)
known layout want old new bytes tested f First s = f.first (omega (arith, s.0), s.1)
known layout want old new bytes tested f Any s = both old.held s f.agreed
  where
    both : (o : Option (List (List ℕ))) → AgreedOn layout o → IfSome o (λ images. Agree images layout want → fate images layout want ≡ Ok bytes)
        → IfSome o (λ images. fate images layout want ≡ Ok bytes)
    both None s f = tt
    both (Some images) s f = f (s want tested)

-- what a fetch answers, as a call that was steady
pub calls_of : (layout : Layout) (want : Want) (old new : Seen) (store : Blocks) (result : Result Lent ReadFault) → OnlyReads old new
    → FitsFetch layout want old new store result → CallsFetch layout want old new store result
calls_of layout want old new store result reads fits tested = record {
  same = same_held reads;
  later = reads.later;
  content = content result fits;
}
  where
    -- the bytes of the loan are those of the block map, so far as the call can tell
    bytes_came : (loan : Lent) (o : Option (List ℕ)) → block_of store loan ≡ o → IsSomeAnd o (IsFetched layout want old new) → (sure : Sure)
        → calls.CanTell (AgreedOn layout) sure (shown old) (shown new) → OnMap layout (AnswersOf want store (Ok loan)) sure old.held
    bytes_came loan None e h sure s = absurd h
    bytes_came loan (Some block) e h sure s = map_some old.held (λ images. fate images layout want ≡ Ok block)
        (λ images. AnswersOf want store (Ok loan) (fate images layout))
        (λ images is. subst (λ o. IsSomeAnd o (λ block. fate images layout want ≡ Ok block)) (sym e) is) (known layout want old new block tested h sure s)

    -- each answer of a fetch is that of the block map, so far as the call can tell
    content : (result : Result Lent ReadFault) → FitsFetch layout want old new store result → (sure : Sure)
        → calls.CanTell (AgreedOn layout) sure (shown old) (shown new) → OnMap layout (AnswersOf want store result) sure old.held
    content (Ok loan) f sure s = bytes_came loan (block_of store loan) refl f.1 sure s
    content (Err (fault.Lost a)) f sure s = map_some old.held (λ images. fate images layout want ≡ Err (Lost a))
        (λ images. fate images layout want ≡ Err (Lost a)) (λ images e. e) f.2
    content (Err (fault.Unread a slot)) f sure s = if_all old.held (λ images. a ≡ addr_of want) (λ images. f.same_addr)
    content (Err (fault.Unmapped a)) f sure s = if_all old.held (λ images. fate images layout want ≡ Err (Unmapped a))
        (λ images. ap (fate_of images (addr_of want)) f)
    content (Err (fault.Crosses a)) f sure s = if_all old.held (λ images. fate images layout want ≡ Err (Crosses a))
        (λ images. ap (fate_of images (addr_of want)) f)

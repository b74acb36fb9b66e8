-- Syncing one image after another.
use Rattle.std.proofs.Common.{◌≡◌, ℕ, ◌+◌, ◌<◌, ◌≤◌, Bool, true, false, not, cond, eqb, List, [], ◌∷◌, ◌++◌, length, get_or, Ok, Err, refl, sym, ap, ◌∙◌, subst}
use Rattle.std.proofs.Common.{inl, inr, arith}
use Rattle.btr_scrub_copies.proofs.Common.{AccountsMend, Image, In, Memory, MendFault, NoneFailed, Range, Seen, cases_lt, false≢true, filter}
use Rattle.std.proofs.lemmas.Bool.{eq-eqb, eqb-true, ne_eqb}
use Rattle.btr_rack.specs.Rack.{in_others, in_slot}
use Rattle.btr_scrub_copies.proofs.Doing.{account_then}
use Rattle.btr_scrub_copies.specs.Syncing.{AreSynced, IsSync, OnlySyncs, SyncsOne, WaitsBehind, WaitsBehindAll, Unmarks}
use Rattle.btr_scrub_copies.proofs.Lists.{filter_twice}

-- what is kept by a test is one of the list, and passes
pub passing_filter : {X : Type 0} (p : X → Bool) (x : X) (xs : List X) → In x (filter p xs) → In x xs × (p x ≡ true)
passing_filter p x [] h = absurd h
passing_filter p x (y ∷ xs) h = by (p y) refl h (passing_filter p x xs)
  where
    by : (b : Bool) → p y ≡ b → In x (cond b (y ∷ filter p xs) (filter p xs)) → (In x (filter p xs) → In x xs × (p x ≡ true)) → In x (y ∷ xs) × (p x ≡ true)
    by true e (inl same) rest = (inl same, ap p (sym same) ∙ e)
    by true e (inr i) rest = let r = rest i in (inr r.0, r.1)
    by false e i rest = let r = rest i in (inr r.0, r.1)

-- two calls that only synced only synced together
pub only_more : (a b c : Seen) → OnlySyncs a b → OnlySyncs b c → OnlySyncs a c
only_more a b c h k = record {
  same = k.same ∙ ap (λ (s : Seen). record s { account = c.account }) h.same;
  later = omega (arith, h.later, k.later);
  same_shut = k.same_shut ∙ h.same_shut;
}

-- a sync leaves the slots
pub sync_slots : (a b : Seen) → OnlySyncs a b → b.slots ≡ a.slots
sync_slots a b h = ap (λ (s : Seen). s.slots) h.same

-- a sync leaves the bytes of the images
pub sync_held : (a b : Seen) → OnlySyncs a b → b.held ≡ a.held
sync_held a b h = ap (λ (s : Seen). s.held) h.same

-- so far the first n marks
pub record SyncedSoFar (marks now : List Bool) (n : ℕ) (a b : Seen) : Type 0 where
  pub only : OnlySyncs a b
  pub account : NoneFailed a.account b.account
  pub synced : AreSynced marks n a.unsynced b.unsynced
  pub left : (k : ℕ) → n ≤ k → get_or now k false ≡ get_or marks k false
  pub taken : (k : ℕ) → k < n → get_or now k false ≡ false
  pub long : length now ≡ length marks
  pub behind : (k : ℕ) → n ≤ k → in_slot k b.unsynced ≡ in_slot k a.unsynced
  pub stranded : b.never_synced ≡ a.never_synced

not_same : (a b : ℕ) → not (eqb a b) ≡ true → a ≡ b → ⊥
not_same a b e same = false≢true (sym (ap not (eq-eqb a b same)) ∙ e)

-- the ranges of another slot are as they were behind a sync
others_slot : (k n : ℕ) → (k ≡ n → ⊥) → (ranges : List Range) → in_slot k (in_others n ranges) ≡ in_slot k ranges
others_slot k n apart ranges = filter_twice (λ range. eqb range.slot k) (λ range. not (eqb range.slot n)) ranges
    (λ range e. ap not (ne_eqb range.slot n (λ same. apart (sym (eqb-true range.slot k e) ∙ same))))

-- of what was left before, so much is left now
synced_next : (marks : List Bool) (n : ℕ) (before now left : List Range) → AreSynced marks n before now
    → ((range : Range) → In range left → In range now × (range.slot ≡ n → get_or marks range.slot false ≡ false)) → AreSynced marks (n + 1) before left
synced_next marks n before now left h here = record {
  among = λ range i.
      let at = here range i in
      let was = h.among range at.0 in
      (was.0, λ lt. elim (cases_lt range.slot n) [ inl below ↦ was.1 below | inr above ↦ at.1 (omega (arith, lt, above)) ]);
}

-- of what was left before, so much is left after a sync of this slot
synced_others : (marks : List Bool) (n : ℕ) (before now left : List Range) → AreSynced marks n before now → left ≡ in_others n now
    → AreSynced marks (n + 1) before left
synced_others marks n before now left h is = synced_next marks n before now left h (λ range i.
    let f = passing_filter (λ (r : Range). not (eqb r.slot n)) range now (subst (In range) is i) in
    (f.0, λ same. absurd (not_same range.slot n f.1 same)))

module _ {marks now : List Bool} {n : ℕ} {a b c : Seen} (h : SyncedSoFar marks now n a b) (one : SyncsOne (get_or now n false) n b c (Ok tt)) where
  -- the images of one more mark are synced
  pub synced_more : AreSynced marks (n + 1) a.unsynced c.unsynced
  synced_more = by (get_or now n false) (sym (h.left n (omega arith))) one.synced.0
    where
      by : (m : Bool) → get_or marks n false ≡ m → c.unsynced ≡ cond m (in_others n b.unsynced) b.unsynced → AreSynced marks (n + 1) a.unsynced c.unsynced
      by true e is = synced_others marks n a.unsynced b.unsynced c.unsynced h.synced is
      by false e is = synced_next marks n a.unsynced b.unsynced c.unsynced h.synced
          (λ range i. (subst (In range) is i, λ same. ap (λ k. get_or marks k false) same ∙ e))

  -- what waits on the images behind it is as it was
  pub behind_more : (k : ℕ) → n + 1 ≤ k → in_slot k c.unsynced ≡ in_slot k a.unsynced
  behind_more k le = by (get_or now n false) one.synced.0 ∙ h.behind k (omega (arith, le))
    where
      by : (m : Bool) → c.unsynced ≡ cond m (in_others n b.unsynced) b.unsynced → in_slot k c.unsynced ≡ in_slot k b.unsynced
      by true is = ap (in_slot k) is ∙ others_slot k n (λ same. omega (arith, le, same)) b.unsynced
      by false is = ap (in_slot k) is

module _ {marks now : List Bool} {n : ℕ} {m : Bool} {a b c : Seen} {fault : MendFault} (h : SyncedSoFar marks now n a b)
    (one : SyncsOne m n b c (Err fault)) where
  -- what waits behind a sync that failed
  pub waits_behind : WaitsBehindAll marks a c (Err fault)
  waits_behind = of fault one.synced
    where
      of : (fault : MendFault) → WaitsBehind m n b c (Err fault) → WaitsBehindAll marks a c (Err fault)
      of (Image slot) w = rw w.0 (
        synced_others marks n a.unsynced b.unsynced c.unsynced h.synced w.1,
        w.2 ∙ (λ i. h.stranded i ++ h.behind n (omega arith) i),
      )
      of Memory w = absurd w

  -- the marks behind it
  pub unmarked : Unmarks marks now (Err fault)
  unmarked = of fault one.synced
    where
      of : (fault : MendFault) → WaitsBehind m n b c (Err fault) → Unmarks marks now (Err fault)
      of (Image slot) w = λ k le. h.left k (omega (arith, le, w.0))
      of Memory w = absurd w

  -- the account behind it
  pub sync_account : AccountsMend {A = Unit {0}} IsSync a c (Err fault)
  sync_account = account_then {A = Unit {0}} IsSync a b c (Err fault) (ap (λ (s : Seen). s.sure) h.only.same) h.account one.account

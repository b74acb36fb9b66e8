-- Writes in two turns, put together.
use Rattle.std.proofs.Common.{◌≡◌, ◌⊎◌, ℕ, suc, ◌<◌, Bool, true, false, List, [], ◌∷◌, ◌++◌, length, get_or, All, Option, Some, IsSomeAnd, Result, Ok, Err}
use Rattle.std.proofs.Common.{refl, sym, ap, ◌∙◌, subst, inl, inr, arith, append-nil, IsErrAnd}
use Rattle.btr_scrub_copies.proofs.Common.{AccountsMend, AreAmong, DoesWrites, Image, Images, In, IsMarked, IsStopped, LeaveImages, Memory, MendFault}
use Rattle.btr_scrub_copies.proofs.Common.{NoneFailed, OnlyReads, Range, Seen, Write, cases_lt, false≢true, ranges_of, same_held}
use Rattle.std.specs.Prelude.{fold}
use Rattle.std.proofs.lemmas.List.{get_or_past}
use Rattle.btr_rack.specs.Rack.{in_slot}
use Rattle.btr_read.proofs.Ones.{in_either, in_left, in_right}
use Rattle.btr_read.proofs.Trials.{told, telling}
use Rattle.btr_scrub_copies.specs.Syncing.{AreMarked, IsSync, IsSyncOr, OnlySyncs, Strands, SyncsIf, SyncsMarked, WaitsBehindAll, plain}
use Rattle.btr_scrub_copies.specs.Turns.{IsInTurn, TakesTurns, WaitsAt, WaitsInTurn, waiting}
use Rattle.btr_scrub_copies.specs.Writes.{write_on}
use Rattle.btr_scrub_copies.proofs.Doing.{does_behind, does_failed, does_halt, does_reads, does_then, own_none, marks_none, passed, stopped_first}
use Rattle.btr_scrub_copies.proofs.Syncs.{passing_filter, sync_held}
use Rattle.btr_scrub_copies.proofs.Lists.{some_and}

-- ---- a rack, whatever waits for a sync

-- the account of a call is the same whatever waits for a sync
pub fails_plain : {A : Type 0} (P Q : Range → Type 0) (a b : Seen) (r : Result A MendFault) → ((range : Range) → P range → Q range)
    → AccountsMend P a b r → AccountsMend Q (plain a) (plain b) r
fails_plain P Q a b (Err (Image slot)) weak h = record {
  place = h.place;
  failed = record { one = h.failed.one; read = h.failed.read; shut = h.failed.shut; unsure = h.failed.unsure };
  on_slot = h.on_slot;
  lies = weak h.place h.lies;
}
fails_plain P Q a b r weak h = h

-- what a call did is the same whatever waits for a sync
pub does_plain : {A : Type 0} (P Q : Range → Type 0) (f : Images → List Write) (m n : List Bool) (a b : Seen) (r : Result A MendFault)
    → ((range : Range) → P range → Q range) → DoesWrites P f m n a b r → DoesWrites Q f [] [] (plain a) (plain b) r
does_plain P Q f m n a b r weak h = record {
  ranges = [];
  only = record { same = ap plain h.only.same; later = h.only.later; same_shut = h.only.same_shut };
  own = own_none a.held f;
  lie = λ range i. absurd i;
  marked = marks_none [];
  held = h.held;
  account = fails_plain P Q a b r weak h.account;
}

-- where what waits isn't looked at, a sync only reads
sync_reads : (a b : Seen) → OnlySyncs a b → OnlyReads (plain a) (plain b)
sync_reads a b h = record { same = h.same; later = h.later; same_shut = h.same_shut }

-- where what waits isn't looked at, a read only reads too
pub reads_plain : (a b : Seen) → OnlyReads a b → OnlyReads (plain a) (plain b)
reads_plain a b h = record { same = ap plain h.same; later = h.later; same_shut = h.same_shut }

-- where what waits isn't looked at, syncs write nothing
pub does_sync : (P : Range → Type 0) (m n : List Bool) (a b : Seen) (r : Result (Unit {0}) MendFault) → SyncsMarked m n a b r
    → DoesWrites (IsSyncOr P) (λ i. []) [] [] (plain a) (plain b) r
does_sync P m n a b (Ok x) h = does_reads (IsSyncOr P) [] (plain a) (plain b) x (sync_reads a b h.only) h.account
does_sync P m n a b (Err e) h =
    does_failed (IsSyncOr P) (Unit {0}) (Unit {0}) (λ i. []) [] (plain a) (plain b) e (sync_reads a b h.only)
    (fails_plain {A = Unit {0}} IsSync (IsSyncOr P) a b (Err e) (λ range l. inl l) h.account)

-- nothing more waits for good
pub strands_none : {A : Type 0} (r : Result A MendFault) (before now : List Range) → now ≡ before → Strands before now r
strands_none (Err (Image slot)) before now same = ([], same ∙ sym (append-nil before))
strands_none r before now same = same

-- what waits for good after a fault is the same for a call with any value
pub strands_same : (A B : Type 0) (e : MendFault) (old new : List Range) → Strands {A = A} old new (Err e) → Strands {A = B} old new (Err e)
strands_same A B (Image slot) old new h = h
strands_same A B Memory old new h = h

-- ---- what is marked

-- what holds of all holds of each one in the list
pub all_at : {X : Type 0} (P : X → Type 0) (xs : List X) (x : X) → All P xs → In x xs → P x
all_at P [] x all i = absurd i
all_at P (y ∷ xs) x all (inl e) = subst P e (all 0 y (omega arith))
all_at P (y ∷ xs) x all (inr i) = all_at P xs x (λ j d lt. all (suc j) d (omega (arith, lt))) i

-- a slot that is marked is below the number of marks
pub marked_below : (marks : List Bool) (slot : ℕ) → get_or marks slot false ≡ true → slot < length marks
marked_below marks slot e = elim (cases_lt slot (length marks)) [ inl lt ↦ lt | inr le ↦ absurd (false≢true (sym (get_or_past marks slot false le) ∙ e)) ]

module _ {A : Type 0} (P : Range → Type 0) (f : Images → List Write) (m n : List Bool) (a b : Seen) (r : Result A MendFault)
    (h : DoesWrites P f m n a b r) where
  -- what waits for good is as before
  pub same_never : b.never_synced ≡ a.never_synced
  same_never = ap (λ (s : Seen). s.never_synced) h.only.same

  -- the ranges of the writes wait behind what waited before
  now_waits : b.unsynced ≡ a.unsynced ++ h.ranges
  now_waits = ap (λ (s : Seen). s.unsynced) h.only.same

  -- its own ranges are marked
  own_marked : (range : Range) → In range h.ranges → IsMarked n range.slot
  own_marked range i = all_at (λ (r : Range). IsMarked n r.slot) h.ranges range h.marked.added i

  -- where all that waited was marked, it still is, and the ranges of the writes too
  pub marked_after : AreMarked m a.unsynced → AreMarked n b.unsynced
  marked_after all range i = elim (in_either range a.unsynced h.ranges (subst (In range) now_waits i)) [
    | inl j ↦ h.marked.kept range.slot (all range j)
    | inr j ↦ own_marked range j
  ]

  -- what waits behind it waited before, or is its own
  pub among_after : AreAmong (waiting b) (waiting a ++ h.ranges)
  among_after range i = elim (in_either range b.unsynced b.never_synced i) [
    | inl j ↦ elim (in_either range a.unsynced h.ranges (subst (In range) now_waits j)) [
      | inl k ↦ in_left range (waiting a) h.ranges (in_left range a.unsynced a.never_synced k)
      | inr k ↦ in_right range (waiting a) h.ranges k
    ]
    | inr j ↦ in_left range (waiting a) h.ranges (in_right range a.unsynced a.never_synced (subst (In range) same_never j))
  ]

  -- at a place of which P holds
  pub waits_at : WaitsAt P a b
  waits_at range i = elim (in_either range (waiting a) h.ranges (among_after range i)) as (λ _. In range (waiting a) ⊎ P range) [
    | inl j ↦ inl j
    | inr j ↦ inr (h.lie range j)
  ]

-- where all that waited was marked, all that still waits is
pub marked_synced : (m n : List Bool) (a b : Seen) (r : Result (Unit {0}) MendFault) → SyncsMarked m n a b r → AreMarked m a.unsynced → AreMarked n b.unsynced
marked_synced m n a b (Ok x) h all range i =
    let among = h.synced.0.among range i in
    let marked = all range among.0 in
    absurd (false≢true (sym (among.1 (marked_below m range.slot marked)) ∙ marked))
marked_synced m n a b (Err (Image slot)) h all range i =
    let among = h.synced.0.among range i in
    let marked = all range among.0 in
    elim (cases_lt range.slot slot) [
      | inl lt ↦ absurd (false≢true (sym (among.1 (omega (arith, lt))) ∙ marked))
      | inr le ↦ h.unmarks range.slot le ∙ marked
    ]
marked_synced m n a b (Err Memory) h all range i = absurd h.synced

-- ---- what waits behind a sync

-- at most what waited before
pub among_synced : (m n : List Bool) (a b : Seen) (r : Result (Unit {0}) MendFault) → SyncsMarked m n a b r → AreAmong (waiting b) (waiting a)
among_synced m n a b (Ok x) h range i = elim (in_either range b.unsynced b.never_synced i) [
  | inl j ↦ in_left range a.unsynced a.never_synced (h.synced.0.among range j).0
  | inr j ↦ in_right range a.unsynced a.never_synced (subst (In range) h.synced.1 j)
]
among_synced m n a b (Err (Image slot)) h range i = elim (in_either range b.unsynced b.never_synced i) [
  | inl j ↦ in_left range a.unsynced a.never_synced (h.synced.0.among range j).0
  | inr j ↦ elim (in_either range a.never_synced (in_slot slot a.unsynced) (subst (In range) h.synced.1 j)) [
    | inl k ↦ in_right range a.unsynced a.never_synced k
    | inr k ↦ in_left range a.unsynced a.never_synced (passing_filter _ range a.unsynced k).0
  ]
]
among_synced m n a b (Err Memory) h range i = absurd h.synced

-- ---- the images

-- writes that are all done were stopped behind the last one
pub stopped_whole : (ws : List Write) (images : Images) → IsStopped ws images (fold write_on images ws)
stopped_whole ws images = record { before = ws; behind = []; place = sym (append-nil ws); stands = inl refl }

-- the images behind writes, whatever became of them
stopped_by : {A : Type 0} (ws : List Write) (images : Images) (held : Option Images) (r : Result A MendFault) → LeaveImages (λ i. ws) (Some images) held r
    → IsSomeAnd held (IsStopped ws images)
stopped_by ws images held (Ok x) h = subst (λ o. IsSomeAnd o (IsStopped ws images)) (sym h) (stopped_whole ws images)
stopped_by ws images held (Err e) h = h

-- ---- syncs that are wanted, or not

-- a sync, where it is wanted, leaves the bytes of the images
pub if_held : (wanted : Bool) (m n : List Bool) (a b : Seen) (r : Result (Unit {0}) MendFault) → SyncsIf wanted m n a b r → b.held ≡ a.held
if_held true m n a b r s = sync_held a b s.only
if_held false m n a b r s = ap (λ (s : Seen). s.held) s.1

-- ---- what was only read

module _ (a b : Seen) (reads : OnlyReads a b) where
  -- the same ranges wait
  same_waiting : waiting b ≡ waiting a
  same_waiting = ap waiting reads.same

  -- nothing more waits, so that all that waits is in turn
  pub read_waits : (ws vs : List Write) (images : Images) → a.held ≡ Some images → WaitsInTurn ws vs images a b
  read_waits ws vs images is = record {
    own = [];
    among = λ range i. in_left range (waiting a) [] (subst (In range) same_waiting i);
    turn = subst (λ o. IsSomeAnd o (λ left. IsInTurn ws vs images left [])) (sym (same_held reads ∙ is)) (inl (stopped_first ws images, λ range i. absurd i));
  }

  -- what waits waited before
  pub read_at : (P : Range → Type 0) → WaitsAt P a b
  read_at P range i = inl (subst (In range) same_waiting i)

  -- where all that waited was marked, it still is
  pub read_marked : (m : List Bool) → AreMarked m a.unsynced → AreMarked m b.unsynced
  read_marked m all range i = all range (subst (In range) (ap (λ (s : Seen). s.unsynced) reads.same) i)

  -- nothing more waits for good
  pub read_stranded : {A : Type 0} (r : Result A MendFault) → Strands a.never_synced b.never_synced r
  read_stranded r = strands_none r a.never_synced b.never_synced (ap (λ (s : Seen). s.never_synced) reads.same)

  -- turns behind it
  pub turns_behind : {A : Type 0} (P : Range → Type 0) (ws vs : List Write) (m n : List Bool) (d : Seen) (r : Result A MendFault)
      → NoneFailed a.account b.account → TakesTurns P ws vs m n b d r → TakesTurns P ws vs m n a d r
  turns_behind P ws vs m n d r none h = record {
    does = does_behind (IsSyncOr P) (λ i. ws ++ vs) [] [] (plain a) (plain b) (plain d) r (reads_plain a b reads) none h.does;
    waits = told a.held (λ images. WaitsInTurn ws vs images a d) (λ images is.
        let w = telling b.held (λ images. WaitsInTurn ws vs images b d) h.waits images (same_held reads ∙ is) in
        record { own = w.own; among = λ range i. subst (λ rs. In range (rs ++ w.own)) same_waiting (w.among range i); turn = w.turn });
    lie = λ range i. subst (λ rs. In range rs ⊎ P range) same_waiting (h.lie range i);
    marked = λ all. h.marked (read_marked m all);
    stranded = subst (λ never. Strands never d.never_synced r) (ap (λ (s : Seen). s.never_synced) reads.same) h.stranded;
  }

-- ---- the turns

-- what a call did that failed was done where its fault is passed on
pub turns_passed : {A : Type 0} {P : Range → Type 0} {ws vs : List Write} {m n : List Bool} {a b : Seen} {r : Result A MendFault} {fault : MendFault}
    → IsErrAnd r (λ e. e ≡ fault) → TakesTurns {A = A} P ws vs m n a b (Err fault) → TakesTurns P ws vs m n a b r
turns_passed {P = P} {ws = ws} {vs = vs} {m = m} {n = n} {a = a} {b = b} {r = r} {fault = fault} is h = passed (λ r. TakesTurns P ws vs m n a b r) r fault is h

module _ (P : Range → Type 0) (ws vs : List Write) where
  -- a call that writes, whatever waits for a sync
  plainly : {A : Type 0} {f : Images → List Write} {m n : List Bool} {a b : Seen} {r : Result A MendFault} → DoesWrites P f m n a b r
      → DoesWrites (IsSyncOr P) f [] [] (plain a) (plain b) r
  plainly {f = f} {m = m} {n = n} {a = a} {b = b} {r = r} h = does_plain P (IsSyncOr P) f m n a b r (λ range p. inr p) h

  -- turns whose own ranges lie at such places, where all that waits waited before or is one of them
  turns_by : {A : Type 0} {m n : List Bool} {a z : Seen} {r : Result A MendFault} (own : List Range)
      → DoesWrites (IsSyncOr P) (λ i. ws ++ vs) [] [] (plain a) (plain z) r → AreAmong (waiting z) (waiting a ++ own)
      → ((range : Range) → In range own → P range)
      → ((images : Images) → a.held ≡ Some images → IsSomeAnd z.held (λ left. IsInTurn ws vs images left own))
      → (AreMarked m a.unsynced → AreMarked n z.unsynced) → Strands a.never_synced z.never_synced r → TakesTurns P ws vs m n a z r
  turns_by {a = a} {z = z} own does among lie turn marked stranded = record {
    does = does;
    waits = told a.held (λ images. WaitsInTurn ws vs images a z) (λ images is. record { own = own; among = among; turn = turn images is });
    lie = λ range i. elim (in_either range (waiting a) own (among range i)) as (λ _. In range (waiting a) ⊎ P range) [
      | inl j ↦ inl j
      | inr j ↦ inr (lie range j)
    ];
    marked = marked;
    stranded = stranded;
  }

  -- writes of one call, which are those of a turn
  turns_of : {A B : Type 0} {us : List Write} {m n : List Bool} {a b : Seen} {r : Result A MendFault} {q : Result B MendFault}
      (h : DoesWrites P (λ i. us) m n a b r) → DoesWrites (IsSyncOr P) (λ i. ws ++ vs) [] [] (plain a) (plain b) q
      → ((images left : Images) → IsStopped us images left → AreAmong h.ranges (ranges_of us) → IsInTurn ws vs images left h.ranges)
      → TakesTurns P ws vs m n a b q
  turns_of {us = us} {m = m} {n = n} {a = a} {b = b} {r = r} {q = q} h does turn =
      turns_by h.ranges does (among_after P (λ i. us) m n a b r h) h.lie
      (λ images is. some_and (IsStopped us images) (λ left. IsInTurn ws vs images left h.ranges) b.held
      (λ left t. turn images left t (telling a.held (λ i. AreAmong h.ranges (ranges_of us)) h.own images is))
      (stopped_by us images b.held r (rw is at h.held)))
      (marked_after P (λ i. us) m n a b r h) (strands_none q a.never_synced b.never_synced (same_never P (λ i. us) m n a b r h))

  -- stopped in the first
  pub turns_first : {A B : Type 0} {m n : List Bool} {a b : Seen} {e : MendFault} → DoesWrites {A = A} P (λ i. ws) m n a b (Err e)
      → TakesTurns {A = B} P ws vs m n a b (Err e)
  turns_first {A = A} {B = B} {a = a} {b = b} {e = e} h =
      turns_of h (does_halt (IsSyncOr P) A B ws vs [] [] (plain a) (plain b) e (plainly h)) (λ images left t own. inl (t, own))

  -- where one of the turns is empty, there is only one
  turns_alone : {A : Type 0} {m n : List Bool} {a b : Seen} {r : Result A MendFault} → (ws ≡ []) ⊎ (vs ≡ []) → DoesWrites P (λ i. ws ++ vs) m n a b r
      → TakesTurns P ws vs m n a b r
  turns_alone empty h = turns_of h (plainly h) (λ images left t own. by images left h.ranges empty t own)
    where
      by : (images left : Images) (own : List Range) → (ws ≡ []) ⊎ (vs ≡ []) → IsStopped (ws ++ vs) images left → AreAmong own (ranges_of (ws ++ vs))
          → IsInTurn ws vs images left own
      by images left own (inl none) =
          subst (λ us. IsStopped (us ++ vs) images left → AreAmong own (ranges_of (us ++ vs)) → IsInTurn us vs images left own) (sym none) (λ t o. inr (t, o))
      by images left own (inr none) =
          subst (λ us. IsStopped (ws ++ us) images left → AreAmong own (ranges_of (ws ++ us)) → IsInTurn ws us images left own) (sym none)
          (subst (λ us. IsStopped us images left → AreAmong own (ranges_of us) → IsInTurn ws [] images left own) (sym (append-nil ws)) (λ t o. inl (t, o)))

  module _ {U : Type 0} {u : U} {m n : List Bool} {a b : Seen} (first : DoesWrites P (λ i. ws) m n a b (Ok u)) where
    -- the images hold all that the first turn wrote
    done : (images : Images) → a.held ≡ Some images → b.held ≡ Some (fold write_on images ws)
    done images is = rw is at first.held

    -- the first turn, and a sync behind it
    synced : {o : List Bool} {d : Seen} {r : Result (Unit {0}) MendFault} → SyncsMarked n o b d r
        → DoesWrites (IsSyncOr P) (λ i. ws) [] [] (plain a) (plain d) r
    synced {o = o} {d = d} {r = r} s = subst (λ us. DoesWrites (IsSyncOr P) (λ i. us) [] [] (plain a) (plain d) r) (append-nil ws)
        (does_then (IsSyncOr P) (Unit {0}) U ws [] [] [] [] (plain a) (plain b) (plain d) u r (plainly first) (does_sync P n o b d r s))

    -- what was marked still is behind the sync
    still_marked : {o : List Bool} {d : Seen} {r : Result (Unit {0}) MendFault} → SyncsMarked n o b d r → AreMarked m a.unsynced → AreMarked o d.unsynced
    still_marked {o = o} {d = d} {r = r} s all = marked_synced n o b d r s (marked_after P (λ i. ws) m n a b (Ok u) first all)

    never : b.never_synced ≡ a.never_synced
    never = same_never P (λ i. ws) m n a b (Ok u) first

    -- the sync was wanted, and failed
    pub turns_failed : {B : Type 0} {e : MendFault} {o : List Bool} {d : Seen} (wanted : Bool) → SyncsIf wanted n o b d (Err e)
        → TakesTurns {A = B} P ws vs m o a d (Err e)
    turns_failed false s = cc (s.0)
    turns_failed {B = B} {e = e} {o = o} {d = d} true s = turns_by first.ranges
        (does_halt (IsSyncOr P) (Unit {0}) B ws vs [] [] (plain a) (plain d) e (synced s))
        (λ range i. among_after P (λ i. ws) m n a b (Ok u) first range (among_synced n o b d (Err e) s range i)) first.lie
        (λ images is. rw (sync_held b d s.only ∙ done images is)
        (inl (stopped_whole ws images, telling a.held (λ i. AreAmong first.ranges (ranges_of ws)) first.own images is)))
        (still_marked s) (strands e s.synced)
      where
        strands : (e : MendFault) → WaitsBehindAll n b d (Err e) → Strands {A = B} a.never_synced d.never_synced (Err e)
        strands (Image slot) k = (b.unsynced, k.1 ∙ ap (λ before. before ++ in_slot slot b.unsynced) never)
        strands Memory k = absurd k

    -- none of what the first turn wrote waits any more behind the sync
    before : {o : List Bool} {d : Seen} → SyncsMarked n o b d (Ok tt) → AreAmong (waiting d) (waiting a)
    before {d = d} s range i = elim (in_either range d.unsynced d.never_synced i) [
      | inl j ↦ let among = s.synced.0.among range j in
          elim (in_either range a.unsynced first.ranges (subst (In range) (now_waits P (λ i. ws) m n a b (Ok u) first) among.0)) [
            | inl k ↦ in_left range a.unsynced a.never_synced k
            | inr k ↦ let marked = own_marked P (λ i. ws) m n a b (Ok u) first range k in
                absurd (false≢true (sym (among.1 (marked_below n range.slot marked)) ∙ marked))
          ]
      | inr j ↦ in_right range a.unsynced a.never_synced (subst (In range) (s.synced.1 ∙ never) j)
    ]

    -- two turns, with a sync between them as it is wanted, which it is where there is something in both
    pub turns_done : {A : Type 0} {o q : List Bool} {d z : Seen} {r : Result A MendFault} (wanted : Bool) → DoesWrites P (λ i. vs) o q d z r
        → SyncsIf wanted n o b d (Ok tt) → (wanted ≡ false → (ws ≡ []) ⊎ (vs ≡ [])) → TakesTurns P ws vs m q a z r
    turns_done {A = A} {o = o} {q = q} {z = z} {r = r} false second s empty = turns_alone (empty refl)
        (does_then P A U ws vs m n q a b z u r first
        (subst (λ k. DoesWrites P (λ i. vs) k q b z r) s.2 (subst (λ s. DoesWrites P (λ i. vs) o q s z r) s.1 second)))
    turns_done {A = A} {o = o} {q = q} {d = d} {z = z} {r = r} true second s empty = turns_by second.ranges
        (does_then (IsSyncOr P) A (Unit {0}) ws vs [] [] [] (plain a) (plain d) (plain z) tt r (synced s) (plainly second))
        (λ range i. elim (in_either range (waiting d) second.ranges (among_after P (λ i. vs) o q d z r second range i)) [
          | inl j ↦ in_left range (waiting a) second.ranges (before s range j)
          | inr j ↦ in_right range (waiting a) second.ranges j
        ]) second.lie
        (λ images is.
        let now : d.held ≡ Some (fold write_on images ws) = sync_held b d s.only ∙ done images is in
        let own = telling d.held (λ i. AreAmong second.ranges (ranges_of vs)) second.own (fold write_on images ws) now in
        some_and (IsStopped vs (fold write_on images ws)) (λ left. IsInTurn ws vs images left second.ranges) z.held (λ left t. inr (t, own))
        (stopped_by vs (fold write_on images ws) z.held r (rw now at second.held)))
        (λ all. marked_after P (λ i. vs) o q d z r second (still_marked s all))
        (strands_none r a.never_synced z.never_synced (same_never P (λ i. vs) o q d z r second ∙ s.synced.1 ∙ never))

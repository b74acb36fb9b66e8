-- Reads and writes one after another.
use Rattle.std.proofs.Common.{◌≡◌, ◌⊎◌, ℕ, Bool, List, [], ◌∷◌, ◌++◌, IfSome, IsSomeAnd, Option, Some, None, Result, Ok, Err, IsErrAnd, refl, sym, ap, ◌∙◌}
use Rattle.std.proofs.Common.{subst, inl, inr, arith, append_assoc, append-nil}
use Rattle.btr_scrub_copies.proofs.Common.{AccountsMend, AreAmong, DoesWrites, Image, Images, In, IsMarked, IsStopped, LeaveImages, Memory, MendFault}
use Rattle.btr_scrub_copies.proofs.Common.{NoneFailed, OnlyReads, Range, Seen, Write, none_failed, none_more, ranges_of, reads_none, same_held}
use Rattle.std.specs.Prelude.{fold}
use Rattle.std.proofs.lemmas.List.Elements.{All-append, All-nil, All-weaker}
use Rattle.btr_read.proofs.Keeping.{one_after}
use Rattle.btr_read.proofs.ReadsOn.{same_sure}
use Rattle.btr_read.proofs.Ones.{in_either, in_left, in_right}
use Rattle.btr_scrub_copies.specs.Writes.{FailsAt, IsTorn, Marks, OnlyWrites, write_on}
use Rattle.std.proofs.lemmas.List.Sums.{fold-append}
use Rattle.btr_scrub_copies.proofs.Lists.{some_and}

-- ---- images

-- stopped behind some writes
stopped_behind : (ws vs : List Write) (images new : Images) → IsStopped vs (fold write_on images ws) new → IsStopped (ws ++ vs) images new
stopped_behind ws vs images new h = record {
  before = ws ++ h.before;
  behind = h.behind;
  place = ap (λ q. ws ++ q) h.place ∙ sym (append_assoc ws h.before h.behind);
  stands = rw (fold-append write_on images ws h.before) h.stands;
}

-- a write that was torn is still the first one where others were to come
torn_more : (behind vs : List Write) (old new : Images) → IsTorn behind old new → IsTorn (behind ++ vs) old new
torn_more [] vs old new t = absurd t
torn_more (w ∷ behind) vs old new t = t

-- others were to come
stopped_before : (ws vs : List Write) (images new : Images) → IsStopped ws images new → IsStopped (ws ++ vs) images new
stopped_before ws vs images new h = record {
  before = h.before;
  behind = h.behind ++ vs;
  place = ap (λ q. q ++ vs) h.place ∙ append_assoc h.before h.behind vs;
  stands = elim h.stands as (λ _. (new ≡ fold write_on images h.before) ⊎ IsTorn (h.behind ++ vs) (fold write_on images h.before) new) [
    | inl e ↦ inl e
    | inr t ↦ inr (torn_more h.behind vs (fold write_on images h.before) new t)
  ];
}

-- nothing was written
pub stopped_first : (ws : List Write) (images : Images) → IsStopped ws images images
stopped_first ws images = record { before = []; behind = ws; place = refl; stands = inl refl }

-- writes behind others that were all done leave what all of them leave
leaves_then : (A U : Type 0) (ws vs : List Write) (a b c : Option Images) (u : U) (r : Result A MendFault)
    → LeaveImages {A = U} {E = MendFault} (λ i. ws) a b (Ok u) → LeaveImages (λ i. vs) b c r → LeaveImages (λ i. ws ++ vs) a c r
leaves_then A U ws vs None b c u r h g = rw h at g
leaves_then A U ws vs (Some images) b c u (Ok x) h g = rw (fold-append write_on images ws vs) (rw h at g)
leaves_then A U ws vs (Some images) b c u (Err e) h g =
    some_and (IsStopped vs (fold write_on images ws)) (IsStopped (ws ++ vs) images) c (λ new s. stopped_behind ws vs images new s) (rw h at g)

-- what is left of writes that were stopped is left of more writes, stopped at the same one
leaves_halt : (A B : Type 0) (ws vs : List Write) (a b : Option Images) (e : MendFault) → LeaveImages {A = A} (λ i. ws) a b (Err e)
    → LeaveImages {A = B} (λ i. ws ++ vs) a b (Err e)
leaves_halt A B ws vs None b e h = h
leaves_halt A B ws vs (Some images) b e h = some_and (IsStopped ws images) (IsStopped (ws ++ vs) images) b (λ new s. stopped_before ws vs images new s) h

-- the same writes, said otherwise, and another value
leaves_as : {A B : Type 0} (f g : Images → List Write) (a b : Option Images) (x : A) (y : B)
    → ((images : Images) → a ≡ Some images → f images ≡ g images) → LeaveImages {A = A} {E = MendFault} f a b (Ok x)
    → LeaveImages {A = B} {E = MendFault} g a b (Ok y)
leaves_as f g None b x y e h = h
leaves_as f g (Some images) b x y e h = h ∙ ap (λ ws. Some (fold write_on images ws)) (e images refl)

-- what is left of writes that were stopped is left of the same writes, said otherwise
leaves_as_halt : (A B : Type 0) (f g : Images → List Write) (a b : Option Images) (x : MendFault)
    → ((images : Images) → a ≡ Some images → f images ≡ g images) → LeaveImages {A = A} f a b (Err x) → LeaveImages {A = B} g a b (Err x)
leaves_as_halt A B f g None b x e h = h
leaves_as_halt A B f g (Some images) b x e h = some_and (IsStopped (f images) images) (IsStopped (g images) images) b
    (λ new s. subst (λ ws. IsStopped ws images new) (e images refl) s) h

-- no writes leave the images as they were
leaves_none : {A : Type 0} (a b : Option Images) (x : A) → b ≡ a → LeaveImages {A = A} {E = MendFault} (λ i. []) a b (Ok x)
leaves_none None b x e = e
leaves_none (Some images) b x e = e

-- writes that were stopped before the first one leave the images as they were
leaves_failed : (A : Type 0) (f : Images → List Write) (a b : Option Images) (x : MendFault) → b ≡ a → LeaveImages {A = A} f a b (Err x)
leaves_failed A f None b x e = e
leaves_failed A f (Some images) b x e = subst (λ o. IsSomeAnd o (IsStopped (f images) images)) (sym e) (stopped_first (f images) images)

-- ---- the ranges of writes

-- the ranges of writes and of more are those of all
pub ranges-append : (ws vs : List Write) → ranges_of (ws ++ vs) ≡ ranges_of ws ++ ranges_of vs
ranges-append [] vs = refl
ranges-append (w ∷ ws) vs = ap (λ rs. w.range ∷ rs) (ranges-append ws vs)

-- a range of the first writes, and one of those behind them, is one of all
pub range_before : (ws vs : List Write) (range : Range) → In range (ranges_of ws) → In range (ranges_of (ws ++ vs))
range_before ws vs range i = subst (In range) (sym (ranges-append ws vs)) (in_left range (ranges_of ws) (ranges_of vs) i)

-- and so is one of those behind them
pub range_behind : (ws vs : List Write) (range : Range) → In range (ranges_of vs) → In range (ranges_of (ws ++ vs))
range_behind ws vs range i = subst (In range) (sym (ranges-append ws vs)) (in_right range (ranges_of ws) (ranges_of vs) i)

-- no range is among any
pub own_none : (held : Option Images) (f : Images → List Write) → IfSome held (λ images. AreAmong {X = Range} [] (ranges_of (f images)))
own_none None f = tt
own_none (Some images) f = λ range i. absurd i

-- the ranges of both parts are ranges of all writes, where the first ones were all done
own_then : {U : Type 0} (ws vs : List Write) (rs qs : List Range) (a b : Option Images) (u : U) → LeaveImages {A = U} {E = MendFault} (λ i. ws) a b (Ok u)
    → IfSome a (λ i. AreAmong rs (ranges_of ws)) → IfSome b (λ i. AreAmong qs (ranges_of vs)) → IfSome a (λ i. AreAmong (rs ++ qs) (ranges_of (ws ++ vs)))
own_then ws vs rs qs None b u left h g = tt
own_then ws vs rs qs (Some images) b u left h g = λ range i. elim (in_either range rs qs i) [
  | inl j ↦ range_before ws vs range (h range j)
  | inr j ↦ range_behind ws vs range (subst (λ o. IfSome o (λ i. AreAmong qs (ranges_of vs))) left g range j)
]

-- ranges of the first writes are ranges of all
own_halt : (ws vs : List Write) (rs : List Range) (a : Option Images) → IfSome a (λ i. AreAmong rs (ranges_of ws))
    → IfSome a (λ i. AreAmong rs (ranges_of (ws ++ vs)))
own_halt ws vs rs None h = tt
own_halt ws vs rs (Some images) h = λ range i. range_before ws vs range (h range i)

-- ranges of writes are ranges of the same writes, said otherwise
own_as : (f g : Images → List Write) (rs : List Range) (a : Option Images) → ((images : Images) → a ≡ Some images → f images ≡ g images)
    → IfSome a (λ i. AreAmong rs (ranges_of (f i))) → IfSome a (λ i. AreAmong rs (ranges_of (g i)))
own_as f g rs None e h = tt
own_as f g rs (Some images) e h = subst (λ ws. AreAmong rs (ranges_of ws)) (e images refl) h

-- ---- racks

-- images were only written, twice: the ranges of both wait
only_then : {a b c : Seen} (rs qs : List Range) → OnlyWrites rs a b → OnlyWrites qs b c → OnlyWrites (rs ++ qs) a c
only_then {a = a} {b = b} {c = c} rs qs h g = record {
  same = g.same ∙ ap (λ (s : Seen). record s { held = c.held; unsynced = s.unsynced ++ qs; account = c.account }) h.same
      ∙ ap (λ u. record a { held = c.held; unsynced = u; account = c.account }) (append_assoc a.unsynced rs qs);
  later = omega (arith, h.later, g.later);
  same_shut = g.same_shut ∙ h.same_shut;
}

-- reading writes nothing
pub only_reads : {a b : Seen} → OnlyReads a b → OnlyWrites [] a b
only_reads {a = a} {b = b} h = record {
  same = h.same ∙ ap (λ u. record a { held = a.held; unsynced = u; account = b.account }) (sym (append-nil a.unsynced))
      ∙ ap (λ o. record a { held = o; unsynced = a.unsynced ++ []; account = b.account }) (sym (ap (λ (s : Seen). s.held) h.same));
  later = h.later;
  same_shut = h.same_shut;
}

-- writes leave the slots
pub only_slots : {a b : Seen} (rs : List Range) → OnlyWrites rs a b → b.slots ≡ a.slots
only_slots rs h = ap (λ (s : Seen). s.slots) h.same

only_sure : {a b : Seen} (rs : List Range) → OnlyWrites rs a b → b.sure ≡ a.sure
only_sure rs h = ap (λ (s : Seen). s.sure) h.same

-- where nothing is written, the marks are as they were
pub marks_none : (marks : List Bool) → Marks [] marks marks
marks_none marks = record { added = All-nil (λ (r : Range). IsMarked marks r.slot); kept = λ slot m. m }

-- marks that were set one after another cover the ranges of both
marks_then : (rs qs : List Range) (a b c : List Bool) → Marks rs a b → Marks qs b c → Marks (rs ++ qs) a c
marks_then rs qs a b c h g = record {
  added = All-append (λ (r : Range). IsMarked c r.slot) rs qs
      (All-weaker (λ r. IsMarked b r.slot) (λ (r : Range). IsMarked c r.slot) (λ r m. g.kept r.slot m) rs h.added) g.added;
  kept = λ slot m. g.kept slot (h.kept slot m);
}

-- an image failed behind calls that did not
pub fails_after : (P : Range → Type 0) (slot : ℕ) (a b c : Seen) → b.sure ≡ a.sure → NoneFailed a.account b.account → FailsAt P slot b c → FailsAt P slot a c
fails_after P slot a b c sure none f = record { place = f.place; failed = one_after f.place a b c sure none f.failed; on_slot = f.on_slot; lies = f.lies }

-- the account behind two calls is that of the second where the first did not fail
pub account_then : {A : Type 0} (P : Range → Type 0) (a b c : Seen) (r : Result A MendFault) → b.sure ≡ a.sure → NoneFailed a.account b.account
    → AccountsMend P b c r → AccountsMend P a c r
account_then P a b c (Err (Image slot)) sure none h = fails_after P slot a b c sure none h
account_then P a b c r sure none h = none_more a.account b.account c.account none h

-- what holds of a fault holds of the answer that passes it on
pub passed : {A : Type 0} (P : Result A MendFault → Type 0) (r : Result A MendFault) (fault : MendFault) → IsErrAnd r (λ e. e ≡ fault) → P (Err fault) → P r
passed P (Ok a) fault h p = absurd h
passed P (Err e) fault h p = subst (λ x. P (Err x)) (sym h) p

-- a failed call says the same of the account whatever it would have answered
pub account_halt : (A B : Type 0) (P : Range → Type 0) (a b : Seen) (f : MendFault) → AccountsMend {A = A} P a b (Err f) → AccountsMend {A = B} P a b (Err f)
account_halt A B P a b (Image slot) h = h
account_halt A B P a b Memory h = h

-- what a call did that failed was done where its fault is passed on
pub does_passed : {A : Type 0} {P : Range → Type 0} {f : Images → List Write} {m n : List Bool} {a b : Seen} {r : Result A MendFault} {fault : MendFault}
    → IsErrAnd r (λ e. e ≡ fault) → DoesWrites {A = A} P f m n a b (Err fault) → DoesWrites P f m n a b r
does_passed {P = P} {f = f} {m = m} {n = n} {a = a} {b = b} {r = r} {fault = fault} is h = passed (λ r. DoesWrites P f m n a b r) r fault is h

module _ (P : Range → Type 0) where
  -- where images were only read, no range waits more
  untouched : {A : Type 0} {f : Images → List Write} {marks : List Bool} {a b : Seen} {r : Result A MendFault} → OnlyReads a b
      → LeaveImages f a.held b.held r → AccountsMend P a b r → DoesWrites P f marks marks a b r
  untouched {f = f} {marks = marks} {a = a} reads held account = record {
    ranges = [];
    only = only_reads reads;
    own = own_none a.held f;
    lie = λ range i. absurd i;
    marked = marks_none marks;
    held = held;
    account = account;
  }

  -- what was done is what another call does that leaves the same, over the same ranges
  pub retold : {A B : Type 0} {f g : Images → List Write} {m n : List Bool} {a b : Seen} {r : Result A MendFault} {q : Result B MendFault}
      (h : DoesWrites P f m n a b r) → IfSome a.held (λ images. AreAmong h.ranges (ranges_of (g images))) → LeaveImages g a.held b.held q
      → AccountsMend P a b q → DoesWrites P g m n a b q
  retold h own held account =
      record { ranges = h.ranges; only = h.only; own = own; lie = h.lie; marked = h.marked; held = held; account = account }

  -- nothing was done, or only reading
  pub does_reads : {A : Type 0} (marks : List Bool) (a b : Seen) (x : A) → OnlyReads a b → NoneFailed a.account b.account
      → DoesWrites P (λ i. []) marks marks a b (Ok x)
  does_reads marks a b x reads none = untouched reads (leaves_none a.held b.held x (ap (λ (s : Seen). s.held) reads.same)) none

  -- where nothing is done, nothing is written, and the account is as before
  pub does_nothing : (marks : List Bool) (a : Seen) → DoesWrites {A = Unit {0}} P (λ i. []) marks marks a a (Ok tt)
  does_nothing marks a = does_reads marks a a tt (reads_none a) (none_failed a.account)

  -- a read failed
  pub does_failed : (A B : Type 0) (f : Images → List Write) (marks : List Bool) (a b : Seen) (x : MendFault) → OnlyReads a b
      → AccountsMend {A = B} P a b (Err x) → DoesWrites {A = A} P f marks marks a b (Err x)
  does_failed A B f marks a b x reads account =
      untouched reads (leaves_failed A f a.held b.held x (ap (λ (s : Seen). s.held) reads.same)) (account_halt B A P a b x account)

  -- writes behind others that were all done are all of them, or those up to one that failed
  pub does_then : (A U : Type 0) (ws vs : List Write) (m n o : List Bool) (a b c : Seen) (u : U) (r : Result A MendFault)
      → DoesWrites P (λ i. ws) m n a b (Ok u) → DoesWrites P (λ i. vs) n o b c r → DoesWrites P (λ i. ws ++ vs) m o a c r
  does_then A U ws vs m n o a b c u r h g = record {
    ranges = h.ranges ++ g.ranges;
    only = only_then h.ranges g.ranges h.only g.only;
    own = own_then ws vs h.ranges g.ranges a.held b.held u h.held h.own g.own;
    lie = λ range i. elim (in_either range h.ranges g.ranges i) [ inl j ↦ h.lie range j | inr j ↦ g.lie range j ];
    marked = marks_then h.ranges g.ranges m n o h.marked g.marked;
    held = leaves_then A U ws vs a.held b.held c.held u r h.held g.held;
    account = account_then P a b c r (only_sure h.ranges h.only) h.account g.account;
  }

  -- writes that were stopped are more writes, stopped at the same one
  pub does_halt : (A B : Type 0) (ws vs : List Write) (m n : List Bool) (a b : Seen) (e : MendFault) → DoesWrites {A = A} P (λ i. ws) m n a b (Err e)
      → DoesWrites {A = B} P (λ i. ws ++ vs) m n a b (Err e)
  does_halt A B ws vs m n a b e h =
      retold h (own_halt ws vs h.ranges a.held h.own) (leaves_halt A B ws vs a.held b.held e h.held) (account_halt A B P a b e h.account)

  -- the same writes, said otherwise
  pub does_as : {A B : Type 0} (f g : Images → List Write) (m n : List Bool) (a b : Seen) (x : A) (y : B)
      → ((images : Images) → a.held ≡ Some images → f images ≡ g images) → DoesWrites P f m n a b (Ok x) → DoesWrites P g m n a b (Ok y)
  does_as f g m n a b x y e h = retold h (own_as f g h.ranges a.held e h.own) (leaves_as f g a.held b.held x y e h.held) h.account

  -- the same writes, said otherwise, that were stopped
  pub does_as_halt : (A B : Type 0) (f g : Images → List Write) (m n : List Bool) (a b : Seen) (x : MendFault)
      → ((images : Images) → a.held ≡ Some images → f images ≡ g images) → DoesWrites {A = A} P f m n a b (Err x) → DoesWrites {A = B} P g m n a b (Err x)
  does_as_halt A B f g m n a b x e h =
      retold h (own_as f g h.ranges a.held e h.own) (leaves_as_halt A B f g a.held b.held x e h.held) (account_halt A B P a b x h.account)

  -- reads before
  pub does_behind : {A : Type 0} (f : Images → List Write) (m n : List Bool) (a b c : Seen) (r : Result A MendFault) → OnlyReads a b
      → NoneFailed a.account b.account → DoesWrites P f m n b c r → DoesWrites P f m n a c r
  does_behind f m n a b c r reads none h = record {
    ranges = h.ranges;
    only = only_then [] h.ranges (only_reads reads) h.only;
    own = subst (λ o. IfSome o (λ images. AreAmong h.ranges (ranges_of (f images)))) (same_held reads) h.own;
    lie = h.lie;
    marked = h.marked;
    held = subst (λ o. LeaveImages f o c.held r) (same_held reads) h.held;
    account = account_then P a b c r (same_sure reads) none h.account;
  }

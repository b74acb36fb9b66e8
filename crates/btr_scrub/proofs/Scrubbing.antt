-- Mending one thing after another.
use Rattle.std.proofs.Common.{◌≡◌, ◌⊎◌, Bool, true, false, List, ◌++◌, length, Option, Some, None, IfSome, OnOk, is_none, is_some, Result, Ok, Err, IsErrAnd}
use Rattle.std.proofs.Common.{[], refl, sym, ap, ◌∙◌, subst, inl, inr, arith, cond}
use Rattle.btr_scrub.proofs.Common.{AccountsMend, Blocks, CanMend, Failing, Image, Images, IsOfScrub, IsTable, Layout, LiesInStripe, Memory, MendFault, Mended}
use Rattle.btr_scrub.proofs.Common.{OnlyReads, Range, SameLoans, Scrubs, Seen, Serves, Tally, Target, Write, count_site, counted, counted_plain, false≢true}
use Rattle.btr_scrub.proofs.Common.{first_missing, fold, freshened, is_plain, mended_of, mending_writes, plain, reads_more, same_Some, waiting, write_on}
use Rattle.btr_scrub.proofs.Common.{writes_if}
use Rattle.std.specs.List.{count_by}
use Rattle.btr_rack.proofs.Reading.{reads_none}
use Rattle.btr_scrub_copies.specs.Mending.{IsOfCopy}
use Rattle.btr_scrub.specs.Scrubbing.{RepairsSite, counted_site}
use Rattle.btr_scrub_copies.specs.Writes.{AreAmong, AreWritable, DoesWrites, In, LeaveImages}
use Rattle.btr_scrub_copies.specs.Syncing.{Strands}
use Rattle.btr_scrub_copies.specs.Turns.{WaitsAt}
use Rattle.btr_scrub_copies.proofs.Doing.{does_as, does_as_halt, does_failed, does_halt, does_reads, does_then}
use Rattle.btr_scrub_copies.proofs.Turning.{does_plain, marked_after, same_never, strands_none, strands_same, waits_at}
use Rattle.btr_scrub.proofs.Lists.{passed}
use Rattle.btr_read.proofs.Trials.{telling}

-- what is missing isn't there
pub none_some : {X : Type 0} (x : X) → None ≡ Some x → ⊥
none_some x e = false≢true (ap is_some e)

-- what is said of the images where they are told is so of those that are
pub told : (o : Option Images) (Q : Images → Type 0) (images : Images) → o ≡ Some images → IfSome o Q → Q images
told o Q images e h = telling o Q h images e

-- what is said of the images, where they are told
pub tell : (o : Option Images) (Q : Images → Type 0) → ((images : Images) → o ≡ Some images → Q images) → IfSome o Q
tell None Q h = tt
tell (Some images) Q h = h images refl

-- ---- what was done

-- what failed at places failed at any that hold them
pub account_weaker : {A : Type 0} (P Q : Range → Type 0) (a b : Seen) (r : Result A MendFault) → ((range : Range) → P range → Q range)
    → AccountsMend P a b r → AccountsMend Q a b r
account_weaker P Q a b (Err (Image slot)) weak h = record { place = h.place; failed = h.failed; on_slot = h.on_slot; lies = weak h.place h.lies }
account_weaker P Q a b r weak h = h

-- what waits at some places behind a call waits at any that hold them, and behind it and those before, behind which no more waited
pub waits_weaker : (P Q : Range → Type 0) (a b z : Seen) → AreAmong (waiting b) (waiting a) → ((range : Range) → P range → Q range) → WaitsAt P b z
    → WaitsAt Q a z
waits_weaker P Q a b z among weak h range i = elim (h range i) as (λ _. In range (waiting a) ⊎ Q range) [
  | inl j ↦ inl (among range j)
  | inr p ↦ inr (weak range p)
]

-- with another value
pub does_value : {A B : Type 0} (P : Range → Type 0) (f : Images → List Write) (m n : List Bool) (a b : Seen) (x : A) (y : B)
    → DoesWrites P f m n a b (Ok x) → DoesWrites P f m n a b (Ok y)
does_value P f m n a b x y h = does_as P f f m n a b x y (λ images e. refl) h

-- what came to a fault did so with any value
pub does_fault : {A B : Type 0} (P : Range → Type 0) (f : Images → List Write) (m n : List Bool) (a b : Seen) (e : MendFault)
    → DoesWrites {A = A} P f m n a b (Err e) → DoesWrites {A = B} P f m n a b (Err e)
does_fault {A = A} {B = B} P f m n a b e h = does_as_halt P A B f f m n a b e (λ images same. refl) h

-- the same writes, said otherwise
pub recast : {A : Type 0} {P : Range → Type 0} {f g : Images → List Write} {m n : List Bool} {a b : Seen} {r : Result A MendFault}
    → DoesWrites P f m n a b r → ((images : Images) → a.held ≡ Some images → f images ≡ g images) → DoesWrites P g m n a b r
recast {P = P} {f = f} {g = g} {m = m} {n = n} {a = a} {b = b} {r = Ok x} h e = does_as P f g m n a b x x e h
recast {A = A} {P = P} {f = f} {g = g} {m = m} {n = n} {a = a} {b = b} {r = Err x} h e = does_as_halt P A A f g m n a b x e h

-- the images after writes
pub held_after : {U : Type 0} (P : Range → Type 0) (f : Images → List Write) (m n : List Bool) (a b : Seen) (u : U) (images : Images) → a.held
    ≡ Some images → DoesWrites P f m n a b (Ok u) → b.held ≡ Some (fold write_on images (f images))
held_after {U = U} P f m n a b u images e h = subst (λ o. LeaveImages {A = U} {E = MendFault} f o b.held (Ok u)) e h.held

-- there are none after writes where there were none
pub held_none : {U : Type 0} (P : Range → Type 0) (f : Images → List Write) (m n : List Bool) (a b : Seen) (u : U) → a.held ≡ None
    → DoesWrites P f m n a b (Ok u) → b.held ≡ None
held_none {U = U} P f m n a b u e h = subst (λ o. LeaveImages {A = U} {E = MendFault} f o b.held (Ok u)) e h.held

-- two works, of which the other's writes are the same over the images as they were before
pub does_next : (A U : Type 0) (P : Range → Type 0) (f g : Images → List Write) (m n o : List Bool) (a b c : Seen) (u : U) (r : Result A MendFault)
    → ((images : Images) → a.held ≡ Some images → g (fold write_on images (f images)) ≡ g images) → DoesWrites P f m n a b (Ok u) → DoesWrites P g n o b c r
    → DoesWrites P (λ i. f i ++ g i) m o a c r
does_next A U P f g m n o a b c u r same h k = by a.held refl
  where
    -- so it is whether images are told or not
    by : (held : Option Images) → a.held ≡ held → DoesWrites P (λ i. f i ++ g i) m o a c r
    by None e =
        let none = held_none P f m n a b u e h in
        recast (does_then P A U [] [] m n o a b c u r (recast h (λ images e'. absurd (none_some images (sym e ∙ e'))))
        (recast k (λ images e'. absurd (none_some images (sym none ∙ e'))))) (λ images e'. absurd (none_some images (sym e ∙ e')))
    by (Some images) e =
        let some = held_after P f m n a b u images e h in
        recast (does_then P A U (f images) (g images) m n o a b c u r (recast h (λ images' e'. ap f (same_Some images' images (sym e' ∙ e))))
        (recast k (λ images' e'. ap g (same_Some images' (fold write_on images (f images)) (sym e' ∙ some)) ∙ same images e)))
        (λ images' e'. ap (λ i. f i ++ g i) (same_Some images images' (sym e ∙ e')))

-- a work that came to a halt, and others to come
pub does_cut : (A B : Type 0) (P : Range → Type 0) (f g : Images → List Write) (m n : List Bool) (a b : Seen) (e : MendFault)
    → DoesWrites {A = A} P f m n a b (Err e) → DoesWrites {A = B} P (λ i. f i ++ g i) m n a b (Err e)
does_cut A B P f g m n a b x h = by a.held refl
  where
    -- the same for one that came to a halt, whether images are told or not
    by : (held : Option Images) → a.held ≡ held → DoesWrites {A = B} P (λ i. f i ++ g i) m n a b (Err x)
    by None e = recast {A = B} (does_halt P A B [] [] m n a b x (recast {A = A} h (λ images e'. absurd (none_some images (sym e ∙ e')))))
        (λ images e'. absurd (none_some images (sym e ∙ e')))
    by (Some images) e =
        recast {A = B} (does_halt P A B (f images) (g images) m n a b x (recast {A = A} h (λ images' e'. ap f (same_Some images' images (sym e' ∙ e)))))
        (λ images' e'. ap (λ i. f i ++ g i) (same_Some images images' (sym e ∙ e')))

-- ---- with counts

-- writes of two works, or none
pub if_append : (write : Bool) (xs ys : List Write) → writes_if write xs ++ writes_if write ys ≡ writes_if write (xs ++ ys)
if_append true xs ys = refl
if_append false xs ys = refl

-- what a work wrote and counted
pub record IsDone {A : Type 0} (layout : Layout) (write : Bool) (f : Images → List Write) (c : Images → Tally → Tally) (a b : Seen) (t u : Tally)
    (r : Result A MendFault) : Type 0 where
  pub does : DoesWrites (IsOfScrub layout) (λ images. writes_if write (f images)) [] [] (plain a) (plain b) r
  pub counts : OnOk r (IfSome a.held (λ images. u ≡ c images t))
  pub unwritten : write ≡ false → OnlyReads a b

module _ (layout : Layout) (write : Bool) where
  -- what was done before leaves what is written and counted next
  abbrev pub IsUnmoved : (f g : Images → List Write) (d : Images → Tally → Tally) → Option Images → Type 0
  IsUnmoved f g d held = (images : Images) → held ≡ Some images → (g (fold write_on images (writes_if write (f images))) ≡ g images)
      × ((x : Tally) → d (fold write_on images (writes_if write (f images))) x ≡ d images x)

  -- said otherwise
  pub done_as : {A : Type 0} (f g : Images → List Write) (c d : Images → Tally → Tally) (a b : Seen) (t u : Tally) (r : Result A MendFault)
      → ((images : Images) → a.held ≡ Some images → (f images ≡ g images) × (c images t ≡ d images t)) → IsDone layout write f c a b t u r
      → IsDone layout write g d a b t u r
  done_as {A = A} f g c d a b t u r same h =
      record { does = recast h.does (λ images e. ap (writes_if write) (same images e).0); counts = by r h.counts; unwritten = h.unwritten }
    where
      -- the count is the same, said otherwise
      by : (r : Result A MendFault) → OnOk r (IfSome a.held (λ images. u ≡ c images t)) → OnOk r (IfSome a.held (λ images. u ≡ d images t))
      by (Ok x) k = tell a.held (λ images. u ≡ d images t) (λ images e. told a.held (λ images. u ≡ c images t) images e k ∙ (same images e).1)
      by (Err x) k = tt

  -- one work behind another
  pub done_then : {A U : Type 0} (f g : Images → List Write) (c d : Images → Tally → Tally) (a b z : Seen) (t u v : Tally) (x : U) (r : Result A MendFault)
      → IsUnmoved f g d a.held → IsDone layout write f c a b t u (Ok x) → IsDone layout write g d b z u v r
      → IsDone layout write (λ i. f i ++ g i) (λ i y. d i (c i y)) a z t v r
  done_then {A = A} {U = U} f g c d a b z t u v x r same h k = record {
    does = recast (does_next A U (IsOfScrub layout) (λ i. writes_if write (f i)) (λ i. writes_if write (g i)) [] [] [] (plain a) (plain b) (plain z) x r
        (λ images e. ap (writes_if write) (same images e).0) h.does k.does) (λ images e. if_append write (f images) (g images));
    counts = by r k.counts;
    unwritten = λ w. reads_more (h.unwritten w) (k.unwritten w);
  }
    where
      -- the counts of the second go on from those of the first
      by : (r : Result A MendFault) → OnOk r (IfSome b.held (λ images. v ≡ d images u)) → OnOk r (IfSome a.held (λ images. v ≡ d images (c images t)))
      by (Ok y) l = tell a.held (λ images. v ≡ d images (c images t)) (λ images e.
          let after = held_after (IsOfScrub layout) (λ i. writes_if write (f i)) [] [] (plain a) (plain b) x images e h.does in
          told b.held (λ images. v ≡ d images u) (fold write_on images (writes_if write (f images))) after l
          ∙ (same images e).1 u ∙ ap (d images) (told a.held (λ images. u ≡ c images t) images e h.counts))
      by (Err y) l = tt

  -- one that came to a halt, and others to come
  pub done_cut : (A B : Type 0) (f g : Images → List Write) (c d : Images → Tally → Tally) (a b : Seen) (t u : Tally) (x : MendFault)
      → IsDone {A = A} layout write f c a b t u (Err x) → IsDone {A = B} layout write (λ i. f i ++ g i) d a b t u (Err x)
  done_cut A B f g c d a b t u x h = record {
    does = recast {A = B} (does_cut A B (IsOfScrub layout) (λ i. writes_if write (f i)) (λ i. writes_if write (g i)) [] [] (plain a) (plain b) x h.does)
        (λ images e. if_append write (f images) (g images));
    counts = tt;
    unwritten = h.unwritten;
  }

  -- ---- with what waits for a sync

  -- said otherwise
  pub scrubs_as : {A : Type 0} {f g : Images → List Write} {c d : Images → Tally → Tally} {m n : List Bool} {a b : Seen} {t u : Tally} {r : Result A MendFault}
      → Scrubs layout write f c m n a b t u r → ((images : Images) → a.held ≡ Some images → (f images ≡ g images) × (c images t ≡ d images t))
      → Scrubs layout write g d m n a b t u r
  scrubs_as {f} {g} {c} {d} {a} {b} {t} {u} {r} h same =
      let k = done_as f g c d a b t u r same (record { does = h.does; counts = h.counts; unwritten = h.unwritten }) in
      record { does = k.does; waits = h.waits; marked = h.marked; stranded = h.stranded; counts = k.counts; unwritten = k.unwritten }

  -- one work behind another
  pub scrubs_then : (A U : Type 0) (f g : Images → List Write) (c d : Images → Tally → Tally) (m n o : List Bool) (a b z : Seen) (t u v : Tally)
      (x : U) (r : Result A MendFault) → IsUnmoved f g d a.held → Scrubs layout write f c m n a b t u (Ok x) → Scrubs layout write g d n o b z u v r
      → Scrubs layout write (λ i. f i ++ g i) (λ i y. d i (c i y)) m o a z t v r
  scrubs_then A U f g c d m n o a b z t u v x r same h k =
      let both = done_then f g c d a b z t u v x r same (record { does = h.does; counts = h.counts; unwritten = h.unwritten })
      (record { does = k.does; counts = k.counts; unwritten = k.unwritten }) in
      record {
        does = both.does;
        waits = λ range i. elim (k.waits range i) as (λ _. In range (waiting a) ⊎ LiesInStripe layout range) [
          | inl j ↦ h.waits range j
          | inr p ↦ inr p
        ];
        marked = λ all. k.marked (h.marked all);
        stranded = subst (λ never. Strands never z.never_synced r) h.stranded k.stranded;
        counts = both.counts;
        unwritten = both.unwritten;
      }

  -- one that came to a halt, before others
  pub scrubs_cut : (A B : Type 0) (f g : Images → List Write) (c d : Images → Tally → Tally) (m n : List Bool) (a b : Seen) (t u : Tally) (x : MendFault)
      → Scrubs {A = A} layout write f c m n a b t u (Err x) → Scrubs {A = B} layout write (λ i. f i ++ g i) d m n a b t u (Err x)
  scrubs_cut A B f g c d m n a b t u x h =
      let k = done_cut A B f g c d a b t u x (record { does = h.does; counts = h.counts; unwritten = h.unwritten }) in
      record {
        does = k.does;
        waits = h.waits;
        marked = h.marked;
        stranded = strands_same A B x a.never_synced b.never_synced h.stranded;
        counts = tt;
        unwritten = h.unwritten;
      }

  -- nothing was done
  pub scrubs_idle : {A : Type 0} (count : Tally → Tally) (marks : List Bool) (a : Seen) (t : Tally) (x : A)
      → Scrubs {A = A} layout write (λ i. []) (λ i. count) marks marks a a t (count t) (Ok x)
  scrubs_idle count marks a t x = record {
    does = recast (does_reads (IsOfScrub layout) [] (plain a) (plain a) x (reads_none (plain a))
        (record { faults = refl; fresh = refl; missed = refl; last = refl; opening = refl; shut = refl })) (λ images e. none write);
    waits = λ range i. inl i;
    marked = λ all. all;
    stranded = refl;
    counts = tell a.held (λ images. count t ≡ count t) (λ images e. refl);
    unwritten = λ w. reads_none a;
  }
    where
      none : (b : Bool) → [] ≡ writes_if b []
      none true = refl
      none false = refl

  -- nothing was done, and nothing is counted
  pub scrubs_none : {A : Type 0} (marks : List Bool) (a : Seen) (t : Tally) (x : A)
      → Scrubs {A = A} layout write (λ i. []) (λ i y. y) marks marks a a t t (Ok x)
  scrubs_none marks a t x = scrubs_idle (λ y. y) marks a t x

-- what a call did that failed was done where its fault is passed on
pub scrubs_passed : {A : Type 0} {layout : Layout} {write : Bool} {f : Images → List Write} {c : Images → Tally
    → Tally} {m n : List Bool} {a b : Seen} {t u : Tally}
    {r : Result A MendFault} {fault : MendFault} → IsErrAnd r (λ e. e ≡ fault) → Scrubs {A = A} layout write f c m n a b t u (Err fault)
    → Scrubs layout write f c m n a b t u r
scrubs_passed {layout = layout} {write = write} {f = f} {c = c} {m = m} {n = n} {a = a} {b = b} {t = t} {u = u} {r = r} {fault = fault} is h =
    passed (λ r. Scrubs layout write f c m n a b t u r) r fault is h

-- nothing was done, as there was no memory
pub scrubs_nothing : (layout : Layout) (write : Bool) (marks : List Bool) (a : Seen) (t : Tally)
    → Scrubs {A = Unit {0}} layout write (λ i. []) (λ i y. y) marks marks a a t t (Err Memory)
scrubs_nothing layout write marks a t = record {
  does = does_failed (IsOfScrub layout) (Unit {0}) (Unit {0}) (λ i. writes_if write []) [] (plain a) (plain a) Memory
      (reads_none (plain a))
      (record { faults = refl; fresh = refl; missed = refl; last = refl; opening = refl; shut = refl });
  waits = λ range i. inl i;
  marked = λ all. all;
  stranded = refl;
  counts = tt;
  unwritten = λ w. reads_none a;
}

-- ---- a block or a plain sector

-- what was done for it by its copies, and counted
module _ (layout : Layout) (fails : Failing) (t : Target) (in_stripe : (range : Range) → IsOfCopy t range → LiesInStripe layout range) where
  -- the writes for it, if writing is on
  abbrev the_writes : Bool → Images → List Write
  the_writes write images = writes_if write (mending_writes images fails t)

  -- it was mended to its end
  pub scrubs_site : {write : Bool} {m n : List Bool} {a b : Seen} {tally tally' : Tally} {mended : Mended} → RepairsSite fails t write m n a b (Ok mended)
      → tally' ≡ counted_site (is_plain t.want) tally mended → Scrubs {A = Unit {0}} layout write (λ images. mending_writes images fails t)
      (λ images tally. count_site fails images write tally t) m n a b tally tally' (Ok tt)
  scrubs_site {write} {m} {n} {a} {b} {tally} {tally'} {mended} h e = record {
    does = does_value (IsOfScrub layout) (the_writes write) [] [] (plain a) (plain b) mended tt
        (does_plain (IsOfCopy t) (IsOfScrub layout) (the_writes write) m n a b (Ok mended) (λ range of. inr (in_stripe range of)) h.does);
    waits = waits_weaker (IsOfCopy t) (LiesInStripe layout) a a b (λ range i. i) in_stripe
        (waits_at (IsOfCopy t) (the_writes write) m n a b (Ok mended) h.does);
    marked = marked_after (IsOfCopy t) (the_writes write) m n a b (Ok mended) h.does;
    stranded = strands_none {A = Unit {0}} (Ok tt) a.never_synced b.never_synced (same_never (IsOfCopy t) (the_writes write) m n a b (Ok mended) h.does);
    counts = tell a.held (λ images. tally' ≡ count_site fails images write tally t) (λ images held.
        e ∙ ap (counted_site (is_plain t.want) tally) (told a.held
        (λ images. mended ≡ cond (is_plain t.want) (freshened images fails t write) (mended_of images t write)) images held h.counts)
        ∙ by (is_plain t.want) (freshened images fails t write) (mended_of images t write));
    unwritten = h.unwritten;
  }
    where
      -- what is counted, each by its own counts
      by : (b : Bool) (x y : Mended) → counted_site b tally (cond b x y) ≡ cond b (counted_plain tally x) (counted tally y)
      by true x y = refl
      by false x y = refl

  -- or a call failed
  pub scrubs_not : {write : Bool} {m n : List Bool} {a b : Seen} {tally : Tally} {fault : MendFault} → RepairsSite fails t write m n a b (Err fault)
      → Scrubs {A = Unit {0}} layout write (λ images. mending_writes images fails t) (λ images tally. count_site fails images write tally t) m n a b
      tally tally (Err fault)
  scrubs_not {write} {m} {n} {a} {b} {fault = fault} h = record {
    does = does_fault {A = Mended} {B = Unit {0}} (IsOfScrub layout) (the_writes write) [] [] (plain a) (plain b) fault
        (does_plain {A = Mended} (IsOfCopy t) (IsOfScrub layout) (the_writes write) m n a b (Err fault) (λ range of. inr (in_stripe range of)) h.does);
    waits = waits_weaker (IsOfCopy t) (LiesInStripe layout) a a b (λ range i. i) in_stripe
        (waits_at {A = Mended} (IsOfCopy t) (the_writes write) m n a b (Err fault) h.does);
    marked = marked_after {A = Mended} (IsOfCopy t) (the_writes write) m n a b (Err fault) h.does;
    stranded = strands_none {A = Unit {0}} (Err fault) a.never_synced b.never_synced
        (same_never {A = Mended} (IsOfCopy t) (the_writes write) m n a b (Err fault) h.does);
    counts = tt;
    unwritten = h.unwritten;
  }

-- ---- what can be mended can be mended again

-- blocks can be mended still, behind a call that left the slots, the layout and the loans
pub can_mend_then : (write : Bool) (a b : Seen) (store store' : Blocks) (m n : List Bool) → CanMend write a store m → b.slots ≡ a.slots
    → SameLoans store store' → Serves b store' → length n ≡ length m → CanMend write b store' n
can_mend_then write a b store store' m n can slots same serves long = record {
  serves = serves;
  room = omega (arith, can.room, ap (count_by is_none) same.loans);
  writable = λ w. subst AreWritable (sym slots) (can.writable w);
  slots = long ∙ can.slots ∙ sym (ap length slots);
  table = subst (λ (l : Layout). IsTable l.chunks) (sym same.layout) can.table;
  given = ap first_missing same.layout ∙ can.given;
}

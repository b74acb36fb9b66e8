-- Calls that list blocks and sift them, one after another.
use Rattle.std.proofs.Common.{◌≡◌, ℕ, List, [], ◌++◌, Option, Some, None, Result, Ok, Err, OnOk, IsErrAnd, refl, sym, ap, ◌∙◌, subst, arith}
use Rattle.std.specs.Prelude.{fold}
use Rattle.btr_scrub.proofs.Common.{AccountsMend, Follows, Gathered, Gathers, HasKeptOf, HasPassed, Image, Images, IsList, Layout, LiesInStripe, Lists, Map}
use Rattle.btr_scrub.proofs.Common.{Meeting, Memory, MendFault, Met, OnlyReads, SameVolume, Scene, Seen, Serves, SumKind, Super, Tally, Tells, Volume, bind}
use Rattle.btr_scrub.proofs.Common.{count_met, exec, kept_wants, no_part, reads_more, same_held, scene, steps_of, unread_by, wants_among}
use Rattle.btr_prog.specs.Calls.{Sure}
use Rattle.btr_prog.proofs.Follow.{broke_here}
use Rattle.btr_read.specs.Fate as fate
use Rattle.btr_read.specs.Reading.{OnMap}
use Rattle.btr_walk.specs.declared.fault.TreeFault.TheVariants as tree
use Rattle.btr_walk.proofs.Joined.{joined}
use Rattle.btr_volume.specs.Stops.{ended}
use Rattle.btr_volume.specs.declared.stop.Stop.{Stop}
use Rattle.btr_volume.specs.declared.stop.Stop.TheVariants as stop
use Rattle.btr_scrub_copies.specs.Writes.{FailsAt}
use Rattle.btr_scrub.specs.Gathering.{StopCause}
use Rattle.btr_scrub.specs.Sifting.{ImageFails, Judges, Sieves, SiftsUnits, Went}
use Rattle.btr_scrub.specs.Whole.{answer_of}
use Rattle.btr_scrub.specs.declared.sieve.Sieve.{Sieve}
use Rattle.btr_scrub.proofs.Gathering.{gathers_halt, gathers_then, reaches_ends, same_then}
use Rattle.btr_scrub.proofs.Lists.{passed}
use Rattle.btr_scrub.proofs.Listing.{adds_list, both}

-- what holds of each block map is told by any reads
pub tells_all : (layout : Layout) (a b : Seen) (P : Map → Type 0) → OnlyReads a b → ((B : Map) → P B) → Tells layout a b P
tells_all layout a b P reads f = record { calls = record { same = same_held reads; later = reads.later; content = λ sure s. by a.held sure } }
  where
    by : (h : Option (List (List ℕ))) (sure : Sure) → OnMap layout P sure h
    by None sure = tt
    by (Some images) sure = f (fate.fate images layout)

-- ---- a list behind another

-- the blocks of a chunk behind those that were listed before
abbrev pub behind : Gathered → Gathered → Gathered
behind whole more = record { list = both whole.list more.list; unchecked = more.unchecked }

module _ {A : Type 0} {p : Meeting A} {a b : Seen} {vol after : Volume} {empty more : Gathered} (whole : Gathered) where
  -- what was met is the same, whatever was listed before
  relisted : (new : Gathered) (r : Result A Stop) (h : Gathers p (scene a vol empty) (scene b after more) r) → OnOk r (Lists whole new h.done)
      → Gathers p (scene a vol whole) (scene b after new) r
  relisted new r h lists =
      record { reads = h.reads; volume = h.volume; serves = h.serves; done = h.done; lists = lists; content = h.content; cause = h.cause }

  -- what was listed anew was listed behind what there was
  pub gathers_behind : {x : A} → Gathers p (scene a vol empty) (scene b after more) (Ok x) → kept_wants empty.list ≡ []
      → empty.list.kind ≡ whole.list.kind → empty.unchecked ≡ whole.unchecked → IsList whole.list
      → Gathers p (scene a vol whole) (scene b after (behind whole more)) (Ok x)
  gathers_behind {x} h none kind unchecked is =
      let all = adds_list whole.list more.list is h.lists.is_list (h.lists.kind ∙ kind) in
      relisted (behind whole more) (Ok x) h (record {
        is_list = all.is_list;
        kind = refl;
        wants = all.wants ∙ ap (λ ws. kept_wants whole.list ++ ws) (h.lists.wants ∙ ap (λ ws. ws ++ wants_among h.done) none);
        unchecked = h.lists.unchecked ∙ ap (λ n. fold count_met n h.done) unchecked;
      })

  -- a stop is the same, whatever was listed before
  pub stop_behind : {s : Stop} → Gathers p (scene a vol empty) (scene b after more) (Err s) → Gathers p (scene a vol whole) (scene b after more) (Err s)
  stop_behind {s} h = relisted more (Err s) h tt

-- ---- further reads

module _ {A : Type 0} {p : Meeting A} {a b z : Seen} {vol after last : Volume} {list more : Gathered} {x : A} (reads : OnlyReads b z)
    (same : SameVolume after last) (serves : Serves z last.store) (h : Gathers p (scene a vol list) (scene b after more) (Ok x)) where
  -- what is answered behind reads that followed, of all that was met or of nothing
  gathers_on : (done : List Met) (r : Result A Stop) → OnOk r (Lists list more done) → StopCause vol.store.layout a z r
      → ((B : Map) → (h.done ≡ steps_of (exec B p).marks) × ((exec B p).ending ≡ Ok x)
      → Follows (unread_by vol.store.layout a z) no_part [] (exec B p) done (ended r)) → Gathers p (scene a vol list) (scene z last more) r
  gathers_on done r lists cause follows = record {
    reads = reads_more h.reads reads;
    volume = same_then h.volume same;
    serves = serves;
    done = done;
    lists = lists;
    content = joined (λ B. Follows (unread_by vol.store.layout a b) no_part [] (exec B p) h.done (Ok x)) (λ B. Unit {0})
        (λ B. Follows (unread_by vol.store.layout a z) no_part [] (exec B p) done (ended r)) refl (λ B f t. follows B f) h.content
        (tells_all vol.store.layout b z (λ B. Unit {0}) reads (λ B. tt));
    cause = cause;
  }

  -- reads that followed change nothing of it
  pub gathers_later : Gathers p (scene a vol list) (scene z last more) (Ok x)
  gathers_later = gathers_on h.done (Ok x) h.lists tt (λ B f. f)

  -- where memory ran out behind it, that is the stop
  pub gathers_broke : Gathers p (scene a vol list) (scene z last more) (Err stop.Memory)
  gathers_broke = gathers_on [] (Err stop.Memory) tt tt (λ B f. broke_here (unread_by vol.store.layout a z) no_part [] (exec B p))

  -- no steady reads gave what was listed
  pub gathers_never : (addr : ℕ) → ((B : Map) → (h.done ≡ steps_of (exec B p).marks) × ((exec B p).ending ≡ Ok x) → ⊥)
      → Gathers p (scene a vol list) (scene z last more) (Err (stop.Tree (tree.Malformed addr)))
  gathers_never addr never = gathers_on [] (Err (stop.Tree (tree.Malformed addr))) tt tt (λ B f. absurd (never B f))

-- ---- what came of it

-- a stop of the listing
went_stop : {A : Type 0} (p : Meeting A) (x : Scene) (rack : Seen) (vol : Volume) (sieve : Sieve) (list : Gathered) (s : Stop) → Gathers p x
    (scene rack vol list) (Err s) → Went p x rack vol sieve (Err s)
went_stop p x rack vol sieve list (stop.Image slot) h = absurd h.cause
went_stop p x rack vol sieve list s h = (list, h)

module _ {A : Type 0} {p : Meeting A} {x : Scene} {rack : Seen} {vol : Volume} {sieve : Sieve} {list : Gathered} where
  -- a stop as blocks are listed is one as they are sifted
  pub sieves_stop : {s : Stop} → Gathers p x (scene rack vol list) (Err s) → Sieves p x rack vol sieve (Err s)
  sieves_stop {s} h = record { reads = h.reads; volume = h.volume; serves = h.serves; went = went_stop p x rack vol sieve list s h }

  -- so is an end, where the list was sifted
  pub sieves_ok : {a : A} → Gathers p x (scene rack vol list) (Ok a) → HasKeptOf x.vol.store.layout rack.held list sieve → Sieves p x rack vol sieve (Ok a)
  sieves_ok h stands = record { reads = h.reads; volume = h.volume; serves = h.serves; went = (list, h, stands) }

-- what was done behind a fault was done where it is passed on
pub sieves_passed : {A : Type 0} {p : Meeting A} {x : Scene} {rack : Seen} {vol : Volume} {sieve : Sieve} {r : Result A Stop} {halt : Stop}
    → IsErrAnd r (λ e. e ≡ halt) → Sieves p x rack vol sieve (Err halt) → Sieves p x rack vol sieve r
sieves_passed {p = p} {x = x} {rack = rack} {vol = vol} {sieve = sieve} {r = r} {halt = halt} is h = passed (λ r. Sieves p x rack vol sieve r) r halt is h

-- the stops of two answers that are the same are the same
same_stop : (s t : Stop) → ◌≡◌ {A = Result Tally Stop} (Err s) (Err t) → s ≡ t
same_stop s t e = cc e

-- a fault of the sifting
pub sieves_fault : {A : Type 0} {p : Meeting A} {a b z : Seen} {vol after last : Volume} {list more : Gathered} {sieve : Sieve} {x : A}
    → Gathers p (scene a vol list) (scene b after more) (Ok x) → OnlyReads b z → SameVolume after last → Serves z last.store
    → (f : MendFault) → AccountsMend {A = Unit {0}} (LiesInStripe vol.store.layout) b z (Err f)
    → (s : Stop) → ((tally : Tally) → Err s ≡ answer_of (Err f) tally) → (tally : Tally) → Sieves p (scene a vol list) z last sieve (Err s)
sieves_fault {p = p} {a = a} {b = b} {z = z} {vol = vol} {last = last} {list = list} {sieve = sieve} h reads same serves (Image slot) account s says tally =
    subst (λ w. Sieves p (scene a vol list) z last sieve (Err w)) (same_stop (stop.Image slot) s (sym (says tally))) (record {
      reads = reads_more h.reads reads;
      volume = same_then h.volume same;
      serves = serves;
      went = record { mid = b; before = h.reads; reads = reads; failed = account };
    })
sieves_fault {p = p} {a = a} {z = z} {vol = vol} {last = last} {list = list} {sieve = sieve} h reads same serves Memory account s says tally =
    subst (λ w. Sieves p (scene a vol list) z last sieve (Err w)) (same_stop stop.Memory s (sym (says tally)))
    (sieves_stop (gathers_broke reads same serves h))

-- ---- one after another

-- an image that failed behind reads failed behind those before them, too
fails_since : (layout layout' : Layout) (slot : ℕ) (a b c : Seen) → layout' ≡ layout → OnlyReads a b → ImageFails layout' slot b c → ImageFails layout slot a c
fails_since layout layout' slot a b c e reads h =
    record { mid = h.mid; before = reads_more reads h.before; reads = h.reads; failed = subst (λ l. FailsAt (LiesInStripe l) slot h.mid c) e h.failed }

module _ {A C : Type 0} {p : Meeting A} (k : A → Meeting C) {x y : Scene} {a : A} (h : Gathers p x y (Ok a)) where
  -- what came of the second, behind the first, came of both
  went_then : (rack : Seen) (vol : Volume) (sieve : Sieve) (r : Result C Stop) → Went (k a) y rack vol sieve r → Went (bind p k) x rack vol sieve r
  went_then rack vol sieve (Ok c) w =
      (w.0, gathers_then p k x y (scene rack vol w.0) a (Ok c) h w.1, subst (λ l. HasKeptOf l rack.held w.0 sieve) h.volume.store.layout w.2)
  went_then rack vol sieve (Err (stop.Image slot)) w = fails_since x.vol.store.layout y.vol.store.layout slot x.rack y.rack rack h.volume.store.layout h.reads w
  went_then rack vol sieve (Err s) w = (w.0, gathers_then p k x y (scene rack vol w.0) a (Err s) h w.1)

  -- both were done
  pub sieves_then : {rack : Seen} {vol : Volume} {sieve : Sieve} {r : Result C Stop} → Sieves (k a) y rack vol sieve r
      → Sieves (bind p k) x rack vol sieve r
  sieves_then {rack} {vol} {sieve} {r} s =
      record { reads = reads_more h.reads s.reads; volume = same_then h.volume s.volume; serves = s.serves; went = went_then rack vol sieve r s.went }

module _ {A C : Type 0} {p : Meeting C} (q : Meeting A) (k : A → Meeting C) {x y : Scene} (h : HasPassed p (bind q k) x y) where
  -- a stop of the first is the stop of the whole
  went_halt : (rack : Seen) (vol : Volume) (sieve : Sieve) (s : Stop) → Went q y rack vol sieve (Err s) → Went p x rack vol sieve (Err s)
  went_halt rack vol sieve (stop.Image slot) w = fails_since x.vol.store.layout y.vol.store.layout slot x.rack y.rack rack h.volume.store.layout h.reads w
  went_halt rack vol sieve s w = (w.0, reaches_ends p (bind q k) x y (scene rack vol w.0) (Err s) h (gathers_halt q k y (scene rack vol w.0) s w.1))

  -- the first came to a stop
  pub sieves_halt : {rack : Seen} {vol : Volume} {sieve : Sieve} {s : Stop} → Sieves q y rack vol sieve (Err s) → Sieves p x rack vol sieve (Err s)
  sieves_halt {rack} {vol} {sieve} {s} v =
      record { reads = reads_more h.reads v.reads; volume = same_then h.volume v.volume; serves = v.serves; went = went_halt rack vol sieve s v.went }

-- ---- the same of other parts

-- what stands over a layout and images stands over the same ones
pub stands_as : {layout layout' : Layout} {held held' : Option Images} {whole : Gathered} {sieve : Sieve} → layout' ≡ layout → held' ≡ held
    → HasKeptOf layout held whole sieve → HasKeptOf layout' held' whole sieve
stands_as {layout} {layout'} {held} {held'} {whole} {sieve} e same h =
    subst (λ o. HasKeptOf layout' o whole sieve) (sym same) (subst (λ l. HasKeptOf l held whole sieve) (sym e) h)

-- the superblock and the layout as they were before calls that left them
pub sieves_as : {A : Type 0} (p : Super → Layout → Meeting A) {s t : Super} {layout layout' : Layout} {x : Scene} {rack : Seen} {vol : Volume}
    {sieve : Sieve} {r : Result A Stop} → t ≡ s → layout' ≡ layout → Sieves (p t layout') x rack vol sieve r → Sieves (p s layout) x rack vol sieve r
sieves_as p {s} {t} {layout} {layout'} {x} {rack} {vol} {sieve} {r} e h k = subst (λ l. Sieves (p s l) x rack vol sieve r) h
    (subst (λ u. Sieves (p u layout') x rack vol sieve r) e k)

-- ---- all blocks

-- a list of nothing
abbrev pub nothing_listed : SumKind → Gathered
nothing_listed kind = record { list = record { kind = kind; runs = []; sums = []; marks = [] }; unchecked = 0 }

-- a list of nothing is one
pub nothing_is : (kind : SumKind) → IsList (nothing_listed kind).list
nothing_is kind = record { runs_fit = tt; sums_fit = omega arith; marks_fit = refl }

module _ (p : Meeting (Unit {0})) (a b : Seen) (vol after : Volume) (kind : SumKind) (sieve : Sieve) where
  -- all was sifted
  pub sifted_all : Sieves p (scene a vol (nothing_listed kind)) b after sieve (Ok tt) → SiftsUnits p vol.store.layout a b (Ok sieve)
  sifted_all s =
      let w = s.went in (
        w.1.done,
        record {
          can = w.2.can;
          unchecked = w.2.unchecked ∙ w.1.lists.unchecked;
          judged = subst (λ ws. Judges vol.store.layout b.held ws sieve sieve.refused) w.1.lists.wants w.2.judged;
        },
        w.1.content,
      )

  -- or it came to a stop
  pub sifted_none : (s : Stop) → Sieves p (scene a vol (nothing_listed kind)) b after sieve (Err s) → SiftsUnits p vol.store.layout a b (Err s)
  sifted_none (stop.Image slot) s = s.went
  sifted_none why s = (s.went.1.done, s.went.1.content, s.went.1.cause)

-- Calls that list the checked blocks, one after another.
use Rattle.std.proofs.Common.{◌≡◌, ℕ, List, [], ◌∷◌, ◌++◌, Result, Ok, Err, OnOk, refl, sym, ap, ◌∙◌, subst, inl, inr, append-nil, append_assoc}
use Rattle.std.proofs.lemmas.Result.{on_ok_weaker}
use Rattle.std.specs.Prelude.{fold}
use Rattle.btr_scrub.proofs.Common.{AddsTo, Checked, Emit, Follows, Gathered, Gathers, HasPassed, IsList, Layout, Lists, Looks, Map, Mark, Meeting, Met}
use Rattle.btr_scrub.proofs.Common.{OnlyReads, Plain, Return, SameVolume, Scene, Seen, Serves, Tells, TreeFault, Volume, Want, bind, count_met, drawn, exec}
use Rattle.btr_scrub.proofs.Common.{exec-bind, kept_wants, no_part, quiet, reads_more, scene, steps_of, unread_by, wants_among}
use Rattle.btr_prog.specs.Prog.{Stop, prepend, wants_of}
use Rattle.btr_prog.proofs.Follow.{broke_here, follows_alone, follows_as, follows_behind, follows_halt}
use Rattle.btr_prog.proofs.Quieting.{follows_quiet}
use Rattle.btr_prog.proofs.Runs.{after-ok, prepend-prepend, steps_of-append}
use Rattle.btr_rack.proofs.Reading.{reads_none}
use Rattle.btr_read.specs.Fate as fate
use Rattle.btr_read.specs.Fate.{fate}
use Rattle.btr_walk.specs.declared.fault.TreeFault.TheVariants as tree
use Rattle.btr_walk.specs.Reading.{FaultCause, HasCause, halt_of}
use Rattle.btr_walk.proofs.Fetched.{cause_since, since}
use Rattle.btr_volume.specs.Lookup.{Lookup}
use Rattle.btr_volume.specs.declared.stop.Stop.{Stop as TheStop}
use Rattle.btr_volume.specs.declared.stop.Stop.TheVariants as stop
use Rattle.btr_walk.proofs.Joined.{joined, unread_on}
use Rattle.btr_scrub.specs.Gathering.{IsCrossing, TreeCause, StopCause}
use Rattle.btr_scrub.specs.Units.{Unchecked}
use Rattle.btr_volume.specs.Stops.{ended, stop_halt}
pub use Rattle.btr_volume.proofs.Onward.{same_self, same_then}

-- ---- what is listed

-- the wants of two lists of what was met are those of the first, and then those of the second
pub among-append : (met more : List Met) → wants_among (met ++ more) ≡ wants_among met ++ wants_among more
among-append [] more = refl
among-append (Checked want ∷ met) more = ap (λ q. want ∷ q) (among-append met more)
among-append (Unchecked addr ∷ met) more = ap (λ q. Plain addr ∷ q) (among-append met more)

-- sectors without a checksum are counted one list behind the other
count-append : (n : ℕ) (met more : List Met) → fold count_met n (met ++ more) ≡ fold count_met (fold count_met n met) more
count-append n [] more = refl
count-append n (m ∷ met) more = count-append (count_met n m) met more

-- nothing was listed
pub lists_none : (x : Gathered) → IsList x.list → Lists x x []
lists_none x is = record { is_list = is; kind = refl; wants = sym (append-nil (kept_wants x.list)); unchecked = refl }

-- what is listed in two steps is listed
pub lists_then : (x y z : Gathered) (done more : List Met) → Lists x y done → Lists y z more → Lists x z (done ++ more)
lists_then x y z done more h g = record {
  is_list = g.is_list;
  kind = g.kind ∙ h.kind;
  wants = g.wants ∙ ap (λ q. q ++ wants_among more) h.wants ∙ append_assoc (kept_wants x.list) (wants_among done) (wants_among more)
      ∙ ap (λ q. kept_wants x.list ++ q) (sym (among-append done more));
  unchecked = g.unchecked ∙ ap (λ n. fold count_met n more) h.unchecked ∙ sym (count-append x.unchecked done more);
}

-- a block that was put behind the list is listed
pub lists_added : (x y : Gathered) (want : Want) → AddsTo x.list y.list want → y.unchecked ≡ x.unchecked → Lists x y (Checked want ∷ [])
lists_added x y want a same = record { is_list = a.is_list; kind = a.kind; wants = a.wants; unchecked = same }

-- ---- what is told

-- what lies behind a fault of a later call
tree_cause_since : {a b : Seen} (c : Seen) (layout layout' : Layout) (f : TreeFault) → layout' ≡ layout → OnlyReads a b → TreeCause layout' b c f
    → TreeCause layout a c f
tree_cause_since c layout layout' (tree.Crosses x) e reads (inl h) = inl (cause_since c layout layout' (tree.Crosses x) e reads h)
tree_cause_since c layout layout' (tree.Crosses x) e reads (inr h) = inr (subst (λ l. IsCrossing l x) e h)
tree_cause_since c layout layout' (tree.Malformed x) e reads h = tt
tree_cause_since c layout layout' f e reads h = cause_since c layout layout' f e reads h

-- what lies behind a tree's fault lies behind it here
pub tree_cause : (layout : Layout) (a b : Seen) (f : TreeFault) → FaultCause layout a b f → TreeCause layout a b f
tree_cause layout a b (tree.Crosses x) h = inl h
tree_cause layout a b (tree.Malformed x) h = tt
tree_cause layout a b f h = h

-- what lies behind a stop of a later call
pub stop_cause_since : {C : Type 0} {a b : Seen} (c : Seen) (layout layout' : Layout) (r : Result C TheStop) → layout' ≡ layout → OnlyReads a b
    → StopCause layout' b c r → StopCause layout a c r
stop_cause_since c layout layout' (Err (stop.Tree f)) e reads h = tree_cause_since c layout layout' f e reads h
stop_cause_since c layout layout' r e reads h = h

-- a stop has the same behind it, whatever was to be answered
cause_kept : (A C : Type 0) (layout : Layout) (a b : Seen) (s : TheStop) → StopCause {A = A} layout a b (Err s) → StopCause {A = C} layout a b (Err s)
cause_kept A C layout a b (stop.NoTree id) h = h
cause_kept A C layout a b s h = h

-- ---- calls

-- calls were made of which something is told, and what they met was listed
pub gathers_told : {A : Type 0} (p : Meeting A) (P : Map → Type 0) (old new : Seen) (vol after : Volume) (x y : Gathered) (done : List Met)
    (r : Result A TheStop) → Serves new after.store → OnlyReads old new → SameVolume vol after → OnOk r (Lists x y done)
    → ((B : Map) → P B → Follows (unread_by vol.store.layout old new) no_part [] (exec B p) done (ended r)) → Tells vol.store.layout old new P
    → StopCause vol.store.layout old new r → Gathers p (scene old vol x) (scene new after y) r
gathers_told p P old new vol after x y done r serves reads same lists follows told cause = record {
  reads = reads;
  volume = same;
  serves = serves;
  done = done;
  lists = lists;
  content = drawn vol.store.layout P (λ B. Follows (unread_by vol.store.layout old new) no_part [] (exec B p) done (ended r)) follows told;
  cause = cause;
}

-- no call was made
gathers_here : {A : Type 0} (p : Meeting A) (rack : Seen) (vol : Volume) (l m : Gathered) (done : List Met) (r : Result A TheStop) → Serves rack vol.store
    → OnOk r (Lists l m done) → ((B : Map) → Follows (unread_by vol.store.layout rack rack) no_part [] (exec B p) done (ended r))
    → StopCause vol.store.layout rack rack r → Gathers p (scene rack vol l) (scene rack vol m) r
gathers_here p rack vol l m done r serves lists follows cause =
    gathers_told p (λ B. Unit {0}) rack rack vol vol l m done r serves (reads_none rack) (same_self vol) lists (λ B u. follows B)
    (unread_on vol.store.layout (λ B. Unit {0}) (λ B. tt)) cause

-- nothing was done
pub gathers_value : {A : Type 0} (a : A) (x : Scene) → IsList x.list.list → Serves x.rack x.vol.store → Gathers (Return a) x x (Ok a)
gathers_value a x is serves = gathers_here (Return a) x.rack x.vol x.list x.list [] (Ok a) serves (lists_none x.list is) (λ B. (refl, refl)) tt

-- calls were made, of which something is told, and nothing was listed
pub gathers_none : (P : Map → Type 0) (old new : Seen) (vol after : Volume) (x y : Gathered) → Lists x y [] → Serves new after.store → OnlyReads old new
    → SameVolume vol after → Tells vol.store.layout old new P → Gathers {A = Unit {0}} (Return tt) (scene old vol x) (scene new after y) (Ok tt)
gathers_none P old new vol after x y listed serves reads same told =
    gathers_told (Return tt) P old new vol after x y [] (Ok tt) serves reads same listed (λ B p. (refl, refl)) told tt

-- one block was met
pub gathers_met : (m : Met) (rack : Seen) (vol : Volume) (x y : Gathered) → Lists x y (m ∷ []) → Serves rack vol.store
    → Gathers {A = Unit {0}} (Emit m (Return tt)) (scene rack vol x) (scene rack vol y) (Ok tt)
gathers_met m rack vol x y l serves = gathers_here (Emit m (Return tt)) rack vol x y (m ∷ []) (Ok tt) serves l (λ B. (refl, refl)) tt

-- no memory was had
pub gathers_memory : {A : Type 0} (p : Meeting A) (rack : Seen) (vol : Volume) (l m : Gathered) → Serves rack vol.store
    → Gathers p (scene rack vol l) (scene rack vol m) (Err stop.Memory)
gathers_memory p rack vol l m serves = gathers_here p rack vol l m [] (Err stop.Memory) serves tt
    (λ B. broke_here (unread_by vol.store.layout rack rack) no_part [] (exec B p)) tt

-- a program only stops
pub gathers_stop : {A : Type 0} (f : fate.Fault) (s : TheStop) (x : Scene) → Serves x.rack x.vol.store
    → ((B : Map) → Follows {S = Met} (unread_by x.vol.store.layout x.rack x.rack) no_part [] (exec B (Stop f)) [] (ended {A = A} (Err s)))
    → StopCause {A = A} x.vol.store.layout x.rack x.rack (Err s) → Gathers {A = A} (Stop f) x x (Err s)
gathers_stop f s x serves follows cause = gathers_here (Stop f) x.rack x.vol x.list x.list [] (Err s) serves tt follows cause

-- a lookup, which meets nothing
module _ {A : Type 0} (p : Lookup A) (old new : Seen) (vol after : Volume) (list : Gathered) where
  -- it gave an answer
  pub gathers_found : (a : A) → IsList list.list → Serves new after.store → OnlyReads old new → SameVolume vol after
      → Looks vol.store.layout old new p (Ok a) → Gathers (quiet p) (scene old vol list) (scene new after list) (Ok a)
  gathers_found a is serves reads same l =
      gathers_told (quiet p) (λ B. Follows {S = ⊥} (unread_by vol.store.layout old new) no_part [] (exec B p) [] (Ok a)) old new vol after list list []
      (Ok a) serves reads same (lists_none list is) (λ B f. follows_quiet (unread_by vol.store.layout old new) no_part [] B p [] (Ok a) f) l tt

  -- or came to a fault
  pub gathers_fault : (f : TreeFault) → Serves new after.store → OnlyReads old new → SameVolume vol after
      → HasCause {A = A} vol.store.layout old new (Err f) → Looks vol.store.layout old new p (Err f)
      → Gathers (quiet p) (scene old vol list) (scene new after list) (Err (stop.Tree f))
  gathers_fault f serves reads same cause l =
      gathers_told (quiet p) (λ B. Follows {S = ⊥} (unread_by vol.store.layout old new) no_part [] (exec B p) [] (Err (halt_of f))) old new vol after list
      list [] (Err (stop.Tree f)) serves reads same tt
      (λ B g. follows_quiet (unread_by vol.store.layout old new) no_part [] B p [] (Err (halt_of f)) g) l (tree_cause vol.store.layout old new f cause)

-- what is left was answered
pub reaches_ends : {A : Type 0} (p q : Meeting A) (x y z : Scene) (r : Result A TheStop) → HasPassed p q x y → Gathers q y z r → Gathers p x z r
reaches_ends p q x y z r h g =
    let layout = x.vol.store.layout in
    let same = h.volume.store.layout in
    record {
      reads = reads_more h.reads g.reads;
      volume = same_then h.volume g.volume;
      serves = g.serves;
      done = h.done ++ g.done;
      lists = on_ok_weaker r (λ l. lists_then x.list y.list z.list h.done g.done h.lists l) g.lists;
      content = joined (λ B. (before : List (Mark Want Met)) × (exec B p ≡ prepend before (exec B q)) × (h.done ≡ steps_of before))
          (λ B. Follows (unread_by y.vol.store.layout y.rack z.rack) no_part [] (exec B q) g.done (ended r))
          (λ B. Follows (unread_by layout x.rack z.rack) no_part [] (exec B p) (h.done ++ g.done) (ended r)) same
          (λ B b f. subst (λ d. Follows (unread_by layout x.rack z.rack) no_part [] (exec B p) (d ++ g.done) (ended r)) (sym b.2)
          (subst (λ t. Follows (unread_by layout x.rack z.rack) no_part [] t (steps_of b.0 ++ g.done) (ended r)) (sym b.1)
          (follows_behind (unread_by layout x.rack z.rack) no_part [] b.0 (exec B q) g.done (ended r)
          (follows_alone (unread_by layout x.rack z.rack) no_part (wants_of b.0) (exec B q) g.done (ended r)
          (follows_as (unread_by y.vol.store.layout y.rack z.rack) (unread_by layout x.rack z.rack) (since layout y.vol.store.layout same h.reads)
          no_part [] (exec B q) g.done (ended r) f))))) h.content g.content;
      cause = stop_cause_since z.rack layout y.vol.store.layout r same h.reads g.cause;
    }

-- one call after another
module _ {A C : Type 0} (p : Meeting A) (k : A → Meeting C) (x y : Scene) where
  -- the first was done
  passed_first : (a : A) → Gathers p x y (Ok a) → HasPassed (bind p k) (k a) x y
  passed_first a h = record {
    reads = h.reads;
    volume = h.volume;
    serves = h.serves;
    done = h.done;
    lists = h.lists;
    content = drawn x.vol.store.layout (λ B. Follows (unread_by x.vol.store.layout x.rack y.rack) no_part [] (exec B p) h.done (Ok a))
        (λ B. (before : List (Mark Want Met)) × (exec B (bind p k) ≡ prepend before (exec B (k a))) × (h.done ≡ steps_of before))
        (λ B f. ((exec B p).marks, exec-bind B p k ∙ after-ok (exec B p) a (λ v. exec B (k v)) f.1, f.0)) h.content;
  }

  -- both were done
  pub gathers_then : (z : Scene) (a : A) (r : Result C TheStop) → Gathers p x y (Ok a) → Gathers (k a) y z r → Gathers (bind p k) x z r
  gathers_then z a r h g = reaches_ends (bind p k) (k a) x y z r (passed_first a h) g

  -- the first came to a stop
  pub gathers_halt : (s : TheStop) → Gathers p x y (Err s) → Gathers (bind p k) x y (Err s)
  gathers_halt s h =
      gathers_told (bind p k) (λ B. Follows (unread_by x.vol.store.layout x.rack y.rack) no_part [] (exec B p) h.done (Err (stop_halt s))) x.rack y.rack
      x.vol y.vol x.list y.list h.done (Err s) h.serves h.reads h.volume tt
      (λ B f. subst (λ q. Follows (unread_by x.vol.store.layout x.rack y.rack) no_part [] q h.done (Err (stop_halt s))) (sym (exec-bind B p k))
      (follows_halt (unread_by x.vol.store.layout x.rack y.rack) no_part [] (exec B p) (λ v. exec B (k v)) h.done (stop_halt s) f)) h.content
      (cause_kept A C x.vol.store.layout x.rack y.rack s h.cause)

-- ---- loops

-- nothing is past yet
pub reaches_none : {A : Type 0} (p : Meeting A) (x : Scene) → IsList x.list.list → Serves x.rack x.vol.store → HasPassed p p x x
reaches_none p x is serves = record {
  reads = reads_none x.rack;
  volume = same_self x.vol;
  serves = serves;
  done = [];
  lists = lists_none x.list is;
  content = unread_on x.vol.store.layout (λ B. (before : List (Mark Want Met)) × (exec B p ≡ prepend before (exec B p)) × ([] ≡ steps_of before))
      (λ B. ([], refl, refl));
}

module _ {A C : Type 0} (p : Meeting C) (q : Meeting A) (k : A → Meeting C) (x y : Scene) (h : HasPassed p (bind q k) x y) where
  -- one more call went well
  pub reaches_step : (z : Scene) (a : A) → Gathers q y z (Ok a) → HasPassed p (k a) x z
  reaches_step z a g =
      let layout = x.vol.store.layout in
      record {
        reads = reads_more h.reads g.reads;
        volume = same_then h.volume g.volume;
        serves = g.serves;
        done = h.done ++ g.done;
        lists = lists_then x.list y.list z.list h.done g.done h.lists g.lists;
        content = joined (λ B. (before : List (Mark Want Met)) × (exec B p ≡ prepend before (exec B (bind q k))) × (h.done ≡ steps_of before))
            (λ B. Follows (unread_by y.vol.store.layout y.rack z.rack) no_part [] (exec B q) g.done (Ok a))
            (λ B. (before : List (Mark Want Met)) × (exec B p ≡ prepend before (exec B (k a))) × (h.done ++ g.done ≡ steps_of before)) h.volume.store.layout
            (λ B b f. (
              b.0 ++ (exec B q).marks,
              b.1 ∙ ap (prepend b.0) (exec-bind B q k ∙ after-ok (exec B q) a (λ v. exec B (k v)) f.1) ∙ prepend-prepend b.0 (exec B q).marks (exec B (k a)),
              ap (λ d. d ++ g.done) b.2 ∙ ap (λ d. steps_of b.0 ++ d) f.0 ∙ sym (steps_of-append b.0 (exec B q).marks),
            )) h.content g.content;
      }

-- the scene after a call, seen as another
pub gathers_from : {A : Type 0} (p q : Meeting A) (x y : Scene) (r : Result A TheStop) → p ≡ q → Gathers p x y r → Gathers q x y r
gathers_from p q x y r e h = subst (λ t. Gathers t x y r) e h

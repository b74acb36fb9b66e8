-- Lookups one after another.
use Rattle.std.proofs.Common.{◌≡◌, Bool, true, false, cond, List, [], Option, Some, None, Result, Ok, Err, IsErrAnd, refl, sym, subst}
use Rattle.btr_prog.specs.Answers.{Follows, no_part}
use Rattle.btr_prog.specs.Calls.{Sure}
use Rattle.btr_prog.specs.Prog.{Return, bind, exec, wants_of}
use Rattle.btr_prog.proofs.Follow.{follows_alone, follows_as, follows_halt, follows_then}
use Rattle.btr_prog.proofs.Runs.{exec-bind}
use Rattle.btr_prog.proofs.Successive.{calls_none}
use Rattle.btr_rack.specs.Rack.{Seen, OnlyReads}
use Rattle.btr_rack.proofs.Reading.{reads_more, reads_none}
use Rattle.btr_read.specs.Fate.{fate}
use Rattle.btr_read.specs.Layout.{Layout}
use Rattle.btr_read.specs.Reading.{OnMap}
use Rattle.btr_read.specs.Serves.{Serves}
use Rattle.btr_super.specs.declared.superblock.Super.{Super}
use Rattle.btr_walk.specs.Reading.{HasCause, Map, answer_of, halt_of, unread_by}
use Rattle.btr_walk.specs.declared.fault.TreeFault.{TreeFault}
use Rattle.btr_walk.proofs.Fetched.{cause_since, passed_on, since}
use Rattle.btr_walk.proofs.Joined.{drawn, joined}
use Rattle.btr_volume.specs.Looking.{Looks, SameVolume}
use Rattle.btr_volume.specs.Lookup.{Lookup}
use Rattle.btr_volume.specs.declared.volume.Volume.{Volume}
use Rattle.btr_volume.specs.Readable.{CanRead}
use Rattle.btr_volume.proofs.Onward.{reads_on, same_self, same_then}
use Rattle.btr_listing.specs.Looked.{Looked}

-- a fault of a later call has its cause
pub causes_since : {C : Type 0} {a b : Seen} (c : Seen) (layout layout' : Layout) (r : Result C TreeFault) → layout' ≡ layout → OnlyReads a b
    → HasCause layout' b c r → HasCause layout a c r
causes_since c layout layout' (Ok v) same reads h = h
causes_since c layout layout' (Err f) same reads h = cause_since c layout layout' f same reads h

-- what holds of every block map holds of the one of the images, if the rack tells them
on_any : (layout : Layout) (P : Map → Type 0) → ((B : Map) → P B) → (sure : Sure) (held : Option (List (List _))) → OnMap layout P sure held
on_any layout P f sure None = tt
on_any layout P f sure (Some images) = f (fate images layout)

-- nothing is looked up
pub looks_value : {A : Type 0} (layout : Layout) (rack : Seen) (a : A) → Looks layout rack rack (Return a) (Ok a)
looks_value layout rack a = record {
  calls = calls_none (λ sure. on_any layout (λ B. Follows {S = ⊥} (unread_by layout rack rack) no_part [] (exec B (Return a)) [] (Ok a)) (λ B.
      (refl, refl)) sure rack.held);
}

module _ {A C : Type 0} (p : Lookup A) (k : A → Lookup C) (layout : Layout) where
  -- one lookup after another
  pub looks_then : {a b c : Seen} (layout' : Layout) (v : A) (r : Result C TreeFault) → layout' ≡ layout → OnlyReads a b → Looks layout a b p (Ok v)
      → Looks layout' b c (k v) r → Looks layout a c (bind p k) r
  looks_then {a} {b} {c} layout' v r same reads h g =
      joined {layout' = layout'} (λ B. Follows {S = ⊥} (unread_by layout a b) no_part [] (exec B p) [] (Ok v)) (λ B. Follows {S = ⊥}
      (unread_by layout' b c) no_part [] (exec B (k v)) [] (answer_of r)) (λ B. Follows {S = ⊥} (unread_by layout a c) no_part [] (exec B
      (bind p k)) [] (answer_of r)) same
      (λ B one two. subst (λ x. Follows {S = ⊥} (unread_by layout a c) no_part [] x [] (answer_of r)) (sym (exec-bind B p k))
      (follows_then (unread_by layout a c) no_part [] (exec B p) v (λ u. exec B (k u)) [] [] (answer_of r) one
      (follows_alone (unread_by layout a c) no_part (wants_of (exec B p).marks) (exec B (k v)) [] (answer_of r)
      (follows_as (unread_by layout' b c) (unread_by layout a c) (λ u w i. since layout layout' same reads u w i) no_part [] (exec B (k v)) []
      (answer_of r) two)))) h g

  -- one lookup that came to a fault, and then no other
  pub looks_halt : {a b : Seen} (f : TreeFault) → Looks layout a b p (Err f) → Looks layout a b (bind p k) (Err f)
  looks_halt {a} {b} f h =
      drawn layout (λ B. Follows {S = ⊥} (unread_by layout a b) no_part [] (exec B p) [] (Err (halt_of f))) (λ B. Follows {S = ⊥}
      (unread_by layout a b) no_part [] (exec B (bind p k)) [] (Err (halt_of f)))
      (λ B one. subst (λ x. Follows {S = ⊥} (unread_by layout a b) no_part [] x [] (Err (halt_of f))) (sym (exec-bind B p k))
      (follows_halt (unread_by layout a b) no_part [] (exec B p) (λ u. exec B (k u)) [] (halt_of f) one)) h

-- a lookup by the clauses of its call
pub looked_by : {A : Type 0} (p : Lookup A) (r : Result A TreeFault) {old new : Seen} {vol vol' : Volume} → CanRead 4 old vol → Serves new vol'.store
    → OnlyReads old new → SameVolume vol vol' → HasCause vol.store.layout old new r → Looks vol.store.layout old new p r → Looked p old vol new vol' r
looked_by p r {vol = vol} {vol' = vol'} ready serves reads same cause content = record {
  reads = reads;
  volume = same;
  ready = reads_on _ vol vol' ready serves same;
  cause = cause;
  content = content;
}

-- nothing is looked up
pub looked_value : {A : Type 0} (a : A) {rack : Seen} {vol : Volume} → CanRead 4 rack vol → Looked (Return a) rack vol rack vol (Ok a)
looked_value a {rack} {vol} ready = record {
  reads = reads_none rack;
  volume = same_self vol;
  ready = ready;
  cause = tt;
  content = looks_value vol.store.layout rack a;
}

module _ {A C : Type 0} (p : Lookup A) (k : Super → A → Lookup C) {old mid : Seen} {vol vol' : Volume} {found : Result A TreeFault} where
  -- one lookup after another, each by the superblock of its volume
  pub looked_then : {new : Seen} {vol'' : Volume} (a : A) (r : Result C TreeFault) → Looked p old vol mid vol' found → found ≡ Ok a
      → Looked (k vol'.sup a) mid vol' new vol'' r → Looked (bind p (k vol.sup)) old vol new vol'' r
  looked_then {new} a r h is g = record {
    reads = reads_more h.reads g.reads;
    volume = same_then h.volume g.volume;
    ready = g.ready;
    cause = causes_since new vol.store.layout vol'.store.layout r h.volume.store.layout h.reads g.cause;
    content = looks_then p (k vol.sup) vol.store.layout vol'.store.layout a r h.volume.store.layout h.reads
        (subst (λ x. Looks vol.store.layout old mid p x) is h.content) (subst (λ s. Looks vol'.store.layout mid new (k s a) r) h.volume.sup g.content);
  }

  -- one lookup by the superblock of its volume that came to a fault, and then no other
  pub looked_halt : (f : TreeFault) → Looked p old vol mid vol' found → found ≡ Err f → Looked (bind p (k vol.sup)) old vol mid vol' (Err f)
  looked_halt f h is = record {
    reads = h.reads;
    volume = h.volume;
    ready = h.ready;
    cause = subst (λ x. HasCause vol.store.layout old mid x) is h.cause;
    content = looks_halt p (k vol.sup) vol.store.layout f (subst (λ x. Looks vol.store.layout old mid p x) is h.content);
  }

-- a fault that is passed on
pub looked_passed : {A : Type 0} {p : Lookup A} {old new : Seen} {vol vol' : Volume} {f : TreeFault} (r : Result A TreeFault) → IsErrAnd r (λ e. e ≡ f)
    → Looked p old vol new vol' (Err f) → Looked p old vol new vol' r
looked_passed {p = p} {old = old} {new = new} {vol = vol} {vol' = vol'} {f = f} r is h = passed_on (λ q. Looked p old vol new vol' q) r f is h

-- a lookup, and a value that is made of what it came to
pub looked_last : {A C : Type 0} (p : Lookup A) (f : A → C) {old mid : Seen} {vol vol' : Volume} {found : Result A TreeFault} (a : A) (v : C)
    → Looked p old vol mid vol' found → found ≡ Ok a → v ≡ f a → Looked (bind p (λ x. Return (f x))) old vol mid vol' (Ok v)
looked_last p f {old} {mid} {vol} {vol'} a v h is e =
    subst (λ w. Looked (bind p (λ x. Return (f x))) old vol mid vol' (Ok w)) (sym e)
    (looked_then p (λ s x. Return (f x)) a (Ok (f a)) h is (looked_value (f a) h.ready))

-- where a test decides
module _ {A : Type 0} (p q : Lookup A) {old new : Seen} {vol vol' : Volume} {r : Result A TreeFault} where
  -- where the test is true, the first lookup was done
  pub looked_if : (b : Bool) → b ≡ true → Looked p old vol new vol' r → Looked (cond b p q) old vol new vol' r
  looked_if true e h = h
  looked_if false e h = cc

  -- where the test is false, the second lookup was done
  pub looked_else : (b : Bool) → b ≡ false → Looked q old vol new vol' r → Looked (cond b p q) old vol new vol' r
  looked_else true e h = cc
  looked_else false e h = h

-- Calls on a volume that only read, one after another.
use Rattle.std.proofs.Common.{◌≡◌, ◌≤◌, count_by, is_none, Result, Ok, Err, IsErrAnd, refl, sym, ◌∙◌, subst}
use Rattle.btr_rack.specs.Rack.{Seen, OnlyReads}
use Rattle.btr_read.specs.Layout.{Layout}
use Rattle.btr_read.specs.Serves.{Serves}
use Rattle.btr_read.specs.Store.{free_count}
use Rattle.btr_walk.proofs.Fetched.{cause_since}
use Rattle.btr_volume.specs.Looking.{SameVolume}
use Rattle.btr_volume.specs.Readable.{CanRead}
use Rattle.btr_volume.specs.Stops.{IsBehindAnswer}
use Rattle.btr_volume.specs.declared.stop.Stop.{Stop as TheStop}
use Rattle.btr_volume.specs.declared.stop.Stop.TheVariants as stop
use Rattle.btr_volume.specs.declared.volume.Volume.{Volume}

-- no call did anything
pub same_self : (vol : Volume) → SameVolume vol vol
same_self vol = record { sup = refl; store = record { layout = refl; loans = refl } }

-- calls in a row left the volume as it was
pub same_then : {a b c : Volume} → SameVolume a b → SameVolume b c → SameVolume a c
same_then one two = record {
  sup = two.sup ∙ one.sup;
  store = record { layout = two.store.layout ∙ one.store.layout; loans = two.store.loans ∙ one.store.loans };
}

-- the slots that were free still are
pub room_kept : {n : _} (vol after : Volume) → SameVolume vol after → n ≤ free_count vol.store → n ≤ free_count after.store
room_kept {n} vol after same h = subst (λ l. n ≤ count_by is_none l) (sym same.store.loans) h

-- a volume can be read on
pub reads_on : {n : _} {old : Seen} (new : Seen) (vol after : Volume) → CanRead n old vol → Serves new after.store → SameVolume vol after
    → CanRead n new after
reads_on new vol after ready serves same = record { serves = serves; room = room_kept vol after same ready.room }

-- what lies behind the answer of a later call
pub behind_since : (May : TheStop → Type 0) {C : Type 0} {a b : Seen} (c : Seen) (layout layout' : Layout) (r : Result C TheStop) → layout' ≡ layout
    → OnlyReads a b → IsBehindAnswer May layout' b c r → IsBehindAnswer May layout a c r
behind_since May c layout layout' (Ok v) e reads h = tt
behind_since May c layout layout' (Err (stop.Tree f)) e reads h = cause_since c layout layout' f e reads h
behind_since May c layout layout' (Err other) e reads h = h

-- a stop that is passed on
pub stop_passed : {A : Type 0} (P : Result A TheStop → Type 0) (r : Result A TheStop) (s : TheStop) → IsErrAnd r (λ e. e ≡ s) → P (Err s) → P r
stop_passed P (Ok a) s h p = absurd h
stop_passed P (Err e) s h p = subst (λ (x : TheStop). P (Err x)) (sym h) p

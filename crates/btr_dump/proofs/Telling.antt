-- What calls in a row tell.
use Rattle.std.proofs.Common.{◌≡◌, List, Err, subst}
use Rattle.btr_rack.specs.Rack.{Seen, OnlyReads}
use Rattle.btr_read.specs.Layout.{Layout}
use Rattle.btr_read.specs.declared.want.Want.{Want}
use Rattle.btr_base.specs.declared.key.Key.{Key}
use Rattle.btr_rack.specs.Out.{CallAccount}
use Rattle.btr_volume.specs.declared.stop.Stop.{Stop}
use Rattle.btr_volume.specs.declared.stop.Stop.TheVariants.{NoTree, Tree, Deletion, Balance, Missing, Image, Sink, Out, Memory}
use Rattle.btr_walk.specs.declared.scan_place.ScanPlace.{ScanPlace}
use Rattle.btr_walk.specs.Going.{IsOn}
use Rattle.btr_walk.proofs.Fetched.{cause_since}
use Rattle.btr_dump.specs.Stops.{StopCounts, DumpStopCause}
use Rattle.btr_walk.specs.Reading.{Map}

-- a place of a scan, whose ends go by other names
pub on_as : (lo hi lo' hi' : Key) (B : Map) (ws : List Want) (place : ScanPlace) → lo ≡ lo' → hi ≡ hi' → IsOn lo hi B ws place → IsOn lo' hi' B ws place
on_as lo hi lo' hi' B ws place same_lo same_hi on = subst (λ l. IsOn l hi' B ws place) same_lo (subst (λ h. IsOn lo h B ws place) same_hi on)

-- the cause of an answer stays one of calls that began earlier
pub stop_cause_since : (A C : Type 0) {a b : Seen} (c : Seen) (layout layout' : Layout) (stop : Stop) → layout' ≡ layout → OnlyReads a b
    → DumpStopCause {A = A} layout' b c (Err stop) → DumpStopCause {A = C} layout a c (Err stop)
stop_cause_since A C c layout layout' (Tree f) e first h = cause_since c layout layout' f e first h
stop_cause_since A C c layout layout' (NoTree n) e first h = tt
stop_cause_since A C c layout layout' (Deletion n) e first h = tt
stop_cause_since A C c layout layout' Balance e first h = tt
stop_cause_since A C c layout layout' (Missing n) e first h = tt
stop_cause_since A C c layout layout' (Image slot) e first h = tt
stop_cause_since A C c layout layout' Sink e first h = tt
stop_cause_since A C c layout layout' Out e first h = tt
stop_cause_since A C c layout layout' Memory e first h = tt

-- the account of an answer, where none failed before
pub counts_since : (A C : Type 0) (old mid new : CallAccount) (stop : Stop) → mid ≡ old → StopCounts {A = A} mid new (Err stop)
    → StopCounts {A = C} old new (Err stop)
counts_since A C old mid new stop same h = as_other stop (subst (λ a. StopCounts {A = A} a new (Err stop)) same h)
  where
    as_other : (stop : Stop) → StopCounts {A = A} old new (Err stop) → StopCounts {A = C} old new (Err stop)
    as_other (Tree f) h = h
    as_other (NoTree n) h = h
    as_other (Deletion n) h = h
    as_other Balance h = h
    as_other (Missing n) h = h
    as_other (Image slot) h = h
    as_other Sink h = h
    as_other Out h = h
    as_other Memory h = h

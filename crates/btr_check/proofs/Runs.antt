-- Calls that read a volume, one after another.
use Rattle.std.proofs.Common.{◌≡◌, Result, Ok, Err, IsErrAnd, refl, ap, ◌∙◌, subst}
use Rattle.std.specs.Bool.{⊤}
use Rattle.btr_rack.specs.Rack.{Seen, OnlyReads}
use Rattle.btr_rack.proofs.Reading.{reads_none, reads_more}
use Rattle.btr_read.specs.Layout.{Layout}
use Rattle.btr_read.specs.declared.want.Want.{Want}
use Rattle.btr_volume.specs.Looking.{SameVolume}
use Rattle.btr_volume.specs.declared.stop.Stop.{Stop}
use Rattle.btr_volume.specs.declared.stop.Stop.TheVariants.{NoTree, Tree, Deletion, Balance, Missing, Image, Sink, Out, Memory as NoMemory}
use Rattle.btr_volume.specs.declared.volume.Volume.{Volume}
use Rattle.btr_walk.proofs.Fetched.{since}
use Rattle.btr_walk.proofs.Joined.{joined, drawn, unread_on}
use Rattle.btr_walk.proofs.Lending.{same_none, same_then}
use Rattle.btr_walk.specs.Reading.{FaultCause, Map, Tells, UnreadBlock}
use Rattle.btr_walk.specs.declared.fault.TreeFault.{TreeFault}
use Rattle.btr_walk.specs.declared.fault.TreeFault.TheVariants.{Lost, Unread, Unmapped, Crosses, Malformed}
use Rattle.btr_check.specs.Before.{OfList, fault_stop}
use Rattle.btr_check.specs.declared.block_fault.BlockFault.{BlockFault}
use Rattle.btr_check.specs.declared.block_fault.BlockFault.TheVariants as block
use Rattle.btr_check.specs.Filesystem.{Filesystem}
use Rattle.btr_check.specs.Running.{World, CanCheck, filesystem, FaultUnread, StopUnread, IfUnread, IsUnreadOf, IsAnyUnread, OfReading, StopsReading, Ran}

-- a volume is as it was
pub volume_none : (vol : Volume) → SameVolume vol vol
volume_none vol = record { sup = refl; store = same_none vol.store }

-- a volume that two calls left as it was is as before the first one
pub volume_then : {a b c : Volume} → SameVolume a b → SameVolume b c → SameVolume a c
volume_then one two = record { sup = two.sup ∙ one.sup; store = same_then one.store two.store }

-- volumes that are alike have the same filesystem by a block map
same_filesystem : (a b : Volume) (B : Map) → SameVolume a b → filesystem b B ≡ filesystem a B
same_filesystem a b B same = λ i. record { sup = same.sup i; chunks = ap (λ (layout : Layout). layout.chunks) same.store.layout i; blocks = B }

-- more may be said of a block that could not be read
pub fault_more : (P Q : UnreadBlock → Type 0) → ((u : UnreadBlock) → P u → Q u) → (f : TreeFault) → FaultUnread P f → FaultUnread Q f
fault_more P Q more (Lost addr) h = tt
fault_more P Q more (Unread addr slot) h = more (record { addr = addr; slot = slot }) h
fault_more P Q more (Unmapped addr) h = tt
fault_more P Q more (Crosses addr) h = tt
fault_more P Q more (Malformed addr) h = tt

-- more may be said of a block that a stop says could not be read
pub stop_more : (P Q : UnreadBlock → Type 0) → ((u : UnreadBlock) → P u → Q u) → (stop : Stop) → StopUnread P stop → StopUnread Q stop
stop_more P Q more (NoTree id) h = tt
stop_more P Q more (Tree f) h = fault_more P Q more f h
stop_more P Q more (Deletion id) h = tt
stop_more P Q more Balance h = tt
stop_more P Q more (Missing id) h = tt
stop_more P Q more (Image slot) h = tt
stop_more P Q more Sink h = tt
stop_more P Q more Out h = tt
stop_more P Q more NoMemory h = tt

-- more may be said of a block that an answer says could not be read
pub unread_more : {A : Type 0} (P Q : UnreadBlock → Type 0) → ((u : UnreadBlock) → P u → Q u) → (r : Result A Stop) → IfUnread P r → IfUnread Q r
unread_more P Q more (Ok a) h = tt
unread_more P Q more (Err stop) h = stop_more P Q more stop h

-- the want of a later call that could not be read
unread_since : {a b : Seen} (c : Seen) (layout layout' : Layout) → layout' ≡ layout → OnlyReads a b → (V U : Want → Type 0)
    → ((want : Want) → V want → U want) → (u : UnreadBlock) → IsUnreadOf layout' b c V u → IsUnreadOf layout a c U u
unread_since c layout layout' e earlier V U more u h = (h.0, more h.0 h.1, since layout layout' e earlier u h.0 h.2)

-- a fault of a tree that has its cause
pub cause_unread : (layout : Layout) (old new : Seen) (f : TreeFault) → FaultCause layout old new f → FaultUnread (IsAnyUnread layout old new) f
cause_unread layout old new (Lost addr) h = tt
cause_unread layout old new (Unread addr slot) h = (h.0, tt, h.1)
cause_unread layout old new (Unmapped addr) h = tt
cause_unread layout old new (Crosses addr) h = tt
cause_unread layout old new (Malformed addr) h = tt

-- nothing may be said, where something is told
pub less_told : {layout : Layout} {a b : Seen} {P : Map → Type 0} → Tells layout a b P → Tells layout a b (λ B. ⊤)
less_told {layout} {P = P} one = drawn layout P (λ B. ⊤) (λ B h. tt) one

-- nothing is wanted
abbrev pub nothing : Filesystem → Want → Type 0
nothing fs want = ⊥

-- nothing was read
pub ran_none : {A : Type 0} {W : Filesystem → Want → Type 0} (P : Filesystem → Type 0) (x : World) (a : A) → CanCheck x
    → ((B : Map) → P (filesystem x.vol B)) → Ran W P x x (Ok a)
ran_none P x a ready h = record {
  reads = reads_none x.rack;
  volume = volume_none x.vol;
  ready = ready;
  cause = tt;
  quiet = tt;
  told = unread_on x.vol.store.layout (λ B. P (filesystem x.vol B)) h;
  named = unread_on x.vol.store.layout (λ B. ⊤) (λ B. tt);
}

-- one call behind another
pub ran_then : {A C : Type 0} {W V U : Filesystem → Want → Type 0} (P Q S : Filesystem → Type 0) (x y z : World) (a : A) (r : Result C Stop)
    → Ran W P x y (Ok a) → Ran V Q y z r
    → ((B : Map) → P (filesystem x.vol B) → Q (filesystem x.vol B) → S (filesystem x.vol B))
    → ((B : Map) → P (filesystem x.vol B) → (want : Want) → V (filesystem x.vol B) want → U (filesystem x.vol B) want) → Ran U S x z r
ran_then {W = W} {V = V} {U = U} P Q S x y z a r one two f g =
    let same = one.volume.store.layout in
    let layout = x.vol.store.layout in
    let layout' = y.vol.store.layout in
    record {
      reads = reads_more one.reads two.reads;
      volume = volume_then one.volume two.volume;
      ready = two.ready;
      cause = unread_more (IsAnyUnread layout' y.rack z.rack) (IsAnyUnread layout x.rack z.rack)
          (unread_since z.rack layout layout' same one.reads (λ want. ⊤) (λ want. ⊤) (λ want any. any)) r two.cause;
      quiet = two.quiet;
      told = joined (λ B. P (filesystem x.vol B)) (λ B. Q (filesystem y.vol B)) (λ B. S (filesystem x.vol B)) same
          (λ B p q. f B p (subst Q (same_filesystem x.vol y.vol B one.volume) q)) one.told two.told;
      named = joined (λ B. P (filesystem x.vol B)) (λ B. IfUnread (IsUnreadOf layout' y.rack z.rack (V (filesystem y.vol B))) r)
          (λ B. IfUnread (IsUnreadOf layout x.rack z.rack (U (filesystem x.vol B))) r) same
          (λ B p q. unread_more (IsUnreadOf layout' y.rack z.rack (V (filesystem y.vol B))) (IsUnreadOf layout x.rack z.rack (U (filesystem x.vol B)))
          (unread_since z.rack layout layout' same one.reads (V (filesystem y.vol B)) (U (filesystem x.vol B))
          (λ want v. g B p want (subst (λ fs. V fs want) (same_filesystem x.vol y.vol B one.volume) v))) r q) one.told two.named;
    }

-- the same call with an answer of the same cause
ran_as : {A C : Type 0} {W U : Filesystem → Want → Type 0} (P S : Filesystem → Type 0) (x y : World) (r : Result A Stop) (t : Result C Stop) → Ran W P x y r
    → (IfUnread (IsAnyUnread x.vol.store.layout x.rack y.rack) r → IfUnread (IsAnyUnread x.vol.store.layout x.rack y.rack) t)
    → (StopsReading r → StopsReading t) → ((B : Map) → P (filesystem x.vol B) → S (filesystem x.vol B))
    → ((B : Map) → IfUnread (IsUnreadOf x.vol.store.layout x.rack y.rack (W (filesystem x.vol B))) r
    → IfUnread (IsUnreadOf x.vol.store.layout x.rack y.rack (U (filesystem x.vol B))) t) → Ran U S x y t
ran_as {W = W} {U = U} P S x y r t one cause quiet f g = record {
  reads = one.reads;
  volume = one.volume;
  ready = one.ready;
  cause = cause one.cause;
  quiet = quiet one.quiet;
  told = drawn x.vol.store.layout (λ B. P (filesystem x.vol B)) (λ B. S (filesystem x.vol B)) f one.told;
  named = drawn x.vol.store.layout (λ B. IfUnread (IsUnreadOf x.vol.store.layout x.rack y.rack (W (filesystem x.vol B))) r)
      (λ B. IfUnread (IsUnreadOf x.vol.store.layout x.rack y.rack (U (filesystem x.vol B))) t) g one.named;
}

-- more may be said of it, also of what it wants
pub ran_within : {A : Type 0} {W U : Filesystem → Want → Type 0} (P S : Filesystem → Type 0) (x y : World) (r : Result A Stop) → Ran W P x y r
    → ((B : Map) → P (filesystem x.vol B) → S (filesystem x.vol B))
    → ((B : Map) (want : Want) → W (filesystem x.vol B) want → U (filesystem x.vol B) want) → Ran U S x y r
ran_within {W = W} {U = U} P S x y r one f g = ran_as P S x y r r one (λ c. c) (λ q. q) f
    (λ B. unread_more (IsUnreadOf x.vol.store.layout x.rack y.rack (W (filesystem x.vol B)))
    (IsUnreadOf x.vol.store.layout x.rack y.rack (U (filesystem x.vol B))) (λ u h. (h.0, g B h.0 h.1, h.2)) r)

-- more may be said of it
pub ran_more : {A : Type 0} {W : Filesystem → Want → Type 0} (P S : Filesystem → Type 0) (x y : World) (r : Result A Stop) → Ran W P x y r
    → ((B : Map) → P (filesystem x.vol B) → S (filesystem x.vol B)) → Ran W S x y r
ran_more P S x y r one f = ran_as P S x y r r one (λ c. c) (λ q. q) f (λ B h. h)

-- another value was made of it
pub ran_value : {A C : Type 0} {W U : Filesystem → Want → Type 0} (P S : Filesystem → Type 0) (x y : World) (a : A) (c : C) → Ran W P x y (Ok a)
    → ((B : Map) → P (filesystem x.vol B) → S (filesystem x.vol B)) → Ran U S x y (Ok c)
ran_value P S x y a c one f = ran_as P S x y (Ok a) (Ok c) one (λ h. tt) (λ h. tt) f (λ B h. tt)

-- one call behind another, where both answered
pub ran_both : {A C : Type 0} {W V U : Filesystem → Want → Type 0} (P Q S : Filesystem → Type 0) (x y z : World) (a : A) (c : C) → Ran W P x y (Ok a)
    → Ran V Q y z (Ok c) → ((B : Map) → P (filesystem x.vol B) → Q (filesystem x.vol B) → S (filesystem x.vol B)) → Ran U S x z (Ok c)
ran_both {V = V} P Q S x y z a c one two f = ran_value S S x z c c (ran_then {U = V} P Q S x y z a (Ok c) one two f (λ B p want v. v)) (λ B s. s)

-- its stop is the answer
pub ran_stop : {A C : Type 0} {W : Filesystem → Want → Type 0} (P S : Filesystem → Type 0) (x y : World) (stop : Stop) → Ran {A = A} W P x y (Err stop)
    → ((B : Map) → P (filesystem x.vol B) → S (filesystem x.vol B)) → Ran {A = C} W S x y (Err stop)
ran_stop {A} {C} P S x y stop one f =
    let r : Result A Stop = Err stop in
    let t : Result C Stop = Err stop in
    ran_as P S x y r t one (λ h. h) (λ h. h) f (λ B h. h)

-- the answer of a `?` that passes a stop on
pub stop_is : {A : Type 0} {stop : Stop} (r : Result A Stop) → IsErrAnd r (λ s. s ≡ stop) → r ≡ Err stop
stop_is (Ok a) is = absurd is
stop_is (Err s) is = ap Err is

-- the same, where more is wanted
pub ran_stop_within : {A C : Type 0} {W U : Filesystem → Want → Type 0} (P S : Filesystem → Type 0) (x y : World) (stop : Stop)
    → Ran {A = A} W P x y (Err stop) → ((B : Map) → P (filesystem x.vol B) → S (filesystem x.vol B))
    → ((B : Map) (want : Want) → W (filesystem x.vol B) want → U (filesystem x.vol B) want) → Ran {A = C} U S x y (Err stop)
ran_stop_within {A} {C} P S x y stop one f g =
    let r : Result A Stop = Err stop in
    ran_stop S S x y stop (ran_within P S x y r one f g) (λ B s. s)

-- a stop that says what is wrong with the filesystem
pub listed_unread : (P : UnreadBlock → Type 0) (stop : Stop) → OfList stop → StopUnread P stop
listed_unread P (NoTree id) h = tt
listed_unread P (Tree f) h = absurd h
listed_unread P (Deletion id) h = tt
listed_unread P Balance h = tt
listed_unread P (Missing id) h = tt
listed_unread P (Image slot) h = tt
listed_unread P Sink h = tt
listed_unread P Out h = tt
listed_unread P NoMemory h = tt

-- a stop that says what is wrong with the list of the trees is one of a call that only reads blocks
pub listed_quiet : (stop : Stop) → OfList stop → OfReading stop
listed_quiet (NoTree id) h = tt
listed_quiet (Tree f) h = absurd h
listed_quiet (Deletion id) h = tt
listed_quiet Balance h = tt
listed_quiet (Missing id) h = absurd h
listed_quiet (Image slot) h = absurd h
listed_quiet Sink h = absurd h
listed_quiet Out h = absurd h
listed_quiet NoMemory h = tt

-- the stop by a fault of the root tree doesn't say that a block could not be read
pub fault_unread : (P : UnreadBlock → Type 0) (fault : BlockFault) → StopUnread P (fault_stop fault)
fault_unread P (block.Lost addr) = tt
fault_unread P (block.Malformed addr) = tt
fault_unread P (block.Unmapped addr) = tt
fault_unread P (block.Crosses addr) = tt

-- the stop by a fault of the root tree is one of a call that only reads blocks
pub fault_quiet : (fault : BlockFault) → OfReading (fault_stop fault)
fault_quiet (block.Lost addr) = tt
fault_quiet (block.Malformed addr) = tt
fault_quiet (block.Unmapped addr) = tt
fault_quiet (block.Crosses addr) = tt

-- what was read refuses the filesystem
pub ran_refused : {A C : Type 0} {W U : Filesystem → Want → Type 0} (P S : Filesystem → Type 0) (x y : World) (a : A) (stop : Stop) → Ran W P x y (Ok a)
    → ((Q : UnreadBlock → Type 0) → StopUnread Q stop) → OfReading stop → ((B : Map) → P (filesystem x.vol B) → S (filesystem x.vol B))
    → Ran {A = C} U S x y (Err stop)
ran_refused {A} {C} {U = U} P S x y a stop one bare quiet f =
    let t : Result C Stop = Err stop in
    ran_as P S x y (Ok a) t one (λ h. bare (IsAnyUnread x.vol.store.layout x.rack y.rack)) (λ h. quiet) f
    (λ B h. bare (IsUnreadOf x.vol.store.layout x.rack y.rack (U (filesystem x.vol B))))

-- What is told of all maps of some images.
use Rattle.std.proofs.Common.{◌≡◌, ℕ, Bool, true, false, cond, ltb, length, List, Option, Some, None, IfSome, Result, Ok, Err, refl, sym, ap, subst}
use Rattle.std.proofs.Math.Path.{fun_ext}
use Rattle.std.specs.Prelude.{slice_get}
use Rattle.btr_prog.specs.Calls.{Sure, First, Any}
use Rattle.btr_prog.proofs.Successive.{calls_then, calls_as, calls_none}
use Rattle.btr_rack.specs.Rack.{Seen}
use Rattle.btr_read.specs.Candidates.{Target}
use Rattle.btr_read.specs.Fate.{Fault, sought, passing, or_lost, fate, fate_of, is_plain, chosen, choice_of, choices}
use Rattle.btr_read.specs.Layout.{Layout}
use Rattle.btr_read.specs.Reading.{OnMap}
use Rattle.btr_read.specs.Want.{addr_of}
use Rattle.btr_read.specs.declared.want.Want.{Want}
use Rattle.btr_walk.specs.Reading.{Map, Tells}
use Rattle.btr_volume.specs.Start.{Images}
use Rattle.btr_files.specs.Maps.{maps_by, TellsAll}

-- the first candidate is the one of number 0
pub zero_chosen : (b : Bool) (xs : List (List ℕ)) → slice_get xs (cond b 0 0) ≡ slice_get xs 0
zero_chosen true xs = refl
zero_chosen false xs = refl

-- with a test or without, the choice of number 0 is the first candidate
either_zero : (plain : Bool) (xs : List (List ℕ)) → cond plain (chosen 0 xs) (slice_get xs 0) ≡ slice_get xs 0
either_zero true xs = zero_chosen (ltb 0 (length xs)) xs
either_zero false xs = refl

-- the choice of number 0 of a want is its fate
choice-zero : (images : Images) (want : Want) (x : Result Target Fault) → choice_of images 0 want x ≡ fate_of images (addr_of want) x
choice-zero images want (Err f) = refl
choice-zero images want (Ok t) = ap (or_lost (addr_of want)) (either_zero (is_plain want) (passing images t))

-- the choices of number 0 are the fates
pub choices-zero : (images : Images) (layout : Layout) (want : Want) → choices images 0 layout want ≡ fate images layout want
choices-zero images layout want = choice-zero images want (sought layout want)

-- the first of all maps is the one map of fates
pub maps-zero : (sure : Sure) (images : Images) (layout : Layout) → maps_by sure images 0 layout ≡ fate images layout
maps-zero First images layout = refl
maps-zero Any images layout = fun_ext (λ want. choices-zero images layout want)

-- what holds of the one map holds of all whose first it is
one_all : (layout : Layout) (P : Map → Type 0) (Q : (ℕ → Map) → Type 0) → ((Bs : ℕ → Map) → P (Bs 0) → Q Bs)
    → (sure : Sure) (h : Option (List (List ℕ))) → OnMap layout P sure h → IfSome h (λ images. Q (λ n. maps_by sure images n layout))
one_all layout P Q f sure None p = tt
one_all layout P Q f sure (Some images) p = f (λ n. maps_by sure images n layout) (subst P (sym (maps-zero sure images layout)) p)

-- what calls tell of the one map they tell of all maps whose first it is
pub all_of_one : (layout : Layout) {a b : Seen} (P : Map → Type 0) (Q : (ℕ → Map) → Type 0) → ((Bs : ℕ → Map) → P (Bs 0) → Q Bs) → Tells layout a b P
    → TellsAll layout a b Q
all_of_one layout P Q f one = record { calls = calls_as (λ sure h p. one_all layout P Q f sure h p) one.calls }

-- where the images are told, what follows of all their maps holds too
all_one : (layout : Layout) (P Q : (ℕ → Map) → Type 0) → ((Bs : ℕ → Map) → P Bs → Q Bs) → (sure : Sure) (h : Option (List (List ℕ)))
    → IfSome h (λ images. P (λ n. maps_by sure images n layout)) → IfSome h (λ images. Q (λ n. maps_by sure images n layout))
all_one layout P Q f sure None p = tt
all_one layout P Q f sure (Some images) p = f (λ n. maps_by sure images n layout) p

-- what follows of one call
pub all_drawn : (layout : Layout) {a b : Seen} (P Q : (ℕ → Map) → Type 0) → ((Bs : ℕ → Map) → P Bs → Q Bs) → TellsAll layout a b P → TellsAll layout a b Q
all_drawn layout P Q f one = record { calls = calls_as (λ sure h p. all_one layout P Q f sure h p) one.calls }

-- where the images are told, two facts of all their maps give a third
all_both : (layout : Layout) (P Q R : (ℕ → Map) → Type 0) → ((Bs : ℕ → Map) → P Bs → Q Bs → R Bs) → (sure : Sure) (h : Option (List (List ℕ)))
    → IfSome h (λ images. P (λ n. maps_by sure images n layout)) → IfSome h (λ images. Q (λ n. maps_by sure images n layout))
    → IfSome h (λ images. R (λ n. maps_by sure images n layout))
all_both layout P Q R f sure None p q = tt
all_both layout P Q R f sure (Some images) p q = f (λ n. maps_by sure images n layout) p q

-- two calls over one layout
pub all_joined : {layout layout' : Layout} {a b c : Seen} (P Q R : (ℕ → Map) → Type 0) → layout' ≡ layout → ((Bs : ℕ → Map) → P Bs → Q Bs → R Bs)
    → TellsAll layout a b P → TellsAll layout' b c Q → TellsAll layout a c R
all_joined {layout} {layout'} {a} {b} {c} P Q R e f one two =
    record { calls = calls_then (λ sure h p q. all_both layout P Q R f sure h p q) one.calls (subst (λ (l : Layout). TellsAll l b c Q) e two).calls }

-- what holds of any maps holds of those of the images, where they are told
all_none : (layout : Layout) (Q : (ℕ → Map) → Type 0) → ((Bs : ℕ → Map) → Q Bs) → (sure : Sure) (h : Option (List (List ℕ)))
    → IfSome h (λ images. Q (λ n. maps_by sure images n layout))
all_none layout Q f sure None = tt
all_none layout Q f sure (Some images) = f (λ n. maps_by sure images n layout)

-- what holds with no call
pub all_unread : (layout : Layout) {a : Seen} (Q : (ℕ → Map) → Type 0) → ((Bs : ℕ → Map) → Q Bs) → TellsAll layout a a Q
all_unread layout {a} Q f = record { calls = calls_none (λ sure. all_none layout Q f sure a.held) }

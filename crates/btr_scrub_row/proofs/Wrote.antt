-- Writes of a row, by what was told, one after another.
use Rattle.std.proofs.Common.{◌≡◌, ℕ, ◌+◌, ◌<◌, Bool, List, [], ◌∷◌, ◌++◌, length, take, drop, get_or, append-nil, Option, Some, None, IfSome, Result, Ok, Err}
use Rattle.std.proofs.Common.{refl, sym, ap, ◌∙◌, subst, arith}
use Rattle.btr_scrub_row.proofs.Common.{CanWrite, DoesWrites, Images, Layout, Range, Seen, Write, flat_map, take_more, told_writes}
use Rattle.std.proofs.lemmas.Grind.{flat_map-append}
use Rattle.std.proofs.lemmas.List.{take-append-drop}
use Rattle.btr_scrub_copies.specs.Writes.{AreAmong, AreWritable, LeaveImages, ranges_of}
use Rattle.btr_scrub_copies.proofs.Doing.{does_halt, does_then, retold}
use Rattle.btr_scrub_copies.specs.declared.mended.MendFault.{MendFault}
use Rattle.btr_read.specs.Layout.{AreOpen}
use Rattle.btr_scrub_row.specs.Writing.{AreTold}

-- no write is told where the images aren't
pub does_untold : {A : Type 0} (P : Range → Type 0) (f g : Images → List Write) (marks marks' : List Bool) (a b : Seen) (r : Result A MendFault)
    → a.held ≡ None → DoesWrites P f marks marks' a b r → DoesWrites P g marks marks' a b r
does_untold P f g marks marks' a b r none h = retold P h (no_own a.held none) (untold a.held b.held none h.held) h.account
  where
    no_own : (o : Option Images) → o ≡ None → IfSome o (λ images. AreAmong h.ranges (ranges_of (g images)))
    no_own None e = tt
    no_own (Some images) e = cc

    untold : (old new : Option Images) → old ≡ None → LeaveImages f old new r → LeaveImages g old new r
    untold None new e h = h
    untold (Some images) new e h = cc

-- what is left where the images aren't told
pub still_untold : {A : Type 0} (P : Range → Type 0) (f : Images → List Write) (marks marks' : List Bool) (a b : Seen) (r : Result A MendFault)
    → DoesWrites P f marks marks' a b r → a.held ≡ None → b.held ≡ None
still_untold P f marks marks' a b r h none = of a.held none h.held
  where
    of : (old : Option Images) → old ≡ None → LeaveImages f old b.held r → b.held ≡ None
    of None e h = h
    of (Some images) e h = cc

-- what was told is still known after some writes
pub tells_still : {A : Type 0} {P : Range → Type 0} {f : Images → List Write} {Known : Images → Type 0} {told : Option Images} {marks marks' : List Bool}
    {a b : Seen} {r : Result A MendFault} → DoesWrites P f marks marks' a b r → AreTold Known told a.held → AreTold Known told b.held
tells_still {P = P} {f = f} {marks = marks} {marks' = marks'} {a = a} {b = b} {r = r} h t =
    record { known = t.known; untold = λ e. still_untold P f marks marks' a b r h (t.untold e) }

-- the images can still be written
pub can_still : {layout : Layout} {a b : Seen} {marks marks' : List Bool} → b.slots ≡ a.slots → length marks' ≡ length marks → CanWrite layout a marks
    → CanWrite layout b marks'
can_still {layout = layout} {marks' = marks'} same long can = record {
  are_open = subst (λ s. AreOpen s layout.devices) (sym same) can.are_open;
  writable = subst AreWritable (sym same) can.writable;
  slots = omega (arith, ap length same, long, can.slots);
}

-- the same writes as those that are told
pub does_told : {A : Type 0} {P : Range → Type 0} {w : List Write} {marks marks' : List Bool} {a b : Seen} {r : Result A MendFault}
    (f : Images → List Write) (told : Option Images) → ((images : Images) → told ≡ Some images → w ≡ f images) → (told ≡ None → a.held ≡ None)
    → DoesWrites P (λ i. w) marks marks' a b r → DoesWrites P (λ i. told_writes f told) marks marks' a b r
does_told {P = P} {w = w} {marks = marks} {marks' = marks'} {a = a} {b = b} {r = r} f None same none h =
    does_untold P (λ i. w) (λ i. []) marks marks' a b r (none refl) h
does_told {P = P} {marks = marks} {marks' = marks'} {a = a} {b = b} {r = r} f (Some images) same none h =
    subst (λ ws. DoesWrites P (λ i. ws) marks marks' a b r) (same images refl) h

-- the told writes of some things, one after another
abbrev pub flat_told : {X : Type 0} → (Images → X → List Write) → Option Images → List X → List Write
flat_told F told xs = told_writes (λ images. flat_map (F images) xs) told

-- those of some and of more are those of all
pub flat_told-append : {X : Type 0} (F : Images → X → List Write) (told : Option Images) (xs ys : List X)
    → flat_told F told (xs ++ ys) ≡ flat_told F told xs ++ flat_told F told ys
flat_told-append F None xs ys = refl
flat_told-append F (Some images) xs ys = flat_map-append (F images) xs ys

-- those of one thing
pub flat_told-one : {X : Type 0} (F : Images → X → List Write) (told : Option Images) (x : X)
    → flat_told F told (x ∷ []) ≡ told_writes (λ images. F images x) told
flat_told-one F None x = refl
flat_told-one F (Some images) x = append-nil (F images x)

-- of nothing there are none
pub flat_told-none : {X : Type 0} (F : Images → X → List Write) (told : Option Images) → flat_told F told [] ≡ []
flat_told-none F None = refl
flat_told-none F (Some images) = refl

module _ {X : Type 0} (F : Images → X → List Write) (told : Option Images) (xs : List X) (i : ℕ) (x : X) (lt : i < length xs) (at : get_or xs i x ≡ x) where
  -- the writes for one more thing come behind those so far
  more : flat_told F told (take (i + 1) xs) ≡ flat_told F told (take i xs) ++ told_writes (λ images. F images x) told
  more = ap (flat_told F told) (take_more xs i x lt ∙ ap (λ y. take i xs ++ y ∷ []) at) ∙ flat_told-append F told (take i xs) (x ∷ [])
      ∙ ap (λ ws. flat_told F told (take i xs) ++ ws) (flat_told-one F told x)

  module _ {P : Range → Type 0} {A U : Type 0} {m n o : List Bool} {a b c : Seen} {u : U}
      (h : DoesWrites P (λ i'. flat_told F told (take i xs)) m n a b (Ok u)) where
    -- one more
    pub flat_next : {y : A} → DoesWrites P (λ i'. told_writes (λ images. F images x) told) n o b c (Ok y)
        → DoesWrites P (λ i'. flat_told F told (take (i + 1) xs)) m o a c (Ok y)
    flat_next {y = y} g = subst (λ ws. DoesWrites P (λ i'. ws) m o a c (Ok y)) (sym more)
        (does_then P A U (flat_told F told (take i xs)) (told_writes (λ images. F images x) told) m n o a b c u (Ok y) h g)

    -- or it was cut off
    pub flat_cut : {fault : MendFault} → DoesWrites {A = A} P (λ i'. told_writes (λ images. F images x) told) n o b c (Err fault)
        → DoesWrites {A = A} P (λ i'. flat_told F told xs) m o a c (Err fault)
    flat_cut {fault = fault} g =
        let first = flat_told F told (take i xs) in
        let second = told_writes (λ images. F images x) told in
        let third = flat_told F told (drop (i + 1) xs) in
        let all : flat_told F told xs ≡ (first ++ second) ++ third = ap (flat_told F told) (sym (take-append-drop (i + 1) xs))
        ∙ flat_told-append F told (take (i + 1) xs) (drop (i + 1) xs) ∙ ap (λ ws. ws ++ third) more in
        subst (λ ws. DoesWrites {A = A} P (λ i'. ws) m o a c (Err fault)) (sym all)
        (does_halt P A A (first ++ second) third m o a c fault (does_then P A U first second m n o a b c u (Err fault) h g))

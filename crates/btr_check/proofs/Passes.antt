-- Passes of a check, one after another.
use Rattle.std.proofs.Common.{◌≡◌, true, List, [], Option, Some, None, fold, filter_map, Result, Ok, Err, OnOk, refl, sym, ap, ◌∙◌, subst}
use Rattle.std.specs.Bool.{⊤}
use Rattle.btr_base.specs.declared.memory.Memory.{Memory}
use Rattle.btr_check_space.specs.Items.{with_mark, Collects}
use Rattle.btr_read.specs.declared.want.Want.{Want}
use Rattle.btr_tour.specs.Tour.{items_met}
use Rattle.btr_volume.specs.declared.root.TreeRoot.{TreeRoot}
use Rattle.btr_volume.specs.declared.stop.Stop.{Stop}
use Rattle.btr_volume.specs.declared.stop.Stop.TheVariants as stops
use Rattle.btr_walk.specs.Le.{TreeItem}
use Rattle.btr_walk.specs.Reading.{Map}
use Rattle.btr_check.proofs.Runs.{nothing, ran_none, ran_value, ran_refused}
use Rattle.btr_check.specs.Counting.{Unless}
use Rattle.btr_check.specs.Filesystem.{Filesystem}
use Rattle.btr_check.specs.Passes.{marks_if, or_memory}
use Rattle.btr_check.specs.Running.{World, CanCheck, filesystem, Ran, is_outside}
use Rattle.btr_check.specs.Trees.{items_if}

-- the items that a visit meets are the tree's
pub marks_items : (B : Map) (tree : Option TreeRoot) → items_met (marks_if B tree) ≡ items_if B tree
marks_items B None = refl
marks_items B (Some tree) = refl

-- a list that was collected
pub collected : {X : Type 0} (read : TreeItem → Option X) → Collects read → (B : Map) (tree : Option TreeRoot) (none met : List X) → none ≡ []
    → met ≡ fold (with_mark read) none (marks_if B tree)
    → met ≡ filter_map read (items_if B tree)
collected read law B tree none met empty is =
    is ∙ ap (λ l. fold (with_mark read) l (marks_if B tree)) empty ∙ law (marks_if B tree) ∙ ap (filter_map read) (marks_items B tree)

-- more follows of what a call did
pub unless_more : {A : Type 0} (P Q : A → Type 0) (r : Result A Stop) → ((a : A) → P a → Q a) → Unless P r → Unless Q r
unless_more P Q (Ok a) f h = f a h
unless_more P Q (Err stop) f h = h

-- what follows from what holds on success holds then too
pub on_done : {E : Type 0} (P Q : Type 0) (r : Result (Unit {0}) E) → (P → Q) → OnOk r P → OnOk r Q
on_done P Q (Ok u) f h = f h
on_done P Q (Err e) f h = tt

-- behind calls that read, findings were put, or there was no memory
pub ran_put : {A : Type 0} {W U : Filesystem → Want → Type 0} (P S : Filesystem → Type 0) (T : Filesystem → Type 0) (x y : World) (a : A)
    (done : Result (Unit {0}) Memory) (r : Result (Unit {0}) Stop) → Ran W P x y (Ok a) → r ≡ or_memory done
    → ((B : Map) → P (filesystem x.vol B) → S (filesystem x.vol B) → OnOk done (T (filesystem x.vol B)))
    → Ran U (λ fs. S fs → Unless (λ u. T fs) r) x y r
ran_put {A} {U = U} P S T x y a done r one is f = subst (λ t. Ran U (λ fs. S fs → Unless (λ u. T fs) t) x y t) (sym is) (by done f)
  where
    by : (done : Result (Unit {0}) Memory) → ((B : Map) → P (filesystem x.vol B) → S (filesystem x.vol B) → OnOk done (T (filesystem x.vol B)))
        → Ran U (λ fs. S fs → Unless (λ u. T fs) (or_memory done)) x y (or_memory done)
    by (Ok u) f = ran_value {A = A} {C = Unit {0}} P (λ fs. S fs → T fs) x y a tt one f
    by (Err e) f = ran_refused {A = A} {C = Unit {0}} P (λ fs. S fs → is_outside stops.Memory ≡ true) x y a stops.Memory one (λ Q. tt) tt (λ B p s. refl)

-- there was no memory before anything was read
pub ran_memory : {C : Type 0} {U : Filesystem → Want → Type 0} (S : Filesystem → Type 0) (x : World) → CanCheck x → ((B : Map) → S (filesystem x.vol B))
    → Ran {A = C} U S x x (Err stops.Memory)
ran_memory {C} S x ready f =
    ran_refused {A = Unit {0}} {C = C} (λ fs. ⊤) S x x tt stops.Memory (ran_none {W = nothing} (λ fs. ⊤) x tt ready (λ B. tt)) (λ Q. tt) tt (λ B p. f B)

-- there was no memory behind calls that read
pub ran_no_memory : {A C : Type 0} {W U : Filesystem → Want → Type 0} (P S : Filesystem → Type 0) (x y : World) (a : A) → Ran W P x y (Ok a)
    → ((B : Map) → S (filesystem x.vol B)) → Ran {A = C} U S x y (Err stops.Memory)
ran_no_memory {A} {C} P S x y a one f = ran_refused {A = A} {C = C} P S x y a stops.Memory one (λ Q. tt) tt (λ B p. f B)

-- what holds on success, of two things that hold then
pub on_both : {E : Type 0} (P Q S : Type 0) (r : Result (Unit {0}) E) → (P → Q → S) → OnOk r P → OnOk r Q → OnOk r S
on_both P Q S (Ok u) f one two = f one two
on_both P Q S (Err e) f one two = tt

-- what holds in any case holds on success
pub on_all : {E P : Type 0} (r : Result (Unit {0}) E) → P → OnOk r P
on_all (Ok u) h = h
on_all (Err e) h = tt

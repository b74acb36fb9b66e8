-- The way up from a directory, step by step.
use Rattle.std.proofs.Common.{◌≡◌, ℕ, zero, suc, Bool, true, false, cond, List, [], ◌∷◌, ◌++◌, Option, Some}
use Rattle.std.proofs.Common.{None, Result, Ok, Err, length, get_or, refl, sym, ap, ◌∙◌, subst, append-nil, append_assoc, arith}
use Rattle.std.proofs.Common.{eq-eqb}
use Rattle.std.proofs.Math.Path.{fun_ext}
use Rattle.std.proofs.lemmas.Bool.{ne_eqb}
use Rattle.btr_prog.specs.Prog.{Return, Stop, Need, Emit, bind}
use Rattle.btr_prog.specs.Quiet.{quiet}
use Rattle.btr_volume.specs.Lookup.{Lookup, Program}
use Rattle.btr_volume.specs.declared.root.TreeRoot.{TreeRoot}
use Rattle.btr_volume.specs.declared.stop.Stop.{Stop as TheStop}
use Rattle.btr_files.specs.Names.{Link, links}
use Rattle.btr_files.proofs.Binds.{bind_assoc, bind_same}
use Rattle.btr_resolve.specs.Climbing.{before, led, step_up, up}
use Rattle.btr_resolve.specs.Lines.{path_if}
use Rattle.btr_resolve.specs.Paths.{Path, directory_path, entry_path, name_path, only, path_below}
use Rattle.btr_resolve.specs.Resolving.{Line}
use Rattle.btr_volume.specs.Readable.{CanRead}
use Rattle.btr_resolve.specs.Running.{World, Ran, pathed}
use Rattle.btr_resolve.proofs.Rans.{ran_halt, ran_none, ran_then}

-- one lookup and then another, as a part of a program with lines
pub quiet_bind : {A C : Type 0} (p : Lookup A) (k : A → Lookup C) → quiet {S = Line} (bind p k) ≡ bind (quiet p) (λ a. quiet (k a))
quiet_bind (Return a) k = refl
quiet_bind (Stop f) k = refl
quiet_bind (Need w g) k = ap (Need w) (fun_ext (λ bytes. quiet_bind (g bytes) k))
quiet_bind (Emit s p) k = absurd s

module _ {A C : Type 0} (p : Lookup A) (k : A → Lookup C) (x y : World) where
  -- one lookup was run to its value, and then the next one by it
  pub quiet_then : (z : World) (a : A) (r : Result C TheStop) → Ran (quiet p) x y (Ok a) → Ran (quiet (k a)) y z r → Ran (quiet (bind p k)) x z r
  quiet_then z a r h g = subst (λ (q : Program Line C). Ran q x z r) (sym (quiet_bind p k)) (ran_then (quiet p) (λ a. quiet (k a)) x y z a r h g)

  -- where a lookup stopped, the next one by it stopped with it
  pub quiet_halt : (s : TheStop) → Ran (quiet p) x y (Err s) → Ran (quiet (bind p k)) x y (Err s)
  quiet_halt s h = subst (λ (q : Program Line C). Ran q x y (Err s)) (sym (quiet_bind p k)) (ran_halt (quiet p) (λ a. quiet (k a)) x y s h)

-- a path with another one behind it, and that with a third
before_both : (below name : List ℕ) (path : Path) → before below (entry_path name path) ≡ before (47 ∷ name ++ below) path
before_both below name None = refl
before_both below name (Some here) = ap Some (append_assoc here (47 ∷ name) below)

-- what is left of the way after a step
abbrev pub led_on : ℕ → TreeRoot → Option (ℕ × List ℕ) → Lookup Path
led_on n tree None = Return None
led_on n tree (Some at) = led n tree at.0 at.1

module _ (tree : TreeRoot) where
  -- a path with another one behind it, as a lookup
  abbrev ended_by : List ℕ → Path → Lookup Path
  ended_by below path = Return (before below path)

  -- the top directory is reached
  pub led_top : (n dir : ℕ) (below : List ℕ) → dir ≡ tree.dirid → led n tree dir below ≡ Return (Some below)
  led_top zero dir below is = ap (λ b. bind (cond b (Return (Some [])) (Return None)) (ended_by below)) (eq-eqb _ _ is)
  led_top (suc n) dir below is =
      ap (λ b. bind (cond b (Return (Some []))
      (bind (links tree dir) (λ found. path_below (directory_path n tree) (only found)))) (ended_by below)) (eq-eqb _ _ is)

  -- it is too far
  pub led_far : (dir : ℕ) (below : List ℕ) → (dir ≡ tree.dirid → ⊥) → led zero tree dir below ≡ Return None
  led_far dir below other = ap (λ b. bind (cond b (Return (Some [])) (Return None)) (ended_by below)) (ne_eqb _ _ other)

  -- the path by the only name of a directory is what is left of the way from its parent
  one_step : (n : ℕ) (below : List ℕ) (name : Option Link)
      → bind (path_below (directory_path n tree) name) (ended_by below) ≡ led_on n tree (up below name)
  one_step n below None = refl
  one_step n below (Some name) =
      bind_assoc (directory_path n tree name.parent) (λ path. Return (entry_path name.name path)) (ended_by below)
      ∙ bind_same (directory_path n tree name.parent) (λ path. Return (before below (entry_path name.name path)))
      (ended_by (47 ∷ name.name ++ below)) (λ path. ap Return (before_both below name.name path))

  -- a step, and what is left then
  pub led_up : (n dir : ℕ) (below : List ℕ) → (dir ≡ tree.dirid → ⊥) → led (suc n) tree dir below ≡ bind (step_up tree dir below) (led_on n tree)
  led_up n dir below other =
      ap (λ b. bind (cond b (Return (Some []))
      (bind (links tree dir) (λ found. path_below (directory_path n tree) (only found)))) (ended_by below)) (ne_eqb _ _ other)
      ∙ bind_assoc (links tree dir) (λ found. path_below (directory_path n tree) (only found)) (ended_by below)
      ∙ bind_same (links tree dir) (λ found. bind (path_below (directory_path n tree) (only found)) (ended_by below))
      (λ found. led_on n tree (up below (only found))) (λ found. one_step n below (only found))
      ∙ sym (bind_assoc (links tree dir) (λ found. Return (up below (only found))) (led_on n tree))

  -- the way up from the directory of a name gives the path of the name
  pub led_name : (name : Link) → led 512 tree name.parent (47 ∷ name.name ++ []) ≡ name_path tree name
  led_name name = ap (λ below. bind (directory_path 512 tree name.parent) (λ path. Return (before (47 ∷ below) path))) (append-nil name.name)

-- the name that is the only one, and no such name
pub only_one : (names : List Link) (name : Link) → length names ≡ 1 → ((d : Link) → get_or names 0 d ≡ name) → only names ≡ Some name
only_one [] name one at = let z : ⊥ = cc in absurd z
only_one (first ∷ []) name one at = ap Some (at first)
only_one (first ∷ (other ∷ more)) name one at = let z : ⊥ = omega (arith, one) in absurd z

-- where there is not exactly one name, none is the only one
pub not_only : (names : List Link) → (length names ≡ 1 → ⊥) → only names ≡ None
not_only [] other = refl
not_only (first ∷ []) other = absurd (other refl)
not_only (first ∷ (second ∷ more)) other = refl

-- a path that was found, or none
pub pathed_is : (path : List ℕ) (b : Bool) → pathed path (Ok b) ≡ Ok (path_if b path)
pathed_is path true = refl
pathed_is path false = refl

-- a program has come so far: what is done of the rest is done of the whole
abbrev pub Leads : {A : Type 0} → Program Line A → Program Line A → World → World → Type 0
Leads {A} whole rest x y = (z : World) (answer : Result A TheStop) → Ran rest y z answer → Ran whole x z answer

module _ {A C : Type 0} (whole : Program Line C) (x y z : World) where
  -- where a part was run to its value, the whole has come to what the part goes on with
  pub leads_then : (p : Program Line A) (k : A → Program Line C) (a : A) → Leads whole (bind p k) x y → Ran p y z (Ok a) → Leads whole (k a) x z
  leads_then p k a leads h = λ w answer g. leads w answer (ran_then p k y z w a answer h g)

  -- where a part stopped, the whole stopped
  pub leads_halt : (p : Program Line A) (k : A → Program Line C) (s : TheStop) → Leads whole (bind p k) x y → Ran p y z (Err s)
      → Ran whole x z (Err s)
  leads_halt p k s leads h = leads z (Err s) (ran_halt p k y z s h)

-- the way up has come to a directory, so many steps below the top directory at most
module _ (whole : Program Line Path) (tree : TreeRoot) (left dir : ℕ) (path : List ℕ) (x y : World)
    (leads : Leads whole (quiet (led left tree dir path)) x y) where
  -- where the top directory is reached, the path is found
  pub climbed_top : CanRead 4 y.rack y.vol → dir ≡ tree.dirid → Ran whole x y (Ok (Some path))
  climbed_top ready is = leads y (Ok (Some path))
      (subst (λ (p : Lookup Path). Ran (quiet p) y y (Ok (Some path))) (sym (led_top tree left dir path is)) (ran_none y ready (Some path)))

  -- where another directory is reached and no step is left, there is no path
  pub climbed_far : CanRead 4 y.rack y.vol → (dir ≡ tree.dirid → ⊥) → left ≡ 0 → Ran whole x y (Ok None)
  climbed_far ready other none = leads y (Ok None)
      (subst (λ (p : Lookup Path). Ran (quiet p) y y (Ok None))
      (sym (ap (λ n. led n tree dir path) none ∙ led_far tree dir path other)) (ran_none y ready None))

  module _ (n : ℕ) (other : dir ≡ tree.dirid → ⊥) (some : left ≡ suc n) (z : World) where
    -- what is left of the way is a step and what comes of it
    here : led left tree dir path ≡ bind (step_up tree dir path) (led_on n tree)
    here = ap (λ k. led k tree dir path) some ∙ led_up tree n dir path other

    -- where the step up stopped, the whole stopped
    pub climbed_stop : (s : TheStop) → Ran (quiet (step_up tree dir path)) y z (Err s) → Ran whole x z (Err s)
    climbed_stop s h = leads z (Err s)
        (subst (λ (p : Lookup Path). Ran (quiet p) y z (Err s)) (sym here) (quiet_halt (step_up tree dir path) (led_on n tree) y z s h))

    -- where the directory hasn't exactly one name, there is no path
    pub climbed_none : Ran (quiet (step_up tree dir path)) y z (Ok None) → Ran whole x z (Ok None)
    climbed_none h = leads z (Ok None)
        (subst (λ (p : Lookup Path). Ran (quiet p) y z (Ok None)) (sym here)
        (quiet_then (step_up tree dir path) (led_on n tree) y z z None (Ok None) h (ran_none z h.ready None)))

    -- where the step led to a parent, the way up has come to it, with one step less left
    pub climbed_more : (parent : ℕ) (path' : List ℕ) → Ran (quiet (step_up tree dir path)) y z (Ok (Some (parent, path')))
        → Leads whole (quiet (led n tree parent path')) x z
    climbed_more parent path' h = λ w answer g. leads w answer
        (subst (λ (p : Lookup Path). Ran (quiet p) y w answer) (sym here)
        (quiet_then (step_up tree dir path) (led_on n tree) y z w (Some (parent, path')) answer h g))

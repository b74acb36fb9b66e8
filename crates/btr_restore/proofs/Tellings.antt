-- Each entry has a row or the line that it is skipped.
use Rattle.std.proofs.Common.{◌≡◌, ℕ, Bool, true, false, cond, List, ◌∷◌, Option, Result, Ok, Err, refl, sym, ap, ◌∙◌}
use Rattle.btr_prog.specs.Goes.{goes_given, GoesTo}
use Rattle.btr_prog.specs.Prog.{BlockMap, Prog, Return, Stop, Need, Emit, Run, bind, steps_of}
use Rattle.btr_prog.specs.Quiet.{quiet}
use Rattle.btr_super.specs.declared.superblock.Super.{Super}
use Rattle.btr_volume.specs.declared.root.TreeRoot.{TreeRoot}
use Rattle.btr_volume.specs.Lookup.{Program}
use Rattle.btr_files.specs.declared.counts.Counts.{Counts}
use Rattle.btr_files.specs.declared.plan.RestorePlan.{RestorePlan}
use Rattle.btr_listing.specs.declared.decision.Decision.{Decision}
use Rattle.btr_listing.specs.declared.decision.Decision.TheVariants.{Skip, Empty, Folder}
use Rattle.btr_listing.specs.declared.decision.Decision.TheVariants as decision
use Rattle.btr_listing.specs.Deciding.{Fits, Met, decided}
use Rattle.btr_listing.specs.Step.{Step, Dir, File}
use Rattle.btr_listing.proofs.Decidings.{Gives, decided_fits}
use Rattle.btr_restore.specs.Journey.{Treated, done_about, row, rules_of, treated}
use Rattle.btr_restore.specs.Orderly.{IsOfEntry, ToldLaw}

-- a step that P holds of comes first
abbrev First : (Step → Type 0) → List Step → Type 0
First P steps = (step : Step) × (more : List Step) × (steps ≡ step ∷ more) × P step

-- what came to a value came to no fault
no_value : {A F : Type 0} (a : A) (f : F) (e : Result A F) → e ≡ Ok a → e ≡ Err f → ⊥
no_value a f e h g = absurd (cc)

module _ {W F A : Type 0} (P : Step → Type 0) where
  -- whatever the blocks are, a step that P holds of comes first, if it comes to a value
  abbrev pub Begins : Prog W F Step A → Type 0
  Begins (Return a) = ⊥
  Begins (Stop f) = Unit {0}
  Begins (Need w k) = (bytes : List ℕ) → Begins (k bytes)
  Begins (Emit step p) = P step

  -- a program behind a lookup begins with such a step, if it does so for each value that the lookup may have
  begins_looks : {C : Type 0} (p : Prog W F ⊥ C) (k : C → Prog W F Step A) (Q : C → Type 0) → Gives Q p → ((c : C) → Q c → Begins (k c)) → Begins
      (bind (quiet p) k)
  begins_looks (Return c) k Q g h = h c g
  begins_looks (Stop f) k Q g h = tt
  begins_looks (Need w l) k Q g h = λ bytes. begins_looks (l bytes) k Q (g bytes) h
  begins_looks (Emit step p) k Q g h = absurd step

  module _ {I : Type 0} (maps : I → BlockMap W F) (a : A) where
    -- a run behind a want has such a step first, if it does so for all bytes of the want
    first_given : (x : Result (List ℕ) F) (k : List ℕ → Prog W F Step A) (q : Run W F Step A) → ((bytes : List ℕ) (t : Run W F Step A) → GoesTo maps
        (k bytes) t → t.ending ≡ Ok a → First P (steps_of t.marks)) → goes_given x (λ bytes. GoesTo maps (k bytes)) q → q.ending ≡ Ok a → First P
        (steps_of q.marks)
    first_given (Ok bytes) k q h g e = h bytes q g e
    first_given (Err f) k q h g e = absurd (no_value a f q.ending e (ap (λ (r : Run W F Step A). r.ending) g))

    -- each run of a program that begins with such a step has it first, if it comes to a value
    pub begun : (p : Prog W F Step A) (r : Run W F Step A) → Begins p → GoesTo maps p r → r.ending ≡ Ok a → First P (steps_of r.marks)
    begun (Return b) r h g e = absurd h
    begun (Stop f) r h g e = absurd (no_value a f r.ending e (ap (λ (r : Run W F Step A). r.ending) g))
    begun (Need w k) r h g e =
        let i = first_given (maps g.0 w) k g.1 (λ bytes t j. begun (k bytes) t (h bytes) j) g.3 (sym (ap (λ (r : Run W F Step A). r.ending) g.2) ∙ e) in (
          i.0,
          i.1,
          ap (λ (r : Run W F Step A). steps_of r.marks) g.2 ∙ i.2,
          i.3,
        )
    begun (Emit step p) r h g e = (step, steps_of g.0.marks, ap (λ (r : Run W F Step A). steps_of r.marks) g.1, h)

module _ (plan : RestorePlan) (wet : plan.dry ≡ false) (met : Met) where
  -- a step tells the entry
  abbrev Tells : Step → Type 0
  Tells = IsOfEntry (rules_of plan) met

  -- as the run isn't dry, a program with a call of the sink before it begins with that call
  row_tells : (step : Step) (rest : Program Step Treated) → Tells step → Begins Tells (row plan step rest)
  row_tells step rest h = unless plan.dry wet
    where
      unless : (b : Bool) → b ≡ false → Begins Tells (cond b rest (Emit step rest))
      unless true e = absurd (cc)
      unless false e = h

  -- what is done about an entry begins with its row, or with the line that it is skipped
  done_tells : (s : Super) (sums : Option TreeRoot) (counts : Counts) (found : Decision) → Fits (rules_of plan) met found
      → Begins Tells (done_about plan s sums met counts found)
  done_tells s sums counts (Skip cause) fits = (cause, fits, refl)
  done_tells s sums counts (decision.File inode) fits = row_tells (File met.entry.name) _ refl
  done_tells s sums counts Empty fits = row_tells (Dir met.entry.name) _ refl
  done_tells s sums counts (Folder inner dirid) fits = row_tells (Dir met.entry.name) _ refl

-- a restore that isn't dry tells each entry that it treats or enters
pub each_told : ToldLaw
each_told plan s sums met counts came maps run wet goes is =
    let rules = rules_of plan in
    let tells = begins_looks (IsOfEntry rules met) (decided rules s met) (done_about plan s sums met counts) (Fits rules met)
    (decided_fits rules s met) (done_tells plan wet met s sums counts) in
    let h = begun (IsOfEntry rules met) maps came (treated plan s sums met counts) run tells goes is in
    record { step = h.0; more = h.1; steps = h.2; of_entry = h.3 }

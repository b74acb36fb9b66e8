-- Programs whose steps a sink may take one after another, whatever the blocks are.
use Rattle.std.proofs.Common.{◌≡◌, ℕ, Bool, true, false, cond, List, Result, Ok, Err, refl, sym, subst}
use Rattle.std.specs.Prelude.{fold}
use Rattle.btr_files.specs.declared.counts.Counts.{Counts}
use Rattle.btr_prog.specs.Goes.{goes_given, GoesTo}
use Rattle.btr_prog.specs.Prog.{BlockMap, Prog, Return, Stop, Need, Emit, Run, bind, steps_of}
use Rattle.btr_prog.specs.Quiet.{quiet}
use Rattle.btr_prog.specs.Stages.{renamed}
use Rattle.btr_prog.specs.Thread.{thread, go_on}
use Rattle.btr_rack.specs.Sink.{Sink}
use Rattle.btr_listing.proofs.Decidings.{Gives}
use Rattle.btr_restore.specs.Orderly.{counted, SinkTakes, TakesAll}
use Rattle.btr_restore.specs.Restoring.{sink_after}
use Rattle.btr_listing.specs.Step.{Step}

-- what holds of a sink, the counts of the steps so far, and a value
abbrev pub Claim : Type 0 → Type 1
Claim A = Sink → Counts → A → Type 0

module _ {W F : Type 0} where
  -- a sink may take each step where it comes, and the claim holds where there is a value
  abbrev pub Leads : {A : Type 0} → Claim A → Sink → Counts → Prog W F Step A → Type 0
  Leads K s c (Return a) = K s c a
  Leads K s c (Stop f) = Unit {0}
  Leads K s c (Need w k) = (bytes : List ℕ) → Leads K s c (k bytes)
  Leads K s c (Emit step p) = SinkTakes s step × Leads K (sink_after s step) (counted c step) p

  -- two programs in a row lead to a claim, if the first leads to one from which the second leads on
  pub leads_bind : {A C : Type 0} (J : Claim A) (K : Claim C) (s : Sink) (c : Counts) (p : Prog W F Step A) (k : A → Prog W F Step C) → Leads J s c p
      → ((t : Sink) (d : Counts) (a : A) → J t d a → Leads K t d (k a)) → Leads K s c (bind p k)
  leads_bind J K s c (Return a) k h g = g s c a h
  leads_bind J K s c (Stop f) k h g = tt
  leads_bind J K s c (Need w l) k h g = λ bytes. leads_bind J K s c (l bytes) k (h bytes) g
  leads_bind J K s c (Emit step p) k h g = (h.0, leads_bind J K (sink_after s step) (counted c step) p k h.1 g)

  -- a lookup does no step
  pub leads_quiet : {A : Type 0} (K : Claim A) (s : Sink) (c : Counts) (p : Prog W F ⊥ A) → ((a : A) → K s c a) → Leads K s c (quiet p)
  leads_quiet K s c (Return a) h = h a
  leads_quiet K s c (Stop f) h = tt
  leads_quiet K s c (Need w k) h = λ bytes. leads_quiet K s c (k bytes) h
  leads_quiet K s c (Emit step p) h = absurd step

  -- a program behind a lookup leads to a claim, if it does so for each value
  pub leads_looks : {A C : Type 0} (K : Claim C) (s : Sink) (c : Counts) (p : Prog W F ⊥ A) (k : A → Prog W F Step C) → ((a : A) → Leads K s c (k a))
      → Leads K s c (bind (quiet p) k)
  leads_looks K s c p k h =
      leads_bind (λ t d a. (t ≡ s) × (d ≡ c)) K s c (quiet p) k (leads_quiet (λ t d a. (t ≡ s) × (d ≡ c)) s c p (λ a. (refl, refl)))
      (λ t d a e. subst (λ x. Leads K x d (k a)) (sym e.0) (subst (λ x. Leads K s x (k a)) (sym e.1) (h a)))

  -- a lookup does no step, and something holds of its value
  pub leads_found : {A C : Type 0} (K : Claim C) (s : Sink) (c : Counts) (p : Prog W F ⊥ A) (k : A → Prog W F Step C) (Q : A → Type 0) → Gives Q p
      → ((a : A) → Q a → Leads K s c (k a)) → Leads K s c (bind (quiet p) k)
  leads_found K s c (Return a) k Q g h = h a g
  leads_found K s c (Stop f) k Q g h = tt
  leads_found K s c (Need w l) k Q g h = λ bytes. leads_found K s c (l bytes) k Q (g bytes) h
  leads_found K s c (Emit step p) k Q g h = absurd step

  -- where a test decides, each of two programs need lead to the claim only where it is taken
  pub leads_if : {A : Type 0} (K : Claim A) (s : Sink) (c : Counts) (b : Bool) (p q : Prog W F Step A) → (b ≡ true → Leads K s c p)
      → (b ≡ false → Leads K s c q) → Leads K s c (cond b p q)
  leads_if K s c true p q h g = h refl
  leads_if K s c false p q h g = g refl

  module _ {T C : Type 0} (inv : Claim C) (treat : C → T → Prog W F Step C) where
    -- a step is treated, and the loop goes on with the new value
    abbrev pub step_by : C → T → Prog W F Step (Result C C)
    step_by x t = bind (treat x t) (λ y. Return (Ok y))

    -- a loop answers its last value
    abbrev pub last_by : C → Unit {0} → C
    last_by x u = x

    -- the claim holds of a value, with which a loop goes on or ends
    abbrev Either : Claim (Result C C)
    Either s c (Ok x) = inv s c x
    Either s c (Err x) = inv s c x

    -- behind a step that was treated a loop leads to the claim, if it does where it goes on
    leads_on : (k : C → Prog W F Step C) (s : Sink) (c : Counts) (r : Result C C) → ((x : C) → inv s c x → Leads inv s c (k x)) → Either s c r
        → Leads inv s c (go_on k r)
    leads_on k s c (Ok x) h e = h x e
    leads_on k s c (Err x) h e = e

    -- what holds before each step of another program is treated, and after it, holds in the end
    pub leads_each : ((s : Sink) (c : Counts) (x : C) (t : T) → inv s c x → Leads inv s c (treat x t))
        → (s : Sink) (c : Counts) (x : C) (p : Prog W F T (Unit {0})) → inv s c x → Leads inv s c (thread step_by last_by x p)
    leads_each h s c x (Return u) i = i
    leads_each h s c x (Stop f) i = tt
    leads_each h s c x (Need w k) i = λ bytes. leads_each h s c x (k bytes) i
    leads_each h s c x (Emit t p) i =
        leads_bind Either inv s c (step_by x t) (go_on (λ y. thread step_by last_by y p))
        (leads_bind inv Either s c (treat x t) (λ y. Return (Ok y)) (h s c x t i) (λ s' c' y j. j))
        (λ s' c' r e. leads_on (λ y. thread step_by last_by y p) s' c' r (λ y j. leads_each h s' c' y p j) e)

-- a program whose wants go by other names leads to the same claim
pub leads_renamed : {V W F A : Type 0} (f : V → W) (K : Claim A) (s : Sink) (c : Counts) (p : Prog V F Step A) → Leads K s c p → Leads K s c (renamed f p)
leads_renamed f K s c (Return a) h = h
leads_renamed f K s c (Stop x) h = tt
leads_renamed f K s c (Need v k) h = λ bytes. leads_renamed f K s c (k bytes) (h bytes)
leads_renamed f K s c (Emit step p) h = (h.0, leads_renamed f K (sink_after s step) (counted c step) p h.1)

-- P holds of a value
abbrev pub IfValue : {A F : Type 0} → Result A F → (A → Type 0) → Type 0
IfValue (Ok a) P = P a
IfValue (Err f) P = Unit {0}

module _ {W F A I : Type 0} (maps : I → BlockMap W F) (K : Claim A) where
  -- a sink may take the steps of a run, and what is claimed holds at its end
  abbrev pub IsLed : Sink → Counts → Run W F Step A → Type 0
  IsLed s c r = TakesAll s (steps_of r.marks) × IfValue r.ending (λ a. K (fold sink_after s (steps_of r.marks)) (fold counted c (steps_of r.marks)) a)

  -- a run behind a want is taken by the sink, if it is for all bytes of the want
  led_given : (s : Sink) (c : Counts) (x : Result (List ℕ) F) (k : List ℕ → Prog W F Step A) (q : Run W F Step A)
      → ((bytes : List ℕ) (t : Run W F Step A) → GoesTo maps (k bytes) t → IsLed s c t) → goes_given x (λ bytes. GoesTo maps (k bytes)) q → IsLed s c q
  led_given s c (Ok bytes) k q h g = h bytes q g
  led_given s c (Err f) k q h g = subst (λ r. IsLed s c r) (sym g) (tt, tt)

  -- a sink may take the steps of each run of a program that leads to a claim, which holds at the end
  pub led : (s : Sink) (c : Counts) (p : Prog W F Step A) (r : Run W F Step A) → Leads K s c p → GoesTo maps p r → IsLed s c r
  led s c (Return a) r h g = subst (λ x. IsLed s c x) (sym g) (tt, h)
  led s c (Stop f) r h g = subst (λ x. IsLed s c x) (sym g) (tt, tt)
  led s c (Need w k) r h g = subst (λ x. IsLed s c x) (sym g.2) (led_given s c (maps g.0 w) k g.1 (λ bytes t i. led s c (k bytes) t (h bytes) i) g.3)
  led s c (Emit step p) r h g =
      let i = led (sink_after s step) (counted c step) p g.0 h.1 g.2 in
      subst (λ x. IsLed s c x) (sym g.1) ((h.0, i.0), i.1)

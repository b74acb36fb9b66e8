-- The same of programs of two parts, of those without steps, and of runs that end well.
use Rattle.std.proofs.Common.{◌≡◌, ◌⊎◌, inl, inr, ℕ, Bool, false, IsTrue, List, [], ◌++◌, Result, Ok, Err, refl, sym, ap, ◌∙◌, arith}
use Rattle.btr_prog.specs.Prog.{Prog, Return, Stop, Run, run, exec, needs}
use Rattle.btr_prog.specs.Maps.{Each, EndsWell, cut, Loses}
use Rattle.btr_prog.specs.Answers.{Fault, no_part, Follows}
use Rattle.btr_prog.specs.Goes.{GoesTo, Goes}
use Rattle.btr_prog.specs.Stages.{Staged, both, renamed, renamed_run, staged}
use Rattle.btr_prog.specs.Quiet.{quiet}
use Rattle.btr_prog.proofs.Counterexamples.{Map, P, R, Ans, asks, one, two, none, ended, Is, value, value_fault, values, one_two, each_one}

-- two parts under maps that have nothing to do with each other
abbrev First : Type 0
First = Prog ℕ ℕ ℕ (Result ℕ ℕ)

-- runs of two parts
abbrev Parts : Type 0
Parts = Run (Staged ℕ ℕ) ℕ ℕ ℕ

-- how a run of two parts ends
abbrev parts_value : Parts → Result ℕ ℕ
parts_value r = r.ending

-- a refusal is the value as it is
abbrev refused : ℕ → ℕ
refused x = x

-- any want is the one that could not be read
abbrev any_want : ℕ → Staged ℕ ℕ → Type 0
any_want u w = Unit {0}

-- two parts under maps with other bytes are not a cut run
staged_cut_twin : ((B C : Map) (D E : ℕ → Map) (p : First) (k : ℕ → P) → exec (both B D) (staged refused p k)
    ≡ cut (both B D) (exec (both C E) (staged refused p k))) → ⊥
staged_cut_twin h = values 1 2 one_two (ap parts_value (h one one (λ t. one) (λ t. two) (Return (Ok 0)) (λ t. asks)))

-- two parts under maps with other bytes neither run the same nor lose a want
staged_lost_twin : ((B C : Map) (D E : ℕ → Map) (p : First) (k : ℕ → P)
    → (exec (both B D) (staged refused p k) ≡ exec (both C E) (staged refused p k))
    ⊎ Loses (both B D) (exec (both C E) (staged refused p k)) (exec (both B D) (staged refused p k))) → ⊥
staged_lost_twin h = elim (h one one (λ t. one) (λ t. two) (Return (Ok 0)) (λ t. asks))
    [ inl e ↦ values 1 2 one_two (ap parts_value e) | inr m ↦ value_fault 1 m.fault m.ending ]

-- the rest run under another table than the first part gave, or where it refused
staged_then_twin : ((B : Map) (D : ℕ → Map) (p : First) (k : ℕ → P) (t : ℕ) (done more : List ℕ) (ans : Ans)
    → Follows Is no_part [] (exec (D t) (k t)) more ans → Follows any_want no_part [] (exec (both B D) (staged refused p k)) (done ++ more) ans) → ⊥
staged_then_twin h = values 7 1 (λ e. omega (arith, e)) (h one (λ t. one) (Return (Err 7)) (λ t. asks) 0 [] [] (Ok 1) (refl, refl)).1

-- a first part that did not refuse does not end the whole with a refusal
staged_refused_twin : ((B : Map) (D : ℕ → Map) (p : First) (k : ℕ → P) (x : ℕ) (done : List ℕ)
    → Follows {U = ℕ} any_want no_part [] (exec (both B D) (staged refused p k)) done (Ok (refused x))) → ⊥
staged_refused_twin h = value_fault 7 9 (sym (h one (λ t. one) (Stop 9) (λ t. asks) 7 []).1)

-- by several maps, too, the rest runs only under the table of the first part
goes_staged_twin : ((Bs : Bool → Map) (Ds : Bool → ℕ → Map) (p : First) (k : ℕ → P) (t : ℕ) (done more : List ℕ) (ans : Ans)
    → Goes Is no_part [] (λ i. Ds i t) (k t) more ans → Goes any_want no_part [] (λ i. both (Bs i) (Ds i)) (staged refused p k) (done ++ more) ans) → ⊥
goes_staged_twin h =
    let g = h each_one (λ i t. one) (Stop 9) (λ t. Return 1) 0 [] [] (Ok 1) (ended 1, refl, (refl, refl)) in
    value_fault 1 9 (sym (sym (ap parts_value g.1) ∙ g.2.1))

-- by several maps, too, a first part that did not refuse ends nothing
goes_staged_refused_twin : ((Bs : Bool → Map) (Ds : Bool → ℕ → Map) (p : First) (k : ℕ → P) (x : ℕ) (done : List ℕ)
    → Goes {U = ℕ} any_want no_part [] (λ i. both (Bs i) (Ds i)) (staged refused p k) done (Ok (refused x))) → ⊥
goes_staged_refused_twin h =
    let g = h each_one (λ i t. one) (Stop 9) (λ t. Return 1) 7 [] in
    value_fault 7 9 (sym (sym (ap parts_value g.1) ∙ g.2.1))

-- by several maps, too, a first part that did not halt ends nothing with its fault
goes_staged_halt_twin : ((Bs : Bool → Map) (Ds : Bool → ℕ → Map) (p : First) (k : ℕ → P) (done : List ℕ) (f : ℕ)
    → Goes {U = ℕ} any_want no_part [] (λ i. both (Bs i) (Ds i)) (staged refused p k) done (Err (Fault f))) → ⊥
goes_staged_halt_twin h =
    let g = h each_one (λ i t. one) (Return (Err 1)) (λ t. Return 1) [] 9 in
    value_fault 1 9 (sym (ap parts_value g.1) ∙ g.2.1)

-- a program without steps of which nothing was answered
follows_quiet_twin : ((B : Map) (p : Prog ℕ ℕ ⊥ ℕ) (ans : Ans) → Follows Is no_part [] (exec B (quiet {S = ℕ} p)) [] ans) → ⊥
follows_quiet_twin h = value_fault 1 9 (h one (Return 1) (Err (Fault 9))).1

-- by several maps, too, a program without steps has only its own answers
goes_quiet_twin : ((Bs : Bool → Map) (p : Prog ℕ ℕ ⊥ ℕ) (ans : Ans) → Goes Is no_part [] Bs (quiet {S = ℕ} p) [] ans) → ⊥
goes_quiet_twin h = let g = h each_one (Return 1) (Err (Fault 9)) in value_fault 1 9 (sym (ap value g.1) ∙ g.2.1)

-- a run that does not end well
well_twin : ((well : ℕ → Bool) (B : Map) (p : P) → Each (λ w. EndsWell (λ f. IsTrue (well f)) (B w)) (needs B p)) → ⊥
well_twin h = let no : IsTrue false = (h (λ f. false) none asks).0 in cc

-- the same of what the first part of two answered, and of wants that go by other names
staged_halt_twin : ((B : Map) (D : ℕ → Map) (p : First) (k : ℕ → P) (done : List ℕ) (f : ℕ)
    → Follows {U = ℕ} any_want no_part [] (exec (both B D) (staged refused p k)) done (Err (Fault f))) → ⊥
staged_halt_twin h = value_fault 1 9 (h one (λ t. one) (Return (Ok 0)) (λ t. asks) [] 9).1

-- not every answer is one of a run with renamed wants
follows_renamed_twin : ((f : ℕ → ℕ) (r : R) (done : List ℕ) (ans : Ans) → Follows Is no_part [] (renamed_run f r) done ans) → ⊥
follows_renamed_twin h = value_fault 1 9 (h (λ w. w) (ended 1) [] (Err (Fault 9))).1

-- not every renamed run is one of the renamed program
goes_renamed_twin : ((f : ℕ → ℕ) (Bs : Bool → Map) (p : P) (r : R) → GoesTo Bs (renamed f p) (renamed_run f r)) → ⊥
goes_renamed_twin h = value_fault 1 9 (sym (ap value (h (λ w. w) each_one (Return 1) (run [] (Err 9)))))

-- What the laws would say without one of their premises is false: each is refuted by a small program.
use Rattle.std.proofs.Common.{◌≡◌, ◌⊎◌, inl, inr, ℕ, zero, suc, Bool, true, false, List, [], ◌∷◌, ◌++◌, Option, Some, None, Result, Ok, Err, refl, sym, ap, ◌∙◌}
use Rattle.std.proofs.Common.{subst, arith}
use Rattle.std.specs.Option.{option_to_list}
use Rattle.btr_prog.specs.Prog.{Prog, Return, Stop, Need, Emit, Mark, Wants, Does, Run, run, first, given, exec, bind, and_then, needs, wants_of, steps_of}
use Rattle.btr_prog.specs.Thread.{thread}
use Rattle.btr_prog.specs.Maps.{Each, IsWithin, IsWhole, cut, Loses}
use Rattle.btr_prog.specs.Answers.{Halt, Fault, Unread, Broke, Names, Leaves, no_part, Breaks, Follows}
use Rattle.btr_prog.specs.Goes.{goes_given, GoesTo, ThreadsTo, Goes}
use Rattle.btr_prog.specs.Blind.{IsBlind, IsAlike, Drops}
use Rattle.btr_prog.specs.Outcomes.{RunOutcome}
use Rattle.btr_prog.specs.Trying.{Trying, Done, Try, tried, attempt, gathered}
use Rattle.btr_prog.specs.TryingLaws.{attempted, gathered_by}

-- maps of numbers as wants and faults
abbrev pub Map : Type 0
Map = ℕ → Result (List ℕ) ℕ

-- programs whose wants, faults, steps and values are numbers
abbrev pub P : Type 0
P = Prog ℕ ℕ ℕ ℕ

-- runs of such programs
abbrev pub R : Type 0
R = Run ℕ ℕ ℕ ℕ

-- answers of such programs
abbrev pub Ans : Type 0
Ans = Result ℕ (Halt ℕ ℕ)

-- a program that tells the first byte of block 0, and one that looks on from it at block 5
abbrev pub told : List ℕ → P
told [] = Return 0
told (x ∷ xs) = Return x

-- a program that wants block 0 and tells its first byte
abbrev pub asks : P
asks = Need 0 told

-- on from block 0: 0, or what block 5 tells
abbrev looks : List ℕ → P
looks [] = Return 0
looks (zero ∷ xs) = Return 0
looks (suc x ∷ xs) = Need 5 told

-- a program that looks at block 0 and by it may want block 5
abbrev looks_on : P
looks_on = Need 0 looks

-- each block is one byte, 1
abbrev pub one : Map
one w = Ok (1 ∷ [])

-- each block is one byte, 2
abbrev pub two : Map
two w = Ok (2 ∷ [])

-- each block is one byte, 0
abbrev nil : Map
nil w = Ok (0 ∷ [])

-- no block is there, each for the fault 9
abbrev pub none : Map
none w = Err 9

-- a run of no marks that ends with a value
abbrev pub ended : ℕ → R
ended a = run [] (Ok a)

-- a want that could not be read is told by its number
abbrev pub Is : ℕ → ℕ → Type 0
Is u w = w ≡ u

-- how a run ends
abbrev pub value : R → Result ℕ ℕ
value r = r.ending

-- two endings are one
abbrev pub SameEnding : Result ℕ ℕ → Result ℕ ℕ → Type 0
SameEnding x y = x ≡ y

-- two numbers are one
abbrev pub SameNumber : ℕ → ℕ → Type 0
SameNumber a b = a ≡ b

-- two lists are one
abbrev SameList : List ℕ → List ℕ → Type 0
SameList xs ys = xs ≡ ys

-- a value is not a fault
pub value_fault : (a f : ℕ) → SameEnding (Ok a) (Err f) → ⊥
value_fault a f e = cc

-- two answers are one
abbrev SameAnswer : Ans → Ans → Type 0
SameAnswer x y = x ≡ y

-- a value is not the answer of a call that halted
value_halt : (a : ℕ) (h : Halt ℕ ℕ) → SameAnswer (Ok a) (Err h) → ⊥
value_halt a h e = cc

-- different values are different endings
pub values : (a b : ℕ) → (a ≡ b → ⊥) → SameEnding (Ok a) (Ok b) → ⊥
values a b n e = let i : a ≡ b = cc in n i

-- a list with a first number is not empty
some_list : (x : ℕ) (xs : List ℕ) → SameList (x ∷ xs) [] → ⊥
some_list x xs e = cc

-- 1 is not 2
pub one_two : SameNumber 1 2 → ⊥
one_two e = omega (arith, e)

-- the ending 2 is not the ending 1
two_one : SameEnding (Ok 2) (Ok 1) → ⊥
two_one e = one_two (let i : SameNumber 2 1 = cc in sym i)

-- the needs of one program after another, however the first ended
needs_bind_twin : ((B : Map) (p : P) (k : ℕ → P) (a : ℕ) → needs B (bind p k) ≡ needs B p ++ needs B (k a)) → ⊥
needs_bind_twin h = some_list 0 [] (sym (h one (Stop 0) (λ a. asks) 0))

-- the needs of one program after another are not the first one's alone where that came to a value
needs_stop_twin : ((B : Map) (p : P) (k : ℕ → P) → needs B (bind p k) ≡ needs B p) → ⊥
needs_stop_twin h = some_list 0 [] (h one (Return 0) (λ a. asks))

-- two maps that have nothing to do with each other
only_needs_twin : ((B C : Map) (p : P) → exec B p ≡ exec C p) → ⊥
only_needs_twin h = value_fault 1 9 (ap value (h one none asks))

-- under a map that has other bytes the run is not the other's, cut
cut_twin : ((B C : Map) (p : P) → exec B p ≡ cut B (exec C p)) → ⊥
cut_twin h = values 1 2 one_two (ap value (h one two asks))

-- a map that has bytes for each want, but others, has another run
whole_twin_within : ((B C : Map) (p : P) → Each (λ w. IsWhole (B w)) (needs C p) → exec B p ≡ exec C p) → ⊥
whole_twin_within h = values 1 2 one_two (ap value (h one two asks (tt, tt)))

-- a map that lacks a want has another run
whole_twin_whole : ((B C : Map) (p : P) → Each (λ w. IsWithin (B w) (C w)) (needs C p) → exec B p ≡ exec C p) → ⊥
whole_twin_whole h = value_fault 1 9 (sym (ap value (h none one asks (tt, tt))))

-- a map that has other bytes neither has the other's run nor stops where a want is lost
lost_twin : ((B C : Map) (p : P) → (exec B p ≡ exec C p) ⊎ Loses B (exec C p) (exec B p)) → ⊥
lost_twin h = elim (h one two asks) [ inl e ↦ values 1 2 one_two (ap value e) | inr m ↦ value_fault 1 m.fault m.ending ]

-- calls without what the first of them answered, or the last
follows_then_twin_first : ((r : R) (a : ℕ) (k : ℕ → R) (done more : List ℕ) (ans : Ans) → Follows Is no_part ([] ++ wants_of r.marks) (k a) more ans
    → Follows Is no_part [] (and_then r k) (done ++ more) ans) → ⊥
follows_then_twin_first h = value_fault 1 9 (sym (h (run [] (Err 9)) 0 (λ a. ended 1) [] [] (Ok 1) (refl, refl)).1)

-- what the last call answered must be an answer of its run
follows_then_twin_last : ((r : R) (a : ℕ) (k : ℕ → R) (done more : List ℕ) (ans : Ans) → Follows Is no_part [] r done (Ok a)
    → Follows Is no_part [] (and_then r k) (done ++ more) ans) → ⊥
follows_then_twin_last h = values 1 2 one_two (h (ended 0) 0 (λ a. ended 1) [] [] (Ok 2) (refl, refl)).1

-- what halted the first call must be its answer for both to halt with it
follows_halt_twin : ((r : R) (k : ℕ → R) (done : List ℕ) (f : ℕ) → Follows Is no_part [] (and_then r k) done (Err (Fault f))) → ⊥
follows_halt_twin h = value_fault 1 9 (h (ended 0) (λ a. ended 1) [] 9).1

-- what is answered after some bytes says nothing where the want comes to others
want_came_twin : ((B : Map) (w : ℕ) (bytes : List ℕ) (k : List ℕ → P) (done : List ℕ) (ans : Ans)
    → Follows Is no_part (w ∷ []) (exec B (k bytes)) done ans → Follows Is no_part [] (first (Wants w) (given (B w) (λ bytes. exec B (k bytes)))) done ans) → ⊥
want_came_twin h = value_fault 1 9 (sym (h none 0 (1 ∷ []) told [] (Ok 1) (refl, refl)).1)

-- a want that came to bytes does not end a call with a fault
want_faults_twin : ((B : Map) (w f : ℕ) (k : List ℕ → P) → Follows Is no_part [] (first (Wants w) (given (B w) (λ bytes. exec B (k bytes)))) []
    (Err (Fault f))) → ⊥
want_faults_twin h = value_fault 1 9 (h one 0 9 told).1

-- a step that was done says nothing of what comes then
step_done_twin : ((s : ℕ) (r : R) (done : List ℕ) (ans : Ans) → Follows Is no_part [] (first (Does s) r) (s ∷ done) ans) → ⊥
step_done_twin h = value_fault 1 9 (h 0 (ended 1) [] (Err (Fault 9))).1

-- not every answer is one of a run
follows_seen_twin : ((r : R) (done : List ℕ) (ans : Ans) → Follows Is no_part [] r done ans) → ⊥
follows_seen_twin h = value_fault 1 9 (h (ended 1) [] (Err (Fault 9))).1

-- a first part of no marks, and of one step
no_marks : (xs ys : List (Mark ℕ ℕ)) → [] ≡ xs ++ ys → xs ≡ []
no_marks [] ys e = refl
no_marks (x ∷ xs) ys e = cc

-- the first marks of a run of one step have no steps, or that one
steps_in : (xs ys : List (Mark ℕ ℕ)) (s : ℕ) → Does s ∷ [] ≡ xs ++ ys → (steps_of xs ≡ []) ⊎ (steps_of xs ≡ s ∷ [])
steps_in [] ys s e = inl refl
steps_in (x ∷ xs) ys s e =
    let i : x ≡ Does s = cc in
    let t : [] ≡ xs ++ ys = cc in
    inr (ap steps_of (ap (λ z. z ∷ xs) i ∙ ap (λ z. Does s ∷ z) (no_marks xs ys t)))

-- a block that was never wanted could not be read
unread_here_twin : ((seen : List ℕ) (a : ℕ) (r : R) → Follows Is no_part seen r [] (Err (Unread a))) → ⊥
unread_here_twin h =
    let b = h [] 0 (ended 1) in
    subst (λ (ms : List (Mark ℕ ℕ)). Names Is 0 ([] ++ wants_of ms)) (no_marks b.before b.behind b.place) b.holds

-- a step that can't be done in part was
one_of : (xs : List ℕ) (o : Option ℕ) → (xs ≡ []) ⊎ SameList xs (1 ∷ []) → SameList (2 ∷ []) (xs ++ option_to_list o)
    → Leaves {W = ℕ} no_part o (Does 1 ∷ []) → ⊥
one_of xs (Some t) e f l = let no : None ≡ Some t = l.1 in cc
one_of xs None (inl e) f l = some_list 2 [] (f ∙ ap (λ x. x ++ []) e)
one_of xs None (inr e) f l =
    let same : SameList (2 ∷ []) (1 ∷ []) = f ∙ ap (λ x. x ++ []) e in
    one_two (let i : SameNumber 2 1 = cc in sym i)

-- where no step is done in part, what may be left anywhere may be left before a step
part_here : (o : Option ℕ) (ms : List (Mark ℕ ℕ)) → Leaves no_part o ms → Leaves {W = ℕ} no_part o (Does 1 ∷ [])
part_here None ms l = tt
part_here (Some t) [] l = absurd l
part_here (Some t) (Wants w ∷ ms) l = absurd l
part_here (Some t) (Does s ∷ ms) l = let no : None ≡ Some t = l.1 in cc

-- a step that can't be done in part leaves no other one
step_broke_twin : ((s t : ℕ) (r : R) → Follows Is no_part [] (first (Does s) r) (t ∷ []) (Err Broke)) → ⊥
step_broke_twin h =
    let b = h 1 2 (ended 0) in
    one_of (steps_of b.before) b.left (steps_in b.before b.behind 1 b.place) b.steps (part_here b.left b.behind b.leaves)

-- a place of a run under a map that has nothing to do with the other
unread_of : R → Type 0
unread_of r = Breaks no_part (λ ws. Names Is 5 ([] ++ ws)) r []

-- of a run that wants block 0 alone no want is of block 5
names_five : (xs ys : List (Mark ℕ ℕ)) → Wants 0 ∷ [] ≡ xs ++ ys → Names Is 5 ([] ++ wants_of xs) → ⊥
names_five [] ys e n = n
names_five (x ∷ xs) ys e n =
    let i : x ≡ Wants 0 = cc in
    let t : [] ≡ xs ++ ys = cc in
    let m : Names Is 5 (0 ∷ []) =
    subst (λ (ms : List (Mark ℕ ℕ)). Names Is 5 (wants_of ms)) (ap (λ z. z ∷ xs) i ∙ ap (λ z. Wants 0 ∷ z) (no_marks xs ys t)) n in
    elim m [ inl e ↦ omega (arith, e) | inr e ↦ e ]

-- that a want could not be read doesn't follow where the answer names another one
want_unread_twin : ((u w : ℕ) (r : R) → Follows Is no_part [] (first (Wants w) r) [] (Err (Unread u))) → ⊥
want_unread_twin h = let b = h 5 0 (ended 1) in names_five b.before b.behind b.place b.holds

-- what could not be read in a run under one map need not be wanted under another with other bytes
place_twin : ((B C : Map) (p : P) (done : List ℕ) (a : ℕ) → Follows Is no_part [] (exec B p) done (Err (Unread a))
    → Follows Is no_part [] (exec C p) done (Err (Unread a))) → ⊥
place_twin h =
    let b = h one nil looks_on [] 5 (record {
      before = Wants 0 ∷ (Wants 5 ∷ []);
      behind = [];
      left = None;
      place = refl;
      steps = refl;
      leaves = tt;
      holds = inr (inl refl);
    }) in
    names_five b.before b.behind b.place b.holds

-- an answer by a map with other bytes is none of the other's run, and no want is lost
held_twin : ((B C : Map) (p : P) (done : List ℕ) (ans : Ans) → Follows Is no_part [] (exec B p) done ans → Follows Is no_part [] (exec C p) done ans
    ⊎ ((m : Loses B (exec C p) (exec B p)) × (done ≡ steps_of m.before) × (ans ≡ Err (Fault m.fault)))) → ⊥
held_twin h = elim (h one two asks [] (Ok 1) (refl, refl)) [ inl f ↦ values 1 2 one_two (sym f.1) | inr m ↦ value_halt 1 (Fault m.0.fault) m.2 ]

-- several maps that have nothing to do with the one
abbrev pub each_one : Bool → Map
each_one true = one
each_one false = two

-- where the maps differ from B there is a run other than B's
goes_one_twin : ((Bs : Bool → Map) (B : Map) (p : P) (r : R) → GoesTo Bs p r → r ≡ exec B p) → ⊥
goes_one_twin h = values 1 2 one_two (ap value (h each_one two asks (run (Wants 0 ∷ []) (Ok 1)) (true, ended 1, refl, refl)))

-- where no map says what B says, B's run is none
goes_some_twin : ((Bs : Bool → Map) (B : Map) (p : P) → GoesTo Bs p (exec B p)) → ⊥
goes_some_twin h =
    let g = h (λ i. one) two asks in
    two_one (ap value (g.2 ∙ ap (first (Wants 0)) g.3))

-- where other maps say other things, a run need not stay one
goes_more_twin : ((Bs Cs : Bool → Map) (p : P) (r : R) → GoesTo Bs p r → GoesTo Cs p r) → ⊥
goes_more_twin h =
    let g = h (λ i. two) (λ i. one) asks (run (Wants 0 ∷ []) (Ok 2)) (true, ended 2, refl, refl) in
    two_one (ap value (g.2 ∙ ap (first (Wants 0)) g.3))

-- an early end where no map is, so that the rest has no run
abbrev stops : ℕ → ℕ → Prog ℕ ℕ ℕ (Result ℕ ℕ)
stops st s = Return (Err 7)

-- a program that does a step and then wants block 0
abbrev later : P
later = Emit 0 asks

-- where there is no map, a run that ends early treats the steps of no run
thread_goes_twin : ((Bs : ⊥ → Map) (body : ℕ → ℕ → Prog ℕ ℕ ℕ (Result ℕ ℕ)) (fin : ℕ → ℕ → ℕ) (st : ℕ) (p : P) (r : R)
    → GoesTo Bs (thread body fin st p) r → (q : R) × GoesTo Bs p q × ThreadsTo (λ st' s. GoesTo Bs (body st' s)) fin st q.marks q.ending r) → ⊥
thread_goes_twin h = let g = h (λ i. absurd i) stops (λ st a. st) 0 later (ended 7) refl in g.1.2.0

-- the first call's value must be an answer of its run
goes_then_twin : ((Bs : Bool → Map) (p : P) (k : ℕ → P) (r : R) (a : ℕ) (done more : List ℕ) (ans : Ans) → GoesTo Bs p r
    → Goes Is no_part ([] ++ wants_of r.marks) Bs (k a) more ans → Goes Is no_part [] Bs (bind p k) (done ++ more) ans) → ⊥
goes_then_twin h =
    let g = h each_one (Stop 9) (λ a. Return 1) (run [] (Err 9)) 0 [] [] (Ok 1) refl (ended 1, refl, (refl, refl)) in
    value_fault 1 9 (sym (sym (ap value g.1) ∙ g.2.1))

-- what is answered after bytes that no map gives is not answered of the want
goes_came_twin : ((Bs : Bool → Map) (i : Bool) (w : ℕ) (bytes : List ℕ) (k : List ℕ → P) (done : List ℕ) (ans : Ans)
    → Goes Is no_part (w ∷ []) Bs (k bytes) done ans → Goes Is no_part [] Bs (Need w k) done ans) → ⊥
goes_came_twin h =
    let g = h (λ i. none) true 0 (1 ∷ []) told [] (Ok 1) (ended 1, refl, (refl, refl)) in
    value_fault 1 9 (sym (sym (ap value (g.1.2 ∙ ap (first (Wants 0)) g.1.3)) ∙ g.2.1))

-- a want that no map has a fault for does not end a call with one
goes_faults_twin : ((Bs : Bool → Map) (i : Bool) (w f : ℕ) (k : List ℕ → P) → Goes Is no_part [] Bs (Need w k) [] (Err (Fault f))) → ⊥
goes_faults_twin h =
    let g = h (λ i. one) true 0 9 told in
    value_fault 1 9 (sym (ap value (g.1.2 ∙ ap (first (Wants 0)) g.1.3)) ∙ g.2.1)

-- a program that looks at what may differ: its runs do not want the same
blind_twin : ((plain : ℕ → Bool) (Cs : Bool → Map) (C : Map) (p : P) (q : R) → Each (λ w. (j : Bool) → IsAlike (plain w) (Cs j w) (C w)) (needs C p)
    → GoesTo Cs p q → (wants_of q.marks ≡ needs C p) × (q.ending ≡ (exec C p).ending)) → ⊥
blind_twin h =
    let alike : Each (λ w. (j : Bool) → IsAlike true (each_one j w) (two w)) (0 ∷ []) = (elim [ true ↦ inr (refl, tt, tt) | false ↦ inr (refl, tt, tt) ], tt) in
    values 1 2 one_two (h (λ w. true) each_one two asks (run (Wants 0 ∷ []) (Ok 1)) alike (true, ended 1, refl, refl)).1

-- what is allowed of a program's run and of its bodies
goes_thread_twin_items : ((Bs : Bool → Map) (body : ℕ → ℕ → Prog ℕ ℕ ℕ (Result ℕ ℕ)) (fin : ℕ → ℕ → ℕ) (st : ℕ) (p : P) (q r : R)
    → ThreadsTo (λ st' s. GoesTo Bs (body st' s)) fin st q.marks q.ending r → GoesTo Bs (thread body fin st p) r) → ⊥
goes_thread_twin_items h = value_fault 1 9 (sym (ap value (h each_one stops (λ st a. a) 0 (Return 1) (run [] (Err 9)) (run [] (Err 9)) refl)))

-- not every run is one of treating the steps of a run of the program
goes_thread_twin_bodies : ((Bs : Bool → Map) (body : ℕ → ℕ → Prog ℕ ℕ ℕ (Result ℕ ℕ)) (fin : ℕ → ℕ → ℕ) (st : ℕ) (p : P) (q r : R) → GoesTo Bs p q
    → GoesTo Bs (thread body fin st p) r) → ⊥
goes_thread_twin_bodies h = value_fault 1 9 (sym (ap value (h each_one stops (λ st a. a) 0 (Return 1) (ended 1) (run [] (Err 9)) refl)))

-- a call by several maps does not halt with a fault that the first part did not answer
goes_halt_twin : ((Bs : Bool → Map) (p : P) (k : ℕ → P) (done : List ℕ) (f : ℕ) → Goes Is no_part [] Bs (bind p k) done (Err (Fault f))) → ⊥
goes_halt_twin h = let g = h each_one (Return 0) (λ a. Return 1) [] 9 in value_fault 1 9 (sym (ap value g.1) ∙ g.2.1)

-- a step by several maps says nothing of what comes then
goes_step_twin : ((Bs : Bool → Map) (s : ℕ) (p : P) (done : List ℕ) (ans : Ans) → Goes Is no_part [] Bs (Emit s p) (s ∷ done) ans) → ⊥
goes_step_twin h = let g = h each_one 0 (Return 1) [] (Err (Fault 9)) in value_fault 1 9 (sym (ap value (g.1.1 ∙ ap (first (Does 0)) g.1.2)) ∙ g.2.1)

-- by several maps, too, a step that can't be done in part leaves none
goes_broke_twin : ((Bs : Bool → Map) (s t : ℕ) (p : P) → Goes Is no_part [] Bs (Emit s p) (t ∷ []) (Err Broke)) → ⊥
goes_broke_twin h =
    let g = h each_one 1 2 (Return 0) in
    let e : g.0 ≡ run (Does 1 ∷ []) (Ok 0) = g.1.1 ∙ ap (first (Does 1)) g.1.2 in
    let b = subst (λ (r : R). Follows Is no_part [] r (2 ∷ []) (Err Broke)) e g.2 in
    one_of (steps_of b.before) b.left (steps_in b.before b.behind 1 b.place) b.steps (part_here b.left b.behind b.leaves)

-- an answer by some maps under others
goes_held_twin_within : ((plain : ℕ → Bool) (Bs Cs : Bool → Map) (C : Map) (p : P) (done : List ℕ) (ans : Ans) → IsBlind plain p
    → Each (λ w. (j : Bool) → IsAlike (plain w) (Cs j w) (C w)) (needs C p) → Goes Is no_part [] Bs p done ans → Goes Is no_part [] Cs p done ans
    ⊎ ((q : R) × (r : R) × GoesTo Cs p q × (m : Drops Bs q r) × (done ≡ steps_of m.before) × (ans ≡ Err (Fault m.fault)))) → ⊥
goes_held_twin_within h =
    let blind : IsBlind (λ w. false) asks = (elim [ [] ↦ tt | x ∷ xs ↦ tt ], λ e bytes others. let no : ⊥ = cc in absurd no) in
    elim (h (λ w. false) (λ i. one) (λ j. two) two asks [] (Ok 1) blind ((λ j. inl refl), tt)
    (run (Wants 0 ∷ []) (Ok 1), (true, ended 1, refl, refl), (refl, refl))) [
      | inl g ↦ two_one (sym (ap value (g.1.2 ∙ ap (first (Wants 0)) g.1.3)) ∙ g.2.1)
      | inr g ↦ value_halt 1 (Fault g.3.fault) g.5
    ]

-- maps that agree on what is wanted by C, and not on what a program that looks wants instead
abbrev seven : Map
seven zero = Ok (1 ∷ [])
seven (suc w) = Ok (7 ∷ [])

-- two maps that differ in block 0, and have the byte 8 for all others
abbrev eight : Bool → Map
eight true zero = Ok (0 ∷ [])
eight true (suc w) = Ok (8 ∷ [])
eight false zero = Ok (1 ∷ [])
eight false (suc w) = Ok (8 ∷ [])

-- both of these maps have the byte 8 for block 5
eight_of : (j : Bool) → eight j 5 ≡ Ok (8 ∷ [])
eight_of true = refl
eight_of false = refl

-- no run by these maps of a program that looks on from block 0 ends with 7
no_seven : (j : Bool) (q : R) → goes_given (eight j 0) (λ bytes. GoesTo eight (looks bytes)) q → SameEnding q.ending (Ok 7) → ⊥
no_seven true q d e = values 0 7 (λ i. omega (arith, i)) (sym (ap value d) ∙ e)
no_seven false q d e =
    let g = subst (λ x. goes_given x (λ bytes. GoesTo eight (told bytes)) d.1) (eight_of d.0) d.3 in
    values 8 7 (λ i. omega (arith, i)) (sym (ap value (d.2 ∙ ap (first (Wants 5)) g)) ∙ e)

-- a program that is not blind may give an answer by Bs that is none by Cs, with no want lost
goes_held_twin_blind : ((plain : ℕ → Bool) (Bs Cs : Bool → Map) (C : Map) (p : P) (done : List ℕ) (ans : Ans)
    → Each (λ w. (j : Bool) → IsAlike (plain w) (Cs j w) (C w)) (needs C p)
    → Each (λ w. (i : Bool) → (j : Bool) × IsWithin (Bs i w) (Cs j w)) (needs C p) → Goes Is no_part [] Bs p done ans
    → Goes Is no_part [] Cs p done ans ⊎ ((q : R) × (r : R) × GoesTo Cs p q × (m : Drops Bs q r) × (done ≡ steps_of m.before)
    × (ans ≡ Err (Fault m.fault)))) → ⊥
goes_held_twin_blind h =
    let alike : Each (λ w. (j : Bool) → IsAlike true (eight j w) (eight true w)) (0 ∷ []) = (elim [ true ↦ inl refl | false ↦ inr (refl, tt, tt) ], tt) in
    let came : Goes Is no_part [] (λ (i : Bool). seven) looks_on [] (Ok 7) =
    (run (Wants 0 ∷ (Wants 5 ∷ [])) (Ok 7), (true, run (Wants 5 ∷ []) (Ok 7), refl, (true, ended 7, refl, refl)), (refl, refl)) in
    elim (h (λ w. true) (λ i. seven) eight (eight true) looks_on [] (Ok 7) alike ((λ i. (false, refl)), tt) came) [
      | inl g ↦ no_seven g.1.0 g.1.1 g.1.3 (sym (ap value g.1.2) ∙ g.2.1)
      | inr g ↦ value_halt 7 (Fault g.3.fault) g.5
    ]

-- where no want passes the test, telling is blind
told_blind : (xs : List ℕ) → IsBlind (λ w. false) (told xs)
told_blind [] = tt
told_blind (x ∷ xs) = tt

-- where no want passes the test, looking on is blind
looks_blind : (xs : List ℕ) → IsBlind (λ w. false) (looks xs)
looks_blind [] = tt
looks_blind (zero ∷ xs) = tt
looks_blind (suc x ∷ xs) = (told_blind, λ e bytes others. let no : ⊥ = cc in absurd no)

-- maps that differ where there is a test
blind_twin_alike : ((plain : ℕ → Bool) (Cs : Bool → Map) (C : Map) (p : P) (q : R) → IsBlind plain p → GoesTo Cs p q → (wants_of q.marks ≡ needs C p)
    × (q.ending ≡ (exec C p).ending)) → ⊥
blind_twin_alike h = values 1 2 one_two (h (λ w. false) each_one two asks (run (Wants 0 ∷ []) (Ok 1))
    (told_blind, λ e bytes others. let no : ⊥ = cc in absurd no) (true, ended 1, refl, refl)).1

-- where maps differ beyond the test, an answer by Bs need be none by Cs
goes_held_twin_alike : ((plain : ℕ → Bool) (Bs Cs : Bool → Map) (C : Map) (p : P) (done : List ℕ) (ans : Ans) → IsBlind plain p
    → Each (λ w. (i : Bool) → (j : Bool) × IsWithin (Bs i w) (Cs j w)) (needs C p) → Goes Is no_part [] Bs p done ans
    → Goes Is no_part [] Cs p done ans ⊎ ((q : R) × (r : R) × GoesTo Cs p q × (m : Drops Bs q r) × (done ≡ steps_of m.before)
    × (ans ≡ Err (Fault m.fault)))) → ⊥
goes_held_twin_alike h =
    let blind : IsBlind (λ w. false) looks_on = (looks_blind, λ e bytes others. let no : ⊥ = cc in absurd no) in
    let came : Goes Is no_part [] (λ (i : Bool). seven) looks_on [] (Ok 7) =
    (run (Wants 0 ∷ (Wants 5 ∷ [])) (Ok 7), (true, run (Wants 5 ∷ []) (Ok 7), refl, (true, ended 7, refl, refl)), (refl, refl)) in
    elim (h (λ w. false) (λ i. seven) eight (eight true) looks_on [] (Ok 7) blind ((λ i. (false, refl)), tt) came) [
      | inl g ↦ no_seven g.1.0 g.1.1 g.1.3 (sym (ap value g.1.2) ∙ g.2.1)
      | inr g ↦ value_halt 7 (Fault g.3.fault) g.5
    ]

-- no map at all, so that what wants a block has no run
abbrev no_map : ⊥ → Map
no_map i = absurd i

-- where there is no map, no run has a want that could not be read
goes_unread_twin : ((Bs : ⊥ → Map) (w : ℕ) (k : List ℕ → P) → Goes Is no_part [] Bs (Need w k) [] (Err (Unread w))) → ⊥
goes_unread_twin h = (h no_map 0 told).1.0

-- a call does not answer that a want could not be read which is another one
goes_unread_twin_is : ((Bs : Bool → Map) (u w : ℕ) (k : List ℕ → P) → Goes Is no_part [] Bs (Need w k) [] (Err (Unread u))) → ⊥
goes_unread_twin_is h =
    let g = h (λ i. one) 5 0 told in
    let e : g.0 ≡ run (Wants 0 ∷ []) (Ok 1) = g.1.2 ∙ ap (first (Wants 0)) g.1.3 in
    let b = subst (λ (r : R). Follows Is no_part [] r [] (Err (Unread 5))) e g.2 in
    names_five b.before b.behind b.place b.holds

-- where there is no map, a program that wants a block has no run to be broken off
goes_nowhere_twin : ((Bs : ⊥ → Map) (p : P) → Goes Is no_part [] Bs p [] (Err Broke)) → ⊥
goes_nowhere_twin h = (h no_map asks).1.0

-- where there is no map, a halt of the first program is none of both
goes_halt_twin_some : ((Bs : ⊥ → Map) (p : P) (k : ℕ → P) (done : List ℕ) (x : Halt ℕ ℕ) → Goes Is no_part [] Bs p done (Err x)
    → Goes Is no_part [] Bs (bind p k) done (Err x)) → ⊥
goes_halt_twin_some h =
    (h no_map (Return 0) (λ a. asks) [] Broke (
      ended 0,
      refl,
      record {
        before = [];
        behind = [];
        left = None;
        place = refl;
        steps = refl;
        leaves = tt;
        holds = tt;
      },
    )).1.0

-- a step that was done under another map
abbrev shows : List ℕ → P
shows [] = Return 0
shows (zero ∷ xs) = Return 0
shows (suc x ∷ xs) = Emit 3 (Return 0)

-- the first marks of a run that only wants a block have no steps
no_steps : (xs ys : List (Mark ℕ ℕ)) → Wants 0 ∷ [] ≡ xs ++ ys → steps_of xs ≡ []
no_steps [] ys e = refl
no_steps (x ∷ xs) ys e =
    let i : x ≡ Wants 0 = cc in
    let t : [] ≡ xs ++ ys = cc in
    ap steps_of (ap (λ z. z ∷ xs) i ∙ ap (λ z. Wants 0 ∷ z) (no_marks xs ys t))

-- where no step is past and none is done in part, no step was done
none_left : (xs : List ℕ) (o : Option ℕ) (ms : List (Mark ℕ ℕ)) → xs ≡ [] → SameList (3 ∷ []) (xs ++ option_to_list o) → Leaves no_part o ms → ⊥
none_left xs None ms e f l = some_list 3 [] (f ∙ ap (λ x. x ++ []) e)
none_left xs (Some t) ms e f l =
    let never : Leaves {W = ℕ} no_part (Some t) (Does 1 ∷ []) = part_here (Some t) ms l in
    let no : None ≡ Some t = never.1 in cc

-- a call that was broken off behind a step of one map's run is none of another's
part_twin : ((B C : Map) (p : P) (done : List ℕ) → Follows Is no_part [] (exec B p) done (Err Broke) → Follows Is no_part [] (exec C p) done (Err Broke)) → ⊥
part_twin h =
    let b = h one nil (Need 0 shows) (3 ∷ []) (record {
      before = Wants 0 ∷ (Does 3 ∷ []);
      behind = [];
      left = None;
      place = refl;
      steps = refl;
      leaves = tt;
      holds = tt;
    }) in
    none_left (steps_of b.before) b.left b.behind (no_steps b.before b.behind b.place) b.steps b.leaves

-- ---- programs that go on behind faults

-- programs of numbers that go on behind faults
abbrev Q : Type 0
Q = Trying ℕ ℕ ℕ ℕ

-- a trying program that ends with the fault of block 0, or with 0
abbrev by_fault : Result (List ℕ) ℕ → Q
by_fault (Ok bytes) = Done 0
by_fault (Err f) = Done f

-- maps that differ in what is wanted
only_tried_twin : ((B C : Map) (p : Q) → tried B p ≡ tried C p) → ⊥
only_tried_twin h = values 9 0 (λ e. absurd (omega (arith, e))) (ap value (h none one (Try 0 by_fault)))

-- answers of no run
try_came_twin : ((w : ℕ) (k : Result (List ℕ) ℕ → Q) (done : List ℕ) (ans : Ans) → Follows Is no_part [] (tried one (Try w k)) done ans) → ⊥
try_came_twin h = values 0 5 (λ e. absurd (omega (arith, e))) (h 0 by_fault [] (Ok 5)).1

-- how an attempted program ended
abbrev inner : Result (Result ℕ ℕ) ℕ → Result ℕ ℕ
inner (Ok e) = e
inner (Err f) = Err f

-- what is answered of an attempt must be an answer of the program
follows_attempt_twin : ((p : P) (done : List ℕ) (ans : Ans) → Follows Is no_part [] (tried one (attempt p)) done (attempted ans)) → ⊥
follows_attempt_twin h = values 0 5 (λ e. absurd (omega (arith, e))) (ap inner (h (Return 0) [] (Ok 5)).1)

-- how a program ended whose steps were gathered
abbrev inner_ending : Result (RunOutcome ℕ ℕ ℕ) ℕ → Result ℕ ℕ
inner_ending (Ok o) = o.ending
inner_ending (Err f) = Err f

-- what is answered of a gathered program must be an answer of its own
follows_gathered_twin : ((p : P) (done : List ℕ) (ans : Ans) → Follows {S = ℕ} Is no_part [] (tried one (gathered p)) [] (gathered_by done ans)) → ⊥
follows_gathered_twin h = values 0 5 (λ e. absurd (omega (arith, e))) (ap inner_ending (h (Return 0) [] (Ok 5)).1)

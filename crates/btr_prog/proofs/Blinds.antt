-- Where a want may come to several things, and some are lacked.
use Rattle.std.proofs.Common.{◌≡◌, ◌⊎◌, inl, inr, ℕ, Bool, IsTrue, List, [], ◌∷◌, ◌++◌, Option, Result, Ok, Err, refl, sym, ap, ◌∙◌, subst, append-nil}
use Rattle.std.proofs.Common.{append_assoc}
use Rattle.btr_prog.specs.Prog.{BlockMap, Prog, Return, Stop, Need, Emit, Wants, Does, Run, run, first, given, exec, needs, steps_of, wants_of}
use Rattle.btr_prog.specs.Maps.{Each, IsWithin}
use Rattle.btr_prog.specs.Answers.{Halt, Fault, Unread, Broke, Names, no_part, Breaks, Follows}
use Rattle.btr_prog.specs.Goes.{goes_given, GoesTo, Goes}
use Rattle.btr_prog.specs.Blind.{SameWants, IsBlind, IsAlike, Drops}
use Rattle.btr_prog.proofs.Runs.{steps_of-append}
use Rattle.btr_prog.proofs.Choices.{goes_map}
use Rattle.btr_prog.proofs.Follow.{breaks_longer}

-- of a want each map of Cs and C have the same, or may differ in their bytes where the test passes
abbrev Alike : {W F J : Type 0} → (W → Bool) → (J → BlockMap W F) → BlockMap W F → W → Type 0
Alike {J = J} plain Cs C w = (j : J) → IsAlike (plain w) (Cs j w) (C w)

-- of a want each map of Bs has what some map of Cs has, or nothing
abbrev Within : {W F I J : Type 0} → (I → BlockMap W F) → (J → BlockMap W F) → W → Type 0
Within {I = I} {J = J} Bs Cs w = (i : I) → (j : J) × IsWithin (Bs i w) (Cs j w)

module _ {W F S A J : Type 0} (plain : W → Bool) (Cs : J → BlockMap W F) (C : BlockMap W F) where
  -- a run wants and ends as C's
  abbrev Same : Prog W F S A → Run W F S A → Type 0
  Same p q = (wants_of q.marks ≡ needs C p) × (q.ending ≡ (exec C p).ending)

  -- of one want, whose fates are x by the map taken and y by C
  given_same : (test : Bool) (x y : Result (List ℕ) F) (k : List ℕ → Prog W F S A) (q : Run W F S A)
      → ((bytes : List ℕ) (t : Run W F S A) → Each (Alike plain Cs C) (needs C (k bytes)) → GoesTo Cs (k bytes) t → Same (k bytes) t)
      → (IsTrue test → (b c : List ℕ) → SameWants (k b) (k c)) → IsAlike test x y
      → Each (Alike plain Cs C) (wants_of (given y (λ bytes. exec C (k bytes))).marks) → goes_given x (λ bytes. GoesTo Cs (k bytes)) q
      → (wants_of q.marks ≡ wants_of (given y (λ bytes. exec C (k bytes))).marks) × (q.ending ≡ (given y (λ bytes. exec C (k bytes))).ending)
  given_same test (Ok b) (Ok c) k q ih same (inl e) h d =
      let i : b ≡ c = cc in
      ih c q h (subst (λ x. GoesTo Cs (k x) q) i d)
  given_same test (Err f) (Err g) k q ih same (inl e) h d =
      let i : f ≡ g = cc in
      (ap (λ (x : Run W F S A). wants_of x.marks) d, ap (λ (x : Run W F S A). x.ending) d ∙ ap Err i)
  given_same test (Ok b) (Err g) k q ih same (inl e) h d = cc
  given_same test (Err f) (Ok c) k q ih same (inl e) h d = cc
  given_same test (Ok b) (Ok c) k q ih same (inr e) h d =
      let s = same e.0 b c C in
      let t = ih b q (subst (Each (Alike plain Cs C)) (sym s.0) h) d in
      (t.0 ∙ s.0, t.1 ∙ s.1)
  given_same test (Ok b) (Err g) k q ih same (inr e) h d = absurd e.2
  given_same test (Err f) y k q ih same (inr e) h d = absurd e.1

  -- all runs of a program that is blind to wants that may differ want the same and end alike
  pub blind_law : (p : Prog W F S A) (q : Run W F S A) → IsBlind plain p → Each (Alike plain Cs C) (needs C p) → GoesTo Cs p q → Same p q
  blind_law (Return a) q b h d = (ap (λ (x : Run W F S A). wants_of x.marks) d, ap (λ (x : Run W F S A). x.ending) d)
  blind_law (Stop f) q b h d = (ap (λ (x : Run W F S A). wants_of x.marks) d, ap (λ (x : Run W F S A). x.ending) d)
  blind_law (Emit s p) q b h d =
      let t = blind_law p d.0 b h d.2 in
      (ap (λ (x : Run W F S A). wants_of x.marks) d.1 ∙ t.0, ap (λ (x : Run W F S A). x.ending) d.1 ∙ t.1)
  blind_law (Need w k) q b h d =
      let t = given_same (plain w) (Cs d.0 w) (C w) k d.1 (λ bytes u g c. blind_law (k bytes) u (b.0 bytes) g c) b.1 (h.0 d.0) h.1 d.3 in
      (ap (λ (x : Run W F S A). wants_of x.marks) d.2 ∙ ap (λ x. w ∷ x) t.0, ap (λ (x : Run W F S A). x.ending) d.2 ∙ t.1)

module _ {W F S A I J : Type 0} (some : J) (Bs : I → BlockMap W F) (Cs : J → BlockMap W F) where
  -- a run of Cs, or one that is cut at a want that one of Bs lacks
  abbrev Cut : Prog W F S A → Run W F S A → Type 0
  Cut p r = GoesTo Cs p r ⊎ ((q : Run W F S A) × GoesTo Cs p q × Drops Bs q r)

  -- a mark before
  more_want : (w : W) (j : J) (k : List ℕ → Prog W F S A) (bytes : List ℕ) (q r : Run W F S A) → Cs j w ≡ Ok bytes → r ≡ first (Wants w) q
      → Cut (k bytes) q → Cut (Need w k) r
  more_want w j k bytes q r e i (inl g) = inl (j, q, i, subst (λ x. goes_given x (λ y. GoesTo Cs (k y)) q) (sym e) g)
  more_want w j k bytes q r e i (inr g) =
      let m = g.2 in
      inr (
        first (Wants w) g.0,
        (j, g.0, refl, subst (λ x. goes_given x (λ y. GoesTo Cs (k y)) g.0) (sym e) g.1),
        record {
          want = m.want;
          fault = m.fault;
          before = Wants w ∷ m.before;
          behind = m.behind;
          choice = m.choice;
          place = ap (λ x. Wants w ∷ x) m.place;
          lost = m.lost;
          marks = ap (λ (x : Run W F S A). x.marks) i ∙ ap (λ x. Wants w ∷ x) m.marks;
          ending = ap (λ (x : Run W F S A). x.ending) i ∙ m.ending;
        },
      )

  -- a step before, and the run is one of Cs, or is cut
  more_step : (s : S) (p : Prog W F S A) (q r : Run W F S A) → r ≡ first (Does s) q → Cut p q → Cut (Emit s p) r
  more_step s p q r i (inl g) = inl (q, i, g)
  more_step s p q r i (inr g) =
      let m = g.2 in
      inr (
        first (Does s) g.0,
        (g.0, refl, g.1),
        record {
          want = m.want;
          fault = m.fault;
          before = Does s ∷ m.before;
          behind = m.behind;
          choice = m.choice;
          place = ap (λ x. Does s ∷ x) m.place;
          lost = m.lost;
          marks = ap (λ (x : Run W F S A). x.marks) i ∙ ap (λ x. Does s ∷ x) m.marks;
          ending = ap (λ (x : Run W F S A). x.ending) i ∙ m.ending;
        },
      )

  -- of one want, which comes to x
  given_cut : (w : W) (i : I) (x y : Result (List ℕ) F) (j : J) (k : List ℕ → Prog W F S A) (q r : Run W F S A) → Bs i w ≡ x → Cs j w ≡ y
      → IsWithin x y → r ≡ first (Wants w) q → ((bytes : List ℕ) → y ≡ Ok bytes → (t : Run W F S A) → GoesTo Bs (k bytes) t → Cut (k bytes) t)
      → goes_given x (λ bytes. GoesTo Bs (k bytes)) q → Cut (Need w k) r
  given_cut w i (Ok bytes) y j k q r e c n s ih d = more_want w j k bytes q r (c ∙ n) s (ih bytes n q d)
  given_cut w i (Err f) y j k q r e c n s ih d = inr (
    exec (Cs some) (Need w k),
    goes_map Cs some (Need w k),
    record {
      want = w;
      fault = f;
      before = [];
      behind = (given (Cs some w) (λ bytes. exec (Cs some) (k bytes))).marks;
      choice = i;
      place = refl;
      lost = e;
      marks = ap (λ (t : Run W F S A). t.marks) s ∙ ap (λ (t : Run W F S A). Wants w ∷ t.marks) d;
      ending = ap (λ (t : Run W F S A). t.ending) s ∙ ap (λ (t : Run W F S A). t.ending) d;
    },
  )

  -- where Bs have of each want what some map of Cs has or nothing, a run by Bs is one by Cs, or is cut
  pub goes_cut : (p : Prog W F S A) (r : Run W F S A) → ((q : Run W F S A) → GoesTo Cs p q → Each (Within Bs Cs) (wants_of q.marks)) → GoesTo Bs p r → Cut p r
  goes_cut (Return a) r h d = inl d
  goes_cut (Stop f) r h d = inl d
  goes_cut (Emit s p) r h d = more_step s p d.0 r d.1 (goes_cut p d.0 (λ q g. h (first (Does s) q) (q, refl, g)) d.2)
  goes_cut (Need w k) r h d =
      let j = (h (exec (Cs some) (Need w k)) (goes_map Cs some (Need w k))).0 d.0 in
      given_cut w d.0 (Bs d.0 w) (Cs j.0 w) j.0 k d.1 r refl refl j.1 d.2
      (λ bytes e t g. goes_cut (k bytes) t (λ q c. (h (first (Wants w) q)
      (j.0, q, refl, subst (λ x. goes_given x (λ y. GoesTo Cs (k y)) q) (sym e) c)).1) g) d.3

  module _ {U : Type 0} (Is : U → W → Type 0) (part : S → ℕ → Option S) (seen : List W) (p : Prog W F S A) (done : List S) where
    -- the answer is one by Cs, or the call stopped at a want that one of Bs lacks, with the steps before it
    abbrev Held : Result A (Halt F U) → Type 0
    Held ans = Goes Is part seen Cs p done ans ⊎ ((q : Run W F S A) × (r : Run W F S A) × GoesTo Cs p q × (m : Drops Bs q r)
        × (done ≡ steps_of m.before) × (ans ≡ Err (Fault m.fault)))

    -- the place where a shorter run is broken off is one of the longer
    drops_place : (part : S → ℕ → Option S) (P : List W → Type 0) (q r : Run W F S A) → Drops Bs q r → Breaks part P r done → Breaks part P q done
    drops_place part P q r m b =
        let e : r.marks ++ m.behind ≡ q.marks = ap (λ x. x ++ m.behind) m.marks ∙ (append_assoc m.before (Wants m.want ∷ []) m.behind ∙ sym m.place) in
        subst (λ x. Breaks part P (run x q.ending) done) e (breaks_longer part P r m.behind q.ending done b)

    -- the steps of a run that is cut at a want are those before that want
    drops_steps : (q r : Run W F S A) (m : Drops Bs q r) → done ≡ steps_of r.marks → done ≡ steps_of m.before
    drops_steps q r m e = e ∙ (ap steps_of m.marks ∙ (steps_of-append m.before (Wants m.want ∷ []) ∙ append-nil (steps_of m.before)))

    -- an answer of a run that is one of Cs or cut is held to Cs
    held_by : (ans : Result A (Halt F U)) (r : Run W F S A) → Follows Is part seen r done ans → Cut p r → Held ans
    held_by ans r f (inl g) = inl (r, g, f)
    held_by (Ok a) r f (inr c) = let no : Ok a ≡ Err c.2.fault = sym f.1 ∙ c.2.ending in cc
    held_by (Err (Fault x)) r f (inr c) =
        let same : Err x ≡ Err c.2.fault = sym f.1 ∙ c.2.ending in
        let e : x ≡ c.2.fault = cc in
        inr (c.0, r, c.1, c.2, drops_steps c.0 r c.2 f.0, ap (λ y. Err (Fault y)) e)
    held_by (Err (Unread u)) r f (inr c) = inl (c.0, c.1, drops_place no_part (λ ws. Names Is u (seen ++ ws)) c.0 r c.2 f)
    held_by (Err Broke) r f (inr c) = inl (c.0, c.1, drops_place part (λ ws. Unit {0}) c.0 r c.2 f)

    -- where the program is blind to what may differ among Cs, an answer by Bs is held to Cs
    pub goes_held : (plain : W → Bool) (C : BlockMap W F) (ans : Result A (Halt F U)) → IsBlind plain p
        → Each (λ w. (j : J) → IsAlike (plain w) (Cs j w) (C w)) (needs C p) → Each (Within Bs Cs) (needs C p) → Goes Is part seen Bs p done ans → Held ans
    goes_held plain C ans b h g n = held_by ans n.0 n.2 (goes_cut p n.0 (λ q c. subst (Each (Within Bs Cs)) (sym (blind_law plain Cs C p q b h c).0) g) n.1)

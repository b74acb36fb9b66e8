-- The frames of a path, whatever is left of each.
use Rattle.std.proofs.Common.{◌≡◌, inl, inr, ℕ, zero, suc, ◌+◌, ◌<◌, ◌≤◌, List, [], ◌∷◌, ◌++◌, length, get_or, set, drop, replicate, Option, Some, None, IfSome}
use Rattle.std.proofs.Common.{refl, sym, ap, ◌∙◌, subst, arith}
use Rattle.std.specs.List.{Contains}
use Rattle.std.proofs.lemmas.Bool.{cases_eq}
use Rattle.std.proofs.lemmas.List.{get_or-set_same, get_or-set_other, set-get_or}
use Rattle.std.proofs.lemmas.List.Elements.{Contains-append_left, Contains-append_right}
use Rattle.btr_read.specs.declared.want.Want.{Want}
use Rattle.btr_walk.specs.declared.frame.Frame.{Frame}
use Rattle.btr_walk.specs.Frames.{frame_or, path_of, IsNode}
use Rattle.btr_walk.specs.Le.{want_of}
use Rattle.btr_walk.specs.Reading.{Map}

-- a path of a new cursor
pub none_of : (n k : ℕ) → get_or {A = Option Frame} (replicate n None) k None ≡ None
none_of zero k = refl
none_of (suc n) zero = refl
none_of (suc n) (suc k) = none_of n k

module _ {P : Type 0} (left : ℕ → Frame → P → P) (end : P) where
  -- places of a path that have no frame
  path_clear : (m n : ℕ) (fs : List (Option Frame)) → n ≤ length fs → ((k : ℕ) → k < n → get_or fs k None ≡ None) → path_of left end m fs
      ≡ path_of left end (m + n) (drop n fs)
  path_clear m zero fs le h = let e : m ≡ m + 0 = omega arith in ap (λ x. path_of left end x fs) e
  path_clear m (suc n) [] le h = absurd (omega (arith, le))
  path_clear m (suc n) (o ∷ fs) le h =
      let e : (m + 1) + n ≡ m + suc n = omega arith in
      ap (λ x. frame_or left (m + 1) x (path_of left end (m + 1) fs)) (h 0 (omega arith))
      ∙ path_clear (m + 1) n fs (omega (arith, le)) (λ k lt. h (suc k) (omega (arith, lt)))
      ∙ ap (λ x. path_of left end x (drop n fs)) e

  -- where no frame stands below a place, a path with another one there has what is left of this one, and then what stands behind
  path_set_at : (m i : ℕ) (fs : List (Option Frame)) (o : Option Frame) → i < length fs → ((k : ℕ) → k < i → get_or fs k None ≡ None)
      → path_of left end m (set fs i o) ≡ frame_or left (m + i + 1) o (path_of left end (m + i + 1) (drop (suc i) fs))
  path_set_at m i [] o lt h = absurd (omega (arith, lt))
  path_set_at m zero (x ∷ fs) o lt h = let e : m + 1 ≡ m + 0 + 1 = omega arith in ap (λ l. frame_or left l o (path_of left end l fs)) e
  path_set_at m (suc i) (x ∷ fs) o lt h =
      let e : (m + 1) + i + 1 ≡ m + suc i + 1 = omega arith in
      ap (λ y. frame_or left (m + 1) y (path_of left end (m + 1) (set fs i o))) (h 0 (omega arith))
      ∙ path_set_at (m + 1) i fs o (omega (arith, lt)) (λ k l. h (suc k) (omega (arith, l)))
      ∙ ap (λ l. frame_or left l o (path_of left end l (drop (suc i) fs))) e

  -- what comes behind the frame at a place
  abbrev pub behind : ℕ → List (Option Frame) → P
  behind i fs = path_of left end (i + 1) (drop (suc i) fs)

  -- the lowest frame was changed
  pub path_set : (i : ℕ) (fs fs' : List (Option Frame)) (o : Option Frame) → i < length fs → ((k : ℕ) → k < i → get_or fs k None ≡ None)
      → fs' ≡ set fs i o → path_of left end 0 fs' ≡ frame_or left (i + 1) o (behind i fs)
  path_set i fs fs' o lt h is =
      let e : 0 + i + 1 ≡ i + 1 = omega arith in
      ap (path_of left end 0) is ∙ path_set_at 0 i fs o lt h ∙ ap (λ l. frame_or left l o (path_of left end l (drop (suc i) fs))) e

  -- the lowest frame stands at a place
  pub path_here : (i : ℕ) (fs : List (Option Frame)) (frame : Frame) → i < length fs → ((k : ℕ) → k < i → get_or fs k None ≡ None)
      → get_or fs i None ≡ Some frame → path_of left end 0 fs ≡ left (i + 1) frame (behind i fs)
  path_here i fs frame lt h here = path_set i fs fs (Some frame) lt h (sym (ap (set fs i) (sym here) ∙ set-get_or fs i None))

  -- no frame stands at a place or below it
  pub path_bare : (i : ℕ) (fs : List (Option Frame)) → i < length fs → ((k : ℕ) → k < suc i → get_or fs k None ≡ None) → path_of left end 0 fs ≡ behind i fs
  path_bare i fs lt h =
      let e : 0 + suc i ≡ i + 1 = omega arith in path_clear 0 (suc i) fs (omega (arith, lt)) h ∙ ap (λ l. path_of left end l (drop (suc i) fs)) e

  -- no frame is left
  pub path_none : (m : ℕ) (fs : List (Option Frame)) → ((k : ℕ) → get_or fs k None ≡ None) → path_of left end m fs ≡ end
  path_none m [] h = refl
  path_none m (o ∷ fs) h = ap (λ x. frame_or left (m + 1) x (path_of left end (m + 1) fs)) (h 0) ∙ path_none (m + 1) fs (λ k. h (suc k))

-- what holds of the frame of a place in a path of which one frame was changed
pub frames_set : (P Q : ℕ → Frame → Type 0) (fs : List (Option Frame)) (i : ℕ) (o : Option Frame) → i < length fs
    → ((level : ℕ) (f : Frame) → P level f → Q level f) → ((k : ℕ) → IfSome (get_or fs k None) (P (k + 1))) → IfSome o (Q (i + 1)) → (k : ℕ)
    → IfSome (get_or (set fs i o) k None) (Q (k + 1))
frames_set P Q fs i o lt weaker h g k = elim (cases_eq k i) [
  | inl e ↦ subst (λ (j : ℕ). IfSome (get_or (set fs i o) j None) (Q (j + 1))) (sym e)
      (subst (λ x. IfSome x (Q (i + 1))) (sym (get_or-set_same fs i o None lt)) g)
  | inr ne ↦ subst (λ x. IfSome x (Q (k + 1))) (sym (get_or-set_other fs i k o None ne))
      (if_weaker (P (k + 1)) (Q (k + 1)) (weaker (k + 1)) (get_or fs k None) (h k))
]
  where
    -- what follows of each frame follows of the one that is there, if there is one
    if_weaker : (P Q : Frame → Type 0) → ((f : Frame) → P f → Q f) → (x : Option Frame) → IfSome x P → IfSome x Q
    if_weaker P Q weaker None p = tt
    if_weaker P Q weaker (Some f) p = weaker f p

-- a block that was read last is among those that were read
pub last_read : (seen : List Want) (w : Want) → Contains (seen ++ (w ∷ [])) w
last_read seen w = Contains-append_right seen (w ∷ []) w (0, omega arith, refl)

-- a node stays one where more was read
abbrev pub node_more : (B : Map) (seen more : List Want) (level : ℕ) (frame : Frame) → IsNode B seen level frame → IsNode B (seen ++ more) level frame
node_more B seen more level frame f = record {
  block = f.block;
  came = f.came;
  is = f.is;
  read = Contains-append_left seen more (want_of level frame.pointer) f.read;
  more = f.more;
  within = f.within;
}

-- Pieces whose bytes are those of a function of the position.
use Rattle.std.proofs.Common.{◌≡◌, ℕ, ◌+◌, ◌-◌, ◌<◌, ◌≤◌, Bool, true, false, cond, length, List, [], ◌∷◌, ◌++◌, refl, sym, ap, ◌∙◌, subst, arith}
use Rattle.std.specs.Prelude.{◌==◌, nat_le, replicate, slice_index}
use Rattle.std.proofs.lemmas.Bool.Decides.{nat_tests}
use Rattle.std.proofs.lemmas.Grind.{flat_map-append}
use Rattle.std.proofs.lemmas.List.{get_or-append_right, get_or_append_left, get_or-replicate, length-append, length-replicate}
use Rattle.btr_prog.specs.Prog.{Return, Emit, Mark, Wants, Does, exec, steps_of}
use Rattle.btr_prog.specs.Quiet.{quiet_marks}
use Rattle.btr_prog.proofs.Runs.{steps_of-append}
use Rattle.btr_read.specs.declared.want.Want.{Want}
use Rattle.btr_walk.specs.Reading.{Map}
use Rattle.btr_volume.specs.Lookup.{Program}
use Rattle.btr_files.specs.Content.{Piece, Gap, gap}
use Rattle.btr_files.specs.FileAt.{piece_bytes, bytes_of}

-- bytes that are those of a function from a position on, up to another one
pub record Fills (f : ℕ → ℕ) (from to : ℕ) (bytes : List ℕ) : Type 0 where
  pub long : from + length bytes ≡ to
  pub spells : (i : ℕ) → i < length bytes → slice_index bytes i ≡ f (from + i)

-- the bytes of the pieces among some marks
abbrev pub Marks : Type 0
Marks = List (Mark Want Piece)

-- the bytes of all pieces that some marks show
abbrev pub bytes_in : Marks → List ℕ
bytes_in ms = bytes_of (steps_of ms)

-- the bytes of some marks, and then of some more, are those of both
bytes_both : (ms ns : Marks) → bytes_in (ms ++ ns) ≡ bytes_in ms ++ bytes_in ns
bytes_both ms ns = ap bytes_of (steps_of-append ms ns) ∙ flat_map-append piece_bytes (steps_of ms) (steps_of ns)

-- the marks of a lookup have no bytes
pub quiet_none : (ms : List (Mark Want ⊥)) → [] ≡ bytes_in (quiet_marks ms)
quiet_none [] = refl
quiet_none (Wants w ∷ ms) = quiet_none ms
quiet_none (Does s ∷ ms) = absurd s

module _ (f : ℕ → ℕ) where
  -- no bytes are those from a position up to itself
  pub fills_none : (at : ℕ) → Fills f at at []
  fills_none at = record { long = omega arith; spells = λ i lt. absurd (omega (arith, lt)) }

  -- each byte of two parts is the function's, in the first part or in the second
  both_spell : (a m : ℕ) (xs ys : List ℕ) → a + length xs ≡ m → Fills f a m xs → (b : ℕ) → Fills f m b ys → (i : ℕ) → i < length xs + length ys
      → (t : Bool) → nat_le (length xs) i ≡ t → slice_index (xs ++ ys) i ≡ f (a + i)
  both_spell a m xs ys seam h b g i lt true e =
      let le : length xs ≤ i = grind (arith, nat_tests) in
      get_or-append_right xs ys (length xs) i 0 refl le ∙ g.spells (i - length xs) (omega (arith, le, lt)) ∙ ap f (omega (arith, seam, le))
  both_spell a m xs ys seam h b g i lt false e =
      let less : i < length xs = grind (arith, nat_tests) in
      get_or_append_left xs ys 0 i less ∙ h.spells i less

  -- some bytes, and then some more
  pub fills_both : (a m b : ℕ) (xs ys : List ℕ) → Fills f a m xs → Fills f m b ys → Fills f a b (xs ++ ys)
  fills_both a m b xs ys h g =
      let all = length-append xs ys in record {
        long = omega (arith, all, h.long, g.long);
        spells = λ i lt. both_spell a m xs ys h.long h b g i (omega (arith, all, lt)) (nat_le (length xs) i) refl;
      }

  -- the pieces of some marks, and then those of some more, are the function's bytes
  pub fills_marks : (a m b : ℕ) (ms ns : Marks) → Fills f a m (bytes_in ms) → Fills f m b (bytes_in ns) → Fills f a b (bytes_in (ms ++ ns))
  fills_marks a m b ms ns h g = subst (Fills f a b) (sym (bytes_both ms ns)) (fills_both a m b (bytes_in ms) (bytes_in ns) h g)

  -- the same of another function
  pub fills_as : (g : ℕ → ℕ) (a b : ℕ) (xs : List ℕ) → ((p : ℕ) → a ≤ p → p < b → f p ≡ g p) → Fills f a b xs → Fills g a b xs
  fills_as g a b xs e h = record {
    long = h.long;
    spells = λ i lt. h.spells i lt ∙ e (a + i) (omega arith) (omega (arith, lt, h.long));
  }

  -- zeros
  pub fills_zeros : (a b : ℕ) → a ≤ b → ((p : ℕ) → a ≤ p → p < b → f p ≡ 0) → Fills f a b (replicate (b - a) 0)
  fills_zeros a b le none =
      let n = length-replicate {A = ℕ} (b - a) 0 in record {
        long = omega (arith, n, le);
        spells = λ i lt.
            let less : i < b - a = omega (arith, n, lt) in
            get_or-replicate (b - a) i 0 0 less ∙ sym (none (a + i) (omega arith) (omega (arith, less, le)));
      }

  module _ {A : Type 0} (B : Map) (a m b : ℕ) (rest : Program Piece A) where
    -- zeros, by whether there are any, and then a program
    by_gap : (n : ℕ) (t : Bool) → (n == 0) ≡ t → Fills f a m (replicate n 0) → Fills f m b (bytes_in (exec B rest).marks)
        → Fills f a b (bytes_in (exec B (cond t rest (Emit (Gap n) rest))).marks)
    by_gap n true e h g =
        let none : n ≡ 0 = grind (arith, nat_tests) in
        let all = length-replicate {A = ℕ} n 0 in
        let same : m ≡ a = omega (arith, none, all, h.long) in
        subst (λ (x : ℕ). Fills f x b (bytes_in (exec B rest).marks)) same g
    by_gap n false e h g = fills_both a m b (replicate n 0) (bytes_in (exec B rest).marks) h g

    -- a gap, and then a program
    pub fills_gap : a ≤ m → ((p : ℕ) → a ≤ p → p < m → f p ≡ 0) → Fills f m b (bytes_in (exec B rest).marks)
        → Fills f a b (bytes_in (exec B (gap (m - a) rest)).marks)
    fills_gap le none g = by_gap (m - a) ((m - a) == 0) refl (fills_zeros a m le none) g

  -- the last gap
  pub fills_last : (B : Map) (a b : ℕ) → a ≤ b → ((p : ℕ) → a ≤ p → p < b → f p ≡ 0)
      → Fills f a b (bytes_in (exec B (gap {A = Unit {0}} (b - a) (Return tt))).marks)
  fills_last B a b le none = fills_gap B a b b (Return tt) le none (fills_none b)

-- zeros before a program, by whether there are any, don't change how it ends
gap_if_ends : {A : Type 0} (B : Map) (n : ℕ) (rest : Program Piece A) (t : Bool) → (exec B (cond t rest (Emit (Gap n) rest))).ending ≡ (exec B rest).ending
gap_if_ends B n rest true = refl
gap_if_ends B n rest false = refl

-- how a gap and then a program end
pub gap_ends : {A : Type 0} (B : Map) (n : ℕ) (rest : Program Piece A) → (exec B (gap n rest)).ending ≡ (exec B rest).ending
gap_ends B n rest = gap_if_ends B n rest (n == 0)

-- How ranges of one length stand, up to where that is the same.
use Rattle.std.proofs.Common.{◌≡◌, ℕ, ◌+◌, ◌-◌, ◌<◌, ◌≤◌, ◌^◌, true, false, ◌&&◌, cond, ◌⊎◌, inl, inr, List, length, get_or, eqb, leb, ltb, ap, ◌∙◌}
use Rattle.std.proofs.Common.{Bool, refl, arith}
use Rattle.std.proofs.lemmas.Bool.{cases_lt}
use Rattle.std.proofs.lemmas.Bool.Decides.{nat_tests}
use Rattle.std.proofs.lemmas.List.Folds.{list_any_at}
use Rattle.std.specs.List.Sorted.{IsNonDecreasingBy, IsPartitionPoint}
use Rattle.btr_check_space.specs.AddressRanges.{AscendAtBothEnds, end_before, end_of, is_held, is_held_from, no_range, start_behind}
use Rattle.btr_check_space.specs.declared.address_ranges.AddressRange.{AddressRange}
use Rattle.btr_check_space.proofs.Elements.{default_free}
use Rattle.btr_check_space.proofs.Reaching.{inside, start_of}

and_false : (a : Bool) → (a && false) ≡ false
and_false true = refl
and_false false = refl

at_most : (n at : ℕ) → n ≤ at → leb n at ≡ true
at_most n at le = grind (arith, nat_tests)

not_at_most : (n at : ℕ) → at < n → leb n at ≡ false
not_at_most n at below = grind (arith, nat_tests)

is_at_most : (n at : ℕ) → leb n at ≡ true → n ≤ at
is_at_most n at e = grind (arith, nat_tests)

is_not_at_most : (n at : ℕ) → leb n at ≡ false → at < n
is_not_at_most n at e = grind (arith, nat_tests)

module _ {X : Type 0} (number : X → ℕ) (list : List X) where
  -- so many of some things have a number that is at most another
  abbrev pub Parted : ℕ → ℕ → Type 0
  Parted at place = IsPartitionPoint (λ x. leb (number x) at ≡ true) (λ x. leb (number x) at ≡ false) list place

  -- up to before the next number, as many do
  pub still_parted : IsNonDecreasingBy number list → (place at other : ℕ) → Parted at place → at ≤ other
      → ((d : X) → place < length list → other < number (get_or list place d)) → Parted other place
  still_parted up place at other point from before = (
    λ k d low below.
        let first : number (get_or list k d) ≤ at = is_at_most (number (get_or list k d)) at (point.0 k d low below) in
        at_most (number (get_or list k d)) other (omega (arith, first, from)),
    λ k d behind below.
        let next : number (get_or list place d) ≤ number (get_or list k d) = up place k d behind below in
        let inside : place < length list = omega (arith, behind, below) in
        let later : other < number (get_or list place d) = before d inside in
        not_at_most (number (get_or list k d)) other (omega (arith, next, later)),
  )

  -- the next number is greater
  pub parted_behind : (place at : ℕ) (d : X) → Parted at place → place < length list → at < number (get_or list place d)
  parted_behind place at d point below = is_not_at_most (number (get_or list place d)) at (point.1 place d (omega arith) below)

-- so many ranges begin at an address or before it
abbrev pub Begun : List AddressRange → ℕ → ℕ → Type 0
Begun list = Parted start_of list

module _ (list : List AddressRange) (ascend : AscendAtBothEnds list) (begun start len : ℕ) (within : begun ≤ length list) (point : Begun list start begun) where
  -- where the last of those ends that begin at the address or before it
  end_some : 0 < begun → end_before list begun ≡ end_of (get_or list (begun - 1) no_range)
  end_some some =
      let tests : eqb begun 0 ≡ false = grind (arith, nat_tests) in
      ap (λ b. cond b 0 (end_of (get_or list (begun - 1) no_range))) tests

  -- where no range begins at the address or before it, 0 stands for the end
  end_none : begun ≡ 0 → end_before list begun ≡ 0
  end_none none = ap (λ n. end_before list n) none

  -- and where the one behind them begins
  behind_some : begun < length list → start_behind list begun ≡ (get_or list begun no_range).start
  behind_some below =
      let tests : ltb begun (length list) ≡ true = grind (arith, nat_tests) in
      ap (λ b. cond b (get_or list begun no_range).start (2 ^ 128 - 1)) tests

  -- where none begins behind them, the last number of 128 bits stands for the start
  behind_none : length list ≤ begun → start_behind list begun ≡ 2 ^ 128 - 1
  behind_none none =
      let tests : ltb begun (length list) ≡ false = grind (arith, nat_tests) in
      ap (λ b. cond b (get_or list begun no_range).start (2 ^ 128 - 1)) tests

  -- at a later address before that one, the same begin
  still_begun : (at : ℕ) → start ≤ at → at < start_behind list begun → Begun list at begun
  still_begun at from before = still_parted start_of list ascend.starts begun start at point from (λ d below.
      let same : (get_or list begun no_range).start ≡ (get_or list begun d).start = ap start_of (default_free list begun no_range d below) in
      omega (arith, before, same, behind_some below))

  -- where it holds them at the address, it does so up to where they would end behind it
  pub reach_held : start + len ≤ end_before list begun → 0 < len → (at : ℕ) → start ≤ at → at < end_before list begun - len + 1
      → is_held_from len list at ≡ true
  reach_held reaches some at from before = by (cases_lt 0 begun)
    where
      by : (0 < begun) ⊎ (begun ≤ 0) → is_held_from len list at ≡ true
      by (inl more) =
          let one : AddressRange = get_or list (begun - 1) no_range in
          let first : one.start ≤ start = is_at_most one.start start (point.0 (begun - 1) no_range (omega arith) (omega (arith, more))) in
          let starts : leb one.start at ≡ true = at_most one.start at (omega (arith, first, from)) in
          let ends : leb (at + len) (end_of one) ≡ true = at_most (at + len) (end_of one) (omega (arith, before, reaches, end_some more)) in
          list_any_at (is_held at (at + len)) list (begun - 1) no_range (omega (arith, within, more))
          (ap (λ b. b && leb (at + len) (end_of one)) starts ∙ ends)
      by (inr none) = absurd (omega (arith, reaches, some, end_none (omega (arith, none))))

  -- where it doesn't, none does up to where the next begins
  pub reach_apart : end_before list begun < start + len → (at : ℕ) → start ≤ at → at < start_behind list begun → is_held_from len list at ≡ false
  reach_apart short at from before = inside at (at + len) list begun no_range ascend within (still_begun at from before) ∙ by (cases_lt 0 begun)
    where
      by : (0 < begun) ⊎ (begun ≤ 0) → (ltb 0 begun && leb (at + len) (end_of (get_or list (begun - 1) no_range))) ≡ false
      by (inl more) =
          ap (λ b. ltb 0 begun && b) (not_at_most (at + len) (end_of (get_or list (begun - 1) no_range)) (omega (arith, short, from, end_some more)))
          ∙ and_false (ltb 0 begun)
      by (inr none) =
          let zero_begun : begun ≡ 0 = omega (arith, none) in
          ap (λ n. ltb 0 n && leb (at + len) (end_of (get_or list (begun - 1) no_range))) zero_begun

  -- that is behind the address
  pub behind_start : start < 2 ^ 127 → start < start_behind list begun
  behind_start small = by (cases_lt begun (length list))
    where
      by : (begun < length list) ⊎ (length list ≤ begun) → start < start_behind list begun
      by (inl below) =
          let next : start < (get_or list begun no_range).start = parted_behind start_of list begun start no_range point below in
          omega (arith, next, behind_some below)
      by (inr none) = omega (arith, small, behind_none none)

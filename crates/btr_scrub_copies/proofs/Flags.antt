-- Copies of which a test holds, by their flags.
use Rattle.std.proofs.Common.{◌≡◌, ℕ, ◌+◌, ◌<◌, ◌≤◌, Bool, true, false, cond, List, [], ◌∷◌, ◌++◌, length, map, get_or, set, length-append, Option, Some, None}
use Rattle.std.proofs.Common.{IsSome, refl, sym, ap, ◌∙◌, arith, ◌-◌}
use Rattle.btr_scrub_copies.proofs.Common.{AreFlagged, Mirror, Part, Range, Target, Write, copy_writes, false≢true, filter, flagged_copies, mended_copies}
use Rattle.btr_scrub_copies.proofs.Common.{mirrors, option_map, option_map_or, range_of, range_with_len, writes_if}
use Rattle.std.proofs.lemmas.List.{map-append}
use Rattle.std.proofs.lemmas.List.Elements.{filter-append, filter_map-append}
use Rattle.std.proofs.lemmas.List.FromFn.{filter_of_map_range_with_len_more}
use Rattle.btr_chunk.specs.declared.place.Part.TheVariants.{Slice}
use Rattle.btr_read.proofs.Ones.{in_below}
use Rattle.btr_read.proofs.Order.{of_filter}
use Rattle.btr_scrub_copies.specs.Blocks.{own_parts}
use Rattle.btr_scrub_copies.proofs.Lists.{each_of, filter-map, filter_same, flag_more, length-filter_map, range_apart}

-- a test counts for one at most
pub cond_few : (b : Bool) → cond b 1 0 ≤ 1
cond_few true = omega arith
cond_few false = omega arith

-- the first n copies
abbrev pub copies : ℕ → List Part
copies n = map Mirror (range_with_len 0 n)

module _ (t : Target) where
  -- the first n copies stand
  abbrev pub StandAll : ℕ → Type 0
  StandAll n = (k : ℕ) → k < n → IsSome (range_of t (Mirror k))

  -- the own places of a block with copies
  pub own_are : (n : ℕ) → mirrors t.chunk ≡ Some n → own_parts t ≡ copies n
  own_are n has = ap (λ o. option_map_or copies o (Slice t.at.index ∷ [])) has

  -- each copy that is written over is one write
  all_written : (test : Part → Bool) (bytes : List ℕ) (n : ℕ) → StandAll n
      → length (copy_writes t bytes (filter test (copies n))) ≡ length (filter test (copies n))
  all_written test bytes n stand = length-filter_map {Y = Write} (λ part. option_map (λ range. record { range = range; bytes = bytes }) (range_of t part))
      (filter test (copies n)) (λ part i. some (range_of t part) (each_of Mirror (λ part. IsSome (range_of t part)) n stand part
      (of_filter test part (copies n) i)))
    where
      some : (o : Option Range) → IsSome o → IsSome {T = Write} (option_map (λ range. record { range = range; bytes = bytes }) o)
      some None h = absurd (false≢true h)
      some (Some range) h = refl

-- the copies that have a flag are those of which the test holds
flags_are : {test : Part → Bool} {n count : ℕ} {flags : List Bool} → AreFlagged test n flags count → flagged_copies flags n ≡ filter test (copies n)
flags_are {test = test} {n = n} {flags = flags} are =
    ap (map Mirror) (filter_same (λ k. get_or flags k false) (λ k. test (Mirror k)) (range_with_len 0 n) (λ k i. are.flags k (in_below n k i)))
    ∙ sym (filter-map Mirror test (range_with_len 0 n))

-- the flag of one more copy
pub one_flag_more : (test : Part → Bool) (m : ℕ) (flags : List Bool) (count count' : ℕ) (b : Bool) → AreFlagged test m flags count → b ≡ test (Mirror m)
    → m < length flags → count' ≡ count + cond b 1 0 → AreFlagged test (m + 1) (set flags m b) count'
one_flag_more test m flags count count' b are here lt c = record {
  flags = λ k below. flag_more flags m k b (λ k. test (Mirror k)) lt are.flags here below;
  count = c ∙ ap (λ x. count + x) (ap (λ b. cond b 1 0) here ∙ sym (one (test (Mirror m))))
      ∙ ap (λ x. x + length (cond (test (Mirror m)) (Mirror m ∷ []) [])) are.count
      ∙ sym (ap length (filter_of_map_range_with_len_more test Mirror 0 m m (omega arith))
      ∙ length-append (filter test (copies m)) (cond (test (Mirror m)) (Mirror m ∷ []) []));
}
  where
    one : (b : Bool) → length (cond b (Mirror m ∷ []) []) ≡ cond b 1 0
    one true = refl
    one false = refl

-- copies that have a flag: those of the first ones, and of more behind them
flagged-append : (flags : List Bool) (m d : ℕ) → flagged_copies flags (m + d)
    ≡ flagged_copies flags m ++ map Mirror (filter (λ k. get_or flags k false) (range_with_len m d))
flagged-append flags m d =
    let p = λ (k : ℕ). get_or flags k false in
    ap (λ ks. map Mirror (filter p ks)) (range_apart 0 m m d (omega arith)) ∙ ap (map Mirror) (filter-append p (range_with_len 0 m) (range_with_len m d))
    ∙ map-append Mirror (filter p (range_with_len 0 m)) (filter p (range_with_len m d))

-- one more
flagged_more : (flags : List Bool) (m : ℕ) → flagged_copies flags (m + 1) ≡ flagged_copies flags m ++ cond (get_or flags m false) (Mirror m ∷ []) []
flagged_more flags m = flagged-append flags m 1 ∙ ap (λ ps. flagged_copies flags m ++ ps) (by (get_or flags m false))
  where
    by : (b : Bool) → map Mirror (cond b (m ∷ []) []) ≡ cond b (Mirror m ∷ []) []
    by true = refl
    by false = refl

module _ (t : Target) (bytes : List ℕ) (flags : List Bool) (m : ℕ) where
  copy_writes-append : (ps qs : List Part) → copy_writes t bytes (ps ++ qs) ≡ copy_writes t bytes ps ++ copy_writes t bytes qs
  copy_writes-append ps qs = filter_map-append (λ part. option_map (λ range. record { range = range; bytes = bytes }) (range_of t part)) ps qs

  -- writes over copies that have a flag, one more
  pub written_more : copy_writes t bytes (flagged_copies flags (m + 1))
      ≡ copy_writes t bytes (flagged_copies flags m) ++ copy_writes t bytes (cond (get_or flags m false) (Mirror m ∷ []) [])
  written_more = ap (copy_writes t bytes) (flagged_more flags m) ∙ copy_writes-append (flagged_copies flags m) (cond (get_or flags m false) (Mirror m ∷ []) [])

  -- those over the first ones come first
  pub written_first : (n : ℕ) → m ≤ n → (rest : List Write)
      × (copy_writes t bytes (flagged_copies flags n) ≡ copy_writes t bytes (flagged_copies flags m) ++ rest)
  written_first n le =
      let behind : List Part = map Mirror (filter (λ k. get_or flags k false) (range_with_len m (n - m))) in
      let number : n ≡ m + (n - m) = omega (arith, le) in (
        copy_writes t bytes behind,
        ap (λ n. copy_writes t bytes (flagged_copies flags n)) number ∙ ap (copy_writes t bytes) (flagged-append flags m (n - m))
            ∙ copy_writes-append (flagged_copies flags m) behind,
      )

-- bytes that are written over the parts of which a test holds, where these are known by flags
module _ (t : Target) (n : ℕ) (has : mirrors t.chunk ≡ Some n) {test : Part → Bool} {flags : List Bool} {count : ℕ} (are : AreFlagged test n flags count)
    (parts : List Part) (own : parts ≡ filter test (own_parts t)) (bytes : List ℕ) (writes : List Write) (is : writes ≡ copy_writes t bytes parts) where
  -- those parts are copies
  copies_are : parts ≡ filter test (copies n)
  copies_are = own ∙ ap (filter test) (own_are t n has)

  -- they are written over those that have a flag
  pub flagged_written : copy_writes t bytes (flagged_copies flags n) ≡ writes
  flagged_written = ap (copy_writes t bytes) (flags_are are ∙ sym copies_are) ∙ sym is

  -- as many are counted, and as many written
  pub flagged_counts : StandAll t n → (write : Bool) → mended_copies count write
      ≡ record { bad = length parts; repaired = length (writes_if write writes); lost = false }
  flagged_counts stand = by
    where
      number : count ≡ length parts
      number = are.count ∙ ap length (sym copies_are)

      written : count ≡ length writes
      written = are.count ∙ sym (all_written t test bytes n stand) ∙ ap length (ap (copy_writes t bytes) (sym copies_are) ∙ sym is)

      by : (write : Bool) → mended_copies count write ≡ record { bad = length parts; repaired = length (writes_if write writes); lost = false }
      by true = λ i. record { bad = number i; repaired = written i; lost = false }
      by false = λ i. record { bad = number i; repaired = 0; lost = false }

-- The candidates in their order.
use Rattle.std.proofs.Common.{◌≡◌, ℕ, suc, ◌+◌, ◌-◌, ◌<◌, ◌≤◌, List, ◌∷◌, length, map, get_or, Some, slice_get, refl, sym, ap, ◌∙◌, subst, arith, length-append}
use Rattle.std.proofs.Common.{IsNone}
use Rattle.std.proofs.lemmas.List.{length-map, get_or_append_left, get_or-append_right, get_or-map}
use Rattle.std.proofs.lemmas.List.FromFn.{get_or-range_with_len, length-range_with_len}
use Rattle.std.proofs.lemmas.Option.{slice_get-get_or}
use Rattle.std.specs.List.{range_with_len}
use Rattle.btr_chunk.specs.declared.place.Part.TheVariants.{Slice}
use Rattle.btr_chunk.specs.declared.profile.Profile.TheVariants.{Raid5, Raid6}
use Rattle.btr_read.specs.declared.candidate.Candidate.{Candidate}
use Rattle.btr_read.specs.declared.candidate.Candidate.TheVariants.{Read, ByP, ByQ, ByBoth}
use Rattle.btr_chunk.specs.declared.profile.Profile.{Profile}
use Rattle.btr_chunk.specs.declared.place.Part.{Part}
use Rattle.btr_chunk.specs.Chunk.{data_count, mirror_count}
use Rattle.btr_chunk.specs.Mapping.{HasPart}
use Rattle.std.specs.Option.{option_map_or}
use Rattle.btr_read.specs.Candidates.{Target, others, rebuilt, copies, ways}
use Rattle.btr_read.specs.Sought.{CanTry, IsTarget, IsOneParity, IsTwoParities}

-- k slices have k - 1 others
pub length-others : (k i : ℕ) → i < k → length (others k i) + 1 ≡ k
length-others k i lt =
    let all = length-append (range_with_len 0 i) (range_with_len (i + 1) (k - (i + 1))) in
    let below = length-range_with_len 0 i in
    let above = length-range_with_len (i + 1) (k - (i + 1)) in
    omega (arith, all, below, above, lt)

-- below the slice that is sought each other slice stands at its own number
pub others_below : (k i j d : ℕ) → j < i → get_or (others k i) j d ≡ j
others_below k i j d lt =
    let left = get_or_append_left (range_with_len 0 i) (range_with_len (i + 1) (k - (i + 1))) d j (omega (arith, lt, length-range_with_len 0 i)) in
    let at = get_or-range_with_len 0 i j d lt in
    omega (arith, left, at)

-- from the slice that is sought on each other slice stands one place before its number
pub others_above : (k i j d : ℕ) → i ≤ j → j + 1 < k → get_or (others k i) j d ≡ j + 1
others_above k i j d le lt =
    let right = get_or-append_right (range_with_len 0 i) (range_with_len (i + 1) (k - (i + 1))) i j d (length-range_with_len 0 i) le in
    let at = get_or-range_with_len (i + 1) (k - (i + 1)) (j - i) d (omega (arith, le, lt)) in
    omega (arith, right, at, le)

-- behind the first three
past_three : {X : Type 0} (a b c : X) (xs : List X) (k j : ℕ) → k ≡ suc (suc (suc j)) → slice_get (a ∷ b ∷ c ∷ xs) k ≡ slice_get xs j
past_three a b c xs k j e = ap (slice_get (a ∷ b ∷ c ∷ xs)) e

-- the candidate by both parities without the j-th other slice
pub pair_at : (k i n j other : ℕ) → i < k → n ≡ j + 3 → j + 1 < k → get_or (others k i) j 0 ≡ other → slice_get (rebuilt Raid6 k i) n ≡ Some (ByBoth other)
pair_at k i n j other lt is below e =
    let long : j < length (map ByBoth (others k i)) = omega (arith, length-map (others k i) ByBoth, length-others k i lt, below) in
    let at : get_or (map ByBoth (others k i)) j (ByBoth 0) ≡ ByBoth other =
    get_or-map ByBoth (others k i) j 0 (ByBoth 0) (omega (arith, length-others k i lt, below)) ∙ ap ByBoth e in
    past_three (Read (Slice i)) ByP ByQ (map ByBoth (others k i)) n j (omega (arith, is))
    ∙ (slice_get-get_or (map ByBoth (others k i)) j (ByBoth 0) long ∙ ap Some at)

-- the ways of a row with P, and with P and Q
pub with_p : (t : Target) → t.chunk.profile ≡ Raid5 → ways t ≡ rebuilt Raid5 (length t.chunk.stripes - 1) t.at.index
with_p t e = ap (λ p. option_map_or copies (mirror_count p (length t.chunk.stripes)) (rebuilt p (data_count p (length t.chunk.stripes)) t.at.index)) e

-- with P and Q the ways are those of a row with two slices fewer than stripes
pub with_p_and_q : (t : Target) → t.chunk.profile ≡ Raid6 → ways t ≡ rebuilt Raid6 (length t.chunk.stripes - 2) t.at.index
with_p_and_q t e = ap (λ p. option_map_or copies (mirror_count p (length t.chunk.stripes)) (rebuilt p (data_count p (length t.chunk.stripes)) t.at.index)) e

-- the slice that is sought is one of the row
pub is_slice : (t : Target) (p : Profile) → IsTarget t.setting t.chunk t.at → t.chunk.profile ≡ p → t.at.index < data_count p (length t.chunk.stripes)
is_slice t p h e = subst (λ p. t.at.index < data_count p (length t.chunk.stripes)) e h.position.index

-- the slice that is sought is there, so a part that is this slice is
slice_there : (p : Profile) (n i : ℕ) (part : Part) → HasPart p n (Slice i) → part ≡ Slice i → HasPart p n part
slice_there p n i part h e = subst (HasPart p n) (sym e) h

-- a candidate for the slice that is sought in a row with P can be tried
pub can_try_one : (t : Target) (c : Candidate) → IsTarget t.setting t.chunk t.at → t.chunk.profile ≡ Raid5 → IsOneParity t.at.index c → CanTry t c
can_try_one t (Read part) h e is = slice_there t.chunk.profile (length t.chunk.stripes) t.at.index part
    (subst (λ p. HasPart p (length t.chunk.stripes) (Slice t.at.index)) (sym e) (refl, is_slice t Raid5 h e)) is
can_try_one t ByP h e is = subst (λ p. IsNone (mirror_count p (length t.chunk.stripes))) (sym e) refl
can_try_one t ByQ h e is = absurd is
can_try_one t (ByBoth j) h e is = absurd is

-- a candidate for the slice that is sought in a row with P and Q can be tried
pub can_try_two : (t : Target) (c : Candidate) → IsTarget t.setting t.chunk t.at → t.chunk.profile ≡ Raid6
    → IsTwoParities (length t.chunk.stripes - 2) t.at.index c → CanTry t c
can_try_two t (Read part) h e is = slice_there t.chunk.profile (length t.chunk.stripes) t.at.index part
    (subst (λ p. HasPart p (length t.chunk.stripes) (Slice t.at.index)) (sym e) (refl, is_slice t Raid6 h e)) is
can_try_two t ByP h e is = subst (λ p. IsNone (mirror_count p (length t.chunk.stripes))) (sym e) refl
can_try_two t ByQ h e is = e
can_try_two t (ByBoth j) h e is = (e, subst (λ p. j < data_count p (length t.chunk.stripes)) (sym e) is.0, is.1)

-- the ways by P and by Q are the second and the third
pub second_is_p : (t : Target) → t.chunk.profile ≡ Raid6 → (d : Candidate) → get_or (ways t) 1 d ≡ ByP
second_is_p t e d = ap (λ cs. get_or cs 1 d) (with_p_and_q t e)

-- with P and Q the third way is by Q
pub third_is_q : (t : Target) → t.chunk.profile ≡ Raid6 → (d : Candidate) → get_or (ways t) 2 d ≡ ByQ
third_is_q t e d = ap (λ cs. get_or cs 2 d) (with_p_and_q t e)

-- how many there are
pub length-with_p_and_q : (k i : ℕ) → i < k → length (rebuilt Raid6 k i) ≡ k + 2
length-with_p_and_q k i lt =
    let long = length-map (others k i) ByBoth in
    let all = length-others k i lt in
    omega (arith, long, all)

-- The rows of RAID5 and RAID6: slices and parities on stripes that turn from row to row.
use Rattle.std.proofs.Common.{◌≡◌, ℕ, ◌+◌, ◌-◌, ◌*◌, ◌/◌, ◌%◌, ◌<◌, true, Some, None, ◌⊎◌, inl, inr, sym, ap, ◌∙◌, refl, arith}
use Rattle.std.proofs.lemmas.Bool.{leb-true, cases_lt, cases_order}
use Rattle.std.proofs.lemmas.Nat.{div-add-mod', mod-mul-add, mul-le, mod_below}
use Rattle.btr_chunk.specs.declared.position.Elements.{Elements}
use Rattle.btr_chunk.specs.declared.place.Part.{Part}
use Rattle.btr_chunk.specs.declared.place.Part.TheVariants.{Mirror, Slice, P, Q}
use Rattle.btr_chunk.specs.declared.profile.Profile.{Profile}
use Rattle.btr_chunk.specs.declared.profile.Profile.TheVariants.{Single, Dup, Raid0, Raid1, Raid1c3, Raid1c4, Raid10, Raid5, Raid6}
use Rattle.btr_chunk.specs.Chunk.{has_count, mirror_count}
use Rattle.btr_chunk.specs.Mapping.{HasPart, PartOn, stripe_of}

-- two places of a row turn to stripes that differ
pub turn-apart : (q i j n : ℕ) → i < j → j < n → (q + i) % n ≡ (q + j) % n → ⊥
turn-apart q i j n below within same =
    let a = (q + i) / n in
    let b = (q + j) / n in
    let one = div-add-mod' (q + i) n in
    let two = div-add-mod' (q + j) n in
    elim (cases_lt a b) [
      | inl more ↦ let gap = mul-le (a + 1) n b n (omega arith) (omega arith) in omega arith
      | inr less ↦ let gap = mul-le b n a n less (omega arith) in omega arith
    ]

-- places of a row that turn to one stripe are one
pub turn-same : (q i j n : ℕ) → i < n → j < n → (q + i) % n ≡ (q + j) % n → i ≡ j
turn-same q i j n one two same =
    elim (cases_order i j) [
      | inl equal ↦ equal
      | inr (inl below) ↦ absurd (turn-apart q i j n below two same)
      | inr (inr above) ↦ absurd (turn-apart q j i n above one (sym same))
    ]

-- some place of a row turns to each stripe
pub turn-cover : (q s n : ℕ) → s < n → (j : ℕ) × (j < n) × ((q + j) % n ≡ s)
turn-cover q s n within =
    let a = q / n in
    let r = q % n in
    let split = div-add-mod' q n in
    let small = mod_below q n (omega arith) in
    elim (cases_lt s r) [
      | inl less ↦
          let whole : q + (s + n - r) ≡ (a + 1) * n + s = omega arith in
          (s + n - r, omega arith, ap (λ x. x % n) whole ∙ mod-mul-add (a + 1) n s within)
      | inr more ↦
          let whole : q + (s - r) ≡ a * n + s = omega arith in
          (s - r, omega arith, ap (λ x. x % n) whole ∙ mod-mul-add a n s within)
    ]

-- the place of a part in its row, before the row is turned
abbrev pub place_in_row : Profile → ℕ → Part → ℕ
place_in_row _ n (Slice i) = i
place_in_row Raid5 n P = n - 1
place_in_row Raid6 n P = n - 2
place_in_row Raid6 n Q = n - 1
place_in_row _ _ _ = 0

-- what can't be
some_none : {X : Type 0} (x : X) → Some x ≡ None → ⊥
some_none x same = cc

-- RAID5 is not RAID6
five_six : Raid5 ≡ Raid6 → ⊥
five_six same = cc

-- the profiles without copies
pub without_copies : (profile : Profile) (n : ℕ) → mirror_count profile n ≡ None → (profile ≡ Raid5) ⊎ (profile ≡ Raid6)
without_copies Single n none = absurd (some_none n none)
without_copies Dup n none = absurd (some_none n none)
without_copies Raid1 n none = absurd (some_none n none)
without_copies Raid1c3 n none = absurd (some_none n none)
without_copies Raid1c4 n none = absurd (some_none n none)
without_copies Raid0 n none = absurd (some_none 1 none)
without_copies Raid10 n none = absurd (some_none 2 none)
without_copies Raid5 n none = inl refl
without_copies Raid6 n none = inr refl

-- a part lies on the stripe that its place in the row turns to
pub stripe_of-turned : (profile : Profile) (n : ℕ) (part : Part) (at : Elements) → mirror_count profile n ≡ None → has_count profile n ≡ true
    → HasPart profile n part
    → (stripe_of profile n part at ≡ (at.row + place_in_row profile n part) % n) × (place_in_row profile n part < n)
stripe_of-turned Raid5 n (Slice i) at none count has = let two = leb-true 2 n count in (refl, omega (arith, has.1))
stripe_of-turned Raid5 n P at none count has = let two = leb-true 2 n count in (refl, omega arith)
stripe_of-turned Raid5 n Q at none count has = absurd (five_six has)
stripe_of-turned Raid5 n (Mirror i) at none count has = absurd has
stripe_of-turned Raid6 n (Slice i) at none count has = let three = leb-true 3 n count in (refl, omega (arith, has.1))
stripe_of-turned Raid6 n P at none count has = let three = leb-true 3 n count in (refl, omega arith)
stripe_of-turned Raid6 n Q at none count has =
    let three = leb-true 3 n count in let place : at.row + (n - 2) + 1 ≡ at.row + (n - 1) = omega arith in (ap (λ x. x % n) place, omega arith)
stripe_of-turned Raid6 n (Mirror i) at none count has = absurd has
stripe_of-turned Single n part at none count has = absurd (some_none n none)
stripe_of-turned Dup n part at none count has = absurd (some_none n none)
stripe_of-turned Raid1 n part at none count has = absurd (some_none n none)
stripe_of-turned Raid1c3 n part at none count has = absurd (some_none n none)
stripe_of-turned Raid1c4 n part at none count has = absurd (some_none n none)
stripe_of-turned Raid0 n part at none count has = absurd (some_none 1 none)
stripe_of-turned Raid10 n part at none count has = absurd (some_none 2 none)

-- parts at one place of a row are one
pub place_in_row-same : (profile : Profile) (n : ℕ) (one other : Part) → mirror_count profile n ≡ None → has_count profile n ≡ true
    → HasPart profile n one → HasPart profile n other
    → place_in_row profile n one ≡ place_in_row profile n other → one ≡ other
place_in_row-same Raid5 n (Slice i) (Slice j) none count has too same = ap (λ k. Slice k) same
place_in_row-same Raid5 n (Slice i) P none count has too same = absurd (omega (arith, has.1))
place_in_row-same Raid5 n P (Slice j) none count has too same = absurd (omega (arith, too.1))
place_in_row-same Raid5 n P P none count has too same = refl
place_in_row-same Raid5 n Q other none count has too same = absurd (five_six has)
place_in_row-same Raid5 n one Q none count has too same = absurd (five_six too)
place_in_row-same Raid5 n (Mirror i) other none count has too same = absurd has
place_in_row-same Raid5 n one (Mirror j) none count has too same = absurd too
place_in_row-same Raid6 n (Slice i) (Slice j) none count has too same = ap (λ k. Slice k) same
place_in_row-same Raid6 n (Slice i) P none count has too same = absurd (omega (arith, has.1))
place_in_row-same Raid6 n (Slice i) Q none count has too same = absurd (omega (arith, has.1))
place_in_row-same Raid6 n P (Slice j) none count has too same = absurd (omega (arith, too.1))
place_in_row-same Raid6 n P P none count has too same = refl
place_in_row-same Raid6 n P Q none count has too same = let three = leb-true 3 n count in absurd (omega arith)
place_in_row-same Raid6 n Q (Slice j) none count has too same = absurd (omega (arith, too.1))
place_in_row-same Raid6 n Q P none count has too same = let three = leb-true 3 n count in absurd (omega arith)
place_in_row-same Raid6 n Q Q none count has too same = refl
place_in_row-same Raid6 n (Mirror i) other none count has too same = absurd has
place_in_row-same Raid6 n one (Mirror j) none count has too same = absurd too
place_in_row-same Single n one other none count has too same = absurd (some_none n none)
place_in_row-same Dup n one other none count has too same = absurd (some_none n none)
place_in_row-same Raid1 n one other none count has too same = absurd (some_none n none)
place_in_row-same Raid1c3 n one other none count has too same = absurd (some_none n none)
place_in_row-same Raid1c4 n one other none count has too same = absurd (some_none n none)
place_in_row-same Raid0 n one other none count has too same = absurd (some_none 1 none)
place_in_row-same Raid10 n one other none count has too same = absurd (some_none 2 none)

-- a part that stands at a place of a row
pub record PartAt (profile : Profile) (n j : ℕ) : Type 0 where
  pub part : Part
  pub has : HasPart profile n part
  pub place : place_in_row profile n part ≡ j

-- each place of a row has a part
pub part_at : (profile : Profile) (n j : ℕ) → mirror_count profile n ≡ None → has_count profile n ≡ true → j < n → PartAt profile n j
part_at Raid5 n j none count within =
    elim (cases_lt j (n - 1)) [
      | inl slice ↦ record { part = Slice j; has = (refl, slice); place = refl }
      | inr last ↦ record { part = P; has = refl; place = omega arith }
    ]
part_at Raid6 n j none count within =
    elim (cases_lt j (n - 2)) [
      | inl slice ↦ record { part = Slice j; has = (refl, slice); place = refl }
      | inr past ↦
          elim (cases_lt j (n - 1)) [
            | inl first ↦ record { part = P; has = refl; place = omega arith }
            | inr last ↦ record { part = Q; has = refl; place = omega arith }
          ]
    ]
part_at Single n j none count within = absurd (some_none n none)
part_at Dup n j none count within = absurd (some_none n none)
part_at Raid1 n j none count within = absurd (some_none n none)
part_at Raid1c3 n j none count within = absurd (some_none n none)
part_at Raid1c4 n j none count within = absurd (some_none n none)
part_at Raid0 n j none count within = absurd (some_none 1 none)
part_at Raid10 n j none count within = absurd (some_none 2 none)

-- the parts of a row lie on stripes that differ
pub stripe_of-same : (profile : Profile) (n : ℕ) (one other : Part) (at : Elements) → mirror_count profile n ≡ None → has_count profile n ≡ true
    → HasPart profile n one → HasPart profile n other
    → stripe_of profile n one at ≡ stripe_of profile n other at → one ≡ other
stripe_of-same profile n one other at none count has too same =
    let first = stripe_of-turned profile n one at none count has in
    let second = stripe_of-turned profile n other at none count too in
    place_in_row-same profile n one other none count has too
    (turn-same at.row (place_in_row profile n one) (place_in_row profile n other) n first.1 second.1 (sym first.0 ∙ same ∙ second.0))

-- and cover them all
pub stripe_of-cover : (profile : Profile) (n : ℕ) (at : Elements) (stripe : ℕ) → mirror_count profile n ≡ None → has_count profile n ≡ true
    → stripe < n → PartOn profile n at stripe
stripe_of-cover profile n at stripe none count within =
    let turn = turn-cover at.row stripe n within in
    let found = part_at profile n turn.0 none count turn.1 in
    let turned = stripe_of-turned profile n found.part at none count found.has in
    record { part = found.part; has = found.has; on = turned.0 ∙ ap (λ j. (at.row + j) % n) found.place ∙ turn.2 }

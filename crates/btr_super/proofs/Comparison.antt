-- Superblocks are compared by fields: that is, by all bytes that aren't excepted.
use Rattle.std.proofs.Common.{◌≡◌, ◌⊎◌, inl, inr, ◌∙◌, ℕ, zero, suc, ◌+◌, ◌-◌, ◌<◌, ◌≤◌, Bool, true, false, not, eqb, List, [], ◌∷◌, length, drop, get_or}
use Rattle.std.proofs.Common.{Option, Some, None, Result, Ok, Err, refl, sym, ap, subst, arith}
use Rattle.std.specs.Prelude.{if◌then◌else◌}
use Rattle.std.specs.Bool.{Decides, one_answer}
use Rattle.std.specs.List.{All}
use Rattle.std.specs.Str.{bytes_eq}
use Rattle.std.proofs.lemmas.Bool.Decides.{Decides-and}
use Rattle.std.proofs.lemmas.Grind.{same_number_lists}
use Rattle.std.proofs.lemmas.List.{length-take, length-drop, get_or-drop, get_or-take, get_or_past}
use Rattle.std.proofs.lemmas.Slice.Eq.{bytes_eq-Decides}
use Rattle.std.proofs.lemmas.Bool.{cases_lt}
use Rattle.byteorder.specs.Endian.{little_from}
use Rattle.btr_base.specs.Field.{number_at, bytes_at}
use Rattle.btr_base.specs.Sum.{kind_of_type, is_summed}
use Rattle.btr_base.specs.declared.kind.SumKind.{SumKind as Kind}
use Rattle.btr_super.specs.Compared.{numbers, is_same, have_same, are_same_copies, SameByBytes}
use Rattle.btr_super.specs.Super.{superblock, super_of, summed, magic}
use Rattle.btr_super.specs.declared.superblock.Super.{Super}
use Rattle.btr_super.specs.declared.fault.SuperFault.{SuperFault}
use Rattle.btr_super.specs.declared.fault.SuperFault.TheVariants.{Magic, Place, Sum}

-- every byte is below 256, also past the end
small_at : (xs : List ℕ) → All (λ b. b < 256) xs → (k : ℕ) → get_or xs k 0 < 256
small_at xs small k = by (cases_lt k (length xs))
  where
    -- the byte is one of the list's, or 0 past the end
    by : (k < length xs) ⊎ (length xs ≤ k) → get_or xs k 0 < 256
    by (inl within) = small k 0 within
    by (inr past) = omega (arith, get_or_past xs k 0 past)

-- the number that stands behind some bytes
from_drop : (xs : List ℕ) (off i n : ℕ) → little_from i n (drop off xs) ≡ little_from (off + i) n xs
from_drop xs off i zero = refl
from_drop xs off i (suc n) =
    let first : get_or (drop off xs) i 0 ≡ get_or xs (off + i) 0 = get_or-drop off xs i 0 in
    let rest : little_from (suc i) n (drop off xs) ≡ little_from (suc (off + i)) n xs =
    from_drop xs off (suc i) n ∙ ap (λ j. little_from j n xs) (omega arith) in
    omega (arith, first, rest)

-- the number at an offset is that of its bytes, counted from there
number_from : (xs : List ℕ) (n off : ℕ) → number_at n off xs ≡ little_from off n xs
number_from xs n off = from_drop xs off 0 n ∙ ap (λ j. little_from j n xs) (omega arith)

-- a byte of some bytes at an offset is the list's byte there
byte_in : (xs : List ℕ) (n off k : ℕ) → k < n → get_or (bytes_at n off xs) k 0 ≡ get_or xs (off + k) 0
byte_in xs n off k lt =
    let within : k < off + n - off = omega arith in
    get_or-take (off + n - off) (drop off xs) k 0 within ∙ get_or-drop off xs k 0

-- the bytes at an offset are as many as asked, where they lie in the list
size_in : (xs : List ℕ) (n off : ℕ) → off + n ≤ length xs → length (bytes_at n off xs) ≡ n
size_in xs n off fits = omega (arith, length-take (off + n - off) (drop off xs), length-drop off xs)

-- two copies, byte by byte
module _ (xs ys : List ℕ) where
  -- the same n bytes from an offset
  abbrev Same : ℕ → ℕ → Type 0
  Same n off = (k : ℕ) → off ≤ k → k < off + n → get_or xs k 0 ≡ get_or ys k 0

  -- copies that have the same bytes in two ranges side by side have the same in both together
  joined : (m n off : ℕ) → Same m off → Same n (off + m) → Same (m + n) off
  joined m n off front rest k le lt = by (cases_lt k (off + m))
    where
      -- the byte lies in the first range or in the second
      by : (k < off + m) ⊎ (off + m ≤ k) → get_or xs k 0 ≡ get_or ys k 0
      by (inl before) = front k le before
      by (inr behind) = rest k behind (omega arith)

  -- copies that have the same bytes in a range have the same in a part of it
  part : (n off m at : ℕ) → off ≤ at → at + m ≤ off + n → Same n off → Same m at
  part n off m at from to same k le lt = same k (omega arith) (omega arith)

  -- where the bytes at an offset are equal, the copies are the same there
  from_bytes : (n off : ℕ) → bytes_at n off xs ≡ bytes_at n off ys → Same n off
  from_bytes n off e k le lt =
      let back : off + (k - off) ≡ k = omega arith in
      ap (λ j. get_or xs j 0) (sym back) ∙ sym (byte_in xs n off (k - off) (omega arith)) ∙ ap (λ l. get_or l (k - off) 0) e
      ∙ byte_in ys n off (k - off) (omega arith) ∙ ap (λ j. get_or ys j 0) back

  -- where copies of one length are the same in a range, its bytes are equal
  to_bytes : length xs ≡ length ys → (n off : ℕ) → off + n ≤ length xs → Same n off → bytes_at n off xs ≡ bytes_at n off ys
  to_bytes long n off fits same =
      same_number_lists _ _ (size_in xs n off fits ∙ sym (size_in ys n off (omega (arith, long))))
      (λ k lt.
      let within : k < n = omega (arith, size_in xs n off fits) in
      byte_in xs n off k within ∙ same (off + k) (omega arith) (omega arith) ∙ sym (byte_in ys n off k within))

  -- where the copies are the same in a range, its number is equal
  to_number : (n off : ℕ) → Same n off → little_from off n xs ≡ little_from off n ys
  to_number zero off same = refl
  to_number (suc n) off same =
      let first : get_or xs off 0 ≡ get_or ys off 0 = same off (omega arith) (omega arith) in
      let rest : little_from (suc off) n xs ≡ little_from (suc off) n ys = to_number n (suc off) (λ k le lt. same k (omega arith) (omega arith)) in
      omega (arith, first, rest)

  module _ (small : (k : ℕ) → get_or xs k 0 < 256) (small' : (k : ℕ) → get_or ys k 0 < 256) where
    -- where the numbers of a range are equal, the copies are the same there
    from_digits : (n off : ℕ) → little_from off n xs ≡ little_from off n ys → Same n off
    from_digits zero off e k le lt = absurd (omega arith)
    from_digits (suc n) off e k le lt = by (cases_lt off k) (from_digits n (suc off) (omega (arith, small off, small' off, e)))
      where
        -- the byte is the first of the range or a later one
        by : (off < k) ⊎ (k ≤ off) → Same n (suc off) → get_or xs k 0 ≡ get_or ys k 0
        by (inl behind) rest = rest k (omega arith) (omega arith)
        by (inr at) rest =
            let here : off ≡ k = omega arith in
            let first : get_or xs off 0 ≡ get_or ys off 0 = omega (arith, small off, small' off, e) in
            subst (λ j. get_or xs j 0 ≡ get_or ys j 0) here first

    -- where the numbers at an offset are equal, the copies are the same there
    from_number : (n off : ℕ) → number_at n off xs ≡ number_at n off ys → Same n off
    from_number n off e = from_digits n off (sym (number_from xs n off) ∙ e ∙ number_from ys n off)

  -- where the copies are the same at an offset, the numbers there are equal
  number : (n off : ℕ) → Same n off → number_at n off xs ≡ number_at n off ys
  number n off same = number_from xs n off ∙ to_number n off same ∙ sym (number_from ys n off)

  -- where one byte is equal, the copies are the same in it
  one : (off : ℕ) → get_or xs off 0 ≡ get_or ys off 0 → Same 1 off
  one off e k le lt = let here : off ≡ k = omega arith in subst (λ j. get_or xs j 0 ≡ get_or ys j 0) here e

  -- all bytes that are compared
  abbrev SameParts : Type 0
  SameParts = Same 16 0x20 × Same 40 0x38 × Same 88 0x70 × Same 3797 0x12b

  -- the fields that are compared
  abbrev SameFields : Super → Super → Type 0
  SameFields a b =
      (numbers a ≡ numbers b) × (a.fsid ≡ b.fsid) × (a.label ≡ b.label) × (a.metadata_uuid ≡ b.metadata_uuid) × (a.reserved ≡ b.reserved)
      × (a.array ≡ b.array) × (a.backups ≡ b.backups)

  -- superblocks are the same just where all their compared fields are equal
  fields_decide : (a b : Super) → Decides (is_same a b) (SameFields a b)
  fields_decide a b =
      let d = Decides-and _ _ (Decides-and _ _ (Decides-and _ _ (Decides-and _ _ (Decides-and _ _ (Decides-and _ _
      (bytes_eq-Decides (numbers a) (numbers b)) (bytes_eq-Decides a.fsid b.fsid)) (bytes_eq-Decides a.label b.label))
      (bytes_eq-Decides a.metadata_uuid b.metadata_uuid))
      (bytes_eq-Decides a.reserved b.reserved)) (bytes_eq-Decides a.array b.array)) (bytes_eq-Decides a.backups b.backups) in (
        λ e. let p = d.0 e in (p.0.0.0.0.0.0, p.0.0.0.0.0.1, p.0.0.0.0.1, p.0.0.0.1, p.0.0.1, p.0.1, p.1),
        λ f. d.1 ((((((f.0, f.1), f.2), f.3), f.4), f.5), f.6),
      )

  -- the n bytes from an offset are equal
  abbrev SameBytes : ℕ → ℕ → Type 0
  SameBytes n off = bytes_at n off xs ≡ bytes_at n off ys

  -- copies are the same just where the bytes of all four compared ranges are equal
  bytes_decide : Decides (are_same_copies xs ys) (SameBytes 16 0x20 × SameBytes 40 0x38 × SameBytes 88 0x70 × SameBytes 3797 0x12b)
  bytes_decide =
      let of : (n off : ℕ) → Decides (have_same n off xs ys) (SameBytes n off) = λ n off. bytes_eq-Decides (bytes_at n off xs) (bytes_at n off ys) in
      let d = Decides-and _ _ (Decides-and _ _ (Decides-and _ _ (of 16 0x20) (of 40 0x38)) (of 88 0x70)) (of 3797 0x12b) in
      (λ e. let p = d.0 e in (p.0.0.0, p.0.0.1, p.0.1, p.1), λ f. d.1 (((f.0, f.1), f.2), f.3))

  module _ (long : length xs ≡ 4096) (long' : length ys ≡ 4096) where
    -- both copies have 4096 bytes
    whole : length xs ≡ length ys
    whole = long ∙ sym long'

    -- where the copies are the same in a range of their 4096 bytes, its bytes are equal
    text : (n off : ℕ) → off + n ≤ 4096 → Same n off → bytes_at n off xs ≡ bytes_at n off ys
    text n off fits = to_bytes whole n off (omega (arith, long))

    -- where all compared bytes are the same, so are the compared fields
    fields_from : SameParts → SameFields (super_of xs) (super_of ys)
    unfolding super_of
    fields_from s = (
      (λ i.
          number 8 0x38 (part 40 0x38 8 0x38 (omega arith) (omega arith) s.1) i
          ∷ number 8 0x48 (part 40 0x38 8 0x48 (omega arith) (omega arith) s.1) i
          ∷ number 8 0x50 (part 40 0x38 8 0x50 (omega arith) (omega arith) s.1) i
          ∷ number 8 0x58 (part 40 0x38 8 0x58 (omega arith) (omega arith) s.1) i
          ∷ number 8 0x70 (part 88 0x70 8 0x70 (omega arith) (omega arith) s.2) i
          ∷ number 8 0x78 (part 88 0x70 8 0x78 (omega arith) (omega arith) s.2) i
          ∷ number 8 0x80 (part 88 0x70 8 0x80 (omega arith) (omega arith) s.2) i
          ∷ number 8 0x88 (part 88 0x70 8 0x88 (omega arith) (omega arith) s.2) i
          ∷ number 4 0x90 (part 88 0x70 4 0x90 (omega arith) (omega arith) s.2) i
          ∷ number 4 0x94 (part 88 0x70 4 0x94 (omega arith) (omega arith) s.2) i
          ∷ number 4 0x98 (part 88 0x70 4 0x98 (omega arith) (omega arith) s.2) i
          ∷ number 4 0x9c (part 88 0x70 4 0x9c (omega arith) (omega arith) s.2) i
          ∷ number 4 0xa0 (part 88 0x70 4 0xa0 (omega arith) (omega arith) s.2) i
          ∷ number 8 0xa4 (part 88 0x70 8 0xa4 (omega arith) (omega arith) s.2) i
          ∷ number 8 0xac (part 88 0x70 8 0xac (omega arith) (omega arith) s.2) i
          ∷ number 8 0xb4 (part 88 0x70 8 0xb4 (omega arith) (omega arith) s.2) i
          ∷ number 8 0xbc (part 88 0x70 8 0xbc (omega arith) (omega arith) s.2) i
          ∷ number 2 0xc4 (part 88 0x70 2 0xc4 (omega arith) (omega arith) s.2) i
          ∷ s.2 0xc6 (omega arith) (omega arith) i
          ∷ s.2 0xc7 (omega arith) (omega arith) i
          ∷ number 8 0x22b (part 3797 0x12b 8 0x22b (omega arith) (omega arith) s.3) i
          ∷ number 8 0x233 (part 3797 0x12b 8 0x233 (omega arith) (omega arith) s.3) i
          ∷ []),
      text 16 0x20 (omega arith) s.0,
      text 256 0x12b (omega arith) (part 3797 0x12b 256 0x12b (omega arith) (omega arith) s.3),
      text 16 0x23b (omega arith) (part 3797 0x12b 16 0x23b (omega arith) (omega arith) s.3),
      text 224 0x24b (omega arith) (part 3797 0x12b 224 0x24b (omega arith) (omega arith) s.3),
      text 2048 0x32b (omega arith) (part 3797 0x12b 2048 0x32b (omega arith) (omega arith) s.3),
      text 1237 0xb2b (omega arith) (part 3797 0x12b 1237 0xb2b (omega arith) (omega arith) s.3),
    )

    module _ (small : (k : ℕ) → get_or xs k 0 < 256) (small' : (k : ℕ) → get_or ys k 0 < 256) (magical : bytes_at 8 0x40 xs ≡ bytes_at 8 0x40 ys) where
      -- where all compared fields are equal and both have the magic, all compared bytes are the same
      parts_from : SameFields (super_of xs) (super_of ys) → SameParts
      unfolding super_of
      parts_from f =
          let of : (n off : ℕ) → number_at n off xs ≡ number_at n off ys → Same n off = from_number small small' in
          let nth : (i : ℕ) → get_or (numbers (super_of xs)) i 0 ≡ get_or (numbers (super_of ys)) i 0 = λ i. ap (λ l. get_or l i 0) f.0 in (
            from_bytes 16 0x20 f.1,
            joined 8 32 0x38 (of 8 0x38 (nth 0)) (joined 8 24 0x40 (from_bytes 8 0x40 magical)
                (joined 8 16 0x48 (of 8 0x48 (nth 1)) (joined 8 8 0x50 (of 8 0x50 (nth 2)) (of 8 0x58 (nth 3))))),
            joined 8 80 0x70 (of 8 0x70 (nth 4)) (joined 8 72 0x78 (of 8 0x78 (nth 5)) (joined 8 64 0x80 (of 8 0x80 (nth 6))
                (joined 8 56 0x88 (of 8 0x88 (nth 7)) (joined 4 52 0x90 (of 4 0x90 (nth 8)) (joined 4 48 0x94 (of 4 0x94 (nth 9))
                (joined 4 44 0x98 (of 4 0x98 (nth 10)) (joined 4 40 0x9c (of 4 0x9c (nth 11)) (joined 4 36 0xa0 (of 4 0xa0 (nth 12))
                (joined 8 28 0xa4 (of 8 0xa4 (nth 13)) (joined 8 20 0xac (of 8 0xac (nth 14)) (joined 8 12 0xb4 (of 8 0xb4 (nth 15))
                (joined 8 4 0xbc (of 8 0xbc (nth 16)) (joined 2 2 0xc4 (of 2 0xc4 (nth 17))
                (joined 1 1 0xc6 (one 0xc6 (nth 18)) (one 0xc7 (nth 19)))))))))))))))),
            joined 256 3541 0x12b (from_bytes 256 0x12b f.2) (joined 8 3533 0x22b (of 8 0x22b (nth 20)) (joined 8 3525 0x233 (of 8 0x233 (nth 21))
                (joined 16 3509 0x23b (from_bytes 16 0x23b f.3) (joined 224 3285 0x24b (from_bytes 224 0x24b f.4)
                (joined 2048 1237 0x32b (from_bytes 2048 0x32b f.5) (from_bytes 1237 0xb2b f.6)))))),
          )

      -- superblocks of copies with the magic are the same just where the copies are
      same_as : is_same (super_of xs) (super_of ys) ≡ are_same_copies xs ys
      same_as =
          let fields = fields_decide (super_of xs) (super_of ys) in
          one_answer {P = SameParts} _ _ (λ e. parts_from (fields.0 e), λ s. fields.1 (fields_from s)) (
            λ e. let b = bytes_decide.0 e in (from_bytes 16 0x20 b.0, from_bytes 40 0x38 b.1, from_bytes 88 0x70 b.2, from_bytes 3797 0x12b b.3),
            λ s. bytes_decide.1
                (text 16 0x20 (omega arith) s.0, text 40 0x38 (omega arith) s.1, text 88 0x70 (omega arith) s.2, text 3797 0x12b (omega arith) s.3),
          )

-- what a valid copy has
module _ (bytes : List ℕ) (place : ℕ) (s : Super) where
  -- the copy has the magic, and the superblock is its fields
  abbrev Read : Type 0
  Read = (bytes_at 8 0x40 bytes ≡ magic) × (s ≡ super_of bytes)

  -- a superblock as what a valid copy is read as
  abbrev the_ok : Super → Result Super SuperFault
  the_ok x = Ok x

  -- two superblocks that one copy is read as are one
  the_super : (a b : Super) → the_ok a ≡ the_ok b → a ≡ b
  the_super a b e = cc

  -- a valid copy has the magic, and its superblock is its fields
  valid_read : superblock bytes place ≡ Ok s → Read
  unfolding superblock
  valid_read e = by_magic (bytes_eq (bytes_at 8 0x40 bytes) magic) refl e
    where
      -- what is valid has the sum that it should
      by_sum : bytes_at 8 0x40 bytes ≡ magic → (fits : Bool) → (if fits then Ok (super_of bytes) else Err Sum) ≡ Ok s → Read
      by_sum magical true e = (magical, sym (the_super _ _ e))
      by_sum magical false e = absurd (cc e)

      -- what is valid has a checksum type that is supported
      by_kind : bytes_at 8 0x40 bytes ≡ magic → (kind : Option Kind) → summed kind bytes ≡ Ok s → Read
      by_kind magical None e = absurd (cc e)
      by_kind magical (Some kind) e = by_sum magical (is_summed kind bytes) e

      -- what is valid is at its place
      by_place : bytes_at 8 0x40 bytes ≡ magic → (at : Bool)
          → (if not at then Err Place else summed (kind_of_type (number_at 2 0xc4 bytes)) bytes) ≡ Ok s → Read
      by_place magical true e = by_kind magical (kind_of_type (number_at 2 0xc4 bytes)) e
      by_place magical false e = absurd (cc e)

      -- what is valid has the magic
      by_magic : (m : Bool) → bytes_eq (bytes_at 8 0x40 bytes) magic ≡ m
          → (if not m then Err Magic else if not (eqb (number_at 8 0x30 bytes) place) then Err Place
          else summed (kind_of_type (number_at 2 0xc4 bytes)) bytes) ≡ Ok s → Read
      by_magic true is e = by_place ((bytes_eq-Decides _ _).0 is) (eqb (number_at 8 0x30 bytes) place) e
      by_magic false is e = absurd (cc e)

-- superblocks are the same exactly where the compared bytes of their copies are
pub same_by_bytes : SameByBytes
same_by_bytes xs ys a b of_a of_b =
    let x = valid_read xs of_a.place a of_a.valid in
    let y = valid_read ys of_b.place b of_b.valid in
    ap (λ (s : Super). is_same s b) x.1 ∙ ap (is_same (super_of xs)) y.1
    ∙ same_as xs ys of_a.whole of_b.whole (small_at xs of_a.small) (small_at ys of_b.small) (x.0 ∙ sym y.0)

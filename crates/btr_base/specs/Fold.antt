-- How the register of a long piece is computed: most of its bytes are dropped, and sent ahead.
--
-- x^561 + x^300 + x^214 + x^198 + x^154 + 1 is a multiple of the generator, and so is the same polynomial in
-- x^8. So a byte may be dropped where it is added to the bytes that stand 261, 347, 363, 407 and 561 places
-- behind it. By x^176 + x^144 + x^46 + x^26 + x^18 + x^13 + x^4 + 1, another multiple, those are 32, 130,
-- 150, 158, 163, 172 and 176 places behind it.
use Rattle.std.specs.Prelude.{ℕ, zero, suc, ◌+◌, List, [], ◌∷◌, length, slice_index, bit_xor}
use Rattle.btr_base.specs.Crc.{shifted_by}

-- the register after n numbers of some bits each, from a register
unfoldable pub after : ℕ → ℕ → ℕ → (ℕ → ℕ) → ℕ
after size reg zero number = reg
after size reg (suc n) number = shifted_by size (bit_xor (after size reg n number) (number n))

-- the exponents of that multiple, but for the highest
abbrev pub far : List ℕ
far = 0 ∷ 154 ∷ 198 ∷ 214 ∷ 300 ∷ []

-- and those of another one, x^176 + x^144 + x^46 + x^26 + x^18 + x^13 + x^4 + 1
abbrev pub near : List ℕ
near = 0 ∷ 4 ∷ 13 ∷ 18 ∷ 26 ∷ 46 ∷ 144 ∷ []

-- the sum of the numbers that stand some places behind a place
unfoldable pub gathered : List ℕ → (ℕ → ℕ) → ℕ → ℕ
gathered [] number j = 0
gathered (e ∷ es) number j = bit_xor (number (j + e)) (gathered es number j)

-- what was sent to a place by the multiple with these exponents, where the list has the dropped bytes, from as many
-- places before the place 0 on as its highest exponent says
abbrev pub sent : List ℕ → List ℕ → ℕ → ℕ
sent es dropped j = gathered es (slice_index dropped) j

-- the bytes of a piece, with what was sent to them from afar
abbrev pub received : List ℕ → List ℕ → ℕ → ℕ
received dropped bytes j = bit_xor (slice_index bytes j) (sent far dropped j)

-- the register after a piece, where these bytes were dropped before it
unfoldable pub register_behind : List ℕ → List ℕ → ℕ
register_behind dropped bytes = after 8 0 (length bytes) (received dropped bytes)

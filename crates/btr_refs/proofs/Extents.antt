-- Extents by their addresses.
use Rattle.std.proofs.Common.{◌≡◌, ℕ, suc, zero, ◌+◌, ◌-◌, ◌<◌, ◌≤◌, ◌==◌, Bool, true, false, cond, ◌||◌, List, [], ◌∷◌, ◌++◌, length, take, drop, get_or}
use Rattle.std.proofs.Common.{flat_map, if◌then◌else◌, refl, sym, ap, ◌∙◌, arith, eqb, ltb, leb, ltb-true, leb-false, ne_eqb}
use Rattle.std.proofs.lemmas.Bool.Decides.{nat_tests}
use Rattle.std.proofs.lemmas.List.{append-nil, get_or-drop, get_or-take, length-drop, length-take-le, take-append-drop, take_all}
use Rattle.std.proofs.lemmas.List.Elements.{filter-append}
use Rattle.std.specs.List.{list_any}
use Rattle.std.specs.List.Sorted.{IsPartitionPoint}
use Rattle.btr_findings.specs.declared.extent.Extent.{Extent}
use Rattle.btr_findings.specs.declared.finding.Finding.{Finding}
use Rattle.btr_refs.specs.Misusing.{extents_at, misused, misused_at}
use Rattle.btr_refs.specs.declared.used.Used.{Used}

-- the address of an extent
abbrev pub addr_in : Extent → ℕ
addr_in extent = extent.addr

-- an extent is at an address
abbrev is_at : ℕ → Extent → Bool
is_at addr extent = extent.addr == addr

-- where no extent has an address, none is at it
none_at : (addr : ℕ) (extents : List Extent) → ((k : ℕ) (d : Extent) → k < length extents → (get_or extents k d).addr ≡ addr → ⊥) → extents_at extents addr ≡ []
none_at addr [] apart = refl
none_at addr (one ∷ more) apart =
    ap (λ b. cond b (one ∷ extents_at more addr) (extents_at more addr)) (ne_eqb one.addr addr (apart zero one (omega arith)))
    ∙ none_at addr more (λ k d lt. apart (suc k) d (omega (arith, lt)))

-- those at an address stand before a place or behind it
parted_at : (addr n : ℕ) (extents : List Extent) → extents_at extents addr ≡ extents_at (take n extents) addr ++ extents_at (drop n extents) addr
parted_at addr n extents =
    ap (λ l. extents_at l addr) (sym (take-append-drop n extents)) ∙ filter-append (is_at addr) (take n extents) (drop n extents)

-- and all of them stand between two places
module _ (addr : ℕ) (extents : List Extent) (first count : ℕ) where
  -- the extents from the first place on
  abbrev pub from_first : List Extent
  from_first = take (length extents - first) (drop first extents)

  -- from the first extent that isn't below an address up to the first above it stand all that are at it
  pub all_within : first ≤ length extents
      → IsPartitionPoint (λ (one : Extent). ltb (addr_in one) addr ≡ true) (λ (one : Extent). ltb (addr_in one) addr ≡ false) extents first
      → count ≤ length from_first
      → IsPartitionPoint (λ (one : Extent). leb (addr_in one) addr ≡ true) (λ (one : Extent). leb (addr_in one) addr ≡ false) from_first count
      → extents_at (take count from_first) addr ≡ extents_at extents addr
  all_within in_extents low in_rest high =
      let begin : extents_at (take first extents) addr ≡ [] = none_at addr (take first extents) (λ k d lt is.
      let inside : k < first = omega (arith, lt, length-take-le first extents in_extents) in
      let less = ltb-true (addr_in (get_or extents k d)) addr (low.0 k d (omega arith) inside) in
      omega (arith, less, is, ap addr_in (get_or-take first extents k d inside))) in
      let end : extents_at (drop count from_first) addr ≡ [] = none_at addr (drop count from_first) (λ k d lt is.
      let above = high.1 (count + k) d (omega arith) (omega (arith, lt, length-drop count from_first)) in
      let more = leb-false (addr_in (get_or from_first (count + k) d)) addr above in
      omega (arith, more, is, ap addr_in (get_or-drop count from_first k d))) in
      let same : from_first ≡ drop first extents = take_all (length extents - first) (drop first extents) (omega (arith, length-drop first extents)) in
      sym (append-nil (extents_at (take count from_first) addr)) ∙ ap (λ l. extents_at (take count from_first) addr ++ l) (sym end)
      ∙ sym (parted_at addr count from_first) ∙ ap (λ l. extents_at l addr) same
      ∙ ap (λ l. l ++ extents_at (drop first extents) addr) (sym begin) ∙ sym (parted_at addr first extents)

-- one of those at an address is there where one of all is
any_at : (addr : ℕ) (extents : List Extent) → list_any (is_at addr) (extents_at extents addr) ≡ list_any (is_at addr) extents
any_at addr [] = refl
any_at addr (one ∷ more) = by (eqb one.addr addr) refl (any_at addr more)
  where
    by : (b : Bool) → eqb one.addr addr ≡ b → list_any (is_at addr) (extents_at more addr) ≡ list_any (is_at addr) more
        → list_any (is_at addr) (cond b (one ∷ extents_at more addr) (extents_at more addr)) ≡ (b || list_any (is_at addr) more)
    by true is rest = ap (λ b. b || list_any (is_at addr) (extents_at more addr)) is
    by false is rest = rest

-- one is at an address alike among lists that have the same ones there
pub any_there : (addr : ℕ) (some all : List Extent) → extents_at some addr ≡ extents_at all addr → list_any (is_at addr) some ≡ list_any (is_at addr) all
any_there addr some all same = sym (any_at addr some) ∙ ap (list_any (is_at addr)) same ∙ any_at addr all

swapped : (x y : ℕ) → eqb x y ≡ eqb y x
swapped x y = grind (arith, nat_tests)

module _ (nodesize addr : ℕ) (what : Used) where
  -- what is wrong with some extents by a use of what is at the address
  abbrev pub wrong : List Extent → List Finding
  wrong extents = flat_map (misused_at nodesize addr what) extents

  -- by a use of what is at an address, only extents there are wrong
  wrong_at : (extents : List Extent) → wrong extents ≡ wrong (extents_at extents addr)
  wrong_at [] = refl
  wrong_at (one ∷ more) = by (eqb one.addr addr) refl (wrong_at more)
    where
      by : (b : Bool) → eqb one.addr addr ≡ b → wrong more ≡ wrong (extents_at more addr)
          → misused_at nodesize addr what one ++ wrong more ≡ wrong (cond b (one ∷ extents_at more addr) (extents_at more addr))
      by true is rest = ap (λ l. misused_at nodesize addr what one ++ l) rest
      by false is rest = ap (λ b. (if b then misused nodesize one what else []) ++ wrong more) (swapped addr one.addr ∙ is) ∙ rest

  -- the same is wrong by a use of what is at an address
  pub wrong_there : (some all : List Extent) → extents_at some addr ≡ extents_at all addr → wrong some ≡ wrong all
  wrong_there some all same = wrong_at some ∙ ap wrong same ∙ sym (wrong_at all)

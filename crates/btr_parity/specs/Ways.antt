-- The ways to come by a slice of a full stripe, and what each of them reads.
use Rattle.std.specs.Prelude.{◌≡◌, ◌≢◌, ℕ, ◌<◌, ◌≤◌, List, [], All, Contains, length, slice_index_or}
use Rattle.btr_parity.specs.Slices.{IsSlice, parity_p, parity_q}
use Rattle.btr_parity.specs.Solutions.{IsTheOne, FitsP, FitsQ, FitsBoth}

-- an element of a full stripe: the slice of an index, P or Q
pub data Element : Type 0 where
  Slice : ℕ → Element
  ParityP : Element
  ParityQ : Element

-- a way to come by a slice: as it stands, by P, by Q, or by both, without the slice of another index
pub data Way : Type 0 where
  AsItStands : Way
  ByP : Way
  ByQ : Way
  ByBoth : ℕ → Way

-- a way to come by slice k of n, where there is this much parity: 1 with P, 2 with P and Q
abbrev pub IsWay : ℕ → ℕ → ℕ → Way → Type 0
IsWay n k parity AsItStands = Unit {0}
IsWay n k parity ByP = 1 ≤ parity
IsWay n k parity ByQ = 2 ≤ parity
IsWay n k parity (ByBoth j) = (2 ≤ parity) × (j < n) × (j ≢ k)

-- to come by slice k of n in this way, the element is read
abbrev pub UsesElement : ℕ → ℕ → Way → Element → Type 0
UsesElement n k AsItStands (Slice i) = i ≡ k
UsesElement n k AsItStands ParityP = ⊥
UsesElement n k AsItStands ParityQ = ⊥
UsesElement n k ByP (Slice i) = (i < n) × (i ≢ k)
UsesElement n k ByP ParityP = Unit {0}
UsesElement n k ByP ParityQ = ⊥
UsesElement n k ByQ (Slice i) = (i < n) × (i ≢ k)
UsesElement n k ByQ ParityP = ⊥
UsesElement n k ByQ ParityQ = Unit {0}
UsesElement n k (ByBoth j) (Slice i) = (i < n) × (i ≢ k) × (i ≢ j)
UsesElement n k (ByBoth j) ParityP = Unit {0}
UsesElement n k (ByBoth j) ParityQ = Unit {0}

-- the bytes of a full stripe
pub record Stripe : Type 0 where
  pub slices : List (List ℕ)
  pub p : List ℕ
  pub q : List ℕ

-- the bytes of an element
abbrev pub bytes_of : Stripe → Element → List ℕ
bytes_of stripe (Slice i) = slice_index_or stripe.slices i []
bytes_of stripe ParityP = stripe.p
bytes_of stripe ParityQ = stripe.q

-- n slices of one size, with their P and their Q
pub record IsConsistent (size n : ℕ) (stripe : Stripe) : Type 0 where
  pub count : length stripe.slices ≡ n
  pub sizes : All (IsSlice size) stripe.slices
  pub p : parity_p size stripe.slices ≡ stripe.p
  pub q : parity_q size stripe.slices ≡ stripe.q

-- X is what the way gives for slice k of this stripe
abbrev pub Gives : ℕ → Stripe → ℕ → Way → List ℕ → Type 0
Gives size stripe k AsItStands X = slice_index_or stripe.slices k [] ≡ X
Gives size stripe k ByP X = IsTheOne size (FitsP size stripe.slices stripe.p k) X
Gives size stripe k ByQ X = IsTheOne size (FitsQ size stripe.slices stripe.q k) X
Gives size stripe k (ByBoth j) X = IsTheOne size (FitsBoth size stripe.slices stripe.p stripe.q k j) X

-- where at most as many elements are wrong as there is parity, some way reads none of them
abbrev pub SomeWayReadsNoneWrong : Type 0
SomeWayReadsNoneWrong = (n k parity : ℕ) (wrong : List Element)
    → k < n → parity ≤ 2 → length wrong ≤ parity
    → (way : Way) × IsWay n k parity way × All (λ element. ¬ (UsesElement n k way element)) wrong

-- a way that reads right elements gives the right slice
abbrev pub RightElementsGiveRightSlice : Type 0
RightElementsGiveRightSlice = (size n k parity : ℕ) (held right : Stripe) (way : Way)
    → k < n → n ≤ 63 → length held.slices ≡ n → IsConsistent size n right → IsWay n k parity way
    → ((element : Element) → UsesElement n k way element → bytes_of held element ≡ bytes_of right element)
    → Gives size held k way (bytes_of right (Slice k))

-- so where at most as many elements are wrong as there is parity, some way gives the right slice
abbrev pub SomeWayGivesRightSlice : Type 0
SomeWayGivesRightSlice = (size n k parity : ℕ) (held right : Stripe) (wrong : List Element)
    → k < n → n ≤ 63 → parity ≤ 2 → length wrong ≤ parity → length held.slices ≡ n → IsConsistent size n right
    → ((element : Element) → ¬ (Contains wrong element) → bytes_of held element ≡ bytes_of right element)
    → (way : Way) × IsWay n k parity way × Gives size held k way (bytes_of right (Slice k))

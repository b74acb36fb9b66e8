-- Slices that are added, and lost ones that are solved for, in slots.
use Rattle.std.specs.Prelude.{◌≡◌, ℕ, ◌+◌, List, length, take, slice_range}
use Rattle.btr_parity.specs.Slices.{plus}
use Rattle.btr_parity.specs.Solutions.{IsTheOne, WeighsWith}
use Rattle.btr_pool.specs.Slots.{Slots, bytes_at, with_bytes}
use Rattle.btr_rack.specs.Rack.{pasted}
use Rattle.btr_read.specs.declared.parity.Parity.{Parity}
use Rattle.btr_read.specs.declared.parity.Parity.TheVariants as parity
use Rattle.btr_read.specs.Gathering.{added}

-- the bytes in the front of a slot
abbrev pub front_of : Slots → ℕ → ℕ → List ℕ
front_of pool k len = take len (bytes_at pool k)

-- the piece of a slot from a place on
abbrev pub piece_of : Slots → ℕ → ℕ → ℕ → List ℕ
piece_of pool k start len = slice_range (bytes_at pool k) start (start + len)

-- the pool with a piece written into a slot from a place on
abbrev pub with_piece : Slots → ℕ → ℕ → List ℕ → Slots
with_piece pool k start piece = with_bytes pool k (pasted (bytes_at pool k) start piece)

-- a buffer with a piece of a slice added to what it has of a parity from a place on
abbrev pub with_added : Parity → ℕ → List ℕ → ℕ → List ℕ → List ℕ
with_added p i buffer start piece = pasted buffer start (added p i (slice_range buffer start (start + length piece)) piece)

-- the pool with the piece of a slot added to what another has of a parity
abbrev pub with_added_piece : Parity → ℕ → Slots → ℕ → ℕ → ℕ → ℕ → Slots
with_added_piece p i pool sum slice start len =
    with_piece pool sum start (added p i (piece_of pool sum start len) (piece_of pool slice start len))

-- the front of a slice was added to what a slot has of a parity
abbrev pub AddsFront : Parity → ℕ → ℕ → Slots → Slots → ℕ → ℕ → Type 0
AddsFront p i len old new sum slice = front_of new sum len ≡ added p i (front_of old sum len) (front_of old slice len)

-- a slice was added to Q in a slot, and added once more
abbrev pub AddsTwice : ℕ → ℕ → Slots → Slots → ℕ → ℕ → Type 0
AddsTwice i len old new q slice =
    front_of new q len ≡ added parity.Q i (added parity.Q i (front_of old q len) (front_of old slice len)) (front_of old slice len)

-- the slot of P has the first of two slices, x and y, of what P and Q left of them in two slots
abbrev pub SolvesFront : ℕ → ℕ → ℕ → Slots → Slots → ℕ → ℕ → Type 0
SolvesFront x y len old new p q =
    IsTheOne len (WeighsWith (front_of old p len) (front_of old q len) x y) (front_of new p len)

-- a slot has the first of two slices, x and y, of what P and Q leave of it in
-- two slots, and of the second one in a third
abbrev pub SolvesWith : ℕ → ℕ → ℕ → Slots → Slots → ℕ → ℕ → ℕ → ℕ → Type 0
SolvesWith x y len old new k p q slice =
    let other = front_of old slice len in
    IsTheOne len (WeighsWith (plus (front_of old p len) other) (added parity.Q y (front_of old q len) other) x y) (front_of new k len)

-- the same of the piece from a place on, in the slots of P and Q
abbrev pub SolvesPiece : ℕ → ℕ → Slots → Slots → ℕ → ℕ → ℕ → ℕ → Type 0
SolvesPiece x y old new p q start len =
    (X : List ℕ) × IsTheOne len (WeighsWith (piece_of old p start len) (piece_of old q start len) x y) X
    × (new ≡ with_piece old p start X)

-- and of the range of P from a place on, where that of Q is given
abbrev pub SolvesRange : ℕ → ℕ → List ℕ → List ℕ → ℕ → List ℕ → Type 0
SolvesRange x y old new start q =
    (X : List ℕ) × IsTheOne (length q) (WeighsWith (slice_range old start (start + length q)) q x y) X × (new ≡ pasted old start X)

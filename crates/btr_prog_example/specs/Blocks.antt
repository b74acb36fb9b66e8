-- What blocks hold, and what a read of one answers.
use Rattle.std.specs.Prelude.{◌≡◌, ℕ, List, Result, Ok, Err}
use Rattle.std.specs.declared.vec.Vec.{Vec}
use Rattle.btr_prog.specs.Calls.{Sure, First, Any}
use Rattle.btr_prog_example.specs.declared.blocks.Want.{Want}
use Rattle.btr_prog_example.specs.declared.blocks.Want.TheVariants.{Catalogue, Page}
use Rattle.btr_prog_example.specs.declared.blocks.Stop.{Stop}
use Rattle.btr_prog_example.specs.declared.blocks.Stop.TheVariants.{Lost, Unread, Sink, Memory}

-- for the number of a copy and a want, the bytes, or the address at which there are none
abbrev pub Held : Type 0
Held = ℕ → Want → Result (List ℕ) ℕ

-- the copies that may be read: the first alone, or any
abbrev pub copies : Sure → Held → ℕ → Want → Result (List ℕ) ℕ
copies First held n w = held 0 w
copies Any held n w = held n w

-- where there is a checksum, all copies are the same
abbrev pub Agreed : Held → Type 0
Agreed held = (n a : ℕ) → held n (Catalogue a) ≡ held 0 (Catalogue a)

-- the address of a want
abbrev pub addr_of : Want → ℕ
addr_of (Catalogue a) = a
addr_of (Page a) = a

-- the want of which it is told that it could not be read
abbrev pub IsTold : Want → Want → Type 0
IsTold told w = told ≡ w

-- why there are no bytes: they are lost, or the read failed, or memory ran out
abbrev pub Misses : (ℕ → Want → Result (List ℕ) ℕ) → Want → Stop → Type 0
Misses Bs w (Lost a) = (n : ℕ) × (Bs n w ≡ Err a)
Misses Bs w (Unread told) = IsTold told w
Misses Bs w Sink = ⊥
Misses Bs w Memory = Unit {0}

-- the answer is one of the copies, or there is a reason for none
abbrev pub ReadsBlock : {Z : Type 0} → (ℕ → Want → Result (List ℕ) ℕ) → Want → Result (Vec ℕ Z) Stop → Type 0
ReadsBlock Bs w (Ok v) = (n : ℕ) × (Bs n w ≡ Ok v.items)
ReadsBlock Bs w (Err stop) = Misses Bs w stop

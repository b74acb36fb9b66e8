-- What the forms of items have in common.
use Rattle.std.specs.Prelude.{ℕ, ◌+◌, ◌≤◌, Bool, true, false, ◌&&◌, nat_le, List, length, Result, Ok, Err}
use Rattle.btr_items.specs.declared.fault.ItemFault.{ItemFault}

-- a name has 1 to 255 bytes
abbrev pub is_name : ℕ → Bool
is_name len = nat_le 1 len && nat_le len 255

-- a body has a name of a length at a place
abbrev pub HasName : List ℕ → ℕ → ℕ → Type 0
HasName body at len = at + len ≤ length body

-- the fields, where the rules hold
abbrev pub fields_if : {T : Type 0} → Bool → T → Result T ItemFault
fields_if true fields = Ok fields
fields_if false fields = Err (record {})

-- what comes of the fields, or the same fault
abbrev pub map_ok : {T U : Type 0} → (T → U) → Result T ItemFault → Result U ItemFault
map_ok f (Ok fields) = Ok (f fields)
map_ok f (Err fault) = Err fault

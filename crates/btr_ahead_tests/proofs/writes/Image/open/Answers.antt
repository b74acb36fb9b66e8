use Rattle.std.proofs.Common.{◌≡◌, List, [], ◌∷◌, ◌++◌, length, ap, arith}
use Rattle.btr_rack.specs.Rack.{Slot, opened_to_write}
use Rattle.btr_ahead_tests.proofs.writes.Image.open.Goals as goal

-- what is appended to no slots is in the first one
in_first : (old new : List Slot) (slot : Slot) → length old ≡ 0 → new ≡ old ++ slot ∷ [] → opened_to_write new 0 ≡ slot.write
in_first [] new slot none e = ap (λ slots. opened_to_write slots 0) e
in_first (other ∷ old) new slot none e = cc none

pub invariant_of-result : goal.invariant_of-result
invariant_of-result g c =
    let slots = c.in_ok-slot.ensures.slots in
    in_first _ _ _ (omega (arith, slots.0)) slots.1.2

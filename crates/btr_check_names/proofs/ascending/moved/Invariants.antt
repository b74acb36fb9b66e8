use Rattle.std.proofs.Common.{◌≡◌, ◌*◌, ◌-◌, ◌≤◌, ◌++◌, All, length, map, take, drop}
use Rattle.btr_check_names.specs.Slots.{Slot, IsInside, listed}
use Rattle.btr_check_names.proofs.ascending.moved.Given as goal

-- the names of the slots so far are moved, and the others lie as they did
abbrev pub invariant-loop-next : goal.invariant-loop-next
invariant-loop-next l = record {
  claims : map (λ (slot : Slot). slot.claim) l.slots ≡ map (λ (slot : Slot). slot.claim) l.fn.slots;
  rest : drop l.next l.slots ≡ drop l.next l.fn.slots;
  same : listed l.kept.items (take l.next l.slots) ++ listed l.names (drop l.next l.fn.slots) ≡ listed l.names l.fn.slots;
  inside : All (IsInside l.kept.items) (take l.next l.slots);
  short : length l.kept.items ≤ 255 * l.next;
  within : l.next ≤ length l.slots;
}

abbrev pub decreases-loop-next : goal.decreases-loop-next
decreases-loop-next l = length l.fn.slots - l.next

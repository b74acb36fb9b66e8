-- Whether a rack in memory is sure, and what is seen of it after its calls.
use Rattle.std.proofs.Common.{◌≡◌, ◌⊎◌, ◌&&◌, ◌||◌, ◌-◌, ◌^◌, nat_lt, Bool, true, false, List, [], ◌∷◌, ◌++◌, Some, inl, inr, refl, sym, ap, ◌∙◌}
use Rattle.std.specs.List.{list_any}
use Rattle.btr_rack.specs.declared.place.Place.{Place}
use Rattle.btr_rack.specs.Rack.{Unsyncs}
use Rattle.btr_rack.specs.Memory.{MemoryRack, Failures, NamedRange, slots_of, held_of, shelf_of, seen_of, is_sure, fails_nothing, is_empty, call_strikes}
use Rattle.btr_rack.specs.Memory.{write_strikes}

-- a list in which something was found is not empty
some_listed : {X : Type 0} (p : X → Bool) (xs : List X) → list_any p xs ≡ true → is_empty xs ≡ false
some_listed p [] e = cc
some_listed p (x ∷ xs) e = refl

-- one of the three lists isn't empty
first_of_three : (a b c : Bool) → a ≡ false → (a && b && c) ≡ false
first_of_three a b c e = ap (λ x. x && b && c) e

-- the second list isn't empty
second_of_three : (a b c : Bool) → b ≡ false → (a && b && c) ≡ false
second_of_three true b c e = ap (λ x. x && c) e
second_of_three false b c e = refl

-- the third list isn't empty
third_of_three : (a b c : Bool) → c ≡ false → (a && b && c) ≡ false
third_of_three true true c e = e
third_of_three true false c e = refl
third_of_three false b c e = refl

-- a call that is to fail finds something to fail
pub call_struck : (f : Failures) → call_strikes f ≡ true → fails_nothing f ≡ false
call_struck f e = first_of_three (is_empty f.failing_calls) (is_empty f.failing_writes) (is_empty f.failing_ranges) (some_listed _ f.failing_calls e)

-- what follows from each of two tests follows where one of them passes
either : (a b : Bool) (P : Type 0) → (a ≡ true → P) → (b ≡ true → P) → (a || b) ≡ true → P
either true b P f g e = f refl
either false b P f g e = g e

-- a write that is to fail finds something to fail
pub write_struck : (f : Failures) → write_strikes f ≡ true → fails_nothing f ≡ false
write_struck f e = either _ _ (fails_nothing f ≡ false) (call_struck f)
    (λ w. second_of_three (is_empty f.failing_calls) (is_empty f.failing_writes) (is_empty f.failing_ranges) (some_listed _ f.failing_writes w)) e

-- a range that is to fail is something to fail
pub range_struck : (f : Failures) (p : NamedRange → Bool) → list_any p f.failing_ranges ≡ true → fails_nothing f ≡ false
range_struck f p e = third_of_three (is_empty f.failing_calls) (is_empty f.failing_writes) (is_empty f.failing_ranges) (some_listed p f.failing_ranges e)

-- where something is to fail, no rack is sure
pub unsure : (rack : MemoryRack) → fails_nothing rack.failing ≡ false → is_sure rack ≡ false
unsure rack e = ap (λ quiet. quiet && nat_lt rack.account.faults (2 ^ 64 - 1)) e

-- a call after which as much is to fail as before leaves a rack as sure as it was: something is to fail, or it didn't fail
pub as_sure : (old new : MemoryRack) → fails_nothing new.failing ≡ fails_nothing old.failing → (fails_nothing old.failing ≡ false) ⊎ (new.account ≡ old.account)
    → is_sure new ≡ is_sure old
as_sure old new same (inl struck) = unsure new (same ∙ struck) ∙ sym (unsure old struck)
as_sure old new same (inr same_account) = λ i. same i && nat_lt (same_account i).faults (2 ^ 64 - 1)

-- what a write leaves
pub unsyncs : (range : Place) (old new : MemoryRack) → slots_of new ≡ slots_of old → Some (shelf_of new) ≡ Some (shelf_of old) → new.unsynced
    ≡ old.unsynced ++ range ∷ [] → new.never_synced ≡ old.never_synced → is_sure new ≡ is_sure old → Unsyncs range (seen_of old) (seen_of new)
unsyncs range old new slots shelf unsynced never sure =
    λ i. record {
      slots = slots i;
      held = Some (held_of new);
      shelf = shelf i;
      unsynced = unsynced i;
      never_synced = never i;
      sure = sure i;
      account = new.account;
    }

use Rattle.std.proofs.Common.{◌≡◌, ◌≢◌, ℕ, List, sym, ap, ◌∙◌, subst}
use Rattle.btr_pool.specs.Slots.{Slots, IsLive, bytes_at, with_bytes}
use Rattle.btr_pool.proofs.Loans.{bytes_at-with_bytes_other, live_after_write}
use Rattle.btr_read.proofs.solving.solve_with.Goals as goal

-- a slot that wasn't written
still : (a b : Slots) (j k : ℕ) → j ≢ k → (w : List ℕ) × (b ≡ with_bytes a k w) → bytes_at b j ≡ bytes_at a j
still a b j k ne h = ap (λ pool. bytes_at pool j) h.1 ∙ bytes_at-with_bytes_other a j k h.0 ne

live : (a b : Slots) (j k : ℕ) → (w : List ℕ) × (b ≡ with_bytes a k w) → IsLive a j → IsLive b j
live a b j k h l = subst (λ pool. IsLive pool j) (sym h.1) (live_after_write a j k h.0 l)

turned : {j k : ℕ} → j ≢ k → k ≢ j
turned ne e = ne (sym e)

pub copy_slot-requires-clause-live : goal.copy_slot-requires-clause-live
copy_slot-requires-clause-live c = c.requires.loans.first.a_live

pub add_slot-requires-clause-live : goal.add_slot-requires-clause-live
add_slot-requires-clause-live c = live c.args.pool.now c.copy_slot.new.pool c.args.slots.now.sought.now c.args.slots.now.sought.now c.copy_slot.ensures.kept
    c.requires.loans.first.a_live

pub add_slot-requires-clause-other_live : goal.add_slot-requires-clause-other_live
add_slot-requires-clause-other_live c =
    live c.args.pool.now c.copy_slot.new.pool c.args.slots.now.spare.now c.args.slots.now.sought.now c.copy_slot.ensures.kept
    c.requires.loans.d_live

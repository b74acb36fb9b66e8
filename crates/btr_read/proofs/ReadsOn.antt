-- What calls that only read leave.
use Rattle.std.proofs.Common.{◌≡◌, List, sym, ap, subst}
use Rattle.btr_rack.specs.Rack.{Seen, OnlyReads}
use Rattle.btr_read.specs.Layout.{AreOpen}
use Rattle.btr_read.specs.declared.device.Member.{Member}

-- calls that only read leave the rack's slots
pub same_slots : {a b : Seen} → OnlyReads a b → b.slots ≡ a.slots
same_slots h = ap (λ (s : Seen). s.slots) h.same

-- calls that only read leave what is told of the images
pub same_held : {a b : Seen} → OnlyReads a b → b.held ≡ a.held
same_held h = ap (λ (s : Seen). s.held) h.same

-- calls that only read leave a rack sure, or unsure, as it was
pub same_sure : {a b : Seen} → OnlyReads a b → b.sure ≡ a.sure
same_sure h = ap (λ (s : Seen). s.sure) h.same

-- what is open stays open
pub open_still : {a b : Seen} (devices : List Member) → OnlyReads a b → AreOpen a.slots devices → AreOpen b.slots devices
open_still devices h are = subst (λ s. AreOpen s devices) (sym (same_slots h)) are

use Rattle.std.proofs.Common.{◌≡◌, ℕ, ◌+◌, ◌<◌, Bool, true, false, cond, List, [], ◌∷◌, length, get_or, drop, Option, Some, subst, sym, ◌∙◌, nat_eq, arith}
use Rattle.std.proofs.lemmas.List.{drop_more, drop_all}
use Rattle.btr_rack.specs.Memory.{slots_of}
use Rattle.btr_rack.specs.Rack.{Slot}
use Rattle.btr_read.specs.declared.device.Device.{Device}
use Rattle.btr_read.specs.declared.device.Member.{Member}
use Rattle.btr_read.specs.Layout.{AreOpen, IsOpen, device_in}
use Rattle.btr_read_tests.proofs.given.are_open.Goals as goal

open_if : (slots : List Slot) (first : Device) (others : Option Device) (device : Device) (b : Bool) → IsOpen slots first
    → (others ≡ Some device → IsOpen slots device) → cond b (Some first) others ≡ Some device → IsOpen slots device
open_if slots first others device true is are e =
    let same : first ≡ device = cc in
    subst (IsOpen slots) same is
open_if slots first others device false is are e = are e

-- a device before others
open_before : (slots : List Slot) (member : Member) (rest : List Member) → IsOpen slots member.device → AreOpen slots rest → AreOpen slots (member ∷ rest)
open_before slots member rest is are devid device e = open_if slots member.device (device_in rest devid) device (nat_eq member.devid devid) is
    (are devid device) e

-- what stands past the last device
abbrev no_member : Member
no_member = record { devid = 0; device = record { slot = 0; len = 0; older = false } }

open_next : (slots : List Slot) (members : List Member) (i : ℕ) → i < length members → IsOpen slots (get_or members i no_member).device
    → AreOpen slots (drop (i + 1) members) → AreOpen slots (drop i members)
open_next slots members i lt is are = subst (AreOpen slots) (sym (drop_more members i no_member lt))
    (open_before slots (get_or members i no_member) (drop (i + 1) members) is are)

open_none : (slots : List Slot) → AreOpen slots []
open_none slots devid device e = cc

pub loop-member-preserved : goal.loop-member-preserved
loop-member-preserved c =
    let i = c.loop-member.member-index in
    let is : IsOpen (slots_of c.args.rack.now) (get_or c.args.members.now i no_member).device = record {
      slot = omega (arith, c.if-device-count.false, c.count.ensures);
      len = sym c.len.ensures.len ∙ c.if-len-device.false;
    }
    in
    λ are. c.loop-member.invariant (open_next (slots_of c.args.rack.now) c.args.members.now i c.loop-member-test.true is are)

pub returns : goal.returns
returns c =
    let nothing_left : drop c.loop-member.member-index c.args.members.now ≡ [] =
    drop_all c.loop-member.member-index c.args.members.now c.loop-member-test.false in
    λ _. c.loop-member.invariant (subst (AreOpen (slots_of c.args.rack.now)) (sym nothing_left) (open_none (slots_of c.args.rack.now)))

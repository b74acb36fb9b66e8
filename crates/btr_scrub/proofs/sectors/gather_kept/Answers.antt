use Rattle.std.proofs.Common.{◌+◌, ◌*◌, refl, subst, ◌∙◌, arith}
use Rattle.btr_scrub.proofs.Common.{AddsTo, Gathered, Sector, SumKind, stored_sum}
use Rattle.btr_scrub.proofs.Gathering.{lists_none}
use Rattle.btr_scrub.proofs.KeptSums.{kept_more}
use Rattle.btr_scrub.proofs.sectors.gather_kept.Goals as goal

pub loop-i-init : goal.loop-i-init
loop-i-init c =
    record { few = omega arith; kept = λ i lt. absurd (omega (arith, lt)); lists = lists_none c.args.gathered.now c.requires.is_list }

pub loop-i-preserved : goal.loop-i-preserved
loop-i-preserved c =
    let y = c.loop-i.gathered in
    let z : Gathered = record { list = c.push_sector.new.self; unchecked = y.unchecked } in
    let at = c.args.addr + c.loop-i.i * 4096 in
    let found = c.get.ensures.found c.in-Some.sum c.in-Some.is in
    let added = subst (λ (k : SumKind). AddsTo y.list z.list (Sector at (stored_sum k c.in-Some.sum.bytes))) c.loop-i.invariant.lists.kind
    c.in_ok-push_sector.ensures.added in
    kept_more c.args.addr c.args.most c.args.ahead.now c.args.gathered.now y z c.loop-i.i c.in-Some.sum c.loop-i-test.true c.loop-i.invariant
    (found.0 ∙ c.kind-kind.ensures) found.1 c.in_ok-push_sector.ensures.long added refl

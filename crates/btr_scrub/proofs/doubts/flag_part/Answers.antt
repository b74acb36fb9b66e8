use Rattle.std.proofs.Common.{◌≡◌, ◌≤◌, List, Bool, length, IfSome, sym, subst, arith}
use Rattle.btr_scrub.proofs.Common.{Flags, fails_at, len_of}
use Rattle.btr_read.proofs.Slots.{IsReadable}
use Rattle.btr_scrub.proofs.Doubting.{flags_bad, flags_good, read_part, want_fits}
use Rattle.btr_scrub.proofs.doubts.flag_part.Given as given
use Rattle.btr_scrub.proofs.doubts.flag_part.Goals.{In-Some}
use Rattle.btr_scrub.proofs.doubts.flag_part.Goals as goal

-- the part's range can be read, and is as long as the block
reads : (g : given.Over) (c : In-Some g) → IsReadable (g.R.Rack.seen c.args.rack.now).slots c.in-Some.range
    × (c.in-Some.range.len ≡ len_of c.args.store.now.layout.setting c.args.want.now)
reads g c = read_part c.args.store.now.layout c.args.want.now (g.R.Rack.seen c.args.rack.now).slots c.args.part c.in-Some.range c.requires.open
    c.requires.own c.in-Some.ensures

pub passes_at-requires-clause-open : goal.passes_at-requires-clause-open
passes_at-requires-clause-open g c = (reads g (goal.at.passes_at-requires-clause-open g c).In-Some).0.slot

pub passes_at-requires-clause-within : goal.passes_at-requires-clause-within
passes_at-requires-clause-within g c = (reads g (goal.at.passes_at-requires-clause-within g c).In-Some).0.within

pub passes_at-requires-clause-len : goal.passes_at-requires-clause-len
passes_at-requires-clause-len g c = (reads g (goal.at.passes_at-requires-clause-len g c).In-Some).1

pub passes_at-requires-clause-fits : goal.passes_at-requires-clause-fits
passes_at-requires-clause-fits g c =
    let n = length c.args.probe.now.buffer.items in
    let fits = want_fits c.args.store.now.layout.setting c.args.want.now n (subst (λ m. m ≤ n) c.requires.nodesize c.requires.ready.node)
    c.requires.ready.sector in
    omega (arith, (reads g (goal.at.passes_at-requires-clause-fits g c).In-Some).1, fits, c.deref_mut.ensures.len)

pub flag-requires : goal.flag-requires
flag-requires g c = omega (arith, (reads g (goal.at.flag-requires g c).In-Some).0.slot, c.requires.ready.flags)

pub returns-then-good-clause-flags : goal.returns-then-good-clause-flags
returns-then-good-clause-flags g c t e =
    flags_good c.args.store.now.layout c.args.want.now t c.args.part c.in-Some.range
    (g.R.Rack.seen c.args.rack.now).held c.args.probe.now.failing.items c.in_ok-good.good e (c.in-Some.ensures t e) c.in_ok-good.ensures.passes c.if-good.true

pub returns-clause-flags : goal.returns-clause-flags
returns-clause-flags g c t e =
    let held = (g.R.Rack.seen c.args.rack.now).held in
    let flags = c.args.probe.now.failing.items in
    subst (λ (new : List Bool). IfSome held (λ images. Flags flags (λ slot. fails_at images t slot c.args.part) new)) (sym c.flag.ensures.failing)
    (flags_bad c.args.store.now.layout c.args.want.now t c.args.part c.in-Some.range held flags c.in_ok-good.good
    e (c.in-Some.ensures t e) c.in_ok-good.ensures.passes
    (omega (arith, (reads g (goal.at.returns-clause-flags g c).In-Some).0.slot, c.requires.ready.flags)) c.if-good.false)

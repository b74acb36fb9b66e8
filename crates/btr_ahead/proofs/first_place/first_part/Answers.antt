use Rattle.std.proofs.Common.{◌≡◌, ◌<◌, Some, IsSomeAnd, sym, ◌∙◌, subst}
use Rattle.btr_chunk.specs.Chunk.{mirrors}
use Rattle.btr_read.specs.Fate.{target}
use Rattle.btr_read.specs.declared.want.Want.TheVariants.{Plain}
use Rattle.btr_ahead.proofs.Firsts.{at_target, with_copies, with_other}
use Rattle.btr_ahead.proofs.first_place.first_part.Goals as goal

pub returns-in-Some-clause-part : goal.returns-in-Some-clause-part
returns-in-Some-clause-part c =
    let at = at_target c.args.store.now.layout c.args.addr c.args.chunk.now c.args.at.now c.way_at-way.result c.requires.chunk c.requires.placed
    c.way_at-way.ensures in
    let t = target c.args.store.now.layout (Plain c.args.addr) c.args.chunk.now c.args.at.now in
    sym (with_copies t _ c.way_at-way.result c.requires.rule (sym c.mirrors.ensures ∙ c.in-Some.is) at).1

pub returns-in-Some-clause-there : goal.returns-in-Some-clause-there
returns-in-Some-clause-there c =
    let way = c.way_at-way.result in
    let at = at_target c.args.store.now.layout c.args.addr c.args.chunk.now c.args.at.now way c.requires.chunk c.requires.placed c.way_at-way.ensures in
    let t = target c.args.store.now.layout (Plain c.args.addr) c.args.chunk.now c.args.at.now in
    let has : mirrors c.args.chunk.now ≡ Some c.in-Some.field-0 = sym c.mirrors.ensures ∙ c.in-Some.is in
    let first = with_copies t c.in-Some.field-0 way c.requires.rule has at in
    subst (λ o. IsSomeAnd o (λ copies. way < copies)) (sym has) first.0

pub returns-else-way-eq0-clause-part : goal.returns-else-way-eq0-clause-part
returns-else-way-eq0-clause-part c =
    let at = at_target c.args.store.now.layout c.args.addr c.args.chunk.now c.args.at.now c.way_at-way.result c.requires.chunk c.requires.placed
    c.way_at-way.ensures in
    let t = target c.args.store.now.layout (Plain c.args.addr) c.args.chunk.now c.args.at.now in
    sym (with_other t c.way_at-way.result (sym c.mirrors.ensures ∙ c.in-None.is) at c.if-way-eq0.false)

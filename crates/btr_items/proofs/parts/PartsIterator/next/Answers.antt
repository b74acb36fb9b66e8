use Rattle.std.proofs.Common.{◌≡◌, [], length, sym, ap, ◌∙◌, arith}
use Rattle.btr_items.proofs.Walks.{none_at_end, more}
use Rattle.btr_items.proofs.parts.PartsIterator.next.Goals as goal

pub returns-then-self-clause-steps : goal.returns-then-self-clause-steps
returns-then-self-clause-steps g c =
    let none : c.args.self.now ≡ [] =
    sym c.self.view_is ∙ none_at_end g.P.Part.part_at g.P.Part.end_of
    (length c.self.inside.body.now) c.self.inside.at c.self.inside.body.now c.if-self.true in (none, none)

pub returns-clause-steps : goal.returns-clause-steps
returns-clause-steps g c =
    sym c.self.view_is
    ∙ more g.P.Part.part_at g.P.Part.end_of g.met.P.Part.ends_within c.self.inside.at c.place_behind-self-inside.result c.self.inside.body.now
    c.read_at-part.result
    c.self.invariant c.if-self.false c.read_at-part.ensures c.place_behind-self-inside.ensures

pub returns-clause-goes : goal.returns-clause-goes
returns-clause-goes g c =
    let fewer = ap length (returns-clause-steps g c) in
    record { on = λ _. (tt, tt, omega (arith, fewer)); keeps = tt; rests = λ _. tt }

use Rattle.std.proofs.Common.{arith, ◌≤◌, ◌++◌, length, take, ap, ◌∙◌}
use Rattle.btr_rack.specs.History.{replay}
use Rattle.btr_rack.specs.Growing.{written}
use Rattle.btr_rack.proofs.Stores.{stores_made, made_some, made_zero}
use Rattle.btr_rack.proofs.new_file.NewFile.store.Goals as goal

pub invariant_of-self : goal.invariant_of-self
invariant_of-self c =
    let short : length (replay c.self.inside.raw.history) ≤ c.self.inside.position = omega arith in
    let made = made_some c.self.inside.position c.store-stored.result (replay c.self.inside.raw.history) c.args.bytes.now
    (replay c.store-stored.new.raw.history)
    (stores_made _ _ _ _ _ short c.store-stored.ensures.count c.store-stored.ensures.stored c.store-stored.ensures.cause) c.if-stored-gt0.true
    c.store-stored.ensures.count in
    (made.0, omega arith)

pub invariant_of-self-else-stored-gt0 : goal.invariant_of-self-else-stored-gt0
invariant_of-self-else-stored-gt0 c =
    let short : length (replay c.self.inside.raw.history) ≤ c.self.inside.position = omega arith in
    let made = made_zero c.self.inside.position c.store-stored.result (replay c.self.inside.raw.history) c.args.bytes.now
    (replay c.store-stored.new.raw.history)
    (stores_made _ _ _ _ _ short c.store-stored.ensures.count c.store-stored.ensures.stored c.store-stored.ensures.cause) c.if-stored-gt0.false in
    (ap length made.0 ∙ c.self.invariant.0, c.self.invariant.1)

pub returns-then-stored-gt0-clause-stored : goal.returns-then-stored-gt0-clause-stored
returns-then-stored-gt0-clause-stored c =
    let short : length (replay c.self.inside.raw.history) ≤ c.self.inside.position = omega arith in
    let made = made_some c.self.inside.position c.store-stored.result (replay c.self.inside.raw.history) c.args.bytes.now
    (replay c.store-stored.new.raw.history)
    (stores_made _ _ _ _ _ short c.store-stored.ensures.count c.store-stored.ensures.stored c.store-stored.ensures.cause) c.if-stored-gt0.true
    c.store-stored.ensures.count in
    made.1 ∙ ap (λ f. written f ++ take c.store-stored.result c.args.bytes.now) c.self.view_is

pub returns-else-stored-gt0-clause-stored : goal.returns-else-stored-gt0-clause-stored
returns-else-stored-gt0-clause-stored c =
    let short : length (replay c.self.inside.raw.history) ≤ c.self.inside.position = omega arith in
    let made = made_zero c.self.inside.position c.store-stored.result (replay c.self.inside.raw.history) c.args.bytes.now
    (replay c.store-stored.new.raw.history)
    (stores_made _ _ _ _ _ short c.store-stored.ensures.count c.store-stored.ensures.stored c.store-stored.ensures.cause) c.if-stored-gt0.false in
    made.1 ∙ ap (λ f. written f ++ take c.store-stored.result c.args.bytes.now) c.self.view_is

use Rattle.btr_read.proofs.Several.{both_taken, second_live, first_live, both_back, both_forgotten}
use Rattle.btr_read.proofs.trying.try_with_spares.Goals as goal

pub try_rebuilt-attempt-requires-clause-loans : goal.try_rebuilt-attempt-requires-clause-loans
try_rebuilt-attempt-requires-clause-loans g c =
    let a = c.take_least-q.ensures in
    let b = c.take_least-spare.ensures in
    both_taken c.requires.live a.free a.lent b.free b.lent

pub give-requires : goal.give-requires
give-requires g c =
    let a = c.take_least-q.ensures in
    let b = c.take_least-spare.ensures in
    second_live c.requires.live a.free a.lent b.free b.lent c.try_rebuilt-attempt.ensures.pool

pub give-requires-2 : goal.give-requires-2
give-requires-2 g c =
    let a = c.take_least-q.ensures in
    let b = c.take_least-spare.ensures in
    first_live c.requires.live a.free a.lent b.free b.lent c.try_rebuilt-attempt.ensures.pool c.give.ensures

pub returns-clause-pool : goal.returns-clause-pool
returns-clause-pool g c =
    let a = c.take_least-q.ensures in
    let b = c.take_least-spare.ensures in
    both_back c.requires.live a.free a.lent b.free b.lent c.try_rebuilt-attempt.ensures.pool c.give.ensures c.give-2.ensures

pub returns-clause-kept : goal.returns-clause-kept
returns-clause-kept g c =
    let a = c.take_least-q.ensures in
    let b = c.take_least-spare.ensures in
    both_forgotten c.requires.live a.free a.lent b.free b.lent c.try_rebuilt-attempt.ensures.pool c.give.ensures c.give-2.ensures
    c.args.kept.now.wants c.take_least-q.new.kept.wants c.take_least-spare.new.kept.wants c.requires.forgotten a.forgotten b.forgotten

use Rattle.std.proofs.Common.{subst, sym, ap, ◌∙◌, arith}
use Rattle.btr_pool.specs.Slots.{bytes_at, free_count, with_free}
use Rattle.btr_read.specs.Trial.{FitsTrial}
use Rattle.btr_pool.proofs.Loans.{free_count-with_lent}
use Rattle.btr_read.proofs.Several.{four_taken, spare_live, q_live, p_live, three_back, three_forgotten}
use Rattle.btr_read.proofs.trying.try_by_parities.Goals as goal

pub try_row-trial-requires-clause-loans : goal.try_row-trial-requires-clause-loans
try_row-trial-requires-clause-loans g c =
    let a = c.take_least-p.ensures in
    let b = c.take_least-q.ensures in
    let d = c.take_least-spare.ensures in
    four_taken c.requires.live a.free a.lent b.free b.lent d.free d.lent

pub give-requires : goal.give-requires
give-requires g c =
    let a = c.take_least-p.ensures in
    let b = c.take_least-q.ensures in
    let d = c.take_least-spare.ensures in
    spare_live c.requires.live a.free a.lent b.free b.lent d.free d.lent c.try_row-trial.ensures.pool

pub give-requires-2 : goal.give-requires-2
give-requires-2 g c =
    let a = c.take_least-p.ensures in
    let b = c.take_least-q.ensures in
    let d = c.take_least-spare.ensures in
    q_live c.requires.live a.free a.lent b.free b.lent d.free d.lent c.try_row-trial.ensures.pool c.give.ensures

pub give-requires-3 : goal.give-requires-3
give-requires-3 g c =
    let a = c.take_least-p.ensures in
    let b = c.take_least-q.ensures in
    let d = c.take_least-spare.ensures in
    p_live c.requires.live a.free a.lent b.free b.lent d.free d.lent c.try_row-trial.ensures.pool c.give.ensures c.give-2.ensures

pub returns-clause-pool : goal.returns-clause-pool
returns-clause-pool g c =
    let a = c.take_least-p.ensures in
    let b = c.take_least-q.ensures in
    let d = c.take_least-spare.ensures in
    three_back c.requires.live a.free a.lent b.free b.lent d.free d.lent c.try_row-trial.ensures.pool c.give.ensures c.give-2.ensures c.give-3.ensures

pub returns-clause-kept : goal.returns-clause-kept
returns-clause-kept g c =
    let a = c.take_least-p.ensures in
    let b = c.take_least-q.ensures in
    let d = c.take_least-spare.ensures in
    three_forgotten c.requires.live a.free a.lent b.free b.lent d.free d.lent c.try_row-trial.ensures.pool c.give.ensures c.give-2.ensures c.give-3.ensures
    c.args.kept.now.wants c.take_least-p.new.kept.wants c.take_least-q.new.kept.wants c.take_least-spare.new.kept.wants c.requires.forgotten
    a.forgotten b.forgotten d.forgotten

pub returns-clause-trial : goal.returns-clause-trial
returns-clause-trial g c =
    let k = c.args.loan.now in
    let given = c.give-3.ensures ∙ ap (λ x. with_free x c.take_least-p.result)
    (c.give-2.ensures ∙ ap (λ x. with_free x c.take_least-q.result) c.give.ensures) in
    λ before is h. subst (λ x. FitsTrial c.args.search.now before (g.R.Rack.seen c.try_row-trial.new.rack) (bytes_at x k) c.try_row-trial.result)
    (sym given) (c.try_row-trial.ensures.trial before is h)

pub take_least-spare-requires-clause-room : goal.take_least-spare-requires-clause-room
take_least-spare-requires-clause-room g c =
    let one = free_count-with_lent c.args.pool.now c.take_least-p.result c.take_least-p.ensures.free in
    let two = free_count-with_lent c.take_least-p.new.pool c.take_least-q.result c.take_least-q.ensures.free in
    omega (arith, c.requires.room, one, two, ap free_count c.take_least-p.ensures.lent, ap free_count c.take_least-q.ensures.lent)

use Rattle.std.proofs.Common.{◌+◌, ◌-◌, ◌*◌, take, drop, ap}
use Rattle.btr_pool.proofs.Region.{read_when_live}
use Rattle.btr_pool.proofs.pool.Pool.bytes.Goals as goal

pub returns-clause-value : goal.returns-clause-value
returns-clause-value c =
    let start = c.loan.inside.slot * c.self.inside.size in
    let read = read_when_live c.self.inside c.args.self.now c.loan.inside.slot c.args.loan.now _ c.self.view_is c.self.invariant c.loan.view_is c.requires
    (ap (λ bytes. take (start + c.self.inside.size - start) (drop start bytes)) c.deref.ensures.value) in
    read.value

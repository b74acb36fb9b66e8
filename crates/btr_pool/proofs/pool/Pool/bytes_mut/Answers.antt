use Rattle.std.proofs.Common.{refl}
use Rattle.btr_pool.proofs.Region.{read_when_live, poured_when_written, poured_alone}
use Rattle.btr_pool.proofs.pool.Pool.bytes_mut.Goals as goal

pub returns : goal.returns
returns c =
    let pool = c.self.inside in
    let k = c.loan.inside.slot in
    let slots = c.args.self.now in
    let l = c.args.loan.now in
    let read = read_when_live pool slots k l c.slice_mut.result.now c.self.view_is c.self.invariant c.loan.view_is c.requires c.slice_mut.ensures.value in (
      (refl, λ written. poured_when_written pool slots k l written c.self.view_is c.self.invariant c.loan.view_is),
      record {
        writes_back = tt;
        alone = poured_alone pool slots k l c.self.view_is c.self.invariant c.loan.view_is c.requires;
        value = read.value;
        len = read.len;
      },
    )

use Rattle.std.proofs.Common.{◌≡◌, Bool, false, is_ok, Option, Some, None, Ok, Err, sym, subst}
use Rattle.btr_files.specs.Sums.{tree_behind}
use Rattle.btr_read.specs.declared.want.Want.{Want}
use Rattle.btr_volume.specs.declared.root.TreeRoot.{TreeRoot}
use Rattle.btr_check.specs.Counting.{Unless}
use Rattle.btr_check.specs.Data.{is_readable, KeepsSums, ReadsBy}
use Rattle.btr_check.specs.Running.{world, filesystem, Ran}
use Rattle.btr_check.specs.Wanted.{OfSector}
use Rattle.btr_check.proofs.Datas.{sector_wanted, then_read}
use Rattle.btr_check.proofs.Aheads.{still_ahead}
use Rattle.btr_check.proofs.Runs.{ran_stop_within, ran_then, ran_value, stop_is}
use Rattle.btr_check.proofs.readable.is_readable.Goals as goal

pub returns-in_err-sector_want : goal.returns-in_err-sector_want
returns-in_err-sector_want g c =
    let sums : Option TreeRoot = tree_behind c.args.sums in
    record {
      ahead = still_ahead c.args.copies.now c.in_err-sector_want.ensures.ran.reads c.requires.ahead;
      ran = rw (stop_is c.from_residual.result c.from_residual.ensures.1)
          (ran_stop_within {A = Option Want} {C = Bool}
          (λ fs. KeepsSums fs sums c.args.ahead.now c.sector_want.new.ahead
          (Unless {A = Option Want} (ReadsBy fs sums c.args.sector.addr) (Err c.in_err-sector_want.field-0.0)))
          (λ fs. KeepsSums fs sums c.args.ahead.now c.sector_want.new.ahead
          (Unless {A = Bool} (λ can. can ≡ is_readable fs sums c.args.sector.addr) (Err c.in_err-sector_want.field-0.0)))
          (world (g.R.Rack.seen c.args.rack.now) c.args.vol.now) (world
          (g.R.Rack.seen c.sector_want.new.rack) c.sector_want.new.vol) c.in_err-sector_want.field-0.0 c.in_err-sector_want.ensures.ran (λ B h. h)
          (λ B want w summed. w));
    }

pub returns-in-None : goal.returns-in-None
returns-in-None g c =
    let sums : Option TreeRoot = tree_behind c.args.sums in
    let x = world (g.R.Rack.seen c.args.rack.now) c.args.vol.now in
    let y = world (g.R.Rack.seen c.sector_want.new.rack) c.sector_want.new.vol in
    record {
      ahead = still_ahead c.args.copies.now c.in_ok-sector_want.ensures.ran.reads c.requires.ahead;
      ran = ran_value (λ fs. KeepsSums fs sums c.args.ahead.now c.sector_want.new.ahead (ReadsBy fs sums c.args.sector.addr None))
          (λ fs. KeepsSums fs sums c.args.ahead.now c.sector_want.new.ahead (false ≡ is_readable fs sums c.args.sector.addr)) x y None false
          (subst (λ (o : Option Want). Ran {A = Option Want} (OfSector sums c.args.sector.addr)
          (λ fs. KeepsSums fs sums c.args.ahead.now c.sector_want.new.ahead (ReadsBy fs sums c.args.sector.addr o)) x y
          (Ok o)) c.in-None.is c.in_ok-sector_want.ensures.ran) (λ B h summed. ((h summed).0, sym (h summed).1));
    }

pub returns-in-Some : goal.returns-in-Some
returns-in-Some g c =
    let sums : Option TreeRoot = tree_behind c.args.sums in
    let want = c.in-Some.want in
    let x = world (g.R.Rack.seen c.args.rack.now) c.args.vol.now in
    let y = world (g.R.Rack.seen c.sector_want.new.rack) c.sector_want.new.vol in
    record {
      ahead = c.can_read.ensures.ahead;
      ran = ran_then (λ fs. KeepsSums fs sums c.args.ahead.now c.sector_want.new.ahead (ReadsBy fs sums c.args.sector.addr (Some want)))
          (λ fs. Unless (λ can. can ≡ is_ok (fs.blocks want)) c.can_read.result)
          (λ fs. KeepsSums fs sums c.args.ahead.now c.sector_want.new.ahead
          (Unless (λ can. can ≡ is_readable fs sums c.args.sector.addr) c.can_read.result))
          x y (world (g.R.Rack.seen c.can_read.new.rack) c.can_read.new.vol) (Some want) c.can_read.result
          (subst (λ (o : Option Want). Ran {A = Option Want} (OfSector sums c.args.sector.addr)
          (λ fs. KeepsSums fs sums c.args.ahead.now c.sector_want.new.ahead (ReadsBy fs sums c.args.sector.addr o)) x y
          (Ok o)) c.in-Some.is c.in_ok-sector_want.ensures.ran) c.can_read.ensures.ran
          (λ B p q summed. ((p summed).0, then_read (filesystem c.args.vol.now B) sums c.args.sector.addr want c.can_read.result (p summed).1 q))
          (λ B p other is summed.
          let fs = filesystem c.args.vol.now B in
          subst (OfSector sums c.args.sector.addr fs) (sym is) (sector_wanted fs sums c.args.sector.addr want (p summed).1));
    }

use Rattle.std.proofs.Common.{subst}
use Rattle.btr_read.specs.Fetch.{FitsFetch}
use Rattle.btr_walk.specs.Reading.{unread_by}
use Rattle.btr_walk.proofs.Fetched.{by_fault}
use Rattle.btr_files.specs.Giving.{SectorComes}
use Rattle.btr_files.specs.Maps.{TellsAll}
use Rattle.btr_files.proofs.Sectors.{sector_came, sector_failed, sector_lent}
use Rattle.btr_files.proofs.sector.read_sector.Goals as goal

pub returns-in_err-fetch-clause-content : goal.returns-in_err-fetch-clause-content
returns-in_err-fetch-clause-content g c =
    let want = c.args.want.now in
    let layout = c.args.store.now.layout in
    let old = g.R.Rack.seen c.args.rack.now in
    let new = g.R.Rack.seen c.fetch.new.rack in
    let fault = c.in_err-fetch.field-0.0 in
    by_fault (λ r. TellsAll layout old new (λ Bs. SectorComes (unread_by layout old new) Bs want c.fetch.new.store r)) c.from_residual.result fault
    c.from_residual.ensures.1
    (sector_failed layout want old new c.fetch.ensures.reads c.fetch.new.store fault
    (subst (FitsFetch layout want old new c.fetch.new.store) (c.in_err-fetch.was {u = tt}) c.fetch.ensures.answer))

pub returns-clause-lent : goal.returns-clause-lent
returns-clause-lent g c = sector_lent c.args.store.now c.fetch.new.store c.args.want.now c.in_ok-fetch.field-0 c.requires.sector c.in_ok-fetch.ensures.lent

pub returns-clause-content : goal.returns-clause-content
returns-clause-content g c =
    sector_came c.args.store.now.layout c.args.want.now (g.R.Rack.seen c.args.rack.now) (g.R.Rack.seen c.fetch.new.rack) c.in_ok-fetch.ensures.reads
    c.fetch.new.store c.in_ok-fetch.field-0 c.requires.sector c.in_ok-fetch.ensures.answer

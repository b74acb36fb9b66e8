use Rattle.std.proofs.Common.{ℕ, ◌<◌, [], Result, Ok, Err, subst, sym}
use Rattle.btr_prog.specs.Answers.{Follows, no_part}
use Rattle.btr_prog.specs.Prog.{exec}
use Rattle.btr_read.specs.Store.{Lent}
use Rattle.btr_read.specs.declared.want.Want.{Want}
use Rattle.btr_walk.specs.declared.fault.TreeFault.{TreeFault}
use Rattle.btr_walk.specs.Reading.{Map, unread_by, answer_of}
use Rattle.btr_walk.proofs.Fetched.{passed_on, since}
use Rattle.btr_files.specs.declared.progress.Progress.{Progress}
use Rattle.btr_files.specs.declared.streaming.Shown.{Shown}
use Rattle.btr_files.specs.declared.streaming.Shown.TheVariants as shown
use Rattle.btr_files.specs.declared.streaming.Span.TheVariants as span
use Rattle.btr_files.specs.Content.{sector_want}
use Rattle.btr_files.specs.Giving.{after_sector, SectorComes}
use Rattle.btr_files.specs.Maps.{TellsAll}
use Rattle.btr_files.specs.Streaming.{FitsTodo}
use Rattle.btr_files.specs.Sums.{kind_in}
use Rattle.btr_files.proofs.AllMaps.{all_of_one, all_joined}
use Rattle.btr_files.proofs.Sectoring.{sector_given, sector_lacked, sum_lacked, comes_as}
use Rattle.btr_files.proofs.AheadLooks.{GivenWithSums, with_sums, looked_with_sums}
use Rattle.btr_files.proofs.streaming.give_sector.Goals as goal

pub returns-in_err-want-clause-content : goal.returns-in_err-want-clause-content
returns-in_err-want-clause-content g c =
    let kind = kind_in c.args.vol.now.sup in
    let source = c.args.source.now in
    let p = c.args.progress.now in
    let part = c.args.part.now in
    let new = c.want_of.new.vol.store in
    let layout = c.args.vol.now.store.layout in
    let a = g.R.Rack.seen c.args.rack.now in
    let b = g.R.Rack.seen c.want_of.new.rack in
    let is = unread_by layout a b in
    let fault = c.in_err-want.field-0.0 in
    let some : 0 < part.count = (subst (FitsTodo source.size p.at p.end) c.requires.todo c.requires.underway.fits).1 in
    let looked = λ (r : Result Want TreeFault) (B : Map). Follows is no_part [] (exec B (sector_want kind source.sums source.nosum part.addr)) []
    (answer_of r) in
    passed_on (λ r. TellsAll layout a b (λ Bs. GivenWithSums kind source is Bs p p new c.args.ahead.now c.want_of.new.ahead r)) c.from_residual.result
    fault c.from_residual.ensures.1
    (all_of_one layout (with_sums (looked c.want_of.result) source.sums c.args.ahead.now c.want_of.new.ahead)
    (λ Bs. GivenWithSums kind source is Bs p p new c.args.ahead.now c.want_of.new.ahead (Err fault))
    (λ Bs h summed. let both = h summed in (
      sum_lacked kind source Bs p part c.requires.todo c.requires.begun some is p new fault
          (subst (λ r. looked r (Bs 0)) (c.in_err-want.was {u = tt}) both.0),
      both.1,
    ))
    (looked_with_sums layout (looked c.want_of.result) source.sums c.args.ahead.now c.want_of.new.ahead c.want_of.ensures.content c.want_of.ensures.ahead))

pub returns-in_err-loan-clause-content : goal.returns-in_err-loan-clause-content
returns-in_err-loan-clause-content g c =
    let kind = kind_in c.args.vol.now.sup in
    let source = c.args.source.now in
    let p = c.args.progress.now in
    let part = c.args.part.now in
    let mid = c.want_of.new.vol.store.layout in
    let new = c.read_sector.new.store in
    let layout = c.args.vol.now.store.layout in
    let a = g.R.Rack.seen c.args.rack.now in
    let b = g.R.Rack.seen c.want_of.new.rack in
    let d = g.R.Rack.seen c.read_sector.new.rack in
    let is = unread_by layout a d in
    let fault = c.in_err-loan.field-0.0 in
    let want = c.in_ok-want.want in
    let some : 0 < part.count = (subst (FitsTodo source.size p.at p.end) c.requires.todo c.requires.underway.fits).1 in
    let looked = λ (r : Result Want TreeFault) (B : Map). Follows (unread_by layout a b) no_part []
    (exec B (sector_want kind source.sums source.nosum part.addr)) [] (answer_of r) in
    let comes = λ (r : Result Lent TreeFault) (Bs : ℕ → Map). SectorComes (unread_by mid b d) Bs want new r in
    passed_on (λ r. TellsAll layout a d (λ Bs. GivenWithSums kind source is Bs p p new c.args.ahead.now c.want_of.new.ahead r))
    c.from_residual-in_err-loan.result fault c.from_residual-in_err-loan.ensures.1
    (all_joined (λ Bs. with_sums (looked c.want_of.result) source.sums c.args.ahead.now c.want_of.new.ahead (Bs 0)) (comes c.read_sector.result)
    (λ Bs. GivenWithSums kind source is Bs p p new c.args.ahead.now c.want_of.new.ahead (Err fault)) c.want_of.ensures.volume.store.layout
    (λ Bs h k summed. let both = h summed in (
      sector_lacked kind source Bs p part c.requires.todo c.requires.begun some want (unread_by layout a b)
          (subst (λ r. looked r (Bs 0)) (c.in_ok-want.was {u = tt}) both.0) is p new new fault
          (comes_as (unread_by mid b d) is Bs want new fault (since layout mid c.want_of.ensures.volume.store.layout c.want_of.ensures.reads)
          (subst (λ r. comes r Bs) (c.in_err-loan.was {u = tt}) k)),
      both.1,
    ))
    (all_of_one layout (with_sums (looked c.want_of.result) source.sums c.args.ahead.now c.want_of.new.ahead)
    (λ Bs. with_sums (looked c.want_of.result) source.sums c.args.ahead.now c.want_of.new.ahead (Bs 0)) (λ Bs h. h)
    (looked_with_sums layout (looked c.want_of.result) source.sums c.args.ahead.now c.want_of.new.ahead c.want_of.ensures.content
    c.want_of.ensures.ahead)) c.read_sector.ensures.content)

pub returns-clause-content : goal.returns-clause-content
returns-clause-content g c =
    let kind = kind_in c.args.vol.now.sup in
    let source = c.args.source.now in
    let p = c.args.progress.now in
    let part = c.args.part.now in
    let mid = c.want_of.new.vol.store.layout in
    let new = c.read_sector.new.store in
    let layout = c.args.vol.now.store.layout in
    let a = g.R.Rack.seen c.args.rack.now in
    let b = g.R.Rack.seen c.want_of.new.rack in
    let d = g.R.Rack.seen c.read_sector.new.rack in
    let is = unread_by layout a d in
    let loan = c.in_ok-loan.loan in
    let want = c.in_ok-want.want in
    let some : 0 < part.count = (subst (FitsTodo source.size p.at p.end) c.requires.todo c.requires.underway.fits).1 in
    let looked = λ (r : Result Want TreeFault) (B : Map). Follows (unread_by layout a b) no_part []
    (exec B (sector_want kind source.sums source.nosum part.addr)) [] (answer_of r) in
    let comes = λ (r : Result Lent TreeFault) (Bs : ℕ → Map). SectorComes (unread_by mid b d) Bs want new r in
    let given : Shown = shown.Bytes loan (span.Sector c.min-len.result c.is_tested-verified.result c.crc_of-crc.result) in
    subst (λ (x : Progress). TellsAll layout a d (λ Bs. GivenWithSums kind source is Bs p x new c.args.ahead.now c.want_of.new.ahead (Ok given)))
    (sym c.pass_sector.ensures)
    (all_joined (λ Bs. with_sums (looked c.want_of.result) source.sums c.args.ahead.now c.want_of.new.ahead (Bs 0)) (comes c.read_sector.result)
    (λ Bs. GivenWithSums kind source is Bs p (after_sector source.size p part) new c.args.ahead.now c.want_of.new.ahead (Ok given))
    c.want_of.ensures.volume.store.layout
    (λ Bs h k summed. let both = h summed in (
      sector_given kind source Bs p part c.requires.todo c.requires.begun some want (unread_by layout a b)
          (subst (λ r. looked r (Bs 0)) (c.in_ok-want.was {u = tt}) both.0) is new loan c.bytes.result.now c.bytes.ensures.value c.min-len.result
          c.is_tested-verified.result c.crc_of-crc.result c.min-len.ensures c.is_tested-verified.ensures
          (subst (λ r. comes r Bs) (c.in_ok-loan.was {u = tt}) k),
      both.1,
    ))
    (all_of_one layout (with_sums (looked c.want_of.result) source.sums c.args.ahead.now c.want_of.new.ahead)
    (λ Bs. with_sums (looked c.want_of.result) source.sums c.args.ahead.now c.want_of.new.ahead (Bs 0)) (λ Bs h. h)
    (looked_with_sums layout (looked c.want_of.result) source.sums c.args.ahead.now c.want_of.new.ahead c.want_of.ensures.content
    c.want_of.ensures.ahead)) c.read_sector.ensures.content)

use Rattle.std.proofs.Common.{Ok, Some, None, ap, ◌∙◌, arith}
use Rattle.std.proofs.lemmas.Result.{err_from_is_err_and}
use Rattle.btr_walk.specs.Reading.{unread_by}
use Rattle.btr_files.specs.declared.streaming.Shown.TheVariants as shown
use Rattle.btr_files.specs.Giving.{after_zeros, zeros_at}
use Rattle.btr_files.specs.Sums.{kind_in}
use Rattle.btr_files.proofs.AllMaps.{all_unread}
use Rattle.btr_files.proofs.Stepping.{zeros_given, nothing_left}
use Rattle.btr_files.proofs.Streamed.{NextWithSums}
use Rattle.btr_files.proofs.streaming.give.Goals as goal

pub returns-then-zeros-gt0-clause-content : goal.returns-then-zeros-gt0-clause-content
returns-then-zeros-gt0-clause-content g c =
    let kind = kind_in c.args.vol.now.sup in
    let source = c.args.source.now in
    let p = c.args.progress.now in
    let store = c.args.vol.now.store in
    let a = g.R.Rack.seen c.args.rack.now in
    let is = unread_by store.layout a a in
    let zeros = c.zeros_at-zeros.result in
    all_unread store.layout (λ Bs. NextWithSums kind source is Bs p (after_zeros p zeros) store c.args.ahead.now c.args.ahead.now
    (Ok (Some (shown.Gap zeros))))
    (λ Bs summed. (zeros_given kind source Bs p zeros c.if-zeros-gt0.true is store c.zeros_at-zeros.ensures, summed))

pub returns-in-Over-clause-content : goal.returns-in-Over-clause-content
returns-in-Over-clause-content g c =
    let kind = kind_in c.args.vol.now.sup in
    let source = c.args.source.now in
    let p = c.args.progress.now in
    let store = c.args.vol.now.store in
    let a = g.R.Rack.seen c.args.rack.now in
    let is = unread_by store.layout a a in
    let none = c.zeros_at-zeros.ensures ∙ ap (zeros_at source.size p.at) c.in-Over.is in
    all_unread store.layout (λ Bs. NextWithSums kind source is Bs p p store c.args.ahead.now c.args.ahead.now (Ok None))
    (λ Bs summed. (nothing_left kind source Bs p is p store c.in-Over.is (omega (arith, none, c.if-zeros-gt0.false)), summed))

pub returns-in_err-give_sector-in-Sectors-clause-content : goal.returns-in_err-give_sector-in-Sectors-clause-content
returns-in_err-give_sector-in-Sectors-clause-content g c =
    let exit = c.from_residual-in_err-give_sector-in-Sectors in
    let p = err_from_is_err_and exit.result exit.ensures.1 in
    rw (p.1, p.2) c.in_err-give_sector-in-Sectors.ensures.content

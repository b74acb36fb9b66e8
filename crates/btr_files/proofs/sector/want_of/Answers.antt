use Rattle.std.proofs.Common.{Option, Ok, Err, sym, ap, ◌∙◌, subst}
use Rattle.std.proofs.lemmas.Result.{err_from_is_err_and}
use Rattle.btr_read.specs.declared.want.Want.TheVariants.{Plain, Sector}
use Rattle.btr_walk.specs.Reading.{Tells, unread_by}
use Rattle.btr_volume.specs.declared.root.TreeRoot.{TreeRoot}
use Rattle.btr_files.specs.Aheads.{IsSummed}
use Rattle.btr_files.specs.Content.{sector_want}
use Rattle.btr_files.specs.Sums.{kind_in}
use Rattle.btr_files.proofs.AheadLooks.{want_kept, want_looked}
use Rattle.btr_files.proofs.Sectors.{copied_is, want_with, want_summed}
use Rattle.btr_files.proofs.sector.want_of.Goals as goal

pub returns-in-Some-clause-content : goal.returns-in-Some-clause-content
returns-in-Some-clause-content g c =
    let kept = c.get.ensures.found c.in-Some.sum c.in-Some.is in
    let layout = c.args.vol.now.store.layout in
    let a = g.R.Rack.seen c.args.rack.now in
    want_kept layout (kind_in c.args.vol.now.sup) c.args.source.now.sums c.args.source.now.nosum c.args.addr c.args.ahead.now c.in-Some.sum
    c.if-source.false (kept.0 ∙ c.kind_of.ensures) kept.1 (unread_by layout a a)

pub returns-in_err-sum_ahead-clause-ahead : goal.returns-in_err-sum_ahead-clause-ahead
returns-in_err-sum_ahead-clause-ahead g c =
    subst (λ (s : Option TreeRoot). Tells c.args.vol.now.store.layout (g.R.Rack.seen c.args.rack.now) (g.R.Rack.seen c.sum_ahead.new.rack)
    (λ B. IsSummed B s c.args.ahead.now → IsSummed B s c.sum_ahead.new.ahead))
    (copied_is c.as_ref.result ∙ c.as_ref.ensures.value) c.sum_ahead.ensures.ahead

pub returns-in_err-sum_ahead-clause-content : goal.returns-in_err-sum_ahead-clause-content
returns-in_err-sum_ahead-clause-content g c =
    let layout = c.args.vol.now.store.layout in
    let kind = kind_in c.args.vol.now.sup in
    let source = c.args.source.now in
    let p = err_from_is_err_and c.from_residual.result c.from_residual.ensures.1 in
    rw (p.1, p.2)
    (want_looked layout (sector_want kind source.sums source.nosum c.args.addr) (Err c.in_err-sum_ahead.field-0.0) source.sums c.args.ahead.now
    (want_summed layout (g.R.Rack.seen c.args.rack.now) (g.R.Rack.seen c.sum_ahead.new.rack) kind source.sums source.nosum c.args.addr
    c.as_ref.result c.sum_ahead.result (Err c.in_err-sum_ahead.field-0.0) c.if-source.false c.as_ref.ensures.value
    (sym (ap (want_with c.args.addr) c.in_err-sum_ahead.was))
    c.sum_ahead.ensures.content))

pub returns-in-None-clause-ahead : goal.returns-in-None-clause-ahead
returns-in-None-clause-ahead g c =
    subst (λ (s : Option TreeRoot). Tells c.args.vol.now.store.layout (g.R.Rack.seen c.args.rack.now) (g.R.Rack.seen c.sum_ahead.new.rack)
    (λ B. IsSummed B s c.args.ahead.now → IsSummed B s c.sum_ahead.new.ahead))
    (copied_is c.as_ref.result ∙ c.as_ref.ensures.value) c.sum_ahead.ensures.ahead

pub returns-in-None-clause-content : goal.returns-in-None-clause-content
returns-in-None-clause-content g c =
    let layout = c.args.vol.now.store.layout in
    let kind = kind_in c.args.vol.now.sup in
    let source = c.args.source.now in
    want_looked layout (sector_want kind source.sums source.nosum c.args.addr) (Ok (Plain c.args.addr)) source.sums c.args.ahead.now
    (want_summed layout (g.R.Rack.seen c.args.rack.now) (g.R.Rack.seen c.sum_ahead.new.rack) kind source.sums source.nosum c.args.addr
    c.as_ref.result c.sum_ahead.result (Ok (Plain c.args.addr)) c.if-source.false c.as_ref.ensures.value
    (sym (ap (want_with c.args.addr) (c.in_ok-sum_ahead.was ∙ ap Ok c.in-None.is))) c.sum_ahead.ensures.content)

pub returns-in-Some-2-clause-ahead : goal.returns-in-Some-2-clause-ahead
returns-in-Some-2-clause-ahead g c =
    subst (λ (s : Option TreeRoot). Tells c.args.vol.now.store.layout (g.R.Rack.seen c.args.rack.now) (g.R.Rack.seen c.sum_ahead.new.rack)
    (λ B. IsSummed B s c.args.ahead.now → IsSummed B s c.sum_ahead.new.ahead))
    (copied_is c.as_ref.result ∙ c.as_ref.ensures.value) c.sum_ahead.ensures.ahead

pub returns-in-Some-2-clause-content : goal.returns-in-Some-2-clause-content
returns-in-Some-2-clause-content g c =
    let layout = c.args.vol.now.store.layout in
    let kind = kind_in c.args.vol.now.sup in
    let source = c.args.source.now in
    want_looked layout (sector_want kind source.sums source.nosum c.args.addr) (Ok (Sector c.args.addr c.in-Some-2.sum)) source.sums c.args.ahead.now
    (want_summed layout (g.R.Rack.seen c.args.rack.now) (g.R.Rack.seen c.sum_ahead.new.rack) kind source.sums source.nosum c.args.addr
    c.as_ref.result c.sum_ahead.result (Ok (Sector c.args.addr c.in-Some-2.sum)) c.if-source.false c.as_ref.ensures.value
    (sym (ap (want_with c.args.addr) (c.in_ok-sum_ahead.was ∙ ap Ok c.in-Some-2.is))) c.sum_ahead.ensures.content)

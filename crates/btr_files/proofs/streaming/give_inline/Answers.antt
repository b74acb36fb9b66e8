use Rattle.std.proofs.Common.{◌≡◌, Result, Ok, Err, true, false, subst, sym, ◌∙◌}
use Rattle.btr_walk.specs.declared.rest.MetAgain.{MetAgain}
use Rattle.btr_walk.specs.declared.fault.TreeFault.{TreeFault}
use Rattle.btr_walk.specs.declared.fault.TreeFault.TheVariants.{Malformed}
use Rattle.btr_walk.specs.Reading.{unread_by}
use Rattle.btr_walk.specs.Rests.{IsMetAgain}
use Rattle.btr_walk.proofs.Fetched.{passed_on}
use Rattle.btr_walk.proofs.Lending.{served_back}
use Rattle.btr_files.specs.declared.progress.Progress.{Progress}
use Rattle.btr_files.specs.declared.streaming.Shown.{Shown}
use Rattle.btr_files.specs.declared.streaming.Shown.TheVariants as shown
use Rattle.btr_files.specs.declared.streaming.Span.TheVariants as span
use Rattle.btr_files.specs.Giving.{after_end, IsGiven}
use Rattle.btr_files.specs.Maps.{TellsAll}
use Rattle.btr_files.specs.Sums.{kind_in}
use Rattle.btr_files.proofs.AllMaps.{all_of_one}
use Rattle.btr_files.proofs.Stepping.{inline_err, inline_other, inline_given}
use Rattle.btr_files.proofs.streaming.give_inline.Goals as goal

pub returns-in_err-loan-clause-content : goal.returns-in_err-loan-clause-content
returns-in_err-loan-clause-content g c =
    let kind = kind_in c.args.vol.now.sup in
    let source = c.args.source.now in
    let p = c.args.progress.now in
    let new = c.met_again.new.store in
    let layout = c.args.vol.now.store.layout in
    let a = g.R.Rack.seen c.args.rack.now in
    let b = g.R.Rack.seen c.met_again.new.rack in
    let is = unread_by layout a b in
    let fault = c.in_err-loan.field-0.0 in
    passed_on (λ r. TellsAll layout a b (λ Bs. IsGiven kind source is Bs p p new r)) c.from_residual.result fault c.from_residual.ensures.1
    (all_of_one layout (λ B. IsMetAgain is B p.rest new c.met_again.result) (λ Bs. IsGiven kind source is Bs p p new (Err fault))
    (λ Bs h. inline_err kind source Bs p is c.args.part.now c.requires.todo p new new fault
    (subst (λ (r : Result MetAgain TreeFault). IsMetAgain is (Bs 0) p.rest new r) (c.in_err-loan.was {u = tt}) h))
    c.met_again.ensures.content)

pub returns-then-not-has_inline-clause-serves : goal.returns-then-not-has_inline-clause-serves
returns-then-not-has_inline-clause-serves g c = served_back (g.R.Rack.seen c.met_again.new.rack) c.met_again.new.store c.give.new.self
    c.in_ok-loan.field-0.loan c.met_again.ensures.serves c.give.ensures

pub returns-then-not-has_inline-clause-content : goal.returns-then-not-has_inline-clause-content
returns-then-not-has_inline-clause-content g c =
    let kind = kind_in c.args.vol.now.sup in
    let source = c.args.source.now in
    let p = c.args.progress.now in
    let new = c.met_again.new.store in
    let layout = c.args.vol.now.store.layout in
    let a = g.R.Rack.seen c.args.rack.now in
    let b = g.R.Rack.seen c.met_again.new.rack in
    let is = unread_by layout a b in
    let m = c.in_ok-loan.field-0 in
    all_of_one layout (λ B. IsMetAgain is B p.rest new c.met_again.result)
    (λ Bs. IsGiven kind source is Bs p p c.give.new.self (Err (Malformed c.args.part.now.leaf)))
    (λ Bs h. inline_other kind source Bs p is c.args.part.now c.requires.todo new m.loan m.at c.bytes.result.now c.bytes.ensures.value
    (subst (λ (r : Result MetAgain TreeFault). IsMetAgain is (Bs 0) p.rest new r) (c.in_ok-loan.was {u = tt}) h)
    p c.give.new.self (Malformed c.args.part.now.leaf) (λ e. let no : false ≡ true = sym c.if-not-has_inline.true ∙ c.has_inline.ensures.1 e in cc))
    c.met_again.ensures.content

pub returns-clause-content : goal.returns-clause-content
returns-clause-content g c =
    let kind = kind_in c.args.vol.now.sup in
    let source = c.args.source.now in
    let p = c.args.progress.now in
    let new = c.met_again.new.store in
    let layout = c.args.vol.now.store.layout in
    let a = g.R.Rack.seen c.args.rack.now in
    let b = g.R.Rack.seen c.met_again.new.rack in
    let is = unread_by layout a b in
    let m = c.in_ok-loan.field-0 in
    let len = c.min-len.result in
    let given : Shown = shown.Bytes m.loan (span.Inline m.at len) in
    subst (λ (x : Progress). TellsAll layout a b (λ Bs. IsGiven kind source is Bs p x new (Ok given))) (sym c.pass_extent.ensures)
    (all_of_one layout (λ B. IsMetAgain is B p.rest new c.met_again.result) (λ Bs. IsGiven kind source is Bs p (after_end source.size p) new (Ok given))
    (λ Bs h. inline_given kind source Bs p is c.args.part.now c.requires.todo new m.loan m.at c.bytes.result.now c.bytes.ensures.value
    (subst (λ (r : Result MetAgain TreeFault). IsMetAgain is (Bs 0) p.rest new r) (c.in_ok-loan.was {u = tt}) h)
    c.requires.begun len c.min-len.ensures)
    c.met_again.ensures.content)

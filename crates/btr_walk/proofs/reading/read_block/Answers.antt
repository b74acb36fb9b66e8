use Rattle.std.proofs.Common.{None, Err, Ok, refl, sym, ap, ◌∙◌, subst}
use Rattle.btr_read.specs.Fetch.{FitsFetch, AnswersOf, CallsFetch}
use Rattle.btr_walk.specs.declared.fault.TreeFault.TheVariants as tree
use Rattle.btr_walk.specs.Le.{want_of}
use Rattle.btr_walk.specs.Reading.{Tells, TellsOf, Reads, HasCause, HasCauseOf, unread_by, tree_fault}
use Rattle.btr_read.specs.Store.{Blocks, block_of, with_loan}
use Rattle.btr_walk.proofs.Fetched.{bad_block, reads_err, cause_err, cause_of_err, by_fault}
use Rattle.btr_walk.proofs.Joined.{drawn}
use Rattle.btr_walk.proofs.Lending.{given_back, served_back}
use Rattle.btr_walk.proofs.reading.read_block.Goals as goal

pub returns-in_err-loan-clause-content : goal.returns-in_err-loan-clause-content
returns-in_err-loan-clause-content g c =
    let want = want_of c.args.level c.args.pointer.now in
    let layout = c.args.store.now.layout in
    let old = g.R.Rack.seen c.args.rack.now in
    let new = g.R.Rack.seen c.fetch.new.rack in
    let fault = c.in_err-loan.field-0.0 in
    let told : Tells layout old new (AnswersOf want c.fetch.new.store (Err fault)) =
    record { calls = subst (λ r. CallsFetch layout want old new c.fetch.new.store r) (c.in_err-loan.was {u = tt}) c.fetch.ensures.calls tt } in
    by_fault (λ r. Tells layout old new (λ B. Reads (unread_by layout old new) B c.args.level c.args.pointer.now c.fetch.new.store r))
    c.from_residual.result fault c.from_residual.ensures.1
    (drawn layout (AnswersOf want c.fetch.new.store (Err fault))
    (λ B. Reads (unread_by layout old new) B c.args.level c.args.pointer.now c.fetch.new.store (Err (tree_fault fault)))
    (λ B h. reads_err layout B old new c.args.level c.args.pointer.now c.fetch.new.store fault
    (subst (FitsFetch layout want old new c.fetch.new.store) (c.in_err-loan.was {u = tt}) c.fetch.ensures.answer) h) told)

pub returns-in_err-loan-clause-cause : goal.returns-in_err-loan-clause-cause
returns-in_err-loan-clause-cause g c =
    let want = want_of c.args.level c.args.pointer.now in
    let layout = c.args.store.now.layout in
    let old = g.R.Rack.seen c.args.rack.now in
    let new = g.R.Rack.seen c.fetch.new.rack in
    let fault = c.in_err-loan.field-0.0 in
    by_fault (HasCause layout old new) c.from_residual.result fault c.from_residual.ensures.1
    (cause_err layout old new c.args.level c.args.pointer.now c.fetch.new.store fault
    (subst (FitsFetch layout want old new c.fetch.new.store) (c.in_err-loan.was {u = tt}) c.fetch.ensures.answer))

pub returns-in_err-loan-clause-of_want : goal.returns-in_err-loan-clause-of_want
returns-in_err-loan-clause-of_want g c =
    let want = want_of c.args.level c.args.pointer.now in
    let layout = c.args.store.now.layout in
    let old = g.R.Rack.seen c.args.rack.now in
    let new = g.R.Rack.seen c.fetch.new.rack in
    let fault = c.in_err-loan.field-0.0 in
    by_fault (HasCauseOf layout want old new) c.from_residual.result fault c.from_residual.ensures.1
    (cause_of_err layout old new c.args.level c.args.pointer.now c.fetch.new.store fault
    (subst (FitsFetch layout want old new c.fetch.new.store) (c.in_err-loan.was {u = tt}) c.fetch.ensures.answer))

pub returns-else-is_judged-clause-serves : goal.returns-else-is_judged-clause-serves
returns-else-is_judged-clause-serves g c = served_back (g.R.Rack.seen c.fetch.new.rack) c.fetch.new.store c.give.new.self c.in_ok-loan.loan
    c.in_ok-loan.ensures.serves (c.give.ensures ∙ ap (λ s. with_loan s c.in_ok-loan.loan.slot None) c.is_judged.ensures.same)

pub returns-then-is_judged-clause-content : goal.returns-then-is_judged-clause-content
returns-then-is_judged-clause-content g c =
    let old = g.R.Rack.seen c.args.rack.now in
    let new = g.R.Rack.seen c.fetch.new.rack in
    let told : TellsOf c.args.store.now old new (λ Is B. Reads Is B c.args.level c.args.pointer.now c.fetch.new.store (Ok c.in_ok-loan.loan)) =
    record { calls = c.in_ok-loan.ensures.calls tt } in
    subst (λ (s : Blocks). TellsOf c.args.store.now old new (λ Is B. Reads Is B c.args.level c.args.pointer.now s (Ok c.in_ok-loan.loan)))
    (sym c.is_judged.ensures.same) told

pub returns-else-is_judged-clause-refused : goal.returns-else-is_judged-clause-refused
returns-else-is_judged-clause-refused g c = given_back _ _ _ _ c.in_ok-loan.loan c.in_ok-loan.ensures.lent
    (c.give.ensures ∙ ap (λ s. with_loan s c.in_ok-loan.loan.slot None) c.is_judged.ensures.same)

pub returns-else-is_judged-clause-content : goal.returns-else-is_judged-clause-content
returns-else-is_judged-clause-content g c =
    let want = want_of c.args.level c.args.pointer.now in
    let is = unread_by c.args.store.now.layout (g.R.Rack.seen c.args.rack.now) (g.R.Rack.seen c.fetch.new.rack) in
    drawn c.args.store.now.layout (AnswersOf want c.fetch.new.store (Ok c.in_ok-loan.loan))
    (λ B. Reads is B c.args.level c.args.pointer.now c.give.new.self (Err (tree.Malformed c.args.pointer.now.addr)))
    (λ B came. (
      refl,
      bad_block B c.args.level c.args.pointer.now (block_of c.fetch.new.store c.in_ok-loan.loan) c.is_judged.result came
          c.is_judged.ensures.judged c.if-is_judged.false,
    ))
    (record { calls = c.in_ok-loan.ensures.calls tt })

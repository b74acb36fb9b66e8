use Rattle.std.proofs.Common.{◌∙◌, sym, ap, refl, arith, Ok, Err, length}
use Rattle.btr_super.specs.Newest.{newest_index}
use Rattle.btr_run.specs.Answers.{answer_of, output_answer}
use Rattle.btr_run.specs.Commands.{MayFail}
use Rattle.btr_run.specs.Newest.{IsSuperOutcome}
use Rattle.btr_run.specs.Faults.{open_answer}
use Rattle.btr_run.specs.declared.answer.Answer.TheVariants.{Done}
use Rattle.btr_run.specs.declared.plan.Command.TheVariants.{Super}
use Rattle.btr_run.proofs.Coming.{answer_gives}
use Rattle.btr_run.proofs.Performing.{only_reads, so_too}
use Rattle.btr_run.proofs.Showing.{refusal_effect, refusal_told, refusal_behind, shown_effect, shown_told, shown_behind, supers_read}
use Rattle.btr_run.proofs.newest.show_newest.Goals as goal

pub returns-in_err-supers : goal.returns-in_err-supers
returns-in_err-supers g c =
    let old = g.R.Rack.seen c.args.rack.now in
    let new = g.R.Rack.seen c.read_supers.new.rack in
    let fault = c.in_err-supers.field-0.0 in
    let told = refusal_told old new fault c.in_err-supers.ensures.cause IsSuperOutcome (g.O.Out.text c.args.out.now) (g.O.Out.account c.args.out.now)
    (answer_of c.from_residual.result)
    (answer_gives c.from_residual.result (open_answer fault) c.from_residual.ensures.1) in
    record {
      effect = refusal_effect old new fault c.in_err-supers.ensures.cause old.held (g.O.Out.text c.args.out.now) (g.O.Out.account c.args.out.now)
          (answer_of c.from_residual.result)
          (answer_gives c.from_residual.result (open_answer fault) c.from_residual.ensures.1) c.in_err-supers.ensures.supers;
      agreed = so_too (g.R.Rack.seen c.args.rack.now).held _ told;
      told = told;
      cause = only_reads Super _ _ _ (refusal_behind old new fault c.in_err-supers.ensures.cause (MayFail Super) (answer_of c.from_residual.result)
          (answer_gives c.from_residual.result (open_answer fault) c.from_residual.ensures.1) c.in_err-supers.ensures.same);
    }

pub returns-in_err-put_super : goal.returns-in_err-put_super
returns-in_err-put_super g c =
    let fault = c.in_err-put_super.field-0.0 in
    let told = shown_told c.choose-slot.result c.index.result.now
    (g.O.Out.text c.args.out.now) (g.O.Out.text c.put_super.new.out) (g.O.Out.account c.args.out.now) (g.O.Out.account c.put_super.new.out)
    (Err fault) c.in_err-put_super.ensures.text c.in_err-put_super.ensures.account
    (answer_of c.from_residual-in_err-put_super.result)
    (answer_gives c.from_residual-in_err-put_super.result (output_answer fault) c.from_residual-in_err-put_super.ensures.1) in
    record {
      effect = shown_effect (g.R.Rack.seen c.args.rack.now).account (g.R.Rack.seen c.read_supers.new.rack).account (g.R.Rack.seen c.args.rack.now).held
          c.in_ok-supers.supers.items c.choose-slot.result c.index.result.now c.in_ok-supers.ensures.supers
          (ap newest_index (sym c.deref.ensures.value) ∙ c.choose-slot.ensures.newest)
          (omega (arith, c.choose-slot.ensures.bound, ap length c.deref.ensures.value)) c.index.ensures
          (g.O.Out.text c.args.out.now) (g.O.Out.text c.put_super.new.out) (g.O.Out.account c.args.out.now) (g.O.Out.account c.put_super.new.out)
          (Err fault) c.in_err-put_super.ensures.text c.in_err-put_super.ensures.account
          (answer_of c.from_residual-in_err-put_super.result)
          (answer_gives c.from_residual-in_err-put_super.result (output_answer fault) c.from_residual-in_err-put_super.ensures.1);
      agreed = so_too (g.R.Rack.seen c.args.rack.now).held _ told;
      told = told;
      cause = only_reads Super _ _ _ (shown_behind (MayFail Super) (g.R.Rack.seen c.args.rack.now) (g.R.Rack.seen c.read_supers.new.rack) (Err fault)
          (supers_read _ _ (Ok c.in_ok-supers.supers) c.in_ok-supers.ensures.same c.in_ok-supers.ensures.cause) c.in_ok-supers.ensures.cause
          (answer_of c.from_residual-in_err-put_super.result)
          (answer_gives c.from_residual-in_err-put_super.result (output_answer fault) c.from_residual-in_err-put_super.ensures.1));
    }

pub returns : goal.returns
returns g c =
    let told = shown_told c.choose-slot.result c.index.result.now
    (g.O.Out.text c.args.out.now) (g.O.Out.text c.put_super.new.out) (g.O.Out.account c.args.out.now) (g.O.Out.account c.put_super.new.out)
    (Ok tt) c.in_ok-put_super.ensures.text c.in_ok-put_super.ensures.account
    (Done 0) refl in
    record {
      effect = shown_effect (g.R.Rack.seen c.args.rack.now).account (g.R.Rack.seen c.read_supers.new.rack).account (g.R.Rack.seen c.args.rack.now).held
          c.in_ok-supers.supers.items c.choose-slot.result c.index.result.now c.in_ok-supers.ensures.supers
          (ap newest_index (sym c.deref.ensures.value) ∙ c.choose-slot.ensures.newest)
          (omega (arith, c.choose-slot.ensures.bound, ap length c.deref.ensures.value)) c.index.ensures
          (g.O.Out.text c.args.out.now) (g.O.Out.text c.put_super.new.out) (g.O.Out.account c.args.out.now) (g.O.Out.account c.put_super.new.out)
          (Ok tt) c.in_ok-put_super.ensures.text c.in_ok-put_super.ensures.account
          (Done 0) refl;
      agreed = so_too (g.R.Rack.seen c.args.rack.now).held _ told;
      told = told;
      cause = only_reads Super _ _ _ (shown_behind (MayFail Super) (g.R.Rack.seen c.args.rack.now) (g.R.Rack.seen c.read_supers.new.rack) (Ok tt)
          (supers_read _ _ (Ok c.in_ok-supers.supers) c.in_ok-supers.ensures.same c.in_ok-supers.ensures.cause) c.in_ok-supers.ensures.cause (Done 0) refl);
    }

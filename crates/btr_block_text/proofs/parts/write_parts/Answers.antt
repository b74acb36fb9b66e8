use Rattle.std.proofs.Common.{◌∙◌, ◌++◌, refl, sym, ap, subst}
use Rattle.std.specs.List.{All, flat_map}
use Rattle.std.specs.Result.{IfOk}
use Rattle.btr_text.proofs.Writing.{cut_writes}
use Rattle.btr_block_text.specs.Read.{of_read}
use Rattle.btr_block_text.proofs.Lines.{so_far_none, so_far_same, so_far_more, so_far_cut, so_far_ended, stand_first}
use Rattle.btr_block_text.proofs.parts.write_parts.Goals as goal

pub loop-read-init : goal.loop-read-init
loop-read-init g c =
    let lines = flat_map (of_read (g.P.Line.line c.args.body.now)) in
    let same = c.into_iter-read-iterator.ensures.into_iter_gives in
    record {
      text = so_far_same (lines c.into_iter-read-iterator.result) (so_far_none (g.O.Out.text c.args.out.now) c.args.text.now (lines c.args.parts))
          (ap lines (sym same));
      account = refl;
      stand = subst (All (λ read. IfOk read (g.P.Line.stands c.args.body.now))) (sym same) c.requires;
    }

pub write-requires : goal.write-requires
write-requires g c =
    subst (λ read. IfOk read (g.P.Line.stands c.args.body.now)) c.in-Ok.is
    (stand_first (g.P.Line.stands c.args.body.now) c.loop-read.read-iterator c.in-Some.read c.next.new.self c.in-Some.ensures.steps
    c.loop-read.invariant.stand).0

pub returns-in_err-write-in-Ok-clause-text : goal.returns-in_err-write-in-Ok-clause-text
returns-in_err-write-in-Ok-clause-text g c =
    let line = of_read (g.P.Line.line c.args.body.now) in
    cut_writes c.from_residual.result c.from_residual.ensures.0
    (so_far_cut (flat_map line c.next.new.self) c.loop-read.invariant.text
    (ap (flat_map line) c.in-Some.ensures.steps ∙ ap (λ read. line read ++ flat_map line c.next.new.self) c.in-Ok.is) c.in_err-write-in-Ok.ensures.text)

pub loop-read-preserved-in-Ok : goal.loop-read-preserved-in-Ok
loop-read-preserved-in-Ok g c =
    let line = of_read (g.P.Line.line c.args.body.now) in
    record {
      text = so_far_more (flat_map line c.next.new.self) c.loop-read.invariant.text
          (ap (flat_map line) c.in-Some.ensures.steps ∙ ap (λ read. line read ++ flat_map line c.next.new.self) c.in-Ok.is) c.in_ok-write-in-Ok.ensures.text;
      account = c.in_ok-write-in-Ok.ensures.account ∙ c.loop-read.invariant.account;
      stand = (stand_first (g.P.Line.stands c.args.body.now) c.loop-read.read-iterator c.in-Some.read c.next.new.self c.in-Some.ensures.steps
          c.loop-read.invariant.stand).1;
    }

pub loop-read-preserved : goal.loop-read-preserved
loop-read-preserved g c =
    let line = of_read (g.P.Line.line c.args.body.now) in
    record {
      text = so_far_same (flat_map line c.next.new.self) c.loop-read.invariant.text
          (ap (flat_map line) c.in-Some.ensures.steps ∙ ap (λ read. line read ++ flat_map line c.next.new.self) c.in-Err.is);
      account = c.loop-read.invariant.account;
      stand = (stand_first (g.P.Line.stands c.args.body.now) c.loop-read.read-iterator c.in-Some.read c.next.new.self c.in-Some.ensures.steps
          c.loop-read.invariant.stand).1;
    }

pub returns-clause-text : goal.returns-clause-text
returns-clause-text g c = so_far_ended c.loop-read.invariant.text (ap (flat_map (of_read (g.P.Line.line c.args.body.now))) c.in-None.ensures.steps.0)

use Rattle.std.proofs.Common.{Ok, sym, ap, ◌∙◌, arith}
use Rattle.btr_walk.specs.Showing.{item_of}
use Rattle.btr_files.specs.declared.clearness.Survey.TheVariants.{Clear, Compressed, Encoded}
use Rattle.btr_files.specs.declared.progress.Todo.{Todo}
use Rattle.btr_files.specs.Ahead.{todo_of}
use Rattle.btr_files.proofs.Extending.{ahead_late, ahead_judged, clear_fits}
use Rattle.btr_files.proofs.extent.ahead_of.Goals as goal

pub returns-then-from-end : goal.returns-then-from-end
returns-then-from-end c = sym (ahead_late c.args.size c.args.end (item_of c.args.found.now) c.in-Ok.extent c.in-Ok.ensures.form
    (omega (arith, c.if-from-end.true, c.from.ensures)))

pub todo_of-requires : goal.todo_of-requires
todo_of-requires c = clear_fits c.args.found.now.key.offset c.args.found.now.body.now c.in-Ok.extent (sym c.judge.ensures ∙ c.in-Clear.is) c.in-Ok.ensures.form

pub returns-in-Compressed : goal.returns-in-Compressed
returns-in-Compressed c = sym (ahead_judged c.args.size c.args.end (item_of c.args.found.now) c.in-Ok.extent c.in-Ok.ensures.form Compressed
    (omega (arith, c.if-from-end.false, c.from.ensures)) (sym c.in-Compressed.is ∙ c.judge.ensures))

pub returns-in-Encoded : goal.returns-in-Encoded
returns-in-Encoded c = sym (ahead_judged c.args.size c.args.end (item_of c.args.found.now) c.in-Ok.extent c.in-Ok.ensures.form Encoded
    (omega (arith, c.if-from-end.false, c.from.ensures)) (sym c.in-Encoded.is ∙ c.judge.ensures))

pub returns-in-Clear : goal.returns-in-Clear
returns-in-Clear c =
    ap (λ (todo : Todo). Ok (record { todo = todo; end = c.end.result })) c.todo_of.ensures
    ∙ ap (λ n. Ok (record { todo = todo_of c.args.size c.args.found.now.block c.args.found.now.key.offset c.in-Ok.extent.shape; end = n })) c.end.ensures
    ∙ sym (ahead_judged c.args.size c.args.end (item_of c.args.found.now) c.in-Ok.extent c.in-Ok.ensures.form Clear
    (omega (arith, c.if-from-end.false, c.from.ensures)) (sym c.in-Clear.is ∙ c.judge.ensures))

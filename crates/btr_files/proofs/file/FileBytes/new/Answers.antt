use Rattle.std.proofs.Common.{ap, ◌∙◌, sym, subst}
use Rattle.btr_base.specs.declared.key.Key.{Key}
use Rattle.btr_walk.specs.Range.{range}
use Rattle.btr_walk.specs.Rests.{met_last}
use Rattle.btr_volume.specs.Tree.{key}
use Rattle.btr_files.specs.declared.progress.Source.{Source}
use Rattle.btr_files.specs.Streaming.{IsInline}
use Rattle.btr_files.proofs.Beginning.{begins_empty, begins_some, going_begun}
use Rattle.btr_files.proofs.file.FileBytes.new.Goals.{then-size-eq0, else-size-eq0}
use Rattle.btr_files.proofs.file.FileBytes.new.Goals as goal

pub returns-clause-program : goal.returns-clause-program
returns-clause-program c kind Bs q h =
    let source : Source = record { size = c.args.size; nosum = c.args.nosum; sums = c.args.sums } in
    let program =
    c.new.ensures.program (Bs 0)
    ∙ ap (λ (k : Key). range k c.key_of-hi.result c.args.tree.place) c.key_of-lo.ensures
    ∙ ap (λ (k : Key). range (key c.args.ino 108 0) k c.args.tree.place) c.key_of-hi.ensures in
    elim c.if-size-eq0.branch [
      | then-size-eq0 w ↦ begins_empty kind source c.args.tree c.args.ino c.new.result Bs c.if-size-eq0.todo q w.if-size-eq0.true w.todo-is h
      | else-size-eq0 w ↦ begins_some kind source c.args.tree c.args.ino c.new.result Bs c.if-size-eq0.todo q w.if-size-eq0.false w.todo-is program h
    ]

pub returns-clause-on : goal.returns-clause-on
returns-clause-on c B = (
  going_begun B c.new.result c.if-size-eq0.todo c.key_of-lo.result c.key_of-hi.result c.new.ensures.lo c.new.ensures.hi (c.new.ensures.on B)
      (elim c.if-size-eq0.branch [
        | then-size-eq0 w ↦ subst (IsInline (met_last B c.new.result)) (sym w.todo-is) tt
        | else-size-eq0 w ↦ subst (IsInline (met_last B c.new.result)) (sym w.todo-is) tt
      ]),
  λ other sum kept. absurd (cc (sym (c.new-ahead.ensures other) ∙ kept)),
)

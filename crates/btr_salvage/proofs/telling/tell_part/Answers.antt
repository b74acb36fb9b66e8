use Rattle.std.proofs.Common.{ℕ, List, Ok, Err, subst}
use Rattle.std.specs.Prelude.{codes}
use Rattle.btr_prog.specs.Prog.{Emit, Return}
use Rattle.btr_listing.specs.Step.{Line}
use Rattle.btr_restore.specs.Running.{Wrote, outside}
use Rattle.btr_salvage.specs.declared.salvaged.Salvaged.{Salvaged}
use Rattle.btr_salvage.specs.Damages.{fault_by}
use Rattle.btr_salvage.specs.Lines.{missing_line, salvaged, with_broken}
use Rattle.btr_salvage.proofs.Tellings.{broke_line, wrote_count}
use Rattle.btr_salvage.proofs.telling.tell_part.Goals as goal

pub returns-in-Ok : goal.returns-in-Ok
returns-in-Ok g c sink calls =
    subst (λ (p : List ℕ). Wrote (Emit (Line (missing_line (codes "part") (fault_by c.args.damage) p)) (Return (with_broken c.args.salvaged.now)))
    (outside sink calls (g.O.Out.text c.args.out.now) (g.O.Out.account c.args.out.now))
    (outside sink calls (g.O.Out.text c.put_missing.new.out) (g.O.Out.account c.put_missing.new.out))
    (Ok (salvaged c.args.salvaged.now.counts c.more-salvaged.result))) c.folder_path.ensures
    (wrote_count _ sink calls _ _ _ _ (λ (so_far : Salvaged). so_far) c.args.salvaged.now _ c.more-salvaged.ensures c.in-Ok.ensures.text
    c.in-Ok.ensures.account)

pub returns-in-Err : goal.returns-in-Err
returns-in-Err g c sink calls =
    subst (λ (p : List ℕ). Wrote (Emit (Line (missing_line (codes "part") (fault_by c.args.damage) p)) (Return (with_broken c.args.salvaged.now)))
    (outside sink calls (g.O.Out.text c.args.out.now) (g.O.Out.account c.args.out.now))
    (outside sink calls (g.O.Out.text c.put_missing.new.out) (g.O.Out.account c.put_missing.new.out)) (Err c.out_stop.result)) c.folder_path.ensures
    (broke_line _ sink calls _ _ _ _ (Unit {0}) _ _ c.in-Err.error c.out_stop.ensures c.in-Err.ensures.text c.in-Err.ensures.account)

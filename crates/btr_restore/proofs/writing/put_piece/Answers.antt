use Rattle.std.proofs.Common.{Bool, Ok, Err, refl, sym, ap, ◌∙◌, subst}
use Rattle.std.specs.Prelude.{◌||◌, not, min, take}
use Rattle.btr_prog.specs.Prog.{Return}
use Rattle.btr_rack.specs.Sink.{grown}
use Rattle.btr_files.specs.declared.piece.Piece.{Piece}
use Rattle.btr_files.specs.declared.piece.Piece.TheVariants as lending
use Rattle.btr_files.specs.Streaming.{piece_of}
use Rattle.btr_restore.specs.Journey.{put}
use Rattle.btr_restore.specs.Restoring.{Emits}
use Rattle.btr_restore.specs.Running.{Wrote, outside}
use Rattle.btr_listing.specs.Step.{Bytes, Zeros}
use Rattle.btr_restore.proofs.Emitting.{as_sink}
use Rattle.btr_listing.proofs.Numbers.{zeros_cut}
use Rattle.btr_restore.proofs.Rans.{emits_part, wrote_refused, wrote_step}
use Rattle.btr_restore.proofs.writing.put_piece.Goals as goal

pub returns-in-Ok-clause-wrote : goal.returns-in-Ok-clause-wrote
returns-in-Ok-clause-wrote g c text calls =
    subst (λ (p : Piece). Wrote (put c.args.plain (piece_of p))
    (outside (g.T.TreeSink.sink c.args.tree.now) (g.T.TreeSink.account c.args.tree.now) text calls)
    (outside (g.T.TreeSink.sink c.gap.new.self) (g.T.TreeSink.account c.gap.new.self) text calls) (Ok c.args.plain)) (sym c.in-Gap.is)
    (wrote_step (Zeros c.in-Gap.count) c.args.plain refl c.in-Ok.ensures.step c.in-Ok.ensures.account)

pub returns-in-Err-clause-wrote : goal.returns-in-Err-clause-wrote
returns-in-Err-clause-wrote g c text calls =
    let cut = c.in-Err.ensures.step in
    subst (λ (p : Piece). Wrote (put c.args.plain (piece_of p))
    (outside (g.T.TreeSink.sink c.args.tree.now) (g.T.TreeSink.account c.args.tree.now) text calls)
    (outside (g.T.TreeSink.sink c.gap.new.self) (g.T.TreeSink.account c.gap.new.self) text calls) (Err c.sink_stop.result)) (sym c.in-Gap.is)
    (wrote_refused c.in-Err.error c.sink_stop.ensures c.in-Err.ensures.account
    (as_sink (λ answer. Emits (put c.args.plain (piece_of (lending.Gap c.in-Gap.count))) (g.T.TreeSink.sink c.args.tree.now)
    (g.T.TreeSink.sink c.gap.new.self) text text answer) _ c.in-Err.error c.sink_stop.ensures
    (emits_part (Zeros c.in-Gap.count) _ _ text (Zeros (min cut.0 c.in-Gap.count)) cut.0 (Return c.args.plain) refl refl
    (cut.1 ∙ ap (λ b. grown b (g.T.TreeSink.sink c.args.tree.now)) (zeros_cut c.in-Gap.count cut.0)))))

pub returns-in-Ok-put-clause-wrote : goal.returns-in-Ok-put-clause-wrote
returns-in-Ok-put-clause-wrote g c text calls =
    subst (λ (p : Piece). Wrote (put c.args.plain (piece_of p))
    (outside (g.T.TreeSink.sink c.args.tree.now) (g.T.TreeSink.account c.args.tree.now) text calls)
    (outside (g.T.TreeSink.sink c.put.new.self) (g.T.TreeSink.account c.put.new.self) text calls) (Ok c.is_plain.result)) (sym c.in-Bytes.is)
    (subst (λ (b : Bool). Wrote (put c.args.plain (piece_of (lending.Bytes c.in-Bytes.bytes c.in-Bytes.verified c.in-Bytes.crc)))
    (outside (g.T.TreeSink.sink c.args.tree.now) (g.T.TreeSink.account c.args.tree.now) text calls)
    (outside (g.T.TreeSink.sink c.put.new.self) (g.T.TreeSink.account c.put.new.self) text calls) (Ok b)) (sym c.is_plain.ensures)
    (wrote_step (Bytes c.in-Bytes.bytes.now) _ refl c.in-Ok-put.ensures.step c.in-Ok-put.ensures.account))

pub returns-in-Err-put-clause-wrote : goal.returns-in-Err-put-clause-wrote
returns-in-Err-put-clause-wrote g c text calls =
    let cut = c.in-Err-put.ensures.step in
    subst (λ (p : Piece). Wrote (put c.args.plain (piece_of p))
    (outside (g.T.TreeSink.sink c.args.tree.now) (g.T.TreeSink.account c.args.tree.now) text calls)
    (outside (g.T.TreeSink.sink c.put.new.self) (g.T.TreeSink.account c.put.new.self) text calls) (Err c.sink_stop-in-Err-put.result)) (sym c.in-Bytes.is)
    (wrote_refused c.in-Err-put.error c.sink_stop-in-Err-put.ensures c.in-Err-put.ensures.account
    (as_sink (λ answer. Emits (put c.args.plain (piece_of (lending.Bytes c.in-Bytes.bytes c.in-Bytes.verified c.in-Bytes.crc)))
    (g.T.TreeSink.sink c.args.tree.now) (g.T.TreeSink.sink c.put.new.self) text text answer) _ c.in-Err-put.error c.sink_stop-in-Err-put.ensures
    (emits_part (Bytes c.in-Bytes.bytes.now) _ _ text (Bytes (take cut.0 c.in-Bytes.bytes.now)) cut.0
    (Return (c.args.plain || not c.in-Bytes.verified)) refl refl cut.1)))

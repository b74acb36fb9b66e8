use Rattle.std.proofs.Common.{ℕ, Bool, Ok, ap, length, ◌∙◌, subst, sym}
use Rattle.std.specs.Prelude.{◌||◌, not}
use Rattle.btr_prog.specs.Prog.{Return}
use Rattle.btr_files.specs.declared.piece.Piece.{Piece}
use Rattle.btr_files.specs.declared.piece.Piece.TheVariants as lending
use Rattle.btr_files.specs.Streaming.{piece_of}
use Rattle.btr_restore.specs.Running.{Wrote, outside}
use Rattle.btr_restore.proofs.Rans.{wrote_halt, wrote_none, wrote_passed, wrote_then}
use Rattle.btr_send.specs.declared.progress.SentPart.{SentPart}
use Rattle.btr_send.specs.Sending.{behind, put, writes}
use Rattle.btr_send.proofs.writing.put_piece.Goals as goal

abbrev progress : ℕ → Bool → SentPart
progress offset plain = record { offset = offset; plain = plain }

pub returns-in-Gap-clause-wrote : goal.returns-in-Gap-clause-wrote
returns-in-Gap-clause-wrote g c text calls =
    let x = outside (g.T.TreeSink.sink c.args.tree.now) (g.T.TreeSink.account c.args.tree.now) text calls in
    subst (λ (p : Piece). Wrote (put c.args.path.now c.args.now (piece_of p)) x x (Ok (progress c.behind.result c.args.now.plain))) (sym c.in-Gap.is)
    (subst (λ (n : ℕ). Wrote (put c.args.path.now c.args.now (piece_of (lending.Gap c.in-Gap.count))) x x (Ok (progress n c.args.now.plain)))
    (sym c.behind.ensures)
    (wrote_none (progress (behind c.args.now.offset c.in-Gap.count) c.args.now.plain) x))

pub returns-in_err-put_writes-in-Bytes-clause-wrote : goal.returns-in_err-put_writes-in-Bytes-clause-wrote
returns-in_err-put_writes-in-Bytes-clause-wrote g c text calls =
    let x = outside (g.T.TreeSink.sink c.args.tree.now) (g.T.TreeSink.account c.args.tree.now) text calls in
    let y = outside (g.T.TreeSink.sink c.put_writes.new.tree) (g.T.TreeSink.account c.put_writes.new.tree) text calls in
    let sent = progress (behind c.args.now.offset (length c.in-Bytes.bytes.now)) (c.args.now.plain || not c.in-Bytes.verified) in
    subst (λ (p : Piece). Wrote (put c.args.path.now c.args.now (piece_of p)) x y c.from_residual.result) (sym c.in-Bytes.is)
    (wrote_passed _ c.from_residual.ensures.1
    (wrote_halt (writes c.args.path.now c.args.now.offset c.in-Bytes.bytes.now) (λ u. Return sent) x y y c.in_err-put_writes-in-Bytes.field-0.0
    (c.in_err-put_writes-in-Bytes.ensures.wrote text calls)))

pub returns-in_ok-put_writes-in-Bytes-clause-wrote : goal.returns-in_ok-put_writes-in-Bytes-clause-wrote
returns-in_ok-put_writes-in-Bytes-clause-wrote g c text calls =
    let x = outside (g.T.TreeSink.sink c.args.tree.now) (g.T.TreeSink.account c.args.tree.now) text calls in
    let y = outside (g.T.TreeSink.sink c.put_writes.new.tree) (g.T.TreeSink.account c.put_writes.new.tree) text calls in
    let sent = progress (behind c.args.now.offset (length c.in-Bytes.bytes.now)) (c.args.now.plain || not c.in-Bytes.verified) in
    subst (λ (p : Piece). Wrote (put c.args.path.now c.args.now (piece_of p)) x y (Ok (progress c.behind-in-Bytes.result c.is_plain.result)))
    (sym c.in-Bytes.is)
    (subst (λ (s : SentPart). Wrote (put c.args.path.now c.args.now (piece_of (lending.Bytes c.in-Bytes.bytes c.in-Bytes.verified c.in-Bytes.crc))) x y (Ok s))
    (sym (ap (λ (n : ℕ). progress n c.is_plain.result) c.behind-in-Bytes.ensures ∙ ap (λ (b : Bool). progress (behind c.args.now.offset
    (length c.in-Bytes.bytes.now)) b) c.is_plain.ensures))
    (wrote_then (writes c.args.path.now c.args.now.offset c.in-Bytes.bytes.now) (λ u. Return sent) x y y tt (Ok sent)
    (c.in_ok-put_writes-in-Bytes.ensures.wrote text calls) (wrote_none sent y)))

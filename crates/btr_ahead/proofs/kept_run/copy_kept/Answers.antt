use Rattle.btr_ahead.proofs.Pieces.{piece_read}
use Rattle.btr_ahead.proofs.kept_run.copy_kept.Goals as goal

-- what is copied is the piece of what is kept
pub returns-in-Some : goal.returns-in-Some
returns-in-Some c = λ held read e.
    rw (c.copy_from_slice.ensures.after, c.in-Some.ensures.piece, ← c.requires.sector)
    (piece_read held c.args.kept.now c.args.place read c.in-Some.ensures.inside.lies)

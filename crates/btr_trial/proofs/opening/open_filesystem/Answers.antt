use Rattle.btr_trial.proofs.Filesystems.{opens_nothing, opens_volume}
use Rattle.btr_trial.proofs.opening.open_filesystem.Goals as goal

pub returns-in-Ok-clause-opened : goal.returns-in-Ok-clause-opened
returns-in-Ok-clause-opened c = opens_volume c.args.rack.now c.open.new.rack c.in-Ok.ensures.reads c.in-Ok.volume c.in-Ok.ensures.fresh c.in-Ok.ensures.content

pub returns-in_ok-unless_memory-in-Err-clause-opened : goal.returns-in_ok-unless_memory-in-Err-clause-opened
returns-in_ok-unless_memory-in-Err-clause-opened c =
    opens_nothing c.args.rack.now c.open.new.rack c.in-Err.ensures.reads c.in-Err.fault c.in_ok-unless_memory-in-Err.ensures c.in-Err.ensures.cause
    c.in-Err.ensures.content

use Rattle.std.proofs.Common.{length, ap, ◌∙◌, rules}
use Rattle.btr_scrub.proofs.Common.{take_at}
use Rattle.btr_scrub.proofs.Working.{can_mend_synced, works_halted, works_passed, works_read, works_synced}
use Rattle.btr_scrub.proofs.mending.mend_and_sync.Goals as goal

pub returns-then-not-task-clause-works : goal.returns-then-not-task-clause-works
returns-then-not-task-clause-works g c chunk there =
    works_read c.args.store.now.layout chunk (search rules) (c.in_ok-mend_chunk.ensures.scrubs chunk there)

pub returns-clause-ready : goal.returns-clause-ready
returns-clause-ready g c =
    let long = c.sync_marked.auto.marks ∙ c.deref_mut.ensures.len in
    rw take_at (can_mend_synced c.args.task.how.write (g.R.Rack.seen c.mend_chunk.new.rack) (g.R.Rack.seen c.sync_marked.new.rack) c.mend_chunk.new.store
    c.mend_chunk.new.progress.marks.items c.sync_marked.new.marks c.in_ok-mend_chunk.ensures.ready c.sync_marked.ensures.only
    (c.sync_marked.auto.marks ∙ ap length c.deref_mut.ensures.value))

pub returns-clause-works : goal.returns-clause-works
returns-clause-works g c chunk there = works_synced c.args.store.now.layout chunk (search rules) (c.in_ok-mend_chunk.ensures.scrubs chunk there)
    (rw c.deref_mut.ensures.value at c.sync_marked.ensures)

pub returns-in_err-mend_chunk-clause-works : goal.returns-in_err-mend_chunk-clause-works
returns-in_err-mend_chunk-clause-works g c chunk there =
    works_passed c.from_residual.ensures.1 (works_halted c.args.store.now.layout chunk (c.in_err-mend_chunk.ensures.scrubs chunk there))

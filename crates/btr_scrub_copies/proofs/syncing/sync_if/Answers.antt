use Rattle.btr_scrub_copies.proofs.Syncs.{sync_slots}
use Rattle.btr_scrub_copies.proofs.syncing.sync_if.Goals as goal

pub returns-then-wanted-clause-slots : goal.returns-then-wanted-clause-slots
returns-then-wanted-clause-slots g c = sync_slots (g.R.Rack.seen c.args.rack.now) (g.R.Rack.seen c.sync_marked.new.rack) c.sync_marked.ensures.only

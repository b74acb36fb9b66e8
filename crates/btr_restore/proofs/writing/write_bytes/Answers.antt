use Rattle.std.proofs.Common.{Bool, false, sym, subst}
use Rattle.btr_super.specs.declared.superblock.Super.{Super}
use Rattle.btr_volume.specs.Lookup.{each}
use Rattle.btr_files.specs.Content.{content}
use Rattle.btr_files.specs.Streaming.{BeginsFile}
use Rattle.btr_files.specs.Sums.{kind_in}
use Rattle.btr_restore.specs.Journey.{has_no_sums, put}
use Rattle.btr_restore.specs.Running.{outside, world}
use Rattle.btr_restore.proofs.Rans.{ran_else, ran_if, ran_wrote, wrote_none}
use Rattle.btr_restore.proofs.Writings.{writing_first, writing_over}
use Rattle.btr_restore.proofs.writing.write_bytes.Goals as goal

pub returns-then-job-clause-ran : goal.returns-then-job-clause-ran
returns-then-job-clause-ran g c s text calls e = ran_if _ _ _ _ _ _ c.if-job.true (ran_wrote _ _ _ _ _ _ c.requires.ready (wrote_none false _))

pub returns-clause-ran : goal.returns-clause-ran
returns-clause-ran g c s text calls e =
    let begins = subst (λ (b : Bool). BeginsFile (kind_in c.args.vol.now.sup) c.new-file.result (content
    (kind_in c.args.vol.now.sup) c.args.job.now.sums b c.args.inode.now.size c.args.entry.now.tree
    c.args.entry.now.row.location.objectid)) c.has_no_sums-nosum.ensures
    (c.new-file.ensures.program (kind_in c.args.vol.now.sup)) in
    let begins_so = subst (λ (t : Super). BeginsFile (kind_in c.args.vol.now.sup) c.new-file.result (content (kind_in t) c.args.job.now.sums
    (has_no_sums c.args.inode.now) c.args.inode.now.size c.args.entry.now.tree
    c.args.entry.now.row.location.objectid)) (sym e) begins in
    ran_else _ _ _ _ _ _ c.if-job.false
    (writing_over put (each put false (content (kind_in s) c.args.job.now.sums (has_no_sums c.args.inode.now)
    c.args.inode.now.size c.args.entry.now.tree
    c.args.entry.now.row.location.objectid)) (world (g.R.Rack.seen c.args.rack.now) c.args.vol.now
    (outside (g.T.TreeSink.sink c.args.tree.now) (g.T.TreeSink.account c.args.tree.now) text calls))
    (world (g.R.Rack.seen c.put_pieces-plain.new.rack) c.put_pieces-plain.new.vol
    (outside (g.T.TreeSink.sink c.put_pieces-plain.new.tree) (g.T.TreeSink.account c.put_pieces-plain.new.tree) text calls)) c.finish.new.vol
    c.put_pieces-plain.new.file c.put_pieces-plain.result c.requires.ready
    (c.put_pieces-plain.ensures.writes (each put false (content (kind_in s) c.args.job.now.sums (has_no_sums c.args.inode.now)
    c.args.inode.now.size
    c.args.entry.now.tree c.args.entry.now.row.location.objectid)) (world (g.R.Rack.seen c.args.rack.now) c.args.vol.now
    (outside (g.T.TreeSink.sink c.args.tree.now) (g.T.TreeSink.account c.args.tree.now) text calls)) text calls
    (writing_first put false (world (g.R.Rack.seen c.args.rack.now) c.args.vol.now
    (outside (g.T.TreeSink.sink c.args.tree.now) (g.T.TreeSink.account c.args.tree.now) text calls)) c.new-file.result
    (content (kind_in s) c.args.job.now.sums (has_no_sums c.args.inode.now) c.args.inode.now.size
    c.args.entry.now.tree c.args.entry.now.row.location.objectid)
    (c.new-file.ensures.reading (g.R.Rack.seen c.args.rack.now) c.args.vol.now.store c.requires.ready.serves)
    (c.new-file.ensures.free c.args.vol.now.store) begins_so c.new-file.ensures.on))
    c.finish.ensures.sup c.finish.ensures.back (c.finish.ensures.serves (g.R.Rack.seen c.put_pieces-plain.new.rack) c.put_pieces-plain.ensures.ready.serves))

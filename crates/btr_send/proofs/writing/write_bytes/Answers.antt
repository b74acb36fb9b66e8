use Rattle.std.proofs.Common.{Bool, sym, subst}
use Rattle.btr_super.specs.declared.superblock.Super.{Super}
use Rattle.btr_volume.specs.Lookup.{each}
use Rattle.btr_files.specs.Content.{content}
use Rattle.btr_files.specs.Streaming.{BeginsFile}
use Rattle.btr_files.specs.Sums.{kind_in}
use Rattle.btr_restore.specs.Journey.{has_no_sums}
use Rattle.btr_restore.specs.Running.{outside, world}
use Rattle.btr_send.specs.Sending.{at_front, put}
use Rattle.btr_restore.proofs.Writings.{writing_first, writing_over}
use Rattle.btr_send.proofs.writing.write_bytes.Goals as goal

pub returns-clause-ran : goal.returns-clause-ran
returns-clause-ran g c s text calls e =
    let begins = subst (λ (b : Bool). BeginsFile (kind_in c.args.vol.now.sup) c.new-file.result (content
    (kind_in c.args.vol.now.sup) c.args.which.now.sums b c.args.which.now.inode.now.size c.args.which.now.tree c.args.which.now.ino))
    c.has_no_sums-nosum.ensures (c.new-file.ensures.program
    (kind_in c.args.vol.now.sup)) in
    let begins_so = subst (λ (t : Super). BeginsFile (kind_in c.args.vol.now.sup) c.new-file.result (content (kind_in t) c.args.which.now.sums
    (has_no_sums c.args.which.now.inode.now) c.args.which.now.inode.now.size c.args.which.now.tree c.args.which.now.ino)) (sym e) begins in
    writing_over (put c.args.which.now.path.now) (each (put c.args.which.now.path.now) at_front (content (kind_in s) c.args.which.now.sums
    (has_no_sums c.args.which.now.inode.now) c.args.which.now.inode.now.size c.args.which.now.tree c.args.which.now.ino)) (world
    (g.R.Rack.seen c.args.rack.now) c.args.vol.now (outside
    (g.T.TreeSink.sink c.args.tree.now) (g.T.TreeSink.account c.args.tree.now) text calls)) (world
    (g.R.Rack.seen c.put_pieces-sent.new.rack) c.put_pieces-sent.new.vol (outside (g.T.TreeSink.sink c.put_pieces-sent.new.tree)
    (g.T.TreeSink.account c.put_pieces-sent.new.tree) text calls)) c.finish.new.vol c.put_pieces-sent.new.file c.put_pieces-sent.result c.requires.ready
    (c.put_pieces-sent.ensures.writes (each (put c.args.which.now.path.now) at_front (content (kind_in s) c.args.which.now.sums
    (has_no_sums c.args.which.now.inode.now) c.args.which.now.inode.now.size c.args.which.now.tree c.args.which.now.ino)) (world
    (g.R.Rack.seen c.args.rack.now) c.args.vol.now (outside
    (g.T.TreeSink.sink c.args.tree.now) (g.T.TreeSink.account c.args.tree.now) text calls)) text calls
    (writing_first (put c.args.which.now.path.now) at_front (world (g.R.Rack.seen c.args.rack.now) c.args.vol.now (outside (g.T.TreeSink.sink c.args.tree.now)
    (g.T.TreeSink.account c.args.tree.now) text calls)) c.new-file.result (content (kind_in s) c.args.which.now.sums
    (has_no_sums c.args.which.now.inode.now) c.args.which.now.inode.now.size c.args.which.now.tree c.args.which.now.ino)
    (c.new-file.ensures.reading (g.R.Rack.seen c.args.rack.now) c.args.vol.now.store c.requires.ready.serves)
    (c.new-file.ensures.free c.args.vol.now.store) begins_so c.new-file.ensures.on))
    c.finish.ensures.sup c.finish.ensures.back (c.finish.ensures.serves (g.R.Rack.seen c.put_pieces-sent.new.rack) c.put_pieces-sent.ensures.ready.serves)

use Rattle.std.proofs.Common.{Bool, sym, subst}
use Rattle.btr_super.specs.declared.superblock.Super.{Super}
use Rattle.btr_files.specs.Content.{content}
use Rattle.btr_files.specs.Streaming.{BeginsFile}
use Rattle.btr_files.specs.Sums.{kind_in}
use Rattle.btr_restore.specs.Journey.{has_no_sums}
use Rattle.btr_salvage.proofs.Readings.{passing_first, passing_over}
use Rattle.btr_salvage.proofs.reading.read_through.Goals as goal

pub returns : goal.returns
returns g c x s e =
    let begins = subst (λ (b : Bool). BeginsFile (kind_in c.args.vol.now.sup) c.new-file.result
    (content (kind_in c.args.vol.now.sup) c.args.job.now.sums b c.args.inode.now.size c.args.root.now c.args.ino)) c.has_no_sums-nosum.ensures
    (c.new-file.ensures.program (kind_in c.args.vol.now.sup)) in
    let begins_so = subst (λ (t : Super). BeginsFile (kind_in c.args.vol.now.sup) c.new-file.result
    (content (kind_in t) c.args.job.now.sums (has_no_sums c.args.inode.now) c.args.inode.now.size c.args.root.now c.args.ino)) (sym e) begins in
    passing_over (content (kind_in s) c.args.job.now.sums (has_no_sums c.args.inode.now) c.args.inode.now.size c.args.root.now c.args.ino)
    (g.R.Rack.seen c.args.rack.now) c.args.vol.now (g.R.Rack.seen c.pass_pieces-read.new.rack) c.pass_pieces-read.new.vol c.finish.new.vol
    c.pass_pieces-read.new.file x c.pass_pieces-read.result c.requires
    (c.pass_pieces-read.ensures.passes (content (kind_in s) c.args.job.now.sums
    (has_no_sums c.args.inode.now) c.args.inode.now.size c.args.root.now c.args.ino) (g.R.Rack.seen c.args.rack.now) c.args.vol.now
    (passing_first (g.R.Rack.seen c.args.rack.now) c.args.vol.now c.new-file.result
    (content (kind_in s) c.args.job.now.sums (has_no_sums c.args.inode.now) c.args.inode.now.size c.args.root.now c.args.ino)
    (c.new-file.ensures.reading (g.R.Rack.seen c.args.rack.now) c.args.vol.now.store c.requires.serves)
    (c.new-file.ensures.free c.args.vol.now.store) begins_so c.new-file.ensures.on))
    c.finish.ensures.sup c.finish.ensures.back (c.finish.ensures.serves (g.R.Rack.seen c.pass_pieces-read.new.rack) c.pass_pieces-read.ensures.ready.serves)

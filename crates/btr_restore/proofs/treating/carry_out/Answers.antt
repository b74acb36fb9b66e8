use Rattle.btr_restore.proofs.Rans.{ran_wrote}
use Rattle.btr_restore.proofs.Treats.{done_empty, done_file, done_folder, done_skip}
use Rattle.btr_restore.proofs.treating.carry_out.Goals as goal

pub returns-in-Skip-clause-ran : goal.returns-in-Skip-clause-ran
returns-in-Skip-clause-ran g c s e = done_skip c.args.job.now c.args.entry.now c.args.counts.now s _ _ _ _ c.in-Skip.cause c.in-Skip.is
    (ran_wrote _ _ _ _ _ _ c.requires.ready (c.leave_out.ensures.wrote _ _))

pub returns-in-File-clause-ran : goal.returns-in-File-clause-ran
returns-in-File-clause-ran g c s e = done_file c.args.job.now c.args.entry.now c.args.counts.now s _ _ _ _ _ c.name_of-name.ensures c.in-File.inode
    c.in-File.is (c.write_file.ensures.ran s e)

pub returns-in-Empty-clause-ran : goal.returns-in-Empty-clause-ran
returns-in-Empty-clause-ran g c s e = done_empty c.args.job.now c.args.entry.now c.args.counts.now s _ _ _ _ _ c.name_of-name-in-Empty.ensures
    c.in-Empty.is (ran_wrote _ _ _ _ _ _ c.requires.ready c.enter_empty.ensures.wrote)

pub returns-in-Folder-clause-ran : goal.returns-in-Folder-clause-ran
returns-in-Folder-clause-ran g c s e = done_folder c.args.job.now c.args.entry.now c.args.counts.now s _ _ _ _ _ c.name_of-name-in-Folder.ensures
    c.in-Folder.tree c.in-Folder.dirid c.in-Folder.is (ran_wrote _ _ _ _ _ _ c.requires.ready c.enter.ensures.wrote)

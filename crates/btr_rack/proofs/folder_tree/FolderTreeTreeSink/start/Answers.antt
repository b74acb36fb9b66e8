use Rattle.std.proofs.Common.{ap, sym, ◌∙◌, is_some}
use Rattle.btr_rack.specs.Sink.{started}
use Rattle.btr_rack.specs.Told.{path_of}
use Rattle.btr_rack.specs.FolderTree.{unstarted}
use Rattle.btr_rack.proofs.Unstarted.{unstarted_at, not_there, no_room}
use Rattle.btr_rack.proofs.folder_tree.FolderTreeTreeSink.start.Goals as goal

pub returns-in-Entered-clause-step : goal.returns-in-Entered-clause-step
returns-in-Entered-clause-step g c =
    c.new.ensures ∙ ap (λ n. started n unstarted) (ap path_of c.in-Entered.ensures)
    ∙ ap (λ s. started c.args.name.now s) (sym (unstarted_at c.args.self.now.at c.requires))

pub returns-in_default-clause-account : goal.returns-in_default-clause-account
returns-in_default-clause-account g c = no_room c.args.self.now.faults c.args.self.now.room c.take.new.self (is_some c.args.self.now.at)
    (sym c.take.ensures.value ∙ c.in_default.is) c.take.ensures.after (not_there c.args.self.now.at c.requires)

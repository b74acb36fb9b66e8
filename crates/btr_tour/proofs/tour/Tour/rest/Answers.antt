use Rattle.std.proofs.Common.{◌∙◌, sym}
use Rattle.btr_walk.proofs.Nexts.{none_was}
use Rattle.btr_tour.proofs.Resting.{rests_none, rests_kept}
use Rattle.btr_tour.proofs.tour.Tour.rest.Goals as goal

pub returns-in-None-clause-rests : goal.returns-in-None-clause-rests
returns-in-None-clause-rests c = rests_none c.args.store.now c.args.self (none_was c.args.self.leaf (sym c.give_leaf.ensures.frame ∙ c.in-None.is))

pub returns-in-Some-clause-rests : goal.returns-in-Some-clause-rests
returns-in-Some-clause-rests c = rests_kept c.args.store.now c.args.self c.in-Some.frame (sym c.give_leaf.ensures.frame ∙ c.in-Some.is) c.requires
    c.kept_of-leaf.result c.kept_of-leaf.ensures

use Rattle.std.proofs.Common.{refl, sym, ap, ◌∙◌}
use Rattle.std.specs.Option.{option_map}
use Rattle.btr_walk.specs.Hand.{frame_of}
use Rattle.btr_walk.proofs.Nexts.{paused_none, paused_some, ready_paused}
use Rattle.btr_walk.proofs.scan.Scan.pause.Goals as goal

pub returns-in-Some-clause-ready : goal.returns-in-Some-clause-ready
returns-in-Some-clause-ready c = λ rack r. ready_paused rack c.args.store.now c.give_leaf.new.store c.args.self.now c.take.new.self _ c.take.ensures.after
    refl (c.give_leaf.ensures.serves rack) r

pub returns-in-Some-clause-paused : goal.returns-in-Some-clause-paused
returns-in-Some-clause-paused c = paused_some c.args.store.now c.give_leaf.new.store c.args.self.now c.take.new.self c.take.ensures.after c.in-Some.frame
    (ap (option_map frame_of) (sym c.take.ensures.value) ∙ sym c.give_leaf.ensures.frame ∙ c.in-Some.is) c.requires

pub returns-in_default-clause-ready : goal.returns-in_default-clause-ready
returns-in_default-clause-ready c = λ rack r. ready_paused rack c.args.store.now c.give_leaf.new.store c.args.self.now c.take.new.self _ c.take.ensures.after
    refl (c.give_leaf.ensures.serves rack) r

pub returns-in_default-clause-paused : goal.returns-in_default-clause-paused
returns-in_default-clause-paused c = paused_none c.args.store.now c.give_leaf.new.store c.args.self.now c.take.new.self c.take.ensures.after
    (ap (option_map frame_of) (sym c.take.ensures.value) ∙ sym c.give_leaf.ensures.frame ∙ c.in_default.is)

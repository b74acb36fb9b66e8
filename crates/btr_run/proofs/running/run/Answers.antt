use Rattle.btr_run.proofs.Ending.{answered, committed, effect, first_part, left_images, shows_trial}
use Rattle.btr_run.proofs.running.run.Goals as goal

pub returns-clause-answered : goal.returns-clause-answered
returns-clause-answered g c = answered _ c.finish.new.out c.finish.result c.finish.ensures.put c.carry_out-done.ensures.obeyed c.finish.ensures.silent

pub returns-clause-effect : goal.returns-clause-effect
returns-clause-effect g c =
    effect _ c.finish.new.out c.finish.result c.finish.ensures.put c.carry_out-done.ensures.obeyed
    c.settled.ensures c.opened_then.ensures.listed c.opened_then.ensures.refused c.opened_then.ensures.halted
    (g.met.T.TreeSink.sound c.args.tree.now) c.requires.fresh

pub returns-clause-headline : goal.returns-clause-headline
returns-clause-headline g c =
    committed _ c.finish.new.out c.finish.result c.finish.ensures.put c.carry_out-done.ensures.obeyed
    c.settled.ensures c.opened_then.ensures.listed c.opened_then.ensures.refused c.opened_then.ensures.halted
    (g.met.T.TreeSink.sound c.args.tree.now) c.requires.fresh c.headline.ensures

pub returns-clause-part : goal.returns-clause-part
returns-clause-part g c = first_part _ c.finish.new.out c.finish.result c.finish.ensures.put c.carry_out-done.ensures.obeyed c.committed_order.ensures

pub returns-clause-images : goal.returns-clause-images
returns-clause-images g c = left_images _ c.finish.new.out c.finish.result c.finish.ensures.put c.carry_out-done.ensures.obeyed

pub returns-clause-trial : goal.returns-clause-trial
returns-clause-trial g c =
    shows_trial _ c.finish.new.out c.finish.result c.finish.ensures.put c.carry_out-done.ensures.obeyed (g.M.Maker.volume c.args.maker)
    c.carry_out-done.ensures.tried

use Rattle.btr_check_space.specs.Orders.{span_cmp, group_span}
use Rattle.btr_check_space.specs.declared.group.Group.{Group}
use Rattle.btr_check_space.proofs.Put.{keys_more}
use Rattle.btr_check_space.proofs.keys.group_spans.Goals as goal

abbrev nothing : Group
nothing = record { start = 0; len = 0; used = 0; flags = 0 }

pub loop-group-preserved : goal.loop-group-preserved
loop-group-preserved c = keys_more span_cmp group_span c.args.groups.now c.loop-group.group-index nothing c.loop-group.set c.put_key.new.set
    c.loop-group-test.true c.in_ok-put_key.ensures c.loop-group.invariant

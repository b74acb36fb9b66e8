use Rattle.btr_check_space.specs.Orders.{range_cmp, span_range}
use Rattle.btr_check_space.specs.declared.span.Span.{Span}
use Rattle.btr_check_space.proofs.Put.{keys_more}
use Rattle.btr_check_space.proofs.keys.span_ranges.Goals as goal

abbrev nothing : Span
nothing = record { start = 0; len = 0; flags = 0 }

pub loop-span-preserved : goal.loop-span-preserved
loop-span-preserved c = keys_more range_cmp span_range c.args.spans.now c.loop-span.span-index nothing c.loop-span.set c.put_key.new.set
    c.loop-span-test.true c.in_ok-put_key.ensures c.loop-span.invariant

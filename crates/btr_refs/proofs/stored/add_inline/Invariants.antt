use Rattle.std.proofs.Common.{◌≡◌}
use Rattle.btr_items.specs.InlineRef.{inline_refs_of}
use Rattle.btr_refs.specs.Counts.{counted_all}
use Rattle.btr_refs.specs.Extents.{parts_counted}
use Rattle.btr_refs.proofs.stored.add_inline.Given as goal

-- those that are left, and what was counted, are all
abbrev pub invariant-loop-part : goal.invariant-loop-part
invariant-loop-part l = counted_all l.refs (parts_counted l.fn.addr l.part-iterator)
    ≡ counted_all l.fn.refs (parts_counted l.fn.addr (inline_refs_of l.fn.first l.fn.body))

use Rattle.std.proofs.Common.{IsSomeAnd, take, subst, sym}
use Rattle.btr_pool.specs.Slots.{bytes_at}
use Rattle.btr_read.specs.Store.{IsNode, kept_in}
use Rattle.btr_read.proofs.Loans.{block_there}
use Rattle.btr_read.proofs.Nodes.{known_node}
use Rattle.btr_read.proofs.store.Store.is_known_node.Goals as goal

pub returns-then-slot-lt-SLOTS : goal.returns-then-slot-lt-SLOTS
returns-then-slot-lt-SLOTS c = λ yes.
    let s = c.self.inside in
    let slot = c.loan.inside.slot in
    let len = c.loan.inside.len in
    let known = known_node s.kept.wants s.kept.nodes s.pool.bytes s.setting.nodesize c.slot-slot.result c.self.invariant.known
    (c.is_node.ensures.stands yes) (c.is_node.ensures.node yes) in
    let there = subst (λ k. IsNode (take s.setting.nodesize (bytes_at s.pool k))) c.slot-slot.ensures known in
    let whole = subst (λ n. IsNode (take n (bytes_at s.pool slot))) (sym c.if-loan-self.false) there in
    subst (λ o. IsSomeAnd o IsNode) (sym (block_there s.chunks s.devices.items s.setting (kept_in s.setting s.kept.wants s.pool.bytes) s.pool
    c.args.self.now slot len c.args.loan.now c.self.view_is c.loan.view_is c.self.invariant.store.whole c.requires.live)) whole

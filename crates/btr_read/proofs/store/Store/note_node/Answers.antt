use Rattle.std.proofs.Common.{true, IsSomeAnd, take, set, subst, ap, ◌∙◌}
use Rattle.btr_pool.specs.Slots.{bytes_at}
use Rattle.btr_read.specs.Store.{IsNode, kept_in}
use Rattle.btr_read.proofs.Loans.{block_there}
use Rattle.btr_read.proofs.Nodes.{nodes_noted}
use Rattle.btr_read.proofs.store.Store.note_node.Goals as goal

pub invariant_of-self : goal.invariant_of-self
invariant_of-self c =
    let s = c.self.inside in
    let slot = c.loan.inside.slot in
    let len = c.loan.inside.len in
    let block = block_there s.chunks s.devices.items s.setting (kept_in s.setting s.kept.wants s.pool.bytes) s.pool c.args.self.now slot len c.args.loan.now
    c.self.view_is c.loan.view_is c.self.invariant.store.whole c.requires.live.live in
    let node : IsNode (take len (bytes_at s.pool slot)) = subst (λ o. IsSomeAnd o IsNode) block c.requires.node in
    let whole = subst (λ n. IsNode (take n (bytes_at s.pool slot))) c.if-loan-self.false node in
    let noted = c.note_node.ensures.nodes ∙ ap (λ k. set s.kept.nodes k true) c.slot-slot.ensures in
    record {
      store = c.self.invariant.store;
      known = nodes_noted s.kept.wants c.note_node.new.self.wants s.kept.nodes c.note_node.new.self.nodes s.pool.bytes s.setting.nodesize slot
          c.self.invariant.known c.note_node.ensures.wants noted whole;
    }

-- Which answers are faults of trees.
use Rattle.std.proofs.Common.{◌≡◌, Option, Some, None, refl, sym, ap, ◌∙◌}
use Rattle.btr_walk.specs.declared.fault.TreeFault.{TreeFault}
use Rattle.btr_walk.specs.declared.fault.TreeFault.TheVariants as tree
use Rattle.btr_rack.specs.Rack.{Seen}
use Rattle.btr_run.specs.Behind.{AnyFault, HasToldCause}
use Rattle.btr_run.specs.Faults.{tree_answer}
use Rattle.btr_run.specs.declared.answer.Answer.{Answer}
use Rattle.btr_run.specs.declared.answer.Answer.TheVariants.{Lost, Malformed, Unmapped, Crosses, Unread}

-- the fault of a tree that an answer is
abbrev pub tree_in : Answer → Option TreeFault
tree_in (Lost addr) = Some (tree.Lost addr)
tree_in (Unread addr slot) = Some (tree.Unread addr slot)
tree_in (Unmapped addr) = Some (tree.Unmapped addr)
tree_in (Crosses addr) = Some (tree.Crosses addr)
tree_in (Malformed addr) = Some (tree.Malformed addr)
tree_in answer = None

-- the answer of a fault of a tree is that fault
pub tree_back : (fault : TreeFault) → tree_in (tree_answer fault) ≡ Some fault
tree_back (tree.Lost addr) = refl
tree_back fault = refl

-- an answer that is none
pub no_tree : (answer : Answer) → tree_in answer ≡ None → (fault : TreeFault) → answer ≡ tree_answer fault → ⊥
no_tree answer none fault is = cc (sym none ∙ ap tree_in is ∙ tree_back fault)

-- an answer that is no fault of a tree has no cause to tell
pub untold : (old new : Seen) (answer : Answer) → tree_in answer ≡ None → HasToldCause AnyFault old new answer
untold old new answer none fault is told = absurd (no_tree answer none fault is)

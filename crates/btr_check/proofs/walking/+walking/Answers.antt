use Rattle.std.proofs.Common.{◌-◌, ◌+◌, ℕ, [], Result, Ok, Err, Option, None, take, get_or, sym, subst}
use Rattle.std.proofs.lemmas.List.Elements.{Contains-get_or}
use Rattle.std.specs.Bool.{⊤}
use Rattle.btr_volume.specs.declared.stop.Stop.{Stop}
use Rattle.btr_walk.specs.declared.block_pointer.BlockPointer.{BlockPointer}
use Rattle.btr_check.specs.declared.opening.Opened.{Opened}
use Rattle.btr_check.specs.declared.subtrees.Edges.{Edges}
use Rattle.btr_check.specs.Passing.{Opens, Walks, children_marks, subtree_marks}
use Rattle.btr_check.specs.Running.{world, filesystem}
use Rattle.btr_check.proofs.Openings.{AreChildren, kept_outside, passed_outside, ran_kept, ran_passed, walks_child, walks_end, walks_node, walks_whole}
use Rattle.btr_check.proofs.Passing.{walked_nothing}
use Rattle.btr_check.proofs.Runs.{nothing, ran_both, ran_none, ran_stop_within, ran_then, ran_value, stop_is}
use Rattle.btr_check.proofs.Wanting.{below_wanted, here_wanted}
use Rattle.btr_check.proofs.walking.+walking.Goals as goal

pub walk_block-returns-in-Some-clause-outside : goal.walk_block-returns-in-Some-clause-outside
walk_block-returns-in-Some-clause-outside g t c =
    passed_outside c.args.walk.now c.pass.new.walk c.in-Some.edges c.pass.result c.pass.ensures

pub walk_block-returns-in-Some-clause-ran : goal.walk_block-returns-in-Some-clause-ran
walk_block-returns-in-Some-clause-ran g t c =
    ran_passed (world (g.R.Rack.seen c.args.rack.now) c.args.vol.now) c.args.level c.args.pointer.now c.args.walk.now c.pass.new.walk
    c.args.subtrees.now.known.entries c.in-Some.edges c.pass.result c.requires.ready c.in-Some.ensures c.pass.ensures

pub walk_block-returns-clause-outside : goal.walk_block-returns-clause-outside
walk_block-returns-clause-outside g t c =
    kept_outside c.walk_below.new.subtrees.keeps c.args.level c.args.pointer.now c.in_ok-edges.edges c.walk_below.new.walk
    c.walk_below.new.subtrees.known.entries c.keep.new.subtrees.known.entries c.keep.result c.keep.ensures

pub walk_block-returns-clause-ran : goal.walk_block-returns-clause-ran
walk_block-returns-clause-ran g t c =
    ran_kept c.walk_below.new.subtrees.keeps c.args.level c.args.pointer.now c.args.walk.now c.walk_below.new.walk c.args.subtrees.now.known.entries
    c.walk_below.new.subtrees.known.entries c.keep.new.subtrees.known.entries c.in_ok-edges.edges
    (world (g.R.Rack.seen c.args.rack.now) c.args.vol.now) (world (g.R.Rack.seen c.walk_below.new.rack) c.walk_below.new.vol) c.keep.result
    c.in_ok-edges.ensures.ran c.keep.ensures

pub walk_block-returns-in_err-edges-clause-outside : goal.walk_block-returns-in_err-edges-clause-outside
walk_block-returns-in_err-edges-clause-outside g t c = rw (stop_is c.from_residual.result c.from_residual.ensures.1) c.in_err-edges.ensures.outside

pub walk_block-returns-in_err-edges-clause-ran : goal.walk_block-returns-in_err-edges-clause-ran
walk_block-returns-in_err-edges-clause-ran g t c = rw (stop_is c.from_residual.result c.from_residual.ensures.1) c.in_err-edges.ensures.ran

pub walk_below-returns-in_err-edges-clause-outside : goal.walk_below-returns-in_err-edges-clause-outside
walk_below-returns-in_err-edges-clause-outside g t c =
    rw (stop_is c.from_residual.result c.from_residual.ensures.1) c.in_err-edges.ensures.outside

pub walk_below-returns-in_err-edges-clause-ran : goal.walk_below-returns-in_err-edges-clause-ran
walk_below-returns-in_err-edges-clause-ran g t c =
    rw (stop_is c.from_residual.result c.from_residual.ensures.1)
    (ran_stop_within {A = Opened} {C = Option Edges} (λ fs. ⊤) (λ fs. ⊤) (world (g.R.Rack.seen c.args.rack.now) c.args.vol.now)
    (world (g.R.Rack.seen c.open_block.new.rack) c.open_block.new.vol) c.in_err-edges.field-0.0 c.in_err-edges.ensures.ran (λ B h. tt)
    (λ B want w. here_wanted (filesystem c.args.vol.now B) c.args.level c.args.pointer.now want w))

pub walk_below-returns-in-Whole-clause-ran : goal.walk_below-returns-in-Whole-clause-ran
walk_below-returns-in-Whole-clause-ran g t c =
    let opened = c.in_ok-edges.field-0 in
    let level = c.args.level in
    let pointer = c.args.pointer.now in
    let old = c.args.walk.now in
    let new = c.open_block.new.walk in
    let known = c.args.subtrees.now.known.entries in
    ran_value (λ fs. Opens fs level pointer old new opened)
    (λ fs. Walks fs (subtree_marks fs level pointer) old new known known (Ok c.in-Whole.edges))
    (world (g.R.Rack.seen c.args.rack.now) c.args.vol.now) (world (g.R.Rack.seen c.open_block.new.rack) c.open_block.new.vol) opened c.in-Whole.edges
    c.in_ok-edges.ensures.ran
    (λ B h. walks_whole (filesystem c.args.vol.now B) level pointer old new known c.in-Whole.edges
    (subst (Opens (filesystem c.args.vol.now B) level pointer old new) c.in-Whole.is h))

pub walk_below-returns-in-Children-clause-ran : goal.walk_below-returns-in-Children-clause-ran
walk_below-returns-in-Children-clause-ran g t c =
    let opened = c.in_ok-edges.field-0 in
    let level = c.args.level in
    let pointer = c.args.pointer.now in
    let old = c.args.walk.now in
    let mid = c.open_block.new.walk in
    let new = c.walk_children.new.walk in
    let known = c.args.subtrees.now.known.entries in
    let after = c.walk_children.new.subtrees.known.entries in
    let block_pointers = c.as_slice.result.now in
    let r = c.walk_children.result in
    let are : AreChildren opened block_pointers = subst (λ o. AreChildren o block_pointers) (sym c.in-Children.is) c.as_slice.ensures.value in
    ran_then (λ fs. Opens fs level pointer old mid opened)
    (λ fs. (addr : ℕ) → Walks fs (children_marks fs addr (level - 1) block_pointers) mid new known after r)
    (λ fs. Walks fs (subtree_marks fs level pointer) old new known after r)
    (world (g.R.Rack.seen c.args.rack.now) c.args.vol.now) (world (g.R.Rack.seen c.open_block.new.rack) c.open_block.new.vol)
    (world (g.R.Rack.seen c.walk_children.new.rack) c.walk_children.new.vol) opened r c.in_ok-edges.ensures.ran c.walk_children.ensures.ran
    (λ B h walks. walks_node (filesystem c.args.vol.now B) level pointer old new mid known after opened block_pointers r h are walks)
    (λ B h want w. below_wanted (filesystem c.args.vol.now B) level pointer old mid opened block_pointers want h are w)

pub walk_children-loop-pointer-init : goal.walk_children-loop-pointer-init
walk_children-loop-pointer-init g t c =
    let known = c.args.subtrees.now.known.entries in
    let walk = c.args.walk.now in
    record {
      ran = ran_none (λ fs. (addr : ℕ) → Walks fs [] walk walk known known (Ok None)) (world (g.R.Rack.seen c.args.rack.now) c.args.vol.now) None
          c.requires.ready (λ B addr knows. walked_nothing (filesystem c.args.vol.now B) walk known knows);
    }

pub walk_children-loop-pointer-preserved : goal.walk_children-loop-pointer-preserved
walk_children-loop-pointer-preserved g t c =
    let l = c.loop-pointer in
    let level = c.args.level in
    let block_pointers = c.args.block_pointers.now in
    let none : BlockPointer = record { addr = 0; generation = 0; first = None; up = None } in
    let old = c.args.walk.now in
    let mid = l.walk in
    let new = c.walk_block.new.walk in
    let first = c.args.subtrees.now.known.entries in
    let known = l.subtrees.known.entries in
    let after = c.walk_block.new.subtrees.known.entries in
    record {
      ran = ran_both (λ fs. (addr : ℕ) → Walks fs (children_marks fs addr level (take l.pointer-index block_pointers)) old mid first known (Ok l.edges))
          (λ fs. Walks fs (subtree_marks fs level (get_or block_pointers l.pointer-index none)) mid new known after (Ok c.in_ok-more.more))
          (λ fs. (addr : ℕ) → Walks fs (children_marks fs addr level (take (l.pointer-index + 1) block_pointers)) old new first after (Ok c.join-edges.result))
          (world (g.R.Rack.seen c.args.rack.now) c.args.vol.now) (world (g.R.Rack.seen l.rack) l.vol)
          (world (g.R.Rack.seen c.walk_block.new.rack) c.walk_block.new.vol) l.edges c.join-edges.result l.invariant.ran
          (ran_value {U = nothing} (λ fs. Walks fs (subtree_marks fs level (get_or block_pointers l.pointer-index none)) mid new known after
          (Ok c.in_ok-more.more))
          (λ fs. Walks fs (subtree_marks fs level (get_or block_pointers l.pointer-index none)) mid new known after (Ok c.in_ok-more.more))
          (world (g.R.Rack.seen l.rack) l.vol) (world (g.R.Rack.seen c.walk_block.new.rack) c.walk_block.new.vol) c.in_ok-more.more c.join-edges.result
          c.in_ok-more.ensures.ran
          (λ B h. h))
          (λ B p q addr. walks_child (filesystem c.args.vol.now B) addr level block_pointers l.pointer-index none old mid new first known after l.edges
          c.in_ok-more.more
          c.join-edges.result c.loop-pointer-test.true c.join-edges.ensures (p addr) q);
    }

pub walk_children-returns-in_err-more-clause-outside : goal.walk_children-returns-in_err-more-clause-outside
walk_children-returns-in_err-more-clause-outside g t c = rw (stop_is c.from_residual.result c.from_residual.ensures.1) c.in_err-more.ensures.outside

pub walk_children-returns-in_err-more-clause-ran : goal.walk_children-returns-in_err-more-clause-ran
walk_children-returns-in_err-more-clause-ran g t c =
    let l = c.loop-pointer in
    let none : BlockPointer = record { addr = 0; generation = 0; first = None; up = None } in
    let stopped : Result (Option Edges) Stop = Err c.in_err-more.field-0.0 in
    rw (stop_is c.from_residual.result c.from_residual.ensures.1)
    (ran_then (λ fs. (addr : ℕ) → Walks fs (children_marks fs addr c.args.level (take l.pointer-index c.args.block_pointers.now)) c.args.walk.now l.walk
    c.args.subtrees.now.known.entries l.subtrees.known.entries (Ok l.edges))
    (λ fs. ⊤) (λ fs. (addr : ℕ) → ⊤) (world (g.R.Rack.seen c.args.rack.now) c.args.vol.now) (world (g.R.Rack.seen l.rack) l.vol)
    (world (g.R.Rack.seen c.walk_block.new.rack) c.walk_block.new.vol) l.edges stopped l.invariant.ran c.in_err-more.ensures.ran (λ B p q addr. tt)
    (λ B p want w. (
      get_or c.args.block_pointers.now l.pointer-index none,
      Contains-get_or c.args.block_pointers.now l.pointer-index none
          c.loop-pointer-test.true,
      w,
    )))

pub walk_children-returns-clause-ran : goal.walk_children-returns-clause-ran
walk_children-returns-clause-ran g t c =
    let l = c.loop-pointer in
    let old = c.args.walk.now in
    let first = c.args.subtrees.now.known.entries in
    ran_value {A = Option Edges} {C = Option Edges}
    (λ fs. (addr : ℕ) → Walks fs (children_marks fs addr c.args.level (take l.pointer-index c.args.block_pointers.now)) old l.walk first
    l.subtrees.known.entries
    (Ok l.edges))
    (λ fs. (addr : ℕ) → Walks fs (children_marks fs addr c.args.level c.args.block_pointers.now) old l.walk first l.subtrees.known.entries (Ok l.edges))
    (world (g.R.Rack.seen c.args.rack.now) c.args.vol.now) (world (g.R.Rack.seen l.rack) l.vol) l.edges l.edges l.invariant.ran
    (λ B p addr. walks_end (filesystem c.args.vol.now B) addr c.args.level c.args.block_pointers.now l.pointer-index old l.walk first l.subtrees.known.entries
    l.edges
    c.loop-pointer-test.false (p addr))

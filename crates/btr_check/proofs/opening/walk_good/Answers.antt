use Rattle.std.proofs.Common.{◌≡◌, ap, ◌∙◌, subst}
use Rattle.btr_node.specs.Block.{items}
use Rattle.btr_tour.specs.Tour.{Block, place_of}
use Rattle.btr_check.specs.Passing.{WalksItems}
use Rattle.btr_check.specs.Walking.{walk_step}
use Rattle.btr_check.proofs.opening.walk_good.Goals as goal

pub returns-in_ok-edges-clause-walked : goal.returns-in_ok-edges-clause-walked
returns-in_ok-edges-clause-walked c =
    let block = c.args.block.now in
    let met : c.meet_block.new.self ≡ walk_step c.args.walk.now (Block (place_of c.args.level c.args.pointer.now) block) =
    c.in_ok-meet_block.ensures block ∙ ap (λ p. walk_step c.args.walk.now (Block p block)) c.place_of.ensures in (
      c.if-level-eq0.true,
      subst (λ s. WalksItems c.args.pointer.now.addr (items block) s c.walk_items.new.walk c.in_ok-edges.edges) met c.in_ok-edges.ensures,
    )

pub returns-in_ok-block_pointers-clause-walked : goal.returns-in_ok-block_pointers-clause-walked
returns-in_ok-block_pointers-clause-walked c =
    let block = c.args.block.now in
    (c.in_ok-meet_block.ensures block ∙ ap (λ p. walk_step c.args.walk.now (Block p block)) c.place_of.ensures, c.in_ok-block_pointers.ensures)

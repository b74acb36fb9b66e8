use Rattle.std.proofs.Common.{◌≡◌, ◌+◌, Some, Ok, Err, sym, ap, ◌∙◌, refl, inr}
use Rattle.btr_scrub.proofs.Common.{Chunk, Return, bind, blocks_of, err_from_is_err_and, extent_met, scene, tree_behind}
use Rattle.btr_prog.specs.Prog.{Stop}
use Rattle.btr_read.specs.Fate as fate
use Rattle.btr_volume.specs.declared.stop.Stop.TheVariants.{Tree}
use Rattle.btr_walk.specs.declared.fault.TreeFault.TheVariants as tree
use Rattle.btr_scrub.specs.Extents.{crossing, span_of}
use Rattle.btr_scrub.proofs.Extending.{extent_crosses, extent_gives, extent_malformed}
use Rattle.btr_scrub.proofs.Gathering.{gathers_from, gathers_halt, gathers_stop, gathers_then, gathers_value}
use Rattle.btr_scrub.proofs.collecting.gather_extent.Given as given
use Rattle.btr_scrub.proofs.collecting.gather_extent.Goals.{After-gather_blocks}
use Rattle.btr_scrub.proofs.collecting.gather_extent.Goals as goal

pub returns-then-is_malformed : goal.returns-then-is_malformed
returns-then-is_malformed g c chunk span there =
    let x = scene (g.R.Rack.seen c.args.rack.now) c.args.vol.now c.args.gathered.now in
    gathers_from (Stop (fate.Malformed c.args.met.now.leaf)) (extent_met c.args.vol.now.sup
    (tree_behind c.args.sums) chunk c.args.met.now.end_before c.args.met.now.leaf
    (Some c.args.met.now.extent)) x x (Err (Tree (tree.Malformed c.args.met.now.leaf)))
    (sym (extent_malformed c.args.vol.now.sup (tree_behind c.args.sums) chunk c.args.met.now.end_before c.args.met.now.leaf c.args.met.now.extent
    (sym c.is_malformed.ensures ∙ c.if-is_malformed.true))) (gathers_stop (fate.Malformed c.args.met.now.leaf)
    (Tree (tree.Malformed c.args.met.now.leaf)) x c.requires.serves (λ B. (refl, refl)) tt)

pub returns-then-is_crossing : goal.returns-then-is_crossing
returns-then-is_crossing g c chunk span there =
    let x = scene (g.R.Rack.seen c.args.rack.now) c.args.vol.now c.args.gathered.now in
    let crosses = sym (ap (λ s. crossing s c.args.met.now.extent) span) ∙ sym c.is_crossing.ensures ∙ c.if-is_crossing.true in
    gathers_from (Stop (fate.Crosses c.args.met.now.extent.addr))
    (extent_met c.args.vol.now.sup (tree_behind c.args.sums) chunk c.args.met.now.end_before c.args.met.now.leaf (Some c.args.met.now.extent)) x x
    (Err (Tree (tree.Crosses c.args.met.now.extent.addr)))
    (sym (extent_crosses c.args.vol.now.sup (tree_behind c.args.sums) chunk c.args.met.now.end_before c.args.met.now.leaf c.args.met.now.extent
    (sym c.is_malformed.ensures ∙ c.if-is_malformed.false) crosses))
    (gathers_stop (fate.Crosses c.args.met.now.extent.addr) (Tree (tree.Crosses c.args.met.now.extent.addr)) x c.requires.serves (λ B. (refl, refl))
    (inr (record { chunk = chunk; there = there; extent = c.args.met.now.extent; at = refl; crosses = crosses })))

-- what is met of an extent that is neither malformed nor crosses are its blocks
blocks_met : (g : given.Over) (c : After-gather_blocks g) (chunk : Chunk) → c.args.span.now ≡ span_of chunk
    → bind (blocks_of c.args.vol.now.sup (tree_behind c.args.sums) c.args.met.now.extent c.args.met.now.extent.level)
    (λ (u : Unit {0}). Return (c.args.met.now.extent.addr + c.args.met.now.extent.len))
    ≡ extent_met c.args.vol.now.sup (tree_behind c.args.sums) chunk c.args.met.now.end_before c.args.met.now.leaf (Some c.args.met.now.extent)
blocks_met g c chunk span =
    sym (extent_gives c.args.vol.now.sup (tree_behind c.args.sums) chunk c.args.met.now.end_before c.args.met.now.leaf c.args.met.now.extent
    (sym c.is_malformed.ensures ∙ c.if-is_malformed.false)
    (sym (ap (λ s. crossing s c.args.met.now.extent) span) ∙ sym c.is_crossing.ensures ∙ c.if-is_crossing.false))

pub returns : goal.returns
returns g c chunk span there =
    let x = scene (g.R.Rack.seen c.args.rack.now) c.args.vol.now c.args.gathered.now in
    let y = scene (g.R.Rack.seen c.gather_blocks.new.rack) c.gather_blocks.new.vol c.gather_blocks.new.gathered in
    let far = c.args.met.now.extent.addr + c.args.met.now.extent.len in
    gathers_from _ _ x y (Ok far) (blocks_met g (goal.at.returns g c).After-gather_blocks chunk span)
    (gathers_then _ (λ (u : Unit {0}). Return far) x y y tt (Ok far) c.in_ok-gather_blocks.ensures
    (gathers_value far y c.in_ok-gather_blocks.ensures.lists.is_list c.in_ok-gather_blocks.ensures.serves))

pub returns-in_err-gather_blocks : goal.returns-in_err-gather_blocks
returns-in_err-gather_blocks g c chunk span there =
    let x = scene (g.R.Rack.seen c.args.rack.now) c.args.vol.now c.args.gathered.now in
    let y = scene (g.R.Rack.seen c.gather_blocks.new.rack) c.gather_blocks.new.vol c.gather_blocks.new.gathered in
    let e = err_from_is_err_and c.from_residual.result c.from_residual.ensures.1 in
    rw (e.1, e.2) (gathers_from _ _ x y (Err c.in_err-gather_blocks.field-0.0)
    (blocks_met g (goal.at.returns-in_err-gather_blocks g c).After-gather_blocks chunk span)
    (gathers_halt _ (λ (u : Unit {0}). Return (c.args.met.now.extent.addr + c.args.met.now.extent.len)) x y c.in_err-gather_blocks.field-0.0
    c.in_err-gather_blocks.ensures))

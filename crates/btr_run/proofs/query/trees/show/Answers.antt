use Rattle.std.proofs.Common.{◌≡◌, List, ℕ, Option, Result, sym, subst}
use Rattle.std.specs.Option.{IfSome}
use Rattle.btr_dump.specs.Pieces.{all_trees, asked_tree, block_shown, kind_in, roots_shown}
use Rattle.btr_prog.specs.Prog.{exec}
use Rattle.btr_rack.specs.Out.{CallAccount}
use Rattle.btr_rack.specs.Rack.{Seen}
use Rattle.btr_read.specs.Fate.{Agree, Agreed, fate}
use Rattle.btr_read.specs.declared.want.Want.TheVariants as want
use Rattle.btr_volume.specs.declared.stop.Stop.{Stop}
use Rattle.btr_volume.specs.declared.volume.Volume.{Volume}
use Rattle.btr_run.specs.Behind.{IfSteady}
use Rattle.btr_run.specs.Outcomes.{ShowsOutcome, showing}
use Rattle.btr_run.specs.Queries.Trees.{AgreesOn, ShowsUpTo, call_answer, trees_shown}
use Rattle.btr_run.specs.declared.query.DumpChoice.{DumpChoice}
use Rattle.btr_read.proofs.Fetched.{map_some}
use Rattle.btr_run.proofs.TreesShown.{run_agreed, run_comes, steadily, steadily_block, told_agreed, told_block, tree_agreed, tree_comes}
use Rattle.btr_run.proofs.query.trees.show.Goals as goal

-- what a call is to promise of a choice
module _ (volume : Volume) (old new : Seen) (text text' : Option (List ℕ)) (before after : CallAccount) (result : Result (Unit {0}) Stop) where
  abbrev Content : DumpChoice → Type 0
  Content choice = IfSteady old.held old.account new.account (λ images.
      ShowsOutcome (λ outcome. outcome ≡ showing (trees_shown choice (fate images volume.store.layout) volume.sup)) text text' before after
      (call_answer result))

  abbrev Agreeing : DumpChoice → Type 0
  Agreeing choice = IfSome old.held (λ images. Agreed images volume.store.layout → AgreesOn choice images volume.store.layout
      → ShowsOutcome (ShowsUpTo choice (fate images volume.store.layout) volume.sup) text text' before after (call_answer result))

pub returns-in-All-clause-content : goal.returns-in-All-clause-content
returns-in-All-clause-content g c =
    let volume = c.args.volume.now in
    subst (Content volume (g.R.Rack.seen c.args.rack.now) (g.R.Rack.seen c.dump_all.new.rack) (g.O.Out.text c.args.out.now) (g.O.Out.text c.dump_all.new.out)
    (g.O.Out.account c.args.out.now) (g.O.Out.account c.dump_all.new.out) c.dump_all.result) (sym c.in-All.is)
    (run_comes volume.store.layout _ _ _ _ _ _ _ c.dump_all.ensures.account
    (λ B. exec B (all_trees volume.sup)) (steadily _ _ _ _ c.dump_all.ensures.content))

pub returns-in-Block-clause-content : goal.returns-in-Block-clause-content
returns-in-Block-clause-content g c =
    let volume = c.args.volume.now in
    subst (Content volume (g.R.Rack.seen c.args.rack.now) (g.R.Rack.seen c.dump_block.new.rack)
    (g.O.Out.text c.args.out.now) (g.O.Out.text c.dump_block.new.out)
    (g.O.Out.account c.args.out.now) (g.O.Out.account c.dump_block.new.out) c.dump_block.result) (sym c.in-Block.is)
    (run_comes volume.store.layout _ _ _ _ _ _ _ c.dump_block.ensures.account
    (λ B. exec B (block_shown (kind_in volume.sup) c.in-Block.addr)) (steadily_block _ _ _ c.in-Block.addr _ c.dump_block.ensures.content))

pub returns-in-Tree-clause-content : goal.returns-in-Tree-clause-content
returns-in-Tree-clause-content g c =
    let volume = c.args.volume.now in
    subst (Content volume (g.R.Rack.seen c.args.rack.now) (g.R.Rack.seen c.dump_tree.new.rack)
    (g.O.Out.text c.args.out.now) (g.O.Out.text c.dump_tree.new.out)
    (g.O.Out.account c.args.out.now) (g.O.Out.account c.dump_tree.new.out) c.dump_tree.result) (sym c.in-Tree.is)
    (tree_comes volume.store.layout _ _ _ _ _ _ _ c.dump_tree.ensures.account
    (λ B. exec B (asked_tree volume.sup c.in-Tree.id)) (steadily _ _ _ _ c.dump_tree.ensures.content))

pub returns-in-RootLines-clause-content : goal.returns-in-RootLines-clause-content
returns-in-RootLines-clause-content g c =
    let volume = c.args.volume.now in
    subst (Content volume (g.R.Rack.seen c.args.rack.now) (g.R.Rack.seen c.list_roots.new.rack)
    (g.O.Out.text c.args.out.now) (g.O.Out.text c.list_roots.new.out)
    (g.O.Out.account c.args.out.now) (g.O.Out.account c.list_roots.new.out) c.list_roots.result) (sym c.in-RootLines.is)
    (run_comes volume.store.layout _ _ _ _ _ _ _ c.list_roots.ensures.account
    (λ B. exec B (roots_shown volume.sup)) (steadily _ _ _ _ c.list_roots.ensures.content))

pub returns-in-All-clause-agreed : goal.returns-in-All-clause-agreed
returns-in-All-clause-agreed g c =
    let volume = c.args.volume.now in
    subst (Agreeing volume (g.R.Rack.seen c.args.rack.now) (g.R.Rack.seen c.dump_all.new.rack) (g.O.Out.text c.args.out.now) (g.O.Out.text c.dump_all.new.out)
    (g.O.Out.account c.args.out.now) (g.O.Out.account c.dump_all.new.out) c.dump_all.result) (sym c.in-All.is)
    (map_some (g.R.Rack.seen c.args.rack.now).held _ _ (λ images shows agreed agree. shows agreed)
    (run_agreed volume.store.layout _ _ _ _ _ _ _ c.dump_all.ensures.account
    (λ images. Agreed images volume.store.layout) (λ B. exec B (all_trees volume.sup)) (told_agreed _ _ _ _ c.dump_all.ensures.content)))

pub returns-in-Block-clause-agreed : goal.returns-in-Block-clause-agreed
returns-in-Block-clause-agreed g c =
    let volume = c.args.volume.now in
    subst (Agreeing volume (g.R.Rack.seen c.args.rack.now) (g.R.Rack.seen c.dump_block.new.rack)
    (g.O.Out.text c.args.out.now) (g.O.Out.text c.dump_block.new.out)
    (g.O.Out.account c.args.out.now) (g.O.Out.account c.dump_block.new.out) c.dump_block.result) (sym c.in-Block.is)
    (map_some (g.R.Rack.seen c.args.rack.now).held _ _ (λ images shows agreed agree. shows agree)
    (run_agreed volume.store.layout _ _ _ _ _ _ _ c.dump_block.ensures.account
    (λ images. Agree images volume.store.layout (want.Block c.in-Block.addr)) (λ B. exec B (block_shown (kind_in volume.sup) c.in-Block.addr))
    (told_block _ _ _ c.in-Block.addr _ c.dump_block.ensures.content)))

pub returns-in-Tree-clause-agreed : goal.returns-in-Tree-clause-agreed
returns-in-Tree-clause-agreed g c =
    let volume = c.args.volume.now in
    subst (Agreeing volume (g.R.Rack.seen c.args.rack.now) (g.R.Rack.seen c.dump_tree.new.rack)
    (g.O.Out.text c.args.out.now) (g.O.Out.text c.dump_tree.new.out)
    (g.O.Out.account c.args.out.now) (g.O.Out.account c.dump_tree.new.out) c.dump_tree.result) (sym c.in-Tree.is)
    (map_some (g.R.Rack.seen c.args.rack.now).held _ _ (λ images shows agreed agree. shows agreed)
    (tree_agreed volume.store.layout _ _ _ _ _ _ _ c.dump_tree.ensures.account
    (λ images. Agreed images volume.store.layout) (λ B. exec B (asked_tree volume.sup c.in-Tree.id)) (told_agreed _ _ _ _ c.dump_tree.ensures.content)))

pub returns-in-RootLines-clause-agreed : goal.returns-in-RootLines-clause-agreed
returns-in-RootLines-clause-agreed g c =
    let volume = c.args.volume.now in
    subst (Agreeing volume (g.R.Rack.seen c.args.rack.now) (g.R.Rack.seen c.list_roots.new.rack)
    (g.O.Out.text c.args.out.now) (g.O.Out.text c.list_roots.new.out)
    (g.O.Out.account c.args.out.now) (g.O.Out.account c.list_roots.new.out) c.list_roots.result) (sym c.in-RootLines.is)
    (map_some (g.R.Rack.seen c.args.rack.now).held _ _ (λ images shows agreed agree. shows agreed)
    (run_agreed volume.store.layout _ _ _ _ _ _ _ c.list_roots.ensures.account
    (λ images. Agreed images volume.store.layout) (λ B. exec B (roots_shown volume.sup)) (told_agreed _ _ _ _ c.list_roots.ensures.content)))

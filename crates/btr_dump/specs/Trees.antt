-- The trees that the items of a scan describe.
use Rattle.std.specs.Prelude.{◌≡◌, ℕ, ◌<◌, List, [], ◌++◌, Some, None, Result, Ok, Err}
use Rattle.btr_prog.specs.Prog.{Does, exec, first, prepend}
use Rattle.btr_prog.specs.Answers.{Follows, no_part}
use Rattle.btr_read.specs.Store.{Blocks}
use Rattle.btr_read.specs.declared.want.Want.{Want}
use Rattle.btr_walk.specs.Going.{IsOn}
use Rattle.btr_walk.specs.Le.{TreeItem}
use Rattle.btr_walk.specs.Reading.{Map, UnreadBlock, halt_of}
use Rattle.btr_walk.specs.ScanEnds.{left_of}
use Rattle.btr_walk.specs.Scans.{wants}
use Rattle.btr_walk.specs.declared.fault.TreeFault.{TreeFault}
use Rattle.btr_walk.specs.declared.scan.Scan.{Scan}
use Rattle.btr_dump.specs.Pieces.{item_root}
use Rattle.btr_dump.specs.declared.trees.NextItem.{NextItem}
use Rattle.btr_dump.specs.declared.trees.NextItem.TheVariants.{End, Other, Tree}

-- some wants, and then an item; what is left comes behind
pub record GivesItem (B : Map) (seen : List Want) (old new : Blocks) (scan scan' : Scan) (item : TreeItem) : Type 0 where
  pub past : List Want
  pub is : exec B (left_of B old scan) ≡ prepend (wants past) (first (Does item) (exec B (left_of B new scan')))
  pub on : IsOn scan'.lo scan'.hi B (seen ++ past) scan'.place

-- what the next item of a scan describes
abbrev pub NextItemBy : (UnreadBlock → Want → Type 0) → Map → List Want → Blocks → Blocks → Scan → Scan → Result NextItem TreeFault → Type 0
NextItemBy Is B seen old new scan scan' (Ok End) = Follows Is no_part seen (exec B (left_of B old scan)) [] (Ok tt)
NextItemBy Is B seen old new scan scan' (Ok Other) = (item : TreeItem) × GivesItem B seen old new scan scan' item × (item_root item ≡ None)
NextItemBy Is B seen old new scan scan' (Ok (Tree root)) = (item : TreeItem) × GivesItem B seen old new scan scan' item × (item_root item ≡ Some root)
NextItemBy Is B seen old new scan scan' (Err f) = Follows Is no_part seen (exec B (left_of B old scan)) [] (Err (halt_of f))

-- a scan that gave an item comes nearer to its end
abbrev pub ItemRankFalls : ℕ → ℕ → Result NextItem TreeFault → Type 0
ItemRankFalls old new (Ok End) = Unit {0}
ItemRankFalls old new (Ok Other) = new < old
ItemRankFalls old new (Ok (Tree root)) = new < old
ItemRankFalls old new (Err f) = Unit {0}

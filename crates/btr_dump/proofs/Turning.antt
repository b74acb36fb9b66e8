-- One turn of a loop over the trees that the items of a scan describe.
use Rattle.std.proofs.Common.{◌≡◌, cond, List, [], ◌++◌, Option, Some, None, Result, Ok, Err, refl, sym, ap, ◌∙◌, subst, eq-eqb}
use Rattle.std.proofs.lemmas.List.{append_assoc}
use Rattle.btr_base.specs.declared.kind.SumKind.{SumKind}
use Rattle.btr_items.specs.Form.{map_ok}
use Rattle.btr_items.specs.RootItem.{root_item_of}
use Rattle.btr_items.specs.declared.fault.ItemFault.{ItemFault}
use Rattle.btr_prog.specs.Prog.{exec, wants_of}
use Rattle.btr_read.specs.Store.{Blocks, SameLoans}
use Rattle.btr_read.specs.declared.want.Want.{Want}
use Rattle.btr_text.proofs.Writing.{wrote_nothing}
use Rattle.btr_walk.specs.Going.{IsOn}
use Rattle.btr_walk.specs.Le.{TreeItem}
use Rattle.btr_walk.specs.Reading.{Map, UnreadBlock}
use Rattle.btr_walk.specs.ScanEnds.{left_of}
use Rattle.btr_walk.specs.declared.scan.Scan.{Scan}
use Rattle.btr_volume.specs.Tree.{described}
use Rattle.btr_volume.specs.declared.root.TreeRoot.{TreeRoot}
use Rattle.btr_volume.specs.declared.stop.Stop.{Stop}
use Rattle.btr_dump.specs.Pieces.{Text, Shown, if_formed, item_root, item_trees, tree_if, tree_shown}
use Rattle.btr_dump.specs.Showing.{TextRun, ShowsMore, WroteAll, ShowsText}
use Rattle.btr_dump.specs.Trees.{GivesItem}
use Rattle.btr_walk.proofs.Staying.{left_same, on_more}
use Rattle.btr_dump.proofs.Loops.{turn_goes, turn_moves, turn_stops}

-- the root that a ROOT_ITEM was read to have, if any
pub item_root_read : (item : TreeItem) (read : Result TreeRoot ItemFault) → item.key.kind ≡ 132 → read
    ≡ map_ok (described item.key) (root_item_of item.body) → if_formed read ≡ item_root item
unfolding item_root
item_root_read item read is same = ap if_formed same ∙ ap (λ b. cond b (if_formed (map_ok (described item.key) (root_item_of item.body))) None)
    (sym (eq-eqb _ _ is))

module _ (Is : UnreadBlock → Want → Type 0) (B : Map) (kind : SumKind) (seen : List Want) (old mid : Blocks) (scan scan' : Scan) (item : TreeItem)
    (gives : GivesItem B seen old mid scan scan' item) where
  -- the tree that an item describes, as text, if there is one
  abbrev show : TreeItem → Shown
  show i = tree_if kind (item_root i)

  -- the scan stands at its place, by these wants
  abbrev On : List Want → Type 0
  On ws = IsOn scan'.lo scan'.hi B ws scan'.place

  -- the text of all trees that were to come
  abbrev from : TextRun (Unit {0})
  from = exec B (item_trees kind (left_of B old scan))

  -- an item that describes no tree
  pub other_goes : (text : Option Text) (waits : Text) → item_root item ≡ None
      → ShowsMore On from (exec B (item_trees kind (left_of B mid scan'))) seen text text waits waits
  other_goes text waits none =
      turn_goes show B (left_of B old scan) (left_of B mid scan') item gives.past gives.is On Is seen (seen ++ gives.past) text text waits waits
      (ap (λ o. wants_of (exec B (tree_if kind o)).marks) none) gives.on
      (subst (λ o. WroteAll Is (seen ++ gives.past) (exec B (tree_if kind o)) text text waits waits (Ok tt)) (sym none)
      (record { done = []; wrote = wrote_nothing text waits; follows = (refl, refl) }))

  -- a tree was written to its end
  pub tree_goes : (root : TreeRoot) → item_root item ≡ Some root → (new : Blocks) → SameLoans mid new
      → (text text' : Option Text) (waited waits : Text) → WroteAll Is (seen ++ gives.past) (exec B (tree_shown kind root)) text text' waited waits (Ok tt)
      → ShowsMore On from (exec B (item_trees kind (left_of B new scan'))) seen text text' waited waits
  tree_goes root is new same text text' waited waits w =
      subst (λ p. ShowsMore On from (exec B (item_trees kind p)) seen text text' waited waits) (sym (left_same B mid new scan' same))
      (turn_moves show B (left_of B old scan) (left_of B mid scan') item gives.past gives.is On Is seen (seen ++ gives.past) text text' waited waits
      (subst On (append_assoc seen gives.past (wants_of (exec B (show item)).marks))
      (on_more scan'.lo scan'.hi B (seen ++ gives.past) (wants_of (exec B (show item)).marks) scan'.place gives.on))
      (subst (λ o. WroteAll Is (seen ++ gives.past) (exec B (tree_if kind o)) text text' waited waits (Ok tt)) (sym is) w))

  -- or to some place
  pub tree_stops : (root : TreeRoot) → item_root item ≡ Some root → (text text' : Option Text) (waited waits : Text) (stop : Stop)
      → ShowsText {A = Unit {0}} Is (seen ++ gives.past) (exec B (tree_shown kind root)) text text' waited waits (Err stop)
      → ShowsText {A = Unit {0}} Is seen from text text' waited waits (Err stop)
  tree_stops root is text text' waited waits stop w =
      turn_stops show B (left_of B old scan) (left_of B mid scan') item gives.past gives.is Is seen text text' waited waits stop
      (subst (λ o. ShowsText {A = Unit {0}} Is (seen ++ gives.past) (exec B (tree_if kind o)) text text' waited waits (Err stop)) (sym is) w)

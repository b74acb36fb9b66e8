-- The trees that a root tree lists.
use Rattle.std.proofs.Common.{◌≡◌, ℕ, List, [], ◌++◌, fold, Option, OnOk, Some, None, Result, Ok, Err, if◌then◌else◌, eq-eqb, refl, sym, ap, ◌∙◌}
use Rattle.std.specs.Result.{result_ok}
use Rattle.btr_base.specs.declared.key.Key.{Key}
use Rattle.btr_items.specs.Form.{map_ok}
use Rattle.btr_items.specs.RootItem.{root_item_of}
use Rattle.btr_items.specs.declared.fault.ItemFault.{ItemFault}
use Rattle.btr_items.specs.declared.root_item.RootItem.{RootItem}
use Rattle.btr_volume.specs.Tree.{described}
use Rattle.btr_volume.specs.declared.root.TreeRoot.{TreeRoot}
use Rattle.btr_check.specs.Trees.{tree_in}
use Rattle.std.specs.Option.{option_map, option_to_list}
use Rattle.btr_check.proofs.Folding.{IsRootWalk, root_walked}
use Rattle.btr_check.proofs.Lists.{first_mapped, no_first}
use Rattle.btr_check.specs.Before.{wrong, root_faults, list_refusals, fault_stop, refusal}
use Rattle.btr_check.specs.Filesystem.{Filesystem, kind_of_sums}
use Rattle.btr_check.specs.Trees.{root_tree, listed}
use Rattle.btr_check.specs.Walking.{RootSeen, nothing_seen, or_first, root_step}
use Rattle.btr_check.specs.declared.block_fault.BlockFault.{BlockFault}
use Rattle.btr_tour.specs.Tour.{Item, whole}
use Rattle.btr_tour.specs.Visits.{Takes}
use Rattle.btr_tour.specs.declared.met.Met.TheVariants as met
use Rattle.btr_walk.specs.declared.found.Found.{Found}
use Rattle.btr_walk.specs.Showing.{item_of}
use Rattle.btr_base.specs.declared.memory.Memory.{Memory}

-- a ROOT_ITEM gives the same tree, whether it is described as it is read or after it was
both_ways : (key : Key) (r : Result RootItem ItemFault) → result_ok (map_ok (described key) r) ≡ option_map (described key) (result_ok r)
both_ways key (Ok root) = refl
both_ways key (Err fault) = refl

-- the root that a ROOT_ITEM was read to have, if any
pub tree_read : (key : Key) (body : List ℕ) (read : Result TreeRoot ItemFault) → key.kind ≡ 132 → read ≡ map_ok (described key) (root_item_of body)
    → result_ok read ≡ tree_in key body
tree_read key body read is same =
    ap result_ok same ∙ both_ways key (root_item_of body)
    ∙ ap (λ b. if b then option_map (described key) (result_ok (root_item_of body)) else None) (sym (eq-eqb _ _ is))

module _ (fs : Filesystem) (seen : RootSeen) (is : seen ≡ fold root_step (nothing_seen (kind_of_sums fs)) (whole fs.blocks (root_tree fs.sup).place)) where
  -- what is kept of the root tree at its end
  walk : IsRootWalk (nothing_seen (kind_of_sums fs)) (fold root_step (nothing_seen (kind_of_sums fs)) (whole fs.blocks (root_tree fs.sup).place))
      (whole fs.blocks (root_tree fs.sup).place)
  walk = root_walked (whole fs.blocks (root_tree fs.sup).place) (nothing_seen (kind_of_sums fs))

  -- a root tree with which nothing is wrong
  pub root_sound : (trees : List TreeRoot) → seen.wrong ≡ None → trees ≡ seen.trees → (root_faults fs ≡ []) × (trees ≡ listed fs.sup fs.blocks)
  unfolding walk
  root_sound trees none same = (
    no_first (root_faults fs) (sym walk.wrong_is ∙ ap (λ (s : RootSeen). s.wrong) (sym is) ∙ none),
    same ∙ ap (λ (s : RootSeen). s.trees) is ∙ walk.trees_are,
  )

  -- and one that ends a check
  pub root_broken : (fault : BlockFault) → seen.wrong ≡ Some fault → refusal fs ≡ Some (fault_stop fault)
  unfolding walk
  root_broken fault some = first_mapped fault_stop (root_faults fs) (list_refusals (listed fs.sup fs.blocks)) fault
      (sym walk.wrong_is ∙ ap (λ (s : RootSeen). s.wrong) (sym is) ∙ some)

-- an item of the root tree was treated
pub item_taken : (old : RootSeen) (found : Found) (fault : Option BlockFault) (trees : List TreeRoot) (result : Result (Unit {0}) Memory)
    → fault ≡ or_first old.wrong (wrong old.kind (Item (item_of found)))
    → OnOk result (trees ≡ old.trees ++ option_to_list (tree_in found.key found.body.now))
    → Takes root_step old (met.Item found) (record { kind = old.kind; wrong = fault; trees = trees }) result
item_taken old found fault trees (Ok u) one two = λ mark shows. (λ i. record { kind = old.kind; wrong = one i; trees = two i }) ∙ ap (root_step old) (sym shows)
item_taken old found fault trees (Err e) one two = tt

-- What is collected of the extent tree, where nothing was found on the walk of all trees.
use Rattle.std.proofs.Common.{◌≡◌, ℕ, ◌&&◌, eqb, Bool, true, false, List, [], ◌∷◌, ◌++◌, filter_map, flat_map, fold, Option, Some, None}
use Rattle.std.proofs.Common.{if◌then◌else◌, refl, sym, ap, ◌∙◌}
use Rattle.std.specs.List.{list_all, cons_option}
use Rattle.std.specs.Option.{option_map}
use Rattle.btr_base.specs.declared.kind.SumKind.{SumKind}
use Rattle.btr_check_space.specs.Items.{Collects, group_in, with_mark}
use Rattle.btr_check_space.specs.declared.group.Group.{Group}
use Rattle.btr_findings.specs.declared.finding.Finding.{Finding}
use Rattle.btr_items.specs.Item.{item_fits, body_fits, form_of}
use Rattle.btr_items.specs.Key.{key_fits}
use Rattle.btr_refs.specs.Extents.{KeptExtents, StoredLaw, nothing_kept, stored_of, stored_step}
use Rattle.btr_tour.proofs.Pairs.{both_folds}
use Rattle.btr_tour.specs.Pairs.{both_step}
use Rattle.btr_tour.specs.declared.both.Both.{Both}
use Rattle.btr_tour.specs.Tour.{Mark, Block, Child, Item, Left, items_met, whole}
use Rattle.btr_volume.specs.declared.root.TreeRoot.{TreeRoot}
use Rattle.btr_walk.specs.Le.{TreeItem, or_here}
use Rattle.btr_check.proofs.Passes.{marks_items}
use Rattle.btr_check.proofs.Spaces.{groups_are}
use Rattle.btr_check.specs.Before.{left_by}
use Rattle.btr_check.specs.ExtentTree.{AreCollected}
use Rattle.btr_check.specs.Families.{group_tree}
use Rattle.btr_check.specs.Filesystem.{Filesystem, has_form, kind_of_sums}
use Rattle.btr_check.specs.Passes.{ListsSound, marks_if}
use Rattle.btr_check.specs.Trees.{chunk_tree, items_if, last_of, listed, root_tree, trees}
use Rattle.btr_check.specs.Uses.{stored}
use Rattle.btr_check.specs.Walking.{or_first}
use Rattle.btr_check.specs.Walks.{fault_finding, broken, tree_broken, tree_overlapping, walk_findings}
use Rattle.btr_check.specs.declared.block_fault.BlockFault.{BlockFault}
use Rattle.btr_check.specs.declared.block_fault.BlockFault.TheVariants.{Malformed as BlockMalformed}
use Rattle.btr_refs.proofs.Keeping.{both_true}

cons_ne : {X : Type 0} (x : X) (xs ys : List X) → ys ≡ x ∷ xs → ys ≡ [] → ⊥
cons_ne x xs ys is none = cc

-- where there are no findings in all, there are none behind the first thing
rest_none : (o : Option Finding) (rest : List Finding) → cons_option o rest ≡ [] → rest ≡ []
rest_none None rest none = none
rest_none (Some finding) rest none = absurd (cons_ne finding rest (finding ∷ rest) refl none)

-- an item's key keeps the rules of its type
abbrev keyed : TreeItem → Bool
keyed item = key_fits item.key

-- the key of an item that has its form keeps the rules of its type
form_keyed : (kind : SumKind) (item : TreeItem) → has_form kind item.key item.body ≡ true → keyed item ≡ true
form_keyed kind item has =
    (both_true (keyed item) (body_fits (form_of item.key.kind) kind item.key item.body) (both_true (item_fits kind item.key item.body) _ has).0).0

-- the fault of an item, unless it has its form
abbrev by_form : TreeItem → Bool → Option BlockFault
by_form item b = if b then None else Some (BlockMalformed item.leaf)

-- and so do those of all items with which nothing is wrong
all_keyed : (kind : SumKind) (marks : List Mark) → filter_map (broken kind) marks ≡ [] → list_all keyed (items_met marks) ≡ true
all_keyed kind [] none = refl
all_keyed kind (Block place block ∷ marks) none = all_keyed kind marks none
all_keyed kind (Child addr place ∷ marks) none = all_keyed kind marks none
all_keyed kind (Left fault ∷ marks) none =
    all_keyed kind marks (rest_none (option_map fault_finding (left_by fault)) (filter_map (broken kind) marks) none)
all_keyed kind (Item item ∷ marks) none = by (has_form kind item.key item.body) refl none (all_keyed kind marks)
  where
    by : (b : Bool) → has_form kind item.key item.body ≡ b → cons_option (option_map fault_finding (by_form item (has_form kind item.key item.body)))
        (filter_map (broken kind) marks) ≡ [] → (filter_map (broken kind) marks ≡ [] → list_all keyed (items_met marks) ≡ true)
        → (keyed item && list_all keyed (items_met marks)) ≡ true
    by true is none more =
        ap (λ b. b && list_all keyed (items_met marks)) (form_keyed kind item is)
        ∙ more (rest_none (option_map fault_finding (by_form item (has_form kind item.key item.body))) (filter_map (broken kind) marks) none)
    by false is none more =
        absurd (cons_ne (fault_finding (BlockMalformed item.leaf)) (filter_map (broken kind) marks)
        (cons_option (option_map fault_finding (by_form item (has_form kind item.key item.body))) (filter_map (broken kind) marks))
        (ap (λ b. cons_option (option_map fault_finding (by_form item b)) (filter_map (broken kind) marks)) is) none)

-- where two lists together are empty, each of them is
neither : {X : Type 0} (xs ys : List X) → xs ++ ys ≡ [] → (xs ≡ []) × (ys ≡ [])
neither [] ys e = (refl, e)
neither (x ∷ xs) ys e = absurd (cons_ne x (xs ++ ys) (x ∷ xs ++ ys) refl e)

pub same_tree : (a b : TreeRoot) → Some a ≡ Some b → a ≡ b
same_tree a b e = cc

pub not_some : (a : TreeRoot) (P : Type 0) → None ≡ Some a → P
not_some a P e = cc

module _ {Y : Type 0} (f : TreeRoot → List Y) where
  -- what is nothing of all trees is nothing of the last one of an id
  none_last : (id : ℕ) (trees : List TreeRoot) (tree : TreeRoot) → last_of id trees ≡ Some tree → flat_map f trees ≡ [] → f tree ≡ []
  none_last id [] tree is none = not_some tree (f tree ≡ []) is
  none_last id (one ∷ more) tree is none = let both = neither (f one) (flat_map f more) none in by (last_of id more) (eqb one.id id) refl is both.0
      (λ e. none_last id more tree e both.1)
    where
      by : (o : Option TreeRoot) (b : Bool) → last_of id more ≡ o → or_here o b one ≡ Some tree → f one ≡ [] → (last_of id more ≡ Some tree → f tree ≡ [])
          → f tree ≡ []
      by (Some later) b was e here rest = rest (was ∙ e)
      by None true was e here rest = ap f (sym (same_tree one tree e)) ∙ here
      by None false was e here rest = not_some tree (f tree ≡ []) e

-- where nothing was found on the walk, nothing is broken in listed trees
listed_sound : (fs : Filesystem) → walk_findings fs ≡ [] → flat_map (tree_broken fs) (listed fs.sup fs.blocks) ≡ []
listed_sound fs none =
    let all = neither (flat_map (tree_broken fs) (trees fs.sup fs.blocks)) (flat_map (tree_overlapping fs) (trees fs.sup fs.blocks)) none in
    let behind = neither (tree_broken fs (chunk_tree fs.sup)) (tree_broken fs (root_tree fs.sup) ++ flat_map (tree_broken fs)
    (listed fs.sup fs.blocks)) all.0 in
    (neither (tree_broken fs (root_tree fs.sup)) (flat_map (tree_broken fs) (listed fs.sup fs.blocks)) behind.1).1

module _ (fs : Filesystem) (all : List TreeRoot) (known : ListsSound all fs) where
  -- where the walk found nothing, the keys of all items of the extent tree keep the rules of their types
  tree_keyed : (tree : Option TreeRoot) → last_of 2 (listed fs.sup fs.blocks) ≡ tree → list_all keyed (items_met (marks_if fs.blocks tree)) ≡ true
  tree_keyed None is = refl
  tree_keyed (Some tree) is = all_keyed (kind_of_sums fs) (whole fs.blocks tree.place)
      (none_last (tree_broken fs) 2 (listed fs.sup fs.blocks) tree is (listed_sound fs known.sound))

  -- what a visit of the extent tree kept
  pub stored_are : StoredLaw → (tree : Option TreeRoot) (none kept : KeptExtents) → tree ≡ last_of 2 all → none ≡ nothing_kept fs.sup.nodesize
      → kept ≡ fold stored_step none (marks_if fs.blocks tree) → kept ≡ stored fs
  stored_are law tree none kept is empty folded =
      let here : tree ≡ last_of 2 (listed fs.sup fs.blocks) = is ∙ ap (last_of 2) known.lists in
      folded ∙ ap (λ n. fold stored_step n (marks_if fs.blocks tree)) empty
      ∙ law fs.sup.nodesize (marks_if fs.blocks tree) (tree_keyed tree (sym here))
      ∙ ap (stored_of fs.sup.nodesize) (marks_items fs.blocks tree ∙ ap (items_if fs.blocks) here)

  -- what visits kept of the extent tree and of the tree that has the block groups
  pub both_are : StoredLaw → Collects group_in → (first second : Option TreeRoot) (none both : Both KeptExtents (List Group)) → first ≡ last_of 2 all
      → second ≡ group_tree all → none ≡ record { first = nothing_kept fs.sup.nodesize; second = [] }
      → both ≡ record {
        first = fold stored_step none.first (marks_if fs.blocks first);
        second = fold (with_mark group_in) none.second (marks_if fs.blocks second);
      } → AreCollected fs both
  both_are law groups_law first second none both is has empty folded = record {
    stored = stored_are law first none.first both.first is (ap (λ (b : Both KeptExtents (List Group)). b.first) empty)
        (ap (λ (b : Both KeptExtents (List Group)). b.first) folded);
    groups = groups_are fs groups_law all second none.second both.second known.lists has (ap (λ (b : Both KeptExtents (List Group)). b.second) empty)
        (ap (λ (b : Both KeptExtents (List Group)). b.second) folded);
  }

  -- the same of one visit, where block groups have no tree of their own
  pub both_at_once : StoredLaw → Collects group_in → (tree : Option TreeRoot) (none both : Both KeptExtents (List Group)) → tree ≡ last_of 2 all
      → last_of 11 all ≡ None → none ≡ record { first = nothing_kept fs.sup.nodesize; second = [] }
      → both ≡ fold (both_step stored_step (with_mark group_in)) none (marks_if fs.blocks tree) → AreCollected fs both
  both_at_once law groups_law tree none both is apart empty folded =
      both_are law groups_law tree tree none both is (is ∙ ap (λ o. or_first o (last_of 2 all)) (sym apart)) empty
      (folded ∙ both_folds stored_step (with_mark group_in) (marks_if fs.blocks tree) none)

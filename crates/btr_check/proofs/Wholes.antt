-- All findings, as a set.
use Rattle.std.proofs.Common.{◌≡◌, Bool, true, false, List, [], ◌∷◌, ◌++◌, Option, None, Some, flat_map, refl, sym, ap, ◌∙◌}
use Rattle.std.specs.Borrow.{Bor}
use Rattle.std.specs.Option.{option_copied}
use Rattle.btr_files.specs.Sums.{tree_behind}
use Rattle.btr_findings.proofs.Adding.{adds_as, adds_just}
use Rattle.btr_findings.specs.declared.finding.Finding.{Finding}
use Rattle.btr_findings.specs.Findings.{Adds, HasJust, has, in_order, FoundSet}
use Rattle.btr_volume.specs.declared.root.TreeRoot.{TreeRoot}
use Rattle.btr_check.specs.Filesystem.{Filesystem}
use Rattle.btr_check.specs.Findings.{all_findings, findings, or_rules, rule_findings}
use Rattle.btr_check.specs.Passes.{IsWalked, Lists}
use Rattle.btr_check.specs.Trees.{chunk_tree, root_tree, trees}
use Rattle.btr_check.specs.Walking.{WalkSeen, IsWalkOf, is_nothing}
use Rattle.btr_check.specs.Walks.{tree_broken, tree_overlapping, walk_findings}

-- where nothing was found there are no findings
pub none_found : (found : List Finding) → is_nothing found ≡ true → found ≡ []
none_found [] is = refl
none_found (finding ∷ found) is = cc

-- where the walk found something, that is all
only_walk : (found rules : List Finding) → is_nothing found ≡ false → or_rules found rules ≡ found
only_walk [] rules is = cc
only_walk (finding ∷ found) rules is = refl

module _ (fs : Filesystem) (listed_trees all : List TreeRoot) (lists : Lists listed_trees fs)
    (are : all ≡ chunk_tree fs.sup ∷ root_tree fs.sup ∷ listed_trees) where
  -- these are all trees of the filesystem
  pub all_are : all ≡ trees fs.sup fs.blocks
  all_are = are ∙ ap (λ l. chunk_tree fs.sup ∷ root_tree fs.sup ∷ l) lists

  -- what the walk found is what is wrong with the trees themselves
  walk_is : (walk : WalkSeen) → IsWalkOf fs all walk → walk.broken ++ walk.overlapping ≡ walk_findings fs
  walk_is walk walked = (λ i. walked.broken i ++ walked.overlapping i) ∙ ap (λ l. flat_map (tree_broken fs) l ++ flat_map (tree_overlapping fs) l) all_are

  -- the walk found nothing
  pub is_walked : (walk : WalkSeen) → IsWalkOf fs all walk → is_nothing (walk.broken ++ walk.overlapping) ≡ true → IsWalked listed_trees all walk fs
  is_walked walk walked sound = record {
    lists = lists;
    all = all_are;
    walked = walked;
    sound = sym (walk_is walk walked) ∙ none_found (walk.broken ++ walk.overlapping) sound;
  }

  -- then all findings are those on what the trees say
  pub rules_just : (read_data : Bool) (walk : WalkSeen) (old new : FoundSet) → ((one : Finding) → has old one ≡ false) → IsWalked listed_trees all walk fs
      → Adds (rule_findings read_data fs) old new → HasJust (all_findings read_data fs) new
  rules_just read_data walk old new empty known adds =
      adds_just (all_findings read_data fs) old new empty
      (adds_as (rule_findings read_data fs) (all_findings read_data fs) old new (sym (ap (λ l. or_rules l (rule_findings read_data fs)) known.sound)) adds)

  -- else they are the walk's
  pub walk_just : (read_data : Bool) (walk : WalkSeen) (old new : FoundSet) → ((one : Finding) → has old one ≡ false) → IsWalkOf fs all walk
      → is_nothing (walk.broken ++ walk.overlapping) ≡ false → Adds (walk.broken ++ walk.overlapping) old new
      → HasJust (all_findings read_data fs) new
  walk_just read_data walk old new empty walked unsound adds =
      let same = walk_is walk walked in
      adds_just (all_findings read_data fs) old new empty
      (adds_as (walk.broken ++ walk.overlapping) (all_findings read_data fs) old new
      (sym (only_walk (walk.broken ++ walk.overlapping) (rule_findings read_data fs) unsound) ∙ ap (λ l. or_rules l (rule_findings read_data fs)) same) adds)

-- a stop from outside says nothing of the filesystem
pub outside_only : (outside : Bool) (P : Type 0) → outside ≡ true → outside ≡ false → P
outside_only outside P one two = absurd (true_false (sym one ∙ two))
  where
    true_false : true ≡ false → ⊥
    true_false e = cc

-- the findings in their order
pub findings_are : (read_data : Bool) (fs : Filesystem) (list : List Finding) → list ≡ in_order (all_findings read_data fs) → list ≡ findings read_data fs
unfolding findings
findings_are read_data fs list is = is

-- the checksum tree behind a reference
pub behind_copied : (tree : Option (Bor TreeRoot)) → tree_behind tree ≡ option_copied tree
behind_copied None = refl
behind_copied (Some tree) = refl

-- Extents and uses that were read.
use Rattle.std.proofs.Common.{◌≡◌, ℕ, Bool, true, false, ◌||◌, List, [], ◌++◌, map, flat_map, fold, Ok, Err, refl, sym, ap, ◌∙◌}
use Rattle.std.proofs.lemmas.List.Folds.{list_any-append}
use Rattle.btr_check_space.specs.Groups.{group_findings}
use Rattle.btr_check_space.specs.declared.group.Group.{Group}
use Rattle.btr_chunk.specs.declared.chunk.Chunk.{Chunk}
use Rattle.btr_findings.proofs.Adding.{adds_as}
use Rattle.btr_findings.proofs.Sets.{any-in_order}
use Rattle.btr_findings.specs.declared.finding.Finding.{Finding}
use Rattle.btr_findings.specs.Findings.{Adds, has, in_order, is_one_of, is_same, FoundSet}
use Rattle.btr_findings.specs.declared.extent.Extent.{Extent}
use Rattle.btr_refs.proofs.UsesKept.{misused_any, refs_all, uses_all}
use Rattle.btr_refs.specs.Differences.{count_findings, total_findings}
use Rattle.btr_refs.specs.Extents.{KeptExtents}
use Rattle.btr_refs.specs.Forward.{Tally, Uses, no_uses, nothing_counted, root_use, tally_with, with_use}
use Rattle.btr_tour.specs.Tour.{Reached, whole, blocks_met}
use Rattle.btr_tour.specs.declared.both.Both.{Both}
use Rattle.btr_volume.specs.declared.root.TreeRoot.{TreeRoot}
use Rattle.btr_volume.specs.declared.stop.Stop.{Stop}
use Rattle.btr_walk.specs.declared.place.RootPlace.{RootPlace}
use Rattle.btr_check.proofs.There.{trees_there, first_there}
use Rattle.btr_check.specs.Counting.{AreThere, IsFull, UsesCount}
use Rattle.btr_check.specs.declared.references.Begun.{Begun}
use Rattle.btr_check.specs.ExtentTree.{AreCollected, IsBegun}
use Rattle.btr_check.specs.Families.{found_on_groups}
use Rattle.btr_check.specs.Filesystem as words
use Rattle.btr_check.specs.Filesystem.{Filesystem}
use Rattle.btr_check.specs.Passes.{AreAll, AreExtents}
use Rattle.btr_check.specs.Running.{is_outside}
use Rattle.btr_check.specs.Trees.{refers_by_address, uses_of, first_met}
use Rattle.btr_check.specs.Uses.{all_uses, found_on_counts, found_on_totals, found_on_uses, stored, stored_refs}
use Rattle.btr_check.specs.Walking.{ArePlaces}

-- all uses, counted beside what is stored
abbrev pub all_counted : Filesystem → Tally
all_counted fs = record { stored = stored fs; uses = fold (with_use (stored fs)) no_uses (all_uses fs) }

-- nothing is counted beside what was collected
pub begun_of : (fs : Filesystem) (both : Both KeptExtents (List Group)) (begun : Begun) → AreCollected fs both → begun.forward ≡ nothing_counted both.first
    → IsFull both.first.extents begun.full → IsBegun fs begun
begun_of fs both begun is same full = record {
  forward = same ∙ ap nothing_counted is.stored;
  full = λ addr. full addr ∙ ap (λ (kept : KeptExtents). refers_by_address kept.extents addr) is.stored;
}

-- what was put of it is what is found on totals and on block groups
pub collected_put : (fs : Filesystem) (both : Both KeptExtents (List Group)) (chunks : List Chunk) (bytes : ℕ) (a b : FoundSet) → AreCollected fs both
    → chunks ≡ fs.chunks → bytes ≡ fs.sup.bytes_used
    → Adds (total_findings both.first.extents both.first.refs ++ group_findings chunks both.first.extents both.second bytes) a b
    → Adds (found_on_totals fs ++ found_on_groups fs) a b
collected_put fs both chunks bytes a b is same used =
    adds_as (total_findings both.first.extents both.first.refs ++ group_findings chunks both.first.extents both.second bytes)
    (found_on_totals fs ++ found_on_groups fs) a b
    (λ i. total_findings (is.stored i).extents (is.stored i).refs ++ group_findings (same i) (is.stored i).extents (is.groups i) (used i))

module _ (fs : Filesystem) (all : List TreeRoot) where
  -- the blocks that the trees reach, each once
  abbrev blocks : List Reached
  blocks = first_met [] (flat_map (λ (tree : TreeRoot). blocks_met (whole fs.blocks tree.place)) all)

  -- the blocks that the trees reach are there
  blocks_there : AreThere fs.blocks blocks
  blocks_there = first_there fs.blocks [] (flat_map (λ (tree : TreeRoot). blocks_met (whole fs.blocks tree.place)) all) (trees_there fs.blocks all)

  -- a block could not be read again
  pub uses_stop_here : (places : List RootPlace) (begun : Begun) (stop : Stop) → ArePlaces fs all places → IsBegun fs begun
      → UsesCount fs.blocks begun.forward all places begun.full (Err stop) → is_outside stop ≡ true
  uses_stop_here places begun stop are kept counts = counts blocks are blocks_there (words.extents fs) kept.full

  -- all uses were counted
  pub uses_are : (places : List RootPlace) (begun : Begun) (forward : Tally) → AreAll all fs → ArePlaces fs all places → IsBegun fs begun
      → UsesCount fs.blocks begun.forward all places begun.full (Ok forward) → forward ≡ all_counted fs
  uses_are places begun forward all-are are kept counts =
      counts blocks are blocks_there (words.extents fs) kept.full
      ∙ ap (λ t. fold tally_with begun.forward (map root_use t ++ flat_map (uses_of (words.extents fs))
      (first_met [] (flat_map (λ (tree : TreeRoot). blocks_met (whole fs.blocks tree.place)) t)))) all-are
      ∙ ap (λ (t : Tally). fold tally_with t (all_uses fs)) kept.forward
      ∙ uses_all (all_uses fs) (nothing_counted (stored fs))

module _ (fs : Filesystem) (forward : Tally) (is : forward ≡ all_counted fs) where
  -- the uses of the filesystem as they are counted
  abbrev uses : Uses
  uses = fold (with_use (stored fs)) no_uses (all_uses fs)

  -- the extents are left
  pub extents_left : (all : List Extent) → all ≡ forward.stored.extents → AreExtents all fs
  extents_left all left = left ∙ ap (λ (t : Tally). t.stored.extents) is

  -- what was put is what is found on counts and on uses
  pub uses_put : (a b : FoundSet) → Adds (count_findings forward.uses.refs forward.stored.refs ++ forward.uses.misused) a b
      → Adds (found_on_counts fs ++ found_on_uses fs) a b
  uses_put a b h one =
      h one ∙ ap (λ (t : Tally). is_one_of (count_findings t.uses.refs t.stored.refs ++ t.uses.misused) one || has a one) is
      ∙ ap (λ r. r || has a one)
      (list_any-append (is_same one) (count_findings uses.refs (stored_refs fs)) uses.misused
      ∙ (λ i. is_one_of (count_findings (refs_all (stored fs) (all_uses fs) no_uses i) (stored_refs fs)) one || misused_any one (stored fs) (all_uses fs) i)
      ∙ sym (list_any-append (is_same one) (found_on_counts fs) (found_on_uses fs)))

-- findings of four kinds, in whatever order
pub adds_turned : (counts totals wrong groups : List Finding) (a b c : FoundSet) → Adds (totals ++ groups) a b → Adds (counts ++ wrong) b c
    → Adds (in_order (counts ++ totals) ++ wrong ++ groups) a c
adds_turned counts totals wrong groups a b c first second one =
    let same = is_same one in
    let is : List Finding → Bool = λ list. is_one_of list one in
    second one ∙ ap (λ r. r || has b one) (list_any-append same counts wrong)
    ∙ ap (λ r. (is counts || is wrong) || r) (first one ∙ ap (λ r. r || has a one) (list_any-append same totals groups))
    ∙ turned (is counts) (is totals) (is wrong) (is groups) (has a one)
    ∙ ap (λ r. r || has a one)
    (sym (list_any-append same (in_order (counts ++ totals) ++ wrong) groups
    ∙ ap (λ r. r || is groups) (list_any-append same (in_order (counts ++ totals)) wrong
    ∙ ap (λ r. r || is wrong) (any-in_order (counts ++ totals) one ∙ list_any-append same counts totals))))
  where
    turned : (c t w g a : Bool) → ((c || w) || ((t || g) || a)) ≡ ((((c || t) || w) || g) || a)
    turned true t w g a = refl
    turned false true true g a = refl
    turned false true false g a = refl
    turned false false true g a = refl
    turned false false false g a = refl

-- Trees that are walked, one after another.
use Rattle.std.proofs.Common.{◌≡◌, ℕ, ◌+◌, ◌<◌, List, [], ◌∷◌, ◌++◌, length, take, get_or, map, fold, filter_map, flat_map, Option, None, Result, Ok, Err, OnOk}
use Rattle.std.proofs.Common.{sym}
use Rattle.std.proofs.Common.{ap, ◌∙◌, subst}
use Rattle.std.proofs.lemmas.List.{map-append, take_more}
use Rattle.std.proofs.lemmas.List.Sums.{fold-append}
use Rattle.btr_tour.specs.Tour.{Reached, whole, blocks_met}
use Rattle.btr_volume.specs.declared.root.TreeRoot.{TreeRoot}
use Rattle.btr_volume.specs.declared.stop.Stop.{Stop}
use Rattle.btr_walk.specs.declared.place.RootPlace.{RootPlace}
use Rattle.btr_walk.specs.Le.{root_pointer}
use Rattle.btr_check.proofs.Firsts.{met_once}
use Rattle.btr_check.proofs.Folding.{walked, apart_from, apart_all}
use Rattle.btr_check.proofs.Lists.{flat_more}
use Rattle.btr_check.proofs.Passing.{knows_begun}
use Rattle.btr_check.specs.declared.subtrees.Edges.{Edges}
use Rattle.btr_check.specs.Filesystem.{Filesystem, kind_of_sums}
use Rattle.btr_check.specs.Passing.{Known, Knows, Walks, subtree_marks}
use Rattle.btr_check.specs.Walks.{broken, tree_broken, tree_overlapping, ranges_met}
use Rattle.btr_check.specs.Walking.{MetPlaces, WalkSeen, HasWalked, IsWalkOf, begun, walk_step, with_place, no_places, nothing_walked}

-- what follows where a call answers
pub on_ok : {A : Type 0} (r : Result A Stop) (P Q : Type 0) → (P → Q) → OnOk r P → OnOk r Q
on_ok (Ok a) P Q f h = f h
on_ok (Err stop) P Q f h = tt

-- where a block that was met stands
abbrev at : Reached → RootPlace
at one = one.place

module _ (fs : Filesystem) where
  -- the blocks that a tour of a tree meets
  abbrev blocks : TreeRoot → List Reached
  blocks tree = blocks_met (whole fs.blocks tree.place)

  -- before the first tree
  pub walked_none : (seen : WalkSeen) → seen ≡ nothing_walked (kind_of_sums fs) → HasWalked fs [] seen
  walked_none seen is = record {
    kind = ap (λ (s : WalkSeen). s.kind) is;
    broken = ap (λ (s : WalkSeen). s.broken) is;
    overlapping = ap (λ (s : WalkSeen). s.overlapping) is;
    places = ap (λ (s : WalkSeen). s.places) is;
  }

  -- one tree more
  pub walked_more : (before : List TreeRoot) (tree : TreeRoot) (old new : WalkSeen) → HasWalked fs before old
      → new ≡ fold walk_step (begun old) (whole fs.blocks tree.place) → HasWalked fs (before ++ tree ∷ []) new
  walked_more before tree old new had is =
      let marks = whole fs.blocks tree.place in
      let w = walked marks (begun old) in
      record {
        kind = ap (λ (s : WalkSeen). s.kind) is ∙ w.kind_is ∙ had.kind;
        broken = ap (λ (s : WalkSeen). s.broken) is ∙ w.broken_is ∙ ap (λ l. l ++ filter_map (broken old.kind) marks) had.broken
            ∙ ap (λ k. flat_map (tree_broken fs) before ++ filter_map (broken k) marks) had.kind ∙ sym (flat_more (tree_broken fs) before tree);
        overlapping = ap (λ (s : WalkSeen). s.overlapping) is ∙ w.overlapping_is ∙ ap (λ l. l ++ apart_from None (ranges_met marks)) had.overlapping
            ∙ ap (λ l. flat_map (tree_overlapping fs) before ++ l) (apart_all (ranges_met marks)) ∙ sym (flat_more (tree_overlapping fs) before tree);
        places = ap (λ (s : WalkSeen). s.places) is ∙ w.places_are ∙ ap (λ p. fold with_place p (map at (blocks tree))) had.places
            ∙ sym (fold-append with_place no_places (map at (flat_map blocks before)) (map at (blocks tree)))
            ∙ ap (fold with_place no_places) (sym (ap (map at) (flat_more blocks before tree) ∙ map-append at (flat_map blocks before) (blocks tree)));
      }

  -- the first trees of a list, one more
  pub walked_next : (trees : List TreeRoot) (i : ℕ) (d : TreeRoot) (new : WalkSeen) → i < length trees
      → HasWalked fs (take i trees ++ get_or trees i d ∷ []) new → HasWalked fs (take (i + 1) trees) new
  walked_next trees i d new below h = subst (λ l. HasWalked fs l new) (sym (take_more trees i d below)) h

  -- and what all of them come to
  pub walked_all : (trees : List TreeRoot) (seen : WalkSeen) → HasWalked fs trees seen → IsWalkOf fs trees seen
  walked_all trees seen h = record {
    broken = h.broken;
    overlapping = h.overlapping;
    places = ap (λ (p : MetPlaces). p.list) h.places
        ∙ met_once (flat_map blocks trees);
  }

  -- one tree more, whose blocks were walked
  pub tree_walked : (before : List TreeRoot) (tree : TreeRoot) (old begun' new : WalkSeen) (first known after : Known) (edges : Option Edges)
      → begun' ≡ begun old → known ≡ first → HasWalked fs before old → Knows fs old first
      → Walks fs (subtree_marks fs tree.place.level (root_pointer tree.place)) begun' new known after (Ok edges)
      → HasWalked fs (before ++ tree ∷ []) new × Knows fs new after
  tree_walked before tree old begun' new first known after edges is same had knows walks =
      let begins = subst (λ s. Knows fs s known) (sym is) (subst (Knows fs (begun old)) (sym same) (knows_begun fs old first knows)) in
      let one = walks begins in
      (walked_more before tree old new had (one.seen ∙ ap (λ s. fold walk_step s (whole fs.blocks tree.place)) is), one.knows)

-- What the walks of trees keep.
use Rattle.std.proofs.Common.{◌≡◌, List, [], ◌∷◌, ◌++◌, map, fold, filter_map, Option, Some, None, refl, sym, ap, ◌∙◌, append_assoc, append-nil}
use Rattle.std.specs.Option.{option_to_list}
use Rattle.btr_findings.specs.declared.finding.Finding.{Finding}
use Rattle.btr_walk.specs.declared.place.RootPlace.{RootPlace}
use Rattle.btr_tour.specs.Tour.{Mark, Block, Child, Item, Left, Reached, items_met, blocks_met}
use Rattle.btr_check.specs.Before.{wrong, first_of}
use Rattle.btr_check.specs.Filesystem.{neighbours}
use Rattle.btr_check.specs.Trees.{tree_of_item}
use Rattle.btr_check.specs.Walks.{broken, range_of, not_apart, ranges_met}
use Rattle.btr_check.specs.Walking.{RootSeen, or_first, trees_at, root_step, WalkSeen, MetPlaces, with_place, behind_last, or_last, place_met, range_at, walk_step}
use Rattle.btr_check.specs.declared.walk.FileRange.{FileRange}
use Rattle.btr_check.proofs.Lists.{one_more, first_more}

-- what is kept of the root tree
pub record IsRootWalk (seen seen' : RootSeen) (marks : List Mark) : Type 0 where
  pub wrong_is : seen'.wrong ≡ or_first seen.wrong (first_of (filter_map (wrong seen.kind) marks))
  pub trees_are : seen'.trees ≡ seen.trees ++ filter_map tree_of_item (items_met marks)

-- the tree that a mark of the root tree lists, and those that the marks behind it list
trees_more : (mark : Mark) (marks : List Mark) → trees_at mark ++ filter_map tree_of_item (items_met marks) ≡ filter_map tree_of_item (items_met (mark ∷ marks))
trees_more (Block place block) marks = refl
trees_more (Child addr place) marks = refl
trees_more (Item item) marks = sym (one_more (tree_of_item item) (filter_map tree_of_item (items_met marks)))
trees_more (Left fault) marks = refl

first_none : {X : Type 0} (a : Option X) → a ≡ or_first a None
first_none None = refl
first_none (Some a) = refl

-- of the root tree the first that is wrong with it is kept, and the trees that it lists
pub root_walked : (marks : List Mark) (seen : RootSeen) → IsRootWalk seen (fold root_step seen marks) marks
root_walked [] seen = record { wrong_is = first_none seen.wrong; trees_are = sym (append-nil seen.trees) }
root_walked (mark ∷ marks) seen =
    let rest = root_walked marks (root_step seen mark) in
    record {
      wrong_is = rest.wrong_is ∙ first_more seen.wrong (wrong seen.kind mark) (filter_map (wrong seen.kind) marks)
          ∙ ap (λ l. or_first seen.wrong (first_of l)) (sym (one_more (wrong seen.kind mark) (filter_map (wrong seen.kind) marks)));
      trees_are = rest.trees_are ∙ append_assoc seen.trees (trees_at mark) (filter_map tree_of_item (items_met marks))
          ∙ ap (λ l. seen.trees ++ l) (trees_more mark marks);
    }

-- ranges that aren't apart, behind a last one if there is one
unfoldable pub apart_from : Option FileRange → List FileRange → List Finding
apart_from None ranges = filter_map not_apart (neighbours ranges)
apart_from (Some last) ranges = filter_map not_apart (neighbours (last ∷ ranges))

-- where there are no ranges, all are apart
apart_none : (last : Option FileRange) → apart_from last [] ≡ []
unfolding apart_from
apart_none None = refl
apart_none (Some last) = refl

-- without a last range before them, those that aren't apart are those among the ranges
pub apart_all : (ranges : List FileRange) → apart_from None ranges ≡ filter_map not_apart (neighbours ranges)
unfolding apart_from
apart_all ranges = refl

-- what isn't apart with one range more: that one behind the last, and the others behind it
apart_more : (last next : Option FileRange) (ranges : List FileRange) → behind_last last next ++ apart_from (or_last last next) ranges ≡ apart_from last
    (option_to_list next ++ ranges)
unfolding apart_from
apart_more None None ranges = refl
apart_more None (Some next) ranges = refl
apart_more (Some last) None ranges = refl
apart_more (Some last) (Some next) ranges = sym (one_more (not_apart (last, next)) (filter_map not_apart (neighbours (next ∷ ranges))))

-- the range of a file that a mark has, and those of the marks behind it
ranges_more : (mark : Mark) (marks : List Mark) → option_to_list (range_at mark) ++ ranges_met marks ≡ ranges_met (mark ∷ marks)
ranges_more (Block place block) marks = refl
ranges_more (Child addr place) marks = refl
ranges_more (Item item) marks = sym (one_more (range_of item) (ranges_met marks))
ranges_more (Left fault) marks = refl

-- where a block that was met stands
abbrev at : Reached → RootPlace
at one = one.place

-- the places that are kept after a mark, and after the blocks of the marks behind it
places_more : (mark : Mark) (marks : List Mark) (places : MetPlaces) → fold with_place (place_met places mark) (map at (blocks_met marks)) ≡ fold with_place places
    (map at (blocks_met (mark ∷ marks)))
places_more (Block place block) marks places = refl
places_more (Child addr place) marks places = refl
places_more (Item item) marks places = refl
places_more (Left fault) marks places = refl

-- what is kept of a tree
pub record IsWalk (seen seen' : WalkSeen) (marks : List Mark) : Type 0 where
  pub kind_is : seen'.kind ≡ seen.kind
  pub broken_is : seen'.broken ≡ seen.broken ++ filter_map (broken seen.kind) marks
  pub overlapping_is : seen'.overlapping ≡ seen.overlapping ++ apart_from seen.last (ranges_met marks)
  pub places_are : seen'.places ≡ fold with_place seen.places (map at (blocks_met marks))

-- of some marks it is kept what is broken, which ranges of files aren't apart, and which blocks were met
pub walked : (marks : List Mark) (seen : WalkSeen) → IsWalk seen (fold walk_step seen marks) marks
walked [] seen = record {
  kind_is = refl;
  broken_is = sym (append-nil seen.broken);
  overlapping_is = sym (ap (λ l. seen.overlapping ++ l) (apart_none seen.last) ∙ append-nil seen.overlapping);
  places_are = refl;
}
walked (mark ∷ marks) seen =
    let rest = walked marks (walk_step seen mark) in
    record {
      kind_is = rest.kind_is;
      broken_is = rest.broken_is ∙ append_assoc seen.broken (option_to_list (broken seen.kind mark)) (filter_map (broken seen.kind) marks)
          ∙ ap (λ l. seen.broken ++ l) (sym (one_more (broken seen.kind mark) (filter_map (broken seen.kind) marks)));
      overlapping_is = rest.overlapping_is ∙ append_assoc seen.overlapping (behind_last seen.last (range_at mark))
          (apart_from (or_last seen.last (range_at mark)) (ranges_met marks))
          ∙ ap (λ l. seen.overlapping ++ l) (apart_more seen.last (range_at mark) (ranges_met marks) ∙ ap (apart_from seen.last) (ranges_more mark marks));
      places_are = rest.places_are ∙ places_more mark marks seen.places;
    }

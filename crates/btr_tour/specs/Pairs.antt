-- What two visitors make of a tree at once.
use Rattle.std.specs.Prelude.{◌≡◌, List, fold}
use Rattle.btr_tour.specs.Tour.{Mark}
use Rattle.btr_tour.specs.declared.both.Both.{Both}

module _ {A B : Type 0} (first : A → Mark → A) (second : B → Mark → B) where
  -- each of both takes a mark
  abbrev pub both_step : Both A B → Mark → Both A B
  both_step both mark = record { first = first both.first mark; second = second both.second mark }

  -- what some marks make of both is what they make of each
  abbrev pub FoldsBoth : Type 0
  FoldsBoth = (marks : List Mark) (both : Both A B) → fold both_step both marks
      ≡ record { first = fold first both.first marks; second = fold second both.second marks }

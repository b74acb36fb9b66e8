-- Two visitors at once.
use Rattle.std.proofs.Common.{◌≡◌, List, [], ◌∷◌, fold, refl}
use Rattle.btr_tour.specs.Pairs.{FoldsBoth, both_step}
use Rattle.btr_tour.specs.Tour.{Mark}

-- what some marks make of two visitors at once is what they make of each
pub both_folds : {A B : Type 0} (first : A → Mark → A) (second : B → Mark → B) → FoldsBoth first second
both_folds first second [] both = refl
both_folds first second (mark ∷ marks) both = both_folds first second marks (both_step first second both mark)

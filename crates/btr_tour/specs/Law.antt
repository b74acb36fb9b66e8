-- What a tour is as a run, and what one without faults is.
use Rattle.std.specs.Prelude.{◌≡◌, [], Ok}
use Rattle.btr_base.specs.declared.key.Key.{Key}
use Rattle.btr_prog.specs.Prog.{exec, steps_of}
use Rattle.btr_prog.specs.Trying.{tried}
use Rattle.btr_walk.specs.declared.place.RootPlace.{RootPlace}
use Rattle.btr_walk.specs.Range.{range}
use Rattle.btr_walk.specs.Reading.{Map}
use Rattle.btr_tour.specs.Tour.{tour, items_met, faults_met}
use Rattle.btr_tour.specs.Program.{tour_prog, items_until_fault}

-- the marks of a tour are the steps of the run of its program
abbrev pub MarksLaw : Type 0
MarksLaw = (B : Map) (root : RootPlace) (lo hi : Key) → steps_of (tried B (tour_prog lo hi root)).marks ≡ tour lo hi B root

-- a range is the tour that stops at its first fault
abbrev pub StopsLaw : Type 0
StopsLaw = (root : RootPlace) (lo hi : Key) → items_until_fault (tour_prog lo hi root) ≡ range lo hi root

-- where a tour has no fault, the range comes to its end, and its items are the tour's
abbrev pub FaultlessLaw : Type 0
FaultlessLaw =
    (B : Map) (root : RootPlace) (lo hi : Key) → faults_met (tour lo hi B root) ≡ []
    → (steps_of (exec B (range lo hi root)).marks ≡ items_met (tour lo hi B root)) × ((exec B (range lo hi root)).ending ≡ Ok tt)

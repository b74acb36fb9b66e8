-- What is made of all that a tour of a tree meets, one mark after another.
use Rattle.std.specs.Prelude.{◌≡◌, ℕ, ◌<◌, ◌≤◌, Bool, true, false, List, [], ◌++◌, fold, None, IsSomeAnd, Result, Ok, Err, ⊤}
use Rattle.btr_base.specs.Header.{header_of}
use Rattle.btr_base.specs.Key.{last_key}
use Rattle.btr_base.specs.declared.kind.SumKind.{SumKind}
use Rattle.btr_prog.specs.Prog as prog
use Rattle.btr_prog.specs.Prog.{Run, prepend, steps_of, wants_of}
use Rattle.btr_prog.specs.Trying.{Done, tried}
use Rattle.btr_prog.specs.Answers.{Follows, no_part}
use Rattle.btr_read.specs.Fate as fate
use Rattle.btr_read.specs.Store.{Blocks}
use Rattle.btr_read.specs.declared.want.Want.{Want}
use Rattle.btr_tour.specs.Steps.{reason}
use Rattle.btr_tour.specs.Tour as marks
use Rattle.btr_tour.specs.Tour.{Mark, first_key, whole}
use Rattle.btr_tour.specs.Program.{tour_prog}
use Rattle.btr_tour.specs.TourEnds.{left_of, IsUnderway, HoldsLeaf, rank_of}
use Rattle.btr_tour.specs.declared.met.Met.{Met}
use Rattle.btr_tour.specs.declared.met.Met.TheVariants.{Block, Child, Item, Fault}
use Rattle.btr_tour.specs.declared.tour.Tour.{Tour}
use Rattle.btr_walk.specs.Reading.{Map, UnreadBlock, halt_of}
use Rattle.btr_walk.specs.Showing.{item_of}
use Rattle.btr_walk.specs.declared.fault.TreeFault.{TreeFault}
use Rattle.btr_walk.specs.declared.folder.FoldFault.{FoldFault}
use Rattle.btr_walk.specs.declared.folder.FoldFault.TheVariants.{Tree, Own}
use Rattle.btr_walk.specs.declared.place.RootPlace.{RootPlace}

-- what was met is this mark; of a block the header is shown
abbrev pub ShowsMark : Met → Mark → Type 0
ShowsMark (Block place header) mark = (sums : SumKind) × ((block : List ℕ) × (header ≡ header_of sums block) × (mark ≡ marks.Block place block))
ShowsMark (Child block place) mark = mark ≡ marks.Child block place
ShowsMark (Item found) mark = mark ≡ marks.Item (item_of found)
ShowsMark (Fault f) mark = IsSomeAnd (reason f) (λ fault. mark ≡ marks.Left fault)

module _ {St : Type 0} (step : St → Mark → St) where
  -- what was met was treated
  abbrev pub Takes : {E : Type 0} → St → Met → St → Result (Unit {0}) E → Type 0
  Takes old met new (Ok u) = (mark : Mark) → ShowsMark met mark → new ≡ step old mark
  Takes old met new (Err e) = ⊤

  -- a call that meets one mark more treated it; it doesn't end here by a fault of the tree
  abbrev pub IsTaken : {E : Type 0} → St → Met → St → Result Bool (FoldFault E) → Type 0
  IsTaken old met new (Ok true) = (mark : Mark) → ShowsMark met mark → new ≡ step old mark
  IsTaken old met new (Ok false) = ⊥
  IsTaken old met new (Err (Tree f)) = ⊥
  IsTaken old met new (Err (Own e)) = ⊤

  module _ (Is : UnreadBlock → Want → Type 0) (B : Map) where
    -- some marks are past, and were treated; what is left comes behind
    pub record Goes (seen : List Want) (old new : Blocks) (tour tour' : Tour) (state state' : St) : Type 0 where
      pub past : List (prog.Mark Want Mark)
      pub is : tried B (left_of B old tour) ≡ prepend past (tried B (left_of B new tour'))
      pub treated : state' ≡ fold step state (steps_of past)
      pub on : IsUnderway B (seen ++ wants_of past) tour'
      pub held : HoldsLeaf B (seen ++ wants_of past) new tour'

    -- a call met one mark more and treated it, or nothing was left, or a block could not be read
    abbrev pub MeetsBy : {E : Type 0} → List Want → Blocks → Blocks → Tour → Tour → St → St → Result Bool (FoldFault E) → Type 0
    MeetsBy seen old new tour tour' state state' (Ok true) = Goes seen old new tour tour' state state'
    MeetsBy seen old new tour tour' state state' (Ok false) = (left_of B old tour ≡ Done tt) × (state' ≡ state)
    MeetsBy seen old new tour tour' state state' (Err (Tree f)) = Follows Is no_part seen (tried B (left_of B old tour)) [] (Err (halt_of f)) × (state' ≡ state)
    MeetsBy seen old new tour tour' state state' (Err (Own e)) = ⊤

    -- one mark was met, or nothing was left, or a block could not be read
    abbrev pub IsMet : {E : Type 0} → Blocks → Blocks → Tour → Tour → St → St → Result Bool (FoldFault E) → Type 0
    IsMet old new tour tour' state state' result =
        (seen : List Want) → IsUnderway B seen tour → HoldsLeaf B seen old tour → MeetsBy seen old new tour tour' state state' result

    -- what was done of a run was treated, where nothing else ends it than a block that could not be read
    pub record TreatsUpTo (seen : List Want) (r : Run Want fate.Fault Mark (Unit {0})) (state state' : St) (f : TreeFault) : Type 0 where
      pub done : List Mark
      pub treated : state' ≡ fold step state done
      pub refused : Follows Is no_part seen r done (Err (halt_of f))

    -- what a run of a tour met was treated, as far as the answer says
    abbrev pub RunsBy : {E : Type 0} → List Want → Run Want fate.Fault Mark (Unit {0}) → St → St → Result (Unit {0}) (FoldFault E) → Type 0
    RunsBy seen r state state' (Ok u) = state' ≡ fold step state (steps_of r.marks)
    RunsBy seen r state state' (Err (Tree f)) = TreatsUpTo seen r state state' f
    RunsBy seen r state state' (Err (Own e)) = ⊤

    -- all that a tour had still to meet
    abbrev pub IsRun : {E : Type 0} → Blocks → Tour → St → St → Result (Unit {0}) (FoldFault E) → Type 0
    IsRun store tour state state' result =
        (seen : List Want) → IsUnderway B seen tour → HoldsLeaf B seen store tour → RunsBy seen (tried B (left_of B store tour)) state state' result

    -- A whole tree was visited. Where a block could not be read, exactly the marks
    -- before some place behind one of its wants.
    abbrev pub Visits : {E : Type 0} → RootPlace → St → St → Result (Unit {0}) (FoldFault E) → Type 0
    Visits root old new (Ok u) = new ≡ fold step old (whole B root)
    Visits root old new (Err (Tree f)) = TreatsUpTo [] (tried B (tour_prog first_key last_key root)) old new f
    Visits root old new (Err (Own e)) = ⊤

-- a tour comes nearer to its end with each mark
abbrev pub MetRankFalls : {E : Type 0} → Tour → Tour → Result Bool (FoldFault E) → Type 0
MetRankFalls tour tour' (Ok true) = rank_of tour' < rank_of tour
MetRankFalls tour tour' (Ok false) = rank_of tour' ≤ rank_of tour
MetRankFalls tour tour' (Err f) = ⊤

-- of the faults of a tree only that a block could not be read is a refusal
abbrev pub OnlyUnread : {A E : Type 0} → Result A (FoldFault E) → Type 0
OnlyUnread (Ok a) = ⊤
OnlyUnread (Err (Tree f)) = reason f ≡ None
OnlyUnread (Err (Own e)) = ⊤

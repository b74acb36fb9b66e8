-- How a fold goes on, item by item.
use Rattle.std.specs.Prelude.{◌≡◌, ◌<◌, List, [], ◌++◌, Option, Some, None, Result, Ok, Err, ⊤}
use Rattle.btr_base.specs.declared.key.Key.{Key}
use Rattle.btr_prog.specs.Prog.{exec, prepend, want_marks}
use Rattle.btr_prog.specs.Prog as prog
use Rattle.btr_prog.specs.Answers.{Halt, Broke, Follows, no_part}
use Rattle.btr_rack.specs.Rack.{Seen}
use Rattle.btr_read.specs.Fate as fate
use Rattle.btr_read.specs.Layout.{Layout}
use Rattle.btr_read.specs.Store.{Blocks}
use Rattle.btr_read.specs.declared.want.Want.{Want}
use Rattle.btr_walk.specs.declared.fault.TreeFault.TheVariants.{Malformed}
use Rattle.btr_walk.specs.declared.folder.FoldFault.{FoldFault}
use Rattle.btr_walk.specs.declared.folder.FoldFault.TheVariants.{Tree, Own}
use Rattle.btr_walk.specs.declared.folding.Turn.{Turn}
use Rattle.btr_walk.specs.declared.folding.Turn.TheVariants.{More, Last, Out}
use Rattle.btr_walk.specs.declared.place.RootPlace.{RootPlace}
use Rattle.btr_walk.specs.declared.scan.Scan.{Scan}
use Rattle.btr_walk.specs.Le.{TreeItem}
use Rattle.btr_walk.specs.Reading.{Map, UnreadBlock, FaultCause, halt_of}
use Rattle.btr_walk.specs.Going.{IsOn}
use Rattle.btr_walk.specs.ScanEnds.{left_of, rank_of}
use Rattle.btr_walk.specs.Folds.{Next, Go, End, Broken, folded_over, folded}

-- a refusal of the folder's own may come at any place
abbrev pub fold_halt : {E : Type 0} → FoldFault E → Halt fate.Fault UnreadBlock
fold_halt (Tree f) = halt_of f
fold_halt (Own e) = Broke

-- the answer of a fold as an answer of its program
abbrev pub fold_answer : {R E : Type 0} → Result R (FoldFault E) → Result R (Halt fate.Fault UnreadBlock)
fold_answer (Ok r) = Ok r
fold_answer (Err f) = Err (fold_halt f)

-- a fault of the tree has its cause
abbrev pub FoldCause : {A E : Type 0} → Layout → Seen → Seen → Result A (FoldFault E) → Type 0
FoldCause layout old new (Ok a) = ⊤
FoldCause layout old new (Err (Tree f)) = FaultCause layout old new f
FoldCause layout old new (Err (Own e)) = ⊤

-- what came of an item
abbrev pub IsTaken : {St R E : Type 0} → (St → TreeItem → Next St R) → St → TreeItem → St → Result (Turn R) (FoldFault E) → Type 0
IsTaken step old item new (Ok More) = step old item ≡ Go new
IsTaken step old item new (Ok Last) = ⊥
IsTaken step old item new (Ok (Out r)) = step old item ≡ End r
IsTaken step old item new (Err (Tree f)) = (step old item ≡ Broken) × (f ≡ Malformed item.leaf)
IsTaken step old item new (Err (Own e)) = Unit {0}

module _ {St R : Type 0} (step : St → TreeItem → Next St R) (answer : St → R) where
  -- what a fold has still to do
  abbrev pub to_fold : Map → Blocks → Scan → St → prog.Prog Want fate.Fault ⊥ R
  to_fold B store scan state = folded_over step answer state (left_of B store scan)

  -- some wants are past, and the rest is still to come
  pub record Turns (B : Map) (seen : List Want) (old new : Blocks) (scan scan' : Scan) (state state' : St) : Type 0 where
    pub past : List Want
    pub is : exec B (to_fold B old scan state) ≡ prepend (want_marks past) (exec B (to_fold B new scan' state'))
    pub on : IsOn scan.lo scan.hi B (seen ++ past) scan'.place

  -- an answer of a fold follows what it had still to do
  abbrev pub Ends : {E : Type 0} → (UnreadBlock → Want → Type 0) → Map → List Want → Blocks → Scan → St → Result R (FoldFault E) → Type 0
  Ends Is B seen store scan state result = Follows Is no_part seen (exec B (to_fold B store scan state)) [] (fold_answer result)

  -- a turn of a fold goes on with a new state and scan, or ends it with its value, its result or a fault
  abbrev pub TurnsBy : {E : Type 0} → (UnreadBlock → Want → Type 0) → Map → List Want → Blocks → Blocks → Scan → Scan → St → St
      → Result (Turn R) (FoldFault E) → Type 0
  TurnsBy Is B seen old new scan scan' state state' (Ok More) = Turns B seen old new scan scan' state state'
  TurnsBy {E} Is B seen old new scan scan' state state' (Ok Last) = Ends {E = E} Is B seen old scan state (Ok (answer state'))
  TurnsBy {E} Is B seen old new scan scan' state state' (Ok (Out r)) = Ends {E = E} Is B seen old scan state (Ok r)
  TurnsBy Is B seen old new scan scan' state state' (Err f) = Ends Is B seen old scan state (Err f)

  -- one item of a scan, or its end
  abbrev pub IsTurned : {E : Type 0} → (UnreadBlock → Want → Type 0) → Map → Blocks → Blocks → Scan → Scan → St → St → Result (Turn R) (FoldFault E) → Type 0
  IsTurned Is B old new scan scan' state state' result =
      (seen : List Want) → IsOn scan.lo scan.hi B seen scan.place
      → TurnsBy Is B seen old new scan scan' state state' result

  -- the answer, where one came before the last item, or the one of the last state
  abbrev pub result_of : {E : Type 0} → St → Result (Option R) (FoldFault E) → Result R (FoldFault E)
  result_of state (Ok None) = Ok (answer state)
  result_of state (Ok (Some r)) = Ok r
  result_of state (Err f) = Err f

  -- all items of a scan
  abbrev pub IsRun : {E : Type 0} → (UnreadBlock → Want → Type 0) → Map → Blocks → Scan → St → St → Result (Option R) (FoldFault E) → Type 0
  IsRun Is B store scan state state' result =
      (seen : List Want) → IsOn scan.lo scan.hi B seen scan.place
      → Ends Is B seen store scan state (result_of state' result)

  -- the answer of a fold follows its program
  abbrev pub FoldFollows : {E : Type 0} → (UnreadBlock → Want → Type 0) → Map → St → RootPlace → Key → Key → Result R (FoldFault E) → Type 0
  FoldFollows Is B state root lo hi result = Follows Is no_part [] (exec B (folded step answer state root lo hi)) [] (fold_answer result)

-- a scan comes nearer to its end with each item, and never goes back
abbrev pub TurnRankFalls : {R E : Type 0} → Scan → Scan → Result (Turn R) (FoldFault E) → Type 0
TurnRankFalls scan scan' (Ok More) = rank_of scan' < rank_of scan
TurnRankFalls scan scan' (Ok Last) = Unit {0}
TurnRankFalls scan scan' (Ok (Out r)) = Unit {0}
TurnRankFalls scan scan' (Err f) = Unit {0}

-- What a step of a tour does.
use Rattle.std.specs.Prelude.{◌≡◌, ℕ, zero, suc, ◌+◌, ◌-◌, ◌<◌, ◌≤◌, List, [], ◌∷◌, ◌++◌, slice_set, slice_index_or, Option, Some, None, IfSome}
use Rattle.std.specs.Prelude.{IsSome, IsSomeAnd, Result, Ok, Err}
use Rattle.std.specs.Option.{option_map}
use Rattle.std.specs.List.{HoldsAt}
use Rattle.btr_base.specs.Header.{header_of}
use Rattle.btr_base.specs.declared.header.Header.{Header}
use Rattle.btr_base.specs.declared.kind.SumKind.{SumKind}
use Rattle.btr_base.specs.declared.key.Key.{Key}
use Rattle.btr_node.specs.Block.{Item as NodeItem, items}
use Rattle.btr_node.specs.declared.node.Node.{Node}
use Rattle.btr_prog.specs.Prog.{Wants, Does, first, prepend, want_marks}
use Rattle.btr_prog.specs.Trying.{Done, tried}
use Rattle.btr_prog.specs.Answers.{Follows, no_part}
use Rattle.btr_rack.specs.Rack.{Seen}
use Rattle.btr_read.specs.Fate as fate
use Rattle.btr_read.specs.Layout.{Layout}
use Rattle.btr_read.specs.Store.{Blocks, block_of}
use Rattle.btr_read.specs.declared.want.Want.{Want}
use Rattle.btr_walk.specs.declared.fault.TreeFault.{TreeFault}
use Rattle.btr_walk.specs.declared.fault.TreeFault.TheVariants.{Lost, Unread, Unmapped, Crosses, Malformed}
use Rattle.btr_walk.specs.declared.place.RootPlace.{RootPlace}
use Rattle.btr_walk.specs.declared.block_pointer.BlockPointer.{BlockPointer}
use Rattle.btr_walk.specs.BlockPointer.{judged}
use Rattle.btr_walk.specs.Going.{IsAlong}
use Rattle.btr_walk.specs.Hand.{IsHeld}
use Rattle.btr_walk.specs.Le.{tree_item, want_of}
use Rattle.btr_walk.specs.Reading.{Map, UnreadBlock, CauseOf, halt_of}
use Rattle.btr_walk.specs.declared.leaf_at.LeafAt.{LeafAt}
use Rattle.btr_walk.specs.declared.path.AtLevel.{AtLevel}
use Rattle.btr_walk.specs.declared.going.Where.{Where}
use Rattle.btr_tour.specs.declared.scope.Scope.{Scope}
use Rattle.btr_tour.specs.declared.step.Advanced.{Advanced}
use Rattle.btr_tour.specs.declared.step.Step.{Step}
use Rattle.btr_tour.specs.declared.step.Step.TheVariants.{Block, Child, Item, Fault, End}
use Rattle.btr_tour.specs.Tour as tour
use Rattle.btr_tour.specs.Tour.{Mark, place_of}
use Rattle.btr_tour.specs.Program.{TourProg, below_block, tour_from}
use Rattle.btr_tour.specs.Place.{next_want, leaf_left, place_left}

-- the lowest frame of a path
pub record IsLowest (place : Where) (low : AtLevel) : Type 0 where
  pub within : low.at < 7
  pub before : (k : ℕ) → k < low.at → slice_index_or place.path k None ≡ None
  pub here : slice_index_or place.path low.at None ≡ Some low.frame

-- why a block is left out; one that could not be read isn't
abbrev pub reason : TreeFault → Option fate.Fault
reason (Lost a) = Some (fate.Lost a)
reason (Unread a slot) = None
reason (Unmapped a) = Some (fate.Unmapped a)
reason (Crosses a) = Some (fate.Crosses a)
reason (Malformed a) = Some (fate.Malformed a)

-- where a tour is behind a step: its place, the leaf in hand, and what was met
pub record Arrived : Type 0 where
  pub place : Where
  pub leaf : Option LeafAt
  pub step : Result Step TreeFault

-- what comes of a step at this place
abbrev pub arrived : Where → Advanced → Arrived
arrived place a = record { place = place; leaf = a.leaf; step = a.step }

-- what comes of a fault: where the block could not be read, the tour stays, and else it goes on behind the block
abbrev pub left_out : Where → Where → TreeFault → Arrived
left_out place after (Lost a) = record { place = after; leaf = None; step = Ok (Fault (Lost a)) }
left_out place after (Unread a slot) = record { place = place; leaf = None; step = Err (Unread a slot) }
left_out place after (Unmapped a) = record { place = after; leaf = None; step = Ok (Fault (Unmapped a)) }
left_out place after (Crosses a) = record { place = after; leaf = None; step = Ok (Fault (Crosses a)) }
left_out place after (Malformed a) = record { place = after; leaf = None; step = Ok (Fault (Malformed a)) }

-- the same place without what is below the block of a level that was met last
abbrev pub passed_place : ℕ → Where → Where
passed_place zero place = place
passed_place (suc n) place = record { path = slice_set place.path n None; todo = place.todo }

-- a leaf in hand all of whose items are past
abbrev pub at_end : LeafAt → LeafAt
at_end l = record { pointer = l.pointer; next = l.end; end = l.end; loan = l.loan }

-- the leaf in hand after it is passed, where it is that block that was met last
abbrev pub passed_leaf : ℕ → Option LeafAt → Option LeafAt
passed_leaf zero leaf = option_map at_end leaf
passed_leaf (suc n) leaf = leaf

module _ (lo hi : Key) where
  module _ (B : Map) where
    -- what is left at a place, with a leaf in hand
    abbrev pub left : Blocks → Where → Option LeafAt → TourProg
    left store place leaf = leaf_left store leaf (place_left lo hi B place)

    -- a good block was wanted and met; what is below it comes next, and can be passed
    pub record MeetsBlock (seen : List Want) (sums : SumKind) (before : TourProg) (store : Blocks) (place : Where) (leaf : Option LeafAt)
        (at : RootPlace) (header : Header) : Type 0 where
      pub pointer : BlockPointer
      pub block : List ℕ
      pub node : Node
      pub came : B (want_of at.level pointer) ≡ Ok block
      pub good : judged at.level pointer block ≡ Some node
      pub at_is : at ≡ place_of at.level pointer
      pub header_is : header ≡ header_of sums block
      pub met : tried B before ≡ first (Wants (want_of at.level pointer)) (first (Does (tour.Block at block)) (tried B (left store place leaf)))
      pub below :
          left store place leaf
          ≡ below_block lo hi (tour_from lo hi (at.level - 1)) at.level pointer node (left store (passed_place at.level place) (passed_leaf at.level leaf))
      pub on : IsAlong lo hi B (seen ++ (want_of at.level pointer ∷ [])) place
      pub held : IfSome leaf (IsHeld B (seen ++ (want_of at.level pointer ∷ [])) store)

    -- some wants, and then a mark was met; what is left comes behind
    pub record Meets (seen : List Want) (before : TourProg) (store : Blocks) (place : Where) (leaf : Option LeafAt) (mark : Mark) : Type 0 where
      pub past : List Want
      pub met : tried B before ≡ prepend (want_marks past) (first (Does mark) (tried B (left store place leaf)))
      pub on : IsAlong lo hi B (seen ++ past) place
      pub held : IfSome leaf (IsHeld B (seen ++ past) store)

    -- nothing was met, since a block could not be read: one that was wanted before, or is the first to be wanted now
    pub record Stays (Is : UnreadBlock → Want → Type 0) (seen : List Want) (before : TourProg) (store : Blocks) (place : Where)
        (leaf : Option LeafAt) (f : TreeFault) : Type 0 where
      pub refused : Follows Is no_part seen (tried B before) [] (Err (halt_of f))
      pub same : before ≡ left store place leaf
      pub on : IsAlong lo hi B seen place
      pub held : IfSome leaf (IsHeld B seen store)

    -- the item at a place of the leaf in hand was met
    abbrev pub MeetsItem : List Want → TourProg → Blocks → Where → Option LeafAt → ℕ → Type 0
    MeetsItem seen before store place None at = ⊥
    MeetsItem seen before store place (Some l) at =
        IsSomeAnd (block_of store l.loan)
        (λ block. HoldsAt (λ (item : NodeItem). Meets seen before store place (Some l) (tour.Item (tree_item l.pointer.addr item))) (items block) at)

    module _ (Is : UnreadBlock → Want → Type 0) where
      -- a step of a tour that had this still to meet
      abbrev pub StepsBy : List Want → SumKind → TourProg → Blocks → Where → Option LeafAt → Result Step TreeFault → Type 0
      StepsBy seen sums before store place leaf (Ok (Block at header)) = MeetsBlock seen sums before store place leaf at header
      StepsBy seen sums before store place leaf (Ok (Child block child)) = Meets seen before store place leaf (tour.Child block child)
      StepsBy seen sums before store place leaf (Ok (Item at)) = MeetsItem seen before store place leaf at
      StepsBy seen sums before store place leaf (Ok (Fault f)) = IsSomeAnd (reason f) (λ fault. Meets seen before store place leaf (tour.Left fault))
      StepsBy seen sums before store place leaf (Ok End) = before ≡ Done tt
      StepsBy seen sums before store place leaf (Err f) = Stays Is seen before store place leaf f

      -- what a step does from a place, where its leaf is what its want came to
      abbrev pub Advances : (List Want → Type 0) → SumKind → Where → TourProg → Blocks → Arrived → Type 0
      Advances Holds sums old before store a = (seen : List Want) → IsAlong lo hi B seen old → Holds seen → StepsBy seen sums before store a.place a.leaf a.step

-- what a step does within a scope, from a place with a leaf in hand or with none
abbrev pub AdvancesIn : Scope → (UnreadBlock → Want → Type 0) → Map → Blocks → Where → Option LeafAt → Blocks → Arrived → Type 0
AdvancesIn scope Is B old place leaf store a =
    Advances scope.lo scope.hi B Is (λ seen. IfSome leaf (IsHeld B seen old)) scope.sums place (left scope.lo scope.hi B old place leaf) store a

-- what is told whatever was read: an item stands in the leaf in hand; a loan is kept with an item or a good leaf alone;
-- only a block that could not be read is refused, and then the place stays
abbrev pub HasStep : Where → Where → Option LeafAt → Result Step TreeFault → Type 0
HasStep old place leaf (Ok (Block at header)) = at.level ≤ 7
HasStep old place leaf (Ok (Child block child)) = leaf ≡ None
HasStep old place leaf (Ok (Item at)) = IsSomeAnd leaf (λ l. (at < l.end) × (l.next ≡ at + 1))
HasStep old place leaf (Ok (Fault f)) = (leaf ≡ None) × IsSome (reason f)
HasStep old place leaf (Ok End) = (leaf ≡ None) × (place ≡ old)
HasStep old place leaf (Err f) = (leaf ≡ None) × (place ≡ old) × (reason f ≡ None)

-- a block that is left out or could not be read is the one that is read next, and has its cause
abbrev pub StepCause : Layout → Seen → Seen → Where → Result Step TreeFault → Type 0
StepCause layout old new place (Ok (Block at header)) = Unit {0}
StepCause layout old new place (Ok (Child block child)) = Unit {0}
StepCause layout old new place (Ok (Item at)) = Unit {0}
StepCause layout old new place (Ok (Fault f)) = IsSomeAnd (next_want place) (λ want. CauseOf layout want old new f)
StepCause layout old new place (Ok End) = Unit {0}
StepCause layout old new place (Err f) = IsSomeAnd (next_want place) (λ want. CauseOf layout want old new f)

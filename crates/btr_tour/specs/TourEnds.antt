-- What a tour and its store are after a step.
use Rattle.std.specs.Prelude.{◌≡◌, ℕ, ◌<◌, ◌≤◌, List, Option, Some, None, IfSome, IsSome, IsSomeAnd, Result, Ok, Err, ⊤}
use Rattle.std.specs.Borrow.{follows_so, MutBor, Fml}
use mathlib.Core.Option.{none}
use Rattle.btr_prog.specs.Trying.{Done}
use Rattle.btr_rack.specs.Rack.{Seen}
use Rattle.btr_read.specs.Layout.{Layout}
use Rattle.btr_read.specs.Serves.{Serves}
use Rattle.btr_read.specs.Store.{Blocks, SameLoans}
use Rattle.btr_read.specs.contracts.store.Store.{the_row}
use Rattle.btr_read.specs.declared.want.Want.{Want}
use Rattle.btr_walk.specs.declared.fault.TreeFault.{TreeFault}
use Rattle.btr_walk.specs.Going.{IsAlong}
use Rattle.btr_walk.specs.Hand.{IsHeld, IsInHand, loan_of}
use Rattle.btr_walk.specs.Lending.{base}
use Rattle.btr_walk.specs.Ranks.{IsShaped}
use Rattle.btr_walk.specs.Reading.{Map, UnreadBlock, TellsOf, CauseOf}
use Rattle.btr_walk.specs.Showing.{item_of}
use Rattle.btr_walk.specs.declared.leaf_at.LeafAt.{LeafAt}
use Rattle.btr_tour.specs.declared.met.Met.{Met}
use Rattle.btr_tour.specs.declared.met.Met.TheVariants.{Block, Child, Item, Fault}
use Rattle.btr_tour.specs.declared.step.Step.{Step}
use Rattle.btr_tour.specs.declared.tour.Tour.{Tour}
use Rattle.btr_tour.specs.Tour as marks
use Rattle.btr_tour.specs.Program.{TourProg}
use Rattle.btr_tour.specs.Place.{next_want}
use Rattle.btr_tour.specs.Shape.{rank_on}
use Rattle.btr_tour.specs.Steps.{reason, passed_place, passed_leaf, left, MeetsBlock, Meets, Stays, StepsBy}

-- what a tour has still to meet
abbrev pub left_of : Map → Blocks → Tour → TourProg
left_of B store tour = left tour.scope.lo tour.scope.hi B store tour.place tour.leaf

-- a tour is on its way through the tree, where these wants came before
abbrev pub IsUnderway : Map → List Want → Tour → Type 0
IsUnderway B seen tour = IsAlong tour.scope.lo tour.scope.hi B seen tour.place

-- the leaf in hand, if there is one, is the block that its want came to, which was read
abbrev pub HoldsLeaf : Map → List Want → Blocks → Tour → Type 0
HoldsLeaf B seen store tour = IfSome tour.leaf (IsHeld B seen store)

-- a tour without what is below the block that was met last
abbrev pub passed_at : Option ℕ → Tour → Tour
passed_at None tour = tour
passed_at (Some level) tour = record { scope = tour.scope; place = passed_place level tour.place; leaf = passed_leaf level tour.leaf; level = None }

-- a tour that passes what is below the block that was met last, if it was a block
abbrev pub passed : Tour → Tour
passed tour = passed_at tour.level tour

-- a rack and a store can go on with a tour: the loan of its leaf, if it has one, is live
pub record IsTourReady (rack : Seen) (store : Blocks) (tour : Tour) : Type 0 where
  pub serves : Serves rack store
  pub hand : IfSome tour.leaf (IsInHand store)
  pub shaped : IsShaped tour.place
  pub low : IfSome tour.level (λ level. level ≤ 7)

-- the store without the loan of a tour's leaf
abbrev pub without_leaf : Blocks → Tour → Blocks
without_leaf store tour = base store (loan_of tour.leaf)

-- what a step of a tour met, whatever was read before
abbrev pub IsNextStep : (UnreadBlock → Want → Type 0) → Map → Blocks → Blocks → Tour → Tour → Result Step TreeFault → Type 0
IsNextStep Is B old new tour tour' result =
    (seen : List Want) → IsUnderway B seen tour → HoldsLeaf B seen old tour
    → StepsBy tour.scope.lo tour.scope.hi B Is seen tour.scope.sums (left_of B old tour) new tour'.place tour'.leaf result

-- Some wants, and then one mark is met; what is left comes behind. Behind a good block comes what is below it, which
-- can be passed. A block that could not be read is met again.
abbrev pub TourNextBy : (UnreadBlock → Want → Type 0) → Map → List Want → Blocks → Blocks → Tour → Tour → Result (Option Met) TreeFault → Type 0
TourNextBy Is B seen old new tour tour' (Ok (Some (Block place header))) =
    MeetsBlock tour.scope.lo tour.scope.hi B seen tour.scope.sums (left_of B old tour) new tour'.place tour'.leaf place header
TourNextBy Is B seen old new tour tour' (Ok (Some (Child block place))) =
    Meets tour.scope.lo tour.scope.hi B seen (left_of B old tour) new tour'.place tour'.leaf (marks.Child block place)
TourNextBy Is B seen old new tour tour' (Ok (Some (Item found))) =
    Meets tour.scope.lo tour.scope.hi B seen (left_of B old tour) new tour'.place tour'.leaf (marks.Item (item_of found))
TourNextBy Is B seen old new tour tour' (Ok (Some (Fault f))) =
    IsSomeAnd (reason f) (λ fault. Meets tour.scope.lo tour.scope.hi B seen (left_of B old tour) new tour'.place tour'.leaf (marks.Left fault))
TourNextBy Is B seen old new tour tour' (Ok None) = left_of B old tour ≡ Done tt
TourNextBy Is B seen old new tour tour' (Err f) = Stays tour.scope.lo tour.scope.hi B Is seen (left_of B old tour) new tour'.place tour'.leaf f

-- what a tour meets next, whatever was read before
abbrev pub IsNextMark : (UnreadBlock → Want → Type 0) → Map → Blocks → Blocks → Tour → Tour → Result (Option Met) TreeFault → Type 0
IsNextMark Is B old new tour tour' result =
    (seen : List Want) → IsUnderway B seen tour → HoldsLeaf B seen old tour → TourNextBy Is B seen old new tour tour' result

-- a tour can go on, and no other loan changed; and what the step says of the block map
pub record Toured (old new : Blocks) (tour tour' : Tour) (before now : Seen) (result : Result (Option Met) TreeFault) : Type 0 where
  pub others : SameLoans (without_leaf old tour) (without_leaf new tour')
  pub ready : IsTourReady now new tour'
  pub content : TellsOf old before now (λ Is B. IsNextMark Is B old new tour tour' result)

-- the tour and its store end as the step's answer says, and no other loan changed
abbrev pub TourEnds : MutBor Blocks → Tour → Tour → Seen → Seen → Result (Option Met) TreeFault → Fml
TourEnds store tour tour' before now result =
    follows_so the_row the_row store.ghost_name none (λ _ _. ⊤) (λ new. Toured store.now new tour tour' before now result)

-- the level of the block that was met
abbrev pub level_met : Result (Option Met) TreeFault → Option ℕ
level_met (Ok (Some (Block place header))) = Some place.level
level_met (Ok (Some (Child block place))) = None
level_met (Ok (Some (Item found))) = None
level_met (Ok (Some (Fault f))) = None
level_met (Ok None) = None
level_met (Err f) = None

-- a loan is kept with a leaf and its items alone
abbrev pub KeepsLeaf : Option LeafAt → Result (Option Met) TreeFault → Type 0
KeepsLeaf leaf (Ok (Some (Block place header))) = ⊤
KeepsLeaf leaf (Ok (Some (Child block place))) = leaf ≡ None
KeepsLeaf leaf (Ok (Some (Item found))) = IsSome leaf
KeepsLeaf leaf (Ok (Some (Fault f))) = leaf ≡ None
KeepsLeaf leaf (Ok None) = leaf ≡ None
KeepsLeaf leaf (Err f) = leaf ≡ None

-- how much a tour has still to do, whatever its tree holds: the measure of a loop over it
abbrev pub rank_of : Tour → ℕ
rank_of tour = rank_on tour.place tour.leaf

-- a tour comes nearer to its end with each mark, and never goes back
abbrev pub NextRankFalls : Tour → Tour → Result (Option Met) TreeFault → Type 0
NextRankFalls tour tour' (Ok (Some met)) = rank_of tour' < rank_of tour
NextRankFalls tour tour' (Ok None) = rank_of tour' ≤ rank_of tour
NextRankFalls tour tour' (Err f) = rank_of tour' ≤ rank_of tour

-- A block that is left out or could not be read is the one that the tour was to read next, and has its cause. Only one
-- that could not be read is refused, and then the place stays; it is never left out.
abbrev pub NextCause : Layout → Seen → Seen → Tour → Tour → Result (Option Met) TreeFault → Type 0
NextCause layout old new tour tour' (Ok (Some (Block place header))) = ⊤
NextCause layout old new tour tour' (Ok (Some (Child block place))) = ⊤
NextCause layout old new tour tour' (Ok (Some (Item found))) = ⊤
NextCause layout old new tour tour' (Ok (Some (Fault f))) = IsSomeAnd (next_want tour.place) (λ want. CauseOf layout want old new f) × IsSome (reason f)
NextCause layout old new tour tour' (Ok None) = ⊤
NextCause layout old new tour tour' (Err f) =
    IsSomeAnd (next_want tour.place) (λ want. CauseOf layout want old new f) × (reason f ≡ None) × (tour'.place ≡ tour.place)

-- A tour that keeps no loan: where it goes on.
use Rattle.std.specs.Prelude.{◌≡◌, ℕ, ◌+◌, ◌*◌, ◌^◌, ◌<◌, ◌≤◌, List, map, Option, Some, None, IfSome, IsSomeAnd, Result, Ok, Err, ⊤}
use Rattle.btr_prog.specs.Trying.{act_all}
use Rattle.btr_rack.specs.Rack.{Seen}
use Rattle.btr_read.specs.Layout.{Layout}
use Rattle.btr_read.specs.Store.{Blocks, SameLoans}
use Rattle.btr_read.specs.declared.want.Want.{Want}
use Rattle.btr_walk.specs.Going.{IsAlong}
use Rattle.btr_walk.specs.Hand.{IsGivenBack}
use Rattle.btr_walk.specs.Le.{want_of}
use Rattle.btr_walk.specs.Ranks.{digit, rank, FrameFits, IsShaped}
use Rattle.btr_walk.specs.Reading.{Map, UnreadBlock, IsUnreadOf, CauseOf}
use Rattle.btr_walk.specs.Scans.{kept_items}
use Rattle.btr_walk.specs.declared.fault.TreeFault.{TreeFault}
use Rattle.btr_walk.specs.declared.frame.Frame.{Frame}
use Rattle.btr_tour.specs.declared.rest.Rest.{Rest}
use Rattle.btr_tour.specs.declared.tour.Tour.{Tour}
use Rattle.btr_tour.specs.Tour as marks
use Rattle.btr_tour.specs.Program.{TourProg}
use Rattle.btr_tour.specs.Place.{place_left}
use Rattle.btr_tour.specs.TourEnds.{left_of, IsUnderway, HoldsLeaf, IsTourReady, without_leaf, rank_of}

-- the items of a leaf that was given back that are still to come, and then the rest
abbrev pub kept_left : Map → Option Frame → TourProg → TourProg
kept_left B None rest = rest
kept_left B (Some frame) rest = act_all (map marks.Item (kept_items B frame)) rest

-- what is still to be met
abbrev pub rest_left : Map → Rest → TourProg
rest_left B rest = kept_left B rest.leaf (place_left rest.scope.lo rest.scope.hi B rest.place)

-- how much is still to do, whatever the tree holds
abbrev pub rank_left : Rest → ℕ
rank_left rest = 2 ^ 64 * rank rest.place + digit rest.leaf

-- the blocks that it goes on from are among those that were read
pub record IsRestOn (B : Map) (seen : List Want) (rest : Rest) : Type 0 where
  pub place : IsAlong rest.scope.lo rest.scope.hi B seen rest.place
  pub kept : IfSome rest.leaf (IsGivenBack B seen)

-- whatever was read: its nodes have children that are to come, and its leaf has items
pub record Fits (rest : Rest) : Type 0 where
  pub shaped : IsShaped rest.place
  pub kept : IfSome rest.leaf FrameFits

-- a leaf that was given back is kept where items of it are still to come
abbrev pub KeepsFrom : Frame → Option Frame → Type 0
KeepsFrom frame None = frame.end ≤ frame.next
KeepsFrom frame (Some kept) = (frame.next < frame.end) × (kept ≡ frame)

-- where a tour goes on whose leaf was given back: what is still to be met is the same
pub record Rests (store : Blocks) (tour : Tour) (rest : Rest) : Type 0 where
  pub scope : rest.scope ≡ tour.scope
  pub place : rest.place ≡ tour.place
  pub rank : rank_left rest ≡ rank_of tour
  pub fits : (rack : Seen) → IsTourReady rack store tour → Fits rest
  pub left : (B : Map) (seen : List Want) → HoldsLeaf B seen store tour → rest_left B rest ≡ left_of B store tour
  pub on : (B : Map) (seen : List Want) → IsUnderway B seen tour → HoldsLeaf B seen store tour → IsRestOn B seen rest

-- whatever was read, a tour can go on, and no loan changed but that of its leaf
pub record IsTakenUp (rack : Seen) (old new : Blocks) (rest : Rest) (tour : Tour) : Type 0 where
  pub ready : IsTourReady rack new tour
  pub others : SameLoans old (without_leaf new tour)
  pub scope : tour.scope ≡ rest.scope
  pub rank : rank_of tour ≡ rank_left rest

-- a tour that was taken up can go on, or its leaf could not be read and no loan changed
abbrev pub TakenUp : Seen → Blocks → Blocks → Rest → Result Tour TreeFault → Type 0
TakenUp rack old new rest (Ok tour) = IsTakenUp rack old new rest tour
TakenUp rack old new rest (Err f) = SameLoans old new

-- a tour has still to meet what was left
pub record GoesOn (B : Map) (seen : List Want) (rest : Rest) (store : Blocks) (tour : Tour) : Type 0 where
  pub left : left_of B store tour ≡ rest_left B rest
  pub on : IsUnderway B seen tour
  pub held : HoldsLeaf B seen store tour

-- a tour takes up what was left: it has still to meet that, or its leaf could not be read
abbrev pub TakesUp : (UnreadBlock → Want → Type 0) → Map → Rest → Blocks → Result Tour TreeFault → Type 0
TakesUp Is B rest store (Ok tour) = (seen : List Want) → IsRestOn B seen rest → GoesOn B seen rest store tour
TakesUp Is B rest store (Err f) = (seen : List Want) → IsRestOn B seen rest → IsUnreadOf Is seen f

-- a refusal is that of the leaf
abbrev pub RestCause : Layout → Seen → Seen → Option Frame → Result Tour TreeFault → Type 0
RestCause layout old new leaf (Ok tour) = ⊤
RestCause layout old new leaf (Err f) = IsSomeAnd leaf (λ frame. CauseOf layout (want_of 0 frame.pointer) old new f)

-- How a scan goes on.
use Rattle.std.specs.Prelude.{◌≡◌, ℕ, ◌+◌, ◌<◌, List, [], ◌++◌, slice_index_or, Option, None, IfSome, IsSomeAnd, Result, Ok, Err}
use Rattle.btr_base.specs.declared.key.Key.{Key}
use Rattle.btr_prog.specs.Prog.{Return, prepend, exec}
use Rattle.btr_prog.specs.Answers.{Follows, no_part}
use Rattle.btr_read.specs.Store.{Blocks, SameLoans, block_of}
use Rattle.btr_read.specs.declared.want.Want.{Want}
use Rattle.btr_walk.specs.declared.fault.TreeFault.{TreeFault}
use Rattle.btr_walk.specs.declared.frame.Frame.{Frame}
use Rattle.btr_walk.specs.declared.going.Gone.{Gone}
use Rattle.btr_walk.specs.declared.going.Gone.TheVariants.{Leaf, Between, End}
use Rattle.btr_walk.specs.declared.going.Where.{Where}
use Rattle.btr_walk.specs.declared.scan_place.ScanPlace.{ScanPlace}
use Rattle.btr_walk.specs.Range.{RangeProg, emit_all}
use Rattle.btr_walk.specs.Reading.{Map, UnreadBlock, halt_of}
use Rattle.btr_walk.specs.Scans.{wants, part_items, todo_prog, IsFrame, IsTodo, frame_prog}
use Rattle.btr_walk.specs.declared.leaf_at.LeafAt.{LeafAt}
use Rattle.btr_walk.specs.Hand.{IsHeld, IsGivenBack, LendsHand}
use Rattle.btr_walk.specs.Frames.{path_of}

module _ (lo hi : Key) where
  -- the children of the frames of a path that are still to come, those of the lowest level first
  abbrev pub path_prog : Map → ℕ → List (Option Frame) → RangeProg
  path_prog B = path_of (frame_prog lo hi B) (Return tt)

  -- what a scan has still to give that is at this place
  abbrev pub place_prog : Map → Where → RangeProg
  place_prog B place = todo_prog lo hi place.todo (path_prog B 0 place.path)

module _ (lo hi : Key) where
  -- each frame of the path was read before; the block that is to be read lies below all of them, and ends behind lo
  pub record IsAlong (B : Map) (seen : List Want) (place : Where) : Type 0 where
    pub frames : (k : ℕ) → IfSome (slice_index_or place.path k None) (IsFrame lo hi B seen (k + 1))
    pub above : IfSome place.todo (λ t. (k : ℕ) → k < t.level → slice_index_or place.path k None ≡ None)
    pub up : IsTodo lo hi place.todo

  -- the same of a scan's place, and of the leaf that was given back
  pub record IsOn (B : Map) (seen : List Want) (place : ScanPlace) : Type 0 where
    pub rest : IsAlong B seen place.rest
    pub kept : IfSome place.leaf (IsGivenBack B seen)

  -- some wants are past, and the rest is still to come
  pub record GoesOnTo (B : Map) (seen : List Want) (from : Where) (to : RangeProg) (place : Where) : Type 0 where
    pub past : List Want
    pub is : exec B (place_prog lo hi B from) ≡ prepend (wants past) (exec B to)
    pub on : IsAlong B (seen ++ past) place

  -- the same, and the leaf in hand is among the blocks that were read
  pub record GoesOnHolding (B : Map) (seen : List Want) (from : Where) (to : RangeProg) (place : Where) (store : Blocks) (l : LeafAt) : Type 0 where
    pub comes : GoesOnTo B seen from to place
    pub held : IsHeld B (seen ++ comes.past) store l

  -- the scan came to a leaf with items, or to none yet, or to its end
  abbrev pub GoneTo : (UnreadBlock → Want → Type 0) → Map → List Want → Where → Where → Blocks → Result Gone TreeFault → Type 0
  GoneTo Is B seen place after store (Ok (Leaf l)) =
      IsSomeAnd (block_of store l.loan)
      (λ block. GoesOnHolding B seen place (emit_all (part_items l.pointer.addr block l.next l.end) (place_prog lo hi B after)) after store l)
  GoneTo Is B seen place after store (Ok Between) = GoesOnTo B seen place (place_prog lo hi B after) after
  GoneTo Is B seen place after store (Ok End) = Follows Is no_part seen (exec B (place_prog lo hi B place)) [] (Ok tt)
  GoneTo Is B seen place after store (Err f) = Follows Is no_part seen (exec B (place_prog lo hi B place)) [] (Err (halt_of f))

  -- the scan came to what follows it, from wherever it is
  abbrev pub IsGone : (UnreadBlock → Want → Type 0) → Map → Where → Where → Blocks → Result Gone TreeFault → Type 0
  IsGone Is B place after store result = (seen : List Want) → IsAlong B seen place → GoneTo Is B seen place after store result

-- the loan of the leaf that was come to is new and live, or no loan changed
abbrev pub LendsGone : Blocks → Blocks → Result Gone TreeFault → Type 0
LendsGone old new (Ok (Leaf l)) = LendsHand old new l
LendsGone old new (Ok Between) = SameLoans old new
LendsGone old new (Ok End) = SameLoans old new
LendsGone old new (Err f) = SameLoans old new

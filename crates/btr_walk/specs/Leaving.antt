-- How a scan comes to its next leaf.
use Rattle.std.specs.Prelude.{◌<◌, ◌≤◌, List, [], Option, Some, None, IsSomeAnd, Result, Ok, Err}
use Rattle.btr_base.specs.declared.key.Key.{Key}
use Rattle.btr_prog.specs.Prog.{exec}
use Rattle.btr_prog.specs.Answers.{Follows, no_part}
use Rattle.btr_read.specs.Store.{Blocks, SameLoans, block_of}
use Rattle.btr_read.specs.declared.want.Want.{Want}
use Rattle.btr_walk.specs.declared.fault.TreeFault.{TreeFault}
use Rattle.btr_walk.specs.declared.going.Where.{Where}
use Rattle.btr_walk.specs.Range.{emit_all}
use Rattle.btr_walk.specs.Reading.{Map, UnreadBlock, halt_of}
use Rattle.btr_walk.specs.Scans.{part_items}
use Rattle.btr_walk.specs.Going.{place_prog, IsAlong, GoesOnHolding}
use Rattle.btr_walk.specs.Ranks.{IsShaped, rank}
use Rattle.btr_walk.specs.declared.leaf_at.LeafAt.{LeafAt}
use Rattle.btr_walk.specs.Hand.{LendsHand}

module _ (lo hi : Key) where
  -- the scan came to a leaf with items, to its end or to a fault
  abbrev pub ReachedTo : (UnreadBlock → Want → Type 0) → Map → List Want → Where → Where → Blocks → Result (Option LeafAt) TreeFault → Type 0
  ReachedTo Is B seen place after store (Ok (Some l)) =
      IsSomeAnd (block_of store l.loan)
      (λ block. GoesOnHolding lo hi B seen place (emit_all (part_items l.pointer.addr block l.next l.end) (place_prog lo hi B after)) after store l)
  ReachedTo Is B seen place after store (Ok None) = Follows Is no_part seen (exec B (place_prog lo hi B place)) [] (Ok tt)
  ReachedTo Is B seen place after store (Err f) = Follows Is no_part seen (exec B (place_prog lo hi B place)) [] (Err (halt_of f))

  -- the scan came to its next leaf, its end or a fault, from wherever it is
  abbrev pub IsReached : (UnreadBlock → Want → Type 0) → Map → Where → Where → Blocks → Result (Option LeafAt) TreeFault → Type 0
  IsReached Is B place after store result = (seen : List Want) → IsAlong lo hi B seen place → ReachedTo Is B seen place after store result

-- the loan of the leaf that was come to is new and live and has items, or no loan changed
abbrev pub LendsReached : Blocks → Blocks → Result (Option LeafAt) TreeFault → Type 0
LendsReached old new (Ok (Some l)) = LendsHand old new l × (l.next < l.end)
LendsReached old new (Ok None) = SameLoans old new
LendsReached old new (Err f) = SameLoans old new

-- a place behind a leaf that was reached is nearer to the end, and no place is farther from it
abbrev pub RankFallsReached : Where → Where → Result (Option LeafAt) TreeFault → Type 0
RankFallsReached place after (Ok (Some l)) = IsShaped after × (rank after < rank place)
RankFallsReached place after (Ok None) = IsShaped after × (rank after ≤ rank place)
RankFallsReached place after (Err f) = Unit {0}

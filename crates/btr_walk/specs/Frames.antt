-- The inner nodes on the way to where a cursor is: what is left of them, and that they were read.
use Rattle.std.specs.Prelude.{◌≡◌, ℕ, ◌+◌, ◌<◌, ◌≤◌, List, [], ◌∷◌, length, Option, Some, None, Ok}
use Rattle.std.specs.List.{Contains}
use Rattle.btr_node.specs.Block.{pointers}
use Rattle.btr_node.specs.declared.node.Node.TheVariants.{Inner}
use Rattle.btr_read.specs.declared.want.Want.{Want}
use Rattle.btr_walk.specs.declared.frame.Frame.{Frame}
use Rattle.btr_walk.specs.Le.{want_of}
use Rattle.btr_walk.specs.Reading.{Map}
use Rattle.btr_walk.specs.BlockPointer.{judged}

-- what is left of a frame, and then the rest, where there is a frame
abbrev pub frame_or : {P : Type 0} → (ℕ → Frame → P → P) → ℕ → Option Frame → P → P
frame_or left level None rest = rest
frame_or left level (Some frame) rest = left level frame rest

-- what is left of the frames of a path, those of the lowest level first, and then the end
abbrev pub path_of : {P : Type 0} → (ℕ → Frame → P → P) → P → ℕ → List (Option Frame) → P
path_of left end n [] = end
path_of left end n (frame ∷ frames) = frame_or left (n + 1) frame (path_of left end (n + 1) frames)

-- a frame's node was read before, and is a good one that has the children which are still to come
pub record IsNode (B : Map) (seen : List Want) (level : ℕ) (frame : Frame) : Type 0 where
  pub block : List ℕ
  pub came : B (want_of level frame.pointer) ≡ Ok block
  pub is : judged level frame.pointer block ≡ Some (Inner (pointers block))
  pub read : Contains seen (want_of level frame.pointer)
  pub more : frame.next < frame.end
  pub within : frame.end ≤ length (pointers block)

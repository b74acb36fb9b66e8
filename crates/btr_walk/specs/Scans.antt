-- What a scan has still to give.
use Rattle.std.specs.Prelude.{◌≡◌, ℕ, ◌+◌, ◌-◌, ◌<◌, ◌≤◌, true, List, [], length, take, drop, map, All, Option, Some, None, IfSome, Result, Ok, Err}
use Rattle.btr_base.specs.Key.{key_number}
use Rattle.btr_base.specs.declared.key.Key.{Key}
use Rattle.btr_node.specs.Block.{Item, KeyPointer, items, pointers}
use Rattle.btr_prog.specs.Prog.{Mark, want_marks}
use Rattle.btr_read.specs.Fate.{Fault}
use Rattle.btr_read.specs.declared.want.Want.{Want}
use Rattle.btr_walk.specs.declared.choice.Part.{Part}
use Rattle.btr_walk.specs.declared.frame.Frame.{Frame}
use Rattle.btr_walk.specs.declared.frame.Todo.{Todo}
use Rattle.btr_walk.specs.declared.block_pointer.BlockPointer.{BlockPointer}
use Rattle.btr_walk.specs.BlockPointer.{is_below}
use Rattle.btr_walk.specs.Le.{TreeItem, tree_item, want_of}
use Rattle.btr_walk.specs.Range.{RangeProg, over, range_at}
use Rattle.btr_walk.specs.Reading.{Map}
use Rattle.btr_walk.specs.Frames.{IsNode}

-- the children from `next` up to before `end` are those that meet the keys: the ones before end where the next begins,
-- at or below lo, the ones behind begin above hi
pub record IsChoice (lo hi : Key) (ps : List KeyPointer) (part : Part) : Type 0 where
  pub there : part.next < length ps
  pub within : part.end ≤ length ps
  pub before : (k : ℕ) → k < part.next → All (λ p. key_number p.key ≤ key_number lo) (take (part.next + 1) ps)
  pub behind : All (λ p. key_number lo < key_number p.key) (drop (part.next + 1) ps)
  pub low : All (λ p. key_number p.key ≤ key_number hi) (take part.end ps)
  pub high : All (λ p. key_number hi < key_number p.key) (drop part.end ps)

-- the node at a pointer with the children of a part, where it has any
abbrev pub FramesPart : BlockPointer → Part → Option Frame → Type 0
FramesPart pointer part None = part.end ≤ part.next
FramesPart pointer part (Some frame) = (part.next < part.end) × (frame ≡ record { pointer = pointer; next = part.next; end = part.end })

-- the items from `next` up to before `end` are those from lo to hi
pub record IsPart (lo hi : Key) (is : List Item) (part : Part) : Type 0 where
  pub there : part.next ≤ length is
  pub within : part.end ≤ length is
  pub before : All (λ i. key_number i.key < key_number lo) (take part.next is)
  pub behind : All (λ i. key_number lo ≤ key_number i.key) (drop part.next is)
  pub low : All (λ i. key_number i.key ≤ key_number hi) (take part.end is)
  pub high : All (λ i. key_number hi < key_number i.key) (drop part.end is)

-- the pointers of a node that could be had
abbrev pub pointers_in : Result (List ℕ) Fault → List KeyPointer
pointers_in (Ok block) = pointers block
pointers_in (Err f) = []

-- the items that a part of a leaf's block has
abbrev pub part_items : ℕ → List ℕ → ℕ → ℕ → List TreeItem
part_items addr block next end = map (tree_item addr) (take (end - next) (drop next (items block)))

module _ (lo hi : Key) where
  -- the children of a frame that are still to come, and then the rest
  abbrev pub frame_prog : Map → ℕ → Frame → RangeProg → RangeProg
  frame_prog B level frame rest =
      over lo hi (range_at lo hi (level - 1)) (drop frame.next (pointers_in (B (want_of level frame.pointer)))) frame.pointer.up rest

  -- the block that is to be read, and then the rest
  abbrev pub todo_prog : Option Todo → RangeProg → RangeProg
  todo_prog None rest = rest
  todo_prog (Some todo) rest = range_at lo hi todo.level todo.pointer rest

  -- a frame's node was read before, and its children that are still to come are those that meet the keys
  pub record IsFrame (B : Map) (seen : List Want) (level : ℕ) (frame : Frame) : Type 0 where
    pub node : IsNode B seen level frame
    pub up : is_below frame.pointer.up lo ≡ true
    pub behind : All (λ p. key_number lo < key_number p.key) (drop (frame.next + 1) (pointers node.block))
    pub low : All (λ p. key_number p.key ≤ key_number hi) (take frame.end (pointers node.block))
    pub high : All (λ p. key_number hi < key_number p.key) (drop frame.end (pointers node.block))

  -- a block that is to be read ends behind lo
  abbrev pub IsTodo : Option Todo → Type 0
  IsTodo todo = IfSome todo (λ t. is_below t.pointer.up lo ≡ true)

-- wants as marks
abbrev pub wants : List Want → List (Mark Want TreeItem)
wants = want_marks

-- the items of a leaf that could be had, from `next` up to before `end`
abbrev pub items_in : Result (List ℕ) Fault → ℕ → ℕ → ℕ → List TreeItem
items_in (Ok block) addr next end = part_items addr block next end
items_in (Err f) addr next end = []

-- the items of a leaf that was given back
abbrev pub kept_items : Map → Frame → List TreeItem
kept_items B frame = items_in (B (want_of 0 frame.pointer)) frame.pointer.addr frame.next frame.end

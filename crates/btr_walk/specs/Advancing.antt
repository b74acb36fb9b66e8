-- One item further.
use Rattle.std.specs.Prelude.{◌≡◌, ℕ, ◌-◌, ◌<◌, ◌≤◌, Bool, true, false, List, [], ◌++◌, length, slice_index_or, Option, Some, None, IfSome, IsSomeAnd}
use Rattle.std.specs.Prelude.{Result, Ok, Err}
use Rattle.btr_base.specs.declared.key.Key.{Key}
use Rattle.btr_node.specs.Block.{Item, items}
use Rattle.btr_prog.specs.Prog.{Does, first, prepend, exec}
use Rattle.btr_prog.specs.Answers.{Follows, no_part}
use Rattle.btr_read.specs.Store.{Blocks, SameLoans, block_of}
use Rattle.btr_read.specs.declared.want.Want.{Want}
use Rattle.btr_walk.specs.declared.advancing.Advanced.{Advanced}
use Rattle.btr_walk.specs.declared.fault.TreeFault.{TreeFault}
use Rattle.btr_walk.specs.declared.frame.Frame.{Frame}
use Rattle.btr_walk.specs.declared.going.Where.{Where}
use Rattle.btr_walk.specs.declared.scan_place.ScanPlace.{ScanPlace}
use Rattle.btr_walk.specs.Le.{TreeItem, tree_item}
use Rattle.btr_walk.specs.Range.{RangeProg, emit_all}
use Rattle.btr_walk.specs.Reading.{Map, UnreadBlock, halt_of}
use Rattle.btr_walk.specs.Scans.{wants, part_items, kept_items}
use Rattle.btr_walk.specs.Going.{place_prog, IsAlong, IsOn}
use Rattle.btr_walk.specs.Lending.{base}
use Rattle.btr_walk.specs.declared.leaf_at.LeafAt.{LeafAt}
use Rattle.btr_walk.specs.Hand.{IsHeld, behind_next, IsInHand}
pub use Rattle.btr_walk.specs.Hand.{loan_of}

-- what a step comes to that came to a leaf with an item, or to the end
abbrev pub arrived : Option LeafAt → Advanced
arrived None = record { leaf = None; met = Ok false }
arrived (Some l) = record { leaf = Some (behind_next l); met = Ok true }

-- a leaf is lent, or nothing
pub record Lends (old new : Blocks) (a : Advanced) : Type 0 where
  pub others : SameLoans old (base new (loan_of a.leaf))
  pub hand : IfSome a.leaf (IsInHand new)

-- the items of a leaf in hand that are still to come
abbrev pub hand_items : Option (List ℕ) → LeafAt → List TreeItem
hand_items None l = []
hand_items (Some block) l = part_items l.pointer.addr block l.next l.end

-- the items of a leaf in hand that are still to come, and then the rest
abbrev pub hand_prog : Blocks → LeafAt → RangeProg → RangeProg
hand_prog store l rest = emit_all (hand_items (block_of store l.loan) l) rest

-- the same of the leaf in hand, or of the one that was given back
abbrev pub leaf_prog : Map → Blocks → Option LeafAt → Option Frame → RangeProg → RangeProg
leaf_prog B store (Some l) kept rest = hand_prog store l rest
leaf_prog B store None (Some frame) rest = emit_all (kept_items B frame) rest
leaf_prog B store None None rest = rest

module _ (lo hi : Key) where
  -- what a scan has still to give
  abbrev pub left : Map → Blocks → Option LeafAt → ScanPlace → RangeProg
  left B store leaf place = leaf_prog B store leaf place.leaf (place_prog lo hi B place.rest)

  -- the item before `next` was met, some wants before it; what is left comes behind. The leaf is among the blocks that
  -- were read, where `was` holds of the one before.
  pub record Meets (was : Type 0) (B : Map) (seen : List Want) (before : RangeProg) (store : Blocks) (l : LeafAt) (place : Where) : Type 0 where
    pub past : List Want
    pub item : TreeItem
    pub is : exec B before ≡ prepend (wants past) (first (Does item) (exec B (hand_prog store l (place_prog lo hi B place))))
    pub on : IsAlong lo hi B (seen ++ past) place
    pub some : 0 < l.next
    pub at : IsSomeAnd (block_of store l.loan)
        (λ block. (l.next ≤ length (items block)) × ((d : Item) → tree_item l.pointer.addr (slice_index_or (items block) (l.next - 1) d) ≡ item))
    pub held : was → IsHeld B (seen ++ past) store l

  -- a step of a scan that had still to give what `before` says
  abbrev pub AdvancesBy : Type 0 → (UnreadBlock → Want → Type 0) → Map → List Want → RangeProg → Blocks → Where → Option LeafAt → Result Bool TreeFault → Type 0
  AdvancesBy was Is B seen before store place None (Ok true) = ⊥
  AdvancesBy was Is B seen before store place (Some l) (Ok true) = Meets was B seen before store l place
  AdvancesBy was Is B seen before store place leaf (Ok false) = Follows Is no_part seen (exec B before) [] (Ok tt)
  AdvancesBy was Is B seen before store place leaf (Err f) = Follows Is no_part seen (exec B before) [] (Err (halt_of f))

  -- with no leaf in hand an item more is met, or the scan comes to its end or a fault, from wherever it is
  abbrev pub FromPlace : (UnreadBlock → Want → Type 0) → Map → Where → Where → Blocks → Advanced → Type 0
  FromPlace Is B place after store a =
      (seen : List Want) → IsAlong lo hi B seen place
      → AdvancesBy (Unit {0}) Is B seen (place_prog lo hi B place) store after a.leaf a.met

  -- with a leaf in hand an item more is met, or the scan comes to its end or a fault, from wherever it is
  abbrev pub FromHand : (UnreadBlock → Want → Type 0) → Map → Where → Where → LeafAt → Blocks → Blocks → Advanced → Type 0
  FromHand Is B place after hand old new a =
      (seen : List Want) → IsAlong lo hi B seen place
      → AdvancesBy (IsHeld B seen old hand) Is B seen (hand_prog old hand (place_prog lo hi B place)) new after a.leaf a.met

  -- with a leaf in hand, given back or none, an item more is met, or the scan comes to its end or a fault
  abbrev pub IsAdvanced : (UnreadBlock → Want → Type 0) → Map → ScanPlace → Where → Option LeafAt → Blocks → Blocks → Advanced → Type 0
  IsAdvanced Is B place after leaf old new a =
      (seen : List Want) → IsOn lo hi B seen place
      → AdvancesBy (IfSome leaf (IsHeld B seen old)) Is B seen (left B old leaf place) new after a.leaf a.met

-- a leaf is kept where an item was met, which stands before `next`, and only there
abbrev pub HasItem : Option LeafAt → Result Bool TreeFault → Type 0
HasItem None (Ok true) = ⊥
HasItem (Some l) (Ok true) = (0 < l.next) × (l.next ≤ l.end)
HasItem leaf (Ok false) = leaf ≡ None
HasItem leaf (Err f) = leaf ≡ None

-- How a scan of the extents that begin in a chunk goes on.
use Rattle.std.specs.Prelude.{◌≡◌, ℕ, ◌+◌, ◌^◌, Contains, slice_get, ◌<◌, ◌≤◌, true, false, List, [], ◌++◌, Option, Some, None, Result, Ok, Err, OnOk}
use Rattle.btr_chunk.specs.declared.chunk.Chunk.{Chunk}
use Rattle.btr_prog.specs.Answers.{Follows, no_part}
use Rattle.btr_prog.specs.Prog.{Does, Mark, exec, first, prepend, steps_of, want_marks, wants_of}
use Rattle.btr_rack.specs.Rack.{OnlyReads, Seen}
use Rattle.btr_read.specs.Layout.{Layout}
use Rattle.btr_read.specs.Store.{Blocks, SameLoans}
use Rattle.btr_read.specs.declared.want.Want.{Want}
use Rattle.btr_super.specs.declared.superblock.Super.{Super}
use Rattle.btr_walk.specs.Going.{IsOn}
use Rattle.btr_walk.specs.Le.{TreeItem}
use Rattle.btr_walk.specs.Reading.{Map, Tells, UnreadBlock, halt_of, unread_by}
use Rattle.btr_walk.specs.ScanEnds.{IsScanReady, left_of, without_leaf}
use Rattle.btr_walk.specs.declared.fault.TreeFault.{TreeFault}
use Rattle.btr_walk.specs.declared.scan.Scan.{Scan}
use Rattle.btr_volume.specs.declared.root.TreeRoot.{TreeRoot}
use Rattle.btr_volume.specs.declared.stop.Stop.{Stop}
use Rattle.btr_scrub.specs.Extents.{span_of}
use Rattle.btr_scrub.specs.declared.extent.Span.{Span}
use Rattle.btr_scrub.specs.Gathering.{Lists, Scene, StopCause}
use Rattle.btr_scrub.specs.Units.{Met, extent_of, is_extent, items_met}
use Rattle.btr_scrub.specs.declared.collecting.NextExtent.{NextExtent}
use Rattle.btr_scrub.specs.declared.collecting.NextExtent.TheVariants.{End, Other, Broken, Found}
use Rattle.btr_volume.specs.Stops.{ended}

-- some wants, and then an item; what is left comes behind
pub record GivesItem (B : Map) (seen : List Want) (old new : Blocks) (scan scan' : Scan) (item : TreeItem) : Type 0 where
  pub past : List Want
  pub is : exec B (left_of B old scan) ≡ prepend (want_marks past) (first (Does item) (exec B (left_of B new scan')))
  pub on : IsOn scan.lo scan.hi B (seen ++ past) scan'.place

-- what an item says of extents
abbrev pub Says : Super → TreeItem → NextExtent → Type 0
Says s item End = ⊥
Says s item Other = is_extent item.key ≡ false
Says s item (Broken leaf) = (is_extent item.key ≡ true) × (extent_of s item ≡ None) × (item.leaf ≡ leaf)
Says s item (Found extent leaf) = (is_extent item.key ≡ true) × (extent_of s item ≡ Some extent) × (item.leaf ≡ leaf)

-- an item came, and this is what it says
pub record GivesExtent (s : Super) (B : Map) (seen : List Want) (old new : Blocks) (scan scan' : Scan) (next : NextExtent) : Type 0 where
  pub item : TreeItem
  pub gives : GivesItem B seen old new scan scan' item
  pub says : Says s item next

-- the next item of a scan, or its end
abbrev pub NextExtentBy : Super → (UnreadBlock → Want → Type 0) → Map → List Want → Blocks → Blocks → Scan → Scan → Result NextExtent TreeFault → Type 0
NextExtentBy s Is B seen old new scan scan' (Ok End) = Follows Is no_part seen (exec B (left_of B old scan)) [] (Ok tt)
NextExtentBy s Is B seen old new scan scan' (Ok Other) = GivesExtent s B seen old new scan scan' Other
NextExtentBy s Is B seen old new scan scan' (Ok (Broken leaf)) = GivesExtent s B seen old new scan scan' (Broken leaf)
NextExtentBy s Is B seen old new scan scan' (Ok (Found extent leaf)) = GivesExtent s B seen old new scan scan' (Found extent leaf)
NextExtentBy s Is B seen old new scan scan' (Err f) = Follows Is no_part seen (exec B (left_of B old scan)) [] (Err (halt_of f))

-- a scan that gave an item comes nearer to its end
abbrev pub ItemRankFalls : ℕ → ℕ → Result NextExtent TreeFault → Type 0
ItemRankFalls old new (Ok End) = Unit {0}
ItemRankFalls old new (Ok Other) = new < old
ItemRankFalls old new (Ok (Broken leaf)) = new < old
ItemRankFalls old new (Ok (Found extent leaf)) = new < old
ItemRankFalls old new (Err f) = Unit {0}

module _ (s : Super) (sums : Option TreeRoot) (chunk : Chunk) where
  -- of the items that a scan had still to give some marks are past; what is left is what it
  -- has now, behind an extent that ends at `end`
  pub record Between (B : Map) (store store' : Blocks) (scan scan' : Scan) (end : ℕ) (done : List Met) : Type 0 where
    pub before : List (Mark Want Met)
    pub is : exec B (items_met s sums chunk 0 (left_of B store scan)) ≡ prepend before (exec B (items_met s sums chunk end (left_of B store' scan')))
    pub steps : done ≡ steps_of before
    pub on : IsOn scan'.lo scan'.hi B (wants_of before) scan'.place

  -- a scan is under way: what it met was listed
  pub record Underway (x y : Scene) (scan scan' : Scan) (end : ℕ) : Type 0 where
    pub reads : OnlyReads x.rack y.rack
    pub sup : y.vol.sup ≡ x.vol.sup
    pub others : SameLoans (without_leaf x.vol.store scan) (without_leaf y.vol.store scan')
    pub ready : IsScanReady y.rack y.vol.store scan'
    pub done : List Met
    pub lists : Lists x.list y.list done
    pub content : Tells x.vol.store.layout x.rack y.rack (λ B. Between B x.vol.store y.vol.store scan scan' end done)

  -- all that a scan had still to give was met and listed, or it came to a stop
  pub record Scanned (x y : Scene) (scan scan' : Scan) (answer : Result ℕ Stop) : Type 0 where
    pub reads : OnlyReads x.rack y.rack
    pub sup : y.vol.sup ≡ x.vol.sup
    pub others : SameLoans (without_leaf x.vol.store scan) (without_leaf y.vol.store scan')
    pub ready : IsScanReady y.rack y.vol.store scan'
    pub done : List Met
    pub lists : OnOk answer (Lists x.list y.list done)
    pub content : Tells x.vol.store.layout x.rack y.rack (λ B. Follows (unread_by x.vol.store.layout x.rack y.rack) no_part []
        (exec B (items_met s sums chunk 0 (left_of B x.vol.store scan))) done (ended answer))
    pub cause : StopCause x.vol.store.layout x.rack y.rack answer

-- a span is that of a chunk of the table
pub record IsSpanIn (layout : Layout) (span : Span) : Type 0 where
  pub chunk : Chunk
  pub is : span ≡ span_of chunk
  pub there : Contains layout.chunks chunk

-- so far as a scan's step was steady, this came next
abbrev pub NextTold : Super → Seen → Seen → Blocks → Blocks → Scan → Scan → Result NextExtent TreeFault → Type 0
NextTold s old new store store' scan scan' next =
    Tells store.layout old new (λ B. (seen : List Want) → IsOn scan.lo scan.hi B seen scan.place
    → NextExtentBy s (unread_by store.layout old new) B seen store store' scan scan' next)

-- a span is that of the chunk of a number, which has an address, and ends below 2^64
pub record IsSpanAt (layout : Layout) (i : ℕ) (span : Span) : Type 0 where
  pub chunk : Chunk
  pub at : slice_get layout.chunks i ≡ Some chunk
  pub is : span ≡ span_of chunk
  pub range : span.start + span.length < 2 ^ 64
  pub some : 1 ≤ span.length

-- The chunks of a table, one after another, and the scan of each.
use Rattle.std.proofs.Common.{◌≡◌, ℕ, ◌+◌, ◌-◌, List, [], drop, slice_get, Contains, Option, Some, None, Result, ap, ◌∙◌, subst}
use Rattle.btr_scrub.proofs.Common.{Chunk, Follows, Gathers, Layout, Map, SameLoans, Scan, Scene, Serves, Span, Super, TreeRoot, Volume, bind, drawn, exec}
use Rattle.btr_scrub.proofs.Common.{get_or_from_slice_get, in_chunk, in_chunks, key, no_part, scene, slice_get_within, unread_by, without_leaf}
use Rattle.btr_walk.specs.Advancing.{loan_of}
use Rattle.btr_walk.specs.Lending.{base}
use Rattle.btr_walk.specs.Range.{RangeProg, range}
use Rattle.btr_walk.specs.ScanEnds.{left_of}
use Rattle.btr_walk.specs.declared.place.RootPlace.{RootPlace}
use Rattle.btr_volume.specs.Tree.{last}
use Rattle.btr_volume.specs.declared.stop.Stop.{Stop as TheStop}
use Rattle.btr_walk.proofs.Lending.{same_then}
use Rattle.btr_scrub.specs.Extents.{span_of}
use Rattle.btr_scrub.specs.Scanning.{IsSpanAt, IsSpanIn, Scanned}
use Rattle.btr_scrub.specs.Units.{items_met}
use Rattle.btr_volume.specs.Stops.{ended}
use Rattle.btr_scrub.proofs.Firsts.{drop_one}

-- a list contains what it has at a number
pub contains_at : (chunks : List Chunk) (i : ℕ) (chunk : Chunk) → slice_get chunks i ≡ Some chunk → Contains chunks chunk
contains_at chunks i chunk e = (i, slice_get_within chunks i chunk e, get_or_from_slice_get chunks i chunk chunk e)

-- the span of the chunk of a number is that of a chunk of the table
pub span_in : (layout layout' : Layout) (i : ℕ) (span : Span) → layout' ≡ layout → IsSpanAt layout' i span → IsSpanIn layout' span
span_in layout layout' i span same at = record { chunk = at.chunk; is = at.is; there = contains_at layout'.chunks i at.chunk at.at }

-- what is left from a chunk on begins with it
pub chunk_first : (s : Super) (sums : Option TreeRoot) (extents : TreeRoot) (chunks : List Chunk) (i : ℕ) (chunk : Chunk) → slice_get chunks i ≡ Some chunk
    → in_chunks s sums extents (drop i chunks) ≡ bind (in_chunk s sums chunk extents) (λ _. in_chunks s sums extents (drop (i + 1) chunks))
chunk_first s sums extents chunks i chunk e = ap (in_chunks s sums extents) (drop_one chunks i chunk e)

-- the range of a chunk's extents, by its span
pub range_of_span : (span : Span) (chunk : Chunk) (root : RootPlace) → span ≡ span_of chunk
    → range (key span.start 0 0) (key (span.start + span.length - 1) 255 last) root
    ≡ range (key chunk.start 0 0) (key (chunk.start + chunk.length - 1) 255 last) root
range_of_span span chunk root e = ap (λ (s : Span). range (key s.start 0 0) (key (s.start + s.length - 1) 255 last) root) e

-- a scan that was made for a chunk came to its end, and gave its leaf back
pub gathers_scan : (s : Super) (sums : Option TreeRoot) (chunk : Chunk) (x y : Scene) (scan scan' : Scan) (r : Result ℕ TheStop) (after : Volume)
    (p : RangeProg) → Scanned s sums chunk x y scan scan' r → s ≡ x.vol.sup → after.sup ≡ y.vol.sup → SameLoans (without_leaf y.vol.store scan') after.store
    → Serves y.rack after.store → scan.leaf ≡ None → ((B : Map) → left_of B x.vol.store scan ≡ p)
    → Gathers (items_met s sums chunk 0 p) x (scene y.rack after y.list) r
gathers_scan s sums chunk x y scan scan' r after p h same sup back serves none program = record {
  reads = h.reads;
  volume = record {
    sup = sup ∙ h.sup;
    store = same_then (subst (λ b. SameLoans b (without_leaf y.vol.store scan')) (ap (λ l. base x.vol.store (loan_of l)) none) h.others) back;
  };
  serves = serves;
  done = h.done;
  lists = h.lists;
  content = drawn x.vol.store.layout (λ B. Follows (unread_by x.vol.store.layout x.rack y.rack) no_part []
      (exec B (items_met s sums chunk 0 (left_of B x.vol.store scan))) h.done (ended r))
      (λ B. Follows (unread_by x.vol.store.layout x.rack y.rack) no_part [] (exec B (items_met s sums chunk 0 p)) h.done (ended r))
      (λ B f. subst (λ q. Follows (unread_by x.vol.store.layout x.rack y.rack) no_part [] (exec B (items_met s sums chunk 0 q)) h.done (ended r))
      (program B) f) h.content;
  cause = h.cause;
}

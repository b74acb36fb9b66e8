-- A scan of extents, call by call.
use Rattle.std.proofs.Common.{◌≡◌, ℕ, List, [], ◌++◌, Option, Some, Result, Ok, Err, OnOk, refl, ◌∙◌}
use Rattle.btr_scrub.proofs.Common.{Blocks, Chunk, Extent, Follows, Gathers, IsList, Layout, Lists, Map, Meeting, Met, OnlyReads, SameLoans, Scan, Scene, Seen}
use Rattle.btr_scrub.proofs.Common.{Super, Tells, TreeFault, TreeRoot, UnreadBlock, Volume, Want, exec, extent_met, no_part, reads_more, scene, unread_by}
use Rattle.btr_scrub.proofs.Common.{without_leaf}
use Rattle.btr_prog.specs.Prog.{wants_of}
use Rattle.btr_prog.proofs.Follow.{follows_as}
use Rattle.btr_rack.proofs.Reading.{reads_none}
use Rattle.btr_walk.specs.Going.{IsOn}
use Rattle.btr_walk.specs.Reading.{HasCause, halt_of}
use Rattle.btr_walk.specs.ScanEnds.{IsScanReady, left_of}
use Rattle.btr_walk.specs.declared.fault.TreeFault.TheVariants as tree
use Rattle.btr_walk.proofs.Fetched.{since}
use Rattle.btr_walk.proofs.Joined.{joined, unread_on}
use Rattle.btr_walk.proofs.Lending.{same_then}
use Rattle.btr_walk.proofs.Staying.{ready_same}
use Rattle.btr_volume.specs.declared.stop.Stop.{Stop as TheStop}
use Rattle.btr_volume.specs.declared.stop.Stop.TheVariants as stop
use Rattle.btr_scrub.specs.Gathering.{StopCause}
use Rattle.btr_scrub.specs.Scanning.{Between, GivesExtent, NextExtentBy, Scanned, Underway}
use Rattle.btr_scrub.specs.Units.{items_met}
use Rattle.btr_scrub.specs.declared.collecting.NextExtent.{NextExtent}
use Rattle.btr_scrub.specs.declared.collecting.NextExtent.TheVariants.{End, Other, Broken, Found}
use Rattle.btr_scrub.proofs.Gathering.{lists_none, lists_then, stop_cause_since, tree_cause}
use Rattle.btr_scrub.proofs.Scanning.{between_ends, between_extent, between_halts, between_other, between_stops, same_layout, without_same}
use Rattle.btr_volume.specs.Stops.{ended, stop_halt}

-- what an item says is what comes next
pub next_by : (s : Super) (Is : UnreadBlock → Want → Type 0) (B : Map) (seen : List Want) (old new : Blocks) (scan scan' : Scan) (next : NextExtent)
    → GivesExtent s B seen old new scan scan' next → NextExtentBy s Is B seen old new scan scan' (Ok next)
next_by s Is B seen old new scan scan' End c = absurd c.says
next_by s Is B seen old new scan scan' next c = c

-- nothing was met yet
pub underway_first : (s : Super) (sums : Option TreeRoot) (chunk : Chunk) (x : Scene) (scan : Scan) → IsScanReady x.rack x.vol.store scan
    → IsList x.list.list → ((B : Map) → IsOn scan.lo scan.hi B [] scan.place) → Underway s sums chunk x x scan scan 0
underway_first s sums chunk x scan ready is on = record {
  reads = reads_none x.rack;
  sup = refl;
  others = record { layout = refl; loans = refl };
  ready = ready;
  done = [];
  lists = lists_none x.list is;
  content = unread_on x.vol.store.layout (λ B. Between s sums chunk B x.vol.store x.vol.store scan scan 0 [])
      (λ B. record { before = []; is = refl; steps = refl; on = on B });
}

module _ {s : Super} {sums : Option TreeRoot} {chunk : Chunk} {x y : Scene} {scan at : Scan} {end : ℕ} (u : Underway s sums chunk x y scan at end)
    {rack : Seen} (vol : Volume) {at' : Scan} (sup : vol.sup ≡ y.vol.sup) (reads : OnlyReads y.rack rack)
    (others : SameLoans (without_leaf y.vol.store at) (without_leaf vol.store at')) (ready : IsScanReady rack vol.store at') where
  abbrev layout : Layout
  layout = x.vol.store.layout

  -- a block couldn't be read in the last call
  abbrev Is : UnreadBlock → Want → Type 0
  Is = unread_by y.vol.store.layout y.rack rack

  -- the last call told what comes next, from where the scan stood
  abbrev Next : Result NextExtent TreeFault → Map → Type 0
  Next next B = (seen : List Want) → IsOn at.lo at.hi B seen at.place → NextExtentBy s Is B seen y.vol.store vol.store at at' next

  -- what was met before the last call
  abbrev Was : Map → Type 0
  Was B = Between s sums chunk B x.vol.store y.vol.store scan at end u.done

  -- the layout stayed
  same : y.vol.store.layout ≡ layout
  same = same_layout x.vol.store y.vol.store scan at u.others

  -- a want that was unread in the last call was unread
  weaker : (w : UnreadBlock) (want : Want) → Is w want → unread_by layout x.rack rack w want
  weaker w want h = since layout y.vol.store.layout same u.reads w want h

  -- all that is met, by what the last call told
  scanned : (next : Result NextExtent TreeFault) (done : List Met) (r : Result ℕ TheStop) → OnOk r (Lists x.list y.list done)
      → ((B : Map) (b : Between s sums chunk B x.vol.store y.vol.store scan at end u.done)
      → NextExtentBy s Is B (wants_of b.before) y.vol.store vol.store at at' next
      → Follows (unread_by layout x.rack rack) no_part [] (exec B (items_met s sums chunk 0 (left_of B x.vol.store scan))) done (ended r))
      → StopCause layout x.rack rack r → Tells y.vol.store.layout y.rack rack (Next next) → Scanned s sums chunk x (scene rack vol y.list) scan at' r
  scanned next done r lists follows cause t = record {
    reads = reads_more u.reads reads;
    sup = sup ∙ u.sup;
    others = same_then u.others others;
    ready = ready;
    done = done;
    lists = lists;
    content = joined Was (Next next) (λ B. Follows (unread_by layout x.rack rack) no_part []
        (exec B (items_met s sums chunk 0 (left_of B x.vol.store scan))) done (ended r)) same (λ B b n. follows B b (n (wants_of b.before) b.on)) u.content t;
    cause = cause;
  }

  -- the items ended
  pub scanned_ends : Tells y.vol.store.layout y.rack rack (Next (Ok End)) → Scanned s sums chunk x (scene rack vol y.list) scan at' (Ok end)
  scanned_ends t = scanned (Ok End) u.done (Ok end) u.lists (λ B b n. between_ends b (unread_by layout x.rack rack) n) tt t

  -- or came to a fault
  pub scanned_fault : (f : TreeFault) → HasCause {A = NextExtent} y.vol.store.layout y.rack rack (Err f)
      → Tells y.vol.store.layout y.rack rack (Next (Err f)) → Scanned s sums chunk x (scene rack vol y.list) scan at' (Err (stop.Tree f))
  scanned_fault f cause t = scanned (Err f) u.done (Err (stop.Tree f)) tt
      (λ B b n. between_halts b (unread_by layout x.rack rack) f
      (follows_as Is (unread_by layout x.rack rack) weaker no_part (wants_of b.before) (exec B (left_of B y.vol.store at)) [] (Err (halt_of f)) n))
      (stop_cause_since {C = ℕ} rack layout y.vol.store.layout (Err (stop.Tree f)) same u.reads (tree_cause y.vol.store.layout y.rack rack f cause)) t

  module _ (lo : at'.lo ≡ at.lo) (hi : at'.hi ≡ at.hi) where
    -- an item that is no extent
    pub underway_other : Tells y.vol.store.layout y.rack rack (Next (Ok Other)) → Underway s sums chunk x (scene rack vol y.list) scan at' end
    underway_other t = record {
      reads = reads_more u.reads reads;
      sup = sup ∙ u.sup;
      others = same_then u.others others;
      ready = ready;
      done = u.done;
      lists = u.lists;
      content = joined Was (Next (Ok Other)) (λ B. Between s sums chunk B x.vol.store vol.store scan at' end u.done) same
          (λ B b n. let c = n (wants_of b.before) b.on in
          between_other b c.gives lo hi c.says) u.content t;
    }

    -- one that breaks its form
    pub scanned_broken : (leaf : ℕ) → Tells y.vol.store.layout y.rack rack (Next (Ok (Broken leaf)))
        → Scanned s sums chunk x (scene rack vol y.list) scan at' (Err (stop.Tree (tree.Malformed leaf)))
    scanned_broken leaf t = scanned (Ok (Broken leaf)) (u.done ++ []) (Err (stop.Tree (tree.Malformed leaf))) tt
        (λ B b c. between_stops b c.gives c.says.0 c.says.1 c.says.2 (unread_by layout x.rack rack) (halt_of (tree.Malformed leaf)) [] (refl, refl)) tt t

    module _ (extent : Extent) (leaf : ℕ) (t : Tells y.vol.store.layout y.rack rack (Next (Ok (Found extent leaf)))) where
      -- what is met of the extent
      abbrev treated : Meeting ℕ
      treated = extent_met s sums chunk end leaf (Some extent)

      -- what is known of the item
      abbrev Here : Map → Type 0
      Here B = (b : Between s sums chunk B x.vol.store y.vol.store scan at end u.done)
          × GivesExtent s B (wants_of b.before) y.vol.store vol.store at at' (Found extent leaf)

      -- it is told by all calls so far
      here : Tells layout x.rack rack Here
      here = joined Was (Next (Ok (Found extent leaf))) Here same (λ B b n. (b, n (wants_of b.before) b.on)) u.content t

      -- and it stayed behind this call
      deeper : vol.store.layout ≡ layout
      deeper = same_layout y.vol.store vol.store at at' others ∙ same

      -- a want that was unread since this call was unread since the first
      later : (z : Scene) (w : UnreadBlock) (want : Want) → unread_by vol.store.layout rack z.rack w want → unread_by layout x.rack z.rack w want
      later z w want h = since layout vol.store.layout deeper (reads_more u.reads reads) w want h

      -- an extent whose blocks were listed
      pub underway_extent : {z : Scene} (end' : ℕ) → Gathers treated (scene rack vol y.list) z (Ok end') → Underway s sums chunk x z scan at' end'
      underway_extent {z} end' g = record {
        reads = reads_more (reads_more u.reads reads) g.reads;
        sup = g.volume.sup ∙ (sup ∙ u.sup);
        others = same_then (same_then u.others others) (without_same vol.store z.vol.store at' g.volume.store);
        ready = ready_same rack z.rack vol.store z.vol.store at' g.volume.store g.serves ready;
        done = u.done ++ g.done;
        lists = lists_then x.list y.list z.list u.done g.done u.lists g.lists;
        content = joined Here (λ B. Follows (unread_by vol.store.layout rack z.rack) no_part [] (exec B treated) g.done (Ok end'))
            (λ B. Between s sums chunk B x.vol.store z.vol.store scan at' end' (u.done ++ g.done)) deeper
            (λ B h f. between_extent h.0 h.1.gives h.1.says.0 h.1.says.1 h.1.says.2 (unread_by vol.store.layout rack z.rack) z.vol.store end' g.done
            g.volume.store lo hi f) here g.content;
      }

      -- an extent whose blocks were not listed to their end
      pub scanned_stops : {z : Scene} (e : TheStop) → Gathers treated (scene rack vol y.list) z (Err e) → Scanned s sums chunk x z scan at' (Err e)
      scanned_stops {z} e g = record {
        reads = reads_more (reads_more u.reads reads) g.reads;
        sup = g.volume.sup ∙ (sup ∙ u.sup);
        others = same_then (same_then u.others others) (without_same vol.store z.vol.store at' g.volume.store);
        ready = ready_same rack z.rack vol.store z.vol.store at' g.volume.store g.serves ready;
        done = u.done ++ g.done;
        lists = tt;
        content = joined Here (λ B. Follows (unread_by vol.store.layout rack z.rack) no_part [] (exec B treated) g.done (Err (stop_halt e)))
            (λ B. Follows (unread_by layout x.rack z.rack) no_part [] (exec B (items_met s sums chunk 0 (left_of B x.vol.store scan)))
            (u.done ++ g.done) (Err (stop_halt e))) deeper
            (λ B h f. between_stops h.0 h.1.gives h.1.says.0 h.1.says.1 h.1.says.2 (unread_by layout x.rack z.rack) (stop_halt e) g.done
            (follows_as (unread_by vol.store.layout rack z.rack) (unread_by layout x.rack z.rack) (later z) no_part [] (exec B treated) g.done
            (Err (stop_halt e)) f)) here g.content;
        cause = stop_cause_since {C = ℕ} z.rack layout vol.store.layout (Err e) deeper (reads_more u.reads reads) g.cause;
      }

use Rattle.std.proofs.Common.{Result, ◌≡◌, Some, Ok, Err, refl, sym, ap, ◌∙◌, subst, arith}
use Rattle.btr_scrub.proofs.Common.{Gathers, Layout, Super, TreeFault, Volume, err_from_is_err_and, extent_met, kind_in, scene, tree_behind, without_leaf}
use Rattle.std.specs.Prelude.{Contains}
use Rattle.btr_walk.specs.ScanEnds.{rank_of}
use Rattle.btr_scrub.specs.Scanning.{ItemRankFalls, NextTold}
use Rattle.btr_walk.proofs.Staying.{ready_same, room_beside, room_same}
use Rattle.btr_scrub.proofs.Scanning.{same_layout, without_same}
use Rattle.btr_scrub.proofs.Underways.{scanned_broken, scanned_ends, scanned_fault, scanned_stops, underway_extent, underway_first, underway_other}
use Rattle.btr_scrub.specs.declared.collecting.NextExtent.{NextExtent}
use Rattle.btr_scrub.proofs.collecting.gather_items.Given as given
use Rattle.btr_scrub.proofs.collecting.gather_items.Goals.{After-next_extent, In-Ok-Found}
use Rattle.btr_scrub.proofs.collecting.gather_items.Goals as goal

-- what came next is told, by a superblock
abbrev Told : (g : given.Over) → After-next_extent g → Super → Result NextExtent TreeFault → Type 0
Told g c s next = NextTold s (g.R.Rack.seen c.loop-fault.rack) (g.R.Rack.seen c.next_extent.new.rack) c.loop-fault.vol.store c.next_extent.new.store
    c.loop-fault.scan c.next_extent.new.scan next

-- it is told by the one that the scan began with, and as its arm says
told : (g : given.Over) (c : After-next_extent g) {next next' : Result NextExtent TreeFault} → next ≡ next' → Told g c c.loop-fault.vol.sup next
    → Told g c c.args.vol.now.sup next'
told g c {next} is h = subst (Told g c c.args.vol.now.sup) is (subst (λ s. Told g c s next) c.loop-fault.invariant.sup h)

pub loop-fault-init : goal.loop-fault-init
loop-fault-init g c = record {
  ready = c.requires.ready;
  room = c.requires.room;
  sup = refl;
  layout = refl;
  is_list = c.requires.is_list;
  kind = refl;
  underway = λ chunk span there. underway_first c.args.vol.now.sup (tree_behind c.args.sums) chunk
      (scene (g.R.Rack.seen c.args.rack.now) c.args.vol.now c.args.gathered.now) c.args.scan.now c.requires.ready c.requires.is_list c.requires.on;
}

pub next_extent-requires-clause-ready : goal.next_extent-requires-clause-ready
next_extent-requires-clause-ready g c = c.loop-fault.invariant.ready

pub next_extent-requires-clause-room : goal.next_extent-requires-clause-room
next_extent-requires-clause-room g c = let room = c.loop-fault.invariant.room in omega (arith, room)

pub returns-in-Err-clause-ready : goal.returns-in-Err-clause-ready
returns-in-Err-clause-ready g c = c.in-Err.ensures.ready

pub returns-in-Err-clause-scanned : goal.returns-in-Err-clause-scanned
returns-in-Err-clause-scanned g c chunk span there =
    let inv = c.loop-fault.invariant in
    scanned_fault (inv.underway chunk span there) (record { store = c.next_extent.new.store; sup = c.loop-fault.vol.sup }) refl c.in-Err.ensures.reads
    c.in-Err.ensures.others c.in-Err.ensures.ready c.in-Err.fault c.in-Err.ensures.cause
    (told g (goal.at.returns-in-Err-clause-scanned g c).After-next_extent {next = Err c.in-Err.fault} refl c.in-Err.ensures.content)

pub returns-in-Ok-End-clause-ready : goal.returns-in-Ok-End-clause-ready
returns-in-Ok-End-clause-ready g c = c.in-Ok-End.ensures.ready

pub returns-in-Ok-End-clause-scanned : goal.returns-in-Ok-End-clause-scanned
returns-in-Ok-End-clause-scanned g c chunk span there =
    let inv = c.loop-fault.invariant in
    scanned_ends (inv.underway chunk span there) (record { store = c.next_extent.new.store; sup = c.loop-fault.vol.sup }) refl c.in-Ok-End.ensures.reads
    c.in-Ok-End.ensures.others c.in-Ok-End.ensures.ready
    (told g (goal.at.returns-in-Ok-End-clause-scanned g c).After-next_extent (ap Ok c.in-Ok-End.field-0-is) c.in-Ok-End.ensures.content)

pub loop-fault-smaller-in-Ok-Other : goal.loop-fault-smaller-in-Ok-Other
loop-fault-smaller-in-Ok-Other g c = subst (λ v. ItemRankFalls (rank_of c.loop-fault.scan) (rank_of c.next_extent.new.scan) (Ok v))
    c.in-Ok-Other.field-0-is c.in-Ok-Other.ensures.rank_falls

pub loop-fault-preserved-in-Ok-Other : goal.loop-fault-preserved-in-Ok-Other
loop-fault-preserved-in-Ok-Other g c =
    let inv = c.loop-fault.invariant in
    record {
      ready = c.in-Ok-Other.ensures.ready;
      room = room_same (without_leaf c.loop-fault.vol.store c.loop-fault.scan) (without_leaf c.next_extent.new.store c.next_extent.new.scan) 5
          c.in-Ok-Other.ensures.others inv.room;
      sup = inv.sup;
      layout = same_layout c.loop-fault.vol.store c.next_extent.new.store c.loop-fault.scan c.next_extent.new.scan c.in-Ok-Other.ensures.others ∙ inv.layout;
      is_list = inv.is_list;
      kind = inv.kind;
      underway =
          λ chunk span there. underway_other (inv.underway chunk span there) (record { store = c.next_extent.new.store; sup = c.loop-fault.vol.sup }) refl
          c.in-Ok-Other.ensures.reads c.in-Ok-Other.ensures.others c.in-Ok-Other.ensures.ready c.in-Ok-Other.ensures.lo c.in-Ok-Other.ensures.hi
          (told g (goal.at.loop-fault-preserved-in-Ok-Other g c).After-next_extent (ap Ok c.in-Ok-Other.field-0-is) c.in-Ok-Other.ensures.content);
    }

pub returns-in-Ok-Broken-clause-ready : goal.returns-in-Ok-Broken-clause-ready
returns-in-Ok-Broken-clause-ready g c = c.in-Ok-Broken.ensures.ready

pub returns-in-Ok-Broken-clause-scanned : goal.returns-in-Ok-Broken-clause-scanned
returns-in-Ok-Broken-clause-scanned g c chunk span there =
    let inv = c.loop-fault.invariant in
    scanned_broken (inv.underway chunk span there) (record { store = c.next_extent.new.store; sup = c.loop-fault.vol.sup }) refl c.in-Ok-Broken.ensures.reads
    c.in-Ok-Broken.ensures.others c.in-Ok-Broken.ensures.ready c.in-Ok-Broken.ensures.lo c.in-Ok-Broken.ensures.hi c.in-Ok-Broken.leaf
    (told g (goal.at.returns-in-Ok-Broken-clause-scanned g c).After-next_extent (ap Ok c.in-Ok-Broken.field-0-is) c.in-Ok-Broken.ensures.content)

pub gather_extent-requires-clause-serves : goal.gather_extent-requires-clause-serves
gather_extent-requires-clause-serves g c = c.in-Ok-Found.ensures.ready.serves

pub gather_extent-requires-clause-room : goal.gather_extent-requires-clause-room
gather_extent-requires-clause-room g c =
    room_beside (g.R.Rack.seen c.next_extent.new.rack) c.next_extent.new.store c.next_extent.new.scan 4 c.in-Ok-Found.ensures.ready
    (room_same (without_leaf c.loop-fault.vol.store c.loop-fault.scan) (without_leaf c.next_extent.new.store c.next_extent.new.scan) 5
    c.in-Ok-Found.ensures.others c.loop-fault.invariant.room)

pub gather_extent-requires-clause-is_list : goal.gather_extent-requires-clause-is_list
gather_extent-requires-clause-is_list g c = c.loop-fault.invariant.is_list

pub gather_extent-requires-clause-kind : goal.gather_extent-requires-clause-kind
gather_extent-requires-clause-kind g c = c.loop-fault.invariant.kind ∙ c.requires.kind ∙ ap kind_in (sym c.loop-fault.invariant.sup)

pub gather_extent-requires-clause-span : goal.gather_extent-requires-clause-span
gather_extent-requires-clause-span g c = c.requires.span

pub loop-fault-smaller : goal.loop-fault-smaller
loop-fault-smaller g c = subst (λ v. ItemRankFalls (rank_of c.loop-fault.scan) (rank_of c.next_extent.new.scan) (Ok v)) c.in-Ok-Found.field-0-is
    c.in-Ok-Found.ensures.rank_falls

-- the layout is still the one that the scan began with
same_table : (g : given.Over) (c : In-Ok-Found g) → c.next_extent.new.store.layout ≡ c.args.vol.now.store.layout
same_table g c = same_layout c.loop-fault.vol.store c.next_extent.new.store c.loop-fault.scan c.next_extent.new.scan c.in-Ok-Found.ensures.others
    ∙ c.loop-fault.invariant.layout

pub loop-fault-preserved : goal.loop-fault-preserved
loop-fault-preserved g c =
    let inv = c.loop-fault.invariant in
    let after : Volume = record { store = c.next_extent.new.store; sup = c.loop-fault.vol.sup } in
    let came = c.in-Ok-Found.ensures in
    let layout = same_table g (goal.at.loop-fault-preserved g c).In-Ok-Found in
    let of = c.requires.chunk in
    let one = c.in_ok-end-in-Ok-Found.ensures of.chunk of.is (subst (λ (l : Layout). Contains l.chunks of.chunk) (sym layout) of.there) in
    record {
      ready = ready_same (g.R.Rack.seen c.next_extent.new.rack) (g.R.Rack.seen c.gather_extent.new.rack) c.next_extent.new.store
          c.gather_extent.new.vol.store c.next_extent.new.scan one.volume.store one.serves came.ready;
      room = room_same (without_leaf c.next_extent.new.store c.next_extent.new.scan) (without_leaf c.gather_extent.new.vol.store c.next_extent.new.scan) 5
          (without_same c.next_extent.new.store c.gather_extent.new.vol.store c.next_extent.new.scan one.volume.store)
          (room_same (without_leaf c.loop-fault.vol.store c.loop-fault.scan) (without_leaf c.next_extent.new.store c.next_extent.new.scan) 5
          came.others inv.room);
      sup = one.volume.sup ∙ inv.sup;
      layout = one.volume.store.layout ∙ layout;
      is_list = one.lists.is_list;
      kind = one.lists.kind ∙ inv.kind;
      underway = λ chunk span there. underway_extent (inv.underway chunk span there) after refl came.reads came.others came.ready came.lo came.hi
          c.in-Ok-Found.extent c.in-Ok-Found.leaf
          (told g (goal.at.loop-fault-preserved g c).After-next_extent (ap Ok c.in-Ok-Found.field-0-is) came.content)
          c.in_ok-end-in-Ok-Found.end
          (subst (λ s. Gathers (extent_met s (tree_behind c.args.sums) chunk c.loop-fault.end c.in-Ok-Found.leaf (Some c.in-Ok-Found.extent))
          (scene (g.R.Rack.seen c.next_extent.new.rack) after c.loop-fault.gathered)
          (scene (g.R.Rack.seen c.gather_extent.new.rack) c.gather_extent.new.vol c.gather_extent.new.gathered) (Ok c.in_ok-end-in-Ok-Found.end)) inv.sup
          (c.in_ok-end-in-Ok-Found.ensures chunk span (subst (λ (l : Layout). Contains l.chunks chunk) (sym layout) there)));
    }

pub returns-in_err-end-in-Ok-Found-clause-ready : goal.returns-in_err-end-in-Ok-Found-clause-ready
returns-in_err-end-in-Ok-Found-clause-ready g c =
    let of = c.requires.chunk in
    let one = c.in_err-end-in-Ok-Found.ensures of.chunk of.is (subst (λ (l : Layout). Contains l.chunks of.chunk)
    (sym (same_table g (goal.at.returns-in_err-end-in-Ok-Found-clause-ready g c).In-Ok-Found)) of.there) in
    ready_same (g.R.Rack.seen c.next_extent.new.rack) (g.R.Rack.seen c.gather_extent.new.rack) c.next_extent.new.store c.gather_extent.new.vol.store
    c.next_extent.new.scan one.volume.store one.serves c.in-Ok-Found.ensures.ready

pub returns-in_err-end-in-Ok-Found-clause-scanned : goal.returns-in_err-end-in-Ok-Found-clause-scanned
returns-in_err-end-in-Ok-Found-clause-scanned g c chunk span there =
    let inv = c.loop-fault.invariant in
    let after : Volume = record { store = c.next_extent.new.store; sup = c.loop-fault.vol.sup } in
    let came = c.in-Ok-Found.ensures in
    let layout = same_table g (goal.at.returns-in_err-end-in-Ok-Found-clause-scanned g c).In-Ok-Found in
    let p = err_from_is_err_and c.from_residual.result c.from_residual.ensures.1 in
    rw (p.1, p.2) (scanned_stops (inv.underway chunk span there) after refl came.reads came.others came.ready came.lo came.hi
    c.in-Ok-Found.extent c.in-Ok-Found.leaf
    (told g (goal.at.returns-in_err-end-in-Ok-Found-clause-scanned g c).After-next_extent (ap Ok c.in-Ok-Found.field-0-is) came.content)
    c.in_err-end-in-Ok-Found.field-0.0
    (subst (λ s. Gathers (extent_met s (tree_behind c.args.sums) chunk c.loop-fault.end c.in-Ok-Found.leaf (Some c.in-Ok-Found.extent))
    (scene (g.R.Rack.seen c.next_extent.new.rack) after c.loop-fault.gathered)
    (scene (g.R.Rack.seen c.gather_extent.new.rack) c.gather_extent.new.vol c.gather_extent.new.gathered) (Err c.in_err-end-in-Ok-Found.field-0.0))
    inv.sup (c.in_err-end-in-Ok-Found.ensures chunk span (subst (λ (l : Layout). Contains l.chunks chunk) (sym layout) there))))

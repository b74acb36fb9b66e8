use Rattle.std.proofs.Common.{Ok, Err, Option, Some, None, refl, subst, ◌∙◌, arith}
use Rattle.std.proofs.lemmas.Result.{err_from_is_err_and}
use Rattle.btr_rack.proofs.Reading.{reads_none, reads_more}
use Rattle.btr_walk.specs.Reading.{unread_by}
use Rattle.btr_walk.specs.ScanEnds.{without_leaf}
use Rattle.btr_walk.proofs.Fetched.{since}
use Rattle.btr_walk.proofs.Joined.{joined, unread_on}
use Rattle.btr_walk.proofs.Lending.{same_none, same_then}
use Rattle.btr_walk.proofs.Turns.{same_layout, same_room}
use Rattle.btr_files.specs.declared.extent.Ahead.{Ahead}
use Rattle.btr_files.specs.Ahead.{FitsAhead, IsNextExtent, KeepsItem}
use Rattle.btr_files.specs.Streaming.{FitsTodo}
use Rattle.btr_files.proofs.Passed.{Gone, gone_none, gone_more, gone_some, gone_end, gone_err, fits_lower}
use Rattle.btr_files.proofs.extent.find_extent.Goals as goal

pub loop-ahead-init : goal.loop-ahead-init
loop-ahead-init g c = record {
  ready = c.requires.ready;
  reads = reads_none (g.R.Rack.seen c.args.rack.now);
  others = same_none _;
  room = c.requires.room;
  layout = refl;
  lo = refl;
  hi = refl;
  later = omega arith;
  tells = unread_on c.args.store.now.layout (λ B. Gone c.args.source.now B c.args.store.now c.args.scan.now c.args.end c.args.store.now
      c.args.scan.now c.args.end)
      (λ B. gone_none c.args.source.now B c.args.store.now c.args.scan.now c.args.end);
}

pub returns-in_err-next_extent-clause-content : goal.returns-in_err-next_extent-clause-content
returns-in_err-next_extent-clause-content g c =
    let f = c.loop-ahead in
    let source = c.args.source.now in
    let first = c.args.store.now in
    let scan = c.args.scan.now in
    let new = c.next_extent.new.store in
    let scan' = c.next_extent.new.scan in
    let is = unread_by first.layout (g.R.Rack.seen c.args.rack.now) (g.R.Rack.seen c.next_extent.new.rack) in
    let was = unread_by f.store.layout (g.R.Rack.seen f.rack) (g.R.Rack.seen c.next_extent.new.rack) in
    let p = err_from_is_err_and c.from_residual.result c.from_residual.ensures.1 in
    rw (p.1, p.2)
    (joined (λ B. Gone source B first scan c.args.end f.store f.scan f.end)
    (λ B. IsNextExtent source was B f.store new f.scan scan' f.end (Err c.in_err-next_extent.field-0.0))
    (λ B. IsNextExtent source is B first new scan scan' c.args.end (Err c.in_err-next_extent.field-0.0)) f.invariant.layout
    (λ B l t. gone_err source B first scan c.args.end was is f.store f.scan f.end f.invariant.lo f.invariant.hi l new scan' c.in_err-next_extent.field-0.0
    (since _ _ f.invariant.layout f.invariant.reads) t)
    f.invariant.tells c.in_err-next_extent.ensures.content)

pub returns-in-None-clause-content : goal.returns-in-None-clause-content
returns-in-None-clause-content g c =
    let f = c.loop-ahead in
    let source = c.args.source.now in
    let first = c.args.store.now in
    let scan = c.args.scan.now in
    let new = c.next_extent.new.store in
    let scan' = c.next_extent.new.scan in
    let is = unread_by first.layout (g.R.Rack.seen c.args.rack.now) (g.R.Rack.seen c.next_extent.new.rack) in
    let was = unread_by f.store.layout (g.R.Rack.seen f.rack) (g.R.Rack.seen c.next_extent.new.rack) in
    joined (λ B. Gone source B first scan c.args.end f.store f.scan f.end)
    (λ B. IsNextExtent source was B f.store new f.scan scan' f.end (Ok c.in_ok-next_extent.field-0))
    (λ B. IsNextExtent source is B first new scan scan' c.args.end (Ok None)) f.invariant.layout
    (λ B l t. gone_end source B first scan c.args.end was is f.store f.scan f.end f.invariant.lo f.invariant.hi l new scan'
    (subst (λ (o : Option Ahead). IsNextExtent source was B f.store new f.scan scan' f.end (Ok o)) c.in-None.is t))
    f.invariant.tells c.in_ok-next_extent.ensures.content

pub loop-ahead-preserved : goal.loop-ahead-preserved
loop-ahead-preserved g c =
    let f = c.loop-ahead in
    let source = c.args.source.now in
    let first = c.args.store.now in
    let scan = c.args.scan.now in
    let new = c.next_extent.new.store in
    let scan' = c.next_extent.new.scan in
    let ahead = c.in-Some.ahead in
    let is = unread_by first.layout (g.R.Rack.seen c.args.rack.now) (g.R.Rack.seen c.next_extent.new.rack) in
    let was = unread_by f.store.layout (g.R.Rack.seen f.rack) (g.R.Rack.seen c.next_extent.new.rack) in
    let s = c.in_ok-next_extent.ensures in
    let fits : FitsTodo source.size f.end ahead.end ahead.todo = subst (λ (o : Option Ahead). FitsAhead source.size f.end (Ok o)) c.in-Some.is s.fits in
    let further = subst (FitsTodo source.size f.end ahead.end) c.in-Next.is fits in
    record {
      ready = s.ready;
      reads = reads_more f.invariant.reads s.reads;
      others = same_then {c = without_leaf new scan'} f.invariant.others s.others;
      room = same_room _ _ s.others f.invariant.room;
      layout = same_layout f.store new _ _ s.others ∙ f.invariant.layout;
      lo = s.lo ∙ f.invariant.lo;
      hi = s.hi ∙ f.invariant.hi;
      later = omega (arith, further, f.invariant.later);
      tells = joined (λ B. Gone source B first scan c.args.end f.store f.scan f.end)
          (λ B. IsNextExtent source was B f.store new f.scan scan' f.end (Ok c.in_ok-next_extent.field-0))
          (λ B. Gone source B first scan c.args.end new scan' ahead.end) f.invariant.layout
          (λ B l t. gone_more source B first scan c.args.end was is f.store f.scan f.end f.invariant.lo f.invariant.hi l new scan' ahead c.in-Next.is
          (subst (λ (o : Option Ahead). IsNextExtent source was B f.store new f.scan scan' f.end (Ok o)) c.in-Some.is t))
          f.invariant.tells s.content;
    }

pub returns-in_default : goal.returns-in_default
returns-in_default g c =
    let f = c.loop-ahead in
    let source = c.args.source.now in
    let first = c.args.store.now in
    let scan = c.args.scan.now in
    let new = c.next_extent.new.store in
    let scan' = c.next_extent.new.scan in
    let ahead = c.in-Some.ahead in
    let is = unread_by first.layout (g.R.Rack.seen c.args.rack.now) (g.R.Rack.seen c.next_extent.new.rack) in
    let was = unread_by f.store.layout (g.R.Rack.seen f.rack) (g.R.Rack.seen c.next_extent.new.rack) in
    let s = c.in_ok-next_extent.ensures in
    record {
      ready = s.ready;
      reads = reads_more f.invariant.reads s.reads;
      others = same_then {c = without_leaf new scan'} f.invariant.others s.others;
      lo = s.lo ∙ f.invariant.lo;
      hi = s.hi ∙ f.invariant.hi;
      kept = subst (λ (o : Option Ahead). KeepsItem (Ok o) scan'.leaf) c.in-Some.is s.kept;
      fits = fits_lower source.size f.end c.args.end ahead.end ahead.todo f.invariant.later
          (subst (λ (o : Option Ahead). FitsAhead source.size f.end (Ok o)) c.in-Some.is s.fits);
      found = c.in_default.not-Next;
      cause = tt;
      content = joined (λ B. Gone source B first scan c.args.end f.store f.scan f.end)
          (λ B. IsNextExtent source was B f.store new f.scan scan' f.end (Ok c.in_ok-next_extent.field-0))
          (λ B. IsNextExtent source is B first new scan scan' c.args.end (Ok (Some ahead))) f.invariant.layout
          (λ B l t. gone_some source B first scan c.args.end was is f.store f.scan f.end f.invariant.lo f.invariant.hi l new scan' ahead
          (subst (λ (o : Option Ahead). IsNextExtent source was B f.store new f.scan scan' f.end (Ok o)) c.in-Some.is t))
          f.invariant.tells s.content;
    }

use Rattle.std.proofs.Common.{Ok, Err, Some, None, refl, subst, ◌∙◌, arith}
use Rattle.std.proofs.lemmas.Result.{err_from_is_err_and}
use Rattle.btr_rack.proofs.Reading.{reads_none, reads_more}
use Rattle.btr_walk.specs.Reading.{unread_by}
use Rattle.btr_walk.specs.ScanEnds.{without_leaf}
use Rattle.btr_walk.proofs.Fetched.{since}
use Rattle.btr_walk.proofs.Joined.{joined, unread_on}
use Rattle.btr_walk.proofs.Lending.{same_none, same_then}
use Rattle.btr_walk.proofs.Turns.{same_layout, same_room}
use Rattle.btr_resolve.specs.Cursor.{IsFound, IsTurn, TurnRankFalls}
use Rattle.btr_resolve.specs.declared.owners.Turn.{Turn}
use Rattle.btr_resolve.proofs.Cursors.{Gone, gone_end, gone_fault, gone_more, gone_none, gone_owner}
use Rattle.btr_resolve.proofs.owners.find_owner.Goals as goal

pub loop-owner-init : goal.loop-owner-init
loop-owner-init g c = record {
  ready = c.requires.ready;
  reads = reads_none (g.R.Rack.seen c.args.rack.now);
  others = same_none _;
  room = c.requires.room;
  layout = refl;
  lo = refl;
  hi = refl;
  nearer = omega arith;
  tells = unread_on c.args.store.now.layout
      (λ B. Gone c.args.addr c.args.tree.now B c.args.store.now c.args.scan.now c.args.met.now c.args.store.now c.args.scan.now c.args.met.now)
      (λ B. gone_none c.args.addr c.args.tree.now B c.args.store.now c.args.scan.now c.args.met.now);
}

pub returns-in_err-next_turn-clause-content : goal.returns-in_err-next_turn-clause-content
returns-in_err-next_turn-clause-content g c =
    let f = c.loop-owner in
    let addr = c.args.addr in
    let tree = c.args.tree.now in
    let first = c.args.store.now in
    let scan = c.args.scan.now in
    let met = c.args.met.now in
    let new = c.next_turn.new.store in
    let scan' = c.next_turn.new.scan in
    let met' = c.next_turn.new.met in
    let is = unread_by first.layout (g.R.Rack.seen c.args.rack.now) (g.R.Rack.seen c.next_turn.new.rack) in
    let was = unread_by f.store.layout (g.R.Rack.seen f.rack) (g.R.Rack.seen c.next_turn.new.rack) in
    let p = err_from_is_err_and c.from_residual.result c.from_residual.ensures.1 in
    rw (p.1, p.2)
    (joined (λ B. Gone addr tree B first scan met f.store f.scan f.met)
    (λ B. IsTurn addr tree was B f.store new f.scan scan' f.met met' (Err c.in_err-next_turn.field-0.0))
    (λ B. IsFound addr tree is B first new scan scan' met met' (Err c.in_err-next_turn.field-0.0)) f.invariant.layout
    (λ B l t. gone_fault addr tree B first scan met was is f.store f.scan f.met f.invariant.lo f.invariant.hi l new scan' met'
    c.in_err-next_turn.field-0.0 (since _ _ f.invariant.layout f.invariant.reads) t)
    f.invariant.tells c.in_err-next_turn.ensures.content)

pub returns-in-End-clause-content : goal.returns-in-End-clause-content
returns-in-End-clause-content g c =
    let f = c.loop-owner in
    let addr = c.args.addr in
    let tree = c.args.tree.now in
    let first = c.args.store.now in
    let scan = c.args.scan.now in
    let met = c.args.met.now in
    let new = c.next_turn.new.store in
    let scan' = c.next_turn.new.scan in
    let met' = c.next_turn.new.met in
    let is = unread_by first.layout (g.R.Rack.seen c.args.rack.now) (g.R.Rack.seen c.next_turn.new.rack) in
    let was = unread_by f.store.layout (g.R.Rack.seen f.rack) (g.R.Rack.seen c.next_turn.new.rack) in
    joined (λ B. Gone addr tree B first scan met f.store f.scan f.met)
    (λ B. IsTurn addr tree was B f.store new f.scan scan' f.met met' (Ok c.in_ok-next_turn.field-0))
    (λ B. IsFound addr tree is B first new scan scan' met met' (Ok None)) f.invariant.layout
    (λ B l t. gone_end addr tree B first scan met was is f.store f.scan f.met f.invariant.lo f.invariant.hi l new scan' met'
    (since _ _ f.invariant.layout f.invariant.reads)
    (subst (λ (o : Turn). IsTurn addr tree was B f.store new f.scan scan' f.met met' (Ok o)) c.in-End.is t))
    f.invariant.tells c.in_ok-next_turn.ensures.content

pub loop-owner-preserved : goal.loop-owner-preserved
loop-owner-preserved g c =
    let f = c.loop-owner in
    let addr = c.args.addr in
    let tree = c.args.tree.now in
    let first = c.args.store.now in
    let scan = c.args.scan.now in
    let met = c.args.met.now in
    let new = c.next_turn.new.store in
    let scan' = c.next_turn.new.scan in
    let met' = c.next_turn.new.met in
    let is = unread_by first.layout (g.R.Rack.seen c.args.rack.now) (g.R.Rack.seen c.next_turn.new.rack) in
    let was = unread_by f.store.layout (g.R.Rack.seen f.rack) (g.R.Rack.seen c.next_turn.new.rack) in
    let s = c.in_ok-next_turn.ensures in
    let rank_falls = subst (λ (o : Turn). TurnRankFalls f.scan scan' (Ok o)) c.in-Other.is s.rank_falls in
    record {
      ready = s.ready;
      reads = reads_more f.invariant.reads s.reads;
      others = same_then {c = without_leaf new scan'} f.invariant.others s.others;
      room = same_room _ _ s.others f.invariant.room;
      layout = same_layout f.store new _ _ s.others ∙ f.invariant.layout;
      lo = s.lo ∙ f.invariant.lo;
      hi = s.hi ∙ f.invariant.hi;
      nearer = omega (arith, rank_falls, f.invariant.nearer);
      tells = joined (λ B. Gone addr tree B first scan met f.store f.scan f.met)
          (λ B. IsTurn addr tree was B f.store new f.scan scan' f.met met' (Ok c.in_ok-next_turn.field-0))
          (λ B. Gone addr tree B first scan met new scan' met') f.invariant.layout
          (λ B l t. gone_more addr tree B first scan met was is f.store f.scan f.met f.invariant.lo f.invariant.hi l new scan'
          met' (subst (λ (o : Turn). IsTurn addr tree was B f.store new f.scan scan' f.met met' (Ok o)) c.in-Other.is t))
          f.invariant.tells s.content;
    }

pub returns-in-Owner : goal.returns-in-Owner
returns-in-Owner g c =
    let f = c.loop-owner in
    let addr = c.args.addr in
    let tree = c.args.tree.now in
    let first = c.args.store.now in
    let scan = c.args.scan.now in
    let met = c.args.met.now in
    let new = c.next_turn.new.store in
    let scan' = c.next_turn.new.scan in
    let met' = c.next_turn.new.met in
    let owner = c.in-Owner.owner in
    let is = unread_by first.layout (g.R.Rack.seen c.args.rack.now) (g.R.Rack.seen c.next_turn.new.rack) in
    let was = unread_by f.store.layout (g.R.Rack.seen f.rack) (g.R.Rack.seen c.next_turn.new.rack) in
    let s = c.in_ok-next_turn.ensures in
    let rank_falls = subst (λ (o : Turn). TurnRankFalls f.scan scan' (Ok o)) c.in-Owner.is s.rank_falls in
    record {
      ready = s.ready;
      reads = reads_more f.invariant.reads s.reads;
      others = same_then {c = without_leaf new scan'} f.invariant.others s.others;
      lo = s.lo ∙ f.invariant.lo;
      hi = s.hi ∙ f.invariant.hi;
      rank_falls = omega (arith, rank_falls, f.invariant.nearer);
      cause = tt;
      content = joined (λ B. Gone addr tree B first scan met f.store f.scan f.met)
          (λ B. IsTurn addr tree was B f.store new f.scan scan' f.met met' (Ok c.in_ok-next_turn.field-0))
          (λ B. IsFound addr tree is B first new scan scan' met met' (Ok (Some owner))) f.invariant.layout
          (λ B l t. gone_owner addr tree B first scan met was is f.store f.scan f.met f.invariant.lo f.invariant.hi l new scan'
          met' owner (subst (λ (o : Turn). IsTurn addr tree was B f.store new f.scan scan' f.met met' (Ok o)) c.in-Owner.is t))
          f.invariant.tells s.content;
    }

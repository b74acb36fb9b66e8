use Rattle.std.proofs.Common.{◌≤◌, Some, None, Ok, Err, sym, subst, arith}
use Rattle.std.proofs.lemmas.Result.{err_from_is_err_and}
use Rattle.btr_rack.proofs.Reading.{reads_more}
use Rattle.btr_walk.specs.Reading.{unread_by}
use Rattle.btr_walk.specs.Going.{IsGone}
use Rattle.btr_walk.specs.Ranks.{IsShaped, rank}
use Rattle.btr_walk.specs.Leaving.{IsReached}
use Rattle.btr_walk.proofs.Joined.{joined}
use Rattle.btr_walk.proofs.Fetched.{since, cause_since}
use Rattle.btr_walk.proofs.Lending.{same_then}
use Rattle.btr_walk.proofs.Leads.{Leads, leads_between, leads_leaf, leads_empty, leads_end, leads_err, gone_as, gone_lent, gone_same, gone_near}
use Rattle.btr_walk.proofs.Leads.{gone_near_between, gone_at_end}
use Rattle.btr_walk.proofs.leaving.to_leaf.Goals as goal

pub returns-in_err-go_on-clause-content : goal.returns-in_err-go_on-clause-content
returns-in_err-go_on-clause-content g c =
    let is = unread_by c.args.store.now.layout (g.R.Rack.seen c.args.rack.now) (g.R.Rack.seen c.go_on.new.rack) in
    let was = unread_by c.loop-leaf.store.layout (g.R.Rack.seen c.loop-leaf.rack) (g.R.Rack.seen c.go_on.new.rack) in
    let p = err_from_is_err_and c.from_residual.result c.from_residual.ensures.1 in
    rw (p.1, p.2)
    (joined (λ B. Leads c.args.lo c.args.hi B c.args.place.now c.loop-leaf.place)
    (λ B. IsGone c.args.lo c.args.hi was B c.loop-leaf.place c.go_on.new.place c.go_on.new.store (Err c.in_err-go_on.field-0.0))
    (λ B. IsReached c.args.lo c.args.hi is B c.args.place.now c.go_on.new.place c.go_on.new.store
    (Err c.in_err-go_on.field-0.0)) c.loop-leaf.invariant.same.layout
    (λ B l g. leads_err c.args.lo c.args.hi B is c.args.place.now c.loop-leaf.place c.go_on.new.place c.go_on.new.store c.go_on.new.store
    c.in_err-go_on.field-0.0 l (gone_as c.args.lo c.args.hi B was is c.loop-leaf.place c.go_on.new.place c.go_on.new.store (Err c.in_err-go_on.field-0.0)
    (since _ _ c.loop-leaf.invariant.same.layout c.loop-leaf.invariant.reads) g)) c.loop-leaf.invariant.tells c.in_err-go_on.ensures.content)

pub returns-in-End-clause-content : goal.returns-in-End-clause-content
returns-in-End-clause-content g c =
    let is = unread_by c.args.store.now.layout (g.R.Rack.seen c.args.rack.now) (g.R.Rack.seen c.go_on.new.rack) in
    let was = unread_by c.loop-leaf.store.layout (g.R.Rack.seen c.loop-leaf.rack) (g.R.Rack.seen c.go_on.new.rack) in
    joined (λ B. Leads c.args.lo c.args.hi B c.args.place.now c.loop-leaf.place)
    (λ B. IsGone c.args.lo c.args.hi was B c.loop-leaf.place c.go_on.new.place c.go_on.new.store (Ok c.in_ok-go_on.field-0))
    (λ B. IsReached c.args.lo c.args.hi is B c.args.place.now c.go_on.new.place c.go_on.new.store (Ok None)) c.loop-leaf.invariant.same.layout
    (λ B l g. leads_end c.args.lo c.args.hi B was c.args.place.now c.loop-leaf.place c.go_on.new.place c.go_on.new.store c.go_on.new.store l
    (subst (λ x. IsGone c.args.lo c.args.hi was B c.loop-leaf.place c.go_on.new.place c.go_on.new.store (Ok x)) c.in-End.is g))
    c.loop-leaf.invariant.tells c.in_ok-go_on.ensures.content

pub loop-leaf-preserved-in-Between : goal.loop-leaf-preserved-in-Between
loop-leaf-preserved-in-Between g c =
    let was = unread_by c.loop-leaf.store.layout (g.R.Rack.seen c.loop-leaf.rack) (g.R.Rack.seen c.go_on.new.rack) in
    record {
      reads = reads_more c.loop-leaf.invariant.reads c.in_ok-go_on.ensures.reads;
      serves = c.in_ok-go_on.ensures.serves;
      same = same_then c.loop-leaf.invariant.same (gone_same c.loop-leaf.store c.go_on.new.store c.in_ok-go_on.field-0 c.in-Between.is
          c.in_ok-go_on.ensures.lent);
      shaped = (gone_near_between c.loop-leaf.place c.go_on.new.place c.in_ok-go_on.field-0 c.in-Between.is c.in_ok-go_on.ensures.rank_falls).0;
      near = omega (
        arith,
        c.loop-leaf.invariant.near,
        (gone_near_between c.loop-leaf.place c.go_on.new.place c.in_ok-go_on.field-0
            c.in-Between.is c.in_ok-go_on.ensures.rank_falls).1,
      );
      tells = joined (λ B. Leads c.args.lo c.args.hi B c.args.place.now c.loop-leaf.place)
          (λ B. IsGone c.args.lo c.args.hi was B c.loop-leaf.place c.go_on.new.place c.go_on.new.store (Ok c.in_ok-go_on.field-0))
          (λ B. Leads c.args.lo c.args.hi B c.args.place.now c.go_on.new.place) c.loop-leaf.invariant.same.layout
          (λ B l g. leads_between c.args.lo c.args.hi B was c.args.place.now c.loop-leaf.place c.go_on.new.place c.go_on.new.store l
          (subst (λ x. IsGone c.args.lo c.args.hi was B c.loop-leaf.place c.go_on.new.place c.go_on.new.store (Ok x)) c.in-Between.is
          g)) c.loop-leaf.invariant.tells c.in_ok-go_on.ensures.content;
    }

pub returns-then-leaf-clause-content : goal.returns-then-leaf-clause-content
returns-then-leaf-clause-content g c =
    let is = unread_by c.args.store.now.layout (g.R.Rack.seen c.args.rack.now) (g.R.Rack.seen c.go_on.new.rack) in
    let was = unread_by c.loop-leaf.store.layout (g.R.Rack.seen c.loop-leaf.rack) (g.R.Rack.seen c.go_on.new.rack) in
    joined (λ B. Leads c.args.lo c.args.hi B c.args.place.now c.loop-leaf.place)
    (λ B. IsGone c.args.lo c.args.hi was B c.loop-leaf.place c.go_on.new.place c.go_on.new.store (Ok c.in_ok-go_on.field-0))
    (λ B. IsReached c.args.lo c.args.hi is B c.args.place.now c.go_on.new.place c.go_on.new.store (Ok (Some c.in-Leaf.leaf)))
    c.loop-leaf.invariant.same.layout
    (λ B l g. leads_leaf c.args.lo c.args.hi B was c.args.place.now c.loop-leaf.place c.go_on.new.place c.go_on.new.store c.in-Leaf.leaf l
    (subst (λ x. IsGone c.args.lo c.args.hi was B c.loop-leaf.place c.go_on.new.place c.go_on.new.store (Ok x)) c.in-Leaf.is g))
    c.loop-leaf.invariant.tells c.in_ok-go_on.ensures.content

pub loop-leaf-preserved : goal.loop-leaf-preserved
loop-leaf-preserved g c =
    let was = unread_by c.loop-leaf.store.layout (g.R.Rack.seen c.loop-leaf.rack) (g.R.Rack.seen c.go_on.new.rack) in
    record {
      reads = reads_more c.loop-leaf.invariant.reads c.in_ok-go_on.ensures.reads;
      serves = c.give_leaf.ensures.serves _ c.in_ok-go_on.ensures.serves;
      same = same_then c.loop-leaf.invariant.same (same_then (gone_lent c.loop-leaf.store c.go_on.new.store c.in_ok-go_on.field-0 c.in-Leaf.leaf
          c.in-Leaf.is c.in_ok-go_on.ensures.lent).others c.give_leaf.ensures.back);
      shaped = (gone_near c.loop-leaf.place c.go_on.new.place c.in_ok-go_on.field-0 c.in-Leaf.leaf c.in-Leaf.is c.in_ok-go_on.ensures.rank_falls).0;
      near = omega (
        arith,
        c.loop-leaf.invariant.near,
        (gone_near c.loop-leaf.place c.go_on.new.place c.in_ok-go_on.field-0 c.in-Leaf.leaf
            c.in-Leaf.is c.in_ok-go_on.ensures.rank_falls).1,
      );
      tells = joined (λ B. Leads c.args.lo c.args.hi B c.args.place.now c.loop-leaf.place)
          (λ B. IsGone c.args.lo c.args.hi was B c.loop-leaf.place c.go_on.new.place c.go_on.new.store (Ok c.in_ok-go_on.field-0))
          (λ B. Leads c.args.lo c.args.hi B c.args.place.now c.go_on.new.place) c.loop-leaf.invariant.same.layout
          (λ B l g. leads_empty c.args.lo c.args.hi B was c.args.place.now c.loop-leaf.place c.go_on.new.place c.go_on.new.store c.in-Leaf.leaf
          (omega (arith, c.if-leaf.false)) l (subst (λ x. IsGone c.args.lo c.args.hi was B c.loop-leaf.place c.go_on.new.place c.go_on.new.store
          (Ok x)) c.in-Leaf.is g)) c.loop-leaf.invariant.tells c.in_ok-go_on.ensures.content;
    }

pub returns-in_err-go_on-clause-cause : goal.returns-in_err-go_on-clause-cause
returns-in_err-go_on-clause-cause g c =
    let p = err_from_is_err_and c.from_residual.result c.from_residual.ensures.1 in
    rw (p.1, p.2)
    (cause_since (g.R.Rack.seen c.go_on.new.rack) c.args.store.now.layout c.loop-leaf.store.layout c.in_err-go_on.field-0.0
    c.loop-leaf.invariant.same.layout c.loop-leaf.invariant.reads c.in_err-go_on.ensures.cause)

pub returns-then-leaf-clause-rank_falls : goal.returns-then-leaf-clause-rank_falls
returns-then-leaf-clause-rank_falls g c =
    let n = gone_near c.loop-leaf.place c.go_on.new.place c.in_ok-go_on.field-0 c.in-Leaf.leaf c.in-Leaf.is c.in_ok-go_on.ensures.rank_falls in
    (n.0, omega (arith, c.loop-leaf.invariant.near, n.1))

pub returns-in-End-clause-rank_falls : goal.returns-in-End-clause-rank_falls
returns-in-End-clause-rank_falls g c =
    let same = gone_at_end c.loop-leaf.place c.go_on.new.place c.in_ok-go_on.field-0 c.in-End.is c.in_ok-go_on.ensures.rank_falls in
    subst (λ x. IsShaped x × (rank x ≤ rank c.args.place.now)) (sym same) (c.loop-leaf.invariant.shaped, c.loop-leaf.invariant.near)

pub give_leaf-requires : goal.give_leaf-requires
give_leaf-requires g c = (gone_lent c.loop-leaf.store c.go_on.new.store c.in_ok-go_on.field-0 c.in-Leaf.leaf c.in-Leaf.is
    c.in_ok-go_on.ensures.lent).hand

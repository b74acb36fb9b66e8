use Rattle.std.proofs.Common.{Ok, refl, ◌∙◌, ap, arith}
use Rattle.btr_read.specs.Store.{Lent, block_of}
use Rattle.std.specs.Option.{is_some}
use Rattle.btr_walk.specs.Finding.{Finds}
use Rattle.btr_walk.specs.Reach.{FindsAndReaches, SameUpTo}
use Rattle.btr_walk.specs.Reading.{Map, unread_by}
use Rattle.btr_walk.proofs.Joined.{drawn}
use Rattle.btr_walk.proofs.Shown.{shows_item, lent_only, same_lent, lends_is}
use Rattle.btr_walk.proofs.finding.find_reach.Goals as goal

pub found_at-requires-clause-header : goal.found_at-requires-clause-header
found_at-requires-clause-header g c =
    let same = same_lent c.in-Some.sighted.loan c.in-Some-loan.held c.keep.new.place c.keep.ensures c.in-Some-loan.is in
    let t = lends_is c.args.store.now c.seek_le.new.store c.in_ok-sighted.field-0.sighted c.in-Some.sighted c.in-Some.is c.in_ok-sighted.ensures.lent in
    omega (arith, t.large, ap (λ (l : Lent). l.len) same, c.bytes.ensures.len)

pub returns-in-Some-loan : goal.returns-in-Some-loan
returns-in-Some-loan g c =
    let is = unread_by c.args.store.now.layout (g.R.Rack.seen c.args.rack.now) (g.R.Rack.seen c.seek_le.new.rack) in
    let Came = λ (B : Map). FindsAndReaches is B c.args.root.now c.args.key c.seek_le.new.store (Ok c.in_ok-sighted.field-0) in
    let same = same_lent c.in-Some.sighted.loan c.in-Some-loan.held c.keep.new.place c.keep.ensures c.in-Some-loan.is in
    let t = lends_is c.args.store.now c.seek_le.new.store c.in_ok-sighted.field-0.sighted c.in-Some.sighted c.in-Some.is c.in_ok-sighted.ensures.lent in (
      (
        refl,
        λ x. tt,
        lent_only (g.R.Rack.seen c.seek_le.new.rack) c.args.store.now c.seek_le.new.store c.in-Some.sighted c.keep.new.place
            c.in_ok-sighted.ensures.serves t c.keep.ensures,
      ),
      record {
        after = tt;
        reads = c.in_ok-sighted.ensures.reads;
        lent = ap is_some c.keep.ensures;
        cause = tt;
        reach = drawn c.args.store.now.layout Came (λ B. SameUpTo B c.args.root.now c.args.key c.in_ok-sighted.field-0.until) (λ B h. h.1)
            c.in_ok-sighted.ensures.content;
        content = shows_item is c.args.root.now c.args.key c.seek_le.new.store c.in-Some.sighted c.found_at.result c.bytes.result.now
            (ap (block_of c.seek_le.new.store) same ∙ c.bytes.ensures.value) c.found_at.ensures _ _ _ c.in_ok-sighted.field-0.sighted c.in-Some.is
            (drawn c.args.store.now.layout Came (λ B. Finds is B c.args.root.now c.args.key c.seek_le.new.store (Ok c.in_ok-sighted.field-0.sighted))
            (λ B h. h.0)
            c.in_ok-sighted.ensures.content);
      },
    )

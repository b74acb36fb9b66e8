use Rattle.std.proofs.Common.{sym, ◌∙◌, subst, arith}
use Rattle.btr_scrub.proofs.Common.{AreApart, AreOfKind, AreUpTo, IsFirstRefused, Sifts, kept_wants}
use Rattle.btr_scrub.proofs.Sieving.{in_span, list_of_kind, none_if, outside_span, shares_span, stands_judged, stands_more, stands_refused, upto_between}
use Rattle.btr_scrub.proofs.Unitwise.{apart_from, between_apart}
use Rattle.btr_scrub.proofs.sieve.sift_listed.Goals as goal

pub returns-then-is_some-clause-went : goal.returns-then-is_some-clause-went
returns-then-is_some-clause-went g c whole after h is =
    stands_refused c.args.store.now.layout (g.R.Rack.seen c.args.rack.now).held whole c.args.gathered.now after is c.args.sieve.now
    (sym c.is_some.ensures ∙ c.if-is_some.true) h

pub sift-requires-clause-apart : goal.sift-requires-clause-apart
sift-requires-clause-apart g c =
    let layout = c.args.store.now.layout in
    let wants = kept_wants c.args.gathered.now.list in
    subst (AreApart layout 0) (sym c.read_all-blocks.ensures)
    (apart_from layout 0 c.args.sieve.now.end wants (omega arith) (between_apart layout c.args.sieve.now.end c.in-Ok.end wants
    (upto_between layout c.args.sieve.now.end c.in-Ok.end wants (subst (AreUpTo layout c.args.sieve.now.end c.in-Ok.end) c.read_all.ensures c.in-Ok.ensures))))

pub sift-requires-clause-of_kind : goal.sift-requires-clause-of_kind
sift-requires-clause-of_kind g c =
    subst (AreOfKind c.args.sieve.now.sifted.kept.kind) (sym c.read_all-blocks.ensures)
    (subst (λ k. AreOfKind k (kept_wants c.args.gathered.now.list)) c.requires.kind (list_of_kind c.args.gathered.now.list c.requires.listed))

pub returns-then-not-lies_in-clause-went : goal.returns-then-not-lies_in-clause-went
returns-then-not-lies_in-clause-went g c between =
    outside_span c.args.store.now.layout c.args.span.now c.args.sieve.now.end c.in-Ok.end (kept_wants c.args.gathered.now.list) c.requires.behind
    (subst (AreUpTo c.args.store.now.layout c.args.sieve.now.end c.in-Ok.end) c.read_all.ensures c.in-Ok.ensures) between
    (sym c.lies_in.ensures ∙ c.if-not-lies_in.true)

pub returns-in_ok-sift-in-Ok-clause-went : goal.returns-in_ok-sift-in-Ok-clause-went
returns-in_ok-sift-in-Ok-clause-went g c whole after h is =
    let layout = c.args.store.now.layout in
    let held = (g.R.Rack.seen c.args.rack.now).held in
    let sieve = c.args.sieve.now in
    let wants = kept_wants c.args.gathered.now.list in
    let upto = subst (AreUpTo layout sieve.end c.in-Ok.end) c.read_all.ensures c.in-Ok.ensures in
    let none = none_if sieve.refused (sym c.is_some.ensures ∙ c.if-is_some.false) in
    stands_more layout held whole c.args.gathered.now after is sieve none h c.requires.ready.table
    (shares_span layout held whole sieve none h c.args.span.now c.in-Ok.end wants c.requires.ready.table c.requires.chunk c.requires.behind upto
    (sym c.lies_in.ensures ∙ c.if-not-lies_in.false)) c.sift.new.sifted c.in-Ok.end upto
    (subst (λ ws. Sifts layout held ws sieve.sifted c.sift.new.sifted) c.read_all-blocks.ensures c.in_ok-sift-in-Ok.ensures.sifts)

pub returns-in_ok-sift-in-Ok-clause-end : goal.returns-in_ok-sift-in-Ok-clause-end
returns-in_ok-sift-in-Ok-clause-end g c =
    let layout = c.args.store.now.layout in
    in_span layout c.args.span.now c.args.sieve.now.end c.in-Ok.end (kept_wants c.args.gathered.now.list) c.requires.behind
    (subst (AreUpTo layout c.args.sieve.now.end c.in-Ok.end) c.read_all.ensures c.in-Ok.ensures) (sym c.lies_in.ensures ∙ c.if-not-lies_in.false)

pub returns-in-Err-clause-went : goal.returns-in-Err-clause-went
returns-in-Err-clause-went g c whole after h is =
    let layout = c.args.store.now.layout in
    stands_judged layout (g.R.Rack.seen c.args.rack.now).held whole c.args.gathered.now after is c.args.sieve.now
    (none_if c.args.sieve.now.refused (sym c.is_some.ensures ∙ c.if-is_some.false)) h c.in-Err.fault
    (subst (λ ws. IsFirstRefused layout c.args.sieve.now.end ws c.in-Err.fault) c.read_all.ensures c.in-Err.ensures)

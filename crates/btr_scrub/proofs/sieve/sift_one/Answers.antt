use Rattle.std.proofs.Common.{◌≡◌, ◌+◌, ◌∷◌, [], true, false, IfSome, refl, sym, ap, ◌∙◌, subst, arith}
use Rattle.btr_scrub.proofs.Common.{is_copy_needed, sought, stood}
use Rattle.btr_scrub.proofs.Doubting.{the_sought}
use Rattle.btr_scrub.proofs.Sieving.{one_needed, one_out, sifts_kept}
use Rattle.btr_scrub.proofs.Tallying.{stood_add}
use Rattle.btr_scrub.proofs.sieve.sift_one.Goals as goal

pub returns-in-Ok-clause-sifts : goal.returns-in-Ok-clause-sifts
returns-in-Ok-clause-sifts g c =
    let layout = c.args.store.now.layout in
    let held = (g.R.Rack.seen c.args.rack.now).held in
    let want = c.args.want.now in
    let t = the_sought (sought layout want) c.requires.sought in
    sifts_kept layout held (want ∷ []) c.args.sifted.now (record c.args.sifted.now { kept = c.push.new.self }) c.requires.can
    (one_needed layout held want t.0 true t.1 (c.requires.copies t.0 t.1)
    (subst (λ b. IfSome held (λ images. b ≡ is_copy_needed images layout t.0)) c.if-branch.true (c.in_ok-is_needed.ensures.needed t.0 t.1)))
    c.in-Ok.ensures refl refl c.requires.can.rooms

pub returns-then-not-is_plain-clause-sifts : goal.returns-then-not-is_plain-clause-sifts
returns-then-not-is_plain-clause-sifts g c =
    let layout = c.args.store.now.layout in
    let held = (g.R.Rack.seen c.args.rack.now).held in
    let want = c.args.want.now in
    let t = the_sought (sought layout want) c.requires.sought in
    let can = c.requires.can in
    one_out layout held want t.0 false c.args.sifted.now (record c.args.sifted.now { sound = c.saturating_add-sifted.result }) t.1
    (c.requires.copies t.0 t.1) (sym c.is_plain.ensures ∙ c.if-not-is_plain.true)
    (subst (λ b. IfSome held (λ images. b ≡ is_copy_needed images layout t.0)) c.if-branch.false (c.in_ok-is_needed.ensures.needed t.0 t.1))
    (record { is_list = can.is_list; nodesize = can.nodesize; large = can.large; rooms = can.rooms }) refl
    (λ n e. c.saturating_add-sifted.ensures ∙ ap (λ k. stood (k + 1)) e ∙ stood_add n 1)

pub returns-else-not-is_plain-clause-sifts : goal.returns-else-not-is_plain-clause-sifts
returns-else-not-is_plain-clause-sifts g c =
    let layout = c.args.store.now.layout in
    let held = (g.R.Rack.seen c.args.rack.now).held in
    let want = c.args.want.now in
    let t = the_sought (sought layout want) c.requires.sought in
    one_out layout held want t.0 true c.args.sifted.now c.args.sifted.now t.1 (c.requires.copies t.0 t.1)
    (sym c.is_plain.ensures ∙ c.if-not-is_plain.false)
    (subst (λ b. IfSome held (λ images. b ≡ is_copy_needed images layout t.0)) c.if-branch.false (c.in_ok-is_needed.ensures.needed t.0 t.1))
    c.requires.can refl (λ n e. e ∙ ap stood (omega arith))

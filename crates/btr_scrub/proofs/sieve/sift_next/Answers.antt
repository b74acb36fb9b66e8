use Rattle.std.proofs.Common.{◌+◌, refl, sym, ap, ◌∙◌, subst, arith, is_none, is_some, not}
use Rattle.btr_scrub.proofs.Common.{Layout, addr_of, chunk_at, len_of, mirrors, sought}
use Rattle.btr_scrub.specs.Sifting.{PassesInert}
use Rattle.btr_scrub.proofs.Doubting.{the_sought}
use Rattle.btr_scrub.proofs.Lists.{some_if}
use Rattle.btr_scrub.proofs.OneRow.{chunk_of}
use Rattle.btr_scrub.proofs.PlainRows.{rows_kept}
use Rattle.btr_scrub.proofs.Sieving.{inert_next, none_if}
use Rattle.btr_scrub.proofs.sieve.sift_next.Goals as goal

pub sift_row-requires-clause-parity : goal.sift_row-requires-clause-parity
sift_row-requires-clause-parity g c t e =
    none_if (mirrors t.chunk) (ap is_some (sym (c.copies_of.ensures t e)) ∙ c.is_none.ensures ∙ ap not c.if-is_none.true)

pub sift_one-requires-clause-copies : goal.sift_one-requires-clause-copies
sift_one-requires-clause-copies g c t e =
    some_if (mirrors t.chunk) (ap is_none (sym (c.copies_of.ensures t e)) ∙ ap not c.is_none.ensures ∙ ap (λ b. not (not b)) c.if-is_none.false)

pub returns-clause-sifts : goal.returns-clause-sifts
returns-clause-sifts g c =
    let layout = c.args.store.now.layout in
    let held = (g.R.Rack.seen c.args.rack.now).held in
    let want = c.args.want in
    let t = the_sought (sought layout want) c.requires.apart.1 in
    let p = subst (λ (l : Layout). PassesInert l want c.args.blocks.now c.pass_inert.new.blocks) c.in_ok-sift_one.ensures.loans.layout c.pass_inert.ensures in
    inert_next layout held want (addr_of want + len_of layout.setting want) c.args.blocks.now c.pass_inert.new.blocks p c.requires.apart.2 (omega arith)
    c.sift_one.new.sifted c.in_ok-sift_one.ensures.sifts.can c.requires.ready.table c.args.sifted.now t.0 t.1
    (some_if (mirrors t.0.chunk) (ap is_none (sym (c.copies_of.ensures t.0 t.1)) ∙ ap not c.is_none.ensures ∙ ap (λ b. not (not b)) c.if-is_none.false))
    c.in_ok-sift_one.ensures.sifts

pub returns-in-Ok-clause-sifts : goal.returns-in-Ok-clause-sifts
returns-in-Ok-clause-sifts g c =
    let layout = c.args.store.now.layout in
    let held = (g.R.Rack.seen c.args.rack.now).held in
    let want = c.args.want in
    let t = the_sought (sought layout want) c.requires.apart.1 in
    let at = chunk_of layout want t.0 t.1 in
    let none = none_if (mirrors t.0.chunk) (ap is_some (sym (c.copies_of.ensures t.0 t.1)) ∙ c.is_none.ensures ∙ ap not c.if-is_none.true) in
    rows_kept layout c.requires.ready.table held want c.args.blocks.now c.sift_row.new.blocks c.keep_plain.new.blocks t.0.chunk
    c.args.sifted.now c.sift_row.new.sifted (record c.sift_row.new.sifted { kept = c.keep_plain.new.kept }) at none c.requires.apart
    c.in_ok-sift_row.ensures.sifts refl
    (c.in-Ok.ensures t.0.chunk (ap (λ (l : Layout). chunk_at l.chunks c.addr-addr.result) c.in_ok-sift_row.ensures.loans.layout
    ∙ ap (chunk_at layout.chunks) c.addr-addr.ensures ∙ at))

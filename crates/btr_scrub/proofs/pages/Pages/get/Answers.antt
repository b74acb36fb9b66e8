use Rattle.std.proofs.Common.{◌∙◌, ◌<◌, length, subst, ◌/◌, ◌%◌, ◌-◌, ◌*◌, sym, ap, arith, slice_get}
use Rattle.std.proofs.lemmas.Option.{slice_get_read}
use Rattle.btr_scrub.proofs.Paging.{page_read, behind_read}
use Rattle.btr_scrub.proofs.pages.Pages.get.Goals as goal

pub returns-then-page-len-clause-item : goal.returns-then-page-len-clause-item
returns-then-page-len-clause-item g c =
    c.item_at.ensures
    ∙ ap (λ xs. slice_get xs (c.args.i % 4096)) c.deref.ensures.value
    ∙ sym (page_read c.self.inside.full.items c.self.inside.last.items c.index.result.now c.args.i c.self.invariant.0
    (slice_get_read c.self.inside.full.items c.len.result (c.args.i / 4096) c.index.result.now (c.len.ensures ∙ c.self.inside.full.ok.0)
    c.if-page-len.true c.index.ensures))
    ∙ ap (λ xs. slice_get xs c.args.i) c.self.view_is

pub returns-else-page-len-clause-item : goal.returns-else-page-len-clause-item
returns-else-page-len-clause-item g c =
    c.item_at-else-page-len.ensures
    ∙ ap (λ xs. slice_get xs (c.args.i - c.len-else-page-len.result * 4096)) c.deref-else-page-len.ensures.value
    ∙ sym (behind_read c.self.inside.full.items c.self.inside.last.items c.len-else-page-len.result c.args.i c.self.invariant.0
    (c.len-else-page-len.ensures ∙ c.self.inside.full.ok.0) (omega (arith, c.if-page-len.false, c.len.ensures, c.len-else-page-len.ensures)))
    ∙ ap (λ xs. slice_get xs c.args.i) c.self.view_is

pub returns-then-page-len-clause-few : goal.returns-then-page-len-clause-few
returns-then-page-len-clause-few g c = subst (λ xs. length xs < 9223372036854775808) c.self.view_is (omega (arith, c.self.invariant.1, c.self.invariant.2))

pub returns-else-page-len-clause-few : goal.returns-else-page-len-clause-few
returns-else-page-len-clause-few g c = subst (λ xs. length xs < 9223372036854775808) c.self.view_is (omega (arith, c.self.invariant.1, c.self.invariant.2))

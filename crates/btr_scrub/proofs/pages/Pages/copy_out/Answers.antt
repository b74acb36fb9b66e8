use Rattle.std.proofs.Common.{◌∙◌, sym, arith}
use Rattle.std.proofs.lemmas.List.{length-set}
use Rattle.btr_scrub.proofs.Paging.{copied_more}
use Rattle.btr_scrub.proofs.pages.Pages.copy_out.Goals as goal

pub loop-i-preserved : goal.loop-i-preserved
loop-i-preserved g c = (
  length-set c.loop-i.out c.loop-i.i c.in-Some.item
      ∙ c.loop-i.invariant.0,
  copied_more c.loop-i.out c.args.self.now c.args.at c.loop-i.i c.in-Some.item
      (omega (arith, c.loop-i-test.true, c.min-i-end.ensures, c.loop-i.invariant.0)) c.loop-i.invariant.1 (sym c.get.ensures.item ∙ c.in-Some.is),
)

use Rattle.std.proofs.Common.{◌+◌, map, subst, sym}
use Rattle.std.proofs.lemmas.List.{get_or_default}
use Rattle.std.specs.String.{string_bytes}
use Rattle.btr_run.specs.Words.{IsShort}
use Rattle.btr_run.specs.declared.sentence.Sentence.TheVariants.{Super}
use Rattle.btr_run.proofs.Forms.{forms}
use Rattle.btr_run.proofs.Usage.{AreTried, all_tried, none_tried, one_tried}
use Rattle.btr_run.proofs.plan.Plan.parse.Goals as goal

pub loop-sentence-init : goal.loop-sentence-init
loop-sentence-init c = none_tried (map string_bytes c.args.words.now)

pub loop-sentence-preserved : goal.loop-sentence-preserved
loop-sentence-preserved c =
    subst (λ n. AreTried (map string_bytes c.args.words.now) n (c.loop-sentence.sentence-index + 1)) (sym c.max-longest.ensures)
    (one_tried (map string_bytes c.args.words.now) c.loop-sentence.longest c.loop-sentence.sentence-index c.in-Err.at c.loop-sentence.invariant
    (subst (λ s. IsShort s (map string_bytes c.args.words.now) c.in-Err.at)
    (get_or_default forms c.loop-sentence.sentence-index _ Super c.loop-sentence-test.true) c.in-Err.ensures.short))

pub returns-clause-usage : goal.returns-clause-usage
returns-clause-usage c = all_tried (map string_bytes c.args.words.now) c.loop-sentence.longest c.loop-sentence.sentence-index c.loop-sentence-test.false
    c.loop-sentence.invariant

use Rattle.std.proofs.Common.{get_or, sym, subst}
use Rattle.btr_read.specs.declared.want.Want.TheVariants.{Tree}
use Rattle.btr_scrub.specs.Listed.{IsOfKind}
use Rattle.btr_scrub.proofs.Sieving.{of_kind_at}
use Rattle.btr_scrub.proofs.rows.keep_all.Goals as goal

pub push-requires-clause-of_kind : goal.push-requires-clause-of_kind
push-requires-clause-of_kind c =
    subst (λ k. IsOfKind k (get_or c.args.wants.now c.loop-want.want-index (Tree 0 0 0))) (sym c.loop-want.invariant.kind)
    (of_kind_at c.args.kept.now.kind c.args.wants.now c.loop-want.want-index (Tree 0 0 0) c.requires.of_kind c.loop-want-test.true)

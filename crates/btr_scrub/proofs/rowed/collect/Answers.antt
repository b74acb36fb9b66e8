use Rattle.std.proofs.Common.{◌++◌, sym, ap, ◌∙◌, subst}
use Rattle.btr_scrub.specs.Rowing.{BeginsElse}
use Rattle.btr_scrub.proofs.InRows.{collects_first, collects_more}
use Rattle.btr_scrub.proofs.rowed.collect.Goals as goal

pub loop-want-init : goal.loop-want-init
loop-want-init c = collects_first c.args.chunk.now c.args.row c.args.first c.args.blocks.now c.push.new.wants.items c.clear.new.self.items
    c.clear.ensures.items c.in_ok-push.ensures

pub loop-want-preserved : goal.loop-want-preserved
loop-want-preserved c =
    collects_more c.args.chunk.now c.args.row c.args.first c.in-Some.want c.args.blocks.now c.loop-want.blocks c.next_in_row.new.blocks
    c.loop-want.wants.items c.push-in-Some.new.wants.items c.loop-want.invariant c.in-Some.ensures.0 c.in-Some.ensures.1 c.in_ok-push-2.ensures

pub returns : goal.returns
returns c =
    let inv = c.loop-want.invariant in
    record {
      more = inv.more;
      are = inv.are;
      split = inv.split ∙ ap (λ ws. inv.more ++ ws) (sym c.in_default.ensures.0);
      inside = inv.inside;
      next = subst (BeginsElse c.args.chunk.now c.args.row) (sym c.in_default.ensures.0) c.in_default.ensures.1;
    }

use Rattle.std.proofs.Common.{◌∙◌, sym, ap, arith}
use Rattle.btr_scrub.proofs.Common.{slice_get_within, sum_size}
use Rattle.btr_scrub.proofs.Reading.{IsInRun, addr_fits, at_end, at_last, at_next, at_plain_last, at_plain_next, at_tree, gives_end, one_more, one_plain}
use Rattle.btr_scrub.proofs.Reading.{plain_fits, some_mark, some_sum}
use Rattle.btr_scrub.proofs.reader.Reader.next.Goals.{In_ok-run}
use Rattle.btr_scrub.proofs.reader.Reader.next.Goals as goal

-- the reader stands in the run that it read
in_run : (c : In_ok-run) → IsInRun c.self.inside.listed.now c.self.inside.run c.self.inside.past c.self.inside.sum c.self.inside.mark c.in_ok-run.run'
in_run c = record { stands = c.self.invariant; there = sym c.run_at.ensures.run ∙ c.in_ok-run.was }

pub returns-in_err-run : goal.returns-in_err-run
returns-in_err-run c = gives_end c.args.self.now c.from_residual.result
    (sym c.self.view_is ∙ at_end c.self.inside.listed.now c.self.inside.run c.self.inside.past c.self.inside.sum c.self.inside.mark
    (sym c.run_at.ensures.run ∙ c.in_err-run.was)) c.from_residual.ensures

pub returns-in_err-mark-in-TreeBlock : goal.returns-in_err-mark-in-TreeBlock
returns-in_err-mark-in-TreeBlock c = absurd (some_mark (in_run (goal.at.returns-in_err-mark-in-TreeBlock c).In_ok-run) c.in-TreeBlock.is
    (sym c.mark_at.ensures.mark ∙ c.in_err-mark-in-TreeBlock.was))

pub overflow_add-self : goal.overflow_add-self
overflow_add-self c = omega (
  arith,
  c.run_at.ensures.few,
  slice_get_within c.self.inside.listed.now.runs c.self.inside.run c.in_ok-run.run' (sym c.run_at.ensures.run ∙ c.in_ok-run.was),
)

pub overflow_add-self-in-TreeBlock : goal.overflow_add-self-in-TreeBlock
overflow_add-self-in-TreeBlock c = omega (
  arith,
  c.mark_at.ensures.few,
  slice_get_within c.self.inside.listed.now.marks c.self.inside.mark
      c.in_ok-mark-in-TreeBlock.mark (sym c.mark_at.ensures.mark ∙ c.in_ok-mark-in-TreeBlock.was),
)

pub invariant_of-self : goal.invariant_of-self
invariant_of-self c = (at_tree (in_run (goal.at.invariant_of-self c).In_ok-run) c.in_ok-mark-in-TreeBlock.mark c.in-TreeBlock.is
    (sym c.mark_at.ensures.mark ∙ c.in_ok-mark-in-TreeBlock.was)).1

pub sum_at-sum-requires : goal.sum_at-sum-requires
sum_at-sum-requires c = some_sum (in_run (goal.at.sum_at-sum-requires c).In_ok-run) c.in-Sectors.is

pub overflow_add-addr : goal.overflow_add-addr
overflow_add-addr c = omega (arith, c.from.ensures, addr_fits (in_run (goal.at.overflow_add-addr c).In_ok-run) c.in-Sectors.is)

pub returns-in_ok-mark-in-TreeBlock : goal.returns-in_ok-mark-in-TreeBlock
returns-in_ok-mark-in-TreeBlock c =
    sym c.self.view_is ∙ (at_tree (in_run (goal.at.returns-in_ok-mark-in-TreeBlock c).In_ok-run) c.in_ok-mark-in-TreeBlock.mark c.in-TreeBlock.is
    (sym c.mark_at.ensures.mark ∙ c.in_ok-mark-in-TreeBlock.was)).0

pub behind-requires : goal.behind-requires
behind-requires c = omega (arith, one_more (in_run (goal.at.behind-requires c).In_ok-run) c.in-Sectors.is)

pub invariant_of-self-in-None : goal.invariant_of-self-in-None
invariant_of-self-in-None c = (at_last (in_run (goal.at.invariant_of-self-in-None c).In_ok-run) c.in-Sectors.is c.in-None.ensures c.size.result
    (c.size.ensures ∙ ap sum_size c.kind.ensures)).1

pub invariant_of-self-in-Some : goal.invariant_of-self-in-Some
invariant_of-self-in-Some c = rw c.in-Some.ensures.0 (at_next (in_run (goal.at.invariant_of-self-in-Some c).In_ok-run) c.in-Sectors.is
    c.in-Some.ensures.1 c.size.result (c.size.ensures ∙ ap sum_size c.kind.ensures)).1

pub returns-in-None : goal.returns-in-None
returns-in-None c = rw (c.from.ensures, c.sum_at-sum.ensures.sum) (sym c.self.view_is
    ∙ (at_last (in_run (goal.at.returns-in-None c).In_ok-run) c.in-Sectors.is c.in-None.ensures c.size.result (c.size.ensures ∙ ap sum_size c.kind.ensures)).0)

pub returns-in-Some : goal.returns-in-Some
returns-in-Some c = rw (c.in-Some.ensures.0, c.from.ensures, c.sum_at-sum.ensures.sum) (sym c.self.view_is
    ∙ (at_next (in_run (goal.at.returns-in-Some c).In_ok-run) c.in-Sectors.is c.in-Some.ensures.1 c.size.result
    (c.size.ensures ∙ ap sum_size c.kind.ensures)).0)

-- ---- sectors without a checksum

pub overflow_add-addr-in-Unsummed : goal.overflow_add-addr-in-Unsummed
overflow_add-addr-in-Unsummed c = omega (
  arith,
  c.from-in-Unsummed.ensures,
  plain_fits (in_run (goal.at.overflow_add-addr-in-Unsummed c).In_ok-run) c.in-Unsummed.is,
)

pub behind-requires-in-Unsummed : goal.behind-requires-in-Unsummed
behind-requires-in-Unsummed c = omega (arith, one_plain (in_run (goal.at.behind-requires-in-Unsummed c).In_ok-run) c.in-Unsummed.is)

pub overflow_add-self-in-None-behind : goal.overflow_add-self-in-None-behind
overflow_add-self-in-None-behind c = omega (
  arith,
  c.run_at.ensures.few,
  slice_get_within c.self.inside.listed.now.runs c.self.inside.run c.in_ok-run.run' (sym c.run_at.ensures.run ∙ c.in_ok-run.was),
)

pub invariant_of-self-in-None-behind : goal.invariant_of-self-in-None-behind
invariant_of-self-in-None-behind c =
    (at_plain_last (in_run (goal.at.invariant_of-self-in-None-behind c).In_ok-run) c.in-Unsummed.is 1 c.in-None-behind.ensures).1

pub invariant_of-self-in-Some-behind : goal.invariant_of-self-in-Some-behind
invariant_of-self-in-Some-behind c =
    let one = one_plain (in_run (goal.at.invariant_of-self-in-Some-behind c).In_ok-run) c.in-Unsummed.is in
    rw c.in-Some-behind.ensures.0
    (at_plain_next (in_run (goal.at.invariant_of-self-in-Some-behind c).In_ok-run) c.in-Unsummed.is 1 (omega (arith, one, c.in-Some-behind.ensures.1))).1

pub returns-in-None-behind : goal.returns-in-None-behind
returns-in-None-behind c = rw c.from-in-Unsummed.ensures
    (sym c.self.view_is ∙ (at_plain_last (in_run (goal.at.returns-in-None-behind c).In_ok-run) c.in-Unsummed.is 1 c.in-None-behind.ensures).0)

pub returns-in-Some-behind : goal.returns-in-Some-behind
returns-in-Some-behind c =
    let one = one_plain (in_run (goal.at.returns-in-Some-behind c).In_ok-run) c.in-Unsummed.is in
    rw (c.in-Some-behind.ensures.0, c.from-in-Unsummed.ensures) (sym c.self.view_is
    ∙ (at_plain_next (in_run (goal.at.returns-in-Some-behind c).In_ok-run) c.in-Unsummed.is 1 (omega (arith, one, c.in-Some-behind.ensures.1))).0)

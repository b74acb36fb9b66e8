use Rattle.std.proofs.Common.{◌||◌, ◌∙◌, ap, List, arith}
use Rattle.std.proofs.lemmas.List.{take_all}
use Rattle.std.specs.List.{list_any}
use Rattle.btr_findings.proofs.Rules.{rule_next}
use Rattle.btr_findings.specs.Findings.{has, is_row}
use Rattle.btr_refs.specs.declared.counted.Counted.{Counted}
use Rattle.btr_refs.specs.Differences.{ref_count}
use Rattle.btr_refs.specs.Listed.{entries_of, tallied}
use Rattle.btr_refs.proofs.Rows.{listed_row}
use Rattle.btr_refs.proofs.Listing.{none}
use Rattle.btr_refs.proofs.comparing.put_listed.Goals as goal

pub loop-i-preserved : goal.loop-i-preserved
loop-i-preserved c = λ others are.
    let refs = c.args.refs.now in
    rule_next (λ (one : Counted). ref_count (tallied refs c.args.times.now others) (entries_of refs) one.key) c.loop-i.found c.put_ref_count.new.found
    c.args.found.now
    refs c.loop-i.i none _ c.loop-i-test.true (listed_row refs c.args.times.now others are c.loop-i.i none c.loop-i-test.true) c.in_ok-put_ref_count.ensures
    (c.loop-i.invariant others are)

pub returns : goal.returns
returns c = λ others are one.
    let refs = c.args.refs.now in
    c.loop-i.invariant others are one
    ∙ ap (λ (l : List Counted). list_any (is_row (λ (ref : Counted). ref_count (tallied refs c.args.times.now others) (entries_of refs) ref.key) one) l
    || has c.args.found.now one)
    (take_all c.loop-i.i refs (omega (arith, c.loop-i-test.false)))

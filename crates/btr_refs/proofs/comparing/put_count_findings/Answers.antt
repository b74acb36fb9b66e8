use Rattle.std.proofs.Common.{ℕ, List, OnOk, subst}
use Rattle.btr_findings.proofs.Adding.{on_ok}
use Rattle.btr_findings.specs.Findings.{Adds, PutsRows, has}
use Rattle.btr_refs.proofs.Rows.{count_rows}
use Rattle.btr_refs.specs.Counts.{RefCounts}
use Rattle.btr_refs.specs.declared.counted.Counted.{Counted}
use Rattle.btr_refs.specs.Differences.{count_findings, count_row, ref_count}
use Rattle.btr_refs.specs.Forward.{Tally}
use Rattle.btr_refs.specs.Listed.{AreTallied, entries_of, tallied}
use Rattle.btr_refs.specs.declared.ref_key.RefKey.{RefKey}
use Rattle.btr_refs.proofs.comparing.put_count_findings.Goals as goal

pub returns : goal.returns
returns c =
    let refs = c.forward.inside.stored.items in
    let times = c.forward.inside.times.items in
    let others = c.forward.inside.others.entries in
    let a = c.args.found.now in
    let b = c.put_listed.new.found in
    let d = c.put_others.new.found in
    let puts : List Counted → List ℕ → Type 0 = λ list beside. (more : RefCounts) → AreTallied list beside more
    → PutsRows (λ (one : Counted). ref_count (tallied list beside more) (entries_of list) one.key) list a b in
    let listed : puts refs times =
    subst (puts refs) c.deref-2.ensures.value (subst (λ list. puts list c.deref-2.result.now) c.deref.ensures.value c.in_ok-put_listed.ensures) in
    subst (λ (f : Tally). OnOk c.put_others.result (Adds (count_findings f.uses.refs f.stored.refs) a d)) c.forward.view_is
    (on_ok c.put_others.result (PutsRows (λ (entry : RefKey × ℕ). count_row entry.0 entry.1 0) others b d)
    (Adds (count_findings (tallied refs times others) (entries_of refs)) a d)
    (λ second one. count_rows refs times others c.forward.invariant one (has a one) (has b one) (has d one) (listed others c.forward.invariant one)
    (second one))
    c.put_others.ensures)

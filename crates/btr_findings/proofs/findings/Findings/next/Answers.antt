use Rattle.std.proofs.Common.{◌≡◌, ◌+◌, ◌++◌, List, Option, drop, slice_get, sym, ap, subst, ◌∙◌}
use Rattle.btr_findings.specs.declared.finding.Finding.{Finding}
use Rattle.btr_findings.specs.declared.sector_run.SectorRun.{SectorRun}
use Rattle.btr_findings.specs.Findings.{TakesFirst, in_order}
use Rattle.btr_findings.specs.Runs.{AreListed, IsSettled, runs_left, sector_at, step_of}
use Rattle.btr_findings.proofs.Taking.{IsStep, next_listed, next_takes}
use Rattle.btr_findings.proofs.findings.Findings.next.Goals as goal

settled_is : (c : goal.After-self-2-1) → IsSettled c.self.inside.runs.items c.self.inside.place c.settled-self-inside.result
settled_is c = subst (λ (l : List SectorRun). IsSettled l c.self.inside.place c.settled-self-inside.result) c.as_slice.ensures.value
    c.settled-self-inside.ensures

-- the same findings are left where the run at hand has one more
listed_then : (c : goal.After-self-2-1) → AreListed (drop c.self.inside.at c.self.inside.single.items)
    (runs_left (drop c.settled-self-inside.result.run c.self.inside.runs.items) c.settled-self-inside.result.done) c.self.inside.runs.items
listed_then c = subst (λ (l : List Finding). AreListed (drop c.self.inside.at c.self.inside.single.items) l c.self.inside.runs.items)
    (sym (settled_is c).same) c.self.invariant

stepped : (c : goal.After-self-2-1) → IsStep c.self.inside.single.items c.self.inside.runs.items c.self.inside.at c.settled-self-inside.result
    c.step_of-step.result c.from.result c.from-2.result
stepped c =
    let single : c.single_at-single.result ≡ slice_get c.self.inside.single.items c.self.inside.at =
    c.single_at-single.ensures ∙ ap (λ (l : List Finding). slice_get l c.self.inside.at) c.as_slice-2.ensures.value in
    let line : c.line_at-line.result ≡ sector_at c.self.inside.runs.items c.settled-self-inside.result =
    c.line_at-line.ensures ∙ ap (λ (l : List SectorRun). sector_at l c.settled-self-inside.result) c.as_slice-3.ensures.value in
    c.step_of-step.ensures ∙ ap (λ (o : Option Finding). step_of o c.line_at-line.result) single
    ∙ ap (step_of (slice_get c.self.inside.single.items c.self.inside.at)) line

pub invariant_of-self : goal.invariant_of-self
invariant_of-self c = next_listed c.self.inside.single.items c.self.inside.runs.items c.self.inside.at c.settled-self-inside.result
    c.step_of-step.result c.from.result c.from-2.result
    (settled_is c).left c.from.ensures c.from-2.ensures (listed_then c)

pub returns : goal.returns
returns c =
    let single = c.self.inside.single.items in
    let runs = c.self.inside.runs.items in
    let at = c.self.inside.at in
    let place = c.settled-self-inside.result in
    let rest = in_order (drop (at + c.from.result) single ++ runs_left (drop place.run runs) (place.done + c.from-2.result)) in
    let same : in_order (drop at single ++ runs_left (drop place.run runs) place.done) ≡ c.args.self.now =
    ap (λ (l : List Finding). in_order (drop at single ++ l)) (settled_is c).same ∙ c.self.view_is in
    subst (λ (l : List Finding). TakesFirst l rest c.step_of-step.result.finding) same
    (next_takes single runs at place c.step_of-step.result c.from.result c.from-2.result (settled_is c).left (stepped c) c.from.ensures
    c.from-2.ensures (listed_then c))

use Rattle.std.proofs.Common.{◌≡◌, ◌+◌, ◌≤◌, ◌++◌, drop, length, take, sym, ap, flat_map, ◌∙◌, arith}
use Rattle.std.proofs.lemmas.List.{take_all}
use Rattle.btr_findings.specs.declared.finding.Finding.{Finding}
use Rattle.btr_text.proofs.Writing.{wrote_then, wrote_as, cut_then, cut_longer, cut_as, cut_writes}
use Rattle.btr_check.specs.Text.{line_of}
use Rattle.btr_check.proofs.Texts.{first_left, none_left, shown_more, shown_around}
use Rattle.btr_check.proofs.text.push_findings.Goals as goal

pub loop-finding-preserved : goal.loop-finding-preserved
loop-finding-preserved g c =
    let all = c.args.findings in
    let i = c.loop-finding.count in
    let was = c.loop-finding.invariant in
    let finding = c.in-Some.finding in
    let here = first_left all i finding c.next.new.self (sym was.left ∙ c.in-Some.ensures) in
    let text : flat_map line_of (take (i + 1) all) ≡ flat_map line_of (take i all) ++ line_of finding = shown_more line_of all i finding here.0
    ∙ ap (λ (one : Finding). flat_map line_of (take i all) ++ line_of one) here.1 in
    record {
      few = was.few;
      within = omega (arith, here.0);
      left = sym here.2;
      text = wrote_as (flat_map line_of (take (i + 1) all)) (sym text) (wrote_then was.text c.in_ok-push_finding.ensures.text);
      account = c.in_ok-push_finding.ensures.account ∙ was.account;
    }

pub returns-in_err-push_finding-clause-text : goal.returns-in_err-push_finding-clause-text
returns-in_err-push_finding-clause-text g c =
    let all = c.args.findings in
    let i = c.loop-finding.count in
    let was = c.loop-finding.invariant in
    let finding = c.in-Some.finding in
    let here = first_left all i finding c.next.new.self (sym was.left ∙ c.in-Some.ensures) in
    let text : flat_map line_of all ≡ (flat_map line_of (take i all) ++ line_of finding) ++ flat_map line_of (drop (i + 1) all) =
    shown_around line_of all i finding here.0 ∙ ap (λ (one : Finding). (flat_map line_of (take i all) ++ line_of one) ++ flat_map line_of
    (drop (i + 1) all)) here.1 in
    cut_writes c.from_residual.result c.from_residual.ensures.0
    (cut_as (flat_map line_of all) (sym text) (cut_longer (flat_map line_of (drop (i + 1) all)) (cut_then was.text c.in_err-push_finding.ensures.text)))

pub returns-clause-count : goal.returns-clause-count
returns-clause-count g c = none_left c.args.findings c.loop-finding.count c.loop-finding.invariant.within
    (sym c.loop-finding.invariant.left ∙ c.in_default.ensures.0)

pub returns-clause-text : goal.returns-clause-text
returns-clause-text g c =
    let all = c.args.findings in
    let i = c.loop-finding.count in
    let written : i ≡ length all = none_left all i c.loop-finding.invariant.within (sym c.loop-finding.invariant.left ∙ c.in_default.ensures.0) in
    let done : length all ≤ i = omega (arith, written) in
    wrote_as (flat_map line_of all) (ap (flat_map line_of) (take_all i all done)) c.loop-finding.invariant.text

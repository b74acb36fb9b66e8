use Rattle.std.proofs.Common.{◌≡◌, ◌≤◌, ◌+◌, ◌-◌, ◌++◌, length, take, replicate, sym, ap, ◌∙◌, arith}
use Rattle.std.proofs.lemmas.List.{drop-replicate, take-replicate, length-take-le}
use Rattle.std.proofs.Math.Seq.{take-append-add}
use Rattle.btr_findings.specs.Findings.{found}
use Rattle.btr_findings.proofs.finding.Finding.new.Goals as goal

pub returns : goal.returns
returns g c =
    let n = c.copy_from_slice.new.self in
    let size = g.row.N in
    let few : size ≤ 7 = c.requires in
    let long : length n ≡ size = c.copy_from_slice.ensures.len ∙ length-take-le size (replicate 7 0) few in
    let all : length n + (7 - size) ≡ 7 = omega (arith, long, few) in
    let zeros = drop-replicate size 7 0 ∙ sym (take-replicate (7 - size) 7 0 (omega arith)) in
    ap (λ rest. record { kind = c.args.kind; n = n ++ rest }) zeros
    ∙ ap (λ l. record { kind = c.args.kind; n = l }) (sym (take-append-add n (replicate 7 0) (7 - size)) ∙ ap (λ m. take m (n ++ replicate 7 0)) all)
    ∙ ap (found c.args.kind) c.copy_from_slice.ensures.after

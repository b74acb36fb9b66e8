use Rattle.std.proofs.Common.{◌≡◌, ◌∙◌, ℕ, List, ◌++◌, codes, ap, append_assoc}
use Rattle.btr_text.specs.Pieces.{piece_text}
use Rattle.btr_trial.specs.Shown.{findings_text, lost_text, restore_text}
use Rattle.btr_trial.proofs.lines.pieces_of.Goals as goal

three : (x a b c d : List ℕ) → a ++ b ++ c ≡ d → x ++ a ++ b ++ c ≡ x ++ d
three x a b c d e = ap (λ (l : List ℕ). l ++ c) (append_assoc x a b) ∙ append_assoc x (a ++ b) c ∙ ap (λ (l : List ℕ). x ++ l) e

all_lines : (fb fw fe f r r' lb lw le l s s' : List ℕ) → fb ++ fw ++ fe ≡ f → r ≡ r' → lb ++ lw ++ le ≡ l → s ≡ s'
    → codes "check: " ++ fb ++ fw ++ fe ++ codes "first restore: " ++ r ++ codes "scrub: " ++ lb ++ lw ++ le ++ codes "second restore: " ++ s
    ≡ codes "check: " ++ f ++ codes "first restore: " ++ r' ++ codes "scrub: " ++ l ++ codes "second restore: " ++ s'
all_lines fb fw fe f r r' lb lw le l s s' ef er el es =
    ap (λ (x : List ℕ). x ++ codes "first restore: " ++ r ++ codes "scrub: " ++ lb ++ lw ++ le ++ codes "second restore: " ++ s)
    (three (codes "check: ") fb fw fe f ef)
    ∙ ap (λ (x : List ℕ). codes "check: " ++ f ++ codes "first restore: " ++ x ++ codes "scrub: " ++ lb ++ lw ++ le ++ codes "second restore: " ++ s) er
    ∙ ap (λ (x : List ℕ). x ++ codes "second restore: " ++ s) (three (codes "check: " ++ f ++ codes "first restore: " ++ r' ++ codes "scrub: ") lb lw le l el)
    ∙ ap (λ (x : List ℕ). codes "check: " ++ f ++ codes "first restore: " ++ r' ++ codes "scrub: " ++ l ++ codes "second restore: " ++ x) es

pub returns : goal.returns
returns c =
    let f = c.said_of_check-findings.result in
    let l = c.said_of_scrub-lost.result in
    let t = c.args.tried.now in
    all_lines f.before.now (piece_text f.word) f.behind.now (findings_text t.findings) c.said_of_restore.result.now (restore_text t.first)
    l.before.now (piece_text l.word) l.behind.now (lost_text t.lost) c.said_of_restore-2.result.now (restore_text t.second)
    c.said_of_check-findings.ensures c.said_of_restore.ensures c.said_of_scrub-lost.ensures c.said_of_restore-2.ensures

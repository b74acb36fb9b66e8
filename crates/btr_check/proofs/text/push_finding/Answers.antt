use Rattle.std.proofs.Common.{◌≡◌, ℕ, List, [], ◌∷◌, ◌++◌, take, flat_map, ap, ◌∙◌}
use Rattle.btr_text.proofs.Writing.{wrote_then, cut_then, cut_longer, cut_as, cut_writes, writes_then, writes_as}
use Rattle.btr_check.specs.Text.{printed_of, number_text, line_of}
use Rattle.btr_check.proofs.text.push_finding.Goals as goal

line_is : (word word' : List ℕ) (count count' : ℕ) (numbers : List ℕ) → word ≡ word' → count ≡ count'
    → word ++ flat_map number_text (take count numbers) ++ (10 ∷ []) ≡ word' ++ flat_map number_text (take count' numbers) ++ (10 ∷ [])
line_is word word' count count' numbers words counts =
    ap (λ w. w ++ flat_map number_text (take count numbers) ++ (10 ∷ [])) words ∙ ap (λ n. word' ++ flat_map number_text (take n numbers) ++ (10 ∷ [])) counts

pub returns-in_err-push-clause-text : goal.returns-in_err-push-clause-text
returns-in_err-push-clause-text g c =
    let f = c.args.finding.now in
    let numbers : List ℕ = flat_map number_text (take (printed_of f.kind).count f.n) in
    cut_writes c.from_residual.result c.from_residual.ensures.0
    (cut_as (line_of f) (ap (λ w. w ++ numbers ++ (10 ∷ [])) c.word_of.ensures) (cut_longer (10 ∷ []) (cut_longer numbers c.in_err-push.ensures.text)))

pub returns-in_err-push_numbers-clause-text : goal.returns-in_err-push_numbers-clause-text
returns-in_err-push_numbers-clause-text g c =
    let f = c.args.finding.now in
    cut_writes c.from_residual-in_err-push_numbers.result c.from_residual-in_err-push_numbers.ensures.0
    (cut_as (line_of f) (line_is c.word_of.result.now (printed_of f.kind).word c.count_of.result
    (printed_of f.kind).count f.n c.word_of.ensures c.count_of.ensures.count)
    (cut_longer (10 ∷ []) (cut_then c.in_ok-push.ensures.text c.in_err-push_numbers.ensures.text)))

pub returns-clause-text : goal.returns-clause-text
returns-clause-text g c =
    let f = c.args.finding.now in
    writes_as (g.O.Out.text c.args.out.now) (g.O.Out.text c.push-2.new.out) c.args.buffer.now c.push-2.new.self
    (c.word_of.result.now ++ flat_map number_text (take c.count_of.result f.n) ++ (10 ∷ [])) (line_of f) c.push-2.result
    (line_is c.word_of.result.now (printed_of f.kind).word c.count_of.result (printed_of f.kind).count f.n c.word_of.ensures c.count_of.ensures.count)
    (writes_then (g.O.Out.text c.push-2.new.out) c.push-2.new.self (10 ∷ []) c.push-2.result
    (wrote_then c.in_ok-push.ensures.text c.in_ok-push_numbers.ensures.text) c.push-2.ensures.text)

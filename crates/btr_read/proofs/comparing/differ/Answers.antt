use Rattle.std.proofs.Common.{◌≡◌, ℕ, ◌-◌, not, List, length, take, drop, ap, ◌∙◌, arith, length-drop}
use Rattle.std.proofs.lemmas.List.{take_all}
use Rattle.std.specs.Str.{bytes_eq}
use Rattle.btr_read.proofs.comparing.differ.Goals as goal

rest : (xs : List ℕ) → take (length xs - 32) (drop 32 xs) ≡ drop 32 xs
rest xs = take_all (length xs - 32) (drop 32 xs) (omega (arith, length-drop 32 xs))

pub returns : goal.returns
returns c =
    let first = c.args.first.now in
    let other = c.args.other.now in
    c.ne.ensures ∙ ap not (ap (λ xs. bytes_eq xs (take (length other - 32) (drop 32 other))) (rest first) ∙ ap (bytes_eq (drop 32 first)) (rest other))

use Rattle.std.proofs.Common.{◌≡◌, ℕ, ◌+◌, ◌-◌, ◌*◌, ◌/◌, ◌≤◌, length, take, drop, refl, ap, ◌∙◌, subst, arith}
use Rattle.btr_files.proofs.AheadSums.{part_copied, part_ends, taken_behind, taken_within, taken_same}
use Rattle.btr_files.proofs.reading_ahead.from_run.Goals as goal

pub returns : goal.returns
returns c =
    let kind = c.args.kind in
    let addr = c.args.addr in
    let body = c.args.body.now in
    let run = c.args.run.now in
    let part = c.min-count.result in
    let copy = c.copied.result in
    let size = c.size-size.result in
    let first : ℕ = (addr - run.start) / 4096 in
    let few : part ≤ run.count - first = grind (arith, c.min-count.ensures, c.min.ensures) in
    let ends : first * size + part * size ≤ length body =
    subst (λ n. first * size + part * size ≤ n) (ap (λ s. run.count * s) c.size-size.ensures ∙ c.requires.size)
    (part_ends first part run.count size few c.requires.covered) in
    let same = subst (λ s. take (part * s) copy ≡ take (part * s) (drop (first * s) body)) c.size-size.ensures
    (part_copied (first * size) (part * size) copy body ends c.copied.ensures) in
    record {
      of_kind = refl;
      behind = taken_behind kind addr body run part copy c.requires.behind c.requires.aligned c.requires.covered few same;
      below = λ other sum kept.
          let le = taken_behind kind addr body run part copy c.requires.behind c.requires.aligned c.requires.covered few same other sum kept in
          let lt = taken_within kind addr body run part copy c.requires.behind c.requires.aligned c.requires.covered few same other sum kept in
          c.sectors_below.ensures other le (grind (arith, lt, c.min-count.ensures));
      same = taken_same kind addr body run part copy c.requires.behind c.requires.aligned c.requires.covered few same;
    }

use Rattle.std.proofs.Common.{◌≡◌, ◌+◌, ◌<◌, true, false, cond, length, take, sym, ap, ◌∙◌, subst, arith, slice_get, Some}
use Rattle.std.specs.Bool.{beq}
use Rattle.std.proofs.lemmas.List.{take_all}
use Rattle.std.proofs.lemmas.List.Filters.{length-filter_more}
use Rattle.std.proofs.lemmas.Option.{get_or_from_slice_get}
use Rattle.std.specs.List.{filter}
use Rattle.btr_read.specs.Candidates.{Target, among, reads_older, ways}
use Rattle.btr_read.proofs.Order.{filter_at}
use Rattle.btr_read.proofs.search.Search.way_among.Goals as goal
use Rattle.btr_read.proofs.search.Search.way_among.Goals.{then-reads_older-older+else-number-eq0, else-reads_older-older}

pub returns-then-number-eq0 : goal.returns-then-number-eq0
returns-then-number-eq0 c =
    let t : Target = c.args.self.now in
    let way = c.way.result in
    let test : beq (reads_older t way) c.args.older ≡ true = ap (λ b. beq b c.args.older) (sym c.reads_older.ensures) ∙ c.if-reads_older-older.true in
    let at = filter_at (λ candidate. beq (reads_older t candidate) c.args.older) (ways t) c.loop-k.k way c.way.ensures.value test in
    (way, c.way.ensures.value, subst (λ n. slice_get (among t c.args.older) n ≡ Some way) (omega (arith, c.loop-k.invariant, c.if-number-eq0.true)) at)

pub loop-k-preserved : goal.loop-k-preserved
loop-k-preserved c =
    let t : Target = c.args.self.now in
    let way = c.way.result in
    let k = c.loop-k.k in
    let lt : k < length (ways t) = omega (arith, c.loop-k-test.true, c.way_count-k-end.ensures) in
    let before = length (filter (λ candidate. beq (reads_older t candidate) c.args.older) (take k (ways t))) in
    let more : length (filter (λ candidate. beq (reads_older t candidate) c.args.older) (take (k + 1) (ways t)))
    ≡ before + cond (beq (reads_older t way) c.args.older) 1 0 =
    length-filter_more (λ candidate. beq (reads_older t candidate) c.args.older) (ways t) k way lt
    ∙ ap (λ x. before + cond (beq (reads_older t x) c.args.older) 1 0) (get_or_from_slice_get (ways t) k way way c.way.ensures.value) in
    elim c.if-reads_older-older.branch [
      | then-reads_older-older+else-number-eq0 w ↦
          let test : beq (reads_older t way) c.args.older ≡ true = ap (λ b. beq b c.args.older) (sym c.reads_older.ensures) ∙ w.if-reads_older-older.true in
          omega (arith, c.loop-k.invariant, more ∙ ap (λ b. before + cond b 1 0) test, w.number-is, w.if-number-eq0.false)
      | else-reads_older-older w ↦
          let test : beq (reads_older t way) c.args.older ≡ false = ap (λ b. beq b c.args.older) (sym c.reads_older.ensures) ∙ w.if-reads_older-older.false in
          omega (arith, c.loop-k.invariant, more ∙ ap (λ b. before + cond b 1 0) test, w.number-is)
    ]

pub returns : goal.returns
returns c =
    let t : Target = c.args.self.now in
    let all = take_all c.loop-k.k (ways t) (omega (arith, c.loop-k-test.false, c.way_count-k-end.ensures)) in
    subst (λ cs. c.loop-k.number + length (filter (λ candidate. beq (reads_older t candidate) c.args.older) cs) ≡ c.args.number) all c.loop-k.invariant

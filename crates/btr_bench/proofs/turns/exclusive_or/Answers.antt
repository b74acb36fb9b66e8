use Rattle.std.proofs.Common.{◌≡◌, ℕ, suc, ◌+◌, ◌-◌, length, refl, sym, ap, ◌∙◌, subst, bit_xor, arith}
use Rattle.std.specs.Int.Bits.{xor_assoc, xor_zero_r}
use Rattle.btr_bench.specs.Turns.{place_of, flipped, result_of, Keeps, TurnsGive}
use Rattle.btr_bench.proofs.turns.exclusive_or.Goals as goal

pub loop-turn-init : goal.loop-turn-init
loop-turn-init c rest given =
    let all : c.args.times - 0 ≡ c.args.times = omega arith in
    let P : ℕ → ℕ → Type 0 = λ n total. TurnsGive c.args.kernel c.args.piece.now c.args.kept.now 0 n total in
    subst (λ n. P n rest) all given

pub loop-turn-preserved : goal.loop-turn-preserved
unfolding TurnsGive
loop-turn-preserved c rest given =
    let kernel = c.args.kernel in
    let turn = c.loop-turn.turn in
    let left = c.args.times - (turn + 1) in
    let more : suc left ≡ c.args.times - turn = omega arith in
    let at = place_of kernel turn (length c.loop-turn.piece) in
    let next : c.flip.new.piece ≡ flipped c.loop-turn.piece at = c.flip.ensures ∙ ap (flipped c.loop-turn.piece) c.place.ensures.value in
    let whole : TurnsGive kernel c.loop-turn.piece c.loop-turn.kept turn (suc left) (bit_xor c.result-all.result rest) =
    subst (λ piece. (new : _) × (others : ℕ) × Keeps kernel turn piece c.loop-turn.kept new × TurnsGive kernel piece new (turn + 1) left others
    × (bit_xor c.result-all.result rest ≡ bit_xor (result_of kernel turn piece new) others)) next
    (c.keep.new.kept, rest, c.keep.ensures, given, ap (λ r. bit_xor r rest) c.result-all.ensures) in
    subst (TurnsGive kernel c.args.piece.now c.args.kept.now 0 c.args.times) (sym (xor_assoc c.loop-turn.all c.result-all.result rest))
    (c.loop-turn.invariant (bit_xor c.result-all.result rest)
    (subst (λ n. TurnsGive kernel c.loop-turn.piece c.loop-turn.kept turn n (bit_xor c.result-all.result rest)) more whole))

pub returns : goal.returns
unfolding TurnsGive
returns c =
    let kernel = c.args.kernel in
    let none : 0 ≡ c.args.times - c.loop-turn.turn = omega arith in
    subst (TurnsGive kernel c.args.piece.now c.args.kept.now 0 c.args.times) (xor_zero_r c.loop-turn.all)
    (c.loop-turn.invariant 0 (subst (λ n. TurnsGive kernel c.loop-turn.piece c.loop-turn.kept c.loop-turn.turn n 0) none refl))

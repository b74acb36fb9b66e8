use Rattle.std.proofs.Common.{◌≡◌, ℕ, ◌+◌, ◌*◌, ◌/◌, ◌-◌, ◌∙◌, List, sym, ap, arith, take, drop, length, length-drop}
use Rattle.std.proofs.lemmas.List.{take_rest}
use Rattle.btr_base.specs.Crc.{register}
use Rattle.btr_base.specs.Fold.{after, received, register_behind}
use Rattle.btr_base.proofs.Words.{left_fits}
use Rattle.btr_base.proofs.Behind.{begun, ended, kept_sent, front_same, fewer}
use Rattle.btr_base.proofs.crc.fold.register_by.Goals as goal

pub loop-rest-init : goal.loop-rest-init
loop-rest-init c =
    let bytes = c.args.bytes.now in
    let first = c.begin.ensures in
    record {
      wide = c.requires.bytes;
      are_bytes = λ i. omega (arith, c.type_inv.bytes i);
      same = begun c.args.start c.begin.new.dropped bytes (omega arith) (omega (arith, c.requires.bytes)) (λ i. omega (arith, c.type_inv.bytes i))
          first.start first.zeros;
    }

pub loop-rest-preserved : goal.loop-rest-preserved
loop-rest-preserved c =
    let rest = c.loop-rest.rest.now in
    record {
      wide = omega (arith, ap length (take_rest rest 4096), length-drop 4096 rest, c.loop-rest-test.true);
      are_bytes = left_fits rest 4096 c.loop-rest.invariant.are_bytes;
      same = c.loop-rest.invariant.same ∙ c.drop_window.ensures ∙ ap (register_behind (take 561 c.drop_window.new.dropped)) (sym (take_rest rest 4096));
    }

pub returns : goal.returns
returns c =
    let rest = c.loop-rest.rest.now in
    let before = c.loop-rest.invariant in
    let n = 64 * ((length rest - 576) / 64) in
    let xs = c.send.new.dropped in
    let ys = c.clear.new.dropped in
    let kept = c.clear.ensures.kept in
    let sent = c.send.ensures in
    let kept_bytes : ℕ → ℕ = λ j. received ys rest (n + j) in
    let reg : c.register_of-reg.result ≡ after 8 0 576 kept_bytes = c.register_of-reg.ensures ∙ c.left_of-left.ensures in
    let all : take 561 ys ≡ take 561 c.loop-rest.dropped = fewer xs ys n 561 kept ∙ sent.kept in
    c.register_of.ensures ∙ ap (register c.register_of-reg.result) (take_rest rest (n + 576))
    ∙ ap (λ r. register r (drop (n + 576) rest)) reg
    ∙ sym (ended ys rest n (λ i lt. omega (arith, front_same xs ys (n + 561) i kept lt, sent.fits i)) (omega (arith, before.wide)) before.are_bytes
    (kept_sent xs ys rest n kept sent.sent) c.clear.ensures.zeros (omega (arith, sym reg, c.register_of-reg.type_inv)))
    ∙ ap (λ (front : List ℕ). register_behind front rest) all ∙ sym before.same

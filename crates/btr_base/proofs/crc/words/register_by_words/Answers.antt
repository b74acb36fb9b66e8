use Rattle.std.proofs.Common.{◌∙◌, sym, ap, drop, bit_xor}
use Rattle.std.proofs.lemmas.List.{take_rest}
use Rattle.btr_base.specs.Crc.{register, shifted_by}
use Rattle.btr_base.proofs.Words.{register_number, left_fits}
use Rattle.btr_base.proofs.crc.words.register_by_words.Goals as goal

pub loop-rest-preserved : goal.loop-rest-preserved
loop-rest-preserved c =
    let rest = c.loop-rest.rest.now in
    let before = c.loop-rest.invariant in
    record {
      register_lt = c.take_word-reg.type_inv;
      are_bytes = left_fits rest 4 before.are_bytes;
      same =
          ap (register c.take_word-reg.result) (take_rest rest 4)
          ∙ ap (λ reg. register reg (drop 4 rest)) (c.take_word-reg.ensures ∙ ap (λ word. shifted_by 32 (bit_xor c.loop-rest.reg word)) c.u32_at.ensures)
          ∙ sym (register_number 4 c.loop-rest.reg rest before.register_lt c.loop-rest-test.true before.are_bytes) ∙ before.same;
    }

use Rattle.std.proofs.Common.{◌∙◌, ℕ, List, sym, ap, drop, slice_index}
use Rattle.std.proofs.lemmas.List.{take_rest}
use Rattle.btr_base.specs.Crc.{register}
use Rattle.btr_base.specs.Fold.{after}
use Rattle.btr_base.proofs.Words.{register_words, left_fits}
use Rattle.btr_base.proofs.crc.words.register_of.Goals as goal

pub loop-rest-preserved : goal.loop-rest-preserved
unfolding after
loop-rest-preserved c =
    let rest = c.loop-rest.rest.now in
    let before = c.loop-rest.invariant in
    record {
      register_lt = c.take_four-reg.type_inv;
      are_bytes = left_fits rest 16 before.are_bytes;
      same =
          ap (register c.take_four-reg.result) (take_rest rest 16)
          ∙ ap (λ reg. register reg (drop 16 rest)) (c.take_four-reg.ensures
          ∙ ap (λ (words : List ℕ). after 32 c.loop-rest.reg 4 (slice_index words)) c.four_at.ensures)
          ∙ sym (register_words c.loop-rest.reg 4 rest before.register_lt c.loop-rest-test.true before.are_bytes) ∙ before.same;
    }

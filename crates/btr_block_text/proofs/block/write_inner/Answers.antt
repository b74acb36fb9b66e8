use Rattle.std.proofs.Common.{◌≡◌, ℕ, ◌+◌, ◌-◌, ◌∙◌, ◌++◌, ap, sym, arith, length}
use Rattle.std.specs.List.{flat_map, range_with_len}
use Rattle.btr_base.specs.Header.{header_of}
use Rattle.btr_node.specs.Block.{KeyPointer, entry_count, pointer_at}
use Rattle.btr_node.proofs.Inners.{length-pointers, pointer_seen}
use Rattle.btr_text.proofs.Writing.{wrote_as, cut_as, cut_longer, cut_writes}
use Rattle.btr_block_text.specs.Block.{node_line, pointer_line, node_text}
use Rattle.btr_block_text.proofs.Lines.{so_far_front, so_far_more, so_far_cut, so_far_ended, numbers_first, numbers_none}
use Rattle.btr_block_text.proofs.block.write_inner.Goals as goal

pub returns-in_err-push_all-clause-text : goal.returns-in_err-push_all-clause-text
unfolding node_text
returns-in_err-push_all-clause-text g c =
    let block = c.args.block.now in
    let line = node_line c.args.addr in
    cut_writes c.from_residual.result c.from_residual.ensures.0
    (cut_longer (flat_map (λ i. pointer_line (pointer_at block i)) (range_with_len 0 (entry_count block)))
    (cut_as (line (header_of c.args.sums block)) (c.node_line.ensures ∙ ap line c.read.ensures) c.in_err-push_all.ensures.text))

pub loop-i-init : goal.loop-i-init
unfolding node_text
loop-i-init g c =
    let block = c.args.block.now in
    let line = node_line c.args.addr in
    let texts = λ (k : ℕ). flat_map (λ i. pointer_line (pointer_at block i)) (range_with_len 0 k) in
    let n = c.count-i-end.result in
    let is : n - 0 ≡ entry_count block = omega (arith, c.count-i-end.ensures.all, ap length c.of-inner.ensures, length-pointers block) in
    record {
      text = so_far_front (texts (n - 0)) (node_text c.args.sums c.args.addr block) (ap (λ k. line (header_of c.args.sums block) ++ texts k) is)
          (wrote_as (line (header_of c.args.sums block)) (c.node_line.ensures ∙ ap line c.read.ensures) c.in_ok-push_all.ensures.text);
      account = c.in_ok-push_all.ensures.account;
    }

pub returns-in_err-push_all-2-clause-text : goal.returns-in_err-push_all-2-clause-text
returns-in_err-push_all-2-clause-text g c =
    let block = c.args.block.now in
    let i = c.loop-i.i in
    let n = c.count-i-end.result in
    let text = λ (k : ℕ). pointer_line (pointer_at block k) in
    let found : KeyPointer = record { key = c.key.result; addr = c.child.result.addr; generation = c.child.result.generation } in
    let seen = (pointer_seen block c.of-inner.result (sym c.of-inner.ensures)).at i found (omega (arith, c.count-i-end.ensures.all)) in
    let is : found ≡ pointer_at block i =
    λ j. record {
      key = (sym (c.key.ensures found) ∙ ap (λ (p : KeyPointer). p.key) seen) j;
      addr = (sym (c.child.ensures.addr found) ∙ ap (λ (p : KeyPointer). p.addr) seen) j;
      generation =
          (sym (c.child.ensures.generation found) ∙ ap (λ (p : KeyPointer). p.generation) seen) j;
    } in
    cut_writes c.from_residual-in_err-push_all-2.result c.from_residual-in_err-push_all-2.ensures.0
    (so_far_cut (flat_map text (range_with_len (i + 1) (n - (i + 1)))) c.loop-i.invariant.text (numbers_first text i n c.loop-i-test.true)
    (cut_as (text i) (c.pointer_line.ensures ∙ ap pointer_line is) c.in_err-push_all-2.ensures.text))

pub loop-i-preserved : goal.loop-i-preserved
loop-i-preserved g c =
    let block = c.args.block.now in
    let i = c.loop-i.i in
    let n = c.count-i-end.result in
    let text = λ (k : ℕ). pointer_line (pointer_at block k) in
    let found : KeyPointer = record { key = c.key.result; addr = c.child.result.addr; generation = c.child.result.generation } in
    let seen = (pointer_seen block c.of-inner.result (sym c.of-inner.ensures)).at i found (omega (arith, c.count-i-end.ensures.all)) in
    let is : found ≡ pointer_at block i =
    λ j. record {
      key = (sym (c.key.ensures found) ∙ ap (λ (p : KeyPointer). p.key) seen) j;
      addr = (sym (c.child.ensures.addr found) ∙ ap (λ (p : KeyPointer). p.addr) seen) j;
      generation =
          (sym (c.child.ensures.generation found) ∙ ap (λ (p : KeyPointer). p.generation) seen) j;
    } in
    record {
      text = so_far_more (flat_map text (range_with_len (i + 1) (n - (i + 1)))) c.loop-i.invariant.text (numbers_first text i n c.loop-i-test.true)
          (wrote_as (text i) (c.pointer_line.ensures ∙ ap pointer_line is) c.in_ok-push_all-2.ensures.text);
      account = c.in_ok-push_all-2.ensures.account ∙ c.loop-i.invariant.account;
    }

pub returns-clause-text : goal.returns-clause-text
returns-clause-text g c =
    so_far_ended c.loop-i.invariant.text (numbers_none (λ i. pointer_line (pointer_at c.args.block.now i)) c.loop-i.i c.count-i-end.result (omega arith))

use Rattle.std.proofs.Common.{◌≡◌, ℕ, ◌+◌, ◌-◌, ◌∙◌, ◌++◌, ap, sym, arith, length}
use Rattle.std.specs.List.{flat_map, range_with_len}
use Rattle.btr_base.specs.Header.{header_of}
use Rattle.btr_node.specs.Block.{entry_count, item_at}
use Rattle.btr_node.specs.LeafItem.{item_of}
use Rattle.btr_node.proofs.Leaves.{length-items, item_seen}
use Rattle.btr_text.proofs.Writing.{wrote_as, cut_as, cut_longer, cut_writes}
use Rattle.btr_block_text.specs.Block.{leaf_line, leaf_text}
use Rattle.btr_block_text.specs.Items.{item_text}
use Rattle.btr_block_text.proofs.Lines.{so_far_front, so_far_more, so_far_cut, so_far_ended, numbers_first, numbers_none}
use Rattle.btr_block_text.proofs.block.write_leaf.Goals as goal

pub returns-in_err-push_all-clause-text : goal.returns-in_err-push_all-clause-text
unfolding leaf_text
returns-in_err-push_all-clause-text g c =
    let block = c.args.block.now in
    let line = leaf_line c.args.addr in
    cut_writes c.from_residual.result c.from_residual.ensures.0
    (cut_longer (flat_map (λ i. item_text c.args.sums i (item_at block i)) (range_with_len 0 (entry_count block)))
    (cut_as (line (header_of c.args.sums block)) (c.leaf_line.ensures ∙ ap line c.read.ensures) c.in_err-push_all.ensures.text))

pub loop-i-init : goal.loop-i-init
unfolding leaf_text
loop-i-init g c =
    let block = c.args.block.now in
    let line = leaf_line c.args.addr in
    let texts = λ (k : ℕ). flat_map (λ i. item_text c.args.sums i (item_at block i)) (range_with_len 0 k) in
    let n = c.count-i-end.result in
    let is : n - 0 ≡ entry_count block = omega (arith, c.count-i-end.ensures.all, ap length c.of-leaf.ensures, length-items block) in
    record {
      text = so_far_front (texts (n - 0)) (leaf_text c.args.sums c.args.addr block) (ap (λ k. line (header_of c.args.sums block) ++ texts k) is)
          (wrote_as (line (header_of c.args.sums block)) (c.leaf_line.ensures ∙ ap line c.read.ensures) c.in_ok-push_all.ensures.text);
      account = c.in_ok-push_all.ensures.account;
    }

pub returns-in_err-write_item-clause-text : goal.returns-in_err-write_item-clause-text
returns-in_err-write_item-clause-text g c =
    let block = c.args.block.now in
    let i = c.loop-i.i in
    let n = c.count-i-end.result in
    let text = λ (k : ℕ). item_text c.args.sums k (item_at block k) in
    let item = item_of c.item.result in
    let is : item ≡ item_at block i =
    sym (c.item.ensures item) ∙ (item_seen block c.of-leaf.result (sym c.of-leaf.ensures)).at i item (omega (arith, c.count-i-end.ensures.all)) in
    cut_writes c.from_residual-in_err-write_item.result c.from_residual-in_err-write_item.ensures.0
    (so_far_cut (flat_map text (range_with_len (i + 1) (n - (i + 1)))) c.loop-i.invariant.text (numbers_first text i n c.loop-i-test.true)
    (cut_as (text i) (ap (item_text c.args.sums i) is) c.in_err-write_item.ensures.text))

pub loop-i-preserved : goal.loop-i-preserved
loop-i-preserved g c =
    let block = c.args.block.now in
    let i = c.loop-i.i in
    let n = c.count-i-end.result in
    let text = λ (k : ℕ). item_text c.args.sums k (item_at block k) in
    let item = item_of c.item.result in
    let is : item ≡ item_at block i =
    sym (c.item.ensures item) ∙ (item_seen block c.of-leaf.result (sym c.of-leaf.ensures)).at i item (omega (arith, c.count-i-end.ensures.all)) in
    record {
      text = so_far_more (flat_map text (range_with_len (i + 1) (n - (i + 1)))) c.loop-i.invariant.text (numbers_first text i n c.loop-i-test.true)
          (wrote_as (text i) (ap (item_text c.args.sums i) is) c.in_ok-write_item.ensures.text);
      account = c.in_ok-write_item.ensures.account ∙ c.loop-i.invariant.account;
    }

pub returns-clause-text : goal.returns-clause-text
returns-clause-text g c =
    so_far_ended c.loop-i.invariant.text (numbers_none (λ i. item_text c.args.sums i (item_at c.args.block.now i)) c.loop-i.i c.count-i-end.result
    (omega arith))

use Rattle.std.proofs.Common.{◌≡◌, ◌+◌, ◌-◌, ◌*◌, length, map, sym, ap, arith}
use Rattle.std.specs.List.{range_with_len}
use Rattle.btr_node.specs.Block.{item_at, is_packed}
use Rattle.btr_node.proofs.Packing.{so_far_next, so_far_gap, so_far_all}
use Rattle.btr_node.proofs.leaf.is_packed.Goals as goal

pub loop-i-init : goal.loop-i-init
loop-i-init c =
    let block = c.args.block.now in
    let n = c.args.count in
    let all : n - 0 ≡ n = omega arith in
    record {
      fits = λ begins. ap (λ m. is_packed (25 * n) (length block - 101) (map (item_at block) (range_with_len 0 m))) (sym all);
      broken = λ low. absurd (omega arith);
    }

pub returns-then-offset-size : goal.returns-then-offset-size
returns-then-offset-size c =
    let item = item_at c.args.block.now c.loop-i.i in
    let offset : c.item_offset-offset.result ≡ item.offset = c.item_offset-offset.ensures in
    let size : c.item_size-size.result ≡ item.size = c.item_size-size.ensures in
    sym (so_far_gap _ c.args.block.now (25 * c.args.count) c.args.count c.loop-i.end c.loop-i.i c.loop-i.invariant c.loop-i-test.true
    (λ (ends : item.offset + item.size ≡ c.loop-i.end). omega arith))

pub loop-i-preserved : goal.loop-i-preserved
loop-i-preserved c =
    let item = item_at c.args.block.now c.loop-i.i in
    let offset : c.item_offset-offset.result ≡ item.offset = c.item_offset-offset.ensures in
    let size : c.item_size-size.result ≡ item.size = c.item_size-size.ensures in
    rw offset (so_far_next _ c.args.block.now (25 * c.args.count) c.args.count c.loop-i.end c.loop-i.i c.loop-i.invariant c.loop-i-test.true (omega arith))

pub returns : goal.returns
returns c = sym (so_far_all _ c.args.block.now (25 * c.args.count) c.args.count c.loop-i.end c.loop-i.i c.loop-i.invariant c.loop-i-test.false)

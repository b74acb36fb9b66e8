use Rattle.std.proofs.Common.{◌≡◌, ℕ, ◌+◌, ◌*◌, ◌-◌, ◌≤◌, List, [], ◌∷◌, ◌++◌, length, map, replicate, take, refl, ap, sym, ◌∙◌, append_assoc, append-nil}
use Rattle.std.proofs.Common.{length-append, vec_len, arith}
use Rattle.std.proofs.lemmas.List.{take_all}
use Rattle.std.proofs.lemmas.List.FromFn.{map-range_with_len_more}
use Rattle.std.proofs.lemmas.List.Folds.{concat-append}
use Rattle.std.specs.Int.{w32, to_le_bytes}
use Rattle.std.specs.List.{concat, range_with_len}
use Rattle.btr_bench.specs.Node.{item_count, entry}
use Rattle.btr_bench.proofs.node.leaf.Goals as goal

-- one piece more, behind a first list
one_more : (front : List ℕ) (piece : ℕ → List ℕ) (n : ℕ)
    → front ++ concat (map piece (range_with_len 0 n)) ++ piece n ≡ front ++ concat (map piece (range_with_len 0 (n + 1)))
one_more front piece n =
    let before = map piece (range_with_len 0 n) in
    append_assoc front (concat before) (piece n)
    ∙ ap (λ xs. front ++ xs) (sym (ap concat (map-range_with_len_more piece 0 n n (omega arith)) ∙ concat-append before (piece n ∷ [])
    ∙ ap (λ xs. concat before ++ xs) (append-nil (piece n))))

length-entry : (size i : ℕ) → length (entry size i) ≡ 25
unfolding entry
length-entry size i = refl

-- a list that is filled up with zeros
filled_up : (size long : ℕ) (now block is : List ℕ) → now ≡ take size block ++ replicate (size - long) 0 → block ≡ is → length block ≤ size
    → now ≡ is ++ replicate (size - long) 0
filled_up size long now block is filled same below = filled ∙ ap (λ xs. xs ++ replicate (size - long) 0) (take_all size block below ∙ same)

pub loop-i-preserved : goal.loop-i-preserved
loop-i-preserved c =
    let more = c.in_ok-push_entry.ensures in
    let front = replicate 96 0 ++ to_le_bytes w32 (item_count c.args.size) ++ 0 ∷ [] in
    record {
      entries = more ∙ ap (λ xs. xs ++ entry c.args.size c.loop-i.i) c.loop-i.invariant.entries ∙ one_more front (entry c.args.size) c.loop-i.i;
      long = ap length more ∙ length-append c.loop-i.block.items (entry c.args.size c.loop-i.i)
          ∙ omega (arith, c.loop-i.invariant.long, length-entry c.args.size c.loop-i.i);
    }

pub returns-clause-value : goal.returns-clause-value
returns-clause-value c =
    let size = c.args.size in
    let front = replicate 96 0 ++ to_le_bytes w32 (item_count size) ++ 0 ∷ [] in
    let count : c.loop-i.i ≡ item_count size = omega (arith, c.item_count-count.ensures.value) in
    let all : c.loop-i.block.items ≡ front ++ concat (map (entry size) (range_with_len 0 (item_count size))) =
    c.loop-i.invariant.entries ∙ ap (λ n. front ++ concat (map (entry size) (range_with_len 0 n))) count in
    let long : length c.loop-i.block.items ≡ 101 + 25 * item_count size = omega (arith, c.loop-i.invariant.long, count) in
    let below : length c.loop-i.block.items ≤ size = omega (arith, long, c.item_count-count.ensures.value, c.item_count-count.ensures.fits) in
    let is = front ++ concat (map (entry size) (range_with_len 0 (item_count size))) in
    let same : vec_len c.loop-i.block ≡ 101 + 25 * item_count size = omega (arith, long, c.loop-i.block.ok.0) in
    filled_up size (vec_len c.loop-i.block) c.resize.new.self.items c.loop-i.block.items is c.in_ok-resize.ensures.items all below
    ∙ ap (λ n. is ++ replicate (size - n) 0) same

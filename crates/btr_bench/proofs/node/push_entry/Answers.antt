use Rattle.std.proofs.Common.{◌≡◌, ℕ, ◌+◌, ◌*◌, ◌%◌, List, [], ◌∷◌, ◌++◌, ap, ap₂, ◌∙◌, replicate, append_assoc, arith, Result, Ok, Err}
use Rattle.std.specs.Result.{OnOk}
use Rattle.btr_bench.specs.Node.{entry}
use Rattle.btr_bench.proofs.node.push_entry.Goals as goal

-- five lists behind a first one
five_behind : (old a b c d e : List ℕ) → old ++ a ++ b ++ c ++ d ++ e ≡ old ++ (a ++ b ++ c ++ d ++ e)
five_behind old a b c d e = grind (arith, append_assoc)

at_ok : {T E : Type 0} (r : Result T E) (P Q : Type 0) → (P → Q) → OnOk r P → OnOk r Q
at_ok (Ok x) P Q f p = f p
at_ok (Err e) P Q f p = tt

pub returns : goal.returns
unfolding entry
returns c =
    let old = c.args.block.now.items in
    let kind : List ℕ = (1 + 12 * (c.args.i % 3)) ∷ [] in
    let front : c.append.new.block.items ≡ old ++ c.to_le_bytes.result = c.in_ok-append.ensures in
    let all : (e : List ℕ) → c.append-5.new.block.items ≡ c.append-4.new.block.items ++ e
    → c.append-5.new.block.items ≡ old ++ (c.to_le_bytes.result ++ kind ++ replicate 8 0 ++ c.to_le_bytes-2.result ++ e) =
    λ e last. last
    ∙ ap (λ xs. xs ++ e) (c.in_ok-append-4.ensures
    ∙ ap (λ xs. xs ++ c.to_le_bytes-2.result) (c.in_ok-append-3.ensures
    ∙ ap (λ xs. xs ++ replicate 8 0) (c.in_ok-append-2.ensures ∙ ap (λ xs. xs ++ kind) front)))
    ∙ five_behind old c.to_le_bytes.result kind (replicate 8 0) c.to_le_bytes-2.result e in
    let numbers : (a d e : List ℕ) → c.to_le_bytes.result ≡ a → c.to_le_bytes-2.result ≡ d → c.to_le_bytes-3.result ≡ e
    → old ++ (c.to_le_bytes.result ++ kind ++ replicate 8 0 ++ c.to_le_bytes-2.result ++ c.to_le_bytes-3.result) ≡ old
    ++ (a ++ kind ++ replicate 8 0 ++ d ++ e) =
    λ a d e first second third. ap (λ xs. old ++ xs)
    (ap₂ (λ x y. x ++ kind ++ replicate 8 0 ++ y ++ c.to_le_bytes-3.result) first second ∙ ap (λ x. a ++ kind ++ replicate 8 0 ++ d ++ x) third) in
    at_ok c.append-5.result _ _
    (λ last. all c.to_le_bytes-3.result last ∙ numbers _ _ _ c.to_le_bytes.ensures c.to_le_bytes-2.ensures c.to_le_bytes-3.ensures) c.append-5.ensures

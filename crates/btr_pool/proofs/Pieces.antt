-- Facts about a list that is cut into pieces of one size.
use Rattle.std.proofs.Common.{◌≡◌, ℕ, zero, suc, ◌+◌, ◌-◌, ◌*◌, ◌≤◌, ◌<◌, List, [], ◌∷◌, ◌++◌, take, drop, length, get_or, set, replicate, refl, sym, ap, ◌∙◌}
use Rattle.std.proofs.Common.{arith, length-take, length-drop}
use Rattle.std.specs.List.{concat}
use Rattle.std.proofs.lemmas.List.{take-append-drop, take-append-le, take-take, take_at, take-replicate, drop-append-le, drop-drop, drop-take, drop_at}
use Rattle.std.proofs.lemmas.List.{drop-replicate}
use Rattle.btr_pool.specs.Slots.{pieces}

-- a list is cut into as many pieces as are said
pub length-pieces : (count size : ℕ) (bytes : List ℕ) → length (pieces count size bytes) ≡ count
length-pieces zero size bytes = refl
length-pieces (suc count) size bytes = ap suc (length-pieces count size (drop size bytes))

-- the start of piece k + 1, seen from behind the first piece
drop_next : (size k : ℕ) (bytes : List ℕ) → drop (k * size) (drop size bytes) ≡ drop (suc k * size) bytes
drop_next size k bytes =
    let start : size + k * size ≡ suc k * size = omega arith in
    drop-drop (k * size) size bytes ∙ ap (λ n. drop n bytes) start

-- piece k begins at k times the size
pub get_or-pieces : (count size k : ℕ) (bytes : List ℕ) → k < count → get_or (pieces count size bytes) k [] ≡ take size (drop (k * size) bytes)
get_or-pieces zero size k bytes lt = absurd (omega arith)
get_or-pieces (suc count) size zero bytes lt = let start : 0 ≡ 0 * size = omega arith in ap (λ n. take size (drop n bytes)) start
get_or-pieces (suc count) size (suc k) bytes lt = get_or-pieces count size k (drop size bytes) (omega arith) ∙ ap (take size) (drop_next size k bytes)

-- what stands behind the pieces doesn't count
pub pieces-take : (count size : ℕ) (bytes : List ℕ) → pieces count size (take (count * size) bytes) ≡ pieces count size bytes
pieces-take zero size bytes = refl
pieces-take (suc count) size bytes =
    let all : suc count * size ≡ size + count * size = omega arith in
    let first : take size (take (suc count * size) bytes) ≡ take size bytes = take-take size (suc count * size) bytes (omega arith) in
    let rest : drop size (take (suc count * size) bytes) ≡ take (count * size) (drop size bytes) =
    ap (λ n. drop size (take n bytes)) all ∙ drop-take size (count * size) bytes in
    let others : pieces count size (take (count * size) (drop size bytes)) ≡ pieces count size (drop size bytes) = pieces-take count size (drop size bytes) in
    cc

-- the pieces end to end
pub concat-pieces : (count size : ℕ) (bytes : List ℕ) → length bytes ≡ count * size → concat (pieces count size bytes) ≡ bytes
concat-pieces zero size [] whole = refl
concat-pieces zero size (b ∷ bytes) whole = absurd (omega arith)
concat-pieces (suc count) size bytes whole =
    ap (λ rest. take size bytes ++ rest) (concat-pieces count size (drop size bytes) (omega (arith, whole, length-drop size bytes)))
    ∙ take-append-drop size bytes

-- bytes with others over them from place i on
abbrev pub over : ℕ → List ℕ → List ℕ → List ℕ
over i written bytes = take i bytes ++ (written ++ drop (length written) (drop i bytes))

-- a piece's length written over piece k
pub pieces-over : (count size k : ℕ) (written bytes : List ℕ) → k < count → length written ≡ size → length bytes ≡ count * size
    → pieces count size (over (k * size) written bytes) ≡ set (pieces count size bytes) k written
pieces-over zero size k written bytes lt one whole = absurd (omega arith)
pieces-over (suc count) size zero written bytes lt one whole =
    let start : 0 * size ≡ 0 = omega arith in
    let here : over (0 * size) written bytes ≡ written ++ drop size bytes = ap (λ n. over n written bytes) start ∙ ap (λ n. written ++ drop n bytes) one in
    let first : take size (written ++ drop size bytes) ≡ written = take_at written (drop size bytes) size one in
    let rest : drop size (written ++ drop size bytes) ≡ drop size bytes = drop_at written (drop size bytes) size one in
    ap (pieces (suc count) size) here ∙ (λ i. first i ∷ pieces count size (rest i))
pieces-over (suc count) size (suc k) written bytes lt one whole =
    let start : suc k * size ≡ size + k * size = omega arith in
    let after : List ℕ = written ++ drop (length written) (drop (suc k * size) bytes) in
    let long : size ≤ length (take (suc k * size) bytes) = omega (arith, length-take (suc k * size) bytes, whole) in
    let first : take size (take (suc k * size) bytes ++ after) ≡ take size bytes =
    take-append-le size (take (suc k * size) bytes) after long ∙ take-take size (suc k * size) bytes (omega arith) in
    let rest : drop size (take (suc k * size) bytes ++ after) ≡ over (k * size) written (drop size bytes) =
    drop-append-le size (take (suc k * size) bytes) after long
    ∙ ap (λ front. front ++ after) (ap (λ n. drop size (take n bytes)) start ∙ drop-take size (k * size) bytes)
    ∙ ap (λ back. take (k * size) (drop size bytes) ++ (written ++ drop (length written) back)) (sym (drop_next size k bytes)) in
    let others : pieces count size (over (k * size) written (drop size bytes)) ≡ set (pieces count size (drop size bytes)) k written =
    pieces-over count size k written (drop size bytes) (omega arith) one (omega (arith, whole, length-drop size bytes)) in
    cc

-- zeros are cut into zeros
pub pieces-replicate : (count size : ℕ) → pieces count size (replicate (count * size) 0) ≡ replicate count (replicate size 0)
pieces-replicate zero size = refl
pieces-replicate (suc count) size =
    let zeros : List ℕ = replicate (suc count * size) 0 in
    let all : suc count * size ≡ size + count * size = omega arith in
    let left : suc count * size - size ≡ count * size = omega arith in
    let first : take size zeros ≡ replicate size 0 = take-replicate size (suc count * size) 0 (omega arith) in
    let rest : drop size zeros ≡ replicate (suc count * size - size) 0 = drop-replicate size (suc count * size) 0 in
    let others : pieces count size (replicate (count * size) 0) ≡ replicate count (replicate size 0) = pieces-replicate count size in
    cc

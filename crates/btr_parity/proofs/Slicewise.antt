-- Loops that change a slice byte by byte.
use Rattle.std.proofs.Common.{◌≡◌, ℕ, zero, suc, ◌+◌, ◌<◌, List, [], ◌∷◌, length, get_or, set, map, take, refl, ap, ◌∙◌, arith}
use Rattle.std.proofs.lemmas.List.{map-id}
use Rattle.std.specs.Simd.Lanes.{zip2, chunk, put_chunk}

-- f of the first n pairs, and what was there behind them
abbrev pub over : (ℕ → ℕ → ℕ) → ℕ → List ℕ → List ℕ → List ℕ
over f zero xs ys = xs
over f (suc n) [] ys = []
over f (suc n) (x ∷ xs) [] = x ∷ xs
over f (suc n) (x ∷ xs) (y ∷ ys) = f x y ∷ over f n xs ys

-- with the pair at n written, one pair more is done
over_suc : (f : ℕ → ℕ → ℕ) (xs ys : List ℕ) (n : ℕ) → length xs ≡ length ys → n < length xs
    → set (over f n xs ys) n (f (get_or (over f n xs ys) n 0) (get_or ys n 0)) ≡ over f (suc n) xs ys
over_suc f [] ys n e h = absurd (omega arith)
over_suc f (x ∷ xs) [] n e h = absurd (omega arith)
over_suc f (x ∷ xs) (y ∷ ys) zero e h = refl
over_suc f (x ∷ xs) (y ∷ ys) (suc n) e h = ap (λ r. f x y ∷ r) (over_suc f xs ys n (omega arith) (omega arith))

-- one pair more
pub over_more : (f : ℕ → ℕ → ℕ) (xs ys : List ℕ) (n : ℕ) → length xs ≡ length ys → n < length xs
    → set (over f n xs ys) n (f (get_or (over f n xs ys) n 0) (get_or ys n 0)) ≡ over f (n + 1) xs ys
over_more f xs ys n e h =
    let more : suc n ≡ n + 1 = omega arith in
    over_suc f xs ys n e h ∙ ap (λ k. over f k xs ys) more

-- all pairs
pub over_all : (f : ℕ → ℕ → ℕ) (xs ys : List ℕ) (n : ℕ) → length xs ≡ length ys → n ≡ length xs → over f n xs ys ≡ zip2 f xs ys
over_all f [] [] zero e h = refl
over_all f (x ∷ xs) (y ∷ ys) zero e h = absurd (omega arith)
over_all f [] (y ∷ ys) n e h = absurd (omega arith)
over_all f (x ∷ xs) [] n e h = absurd (omega arith)
over_all f [] [] (suc n) e h = refl
over_all f (x ∷ xs) (y ∷ ys) (suc n) e h = ap (λ r. f x y ∷ r) (over_all f xs ys n (omega arith) (omega arith))

-- a loop's step that writes f of the pair at n
pub over_step : (f : ℕ → ℕ → ℕ) (xs ys acc : List ℕ) (n v : ℕ) → length xs ≡ length ys → n < length xs → acc ≡ over f n xs ys → v
    ≡ f (get_or acc n 0) (get_or ys n 0)
    → set acc n v ≡ over f (n + 1) xs ys
over_step f xs ys acc n v e h so_far written =
    ap (set acc n) written ∙ ap (λ a. set a n (f (get_or a n 0) (get_or ys n 0))) so_far ∙ over_more f xs ys n e h

-- a function of each pair, of which each side is made from a list
pub zip2-map_map : (h : ℕ → ℕ → ℕ) (f g : ℕ → ℕ) (xs ys : List ℕ) → zip2 (λ x y. h (f x) (g y)) xs ys ≡ zip2 h (map f xs) (map g ys)
zip2-map_map h f g [] ys = refl
zip2-map_map h f g (x ∷ xs) [] = refl
zip2-map_map h f g (x ∷ xs) (y ∷ ys) = ap (λ r. h (f x) (g y) ∷ r) (zip2-map_map h f g xs ys)

-- a function of each pair, whose right side is made from a list
pub zip2-map_right : (h : ℕ → ℕ → ℕ) (g : ℕ → ℕ) (xs ys : List ℕ) → zip2 (λ x y. h x (g y)) xs ys ≡ zip2 h xs (map g ys)
zip2-map_right h g xs ys = zip2-map_map h (λ x. x) g xs ys ∙ ap (λ l. zip2 h l (map g ys)) (map-id xs)

-- a function of each pair, whose left side is made from a list
pub zip2-map_left : (h : ℕ → ℕ → ℕ) (f : ℕ → ℕ) (xs ys : List ℕ) → zip2 (λ x y. h (f x) y) xs ys ≡ zip2 h (map f xs) ys
zip2-map_left h f xs ys = zip2-map_map h f (λ y. y) xs ys ∙ ap (zip2 h (map f xs)) (map-id ys)

-- a function of the left sides alone is one of the list
pub zip2_of_first : (f : ℕ → ℕ) (xs : List ℕ) → zip2 (λ x y. f x) xs xs ≡ map f xs
zip2_of_first f [] = refl
zip2_of_first f (x ∷ xs) = ap (λ r. f x ∷ r) (zip2_of_first f xs)

-- ---- many pairs at once

-- m pairs at once, from the first on
first_chunk : (f : ℕ → ℕ → ℕ) (m : ℕ) (xs ys : List ℕ) → length xs ≡ length ys → put_chunk 0 xs (zip2 f (take m xs) (take m ys)) ≡ over f m xs ys
first_chunk f zero [] ys e = refl
first_chunk f zero (x ∷ xs) ys e = refl
first_chunk f (suc m) [] ys e = refl
first_chunk f (suc m) (x ∷ xs) [] e = absurd (omega arith)
first_chunk f (suc m) (x ∷ xs) (y ∷ ys) e = ap (λ r. f x y ∷ r) (first_chunk f m xs ys (omega arith))

-- the m pairs behind the first n
pub over_chunk : (f : ℕ → ℕ → ℕ) (n m : ℕ) (xs ys : List ℕ) → length xs ≡ length ys
    → put_chunk n (over f n xs ys) (zip2 f (chunk n m xs) (chunk n m ys)) ≡ over f (n + m) xs ys
over_chunk f zero m xs ys e =
    let all : m ≡ 0 + m = omega arith in
    first_chunk f m xs ys e ∙ ap (λ k. over f k xs ys) all
over_chunk f (suc n) m [] [] e =
    let more : suc (n + m) ≡ suc n + m = omega arith in
    ap (λ k. over f k [] []) more
over_chunk f (suc n) m [] (y ∷ ys) e = absurd (omega arith)
over_chunk f (suc n) m (x ∷ xs) [] e = absurd (omega arith)
over_chunk f (suc n) m (x ∷ xs) (y ∷ ys) e =
    let more : suc (n + m) ≡ suc n + m = omega arith in
    ap (λ r. f x y ∷ r) (over_chunk f n m xs ys (omega arith)) ∙ ap (λ k. over f k (x ∷ xs) (y ∷ ys)) more

-- what has not been reached is as it was
pub chunk-over : (f : ℕ → ℕ → ℕ) (n m : ℕ) (xs ys : List ℕ) → length xs ≡ length ys → chunk n m (over f n xs ys) ≡ chunk n m xs
chunk-over f zero m xs ys e = refl
chunk-over f (suc n) m [] ys e = refl
chunk-over f (suc n) m (x ∷ xs) [] e = absurd (omega arith)
chunk-over f (suc n) m (x ∷ xs) (y ∷ ys) e = chunk-over f n m xs ys (omega arith)

-- a loop's step that writes f of m pairs from n on
pub over_lanes : (f : ℕ → ℕ → ℕ) (xs ys acc lanes : List ℕ) (n m next : ℕ) → length xs ≡ length ys → acc ≡ over f n xs ys → n + m ≡ next
    → lanes ≡ zip2 f (chunk n m acc) (chunk n m ys) → put_chunk n acc lanes ≡ over f next xs ys
over_lanes f xs ys acc lanes n m next e so_far there written =
    ap (put_chunk n acc) written ∙ ap (λ a. put_chunk n a (zip2 f (chunk n m a) (chunk n m ys))) so_far
    ∙ ap (λ c. put_chunk n (over f n xs ys) (zip2 f c (chunk n m ys))) (chunk-over f n m xs ys e)
    ∙ over_chunk f n m xs ys e ∙ ap (λ k. over f k xs ys) there

-- Tables of the multiples of a factor.
use Rattle.std.specs.Prelude.{ℕ, ◌*◌, List, map}
use Rattle.std.specs.List.{range_with_len}
use Rattle.btr_parity.specs.Field.{product}

-- the products of the factor with 0 to 15 times the step
abbrev pub multiples : ℕ → ℕ → List ℕ
multiples factor step = map (λ k. product factor (step * k)) (range_with_len 0 16)

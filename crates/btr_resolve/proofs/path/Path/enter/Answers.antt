use Rattle.std.proofs.Common.{ℕ, List, ◌∷◌, ◌++◌, [], length, take, drop, ap, ◌∙◌, arith}
use Rattle.std.proofs.lemmas.List.{take_at}
use Rattle.std.specs.Prelude.{reverse}
use Rattle.btr_files.proofs.Gathered.{kept_items}
use Rattle.btr_resolve.proofs.Turning.{entered}
use Rattle.btr_resolve.proofs.path.Path.enter.Goals as goal

pub returns : goal.returns
returns c =
    entered c.self.inside.bytes.items c.extend_from_slice.new.self.items c.reverse_from.new.bytes c.push.new.self.items
    c.args.name.now c.len-len.result
    (omega (arith, c.len-len.ensures, c.self.inside.bytes.ok.0))
    (c.extend_from_slice.ensures.items ∙ kept_items c.extend_from_slice.result _ _ c.if-is_err.ensures.value)
    (c.reverse_from.ensures ∙ ap (λ (xs : List ℕ). take c.len-len.result xs ++ reverse (drop c.len-len.result xs)) c.as_mut_slice.ensures.value)
    (c.push.ensures.items ∙ kept_items c.push.result _ _ c.if-is_err-2.ensures.value
    ∙ ap (λ (xs : List ℕ). xs ++ 47 ∷ [])
    (take_at c.reverse_from.new.bytes
    (drop (length c.reverse_from.new.bytes) c.extend_from_slice.new.self.items) c.extend_from_slice.new.self.len
    (c.reverse_from.auto.bytes ∙ c.as_mut_slice.ensures.len)))
    ∙ ap (λ (xs : List ℕ). 47 ∷ c.args.name.now ++ xs) c.self.view_is

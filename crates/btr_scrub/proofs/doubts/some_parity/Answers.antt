use Rattle.std.proofs.Common.{◌≡◌, is_none, length, slice_get, sym, ap, ◌∙◌, inl, inr, arith}
use Rattle.btr_scrub.proofs.Common.{Chunk, cases_lt, list_any-false, list_any-true, mirrors, same_Some, slice_get_within}
use Rattle.btr_scrub.proofs.Working.{some_and}
use Rattle.btr_scrub.proofs.doubts.some_parity.Goals as goal

pub returns-then-has_parity : goal.returns-then-has_parity
returns-then-has_parity c =
    let chunks = c.args.store.now.layout.chunks in
    let f = some_and (slice_get chunks c.loop-i.i) (λ (chunk : Chunk). c.has_parity.result ≡ is_none (mirrors chunk)) c.has_parity.ensures in
    sym (list_any-true (λ (chunk : Chunk). is_none (mirrors chunk)) chunks c.loop-i.i f.0 f.1 (sym f.2 ∙ c.if-has_parity.true))

pub loop-i-preserved : goal.loop-i-preserved
loop-i-preserved c = λ j chunk lt e. elim (cases_lt j c.loop-i.i) [
  | inl below ↦ c.loop-i.invariant j chunk below e
  | inr there ↦
      let chunks = c.args.store.now.layout.chunks in
      let f = some_and (slice_get chunks c.loop-i.i) (λ (chunk : Chunk). c.has_parity.result ≡ is_none (mirrors chunk)) c.has_parity.ensures in
      let here : j ≡ c.loop-i.i = omega (arith, there, lt) in
      let same : chunk ≡ f.0 = same_Some chunk f.0 (sym e ∙ ap (slice_get chunks) here ∙ f.1) in
      ap (λ (k : Chunk). is_none (mirrors k)) same ∙ sym f.2 ∙ c.if-has_parity.false
]

pub returns : goal.returns
returns c =
    sym (list_any-false (λ (chunk : Chunk). is_none (mirrors chunk)) c.args.store.now.layout.chunks (λ j chunk e. c.loop-i.invariant j chunk
    (omega (arith, slice_get_within c.args.store.now.layout.chunks j chunk e, c.loop-i-test.false, c.count-i-end.ensures.count, ap length c.chunks.ensures)) e))

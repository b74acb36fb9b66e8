use Rattle.std.proofs.Common.{◌∙◌, sym, ap, drop}
use Rattle.std.proofs.lemmas.List.{take_rest}
use Rattle.btr_base.specs.Xxh64.{with_eight, with_bytes}
use Rattle.btr_base.proofs.Hashing.{with_bytes_more, with_bytes_few}
use Rattle.btr_base.proofs.xxhash.add_bytes.Goals as goal

pub loop-rest-preserved : goal.loop-rest-preserved
loop-rest-preserved c =
    let rest = c.loop-rest.rest.now in
    ap (with_bytes c.add_eight-hash.result) (take_rest rest 8)
    ∙ ap (λ hash. with_bytes hash (drop 8 rest)) (c.add_eight-hash.ensures ∙ ap (with_eight c.loop-rest.hash) c.u64_at.ensures)
    ∙ sym (with_bytes_more c.loop-rest.hash rest c.loop-rest-test.true) ∙ c.loop-rest.invariant

pub returns : goal.returns
returns c = c.add_few.ensures ∙ sym (with_bytes_few c.loop-rest.hash c.loop-rest.rest.now c.loop-rest-test.false) ∙ c.loop-rest.invariant

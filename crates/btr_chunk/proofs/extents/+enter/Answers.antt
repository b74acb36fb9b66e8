use Rattle.std.proofs.Common.{rules, refl}
use Rattle.std.proofs.lemmas.Bool.{or_parts}
use Rattle.btr_chunk.proofs.Places.{AreFree-others, undone}
use Rattle.btr_chunk.specs.Extents.{extent_of}
use Rattle.btr_chunk.proofs.extents.+enter.Goals as goal

pub enter-entered-requires : goal.enter-entered-requires
enter-entered-requires t c =
    let whole = c.in-Some.ensures.cases.0 in
    let spread = rw whole at c.requires.spread in
    let free = rw whole at c.requires.free in (
      search rules,
      (
        AreFree-others c.args.length c.in-Some.first.now c.in-Some.others.now (extent_of c.args.extents.now) (extent_of c.insert.new.self)
            c.requires.some spread free c.in_ok-insert.ensures.updates.0,
        ((or_parts _ _ spread).1, c.requires.some),
      ),
    )

pub returns-then-is_err-clause-err : goal.returns-then-is_err-clause-err
returns-then-is_err-clause-err t c =
    let whole = c.in-Some.ensures.cases.0 in
    let free = rw whole at c.requires.free in
    undone c.enter-entered.result _ c.args.length (extent_of c.args.extents.now) (extent_of c.insert.new.self)
    (extent_of c.enter-entered.new.extents) (extent_of c.remove.new.self)
    (free 0 c.in-Some.first.now refl) c.in_ok-insert.ensures.updates.0 c.enter-entered.ensures.err c.remove.ensures.updates.0

use Rattle.std.proofs.Common.{inl, inr, map, refl, [], subst, sym}
use Rattle.std.specs.String.{string_bytes}
use Rattle.btr_run.specs.CommandLine.{AreTexts}
use Rattle.btr_run.proofs.starting.program.Goals as goal

pub returns-in-Ok : goal.returns-in-Ok
returns-in-Ok g c = (
  map string_bytes c.deref.result.now,
  c.run.result,
  record {
    status_is = c.code.ensures;
    how = inl (
      subst (λ words. AreTexts (g.W.CommandLine.told c.args.line.now) (map string_bytes words)) (sym c.deref.ensures.value) c.in-Ok.ensures,
      record {
        answered = c.run.ensures.answered;
        effect = c.run.ensures.effect;
        headline = c.run.ensures.headline;
        part = c.run.ensures.part;
        images = c.run.ensures.images;
        trial = c.run.ensures.trial;
      },
    );
  },
)

pub returns-in-Err : goal.returns-in-Err
returns-in-Err g c = (
  [],
  c.finish.result,
  record { status_is = c.code-in-Err.ensures; how = inr (record { rack = refl; tree = refl; line = c.finish.ensures.put }) },
)

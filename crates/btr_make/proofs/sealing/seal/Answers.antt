use Rattle.std.proofs.Common.{◌∙◌, inl, inr, arith}
use Rattle.btr_make.proofs.Seals.{untouched_rewrites, shorter}
use Rattle.btr_make.proofs.sealing.seal.Goals as goal

pub returns-in_default : goal.returns-in_default
returns-in_default c =
    let r = c.in_ok-poke.ensures in
    (r.image, r.stood, inr (omega arith), untouched_rewrites _ _ _ _ r)

pub returns-in-None : goal.returns-in-None
returns-in-None c =
    let r = c.in_ok-poke.ensures in
    let u = untouched_rewrites _ _ _ _ r in
    (r.image, r.stood, inl (omega (arith, shorter _ r.image _ c.in-None.ensures.none (u.images _ ∙ r.stood), c.in-Some.ensures)), u)

use Rattle.std.proofs.Common.{IsNone, ap, refl, subst, sym, ◌∙◌}
use Rattle.btr_chunk.specs.declared.place.Part.TheVariants.{Slice}
use Rattle.btr_scrub.proofs.Common.{fails_at, fails_on}
use Rattle.btr_scrub.proofs.Doubting.{fails_slice, flags_as, flags_plain, own_part}
use Rattle.btr_scrub.proofs.doubts.flag_block.Goals as goal

pub flag_part-requires-clause-own : goal.flag_part-requires-clause-own
flag_part-requires-clause-own g c =
    own_part c.args.store.now.layout c.args.want.now (Slice c.slice_of.result) c.requires.sought
    (λ t e. (subst IsNone (c.in-None.ensures t e) refl, c.slice_of.ensures.below t e))

pub returns-in-None-clause-flags : goal.returns-in-None-clause-flags
returns-in-None-clause-flags g c =
    flags_as c.args.store.now.layout c.args.want.now (g.R.Rack.seen c.args.rack.now)
    (λ images t slot. fails_at images t slot (Slice c.slice_of.result)) (λ images t slot. fails_on images slot t)
    c.args.probe.now.failing.items c.flag_part.new.probe.failing.items c.flag_part.result
    (λ t images slot e. ap (λ i. fails_at images t slot (Slice i)) (c.slice_of.ensures.index t e) ∙ fails_slice images t slot (sym (c.in-None.ensures t e)))
    c.flag_part.ensures.flags

pub returns-then-is_plain-clause-flags : goal.returns-then-is_plain-clause-flags
returns-then-is_plain-clause-flags g c t e =
    flags_plain c.args.store.now.layout c.args.want.now t (g.R.Rack.seen c.args.rack.now).held c.args.probe.now.failing.items
    (sym c.is_plain.ensures ∙ c.if-is_plain.true) e

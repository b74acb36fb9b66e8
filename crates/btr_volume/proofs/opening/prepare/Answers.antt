use Rattle.std.proofs.Common.{◌∙◌, sym, ap, subst, map, length, get_or, arith, List}
use Rattle.btr_rack.specs.Rack.{Slot, Seen}
use Rattle.btr_super.specs.Newest.{newest_index}
use Rattle.btr_super.specs.declared.superblock.Super.{Super}
use Rattle.btr_volume.specs.Opening.{BeginsVolume}
use Rattle.btr_volume.proofs.Opened.{newest_at, prepared}
use Rattle.btr_volume.proofs.opening.prepare.Goals as goal

pub begin-requires-clause-newest : goal.begin-requires-clause-newest
begin-requires-clause-newest g c =
    newest_at c.deref-2.result.now c.choose.result c.index.result.now
    (ap newest_index (c.deref-2.ensures.value ∙ sym c.deref.ensures.value) ∙ c.choose.ensures.newest)
    (omega (arith, c.choose.ensures.bound, ap length c.deref.ensures.value, ap length c.deref-2.ensures.value))
    (c.index.ensures ∙ ap (λ (l : List Super). get_or l c.choose.result c.index.result.now) (sym c.deref-2.ensures.value))

pub returns-clause-content : goal.returns-clause-content
returns-clause-content g c =
    let old = g.R.Rack.seen c.args.rack.now in
    prepared old.slots c.in_ok-supers.supers.items old.held c.begin.result (g.met.R.Rack.sound c.args.rack.now).sized c.in_ok-supers.ensures.supers
    c.begin.ensures.early
    (subst (λ (l : List Slot). BeginsVolume c.in_ok-supers.supers.items (map (λ (s : Slot). s.len) l) c.begin.result)
    (ap (λ (s : Seen). s.slots) c.in_ok-supers.ensures.same)
    (subst (λ (l : List Super). BeginsVolume l (map (λ (s : Slot). s.len) (g.R.Rack.seen c.read_supers.new.rack).slots) c.begin.result)
    c.deref-2.ensures.value c.begin.ensures.content))

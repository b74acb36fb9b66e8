use Rattle.std.proofs.Common.{◌≡◌, Option, Ok, Err, refl, sym, subst, ap, ◌∙◌, arith}
use Rattle.btr_read.specs.Layout.{Layout}
use Rattle.btr_files.specs.declared.piece.Piece.{Piece as Lending}
use Rattle.btr_files.specs.declared.piece.Piece.TheVariants as lending
use Rattle.btr_files.specs.declared.streaming.Shown.{Shown}
use Rattle.btr_files.specs.Giving.{IsShown, LendsNext, NextStepsOn, shown_piece}
use Rattle.btr_files.specs.Maps.{TellsAll}
use Rattle.btr_files.specs.Streaming.{IsUnderway}
use Rattle.btr_files.specs.Sums.{kind_in}
use Rattle.btr_walk.specs.Reading.{HasCause, unread_by}
use Rattle.btr_walk.proofs.Walks.{held_is}
use Rattle.btr_files.proofs.Streamed.{NextWithSums, layout_is, served_back, streamed, streamed_err, streamed_none, nearer, gap_lent, span_lent, steps_on}
use Rattle.btr_files.proofs.Streamed.{none_back, none_live, some_back, some_live, span_shown}
use Rattle.btr_files.proofs.streaming.next_piece.Goals as goal

pub next_step-requires-clause-serves : goal.next_step-requires-clause-serves
next_step-requires-clause-serves g c = served_back (g.R.Rack.seen c.args.rack.now) c.args.vol.now.store c.give_back.new.store c.take-loan.result
    c.give_back.ensures c.requires.ready.serves

pub returns-in-Gap : goal.returns-in-Gap
returns-in-Gap g c =
    let a = g.R.Rack.seen c.args.rack.now in
    let b = g.R.Rack.seen c.next_step.new.rack in
    let file = c.args.file.now in
    let mid = c.give_back.new.store in
    let new = c.next_step.new.vol in
    let given = c.in-Ok-Some.shown in
    let s = c.in-Ok-Some.ensures in
    let p' = c.next_step.new.progress in
    let on = steps_on mid new.store given c.in-Ok-Some.field-0 c.in-Ok-Some.field-0-is file.source file.progress p' s.on in
    let told = subst (λ (o : Option Shown). TellsAll mid.layout a b (λ Bs. NextWithSums (kind_in c.args.vol.now.sup) file.source
    (unread_by mid.layout a b) Bs file.progress p' new.store file.ahead c.next_step.new.ahead (Ok o))) c.in-Ok-Some.field-0-is s.content in (
      (
        refl,
        λ x. tt,
        streamed c.args.vol.now new mid file c.take-loan.result c.take-loan.ensures.value c.give_back.ensures a b c.next_step.new.ahead p' given
            c.take-loan.new.self (lending.Gap c.in-Gap.count) (ap (shown_piece new.store) c.in-Gap.is) s.sup
            (none_back mid new.store c.take-loan.new.self c.take-loan.ensures.after
            (gap_lent mid new.store given c.in-Ok-Some.field-0 c.in-Ok-Some.field-0-is c.in-Gap.count c.in-Gap.is s.lent))
            (none_live new.store c.take-loan.new.self c.take-loan.ensures.after) s.serves on told,
      ),
      record {
        after = tt;
        reads = s.reads;
        same = refl {a = file.source};
        rank_falls = nearer file p' given on;
        some = subst IsShown c.in-Gap.is on.shown;
        cause = tt;
      },
    )

pub returns-in-Some : goal.returns-in-Some
returns-in-Some g c =
    let a = g.R.Rack.seen c.args.rack.now in
    let b = g.R.Rack.seen c.next_step.new.rack in
    let file = c.args.file.now in
    let mid = c.give_back.new.store in
    let new = c.next_step.new.vol in
    let given = c.in-Ok-Some.shown in
    let loan = c.in-Bytes.loan in
    let s = c.in-Ok-Some.ensures in
    let p' = c.next_step.new.progress in
    let on = steps_on mid new.store given c.in-Ok-Some.field-0 c.in-Ok-Some.field-0-is file.source file.progress p' s.on in
    let lent = span_lent mid new.store given c.in-Ok-Some.field-0 c.in-Ok-Some.field-0-is loan c.in-Bytes.span c.in-Bytes.is s.lent in
    let held = held_is c.keep.new.place c.in-Some.held loan c.in-Some.is c.keep.ensures in
    let told = subst (λ (o : Option Shown). TellsAll mid.layout a b (λ Bs. NextWithSums (kind_in c.args.vol.now.sup) file.source
    (unread_by mid.layout a b) Bs file.progress p' new.store file.ahead c.next_step.new.ahead (Ok o))) c.in-Ok-Some.field-0-is s.content in (
      (
        refl,
        λ x. tt,
        streamed c.args.vol.now new mid file c.take-loan.result c.take-loan.ensures.value c.give_back.ensures a b c.next_step.new.ahead p' given
            c.keep.new.place c.piece_in.result (ap (shown_piece new.store) c.in-Bytes.is
            ∙ span_shown new.store loan c.in-Some.held c.in-Bytes.span c.bytes.result.now _ held c.bytes.ensures.value c.piece_in.ensures.piece) s.sup
            (some_back mid new.store c.keep.new.place loan c.keep.ensures lent.others)
            (some_live new.store c.keep.new.place loan c.keep.ensures lent.live) s.serves on told,
      ),
      record {
        after = tt;
        reads = s.reads;
        same = refl {a = file.source};
        rank_falls = nearer file p' given on;
        some = c.piece_in.ensures.some;
        cause = tt;
      },
    )

pub returns-in-Err : goal.returns-in-Err
returns-in-Err g c =
    let a = g.R.Rack.seen c.args.rack.now in
    let b = g.R.Rack.seen c.next_step.new.rack in
    let s = c.in-Err.ensures in (
      (
        refl,
        λ x. tt,
        streamed_err c.args.vol.now c.next_step.new.vol c.give_back.new.store c.args.file.now c.take-loan.result c.take-loan.ensures.value
            c.give_back.ensures a b c.next_step.new.ahead c.new-file.result c.next_step.new.progress c.take-loan.new.self c.in-Err.fault
            c.take-loan.ensures.after s.sup s.lent s.serves (subst (IsUnderway c.args.file.now.source) (sym s.on) c.requires.ready.underway) s.content,
      ),
      record {
        after = tt;
        reads = s.reads;
        same = refl {a = c.args.file.now.source};
        rank_falls = s.on;
        some = tt;
        cause = subst (λ (l : Layout). HasCause {A = Option Lending} l a b (Err c.in-Err.fault))
            (layout_is c.args.vol.now c.next_step.new.vol c.give_back.new.store c.args.file.now c.take-loan.result c.take-loan.ensures.value
            c.give_back.ensures a b) s.cause;
      },
    )

pub returns-in-Ok-None : goal.returns-in-Ok-None
returns-in-Ok-None g c =
    let a = g.R.Rack.seen c.args.rack.now in
    let b = g.R.Rack.seen c.next_step.new.rack in
    let file = c.args.file.now in
    let s = c.in-Ok-None.ensures in
    let p' = c.next_step.new.progress in
    let on : IsUnderway file.source p' × (p'.at ≡ file.source.size) = subst (λ o. NextStepsOn file.source file.progress p'
    (Ok o)) c.in-Ok-None.field-0-is s.on in
    let full : p'.at ≡ file.source.size = on.1 in (
      (
        refl,
        λ x. tt,
        streamed_none c.args.vol.now c.next_step.new.vol c.give_back.new.store file c.take-loan.result c.take-loan.ensures.value c.give_back.ensures a
            b c.next_step.new.ahead p' c.take-loan.new.self
            c.take-loan.ensures.after s.sup (subst (λ o. LendsNext c.give_back.new.store c.next_step.new.vol.store (Ok o)) c.in-Ok-None.field-0-is
            s.lent) s.serves on.0
            (subst (λ (o : Option Shown). TellsAll c.give_back.new.store.layout a b
            (λ Bs. NextWithSums (kind_in c.args.vol.now.sup) file.source (unread_by c.give_back.new.store.layout a b) Bs file.progress p'
            c.next_step.new.vol.store file.ahead c.next_step.new.ahead (Ok o))) c.in-Ok-None.field-0-is s.content),
      ),
      record {
        after = tt;
        reads = s.reads;
        same = refl {a = file.source};
        rank_falls = omega (arith, full);
        some = tt;
        cause = tt;
      },
    )

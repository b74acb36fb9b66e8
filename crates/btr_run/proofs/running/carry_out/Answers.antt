use Rattle.std.proofs.Common.{◌≡◌, ◌∙◌, ℕ, ◌<◌, ◌-◌, List, String, length, map, take, drop, subst, arith, ap, false, Err}
use Rattle.std.specs.List.{All}
use Rattle.std.specs.String.{string_bytes}
use Rattle.std.specs.declared.alloc.Global.{Global}
use Rattle.std.proofs.lemmas.List.{length-map}
use Rattle.btr_rack.specs.Rack.{Slot}
use Rattle.btr_rack.specs.Sink.{is_in_file}
use Rattle.btr_run.specs.Answers.{answer_of}
use Rattle.btr_run.specs.Images.{AreOpenedAs}
use Rattle.btr_run.specs.Run.{eyes}
use Rattle.btr_run.specs.Opening.{OpeningCause, opening_answer}
use Rattle.btr_run.proofs.Carrying.{names_are}
use Rattle.btr_run.proofs.Coming.{answer_gives}
use Rattle.btr_run.proofs.Named.{is_fit}
use Rattle.btr_run.proofs.Obeyed as obeyed
use Rattle.btr_run.proofs.Openings.{unopened}
use Rattle.btr_run.proofs.running.carry_out.Goals as goal

as_many : (xs : List (String Global)) (k n : ℕ) → n < length (map string_bytes (take (length xs - k) (drop k xs)))
    → n < length (take (length xs - k) (drop k xs))
as_many xs k n lt = omega (arith, length-map (take (length xs - k) (drop k xs)) string_bytes)

pub returns-in-Err-clause-obeyed : goal.returns-in-Err-clause-obeyed
returns-in-Err-clause-obeyed g c =
    obeyed.usage _ _ _ (g.met.T.TreeSink.settled c.args.tree.now (ap is_in_file c.requires.fresh)) c.in-Err.at c.in-Err.ensures.usage
    (unopened false (g.R.Rack.seen c.args.rack.now).shelf (g.R.Rack.seen c.args.rack.now).held (g.R.Rack.seen c.args.rack.now).slots
    (g.met.R.Rack.sound c.args.rack.now).sized c.requires.closed)

pub returns-in_err-open_images-clause-obeyed : goal.returns-in_err-open_images-clause-obeyed
returns-in_err-open_images-clause-obeyed g c =
    let old = g.R.Rack.seen c.args.rack.now in
    let new = g.R.Rack.seen c.open_images.new.rack in
    let names = map string_bytes (take (length c.args.words.now - c.in-Ok.plan.images) (drop c.in-Ok.plan.images c.args.words.now)) in
    obeyed.unopened _ _ _ (g.met.T.TreeSink.settled c.args.tree.now (ap is_in_file c.requires.fresh)) names c.in-Ok.plan c.in-Ok.ensures.sentence
    (names_are c.args.words.now c.in-Ok.plan.images) c.open_images.new.rack c.in_err-open_images.field-0.0 c.in_err-open_images.ensures.limit
    (subst (λ write. OpeningCause write names old new (Err c.in_err-open_images.field-0.0)) c.writes.ensures c.in_err-open_images.ensures.cause)
    (λ many. c.in_err-open_images.ensures.early (as_many c.args.words.now c.in-Ok.plan.images 64 many)) c.in_err-open_images.ensures.sure
    (subst (λ write. AreOpenedAs write old.shelf new.slots new.held) c.writes.ensures c.in_err-open_images.ensures.opened)
    c.in_err-open_images.ensures.unsynced c.in_err-open_images.ensures.never_synced _
    (answer_gives c.from_residual.result (opening_answer c.in_err-open_images.field-0.0) c.from_residual.ensures.1)

pub perform-requires-clause-fit : goal.perform-requires-clause-fit
perform-requires-clause-fit g c = is_fit c.in-Ok.plan (map string_bytes c.args.words.now) c.in-Ok.ensures.sentence

pub perform-requires-clause-writable : goal.perform-requires-clause-writable
perform-requires-clause-writable g c = λ asked.
    let slots = (g.R.Rack.seen c.open_images.new.rack).slots in
    subst (λ b. All (λ (s : Slot). s.write ≡ b) slots) (c.writes.ensures ∙ asked) c.in_ok-open_images.ensures.opened.0

pub returns-clause-obeyed : goal.returns-clause-obeyed
returns-clause-obeyed g c =
    let old = g.R.Rack.seen c.args.rack.now in
    let mid = g.R.Rack.seen c.open_images.new.rack in
    obeyed.performed _ _ _ (g.met.T.TreeSink.settled c.args.tree.now (ap is_in_file c.requires.fresh)) _ c.in-Ok.plan c.in-Ok.ensures.sentence
    (names_are c.args.words.now c.in-Ok.plan.images) c.open_images.new.rack c.perform.new.rack c.perform.new.tree c.perform.new.out _
    c.in_ok-open_images.ensures.limit
    (record {
      images = c.in_ok-open_images.ensures.images;
      account = c.in_ok-open_images.ensures.cause;
      sure = c.in_ok-open_images.ensures.kept;
      unsynced = c.in_ok-open_images.ensures.unsynced;
      never_synced = c.in_ok-open_images.ensures.never_synced;
    })
    (subst (λ write. AreOpenedAs write old.shelf mid.slots mid.held) c.writes.ensures c.in_ok-open_images.ensures.opened) c.perform.ensures

pub returns-in-Err-clause-tried : goal.returns-in-Err-clause-tried
returns-in-Err-clause-tried g c number asks = absurd (c.in-Err.ensures.usage.no_sentence asks.plan asks.sentence)

pub returns-in-SelfTest-clause-obeyed : goal.returns-in-SelfTest-clause-obeyed
returns-in-SelfTest-clause-obeyed g c =
    obeyed.tried _ _ _ (g.met.T.TreeSink.settled c.args.tree.now (ap is_in_file c.requires.fresh)) c.in-Ok.plan c.in-Ok.ensures.sentence c.in-SelfTest.number
    c.in-SelfTest.is (g.M.Maker.volume c.args.maker) c.try_volume.new.out _
    (c.try_volume.ensures (g.T.TreeSink.sink c.args.tree.now) (g.T.TreeSink.account c.args.tree.now))
    (unopened false (g.R.Rack.seen c.args.rack.now).shelf (g.R.Rack.seen c.args.rack.now).held (g.R.Rack.seen c.args.rack.now).slots
    (g.met.R.Rack.sound c.args.rack.now).sized c.requires.closed)

pub returns-in-SelfTest-clause-tried : goal.returns-in-SelfTest-clause-tried
returns-in-SelfTest-clause-tried g c =
    obeyed.has_tried
    (eyes g.R.Rack.seen g.T.TreeSink.sink g.T.TreeSink.account g.T.TreeSink.waits g.O.Out.text g.O.Out.account)
    (map string_bytes c.args.words.now) (record { rack = c.args.rack.now; tree = c.args.tree.now; out = c.args.out.now })
    (g.met.T.TreeSink.settled c.args.tree.now (ap is_in_file c.requires.fresh)) c.in-Ok.plan c.in-Ok.ensures.sentence c.in-SelfTest.number
    c.in-SelfTest.is (g.M.Maker.volume c.args.maker) c.try_volume.new.out (answer_of c.try_volume.result)
    (c.try_volume.ensures (g.T.TreeSink.sink c.args.tree.now) (g.T.TreeSink.account c.args.tree.now))

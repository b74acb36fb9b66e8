-- What resolving an address comes to.
use Rattle.std.proofs.Common.{◌≡◌, inl, inr, ℕ, List, [], ◌∷◌, ◌++◌, map, fold, Option, Some, None, Result, Ok, Err, refl, sym, ap, ◌∙◌, subst}
use Rattle.std.specs.Option.{IfSome, option_to_list}
use Rattle.std.proofs.lemmas.List.{append-nil, map-append}
use Rattle.btr_listing.specs.Step.{Step, Line}
use Rattle.btr_listing.specs.Step as step
use Rattle.btr_prog.specs.Answers.{Breaks, Follows, Halt, Leaves, Fault as halt_fault, Unread as halt_unread, Broke, Names, no_part}
use Rattle.btr_prog.specs.Prog.{Mark, Wants, Does, Run, exec, steps_of, wants_of}
use Rattle.btr_rack.specs.Out.{Adds, CallAccount}
use Rattle.btr_rack.specs.Rack.{Seen, OnlyReads}
use Rattle.btr_rack.specs.Sink.{Sink}
use Rattle.btr_read.specs.Fate.{Agreed, Fault, fate}
use Rattle.btr_read.specs.Layout.{Layout}
use Rattle.btr_read.specs.declared.want.Want.{Want}
use Rattle.btr_resolve.specs.Resolving.{resolved}
use Rattle.btr_resolve.specs.Running as call
use Rattle.btr_restore.specs.Outcome.{text_of}
use Rattle.btr_restore.specs.Restoring.{RestoreStopCause, SinkCounts, OutCounts, sink_after}
use Rattle.btr_volume.specs.Stops.{ended}
use Rattle.btr_restore.specs.Running.{Outside, outside}
use Rattle.btr_volume.specs.Start.{Images}
use Rattle.btr_volume.specs.declared.stop.Stop.{Stop}
use Rattle.btr_volume.specs.declared.stop.Stop.TheVariants as stop
use Rattle.btr_volume.specs.declared.volume.Volume.{Volume}
use Rattle.btr_walk.specs.Reading.{Map, UnreadBlock, unread_by}
use Rattle.btr_run.specs.Behind.{IfSteady}
use Rattle.btr_run.specs.Filesystem.{OpensAs, OpensFilesystem, filesystem_in}
use Rattle.btr_run.specs.Listed.{BesideSinks, lined, line_mark, listed_by, stopped_answer}
use Rattle.btr_run.specs.Outcomes.{DidAndTold}
use Rattle.btr_run.specs.Queries.Resolved.{IsResolved, none_left_out, owners_run, resolve_row}
use Rattle.btr_run.specs.Rows.{IsRowDone, IsRowOrUnread, Row, row_outcome}
use Rattle.btr_run.specs.declared.answer.Answer.{Answer}
use Rattle.btr_run.specs.Faults.{stop_answer}
use Rattle.btr_run.specs.declared.answer.Answer.TheVariants.{Done}
use Rattle.btr_run.proofs.Coming.{answer_gives}
use Rattle.btr_run.proofs.Filesystems.{opened_layout}
use Rattle.btr_run.proofs.Listings as listings
use Rattle.btr_run.proofs.Rows.{row_opened, row_unopened}
use Rattle.btr_run.proofs.TreesShown.{steadily, told_agreed}
use Rattle.btr_run.proofs.query.resolving.show_owners.Goals as goal

-- lines as steps
abbrev put_lines : List (List ℕ) → List Step
put_lines lines = map (λ line. Line line) lines

-- they call no sink
lines_sink : (lines : List (List ℕ)) (s : Sink) → s ≡ fold sink_after s (put_lines lines)
lines_sink [] s = refl
lines_sink (line ∷ lines) s = lines_sink lines s

-- the text of such steps is their lines
lines_text : (lines : List (List ℕ)) → call.whole lines ≡ text_of (put_lines lines)
lines_text [] = refl
lines_text (line ∷ lines) = ap (λ l. line ++ l) (lines_text lines)

lines_stand : (lines : List (List ℕ)) (s : Sink) (c : CallAccount) (text text' : Option (List ℕ)) (calls calls' : CallAccount)
    → Adds text text' (call.whole lines)
    → DidAndTold (outside s c text calls) (outside s c text' calls') (put_lines lines) []
lines_stand lines s c text text' calls calls' adds =
    record { sink = lines_sink lines s; text = subst (Adds text text') (lines_text lines ∙ sym (append-nil (text_of (put_lines lines)))) adds }

-- ---- a run of lines

steps_lined : (ms : List (Mark Want (List ℕ))) → put_lines (steps_of ms) ≡ steps_of (map line_mark ms)
steps_lined [] = refl
steps_lined (Wants w ∷ ms) = steps_lined ms
steps_lined (Does line ∷ ms) = ap (λ l. Line line ∷ l) (steps_lined ms)

wants_lined : (ms : List (Mark Want (List ℕ))) → wants_of ms ≡ wants_of (map line_mark ms)
wants_lined [] = refl
wants_lined (Wants w ∷ ms) = ap (λ l. w ∷ l) (wants_lined ms)
wants_lined (Does line ∷ ms) = wants_lined ms

-- what is left of a line that is broken off
abbrev left_line : Option (List ℕ) → Option Step
left_line None = None
left_line (Some line) = Some (Line line)

left_lined : (before : List (List ℕ)) (left : Option (List ℕ)) → put_lines (before ++ option_to_list left) ≡ put_lines before ++ option_to_list (left_line left)
left_lined before None = map-append (λ line. Line line) before []
left_lined before (Some line) = map-append (λ line. Line line) before (line ∷ [])

part_leaves : (left : Option (List ℕ)) (ms : List (Mark Want (List ℕ))) → Leaves call.part left ms → Leaves step.part (left_line left) (map line_mark ms)
part_leaves None ms leaves = tt
part_leaves (Some line) [] leaves = leaves
part_leaves (Some line) (Wants w ∷ ms) leaves = leaves
part_leaves (Some line) (Does whole ∷ ms) leaves = (leaves.0, ap left_line leaves.1)

none_leaves : (left : Option (List ℕ)) (ms : List (Mark Want (List ℕ))) → Leaves no_part left ms → Leaves no_part (left_line left) (map line_mark ms)
none_leaves None ms leaves = tt
none_leaves (Some line) [] leaves = leaves
none_leaves (Some line) (Wants w ∷ ms) leaves = leaves
none_leaves (Some line) (Does whole ∷ ms) leaves = (leaves.0, ap left_line leaves.1)

module _ {A : Type 0} (Is : UnreadBlock → Want → Type 0) (r : Run Want Fault (List ℕ) A) (done : List (List ℕ)) where
  breaks_lined : (part : List ℕ → ℕ → Option (List ℕ)) (part' : Step → ℕ → Option Step) (P : List Want → Type 0)
      → ((left : Option (List ℕ)) (ms : List (Mark Want (List ℕ))) → Leaves part left ms → Leaves part' (left_line left) (map line_mark ms))
      → Breaks part P r done → Breaks part' P (lined r) (put_lines done)
  breaks_lined part part' P leaves b = record {
    before = map line_mark b.before;
    behind = map line_mark b.behind;
    left = left_line b.left;
    place = ap (map line_mark) b.place ∙ map-append line_mark b.before b.behind;
    steps = ap put_lines b.steps ∙ left_lined (steps_of b.before) b.left ∙ ap (λ l. l ++ option_to_list (left_line b.left)) (steps_lined b.before);
    leaves = leaves b.left b.behind b.leaves;
    holds = subst P (wants_lined b.before) b.holds;
  }

  -- what follows a run follows it so, its lines being steps
  follows_lined : (answer : Result A (Halt Fault UnreadBlock)) → Follows Is call.part [] r done answer
      → Follows Is step.part [] (lined r) (put_lines done) answer
  follows_lined (Ok a) f = (ap put_lines f.0 ∙ steps_lined r.marks, f.1)
  follows_lined (Err (halt_fault x)) f = (ap put_lines f.0 ∙ steps_lined r.marks, f.1)
  follows_lined (Err (halt_unread u)) f = breaks_lined no_part no_part (λ ws. Names Is u ([] ++ ws)) none_leaves f
  follows_lined (Err Broke) f = breaks_lined call.part step.part (λ ws. Unit {0}) part_leaves f

-- ---- the call

-- its causes and counts, in the words of a listing
module _ (layout : Layout) (old new : Seen) where
  cause_is : (e : Result ℕ Stop) → call.ResolveStopCause layout old new e → RestoreStopCause layout old new e
  cause_is (Ok n) cause = tt
  cause_is (Err (stop.NoTree id)) cause = absurd cause
  cause_is (Err stop.Sink) cause = absurd cause
  cause_is (Err stop.Out) cause = tt
  cause_is (Err stop.Memory) cause = tt
  cause_is (Err other) cause = cause

  no_sink : (c : CallAccount) (e : Result ℕ Stop) → call.ResolveStopCause layout old new e → SinkCounts c c e
  no_sink c (Err stop.Sink) cause = absurd cause
  no_sink c e cause = refl

  counts_are : (calls calls' : CallAccount) (e : Result ℕ Stop) → call.ResolveStopCause layout old new e → call.StopCounts calls calls' e
      → OutCounts calls calls' e
  counts_are calls calls' (Err stop.Sink) cause counts = absurd cause
  counts_are calls calls' e cause counts = counts

  no_tree : (id : ℕ) (e : Result ℕ Stop) → e ≡ Err (stop.NoTree id) → call.ResolveStopCause layout old new e → ⊥
  no_tree id e is cause = subst (call.ResolveStopCause layout old new) is cause

-- The filesystem is open, and the address was resolved.
module _ (addr : ℕ) (old mid new : Seen) (first : OnlyReads old mid) (volume after : Volume) (text text' : Option (List ℕ)) (calls calls' : CallAccount)
    (answer : Answer) (result : Result ℕ Stop)
    (is : answer ≡ stopped_answer none_left_out result)
    (ran : call.Ran (resolved volume.sup volume.store.layout.chunks addr) (call.world mid volume text calls) (call.world new after text' calls') result) where
  abbrev layout : Layout
  layout = volume.store.layout

  abbrev run : Images → Run Want Fault Step ℕ
  run images = owners_run addr images (filesystem_in volume)

  abbrev done : List Step
  done = put_lines ran.lines

  abbrev x : Sink → CallAccount → Outside
  x s c = outside s c text calls

  abbrev y : Sink → CallAccount → Outside
  y s c = outside s c text' calls'

  did : (s : Sink) (c : CallAccount) → DidAndTold (x s c) (y s c) done []
  did s c = lines_stand ran.lines s c text text' calls calls' ran.adds

  follows : (B : Map) → Follows (unread_by layout mid new) call.part [] (exec B (resolved volume.sup layout.chunks addr)) ran.lines (ended result)
      → Follows (unread_by layout mid new) step.part [] (lined (exec B (resolved volume.sup layout.chunks addr))) done (ended result)
  follows B f =
      follows_lined (unread_by layout mid new) (exec B (resolved volume.sup layout.chunks addr)) ran.lines (ended result) f

  abbrev IsFollowed : Map → Type 0
  IsFollowed B = Follows (unread_by layout mid new) call.part [] (exec B (resolved volume.sup layout.chunks addr)) ran.lines (ended result)

  abbrev row : Row
  row = resolve_row addr

  -- what was told where no read failed
  steady_run : (held : Option Images) → IfSteady held mid.account new.account (λ images. IsFollowed (fate images layout))
      → IfSteady held mid.account new.account (λ images. Follows (unread_by layout mid new) step.part [] (run images) done (ended result))
  steady_run None f = tt
  steady_run (Some images) f = λ steady. follows (fate images layout) (f steady)

  -- where the images agree
  agreed_run : (held : Option Images) → IfSome held (λ images. Agreed images layout → IsFollowed (fate images layout))
      → IfSome held (λ images. Agreed images layout → (r : Run Want Fault Step ℕ) × (run images ≡ r)
      × Follows (unread_by layout mid new) step.part [] r done (ended result))
  agreed_run None f = tt
  agreed_run (Some images) f = λ agreed. (run images, refl, follows (fate images layout) (f agreed))

  resolved_done : IfSteady old.held old.account mid.account (λ images. OpensFilesystem images (Ok volume))
      → IfSome old.held (λ images. OpensAs images old mid (Ok volume))
      → BesideSinks text calls text' calls' (λ a b. IsRowDone row old new a b answer)
  resolved_done content opened s c = record {
    effect = listings.listed_effect none_left_out layout mid new (x s c) (y s c) done (did s c) result (cause_is layout mid new result ran.cause)
        (no_sink layout mid new c result ran.cause) (counts_are layout mid new calls calls' result ran.cause ran.calls) old first ran.reads volume refl answer
        is
        run (row_outcome row) (λ images o. row_opened row images (filesystem_in volume) o)
        (steady_run mid.held (steadily layout mid new IsFollowed ran.content)) content;
    agreed = listings.listed_agreed none_left_out layout mid new (x s c) (y s c) done (did s c) result (cause_is layout mid new result ran.cause)
        (no_sink layout mid new c result ran.cause) (counts_are layout mid new calls calls' result ran.cause ran.calls) old first ran.reads volume refl answer
        is
        (λ images r. run images ≡ r) (IsRowOrUnread row)
        (λ images o r same. inl (row_opened row images (filesystem_in volume) o ∙ ap (listed_by none_left_out) same))
        (λ images o r same u upto rest place named. inr (inl (
          filesystem_in volume,
          o,
          listings.lists_up_to layout mid new (run images) u upto rest (ap (λ (q : Run Want Fault Step ℕ). q.marks) same ∙ place) named,
        )))
        (agreed_run mid.held (told_agreed layout mid new IsFollowed ran.content)) opened;
    told = listings.listed_told none_left_out layout mid new (x s c) (y s c) done (did s c) result (cause_is layout mid new result ran.cause)
        (no_sink layout mid new c result ran.cause) (counts_are layout mid new calls calls' result ran.cause ran.calls) old first ran.reads volume refl answer
        is
        IsResolved (λ n. record { lines = ran.lines; are = refl; ends = inl refl }) (λ f. record { lines = ran.lines; are = refl; ends = inr (f, refl) })
        (λ id none. absurd (no_tree layout mid new id result none ran.cause));
    cause = listings.listed_behind none_left_out layout mid new (x s c) (y s c) done (did s c) result (cause_is layout mid new result ran.cause)
        (no_sink layout mid new c result ran.cause) (counts_are layout mid new calls calls' result ran.cause ran.calls) old first ran.reads volume refl answer
        is
        (opened_layout old mid new volume first ran.reads opened);
  }

pub returns-in_err-volume : goal.returns-in_err-volume
returns-in_err-volume g c s calls =
    let e = c.in_err-volume.ensures in
    row_unopened (resolve_row c.args.addr) (g.R.Rack.seen c.args.rack.now) (g.R.Rack.seen c.open_filesystem.new.rack) _ c.in_err-volume.field-0.0 _
    (answer_gives c.from_residual.result c.in_err-volume.field-0.0 c.from_residual.ensures.1) e.refusal e.content e.opened e.reads e.image e.tree e.hidden
    e.counted

pub returns-in_err-resolve : goal.returns-in_err-resolve
returns-in_err-resolve g c s calls =
    resolved_done c.args.addr (g.R.Rack.seen c.args.rack.now) (g.R.Rack.seen c.open_filesystem.new.rack) (g.R.Rack.seen c.resolve.new.rack)
    c.in_ok-volume.ensures.reads c.in_ok-volume.volume c.resolve.new.vol (g.O.Out.text c.args.out.now) (g.O.Out.text c.resolve.new.out)
    (g.O.Out.account c.args.out.now)
    (g.O.Out.account c.resolve.new.out) _
    (Err c.in_err-resolve.field-0.0)
    (answer_gives c.from_residual-in_err-resolve.result (stop_answer c.in_err-resolve.field-0.0) c.from_residual-in_err-resolve.ensures.1)
    c.in_err-resolve.ensures c.in_ok-volume.ensures.content c.in_ok-volume.ensures.opened s calls

pub returns : goal.returns
returns g c s calls =
    resolved_done c.args.addr (g.R.Rack.seen c.args.rack.now) (g.R.Rack.seen c.open_filesystem.new.rack) (g.R.Rack.seen c.resolve.new.rack)
    c.in_ok-volume.ensures.reads c.in_ok-volume.volume c.resolve.new.vol (g.O.Out.text c.args.out.now) (g.O.Out.text c.resolve.new.out)
    (g.O.Out.account c.args.out.now)
    (g.O.Out.account c.resolve.new.out) (Done 0)
    (Ok c.in_ok-resolve.field-0) refl c.in_ok-resolve.ensures c.in_ok-volume.ensures.content c.in_ok-volume.ensures.opened s calls

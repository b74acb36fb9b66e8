-- What a row of the table comes to: where the filesystem isn't opened, and where a call did what some run of its program says, whatever failed.
use Rattle.std.proofs.Common.{◌≡◌, ◌≢◌, ◌⊎◌, inl, inr, ⊎_elim, ℕ, List, [], Option, Some, None, Result, Ok, Err, refl, ap, ◌∙◌, sym, subst, arith}
use Rattle.std.specs.Option.{IfSome}
use Rattle.btr_listing.specs.Step.{Step, part}
use Rattle.btr_prog.specs.Answers.{Follows}
use Rattle.btr_prog.specs.Calls.{Any, First}
use Rattle.btr_prog.specs.Goes.{GoesTo}
use Rattle.btr_prog.specs.Prog.{Run, exec, needs}
use Rattle.btr_prog.proofs.Choices.{goes_one}
use Rattle.btr_rack.specs.Rack.{NoneFailed, OnlyReads, Seen, Steady}
use Rattle.btr_read.specs.Fate.{Agreed, Fault, choices, fate}
use Rattle.btr_read.specs.Layout.{Layout}
use Rattle.btr_read.specs.declared.want.Want.{Want}
use Rattle.btr_restore.specs.Restoring.{Did, OutCounts, SinkCounts, RestoreStopCause}
use Rattle.btr_volume.specs.Stops.{ended}
use Rattle.btr_restore.specs.Running.{Outside, Ran, scene_of, world}
use Rattle.btr_volume.specs.Lookup.{Program}
use Rattle.btr_volume.specs.Opening.{SuperUnread}
use Rattle.btr_volume.specs.Start.{Images}
use Rattle.btr_volume.specs.declared.stop.Stop.{Stop}
use Rattle.btr_volume.specs.declared.volume.Volume.{Volume}
use Rattle.btr_volume.specs.declared.which.Which.TheVariants.{Images as images_limit}
use Rattle.btr_walk.specs.Reading.{Map, UnreadBlock, unread_by}
use Rattle.btr_run.specs.Behind.{AnyFault, HasTreeCause, IfSteady, IsFault}
use Rattle.btr_run.specs.Filesystem.{Filesystem, IsRefusal, MayMend, OpensAs, OpensFilesystem, filesystem_in, filesystem_of}
use Rattle.btr_run.specs.Listed.{stopped_answer}
use Rattle.btr_run.specs.Outcomes.{DidAndTold, refused}
use Rattle.btr_run.specs.Rows.{IsRestored, IsRowDone, IsRowOrUnread, Row, listing_row, program_row, row_in, row_outcome}
use Rattle.btr_run.specs.Unopened.{IsOrUnopened}
use Rattle.btr_run.specs.declared.answer.Answer.{Answer}
use Rattle.btr_run.specs.declared.answer.Answer.TheVariants.{ImageFault, Limit}
use Rattle.btr_run.proofs.Agreements.{unopened_comes}
use Rattle.btr_run.proofs.Coming.{comes_also}
use Rattle.btr_read.proofs.Fetched.{map_some}
use Rattle.btr_run.proofs.Filesystems.{opened_layout}
use Rattle.btr_run.proofs.Listings as listings
use Rattle.btr_run.proofs.Orders.{did_stand}
use Rattle.btr_run.proofs.TreesShown.{told_where, unopened_behind}
use Rattle.btr_trial.proofs.Listings.{one_map}

-- what a row comes to, by the filesystem
pub row_by : (row : Row) (images : Images) → row_outcome row images ≡ row_in row images (filesystem_of images)
unfolding row_outcome
row_by row images = refl

-- over a filesystem
pub row_opened : (row : Row) (images : Images) (fs : Filesystem) → filesystem_of images ≡ Ok fs → row_outcome row images ≡ row.whole images fs
row_opened row images fs opened = row_by row images ∙ ap (row_in row images) opened

-- where there is none
pub row_refused : (row : Row) (images : Images) (a : Answer) → filesystem_of images ≡ Err a → row_outcome row images ≡ refused a
row_refused row images a none = row_by row images ∙ ap (row_in row images) none

-- the filesystem isn't opened
pub row_unopened : (row : Row) (old new : Seen) (x : Outside) (answer result : Answer) → result ≡ answer → IsRefusal answer
    → IfSteady old.held old.account new.account (λ images. OpensFilesystem images (Err answer))
    → IfSome old.held (λ images. OpensAs images old new (Err answer))
    → OnlyReads old new → ((slot : ℕ) → answer ≡ ImageFault slot → SuperUnread old new slot) → HasTreeCause old new answer
    → NoneFailed old.account new.account ⊎ IsFault answer ⊎ MayMend answer → ((n : ℕ) → answer ≢ Limit images_limit n)
    → IsRowDone row old new x x result
row_unopened row old new x answer result is refusal content opened reads image tree hidden counted = record {
  effect = listings.unopened_effect (row.MayWant x.out_calls) answer result is refusal (row_outcome row) (row_refused row) old.account new.account old.held x
      content;
  agreed = map_some old.held _ _ (λ images comes agreed.
      comes_also (row.MayWant x.out_calls) (row.MayWant x.out_calls) (IsOrUnopened images (row_outcome row images)) (IsRowOrUnread row images) x x result
      (λ u. u)
      (λ outcome o. ⊎_elim (λ is. inl is) (λ unread. inr (inr unread)) o) (comes agreed))
      (unopened_comes (row_outcome row) (row_refused row) (row.MayWant x.out_calls) old new answer result is x opened);
  told = listings.unopened_told (row.MayWant x.out_calls) answer result is refusal row.MayBe x;
  cause = unopened_behind answer result is refusal AnyFault old new reads image tree hidden counted;
}

-- a program has one run by one map
pub one_run : {A : Type 0} (p : Program Step A) (B : Map) (r : Run Want Fault Step A) → GoesTo (λ (n : ℕ). B) p r → r ≡ exec B p
one_run p B r goes = goes_one (λ (n : ℕ). B) B p r (one_map B (needs B p)) goes

-- what was done and answered follows some run, by what its wants may come to
abbrev pub Follows_by : {A : Type 0} → ((ℕ → Map) → Run Want Fault Step A → Type 0) → Result A Stop → (UnreadBlock → Want → Type 0) → (ℕ → Map) → List Step
    → Type 0
Follows_by {A} IsRun result Is Bs done = (r : Run Want Fault Step A) × IsRun Bs r × Follows Is part [] r done (ended result)

-- The filesystem is open, and a call was made over it, whose run is some run of the row.
module _ {A : Type 0} (CallsSink : Type 0) (left_out : A → ℕ) (run_by : Filesystem → Map → Run Want Fault Step A)
    (IsRun : Filesystem → (ℕ → Map) → Run Want Fault Step A → Type 0)
    (one : (fs : Filesystem) (B : Map) (r : Run Want Fault Step A) → IsRun fs (λ n. B) r → r ≡ run_by fs B)
    (old mid new : Seen) (first : OnlyReads old mid) (volume after : Volume) (x y : Outside) (answer : Answer) (result : Result A Stop)
    (is : answer ≡ stopped_answer left_out result) (reads : OnlyReads mid new)
    (did : Did volume.store.layout (scene_of (world mid volume x)) (scene_of (world new after y)) (Follows_by (IsRun (filesystem_in volume)) result))
    (cause : RestoreStopCause volume.store.layout mid new result) (sink_calls : SinkCounts x.sink_calls y.sink_calls result)
    (out_calls : OutCounts x.out_calls y.out_calls result) where
  abbrev layout : Layout
  layout = volume.store.layout

  -- the block of a want could not be read in these calls
  abbrev Is : UnreadBlock → Want → Type 0
  Is = unread_by layout mid new

  abbrev fs : Filesystem
  fs = filesystem_in volume

  -- the row of such a listing
  abbrev row : Row
  row = listing_row CallsSink left_out run_by IsRun

  -- its run over the images
  abbrev run : Images → Run Want Fault Step A
  run images = run_by fs (fate images layout)

  -- the steps that the call did stand in the sink and in the output
  stands : DidAndTold x y did.done []
  stands = did_stand layout mid new volume after x y did

  -- what was done by the block map of the images follows the row's run over them
  by_run : (images : Images) → Follows_by (IsRun fs) result Is (λ n. fate images layout) did.done → Follows Is part [] (run images) did.done (ended result)
  by_run images goes = subst (λ (r : Run Want Fault Step A). Follows Is part [] r did.done (ended result)) (one fs (fate images layout) goes.0 goes.1) goes.2

  -- where no read failed
  steadily : IfSteady mid.held mid.account new.account (λ images. Follows Is part [] (run images) did.done (ended result))
  steadily =
      told_where mid.held (Steady mid.account.faults new.account.faults) (λ images. Follows Is part [] (run images) did.done (ended result))
      (λ steady.
      map_some mid.held (λ images. Follows_by (IsRun fs) result Is (λ n. fate images layout) did.done)
      (λ images. Follows Is part [] (run images) did.done (ended result))
      (λ images goes. by_run images goes) (did.content.calls.content First (omega (arith, did.content.calls.later, steady.0), steady.1)))

  -- what is told where the images agree
  abbrev IsChosen : Images → Run Want Fault Step A → Type 0
  IsChosen images r = IsRun fs (λ n. choices images n layout) r

  -- where the images agree, what was done follows one of their runs
  chosen : IfSome mid.held (λ images. Agreed images layout → (r : Run Want Fault Step A) × IsChosen images r × Follows Is part [] r did.done (ended result))
  chosen = of mid.held refl
    where
      of : (held : Option Images) → mid.held ≡ held → IfSome held
          (λ images. Agreed images layout → (r : Run Want Fault Step A) × IsChosen images r × Follows Is part [] r did.done (ended result))
      of None told = tt
      of (Some images) told = λ agreed.
          subst (λ (o : Option Images). IfSome o (λ i. (r : Run Want Fault Step A) × IsChosen i r × Follows Is part [] r did.done (ended result))) told
          (did.content.calls.content Any (subst (λ (o : Option Images). IfSome o (λ i. Agreed i layout)) (sym told) agreed))

  -- the row was done
  pub row_done : IfSteady old.held old.account mid.account (λ images. OpensFilesystem images (Ok volume))
      → IfSome old.held (λ images. OpensAs images old mid (Ok volume)) → IsRowDone row old new x y answer
  row_done content opened = record {
    effect = listings.listed_effect left_out layout mid new x y did.done stands result cause sink_calls out_calls old first reads volume refl answer is
        run (row_outcome row) (λ images o. row_opened row images fs o) steadily content;
    agreed =
        listings.listed_agreed left_out layout mid new x y did.done stands result cause sink_calls out_calls old first reads volume refl answer is
        IsChosen (IsRowOrUnread row)
        (λ images o r goes. inr (inl (fs, o, record { run = r; is_run = goes; comes = inl refl })))
        (λ images o r goes u upto rest place named. inr (inl (
          fs,
          o,
          record {
            run = r;
            is_run = goes;
            comes = inr (listings.lists_up_to layout mid new r u upto rest place named);
          },
        ))) chosen opened;
    told = listings.listed_told left_out layout mid new x y did.done stands result cause sink_calls out_calls old first reads volume refl answer is
        IsRestored (λ a. inl (left_out a, refl)) (λ f. inr (inr (f, refl))) (λ id none. inr (inl (id, refl)));
    cause = listings.listed_behind left_out layout mid new x y did.done stands result cause sink_calls out_calls old first reads volume refl answer is
        (opened_layout old mid new volume first reads opened);
  }

-- a program was run
pub program_done : {A : Type 0} (CallsSink : Type 0) (left_out : A → ℕ) (program : Filesystem → Program Step A)
    (old mid new : Seen) (first : OnlyReads old mid) (volume after : Volume) (x y : Outside) (answer : Answer) (result : Result A Stop)
    → answer ≡ stopped_answer left_out result
    → Ran (program (filesystem_in volume)) (world mid volume x) (world new after y) result
    → IfSteady old.held old.account mid.account (λ images. OpensFilesystem images (Ok volume))
    → IfSome old.held (λ images. OpensAs images old mid (Ok volume))
    → IsRowDone (program_row CallsSink left_out program) old new x y answer
program_done CallsSink left_out program old mid new first volume after x y answer result is ran =
    row_done CallsSink left_out (λ fs B. exec B (program fs)) (λ fs Bs. GoesTo Bs (program fs)) (λ fs. one_run (program fs))
    old mid new first volume after x y answer result is ran.reads ran.did ran.cause ran.sink_calls ran.out_calls

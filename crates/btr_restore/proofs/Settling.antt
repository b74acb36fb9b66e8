-- A volume that is opened and then listed; and what comes of it where no read failed.
use Rattle.std.proofs.Common.{◌≡◌, ℕ, List, [], ◌∷◌, Result, Ok, Err, refl, sym, ap, ◌∙◌, subst}
use Rattle.btr_chunk.specs.declared.chunk.Chunk.{Chunk}
use Rattle.btr_files.specs.declared.counts.Counts.{Counts}
use Rattle.btr_files.specs.declared.plan.RestorePlan.{RestorePlan}
use Rattle.btr_prog.specs.Answers.{Halt, Follows as run_follows}
use Rattle.btr_prog.specs.Goes.{Goes}
use Rattle.btr_prog.specs.Prog.{BlockMap, Return, Run, bind, exec, needs, steps_of}
use Rattle.btr_prog.specs.Maps.{Each}
use Rattle.btr_prog.specs.Quiet.{quiet}
use Rattle.btr_prog.proofs.Choices.{goes_one, goes_halt, with_value, goes_value}
use Rattle.btr_prog.proofs.Follow.{follows_value}
use Rattle.btr_prog.proofs.Quieting.{goes_quiet}
use Rattle.btr_prog.proofs.TwoParts.{goes_staged, goes_staged_refused, goes_staged_halt}
use Rattle.btr_rack.specs.Rack.{Seen}
use Rattle.btr_read.specs.Fate.{Fault, fate}
use Rattle.btr_volume.specs.Lookup.{Program}
use Rattle.btr_volume.specs.declared.fault.OpenFault.{OpenFault}
use Rattle.btr_volume.specs.Maps.{Maps, VolumeWant, volume_map, array_layout}
use Rattle.btr_volume.specs.Start.{Start, layout_by}
use Rattle.btr_volume.specs.Table.{refusal_of, table_scan}
use Rattle.btr_walk.specs.Reading.{UnreadBlock, unread_by}
use Rattle.btr_restore.specs.Headline.{from_start, unless_diverged}
use Rattle.btr_restore.specs.InOrder.{unread_in, opened, OpenedThen, OpenRefused, OpenHalted, answer_by, SettledLaw}
use Rattle.btr_restore.specs.Journey.{listing, journey}
use Rattle.btr_restore.specs.Outcome.{Ending, outcome_by, outcome}
use Rattle.btr_listing.specs.Step.{Step, part}

-- by one map each want comes to the same at each choice
each_same : {W : Type 0} (B : BlockMap W Fault) (ws : List W) → Each (λ w. (n : ℕ) → B w ≡ B w) ws
each_same B [] = tt
each_same B (w ∷ ws) = ((λ n. refl), each_same B ws)

-- what follows a run, and ends as the images decide, has the outcome of that run
same_by : (r : Run VolumeWant Fault Step (Result Counts OpenFault)) (Is : UnreadBlock → VolumeWant → Type 0) (done : List Step) (ending : Ending)
    → run_follows Is part [] r done (answer_by ending) → outcome_by done ending ≡ outcome r
same_by r Is done (Ok value) follows = ap (λ ss. outcome_by ss (Ok value)) follows.0 ∙ ap (λ e. outcome_by (steps_of r.marks) e) (sym follows.1)
same_by r Is done (Err fault) follows = ap (λ ss. outcome_by ss (Err fault)) follows.0 ∙ ap (λ e. outcome_by (steps_of r.marks) e) (sym follows.1)

-- what follows the first copies, and ends as the images decide, is the outcome of restore over their bytes
pub settled : SettledLaw
settled plan dest images start old new done ending begun none follows =
    let B = volume_map start (fate images) in
    let here = exec B (journey plan dest start) in
    let one : follows.0 ≡ here = goes_one (λ (n : ℕ). B) B (journey plan dest start) follows.0 (each_same B (needs B (journey plan dest start))) follows.1 in
    same_by here (unread_in start old new) done ending (subst
    (λ (r : Run VolumeWant Fault Step (Result Counts OpenFault)). run_follows (unread_in start old new) part [] r done (answer_by ending)) one follows.2)
    ∙ sym (ap (from_start plan dest images) begun ∙ ap (λ d. unless_diverged d (outcome here)) none)

module _ (plan : RestorePlan) (dest : List ℕ) (start : Start) (old new : Seen) where
  -- the listing, with its counts as the answer of restore
  abbrev rest : Program Step (Result Counts OpenFault)
  rest = bind (listing plan dest start.sup) (λ counts. Return (Ok counts))

  module _ (maps : ℕ → Maps) (table : List Chunk) where
    -- the listing, with the answer of the whole
    whole : (done : List Step) (answer : Result Counts (Halt Fault UnreadBlock))
        → Goes (unread_by (layout_by start table) old new) part [] (λ n. maps n (layout_by start table)) (listing plan dest start.sup) done answer
        → Goes (unread_by (layout_by start table) old new) part [] (λ n. maps n (layout_by start table)) rest done (opened answer)
    whole done (Ok counts) h = (
      with_value (λ n. maps n (layout_by start table)) Ok h.0,
      goes_value (λ n. maps n (layout_by start table)) Ok (listing plan dest start.sup) h.0 h.1,
      follows_value (unread_by (layout_by start table) old new) part [] Ok h.0 counts done h.2,
    )
    whole done (Err halt) h = goes_halt (λ n. maps n (layout_by start table)) (unread_by (layout_by start table) old new) part []
        (listing plan dest start.sup) (λ counts. Return (Ok counts)) 0 done halt h

  -- a scan of the chunk tree that came to a table, and then the listing under it, follow the journey
  pub opened_then : OpenedThen plan dest start old new
  opened_then maps table done answer scanned listed =
      goes_staged (λ fault. Err (refusal_of fault)) (unread_in start old new) part (λ n. maps n (array_layout start))
      (λ n table. maps n (layout_by start table)) (quiet (table_scan start)) (λ (t : List Chunk). rest) table [] done (opened answer)
      (goes_quiet (unread_by (array_layout start) old new) part [] (λ n. maps n (array_layout start)) (table_scan start) [] (Ok (Ok table)) scanned)
      (whole maps table done answer listed)

  -- a scan of the chunk tree that came to a refusal follows the journey, with nothing done
  pub open_refused : OpenRefused plan dest start old new
  open_refused maps fault scanned =
      goes_staged_refused (λ fault. Err (refusal_of fault)) (unread_in start old new) part (λ n. maps n (array_layout start))
      (λ n table. maps n (layout_by start table)) (quiet (table_scan start)) (λ (t : List Chunk). rest) fault []
      (goes_quiet (unread_by (array_layout start) old new) part [] (λ n. maps n (array_layout start)) (table_scan start) [] (Ok (Err fault)) scanned)

  -- a scan of the chunk tree that could not go on follows the journey, with nothing done
  pub open_halted : OpenHalted plan dest start old new
  open_halted maps halt scanned =
      goes_staged_halt (λ fault. Err (refusal_of fault)) (unread_in start old new) part (λ n. maps n (array_layout start))
      (λ n table. maps n (layout_by start table)) (quiet (table_scan start)) (λ (t : List Chunk). rest) 0 [] halt
      (goes_quiet (unread_by (array_layout start) old new) part [] (λ n. maps n (array_layout start)) (table_scan start) [] (Err halt) scanned)

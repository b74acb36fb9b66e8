-- What a restore of the program comes to is the outcome of restore over its images.
use Rattle.std.proofs.Common.{◌≡◌, false, ℕ, List, [], ◌∷◌, ◌++◌, fold, drop, Option, Some, None, Result, Ok, Err, ⊎_elim, refl, sym, ap, ◌∙◌, subst}
use Rattle.std.specs.Option.{IfSome, option_map}
use Rattle.std.specs.Prelude.{is_some}
use Rattle.btr_chunk.specs.declared.chunk.Chunk.{Chunk}
use Rattle.btr_files.specs.declared.counts.Counts.{Counts}
use Rattle.btr_files.specs.declared.plan.RestorePlan.{RestorePlan}
use Rattle.btr_prog.specs.Prog.{Run, exec, steps_of}
use Rattle.btr_prog.specs.Answers.{Fault as halt_fault}
use Rattle.btr_prog.proofs.Choices.{goes_map}
use Rattle.btr_rack.specs.Rack.{Seen, Shelf}
use Rattle.btr_rack.specs.Out.{Adds}
use Rattle.btr_rack.specs.Sink.{Sink, Tree, IsSoundSink, NotStarted, is_in_file}
use Rattle.btr_rack.specs.declared.part.Part.{Part}
use Rattle.btr_read.specs.Fate.{Fault, fate}
use Rattle.btr_read.specs.declared.want.Want.{Want}
use Rattle.btr_restore.specs.Headline.{Headline, from_start, restore_outcome, unless_diverged}
use Rattle.btr_restore.specs.InOrder.{OpenedThen, OpenRefused, OpenHalted, SettledLaw}
use Rattle.btr_restore.specs.Journey.{journey, listing}
use Rattle.btr_restore.specs.Outcome.{Ending, RestoreOutcome, after_step, nothing, outcome, outcome_by, tree_after}
use Rattle.btr_restore.specs.Restoring.{sink_after}
use Rattle.btr_restore.specs.Running.{Outside}
use Rattle.btr_listing.specs.Step.{Step, Line, part}
use Rattle.btr_volume.specs.Maps.{array_layout, diverged_at, roots_differ, volume_map}
use Rattle.btr_volume.specs.Start.{Images, Start, start_of, layout_by}
use Rattle.btr_volume.specs.Table.{TableResult, refusal_of, table_scan}
use Rattle.btr_volume.specs.declared.fault.OpenFault.{OpenFault}
use Rattle.btr_volume.specs.declared.fault.OpenFault.TheVariants as opening
use Rattle.btr_run.specs.Answers.{error_line}
use Rattle.btr_run.specs.Effects.{HasEffect, images_outcome}
use Rattle.btr_run.specs.SelfTested.{AsksToTry, IsTrialOutcome}
use Rattle.btr_run.proofs.SelfTests.{no_trial}
use Rattle.btr_run.specs.Filesystem.{with_roots, with_start, with_table}
use Rattle.btr_run.specs.Outcomes as tool
use Rattle.btr_run.specs.Promise.{IsOutcomeOf, KeepsHeadline, KeepsOutcome, StandsAs, ended_answer}
use Rattle.btr_run.specs.Listed.{listed_answer}
use Rattle.btr_run.specs.Queries.Restored.{restore_row, skipped_in}
use Rattle.btr_run.specs.Rows.{row_in, row_outcome}
use Rattle.btr_run.specs.Words.{Words, IsSentence, images_of}
use Rattle.btr_run.specs.declared.answer.Answer.{Answer}
use Rattle.btr_run.specs.declared.plan.Command.TheVariants.{Ask}
use Rattle.btr_run.specs.declared.query.Query.TheVariants.{Restore}
use Rattle.btr_run.specs.declared.plan.Plan.{Plan}
use Rattle.btr_run.proofs.Carrying.{taken_outcome}
use Rattle.btr_run.proofs.Orders.{no_steps}
use Rattle.btr_run.proofs.Apart.{one_plan}

-- the outcome of some steps and an ending
by_steps : (steps : List Step) (ending : Ending) (answer : Answer) (found : RestoreOutcome) → outcome_by steps ending ≡ found → answer ≡ ended_answer ending
    → IsOutcomeOf (record { answer = answer; steps = steps }) found
by_steps steps ending answer found is answered = subst (IsOutcomeOf (record { answer = answer; steps = steps })) is
    (record { rows = refl; part = refl; text = refl; answered = answered })

-- The laws of btr_restore, for these calls on a rack.
module _ (seen : Seen) (settles : SettledLaw) (then : (plan : RestorePlan) (dest : List ℕ) (start : Start) → OpenedThen plan dest start seen seen)
    (refused : (plan : RestorePlan) (dest : List ℕ) (start : Start) → OpenRefused plan dest start seen seen)
    (halted : (plan : RestorePlan) (dest : List ℕ) (start : Start) → OpenHalted plan dest start seen seen) where
  module _ (plan : RestorePlan) (dest : List ℕ) (images : Images) (start : Start) (begun : start_of images ≡ Ok start) where
    -- the scan of the chunk tree over the images
    abbrev scan : Run Want Fault ⊥ TableResult
    scan = exec (fate images (array_layout start)) (table_scan start)

    -- where the candidates of the root tree's root block don't agree, by what was scanned
    by_roots : (s : Result TableResult Fault) → scan.ending ≡ s → diverged_at images start ≡ roots_differ images start s
    by_roots s scanned = ap (roots_differ images start) scanned

    -- the table of chunks was scanned, and the listing done
    with_listing : (table : List Chunk) → scan.ending ≡ Ok (Ok table) → diverged_at images start ≡ None
        → IsOutcomeOf (row_in (restore_row plan dest) images (with_roots start table None)) (restore_outcome plan dest images)
    with_listing table scanned none = of r.ending refl
      where
        r : Run Want Fault Step Counts
        r = exec (fate images (layout_by start table)) (listing plan dest start.sup)

        of : (e : Result Counts Fault) → r.ending ≡ e → IsOutcomeOf (record { answer = listed_answer skipped_in r.ending; steps = steps_of r.marks })
            (restore_outcome plan dest images)
        of (Ok counts) ended =
            by_steps (steps_of r.marks) (Ok (Ok counts)) (listed_answer skipped_in r.ending) (restore_outcome plan dest images)
            (settles plan dest images start seen seen (steps_of r.marks) (Ok (Ok counts)) begun none
            (then plan dest start (λ n. fate images) table (steps_of r.marks) (Ok counts)
            (scan, goes_map (λ (n : ℕ). fate images (array_layout start)) 0 (table_scan start), (no_steps (steps_of scan.marks), scanned))
            (r, goes_map (λ (n : ℕ). fate images (layout_by start table)) 0 (listing plan dest start.sup), (refl, ended))))
            (ap (listed_answer skipped_in) ended)
        of (Err f) ended =
            by_steps (steps_of r.marks) (Err f) (listed_answer skipped_in r.ending) (restore_outcome plan dest images)
            (settles plan dest images start seen seen (steps_of r.marks) (Err f) begun none
            (then plan dest start (λ n. fate images) table (steps_of r.marks) (Err (halt_fault f))
            (scan, goes_map (λ (n : ℕ). fate images (array_layout start)) 0 (table_scan start), (no_steps (steps_of scan.marks), scanned))
            (r, goes_map (λ (n : ℕ). fate images (layout_by start table)) 0 (listing plan dest start.sup), (refl, ended))))
            (ap (listed_answer skipped_in) ended)

    -- the table of chunks was scanned, and the candidates of the root tree's root block agree by it, or not
    with_chunks : (table : List Chunk) → scan.ending ≡ Ok (Ok table) → (d : Option ℕ) → roots_differ images start (Ok (Ok table)) ≡ d
        → IsOutcomeOf (row_in (restore_row plan dest) images (with_roots start table d)) (restore_outcome plan dest images)
    with_chunks table scanned None is = with_listing table scanned (by_roots (Ok (Ok table)) scanned ∙ is)
    with_chunks table scanned (Some slot) is =
        let here = outcome (exec (volume_map start (fate images)) (journey plan dest start)) in
        by_steps [] (Ok (Err (opening.Diverged slot))) _ (restore_outcome plan dest images)
        (sym (ap (from_start plan dest images) begun ∙ ap (λ d. unless_diverged d here) (by_roots (Ok (Ok table)) scanned ∙ is))) refl

    -- whatever the scan of the chunk tree came to, what the program comes to is the outcome of restore
    by_scan : (s : Result TableResult Fault) → scan.ending ≡ s
        → IsOutcomeOf (row_in (restore_row plan dest) images (with_table images start s)) (restore_outcome plan dest images)
    by_scan (Ok (Ok table)) scanned = with_chunks table scanned (roots_differ images start (Ok (Ok table))) refl
    by_scan (Ok (Err fault)) scanned =
        by_steps [] (Ok (Err (refusal_of fault))) _ (restore_outcome plan dest images)
        (settles plan dest images start seen seen [] (Ok (Err (refusal_of fault))) begun (by_roots (Ok (Err fault)) scanned)
        (refused plan dest start (λ n. fate images) fault
        (scan, goes_map (λ (n : ℕ). fate images (array_layout start)) 0 (table_scan start), (no_steps (steps_of scan.marks), scanned)))) refl
    by_scan (Err f) scanned =
        by_steps [] (Err f) _ (restore_outcome plan dest images)
        (settles plan dest images start seen seen [] (Err f) begun (by_roots (Err f) scanned)
        (halted plan dest start (λ n. fate images) (halt_fault f)
        (scan, goes_map (λ (n : ℕ). fate images (array_layout start)) 0 (table_scan start), (no_steps (steps_of scan.marks), scanned)))) refl

  -- what the program's restore comes to over any images is the outcome of restore
  is_outcome : (plan : RestorePlan) (dest : List ℕ) (images : Images)
      → IsOutcomeOf (row_outcome (restore_row plan dest) images) (restore_outcome plan dest images)
  unfolding row_outcome
  is_outcome plan dest images = of (start_of images) refl
    where
      of : (r : Result Start OpenFault) → start_of images ≡ r → IsOutcomeOf (row_in (restore_row plan dest) images (with_start images (start_of images)))
          (restore_outcome plan dest images)
      of (Err refusal) is =
          subst (λ f. IsOutcomeOf (row_in (restore_row plan dest) images (with_start images f)) (restore_outcome plan dest images)) (sym is)
          (by_steps [] (Ok (Err refusal)) _ (restore_outcome plan dest images) (sym (ap (from_start plan dest images) is)) refl)
      of (Ok start) is =
          subst (λ f. IsOutcomeOf (row_in (restore_row plan dest) images (with_start images f)) (restore_outcome plan dest images)) (sym is)
          (by_scan plan dest images start is (exec (fate images (array_layout start)) (table_scan start)).ending refl)

  -- a step in a sink, and in what it tells
  tree_step : (s : Sink) (step : Step) → (sink_after s step).tree ≡ option_map (λ t. after_step t step) s.tree
  tree_step s (Line text) = of s.tree
    where
      of : (o : Option Tree) → o ≡ option_map (λ (t : Tree). t) o
      of None = refl
      of (Some t) = refl
  tree_step s step = refl

  -- some steps in a sink, and in what it tells
  told_steps : (steps : List Step) (s : Sink) (t : Tree) → IfSome s.tree (λ u. u ≡ t) → IfSome (fold sink_after s steps).tree (λ u. u ≡ fold after_step t steps)
  told_steps [] s t h = h
  told_steps (step ∷ steps) s t h = told_steps steps (sink_after s step) (after_step t step) (of s.tree h (tree_step s step))
    where
      of : (o : Option Tree) → IfSome o (λ u. u ≡ t) → (sink_after s step).tree ≡ option_map (λ u. after_step u step) o
          → IfSome (sink_after s step).tree (λ u. u ≡ after_step t step)
      of None h e = subst (λ o. IfSome o (λ u. u ≡ after_step t step)) (sym e) tt
      of (Some u) h e = subst (λ o. IfSome o (λ v. v ≡ after_step t step)) (sym e) (ap (λ v. after_step v step) h)

  -- a sink that isn't started tells that nothing was written
  empty_at_first : (s : Sink) → IsSoundSink s → s.stage ≡ NotStarted → IfSome s.tree (λ t. t ≡ nothing)
  empty_at_first s sound fresh = of s.tree sound.part (sound.rows fresh)
    where
      of : (o : Option Tree) → IfSome o (λ t. is_some t.part ≡ is_in_file s.stage) → IfSome o (λ t. t.rows ≡ []) → IfSome o (λ t. t ≡ nothing)
      of None part rows = tt
      of (Some t) part rows = no_part_in t.part (part ∙ ap is_in_file fresh) rows
        where
          no_part_in : (p : Option Part) → is_some p ≡ false → t.rows ≡ [] → record t { part = p } ≡ nothing
          no_part_in None e rows = ap (λ l. record nothing { rows = l }) rows
          no_part_in (Some p) e rows = absurd (cc e)

  module _ (words : Words) (shelf : Shelf) (x y : Outside) (result : Answer) (sound : IsSoundSink x.sink) (fresh : x.sink.stage ≡ NotStarted) where
    -- where an outcome of the program stands that is one of restore, that of restore stands
    stands_as : (outcome : tool.Outcome) (found : RestoreOutcome) → tool.DidAndTold x y outcome.steps (error_line outcome.answer) → result ≡ outcome.answer
        → IsOutcomeOf outcome found → StandsAs x y result found
    stands_as outcome found stands answered is = record {
      rows = told (λ t. t.rows ≡ found.rows) (λ t e. ap (λ (u : Tree). u.rows) e ∙ is.rows);
      part = told (λ t. t.part ≡ found.part) (λ t e. ap (λ (u : Tree). u.part) e ∙ is.part);
      text = subst (λ l. Adds x.text y.text l) (ap (λ l. l ++ error_line outcome.answer) is.text
          ∙ ap (λ a. found.text ++ error_line a) (sym answered)) stands.text;
      answered = answered ∙ is.answered;
    }
      where
        told : (P : Tree → Type 0) → ((t : Tree) → t ≡ tree_after outcome.steps → P t) → IfSome y.sink.tree P
        told P all = of y.sink.tree (subst (λ (s : Sink). IfSome s.tree (λ t. t ≡ tree_after outcome.steps)) (sym stands.sink)
            (told_steps outcome.steps x.sink nothing (empty_at_first x.sink sound fresh)))
          where
            of : (o : Option Tree) → IfSome o (λ t. t ≡ tree_after outcome.steps) → IfSome o P
            of None h = tt
            of (Some t) h = all t h

    -- a restore that has the effect of its words is the outcome of restore over the bytes of its images
    pub keeps_outcome : HasEffect words shelf x y result → KeepsOutcome words shelf x y result
    keeps_outcome effect plan dest images from =
        stands_as effect.outcome (restore_outcome plan dest images) effect.stands effect.answered
        (subst (λ o. IsOutcomeOf o (restore_outcome plan dest images)) one (is_outcome plan dest images))
      where
        one : row_outcome (restore_row plan dest) images ≡ effect.outcome
        one = cc (⊎_elim (λ usage. absurd (usage.1.no_sentence _ from.sentence))
            (λ rest. ⊎_elim
            (λ (same : (p : Plan) × IsSentence p words × (images_outcome p.command words (images_of p words) shelf ≡ Some effect.outcome)).
            sym (ap (λ d. Some (row_outcome (restore_row plan d) images)) from.named) ∙ sym
            (taken_outcome (Ask (Restore from.number plan)) words (drop from.first words) shelf images from.few from.from)
            ∙ ap (λ p. images_outcome p.command words (images_of p words) shelf) (one_plan words _ same.0 from.sentence same.1) ∙ same.2)
            (λ (trial : (n : ℕ) × AsksToTry words n × IsTrialOutcome n effect.outcome).
            absurd (no_trial words _ trial.0 from.sentence trial.1 (λ n e. cc e))) rest) effect.is)

    -- over honest images that is what was committed, whole or up to the first need without a candidate
    pub keeps_headline : Headline → HasEffect words shelf x y result → KeepsHeadline words shelf x y result
    keeps_headline law effect plan dest images start C table from begun honest closed = (
      restore_outcome plan dest images,
      law plan dest images start C table begun honest closed,
      keeps_outcome effect plan dest images from,
    )

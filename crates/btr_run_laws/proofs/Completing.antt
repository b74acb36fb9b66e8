-- What the outcomes of the commands answer where all that they need is there.
use Rattle.std.proofs.Common.{◌≡◌, ⊎_elim, ℕ, Bool, true, false, cond, List, [], ◌∷◌, get_or, length, map, Option, Some, None, Result, Ok, Err}
use Rattle.std.proofs.Common.{refl, sym, ap, ◌∙◌, subst}
use Rattle.std.specs.Prelude.{slice_get, nat_lt, IsSome}
use Rattle.std.specs.Option.{option_map}
use Rattle.btr_check.specs.Before.{refusal}
use Rattle.btr_check.specs.Findings.{findings}
use Rattle.btr_chunk.specs.declared.chunk.Chunk.{Chunk}
use Rattle.btr_dump.specs.Pieces.{all_trees, asked_tree, block_shown, kind_in, roots_shown}
use Rattle.btr_dump.specs.Showing.{TextRun}
use Rattle.btr_files.specs.declared.counts.Counts.{Counts}
use Rattle.btr_files.specs.declared.plan.RestorePlan.{RestorePlan}
use Rattle.btr_listing.specs.Step.{Step}
use Rattle.btr_prog.specs.Prog.{BlockMap, Return, Run, and_then, bind, exec, needs, run}
use Rattle.btr_prog.specs.Maps.{Each, IsWhole}
use Rattle.btr_prog.specs.Quiet.{quiet}
use Rattle.btr_prog.specs.Stages.{Early, Late, renamed_run, run_unless_refused}
use Rattle.btr_prog.proofs.Quieting.{quiet_ends}
use Rattle.btr_prog.proofs.Runs.{after-err, after-ok, exec-bind}
use Rattle.btr_prog.proofs.TwoParts.{exec-staged}
use Rattle.btr_rack.specs.Rack.{Shelf}
use Rattle.btr_read.specs.Candidates.{Target}
use Rattle.btr_read.specs.Fate.{Fault, chosen, fate, fate_of, is_plain, or_lost, passing, sought}
use Rattle.btr_read.specs.Want.{addr_of}
use Rattle.btr_read.specs.declared.want.Want.{Want}
use Rattle.btr_resolve.specs.Resolving.{resolved}
use Rattle.btr_restore.specs.Committed.{Commit, IsClosed, IsIn, committed, committed_of, want_of}
use Rattle.btr_restore.specs.Headline.{Headline}
use Rattle.btr_restore.specs.Journey.{journey, listing}
use Rattle.btr_restore.specs.Running.{Outside}
use Rattle.btr_salvage.specs.Salvaging.{salvage_run}
use Rattle.btr_scrub.specs.Repair.{first_missing, meeting}
use Rattle.btr_send.specs.Sending.{sending}
use Rattle.btr_super.specs.Newest.{newest, newest_index}
use Rattle.btr_super.specs.declared.superblock.Super.{Super}
use Rattle.btr_trial.specs.Shown.{differing}
use Rattle.btr_trial.specs.Trial.{trial_of}
use Rattle.btr_volume.specs.Maps.{VolumeWant, array_layout, volume_map}
use Rattle.btr_volume.specs.Start.{Images, Start, layout_by, start_by, start_of, start_with, supers_from}
use Rattle.btr_volume.specs.Table.{refusal_of, table_scan}
use Rattle.btr_volume.specs.declared.fault.OpenFault.{OpenFault}
use Rattle.btr_volume.specs.declared.fault.TableFault.{TableFault}
use Rattle.btr_walk.specs.Reading.{Map}
use Rattle.btr_run.specs.Agreeing.{AsksOf}
use Rattle.btr_run.specs.Checked.{check_in, check_outcome, filesystem_by, found, unless_refused}
use Rattle.btr_run.specs.Checked.{listing as listing_shown}
use Rattle.btr_run.specs.Commands.{command_outcome}
use Rattle.btr_run.specs.Effects.{HasEffect, images_outcome}
use Rattle.btr_run.specs.Filesystem.{Filesystem, filesystem_of, with_start}
use Rattle.btr_run.specs.Listed.{listed_answer}
use Rattle.btr_run.specs.Newest.{newest_shown, shown}
use Rattle.btr_run.specs.Outcomes.{Outcome, showing}
use Rattle.btr_run.specs.Promise.{StandsAs, ended_answer}
use Rattle.btr_run.specs.Queries.{query_row}
use Rattle.btr_run.specs.Queries.Resolved.{none_left_out, owners_run}
use Rattle.btr_run.specs.Queries.Restored.{skipped_in}
use Rattle.btr_run.specs.Rows.{Row, row_outcome}
use Rattle.btr_run.specs.Queries.Salvaged.{missed_in}
use Rattle.btr_run.specs.Scrubbed.{counts, filesystem_as, scrub_ended, scrub_in, scrub_outcome, scrub_unless, tally_shown}
use Rattle.btr_run.specs.SelfTested.{AsksToTry, IsTrialOutcome, TakesImages}
use Rattle.btr_run.specs.Queries.Trees.{asked_answer, ending_answer, shown_by, trees_shown, whole_answer}
use Rattle.btr_run.specs.Words.{Words, IsSentence, images_of}
use Rattle.btr_run.specs.declared.answer.Answer.{Answer}
use Rattle.btr_run.specs.declared.answer.Answer.TheVariants.{Done}
use Rattle.btr_run.specs.declared.plan.Command.{Command}
use Rattle.btr_run.specs.declared.plan.Command.TheVariants.{Super as super_command, Ask, Check, Scrub, SelfTest}
use Rattle.btr_run.specs.declared.query.DumpChoice.{DumpChoice}
use Rattle.btr_run.specs.declared.query.DumpChoice.TheVariants.{All, Block, Tree, RootLines}
use Rattle.btr_run.specs.declared.plan.Plan.{Plan}
use Rattle.btr_run.specs.declared.query.Query.{Query}
use Rattle.btr_run.specs.declared.query.Query.TheVariants.{Dump, Resolve, Restore, Salvage, Send}
use Rattle.btr_run.proofs.Apart.{one_plan}
use Rattle.btr_run.proofs.Carrying.{taken_outcome}
use Rattle.btr_run.proofs.Rows.{row_opened}
use Rattle.btr_run.proofs.SelfTests.{no_trial, some_trial}
use Rattle.btr_run_laws.specs.Complete.{AreShown, CommandsComplete, HasNeeds, HasQueryNeeds, IsDone, RestoreCompletes, SelfTestCompletes}
use Rattle.btr_run_laws.proofs.Serving.{served_ends}
use Rattle.btr_read.proofs.Compared.{steady_not_rose}

-- what stands is the outcome of the command of these words over these images
pub its_outcome : (words : Words) (shelf : Shelf) (x y : Outside) (answer : Answer) (plan : Plan) (images : Images) → TakesImages plan.command
    → (effect : HasEffect words shelf x y answer) → AsksOf words shelf plan images → command_outcome plan.command words images ≡ Some effect.outcome
its_outcome words shelf x y answer plan images takes effect asks =
    ⊎_elim (λ usage. absurd (usage.1.no_sentence plan asks.sentence))
    (λ rest. ⊎_elim
    (λ (same : (p : Plan) × IsSentence p words × (images_outcome p.command words (images_of p words) shelf ≡ Some effect.outcome)).
    sym (taken_outcome plan.command words (images_of plan words) shelf images asks.few asks.from)
    ∙ ap (λ (p : Plan). images_outcome p.command words (images_of p words) shelf) (one_plan words plan same.0 asks.sentence same.1) ∙ same.2)
    (λ (trial : (n : ℕ) × AsksToTry words n × IsTrialOutcome n effect.outcome).
    absurd (no_trial words plan trial.0 asks.sentence trial.1 takes)) rest) effect.is

the_one : (a b : Outcome) → ◌≡◌ {A = Option Outcome} (Some a) (Some b) → a ≡ b
the_one a b e = cc e

-- so it answers what such an outcome answers
pub answers_so : (words : Words) (shelf : Shelf) (x y : Outside) (answer : Answer) (plan : Plan) (images : Images) → TakesImages plan.command
    → HasEffect words shelf x y answer → AsksOf words shelf plan images → (o : Outcome) → command_outcome plan.command words images ≡ Some o → answer ≡ o.answer
answers_so words shelf x y answer plan images takes effect asks o is =
    effect.answered
    ∙ ap (λ (o : Outcome). o.answer)
    (the_one effect.outcome o (sym (its_outcome words shelf x y answer plan images takes effect asks) ∙ is))

-- ---- each command

-- a list of what is left out comes to its end
listed : {A : Type 0} (left_out : A → ℕ) (e : Result A Fault) (a : A) → e ≡ Ok a → (skipped : ℕ) × (listed_answer left_out e ≡ Done skipped)
listed left_out e a is = (left_out a, ap (listed_answer left_out) is)

module _ (images : Images) (fs : Filesystem) (opened : filesystem_of images ≡ Ok fs) where
  -- what becomes of each block of the filesystem
  abbrev B : Map
  B = fate images fs.layout

  -- what a command comes to, and that it is done
  abbrev Completes : Command → Words → Type 0
  Completes command words = (o : Outcome) × (command_outcome command words images ≡ Some o) × IsDone command images fs o.answer

  -- `super` shows the newest superblock of images that make a filesystem
  super_shown : (supers : Result (List Super) OpenFault) → supers_from 0 images ≡ supers → (found : Option Super)
      → ((all : List Super) → supers ≡ Ok all → newest all ≡ found) → start_with images supers ≡ start_of images
      → (words : Words) → Completes super_command words
  super_shown (Err refusal) read found is start words =
      absurd (cc (sym opened ∙ ap (with_start images) (sym start)))
  super_shown (Ok all) read None is start words =
      absurd (cc (sym opened ∙ ap (with_start images) (sym start ∙ ap (start_by all (map length images)) (is all refl))))
  super_shown (Ok all) read (Some s) is start words = (
    showing (shown (newest_index all) s),
    ap newest_shown read ∙ ap (option_map (λ x. showing (shown (newest_index all) x))) (is all refl),
    (0, refl),
  )

  -- the newest superblock, if they were all read
  abbrev newest_in : Result (List Super) OpenFault → Option Super
  newest_in (Ok all) = newest all
  newest_in (Err refusal) = None

  -- the answer of a text whose run came to its end is that of its value
  shown_ends : {A : Type 0} (answer : A → Answer) (r : TextRun A) (a : A) → r.ending ≡ Ok a → (shown_by answer r).answer ≡ answer a
  shown_ends answer r a is = ap (ending_answer answer) is

  -- trees that can be shown whole are shown to their end
  dumped : (choice : DumpChoice) → AreShown choice images fs → (skipped : ℕ) × ((trees_shown choice B fs.sup).answer ≡ Done skipped)
  dumped All needs = let e = served_ends B (all_trees fs.sup) needs in
      (0, shown_ends whole_answer (exec B (all_trees fs.sup)) e.0 e.1)
  dumped (Block addr) needs = let e = served_ends B (block_shown (kind_in fs.sup) addr) needs in
      (0, shown_ends whole_answer (exec B (block_shown (kind_in fs.sup) addr)) e.0 e.1)
  dumped (Tree id) needs = (0, shown_ends asked_answer (exec B (asked_tree fs.sup id)) None needs)
  dumped RootLines needs = let e = served_ends B (roots_shown fs.sup) needs in
      (0, shown_ends whole_answer (exec B (roots_shown fs.sup)) e.0 e.1)

  -- a check that isn't refused comes to the list of all findings
  check_is : (read_data : Bool) → refusal (filesystem_by images fs) ≡ None
      → check_outcome read_data images ≡ showing (listing_shown (findings read_data (filesystem_by images fs)))
  check_is read_data none = ap (check_in read_data images) opened
      ∙ ap (λ r. unless_refused r (listing_shown (findings read_data (filesystem_by images fs)))) none

  -- a scrub of which no device is missing, and whose blocks can be listed, comes to the line of its counts
  scrub_is : (write : Bool) → first_missing fs.layout ≡ None → (meeting images (filesystem_as fs)).ending ≡ Ok tt
      → scrub_outcome write images ≡ showing (tally_shown (counts write images (filesystem_as fs)))
  unfolding scrub_outcome
  scrub_is write missing ends = ap (scrub_in write images) opened ∙ ap (scrub_unless write images (filesystem_as fs)) missing
      ∙ ap (scrub_ended write images (filesystem_as fs)) ends

  -- what a row comes to
  row_is : (row : Row) → ◌≡◌ {A = Option Outcome} (Some (row_outcome row images)) (Some (row.whole images fs))
  row_is row = ap (λ o. Some o) (row_opened row images fs opened)

  -- a query is done
  query_done : (query : Query) (words : Words) → HasQueryNeeds query words images fs
      → (skipped : ℕ) × (((query_row query words).whole images fs).answer ≡ Done skipped)
  query_done (Dump choice) words needs = dumped choice needs
  query_done (Resolve addr) words needs =
      let e = served_ends B (resolved fs.sup fs.layout.chunks addr) needs in
      listed none_left_out (owners_run addr images fs).ending e.0 e.1
  query_done (Restore dest plan) words needs =
      let p = listing plan (get_or words dest []) fs.sup in
      let e = served_ends B p needs in
      listed skipped_in (exec B p).ending e.0 e.1
  query_done (Salvage dest plan) words needs = listed missed_in (salvage_run B plan (get_or words dest []) fs.sup).ending needs.0 needs.1
  query_done (Send dest file plan) words needs =
      let p = sending (get_or words dest []) (get_or words file []) fs.sup plan in
      let e = served_ends B p needs in
      listed skipped_in (exec B p).ending e.0 e.1

  -- a command is done, if all that it needs of the filesystem is there
  pub completes : (command : Command) (words : Words) → HasNeeds command words images fs → Completes command words
  completes super_command words needs =
      super_shown (supers_from 0 images) refl (newest_in (supers_from 0 images)) (λ all is. sym (ap newest_in is)) refl words
  completes (Ask query) words needs =
      let row = query_row query words in
      (row.whole images fs, row_is row, query_done query words needs)
  completes (Check read_data) words needs =
      (showing (listing_shown (findings read_data (filesystem_by images fs))), ap (λ o. Some o) (check_is read_data needs), refl)
  completes (Scrub write) words needs =
      (showing (tally_shown (counts write images (filesystem_as fs))), ap (λ o. Some o) (scrub_is write needs.0 needs.1), refl)
  completes (SelfTest number) words needs = absurd needs

-- where the words have their effect over images that make a filesystem, and all that is needed is there, the command is done
pub commands_complete : CommandsComplete
commands_complete words shelf x y answer plan images fs effect asks opened needs =
    let c = completes images fs opened plan.command words needs in
    let takes : TakesImages plan.command = λ number e. subst (λ command. HasNeeds command words images fs) e needs in
    subst (IsDone plan.command images fs) (sym (answers_so words shelf x y answer plan images takes effect asks c.0 c.1)) c.2

-- ---- a self-test

-- a self-test answers how many lines differ, where neither its output nor its sink failed and memory sufficed
pub self_test_completes : SelfTestCompletes
self_test_completes x y answer volume number outcome one printed unfailing steady enough =
    ⊎_elim (λ done. (differing (trial_of trial.0 number), done.0 ∙ ap (λ (o : Outcome). o.answer) trial.1))
    (λ rest. ⊎_elim (λ sink. absurd (steady_not_rose _ _ unfailing sink.1.1))
    (λ more. ⊎_elim (λ out. absurd (steady_not_rose _ _ steady out.1.1)) (λ want. absurd (enough want.0)) more) rest) printed
  where
    trial : IsTrialOutcome number outcome
    trial = some_trial volume number outcome one

-- ---- a restore in committed words

module _ (plan : RestorePlan) (dest : List ℕ) (images : Images) (start : Start) (C : Commit) (table : List Chunk)
    (closed : IsClosed plan dest images start C table) where
  -- a want that the images have is committed
  of_target : (want : Want) (t : Target) → IsIn C want → IsWhole (fate_of images (addr_of want) (Ok t)) → IsWhole (committed_of C images 0 want (Ok t))
  of_target want t held whole = of (is_plain want) refl
    where
      first_is : (xs : List (List ℕ)) → IsWhole (or_lost (addr_of want) (slice_get xs 0)) → IsWhole (or_lost (addr_of want) (chosen 0 xs))
      first_is [] whole = whole
      first_is (x ∷ xs) whole = at (nat_lt 0 (length (x ∷ xs)))
        where
          at : (b : Bool) → IsWhole (or_lost (addr_of want) (slice_get (x ∷ xs) (cond b 0 0)))
          at true = tt
          at false = tt

      some_is : (o : Option (List ℕ)) → IsSome o → IsWhole (or_lost (addr_of want) o)
      some_is None some = absurd (cc some)
      some_is (Some bytes) some = tt

      of : (plain : Bool) → is_plain want ≡ plain → IsWhole (or_lost (addr_of want) (cond plain (chosen 0 (passing images t)) (C want)))
      of true is = first_is (passing images t) whole
      of false is = some_is (C want) (held is)

  -- the same by where the want is sought
  of_sought : (want : Want) (s : Result Target Fault) → IsIn C want → IsWhole (fate_of images (addr_of want) s) → IsWhole (committed_of C images 0 want s)
  of_sought want (Err fault) held whole = whole
  of_sought want (Ok t) held whole = of_target want t held whole

  -- the same of a want of the volume
  of_want : (want : VolumeWant) → IsIn C (want_of want) → IsWhole (volume_map start (fate images) want)
      → IsWhole (volume_map start (committed C images) want)
  of_want (Early want) held whole = of_sought want (sought (array_layout start) want) held whole
  of_want (Late t want) held whole = of_sought want (sought (layout_by start t) want) held whole

  -- of some wants that the images have each is committed
  all_whole : (ws : List VolumeWant) → Each (λ want. IsIn C (want_of want)) ws → Each (λ want. IsWhole (volume_map start (fate images) want)) ws
      → Each (λ want. IsWhole (volume_map start (committed C images) want)) ws
  all_whole [] held whole = tt
  all_whole (w ∷ ws) held whole = (of_want w held.0 whole.0, all_whole ws held.1 whole.1)

  -- the committed journey, whose chunk tree gives its table
  abbrev There : BlockMap VolumeWant Fault
  There = volume_map start (committed C images)

  -- the committed listing, by the table
  abbrev Listed : Run Want Fault Step (Result Counts OpenFault)
  Listed = exec (committed C images (layout_by start table)) (bind (listing plan dest start.sup) (λ counts. Return (Ok counts)))

  -- a listing that comes to a value comes to its counts
  counted : (r : Run Want Fault Step Counts) (v : Result Counts OpenFault) → (and_then r (λ counts. run [] (Ok (Ok counts)))).ending ≡ Ok v
      → (counts : Counts) × (v ≡ Ok counts)
  counted r v is = of r.ending refl
    where
      of : (e : Result Counts Fault) → r.ending ≡ e → (counts : Counts) × (v ≡ Ok counts)
      of (Ok counts) e = (
        counts,
        cc (sym (ap (λ (q : Run Want Fault Step (Result Counts OpenFault)). q.ending)
            (after-ok r counts (λ counts. run [] (Ok (Ok counts))) e)) ∙ is),
      )
      of (Err f) e = absurd (cc (sym (ap (λ (q : Run Want Fault Step (Result Counts OpenFault)). q.ending)
          (after-err r f (λ counts. run [] (Ok (Ok counts))) e)) ∙ is))

  -- the committed journey ends as the committed listing
  ends_listed : (exec There (journey plan dest start)).ending ≡ Listed.ending
  ends_listed =
      ap (λ (q : Run VolumeWant Fault Step (Result Counts OpenFault)). q.ending)
      (exec-staged (λ (fault : TableFault). Err (refusal_of fault)) (committed C images (array_layout start)) (λ t. committed C images (layout_by start t))
      (quiet (table_scan start)) (λ (t : List Chunk). bind (listing plan dest start.sup) (λ counts. Return (Ok counts)))
      ∙ after-ok (renamed_run Early (exec (committed C images (array_layout start)) (quiet (table_scan start)))) (Ok table)
      (run_unless_refused (λ (fault : TableFault). Err (refusal_of fault)) (λ t. renamed_run (Late t)
      (exec (committed C images (layout_by start t)) (bind (listing plan dest start.sup) (λ counts. Return (Ok counts))))))
      (quiet_ends Step (committed C images (array_layout start)) (table_scan start) ∙ closed.stands))

  -- a committed journey that comes to a value comes to counts
  its_counts : (v : Result Counts OpenFault) → (exec There (journey plan dest start)).ending ≡ Ok v → (counts : Counts) × (v ≡ Ok counts)
  its_counts v is =
      counted (exec (committed C images (layout_by start table)) (listing plan dest start.sup)) v
      (sym (ap (λ (q : Run Want Fault Step (Result Counts OpenFault)). q.ending)
      (exec-bind (committed C images (layout_by start table)) (listing plan dest start.sup) (λ counts. Return (Ok counts)))) ∙ sym ends_listed ∙ is)

-- over honest images that have all that is needed, where no committed block breaks a rule, the committed listing is restored whole
pub restore_completes : Headline → RestoreCompletes
restore_completes law words shelf x y answer plan dest images start C table came from begun honest closed well whole =
    let there = volume_map start (committed C images) in
    let end = served_ends there (journey plan dest start)
    (record { whole = all_whole plan dest images start C table closed (needs there (journey plan dest start)) closed.holds whole; well = well }) in
    let counts = its_counts plan dest images start C table closed end.0 end.1 in
    let stands = subst (StandsAs x y answer) ((law plan dest images start C table begun honest closed).whole whole) (came plan dest images from) in
    record { counted = counts.0; done = stands.answered ∙ ap ended_answer (end.1 ∙ ap (λ v. Ok v) counts.1); stands = stands }

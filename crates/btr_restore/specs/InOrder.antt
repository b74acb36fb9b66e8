-- What restore has done and answers whatever failed: the steps of its journey up to some place.
use Rattle.std.specs.Prelude.{◌≡◌, ◌⊎◌, ℕ, List, [], ◌∷◌, ◌++◌, None, Result, Ok, Err}
use Rattle.btr_chunk.specs.declared.chunk.Chunk.{Chunk}
use Rattle.btr_files.specs.declared.counts.Counts.{Counts}
use Rattle.btr_files.specs.declared.plan.RestorePlan.{RestorePlan}
use Rattle.btr_prog.specs.Prog.{Mark, Wants, Run, steps_of}
use Rattle.btr_prog.specs.Answers.{Halt, Fault as halt_fault, no_part}
use Rattle.btr_prog.specs.Goes.{GoesTo, Goes}
use Rattle.btr_prog.specs.Stages.{Early, Late}
use Rattle.btr_rack.specs.Rack.{Seen}
use Rattle.btr_read.specs.Fate.{Fault, Lost, fate, choices}
use Rattle.btr_read.specs.Want.{addr_of}
use Rattle.btr_volume.specs.declared.fault.OpenFault.{OpenFault}
use Rattle.btr_volume.specs.Maps.{Maps, VolumeWant, volume_map, array_layout, diverged_at}
use Rattle.btr_volume.specs.Start.{Images, Start, start_of, layout_by}
use Rattle.btr_volume.specs.Table.{refusal_of, table_scan}
use Rattle.btr_volume.specs.declared.fault.TableFault.{TableFault}
use Rattle.btr_walk.specs.Reading.{UnreadBlock, unread_by}
use Rattle.btr_restore.specs.Committed.{Commit, IsHonest, IsClosed, committed_choices, want_of}
use Rattle.btr_restore.specs.Headline.{restore_outcome}
use Rattle.btr_restore.specs.Journey.{journey, listing}
use Rattle.btr_restore.specs.Outcome.{Ending, outcome_by}
use Rattle.btr_listing.specs.Step.{Step, part}

-- how calls end that run the journey
abbrev pub Answer : Type 0
Answer = Result (Result Counts OpenFault) (Halt Fault UnreadBlock)

-- in these calls the want of a volume is the one that could not be read: with its whole cause
abbrev pub unread_in : Start → Seen → Seen → UnreadBlock → VolumeWant → Type 0
unread_in start old new u (Early want) = unread_by (array_layout start) old new u want
unread_in start old new u (Late table want) = unread_by (layout_by start table) old new u want

-- the answer of a listing, where a volume was opened
abbrev pub opened : Result Counts (Halt Fault UnreadBlock) → Answer
opened (Ok counts) = Ok (Ok counts)
opened (Err halt) = Err halt

module _ (plan : RestorePlan) (dest : List ℕ) (start : Start) (old new : Seen) where
  -- what was done and the answer follow some run of the journey, where a want may come to what some of the maps says
  abbrev pub Follows : (ℕ → Maps) → List Step → Answer → Type 0
  Follows maps done answer = Goes (unread_in start old new) part [] (λ n. volume_map start (maps n)) (journey plan dest start) done answer

  -- a volume was opened with a table, and then its listing was run
  abbrev pub OpenedThen : Type 0
  OpenedThen =
      (maps : ℕ → Maps) (table : List Chunk) (done : List Step) (answer : Result Counts (Halt Fault UnreadBlock))
      → Goes {S = ⊥} (unread_by (array_layout start) old new) no_part [] (λ n. maps n (array_layout start))
      (table_scan start) [] (Ok (Ok table))
      → Goes (unread_by (layout_by start table) old new) part [] (λ n. maps n (layout_by start table))
      (listing plan dest start.sup) done answer
      → Follows maps done (opened answer)

  -- a volume was refused, and nothing was done
  abbrev pub OpenRefused : Type 0
  OpenRefused =
      (maps : ℕ → Maps) (fault : TableFault)
      → Goes {S = ⊥} (unread_by (array_layout start) old new) no_part [] (λ n. maps n (array_layout start))
      (table_scan start) [] (Ok (Err fault))
      → Follows maps [] (Ok (Err (refusal_of fault)))

  -- the chunk tree could not be read, and nothing was done
  abbrev pub OpenHalted : Type 0
  OpenHalted =
      (maps : ℕ → Maps) (halt : Halt Fault UnreadBlock)
      → Goes {S = ⊥} (unread_by (array_layout start) old new) no_part [] (λ n. maps n (array_layout start))
      (table_scan start) [] (Err halt)
      → Follows maps [] (Err halt)

-- how a call ends where the images alone decide
abbrev pub answer_by : Ending → Answer
answer_by (Ok value) = Ok value
answer_by (Err fault) = Err (halt_fault fault)

-- What follows the first copies, and ends as the images decide, is the outcome of restore over their bytes, where the
-- candidates of the root tree's root block agree.
abbrev pub SettledLaw : Type 0
SettledLaw =
    (plan : RestorePlan) (dest : List ℕ) (images : Images) (start : Start) (old new : Seen) (done : List Step) (ending : Ending)
    → start_of images ≡ Ok start
    → diverged_at images start ≡ None
    → Follows plan dest start old new (λ n. fate images) done (answer_by ending)
    → outcome_by done ending ≡ restore_outcome plan dest images

-- the call stopped at a want of a run of the committed journey that the images lack: exactly the steps
-- before it were done, and the answer names it
pub record LostAt
    (plan : RestorePlan) (dest : List ℕ) (images : Images) (start : Start) (C : Commit) (done : List Step)
    (answer : Answer) : Type 0 where
  pub run : Run VolumeWant Fault Step (Result Counts OpenFault)
  pub goes : GoesTo (λ n. volume_map start (committed_choices C images n)) (journey plan dest start) run
  pub want : VolumeWant
  pub before : List (Mark VolumeWant Step)
  pub behind : List (Mark VolumeWant Step)
  pub place : run.marks ≡ before ++ (Wants want ∷ behind)
  pub choice : ℕ
  pub lost : volume_map start (choices images choice) want ≡ Err (Lost (addr_of (want_of want)))
  pub steps : done ≡ steps_of before
  pub is : answer ≡ Err (halt_fault (Lost (addr_of (want_of want))))

-- over honest images what follows the images' journey follows the committed one,
-- or stops where the images lack a want of it
abbrev pub CommittedOrder : Type 0
CommittedOrder =
    (plan : RestorePlan) (dest : List ℕ) (images : Images) (start : Start) (C : Commit) (table : List Chunk)
    (old new : Seen) (done : List Step) (answer : Answer)
    → IsHonest C images (layout_by start table)
    → IsClosed plan dest images start C table
    → Follows plan dest start old new (choices images) done answer
    → Follows plan dest start old new (committed_choices C images) done answer ⊎ LostAt plan dest images start C done answer

-- a chunk tree that came to a table, and then restore under it, whatever the plan, the destination, the start and the
-- calls are
abbrev pub OpenedThenLaw : Type 0
OpenedThenLaw = (plan : RestorePlan) (dest : List ℕ) (start : Start) (old new : Seen) → OpenedThen plan dest start old new

-- a chunk tree that is refused ends restore, whatever the plan, the destination, the start and the calls are
abbrev pub OpenRefusedLaw : Type 0
OpenRefusedLaw = (plan : RestorePlan) (dest : List ℕ) (start : Start) (old new : Seen) → OpenRefused plan dest start old new

-- a chunk tree that could not be read ends restore, whatever the plan, the destination, the start and the calls are
abbrev pub OpenHaltedLaw : Type 0
OpenHaltedLaw = (plan : RestorePlan) (dest : List ℕ) (start : Start) (old new : Seen) → OpenHalted plan dest start old new

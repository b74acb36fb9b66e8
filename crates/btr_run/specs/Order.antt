-- What a restore did and answered whatever failed: the steps of its journey up to some place.
use Rattle.std.specs.Prelude.{◌≡◌, ◌⊎◌, ℕ, ◌≤◌, List, [], length, take, Ok, Err}
use Rattle.btr_chunk.specs.declared.chunk.Chunk.{Chunk}
use Rattle.btr_files.specs.declared.plan.RestorePlan.{RestorePlan}
use Rattle.btr_prog.specs.Answers.{Fault as halt_fault, Unread as halt_unread, Broke}
use Rattle.btr_rack.specs.Rack.{Seen, Shelf}
use Rattle.btr_read.specs.Fate.{Agreed, choices}
use Rattle.btr_restore.specs.Committed.{Commit, IsHonest, IsClosed, committed_choices}
use Rattle.btr_restore.specs.InOrder as journey
use Rattle.btr_restore.specs.Running.{Outside}
use Rattle.btr_listing.specs.Step.{Step}
use Rattle.btr_volume.specs.Maps.{table_of}
use Rattle.btr_volume.specs.Start.{Images, Start, start_of, layout_by}
use Rattle.btr_run.specs.Answers.{error_line}
use Rattle.btr_run.specs.Behind.{IsFault}
use Rattle.btr_run.specs.Faults.{open_answer}
use Rattle.btr_run.specs.Filesystem.{fault_answer}
use Rattle.btr_run.specs.Outcomes.{DidAndTold}
use Rattle.btr_run.specs.Promise.{RestoresFrom}
use Rattle.btr_run.specs.Words.{Words}
use Rattle.btr_run.specs.declared.answer.Answer.{Answer}
use Rattle.btr_run.specs.declared.answer.Answer.TheVariants.{Done, Memory, OutFault, Unread}

-- The images agree: of each block that is tested all candidates that pass are
-- equal, as the table of the images finds them.
abbrev pub IsAgreed : Images → Start → Type 0
IsAgreed images start = Agreed images (layout_by start (table_of images start))

-- the answer of the program for one of the journey; where that was broken off an image, the sink
-- or the output failed, or memory was wanted
abbrev pub AnswersAs : journey.Answer → Answer → Type 0
AnswersAs (Ok (Ok counts)) answer = answer ≡ Done counts.skipped
AnswersAs (Ok (Err refusal)) answer = answer ≡ open_answer refusal
AnswersAs (Err (halt_fault f)) answer = answer ≡ fault_answer f
AnswersAs (Err (halt_unread u)) answer = answer ≡ Unread u.addr u.slot
AnswersAs (Err Broke) answer = IsFault answer

-- the steps that were done, before some line was put, and the answer are such ones as P allows
pub record KeepsTo (P : List Step → journey.Answer → Type 0) (x y : Outside) (line : List ℕ) (result : Answer) : Type 0 where
  pub done : List Step
  pub answer : journey.Answer
  pub allowed : P done answer
  pub stands : DidAndTold x y done line
  pub answered : AnswersAs answer result

-- Behind such steps the line of the answer that was due stands, and that is the answer; or the output refused the line,
-- or memory was wanted for it: then a first part of it stands, and this is the answer.
pub record KeepsLine (P : List Step → journey.Answer → Type 0) (x y : Outside) (result : Answer) : Type 0 where
  pub due : Answer
  pub some : ℕ
  pub keeps : KeepsTo P x y (take some (error_line due)) due
  pub ends : ((result ≡ due) × (length (error_line due) ≤ some)) ⊎ (result ≡ OutFault) ⊎ (result ≡ Memory)

-- a restore from some images follows its journey, where each sector without a checksum is any of its candidates
abbrev pub InOrder : RestorePlan → List ℕ → Images → Seen → Seen → Outside → Outside → Answer → Type 0
InOrder plan dest images old new x y result =
    (start : Start) → start_of images ≡ Ok start → IsAgreed images start → KeepsTo (journey.Follows plan dest start old new (choices images)) x y [] result

-- a restore from images of a shelf follows its journey so
abbrev pub FollowsOrder : Words → Shelf → Seen → Seen → Outside → Outside → Answer → Type 0
FollowsOrder words shelf old new x y result =
    (plan : RestorePlan) (dest : List ℕ) (images : Images) → RestoresFrom words shelf plan dest images → InOrder plan dest images old new x y result

-- a restore from images of a shelf follows its journey, and behind it the line of its answer was put
abbrev pub KeepsOrder : Words → Shelf → Seen → Seen → Outside → Outside → Answer → Type 0
KeepsOrder words shelf old new x y result =
    (plan : RestorePlan) (dest : List ℕ) (images : Images) (start : Start)
    → RestoresFrom words shelf plan dest images
    → start_of images ≡ Ok start
    → IsAgreed images start
    → KeepsLine (journey.Follows plan dest start old new (choices images)) x y result

-- over honest images whose committed blocks hold all that is needed it follows the committed journey, or
-- stopped where the images lack a block of it
abbrev pub KeepsCommittedOrder : Words → Shelf → Seen → Seen → Outside → Outside → Answer → Type 0
KeepsCommittedOrder words shelf old new x y result =
    (plan : RestorePlan) (dest : List ℕ) (images : Images) (start : Start) (C : Commit) (table : List Chunk)
    → RestoresFrom words shelf plan dest images
    → start_of images ≡ Ok start
    → IsAgreed images start
    → IsHonest C images (layout_by start table)
    → IsClosed plan dest images start C table
    → KeepsLine (λ done answer. journey.Follows plan dest start old new (committed_choices C images) done answer
    ⊎ journey.LostAt plan dest images start C done answer) x y result

-- What restoring from images comes to, in the words of `btr_restore`, and what it promises where
-- every candidate that passes its test is the committed block.
use Rattle.std.specs.Prelude.{◌≡◌, ℕ, ◌≤◌, List, [], ◌++◌, drop, get_or, length, IfSome, Some, Ok}
use Rattle.std.specs.Prelude.{Err}
use Rattle.btr_chunk.specs.declared.chunk.Chunk.{Chunk}
use Rattle.btr_files.specs.declared.plan.RestorePlan.{RestorePlan}
use Rattle.btr_rack.specs.Rack.{Shelf}
use Rattle.btr_rack.specs.Out.{Adds}
use Rattle.btr_restore.specs.Committed.{Commit, IsHonest, IsClosed}
use Rattle.btr_restore.specs.Headline.{IsRestored, restore_outcome}
use Rattle.btr_restore.specs.Outcome.{Ending, RestoreOutcome, text_of, tree_after}
use Rattle.btr_restore.specs.Running.{Outside}
use Rattle.btr_volume.specs.Start.{Images, Start, start_of, layout_by}
use Rattle.btr_run.specs.Answers.{error_line}
use Rattle.btr_run.specs.Faults.{open_answer}
use Rattle.btr_run.specs.Filesystem.{fault_answer}
use Rattle.btr_run.specs.Images.{most_images, taken}
use Rattle.btr_run.specs.Outcomes as tool
use Rattle.btr_run.specs.Words.{Words, IsSentence}
use Rattle.btr_run.specs.declared.answer.Answer.{Answer}
use Rattle.btr_run.specs.declared.answer.Answer.TheVariants.{Done}
use Rattle.btr_run.specs.declared.plan.Command.TheVariants.{Ask}
use Rattle.btr_run.specs.declared.query.Query.TheVariants.{Restore}

-- the answer of an ending of restore
abbrev pub ended_answer : Ending → Answer
ended_answer (Ok (Ok counts)) = Done counts.skipped
ended_answer (Ok (Err refusal)) = open_answer refusal
ended_answer (Err fault) = fault_answer fault

-- the words ask to restore by a plan into a destination, from these images of a shelf
pub record RestoresFrom (words : Words) (shelf : Shelf) (plan : RestorePlan) (dest : List ℕ)
    (images : Images) : Type 0 where
  pub number : ℕ
  pub first : ℕ
  pub sentence : IsSentence (record { command = Ask (Restore number plan); images = first }) words
  pub named : get_or words number [] ≡ dest
  pub few : length (drop first words) ≤ most_images
  pub from : taken (drop first words) shelf ≡ Some images

-- what stands in the sink and in the output, where they tell it, and the answer are those of an
-- outcome of restore
pub record StandsAs (x y : Outside) (result : Answer) (found : RestoreOutcome) : Type 0 where
  pub rows : IfSome y.sink.tree (λ t. t.rows ≡ found.rows)
  pub part : IfSome y.sink.tree (λ t. t.part ≡ found.part)
  pub text : Adds x.text y.text (found.text ++ error_line result)
  pub answered : result ≡ ended_answer found.ending

-- it is the outcome over the bytes of the images
abbrev pub KeepsOutcome : Words → Shelf → Outside → Outside → Answer → Type 0
KeepsOutcome words shelf x y result =
    (plan : RestorePlan) (dest : List ℕ) (images : Images)
    → RestoresFrom words shelf plan dest images
    → StandsAs x y result (restore_outcome plan dest images)

-- The headline: over honest images whose committed blocks hold all that is needed it is the outcome
-- of the committed journey where each need has a candidate that passes, and else that of exactly
-- the steps before the first need without one, which the answer names.
abbrev pub KeepsHeadline : Words → Shelf → Outside → Outside → Answer → Type 0
KeepsHeadline words shelf x y result =
    (plan : RestorePlan) (dest : List ℕ) (images : Images) (start : Start) (C : Commit)
    (table : List Chunk)
    → RestoresFrom words shelf plan dest images
    → start_of images ≡ Ok start
    → IsHonest C images (layout_by start table)
    → IsClosed plan dest images start C table
    → (found : RestoreOutcome) × IsRestored plan dest images start C found × StandsAs x y result found

-- what a restore of the program comes to is an outcome of restore
pub record IsOutcomeOf (outcome : tool.Outcome) (found : RestoreOutcome) : Type 0 where
  pub rows : (tree_after outcome.steps).rows ≡ found.rows
  pub part : (tree_after outcome.steps).part ≡ found.part
  pub text : text_of outcome.steps ≡ found.text
  pub answered : outcome.answer ≡ ended_answer found.ending

-- The rows of the table of commands: each goes over the filesystem of the images, and is all that
-- its clauses say of it.
use Rattle.std.specs.Prelude.{◌≡◌, ◌⊎◌, ℕ, IfSome, Result, Ok, Err}
use Rattle.btr_listing.specs.Step.{Step}
use Rattle.btr_prog.specs.Goes.{GoesTo}
use Rattle.btr_prog.specs.Prog.{Run, exec}
use Rattle.btr_rack.specs.Out.{CallAccount}
use Rattle.btr_rack.specs.Rack.{Seen}
use Rattle.btr_read.specs.Fate.{Fault, choices, fate}
use Rattle.btr_read.specs.declared.want.Want.{Want}
use Rattle.btr_restore.specs.Running.{Outside}
use Rattle.btr_volume.specs.Lookup.{Program}
use Rattle.btr_volume.specs.Start.{Images}
use Rattle.btr_walk.specs.Reading.{Map}
use Rattle.btr_walk.specs.declared.fault.TreeFault.{TreeFault}
use Rattle.btr_run.specs.Behind.{AnyFault, IfSteady, IsBehind}
use Rattle.btr_run.specs.Faults.{tree_answer}
use Rattle.btr_run.specs.Filesystem.{Filesystem, MayMend, filesystem_of}
use Rattle.btr_run.specs.Listed.{ListsTo, listed_by}
use Rattle.btr_run.specs.Outcomes.{HasOneOutcome, Outcome, OrBare, OrMemory, refused}
use Rattle.btr_run.specs.Unopened.{AreAgreed, IsUnopened}
use Rattle.btr_run.specs.declared.answer.Answer.{Answer}
use Rattle.btr_run.specs.declared.answer.Answer.TheVariants.{Done, NoTree}

-- a row: what it comes to over a filesystem; what else where reads failed and the images agree;
-- what it may come to whatever they hold; where it may want memory, by the output; and whether it
-- calls the sink
pub record Row : Type 1 where
  pub whole : Images → Filesystem → Outcome
  pub IsUpTo : Images → Filesystem → Outcome → Type 0
  pub MayBe : Outcome → Type 0
  pub MayWant : CallAccount → Type 0
  pub CallsSink : Type 0

-- what a row comes to over the filesystem of some images, or its answer where there is none
abbrev pub row_in : Row → Images → Result Filesystem Answer → Outcome
row_in row images (Ok fs) = row.whole images fs
row_in row images (Err answer) = refused answer

-- what a row comes to over the filesystem of some images
unfoldable pub row_outcome : Row → Images → Outcome
row_outcome row images = row_in row images (filesystem_of images)

-- what a row comes to where reads failed and the images agree: the whole, or it up to a block that
-- could not be read, unless the filesystem isn't opened
abbrev pub IsRowOrUnread : Row → Images → Outcome → Type 0
IsRowOrUnread row images outcome =
    (row_outcome row images ≡ outcome)
    ⊎ ((fs : Filesystem) × (filesystem_of images ≡ Ok fs) × row.IsUpTo images fs outcome)
    ⊎ IsUnopened images outcome

-- A row was done: this is what it comes to where no call on an image failed; where the images
-- agree; and whatever failed; and what lies behind its answer.
pub record IsRowDone (row : Row) (old new : Seen) (x y : Outside) (answer : Answer) : Type 0 where
  pub effect : IfSteady old.held old.account new.account (λ images.
      HasOneOutcome (row.MayWant x.out_calls)
      (OrMemory (λ outcome. row_outcome row images ≡ outcome)) x y answer)
  pub agreed : IfSome old.held (λ images. AreAgreed images
      → HasOneOutcome (row.MayWant x.out_calls) (IsRowOrUnread row images) x y answer)
  pub told : HasOneOutcome (row.MayWant x.out_calls) (OrBare row.MayBe) x y answer
  pub cause : IsBehind MayMend AnyFault old new answer

-- what a listing may come to, whatever its blocks are: behind some steps its end, or that there is
-- no such tree, or a tree that can't be read on
abbrev pub IsRestored : Outcome → Type 0
IsRestored outcome =
    ((skipped : ℕ) × (outcome.answer ≡ Done skipped)) ⊎ ((id : ℕ) × (outcome.answer ≡ NoTree id))
    ⊎ ((fault : TreeFault) × (outcome.answer ≡ tree_answer fault))

-- the row of a listing, which counts what it leaves out, and may call the sink: by one block map it
-- has one run, and by several, as by the candidates of sectors that are tested by nothing, some of
-- these
abbrev pub listing_row : {A : Type 0} → Type 0 → (A → ℕ)
    → (Filesystem → Map → Run Want Fault Step A)
    → (Filesystem → (ℕ → Map) → Run Want Fault Step A → Type 0) → Row
listing_row CallsSink left_out run_by IsRun = record {
  whole = λ images fs. listed_by left_out (run_by fs (fate images fs.layout));
  IsUpTo = λ images fs. ListsTo left_out (IsRun fs (λ n. choices images n fs.layout));
  MayBe = IsRestored;
  MayWant = λ out. Unit {0};
  CallsSink = CallsSink;
}

-- the row of a program that lists over a filesystem
abbrev pub program_row : {A : Type 0} → Type 0 → (A → ℕ) → (Filesystem → Program Step A) → Row
program_row CallsSink left_out program =
    listing_row CallsSink left_out (λ fs B. exec B (program fs)) (λ fs Bs. GoesTo Bs (program fs))

-- What a scrub comes to.
use Rattle.std.proofs.Common.{◌≡◌, ◌≢◌, ◌⊎◌, inl, inr, ⊎_elim, ℕ, Bool, List, [], ◌∷◌, ◌++◌, fold, Option, Some, None, Result, Ok, Err, refl, sym, ap, ◌∙◌}
use Rattle.std.proofs.Common.{subst}
use Rattle.std.specs.Option.{IfSome}
use Rattle.std.proofs.lemmas.List.{append-nil}
use Rattle.btr_scrub_copies.specs.Turns.{waiting}
use Rattle.btr_scrub_copies.specs.Writes.{In, IsStopped, IsTorn, LeaveImages, Write, write_on}
use Rattle.btr_scrub_copies.specs.declared.mended.MendFault.{MendFault}
use Rattle.btr_rack.specs.Rack.{NoneFailed, OnlyReads, Seen, Steady}
use Rattle.btr_scrub.specs.declared.tally.Tally.{Tally}
use Rattle.btr_volume.specs.Opening.{SuperUnread}
use Rattle.btr_volume.specs.Start.{Images}
use Rattle.btr_volume.specs.declared.which.Which.TheVariants.{Images as images_limit}
use Rattle.btr_volume.specs.declared.stop.Stop.{Stop}
use Rattle.btr_run.specs.Commands.{IsBehindCommand}
use Rattle.btr_run.specs.Behind.{HasTreeCause, IfSteady, IsBehind, IsFault, IsNoCrossing}
use Rattle.btr_run.specs.Answers.{error_line}
use Rattle.btr_run.specs.Faults.{stop_answer}
use Rattle.btr_run.specs.Filesystem.{IsRefusal, MayMend, OpensFilesystem, filesystem_of}
use Rattle.btr_run.specs.Outcomes.{IsNoFault}
use Rattle.btr_run.specs.Repaired.{IsBare, LeavesImages, LeavesScrubbed, Scrubs, ScrubsTo}
use Rattle.btr_run.specs.Scrubbed.{mending_writes, scrub_in, scrub_outcome, scrubbed_images, scrubbed_in, writes_in}
use Rattle.btr_run.specs.declared.answer.Answer.{Answer}
use Rattle.btr_run.specs.declared.answer.Answer.TheVariants.{ImageFault, Memory, Limit}
use Rattle.btr_run.specs.declared.plan.Command.TheVariants.{Scrub}
use Rattle.btr_run.proofs.Carrying.{as_they_were}
use Rattle.btr_run.proofs.Found.{found_line}
use Rattle.btr_read.proofs.Fetched.{map_some}
use Rattle.btr_run.proofs.Performing.{only_reads}
use Rattle.btr_run.proofs.Refusals.{open_line, open_no_fault}
use Rattle.btr_run.proofs.TreesShown.{unopened_behind}
use Rattle.btr_trial.proofs.Filesystems.{images_in}

-- what the call answers, as the command has it
abbrev pub answered : Result Tally Stop → Result Tally Answer
answered (Ok tally) = Ok tally
answered (Err end) = Err (stop_answer end)

-- a clause on what is told, by what it is
pub each_told : {X : Type 0} (o : Option X) (Q : X → Type 0) → ((x : X) → o ≡ Some x → Q x) → IfSome o Q
each_told None Q f = tt
each_told (Some x) Q f = f x refl

-- what holds where something is told holds of what is told
pub told_at : {X : Type 0} (o : Option X) (Q : X → Type 0) (x : X) → o ≡ Some x → IfSome o Q → Q x
told_at o Q x is told = subst (λ (p : Option _). IfSome p Q) is told

-- what a scrub comes to, leaves and writes, by the filesystem of the images
pub outcome_by : (write : Bool) (images : Images) → scrub_outcome write images ≡ scrub_in write images (filesystem_of images)
unfolding scrub_outcome
outcome_by write images = refl

-- the images behind a scrub that writes, by the filesystem of the images before
pub images_by : (images : Images) → scrubbed_images images ≡ scrubbed_in images (filesystem_of images)
unfolding scrubbed_images
images_by images = refl

-- the writes that mend the images, by their filesystem
pub writes_by : (images : Images) → mending_writes images ≡ writes_in images (filesystem_of images)
unfolding mending_writes
writes_by images = refl

-- nothing was written
module _ (write : Bool) (old new : Seen) (answer : Answer) (reads : OnlyReads old new) (behind : IsBehindCommand (Scrub write) old new answer) where
  -- the images are as they were
  same_held : new.held ≡ old.held
  same_held = ap (λ (s : Seen). s.held) reads.same

  -- a scrub that ended with a refusal, or with want of memory, and only read was done
  pub left_alone : IsBare answer → IfSteady old.held old.account new.account (λ images. ScrubsTo write images (Err answer)) → Scrubs write old new (Err answer)
  left_alone bare content = record {
    content = content;
    bare = bare;
    behind = behind;
    leaves = λ is. leaves;
  }
    where
      leaves : LeavesScrubbed old new answer
      leaves = record {
        repaired = each_told old.held (λ images. Steady old.account.faults new.account.faults → answer ≢ Memory → new.held ≡ Some (scrubbed_images images))
            (λ images told steady enough.
            ⊎_elim (λ both. same_held ∙ told ∙ ap (λ (i : Images). Some i) (sym both.1)) (λ want. absurd (enough want))
            (told_at old.held (λ i. Steady old.account.faults new.account.faults → ScrubsTo write i (Err answer)) images told content steady));
        left = each_told old.held (λ images. IfSome new.held (λ left. LeavesImages (Steady old.account.faults new.account.faults) images left answer))
            (λ images told. each_told new.held (λ left. LeavesImages (Steady old.account.faults new.account.faults) images left answer)
            (λ left told'. as_they_were (Steady old.account.faults new.account.faults) images left answer
            (λ lost e. bare.line (ap error_line e ∙ found_line lost)) (images_in left images (sym told' ∙ same_held ∙ told))));
        synced = λ lost e. absurd (bare.line (ap error_line e ∙ found_line lost));
        waits = λ none. inl (λ range there. inl (subst (λ (s : Seen). In range (waiting s)) reads.same there));
      }

-- the same, by what lies behind the answer of a command that only reads
pub unwritten : (write : Bool) (old new : Seen) (answer : Answer) → IsBehind MayMend IsNoCrossing old new answer → IsBare answer
    → IfSteady old.held old.account new.account (λ images. ScrubsTo write images (Err answer)) → Scrubs write old new (Err answer)
unwritten write old new answer behind = left_alone write old new answer behind.reads (only_reads (Scrub write) old new answer behind)

-- the filesystem isn't opened
pub not_opened : (write : Bool) (old new : Seen) (answer result : Answer) → result ≡ answer → IsRefusal answer → OnlyReads old new
    → ((slot : ℕ) → answer ≡ ImageFault slot → SuperUnread old new slot) → HasTreeCause old new answer
    → NoneFailed old.account new.account ⊎ IsFault answer ⊎ MayMend answer → ((n : ℕ) → answer ≢ Limit images_limit n)
    → IfSteady old.held old.account new.account (λ images. OpensFilesystem images (Err answer))
    → Scrubs write old new (Err result)
not_opened write old new answer result is refusal reads image cause hidden counted content =
    subst (λ a. Scrubs write old new (Err a)) (sym is)
    (unwritten write old new answer (unopened_behind answer answer refl refusal IsNoCrossing old new reads image cause hidden counted)
    (record {
      no_fault = subst IsNoFault (sym refusal.is) (open_no_fault refusal.refusal);
      line = λ e. open_line refusal.refusal
          (ap error_line (sym refusal.is) ∙ e);
    })
    (map_some old.held (λ images. Steady old.account.faults new.account.faults → OpensFilesystem images (Err answer))
    (λ images. Steady old.account.faults new.account.faults → ScrubsTo write images (Err answer))
    (λ images opens steady. ⊎_elim (λ none. inl (outcome_by write images ∙ ap (scrub_in write images) none, images_by images ∙ ap (scrubbed_in images) none))
    (λ want. inr want) (opens steady)) content))

-- where nothing is to be written, nothing was
pub left_nothing : (held left : Option Images) (e : Result (Unit {0}) MendFault) → LeaveImages (λ images. []) held left e → left ≡ held
left_nothing None left e leaves = leaves
left_nothing (Some images) left (Ok u) leaves = leaves
left_nothing (Some images) None (Err e) leaves = absurd leaves
left_nothing (Some images) (Some left) (Err e) leaves = ap (λ (i : Images). Some i) (of leaves.before leaves.behind leaves.place leaves.stands)
  where
    of : (before behind : List Write) → [] ≡ before ++ behind → (left ≡ fold write_on images before) ⊎ IsTorn behind (fold write_on images before) left
        → left ≡ images
    of [] [] place stands = ⊎_elim (λ same. same) (λ torn. absurd torn) stands
    of [] (w ∷ behind) place stands = absurd (cc place)
    of (w ∷ before) behind place stands = absurd (cc place)

-- all writes up to the last
pub stop_place : (ws : Images → List Write) (images left : Images) (e : Result (Unit {0}) MendFault) → LeaveImages ws (Some images) (Some left) e
    → IsStopped (ws images) images left
stop_place ws images left (Ok u) leaves = record
    { before = ws images; behind = []; place = sym (append-nil (ws images)); stands = inl (images_in left (fold write_on images (ws images)) leaves) }
stop_place ws images left (Err e) leaves = leaves

-- How a run ends: what holds of an answer before its line is put holds of the run's.
use Rattle.std.proofs.Common.{◌≡◌, ◌≢◌, ◌⊎◌, inl, inr, ⊎_elim, true, false, Bool, ℕ, ◌<◌, List, length, map, take, Option, Some, None, refl, sym, ap, ◌∙◌}
use Rattle.std.proofs.Common.{subst, arith}
use Rattle.std.specs.Option.{IfSome}
use Rattle.std.proofs.lemmas.List.{take_all}
use Rattle.btr_rack.specs.Rack.{Seen, Slot, Rose, Steady, Shelf}
use Rattle.btr_rack.specs.Out.{CallAccount}
use Rattle.btr_rack.specs.Sink.{IsSoundSink, NotStarted}
use Rattle.btr_restore.specs.Headline.{Headline}
use Rattle.btr_restore.specs.InOrder.{CommittedOrder, OpenHaltedLaw, OpenRefusedLaw, OpenedThenLaw, SettledLaw}
use Rattle.btr_restore.specs.Running.{Outside}
use Rattle.btr_run.specs.Order.{FollowsOrder, KeepsOrder}
use Rattle.btr_run.specs.Run.{AreImagesSteady, HasWholeEffect, IsAnswered, NothingFailed, IsObeyed, KeepsFirstPart, LeavesItsImages, RestoresCommitted, Run}
use Rattle.btr_run.specs.Run.{HasTried, ShowsTrial, before, behind, outside_before, outside_behind}
use Rattle.btr_run.specs.SelfTested.{IsTrialOf}
use Rattle.btr_run.specs.Agreeing.{ComesAgreed, FollowsAgreed, KeepsAgreed}
use Rattle.btr_run.specs.Answers.{error_line}
use Rattle.btr_run.specs.Causes.{opened_with, HidesNone, ImageCause, IsBehindWords, IsMissingImage, IsShut, TreeCause}
use Rattle.btr_run.specs.Effects.{FollowsWords, HasEffect, HasPart, IsOutcome, IsTold, MayFollow, MayWantBy}
use Rattle.btr_run.specs.Outcomes.{Outcome, refused, CallFailed, HasOneOutcome, HasEnded, HasFirstPart, How, Whole, SinkFailed, OutFailed, Wanted}
use Rattle.btr_run.specs.Outcomes.{IsPrinted, IsPut}
use Rattle.btr_run.specs.Outcomes.{MayEnd, OrBare, OrMemory, DidAndTold, StandsPartly}
use Rattle.btr_run.specs.Images.{taken}
use Rattle.btr_run.specs.Checked.{found}
use Rattle.btr_run.specs.Repaired.{AreLeft, KeepsRepair, LeavesImages, MayWrite, NamesChunk}
use Rattle.btr_run.specs.Stored.{IsStored, IsStoredOrTold}
use Rattle.btr_run.specs.Words.{Words}
use Rattle.btr_volume.specs.Start.{Images}
use Rattle.btr_run.specs.declared.answer.Answer.{Answer}
use Rattle.btr_run.specs.declared.answer.Answer.TheVariants.{Done, ImageFault, SinkFault, OutFault, Memory}
use Rattle.btr_run.proofs.Coming.{comes_printed, put_ends, whole_first}
use Rattle.btr_read.proofs.Fetched.{map_some}
use Rattle.btr_run.proofs.Orders.{keeps_committed, keeps_order}
use Rattle.btr_run.proofs.Promises.{keeps_headline, keeps_outcome}
use Rattle.btr_run.proofs.Faulting.{no_tree, tree_in}
use Rattle.btr_run.proofs.Found.{found_no_memory, found_no_out}

-- a count that rose isn't steady
not_steady : (before now : ℕ) → Steady before now → Rose before now → ⊥
not_steady before now steady rose = omega (arith, steady.0, steady.1, rose.0, rose.1)

all_taken : (line : List ℕ) → take (length line) line ≡ line
all_taken line = take_all (length line) line (omega arith)

-- a whole line is a first part of it
whole_line : (x y : Outside) (outcome : Outcome) (answer : Answer) → MayEnd outcome answer → StandsPartly x y outcome (error_line answer)
    → HasFirstPart x y outcome
whole_line x y outcome answer may partly =
    record {
      answer = answer;
      may_end = may;
      some = length (error_line answer);
      stands = subst (StandsPartly x y outcome)
          (sym (all_taken (error_line answer))) partly;
    }

-- all steps and the whole line of the answer are a first part of these
whole_part : (x y : Outside) (outcome : Outcome) → DidAndTold x y outcome.steps (error_line outcome.answer) → HasFirstPart x y outcome
whole_part x y outcome stands = whole_line x y outcome outcome.answer (inl refl)
    (record { done = outcome.steps; first = whole_first outcome.steps; stands = stands })

-- the answer before its line, or a fault of the put
abbrev Ends : Answer → Answer → Type 0
Ends answer result = (result ≡ answer) ⊎ (result ≡ OutFault) ⊎ (result ≡ Memory)

module _ {R T O : Type 0} (run : Run R T O) (out : O) (result : Answer)
    (line : IsPut (outside_behind run).text (run.eyes.text out) (outside_behind run).out_calls (run.eyes.out_calls out)
    (error_line run.answer) run.answer result) where
  abbrev words : Words
  words = run.words

  abbrev answer : Answer
  answer = run.answer

  -- the sink and the output before the run, before its line and behind it
  abbrev x : Outside
  x = outside_before run

  abbrev y : Outside
  y = outside_behind run

  -- the text behind the line
  abbrev new : Option (List ℕ)
  new = run.eyes.text out

  -- the calls of the output behind the line
  abbrev after : CallAccount
  after = run.eyes.out_calls out

  -- the run with its line
  abbrev whole : Run R T O
  whole = record run { new = record run.new { out = out }; answer = result }

  abbrev z : Outside
  z = outside_behind whole

  -- where memory may be wanted, by the words and the output before the run
  abbrev May : Type 0
  May = MayWantBy words x.out_calls

  -- the run answers as it did before its line, or a fault of the put of that
  ends : Ends answer result
  ends = put_ends y.text new y.out_calls after (error_line answer) answer result line

  -- what was done and put in all
  printed_by : (Might : Type 0) (IsOne : Outcome → Type 0) → (x.out_calls.ample ≡ false → Might) → (comes : HasOneOutcome Might IsOne x y answer)
      → IsPrinted Might x z comes.outcome result
  printed_by Might IsOne scarce comes = comes_printed Might x y new after comes.outcome result scarce answer comes.how comes.ended line

  -- what was done and put in all, where memory may be wanted as the words say
  print : (IsOne : Outcome → Type 0) (comes : HasOneOutcome May IsOne x y answer) → IsPrinted May x z comes.outcome result
  print IsOne comes = printed_by May IsOne (λ scarce. inl scarce) comes

  -- where nothing failed, the run did and answered what its words come to over the shelf
  has_effect : (shelf : Shelf) → HasOneOutcome May (OrMemory (IsOutcome words shelf)) x y answer → Steady x.sink_calls.faults y.sink_calls.faults
      → Steady x.out_calls.faults after.faults → result ≢ Memory → HasEffect words shelf x z result
  has_effect shelf comes unfailing steady enough =
      ⊎_elim (λ done. ⊎_elim (λ is. record { outcome = comes.outcome; is = is; answered = done.0; stands = done.1 })
      (λ (want : comes.outcome ≡ refused Memory). absurd (enough (cc done.0))) comes.is_one)
      (λ rest. ⊎_elim (λ fault. absurd (not_steady x.sink_calls.faults y.sink_calls.faults unfailing fault.1.1))
      (λ more. ⊎_elim (λ fault. absurd (not_steady x.out_calls.faults after.faults steady fault.1.1)) (λ want. absurd (enough want.0)) more) rest)
      (print (OrMemory (IsOutcome words shelf)) comes)

  -- a first part of what the words come to over the shelf was done and put, with the line
  has_part : (shelf : Shelf) → HasOneOutcome May (OrMemory (IsOutcome words shelf)) x y answer → HasPart words shelf x z
  has_part shelf comes = (
    comes.outcome,
    comes.is_one,
    ⊎_elim (λ done. whole_part x z comes.outcome done.1)
        (λ rest. ⊎_elim (λ fault. whole_line x z comes.outcome SinkFault (inr (inl refl)) fault.2)
        (λ more. ⊎_elim (λ fault. fault.2) (λ want. want.2) more) rest) (print (OrMemory (IsOutcome words shelf)) comes),
  )

  -- what was done of what the command may come to stands, and the line of the answer behind it
  is_told : HasOneOutcome May (OrBare (MayFollow words)) x y answer → IsTold words x z result
  is_told comes = (comes.outcome, comes.is_one, print (OrBare (MayFollow words)) comes)

  -- what a command over images that agree did stands, and the line of its answer behind it
  keeps_agreed : (shelf : Shelf) → FollowsAgreed words shelf x y answer → KeepsAgreed words shelf x z result
  keeps_agreed shelf follows plan images asks agreed = let comes = follows plan images asks agreed in
      (comes.outcome, comes.is_one, print (ComesAgreed plan.command words images) comes)

  -- a fault of the output is answered only where a call of it failed
  out_failed : (IsOne : Outcome → Type 0) → HasOneOutcome May IsOne x y answer → result ≡ OutFault → CallFailed x.out_calls after
  out_failed IsOne comes is =
      ⊎_elim (λ done. absurd (comes.no_fault.no_out (sym done.0 ∙ is)))
      (λ rest. ⊎_elim (λ fault. absurd (cc (sym fault.0 ∙ is))) (λ more. ⊎_elim (λ fault. fault.1) (λ want. absurd (cc (sym want.0 ∙ is))) more) rest)
      (print IsOne comes)

  -- a fault of the sink is answered only where a call of it failed
  sink_failed : (IsOne : Outcome → Type 0) → HasOneOutcome May IsOne x y answer → result ≡ SinkFault → CallFailed x.sink_calls y.sink_calls
  sink_failed IsOne comes is =
      ⊎_elim (λ done. absurd (comes.no_fault.no_sink (sym done.0 ∙ is)))
      (λ rest. ⊎_elim (λ fault. fault.1) (λ more. ⊎_elim (λ fault. absurd (cc (sym fault.0 ∙ is))) (λ want. absurd (cc (sym want.0 ∙ is))) more) rest)
      (print IsOne comes)

  -- what waits in the sink
  stored : (IsOne : Outcome → Type 0) → HasOneOutcome May IsOne x y answer → (waits : Bool) → IsStored waits answer
      → ((n : ℕ) → answer ≡ Done n → result ≡ answer)
      → IsStoredOrTold waits x.sink_calls y.sink_calls result
  stored IsOne comes waits inner silent = λ undone other.
      ⊎_elim (λ same. inl (inner (λ n e. undone n (same ∙ e)) (λ e. other (same ∙ e)))) (λ refused. of undone refused comes.how comes.ended) ends
    where
      of : ((n : ℕ) → result ≢ Done n) → ((result ≡ OutFault) ⊎ (result ≡ Memory)) → (how : How) → HasEnded May x y comes.outcome answer how
          → (waits ≡ false) ⊎ (((result ≡ OutFault) ⊎ (result ≡ Memory)) × CallFailed x.sink_calls y.sink_calls)
      of undone refused Whole e = inl (inner (λ n d. undone n (silent n d ∙ d)) (λ s. comes.no_fault.no_sink (sym e.0 ∙ s)))
      of undone refused SinkFailed e = inr (refused, e.1.0)
      of undone refused OutFailed e = inl (inner (λ n d. undone n (silent n d ∙ d)) (λ s. absurd (cc (sym e.0 ∙ s))))
      of undone refused Wanted e = inl (inner (λ n d. undone n (silent n d ∙ d)) (λ s. absurd (cc (sym e.0 ∙ s))))

  -- a scrub that writes
  repaired : (P : Type 0) (IsOne : Outcome → Type 0) → HasOneOutcome May IsOne x y answer → (answer ≢ Memory → P) → Steady x.out_calls.faults after.faults
      → result ≢ Memory → P
  repaired P IsOne comes of steady enough =
      ⊎_elim (λ same. of (λ e. enough (same ∙ e)))
      (λ rest. ⊎_elim (λ out. absurd (not_steady x.out_calls.faults after.faults steady (out_failed IsOne comes out).1))
      (λ want. absurd (enough want)) rest) ends

  -- an answer behind which images may have been written is one still with its line
  may_write : MayWrite answer → MayWrite result
  may_write may =
      ⊎_elim (λ same. subst MayWrite (sym same) may) (λ rest. ⊎_elim (λ out. inl (inr (inr (inl out)))) (λ want. inl (inr (inr (inr want)))) rest) ends

  -- the run answers a count only where that was the answer before its line
  still_found : (lost : ℕ) → result ≡ found lost → answer ≡ found lost
  still_found lost e =
      ⊎_elim (λ same. sym same ∙ e) (λ rest. ⊎_elim (λ out. absurd (found_no_out lost (sym e ∙ out)))
      (λ want. absurd (found_no_memory lost (sym e ∙ want))) rest) ends

  -- images that a scrub left as an answer says are left as the run's answer says
  left : (unfailing : Type 0) (shelf : Option Shelf) (slots : List Slot) (held : Option Images) → AreLeft unfailing shelf slots held answer
      → AreLeft unfailing shelf slots held result
  left unfailing shelf slots held are = (are.0, of shelf held are.1)
    where
      of : (shelf : Option Shelf) (held : Option Images) → IfSome shelf
          (λ at. IfSome held (λ left. (images : Images) × (taken (map (λ s. s.name) slots) at ≡ Some images) × LeavesImages unfailing images left answer))
          → IfSome shelf (λ at. IfSome held (λ left. (images : Images) × (taken (map (λ s. s.name) slots) at ≡ Some images)
          × LeavesImages unfailing images left result))
      of None held l = tt
      of (Some at) None l = tt
      of (Some at) (Some left) l = (
        l.0,
        l.1,
        record {
          stopped = l.2.stopped;
          finished = λ lost e sure. l.2.finished lost (still_found lost e) sure;
          unchanged = ⊎_elim (λ same. inl same) (λ may. inr (may_write may)) l.2.unchanged;
          safe = l.2.safe;
        },
      )

  -- an image is at fault only where it was before
  at_fault : (slot : ℕ) → result ≡ ImageFault slot → answer ≡ ImageFault slot
  at_fault slot is = ⊎_elim (λ same. sym same ∙ is) (λ rest. ⊎_elim (λ out. absurd (cc (sym out ∙ is))) (λ want. absurd (cc (sym want ∙ is))) rest) ends

  -- what waits for a sync lies in one chunk
  in_chunk : (seen seen' : Seen) → NamesChunk words seen seen' answer → NamesChunk words seen seen' result
  in_chunk seen seen' n = record {
    plan = n.plan;
    sentence = n.sentence;
    opened = n.opened;
    is = n.is;
    waits = record {
      mid = n.waits.mid;
      reads = n.waits.reads;
      later = n.waits.later;
      since = λ slot e. n.waits.since slot (at_fault slot e);
      layout = n.waits.layout;
      is = n.waits.is;
      waits = n.waits.waits;
    };
  }

  -- an answer that was decided is that of the run, or the put of its line failed
  decided : (one : Answer) → answer ≡ one → (result ≡ one) ⊎ (result ≡ OutFault) ⊎ (result ≡ Memory)
  decided one is = subst (λ a. Ends a result) is ends

  -- an answer that follows the words does so with its line, too
  stated : FollowsWords words answer → FollowsWords words result
  stated follows =
      ⊎_elim (λ same. subst (FollowsWords words) (sym same) follows)
      (λ rest. ⊎_elim (λ out. record { usage = λ at is. absurd (cc (sym out ∙ is)); limit = λ n is. absurd (cc (sym out ∙ is)) })
      (λ want. record { usage = λ at is. absurd (cc (sym want ∙ is)); limit = λ n is. absurd (cc (sym want ∙ is)) }) rest) ends

  module _ (seen seen' : Seen) (behind : IsBehindWords words seen seen' answer) where
    -- an image that the run answers has its cause
    image : (slot : ℕ) → result ≡ ImageFault slot → ImageCause words seen seen' slot
    image slot is = behind.image slot (at_fault slot is)

    -- an image that the run answers over a sure rack is missing from the shelf
    sure : (slot : ℕ) → result ≡ ImageFault slot → seen.sure ≡ true → IsMissingImage words seen.shelf slot
    sure slot is = behind.sure slot (at_fault slot is)

    -- where an opening failed, the run answers that image, a fault of the output, or want of memory
    shut : seen.account.shut < seen'.account.shut → IsShut words seen seen' result
    shut more = let failed = behind.shut more in ⊎_elim (λ same. inl (failed.0, same ∙ failed.1, failed.2)) (λ rest. inr rest) ends

    -- a fault of a tree that the run answers has its cause
    tree : TreeCause words seen seen' result
    tree =
        ⊎_elim (λ same. subst (TreeCause words seen seen') (sym same) behind.tree)
        (λ rest. ⊎_elim (λ out fault e. absurd (no_tree result (ap tree_in out) fault e))
        (λ want fault e. absurd (no_tree result (ap tree_in want) fault e)) rest) ends

    -- the run answers nothing in place of a failed call on an image
    hidden : HidesNone words seen.account seen'.account result
    hidden =
        ⊎_elim (λ same. subst (HidesNone words seen.account seen'.account) (sym same) behind.hidden)
        (λ rest. ⊎_elim (λ out. inr (inl (inr (inr (inl out))))) (λ want. inr (inl (inr (inr (inr want))))) rest) ends

  -- all that is promised, of a run whose words were obeyed
  module _ (obeyed : IsObeyed run) where
    -- the run's answer has its cause, and what stands in the sink and in the output is what it says
    pub answered : ((skipped : ℕ) → answer ≡ Done skipped → result ≡ answer) → IsAnswered whole
    answered silent = record {
      words = record {
        decided = λ answer is.
            let first = obeyed.decided answer is in
            (first.0, first.1, decided answer first.2);
        stated = stated obeyed.stated;
      };
      cause = record {
        image = image (before run) (behind run) obeyed.cause;
        shut = shut (before run) (behind run) obeyed.cause;
        sure = sure (before run) (behind run) obeyed.cause;
        tree = tree (before run) (behind run) obeyed.cause;
        sink = sink_failed (OrBare (MayFollow words)) obeyed.told;
        out = out_failed (OrBare (MayFollow words)) obeyed.told;
        hidden = hidden (before run) (behind run) obeyed.cause;
      };
      told = is_told obeyed.told;
      stored = stored (OrBare (MayFollow words)) obeyed.told (run.eyes.waits run.new.tree) obeyed.stored silent;
      alone = obeyed.alone;
    }

    -- where nothing failed, the run has the effect of its words over the shelf that the rack tells
    effect_told : IfSome (before run).shelf (λ shelf. NothingFailed whole → HasEffect words shelf x z result)
    effect_told =
        map_some (before run).shelf _ _
        (λ shelf comes unfailing.
        has_effect shelf (comes unfailing.put.images) unfailing.sink unfailing.put.out unfailing.put.enough)
        obeyed.effect

    -- by the laws of restore
    module _ (settles : SettledLaw) (then : OpenedThenLaw) (refused : OpenRefusedLaw) (halted : OpenHaltedLaw) (sound : IsSoundSink x.sink)
        (fresh : x.sink.stage ≡ NotStarted) where
      -- where nothing failed, all that was done and answered is what the words and the images come to
      pub effect : HasWholeEffect whole
      effect =
          map_some (before run).shelf _ _
          (λ shelf effect unfailing. record {
            effect = effect unfailing;
            outcome = keeps_outcome (before run) settles (λ plan dest start. then plan dest start (before run) (before run))
                (λ plan dest start. refused plan dest start (before run) (before run))
                (λ plan dest start. halted plan dest start (before run) (before run)) words shelf x z result sound fresh (effect unfailing);
          })
          effect_told

      -- over honest images a restore is what was committed, whole or up to the first block that is lost
      pub committed : Headline → RestoresCommitted whole
      committed law =
          map_some (before run).shelf _ _
          (λ shelf effect unfailing.
          keeps_headline (before run) settles (λ plan dest start. then plan dest start (before run) (before run))
          (λ plan dest start. refused plan dest start (before run) (before run))
          (λ plan dest start. halted plan dest start (before run) (before run)) words shelf x z result sound fresh law (effect unfailing))
          effect_told

    -- whatever failed, a first part was done, where no call on an image failed or the images' copies agree
    pub first_part : CommittedOrder → KeepsFirstPart whole
    first_part law = record {
      steady = map_some (before run).shelf _ _
          (λ shelf comes still. has_part shelf (comes still)) obeyed.effect;
      agreed = map_some (before run).shelf _ _
          (λ shelf follows. keeps_agreed shelf follows) obeyed.agreed;
      order = map_some (before run).shelf _ _ in_order obeyed.order;
      committed = map_some (before run).shelf _ _
          (λ shelf follows. keeps_committed law words shelf (opened_with (before run).account (behind run)) (behind run) x z result
          (in_order shelf follows)) obeyed.order;
    }
      where
        -- a restore that followed its journey keeps to it with its line
        in_order : (shelf : Shelf) → FollowsOrder words shelf (opened_with (before run).account (behind run)) (behind run) x y answer
            → KeepsOrder words shelf (opened_with (before run).account (behind run)) (behind run) x z result
        in_order shelf follows =
            keeps_order x y new after answer result line words shelf (opened_with (before run).account (behind run)) (behind run) follows

    -- a self-test leaves the rack and the sink as they were, and shows its trial
    pub shows_trial : (volume : Option Images) → HasTried run volume → ShowsTrial whole volume
    shows_trial volume tried number asks =
        let did = tried number asks in
        let comes = did.2 in
        (did.0, did.1, (comes.outcome, comes.is_one, printed_by (Unit {0}) (IsTrialOf volume number) (λ scarce. tt) comes))

    -- the images are as they were, but behind a scrub that writes, which leaves what mends them or a first part of it
    pub left_images : LeavesItsImages whole
    left_images = record {
      unchanged = obeyed.unchanged;
      repaired = map_some (before run).shelf _ _
          (λ shelf keeps well.
          repaired (KeepsRepair words shelf (behind run).held)
          (OrBare (MayFollow words)) obeyed.told (keeps well.images) well.out well.enough)
          obeyed.repaired;
      left = λ asks.
          left (AreImagesSteady run) (before run).shelf (behind run).slots (behind run).held
          (obeyed.left asks);
      synced = λ asks lost e. obeyed.synced asks lost (still_found lost e);
      waits = λ asks none. ⊎_elim (λ same. inl same) (λ lies. inr (in_chunk (before run) (behind run) lies)) (obeyed.waits asks none);
    }

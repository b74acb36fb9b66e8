-- What doing what a sentence says comes to.
use Rattle.std.proofs.Common.{◌≡◌, ◌≢◌, inl, inr, ⊎_elim, Bool, true, false, ℕ, ◌<◌, ◌≤◌, List, [], get_or, length, map, Option, Some, None, Ok, Err, refl, sym}
use Rattle.std.proofs.Common.{ap, ◌∙◌, subst, arith}
use Rattle.std.specs.List.{All}
use Rattle.std.specs.Option.{IfSome}
use Rattle.btr_rack.specs.Rack.{Seen, Slot, Steady, NoneFailed, Shelf}
use Rattle.btr_files.specs.declared.plan.RestorePlan.{RestorePlan}
use Rattle.btr_prog.specs.Answers.{Broke}
use Rattle.btr_read.specs.Fate.{choices}
use Rattle.btr_restore.specs.InOrder as journey
use Rattle.btr_restore.specs.Running.{Outside}
use Rattle.btr_read.specs.Layout.{Layout}
use Rattle.btr_volume.specs.Start.{Start}
use Rattle.btr_walk.specs.Reading.{FaultCause}
use Rattle.btr_run.specs.Agreeing.{ComesAgreed, FollowsAgreed}
use Rattle.btr_run.specs.Unopened.{AreAgreed, IsUnopened}
use Rattle.btr_run.specs.Answers.{error_line}
use Rattle.btr_run.specs.Behind.{IfSteady, IsFault, IsLayoutOf}
use Rattle.btr_run.specs.Causes.{IsBehindWords, opened_with}
use Rattle.btr_run.specs.Commands.{IsBehindCommand, IsScrub, command_outcome, MayCome, MayWant, opens_to_write}
use Rattle.btr_run.specs.Effects.{FollowsWords, IsDecided, IsOutcome, MayFollow, MayWantBy, images_outcome}
use Rattle.btr_run.specs.Images.{AreOpenedAs, AreUnchanged, IsMissing, most_images, taken}
use Rattle.btr_run.specs.Opening.{HasTooMany, IsOpened, OpeningCause, OpeningFailed, OpensAll, opening_answer}
use Rattle.btr_run.specs.Order.{FollowsOrder, InOrder, KeepsTo}
use Rattle.btr_run.specs.Outcomes.{Outcome, refused, HasOneOutcome, OrBare, OrMemory}
use Rattle.btr_run.specs.Checked.{found}
use Rattle.btr_run.specs.Repaired.{AreLeft, AsksToWrite, KeepsRepair, LeavesImages, ScrubsFrom}
use Rattle.btr_run.specs.Scrubbed.{scrubbed_images}
use Rattle.btr_run.specs.Words.{Words, IsSentence, images_of}
use Rattle.btr_run.specs.declared.plan.Command.{Command}
use Rattle.btr_run.specs.declared.plan.Command.TheVariants.{Ask, Scrub}
use Rattle.btr_run.specs.declared.query.Query.TheVariants.{Restore}
use Rattle.btr_run.specs.declared.plan.Plan.{Plan}
use Rattle.btr_run.specs.declared.opening.OpeningFault.{OpeningFault}
use Rattle.btr_run.specs.declared.opening.OpeningFault.TheVariants.{TooMany, Failed, Memory as memory_fault}
use Rattle.btr_volume.specs.declared.which.Which.TheVariants.{Images as images_limit}
use Rattle.btr_run.specs.declared.answer.Answer.{Answer}
use Rattle.btr_run.specs.declared.answer.Answer.TheVariants.{Limit, ImageFault, Memory}
use Rattle.btr_run.proofs.Causing.{opened_again}
use Rattle.btr_volume.proofs.Readings.{none_failed_twice}
use Rattle.btr_run.proofs.Coming.{comes_bare, comes_also}
use Rattle.btr_run.proofs.Faulting.{no_tree}
use Rattle.btr_run.proofs.Openings.{Images}
use Rattle.btr_run.proofs.Orders.{nothing_done, nothing_stands}
use Rattle.btr_run.proofs.Apart.{one_plan}
use Rattle.btr_run.proofs.Found.{found_line}
use Rattle.btr_run.proofs.Carrying.{agreed_before, all_told, as_opened, few, limit_outcome, opening_line, opening_no_fault, opening_no_tree}
use Rattle.btr_read.proofs.Compared.{steady_not_rose}
use Rattle.btr_run.proofs.Carrying.{taken_outcome}

-- the command of words that ask to write is a scrub that does
pub asks_scrub : (words : Words) (plan : Plan) → IsSentence plan words → AsksToWrite words → plan.command ≡ Scrub true
asks_scrub words plan sentence asks = writing plan.command (ap (λ (q : Plan). opens_to_write q.command) (one_plan words plan asks.0 sentence asks.1) ∙ asks.2)
  where
    writing : (command : Command) → opens_to_write command ≡ true → command ≡ Scrub true
    writing (Scrub write) is = ap (λ b. Scrub b) is
    writing command is = absurd (cc is)

-- words that are a sentence: their images
module _ (words names : Words) (plan : Plan) (sentence : IsSentence plan words) (named : images_of plan words ≡ names) where
  -- what the command comes to over the shelf is what the words come to
  outcome_is : (shelf : Shelf) (outcome : Outcome) → images_outcome plan.command words names shelf ≡ Some outcome → IsOutcome words shelf outcome
  outcome_is shelf outcome is = inr (inl (plan, sentence, ap (λ l. images_outcome plan.command words l shelf) named ∙ is))

  -- the same in two steps
  outcome_by : (o : Option Outcome) (shelf : Shelf) (outcome : Outcome) → images_outcome plan.command words names shelf ≡ o → o ≡ Some outcome
      → IsOutcome words shelf outcome
  outcome_by o shelf outcome comes is = outcome_is shelf outcome (comes ∙ is)

  -- what the words alone decide is that there are too many images
  too_many_decided : (answer : Answer) → IsDecided words answer → (most_images < length names) × (answer ≡ Limit images_limit (length names))
  too_many_decided answer decided =
      ⊎_elim (λ usage. absurd (usage.1.no_sentence plan sentence))
      (λ many. let same = ap (λ p. length (images_of p words)) (one_plan words many.0 plan many.1 sentence)
      ∙ ap length named in (subst (λ n. most_images < n) same many.2, many.3 ∙ ap (λ n. Limit images_limit n) same)) decided

  -- the images aren't open
  module _ (old new : Seen) (fault : OpeningFault) (many : HasTooMany names (Err fault))
      (cause : OpeningCause (opens_to_write plan.command) names old new (Err fault)) where
    -- where no call failed, that answer is what the words come to over the shelf, or memory was wanted
    opening_comes : (shelf : Shelf) (x : Outside) → Steady old.account.faults new.account.faults
        → HasOneOutcome (MayWantBy words x.out_calls) (OrMemory (IsOutcome words shelf)) x x (opening_answer fault)
    opening_comes shelf x steady = comes_bare (MayWantBy words x.out_calls) (OrMemory (IsOutcome words shelf)) x (opening_answer fault) (of fault many cause)
        (opening_no_fault fault)
      where
        of : (f : OpeningFault) → HasTooMany names (Err f) → OpeningCause (opens_to_write plan.command) names old new (Err f)
            → OrMemory (IsOutcome words shelf) (refused (opening_answer f))
        of (TooMany count) many cause =
            inl (outcome_is shelf (refused (Limit images_limit count))
            (limit_outcome plan.command words names shelf (omega (arith, many.0, many.1)) ∙ ap (λ n. Some (refused (Limit images_limit n))) (sym many.0)))
        of (Failed slot) many cause = absurd (steady_not_rose old.account.faults new.account.faults steady cause.faults)
        of memory_fault many cause = inr refl

    -- the same of a run's answer, where the shelf is told
    pub opening_effect : (shelf : Option Shelf) (x : Outside) (result : Answer) → result ≡ opening_answer fault
        → IfSome shelf (λ s. Steady old.account.faults new.account.faults
        → HasOneOutcome (MayWantBy words x.out_calls) (OrMemory (IsOutcome words s)) x x result)
    opening_effect shelf x result is =
        all_told shelf _ (λ s steady. subst (λ a. HasOneOutcome (MayWantBy words x.out_calls) (OrMemory (IsOutcome words s)) x x a) (sym is)
        (opening_comes s x steady))

    -- whatever failed, that answer is a refusal before anything else
    pub opening_told : (x : Outside) (result : Answer) → result ≡ opening_answer fault → HasOneOutcome (MayWantBy words x.out_calls)
        (OrBare (MayFollow words)) x x result
    opening_told x result is =
        subst (λ a. HasOneOutcome (MayWantBy words x.out_calls) (OrBare (MayFollow words)) x x a) (sym is)
        (comes_bare (MayWantBy words x.out_calls) (OrBare (MayFollow words)) x (opening_answer fault) (inr (refl, opening_line fault)) (opening_no_fault fault))

    -- a restore whose images aren't open did nothing of its journey, and was broken off
    pub opening_order : (shelf : Option Shelf) (before : Seen) (x : Outside) (result : Answer) → result ≡ opening_answer fault
        → IfSome shelf (λ s. FollowsOrder words s before new x x result)
    opening_order shelf before x result is =
        all_told shelf _ (λ s p dest images from start begun agreed.
        of p dest images start (subst (λ l. length l ≤ most_images)
        (ap (λ (q : Plan). images_of q words) (one_plan words _ plan from.sentence sentence) ∙ named) from.few) fault many is)
      where
        bare : (p : RestorePlan) (dest : List ℕ) (images : Images) (start : Start) → IsFault result
            → KeepsTo (journey.Follows p dest start before new (choices images)) x x [] result
        bare p dest images start is_fault = record
            { done = []; answer = Err Broke; allowed = nothing_done p dest images start before new; stands = nothing_stands x; answered = is_fault }

        of : (p : RestorePlan) (dest : List ℕ) (images : Images) (start : Start) → length names ≤ most_images → (f : OpeningFault) → HasTooMany names (Err f)
            → result ≡ opening_answer f → KeepsTo (journey.Follows p dest start before new (choices images)) x x [] result
        of p dest images start few (TooMany count) many is = absurd (omega (arith, few, many.0, many.1))
        of p dest images start few (Failed slot) many is = bare p dest images start (inl (slot, is))
        of p dest images start few memory_fault many is = bare p dest images start (inr (inr (inr is)))

    -- a command whose images aren't open answers as one of images that agree may
    pub opening_agreed : (shelf : Option Shelf) (x : Outside) (result : Answer) → result ≡ opening_answer fault
        → IfSome shelf (λ s. FollowsAgreed words s x x result)
    opening_agreed shelf x result is =
        all_told shelf _ (λ s p images asks agreed.
        subst (λ a. HasOneOutcome (MayWantBy words x.out_calls) (ComesAgreed p.command words images) x x a) (sym is)
        (comes_bare (MayWantBy words x.out_calls) (ComesAgreed p.command words images) x (opening_answer fault)
        (agreed_before p.command words images (opening_answer fault) (opening_line fault)
        (of images (subst (λ l. length l ≤ most_images) (ap (λ (q : Plan). images_of q words) (one_plan words _ plan asks.sentence sentence)
        ∙ named) asks.few) fault many)) (opening_no_fault fault)))
      where
        of : (images : Images) → length names ≤ most_images → (f : OpeningFault) → HasTooMany names (Err f) → IsUnopened images (refused (opening_answer f))
        of images few (TooMany count) many = absurd (omega (arith, few, many.0, many.1))
        of images few (Failed slot) many = inr (inl (slot, refl))
        of images few memory_fault many = inr (inr refl)

    -- images that are opened only to be read are unchanged
    pub opening_unchanged : AreOpenedAs (opens_to_write plan.command) old.shelf new.slots new.held → (AsksToWrite words → ⊥)
        → AreUnchanged old.shelf new.slots new.held
    opening_unchanged opens never = of (opens_to_write plan.command) refl opens
      where
        of : (write : Bool) → opens_to_write plan.command ≡ write → AreOpenedAs write old.shelf new.slots new.held → AreUnchanged old.shelf new.slots new.held
        of true is opens = absurd (never (plan, sentence, is))
        of false is opens = opens

    -- where no call failed and memory sufficed, the words ask for no scrub that writes: its images would be open
    pub opening_repaired : (result : Answer) → result ≡ opening_answer fault
        → IfSome old.shelf (λ shelf. Steady old.account.faults new.account.faults → result ≢ Memory → KeepsRepair words shelf new.held)
    opening_repaired result is =
        all_told old.shelf _ (λ s steady enough images from.
        absurd (of (subst (λ l. length l ≤ most_images) (ap (λ (q : Plan). images_of q words) (one_plan words _ plan from.sentence sentence)
        ∙ named) from.few) steady fault many cause (λ e. enough (is ∙ e))))
      where
        of : length names ≤ most_images → Steady old.account.faults new.account.faults → (f : OpeningFault) → HasTooMany names (Err f)
            → OpeningCause (opens_to_write plan.command) names old new (Err f) → opening_answer f ≢ Memory → ⊥
        of few steady (TooMany count) many cause enough = omega (arith, few, many.0, many.1)
        of few steady (Failed slot) many cause enough = steady_not_rose old.account.faults new.account.faults steady cause.faults
        of few steady memory_fault many cause enough = enough refl

    -- that answer isn't the one of a scrub that was finished
    pub opening_unfinished : (result : Answer) → result ≡ opening_answer fault → (lost : ℕ) → result ≢ found lost
    opening_unfinished result is lost e = opening_line fault (ap error_line (sym is ∙ e) ∙ found_line lost)

    -- images that were opened to be written stand as they were
    pub opening_left : (unfailing : Type 0) (result : Answer) → result ≡ opening_answer fault → AreOpenedAs
        (opens_to_write plan.command) old.shelf new.slots new.held → AsksToWrite words → AreLeft unfailing old.shelf new.slots new.held result
    opening_left unfailing result is opens asks = (
      subst (λ b. All (λ (s : Slot). s.write ≡ b) new.slots) writes opens.0,
      as_opened unfailing old.shelf new.held new.slots result
          (opening_unfinished result is) opens.1,
    )
      where
        writes : opens_to_write plan.command ≡ true
        writes = ap (λ (q : Plan). opens_to_write q.command) (one_plan words plan asks.0 sentence asks.1) ∙ asks.2

    -- where the words alone decide, there are too many images, and so it is answered
    pub opening_decided : (result answer : Answer) → result ≡ opening_answer fault → IsDecided words answer → (most_images < length names) × (result ≡ answer)
    opening_decided result answer is decided = let all = too_many_decided answer decided in (all.0, is ∙ of fault many all.0 ∙ sym all.1)
      where
        of : (f : OpeningFault) → HasTooMany names (Err f) → most_images < length names → opening_answer f ≡ Limit images_limit (length names)
        of (TooMany count) many lt = ap (λ n. Limit images_limit n) many.0
        of (Failed slot) few lt = absurd (omega (arith, few, lt))
        of memory_fault few lt = absurd (omega (arith, few, lt))

    -- too many images are answered only where the words decide it, and a usage error isn't
    pub opening_stated : (result : Answer) → result ≡ opening_answer fault → FollowsWords words result
    opening_stated result is = subst (FollowsWords words) (sym is) (of fault many)
      where
        of : (f : OpeningFault) → HasTooMany names (Err f) → FollowsWords words (opening_answer f)
        of (TooMany count) many = record {
          usage = λ at is. absurd (cc is);
          limit = λ n is. let same = many.0 ∙ ap length (sym named) in inr
              (plan, sentence, subst (λ n. most_images < n) same many.1, ap (λ n. Limit images_limit n) same);
        }
        of (Failed slot) few = record { usage = λ at is. absurd (cc is); limit = λ n is. absurd (cc is) }
        of memory_fault few = record { usage = λ at is. absurd (cc is); limit = λ n is. absurd (cc is) }

    -- that answer has its cause: the opening of an image failed, or no call did
    pub opening_cause : (result : Answer) → result ≡ opening_answer fault
        → ((slot : ℕ) → fault ≡ Failed slot → old.sure ≡ true → IsMissing names old.shelf slot) → IsBehindWords words old new result
    opening_cause result is sure = subst (IsBehindWords words old new) (sym is) (of fault cause sure)
      where
        unfailing : (f : OpeningFault) → NoneFailed old.account new.account → ((slot : ℕ) → opening_answer f ≢ ImageFault slot)
            → IsBehindWords words old new (opening_answer f)
        unfailing f none other = record {
          image = λ slot is. absurd (other slot is);
          shut = λ more. absurd (omega (arith, none.shut, more));
          hidden = inl none;
          sure = λ slot is. absurd (other slot is);
          tree = λ fault e. absurd (no_tree (opening_answer f) (opening_no_tree f) fault e);
        }

        of : (f : OpeningFault) → OpeningCause (opens_to_write plan.command) names old new (Err f)
            → ((slot : ℕ) → f ≡ Failed slot → old.sure ≡ true → IsMissing names old.shelf slot) → IsBehindWords words old new (opening_answer f)
        of (TooMany count) cause sure = unfailing (TooMany count) cause (λ slot e. cc)
        of memory_fault cause sure = unfailing memory_fault cause (λ slot e. cc)
        of (Failed slot) failed sure =
            let failed' = subst (λ l. OpeningFailed (opens_to_write plan.command) l new.slots old.account new.account slot) (sym named) failed in record {
              image = λ other is. record {
                plan = plan;
                sentence = sentence;
                failed = inl
                    (subst (OpeningFailed (opens_to_write plan.command) (images_of plan words) new.slots old.account new.account) (cc) failed');
              };
              shut = λ more. (slot, refl, record { plan = plan; sentence = sentence; failed = failed' });
              hidden = inr (inl (inl (slot, refl)));
              sure = λ other is certain. record {
                plan = plan;
                sentence = sentence;
                missing = subst (λ l. IsMissing l old.shelf other) (sym named) (sure other (cc) certain);
              };
              tree = λ fault e. absurd (no_tree (ImageFault slot) refl fault e);
            }

  -- the images are open, and the command was done, or not
  module _ (old mid new : Seen) (few : length names ≤ most_images) (opened : NoneFailed old.account mid.account) (answer : Answer)
      (behind : IsBehindCommand plan.command mid new answer) where
    -- where the command may want memory, the words may
    may_want : (x : Outside) → MayWant plan.command words x.out_calls → MayWantBy words x.out_calls
    may_want x may = inr (plan, sentence, may)

    -- where no call failed, what the command came to over the images is what the words come to over the shelf
    pub command_effect : (x y : Outside) → OpensAll names old.shelf mid.held (Ok tt)
        → IfSome mid.held (λ images. Steady mid.account.faults new.account.faults → HasOneOutcome (MayWant plan.command words x.out_calls)
        (OrMemory (λ outcome. command_outcome plan.command words images ≡ Some outcome)) x y answer)
        → IfSome old.shelf (λ shelf. Steady old.account.faults new.account.faults → HasOneOutcome (MayWantBy words x.out_calls)
        (OrMemory (IsOutcome words shelf)) x y answer)
    command_effect x y = of old.shelf mid.held
      where
        of : (shelf : Option Shelf) (held : Option Images) → OpensAll names shelf held (Ok tt)
            → IfSome held (λ images. Steady mid.account.faults new.account.faults → HasOneOutcome (MayWant plan.command words x.out_calls)
            (OrMemory (λ outcome. command_outcome plan.command words images ≡ Some outcome)) x y answer)
            → IfSome shelf (λ shelf. Steady old.account.faults new.account.faults → HasOneOutcome (MayWantBy words x.out_calls)
            (OrMemory (IsOutcome words shelf)) x y answer)
        of None held opens effect = tt
        of (Some at) None opens effect = absurd opens
        of (Some at) (Some images) opens effect = λ steady.
            comes_also (MayWant plan.command words x.out_calls) (MayWantBy words x.out_calls)
            (OrMemory (λ outcome. command_outcome plan.command words images ≡ Some outcome)) (OrMemory (IsOutcome words at)) x y answer (may_want x)
            (λ outcome one. ⊎_elim (λ (is : command_outcome plan.command words images ≡ Some outcome).
            inl (outcome_by (command_outcome plan.command words images) at outcome (taken_outcome plan.command words names at images few opens) is))
            (λ want. inr want) one)
            (effect (subst (λ n. Steady n new.account.faults) (sym opened.faults) steady))

    -- whatever failed, what the command may come to is what the words may come to
    pub command_told : (x y : Outside) → HasOneOutcome (MayWant plan.command words x.out_calls) (OrBare (MayCome plan.command words)) x y answer
        → HasOneOutcome (MayWantBy words x.out_calls) (OrBare (MayFollow words)) x y answer
    command_told x y comes =
        comes_also (MayWant plan.command words x.out_calls) (MayWantBy words x.out_calls) (OrBare (MayCome plan.command words)) (OrBare (MayFollow words)) x y
        answer (may_want x)
        (λ outcome one. ⊎_elim (λ is. inl (plan, sentence, is)) (λ bare. inr bare) one) comes

    -- images that are told in one place are the same
    the_images : (a b : Images) → ◌≡◌ {A = Option Images} (Some a) (Some b) → a ≡ b
    the_images a b e = cc e

    -- a restore of the opened images follows its journey, and so one of those that the shelf has
    pub command_order : (x y : Outside) → OpensAll names old.shelf mid.held (Ok tt)
        → ((number : ℕ) (p : RestorePlan) → plan.command ≡ Ask (Restore number p) → IfSome mid.held
        (λ images. InOrder p (get_or words number []) images mid new x y answer))
        → IfSome old.shelf (λ shelf. FollowsOrder words shelf (opened_with old.account new) new x y answer)
    command_order x y = of old.shelf mid.held
      where
        of : (shelf : Option Shelf) (held : Option Images) → OpensAll names shelf held (Ok tt)
            → ((number : ℕ) (p : RestorePlan) → plan.command ≡ Ask (Restore number p) → IfSome held
            (λ images. InOrder p (get_or words number []) images mid new x y answer))
            → IfSome shelf (λ shelf. FollowsOrder words shelf (opened_with old.account new) new x y answer)
        of None held opens order = tt
        of (Some at) None opens order = absurd opens
        of (Some at) (Some held) opens order = λ p dest images from.
            let one = one_plan words _ plan from.sentence sentence in
            let same : ◌≡◌ {A = Option Images} (Some held) (Some images) = sym opens ∙ sym
            (ap (λ (q : Plan). taken (images_of q words) at) one ∙ ap (λ l. taken l at) named) ∙ from.from in
            subst (λ before. InOrder p dest images before new x y answer)
            (opened_again old mid new opened (behind.reads (λ scrub. subst IsScrub (sym (ap (λ (q : Plan). q.command) one)) scrub)).same)
            (subst (λ d. InOrder p d images mid new x y answer) from.named
            (subst (λ i. InOrder p (get_or words from.number []) i mid new x y answer) (the_images held images same)
            (order from.number p (sym (ap (λ (q : Plan). q.command) one)))))

    -- what the command came to where the opened images agree it came to where those of the shelf do
    pub command_agreed : (x y : Outside) → OpensAll names old.shelf mid.held (Ok tt)
        → IfSome mid.held (λ images. AreAgreed images → HasOneOutcome (MayWant plan.command words x.out_calls)
        (ComesAgreed plan.command words images) x y answer)
        → IfSome old.shelf (λ shelf. FollowsAgreed words shelf x y answer)
    command_agreed x y = of old.shelf mid.held
      where
        -- what a command came to, if these images agree
        ComesIfAgreed : Command → Images → Type 0
        ComesIfAgreed command images = AreAgreed images → HasOneOutcome (MayWant command words x.out_calls) (ComesAgreed command words images) x y answer

        of : (shelf : Option Shelf) (held : Option Images) → OpensAll names shelf held (Ok tt) → IfSome held (λ images. ComesIfAgreed plan.command images)
            → IfSome shelf (λ shelf. FollowsAgreed words shelf x y answer)
        of None held opens comes = tt
        of (Some at) None opens comes = absurd opens
        of (Some at) (Some held) opens comes = λ p images asks agreed.
            let one = one_plan words _ plan asks.sentence sentence in
            let same : ◌≡◌ {A = Option Images} (Some held) (Some images) = sym opens ∙ sym
            (ap (λ (q : Plan). taken (images_of q words) at) one ∙ ap (λ l. taken l at) named) ∙ asks.from in
            let by_command : ComesIfAgreed p.command images = subst (λ c. ComesIfAgreed c images) (sym (ap (λ (q : Plan). q.command) one))
            (subst (λ i. ComesIfAgreed plan.command i) (the_images held images same) comes) in
            comes_also (MayWant p.command words x.out_calls) (MayWantBy words x.out_calls) (ComesAgreed p.command words images)
            (ComesAgreed p.command words images) x y answer
            (subst (λ c. MayWant c words x.out_calls → MayWantBy words x.out_calls) (sym (ap (λ (q : Plan). q.command) one)) (may_want x)) (λ outcome o. o)
            (by_command agreed)

    -- the words alone decide nothing, as the images aren't too many
    pub none_decided : (other : Answer) → IsDecided words other → ⊥
    none_decided other decided = omega (arith, few, (too_many_decided other decided).0)

    -- no answer of the command is one that the words alone decide
    pub command_stated : FollowsWords words answer
    command_stated = record { usage = λ at is. absurd (behind.no_usage at is); limit = λ n is. absurd (behind.no_limit n is) }

    -- what lies behind the command's answer lies behind it since before the openings
    pub command_cause : IsOpened names old mid → IsBehindWords words old new answer
    command_cause opens = record {
      image = λ slot is. record {
        plan = plan;
        sentence = sentence;
        failed = inr (mid, subst (λ l. IsOpened l old mid) (sym named) opens, behind.image slot is);
      };
      shut = λ more. absurd (omega (arith, more, behind.keeps.same_shut, opened.shut));
      hidden = ⊎_elim (λ none. inl (none_failed_twice old.account mid.account new.account opened none))
          (λ rest. ⊎_elim (λ fault. inr (inl fault)) (λ may. inr (inr (plan, sentence, may))) rest) behind.hidden;
      sure = λ slot is certain. absurd (⊎_elim (λ super. cc (sym certain ∙ sym opens.sure ∙ super.unsure))
          (λ own. cc (sym certain ∙ sym opens.sure ∙ sym (ap (λ (s : Seen). s.sure) own.1.reads.same) ∙ own.1.failed.unsure)) (behind.image slot is));
      tree = λ fault e. record {
        plan = plan;
        sentence = sentence;
        cause = λ told. let tree = behind.tree fault e in subst (λ s. (layout : Layout) × IsLayoutOf s new layout × FaultCause layout s new fault)
            (opened_again old mid new opened tree.0.same) (tree.1 told);
      };
    }

    -- the slots are those of the opened images
    same_slots : new.slots ≡ mid.slots
    same_slots = ap (λ (s : Seen). s.slots) behind.keeps.same

    -- images that were opened only to be read are unchanged behind the command
    pub command_unchanged : AreOpenedAs (opens_to_write plan.command) old.shelf mid.slots mid.held → (AsksToWrite words → ⊥)
        → AreUnchanged old.shelf new.slots new.held
    command_unchanged opens never = of (opens_to_write plan.command) refl opens
      where
        of : (write : Bool) → opens_to_write plan.command ≡ write → AreOpenedAs write old.shelf mid.slots mid.held → AreUnchanged old.shelf new.slots new.held
        of true is opens = absurd (never (plan, sentence, is))
        of false is opens = subst (λ slots. AreUnchanged old.shelf slots new.held) (sym same_slots)
            (subst (AreUnchanged old.shelf mid.slots) (sym (behind.held is)) opens)

    -- where the words ask for a scrub that writes, that is the command
    the_scrub : (images : Images) (shelf : Shelf) → ScrubsFrom words shelf images → plan.command ≡ Scrub true
    the_scrub images shelf from = sym (ap (λ (q : Plan). q.command) (one_plan words _ plan from.sentence sentence))

    -- where no call failed and memory sufficed, a scrub that writes leaves the shelf's images with what mends them
    pub command_repaired : OpensAll names old.shelf mid.held (Ok tt)
        → (plan.command ≡ Scrub true → IfSteady mid.held mid.account new.account (λ images. answer ≢ Memory → new.held ≡ Some (scrubbed_images images)))
        → IfSome old.shelf (λ shelf. Steady old.account.faults new.account.faults → answer ≢ Memory → KeepsRepair words shelf new.held)
    command_repaired = of old.shelf mid.held
      where
        of : (shelf : Option Shelf) (held : Option Images) → OpensAll names shelf held (Ok tt)
            → (plan.command ≡ Scrub true → IfSteady held mid.account new.account (λ images. answer ≢ Memory → new.held ≡ Some (scrubbed_images images)))
            → IfSome shelf (λ shelf. Steady old.account.faults new.account.faults → answer ≢ Memory → KeepsRepair words shelf new.held)
        of None held opens repaired = tt
        of (Some at) None opens repaired = absurd opens
        of (Some at) (Some held) opens repaired = λ steady enough images from.
            let one = one_plan words _ plan from.sentence sentence in
            let same : ◌≡◌ {A = Option Images} (Some held) (Some images) = sym opens ∙ sym
            (ap (λ (q : Plan). taken (images_of q words) at) one ∙ ap (λ l. taken l at) named) ∙ from.from in
            subst (λ i. new.held ≡ Some (scrubbed_images i)) (the_images held images same)
            (repaired (the_scrub images at from) (subst (λ n. Steady n new.account.faults) (sym opened.faults) steady) enough)

    -- what a scrub that writes leaves of the opened images it leaves of those that the shelf has
    pub command_left : OpensAll names old.shelf mid.held (Ok tt) → AreOpenedAs (opens_to_write plan.command) old.shelf mid.slots mid.held
        → (plan.command ≡ Scrub true → IfSome mid.held
        (λ images. IfSome new.held (λ left. LeavesImages (Steady mid.account.faults new.account.faults) images left answer)))
        → AsksToWrite words → AreLeft (Steady old.account.faults new.account.faults) old.shelf new.slots new.held answer
    command_left opens are left asks = (
      subst (λ slots. All (λ (s : Slot). s.write ≡ true) slots) (sym same_slots) (subst (λ b. All (λ (s : Slot). s.write ≡ b) mid.slots) writes are.0),
      of old.shelf mid.held opens are.1 (left (asks_scrub words plan sentence asks)),
    )
      where
        writes : opens_to_write plan.command ≡ true
        writes = ap (λ (q : Plan). opens_to_write q.command) (one_plan words plan asks.0 sentence asks.1) ∙ asks.2

        at_end : (at : Shelf) (images : Images) (o : Option Images) → taken (map (λ s. s.name) mid.slots) at ≡ Some images
            → IfSome o (λ left. LeavesImages (Steady mid.account.faults new.account.faults) images left answer)
            → IfSome o (λ left. (i : Images) × (taken (map (λ s. s.name) new.slots) at ≡ Some i)
            × LeavesImages (Steady old.account.faults new.account.faults) i left answer)
        at_end at images None took l = tt
        at_end at images (Some left) took l = (
          images,
          ap (λ slots. taken (map (λ s. s.name) slots) at) same_slots ∙ took,
          subst (λ n. LeavesImages (Steady n new.account.faults) images left answer) opened.faults l,
        )

        of : (shelf : Option Shelf) (held : Option Images) → OpensAll names shelf held (Ok tt)
            → IfSome shelf (λ at. IfSome held (λ images. taken (map (λ s. s.name) mid.slots) at ≡ Some images))
            → IfSome held (λ images. IfSome new.held (λ left. LeavesImages (Steady mid.account.faults new.account.faults) images left answer))
            → IfSome shelf (λ at. IfSome new.held (λ left. (i : Images) × (taken (map (λ s. s.name) new.slots) at ≡ Some i)
            × LeavesImages (Steady old.account.faults new.account.faults) i left answer))
        of None held opens are left = tt
        of (Some at) None opens are left = absurd opens
        of (Some at) (Some images) opens are left = at_end at images new.held are left

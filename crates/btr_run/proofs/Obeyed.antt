-- The words are obeyed, by the step that ends it.
use Rattle.std.proofs.Common.{◌≡◌, ◌∙◌, ⊎_elim, inl, inr, false, ℕ, ◌<◌, ◌≤◌, ◌++◌, length, Option, Err, refl, sym, ap, ap₂, subst, true}
use Rattle.btr_rack.specs.Rack.{Seen}
use Rattle.btr_scrub_copies.specs.Turns.{waiting}
use Rattle.btr_scrub_copies.specs.Writes.{In}
use Rattle.btr_run.specs.Agreeing.{ComesAgreed}
use Rattle.btr_run.specs.Commands.{MayCome, MayWant, opens_to_write}
use Rattle.btr_run.specs.Effects.{IsOutcome, MayFollow, MayWantBy}
use Rattle.btr_run.specs.Images.{AreOpenedAs, AreUnchanged, IsMissing, most_images}
use Rattle.btr_run.specs.Opening.{HasTooMany, IsOpened, OpeningCause, opening_answer}
use Rattle.btr_restore.specs.Running.{Outside}
use Rattle.btr_run.specs.Outcomes.{HasOneOutcome, OrBare, OrMemory}
use Rattle.btr_run.specs.Repaired.{AsksToWrite}
use Rattle.btr_run.specs.Run.{Eyes, Given, HasTried, IsObeyed, IsPerformed, Run, outside_in}
use Rattle.btr_run.specs.SelfTested.{AsksToTry, IsTrialOf, TakesImages}
use Rattle.btr_run.specs.Words.{Words, IsSentence, IsUsageAt, images_of}
use Rattle.btr_run.specs.declared.answer.Answer.{Answer}
use Rattle.btr_run.specs.declared.answer.Answer.TheVariants.{Usage}
use Rattle.btr_run.specs.declared.opening.OpeningFault.{OpeningFault}
use Rattle.btr_run.specs.declared.opening.OpeningFault.TheVariants.{Failed}
use Rattle.btr_run.specs.declared.plan.Command.TheVariants.{SelfTest}
use Rattle.btr_run.specs.declared.plan.Plan.{Plan}
use Rattle.btr_volume.specs.Start.{Images}
use Rattle.btr_volume.specs.declared.which.Which.TheVariants.{Images as images_limit}
use Rattle.btr_run.proofs.Carrying as carrying
use Rattle.btr_run.proofs.Coming.{comes_also}
use Rattle.btr_run.proofs.Named.{none_named}
use Rattle.btr_run.proofs.Obeying as obeying
use Rattle.btr_run.proofs.SelfTests.{IsPlain, is_plain, its_command, no_trial, plain_cause, some_trial}

-- what waits for a sync is the same
waits_as : (a b : Seen) → a.unsynced ≡ b.unsynced → a.never_synced ≡ b.never_synced → waiting a ≡ waiting b
waits_as a b unsynced never_synced = ap₂ (λ l m. l ++ m) unsynced never_synced

module _ {R T O : Type 0} (eyes : Eyes R T O) (words : Words) (old : Given R T O) (stored : eyes.waits old.tree ≡ false) where
  -- a run that ends with this answer, after these changes
  abbrev ends : R → T → O → Answer → Run R T O
  ends rack tree out answer = record { eyes = eyes; words = words; old = old; new = record { rack = rack; tree = tree; out = out }; answer = answer }

  -- words that are no sentence
  pub usage : (at : ℕ) → IsUsageAt words at → AreUnchanged (eyes.seen old.rack).shelf (eyes.seen old.rack).slots (eyes.seen old.rack).held
      → IsObeyed (ends old.rack old.tree old.out (Usage at))
  usage at is unchanged = record {
    effect = carrying.usage_effect words at is (eyes.seen old.rack).shelf (eyes.seen old.rack).account.faults (eyes.seen old.rack).account.faults
        (outside_in eyes old);
    told = carrying.usage_told words at is (outside_in eyes old);
    order = carrying.usage_order words at is (eyes.seen old.rack).shelf _ _ (outside_in eyes old);
    agreed = carrying.usage_agreed words at is (eyes.seen old.rack).shelf (outside_in eyes old);
    decided = λ answer decided. (refl, refl, carrying.usage_decided words at is answer decided);
    stated = carrying.usage_stated words at is;
    stored = λ undone other. stored;
    alone = λ never. refl;
    cause = carrying.usage_cause words at is (eyes.seen old.rack);
    unchanged = λ never. unchanged;
    repaired = carrying.usage_repaired words at is (eyes.seen old.rack).shelf _ (eyes.seen old.rack).held;
    left = λ asks. absurd (carrying.usage_left words at is asks);
    synced = λ asks. absurd (carrying.usage_left words at is asks);
    waits = λ asks. absurd (carrying.usage_left words at is asks);
  }

  -- a self-test
  module _ (plan : Plan) (sentence : IsSentence plan words) (number : ℕ) (is : plan.command ≡ SelfTest number) (volume : Option Images) (out : O)
      (answer : Answer)
      (comes : HasOneOutcome (Unit {0}) (IsTrialOf volume number) (outside_in eyes old) (outside_in eyes (record old { out = out })) answer) where
    -- the sink and the output before the self-test
    abbrev x : Outside
    x = outside_in eyes old

    -- the sink and the output behind the self-test
    abbrev y : Outside
    y = outside_in eyes (record old { out = out })

    -- the words ask for this self-test
    asks : AsksToTry words number
    asks = record { plan = plan; sentence = sentence; command = is }

    -- the answer speaks of no image, no tree and no words
    plain : IsPlain answer
    plain = is_plain volume number x y answer comes

    -- a self-test may want memory
    may : Unit {0} → MayWantBy words x.out_calls
    may t = inr (plan, sentence, subst (λ c. MayWant c words x.out_calls) (sym is) tt)

    -- the words ask for no command that takes images
    other : (p : Plan) → IsSentence p words → TakesImages p.command → ⊥
    other p s takes = no_trial words p number s asks takes

    -- the words don't ask to write into images
    never_writes : AsksToWrite words → ⊥
    never_writes write = cc (sym write.2 ∙ ap opens_to_write (its_command words write.0 number write.1 asks))

    -- the self-test was done, and the rack and the sink are as they were
    pub has_tried : HasTried (ends old.rack old.tree out answer) volume
    has_tried n tries = (
      refl,
      refl,
      subst (λ m. HasOneOutcome (Unit {0}) (IsTrialOf volume m) x y answer) (same n (sym is ∙ its_command words plan n sentence tries)) comes,
    )
      where
        same : (n : ℕ) → SelfTest number ≡ SelfTest n → number ≡ n
        same n e = cc e

    -- by a self-test the words were obeyed
    pub tried : AreUnchanged (eyes.seen old.rack).shelf (eyes.seen old.rack).slots (eyes.seen old.rack).held → IsObeyed (ends old.rack old.tree out answer)
    tried unchanged = record {
      effect = carrying.all_told (eyes.seen old.rack).shelf _ (λ s steady.
          comes_also (Unit {0}) (MayWantBy words x.out_calls) (IsTrialOf volume number) (OrMemory (IsOutcome words s)) x y answer may
          (λ outcome one. inl (inr (inr (number, asks, some_trial volume number outcome one)))) comes);
      told = comes_also (Unit {0}) (MayWantBy words x.out_calls) (IsTrialOf volume number) (OrBare (MayFollow words)) x y answer may
          (λ outcome one. inl (plan, sentence, subst (λ c. MayCome c words outcome) (sym is) (some_trial volume number outcome one))) comes;
      order = carrying.all_told (eyes.seen old.rack).shelf _ (λ s p dest images from. absurd (other _ from.sentence (λ n e. cc)));
      agreed = carrying.all_told (eyes.seen old.rack).shelf _ (λ s p images from agreed.
          comes_also (Unit {0}) (MayWantBy words x.out_calls) (IsTrialOf volume number) (ComesAgreed p.command words images) x y answer may
          (λ outcome one. subst (λ c. ComesAgreed c words images outcome) (sym (its_command words p number from.sentence asks))
          (inl (some_trial volume number outcome one))) comes);
      decided = λ one decided.
          absurd (⊎_elim (λ usage. usage.1.no_sentence plan sentence)
          (λ many. none_named many.0 words number many.1 (its_command words many.0 number many.1 asks) many.2) decided);
      stated = record { usage = λ at e. absurd (plain.usage at e); limit = λ n e. absurd (plain.limit images_limit n e) };
      stored = λ undone no_sink. stored;
      alone = λ never. refl;
      cause = plain_cause words (eyes.seen old.rack) answer plain;
      unchanged = λ never. unchanged;
      repaired = carrying.all_told (eyes.seen old.rack).shelf _ (λ s unfailing enough images from. absurd (other _ from.sentence (λ n e. cc)));
      left = λ asks. absurd (never_writes asks);
      synced = λ asks. absurd (never_writes asks);
      waits = λ asks. absurd (never_writes asks);
    }

  -- the images aren't open
  module _ (names : Words) (plan : Plan) (sentence : IsSentence plan words) (named : images_of plan words ≡ names) where
    -- where the images aren't open, the words were obeyed by the answer of that
    pub unopened : (rack : R) (fault : OpeningFault) → HasTooMany names (Err fault)
        → OpeningCause (opens_to_write plan.command) names (eyes.seen old.rack) (eyes.seen rack) (Err fault)
        → (most_images < length names → rack ≡ old.rack)
        → ((slot : ℕ) → fault ≡ Failed slot → (eyes.seen old.rack).sure ≡ true → IsMissing names (eyes.seen old.rack).shelf slot)
        → AreOpenedAs (opens_to_write plan.command) (eyes.seen old.rack).shelf (eyes.seen rack).slots (eyes.seen rack).held
        → (eyes.seen rack).unsynced ≡ (eyes.seen old.rack).unsynced → (eyes.seen rack).never_synced ≡ (eyes.seen old.rack).never_synced
        → (answer : Answer) → answer ≡ opening_answer fault → IsObeyed (ends rack old.tree old.out answer)
    unopened rack fault many cause early sure opened unsynced never_synced answer is = record {
      effect = obeying.opening_effect words names plan sentence named (eyes.seen old.rack) (eyes.seen rack) fault many cause (eyes.seen old.rack).shelf
          (outside_in eyes old) answer is;
      told = obeying.opening_told words names plan sentence named (eyes.seen old.rack) (eyes.seen rack) fault many cause (outside_in eyes old) answer is;
      order = obeying.opening_order words names plan sentence named (eyes.seen old.rack) (eyes.seen rack) fault many cause (eyes.seen old.rack).shelf _
          (outside_in eyes old) answer is;
      agreed = obeying.opening_agreed words names plan sentence named (eyes.seen old.rack) (eyes.seen rack) fault many cause (eyes.seen old.rack).shelf
          (outside_in eyes old) answer is;
      decided = λ other decided.
          let all = obeying.opening_decided words names plan sentence named (eyes.seen old.rack) (eyes.seen rack) fault many cause answer other is decided in
          (early all.0, refl, all.1);
      stated = obeying.opening_stated words names plan sentence named (eyes.seen old.rack) (eyes.seen rack) fault many cause answer is;
      stored = λ undone other. stored;
      alone = λ never. refl;
      cause = obeying.opening_cause words names plan sentence named (eyes.seen old.rack) (eyes.seen rack) fault many cause answer is sure;
      unchanged = obeying.opening_unchanged words names plan sentence named (eyes.seen old.rack) (eyes.seen rack) fault many cause opened;
      repaired = obeying.opening_repaired words names plan sentence named (eyes.seen old.rack) (eyes.seen rack) fault many cause answer is;
      left = obeying.opening_left words names plan sentence named (eyes.seen old.rack) (eyes.seen rack) fault many cause _ answer is opened;
      synced = λ asks lost e. absurd (obeying.opening_unfinished words names plan sentence named (eyes.seen old.rack)
          (eyes.seen rack) fault many cause answer is lost e);
      waits = λ asks none. inl (λ range there. inl (subst (In range) (waits_as (eyes.seen rack) (eyes.seen old.rack) unsynced never_synced) there));
    }

    -- the command was done, or not
    pub performed : (mid rack : R) (tree : T) (out : O) (answer : Answer)
        → length names ≤ most_images
        → IsOpened names (eyes.seen old.rack) (eyes.seen mid)
        → AreOpenedAs (opens_to_write plan.command) (eyes.seen old.rack).shelf (eyes.seen mid).slots (eyes.seen mid).held
        → IsPerformed (record {
          eyes = eyes;
          words = words;
          old = record old { rack = mid };
          new = record { rack = rack; tree = tree; out = out };
          answer =
              answer;
        }) plan.command
        → IsObeyed (ends rack tree out answer)
    performed mid rack tree out answer few opens opened did = record {
      effect = obeying.command_effect words names plan sentence named (eyes.seen old.rack) (eyes.seen mid) (eyes.seen rack) few opens.account answer did.cause
          (outside_in eyes old) y opens.images did.effect;
      told = obeying.command_told words names plan sentence named (eyes.seen old.rack) (eyes.seen mid) (eyes.seen rack) few opens.account answer did.cause
          (outside_in eyes old) y did.told;
      order = obeying.command_order words names plan sentence named (eyes.seen old.rack) (eyes.seen mid) (eyes.seen rack) few opens.account answer did.cause
          (outside_in eyes old) y opens.images did.order;
      agreed = obeying.command_agreed words names plan sentence named (eyes.seen old.rack) (eyes.seen mid) (eyes.seen rack) few opens.account answer did.cause
          (outside_in eyes old) y opens.images did.agreed;
      decided = λ other decided. absurd (obeying.none_decided words names plan sentence named (eyes.seen old.rack) (eyes.seen mid)
          (eyes.seen rack) few opens.account answer did.cause other decided);
      stated = obeying.command_stated words names plan sentence named (eyes.seen old.rack) (eyes.seen mid) (eyes.seen rack) few opens.account answer did.cause;
      stored = did.stored;
      alone = λ never. did.alone (λ calls. never (plan, sentence, calls));
      cause = obeying.command_cause words names plan sentence named (eyes.seen old.rack) (eyes.seen mid)
          (eyes.seen rack) few opens.account answer did.cause opens;
      unchanged = obeying.command_unchanged words names plan sentence named (eyes.seen old.rack) (eyes.seen mid)
          (eyes.seen rack) few opens.account answer did.cause opened;
      repaired = obeying.command_repaired words names plan sentence named (eyes.seen old.rack) (eyes.seen mid)
          (eyes.seen rack) few opens.account answer did.cause opens.images (λ is. (did.leaves is).repaired);
      left = obeying.command_left words names plan sentence named (eyes.seen old.rack) (eyes.seen mid)
          (eyes.seen rack) few opens.account answer did.cause opens.images opened (λ is. (did.leaves is).left);
      synced = λ asks lost e none. (did.leaves (obeying.asks_scrub words plan sentence asks)).synced lost e (opens.unsynced ∙ none);
      waits = λ asks none.
          ⊎_elim (λ before. inl (λ range there.
          ⊎_elim (λ was. inl (subst (In range) (waits_as (eyes.seen mid) (eyes.seen old.rack) opens.unsynced opens.never_synced) was))
          (λ never. absurd never) (before range there)))
          (λ waits. inr (record {
            plan = plan;
            sentence = sentence;
            opened = eyes.seen mid;
            is = subst (λ l. IsOpened l (eyes.seen old.rack) (eyes.seen mid)) (sym named) opens;
            waits = waits;
          })) ((did.leaves (obeying.asks_scrub words plan sentence asks)).waits (opens.unsynced ∙ none));
    }
      where
        y : Outside
        y = outside_in eyes (record { rack = rack; tree = tree; out = out })

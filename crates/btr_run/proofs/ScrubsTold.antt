-- What is told of a scrub, and what it leaves, by what it answers.
use Rattle.std.proofs.Common.{◌≡◌, inl, inr, ⊎_elim, ℕ, Bool, true, List, Option, Some, Result, Ok, Err, refl, sym, ap, ◌∙◌, subst}
use Rattle.std.specs.Option.{IfSome}
use Rattle.btr_rack.specs.Out.{CallAccount, Counts, Puts}
use Rattle.btr_rack.specs.declared.error.SinkError.{SinkError}
use Rattle.btr_rack.specs.declared.error.SinkError.TheVariants.{Failed, Memory as memory_fault}
use Rattle.btr_rack.specs.Rack.{Seen, Steady}
use Rattle.btr_scrub.specs.declared.tally.Tally.{Tally}
use Rattle.btr_volume.specs.Start.{Images}
use Rattle.btr_run.specs.Agreeing.{IsScrubbedOrUnread, ScrubsAgreed}
use Rattle.btr_run.specs.Unopened.{AreAgreed}
use Rattle.btr_run.specs.Checked.{found}
use Rattle.btr_run.specs.Commands.{IsBehindCommand}
use Rattle.btr_run.specs.Outcomes.{OrBare, OrMemory, Outcome, ShowsOutcome, due_after, refused, showing}
use Rattle.btr_run.specs.Repaired.{LeavesImages, LeavesScrubbed, MayWrite, Scrubs, ScrubsTo, WaitsInChunk}
use Rattle.btr_run.specs.Shown.{ShowsCommand}
use Rattle.btr_run.specs.Scrubbed.{IsScrubOutcome, scrub_outcome, tally_shown, tally_text}
use Rattle.btr_run.specs.declared.answer.Answer.{Answer}
use Rattle.btr_run.specs.declared.plan.Command.TheVariants.{Scrub}
use Rattle.btr_run.proofs.Found.{found_no_memory}
use Rattle.btr_run.proofs.Checks.{found_no_fault, listed_no_image, listed_no_tree, listed_none}
use Rattle.btr_run.proofs.Coming.{shows_bare}
use Rattle.btr_read.proofs.Fetched.{map_some}
use Rattle.btr_run.proofs.Faulting.{no_tree}
use Rattle.btr_run.proofs.TreesShown.{NoneOf, mends_of}

-- The scrub was refused, before any text.
module _ (write : Bool) (old new : Seen) (answer result : Answer) (is : result ≡ answer) (s : Scrubs write old new (Err answer)) where
  -- what a scrub of the images comes to, or want of memory
  abbrev IsOneOf : Images → Outcome → Type 0
  IsOneOf images = OrMemory (λ outcome. Some (scrub_outcome write images) ≡ Some outcome)

  module _ (text : Option (List ℕ)) (account : CallAccount) where
    -- the answer's line alone, as one of some outcomes
    line_of : (IsOne : Outcome → Type 0) → IsOne (refused answer) → ShowsOutcome IsOne text text account account result
    line_of IsOne one = subst (ShowsOutcome IsOne text text account account) (sym is) (shows_bare IsOne text account answer one s.bare.no_fault)

    -- a scrub that was refused showed nothing but the line of its answer
    pub refused_shown : IfSome old.held (λ images. AreAgreed images → ScrubsAgreed write images (Err answer))
        → ShowsCommand (Scrub write) old new text text account account result
    refused_shown agreed = record {
      effect = map_some old.held (λ images. Steady old.account.faults new.account.faults → ScrubsTo write images (Err answer)) _
          (λ images to steady. line_of (IsOneOf images) (⊎_elim (λ both. inl (ap (λ o. Some o) both.0)) (λ want. inr (ap refused want)) (to steady)))
          s.content;
      agreed = map_some old.held (λ images. AreAgreed images → ScrubsAgreed write images (Err answer)) _
          (λ images to agree. line_of (IsScrubbedOrUnread write images) (to agree)) agreed;
      told = line_of (OrBare IsScrubOutcome) (inr (refl, s.bare.line));
      cause = subst (IsBehindCommand (Scrub write) old new) (sym is) s.behind;
    }

  -- a scrub that writes and was refused leaves the images as such a one may
  pub refused_leaves : write ≡ true → LeavesScrubbed old new result
  refused_leaves w = subst (LeavesScrubbed old new) (sym is) (s.leaves w)

-- The scrub was done, and its line put.
module _ (write : Bool) (old new : Seen) (tally : Tally) (s : Scrubs write old new (Ok tally)) (put : Result Unit SinkError) (result : Answer)
    (due : result ≡ due_after put (found tally.lost)) where
  -- behind the answer of a scrub that was done lies what lies behind its counts
  done_cause : IsBehindCommand (Scrub write) old new result
  done_cause = subst (IsBehindCommand (Scrub write) old new) (sym due) (record {
    keeps = s.behind.keeps;
    reads = s.behind.reads;
    held = s.behind.held;
    image = λ slot e. absurd (listed_no_image tally.lost put slot e);
    tree = λ f e. absurd (no_tree (due_after put (found tally.lost)) (listed_no_tree tally.lost put) f e);
    hidden = inr (inr (mends_of (due_after put (found tally.lost)) (listed_none tally.lost put)));
    no_usage = λ n e. subst NoneOf e (listed_none tally.lost put);
    no_limit = λ n e. subst NoneOf e (listed_none tally.lost put);
  })

  module _ (text text' : Option (List ℕ)) (before after : CallAccount) (puts : Puts text text' (tally_text tally) put) (counted : Counts before after put) where
    -- the line of the counts was put, or a first part of it, as one of some outcomes
    shown_so : (IsOne : Outcome → Type 0) → IsOne (showing (tally_shown tally)) → ShowsOutcome IsOne text text' before after result
    shown_so IsOne one = record {
      shown = tally_shown tally;
      is_one = one;
      no_fault = found_no_fault tally.lost;
      put = record
          { put = put; puts = puts; counts = counted; due = due };
    }

    -- a scrub that was done showed the line of its counts
    pub done_shown : IfSome old.held (λ images. AreAgreed images → ScrubsAgreed write images (Ok tally))
        → ShowsCommand (Scrub write) old new text text' before after result
    done_shown agreed = record {
      effect = map_some old.held (λ images. Steady old.account.faults new.account.faults → ScrubsTo write images (Ok tally)) _
          (λ images to steady. shown_so (OrMemory (λ outcome. Some (scrub_outcome write images) ≡ Some outcome)) (inl (ap (λ o. Some o) (to steady))))
          s.content;
      agreed = map_some old.held (λ images. AreAgreed images → ScrubsAgreed write images (Ok tally)) _
          (λ images to agree. shown_so (IsScrubbedOrUnread write images) (inl (inl (to agree)))) agreed;
      told = shown_so (OrBare IsScrubOutcome) (inl (record { tally = tally; is = refl }));
      cause = done_cause;
    }

  -- the answer is one behind which images may have been written
  may_write : MayWrite result
  may_write = of put due
    where
      of : (p : Result Unit SinkError) → result ≡ due_after p (found tally.lost) → MayWrite result
      of (Ok u) d = inr (tally.lost, d)
      of (Err Failed) d = inl (inr (inr (inl d)))
      of (Err memory_fault) d = inl (inr (inr (inr d)))

  -- a scrub that writes and was done leaves the images as such a one may, also where its line wasn't put
  pub done_leaves : write ≡ true → LeavesScrubbed old new result
  done_leaves w = record {
    repaired = map_some old.held _ _ (λ images stands steady enough. stands steady (found_no_memory tally.lost)) l.repaired;
    left = map_some old.held (λ images. IfSome new.held (λ left. LeavesImages (Steady old.account.faults new.account.faults) images left (found tally.lost))) _
        (λ images held. map_some new.held (λ left. LeavesImages (Steady old.account.faults new.account.faults) images left (found tally.lost)) _
        (λ left leaves. record {
          stopped = leaves.stopped;
          finished = λ lost e sure. leaves.finished tally.lost refl sure;
          unchanged = inr may_write;
          safe = leaves.safe;
        }) held) l.left;
    synced = λ lost e. l.synced tally.lost refl;
    waits = λ none. ⊎_elim (λ before. inl before) (λ (w : WaitsInChunk old new (found tally.lost)). inr (record {
      mid = w.mid;
      reads = w.reads;
      later = w.later;
      since = λ slot e. absurd (listed_no_image tally.lost put slot (sym due ∙ e));
      layout = w.layout;
      is = w.is;
      waits = w.waits;
    })) (l.waits none);
  }
    where
      l : LeavesScrubbed old new (found tally.lost)
      l = s.leaves w

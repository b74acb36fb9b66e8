-- What a scrub comes to where the copies of each block agree, whatever failed.
use Rattle.std.proofs.Common.{◌≡◌, inl, inr, ℕ, Bool, List, [], Option, Some, None, IsSomeAnd, Result, Ok, Err, refl, sym, ap, ◌∙◌, subst}
use Rattle.std.specs.Option.{IfSome}
use Rattle.btr_chunk.specs.declared.stripe.Stripe.{Stripe}
use Rattle.btr_scrub_copies.specs.declared.mended.MendFault.{MendFault}
use Rattle.btr_scrub_copies.specs.declared.mended.MendFault.TheVariants as mend
use Rattle.btr_prog.specs.Answers.{Follows, no_part}
use Rattle.btr_prog.specs.Prog.{exec}
use Rattle.btr_rack.specs.Rack.{OnlyReads, Seen}
use Rattle.btr_read.specs.Fate.{Agreed, Fault}
use Rattle.btr_read.specs.Fate as fault
use Rattle.btr_read.specs.Layout.{Layout}
use Rattle.btr_scrub.specs.Filesystem as scrubbed
use Rattle.btr_scrub.specs.Gathering.{wants_among}
use Rattle.btr_read.specs.declared.want.Want.{Want}
use Rattle.btr_scrub.specs.Judging.{IsFirstRefused, IsRefused}
use Rattle.btr_scrub.proofs.Refusing.{refused_one}
use Rattle.btr_scrub.specs.Repair.{effect, effect_of_ending, effect_unless, first_missing, meeting}
use Rattle.btr_scrub.specs.Scrubbed.{AnswersAs, HasEffect, IsScrubbed, called}
use Rattle.btr_scrub.specs.Units.{Met, units_in}
use Rattle.btr_scrub.specs.Whole.{Failed, Goes, Listed, Listing, Refused, ScrubsAll, Stopped}
use Rattle.btr_scrub.specs.Whole as whole
use Rattle.btr_scrub.specs.declared.tally.Tally.{Tally}
use Rattle.btr_volume.specs.Start.{Images}
use Rattle.btr_volume.specs.declared.stop.Stop.{Stop}
use Rattle.btr_volume.specs.declared.stop.Stop.TheVariants as stop
use Rattle.btr_volume.specs.declared.volume.Volume.{Volume}
use Rattle.btr_walk.specs.Reading.{unread_by}
use Rattle.btr_walk.specs.declared.fault.TreeFault.{TreeFault}
use Rattle.btr_walk.specs.declared.fault.TreeFault.TheVariants as tree
use Rattle.btr_run.specs.Agreeing.{LacksUnits, ScrubsAgreed}
use Rattle.btr_run.specs.Unopened.{AreAgreed}
use Rattle.btr_run.specs.Faults.{stop_answer}
use Rattle.btr_run.specs.Filesystem.{OpensAs, filesystem_in, filesystem_of}
use Rattle.btr_run.specs.Outcomes.{Outcome, refused, showing}
use Rattle.btr_run.specs.Scrubbed.{filesystem_as, scrub_ended, scrub_in, scrub_outcome, scrub_unless, tally_shown}
use Rattle.btr_run.specs.declared.answer.Answer.TheVariants.{Unread}
use Rattle.btr_run.proofs.Agreements.{agreeing_opened, at_map}
use Rattle.btr_run.proofs.Mendings.{answered, outcome_by}
use Rattle.btr_run.proofs.Wanted.{names_wanted}
use Rattle.btr_volume.specs.Stops.{stop_halt}

-- what an answer of the call comes to
abbrev pub shown_of : Result Tally Stop → Outcome
shown_of (Ok tally) = showing (tally_shown tally)
shown_of (Err end) = refused (stop_answer end)

-- what a scrub comes to by the end of its listing is the answer of its effect
ended_as : (write : Bool) (images : Images) (fs : scrubbed.Filesystem) (r : Result (Unit {0}) Fault)
    → scrub_ended write images fs r ≡ shown_of (effect_of_ending write images fs r).answer
ended_as write images fs (Err (fault.Lost a)) = refl
ended_as write images fs ending = refl

-- the same where a device may be missing
unless_as : (write : Bool) (images : Images) (fs : scrubbed.Filesystem) (o : Option Stripe)
    → scrub_unless write images fs o ≡ shown_of (effect_unless write images fs o).answer
unless_as write images fs (Some stripe) = refl
unless_as write images fs None = ended_as write images fs (meeting images fs).ending

-- where a clause holds of something that is there, something is there of which it holds
some_left : {X : Type 0} (o : Option X) (P : X → Type 0) → IsSomeAnd o P → (x : X) × P x
some_left None P h = absurd h
some_left (Some x) P h = (x, h)

module _ (write : Bool) (old mid new : Seen) (first : OnlyReads old mid) (volume : Volume)
    (opens : IfSome old.held (λ images. OpensAs images old mid (Ok volume))) (result : Result Tally Stop)
    (done : IsScrubbed (called volume write mid new result))
    (missing : IfSome (first_missing volume.store.layout) (λ stripe. (result ≡ Err (stop.Missing stripe.devid)) × (new ≡ mid)))
    (scrubs : first_missing volume.store.layout ≡ None → ScrubsAll volume.sup volume.store.layout write mid new result) where
  -- the volume's filesystem as it is scrubbed
  abbrev fs : scrubbed.Filesystem
  fs = filesystem_as (filesystem_in volume)

  abbrev layout : Layout
  layout = volume.store.layout

  -- a block that could not be read is one that is wanted where the checked blocks are listed
  module _ (images : Images) (told : mid.held ≡ Some images) (o : filesystem_of images ≡ Ok (filesystem_in volume)) (agreed : Agreed images layout)
      (addr slot : ℕ) (is : result ≡ Err (stop.Tree (tree.Unread addr slot))) where
    -- a scrub whose listing was made doesn't answer that a block could not be read
    is_listed : (ended : Result (Unit {0}) MendFault) (tally : Tally) → result ≡ whole.answer_of ended tally → ⊥
    is_listed (Ok u) tally says = cc (sym says ∙ is)
    is_listed (Err (mend.Image s)) tally says = cc (sym says ∙ is)
    is_listed (Err mend.Memory) tally says = cc (sym says ∙ is)

    -- a block that is refused for its place isn't answered as one that could not be read
    unread_refused : (f : TreeFault) (from : ℕ) (want : Want) → result ≡ Err (stop.Tree f) → IsRefused layout from want f → ⊥
    unread_refused (tree.Lost a) from want e u = u
    unread_refused (tree.Unread a s) from want e u = u
    unread_refused (tree.Unmapped a) from want e u = cc (sym e ∙ is)
    unread_refused (tree.Crosses a) from want e u = cc (sym e ∙ is)
    unread_refused (tree.Malformed a) from want e u = cc (sym e ∙ is)

    -- so it is with the first block of a list that is refused
    is_refused : (f : TreeFault) (wants : List Want) → result ≡ Err (stop.Tree f) → IsFirstRefused layout 0 wants f → ⊥
    is_refused f wants e r = let one = refused_one layout 0 wants f r in unread_refused f one.0 one.1.0 e one.1.1

    -- the listing was stopped there, at a block that it wants
    by : (at : Seen) (met : List Met) (l : Listing) → Goes volume.sup layout write mid at new met result l → LacksUnits images (refused (Unread addr slot))
    by at met Listed g = absurd (is_listed g.1.ended g.1.tally g.1.says)
    by at met (Failed other) g = cc (sym g.0 ∙ is)
    by at met (Refused f) g = absurd (is_refused f (wants_among met) g.0 g.2)
    by at met (Stopped why) g =
        let same : why ≡ stop.Tree (tree.Unread addr slot) = cc (sym g.0 ∙ is) in
        let follows = at_map layout mid at images
        (λ B. Follows (unread_by layout mid at) no_part [] (exec B (units_in volume.sup layout.chunks)) met (Err (stop_halt why))) told agreed g.2 in
        record {
          fs = filesystem_in volume;
          opened = o;
          unread = record { addr = addr; slot = slot };
          wanted = names_wanted layout mid at (record { addr = addr; slot = slot }) (meeting images fs) met
              (subst (λ w. Follows (unread_by layout mid at) no_part [] (meeting images fs) met (Err (stop_halt w))) same follows);
          bare = refl;
        }

    -- whether a device is missing or none, the block is one that the listing wants
    lacks : LacksUnits images (refused (Unread addr slot))
    lacks = of (first_missing layout) refl missing
      where
        of : (m : Option Stripe) → first_missing layout ≡ m → IfSome m (λ stripe. (result ≡ Err (stop.Missing stripe.devid)) × (new ≡ mid))
            → LacksUnits images (refused (Unread addr slot))
        of (Some stripe) e gone = absurd (cc (sym gone.0 ∙ is))
        of None e gone = let s = scrubs e in by s.mid s.done s.listing s.goes

  module _ (images left : Images) (o : filesystem_of images ≡ Ok (filesystem_in volume)) where
    -- what a scrub comes to is the answer of its effect on the images
    outcome_is : scrub_outcome write images ≡ shown_of (effect write images fs).answer
    outcome_is = outcome_by write images ∙ ap (scrub_in write images) o ∙ unless_as write images fs (first_missing fs.layout)

    -- an answer that is the effect's is what the scrub comes to
    same : (r : Result Tally Stop) → result ≡ r → HasEffect (called volume write mid new result) images left → scrub_outcome write images ≡ shown_of r
    same r is h = outcome_is ∙ ap shown_of (sym h.answer ∙ is)

    -- the same of each answer over images that agree, but for a block that could not be read, a failed image and want of memory
    to : mid.held ≡ Some images → Agreed images layout → (r : Result Tally Stop) → result ≡ r → AnswersAs (called volume write mid new result) images left r
        → ScrubsAgreed write images (answered r)
    to told agreed (Ok tally) is h = same (Ok tally) is h
    to told agreed (Err (stop.NoTree id)) is h = inl (inl (same (Err (stop.NoTree id)) is h))
    to told agreed (Err (stop.Tree (tree.Lost a))) is h = inl (inl (same (Err (stop.Tree (tree.Lost a))) is h))
    to told agreed (Err (stop.Tree (tree.Unread a slot))) is h = inr (lacks images told o agreed a slot is)
    to told agreed (Err (stop.Tree (tree.Unmapped a))) is h = inl (inl (same (Err (stop.Tree (tree.Unmapped a))) is h))
    to told agreed (Err (stop.Tree (tree.Crosses a))) is h = inl (inl (same (Err (stop.Tree (tree.Crosses a))) is h))
    to told agreed (Err (stop.Tree (tree.Malformed a))) is h = inl (inl (same (Err (stop.Tree (tree.Malformed a))) is h))
    to told agreed (Err (stop.Missing devid)) is h = inl (inl (same (Err (stop.Missing devid)) is h))
    to told agreed (Err (stop.Image slot)) is h = inl (inr (inr (inl (slot, refl))))
    to told agreed (Err stop.Memory) is h = inl (inr (inr (inr refl)))
    to told agreed (Err (stop.Deletion id)) is h = absurd h
    to told agreed (Err stop.Balance) is h = absurd h
    to told agreed (Err stop.Sink) is h = absurd h
    to told agreed (Err stop.Out) is h = absurd h

  -- over images that agree a scrub is done with their counts or refusal, or says what could not be read, or that there is no memory
  pub scrubs_agreed : IfSome old.held (λ images. AreAgreed images → ScrubsAgreed write images (answered result))
  scrubs_agreed = agreeing_opened old mid volume opens (λ images. ScrubsAgreed write images (answered result)) (λ images told o agreed.
      let held : mid.held ≡ Some images = ap (λ (s : Seen). s.held) first.same ∙ told in
      let sure = done.answers (inr (subst (λ (h : Option Images). IfSome h (λ i. Agreed i volume.store.layout)) (sym held) agreed)) in
      let l = some_left new.held (λ left. AnswersAs (called volume write mid new result) images left result)
      (subst (λ (h : Option Images). IfSome h (λ i. IsSomeAnd new.held
      (λ left. AnswersAs (called volume write mid new result) i left result))) held sure) in
      to images l.0 o held agreed result refl l.1)

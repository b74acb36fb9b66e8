-- What a scrub of an open filesystem comes to.
use Rattle.std.proofs.Common.{◌≡◌, ◌⊎◌, inl, inr, ⊎_elim, ℕ, Bool, true, false, List, [], fold, Option, Some, None, Result, Ok, Err, refl, sym, ap, ◌∙◌, subst}
use Rattle.std.proofs.Common.{arith}
use Rattle.std.specs.Option.{IfSome}
use Rattle.std.specs.Prelude.{IsSomeAnd, OnOk}
use Rattle.btr_check.specs.Running.{OfReading}
use Rattle.btr_scrub_copies.specs.Writes.{AccountsMend, FailsAt, IsStopped, LeaveImages, Write, write_on, writes_if}
use Rattle.btr_scrub_copies.specs.declared.mended.MendFault.{MendFault}
use Rattle.btr_scrub_copies.specs.declared.mended.MendFault.TheVariants as mend
use Rattle.btr_prog.specs.Answers.{Follows, no_part}
use Rattle.btr_prog.specs.Prog.{exec, wants_of}
use Rattle.btr_rack.specs.Rack.{OnlyReads, Rose, Seen, Steady}
use Rattle.btr_rack.proofs.Reading.{reads_more}
use Rattle.btr_read.specs.Fate.{Agreed, Fault, fate}
use Rattle.btr_read.specs.Fate as fault
use Rattle.btr_read.specs.Layout.{Layout}
use Rattle.btr_read.specs.Reading.{AgreedOn}
use Rattle.btr_scrub.specs.Filesystem as scrubbed
use Rattle.btr_scrub.specs.Gathering.{StopCause, TreeCause, wants_among, count_met}
use Rattle.btr_read.specs.declared.want.Want.{Want}
use Rattle.btr_scrub.specs.Judging.{IsFirstRefused, IsRefused}
use Rattle.btr_scrub.proofs.Refusing.{refused_one}
use Rattle.btr_scrub.specs.Repair.{effect_of_ending, effect_unless, first_missing, meeting, met, writes}
use Rattle.btr_scrub.specs.Right.{Committed, IsCommitted, SparedStand}
use Rattle.btr_scrub.specs.Scrubbed.{IsSafe, called}
use Rattle.btr_scrub_copies.specs.Syncing.{plain}
use Rattle.btr_scrub.specs.WrittenRanges.{LiesInStripe}
use Rattle.btr_run.proofs.Performing.{reads_keep}
use Rattle.btr_scrub.specs.Scrubbing.{IsOfScrub, Works}
use Rattle.btr_scrub.specs.Units.{Met, units_in}
use Rattle.btr_scrub.specs.Whole.{Failed, Goes, Listed, ListedCounts, ListedWrites, Listing, Refused, ScrubsAll, Stopped, first_tally, listed_count_for}
use Rattle.btr_scrub.specs.Whole.{listed_writes_for}
use Rattle.btr_scrub.specs.Whole as whole
use Rattle.btr_scrub.specs.declared.tally.Tally.{Tally}
use Rattle.btr_chunk.specs.Table.{IsTable}
use Rattle.btr_chunk.specs.declared.stripe.Stripe.{Stripe}
use Rattle.btr_volume.specs.Start.{Images}
use Rattle.btr_volume.specs.declared.stop.Stop.{Stop}
use Rattle.btr_volume.specs.declared.stop.Stop.TheVariants as stop
use Rattle.btr_volume.specs.declared.volume.Volume.{Volume}
use Rattle.btr_walk.proofs.Fetched.{cause_since}
use Rattle.btr_walk.specs.Reading.{FaultCause, Map, Tells, unread_by}
use Rattle.btr_walk.specs.declared.fault.TreeFault.{TreeFault}
use Rattle.btr_walk.specs.declared.fault.TreeFault.TheVariants as tree
use Rattle.btr_run.specs.Unopened.{AreAgreed}
use Rattle.btr_run.specs.Behind.{HasToldCause, IfSteady, IsBehind, IsNoCrossing}
use Rattle.btr_run.specs.Answers.{error_line}
use Rattle.btr_run.specs.Checked.{found}
use Rattle.btr_run.specs.Commands.{IsBehindCommand, KeepsRack, ScrubFails}
use Rattle.btr_run.specs.Faults.{stop_answer, tree_answer}
use Rattle.btr_run.specs.Filesystem.{Filesystem, MayMend, OpensAs, OpensFilesystem, fault_answer, filesystem_in, filesystem_of}
use Rattle.btr_run.specs.Outcomes.{refused, showing}
use Rattle.btr_run.specs.Repaired.{KeepsBlocks, LeavesImages, MayWrite, Scrubs, ScrubsTo, WaitsInChunk}
use Rattle.btr_run.specs.Scrubbed.{counts, filesystem_as, mending_writes, scrub_ended, scrub_in, scrub_outcome, scrub_unless, scrubbed_images, scrubbed_in}
use Rattle.btr_run.specs.Scrubbed.{tally_shown, writes_in}
use Rattle.btr_run.specs.declared.answer.Answer.{Answer}
use Rattle.btr_run.specs.declared.answer.Answer.TheVariants.{ImageFault, Memory, MissingDevice}
use Rattle.btr_run.specs.declared.plan.Command.TheVariants.{Scrub}
use Rattle.btr_run.proofs.Filesystems.{opened_layout}
use Rattle.btr_run.proofs.Agreements.{agreeing, agreeing_opened}
use Rattle.btr_run.proofs.Found.{found_line, found_no_memory}
use Rattle.btr_volume.proofs.Readings.{some_fresh}
use Rattle.btr_volume.proofs.Readings.{rose_behind}
use Rattle.btr_run.proofs.Checks.{listed_no_image, listed_no_tree, listed_none, stop_no_fault, stop_line, stop_no_image, stop_none}
use Rattle.btr_run.proofs.Faulting.{no_tree, tree_back, tree_in}
use Rattle.btr_run.proofs.TreesShown.{NoneOf, mends_of, none_unread, steadily}
use Rattle.btr_run.proofs.Mendings.{answered, each_told, images_by, left_nothing, outcome_by, stop_place, left_alone, told_at}
use Rattle.btr_trial.proofs.Filesystems.{images_in}
use Rattle.btr_read.proofs.Compared.{steady_not_rose}
use Rattle.btr_run.proofs.Mendings.{unwritten}
use Rattle.btr_run.proofs.Mendings.{writes_by}
use Rattle.btr_volume.specs.Stops.{stop_halt}

-- an answer that has a line isn't that of a scrub that was finished
no_line : (answer : Answer) → (error_line answer ≡ [] → ⊥) → (lost : ℕ) → answer ≡ found lost → ⊥
no_line answer line lost e = line (ap error_line e ∙ found_line lost)

-- The filesystem is open.
module _ (write : Bool) (old mid : Seen) (first : OnlyReads old mid) (volume : Volume)
    (content : IfSteady old.held old.account mid.account (λ images. OpensFilesystem images (Ok volume)))
    (opened : IfSome old.held (λ images. OpensAs images old mid (Ok volume))) where
  abbrev layout : Layout
  layout = volume.store.layout

  abbrev fs : scrubbed.Filesystem
  fs = filesystem_as (filesystem_in volume)

  -- the images' filesystem is the volume's, and something holds of their block map
  abbrev Both : (Map → Type 0) → Images → Type 0
  Both P images = (filesystem_of images ≡ Ok (filesystem_in volume)) × P (fate images layout)

  -- what was told of the block map
  sure_told : (P : Map → Type 0) (at : Seen) → OnlyReads mid at → Tells layout mid at P → (images : Images) → old.held ≡ Some images
      → Steady old.account.faults at.account.faults ⊎ AreAgreed images → Both P images
  sure_told P at second tells images told sure =
      ⊎_elim (λ steady. (
        told_at old.held (λ i. Steady old.account.faults mid.account.faults → OpensFilesystem i (Ok volume)) images told content
            (omega (arith, steady.0, second.later), omega (arith, steady.1, second.later)),
        told_at mid.held (λ i. Steady mid.account.faults at.account.faults → P (fate i layout)) images (ap (λ (s : Seen). s.held) first.same ∙ told)
            (steadily layout mid at P tells) (omega (arith, steady.0, first.later), steady.1),
      )) (λ agreed. told_at old.held (λ i. AreAgreed i → Both P i) images told
      (agreeing true old mid at first volume opened P (Both P) (λ i o p. (o, p)) tells) agreed) sure

  -- each checked block can be had from what is left, where it was sure what the images hold
  abbrev HasBlocks : Seen → Type 0
  HasBlocks new = Steady mid.account.faults new.account.faults ⊎ AgreedOn layout mid.held
      → IfSome mid.held (λ images. IsSomeAnd new.held (λ left. (C : Committed) → IsCommitted images fs C → SparedStand images left fs C))

  -- so each checked block that the images' filesystem can spare can be had from what is left
  keeps_blocks : (new : Seen) → HasBlocks new → (images left : Images) → old.held ≡ Some images → new.held ≡ Some left
      → Steady old.account.faults new.account.faults ⊎ AreAgreed images → filesystem_of images ≡ Ok (filesystem_in volume) → KeepsBlocks images left
  keeps_blocks new had images left told told' sure opens other C is_other =
      subst (λ (f : Filesystem). IsCommitted images (filesystem_as f) C → SparedStand images left (filesystem_as f) C)
      (one (sym opens ∙ is_other))
      (subst (λ (o : Option Images). IsSomeAnd o (λ l. (D : Committed) → IsCommitted images fs D → SparedStand images l fs D)) told'
      (told_at mid.held (λ i. IsSomeAnd new.held (λ l. (D : Committed) → IsCommitted i fs D → SparedStand i l fs D)) images held (had is_sure)) C)
    where
      one : {a b : Filesystem} → ◌≡◌ {A = Result Filesystem Answer} (Ok a) (Ok b) → a ≡ b
      one e = cc e

      held : mid.held ≡ Some images
      held = ap (λ (s : Seen). s.held) first.same ∙ told

      -- images that agree do so by the layout of the volume
      agreed_at : AreAgreed images → AgreedOn layout mid.held
      agreed_at agreed = subst (λ (o : Option Images). IfSome o (λ i. Agreed i layout)) (sym held)
          (told_at old.held (λ i. AreAgreed i → Agreed i layout) images told
          (agreeing_opened old mid volume opened (λ i. Agreed i layout) (λ i at o agrees. agrees)) agreed)

      is_sure : Steady mid.account.faults new.account.faults ⊎ AgreedOn layout mid.held
      is_sure = ⊎_elim (λ steady. inl (omega (arith, steady.0, first.later), steady.1)) (λ agreed. inr (agreed_at agreed)) sure

  -- a device isn't given
  module _ (stripe : Stripe) (missing : first_missing layout ≡ Some stripe) where
    -- the scrub of the images comes to that refusal, and changes no byte
    missing_to : (images : Images) → filesystem_of images ≡ Ok (filesystem_in volume) → ScrubsTo write images (Err (MissingDevice stripe.devid))
    missing_to images o = inl (
      outcome_by write images ∙ ap (scrub_in write images) o ∙ ap (scrub_unless write images fs) missing,
      images_by images ∙ ap (scrubbed_in images) o ∙ ap (λ m. (effect_unless true images fs m).images) missing,
    )

    -- behind that refusal the images were only read
    missing_behind : IsBehind MayMend IsNoCrossing old mid (MissingDevice stripe.devid)
    missing_behind = record {
      reads = first;
      image = λ slot e. absurd (cc e);
      tree = λ f e told. absurd (no_tree (MissingDevice stripe.devid) refl f e);
      hidden = inr (inr (mends_of (MissingDevice stripe.devid) tt));
      no_usage = λ at e. cc;
      no_limit = λ n e. cc;
    }

    -- a scrub without a device was done: it is refused
    pub lacking : Scrubs write old mid (Err (MissingDevice stripe.devid))
    lacking = unwritten write old mid (MissingDevice stripe.devid) missing_behind
        (record { no_fault = record { no_out = λ e. cc; no_sink = λ e. cc }; line = λ e. cc })
        (each_told old.held (λ images. Steady old.account.faults mid.account.faults → ScrubsTo write images (Err (MissingDevice stripe.devid)))
        (λ images told steady. missing_to images
        (told_at old.held (λ i. Steady old.account.faults mid.account.faults → OpensFilesystem i (Ok volume)) images told content steady)))

  module _ (given : first_missing layout ≡ None) (at : Seen) (second : OnlyReads mid at) where
    -- the images were only read until the blocks were listed
    all : OnlyReads old at
    all = reads_more first second

    -- the blocks can't be listed
    ending_refused : (images : Images) (f : Fault) → filesystem_of images ≡ Ok (filesystem_in volume) → (meeting images fs).ending ≡ Err f
        → (scrub_outcome write images ≡ refused (fault_answer f)) × (scrubbed_images images ≡ images)
    ending_refused images f o e = (
      outcome_by write images ∙ ap (scrub_in write images) o ∙ ap (scrub_unless write images fs) given ∙ ap (scrub_ended write images fs) e,
      images_by images ∙ ap (scrubbed_in images) o ∙ ap (λ m. (effect_unless true images fs m).images) given
          ∙ ap (λ r. (effect_of_ending true images fs r).images) e,
    )

    module _ (why : Stop) (cause : StopCause {A = Tally} layout mid at (Err why)) where
      -- the stop of a listing is one of a call that only reads blocks
      reading : OfReading why
      reading = of why cause
        where
          of : (s : Stop) → StopCause {A = Tally} layout mid at (Err s) → OfReading s
          of (stop.NoTree id) c = tt
          of (stop.Tree f) c = tt
          of stop.Memory c = tt
          of other c = absurd c

      -- a fault of a tree at which the listing stopped has its cause, but for a block that crosses
      told_cause : HasToldCause IsNoCrossing old at (stop_answer why)
      told_cause f e told = (layout, opened_layout old mid at volume first second opened, of why cause (ap tree_in e ∙ tree_back f))
        where
          by : (g : TreeFault) → IsNoCrossing g → TreeCause layout mid at g → FaultCause layout old at g
          by (tree.Lost a) t c = cause_since at layout layout (tree.Lost a) refl first c
          by (tree.Unread a slot) t c = cause_since at layout layout (tree.Unread a slot) refl first c
          by (tree.Unmapped a) t c = cause_since at layout layout (tree.Unmapped a) refl first c
          by (tree.Crosses a) t c = absurd t
          by (tree.Malformed a) t c = tt

          of : (s : Stop) → StopCause {A = Tally} layout mid at (Err s) → tree_in (stop_answer s) ≡ Some f → FaultCause layout old at f
          of (stop.Tree g) c e = let same : g ≡ f = cc (sym (tree_back g) ∙ e) in by f told (subst (TreeCause layout mid at) same c)
          of (stop.NoTree id) c e = absurd (cc e)
          of (stop.Deletion id) c e = absurd (cc e)
          of stop.Balance c e = absurd (cc e)
          of (stop.Missing id) c e = absurd (cc e)
          of (stop.Image slot) c e = absurd (cc e)
          of stop.Sink c e = absurd (cc e)
          of stop.Out c e = absurd (cc e)
          of stop.Memory c e = absurd (cc e)

      -- what lies behind the answer of a listing that stopped
      behind : IsBehind MayMend IsNoCrossing old at (stop_answer why)
      behind = record {
        reads = all;
        image = λ slot e. absurd (stop_no_image why reading slot e);
        tree = told_cause;
        hidden = inr (inr (mends_of (stop_answer why) (stop_none why reading)));
        no_usage = λ n e. subst NoneOf e (stop_none why reading);
        no_limit = λ n e. subst NoneOf e (stop_none why reading);
      }

      -- a scrub whose listing stopped was done, if its answer is what the images come to
      pub halted : IfSteady old.held old.account at.account (λ images. ScrubsTo write images (Err (stop_answer why)))
          → Scrubs write old at (Err (stop_answer why))
      halted to = unwritten write old at (stop_answer why) behind (record { no_fault = stop_no_fault why reading; line = stop_line why reading }) to

      -- a scrub whose listing stopped by what the blocks are was done
      pub listing_stopped : (done : List Met) → Tells layout mid at
          (λ B. Follows (unread_by layout mid at) no_part [] (exec B (units_in volume.sup layout.chunks)) done (Err (stop_halt why)))
          → Scrubs write old at (Err (stop_answer why))
      listing_stopped done tells =
          halted (each_told old.held (λ images. Steady old.account.faults at.account.faults → ScrubsTo write images (Err (stop_answer why)))
          (λ images told steady.
          let h = sure_told (λ B. Follows (unread_by layout mid at) no_part [] (exec B (units_in volume.sup layout.chunks)) done
          (Err (stop_halt why))) at second tells images told (inl steady) in
          of images (omega (arith, steady.0, first.later), steady.1) h.0 why h.1 cause))
        where
          of : (images : Images) → Steady mid.account.faults at.account.faults → filesystem_of images ≡ Ok (filesystem_in volume) → (s : Stop)
              → Follows (unread_by layout mid at) no_part [] (exec (fate images layout) (units_in volume.sup layout.chunks)) done (Err (stop_halt s))
              → StopCause {A = Tally} layout mid at (Err s) → ScrubsTo write images (Err (stop_answer s))
          of images steady o (stop.NoTree id) f c = inl (ending_refused images (fault.NoTree id) o f.1)
          of images steady o (stop.Tree (tree.Lost a)) f c = inl (ending_refused images (fault.Lost a) o f.1)
          of images steady o (stop.Tree (tree.Unmapped a)) f c = inl (ending_refused images (fault.Unmapped a) o f.1)
          of images steady o (stop.Tree (tree.Crosses a)) f c = inl (ending_refused images (fault.Crosses a) o f.1)
          of images steady o (stop.Tree (tree.Malformed a)) f c = inl (ending_refused images (fault.Malformed a) o f.1)
          of images steady o (stop.Tree (tree.Unread a slot)) f c = absurd
              (none_unread layout mid at steady (record { addr = a; slot = slot }) (wants_of f.before) f.holds)
          of images steady o stop.Memory f c = inr refl
          of images steady o other f c = absurd c

    -- a list that is refused
    refused_cause : (f : TreeFault) (from : ℕ) (want : Want) → IsRefused layout from want f → StopCause {A = Tally} layout mid at (Err (stop.Tree f))
    refused_cause (tree.Lost a) from want u = absurd u
    refused_cause (tree.Unread a slot) from want u = absurd u
    refused_cause (tree.Unmapped a) from want u = (want, u)
    refused_cause (tree.Crosses a) from want u = inl (want, u)
    refused_cause (tree.Malformed a) from want u = tt

    -- a scrub whose list is refused was done
    pub listing_refused : (f : TreeFault) (wants : List Want) → IsFirstRefused layout 0 wants f → Tells layout mid at (λ B. ⊥)
        → Scrubs write old at (Err (tree_answer f))
    listing_refused f wants r tells = let one = refused_one layout 0 wants f r in halted (stop.Tree f) (refused_cause f one.0 one.1.0 one.1.1)
        (each_told old.held (λ images. Steady old.account.faults at.account.faults → ScrubsTo write images (Err (tree_answer f)))
        (λ images told steady. absurd (sure_told (λ B. ⊥) at second tells images told (inl steady)).1))

    -- an image failed as listed blocks were looked at
    module _ (new : Seen) (later : OnlyReads at new) (slot : ℕ) (f : FailsAt (LiesInStripe layout) slot at new) where
      -- the images were only read until that image failed
      looked : OnlyReads old new
      looked = reads_more all later

      -- the call that failed then is a read of the scrub, in a stripe of the layout
      unlooked : ScrubFails old new slot
      unlooked = record {
        mid = at;
        reads = all;
        layout = layout;
        is = opened_layout old mid at volume first second opened;
        failed = record {
          place = f.place;
          of_scrub = inr f.lies;
          on_slot = f.on_slot;
          unsure = f.failed.unsure;
          last = f.failed.one.last;
          no_opening = f.failed.read;
          faults = f.failed.one.faults;
          fresh = some_fresh at.account.fresh new.account.fresh f.failed.one.fresh;
          shut = f.failed.shut;
        };
      }

      -- a scrub of which an image failed then was done: it answers that image
      pub listing_failed : Scrubs write old new (Err (ImageFault slot))
      listing_failed = left_alone write old new (ImageFault slot) looked
          (record {
            keeps = reads_keep old new looked;
            reads = λ none. looked;
            held = λ is. ap (λ (s : Seen). s.held) looked.same;
            image = λ other e. inr (tt, subst (ScrubFails old new) (the_slot slot other e) unlooked);
            tree = λ g e. absurd (no_tree (ImageFault slot) refl g e);
            hidden = inr (inr (mends_of (ImageFault slot) tt));
            no_usage = λ n e. cc;
            no_limit = λ n e. cc;
          })
          (record { no_fault = record { no_out = λ e. cc; no_sink = λ e. cc }; line = λ e. cc })
          (each_told old.held (λ images. Steady old.account.faults new.account.faults → ScrubsTo write images (Err (ImageFault slot)))
          (λ images told steady. absurd (steady_not_rose old.account.faults new.account.faults steady
          (rose_behind old.account.faults at.account.faults new.account.faults all.later f.failed.one.faults))))
        where
          the_slot : (a b : ℕ) → ImageFault a ≡ ImageFault b → a ≡ b
          the_slot a b e = cc e

    -- the blocks were listed, and mended
    module _ (listed : ListedWrites) (countings : ListedCounts) (table : IsTable layout.chunks) (new : Seen) (had : HasBlocks new) (done : List Met)
        (tells : Tells layout mid at (λ B. Follows (unread_by layout mid at) no_part [] (exec B (units_in volume.sup layout.chunks)) done (Ok tt))) where
      -- the writes that the listed blocks need over some images
      abbrev ws : Images → List Write
      ws images = listed_writes_for layout (wants_among done) images

      -- by this block map the listing comes to its end with the blocks that were listed
      abbrev Is : Map → Type 0
      Is B = Follows (unread_by layout mid at) no_part [] (exec B (units_in volume.sup layout.chunks)) done (Ok tt)

      module _ (tally : Tally) (ended : Result (Unit {0}) MendFault)
          (works : Works layout write (listed_writes_for layout (wants_among done))
          (listed_count_for layout write (wants_among done)) at new
          (first_tally (fold count_met 0 done)) tally ended) where
        -- where no call failed in all, none failed until the blocks were listed
        since : Steady old.account.faults new.account.faults → Steady old.account.faults at.account.faults
        since steady = (omega (arith, steady.0, works.does.only.later), omega (arith, steady.1, works.does.only.later))

        -- the images are as they were once the blocks were listed
        at_images : (images : Images) → old.held ≡ Some images → at.held ≡ Some images
        at_images images told = ap (λ (s : Seen). s.held) all.same ∙ told

        -- the writes that the listed blocks need are those of the scrub of the images
        writes_are : (images : Images) → done ≡ met images fs → ws images ≡ writes images fs
        writes_are images is = ap (λ d. listed_writes_for layout (wants_among d) images) is ∙ listed images fs

        -- the rack is as before, but for what the images hold and what waits for a sync
        keeps : KeepsRack old new
        keeps = record {
          same = ap (λ (s : Seen). record s { unsynced = new.unsynced; never_synced = new.never_synced }) works.does.only.same
              ∙ ap (λ (s : Seen). record s { held = new.held; unsynced = new.unsynced; never_synced = new.never_synced; account = new.account }) all.same;
          later = omega (arith, all.later, works.does.only.later);
          same_shut = works.does.only.same_shut ∙ all.same_shut;
        }

        -- the images are left with the writes that were done, by how the mending ended
        held_as : (e : Result (Unit {0}) MendFault) → ended ≡ e → (images : Images) → old.held ≡ Some images
            → LeaveImages (λ i. writes_if write (ws i)) (Some images) new.held e
        held_as e is images told = subst (λ (o : Option Images). LeaveImages (λ i. writes_if write (ws i)) o new.held e) (at_images images told)
            (subst (λ r. LeaveImages (λ i. writes_if write (ws i)) at.held new.held r) is works.does.held)

        -- a scrub that only reads leaves each byte
        unheld : write ≡ false → new.held ≡ old.held
        unheld is =
            left_nothing at.held new.held ended (subst (λ b. LeaveImages (λ i. writes_if b (ws i)) at.held new.held ended) is works.does.held)
            ∙ ap (λ (s : Seen). s.held) all.same

        -- what stands in the images, by an answer behind which they may have been written
        leaves : (answer : Answer) → MayWrite answer
            → ((images left : Images) → old.held ≡ Some images → new.held ≡ Some left → (lost : ℕ) → answer ≡ found lost → write ≡ true → Both Is images
            → left ≡ scrubbed_images images)
            → write ≡ true → IfSome old.held (λ images. IfSome new.held
            (λ left. LeavesImages (Steady old.account.faults new.account.faults) images left answer))
        leaves answer may all is =
            each_told old.held (λ images. IfSome new.held (λ left. LeavesImages (Steady old.account.faults new.account.faults) images left answer))
            (λ images told. each_told new.held (λ left. LeavesImages (Steady old.account.faults new.account.faults) images left answer)
            (λ left told'. record {
              stopped = λ sure. stopped_at images left told told'
                  (sure_told Is at second tells images told (⊎_elim (λ steady. inl (since steady)) (λ agreed. inr agreed) sure));
              finished = λ lost e sure. all images left told told' lost e is
                  (sure_told Is at second tells images told (⊎_elim (λ steady. inl (since steady)) (λ agreed. inr agreed) sure));
              unchanged = inr may;
              safe = λ sure. inr (keeps_blocks new had images left told told' sure
                  (sure_told Is at second tells images told (⊎_elim (λ steady. inl (since steady)) (λ agreed. inr agreed) sure)).0);
            }))
          where
            stopped_at : (images left : Images) → old.held ≡ Some images → new.held ≡ Some left → Both Is images → IsStopped (mending_writes images) images left
            stopped_at images left told told' h =
                let mending : writes_if write (ws images) ≡ mending_writes images = ap (λ b. writes_if b (ws images)) is ∙ writes_are images h.1.0
                ∙ sym (writes_by images ∙ ap (writes_in images) h.0 ∙ ap (λ m. (effect_unless true images fs m).writes) given
                ∙ ap (λ r. (effect_of_ending true images fs r).writes) h.1.1) in
                subst (λ w. IsStopped w images left) mending
                (stop_place (λ i. writes_if write (ws i)) images left ended
                (subst (λ (o : Option Images). LeaveImages (λ i. writes_if write (ws i)) (Some images) o ended) told' (held_as ended refl images told)))

        -- a call of the mending that failed is one of the scrub
        unmended : (slot : ℕ) → FailsAt (IsOfScrub layout) slot (plain at) (plain new) → ScrubFails old new slot
        unmended slot f = record {
          mid = at;
          reads = all;
          layout = layout;
          is = opened_layout old mid at volume first second opened;
          failed = record {
            place = f.place;
            of_scrub = f.lies;
            on_slot = f.on_slot;
            unsure = f.failed.unsure;
            last = f.failed.one.last;
            no_opening = f.failed.read;
            faults = f.failed.one.faults;
            fresh = some_fresh at.account.fresh new.account.fresh f.failed.one.fresh;
            shut = f.failed.shut;
          };
        }

        -- where nothing waited for a sync before, nothing does once the blocks were listed
        none_yet : old.unsynced ≡ [] → at.unsynced ≡ []
        none_yet none = ap (λ (s : Seen). s.unsynced) all.same ∙ none

        -- what waits for a sync lies in stripes of one chunk
        in_chunk : (answer : Answer) → ((slot : ℕ) → answer ≡ ImageFault slot → Rose at.account.faults new.account.faults) → old.unsynced ≡ []
            → WaitsInChunk old new answer
        in_chunk answer since none = record {
          mid = at;
          reads = all;
          later = works.does.only.later;
          since = since;
          layout = layout;
          is = opened_layout old mid at volume first second opened;
          waits = works.waits (none_yet none);
        }

        -- what lies behind an answer that is no fault of a tree and none that the words or the superblocks alone decide
        by_none : (answer : Answer) → tree_in answer ≡ None → NoneOf answer → ((slot : ℕ) → answer ≡ ImageFault slot → ScrubFails old new slot)
            → IsBehindCommand (Scrub write) old new answer
        by_none answer none other image = record {
          keeps = keeps;
          reads = λ never. absurd (never tt);
          held = unheld;
          image = λ slot e. inr (tt, image slot e);
          tree = λ f e. absurd (no_tree answer none f e);
          hidden = inr (inr (mends_of answer other));
          no_usage = λ n e. subst NoneOf e other;
          no_limit = λ n e. subst NoneOf e other;
        }

        -- the scrub was done, by how the mending ended
        mended : (e : Result (Unit {0}) MendFault) → ended ≡ e → Scrubs write old new (answered (whole.answer_of e tally))
        mended (Err (mend.Image slot)) is = record {
          content = each_told old.held (λ images. Steady old.account.faults new.account.faults → ScrubsTo write images (Err (ImageFault slot)))
              (λ images told steady. absurd (steady_not_rose old.account.faults new.account.faults steady rose));
          bare = record { no_fault = record { no_out = λ e. cc; no_sink = λ e. cc }; line = λ e. cc };
          behind = by_none (ImageFault slot) refl tt (λ other e. subst (ScrubFails old new) (the_slot slot other e) (unmended slot failed));
          leaves = λ w. record {
            repaired = each_told old.held _ (λ images told steady. absurd (steady_not_rose old.account.faults new.account.faults steady rose));
            left = leaves (ImageFault slot) (inl (inl (slot, refl)))
                (λ images left told told' lost e w h. absurd (no_line (ImageFault slot) (λ l. cc l) lost e)) w;
            synced = λ lost e. absurd (no_line (ImageFault slot) (λ l. cc l) lost e);
            waits = λ none. inr (in_chunk (ImageFault slot) (λ other e. failed.failed.one.faults) none);
          };
        }
          where
            failed : FailsAt (IsOfScrub layout) slot (plain at) (plain new)
            failed = subst (λ r. AccountsMend (IsOfScrub layout) (plain at) (plain new) r) is works.does.account

            rose : Rose old.account.faults new.account.faults
            rose = rose_behind old.account.faults at.account.faults new.account.faults all.later failed.failed.one.faults

            the_slot : (a b : ℕ) → ImageFault a ≡ ImageFault b → a ≡ b
            the_slot a b e = cc e
        mended (Err mend.Memory) is = record {
          content = each_told old.held (λ images. Steady old.account.faults new.account.faults → ScrubsTo write images (Err Memory))
              (λ images told steady. inr refl);
          bare = record { no_fault = record { no_out = λ e. cc; no_sink = λ e. cc }; line = λ e. cc };
          behind = by_none Memory refl tt (λ slot e. absurd (cc e));
          leaves = λ w. record {
            repaired = each_told old.held _ (λ images told steady enough. absurd (enough refl));
            left = leaves Memory (inl (inr (inr (inr refl)))) (λ images left told told' lost e w h. absurd (found_no_memory lost (sym e))) w;
            synced = λ lost e. absurd (found_no_memory lost (sym e));
            waits = λ none. inr (in_chunk Memory (λ slot e. absurd (cc e)) none);
          };
        }
        mended (Ok u) is = record {
          content = each_told old.held (λ images. Steady old.account.faults new.account.faults → ScrubsTo write images (Ok tally))
              (λ images told steady. counted images told (sure_told Is at second tells images told (inl (since steady))));
          bare = tt;
          behind = by_none (found tally.lost) (listed_no_tree tally.lost (Ok tt)) (listed_none tally.lost (Ok tt))
              (λ slot e. absurd (listed_no_image tally.lost (Ok tt) slot e));
          leaves = λ w. record {
            repaired = each_told old.held _ (λ images told steady enough. stands images told w (sure_told Is at second tells images told (inl (since steady))));
            left = leaves (found tally.lost) (inr (tally.lost, refl))
                (λ images left told told' lost e w h. images_in left (scrubbed_images images) (sym told' ∙ stands images told w h)) w;
            synced = λ lost e none. subst (λ r. OnOk r (at.unsynced ≡ [] → new.unsynced ≡ [])) is works.synced (none_yet none);
            waits = λ none. inr (in_chunk (found tally.lost) (λ slot e. absurd (listed_no_image tally.lost (Ok tt) slot e)) none);
          };
        }
          where
            -- the counts are those that follow from the images
            tally_is : (images : Images) → old.held ≡ Some images → done ≡ met images fs → tally ≡ counts write images fs
            tally_is images told same =
                told_at at.held (λ i. tally ≡ listed_count_for layout write (wants_among done) i
                (first_tally (fold count_met 0 done))) images
                (at_images images told)
                (subst (λ r. OnOk r (IfSome at.held (λ i. tally ≡ listed_count_for layout write (wants_among done) i
                (first_tally (fold count_met 0 done))))) is works.counts)
                ∙ ap (λ d. listed_count_for layout write (wants_among d) images
                (first_tally (fold count_met 0 d))) same
                ∙ countings images fs write table

            -- what the scrub comes to over the images is the line of these counts
            counted : (images : Images) → old.held ≡ Some images → Both Is images → scrub_outcome write images ≡ showing (tally_shown tally)
            counted images told h =
                outcome_by write images ∙ ap (scrub_in write images) h.0 ∙ ap (scrub_unless write images fs) given ∙ ap (scrub_ended write images fs) h.1.1
                ∙ ap (λ t. showing (tally_shown t)) (sym (tally_is images told h.1.0))

            -- the images hold the writes that mend their filesystem
            stands : (images : Images) → old.held ≡ Some images → write ≡ true → Both Is images → new.held ≡ Some (scrubbed_images images)
            stands images told w h =
                held_as (Ok u) is images told ∙ ap (λ b. Some (fold write_on images (writes_if b (ws images)))) w
                ∙ ap (λ l. Some (fold write_on images l)) (writes_are images h.1.0)
                ∙ sym (ap (λ (i : Images). Some i) (images_by images ∙ ap (scrubbed_in images) h.0 ∙ ap (λ m. (effect_unless true images fs m).images) given
                ∙ ap (λ r. (effect_of_ending true images fs r).images) h.1.1))

        -- a scrub whose blocks were listed was done, however its mending ended
        pub worked : Scrubs write old new (answered (whole.answer_of ended tally))
        worked = mended ended refl

  -- what the call came to
  pub scrubs_so : ListedWrites → ListedCounts → IsTable layout.chunks → (new : Seen) (result : Result Tally Stop)
      → IfSome (first_missing layout) (λ stripe. (result ≡ Err (stop.Missing stripe.devid)) × (new ≡ mid))
      → (first_missing layout ≡ None → ScrubsAll volume.sup layout write mid new result)
      → IsSafe (called volume write mid new result) → Scrubs write old new (answered result)
  scrubs_so listed countings table new result missing scrubs safe = of (first_missing layout) refl missing
    where
      ended_as : (r : Result Tally Stop) (n : Seen) → result ≡ r → new ≡ n → Scrubs write old n (answered r) → Scrubs write old new (answered result)
      ended_as r n is same s = subst (λ q. Scrubs write old new (answered q)) (sym is) (subst (λ m. Scrubs write old m (answered r)) (sym same) s)

      by : (given : first_missing layout ≡ None) (at : Seen) → OnlyReads mid at → (done : List Met) (l : Listing)
          → Goes volume.sup layout write mid at new done result l → Scrubs write old new (answered result)
      by given at second done (Stopped why) g = ended_as (Err why) at g.0 g.1 (listing_stopped given at second why g.3 done g.2)
      by given at second done Listed g = ended_as (whole.answer_of g.1.ended g.1.tally) new g.1.says refl
          (worked given at second listed countings table new safe.left done g.0 g.1.tally g.1.ended g.1.works)
      by given at second done (Failed slot) g = ended_as (Err (stop.Image slot)) new g.0 refl (listing_failed given at second new g.1 slot g.2)
      by given at second done (Refused f) g = ended_as (Err (stop.Tree f)) at g.0 g.1 (listing_refused given at second f (wants_among done) g.2 g.3)

      of : (m : Option Stripe) → first_missing layout ≡ m → IfSome m (λ stripe. (result ≡ Err (stop.Missing stripe.devid)) × (new ≡ mid))
          → Scrubs write old new (answered result)
      of (Some stripe) is gone = ended_as (Err (stop.Missing stripe.devid)) mid gone.0 gone.1 (lacking stripe is)
      of None is gone = let s = scrubs is in by is s.mid s.reads s.done s.listing s.goes

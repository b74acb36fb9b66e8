-- What a call of scrub answers and leaves, from what it did.
use Rattle.std.proofs.Common.{◌≡◌, ℕ, ◌<◌, ◌≤◌, Bool, true, false, cond, List, [], map, Option, Some, None, IfSome, IsSomeAnd, Result, Ok, Err, refl, sym, ap}
use Rattle.std.proofs.Common.{◌∙◌, subst, inl, inr, arith, All}
use Rattle.std.proofs.lemmas.List.{append-nil}
use Rattle.btr_scrub.proofs.Common.{AccountsMend, Fault, Follows, HaveLengths, HaveOwnSlots, Image, Images, IsOfScrub, IsTable, KeepsOutside, Layout}
use Rattle.btr_scrub.proofs.Common.{LiesInStripe, Map, Memory, MendFault, Met, OnlyReads, Range, Seen, Serves, Stripe, Tally, Tells, TreeFault, Volume, Works}
use Rattle.btr_scrub.proofs.Common.{Write, count_met, exec, first_missing, first_tally, fold, listed_count_for, listed_writes_for, no_part, option_map, plain}
use Rattle.btr_scrub.proofs.Common.{reads_more, same_Some, serving, units_in, unread_by, waiting, wants_among, write_on, writes_if}
use Rattle.btr_prog.specs.Calls.{First, Any}
use Rattle.btr_rack.specs.Rack.{Rose, IsRack}
use Rattle.btr_read.specs.Fate.{fate}
use Rattle.btr_read.specs.Fate as fates
use Rattle.btr_walk.specs.declared.fault.TreeFault.TheVariants as tree
use Rattle.btr_volume.specs.declared.stop.Stop.{Stop}
use Rattle.btr_volume.specs.declared.stop.Stop.TheVariants as stop
use Rattle.btr_scrub_copies.specs.Writes.{FailsAt, In, IsStopped, LeaveImages}
use Rattle.btr_scrub_copies.proofs.Doing.{stopped_first}
use Rattle.btr_scrub_copies.proofs.Turning.{fails_plain, read_at}
use Rattle.btr_scrub.specs.Gathering.{StopCause}
use Rattle.btr_scrub.specs.Repair.{Effect, devid_of, effect, effect_of_ending, effect_unless, meeting, stood_tally, stop_of, tally, writes}
use Rattle.btr_scrub.specs.Right.{Committed, IsCommitted, RangesLeaveFresh, RangesLieInWrong, RangesMayHoldAnything, SparedStand}
use Rattle.btr_scrub.specs.Scrubbed.{AnswersAs, Called, HasEffect, IsImageFault, IsLeftBy, IsSafe, IsScrubbed, IsSure, OfImages, ReadsAt, called}
use Rattle.btr_scrub.specs.Whole.{Failed, Goes, Listed, Listing, Refused, ScrubsAll, Stopped, answer_of}
use Rattle.btr_scrub.proofs.Outside.{works_keep_the_rest}
use Rattle.btr_scrub.proofs.Pasting.{keeps_none}
use Rattle.btr_scrub.proofs.Safe.{leave_fresh, lie_in_wrong, may_hold_anything}
use Rattle.btr_scrub.proofs.Scrubbing.{tell, told}
use Rattle.btr_scrub.proofs.Tallying.{listed_counts}
use Rattle.btr_scrub.proofs.Told.{listed_writes}
use Rattle.btr_scrub.proofs.Working.{some_and, waits_before}
use Rattle.btr_volume.specs.Stops.{stop_halt}
use Rattle.btr_volume.proofs.Readings.{rose_behind, some_fresh}
use Rattle.btr_scrub.proofs.Blockwise.{have_lengths}
use Rattle.btr_rack.proofs.Reading.{reads_none}

-- what is said of the images before and behind, where they are told
of_images : (c : Called) (P : Images → Images → Type 0) → ((images : Images) → c.old.held ≡ Some images → (left : Images) × (c.new.held ≡ Some left))
    → ((images left : Images) → c.old.held ≡ Some images → c.new.held ≡ Some left → P images left) → OfImages c P
of_images c P still h =
    tell c.old.held (λ images. IsSomeAnd c.new.held (P images)) (λ images e. let l = still images e in subst (λ o. IsSomeAnd o (P images)) (sym l.1)
    (h images l.0 e l.1))

-- what follows of the images before and of those that are left follows where they are told
of_more : (c : Called) (P Q : Images → Images → Type 0)
    → ((images left : Images) → c.old.held ≡ Some images → c.new.held ≡ Some left → P images left → Q images left) → OfImages c P → OfImages c Q
of_more c P Q more h = tell c.old.held (λ images. IsSomeAnd c.new.held (Q images)) (λ images e.
    let l = some_and c.new.held (P images) (told c.old.held (λ images. IsSomeAnd c.new.held (P images)) images e h) in
    rw l.1 (more images l.0 e l.1 l.2))

module _ (c : Called) where
  abbrev layout : Layout
  layout = c.fs.layout

  -- what was told of the block map, where the call is sure
  told_map : (P : Map → Type 0) (mid : Seen) → Tells layout c.old mid P → mid.account.faults ≤ c.new.account.faults → IsSure c
      → IfSome c.old.held (λ images. P (fate images layout))
  told_map P mid tells later (inl steady) = tells.calls.content First (omega (arith, tells.calls.later, later, steady.0), omega (arith, later, steady.1))
  told_map P mid tells later (inr agreed) = tells.calls.content Any agreed

  -- an image that failed behind calls that only read is a fault more, and a call of scrub's own
  image_fault : (mid : Seen) → OnlyReads c.old mid → (slot : ℕ) → FailsAt (IsOfScrub layout) slot (plain mid) (plain c.new) → IsImageFault c slot
  image_fault mid reads slot f = record {
    unsure = sym (ap (λ (s : Seen). s.sure) reads.same) ∙ f.failed.unsure;
    rose = rose_behind c.old.account.faults mid.account.faults c.new.account.faults reads.later f.failed.one.faults;
    fresh = some_fresh mid.account.fresh c.new.account.fresh f.failed.one.fresh;
    no_opening = f.failed.read;
    on_slot = ap (λ (r : Range). r.slot) f.failed.one.last ∙ f.on_slot;
    place = subst (IsOfScrub layout) (sym f.failed.one.last) f.lies;
  }

  -- nothing was written
  module _ (only : OnlyReads c.old c.new) where
    -- the images that are left are those that were there
    left_is : (images left : Images) → c.old.held ≡ Some images → c.new.held ≡ Some left → left ≡ images
    left_is images left e f = same_Some left images (sym f ∙ ap (λ (s : Seen). s.held) only.same ∙ e)

    -- so a call is as it should be, where its answer says what came of it
    only_read : (r : Result Tally Stop) → c.result ≡ r → (IsSure c → (images left : Images) → c.old.held ≡ Some images → c.new.held ≡ Some left
        → AnswersAs c images left r) → ReadsAt c r → ((slot : ℕ) → r ≡ Err (stop.Image slot) → IsImageFault c slot) → IsScrubbed c
    only_read r answer answers reads image = record {
      answers = λ sure. of_images c (λ images left. AnswersAs c images left c.result) still
          (λ images left e f. subst (AnswersAs c images left) (sym answer) (answers sure images left e f));
      left = λ sure. of_images c (λ images left. IsLeftBy (effect c.write images c.fs).writes images left) still (λ images left e f.
          subst (IsLeftBy (effect c.write images c.fs).writes images) (sym (left_is images left e f)) (record {
            stopped = stopped_first (effect c.write images c.fs).writes images;
            rest = record { count = refl; lengths = λ slot. refl; bytes = λ slot off e. refl };
          }));
      reads = subst (ReadsAt c) (sym answer) reads;
      unwritten = λ w. only;
      image = λ slot e. image slot (sym answer ∙ e);
      waits = λ none. inl (read_at c.old c.new only (λ range. ⊥));
    }
      where
        -- there are images still
        still : (images : Images) → c.old.held ≡ Some images → (left : Images) × (c.new.held ≡ Some left)
        still images e = (images, ap (λ (s : Seen). s.held) only.same ∙ e)

  -- where a device isn't given, the answer is its id, and nothing was read or written
  lacking : (stripe : Stripe) → first_missing layout ≡ Some stripe → c.result ≡ Err (stop.Missing stripe.devid) → c.new ≡ c.old → IsScrubbed c
  lacking stripe is answer same =
      let only = subst (OnlyReads c.old) (sym same) (reads_none c.old) in
      only_read only (Err (stop.Missing stripe.devid)) answer (λ sure images left e f. record {
        answer = answer ∙ sym (ap (λ o. (effect_unless c.write images c.fs o).answer) is);
        same = left_is only images left e f ∙ sym (ap (λ o. (effect_unless c.write images c.fs o).images) is);
      }) same (λ slot e. absurd (other stripe.devid slot e))
    where
      -- a missing device is no fault of an image
      other : (devid slot : ℕ) → ◌≡◌ {A = Result Tally Stop} (Err (stop.Missing devid)) (Err (stop.Image slot)) → ⊥
      other devid slot e = cc

  module _ (given : first_missing layout ≡ None) where
    -- the effect, by how the listing ends
    effect_is : (images : Images) (r : Result (Unit {0}) Fault) → (meeting images c.fs).ending ≡ r → effect c.write images c.fs
        ≡ effect_of_ending c.write images c.fs r
    effect_is images r e = ap (effect_unless c.write images c.fs) given ∙ ap (effect_of_ending c.write images c.fs) e

    -- ---- the blocks can't be listed

    module _ (mid : Seen) (reads : OnlyReads c.old mid) (same : c.new ≡ mid) where
      -- all calls only read
      only : OnlyReads c.old c.new
      only = subst (OnlyReads c.old) (sym same) reads

      -- no fault is forgotten
      later : mid.account.faults ≤ c.new.account.faults
      later = omega (arith, ap (λ (s : Seen). s.account.faults) same)

      -- a list that is refused
      list_refused : (f : TreeFault) → c.result ≡ Err (stop.Tree f) → Tells layout c.old mid (λ B. ⊥) → IsScrubbed c
      list_refused f answer tells =
          only_read only (Err (stop.Tree f)) answer
          (λ sure images left e g. absurd (told c.old.held (λ images. ⊥) images e (told_map (λ B. ⊥) mid tells later sure))) only
          (λ slot e. absurd (other slot e))
        where
          -- a fault of a tree is none of an image
          other : (slot : ℕ) → ◌≡◌ {A = Result Tally Stop} (Err (stop.Tree f)) (Err (stop.Image slot)) → ⊥
          other slot e = cc

      module _ (why : Stop) (answer : c.result ≡ Err why) (done : List Met) (tells : Tells layout c.old mid (λ B. Follows (unread_by layout c.old mid)
          no_part [] (exec B (units_in c.fs.sup layout.chunks)) done (Err (stop_halt why)))) (cause : StopCause {A = Tally} layout c.old mid (Err why)) where
        -- by these images the listing comes to this stop
        abbrev Ended : Stop → Images → Type 0
        Ended s images = Follows (unread_by layout c.old mid) no_part [] (exec (fate images layout) (units_in c.fs.sup layout.chunks)) done (Err (stop_halt s))

        -- by a fault of the lookups
        refused_by : (images left : Images) → c.old.held ≡ Some images → c.new.held ≡ Some left → (f : Fault) → why ≡ stop_of f
            → (meeting images c.fs).ending ≡ Err f → HasEffect c images left
        refused_by images left e g f is ending = record {
          answer = answer ∙ ap Err is ∙ sym (ap (λ (x : Effect). x.answer) (effect_is images (Err f) ending));
          same = left_is only images left e g ∙ sym (ap (λ (x : Effect). x.images) (effect_is images (Err f) ending));
        }

        -- the answer is that of the effect, or a block couldn't be read, or there was no memory
        answers_as : (images left : Images) → c.old.held ≡ Some images → c.new.held ≡ Some left → (s : Stop) → why ≡ s → Ended s images
            → StopCause {A = Tally} layout c.old mid (Err s) → AnswersAs c images left (Err s)
        answers_as images left e g (stop.NoTree id) is f k = refused_by images left e g (fates.NoTree id) is f.1
        answers_as images left e g (stop.Tree (tree.Lost a)) is f k = refused_by images left e g (fates.Lost a) is f.1
        answers_as images left e g (stop.Tree (tree.Unread a slot)) is f k = subst (λ (s : Seen). Rose c.old.account.faults s.account.faults)
            (sym same) k.1.unread.rose
        answers_as images left e g (stop.Tree (tree.Unmapped a)) is f k = refused_by images left e g (fates.Unmapped a) is f.1
        answers_as images left e g (stop.Tree (tree.Crosses a)) is f k = refused_by images left e g (fates.Crosses a) is f.1
        answers_as images left e g (stop.Tree (tree.Malformed a)) is f k = refused_by images left e g (fates.Malformed a) is f.1
        answers_as images left e g stop.Memory is f k = tt
        answers_as images left e g s is f k = absurd k

        -- with this answer the images were only read, unless there was no memory
        reads_at : (s : Stop) → StopCause {A = Tally} layout c.old mid (Err s) → ReadsAt c (Err s)
        reads_at (stop.NoTree id) k = only
        reads_at (stop.Tree f) k = only
        reads_at stop.Memory k = tt
        reads_at s k = absurd k

        -- a stop of the listing is no fault of an image
        no_image : (s : Stop) (slot : ℕ) → StopCause {A = Tally} layout c.old mid (Err s) → ◌≡◌ {A = Result Tally Stop} (Err s) (Err (stop.Image slot)) → ⊥
        no_image (stop.Image other) slot k e = k
        no_image s slot k e = cc

        -- where the listing came to a stop, nothing was written, and the answer says why
        stopped : IsScrubbed c
        stopped =
            only_read only (Err why) answer (λ sure images left e g.
            answers_as images left e g why refl (told c.old.held (Ended why) images e (told_map _ mid tells later sure)) cause) (reads_at why cause)
            (λ slot e. absurd (no_image why slot cause e))

    -- where an image failed as listed blocks were looked at, nothing was written, and the answer is its slot
    image_failed : (mid : Seen) → OnlyReads c.old mid → (slot : ℕ) → c.result ≡ Err (stop.Image slot) → OnlyReads mid c.new
        → FailsAt (LiesInStripe layout) slot mid c.new → IsScrubbed c
    image_failed mid reads slot answer later f =
        let fault = image_fault mid reads slot
        (fails_plain {A = Tally} (LiesInStripe layout) (IsOfScrub layout) mid c.new (Err (Image slot)) (λ range l. inr l) f) in
        only_read (reads_more reads later) (Err (stop.Image slot)) answer (λ sure images left e g. fault.rose) tt
        (λ other e. subst (IsImageFault c) (the_slot other e) fault)
      where
        -- an answer names one slot
        the_slot : (other : ℕ) → ◌≡◌ {A = Result Tally Stop} (Err (stop.Image slot)) (Err (stop.Image other)) → slot ≡ other
        the_slot other e = cc e

    -- ---- the blocks were listed, and mended

    module _ (table : IsTable layout.chunks) (own : HaveOwnSlots layout.devices)
        (lengths : (images : Images) → c.old.held ≡ Some images → HaveLengths images layout) (mid : Seen) (reads : OnlyReads c.old mid) (done : List Met)
        (tells : Tells layout c.old mid (λ B. Follows (unread_by layout c.old mid) no_part [] (exec B (units_in c.fs.sup layout.chunks)) done
        (Ok tt))) (tally' : Tally) (ended : Result (Unit {0}) MendFault)
        (works : Works layout c.write (listed_writes_for layout (wants_among done))
        (listed_count_for layout c.write (wants_among done)) mid c.new (first_tally (fold count_met 0 done)) tally' ended)
        (says : c.result ≡ answer_of ended tally') where
      -- the writes for what was listed
      abbrev ws : Images → List Write
      ws images = listed_writes_for layout (wants_among done) images

      -- by these images the listing comes to its end with what was listed
      abbrev Done : Images → Type 0
      Done images = Follows (unread_by layout c.old mid) no_part [] (exec (fate images layout) (units_in c.fs.sup layout.chunks)) done (Ok tt)

      -- where the call is sure, what was listed is what is met by the images
      done_of : (images : Images) → c.old.held ≡ Some images → IsSure c → Done images
      done_of images e sure = told c.old.held Done images e (told_map
          (λ B. Follows (unread_by layout c.old mid) no_part [] (exec B (units_in c.fs.sup layout.chunks)) done (Ok tt)) mid tells works.does.only.later sure)

      -- the images were the same behind the listing
      mid_held : (images : Images) → c.old.held ≡ Some images → mid.held ≡ Some images
      mid_held images e = ap (λ (s : Seen). s.held) reads.same ∙ e

      -- the writes for what was listed are those that mend the filesystem
      writes_are : (images : Images) → Done images → ws images ≡ writes images c.fs
      writes_are images d = ap (λ m. listed_writes_for layout (wants_among m) images) d.0 ∙ listed_writes images c.fs

      -- the effect is that of a listing that came to its end
      effect_ok : (images : Images) → Done images → effect c.write images c.fs ≡ effect_of_ending c.write images c.fs (Ok tt)
      effect_ok images d = effect_is images (Ok tt) d.1

      -- all was done
      module _ (images left : Images) (e : c.old.held ≡ Some images) (g : c.new.held ≡ Some left) (d : Done images) where
        module _ (u : Unit {0}) (is : ended ≡ Ok u) where
          -- the images that are left are those after all writes, if writing is on
          done_writes : left ≡ fold write_on images (writes_if c.write (ws images))
          done_writes = same_Some left (fold write_on images (writes_if c.write (ws images)))
              (sym g ∙ (rw (mid_held images e, is) at works.does.held))

          -- writes that aren't to be made leave the images
          written_or : (b : Bool) (vs : List Write) → fold write_on images (writes_if b vs) ≡ cond b (fold write_on images vs) images
          written_or true vs = refl
          written_or false vs = refl

          -- the counts are the tally of the repair
          tally_is : tally' ≡ stood_tally (tally images c.fs c.write)
          tally_is =
              (rw (is, mid_held images e) at works.counts)
              ∙ ap (λ m. listed_count_for layout c.write (wants_among m) images (first_tally (fold count_met 0 m))) d.0
              ∙ listed_counts images c.fs c.write table

          -- the answer and the images are those of the effect
          all_done : HasEffect c images left
          all_done = record {
            answer = says ∙ ap (λ r. answer_of r tally') is ∙ ap (λ t. Ok t) tally_is ∙ sym (ap (λ (x : Effect). x.answer) (effect_ok images d));
            same = done_writes ∙ ap (λ vs. fold write_on images (writes_if c.write vs)) (writes_are images d)
                ∙ written_or c.write (writes images c.fs) ∙ sym (ap (λ (x : Effect). x.images) (effect_ok images d));
          }

        -- however the mending ended, the answer says so
        answers_by : (r : Result (Unit {0}) MendFault) → ended ≡ r → AnswersAs c images left (answer_of r tally')
        answers_by (Ok u) is = all_done u is
        answers_by (Err (Image slot)) is = (image_fault mid reads slot (rw is at works.does.account)).rose
        answers_by (Err Memory) is = tt

        -- the writes up to one
        stopped_at : (r : Result (Unit {0}) MendFault) → ended ≡ r → IsStopped (writes_if c.write (ws images)) images left
        stopped_at (Ok u) is =
            record {
              before = writes_if c.write (ws images);
              behind = [];
              place = sym (append-nil (writes_if c.write (ws images)));
              stands = inl (done_writes u is);
            }
        stopped_at (Err x) is = rw g at (rw (mid_held images e, is) at works.does.held)

        -- all that lies outside the ranges of the writes is as before
        rest : KeepsOutside (map (λ (w : Write). w.range) (writes_if c.write (ws images))) images left
        rest = by c.write refl
          where
            -- so it is whether writing is on or off
            by : (b : Bool) → c.write ≡ b → KeepsOutside (map (λ (w : Write). w.range) (writes_if c.write (ws images))) images left
            by true w = rw w (works_keep_the_rest layout c.write (wants_among done) (listed_count_for layout c.write (wants_among done)) mid c.new
                (first_tally (fold count_met 0 done)) tally' ended images left table own given (lengths images e) (mid_held images e) g works)
            by false w =
                let same : left ≡ images = same_Some left images (sym g ∙ ap (λ (s : Seen). s.held) (works.unwritten w).same ∙ mid_held images e) in
                rw (w, same) (keeps_none images)

        -- the images are left by the writes of the effect, or by those up to one of them
        left_as : IsLeftBy (effect c.write images c.fs).writes images left
        left_as =
            let same : writes_if c.write (ws images) ≡ (effect c.write images c.fs).writes =
            ap (writes_if c.write) (writes_are images d) ∙ sym (ap (λ (x : Effect). x.writes) (effect_ok images d)) in
            subst (λ vs. IsLeftBy vs images left) same (record { stopped = stopped_at ended refl; rest = rest })

      -- no answer of the mending says that the images were only read
      reads_by : (r : Result (Unit {0}) MendFault) → ReadsAt c (answer_of r tally')
      reads_by (Ok u) = tt
      reads_by (Err (Image slot)) = tt
      reads_by (Err Memory) = tt

      -- an answer that names an image is a call of scrub's own that failed there
      image_by : (slot : ℕ) (r : Result (Unit {0}) MendFault) → AccountsMend (IsOfScrub layout) (plain mid) (plain c.new) r → answer_of r tally'
          ≡ Err (stop.Image slot) → IsImageFault c slot
      image_by slot (Err (Image other)) f e = subst (IsImageFault c) (the_slot e) (image_fault mid reads other f)
        where
          -- the slot that failed is the one in the answer
          the_slot : ◌≡◌ {A = Result Tally Stop} (Err (stop.Image other)) (Err (stop.Image slot)) → other ≡ slot
          the_slot e = cc e
      image_by slot r a e = cc

      -- the images are told still
      told_still : (images : Images) → c.old.held ≡ Some images → (left : Images) × (c.new.held ≡ Some left)
      told_still images e = by ended (rw (mid_held images e) at works.does.held)
        where
          -- however the mending ended
          by : (r : Result (Unit {0}) MendFault) → LeaveImages (λ i. writes_if c.write (ws i)) (Some images) c.new.held r → (left : Images)
              × (c.new.held ≡ Some left)
          by (Ok u) l = (fold write_on images (writes_if c.write (ws images)), l)
          by (Err x) l = let k = some_and c.new.held (IsStopped (writes_if c.write (ws images)) images) l in (k.0, k.1)

      -- where the blocks were listed and mended, a call is as it should be
      mended : IsScrubbed c
      mended = record {
        answers = λ sure. of_images c (λ images left. AnswersAs c images left c.result) told_still
            (λ images left e g. subst (AnswersAs c images left) (sym says) (answers_by images left e g (done_of images e sure) ended refl));
        left = λ sure. of_images c (λ images left. IsLeftBy (effect c.write images c.fs).writes images left) told_still
            (λ images left e g. left_as images left e g (done_of images e sure));
        reads = subst (ReadsAt c) (sym says) (reads_by ended);
        unwritten = λ w. reads_more reads (works.unwritten w);
        waits = λ none. waits_before layout c.old mid c.new (λ range i. subst (In range) (ap waiting reads.same) i)
            (works.waits (ap (λ (s : Seen). s.unsynced) reads.same ∙ none));
        image = λ slot e. image_by slot ended works.does.account (sym says ∙ e);
      }

  -- ---- scrub as a whole

  -- images that are as before outside the ranges of the writes that are made are so outside those of all
  ranges_keep : (b : Bool) (images left : Images) (vs : List Write) → KeepsOutside (map (λ (w : Write). w.range) (writes_if b vs)) images left
      → KeepsOutside (map (λ (w : Write). w.range) vs) images left
  ranges_keep true images left vs k = k
  ranges_keep false images left vs k = record { count = k.count; lengths = k.lengths; bytes = λ slot off e. k.bytes slot off refl }

  -- images that are left by the writes of the effect are as before outside the ranges of the repair
  left_keeps : first_missing layout ≡ None → (images left : Images) → IsLeftBy (effect c.write images c.fs).writes images left
      → KeepsOutside (map (λ (w : Write). w.range) (writes images c.fs)) images left
  left_keeps given images left k = by (meeting images c.fs).ending refl
    where
      -- so it is however the listing ends
      by : (r : Result (Unit {0}) Fault) → (meeting images c.fs).ending ≡ r → KeepsOutside (map (λ (w : Write). w.range) (writes images c.fs)) images left
      by (Ok u) e = ranges_keep c.write images left (writes images c.fs)
          (subst (λ (x : Effect). KeepsOutside (map (λ (w : Write). w.range) x.writes) images left) (effect_is given images (Ok u) e) k.rest)
      by (Err f) e = ranges_keep false images left (writes images c.fs)
          (subst (λ (x : Effect). KeepsOutside (map (λ (w : Write). w.range) x.writes) images left) (effect_is given images (Err f) e) k.rest)

-- where a device isn't given, a call is as it should be
pub scrubbed_lacking : (vol : Volume) (write : Bool) (old : Seen) (devid : ℕ) → Some devid ≡ option_map devid_of (first_missing vol.store.layout)
    → IsScrubbed (called vol write old old (Err (stop.Missing devid)))
scrubbed_lacking vol write old devid e = by (first_missing vol.store.layout) refl e
  where
    -- the device is that of a stripe
    by : (o : Option Stripe) → first_missing vol.store.layout ≡ o → Some devid ≡ option_map devid_of o
        → IsScrubbed (called vol write old old (Err (stop.Missing devid)))
    by None is e = cc
    by (Some stripe) is e =
        lacking (called vol write old old (Err (stop.Missing devid))) stripe is (ap (λ d. Err (stop.Missing d)) (same_Some devid stripe.devid e)) refl

-- where none is named, none is missing
pub all_given : (o : Option Stripe) → None ≡ option_map devid_of o → o ≡ None
all_given None e = refl
all_given (Some stripe) e = cc

-- with all devices given a call is as it should be at every exit, and the slots stay
pub scrubbed_given : (vol : Volume) {write : Bool} {old new : Seen} {result : Result Tally Stop} → IsTable vol.store.layout.chunks → IsRack old
    → Serves old vol.store → None ≡ option_map devid_of (first_missing vol.store.layout) → ScrubsAll vol.sup vol.store.layout write old new result
    → IsScrubbed (called vol write old new result) × (new.slots ≡ old.slots)
scrubbed_given vol {write} {old} {new} {result} table rack serves none s =
    let k = by s.listing s.goes in (k.0, k.1 ∙ ap (λ (s : Seen). s.slots) s.reads.same)
  where
    -- no device is missing
    given : first_missing vol.store.layout ≡ None
    given = all_given (first_missing vol.store.layout) none

    -- however the listing ended
    by : (l : Listing) → Goes vol.sup vol.store.layout write old s.mid new s.done result l
        → IsScrubbed (called vol write old new result) × (new.slots ≡ s.mid.slots)
    by (Stopped why) g = (stopped (called vol write old new result) given s.mid s.reads g.1 why g.0 s.done g.2 g.3, ap (λ (s : Seen). s.slots) g.1)
    by Listed g = (
      mended (called vol write old new result) given table (serving old vol.store serves).own_slots (have_lengths old vol.store rack serves) s.mid
          s.reads s.done g.0 g.1.tally g.1.ended g.1.works g.1.says,
      ap (λ (s : Seen). s.slots) g.1.works.does.only.same,
    )
    by (Refused f) g = (list_refused (called vol write old new result) given s.mid s.reads g.1 f g.0 g.3, ap (λ (s : Seen). s.slots) g.1)
    by (Failed slot) g = (image_failed (called vol write old new result) given s.mid s.reads slot g.0 g.1 g.2, ap (λ (s : Seen). s.slots) g.1.same)

-- and safe at any write: what can be spared stands, fresh bytes stay, and only what is wrong is written over
pub is_safe : (vol : Volume) {write : Bool} {old new : Seen} {result : Result Tally Stop} → IsTable vol.store.layout.chunks → IsRack old
    → Serves old vol.store → vol.sup.nodesize ≡ vol.store.layout.setting.nodesize → 0 < vol.sup.nodesize
    → IsScrubbed (called vol write old new result) → IsSafe (called vol write old new result)
is_safe vol {write} {old} {new} {result} table rack serves node some scrubbed =
    let call = called vol write old new result in
    let own = (serving old vol.store serves).own_slots in
    let lengths = have_lengths old vol.store rack serves in
    let bytes = λ (images : Images) (e : old.held ≡ Some images). told old.held (λ images. All (All (λ b. b < 256)) images) images e rack.bytes in
    record {
      anything = tell old.held (λ images. RangesMayHoldAnything images call.fs)
          (λ images e. may_hold_anything images call.fs table own (lengths images e) (bytes images e) node some);
      fresh = tell old.held (λ images. RangesLeaveFresh images call.fs)
          (λ images e. leave_fresh images call.fs table own (lengths images e) (bytes images e) node some);
      wrong = tell old.held (λ images. RangesLieInWrong images call.fs)
          (λ images e. lie_in_wrong images call.fs table own (lengths images e) (bytes images e) node some);
      left = λ sure. of_more call (λ images left. IsLeftBy (effect write images call.fs).writes images left)
          (λ images left. (C : Committed) → IsCommitted images call.fs C → SparedStand images left call.fs C) (λ images left e g k C h.
          may_hold_anything images call.fs table own (lengths images e) (bytes images e) node some C left h (left_keeps call h.given images left k))
          (scrubbed.left sure);
    }

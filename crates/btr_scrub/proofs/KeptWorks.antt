-- What came of the blocks that are kept is what comes of all.
use Rattle.std.proofs.Common.{◌≡◌, ℕ, ◌+◌, Bool, List, [], Some, IfSome, Result, Err, refl, sym, ap, ◌∙◌}
use Rattle.std.specs.Prelude.{count_by, fold}
use Rattle.btr_scrub.proofs.Common.{Follows, Images, IsTable, Layout, Met, OnlyReads, Seen, Super, Tally, Want, begun, count_met, exec, first_tally}
use Rattle.btr_scrub.proofs.Common.{listed_count_for, listed_writes_for, no_part, stood, units_in, unread_by}
use Rattle.btr_prog.specs.Answers.{Broke}
use Rattle.btr_prog.proofs.Follow.{broke_here}
use Rattle.btr_rack.proofs.Reading.{reads_none}
use Rattle.btr_volume.specs.declared.stop.Stop.{Stop}
use Rattle.btr_volume.specs.declared.stop.Stop.TheVariants as stop
use Rattle.btr_scrub.specs.Repair.{is_unchecked}
use Rattle.btr_scrub.specs.Sifting.{SiftsUnits, kept_of, left_out}
use Rattle.btr_scrub.specs.Whole.{Failed, ScrubsAll, Stopped, WorksFrom}
use Rattle.btr_scrub.proofs.Scrubbing.{told}
use Rattle.btr_scrub.proofs.Sieved.{tells_all}
use Rattle.btr_scrub.proofs.Sifting.{kept_counts, kept_writes}
use Rattle.btr_scrub.proofs.Tallying.{unchecked_among}
use Rattle.btr_scrub.proofs.Working.{works_as}

module _ (layout : Layout) (write : Bool) (kept wants : List Want) (sound unchecked : ℕ) (b z : Seen) (table : IsTable layout.chunks)
    (needed : IfSome b.held (λ images. kept ≡ kept_of images layout wants)) (many : IfSome b.held (λ images. sound ≡ stood (left_out images layout wants)))
    (bare : ℕ) (bares : unchecked ≡ stood bare) where
  -- where the images are told, the writes for the blocks that are kept are those for all
  same_writes : (images : Images) → b.held ≡ Some images → listed_writes_for layout kept images ≡ listed_writes_for layout wants images
  same_writes images e =
      ap (λ ks. listed_writes_for layout ks images) (told b.held (λ images. kept ≡ kept_of images layout wants) images e needed)
      ∙ kept_writes images layout wants table

  -- the counts of those that are kept, begun with the others, are those of all
  same_counts : (images : Images) → b.held ≡ Some images → listed_count_for layout write kept images (begun sound unchecked)
      ≡ listed_count_for layout write wants images (first_tally unchecked)
  same_counts images e =
      ap (λ ks. listed_count_for layout write ks images (begun sound unchecked)) (told b.held (λ images. kept ≡ kept_of images layout wants) images e needed)
      ∙ ap (λ n. listed_count_for layout write (kept_of images layout wants) images (begun n unchecked))
      (told b.held (λ images. sound ≡ stood (left_out images layout wants)) images e many)
      ∙ ap (λ n. listed_count_for layout write (kept_of images layout wants) images (begun (stood (left_out images layout wants)) n)) bares
      ∙ kept_counts images layout write wants bare table
      ∙ ap (λ n. listed_count_for layout write wants images (first_tally n)) (sym bares)

  -- what came of the blocks that are kept, begun with the counts of the others, came of all
  pub works_kept : (r : Result Tally Stop) → WorksFrom layout write kept (begun sound unchecked) b z r
      → WorksFrom layout write wants (first_tally unchecked) b z r
  works_kept r h =
      let all = works_as layout write (listed_writes_for layout kept) (listed_writes_for layout wants) (listed_count_for layout write kept)
      (λ images t. listed_count_for layout write wants images (first_tally unchecked)) b z (begun sound unchecked) h.tally h.ended
      (λ images e. (same_writes images e, same_counts images e)) h.works in
      record {
        tally = h.tally;
        ended = h.ended;
        works = record { does = all.does; counts = all.counts; synced = all.synced; waits = all.waits; stranded = all.stranded; unwritten = all.unwritten };
        says = h.says;
      }

-- a count of the sectors without a checksum stands still
pub counts_stand : (done : List Met) → fold count_met 0 done ≡ stood (0 + count_by is_unchecked done)
counts_stand done = unchecked_among done 0

-- ---- stops

module _ (s : Super) (layout : Layout) (write : Bool) (a b : Seen) where
  -- where the blocks couldn't be listed and sifted, scrub ends with the same stop
  pub scrubs_stopped : (why : Stop) → OnlyReads a b → SiftsUnits (units_in s layout.chunks) layout a b (Err why) → ScrubsAll s layout write a b (Err why)
  scrubs_stopped (stop.Image slot) reads k = record { mid = k.mid; reads = k.before; done = []; listing = Failed slot; goes = (refl, k.reads, k.failed) }
  scrubs_stopped why reads k = record { mid = b; reads = reads; done = k.0; listing = Stopped why; goes = (refl, refl, k.1, k.2) }

-- no memory was had before the first call
pub scrubs_memory : (s : Super) (layout : Layout) (write : Bool) (a : Seen) → ScrubsAll s layout write a a (Err stop.Memory)
scrubs_memory s layout write a = record {
  mid = a;
  reads = reads_none a;
  done = [];
  listing = Stopped stop.Memory;
  goes = (
    refl,
    refl,
    tells_all layout a a (λ B. Follows (unread_by layout a a) no_part [] (exec B (units_in s layout.chunks)) [] (Err Broke)) (reads_none a)
        (λ B. broke_here (unread_by layout a a) no_part [] (exec B (units_in s layout.chunks))),
    tt,
  );
}

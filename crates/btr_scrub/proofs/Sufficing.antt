-- What is written beside flags is what is written beside the images that fail.
use Rattle.std.proofs.Common.{◌≡◌, ℕ, Bool, false, cond, List, [], Some, None, is_none, IfSome, OnOk, Result, Err, refl, sym, ap, ◌∙◌, subst, inl, inr}
use Rattle.std.proofs.Math.Path.{fun_ext}
use Rattle.btr_scrub.proofs.Common.{AccountsMend, Chunk, Failing, HaveOwnSlots, Image, Images, In, IsOfScrub, IsSought, IsTable, Layout, LiesInStripe, Memory}
use Rattle.btr_scrub.proofs.Common.{MendFault, NoneFailed, OnlyReads, Seen, Tally, Target, Want, Works, Write, all_count_for, all_writes_for, chunk_count_for}
use Rattle.btr_scrub.proofs.Common.{chunk_writes_for, counted, counted_plain, failing, false≢true, first_missing, flagged, has_behind, has_older, is_in_chunk}
use Rattle.btr_scrub.proofs.Common.{is_in_row, is_plain, list_any, listed_count_for, listed_writes_for, mended_of, mirrors, passing_filter, plain, reads_more}
use Rattle.btr_scrub.proofs.Common.{row_of, sites_in, sought_of, targets, waiting, writes_if}
use Rattle.btr_scrub_copies.specs.Syncing.{Strands}
use Rattle.btr_scrub_copies.proofs.Doing.{does_behind, does_failed}
use Rattle.btr_scrub_copies.proofs.Turning.{fails_plain, read_at, reads_plain, strands_none}
use Rattle.btr_scrub.specs.Judged.{AreFailing, IsIdle, Suffices, some_older, some_parity}
use Rattle.btr_scrub.specs.Whole.{listed_failing}
use Rattle.btr_scrub.proofs.AcrossChunks.{of_chunk, chunk_alike, chunk_counted}
use Rattle.btr_scrub.proofs.Blockwise.{of_targets}
use Rattle.btr_scrub.proofs.Inert.{inert_chunk, none_fresh, none_freshened, none_stale, none_renewed}
use Rattle.btr_scrub.proofs.Lists.{at_in, none_in}
use Rattle.btr_scrub.proofs.RowAgreeing.{RowAlike, checked_row, flat_same, fold_same, checked_alike}
use Rattle.btr_scrub.proofs.Scrubbing.{told}
use Rattle.btr_scrub.proofs.Working.{waits_before, works_as}
use Rattle.btr_chunk.proofs.Searches.{fails-list_any}
use Rattle.btr_scrub.proofs.Agreeing.{SiteAlike}

-- ---- what is written and counted alike

module _ (kept also : Failing) (layout : Layout) (wants : List Want) (images : Images) where
  record Alike (chunk : Chunk) : Type 0 where
    rows : mirrors chunk ≡ None → (number : ℕ) → RowAlike images images layout (row_of also (targets layout wants) chunk number) kept
    sites : (n : ℕ) → mirrors chunk ≡ Some n → (t : Target) → In t (sites_in layout chunk wants) → SiteAlike also kept images images t

  -- chunks in which the same is written are written alike
  all_writes_alike : (chunks : List Chunk) → ((chunk : Chunk) → In chunk chunks → Alike chunk)
      → all_writes_for kept layout chunks wants images ≡ all_writes_for also layout chunks wants images
  all_writes_alike chunks h = flat_same (λ chunk. chunk_writes_for kept layout chunk wants images) (λ chunk. chunk_writes_for also layout chunk wants images)
      chunks (λ chunk i. chunk_alike kept also images images layout wants chunk (λ none k _. (h chunk i).rows none k) (h chunk i).sites)

  -- and counted alike
  all_count_alike : (write : Bool) (chunks : List Chunk) (tally : Tally) → ((chunk : Chunk) → In chunk chunks → Alike chunk)
      → all_count_for kept layout write chunks wants images tally ≡ all_count_for also layout write chunks wants images tally
  all_count_alike write chunks tally h = fold_same (λ x chunk. chunk_count_for kept layout write chunk wants images x)
      (λ x chunk. chunk_count_for also layout write chunk wants images x) chunks tally
      (λ chunk i. chunk_counted kept also images images layout wants chunk (λ none k _. (h chunk i).rows none k) (h chunk i).sites write)

-- ---- flags that suffice

-- a plain sector is mended alike where no image is behind
inert_alike : (fails also : Failing) (layout : Layout) (t : Target) (n : ℕ) (images : Images) → IsTable layout.chunks → IsSought layout t
    → mirrors t.chunk ≡ Some n → ((f : Failing) → has_behind layout.devices f t.chunk ≡ false) → SiteAlike also fails images images t
inert_alike fails also layout t n images table is has inert =
    let stale = λ (f : Failing). none_stale f layout t n table is has (inert f) images in
    let fresh = λ (f : Failing). none_fresh f layout t n table is has (inert f) images in
    let renewed = λ (f : Failing). none_renewed f layout t n table is has (inert f) images in
    record {
      writes = rw (fresh fails, fresh also);
      wrong = rw (stale fails, stale also);
      bytes = rw (renewed fails, renewed also);
      lost = refl;
      counts = λ write tally. ap (λ m. cond (is_plain t.want) (counted_plain tally m) (counted tally (mended_of images t write)))
          (none_freshened fails layout t n table is has (inert fails) images write
          ∙ sym (none_freshened also layout t n table is has (inert also) images write));
    }

-- a want that isn't plain
not_plain : (layout : Layout) (wants : List Want) (t : Target) → In t (targets layout wants) → list_any is_plain wants ≡ false → is_plain t.want ≡ false
not_plain layout wants t i none =
    let w = of_targets layout t wants i in
    ap is_plain (sought_of layout w.0 t w.2).want_is ∙ none_in is_plain wants w.0 none w.1

module _ (layout : Layout) (wants : List Want) (rack : Seen) (flags : List Bool) (table : IsTable layout.chunks)
    (own : HaveOwnSlots layout.devices) (given : first_missing layout ≡ None)
    (suffice : Suffices layout wants rack flags) (images : Images) (held : rack.held ≡ Some images) where
  -- the images that are flagged
  abbrev by_flags : Failing
  by_flags = flagged flags

  -- the images on which some of the wants' blocks fails
  abbrev by_images : Failing
  by_images = listed_failing layout wants images

  -- where the images that fail are flagged all is the same
  failing_same : AreFailing layout wants rack flags → by_flags ≡ by_images
  failing_same are = fun_ext (told rack.held (λ images. (slot : ℕ) → flagged flags slot ≡ failing images (targets layout wants) slot) images held are)

  -- without plain sectors
  all_checked : list_any is_plain wants ≡ false → (chunk : Chunk) → Alike by_flags by_images layout wants images chunk
  all_checked none chunk = record {
    rows = λ parity number. checked_row images layout (row_of by_images (targets layout wants) chunk number) by_flags parity
        (λ t i. not_plain layout wants t (passing_filter (is_in_row chunk number) t (targets layout wants) i).0 none);
    sites = λ n has t i. checked_alike by_images by_flags images t
        (not_plain layout wants t (passing_filter (is_in_chunk chunk) t (targets layout wants) i).0 none);
  }

  -- with copies alone, and no older image
  all_young : some_parity layout.chunks ≡ false → some_older layout ≡ false → (chunk : Chunk) → In chunk layout.chunks
      → Alike by_flags by_images layout wants images chunk
  all_young copies young chunk j =
      let at = at_in chunk layout.chunks j in
      record {
        rows = λ parity.
            absurd (false≢true (sym (none_in (λ (c : Chunk). is_none (mirrors c)) layout.chunks chunk copies j) ∙ ap is_none parity));
        sites = λ n has t i.
            let of = of_chunk by_flags layout table own given at.0 chunk at.1 wants t i in
            inert_alike by_flags by_images layout t n images table of.is (ap mirrors of.chunk_is ∙ has) (λ f.
            ap (has_behind layout.devices f) of.chunk_is ∙ inert_chunk f layout.devices chunk
            (fails-list_any (has_older layout.devices) layout.chunks young at.0 chunk at.1));
      }

  -- where it doesn't matter which images fail, each chunk is written and counted alike
  all_idle : IsIdle layout wants → (chunk : Chunk) → In chunk layout.chunks → Alike by_flags by_images layout wants images chunk
  all_idle (inl none) chunk i = all_checked none chunk
  all_idle (inr young) chunk i = all_young young.0 young.1 chunk i

  -- the writes by the flags are those for the list
  flags_write : all_writes_for by_flags layout layout.chunks wants images ≡ listed_writes_for layout wants images
  flags_write = elim suffice [
    | inl idle ↦ all_writes_alike by_flags by_images layout wants images layout.chunks (all_idle idle)
    | inr are ↦ ap (λ d. all_writes_for d layout layout.chunks wants images) (failing_same are)
  ]

  -- and so are the counts
  flags_count : (write : Bool) (tally : Tally)
      → all_count_for by_flags layout write layout.chunks wants images tally ≡ listed_count_for layout write wants images tally
  flags_count write tally = elim suffice [
    | inl idle ↦ all_count_alike by_flags by_images layout wants images write layout.chunks tally (all_idle idle)
    | inr are ↦ ap (λ d. all_count_for d layout write layout.chunks wants images tally) (failing_same are)
  ]

-- ---- behind reads

module _ (layout : Layout) (write : Bool) (f : Images → List Write) (c : Images → Tally → Tally) (a b : Seen) (reads : OnlyReads a b) where
  -- a work behind reads
  works_behind : (z : Seen) (t u : Tally) (r : Result (Unit {0}) MendFault) → NoneFailed a.account b.account → Works layout write f c b z t u r
      → Works layout write f c a z t u r
  works_behind z t u r none h = record {
    does = does_behind (IsOfScrub layout) (λ i. writes_if write (f i)) [] [] (plain a) (plain b) (plain z) r (reads_plain a b reads) none h.does;
    counts = subst (λ held. OnOk r (IfSome held (λ images. u ≡ c images t))) (ap (λ (s : Seen). s.held) reads.same) h.counts;
    synced = subst (λ waits. OnOk r (waits ≡ [] → z.unsynced ≡ [])) (ap (λ (s : Seen). s.unsynced) reads.same) h.synced;
    waits = λ none. waits_before layout a b z (λ range i. subst (In range) (ap waiting reads.same) i)
        (h.waits (ap (λ (s : Seen). s.unsynced) reads.same ∙ none));
    stranded = subst (λ never. Strands never z.never_synced r) (ap (λ (s : Seen). s.never_synced) reads.same) h.stranded;
    unwritten = λ w. reads_more reads (h.unwritten w);
  }

  -- a call that failed in a stripe failed at a place of a scrub
  account_scrub : (B : Type 0) (e : MendFault) → AccountsMend {A = B} (LiesInStripe layout) a b (Err e)
      → AccountsMend {A = Unit {0}} (IsOfScrub layout) (plain a) (plain b) (Err e)
  account_scrub B (Image slot) h =
      fails_plain {A = Unit {0}} (LiesInStripe layout) (IsOfScrub layout) a b (Err (Image slot)) (λ range i. inr i) h
  account_scrub B Memory h = h

  -- a call that came to a halt before any write works so
  pub works_missed : (B : Type 0) (t : Tally) (e : MendFault) → AccountsMend {A = B} (LiesInStripe layout) a b (Err e)
      → Works {A = Unit {0}} layout write f c a b t t (Err e)
  works_missed B t e account = record {
    does = does_failed (IsOfScrub layout) (Unit {0}) (Unit {0}) (λ i. writes_if write (f i)) [] (plain a) (plain b) e (reads_plain a b reads)
        (account_scrub B e account);
    counts = tt;
    synced = tt;
    waits = λ none. inl (read_at a b reads (λ range. ⊥));
    stranded = strands_none {A = Unit {0}} (Err e) a.never_synced b.never_synced (ap (λ (s : Seen). s.never_synced) reads.same);
    unwritten = λ w. reads;
  }

-- a work beside flags that suffice, behind the reads that came to them
pub works_beside : (layout : Layout) (write : Bool) (wants : List Want) (flags : List Bool) (a b z : Seen) (t u : Tally) (r : Result (Unit {0}) MendFault)
    → IsTable layout.chunks → HaveOwnSlots layout.devices → first_missing layout ≡ None
    → OnlyReads a b → NoneFailed a.account b.account → Suffices layout wants a flags
    → Works layout write (all_writes_for (flagged flags) layout layout.chunks wants) (all_count_for (flagged flags) layout write layout.chunks wants) b z t u r
    → Works layout write (listed_writes_for layout wants) (listed_count_for layout write wants) a z t u r
works_beside layout write wants flags a b z t u r table own given reads none suffice h =
    let d = flagged flags in
    works_as layout write (all_writes_for d layout layout.chunks wants) (listed_writes_for layout wants)
    (all_count_for d layout write layout.chunks wants) (listed_count_for layout write wants) a z t u r
    (λ images held. (
      flags_write layout wants a flags table own given suffice images held,
      flags_count layout wants a flags table own given suffice images held write t,
    )) (works_behind layout write (all_writes_for d layout layout.chunks wants) (all_count_for d layout write layout.chunks wants) a b reads z t u r none h)

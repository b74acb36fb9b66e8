-- How the steps of opening fit together.
use Rattle.std.proofs.Common.{◌≡◌, ◌⊎◌, inl, inr, ℕ, ◌<◌, map, List, [], length, get_or, Option, Some, None, Result, Ok, Err, refl, sym, ap, ◌∙◌, subst}
use Rattle.std.specs.Prelude.{slice_get}
use Rattle.std.proofs.lemmas.List.Folds.{find_at}
use Rattle.std.proofs.lemmas.Option.{slice_get-get_or}
use Rattle.std.proofs.Common.{IsErrAnd, arith}
use Rattle.btr_base.specs.Sum.{kind_of_type}
use Rattle.btr_base.specs.declared.kind.SumKind.{SumKind}
use Rattle.btr_chunk.specs.Array.{array_of}
use Rattle.btr_chunk.specs.declared.array.ArrayFault.{ArrayFault}
use Rattle.btr_read.specs.Store.{Blocks}
use Rattle.btr_read.specs.declared.device.Member.{Member}
use Rattle.btr_super.specs.Newest.{newest, newest_index, is_newest}
use Rattle.btr_volume.specs.Start.{Start, Images, layout_by, supers_from, start_of, start_with, start_by, started, with_kind, with_array, array_bytes}
use Rattle.btr_volume.specs.Start.{devices_from, refusals, first_refusal}
use Rattle.std.specs.Option.{IfSome}
use Rattle.btr_chunk.specs.declared.chunk.Chunk.{Chunk}
use Rattle.btr_rack.specs.Rack.{Seen}
use Rattle.btr_read.specs.Layout.{Layout}
use Rattle.btr_super.specs.declared.superblock.Super.{Super}
use Rattle.btr_walk.specs.Reading.{Map, unread_by}
use Rattle.btr_volume.specs.Table.{TableResult}
use Rattle.btr_volume.specs.Opening.{ReadsTable, MakesStore, BeginsVolume, NoneAtFault, Prepares, SupersCause, OpenCause, TableCause, Opens, Scans, start_in}
use Rattle.btr_volume.specs.declared.volume.Volume.{Volume}
use Rattle.btr_prog.specs.Prog.{exec}
use Rattle.btr_prog.specs.Answers.{Follows, no_part}
use Rattle.btr_prog.specs.Calls.{CanTell, Sure, First, Any, NoReadFailed}
use Rattle.btr_read.specs.Fate.{fate, Agreed}
use Rattle.btr_read.specs.Reading.{AgreedOn, OnMap, shown}
use Rattle.btr_volume.specs.Maps.{array_layout}
use Rattle.btr_volume.specs.Table.{table_scan}
use Rattle.btr_volume.specs.Opening.{StartOf, ComparesRoots, OpenedIsAlike, OpenedIsOfImages}
use Rattle.btr_volume.specs.Tree.{root_want}
use Rattle.btr_read.specs.Comparing.{Compares, disagreeing}
use Rattle.btr_read.proofs.Compared.{compares_before, compares_steady}
use Rattle.btr_read.proofs.ReadsOn.{same_held}
use Rattle.btr_volume.proofs.Readings.{Sized}
use Rattle.btr_rack.specs.Rack.{Slot, Account, OnlyCounts, OnlyReads, NoneFailed}
use Rattle.btr_read.specs.Serves.{Serves}
use Rattle.btr_read.specs.Store.{with_chunks}
use Rattle.btr_read.proofs.Serving.{serving, serves_anew}
use Rattle.btr_volume.specs.declared.fault.OpenFault.{OpenFault}
use Rattle.btr_volume.specs.declared.fault.OpenFault.TheVariants.{ImageFault, NoSuper, SumKind as kind_fault, Foreign, Twin, Diverged, Unsupported, Geometry}
use Rattle.btr_volume.specs.declared.fault.OpenFault.TheVariants.{LogPending, BadArray, BadChunk as bad_chunk, Limit, Tree, Memory}

-- the superblock at the index of the newest is the newest
pub newest_at : (supers : List Super) (slot : ℕ) (s : Super) → newest_index supers ≡ slot → slot < length supers → s ≡ get_or supers slot s
    → newest supers ≡ Some s
newest_at supers slot s index lt is =
    find_at (is_newest supers) supers ∙ ap (slice_get supers) index ∙ slice_get-get_or supers slot s lt ∙ ap (λ x. Some x) (sym is)

module _ (supers : List Super) (s : Super) (is : newest supers ≡ Some s) (lens : List ℕ) where
  -- the volume that begins
  pub begun : (store store' : Blocks) → first_refusal (refusals supers s) ≡ None → MakesStore s (Ok store)
      → store'.layout ≡ record (store.layout) { devices = devices_from s.generation 0 supers lens }
      → BeginsVolume supers lens (Ok (record { store = store'; sup = s }))
  begun store store' none made layout =
      ap (start_by supers lens) is ∙ ap (started s (devices_from s.generation 0 supers lens)) none ∙ made.3 (devices_from s.generation 0 supers lens)
      ∙ ap {A = Layout} (λ l. Ok (record { sup = s; devices = l.devices; setting = l.setting; array = l.chunks })) (sym layout)

-- a start, as a result
abbrev the_ok : Start → Result Start OpenFault
the_ok x = Ok x

-- the chunks of a start are those of its superblock's system array
array_kept : (s : Super) (devices : List Member) (kind : Option SumKind) (x : Start) → with_kind s devices kind ≡ Ok x → array_of (array_bytes s) ≡ Ok x.array
array_kept s devices None x e = absurd (cc e)
array_kept s devices (Some kind) x e = by (array_of (array_bytes s)) e
  where
    by : (array : Result (List Chunk) ArrayFault) → with_array s kind devices array ≡ Ok x → array ≡ Ok x.array
    by (Ok chunks) e = ap (λ c. Ok c) (same _ x e)
      where
        same : (a b : Start) → the_ok a ≡ the_ok b → a.array ≡ b.array
        same a b e = cc
    by (Err fault) e = absurd (cc e)

-- the chunks of a store that was made are the array's
pub array_made : (s : Super) (store : Blocks) → MakesStore s (Ok store) → array_of (array_bytes s) ≡ Ok store.layout.chunks
array_made s store made = array_kept s [] (kind_of_type s.csum_type) _ (made.3 [])

-- no call failed, so nothing of the rack is other than it was
pub same_seen : (old new : Seen) → OnlyCounts old new → NoneFailed old.account new.account → new ≡ old
same_seen old new same none =
    same ∙ ap {A = Account} (λ a. record old { account = a }) (λ i. record {
      faults = none.faults i;
      fresh = none.fresh i;
      missed = none.missed i;
      last = none.last i;
      opening = none.opening i;
      shut = none.shut i;
    })

-- what the superblocks come to over the images
module _ (slots : List Slot) (supers : List Super) where
  -- what a volume begins with, or is refused for, by the superblocks of the images it begins with, or is refused for, by the images
  prepares_of : (images : Images) (r : Result Volume OpenFault) → map length images ≡ map (λ s. s.len) slots → supers_from 0 images ≡ Ok supers
      → NoneAtFault r → BeginsVolume supers (map (λ s. s.len) slots) r → Prepares images r
  prepares_of images r sized read early begins = by r early begins
    where
      -- the start of the images is the one by their superblocks and the lengths of their slots
      whole : start_of images ≡ start_by supers (map (λ s. s.len) slots) (newest supers)
      whole = ap (start_with images) read ∙ ap (λ lens. start_by supers lens (newest supers)) sized

      by : (r : Result Volume OpenFault) → NoneAtFault r → BeginsVolume supers (map (λ s. s.len) slots) r → Prepares images r
      by (Ok volume) early e = whole ∙ e
      by (Err Memory) early e = tt
      by (Err (ImageFault slot)) early e = tt
      by (Err (Tree fault)) early e = absurd early
      by (Err (NoSuper slot)) early e = whole ∙ e
      by (Err (kind_fault n)) early e = whole ∙ e
      by (Err (Foreign slot)) early e = whole ∙ e
      by (Err (Twin slot)) early e = whole ∙ e
      by (Err (Diverged slot)) early e = whole ∙ e
      by (Err (Unsupported bits)) early e = whole ∙ e
      by (Err Geometry) early e = whole ∙ e
      by (Err LogPending) early e = whole ∙ e
      by (Err BadArray) early e = whole ∙ e
      by (Err (bad_chunk start)) early e = whole ∙ e
      by (Err (Limit which n)) early e = whole ∙ e

  -- where the images are told, what a volume begins with, or is refused for, by their superblocks it is by them
  pub prepared : (held : Option Images) (r : Result Volume OpenFault) → Sized held slots → IfSome held (λ images. supers_from 0 images ≡ Ok supers)
      → NoneAtFault r → BeginsVolume supers (map (λ s. s.len) slots) r → IfSome held (λ images. Prepares images r)
  prepared None r sized read early begins = tt
  prepared (Some images) r sized read early begins = prepares_of images r sized read early begins

-- a refusal before the chunk tree is read
module _ (old new : Seen) where
  -- what lies behind a refusal by the superblocks may lie behind one of opening
  pub refused_early : (refusal : OpenFault) (T : Type 0) → SupersCause {T = Volume} old new (Err refusal) → OpenCause {T = T} old new (Err refusal)
  refused_early Memory T h = tt
  refused_early (ImageFault slot) T h = h
  refused_early (Tree fault) T h = absurd h
  refused_early (NoSuper slot) T h = h
  refused_early (kind_fault n) T h = h
  refused_early (Foreign slot) T h = h
  refused_early (Twin slot) T h = h
  refused_early (Diverged slot) T h = inl h
  refused_early (Unsupported bits) T h = h
  refused_early Geometry T h = h
  refused_early LogPending T h = h
  refused_early BadArray T h = h
  refused_early (bad_chunk start) T h = tt
  refused_early (Limit which n) T h = h.0

  -- a refusal by the start of the images may be answered by opening
  opens_early : (images : Images) (refusal : OpenFault) → Prepares images (Err refusal) → Opens images old new (Err refusal)
  opens_early images Memory h = tt
  opens_early images (ImageFault slot) h = tt
  opens_early images (Tree fault) h = absurd h
  opens_early images (NoSuper slot) h = inl h
  opens_early images (kind_fault n) h = inl h
  opens_early images (Foreign slot) h = inl h
  opens_early images (Twin slot) h = inl h
  opens_early images (Diverged slot) h = inl h
  opens_early images (Unsupported bits) h = inl h
  opens_early images Geometry h = inl h
  opens_early images LogPending h = inl h
  opens_early images BadArray h = inl h
  opens_early images (bad_chunk start) h = inl h
  opens_early images (Limit which n) h = inl h

  -- where the images are told, a refusal by their start may be answered by opening
  pub told_early : (held : Option Images) (refusal : OpenFault) → IfSome held (λ images. Prepares images (Err refusal))
      → IfSome held (λ images. Opens images old new (Err refusal))
  told_early None refusal h = tt
  told_early (Some images) refusal h = opens_early images refusal h

  -- a refusal by the chunk tree
  pub refused_late : (begun : StartOf old) (refusal : OpenFault) (T U : Type 0)
      → TableCause {T = T} (array_layout begun.start) old new (Err refusal) → OpenCause {T = U} old new (Err refusal)
  refused_late begun Memory T U h = tt
  refused_late begun (Tree fault) T U h = (begun, h)
  refused_late begun (bad_chunk start) T U h = tt
  refused_late begun (Limit which n) T U h = h
  refused_late begun (ImageFault slot) T U h = absurd h
  refused_late begun (NoSuper slot) T U h = absurd h
  refused_late begun (kind_fault n) T U h = absurd h
  refused_late begun (Foreign slot) T U h = absurd h
  refused_late begun (Twin slot) T U h = absurd h
  refused_late begun (Diverged slot) T U h = absurd h
  refused_late begun (Unsupported bits) T U h = absurd h
  refused_late begun Geometry T U h = absurd h
  refused_late begun LogPending T U h = absurd h
  refused_late begun BadArray T U h = absurd h

  module _ (volume : Volume) where
    -- a refusal by what the scan of the chunk tree came to may be answered by opening
    opens_late : (images : Images) (refusal : OpenFault) (layout : Layout) (T : Type 0) → TableCause {T = T} layout old new (Err refusal)
        → start_of images ≡ Ok (start_in volume) → ReadsTable volume.sup volume.store.layout old new (Err refusal) → Opens images old new (Err refusal)
    opens_late images Memory layout T c is h = tt
    opens_late images (Tree fault) layout T c is h = record { start = start_in volume; is = is; scans = h }
    opens_late images (bad_chunk start) layout T c is h = inr (h.0, h.1, record { start = start_in volume; is = is; scans = h.2 })
    opens_late images (Limit which n) layout T c is h = inr (h.0, h.1, record { start = start_in volume; is = is; scans = h.2 })
    opens_late images (ImageFault slot) layout T c is h = absurd c
    opens_late images (NoSuper slot) layout T c is h = absurd c
    opens_late images (kind_fault n) layout T c is h = absurd c
    opens_late images (Foreign slot) layout T c is h = absurd c
    opens_late images (Twin slot) layout T c is h = absurd c
    opens_late images (Diverged slot) layout T c is h = absurd c
    opens_late images (Unsupported bits) layout T c is h = absurd c
    opens_late images Geometry layout T c is h = absurd c
    opens_late images LogPending layout T c is h = absurd c
    opens_late images BadArray layout T c is h = absurd c

    -- where the images are told, a refusal by what the scan of their chunk tree came to may be answered by opening
    pub told_late : (held : Option Images) (refusal : OpenFault) (layout : Layout) (T : Type 0) → TableCause {T = T} layout old new (Err refusal)
        → IfSome held (λ images. start_of images ≡ Ok (start_in volume)) → ReadsTable volume.sup volume.store.layout old new (Err refusal)
        → IfSome held (λ images. Opens images old new (Err refusal))
    told_late None refusal layout T c is h = tt
    told_late (Some images) refusal layout T c is h = opens_late images refusal layout T c is h

-- what was scanned stands while more is read
module _ (start : Start) (old now new : Seen) (reads : OnlyReads now new) (table : TableResult) where
  -- what the chunk tree was scanned to follows its program, so far as all calls can tell
  scans_by : (sure : Sure) → CanTell (AgreedOn (array_layout start)) sure (shown old) (shown new) → Scans start old now (Ok table)
      → OnMap (array_layout start) (λ B. Follows {S = ⊥} (unread_by (array_layout start) old new) no_part [] (exec B (table_scan start)) []
      (Ok table)) sure old.held
  scans_by First steady h = h.calls.content First (omega (arith, steady.0, h.calls.later, reads.later), omega (arith, steady.1, reads.later))
  scans_by Any agreed h = h.calls.content Any agreed

  -- what the chunk tree was scanned to stands while more is read
  pub scans_still : Scans start old now (Ok table) → Scans start old new (Ok table)
  scans_still h = record {
    calls = record { same = same_held reads ∙ h.calls.same; later = omega (arith, h.calls.later, reads.later); content = λ sure can. scans_by sure can h };
  }

-- the chunk tree was scanned, and then the candidates of the root tree's root block were compared
module _ (old now new : Seen) (volume : Volume) (store : Blocks) (chunks : List Chunk) (first : OnlyReads old now) (then : OnlyReads now new)
    (layout : store.layout ≡ record (volume.store.layout) { chunks = chunks })
    (tells : ReadsTable volume.sup volume.store.layout old now (Ok chunks)) where
  -- the root block's candidates were compared as these chunks find them, also from before the scan on
  compared : (slot : Option ℕ) → Compares store.layout (root_want volume.sup) now new slot → ComparesRoots (start_in volume) chunks old new slot
  compared slot h = compares_before (layout_by (start_in volume) chunks) (root_want volume.sup) old now new slot first
      (subst (λ (l : Layout). Compares l (root_want volume.sup) now new slot) layout h)

  -- they agree: the volume was opened
  pub told_opened : (held : Option Images) (after : Blocks) → IfSome held (λ images. start_of images ≡ Ok (start_in volume))
      → after.layout ≡ store.layout → Compares store.layout (root_want volume.sup) now new None
      → IfSome held (λ images. Opens images old new (Ok (record { store = after; sup = volume.sup })))
  told_opened None after is e h = tt
  told_opened (Some images) after is e h =
      let same : after.layout.chunks ≡ chunks = ap (λ (l : Layout). l.chunks) (e ∙ layout) in
      record {
        start = start_in volume;
        is = is;
        by = record { sup = refl; layout = e ∙ layout ∙ ap {A = List Chunk} (λ c. record (volume.store.layout) { chunks = c }) (sym same) };
        scans = subst (λ (c : List Chunk). Scans (start_in volume) old new (Ok (Ok c))) (sym same)
            (scans_still (start_in volume) old now new then (Ok chunks) tells);
        alike = subst (λ (c : List Chunk). ComparesRoots (start_in volume) c old new None) (sym same) (compared None h);
      }

  -- they don't
  pub told_diverged : (held : Option Images) (slot : ℕ) → IfSome held (λ images. start_of images ≡ Ok (start_in volume))
      → Compares store.layout (root_want volume.sup) now new (Some slot)
      → IfSome held (λ images. Opens images old new (Err (Diverged slot)))
  told_diverged None slot is h = tt
  told_diverged (Some images) slot is h = inr (record {
    start = start_in volume;
    is = is;
    chunks = chunks;
    scans = scans_still (start_in volume) old now new then (Ok chunks) tells;
    differ = compared (Some slot) h;
  })

  -- where the root block's candidates don't agree, that lies behind the refusal
  pub diverged_cause : (slot : ℕ) (T : Type 0) → IfSome old.held (λ images. start_of images ≡ Ok (start_in volume))
      → Compares store.layout (root_want volume.sup) now new (Some slot) → OpenCause {T = T} old new (Err (Diverged slot))
  diverged_cause slot T is h = inr (record { start = start_in volume; is = is }, chunks, compared (Some slot) h)

-- a rack serves a store with other chunks
pub served_anew : (rack : Seen) (store store' : Blocks) (chunks : List Chunk) → Serves rack store → store' ≡ with_chunks store chunks → Serves rack store'
served_anew rack store store' chunks serves e =
    let s = serving rack store serves in
    subst (Serves rack) (sym e) (serves_anew rack (with_chunks store chunks) s.are_open s.own_slots refl)

-- what holds of a refusal that is passed on
pub passed : {A : Type 0} (P : Result A OpenFault → Type 0) (r : Result A OpenFault) (refusal : OpenFault) → IsErrAnd r (λ e. e ≡ refusal)
    → P (Err refusal) → P r
passed P (Ok a) refusal h p = absurd h
passed {A} P (Err e) refusal h p = subst (λ (x : OpenFault). P (Err x)) (sym h) p

-- what holds on the block map of the images that are told holds on that of these images, where these are told
told_of : (images : Images) (layout : Layout) (P : Map → Type 0) (h : Option Images) (sure : Sure) → h ≡ Some images → OnMap layout P sure h
    → P (fate images layout)
told_of images layout P h sure e p = subst (λ x. OnMap layout P sure x) e p

-- a volume that was opened is the one of the images, where no read failed or all copies agree
pub opened_is : OpenedIsOfImages
opened_is images old new volume held opened known = record {
  start = opened.start;
  is = opened.is;
  by = opened.by;
  table = (by known).1;
}
  where
    -- under a block map the scan of the chunk tree comes to the volume's chunks
    P : Map → Type 0
    P B = Follows {S = ⊥} (unread_by (array_layout opened.start) old new) no_part [] (exec B (table_scan opened.start)) [] (Ok (Ok volume.store.layout.chunks))

    -- where no read failed or all copies agree, the scan comes to them under the map of the images
    by : NoReadFailed old.account.faults new.account.faults ⊎ Agreed images (array_layout opened.start) → P (fate images (array_layout opened.start))
    by (inl steady) = told_of images (array_layout opened.start) P old.held First held (opened.scans.calls.content First steady)
    by (inr agreed) = told_of images (array_layout opened.start) P old.held Any held
        (opened.scans.calls.content Any (subst (λ h. AgreedOn (array_layout opened.start) h) (sym held) agreed))

-- in a volume that was opened the candidates of the root tree's root block agree
pub opened_alike : OpenedIsAlike
opened_alike images old new volume held opened steady =
    let none = compares_steady images (layout_by opened.start volume.store.layout.chunks) (root_want opened.start.sup) old new None held steady
    opened.alike in
    ap (λ l. disagreeing images l (root_want volume.sup)) opened.by.layout
    ∙ ap (λ s. disagreeing images (layout_by opened.start volume.store.layout.chunks) (root_want s)) opened.by.sup ∙ sym none

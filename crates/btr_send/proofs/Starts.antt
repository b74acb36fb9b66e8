-- Images give data by whole sectors: each device is as long as its image, and each chunk of the table keeps the rule.
use Rattle.std.proofs.Common.{◌≡◌, ℕ, suc, ◌+◌, Bool, true, false, cond, eqb, List, [], ◌∷◌, length, map, get_or, Option, Some, None, Result, Ok, Err}
use Rattle.std.proofs.Common.{refl, sym, ap, ◌∙◌, subst, arith}
use Rattle.std.proofs.lemmas.List.Elements.{All-nil}
use Rattle.btr_base.specs.Sum.{kind_of_type}
use Rattle.btr_base.specs.Key.{last_key}
use Rattle.btr_base.specs.declared.kind.SumKind.{SumKind}
use Rattle.btr_chunk.specs.declared.add.AddFault.{AddFault}
use Rattle.btr_chunk.specs.declared.add.AddFault.TheVariants as add_fault
use Rattle.btr_chunk.specs.declared.array.ArrayFault.{ArrayFault}
use Rattle.btr_chunk.specs.declared.chunk.Chunk.{Chunk}
use Rattle.btr_chunk.specs.declared.fault.ChunkFault.{ChunkFault}
use Rattle.btr_chunk.specs.declared.fault.ChunkFault.TheVariants as chunk_fault
use Rattle.btr_chunk.specs.Array.{array_of}
use Rattle.btr_chunk.specs.Chunk.{IsChunk}
use Rattle.btr_chunk.specs.Item.{chunk_of}
use Rattle.btr_chunk.specs.Table.{added}
use Rattle.btr_prog.specs.Prog.{Prog, Return, Stop, Need, Emit, BlockMap, bind, exec, given}
use Rattle.btr_prog.specs.Thread.{go_on, thread}
use Rattle.btr_read.specs.declared.device.Device.{Device}
use Rattle.btr_read.specs.declared.device.Member.{Member}
use Rattle.btr_read.specs.declared.want.Want.{Want}
use Rattle.btr_read.specs.declared.want.Want.TheVariants.{Tree, Block, Sector, Plain}
use Rattle.btr_read.specs.Want.{len_of}
use Rattle.btr_read.specs.Fate.{Fault, fate}
use Rattle.btr_read.specs.Layout.{device_in}
use Rattle.btr_super.specs.declared.superblock.Super.{Super}
use Rattle.btr_super.specs.Newest.{newest}
use Rattle.btr_volume.specs.declared.fault.OpenFault.{OpenFault}
use Rattle.btr_volume.specs.Maps.{array_layout}
use Rattle.btr_volume.specs.Start.{Start, devices_from, first_refusal, layout_by, member, refusals, start_by, start_of, start_with, started}
use Rattle.btr_volume.specs.Start.{supers_from, with_array, with_kind, array_bytes}
use Rattle.btr_volume.specs.Table.{TableResult, chunk_root, first_key, if_added, is_chunk, table_next, table_scan, table_step, whole_table}
use Rattle.btr_volume.specs.Table.{with_chunk, with_item}
use Rattle.btr_walk.specs.Folds.{Next, Go, End, Broken, next_prog}
use Rattle.btr_walk.specs.Le.{TreeItem}
use Rattle.btr_walk.specs.Range.{RangeProg, range}
use Rattle.btr_files.specs.FileAt.{IsSectorLong}
use Rattle.btr_send.specs.Sectors.{ImagesGiveSectors}
use Rattle.btr_send.proofs.Long.{AreChunks, AreLong, long_law}
use Rattle.btr_send.proofs.Tables.{Sound, added_all, array_all, chunk_sound}

-- ---- devices

-- a device's place among the images, of which the first has this slot
record Stands (slot : ℕ) (images : List (List ℕ)) (device : Device) : Type 0 where
  place : ℕ
  slot_is : device.slot ≡ slot + place
  len_is : device.len ≡ length (get_or images place [])

-- a device that is found has a place among the images, and is as long as the image there
stands_at : (g slot : ℕ) (supers : List Super) (images : List (List ℕ)) (devid : ℕ) (device : Device)
    → device_in (devices_from g slot supers (map length images)) devid ≡ Some device → Stands slot images device
stands_at g slot [] images devid device e = absurd (cc e)
stands_at g slot (s ∷ supers) [] devid device e = absurd (cc e)
stands_at g slot (s ∷ supers) (image ∷ images) devid device e = by (eqb s.devid devid) e (stands_at g (slot + 1) supers images devid device)
  where
    by : (b : Bool)
        → cond b (Some (member g slot s (length image)).device) (device_in (devices_from g (slot + 1) supers (map length images)) devid) ≡ Some device
        → (device_in (devices_from g (slot + 1) supers (map length images)) devid ≡ Some device → Stands (slot + 1) images device)
        → Stands slot (image ∷ images) device
    by true e on =
        let same : (member g slot s (length image)).device ≡ device = cc e in
        record { place = 0; slot_is = sym (ap (λ (d : Device). d.slot) same) ∙ omega arith; len_is = sym (ap (λ (d : Device). d.len) same) }
    by false e on =
        let at = on e in
        record { place = suc at.place; slot_is = at.slot_is ∙ omega arith; len_is = at.len_is }

-- each device is as long as the image in its slot
devices_long : (g : ℕ) (supers : List Super) (images : List (List ℕ)) → AreLong images (devices_from g 0 supers (map length images))
devices_long g supers images devid device e =
    let at = stands_at g 0 supers images devid device e in
    at.len_is ∙ ap (λ k. length (get_or images k [])) (omega (arith, at.slot_is))

-- ---- the start

record IsSound (images : List (List ℕ)) (start : Start) : Type 0 where
  pub devices : AreLong images start.devices
  pub array : AreChunks start.array

module _ (images : List (List ℕ)) (start : Start) where
  -- a start with a system array that wasn't refused is sound
  array_sound : (s : Super) (kind : SumKind) (members : List Member) (r : Result (List Chunk) ArrayFault) → AreLong images members
      → array_of (array_bytes s) ≡ r → with_array s kind members r ≡ Ok start → IsSound images start
  array_sound s kind members (Err fault) long is e = absurd (cc e)
  array_sound s kind members (Ok array) long is e =
      let devices_are : members ≡ start.devices = cc e in
      let array_is : array ≡ start.array = cc e in
      let sound = array_all (length (array_bytes s)) [] (array_bytes s) (All-nil IsChunk) in
      record { devices = subst (AreLong images) devices_are long; array = subst AreChunks array_is (subst Sound is sound) }

  -- a start with a kind of checksum that is known is sound
  kind_sound : (s : Super) (members : List Member) (kind : Option SumKind) → AreLong images members → with_kind s members kind ≡ Ok start
      → IsSound images start
  kind_sound s members None long e = absurd (cc e)
  kind_sound s members (Some kind) long e = array_sound s kind members (array_of (array_bytes s)) long refl e

  -- a start that wasn't refused is sound
  started_sound : (s : Super) (members : List Member) (refusal : Option OpenFault) → AreLong images members → started s members refusal ≡ Ok start
      → IsSound images start
  started_sound s members (Some refusal) long e = absurd (cc e)
  started_sound s members None long e = kind_sound s members (kind_of_type s.csum_type) long e

  -- a start by the newest of the superblocks is sound
  by_newest : (supers : List Super) (s : Option Super) → start_by supers (map length images) s ≡ Ok start → IsSound images start
  by_newest supers None e = absurd (cc e)
  by_newest supers (Some s) e =
      started_sound s (devices_from s.generation 0 supers (map length images)) (first_refusal (refusals supers s)) (devices_long s.generation supers images) e

  -- a start by the superblocks of the images is sound
  by_supers : (r : Result (List Super) OpenFault) → start_with images r ≡ Ok start → IsSound images start
  by_supers (Err refusal) e = absurd (cc e)
  by_supers (Ok supers) e = by_newest supers (newest supers) e

  -- what the images start as is sound
  start_sound : start_of images ≡ Ok start → IsSound images start
  start_sound e = by_supers (supers_from 0 images) e

-- ---- the table

-- each chunk of a table keeps the rule, if there is a table
abbrev SoundTable : TableResult → Type 0
SoundTable (Ok chunks) = AreChunks chunks
SoundTable (Err fault) = Unit {0}

-- each chunk keeps the rule, with which a scan goes on or ends
abbrev SoundNext : Next (List Chunk) TableResult → Type 0
SoundNext (Go chunks) = AreChunks chunks
SoundNext (End answer) = SoundTable answer
SoundNext Broken = Unit {0}

-- where a chunk that keeps the rule is added, the table is sound
if_sound : (start : ℕ) (chunks : List Chunk) (chunk : Chunk) (r : Result (List Chunk) AddFault) → added chunks chunk ≡ r → AreChunks chunks → IsChunk chunk
    → SoundTable (if_added start r)
if_sound start chunks chunk (Ok new) e are is = added_all chunks chunk new are is e
if_sound start chunks chunk (Err add_fault.Overlap) e are is = tt
if_sound start chunks chunk (Err add_fault.Chunks) e are is = tt
if_sound start chunks chunk (Err add_fault.Memory) e are is = tt

-- where an item is read as a chunk and added, the table is sound
chunk_next : (start : ℕ) (body : List ℕ) (chunks : List Chunk) (r : Result Chunk ChunkFault) → chunk_of start body ≡ r → AreChunks chunks
    → SoundTable (with_chunk chunks start r)
chunk_next start body chunks (Ok chunk) e are = if_sound start chunks chunk (added chunks chunk) refl are (chunk_sound start body chunk e)
chunk_next start body chunks (Err (chunk_fault.Stripes n)) e are = tt
chunk_next start body chunks (Err chunk_fault.Bad) e are = tt
chunk_next start body chunks (Err chunk_fault.Memory) e are = tt

-- where an item of the chunk tree is added, the table is sound
item_next : (chunks : List Chunk) (item : TreeItem) → AreChunks chunks → SoundTable (with_item chunks item)
item_next chunks item are =
    by (is_chunk item.key) (chunk_next item.key.offset item.body chunks (chunk_of item.key.offset item.body) refl are)
  where
    by : (b : Bool) → SoundTable (with_chunk chunks item.key.offset (chunk_of item.key.offset item.body))
        → SoundTable (cond b (with_chunk chunks item.key.offset (chunk_of item.key.offset item.body)) (Ok chunks))
    by true is = is
    by false is = are

-- a sound table is one with which a scan goes on or ends
step_next : (r : TableResult) → SoundTable r → SoundNext (table_next r)
step_next (Ok chunks) is = is
step_next (Err fault) is = tt

module _ (B : BlockMap Want Fault) where
  -- a table that a scan comes to is sound
  abbrev Gives : Prog Want Fault ⊥ TableResult → Type 0
  Gives p = (r : TableResult) → (exec B p).ending ≡ Ok r → SoundTable r

  -- the scan of some items, from the chunks that are known before them
  abbrev over : List Chunk → RangeProg → Prog Want Fault ⊥ TableResult
  over chunks items = thread (λ st (item : TreeItem). next_prog item.leaf (table_step st item)) (λ st u. whole_table st) chunks items

  -- a scan that begins with chunks that keep the rule comes to a sound table
  over_sound : (chunks : List Chunk) (items : RangeProg) → AreChunks chunks → Gives (over chunks items)
  over_sound chunks (Return u) are r e = let same : Ok chunks ≡ r = cc e in subst SoundTable same are
  over_sound chunks (Stop fault) are r e = absurd (cc e)
  over_sound chunks (Need want k) are r e = by (B want) e (λ bytes g. over_sound chunks (k bytes) are r g)
    where
      by : (x : Result (List ℕ) Fault) → (given x (λ bytes. exec B (over chunks (k bytes)))).ending ≡ Ok r
          → ((bytes : List ℕ) → (exec B (over chunks (k bytes))).ending ≡ Ok r → SoundTable r) → SoundTable r
      by (Ok bytes) e rest = rest bytes e
      by (Err fault) e rest = absurd (cc e)
  over_sound chunks (Emit item rest) are r e =
      by (table_step chunks item) (step_next (with_item chunks item) (item_next chunks item are)) e (λ st is g. over_sound st rest is r g)
    where
      by : (next : Next (List Chunk) TableResult) → SoundNext next
          → (exec B (bind (next_prog item.leaf next) (go_on (λ st. over st rest)))).ending ≡ Ok r
          → ((st : List Chunk) → AreChunks st → (exec B (over st rest)).ending ≡ Ok r → SoundTable r) → SoundTable r
      by (Go st) is e on = on st is e
      by (End answer) is e on = let same : answer ≡ r = cc e in subst SoundTable same is
      by Broken is e on = absurd (cc e)

-- the table that a scan of the chunk tree comes to has only chunks that keep the rule, if the system array has
table_sound : (images : List (List ℕ)) (start : Start) (table : List Chunk) → AreChunks start.array
    → (exec (fate images (array_layout start)) (table_scan start)).ending ≡ Ok (Ok table) → AreChunks table
table_sound images start table array scanned =
    over_sound (fate images (array_layout start)) start.array (range first_key last_key (chunk_root start.sup)) array (Ok table) scanned

-- images of bytes with a superblock and a table of chunks give data by whole sectors
pub images_give_sectors : ImagesGiveSectors
images_give_sectors images start table bytes opened scanned want block had =
    by want (long_law images (layout_by start table) want block bytes sound.devices (table_sound images start table sound.array scanned) had)
  where
    sound : IsSound images start
    sound = start_sound images start opened

    by : (w : Want) → length block ≡ len_of start.setting w → IsSectorLong w block
    by (Tree addr generation level) long = tt
    by (Block addr) long = tt
    by (Sector addr sum) long = long
    by (Plain addr) long = long

-- The table of the chunk tree has all chunks of the system array, so blocks that the array finds the table finds at the same places.
use Rattle.std.proofs.Common.{◌≡◌, ◌⊎◌, inl, inr, ℕ, ◌+◌, ◌<◌, Bool, true, false, cond, ◌&&◌, ◌||◌, leb, ltb, length, List, [], ◌∷◌, Option, Some, None, Result}
use Rattle.std.proofs.Common.{Ok, Err, refl, sym, ap, ◌∙◌, subst, arith}
use Rattle.std.specs.Prelude.{Contains}
use Rattle.std.specs.List.{list_any}
use Rattle.std.proofs.lemmas.Bool.Decides.{nat_tests}
use Rattle.btr_chunk.specs.declared.chunk.Chunk.{Chunk}
use Rattle.btr_chunk.specs.declared.fault.ChunkFault.{ChunkFault}
use Rattle.btr_chunk.specs.declared.fault.ChunkFault.TheVariants as chunk_fault
use Rattle.btr_chunk.specs.declared.add.AddFault.{AddFault}
use Rattle.btr_chunk.specs.declared.add.AddFault.TheVariants.{Overlap, Chunks, Memory}
use Rattle.btr_chunk.specs.Chunk.{stripe_length}
use Rattle.btr_chunk.specs.Extents.{ranges_meet}
use Rattle.btr_chunk.specs.Item.{chunk_of}
use Rattle.btr_chunk.specs.Mapping.{holds}
use Rattle.btr_chunk.specs.Table.{chunks_meet, some_meet, overlaps, same_chunk, placed, added, chunk_at, stripes_meet}
use Rattle.btr_prog.specs.Prog.{BlockMap, Prog, Return, Stop, Need, Emit, given, exec, bind}
use Rattle.btr_prog.specs.Thread.{go_on}
use Rattle.btr_read.specs.Fate.{Fault, sought, sought_in, passing_for}
use Rattle.btr_read.specs.Want.{addr_of}
use Rattle.btr_read.specs.declared.want.Want.{Want}
use Rattle.btr_walk.specs.Le.{TreeItem}
use Rattle.btr_walk.specs.Folds.{next_prog, folded_over}
use Rattle.btr_walk.specs.Range.{range}
use Rattle.btr_volume.specs.Maps.{array_layout}
use Rattle.btr_volume.specs.Start.{Images, Start, layout_by}
use Rattle.btr_volume.specs.Table.{TableResult, first_key, chunk_root, is_chunk, if_added, with_chunk, with_item, table_next, table_step, whole_table}
use Rattle.btr_volume.specs.Table.{table_scan}
use Rattle.btr_base.specs.Key.{last_key}
use Rattle.btr_restore.specs.Committed.{Commit, IsHonest, IsCommittedTable, committed}

-- an address that some chunks hold more chunks hold in the same chunk
abbrev pub Extends : List Chunk → List Chunk → Type 0
Extends chunks more = (addr : ℕ) (c : Chunk) → chunk_at chunks addr ≡ Some c → chunk_at more addr ≡ Some c

-- two ranges that hold one number meet
both_hold : (a len b other addr : ℕ) → ranges_meet a len b other ≡ false → (leb b addr && ltb addr (b + other)) ≡ true
    → (leb a addr && ltb addr (a + len)) ≡ false
both_hold a len b other addr apart there = grind (arith, nat_tests)

first_false : (a b : Bool) → (a || b) ≡ false → a ≡ false
first_false true b h = absurd (cc)
first_false false b h = refl

last_false : (a b : Bool) → (a || b) ≡ false → b ≡ false
last_false true b h = absurd (cc)
last_false false b h = h

module _ (chunk : Chunk) (addr : ℕ) where
  -- a chunk that doesn't meet another holds no address that the other holds
  apart_one : (c : Chunk) → chunks_meet chunk c ≡ false → holds c addr ≡ true → holds chunk addr ≡ false
  apart_one c apart there =
      both_hold chunk.start chunk.length c.start c.length addr
      (first_false (ranges_meet chunk.start chunk.length c.start c.length)
      (list_any (λ s. list_any (stripes_meet (stripe_length chunk) s (stripe_length c)) c.stripes) chunk.stripes) apart) there

  -- a chunk apart from others holds no address that they hold
  apart_all : (xs : List Chunk) (c : Chunk) → list_any (chunks_meet chunk) xs ≡ false → chunk_at xs addr ≡ Some c → holds chunk addr ≡ false
  apart_all [] c apart there = absurd (cc)
  apart_all (x ∷ xs) c apart there =
      elim (holds x addr) as (λ b. holds x addr ≡ b → cond b (Some x) (chunk_at xs addr) ≡ Some c → holds chunk addr ≡ false) [
        | true ↦ λ e found. apart_one x (first_false (chunks_meet chunk x) (list_any (chunks_meet chunk) xs) apart) e
        | false ↦ λ e found. apart_all xs c (last_false (chunks_meet chunk x) (list_any (chunks_meet chunk) xs) apart) found
      ] refl there

  -- an address that the first chunk doesn't hold is sought in the chunks behind it
  passed : (xs : List Chunk) (o : Option Chunk) → holds chunk addr ≡ false → chunk_at xs addr ≡ o → chunk_at (chunk ∷ xs) addr ≡ o
  passed xs o e found = ap (λ b. cond b (Some chunk) (chunk_at xs addr)) e ∙ found

  -- where it is placed, they hold it in the same chunk
  placed_finds : (xs : List Chunk) (c : Chunk) → holds chunk addr ≡ false → chunk_at xs addr ≡ Some c → chunk_at (placed chunk xs) addr ≡ Some c
  placed_finds [] c none there = absurd (cc)
  placed_finds (x ∷ xs) c none there =
      elim (ltb chunk.start x.start) as (λ b. chunk_at (cond b (chunk ∷ x ∷ xs) (x ∷ placed chunk xs)) addr ≡ Some c) [
        | true ↦ passed (x ∷ xs) (Some c) none there
        | false ↦ elim (holds x addr) as (λ b. cond b (Some x) (chunk_at xs addr) ≡ Some c → cond b (Some x) (chunk_at (placed chunk xs) addr) ≡ Some c) [
          | true ↦ λ found. found
          | false ↦ λ found. placed_finds xs c none found
        ] there
      ]

-- adding keeps what is there
added_by : (chunks : List Chunk) (chunk : Chunk) (new : List Chunk) (same over full : Bool)
    → (over ≡ false → list_any (chunks_meet chunk) chunks ≡ false)
    → cond same (Ok chunks) (cond over (Err Overlap) (cond full (Err Chunks) (Ok (placed chunk chunks)))) ≡ Ok new → Extends chunks new
added_by chunks chunk new true over full apart is addr c there = let e : chunks ≡ new = cc in ap (λ xs. chunk_at xs addr) (sym e) ∙ there
added_by chunks chunk new false true full apart is addr c there = absurd (cc)
added_by chunks chunk new false false true apart is addr c there = absurd (cc)
added_by chunks chunk new false false false apart is addr c there =
    let e : placed chunk chunks ≡ new = cc in
    ap (λ xs. chunk_at xs addr) (sym e) ∙ placed_finds chunk addr chunks c (apart_all chunk addr chunks c (apart refl) there) there

-- chunks that came of adding one hold what was held before, in the same chunks
added_extends : (chunks : List Chunk) (chunk : Chunk) (new : List Chunk) → added chunks chunk ≡ Ok new → Extends chunks new
added_extends chunks chunk new is =
    added_by chunks chunk new (list_any (same_chunk chunk) chunks) (overlaps chunks chunk) (leb 65536 (length chunks))
    (λ e. last_false (some_meet (stripe_length chunk) chunk.stripes) (list_any (chunks_meet chunk) chunks) e) is

-- where adding a chunk was not refused, the chunks hold what was held before
if_added_extends : (chunks : List Chunk) (chunk : Chunk) (new : List Chunk) (start : ℕ) (r : Result (List Chunk) AddFault) → added chunks chunk ≡ r
    → if_added start r ≡ Ok new → Extends chunks new
if_added_extends chunks chunk new start (Ok xs) e is = let f : xs ≡ new = cc in added_extends chunks chunk new (e ∙ ap Ok f)
if_added_extends chunks chunk new start (Err Overlap) e is = absurd (cc)
if_added_extends chunks chunk new start (Err Chunks) e is = absurd (cc)
if_added_extends chunks chunk new start (Err Memory) e is = absurd (cc)

-- where an item was read as a chunk and added, the chunks hold what was held before
with_chunk_extends : (chunks new : List Chunk) (start : ℕ) (r : Result Chunk ChunkFault) → with_chunk chunks start r ≡ Ok new → Extends chunks new
with_chunk_extends chunks new start (Ok chunk) is = if_added_extends chunks chunk new start (added chunks chunk) refl is
with_chunk_extends chunks new start (Err (chunk_fault.Stripes n)) is = absurd (cc)
with_chunk_extends chunks new start (Err chunk_fault.Bad) is = absurd (cc)
with_chunk_extends chunks new start (Err chunk_fault.Memory) is = absurd (cc)

-- an item of the chunk tree, be it a chunk or not, leaves what was held before
with_item_by : (chunks new : List Chunk) (item : TreeItem) (b : Bool)
    → cond b (with_chunk chunks item.key.offset (chunk_of item.key.offset item.body)) (Ok chunks) ≡ Ok new → Extends chunks new
with_item_by chunks new item true is = with_chunk_extends chunks new item.key.offset (chunk_of item.key.offset item.body) is
with_item_by chunks new item false is = λ addr c there. let e : chunks ≡ new = cc in ap (λ xs. chunk_at xs addr) (sym e) ∙ there

module _ (B : BlockMap Want Fault) (table : List Chunk) where
  -- the scan of some items, from the chunks that are known before them
  abbrev scan : List Chunk → Prog Want Fault TreeItem (Unit {0}) → Prog Want Fault ⊥ TableResult
  scan chunks p = folded_over table_step whole_table chunks p

  -- a scan comes to the table
  abbrev GivesTable : Prog Want Fault ⊥ TableResult → Type 0
  GivesTable p = (exec B p).ending ≡ Ok (Ok table)

  -- what a scan keeps behind all bytes of a block, it keeps behind the want of that block
  given_extends : (chunks : List Chunk) (x : Result (List ℕ) Fault) (k : List ℕ → Prog Want Fault TreeItem (Unit {0}))
      → ((b : List ℕ) → GivesTable (scan chunks (k b)) → Extends chunks table) → (given x (λ b. exec B (scan chunks (k b)))).ending ≡ Ok (Ok table)
      → Extends chunks table
  given_extends chunks (Ok b) k h is = h b is
  given_extends chunks (Err f) k h is = absurd (cc)

  -- a scan that goes on behind an item keeps the chunks that were known before it, if it keeps those known behind it
  item_extends : (chunks : List Chunk) (item : TreeItem) (r : TableResult) (p : Prog Want Fault TreeItem (Unit {0})) → with_item chunks item ≡ r
      → ((more : List Chunk) → GivesTable (scan more p) → Extends more table)
      → GivesTable (bind (next_prog item.leaf (table_next r)) (go_on (λ more. scan more p))) → Extends chunks table
  item_extends chunks item (Ok more) p e h is = λ addr c there. h more is addr c (with_item_by chunks more item (is_chunk item.key) e addr c there)
  item_extends chunks item (Err refusal) p e h is = absurd (cc)

  -- a scan that comes to a table keeps the chunks that it begins with
  scan_extends : (p : Prog Want Fault TreeItem (Unit {0})) (chunks : List Chunk) → GivesTable (scan chunks p) → Extends chunks table
  scan_extends (Return u) chunks is = λ addr c there. let e : chunks ≡ table = cc in ap (λ xs. chunk_at xs addr) (sym e) ∙ there
  scan_extends (Stop f) chunks is = absurd (cc)
  scan_extends (Need w k) chunks is = given_extends chunks (B w) k (λ b. scan_extends (k b) chunks) is
  scan_extends (Emit item p) chunks is = item_extends chunks item (with_item chunks item) p refl (λ more. scan_extends p more) is

-- a table that a scan of the chunk tree came to has all chunks of the system array
pub table_extends : (B : BlockMap Want Fault) (start : Start) (table : List Chunk) → (exec B (table_scan start)).ending ≡ Ok (Ok table)
    → Extends start.array table
table_extends B start table is = scan_extends B table (range first_key last_key (chunk_root start.sup)) start.array is

-- nothing stands in an empty list
no_member : (x : List ℕ) → Contains [] x → ⊥
no_member x h = let below : h.0 < 0 = h.1 in omega (arith, below)

module _ (images : Images) (start : Start) (table : List Chunk) (want : Want) (candidate : List ℕ) where
  -- where the array has no chunk for a want, or the table has the same, candidates by the array are candidates by the table
  same_candidates : (o : Option Chunk) → (o ≡ None ⊎ chunk_at table (addr_of want) ≡ o)
      → Contains (passing_for images (sought_in (array_layout start) want o)) candidate
      → Contains (passing_for images (sought (layout_by start table) want)) candidate
  same_candidates None e h = absurd (no_member candidate h)
  same_candidates (Some c) (inl e) h = absurd (cc)
  same_candidates (Some c) (inr e) h = subst (λ o. Contains (passing_for images (sought_in (layout_by start table) want o)) candidate) (sym e) h

  -- for the address of a want the array has no chunk, or the table has the same one
  none_or : (o : Option Chunk) → ((c : Chunk) → o ≡ Some c → chunk_at table (addr_of want) ≡ Some c) → o ≡ None ⊎ chunk_at table (addr_of want) ≡ o
  none_or None f = inl refl
  none_or (Some c) f = inr (f c refl)

  -- candidates by the array are candidates by the table
  pub table_candidates : Extends start.array table → Contains (passing_for images (sought (array_layout start) want)) candidate
      → Contains (passing_for images (sought (layout_by start table) want)) candidate
  table_candidates extends h = same_candidates (chunk_at start.array (addr_of want)) (none_or (chunk_at start.array (addr_of want)) (extends (addr_of want))) h

-- images that are honest by the table are so by the array
pub array_honest : (C : Commit) (images : Images) (start : Start) (table : List Chunk) → IsCommittedTable C images start table
    → IsHonest C images (layout_by start table) → IsHonest C images (array_layout start)
array_honest C images start table stands honest want bytes candidate is there =
    honest want bytes candidate is (table_candidates images start table want candidate
    (table_extends (committed C images (array_layout start)) start table stands) there)

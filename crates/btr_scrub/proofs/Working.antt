-- Chunk after chunk, each with its syncs.
use Rattle.std.proofs.Common.{◌≡◌, ℕ, ◌+◌, ◌<◌, ◌≤◌, Bool, true, false, cond, ◌&&◌, eqb, ◌/◌, List, ◌∷◌, ◌++◌, length, take, drop, slice_get, [], Option, Some}
use Rattle.std.proofs.Common.{None, is_none, IfSome, IsSomeAnd, OnOk, Result, Ok, Err, IsErrAnd, refl, sym, ap, ◌∙◌, subst, inl, inr, arith, append-nil}
use Rattle.std.proofs.Common.{append_assoc, add-one}
use Rattle.btr_scrub.proofs.Common.{AreApart, Blocks, CanMend, Chunk, Failing, Image, Images, In, IsOfScrub, IsPastChunk, IsTable, Layout, LiesInChunk}
use Rattle.btr_scrub.proofs.Common.{LiesInStripe, Memory, MendFault, Scrubs, Seen, Tally, Target, Want, Works, Write, addr_of, all_count_for, all_writes_for}
use Rattle.btr_scrub.proofs.Common.{alone, cases_lt, chunk_count_for, chunk_writes_for, eqb-true, false_from_ne_true, false≢true, filter, get_or_from_slice_get}
use Rattle.btr_scrub.proofs.Common.{in_either, in_right, is_in_chunk, is_in_row, mirrors, plain, range_with_len, row_of, rows_count, rows_in, rows_writes}
use Rattle.btr_scrub.proofs.Common.{same_Some, serving, sites_count, sites_in, sites_writes, slice_get_within, sought, sought_of, stripe_length, targets}
use Rattle.btr_scrub.proofs.Common.{waiting, writes_if}
use Rattle.std.proofs.lemmas.Bool.{cases_order}
use Rattle.std.proofs.lemmas.List.{take-append-drop}
use Rattle.btr_rack.specs.Rack.{IsRack, in_slot}
use Rattle.btr_read.proofs.Serving.{serves_as}
use Rattle.btr_scrub_copies.specs.Syncing.{OnlySyncs, Strands, SyncsMarked, WaitsBehindAll}
use Rattle.btr_scrub_copies.specs.Turns.{WaitsAt}
use Rattle.btr_scrub_copies.specs.Writes.{AreAmong}
use Rattle.btr_scrub_copies.proofs.Syncs.{sync_held, sync_slots}
use Rattle.btr_scrub_copies.proofs.Turning.{among_synced, does_plain, does_sync, marked_below}
use Rattle.btr_scrub.specs.WrittenRanges.{WaitsInOne}
use Rattle.btr_scrub.proofs.AcrossChunks.{chunk_unmoved}
use Rattle.btr_scrub.proofs.Blockwise.{have_lengths, ok_of, targets_both, with_one_start}
use Rattle.btr_scrub.proofs.Firsts.{drop_one}
use Rattle.btr_scrub.proofs.Positions.{alone_lies, any_one, is_sought, bounds_of}
use Rattle.btr_scrub.proofs.RowAgreeing.{map_same}
use Rattle.btr_scrub.proofs.Scrubbing.{IsUnmoved, can_mend_then, does_next, done_as, done_cut, done_then, recast, scrubs_none, waits_weaker}
use Rattle.btr_scrub.proofs.Stripes.{any_of}
use Rattle.btr_scrub.proofs.Lists.{any_at, passed}
use Rattle.btr_scrub.proofs.Itemwise.{AreSteps, one_cut, one_more}
use Rattle.std.proofs.Math.Seq.{take-suc}
use Rattle.btr_scrub.proofs.Grouping.{filter_later}

-- ---- one chunk

-- a list without a member is empty
nothing : {X : Type 0} (xs : List X) → ((x : X) → In x xs → ⊥) → xs ≡ []
nothing [] h = refl
nothing (x ∷ xs) h = absurd (h x (inl refl))

-- what a call did that failed was done where its fault is passed on
pub works_passed : {A : Type 0} {layout : Layout} {write : Bool} {f : Images → List Write} {c : Images → Tally → Tally} {a b : Seen} {t u : Tally}
    {r : Result A MendFault} {fault : MendFault} → IsErrAnd r (λ e. e ≡ fault) → Works {A = A} layout write f c a b t u (Err fault)
    → Works layout write f c a b t u r
works_passed {layout = layout} {write = write} {f = f} {c = c} {a = a} {b = b} {t = t} {u = u} {r = r} {fault = fault} is h =
    passed (λ r. Works layout write f c a b t u r) r fault is h

-- what waits where there is one chunk alone
in_alone : (whole : Layout) (chunk : Chunk) (a b : Seen) → WaitsAt (LiesInStripe (alone whole chunk)) a b → WaitsInOne (alone whole chunk) a b
in_alone whole chunk a b h = inr (any_at (λ c. WaitsAt (LiesInChunk whole c) a b) (chunk ∷ []) 0 chunk (omega arith) refl
    (waits_weaker (LiesInStripe (alone whole chunk)) (LiesInChunk whole chunk) a a b (λ range i. i) (alone_lies whole chunk) h))

module _ (whole : Layout) (chunk : Chunk) where
  -- the layout with this chunk alone
  abbrev single : Layout
  single = alone whole chunk

  -- a chunk was mended, and its images synced
  pub works_synced : {write : Bool} {f : Images → List Write} {c : Images → Tally → Tally} {m m' n : List Bool} {a b z : Seen} {t u : Tally}
      {x : Unit {0}} {r : Result (Unit {0}) MendFault} → write ≡ true → Scrubs single write f c m m' a b t u (Ok x) → SyncsMarked m' n b z r
      → Works single write f c a z t u r
  works_synced {write} {f} {c} {m' = m'} {n} {a} {b} {z} {t} {u} {x} {r} writing h s = record {
    does = recast (does_next (Unit {0}) (Unit {0}) (IsOfScrub single) (λ i. writes_if write (f i)) (λ i. []) [] [] [] (plain a) (plain b) (plain z) x r
        (λ images e. refl) h.does (does_sync (LiesInStripe single) m' n b z r s)) (λ images e. append-nil (writes_if write (f images)));
    counts = counted r;
    synced = waits r s;
    waits = λ none. in_alone whole chunk a z (λ range i. h.waits range (among_synced m' n b z r s range i));
    stranded = strands r s.synced;
    unwritten = λ w. absurd (false≢true (sym w ∙ writing));
  }
    where
      -- where no sync failed, the counts are those of the mending
      counted : (r : Result (Unit {0}) MendFault) → OnOk r (IfSome a.held (λ images. u ≡ c images t))
      counted (Ok y) = h.counts
      counted (Err e) = tt

      -- where nothing waited before and no sync failed, nothing waits
      waits : (r : Result (Unit {0}) MendFault) → SyncsMarked m' n b z r → OnOk r (a.unsynced ≡ [] → z.unsynced ≡ [])
      waits (Ok y) k = λ none. nothing z.unsynced (λ range i.
          let among = k.synced.0.among range i in
          let marked = h.marked (λ range i. absurd (subst (In range) none i)) range among.0 in
          false≢true (sym (among.1 (marked_below m' range.slot marked)) ∙ marked))
      waits (Err e) k = tt

      -- the mending let nothing wait for good
      before : b.never_synced ≡ a.never_synced
      before = h.stranded

      -- only what waited in an image whose sync failed waits for good
      strands : (r : Result (Unit {0}) MendFault) → WaitsBehindAll m' b z r → Strands a.never_synced z.never_synced r
      strands (Ok y) k = k.1 ∙ before
      strands (Err (Image slot)) k = (b.unsynced, k.1 ∙ ap (λ never. never ++ in_slot slot b.unsynced) before)
      strands (Err Memory) k = absurd k

  -- a chunk was only read
  pub works_read : {write : Bool} {f : Images → List Write} {c : Images → Tally → Tally} {m m' : List Bool} {a b : Seen} {t u : Tally} {x : Unit {0}}
      → write ≡ false → Scrubs single write f c m m' a b t u (Ok x) → Works single write f c a b t u (Ok x)
  works_read {a = a} {b = b} reading h = record {
    does = h.does;
    counts = h.counts;
    synced = λ none. ap (λ (s : Seen). s.unsynced) (h.unwritten reading).same ∙ none;
    waits = λ none. in_alone whole chunk a b h.waits;
    stranded = ap (λ (s : Seen). s.never_synced) (h.unwritten reading).same;
    unwritten = h.unwritten;
  }

  -- a chunk was mended up to a halt
  pub works_halted : {write : Bool} {f : Images → List Write} {c : Images → Tally → Tally} {m m' : List Bool} {a b : Seen} {t u : Tally} {e : MendFault}
      → Scrubs {A = Unit {0}} single write f c m m' a b t u (Err e) → Works {A = Unit {0}} single write f c a b t u (Err e)
  works_halted {a = a} {b = b} h = record {
    does = h.does;
    counts = tt;
    synced = tt;
    waits = λ none. in_alone whole chunk a b h.waits;
    stranded = h.stranded;
    unwritten = h.unwritten;
  }

-- ---- one after another

-- what waits behind a call waits behind it and those before, behind which no more waited
pub waits_before : (layout : Layout) (a b z : Seen) → AreAmong (waiting b) (waiting a) → WaitsInOne layout b z → WaitsInOne layout a z
waits_before layout a b z among (inl w) = inl (waits_weaker (λ range. ⊥) (λ range. ⊥) a b z among (λ range f. f) w)
waits_before layout a b z among (inr w) = inr (any_of (λ chunk. WaitsAt (LiesInChunk layout chunk) b z) (λ chunk. WaitsAt (LiesInChunk layout chunk) a z)
    layout.chunks (λ chunk. waits_weaker (LiesInChunk layout chunk) (LiesInChunk layout chunk) a b z among (λ range p. p)) w)

module _ (layout : Layout) (write : Bool) where
  -- a chunk of the table was mended
  pub works_alone : {A : Type 0} (k : ℕ) {chunk : Chunk} {f : Images → List Write} {c : Images → Tally → Tally} {a b : Seen} {t u : Tally}
      {r : Result A MendFault} → slice_get layout.chunks k ≡ Some chunk → Works (alone layout chunk) write f c a b t u r → Works layout write f c a b t u r
  works_alone k {chunk} {f} {a} {b} {r = r} there h = record {
    does = does_plain (IsOfScrub (alone layout chunk)) (IsOfScrub layout) (λ i. writes_if write (f i)) [] [] (plain a) (plain b) r
        (λ range s. elim s as (λ _. IsOfScrub layout range) [
          | inl sync ↦ inl sync
          | inr lies ↦ inr (any_at (λ c. LiesInChunk layout c range) layout.chunks k chunk (slice_get_within layout.chunks k chunk there) there
              (alone_lies layout chunk range lies))
        ]) h.does;
    counts = h.counts;
    synced = h.synced;
    waits = λ none. wider (h.waits none);
    stranded = h.stranded;
    unwritten = h.unwritten;
  }
    where
      -- what waits in stripes of this chunk alone waits in stripes of one chunk of the table
      wider : WaitsInOne (alone layout chunk) a b → WaitsInOne layout a b
      wider (inl w) = inl w
      wider (inr w) = inr (any_at (λ c. WaitsAt (LiesInChunk layout c) a b) layout.chunks k chunk (slice_get_within layout.chunks k chunk there) there
          (any_one (λ c. WaitsAt (LiesInChunk layout c) a b) chunk w))

  -- said otherwise
  pub works_as : (f g : Images → List Write) (c d : Images → Tally → Tally) (a b : Seen) (t u : Tally) (r : Result (Unit {0}) MendFault)
      → ((images : Images) → a.held ≡ Some images → (f images ≡ g images) × (c images t ≡ d images t)) → Works layout write f c a b t u r
      → Works layout write g d a b t u r
  works_as f g c d a b t u r same h =
      let k = done_as layout write f g c d a b t u r same (record { does = h.does; counts = h.counts; unwritten = h.unwritten }) in
      record { does = k.does; counts = k.counts; synced = h.synced; waits = h.waits; stranded = h.stranded; unwritten = k.unwritten }

  -- one work behind another
  pub works_then : (f g : Images → List Write) (c d : Images → Tally → Tally) (a b z : Seen) (t u v : Tally) (x : Unit {0}) (r : Result (Unit {0}) MendFault)
      → IsUnmoved layout write f g d a.held → Works layout write f c a b t u (Ok x) → Works layout write g d b z u v r
      → Works layout write (λ i. f i ++ g i) (λ i y. d i (c i y)) a z t v r
  works_then f g c d a b z t u v x r same h k =
      let both = done_then layout write f g c d a b z t u v x r same (record { does = h.does; counts = h.counts; unwritten = h.unwritten })
      (record { does = k.does; counts = k.counts; unwritten = k.unwritten }) in
      record {
        does = both.does;
        counts = both.counts;
        synced = waits r k.synced;
        waits = λ none. waits_before layout a b z (no_more (h.synced none)) (k.waits (h.synced none));
        stranded = subst (λ never. Strands never z.never_synced r) h.stranded k.stranded;
        unwritten = both.unwritten;
      }
    where
      -- where nothing waits, nothing new does
      no_more : b.unsynced ≡ [] → AreAmong (waiting b) (waiting a)
      no_more none range i = elim (in_either range b.unsynced b.never_synced i) as (λ _. In range (waiting a)) [
        | inl j ↦ absurd (subst (In range) none j)
        | inr j ↦ in_right range a.unsynced a.never_synced (subst (In range) h.stranded j)
      ]

      -- where nothing waited before the first, nothing waits behind the second
      waits : (r : Result (Unit {0}) MendFault) → OnOk r (b.unsynced ≡ [] → z.unsynced ≡ []) → OnOk r (a.unsynced ≡ [] → z.unsynced ≡ [])
      waits (Ok y) l = λ none. l (h.synced none)
      waits (Err y) l = tt

  -- one that came to a halt, before others
  pub works_cut : (f g : Images → List Write) (c d : Images → Tally → Tally) (a b : Seen) (t u : Tally) (e : MendFault)
      → Works {A = Unit {0}} layout write f c a b t u (Err e) → Works {A = Unit {0}} layout write (λ i. f i ++ g i) d a b t u (Err e)
  works_cut f g c d a b t u x h =
      let k = done_cut layout write (Unit {0}) (Unit {0}) f g c d a b t u x (record { does = h.does; counts = h.counts; unwritten = h.unwritten }) in
      record { does = k.does; counts = tt; synced = tt; waits = h.waits; stranded = h.stranded; unwritten = h.unwritten }

  -- nothing was done
  pub works_none : (a : Seen) (t : Tally) → Works {A = Unit {0}} layout write (λ i. []) (λ i y. y) a a t t (Ok tt)
  works_none a t =
      let h = scrubs_none layout write [] a t (tt {0}) in
      record { does = h.does; counts = h.counts; synced = λ none. none; waits = λ none. inl (λ range i. inl i); stranded = refl; unwritten = h.unwritten }

-- how they go one behind another
pub works_steps : (layout : Layout) (write : Bool) → AreSteps layout write {M = Unit {0}} (λ f c m n a b t u r. Works {A = Unit {0}} layout write f c a b t u r)
works_steps layout write = record {
  said = λ f g c d m n a b t u r. works_as layout write f g c d a b t u r;
  next = λ f g c d m n o a b z t u v r. works_then layout write f g c d a b z t u v tt r;
  cut = λ f g c d m n a b t u fault. works_cut layout write f g c d a b t u fault;
}

-- ---- the chunks of a table

-- the first members with one more
take_one : {X : Type 0} (xs : List X) (i : ℕ) (x : X) → slice_get xs i ≡ Some x → take (i + 1) xs ≡ take i xs ++ x ∷ []
take_one xs i x e = ap (λ n. take n xs) (add-one i) ∙ take-suc xs i x (slice_get_within xs i x e)
    ∙ ap (λ y. take i xs ++ y ∷ []) (get_or_from_slice_get xs i x x e)

-- a list is its first members, one, and those behind it
split_at : {X : Type 0} (xs : List X) (i : ℕ) (x : X) → slice_get xs i ≡ Some x → xs ≡ take i xs ++ x ∷ drop (i + 1) xs
split_at xs i x e = sym (take-append-drop i xs) ∙ ap (λ ys. take i xs ++ ys) (drop_one xs i x e)

module _ (kept : Failing) (layout : Layout) (wants : List Want) where
  -- the chunks before one are past, mended and synced
  pub record ChunksPast (write : Bool) (left : List Want) (number : ℕ) (old new : Seen) (tally tally' : Tally) : Type 0 where
    pub past : List Want
    pub split : wants ≡ past ++ left
    pub outside : (t : Target) (k : ℕ) (c : Chunk) → In t (targets layout past) → number ≤ k → slice_get layout.chunks k ≡ Some c → is_in_chunk c t ≡ false
    pub end : ℕ
    pub passed : (j : ℕ) (c : Chunk) → j < number → slice_get layout.chunks j ≡ Some c → c.start + c.length ≤ end
    pub apart : AreApart layout end left
    pub done : Works {A = Unit {0}} layout write (all_writes_for kept layout (take number layout.chunks) wants)
        (all_count_for kept layout write (take number layout.chunks) wants) old new tally tally' (Ok tt)

module _ (kept : Failing) (layout : Layout) (table : IsTable layout.chunks) (wants : List Want) where
  -- what is written in a chunk is so for the blocks that are left, where those past lie in none of its rows
  pub left_for : (write : Bool) (chunk : Chunk) (past left : List Want) → wants ≡ past ++ left
      → ((t : Target) → In t (targets layout past) → is_in_chunk chunk t ≡ false) → (images : Images)
      → (chunk_writes_for kept layout chunk left images ≡ chunk_writes_for kept layout chunk wants images)
      × ((x : Tally) → chunk_count_for kept layout write chunk left images x ≡ chunk_count_for kept layout write chunk wants images x)
  left_for write chunk past left split outside images =
      let both : targets layout wants ≡ targets layout past ++ targets layout left = ap (targets layout) split ∙ targets_both layout past left in
      let blocks : sites_in layout chunk wants ≡ sites_in layout chunk left =
      ap (filter (is_in_chunk chunk)) both ∙ filter_later (is_in_chunk chunk) (targets layout past) (targets layout left) outside in
      let in_rows : (r : ℕ) → row_of kept (targets layout wants) chunk r ≡ row_of kept (targets layout left) chunk r =
      λ r. ap (λ bs. record { chunk = chunk; number = r; blocks = bs; failing = kept }) (
      ap (filter (is_in_row chunk r)) both
      ∙ filter_later (is_in_row chunk r) (targets layout past) (targets layout left) (λ t i. ap (λ b. b && eqb t.at.row r) (outside t i))) in
      let rs : rows_in kept (targets layout wants) chunk ≡ rows_in kept (targets layout left) chunk =
      ap (λ xs. cond (is_none (mirrors chunk)) xs []) (map_same (row_of kept (targets layout wants) chunk) (row_of kept (targets layout left) chunk)
      (range_with_len 0 (stripe_length chunk / 65536)) (λ r _. in_rows r)) in (
        sym (ap (λ x. cond (is_none (mirrors chunk)) (rows_writes layout x images) (sites_writes kept (sites_in layout chunk wants) images)) rs
            ∙ ap (λ x. cond (is_none (mirrors chunk)) (rows_writes layout (rows_in kept (targets layout left) chunk) images) (sites_writes kept x images))
            blocks),
        λ y. sym (ap (λ x. cond (is_none (mirrors chunk)) (rows_count layout write x images y)
            (sites_count kept write (sites_in layout chunk wants) images y)) rs
            ∙ ap (λ x. cond (is_none (mirrors chunk)) (rows_count layout write (rows_in kept (targets layout left) chunk) images y)
            (sites_count kept write x images y)) blocks),
      )

  -- no chunk is past yet
  pub chunks_none : (write : Bool) (a : Seen) (tally : Tally) → AreApart layout 0 wants → ChunksPast kept layout wants write wants 0 a a tally tally
  chunks_none write a tally apart = record {
    past = [];
    split = refl;
    outside = λ t k c i le e. absurd i;
    end = 0;
    passed = λ j c lt e. absurd (omega (arith, lt));
    apart = apart;
    done = works_none layout write a tally;
  }

-- the chunk that comes next, where those before it are past
module _ {kept : Failing} {store : Blocks} {write : Bool} {marks : List Bool} {wants left : List Want} {number : ℕ} {a b : Seen} {tally tally' : Tally}
    (ready : CanMend write a store marks) (rack : IsRack a) (h : ChunksPast kept store.layout wants write left number a b tally tally') {chunk : Chunk}
    (there : slice_get store.layout.chunks number ≡ Some chunk) where
  -- the layout of the table
  abbrev layout : Layout
  layout = store.layout

  -- what is left begins in the next chunk or behind it
  pub begins_there : AreApart layout chunk.start left
  begins_there = by left h.apart
    where
      by : (ws : List Want) → AreApart layout h.end ws → AreApart layout chunk.start ws
      by [] apart = tt
      by (want ∷ rest) apart =
          let t = ok_of (sought layout want) apart.1 in
          let is = is_sought layout want t.0 t.1 in
          let addr : addr_of t.0.want ≡ addr_of want = ap addr_of (sought_of layout want t.0 t.1).want_is in
          let b = bounds_of t.0.chunk (addr_of t.0.want) is.held in
          let from = b.0 in
          let to = b.1 in
          let begin : chunk.start ≤ addr_of want = elim (cases_order is.number number) [
            | inl same ↦ let mine = same_Some t.0.chunk chunk (sym is.there ∙ ap (slice_get layout.chunks) same ∙ there) in
                omega (arith, addr, from, ap (λ (c : Chunk). c.start) mine)
            | inr (inl before) ↦ absurd (omega (arith, h.passed is.number t.0.chunk before is.there, to, addr, apart.0))
            | inr (inr after) ↦ omega (arith, addr, from, (ready.table.apart number is.number chunk t.0.chunk after there is.there).0)
          ] in
          (begin, apart.1, apart.2)

  -- what was mended before leaves what is written and counted in this chunk
  unmoved : IsUnmoved layout write (all_writes_for kept layout (take number layout.chunks) wants) (chunk_writes_for kept layout chunk wants)
      (chunk_count_for kept layout write chunk wants) a.held
  unmoved = chunk_unmoved kept layout write wants a.held number chunk ready.table (serving a store ready.serves).own_slots ready.given there
      (have_lengths a store rack ready.serves)

  -- what was done in it for some blocks
  abbrev ForChunk : Seen → Tally → List Want → Result (Unit {0}) MendFault → Type 0
  ForChunk z tally'' ws r = Works layout write (chunk_writes_for kept layout chunk ws) (chunk_count_for kept layout write chunk ws) b z tally' tally'' r

  -- what was done for the blocks that are left was done for all
  for_all : {z : Seen} {tally'' : Tally} (r : Result (Unit {0}) MendFault) → ForChunk z tally'' left r → ForChunk z tally'' wants r
  for_all {z} {tally''} r =
      let same = left_for kept layout ready.table wants write chunk h.past left h.split (λ t i. h.outside t number chunk i (omega arith) there) in
      works_as layout write (chunk_writes_for kept layout chunk left) (chunk_writes_for kept layout chunk wants)
      (chunk_count_for kept layout write chunk left) (chunk_count_for kept layout write chunk wants) b z tally' tally'' r
      (λ images e. ((same images).0, (same images).1 tally'))

  -- one chunk more
  pub chunks_more : {left' : List Want} {z : Seen} {tally'' : Tally} → IsPastChunk layout chunk left left' → ForChunk z tally'' left (Ok (tt {0}))
      → ChunksPast kept layout wants write left' (number + 1) a z tally tally''
  chunks_more {left'} {z} {tally''} p one = record {
    past = h.past ++ p.past;
    split = h.split ∙ ap (λ ws. h.past ++ ws) p.split ∙ sym (append_assoc h.past p.past left');
    outside = λ t k c i le e. elim (in_either t (targets layout h.past) (targets layout p.past) (subst (In t) (targets_both layout h.past p.past) i)) [
      | inl j ↦ h.outside t k c j (omega (arith, le)) e
      | inr j ↦ not_later t k c le e (p.inside t j)
    ];
    end = chunk.start + chunk.length;
    passed = λ j c lt e. elim (cases_lt j number) [
      | inl below ↦ omega (arith, (ready.table.apart j number c chunk below e there).0)
      | inr above ↦ let same : j ≡ number = omega (arith, lt, above) in
          omega (arith, ap (λ (c : Chunk). c.start + c.length) (same_Some c chunk (sym e ∙ ap (slice_get layout.chunks) same ∙ there)))
    ];
    apart = p.behind;
    done = subst (λ cs. Works layout write (all_writes_for kept layout cs wants) (all_count_for kept layout write cs wants) a z tally tally'' (Ok (tt {0})))
        (sym (take_one layout.chunks number chunk there))
        (one_more (works_steps layout write) (λ i c. chunk_writes_for kept layout c wants i)
        (λ i y c. chunk_count_for kept layout write c wants i y) (take number layout.chunks) chunk unmoved h.done (for_all (Ok tt) one));
  }
    where
      -- a block of this chunk lies in no later one
      not_later : (t : Target) (k : ℕ) (c : Chunk) → number + 1 ≤ k → slice_get layout.chunks k ≡ Some c → t.chunk ≡ chunk → is_in_chunk c t ≡ false
      not_later t k c le e mine = false_from_ne_true (is_in_chunk c t) (λ q.
          let same = (with_one_start layout ready.table number k chunk c there e (ap (λ (x : Chunk). x.start) (sym mine)
          ∙ eqb-true t.chunk.start c.start q)).0 in
          omega (arith, same, le))

  -- a halt in it
  pub chunks_cut : {z : Seen} {tally'' : Tally} {e : MendFault} → ForChunk z tally'' left (Err e)
      → Works {A = Unit {0}} layout write (all_writes_for kept layout layout.chunks wants) (all_count_for kept layout write layout.chunks wants) a
      z tally tally'' (Err e)
  chunks_cut {z} {tally''} {e} one =
      subst (λ cs. Works {A = Unit {0}} layout write (all_writes_for kept layout cs wants) (all_count_for kept layout write cs wants) a z tally tally''
      (Err e)) (sym (split_at layout.chunks number chunk there))
      (one_cut (works_steps layout write) (λ i c. chunk_writes_for kept layout c wants i)
      (λ i y c. chunk_count_for kept layout write c wants i y) (take number layout.chunks) chunk unmoved h.done
      (drop (number + 1) layout.chunks) e (for_all (Err e) one))

-- ---- what can be mended, behind syncs

-- what holds of the value that there is
pub some_and : {X : Type 0} (o : Option X) (P : X → Type 0) → IsSomeAnd o P → (x : X) × (o ≡ Some x) × P x
some_and None P h = absurd h
some_and (Some x) P h = (x, refl, h)

-- blocks can be mended still, behind syncs
pub can_mend_synced : (write : Bool) (a b : Seen) (store : Blocks) (m n : List Bool) → CanMend write a store m → OnlySyncs a b → length n ≡ length m
    → CanMend write b store n
can_mend_synced write a b store m n can only long =
    let slots = sync_slots a b only in
    can_mend_then write a b store store m n can slots (record { layout = refl; loans = refl })
    (serves_as a b store store slots (sync_held a b only) refl refl can.serves) long

-- A full stripe whose blocks were collected is sifted.
use Rattle.std.proofs.Common.{is_none, ◌≡◌, ℕ, ◌+◌, ◌∷◌, Bool, true, false, cond, ◌||◌, count_by, List, [], map, Option, Some, None, IfSome, IsOk, Ok, Err}
use Rattle.std.proofs.Common.{refl, sym, ap, ◌∙◌, subst, arith, append-nil}
use Rattle.btr_scrub.proofs.Common.{AccountsMend, AddsAll, AreApart, Blocks, CanMend, CanSift, Chunk, HasRooms, Image, Images, In, IsTable, Layout}
use Rattle.btr_scrub.proofs.Common.{LiesInStripe, Memory, MendFault, MendedRow, Row, Seen, ShareNoRow, Sifts, SiftsNext, Target, Want, addr_of, chunk_at}
use Rattle.btr_scrub.proofs.Common.{flagged, holds, is_checked, is_needed, is_plain, is_row_needed, list_any, mended_row, mirrors, row_of, same_Some, serving}
use Rattle.btr_scrub.proofs.Common.{sought, sought_of, stood, targets}
use Rattle.btr_scrub_row.specs.Mending.{IsOfRow, IsRowOf, is_at}
use Rattle.btr_scrub.specs.Rowing.{CollectsRow}
use Rattle.btr_scrub.specs.Sifting.{is_troubled, sound_in}
use Rattle.btr_scrub.specs.declared.sifted.Sifted.{Sifted}
use Rattle.btr_scrub.proofs.NextRow.{IsNextRow, is_row_of, mine_is, row_blocks}
use Rattle.btr_scrub.proofs.RowNumbers.{IsWholeChunk}
use Rattle.btr_scrub.proofs.Blockwise.{ok_of}
use Rattle.btr_scrub.proofs.OneRow.{chunk_number, chunk_of, row_in_stripe}
use Rattle.btr_scrub.proofs.Positions.{find_at, bounds_of}
use Rattle.btr_scrub.proofs.Rowwise.{next_row, none_past}
use Rattle.btr_scrub.proofs.Scrubbing.{account_weaker, tell, told}
use Rattle.btr_scrub.proofs.Sieving.{in_table, needed_row, sifts_kept, sifts_out}

-- ---- what a row's wants and blocks have in common

-- there is a plain sector among both
pub plain_among : (layout : Layout) (wants : List Want) (ts : List Target) → map (sought layout) wants ≡ map is_at ts
    → list_any (λ (t : Target). is_plain t.want) ts ≡ list_any is_plain wants
plain_among layout [] [] e = refl
plain_among layout [] (t ∷ ts) e = cc
plain_among layout (w ∷ ws) [] e = cc
plain_among layout (w ∷ ws) (t ∷ ts) e =
    let head : sought layout w ≡ Ok t = cc in
    let tail : map (sought layout) ws ≡ map is_at ts = cc in
    ap (λ b. b || list_any (λ (t : Target). is_plain t.want) ts) (ap is_plain (sought_of layout w t head).want_is)
    ∙ ap (λ b. is_plain w || b) (plain_among layout ws ts tail)

-- one with a plain sector is needed
pub plain_needed : (images : Images) (layout : Layout) (wants : List Want) (row : Row) → map (sought layout) wants ≡ map is_at row.blocks
    → list_any is_plain wants ≡ true → None ≡ sound_in images layout row
plain_needed images layout wants row e plain =
    sym (ap (λ b. cond (b || is_troubled (mended_row images layout row false)) None (Some (count_by is_checked row.blocks)))
    (plain_among layout wants row.blocks e ∙ plain))

-- one without is, where something in it is wrong
pub read_needed : (images : Images) (layout : Layout) (wants : List Want) (row : Row) (mended : MendedRow) → map (sought layout) wants ≡ map is_at row.blocks
    → list_any is_plain wants ≡ false → mended ≡ mended_row images layout row false
    → cond (is_troubled mended) None (Some mended.blocks) ≡ sound_in images layout row
read_needed images layout wants row mended e plain is =
    ap (λ (m : MendedRow). cond (is_troubled m) None (Some m.blocks)) is
    ∙ sym (ap (λ b. cond (b || is_troubled (mended_row images layout row false)) None (Some (count_by is_checked row.blocks)))
    (plain_among layout wants row.blocks e ∙ plain))

-- what was counted says whether it is needed, and else how many of its blocks are checked
counted_says : (images : Images) (layout : Layout) (row : Row) (o : Option ℕ) → o ≡ sound_in images layout row
    → (is_row_needed images layout row ≡ is_none o) × IfSome o (λ n. n ≡ count_by is_checked row.blocks)
counted_says images layout row o e = by (is_row_needed images layout row) o e
  where
    by : (b : Bool) (o : Option ℕ) → o ≡ cond b None (Some (count_by is_checked row.blocks))
        → (b ≡ is_none o) × IfSome o (λ n. n ≡ count_by is_checked row.blocks)
    by true None e = (refl, tt)
    by false (Some n) e = (refl, cc)
    by b o e = cc

-- a read that failed in a row failed in a stripe
pub row_account : (A B : Type 0) (layout : Layout) (start number : ℕ) (wants : List Want) (row : Row) (a b : Seen) (fault : MendFault) → IsTable layout.chunks
    → IsRowOf layout start number wants row → AccountsMend {A = A} (IsOfRow layout row) a b (Err fault) → AccountsMend {A = B} (LiesInStripe layout) a b
    (Err fault)
row_account A B layout start number wants row a b Memory table is h = h
row_account A B layout start number wants row a b (Image slot) table is h =
    let n = chunk_number layout start number row is.stripe in
    account_weaker {A = B} (IsOfRow layout row) (LiesInStripe layout) a b (Err (Image slot))
    (λ range of. in_table layout n.0 row.chunk range n.1 (row_in_stripe layout start number row range table is.stripe of)) h

-- ---- the row that comes next

-- the chunk of a block, which has parity
pub parity_there : (layout : Layout) (first : Want) (chunk : Chunk) → IsOk (sought layout first) →
    ((t : Target) → sought layout first ≡ Ok t → mirrors t.chunk ≡ None) → chunk_at layout.chunks (addr_of first) ≡ Some chunk → mirrors chunk ≡ None
parity_there layout first chunk placed parity at =
    let t = ok_of (sought layout first) placed in
    let same = same_Some t.0.chunk chunk (sym (chunk_of layout first t.0 t.1) ∙ at) in
    ap mirrors (sym same) ∙ parity t.0 t.1

-- the blocks of the full stripe that comes next were collected: it is one of the chunk of a first block, and those that are left are behind it
pub record RowComesNext (layout : Layout) (first : Want) (old new wants : List Want) (chunk : Chunk) (r : ℕ) : Type 0 where
  pub number : ℕ
  pub whole : IsWholeChunk layout number chunk
  pub apart : AreApart layout chunk.start (first ∷ old)
  pub got : CollectsRow chunk first old new wants r

-- so they are, of a first block in a chunk with parity
pub row_next : {write : Bool} {a : Seen} {store : Blocks} {marks : List Bool} → CanMend write a store marks → (first : Want) (old new wants : List Want)
    (chunk : Chunk) (r : ℕ) → AreApart store.layout 0 (first ∷ old)
    → ((t : Target) → sought store.layout first ≡ Ok t → mirrors t.chunk ≡ None) → chunk_at store.layout.chunks (addr_of first) ≡ Some chunk
    → CollectsRow chunk first old new wants r → RowComesNext store.layout first old new wants chunk r
row_next {a} {store} ready first old new wants chunk r apart parity at got =
    let found = find_at (λ (c : Chunk). holds c (addr_of first)) store.layout.chunks chunk at in
    record {
      number = found.0;
      whole = record {
        of = record { table = ready.table; there = found.1; parity = parity_there store.layout first chunk apart.1 parity at };
        own = (serving a store ready.serves).own_slots;
        given = ready.given;
      };
      apart = ((bounds_of chunk (addr_of first) found.2).0, apart.1, apart.2);
      got = got;
    }

module _ {layout : Layout} {first : Want} {old new ws : List Want} {chunk : Chunk} {r : ℕ} (n : RowComesNext layout first old new ws chunk r) where
  -- these blocks are those of the row that comes next
  next : IsNextRow n.whole (flagged []) (first ∷ old) 0 [] new r ws
  next = next_row n.whole (flagged []) (first ∷ old) (none_past n.whole (flagged []) (first ∷ old) n.apart) old new first r ws refl n.got.0 n.got.1

  -- the same, as if no others were listed
  mine : IsNextRow n.whole (flagged []) ws 0 [] [] r ws
  mine = record {
    split = sym (append-nil ws);
    later = omega arith;
    fits = next.fits;
    before = λ t i. absurd i;
    each = next.each;
    behind = λ t i e. absurd i;
    end = chunk.start;
    from = omega arith;
    apart = tt;
    head = next.head;
    tail = next.tail;
    some_block = next.some_block;
  }

  -- the row that they make, beside no image that fails
  abbrev pub row : Row
  row = row_of (flagged []) (targets layout ws) chunk r

  -- it is the row of these blocks
  pub is_row : IsRowOf layout chunk.start r ws row
  is_row = is_row_of n.whole (flagged []) ws mine

  -- the row has these blocks
  blocks_are : row.blocks ≡ targets layout ws
  blocks_are = row_blocks n.whole (flagged []) ws mine

  -- each lies in it
  lies : (t : Target) → In t (targets layout ws) → (t.chunk ≡ chunk) × (t.at.row ≡ r)
  lies t i = mine_is n.whole (flagged []) ws mine t i

  -- none that is left does
  none_left : ShareNoRow layout ws new
  none_left t u i j same none eq =
      let m = lies t i in
      let later = next.behind u j (sym same ∙ m.0) in
      omega (arith, m.1, eq, later)

  -- each is needed where the row is
  as_row : (images : Images) (b : Bool) → is_row_needed images layout row ≡ b → (t : Target) → In t (targets layout ws)
      → is_needed images layout (targets layout ws) t ≡ b
  as_row images b e t i =
      let m = lies t i in
      needed_row images layout t (targets layout ws) chunk r m.0 m.1 n.whole.of.parity ∙ e

  -- each has a position
  placed : (w : Want) → In w ws → (t : Target) × (sought layout w ≡ Ok t)
  placed w i = let e = next.each w i in (e.0, e.1)

  module _ (held : Option Images) (x y : Sifted) where
    -- to sift them is to sift what comes next
    sifts_next : Sifts layout held ws x y → SiftsNext layout held first old new x y
    sifts_next s = record {
      more = n.got.1.more;
      split = n.got.1.split;
      sifts = subst (λ vs. Sifts layout held vs x y) n.got.1.are s;
      rows = subst (λ vs. ShareNoRow layout vs new) n.got.1.are none_left;
    }

    -- all its blocks are kept
    pub row_kept : CanSift layout x → IfSome held (λ images. None ≡ sound_in images layout row) → AddsAll x.kept y.kept ws → y.sound ≡ x.sound
        → y.nodesize ≡ x.nodesize → HasRooms layout y.room.buffer → SiftsNext layout held first old new x y
    row_kept can none adds same nodesize rooms = sifts_next (sifts_kept layout held ws x y can
        (tell held (λ images. (t : Target) → In t (targets layout ws) → is_needed images layout (targets layout ws) t ≡ true) (λ images h.
        as_row images true (counted_says images layout row None (told held (λ images. None ≡ sound_in images layout row) images h none)).0))
        adds same nodesize rooms)

    -- they are counted
    pub row_out : (out : ℕ) → CanSift layout y → IfSome held (λ images. Some out ≡ sound_in images layout row) → y.kept ≡ x.kept
        → ((m : ℕ) → x.sound ≡ stood m → y.sound ≡ stood (m + out)) → SiftsNext layout held first old new x y
    row_out out can sound same grows = sifts_next (sifts_out layout held ws x y placed can out
        (tell held (λ images. out ≡ count_by is_checked (targets layout ws)) (λ images h. (is images h).1 ∙ ap (count_by is_checked) blocks_are))
        (tell held (λ images. (t : Target) → In t (targets layout ws) → is_needed images layout (targets layout ws) t ≡ false) (λ images h.
        as_row images false (is images h).0)) same grows)
      where
        -- the row isn't needed, and as many were counted as it has checked blocks
        is : (images : Images) → held ≡ Some images → (is_row_needed images layout row ≡ false) × (out ≡ count_by is_checked row.blocks)
        is images h = counted_says images layout row (Some out) (told held (λ images. Some out ≡ sound_in images layout row) images h sound)

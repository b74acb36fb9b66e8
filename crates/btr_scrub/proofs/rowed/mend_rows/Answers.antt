use Rattle.std.proofs.Common.{◌≡◌, ℕ, Bool, List, ◌+◌, ◌∷◌, ◌<◌, length, Some, is_some, slice_get, refl, sym, ap, ◌∙◌, subst, arith, length-append, Result}
use Rattle.btr_scrub.proofs.Common.{AreApart, Blocks, CanMend, Chunk, Failing, Layout, MendFault, Row, Scrubs, Seen, Tally, Want, addr_of, alone, chunk_at}
use Rattle.btr_scrub.proofs.Common.{counted_row, flagged, has_doubtful, mended_row, row_of, row_writes, same_Some, same_loans_then, serving, slice_get_within}
use Rattle.btr_scrub.proofs.Common.{targets}
use Rattle.btr_scrub.specs.Rowing.{CollectsRow}
use Rattle.btr_scrub.specs.Scrubbing.{RowsComeNext}
use Rattle.btr_scrub.proofs.Blockwise.{have_lengths, next_block}
use Rattle.btr_scrub.proofs.OneRow.{chunk_of}
use Rattle.btr_scrub.proofs.RowNumbers.{IsWholeChunk}
use Rattle.btr_scrub.proofs.NextRow.{IsNextRow, is_row_of}
use Rattle.btr_scrub.proofs.Scrubbing.{scrubs_passed}
use Rattle.btr_scrub.proofs.PassingRows.{passed_shorter, rows_passed}
use Rattle.btr_scrub.proofs.Rowwise.{RowsUnderway, next_row, rows_cut, rows_done, rows_first, rows_more, rows_past, rows_settled, rows_short}
use Rattle.btr_scrub.proofs.rowed.mend_rows.Goals as goal
use Rattle.btr_scrub_row.specs.Mending.{IsRowOf}

-- the chunk of a number, whose blocks come next, and where they lie
whole_chunk : {write : Bool} {a : Seen} {store : Blocks} {marks : List Bool} (ready : CanMend write a store marks) (number : ℕ) (blocks : List Want)
    → RowsComeNext store.layout number blocks → (chunk : Chunk) → slice_get store.layout.chunks number ≡ Some chunk
    → IsWholeChunk store.layout number chunk × AreApart store.layout chunk.start blocks
whole_chunk {a} {store} ready number blocks next chunk there =
    let is = rw there at next in (
      record { of = record { table = ready.table; there = there; parity = is.0 }; own = (serving a store ready.serves).own_slots; given = ready.given },
      is.1,
    )

module _ {layout : Layout} {number : ℕ} {chunk : Chunk} (s : IsWholeChunk layout number chunk) (fails : Failing) (wants : List Want)
    {write : Bool} {left : List Want} {m m' : List Bool} {a b : Seen} {tally tally' : Tally}
    (h : RowsUnderway s fails wants write left m m' a b tally tally') where
  -- the first block that comes next lies in the chunk, and those of its row were collected
  module _ (first : Want) (mid : List Want) (is : left ≡ first ∷ mid) (below : addr_of first < chunk.start + chunk.length) where
    its_chunk : chunk_at layout.chunks (addr_of first) ≡ Some chunk
    its_chunk =
        let next = next_block layout s.of.table number chunk s.of.there h.are.end first mid h.are.from (subst (AreApart layout h.are.end) is h.are.apart)
        below in
        chunk_of layout first next.target next.is_sought ∙ ap Some next.mine

    its_row : (row : ℕ) (left' ws : List Want) → (chunk_at layout.chunks (addr_of first) ≡ Some chunk → CollectsRow chunk first mid left' ws row)
        → IsNextRow s fails wants h.are.q h.are.past left' row ws
    its_row row left' ws got = next_row s fails wants h.are mid left' first row ws is (got its_chunk).0 (got its_chunk).1

  -- what was done for each row of these blocks was done for it
  its_scrubs : {row : ℕ} {left' ws : List Want} {m'' : List Bool} {z : Seen} {tally'' : Tally} {r : Result (Unit {0}) MendFault}
      → IsNextRow s fails wants h.are.q h.are.past left' row ws → (l : Layout) (start : ℕ) → l ≡ layout → start ≡ chunk.start
      → ((o : Row) → IsRowOf l start row ws o → o.failing ≡ fails → Scrubs (alone l o.chunk) write (λ images. row_writes images l o)
      (λ images x. counted_row x (mended_row images l o write)) m' m'' b z tally' tally'' r)
      → Scrubs (alone layout chunk) write (λ images. row_writes images layout (row_of fails (targets layout wants) chunk row))
      (λ images x. counted_row x (mended_row images layout (row_of fails (targets layout wants) chunk row) write)) m' m'' b z tally' tally'' r
  its_scrubs {row} {ws = ws} {m''} {z} {tally''} {r} n l start same begins one =
      subst (λ (l : Layout). (o : Row) → IsRowOf l start row ws o → o.failing ≡ fails → Scrubs (alone l o.chunk) write (λ images. row_writes images l o)
      (λ images x. counted_row x (mended_row images l o write)) m' m'' b z tally' tally'' r) same one (row_of fails (targets layout wants) chunk row)
      (subst (λ k. IsRowOf layout k row ws (row_of fails (targets layout wants) chunk row)) (sym begins) (is_row_of s fails wants n)) refl

pub loop-first-init : goal.loop-first-init
loop-first-init g c = record {
  ready = c.requires.ready;
  loans = record { layout = refl; loans = refl };
  rooms = c.requires.rooms;
  underway = λ chunk s. rows_first s (flagged c.args.task.how.failing.now) c.args.blocks.now c.args.task.how.write c.args.progress.now.marks.items
      (g.R.Rack.seen c.args.rack.now) c.args.progress.now.tally
      (whole_chunk c.requires.ready c.args.task.number c.args.blocks.now c.requires.chunk chunk s.of.there).1;
}

pub collect_row-requires : goal.collect_row-requires
collect_row-requires g c =
    let chunk = c.at-chunk.result.now in
    let s = (whole_chunk c.requires.ready c.args.task.number c.args.blocks.now c.requires.chunk chunk (rw c.chunks.ensures at c.at-chunk.ensures.chunk)).0 in
    rw c.loop-first.invariant.loans.layout (ap is_some (its_chunk s (flagged c.args.task.how.failing.now) c.args.blocks.now
    (c.loop-first.invariant.underway chunk s) c.in-Some.first c.next_below.new.blocks c.in-Some.ensures.0 c.in-Some.ensures.1))

pub returns-in_default-collect_row-clause-scrubs : goal.returns-in_default-collect_row-clause-scrubs
returns-in_default-collect_row-clause-scrubs g c chunk there =
    let s = (whole_chunk c.requires.ready c.args.task.number c.args.blocks.now c.requires.chunk chunk there).0 in
    rows_short s (flagged c.args.task.how.failing.now) c.args.blocks.now (c.loop-first.invariant.underway chunk s)

pub mend_collected-requires-clause-row : goal.mend_collected-requires-clause-row
mend_collected-requires-clause-row g c =
    let inv = c.loop-first.invariant in
    let fails = flagged c.args.task.how.failing.now in
    let wants = c.args.blocks.now in
    let chunk = c.at-chunk.result.now in
    let s = (whole_chunk c.requires.ready c.args.task.number wants c.requires.chunk chunk (rw c.chunks.ensures at c.at-chunk.ensures.chunk)).0 in
    let n = its_row s fails wants (inv.underway chunk s) c.in-Some.first c.next_below.new.blocks c.in-Some.ensures.0 c.in-Some.ensures.1 c.in-Ok.number
    c.collect_row.new.blocks c.collect_row.new.wants.items ((rw inv.loans.layout at c.in-Ok.ensures) chunk) in
    rw inv.loans.layout (record { row = row_of fails (targets c.args.store.now.layout wants) chunk c.in-Ok.number; is = is_row_of s fails wants n })

pub pass_inert-requires : goal.pass_inert-requires
pass_inert-requires g c =
    rw (same_loans_then c.args.store.now c.loop-first.store c.mend_collected.new.store c.loop-first.invariant.loans
    c.in_ok-mend_collected.ensures.loans).layout
    (slice_get_within c.args.store.now.layout.chunks c.args.task.number c.at-chunk.result.now (rw c.chunks.ensures at c.at-chunk.ensures.chunk))

pub loop-first-smaller : goal.loop-first-smaller
loop-first-smaller g c =
    let inv = c.loop-first.invariant in
    let chunk = c.at-chunk.result.now in
    let there = rw c.chunks.ensures at c.at-chunk.ensures.chunk in
    let s = (whole_chunk c.requires.ready c.args.task.number c.args.blocks.now c.requires.chunk chunk there).0 in
    let got = (rw inv.loans.layout at c.in-Ok.ensures) chunk (its_chunk s (flagged c.args.task.how.failing.now) c.args.blocks.now (inv.underway chunk s)
    c.in-Some.first c.next_below.new.blocks c.in-Some.ensures.0 c.in-Some.ensures.1) in
    let loans = same_loans_then c.args.store.now c.loop-first.store c.mend_collected.new.store inv.loans c.in_ok-mend_collected.ensures.loans in
    omega (
      arith,
      ap length c.in-Some.ensures.0,
      ap length got.1.split,
      length-append got.1.more c.collect_row.new.blocks,
      passed_shorter c.has_doubtful-doubtful.result chunk c.collect_row.new.blocks c.pass_inert.new.blocks
          ((rw loans.layout at c.pass_inert.ensures) chunk there),
    )

pub loop-first-preserved : goal.loop-first-preserved
loop-first-preserved g c =
    let inv = c.loop-first.invariant in
    let fails = flagged c.args.task.how.failing.now in
    let wants = c.args.blocks.now in
    let layout = c.args.store.now.layout in
    let loans = same_loans_then c.args.store.now c.loop-first.store c.mend_collected.new.store inv.loans c.in_ok-mend_collected.ensures.loans in
    let lengths = have_lengths (g.R.Rack.seen c.args.rack.now) c.args.store.now (g.met.R.Rack.sound c.args.rack.now) c.requires.ready.serves in
    record {
      ready = c.in_ok-mend_collected.ensures.ready;
      loans = loans;
      rooms = rw inv.loans.layout at c.in_ok-mend_collected.ensures.rooms;
      underway = λ chunk s.
          let h = inv.underway chunk s in
          let same = same_Some c.at-chunk.result.now chunk (sym (rw c.chunks.ensures at c.at-chunk.ensures.chunk) ∙ s.of.there) in
          let n = its_row s fails wants h c.in-Some.first c.next_below.new.blocks c.in-Some.ensures.0 (rw same at c.in-Some.ensures.1) c.in-Ok.number
          c.collect_row.new.blocks c.collect_row.new.wants.items ((rw inv.loans.layout at c.in-Ok.ensures) chunk) in
          let one = its_scrubs s fails wants h n c.loop-first.store.layout c.at-chunk.result.now.start inv.loans.layout (ap (λ (k : Chunk). k.start) same)
          c.in_ok-mend_collected.ensures.scrubs in
          rows_passed s fails wants (rows_more s fails wants h lengths n one) c.has_doubtful-doubtful.result
          (λ e. ap (has_doubtful layout.devices fails) (sym same) ∙ sym c.has_doubtful-doubtful.ensures ∙ e) (rows_settled s fails wants h lengths n one)
          c.pass_inert.new.blocks ((rw loans.layout at c.pass_inert.ensures) chunk s.of.there);
    }

pub returns-in_err-mend_collected-clause-scrubs : goal.returns-in_err-mend_collected-clause-scrubs
returns-in_err-mend_collected-clause-scrubs g c chunk there =
    let inv = c.loop-first.invariant in
    let fails = flagged c.args.task.how.failing.now in
    let wants = c.args.blocks.now in
    let s = (whole_chunk c.requires.ready c.args.task.number wants c.requires.chunk chunk there).0 in
    let h = inv.underway chunk s in
    let same = same_Some c.at-chunk.result.now chunk (sym (rw c.chunks.ensures at c.at-chunk.ensures.chunk) ∙ there) in
    let n = its_row s fails wants h c.in-Some.first c.next_below.new.blocks c.in-Some.ensures.0 (rw same at c.in-Some.ensures.1) c.in-Ok.number
    c.collect_row.new.blocks c.collect_row.new.wants.items ((rw inv.loans.layout at c.in-Ok.ensures) chunk) in
    let one = its_scrubs s fails wants h n c.loop-first.store.layout c.at-chunk.result.now.start inv.loans.layout (ap (λ (k : Chunk). k.start) same)
    c.in_err-mend_collected.ensures.scrubs in
    let lengths = have_lengths (g.R.Rack.seen c.args.rack.now) c.args.store.now (g.met.R.Rack.sound c.args.rack.now) c.requires.ready.serves in
    scrubs_passed c.from_residual.ensures.1 (rows_cut s fails wants h lengths n c.in_err-mend_collected.field-0.0 one)

pub returns-clause-past : goal.returns-clause-past
returns-clause-past g c chunk there =
    let same = same_Some c.at-chunk.result.now chunk (sym (rw c.chunks.ensures at c.at-chunk.ensures.chunk) ∙ there) in
    let s = (whole_chunk c.requires.ready c.args.task.number c.args.blocks.now c.requires.chunk chunk there).0 in
    rw c.in_default.ensures.0 (rows_past s (flagged c.args.task.how.failing.now) c.args.blocks.now (c.loop-first.invariant.underway chunk s).are
    (rw same at c.in_default.ensures.1))

pub returns-clause-scrubs : goal.returns-clause-scrubs
returns-clause-scrubs g c chunk there =
    let s = (whole_chunk c.requires.ready c.args.task.number c.args.blocks.now c.requires.chunk chunk there).0 in
    rows_done s (flagged c.args.task.how.failing.now) c.args.blocks.now (c.loop-first.invariant.underway chunk s)
    (rw c.in_default.ensures.0 at (returns-clause-past g c chunk there))

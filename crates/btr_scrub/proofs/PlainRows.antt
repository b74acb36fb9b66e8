-- Plain sectors up to the start of a full stripe; where full stripes hold nothing else they are kept at once.
use Rattle.std.proofs.Common.{◌≡◌, ℕ, zero, suc, ◌+◌, ◌-◌, ◌*◌, ◌^◌, ◌<◌, ◌≤◌, true, false, List, ◌∷◌, ◌++◌, slice_get, Some, None, Result, Ok, refl, sym, ap}
use Rattle.std.proofs.Common.{◌∙◌, subst, inl, inr, arith, append_assoc, OnOk, Option, ◌||◌, eqb}
use Rattle.btr_scrub.proofs.Common.{AddsAll, AreApart, Chunk, HasRooms, Images, In, IsTable, KeptBlocks, Layout, Plain, SiftsNext, Target, Want, addr_of}
use Rattle.btr_scrub.proofs.Common.{and_from, chunk_at, eq-eqb, holds, in_either, in_left, in_right, is_in_row, is_needed, is_plain, mended_row, mirrors}
use Rattle.btr_scrub.proofs.Common.{plains_from, position, sought, sought_of, stripe_length, targets}
use Rattle.btr_scrub.specs.Rowing.{StartsRow, AddsRun, KeepsRows, PassesRows, PassesTo}
use Rattle.std.proofs.lemmas.Result.{on_ok_weaker}
use Rattle.btr_scrub.proofs.Blockwise.{all_behind, of_targets, targets_both}
use Rattle.btr_scrub.proofs.Reading.{all_below, all_plain}
use Rattle.btr_scrub.proofs.RowNumbers.{IsParityChunk, at_row, held_row, row_fits, row_of_block, row_there, rows_rise, sought_each, tail_apart}
use Rattle.btr_scrub.specs.Listed.{PassesFrom}
use Rattle.btr_scrub.specs.declared.rowed.PlainRun.{PlainRun}
use Rattle.btr_scrub.specs.Sifting.{is_troubled, row_among}
use Rattle.btr_scrub.specs.declared.sifted.Sifted.{Sifted}
use Rattle.btr_scrub.proofs.Lists.{in_filter, is_any}
use Rattle.btr_scrub.proofs.Positions.{bounds_of, find_at, held_between}
use Rattle.btr_scrub.proofs.Scrubbing.{tell}
use Rattle.btr_scrub.proofs.Sieving.{in_targets, needed_row, sifts_kept, sifts_then}

-- what comes behind plain sectors begins where the last one ends, or later
plains_behind : (layout : Layout) (n from end : ℕ) (rest : List Want) → 1 ≤ n → AreApart layout end (plains_from from n ++ rest)
    → AreApart layout (from + n * 4096) rest
plains_behind layout zero from end rest some apart = absurd (omega (arith, some))
plains_behind layout (suc zero) from end rest some apart = apart.2
plains_behind layout (suc (suc n)) from end rest some apart =
    let there : from + 4096 + suc n * 4096 ≡ from + suc (suc n) * 4096 = omega arith in
    subst (λ e. AreApart layout e rest) there (plains_behind layout (suc n) (from + 4096) (from + 4096) rest (omega arith) apart.2)

-- the first of some plain sectors is one of them
first_plain : (n from : ℕ) → 1 ≤ n → In (Plain from) (plains_from from n)
first_plain zero from some = absurd (omega (arith, some))
first_plain (suc n) from some = inl refl

-- sectors that a reader passed reach just to the start of a row
pub passes_to : (chunk : Chunk) (start end row : ℕ) (run : PlainRun) (old mid new : List Want) → mid ≡ old → (p : PassesFrom mid run.addr start end new)
    → start ≤ end → StartsRow chunk start row → 1 ≤ run.count → run.count ≡ p.count → end < 2 ^ 64 → PassesTo chunk old run new
passes_to chunk start end row run old mid new e p le starts some same fits = record {
  some = some;
  split = subst (λ n. old ≡ plains_from run.addr n ++ new) (sym same) (sym e ∙ p.split);
  range = omega (arith, same, p.ends, fits);
  start = start;
  below = λ i lt. p.below i (omega (arith, lt, same));
  reaches = omega (arith, le, same, p.ends);
  row = row;
  starts = starts;
}

-- they were put behind a list
pub kept_run : {E : Type 0} (r : Result (Unit {0}) E) (chunk : Chunk) (run : PlainRun) (old new : List Want) (before after : KeptBlocks)
    → PassesTo chunk old run new → OnOk r (AddsAll before after (plains_from run.addr run.count)) → OnOk r (KeepsRows chunk old new before after)
kept_run r chunk run old new before after p adds = on_ok_weaker r (λ a. (Some run, p, a)) adds

-- plain sectors lie in rows of a chunk below one, and what comes behind them in that row or in later ones
pub record LieBelow (layout : Layout) (chunk : Chunk) (run : PlainRun) (row : ℕ) (left new : List Want) : Type 0 where
  pub below : (t : Target) → In t (targets layout (plains_from run.addr run.count)) → (is_plain t.want ≡ true) × (t.chunk ≡ chunk) × (t.at.row < row)
  pub behind : AreApart layout (run.addr + run.count * 4096) new
  pub later : (t : Target) → In t (targets layout new) → t.chunk ≡ chunk → row ≤ t.at.row
  pub from : chunk.start ≤ run.addr + run.count * 4096
  pub fits : row * 65536 + 65536 ≤ stripe_length chunk
  pub rises : (q : ℕ) → ((t : Target) → In t (targets layout left) → t.chunk ≡ chunk → q ≤ t.at.row) → q ≤ row

-- so do those that reach just to its start
pub lie_below : {layout : Layout} {number : ℕ} {chunk : Chunk} (s : IsParityChunk layout number chunk) (end : ℕ) (le : chunk.start ≤ end)
    (left new : List Want) (all : AreApart layout end left) (run : PlainRun) (p : PassesTo chunk left run new) → LieBelow layout chunk run p.row left new
lie_below {layout} {chunk} s end le left new all run p = record {
  below = λ t i.
      let w = of_targets layout t past i in
      let e = each w.0 w.1 in
      let same : e.0 ≡ t = cc (sym e.1 ∙ w.2) in
      let of = subst (λ (u : Target). (u.chunk ≡ chunk) × (u.at.row < p.row)) same (e.2, e.3) in
      (ap is_plain (sought_of layout w.0 t w.2).want_is ∙ all_plain run.count run.addr w.0 w.1, of.0, of.1);
  behind = behind;
  later = λ t i mine.
      let w = of_targets layout t new i in
      let at = row_of_block s w.0 t w.2 mine in
      let ge = all_behind layout (run.addr + run.count * 4096) new behind w.0 w.1 in
      let rise = rows_rise s p.start (addr_of w.0) (omega (arith, p.reaches, ge)) in
      omega (arith, rise, at.1, begins.1);
  from = omega (arith, inside.0, p.reaches);
  fits = let fits = row_fits s p.start begins.0 in omega (arith, fits, begins.1);
  rises = λ q ahead.
      let first = first_plain run.count run.addr p.some in
      let w = each (Plain run.addr) first in
      let le = ahead w.0 (subst (λ ws. In w.0 (targets layout ws)) (sym p.split)
      (in_targets layout (Plain run.addr) w.0 (past ++ new) (in_left (Plain run.addr) past new first) w.1)) w.2 in
      omega (arith, le, w.3);
}
  where
    -- the plain sectors that are passed
    past : List Want
    past = plains_from run.addr run.count

    -- they are apart, and so are those behind them
    apart : AreApart layout end (past ++ new)
    apart = subst (AreApart layout end) p.split all

    -- the start lies in the chunk, in that row
    begins : (holds chunk p.start ≡ true) × ((position chunk p.start).row ≡ p.row)
    begins = row_there chunk p.start p.row p.starts.here

    -- it lies between the chunk's ends
    inside : (chunk.start ≤ p.start) × (p.start < chunk.start + chunk.length)
    inside = bounds_of chunk p.start begins.0

    -- each lies in the chunk, in a row below
    each : (w : Want) → In w past → (t : Target) × (sought layout w ≡ Ok t) × (t.chunk ≡ chunk) × (t.at.row < p.row)
    each w i =
        let e = sought_each layout end (past ++ new) apart w (in_left w past new i) in
        let lt = all_below run.count run.addr p.start w p.below i in
        let ge = all_behind layout end (past ++ new) apart w (in_left w past new i) in
        let held = held_between chunk (addr_of w) (omega (arith, le, ge)) (omega (arith, lt, inside.1)) in
        let at = at_row s w e.0 (position chunk (addr_of w)).row e.1 (held_row chunk (addr_of w) held) in
        let rise = rows_rise s (addr_of w) (p.start - 1) (omega (arith, lt)) in
        let last = row_there chunk (p.start - 1) p.starts.last p.starts.before in
        (e.0, e.1, at.0, omega (arith, at.1, rise, last.1, p.starts.rises))

    -- those behind them are apart from where the last one ends
    behind : AreApart layout (run.addr + run.count * 4096) new
    behind = plains_behind layout run.count run.addr end new p.some apart

module _ (layout : Layout) (table : IsTable layout.chunks) (chunk : Chunk) (parity : mirrors chunk ≡ None) (row : ℕ) (run : PlainRun)
    (left new : List Want) (split : left ≡ plains_from run.addr run.count ++ new) (lie : LieBelow layout chunk run row left new) where
  -- the sectors of the run that is passed
  abbrev past : List Want
  past = plains_from run.addr run.count

  -- each of them is needed, as its row has a sector without a checksum
  needed : (images : Images) (t : Target) → In t (targets layout past) → is_needed images layout (targets layout past) t ≡ true
  needed images t i =
      let is = lie.below t i in
      let r = row_among (targets layout past) t in
      let here : is_in_row t.chunk t.at.row t ≡ true =
      and_from (eqb t.chunk.start t.chunk.start) (eqb t.at.row t.at.row) (eq-eqb t.chunk.start t.chunk.start refl) (eq-eqb t.at.row t.at.row refl) in
      needed_row images layout t (targets layout past) t.chunk t.at.row refl refl (ap mirrors is.1 ∙ parity)
      ∙ ap (λ b. b || is_troubled (mended_row images layout r false))
      (is_any (λ (u : Target). is_plain u.want) t r.blocks (in_filter (is_in_row t.chunk t.at.row) t (targets layout past) i here) is.0)

  module _ (held : Option Images) (want : Want) (old : List Want) (x y z : Sifted) (s : SiftsNext layout held want old left x y)
      (adds : AddsAll y.kept z.kept past) (sound : z.sound ≡ y.sound) (nodesize : z.nodesize ≡ y.nodesize) (room : z.room ≡ y.room) where
    -- the want, and those that were sifted with it
    abbrev mine : List Want
    mine = want ∷ s.more

    -- what is passed, or lies behind it, is of what was left
    in_all : (t : Target) → In t (targets layout past ++ targets layout new) → In t (targets layout left)
    in_all t i = subst (λ ws. In t (targets layout ws)) (sym split) (subst (In t) (sym (targets_both layout past new)) i)

    -- so they are kept with the row before them
    pub next_kept : SiftsNext layout held want old new x z
    next_kept = record {
      more = s.more ++ past;
      split = s.split ∙ ap (λ ws. s.more ++ ws) split ∙ sym (append_assoc s.more past new);
      sifts = sifts_then layout held table mine past x y z (λ t u i j. s.rows t u i (in_all u (in_left u (targets layout past) (targets layout new) j))) s.sifts
          (sifts_kept layout held past y z s.sifts.can
          (tell held (λ images. (t : Target) → In t (targets layout past) → is_needed images layout (targets layout past) t ≡ true) (λ images e. needed images))
          adds sound nodesize (subst (λ r. HasRooms layout r.buffer) (sym room) s.sifts.can.rooms));
      rows = λ t u i j same none eq. elim (in_either t (targets layout mine) (targets layout past) (subst (In t) (targets_both layout mine past) i)) [
        | inl k ↦ s.rows t u k (in_all u (in_right u (targets layout past) (targets layout new) j)) same none eq
        | inr k ↦ let is = lie.below t k in let l = lie.later u j (sym same ∙ is.1) in omega (arith, is.2, l, eq)
      ];
    }

-- a row was sifted, and the plain ones behind it were kept
pub rows_kept : (layout : Layout) (table : IsTable layout.chunks) (held : Option Images) (want : Want) (old mid new : List Want) (chunk : Chunk)
    (x y z : Sifted) → chunk_at layout.chunks (addr_of want) ≡ Some chunk → mirrors chunk ≡ None → AreApart layout 0 (want ∷ old)
    → SiftsNext layout held want old mid x y → z ≡ record y { kept = z.kept } → KeepsRows chunk mid new y.kept z.kept → SiftsNext layout held want old new x z
rows_kept layout table held want old mid new chunk x y z at parity apart s is keeps = by keeps.0 keeps.1 keeps.2
  where
    -- the chunk is one of the table, and holds the address
    there : (i : ℕ) × (slice_get layout.chunks i ≡ Some chunk) × (holds chunk (addr_of want) ≡ true)
    there = find_at (λ (c : Chunk). holds c (addr_of want)) layout.chunks chunk at

    of : IsParityChunk layout there.0 chunk
    of = record { table = table; there = there.1; parity = parity }

    by : (run : Option PlainRun) → PassesRows chunk mid run new → AddsRun y.kept z.kept run → SiftsNext layout held want old new x z
    by None none same =
        subst (λ ws. SiftsNext layout held want old ws x z) (sym none)
        (subst (λ (w : Sifted). SiftsNext layout held want old mid x w) (ap (λ k. record y { kept = k }) (sym same) ∙ sym is) s)
    by (Some run) p adds =
        let tail = tail_apart layout chunk.start (want ∷ s.more) mid (subst (λ ws. AreApart layout chunk.start (want ∷ ws)) s.split
        ((bounds_of chunk (addr_of want) there.2).0, apart.1, apart.2)) in
        next_kept layout table chunk parity p.row run mid new p.split (lie_below of tail.0 tail.1 mid new tail.2 run p) held want old x y z s
        adds (ap (λ (w : Sifted). w.sound) is) (ap (λ (w : Sifted). w.nodesize) is) (ap (λ (w : Sifted). w.room) is)

-- The bytes of a file's sectors.
use Rattle.std.proofs.Common.{◌≡◌, ℕ, zero, suc, ◌+◌, ◌-◌, ◌*◌, ◌%◌, ◌<◌, ◌≤◌, Bool, true, false, cond, not, length, List, [], Option, Some, None, Result, Ok}
use Rattle.std.proofs.Common.{Err, refl, sym, ap, ◌∙◌, subst, arith}
use Rattle.std.specs.Prelude.{min, take, slice_index}
use Rattle.std.proofs.lemmas.List.{get_or-take, length-take}
use Rattle.btr_base.specs.declared.kind.SumKind.{SumKind}
use Rattle.btr_base.specs.declared.stored.Sum.{Sum}
use Rattle.btr_prog.specs.Prog.{Return, Need, Emit, Mark, Wants, Run, first, given, exec, bind, after, and_then}
use Rattle.btr_prog.specs.Quiet.{quiet, quiet_marks}
use Rattle.btr_prog.proofs.Quieting.{exec-quiet}
use Rattle.btr_prog.proofs.Runs.{exec-bind}
use Rattle.btr_read.specs.Fate.{Fault, is_plain}
use Rattle.btr_read.specs.declared.want.Want.{Want}
use Rattle.btr_read.specs.declared.want.Want.TheVariants.{Sector, Plain}
use Rattle.btr_walk.specs.Reading.{Map}
use Rattle.btr_volume.specs.declared.root.TreeRoot.{TreeRoot}
use Rattle.btr_volume.specs.Lookup.{Program, Lookup, looks}
use Rattle.btr_files.specs.Content.{Piece, Bytes, want_by, sector_want, sectors}
use Rattle.btr_files.specs.FileAt.{sector_bytes, bytes_or_none, bytes_by, IsSectorLong}
use Rattle.btr_files.specs.Sums.{sum_at}
use Rattle.btr_files.proofs.Fills.{Fills, bytes_in, quiet_none, fills_none, fills_both, fills_marks}

-- a run that gives pieces
abbrev Answer : Type 0 → Type 0
Answer A = Run Want Fault Piece A

module _ (B : Map) (kind : SumKind) (sums : Option TreeRoot) (nosum : Bool) (size : ℕ)
    (whole : (want : Want) (bytes : List ℕ) → B want ≡ Ok bytes → IsSectorLong want bytes) where
  -- the byte at an address
  abbrev pub byte_at : ℕ → ℕ
  byte_at at = slice_index (sector_bytes B kind sums nosum (at - at % 4096)) (at % 4096)

  -- ---- sectors
  module _ (addr : ℕ) (want : Want) (bytes : List ℕ) (had : B want ≡ Ok bytes) where
    -- what the want comes to is as long as the want asks
    long_for : (w : Want) → w ≡ want → IsSectorLong w bytes
    long_for w e = subst (λ (x : Want). IsSectorLong x bytes) (sym e) (whole want bytes had)

    -- a sector whose want came by its checksum has 4096 bytes
    long_by : (ms : List (Mark Want ⊥)) (e : Result (Option Sum) Fault) → (after ms e (λ sum. exec B (Return (want_by addr sum)))).ending ≡ Ok want
        → length bytes ≡ 4096
    long_by ms (Ok None) h = long_for (Plain addr) (cc)
    long_by ms (Ok (Some sum)) h = long_for (Sector addr sum) (cc)
    long_by ms (Err f) h = let z : ⊥ = cc in absurd z

    -- a sector has 4096 bytes, whether its inode has checksums or not
    long_if : (b : Bool) → (exec B (cond b (Return (Plain addr)) (bind (sum_at kind sums addr) (λ sum. Return (want_by addr sum))))).ending ≡ Ok want
        → length bytes ≡ 4096
    long_if true h = long_for (Plain addr) (cc)
    long_if false h =
        let s = exec B (sum_at kind sums addr) in
        long_by s.marks s.ending (ap (λ (r : Run Want Fault ⊥ Want). r.ending)
        (sym (exec-bind B (sum_at kind sums addr) (λ sum. Return (want_by addr sum)))) ∙ h)

  -- one sector, from a position on
  module _ (f : ℕ → ℕ) (addr from : ℕ) (aligned : addr % 4096 ≡ 0) (low : from ≤ size)
      (told : (p : ℕ) → from ≤ p → p < from + 4096 → f p ≡ byte_at (addr + (p - from))) where
    -- a byte of a sector that starts at a whole sector's address is the one at its own address
    read_there : (bytes : List ℕ) → sector_bytes B kind sums nosum addr ≡ bytes → (i : ℕ) → i < 4096 → byte_at (addr + i) ≡ slice_index bytes i
    read_there bytes same i lt =
        let in_sector : (addr + i) % 4096 ≡ i = omega (arith, aligned, lt) in
        ap (λ (n : ℕ). slice_index (sector_bytes B kind sums nosum (addr + i - n)) n) in_sector
        ∙ ap (λ (n : ℕ). slice_index (sector_bytes B kind sums nosum n) i) (omega (arith))
        ∙ ap (λ (bs : List ℕ). slice_index bs i) same

    -- one sector, cut at the size, is the bytes at its addresses
    one_sector : (bytes : List ℕ) → length bytes ≡ 4096 → sector_bytes B kind sums nosum addr ≡ bytes
        → Fills f from (min (from + 4096) size) (take (size - from) bytes)
    one_sector bytes long same =
        let cut = length-take (size - from) bytes in record {
          long = omega (arith, cut, long, low);
          spells = λ i lt.
              let less : i < size - from = omega (arith, cut, lt) in
              let within : i < 4096 = omega (arith, cut, lt, long) in
              get_or-take (size - from) bytes i 0 less
              ∙ sym (told (from + i) (omega arith) (omega (arith, within)) ∙ ap byte_at (omega arith) ∙ read_there bytes same i within);
        }

  -- so many sectors
  abbrev Sectored : ℕ → Type 0
  Sectored n =
      (f : ℕ → ℕ) (addr from left : ℕ) → left ≡ size - from → addr % 4096 ≡ 0 → from ≤ size → from + n * 4096 < size + 4096
      → ((p : ℕ) → from ≤ p → p < from + n * 4096 → f p ≡ byte_at (addr + (p - from)))
      → (exec B (sectors kind sums nosum n addr left)).ending ≡ Ok tt
      → Fills f from (min (from + n * 4096) size) (bytes_in (exec B (sectors kind sums nosum n addr left)).marks)

  -- the sectors behind the first
  sectors_behind : (n : ℕ) → Sectored n → (f : ℕ → ℕ) (addr from : ℕ) → addr % 4096 ≡ 0 → from ≤ size → from + (suc n * 4096) < size + 4096
      → ((p : ℕ) → from ≤ p → p < from + (suc n * 4096) → f p ≡ byte_at (addr + (p - from)))
      → (exec B (sectors kind sums nosum n (addr + 4096) (size - from - 4096))).ending ≡ Ok tt
      → Fills f (min (from + 4096) size) (min (from + (suc n * 4096)) size)
      (bytes_in (exec B (sectors kind sums nosum n (addr + 4096) (size - from - 4096))).marks)
  sectors_behind zero ih f addr from aligned low high told ok = fills_none f (min (from + 4096) size)
  sectors_behind (suc n) ih f addr from aligned low high told ok =
      let past : from + 4096 ≡ min (from + 4096) size = omega (arith, high) in
      let far : from + 4096 + (suc n * 4096) ≡ from + (suc (suc n) * 4096) = omega arith in
      subst (λ (m : ℕ). Fills f m (min (from + (suc (suc n) * 4096)) size)
      (bytes_in (exec B (sectors kind sums nosum (suc n) (addr + 4096) (size - from - 4096))).marks)) past
      (subst (λ (m : ℕ). Fills f (from + 4096) (min m size) (bytes_in (exec B (sectors kind sums nosum (suc n) (addr + 4096) (size - from - 4096))).marks)) far
      (ih f (addr + 4096) (from + 4096) (size - from - 4096) (omega arith) (omega (arith, aligned)) (omega (arith, high)) (omega (arith, high))
      (λ p lo hi. told p (omega (arith, lo)) (omega (arith, hi)) ∙ ap byte_at (omega (arith, lo))) ok))

  module _ (n : ℕ) (ih : Sectored n) (f : ℕ → ℕ) (addr from : ℕ) (aligned : addr % 4096 ≡ 0) (low : from ≤ size) (high : from + (suc n * 4096) < size + 4096)
      (told : (p : ℕ) → from ≤ p → p < from + (suc n * 4096) → f p ≡ byte_at (addr + (p - from))) where
    abbrev W : Lookup Want
    W = sector_want kind sums nosum addr

    -- the sectors behind the first, up to the size
    abbrev rest : Program Piece (Unit {0})
    rest = sectors kind sums nosum n (addr + 4096) (size - from - 4096)

    -- the piece of the first sector, cut at the size, and then the sectors behind it
    abbrev cut_sector : Want → List ℕ → Program Piece (Unit {0})
    cut_sector want bytes = Emit (Bytes (take (size - from) bytes) (not (is_plain want))) rest

    -- where a run of these sectors ends well, it gives the bytes at their addresses, up to the size
    abbrev Told : Answer (Unit {0}) → Type 0
    Told r = r.ending ≡ Ok tt → Fills f from (min (from + (suc n * 4096)) size) (bytes_in r.marks)

    -- the first sector by its bytes, and then the others
    of_bytes : (ms : List (Mark Want ⊥)) (want : Want) → (exec B W).ending ≡ Ok want → (x : Result (List ℕ) Fault) → B want ≡ x
        → Told (after (quiet_marks ms) (Ok want) (λ w. first (Wants want) (given x (λ bytes. exec B (cut_sector want bytes)))))
    of_bytes ms want wanted (Ok bytes) had ok =
        let long : length bytes ≡ 4096 = long_if addr want bytes had nosum wanted in
        let same : sector_bytes B kind sums nosum addr ≡ bytes = ap (bytes_by B kind sums nosum) wanted ∙ ap (bytes_or_none B kind sums nosum) had in
        fills_marks f from from (min (from + (suc n * 4096)) size) (quiet_marks ms) (first (Wants want) (exec B (cut_sector want bytes))).marks
        (subst (Fills f from from) (quiet_none ms) (fills_none f from))
        (fills_both f from (min (from + 4096) size) (min (from + (suc n * 4096)) size) (take (size - from) bytes) (bytes_in (exec B rest).marks)
        (one_sector f addr from aligned low (λ p lo hi. told p lo (omega (arith, hi))) bytes long same)
        (sectors_behind n ih f addr from aligned low high told ok))
    of_bytes ms want wanted (Err fault) had ok = let z : ⊥ = cc in absurd z

    -- the first sector by its want, and then the others
    of_want : (ms : List (Mark Want ⊥)) (e : Result Want Fault) → (exec B W).ending ≡ e
        → Told (after (quiet_marks ms) e (λ want. exec B (Need want (cut_sector want))))
    of_want ms (Ok want) wanted ok = of_bytes ms want wanted (B want) refl ok
    of_want ms (Err fault) wanted ok = let z : ⊥ = cc in absurd z

    -- the lookup of the first sector's want, its bytes, and then the others
    sectors_more : Told (exec B (looks W (λ want. Need want (cut_sector want))))
    sectors_more =
        subst Told (sym (exec-bind B (quiet W) (λ want. Need want (cut_sector want))
        ∙ ap (λ (r : Answer Want). and_then r (λ want. exec B (Need want (cut_sector want)))) (exec-quiet B W)))
        (of_want (exec B W).marks (exec B W).ending refl)

  -- sectors that all came are the bytes at their addresses, cut at the size
  pub sectors_fill : (n : ℕ) → Sectored n
  sectors_fill zero f addr from left is aligned low high told ok =
      let same : from ≡ min (from + 0) size = omega (arith, low) in
      subst (λ (m : ℕ). Fills f from m []) same (fills_none f from)
  sectors_fill (suc n) f addr from left is aligned low high told ok =
      let Goal : ℕ → Type 0 =
      λ l. (exec B (sectors kind sums nosum (suc n) addr l)).ending ≡ Ok tt
      → Fills f from (min (from + (suc n * 4096)) size) (bytes_in (exec B (sectors kind sums nosum (suc n) addr l)).marks) in
      subst Goal (sym is) (sectors_more n (sectors_fill n) f addr from aligned low high told) ok

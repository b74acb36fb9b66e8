-- The bytes of an extent.
use Rattle.std.proofs.Common.{◌≡◌, ℕ, ◌+◌, ◌-◌, ◌*◌, ◌<◌, ◌≤◌, Bool, true, false, cond, length, List, [], Option, Result, Ok, Err, refl, sym, ap, ◌∙◌, subst}
use Rattle.std.proofs.Common.{arith}
use Rattle.std.specs.Prelude.{◌==◌, ◌&&◌, nat_le, nat_lt, min, take, slice_index}
use Rattle.std.proofs.lemmas.Bool.Decides.{nat_tests}
use Rattle.std.proofs.lemmas.List.{get_or-take, length-take, length-drop}
use Rattle.btr_base.specs.declared.kind.SumKind.{SumKind}
use Rattle.btr_items.specs.FileExtent.{end_of, file_len, inline_data}
use Rattle.btr_items.specs.declared.shape.Shape.{Shape}
use Rattle.btr_items.specs.declared.shape.Shape.TheVariants.{Inline, Regular, Prealloc}
use Rattle.btr_prog.specs.Prog.{Return, Emit, Run, exec, bind, after}
use Rattle.btr_prog.proofs.Runs.{exec-bind}
use Rattle.btr_read.specs.Fate.{Fault}
use Rattle.btr_read.specs.declared.want.Want.{Want}
use Rattle.btr_walk.specs.Reading.{Map}
use Rattle.btr_volume.specs.declared.root.TreeRoot.{TreeRoot}
use Rattle.btr_volume.specs.Lookup.{Program}
use Rattle.btr_files.specs.declared.clearness.Survey.{Survey}
use Rattle.btr_files.specs.declared.clearness.Survey.TheVariants.{Clear, Compressed, Encoded}
use Rattle.btr_files.specs.Content.{Piece, Bytes, gap, on_at, sector_count, if_clear, sectors, shaped}
use Rattle.btr_files.specs.Extents.{Extent, judged}
use Rattle.btr_files.specs.FileAt.{covers, byte_in, IsSectorLong}
use Rattle.btr_files.proofs.Extending.{test_le, test_lt, is_le, is_lt, plain, Known, IsPlaced}
use Rattle.btr_files.proofs.Fills.{Fills, Marks, bytes_in, fills_none, fills_both, fills_marks, fills_gap, gap_ends}
use Rattle.btr_files.proofs.SectorBytes.{byte_at, sectors_fill}
use Rattle.btr_read.proofs.Compared.{and_false}

test_in : (m n : ℕ) → m < n → nat_lt m n ≡ true
test_in m n h = grind (arith, nat_tests)

test_out : (m n : ℕ) → n ≤ m → nat_lt m n ≡ false
test_out m n h = grind (arith, nat_tests)

-- where a file has been given behind an extent, or where it ends
abbrev pub reached : Result ℕ ℕ → ℕ
reached (Ok at) = at
reached (Err at) = at

-- nothing is to come behind the end
abbrev pub Ends : ℕ → ℕ → Result ℕ ℕ → Type 0
Ends size end (Ok at) = Unit {0}
Ends size end (Err at) = size ≤ end

-- the bytes of an extent that ends at a position, by a function that says what byte each position has
pub record PutsExtent (f : ℕ → ℕ) (size end at : ℕ) (r : Result ℕ ℕ) (bytes : List ℕ) : Type 0 where
  pub fills : Fills f at (reached r) bytes
  pub within : reached r ≤ size
  pub short : reached r ≤ end
  pub over : (p : ℕ) → reached r ≤ p → p < size → f p ≡ 0
  pub ends : Ends size end r

module _ (B : Map) (kind : SumKind) (sums : Option TreeRoot) (nosum : Bool) (size : ℕ)
    (whole : (want : Want) (bytes : List ℕ) → B want ≡ Ok bytes → IsSectorLong want bytes) where
  -- ---- one extent
  module _ (x : Extent) (at : ℕ) where
    -- the position behind the extent
    abbrev pub end : ℕ
    end = end_of x.start x.fields

    -- the byte of an extent of a shape at a position that it covers
    abbrev pub within : ℕ → Shape → ℕ
    within p s = byte_in B kind sums nosum p x s

    -- the byte that the extent has at a position, and zero where it doesn't cover it
    abbrev pub byte : ℕ → ℕ
    byte p = cond (covers p x) (within p x.fields.shape) 0

    -- an extent has zero before its start
    byte_before : (p : ℕ) → p < x.start → byte p ≡ 0
    byte_before p lt = ap (λ (b : Bool). cond (b && nat_lt p end) (within p x.fields.shape) 0) (test_lt p x.start lt)

    -- an extent has zero behind its end
    byte_behind : (p : ℕ) → end ≤ p → byte p ≡ 0
    byte_behind p le =
        let out : covers p x ≡ false = ap (λ (b : Bool). nat_le x.start p && b) (test_out p end le) ∙ and_false (nat_le x.start p) in
        ap (λ (b : Bool). cond b (within p x.fields.shape) 0) out

    -- from its start to its end an extent has the byte of its shape
    byte_within : (s : Shape) → x.fields.shape ≡ s → (p : ℕ) → x.start ≤ p → p < end → byte p ≡ within p s
    byte_within s is p le lt =
        ap (λ (b : Bool). cond (b && nat_lt p end) (within p x.fields.shape) 0) (test_le p x.start le)
        ∙ ap (λ (b : Bool). cond b (within p x.fields.shape) 0) (test_in p end lt)
        ∙ ap (within p) is

    -- zeros wherever it covers
    byte_none : (s : Shape) → x.fields.shape ≡ s → ((p : ℕ) → within p s ≡ 0) → (p : ℕ) → byte p ≡ 0
    byte_none s is none p = by (covers p x)
      where
        by : (b : Bool) → cond b (within p x.fields.shape) 0 ≡ 0
        by true = ap (within p) is ∙ none p
        by false = refl

    module _ (low : at ≤ size) (order : at ≤ x.start) where
      -- these are the bytes that the extent puts, and how far the file has been given then
      abbrev pub PutsBy : Result ℕ ℕ → List ℕ → Type 0
      PutsBy = PutsExtent byte size end at

      -- an extent that has zeros everywhere puts nothing: it is a part of the next gap
      puts_none : ((p : ℕ) → byte p ≡ 0) → PutsBy (Ok at) []
      puts_none none = record {
        fills = fills_none byte at;
        within = low;
        short = omega (arith, order);
        over = λ p le lt. none p;
        ends = tt;
      }

      -- an extent that begins at the size or behind it puts nothing, and the file is at its end
      puts_over : size ≤ x.start → PutsBy (Err at) []
      puts_over le = record {
        fills = fills_none byte at;
        within = low;
        short = omega (arith, order);
        over = λ p from lt. byte_before p (omega (arith, le, lt));
        ends = omega (arith, le);
      }

      -- bytes up to the extent's end or the size are what it puts, by whether it reaches the size
      puts_if : (bytes : List ℕ) → Fills byte at (min end size) bytes → (b : Bool) → nat_le size end ≡ b → PutsBy (cond b (Err size) (Ok end)) bytes
      puts_if bytes h true e =
          let le : size ≤ end = is_le size end e in record {
            fills = subst (λ (m : ℕ). Fills byte at m bytes) (omega (arith, le)) h;
            within = omega arith;
            short = le;
            over = λ p from lt. absurd (omega (arith, from, lt));
            ends = le;
          }
      puts_if bytes h false e =
          let less : end < size = is_lt size end e in record {
            fills = subst (λ (m : ℕ). Fills byte at m bytes) (omega (arith, less)) h;
            within = omega (arith, less);
            short = omega arith;
            over = λ p from lt. byte_behind p from;
            ends = tt;
          }

      -- bytes up to the extent's end or the size are what it puts
      puts_on : (bytes : List ℕ) → Fills byte at (min end size) bytes → PutsBy (on_at size end) bytes
      puts_on bytes h = puts_if bytes h (nat_le size end) refl

      -- what a run of an extent puts
      abbrev pub Puts_by : Run Want Fault Piece (Result ℕ ℕ) → Type 0
      Puts_by q = (r : Result ℕ ℕ) → q.ending ≡ Ok r → PutsBy r (bytes_in q.marks)

      abbrev done : Result ℕ ℕ → Result (Result ℕ ℕ) Fault
      done r = Ok r

      -- bytes that are put with one answer of a run are put with the same one by another name
      by_ending : (ms : Marks) (r r' : Result ℕ ℕ) → done r ≡ done r' → PutsBy r (bytes_in ms) → PutsBy r' (bytes_in ms)
      by_ending ms r r' e h = subst (λ (a : Result ℕ ℕ). PutsBy a (bytes_in ms)) (cc) h

      module _ (begins : x.start < size) where
        -- inline bytes, behind zeros
        module _ (len : ℕ) (is : x.fields.shape ≡ Inline len) (all : end ≡ x.start + len) (long : length x.inline ≡ len) where
          abbrev body : Program Piece (Result ℕ ℕ)
          body = Emit (Bytes (take (size - x.start) x.inline) true) (Return (on_at size end))

          -- each inline byte up to the size is the extent's at its position
          inline_read : (i : ℕ) → i < length (take (size - x.start) x.inline) → slice_index (take (size - x.start) x.inline) i ≡ byte (x.start + i)
          inline_read i lt =
              let cut = length-take (size - x.start) x.inline in
              get_or-take (size - x.start) x.inline i 0 (omega (arith, cut, lt))
              ∙ ap (slice_index x.inline) (omega arith)
              ∙ sym (byte_within (Inline len) is (x.start + i) (omega arith) (omega (arith, cut, lt, long, all)))

          -- the inline bytes up to the size are the extent's from its start on
          inline_fills : Fills byte x.start (min end size) (take (size - x.start) x.inline)
          inline_fills =
              let cut = length-take (size - x.start) x.inline in record {
                long = omega (arith, cut, long, all, begins);
                spells = inline_read;
              }

          -- zeros before an inline extent, and then its bytes, are what it puts
          inline_some : Puts_by (exec B (gap (x.start - at) body))
          inline_some r e =
              by_ending (exec B (gap (x.start - at) body)).marks (on_at size end) r (sym (gap_ends B (x.start - at) body) ∙ e)
              (puts_on (bytes_in (exec B (gap (x.start - at) body)).marks)
              (fills_gap byte B at x.start (min end size) body order (λ p le lt. byte_before p lt)
              (fills_both byte x.start (min end size) (min end size) (take (size - x.start) x.inline) [] inline_fills (fills_none byte (min end size)))))

          -- an inline extent puts its bytes, or nothing where it is empty
          inline_if : (b : Bool) → (len == 0) ≡ b → Puts_by (exec B (cond b (Return (Ok at)) (gap (x.start - at) body)))
          inline_if true e r h =
              let none : len ≡ 0 = grind (arith, nat_tests) in
              let out : (p : ℕ) → byte p ≡ 0 = λ p. no_byte p (nat_le end p) refl none in
              by_ending [] (Ok at) r h (puts_none out)
            where
              -- an empty inline extent has zero everywhere
              no_byte : (p : ℕ) (b : Bool) → nat_le end p ≡ b → len ≡ 0 → byte p ≡ 0
              no_byte p true e none = byte_behind p (is_le end p e)
              no_byte p false e none = byte_before p (let less : p < end = is_lt end p e in omega (arith, less, all, none))
          inline_if false e r h = inline_some r h

        -- sectors, behind zeros
        module _ (addr disk_len skip len : ℕ) (is : x.fields.shape ≡ Regular addr disk_len skip len) (all : end ≡ x.start + len) where
          -- how many sectors of the extent begin before the size
          abbrev count : ℕ
          count = sector_count size x.start len

          -- those sectors
          abbrev told : Program Piece (Unit {0})
          told = sectors kind sums nosum count (addr + skip) (size - x.start)

          -- those sectors, and then on behind the extent, or the end at the size
          abbrev regular : Program Piece (Result ℕ ℕ)
          regular = bind told (λ u. Return (on_at size end))

          module _ (some : (addr == 0) ≡ false) (place : IsPlaced addr skip len) where
            -- a byte of a regular extent with sectors is the one at its address
            regular_read : (p : ℕ) → x.start ≤ p → p < x.start + count * 4096 → byte p ≡ byte_at B kind sums nosum size whole (addr + skip + (p - x.start))
            regular_read p le lt =
                let m : ℕ = min len (size - x.start) in
                let most : count * 4096 ≤ m + 4095 = omega arith in
                let within_len : m ≤ len = omega arith in
                let low_end : count * 4096 ≤ len = omega (arith, most, within_len, place.len_whole) in
                byte_within (Regular addr disk_len skip len) is p le (omega (arith, lt, low_end, all))
                ∙ ap (λ (b : Bool). cond b 0 (byte_at B kind sums nosum size whole (addr + skip + (p - x.start)))) some

            -- sectors that all came are the extent's bytes from its start on, up to its end or the size
            regular_fills : (exec B told).ending ≡ Ok tt → Fills byte x.start (min end size) (bytes_in (exec B told).marks)
            regular_fills ok =
                let m : ℕ = min len (size - x.start) in
                let most : count * 4096 ≤ m + 4095 = omega arith in
                let least : m ≤ count * 4096 = omega arith in
                let to : min (x.start + count * 4096) size ≡ min end size = omega (arith, most, least, place.len_whole, all, begins) in
                subst (λ (n : ℕ). Fills byte x.start n (bytes_in (exec B told).marks)) to
                (sectors_fill B kind sums nosum size whole count byte (addr + skip) x.start (size - x.start) refl
                (omega (arith, place.addr_whole, place.skip_whole)) (omega (arith, begins)) (omega (arith, most, begins)) regular_read ok)

            -- where a run of sectors answers, it goes on behind the extent or ends at the size, and the sectors are the extent's bytes
            regular_run : (ms : Marks) (e : Result (Unit {0}) Fault) → (e ≡ Ok tt → Fills byte x.start (min end size) (bytes_in ms))
                → (r : Result ℕ ℕ) → (after ms e (λ u. exec B (Return (on_at size end)))).ending ≡ Ok r →
                (on_at size end ≡ r) × Fills byte x.start (min end size) (bytes_in (after ms e (λ u. exec B (Return (on_at size end)))).marks)
            regular_run ms (Ok tt) h r e = (cc, fills_marks byte x.start (min end size) (min end size) ms [] (h refl) (fills_none byte (min end size)))
            regular_run ms (Err f) h r e = let z : ⊥ = cc in absurd z

            -- zeros before a regular extent that is no hole, and then its sectors, are what it puts
            regular_some : Puts_by (exec B (gap (x.start - at) regular))
            regular_some r e =
                let s = exec B told in
                let same = exec-bind B told (λ u. Return (on_at size end)) in
                let ended : (exec B regular).ending ≡ Ok r = sym (gap_ends B (x.start - at) regular) ∙ e in
                let g = regular_run s.marks s.ending regular_fills r (ap (λ (q : Run Want Fault Piece (Result ℕ ℕ)). q.ending) (sym same) ∙ ended) in
                let filled : Fills byte x.start (min end size) (bytes_in (exec B regular).marks) =
                subst (λ (q : Run Want Fault Piece (Result ℕ ℕ)). Fills byte x.start (min end size) (bytes_in q.marks)) (sym same) g.1 in
                subst (λ (a : Result ℕ ℕ). PutsBy a (bytes_in (exec B (gap (x.start - at) regular)).marks)) g.0
                (puts_on (bytes_in (exec B (gap (x.start - at) regular)).marks)
                (fills_gap byte B at x.start (min end size) regular order (λ p le lt. byte_before p lt) filled))

          -- a regular extent puts its sectors, or nothing where it is a hole
          regular_if : (b : Bool) → (addr == 0) ≡ b → (0 < addr → IsPlaced addr skip len)
              → Puts_by (exec B (cond b (Return (Ok at)) (gap (x.start - at) regular)))
          regular_if true e place r h =
              by_ending [] (Ok at) r h
              (puts_none (byte_none (Regular addr disk_len skip len) is
              (λ p. ap (λ (b : Bool). cond b 0 (byte_at B kind sums nosum size whole (addr + skip + (p - x.start)))) e)))
          regular_if false e place r h = let some : 0 < addr = grind (arith, nat_tests) in regular_some e (place some) r h

        -- a clear extent that begins before the size puts its bytes, whatever its shape
        puts_shape : (stored : List ℕ) → x.inline ≡ inline_data stored → judged x.fields ≡ Clear → (s : Shape) → x.fields.shape ≡ s → Known stored s
            → Puts_by (exec B (shaped kind sums nosum size at x s))
        puts_shape stored same clear (Inline len) is k r h =
            let all : end ≡ x.start + len =
            ap (λ (s : Shape). x.start + file_len x.fields s) is ∙ ap (λ (b : Bool). x.start + cond b len x.fields.ram) (plain x.fields clear) in
            let cut = length-drop 21 stored in
            inline_if len is all (ap length same ∙ omega (arith, cut, k)) (len == 0) refl r h
        puts_shape stored same clear (Regular addr disk_len skip len) is k r h =
            regular_if addr disk_len skip len is (ap (λ (s : Shape). x.start + file_len x.fields s) is) (addr == 0) refl k r h
        puts_shape stored same clear (Prealloc addr disk_len skip len) is k r h = by_ending [] (Ok at) r h
            (puts_none (byte_none (Prealloc addr disk_len skip len) is (λ p. refl)))

      -- a clear extent puts its bytes, wherever it begins
      puts_size : (stored : List ℕ) → x.inline ≡ inline_data stored → judged x.fields ≡ Clear → Known stored x.fields.shape → (b : Bool)
          → nat_le size x.start ≡ b → Puts_by (exec B (cond b (Return (Err at)) (shaped kind sums nosum size at x x.fields.shape)))
      puts_size stored same clear k true e r h = by_ending [] (Err at) r h (puts_over (is_le size x.start e))
      puts_size stored same clear k false e r h = puts_shape (is_lt size x.start e) stored same clear x.fields.shape refl k r h

      -- where a run of an extent's pieces ends well, it has put the extent's bytes
      pub puts_clear : (stored : List ℕ) → x.inline ≡ inline_data stored → (judged x.fields ≡ Clear → Known stored x.fields.shape) → (s : Survey)
          → judged x.fields ≡ s →
          Puts_by (exec B (if_clear x s (cond (nat_le size x.start) (Return (Err at)) (shaped kind sums nosum size at x x.fields.shape))))
      puts_clear stored same k Clear e r h = puts_size stored same e (k e) (nat_le size x.start) refl r h
      puts_clear stored same k Compressed e r h = let z : ⊥ = cc in absurd z
      puts_clear stored same k Encoded e r h = let z : ⊥ = cc in absurd z

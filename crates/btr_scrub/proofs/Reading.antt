-- A place in a list of blocks.
use Rattle.std.proofs.Common.{◌≡◌, ◌≢◌, ℕ, zero, suc, ◌+◌, ◌-◌, ◌*◌, ◌^◌, ◌<◌, ◌≤◌, List, [], ◌∷◌, ◌++◌, length, drop, slice_get, Option, Some, None, true}
use Rattle.std.proofs.Common.{refl, sym, ap, ◌∙◌, append_assoc, subst, inl, inr, arith}
use Rattle.std.proofs.Math.Nat.{add_comm, one-mul, sub-zero, suc-mul, zero-mul, zero-sub}
use Rattle.btr_scrub.proofs.Common.{In, KeptBlocks, Plain, Sector, SumKind, Want, addr_of, cases_lt, is_plain, length-drop, plains_from, stored_sum, sum_size}
use Rattle.std.proofs.lemmas.List.{drop-drop}
use Rattle.btr_read.specs.declared.want.Want.TheVariants.{Tree}
use Rattle.btr_scrub.specs.declared.run.Run.{Run}
use Rattle.btr_scrub.specs.declared.run.RunKind.{RunKind}
use Rattle.btr_scrub.specs.declared.run.RunKind.TheVariants.{TreeBlock, Sectors, Unsummed}
use Rattle.btr_scrub.specs.declared.run.TreeMark.{TreeMark}
use Rattle.btr_scrub.specs.Listed.{AreRuns, GivesNext, IsNextPlain, IsPast, IsWholeList, PassesFrom, PassesPlain, IsPlace, StandsIn, first_past, left_in}
use Rattle.btr_scrub.specs.Listed.{run_left, run_wants, wants_left, wants_of}
use Rattle.btr_scrub.proofs.Listing.{plains_both}
use Rattle.btr_scrub.proofs.Firsts.{drop_one}

-- a list from a place on
pub drop_none : {X : Type 0} (xs : List X) (i : ℕ) → slice_get xs i ≡ None → drop i xs ≡ []
drop_none [] zero e = refl
drop_none [] (suc i) e = refl
drop_none (x ∷ xs) zero e = cc
drop_none (x ∷ xs) (suc i) e = drop_none xs i e

-- the runs of a place, where nothing of the first is past
module _ (kind : SumKind) where
  -- all of a run is left
  run_start : (addr : ℕ) (k : RunKind) (sums : List ℕ) (ms : List TreeMark) → run_left kind addr k 0 sums ms ≡ run_wants kind addr k sums ms
  run_start addr k sums ms = grind arith

  -- so are all of the runs
  left_start : (runs : List Run) (sums : List ℕ) (ms : List TreeMark) → wants_left kind runs 0 sums ms ≡ wants_of kind runs sums ms
  left_start [] sums ms = refl
  left_start (run ∷ runs) sums ms = rw (run_start, sub-zero)

  -- something of the first run is left, if there is one
  past_none : (runs : List Run) → AreRuns runs → IsPast runs 0
  past_none [] h = refl
  past_none (run ∷ runs) h = grind (arith, h.0)

  -- none of its checksums is past
  first_none : (runs : List Run) → first_past runs 0 ≡ 0
  first_none [] = refl
  first_none (run ∷ runs) = grind arith

  -- so a reader can stand there, and has all of the runs before it
  at_start : (runs : List Run) (sums : List ℕ) (ms : List TreeMark) → IsWholeList kind runs sums ms
      → (wants_of kind runs sums ms ≡ wants_left kind runs 0 sums ms) × IsPlace kind runs 0 sums ms
  at_start runs sums ms whole = (
    sym (left_start runs sums ms),
    record {
      is_past = past_none runs whole.runs_fit;
      runs_fit = whole.runs_fit;
      sums_fit = rw (first_none runs) (omega (arith, whole.sums_fit));
      marks_fit = whole.marks_fit;
    },
  )

-- sectors without a checksum make no test
pub all_plain : (d addr : ℕ) (want : Want) → In want (plains_from addr d) → is_plain want ≡ true
all_plain zero addr want i = absurd i
all_plain (suc d) addr want (inl e) = ap is_plain (sym e)
all_plain (suc d) addr want (inr i) = all_plain d (addr + 4096) want i

-- they begin before an address where the last one does
pub all_below : (d addr end : ℕ) (want : Want) → ((i : ℕ) → i < d → addr + i * 4096 < end) → In want (plains_from addr d) → addr_of want < end
all_below zero addr end want h i = absurd i
all_below (suc d) addr end want h (inl e) = let here = h 0 (omega arith) in subst (λ w. addr_of w < end) e (omega (arith, here))
all_below (suc d) addr end want h (inr i) = all_below d (addr + 4096) end want (λ k lt. let there = h (suc k) (omega (arith, lt)) in omega (arith, there)) i

-- what is passed from an address on is plain
pub passes_plain : (old new : List Want) (from bound end : ℕ) → PassesFrom old from bound end new → PassesPlain old bound new
passes_plain old new from bound end h = record {
  past = plains_from from h.count;
  split = h.split;
  plain = all_plain h.count from;
  below = λ want i. all_below h.count from bound want h.below i;
}

-- a checksum has at least 4 bytes
size_some : (kind : SumKind) → 4 ≤ sum_size kind
size_some kind = grind arith

-- behind the last run nothing is left to a reader
pub at_end : (kept : KeptBlocks) (run past sum mark : ℕ) → slice_get kept.runs run ≡ None → left_in kept run past sum mark ≡ []
at_end kept run past sum mark e = ap (λ q. wants_left kept.kind q past (drop sum kept.sums) (drop mark kept.marks)) (drop_none kept.runs run e)

-- a reader that stands in a run
pub record IsInRun (kept : KeptBlocks) (run past sum mark : ℕ) (r : Run) : Type 0 where
  pub stands : StandsIn kept run past sum mark
  pub there : slice_get kept.runs run ≡ Some r

module _ {kept : KeptBlocks} {run past sum mark : ℕ} {r : Run} (h : IsInRun kept run past sum mark r) where
  -- the runs behind it
  abbrev behind : List Run
  behind = drop (run + 1) kept.runs

  -- the checksums that are left to the reader
  abbrev bytes : List ℕ
  bytes = drop sum kept.sums

  -- the marks that are left to it
  abbrev notes : List TreeMark
  notes = drop mark kept.marks

  module _ {k : RunKind} (e : r.kind ≡ k) where
    -- the run, by its kind
    abbrev first : Run
    first = record { addr = r.addr; kind = k }

    -- the runs from there on begin with it
    runs_are : drop run kept.runs ≡ first ∷ behind
    runs_are = drop_one kept.runs run first (h.there ∙ ap (λ k. Some (record { addr = r.addr; kind = k })) e)

    -- the reader stands at a place of that run and those behind it
    place : IsPlace kept.kind (first ∷ behind) past bytes notes
    place = subst (λ q. IsPlace kept.kind q past bytes notes) runs_are h.stands

    -- what is left is that of this run and those behind it
    left_here : left_in kept run past sum mark ≡ wants_left kept.kind (first ∷ behind) past bytes notes
    left_here = ap (λ q. wants_left kept.kind q past bytes notes) runs_are

  -- for a tree block there is a mark
  pub some_mark : r.kind ≡ TreeBlock → slice_get kept.marks mark ≡ None → ⊥
  some_mark e none = omega (arith, (place e).marks_fit, ap length (drop_none kept.marks mark none))

  -- at a tree block what is left begins with it, and the reader can stand at the next run
  pub at_tree : (m : TreeMark) → r.kind ≡ TreeBlock → slice_get kept.marks mark ≡ Some m
      → (left_in kept run past sum mark ≡ Tree r.addr m.generation m.level ∷ left_in kept (run + 1) past sum (mark + 1))
      × StandsIn kept (run + 1) past sum (mark + 1)
  at_tree m e is =
      let p = place e in
      let none : past ≡ 0 = omega (arith, p.is_past) in
      let marks = drop_one kept.marks mark m is in
      let t = at_start kept.kind behind bytes (drop (mark + 1) kept.marks) (record {
        runs_fit = p.runs_fit.1;
        sums_fit = omega (arith, p.sums_fit);
        marks_fit = omega (arith, p.marks_fit, ap length marks);
      }) in
      (left_here e ∙ rw (none, marks, zero-mul) (ap (λ q. Tree r.addr m.generation m.level ∷ q) t.0), rw none t.1)

  module _ {n : ℕ} (e : r.kind ≡ Sectors n) where
    -- at sectors with checksums one is left at least
    pub one_more : past + 1 ≤ n
    one_more = let p = place e in omega (arith, p.is_past)

    -- its address is below 2^64
    pub addr_fits : r.addr + past * 4096 < 2 ^ 64
    addr_fits = let p = place e in omega (arith, p.is_past, p.runs_fit.0.1)

    -- the checksums of the run are those that are past, that of the next sector, and those of the others
    counted : n * sum_size kept.kind ≡ (past + suc (n - (past + 1))) * sum_size kept.kind
    counted = let is : n ≡ past + suc (n - (past + 1)) = omega (arith, one_more) in ap (λ m. m * sum_size kept.kind) is

    -- the list has its whole checksum
    pub some_sum : sum + sum_size kept.kind ≤ length kept.sums
    some_sum = omega (arith, (place e).sums_fit, counted, length-drop sum kept.sums, size_some kept.kind)

    -- the checksums behind it
    bytes_behind : (size : ℕ) → size ≡ sum_size kept.kind → drop (sum_size kept.kind) bytes ≡ drop (sum + size) kept.sums
    bytes_behind size is = drop-drop (sum_size kept.kind) sum kept.sums ∙ ap (λ q. drop (sum + q) kept.sums) (sym is)

    -- at the last of them what is left begins with it, and the reader can stand at the next run
    pub at_last : past + 1 ≡ n → (size : ℕ) → size ≡ sum_size kept.kind
        → (left_in kept run past sum mark ≡ Sector (r.addr + past * 4096) (stored_sum kept.kind (drop sum kept.sums)) ∷ left_in kept (run + 1) 0
        (sum + size) mark) × StandsIn kept (run + 1) 0 (sum + size) mark
    at_last end size is =
        let p = place e in
        let one : n - past ≡ 1 = omega (arith, end) in
        let t = at_start kept.kind behind (drop (sum + size) kept.sums) notes (record {
          runs_fit = p.runs_fit.1;
          sums_fit = omega (arith, p.sums_fit, ap (λ m. m * sum_size kept.kind) end, length-drop sum kept.sums, length-drop (sum + size) kept.sums, is);
          marks_fit = omega (arith, p.marks_fit);
        }) in (
          left_here e ∙ rw (one, one-mul, bytes_behind size is) (ap (λ q. Sector (r.addr + past * 4096) (stored_sum kept.kind bytes) ∷ q) t.0),
          t.1,
        )

    -- at another it begins with it too, and the reader can stand at the one behind it
    pub at_next : past + 1 ≢ n → (size : ℕ) → size ≡ sum_size kept.kind
        → (left_in kept run past sum mark ≡ Sector (r.addr + past * 4096) (stored_sum kept.kind (drop sum kept.sums)) ∷ left_in kept run (past + 1)
        (sum + size) mark) × StandsIn kept run (past + 1) (sum + size) mark
    at_next more size is =
        let p = place e in
        let m = n - (past + 1) in
        let next : n - past ≡ suc m = omega (arith, one_more) in
        let there : r.addr + past * 4096 + 4096 ≡ r.addr + (past + 1) * 4096 = omega arith in
        let stands : IsPlace kept.kind (first e ∷ behind) (past + 1) (drop (sum + size) kept.sums) notes = record {
          is_past = omega (arith, one_more, more);
          runs_fit = p.runs_fit;
          sums_fit = omega (arith, p.sums_fit, some_sum, length-drop sum kept.sums, length-drop (sum + size) kept.sums, is);
          marks_fit = p.marks_fit;
        } in (
          left_here e ∙ rw (
            next,
            runs_are e,
            there,
            suc-mul,
            add_comm (m * sum_size kept.kind) (sum_size kept.kind),
            ← (drop-drop (m * sum_size kept.kind) (sum_size kept.kind) bytes),
            bytes_behind size is,
          ),
          rw (runs_are e) stands,
        )

  -- a reader that stands in a run of sectors without a checksum
  module _ {n : ℕ} (e : r.kind ≡ Unsummed n) where
    -- one of the run's sectors is left at least
    pub one_plain : past + 1 ≤ n
    one_plain = let p = place e in omega (arith, p.is_past)

    -- the address of that one is below 2^64
    pub plain_fits : r.addr + past * 4096 < 2 ^ 64
    plain_fits = let p = place e in omega (arith, p.is_past, p.runs_fit.0.1)

    -- so is the one behind the run's sectors
    pub plain_end_fits : r.addr + n * 4096 < 2 ^ 64
    plain_end_fits = (place e).runs_fit.0.1

    -- what is left begins with all the others of the run, and the reader can stand at the next run
    pub at_plain_last : (d : ℕ) → past + d ≡ n
        → (left_in kept run past sum mark ≡ plains_from (r.addr + past * 4096) d ++ left_in kept (run + 1) 0 sum mark) × StandsIn kept (run + 1) 0 sum mark
    at_plain_last d end =
        let p = place e in
        let all : n - past ≡ d = omega (arith, end) in
        let t = at_start kept.kind behind bytes notes (record {
          runs_fit = p.runs_fit.1;
          sums_fit = omega (arith, p.sums_fit);
          marks_fit = omega (arith, p.marks_fit);
        }) in
        (left_here e ∙ rw (all, zero-sub, zero-mul) (ap (λ q. plains_from (r.addr + past * 4096) d ++ q) t.0), t.1)

    -- it begins with some of them, and the reader can stand behind these in the run
    pub at_plain_next : (d : ℕ) → past + d < n
        → (left_in kept run past sum mark ≡ plains_from (r.addr + past * 4096) d ++ left_in kept run (past + d) sum mark)
        × StandsIn kept run (past + d) sum mark
    at_plain_next d more =
        let p = place e in
        let rest = n - (past + d) in
        let all : n - past ≡ d + rest = omega (arith, more) in
        let there : r.addr + past * 4096 + d * 4096 ≡ r.addr + (past + d) * 4096 = omega arith in
        let stands : IsPlace kept.kind (first e ∷ behind) (past + d) bytes notes =
        record { is_past = omega (arith, more); runs_fit = p.runs_fit; sums_fit = p.sums_fit; marks_fit = p.marks_fit } in (
          left_here e ∙ rw (all, runs_are e, plains_both d rest (r.addr + past * 4096), append_assoc, there) (simp (zero-sub, zero-mul)),
          rw (runs_are e) stands,
        )

    -- the sector that comes next
    pub next_plain : (wants : List Want) → left_in kept run past sum mark ≡ wants → (at : ℕ) → at ≡ past → IsNextPlain wants (r.addr + at * 4096)
    next_plain wants view at is =
        let one = one_plain in
        let here : r.addr + past * 4096 ≡ r.addr + at * 4096 = omega (arith, is) in
        elim (cases_lt (past + 1) n) [
          | inl lt ↦ record {
            rest = left_in kept run (past + 1) sum mark;
            split = sym view ∙ (at_plain_next 1 lt).0 ∙ ap (λ a. Plain a ∷ left_in kept run (past + 1) sum mark) here;
          }
          | inr le ↦ record {
            rest = left_in kept (run + 1) 0 sum mark;
            split = sym view ∙ (at_plain_last 1 (omega (arith, le, one))).0 ∙ ap (λ a. Plain a ∷ left_in kept (run + 1) 0 sum mark) here;
          }
        ]

-- a reader that gives nothing is right where nothing is left
pub gives_end : (old : List Want) (result : Option Want) → old ≡ [] → result ≡ None → GivesNext old result old
gives_end old result e is = subst (λ r. GivesNext old r old) (sym is) (e, e)

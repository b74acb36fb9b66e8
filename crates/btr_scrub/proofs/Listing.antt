-- Lists of blocks.
use Rattle.std.proofs.lemmas.Nat.{mul-le}
use Rattle.std.proofs.Common.{◌≡◌, ℕ, zero, suc, ◌+◌, ◌*◌, ◌^◌, ◌<◌, ◌≤◌, List, [], ◌∷◌, ◌++◌, length, take, drop, Option, Some, None, Result, OnOk, IsSomeAnd}
use Rattle.std.proofs.Common.{refl, sym, ap, ◌∙◌, subst, arith, append_assoc, append-nil, length-append}
use Rattle.std.proofs.Math.Nat.{add-mul, suc-mul}
use Rattle.std.proofs.lemmas.Result.{on_ok_weaker}
use Rattle.btr_scrub.proofs.Common.{AddsAll, AddsTo, IsList, KeptBlocks, Plain, Sector, SumKind, Want, kept_wants, length-drop, plains_from, stored_sum}
use Rattle.btr_scrub.proofs.Common.{sum_size}
use Rattle.std.proofs.lemmas.List.{drop-append-le, length-take-le, nil_from_length, take-append-drop, take-append-le, take-take}
use Rattle.btr_base.specs.Sum.{sum_from}
use Rattle.std.specs.Option.{option_to_list}
use Rattle.btr_base.specs.declared.kind.SumKind.TheVariants.{Crc32c}
use Rattle.btr_read.specs.declared.want.Want.TheVariants.{Tree}
use Rattle.btr_scrub.specs.declared.run.Run.{Run}
use Rattle.btr_scrub.specs.declared.run.RunKind.{RunKind}
use Rattle.btr_scrub.specs.declared.run.RunKind.TheVariants.{TreeBlock, Sectors, Unsummed}
use Rattle.btr_scrub.specs.declared.run.TreeMark.{TreeMark}
use Rattle.btr_scrub.specs.Listed.{AreRuns, Begins, Extends, FewBytes, IsRun, Lengthens, all_plains, all_sectors, all_trees, plains_of, run_wants, sectors_from}
use Rattle.btr_scrub.specs.Listed.{sectors_of, tree_from, trees_of, wants_of}

-- the counts of runs one behind another
pub sectors_both : (runs more : List Run) → all_sectors (runs ++ more) ≡ all_sectors runs + all_sectors more
sectors_both [] more = omega arith
sectors_both (run ∷ runs) more = let h = sectors_both runs more in omega (arith, h)

-- tree blocks of two lists of runs are those of both
pub trees_both : (runs more : List Run) → all_trees (runs ++ more) ≡ all_trees runs + all_trees more
trees_both [] more = omega arith
trees_both (run ∷ runs) more = let h = trees_both runs more in omega (arith, h)

-- sectors without a checksum, and more behind them
pub plains_both : (n more addr : ℕ) → plains_from addr (n + more) ≡ plains_from addr n ++ plains_from (addr + n * 4096) more
plains_both zero more addr =
    let all : 0 + more ≡ more = omega arith in
    let here : addr ≡ addr + 0 * 4096 = omega arith in
    ap (plains_from addr) all ∙ ap (λ a. plains_from a more) here
plains_both (suc n) more addr =
    let all : suc n + more ≡ suc (n + more) = omega arith in
    let behind : addr + 4096 + n * 4096 ≡ addr + suc n * 4096 = omega arith in
    ap (plains_from addr) all
    ∙ ap (λ ws. Plain addr ∷ ws) (plains_both n more (addr + 4096) ∙ ap (λ a. plains_from (addr + 4096) n ++ plains_from a more) behind)

-- a product of a sum
pub times_sum : (a b z : ℕ) → (a + b) * z ≡ a * z + b * z
times_sum a b z = add-mul a b z

-- the block of a mark is the same with other marks behind it
tree_longer : (addr : ℕ) (ms ts : List TreeMark) → 1 ≤ length ms → tree_from addr (ms ++ ts) ≡ tree_from addr ms
tree_longer addr [] ts h = absurd (omega (arith, h))
tree_longer addr (m ∷ ms) ts h = refl

module _ (kind : SumKind) where
  -- how many bytes a checksum has
  z : ℕ
  z = sum_size kind

  -- a checksum is the same with other bytes behind it
  stored_longer : (xs s : List ℕ) → sum_size kind ≤ length xs → stored_sum kind (xs ++ s) ≡ stored_sum kind xs
  stored_longer xs s h = ap (sum_from kind) (take-append-le (sum_size kind) xs s h)

  -- sectors whose checksums have others behind them
  pub sectors_longer : (n addr : ℕ) (xs s : List ℕ) → n * sum_size kind ≤ length xs → sectors_from kind addr n (xs ++ s) ≡ sectors_from kind addr n xs
  sectors_longer zero addr xs s h = refl
  sectors_longer (suc n) addr xs s h =
      let size = sum_size kind in
      let all = suc-mul n size in
      let le : size ≤ length xs = omega (arith, h, all) in
      let long = length-drop size xs in
      let rest : n * size ≤ length (drop size xs) = omega (arith, h, all, long) in
      ap (λ sum. Sector addr sum ∷ sectors_from kind (addr + 4096) n (drop size (xs ++ s))) (stored_longer xs s le)
      ∙ ap (λ ys. Sector addr (stored_sum kind xs) ∷ sectors_from kind (addr + 4096) n ys) (drop-append-le size xs s le)
      ∙ ap (λ ws. Sector addr (stored_sum kind xs) ∷ ws) (sectors_longer n (addr + 4096) (drop size xs) s rest)

  -- one sector more
  pub sectors_more : (n addr : ℕ) (xs s : List ℕ) → length xs ≡ n * sum_size kind → sectors_from kind addr (suc n) (xs ++ s)
      ≡ sectors_from kind addr n xs ++ Sector (addr + n * 4096) (stored_sum kind s) ∷ []
  sectors_more zero addr xs s h =
      let none : length xs ≡ 0 = h ∙ omega arith in
      let here : addr ≡ addr + 0 * 4096 = omega arith in
      ap (λ ys. sectors_from kind addr 1 (ys ++ s)) (nil_from_length xs none) ∙ ap (λ a. Sector a (stored_sum kind s) ∷ []) here
  sectors_more (suc n) addr xs s h =
      let size = sum_size kind in
      let all = suc-mul n size in
      let le : size ≤ length xs = omega (arith, h, all) in
      let long = length-drop size xs in
      let rest : length (drop size xs) ≡ n * size = omega (arith, h, all, long) in
      let behind : addr + 4096 + n * 4096 ≡ addr + suc n * 4096 = omega arith in
      ap (λ sum. Sector addr sum ∷ sectors_from kind (addr + 4096) (suc n) (drop size (xs ++ s))) (stored_longer xs s le)
      ∙ ap (λ ys. Sector addr (stored_sum kind xs) ∷ sectors_from kind (addr + 4096) (suc n) ys) (drop-append-le size xs s le)
      ∙ ap (λ ws. Sector addr (stored_sum kind xs) ∷ ws) (sectors_more n (addr + 4096) (drop size xs) s rest)
      ∙ ap (λ a. Sector addr (stored_sum kind xs) ∷ (sectors_from kind (addr + 4096) n (drop size xs) ++ Sector a (stored_sum kind s) ∷ [])) behind

  -- the blocks of a run are the same with other checksums and marks behind its own
  run_longer : (addr : ℕ) (k : RunKind) (xs s : List ℕ) (ms ts : List TreeMark) → sectors_of k * sum_size kind ≤ length xs → trees_of k ≤ length ms
      → run_wants kind addr k (xs ++ s) (ms ++ ts) ≡ run_wants kind addr k xs ms
  run_longer addr TreeBlock xs s ms ts h g = tree_longer addr ms ts g
  run_longer addr (Sectors n) xs s ms ts h g = sectors_longer n addr xs s h
  run_longer addr (Unsummed n) xs s ms ts h g = refl

  -- the blocks of runs one behind another
  pub wants_both : (runs more : List Run) (xs s : List ℕ) (ms ts : List TreeMark) → length xs ≡ all_sectors runs * sum_size kind → length ms
      ≡ all_trees runs → wants_of kind (runs ++ more) (xs ++ s) (ms ++ ts) ≡ wants_of kind runs xs ms ++ wants_of kind more s ts
  wants_both [] more xs s ms ts h g =
      let none : length xs ≡ 0 = h ∙ omega arith in
      ap (λ ys. wants_of kind more (ys ++ s) (ms ++ ts)) (nil_from_length xs none) ∙ ap (λ ns. wants_of kind more s (ns ++ ts)) (nil_from_length ms g)
  wants_both (run ∷ runs) more xs s ms ts h g =
      let size = sum_size kind in
      let n = sectors_of run.kind in
      let t = trees_of run.kind in
      let all = times_sum n (all_sectors runs) size in
      let le : n * size ≤ length xs = omega (arith, h, all) in
      let few : t ≤ length ms = omega (arith, g) in
      let long = length-drop (n * size) xs in
      let rest : length (drop (n * size) xs) ≡ all_sectors runs * size = omega (arith, h, all, long) in
      let marks = length-drop t ms in
      let behind : length (drop t ms) ≡ all_trees runs = omega (arith, g, marks) in
      ap (λ ws. ws ++ wants_of kind (runs ++ more) (drop (n * size) (xs ++ s)) (drop t (ms ++ ts))) (run_longer run.addr run.kind xs s ms ts le few)
      ∙ ap (λ ys. run_wants kind run.addr run.kind xs ms ++ wants_of kind (runs ++ more) ys (drop t (ms ++ ts))) (drop-append-le (n * size) xs s le)
      ∙ ap (λ ns. run_wants kind run.addr run.kind xs ms ++ wants_of kind (runs ++ more) (drop (n * size) xs ++ s) ns) (drop-append-le t ms ts few)
      ∙ ap (λ ws. run_wants kind run.addr run.kind xs ms ++ ws) (wants_both runs more (drop (n * size) xs) s (drop t ms) ts rest behind)
      ∙ sym (append_assoc (run_wants kind run.addr run.kind xs ms) (wants_of kind runs (drop (n * size) xs) (drop t ms)) (wants_of kind more s ts))

-- the list with these parts
abbrev pub made : SumKind → List Run → List ℕ → List TreeMark → KeptBlocks
made kind runs sums marks = record { kind = kind; runs = runs; sums = sums; marks = marks }

-- lists with the same parts are the same
same_kept : (new : KeptBlocks) (kind : SumKind) (runs : List Run) (sums : List ℕ) (marks : List TreeMark) → new.kind ≡ kind → new.runs ≡ runs → new.sums
    ≡ sums → new.marks ≡ marks → new ≡ made kind runs sums marks
same_kept new kind runs sums marks a b c d =
    ap (λ k. made k new.runs new.sums new.marks) a ∙ ap (λ r. made kind r new.sums new.marks) b ∙ ap (λ s. made kind runs s new.marks) c
    ∙ ap (λ m. made kind runs sums m) d

-- runs one behind another
runs_both : (runs more : List Run) → AreRuns runs → AreRuns more → AreRuns (runs ++ more)
runs_both [] more h g = g
runs_both (run ∷ runs) more h g = (h.0, runs_both runs more h.1 g)

-- the first of runs that keep their form keep it
runs_before : (runs more : List Run) → AreRuns (runs ++ more) → AreRuns runs
runs_before [] more h = tt
runs_before (run ∷ runs) more h = (h.0, runs_before runs more h.1)

-- a checksum has at most 32 bytes
pub size_few : (kind : SumKind) → sum_size kind ≤ 32
size_few Crc32c = omega arith
size_few kind = omega arith

-- a list of the blocks of two
abbrev pub both : KeptBlocks → KeptBlocks → KeptBlocks
both whole more = made whole.kind (whole.runs ++ more.runs) (whole.sums ++ more.sums) (whole.marks ++ more.marks)

-- the blocks of a list were put behind those of another
pub adds_list : (whole more : KeptBlocks) → IsList whole → IsList more → more.kind ≡ whole.kind → AddsAll whole (both whole more) (kept_wants more)
adds_list whole more is is_more same = record {
  is_list = record {
    runs_fit = runs_both whole.runs more.runs is.runs_fit is_more.runs_fit;
    sums_fit =
        length-append whole.sums more.sums
        ∙ omega (
          arith,
          is.sums_fit,
          subst (λ k. length more.sums ≡ all_sectors more.runs * sum_size k) same is_more.sums_fit,
          times_sum (all_sectors whole.runs) (all_sectors more.runs) (sum_size whole.kind),
        )
        ∙ ap (λ n. n * sum_size whole.kind) (sym (sectors_both whole.runs more.runs));
    marks_fit = omega (arith, length-append whole.marks more.marks, is.marks_fit, is_more.marks_fit, trees_both whole.runs more.runs);
  };
  kind = refl;
  wants = wants_both whole.kind whole.runs more.runs whole.sums more.sums whole.marks more.marks is.sums_fit is.marks_fit
      ∙ ap (λ k. kept_wants whole ++ wants_of k more.runs more.sums more.marks) (sym same);
}

-- the last run was made longer by some blocks, with their checksums
grown : (kind : SumKind) (before : List Run) (run longer : Run) (sums more : List ℕ) (marks : List TreeMark) (ws : List Want)
    → IsList (made kind (before ++ run ∷ []) sums marks) → trees_of run.kind ≡ 0 → trees_of longer.kind ≡ 0 → IsRun longer.addr longer.kind
    → sectors_of run.kind * sum_size kind + length more ≡ sectors_of longer.kind * sum_size kind
    → ((ys : List ℕ) → length ys ≡ sectors_of run.kind * sum_size kind
    → run_wants kind longer.addr longer.kind (ys ++ more) [] ≡ run_wants kind run.addr run.kind ys [] ++ ws)
    → AddsAll (made kind (before ++ run ∷ []) sums marks) (made kind (before ++ longer ∷ []) (sums ++ more) marks) ws
grown kind before run longer sums more marks ws is none still fits counts wants =
    let size = sum_size kind in
    let n = sectors_of run.kind in
    let m = all_sectors before * size in
    let xs = take m sums in
    let ys = drop m sums in
    let split : sums ≡ xs ++ ys = sym (take-append-drop m sums) in
    let count : all_sectors (before ++ run ∷ []) ≡ all_sectors before + n = sectors_both before (run ∷ []) ∙ omega arith in
    let times = ap (λ q. q * size) count ∙ times_sum (all_sectors before) n size in
    let first_long : length xs ≡ m = length-take-le m sums (omega (arith, is.sums_fit, times)) in
    let last_long : length ys ≡ n * size = omega (arith, length-drop m sums, is.sums_fit, times) in
    let marked : length marks ≡ all_trees before = omega (arith, is.marks_fit, trees_both before (run ∷ []), none) in
    let first = made kind before xs marks in
    let last = made kind (longer ∷ []) (ys ++ more) [] in
    let a = adds_list first last (record { runs_fit = runs_before before (run ∷ []) is.runs_fit; sums_fit = first_long; marks_fit = marked })
    (record { runs_fit = (fits, tt); sums_fit = omega (arith, length-append ys more, last_long, counts); marks_fit = omega (arith, still) }) refl in
    let old : wants_of kind (before ++ run ∷ []) sums marks ≡ kept_wants first ++ run_wants kind run.addr run.kind ys [] =
    ap (λ q. wants_of kind (before ++ run ∷ []) q marks) split ∙ ap (wants_of kind (before ++ run ∷ []) (xs ++ ys)) (sym (append-nil marks))
    ∙ wants_both kind before (run ∷ []) xs ys marks [] first_long marked
    ∙ ap (λ q. kept_wants first ++ q) (append-nil (run_wants kind run.addr run.kind ys [])) in
    subst (λ x. AddsAll (made kind (before ++ run ∷ []) sums marks) x ws)
    (same_kept (both first last) kind (before ++ longer ∷ []) (sums ++ more) marks refl refl (sym (append_assoc xs ys more) ∙ ap (λ q. q ++ more) (sym split))
    (append-nil marks)) (record {
      is_list = a.is_list;
      kind = refl;
      wants = a.wants ∙ ap (λ q. kept_wants first ++ q) (append-nil (run_wants kind longer.addr longer.kind (ys ++ more) []) ∙ wants ys last_long)
          ∙ sym (append_assoc (kept_wants first) (run_wants kind run.addr run.kind ys []) ws) ∙ ap (λ q. q ++ ws) (sym old);
    })

-- the calls that put blocks behind the others
module _ {E : Type 0} (result : Result (Unit {0}) E) (old : KeptBlocks) (is : IsList old) where
  -- the blocks of a list were put behind the others, part by part
  added : (new more : KeptBlocks) → IsList more → more.kind ≡ old.kind → new.kind ≡ old.kind → new.runs ≡ old.runs ++ more.runs
      → new.sums ≡ old.sums ++ more.sums → new.marks ≡ old.marks ++ more.marks → AddsAll old new (kept_wants more)
  added new more is_more same k r s m = subst (λ x. AddsAll old x (kept_wants more))
      (sym (same_kept new old.kind (old.runs ++ more.runs) (old.sums ++ more.sums) (old.marks ++ more.marks) k r s m)) (adds_list old more is is_more same)

  -- a tree block was put behind the list, if there was memory
  pub tree_pushed : (mid inner : KeptBlocks) (marks : List TreeMark) (addr generation level : ℕ) → Begins old mid (record { addr = addr; kind = TreeBlock })
      → inner ≡ mid → OnOk result (marks ≡ inner.marks ++ record { generation = generation; level = level } ∷ [])
      → OnOk result (AddsTo old (made inner.kind inner.runs inner.sums marks) (Tree addr generation level))
  tree_pushed mid inner marks addr generation level b same h =
      let run : Run = record { addr = addr; kind = TreeBlock } in
      let mark : TreeMark = record { generation = generation; level = level } in
      let begun : Begins old inner run = subst (λ k. Begins old k run) (sym same) b in
      on_ok_weaker result (λ m. added (made inner.kind inner.runs inner.sums marks) (made old.kind (run ∷ []) [] (mark ∷ []))
      (record { runs_fit = (tt, tt); sums_fit = omega arith; marks_fit = omega arith }) refl begun.kind begun.runs (begun.sums ∙ sym (append-nil old.sums))
      (m ∙ ap (λ q. q ++ mark ∷ []) begun.marks)) h

  -- a sector was, which begins a run
  pub sector_begun : (mid inner : KeptBlocks) (sums bytes : List ℕ) (addr : ℕ) → addr < 2 ^ 64 → length bytes ≡ 32
      → Begins old mid (record { addr = addr; kind = Sectors 1 }) → inner ≡ mid → OnOk result (sums ≡ inner.sums ++ take (sum_size inner.kind) bytes)
      → OnOk result (AddsTo old (made inner.kind inner.runs sums inner.marks) (Sector addr (stored_sum old.kind bytes)))
  sector_begun mid inner sums bytes addr small long b same h =
      let run : Run = record { addr = addr; kind = Sectors 1 } in
      let size = sum_size old.kind in
      let begun : Begins old inner run = subst (λ k. Begins old k run) (sym same) b in
      let one = length-take-le size bytes (omega (arith, size_few old.kind, long)) in
      let new = made inner.kind inner.runs sums inner.marks in
      on_ok_weaker result (λ s. subst (λ q. AddsTo old new (Sector addr (sum_from old.kind q))) (take-take size size bytes (omega arith))
      (added new (made old.kind (run ∷ []) (take size bytes) [])
      (record { runs_fit = ((omega arith, omega (arith, small)), tt); sums_fit = omega (arith, one); marks_fit = omega arith }) refl begun.kind begun.runs
      (s ∙ ap (λ q. q ++ take (sum_size inner.kind) bytes) begun.sums ∙ ap (λ q. old.sums ++ take (sum_size q) bytes) begun.kind)
      (begun.marks ∙ sym (append-nil old.marks)))) h

  -- a sector was, by which the last run is longer
  pub sector_lengthened : (kind : SumKind) (runs : List Run) (last : Option Run) (sums : List ℕ) (marks : List TreeMark) (longer : Run)
      (new bytes : List ℕ) (addr : ℕ) → addr < 2 ^ 64 → length bytes ≡ 32 → made kind (runs ++ option_to_list last) sums marks ≡ old
      → IsSomeAnd last (λ run. Lengthens run addr longer) → OnOk result (new ≡ sums ++ take (sum_size kind) bytes)
      → OnOk result (AddsTo old (made kind (runs ++ longer ∷ []) new marks) (Sector addr (stored_sum old.kind bytes)))
  sector_lengthened kind runs None sums marks longer new bytes addr small long same l h = absurd l
  sector_lengthened kind runs (Some run) sums marks longer new bytes addr small long same l h =
      let size = sum_size kind in
      let n = l.count in
      let was : Run = record { addr = run.addr; kind = Sectors n } in
      let is_now : Run = record { addr = run.addr; kind = Sectors (suc n) } in
      let sum = take size bytes in
      let one = length-take-le size bytes (omega (arith, size_few kind, long)) in
      let more : n + 1 ≡ suc n = omega arith in
      let e = ap (λ q. made kind (runs ++ record { addr = run.addr; kind = q } ∷ []) sums marks) (sym l.sectors) ∙ same in
      let a = grown kind runs was is_now sums sum marks (Sector addr (stored_sum kind bytes) ∷ []) (subst IsList (sym e) is) refl refl
      (omega arith, omega (arith, small, l.next)) (omega (arith, one, suc-mul n size))
      (λ ys many. sectors_more kind n run.addr ys sum many
      ∙ ap (λ q. sectors_from kind run.addr n ys ++ Sector q (stored_sum kind sum) ∷ []) (sym l.next)
      ∙ ap (λ q. sectors_from kind run.addr n ys ++ Sector addr (sum_from kind q) ∷ []) (take-take size size bytes (omega arith))) in
      on_ok_weaker result (λ s. subst (λ o. AddsTo o (made kind (runs ++ longer ∷ []) new marks) (Sector addr (stored_sum o.kind bytes))) e
      (subst (λ x. AddsTo (made kind (runs ++ was ∷ []) sums marks) x (Sector addr (stored_sum kind bytes)))
      (ap (λ q. made kind (runs ++ q ∷ []) (sums ++ sum) marks) (sym (l.more ∙ ap (λ q. record { addr = run.addr; kind = Sectors q }) more))
      ∙ ap (λ q. made kind (runs ++ longer ∷ []) q marks) (sym s)) a)) h

  -- sectors without a checksum were, which begin a run
  pub plain_begun : (new : KeptBlocks) (addr n : ℕ) → 1 ≤ n → addr + n * 4096 < 2 ^ 64
      → OnOk result (Begins old new (record { addr = addr; kind = Unsummed n })) → OnOk result (AddsAll old new (plains_from addr n))
  plain_begun new addr n some small h = on_ok_weaker result (λ b. subst (AddsAll old new) (append-nil (plains_from addr n))
      (added new (made old.kind (record { addr = addr; kind = Unsummed n } ∷ []) [] [])
      (record { runs_fit = ((some, omega (arith, some, small)), tt); sums_fit = omega arith; marks_fit = omega arith }) refl b.kind b.runs
      (b.sums ∙ sym (append-nil old.sums)) (b.marks ∙ sym (append-nil old.marks)))) h

-- the last run has more sectors without a checksum
pub plain_lengthened : (old : KeptBlocks) → IsList old → (kind : SumKind) (runs : List Run) (last : Option Run) (sums : List ℕ) (marks : List TreeMark)
    (longer : Run) (addr n : ℕ) → 1 ≤ n → addr + n * 4096 < 2 ^ 64 → made kind (runs ++ option_to_list last) sums marks ≡ old
    → IsSomeAnd last (λ run. Extends run addr n longer) → AddsAll old (made kind (runs ++ longer ∷ []) sums marks) (plains_from addr n)
plain_lengthened old is kind runs None sums marks longer addr n some small same l = absurd l
plain_lengthened old is kind runs (Some run) sums marks longer addr n some small same l =
    let was : Run = record { addr = run.addr; kind = Unsummed l.count } in
    let is_now : Run = record { addr = run.addr; kind = Unsummed (l.count + n) } in
    let e = ap (λ q. made kind (runs ++ record { addr = run.addr; kind = q } ∷ []) sums marks) (sym l.sectors) ∙ same in
    let a = grown kind runs was is_now sums [] marks (plains_from addr n) (subst IsList (sym e) is) refl refl
    (omega (arith, some), omega (arith, some, small, l.next)) (omega arith)
    (λ ys many. plains_both l.count n run.addr ∙ ap (λ q. plains_from run.addr l.count ++ plains_from q n) (sym l.next)) in
    subst (λ o. AddsAll o (made kind (runs ++ longer ∷ []) sums marks) (plains_from addr n)) e
    (subst (λ x. AddsAll (made kind (runs ++ was ∷ []) sums marks) x (plains_from addr n))
    (ap (λ q. made kind (runs ++ q ∷ []) (sums ++ []) marks) (sym l.more) ∙ ap (λ q. made kind (runs ++ longer ∷ []) q marks) (append-nil sums)) a)

-- each run has a sector, or is a tree block
runs_few : (runs : List Run) → AreRuns runs → length runs ≤ all_sectors runs + all_plains runs + all_trees runs
runs_few [] h = omega arith
runs_few (run ∷ runs) h = let one = by run.addr run.kind h.0 in let more = runs_few runs h.1 in omega (arith, one, more)
  where
    by : (addr : ℕ) (k : RunKind) → IsRun addr k → 1 ≤ sectors_of k + plains_of k + trees_of k
    by addr TreeBlock h = omega arith
    by addr k h = omega (arith, h.0)

-- a list takes at most 48 bytes for each sector with a checksum, 16 for each without, and 32 for each tree block
pub few_bytes : FewBytes
few_bytes kept is =
    let runs = runs_few kept.runs is.runs_fit in
    let sums = mul-le (all_sectors kept.runs) (sum_size kept.kind) (all_sectors kept.runs) 32 (omega arith) (size_few kept.kind) in
    omega (arith, runs, sums, is.sums_fit, is.marks_fit)

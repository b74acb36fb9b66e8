-- Checksums that are kept are those that lookups give.
use Rattle.std.proofs.Common.{◌≡◌, ℕ, zero, suc, ◌+◌, ◌-◌, ◌*◌, ◌/◌, ◌%◌, ◌<◌, ◌≤◌, Bool, true, false, cond, ◌&&◌, leb, ltb, List, [], ◌∷◌, take, drop, Some}
use Rattle.std.proofs.Common.{None, Result, Ok, length, zero-add, refl, sym, ap, ◌∙◌, subst, arith}
use Rattle.std.specs.Option.{option_map}
use Rattle.std.proofs.lemmas.Bool.{and_parts, leb-true, ltb-true, le-leb, lt-ltb}
use Rattle.std.proofs.lemmas.List.{length-take, length-drop}
use Rattle.std.proofs.lemmas.Nat.{mul-le}
use Rattle.btr_base.specs.declared.kind.SumKind.{SumKind}
use Rattle.btr_base.specs.declared.stored.Sum.{Sum}
use Rattle.btr_base.specs.Sum.{sum_size, sum_from, stored_sum}
use Rattle.btr_items.specs.declared.sum_run.SumRun.{SumRun}
use Rattle.btr_base.specs.Key.{key_number}
use Rattle.btr_items.specs.SumRun.{sum_run_of}
use Rattle.btr_prog.specs.Prog.{Run, Return, exec, bind}
use Rattle.btr_prog.proofs.Runs.{exec-bind, after-ok}
use Rattle.btr_read.specs.Fate.{Fault}
use Rattle.btr_read.specs.declared.want.Want.{Want}
use Rattle.btr_volume.specs.Lookup.{Lookup, formed}
use Rattle.btr_walk.specs.Le.{TreeItem, le}
use Rattle.btr_walk.specs.Reading.{Map}
use Rattle.btr_walk.specs.Showing.{item_of}
use Rattle.btr_walk.specs.BlockPointer.{is_below}
use Rattle.btr_walk.specs.declared.found.Found.{Found}
use Rattle.btr_walk.specs.declared.found.Reach.{Reach}
use Rattle.btr_files.specs.declared.sums_ahead.SumsAhead.{SumsAhead}
use Rattle.btr_files.specs.Aheads.{sum_key, IsFrom, IsReadAhead}
use Rattle.btr_files.specs.Sums.{covers, is_sums, sum_found, sum_in, sum_under}

-- ---- parts of lists

take_of_take : (n m : ℕ) (xs : List ℕ) → n ≤ m → take n (take m xs) ≡ take n xs
take_of_take zero m xs le = refl
take_of_take (suc n) zero xs le = absurd (omega (arith, le))
take_of_take (suc n) (suc m) [] le = refl
take_of_take (suc n) (suc m) (x ∷ xs) le = ap (λ l. x ∷ l) (take_of_take n m xs (omega (arith, le)))

-- a list, taken as one of bytes
abbrev the_bytes : List ℕ → List ℕ
the_bytes xs = xs

nil_taken : (n : ℕ) → take n (the_bytes []) ≡ the_bytes []
nil_taken zero = refl
nil_taken (suc n) = refl

nil_dropped : (n : ℕ) → drop n (the_bytes []) ≡ the_bytes []
nil_dropped zero = refl
nil_dropped (suc n) = refl

-- some bytes behind the first ones are those of a longer front, without the first ones
take_behind : (k n : ℕ) (xs : List ℕ) → take n (drop k xs) ≡ drop k (take (k + n) xs)
take_behind zero n xs = ap (λ (m : ℕ). take m xs) (sym (zero-add n))
take_behind (suc k) n [] = nil_taken n ∙ sym (nil_dropped (suc k)) ∙ ap (drop (suc k)) (sym (nil_taken (suc k + n)))
take_behind (suc k) n (x ∷ xs) = take_behind k n xs ∙ ap (λ (m : ℕ). drop (suc k) (take m (x ∷ xs))) (let e : suc (k + n) ≡ suc k + n = omega arith in e)

drop_twice : (a b : ℕ) (xs : List ℕ) → drop b (drop a xs) ≡ drop (a + b) xs
drop_twice zero b xs = ap (λ (m : ℕ). drop m xs) (sym (zero-add b))
drop_twice (suc a) b [] = nil_dropped b ∙ sym (nil_dropped (suc a + b))
drop_twice (suc a) b (x ∷ xs) = drop_twice a b xs ∙ ap (λ (m : ℕ). drop m (x ∷ xs)) (let e : suc (a + b) ≡ suc a + b = omega arith in e)

-- some bytes in a part that two lists have in common
same_part : (len k n at : ℕ) (copy body : List ℕ) → take len copy ≡ take len (drop at body) → k + n ≤ len → take n (drop k copy) ≡ take n (drop (at + k) body)
same_part len k n at copy body same le =
    take_behind k n copy
    ∙ ap (drop k) (sym (take_of_take (k + n) len copy le) ∙ ap (take (k + n)) same ∙ take_of_take (k + n) len (drop at body) le)
    ∙ sym (take_behind k n (drop at body))
    ∙ ap (take n) (drop_twice at k body)

-- a part of a list that was copied
pub part_copied : (at len : ℕ) (copy body : List ℕ) → at + len ≤ length body → take (length (take (at + len - at) (drop at body))) copy
    ≡ take (at + len - at) (drop at body) → take len copy ≡ take len (drop at body)
part_copied at len copy body le same =
    let long : length (take (at + len - at) (drop at body)) ≡ len = omega (arith, length-take (at + len - at) (drop at body), length-drop at body, le) in
    let whole : at + len - at ≡ len = omega arith in
    ap (λ n. take n copy) (sym long) ∙ same ∙ ap (λ n. take n (drop at body)) whole

-- ---- the checksum of a sector that a run covers

record IsCovered (kind : SumKind) (addr : ℕ) (body : List ℕ) (run : SumRun) (sum : Sum) : Type 0 where
  start : run.start ≤ addr
  within : addr < run.start + run.count * 4096
  is : stored_sum kind (drop ((addr - run.start) / 4096 * sum_size kind) body) ≡ sum

-- a run that has a checksum for a sector covers it, and the checksum stands there
covered : (kind : SumKind) (addr : ℕ) (body : List ℕ) (run : SumRun) (sum : Sum) → sum_in kind addr body run ≡ Some sum → IsCovered kind addr body run sum
covered kind addr body run sum = of (covers run addr) refl
  where
    found : Sum
    found = stored_sum kind (drop ((addr - run.start) / 4096 * sum_size kind) body)

    of : (b : Bool) → covers run addr ≡ b → cond b (Some found) None ≡ Some sum → IsCovered kind addr body run sum
    of true is e =
        let parts = and_parts (leb run.start addr) (ltb addr (run.start + run.count * 4096)) is in
        record { start = leb-true _ _ parts.0; within = ltb-true _ _ parts.1; is = cc e }
    of false is e = absurd (cc e)

both_true : (a b : Bool) → a ≡ true → b ≡ true → (a && b) ≡ true
both_true true true e f = refl
both_true true false e f = absurd (cc f)
both_true false b e f = absurd (cc e)

-- a run that covers a sector has the checksum that stands for it in the body
pub sum_of_covered : (kind : SumKind) (addr : ℕ) (body : List ℕ) (run : SumRun) → run.start ≤ addr → addr < run.start + run.count * 4096
    → sum_in kind addr body run ≡ Some (stored_sum kind (drop ((addr - run.start) / 4096 * sum_size kind) body))
sum_of_covered kind addr body run le lt =
    ap (λ b. cond b (Some (stored_sum kind (drop ((addr - run.start) / 4096 * sum_size kind) body))) None)
    (both_true (leb run.start addr) (ltb addr (run.start + run.count * 4096)) (le-leb _ _ le) (lt-ltb _ _ lt))

-- ---- a part of a run

-- the number of a later sector in a run is that of an earlier one and how many sectors it lies behind that
sector_of : (start addr other : ℕ) → start ≤ addr → addr ≤ other → (addr - start) % 4096 ≡ 0 → (other - start) / 4096 ≡ (addr - start) / 4096
    + (other - addr) / 4096
sector_of start addr other first second aligned = omega (arith, first, second, aligned)

-- a sector of a part of a run is covered by the run
in_run : (start addr other count part : ℕ) → start ≤ addr → (addr - start) % 4096 ≡ 0 → part ≤ count - (addr - start) / 4096
    → (addr - start) / 4096 < count → other < addr + part * 4096 → other < start + count * 4096
in_run start addr other count part le aligned few lt below = omega (arith, le, aligned, few, lt, below)

-- a sector of a part has a number below how many the part has
nth_sector : (addr other part : ℕ) → addr ≤ other → other < addr + part * 4096 → (other - addr) / 4096 < part
nth_sector addr other part le lt = omega (arith, le, lt)

-- a product with a sum is the sum of the products
shared : (a b size : ℕ) → (a + b) * size ≡ a * size + b * size
shared a b size = grind (arith)

one-times : (n : ℕ) → 1 * n ≡ n
one-times n = omega arith

-- each of n checksums in a row ends within them
end_fits : (i n size : ℕ) → i < n → i * size + size ≤ n * size
end_fits i n size lt =
    let le : i + 1 ≤ n = omega (arith, lt) in
    subst (λ m. m ≤ n * size) (shared i 1 size ∙ ap (λ m. i * size + m) (one-times size)) (mul-le (i + 1) size n size le (omega arith))

-- a part of a run of sectors ends within the run
pub part_ends : (first part count size : ℕ) → part ≤ count - first → first < count → first * size + part * size ≤ count * size
part_ends first part count size few lt =
    let le : first + part ≤ count = omega (arith, few, lt) in
    subst (λ n. n ≤ count * size) (shared first part size) (mul-le (first + part) size count size le (omega arith))

module _ (kind : SumKind) (addr : ℕ) (body : List ℕ) (run : SumRun) (part : ℕ) (copy : List ℕ) (behind : run.start ≤ addr)
    (aligned : (addr - run.start) % 4096 ≡ 0) (lt : (addr - run.start) / 4096 < run.count) (few : part ≤ run.count - (addr - run.start) / 4096)
    (same : take (part * sum_size kind) copy ≡ take (part * sum_size kind) (drop ((addr - run.start) / 4096 * sum_size kind) body)) where
  -- the part of the run that was copied: so many sectors from the address on
  abbrev taken : SumRun
  taken = record { start = addr; count = part }

  -- the copied part has no checksum for a sector before the address
  pub taken_behind : (other : ℕ) (sum : Sum) → sum_in kind other copy taken ≡ Some sum → addr ≤ other
  taken_behind other sum e = (covered kind other copy taken sum e).start

  -- a sector whose checksum the copied part has lies before the part's end
  pub taken_within : (other : ℕ) (sum : Sum) → sum_in kind other copy taken ≡ Some sum → other < addr + part * 4096
  taken_within other sum e = (covered kind other copy taken sum e).within

  -- a checksum that the copied part has for a sector is the one that the run has for it
  pub taken_same : (other : ℕ) (sum : Sum) → sum_in kind other copy taken ≡ Some sum → sum_in kind other body run ≡ Some sum
  taken_same other sum e =
      let c = covered kind other copy taken sum e in
      let size = sum_size kind in
      let first = (addr - run.start) / 4096 in
      let i = (other - addr) / 4096 in
      let number : (other - run.start) / 4096 ≡ first + i = sector_of run.start addr other behind c.start aligned in
      let place : (other - run.start) / 4096 * size ≡ first * size + i * size = ap (λ n. n * size) number ∙ shared first i size in
      let bytes : take size (drop (i * size) copy) ≡ take size (drop (first * size + i * size) body) =
      same_part (part * size) (i * size) size (first * size) copy body same (end_fits i part size (nth_sector addr other part c.start c.within)) in
      sum_of_covered kind other body run (omega (arith, behind, c.start)) (in_run run.start addr other run.count part behind aligned few lt c.within)
      ∙ ap (λ n. Some (stored_sum kind (drop n body))) place
      ∙ ap (λ l. Some (sum_from kind l)) (sym bytes)
      ∙ ap Some c.is

-- ---- by what is looked up

-- a program behind one that came to a value
pub bind_ending : {A C : Type 0} (B : Map) (p : Lookup A) (k : A → Lookup C) (a : A) (r : Result C Fault) → (exec B p).ending ≡ Ok a
    → (exec B (k a)).ending ≡ r → (exec B (bind p k)).ending ≡ r
bind_ending B p k a r e f = ap (λ (q : Run Want Fault ⊥ _). q.ending) (exec-bind B p k ∙ after-ok (exec B p) a (λ x. exec B (k x)) e) ∙ f

-- what is found of a run's item
run_found : (kind : SumKind) (addr : ℕ) (item : TreeItem) (run : SumRun) (B : Map) (sum : Sum) → is_sums item.key ≡ true
    → sum_run_of kind item.key item.body ≡ Ok run → sum_in kind addr item.body run ≡ Some sum → (exec B (sum_found kind addr (Some item))).ending
    ≡ Ok (Some sum)
run_found kind addr item run B sum sums is e =
    ap (λ b. (exec {S = ⊥} B (cond b (formed item (sum_run_of kind item.key item.body) (λ r. Return (sum_in kind addr item.body r)))
    (Return None))).ending) sums
    ∙ ap (λ r. (exec {S = ⊥} B (formed item r (λ x. Return (sum_in kind addr item.body x)))).ending) is
    ∙ ap Ok e

module _ (kind : SumKind) (addr : ℕ) (reach : Reach) (shown : Found) (run : SumRun) (ahead : SumsAhead) (is_there : reach.found ≡ Some shown) where
  -- checksums that are kept of the run that a lookup found are what lookups give, as far as that lookup reaches
  pub from_is_ahead : is_sums shown.key ≡ true → sum_run_of kind shown.key shown.body.now ≡ Ok run
      → IsFrom kind addr shown.body.now run reach.until ahead → IsReadAhead kind addr reach ahead
  from_is_ahead sums is from B root found same other sum kept =
      let behind : addr ≤ other = from.behind other sum kept in
      let below : is_below reach.until (sum_key other) ≡ true = from.below other sum kept in
      let less : key_number (sum_key addr) ≤ key_number (sum_key other) = omega (arith, behind) in
      let there : (exec B (le {S = ⊥} root (sum_key other))).ending ≡ Ok (Some (item_of shown)) =
      ap (λ (r : Run Want Fault ⊥ _). r.ending) (same (sum_key other) less below) ∙ found ∙ ap (λ o. Ok (option_map item_of o)) is_there in
      subst (λ k. (exec B (sum_under k root other)).ending ≡ Ok (Some sum)) (sym from.of_kind)
      (bind_ending B (le root (sum_key other)) (sum_found kind other) (Some (item_of shown)) (Ok (Some sum)) there
      (run_found kind other (item_of shown) run B sum sums is (from.same other sum kept)))

-- Sectors that have no checksum, by one lookup.
use Rattle.std.proofs.Common.{◌≡◌, ℕ, zero, suc, ◌+◌, ◌-◌, ◌*◌, ◌/◌, ◌<◌, ◌≤◌, Bool, true, false, cond, leb, ltb, List, drop, Option, Some, None}
use Rattle.std.proofs.Common.{Result, Ok, Err}
use Rattle.std.proofs.Common.{refl, sym, ap, ◌∙◌, subst, arith}
use Rattle.std.proofs.lemmas.Bool.{and_parts, eqb-true, ltb-true}
use Rattle.btr_base.specs.Key.{key_number}
use Rattle.btr_base.specs.Sum.{stored_sum, sum_size}
use Rattle.btr_base.specs.declared.kind.SumKind.{SumKind}
use Rattle.btr_base.specs.declared.stored.Sum.{Sum as TheSum}
use Rattle.btr_items.specs.Form.{fields_if}
use Rattle.btr_items.specs.SumRun.{sum_run_of}
use Rattle.btr_items.specs.declared.fault.ItemFault.{ItemFault}
use Rattle.btr_items.specs.declared.sum_run.SumRun.{SumRun}
use Rattle.btr_prog.specs.Prog.{Run, Return, exec}
use Rattle.btr_read.specs.Fate.{Fault}
use Rattle.btr_read.specs.declared.want.Want.{Want}
use Rattle.btr_volume.specs.Looking.{Judges}
use Rattle.btr_volume.specs.Lookup.{Lookup, formed}
use Rattle.btr_walk.specs.Le.{TreeItem, le}
use Rattle.btr_walk.specs.Reading.{Map}
use Rattle.btr_walk.specs.BlockPointer.{is_below}
use Rattle.btr_walk.specs.declared.found.Reach.{Reach}
use Rattle.btr_walk.proofs.AtOrBelow.{le_low}
use Rattle.btr_files.specs.declared.summed.Summed.TheVariants.{Gap}
use Rattle.btr_files.specs.Aheads.{item_reached, sum_key}
use Rattle.btr_files.specs.Gaps.{IsReadGap}
use Rattle.btr_files.specs.Sums.{covers, is_sums, sum_found, sum_in, sum_under, sums_objectid}
use Rattle.btr_files.proofs.AheadSums.{bind_ending, sum_of_covered}

-- an item of checksums at or below the key of an address begins at or below the address
start_low : (kind : SumKind) (addr : ℕ) (item : TreeItem) (run : SumRun) → is_sums item.key ≡ true → sum_run_of kind item.key item.body ≡ Ok run
    → key_number item.key ≤ key_number (sum_key addr) → run.start ≤ addr
start_low kind addr item run sums is low =
    let parts = and_parts _ _ sums in
    let objectid : item.key.objectid ≡ sums_objectid = eqb-true _ _ parts.0 in
    let of_sums : item.key.kind ≡ 128 = eqb-true _ _ parts.1 in
    let start : run.start ≡ item.key.offset = of _ _ is in
    omega (arith, objectid, of_sums, start, low)
  where
    of : (b : Bool) (fields : SumRun) → fields_if b fields ≡ Ok run → run.start ≡ fields.start
    of true fields e = let same : fields ≡ run = cc e in ap (λ (r : SumRun). r.start) (sym same)
    of false fields e = absurd (cc e)

module _ (kind : SumKind) (addr other : ℕ) (behind : addr ≤ other) where
  -- a run that has none for an address, and begins at or below it, has none behind it
  none_in : (body : List ℕ) (run : SumRun) → run.start ≤ addr → sum_in kind addr body run ≡ None → sum_in kind other body run ≡ None
  none_in body run first none = of (covers run other) refl
    where
      sum : TheSum
      sum = stored_sum kind (drop ((other - run.start) / 4096 * sum_size kind) body)

      of : (b : Bool) → covers run other ≡ b → cond b (Some sum) None ≡ None
      of false is = refl
      of true is =
          let end = run.start + run.count * 4096 in
          let within : other < end = ltb-true other end (and_parts (leb run.start other) (ltb other end) is).1 in
          absurd (cc (sym none ∙ sum_of_covered kind addr body run first (omega (arith, within, behind))))

  -- what was found has none behind an address for which it has none
  none_found : (B : Map) (found : Option TreeItem) → ((item : TreeItem) → found ≡ Some item → key_number item.key ≤ key_number (sum_key addr))
      → (exec {S = ⊥} B (sum_found kind addr found)).ending ≡ Ok None → (exec {S = ⊥} B (sum_found kind other found)).ending ≡ Ok None
  none_found B None low e = refl
  none_found B (Some item) low e = by_key (is_sums item.key) refl e
    where
      at : ℕ → SumRun → Lookup (Option TheSum)
      at a run = Return (sum_in kind a item.body run)

      -- an item of checksums with none for the address has none behind it, by its run
      by_run : (r : Result SumRun ItemFault) → sum_run_of kind item.key item.body ≡ r → is_sums item.key ≡ true
          → (exec {S = ⊥} B (formed item r (at addr))).ending ≡ Ok None → (exec {S = ⊥} B (formed item r (at other))).ending ≡ Ok None
      by_run (Ok run) is sums f = ap Ok (none_in item.body run (start_low kind addr item run sums is (low item refl)) (cc f))
      by_run (Err fault) is sums f = absurd (cc f)

      -- an item with no checksum for the address has none behind it, by whether it is one of checksums
      by_key : (b : Bool) → is_sums item.key ≡ b
          → (exec {S = ⊥} B (cond b (formed item (sum_run_of kind item.key item.body) (at addr)) (Return None))).ending ≡ Ok None
          → (exec {S = ⊥} B (cond b (formed item (sum_run_of kind item.key item.body) (at other)) (Return None))).ending ≡ Ok None
      by_key true is f = by_run (sum_run_of kind item.key item.body) refl is f
      by_key false is f = refl

-- the sectors of a gap, of which `below` stand below the bound
pub gap_read : (kind : SumKind) (addr below n : ℕ) (reach : Reach)
    → ((other : ℕ) → addr ≤ other → other < addr + below * 4096 → is_below reach.until (sum_key other) ≡ true)
    → ((i : ℕ) → 0 < i → i < n → i < below) → Judges (sum_found kind addr (item_reached reach)) (Ok None) → IsReadGap kind addr reach (Ok (Gap n))
gap_read kind addr below n reach bound few judged B sums ended same = each
  where
    -- the lookup of the first sector came to no checksum
    none : (exec {S = ⊥} B (sum_found kind addr (item_reached reach))).ending ≡ Ok None
    none = ap (λ (p : Lookup (Option TheSum)). (exec B p).ending) judged

    -- the item that was found stands at or below the key of the address
    low : (item : TreeItem) → item_reached reach ≡ Some item → key_number item.key ≤ key_number (sum_key addr)
    low item is = le_low B (sum_key addr) sums.place item (ended ∙ ap Ok is)

    -- each sector of the gap has no checksum by a lookup of its own
    each : (i : ℕ) → i < n → (exec {S = ⊥} B (sum_under kind sums.place (addr + i * 4096))).ending ≡ Ok None
    each zero lt =
        subst (λ (a : ℕ). (exec {S = ⊥} B (sum_under kind sums.place a)).ending ≡ Ok None) (omega arith)
        (bind_ending B (le sums.place (sum_key addr)) (sum_found kind addr) (item_reached reach) (Ok None) ended none)
    each (suc i) lt =
        let other : ℕ = addr + suc i * 4096 in
        let behind : addr ≤ other = omega arith in
        let within : suc i < below = few (suc i) (omega arith) lt in
        let there : (exec B (le {S = ⊥} sums.place (sum_key other))).ending ≡ Ok (item_reached reach) =
        ap (λ (r : Run Want Fault ⊥ _). r.ending) (same (sum_key other) (omega (arith, behind)) (bound other behind (omega (arith, within)))) ∙ ended in
        bind_ending B (le sums.place (sum_key other)) (sum_found kind other) (item_reached reach) (Ok None) there
        (none_found kind addr other behind B (item_reached reach) low none)

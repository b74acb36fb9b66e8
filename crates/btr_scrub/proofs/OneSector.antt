-- A sector of a data extent.
use Rattle.std.proofs.Common.{◌≡◌, ℕ, suc, ◌+◌, ◌<◌, ◌≤◌, Bool, true, false, cond, List, [], ◌∷◌, drop, length, take, Option, Some, None, Result, Ok, Err}
use Rattle.std.proofs.Common.{length-take, refl, sym, ap, ◌∙◌, subst, arith, length-append}
use Rattle.std.proofs.Math.Nat.{add-zero, sub-zero}
use Rattle.std.specs.Prelude.{◌-◌, ◌/◌, ◌*◌, replicate}
use Rattle.std.proofs.lemmas.List.{length-replicate, take-append-le, length-take-le, take_all}
use Rattle.btr_scrub.proofs.Common.{AddsTo, Checked, Emit, Follows, Gathered, Gathers, IsList, Looks, Map, Mark, Meeting, Met, OnlyReads, Return, SameVolume}
use Rattle.btr_scrub.proofs.Common.{Sector, Seen, Serves, Sum, SumKind, Super, Tells, TreeFault, TreeItem, TreeRoot, Volume, Want, bind, drawn, exec, exec-bind}
use Rattle.btr_scrub.proofs.Common.{key, kind_in, no_part, quiet, scene, sector, sector_met, sectors, stored_sum, sum_at, sum_size, unread_by}
use Rattle.btr_base.specs.Sum.{sum_from}
use Rattle.btr_items.specs.SumRun.{sum_run_of}
use Rattle.btr_items.specs.Types.{extent_csum}
use Rattle.btr_items.specs.declared.fault.ItemFault.{ItemFault}
use Rattle.btr_items.specs.declared.sum_run.SumRun.{SumRun}
use Rattle.btr_prog.specs.Prog.{Run, after}
use Rattle.btr_prog.proofs.Follow.{follows_then}
use Rattle.btr_prog.proofs.Quieting.{follows_quiet}
use Rattle.btr_read.specs.Fate as fate
use Rattle.btr_walk.specs.Le.{le}
use Rattle.btr_walk.specs.Reading.{HasCause}
use Rattle.btr_volume.specs.Lookup.{formed}
use Rattle.btr_volume.specs.declared.stop.Stop.TheVariants as stop
use Rattle.btr_files.specs.Sums.{covers, is_sums, sum_found, sum_in, sums_objectid}
use Rattle.btr_scrub.proofs.Gathering.{gathers_fault, gathers_halt, gathers_memory, gathers_none, gathers_then, lists_added, lists_none}
use Rattle.btr_scrub.proofs.Listing.{size_few}

-- a checksum that is stored again is the same
pub stored_again : (kind : SumKind) (xs : List ℕ) → sum_size kind ≤ length xs → stored_sum kind (stored_sum kind xs).bytes ≡ stored_sum kind xs
stored_again kind xs le =
    let long = length-take-le (sum_size kind) xs le in
    ap (sum_from kind) (take-append-le (sum_size kind) (take (sum_size kind) xs) (replicate (32 - sum_size kind) 0) (omega (arith, long))
    ∙ take_all (sum_size kind) (take (sum_size kind) xs) (omega (arith, long)))

-- a stored checksum is stored as it is
pub again : (kind : SumKind) (bytes : List ℕ) (sum : Sum) → length sum.bytes ≡ 32 → sum ≡ stored_sum kind bytes → stored_sum kind sum.bytes ≡ sum
again kind bytes sum long e =
    let size = sum_size kind in
    let all = ap (λ (s : Sum). length s.bytes) (sym e) ∙ long in
    let parts = length-append (take size bytes) (replicate (32 - size) 0) in
    let le : size ≤ length bytes = omega (arith, all, parts, length-replicate {A = ℕ} (32 - size) 0, length-take size bytes, size_few kind) in
    ap (λ (s : Sum). stored_sum kind s.bytes) e ∙ stored_again kind bytes le ∙ sym e

module _ (B : Map) (kind : SumKind) (addr : ℕ) (sum : Sum) where
  -- the checksum stands in some bytes
  abbrev Stored : Type 0
  Stored = (bytes : List ℕ) × (sum ≡ stored_sum kind bytes)

  -- so it is with one that was taken from bytes
  covered : (b : Bool) (bytes : List ℕ) → ◌≡◌ {A = Result (Option Sum) fate.Fault} (Ok (cond b (Some (stored_sum kind bytes)) None)) (Ok (Some sum)) → Stored
  covered true bytes h = (bytes, cc)
  covered false bytes h = cc

  -- so does one that was found in an item's run of checksums
  in_run : (item : TreeItem) (r : Result SumRun ItemFault) → (exec B (formed {S = ⊥} item r (λ run. Return (sum_in kind addr item.body run)))).ending
      ≡ Ok (Some sum) → Stored
  in_run item (Ok run) h = covered (covers run addr) (drop ((addr - run.start) / 4096 * sum_size kind) item.body) h
  in_run item (Err f) h = cc

  -- so does one that was found in an item, where that is one of checksums
  in_item : (item : TreeItem) (b : Bool) → (exec B (cond b (formed {S = ⊥} item (sum_run_of kind item.key item.body)
      (λ run. Return (sum_in kind addr item.body run))) (Return None))).ending ≡ Ok (Some sum) → Stored
  in_item item true h = in_run item (sum_run_of kind item.key item.body) h
  in_item item false h = cc

  -- so does one that was found in the item that was looked up, if there is one
  in_found : (found : Option TreeItem) → (exec B (sum_found kind addr found)).ending ≡ Ok (Some sum) → Stored
  in_found None h = cc
  in_found (Some item) h = in_item item (is_sums item.key) h

  -- so does one that was found behind what the look-up read
  behind : (ms : List (Mark Want ⊥)) (e : Result (Option TreeItem) fate.Fault) → (after ms e (λ found. exec B (sum_found kind addr found))).ending
      ≡ Ok (Some sum) → Stored
  behind ms (Ok found) h = in_found found h
  behind ms (Err f) h = cc

  -- a checksum that was looked up stands in some bytes
  is_stored : (sums : Option TreeRoot) → (exec B (sum_at kind sums addr)).ending ≡ Ok (Some sum) → Stored
  is_stored None h = cc
  is_stored (Some tree) h =
      let p = le {S = ⊥} tree.place (key sums_objectid extent_csum addr) in
      behind (exec B p).marks (exec B p).ending (sym (ap (λ (r : Run Want fate.Fault ⊥ (Option Sum)). r.ending) (exec-bind B p (sum_found kind addr))) ∙ h)

-- a sector is met, with the checksum that was found for it, if one was
abbrev pub met_of : ℕ → Option Sum → Meeting (Unit {0})
met_of addr found = Emit (sector_met addr found) (Return tt)

-- a sector was listed with the checksum that was looked up
pub gathers_sector : (s : Super) (sums : Option TreeRoot) (addr : ℕ) (old new : Seen) (vol vol' : Volume) (x y : Gathered) (sum : Sum)
    → length sum.bytes ≡ 32 → Serves new vol'.store → OnlyReads old new → SameVolume vol vol'
    → Looks vol.store.layout old new (sum_at (kind_in s) sums addr) (Ok (Some sum))
    → AddsTo x.list y.list (Sector addr (stored_sum (kind_in s) sum.bytes)) → y.unchecked ≡ x.unchecked
    → Gathers (sector s sums addr) (scene old vol x) (scene new vol' y) (Ok tt)
gathers_sector s sums addr old new vol vol' x y sum long serves reads same l added count =
    let layout = vol.store.layout in
    let kind = kind_in s in
    let p = sum_at kind sums addr in
    let met : List Met = Checked (Sector addr (stored_sum kind sum.bytes)) ∷ [] in
    record {
      reads = reads;
      volume = same;
      serves = serves;
      done = met;
      lists = lists_added x y (Sector addr (stored_sum kind sum.bytes)) added count;
      content = drawn layout (λ B. Follows {S = ⊥} (unread_by layout old new) no_part [] (exec B p) [] (Ok (Some sum)))
          (λ B. Follows (unread_by layout old new) no_part [] (exec B (sector s sums addr)) met (Ok tt))
          (λ B f.
          let stored = is_stored B kind addr sum sums f.1 in
          subst (λ r. Follows (unread_by layout old new) no_part [] r met (Ok tt)) (sym (exec-bind B (quiet p) (met_of addr)))
          (follows_then (unread_by layout old new) no_part [] (exec B (quiet p)) (Some sum) (λ found. exec B (met_of addr found)) [] met (Ok tt)
          (follows_quiet (unread_by layout old new) no_part [] B p [] (Ok (Some sum)) f)
          (ap (λ found. Checked (Sector addr found) ∷ []) (again kind stored.0 sum long stored.1), refl))) l;
      cause = tt;
    }

-- a sector was not listed
module _ (s : Super) (sums : Option TreeRoot) (addr : ℕ) (old new : Seen) (vol vol' : Volume) (x : Gathered) (serves : Serves new vol'.store)
    (reads : OnlyReads old new) (same : SameVolume vol vol') where
  -- as its checksum couldn't be looked up
  pub sector_fault : (f : TreeFault) → HasCause {A = Option Sum} vol.store.layout old new (Err f)
      → Looks vol.store.layout old new (sum_at (kind_in s) sums addr) (Err f)
      → Gathers (sector s sums addr) (scene old vol x) (scene new vol' x) (Err (stop.Tree f))
  sector_fault f cause l =
      let p = sum_at (kind_in s) sums addr in
      gathers_halt (quiet p) (met_of addr) (scene old vol x) (scene new vol' x) (stop.Tree f) (gathers_fault p old new vol vol' x f serves reads same cause l)

  -- as no memory was had behind calls, of which something is told
  pub sector_memory : (P : Map → Type 0) (y : Gathered) → IsList x.list → Tells vol.store.layout old new P
      → Gathers (sector s sums addr) (scene old vol x) (scene new vol' y) (Err stop.Memory)
  sector_memory P y is told =
      gathers_then (Return tt) (λ (u : Unit {0}). sector s sums addr) (scene old vol x) (scene new vol' x) (scene new vol' y) tt (Err stop.Memory)
      (gathers_none P old new vol vol' x x (lists_none x is) serves reads same told) (gathers_memory (sector s sums addr) new vol' x y serves)

-- one sector more
pub sectors_first : (s : Super) (sums : Option TreeRoot) (count addr i : ℕ) → i < count → sectors s sums (count - i) (addr + i * 4096)
    ≡ bind (sector s sums (addr + i * 4096)) (λ u. sectors s sums (count - (i + 1)) (addr + (i + 1) * 4096))
sectors_first s sums count addr i lt =
    let more : count - i ≡ suc (count - (i + 1)) = omega (arith, lt) in
    let next : addr + i * 4096 + 4096 ≡ addr + (i + 1) * 4096 = omega arith in
    rw (more, next)

-- with none of them treated all are left
pub sectors_all : (s : Super) (sums : Option TreeRoot) (count addr : ℕ) → sectors s sums count addr ≡ sectors s sums (count - 0) (addr + 0 * 4096)
sectors_all s sums count addr = rw (sub-zero, add-zero)

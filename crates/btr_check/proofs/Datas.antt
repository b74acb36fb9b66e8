-- Sectors that are looked up and read, one after another.
use Rattle.std.proofs.Common.{◌≡◌, ℕ, zero, suc, ◌+◌, ◌*◌, ◌/◌, ◌%◌, ◌<◌, nat_lt, eqb, ◌≤◌, ◌^◌, Bool, true, false, ◌&&◌, List, [], ◌∷◌, length, take}
use Rattle.std.proofs.Common.{get_or, filter_map, flat_map, Option, Some, None, IfSome, IsSomeAnd, Result, Ok, Err, is_ok, refl, sym, ap, ◌∙◌, subst, arith}
use Rattle.std.proofs.lemmas.Bool.{ltb-true}
use Rattle.std.proofs.lemmas.List.Elements.{Contains-append_left, Contains-append_right, Contains-get_or}
use Rattle.std.specs.List.{AllByRecursion, Contains, cons_option}
use Rattle.std.specs.Prelude.{slice_get}
use Rattle.btr_base.specs.declared.kind.SumKind.{SumKind}
use Rattle.btr_base.specs.declared.stored.Sum.{Sum}
use Rattle.btr_files.specs.Content.{want_by}
use Rattle.btr_files.specs.Sums.{sum_at}
use Rattle.btr_files.specs.Aheads.{kept_sum, IsSummed}
use Rattle.btr_files.specs.declared.sums_ahead.SumsAhead.{SumsAhead}
use Rattle.btr_items.specs.declared.sum_run.SumRun.{SumRun}
use Rattle.btr_prog.specs.Answers.{Follows, Names, no_part}
use Rattle.btr_prog.specs.Prog.{Run, Return, Need, run, given, and_then, exec, needs, wants_of}
use Rattle.btr_prog.specs.Calls.{Sure}
use Rattle.btr_prog.proofs.Runs.{exec-bind, after-ok, after-err, needs-bind, needs-stop}
use Rattle.btr_rack.specs.Rack.{Seen, OnlyReads}
use Rattle.btr_read.specs.Candidates.{Target}
use Rattle.btr_read.specs.Fate as fate
use Rattle.btr_read.specs.Fate.{sought, passing_for, passing, or_lost, fate_of}
use Rattle.btr_read.specs.Fetch.{FitsFetch, IsFetched}
use Rattle.btr_read.specs.Layout.{Layout}
use Rattle.btr_read.specs.Reading.{OnMap}
use Rattle.btr_read.specs.Store.{Blocks, Lent, block_of}
use Rattle.btr_read.specs.Want.{addr_of}
use Rattle.btr_read.specs.declared.fault.ReadFault.{ReadFault}
use Rattle.btr_read.specs.declared.fault.ReadFault.TheVariants as read
use Rattle.btr_read.specs.declared.want.Want.{Want}
use Rattle.btr_read.proofs.ReadsOn.{same_held}
use Rattle.btr_volume.specs.declared.root.TreeRoot.{TreeRoot}
use Rattle.btr_volume.specs.declared.stop.Stop.{Stop}
use Rattle.btr_volume.specs.declared.stop.Stop.TheVariants as stops
use Rattle.btr_walk.specs.Reading.{Map, UnreadBlock, Tells, tree_fault, answer_of}
use Rattle.btr_walk.specs.declared.fault.TreeFault.{TreeFault}
use Rattle.btr_walk.specs.declared.fault.TreeFault.TheVariants.{Lost, Unread, Unmapped, Crosses, Malformed}
use Rattle.btr_check.specs.Counting.{Unless}
use Rattle.btr_base.specs.Sum.{sum_size}
use Rattle.btr_items.specs.Form.{fields_if}
use Rattle.btr_items.specs.Key.{key_fits}
use Rattle.btr_check_sums.specs.Items.{runs_in}
use Rattle.btr_walk.specs.Le.{TreeItem}
use Rattle.std.specs.Result.{result_ok}
use Rattle.btr_check.specs.Data.{is_readable, data_lost, data_findings, sum_runs, ReadsBy, unread_stop}
use Rattle.btr_check.specs.Trees.{tree_of}
use Rattle.btr_findings.proofs.Adding.{adds_as, adds_more}
use Rattle.btr_findings.specs.declared.kind.Kind.TheVariants as kind
use Rattle.btr_findings.specs.Findings.{Adds, found, unless, FoundSet}
use Rattle.btr_findings.specs.declared.finding.Finding.{Finding}
use Rattle.btr_check_sums.specs.Ranks.{run_end}
use Rattle.btr_check_sums.specs.Sums.{run_sectors}
use Rattle.std.proofs.lemmas.List.{take_all}
use Rattle.std.specs.Option.{option_to_list}
use Rattle.btr_check.specs.Filesystem.{Filesystem, kind_of_sums, tree_items}
use Rattle.btr_check.proofs.Runs.{fault_more}
use Rattle.btr_check.proofs.Wants.{fault_wanted, first_in, named_in}
use Rattle.btr_check.specs.Running.{FaultUnread, IsUnreadOf, StopUnread, OfReading, is_outside}
use Rattle.btr_check.specs.Wanted.{OfSector}
use Rattle.btr_check_sums.proofs.Sectors.{sectors_long, sector_at, rows_of}

-- stops that two answers have alike are the same
same_stop : (a b : Stop) → Some a ≡ Some b → a ≡ b
same_stop a b e = cc

-- what holds of the block that a fault says could not be read holds of the one that its stop says
pub stop_unread : (P : UnreadBlock → Type 0) (f : TreeFault) (stop : Stop) → unread_stop f ≡ Some stop → FaultUnread P f → StopUnread P stop
stop_unread P (Lost addr) stop e h = cc
stop_unread P (Unread addr slot) stop e h = subst (StopUnread P) (same_stop (stops.Tree (Unread addr slot)) stop e) h
stop_unread P (Unmapped addr) stop e h = cc
stop_unread P (Crosses addr) stop e h = cc
stop_unread P (Malformed addr) stop e h = cc

-- a run that comes to the bytes of a block
abbrev Bytes : Type 0
Bytes = Run Want fate.Fault ⊥ (List ℕ)

-- whether a block is had
given_ok : (r : Result (List ℕ) fate.Fault) → is_ok (given {W = Want} {F = fate.Fault} {S = ⊥} r (λ bytes. run [] (Ok bytes))).ending ≡ is_ok r
given_ok (Ok bytes) = refl
given_ok (Err fault) = refl

module _ (fs : Filesystem) (sums : Option TreeRoot) (sector : ℕ) where
  -- the look-up of the sector's checksum
  abbrev looked : Run Want fate.Fault ⊥ (Option Sum)
  looked = exec fs.blocks (sum_at (kind_of_sums fs) sums sector)

  -- the read of the sector by its checksum, or without one
  abbrev by_sum : Option Sum → Bytes
  by_sum sum = exec fs.blocks (Need (want_by sector sum) Return)

  -- a sector is readable where its look-up, and then its read, come to an answer
  is_bind : is_readable fs sums sector ≡ is_ok (and_then looked by_sum).ending
  is_bind = ap (λ (r : Bytes). is_ok r.ending) (exec-bind fs.blocks (sum_at (kind_of_sums fs) sums sector) (λ sum. Need (want_by sector sum) Return))

  -- where a look-up came to an answer, the sector is readable where its want comes to bytes
  pub read_by : (want : Want) → ReadsBy fs sums sector (Some want) → is_readable fs sums sector ≡ is_ok (fs.blocks want)
  read_by want h =
      is_bind ∙ ap (λ (r : Bytes). is_ok r.ending) (after-ok looked h.0 by_sum h.1) ∙ given_ok (fs.blocks (want_by sector h.0))
      ∙ sym (ap (λ w. is_ok (fs.blocks w)) h.2)

  -- the want is one of the sector's
  pub sector_wanted : (want : Want) → ReadsBy fs sums sector (Some want) → OfSector sums sector fs want
  sector_wanted want h =
      subst (λ ws. Contains ws want) (sym (needs-bind fs.blocks (sum_at (kind_of_sums fs) sums sector) (λ sum. Need (want_by sector sum) Return) h.0 h.1))
      (Contains-append_right (needs fs.blocks (sum_at (kind_of_sums fs) sums sector)) (needs fs.blocks (Need (want_by sector h.0) Return)) want
      (subst (λ w. Contains (want_by sector h.0 ∷ wants_of (given (fs.blocks (want_by sector h.0)) (λ bytes. run {S = ⊥} [] (Ok bytes))).marks) w) (sym h.2)
      (first_in (want_by sector h.0) _)))

  -- and so are those of the look-up
  look_wanted : (want : Want) (ending : Result (Option Sum) fate.Fault) → looked.ending ≡ ending → Contains (wants_of looked.marks) want
      → OfSector sums sector fs want
  look_wanted want (Ok sum) is h =
      subst (λ ws. Contains ws want) (sym (needs-bind fs.blocks (sum_at (kind_of_sums fs) sums sector) (λ sum. Need (want_by sector sum) Return) sum is))
      (Contains-append_left (wants_of looked.marks) (needs fs.blocks (Need (want_by sector sum) Return)) want h)
  look_wanted want (Err fault) is h =
      subst (λ ws. Contains ws want) (sym (needs-stop fs.blocks (sum_at (kind_of_sums fs) sums sector) (λ sum. Need (want_by sector sum) Return) fault is)) h

  -- where a block could not be read in the look-up of a sector's checksum, it is a want of the sector
  pub look_unread : (Is : UnreadBlock → Want → Type 0) (f : TreeFault) (stop : Stop) → unread_stop f ≡ Some stop
      → Follows Is no_part [] looked [] (answer_of (Err f)) → StopUnread (λ u. (want : Want) × OfSector sums sector fs want × Is u want) stop
  look_unread Is f stop e h = stop_unread (λ u. (want : Want) × OfSector sums sector fs want × Is u want) f stop e
      (fault_more (λ u. Names Is u (wants_of looked.marks)) (λ u. (want : Want) × OfSector sums sector fs want × Is u want)
      (λ u named. let one = named_in Is u (wants_of looked.marks) named in (one.0, look_wanted one.0 looked.ending refl one.1, one.2)) f
      (fault_wanted Is looked [] f h))

  -- where the look-up comes to a fault the sector isn't readable
  not_read : (fault : fate.Fault) → looked.ending ≡ Err fault → ReadsBy fs sums sector None
  not_read fault is = is_bind ∙ ap (λ (r : Bytes). is_ok r.ending) (after-err looked fault by_sum is)

  -- and so it is by a checksum that is kept
  pub kept_by : (ahead : SumsAhead) (sum : Sum) → ahead.kind ≡ kind_of_sums fs → kept_sum ahead sector ≡ Some sum → IsSummed fs.blocks sums ahead
      → ReadsBy fs sums sector (Some (want_by sector (Some sum)))
  kept_by ahead sum same kept summed = (
    Some sum,
    subst (λ (k : SumKind). (exec fs.blocks (sum_at k sums sector)).ending ≡ Ok (Some sum)) same (summed sector sum kept),
    refl,
  )

  -- a sector is wanted by what the look-up of its checksum answered
  pub found_by : (Is : UnreadBlock → Want → Type 0) (sum : Option Sum) (want : Want) → want ≡ want_by sector sum
      → Follows Is no_part [] looked [] (answer_of (Ok sum)) → ReadsBy fs sums sector (Some want)
  found_by Is sum want same h = (sum, h.1, same)

  -- where the look-up ends with a fault, but for a block that could not be read, the sector isn't readable
  pub fault_by : (Is : UnreadBlock → Want → Type 0) (f : TreeFault) → unread_stop f ≡ None → Follows Is no_part [] looked [] (answer_of (Err f))
      → ReadsBy fs sums sector None
  fault_by Is (Lost addr) e h = not_read (fate.Lost addr) h.1
  fault_by Is (Unread addr slot) e h = cc
  fault_by Is (Unmapped addr) e h = not_read (fate.Unmapped addr) h.1
  fault_by Is (Crosses addr) e h = not_read (fate.Crosses addr) h.1
  fault_by Is (Malformed addr) e h = not_read (fate.Malformed addr) h.1

not_kept : (sum : Sum) (o : Option Sum) (P : Type 0) → o ≡ None → o ≡ Some sum → P
not_kept sum o P none some = cc

-- where none are kept
pub none_kept : (B : Map) (sums : Option TreeRoot) (ahead : SumsAhead) → ((addr : ℕ) → kept_sum ahead addr ≡ None) → IsSummed B sums ahead
none_kept B sums ahead none = λ other sum kept. not_kept sum (kept_sum ahead other) _ (none other) kept

-- the stop of a block that could not be read may come at any place
pub stop_outside : (f : TreeFault) (stop : Stop) → unread_stop f ≡ Some stop → is_outside stop ≡ true
stop_outside (Lost addr) stop e = cc
stop_outside (Unread addr slot) stop e = ap is_outside (sym (same_stop (stops.Tree (Unread addr slot)) stop e))
stop_outside (Unmapped addr) stop e = cc
stop_outside (Crosses addr) stop e = cc
stop_outside (Malformed addr) stop e = cc

-- the stop of a block that could not be read is one of a call that only reads blocks
pub stop_reading : (f : TreeFault) (stop : Stop) → unread_stop f ≡ Some stop → OfReading stop
stop_reading (Lost addr) stop e = cc
stop_reading (Unread addr slot) stop e = subst OfReading (same_stop (stops.Tree (Unread addr slot)) stop e) tt
stop_reading (Unmapped addr) stop e = cc
stop_reading (Crosses addr) stop e = cc
stop_reading (Malformed addr) stop e = cc

-- what holds of the images holds of their map
tells_images : (layout : Layout) (old new : Seen) (P : Map → Type 0) → OnlyReads old new → ((sure : Sure) → OnMap layout P sure old.held)
    → Tells layout old new P
tells_images layout old new P reads h = record { calls = record { same = same_held reads; later = reads.later; content = λ sure steady. h sure } }

-- what follows from what holds of the images holds of them, where they are told
held_as : (held : Option (List (List ℕ))) (P Q : List (List ℕ) → Type 0) → ((images : List (List ℕ)) → P images → Q images) → IfSome held P → IfSome held Q
held_as None P Q f h = tt
held_as (Some images) P Q f h = f images h

-- what holds of any images holds of these, where they are told
held_all : (held : Option (List (List ℕ))) (Q : List (List ℕ) → Type 0) → ((images : List (List ℕ)) → Q images) → IfSome held Q
held_all None Q f = tt
held_all (Some images) Q f = f images

-- this says whether a want comes to bytes
abbrev CanRead : Want → Bool → Map → Type 0
CanRead want can B = can ≡ is_ok (B want)

-- where a candidate that stands passes, there is a first one
none_contained : (bytes : List ℕ) → Contains [] bytes → ⊥
none_contained bytes h = let below : h.0 < 0 = h.1 in omega (arith, below)

-- where bytes of some copy pass, the block isn't lost
first_passes : (xs : List (List ℕ)) (bytes : List ℕ) (addr : ℕ) → Contains xs bytes → true ≡ is_ok (or_lost addr (slice_get xs 0))
first_passes [] bytes addr h = absurd (none_contained bytes h)
first_passes (x ∷ xs) bytes addr h = refl

-- where bytes of some copy pass, the want comes to bytes
some_passes : (images : List (List ℕ)) (addr : ℕ) (r : Result Target fate.Fault) (bytes : List ℕ) → Contains (passing_for images r) bytes
    → true ≡ is_ok (fate_of images addr r)
some_passes images addr (Err fault) bytes h = absurd (none_contained bytes h)
some_passes images addr (Ok t) bytes h = first_passes (passing images t) bytes addr h

module _ (layout : Layout) (want : Want) (old new : Seen) (store : Blocks) (reads : OnlyReads old new) where
  -- a want that was had comes to bytes
  pub fetched_can : (loan : Lent) → FitsFetch layout want old new store (Ok loan) → Tells layout old new (CanRead want true)
  fetched_can loan fits = by (block_of store loan) fits.1
    where
      by : (o : Option (List ℕ)) → IsSomeAnd o (IsFetched layout want old new) → Tells layout old new (CanRead want true)
      by None h = absurd h
      by (Some bytes) h = tells_images layout old new (CanRead want true) reads
          (λ sure. held_as old.held (λ images. Contains (passing_for images (sought layout want)) bytes) (λ images. true ≡ is_ok (fate.fate images layout want))
          (λ images has. some_passes images (addr_of want) (sought layout want) bytes has) h.stand)

  -- one that is lost, or has no position, doesn't
  pub fetched_cannot : (f : ReadFault) → unread_stop (tree_fault f) ≡ None → FitsFetch layout want old new store (Err f)
      → Tells layout old new (CanRead want false)
  fetched_cannot (read.Lost addr) e fits = tells_images layout old new (CanRead want false) reads
      (λ sure. held_as old.held (λ images. fate.fate images layout want ≡ Err (fate.Lost addr)) (λ images. false ≡ is_ok (fate.fate images layout want))
      (λ images is. ap is_ok (sym is)) fits.2)
  fetched_cannot (read.Unread addr slot) e fits = cc
  fetched_cannot (read.Unmapped addr) e fits = tells_images layout old new (CanRead want false) reads
      (λ sure. held_all old.held (λ images. false ≡ is_ok (fate.fate images layout want))
      (λ images. ap (λ r. is_ok (fate_of images (addr_of want) r)) (sym fits)))
  fetched_cannot (read.Crosses addr) e fits = tells_images layout old new (CanRead want false) reads
      (λ sure. held_all old.held (λ images. false ≡ is_ok (fate.fate images layout want))
      (λ images. ap (λ r. is_ok (fate_of images (addr_of want) r)) (sym fits)))

  -- and its cause
  pub fetched_unread : (f : ReadFault) (stop : Stop) → unread_stop (tree_fault f) ≡ Some stop → FitsFetch layout want old new store (Err f)
      → StopUnread (IsUnreadOf layout old new (λ w. w ≡ want)) stop
  fetched_unread (read.Lost addr) stop e fits = cc
  fetched_unread (read.Unread addr slot) stop e fits =
      stop_unread (IsUnreadOf layout old new (λ w. w ≡ want)) (Unread addr slot) stop e (want, refl, fits)
  fetched_unread (read.Unmapped addr) stop e fits = cc
  fetched_unread (read.Crosses addr) stop e fits = cc

-- what holds whatever the images are
pub always_told : (layout : Layout) (old new : Seen) (P : Type 0) → OnlyReads old new → P → Tells layout old new (λ B. P)
always_told layout old new P reads h = tells_images layout old new (λ B. P) reads (λ sure. held_all old.held (λ images. P) (λ images. h))

-- what may be said of a stop that may come at any place
pub stop_tells : {A : Type 0} (layout : Layout) (old new : Seen) (P : Map → A → Type 0) (stop : Stop) → OnlyReads old new → is_outside stop ≡ true
    → Tells layout old new (λ B. Unless (P B) (Err stop))
stop_tells layout old new P stop reads outside = always_told layout old new (is_outside stop ≡ true) reads outside

-- a sector is read by its want
pub then_read : (fs : Filesystem) (sums : Option TreeRoot) (sector : ℕ) (want : Want) (r : Result Bool Stop) → ReadsBy fs sums sector (Some want)
    → Unless (λ can. can ≡ is_ok (fs.blocks want)) r → Unless (λ can. can ≡ is_readable fs sums sector) r
then_read fs sums sector want (Ok can) by is = is ∙ sym (read_by fs sums sector want by)
then_read fs sums sector want (Err stop) by is = is

-- the finding on a sector
pub sector_adds : (fs : Filesystem) (sums : Option TreeRoot) (sector : ℕ) (can : Bool) (row : Finding) (old new : FoundSet)
    → row ≡ found kind.DataLost (sector ∷ [])
    → Adds (option_to_list (unless can row)) old new → can ≡ is_readable fs sums sector → Adds (option_to_list (data_lost fs sums sector)) old new
sector_adds fs sums sector can row old new same adds is =
    adds_as (option_to_list (unless can row)) (option_to_list (data_lost fs sums sector)) old new
    (ap (λ f. option_to_list (unless can f)) same ∙ ap (λ b. option_to_list (unless b (found kind.DataLost (sector ∷ [])))) is) adds

-- the sectors of a run, one more
pub run_more : (fs : Filesystem) (sums : Option TreeRoot) (run : SumRun) (i : ℕ) (sector : ℕ) (a b c : FoundSet) → i < run.count → sector ≡ run.start + i * 4096
    → Adds (filter_map (data_lost fs sums) (take i (run_sectors run))) a b → Adds (option_to_list (data_lost fs sums sector)) b c
    → Adds (filter_map (data_lost fs sums) (take (i + 1) (run_sectors run))) a c
run_more fs sums run i sector a b c below is before here =
    let long : length (run_sectors run) ≡ run.count = sectors_long run.start run.count in
    let at : get_or (run_sectors run) i 0 ≡ run.start + i * 4096 = sector_at run.start run.count i below in
    adds_more (data_lost fs sums) (run_sectors run) i 0 a b c (omega (arith, long, below)) before
    (adds_as (option_to_list (data_lost fs sums sector)) (option_to_list (data_lost fs sums (get_or (run_sectors run) i 0))) b c
    (ap (λ s. option_to_list (data_lost fs sums s)) (is ∙ sym at)) here)

-- one of them
pub sector_in : (run : SumRun) (i sector : ℕ) → i < run.count → sector ≡ run.start + i * 4096 → Contains (run_sectors run) sector
sector_in run i sector below is =
    let long : length (run_sectors run) ≡ run.count = sectors_long run.start run.count in
    let at : get_or (run_sectors run) i 0 ≡ run.start + i * 4096 = sector_at run.start run.count i below in
    subst (Contains (run_sectors run)) (at ∙ sym is) (Contains-get_or (run_sectors run) i 0 (omega (arith, long, below)))

-- the sectors of a run up to its count are all of it
pub run_all : (fs : Filesystem) (sums : Option TreeRoot) (run : SumRun) (i : ℕ) (a b : FoundSet) → run.count ≤ i
    → Adds (filter_map (data_lost fs sums) (take i (run_sectors run))) a b → Adds (filter_map (data_lost fs sums) (run_sectors run)) a b
run_all fs sums run i a b end h =
    let long : length (run_sectors run) ≡ run.count = sectors_long run.start run.count in
    adds_as (filter_map (data_lost fs sums) (take i (run_sectors run))) (filter_map (data_lost fs sums) (run_sectors run)) a b
    (ap (filter_map (data_lost fs sums)) (take_all i (run_sectors run) (omega (arith, long, end)))) h

-- runs end below 2^64
abbrev pub IsLow : SumRun → Type 0
IsLow run = run_end run < 2 ^ 64

-- all of these runs end below 2^64
abbrev pub AreLow : List SumRun → Type 0
AreLow runs = AllByRecursion IsLow runs

-- each one of runs that end below 2^64 does so
pub low_at : (runs : List SumRun) (i : ℕ) (d : SumRun) → i < length runs → AreLow runs → IsLow (get_or runs i d)
low_at [] i d below all = absurd (omega arith)
low_at (x ∷ xs) zero d below all = all.0
low_at (x ∷ xs) (suc i) d below all = low_at xs i d (omega arith) all.1

-- which sectors of a run aren't readable
abbrev pub run_findings : Filesystem → Option TreeRoot → SumRun → List Finding
run_findings fs sums run = filter_map (data_lost fs sums) (run_sectors run)

-- all runs of the checksum tree
pub data_all : (fs : Filesystem) (sums : Option TreeRoot) (list : List SumRun) (i : ℕ) (a b : FoundSet) → length list ≤ i → list ≡ sum_runs fs
    → sums ≡ tree_of fs.sup fs.blocks 7 → Adds (flat_map (run_findings fs sums) (take i list)) a b → Adds (data_findings fs) a b
data_all fs sums list i a b end is tree h =
    adds_as (flat_map (run_findings fs sums) (take i list)) (data_findings fs) a b
    (ap (flat_map (run_findings fs sums)) (take_all i list end) ∙ rows_of (data_lost fs sums) run_sectors list
    ∙ ap (λ l. filter_map (data_lost fs sums) (flat_map run_sectors l)) is ∙ ap (λ t. filter_map (data_lost fs t) (flat_map run_sectors (sum_runs fs))) tree) h

second_true : (a b : Bool) → (a && b) ≡ true → b ≡ true
second_true true b is = is
second_true false b is = cc

-- each run that an item has is low
low_if : (b : Bool) (run : SumRun) (rest : List SumRun) → (b ≡ true → IsLow run) → AreLow rest → AreLow (cons_option (result_ok (fields_if b run)) rest)
low_if true run rest low all = (low refl, all)
low_if false run rest low all = all

-- the runs of checksums in items end below 2^64
runs_low : (kind : SumKind) (items : List TreeItem) → AreLow (runs_in kind items)
runs_low kind [] = tt
runs_low kind (item ∷ items) =
    let count = length item.body / sum_size kind in
    let typed = eqb item.key.kind 128 in
    let key = key_fits item.key in
    let some = nat_lt 0 (length item.body) in
    let whole = eqb (length item.body % sum_size kind) 0 in
    let low = nat_lt (item.key.offset + count * 4096) (2 ^ 64) in
    low_if (typed && key && some && whole && low) (record { start = item.key.offset; count = count }) (runs_in kind items)
    (λ is. ltb-true (item.key.offset + count * 4096) (2 ^ 64) (second_true (typed && key && some && whole) low is)) (runs_low kind items)

-- the runs of the checksum tree end below 2^64
pub are_low : (fs : Filesystem) (list : List SumRun) → list ≡ sum_runs fs → AreLow list
are_low fs list is = subst AreLow (sym is) (runs_low (kind_of_sums fs) (tree_items fs 7))

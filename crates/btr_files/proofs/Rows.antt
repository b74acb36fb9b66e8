-- The entries of a directory go on as its scan does.
use Rattle.std.proofs.Common.{◌≡◌, ℕ, ◌+◌, ◌<◌, ◌≤◌, Bool, true, false, List, [], ◌∷◌, ◌++◌, length, Option, Some, None, Result, Ok, Err, refl, sym, ap, ◌∙◌}
use Rattle.std.proofs.Common.{subst, arith}
use Rattle.std.specs.Prelude.{nat_le, ◌&&◌}
use Rattle.std.proofs.lemmas.Bool.Decides.{nat_tests}
use Rattle.btr_base.specs.Field.{number_at, bytes_at}
use Rattle.btr_base.specs.declared.key.Key.{Key}
use Rattle.btr_items.specs.Entry.{entry_at, is_index, index_entry, index_entry_of}
use Rattle.btr_items.specs.Form.{fields_if, is_name, HasName}
use Rattle.btr_items.specs.declared.entry.Entry.{Entry}
use Rattle.btr_items.specs.declared.fault.ItemFault.{ItemFault}
use Rattle.btr_prog.specs.Prog.{Mark, Wants, Does, Return, Emit, Run, run, first, prepend, exec, bind, after, steps_of, want_marks}
use Rattle.btr_prog.specs.Thread.{go_on_run, thread_run, end_of}
use Rattle.btr_prog.specs.Answers.{Halt, Follows, no_part}
use Rattle.btr_prog.specs.Goes.{AfterTo, GoOnTo, ThreadsTo}
use Rattle.btr_prog.proofs.Threads.{exec-thread}
use Rattle.btr_prog.proofs.SoFars.{threads_exec}
use Rattle.btr_prog.proofs.Cursors.{cursor_halts}
use Rattle.btr_read.specs.Fate as fate
use Rattle.btr_rack.specs.Rack.{Seen}
use Rattle.btr_read.specs.Layout.{Layout}
use Rattle.btr_read.specs.Serves.{Serves}
use Rattle.btr_read.specs.Store.{Blocks, SameLoans}
use Rattle.btr_read.proofs.Pieces.{length-slice_range}
use Rattle.btr_read.specs.declared.want.Want.{Want}
use Rattle.btr_walk.specs.declared.fault.TreeFault.{TreeFault}
use Rattle.btr_walk.specs.declared.fault.TreeFault.TheVariants.{Malformed}
use Rattle.btr_walk.specs.declared.found.Found.{Found}
use Rattle.btr_walk.specs.declared.scan.Scan.{Scan}
use Rattle.btr_walk.specs.Le.{TreeItem}
use Rattle.btr_walk.specs.Range.{RangeProg}
use Rattle.btr_walk.specs.declared.rest.Rest.{Rest}
use Rattle.btr_walk.specs.Going.{place_prog, IsOn}
use Rattle.btr_walk.specs.Ranks.{IsShaped}
use Rattle.btr_walk.specs.Reading.{Map, UnreadBlock, HasCause, halt_of}
use Rattle.btr_walk.specs.Rests.{rest_left, rank_left, Rests}
use Rattle.btr_walk.specs.Scans.{wants}
use Rattle.btr_walk.specs.ScanEnds.{left_of, rank_of, without_leaf, Gives, IsNextOn, IsScanReady}
use Rattle.btr_walk.specs.Showing.{item_of}
use Rattle.btr_walk.proofs.Marks.{wants_fault}
use Rattle.btr_volume.specs.Lookup.{Program, formed}
use Rattle.btr_files.specs.declared.dir_row.DirRow.{DirRow}
use Rattle.btr_files.specs.declared.name.NameBuf.{NameBuf}
use Rattle.btr_files.specs.Entries.{DirEntry, entries_in, entry_of}
use Rattle.btr_files.specs.declared.dir.Dir.{Dir}
use Rattle.btr_files.specs.Listing.{named_row, IsRow, IsRowBy, GivesRow, EndsRows, NextRowBy, IsNextRow, IsNextEntry, RowRankFalls}
use Rattle.btr_walk.proofs.Resting.{kept_none}

-- a run of the items of a directory
abbrev Items : Type 0
Items = Run Want fate.Fault TreeItem (Unit {0})

-- a run of the entries of a directory
abbrev Rows : Type 0
Rows = Run Want fate.Fault DirEntry (Unit {0})

-- an item gives its entry, by its form
abbrev by_form : TreeItem → Result Entry ItemFault → Program DirEntry (Result (Unit {0}) (Unit {0}))
by_form item r = bind (formed item r (λ entry. Emit (entry_of item entry) (Return tt))) (λ st. Return (Ok st))

abbrev body : Unit {0} → TreeItem → Program DirEntry (Result (Unit {0}) (Unit {0}))
body u item = by_form item (index_entry_of item.body)

abbrev fin : Unit {0} → Unit {0} → Unit {0}
fin u v = u

module _ (B : Map) where
  -- the run of the entries in the items of a run
  abbrev pub rows_of : Items → Rows
  rows_of r = thread_run (λ u item. exec B (body u item)) fin tt r.marks r.ending

  -- the run of the entries in some items is the run of these items, with their entries
  pub exec_rows : (p : RangeProg) → exec B (entries_in p) ≡ rows_of (exec B p)
  exec_rows p = exec-thread B body fin tt p

  -- wants before some items are wants before their entries
  rows_past : (ws : List Want) (r : Items) → rows_of (prepend (wants ws) r) ≡ prepend (want_marks ws) (rows_of r)
  rows_past [] r = refl
  rows_past (w ∷ ws) r = ap (first (Wants w)) (rows_past ws r)

  -- an item that holds an entry, by its form, gives it, and then comes what follows
  given : (item : TreeItem) (x : Result Entry ItemFault) (entry : Entry) (k : Unit {0} → Rows) → x ≡ Ok entry
      → after (exec B (by_form item x)).marks (exec B (by_form item x)).ending (go_on_run k) ≡ first (Does (entry_of item entry)) (k tt)
  given item x entry k e = subst (λ y. after (exec B (by_form item y)).marks (exec B (by_form item y)).ending (go_on_run k)
      ≡ first (Does (entry_of item entry)) (k tt)) (sym e) refl

  -- an item that holds an entry gives it, and then come the entries behind it
  row_given : (item : TreeItem) (entry : Entry) (r : Items) → index_entry_of item.body ≡ Ok entry → rows_of (first (Does item) r)
      ≡ first (Does (entry_of item entry)) (rows_of r)
  row_given item entry r e = given item (index_entry_of item.body) entry (λ u. rows_of r) e

  -- an item that breaks its form ends the run: its leaf is malformed
  broke : (item : TreeItem) (x : Result Entry ItemFault) (fault : ItemFault) (k : Unit {0} → Rows) → x ≡ Err fault
      → after (exec B (by_form item x)).marks (exec B (by_form item x)).ending (go_on_run k) ≡ run [] (Err (fate.Malformed item.leaf))
  broke item x fault k e = subst (λ y. after (exec B (by_form item y)).marks (exec B (by_form item y)).ending (go_on_run k)
      ≡ run [] (Err (fate.Malformed item.leaf))) (sym e) refl

  -- where an item breaks its form, the run of the entries ends at it: its leaf is malformed
  row_broken : (item : TreeItem) (fault : ItemFault) (r : Items) → index_entry_of item.body ≡ Err fault → rows_of (first (Does item) r)
      ≡ run [] (Err (fate.Malformed item.leaf))
  row_broken item fault r e = broke item (index_entry_of item.body) fault (λ u. rows_of r) e

  -- the run of what an item gives is by this block map
  abbrev Exec : Unit {0} → TreeItem → Run Want fate.Fault DirEntry (Result (Unit {0}) (Unit {0})) → Type 0
  Exec st item b = b ≡ exec B (body st item)

  -- the entries in the items among some marks
  abbrev rows_from : Unit {0} → List (Mark Want TreeItem) → Result (Unit {0}) fate.Fault → Rows
  rows_from st ms e = thread_run (λ u item. exec B (body u item)) fin st ms e

  -- behind what one item gives comes the run of the entries in the others
  some_after : (ms : List (Mark Want TreeItem)) (e : Result (Unit {0}) fate.Fault)
      → ((st : Unit {0}) → ThreadsTo Exec fin st ms e (rows_from st ms e))
      → (marks : List (Mark Want DirEntry)) (x : Result (Result (Unit {0}) (Unit {0})) fate.Fault)
      → AfterTo marks x (GoOnTo (λ st. ThreadsTo Exec fin st ms e)) (after marks x (go_on_run (λ st. rows_from st ms e)))
  some_after ms e h marks (Ok (Ok st)) = (rows_from st ms e, refl, h st)
  some_after ms e h marks (Ok (Err y)) = (run [] (Ok y), refl, refl)
  some_after ms e h marks (Err f) = refl

  -- the run of the entries treats the items one after another
  some_rows : (st : Unit {0}) (ms : List (Mark Want TreeItem)) (e : Result (Unit {0}) fate.Fault) → ThreadsTo Exec fin st ms e (rows_from st ms e)
  some_rows st [] e = refl
  some_rows st (Wants w ∷ ms) e = (rows_from st ms e, refl, some_rows st ms e)
  some_rows st (Does item ∷ ms) e =
      let b = exec B (body st item) in
      (b, refl, some_after ms e (λ st'. some_rows st' ms e) b.marks b.ending)

  -- the scan came to no item: what it answers is answered of the entries
  pub rows_halt : (Is : UnreadBlock → Want → Type 0) (seen : List Want) (p : RangeProg) (h : Halt fate.Fault UnreadBlock)
      → Follows Is no_part seen (exec B p) [] (Err h) → Follows Is no_part seen (exec B (entries_in p)) [] (Err h)
  rows_halt Is seen p h f =
      let g = cursor_halts Exec fin (λ s r. (rows_from s r.marks r.ending, some_rows s r.marks r.ending)) Is no_part seen tt (exec B p) h f in
      subst (λ q. Follows Is no_part seen q [] (Err h)) (threads_exec B body fin tt p g.0 g.1) g.2

  -- where there is no item more there is no entry more
  rows_all : (st : Unit {0}) (ms : List (Mark Want TreeItem)) (e : Result (Unit {0}) fate.Fault) → [] ≡ steps_of ms → e ≡ Ok tt
      → ([] ≡ steps_of (rows_from st ms e).marks) × ((rows_from st ms e).ending ≡ Ok tt)
  rows_all tt [] e n h = (
    subst (λ x. [] ≡ steps_of (end_of {W = Want} {F = fate.Fault} {T = DirEntry} fin tt x).marks) (sym h) refl,
    subst (λ x. (end_of {W = Want} {F = fate.Fault} {T = DirEntry} fin tt x).ending ≡ Ok tt) (sym h) refl,
  )
  rows_all st (Wants w ∷ ms) e n h = rows_all st ms e n h
  rows_all st (Does item ∷ ms) e n h = cc

  -- the scan came to its end
  pub rows_end : (Is : UnreadBlock → Want → Type 0) (seen : List Want) (p : RangeProg) → Follows Is no_part seen (exec B p) [] (Ok tt)
      → Follows Is no_part seen (exec B (entries_in p)) [] (Ok tt)
  rows_end Is seen p f = subst (λ q. Follows Is no_part seen q [] (Ok tt)) (sym (exec_rows p)) (rows_all tt (exec B p).marks (exec B p).ending f.0 f.1)

  -- wants of the scan, and then an item, are wants of the directory, and then what the item gives
  rows_step : (p : RangeProg) (ws : List Want) (item : TreeItem) (r : Items) → exec B p ≡ prepend (wants ws) (first (Does item) r)
      → exec B (entries_in p) ≡ prepend (want_marks ws) (rows_of (first (Does item) r))
  rows_step p ws item r e = exec_rows p ∙ ap rows_of e ∙ rows_past ws (first (Does item) r)

  -- an item was met, and holds an entry
  row_gives : (seen : List Want) (old new : Blocks) (scan scan' : Scan) (found : Found) (name : NameBuf) (row : DirRow) (entry : Entry)
      → index_entry_of found.body.now ≡ Ok entry → named_row row name ≡ entry_of (item_of found) entry → Gives B seen old new scan scan' found
      → GivesRow B seen old new scan scan' (named_row row name)
  row_gives seen old new scan scan' found name row entry h n g =
      let behind = exec B (left_of B new scan') in
      record {
        past = g.past;
        is = rows_step (left_of B old scan) g.past (item_of found) behind g.is
            ∙ ap (prepend (want_marks g.past)) (row_given (item_of found) entry behind h
            ∙ ap (λ (x : DirEntry). first (Does x) (rows_of behind)) (sym n)
            ∙ ap (first (Does (named_row row name))) (sym (exec_rows (left_of B new scan'))));
        on = g.on;
        held = g.held;
      }

  -- an item was met that breaks its form
  row_breaks : (Is : UnreadBlock → Want → Type 0) (seen : List Want) (old new : Blocks) (scan scan' : Scan) (found : Found) (fault : ItemFault)
      (f : TreeFault) → index_entry_of found.body.now ≡ Err fault → f ≡ Malformed found.block → Gives B seen old new scan scan' found
      → EndsRows Is B seen (left_of B old scan) (Err f)
  row_breaks Is seen old new scan scan' found fault f h n g =
      let behind = exec B (left_of B new scan') in
      subst (λ (x : TreeFault). EndsRows Is B seen (left_of B old scan) (Err x)) (sym n)
      (wants_fault Is seen g.past (exec B (entries_in (left_of B old scan))) (fate.Malformed found.block)
      (rows_step (left_of B old scan) g.past (item_of found) behind g.is ∙ ap (prepend (want_marks g.past)) (row_broken (item_of found) fault behind h)))

  -- an item was met: it gives the next row, or its fault, by what it holds
  by_entry : (Is : UnreadBlock → Want → Type 0) (seen : List Want) (old new : Blocks) (scan scan' : Scan) (found : Found) (name : NameBuf)
      (r : Result Entry ItemFault) (result : Result (Option DirRow) TreeFault) → index_entry_of found.body.now ≡ r
      → IsRowBy (item_of found) name r result → Gives B seen old new scan scan' found → NextRowBy Is B seen old new scan scan' name result
  by_entry Is seen old new scan scan' found name (Ok entry) (Ok (Some row)) e h g = row_gives seen old new scan scan' found name row entry e h g
  by_entry Is seen old new scan scan' found name (Ok entry) (Ok None) e h g = absurd h
  by_entry Is seen old new scan scan' found name (Ok entry) (Err f) e h g = absurd h
  by_entry Is seen old new scan scan' found name (Err fault) (Ok row) e h g = absurd h
  by_entry Is seen old new scan scan' found name (Err fault) (Err f) e h g = row_breaks Is seen old new scan scan' found fault f e h g

  -- the scan met an item, came to its end, or to a fault
  pub next_some : (Is : UnreadBlock → Want → Type 0) (old new : Blocks) (scan scan' : Scan) (found : Found) (name : NameBuf)
      (result : Result (Option DirRow) TreeFault) → IsRow (item_of found) name result → IsNextOn Is B old new scan scan' (Ok (Some found))
      → IsNextRow Is B old new scan scan' name result
  next_some Is old new scan scan' found name result h n seen on = by_entry Is seen old new scan scan' found name (index_entry_of found.body.now)
      result refl h (n seen on)

  -- where the scan came to its end, there is no row more
  pub next_none : (Is : UnreadBlock → Want → Type 0) (old new : Blocks) (scan scan' : Scan) (name : NameBuf)
      → IsNextOn Is B old new scan scan' (Ok None) → IsNextRow Is B old new scan scan' name (Ok None)
  next_none Is old new scan scan' name n seen on = rows_end Is seen (left_of B old scan) (n seen on)

  -- a fault of the scan is one of the next row
  pub next_fault : (Is : UnreadBlock → Want → Type 0) (old new : Blocks) (scan scan' : Scan) (name : NameBuf) (f : TreeFault)
      → IsNextOn Is B old new scan scan' (Err f) → IsNextRow Is B old new scan scan' name (Err f)
  next_fault Is old new scan scan' name f n seen on = rows_halt Is seen (left_of B old scan) (halt_of f) (n seen on)

-- a row's fault has its cause, by what its item holds
by_row : (layout : Layout) (a b : Seen) (item : TreeItem) (name : NameBuf) (r : Result Entry ItemFault) (result : Result (Option DirRow) TreeFault)
    → IsRowBy item name r result → HasCause layout a b result
by_row layout a b item name (Ok entry) (Ok row) h = tt
by_row layout a b item name (Ok entry) (Err f) h = absurd h
by_row layout a b item name (Err fault) (Ok row) h = absurd h
by_row layout a b item name (Err fault) (Err f) h = subst (λ (x : TreeFault). HasCause {A = Option DirRow} layout a b (Err x)) (sym h) tt

-- an entry that breaks its form needs no other cause
pub row_cause : (layout : Layout) (a b : Seen) (item : TreeItem) (name : NameBuf) (result : Result (Option DirRow) TreeFault) → IsRow item name result
    → HasCause layout a b result
row_cause layout a b item name result h = by_row layout a b item name (index_entry_of item.body) result h

-- where a scan came nearer to its end, it did so with its row
pub row_rank_falls : (scan scan' : Scan) (result : Result (Option DirRow) TreeFault) → rank_of scan' < rank_of scan → RowRankFalls scan scan' result
row_rank_falls scan scan' (Ok (Some row)) h = h
row_rank_falls scan scan' (Ok None) h = tt
row_rank_falls scan scan' (Err f) h = tt

-- a name has at most 255 bytes
of_index : (size : ℕ) (b : Bool) (x entry : Entry) → Ok entry ≡ fields_if b x → x ≡ entry
of_index size true x entry h = cc
of_index size false x entry h = cc

-- an entry of a DIR_INDEX is the one that stands at its start
index_is : (size : ℕ) (r : Result Entry ItemFault) (entry : Entry) → Ok entry ≡ index_entry size r → r ≡ Ok entry
index_is size (Ok x) entry h = ap Ok (of_index size (is_index x size) x entry h)
index_is size (Err fault) entry h = cc

-- an entry that came of a test is the one that was tested, and the test held
of_fields : (b : Bool) (x entry : Entry) → fields_if b x ≡ Ok entry → (b ≡ true) × (x ≡ entry)
of_fields true x entry h = (refl, cc)
of_fields false x entry h = let z : ⊥ = cc in absurd z

-- where three things hold, the second does
middle : (a b c : Bool) → (a && b && c) ≡ true → b ≡ true
middle true true c h = refl
middle true false c h = h
middle false b c h = let z : ⊥ = cc in absurd z

-- where two things hold, the second does
second : (a b : Bool) → (a && b) ≡ true → b ≡ true
second true b h = h
second false b h = let z : ⊥ = cc in absurd z

at_most : (n : ℕ) → nat_le n 255 ≡ true → n ≤ 255
at_most n h = grind (arith, nat_tests)

-- a name of an entry in a DIR_INDEX has at most 255 bytes
pub name_fits : (body : List ℕ) (entry : Entry) (xs : List ℕ) → Ok entry ≡ index_entry_of body → HasName body entry.name_at entry.name_len → xs
    ≡ bytes_at entry.name_len entry.name_at body → length xs ≤ 255
name_fits body entry xs e h n =
    let n0 = number_at 2 27 body in
    let a = nat_le 30 (length body) in
    let c = nat_le (30 + n0 + number_at 2 25 body) (length body) in
    let f = of_fields (a && is_name n0 && c) _ entry (index_is (length body) (entry_at 0 body) entry e) in
    let short : n0 ≤ 255 = at_most n0 (second (nat_le 1 n0) (nat_le n0 255) (middle a (is_name n0) c f.0)) in
    let same : n0 ≡ entry.name_len = ap (λ (x : Entry). x.name_len) f.1 in
    omega (arith, h, short, same, ap length n, length-slice_range body entry.name_at (entry.name_at + entry.name_len) h)

-- a directory's scan, which has no leaf in hand
abbrev pub scan_of : Rest → Scan
scan_of rest = record { lo = rest.lo; hi = rest.hi; place = rest.place; leaf = None }

-- what is still to come of a directory is what its scan has still to give
pub rest_is : (B : Map) (store : Blocks) (rest : Rest) → rest_left B rest ≡ left_of B store (scan_of rest)
rest_is B store rest = kept_none B store rest.place.leaf (place_prog rest.lo rest.hi B rest.place.rest)

-- a rack and a store can go on with a directory's scan
pub ready_is : (rack : Seen) (store : Blocks) (scan : Scan) (rest : Rest) → scan ≡ scan_of rest → Serves rack store → IsShaped rest.place.rest
    → IsScanReady rack store scan
ready_is rack store scan rest e serves shaped = subst (IsScanReady rack store) (sym e) (record { serves = serves; hand = tt; shaped = shaped; alone = tt })

-- a directory's scan keeps no loan
pub free_is : (store : Blocks) (scan : Scan) (rest : Rest) → scan ≡ scan_of rest → without_leaf store scan ≡ store
free_is store scan rest e = ap (without_leaf store) e

-- where a scan starts without a loan and gives its own back, the loans are as before it
pub same_through : (a b c : Blocks) (scan scan' : Scan) (rest : Rest) → scan ≡ scan_of rest → SameLoans (without_leaf a scan) (without_leaf b scan')
    → SameLoans (without_leaf b scan') c → SameLoans a c
same_through a b c scan scan' rest e one two =
    let first' : SameLoans a (without_leaf b scan') = subst (λ x. SameLoans x (without_leaf b scan')) (free_is a scan rest e) one in
    record { layout = two.layout ∙ first'.layout; loans = two.loans ∙ first'.loans }

-- what is still to come of a directory is what is of its scan
pub dir_some : (B : Map) (Is : UnreadBlock → Want → Type 0) (old new : Blocks) (dir : Dir) (scan scan' : Scan) (rest : Rest) (name : NameBuf) (row : DirRow)
    → scan ≡ scan_of dir.rest → scan'.lo ≡ scan.lo → scan'.hi ≡ scan.hi → Rests new scan' rest → IsNextRow Is B old new scan scan' name (Ok (Some row))
    → IsNextEntry Is B dir (record { rest = rest }) name (Ok (Some row))
dir_some B Is old new dir scan scan' rest name row e lo hi r h seen on =
    let g : GivesRow B seen old new (scan_of dir.rest) scan' (named_row row name) =
    (subst (λ (s : Scan). IsNextRow Is B old new s scan' name (Ok (Some row))) e h) seen on in
    let lo' : scan'.lo ≡ dir.rest.lo = lo ∙ ap (λ (s : Scan). s.lo) e in
    let hi' : scan'.hi ≡ dir.rest.hi = hi ∙ ap (λ (s : Scan). s.hi) e in
    let on' : IsOn scan'.lo scan'.hi B (seen ++ g.past) scan'.place = subst (λ (k : Key). IsOn k scan'.hi B (seen ++ g.past) scan'.place) (sym lo')
    (subst (λ (k : Key). IsOn dir.rest.lo k B (seen ++ g.past) scan'.place) (sym hi') g.on) in
    record {
      past = g.past;
      is = ap (λ p. exec B (entries_in p)) (rest_is B old dir.rest) ∙ g.is
          ∙ ap (λ p. prepend (want_marks g.past) (first (Does (named_row row name)) (exec B (entries_in p)))) (sym (r.program B (seen ++ g.past) (g.held tt)));
      on = r.on B (seen ++ g.past) (g.held tt) on';
    }

-- where the scan has no row more, the directory has no entry more
pub dir_ends : (B : Map) (Is : UnreadBlock → Want → Type 0) (old new : Blocks) (dir : Dir) (scan scan' : Scan) (name : NameBuf) → scan
    ≡ scan_of dir.rest → IsNextRow Is B old new scan scan' name (Ok None) → IsNextEntry Is B dir dir name (Ok None)
dir_ends B Is old new dir scan scan' name e h seen on =
    subst (λ p. EndsRows Is B seen p (Ok None)) (sym (rest_is B old dir.rest))
    ((subst (λ (s : Scan). IsNextRow Is B old new s scan' name (Ok None)) e h) seen on)

-- a fault of the scan is one of the directory, which stays where it was
pub dir_fault : (B : Map) (Is : UnreadBlock → Want → Type 0) (old new : Blocks) (dir : Dir) (scan scan' : Scan) (name : NameBuf) (f : TreeFault)
    → scan ≡ scan_of dir.rest → IsNextRow Is B old new scan scan' name (Err f) → IsNextEntry Is B dir dir name (Err f)
dir_fault B Is old new dir scan scan' name f e h seen on =
    subst (λ p. EndsRows Is B seen p (Err f)) (sym (rest_is B old dir.rest)) ((subst (λ (s : Scan). IsNextRow Is B old new s scan' name (Err f)) e h) seen on)

-- where its scan came nearer to its end, so did the directory
pub dir_rank_falls : (dir : Dir) (scan scan' : Scan) (store : Blocks) (rest : Rest) → scan ≡ scan_of dir.rest → Rests store scan' rest
    → rank_of scan' < rank_of scan → rank_left rest < rank_left dir.rest
dir_rank_falls dir scan scan' store rest e r h = let f = ap rank_of e in omega (arith, h, r.rank, f)

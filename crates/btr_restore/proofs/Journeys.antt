-- Restore only shows the bytes of sectors without a checksum.
use Rattle.std.proofs.Common.{ℕ, zero, suc, Bool, true, false, not, ◌||◌, List, [], Option, Some, None, Result, Ok, Err, refl, ap}
use Rattle.std.specs.Prelude.{codes}
use Rattle.btr_items.specs.declared.inode.Inode.{Inode}
use Rattle.btr_prog.specs.Prog.{Return, Emit, bind}
use Rattle.btr_prog.specs.Shows.{AreAlike}
use Rattle.btr_prog.proofs.Showing.{shows_blind, shows_bind, shows_thread, shows_quiet, shows_staged}
use Rattle.btr_prog.specs.Blind.{IsBlind}
use Rattle.btr_prog.specs.Quiet.{quiet}
use Rattle.btr_super.specs.declared.superblock.Super.{Super}
use Rattle.btr_volume.specs.declared.root.TreeRoot.{TreeRoot}
use Rattle.btr_volume.specs.Lookup.{Program}
use Rattle.btr_volume.specs.declared.fault.OpenFault.{OpenFault}
use Rattle.btr_volume.specs.Maps.{VolumeWant}
use Rattle.btr_volume.specs.Start.{Start}
use Rattle.btr_volume.specs.Table.{refusal_of, table_scan}
use Rattle.btr_volume.specs.Tree.{tree_of}
use Rattle.btr_files.specs.declared.counts.Counts.{Counts}
use Rattle.btr_files.specs.declared.plan.RestorePlan.{RestorePlan}
use Rattle.btr_read.specs.Fate.{is_plain}
use Rattle.btr_files.specs.Content.{Piece, Bytes, Gap, content}
use Rattle.btr_files.specs.Entries.{entries}
use Rattle.btr_files.specs.Sums.{kind_in}
use Rattle.btr_listing.specs.declared.decision.Decision.{Decision}
use Rattle.btr_listing.specs.declared.decision.Decision.TheVariants.{Skip, Empty, Folder}
use Rattle.btr_listing.specs.declared.decision.Decision.TheVariants as decision
use Rattle.btr_listing.specs.Deciding.{Met, decided, met_in, target}
use Rattle.btr_listing.specs.Lines.{path_in, line, no_counts, with_dir, with_file, counts_line}
use Rattle.btr_listing.specs.Step.{Step, Dir, Up, File, Done, Line}
use Rattle.btr_listing.specs.Step as step
use Rattle.btr_listing.proofs.Decidings.{decided_shows}
use Rattle.btr_files.proofs.Plains.{always, same, Shows, if_shows, looks_shows, each_shows, scan_shows, tree_shows, entries_show, alike_pieces, content_shows}
use Rattle.btr_restore.specs.Committed.{want_of}
use Rattle.btr_restore.specs.Journey.{Listing, Treated, Over, Within, has_no_sums, row, told, put, pieces, unverified, closed, written, entered, empty}
use Rattle.btr_restore.specs.Journey.{done_about, rules_of, treated, listed_in, treat, listed, directory, restored, sums_lookup, from_root, listing, journey}
use Rattle.btr_restore.specs.Journey.{most_depth}

-- each step is alike to itself
abbrev any : (s : Step) → always s s
any s = tt

-- a program of restore
abbrev Restores : {A : Type 0} → Program Step A → Type 0
Restores p = Shows always p

-- what is kept behind a piece, with which the next is put
abbrev kept : Bool → Program Step (Result Bool Bool)
kept b = Return (Ok b)

module _ (plan : RestorePlan) (s : Super) (sums : Option TreeRoot) where
  -- with a call of the sink before it, a program still only shows the bytes of sectors without a checksum
  row_shows : {A : Type 0} (step : Step) (rest : Program Step A) → Restores rest → Restores (row plan step rest)
  row_shows step rest h = if_shows always plan.dry rest (Emit step rest) h h

  -- with a line before it for what was entered or finished, a program still only shows those bytes
  told_shows : {A : Type 0} (word path : List ℕ) (rest : Program Step A) → Restores rest → Restores (told plan word path rest)
  told_shows word path rest h = if_shows always (plan.verbose || plan.dry) (Emit (Line (line word path)) rest) rest h h

  -- with the line of an unverified file before it, a program still only shows those bytes
  unverified_shows : {A : Type 0} (plain : Bool) (path : List ℕ) (rest : Program Step A) → Restores rest → Restores (unverified plain path rest)
  unverified_shows plain path rest h = if_shows always plain (Emit (Line (line (codes "unverified") path)) rest) rest h h

  -- what is done with a piece hangs on no block at all
  put_shows : (plain : Bool) (p : Piece) → Restores (put plain p)
  put_shows plain (Bytes bytes summed) = tt
  put_shows plain (Gap n) = tt

  -- two pieces that differ at most in their bytes are put alike
  put_alike : (plain : Bool) (p q : Piece) → alike_pieces p q → AreAlike always (bind (put plain p) kept) (bind (put plain q) kept)
  put_alike plain (Bytes bytes summed) (Bytes others summed') e = (tt, ap (λ x. Ok (plain || not x)) e)
  put_alike plain (Gap n) (Gap m) e = (tt, refl)
  put_alike plain p q e = absurd e

  -- the pieces of a file only show the bytes of sectors without a checksum
  pieces_show : (tree : TreeRoot) (ino : ℕ) (inode : Inode) → Restores (pieces plan s sums tree ino inode)
  pieces_show tree ino inode =
      if_shows always plan.dry (Return false) _ tt
      (shows_thread alike_pieces always any (λ st p. bind (put st p) kept) (λ st u. st) is_plain
      (λ st p. shows_bind always any is_plain (put st p) kept (put_shows st p) (λ b. tt)) put_alike false
      (content (kind_in s) sums (has_no_sums inode) inode.size tree ino) (content_shows (kind_in s) sums (has_no_sums inode) inode.size tree ino))

  -- what is done at the end of a file hangs on no block at all
  closed_shows : (path : List ℕ) (counts : Counts) (plain : Bool) → Restores (closed plan path counts plain)
  closed_shows path counts plain =
      let last : Program Step Treated = unverified plain path (Return (Over (with_file counts))) in
      row_shows Done (told plan (codes "file") path last) (told_shows (codes "file") path last
      (unverified_shows plain path (Return (Over (with_file counts))) tt))

  -- a file that is written only shows the bytes of sectors without a checksum
  written_shows : (tree : TreeRoot) (ino : ℕ) (name path : List ℕ) (inode : Inode) (counts : Counts)
      → Restores (written plan s sums tree ino name path inode counts)
  written_shows tree ino name path inode counts =
      row_shows (File name) (bind (pieces plan s sums tree ino inode) (closed plan path counts))
      (shows_bind always any is_plain (pieces plan s sums tree ino inode) (closed plan path counts) (pieces_show tree ino inode) (closed_shows path counts))

  -- what is done where a directory is entered hangs on no block at all
  entered_shows : (name path : List ℕ) (tree : TreeRoot) (dirid : ℕ) (counts : Counts) → Restores (entered plan name path tree dirid counts)
  entered_shows name path tree dirid counts =
      let last : Program Step Treated = Return (Within tree dirid (with_dir counts)) in
      row_shows (Dir name) (told plan (codes "dir") path last) (told_shows (codes "dir") path last tt)

  -- what is done where a directory stays empty hangs on no block at all
  empty_shows : (name path : List ℕ) (counts : Counts) → Restores (empty plan name path counts)
  empty_shows name path counts =
      let last : Program Step Treated = Return (Over (with_dir counts)) in
      row_shows (Dir name) (told plan (codes "dir") path (row plan Up last)) (told_shows (codes "dir") path (row plan Up last) (row_shows Up last tt))

  -- what is done about an entry only shows the bytes of sectors without a checksum
  done_shows : (met : Met) (counts : Counts) (found : Decision) → Restores (done_about plan s sums met counts found)
  done_shows met counts (Skip cause) = tt
  done_shows met counts (decision.File inode) = written_shows met.tree (target met) met.entry.name met.path inode counts
  done_shows met counts Empty = empty_shows met.entry.name met.path counts
  done_shows met counts (Folder inner dirid) = entered_shows met.entry.name met.path inner dirid counts

  -- an entry that is looked up and treated only shows the bytes of sectors without a checksum
  treated_shows : (met : Met) (counts : Counts) → Restores (treated plan s sums met counts)
  treated_shows met counts =
      looks_shows always any (decided (rules_of plan) s met) (done_about plan s sums met counts) (decided_shows (rules_of plan) s met) (done_shows met counts)

  -- wherever a listing begins, it only shows the bytes of sectors without a checksum
  abbrev Lists : Listing → Type 0
  Lists below = (tree : TreeRoot) (dirid : ℕ) (path : List ℕ) (counts : Counts) → Restores (below tree dirid path counts)

  -- what is listed in an entry only shows those bytes, if the listing below does
  inside_shows : (below : Listing) → Lists below → (path : List ℕ) (t : Treated) → Restores (listed_in plan s sums below path t)
  inside_shows below h path (Over counts) = tt
  inside_shows below h path (Within tree dirid counts) =
      let up : Counts → Program Step Counts = λ after. row plan Up (Return after) in
      shows_bind always any is_plain (below tree dirid path counts) up (h tree dirid path counts) (λ after. row_shows Up (Return after) tt)

  -- the listing of a directory only shows those bytes, if the listing below does
  listed_shows : (deep : Bool) (below : Listing) → Lists below → Lists (listed plan s sums deep below)
  listed_shows deep below h tree dirid path counts =
      each_shows always any (treat plan s sums deep below tree dirid path) counts (entries tree dirid)
      (λ c entry. shows_bind always any is_plain (treated plan s sums (met_in deep tree dirid path entry) c)
      (listed_in plan s sums below (path_in path entry.name)) (treated_shows (met_in deep tree dirid path entry) c)
      (inside_shows below h (path_in path entry.name)))
      (entries_show tree dirid)

  -- however many directories may be entered below, the listing of a directory only shows those bytes
  tops_show : (n : ℕ) → Lists (directory plan s sums n)
  tops_show zero = listed_shows true (λ tree dirid path counts. Return counts) (λ tree dirid path counts. tt)
  tops_show (suc n) = listed_shows false (directory plan s sums n) (tops_show n)

module _ (plan : RestorePlan) (dest : List ℕ) (s : Super) where
  -- the listing of a tree into the destination only shows the bytes of sectors without a checksum
  restored_shows : (tree : TreeRoot) (sums : Option TreeRoot) → Restores (restored plan dest s tree sums)
  restored_shows tree sums =
      let inside = directory plan s sums most_depth tree tree.dirid [] no_counts in
      row_shows plan s sums (step.Start dest) _
      (shows_bind always any is_plain inside (λ counts. Emit (Line (counts_line counts)) (Return counts))
      (tops_show plan s sums most_depth tree tree.dirid [] no_counts) (λ counts. tt))

  -- the lookup of the checksum tree hangs on no byte of a sector without a checksum
  sums_show : Shows same (sums_lookup plan s)
  sums_show = if_shows same plan.dry (Return None) (tree_of s 7) tt (tree_shows s 7)

  -- the restore of the tree that was found, or the stop that there is none, only shows those bytes
  root_shows : (o : Option TreeRoot) → Restores (from_root plan dest s o)
  root_shows None = tt
  root_shows (Some tree) = looks_shows always any (sums_lookup plan s) (restored plan dest s tree) sums_show (restored_shows tree)

  -- restore over an opened volume only shows the bytes of sectors without a checksum
  pub listing_shows : Restores (listing plan dest s)
  listing_shows = looks_shows always any (tree_of s plan.root) (from_root plan dest s) (tree_shows s plan.root) root_shows

-- the journey is blind to sectors without a checksum
pub journey_blind : (plan : RestorePlan) (dest : List ℕ) (start : Start) → IsBlind (λ (want : VolumeWant). is_plain (want_of want)) (journey plan dest start)
journey_blind plan dest start =
    let plain : VolumeWant → Bool = λ want. is_plain (want_of want) in
    let inside = listing plan dest start.sup in
    let last : Counts → Program Step (Result Counts OpenFault) = λ counts. Return (Ok counts) in
    shows_blind always plain (journey plan dest start)
    (shows_staged always any plain (λ fault. Err (refusal_of fault)) (quiet (table_scan start)) (λ table. bind inside last)
    (shows_quiet same always is_plain (table_scan start) (scan_shows start))
    (λ table. shows_bind always any is_plain inside last (listing_shows plan dest start.sup) (λ counts. tt)))

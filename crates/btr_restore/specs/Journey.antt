-- The whole listing of restore, as one program over wants.
use Rattle.std.specs.Prelude.{ℕ, zero, suc, Bool, true, false, not, ◌||◌, ◌==◌, if◌then◌else◌, List, [], codes, bit_and, Option, Some, None, Result, Ok, Err}
use Rattle.btr_chunk.specs.declared.chunk.Chunk.{Chunk}
use Rattle.btr_items.specs.declared.inode.Inode.{Inode}
use Rattle.btr_prog.specs.Prog.{Prog, Return, Stop, Emit, bind}
use Rattle.btr_prog.specs.Quiet.{quiet}
use Rattle.btr_prog.specs.Stages.{staged}
use Rattle.btr_read.specs.Fate.{Fault, NoTree}
use Rattle.btr_super.specs.declared.superblock.Super.{Super}
use Rattle.btr_volume.specs.declared.fault.OpenFault.{OpenFault}
use Rattle.btr_volume.specs.declared.root.TreeRoot.{TreeRoot}
use Rattle.btr_volume.specs.Lookup.{Program, Lookup, looks, each}
use Rattle.btr_volume.specs.Maps.{VolumeWant}
use Rattle.btr_volume.specs.Start.{Start}
use Rattle.btr_volume.specs.Table.{refusal_of, table_scan}
use Rattle.btr_volume.specs.Tree.{tree_of}
use Rattle.btr_files.specs.declared.counts.Counts.{Counts}
use Rattle.btr_files.specs.declared.plan.RestorePlan.{RestorePlan}
use Rattle.btr_files.specs.Content.{Piece, Gap, content}
use Rattle.btr_files.specs.Content as piece
use Rattle.btr_files.specs.Entries.{DirEntry, entries}
use Rattle.btr_files.specs.Sums.{kind_in}
use Rattle.btr_listing.specs.declared.decision.Decision.{Decision}
use Rattle.btr_listing.specs.declared.decision.Decision.TheVariants.{Skip, Empty, Folder}
use Rattle.btr_listing.specs.declared.decision.Decision.TheVariants as decision
use Rattle.btr_listing.specs.declared.rules.Rules.{Rules}
use Rattle.btr_listing.specs.Causes.{cause_text}
use Rattle.btr_listing.specs.Deciding.{Met, decided, met_in, target}
use Rattle.btr_listing.specs.Lines.{line, skip_line, no_counts, with_dir, with_file, with_skip, counts_line}
use Rattle.btr_listing.specs.Step.{Step, Dir, Up, File, Bytes, Zeros, Done, Line}
use Rattle.btr_listing.specs.Step as step

-- the listing of a directory of a tree, by its path and the counts before it
abbrev pub Listing : Type 0
Listing = TreeRoot → ℕ → List ℕ → Counts → Program Step Counts

-- what an entry came to: it was treated wholly, or a directory of a tree was entered, in which is to be listed
pub data Treated : Type 0 where
  Over : Counts → Treated
  Within : TreeRoot → ℕ → Counts → Treated

-- directories this deep are entered, and none below them
abbrev pub most_depth : ℕ
most_depth = 512

-- an inode whose sectors have no checksums
abbrev pub has_no_sums : Inode → Bool
has_no_sums inode = not (bit_and inode.flags 1 == 0)

-- an entry that is left out and named
abbrev pub skip : List ℕ → List ℕ → Counts → Program Step Treated
skip cause path counts = Emit (Line (skip_line cause path)) (Return (Over (with_skip counts)))

-- a line for a file of which some sector was read without a checksum, and then the rest
abbrev pub unverified : {A : Type 0} → Bool → List ℕ → Program Step A → Program Step A
unverified plain path rest = if plain then Emit (Line (line (codes "unverified") path)) rest else rest

-- a piece of a file, and whether some piece so far was read without a checksum
abbrev pub put : Bool → Piece → Program Step Bool
put plain (piece.Bytes bytes summed) = Emit (Bytes bytes) (Return (plain || not summed))
put plain (Gap count) = Emit (Zeros count) (Return plain)

-- restore enters all subvolumes, and snapshots where they are asked for; a path may be as long as it is
abbrev pub rules_of : RestorePlan → Rules
rules_of plan = record { snapshots = plan.snapshots; subvolumes = true; longest = None }

module _ (plan : RestorePlan) where
  -- a call of the sink, which a dry run leaves out, and then the rest
  abbrev pub row : {A : Type 0} → Step → Program Step A → Program Step A
  row step rest = if plan.dry then rest else Emit step rest

  -- a line for what was entered or finished, if such lines are asked for, and then the rest
  abbrev pub told : {A : Type 0} → List ℕ → List ℕ → Program Step A → Program Step A
  told word path rest = if plan.verbose || plan.dry then Emit (Line (line word path)) rest else rest

  -- a file that is finished, and named
  abbrev pub closed : List ℕ → Counts → Bool → Program Step Treated
  closed path counts plain = row Done (told (codes "file") path (unverified plain path (Return (Over (with_file counts)))))

  -- a directory that is entered
  abbrev pub entered : List ℕ → List ℕ → TreeRoot → ℕ → Counts → Program Step Treated
  entered name path tree dirid counts = row (Dir name) (told (codes "dir") path (Return (Within tree dirid (with_dir counts))))

  -- a directory that is entered and left again
  abbrev pub empty : List ℕ → List ℕ → Counts → Program Step Treated
  empty name path counts = row (Dir name) (told (codes "dir") path (row Up (Return (Over (with_dir counts)))))

module _ (plan : RestorePlan) (s : Super) (sums : Option TreeRoot) where
  -- the pieces of a file, of which a dry run reads none
  abbrev pub pieces : TreeRoot → ℕ → Inode → Program Step Bool
  pieces tree ino inode =
      if plan.dry then Return false else each put false (content (kind_in s) sums (has_no_sums inode) inode.size tree ino)

  -- a file that is written
  abbrev pub written : TreeRoot → ℕ → List ℕ → List ℕ → Inode → Counts → Program Step Treated
  written tree ino name path inode counts = row plan (File name) (bind (pieces tree ino inode) (closed plan path counts))

  -- what is done about an entry, by what it comes to
  abbrev pub done_about : Met → Counts → Decision → Program Step Treated
  done_about met counts (Skip cause) = skip (cause_text cause) met.path counts
  done_about met counts (decision.File inode) = written met.tree (target met) met.entry.name met.path inode counts
  done_about met counts Empty = empty plan met.entry.name met.path counts
  done_about met counts (Folder inner dirid) = entered plan met.entry.name met.path inner dirid counts

  -- an entry: what it comes to, and what is done about it
  abbrev pub treated : Met → Counts → Program Step Treated
  treated met counts = looks (decided (rules_of plan) s met) (done_about met counts)

  -- what is listed in a directory that was entered, and the way up
  abbrev pub listed_in : Listing → List ℕ → Treated → Program Step Counts
  listed_in below path (Over counts) = Return counts
  listed_in below path (Within tree dirid counts) = bind (below tree dirid path counts) (λ after. row plan Up (Return after))

  -- an entry, and what is in it
  abbrev pub treat : Bool → Listing → TreeRoot → ℕ → List ℕ → Counts → DirEntry → Program Step Counts
  treat deep below tree dirid path counts entry =
      let met = met_in deep tree dirid path entry in
      bind (treated met counts) (listed_in below met.path)

  -- each entry of a directory is treated wholly before the next is sought
  abbrev pub listed : Bool → Listing → Listing
  listed deep below tree dirid path counts = each (treat deep below tree dirid path) counts (entries tree dirid)

  -- a directory, below which so many more may be entered
  abbrev pub directory : ℕ → Listing
  directory zero = listed true (λ tree dirid path counts. Return counts)
  directory (suc n) = listed false (directory n)

-- the checksum tree; a dry run reads no bytes of files
abbrev pub sums_lookup : RestorePlan → Super → Lookup (Option TreeRoot)
sums_lookup plan s = if plan.dry then Return None else tree_of s 7

module _ (plan : RestorePlan) (dest : List ℕ) (s : Super) where
  -- the top directory of a tree, the checksums being those of another
  abbrev pub restored : TreeRoot → Option TreeRoot → Program Step Counts
  restored tree sums =
      row plan (step.Start dest)
      (bind (directory plan s sums most_depth tree tree.dirid [] no_counts) (λ counts. Emit (Line (counts_line counts)) (Return counts)))

  -- the restore of the tree that a lookup found, or the stop that there is none
  abbrev pub from_root : Option TreeRoot → Program Step Counts
  from_root None = Stop (NoTree plan.root)
  from_root (Some tree) = looks (sums_lookup plan s) (restored tree)

  -- restore over an opened volume: the start tree, the checksum tree, and the listing into the destination
  abbrev pub listing : Program Step Counts
  listing = looks (tree_of s plan.root) from_root

-- restore: the table of chunks, or a refusal; and then the listing
abbrev pub journey : RestorePlan → List ℕ → Start → Prog VolumeWant Fault Step (Result Counts OpenFault)
journey plan dest start =
    staged (λ fault. Err (refusal_of fault)) (quiet (table_scan start))
    (λ (table : List Chunk). bind (listing plan dest start.sup) (λ counts. Return (Ok counts)))

-- Restore that goes on behind blocks that can't be had, as one program that tries its wants.
use Rattle.std.specs.Prelude.{ℕ, zero, suc, Bool, true, false, List, [], codes, Option, Some, None, Result, Ok, Err}
use Rattle.btr_items.specs.declared.inode.Inode.{Inode}
use Rattle.btr_prog.specs.Prog.{Return, Emit, Run}
use Rattle.btr_prog.specs.Quiet.{quiet}
use Rattle.btr_prog.specs.Trying.{Trying, Done, try_then, attempt}
use Rattle.btr_read.specs.Fate.{Fault, NoTree}
use Rattle.btr_read.specs.declared.want.Want.{Want}
use Rattle.btr_super.specs.declared.superblock.Super.{Super}
use Rattle.btr_walk.specs.Reading.{Map}
use Rattle.btr_volume.specs.Lookup.{Program, Lookup}
use Rattle.btr_volume.specs.Tree.{tree_of}
use Rattle.btr_volume.specs.declared.root.TreeRoot.{TreeRoot}
use Rattle.btr_files.specs.declared.plan.RestorePlan.{RestorePlan}
use Rattle.btr_files.specs.Content.{content}
use Rattle.btr_files.specs.Entries.{DirEntry}
use Rattle.btr_files.specs.Sums.{kind_in}
use Rattle.btr_listing.specs.declared.decision.Decision.{Decision}
use Rattle.btr_listing.specs.declared.decision.Decision.TheVariants.{Skip, File, Empty, Folder}
use Rattle.btr_listing.specs.Deciding.{Met, decided, met_in, target}
use Rattle.btr_listing.specs.Step.{Step, Start, Up, Line}
use Rattle.btr_restore.specs.Journey.{done_about, has_no_sums, most_depth, row, rules_of}
use Rattle.btr_restore.specs.Journey as journey
use Rattle.btr_salvage.specs.declared.salvaged.Salvaged.{Salvaged}
use Rattle.btr_prog.specs.Attempts.{tried_run, value_then, ending_of, treat_each}
use Rattle.btr_salvage.specs.Marks.{InFolder, Passing, Entry, Part, folder_tour, mark_in}
use Rattle.btr_salvage.specs.Lines.{folder_path, missing_line, nothing_yet, salvaged, salvaged_line, with_broken}

-- a program that tries its wants, and comes to a value or to the fault that ends the run
abbrev pub Attempt : Type 0 → Type 0
Attempt A = Trying Want Fault Step (Result A Fault)

-- the listing of a directory of a tree, by its path and what was salvaged before it
abbrev pub SalvageListing : Type 0
SalvageListing = TreeRoot → ℕ → List ℕ → Salvaged → Attempt Salvaged

-- what an entry came to: it was treated wholly, or a directory of a tree was entered, in which is to be listed
pub data Treated : Type 0 where
  Over : Salvaged → Treated
  Within : TreeRoot → ℕ → Salvaged → Treated

-- the same of restore, where so much was missing
abbrev pub beside : ℕ → journey.Treated → Treated
beside broken (journey.Over counts) = Over (salvaged counts broken)
beside broken (journey.Within tree dirid counts) = Within tree dirid (salvaged counts broken)

-- a lookup whose fault is handed on
abbrev pub tries : {A : Type 0} → Lookup A → Attempt A
tries p = attempt (quiet p)

-- an entry that can't be had is left out and named
abbrev pub broken : Fault → List ℕ → Salvaged → Program Step Treated
broken fault path so_far = Emit (Line (missing_line (codes "broken") fault path)) (Return (Over (with_broken so_far)))

-- a part of a directory that can't be had is named by the directory
abbrev pub part_missing : Fault → List ℕ → Salvaged → Program Step Salvaged
part_missing fault path so_far = Emit (Line (missing_line (codes "part") fault (folder_path path))) (Return (with_broken so_far))

-- how much was salvaged
abbrev pub summed_up : Salvaged → Program Step Salvaged
summed_up so_far = Emit (Line (salvaged_line so_far)) (Return so_far)

module _ (plan : RestorePlan) (s : Super) (sums : Option TreeRoot) where
  -- what restore does about an entry, by what it comes to
  abbrev pub carried_out : Met → Salvaged → Decision → Attempt Treated
  carried_out met so_far decision =
      value_then (attempt (done_about plan s sums met so_far.counts decision)) (λ treated. Done (Ok (beside so_far.broken treated)))

  -- a file, by how the reading of its bytes ended: it is begun only where they can all be had
  abbrev pub by_reading : Met → Salvaged → Inode → Result (Unit {0}) Fault → Attempt Treated
  by_reading met so_far inode (Err fault) = attempt (broken fault met.path so_far)
  by_reading met so_far inode (Ok u) = carried_out met so_far (File inode)

  -- the bytes of a file are read, and none is put
  abbrev pub reading : TreeRoot → ℕ → Inode → Attempt (Unit {0})
  reading tree ino inode = ending_of (content (kind_in s) sums (has_no_sums inode) inode.size tree ino)

  -- the bytes of a file are read twice: the first time none is put
  abbrev pub file : Met → Salvaged → Inode → Attempt Treated
  file met so_far inode = try_then (reading met.tree (target met) inode) (by_reading met so_far inode)

  -- an entry, by what it comes to
  abbrev pub on_decision : Met → Salvaged → Decision → Attempt Treated
  on_decision met so_far (Skip cause) = carried_out met so_far (Skip cause)
  on_decision met so_far (File inode) = file met so_far inode
  on_decision met so_far Empty = carried_out met so_far Empty
  on_decision met so_far (Folder tree dirid) = carried_out met so_far (Folder tree dirid)

  -- an entry, by how the lookups that decide ended
  abbrev pub by_lookup : Met → Salvaged → Result Decision Fault → Attempt Treated
  by_lookup met so_far (Err fault) = attempt (broken fault met.path so_far)
  by_lookup met so_far (Ok decision) = on_decision met so_far decision

  -- an entry, from the lookups that decide about it on
  abbrev pub treated : Met → Salvaged → Attempt Treated
  treated met so_far = try_then (tries (decided (rules_of plan) s met)) (by_lookup met so_far)

  -- what is in a directory that was entered, and the way up
  abbrev pub listed_in : SalvageListing → List ℕ → Treated → Attempt Salvaged
  listed_in below path (Over so_far) = Done (Ok so_far)
  listed_in below path (Within tree dirid so_far) =
      value_then (below tree dirid path so_far) (λ after. attempt (row plan Up (Return after)))

  -- an entry, and what is in it
  abbrev pub treat : Bool → SalvageListing → TreeRoot → ℕ → List ℕ → Salvaged → DirEntry → Attempt Salvaged
  treat deep below tree dirid path so_far entry =
      let met = met_in deep tree dirid path entry in
      value_then (treated met so_far) (listed_in below met.path)

  -- what is met in a directory
  abbrev pub meet : Bool → SalvageListing → TreeRoot → ℕ → List ℕ → Salvaged → InFolder → Attempt Salvaged
  meet deep below tree dirid path so_far Passing = Done (Ok so_far)
  meet deep below tree dirid path so_far (Entry entry) = treat deep below tree dirid path so_far entry
  meet deep below tree dirid path so_far (Part fault) = attempt (part_missing fault path so_far)

  -- each mark of its tour is treated wholly before the next block is sought, also behind one that can't be had
  abbrev pub listed : Bool → SalvageListing → SalvageListing
  listed deep below tree dirid path so_far =
      treat_each (λ before mark. meet deep below tree dirid path before (mark_in mark)) so_far (folder_tour tree dirid)

  -- a directory, below which so many more may be entered
  abbrev pub directory : ℕ → SalvageListing
  directory zero = listed true (λ tree dirid path so_far. Done (Ok so_far))
  directory (suc n) = listed false (directory n)

module _ (plan : RestorePlan) (dest : List ℕ) (s : Super) where
  -- the destination is begun
  abbrev pub begun : Program Step (Unit {0})
  begun = row plan (Start dest) (Return tt)

  -- the top directory of a tree, the checksums being those of another
  abbrev pub from_tree : TreeRoot → Option TreeRoot → Attempt Salvaged
  from_tree tree sums =
      value_then (attempt begun) (λ u.
      value_then (directory plan s sums most_depth tree tree.dirid [] nothing_yet) (λ so_far. attempt (summed_up so_far)))

  -- the salvage of the tree that a lookup found, or the stop that there is none
  abbrev pub from_root : Option TreeRoot → Attempt Salvaged
  from_root None = Done (Err (NoTree plan.root))
  from_root (Some tree) = value_then (tries (tree_of s 7)) (from_tree tree)

  -- salvage over an opened volume: the start tree and the checksum tree, whose faults
  -- end it, and the listing into the destination
  abbrev pub salvaging : Attempt Salvaged
  salvaging = value_then (tries (tree_of s plan.root)) from_root

-- its one run by a block map
abbrev pub salvage_run : Map → RestorePlan → List ℕ → Super → Run Want Fault Step Salvaged
salvage_run B plan dest s = tried_run B (salvaging plan dest s)

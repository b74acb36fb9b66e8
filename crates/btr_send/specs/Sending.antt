-- What send does, as one program over wants: the listing of a subvolume, each entry as commands of one stream.
use Rattle.std.specs.Prelude.{ℕ, zero, suc, ◌+◌, ◌-◌, ◌/◌, ◌^◌, Bool, true, false, not, ◌||◌, min, List, [], length, take, drop, Option, Some, None, Result}
use Rattle.std.specs.Prelude.{Ok, Err}
use Rattle.btr_chunk.specs.declared.chunk.Chunk.{Chunk}
use Rattle.btr_items.specs.declared.inode.Inode.{Inode}
use Rattle.btr_prog.specs.Prog.{Prog, Return, Stop, Emit, bind}
use Rattle.btr_prog.specs.Quiet.{quiet}
use Rattle.btr_prog.specs.Stages.{staged}
use Rattle.btr_read.specs.Fate.{Fault, NoTree}
use Rattle.btr_super.specs.declared.superblock.Super.{Super}
use Rattle.btr_volume.specs.declared.fault.OpenFault.{OpenFault}
use Rattle.btr_volume.specs.declared.root.TreeRoot.{TreeRoot}
use Rattle.btr_volume.specs.Lookup.{Program, looks, each}
use Rattle.btr_volume.specs.Maps.{VolumeWant}
use Rattle.btr_volume.specs.Start.{Start}
use Rattle.btr_volume.specs.Table.{refusal_of, table_scan}
use Rattle.btr_volume.specs.Tree.{tree_of}
use Rattle.btr_files.specs.declared.counts.Counts.{Counts}
use Rattle.btr_files.specs.Content.{Piece, Gap, content}
use Rattle.btr_files.specs.Content as piece
use Rattle.btr_files.specs.Entries.{DirEntry, entries}
use Rattle.btr_files.specs.Sums.{kind_in}
use Rattle.btr_listing.specs.declared.decision.Decision.{Decision}
use Rattle.btr_listing.specs.declared.decision.Decision.TheVariants.{Skip, Empty, Folder}
use Rattle.btr_listing.specs.declared.decision.Decision.TheVariants as decision
use Rattle.btr_listing.specs.declared.rules.Rules.{Rules}
use Rattle.btr_listing.specs.Causes.{cause_text}
use Rattle.btr_listing.specs.Deciding.{Met, decided, met_in, target}
use Rattle.btr_listing.specs.Lines.{no_counts, with_dir, with_file, counts_line}
use Rattle.btr_listing.specs.Step.{Step, File, Bytes, Done, Line}
use Rattle.btr_listing.specs.Step as step
use Rattle.btr_restore.specs.Journey.{Listing, Treated, Over, Within, has_no_sums, skip, unverified}
use Rattle.btr_send.specs.declared.plan.SendPlan.{SendPlan}
use Rattle.btr_send.specs.declared.progress.SentPart.{SentPart}
use Rattle.btr_send.specs.declared.source.Source.{Source}
use Rattle.btr_send.specs.Command.{end, header, mkdir, mkfile, subvol, truncate, write}
use Rattle.btr_send.specs.Source.{source_of}

-- beside what restore leaves out, no subvolume is entered, and no path has more than 4095 bytes behind its first `/`
abbrev pub rules : Rules
rules = record { snapshots = false; subvolumes = false; longest = Some 4096 }

-- a command of the stream, and then the rest
abbrev pub tells : {A : Type 0} → List ℕ → Program Step A → Program Step A
tells command rest = Emit (Bytes command) rest

-- an offset with some more bytes; it stands still at its last value
abbrev pub behind : ℕ → ℕ → ℕ
behind offset n = min (offset + n) (2 ^ 64 - 1)

-- so many writes of at most 4096 bytes each, cut from the front
abbrev pub cuts : ℕ → List ℕ → ℕ → List ℕ → Program Step (Unit {0})
cuts zero path offset bytes = Return tt
cuts (suc n) path offset bytes = tells (write path offset (take 4096 bytes)) (cuts n path (behind offset 4096) (drop 4096 bytes))

-- the writes of some bytes at an offset of a file
abbrev pub writes : List ℕ → ℕ → List ℕ → Program Step (Unit {0})
writes path offset bytes = cuts ((length bytes + 4095) / 4096) path offset bytes

-- a file of which nothing was given
abbrev pub at_front : SentPart
at_front = record { offset = 0; plain = false }

-- a piece of a file, behind those before it; zeros aren't sent
abbrev pub put : List ℕ → SentPart → Piece → Program Step SentPart
put path now (piece.Bytes bytes summed) =
    bind (writes path now.offset bytes) (λ u. Return (record { offset = behind now.offset (length bytes); plain = now.plain || not summed }))
put path now (Gap count) = Return (record { offset = behind now.offset count; plain = now.plain })

-- a file that is finished: its size, and a line if some sector of it was read without a checksum
abbrev pub closed : List ℕ → ℕ → Counts → SentPart → Program Step Treated
closed path size counts now = tells (truncate path size) (unverified now.plain path (Return (Over (with_file counts))))

-- a directory that is entered
abbrev pub entered : List ℕ → TreeRoot → ℕ → Counts → Program Step Treated
entered path tree dirid counts = tells (mkdir path) (Return (Within tree dirid (with_dir counts)))

-- a directory that stays empty
abbrev pub empty : List ℕ → Counts → Program Step Treated
empty path counts = tells (mkdir path) (Return (Over (with_dir counts)))

module _ (s : Super) (sums : Option TreeRoot) where
  -- the pieces of a file
  abbrev pub pieces : TreeRoot → ℕ → List ℕ → Inode → Program Step SentPart
  pieces tree ino path inode =
      each (put path) at_front (content (kind_in s) sums (has_no_sums inode) inode.size tree ino)

  -- a file that is written
  abbrev pub written : TreeRoot → ℕ → List ℕ → Inode → Counts → Program Step Treated
  written tree ino path inode counts =
      tells (mkfile path) (bind (pieces tree ino path inode) (closed path inode.size counts))

  -- what is done about an entry, by what it comes to
  abbrev pub done_about : Met → Counts → Decision → Program Step Treated
  done_about met counts (Skip cause) = skip (cause_text cause) met.path counts
  done_about met counts (decision.File inode) = written met.tree (target met) met.path inode counts
  done_about met counts Empty = empty met.path counts
  done_about met counts (Folder inner dirid) = entered met.path inner dirid counts

  -- an entry: what it comes to, and what is done about it
  abbrev pub treated : Met → Counts → Program Step Treated
  treated met counts = looks (decided rules s met) (done_about met counts)

  -- what is listed in a directory that was entered
  abbrev pub listed_in : Listing → List ℕ → Treated → Program Step Counts
  listed_in inner path (Over counts) = Return counts
  listed_in inner path (Within tree dirid counts) = inner tree dirid path counts

  -- an entry, and what is in it
  abbrev pub treat : Bool → Listing → TreeRoot → ℕ → List ℕ → Counts → DirEntry → Program Step Counts
  treat deep inner tree dirid path counts entry =
      let met = met_in deep tree dirid path entry in
      bind (treated met counts) (listed_in inner met.path)

  -- each entry of a directory is treated wholly before the next is sought
  abbrev pub listed : Bool → Listing → Listing
  listed deep inner tree dirid path counts = each (treat deep inner tree dirid path) counts (entries tree dirid)

  -- a directory, below which so many more may be entered
  abbrev pub directory : ℕ → Listing
  directory zero = listed true (λ tree dirid path counts. Return counts)
  directory (suc n) = listed false (directory n)

-- the end of the stream: its last command, the file, and a line of what was sent
abbrev pub ended : Counts → Program Step Counts
ended counts = tells end (Emit Done (Emit (Line (counts_line counts)) (Return counts)))

-- the entries of a subvolume, and the end
abbrev pub sent_below : Super → Source → Option TreeRoot → Program Step Counts
sent_below s source sums = bind (directory s sums 512 source.root source.root.dirid [] no_counts) ended

module _ (dest name : List ℕ) where
  -- the file of the stream, its header, and the subvolume
  abbrev pub opened : Source → Program Step (Unit {0})
  opened source =
      Emit (step.Start dest)
      (Emit (File name)
      (tells header
      (tells (subvol name source.uuid source.transid) (Return tt))))

  -- a subvolume as one file of the destination, the checksums being those of a tree
  abbrev pub sent : Super → Source → Option TreeRoot → Program Step Counts
  sent s source sums = bind (opened source) (λ u. sent_below s source sums)

  -- the sending of the subvolume that a lookup found, or the stop that there is none
  abbrev pub from_source : Super → ℕ → Option Source → Program Step Counts
  from_source s id None = Stop (NoTree id)
  from_source s id (Some source) = looks (tree_of s 7) (sent s source)

  -- send over an opened volume: the subvolume, the checksum tree, and the listing into one file of the destination
  abbrev pub sending : Super → SendPlan → Program Step Counts
  sending s plan = looks (source_of s plan.root) (from_source s plan.root)

-- send: the table of chunks, or a refusal; and then the stream
abbrev pub send_journey : SendPlan → List ℕ → List ℕ → Start → Prog VolumeWant Fault Step (Result Counts OpenFault)
send_journey plan dest name start =
    staged (λ fault. Err (refusal_of fault)) (quiet (table_scan start))
    (λ (table : List Chunk). bind (sending dest name start.sup plan) (λ counts. Return (Ok counts)))

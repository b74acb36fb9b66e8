-- What restore makes by the rules of send, and what a stream has to make.
use Rattle.std.specs.Prelude.{◌≡◌, ℕ, zero, suc, Bool, true, false, List, [], ◌∷◌, ◌++◌, fold, Option, Some, None, Ok}
use Rattle.btr_files.specs.declared.counts.Counts.{Counts}
use Rattle.btr_files.specs.declared.plan.RestorePlan.{RestorePlan}
use Rattle.btr_files.specs.Entries.{DirEntry, entries}
use Rattle.btr_files.specs.FileAt.{IsSectorLong}
use Rattle.btr_listing.specs.Deciding.{Met, decided, met_in}
use Rattle.btr_listing.specs.Lines.{counts_line, no_counts, path_in}
use Rattle.btr_listing.specs.Step.{Step, Line}
use Rattle.btr_listing.specs.declared.rules.Rules.{Rules}
use Rattle.btr_listing.specs.Step as step
use Rattle.btr_prog.specs.Maps.{Each, IsWithin}
use Rattle.btr_prog.specs.Prog.{BlockMap, Return, Stop, Emit, bind, exec, needs, steps}
use Rattle.btr_rack.specs.declared.row.Row.{Row}
use Rattle.btr_rack.specs.declared.row.Row.TheVariants as row
use Rattle.btr_read.specs.Fate.{Fault, NoTree}
use Rattle.btr_read.specs.declared.want.Want.{Want}
use Rattle.btr_restore.specs.Journey as restore
use Rattle.btr_restore.specs.Journey.{Listing, Treated}
use Rattle.btr_restore.specs.Outcome.{tree_after}
use Rattle.btr_super.specs.declared.superblock.Super.{Super}
use Rattle.btr_volume.specs.Lookup.{Program, each, looks}
use Rattle.btr_volume.specs.Tree.{tree_of}
use Rattle.btr_volume.specs.declared.root.TreeRoot.{TreeRoot}
use Rattle.btr_send.specs.Names.{IsStreamName}
use Rattle.btr_send.specs.Replay.{Content, Directory, File, Member, member, replay}
use Rattle.btr_send.specs.Command.{below}
use Rattle.btr_send.specs.Sending.{rules, sending}

-- the plan of a restore that isn't dry, without lines for what it makes
abbrev pub plain : ℕ → RestorePlan
plain root = record { root = root; snapshots = false; verbose = false; dry = false }

module _ (by : Rules) (plan : RestorePlan) (s : Super) (sums : Option TreeRoot) where
  -- what restore does with an entry, where it goes by some rules
  abbrev pub treated : Met → Counts → Program Step Treated
  treated met counts = looks (decided by s met) (restore.done_about plan s sums met counts)

  -- what restore does with one entry by these rules
  abbrev pub treat : Bool → Listing → TreeRoot → ℕ → List ℕ → Counts → DirEntry → Program Step Counts
  treat deep inner tree dirid path counts entry =
      let met = met_in deep tree dirid path entry in
      bind (treated met counts) (restore.listed_in plan s sums inner met.path)

  -- the listing of a directory by these rules
  abbrev pub listed : Bool → Listing → Listing
  listed deep inner tree dirid path counts = each (treat deep inner tree dirid path) counts (entries tree dirid)

  -- the listing of a directory, below which so many more may be entered, by these rules
  abbrev pub directory : ℕ → Listing
  directory zero = listed true (λ tree dirid path counts. Return counts)
  directory (suc n) = listed false (directory n)

module _ (by : Rules) (plan : RestorePlan) (dest : List ℕ) (s : Super) where
  -- restore by these rules
  abbrev pub restored : TreeRoot → Option TreeRoot → Program Step Counts
  restored tree sums =
      Emit (step.Start dest)
      (bind (directory by plan s sums 512 tree tree.dirid [] no_counts) (λ counts. Emit (Line (counts_line counts)) (Return counts)))

  -- the restore of the tree that a lookup found, or the stop that there is none, by these rules
  abbrev pub from_root : Option TreeRoot → Program Step Counts
  from_root None = Stop (NoTree plan.root)
  from_root (Some tree) = looks (tree_of s 7) (restored tree)

  -- the whole restore of a plan by these rules
  abbrev pub restoring : Program Step Counts
  restoring = looks (tree_of s plan.root) from_root

-- the directory that rows stand in, those that it is in, and the directories and files so far, by their full paths
pub record TreePlace : Type 0 where
  pub here : List ℕ
  pub outer : List (List ℕ)
  pub members : List Member

-- the top directory, before any row
abbrev pub at_top : TreePlace
at_top = record { here = []; outer = []; members = [] }

-- the place with one more member in the directory that rows stand in
abbrev pub with_member : TreePlace → List ℕ → Content → TreePlace
with_member place name content = record place { members = place.members ++ member (below (path_in place.here name)) content ∷ [] }

-- the place after the directory was left
abbrev pub left : TreePlace → List (List ℕ) → TreePlace
left place [] = place
left place (path ∷ more) = record { here = path; outer = more; members = place.members }

-- behind one more row of a destination
abbrev pub behind_row : TreePlace → Row → TreePlace
behind_row place (row.Start name) = place
behind_row place (row.Dir name) =
    record { here = path_in place.here name; outer = place.here ∷ place.outer; members = (with_member place name Directory).members }
behind_row place row.Up = left place place.outer
behind_row place (row.File name bytes) = with_member place name (File bytes)

-- the directories and files of some rows, by their full paths and in order
abbrev pub members_of_rows : List Row → List Member
members_of_rows rows = (fold behind_row at_top rows).members

-- data is given by whole sectors
abbrev pub GivesSectors : BlockMap Want Fault → Type 0
GivesSectors B = (want : Want) (bytes : List ℕ) → B want ≡ Ok bytes → IsSectorLong want bytes

-- the rows of a destination are its start and one file of a name: a stream, which makes some directories and files
pub record IsStreamOf (dest name : List ℕ) (rows : List Row) (made : List Member) : Type 0 where
  pub stream : List ℕ
  pub is : rows ≡ row.Start dest ∷ row.File name stream ∷ []
  pub replayed : replay stream ≡ Some made

module _ (s : Super) (id : ℕ) (dest name : List ℕ) where
  -- send, and restore by its rules
  abbrev pub sends : Program Step Counts
  sends = sending dest name s (record { root = id })

  -- the restore of the same subvolume by the rules of send
  abbrev pub restores : Program Step Counts
  restores = restoring rules (plain id) dest s

  -- what was sent by one block map is a stream of what is restored by another, and the counts are the same
  pub record IsSent (B C : BlockMap Want Fault) (counts : Counts) : Type 0 where
    pub restored : (exec C restores).ending ≡ Ok counts
    pub stream : IsStreamOf dest name (tree_after (steps B sends)).rows (members_of_rows (tree_after (steps C restores)).rows)

-- Where a send comes to its end, so does restore by its rules, and the one file is a stream whose replay is
-- the directories and files that this makes.
abbrev pub SentLaw : Type 0
SentLaw =
    (B : BlockMap Want Fault) (s : Super) (id : ℕ) (dest name : List ℕ) (counts : Counts)
    → GivesSectors B
    → IsStreamName name
    → (exec B (sends s id dest name)).ending ≡ Ok counts
    → IsSent s id dest name B B counts

-- Where what was had of each block is what was committed, these are the committed directories and files.
abbrev pub SentCommitted : Type 0
SentCommitted =
    (B C : BlockMap Want Fault) (s : Super) (id : ℕ) (dest name : List ℕ) (counts : Counts)
    → GivesSectors B
    → IsStreamName name
    → Each (λ want. IsWithin (B want) (C want)) (needs C (sends s id dest name))
    → (exec B (sends s id dest name)).ending ≡ Ok counts
    → IsSent s id dest name B C counts

-- By its own rules it is restore.
abbrev pub OwnRules : Type 0
OwnRules = (s : Super) (id : ℕ) (dest : List ℕ) → restoring (restore.rules_of (plain id)) (plain id) dest s ≡ restore.listing (plain id) dest s

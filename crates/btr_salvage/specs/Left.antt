-- What salvage leaves of a committed listing: each entry is treated as restore treats
-- it, or it is named with a block that is lost.
use Rattle.std.specs.Prelude.{◌≡◌, ◌⊎◌, ℕ, zero, suc, Bool, true, false, if◌then◌else◌, List, [], ◌∷◌, ◌++◌, filter, codes, Option, Some, Ok, Err}
use Rattle.btr_items.specs.Entry.{index_entry_of}
use Rattle.btr_items.specs.Types.{dir_index}
use Rattle.btr_items.specs.declared.entry.Entry.{Entry}
use Rattle.btr_items.specs.declared.inode.Inode.{Inode}
use Rattle.btr_node.specs.declared.node.Node.{Node}
use Rattle.btr_node.specs.declared.node.Node.TheVariants.{Leaf, Inner}
use Rattle.btr_prog.specs.Maps.{Loses}
use Rattle.btr_prog.specs.Prog.{Return, exec, steps_of}
use Rattle.btr_read.specs.Fate.{Lost}
use Rattle.btr_read.specs.Want.{addr_of}
use Rattle.btr_read.specs.declared.want.Want.{Want}
use Rattle.btr_super.specs.declared.superblock.Super.{Super}
use Rattle.btr_tour.specs.Tour.{child_pointers, items_met, meets_keys, tour_at}
use Rattle.btr_walk.specs.Le.{TreeItem, root_pointer, want_of}
use Rattle.btr_walk.specs.Range.{emit_all, items_within}
use Rattle.btr_walk.specs.Reading.{Map}
use Rattle.btr_walk.specs.BlockPointer.{judged}
use Rattle.btr_walk.specs.declared.block_pointer.BlockPointer.{BlockPointer}
use Rattle.btr_volume.specs.Lookup.{Program, each}
use Rattle.btr_volume.specs.Tree.{key, last, tree_of}
use Rattle.btr_volume.specs.declared.root.TreeRoot.{TreeRoot}
use Rattle.btr_files.specs.declared.counts.Counts.{Counts}
use Rattle.btr_files.specs.declared.plan.RestorePlan.{RestorePlan}
use Rattle.btr_files.specs.Content.{content}
use Rattle.btr_files.specs.Entries.{DirEntry, entries_in, entry_of}
use Rattle.btr_files.specs.Sums.{kind_in}
use Rattle.btr_listing.specs.declared.decision.Decision.{Decision}
use Rattle.btr_listing.specs.declared.decision.Decision.TheVariants.{Skip, File, Empty, Folder}
use Rattle.btr_listing.specs.Deciding.{Met, decided, met_in, target}
use Rattle.btr_listing.specs.Lines.{counts_line}
use Rattle.btr_listing.specs.Step.{Step, Start, Up, Line}
use Rattle.btr_restore.specs.Journey.{done_about, has_no_sums, most_depth, rules_of}
use Rattle.btr_restore.specs.Journey as journey
use Rattle.btr_salvage.specs.declared.salvaged.Salvaged.{Salvaged}
use Rattle.btr_salvage.specs.Lines.{folder_path, missing_line, salvaged_line}

-- steps that restore does, and those that are left of them: of one part, and then of another
pub record Joined (One More : List Step → List Step → Type 0) (whole left : List Step) : Type 0 where
  pub one : List Step
  pub more : List Step
  pub one_left : List Step
  pub more_left : List Step
  pub parts : whole ≡ one ++ more
  pub parts_left : left ≡ one_left ++ more_left
  pub of_one : One one one_left
  pub of_more : More more more_left

-- what is left of each of a list, in turn
abbrev pub InTurn : {X : Type 0} → (X → List Step → List Step → Type 0) → List X → List Step → List Step → Type 0
InTurn Of [] whole left = (whole ≡ []) × (left ≡ [])
InTurn Of (x ∷ xs) whole left = Joined (Of x) (InTurn Of xs) whole left

-- the way up, which a dry run leaves out
abbrev pub way_up : RestorePlan → List Step
way_up plan = if plan.dry then [] else Up ∷ []

module _ (plan : RestorePlan) (s : Super) (sums : Option TreeRoot) (images committed : Map) where
  -- the first want of a program, of those that it has in the committed blocks, that the images lack
  abbrev pub Lacks : {T A : Type 0} → Program T A → Want → Type 0
  Lacks p want = (lost : Loses images (exec committed p) (exec images p)) × (lost.want ≡ want)

  -- a block that an entry needs: one of its lookups, or one with bytes of a file
  abbrev pub NeedsLost : Met → Want → Type 0
  NeedsLost met want =
      Lacks (decided (rules_of plan) s met) want
      ⊎ (inode : Inode) × ((exec committed (decided (rules_of plan) s met)).ending ≡ Ok (File inode))
      × Lacks (content (kind_in s) sums (has_no_sums inode) inode.size met.tree (target met)) want

  -- an entry of which all is left, whatever was counted before it
  pub record IsAllLeft (met : Met) (decision : Decision) (whole left : List Step) : Type 0 where
    pub is : (counts : Counts)
        → whole ≡ steps_of (exec committed (done_about plan s sums met counts decision)).marks
    pub same : left ≡ whole

  -- a directory that is entered, and what is left of what is in it
  pub record IsEntered (Inside : List Step → List Step → Type 0) (met : Met) (decision : Decision) (whole left : List Step) : Type 0 where
    pub inside : List Step
    pub kept : List Step
    pub is : (counts : Counts)
        → whole ≡ steps_of (exec committed (done_about plan s sums met counts decision)).marks
        ++ (inside ++ way_up plan)
    pub rest : (counts : Counts)
        → left ≡ steps_of (exec committed (done_about plan s sums met counts decision)).marks
        ++ (kept ++ way_up plan)
    pub below : Inside inside kept

  -- an entry, by what it comes to
  abbrev pub ByDecision : (TreeRoot → ℕ → List ℕ → List Step → List Step → Type 0) → Met → Decision → List Step → List Step → Type 0
  ByDecision Inside met (Skip cause) = IsAllLeft met (Skip cause)
  ByDecision Inside met (File inode) = IsAllLeft met (File inode)
  ByDecision Inside met Empty = IsAllLeft met Empty
  ByDecision Inside met (Folder tree dirid) = IsEntered (Inside tree dirid met.path) met (Folder tree dirid)

  -- an entry that is treated by what it comes to in the committed blocks
  pub record IsTreated
      (Inside : TreeRoot → ℕ → List ℕ → List Step → List Step → Type 0) (met : Met) (whole left : List Step) : Type 0 where
    pub decision : Decision
    pub comes : (exec committed (decided (rules_of plan) s met)).ending ≡ Ok decision
    pub does : ByDecision Inside met decision whole left

  module _ (deep : Bool) (below : journey.Listing) (Inside : TreeRoot → ℕ → List ℕ → List Step → List Step → Type 0)
      (tree : TreeRoot) (dirid : ℕ) (path : List ℕ) where
    -- what restore does about an entry of a directory
    abbrev pub treat_entry : Counts → DirEntry → Program Step Counts
    treat_entry = journey.treat plan s sums deep below tree dirid path

    -- what restore does about the entries in some items of a directory
    abbrev pub treat_items : Counts → List TreeItem → Program Step Counts
    treat_items counts items = each treat_entry counts (entries_in (emit_all items (Return tt)))

    -- an entry that is left out with all that is below it, whatever was counted before, and named
    -- with a lost block that it needs
    pub record IsMissing (entry : DirEntry) (whole left : List Step) : Type 0 where
      pub want : Want
      pub lost : NeedsLost (met_in deep tree dirid path entry) want
      pub is : (counts : Counts) → whole ≡ steps_of (exec committed (treat_entry counts entry)).marks
      pub named : left ≡ Line (missing_line (codes "broken") (Lost (addr_of want)) (met_in deep tree dirid path entry).path) ∷ []

    -- the entry in an item of a directory
    pub record OfItem (item : TreeItem) (whole left : List Step) : Type 0 where
      pub entry : Entry
      pub formed : index_entry_of item.body ≡ Ok entry
      pub is : IsTreated Inside (met_in deep tree dirid path (entry_of item entry)) whole left ⊎ IsMissing (entry_of item entry) whole left

    -- the items of a leaf that are the directory's, or the children of a node that may have some, in turn
    abbrev pub OfNode : (BlockPointer → List Step → List Step → Type 0) → BlockPointer → Node → List Step → List Step → Type 0
    OfNode child pointer (Leaf items) = InTurn OfItem (items_within (key dirid dir_index 0) (key dirid dir_index last) pointer.addr items)
    OfNode child pointer (Inner pointers) =
        InTurn child (filter (meets_keys (key dirid dir_index 0) (key dirid dir_index last)) (child_pointers pointers pointer.up))

    -- a block that the images have as it was committed
    pub record IsThere (child : BlockPointer → List Step → List Step → Type 0) (level : ℕ) (pointer : BlockPointer) (whole left : List Step) : Type 0 where
      pub block : List ℕ
      pub node : Node
      pub was : committed (want_of level pointer) ≡ Ok block
      pub came : images (want_of level pointer) ≡ Ok block
      pub good : judged level pointer block ≡ Some node
      pub of : OfNode child pointer node whole left

    -- a lost block: what restore does about the committed items in it and below it, whatever was
    -- counted before, is left out, and it is named once with the directory
    pub record IsPart (level : ℕ) (pointer : BlockPointer) (whole left : List Step) : Type 0 where
      pub lost : images (want_of level pointer) ≡ Err (Lost pointer.addr)
      pub is :
          (counts : Counts)
          → whole
          ≡ steps_of (exec committed
          (treat_items counts (items_met (tour_at (key dirid dir_index 0) (key dirid dir_index last) committed level pointer)))).marks
      pub named : left ≡ Line (missing_line (codes "part") (Lost pointer.addr) (folder_path path)) ∷ []

    -- a block of the directory's tree, and what is below it
    abbrev pub OfBlock : ℕ → BlockPointer → List Step → List Step → Type 0
    OfBlock zero pointer whole left = IsThere (λ child w l. (w ≡ []) × (l ≡ [])) 0 pointer whole left ⊎ IsPart 0 pointer whole left
    OfBlock (suc n) pointer whole left = IsThere (OfBlock n) (suc n) pointer whole left ⊎ IsPart (suc n) pointer whole left

    -- what restore does about a whole directory, and what salvage leaves of it
    abbrev pub OfListed : List Step → List Step → Type 0
    OfListed = OfBlock tree.place.level (root_pointer tree.place)

  -- a directory, below which so many more may be entered
  abbrev pub OfDirectory : ℕ → TreeRoot → ℕ → List ℕ → List Step → List Step → Type 0
  OfDirectory zero = OfListed true (λ tree dirid path counts. Return counts) (λ tree dirid path whole left. (whole ≡ []) × (left ≡ []))
  OfDirectory (suc n) = OfListed false (journey.directory plan s sums n) (OfDirectory n)

-- what is left of a whole committed listing, whose roots are there
pub record IsLeft
    (plan : RestorePlan) (dest : List ℕ) (s : Super) (images committed : Map) (counts : Counts) (salvaged : Salvaged)
    (whole left : List Step) : Type 0 where
  pub tree : TreeRoot
  pub sums : Option TreeRoot
  pub root : (exec committed (tree_of s plan.root)).ending ≡ Ok (Some tree)
  pub checksums : (exec committed (tree_of s 7)).ending ≡ Ok sums
  pub inside : List Step
  pub kept : List Step
  pub is : whole ≡ Start dest ∷ (inside ++ Line (counts_line counts) ∷ [])
  pub rest : left ≡ Start dest ∷ (kept ++ Line (salvaged_line salvaged) ∷ [])
  pub below : OfDirectory plan s sums images committed most_depth tree tree.dirid [] inside kept

-- Trees of files in which nothing is wrong, and those that have the same blocks below their roots.
use Rattle.std.proofs.Common.{◌≡◌, ℕ, zero, suc, ◌+◌, ◌-◌, ◌<◌, ◌==◌, Bool, true, false, ◌||◌, List, [], ◌∷◌, ◌++◌, ◌≤◌, length, map, take}
use Rattle.std.proofs.Common.{take_all, drop, get_or, filter, filter_map, if◌then◌else◌, Option, Some, None, refl, sym, ap, ◌∙◌, subst}
use Rattle.std.proofs.Common.{append-nil, arith}
use Rattle.std.proofs.lemmas.List.{take_more}
use Rattle.std.specs.List.{list_any, cons_option}
use Rattle.std.specs.Option.{is_none}
use Rattle.std.specs.BTreeSet.{insert_key}
use Rattle.std.specs.Ordering.{match_ordering}
use Rattle.std.specs.declared.cmp.Ordering.{Ordering}
use Rattle.std.specs.declared.cmp.Ordering.TheVariants.{Less, Equal, Greater}
use Rattle.btr_chunk.specs.declared.chunk.Chunk.{Chunk}
use Rattle.btr_items.specs.declared.sum_run.SumRun.{SumRun}
use Rattle.btr_check_names.specs.declared.inode_at.InodeAt.{InodeAt}
use Rattle.btr_check_names.specs.declared.unpaired.Unpaired.{Unpaired}
use Rattle.btr_check_names.specs.Entry.{Entry, NameRef}
use Rattle.btr_check_names.specs.Names.{Names, asked, dir_size, entry_index, entry_item, entry_mode, entry_ref, findings_but, has_links, has_size}
use Rattle.btr_check_names.specs.Names.{is_among, is_entry, is_free, is_removed, link_count, links_of, mode_kept, names_findings, names_in, names_size, orphan}
use Rattle.btr_check_names.specs.Names.{orphan_kept, ref_entry, ref_kept, removed_dirs, same_ref, under_hash}
use Rattle.btr_check_names.specs.Subvolumes.{Subvolumes, leads_to_root, name_at, subvolumes_at}
use Rattle.btr_check_names.specs.Unpaired.{are_paired}
use Rattle.btr_check_sums.specs.Items.{loose_in, used_in}
use Rattle.btr_check_sums.specs.Sums.{covers, range_missing, tree_missing, used_missing, used_sectors}
use Rattle.btr_check_sums.specs.declared.used_range.UsedRange.{UsedRange}
use Rattle.btr_findings.proofs.Adding.{adds_as, adds_none}
use Rattle.btr_findings.specs.declared.finding.Finding.{Finding}
use Rattle.btr_findings.specs.declared.kind.Kind.{Kind}
use Rattle.btr_findings.specs.declared.kind.Kind.TheVariants as kind
use Rattle.btr_findings.specs.Findings.{FoundSet, TakesFirst, finding_cmp, found, in_order, shown_sum, unless}
use Rattle.btr_tour.specs.Tour.{items_met}
use Rattle.btr_volume.specs.declared.root.TreeRoot.{TreeRoot}
use Rattle.btr_walk.specs.Le.{TreeItem, root_pointer}
use Rattle.btr_walk.specs.declared.block_pointer.BlockPointer.{BlockPointer}
use Rattle.btr_check.specs.Data.{sum_runs}
use Rattle.btr_check.specs.FileTrees.{Treats, file_tree_findings, missing_findings, names_of, root_entries, with_entries}
use Rattle.btr_check.specs.Filesystem.{Filesystem}
use Rattle.btr_check.specs.Passing.{Opens, children_marks, subtree_marks}
use Rattle.btr_check.specs.SoundTrees.{AreBelow, AreKept, IsKeptOf, IsLike, IsSoundTree, items_below}
use Rattle.btr_check.specs.Trees.{items_in}
use Rattle.btr_check.specs.Walking.{WalkSeen}
use Rattle.btr_check.specs.declared.file_tree.FileTree.{FileTree}
use Rattle.btr_check.specs.declared.opening.Opened.{Opened}
use Rattle.btr_check.specs.declared.opening.Opened.TheVariants.{Whole, Children}
use Rattle.btr_check.specs.declared.sound_tree.RootedTree.{RootedTree}
use Rattle.btr_check.specs.declared.sound_tree.SoundTree.{SoundTree}
use Rattle.btr_check.proofs.FileTrees.{IsMetOf, filter_twice}
use Rattle.btr_check.proofs.Openings.{AreChildren}
use Rattle.btr_check.proofs.Passing.{items_then}
use Rattle.btr_check_differences.proofs.Missing.{both_none}

-- a rule that is kept is kept whatever it says where it is broken
module _ {X : Type 0} (kept : X → Bool) (m n : X → Finding) where
  -- where a rule finds nothing on some things, it finds nothing, whatever else its findings say
  rule_same : (xs : List X) → filter_map (λ x. unless (kept x) (m x)) xs ≡ [] → filter_map (λ x. unless (kept x) (n x)) xs ≡ []
  rule_same [] h = refl
  rule_same (x ∷ xs) h = by (kept x) h (rule_same xs)
    where
      by : (b : Bool) → cons_option (unless b (m x)) (filter_map (λ z. unless (kept z) (m z)) xs) ≡ []
          → (filter_map (λ z. unless (kept z) (m z)) xs ≡ [] → filter_map (λ z. unless (kept z) (n z)) xs ≡ [])
          → cons_option (unless b (n x)) (filter_map (λ z. unless (kept z) (n z)) xs) ≡ []
      by true h rest = rest h
      by false h rest = cc

-- the number of a tree doesn't matter to whether something is wrong with its names
module _ (ta tb dirid : ℕ) (inodes : List InodeAt) (indexed hashed : List Entry) (refs : List NameRef) (orphans removed : List ℕ) where
  -- the names of a tree of this number
  abbrev of_tree : ℕ → Names
  of_tree tree = record { tree = tree; dirid = dirid; inodes = inodes; indexed = indexed; hashed = hashed; refs = refs; orphans = orphans }

  -- a finding on an entry of a tree
  abbrev at_entry : Kind → ℕ → Entry → Finding
  at_entry word tree entry = found word (tree ∷ entry.dir ∷ entry.offset ∷ [])

  -- where nothing is wrong with names as those of one tree, nothing is wrong with them as those of another
  none_same : findings_but removed (of_tree ta) ≡ [] → findings_but removed (of_tree tb) ≡ []
  none_same h =
      let f1 = filter_map (entry_item ta removed hashed) indexed in
      let f2 = filter_map (entry_index ta removed indexed) hashed in
      let f3 = filter_map (entry_ref ta removed refs) indexed in
      let f4 = filter_map (ref_entry ta dirid indexed) refs in
      let f5 = filter_map (entry_mode ta removed inodes) indexed in
      let f6 = filter_map (link_count ta refs) inodes in
      let f7 = filter_map (dir_size ta orphans indexed) inodes in
      let f8 = filter_map (orphan ta orphans) inodes in
      let r8 = both_none (f1 ++ f2 ++ f3 ++ f4 ++ f5 ++ f6 ++ f7) f8 h in
      let r7 = both_none (f1 ++ f2 ++ f3 ++ f4 ++ f5 ++ f6) f7 r8.0 in
      let r6 = both_none (f1 ++ f2 ++ f3 ++ f4 ++ f5) f6 r7.0 in
      let r5 = both_none (f1 ++ f2 ++ f3 ++ f4) f5 r6.0 in
      let r4 = both_none (f1 ++ f2 ++ f3) f4 r5.0 in
      let r3 = both_none (f1 ++ f2) f3 r4.0 in
      let r2 = both_none f1 f2 r3.0 in
      let e1 = rule_same (λ (e : Entry). is_among removed e.dir || list_any (is_entry (under_hash e)) hashed)
      (at_entry kind.EntryItem ta) (at_entry kind.EntryItem tb) indexed r2.0 in
      let e2 = rule_same (λ (e : Entry). is_among removed e.dir || list_any (is_entry e) (map under_hash indexed))
      (at_entry kind.EntryIndex ta) (at_entry kind.EntryIndex tb) hashed r2.1 in
      let e3 = rule_same (λ (e : Entry). is_among removed e.dir || ref_kept refs e) (at_entry kind.EntryRef ta) (at_entry kind.EntryRef tb) indexed r3.1 in
      let e4 = rule_same (λ (ref : NameRef). is_free dirid ref || list_any (same_ref ref) (asked indexed))
      (λ (ref : NameRef). found kind.RefEntry (ta ∷ ref.inode ∷ ref.parent ∷ ref.index ∷ []))
      (λ (ref : NameRef). found kind.RefEntry (tb ∷ ref.inode ∷ ref.parent ∷ ref.index ∷ [])) refs r4.1 in
      let e5 = rule_same (λ (e : Entry). is_among removed e.dir || mode_kept inodes e) (at_entry kind.EntryMode ta) (at_entry kind.EntryMode tb) indexed r5.1 in
      let e6 = rule_same (λ (at : InodeAt). has_links at (links_of refs at.number))
      (λ (at : InodeAt). found kind.LinkCount (ta ∷ at.number ∷ at.inode.nlink ∷ shown_sum (links_of refs at.number) ∷ []))
      (λ (at : InodeAt). found kind.LinkCount (tb ∷ at.number ∷ at.inode.nlink ∷ shown_sum (links_of refs at.number) ∷ [])) inodes r6.1 in
      let e7 = rule_same (λ (at : InodeAt). is_removed orphans at || has_size at (names_size indexed at.number))
      (λ (at : InodeAt). found kind.DirSize (ta ∷ at.number ∷ at.inode.size ∷ shown_sum (names_size indexed at.number) ∷ []))
      (λ (at : InodeAt). found kind.DirSize (tb ∷ at.number ∷ at.inode.size ∷ shown_sum (names_size indexed at.number) ∷ [])) inodes r7.1 in
      let e8 = rule_same (orphan_kept orphans) (λ (at : InodeAt). found kind.Orphan (ta ∷ at.number ∷ []))
      (λ (at : InodeAt). found kind.Orphan (tb ∷ at.number ∷ [])) inodes r8.1 in
      λ i. e1 i ++ e2 i ++ e3 i ++ e4 i ++ e5 i ++ e6 i ++ e7 i ++ e8 i

-- where nothing is wrong with the names in some items of one tree, nothing is with the same in another
names_same : (ta tb dirid : ℕ) (items : List TreeItem) → names_findings (names_in ta dirid items) ≡ [] → names_findings (names_in tb dirid items) ≡ []
names_same ta tb dirid items h =
    let all = names_in ta dirid items in
    none_same ta tb dirid all.inodes all.indexed all.hashed all.refs all.orphans (removed_dirs all.orphans all.inodes) h

-- nor to what is missing of its checksums
module _ (chunks : List Chunk) (runs : List SumRun) (ta tb : ℕ) where
  -- where nothing is missing of a range as one tree's, nothing is missing of it as another's
  range_same : (b : Bool) (range : UsedRange) → (if b then [] else used_missing chunks runs ta range) ≡ []
      → (if b then [] else used_missing chunks runs tb range) ≡ []
  range_same true range h = refl
  range_same false range h = rule_same (λ (sector : ℕ). list_any (covers sector) runs)
      (λ sector. found kind.SumMissing (ta ∷ range.inode ∷ shown_sum sector ∷ []))
      (λ sector. found kind.SumMissing (tb ∷ range.inode ∷ shown_sum sector ∷ [])) (used_sectors chunks range) h

  -- where nothing is missing of ranges that are used in one tree, nothing is missing of the same in another
  pub missing_same : (loose : List ℕ) (used : List UsedRange) → tree_missing chunks runs ta loose used ≡ [] → tree_missing chunks runs tb loose used ≡ []
  missing_same loose [] h = refl
  missing_same loose (range ∷ used) h =
      let two = both_none (range_missing chunks runs ta loose range) (tree_missing chunks runs ta loose used) h in
      let here = range_same (list_any (λ inode. inode == range.inode) loose) range two.0 in
      let rest = missing_same loose used two.1 in
      λ i. here i ++ rest i

module _ (fs : Filesystem) where
  -- what stands below the children of a node
  below_items : (addr level : ℕ) (block_pointers : List BlockPointer) → items_met (children_marks fs addr level block_pointers)
      ≡ items_below fs level block_pointers
  below_items addr level [] = refl
  below_items addr level (pointer ∷ block_pointers) =
      items_then (subtree_marks fs level pointer) (children_marks fs addr level block_pointers)
      ∙ ap (λ l. items_met (subtree_marks fs level pointer) ++ l) (below_items addr level block_pointers)

  -- blocks under which all items of a tree stand, if there are any, are those below its root
  are_below : (tree : TreeRoot) (block_pointers : List BlockPointer) → items_in fs.blocks tree ≡ items_below fs (tree.place.level - 1) block_pointers
      → AreBelow fs tree block_pointers
  are_below tree [] e = tt
  are_below tree (pointer ∷ block_pointers) e = e

  -- the children of a root that was opened
  pub opens_below : (tree : TreeRoot) (old new : WalkSeen) (opened : Opened) (block_pointers : List BlockPointer)
      → Opens fs tree.place.level (root_pointer tree.place) old new opened → AreChildren opened block_pointers → AreBelow fs tree block_pointers
  opens_below tree old new (Whole edges) block_pointers h are = absurd are
  opens_below tree old new (Children all) block_pointers h are =
      are_below tree block_pointers
      (ap items_met h.2 ∙ below_items tree.place.addr (tree.place.level - 1) all.items ∙ ap (items_below fs (tree.place.level - 1)) (sym are))

  -- trees with the same blocks below their roots have the same items
  same_items : (a b : TreeRoot) (block_pointers : List BlockPointer) → (block_pointers ≡ [] → ⊥) → a.place.level ≡ b.place.level
      → AreBelow fs a block_pointers → AreBelow fs b block_pointers
      → items_in fs.blocks a ≡ items_in fs.blocks b
  same_items a b [] some level one two = absurd (some refl)
  same_items a b (pointer ∷ block_pointers) some level one two = one ∙ ap (λ l. items_below fs (l - 1) (pointer ∷ block_pointers)) level ∙ sym two

  -- a tree that has the same blocks below its root as a sound one is sound
  sound_like : (one : SoundTree) (rooted : RootedTree) → IsKeptOf fs one → IsLike one rooted → (rooted.children.items ≡ [] → ⊥)
      → AreBelow fs rooted.tree rooted.children.items → IsSoundTree fs rooted.tree one.names
  sound_like one rooted kept like some below =
      let a = one.rooted.tree in
      let b = rooted.tree in
      let runs = sum_runs fs in
      let same : items_in fs.blocks a ≡ items_in fs.blocks b =
      same_items a b rooted.children.items some like.level (subst (AreBelow fs a) like.children kept.below) below in
      let two = both_none (missing_findings fs.blocks fs.chunks runs a) (names_findings (names_of fs.blocks a)) kept.sound.nothing in
      let missing : missing_findings fs.blocks fs.chunks runs b ≡ [] =
      ap (λ l. tree_missing fs.chunks runs b.id (filter_map loose_in l) (filter_map used_in l)) (sym same)
      ∙ missing_same fs.chunks runs a.id b.id (filter_map loose_in (items_in fs.blocks a)) (filter_map used_in (items_in fs.blocks a)) two.0 in
      let named : names_findings (names_of fs.blocks b) ≡ [] =
      (λ i. names_findings (names_in b.id (sym like.dirid i) (sym same i))) ∙ names_same a.id b.id a.dirid (items_in fs.blocks a) two.1 in
      record {
        nothing = λ i. missing i ++ named i;
        entries = kept.sound.entries ∙ ap (λ l. filter leads_to_root (names_in 0 0 l).indexed) same;
      }

  -- a sound tree was treated, where its names of subvolumes were kept
  pub treats_sound : (tree : TreeRoot) (names : Unpaired) (set : FoundSet) (old new : Subvolumes) → IsSoundTree fs tree names
      → new ≡ subvolumes_at old tree.id names.subvolumes → Treats fs.blocks fs.chunks (sum_runs fs) (tree ∷ []) set set old new
  treats_sound tree names set old new is at = record {
    found = adds_as [] (file_tree_findings fs.blocks fs.chunks (sum_runs fs) tree ++ []) set set (sym (ap (λ l. l ++ []) is.nothing)) (adds_none set);
    entries = at ∙ ap (λ l. subvolumes_at old tree.id l) is.entries
        ∙ ap (λ l. with_entries old (map (name_at tree.id) l)) (filter_twice leads_to_root (names_of fs.blocks tree).indexed)
        ∙ ap (with_entries old) (sym (append-nil (root_entries fs.blocks tree)));
  }

  -- each of the trees that are kept is sound
  all_at : (xs : List SoundTree) (i : ℕ) (d : SoundTree) → i < length xs → AreKept fs xs → IsKeptOf fs (get_or xs i d)
  all_at [] i d lt all = absurd (omega (arith, lt))
  all_at (x ∷ xs) zero d lt all = all.0
  all_at (x ∷ xs) (suc i) d lt all = all_at xs i d (omega (arith, lt)) all.1

  -- so was one that was passed
  pub passes_at : (sound : List SoundTree) (i : ℕ) (one : SoundTree) (rooted : RootedTree) (set : FoundSet) (old mid new : Subvolumes) → i < length sound
      → get_or sound i one ≡ one → IsLike one rooted → (rooted.children.items ≡ [] → ⊥)
      → new ≡ subvolumes_at mid rooted.tree.id one.names.subvolumes → mid ≡ old
      → AreKept fs sound → AreBelow fs rooted.tree rooted.children.items → Treats fs.blocks fs.chunks (sum_runs fs) (rooted.tree ∷ []) set set old new
  passes_at sound i one rooted set old mid new lt is like some at same kept below =
      treats_sound rooted.tree one.names set old new
      (sound_like one rooted (subst (IsKeptOf fs) is (all_at sound i one lt kept)) like some below)
      (at ∙ ap (λ names. subvolumes_at names rooted.tree.id one.names.subvolumes) same)

  -- a tree that was visited is sound where its names are paired and nothing is missing of its checksums
  pub kept_met : (rooted : RootedTree) (met : FileTree) (chunks : List Chunk) → IsMetOf fs.blocks rooted.tree met → chunks ≡ fs.chunks
      → are_paired met.names ≡ true → AreBelow fs rooted.tree rooted.children.items
      → tree_missing chunks (sum_runs fs) rooted.tree.id met.uses.loose met.uses.used ≡ []
      → IsKeptOf fs (record { rooted = rooted; names = met.names; is_plain = met.is_plain })
  kept_met rooted met chunks is same paired below none =
      let runs = sum_runs fs in
      let missing : missing_findings fs.blocks fs.chunks runs rooted.tree ≡ [] =
      sym (λ i. tree_missing (same i) runs rooted.tree.id (is.uses i).loose (is.uses i).used) ∙ none in
      record {
        sound = record { nothing = λ i. missing i ++ is.sound paired i; entries = is.subvolumes };
        settled = is.settled paired;
        below = below;
        plain = λ yes. sym is.plain ∙ yes;
      }

  -- trees that are kept, and one more behind them
  pub kept_after : (xs : List SoundTree) (one : SoundTree) → AreKept fs xs → IsKeptOf fs one → AreKept fs (xs ++ one ∷ [])
  kept_after [] one all is = (is, tt)
  kept_after (x ∷ xs) one all is = (all.0, kept_after xs one all.1 is)

  -- of trees that are kept the last one is, and so are those before it
  pub kept_before : (xs : List SoundTree) (one : SoundTree) → AreKept fs (xs ++ one ∷ []) → AreKept fs xs × IsKeptOf fs one
  kept_before [] one all = (tt, all.0)
  kept_before (x ∷ xs) one all = let more = kept_before xs one all.1 in ((all.0, more.0), more.1)

  -- of trees that are kept those behind the first one are
  pub kept_behind : (xs : List SoundTree) → AreKept fs xs → AreKept fs (drop 1 xs)
  kept_behind [] all = tt
  kept_behind (x ∷ xs) all = all.1

-- two lists that are the same so far
pub pointers_more : (xs ys : List BlockPointer) (i : ℕ) (d : BlockPointer) → i < length xs → i < length ys → take i xs ≡ take i ys → get_or xs i d
    ≡ get_or ys i d
    → take (i + 1) xs ≡ take (i + 1) ys
pointers_more xs ys i d lt lt' before here = take_more xs i d lt ∙ (λ j. before j ++ here j ∷ []) ∙ sym (take_more ys i d lt')

-- two lists that are the same up to their ends are the same
pub pointers_all : (xs ys : List BlockPointer) (i : ℕ) → length xs ≤ i → length ys ≤ i → take i xs ≡ take i ys → xs ≡ ys
pointers_all xs ys i all all' same = sym (take_all i xs all) ∙ same ∙ take_all i ys all'

-- a list whose length isn't 0 isn't empty
some_block_pointers : (xs : List BlockPointer) → (length xs == 0) ≡ false → xs ≡ [] → ⊥
some_block_pointers [] e is = cc
some_block_pointers (x ∷ xs) e is = cc

-- a list isn't empty where the same list's length isn't 0
pub children_some : (xs ys : List BlockPointer) → xs ≡ ys → (length xs == 0) ≡ false → ys ≡ [] → ⊥
children_some xs ys same e is = some_block_pointers xs e (same ∙ is)

-- no test both holds and fails
pub not_both : (b : Bool) → b ≡ true → b ≡ false → ⊥
not_both true p q = cc
not_both false p q = cc

-- no finding was put where the list of them is empty
insert_some : (xs : List Finding) (k : Finding) → insert_key finding_cmp xs k ≡ [] → ⊥
insert_some [] k e = cc
insert_some (x ∷ xs) k e = by (finding_cmp k x) e
  where
    by : (r : Ordering) → match_ordering r (k ∷ x ∷ xs) (x ∷ xs) (x ∷ insert_key finding_cmp xs k) ≡ [] → ⊥
    by Less e = cc
    by Equal e = cc
    by Greater e = cc

-- where the list of the findings in order is empty, there are none
none_in_order : (all : List Finding) → in_order all ≡ [] → all ≡ []
none_in_order [] e = refl
none_in_order (finding ∷ all) e = absurd (insert_some (in_order all) finding e)

-- where no first finding is taken from the list in order, there are none
pub nothing_listed : (all list new : List Finding) (first : Option Finding) → list ≡ in_order all → TakesFirst list new first → is_none first ≡ true
    → all ≡ []
nothing_listed all list new None is takes none = none_in_order all (sym is ∙ takes.0)
nothing_listed all list new (Some finding) is takes none = cc

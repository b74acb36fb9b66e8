-- Trees of files that differ little from sound ones.
use Rattle.std.proofs.Common.{◌≡◌, ◌-◌, ◌++◌, true, List, [], ◌∷◌, Ok, filter_map, fold, refl, sym, ap, ◌∙◌, subst}
use Rattle.btr_check_differences.specs.declared.inode_range.InodeRange.{InodeRange}
use Rattle.btr_check_differences.specs.Differing as differing
use Rattle.btr_check_differences.specs.Law.{AlikeLaw, AreAlike, MissingLaw, NothingMissing, is_own}
use Rattle.btr_check_differences.specs.Ranges.{are_apart}
use Rattle.btr_check_differences.specs.Reading as reading
use Rattle.btr_check_names.specs.Differences.{DifferenceLaw, IsSettledBy, compared_of}
use Rattle.btr_check_names.specs.Names.{names_findings, names_in}
use Rattle.btr_check_names.specs.Settled.{AreSettled, SettledLaw}
use Rattle.btr_check_names.specs.declared.unpaired.Unpaired.{Unpaired}
use Rattle.btr_check_names.specs.Unpaired.{are_paired, are_whole, compared, unpaired_of, unpaired_step}
use Rattle.btr_check_space.specs.declared.address_ranges.AddressRange.{AddressRange}
use Rattle.btr_check_sums.specs.Items.{KeepsUses, UsesMet, loose_in, used_in}
use Rattle.btr_check_sums.specs.Sums.{tree_missing}
use Rattle.btr_rack.specs.Rack.{Seen}
use Rattle.btr_read.specs.Store.{Blocks}
use Rattle.btr_tour.specs.Tour.{items_met}
use Rattle.btr_volume.specs.declared.root.TreeRoot.{TreeRoot}
use Rattle.btr_volume.specs.declared.volume.Volume.{Volume}
use Rattle.btr_walk.proofs.Joined.{drawn}
use Rattle.btr_walk.specs.Reading.{Map}
use Rattle.btr_walk.specs.declared.block_pointer.BlockPointer.{BlockPointer}
use Rattle.btr_check.specs.Data.{sum_runs}
use Rattle.btr_check.specs.Differing.{ArePairedBy, CanCompare, Differ, IsSoundBy, IsWholeAlone, OfNone, AddUp, own_marks}
use Rattle.btr_check.specs.Families.{AreSumRanges}
use Rattle.btr_check.specs.FileTrees.{ArePairedHere, IsSoundAlone, file_step, missing_findings, names_of, nothing_met}
use Rattle.btr_check.specs.Filesystem.{Filesystem}
use Rattle.btr_check.specs.Running.{Ran, filesystem, world}
use Rattle.btr_check.specs.SoundTrees.{AreBelow, items_below}
use Rattle.btr_check.specs.Trees.{items_in}
use Rattle.btr_check.specs.declared.file_tree.FileTree.{FileTree}
use Rattle.btr_check.specs.declared.sound_tree.RootedTree.{RootedTree}
use Rattle.btr_check.specs.declared.sound_tree.SoundTree.{SoundTree}
use Rattle.btr_check.proofs.FileTrees.{file_folded}
use Rattle.btr_check.proofs.Runs.{less_told}
use Rattle.btr_check.proofs.SoundTrees.{missing_same}
use Rattle.btr_check_differences.proofs.Missing.{both_none}

-- what was read of a store was read of its volume
pub ran_read : {A : Type 0} (P : Map → Type 0) (S : Filesystem → Type 0) (rack rack' : Seen) (vol : Volume) (store : Blocks) (a : A)
    → reading.Read P (reading.world rack vol.store) (reading.world rack' store) → ((B : Map) → P B → S (filesystem vol B))
    → Ran {A = A} OfNone S (world rack vol) (world rack' (record { sup = vol.sup; store = store })) (Ok a)
ran_read P S rack rack' vol store a one f = record {
  reads = one.reads;
  volume = record { sup = refl; store = one.loans };
  ready = record { serves = one.ready.serves; room = one.ready.room };
  cause = tt;
  quiet = tt;
  told = drawn vol.store.layout P (λ B. S (filesystem vol B)) f one.told;
  named = less_told one.told;
}

module _ (fs : Filesystem) where
  -- where a tree has blocks below its root, its items are theirs
  some_below : (tree : TreeRoot) (block_pointers : List BlockPointer) → (block_pointers ≡ [] → ⊥) → AreBelow fs tree block_pointers
      → items_in fs.blocks tree ≡ items_below fs (tree.place.level - 1) block_pointers
  some_below tree [] some below = absurd (some refl)
  some_below tree (pointer ∷ block_pointers) some below = below

  -- what was met of a tree alone
  pub whole_alone : KeepsUses → (sums : List AddressRange) (rooted : RootedTree) (ranges : List InodeRange) (met : FileTree)
      → met ≡ fold file_step (nothing_met rooted.tree.dirid) (own_marks fs rooted ranges)
      → IsSoundAlone rooted.tree.id met fs.chunks sums → IsWholeAlone fs sums rooted ranges
  whole_alone uses sums rooted ranges met is alone =
      let marks = own_marks fs rooted ranges in
      let all = is ∙ file_folded marks (nothing_met rooted.tree.dirid) in
      let used : met.uses ≡ record { loose = filter_map loose_in (items_met marks); used = filter_map used_in (items_met marks) } =
      ap (λ (m : FileTree). m.uses) all ∙ uses marks in
      record {
        plain = sym (ap (λ (m : FileTree). m.is_plain) all) ∙ alone.plain;
        whole = sym (ap (λ (m : FileTree). are_whole m.names) all) ∙ alone.whole;
        summed = λ held. sym (ap (λ (u : UsesMet). tree_missing fs.chunks (sum_runs fs) rooted.tree.id u.loose u.used) used)
            ∙ alone.summed (sum_runs fs) held;
      }

  -- and what was met of another one
  pub paired_by : (before after : RootedTree) (ranges : List InodeRange) (own : FileTree) (names : Unpaired)
      → own ≡ fold file_step (nothing_met after.tree.dirid) (own_marks fs after ranges)
      → names ≡ fold unpaired_step (compared own.names) (own_marks fs before ranges) → ArePairedHere names → ArePairedBy fs before after ranges
  paired_by before after ranges own names is others here =
      let marks = own_marks fs after ranges in
      let ours : own.names ≡ unpaired_of after.tree.dirid marks =
      ap (λ (m : FileTree). m.names) (is ∙ file_folded marks (nothing_met after.tree.dirid)) in
      let both : names ≡ compared_of after.tree.dirid marks (own_marks fs before ranges) =
      others ∙ ap (λ (n : Unpaired). fold unpaired_step (compared n) (own_marks fs before ranges)) ours in
      record {
        paired = sym (ap are_paired both) ∙ here.paired;
        subvolumes = sym (ap (λ (n : Unpaired). n.subvolumes) both) ∙ here.subvolumes;
      }

  -- a tree is sound by a sound one from which it differs little
  pub sound_by : AlikeLaw → DifferenceLaw → MissingLaw → SettledLaw → (before : SoundTree) (after : RootedTree) (sums : List AddressRange)
      (ranges : List InodeRange) → CanCompare before after → are_apart ranges ≡ true → Differ fs before.rooted after ranges
      → AreSumRanges fs sums → AddUp fs sums before.rooted after ranges → IsSoundBy fs before after
  sound_by alike_law difference_law missing_law settled_law before after sums ranges can apart differ held adds = λ kept below.
      let a = before.rooted.tree in
      let b = after.tree in
      let runs = sum_runs fs in
      let old = items_in fs.blocks a in
      let new = items_in fs.blocks b in
      let olds = before.rooted.children.items in
      let ours = own_marks fs after ranges in
      let theirs = own_marks fs before.rooted ranges in
      let own = is_own ranges in
      let beneath : old ≡ items_below fs (b.place.level - 1) olds =
      some_below a olds can.some kept.below ∙ ap (λ l. items_below fs (l - 1) olds) can.level in
      let alike : AreAlike fs.blocks b.dirid a.place b.place ranges =
      alike_law fs.blocks b.dirid (b.place.level - 1) a.place b.place olds after.children.items ranges
      (record {
        below = beneath;
        below_new = some_below b after.children.items can.some_new below;
        apart = apart;
        differ = differ;
        plain = kept.plain can.plain;
        plain_new = adds.alone.plain;
        whole_new = adds.alone.whole;
        paired = adds.both.paired;
      }) in
      let is : IsSettledBy (names_in a.id b.dirid old) (names_in b.id b.dirid new) (compared_of b.dirid ours theirs) =
      difference_law a.id b.id b.dirid own old new ours theirs
      (subst (λ d. AreSettled (names_in a.id d old)) can.dirid kept.settled) alike.settles in
      let named : names_findings (names_of fs.blocks b) ≡ [] = settled_law (names_of fs.blocks b) is.settled in
      let two = both_none (missing_findings fs.blocks fs.chunks runs a) (names_findings (names_of fs.blocks a)) kept.sound.nothing in
      let missing : missing_findings fs.blocks fs.chunks runs b ≡ [] =
      missing_law fs.chunks runs b.id own old new alike.settles.shared
      (missing_same fs.chunks runs a.id b.id (filter_map loose_in old) (filter_map used_in old) two.0)
      (subst (NothingMissing fs.chunks runs b.id) alike.settles.ours_met (adds.alone.summed held)) in
      record {
        sound = record {
          nothing = λ i. missing i ++ named i;
          entries = kept.sound.entries ∙ sym (is.subvolumes adds.both.subvolumes);
        };
        settled = is.settled;
        below = below;
        plain = λ yes. alike.plain;
      }

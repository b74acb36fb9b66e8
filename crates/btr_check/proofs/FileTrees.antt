-- Trees of files, one after another.
use Rattle.std.proofs.Common.{◌≡◌, ℕ, Bool, true, false, ◌&&◌, cond, map, filter_map, ◌+◌, ◌<◌, ◌≤◌, List, [], ◌∷◌, ◌++◌, length, take, get_or, filter}
use Rattle.std.proofs.Common.{flat_map}
use Rattle.std.proofs.Common.{fold, refl, sym, ap, ◌∙◌, subst, append_assoc, append-nil}
use Rattle.std.proofs.lemmas.Grind.{flat_map-append}
use Rattle.std.proofs.lemmas.List.{take_more, take_all}
use Rattle.std.specs.List.{list_all}
use Rattle.btr_check_differences.specs.Law.{is_plain}
use Rattle.btr_chunk.specs.declared.chunk.Chunk.{Chunk}
use Rattle.btr_items.specs.declared.sum_run.SumRun.{SumRun}
use Rattle.btr_check_names.specs.Names.{Names, NamesLaw, no_names, names_step, names_findings}
use Rattle.btr_check_names.specs.Settled.{AreSettled}
use Rattle.btr_check_names.specs.Subvolumes.{Subvolumes, leads_to_root, name_at, subvolumes_at, subvolumes_in, subvolume_findings}
use Rattle.btr_check_names.specs.Unpaired.{UnpairedLaw, are_paired, nothing_unpaired, unpaired_step}
use Rattle.btr_findings.proofs.Adding.{adds_none, adds_as, adds_then}
use Rattle.btr_findings.specs.declared.finding.Finding.{Finding}
use Rattle.btr_findings.specs.Findings.{Adds, FoundSet}
use Rattle.btr_check_sums.specs.Items.{UsesMet, KeepsUses, uses_step, loose_in, used_in}
use Rattle.btr_check_sums.specs.Sums.{tree_missing}
use Rattle.btr_tour.specs.Tour.{Mark, Block, Child, Item, Left, items_met, whole}
use Rattle.btr_volume.specs.declared.root.TreeRoot.{TreeRoot}
use Rattle.btr_walk.specs.Reading.{Map}
use Rattle.btr_check.specs.Data.{sum_runs}
use Rattle.btr_check.specs.Families.{subvolumes, found_on_files}
use Rattle.btr_check.specs.Filesystem.{Filesystem, file_trees, is_file_tree, root_items}
use Rattle.btr_check.specs.FileTrees.{nothing_met, file_step, mark_plain, names_of, missing_findings, file_tree_findings, root_entries, with_entries, Treats}
use Rattle.btr_check.specs.FileTrees.{TreatsNames}
use Rattle.btr_check.specs.Passes.{Lists}
use Rattle.btr_check.specs.Trees.{items_in}
use Rattle.btr_check.specs.declared.file_tree.FileTree.{FileTree}
use Rattle.btr_read.proofs.Rebuilt.{and_true}

and_then : (a b c : Bool) → ((a && b) && c) ≡ (a && (b && c))
and_then true b c = refl
and_then false b c = refl

-- whether nothing of one more mark is an orphan's
plain_more : (mark : Mark) (marks : List Mark) (plain : Bool)
    → ((plain && mark_plain mark) && list_all is_plain (items_met marks)) ≡ (plain && list_all is_plain (items_met (mark ∷ marks)))
plain_more (Block place block) marks plain = ap (λ b. b && list_all is_plain (items_met marks)) (and_true plain)
plain_more (Child addr place) marks plain = ap (λ b. b && list_all is_plain (items_met marks)) (and_true plain)
plain_more (Item item) marks plain = and_then plain (is_plain item) (list_all is_plain (items_met marks))
plain_more (Left fault) marks plain = ap (λ b. b && list_all is_plain (items_met marks)) (and_true plain)

-- what a visit leaves is what it leaves of names and of uses
pub file_folded : (marks : List Mark) (met : FileTree) → fold file_step met marks ≡ record {
  names = fold unpaired_step met.names marks;
  uses = fold uses_step met.uses marks;
  is_plain = met.is_plain && list_all is_plain (items_met marks);
}
file_folded [] met = λ i. record { names = met.names; uses = met.uses; is_plain = sym (and_true met.is_plain) i }
file_folded (mark ∷ marks) met =
    file_folded marks (file_step met mark)
    ∙ (λ i. record {
      names = fold unpaired_step (unpaired_step met.names mark) marks;
      uses = fold uses_step (uses_step met.uses mark) marks;
      is_plain = plain_more mark marks met.is_plain i;
    })

filter_by : {X : Type 0} (p : X → Bool) (x : X) (xs : List X) (b : Bool) → p x ≡ b → filter p (filter p xs) ≡ filter p xs
    → filter p (cond b (x ∷ filter p xs) (filter p xs)) ≡ cond b (x ∷ filter p xs) (filter p xs)
filter_by p x xs true is rest = ap (λ b. cond b (x ∷ filter p (filter p xs)) (filter p (filter p xs))) is ∙ ap (λ l. x ∷ l) rest
filter_by p x xs false is rest = rest

-- what is left by a test is left by it once more
pub filter_twice : {X : Type 0} (p : X → Bool) (xs : List X) → filter p (filter p xs) ≡ filter p xs
filter_twice p [] = refl
filter_twice p (x ∷ xs) = filter_by p x xs (p x) refl (filter_twice p xs)

module _ (B : Map) where
  -- what was met of a tree
  pub record IsMetOf (tree : TreeRoot) (met : FileTree) : Type 0 where
    pub settled : are_paired met.names ≡ true → AreSettled (names_of B tree)
    pub sound : are_paired met.names ≡ true → names_findings (names_of B tree) ≡ []
    pub subvolumes : met.names.subvolumes ≡ filter leads_to_root (names_of B tree).indexed
    pub uses : met.uses ≡ record { loose = filter_map loose_in (items_in B tree); used = filter_map used_in (items_in B tree) }
    pub plain : met.is_plain ≡ list_all is_plain (items_in B tree)

  -- a visit of a whole tree of files leaves what was met of the tree
  pub file_tree_met : UnpairedLaw → KeepsUses → (tree : TreeRoot) (none met : FileTree) → none ≡ nothing_met tree.dirid
      → met ≡ fold file_step none (whole B tree.place) → IsMetOf tree met
  file_tree_met names uses tree none met empty is =
      let marks = whole B tree.place in
      let all : met ≡ record {
        names = fold unpaired_step (nothing_unpaired tree.dirid) marks;
        uses = fold uses_step
            (record { loose = []; used = [] }) marks;
        is_plain = list_all is_plain (items_met marks);
      } =
      is ∙ ap (λ m. fold file_step m (whole B tree.place)) empty ∙ file_folded (whole B tree.place) (nothing_met tree.dirid) in
      let tells = names tree.id tree.dirid (whole B tree.place) in
      record {
        settled = λ h. tells.settled (sym (ap (λ (m : FileTree). are_paired m.names) all) ∙ h);
        sound = λ h. tells.sound (sym (ap (λ (m : FileTree). are_paired m.names) all) ∙ h);
        subvolumes = ap (λ (m : FileTree). m.names.subvolumes) all ∙ tells.subvolumes;
        uses = ap (λ (m : FileTree). m.uses) all ∙ uses (whole B tree.place);
        plain = ap (λ (m : FileTree). m.is_plain) all;
      }

  -- the names of a tree, where all were kept
  pub all_names_met : NamesLaw → (tree : TreeRoot) (none all : Names) → none ≡ no_names tree.id tree.dirid → all ≡ fold names_step none (whole B tree.place)
      → all ≡ names_of B tree
  all_names_met names tree none all empty is = is ∙ ap (λ n. fold names_step n (whole B tree.place)) empty ∙ names tree.id tree.dirid (whole B tree.place)

  -- the names of a tree were treated where what is wrong with all of them was put and its entries were kept
  pub treats_names : (tree : TreeRoot) (all : Names) (a b : FoundSet) (names names' : Subvolumes) → all ≡ names_of B tree → Adds (names_findings all) a b
      → names' ≡ subvolumes_at names all.tree all.indexed → TreatsNames B tree a b names names'
  treats_names tree all a b names names' is adds at = record {
    found = adds_as (names_findings all) (names_findings (names_of B tree)) a b (ap names_findings is) adds;
    entries = at ∙ ap (λ (n : Names). subvolumes_at names n.tree n.indexed) is;
  }

  module _ (chunks : List Chunk) (runs : List SumRun) where
    -- before the first tree nothing was put, and no names were kept
    pub treats_none : (set : FoundSet) (names : Subvolumes) → Treats B chunks runs [] set set names names
    treats_none set names = record {
      found = adds_none set;
      entries = λ i. record { refs = names.refs; backrefs = names.backrefs; entries = sym (append-nil names.entries) i };
    }

    -- what is missing of checksums
    missing_added : (tree : TreeRoot) (met : FileTree) (a b : FoundSet) → IsMetOf tree met
        → Adds (tree_missing chunks runs tree.id met.uses.loose met.uses.used) a b → Adds (missing_findings B chunks runs tree) a b
    missing_added tree met a b is adds = adds_as (tree_missing chunks runs tree.id met.uses.loose met.uses.used) (missing_findings B chunks runs tree) a b
        (ap (λ (u : UsesMet). tree_missing chunks runs tree.id u.loose u.used) is.uses) adds

    -- a tree whose names are all paired
    pub treats_paired : (tree : TreeRoot) (met : FileTree) (a b : FoundSet) (names names' : Subvolumes) → IsMetOf tree met → are_paired met.names ≡ true
        → Adds (tree_missing chunks runs tree.id met.uses.loose met.uses.used) a b
        → names' ≡ subvolumes_at names tree.id met.names.subvolumes → Treats B chunks runs (tree ∷ []) a b names names'
    treats_paired tree met a b names names' is paired adds at =
        let missing : List Finding = missing_findings B chunks runs tree in
        let nothing = is.sound paired in
        record {
          found = adds_as missing (flat_map (file_tree_findings B chunks runs) (tree ∷ [])) a b
              (sym (append-nil (missing_findings B chunks runs tree)) ∙ ap (λ l. missing_findings B chunks runs tree ++ l) (sym nothing)
              ∙ sym (append-nil (file_tree_findings B chunks runs tree))) (missing_added tree met a b is adds);
          entries = at ∙ ap (λ l. subvolumes_at names tree.id l) is.subvolumes
              ∙ ap (λ l. with_entries names (map (name_at tree.id) l)) (filter_twice leads_to_root (names_of B tree).indexed)
              ∙ ap (with_entries names) (sym (append-nil (root_entries B tree)));
        }

    -- a tree whose names were all looked at
    pub treats_looked : (tree : TreeRoot) (met : FileTree) (a b c : FoundSet) (names names' names'' : Subvolumes) → IsMetOf tree met
        → Adds (tree_missing chunks runs tree.id met.uses.loose met.uses.used) a b → names' ≡ names
        → TreatsNames B tree b c names' names'' → Treats B chunks runs (tree ∷ []) a c names names''
    treats_looked tree met a b c names names' names'' is adds same treats = record {
      found = adds_as (missing_findings B chunks runs tree ++ names_findings (names_of B tree)) (flat_map (file_tree_findings B chunks runs) (tree ∷ [])) a c
          (sym (append-nil (file_tree_findings B chunks runs tree)))
          (adds_then (missing_findings B chunks runs tree) (names_findings (names_of B tree)) a b c (missing_added tree met a b is adds) treats.found);
      entries = treats.entries ∙ ap (λ n. subvolumes_at n tree.id (names_of B tree).indexed) same
          ∙ ap (with_entries names) (sym (append-nil (root_entries B tree)));
    }

    -- trees of files were treated, and then some more
    pub treats_then : (xs ys : List TreeRoot) (a b c : FoundSet) (m n o : Subvolumes) → Treats B chunks runs xs a b m n → Treats B chunks runs ys b c n o
        → Treats B chunks runs (xs ++ ys) a c m o
    treats_then xs ys a b c m n o one two =
        let f = file_tree_findings B chunks runs in
        let g = root_entries B in
        record {
          found = adds_as (flat_map f xs ++ flat_map f ys) (flat_map f (xs ++ ys)) a c (sym (flat_map-append f xs ys))
              (adds_then (flat_map f xs) (flat_map f ys) a b c one.found two.found);
          entries = two.entries ∙ ap (λ names. with_entries names (flat_map g ys)) one.entries
              ∙ (λ i. record { refs = m.refs; backrefs = m.backrefs; entries = append_assoc m.entries (flat_map g xs) (flat_map g ys) i })
              ∙ ap (with_entries m) (sym (flat_map-append g xs ys));
        }

    -- the first trees of a list, one more
    pub treats_next : (trees : List TreeRoot) (i : ℕ) (d : TreeRoot) (a b c : FoundSet) (m n o : Subvolumes) → i < length trees
        → Treats B chunks runs (take i trees) a b m n → Treats B chunks runs (get_or trees i d ∷ []) b c n o
        → Treats B chunks runs (take (i + 1) trees) a c m o
    treats_next trees i d a b c m n o below before here =
        subst (λ l. Treats B chunks runs l a c m o) (sym (take_more trees i d below))
        (treats_then (take i trees) (get_or trees i d ∷ []) a b c m n o before here)

    -- and all of them
    pub treats_all : (trees : List TreeRoot) (i : ℕ) (a b : FoundSet) (m n : Subvolumes) → length trees ≤ i → Treats B chunks runs (take i trees) a b m n
        → Treats B chunks runs trees a b m n
    treats_all trees i a b m n long h = subst (λ l. Treats B chunks runs l a b m n) (take_all i trees long) h

-- trees of files were treated, and then the names of subvolumes
pub files_put : (fs : Filesystem) (trees files : List TreeRoot) (a b c : FoundSet) (names names' : Subvolumes) → Lists trees fs
    → files ≡ filter (λ tree. is_file_tree tree.id) trees → names ≡ subvolumes_in (root_items fs) []
    → Treats fs.blocks fs.chunks (sum_runs fs) files a b names names' → Adds (subvolume_findings names') b c → Adds (found_on_files fs) a c
files_put fs trees files a b c names names' lists are begun treats adds =
    let f = file_tree_findings fs.blocks fs.chunks (sum_runs fs) in
    let all : files ≡ file_trees fs = are ∙ ap (filter (λ (tree : TreeRoot). is_file_tree tree.id)) lists in
    let same : names' ≡ subvolumes fs = treats.entries ∙ ap (λ n. with_entries n (flat_map (root_entries fs.blocks) files)) begun
    ∙ ap (λ l. subvolumes_in (root_items fs) (flat_map (root_entries fs.blocks) l)) all in
    adds_as (flat_map f files ++ subvolume_findings names') (found_on_files fs) a c (λ i. flat_map f (all i) ++ subvolume_findings (same i))
    (adds_then (flat_map f files) (subvolume_findings names') a b c treats.found adds)

-- What a decision may be, whatever the blocks are.
use Rattle.std.proofs.Common.{◌≡◌, ℕ, ◌^◌, Bool, true, false, cond, not, ◌&&◌, List, Option, Some, None, IsSome, refl}
use Rattle.std.specs.Prelude.{nat_eq, nat_le, nat_lt}
use Rattle.btr_items.specs.declared.inode.Inode.{Inode}
use Rattle.btr_items.specs.Types.{inode_item}
use Rattle.btr_prog.specs.Prog.{Prog, Return, Stop, Need, Emit, bind}
use Rattle.btr_rack.specs.Name.{IsGoodName, is_bad}
use Rattle.btr_super.specs.declared.superblock.Super.{Super}
use Rattle.btr_volume.specs.declared.root.TreeRoot.{TreeRoot}
use Rattle.btr_volume.specs.Lookup.{Lookup}
use Rattle.btr_volume.specs.Tree.{tree_of}
use Rattle.btr_files.specs.declared.clearness.Survey.{Survey}
use Rattle.btr_files.specs.declared.clearness.Survey.TheVariants.{Clear, Compressed, Encoded}
use Rattle.btr_files.specs.Extents.{survey}
use Rattle.btr_files.specs.Names.{inode_in, linked, mounted}
use Rattle.btr_listing.specs.declared.cause.Cause.TheVariants as cause
use Rattle.btr_listing.specs.declared.decision.Decision.{Decision}
use Rattle.btr_listing.specs.declared.decision.Decision.TheVariants.{Skip, Empty, Folder}
use Rattle.btr_listing.specs.declared.rules.Rules.{Rules}
use Rattle.btr_listing.specs.Deciding.{Fits, Met, decided, directory_decided, file_decided, file_found, folder_decided, is_long, link_found, link_of}
use Rattle.btr_listing.specs.Deciding.{mount_found, mount_of, named_decided, root_decided, root_found, subvolume_decided, surveyed, target}
use Rattle.btr_files.proofs.Plains.{Shows, if_shows, inode_shows, linked_shows, mounted_shows, same, survey_shows, then_shows, tree_shows}

module _ {W F A : Type 0} (P : A → Type 0) where
  -- whatever the blocks are, P holds of the value of a lookup
  abbrev pub Gives : Prog W F ⊥ A → Type 0
  Gives (Return a) = P a
  Gives (Stop f) = Unit {0}
  Gives (Need w k) = (bytes : List ℕ) → Gives (k bytes)
  Gives (Emit step p) = Unit {0}

  -- if P holds of the value of what comes after, whatever comes to it, it holds of the value of both in a row
  pub gives_bind : {C : Type 0} (p : Prog W F ⊥ C) (k : C → Prog W F ⊥ A) → ((c : C) → Gives (k c)) → Gives (bind p k)
  gives_bind (Return c) k h = h c
  gives_bind (Stop f) k h = tt
  gives_bind (Need w l) k h = λ bytes. gives_bind (l bytes) k h
  gives_bind (Emit step p) k h = absurd step

  -- if P holds of the value of each of two lookups where a test chooses it, it holds of the one chosen
  gives_if : (b : Bool) (p q : Prog W F ⊥ A) → (b ≡ true → Gives p) → (b ≡ false → Gives q) → Gives (cond b p q)
  gives_if true p q h g = h refl
  gives_if false p q h g = g refl

-- which of two holds
holds_if : {A : Type 0} (P : A → Type 0) (b : Bool) (x y : A) → (b ≡ true → P x) → (b ≡ false → P y) → P (cond b x y)
holds_if P true x y h g = h refl
holds_if P false x y h g = g refl

-- a snapshot that is left out is one that the rules don't want
not_wanted : (a b : Bool) → (a && not b) ≡ true → b ≡ false
not_wanted true true e = absurd (cc)
not_wanted true false e = refl
not_wanted false b e = absurd (cc)

-- a subvolume that is left out is one that the rules don't enter
not_entered : (b : Bool) → not b ≡ true → b ≡ false
not_entered true e = absurd (cc)
not_entered false e = refl

-- a path is too long only where the rules have a longest path
pub has_longest : (longest : Option ℕ) (path : List ℕ) → is_long longest path ≡ true → IsSome longest
has_longest None path e = absurd (cc)
has_longest (Some most) path e = refl

module _ (rules : Rules) (met : Met) where
  -- a decision fits the entry that is met
  abbrev Fit : Decision → Type 0
  Fit = Fits rules met

  module _ (good : IsGoodName met.entry.name) where
    -- a file fits by what its extents come to
    pub survey_fits : (inode : Inode) (found : Survey) → Fit (surveyed inode found)
    survey_fits inode Clear = good
    survey_fits inode Compressed = tt
    survey_fits inode Encoded = tt

    -- whatever the blocks are, a file of a good name fits by its inode, if that is there
    file_fits : (found : Option Inode) → Gives Fit (file_found met found)
    file_fits None = tt
    file_fits (Some inode) =
        let p = survey met.tree (target met) in
        gives_if Fit (nat_lt (2 ^ 60) inode.size) (Return (Skip cause.Size)) (bind p (λ found. Return (surveyed inode found))) (λ e. tt)
        (λ e. gives_bind Fit p (λ found. Return (surveyed inode found)) (survey_fits inode))

    module _ (shallow : met.deep ≡ false) where
      -- whatever the blocks are, a directory fits that isn't too deep and has a good name
      directory_fits : Gives Fit (directory_decided met)
      directory_fits =
          gives_bind Fit (linked (link_of met) met.tree (target met)) (λ is. Return (link_found met is))
          (λ is. holds_if Fit is (Folder met.tree (target met)) (Skip cause.Link) (λ e. (shallow, good)) (λ e. tt))

      -- a subvolume fits by its root
      pub root_fits : (found : Option TreeRoot) → Fit (root_found rules found)
      root_fits None = tt
      root_fits (Some inner) =
          let old = not (nat_eq inner.offset 0) in
          holds_if Fit (old && not rules.snapshots) (Skip cause.Snapshot) (Folder inner inner.dirid) (not_wanted old rules.snapshots)
          (λ e. (shallow, good))

      -- whatever the blocks are, a subvolume fits that isn't too deep and has a good name
      subvolume_fits : (s : Super) → Gives Fit (subvolume_decided rules s met)
      subvolume_fits s =
          let p = mounted (mount_of met) s (target met) in
          gives_if Fit (not rules.subvolumes) (Return (Skip cause.Subvolume)) (bind p (mount_found rules met s)) (not_entered rules.subvolumes)
          (λ e. gives_bind Fit p (mount_found rules met s)
          (λ is. gives_if Fit is (root_decided rules s met) (Return Empty)
          (λ e. gives_bind Fit (tree_of s (target met)) (λ found. Return (root_found rules found)) root_fits) (λ e. (shallow, good))))

    -- whatever the blocks are, an entry of a good name fits by its path and its kind
    named_fits : (s : Super) → Gives Fit (named_decided rules s met)
    named_fits s =
        let row = met.entry.row in
        gives_if Fit (is_long rules.longest met.path) (Return (Skip cause.Path)) _ (has_longest rules.longest met.path) (λ e.
        gives_if Fit (nat_eq row.kind 7) (Return (Skip cause.Symlink)) _ (λ e. tt) (λ e.
        gives_if Fit (nat_le 3 row.kind) (Return (Skip cause.Special)) _ (λ e. tt) (λ e.
        gives_if Fit (nat_eq row.kind 1) (file_decided met) (folder_decided rules s met)
        (λ e. gives_bind Fit (inode_in met.tree (target met)) (file_found met) file_fits)
        (λ e. gives_if Fit met.deep (Return (Skip cause.Depth)) _ (λ e. e) (λ high.
        gives_if Fit (nat_eq row.location.kind inode_item) (directory_decided met) (subvolume_decided rules s met)
        (λ e. directory_fits high) (λ e. subvolume_fits high s))))))

module _ (rules : Rules) (s : Super) (met : Met) where
  -- whatever the blocks are, a decision fits its entry
  pub decided_fits : Gives (Fits rules met) (decided rules s met)
  decided_fits =
      gives_if (Fits rules met) (is_bad met.entry.name) (Return (Skip cause.Name)) (named_decided rules s met) (λ e. e)
      (λ good. named_fits rules met good s)

  -- a lookup hangs on no byte of a sector without a checksum
  abbrev Seeks : Lookup Decision → Type 0
  Seeks p = Shows same p

  -- what a file comes to by its inode hangs on no byte of a sector without a checksum
  file_shows : (found : Option Inode) → Seeks (file_found met found)
  file_shows None = tt
  file_shows (Some inode) =
      let p = survey met.tree (target met) in
      if_shows same (nat_lt (2 ^ 60) inode.size) (Return (Skip cause.Size)) (bind p (λ found. Return (surveyed inode found))) tt
      (then_shows p (λ found. Return (surveyed inode found)) (survey_shows met.tree (target met)) (λ found. tt))

  -- what a directory comes to hangs on no byte of a sector without a checksum
  directory_shows : Seeks (directory_decided met)
  directory_shows =
      then_shows (linked (link_of met) met.tree (target met)) (λ is. Return (link_found met is))
      (linked_shows (link_of met) met.tree (target met)) (λ is. tt)

  -- what a subvolume comes to hangs on no byte of a sector without a checksum
  subvolume_shows : Seeks (subvolume_decided rules s met)
  subvolume_shows =
      let p = mounted (mount_of met) s (target met) in
      if_shows same (not rules.subvolumes) (Return (Skip cause.Subvolume)) (bind p (mount_found rules met s)) tt
      (then_shows p (mount_found rules met s) (mounted_shows (mount_of met) s (target met))
      (λ is. if_shows same is (root_decided rules s met) (Return Empty)
      (then_shows (tree_of s (target met)) (λ found. Return (root_found rules found)) (tree_shows s (target met)) (λ found. tt)) tt))

  -- a decision hangs on no byte of a sector without a checksum
  pub decided_shows : Shows same (decided rules s met)
  decided_shows =
      let row = met.entry.row in
      if_shows same (is_bad met.entry.name) (Return (Skip cause.Name)) _ tt
      (if_shows same (is_long rules.longest met.path) (Return (Skip cause.Path)) _ tt
      (if_shows same (nat_eq row.kind 7) (Return (Skip cause.Symlink)) _ tt
      (if_shows same (nat_le 3 row.kind) (Return (Skip cause.Special)) _ tt
      (if_shows same (nat_eq row.kind 1) (file_decided met) (folder_decided rules s met)
      (then_shows (inode_in met.tree (target met)) (file_found met) (inode_shows met.tree (target met)) file_shows)
      (if_shows same met.deep (Return (Skip cause.Depth)) _ tt
      (if_shows same (nat_eq row.location.kind inode_item) (directory_decided met) (subvolume_decided rules s met)
      directory_shows subvolume_shows))))))

-- What is sent has a path that isn't too long, and no file is too large.
use Rattle.std.proofs.Common.{◌≡◌, ℕ, ◌≤◌, ◌^◌, Bool, true, false, cond, length, Option, Some, None, refl, arith}
use Rattle.std.specs.Prelude.{nat_eq, nat_le, nat_lt}
use Rattle.std.proofs.lemmas.Bool.Decides.{nat_tests}
use Rattle.btr_items.specs.declared.inode.Inode.{Inode}
use Rattle.btr_items.specs.Types.{inode_item}
use Rattle.btr_prog.specs.Prog.{Prog, Return, bind}
use Rattle.btr_rack.specs.Name.{is_bad}
use Rattle.btr_super.specs.declared.superblock.Super.{Super}
use Rattle.btr_files.specs.declared.clearness.Survey.{Survey}
use Rattle.btr_files.specs.declared.clearness.Survey.TheVariants.{Clear, Compressed, Encoded}
use Rattle.btr_files.specs.Extents.{survey}
use Rattle.btr_files.specs.Names.{inode_in, linked}
use Rattle.btr_listing.specs.declared.cause.Cause.TheVariants as cause
use Rattle.btr_listing.specs.declared.decision.Decision.{Decision}
use Rattle.btr_listing.specs.declared.decision.Decision.TheVariants.{Skip, Empty, Folder}
use Rattle.btr_listing.specs.declared.decision.Decision.TheVariants as decision
use Rattle.btr_listing.specs.Deciding.{Met, decided, directory_decided, file_decided, file_found, folder_decided, is_long, link_found, link_of}
use Rattle.btr_listing.specs.Deciding.{named_decided, subvolume_decided, surveyed, target}
use Rattle.btr_listing.proofs.Decidings.{Gives, gives_bind}
use Rattle.btr_send.specs.Sending.{rules}

module _ {W F A : Type 0} (P : A → Type 0) where
  -- what holds of the value of each of two lookups, where a test chooses it, holds of the one chosen
  gives_if : (b : Bool) (p q : Prog W F ⊥ A) → (b ≡ true → Gives P p) → (b ≡ false → Gives P q) → Gives P (cond b p q)
  gives_if true p q h g = h refl
  gives_if false p q h g = g refl

-- what holds of two values holds of the one that a test chooses
holds_if : {A : Type 0} (P : A → Type 0) (b : Bool) (x y : A) → P x → P y → P (cond b x y)
holds_if P true x y h g = h
holds_if P false x y h g = g

-- where one number isn't found below another, that one is at most the first
not_less : (m n : ℕ) → nat_lt m n ≡ false → n ≤ m
not_less m n h = grind (arith, nat_tests)

module _ (met : Met) where
  -- no directory is left empty
  abbrev pub IsShort : Decision → Type 0
  IsShort (Skip cause) = Unit {0}
  IsShort (decision.File inode) = (length met.path ≤ 4096) × (inode.size ≤ 2 ^ 60)
  IsShort Empty = ⊥
  IsShort (Folder tree dirid) = length met.path ≤ 4096

  module _ (short : length met.path ≤ 4096) where
    -- a file that isn't too large is still short by what its extents come to
    survey_short : (inode : Inode) (small : inode.size ≤ 2 ^ 60) (found : Survey) → IsShort (surveyed inode found)
    survey_short inode small Clear = (short, small)
    survey_short inode small Compressed = tt
    survey_short inode small Encoded = tt

    -- whatever the blocks are, a file with a short path is sent only if it isn't too large
    file_short : (found : Option Inode) → Gives IsShort (file_found met found)
    file_short None = tt
    file_short (Some inode) =
        let p = survey met.tree (target met) in
        gives_if IsShort (nat_lt (2 ^ 60) inode.size) (Return (Skip cause.Size)) (bind p (λ found. Return (surveyed inode found))) (λ e. tt)
        (λ e. gives_bind IsShort p (λ found. Return (surveyed inode found)) (survey_short inode (not_less (2 ^ 60) inode.size e)))

    -- whatever the blocks are, a directory with a short path is entered or left out
    directory_short : Gives IsShort (directory_decided met)
    directory_short =
        gives_bind IsShort (linked (link_of met) met.tree (target met)) (λ is. Return (link_found met is))
        (λ is. holds_if IsShort is (Folder met.tree (target met)) (Skip cause.Link) short tt)

  -- whatever the blocks are, an entry of a good name is sent only with a short path, and a file only if it isn't too large
  named_short : (s : Super) → Gives IsShort (named_decided rules s met)
  named_short s =
      let row = met.entry.row in
      gives_if IsShort (is_long rules.longest met.path) (Return (Skip cause.Path)) _ (λ e. tt) (λ long.
      gives_if IsShort (nat_eq row.kind 7) (Return (Skip cause.Symlink)) _ (λ e. tt) (λ e.
      gives_if IsShort (nat_le 3 row.kind) (Return (Skip cause.Special)) _ (λ e. tt) (λ e.
      gives_if IsShort (nat_eq row.kind 1) (file_decided met) (folder_decided rules s met)
      (λ e. gives_bind IsShort (inode_in met.tree (target met)) (file_found met) (file_short (not_less 4096 (length met.path) long)))
      (λ e. gives_if IsShort met.deep (Return (Skip cause.Depth)) _ (λ e. tt) (λ high.
      gives_if IsShort (nat_eq row.location.kind inode_item) (directory_decided met) (subvolume_decided rules s met)
      (λ e. directory_short (not_less 4096 (length met.path) long)) (λ e. tt))))))

  -- whatever the blocks are
  pub decided_short : (s : Super) → Gives IsShort (decided rules s met)
  decided_short s = gives_if IsShort (is_bad met.entry.name) (Return (Skip cause.Name)) (named_decided rules s met) (λ e. tt) (λ e. named_short s)

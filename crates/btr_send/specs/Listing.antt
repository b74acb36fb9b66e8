-- The listing of a directory by the superblock.
use Rattle.std.specs.Prelude.{ℕ, zero, suc, List, Option}
use Rattle.btr_prog.specs.Prog.{Return}
use Rattle.btr_super.specs.declared.superblock.Super.{Super}
use Rattle.btr_volume.specs.Lookup.{Program}
use Rattle.btr_volume.specs.declared.root.TreeRoot.{TreeRoot}
use Rattle.btr_files.specs.declared.counts.Counts.{Counts}
use Rattle.btr_files.specs.declared.dir_row.DirRow.{DirRow}
use Rattle.btr_files.specs.declared.name.NameBuf.{NameBuf}
use Rattle.btr_files.specs.Entries.{DirEntry}
use Rattle.btr_files.specs.Listing.{named_row}
use Rattle.btr_listing.specs.Step.{Step}
use Rattle.btr_restore.specs.Journey.{Listing, Within}
use Rattle.btr_restore.specs.Listing.{is_deep}
use Rattle.btr_send.specs.Sending.{directory, listed_in, treat}

module _ (sums : Option TreeRoot) (s : Super) where
  -- the listing of a directory that has one of so many places: none is listed that has no place
  abbrev pub listing_in : ℕ → Listing
  listing_in zero = λ tree dirid path counts. Return counts
  listing_in (suc n) = directory s sums n

  -- what is done with an entry of a directory, below which so many more may be entered
  abbrev pub treat_in : ℕ → TreeRoot → ℕ → List ℕ → Counts → DirEntry → Program Step Counts
  treat_in n = treat s sums (is_deep n) (listing_in n)

-- what is listed by the superblock in a directory that was entered; so many more may be entered below it
abbrev pub within_for : Option TreeRoot → ℕ → List ℕ → TreeRoot → ℕ → Counts → Super → Program Step Counts
within_for sums n path inner dirid counts s = listed_in s sums (listing_in sums s n) path (Within inner dirid counts)

-- what is done by the superblock with an entry of a directory, with its name in a buffer
abbrev pub entry_for : Option TreeRoot → ℕ → TreeRoot → ℕ → List ℕ → Counts → DirRow → NameBuf → Super → Program Step Counts
entry_for sums n tree dirid path counts row name s = treat_in sums s n tree dirid path counts (named_row row name)

-- the listing of a directory by the superblock, below which so many more may be entered
abbrev pub listing_for : Option TreeRoot → ℕ → TreeRoot → ℕ → List ℕ → Counts → Super → Program Step Counts
listing_for sums n tree dirid path counts s = directory s sums n tree dirid path counts

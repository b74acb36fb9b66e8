-- What the calls on a volume and its files tell, so far as they were steady.
use Rattle.std.specs.Prelude.{ℕ, Bool, Option, Result}
use Rattle.btr_base.specs.declared.stored.Sum.{Sum}
use Rattle.btr_rack.specs.Rack.{Seen}
use Rattle.btr_read.specs.Layout.{Layout}
use Rattle.btr_read.specs.Store.{Blocks, Lent}
use Rattle.btr_read.specs.declared.want.Want.{Want}
use Rattle.btr_walk.specs.declared.fault.TreeFault.{TreeFault}
use Rattle.btr_walk.specs.declared.place.RootPlace.{RootPlace}
use Rattle.btr_walk.specs.declared.scan.Scan.{Scan}
use Rattle.btr_walk.specs.Reading.{Tells, unread_by}
use Rattle.btr_volume.specs.Looking.{Looks}
use Rattle.btr_volume.specs.Lookup.{Lookup}
use Rattle.btr_volume.specs.declared.root.TreeRoot.{TreeRoot}
use Rattle.btr_volume.specs.declared.volume.Volume.{Volume}
use Rattle.btr_files.specs.declared.dir.Dir.{Dir}
use Rattle.btr_files.specs.declared.dir_row.DirRow.{DirRow}
use Rattle.btr_files.specs.declared.extent.Ahead.{Ahead}
use Rattle.btr_files.specs.declared.name.NameBuf.{NameBuf}
use Rattle.btr_files.specs.declared.progress.Progress.{Progress}
use Rattle.btr_files.specs.declared.progress.Source.{Source}
use Rattle.btr_files.specs.declared.streaming.Shown.{Shown}
use Rattle.btr_files.specs.declared.summed.Summed.{Summed}
use Rattle.btr_files.specs.declared.sums_ahead.SumsAhead.{SumsAhead}
use Rattle.btr_files.specs.Ahead.{IsNextExtent, IsLooked}
use Rattle.btr_files.specs.Aheads.{ComesOf, IsAheadIn, IsSummed}
use Rattle.btr_files.specs.Content.{sector_want}
use Rattle.btr_files.specs.Entries.{name_in}
use Rattle.btr_files.specs.Gaps.{IsGap}
use Rattle.btr_files.specs.Giving.{IsGiven, IsNextStep, SectorComes}
use Rattle.btr_files.specs.Listing.{IsNextRow, IsNextEntry}
use Rattle.btr_files.specs.Maps.{TellsAll}
use Rattle.btr_files.specs.Names.{link, linked, mount, mounted}
use Rattle.btr_files.specs.Sums.{kind_in, sum_at}

-- what was answered follows a lookup in a volume
abbrev pub LooksIn : {A : Type 0} → Volume → Seen → Seen → Lookup A → Result A TreeFault → Type 0
LooksIn vol before now lookup result = Looks vol.store.layout before now lookup result

-- whether an inode has one name in all, which is this one
abbrev pub TellsLink : Volume → Seen → Seen → ℕ → ℕ → NameBuf → TreeRoot → ℕ → Result Bool TreeFault → Type 0
TellsLink vol before now parent index name tree ino result =
    LooksIn vol before now (linked (link parent index (name_in name)) tree ino) result

-- whether a subvolume has one name in all, which is this one
abbrev pub TellsMount : Volume → Seen → Seen → ℕ → ℕ → ℕ → NameBuf → ℕ → Result Bool TreeFault → Type 0
TellsMount vol before now parent dirid index name id result =
    LooksIn vol before now (mounted (mount parent (link dirid index (name_in name))) vol.sup id) result

-- the checksum of the sector at an address
abbrev pub TellsSum : Volume → Seen → Seen → Option TreeRoot → ℕ → Result (Option Sum) TreeFault → Type 0
TellsSum vol before now sums addr result = LooksIn vol before now (sum_at (kind_in vol.sup) sums addr) result

-- the sectors from an address on that have no checksum, where the first one has none
abbrev pub TellsGap : Volume → Seen → Seen → Option TreeRoot → ℕ → Result Summed TreeFault → Type 0
TellsGap vol before now sums addr result =
    Tells vol.store.layout before now (λ B. IsGap (kind_in vol.sup) B sums addr result)

-- so far as its calls were steady, the checksums that are kept stay those of the tree with a root
abbrev pub KeepsAhead : Layout → Seen → Seen → RootPlace → SumsAhead → SumsAhead → Type 0
KeepsAhead layout before now root ahead ahead' = Tells layout before now (λ B. IsAheadIn B root ahead → IsAheadIn B root ahead')

-- so far as its calls were steady, the checksums that are kept stay those of the tree
abbrev pub KeepsSums : Volume → Seen → Seen → Option TreeRoot → SumsAhead → SumsAhead → Type 0
KeepsSums vol before now sums ahead ahead' = Tells vol.store.layout before now (λ B. IsSummed B sums ahead → IsSummed B sums ahead')

-- the want of the sector at an address
abbrev pub TellsWant : Volume → Seen → Seen → Source → SumsAhead → ℕ → Result Want TreeFault → Type 0
TellsWant vol before now source ahead addr result =
    Tells vol.store.layout before now (λ B. IsSummed B source.sums ahead
    → ComesOf (unread_by vol.store.layout before now) B (sector_want (kind_in vol.sup) source.sums source.nosum addr) result)

-- a sector, or why it didn't come
abbrev pub TellsSector : Layout → Seen → Seen → Want → Blocks → Result Lent TreeFault → Type 0
TellsSector layout before now want store result =
    TellsAll layout before now (λ Bs. SectorComes (unread_by layout before now) Bs want store result)

-- so far as its calls were steady, what was answered is the next row of a scan of a directory's items
abbrev pub TellsRow : Blocks → Blocks → Seen → Seen → Scan → Scan → NameBuf → Result (Option DirRow) TreeFault → Type 0
TellsRow store store' before now scan scan' name result =
    Tells store.layout before now (λ B. IsNextRow (unread_by store.layout before now) B store store' scan scan' name result)

-- so far as its calls were steady, what was answered is the next entry of a directory
abbrev pub TellsEntry : Volume → Seen → Seen → Dir → Dir → NameBuf → Result (Option DirRow) TreeFault → Type 0
TellsEntry vol before now dir dir' name result =
    Tells vol.store.layout before now (λ B. IsNextEntry (unread_by vol.store.layout before now) B dir dir' name result)

-- the next extent of a scan of a file's items, behind one that ends at `end`
abbrev pub TellsExtent : Source → Blocks → Blocks → Seen → Seen → Scan → Scan → ℕ → Result (Option Ahead) TreeFault → Type 0
TellsExtent source store store' before now scan scan' end result =
    Tells store.layout before now (λ B. IsNextExtent source (unread_by store.layout before now) B store store' scan scan' end result)

-- the next extent of a file
abbrev pub TellsLooked : Source → Layout → Seen → Seen → Progress → Result Progress TreeFault → Type 0
TellsLooked source layout before now p result =
    Tells layout before now (λ B. IsLooked source (unread_by layout before now) B p result)

-- a step of a file that needs no checksum
abbrev pub TellsStep : Volume → Seen → Seen → Source → Progress → Progress → Blocks → Result Shown TreeFault → Type 0
TellsStep vol before now source p p' store result =
    TellsAll vol.store.layout before now (λ Bs. IsGiven (kind_in vol.sup) source (unread_by vol.store.layout before now) Bs p p' store result)

-- so far as its calls were steady, what was answered is a step of a file, and its checksums stay right
abbrev pub TellsSummed : Volume → Seen → Seen → Source → SumsAhead → SumsAhead → Progress → Progress → Blocks → Result Shown TreeFault → Type 0
TellsSummed vol before now source ahead ahead' p p' store result =
    TellsAll vol.store.layout before now (λ Bs. IsSummed (Bs 0) source.sums ahead
    → IsGiven (kind_in vol.sup) source (unread_by vol.store.layout before now) Bs p p' store result × IsSummed (Bs 0) source.sums ahead')

-- so far as its calls were steady, what was answered is the next piece of a file, and its checksums stay right
abbrev pub TellsNextStep : Volume → Seen → Seen → Source → SumsAhead → SumsAhead → Progress → Progress → Blocks
    → Result (Option Shown) TreeFault → Type 0
TellsNextStep vol before now source ahead ahead' p p' store result =
    TellsAll vol.store.layout before now (λ Bs. IsSummed (Bs 0) source.sums ahead
    → IsNextStep (kind_in vol.sup) source (unread_by vol.store.layout before now) Bs p p' store result
    × IsSummed (Bs 0) source.sums ahead')

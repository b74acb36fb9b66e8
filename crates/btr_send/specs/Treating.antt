-- What the calls that treat an entry do.
use Rattle.std.specs.Prelude.{ℕ, List, Option, if◌then◌else◌}
use Rattle.btr_items.specs.declared.inode.Inode.{Inode}
use Rattle.btr_super.specs.declared.superblock.Super.{Super}
use Rattle.btr_volume.specs.declared.root.TreeRoot.{TreeRoot}
use Rattle.btr_volume.specs.Lookup.{Program}
use Rattle.btr_files.specs.declared.counts.Counts.{Counts}
use Rattle.btr_rack.specs.Name.{is_bad}
use Rattle.btr_listing.specs.declared.cause.Cause.{Cause}
use Rattle.btr_listing.specs.declared.cause.Cause.TheVariants.{Name, Path}
use Rattle.btr_listing.specs.declared.decision.Decision.{Decision}
use Rattle.btr_listing.specs.declared.entry.Entry.{Entry}
use Rattle.btr_listing.specs.Looked.{met_by}
use Rattle.btr_listing.specs.Step.{Step}
use Rattle.btr_restore.specs.Journey.{Treated}
use Rattle.btr_send.specs.Sending as sending

-- a file that is written, by its inode and the superblock
abbrev pub written_for : Option TreeRoot → Entry → Inode → Counts → Super → Program Step Treated
written_for sums entry inode counts s =
    sending.written s sums entry.tree entry.row.location.objectid entry.path.now inode counts

-- what is done about an entry, by what it came to and by the superblock
abbrev pub done_for : Option TreeRoot → Entry → Decision → Counts → Super → Program Step Treated
done_for sums entry decision counts s = sending.done_about s sums (met_by entry) counts decision

-- what is done about an entry, from its first lookup on, by the superblock
abbrev pub treated_for : Option TreeRoot → Entry → Counts → Super → Program Step Treated
treated_for sums entry counts s = sending.treated s sums (met_by entry) counts

-- why an entry with too long a path is left out: the rule on names comes first
abbrev pub overlong : List ℕ → Cause
overlong name = if is_bad name then Name else Path

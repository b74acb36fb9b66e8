-- Why entries are left out.
use Rattle.std.specs.Prelude.{ℕ, List, codes}
use Rattle.btr_listing.specs.declared.cause.Cause.{Cause}
use Rattle.btr_listing.specs.declared.cause.Cause.TheVariants.{Name, Path, Symlink, Special, Missing, Size}
use Rattle.btr_listing.specs.declared.cause.Cause.TheVariants.{Compressed, Encoded, Depth, Link, Subvolume, Snapshot}

-- the word of a cause in the line of an entry that is left out
abbrev pub cause_text : Cause → List ℕ
cause_text Name = codes "name"
cause_text Path = codes "path"
cause_text Symlink = codes "symlink"
cause_text Special = codes "special"
cause_text Missing = codes "missing"
cause_text Size = codes "size"
cause_text Compressed = codes "compressed"
cause_text Encoded = codes "encoded"
cause_text Depth = codes "depth"
cause_text Link = codes "link"
cause_text Subvolume = codes "subvolume"
cause_text Snapshot = codes "snapshot"

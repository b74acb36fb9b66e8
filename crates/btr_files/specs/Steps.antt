-- What the code of a lookup makes of each item.
use Rattle.std.specs.Prelude.{ℕ, Bool, false, List, [], ◌∷◌, nat_le, if◌then◌else◌, Option, Some, None, Result, Ok, Err}
use Rattle.std.specs.List.{fold}
use Rattle.btr_items.specs.FileExtent.{file_extent_of, end_of}
use Rattle.btr_items.specs.Inode.{inode_of}
use Rattle.btr_items.specs.RootRef.{root_ref_of}
use Rattle.btr_items.specs.declared.fault.ItemFault.{ItemFault}
use Rattle.btr_items.specs.declared.file_extent.FileExtent.{FileExtent}
use Rattle.btr_items.specs.declared.inode.Inode.{Inode}
use Rattle.btr_walk.specs.Folds.{Next, Go, End, Broken}
use Rattle.btr_walk.specs.Le.{TreeItem}
use Rattle.btr_files.specs.declared.clearness.Survey.{Survey}
use Rattle.btr_files.specs.declared.clearness.Survey.TheVariants.{Clear, Compressed, Encoded}
use Rattle.btr_files.specs.declared.finding.InodeSearch.{InodeSearch}
use Rattle.btr_files.specs.declared.met.Met.{Met}
use Rattle.btr_files.specs.declared.met.Met.TheVariants as met
use Rattle.btr_files.specs.declared.met.Wanted.{Wanted}
use Rattle.btr_files.specs.declared.naming.LinkSearch.{LinkSearch}
use Rattle.btr_files.specs.declared.naming.MountSearch.{MountSearch}
use Rattle.btr_files.specs.declared.surveying.Surveyor.{Surveyor}
use Rattle.btr_files.specs.Entries.{name_in}
use Rattle.btr_files.specs.Extents.{judged}
use Rattle.btr_files.specs.Names.{Link, Mount, link, links_of, mount, mount_of, same_link, same_mount}

-- on by what an item holds; one that breaks its form is broken
abbrev pub formed_next : {St R X : Type 0} → Result X ItemFault → (X → Next St R) → Next St R
formed_next (Ok fields) k = k fields
formed_next (Err fault) k = Broken

-- the one inode
abbrev pub inode_step : InodeSearch → TreeItem → Next InodeSearch (Option Inode)
inode_step s item = formed_next (inode_of item.body) (λ inode. End (Some inode))

-- the link that is wanted
abbrev pub link_in : Wanted → Link
link_in wanted = link wanted.parent wanted.index (name_in wanted.name)

-- one name more was met
abbrev pub met_more : Met → Bool → Met
met_more met.None is_wanted = met.One is_wanted
met_more (met.One first) is_wanted = met.Several
met_more met.Several is_wanted = met.Several

-- some names more were met
abbrev pub met_links : Link → Met → List Link → Met
met_links wanted = fold (λ seen found. met_more seen (same_link found wanted))

-- the names of an item more, or it breaks its form
abbrev pub links_met : Link → Met → Result (List Link) ItemFault → Option Met
links_met wanted seen (Ok more) = Some (met_links wanted seen more)
links_met wanted seen (Err fault) = None

-- exactly one name was met, and it is the one that is wanted
abbrev pub is_one : Met → Bool
is_one met.None = false
is_one (met.One is_wanted) = is_wanted
is_one met.Several = false

-- the search for a link goes on with the names of one item more
abbrev pub link_step : LinkSearch → TreeItem → Next LinkSearch Bool
link_step s item =
    formed_next (links_of item.key item.body) (λ more. Go (record { wanted = s.wanted; met = met_links (link_in s.wanted) s.met more }))

-- the names that the parts of a body lead to, or that one breaks its form
abbrev pub parts_met : {T : Type 0} → Link → (T → Link) → Met → List (Result T ItemFault) → Option Met
parts_met wanted of seen [] = Some seen
parts_met wanted of seen (Ok part ∷ parts) = parts_met wanted of (met_more seen (same_link (of part) wanted)) parts
parts_met wanted of seen (Err fault ∷ parts) = None

-- the name of a subvolume that is wanted
abbrev pub mount_in : MountSearch → Mount
mount_in s = mount s.tree (link_in s.wanted)

-- the search for a name of a subvolume goes on with one item more
abbrev pub mount_step : MountSearch → TreeItem → Next MountSearch Bool
mount_step s item = formed_next (root_ref_of item.body)
    (λ part. Go (record { tree = s.tree; wanted = s.wanted; met = met_more s.met (same_mount (mount_of item.key item.body part) (mount_in s)) }))

-- on where it is clear
abbrev pub cleared : Survey → Next Surveyor Survey → Next Surveyor Survey
cleared Clear next = next
cleared Compressed next = End Compressed
cleared Encoded next = End Encoded

-- a survey of a file goes on with an extent that begins after the last one and is clear
abbrev pub survey_fields : Surveyor → ℕ → FileExtent → Next Surveyor Survey
survey_fields s start fields = if nat_le s.end start then cleared (judged fields) (Go (record { end = end_of start fields })) else Broken

-- a survey of a file goes on with one item more, if it has its form
abbrev pub survey_step : Surveyor → TreeItem → Next Surveyor Survey
survey_step s item = formed_next (file_extent_of item.key.offset item.body) (survey_fields s item.key.offset)

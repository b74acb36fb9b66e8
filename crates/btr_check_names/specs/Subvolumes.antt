-- The names of subvolumes.
use Rattle.std.specs.Prelude.{◌≡◌, ℕ, ◌==◌, ◌&&◌, Bool, List, [], ◌∷◌, ◌++◌, map, filter, filter_map, flat_map, fold, Option, Result, if◌then◌else◌}
use Rattle.std.specs.BTreeSet.{BTreeSet, contains}
use Rattle.std.specs.Cmp.Lexicographic.{slice_cmp}
use Rattle.std.specs.List.{list_any}
use Rattle.std.specs.Ordering.{nat_cmp, ordering_then}
use Rattle.std.specs.Str.{bytes_eq}
use Rattle.std.specs.declared.cmp.Ordering.{Ordering}
use Rattle.btr_base.specs.Field.{bytes_at}
use Rattle.btr_base.specs.declared.key.Key.{Key}
use Rattle.btr_items.specs.RootRef.{root_ref_of}
use Rattle.btr_items.specs.Types.{root_item, root_backref, root_ref}
use Rattle.btr_items.specs.declared.fault.ItemFault.{ItemFault}
use Rattle.btr_items.specs.declared.root_ref.RootRef.{RootRef}
use Rattle.btr_tour.specs.Tour.{Mark, Block, Child, Item, Left, items_met}
use Rattle.btr_walk.specs.Le.{TreeItem}
use Rattle.btr_findings.specs.declared.finding.Finding.{Finding}
use Rattle.btr_findings.specs.declared.kind.Kind.TheVariants as kind
use Rattle.btr_findings.specs.Findings.{found, unless}
use Rattle.btr_check_names.specs.declared.subvolume_name.SubvolumeName.{SubvolumeName}
use Rattle.btr_check_names.specs.Entry.{Entry}
use Rattle.btr_check_names.specs.Items.{all_read}
use Rattle.btr_check_names.specs.Subvolume.{NamedSubvolume, name_of}

-- the name of a subvolume, by its parent tree, its own, and the fields of the item
abbrev pub name_with : ℕ → ℕ → List ℕ → RootRef → NamedSubvolume
name_with parent child body fields = record {
  parent = parent;
  dirid = fields.dirid;
  index = fields.sequence;
  child = child;
  name = bytes_at fields.name_len fields.name_at body;
}

-- the name of a subvolume in an item, if it is formed
abbrev pub names_read : ℕ → ℕ → List ℕ → List (Result RootRef ItemFault) → List NamedSubvolume
names_read parent child body parts = map (name_with parent child body) (all_read parts)

-- the name in a ROOT_REF, which goes from the parent to the child
abbrev pub root_refs_in : Key → List ℕ → List NamedSubvolume
root_refs_in key body = if key.kind == root_ref then names_read key.objectid key.offset body (root_ref_of body ∷ []) else []

-- the name in a ROOT_BACKREF, which goes from the child to the parent
abbrev pub root_backrefs_in : Key → List ℕ → List NamedSubvolume
root_backrefs_in key body = if key.kind == root_backref then names_read key.offset key.objectid body (root_ref_of body ∷ []) else []

-- an entry leads to a subvolume
abbrev pub leads_to_root : Entry → Bool
leads_to_root entry = entry.location.kind == root_item

-- an entry of a tree that leads to a subvolume, as its name
abbrev pub name_at : ℕ → Entry → NamedSubvolume
name_at tree entry = record { parent = tree; dirid = entry.dir; index = entry.offset; child = entry.location.objectid; name = entry.name }

-- the entries of a tree that lead to subvolumes, as their names
abbrev pub names_at : ℕ → List Entry → List NamedSubvolume
names_at tree entries = map (name_at tree) (filter leads_to_root entries)

-- the names of subvolumes: those in ROOT_REFs, those in ROOT_BACKREFs, and those of entries
pub record Subvolumes : Type 0 where
  pub refs : List NamedSubvolume
  pub backrefs : List NamedSubvolume
  pub entries : List NamedSubvolume

-- no names of subvolumes
abbrev pub no_subvolumes : Subvolumes
no_subvolumes = record { refs = []; backrefs = []; entries = [] }

-- the names of subvolumes after one more item of the root tree
abbrev pub subvolumes_with : Subvolumes → Key → List ℕ → Subvolumes
subvolumes_with names key body =
    record { refs = names.refs ++ root_refs_in key body; backrefs = names.backrefs ++ root_backrefs_in key body; entries = names.entries }

-- of what a tour of the root tree meets, the items count
abbrev pub subvolumes_step : Subvolumes → Mark → Subvolumes
subvolumes_step names (Block place block) = names
subvolumes_step names (Child addr place) = names
subvolumes_step names (Item item) = subvolumes_with names item.key item.body
subvolumes_step names (Left fault) = names

-- what a tour of the root tree leaves is what its items hold, beside the entries
abbrev pub subvolumes_in : List TreeItem → List NamedSubvolume → Subvolumes
subvolumes_in items entries = record {
  refs = flat_map (λ (item : TreeItem). root_refs_in item.key item.body) items;
  backrefs = flat_map (λ (item : TreeItem). root_backrefs_in item.key item.body) items;
  entries = entries;
}

-- what a tour of the root tree leaves, before any entries, is what its items hold
abbrev pub SubvolumesLaw : Type 0
SubvolumesLaw = (marks : List Mark) → fold subvolumes_step no_subvolumes marks ≡ subvolumes_in (items_met marks) []

-- the names of subvolumes after the entries of one more tree
abbrev pub subvolumes_at : Subvolumes → ℕ → List Entry → Subvolumes
subvolumes_at names tree entries = record { refs = names.refs; backrefs = names.backrefs; entries = names.entries ++ names_at tree entries }

-- two names of subvolumes are the same
abbrev pub same_name : NamedSubvolume → NamedSubvolume → Bool
same_name a b = (a.parent == b.parent) && (a.dirid == b.dirid) && (a.index == b.index) && (a.child == b.child) && bytes_eq a.name b.name

-- a name stands in a ROOT_REF, in a ROOT_BACKREF, and in an entry
abbrev pub name_kept : Subvolumes → NamedSubvolume → Option Finding
name_kept names name =
    unless (list_any (same_name name) names.refs && list_any (same_name name) names.backrefs && list_any (same_name name) names.entries)
    (found kind.RootRef (name.parent ∷ name.child ∷ []))

-- what is wrong with the names of subvolumes
abbrev pub subvolume_findings : Subvolumes → List Finding
subvolume_findings names = filter_map (name_kept names) (names.refs ++ names.backrefs)

-- names are ordered field by field
abbrev pub name_cmp : SubvolumeName → SubvolumeName → Ordering
name_cmp a b =
    ordering_then (nat_cmp a.parent b.parent)
    (ordering_then (nat_cmp a.dirid b.dirid)
    (ordering_then (nat_cmp a.index b.index) (ordering_then (nat_cmp a.child b.child) (slice_cmp nat_cmp a.name.now b.name.now))))

-- a set has just the names of a list
abbrev pub HasNames : List NamedSubvolume → BTreeSet SubvolumeName → Type 0
HasNames names set = (one : SubvolumeName) → contains name_cmp set one ≡ list_any (same_name (name_of one)) names

-- The findings of one rule after another are those on the names of a tree, and on those of subvolumes.
use Rattle.std.proofs.Common.{ℕ, List, ◌++◌, filter_map, sym}
use Rattle.std.proofs.lemmas.List.Elements.{filter_map-append}
use Rattle.btr_findings.specs.declared.finding.Finding.{Finding}
use Rattle.btr_findings.specs.Findings.{Adds, FoundSet, PutsRows}
use Rattle.btr_findings.proofs.Adding.{adds_as, adds_then}
use Rattle.btr_findings.proofs.Rules.{adds_rows}
use Rattle.btr_check_names.specs.Names.{Names, findings_but, entry_item, entry_index, entry_ref, ref_entry, entry_mode, link_count, dir_size, orphan}
use Rattle.btr_check_names.specs.Subvolumes.{Subvolumes, name_kept, subvolume_findings}

module _ (names : Names) (removed : List ℕ) where
  -- the findings on entries at indexes without one under their hash
  abbrev rows_items : List Finding
  rows_items = filter_map (entry_item names.tree removed names.hashed) names.indexed

  -- the findings on entries under hashes without one at an index
  abbrev rows_indexes : List Finding
  rows_indexes = filter_map (entry_index names.tree removed names.indexed) names.hashed

  -- the findings on entries that lead to inodes without their reference
  abbrev rows_refs : List Finding
  rows_refs = filter_map (entry_ref names.tree removed names.refs) names.indexed

  -- the findings on references without their entry
  abbrev rows_entries : List Finding
  rows_entries = filter_map (ref_entry names.tree names.dirid names.indexed) names.refs

  -- the findings on entries whose inode isn't there, or of another kind
  abbrev rows_modes : List Finding
  rows_modes = filter_map (entry_mode names.tree removed names.inodes) names.indexed

  -- the findings on inodes that state another number of references
  abbrev rows_links : List Finding
  rows_links = filter_map (link_count names.tree names.refs) names.inodes

  -- the findings on directories that state another size
  abbrev rows_sizes : List Finding
  rows_sizes = filter_map (dir_size names.tree names.orphans names.indexed) names.inodes

  -- the findings on inodes without links that are no orphans
  abbrev rows_orphans : List Finding
  rows_orphans = filter_map (orphan names.tree names.orphans) names.inodes

  -- the findings of the eight rules, put one rule after another, are all that are on the names
  pub all_added : (none of_items of_indexes of_refs of_entries of_modes of_links of_sizes of_orphans : FoundSet)
      → PutsRows (entry_item names.tree removed names.hashed) names.indexed none of_items
      → PutsRows (entry_index names.tree removed names.indexed) names.hashed of_items of_indexes
      → PutsRows (entry_ref names.tree removed names.refs) names.indexed of_indexes of_refs
      → PutsRows (ref_entry names.tree names.dirid names.indexed) names.refs of_refs of_entries
      → PutsRows (entry_mode names.tree removed names.inodes) names.indexed of_entries of_modes
      → PutsRows (link_count names.tree names.refs) names.inodes of_modes of_links
      → PutsRows (dir_size names.tree names.orphans names.indexed) names.inodes of_links of_sizes
      → PutsRows (orphan names.tree names.orphans) names.inodes of_sizes of_orphans
      → Adds (findings_but removed names) none of_orphans
  all_added none of_items of_indexes of_refs of_entries of_modes of_links of_sizes of_orphans items indexes refs entries modes links sizes orphans =
      let to_items = adds_rows (entry_item names.tree removed names.hashed) names.indexed none of_items items in
      let to_indexes = adds_then (rows_items) rows_indexes none of_items of_indexes to_items
      (adds_rows (entry_index names.tree removed names.indexed) names.hashed of_items of_indexes indexes) in
      let to_refs = adds_then (rows_items ++ rows_indexes) rows_refs none of_indexes of_refs to_indexes
      (adds_rows (entry_ref names.tree removed names.refs) names.indexed of_indexes of_refs refs) in
      let to_entries = adds_then (rows_items ++ rows_indexes ++ rows_refs) rows_entries none of_refs of_entries to_refs
      (adds_rows (ref_entry names.tree names.dirid names.indexed) names.refs of_refs of_entries entries) in
      let to_modes = adds_then (rows_items ++ rows_indexes ++ rows_refs ++ rows_entries) rows_modes none of_entries of_modes to_entries
      (adds_rows (entry_mode names.tree removed names.inodes) names.indexed of_entries of_modes modes) in
      let to_links = adds_then (rows_items ++ rows_indexes ++ rows_refs ++ rows_entries ++ rows_modes) rows_links none of_modes of_links to_modes
      (adds_rows (link_count names.tree names.refs) names.inodes of_modes of_links links) in
      let to_sizes = adds_then (rows_items ++ rows_indexes ++ rows_refs ++ rows_entries ++ rows_modes ++ rows_links) rows_sizes none of_links of_sizes
      to_links (adds_rows (dir_size names.tree names.orphans names.indexed) names.inodes of_links of_sizes sizes) in
      adds_then (rows_items ++ rows_indexes ++ rows_refs ++ rows_entries ++ rows_modes ++ rows_links ++ rows_sizes) rows_orphans none of_sizes
      of_orphans to_sizes (adds_rows (orphan names.tree names.orphans) names.inodes of_sizes of_orphans orphans)

-- the names in ROOT_REFs, and then those in ROOT_BACKREFs
pub both_added : (names : Subvolumes) (none of_refs of_backrefs : FoundSet) → PutsRows (name_kept names) names.refs none of_refs
    → PutsRows (name_kept names) names.backrefs of_refs of_backrefs
    → Adds (subvolume_findings names) none of_backrefs
both_added names none of_refs of_backrefs refs backrefs =
    let first : List Finding = filter_map (name_kept names) names.refs in
    let second : List Finding = filter_map (name_kept names) names.backrefs in
    adds_as (first ++ second) (subvolume_findings names) none of_backrefs (sym (filter_map-append (name_kept names) names.refs names.backrefs))
    (adds_then first second none of_refs of_backrefs (adds_rows (name_kept names) names.refs none of_refs refs)
    (adds_rows (name_kept names) names.backrefs of_refs of_backrefs backrefs))

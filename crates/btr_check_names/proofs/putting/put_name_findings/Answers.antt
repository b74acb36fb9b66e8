use Rattle.std.proofs.Common.{◌≡◌, ℕ, List, ap, ◌∙◌, OnOk, subst}
use Rattle.std.proofs.lemmas.Result.{on_ok_weaker}
use Rattle.btr_findings.proofs.Adding.{adds_as}
use Rattle.btr_findings.specs.Findings.{Adds}
use Rattle.btr_check_names.specs.Names.{Names, findings_but, names_findings, removed_dirs}
use Rattle.btr_check_names.proofs.Together.{all_added}
use Rattle.btr_check_names.proofs.putting.put_name_findings.Goals as goal

pub returns : goal.returns
returns c =
    let fields = c.names.inside in
    let names : Names = record {
      tree = fields.tree;
      dirid = fields.dirid;
      inodes = c.as_slice-inodes.result.now;
      indexed = fields.indexed;
      hashed = fields.hashed;
      refs = fields.refs;
      orphans = c.as_slice-orphans.result.now;
    } in
    let inodes = c.as_slice-inodes.ensures.value in
    let orphans = c.as_slice-orphans.ensures.value in
    let removed = c.as_slice-removed.result.now in
    let are : removed ≡ removed_dirs names.orphans names.inodes = c.as_slice-removed.ensures.value ∙ c.in_ok-gone.ensures in
    let same : names ≡ c.args.names.now =
    (λ i. record {
      tree = fields.tree;
      dirid = fields.dirid;
      inodes = inodes i;
      indexed = fields.indexed;
      hashed = fields.hashed;
      refs = fields.refs;
      orphans = orphans i;
    }) ∙ c.names.view_is in
    subst (λ (n : Names). OnOk c.put_orphans.result (Adds (names_findings n) c.args.found.now c.put_orphans.new.found)) same
    (on_ok_weaker c.put_orphans.result
    (λ last. adds_as (findings_but removed names) (names_findings names) c.args.found.now c.put_orphans.new.found
    (ap (λ (r : List ℕ). findings_but r names) are)
    (all_added names removed c.args.found.now c.put_entry_items.new.found c.put_entry_indexes.new.found c.put_entry_refs.new.found
    c.put_ref_entries.new.found c.put_entry_modes.new.found c.put_link_counts.new.found c.put_dir_sizes.new.found c.put_orphans.new.found
    c.in_ok-put_entry_items.ensures c.in_ok-put_entry_indexes.ensures c.in_ok-put_entry_refs.ensures c.in_ok-put_ref_entries.ensures
    c.in_ok-put_entry_modes.ensures c.in_ok-put_link_counts.ensures c.in_ok-put_dir_sizes.ensures last))
    c.put_orphans.ensures)

use Rattle.std.proofs.Common.{Bool, ap, ◌∙◌}
use Rattle.std.proofs.lemmas.Result.{on_ok_weaker}
use Rattle.btr_check_names.specs.Entry.{entry_of}
use Rattle.btr_check_names.specs.Halves.{asked_half, index_half, meets, sided}
use Rattle.btr_check_names.proofs.unpaired.Unpaired.put_indexed.Goals as goal

pub returns : goal.returns
returns c =
    let entry = entry_of c.args.entry.now in
    let old = c.args.self.now in
    let entries = c.in_ok-meet_index.ensures ∙ ap (λ (b : Bool). meets old.entries (index_half b entry)) c.is_aside-is_aside.ensures in
    let links = c.in_ok-ask_link.ensures ∙ ap (λ (b : Bool). meets old.links (sided old.is_turned (asked_half b entry))) c.is_gone-is_gone.ensures in
    on_ok_weaker c.keep_root.result (λ kept. λ i. record {
      dirid = old.dirid;
      is_turned = old.is_turned;
      inodes = c.in_ok-name.ensures i;
      entries = entries i;
      links = links i;
      subvolumes = kept i;
    }) c.keep_root.ensures

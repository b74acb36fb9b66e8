use Rattle.btr_text.proofs.Writing.{wrote_as, cut_as, cut_longer, cut_writes, writes_then, writes_as}
use Rattle.btr_volume.specs.Tree.{root_root, named_root}
use Rattle.btr_volume.specs.Table.{chunk_root}
use Rattle.std.proofs.Common.{◌∙◌, ap}
use Rattle.btr_dump.specs.Pieces.{root_line}
use Rattle.btr_dump.proofs.roots.write_tops.Goals as goal

pub returns-in_err-push_all-clause-text : goal.returns-in_err-push_all-clause-text
returns-in_err-push_all-clause-text g c =
    let s = c.args.s.now in
    let first = root_line (named_root 1 (root_root s)) in
    cut_writes c.from_residual.result c.from_residual.ensures.0
    (cut_longer (root_line (named_root 3 (chunk_root s))) (cut_as first
    (c.top_line.ensures ∙ ap (λ place. root_line (named_root 1 place)) c.root_root.ensures) c.in_err-push_all.ensures.text))

pub returns-clause-text : goal.returns-clause-text
returns-clause-text g c =
    let s = c.args.s.now in
    let first = root_line (named_root 1 (root_root s)) in
    let second = root_line (named_root 3 (chunk_root s)) in
    writes_then _ _ second c.push_all-2.result (wrote_as first (c.top_line.ensures ∙ ap (λ place. root_line (named_root 1 place)) c.root_root.ensures)
    c.in_ok-push_all.ensures.text)
    (writes_as _ _ _ _ _ second c.push_all-2.result (c.top_line-2.ensures ∙ ap (λ place. root_line (named_root 3 place)) c.chunk_root.ensures)
    c.push_all-2.ensures.text)

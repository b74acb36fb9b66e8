use Rattle.std.proofs.Common.{sym, subst, length}
use Rattle.std.specs.List.{All}
use Rattle.std.specs.Result.{IfOk}
use Rattle.btr_items.specs.Form.{HasName}
use Rattle.btr_items.specs.InodeRef.{inode_ref_at}
use Rattle.btr_items.specs.declared.inode_ref.InodeRef.{InodeRef}
use Rattle.btr_items.proofs.Names.{inode_ref_named}
use Rattle.btr_items.proofs.Walks.{all_parts}
use Rattle.btr_items.proofs.inode_ref.inode_refs.Goals as goal

pub returns-clause-names : goal.returns-clause-names
returns-clause-names c =
    let body = c.args.body.now in
    subst (All (λ read. IfOk read (λ (part : InodeRef). HasName body part.name_at part.name_len))) (sym c.new.ensures)
    (all_parts inode_ref_at (λ part. part.end) (λ read. IfOk read (λ (part : InodeRef). HasName body part.name_at part.name_len)) body
    (λ at. inode_ref_named at body) (length body) 0)

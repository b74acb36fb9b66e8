use Rattle.std.proofs.Common.{sym, ◌∙◌}
use Rattle.btr_items.specs.ExtRef.{ext_refs_of}
use Rattle.btr_items.specs.InodeRef.{inode_refs_of}
use Rattle.btr_files.specs.Names.{inode_link, ext_link}
use Rattle.btr_files.specs.Steps.{link_in}
use Rattle.btr_files.proofs.Meeting.{links_empty, names_are, by_refs, by_exts}
use Rattle.btr_files.proofs.naming.with_names.Goals as goal

pub returns-then-is_empty : goal.returns-then-is_empty
returns-then-is_empty c = links_empty (link_in c.args.wanted.now) c.args.met c.args.key c.args.body.now (sym c.is_empty.ensures ∙ c.if-is_empty.true)

pub returns-then-key-eq-INODE_REF : goal.returns-then-key-eq-INODE_REF
returns-then-key-eq-INODE_REF c =
    let wanted = link_in c.args.wanted.now in
    let body = c.args.body.now in
    c.with_refs.ensures ∙ names_are wanted (inode_link c.args.key.offset body) c.args.met body (inode_refs_of body)
    (sym c.is_empty.ensures ∙ c.if-is_empty.false) ∙ by_refs wanted c.args.met c.args.key body c.if-key-eq-INODE_REF.true

pub returns-else-key-eq-INODE_REF : goal.returns-else-key-eq-INODE_REF
returns-else-key-eq-INODE_REF c =
    let wanted = link_in c.args.wanted.now in
    let body = c.args.body.now in
    c.with_ext_refs.ensures ∙ names_are wanted (ext_link body) c.args.met body (ext_refs_of body) (sym c.is_empty.ensures ∙ c.if-is_empty.false)
    ∙ by_exts wanted c.args.met c.args.key body c.if-key-eq-INODE_REF.false

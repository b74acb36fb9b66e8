use Rattle.std.proofs.Common.{sym, ◌∙◌, subst}
use Rattle.btr_files.specs.Gathering.{IsGathered}
use Rattle.btr_files.proofs.Gathered.{refs_are, ext_refs_are}
use Rattle.btr_files.proofs.gathering.add_names.Goals as goal

pub returns-then-key-eq-INODE_REF : goal.returns-then-key-eq-INODE_REF
returns-then-key-eq-INODE_REF c =
    subst (λ x. IsGathered x c.add_refs.new.list c.add_refs.result)
    (refs_are c.args.list.now c.args.key c.args.body.now (sym c.is_empty.ensures ∙ c.if-is_empty.false) c.if-key-eq-INODE_REF.true) c.add_refs.ensures

pub returns-else-key-eq-INODE_REF : goal.returns-else-key-eq-INODE_REF
returns-else-key-eq-INODE_REF c =
    subst (λ x. IsGathered x c.add_ext_refs.new.list c.add_ext_refs.result)
    (ext_refs_are c.args.list.now c.args.key c.args.body.now
    (sym c.is_empty.ensures ∙ c.if-is_empty.false) c.if-key-eq-INODE_REF.false) c.add_ext_refs.ensures

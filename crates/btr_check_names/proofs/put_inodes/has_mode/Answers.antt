use Rattle.std.proofs.Common.{◌==◌, ◌&&◌, ◌||◌, not, sym, ap, ◌∙◌, eq-eqb}
use Rattle.std.specs.List.{list_any}
use Rattle.btr_check_names.specs.declared.inode_at.InodeAt.{InodeAt}
use Rattle.btr_check_names.specs.Entry.{entry_of}
use Rattle.btr_check_names.specs.Names.{fits_mode, format_of}
use Rattle.btr_check_names.proofs.put_inodes.has_mode.Goals as goal

pub returns-else-entry-ne-INODE_ITEM : goal.returns-else-entry-ne-INODE_ITEM
returns-else-entry-ne-INODE_ITEM c = λ inodes has.
    let entry = entry_of c.args.entry.now in
    c.contains.ensures ∙ has (record { number = c.args.entry.now.target.objectid; format = c.mode_of_kind.result })
    ∙ ap (λ format. list_any (λ (at : InodeAt). (entry.location.objectid == at.number) && (format == format_of at.inode)) inodes) c.mode_of_kind.ensures
    ∙ sym (ap (λ leads. not leads || list_any (fits_mode entry) inodes) (eq-eqb entry.location.kind 1 c.if-entry-ne-INODE_ITEM.false))

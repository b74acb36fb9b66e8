use Rattle.btr_listing.proofs.Looking.{looked_else, looked_if, looked_value}
use Rattle.btr_listing.proofs.Numbers.{is_equal, is_other}
use Rattle.btr_listing.proofs.deciding.folder.Goals as goal

pub returns-then-entry-clause-looked : goal.returns-then-entry-clause-looked
returns-then-entry-clause-looked g c = looked_if _ _ _ c.if-entry.true (looked_value _ c.requires.ready)

pub returns-then-entry-eq-INODE_ITEM-clause-looked : goal.returns-then-entry-eq-INODE_ITEM-clause-looked
returns-then-entry-eq-INODE_ITEM-clause-looked g c =
    looked_else _ _ _ c.if-entry.false (looked_if _ _ _ (is_equal _ _ c.if-entry-eq-INODE_ITEM.true) c.directory.ensures.looked)

pub returns-clause-looked : goal.returns-clause-looked
returns-clause-looked g c =
    looked_else _ _ _ c.if-entry.false (looked_else _ _ _ (is_other _ _ c.if-entry-eq-INODE_ITEM.false) c.subvolume.ensures.looked)

pub returns-then-entry-eq-INODE_ITEM-clause-fits : goal.returns-then-entry-eq-INODE_ITEM-clause-fits
returns-then-entry-eq-INODE_ITEM-clause-fits g c = c.directory.ensures.fits c.args.rules.now

use Rattle.std.proofs.Common.{sym, ap, ◌∙◌}
use Rattle.btr_walk.specs.Folds.{folded_over}
use Rattle.btr_walk.specs.Range.{range}
use Rattle.btr_volume.specs.Tree.{key, last, root_root}
use Rattle.btr_files.specs.declared.met.Met.TheVariants as met
use Rattle.btr_files.specs.declared.met.Wanted.{Wanted}
use Rattle.btr_files.specs.Names.{mount, mounted}
use Rattle.btr_files.specs.Steps.{is_one, link_in, mount_step}
use Rattle.btr_files.proofs.Folding.{looked}
use Rattle.btr_files.proofs.Lookups.{mounted_as}
use Rattle.btr_files.proofs.naming.mounted.Goals as goal

pub returns-clause-content : goal.returns-clause-content
returns-clause-content g c =
    let wanted : Wanted = record { parent = c.args.dirid; index = c.args.index; name = c.args.name.now } in
    let folds = folded_over mount_step (λ s. is_one s.met) (record { tree = c.args.parent; wanted = wanted; met = met.None }) in
    let sup = c.args.vol.now.sup in
    looked _ _ _ (folds (range c.key_of-lo.result c.key_of-hi.result c.root_root-root.result))
    (mounted (mount c.args.parent (link_in wanted)) sup c.args.id) c.lookup.result
    (ap (λ k. folds (range k c.key_of-hi.result c.root_root-root.result)) c.key_of-lo.ensures
    ∙ ap (λ k. folds (range (key c.args.id 144 0) k c.root_root-root.result)) c.key_of-hi.ensures
    ∙ ap (λ r. folds (range (key c.args.id 144 0) (key c.args.id 144 last) r)) c.root_root-root.ensures
    ∙ sym (mounted_as c.args.parent wanted (range (key c.args.id 144 0) (key c.args.id 144 last) (root_root sup))))
    c.lookup.ensures.content

use Rattle.std.proofs.Common.{sym, ap, ◌∙◌}
use Rattle.btr_walk.specs.Folds.{folded_over}
use Rattle.btr_walk.specs.Range.{range}
use Rattle.btr_volume.specs.Tree.{key, last}
use Rattle.btr_files.specs.declared.met.Met.TheVariants as met
use Rattle.btr_files.specs.declared.met.Wanted.{Wanted}
use Rattle.btr_files.specs.Names.{linked}
use Rattle.btr_files.specs.Steps.{is_one, link_in, link_step}
use Rattle.btr_files.proofs.Folding.{looked}
use Rattle.btr_files.proofs.Lookups.{linked_as}
use Rattle.btr_files.proofs.naming.linked.Goals as goal

pub returns-clause-content : goal.returns-clause-content
returns-clause-content g c =
    let root = c.args.tree.now.place in
    let wanted : Wanted = record { parent = c.args.parent; index = c.args.index; name = c.args.name.now } in
    let folds = folded_over link_step (λ s. is_one s.met) (record { wanted = wanted; met = met.None }) in
    looked _ _ _ (folds (range c.key_of-lo.result c.key_of-hi.result root)) (linked (link_in wanted) c.args.tree.now c.args.ino) c.lookup.result
    (ap (λ k. folds (range k c.key_of-hi.result root)) c.key_of-lo.ensures
    ∙ ap (λ k. folds (range (key c.args.ino 12 0) k root)) c.key_of-hi.ensures
    ∙ sym (linked_as wanted (range (key c.args.ino 12 0) (key c.args.ino 13 last) root)))
    c.lookup.ensures.content

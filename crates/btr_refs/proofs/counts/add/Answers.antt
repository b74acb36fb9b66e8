use Rattle.std.proofs.Common.{◌≡◌, ◌+◌, ◌∙◌, ap, rules}
use Rattle.std.specs.BTreeMap.{insert_entry}
use Rattle.btr_refs.specs.Counts.{count_in}
use Rattle.btr_refs.specs.RefKey.{ref_cmp}
use Rattle.btr_refs.proofs.counts.add.Goals as goal

pub returns-in-Ok-clause-ok : goal.returns-in-Ok-clause-ok
returns-in-Ok-clause-ok c =
    let sum : c.in-Some.sum ≡ count_in c.args.counts.now.entries c.args.one.key + c.args.one.count = search rules in
    c.in-Ok.ensures.entries ∙ ap (insert_entry ref_cmp c.args.counts.now.entries c.args.one.key) sum

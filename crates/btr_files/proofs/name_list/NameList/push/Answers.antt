use Rattle.std.proofs.Common.{◌++◌, ◌∷◌, [], List, ap, ◌∙◌, arith}
use Rattle.btr_files.specs.Names.{Link, link}
use Rattle.btr_files.proofs.Gathered.{kept_items, links_added}
use Rattle.btr_files.proofs.name_list.NameList.push.Goals as goal

pub returns : goal.returns
returns c =
    links_added c.self.inside.bytes.items c.extend_from_slice.new.self.items c.args.name.now c.args.parent c.args.index
    c.len-at.result c.self.inside.places.items c.push.new.self.items
    (omega (arith, c.len-at.ensures, c.self.inside.bytes.ok.0))
    (c.extend_from_slice.ensures.items ∙ kept_items c.extend_from_slice.result _ _ c.if-is_err.ensures.value)
    (c.push.ensures.items ∙ kept_items c.push.result _ _ c.if-is_err-2.ensures.value)
    c.self.invariant
    ∙ ap (λ (xs : List Link). xs ++ link c.args.parent c.args.index c.args.name.now ∷ []) c.self.view_is

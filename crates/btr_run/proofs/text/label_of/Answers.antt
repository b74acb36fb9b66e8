use Rattle.std.proofs.Common.{◌∙◌, ◌+◌, ◌++◌, sym, ap, drop, take, get_or, refl}
use Rattle.std.proofs.lemmas.List.{append_assoc, append-nil, at_drop_more, at_drop_all, take_all}
use Rattle.btr_base.specs.Shown.{shown}
use Rattle.btr_text.specs.Pieces.{name_text}
use Rattle.btr_text.proofs.Pieces.{name_more}
use Rattle.btr_run.specs.Text.{label_text}
use Rattle.btr_run.proofs.Labels.{label_more, label_end, label_none}
use Rattle.btr_run.proofs.text.label_of.Goals as goal

pub loop-i-preserved : goal.loop-i-preserved
loop-i-preserved c =
    let i = c.loop-i.i in
    let field = c.args.field.now in
    let b = get_or field i 0 in
    let rest = drop (i + 1) field in
    ap (λ l. l ++ label_text rest) (name_more field i b c.loop-i-test.true refl)
    ∙ append_assoc (name_text (take i field)) (shown b) (label_text rest)
    ∙ ap (λ l. name_text (take i field) ++ l) (sym (label_more b rest c.if-b-eq0.false) ∙ sym (at_drop_more label_text field i 0 c.loop-i-test.true))
    ∙ c.loop-i.invariant

pub returns-then-b-eq0 : goal.returns-then-b-eq0
returns-then-b-eq0 c =
    let i = c.loop-i.i in
    let field = c.args.field.now in
    let b = get_or field i 0 in
    let rest = drop (i + 1) field in
    sym (append-nil (name_text (take i field)))
    ∙ ap (λ l. name_text (take i field) ++ l) (sym (at_drop_more label_text field i 0 c.loop-i-test.true ∙ label_end b rest c.if-b-eq0.true))
    ∙ c.loop-i.invariant

pub returns : goal.returns
returns c =
    let i = c.loop-i.i in
    let field = c.args.field.now in
    ap name_text (sym (take_all i field c.loop-i-test.false)) ∙ sym (append-nil (name_text (take i field)))
    ∙ ap (λ l. name_text (take i field) ++ l) (sym (at_drop_all label_text field i c.loop-i-test.false ∙ label_none)) ∙ c.loop-i.invariant

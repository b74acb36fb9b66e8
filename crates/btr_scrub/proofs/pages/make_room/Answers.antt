use Rattle.std.proofs.Common.{◌≡◌, ◌∷◌, ◌++◌, [], length, Vec, OnOk, sym, ap, ◌∙◌, subst, arith}
use Rattle.std.proofs.lemmas.Result.{on_err_weaker, on_ok_weaker}
use Rattle.btr_scrub.proofs.Common.{Global, items_in}
use Rattle.btr_scrub.proofs.Paging.{counted, made_full, turned}
use Rattle.btr_scrub.proofs.pages.make_room.Goals as goal

pub returns-clause-full : goal.returns-clause-full
returns-clause-full g c = made_full c.args.full.now.items c.grow.new.items.items c.replace-page.result c.grow.result c.requires c.grow.ensures.grown
    c.grow.ensures.refused
    (ap (λ (v : Vec g.row.T.Denot Global). length v.items) c.replace-page.ensures.value ∙ sym c.args.last.now.ok.0 ∙ sym c.len.ensures ∙ c.if-len-ne-PAGE.false)

pub returns-clause-same : goal.returns-clause-same
returns-clause-same g c = subst (λ (v : Vec g.row.T.Denot Global). OnOk c.grow.result
    (items_in c.grow.new.items.items c.replace-page.new.dest.items ≡ items_in c.args.full.now.items v.items)) c.replace-page.ensures.value
    (on_ok_weaker c.grow.result (λ e. ap (λ xs. items_in xs c.replace-page.new.dest.items) e
    ∙ ap (items_in (c.args.full.now.items ++ c.replace-page.result ∷ []))
    (ap (λ (v : Vec g.row.T.Denot Global). v.items) c.replace-page.ensures.after ∙ (c.in-Ok.ensures).items)
    ∙ turned c.args.full.now.items c.replace-page.result) c.grow.ensures.grown)

pub returns-clause-fewer : goal.returns-clause-fewer
returns-clause-fewer g c =
    let none = ap (λ (v : Vec g.row.T.Denot Global). v.items) c.replace-page.ensures.after ∙ (c.in-Ok.ensures).items in
    on_err_weaker c.grow.result (λ e. omega (
      arith,
      ap (λ xs. length (items_in xs c.replace-page.new.dest.items)) e ∙ ap (λ xs. length (items_in c.args.full.now.items xs)) none,
      counted c.args.full.now.items c.args.last.now.items,
    )) c.grow.ensures.refused

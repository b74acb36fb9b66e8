use Rattle.std.proofs.Common.{sym, ap, ◌∙◌}
use Rattle.std.specs.List.{list_any}
use Rattle.btr_read.specs.Candidates.{Target}
use Rattle.btr_read.specs.Layout.{is_older}
use Rattle.btr_read.proofs.Order.{behind_all, first_part, none_older_at, second_part}
use Rattle.btr_read.proofs.search.Search.way_at.Goals as goal

pub returns-then-not-any_older : goal.returns-then-not-any_older
returns-then-not-any_older c =
    none_older_at c.args.self.now (ap (λ (t : Target). list_any is_older t.devices) (sym c.self.view_is) ∙ sym c.any_older.ensures
    ∙ c.if-not-any_older.true) c.args.k

pub returns-in-Ok : goal.returns-in-Ok
returns-in-Ok c = first_part c.args.self.now c.args.k c.in-Ok.way c.in-Ok.ensures

pub returns-in-Ok-way_among : goal.returns-in-Ok-way_among
returns-in-Ok-way_among c = second_part c.args.self.now c.args.k c.in-Err.left c.in-Ok-way_among.way c.in-Err.ensures c.in-Ok-way_among.ensures

pub returns-in-Err-way_among : goal.returns-in-Err-way_among
returns-in-Err-way_among c = behind_all c.args.self.now c.args.k c.in-Err.left c.in-Err-way_among.field-0 c.in-Err.ensures c.in-Err-way_among.ensures

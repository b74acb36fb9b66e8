use Rattle.std.proofs.Common.{sym, ap, ◌∙◌, arith}
use Rattle.std.specs.List.{list_any}
use Rattle.btr_read.specs.Candidates.{Target}
use Rattle.btr_read.specs.Layout.{is_older}
use Rattle.btr_read.proofs.Order.{none_older, same_order}
use Rattle.btr_read.proofs.search.Search.reads_none_older.Goals as goal

pub returns-then-not-any_older : goal.returns-then-not-any_older
returns-then-not-any_older c = λ e.
    none_older c.args.self.now (ap (λ (t : Target). list_any is_older t.devices) (sym c.self.view_is) ∙ sym c.any_older.ensures ∙ c.if-not-any_older.true)

pub returns-in-Err : goal.returns-in-Err
returns-in-Err c = λ e. same_order c.args.self.now (omega (arith, c.in-Err.ensures))

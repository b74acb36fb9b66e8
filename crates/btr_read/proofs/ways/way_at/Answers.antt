use Rattle.std.proofs.Common.{◌≡◌, false, IfOk, Result, Ok, Err, refl, sym, ap, ◌∙◌}
use Rattle.std.specs.List.{list_any}
use Rattle.btr_read.specs.Candidates.{Target}
use Rattle.btr_read.specs.Fate.{Fault, sought}
use Rattle.btr_read.specs.Layout.{is_older}
use Rattle.btr_read.specs.Order.{IsWayAt}
use Rattle.btr_read.proofs.Fates.{sought_of}
use Rattle.btr_read.proofs.Order.{none_older_at}
use Rattle.btr_read.proofs.ways.way_at.Goals as goal

each_ok : (r : Result Target Fault) (P : Target → Type 0) → ((t : Target) → r ≡ Ok t → P t) → IfOk r P
each_ok (Ok t) P h = h t refl
each_ok (Err fault) P h = tt

pub returns-then-not-any_older : goal.returns-then-not-any_older
returns-then-not-any_older c =
    each_ok (sought c.args.store.now.layout c.args.want.now) (IsWayAt c.args.k c.args.k) (λ t e.
    let is = sought_of c.args.store.now.layout c.args.want.now t e in
    let none : list_any is_older t.devices ≡ false =
    ap (list_any is_older) (is.devices_is ∙ sym (ap (λ s. s.layout.devices) c.store.view_is) ∙ sym c.deref.ensures.value) ∙ sym c.any_older.ensures
    ∙ c.if-not-any_older.true in
    none_older_at t none c.args.k)

use Rattle.std.proofs.Common.{◌≡◌, ◌+◌, ◌*◌, ◌∙◌, ap, arith, length}
use Rattle.btr_scrub.proofs.Common.{items_in}
use Rattle.btr_scrub.proofs.Paging.{all_counted}
use Rattle.btr_scrub.proofs.pages.Pages.len.Goals as goal

pub overflow_mul-result : goal.overflow_mul-result
overflow_mul-result g c =
    let h = all_counted c.self.inside.full.items c.self.inside.last.items c.self.invariant.0 in
    omega (arith, h, c.self.invariant.1, c.self.invariant.2, c.len.ensures, c.self.inside.full.ok.0)

pub overflow_add-result : goal.overflow_add-result
overflow_add-result g c =
    let h = all_counted c.self.inside.full.items c.self.inside.last.items c.self.invariant.0 in
    omega (arith, h, c.self.invariant.1, c.self.invariant.2, c.len.ensures, c.self.inside.full.ok.0, c.len-2.ensures, c.self.inside.last.ok.0)

pub returns-clause-len : goal.returns-clause-len
returns-clause-len g c =
    let h = all_counted c.self.inside.full.items c.self.inside.last.items c.self.invariant.0 in
    let n : c.len.result * 4096 + c.len-2.result ≡ length (items_in c.self.inside.full.items c.self.inside.last.items) =
    omega (arith, h, c.len.ensures, c.self.inside.full.ok.0, c.len-2.ensures, c.self.inside.last.ok.0) in
    n ∙ ap length c.self.view_is

pub returns-clause-few : goal.returns-clause-few
returns-clause-few g c =
    let h = all_counted c.self.inside.full.items c.self.inside.last.items c.self.invariant.0 in
    omega (arith, h, c.self.invariant.1, c.self.invariant.2, c.len.ensures, c.self.inside.full.ok.0, c.len-2.ensures, c.self.inside.last.ok.0)

use Rattle.std.proofs.Common.{Some, ap, cond, sym, subst, ◌∙◌}
use Rattle.std.specs.FinMap.{get, insert}
use Rattle.btr_check_names.specs.Pairs.{WaitOnce, Half, SetsOnly, joined}
use Rattle.btr_check_names.proofs.Joining.{apart_in_list, apart_in_map, wait_in_list, wait_in_map}
use Rattle.btr_check_names.proofs.waiting.Waiting.wait.Goals as goal

pub invariant_of-self-then-branch : goal.invariant_of-self-then-branch
invariant_of-self-then-branch c =
    let list = c.self.inside.ascending in
    let map = c.self.inside.others.entries in
    let half : Half = record { is_first = c.args.is_first; name = c.args.name.now } in
    let taken = c.in_ok-push.ensures.taken ∙ ap (λ b. cond b (insert list c.args.claim half) list) c.if-branch.true in
    let none = ap (λ m. get m c.args.claim) c.self.view_is ∙ c.requires in
    subst (λ l. WaitOnce l map) (sym taken) (apart_in_list list map c.args.claim half none c.self.invariant)

pub returns-then-branch-clause-ok : goal.returns-then-branch-clause-ok
returns-then-branch-clause-ok c =
    let list = c.self.inside.ascending in
    let map = c.self.inside.others.entries in
    let half : Half = record { is_first = c.args.is_first; name = c.args.name.now } in
    let taken = c.in_ok-push.ensures.taken ∙ ap (λ b. cond b (insert list c.args.claim half) list) c.if-branch.true in
    let none = ap (λ m. get m c.args.claim) c.self.view_is ∙ c.requires in
    ap (λ l. joined l map) taken ∙ wait_in_list list map c.args.claim half none c.self.invariant ∙ ap (λ m. insert m c.args.claim half) c.self.view_is

pub invariant_of-self-2 : goal.invariant_of-self-2
invariant_of-self-2 c =
    let list = c.self.inside.ascending in
    let map = c.self.inside.others.entries in
    let new = c.put.new.map.entries in
    let half : Half = record { is_first = c.args.is_first; name = c.args.name.now } in
    let taken = c.in_ok-push.ensures.taken ∙ ap (λ b. cond b (insert list c.args.claim half) list) c.if-branch.false in
    let none = ap (λ m. get m c.args.claim) c.self.view_is ∙ c.requires in
    let put = subst (λ h. SetsOnly map c.args.claim (Some h) new) c.in_ok-half.ensures c.in_ok-put.ensures.ok in
    subst (λ l. WaitOnce l new) (sym taken) (apart_in_map list map c.args.claim half none c.self.invariant new put)

pub returns-clause-ok : goal.returns-clause-ok
returns-clause-ok c =
    let list = c.self.inside.ascending in
    let map = c.self.inside.others.entries in
    let new = c.put.new.map.entries in
    let half : Half = record { is_first = c.args.is_first; name = c.args.name.now } in
    let taken = c.in_ok-push.ensures.taken ∙ ap (λ b. cond b (insert list c.args.claim half) list) c.if-branch.false in
    let none = ap (λ m. get m c.args.claim) c.self.view_is ∙ c.requires in
    let put = subst (λ h. SetsOnly map c.args.claim (Some h) new) c.in_ok-half.ensures c.in_ok-put.ensures.ok in
    ap (λ l. joined l new) taken ∙ wait_in_map list map c.args.claim half none c.self.invariant new put ∙ ap (λ m. insert m c.args.claim half) c.self.view_is

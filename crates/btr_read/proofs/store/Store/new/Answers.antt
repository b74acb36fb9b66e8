use Rattle.std.proofs.Common.{ℕ, List, Option, None, replicate, ap₂, ap, ◌∙◌}
use Rattle.btr_pool.specs.Slots.{loans_of}
use Rattle.btr_read.specs.declared.setting.Setting.{Setting}
use Rattle.btr_read.specs.Store.{Kept, none_kept}
use Rattle.btr_read.proofs.Loans.{blocks}
use Rattle.btr_read.proofs.Serving.{nothing_kept}
use Rattle.btr_read.proofs.store.Store.new.Goals as goal

pub returns : goal.returns
returns c =
    let pool = c.in_ok-pool.pool in
    let kept : List (Option Kept) = none_kept in
    let loans : List (Option (List ℕ)) = replicate 24 None in
    let setting : Setting = record { kind = c.args.kind; fsid = c.args.fsid; nodesize = c.args.nodesize } in
    ap₂ (blocks c.args.chunks c.new-3.result.items setting) (ap loans_of c.in_ok-pool.ensures)
    (nothing_kept setting c.new-2.result.wants pool.bytes c.new-2.ensures)
    ∙ ap (λ devices. blocks c.args.chunks devices setting loans kept) c.new-3.ensures.items

use Rattle.std.proofs.Common.{ℕ, List, Some, None, Ok, Err, sym, ap, ◌∙◌, subst}
use Rattle.btr_prog.specs.Prog.{Return}
use Rattle.btr_volume.specs.declared.stop.Stop.TheVariants as stop
use Rattle.btr_files.specs.Names.{link, links}
use Rattle.btr_resolve.specs.Climbing.{up}
use Rattle.btr_resolve.specs.Paths.{only}
use Rattle.btr_resolve.specs.Running.{Ran, world}
use Rattle.btr_resolve.proofs.Rans.{ran_memory, ran_none}
use Rattle.btr_resolve.proofs.Upward.{not_only, only_one, quiet_halt, quiet_then}
use Rattle.btr_resolve.proofs.climbing.go_up.Goals as goal

pub returns-in-Err : goal.returns-in-Err
returns-in-Err g c text calls =
    quiet_halt (links c.args.tree.now c.args.dir) (λ found. Return (up c.args.path.now (only found))) _ _ c.in-Err.stop (c.in-Err.ensures text calls)

pub returns-then-len-ne1 : goal.returns-then-len-ne1
returns-then-len-ne1 g c text calls =
    let h = c.in_default.ensures text calls in
    let names = c.find_names.new.list in
    let found = up c.args.path.now (only names) in
    let y = world (g.R.Rack.seen c.find_names.new.rack) c.find_names.new.vol text calls in
    quiet_then (links c.args.tree.now c.args.dir) (λ found. Return (up c.args.path.now (only found))) _ y y names (Ok None) h
    (subst (λ o. Ran (Return found) y y (Ok o))
    (ap (up c.args.path.now) (not_only names (λ one. c.if-len-ne1.true (c.len.ensures ∙ one)))) (ran_none y h.ready found))

pub returns-in-Ok : goal.returns-in-Ok
returns-in-Ok g c text calls =
    let h = c.in_default.ensures text calls in
    let names = c.find_names.new.list in
    let path = c.args.path.now in
    let found = up path (only names) in
    let name = link c.get-name.result.parent c.get-name.result.index c.get-name.result.name.now in
    let y = world (g.R.Rack.seen c.find_names.new.rack) c.find_names.new.vol text calls in
    quiet_then (links c.args.tree.now c.args.dir) (λ found. Return (up path (only found))) _ y y names
    (Ok (Some (c.get-name.result.parent, c.enter.new.self))) h
    (subst (λ o. Ran (Return found) y y (Ok o))
    (ap (up path) (only_one names name (sym c.len.ensures ∙ c.if-len-ne1.false) c.get-name.ensures)
    ∙ ap (λ (p : List ℕ). Some (c.get-name.result.parent, p)) (sym c.in-Ok.ensures))
    (ran_none y h.ready found))

pub returns-in-Err-enter : goal.returns-in-Err-enter
returns-in-Err-enter g c text calls =
    let h = c.in_default.ensures text calls in
    let names = c.find_names.new.list in
    let y = world (g.R.Rack.seen c.find_names.new.rack) c.find_names.new.vol text calls in
    quiet_then (links c.args.tree.now c.args.dir) (λ found. Return (up c.args.path.now (only found))) _ y y names
    (Err stop.Memory) h (ran_memory y h.ready (Return (up c.args.path.now (only names))))

use Rattle.std.proofs.Common.{ℕ, refl, sym, ◌∙◌, subst}
use Rattle.btr_files.specs.Names.{links}
use Rattle.btr_volume.specs.Lookup.{Program}
use Rattle.btr_resolve.specs.Resolving.{Line, names_told}
use Rattle.btr_resolve.specs.Running.{Ran, counted, world}
use Rattle.btr_resolve.proofs.Namings.{told_none, told_some}
use Rattle.btr_resolve.proofs.Rans.{counted_passed, look_halt, look_then, ran_passed}
use Rattle.btr_resolve.proofs.telling.tell_owner.Goals as goal

pub returns-in_err-find_names : goal.returns-in_err-find_names
returns-in_err-find_names g c =
    ran_passed _ (counted_passed _ _ _ c.from_residual.ensures.1)
    (let owner = c.args.owner.now in
    look_halt (links owner.tree owner.inode) (names_told owner c.args.report.now.count) _ _ _ c.in_err-find_names.field-0.0
    (c.in_err-find_names.ensures (g.O.Out.text c.args.out.now) (g.O.Out.account c.args.out.now)) refl)

pub returns-then-len-eq0 : goal.returns-then-len-eq0
returns-then-len-eq0 g c =
    let owner = c.args.owner.now in
    let count = c.args.report.now.count in
    let names = c.find_names.new.list in
    let answer = counted c.tell_path.new.report.count c.tell_path.result in
    let y = world (g.R.Rack.seen c.find_names.new.rack) c.find_names.new.vol (g.O.Out.text c.args.out.now) (g.O.Out.account c.args.out.now) in
    let z = world (g.R.Rack.seen c.find_names.new.rack) c.find_names.new.vol (g.O.Out.text c.tell_path.new.out)
    (g.O.Out.account c.tell_path.new.out) in
    let h = c.in_ok-find_names.ensures (g.O.Out.text c.args.out.now) (g.O.Out.account c.args.out.now) in
    look_then (links owner.tree owner.inode) (names_told owner count) _ y _ z names answer h refl
    (subst (λ (p : Program Line ℕ). Ran p y z answer)
    (sym (told_none owner count names (sym c.len.ensures ∙ c.if-len-eq0.true)))
    (c.tell_path.ensures.ran (g.R.Rack.seen c.find_names.new.rack) c.find_names.new.vol h.ready))

pub tell_names-requires : goal.tell_names-requires
tell_names-requires g c = record { ready = (c.in_ok-find_names.ensures (g.O.Out.text c.args.out.now) (g.O.Out.account c.args.out.now)).ready }

pub returns : goal.returns
returns g c =
    let owner = c.args.owner.now in
    let count = c.args.report.now.count in
    let names = c.find_names.new.list in
    let answer = counted c.tell_names.new.report.count c.tell_names.result in
    let y = world (g.R.Rack.seen c.find_names.new.rack) c.find_names.new.vol (g.O.Out.text c.args.out.now) (g.O.Out.account c.args.out.now) in
    let z = world (g.R.Rack.seen c.tell_names.new.rack) c.tell_names.new.vol (g.O.Out.text c.tell_names.new.out)
    (g.O.Out.account c.tell_names.new.out) in
    look_then (links owner.tree owner.inode) (names_told owner count) _ y _ z names answer
    (c.in_ok-find_names.ensures (g.O.Out.text c.args.out.now) (g.O.Out.account c.args.out.now)) refl
    (subst (λ (p : Program Line ℕ). Ran p y z answer)
    (sym (told_some owner count names (λ none. c.if-len-eq0.false (c.len.ensures ∙ none)))) c.tell_names.ensures)

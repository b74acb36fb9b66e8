use Rattle.std.proofs.Common.{ℕ, List, Option, Some, ◌∙◌, ap, sym}
use Rattle.btr_prog.specs.Prog.{Return}
use Rattle.btr_volume.specs.Lookup.{Lookup}
use Rattle.btr_send.specs.declared.source.Source.{Source}
use Rattle.btr_send.specs.Source.{transid_in}
use Rattle.btr_walk.specs.Showing.{item_of}
use Rattle.btr_send.proofs.Sources.{found_err, found_ok}
use Rattle.btr_send.proofs.source.source_found.Goals as goal

pub returns-in-Ok : goal.returns-in-Ok
returns-in-Ok c =
    let found : List ℕ → ℕ → Lookup (Option Source) = λ uuid transid. Return (Some (record { root = c.in-Ok.root; uuid = uuid; transid = transid })) in
    found_ok (item_of c.args.found.now) c.args.id c.in-Ok.root (sym c.is_root_of.ensures ∙ c.if-not-is_root_of.false) (sym c.root_at.ensures ∙ c.in-Ok.is)
    ∙ (ap (λ (u : List ℕ). found u (transid_in c.args.found.now.body.now)) (sym c.uuid_in.ensures)
    ∙ ap (λ (t : ℕ). found c.uuid_in.result t) (sym c.transid_in.ensures))

pub returns-in-Err : goal.returns-in-Err
returns-in-Err c = found_err (item_of c.args.found.now) c.args.id c.in-Err.field-0 (sym c.is_root_of.ensures
    ∙ c.if-not-is_root_of.false) (sym c.root_at.ensures ∙ c.in-Err.is)

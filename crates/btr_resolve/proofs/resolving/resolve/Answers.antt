use Rattle.std.proofs.Common.{ℕ, List, Ok, Err, refl, sym, ap, ◌∙◌, subst}
use Rattle.btr_chunk.specs.Table.{chunk_at}
use Rattle.btr_resolve.specs.Resolving.{all_told, subvolumes}
use Rattle.btr_resolve.specs.Running.{Ran, world}
use Rattle.btr_resolve.proofs.Rans.{look_halt, look_then, ran_passed}
use Rattle.btr_resolve.proofs.Resolved.{ran_mapped, ran_unmapped}
use Rattle.btr_resolve.proofs.resolving.resolve.Goals as goal

pub returns-then-is_none : goal.returns-then-is_none
returns-then-is_none g c =
    ran_unmapped (world (g.R.Rack.seen c.args.rack.now) c.args.vol.now (g.O.Out.text c.args.out.now)
    (g.O.Out.account c.args.out.now)) c.requires.ready c.args.addr c.find.result
    (c.find.ensures.chunk ∙ ap (λ chunks. chunk_at chunks c.args.addr) c.chunks.ensures) c.if-is_none.ensures

pub tell_all-requires : goal.tell_all-requires
tell_all-requires g c = record { ready = (c.in_ok-ids.ensures (g.O.Out.text c.args.out.now) (g.O.Out.account c.args.out.now)).ready }

pub returns : goal.returns
returns g c =
    let text = g.O.Out.text c.args.out.now in
    let calls = g.O.Out.account c.args.out.now in
    let sup = c.args.vol.now.sup in
    let x = world (g.R.Rack.seen c.args.rack.now) c.args.vol.now text calls in
    let y = world (g.R.Rack.seen c.subvolumes.new.rack) c.subvolumes.new.vol text calls in
    let z = world (g.R.Rack.seen c.tell_all.new.rack) c.tell_all.new.vol (g.O.Out.text c.tell_all.new.out) (g.O.Out.account c.tell_all.new.out) in
    let h = c.in_ok-ids.ensures text calls in
    ran_mapped x c.requires.ready c.args.addr c.find.result
    (c.find.ensures.chunk ∙ ap (λ chunks. chunk_at chunks c.args.addr) c.chunks.ensures) c.if-is_none.ensures z c.tell_all.result
    (look_then (subvolumes sup) (all_told sup c.args.addr) x y (Ok c.in_ok-ids.ids) z c.in_ok-ids.ids c.tell_all.result h refl
    (subst (λ (ids : List ℕ). Ran (all_told sup c.args.addr ids) y z c.tell_all.result) c.as_slice.ensures
    (c.tell_all.ensures sup (sym h.volume.sup))))

pub returns-in_err-ids : goal.returns-in_err-ids
returns-in_err-ids g c =
    ran_passed _ c.from_residual.ensures.1
    (let text = g.O.Out.text c.args.out.now in
    let calls = g.O.Out.account c.args.out.now in
    let sup = c.args.vol.now.sup in
    let x = world (g.R.Rack.seen c.args.rack.now) c.args.vol.now text calls in
    let y = world (g.R.Rack.seen c.subvolumes.new.rack) c.subvolumes.new.vol text calls in
    ran_mapped x c.requires.ready c.args.addr c.find.result
    (c.find.ensures.chunk ∙ ap (λ chunks. chunk_at chunks c.args.addr) c.chunks.ensures) c.if-is_none.ensures y (Err c.in_err-ids.field-0.0)
    (look_halt (subvolumes sup) (all_told sup c.args.addr) x y (Err c.in_err-ids.field-0.0) c.in_err-ids.field-0.0 (c.in_err-ids.ensures text calls) refl))

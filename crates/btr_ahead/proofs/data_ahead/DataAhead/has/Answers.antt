use Rattle.std.proofs.Common.{◌≡◌, true, Option, List, ℕ, ap, ◌∙◌, sym, refl, subst}
use Rattle.btr_read.proofs.ReadsOn.{same_held, same_slots}
use Rattle.btr_read.proofs.Serving.{serves_as, serving}
use Rattle.btr_read.specs.Want.{len_of, passes}
use Rattle.btr_ahead.specs.Ahead.{CanBeRead, SaysFirst}
use Rattle.btr_ahead.proofs.Pieces.{piece_comes, piece_says}
use Rattle.btr_ahead.proofs.data_ahead.DataAhead.has.Goals as goal

pub look-requires-clause-slot : goal.look-requires-clause-slot
look-requires-clause-slot g c = c.in-Some.ensures.slot (g.R.Rack.seen c.args.rack.now).slots
    (serving (g.R.Rack.seen c.args.rack.now) c.args.store.now c.requires.serves).are_open

pub passes_in-requires : goal.passes_in-requires
passes_in-requires g c =
    let slot = c.in-Some.ensures.slot (g.R.Rack.seen c.args.rack.now).slots
    (serving (g.R.Rack.seen c.args.rack.now) c.args.store.now c.requires.serves).are_open in
    c.in-Some-piece.ensures.long ∙ slot.sector ∙ ap (len_of c.args.store.now.layout.setting) (sym c.in-Sector.is)

pub returns-in-Some-piece-clause-serves : goal.returns-in-Some-piece-clause-serves
returns-in-Some-piece-clause-serves g c =
    let reads = c.look.ensures.reads in
    serves_as (g.R.Rack.seen c.args.rack.now) (g.R.Rack.seen c.look.new.rack) c.args.store.now c.args.store.now (same_slots reads) (same_held reads)
    refl refl c.requires.serves

pub returns-in-Some-piece-clause-comes : goal.returns-in-Some-piece-clause-comes
returns-in-Some-piece-clause-comes g c = λ passed.
    let layout = c.args.store.now.layout in
    let want = c.args.want.now in
    let pass : passes layout.setting want c.in-Some-piece.piece.now ≡ true = sym c.passes_in.ensures ∙ passed in
    let comes = piece_comes (g.R.Rack.seen c.look.new.rack).held layout c.look.new.self c.in-Some.first.place c.in-Sector.addr c.in-Sector.sum want
    c.in-Sector.is c.look.ensures.ahead c.in-Some.ensures.first c.in-Some-piece.ensures.inside.lies
    (ap (passes layout.setting want) (sym c.in-Some-piece.ensures.piece) ∙ pass) in
    subst (λ (held : Option (List (List ℕ))). CanBeRead held layout want) (same_held c.look.ensures.reads) comes

pub returns-in-Some-piece-clause-first : goal.returns-in-Some-piece-clause-first
returns-in-Some-piece-clause-first g c = λ some steady.
    let layout = c.args.store.now.layout in
    let want = c.args.want.now in
    let says = piece_says (g.R.Rack.seen c.look.new.rack).held layout c.look.new.self c.in-Some.first.place c.in-Sector.addr c.in-Sector.sum want
    c.passes_in.result c.in-Sector.is c.look.ensures.ahead c.in-Some.ensures.place c.in-Some-piece.ensures.inside.lies
    (c.passes_in.ensures ∙ ap (passes layout.setting want) c.in-Some-piece.ensures.piece) in
    subst (λ (held : Option (List (List ℕ))). SaysFirst held layout want c.passes_in.result) (same_held c.look.ensures.reads) says

pub returns-in-None-clause-serves : goal.returns-in-None-clause-serves
returns-in-None-clause-serves g c =
    let reads = c.look.ensures.reads in
    serves_as (g.R.Rack.seen c.args.rack.now) (g.R.Rack.seen c.look.new.rack) c.args.store.now c.args.store.now (same_slots reads) (same_held reads)
    refl refl c.requires.serves

use Rattle.std.proofs.Common.{◌≡◌, ◌+◌, ◌≤◌, List, Some, Ok, sym, ap, ◌∙◌, refl, subst, arith}
use Rattle.btr_chunk.specs.Mapping.{elements_of, place_at}
use Rattle.btr_chunk.specs.Table.{chunk_at}
use Rattle.btr_chunk.specs.declared.chunk.Chunk.{Chunk}
use Rattle.btr_chunk.specs.declared.place.StripePlace.{StripePlace}
use Rattle.btr_read.specs.Layout.{device_in}
use Rattle.btr_ahead.specs.Ahead.{IsFirstPlace}
use Rattle.btr_ahead.proofs.Firsts.{comes}
use Rattle.btr_ahead.proofs.first_place.first_place.Goals as goal

pub returns-clause-first : goal.returns-clause-first
returns-clause-first c = λ images sum pass.
    let layout = c.args.store.now.layout in
    let chunk = c.in-Some.chunk.now in
    let part = c.in-Some-first_part.part in
    let device = c.in-Some-device.device in
    let there : chunk_at layout.chunks c.args.addr ≡ Some chunk =
    ap (λ (chunks : List Chunk). chunk_at chunks c.args.addr) (sym c.chunks.ensures) ∙ sym c.in-Some.ensures.chunk in
    let placed : elements_of chunk c.args.addr 4096 ≡ Ok c.in-Ok.at = sym c.in-Ok.ensures.value in
    let place : c.place_of-place.result ≡ place_at chunk part c.in-Ok.at = c.place_of-place.ensures in
    let given : device_in layout.devices (place_at chunk part c.in-Ok.at).devid ≡ Some device =
    ap (λ (p : StripePlace). device_in layout.devices p.devid) (sym place) ∙ sym c.device.ensures ∙ c.in-Some-device.is in
    let inside : (place_at chunk part c.in-Ok.at).offset + 4096 ≤ device.len = omega (arith, ap (λ (p : StripePlace). p.offset) place) in
    let first : IsFirstPlace layout c.args.addr (record { slot = device.slot; off = (place_at chunk part c.in-Ok.at).offset; len = 4096 }) =
    comes layout c.args.addr chunk c.in-Ok.at part device there placed (sym c.in-Some-first_part.ensures.part) given inside in
    subst (λ (p : StripePlace). IsFirstPlace layout c.args.addr (record { slot = device.slot; off = p.offset; len = 4096 })) (sym place) first images sum pass

pub returns-clause-slot : goal.returns-clause-slot
returns-clause-slot c = λ slots are.
    let one = are c.place_of-place.result.devid c.in-Some-device.device (sym c.device.ensures ∙ c.in-Some-device.is) in
    record { there = one.slot; sector = refl; inside = omega (arith, one.len) }

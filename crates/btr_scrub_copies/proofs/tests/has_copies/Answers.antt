use Rattle.std.proofs.Common.{◌≡◌, ◌+◌, ◌<◌, ◌≤◌, IsSome, IsSomeAnd, is_some, sym, ap, ◌∙◌, subst, inl, inr, arith}
use Rattle.btr_scrub_copies.proofs.Common.{Mirror, cases_lt, device_in, range_of}
use Rattle.btr_chunk.specs.Table.{chunk_at}
use Rattle.btr_chunk.specs.Mapping.{elements_of}
use Rattle.btr_chunk.specs.declared.place.StripePlace.{StripePlace}
use Rattle.btr_read.specs.Candidates.{range_on, size_of}
use Rattle.btr_read.specs.Fate.{sought_at, sought_in, target}
use Rattle.btr_read.specs.Want.{addr_of}
use Rattle.btr_scrub_copies.proofs.Standing.{stands_on}
use Rattle.btr_scrub_copies.proofs.tests.has_copies.Goals as goal

pub loop-mirror-preserved : goal.loop-mirror-preserved
loop-mirror-preserved c k below =
    let layout = c.args.store.now.layout in
    let t = target layout c.args.want.now c.in-Some.chunk.now c.in-Ok.at in
    let m = c.loop-mirror.mirror in
    let place = c.place_of-place.result in
    let device = c.in-Some-device.device in
    let P : StripePlace → Type 0 = λ p. IsSome (range_on p.offset (size_of t) (device_in layout.devices p.devid)) in
    let le : place.offset + size_of t ≤ device.len = omega (arith, c.requires, c.if-place-device.false, c.if-len-device.false) in
    let here = subst P c.place_of-place.ensures (stands_on place.offset (size_of t) (device_in layout.devices place.devid) device
    (sym c.device.ensures ∙ c.in-Some-device.is) le) in
    elim (cases_lt k m) [
      | inl before ↦ c.loop-mirror.invariant k before
      | inr after ↦ let same : m ≡ k = omega (arith, below, after) in subst (λ j. IsSome (range_of t (Mirror j))) same here
    ]

pub returns : goal.returns
returns c is_true =
    let layout = c.args.store.now.layout in
    let want = c.args.want.now in
    let chunk = c.in-Some.chunk.now in
    let found = sym (c.in-Some.ensures.chunk ∙ ap (λ cs. chunk_at cs c.addr.result) c.chunks.ensures ∙ ap (chunk_at layout.chunks) c.addr.ensures) in
    let at = sym (c.in-Ok.ensures.value ∙ ap (λ a. elements_of chunk a c.args.len) c.addr-2.ensures ∙ ap (elements_of chunk (addr_of want)) c.requires) in
    let mirrors = sym c.mirrors.ensures ∙ c.in-Some-mirrors.is in
    record {
      target = target layout want chunk c.in-Ok.at;
      is_sought = ap (sought_in layout want) found ∙ ap (sought_at layout want chunk) at;
      copies = ap is_some mirrors;
      stand = λ k has. let lt = subst (λ o. IsSomeAnd o (λ n. k < n)) mirrors has in c.loop-mirror.invariant k (omega (arith, lt, c.loop-mirror-test.false));
    }

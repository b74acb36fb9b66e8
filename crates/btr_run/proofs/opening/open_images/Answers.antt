use Rattle.std.proofs.Common.{◌≡◌, subst, ◌∙◌, ◌<◌, ◌≤◌, ℕ, List, String, length, map, refl, sym, arith}
use Rattle.std.specs.declared.alloc.Global.{Global}
use Rattle.std.specs.String.{string_bytes}
use Rattle.std.proofs.lemmas.List.{length-map}
use Rattle.btr_rack.specs.Rack.{Slot}
use Rattle.btr_rack.specs.declared.error.RackError.TheVariants.{Failed, Memory}
use Rattle.btr_run.specs.Images.{IsMissing}
use Rattle.btr_run.proofs.Openings.{open_more, slot_count, slot_names, names_before, opened_more, all_open, so_far_opened, refused_opened, missing_name}
use Rattle.btr_run.proofs.Openings.{unopened}
use Rattle.btr_run.proofs.Causing.{name_at}
use Rattle.btr_volume.proofs.Readings.{none_failed_twice}
use Rattle.btr_run.proofs.opening.open_images.Goals as goal

omega_within : (xs : List (String Global)) (i : ℕ) → i < length xs → i < length (map string_bytes xs)
omega_within xs i lt = omega (arith, length-map xs string_bytes)

pub loop-slot-preserved : goal.loop-slot-preserved
loop-slot-preserved g c =
    let names = map string_bytes c.args.names.now in
    let slots = (g.R.Rack.seen c.loop-slot.rack).slots in
    let name = name_at c.args.names.now c.loop-slot.slot c.index-names-slot.result c.as_str.result.now
    (omega arith) c.as_str.ensures.value c.index-names-slot.is in
    let within = omega_within c.args.names.now c.loop-slot.slot c.loop-slot-test.true in
    let new = (g.R.Rack.seen c.open.new.self).slots in
    let opened : Slot = record { name = c.as_str.result.now; len = c.in-Ok.ensures.slots.1.0; write = c.args.write } in
    let more = slot_names slots new opened c.in-Ok.ensures.slots.1.2 in
    record {
      count = slot_count slots new opened c.loop-slot.slot c.in-Ok.ensures.slots.1.2 c.loop-slot.invariant.count;
      before = names_before names slots new opened c.loop-slot.slot c.in-Ok.ensures.slots.1.2 within name c.loop-slot.invariant.before;
      sure = c.in-Ok.ensures.sure ∙ c.loop-slot.invariant.sure;
      unsynced = c.in-Ok.ensures.unsynced ∙ c.loop-slot.invariant.unsynced;
      never_synced = c.in-Ok.ensures.never_synced ∙ c.loop-slot.invariant.never_synced;
      account = none_failed_twice _ _ _ c.loop-slot.invariant.account c.in-Ok.ensures.account;
      closed = opened_more c.args.write slots new opened c.in-Ok.ensures.slots.1.2 refl c.loop-slot.invariant.closed;
      images = open_more (g.R.Rack.seen c.args.rack.now).shelf (map (λ s. s.name) slots)
          (map (λ s. s.name) new) c.as_str.result.now _ _ _ _ slots c.in-Ok.field-0 more
          c.loop-slot.invariant.images c.in-Ok.ensures.images (g.met.R.Rack.sound c.loop-slot.rack).sized (sym (length-map slots (λ s. s.name)));
    }

pub returns-in-Err-Failed-clause-opened : goal.returns-in-Err-Failed-clause-opened
returns-in-Err-Failed-clause-opened g c =
    refused_opened c.args.write c.as_str.result.now (g.R.Rack.seen c.args.rack.now).shelf _ _ _ _
    (g.R.Rack.seen c.loop-slot.rack).slots _ Failed c.loop-slot.invariant.closed (g.met.R.Rack.sound c.loop-slot.rack).sized
    c.loop-slot.invariant.images c.in-Err-Failed.ensures.images c.in-Err-Failed.ensures.slots

pub returns-in-Err-Memory-clause-opened : goal.returns-in-Err-Memory-clause-opened
returns-in-Err-Memory-clause-opened g c =
    refused_opened c.args.write c.as_str.result.now (g.R.Rack.seen c.args.rack.now).shelf _ _ _ _
    (g.R.Rack.seen c.loop-slot.rack).slots _ Memory c.loop-slot.invariant.closed (g.met.R.Rack.sound c.loop-slot.rack).sized
    c.loop-slot.invariant.images c.in-Err-Memory.ensures.images c.in-Err-Memory.ensures.slots

all_within : (xs : List (String Global)) (i : ℕ) → length xs ≤ i → length (map string_bytes xs) ≤ i
all_within xs i le = omega (arith, length-map xs string_bytes)

some_named : (xs : List (String Global)) → 0 < length xs → 0 < length (map string_bytes xs)
some_named xs lt = omega (arith, length-map xs string_bytes)

pub returns-clause-images : goal.returns-clause-images
returns-clause-images g c =
    all_open (map string_bytes c.args.names.now) (map (λ s. s.name) (g.R.Rack.seen c.loop-slot.rack).slots) c.loop-slot.slot
    (g.R.Rack.seen c.args.rack.now).shelf (g.R.Rack.seen c.loop-slot.rack).shelf (g.R.Rack.seen c.loop-slot.rack).held
    (some_named c.args.names.now c.requires.some) c.loop-slot.invariant.before
    (all_within c.args.names.now c.loop-slot.slot c.loop-slot-test.false) c.loop-slot.invariant.images

pub returns-clause-opened : goal.returns-clause-opened
returns-clause-opened g c =
    so_far_opened c.args.write (g.R.Rack.seen c.args.rack.now).shelf (g.R.Rack.seen c.loop-slot.rack).shelf (g.R.Rack.seen c.loop-slot.rack).held
    (g.R.Rack.seen c.loop-slot.rack).slots c.loop-slot.invariant.closed (g.met.R.Rack.sound c.loop-slot.rack).sized c.loop-slot.invariant.images

pub returns-in-Err-Failed-clause-sure : goal.returns-in-Err-Failed-clause-sure
returns-in-Err-Failed-clause-sure g c =
    let names = map string_bytes c.args.names.now in
    let name = name_at c.args.names.now c.loop-slot.slot c.index-names-slot.result c.as_str.result.now
    (omega arith) c.as_str.ensures.value c.index-names-slot.is in
    let fails = rw c.in-Err-Failed.field-0-is at c.in-Err-Failed.ensures.sure in
    λ slot is sure.
    let same : c.loop-slot.slot ≡ slot = cc in
    subst (λ k. IsMissing names (g.R.Rack.seen c.args.rack.now).shelf k) same
    (missing_name (g.R.Rack.seen c.args.rack.now).shelf (g.R.Rack.seen c.loop-slot.rack).shelf
    (map (λ s. s.name) (g.R.Rack.seen c.loop-slot.rack).slots) c.as_str.result.now names c.loop-slot.slot
    (g.R.Rack.seen c.loop-slot.rack).held c.loop-slot.invariant.images c.loop-slot.invariant.before
    (omega_within c.args.names.now c.loop-slot.slot c.loop-slot-test.true) name
    (fails (c.loop-slot.invariant.sure ∙ sure)))

pub returns-then-names-gt-MOST_IMAGES-clause-opened : goal.returns-then-names-gt-MOST_IMAGES-clause-opened
returns-then-names-gt-MOST_IMAGES-clause-opened g c =
    unopened c.args.write (g.R.Rack.seen c.args.rack.now).shelf (g.R.Rack.seen c.args.rack.now).held (g.R.Rack.seen c.args.rack.now).slots
    (g.met.R.Rack.sound c.args.rack.now).sized c.requires.empty

pub returns-in-Err-Failed-clause-unsynced : goal.returns-in-Err-Failed-clause-unsynced
returns-in-Err-Failed-clause-unsynced g c = c.in-Err-Failed.ensures.unsynced ∙ c.loop-slot.invariant.unsynced

pub returns-in-Err-Failed-clause-never_synced : goal.returns-in-Err-Failed-clause-never_synced
returns-in-Err-Failed-clause-never_synced g c = c.in-Err-Failed.ensures.never_synced ∙ c.loop-slot.invariant.never_synced

pub returns-in-Err-Memory-clause-unsynced : goal.returns-in-Err-Memory-clause-unsynced
returns-in-Err-Memory-clause-unsynced g c = c.in-Err-Memory.ensures.unsynced ∙ c.loop-slot.invariant.unsynced

pub returns-in-Err-Memory-clause-never_synced : goal.returns-in-Err-Memory-clause-never_synced
returns-in-Err-Memory-clause-never_synced g c = c.in-Err-Memory.ensures.never_synced ∙ c.loop-slot.invariant.never_synced

use Rattle.std.proofs.Common.{◌≡◌, ◌<◌, ◌+◌, Some, None, ap, ◌∙◌, sym, refl, arith, length}
use Rattle.std.specs.Option.{option_map}
use Rattle.std.specs.List.{position}
use Rattle.std.proofs.lemmas.List.FromFn.{length-map-range_with_len}
use Rattle.btr_rack.specs.Image.{is_named, bytes_in, page_byte}
use Rattle.btr_rack.specs.Memory.{MemoryRack}
use Rattle.btr_rack.proofs.Racks.{stands_at, stands_nowhere, finds}
use Rattle.btr_rack.proofs.Shelves.{rewrites}
use Rattle.btr_rack.proofs.mem_rack.MemRack.poke.Goals as goal
use Rattle.btr_rack.proofs.mem_rack.MemRack.poke.Goals.{then-off-len-via-then-off-len, then-off-len-via-else-off-len+then-bytes-len}

pub returns-in_default : goal.returns-in_default
returns-in_default c =
    let nowhere : None ≡ position (is_named c.args.name.now) c.self.inside.images.items = rw (← c.deref.ensures.value) c.in_default.ensures in
    rw (← c.self.view_is) (ap (option_map bytes_in) (stands_nowhere c.args.name.now c.self.inside.images.items nowhere), refl)

pub returns-then-off-len : goal.returns-then-off-len
returns-then-off-len c =
    let at : Some c.in-Some.at ≡ position (is_named c.args.name.now) c.self.inside.images.items = rw (← c.deref.ensures.value) c.in-Some.ensures in
    let found = finds c.args.name.now c.self.inside.images.items c.in-Some.at c.index.result.now
    (stands_at c.args.name.now c.self.inside.images.items c.in-Some.at at) ∙ ap Some (sym c.index.ensures) in
    let past : c.index.result.now.slot.len < c.args.off + length c.args.bytes.now =
    elim c.then-off-len.branch [ then-off-len-via-then-off-len w ↦ omega arith | then-off-len-via-else-off-len+then-bytes-len w ↦ omega arith ] in
    rw (← c.self.view_is) (
      bytes_in c.index.result.now,
      ap (option_map bytes_in) found,
      omega
          (arith, past, length-map-range_with_len (page_byte c.index.result.now.pages) 0 c.index.result.now.slot.len),
      refl,
    )

pub returns-in_default-write_image : goal.returns-in_default-write_image
returns-in_default-write_image c =
    let at : Some c.in-Some.at ≡ position (is_named c.args.name.now) c.self.inside.images.items = rw (← c.deref.ensures.value) c.in-Some.ensures in
    let old : MemoryRack =
    record {
      images = c.self.inside.images.items;
      opened = c.self.inside.opened;
      failing = c.self.inside.failing;
      unsynced = c.self.inside.unsynced;
      never_synced = c.self.inside.never_synced;
      account = c.self.inside.ledger;
    } in
    let some = c.in_default-write_image.ensures in
    let sized : length some.0 ≡ length c.args.bytes.now = some.1 in
    rw (← c.self.view_is) (
      some.0,
      some.1,
      rewrites c.args.name.now c.args.off c.in-Some.at some.0 old c.write_image.new.images.items c.index.result.now at c.index.ensures
          (omega arith) some.2,
    )

pub returns : goal.returns
returns c =
    let at : Some c.in-Some.at ≡ position (is_named c.args.name.now) c.self.inside.images.items = rw (← c.deref.ensures.value) c.in-Some.ensures in
    let old : MemoryRack =
    record {
      images = c.self.inside.images.items;
      opened = c.self.inside.opened;
      failing = c.self.inside.failing;
      unsynced = c.self.inside.unsynced;
      never_synced = c.self.inside.never_synced;
      account = c.self.inside.ledger;
    } in
    rw (← c.self.view_is)
    (rewrites c.args.name.now c.args.off c.in-Some.at c.args.bytes.now old c.write_image.new.images.items c.index.result.now at c.index.ensures
    (omega arith) c.in-Ok.ensures)

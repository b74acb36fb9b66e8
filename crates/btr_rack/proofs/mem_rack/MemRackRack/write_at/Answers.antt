use Rattle.std.proofs.Common.{◌≡◌, ◌<◌, ◌≤◌, ◌+◌, Some, false, inl, inr, ap, sym, ◌∙◌, subst, refl, length}
use Rattle.btr_rack.specs.Rack.{len_of, range_in}
use Rattle.btr_rack.specs.Memory.{MemoryRack, slots_of, fails_nothing}
use Rattle.btr_rack.proofs.Racks.{open-front, overwritten, partly, torn, tears}
use Rattle.btr_rack.proofs.Sures.{unsyncs, as_sure, write_struck, range_struck, unsure}
use Rattle.btr_rack.proofs.mem_rack.MemRackRack.write_at.Goals as goal
use Rattle.btr_rack.proofs.mem_rack.MemRackRack.write_at.Goals.{then-struck-via-then-struck, then-struck-via-else-struck+then-meets}

pub returns-then-struck-clause-held : goal.returns-then-struck-clause-held
returns-then-struck-clause-held c =
    let front : c.args.slot < c.self.inside.opened =
    open-front c.self.inside.images.items c.self.inside.opened c.args.slot
    (subst (λ rack. c.args.slot < length (slots_of rack)) (sym c.self.view_is) c.requires.open) in
    let range = subst (λ rack. c.args.off + length c.args.bytes.now ≤ len_of (slots_of rack) c.args.slot) (sym c.self.view_is) c.requires.range in
    let left = torn c.tear-tear.result c.self.inside.opened c.args.slot c.args.off
    (length c.args.bytes.now) c.self.inside.images.items c.tear_image.new.images.items c.tear_image.result front c.self.invariant range
    c.tear_image.ensures in
    rw (← c.self.view_is) (left.0, left.1, ap Some left.2.held)

pub returns-then-struck-clause-rest : goal.returns-then-struck-clause-rest
returns-then-struck-clause-rest c =
    let front : c.args.slot < c.self.inside.opened =
    open-front c.self.inside.images.items c.self.inside.opened c.args.slot
    (subst (λ rack. c.args.slot < length (slots_of rack)) (sym c.self.view_is) c.requires.open) in
    let range = subst (λ rack. c.args.off + length c.args.bytes.now ≤ len_of (slots_of rack) c.args.slot) (sym c.self.view_is) c.requires.range in
    let left = torn c.tear-tear.result c.self.inside.opened c.args.slot c.args.off
    (length c.args.bytes.now) c.self.inside.images.items c.tear_image.new.images.items c.tear_image.result front c.self.invariant range
    c.tear_image.ensures in
    let failing : fails_nothing c.self.inside.failing ≡ false =
    elim c.then-struck.branch [
      | then-struck-via-then-struck w ↦ write_struck c.self.inside.failing (sym c.write-struck.ensures.strikes ∙ w.if-struck.true)
      | then-struck-via-else-struck+then-meets w ↦ sym (ap fails_nothing c.write-struck.ensures.writes)
          ∙ range_struck c.write-struck.new.self _ (sym w.meets.ensures ∙ w.if-meets.true)
    ] in
    let old : MemoryRack =
    record {
      images = c.self.inside.images.items;
      opened = c.self.inside.opened;
      failing = c.self.inside.failing;
      unsynced = c.self.inside.unsynced;
      never_synced = c.self.inside.never_synced;
      account = c.self.inside.ledger;
    } in
    let new : MemoryRack =
    record {
      images = c.tear_image.new.images.items;
      opened = c.self.inside.opened;
      failing = c.write-struck.new.self;
      unsynced = c.with-self-inside.result;
      never_synced = c.self.inside.never_synced;
      account = c.fail.new.self;
    } in
    rw (← c.self.view_is) (unsyncs (range_in c.args.slot c.args.off (length c.args.bytes.now)) old new left.2.slots
    (ap Some (λ i n. left.2.shelf n i)) c.with-self-inside.ensures refl (as_sure old new (ap fails_nothing c.write-struck.ensures.writes) (inl failing)))

pub returns-in_default-clause-held : goal.returns-in_default-clause-held
returns-in_default-clause-held c =
    let front : c.args.slot < c.self.inside.opened =
    open-front c.self.inside.images.items c.self.inside.opened c.args.slot
    (subst (λ rack. c.args.slot < length (slots_of rack)) (sym c.self.view_is) c.requires.open) in
    let range = subst (λ rack. c.args.off + length c.args.bytes.now ≤ len_of (slots_of rack) c.args.slot) (sym c.self.view_is) c.requires.range in
    let left = torn c.tear-tear.result c.self.inside.opened c.args.slot c.args.off
    (length c.args.bytes.now) c.self.inside.images.items c.tear_image.new.images.items c.tear_image.result front c.self.invariant range
    c.tear_image.ensures in
    rw (← c.self.view_is) (left.0, left.1, ap Some left.2.held)

pub returns-in_default-clause-rest : goal.returns-in_default-clause-rest
returns-in_default-clause-rest c =
    let front : c.args.slot < c.self.inside.opened =
    open-front c.self.inside.images.items c.self.inside.opened c.args.slot
    (subst (λ rack. c.args.slot < length (slots_of rack)) (sym c.self.view_is) c.requires.open) in
    let range = subst (λ rack. c.args.off + length c.args.bytes.now ≤ len_of (slots_of rack) c.args.slot) (sym c.self.view_is) c.requires.range in
    let left = torn c.tear-tear.result c.self.inside.opened c.args.slot c.args.off
    (length c.args.bytes.now) c.self.inside.images.items c.tear_image.new.images.items c.tear_image.result front c.self.invariant range
    c.tear_image.ensures in
    let old : MemoryRack =
    record {
      images = c.self.inside.images.items;
      opened = c.self.inside.opened;
      failing = c.self.inside.failing;
      unsynced = c.self.inside.unsynced;
      never_synced = c.self.inside.never_synced;
      account = c.self.inside.ledger;
    } in
    let new : MemoryRack =
    record {
      images = c.tear_image.new.images.items;
      opened = c.self.inside.opened;
      failing = c.write-struck.new.self;
      unsynced = c.with-self-inside.result;
      never_synced = c.self.inside.never_synced;
      account = c.self.inside.ledger;
    } in
    rw (← c.self.view_is) (unsyncs (range_in c.args.slot c.args.off (length c.args.bytes.now)) old new left.2.slots
    (ap Some (λ i n. left.2.shelf n i)) c.with-self-inside.ensures refl (as_sure old new (ap fails_nothing c.write-struck.ensures.writes) (inr refl)))

pub returns-in_default-write_image-clause-held : goal.returns-in_default-write_image-clause-held
returns-in_default-write_image-clause-held c =
    let front : c.args.slot < c.self.inside.opened =
    open-front c.self.inside.images.items c.self.inside.opened c.args.slot
    (subst (λ rack. c.args.slot < length (slots_of rack)) (sym c.self.view_is) c.requires.open) in
    let left = partly c.self.inside.opened c.args.slot c.args.off
    (length c.args.bytes.now) c.self.inside.images.items c.write_image.new.images.items front c.self.invariant c.in_default-write_image.ensures in
    rw (← c.self.view_is) (left.0, left.1, ap Some left.2.held)

pub returns-in_default-write_image-clause-rest : goal.returns-in_default-write_image-clause-rest
returns-in_default-write_image-clause-rest c =
    let front : c.args.slot < c.self.inside.opened =
    open-front c.self.inside.images.items c.self.inside.opened c.args.slot
    (subst (λ rack. c.args.slot < length (slots_of rack)) (sym c.self.view_is) c.requires.open) in
    let left = partly c.self.inside.opened c.args.slot c.args.off
    (length c.args.bytes.now) c.self.inside.images.items c.write_image.new.images.items front c.self.invariant c.in_default-write_image.ensures in
    let old : MemoryRack =
    record {
      images = c.self.inside.images.items;
      opened = c.self.inside.opened;
      failing = c.self.inside.failing;
      unsynced = c.self.inside.unsynced;
      never_synced = c.self.inside.never_synced;
      account = c.self.inside.ledger;
    } in
    let new : MemoryRack =
    record {
      images = c.write_image.new.images.items;
      opened = c.self.inside.opened;
      failing = c.write-struck.new.self;
      unsynced = c.with-self-inside.result;
      never_synced = c.self.inside.never_synced;
      account = c.self.inside.ledger;
    } in
    rw (← c.self.view_is) (unsyncs (range_in c.args.slot c.args.off (length c.args.bytes.now)) old new left.2.slots
    (ap Some (λ i n. left.2.shelf n i)) c.with-self-inside.ensures refl (as_sure old new (ap fails_nothing c.write-struck.ensures.writes) (inr refl)))

pub returns-clause-held : goal.returns-clause-held
returns-clause-held c =
    let front : c.args.slot < c.self.inside.opened =
    open-front c.self.inside.images.items c.self.inside.opened c.args.slot
    (subst (λ rack. c.args.slot < length (slots_of rack)) (sym c.self.view_is) c.requires.open) in
    let left = overwritten c.self.inside.opened c.args.slot c.args.off c.args.bytes.now c.self.inside.images.items c.write_image.new.images.items front
    c.self.invariant c.in-Ok-write_image.ensures in
    rw (← c.self.view_is) (ap Some left.held)

pub returns-clause-rest : goal.returns-clause-rest
returns-clause-rest c =
    let front : c.args.slot < c.self.inside.opened =
    open-front c.self.inside.images.items c.self.inside.opened c.args.slot
    (subst (λ rack. c.args.slot < length (slots_of rack)) (sym c.self.view_is) c.requires.open) in
    let left = overwritten c.self.inside.opened c.args.slot c.args.off c.args.bytes.now c.self.inside.images.items c.write_image.new.images.items front
    c.self.invariant c.in-Ok-write_image.ensures in
    let old : MemoryRack =
    record {
      images = c.self.inside.images.items;
      opened = c.self.inside.opened;
      failing = c.self.inside.failing;
      unsynced = c.self.inside.unsynced;
      never_synced = c.self.inside.never_synced;
      account = c.self.inside.ledger;
    } in
    let new : MemoryRack =
    record {
      images = c.write_image.new.images.items;
      opened = c.self.inside.opened;
      failing = c.write-struck.new.self;
      unsynced = c.with-self-inside.result;
      never_synced = c.self.inside.never_synced;
      account = c.self.inside.ledger;
    } in
    rw (← c.self.view_is) (unsyncs (range_in c.args.slot c.args.off (length c.args.bytes.now)) old new left.slots (ap Some (λ i n. left.shelf n i))
    c.with-self-inside.ensures refl (as_sure old new (ap fails_nothing c.write-struck.ensures.writes) (inr refl)))

pub returns-then-struck-clause-torn : goal.returns-then-struck-clause-torn
returns-then-struck-clause-torn c =
    let front : c.args.slot < c.self.inside.opened =
    open-front c.self.inside.images.items c.self.inside.opened c.args.slot
    (subst (λ rack. c.args.slot < length (slots_of rack)) (sym c.self.view_is) c.requires.open) in
    let tear : c.tear-tear.result ≡ c.self.inside.failing.tear = c.tear-tear.ensures ∙ ap (λ f. f.tear) c.write-struck.ensures.writes in
    rw (← c.self.view_is, ← tear)
    (tears c.tear-tear.result c.self.inside.opened c.args.slot c.args.off (length c.args.bytes.now) c.self.inside.images.items
    c.tear_image.new.images.items c.in-Ok.field-0 front c.self.invariant c.in-Ok.ensures)

pub returns-then-struck-clause-sure : goal.returns-then-struck-clause-sure
returns-then-struck-clause-sure c =
    let old : MemoryRack =
    record {
      images = c.self.inside.images.items;
      opened = c.self.inside.opened;
      failing = c.self.inside.failing;
      unsynced = c.self.inside.unsynced;
      never_synced = c.self.inside.never_synced;
      account = c.self.inside.ledger;
    } in
    let failing : fails_nothing c.self.inside.failing ≡ false =
    elim c.then-struck.branch [
      | then-struck-via-then-struck w ↦ write_struck c.self.inside.failing (sym c.write-struck.ensures.strikes ∙ w.if-struck.true)
      | then-struck-via-else-struck+then-meets w ↦ sym (ap fails_nothing c.write-struck.ensures.writes)
          ∙ range_struck c.write-struck.new.self _ (sym w.meets.ensures ∙ w.if-meets.true)
    ] in
    rw (← c.self.view_is) (unsure old failing)

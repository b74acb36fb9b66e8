use Rattle.std.proofs.Common.{◌≡◌, ◌||◌, ◌∙◌, ap, sym, refl, true, false, true≢false, [], Some, None, cond, take, drop}
use Rattle.std.specs.List.{list_any, position}
use Rattle.std.proofs.Math.Bool.{or-true}
use Rattle.std.specs.Option.{is_none}
use Rattle.btr_rack.specs.Memory.{MemoryRack, call_strikes, shelf_of, is_sure}
use Rattle.btr_rack.specs.Image.{is_named, zeros}
use Rattle.btr_rack.proofs.Racks.{opens, takes, on_shelf}
use Rattle.btr_rack.proofs.Shelves.{shelf_at, shelf_nowhere}
use Rattle.btr_rack.proofs.Sures.{unsure, call_struck}
use Rattle.btr_rack.proofs.mem_rack.MemRackRack.open.Goals as goal
use Rattle.btr_rack.proofs.mem_rack.MemRackRack.open.Goals.{in_default-place_on_shelf-via-in-Some+else-not-struck}
use Rattle.btr_rack.proofs.mem_rack.MemRackRack.open.Goals.{in_default-place_on_shelf-via-in_default-place_on_shelf}

pub returns-in-Some-clause-slots : goal.returns-in-Some-clause-slots
returns-in-Some-clause-slots c =
    let answer : Some c.in-Some.at ≡ cond (list_any (is_named c.args.name.now) (take c.self.inside.opened c.self.inside.images.items)) None
    (position (is_named c.args.name.now) (drop c.self.inside.opened c.self.inside.images.items)) =
    rw (← c.deref.ensures.value) c.in-Some.ensures in
    let placed = on_shelf _ _ c.in-Some.at answer in
    rw (← c.self.view_is)
    (opens c.args.name.now c.args.write c.self.inside.images.items c.open_image.new.images.items c.self.inside.opened c.in-Some.at c.self.invariant
    placed.0 placed.1 c.open_image.ensures)

pub returns-in-Some-clause-images : goal.returns-in-Some-clause-images
returns-in-Some-clause-images c =
    let answer : Some c.in-Some.at ≡ cond (list_any (is_named c.args.name.now) (take c.self.inside.opened c.self.inside.images.items)) None
    (position (is_named c.args.name.now) (drop c.self.inside.opened c.self.inside.images.items)) =
    rw (← c.deref.ensures.value) c.in-Some.ensures in
    let placed = on_shelf _ _ c.in-Some.at answer in
    rw (← c.self.view_is)
    (takes c.args.name.now c.args.write c.self.inside.images.items c.open_image.new.images.items c.self.inside.opened c.in-Some.at c.self.invariant
    placed.0 placed.1 c.open_image.ensures)

pub returns-in-Some-clause-fails : goal.returns-in-Some-clause-fails
returns-in-Some-clause-fails c =
    let answer : Some c.in-Some.at ≡ cond (list_any (is_named c.args.name.now) (take c.self.inside.opened c.self.inside.images.items)) None
    (position (is_named c.args.name.now) (drop c.self.inside.opened c.self.inside.images.items)) =
    rw (← c.deref.ensures.value) c.in-Some.ensures in
    let shelved = shelf_at c.args.name.now c.self.inside.images.items c.self.inside.opened c.in-Some.at (zeros [] 0) answer in
    let spared : call_strikes c.self.inside.failing ≡ false = cc c.call-struck.ensures.strikes in
    rw (← c.self.view_is)
    (ap (λ b. b || is_none (shelf_of (record {
      images = c.self.inside.images.items;
      opened = c.self.inside.opened;
      failing = c.self.inside.failing;
      unsynced = c.self.inside.unsynced;
      never_synced =
          c.self.inside.never_synced;
      account = c.self.inside.ledger;
    }) c.args.name.now)) spared ∙ ap is_none shelved)

pub returns-in_default-place_on_shelf-clause-fails : goal.returns-in_default-place_on_shelf-clause-fails
returns-in_default-place_on_shelf-clause-fails c =
    elim c.in_default-place_on_shelf.branch [
      | in_default-place_on_shelf-via-in-Some+else-not-struck w ↦
          let struck : call_strikes c.self.inside.failing ≡ true = cc c.call-struck.ensures.strikes in
          rw (← c.self.view_is) (rw struck refl)
      | in_default-place_on_shelf-via-in_default-place_on_shelf w ↦
          let answer : None ≡ cond (list_any (is_named c.args.name.now) (take c.self.inside.opened c.self.inside.images.items)) None
          (position (is_named c.args.name.now) (drop c.self.inside.opened c.self.inside.images.items)) =
          rw (← c.deref.ensures.value) w.in_default-place_on_shelf.ensures in
          rw (← c.self.view_is)
          (ap (λ shelved. call_strikes c.self.inside.failing || is_none shelved)
          (shelf_nowhere c.args.name.now c.self.inside.images.items c.self.inside.opened answer) ∙ or-true (call_strikes c.self.inside.failing))
    ]

pub returns-in_default-place_on_shelf-clause-sure : goal.returns-in_default-place_on_shelf-clause-sure
returns-in_default-place_on_shelf-clause-sure c =
    let old : MemoryRack =
    record {
      images = c.self.inside.images.items;
      opened = c.self.inside.opened;
      failing = c.self.inside.failing;
      unsynced = c.self.inside.unsynced;
      never_synced = c.self.inside.never_synced;
      account = c.self.inside.ledger;
    } in
    elim c.in_default-place_on_shelf.branch [
      | in_default-place_on_shelf-via-in-Some+else-not-struck w ↦
          let struck : call_strikes c.self.inside.failing ≡ true = cc c.call-struck.ensures.strikes in
          let no : is_sure old ≡ false = unsure old (call_struck c.self.inside.failing struck) in
          rw (← c.self.view_is) (λ sure. absurd (true≢false (sym sure ∙ no)))
      | in_default-place_on_shelf-via-in_default-place_on_shelf w ↦
          let answer : None ≡ cond (list_any (is_named c.args.name.now) (take c.self.inside.opened c.self.inside.images.items)) None
          (position (is_named c.args.name.now) (drop c.self.inside.opened c.self.inside.images.items)) =
          rw (← c.deref.ensures.value) w.in_default-place_on_shelf.ensures in
          rw (← c.self.view_is) (λ sure. shelf_nowhere c.args.name.now c.self.inside.images.items c.self.inside.opened answer)
    ]

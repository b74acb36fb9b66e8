use Rattle.std.proofs.Common.{◌≡◌, Some, None, cond, take, drop, refl}
use Rattle.std.specs.List.{list_any, position}
use Rattle.btr_rack.specs.Image.{is_named}
use Rattle.btr_rack.specs.Memory.{MemoryRack}
use Rattle.btr_rack.proofs.Shelves.{cuts, shelf_nowhere}
use Rattle.btr_rack.proofs.mem_rack.MemRack.cut.Goals as goal

pub returns-in-Some : goal.returns-in-Some
returns-in-Some c =
    let answer : Some c.in-Some.at ≡ cond (list_any (is_named c.args.name.now) (take c.self.inside.opened c.self.inside.images.items)) None
    (position (is_named c.args.name.now) (drop c.self.inside.opened c.self.inside.images.items)) =
    rw (← c.deref.ensures.value) c.in-Some.ensures in
    let old : MemoryRack =
    record {
      images = c.self.inside.images.items;
      opened = c.self.inside.opened;
      failing = c.self.inside.failing;
      unsynced = c.self.inside.unsynced;
      never_synced = c.self.inside.never_synced;
      account = c.self.inside.ledger;
    } in
    rw (← c.self.view_is) (cuts c.args.name.now c.args.len c.in-Some.at old c.cut_image.new.images.items c.cut_image.result answer c.cut_image.ensures)

pub returns-in-None : goal.returns-in-None
returns-in-None c =
    let answer : None ≡ cond (list_any (is_named c.args.name.now) (take c.self.inside.opened c.self.inside.images.items)) None
    (position (is_named c.args.name.now) (drop c.self.inside.opened c.self.inside.images.items)) =
    rw (← c.deref.ensures.value) c.in-None.ensures in
    rw (← c.self.view_is) (rw (shelf_nowhere c.args.name.now c.self.inside.images.items c.self.inside.opened answer) (tt, refl))

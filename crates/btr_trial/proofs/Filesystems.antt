-- What opening the images of a rack comes to, no call of which fails.
use Rattle.std.proofs.Common.{◌≡◌, ◌⊎◌, ◌∙◌, ⊎_elim, ℕ, [], Option, Some, None, Result, Ok, Err, refl, sym, ap, subst, arith}
use Rattle.std.specs.Option.{IfSome}
use Rattle.btr_prog.specs.Answers.{Halt, Fault as halts, Follows, no_part}
use Rattle.btr_prog.specs.Calls.{First}
use Rattle.btr_prog.specs.Prog.{exec}
use Rattle.btr_rack.specs.Memory.{MemoryRack, held_of}
use Rattle.btr_rack.specs.Rack.{OnlyReads, Rose, Seen, Steady}
use Rattle.btr_read.proofs.Compared.{compares_steady, steady_not_rose}
use Rattle.btr_read.specs.Fate as fault
use Rattle.btr_read.specs.Fate.{Fault, fate}
use Rattle.btr_volume.specs.Maps.{array_layout}
use Rattle.btr_volume.specs.Opening.{IsFresh, OpenCause, Opened, Opens, RootsDiffer, Scans, Starts}
use Rattle.btr_volume.specs.Start.{Images, Start, layout_by, start_of}
use Rattle.btr_volume.specs.Table.{TableResult, refusal_of, table_scan}
use Rattle.btr_volume.specs.Tree.{root_want}
use Rattle.btr_volume.specs.declared.fault.OpenFault.{OpenFault}
use Rattle.btr_volume.specs.declared.fault.OpenFault.TheVariants as opening
use Rattle.btr_volume.specs.declared.fault.TableFault.{TableFault}
use Rattle.btr_volume.specs.declared.volume.Volume.{Volume}
use Rattle.btr_walk.specs.Reading.{UnreadBlock, halt_of, unread_by}
use Rattle.btr_walk.specs.declared.fault.TreeFault.{TreeFault}
use Rattle.btr_walk.specs.declared.fault.TreeFault.TheVariants as tree
use Rattle.btr_trial.specs.Opened.{filesystem_of, with_roots, with_start, with_table}
use Rattle.btr_trial.specs.Opening.{filesystem_in, OpensOrRefuses as OpensAs}
use Rattle.btr_trial.specs.Sure.{KeepsOpen, sure_seen}

-- no call of a rack failed that is sure
pub steady_none : Steady 0 0
steady_none = (omega arith, omega arith)

-- a count of faults that stays at 0 didn't rise
pub none_rose : Rose 0 0 → ⊥
none_rose rose = omega (arith, rose.1)

-- the filesystem of some images is that of what they start as
by_start : (images : Images) → filesystem_of images ≡ with_start images (start_of images)
unfolding filesystem_of
by_start images = refl

-- the scan of the chunk tree is that over the images
pub scanned : (start : Start) (old new : Seen) (images : Images) (answer : Result TableResult (Halt Fault UnreadBlock)) → old.held ≡ Some images
    → Steady old.account.faults new.account.faults → Scans start old new answer
    → Follows {S = ⊥} (unread_by (array_layout start) old new) no_part [] (exec (fate images (array_layout start)) (table_scan start)) [] answer
scanned start old new images answer told steady scans =
    subst (λ (o : Option Images). IfSome o (λ i. Follows {S = ⊥} (unread_by (array_layout start) old new) no_part []
    (exec (fate i (array_layout start)) (table_scan start)) [] answer)) told
    (scans.calls.content First (omega (arith, scans.calls.later, steady.0), steady.1))

module _ (old new : Seen) (images : Images) (told : old.held ≡ Some images) (steady : Steady old.account.faults new.account.faults) where
  -- the volume is the filesystem
  opened : (volume : Volume) → Opened images old new volume → filesystem_of images ≡ Some (filesystem_in volume)
  opened volume o =
      let scan = scanned o.start old new images (Ok (Ok volume.store.layout.chunks)) told steady o.scans in
      let none = compares_steady images (layout_by o.start volume.store.layout.chunks) (root_want o.start.sup) old new None told steady o.alike in
      by_start images ∙ ap (with_start images) o.is ∙ ap (with_table images o.start) scan.1 ∙ ap (with_roots o.start volume.store.layout.chunks) (sym none)
      ∙ ap (λ s. Some (record { layout = layout_by o.start volume.store.layout.chunks; sup = s })) (sym o.by.sup)
      ∙ ap (λ l. Some (record { layout = l; sup = volume.sup })) (sym o.by.layout)

  -- a refusal by a chunk of the chunk tree
  by_table : (f : TableFault) → Starts images old new (Ok (Err f)) → filesystem_of images ≡ None
  by_table f s =
      let scan = scanned s.start old new images (Ok (Err f)) told steady s.scans in
      by_start images ∙ ap (with_start images) s.is ∙ ap (with_table images s.start) scan.1

  -- the chunk tree can't be read on
  by_fault : (f : Fault) → Starts images old new (Err (halts f)) → filesystem_of images ≡ None
  by_fault f s =
      let scan = scanned s.start old new images (Err (halts f)) told steady s.scans in
      by_start images ∙ ap (with_start images) s.is ∙ ap (with_table images s.start) scan.1

  -- where a block of the chunk tree can't be had, the images are no filesystem
  by_tree : (f : TreeFault) → OpenCause {T = Volume} old new (Err (opening.Tree f)) → Starts images old new (Err (halt_of f)) → filesystem_of images ≡ None
  by_tree (tree.Lost a) cause s = by_fault (fault.Lost a) s
  by_tree (tree.Unmapped a) cause s = by_fault (fault.Unmapped a) s
  by_tree (tree.Crosses a) cause s = by_fault (fault.Crosses a) s
  by_tree (tree.Malformed a) cause s = by_fault (fault.Malformed a) s
  by_tree (tree.Unread a slot) cause s = absurd (steady_not_rose old.account.faults new.account.faults steady cause.1.1.unread.rose)

  -- by the superblocks, or by a chunk of the chunk tree
  by_refusal : (refusal : OpenFault) → (start_of images ≡ Err refusal)
      ⊎ ((f : TableFault) × (refusal_of f ≡ refusal) × Starts images old new (Ok (Err f))) → filesystem_of images ≡ None
  by_refusal refusal why = ⊎_elim (λ start. by_start images ∙ ap (with_start images) start) (λ table. by_table table.0 table.2) why

  -- by the superblocks, or by the root tree's root block
  by_roots : (slot : ℕ) → (start_of images ≡ Err (opening.Diverged slot)) ⊎ RootsDiffer images old new slot → filesystem_of images ≡ None
  by_roots slot why =
      ⊎_elim (λ start. by_start images ∙ ap (with_start images) start) (λ (d : RootsDiffer images old new slot).
      let scan = scanned d.start old new images (Ok (Ok d.chunks)) told steady d.scans in
      let some = compares_steady images (layout_by d.start d.chunks) (root_want d.start.sup) old new (Some slot) told steady d.differ in
      by_start images ∙ ap (with_start images) d.is ∙ ap (with_table images d.start) scan.1 ∙ ap (with_roots d.start d.chunks) (sym some)) why

  -- where opening was refused for anything but want of memory, the images are no filesystem
  refused : (refusal : OpenFault) → (refusal ≡ opening.Memory → ⊥) → OpenCause {T = Volume} old new (Err refusal) → Opens images old new (Err refusal)
      → filesystem_of images ≡ None
  refused (opening.ImageFault slot) own cause opens = absurd (steady_not_rose old.account.faults new.account.faults steady cause.faults)
  refused opening.Memory own cause opens = absurd (own refl)
  refused (opening.Tree f) own cause opens = by_tree f cause opens
  refused (opening.NoSuper slot) own cause opens = by_refusal (opening.NoSuper slot) opens
  refused (opening.SumKind kind) own cause opens = by_refusal (opening.SumKind kind) opens
  refused (opening.Foreign slot) own cause opens = by_refusal (opening.Foreign slot) opens
  refused (opening.Twin slot) own cause opens = by_refusal (opening.Twin slot) opens
  refused (opening.Diverged slot) own cause opens = by_roots slot opens
  refused (opening.Unsupported bits) own cause opens = by_refusal (opening.Unsupported bits) opens
  refused opening.Geometry own cause opens = by_refusal opening.Geometry opens
  refused opening.LogPending own cause opens = by_refusal opening.LogPending opens
  refused opening.BadArray own cause opens = by_refusal opening.BadArray opens
  refused (opening.BadChunk start) own cause opens = by_refusal (opening.BadChunk start) opens
  refused (opening.Limit which count) own cause opens = by_refusal (opening.Limit which count) opens

-- what was only read is open as before
pub images_in : (a b : Images) → ◌≡◌ {A = Option Images} (Some a) (Some b) → a ≡ b
images_in a b e = cc e

-- where a rack was only read, the same images are open, with the bytes that they had
pub kept_open : (old new : MemoryRack) → OnlyReads (sure_seen old) (sure_seen new) → KeepsOpen old new
kept_open old new reads = record {
  slots = ap (λ (s : Seen). s.slots) reads.same;
  held = images_in (held_of new) (held_of old) (ap (λ (s : Seen). s.held) reads.same);
}

-- over a rack that is sure
module _ (old new : MemoryRack) (reads : OnlyReads (sure_seen old) (sure_seen new)) where
  -- the rack holds the same open images as before the calls
  here : held_of new ≡ held_of old
  here = (kept_open old new reads).held

  -- where a volume was opened, it is the filesystem of the images, and can be read
  pub opens_volume : (volume : Volume) → IsFresh (sure_seen new) volume → Opens (held_of old) (sure_seen old) (sure_seen new) (Ok volume)
      → OpensAs new (Some volume)
  opens_volume volume fresh opens = (fresh, ap filesystem_of here ∙ opened (sure_seen old) (sure_seen new) (held_of old) refl steady_none volume opens)

  -- where opening was refused for anything but want of memory, the rack's images are no filesystem
  pub opens_nothing : (refusal : OpenFault) → (refusal ≡ opening.Memory → ⊥) → OpenCause {T = Volume} (sure_seen old) (sure_seen new) (Err refusal)
      → Opens (held_of old) (sure_seen old) (sure_seen new) (Err refusal) → OpensAs new None
  opens_nothing refusal own cause opens = ap filesystem_of here ∙ refused (sure_seen old) (sure_seen new) (held_of old) refl steady_none refusal own cause opens

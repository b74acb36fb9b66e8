use Rattle.std.proofs.Common.{ℕ, ◌+◌, ◌<◌, List, length, take, Option, Ok, refl, sym, ap, ◌∙◌, subst, arith}
use Rattle.std.specs.Prelude.{◌==◌}
use Rattle.btr_files.specs.Listing.{named_row}
use Rattle.btr_listing.specs.Lines.{path_in}
use Rattle.btr_restore.specs.Ends.{world_of}
use Rattle.btr_restore.specs.Running.{Wrote, outside, world}
use Rattle.btr_restore.proofs.Cycles.{carried, ended_passed, room_above, room_below, room_left, room_within, some_place, stands_over, stands_up, stands_within}
use Rattle.btr_volume.proofs.Onward.{reads_on}
use Rattle.btr_salvage.specs.declared.folder.Found.{Found}
use Rattle.btr_salvage.specs.Damages.{fault_by}
use Rattle.btr_salvage.specs.Folders.{FolderRankFalls, found_in}
use Rattle.btr_salvage.specs.Listing.{meet_in}
use Rattle.btr_salvage.specs.Running.{Ran}
use Rattle.btr_salvage.specs.Marks.{folder_tour}
use Rattle.btr_salvage.specs.Salvaging.{part_missing}
use Rattle.btr_salvage.specs.Treating.{counted}
use Rattle.btr_salvage.proofs.Listings.{directory_is, underway_end, underway_fault, underway_first, underway_halt, underway_step}
use Rattle.btr_salvage.proofs.Cycles.{entry_halts, entry_over, entry_within, within_halts, within_up}
use Rattle.btr_salvage.proofs.Rans.{ran_memory, ran_passed, ran_value, ran_writes}
use Rattle.btr_salvage.proofs.listing.+listing.Goals as goal

pub list-loop-fault-init : goal.list-loop-fault-init
list-loop-fault-init g t c = (
  record { rack = refl; vol = refl; tree = refl; out = refl },
  underway_first (folder_tour c.args.dir.now.tree c.args.dir.now.dirid) c.requires.ready c.new-here.ensures.folder
      (λ s. directory_is c.args.dir.now.job.now.plan s c.args.dir.now.job.now.sums (length c.args.below.now) c.args.dir.now.tree c.args.dir.now.dirid
      c.args.path.now c.args.salvaged.now) c.new-here.ensures.program c.new-here.ensures.on,
  λ n h. h,
)

pub list-next-requires-clause-serves : goal.list-next-requires-clause-serves
list-next-requires-clause-serves g t c = c.loop-fault.invariant.1.ready.serves

pub list-next-requires-clause-room : goal.list-next-requires-clause-room
list-next-requires-clause-room g t c = omega (arith, c.loop-fault.invariant.1.ready.room)

pub list-next-requires-clause-folder : goal.list-next-requires-clause-folder
list-next-requires-clause-folder g t c = c.loop-fault.invariant.1.reads_on

pub list-returns-in-Err-clause-ran : goal.list-returns-in-Err-clause-ran
list-returns-in-Err-clause-ran g t c =
    underway_fault c.loop-fault.invariant.1 c.next.new.self c.next.new.name c.in-Err.ensures.reads c.in-Err.ensures.volume c.in-Err.ensures.serves
    c.in-Err.fault c.in-Err.ensures.cause c.in-Err.ensures.content

pub list-returns-in-Ok-None-clause-ran : goal.list-returns-in-Ok-None-clause-ran
list-returns-in-Ok-None-clause-ran g t c =
    underway_end c.loop-fault.invariant.1 c.next.new.self c.next.new.name c.in-Ok-None.ensures.reads c.in-Ok-None.ensures.volume
    c.in-Ok-None.ensures.serves {result = c.next.result} c.next.ensures.content (c.in-Ok-None.is ∙ ap Ok c.in-Ok-None.field-0-is)

pub list-returns-in-Ok-None-clause-path : goal.list-returns-in-Ok-None-clause-path
list-returns-in-Ok-None-clause-path g t c = c.loop-fault.invariant.1.same_path

pub list-returns-in-Ok-None-clause-stands : goal.list-returns-in-Ok-None-clause-stands
list-returns-in-Ok-None-clause-stands g t c n h = c.loop-fault.invariant.2 n h

pub list-list_found-requires : goal.list-list_found-requires
list-list_found-requires g t c κs within =
    let ready = reads_on _ _ _ c.loop-fault.invariant.1.ready c.in-Ok-Some.ensures.serves c.in-Ok-Some.ensures.volume in
    let stands = c.loop-fault.invariant.2 (g.T.TreeSink.sink c.args.ends.now.tree.now).depth (λ d. (c.requires.between d, refl)) in
    let same = c.loop-fault.invariant.1.same_below in
    (omega (arith, c.decreases, same), carried within (ready, (λ dry. (stands dry).0, λ dry. room_left _ _ _ _ 512 (stands dry).1 same (c.requires.room dry))))

pub list-loop-fault-smaller : goal.list-loop-fault-smaller
list-loop-fault-smaller g t c = subst (λ (r : Option Found). FolderRankFalls c.loop-fault.here.folder c.next.new.self (Ok r)) c.in-Ok-Some.field-0-is
    c.in-Ok-Some.ensures.rank_falls

pub list-loop-fault-preserved : goal.list-loop-fault-preserved
list-loop-fault-preserved g t c =
    let was = c.loop-fault.invariant in
    let did = c.in_ok-list_found-in-Ok-Some.ensures in (
      record { rack = did.same.rack ∙ was.0.rack; vol = did.same.vol ∙ was.0.vol; tree = did.same.tree ∙ was.0.tree; out = did.same.out ∙ was.0.out },
      underway_step was.1 c.next.new.self c.next.new.name c.in-Ok-Some.ensures.reads c.in-Ok-Some.ensures.volume c.in-Ok-Some.ensures.serves
          {result = c.next.result} c.next.ensures.content c.in-Ok-Some.found (c.in-Ok-Some.is ∙ ap Ok c.in-Ok-Some.field-0-is) c.list_found.new.salvaged
          did.ran c.in-Ok-Some.ensures.folder
          (c.cut.ensures ∙ (ap (λ (n : ℕ). take n c.list_found.new.path) (c.len-len.ensures ∙ ap length (sym was.1.same_path)) ∙ (did.path ∙ was.1.same_path)))
          c.list_found.auto.below,
      λ n h. did.stands n (was.2 n h),
    )

pub list-returns-in_err-list_found-in-Ok-Some-clause-ran : goal.list-returns-in_err-list_found-in-Ok-Some-clause-ran
list-returns-in_err-list_found-in-Ok-Some-clause-ran g t c s e =
    ran_passed _ (ended_passed _ _ _ c.from_residual.ensures.1)
    (underway_halt c.loop-fault.invariant.1 c.next.new.self c.next.new.name c.in-Ok-Some.ensures.reads c.in-Ok-Some.ensures.volume
    c.in-Ok-Some.ensures.serves {result = c.next.result} c.next.ensures.content c.in-Ok-Some.found (c.in-Ok-Some.is ∙ ap Ok c.in-Ok-Some.field-0-is)
    c.in_err-list_found-in-Ok-Some.field-0.0 c.in_err-list_found-in-Ok-Some.ensures.ran s e)

pub list_entry-returns-in-Err-clause-ran : goal.list_entry-returns-in-Err-clause-ran
list_entry-returns-in-Err-clause-ran g t c s e =
    ran_memory _ _ _ _ c.requires.ready

pub list_entry-list_within-requires : goal.list_entry-list_within-requires
list_entry-list_within-requires g t c κs within =
    let stands = stands_within c.args.dir.now.job.now.plan.dry (g.T.TreeSink.sink c.args.ends.now.tree.now).depth
    (g.T.TreeSink.sink c.treat.new.ends.tree.now) c.in_ok-treat.field-0 c.in-Within.tree c.in-Within.dirid c.in-Within.is
    (c.in_ok-treat.ensures.stands (g.T.TreeSink.sink c.args.ends.now.tree.now).depth (λ d. (c.requires.between d, refl))) in
    let place = some_place (length c.args.below.now) c.is_empty.result c.in_ok-treat.field-0 c.in-Within.tree c.in-Within.dirid
    (λ z. c.is_empty.ensures ∙ ap (λ (k : ℕ). k == 0) z) c.in-Within.is c.in_ok-treat.ensures.flat in
    let ready = (c.treat.ensures.ran c.args.ends.now.vol.now.sup refl).ready in (
      omega (arith, c.decreases),
      carried within (
        ready,
        (
          λ dry. (stands dry).0,
          (
            place,
            (
              λ dry. subst (λ (d : ℕ). 0 < d) (sym (stands dry).1) (omega arith),
              λ dry. room_within _ _ _ 512 (stands dry).1 (c.requires.room dry),
            ),
          ),
        ),
      ),
    )

pub list_entry-treat-requires-clause-above : goal.list_entry-treat-requires-clause-above
list_entry-treat-requires-clause-above g t c = λ shallow dry. room_above _ _ 512 _ c.is_empty.ensures shallow (c.requires.room dry)

pub list_entry-returns-in_err-treat-clause-ran : goal.list_entry-returns-in_err-treat-clause-ran
list_entry-returns-in_err-treat-clause-ran g t c s e =
    ran_passed _ (ended_passed _ _ _ c.from_residual.ensures.1)
    (entry_halts c.args.dir.now.job.now (length c.args.below.now) c.args.dir.now.tree c.args.dir.now.dirid c.args.path.now c.args.salvaged.now
    (named_row c.args.named.now.row c.args.named.now.name.now) c.is_empty.ensures
    (c.in-Ok.ensures ∙ ap (path_in c.args.path.now) c.as_bytes.ensures) c.as_bytes-2.ensures c.in_err-treat.field-0.0 c.in_err-treat.ensures.ran s e)

pub list_entry-returns-in-Over-clause-ran : goal.list_entry-returns-in-Over-clause-ran
list_entry-returns-in-Over-clause-ran g t c =
    entry_over c.args.dir.now.job.now (length c.args.below.now) c.args.dir.now.tree c.args.dir.now.dirid c.args.path.now c.args.salvaged.now
    (named_row c.args.named.now.row c.args.named.now.name.now) c.is_empty.ensures
    (c.in-Ok.ensures ∙ ap (path_in c.args.path.now) c.as_bytes.ensures) c.as_bytes-2.ensures c.treat.new.salvaged
    {treated = c.in_ok-treat.field-0} c.in_ok-treat.ensures.ran c.in-Over.is

pub list_entry-returns-in-Over-clause-stands : goal.list_entry-returns-in-Over-clause-stands
list_entry-returns-in-Over-clause-stands g t c n h =
    stands_over _ n (g.T.TreeSink.sink c.treat.new.ends.tree.now) c.in_ok-treat.field-0 c.in-Over.is (c.in_ok-treat.ensures.stands n h)

pub list_entry-returns-in-Within-clause-ran : goal.list_entry-returns-in-Within-clause-ran
list_entry-returns-in-Within-clause-ran g t c =
    entry_within c.args.dir.now.job.now (length c.args.below.now) c.args.dir.now.tree c.args.dir.now.dirid c.args.path.now c.args.salvaged.now
    (named_row c.args.named.now.row c.args.named.now.name.now) c.is_empty.ensures
    (c.in-Ok.ensures ∙ ap (path_in c.args.path.now) c.as_bytes.ensures) c.as_bytes-2.ensures c.treat.new.salvaged
    {treated = c.in_ok-treat.field-0} c.in_ok-treat.ensures.ran c.in-Within.is c.list_within.ensures.ran

pub list_entry-returns-in-Within-clause-stands : goal.list_entry-returns-in-Within-clause-stands
list_entry-returns-in-Within-clause-stands g t c n h =
    c.list_within.ensures.stands n (stands_within _ n (g.T.TreeSink.sink c.treat.new.ends.tree.now) c.in_ok-treat.field-0 c.in-Within.tree c.in-Within.dirid
    c.in-Within.is (c.in_ok-treat.ensures.stands n h))

pub list_within-list-requires : goal.list_within-list-requires
list_within-list-requires g t c κs within =
    let below = sym c.in-Some.ensures.cases.1 in
    (omega (arith, c.decreases, below), carried within (c.requires.ready, (c.requires.between, λ dry. room_below _ _ _ 512 below (c.requires.room dry))))

pub list_within-leave_dir-requires-clause-between : goal.list_within-leave_dir-requires-clause-between
list_within-leave_dir-requires-clause-between g t c =
    λ dry. (c.in_ok-list.ensures.stands (g.T.TreeSink.sink c.args.ends.now.tree.now).depth (λ d. (c.requires.between d, refl)) dry).0

pub list_within-leave_dir-requires-clause-below : goal.list_within-leave_dir-requires-clause-below
list_within-leave_dir-requires-clause-below g t c =
    λ dry. subst (λ (d : ℕ). 0 < d) (sym (c.in_ok-list.ensures.stands (g.T.TreeSink.sink c.args.ends.now.tree.now).depth (λ d.
    (c.requires.between d, refl)) dry).1)
    (c.requires.below dry)

pub list_within-returns-in_err-list-clause-ran : goal.list_within-returns-in_err-list-clause-ran
list_within-returns-in_err-list-clause-ran g t c s e =
    ran_passed _ (ended_passed _ _ _ c.from_residual.ensures.1)
    (within_halts c.args.dir.now.job.now (length c.args.folders.now) (length c.in-Some.below.now) (sym c.in-Some.ensures.cases.1) c.args.dir.now.tree
    c.args.dir.now.dirid c.args.path.now c.args.salvaged.now c.in_err-list.field-0.0 c.in_err-list.ensures.ran s e)

pub list_within-returns-clause-ran : goal.list_within-returns-clause-ran
list_within-returns-clause-ran g t c =
    within_up c.args.dir.now.job.now (length c.args.folders.now) (length c.in-Some.below.now) (sym c.in-Some.ensures.cases.1) c.args.dir.now.tree
    c.args.dir.now.dirid c.args.path.now c.args.salvaged.now c.list.new.salvaged c.in_ok-list.ensures.ran
    (c.leave_dir.ensures.wrote (g.O.Out.text c.list.new.ends.out.now) (g.O.Out.account c.list.new.ends.out.now))

pub list_within-returns-clause-stands : goal.list_within-returns-clause-stands
list_within-returns-clause-stands g t c n h =
    stands_up c.args.dir.now.job.now.plan.dry n (g.T.TreeSink.sink c.list.new.ends.tree.now)
    (g.T.TreeSink.sink c.leave_dir.new.tree) c.leave_dir.result c.leave_dir.ensures.after (c.in_ok-list.ensures.stands (n + 1) h)

pub list_found-returns-in-Passing-clause-ran : goal.list_found-returns-in-Passing-clause-ran
list_found-returns-in-Passing-clause-ran g t c s e =
    let x = world_of g.R.Rack.seen g.T.TreeSink.sink g.T.TreeSink.account g.O.Out.text g.O.Out.account c.args.ends.now in
    subst (λ (f : Found). Ran (meet_in c.args.dir.now.job.now.plan s c.args.dir.now.job.now.sums
    (length c.args.below.now) c.args.dir.now.tree c.args.dir.now.dirid c.args.path.now c.args.salvaged.now (found_in f c.args.named.now.name.now)) x x
    (Ok c.args.salvaged.now))
    (sym c.in-Passing.is)
    (ran_value c.args.salvaged.now x c.requires.ready)

pub list_found-returns-in-Part-clause-ran : goal.list_found-returns-in-Part-clause-ran
list_found-returns-in-Part-clause-ran g t c s e =
    let sink = g.T.TreeSink.sink c.args.ends.now.tree.now in
    let calls = g.T.TreeSink.account c.args.ends.now.tree.now in
    let x = outside sink calls (g.O.Out.text c.args.ends.now.out.now) (g.O.Out.account c.args.ends.now.out.now) in
    let y = outside sink calls (g.O.Out.text c.tell_part.new.out) (g.O.Out.account c.tell_part.new.out) in
    subst (λ (f : Found). Ran (meet_in c.args.dir.now.job.now.plan s c.args.dir.now.job.now.sums
    (length c.args.below.now) c.args.dir.now.tree c.args.dir.now.dirid c.args.path.now c.args.salvaged.now (found_in f c.args.named.now.name.now))
    (world (g.R.Rack.seen c.args.ends.now.rack.now) c.args.ends.now.vol.now x) (world (g.R.Rack.seen c.args.ends.now.rack.now) c.args.ends.now.vol.now y)
    (counted c.tell_part.new.salvaged c.tell_part.result)) (sym c.in-Part.is)
    (ran_writes (part_missing (fault_by c.in-Part.damage) c.args.path.now c.args.salvaged.now) (g.R.Rack.seen c.args.ends.now.rack.now)
    c.args.ends.now.vol.now x y
    (counted c.tell_part.new.salvaged c.tell_part.result) c.requires.ready
    (subst (λ (p : List ℕ). Wrote (part_missing (fault_by c.in-Part.damage) p c.args.salvaged.now) x y (counted c.tell_part.new.salvaged c.tell_part.result))
    c.as_bytes.ensures (c.tell_part.ensures sink calls)))

pub list_found-returns-in-Entry-clause-ran : goal.list_found-returns-in-Entry-clause-ran
list_found-returns-in-Entry-clause-ran g t c s e =
    subst (λ (f : Found). Ran (meet_in c.args.dir.now.job.now.plan s c.args.dir.now.job.now.sums
    (length c.args.below.now) c.args.dir.now.tree c.args.dir.now.dirid c.args.path.now c.args.salvaged.now (found_in f c.args.named.now.name.now))
    (world_of g.R.Rack.seen g.T.TreeSink.sink g.T.TreeSink.account g.O.Out.text g.O.Out.account c.args.ends.now)
    (world_of g.R.Rack.seen g.T.TreeSink.sink g.T.TreeSink.account g.O.Out.text g.O.Out.account c.list_entry.new.ends)
    (counted c.list_entry.new.salvaged c.list_entry.result)) (sym c.in-Entry.is)
    (c.list_entry.ensures.ran s e)

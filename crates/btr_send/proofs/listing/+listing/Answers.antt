use Rattle.std.proofs.Common.{ℕ, length, take, Option, Ok, refl, sym, ap, ◌∙◌, subst, arith}
use Rattle.std.specs.Prelude.{◌==◌}
use Rattle.btr_files.specs.Entries.{entries}
use Rattle.btr_files.specs.Listing.{DirRankFalls, named_row}
use Rattle.btr_files.specs.declared.dir_row.DirRow.{DirRow}
use Rattle.btr_listing.specs.Lines.{path_in}
use Rattle.btr_restore.proofs.Listings.{underway_end, underway_fault, underway_first, underway_halt, underway_step}
use Rattle.btr_restore.proofs.Cycles.{carried, ended_passed, entry_halts, entry_over, entry_within, some_place}
use Rattle.btr_restore.proofs.Rans.{ran_memory, ran_passed}
use Rattle.btr_send.specs.Listing.{listing_in}
use Rattle.btr_send.specs.Sending.{listed_in, treated}
use Rattle.btr_send.proofs.Cycles.{directory_is, within_listed}
use Rattle.btr_volume.proofs.Onward.{reads_on}
use Rattle.btr_send.proofs.listing.+listing.Goals as goal

pub list-loop-fault-init : goal.list-loop-fault-init
list-loop-fault-init g t c = (
  record { rack = refl; vol = refl; tree = refl; out = refl },
  underway_first (entries c.args.dir.now.tree c.args.dir.now.dirid) c.requires.ready c.new-here.ensures.dir
      (λ s. directory_is s c.args.dir.now.sums (length c.args.below.now) c.args.dir.now.tree c.args.dir.now.dirid c.args.scratch.now.path c.args.counts.now)
      c.new-here.ensures.program c.new-here.ensures.on,
  c.requires.begun,
)

pub list-next-requires-clause-serves : goal.list-next-requires-clause-serves
list-next-requires-clause-serves g t c = c.loop-fault.invariant.1.ready.serves

pub list-next-requires-clause-room : goal.list-next-requires-clause-room
list-next-requires-clause-room g t c = omega (arith, c.loop-fault.invariant.1.ready.room)

pub list-next-requires-clause-dir : goal.list-next-requires-clause-dir
list-next-requires-clause-dir g t c = c.loop-fault.invariant.1.reads_on

pub list-returns-in-Err-clause-ran : goal.list-returns-in-Err-clause-ran
list-returns-in-Err-clause-ran g t c =
    underway_fault c.loop-fault.invariant.1 c.next.new.self c.next.new.name c.in-Err.ensures.reads c.in-Err.ensures.volume c.in-Err.ensures.serves
    c.in-Err.fault c.in-Err.ensures.cause c.in-Err.ensures.content

pub list-returns-in-Ok-None-clause-ran : goal.list-returns-in-Ok-None-clause-ran
list-returns-in-Ok-None-clause-ran g t c =
    underway_end c.loop-fault.invariant.1 c.next.new.self c.next.new.name c.in-Ok-None.ensures.reads c.in-Ok-None.ensures.volume
    c.in-Ok-None.ensures.serves {result = c.next.result} c.next.ensures.content (c.in-Ok-None.is ∙ ap Ok c.in-Ok-None.field-0-is)

pub list-returns-in-Ok-None-clause-path : goal.list-returns-in-Ok-None-clause-path
list-returns-in-Ok-None-clause-path g t c = c.loop-fault.invariant.1.same_path

pub list-list_entry-requires : goal.list-list_entry-requires
list-list_entry-requires g t c κs within =
    let ready = reads_on _ _ _ c.loop-fault.invariant.1.ready c.in-Ok-Some.ensures.serves c.in-Ok-Some.ensures.volume in
    (omega (arith, c.decreases, c.loop-fault.invariant.1.same_below), carried within (ready, c.loop-fault.invariant.2))

pub list-loop-fault-smaller : goal.list-loop-fault-smaller
list-loop-fault-smaller g t c = subst (λ (r : Option DirRow). DirRankFalls c.loop-fault.here.dir c.next.new.self
    (Ok r)) c.in-Ok-Some.field-0-is c.in-Ok-Some.ensures.rank_falls

pub list-loop-fault-preserved : goal.list-loop-fault-preserved
list-loop-fault-preserved g t c =
    let was = c.loop-fault.invariant in
    let did = c.in_ok-list_entry-in-Ok-Some.ensures in (
      record { rack = did.same.rack ∙ was.0.rack; vol = did.same.vol ∙ was.0.vol; tree = did.same.tree ∙ was.0.tree; out = did.same.out ∙ was.0.out },
      underway_step was.1 c.next.new.self c.next.new.name c.in-Ok-Some.ensures.reads c.in-Ok-Some.ensures.volume c.in-Ok-Some.ensures.serves
          {result = c.next.result} c.next.ensures.content c.in-Ok-Some.row (c.in-Ok-Some.is ∙ ap Ok c.in-Ok-Some.field-0-is) c.list_entry.new.counts
          did.ran c.in-Ok-Some.ensures.dir (c.cut.ensures
          ∙ (ap (λ (n : ℕ). take n c.list_entry.new.scratch.path) (c.len-len.ensures ∙ ap length (sym was.1.same_path)) ∙ (did.path ∙ was.1.same_path)))
          c.list_entry.auto.below,
      did.stage,
    )

pub list-returns-in_err-list_entry-in-Ok-Some-clause-ran : goal.list-returns-in_err-list_entry-in-Ok-Some-clause-ran
list-returns-in_err-list_entry-in-Ok-Some-clause-ran g t c s e =
    ran_passed _ (ended_passed _ _ _ c.from_residual.ensures.1)
    (underway_halt c.loop-fault.invariant.1 c.next.new.self c.next.new.name c.in-Ok-Some.ensures.reads c.in-Ok-Some.ensures.volume
    c.in-Ok-Some.ensures.serves {result = c.next.result} c.next.ensures.content c.in-Ok-Some.row (c.in-Ok-Some.is ∙ ap Ok c.in-Ok-Some.field-0-is)
    c.in_err-list_entry-in-Ok-Some.field-0.0 c.in_err-list_entry-in-Ok-Some.ensures.ran s e)

pub list_entry-returns-in-Err-clause-ran : goal.list_entry-returns-in-Err-clause-ran
list_entry-returns-in-Err-clause-ran g t c s e =
    ran_memory _ _ _ _ c.requires.ready

pub list_entry-list_within-requires : goal.list_entry-list_within-requires
list_entry-list_within-requires g t c κs within =
    let place = some_place (length c.args.below.now) c.is_empty.result c.in_ok-treat.field-0 c.in-Within.tree c.in-Within.dirid
    (λ z. c.is_empty.ensures ∙ ap (λ (k : ℕ). k == 0) z) c.in-Within.is c.in_ok-treat.ensures.flat in
    (omega (arith, c.decreases), carried within ((c.treat.ensures.ran c.args.ends.now.vol.now.sup refl).ready, (c.treat.ensures.stage, place)))

pub list_entry-returns-in_err-treat-clause-ran : goal.list_entry-returns-in_err-treat-clause-ran
list_entry-returns-in_err-treat-clause-ran g t c s e =
    ran_passed _ (ended_passed _ _ _ c.from_residual.ensures.1)
    (entry_halts (λ s. treated s c.args.dir.now.sums) (λ s. listed_in s c.args.dir.now.sums (listing_in c.args.dir.now.sums s (length c.args.below.now)))
    (length c.args.below.now) c.args.dir.now.tree c.args.dir.now.dirid c.args.scratch.now.path c.args.counts.now
    (named_row c.args.named.now.row c.args.named.now.name.now) c.is_empty.ensures
    (c.in-Ok.ensures ∙ ap (path_in c.args.scratch.now.path) c.as_bytes.ensures) c.as_bytes-2.ensures c.in_err-treat.field-0.0 c.in_err-treat.ensures.ran s e)

pub list_entry-returns-in-Over-clause-ran : goal.list_entry-returns-in-Over-clause-ran
list_entry-returns-in-Over-clause-ran g t c =
    entry_over (λ s. treated s c.args.dir.now.sums) (λ s. listed_in s c.args.dir.now.sums (listing_in c.args.dir.now.sums s (length c.args.below.now)))
    (length c.args.below.now) c.args.dir.now.tree c.args.dir.now.dirid c.args.scratch.now.path c.args.counts.now
    (named_row c.args.named.now.row c.args.named.now.name.now) c.is_empty.ensures
    (c.in-Ok.ensures ∙ ap (path_in c.args.scratch.now.path) c.as_bytes.ensures) c.as_bytes-2.ensures c.treat.new.counts
    {treated = c.in_ok-treat.field-0} c.in_ok-treat.ensures.ran c.in-Over.is (λ s q. refl)

pub list_entry-returns-in-Within-clause-ran : goal.list_entry-returns-in-Within-clause-ran
list_entry-returns-in-Within-clause-ran g t c =
    entry_within (λ s. treated s c.args.dir.now.sums) (λ s. listed_in s c.args.dir.now.sums (listing_in c.args.dir.now.sums s (length c.args.below.now)))
    (length c.args.below.now) c.args.dir.now.tree c.args.dir.now.dirid c.args.scratch.now.path c.args.counts.now
    (named_row c.args.named.now.row c.args.named.now.name.now) c.is_empty.ensures
    (c.in-Ok.ensures ∙ ap (path_in c.args.scratch.now.path) c.as_bytes.ensures) c.as_bytes-2.ensures c.treat.new.counts
    {treated = c.in_ok-treat.field-0} c.in_ok-treat.ensures.ran c.in-Within.is c.list_within.ensures.ran

pub list_within-list-requires : goal.list_within-list-requires
list_within-list-requires g t c κs within =
    (omega (arith, c.decreases, (sym c.in-Some.ensures.cases.1)), carried within (c.requires.ready, c.requires.begun))

pub list_within-returns-clause-ran : goal.list_within-returns-clause-ran
list_within-returns-clause-ran g t c s e =
    within_listed s c.args.dir.now.sums (length c.args.dirs.now) (length c.in-Some.below.now) (sym c.in-Some.ensures.cases.1) c.args.dir.now.tree
    c.args.dir.now.dirid c.args.scratch.now.path c.args.counts.now _ _ _ (c.list.ensures.ran s e)

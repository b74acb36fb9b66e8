use Rattle.std.proofs.Common.{◌≡◌, take, count_by, Some, Ok, IfOk, sym, ap, ◌∙◌, subst, arith}
use Rattle.std.specs.Option.{option_map, is_none}
use Rattle.btr_pool.specs.Slots.{loans_of, bytes_at}
use Rattle.btr_pool.proofs.Loans.{count_by-loans_of}
use Rattle.btr_rack.specs.Rack.{NoneFailed}
use Rattle.btr_read.specs.Fate.{sought}
use Rattle.btr_read.specs.Store.{SameLoans, kept_in}
use Rattle.btr_read.specs.Mirror.{mirror_candidate, LendsTried}
use Rattle.btr_read.proofs.Loans.{blocks, loan_taken}
use Rattle.btr_read.proofs.ReadsOn.{same_slots, same_held}
use Rattle.btr_read.proofs.Fates.{located, sought_size, sought_fits, lent_by, tried_passes}
use Rattle.btr_read.proofs.Serving.{sought_open, serves_still}
use Rattle.btr_read.proofs.Nodes.{sound_kept}
use Rattle.btr_read.proofs.Taken.{IsTaken, taken_alone, taken_back}
use Rattle.btr_read.proofs.mirror.try_mirror.Given as given
use Rattle.btr_read.proofs.mirror.try_mirror.Goals as goal
use Rattle.btr_read.proofs.mirror.try_mirror.Goals.{In-Ok, After-try_part, in-Differs, in-Absent, in-Failed}

-- what is sought is what `locate` found
seeks : (g : given.Over) (c : In-Ok g) → sought c.args.store.now.layout c.args.want.now ≡ Ok c.in-Ok.search
seeks g c =
    let s = c.store.inside in
    located s.chunks s.devices.items c.deref.result.now s.setting (loans_of s.pool) (kept_in s.setting s.kept.wants s.pool.bytes)
    c.args.store.now c.args.want.now c.in-Ok.search c.store.view_is c.deref.ensures.value c.in-Ok.ensures

-- only the slot that was taken was written
written : (g : given.Over) (c : After-try_part g) → IsTaken c.store.inside.pool c.try_part.new.pool c.store.inside.kept.wants
    c.take_least-slot.new.kept.wants c.take_least-slot.result
written g c =
    let a = c.take_least-slot.ensures in
    taken_alone c.store.inside.pool c.take_least-slot.new.pool c.try_part.new.pool c.store.inside.kept.wants c.take_least-slot.new.kept.wants
    c.take_least-slot.result a.free a.lent a.forgotten c.try_part.ensures.kept

pub take_least-slot-requires-clause-room : goal.take_least-slot-requires-clause-room
take_least-slot-requires-clause-room g c =
    let counted = ap (λ s. count_by is_none s.loans) c.store.view_is in
    omega (arith, count_by-loans_of c.store.inside.pool, counted, c.requires.room)

pub try_part-requires-clause-open : goal.try_part-requires-clause-open
try_part-requires-clause-open g c = sought_open (g.R.Rack.seen c.args.rack.now) c.args.store.now c.args.want.now c.in-Ok.search
    (seeks g (goal.at.try_part-requires-clause-open g c).In-Ok) c.requires.serves

pub try_part-requires-clause-fits : goal.try_part-requires-clause-fits
try_part-requires-clause-fits g c =
    let fits = sought_fits c.args.store.now.layout c.args.want.now c.in-Ok.search c.store.inside.pool c.store.inside.setting
    (sym (ap (λ s. s.layout.setting) c.store.view_is)) (seeks g (goal.at.try_part-requires-clause-fits g c).In-Ok) c.store.invariant.store in
    omega (arith, fits, ap (λ p. p.size) c.take_least-slot.ensures.lent)

pub returns-in-Passed : goal.returns-in-Passed
returns-in-Passed g c =
    let s = c.store.inside in
    let p0 = s.pool in
    let w0 = s.kept.wants in
    let p3 = c.try_part.new.pool in
    let w2 = c.take_least-slot.new.kept.wants in
    let store = c.args.store.now in
    let want = c.args.want.now in
    let t = c.in-Ok.search in
    let old = g.R.Rack.seen c.args.rack.now in
    let new = g.R.Rack.seen c.try_part.new.rack in
    let k = c.take_least-slot.result in
    let len = c.size-len.result in
    let reads = c.try_part.ensures.reads in
    let slot = bytes_at p3 k in
    let path = goal.at.returns-in-Passed g c in
    let is = seeks g path.In-Ok in
    let taken = written g path.After-try_part in
    let size = sought_size store.layout want t s.setting (sym (ap (λ z. z.layout.setting) c.store.view_is)) is in
    let there = ap (option_map (take len)) (loan_taken p0 p3 k c.store.invariant.store.whole taken.free taken.writes) in
    record {
      serves = serves_still s.chunks s.devices.items s.setting w0 w2 p0 p3 old new store c.store.view_is (same_slots reads) (same_held reads) taken.still
          c.requires.serves (loans_of p3);
      reads = reads;
      lent = lent_by s.chunks s.devices.items s.setting p0 p3 (kept_in s.setting w0 p0.bytes) (kept_in s.setting w2 p3.bytes) k len store want
          c.store.invariant.store c.store.view_is taken.free taken.writes (c.size-len.ensures.value ∙ size);
      answer = tried_passes _ t (mirror_candidate c.args.mirror) old.held
          (blocks s.chunks s.devices.items s.setting (loans_of p3) (kept_in s.setting w2 p3.bytes)) (record { slot = k; len = len }) slot is
          c.in-Passed.ensures.attempt (there ∙ ap (λ n. Some (take n slot)) c.size-len.ensures.value);
      account = subst (λ s. IfOk s (λ t. NoneFailed old.account new.account)) (sym is) c.in-Passed.ensures.account;
    }

pub returns-clause-lent : goal.returns-clause-lent
returns-clause-lent g c =
    let s = c.store.inside in
    let w0 = s.kept.wants in
    let w2 = c.take_least-slot.new.kept.wants in
    let p4 = c.give.new.self in
    let taken = written g (goal.at.returns-clause-lent g c).After-try_part in
    let back = taken_back s.pool c.try_part.new.pool p4 w0 w2 c.take_least-slot.result c.store.invariant.store.whole taken c.give.ensures in
    let then = blocks s.chunks s.devices.items s.setting (loans_of p4) (kept_in s.setting w2 p4.bytes) in
    let same : SameLoans c.args.store.now then =
    record { layout = ap (λ z. z.layout) c.store.view_is; loans = back.loans ∙ ap (λ z. z.loans) c.store.view_is } in
    let lends = LendsTried c.args.want.now c.args.store.now then in
    elim c.match-try_part.branch [
      | in-Differs w ↦ subst lends (sym w.result-is) same
      | in-Absent w ↦ subst lends (sym w.result-is) same
      | in-Failed w ↦ subst lends (sym w.result-is) same
    ]

pub returns-clause-serves : goal.returns-clause-serves
returns-clause-serves g c =
    let s = c.store.inside in
    let w0 = s.kept.wants in
    let w2 = c.take_least-slot.new.kept.wants in
    let p4 = c.give.new.self in
    let taken = written g (goal.at.returns-clause-serves g c).After-try_part in
    let back = taken_back s.pool c.try_part.new.pool p4 w0 w2 c.take_least-slot.result c.store.invariant.store.whole taken c.give.ensures in
    serves_still s.chunks s.devices.items s.setting w0 w2 s.pool p4 (g.R.Rack.seen c.args.rack.now) (g.R.Rack.seen c.try_part.new.rack) c.args.store.now
    c.store.view_is (same_slots c.try_part.ensures.reads) (same_held c.try_part.ensures.reads) back.still c.requires.serves (loans_of p4)

pub invariant_of-store : goal.invariant_of-store
invariant_of-store g c =
    let s = c.store.inside in
    let taken = written g (goal.at.invariant_of-store g c).After-try_part in
    sound_kept s.pool c.try_part.new.pool s.kept.wants c.take_least-slot.new.kept.wants s.kept.nodes c.take_least-slot.new.kept.nodes s.setting
    taken.shape taken.still c.take_least-slot.ensures.nodes c.store.invariant

pub invariant_of-store-2 : goal.invariant_of-store-2
invariant_of-store-2 g c =
    let s = c.store.inside in
    let w2 = c.take_least-slot.new.kept.wants in
    let taken = written g (goal.at.invariant_of-store-2 g c).After-try_part in
    let back = taken_back s.pool c.try_part.new.pool c.give.new.self s.kept.wants w2 c.take_least-slot.result c.store.invariant.store.whole taken
    c.give.ensures in
    sound_kept s.pool c.give.new.self s.kept.wants w2 s.kept.nodes c.take_least-slot.new.kept.nodes s.setting back.shape back.still
    c.take_least-slot.ensures.nodes c.store.invariant

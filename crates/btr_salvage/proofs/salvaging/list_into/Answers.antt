use Rattle.std.proofs.Common.{◌≡◌, ℕ, List, [], length, Ok, Err, ap, subst, arith}
use Rattle.btr_prog.specs.Prog.{Return}
use Rattle.btr_prog.specs.Trying.{attempt}
use Rattle.btr_rack.specs.Sink.{Sink}
use Rattle.btr_listing.specs.Step.{Start}
use Rattle.btr_restore.specs.Journey.{row}
use Rattle.btr_restore.specs.Ends.{world_of}
use Rattle.btr_restore.specs.Running.{outside, world}
use Rattle.btr_salvage.specs.declared.salvaged.Salvaged.{Salvaged}
use Rattle.btr_prog.specs.Attempts.{value_then}
use Rattle.btr_salvage.specs.Lines.{nothing_yet}
use Rattle.btr_salvage.specs.Running.{Ran}
use Rattle.btr_salvage.specs.Salvaging.{directory, summed_up}
use Rattle.btr_salvage.proofs.Rans.{ran_halt, ran_passed, ran_then, ran_writes}
use Rattle.btr_salvage.proofs.salvaging.list_into.Goals as goal

pub returns-in_err-start_in-clause-ran : goal.returns-in_err-start_in-clause-ran
returns-in_err-start_in-clause-ran g c s e =
    ran_passed _ c.from_residual.ensures.1
    (ran_halt _ _ _ _ (world (g.R.Rack.seen c.args.ends.now.rack.now) c.args.ends.now.vol.now
    (outside (g.T.TreeSink.sink c.start_in.new.tree) (g.T.TreeSink.account c.start_in.new.tree) (g.O.Out.text c.args.ends.now.out.now)
    (g.O.Out.account c.args.ends.now.out.now))) c.in_err-start_in.field-0.0
    (ran_writes (row c.args.job.now.plan (Start c.args.dest.now) (Return tt)) _ _ _ _ _ c.requires.ready
    (c.in_err-start_in.ensures.wrote (g.O.Out.text c.args.ends.now.out.now) (g.O.Out.account c.args.ends.now.out.now))))

pub returns-clause-ran : goal.returns-clause-ran
returns-clause-ran g c s e =
    let places : length c.in-Some.below.now ≡ 512 = omega (arith, c.in-Some.ensures.cases.1, c.requires.folders) in
    let x = world_of g.R.Rack.seen g.T.TreeSink.sink g.T.TreeSink.account g.O.Out.text g.O.Out.account c.args.ends.now in
    let y = world (g.R.Rack.seen c.args.ends.now.rack.now) c.args.ends.now.vol.now (outside (g.T.TreeSink.sink c.start_in.new.tree)
    (g.T.TreeSink.account c.start_in.new.tree)
    (g.O.Out.text c.args.ends.now.out.now) (g.O.Out.account c.args.ends.now.out.now)) in
    let z = world_of g.R.Rack.seen g.T.TreeSink.sink g.T.TreeSink.account g.O.Out.text g.O.Out.account c.list.new.ends in
    let listing = λ (k : ℕ) (p : List ℕ). directory c.args.job.now.plan s c.args.job.now.sums k c.args.root.now c.args.root.now.dirid p nothing_yet in
    let h = subst (λ (k : ℕ). Ran (listing k []) y z (Ok c.list.new.salvaged)) places
    (subst (λ (p : List ℕ). Ran (listing (length c.in-Some.below.now) p) y z (Ok c.list.new.salvaged)) c.requires.path (c.in_ok-list.ensures.ran s e)) in
    ran_then (attempt (row c.args.job.now.plan (Start c.args.dest.now) (Return tt)))
    (λ u. value_then (listing 512 []) (λ (so_far : Salvaged). attempt (summed_up so_far))) x y _ tt _
    (ran_writes (row c.args.job.now.plan (Start c.args.dest.now) (Return tt)) _ _ _ _ _ c.requires.ready
    (c.in_ok-start_in.ensures.wrote (g.O.Out.text c.args.ends.now.out.now) (g.O.Out.account c.args.ends.now.out.now)))
    (ran_then (listing 512 []) (λ (so_far : Salvaged). attempt (summed_up so_far)) y z _ c.list.new.salvaged _ h
    (ran_writes (summed_up c.list.new.salvaged) _ _ _ _ _ h.ready (c.tell_salvaged.ensures (g.T.TreeSink.sink c.list.new.ends.tree.now)
    (g.T.TreeSink.account c.list.new.ends.tree.now))))

pub returns-in_err-list-clause-ran : goal.returns-in_err-list-clause-ran
returns-in_err-list-clause-ran g c s e =
    let places : length c.in-Some.below.now ≡ 512 = omega (arith, c.in-Some.ensures.cases.1, c.requires.folders) in
    let x = world_of g.R.Rack.seen g.T.TreeSink.sink g.T.TreeSink.account g.O.Out.text g.O.Out.account c.args.ends.now in
    let y = world (g.R.Rack.seen c.args.ends.now.rack.now) c.args.ends.now.vol.now (outside (g.T.TreeSink.sink c.start_in.new.tree)
    (g.T.TreeSink.account c.start_in.new.tree)
    (g.O.Out.text c.args.ends.now.out.now) (g.O.Out.account c.args.ends.now.out.now)) in
    let z = world_of g.R.Rack.seen g.T.TreeSink.sink g.T.TreeSink.account g.O.Out.text g.O.Out.account c.list.new.ends in
    let listing = λ (k : ℕ) (p : List ℕ). directory c.args.job.now.plan s c.args.job.now.sums k c.args.root.now c.args.root.now.dirid p nothing_yet in
    let h = subst (λ (k : ℕ). Ran (listing k []) y z (Err c.in_err-list.field-0.0)) places
    (subst (λ (p : List ℕ). Ran (listing (length c.in-Some.below.now) p) y z (Err c.in_err-list.field-0.0)) c.requires.path (c.in_err-list.ensures.ran s e)) in
    ran_passed _ c.from_residual-in_err-list.ensures.1
    (ran_then (attempt (row c.args.job.now.plan (Start c.args.dest.now) (Return tt)))
    (λ u. value_then (listing 512 []) (λ (so_far : Salvaged). attempt (summed_up so_far))) x y z tt (Err c.in_err-list.field-0.0)
    (ran_writes (row c.args.job.now.plan (Start c.args.dest.now) (Return tt)) _ _ _ _ _ c.requires.ready
    (c.in_ok-start_in.ensures.wrote (g.O.Out.text c.args.ends.now.out.now) (g.O.Out.account c.args.ends.now.out.now)))
    (ran_halt (listing 512 []) (λ (so_far : Salvaged). attempt (summed_up so_far)) y z z c.in_err-list.field-0.0 h))

pub list-requires-clause-room : goal.list-requires-clause-room
list-requires-clause-room g c = λ wet.
    let top : (g.T.TreeSink.sink c.start_in.new.tree).depth ≡ 0 = ap (λ (s : Sink). s.depth) (c.in_ok-start_in.ensures.after wet) in
    omega (arith, top, c.in-Some.ensures.cases.1, c.requires.folders)

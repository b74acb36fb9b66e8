-- What becomes of an entry, by what it comes to.
use Rattle.std.proofs.Common.{◌≡◌, ℕ, Bool, List, Option, Some, None, Result, Ok, Err, refl, sym, subst}
use Rattle.btr_items.specs.declared.inode.Inode.{Inode}
use Rattle.btr_rack.specs.Name.{IsGoodName}
use Rattle.btr_rack.specs.Out.{CallAccount}
use Rattle.btr_rack.specs.Rack.{Seen}
use Rattle.btr_rack.specs.Sink.{Sink}
use Rattle.btr_read.specs.Fate.{Fault}
use Rattle.btr_super.specs.declared.superblock.Super.{Super}
use Rattle.btr_tour.specs.Steps.{reason}
use Rattle.btr_walk.specs.declared.fault.TreeFault.{TreeFault}
use Rattle.btr_volume.specs.declared.root.TreeRoot.{TreeRoot}
use Rattle.btr_volume.specs.declared.stop.Stop.{Stop as TheStop}
use Rattle.btr_volume.specs.declared.stop.Stop.TheVariants as stop
use Rattle.btr_volume.specs.declared.volume.Volume.{Volume}
use Rattle.btr_volume.specs.Lookup.{Lookup}
use Rattle.btr_files.specs.declared.counts.Counts.{Counts}
use Rattle.btr_files.specs.declared.plan.RestorePlan.{RestorePlan}
use Rattle.btr_listing.specs.declared.decision.Decision.{Decision}
use Rattle.btr_listing.specs.declared.decision.Decision.TheVariants as decision
use Rattle.btr_listing.specs.declared.entry.Entry.{Entry}
use Rattle.btr_listing.specs.declared.rules.Rules.{Rules}
use Rattle.btr_listing.specs.Deciding.{Fits, Met, decided}
use Rattle.btr_listing.specs.Looked.{Looked, met_by}
use Rattle.btr_restore.specs.declared.job.Job.{Job}
use Rattle.btr_restore.specs.declared.treated.Treated.{Treated}
use Rattle.btr_restore.specs.declared.treated.Treated.TheVariants.{Over, Within}
use Rattle.btr_restore.specs.Journey.{done_about, rules_of}
use Rattle.btr_restore.specs.Treating as treating
use Rattle.btr_restore.specs.Treating.{IsOver}
use Rattle.btr_volume.specs.Readable.{CanRead}
use Rattle.btr_restore.specs.Running.{KeepsStanding, Outside, World, outside, world}
use Rattle.btr_restore.specs.Running as running
use Rattle.btr_restore.proofs.Rans.{ran_fault, ran_found}
use Rattle.btr_salvage.specs.declared.salvaged.Salvaged.{Salvaged}
use Rattle.btr_salvage.specs.Lines.{salvaged}
use Rattle.btr_salvage.specs.Running.{Ran}
use Rattle.btr_salvage.specs.Salvaging as salvaging
use Rattle.btr_salvage.specs.Salvaging.{Attempt, beside, broken, by_lookup, carried_out, on_decision, tries}
use Rattle.btr_salvage.specs.Treating.{came, came_to, file_in, MissesBy, Misses}
use Rattle.btr_prog.specs.Quiet.{quiet}
use Rattle.btr_prog.specs.Trying.{Done, attempt, try_then}
use Rattle.btr_salvage.proofs.Rans.{ran_caught, ran_halt, ran_handed, ran_of, ran_then, ran_unread, ran_value, ran_writes}

-- a call came to a fault, and the entry is named, or the fault is the stop
module _ {A O : Type 0} (p : Attempt A) (h : Result A Fault → Attempt salvaging.Treated) (path : List ℕ) (old new : Salvaged)
    (named : (f : Fault) → h (Err f) ≡ attempt (broken f path old))
    (f : TreeFault) (x : World) (rack : Seen) (vol : Volume) (sink : Sink) (sink_calls : CallAccount) (text : O → Option (List ℕ)) (calls : O → CallAccount)
    (out out' : O) (result : Result Treated TheStop) where
  -- the world behind the call, with an output
  abbrev At : O → World
  At o = world rack vol (outside sink sink_calls (text o) (calls o))

  -- by the reason that a block is missing the entry is named, and without one the fault is the stop
  by_reason : (o : Option Fault) → reason f ≡ o → MissesBy o f path old new text calls out out' result → Ran p x (At out) (Err (stop.Tree f))
      → Ran (try_then p h) x (At out') (came new result)
  by_reason None e m r =
      subst (λ (o : O). Ran (try_then p h) x (At o) (came new result)) (sym m.2)
      (subst (λ (q : Result Treated TheStop). Ran (try_then p h) x (At out) (came new q)) (sym m.0) (ran_unread p h x (At out) (At out) f e r))
  by_reason (Some fault) e m r =
      ran_caught p h x (At out) (At out') f fault (came new result) e r
      (subst (λ (q : Attempt salvaging.Treated). Ran q (At out) (At out') (came new result)) (sym (named fault))
      (ran_writes (broken fault path old) rack vol (outside sink sink_calls (text out) (calls out)) (outside sink sink_calls (text out') (calls out'))
      (came new result) r.ready (m sink sink_calls)))

  -- an entry that misses a block is named, or the block could not be read and ends the call
  pub missed : Misses f path old new text calls out out' result → Ran p x (At out) (Err (stop.Tree f)) → Ran (try_then p h) x (At out') (came new result)
  missed m r = by_reason (reason f) refl m r

-- an entry that is treated wholly, with no call of the sink, leaves the sink where it stood
pub stands_over : (dry : Bool) (s : Sink) (result : Result Treated TheStop) → IsOver result → KeepsStanding dry s s result
stands_over dry s (Ok Over) over = λ depth h. h
stands_over dry s (Ok (Within tree dirid)) over = absurd over
stands_over dry s (Err t) over = λ depth h. tt

module _ (plan : RestorePlan) (s : Super) (sums : Option TreeRoot) (met : Met) (so_far : Salvaged) (counts : Counts) where
  -- what restore came to, beside what was missing, is what salvage came to
  same_came : (t : Treated) → beside so_far.broken (treating.came_to counts t) ≡ came_to (salvaged counts so_far.broken) t
  same_came Over = refl
  same_came (Within tree dirid) = refl

  -- restore did what it does about an entry
  pub carried : (d : Decision) (x y : World) (r : Result Treated TheStop)
      → running.Ran (done_about plan s sums met so_far.counts d) x y (treating.came counts r)
      → Ran (carried_out plan s sums met so_far d) x y (came (salvaged counts so_far.broken) r)
  carried d x y (Ok t) h =
      subst (λ (v : salvaging.Treated). Ran (carried_out plan s sums met so_far d) x y (Ok v)) (same_came t)
      (ran_then (attempt (done_about plan s sums met so_far.counts d)) (λ v. Done (Ok (beside so_far.broken v))) x y y (treating.came_to counts t)
      (Ok (beside so_far.broken (treating.came_to counts t)))
      (ran_of (done_about plan s sums met so_far.counts d) x y (Ok (treating.came_to counts t)) h)
      (ran_value (beside so_far.broken (treating.came_to counts t)) y h.ready))
  carried d x y (Err t) h = ran_halt (attempt (done_about plan s sums met so_far.counts d)) (λ v. Done (Ok (beside so_far.broken v))) x y y t
      (ran_of (done_about plan s sums met so_far.counts d) x y (Err t) h)

-- an entry, by what is looked up under the rules of restore
module _ (job : Job) (entry : Entry) (so_far : Salvaged) (s : Super) (rules : Rules) (of_plan : rules ≡ rules_of job.plan) (old : Seen) (vol : Volume)
    (same : s ≡ vol.sup) (new : Seen) (after : Volume) (x : Outside) (ready : CanRead 6 old vol) where
  -- the lookups that decide about the entry
  abbrev lookup : Lookup Decision
  lookup = decided (rules_of job.plan) s (met_by entry)

  -- what was looked up by the rules of the call was looked up by those of the plan
  as_rules : (r : Result Decision TreeFault) → Looked (decided rules vol.sup (met_by entry)) old vol new after r → Looked lookup old vol new after r
  as_rules r h =
      subst (λ (t : Super). Looked (decided (rules_of job.plan) t (met_by entry)) old vol new after r) (sym same)
      (subst (λ (k : Rules). Looked (decided k vol.sup (met_by entry)) old vol new after r) of_plan h)

  -- where what the entry comes to could not be looked up, the lookups stop for that fault
  pub looked_fault : (f : TreeFault) → Looked (decided rules vol.sup (met_by entry)) old vol new after (Err f)
      → Ran (tries lookup) (world old vol x) (world new after x) (Err (stop.Tree f))
  looked_fault f h = ran_of (quiet lookup) (world old vol x) (world new after x) (Err (stop.Tree f))
      (ran_fault lookup old new vol after x f ready (as_rules (Err f) h))

  -- what the entry comes to was looked up, and then what is done about it was done: so it was treated
  pub looked_then : (z : World) (d : Decision) (r : Result salvaging.Treated TheStop) → Looked (decided rules vol.sup (met_by entry)) old vol new after (Ok d)
      → Ran (on_decision job.plan s job.sums (met_by entry) so_far d) (world new after x) z r
      → Ran (salvaging.treated job.plan s job.sums (met_by entry) so_far) (world old vol x) z r
  looked_then z d r h g =
      ran_handed (tries lookup) (by_lookup job.plan s job.sums (met_by entry) so_far) (world old vol x) (world new after x) z d r
      (ran_of (quiet lookup) (world old vol x) (world new after x) (Ok d) (ran_found lookup old new vol after x d ready (as_rules (Ok d) h))) g

-- a file, and what is no file
module _ (plan : RestorePlan) (s : Super) (sums : Option TreeRoot) (met : Met) (so_far : Salvaged) (x y : World) (r : Result salvaging.Treated TheStop) where
  -- where the entry is a file, what is done with a file was done
  pub on_file : (d : Decision) (inode : Inode) → file_in d ≡ Some inode → Ran (salvaging.file plan s sums met so_far inode) x y r
      → Ran (on_decision plan s sums met so_far d) x y r
  on_file (decision.Skip cause) inode e h = cc
  on_file (decision.File other) inode e h = subst (λ (i : Inode). Ran (salvaging.file plan s sums met so_far i) x y r) (same e) h
    where
      same : Some other ≡ Some inode → inode ≡ other
      same i = cc
  on_file decision.Empty inode e h = cc
  on_file (decision.Folder tree dirid) inode e h = cc

  -- where the entry is no file, what restore does about it was done
  pub on_other : (d : Decision) → file_in d ≡ None → Ran (carried_out plan s sums met so_far d) x y r → Ran (on_decision plan s sums met so_far d) x y r
  on_other (decision.Skip cause) e h = h
  on_other (decision.File inode) e h = cc
  on_other decision.Empty e h = h
  on_other (decision.Folder tree dirid) e h = h

-- a file has a good name
pub good_file : (rules : Rules) (met : Met) (d : Decision) (inode : Inode) → file_in d ≡ Some inode → Fits rules met d → IsGoodName met.entry.name
good_file rules met (decision.Skip cause) inode e h = cc
good_file rules met (decision.File other) inode e h = h
good_file rules met decision.Empty inode e h = cc
good_file rules met (decision.Folder tree dirid) inode e h = cc

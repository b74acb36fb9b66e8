-- What a restore of a trial comes to.
use Rattle.std.proofs.Common.{◌≡◌, ◌∙◌, ℕ, true, false, Bool, List, [], ◌∷◌, drop, fold, codes, Option, Some, None, Result, Ok, Err, refl, sym, ap, subst}
use Rattle.std.proofs.Common.{arith}
use Rattle.std.specs.Option.{option_and_then, option_map}
use Rattle.btr_files.specs.declared.counts.Counts.{Counts}
use Rattle.btr_listing.specs.Step.{Step, Start, Dir, Up, File, Bytes, Zeros, Done, Line, part}
use Rattle.btr_prog.proofs.Choices.{goes_one}
use Rattle.btr_prog.specs.Answers.{Follows}
use Rattle.btr_prog.specs.Calls.{First}
use Rattle.btr_prog.specs.Goes.{GoesTo}
use Rattle.btr_prog.specs.Maps.{Each}
use Rattle.btr_prog.specs.Prog.{Run, exec, needs, steps_of}
use Rattle.btr_rack.specs.Calls.{account_of}
use Rattle.btr_rack.specs.MemOut.{MemoryOut, empty_out}
use Rattle.btr_rack.specs.MemTree.{MemoryTree, empty_tree, sink_of}
use Rattle.btr_rack.specs.Memory.{MemoryRack, held_of}
use Rattle.btr_rack.specs.Sink.{Sink, Tree}
use Rattle.btr_read.specs.Fate as fault
use Rattle.btr_read.specs.Fate.{Fault, fate}
use Rattle.btr_read.specs.declared.want.Want.{Want}
use Rattle.btr_restore.specs.Journey.{listing}
use Rattle.btr_restore.specs.Outcome.{after_step, tree_after}
use Rattle.btr_restore.specs.Restoring.{sink_after}
use Rattle.btr_volume.specs.Stops.{ended}
use Rattle.btr_restore.specs.Running.{Outside, Ran, outside, world}
use Rattle.btr_volume.specs.Lookup.{Program}
use Rattle.btr_volume.specs.declared.stop.Stop.{Stop}
use Rattle.btr_volume.specs.declared.stop.Stop.TheVariants as stop
use Rattle.btr_volume.specs.declared.volume.Volume.{Volume}
use Rattle.btr_walk.specs.Reading.{Map, UnreadBlock, unread_by}
use Rattle.btr_walk.specs.declared.fault.TreeFault.TheVariants as walk
use Rattle.btr_trial.specs.Opened.{filesystem_of}
use Rattle.btr_trial.specs.Opening.{filesystem_in}
use Rattle.btr_trial.specs.Stated.{directories, same_rows}
use Rattle.btr_trial.specs.Sure.{sure_seen}
use Rattle.btr_trial.specs.Trial.{ended_same, restored_in, restored_same, same_run, whole}
use Rattle.btr_trial.proofs.Filesystems.{none_rose}

-- what a step does to what stands in a sink
tree_step : (s : Sink) (step : Step) → (sink_after s step).tree ≡ option_map (λ t. after_step t step) s.tree
tree_step s (Start name) = refl
tree_step s (Dir name) = refl
tree_step s Up = refl
tree_step s (File name) = refl
tree_step s (Bytes bytes) = refl
tree_step s (Zeros count) = refl
tree_step s Done = refl
tree_step s (Line text) = of s.tree
  where
    of : (o : Option Tree) → o ≡ option_map (λ (t : Tree). t) o
    of None = refl
    of (Some t) = refl

-- what some steps do to what stands in a sink that tells it
told_steps : (steps : List Step) (s : Sink) (t : Tree) → s.tree ≡ Some t → (fold sink_after s steps).tree ≡ Some (fold after_step t steps)
told_steps [] s t is = is
told_steps (step ∷ steps) s t is = told_steps steps (sink_after s step) (after_step t step) (tree_step s step ∙ ap (option_map (λ t. after_step t step)) is)

-- the map of the first copies is one map, by which a program has one run
pub one_map : (B : Map) (ws : List Want) → Each (λ w. (i : ℕ) → B w ≡ B w) ws
one_map B [] = tt
one_map B (w ∷ ws) = (λ i. refl, one_map B ws)

-- where one map stands for all choices, a program has one run
pub one_run : {A : Type 0} (p : Program Step A) (B : Map) (r : Run Want Fault Step A) → GoesTo (λ (n : ℕ). B) p r → r ≡ exec B p
one_run p B r goes = goes_one (λ (n : ℕ). B) B p r (one_map B (needs B p)) goes

module _ (number : ℕ) (old new : MemoryRack) (volume after : Volume) (opened : filesystem_of (held_of old) ≡ Some (filesystem_in volume))
    (tree tree' : MemoryTree) (out out' : MemoryOut) (empty : tree ≡ empty_tree) (blank : out ≡ empty_out) where
  -- the listing of the restore of a trial
  abbrev p : Program Step Counts
  p = listing whole (codes "out") volume.sup

  -- its run over the images
  abbrev run : Run Want Fault Step Counts
  run = exec (fate (held_of old) volume.store.layout) p

  -- what is seen of a sink in memory and of an output in memory
  abbrev seen_by : MemoryTree → MemoryOut → Outside
  seen_by t o = outside (sink_of t.tree) (account_of t.calls) (Some o.text) (account_of o.calls)

  -- the restore did the steps of the listing, from an empty sink and output on, and answered so
  abbrev Ends : Result Counts Stop → Type 0
  Ends result = Ran p (world (sure_seen old) volume (seen_by tree out)) (world (sure_seen new) after (seen_by tree' out')) result

  -- in these calls the want is the one that could not be read
  abbrev Is : UnreadBlock → Want → Type 0
  Is = unread_by volume.store.layout (sure_seen old) (sure_seen new)

  -- what was done and answered follows the run over the images
  follows : (result : Result Counts Stop) (ran : Ends result) → Follows Is part [] run ran.did.done (ended result)
  follows result ran =
      let goes = ran.did.content.calls.content First (refl, omega arith) in
      subst (λ (r : Run Want Fault Step Counts). Follows Is part [] r ran.did.done (ended result))
      (one_run p (fate (held_of old) volume.store.layout) goes.0 goes.1) goes.2

  -- what a restore of the images comes to, by how the run ended
  by_run : (ending : Result Counts Fault) → run.ending ≡ ending → restored_same number (held_of old) ≡ ended_same number run ending
  by_run ending is = ap (option_and_then (λ fs. same_run number (restored_in (held_of old) fs))) opened ∙ ap (ended_same number run) is

  -- where the restore came to its end, the rows of its sink are those of the made directories or not
  pub restored_listed : (counts : Counts) → Ends (Ok counts) → restored_same number (held_of old)
      ≡ Some (same_rows (drop 1 tree'.tree.rows) (directories 0 number))
  restored_listed counts ran =
      let h = follows (Ok counts) ran in
      let stands : Some tree'.tree ≡ Some (tree_after ran.did.done) =
      ap (λ (s : Sink). s.tree) ran.did.sink ∙ told_steps ran.did.done (sink_of tree.tree) empty_tree.tree (ap (λ (t : MemoryTree). Some t.tree) empty) in
      let same : tree'.tree ≡ tree_after (steps_of run.marks) = some_is tree'.tree (tree_after ran.did.done) stands ∙ ap tree_after h.0 in
      by_run (Ok counts) h.1 ∙ ap (λ (t : Tree). Some (same_rows (drop 1 t.rows) (directories 0 number))) (sym same)
    where
      -- what is there is one tree
      some_is : (a b : Tree) → ◌≡◌ {A = Option Tree} (Some a) (Some b) → a ≡ b
      some_is a b e = cc e

  -- where the run ended with a fault, a restore of the images is refused
  stopped : (f : Fault) → run.ending ≡ Err f → restored_same number (held_of old) ≡ None
  stopped f is = by_run (Err f) is

  absurdly : (b : Bool) → b ≡ true → b ≡ false → ⊥
  absurdly true is not_so = cc
  absurdly false is not_so = cc

  -- where the restore stopped for anything but want of memory, a restore of the images is refused
  pub restored_stopped : (end : Stop) → (end ≡ stop.Memory → ⊥) → Ends (Err end) → restored_same number (held_of old) ≡ None
  restored_stopped (stop.NoTree id) own ran = stopped (fault.NoTree id) (follows (Err (stop.NoTree id)) ran).1
  restored_stopped (stop.Tree (walk.Lost a)) own ran = stopped (fault.Lost a) (follows (Err (stop.Tree (walk.Lost a))) ran).1
  restored_stopped (stop.Tree (walk.Unread a slot)) own ran = absurd (none_rose ran.cause.1.unread.rose)
  restored_stopped (stop.Tree (walk.Unmapped a)) own ran = stopped (fault.Unmapped a) (follows (Err (stop.Tree (walk.Unmapped a))) ran).1
  restored_stopped (stop.Tree (walk.Crosses a)) own ran = stopped (fault.Crosses a) (follows (Err (stop.Tree (walk.Crosses a))) ran).1
  restored_stopped (stop.Tree (walk.Malformed a)) own ran = stopped (fault.Malformed a) (follows (Err (stop.Tree (walk.Malformed a))) ran).1
  restored_stopped (stop.Deletion id) own ran = absurd ran.cause
  restored_stopped stop.Balance own ran = absurd ran.cause
  restored_stopped (stop.Missing id) own ran = absurd ran.cause
  restored_stopped (stop.Image slot) own ran = absurd ran.cause
  restored_stopped stop.Sink own ran = absurd (absurdly (account_of tree.calls).sure (ap (λ (t : MemoryTree). (account_of t.calls).sure) empty)
      ran.sink_calls.0)
  restored_stopped stop.Out own ran = absurd (absurdly (account_of out.calls).sure (ap (λ (o : MemoryOut). (account_of o.calls).sure) blank) ran.out_calls.0)
  restored_stopped stop.Memory own ran = absurd (own refl)

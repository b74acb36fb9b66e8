-- A directory in another one.
use Rattle.std.proofs.Common.{◌≡◌, ℕ, ◌+◌, Bool, List, Option, Result, Ok, Err, refl, sym, ap, ◌∙◌, subst, arith, suc}
use Rattle.std.specs.Prelude.{◌==◌}
use Rattle.btr_prog.specs.Prog.{Return}
use Rattle.btr_prog.specs.Trying.{attempt}
use Rattle.btr_super.specs.declared.superblock.Super.{Super}
use Rattle.btr_volume.specs.declared.root.TreeRoot.{TreeRoot}
use Rattle.btr_volume.specs.declared.stop.Stop.{Stop as TheStop}
use Rattle.btr_files.specs.Entries.{DirEntry}
use Rattle.btr_files.specs.declared.plan.RestorePlan.{RestorePlan}
use Rattle.btr_listing.specs.Lines.{path_in}
use Rattle.btr_listing.specs.Step.{Up}
use Rattle.btr_restore.specs.Journey.{row}
use Rattle.btr_restore.specs.Listing.{is_deep}
use Rattle.btr_restore.specs.Running.{Outside, World, Wrote, world}
use Rattle.btr_restore.specs.declared.job.Job.{Job}
use Rattle.btr_restore.specs.declared.treated.Treated.{Treated}
use Rattle.btr_restore.specs.declared.treated.Treated.TheVariants.{Over, Within}
use Rattle.btr_restore.proofs.Cycles.{deep_is, meets, wrote_up}
use Rattle.btr_salvage.specs.declared.salvaged.Salvaged.{Salvaged}
use Rattle.btr_salvage.specs.Listing.{listing_for, listing_in, treat_in, within_for}
use Rattle.btr_salvage.specs.Running.{Ran, RanFor}
use Rattle.btr_salvage.specs.Salvaging as salvaging
use Rattle.btr_salvage.specs.Salvaging.{Attempt, SalvageListing, directory, listed_in}
use Rattle.btr_salvage.specs.Treating.{came_to, counted}
use Rattle.btr_salvage.proofs.Rans.{ran_halt, ran_then, ran_value, ran_writes}

-- the way up, and then a value
abbrev up : RestorePlan → Salvaged → Attempt Salvaged
up plan after = attempt (row plan Up (Return after))

-- the listing of one of some places
listing_is : (plan : RestorePlan) (s : Super) (sums : Option TreeRoot) (folders below : ℕ) → folders ≡ below + 1 → listing_in plan s sums folders
    ≡ directory plan s sums below
listing_is plan s sums folders below e = ap (listing_in plan s sums) (e ∙ step below)
  where
    step : (k : ℕ) → k + 1 ≡ suc k
    step k = omega arith

-- an entry of a directory, with what is in it: what is done about it, and then what is listed there
module _ (job : Job) (k : ℕ) (tree : TreeRoot) (dirid : ℕ) (path : List ℕ) (so_far : Salvaged) (entry : DirEntry) {deep : Bool} (is : deep ≡ (k == 0))
    {p here : List ℕ} (at : p ≡ path_in path entry.name) (seen : here ≡ p) where
  -- the entry alone: what it comes to, and what is done about it
  abbrev first_part : Super → Bool → List ℕ → Attempt salvaging.Treated
  first_part s b q = salvaging.treated job.plan s job.sums (meets tree dirid entry b q) so_far

  -- what is listed in the entry if it was entered, and the way up
  abbrev then_part : Super → List ℕ → salvaging.Treated → Attempt Salvaged
  then_part s = listed_in job.plan s job.sums (listing_in job.plan s job.sums k)

  abbrev whole : Super → Attempt Salvaged
  whole s = treat_in job.plan s job.sums k tree dirid path so_far entry

  -- what was done about it, by the path of its directory
  as_met : {x y : World} (s : Super) (r : Result salvaging.Treated TheStop) → Ran (first_part s deep here) x y r
      → Ran (first_part s (is_deep k) (path_in path entry.name)) x y r
  as_met {x} {y} s r h = subst (λ (b : Bool). Ran (first_part s b (path_in path entry.name)) x y r) (is ∙ deep_is k)
      (subst (λ (q : List ℕ). Ran (first_part s deep q) x y r) (seen ∙ at) h)

  -- it was not treated to its end
  pub entry_halts : {x y : World} (t : TheStop) → RanFor (λ s. first_part s deep here) x y (Err t) → RanFor whole x y (Err t)
  entry_halts {x} {y} t h s e =
      ran_halt (first_part s (is_deep k) (path_in path entry.name)) (then_part s (path_in path entry.name)) x y y t (as_met s (Err t) (h s e))

  module _ {x y : World} (after : Salvaged) {treated : Treated} (did : RanFor (λ s. first_part s deep here) x y (Ok (came_to after treated))) where
    -- what was done about it, by what it came to, and then what was listed
    then_lists : {z : World} {r : Result Salvaged TheStop} (to : Treated) → treated ≡ to
        → RanFor (λ s. then_part s (path_in path entry.name) (came_to after to)) y z r → RanFor whole x z r
    then_lists {z} {r} to came h s e =
        let first = as_met s (Ok (came_to after to)) (subst (λ (t : Treated). Ran (first_part s deep here) x y (Ok (came_to after t))) came (did s e)) in
        ran_then (first_part s (is_deep k) (path_in path entry.name)) (then_part s (path_in path entry.name)) x y z (came_to after to) r first
        (h s (e ∙ sym first.volume.sup))

    -- it was treated wholly
    pub entry_over : treated ≡ Over → RanFor whole x y (Ok after)
    entry_over came = then_lists Over came (λ s e. ran_value after y (did x.vol.sup refl).ready)

    -- it was entered, and what is in it was listed
    pub entry_within : {inner : TreeRoot} {ino : ℕ} {z : World} {r : Result Salvaged TheStop} → treated ≡ Within inner ino
        → RanFor (λ s. then_part s p (salvaging.Within inner ino after)) y z r → RanFor whole x z r
    entry_within {inner} {ino} {z} {r} came h = then_lists (Within inner ino) came
        (λ s e. subst (λ (q : List ℕ). Ran (then_part s q (salvaging.Within inner ino after)) y z r) at (h s e))

-- what is in a directory, and the way up
module _ (job : Job) (folders below : ℕ) (is : folders ≡ below + 1) (inner : TreeRoot) (dirid : ℕ) (path : List ℕ) (so_far : Salvaged) {x y : World} where
  -- what its listing did, by the places that there are
  as_listed : (s : Super) (r : Result Salvaged TheStop) → Ran (directory job.plan s job.sums below inner dirid path so_far) x y r
      → Ran (listing_in job.plan s job.sums folders inner dirid path so_far) x y r
  as_listed s r h = subst (λ (l : SalvageListing). Ran (l inner dirid path so_far) x y r) (sym (listing_is job.plan s job.sums folders below is)) h

  -- it was not listed to its end
  pub within_halts : (t : TheStop) → RanFor (listing_for job below inner dirid path so_far) x y (Err t)
      → RanFor (within_for job folders path inner dirid so_far) x y (Err t)
  within_halts t h s e = ran_halt (listing_in job.plan s job.sums folders inner dirid path so_far) (up job.plan) x y y t (as_listed s (Err t) (h s e))

  -- all of it was listed
  pub within_up : (after : Salvaged) {z : Outside} {r : Result (Unit {0}) TheStop} → RanFor (listing_for job below inner dirid path so_far) x y (Ok after)
      → Wrote (row job.plan Up (Return tt)) y.out z r → RanFor (within_for job folders path inner dirid so_far) x (world y.rack y.vol z) (counted after r)
  within_up after {z} {r} h w s e =
      ran_then (listing_in job.plan s job.sums folders inner dirid path so_far) (up job.plan) x y (world y.rack y.vol z) after (counted after r)
      (as_listed s (Ok after) (h s e))
      (ran_writes (row job.plan Up (Return after)) y.rack y.vol y.out z (counted after r) (h s e).ready (wrote_up job.plan after y.out z r w))

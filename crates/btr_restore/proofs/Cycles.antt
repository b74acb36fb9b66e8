-- A directory in another one.
use Rattle.std.proofs.Common.{◌≡◌, ℕ, ◌+◌, ◌-◌, ◌<◌, ◌≤◌, Bool, true, false, zero, suc, List, Option, Result, Ok, Err, IsErrAnd, refl}
use Rattle.std.proofs.Common.{sym, ap, ◌∙◌, subst, arith}
use Rattle.std.specs.Prelude.{◌==◌, OnOk}
use Rattle.btr_prog.specs.Prog.{Return, bind}
use Rattle.btr_rack.specs.Sink.{Sink, left}
use Rattle.btr_super.specs.declared.superblock.Super.{Super}
use Rattle.btr_volume.specs.declared.root.TreeRoot.{TreeRoot}
use Rattle.btr_volume.specs.declared.stop.Stop.{Stop as TheStop}
use Rattle.btr_files.specs.declared.counts.Counts.{Counts}
use Rattle.btr_files.specs.declared.plan.RestorePlan.{RestorePlan}
use Rattle.btr_volume.specs.Lookup.{Program}
use Rattle.btr_files.specs.Entries.{DirEntry}
use Rattle.btr_restore.specs.declared.treated.Treated.{Treated}
use Rattle.btr_restore.specs.declared.treated.Treated.TheVariants.{Over, Within}
use Rattle.btr_restore.specs.Journey as journey
use Rattle.btr_restore.specs.Journey.{Listing, directory, row}
use Rattle.btr_listing.specs.Deciding.{Met, met_in}
use Rattle.btr_listing.specs.Lines.{path_in}
use Rattle.btr_restore.specs.Treating.{IsOver, came_to}
use Rattle.btr_restore.specs.Listing.{StandsIf, ended_with, is_deep, listing_for, listing_in, within_for}
use Rattle.btr_restore.specs.declared.job.Job.{Job}
use Rattle.btr_restore.specs.Running.{Outside, World, world, Ran, RanFor, StandsBetweenFiles, StandsAfter, Wrote}
use Rattle.btr_listing.specs.Step.{Step, Up}
use Rattle.btr_listing.proofs.Numbers.{is_other}
use Rattle.btr_restore.proofs.Rans.{ran_halt, ran_then, ran_wrote, row_halt, row_then, wrote_none}

-- the way up, and then a value
abbrev up : RestorePlan → Counts → Program Step Counts
up plan after = row plan Up (Return after)

-- what the way up answers, with the counts then
pub wrote_up : {A : Type 0} (plan : RestorePlan) (counts : A) (x y : Outside) (r : Result (Unit {0}) TheStop) → Wrote (row plan Up (Return tt)) x y r
    → Wrote (row plan Up (Return counts)) x y (ended_with counts r)
wrote_up plan counts x y (Ok u) w = row_then _ _ _ _ _ _ _ w (wrote_none counts y)
wrote_up plan counts x y (Err t) w = row_halt _ _ _ _ _ _ w

-- a sink that stands in a directory stands one less deep after the way up
pub stands_up : (dry : Bool) (n : ℕ) (old new : Sink) (r : Result (Unit {0}) TheStop) → (dry ≡ false → OnOk r (new ≡ left old))
    → StandsBetweenFiles dry (n + 1) old → StandsIf dry n new r
stands_up dry n old new (Ok u) after h = λ d.
    let is = after d in
    let was = h d in
    (ap (λ (s : Sink). s.stage) is ∙ was.0, ap (λ (s : Sink). s.depth) is ∙ (ap (λ k. k - 1) was.1 ∙ omega arith))
stands_up dry n old new (Err t) after h = tt

-- what is known of the lifetimes of a call within a cycle, with what the call asks beside
pub carried : {A B C D : Type 0} → A × (B × C) → D → A × (B × (C × D))
carried given asked = (given.0, (given.1.0, (given.1.1, asked)))

-- a stop that is passed on
pub ended_passed : {A : Type 0} (counts : A) (r : Result (Unit {0}) TheStop) (s : TheStop) → IsErrAnd r (λ e. e ≡ s)
    → IsErrAnd (ended_with counts r) (λ e. e ≡ s)
ended_passed counts (Ok u) s is = absurd is
ended_passed counts (Err e) s is = is

-- the listing of one of some places
pub listing_is : (plan : RestorePlan) (s : Super) (sums : Option TreeRoot) (dirs below : ℕ) → dirs ≡ below + 1 → listing_in plan s sums dirs
    ≡ directory plan s sums below
listing_is plan s sums dirs below e = ap (listing_in plan s sums) (e ∙ step below)
  where
    step : (k : ℕ) → k + 1 ≡ suc k
    step k = omega arith

-- an entry that was treated wholly, and one that was entered
pub stands_over : (dry : Bool) (n : ℕ) (s : Sink) (treated : Treated) → treated ≡ Over → StandsAfter dry n s (Ok treated) → StandsBetweenFiles dry n s
stands_over dry n s treated is h = subst (λ (x : Treated). StandsAfter dry n s (Ok x)) is h

-- where a directory was entered, the sink stands one deeper
pub stands_within : (dry : Bool) (n : ℕ) (s : Sink) (treated : Treated) (tree : TreeRoot) (dirid : ℕ) → treated ≡ Within tree dirid
    → StandsAfter dry n s (Ok treated) → StandsBetweenFiles dry (n + 1) s
stands_within dry n s treated tree dirid is h = subst (λ (x : Treated). StandsAfter dry n s (Ok x)) is h

-- there are places for all directories that may still be entered
pub room_left : (depth depth' below below' most : ℕ) → depth' ≡ depth → below' ≡ below → depth + below ≤ most → depth' + below' ≤ most
room_left depth depth' below below' most e f h = omega arith

-- one directory deeper there are places for as many below it, with one place more in all
pub room_within : (depth depth' below most : ℕ) → depth' ≡ depth + 1 → depth + below ≤ most → depth' + below ≤ most + 1
room_within depth depth' below most e h = omega arith

-- of the places that are left one is a directory's own, and the others are for those below it
pub room_below : (depth dirs below most : ℕ) → dirs ≡ below + 1 → depth + dirs ≤ most + 1 → depth + below ≤ most
room_below depth dirs below most e h = omega arith

-- a directory that isn't too deep has a place below it, so it stands less deep than the most
pub room_above : (depth below most : ℕ) (deep : Bool) → deep ≡ (below == 0) → deep ≡ false → depth + below ≤ most → depth < most
room_above depth zero most deep is shallow h = absurd (cc (sym is ∙ shallow))
room_above depth (suc below) most deep is shallow h = omega arith

-- a directory is entered only where there is a place for it
pub some_place : (n : ℕ) (deep : Bool) (treated : Treated) (tree : TreeRoot) (dirid : ℕ) → (n ≡ 0 → deep ≡ true) → treated ≡ Within tree dirid
    → (deep ≡ true → IsOver (Ok treated)) → 0 < n
some_place zero deep treated tree dirid empty is flat = absurd (subst (λ (x : Treated). IsOver (Ok x)) is (flat (empty refl)))
some_place (suc n) deep treated tree dirid empty is flat = omega arith

-- directories are too deep exactly where no place is left below
pub deep_is : (n : ℕ) → (n == 0) ≡ is_deep n
deep_is zero = refl
deep_is (suc n) = is_other (suc n) 0 (λ e. cc)

-- an entry that is met in a directory, by its path
abbrev pub meets : TreeRoot → ℕ → DirEntry → Bool → List ℕ → Met
meets tree dirid entry deep path = record { tree = tree; dirid = dirid; deep = deep; path = path; entry = entry }

-- an entry of a directory, with what is in it: what is done about it, and then what is listed there
module _ (treats : Super → Met → Counts → Program Step journey.Treated) (lists : Super → List ℕ → journey.Treated → Program Step Counts) (k : ℕ)
    (tree : TreeRoot) (dirid : ℕ) (path : List ℕ) (counts : Counts) (entry : DirEntry) {deep : Bool} (is : deep ≡ (k == 0)) {p here : List ℕ}
    (at : p ≡ path_in path entry.name) (seen : here ≡ p) where
  abbrev whole : Super → Program Step Counts
  whole s = bind (treats s (met_in (is_deep k) tree dirid path entry) counts) (lists s (path_in path entry.name))

  -- what was done about it, by the path of its directory
  as_met : {x y : World} (s : Super) (r : Result journey.Treated TheStop) → Ran (treats s (meets tree dirid entry deep here) counts) x y r
      → Ran (treats s (met_in (is_deep k) tree dirid path entry) counts) x y r
  as_met {x} {y} s r h = subst (λ (b : Bool). Ran (treats s (meets tree dirid entry b (path_in path entry.name)) counts) x y r) (is ∙ deep_is k)
      (subst (λ (q : List ℕ). Ran (treats s (meets tree dirid entry deep q) counts) x y r) (seen ∙ at) h)

  -- it was not treated to its end
  pub entry_halts : {x y : World} (t : TheStop) → RanFor (λ s. treats s (meets tree dirid entry deep here) counts) x y (Err t) → RanFor whole x y (Err t)
  entry_halts {x} {y} t h s e =
      ran_halt (treats s (met_in (is_deep k) tree dirid path entry) counts) (lists s (path_in path entry.name)) x y y t (as_met s (Err t) (h s e))

  module _ {x y : World} (after : Counts) {treated : Treated}
      (did : RanFor (λ s. treats s (meets tree dirid entry deep here) counts) x y (Ok (came_to after treated))) where
    -- what was done about it, by what it came to, and then what was listed
    then_lists : {z : World} {r : Result Counts TheStop} (to : Treated) → treated ≡ to
        → ((s : Super) → s ≡ y.vol.sup → Ran (lists s (path_in path entry.name) (came_to after to)) y z r) → RanFor whole x z r
    then_lists {z} {r} to came h s e =
        let first = as_met s (Ok (came_to after to)) (subst (λ (t : Treated). Ran (treats s (meets tree dirid entry deep here) counts) x y
        (Ok (came_to after t))) came (did s e)) in
        ran_then (treats s (met_in (is_deep k) tree dirid path entry) counts) (lists s (path_in path entry.name)) x y z (came_to after to) r first
        (h s (e ∙ sym first.volume.sup))

    -- it was treated wholly
    pub entry_over : treated ≡ Over → ((s : Super) (q : List ℕ) → Return after ≡ lists s q (journey.Over after)) → RanFor whole x y (Ok after)
    entry_over came none = then_lists Over came (λ s e. subst (λ (q : Program Step Counts). Ran q y y (Ok after)) (none s (path_in path entry.name))
        (ran_wrote (Return after) y.rack y.vol y.out y.out (Ok after) (did x.vol.sup refl).ready (wrote_none after y.out)))

    -- it was entered, and what is in it was listed
    pub entry_within : {inner : TreeRoot} {ino : ℕ} {z : World} {r : Result Counts TheStop} → treated ≡ Within inner ino
        → RanFor (λ s. lists s p (journey.Within inner ino after)) y z r → RanFor whole x z r
    entry_within {inner} {ino} {z} {r} came h = then_lists (Within inner ino) came
        (λ s e. subst (λ (q : List ℕ). Ran (lists s q (journey.Within inner ino after)) y z r) at (h s e))

-- what is in a directory, and the way up
module _ (job : Job) (dirs below : ℕ) (is : dirs ≡ below + 1) (inner : TreeRoot) (dirid : ℕ) (path : List ℕ) (counts : Counts) {x y : World} where
  -- what its listing did, by the places that there are
  as_listed : (s : Super) (r : Result Counts TheStop) → Ran (directory job.plan s job.sums below inner dirid path counts) x y r
      → Ran (listing_in job.plan s job.sums dirs inner dirid path counts) x y r
  as_listed s r h = subst (λ (l : Listing). Ran (l inner dirid path counts) x y r) (sym (listing_is job.plan s job.sums dirs below is)) h

  -- it was not listed to its end
  pub within_halts : (t : TheStop) → RanFor (listing_for job below inner dirid path counts) x y (Err t)
      → RanFor (within_for job dirs path inner dirid counts) x y (Err t)
  within_halts t h s e = ran_halt (listing_in job.plan s job.sums dirs inner dirid path counts) (up job.plan) x y y t (as_listed s (Err t) (h s e))

  -- all of it was listed
  pub within_up : (after : Counts) {z : Outside} {r : Result (Unit {0}) TheStop} → RanFor (listing_for job below inner dirid path counts) x y (Ok after)
      → Wrote (row job.plan Up (Return tt)) y.out z r → RanFor (within_for job dirs path inner dirid counts) x (world y.rack y.vol z) (ended_with after r)
  within_up after {z} {r} h w s e =
      ran_then (listing_in job.plan s job.sums dirs inner dirid path counts) (up job.plan) x y (world y.rack y.vol z) after (ended_with after r)
      (as_listed s (Ok after) (h s e))
      (ran_wrote (up job.plan after) y.rack y.vol y.out z (ended_with after r) (h s e).ready (wrote_up job.plan after y.out z r w))

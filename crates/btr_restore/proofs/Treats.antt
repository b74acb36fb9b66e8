-- What becomes of an entry, by what it comes to.
use Rattle.std.proofs.Common.{◌≡◌, ℕ, List, Result, Ok, Err, refl, sym, subst}
use Rattle.btr_items.specs.declared.inode.Inode.{Inode}
use Rattle.btr_rack.specs.Rack.{Seen}
use Rattle.btr_super.specs.declared.superblock.Super.{Super}
use Rattle.btr_walk.specs.declared.fault.TreeFault.{TreeFault}
use Rattle.btr_volume.specs.declared.root.TreeRoot.{TreeRoot}
use Rattle.btr_volume.specs.declared.stop.Stop.{Stop as TheStop}
use Rattle.btr_volume.specs.declared.stop.Stop.TheVariants as stop
use Rattle.btr_volume.specs.declared.volume.Volume.{Volume}
use Rattle.btr_files.specs.declared.counts.Counts.{Counts}
use Rattle.btr_files.specs.Entries.{name_in}
use Rattle.btr_listing.specs.declared.cause.Cause.{Cause}
use Rattle.btr_listing.specs.declared.decision.Decision.{Decision}
use Rattle.btr_listing.specs.declared.decision.Decision.TheVariants as decision
use Rattle.btr_listing.specs.declared.entry.Entry.{Entry}
use Rattle.btr_listing.specs.declared.rules.Rules.{Rules}
use Rattle.btr_listing.specs.Causes.{cause_text}
use Rattle.btr_listing.specs.Deciding.{decided}
use Rattle.btr_listing.specs.Looked.{Looked, met_by}
use Rattle.btr_restore.specs.declared.job.Job.{Job}
use Rattle.btr_restore.specs.Journey.{Treated, done_about, empty, entered, rules_of, skip}
use Rattle.btr_volume.specs.Readable.{CanRead}
use Rattle.btr_restore.specs.Running.{Outside, Ran, World, world}
use Rattle.btr_restore.specs.Treating.{done_for, treated_for, written_for}
use Rattle.btr_restore.proofs.Rans.{look_halt, look_then, ran_fault, ran_found}

module _ (job : Job) (entry : Entry) (counts : Counts) (s : Super) where
  -- what is done about an entry, by a decision
  module _ (x y : World) (r : Result Treated TheStop) (found : Decision) where
    -- what a decision asks for was done about the entry
    abbrev Does : Decision → Type 0
    Does d = Ran (done_for job entry d counts s) x y r

    -- what a decision asks for was done, so what the decision found asks for was done
    as_found : (d : Decision) → found ≡ d → Does d → Does found
    as_found d is h = subst Does (sym is) h

    -- where the entry is to be left out, its skip line was told
    pub done_skip : (cause : Cause) → found ≡ decision.Skip cause → Ran (skip (cause_text cause) entry.path.now counts) x y r → Does found
    done_skip cause is h = as_found (decision.Skip cause) is h

    module _ (name : List ℕ) (named : name ≡ name_in entry.name.now) where
      -- where the entry is a file, the file was written
      pub done_file : (inode : Inode) → found ≡ decision.File inode → Ran (written_for job entry name inode counts s) x y r → Does found
      done_file inode is h = as_found (decision.File inode) is (subst (λ (n : List ℕ). Ran (written_for job entry n inode counts s) x y r) named h)

      -- where the entry stays an empty directory, that was entered and left again
      pub done_empty : found ≡ decision.Empty → Ran (empty job.plan name entry.path.now counts) x y r → Does found
      done_empty is h = as_found decision.Empty is (subst (λ (n : List ℕ). Ran (empty job.plan n entry.path.now counts) x y r) named h)

      -- where the entry is a directory to be listed, it was entered
      pub done_folder : (inner : TreeRoot) (dirid : ℕ) → found ≡ decision.Folder inner dirid → Ran (entered job.plan name entry.path.now inner dirid
          counts) x y r → Does found
      done_folder inner dirid is h = as_found (decision.Folder inner dirid) is (subst (λ (n : List ℕ). Ran
          (entered job.plan n entry.path.now inner dirid counts) x y r) named h)

  -- an entry, by what is looked up under the rules of restore
  module _ (rules : Rules) (of_plan : rules ≡ rules_of job.plan) (old : Seen) (vol : Volume) (same : s ≡ vol.sup) (new : Seen) (after : Volume)
      (x : Outside) (ready : CanRead 6 old vol) where
    -- what was looked up by the rules of the call was looked up by those of the plan
    as_rules : (r : Result Decision TreeFault) → Looked (decided rules vol.sup (met_by entry)) old vol new after r
        → Looked (decided (rules_of job.plan) s (met_by entry)) old vol new after r
    as_rules r h =
        subst (λ (t : Super). Looked (decided (rules_of job.plan) t (met_by entry)) old vol new after r) (sym same)
        (subst (λ (k : Rules). Looked (decided k vol.sup (met_by entry)) old vol new after r) of_plan h)

    -- where what the entry comes to could not be looked up, it is treated no further and stops for that fault
    pub treat_halts : (f : TreeFault) → Looked (decided rules vol.sup (met_by entry)) old vol new after (Err f) → Ran (treated_for job entry counts s)
        (world old vol x) (world new after x) (Err (stop.Tree f))
    treat_halts f h =
        look_halt (decided (rules_of job.plan) s (met_by entry)) (done_about job.plan s job.sums (met_by entry) counts)
        (world old vol x) (world new after x) (Err (stop.Tree f)) (stop.Tree f)
        (ran_fault (decided (rules_of job.plan) s (met_by entry)) old new vol after x f ready (as_rules (Err f) h)) refl

    -- what the entry comes to was looked up, and then what is done about it was done: so it was treated
    pub treat_then : (z : World) (found : Decision) (r : Result Treated TheStop) → Looked (decided rules vol.sup (met_by entry)) old vol new after
        (Ok found) → Ran (done_for job entry found counts s) (world new after x) z r → Ran (treated_for job entry counts s) (world old vol x) z r
    treat_then z found r h g =
        look_then (decided (rules_of job.plan) s (met_by entry)) (done_about job.plan s job.sums (met_by entry) counts)
        (world old vol x) (world new after x) (Ok found) z found r
        (ran_found (decided (rules_of job.plan) s (met_by entry)) old new vol after x found ready (as_rules (Ok found) h)) refl g

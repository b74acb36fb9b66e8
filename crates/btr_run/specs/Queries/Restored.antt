-- The command `restore`, where it writes files.
use Rattle.std.specs.Prelude.{◌≡◌, ℕ, false, List}
use Rattle.btr_files.specs.declared.counts.Counts.{Counts}
use Rattle.btr_files.specs.declared.plan.RestorePlan.{RestorePlan}
use Rattle.btr_restore.specs.Journey.{listing}
use Rattle.btr_run.specs.Rows.{Row, program_row}

-- how many entries were left out
abbrev pub skipped_in : Counts → ℕ
skipped_in counts = counts.skipped

-- the row of restoring a subvolume into a destination, which is called if the run isn't dry
abbrev pub restore_row : RestorePlan → List ℕ → Row
restore_row plan dest =
    program_row (plan.dry ≡ false) skipped_in (λ fs. listing plan dest fs.sup)

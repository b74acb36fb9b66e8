-- The command `restore -i`.
use Rattle.std.specs.Prelude.{ℕ, ◌+◌, ◌-◌, ◌^◌, min, List}
use Rattle.btr_files.specs.declared.plan.RestorePlan.{RestorePlan}
use Rattle.btr_prog.specs.Attempts.{TriesTo}
use Rattle.btr_salvage.specs.Salvaging.{salvage_run, salvaging}
use Rattle.btr_salvage.specs.declared.salvaged.Salvaged.{Salvaged}
use Rattle.btr_run.specs.Rows.{Row, listing_row}

-- how many lines name something that wasn't restored, skipped or broken; the sum stands still at
-- its type's end
abbrev pub missed_in : Salvaged → ℕ
missed_in salvaged = min (salvaged.counts.skipped + salvaged.broken) (2 ^ 64 - 1)

-- the row of salvaging a subvolume into a destination
abbrev pub salvage_row : RestorePlan → List ℕ → Row
salvage_row plan dest =
    listing_row (Unit {0}) missed_in (λ fs B. salvage_run B plan dest fs.sup)
    (λ fs Bs. TriesTo Bs (salvaging plan dest fs.sup))

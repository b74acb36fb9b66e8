-- Data that has a checksum is readable.
use Rattle.std.specs.Prelude.{◌≡◌, ℕ, Bool, false, List, [], ◌∷◌, filter_map, is_ok}
use Rattle.std.specs.Prelude.{Option, Some, None, Ok}
use Rattle.btr_base.specs.declared.kind.SumKind.{SumKind}
use Rattle.btr_base.specs.declared.stored.Sum.{Sum}
use Rattle.btr_items.specs.declared.sum_run.SumRun.{SumRun}
use Rattle.btr_prog.specs.Prog.{Return, Need, bind, exec}
use Rattle.btr_read.specs.declared.want.Want.{Want}
use Rattle.btr_findings.specs.declared.finding.Finding.{Finding}
use Rattle.btr_findings.specs.declared.kind.Kind.TheVariants as kind
use Rattle.btr_findings.specs.Findings.{found, unless}
use Rattle.btr_volume.specs.Lookup.{Lookup}
use Rattle.btr_volume.specs.declared.root.TreeRoot.{TreeRoot}
use Rattle.btr_volume.specs.declared.stop.Stop.{Stop}
use Rattle.btr_volume.specs.declared.stop.Stop.TheVariants as stops
use Rattle.btr_walk.specs.declared.fault.TreeFault.{TreeFault}
use Rattle.btr_walk.specs.declared.fault.TreeFault.TheVariants.{Lost, Unread, Unmapped, Crosses, Malformed}
use Rattle.btr_files.specs.Aheads.{IsSummed}
use Rattle.btr_files.specs.Content.{want_by}
use Rattle.btr_files.specs.Sums.{sum_at}
use Rattle.btr_files.specs.declared.sums_ahead.SumsAhead.{SumsAhead}
use Rattle.btr_check_sums.specs.Items.{runs_in}
use Rattle.btr_check_sums.specs.Sums.{summed}
use Rattle.btr_check.specs.Filesystem.{Filesystem, kind_of_sums, tree_items}
use Rattle.btr_check.specs.Trees.{tree_of}

-- the bytes of a sector: its checksum is looked up, and then it is wanted by
-- that, or without a test where there is none
abbrev pub sector_bytes : SumKind → Option TreeRoot → ℕ → Lookup (List ℕ)
sector_bytes kind sums sector = bind (sum_at kind sums sector) (λ sum. Need (want_by sector sum) Return)

module _ (fs : Filesystem) where
  -- a sector comes to bytes
  abbrev pub is_readable : Option TreeRoot → ℕ → Bool
  is_readable sums sector = is_ok (exec fs.blocks (sector_bytes (kind_of_sums fs) sums sector)).ending

  -- a sector that has a checksum is readable
  abbrev pub data_lost : Option TreeRoot → ℕ → Option Finding
  data_lost sums sector = unless (is_readable sums sector) (found kind.DataLost (sector ∷ []))

  -- the runs of checksums in the checksum tree
  abbrev pub sum_runs : List SumRun
  sum_runs = runs_in (kind_of_sums fs) (tree_items fs 7)

  -- which sectors that have a checksum aren't readable
  abbrev pub data_findings : List Finding
  data_findings = filter_map (data_lost (tree_of fs.sup fs.blocks 7)) (summed sum_runs)

  -- a sector is wanted so, by what the look-up of its checksum comes to; it isn't readable, where
  -- there is no such want
  abbrev pub ReadsBy : Option TreeRoot → ℕ → Option Want → Type 0
  ReadsBy sums sector None = is_readable sums sector ≡ false
  ReadsBy sums sector (Some want) =
      (sum : Option Sum) × ((exec fs.blocks (sum_at (kind_of_sums fs) sums sector)).ending ≡ Ok sum)
      × (want ≡ want_by sector sum)

  -- where the checksums that were kept are what look-ups give, those that are kept now are so too, and this holds
  abbrev pub KeepsSums : Option TreeRoot → SumsAhead → SumsAhead → Type 0 → Type 0
  KeepsSums sums old new P = IsSummed fs.blocks sums old → IsSummed fs.blocks sums new × P

-- the stop of a block that could not be read; other faults are none
abbrev pub unread_stop : TreeFault → Option Stop
unread_stop (Lost addr) = None
unread_stop (Unread addr slot) = Some (stops.Tree (Unread addr slot))
unread_stop (Unmapped addr) = None
unread_stop (Crosses addr) = None
unread_stop (Malformed addr) = None

-- What a check of a trial comes to.
use Rattle.std.proofs.Common.{◌≡◌, ◌∙◌, false, List, length, Option, Some, None, Result, Ok, Err, refl, sym, ap, arith}
use Rattle.std.specs.Option.{option_and_then}
use Rattle.btr_check.specs.Before.{refusal}
use Rattle.btr_check.specs.Filesystem as checked
use Rattle.btr_check.specs.Findings.{findings}
use Rattle.btr_check.specs.Running.{Answers, Ran, is_outside, world}
use Rattle.btr_check.specs.Wanted.{OfCheck}
use Rattle.btr_prog.specs.Calls.{First}
use Rattle.btr_rack.specs.Memory.{MemoryRack, held_of}
use Rattle.btr_findings.specs.declared.finding.Finding.{Finding}
use Rattle.btr_volume.specs.declared.stop.Stop.{Stop}
use Rattle.btr_volume.specs.declared.stop.Stop.TheVariants as stop
use Rattle.btr_volume.specs.declared.volume.Volume.{Volume}
use Rattle.btr_walk.specs.declared.fault.TreeFault.TheVariants as tree
use Rattle.btr_trial.specs.Opened.{filesystem_of}
use Rattle.btr_trial.specs.Opening.{filesystem_in}
use Rattle.btr_trial.specs.Sure.{sure_seen}
use Rattle.btr_trial.specs.Trial.{as_checked, counted, findings_in, findings_of}
use Rattle.btr_trial.proofs.Filesystems.{none_rose}

module _ (old new : MemoryRack) (volume after : Volume) (opened : filesystem_of (held_of old) ≡ Some (filesystem_in volume)) where
  -- the filesystem of the images, as it is checked
  abbrev fs : checked.Filesystem
  fs = as_checked (held_of old) (filesystem_in volume)

  -- the check did its calls and answered so
  abbrev Ends : Result (List Finding) Stop → Type 0
  Ends result = Ran (OfCheck false) (λ fs. Answers (λ all. (refusal fs ≡ None) × (all ≡ findings false fs)) fs result) (world (sure_seen old) volume)
      (world (sure_seen new) after) result

  -- what was answered, of the images
  answered : (result : Result (List Finding) Stop) → Ends result → Answers (λ all. (refusal fs ≡ None) × (all ≡ findings false fs)) fs result
  answered result ran = ran.told.calls.content First (refl, omega arith)

  -- the findings of the images are counted, or the check is refused
  by_refusal : (o : Option Stop) → refusal fs ≡ o → findings_of (held_of old) ≡ counted o (findings false fs)
  by_refusal o is = ap (option_and_then (findings_in (held_of old))) opened ∙ ap (λ r. counted r (findings false fs)) is

  -- where the check listed its findings, so many has a check of the images
  pub findings_listed : (all : List Finding) → Ends (Ok all) → findings_of (held_of old) ≡ Some (length all)
  findings_listed all ran =
      let h = answered (Ok all) ran in
      by_refusal None h.0 ∙ ap (λ (l : List Finding). Some (length l)) (sym h.1)

  -- where the check stopped for the filesystem's own sake, a check of the images is refused
  stopped : (end : Stop) → is_outside end ≡ false → Ends (Err end) → findings_of (held_of old) ≡ None
  stopped end own ran = by_refusal (Some end) (answered (Err end) ran own)

  -- where the check stopped for anything but want of memory, a check of the images is refused
  pub findings_stopped : (end : Stop) → (end ≡ stop.Memory → ⊥) → Ends (Err end) → findings_of (held_of old) ≡ None
  findings_stopped (stop.NoTree id) own ran = stopped (stop.NoTree id) refl ran
  findings_stopped (stop.Tree (tree.Lost a)) own ran = stopped (stop.Tree (tree.Lost a)) refl ran
  findings_stopped (stop.Tree (tree.Unread a slot)) own ran = absurd (none_rose ran.cause.2.unread.rose)
  findings_stopped (stop.Tree (tree.Unmapped a)) own ran = stopped (stop.Tree (tree.Unmapped a)) refl ran
  findings_stopped (stop.Tree (tree.Crosses a)) own ran = stopped (stop.Tree (tree.Crosses a)) refl ran
  findings_stopped (stop.Tree (tree.Malformed a)) own ran = stopped (stop.Tree (tree.Malformed a)) refl ran
  findings_stopped (stop.Deletion id) own ran = stopped (stop.Deletion id) refl ran
  findings_stopped stop.Balance own ran = stopped stop.Balance refl ran
  findings_stopped (stop.Missing id) own ran = absurd ran.quiet
  findings_stopped (stop.Image slot) own ran = absurd ran.quiet
  findings_stopped stop.Sink own ran = absurd ran.quiet
  findings_stopped stop.Out own ran = absurd ran.quiet
  findings_stopped stop.Memory own ran = absurd (own refl)

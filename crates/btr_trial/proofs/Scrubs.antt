-- What a scrub of a trial comes to.
use Rattle.std.proofs.Common.{◌≡◌, ◌∙◌, inl, true, Some, Result, Ok, Err, refl, sym, ap}
use Rattle.std.specs.Option.{option_and_then, option_map_or}
use Rattle.btr_rack.specs.Memory.{MemoryRack, held_of}
use Rattle.btr_scrub.specs.Repair.{effect}
use Rattle.btr_scrub.specs.Scrubbed.{AnswersAs, HasEffect, IsScrubbed, called}
use Rattle.btr_scrub.specs.declared.tally.Tally.{Tally}
use Rattle.btr_volume.specs.declared.stop.Stop.{Stop}
use Rattle.btr_volume.specs.declared.stop.Stop.TheVariants as stop
use Rattle.btr_volume.specs.declared.volume.Volume.{Volume}
use Rattle.btr_walk.specs.declared.fault.TreeFault.TheVariants as tree
use Rattle.btr_trial.specs.Opened.{filesystem_of}
use Rattle.btr_trial.specs.Opening.{filesystem_in}
use Rattle.btr_trial.specs.Sure.{sure_seen}
use Rattle.btr_trial.specs.Trial.{lost_by, lost_of, scrubbed}
use Rattle.btr_trial.proofs.Filesystems.{none_rose, steady_none}

-- what a scrub came to, and the images that it left
pub record Scrubs (old new : MemoryRack) (lost : Result Tally Stop) : Type 0 where
  pub lost_is : lost_of (held_of old) ≡ lost_by lost
  pub left_is : held_of new ≡ scrubbed (held_of old)

module _ (old new : MemoryRack) (volume : Volume) (opened : filesystem_of (held_of old) ≡ Some (filesystem_in volume)) where
  -- the scrub ended as its contract says, and answered so
  abbrev Ends : Result Tally Stop → Type 0
  Ends result = IsScrubbed (called volume true (sure_seen old) (sure_seen new) result)

  -- what the effect on the images says is what the scrub came to and left
  by_effect : (result : Result Tally Stop) → HasEffect (called volume true (sure_seen old) (sure_seen new) result) (held_of old) (held_of new)
      → Scrubs old new result
  by_effect result h = record {
    lost_is = ap (option_and_then (λ fs. lost_by (effect true (held_of old) fs).answer)) opened ∙ ap lost_by (sym h.answer);
    left_is = h.same ∙ sym (ap (λ o. option_map_or (λ fs. (effect true (held_of old) fs).images) o (held_of old)) opened);
  }

  -- as no call of the rack failed, the scrub answers by the images
  answered : (result : Result Tally Stop) → Ends result → AnswersAs (called volume true (sure_seen old) (sure_seen new) result) (held_of old)
      (held_of new) result
  answered result s = s.answers (inl steady_none)

  -- a scrub that came to its end has the tally of the images, and left them as that effect does
  pub scrub_done : (tally : Tally) → Ends (Ok tally) → Scrubs old new (Ok tally)
  scrub_done tally s = by_effect (Ok tally) (answered (Ok tally) s)

  -- a scrub that stopped for anything but want of memory has no tally, and left the images as that effect does
  pub scrub_stopped : (end : Stop) → (end ≡ stop.Memory → ⊥) → Ends (Err end) → Scrubs old new (Err end)
  scrub_stopped (stop.NoTree id) own s = by_effect (Err (stop.NoTree id)) (answered (Err (stop.NoTree id)) s)
  scrub_stopped (stop.Tree (tree.Lost a)) own s = by_effect (Err (stop.Tree (tree.Lost a))) (answered (Err (stop.Tree (tree.Lost a))) s)
  scrub_stopped (stop.Tree (tree.Unread a slot)) own s = absurd (none_rose (answered (Err (stop.Tree (tree.Unread a slot))) s))
  scrub_stopped (stop.Tree (tree.Unmapped a)) own s = by_effect (Err (stop.Tree (tree.Unmapped a))) (answered (Err (stop.Tree (tree.Unmapped a))) s)
  scrub_stopped (stop.Tree (tree.Crosses a)) own s = by_effect (Err (stop.Tree (tree.Crosses a))) (answered (Err (stop.Tree (tree.Crosses a))) s)
  scrub_stopped (stop.Tree (tree.Malformed a)) own s = by_effect (Err (stop.Tree (tree.Malformed a))) (answered (Err (stop.Tree (tree.Malformed a))) s)
  scrub_stopped (stop.Missing devid) own s = by_effect (Err (stop.Missing devid)) (answered (Err (stop.Missing devid)) s)
  scrub_stopped (stop.Image slot) own s = absurd (none_rose (answered (Err (stop.Image slot)) s))
  scrub_stopped (stop.Deletion id) own s = absurd (answered (Err (stop.Deletion id)) s)
  scrub_stopped stop.Balance own s = absurd (answered (Err stop.Balance) s)
  scrub_stopped stop.Sink own s = absurd (answered (Err stop.Sink) s)
  scrub_stopped stop.Out own s = absurd (answered (Err stop.Out) s)
  scrub_stopped stop.Memory own s = absurd (own refl)

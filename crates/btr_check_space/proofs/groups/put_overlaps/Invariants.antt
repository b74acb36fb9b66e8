use Rattle.std.proofs.Common.{◌≡◌, ◌∷◌, take, zip, get_or, filter_map}
use Rattle.btr_findings.specs.Findings.{Adds}
use Rattle.btr_findings.specs.declared.extent.Extent.{Extent}
use Rattle.btr_check_space.specs.Groups.{overlap}
use Rattle.btr_check_space.proofs.groups.put_overlaps.Given as goal

-- the findings of the extents so far, of which the last is kept
abbrev pub invariant-loop-extent : goal.invariant-loop-extent
invariant-loop-extent l = record {
  last : (d : Extent) → l.earlier ≡ get_or (l.initial.earlier ∷ l.rest) l.extent-index d;
  found : Adds (filter_map overlap (take l.extent-index (zip (l.initial.earlier ∷ l.rest) l.rest))) l.fn.found l.found;
}

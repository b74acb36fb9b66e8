-- The headline of restore.
use Rattle.std.proofs.Common.{◌≡◌, ℕ, ◌⊎◌, inl, inr, append-nil, List, [], ◌∷◌, Result, Err, sym, ap, ◌∙◌, subst}
use Rattle.btr_chunk.specs.declared.chunk.Chunk.{Chunk}
use Rattle.btr_files.specs.declared.counts.Counts.{Counts}
use Rattle.btr_files.specs.declared.plan.RestorePlan.{RestorePlan}
use Rattle.btr_prog.specs.Prog.{Run, Wants, exec, steps_of, wants_of}
use Rattle.btr_prog.specs.Maps.{Each, IsWhole, cut, Loses}
use Rattle.btr_prog.proofs.Lost.{missing}
use Rattle.btr_prog.proofs.Runs.{cut_law, cut-whole, wants_of-append, steps_of-append}
use Rattle.btr_prog.proofs.TwoParts.{each_there}
use Rattle.btr_read.specs.Fate.{Fault, Lost, fate}
use Rattle.btr_read.specs.Want.{addr_of}
use Rattle.btr_volume.specs.declared.fault.OpenFault.{OpenFault}
use Rattle.btr_volume.specs.Maps.{VolumeWant, volume_map}
use Rattle.btr_volume.specs.Start.{Images, Start, layout_by}
use Rattle.btr_restore.specs.Committed.{Commit, IsHonest, EndsInOrder, IsClosed, AreWhole, committed, want_of}
use Rattle.btr_restore.specs.Headline.{StopsShort, IsRestored, Headline, from_start, unless_diverged}
use Rattle.btr_restore.specs.Journey.{journey}
use Rattle.btr_restore.specs.Outcome.{outcome_by, outcome}
use Rattle.btr_listing.specs.Step.{Step}
use Rattle.btr_restore.proofs.Alike.{none_diverged}
use Rattle.btr_restore.proofs.Held.{first_choice, lost_there, first_within, all_well}

module _ (plan : RestorePlan) (dest : List ℕ) (images : Images) (start : Start) (C : Commit) (table : List Chunk)
    (honest : IsHonest C images (layout_by start table)) (closed : IsClosed plan dest images start C table) where
  -- the run of the committed journey
  abbrev There : Run VolumeWant Fault Step (Result Counts OpenFault)
  There = exec (volume_map start (committed C images)) (journey plan dest start)

  -- the run of the journey over the images
  abbrev Here : Run VolumeWant Fault Step (Result Counts OpenFault)
  Here = exec (volume_map start (fate images)) (journey plan dest start)

  -- the committed run up to the first want that the images lack
  abbrev Cut : Run VolumeWant Fault Step (Result Counts OpenFault)
  Cut = cut (volume_map start (fate images)) There

  -- the run over the images is the committed one up to the first want that they lack
  cut_here : Here ≡ Cut
  cut_here = cut_law (volume_map start (fate images)) (volume_map start (committed C images)) (journey plan dest start)
      (first_within plan dest images start C table honest closed)

  -- the want at which the run is cut is lost
  lost_at : (m : Loses (volume_map start (fate images)) There Cut) → m.fault ≡ Lost (addr_of (want_of m.want))
  lost_at m =
      let well = each_there (λ w. EndsInOrder (volume_map start (committed C images) w)) (wants_of m.before) (wants_of m.behind) m.want
      (subst (Each (λ w. EndsInOrder (volume_map start (committed C images) w))) (ap wants_of m.place ∙ wants_of-append m.before (Wants m.want ∷ m.behind))
      (all_well plan dest images start C table honest closed)) in
      lost_there plan dest images start C 0 m.want m.fault well (first_choice images start m.want ∙ m.lost)

  -- a run that is cut has the outcome of the steps before
  stops_short : Loses (volume_map start (fate images)) There Cut → StopsShort plan dest images start C (outcome Here)
  stops_short m =
      let is = lost_at m in
      record {
        want = m.want;
        before = m.before;
        behind = m.behind;
        place = m.place;
        whole = m.whole;
        lost = m.lost ∙ ap Err is;
        is =
            ap outcome cut_here
            ∙ (ap (λ ss. outcome_by ss Cut.ending) (ap steps_of m.marks ∙ (steps_of-append m.before (Wants m.want ∷ []) ∙ append-nil (steps_of m.before)))
            ∙ ap (λ e. outcome_by (steps_of m.before) e) (m.ending ∙ ap Err is));
      }

  -- where some need has no candidate that passes, the run over the images stops short
  short_or : Each (λ w. IsWhole (volume_map start (fate images) w)) (wants_of There.marks) ⊎ Loses (volume_map start (fate images)) There Cut
      → (AreWhole plan dest images start C → ⊥) → StopsShort plan dest images start C (outcome Here)
  short_or (inl whole) not_whole = absurd (not_whole whole)
  short_or (inr m) not_whole = stops_short m

  -- the outcome over the images is the committed one, or that of the steps before the first need without a candidate that passes
  pub restored : IsRestored plan dest images start C (outcome Here)
  restored = record {
    whole = λ whole. ap outcome (cut_here ∙ cut-whole (volume_map start (fate images)) There whole);
    short = short_or (missing (volume_map start (fate images)) There.marks There.ending);
  }

-- the headline of restore holds
pub headline : Headline
headline plan dest images start C table begun honest closed =
    let here = outcome (exec (volume_map start (fate images)) (journey plan dest start)) in
    let none = none_diverged plan dest images start C table honest closed in
    subst (IsRestored plan dest images start C) (sym (ap (from_start plan dest images) begun ∙ ap (λ d. unless_diverged d here) none))
    (restored plan dest images start C table honest closed)

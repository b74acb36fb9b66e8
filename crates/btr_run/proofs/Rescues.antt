-- A block that can be had is found by a restore.
use Rattle.std.proofs.Common.{◌≡◌, ℕ, Bool, true, false, List, [], ◌∷◌, Some, Ok, refl, sym, ap, ◌∙◌, subst}
use Rattle.std.proofs.lemmas.Bool.{false≢true}
use Rattle.btr_prog.specs.Maps.{Each, IsWhole}
use Rattle.btr_prog.specs.Prog.{needs}
use Rattle.btr_prog.specs.Stages.{Early, Late}
use Rattle.btr_read.proofs.Fates.{sought_of}
use Rattle.btr_read.proofs.Trials.{fails_where_none}
use Rattle.btr_read.specs.Candidates.{Target, candidates, stands, value_of}
use Rattle.btr_read.specs.declared.candidate.Candidate.{Candidate}
use Rattle.btr_read.specs.Fate.{fate, fate_of, is_plain, or_lost, passing, sought}
use Rattle.btr_read.specs.Layout.{Layout}
use Rattle.btr_read.specs.Want.{addr_of, passes}
use Rattle.btr_read.specs.declared.want.Want.{Want}
use Rattle.btr_restore.specs.Committed.{Commit, committed, want_of}
use Rattle.btr_restore.specs.Journey.{journey}
use Rattle.btr_scrub.proofs.Lists.{in_any}
use Rattle.btr_scrub_copies.proofs.Turning.{all_at}
use Rattle.btr_scrub.specs.BlocksInRows.{In}
use Rattle.btr_scrub.proofs.Blockwise.{of_targets}
use Rattle.btr_scrub.proofs.Survival.{of_filter}
use Rattle.btr_scrub.proofs.Told.{targets_met}
use Rattle.btr_scrub.specs.Gathering.{wants_among}
use Rattle.btr_scrub.specs.Repair.{blocks, is_checked, met, target_met}
use Rattle.btr_scrub.specs.Right.{CanBeSpared, IsCommitted, StandsFor}
use Rattle.btr_scrub.specs.Units.{Met}
use Rattle.btr_volume.specs.Maps.{VolumeWant, array_layout, volume_map}
use Rattle.btr_volume.specs.Start.{Images, Start, layout_by}
use Rattle.std.specs.List.{filter, filter_map}
use Rattle.std.specs.Prelude.{slice_get}
use Rattle.btr_run.specs.Filesystem.{Filesystem, filesystem_of}
use Rattle.btr_run.specs.Repaired.{KeepsBlocks}
use Rattle.btr_run.specs.Rescued.{HasPlain, IsSparedOf, MendingKeepsRestores, sought_for}
use Rattle.btr_run.specs.Scrubbed.{filesystem_as}
use Rattle.btr_run.proofs.Mendings.{told_at}

-- a checked block has the setting of the layout that it is found by
setting_of : (layout : Layout) (ms : List Met) (t : Target) → In t (filter is_checked (filter_map (target_met layout) ms)) → t.setting ≡ layout.setting
setting_of layout ms t i =
    let among = of_filter is_checked t (filter_map (target_met layout) ms) i in
    let w = of_targets layout t (wants_among ms) (subst (In t) (sym (targets_met layout ms)) among) in
    (sought_of layout w.0 t w.2).setting_is

-- where a candidate stands and passes there are bytes
had : (left : Images) (addr : ℕ) (t : Target) (c : Candidate) → In c (candidates t) → stands t c ≡ true → passes t.setting t.want (value_of left t c) ≡ true
    → IsWhole (or_lost addr (slice_get (passing left t) 0))
had left addr t c there stand pass = by (passing left t) refl
  where
    by : (xs : List (List ℕ)) → passing left t ≡ xs → IsWhole (or_lost addr (slice_get (passing left t) 0))
    by [] e = absurd (false≢true (sym (fails_where_none left t c e there stand) ∙ pass))
    by (x ∷ xs) e = subst (λ ys. IsWhole (or_lost addr (slice_get ys 0))) (sym e) tt

module _ (images left : Images) (fs : Filesystem) (start : Start) (C : Commit) (known : IsCommitted images (filesystem_as fs) C)
    (opened : filesystem_of images ≡ Ok fs) (keeps : KeepsBlocks images left) where
  -- a checked block that can be spared has a candidate that passes in what is left
  block_had : (addr : ℕ) (t : Target) → In t (blocks images (filesystem_as fs)) → CanBeSpared images (filesystem_as fs) C t
      → IsWhole (or_lost addr (slice_get (passing left t) 0))
  block_had addr t there spared =
      let stands_for = in_any (λ c. (stands t c ≡ true) × (C t.want ≡ Some (value_of left t c))) (candidates t)
      (all_at (λ t. CanBeSpared images (filesystem_as fs) C t → StandsFor left C t) (blocks images (filesystem_as fs)) t
      (keeps fs C opened known) there spared) in
      let c = stands_for.0 in
      let pass = told_at (C t.want) (λ bytes. passes fs.layout.setting t.want bytes ≡ true) (value_of left t c) stands_for.2.1 (known.pass t.want) in
      had left addr t c stands_for.1 stands_for.2.0
      (ap (λ s. passes s t.want (value_of left t c)) (setting_of fs.layout (met images (filesystem_as fs)) t there) ∙ pass)

  -- a want that is sought at such a block comes to its bytes
  found : (want : Want) (layout : Layout) (t : Target) → sought layout want ≡ Ok t → In t (blocks images (filesystem_as fs))
      → CanBeSpared images (filesystem_as fs) C t → IsWhole (fate left layout want)
  found want layout t is there spared = subst IsWhole (sym (ap (fate_of left (addr_of want)) is)) (block_had (addr_of want) t there spared)

  -- a want of the volume that is such a block, or is tested by nothing, comes to bytes
  unit_found : (want : VolumeWant) → IsSparedOf images fs start C want → HasPlain left start want → IsWhole (volume_map start (fate left) want)
  unit_found want unit plain = by (is_plain (want_of want)) refl
    where
      checked : (w : VolumeWant) (t : Target) → In t (blocks images (filesystem_as fs)) → sought_for start w ≡ Ok t
          → CanBeSpared images (filesystem_as fs) C t → IsWhole (volume_map start (fate left) w)
      checked (Early w) t there is spared = found w (array_layout start) t is there spared
      checked (Late table w) t there is spared = found w (layout_by start table) t is there spared

      by : (b : Bool) → is_plain (want_of want) ≡ b → IsWhole (volume_map start (fate left) want)
      by true e = plain e
      by false e =
          let u = in_any (λ t. (sought_for start want ≡ Ok t) × CanBeSpared images (filesystem_as fs) C t) (blocks images (filesystem_as fs)) (unit e) in
          checked want u.0 u.1 u.2.0 u.2.1

  -- so does each of some wants
  each_found : (wants : List VolumeWant) → Each (IsSparedOf images fs start C) wants → Each (HasPlain left start) wants
      → Each (λ want. IsWhole (volume_map start (fate left) want)) wants
  each_found [] units plains = tt
  each_found (want ∷ wants) units plains = (unit_found want units.0 plains.0, each_found wants units.1 plains.1)

-- so a restore is whole
pub mending_keeps_restores : MendingKeepsRestores
mending_keeps_restores plan dest images left fs start C known opened keeps =
    each_found images left fs start C known opened keeps (needs (volume_map start (committed C left)) (journey plan dest start))

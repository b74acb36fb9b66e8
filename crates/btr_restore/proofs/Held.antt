-- The wants of the committed journey: what the images have of them.
use Rattle.std.proofs.Common.{◌≡◌, ℕ, IsTrue, List, [], ◌∷◌, Result, Ok, Err, sym, ◌∙◌, subst}
use Rattle.btr_chunk.specs.declared.chunk.Chunk.{Chunk}
use Rattle.btr_files.specs.declared.counts.Counts.{Counts}
use Rattle.btr_files.specs.declared.plan.RestorePlan.{RestorePlan}
use Rattle.btr_prog.specs.Blind.{IsAlike}
use Rattle.btr_prog.specs.Prog.{Return, exec, needs, bind}
use Rattle.btr_prog.specs.Maps.{Each, IsWithin}
use Rattle.btr_prog.specs.Quiet.{quiet}
use Rattle.btr_prog.specs.Stages.{Early, Late}
use Rattle.btr_prog.proofs.Quieting.{quiet_ends}
use Rattle.btr_prog.proofs.TwoParts.{early_wants, late_wants, both_wants}
use Rattle.btr_prog.proofs.Wells.{well_needs}
use Rattle.btr_read.specs.Fate.{Fault, Lost, fate, is_plain, choices}
use Rattle.btr_read.specs.Want.{addr_of}
use Rattle.btr_volume.specs.Lookup.{Program}
use Rattle.btr_volume.specs.declared.fault.OpenFault.{OpenFault}
use Rattle.btr_volume.specs.Maps.{VolumeWant, volume_map, array_layout}
use Rattle.btr_volume.specs.Start.{Images, Start, layout_by}
use Rattle.btr_volume.specs.Table.{TableResult, refusal_of, table_scan}
use Rattle.btr_files.proofs.AllMaps.{choices-zero}
use Rattle.btr_restore.specs.Committed.{Commit, IsHonest, IsIn, IsClosed, EndsInOrder, is_lost, committed, committed_choices, want_of}
use Rattle.btr_restore.specs.Journey.{journey, listing}
use Rattle.btr_listing.specs.Step.{Step}
use Rattle.btr_restore.proofs.Extends.{array_honest}
use Rattle.btr_restore.proofs.Honests.{choices_alike, choices_within, lacked_lost}

module _ {W : Type 0} (P Q : W → Type 0) (f : (w : W) → P w → Q w) where
  -- where one thing follows of another that holds of each of some wants, it holds of each of them
  pub each_as : (ws : List W) → Each P ws → Each Q ws
  each_as [] h = tt
  each_as (w ∷ ws) h = (f w h.0, each_as ws h.1)

module _ {W : Type 0} (P : W → Type 0) (f : (w : W) → P w) where
  -- what holds of all wants holds of each of some
  pub each_of : (ws : List W) → Each P ws
  each_of [] = tt
  each_of (w ∷ ws) = (f w, each_of ws)

-- a result has one value
pub same_value : {A F : Type 0} (x : Result A F) (a b : A) → x ≡ Ok a → x ≡ Ok b → a ≡ b
same_value x a b e f = cc

-- what came to a table came to no other one
same_table : (a b : List Chunk) → (let x : TableResult = Ok a in x) ≡ Ok b → a ≡ b
same_table a b e = cc

-- by the first choice of candidates a want comes to what the images have of it
pub first_choice : (images : Images) (start : Start) (want : VolumeWant) → volume_map start (choices images 0) want ≡ volume_map start (fate images) want
first_choice images start (Early want) = choices-zero images (array_layout start) want
first_choice images start (Late table want) = choices-zero images (layout_by start table) want

module _ (plan : RestorePlan) (dest : List ℕ) (images : Images) (start : Start) (C : Commit) where
  -- a want may come to the same by each choice, but for its bytes where there is no test
  pub alike_there : (n : ℕ) (want : VolumeWant) → IsAlike (is_plain (want_of want)) (volume_map start (committed_choices C images n) want)
      (volume_map start (committed C images) want)
  alike_there n (Early want) = choices_alike C images n want (array_layout start)
  alike_there n (Late table want) = choices_alike C images n want (layout_by start table)

  -- a want that the images lack is lost
  pub lost_there : (n : ℕ) (want : VolumeWant) (f : Fault) → EndsInOrder (volume_map start (committed C images) want)
      → volume_map start (choices images n) want ≡ Err f → f ≡ Lost (addr_of (want_of want))
  lost_there n (Early want) f well is = lacked_lost C images n want (array_layout start) f well is
  lost_there n (Late table want) f well is = lacked_lost C images n want (layout_by start table) f well is

module _ (plan : RestorePlan) (dest : List ℕ) (images : Images) (start : Start) (C : Commit) (table : List Chunk)
    (honest : IsHonest C images (layout_by start table)) (closed : IsClosed plan dest images start C table) where
  -- of a want a choice of the images' candidates has the committed bytes, or none
  abbrev Within : ℕ → VolumeWant → Type 0
  Within n want = IsWithin (volume_map start (choices images n) want) (volume_map start (committed_choices C images n) want)

  -- the scan of the chunk tree
  abbrev pub scan : Program Step TableResult
  scan = quiet (table_scan start)

  -- the listing behind the scan, whatever the table is
  abbrev rest : List Chunk → Program Step (Result Counts OpenFault)
  rest t = bind (listing plan dest start.sup) (λ counts. Return (Ok counts))

  -- the table that the committed scan comes to is the committed table
  the_table : (t : List Chunk) → (exec (committed C images (array_layout start)) scan).ending ≡ Ok (Ok t) → table ≡ t
  the_table t is =
      let map = committed C images (array_layout start) in
      same_table table t (same_value (exec map (table_scan start)).ending (Ok table) (Ok t) closed.stands (sym (quiet_ends Step map (table_scan start)) ∙ is))

  -- of each want of the committed scan the images have the committed bytes, or none
  pub scan_within : Each (λ w. IsWithin (fate images (array_layout start) w) (committed C images (array_layout start) w))
      (needs (committed C images (array_layout start)) scan)
  scan_within =
      let B = committed C images (array_layout start) in
      let D : List Chunk → _ = λ (t : List Chunk). committed C images (layout_by start t) in
      let there : VolumeWant → Type 0 = λ want. IsIn C (want_of want) in
      each_as (λ w. IsIn C w) (λ w. IsWithin (fate images (array_layout start) w) (B w))
      (λ w is. subst (λ r. IsWithin r (B w)) (choices-zero images (array_layout start) w)
      (choices_within C images 0 w (array_layout start) (array_honest C images start table closed.stands honest) is))
      (needs B scan) (early_wants (λ fault. Err (refusal_of fault)) there B D scan rest closed.holds)

  -- of each want of the committed journey the images have the committed bytes, or none
  pub all_within : Each (λ want. (n : ℕ) → Within n want) (needs (volume_map start (committed C images)) (journey plan dest start))
  all_within =
      let B = committed C images (array_layout start) in
      let D : List Chunk → _ = λ (t : List Chunk). committed C images (layout_by start t) in
      let there : VolumeWant → Type 0 = λ want. IsIn C (want_of want) in
      let within : VolumeWant → Type 0 = λ want. (n : ℕ) → Within n want in
      both_wants (λ fault. Err (refusal_of fault)) within B D scan rest
      (each_as (λ w. IsIn C w) (λ w. within (Early w)) (λ w is n. choices_within C images n w (array_layout start)
      (array_honest C images start table closed.stands honest) is) (needs B scan)
      (early_wants (λ fault. Err (refusal_of fault)) there B D scan rest closed.holds))
      (λ t is. each_as (λ w. IsIn C w) (λ w. within (Late t w))
      (λ w inside n. choices_within C images n w (layout_by start t) (subst (λ t. IsHonest C images (layout_by start t)) (the_table t is) honest)
      inside) (needs (D t) (rest t)) (late_wants (λ fault. Err (refusal_of fault)) there B D scan rest t is closed.holds))

  -- of each want of the committed journey the first candidates have the committed bytes, or none
  pub first_within : Each (λ want. IsWithin (volume_map start (fate images) want) (volume_map start (committed C images) want))
      (needs (volume_map start (committed C images)) (journey plan dest start))
  first_within =
      each_as (λ want. (n : ℕ) → Within n want) (λ want. IsWithin (volume_map start (fate images) want) (volume_map start (committed C images) want))
      (λ want h. subst (λ r. IsWithin r (volume_map start (committed C images) want)) (first_choice images start want) (h 0))
      (needs (volume_map start (committed C images)) (journey plan dest start)) all_within

  -- the wants of the committed journey are mapped
  pub all_well : Each (λ want. EndsInOrder (volume_map start (committed C images) want))
      (needs (volume_map start (committed C images)) (journey plan dest start))
  all_well = well_needs (λ fault. IsTrue (is_lost fault)) (volume_map start (committed C images)) (journey plan dest start) closed.well

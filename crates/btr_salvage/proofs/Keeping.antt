-- What the images have of blocks that restore wants: the committed bytes, or they are lost.
use Rattle.std.proofs.Common.{◌≡◌, ◌⊎◌, inl, inr, ℕ, Bool, true, false, cond, ltb, length, List, [], ◌∷◌, Option, Some, None, Result, Ok, Err, refl, sym}
use Rattle.std.proofs.Common.{ap, ◌∙◌, subst}
use Rattle.std.specs.Prelude.{Contains, slice_get}
use Rattle.btr_prog.specs.Maps.{Each, EndsWell, IsWithin, Loses}
use Rattle.btr_prog.specs.Prog.{Wants, exec, needs, wants_of}
use Rattle.btr_prog.proofs.Lost.{lost_law}
use Rattle.btr_prog.proofs.Runs.{wants_of-append}
use Rattle.btr_prog.proofs.TwoParts.{each_there}
use Rattle.btr_prog.proofs.Wells.{well_needs}
use Rattle.btr_read.specs.Candidates.{Target}
use Rattle.btr_read.specs.Fate.{Fault, Lost, chosen, fate, fate_of, is_plain, or_lost, passing, passing_for, sought}
use Rattle.btr_read.specs.Layout.{Layout}
use Rattle.btr_read.specs.Want.{addr_of}
use Rattle.btr_read.specs.declared.want.Want.{Want}
use Rattle.btr_walk.specs.Reading.{Map}
use Rattle.btr_volume.specs.Lookup.{Program}
use Rattle.btr_volume.specs.Start.{Images}
use Rattle.btr_files.proofs.AllMaps.{zero_chosen}
use Rattle.btr_restore.specs.Committed.{Commit, IsHonest, committed, committed_of}
use Rattle.btr_restore.proofs.Honests.{first_stands}

-- where one map has bytes, the other has these, or lacks them for want of a candidate
abbrev pub Keeps : Map → Map → Type 0
Keeps B C = (want : Want) (bytes : List ℕ) → C want ≡ Ok bytes → (B want ≡ Ok bytes) ⊎ (B want ≡ Err (Lost (addr_of want)))

-- ---- programs under both maps

-- no fault ends well
abbrev None_well : Fault → Type 0
None_well fault = ⊥

module _ (B C : Map) (keeps : Keeps B C) where
  -- as no fault ends well, what ends well has bytes
  there : (x : Result (List ℕ) Fault) → EndsWell None_well x → (bytes : List ℕ) × (x ≡ Ok bytes)
  there (Ok bytes) h = (bytes, refl)
  there (Err f) h = absurd h

  -- what has the committed bytes, or comes to a fault, has the committed bytes or none
  within_by : (x y : Result (List ℕ) Fault) (bytes : List ℕ) (fault : Fault) → y ≡ Ok bytes → (x ≡ Ok bytes) ⊎ (x ≡ Err fault) → IsWithin x y
  within_by (Ok b) y bytes fault is (inl e) = is ∙ sym e
  within_by (Ok b) y bytes fault is (inr e) = absurd (cc)
  within_by (Err f) y bytes fault is h = tt

  -- a want that the committed blocks have comes to these bytes or to none
  within : (want : Want) → EndsWell None_well (C want) → IsWithin (B want) (C want)
  within want h =
      let t = there (C want) h in
      within_by (B want) (C want) t.0 (Lost (addr_of want)) t.1 (keeps want t.0 t.1)

  -- where a want that the committed blocks have comes to a fault, it is lost
  is_lost : (want : Want) (fault : Fault) (bytes : List ℕ) → B want ≡ Err fault → (B want ≡ Ok bytes) ⊎ (B want ≡ Err (Lost (addr_of want))) → fault
      ≡ Lost (addr_of want)
  is_lost want fault bytes e (inl h) = absurd (cc)
  is_lost want fault bytes e (inr h) = cc

  -- of each of some wants that the committed blocks have, the images have these bytes or none
  all_within : (wants : List Want) → Each (λ w. EndsWell None_well (C w)) wants → Each (λ w. IsWithin (B w) (C w)) wants
  all_within [] h = tt
  all_within (w ∷ ws) h = (within w h.0, all_within ws h.1)

  module _ {S A : Type 0} (p : Program S A) (a : A) (ends : (exec C p).ending ≡ Ok a) where
    -- where a program comes to a value, the committed blocks have all its wants
    all_well : Each (λ w. EndsWell None_well (C w)) (needs C p)
    all_well = well_needs None_well C p (subst (EndsWell None_well) (sym ends) tt)

    -- the want at which the run stops is lost
    lost_want : (m : Loses B (exec C p) (exec B p)) → m.fault ≡ Lost (addr_of m.want)
    lost_want m =
        let well = each_there (λ w. EndsWell None_well (C w)) (wants_of m.before) (wants_of m.behind) m.want
        (subst (Each (λ w. EndsWell None_well (C w))) (ap wants_of m.place ∙ wants_of-append m.before (Wants m.want ∷ m.behind)) all_well) in
        let t = there (C m.want) well in
        is_lost m.want m.fault t.0 m.lost (keeps m.want t.0 t.1)

    -- it has the same run, or stops at the first want that is lost
    pub same_or_lost : (exec B p ≡ exec C p) ⊎ Loses B (exec C p) (exec B p)
    same_or_lost = lost_law B C p (all_within (needs C p) all_well)

    -- where it stops, it ends with that want as lost
    pub stops_lost : (m : Loses B (exec C p) (exec B p)) → (exec B p).ending ≡ Err (Lost (addr_of m.want))
    stops_lost m = m.ending ∙ ap Err (lost_want m)

-- ---- over honest images

module _ (C : Commit) (images : Images) (want : Want) (bytes : List ℕ) where
  -- what the images have is the committed bytes, or the want is lost
  abbrev IsKept : Result (List ℕ) Fault → Type 0
  IsKept x = (x ≡ Ok bytes) ⊎ (x ≡ Err (Lost (addr_of want)))

  -- what isn't lost was found
  some_bytes : (o : Option (List ℕ)) → or_lost (addr_of want) o ≡ Ok bytes → o ≡ Some bytes
  some_bytes None e = absurd (cc)
  some_bytes (Some b) e = cc

  -- where each candidate is the committed bytes, so is the first; without one the want is lost
  by_first : (xs : List (List ℕ)) (o : Option (List ℕ)) → slice_get xs 0 ≡ o → ((b : List ℕ) → Contains xs b → b ≡ bytes) → IsKept (or_lost (addr_of want) o)
  by_first xs None is same = inr refl
  by_first xs (Some b) is same = inl (ap Ok (same b (first_stands xs b is)))

  -- with a test or without, the first candidate is the committed bytes, or the want is lost
  by_test : (xs : List (List ℕ)) (plain : Bool) → ((b c : List ℕ) → C want ≡ Some b → Contains xs c → c ≡ b)
      → or_lost (addr_of want) (cond plain (chosen 0 xs) (C want)) ≡ Ok bytes → IsKept (or_lost (addr_of want) (slice_get xs 0))
  by_test xs true honest e = inl (ap (or_lost (addr_of want)) (sym (zero_chosen (ltb 0 (length xs)) xs)) ∙ e)
  by_test xs false honest e = by_first xs (slice_get xs 0) refl (λ b there. honest bytes b (some_bytes (C want) e) there)

  -- of what is sought the images have the committed bytes, or the want is lost
  by_sought : (x : Result Target Fault) → ((b c : List ℕ) → C want ≡ Some b → Contains (passing_for images x) c → c ≡ b) → committed_of C images 0 want x
      ≡ Ok bytes → IsKept (fate_of images (addr_of want) x)
  by_sought (Err f) honest e = absurd (cc)
  by_sought (Ok t) honest e = by_test (passing images t) (is_plain want) honest e

-- of each want with committed bytes honest images have these, or it is lost
pub keeps_honest : (C : Commit) (images : Images) (layout : Layout) → IsHonest C images layout → Keeps (fate images layout) (committed C images layout)
keeps_honest C images layout honest want bytes e = by_sought C images want bytes (sought layout want) (honest want) e

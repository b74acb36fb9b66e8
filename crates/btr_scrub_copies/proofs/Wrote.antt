-- One write, by what the rack said of it.
use Rattle.std.proofs.Common.{◌≡◌, ℕ, ◌<◌, Bool, true, false, List, [], ◌∷◌, length, get_or, set, Option, Some, None, IfSome, IsSomeAnd, Result, Ok, Err, refl}
use Rattle.std.proofs.Common.{sym, ◌∙◌, subst, inl, inr, arith}
use Rattle.btr_scrub_copies.proofs.Common.{AccountsMend, AreAmong, DoesWrites, Image, Images, In, IsMarked, IsStopped, LeaveImages, Memory, MendFault, Range}
use Rattle.btr_scrub_copies.proofs.Common.{Seen, Write, get_or-set_other, ranges_of}
use Rattle.std.proofs.lemmas.Bool.{cases_eq}
use Rattle.std.proofs.lemmas.List.{get_or-set_same}
use Rattle.std.proofs.lemmas.List.Elements.{All-cons, All-nil}
use Rattle.btr_rack.specs.Rack.{Accounts, FailsUnsure, Unsyncs, Writes, range_in, written}
use Rattle.btr_rack.specs.declared.error.RackError.{RackError}
use Rattle.btr_rack.specs.declared.error.RackError.TheVariants as error
use Rattle.btr_scrub_copies.specs.Writes.{Marks, OnlyWrites}

-- the answer that passes on what the rack said of a call on a slot
abbrev pub passed_on : ℕ → Result (Unit {0}) RackError → Result (Unit {0}) MendFault
passed_on slot (Ok x) = Ok x
passed_on slot (Err error.Failed) = Err (Image slot)
passed_on slot (Err error.Memory) = Err Memory

module _ (P : Range → Type 0) (slot off : ℕ) (bytes : List ℕ) (marks : List Bool) (a b : Seen) (lies : P (range_in slot off (length bytes)))
    (below : slot < length marks) where
  abbrev place : Range
  place = range_in slot off (length bytes)

  abbrev the_write : Write
  the_write = record { range = place; bytes = bytes }

  -- the slot of the write is marked
  marked : Marks (place ∷ []) marks (set marks slot true)
  marked = record {
    added = All-cons (λ (r : Range). IsMarked (set marks slot true) r.slot) place [] (get_or-set_same marks slot true false below)
        (All-nil (λ (r : Range). IsMarked (set marks slot true) r.slot));
    kept = λ s is. elim (cases_eq s slot) [
      | inl same ↦ subst (λ s. get_or (set marks slot true) s false ≡ true) (sym same) (get_or-set_same marks slot true false below)
      | inr other ↦ get_or-set_other marks slot s true false other ∙ is
    ];
  }

  -- the range that waits is that of the write
  own_one : (held : Option Images) → IfSome held (λ images. AreAmong (place ∷ []) (ranges_of (the_write ∷ [])))
  own_one None = tt
  own_one (Some images) = λ range i. i

  -- it lies at a place of which P holds
  own_lies : (range : Range) → In range (place ∷ []) → P range
  own_lies range (inl e) = subst P e lies
  own_lies range (inr i) = absurd i

  -- where only some bytes were written, the writes were stopped at this one
  torn : (images : Images) (left : Option Images) → (some : List ℕ) × (length some ≡ length bytes) × (left ≡ Some (written images slot off some))
      → IsSomeAnd left (IsStopped (the_write ∷ []) images)
  torn images left h = subst (λ o. IsSomeAnd o (IsStopped (the_write ∷ []) images)) (sym h.2)
      (record { before = []; behind = the_write ∷ []; place = refl; stands = inr (h.0, h.1, refl) })

  -- what is left of the images is what the write leaves
  leaves : (held left : Option Images) (r : Result (Unit {0}) RackError) → Writes slot off bytes held left r
      → LeaveImages (λ i. the_write ∷ []) held left (passed_on slot r)
  leaves None left r h = h
  leaves (Some images) left (Ok x) h = h
  leaves (Some images) left (Err error.Failed) h = torn images left h
  leaves (Some images) left (Err error.Memory) h = torn images left h

  -- only its range waits more than before
  only : Unsyncs place a b → (r : Result (Unit {0}) RackError) → Accounts place a.account b.account r → OnlyWrites (place ∷ []) a b
  only same (Err error.Failed) h = record { same = same; later = h.0.faults.0; same_shut = h.2 }
  only same r h = record { same = same; later = omega (arith, h.faults); same_shut = h.shut }

  -- the account of the call is that of its answer, as it is passed on
  account : (r : Result (Unit {0}) RackError) → Accounts place a.account b.account r → FailsUnsure a.sure r → AccountsMend P a b (passed_on slot r)
  account (Err error.Failed) h unsure =
      record { place = place; failed = record { one = h.0; read = h.1; shut = h.2; unsure = unsure }; on_slot = refl; lies = lies }
  account r h unsure = h

  -- bytes were written, or some of them, as the rack said
  pub wrote : (r : Result (Unit {0}) RackError) → Unsyncs place a b → Writes slot off bytes a.held b.held r → Accounts place a.account b.account r
      → FailsUnsure a.sure r → DoesWrites P (λ i. the_write ∷ []) marks (set marks slot true) a b (passed_on slot r)
  wrote r unsyncs held accounts unsure = record {
    ranges = place ∷ [];
    only = only unsyncs r accounts;
    own = own_one a.held;
    lie = own_lies;
    marked = marked;
    held = leaves a.held b.held r held;
    account = account r accounts unsure;
  }

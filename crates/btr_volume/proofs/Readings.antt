-- The superblocks of the images, read one after another.
use Rattle.std.proofs.Common.{◌≡◌, ◌≢◌, ℕ, ◌+◌, ◌<◌, ◌≤◌, false, List, [], ◌∷◌, ◌++◌, length, map, drop, get_or, Option, Some, None, Result, Ok, Err, refl, sym}
use Rattle.std.proofs.Common.{ap, ◌∙◌, arith, add-one}
use Rattle.std.specs.Option.{IfSome}
use Rattle.std.proofs.lemmas.List.{append_assoc, length-map}
use Rattle.std.proofs.Math.Seq.{drop-cons}
use Rattle.btr_rack.specs.Rack.{Slot, Seen, Account, NoneFailed, Rose, OnlyCounts, next_count, image_of}
use Rattle.btr_super.specs.Slot.{image_super, FailedAtPlace}
use Rattle.btr_super.specs.declared.superblock.Super.{Super}
use Rattle.btr_super.specs.declared.fault.SlotFault.{SlotFault}
use Rattle.btr_super.specs.declared.fault.SlotFault.TheVariants.{Failed, SumKind as kind_fault, NoSuper as no_copy}
use Rattle.btr_volume.specs.Start.{Images, no_super, super_then, supers_from}
use Rattle.btr_volume.specs.Opening.{SuperUnread, ReadsSupers, SupersCause}
use Rattle.btr_volume.specs.declared.fault.OpenFault.{OpenFault}

-- the images have the lengths of their slots
abbrev pub Sized : Option Images → List Slot → Type 0
Sized held slots = IfSome held (λ images. map length images ≡ map (λ s. s.len) slots)

-- superblocks before those of a result
abbrev pub prefixed : List Super → Result (List Super) OpenFault → Result (List Super) OpenFault
prefixed before (Ok more) = Ok (before ++ more)
prefixed before (Err refusal) = Err refusal

-- the superblocks before a slot were read
abbrev pub ReadSoFar : Option Images → List Super → ℕ → Type 0
ReadSoFar held before slot = IfSome held (λ images. supers_from 0 images ≡ prefixed before (supers_from slot (drop slot images)))

-- what reading a slot's superblock found
abbrev pub Found : Option Images → ℕ → Result Super SlotFault → Type 0
Found held slot r = IfSome held (λ images. r ≢ Err Failed → image_super (image_of images slot) ≡ r)

-- as many images as slots
many : (images : Images) (slots : List Slot) → map length images ≡ map (λ s. s.len) slots → length images ≡ length slots
many images slots sized = sym (length-map images (λ (i : List ℕ). length i)) ∙ ap length sized ∙ length-map slots (λ s. s.len)

-- the superblocks from a slot on begin with that of its image
next_super : (images : Images) (slot : ℕ) (r : Result Super SlotFault) → slot < length images → image_super (image_of images slot) ≡ r
    → supers_from slot (drop slot images) ≡ super_then slot r (supers_from (slot + 1) (drop (slot + 1) images))
next_super images slot r lt is =
    ap (supers_from slot) (drop-cons images slot [] lt ∙ ap (λ k. get_or images slot [] ∷ drop k images) (sym (add-one slot)))
    ∙ ap (λ s. super_then slot s (supers_from (slot + 1) (drop (slot + 1) images))) is

-- superblocks before one more and a result are those with that one, before the result
one_more : (before : List Super) (s : Super) (slot : ℕ) (rest : Result (List Super) OpenFault) → prefixed before (super_then slot (Ok s) rest)
    ≡ prefixed (before ++ s ∷ []) rest
one_more before s slot (Ok more) = ap (λ l. Ok l) (sym (append_assoc before (s ∷ []) more))
one_more before s slot (Err refusal) = refl

module _ (slots : List Slot) (before : List Super) (slot : ℕ) (within : slot < length slots) where
  -- where the superblock of a slot was read, those up to it and with it were
  pub read_more : (held : Option Images) (s : Super) (after : List Super) → Sized held slots → ReadSoFar held before slot → Found held slot (Ok s)
      → after ≡ before ++ s ∷ [] → ReadSoFar held after (slot + 1)
  read_more None s after sized so found is = tt
  read_more (Some images) s after sized so found is =
      so ∙ ap (prefixed before) (next_super images slot (Ok s) (omega (arith, many images slots sized)) (found (λ e. cc)))
      ∙ one_more before s slot (supers_from (slot + 1) (drop (slot + 1) images))
      ∙ ap (λ l. prefixed l (supers_from (slot + 1) (drop (slot + 1) images))) (sym is)

  -- where a slot has no superblock, reading the superblocks comes to its refusal
  pub read_fault : (held : Option Images) (fault : SlotFault) → Sized held slots → ReadSoFar held before slot → Found held slot (Err fault)
      → IfSome held (λ images. ReadsSupers images (Err (no_super slot fault)))
  read_fault None fault sized so found = tt
  read_fault (Some images) Failed sized so found = tt
  read_fault (Some images) no_copy sized so found = so ∙ ap (prefixed before)
      (next_super images slot (Err no_copy) (omega (arith, many images slots sized)) (found (λ e. cc)))
  read_fault (Some images) (kind_fault n) sized so found = so
      ∙ ap (prefixed before) (next_super images slot (Err (kind_fault n)) (omega (arith, many images slots sized)) (found (λ e. cc)))

-- where only the account may have changed in two steps, only it may have in both
pub only_counts_twice : (old mid new : Seen) → OnlyCounts old mid → OnlyCounts mid new → OnlyCounts old new
only_counts_twice old mid new a b = b ∙ ap {A = Seen} (λ s. record s { account = new.account }) a

-- where no call failed in two steps, none failed in both
pub none_failed_twice : (old mid new : Account) → NoneFailed old mid → NoneFailed mid new → NoneFailed old new
none_failed_twice old mid new a b = record {
  faults = omega (arith, a.faults, b.faults);
  fresh = b.fresh ∙ a.fresh;
  missed = b.missed ∙ a.missed;
  last = b.last ∙ a.last;
  opening = b.opening ∙ a.opening;
  shut = b.shut ∙ a.shut;
}

-- a count that didn't fall, and then rose, rose in all
pub rose_behind : (old mid new : ℕ) → old ≤ mid → Rose mid new → Rose old new
rose_behind old mid new le rose = (omega (arith, rose.0), omega (arith, rose.1))

-- a count behind one more isn't zero
pub some_fresh : (old new : ℕ) → new ≡ next_count old → 1 ≤ new
some_fresh old new is = omega arith

-- where no call failed and then a read at a superblock's place did, the superblock could not be read
super_unread : (old mid new : Seen) (slot : ℕ) → NoneFailed old.account mid.account → old.sure ≡ false
    → FailedAtPlace slot mid.account new.account (Err Failed) → SuperUnread old new slot
super_unread old mid new slot none unsure failed = record {
  place = failed.0;
  of_super = failed.1;
  unsure = unsure;
  last = failed.2.last;
  faults = rose_behind old.account.faults mid.account.faults new.account.faults (omega (arith, none.faults)) failed.2.faults;
  fresh = some_fresh mid.account.fresh new.account.fresh failed.2.fresh;
  shut = failed.3 ∙ none.shut;
}

-- what lies behind the refusal of a slot
pub refused_cause : (T : Type 0) (old mid new : Seen) (slot : ℕ) (fault : SlotFault) → NoneFailed old.account mid.account → OnlyCounts old mid
    → (fault ≡ Failed → mid.sure ≡ false) → FailedAtPlace slot mid.account new.account (Err fault) → SupersCause {T = T} old new (Err (no_super slot fault))
refused_cause T old mid new slot Failed none same sure failed = super_unread old mid new slot none (sym (ap (λ s. s.sure) same) ∙ sure refl) failed
refused_cause T old mid new slot no_copy none same sure failed = none_failed_twice old.account mid.account new.account none failed
refused_cause T old mid new slot (kind_fault n) none same sure failed = none_failed_twice old.account mid.account new.account none failed

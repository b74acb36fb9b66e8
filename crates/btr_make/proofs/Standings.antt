-- What writing into images leaves as it is.
use Rattle.std.proofs.Common.{◌≡◌, ◌≢◌, ◌∙◌, ℕ, Bool, true, false, List, refl, sym, ap, Result, Ok, Err}
use Rattle.std.specs.Option.{is_some}
use Rattle.std.specs.Str.{bytes_eq}
use Rattle.std.proofs.lemmas.Slice.Eq.{bytes_eq-Decides}
use Rattle.btr_rack.specs.declared.error.PokeError.{PokeError}
use Rattle.btr_rack.specs.declared.error.PokeError.TheVariants.{NoImage, Range, Memory}
use Rattle.btr_rack.specs.Memory.{MemoryRack, named, slots_of, Rewrites, Pokes}
use Rattle.btr_make.specs.Shelf.{standing}

-- an image is there afterwards exactly where it was
named_rewrites : (name other : List ℕ) (off : ℕ) (bytes : List ℕ) (old new : MemoryRack) → Rewrites name off bytes old new → (b : Bool)
    → bytes_eq other name ≡ b → is_some (named new other) ≡ is_some (named old other)
named_rewrites name other off bytes old new r true e =
    let same : other ≡ name = (bytes_eq-Decides other name).0 e in
    ap (λ n. is_some (named new n)) same ∙ ap is_some r.written ∙ sym (ap is_some r.stood) ∙ sym (ap (λ n. is_some (named old n)) same)
named_rewrites name other off bytes old new r false e =
    let differ : other ≢ name = λ same. let t : bytes_eq other name ≡ true = (bytes_eq-Decides other name).1 same in cc in
    ap is_some (r.others other differ)

-- what stands, from its parts
standing_parts : (old new : MemoryRack) → slots_of new ≡ slots_of old → new.failing ≡ old.failing → new.unsynced ≡ old.unsynced → new.never_synced
    ≡ old.never_synced → new.account ≡ old.account → ((name : List ℕ) → is_some (named new name) ≡ is_some (named old name)) → standing new ≡ standing old
unfolding standing
standing_parts old new slots failing unsynced never account names = λ i. record {
  slots = slots i;
  failing = failing i;
  unsynced = unsynced i;
  never_synced = never i;
  account = account i;
  names = λ name. names name i;
}

-- writing into an image leaves what stands
pub standing_rewrites : (name : List ℕ) (off : ℕ) (bytes : List ℕ) (old new : MemoryRack) → Rewrites name off bytes old new → standing new ≡ standing old
standing_rewrites name off bytes old new r =
    standing_parts old new r.slots r.failing r.unsynced r.never_synced r.account
    (λ other. named_rewrites name other off bytes old new r (bytes_eq other name) refl)

-- `poke` leaves what stands
pub standing_pokes : {T : Type 0} (name : List ℕ) (off : ℕ) (bytes : List ℕ) (old new : MemoryRack) (result : Result T PokeError)
    → Pokes name off bytes old new result → standing new ≡ standing old
standing_pokes name off bytes old new (Ok x) p = standing_rewrites name off bytes old new p
standing_pokes name off bytes old new (Err NoImage) p = ap standing p.1
standing_pokes name off bytes old new (Err Range) p = ap standing p.3
standing_pokes name off bytes old new (Err Memory) p = standing_rewrites name off p.0 old new p.2

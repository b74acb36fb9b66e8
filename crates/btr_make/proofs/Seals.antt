-- What `seal` does, from the two pokes that it makes: one of no bytes, and one of the sum.
use Rattle.std.proofs.Common.{◌≡◌, ◌≢◌, ◌∙◌, inl, ℕ, ◌+◌, ◌-◌, ◌<◌, ◌≤◌, Bool, true, false, List, [], Option, Some, Result, Ok, Err, refl, sym, ap, subst}
use Rattle.std.proofs.Common.{length, take, drop, arith}
use Rattle.std.specs.Prelude.{IfSome}
use Rattle.std.specs.Int.{w32, to_le_bytes}
use Rattle.std.specs.Str.{bytes_eq}
use Rattle.std.proofs.lemmas.Slice.Eq.{bytes_eq-Decides}
use Rattle.btr_rack.specs.declared.error.PokeError.{PokeError}
use Rattle.btr_rack.specs.declared.error.PokeError.TheVariants.{NoImage, Range, Memory}
use Rattle.btr_rack.specs.Rack.{pasted}
use Rattle.btr_rack.specs.Memory.{MemoryRack, named, Rewrites, Pokes}
use Rattle.btr_rack.proofs.Patches.{pasted-same}
use Rattle.btr_make.specs.Shelf.{Standing, standing}
use Rattle.btr_make.specs.Seal.{IsUntouched, IsCrcOf, Seals}
use Rattle.btr_make.proofs.Standings.{standing_rewrites}

-- no bytes change none
pasted-none : (image : List ℕ) (off : ℕ) → off ≤ length image → pasted image off [] ≡ image
pasted-none image off within =
    let none : off + 0 - off ≡ 0 = omega arith in
    ap (λ k. pasted image off (take k (drop off image))) (sym none) ∙ pasted-same image off 0 (omega arith)

-- where no bytes were written, each image has the bytes that it had
untouched_image : (name other : List ℕ) (off : ℕ) (old new : MemoryRack) → Rewrites name off [] old new → (b : Bool) → bytes_eq other name ≡ b
    → named new other ≡ named old other
untouched_image name other off old new r true e =
    let same : other ≡ name = (bytes_eq-Decides other name).0 e in
    let within : off ≤ length r.image = omega (arith, r.fits) in
    ap (named new) same ∙ r.written ∙ ap Some (pasted-none r.image off within) ∙ sym r.stood ∙ sym (ap (named old) same)
untouched_image name other off old new r false e =
    let differ : other ≢ name = λ same. let t : bytes_eq other name ≡ true = (bytes_eq-Decides other name).1 same in cc in
    r.others other differ

-- where no bytes were written, nothing was
pub untouched_rewrites : (name : List ℕ) (off : ℕ) (old new : MemoryRack) → Rewrites name off [] old new → IsUntouched old new
untouched_rewrites name off old new r = record {
  images = λ other. untouched_image name other off old new r (bytes_eq other name) refl;
  standing = standing_rewrites name off [] old new r;
}

-- a rack that is the same as one to which nothing was written has nothing written to it
untouched_more : (old mid new : MemoryRack) → IsUntouched old mid → new ≡ mid → IsUntouched old new
untouched_more old mid new u e = subst (IsUntouched old) (sym e) u

-- what is written after nothing was
rewrites_after : (name : List ℕ) (off : ℕ) (bytes : List ℕ) (old mid new : MemoryRack) → IsUntouched old mid → Rewrites name off bytes mid new
    → Rewrites name off bytes old new
unfolding standing
rewrites_after name off bytes old mid new u r = record {
  image = r.image;
  stood = sym (u.images name) ∙ r.stood;
  fits = r.fits;
  written = r.written;
  others = λ other differ. r.others other differ ∙ u.images other;
  slots = r.slots ∙ ap (λ (s : Standing). s.slots) u.standing;
  failing = r.failing ∙ ap (λ (s : Standing). s.failing) u.standing;
  unsynced = r.unsynced ∙ ap (λ (s : Standing). s.unsynced) u.standing;
  never_synced = r.never_synced ∙ ap (λ (s : Standing). s.never_synced) u.standing;
  account = r.account ∙ ap (λ (s : Standing). s.account) u.standing;
}

-- the image is shorter, where the sum's bytes aren't all there
pub shorter : (image : Option (List ℕ)) (bytes : List ℕ) (end : ℕ) → IfSome image (λ bytes. length bytes < end) → image ≡ Some bytes → length bytes < end
shorter image bytes end short e = let P : Option (List ℕ) → Type 0 = λ o. IfSome o (λ bytes. length bytes < end) in subst P e short

-- the sum has 4 bytes
length_sum : (crc : ℕ) → length (to_le_bytes w32 crc) ≡ 4
length_sum crc = refl

-- a poke of the sum at the block's beginning, after nothing was written, is what `seal` does
pub seals_poke : {T : Type 0} (name image : List ℕ) (off len crc end : ℕ) (old mid new : MemoryRack) (result : Result T PokeError) → 36 ≤ len → end
    ≡ off + len → IsUntouched old mid → named mid name ≡ Some image → IsCrcOf crc (named mid name) (off + 32) end
    → Pokes name off (to_le_bytes w32 crc) mid new result → Seals name off len old new result
seals_poke name image off len crc end old mid new (Ok x) least at u stood is p =
    let here : IsCrcOf crc (Some image) (off + 32) (off + len) =
    subst (λ e. IsCrcOf crc (Some image) (off + 32) e) at (subst (λ o. IsCrcOf crc o (off + 32) end) stood is) in (
      image,
      sym (u.images name) ∙ stood,
      here.0,
      subst (λ n. Rewrites name off (to_le_bytes w32 n) old new) here.1
          (rewrites_after name off (to_le_bytes w32 crc) old mid new u p),
    )
seals_poke name image off len crc end old mid new (Err NoImage) least at u stood is p = (sym (u.images name) ∙ p.0, untouched_more old mid new u p.1)
seals_poke name image off len crc end old mid new (Err Range) least at u stood is p =
    (p.0, sym (u.images name) ∙ p.1, inl (omega (arith, p.2, length_sum crc)), untouched_more old mid new u p.3)
seals_poke name image off len crc end old mid new (Err Memory) least at u stood is p =
    (p.0, omega (arith, p.1, length_sum crc), rewrites_after name off p.0 old mid new u p.2)

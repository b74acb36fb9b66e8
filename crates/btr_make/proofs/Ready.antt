-- A rack of a volume that can be tried stays one while its images are written.
use Rattle.std.proofs.Common.{◌≡◌, ◌∙◌, ℕ, zero, suc, List, [], ◌∷◌, refl, sym, ap, subst, map, take, drop, codes, arith}
use Rattle.std.specs.Option.{is_some, IsSome}
use Rattle.btr_rack.specs.Image.{MemoryImage, zeros}
use Rattle.btr_rack.specs.Memory.{MemoryRack, named, slots_of, shelf_of, empty_rack, with_image}
use Rattle.btr_make.specs.Shelf.{Standing, standing, IsShelved}

-- where no slot is open, each image is on the shelf
pub none_open : (n : ℕ) (xs : List MemoryImage) → map (λ (image : MemoryImage). image.slot) (take n xs) ≡ [] → (take n xs ≡ []) × (drop n xs ≡ xs)
none_open zero xs e = (refl, refl)
none_open (suc k) [] e = (refl, refl)
none_open (suc k) (x ∷ xs) e = cc

-- where no slot is open, the shelf has the images of all names
pub shelf_closed : (rack : MemoryRack) (name : List ℕ) → slots_of rack ≡ [] → shelf_of rack name ≡ named rack name
shelf_closed rack name e =
    let h = none_open rack.opened rack.images e in
    rw (h.0, h.1) refl

-- what stands keeps an image on the shelf
shelved : (old new : MemoryRack) (name : List ℕ) → standing new ≡ standing old → slots_of old ≡ [] → IsSome (shelf_of old name) → IsSome (shelf_of new name)
unfolding standing
shelved old new name e closed some =
    let closed' : slots_of new ≡ [] = ap (λ (s : Standing). s.slots) e ∙ closed in
    let names : is_some (named new name) ≡ is_some (named old name) = ap (λ (s : Standing). s.names name) e in
    ap is_some (shelf_closed new name closed') ∙ names ∙ sym (ap is_some (shelf_closed old name closed)) ∙ some

-- a rack of a volume that can be tried stays one where all that writing leaves is as it was
pub ready_stays : (old new : MemoryRack) → IsShelved old → standing new ≡ standing old → IsShelved new
unfolding standing
ready_stays old new r e =
    let failing : new.failing ≡ old.failing = ap (λ (s : Standing). s.failing) e in
    let account : new.account ≡ old.account = ap (λ (s : Standing). s.account) e in
    record {
      a = shelved old new (codes "a") e r.closed r.a;
      b = shelved old new (codes "b") e r.closed r.b;
      c = shelved old new (codes "c") e r.closed r.c;
      closed = ap (λ (s : Standing). s.slots) e ∙ r.closed;
      calls = ap (λ f. f.failing_calls) failing ∙ r.calls;
      writes = ap (λ f. f.failing_writes) failing ∙ r.writes;
      ranges = ap (λ f. f.failing_ranges) failing ∙ r.ranges;
      unsynced = ap (λ (s : Standing). s.unsynced) e ∙ r.unsynced;
      never_synced = ap (λ (s : Standing). s.never_synced) e ∙ r.never_synced;
      faults = rw account r.faults;
    }

-- three images of zeros make one
pub ready_zeros : (len : ℕ) (none one two three : MemoryRack) → none ≡ empty_rack → one ≡ with_image (zeros (codes "a") len) none → two
    ≡ with_image (zeros (codes "b") len) one → three ≡ with_image (zeros (codes "c") len) two → IsShelved three
ready_zeros len none one two three e a b c =
    let all : three ≡ with_image (zeros (codes "c") len) (with_image (zeros (codes "b") len) (with_image (zeros (codes "a") len) empty_rack)) =
    c ∙ ap (with_image (zeros (codes "c") len)) (b ∙ ap (with_image (zeros (codes "b") len)) (a ∙ ap (with_image (zeros (codes "a") len)) e)) in
    subst IsShelved (sym all) (record {
      a = refl;
      b = refl;
      c = refl;
      closed = refl;
      calls = refl;
      writes = refl;
      ranges = refl;
      unsynced = refl;
      never_synced = refl;
      faults = omega arith;
    })

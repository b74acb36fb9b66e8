-- The images of a rack in memory, on the shelf, open, and on the shelf again.
use Rattle.std.proofs.Common.{◌≡◌, ◌≢◌, ◌∙◌, ℕ, zero, suc, ◌-◌, ◌^◌, ◌<◌, Bool, true, false, ◌&&◌, cond, nat_lt, OnOk, Result, Ok, Err, List, [], ◌∷◌, ◌++◌}
use Rattle.std.proofs.Common.{map, take, drop, get_or, codes, Some, refl, sym, ap, subst, arith}
use Rattle.std.specs.List.{find}
use Rattle.std.specs.Option.{IsSome, is_some, option_map, unwrap_or}
use Rattle.std.specs.Str.{bytes_eq}
use Rattle.std.proofs.lemmas.Bool.{lt-ltb, ltb-true}
use Rattle.std.proofs.lemmas.List.{take-append-drop}
use Rattle.btr_make.specs.Shelf.{IsShelved, Standing, standing, volume_of}
use Rattle.btr_make.specs.Spoil.{spoiled}
use Rattle.btr_make.proofs.Ready.{ready_stays, none_open}
use Rattle.btr_rack.specs.Image.{MemoryImage, bytes_in, is_named}
use Rattle.btr_rack.specs.Memory.{MemoryRack, held_of, fails_nothing, is_empty, is_sure, named, nothing_fails, shelf_of, slots_of}
use Rattle.btr_rack.specs.Rack.{Slot}
use Rattle.btr_trial.specs.Sure.{CameTo, IsSpoiled, name_at, spoiled_at, volume_names}

-- the names differ
pub a-b : codes "a" ≢ codes "b"
a-b e = omega (arith, ap (λ (l : List ℕ). get_or l 0 0) e)

-- the names of the first and the third image differ
pub a-c : codes "a" ≢ codes "c"
a-c e = omega (arith, ap (λ (l : List ℕ). get_or l 0 0) e)

-- the names of the second and the third image differ
pub b-c : codes "b" ≢ codes "c"
b-c e = omega (arith, ap (λ (l : List ℕ). get_or l 0 0) e)

-- where no slot is open, each image of a rack is on the shelf
pub shelf_closed : (rack : MemoryRack) (name : List ℕ) → slots_of rack ≡ [] → shelf_of rack name ≡ named rack name
shelf_closed rack name e =
    let h = none_open rack.opened rack.images e in
    rw (h.0, h.1) refl

-- three images that are open and have their names
pub record Three (xs : List MemoryImage) : Type 0 where
  pub x : MemoryImage
  pub y : MemoryImage
  pub z : MemoryImage
  pub all : xs ≡ x ∷ y ∷ z ∷ []
  pub a : x.slot.name ≡ codes "a"
  pub b : y.slot.name ≡ codes "b"
  pub c : z.slot.name ≡ codes "c"

-- the names of some images that are open
abbrev names_of : List MemoryImage → List (List ℕ)
names_of xs = map (λ (s : Slot). s.name) (map (λ (image : MemoryImage). image.slot) xs)

-- open images with the names of a volume are three, one of each name
three_of : (xs : List MemoryImage) → names_of xs ≡ volume_names → Three xs
three_of [] e = cc
three_of (x ∷ []) e = cc
three_of (x ∷ y ∷ []) e = cc
three_of (x ∷ y ∷ z ∷ []) e = record {
  x = x;
  y = y;
  z = z;
  all = refl;
  a = ap (λ (l : List (List ℕ)). get_or l 0 []) e;
  b = ap (λ (l : List (List ℕ)). get_or l 1 []) e;
  c = ap (λ (l : List (List ℕ)). get_or l 2 []) e;
}
three_of (x ∷ y ∷ z ∷ w ∷ more) e = cc

-- the image of a name is the one that stands behind others
found : (name this : List ℕ) (x : MemoryImage) (more : List MemoryImage) (b : Bool) → x.slot.name ≡ this → bytes_eq this name ≡ b
    → find (is_named name) (x ∷ more) ≡ cond b (Some x) (find (is_named name) more)
found name this x more b is e = ap (λ (n : List ℕ). cond (bytes_eq n name) (Some x) (find (is_named name) more)) is
    ∙ ap (λ t. cond t (Some x) (find (is_named name) more)) e

module _ (rack closed : MemoryRack) (names : map (λ (s : Slot). s.name) (slots_of rack) ≡ volume_names) (sure : is_sure rack ≡ true)
    (is : closed ≡ record rack { opened = 0; failing = nothing_fails; unsynced = []; never_synced = [] }) where
  -- the three open images of the rack
  abbrev t : Three (take rack.opened rack.images)
  t = three_of (take rack.opened rack.images) names

  -- the images of the rack that are not open
  abbrev more : List MemoryImage
  more = drop rack.opened rack.images

  -- the closed rack has the three images, and then those that were not open
  images : closed.images ≡ t.x ∷ t.y ∷ t.z ∷ more
  images = ap (λ (r : MemoryRack). r.images) is ∙ sym (take-append-drop rack.opened rack.images) ∙ ap (λ (l : List MemoryImage). l ++ more) t.all

  -- no slot of the closed rack is open
  closed_slots : slots_of closed ≡ []
  closed_slots = ap slots_of is

  -- an image that is found by its name is on the shelf of the closed rack
  on_shelf : (name : List ℕ) (x : MemoryImage) → find (is_named name) (t.x ∷ t.y ∷ t.z ∷ more) ≡ Some x → shelf_of closed name ≡ Some (bytes_in x)
  on_shelf name x e = shelf_closed closed name closed_slots ∙ ap (λ (l : List MemoryImage). option_map bytes_in (find (is_named name) l)) images
      ∙ ap (option_map bytes_in) e

  -- the first image is on the shelf under its name
  shelf_a : shelf_of closed (codes "a") ≡ Some (bytes_in t.x)
  shelf_a = on_shelf (codes "a") t.x (found (codes "a") (codes "a") t.x (t.y ∷ t.z ∷ more) true t.a refl)

  -- the second image is on the shelf under its name
  shelf_b : shelf_of closed (codes "b") ≡ Some (bytes_in t.y)
  shelf_b =
      on_shelf (codes "b") t.y (found (codes "b") (codes "a") t.x (t.y ∷ t.z ∷ more) false t.a refl
      ∙ found (codes "b") (codes "b") t.y (t.z ∷ more) true t.b refl)

  -- the third image is on the shelf under its name
  shelf_c : shelf_of closed (codes "c") ≡ Some (bytes_in t.z)
  shelf_c =
      on_shelf (codes "c") t.z (found (codes "c") (codes "a") t.x (t.y ∷ t.z ∷ more) false t.a refl
      ∙ found (codes "c") (codes "b") t.y (t.z ∷ more) false t.b refl ∙ found (codes "c") (codes "c") t.z more true t.c refl)

  -- where two tests are true, the second is
  and_right : (a b : Bool) → (a && b) ≡ true → b ≡ true
  and_right true b e = e
  and_right false b e = cc

  -- a rack whose three images were closed again can be tried
  pub closed_ready : IsShelved closed
  closed_ready = record {
    a = ap is_some shelf_a;
    b = ap is_some shelf_b;
    c = ap is_some shelf_c;
    closed = closed_slots;
    calls = ap (λ (r : MemoryRack). r.failing.failing_calls) is;
    writes = ap (λ (r : MemoryRack). r.failing.failing_writes) is;
    ranges = ap (λ (r : MemoryRack). r.failing.failing_ranges) is;
    unsynced = ap (λ (r : MemoryRack). r.unsynced) is;
    never_synced = ap (λ (r : MemoryRack). r.never_synced) is;
    faults = rw (ap (λ (r : MemoryRack). r.account) is) (ltb-true rack.account.faults (2 ^ 64 - 1)
        (and_right (fails_nothing rack.failing) (nat_lt rack.account.faults (2 ^ 64 - 1)) sure));
  }

  -- the volume on the shelf of the closed rack has the bytes that were open
  pub closed_volume : volume_of closed ≡ held_of rack
  closed_volume = (λ i. unwrap_or (shelf_a i) [] ∷ unwrap_or (shelf_b i) [] ∷ unwrap_or (shelf_c i) [] ∷ []) ∙ sym (ap (map bytes_in) t.all)

-- a rack of a volume that can be tried is sure, and has the image of each number
pub ready_sure : (rack : MemoryRack) → IsShelved rack → is_sure rack ≡ true
ready_sure rack ready =
    (λ i. (is_empty (ready.calls i) && is_empty (ready.writes i) && is_empty (ready.ranges i)) && nat_lt rack.account.faults (2 ^ 64 - 1))
    ∙ lt-ltb rack.account.faults (2 ^ 64 - 1) ready.faults

-- what holds of the three names holds of the name of each number below 3
name_holds : (P : List ℕ → Type 0) → P (codes "a") → P (codes "b") → P (codes "c") → (slot : ℕ) → slot < 3 → P (name_at slot)
name_holds P a b c zero below = a
name_holds P a b c (suc zero) below = b
name_holds P a b c (suc (suc zero)) below = c
name_holds P a b c (suc (suc (suc n))) below = absurd (omega (arith, below))

-- a rack of a volume that can be tried has the image of each number below 3
pub image_stands : (rack : MemoryRack) → IsShelved rack → (slot : ℕ) → slot < 3 → IsSome (named rack (name_at slot))
image_stands rack ready slot below =
    let stands : (name : List ℕ) → IsSome (shelf_of rack name) → IsSome (named rack name) =
    λ name some. sym (ap is_some (shelf_closed rack name ready.closed)) ∙ some in
    name_holds (λ name. IsSome (named rack name)) (stands (codes "a") ready.a) (stands (codes "b") ready.b) (stands (codes "c") ready.c) slot below

-- the bytes of the image of a name, open or not
abbrev bytes_named : MemoryRack → List ℕ → List ℕ
bytes_named rack name = unwrap_or (named rack name) []

-- where no slot is open, the volume on the shelf has the bytes of the images of its names
named_in : (rack : MemoryRack) → slots_of rack ≡ [] → volume_of rack
    ≡ bytes_named rack (codes "a") ∷ bytes_named rack (codes "b") ∷ bytes_named rack (codes "c") ∷ []
named_in rack closed = λ i. unwrap_or (shelf_closed rack (codes "a") closed i) [] ∷ unwrap_or (shelf_closed rack (codes "b") closed i) [] ∷ unwrap_or
    (shelf_closed rack (codes "c") closed i) [] ∷ []

-- what is to fail, and the count of faults, stand as they were
pub standing_sure : (old new : MemoryRack) → standing new ≡ standing old → is_sure new ≡ is_sure old
unfolding standing
standing_sure old new e = ap (λ (s : Standing). fails_nothing s.failing && nat_lt s.account.faults (2 ^ 64 - 1)) e

-- an image of a volume was spoiled
module _ (old new : MemoryRack) (ready : IsShelved old) where
  -- with an image spoiled the rack can still be tried
  pub still_ready : (name : List ℕ) → IsSpoiled name old new → IsShelved new
  still_ready name s = ready_stays old new ready s.2.standing

  module _ (name : List ℕ) (s : IsSpoiled name old new) where
    -- the one that was spoiled, and another
    this : bytes_named new name ≡ spoiled (bytes_named old name)
    this = ap (λ o. unwrap_or o []) s.2.now ∙ sym (ap (λ o. spoiled (unwrap_or o [])) s.1)

    -- an image of another name has the bytes that it had
    other : (n : List ℕ) → n ≢ name → bytes_named new n ≡ bytes_named old n
    other n apart = ap (λ o. unwrap_or o []) (s.2.others n apart)

    -- the volume has the bytes that the images of its three names have now
    volume_by : (a b c : List ℕ) → bytes_named new (codes "a") ≡ a → bytes_named new (codes "b") ≡ b → bytes_named new (codes "c") ≡ c → volume_of new
        ≡ a ∷ b ∷ c ∷ []
    volume_by a b c is_a is_b is_c = named_in new (still_ready name s).closed ∙ (λ i. is_a i ∷ is_b i ∷ is_c i ∷ [])

  -- the bytes by their names, with one image spoiled, are the volume with that image spoiled
  back : (slot : ℕ) → spoiled_at (bytes_named old (codes "a") ∷ bytes_named old (codes "b") ∷ bytes_named old (codes "c") ∷ []) slot
      ≡ spoiled_at (volume_of old) slot
  back slot = ap (λ (l : List (List ℕ)). spoiled_at l slot) (sym (named_in old ready.closed))

  -- where the image of a number was spoiled, the volume is the old one with that image spoiled
  pub spoiled_volume : (slot : ℕ) → slot < 3 → IsSpoiled (name_at slot) old new → volume_of new ≡ spoiled_at (volume_of old) slot
  spoiled_volume zero below s =
      volume_by (codes "a") s (spoiled (bytes_named old (codes "a"))) (bytes_named old (codes "b")) (bytes_named old (codes "c")) (this (codes "a") s)
      (other (codes "a") s (codes "b") (λ e. a-b (sym e))) (other (codes "a") s (codes "c") (λ e. a-c (sym e)))
      ∙ back 0
  spoiled_volume (suc zero) below s =
      volume_by (codes "b") s (bytes_named old (codes "a")) (spoiled (bytes_named old (codes "b"))) (bytes_named old (codes "c"))
      (other (codes "b") s (codes "a") a-b) (this (codes "b") s) (other (codes "b") s (codes "c") (λ e. b-c (sym e)))
      ∙ back 1
  spoiled_volume (suc (suc zero)) below s =
      volume_by (codes "c") s (bytes_named old (codes "a")) (bytes_named old (codes "b")) (spoiled (bytes_named old (codes "c")))
      (other (codes "c") s (codes "a") a-c) (other (codes "c") s (codes "b") b-c) (this (codes "c") s)
      ∙ back 2
  spoiled_volume (suc (suc (suc n))) below s = absurd (omega (arith, below))

  -- the step that spoils the image of a number leaves the volume with that image spoiled
  pub spoiled_comes : {E : Type 0} (slot : ℕ) (name : List ℕ) → slot < 3 → name ≡ name_at slot → (r : Result (Unit {0}) E)
      → OnOk r (IsSpoiled name old new) → CameTo (λ images. tt) (λ images. spoiled_at images slot) old new r
  spoiled_comes slot name below is (Ok u) s =
      let this : IsSpoiled (name_at slot) old new = subst (λ n. IsSpoiled n old new) is s in
      (still_ready (name_at slot) this, refl, spoiled_volume slot below this)
  spoiled_comes slot name below is (Err e) s = tt

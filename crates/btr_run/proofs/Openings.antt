-- The images that openings take from the shelf, one after another.
use Rattle.std.proofs.Common.{◌≡◌, ◌≢◌, ◌⊎◌, inl, inr, ⊎_elim, ℕ, ◌+◌, ◌<◌, ◌≤◌, Bool, true, false, cond, List, [], ◌∷◌, ◌++◌, length, map, take, get_or}
use Rattle.std.proofs.Common.{Option, Some, None, Ok, Err, refl, sym, ap, ◌∙◌, subst, arith}
use Rattle.std.specs.Option.{IfSome, IsSomeAnd, option_and_then, option_map}
use Rattle.std.specs.Bool.{Decides}
use Rattle.std.specs.Str.{bytes_eq}
use Rattle.std.specs.List.{All}
use Rattle.std.proofs.lemmas.List.Elements.{All-nil, All-cons, All-append}
use Rattle.std.proofs.lemmas.List.{append_assoc, append-nil, nil_from_length, length-map, length-append, map-append, take_more, take_all}
use Rattle.std.proofs.lemmas.Slice.Eq.{bytes_eq-Decides}
use Rattle.btr_rack.specs.Rack.{Slot, Shelf, ShelfTakes, TakesImage}
use Rattle.btr_run.specs.Words.{Words}
use Rattle.btr_rack.specs.declared.error.RackError.{RackError}
use Rattle.btr_run.specs.Images.{without, taken, AreOpenedAs}

-- the bytes of some images
abbrev pub Images : Type 0
Images = List (List ℕ)

-- these are open behind some names: what is taken for those and more is these, and what is taken for more from what is left
abbrev pub Holds : Words → Shelf → Option Shelf → Option Images → Type 0
Holds before at shelf held =
    (now : Shelf) × (images : Images) × (shelf ≡ Some now) × (held ≡ Some images)
    × ((rest : Words) → taken (before ++ rest) at ≡ option_map (λ more. images ++ more) (taken rest now))

-- what is open behind some names, where the shelf was told
abbrev pub OpenSoFar : Words → Option Shelf → Option Shelf → Option Images → Type 0
OpenSoFar before None shelf held = Unit {0}
OpenSoFar before (Some at) shelf held = ((before ≡ []) × (shelf ≡ Some at)) ⊎ Holds before at shelf held

-- an opening over a shelf that is told
record Told (name : List ℕ) (at : Shelf) (shelf' : Option Shelf) (held held' : Option Images) : Type 0 where
  now : Shelf
  images : Images
  images' : Images
  shelf_is : shelf' ≡ Some now
  held_was : held ≡ Some images
  held_is : held' ≡ Some images'
  takes : TakesImage name at now images images'

-- an opening that gave a slot was over a shelf that is told, and took its image from it
told : (name : List ℕ) (at : Shelf) (shelf shelf' : Option Shelf) (held held' : Option Images) (slot : ℕ) → ShelfTakes name shelf shelf' held held' (Ok slot)
    → shelf ≡ Some at → Told name at shelf' held held'
told name at None shelf' held held' slot takes e = absurd (cc)
told name at (Some x) None held held' slot takes e = absurd (cc takes.0)
told name at (Some x) (Some y) None held' slot takes e = absurd (cc takes.0)
told name at (Some x) (Some y) (Some z) None slot takes e = absurd (cc takes.0)
told name at (Some x) (Some y) (Some z) (Some w) slot takes e =
    let same : x ≡ at = some_same x at e in
    record { now = y; images = z; images' = w; shelf_is = refl; held_was = refl; held_is = refl; takes = subst (λ s. TakesImage name s y z w) same takes }
  where
    some_same : (x y : Shelf) → ◌≡◌ {A = Option Shelf} (Some x) (Some y) → x ≡ y
    some_same x y e = cc

-- the shelf behind an opening
shelf_without : (name : List ℕ) (at now : Shelf) → now name ≡ None → ((other : List ℕ) → other ≢ name → now other ≡ at other) → now ≡ without name at
shelf_without name at now gone others = λ i other. each other i
  where
    of : (other : List ℕ) (b : Bool) → Decides b (other ≡ name) → now other ≡ cond b None (at other)
    of other true d = ap now (d.0 refl) ∙ gone
    of other false d = others other (λ e. absurd (cc (d.1 e)))

    each : (other : List ℕ) → now other ≡ cond (bytes_eq other name) None (at other)
    each other = of other (bytes_eq other name) (bytes_eq-Decides other name)

-- what is taken for a name and more is its image, and what is taken for more from what is left
taken_more : (name : List ℕ) (rest : Words) (at now : Shelf) (images images' : Images) (takes : TakesImage name at now images images')
    → taken (name ∷ rest) at ≡ option_map (λ more. takes.bytes ∷ more) (taken rest now)
taken_more name rest at now images images' takes =
    ap (option_and_then (λ bytes. option_map (λ more. bytes ∷ more) (taken rest (without name at)))) takes.stood
    ∙ ap (λ s. option_map (λ more. takes.bytes ∷ more) (taken rest s)) (sym (shelf_without name at now takes.gone takes.others))

-- an image before more, behind others, is the last of these
map_twice : (images : Images) (bytes : List ℕ) (o : Option Images) → option_map (λ more. images ++ more) (option_map (λ more. bytes ∷ more) o) ≡ option_map
    (λ more. (images ++ bytes ∷ []) ++ more) o
map_twice images bytes None = refl
map_twice images bytes (Some more) = ap (λ l. Some l) (sym (append_assoc images (bytes ∷ []) more))

-- as many images are open as there are slots
abbrev pub Sized : Option Images → List Slot → Type 0
Sized held slots = IfSome held (λ images. map length images ≡ map (λ s. s.len) slots)

-- without a slot no image is open
none_open : (held : Option Images) (images : Images) (slots : List Slot) → Sized held slots → held ≡ Some images → length slots ≡ 0 → images ≡ []
none_open None images slots sized e none = absurd (cc)
none_open (Some all) images slots sized e none =
    let same : all ≡ images = cc in
    nil_from_length images (ap length (sym same) ∙ sym (length-map all (λ (l : List ℕ). length l)) ∙ ap length sized ∙ length-map slots (λ s. s.len) ∙ none)

same_some : (o : Option Images) (a b : Images) → o ≡ Some a → o ≡ Some b → a ≡ b
same_some o a b e f = cc

-- one name more
pub open_more : (at : Option Shelf) (before after : Words) (name : List ℕ) (shelf shelf' : Option Shelf) (held held' : Option Images) (slots : List Slot)
    (slot : ℕ) → after ≡ before ++ name ∷ []
    → OpenSoFar before at shelf held → ShelfTakes name shelf shelf' held held' (Ok slot) → Sized held slots → length slots ≡ length before
    → OpenSoFar after at shelf' held'
open_more None before after name shelf shelf' held held' slots slot more so takes sized many = tt
open_more (Some at) before after name shelf shelf' held held' slots slot more so takes sized many =
    subst (λ l. OpenSoFar l (Some at) shelf' held') (sym more)
    (⊎_elim (λ first. inr (begun first.0 (told name at shelf shelf' held held' slot takes first.1)))
    (λ later. inr (further later (told name later.0 shelf shelf' held held' slot takes later.2))) so)
  where
    -- the first name's image is open
    begun : before ≡ [] → Told name at shelf' held held' → Holds (before ++ name ∷ []) at shelf' held'
    begun first t =
        let empty = none_open held t.images slots sized t.held_was (many ∙ ap length first) in
        let opened : t.images' ≡ t.takes.bytes ∷ [] = t.takes.opened ∙ ap (λ l. l ++ t.takes.bytes ∷ []) empty in (
          t.now,
          t.images',
          t.shelf_is,
          t.held_is,
          λ rest. ap (λ l. taken ((l ++ name ∷ []) ++ rest) at) first ∙ taken_more name rest at t.now t.images t.images' t.takes
              ∙ ap (λ l. option_map (λ more. l ++ more) (taken rest t.now)) (sym opened),
        )

    -- a further name's image is open behind those before
    further : (later : Holds before at shelf held) → Told name later.0 shelf' held held' → Holds (before ++ name ∷ []) at shelf' held'
    further later t =
        let same : t.images ≡ later.1 = same_some held t.images later.1 t.held_was later.3 in
        let opened : t.images' ≡ later.1 ++ t.takes.bytes ∷ [] = t.takes.opened ∙ ap (λ l. l ++ t.takes.bytes ∷ []) same in (
          t.now,
          t.images',
          t.shelf_is,
          t.held_is,
          λ rest. ap (λ l. taken l at) (append_assoc before (name ∷ []) rest) ∙ later.4 (name ∷ rest)
              ∙ ap (option_map (λ more. later.1 ++ more)) (taken_more name rest later.0 t.now t.images t.images' t.takes)
              ∙ map_twice later.1 t.takes.bytes (taken rest t.now) ∙ ap (λ l. option_map (λ more. l ++ more) (taken rest t.now)) (sym opened),
        )

-- behind some names, those were taken
held_are : (before : Words) (at : Shelf) (shelf : Option Shelf) (held : Option Images) → (later : Holds before at shelf held) → taken before at ≡ Some later.1
held_are before at shelf held later = ap (λ l. taken l at) (sym (append-nil before)) ∙ later.4 [] ∙ ap (λ l. Some l) (append-nil later.1)

-- once all names were opened, the open images are those that are taken for them from the shelf
pub all_open : (names before : Words) (i : ℕ) (at : Option Shelf) (shelf : Option Shelf) (held : Option Images) → 0 < length names → before ≡ take i names
    → length names ≤ i → OpenSoFar before at shelf held
    → IfSome at (λ s. IsSomeAnd held (λ images. taken names s ≡ Some images))
all_open names before i None shelf held some are all so = tt
all_open names before i (Some at) shelf held some are all so =
    let same : before ≡ names = are ∙ take_all i names all in
    ⊎_elim (λ first. absurd (omega (arith, ap length first.0, ap length same)))
    (λ later. subst (λ h. IsSomeAnd h (λ images. taken names at ≡ Some images)) (sym later.3)
    (ap (λ l. taken l at) (sym same) ∙ held_are before at shelf held later)) so

-- nothing is taken where nothing is open
none_taken : (names : Words) (at : Shelf) (held : Option Images) (slots : List Slot) → Sized held slots → length slots ≡ 0 → names ≡ []
    → IfSome held (λ images. taken names at ≡ Some images)
none_taken names at None slots sized none empty = tt
none_taken names at (Some images) slots sized none empty = ap (λ l. taken l at) empty ∙ ap (λ l. Some l)
    (sym (none_open (Some images) images slots sized refl none))

-- the opened images are those of the shelf behind each opening
pub so_far_opened : (write : Bool) (at shelf : Option Shelf) (held : Option Images) (slots : List Slot) → All (λ (s : Slot). s.write ≡ write) slots
    → Sized held slots → OpenSoFar (map (λ s. s.name) slots) at shelf held → AreOpenedAs write at slots held
so_far_opened write None shelf held slots closed sized so = (closed, tt)
so_far_opened write (Some at) shelf held slots closed sized so = (
  closed,
  ⊎_elim (λ first. none_taken (map (λ s. s.name) slots) at held slots sized (sym (length-map slots (λ s. s.name)) ∙ ap length first.0) first.0)
      (λ later. subst (λ h. IfSome h (λ images. taken (map (λ s. s.name) slots) at ≡ Some images)) (sym later.3)
      (held_are (map (λ s. s.name) slots) at shelf held later)) so,
)

-- a refused opening takes nothing
takes_none : (name : List ℕ) (shelf shelf' : Option Shelf) (held held' : Option Images) (e : RackError) → ShelfTakes name shelf shelf' held held' (Err e)
    → held' ≡ held
takes_none name None shelf' held held' e takes = takes.1
takes_none name (Some x) None held held' e takes = takes.1
takes_none name (Some x) (Some y) None held' e takes = takes.1
takes_none name (Some x) (Some y) (Some z) None e takes = takes.1
takes_none name (Some x) (Some y) (Some z) (Some w) e takes = takes.1

-- the opened images are those of the shelf behind an opening that was refused, too
pub refused_opened : (write : Bool) (name : List ℕ) (at shelf shelf' : Option Shelf) (held held' : Option Images) (slots slots' : List Slot) (e : RackError)
    → All (λ (s : Slot). s.write ≡ write) slots → Sized held slots
    → OpenSoFar (map (λ s. s.name) slots) at shelf held → ShelfTakes name shelf shelf' held held' (Err e) → slots' ≡ slots → AreOpenedAs write at slots' held'
refused_opened write name at shelf shelf' held held' slots slots' e closed sized so takes same =
    subst (λ l. AreOpenedAs write at l held') (sym same)
    (subst (AreOpenedAs write at slots) (sym (takes_none name shelf shelf' held held' e takes)) (so_far_opened write at shelf held slots closed sized so))

-- where none was opened
pub unopened : (write : Bool) (at : Option Shelf) (held : Option Images) (slots : List Slot) → Sized held slots → slots ≡ [] → AreOpenedAs write at slots held
unopened write at held slots sized none = so_far_opened write at at held slots
    (subst (All (λ (s : Slot). s.write ≡ write)) (sym none) (All-nil (λ (s : Slot). s.write ≡ write))) sized (begins at)
  where
    begins : (o : Option Shelf) → OpenSoFar (map (λ s. s.name) slots) o o held
    begins None = tt
    begins (Some s) = inl (ap (map (λ s. s.name)) none, refl)

-- one slot more that was opened so
pub opened_more : (write : Bool) (old new : List Slot) (s : Slot) → new ≡ old ++ s ∷ [] → s.write ≡ write → All (λ (t : Slot). t.write ≡ write) old
    → All (λ (t : Slot). t.write ≡ write) new
opened_more write old new s is so all = subst (All (λ (t : Slot). t.write ≡ write)) (sym is)
    (All-append (λ (t : Slot). t.write ≡ write) old (s ∷ []) all (All-cons (λ (t : Slot). t.write ≡ write) s [] so (All-nil (λ (t : Slot). t.write ≡ write))))

-- one slot more
pub slot_count : (old new : List Slot) (s : Slot) (i : ℕ) → new ≡ old ++ s ∷ [] → length old ≡ i → length new ≡ i + 1
slot_count old new s i is many = ap length is ∙ length-append old (s ∷ []) ∙ ap (λ k. k + 1) many

-- its name is the last
pub slot_names : (old new : List Slot) (s : Slot) → new ≡ old ++ s ∷ [] → map (λ t. t.name) new ≡ map (λ t. t.name) old ++ s.name ∷ []
slot_names old new s is = ap (map (λ t. t.name)) is ∙ map-append (λ t. t.name) old (s ∷ [])

-- the names of the slots are the first of the names
pub names_before : (names : Words) (old new : List Slot) (s : Slot) (i : ℕ) → new ≡ old ++ s ∷ [] → i < length names → get_or names i [] ≡ s.name
    → map (λ t. t.name) old ≡ take i names → map (λ t. t.name) new ≡ take (i + 1) names
names_before names old new s i is lt name before =
    slot_names old new s is ∙ ap (λ l. l ++ s.name ∷ []) before ∙ ap (λ n. take i names ++ n ∷ []) (sym name) ∙ sym (take_more names i [] lt)

-- a name that isn't on what is left of the shelf
none_left : (name : List ℕ) (at : Shelf) → at name ≡ None → taken (name ∷ []) at ≡ None
none_left name at gone = ap (option_and_then (λ bytes. option_map (λ more. bytes ∷ more) (taken [] (without name at)))) gone

-- a name that isn't on a shelf that is told isn't on it as it is told
left_alone : (name : List ℕ) (shelf : Option Shelf) (at : Shelf) → shelf ≡ Some at → IfSome shelf (λ s. s name ≡ None) → at name ≡ None
left_alone name shelf at is gone = subst (λ o. IfSome o (λ s. s name ≡ None)) is gone

-- the names up to one that isn't on what is left of the shelf can't be taken
pub missing_name : (at shelf : Option Shelf) (before : Words) (name : List ℕ) (names : Words) (slot : ℕ) (held : Option Images) → OpenSoFar before at shelf held
    → before ≡ take slot names → slot < length names
    → get_or names slot [] ≡ name → IfSome shelf (λ s. s name ≡ None) → IfSome at (λ s. taken (take (slot + 1) names) s ≡ None)
missing_name None shelf before name names slot held so are lt is gone = tt
missing_name (Some at) shelf before name names slot held so are lt is gone =
    ap (λ l. taken l at) cut ∙ ⊎_elim (λ first. ap (λ l. taken (l ++ name ∷ []) at) first.0 ∙ none_left name at (left_alone name shelf at first.1 gone))
    (λ later. later.4 (name ∷ []) ∙ ap (option_map (λ more. later.1 ++ more)) (none_left name later.0 (left_alone name shelf later.0 later.2 gone))) so
  where
    cut : take (slot + 1) names ≡ before ++ name ∷ []
    cut = take_more names slot [] lt ∙ ap (λ n. take slot names ++ n ∷ []) is ∙ ap (λ l. l ++ name ∷ []) (sym are)

-- Blocks that are met, each once.
use Rattle.std.proofs.Common.{◌≡◌, Bool, true, false, ◌||◌, List, [], ◌∷◌, ◌++◌, map, fold, if◌then◌else◌, refl, sym, ap, ◌∙◌, append_assoc, append-nil}
use Rattle.std.proofs.lemmas.Cmp.{then_total, on_total, nat_cmp_total}
use Rattle.std.specs.BTreeSet.{insert_key}
use Rattle.std.specs.Cmp.{IsTotalOrder}
use Rattle.std.specs.Ordering.{is_eq}
use Rattle.btr_findings.proofs.Sets.{any-insert}
use Rattle.btr_tour.specs.Tour.{Reached}
use Rattle.btr_walk.specs.declared.place.RootPlace.{RootPlace}
use Rattle.btr_check.specs.Trees.{is_among, place_of, place_cmp, first_met}
use Rattle.btr_check.specs.Walking.{MetPlaces, no_places, with_place}
use Rattle.btr_check.specs.declared.places.BlockId.{BlockId}

-- places are in a total order
pub place_total : IsTotalOrder place_cmp
place_total = then_total (on_total (λ (p : BlockId). p.addr) nat_cmp_total)
    (then_total (on_total (λ (p : BlockId). p.generation) nat_cmp_total) (on_total (λ (p : BlockId). p.level) nat_cmp_total))

-- where a block that was met stands
abbrev at : Reached → RootPlace
at one = one.place

-- the places with one that wasn't met before
abbrev with_one : MetPlaces → RootPlace → MetPlaces
with_one places one = record { keys = insert_key place_cmp places.keys (place_of one); list = places.list ++ one ∷ [] }

-- the places that are kept as some blocks are met
abbrev kept : List Reached → MetPlaces → MetPlaces
kept all places = fold with_place places (map at all)

-- where those of some blocks stand that weren't met before, each once
abbrev met_first : List BlockId → List Reached → List RootPlace
met_first before all = map at (first_met before all)

-- the places that are kept are, as a set, those that were met before
abbrev Same : List BlockId → MetPlaces → Type 0
Same before places = (q : BlockId) → is_among places.keys q ≡ is_among before q

-- one that was met, or that wasn't
met_one : (before : List BlockId) (one : Reached) (more : List Reached) (places : MetPlaces) (b : Bool) → is_among before (place_of one.place) ≡ b
    → Same before places
    → (kept more places).list ≡ places.list ++ met_first before more
    → (kept more (with_one places one.place)).list ≡ (places.list ++ one.place ∷ []) ++ met_first (place_of one.place ∷ before) more
    → (kept (one ∷ more) places).list ≡ places.list ++ met_first before (one ∷ more)
met_one before one more places true is same old new =
    ap (λ b. (kept more (if b then places else with_one places one.place)).list) (same (place_of one.place) ∙ is) ∙ old
    ∙ ap (λ b. places.list ++ map at (if b then first_met before more else one ∷ first_met (place_of one.place ∷ before) more)) (sym is)
met_one before one more places false is same old new =
    ap (λ b. (kept more (if b then places else with_one places one.place)).list) (same (place_of one.place) ∙ is) ∙ new
    ∙ append_assoc places.list (one.place ∷ []) (met_first (place_of one.place ∷ before) more)
    ∙ ap (λ b. places.list ++ map at (if b then first_met before more else one ∷ first_met (place_of one.place ∷ before) more)) (sym is)

-- as blocks are met, the places that are kept grow by those that weren't met before
met_all : (before : List BlockId) (all : List Reached) (places : MetPlaces) → Same before places → (kept all places).list ≡ places.list ++ met_first before all
met_all before [] places same = sym (append-nil places.list)
met_all before (one ∷ more) places same =
    met_one before one more places (is_among before (place_of one.place)) refl same (met_all before more places same)
    (met_all (place_of one.place ∷ before) more (with_one places one.place)
    (λ q. any-insert place_cmp place_total q places.keys (place_of one.place) ∙ ap (λ b. is_eq (place_cmp q (place_of one.place)) || b) (same q)))

-- from none on, what is kept is what is met first
pub met_once : (all : List Reached) → (fold with_place no_places (map at all)).list ≡ map at (first_met [] all)
met_once all = met_all [] all no_places (λ q. refl)

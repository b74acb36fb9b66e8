-- Subtrees that are met again.
use Rattle.std.proofs.Common.{◌≡◌, ◌⊎◌, inl, inr, ℕ, ◌+◌, ◌<◌, Bool, true, false, ◌||◌, cond, List, [], ◌∷◌, ◌++◌, length, take, get_or}
use Rattle.std.proofs.Common.{if◌then◌else◌, map, fold, filter_map, flat_map, Option, Some, None, refl, sym, ap, ◌∙◌, subst, append-nil}
use Rattle.std.proofs.lemmas.List.{take_more}
use Rattle.std.proofs.lemmas.List.Elements.{filter_map-append}
use Rattle.std.proofs.lemmas.List.Sums.{fold-append}
use Rattle.std.proofs.lemmas.Map.Lookups.{CmpEqualImpliesEq, exact_unsigned}
use Rattle.std.specs.BTreeMap.{insert_entry, is_at}
use Rattle.std.specs.BTreeSet.{insert_key}
use Rattle.std.specs.List.{AllByRecursion, cons_option}
use Rattle.std.specs.Map.{lookup}
use Rattle.std.specs.Option.{option_map, option_to_list}
use Rattle.std.specs.Ordering.{is_eq, match_ordering, nat_cmp, ordering_reverse, ordering_then}
use Rattle.std.specs.declared.cmp.Ordering.{Ordering}
use Rattle.std.specs.declared.cmp.Ordering.TheVariants.{Less, Equal, Greater}
use Rattle.btr_base.specs.Key.{last_key}
use Rattle.btr_findings.proofs.Sets.{any-insert, all-weaker}
use Rattle.btr_findings.specs.declared.finding.Finding.{Finding}
use Rattle.btr_tour.specs.Tour.{Mark, Block, Child, Item, Left, Reached, items_met, blocks_met, child_tour, first_key, place_of as place_on}
use Rattle.btr_walk.specs.declared.place.RootPlace.{RootPlace}
use Rattle.btr_walk.specs.declared.block_pointer.BlockPointer.{BlockPointer}
use Rattle.btr_check.specs.declared.places.BlockId.{BlockId}
use Rattle.btr_check.specs.declared.subtrees.Edges.{Edges}
use Rattle.btr_check.specs.declared.subtrees.Subtree.{Subtree}
use Rattle.btr_check.specs.declared.walk.FileRange.{FileRange}
use Rattle.btr_check.specs.Filesystem.{Filesystem, kind_of_sums, neighbours}
use Rattle.btr_check.specs.Passing.{edge_of, joined, edges_of, Known, place_at, subtree_with}
use Rattle.btr_check.specs.Passing.{with_subtree, IsSubtreeKept, passed, WasMet, CanPass, subtree_marks}
use Rattle.btr_check.specs.Passing.{children_marks, Knows, Walked}
use Rattle.btr_check.specs.Trees.{is_among, place_of, place_cmp}
use Rattle.btr_check.specs.Walking.{MetPlaces, WalkSeen, begun, behind_last, is_nothing, or_last, walk_step, with_place}
use Rattle.btr_check.specs.Walks.{broken, not_apart, range_of, ranges_met}
use Rattle.btr_check.proofs.Firsts.{place_total}
use Rattle.btr_check.proofs.Folding.{apart_from, walked}
use Rattle.btr_check.proofs.Lists.{one_more, flat_more}
use Rattle.btr_check.proofs.Wholes.{none_found}
use Rattle.btr_check_differences.proofs.Missing.{both_none}

-- edges
joined-assoc : (a b c : Option Edges) → joined (joined a b) c ≡ joined a (joined b c)
joined-assoc None b c = refl
joined-assoc (Some a) None c = refl
joined-assoc (Some a) (Some b) None = refl
joined-assoc (Some a) (Some b) (Some c) = refl

-- those of some ranges and of others behind them
pub edges_then : (xs ys : List FileRange) → edges_of (xs ++ ys) ≡ joined (edges_of xs) (edges_of ys)
edges_then [] ys = refl
edges_then (x ∷ xs) ys =
    ap (joined (edge_of (Some x))) (edges_then xs ys) ∙ sym (joined-assoc (edge_of (Some x)) (edges_of xs) (edges_of ys))

-- the items that two tours meet, one behind the other, are those of each
pub items_then : (xs ys : List Mark) → items_met (xs ++ ys) ≡ items_met xs ++ items_met ys
items_then [] ys = refl
items_then (Block place block ∷ xs) ys = items_then xs ys
items_then (Child addr place ∷ xs) ys = items_then xs ys
items_then (Item item ∷ xs) ys = ap (λ l. item ∷ l) (items_then xs ys)
items_then (Left fault ∷ xs) ys = items_then xs ys

-- the ranges of files that two tours meet, one behind the other, are those of each
pub ranges_then : (xs ys : List Mark) → ranges_met (xs ++ ys) ≡ ranges_met xs ++ ranges_met ys
ranges_then xs ys = ap (filter_map range_of) (items_then xs ys) ∙ filter_map-append range_of (items_met xs) (items_met ys)

-- the edges of what two tours meet are those of the first, joined with those of the second
pub marks_edges : (xs ys : List Mark) → edges_of (ranges_met (xs ++ ys)) ≡ joined (edges_of (ranges_met xs)) (edges_of (ranges_met ys))
marks_edges xs ys = ap edges_of (ranges_then xs ys) ∙ edges_then (ranges_met xs) (ranges_met ys)

-- the last range behind some
abbrev last_met : Option FileRange → List FileRange → Option FileRange
last_met last [] = last
last_met last (range ∷ ranges) = last_met (Some range) ranges

-- the last range that is kept after some marks is the last one that they have
last_is : (marks : List Mark) (seen : WalkSeen) → (fold walk_step seen marks).last ≡ last_met seen.last (ranges_met marks)
last_is [] seen = refl
last_is (Block place block ∷ marks) seen = last_is marks (walk_step seen (Block place block))
last_is (Child addr place ∷ marks) seen = last_is marks (walk_step seen (Child addr place))
last_is (Item item ∷ marks) seen = last_is marks (walk_step seen (Item item)) ∙ by (range_of item)
  where
    by : (next : Option FileRange) → last_met (or_last seen.last next) (ranges_met marks) ≡ last_met seen.last (cons_option next (ranges_met marks))
    by None = refl
    by (Some range) = refl
last_is (Left fault ∷ marks) seen = last_is marks (walk_step seen (Left fault))

-- the first range at some edges
abbrev first_edge : Option Edges → Option FileRange
first_edge edges = option_map (λ (e : Edges). e.first) edges

-- the last range at some edges
abbrev last_edge : Option Edges → Option FileRange
last_edge edges = option_map (λ (e : Edges). e.last) edges

-- the last of some ranges is the one at their last edge
last_edges : (last : Option FileRange) (ranges : List FileRange) → last_met last ranges ≡ or_last last (last_edge (edges_of ranges))
last_edges last [] = refl
last_edges last (range ∷ ranges) = last_edges (Some range) ranges ∙ by (edges_of ranges)
  where
    by : (edges : Option Edges) → or_last (Some range) (last_edge edges) ≡ or_last last (last_edge (joined (edge_of (Some range)) edges))
    by None = refl
    by (Some edges) = refl

-- the first edge of a range and of those behind it is this range
first_one : (range : FileRange) (edges : Option Edges) → first_edge (joined (edge_of (Some range)) edges) ≡ Some range
first_one range None = refl
first_one range (Some edges) = refl

-- behind ranges that are apart only the first one can be wrong
first_edges : (last : Option FileRange) (ranges : List FileRange) → filter_map not_apart (neighbours ranges) ≡ []
    → behind_last last (first_edge (edges_of ranges)) ≡ apart_from last ranges
unfolding apart_from
first_edges None ranges apart = sym apart
first_edges (Some last) [] apart = refl
first_edges (Some last) (range ∷ ranges) apart =
    ap (behind_last (Some last)) (first_one range (edges_of ranges)) ∙ sym (append-nil (option_to_list (not_apart (last, range))))
    ∙ ap (λ l. option_to_list (not_apart (last, range)) ++ l) (sym apart)
    ∙ sym (one_more (not_apart (last, range)) (filter_map not_apart (neighbours (range ∷ ranges))))

-- and where nothing is wrong behind another, they are apart
apart_within : (last : Option FileRange) (ranges : List FileRange) → apart_from last ranges ≡ [] → filter_map not_apart (neighbours ranges) ≡ []
unfolding apart_from
apart_within None ranges none = none
apart_within (Some last) [] none = refl
apart_within (Some last) (range ∷ ranges) none = by (not_apart (last, range)) none
  where
    by : (one : Option Finding) → cons_option one (filter_map not_apart (neighbours (range ∷ ranges))) ≡ []
        → filter_map not_apart (neighbours (range ∷ ranges)) ≡ []
    by None none = none
    by (Some finding) none = cc

-- where a block that was met stands
abbrev at : Reached → RootPlace
at one = one.place

-- blocks that were met leave the list of the places as it is
all_met : (blocks : List Reached) (places : MetPlaces) → AllByRecursion (λ (one : Reached). is_among places.keys (place_of one.place) ≡ true) blocks
    → fold with_place places (map at blocks) ≡ places
all_met [] places all = refl
all_met (one ∷ more) places all =
    ap (λ p. fold with_place p (map at more)) (by (is_among places.keys (place_of one.place)) all.0) ∙ all_met more places all.1
  where
    by : (b : Bool) → b ≡ true
        → (if b then places else record { keys = insert_key place_cmp places.keys (place_of one.place); list = places.list ++ one.place ∷ [] }) ≡ places
    by true is = refl
    by false is = cc

-- a walk behind a subtree that is passed is as behind all that a tour meets there
pub pass_is : (seen : WalkSeen) (marks : List Mark) (edges : Option Edges) → CanPass seen marks edges → passed seen edges ≡ fold walk_step seen marks
pass_is seen marks edges can =
    let w = walked marks seen in
    let new = fold walk_step seen marks in
    let kind_is : seen.kind ≡ new.kind = sym w.kind_is in
    let broken_is : seen.broken ≡ new.broken = sym (w.broken_is ∙ ap (λ l. seen.broken ++ l) can.whole ∙ append-nil seen.broken) in
    let overlapping_is : seen.overlapping ++ behind_last seen.last (first_edge edges) ≡ new.overlapping =
    ap (λ e. seen.overlapping ++ behind_last seen.last (first_edge e)) can.edges_are
    ∙ ap (λ l. seen.overlapping ++ l) (first_edges seen.last (ranges_met marks) can.apart) ∙ sym w.overlapping_is in
    let last : or_last seen.last (last_edge edges) ≡ new.last =
    ap (λ e. or_last seen.last (last_edge e)) can.edges_are ∙ sym (last_edges seen.last (ranges_met marks)) ∙ sym (last_is marks seen) in
    let places_are : seen.places ≡ new.places = sym (w.places_are ∙ all_met (blocks_met marks) seen.places can.met) in
    λ i. record { kind = kind_is i; broken = broken_is i; overlapping = overlapping_is i; last = last i; places = places_are i }

-- places that were met stay
still_there : (places : MetPlaces) (q : BlockId) (place : RootPlace) → is_among places.keys q ≡ true → is_among (with_place places place).keys q ≡ true
still_there places q place there = by (is_among places.keys (place_of place))
  where
    or_true : (b : Bool) → (b || true) ≡ true
    or_true true = refl
    or_true false = refl

    by : (b : Bool) → is_among
        (if b then places else record { keys = insert_key place_cmp places.keys (place_of place); list = places.list ++ place ∷ [] }).keys q ≡ true
    by true = there
    by false =
        any-insert place_cmp place_total q places.keys (place_of place) ∙ ap (λ b. is_eq (place_cmp q (place_of place)) || b) there
        ∙ or_true (is_eq (place_cmp q (place_of place)))

-- an order that is its own reverse is equality
self_equal : (r : Ordering) → r ≡ ordering_reverse r → r ≡ Equal
self_equal Less e = cc
self_equal Equal e = refl
self_equal Greater e = cc

-- a place compares as equal to itself
place_is : (p : BlockId) → is_eq (place_cmp p p) ≡ true
place_is p = ap is_eq (self_equal (place_cmp p p) (place_total.antisymm p p))

-- a place that was met is among those that are kept
now_there : (places : MetPlaces) (place : RootPlace) → is_among (with_place places place).keys (place_of place) ≡ true
now_there places place = by (is_among places.keys (place_of place)) refl
  where
    by : (b : Bool) → is_among places.keys (place_of place) ≡ b → is_among
        (if b then places else record { keys = insert_key place_cmp places.keys (place_of place); list = places.list ++ place ∷ [] }).keys
        (place_of place) ≡ true
    by true is = is
    by false is =
        any-insert place_cmp place_total (place_of place) places.keys (place_of place)
        ∙ ap (λ b. b || is_among places.keys (place_of place)) (place_is (place_of place))

-- a place that is kept stays so as more are met
stays_there : (list : List RootPlace) (places : MetPlaces) (q : BlockId) → is_among places.keys q ≡ true → is_among (fold with_place places list).keys q ≡ true
stays_there [] places q there = there
stays_there (place ∷ list) places q there = stays_there list (with_place places place) q (still_there places q place there)

-- all blocks that were met stand at places that are kept
all_there : (blocks : List Reached) (places : MetPlaces)
    → AllByRecursion (λ (one : Reached). is_among (fold with_place places (map at blocks)).keys (place_of one.place) ≡ true) blocks
all_there [] places = tt
all_there (one ∷ more) places =
    (stays_there (map at more) (with_place places one.place) (place_of one.place) (now_there places one.place), all_there more (with_place places one.place))

-- what can be passed can be passed later
can_pass_on : (old new : WalkSeen) (marks behind : List Mark) (edges : Option Edges) → new ≡ fold walk_step old behind → CanPass old marks edges
    → CanPass new marks edges
can_pass_on old new marks behind edges is can =
    let w = walked behind old in
    let kind : new.kind ≡ old.kind = ap (λ (s : WalkSeen). s.kind) is ∙ w.kind_is in
    let places : new.places ≡ fold with_place old.places (map at (blocks_met behind)) = ap (λ (s : WalkSeen). s.places) is ∙ w.places_are in
    record {
      whole = ap (λ k. filter_map (broken k) marks) kind ∙ can.whole;
      apart = can.apart;
      edges_are = can.edges_are;
      met = all-weaker (WasMet old) (WasMet new)
          (λ (one : Reached) there. ap (λ (p : MetPlaces). is_among p.keys (place_of one.place)) places
          ∙ stays_there (map at (blocks_met behind)) old.places (place_of one.place) there) (blocks_met marks) can.met;
    }

-- where nothing was found up to behind some marks, these can be passed from there on
pub can_pass : (old new : WalkSeen) (marks : List Mark) (edges : Option Edges) → new ≡ fold walk_step old marks → edges ≡ edges_of (ranges_met marks)
    → is_nothing (new.broken ++ new.overlapping) ≡ true → CanPass new marks edges
can_pass old new marks edges is edges_are sound =
    let w = walked marks old in
    let none = both_none new.broken new.overlapping (none_found (new.broken ++ new.overlapping) sound) in
    let kind : new.kind ≡ old.kind = ap (λ (s : WalkSeen). s.kind) is ∙ w.kind_is in
    let broken_is = both_none old.broken (filter_map (broken old.kind) marks) (sym (ap (λ (s : WalkSeen). s.broken) is ∙ w.broken_is) ∙ none.0) in
    let overlapping_is = both_none old.overlapping (apart_from old.last (ranges_met marks))
    (sym (ap (λ (s : WalkSeen). s.overlapping) is ∙ w.overlapping_is) ∙ none.1) in
    let places : new.places ≡ fold with_place old.places (map at (blocks_met marks)) = ap (λ (s : WalkSeen). s.places) is ∙ w.places_are in
    record {
      whole = ap (λ k. filter_map (broken k) marks) kind ∙ broken_is.1;
      apart = apart_within old.last (ranges_met marks) overlapping_is.1;
      edges_are = edges_are;
      met = all-weaker (λ (one : Reached). is_among (fold with_place old.places (map at (blocks_met marks))).keys (place_of one.place) ≡ true) (WasMet new)
          (λ (one : Reached) there. ap (λ (p : MetPlaces). is_among p.keys (place_of one.place)) places ∙ there) (blocks_met marks)
          (all_there (blocks_met marks) old.places);
    }

is_equal : (r : Ordering) → is_eq r ≡ true → r ≡ Equal
is_equal Less e = cc
is_equal Equal e = refl
is_equal Greater e = cc

-- where two comparisons in turn say equal, each of them does
both_equal : (a b : Ordering) → ordering_then a b ≡ Equal → (a ≡ Equal) × (b ≡ Equal)
both_equal Less b e = cc
both_equal Equal b e = (refl, e)
both_equal Greater b e = cc

-- places that compare as equal are the same
place_exact : CmpEqualImpliesEq place_cmp
place_exact a b e =
    let one = both_equal (nat_cmp a.addr b.addr) (ordering_then (nat_cmp a.generation b.generation) (nat_cmp a.level b.level)) e in
    let two = both_equal (nat_cmp a.generation b.generation) (nat_cmp a.level b.level) one.1 in
    let addr = exact_unsigned a.addr b.addr one.0 in
    let generation = exact_unsigned a.generation b.generation two.0 in
    let level = exact_unsigned a.level b.level two.1 in
    λ i. record { addr = addr i; generation = generation i; level = level i }

same_some : {X : Type 0} (x y : X) → Some x ≡ Some y → x ≡ y
same_some x y e = cc

-- what is found behind an insertion was there, or is what was inserted
module _ {K X : Type 0} (R : K → K → Ordering) (exact : CmpEqualImpliesEq R) (k : K) (v w : X) (q : K) where
  -- it was among some entries, or is what is inserted into them
  abbrev Found : List (K × X) → Type 0
  Found es = (lookup (is_at (R q)) es ≡ Some w) ⊎ ((q ≡ k) × (v ≡ w))

  -- what a look-up finds after an insertion was among the entries, or is what was inserted
  found_after : (es : List (K × X)) → lookup (is_at (R q)) (insert_entry R es k v) ≡ Some w → Found es
  found_after [] is = by (is_eq (R q k)) refl is
    where
      by : (b : Bool) → is_eq (R q k) ≡ b → cond b (Some v) None ≡ Some w → Found []
      by true e is = inr (exact q k (is_equal (R q k) e), same_some v w is)
      by false e is = inl is
  found_after (entry ∷ es) is = by (found_after es) (R k entry.0) refl is
    where
      front : (b : Bool) → is_eq (R q k) ≡ b → cond b (Some v) (lookup (is_at (R q)) (entry ∷ es)) ≡ Some w → Found (entry ∷ es)
      front true e is = inr (exact q k (is_equal (R q k) e), same_some v w is)
      front false e is = inl is

      here : R k entry.0 ≡ Equal → (b : Bool) → is_eq (R q entry.0) ≡ b → cond b (Some v) (lookup (is_at (R q)) es) ≡ Some w → Found (entry ∷ es)
      here same true e is = inr (exact q entry.0 (is_equal (R q entry.0) e) ∙ sym (exact k entry.0 same), same_some v w is)
      here same false e is = inl (ap (λ b. cond b (Some entry.1) (lookup (is_at (R q)) es)) e ∙ is)

      later : Found es → is_eq (R q entry.0) ≡ false → Found (entry ∷ es)
      later (inl found) e = inl (ap (λ b. cond b (Some entry.1) (lookup (is_at (R q)) es)) e ∙ found)
      later (inr new) e = inr new

      behind : (lookup (is_at (R q)) (insert_entry R es k v) ≡ Some w → Found es) → (b : Bool) → is_eq (R q entry.0) ≡ b
          → cond b (Some entry.1) (lookup (is_at (R q)) (insert_entry R es k v)) ≡ Some w → Found (entry ∷ es)
      behind rest true e is = inl (ap (λ b. cond b (Some entry.1) (lookup (is_at (R q)) es)) e ∙ is)
      behind rest false e is = later (rest is) e

      by : (lookup (is_at (R q)) (insert_entry R es k v) ≡ Some w → Found es) → (r : Ordering) → R k entry.0 ≡ r
          → lookup (is_at (R q)) (match_ordering r ((k, v) ∷ entry ∷ es) ((entry.0, v) ∷ es) (entry ∷ insert_entry R es k v)) ≡ Some w → Found (entry ∷ es)
      by rest Less e is = front (is_eq (R q k)) refl is
      by rest Equal e is = here e (is_eq (R q entry.0)) refl is
      by rest Greater e is = behind rest (is_eq (R q entry.0)) refl is

-- where a mark has no range nothing is wrong behind the last one
behind_none : (last : Option FileRange) → behind_last last None ≡ []
behind_none None = refl
behind_none (Some last) = refl

module _ (fs : Filesystem) where
  -- what is kept of subtrees holds behind more marks
  pub knows_on : (old new : WalkSeen) (known : Known) (behind : List Mark) → new ≡ fold walk_step old behind → Knows fs old known → Knows fs new known
  knows_on old new known behind is knows = record {
    kind = ap (λ (s : WalkSeen). s.kind) is ∙ (walked behind old).kind_is ∙ knows.kind;
    all = λ level pointer edges kept. can_pass_on old new (subtree_marks fs level pointer) behind edges is (knows.all level pointer edges kept);
  }

  -- and where another tree begins
  pub knows_begun : (seen : WalkSeen) (known : Known) → Knows fs seen known → Knows fs (begun seen) known
  knows_begun seen known knows = record {
    kind = knows.kind;
    all = λ level pointer edges kept.
        let can = knows.all level pointer edges kept in
        record { whole = can.whole; apart = can.apart; edges_are = can.edges_are; met = can.met };
  }

  -- a subtree of the same place, bounds and edges can be passed as well
  same_subtree : (seen : WalkSeen) (level level' : ℕ) (pointer pointer' : BlockPointer) (edges edges' : Option Edges)
      → place_at level' pointer' ≡ place_at level pointer → subtree_with pointer edges ≡ subtree_with pointer' edges'
      → CanPass seen (subtree_marks fs level pointer) edges → CanPass seen (subtree_marks fs level' pointer') edges'
  same_subtree seen level level' pointer pointer' edges edges' place subtree can =
      let levels : level ≡ level' = sym (ap (λ (p : BlockId). p.level) place) in
      let addr : pointer.addr ≡ pointer'.addr = sym (ap (λ (p : BlockId). p.addr) place) in
      let generation : pointer.generation ≡ pointer'.generation = sym (ap (λ (p : BlockId). p.generation) place) in
      let first : pointer.first ≡ pointer'.first = ap (λ (s : Subtree). s.first) subtree in
      let up : pointer.up ≡ pointer'.up = ap (λ (s : Subtree). s.up) subtree in
      let block_pointers : pointer ≡ pointer' = λ i. record { addr = addr i; generation = generation i; first = first i; up = up i } in
      let edges_same : edges ≡ edges' = ap (λ (s : Subtree). s.edges) subtree in
      subst (λ e. CanPass seen (subtree_marks fs level' pointer') e) edges_same
      (subst (λ s. CanPass seen (subtree_marks fs level' s) edges) block_pointers
      (subst (λ l. CanPass seen (subtree_marks fs l pointer) edges) levels can))

  -- one subtree more
  pub knows_more : (seen : WalkSeen) (known : Known) (level : ℕ) (pointer : BlockPointer) (edges : Option Edges) → Knows fs seen known
      → CanPass seen (subtree_marks fs level pointer) edges → Knows fs seen (with_subtree known level pointer edges)
  knows_more seen known level pointer edges knows can = record {
    kind = knows.kind;
    all = λ level' pointer' edges' kept. by level' pointer' edges'
        (found_after place_cmp place_exact (place_at level pointer) (subtree_with pointer edges) (subtree_with pointer' edges') (place_at level' pointer')
        known kept);
  }
    where
      by : (level' : ℕ) (pointer' : BlockPointer) (edges' : Option Edges)
          → (IsSubtreeKept known level' pointer' edges' ⊎ ((place_at level' pointer' ≡ place_at level pointer)
          × (subtree_with pointer edges ≡ subtree_with pointer' edges')))
          → CanPass seen (subtree_marks fs level' pointer') edges'
      by level' pointer' edges' (inl kept) = knows.all level' pointer' edges' kept
      by level' pointer' edges' (inr same) = same_subtree seen level level' pointer pointer' edges edges' same.0 same.1 can

  -- no subtree is kept
  pub knows_none : (seen : WalkSeen) → seen.kind ≡ kind_of_sums fs → Knows fs seen []
  knows_none seen kind = record { kind = kind; all = λ level pointer edges kept. absurd (none_kept (subtree_with pointer edges) kept) }
    where
      none_kept : (s : Subtree) → None ≡ Some s → ⊥
      none_kept s e = cc

  -- no marks
  pub walked_nothing : (seen : WalkSeen) (known : Known) → Knows fs seen known → Walked fs [] seen seen known None
  walked_nothing seen known knows = record { seen = refl; edges_are = refl; knows = knows }

  -- some marks, and then others
  pub walked_then : (xs ys : List Mark) (a b c : WalkSeen) (known known' : Known) (front back : Option Edges) → Walked fs xs a b known front
      → Walked fs ys b c known' back → Walked fs (xs ++ ys) a c known' (joined front back)
  walked_then xs ys a b c known known' front back one two = record {
    seen = two.seen ∙ ap (λ s. fold walk_step s ys) one.seen ∙ sym (fold-append walk_step a xs ys);
    edges_are = (λ i. joined (one.edges_are i) (two.edges_are i)) ∙ sym (marks_edges xs ys);
    knows = two.knows;
  }

  -- a pointer alone changes nothing of what is kept of trees
  child_same : (seen : WalkSeen) (addr : ℕ) (place : RootPlace) → walk_step seen (Child addr place) ≡ seen
  child_same seen addr place =
      let broken_is : seen.broken ++ [] ≡ seen.broken = append-nil seen.broken in
      let overlapping_is : seen.overlapping ++ behind_last seen.last None ≡ seen.overlapping =
      ap (λ l. seen.overlapping ++ l) (behind_none seen.last) ∙ append-nil seen.overlapping in
      λ i. record { kind = seen.kind; broken = broken_is i; overlapping = overlapping_is i; last = seen.last; places = seen.places }

  -- a pointer, and then what is below it
  pub walked_child : (marks : List Mark) (a b : WalkSeen) (known : Known) (edges : Option Edges) (addr : ℕ) (place : RootPlace)
      → Walked fs marks a b known edges → Walked fs (Child addr place ∷ marks) a b known edges
  walked_child marks a b known edges addr place one = record {
    seen = one.seen ∙ ap (λ s. fold walk_step s marks) (sym (child_same a addr place));
    edges_are = one.edges_are;
    knows = one.knows;
  }

  -- a block, and then what is below it
  pub walked_block : (marks : List Mark) (a b c : WalkSeen) (known : Known) (edges : Option Edges) (place : RootPlace) (block : List ℕ)
      → b ≡ walk_step a (Block place block) → Walked fs marks b c known edges → Walked fs (Block place block ∷ marks) a c known edges
  walked_block marks a b c known edges place block is one = record {
    seen = one.seen ∙ ap (λ s. fold walk_step s marks) is;
    edges_are = one.edges_are;
    knows = one.knows;
  }

  -- a subtree that is kept is passed
  pub walked_passed : (level : ℕ) (pointer : BlockPointer) (old new : WalkSeen) (known : Known) (edges : Option Edges) → IsSubtreeKept known level pointer edges
      → new ≡ passed old edges → Knows fs old known → Walked fs (subtree_marks fs level pointer) old new known edges
  walked_passed level pointer old new known edges kept is knows =
      let can = knows.all level pointer edges kept in
      let same = is ∙ pass_is old (subtree_marks fs level pointer) edges can in
      record { seen = same; edges_are = can.edges_are; knows = knows_on old new known (subtree_marks fs level pointer) same knows }

  -- one that was walked is kept
  pub walked_kept : (level : ℕ) (pointer : BlockPointer) (old new : WalkSeen) (known : Known) (edges : Option Edges)
      → is_nothing (new.broken ++ new.overlapping) ≡ true → Walked fs (subtree_marks fs level pointer) old new known edges
      → Walked fs (subtree_marks fs level pointer) old new (with_subtree known level pointer edges) edges
  walked_kept level pointer old new known edges sound one = record {
    seen = one.seen;
    edges_are = one.edges_are;
    knows = knows_more new known level pointer edges one.knows
        (can_pass old new (subtree_marks fs level pointer) edges one.seen one.edges_are sound);
  }

  -- one child more
  pub walked_more : (addr level : ℕ) (block_pointers : List BlockPointer) (i : ℕ) (d : BlockPointer) (a b c : WalkSeen) (known known' : Known)
      (front back : Option Edges)
      → i < length block_pointers → Walked fs (children_marks fs addr level (take i block_pointers)) a b known front
      → Walked fs (subtree_marks fs level (get_or block_pointers i d)) b c known' back
      → Walked fs (children_marks fs addr level (take (i + 1) block_pointers)) a c known' (joined front back)
  walked_more addr level block_pointers i d a b c known known' front back below one two =
      let pointer = get_or block_pointers i d in
      let tour = child_tour first_key last_key (subtree_marks fs level) addr level in
      subst (λ marks. Walked fs marks a c known' (joined front back))
      (sym (ap (flat_map tour) (take_more block_pointers i d below) ∙ flat_more tour (take i block_pointers) pointer))
      (walked_then (children_marks fs addr level (take i block_pointers)) (tour pointer) a b c known known' front back one
      (walked_child (subtree_marks fs level pointer) b c known' back addr (place_on level pointer) two))

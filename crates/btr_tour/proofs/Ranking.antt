-- A tour comes nearer to its end.
use Rattle.std.proofs.Common.{◌≡◌, ℕ, zero, suc, ◌+◌, ◌-◌, ◌*◌, ◌^◌, ◌<◌, ◌≤◌, List, [], ◌∷◌, length, get_or, set, Option, Some, None, IfSome, sym}
use Rattle.std.proofs.Common.{ap, subst, arith}
use Rattle.btr_walk.specs.Ranks.{digit, rank_path, rank_todo, rank_at, rank, FrameFits, FitsNext, IsShaped}
use Rattle.btr_walk.specs.Scans.{FramesPart}
use Rattle.btr_walk.specs.declared.choice.Part.{Part}
use Rattle.btr_walk.specs.declared.fault.TreeFault.{TreeFault}
use Rattle.btr_walk.specs.declared.fault.TreeFault.TheVariants.{Lost, Unread, Unmapped, Crosses, Malformed}
use Rattle.btr_walk.specs.declared.frame.Below.{Below}
use Rattle.btr_walk.specs.declared.frame.Frame.{Frame}
use Rattle.btr_walk.specs.declared.frame.Todo.{Todo}
use Rattle.btr_walk.specs.declared.going.Where.{Where}
use Rattle.btr_walk.specs.declared.leaf_at.LeafAt.{LeafAt}
use Rattle.btr_walk.specs.declared.path.AtLevel.{AtLevel}
use Rattle.btr_walk.specs.declared.block_pointer.BlockPointer.{BlockPointer}
use Rattle.btr_walk.proofs.Ranking.{one_more, shaped_set, near_again, near_place}
use Rattle.btr_tour.specs.Shape.{rank_on, StepRankFalls}
use Rattle.btr_tour.specs.Steps.{IsLowest, left_out, passed_leaf}

-- the children of a node are less than the node
enter_less : (i : ℕ) (fs : List (Option Frame)) (o : Option Frame) → i < length fs → digit o < 2 ^ 64
    → ((k : ℕ) → k < suc i → get_or fs k None ≡ None) → rank_path (set fs i o) + 1 ≤ rank_todo (suc i) fs
enter_less i [] o lt d h = absurd (omega (arith, lt))
enter_less zero (x ∷ fs) o lt d h = let e : digit x ≡ 0 = ap digit (h 0 (omega arith)) in omega (arith, e, d, one_more 0 fs)
enter_less (suc i) (x ∷ fs) o lt d h =
    let e : digit x ≡ 0 = ap digit (h 0 (omega arith)) in
    omega (arith, e, enter_less i fs o (omega (arith, lt)) d (λ k l. h (suc k) (omega (arith, l))))

-- a node that is left out
gone_less : (i : ℕ) (fs : List (Option Frame)) (o : Option Frame) → i < length fs → digit o ≤ digit (get_or fs i None) → rank_path (set fs i o)
    + (digit (get_or fs i None) - digit o) ≤ rank_path fs
gone_less i [] o lt d = absurd (omega (arith, lt))
gone_less zero (x ∷ fs) o lt d = omega (arith, d)
gone_less (suc i) (x ∷ fs) o lt d = omega (arith, gone_less i fs o (omega (arith, lt)) d)

-- a path counts no more without one of its frames
pass_less : (i : ℕ) (fs : List (Option Frame)) → rank_path (set fs i None) ≤ rank_path fs
pass_less i [] = omega arith
pass_less zero (x ∷ fs) = omega arith
pass_less (suc i) (x ∷ fs) = omega (arith, pass_less i fs)

-- a path with a block to be read counts no more without one of its frames
pass_less_todo : (n i : ℕ) (fs : List (Option Frame)) → rank_todo n (set fs i None) ≤ rank_todo n fs
pass_less_todo n i [] = omega arith
pass_less_todo zero zero (x ∷ fs) = omega arith
pass_less_todo zero (suc i) (x ∷ fs) = omega (arith, pass_less i fs)
pass_less_todo (suc n) zero (x ∷ fs) = omega arith
pass_less_todo (suc n) (suc i) (x ∷ fs) = omega (arith, pass_less_todo n i fs)

-- a place counts no more without one of its frames, whether a block is to be read or not
pass_less_at : (todo : Option Todo) (i : ℕ) (fs : List (Option Frame)) → rank_at todo (set fs i None) ≤ rank_at todo fs
pass_less_at None i fs = omega (arith, pass_less i fs)
pass_less_at (Some t) i fs = omega (arith, pass_less_todo t.level i fs)

-- what is below a block is left out
pub pass_node : (place : Where) (i : ℕ) (leaf : Option LeafAt) → rank_on (record { path = set place.path i None; todo = place.todo }) leaf ≤ rank_on place leaf
pass_node place i leaf = omega (arith, pass_less_at place.todo i place.path)

-- a leaf that is passed brings a tour no farther from its end
pub pass_leaf : (place : Where) (leaf : Option LeafAt) → rank_on place (passed_leaf 0 leaf) ≤ rank_on place leaf
pass_leaf place None = omega arith
pass_leaf place (Some l) = omega arith

-- a place with a block that is to be read
todo_rank : (place : Where) (level : ℕ) (pointer : BlockPointer) → place.todo ≡ Some (record { level = level; pointer = pointer })
    → rank_at place.todo place.path ≡ 2 * rank_todo level place.path
todo_rank place level pointer e = ap (λ t. rank_at t place.path) e

-- a leaf that was met brings a tour nearer to its end
pub leaf_rank_falls : (place : Where) (level : ℕ) (pointer : BlockPointer) (l : LeafAt) → place.todo ≡ Some (record { level = level; pointer = pointer })
    → l.end < 2 ^ 64
    → rank_on (record { path = place.path; todo = None }) (Some l) < rank_on place None
leaf_rank_falls place level pointer l e small = omega (arith, todo_rank place level pointer e, one_more level place.path, small)

-- behind the block that was to be read a tour is nearer to its end
behind_rank_falls : (place : Where) (level : ℕ) (pointer : BlockPointer) → place.todo ≡ Some (record { level = level; pointer = pointer })
    → rank_on (record { path = place.path; todo = None }) None < rank_on place None
behind_rank_falls place level pointer e = omega (arith, todo_rank place level pointer e, one_more level place.path)

-- a block that was left out brings a tour nearer to its end, and one that was refused no farther from it
pub out_rank_falls : (place : Where) (level : ℕ) (pointer : BlockPointer) (f : TreeFault) → place.todo ≡ Some (record { level = level; pointer = pointer })
    → StepRankFalls (rank_on place None) (rank_on (left_out place (record { path = place.path; todo = None }) f).place
    (left_out place (record { path = place.path; todo = None }) f).leaf) (left_out place (record { path = place.path; todo = None }) f).step
out_rank_falls place level pointer (Lost a) e = behind_rank_falls place level pointer e
out_rank_falls place level pointer (Unread a slot) e = omega arith
out_rank_falls place level pointer (Unmapped a) e = behind_rank_falls place level pointer e
out_rank_falls place level pointer (Crosses a) e = behind_rank_falls place level pointer e
out_rank_falls place level pointer (Malformed a) e = behind_rank_falls place level pointer e

-- a node whose children were chosen
pub fits_part : (pointer : BlockPointer) (part : Part) (o : Option Frame) → part.end < 2 ^ 64 → FramesPart pointer part o → IfSome o FrameFits
fits_part pointer part None small h = tt
fits_part pointer part (Some f) small h = subst FrameFits (sym h.1) (h.0, small)

-- the number of a frame's children that are still to come has 64 bits
fits_digit : (o : Option Frame) → IfSome o FrameFits → digit o < 2 ^ 64
fits_digit None h = omega arith
fits_digit (Some f) h = omega (arith, h.0, h.1)

-- no frame stands below the level of the block that is to be read
above_todo : (place : Where) (level : ℕ) (pointer : BlockPointer) → place.todo ≡ Some (record { level = level; pointer = pointer }) → IsShaped place → (k : ℕ)
    → k < level
    → get_or place.path k None ≡ None
above_todo place level pointer e s =
    let P : Option Todo → Type 0 = λ x. IfSome x (λ t. (k : ℕ) → k < t.level → get_or place.path k None ≡ None) in subst P e s.above

-- an inner node was met
pub node_rank_falls : (place : Where) (level : ℕ) (pointer : BlockPointer) (path' : List (Option Frame)) (o : Option Frame)
    → place.todo ≡ Some (record { level = level; pointer = pointer }) → 0 < level → level ≤ 7 → IfSome o FrameFits → path' ≡ set place.path (level - 1) o
    → IsShaped place → IsShaped (record { path = path'; todo = None }) × (rank_on (record { path = path'; todo = None }) None < rank_on place None)
node_rank_falls place level pointer path' o e some few fits set_is s =
    let i : ℕ = level - 1 in
    let up : suc i ≡ level = omega (arith, some) in
    let above : (k : ℕ) → k < level → get_or place.path k None ≡ None = above_todo place level pointer e s in
    let less : rank_path (set place.path i o) + 1 ≤ rank_todo (suc i) place.path =
    enter_less i place.path o (omega (arith, s.long, few, some)) (fits_digit o fits) (λ k l. above k (omega (arith, l, up))) in
    let same : rank_todo (suc i) place.path ≡ rank_todo level place.path = ap (λ n. rank_todo n place.path) up in
    subst (λ p. IsShaped (record { path = p; todo = None }) × (rank_on (record { path = p; todo = None }) None < rank_on place None)) (sym set_is) (
      shaped_set place.path i o None s.long (omega (arith, few, some)) s.frames fits (λ k l. above k (omega (arith, l, up))) tt,
      omega (arith, todo_rank place level pointer e, less, same),
    )

module _ (place : Where) (low : AtLevel) (none : place.todo ≡ None) (lowest : IsLowest place low) (shaped : IsShaped place) where
  -- the lowest frame stands within the path
  within : low.at < length place.path
  within = let w = lowest.within in omega (arith, shaped.long, w)

  -- the lowest frame has children that are to come, and their numbers have 64 bits
  fits : FrameFits low.frame
  fits = subst (λ o. IfSome o FrameFits) lowest.here (shaped.frames low.at)

  -- a child was met
  pub child_rank_falls : (b : Below) (todo : Todo) (path' : List (Option Frame)) → FitsNext (low.at + 1) low.frame b.frame b.todo → b.todo ≡ Some todo
      → path' ≡ set place.path low.at b.frame → IsShaped (record { path = path'; todo = Some todo })
      × (rank_on (record { path = path'; todo = Some todo }) None < rank_on place None)
  child_rank_falls b todo path' fits some set_is =
      let near : IsShaped (record { path = path'; todo = b.todo }) × (rank (record { path = path'; todo = b.todo }) < rank place) =
      near_place place None (record { path = path'; todo = b.todo }) none shaped
      (near_again place.path path' low.at (low.at + 1) low.frame b (omega arith) lowest.within fits set_is lowest.here lowest.before) in
      let there : IsShaped (record { path = path'; todo = Some todo }) × (rank (record { path = path'; todo = Some todo }) < rank place) =
      subst (λ t. IsShaped (record { path = path'; todo = t }) × (rank (record { path = path'; todo = t }) < rank place)) some near in
      (there.0, omega (arith, there.1))

  -- without its lowest node a tour is nearer to its end
  gone_rank_falls : (path' : List (Option Frame)) → path' ≡ set place.path low.at None
      → rank_on (record { path = path'; todo = None }) None < rank_on place None
  gone_rank_falls path' set_is =
      let less = gone_less low.at place.path None within (omega arith) in
      let digit_is : digit (get_or place.path low.at None) ≡ low.frame.end - low.frame.next = ap digit lowest.here in
      let path_rank : rank_on place None ≡ 2 ^ 64 * (2 * rank_path place.path + 1) + 0 = ap (λ t. 2 ^ 64 * rank_at t place.path + 0) none in
      subst (λ p. rank_on (record { path = p; todo = None }) None < rank_on place None) (sym set_is) (omega (arith, path_rank, less, digit_is, fits.0))

  -- without its lowest node a place stays well formed
  pub gone_shaped : (path' : List (Option Frame)) → path' ≡ set place.path low.at None → IsShaped (record { path = path'; todo = None })
  gone_shaped path' set_is =
      subst (λ p. IsShaped (record { path = p; todo = None })) (sym set_is)
      (shaped_set place.path low.at None None shaped.long lowest.within shaped.frames tt lowest.before tt)

  -- a node was left out
  pub gone_out : (path' : List (Option Frame)) (f : TreeFault) → path' ≡ set place.path low.at None
      → StepRankFalls (rank_on place None) (rank_on (left_out place (record { path = path'; todo = None }) f).place
      (left_out place (record { path = path'; todo = None }) f).leaf) (left_out place (record { path = path'; todo = None }) f).step
  gone_out path' (Lost a) e = gone_rank_falls path' e
  gone_out path' (Unread a slot) e = omega arith
  gone_out path' (Unmapped a) e = gone_rank_falls path' e
  gone_out path' (Crosses a) e = gone_rank_falls path' e
  gone_out path' (Malformed a) e = gone_rank_falls path' e

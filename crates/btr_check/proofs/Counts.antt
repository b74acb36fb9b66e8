-- What is counted, one block more at a time.
use Rattle.std.proofs.Common.{◌≡◌, ℕ, zero, suc, ◌+◌, ◌<◌, ◌≤◌, Bool, List, [], ◌∷◌, length, take, get_or, map, fold, flat_map, IsSomeAnd, Some, Result, Ok}
use Rattle.std.proofs.Common.{Err, refl, sym, ap, ◌∙◌, subst, arith}
use Rattle.std.proofs.lemmas.List.{get_or-map, take_more, length-map}
use Rattle.std.proofs.lemmas.List.Sums.{fold-append}
use Rattle.std.specs.BTreeSet.{BTreeSet, contains}
use Rattle.std.specs.List.{AllByRecursion}
use Rattle.std.specs.Ordering.{nat_cmp}
use Rattle.btr_read.specs.Fate.{Fault}
use Rattle.btr_read.specs.Store.{Blocks, Lent, block_of}
use Rattle.btr_read.specs.declared.want.Want.{Want}
use Rattle.btr_refs.specs.Forward.{Tally, tally_with, block_uses, root_use}
use Rattle.btr_tour.specs.Tour.{Reached}
use Rattle.btr_volume.specs.declared.root.TreeRoot.{TreeRoot}
use Rattle.btr_volume.specs.declared.stop.Stop.{Stop}
use Rattle.btr_walk.proofs.Joined.{block_is}
use Rattle.btr_walk.specs.declared.place.RootPlace.{RootPlace}
use Rattle.btr_walk.specs.Reading.{Map}
use Rattle.btr_check.proofs.Lists.{flat_more}
use Rattle.btr_check.specs.Counting.{IsBlock, AreThere, places_of, BlockCounts, CountedTo, BlocksCount, UsesCount}
use Rattle.btr_check.specs.Trees.{refers_by_address, uses_of}

all_at : {X : Type 0} (P : X → Type 0) (xs : List X) (i : ℕ) (d : X) → i < length xs → AllByRecursion P xs → P (get_or xs i d)
all_at P [] i d below all = absurd (omega arith)
all_at P (x ∷ xs) zero d below all = all.0
all_at P (x ∷ xs) (suc i) d below all = all_at P xs i d (omega arith) all.1

-- as many as a list has, or more, taken from its front are all of it
take_all : {X : Type 0} (xs : List X) (i : ℕ) → length xs ≤ i → take i xs ≡ xs
take_all [] zero long = refl
take_all [] (suc i) long = refl
take_all (x ∷ xs) zero long = absurd (omega arith)
take_all (x ∷ xs) (suc i) long = ap (λ l. x ∷ l) (take_all xs i (omega arith))

-- a want comes to one block, and so to the same bytes
same_bytes : (a b : List ℕ) (r : Result (List ℕ) Fault) → r ≡ Ok a → r ≡ Ok b → a ≡ b
same_bytes a b r e f = cc

-- where a block that was met stands
abbrev at : Reached → RootPlace
at one = one.place

module _ (B : Map) where
  -- a block that was read is the one that is there
  pub block_counted : (want : Want) (place : RootPlace) (store : Blocks) (loan : Lent) (bytes : List ℕ) (by_address : Bool) (old new : Tally)
      → block_of store loan ≡ Some bytes
      → IsSomeAnd (block_of store loan) (λ block. B want ≡ Ok block) → ((block : List ℕ) → IsBlock B place block → B want ≡ Ok block)
      → new ≡ fold tally_with old (block_uses by_address place.addr place.level bytes) → BlockCounts B place by_address old new (Ok tt)
  block_counted want place store loan bytes by_address old new held came same counted block there =
      counted ∙ ap (λ b. fold tally_with old (block_uses by_address place.addr place.level b))
      (same_bytes bytes block (B want) (block_is store loan bytes (λ b. B want ≡ Ok b) held came) (same block there))

module _ (B : Map) (places : List RootPlace) (full : BTreeSet ℕ) (old : Tally) where
  -- before the first block nothing is counted
  pub counted_none : CountedTo B 0 places full old old
  counted_none blocks same there extents is = refl

  module _ (i : ℕ) (none : RootPlace) (below : i < length places) (blocks : List Reached) (same : places ≡ places_of B blocks) where
    -- the block that is counted next
    abbrev one : Reached
    one = get_or blocks i (record { place = none; block = [] })

    -- there are as many blocks as places, and so one at this place
    inside : i < length blocks
    inside = let e : length places ≡ length blocks = ap length same ∙ length-map blocks at in omega arith

    -- the next place is where the next block stands
    place_is : get_or places i none ≡ one.place
    place_is = ap (λ l. get_or l i none) same ∙ get_or-map at blocks i (record { place = none; block = [] }) none inside

    -- the next block is the one at the next place
    is_there : AreThere B blocks → IsBlock B (get_or places i none) one.block
    is_there there = subst (λ p. IsBlock B p one.block) (sym place_is)
        (all_at (λ (r : Reached). IsBlock B r.place r.block) blocks i (record { place = none; block = [] }) inside there)

  -- one block more
  pub counted_next : (i : ℕ) (none : RootPlace) (by_address : Bool) (now new : Tally) → i < length places → CountedTo B i places full old now
      → by_address ≡ contains nat_cmp full (get_or places i none).addr → BlockCounts B (get_or places i none) by_address now new (Ok tt)
      → CountedTo B (i + 1) places full old new
  counted_next i none by_address now new below before by counts blocks same there extents is =
      let here = one i none below blocks same in
      let at-place = place_is i none below blocks same in
      counts here.block (is_there i none below blocks same there)
      ∙ ap (λ (p : RootPlace). fold tally_with now (block_uses by_address p.addr p.level here.block)) at-place
      ∙ ap (λ b. fold tally_with now (block_uses b here.place.addr here.place.level here.block))
      (by ∙ is (get_or places i none).addr ∙ ap (λ (p : RootPlace). refers_by_address extents p.addr) at-place)
      ∙ ap (λ u. fold tally_with u (uses_of extents here)) (before blocks same there extents is)
      ∙ sym (fold-append tally_with old (flat_map (uses_of extents) (take i blocks)) (uses_of extents here))
      ∙ ap (fold tally_with old) (sym (flat_more (uses_of extents) (take i blocks) here) ∙ ap (flat_map (uses_of extents))
      (sym (take_more blocks i (record { place = none; block = [] }) (inside i none below blocks same))))

  -- the last block
  pub counted_end : (i : ℕ) (now : Tally) → length places ≤ i → CountedTo B i places full old now → BlocksCount B places full old now (Ok tt)
  counted_end i now long before blocks same there extents is =
      let e : length places ≡ length blocks = ap length same ∙ length-map blocks at in
      before blocks same there extents is ∙ ap (λ l. fold tally_with old (flat_map (uses_of extents) l)) (take_all blocks i (omega arith))

  -- a block could not be read
  pub counted_stop : (i : ℕ) (none : RootPlace) (by_address : Bool) (now new last : Tally) (stop : Stop) → i < length places
      → BlockCounts B (get_or places i none) by_address now new (Err stop) → BlocksCount B places full old last (Err stop)
  counted_stop i none by_address now new last stop below counts blocks same there extents is = counts (one i none below blocks same).block
      (is_there i none below blocks same there)

module _ (B : Map) (begun : Tally) (trees : List TreeRoot) (places : List RootPlace) (full : BTreeSet ℕ) where
  -- the uses by trees and by blocks
  pub uses_counted : (roots all : Tally) → roots ≡ fold tally_with begun (map root_use trees) → BlocksCount B places full roots all (Ok tt)
      → UsesCount B begun trees places full (Ok all)
  uses_counted roots all by_roots counts blocks same there extents is =
      counts blocks same there extents is ∙ ap (λ u. fold tally_with u (flat_map (uses_of extents) blocks)) by_roots
      ∙ sym (fold-append tally_with begun (map root_use trees) (flat_map (uses_of extents) blocks))

  -- where the count of what blocks use stops, so does that of all uses
  pub uses_stop : (roots all : Tally) (stop : Stop) → BlocksCount B places full roots all (Err stop) → UsesCount B begun trees places full (Err stop)
  uses_stop roots all stop counts blocks same there extents is = counts blocks same there extents is

-- The children of a node whose keys meet those from one to another, by their places.
use Rattle.std.proofs.Common.{◌≡◌, ◌∙◌, ℕ, zero, suc, ◌+◌, ◌<◌, ◌≤◌, Bool, true, false, ◌&&◌, cond, List, [], ◌∷◌, Option, Some, None, refl, ap, subst}
use Rattle.std.proofs.Common.{length, get_or, take, drop, filter, All, add-one, arith}
use Rattle.std.proofs.lemmas.Bool.{lt-leb, le-leb, le-ltb}
use Rattle.std.proofs.lemmas.List.{drop_more}
use Rattle.btr_base.specs.Key.{key_number, key_le, key_lt}
use Rattle.btr_base.specs.declared.key.Key.{Key}
use Rattle.btr_node.specs.Block.{Item, KeyPointer}
use Rattle.btr_walk.specs.declared.choice.Part.{Part}
use Rattle.btr_walk.specs.declared.block_pointer.BlockPointer.{BlockPointer}
use Rattle.btr_walk.specs.BlockPointer.{is_below}
use Rattle.btr_walk.specs.Le.{below, up_of}
use Rattle.btr_walk.specs.Scans.{IsChoice}
use Rattle.btr_walk.proofs.Belows.{all_later, all_at}
use Rattle.btr_walk.proofs.Choosing.{bound_behind, head_of, tail_of}
use Rattle.btr_tour.specs.Tour.{child_pointers, meets_keys}
use Rattle.btr_read.proofs.Compared.{and_false}

-- the entry at a place passes
pub filter_at : {X : Type 0} (test : X → Bool) (xs : List X) (i : ℕ) (d : X) → i < length xs → test (get_or xs i d) ≡ true → filter test (drop i xs)
    ≡ get_or xs i d ∷ filter test (drop (i + 1) xs)
filter_at test xs i d lt passes = ap (filter test) (drop_more xs i d lt)
    ∙ ap (λ b. cond b (get_or xs i d ∷ filter test (drop (i + 1) xs)) (filter test (drop (i + 1) xs))) passes

-- the pointers of children
pub length-block_pointers : (ps : List KeyPointer) (up : Option Key) → length (child_pointers ps up) ≡ length ps
length-block_pointers [] up = refl
length-block_pointers (p ∷ ps) up = ap suc (length-block_pointers ps up)

-- the child at a place is what the pointer there leads to, below the first of the pointers behind it or the bound
child_pointer_there : (ps : List KeyPointer) (up : Option Key) (i : ℕ) (d : KeyPointer) (e : BlockPointer) → i < length ps → get_or (child_pointers ps up) i e
    ≡ below (get_or ps i d) (up_of (drop (suc i) ps) up)
child_pointer_there [] up i d e lt = absurd (omega (arith, lt))
child_pointer_there (p ∷ ps) up zero d e lt = refl
child_pointer_there (p ∷ ps) up (suc i) d e lt = child_pointer_there ps up i d e (omega (arith, lt))

-- the child at a place is what the pointer there leads to, below the next pointer's key or the node's bound
pub child_pointer_at : (ps : List KeyPointer) (up : Option Key) (i : ℕ) (d : KeyPointer) (e : BlockPointer) → i < length ps → get_or (child_pointers ps up) i e
    ≡ below (get_or ps i d) (up_of (drop (i + 1) ps) up)
child_pointer_at ps up i d e lt = rw add-one (child_pointer_there ps up i d e lt)

-- some key
no_key : Key
no_key = record { objectid = 0; kind = 0; offset = 0 }

-- what is at hand where a list has an entry at least
pub some_pointer : KeyPointer
some_pointer = record { key = no_key; addr = 0; generation = 0 }

-- some pointer of a block
pub some_block_pointer : BlockPointer
some_block_pointer = record { addr = 0; generation = 0; first = None; up = None }

-- some item
pub some_item : Item
some_item = record { key = no_key; offset = 0; size = 0; body = [] }

-- the children from a place on are those of the pointers from there on
drop-block_pointers : (n : ℕ) (ps : List KeyPointer) (up : Option Key) → drop n (child_pointers ps up) ≡ child_pointers (drop n ps) up
drop-block_pointers zero ps up = refl
drop-block_pointers (suc n) [] up = refl
drop-block_pointers (suc n) (p ∷ ps) up = drop-block_pointers n ps up

module _ (lo hi : Key) where
  -- of some children those whose keys meet those from lo to hi
  abbrev meet : List BlockPointer → List BlockPointer
  meet = filter (meets_keys lo hi)

  -- nothing from here on begins at or below hi
  none_meet : (ps : List KeyPointer) (up : Option Key) → All (λ p. key_number hi < key_number p.key) ps → meet (child_pointers ps up) ≡ []
  none_meet [] up h = refl
  none_meet (p ∷ ps) up h =
      let late : key_le p.key hi ≡ false = lt-leb _ _ (head_of (λ (y : KeyPointer). key_number hi < key_number y.key) p ps h) in
      let no : meets_keys lo hi (below p (up_of ps up)) ≡ false = ap (λ b. is_below (up_of ps up) lo && b) late ∙ and_false (is_below (up_of ps up) lo) in
      ap (λ b. cond b (below p (up_of ps up) ∷ meet (child_pointers ps up)) (meet (child_pointers ps up))) no
      ∙ none_meet ps up (tail_of (λ (y : KeyPointer). key_number hi < key_number y.key) p ps h)

  -- from a place on where all begin above hi, no child meets the keys
  pub none_from : (ps : List KeyPointer) (up : Option Key) (end from : ℕ) → end ≤ from → All (λ p. key_number hi < key_number p.key) (drop end ps)
      → meet (drop from (child_pointers ps up)) ≡ []
  none_from ps up end from le h = ap meet (drop-block_pointers from ps up) ∙ none_meet (drop from ps) up
      (all_later (λ (p : KeyPointer). key_number hi < key_number p.key) end from ps le h)

  -- children before the one that lo leads to
  skip_early : (ps : List KeyPointer) (n : ℕ) (up : Option Key) → n < length ps → All (λ p. key_number p.key ≤ key_number lo) (take (n + 1) ps)
      → meet (child_pointers ps up) ≡ meet (drop n (child_pointers ps up))
  skip_early [] n up lt h = absurd (omega (arith, lt))
  skip_early (p ∷ ps) zero up lt h = refl
  skip_early (p ∷ []) (suc n) up lt h = absurd (omega (arith, lt))
  skip_early (p ∷ (q ∷ ps)) (suc n) up lt h =
      let more : suc n + 1 ≡ suc (suc n) = omega arith in
      let all : All (λ (x : KeyPointer). key_number x.key ≤ key_number lo) (p ∷ take (suc n) (q ∷ ps)) = subst
      (λ (m : ℕ). All (λ (x : KeyPointer). key_number x.key ≤ key_number lo) (take m (p ∷ (q ∷ ps)))) more h in
      let rest_all : All (λ (x : KeyPointer). key_number x.key ≤ key_number lo) (take (suc n) (q ∷ ps)) = tail_of
      (λ (y : KeyPointer). key_number y.key ≤ key_number lo) p (take (suc n) (q ∷ ps)) all in
      let early : key_lt lo q.key ≡ false = le-ltb _ _ (head_of (λ (y : KeyPointer). key_number y.key ≤ key_number lo) q (take n ps) rest_all) in
      let no : meets_keys lo hi (below p (Some q.key)) ≡ false = ap (λ b. b && key_le p.key hi) early in
      let one : suc n ≡ n + 1 = omega arith in
      ap (λ b. cond b (below p (Some q.key) ∷ meet (child_pointers (q ∷ ps) up)) (meet (child_pointers (q ∷ ps) up))) no
      ∙ skip_early (q ∷ ps) n up (omega (arith, lt)) (subst
      (λ (m : ℕ). All (λ (x : KeyPointer). key_number x.key ≤ key_number lo) (take m (q ∷ ps))) one rest_all)

  -- those that were chosen are all that meet
  pub all_from : (ps : List KeyPointer) (up : Option Key) (part : Part) → IsChoice lo hi ps part → meet (child_pointers ps up)
      ≡ meet (drop part.next (child_pointers ps up))
  all_from ps up part c = from part.next c.there c.before
    where
      -- where the children up to a place begin at or below lo, those that meet the keys stand from there on
      from : (n : ℕ) → n < length ps → ((k : ℕ) → k < n → All (λ p. key_number p.key ≤ key_number lo) (take (n + 1) ps)) → meet (child_pointers ps up)
          ≡ meet (drop n (child_pointers ps up))
      from zero lt h = refl
      from (suc n) lt h = skip_early ps (suc n) up lt (h 0 (omega arith))

  -- and the first of them does
  pub here_meets : (ps : List KeyPointer) (up : Option Key) (next end : ℕ) (e : BlockPointer) → is_below up lo ≡ true → next < end → end ≤ length ps
      → All (λ p. key_number lo < key_number p.key) (drop (next + 1) ps) → All (λ p. key_number p.key ≤ key_number hi) (take end ps)
      → meets_keys lo hi (get_or (child_pointers ps up) next e) ≡ true
  here_meets ps up next end e b lt within behind low =
      let d : KeyPointer = some_pointer in
      let there : next < length ps = omega (arith, lt, within) in
      let to : key_le (get_or ps next d).key hi ≡ true = le-leb _ _
      (all_at (λ (p : KeyPointer). key_number p.key ≤ key_number hi) ps end next d lt there low) in
      ap (meets_keys lo hi) (child_pointer_at ps up next d e there)
      ∙ ap (λ x. x && key_le (get_or ps next d).key hi) (bound_behind lo (drop (next + 1) ps) up b behind) ∙ to

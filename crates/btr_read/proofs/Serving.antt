-- That a rack goes on serving a store.
use Rattle.std.proofs.Common.{◌≡◌, ◌≢◌, ℕ, zero, suc, ◌⊎◌, List, [], ◌∷◌, drop, get_or, set, Option, Some, None, IfSome, IsSomeAnd, refl, sym, ap, ◌∙◌, subst}
use Rattle.std.proofs.Common.{inl, inr, replicate, Ok}
use Rattle.std.specs.Option.{option_map}
use Rattle.std.proofs.lemmas.List.{get_or-set_other}
use Rattle.btr_chunk.specs.declared.chunk.Chunk.{Chunk}
use Rattle.btr_pool.specs.Slots.{Slots, loans_of, bytes_at, with_bytes}
use Rattle.btr_read.specs.declared.device.Member.{Member}
use Rattle.btr_read.specs.declared.setting.Setting.{Setting}
use Rattle.btr_read.specs.declared.want.Want.{Want}
use Rattle.btr_read.specs.declared.want.Want.TheVariants.{Tree, Block, Sector, Plain}
use Rattle.btr_rack.specs.Rack.{Seen}
use Rattle.btr_read.specs.Layout.{Layout, AreOpen, HaveOwnSlots}
use Rattle.btr_read.specs.Candidates.{Target}
use Rattle.btr_read.specs.Fate.{sought}
use Rattle.btr_read.specs.Store.{Blocks, Kept, block_in, kept_in, kept_at, kept_want, none_kept, with_loan}
use Rattle.btr_read.specs.Serves.{IsKept, IsServed, Serves}
use Rattle.btr_read.specs.Writing.{StillKept}
use Rattle.btr_read.proofs.Loans.{blocks}
use Rattle.btr_read.proofs.Fates.{sought_of}

-- without the first slot each other one stands one place before
past_first : (slots : List (List ℕ)) (k : ℕ) → get_or (drop 1 slots) k [] ≡ get_or slots (suc k) []
past_first [] k = refl
past_first (x ∷ xs) k = refl

-- the block that is kept in a slot
pub kept-at : (setting : Setting) (wants : List (Option Want)) (slots : List (List ℕ)) (k : ℕ) → get_or (kept_in setting wants slots) k None
    ≡ option_map (block_in setting (get_or slots k [])) (get_or wants k None)
kept-at setting [] slots k = refl
kept-at setting (w ∷ ws) slots zero = refl
kept-at setting (w ∷ ws) slots (suc k) = kept-at setting ws (drop 1 slots) k
    ∙ ap (λ bytes. option_map (block_in setting bytes) (get_or ws k None)) (past_first slots k)

module _ (P : Kept → Type 0) (setting : Setting) (wants : List (Option Want)) (slots : List (List ℕ)) where
  -- what holds of each want's block holds of all that is kept
  pub all_kept : ((k : ℕ) (w : Want) → get_or wants k None ≡ Some w → P (block_in setting (get_or slots k []) w)) → (k : ℕ)
      → IfSome (get_or (kept_in setting wants slots) k None) P
  all_kept h k = subst (λ o. IfSome o P) (sym (kept-at setting wants slots k)) (mapped (get_or wants k None) refl)
    where
      mapped : (o : Option Want) → get_or wants k None ≡ o → IfSome (option_map (block_in setting (get_or slots k [])) o) P
      mapped None e = tt
      mapped (Some w) e = h k w e

  -- and of each
  pub kept_one : ((k : ℕ) → IfSome (get_or (kept_in setting wants slots) k None) P) → (k : ℕ) (w : Want) → get_or wants k None ≡ Some w
      → P (block_in setting (get_or slots k []) w)
  kept_one all k w e = subst (λ o. IfSome o P) (kept-at setting wants slots k ∙ ap (option_map (block_in setting (get_or slots k []))) e) (all k)

-- a slot keeps the block of a want that is known to stand in it
pub keeps_in : (setting : Setting) (wants : List (Option Want)) (slots : List (List ℕ)) (k : ℕ) (want : Want) → get_or wants k None ≡ Some want
    → IsSomeAnd (get_or (kept_in setting wants slots) k None) (λ kept. kept.want ≡ want)
keeps_in setting wants slots k want e = subst (λ o. IsSomeAnd o (λ (kept : Kept). kept.want ≡ want))
    (sym (kept-at setting wants slots k ∙ ap (option_map (block_in setting (get_or slots k []))) e)) refl

-- and no other
pub known_in : (setting : Setting) (wants : List (Option Want)) (slots : List (List ℕ)) (k : ℕ) (want : Want)
    → IsSomeAnd (get_or (kept_in setting wants slots) k None) (λ kept. kept.want ≡ want) → get_or wants k None ≡ Some want
known_in setting wants slots k want h = by (get_or wants k None)
    (subst (λ o. IsSomeAnd o (λ (kept : Kept). kept.want ≡ want)) (kept-at setting wants slots k) h)
  where
    by : (o : Option Want) → IsSomeAnd (option_map (block_in setting (get_or slots k [])) o) (λ kept. kept.want ≡ want) → o ≡ Some want
    by None h = absurd h
    by (Some w) h = ap Some h

-- all that is kept is its want's
abbrev pub AllKept : Layout → Option (List (List ℕ)) → Setting → List (Option Want) → Slots → Type 0
AllKept layout held setting wants pool = (k : ℕ) → IfSome (get_or (kept_in setting wants pool.bytes) k None) (IsKept layout held)

-- what is kept still
pub still_kept : (layout : Layout) (held : Option (List (List ℕ))) (setting : Setting) (wants wants' : List (Option Want)) (p p' : Slots)
    → StillKept wants wants' p p' → AllKept layout held setting wants p → AllKept layout held setting wants' p'
still_kept layout held setting wants wants' p p' still all = all_kept (IsKept layout held) setting wants' p'.bytes (λ k w e.
    let was = still k w e in
    subst (λ bytes. IsKept layout held (block_in setting bytes w)) (sym was.1) (kept_one (IsKept layout held) setting wants p.bytes all k w was.0))

-- what still stands after one step and then after another still stands after both
pub still_more : (a b c : List (Option Want)) (p q r : Slots) → StillKept a b p q → StillKept b c q r → StillKept a c p r
still_more a b c p q r h g k w e =
    let then = g k w e in
    let first = h k w then.0 in
    (first.0, then.1 ∙ first.1)

-- where nothing changes all that is known still stands
pub still_none : (wants : List (Option Want)) (p : Slots) → StillKept wants wants p p
still_none wants p k w e = (e, refl)

-- of a slot of which nothing is known nothing is known then
pub still_forgets : (a b : List (Option Want)) (p q : Slots) (k : ℕ) → StillKept a b p q → get_or a k None ≡ None → get_or b k None ≡ None
still_forgets a b p q k still none = by (get_or b k None) refl
  where
    by : (o : Option Want) → get_or b k None ≡ o → o ≡ None
    by None e = refl
    by (Some w) e = let was = still k w e in let never : None ≡ Some w = sym none ∙ was.0 in cc

-- what a list with one more entry has
set_at : (ws : List (Option Want)) (n j : ℕ) (x : Option Want) (w : Want) → get_or (set ws n x) j None ≡ Some w → ((j ≡ n) × (x ≡ Some w))
    ⊎ (get_or ws j None ≡ Some w)
set_at [] n j x w e = inr e
set_at (y ∷ ws) zero zero x w e = inl (refl, e)
set_at (y ∷ ws) zero (suc j) x w e = inr e
set_at (y ∷ ws) (suc n) zero x w e = inr e
set_at (y ∷ ws) (suc n) (suc j) x w e = elim (set_at ws n j x w e) [ inl h ↦ inl (ap suc h.0, h.1) | inr h ↦ inr h ]

-- a want whose block is kept is known as itself
kept_is : (want w : Want) → kept_want want ≡ Some w → want ≡ w
kept_is (Tree addr generation level) w e = cc
kept_is (Block addr) w e = cc
kept_is (Sector addr sum) w e = cc
kept_is (Plain addr) w e = cc

none_is_some : (want : Want) → None ≡ Some want → ⊥
none_is_some want e = cc

-- where nothing is known of a slot, what is known stands in another
pub known_apart : (ws : List (Option Want)) (k j : ℕ) (want : Want) → get_or ws k None ≡ None → get_or ws j None ≡ Some want → j ≢ k
known_apart ws k j want none is same = none_is_some want (sym none ∙ ap (λ n. get_or ws n None) (sym same) ∙ is)

-- what was known and isn't forgotten still stands, where no byte changes
pub still_forgotten : (wants wants' : List (Option Want)) (k : ℕ) (p p' : Slots) → wants' ≡ set wants k None → p'.bytes ≡ p.bytes → StillKept wants wants' p p'
still_forgotten wants wants' k p p' e same j w is = elim (set_at wants k j None w (ap (λ ws. get_or ws j None) (sym e) ∙ is)) [
  | inl here ↦ absurd (none_is_some w here.1)
  | inr there ↦ (there, ap (λ bytes. get_or bytes j []) same)
]

-- a slot that is forgotten
pub forgotten_at : (ws : List (Option Want)) (k : ℕ) → get_or (set ws k None) k None ≡ None
forgotten_at [] k = refl
forgotten_at (w ∷ ws) zero = refl
forgotten_at (w ∷ ws) (suc k) = forgotten_at ws k

-- a slot of which nothing is known is written
pub still_written : (wants : List (Option Want)) (k : ℕ) (p p' : Slots) → get_or wants k None ≡ None → (written : List ℕ)
    × (p' ≡ with_bytes p k written) → StillKept wants wants p p'
still_written wants k p p' none h j w e =
    (e, ap (λ p. bytes_at p j) h.1 ∙ get_or-set_other p.bytes k j h.0 [] (known_apart wants k j w none e))

-- where no byte changes all that is known still stands
pub still_same : (wants : List (Option Want)) (p p' : Slots) → p'.bytes ≡ p.bytes → StillKept wants wants p p'
still_same wants p p' same j w e = (e, ap (λ bytes. get_or bytes j []) same)

-- one more is kept
pub kept_more : (layout : Layout) (held : Option (List (List ℕ))) (setting : Setting) (wants wants' : List (Option Want)) (p : Slots) (slot : ℕ)
    (want : Want) → AllKept layout held setting wants p → wants' ≡ set wants slot (kept_want want)
    → IsKept layout held (block_in setting (bytes_at p slot) want) → AllKept layout held setting wants' p
kept_more layout held setting wants wants' p slot want all e one =
    all_kept (IsKept layout held) setting wants' p.bytes (λ j w is. elim (set_at wants slot j (kept_want want) w (ap (λ ws. get_or ws j None) (sym e) ∙ is)) [
      | inl here ↦ subst (λ k. IsKept layout held (block_in setting (bytes_at p k) w)) (sym here.0)
          (subst (λ w. IsKept layout held (block_in setting (bytes_at p slot) w)) (kept_is want w here.1) one)
      | inr there ↦ kept_one (IsKept layout held) setting wants p.bytes all j w there
    ])

-- nothing is kept where no want is known
pub nothing_kept : (setting : Setting) (wants : List (Option Want)) (slots : List (List ℕ)) → wants ≡ replicate 24 None → kept_in setting wants slots
    ≡ none_kept
nothing_kept setting wants slots e = ap (λ ws. kept_in setting ws slots) e ∙ none_of 24 slots
  where
    -- where no want is known of any slot no slot keeps a block
    none_of : (n : ℕ) (slots : List (List ℕ)) → kept_in setting (replicate n None) slots ≡ replicate n None
    none_of zero slots = refl
    none_of (suc n) slots = ap (λ xs. None ∷ xs) (none_of n (drop 1 slots))

-- where no slot keeps a block anything holds of each that is kept
none_there : (P : Kept → Type 0) (n k : ℕ) → IfSome (get_or (replicate n None) k None) P
none_there P zero k = tt
none_there P (suc n) zero = tt
none_there P (suc n) (suc k) = none_there P n k

-- where each device is open in a slot of its own and each kept block is its want's, the rack serves the store
pub serves_of : (rack : Seen) (store : Blocks) → IsServed rack store → Serves rack store
unfolding Serves
serves_of rack store h = h

-- where a rack serves a store, each device is open in a slot of its own and each kept block is its want's
pub serving : (rack : Seen) (store : Blocks) → Serves rack store → IsServed rack store
unfolding Serves
serving rack store h = h

-- the devices of what is sought are open where the rack serves the store
pub sought_open : (rack : Seen) (store : Blocks) (want : Want) (t : Target) → sought store.layout want ≡ Ok t → Serves rack store
    → AreOpen rack.slots t.devices
sought_open rack store want t seeks serves =
    subst (AreOpen rack.slots) (sym (sought_of store.layout want t seeks).devices_is) (serving rack store serves).are_open

-- a rack begins to serve a store that keeps nothing
pub serves_anew : (rack : Seen) (store : Blocks) → AreOpen rack.slots store.layout.devices → HaveOwnSlots store.layout.devices → store.kept
    ≡ none_kept → Serves rack store
serves_anew rack store are own none = serves_of rack store (record {
  are_open = are;
  own_slots = own;
  kept = λ k. subst (λ ks. IfSome (get_or ks k None) (IsKept store.layout rack.held)) (sym none) (none_there (IsKept store.layout rack.held) 24 k);
})

-- a rack that shows the same slots and images serves a store that keeps the same blocks
pub serves_as : (old new : Seen) (store store' : Blocks) → new.slots ≡ old.slots → new.held ≡ old.held → store'.layout ≡ store.layout → store'.kept
    ≡ store.kept → Serves old store → Serves new store'
serves_as old new store store' slots held layout kept serves =
    let was = serving old store serves in
    serves_of new store' (record {
      are_open = subst (λ s. AreOpen s store'.layout.devices) (sym slots) (subst (λ (l : Layout). AreOpen old.slots l.devices) (sym layout) was.are_open);
      own_slots = subst (λ (l : Layout). HaveOwnSlots l.devices) (sym layout) was.own_slots;
      kept = λ k. subst (λ l. IfSome (kept_at store' k) (IsKept l new.held)) (sym layout)
          (subst (λ h. IfSome (kept_at store' k) (IsKept store.layout h)) (sym held)
          (subst (λ ks. IfSome (get_or ks k None) (IsKept store.layout old.held)) (sym kept) (was.kept k)));
    })

-- a loan was given back
pub serves_given : (rack : Seen) (store : Blocks) (slot : ℕ) → Serves rack store → Serves rack (with_loan store slot None)
serves_given rack store slot serves = serves_as rack rack store (with_loan store slot None) refl refl refl refl serves

module _ (chunks : List Chunk) (devices : List Member) (setting : Setting) (w w' : List (Option Want)) (p p' : Slots) (old new : Seen) (store : Blocks)
    (view : blocks chunks devices setting (loans_of p) (kept_in setting w p.bytes) ≡ store) where
  -- the layout of these chunks, devices and setting
  abbrev layout_is : Layout
  layout_is = record { chunks = chunks; devices = devices; setting = setting }

  -- the rack served the store that these parts show
  was_served : Serves old store → IsServed old (blocks chunks devices setting (loans_of p) (kept_in setting w p.bytes))
  was_served serves = serving old (blocks chunks devices setting (loans_of p) (kept_in setting w p.bytes)) (subst (Serves old) (sym view) serves)

  -- what is known still stands
  pub serves_still : new.slots ≡ old.slots → new.held ≡ old.held → StillKept w w' p p' → Serves old store → (loans : List (Option (List ℕ)))
      → Serves new (blocks chunks devices setting loans (kept_in setting w' p'.bytes))
  serves_still slots held still serves loans =
      let was = was_served serves in
      serves_of new (blocks chunks devices setting loans (kept_in setting w' p'.bytes)) (record {
        are_open = subst (λ s. AreOpen s devices) (sym slots) was.are_open;
        own_slots = was.own_slots;
        kept = still_kept layout_is new.held setting w w' p p' still (subst (λ h. AllKept layout_is h setting w p) (sym held) was.kept);
      })

  -- and one more does
  pub serves_more : new.slots ≡ old.slots → new.held ≡ old.held → StillKept w w' p p' → Serves old store
      → (loans : List (Option (List ℕ))) (w'' : List (Option Want)) (k : ℕ) (want : Want) → w'' ≡ set w' k (kept_want want)
      → IsKept store.layout old.held (block_in setting (bytes_at p' k) want) → Serves new (blocks chunks devices setting loans (kept_in setting w'' p'.bytes))
  serves_more slots held still serves loans w'' k want e one =
      let was = serving new (blocks chunks devices setting loans (kept_in setting w' p'.bytes)) (serves_still slots held still serves loans) in
      let here : IsKept layout_is new.held (block_in setting (bytes_at p' k) want) =
      subst (λ h. IsKept layout_is h (block_in setting (bytes_at p' k) want)) (sym held)
      (subst (λ (s : Blocks). IsKept s.layout old.held (block_in setting (bytes_at p' k) want)) (sym view) one) in
      serves_of new (blocks chunks devices setting loans (kept_in setting w'' p'.bytes)) (record {
        are_open = was.are_open;
        own_slots = was.own_slots;
        kept = kept_more layout_is new.held setting w' w'' p' k want was.kept e here;
      })

  -- a slot whose want is known has its block
  pub kept_there : (k : ℕ) (want : Want) → Serves old store → get_or w k None ≡ Some want → IsKept store.layout old.held (block_in setting (bytes_at p k) want)
  kept_there k want serves known =
      let was = was_served serves in
      subst (λ (s : Blocks). IsKept s.layout old.held (block_in setting (bytes_at p k) want)) view
      (kept_one (IsKept layout_is old.held) setting w p.bytes was.kept k want known)

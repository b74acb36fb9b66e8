-- Which of the blocks that are kept are known to be good nodes.
use Rattle.std.proofs.Common.{◌≡◌, ℕ, zero, suc, Bool, true, false, List, [], ◌∷◌, take, get_or, set, Option, Some, None, IsSome, refl, sym, ap, ◌∙◌}
use Rattle.std.proofs.Common.{subst, inl, inr, arith}
use Rattle.std.proofs.lemmas.Bool.{cases_eq, false≢true}
use Rattle.std.proofs.lemmas.List.{get_or-set_other}
use Rattle.btr_pool.specs.Slots.{Slots}
use Rattle.btr_read.specs.declared.setting.Setting.{Setting}
use Rattle.btr_read.specs.declared.want.Want.{Want}
use Rattle.btr_read.specs.Finding.{SameShape}
use Rattle.btr_read.specs.Store.{AreNodes, IsNode, IsSound, IsStore}
use Rattle.btr_read.specs.Writing.{StillKept, StillNodes}

-- what is still known to be a good node is one
pub still_nodes : (wants wants' : List (Option Want)) (nodes nodes' : List Bool) (p p' : Slots) (size : ℕ) → StillNodes wants nodes wants' nodes' p p'
    → AreNodes wants nodes p.bytes size → AreNodes wants' nodes' p'.bytes size
still_nodes wants wants' nodes nodes' p p' size still are k w is node =
    let was = still k w is node in
    subst (λ bytes. IsNode (take size bytes)) (sym was.2) (are k w was.0 was.1)

-- no more is known of what is still kept
pub nodes_with : (wants wants' : List (Option Want)) (nodes nodes' : List Bool) (p p' : Slots) → StillKept wants wants' p p' → nodes' ≡ nodes
    → StillNodes wants nodes wants' nodes' p p'
nodes_with wants wants' nodes nodes' p p' still e j w is node =
    let was = still j w is in
    (was.0, ap (λ ns. get_or ns j false) (sym e) ∙ node, was.1)

-- a slot that was noted as unknown isn't known to hold a good node
unknown_at : (nodes : List Bool) (k : ℕ) → get_or (set nodes k false) k false ≡ false
unknown_at [] k = refl
unknown_at (n ∷ ns) zero = refl
unknown_at (n ∷ ns) (suc k) = unknown_at ns k

-- nothing is known of what is kept anew
pub nodes_more : (wants then wants' : List (Option Want)) (nodes nodes' : List Bool) (p p' : Slots) (k : ℕ) (x : Option Want)
    → StillKept wants then p p' → wants' ≡ set then k x → nodes' ≡ set nodes k false → StillNodes wants nodes wants' nodes' p p'
nodes_more wants then wants' nodes nodes' p p' k x still one e j w is node =
    let here : get_or (set nodes k false) j false ≡ true = ap (λ ns. get_or ns j false) (sym e) ∙ node in
    elim (cases_eq j k) [
      | inl same ↦ absurd (false≢true (sym (unknown_at nodes k) ∙ ap (λ i. get_or (set nodes k false) i false) (sym same) ∙ here))
      | inr other ↦
          let was = still j w (sym (get_or-set_other then k j x None other) ∙ ap (λ ws. get_or ws j None) (sym one) ∙ is) in
          (was.0, sym (get_or-set_other nodes k j false false other) ∙ here, was.1)
    ]

-- one more is known, which is one
pub nodes_noted : (wants wants' : List (Option Want)) (nodes nodes' : List Bool) (slots : List (List ℕ)) (size k : ℕ)
    → AreNodes wants nodes slots size → wants' ≡ wants → nodes' ≡ set nodes k true → IsNode (take size (get_or slots k [])) → AreNodes wants' nodes' slots size
nodes_noted wants wants' nodes nodes' slots size k are same e one j w is node = elim (cases_eq j k) [
  | inl here ↦ subst (λ i. IsNode (take size (get_or slots i []))) (sym here) one
  | inr other ↦ are j w (ap (λ ws. get_or ws j None) (sym same) ∙ is)
      (sym (get_or-set_other nodes k j true false other) ∙ ap (λ ns. get_or ns j false) (sym e) ∙ node)
]

-- a block that is known to be a good node is one
pub known_node : (wants : List (Option Want)) (nodes : List Bool) (slots : List (List ℕ)) (size k : ℕ) → AreNodes wants nodes slots size
    → IsSome (get_or wants k None) → get_or nodes k false ≡ true → IsNode (take size (get_or slots k []))
known_node wants nodes slots size k are some node = by (get_or wants k None) refl some
  where
    by : (o : Option Want) → get_or wants k None ≡ o → IsSome o → IsNode (take size (get_or slots k []))
    by None e some = absurd (false≢true some)
    by (Some w) e some = are k w e node

-- as many slots as before, and as long
pub store_shaped : (p p' : Slots) (setting : Setting) → SameShape p p' → IsStore p setting → IsStore p' setting
store_shaped p p' setting same is = record {
  size = same.size ∙ is.size;
  large = is.large;
  small = is.small;
  whole = omega (arith, same.count, same.lent, is.whole);
  count = same.count ∙ is.count;
}

-- a store whose slots were written, where nothing more is known of its blocks
pub sound_still : (wants wants' : List (Option Want)) (nodes nodes' : List Bool) (p p' : Slots) (setting : Setting) → IsStore p' setting
    → StillNodes wants nodes wants' nodes' p p' → IsSound p wants nodes setting → IsSound p' wants' nodes' setting
sound_still wants wants' nodes nodes' p p' setting store still is =
    record { store = store; known = still_nodes wants wants' nodes nodes' p p' setting.nodesize still is.known }

-- and so where what is known of its slots still stands
pub sound_kept : (p p' : Slots) (w w' : List (Option Want)) (n n' : List Bool) (setting : Setting) → SameShape p p' → StillKept w w' p p' → n' ≡ n
    → IsSound p w n setting → IsSound p' w' n' setting
sound_kept p p' w w' n n' setting shape still nodes is =
    sound_still w w' n n' p p' setting (store_shaped p p' setting shape is.store) (nodes_with w w' n n' p p' still nodes) is

-- a store is sound after what was found in its slots by a look at what is kept
pub found_sound : (p0 p1 p2 : Slots) (w0 w1 w2 : List (Option Want)) (n0 n1 n2 : List Bool) (setting : Setting) → p1 ≡ p0 → w1 ≡ w0 → n1 ≡ n0
    → SameShape p1 p2 → StillNodes w1 n1 w2 n2 p1 p2 → IsSound p0 w0 n0 setting → IsSound p2 w2 n2 setting
found_sound p0 p1 p2 w0 w1 w2 n0 n1 n2 setting pool wants nodes shape still is =
    let was : IsSound p1 w1 n1 setting =
    subst (λ p. IsSound p w1 n1 setting) (sym pool) (subst (λ w. IsSound p0 w n1 setting) (sym wants)
    (subst (λ n. IsSound p0 w0 n setting) (sym nodes) is)) in
    sound_still w1 w2 n1 n2 p1 p2 setting (store_shaped p1 p2 setting shape was.store) still was

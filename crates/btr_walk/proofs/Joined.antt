-- What a lookup has come to, block by block.
use Rattle.std.proofs.Common.{◌≡◌, ℕ, ◌+◌, ◌-◌, ◌<◌, List, [], length, get_or, drop, Option, Some, None, IsSome, IsSomeAnd, IsTrue, Result, Ok, Err, refl}
use Rattle.std.proofs.Common.{sym, ap, ◌∙◌, subst}
use Rattle.btr_base.specs.declared.key.Key.{Key}
use Rattle.btr_node.specs.Block.{Item, items, pointers, is_leaf}
use Rattle.btr_prog.specs.Calls.{Sure}
use Rattle.btr_prog.specs.Prog.{exec}
use Rattle.btr_prog.specs.Answers.{no_part}
use Rattle.btr_prog.proofs.Follow.{follows_as}
use Rattle.btr_prog.proofs.Successive.{calls_then, calls_as, calls_none}
use Rattle.btr_rack.specs.Rack.{Seen}
use Rattle.btr_read.specs.Fate as fate
use Rattle.btr_read.specs.Layout.{Layout}
use Rattle.btr_read.specs.Reading.{OnMap}
use Rattle.btr_read.specs.Store.{Blocks, Lent, SameLoans, block_of, IsLentBy}
use Rattle.btr_read.specs.declared.want.Want.{Want}
use Rattle.btr_walk.specs.declared.fault.TreeFault.{TreeFault}
use Rattle.btr_walk.specs.declared.place.RootPlace.{RootPlace}
use Rattle.btr_walk.specs.declared.block_pointer.BlockPointer.{BlockPointer}
use Rattle.btr_walk.specs.BlockPointer.{judged}
use Rattle.btr_walk.specs.Le.{tree_item, root_pointer, le, want_of, le_item, le_child, up_of}
use Rattle.btr_walk.specs.Reading.{Map, UnreadBlock, Tells, halt_of, answer_of, Reads, IsGoodFor}
use Rattle.btr_walk.specs.Finding.{LendsItemAt}
use Rattle.btr_walk.specs.Lending.{base}
use Rattle.btr_walk.proofs.Lending.{given_back, same_then}
use Rattle.btr_walk.specs.Reach.{next_key, FindsAndReaches, SameUpTo}
use Rattle.btr_walk.proofs.Fetched.{some_block}
use Rattle.btr_walk.proofs.Reaching.{Carries, carries_down, carries_end, carries_none, carries_nothing}
use Rattle.btr_walk.proofs.Ways.{IsLeafAt, IsInnerAt, leaf_at, inner_at, Way, way_ends, way_down, halts_at, leaf_ends, inner_ends}

-- what follows of two facts on every block map follows of them on that of the images
on_both : (layout : Layout) (P Q R : Map → Type 0) → ((B : Map) → P B → Q B → R B) → (sure : Sure) (h : Option (List (List ℕ)))
    → OnMap layout P sure h → OnMap layout Q sure h → OnMap layout R sure h
on_both layout P Q R f sure None p q = tt
on_both layout P Q R f sure (Some images) p q = f (fate.fate images layout) p q

-- two calls over one layout
pub joined : {layout layout' : Layout} {a b c : Seen} (P Q R : Map → Type 0) → layout' ≡ layout → ((B : Map) → P B → Q B → R B) → Tells layout a b P
    → Tells layout' b c Q → Tells layout a c R
joined {layout} {layout'} {a} {b} {c} P Q R e f one two =
    record { calls = calls_then (λ sure h p q. on_both layout P Q R f sure h p q) one.calls (subst (λ l. Tells l b c Q) e two).calls }

-- the block of a loan
pub block_is : (store : Blocks) (loan : Lent) (block : List ℕ) (P : List ℕ → Type 0) → block_of store loan ≡ Some block
    → IsSomeAnd (block_of store loan) P → P block
block_is store loan block P is h = subst (λ o. IsSomeAnd o P) is h

-- a good block that was lent for level 0 is a leaf at its pointer
pub is_leaf_at : (level : ℕ) (pointer : BlockPointer) (store : Blocks) (loan : Lent) (block : List ℕ) → block_of store loan ≡ Some block
    → IsGoodFor level pointer store loan → level ≡ 0 → IsLeafAt level pointer block
is_leaf_at level pointer store loan block is good e = leaf_at level pointer block (block_is store loan block (λ b. IsSome (judged level pointer b)) is good) e

-- a good block that was lent for a level above 0 is an inner node at its pointer
pub is_inner_at : (level : ℕ) (pointer : BlockPointer) (store : Blocks) (loan : Lent) (block : List ℕ) → block_of store loan ≡ Some block
    → IsGoodFor level pointer store loan → (level ≡ 0 → ⊥) → IsInnerAt level pointer block
is_inner_at level pointer store loan block is good ne =
    inner_at level pointer block (block_is store loan block (λ b. IsSome (judged level pointer b)) is good) ne

module _ (key : Key) (root : RootPlace) (level : ℕ) (pointer : BlockPointer) where
  -- a lookup has come to this block, and greater keys that find the same from here on find the same from the root on
  abbrev pub WayOn : Map → Type 0
  WayOn B = Way B key root.level (root_pointer root) level pointer × Carries B key root level pointer

  -- where the block that is due could not be had, or isn't good, the lookup ends with its fault
  pub stops : (Is : UnreadBlock → Want → Type 0) (store : Blocks) (f : TreeFault) (B : Map) → WayOn B → Reads Is B level pointer store (Err f)
      → FindsAndReaches Is B root key store (Err f)
  stops Is store f B way reads = (
    (
      Err f,
      refl,
      way_ends B key Is root.level level (root_pointer root) pointer (Err (halt_of f)) way.0
          (halts_at B key Is level pointer store f reads),
    ),
    tt,
  )

  module _ (store : Blocks) (loan : Lent) (block : List ℕ) (is : block_of store loan ≡ Some block) where
    -- the block that was lent is the one that its want came to
    came : (Is : UnreadBlock → Want → Type 0) (B : Map) → Reads Is B level pointer store (Ok loan) → B (want_of level pointer) ≡ Ok block
    came Is B reads = block_is store loan block (λ b. B (want_of level pointer) ≡ Ok b) is reads

    -- a leaf with no item at or below the key ends a lookup with none, for all keys up to its first item's, or to its bound
    pub finds_none : (Is : UnreadBlock → Want → Type 0) (after : Blocks) (until : Option Key) → IsLeafAt level pointer block → le_item key (items block) ≡ None
        → until ≡ next_key (items block) pointer.up → (B : Map) → WayOn B → Reads Is B level pointer store (Ok loan)
        → FindsAndReaches Is B root key after (Ok (record { sighted = None; until = until }))
    finds_none Is after until leaf none until_is B way reads = (
      (
        Ok None,
        tt,
        way_ends B key Is root.level level (root_pointer root) pointer (Ok None) way.0
            (leaf_ends B key Is level pointer block None leaf none (came Is B reads)),
      ),
      subst (SameUpTo B root key) (sym until_is) (carries_none B key root level pointer block way.1 leaf none (came Is B reads)),
    )

    same_some : (x y : Item) → Some x ≡ Some y → x ≡ y
    same_some x y e = cc

    -- a leaf ends a lookup with its last item at or below the key, for all keys up to the next item's, or to its bound
    pub finds_some : (Is : UnreadBlock → Want → Type 0) (at : ℕ) (until : Option Key) → IsLeafAt level pointer block → at < length (items block) → until
        ≡ next_key
        (drop (at + 1) (items block)) pointer.up → ((d : Item) → le_item key (items block) ≡ Some (get_or (items block) at d)) → (B : Map) → WayOn B
        → Reads Is B level pointer store (Ok loan) → FindsAndReaches Is B root key store
        (Ok (record { sighted = Some (record { leaf = pointer.addr; at = at; loan = loan }); until = until }))
    finds_some Is at until leaf lt until_is some B way reads =
        let d : Item = record { key = key; offset = 0; size = 0; body = [] } in
        let item : Item = get_or (items block) at d in (
          (
            Ok (Some (tree_item pointer.addr item)),
            some_block store loan block (λ b. (e : Item) → tree_item pointer.addr (get_or (items b) at e) ≡ tree_item pointer.addr item) is
                (λ e. ap (tree_item pointer.addr) (same_some (get_or (items block) at e) item (sym (some e) ∙ some d))),
            way_ends B key Is root.level level (root_pointer root) pointer (Ok (Some (tree_item pointer.addr item))) way.0
                (leaf_ends B key Is level pointer block (Some item) leaf (some d) (came Is B reads)),
          ),
          subst (SameUpTo B root key) (sym until_is) (carries_end B key root level pointer block at way.1 leaf lt some (came Is B reads)),
        )

    -- a node with no child at or below the key ends a lookup with no item, for all keys up to its first child's, or to its bound
    pub finds_nothing : (Is : UnreadBlock → Want → Type 0) (after : Blocks) (until : Option Key) → IsInnerAt level pointer block
        → le_child key (pointers block) pointer.up ≡ None → until ≡ up_of (pointers block) pointer.up → (B : Map) → WayOn B
        → Reads Is B level pointer store (Ok loan) → FindsAndReaches Is B root key after (Ok (record { sighted = None; until = until }))
    finds_nothing Is after until inner none until_is B way reads = (
      (
        Ok None,
        tt,
        way_ends B key Is root.level level (root_pointer root) pointer (Ok None) way.0
            (inner_ends B key Is level pointer block inner none (came Is B reads)),
      ),
      subst (SameUpTo B root key) (sym until_is) (carries_nothing B key root level pointer block way.1 inner none (came Is B reads)),
    )

    -- a node's last child at or below the key is where a lookup goes on
    pub goes_down : (Is : UnreadBlock → Want → Type 0) (child : BlockPointer) → IsInnerAt level pointer block → le_child key (pointers block) pointer.up
        ≡ Some child → (B : Map) → WayOn B → Reads Is B level pointer store (Ok loan) → Way B key root.level (root_pointer root) (level - 1) child
        × Carries B key root (level - 1) child
    goes_down Is child inner some B way reads = (
      way_down B key root.level level (root_pointer root) pointer child block way.0 inner some (came Is B reads),
      carries_down B key root level pointer child block way.1 inner some (came Is B reads),
    )

    -- the loan of the leaf that was read is new, and the leaf has an item at this place
    pub lends_leaf : (old old' : Blocks) (want : Want) (at : ℕ) → SameLoans old old' → IsLentBy old' store want loan → IsLeafAt level pointer block
        → at < length
        (items block) → LendsItemAt old store loan at
    lends_leaf old old' want at e t leaf lt = record {
      others = same_then e (given_back old' store (base store (Some loan)) want loan t refl);
      large = t.large;
      live = t.live;
      good = some_block store loan block (λ b. IsTrue (is_leaf b) × (at < length (items b))) is (leaf.good, lt);
    }

-- what follows of a fact on every block map follows of it on that of the images
on_one : (layout : Layout) (P Q : Map → Type 0) → ((B : Map) → P B → Q B) → (sure : Sure) (h : Option (List (List ℕ))) → OnMap layout P sure h
    → OnMap layout Q sure h
on_one layout P Q f sure None p = tt
on_one layout P Q f sure (Some images) p = f (fate.fate images layout) p

-- what follows of one call
pub drawn : (layout : Layout) {a b : Seen} (P Q : Map → Type 0) → ((B : Map) → P B → Q B) → Tells layout a b P → Tells layout a b Q
drawn layout P Q f one = record { calls = calls_as (λ sure h p. on_one layout P Q f sure h p) one.calls }

-- what holds on each map
pub on_all : (layout : Layout) (Q : Map → Type 0) → ((B : Map) → Q B) → (sure : Sure) (h : Option (List (List ℕ))) → OnMap layout Q sure h
on_all layout Q f sure None = tt
on_all layout Q f sure (Some images) = f (fate.fate images layout)

-- what holds with no call
pub unread_on : (layout : Layout) {a : Seen} (Q : Map → Type 0) → ((B : Map) → Q B) → Tells layout a a Q
unread_on layout {a} Q f = record { calls = calls_none (λ sure. on_all layout Q f sure a.held) }

-- less may be said of a block that could not be read
pub finds_as : (B : Map) (Is Less : UnreadBlock → Want → Type 0) (root : RootPlace) (key : Key) (store : Blocks) (result : Result _ TreeFault)
    → ((u : UnreadBlock) (w : Want) → Is u w → Less u w) → FindsAndReaches Is B root key store result → FindsAndReaches Less B root key store result
finds_as B Is Less root key store result weaker h = (
  (
    h.0.0,
    h.0.1,
    follows_as Is Less weaker no_part [] (exec B (le root key)) [] (answer_of h.0.0)
        h.0.2,
  ),
  h.1,
)

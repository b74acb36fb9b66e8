-- The checked blocks that are met have a position, and are apart.
use Rattle.std.proofs.Common.{◌≡◌, ℕ, zero, suc, ◌+◌, ◌-◌, ◌*◌, ◌/◌, ◌%◌, ◌^◌, ◌<◌, ◌≤◌, Bool, true, false, not, cond, ◌&&◌, eqb, leb, ltb, is_some, List, []}
use Rattle.std.proofs.Common.{◌∷◌, ◌++◌, map, drop, slice_get, Option, Some, None, Result, Ok, Err, refl, sym, ap, ◌∙◌, subst, inl, inr, arith, append-nil}
use Rattle.btr_scrub.proofs.Common.{AreApart, Chunk, Crosses, Emit, Extent, IsTable, Layout, Map, Meeting, Met, Plain, Return, Sector, Sum, Super, TreeItem}
use Rattle.btr_scrub.proofs.Common.{TreeRoot, Want, addr_of, and_parts, bind, blocks_of, crosses, eqb-true, exec, extent_met, facts, filter, in_chunk}
use Rattle.btr_scrub.proofs.Common.{in_chunks, key, kind_in, leb-true, len_of, ltb-false, or_parts, same_Some, sector, sector_met, sectors, steps_of, sum_at}
use Rattle.btr_scrub.proofs.Common.{units_in, wants_among}
use Rattle.std.proofs.lemmas.Bool.{or_cases, not-false}
use Rattle.std.proofs.lemmas.List.{drop-drop}
use Rattle.btr_base.specs.Key.{key_le, key_number}
use Rattle.btr_base.specs.declared.key.Key.{Key}
use Rattle.btr_prog.specs.Prog.{Stop}
use Rattle.btr_read.specs.Fate.{Malformed}
use Rattle.btr_node.specs.Block.{Item, KeyPointer}
use Rattle.btr_node.specs.declared.node.Node.{Node}
use Rattle.btr_node.specs.declared.node.Node.TheVariants.{Leaf, Inner}
use Rattle.btr_walk.specs.Le.{below, tree_item, up_of, root_pointer}
use Rattle.btr_walk.specs.Range.{RangeProg, emit_all, is_within, items_within, meets, over, range, range_at, range_inner, range_leaf}
use Rattle.btr_walk.specs.BlockPointer.{judged}
use Rattle.btr_walk.specs.declared.place.RootPlace.{RootPlace}
use Rattle.btr_walk.specs.declared.block_pointer.BlockPointer.{BlockPointer}
use Rattle.btr_chunk.proofs.Rule.{Facts}
use Rattle.btr_read.specs.declared.want.Want.TheVariants.{Tree}
use Rattle.btr_scrub.specs.Order.{AreBetween}
use Rattle.btr_scrub.specs.Units.{extent_of, if_stated, with_extents, is_crossing, is_extent, is_malformed, item_met, stated_extent}
use Rattle.btr_items.specs.ExtentItem.{extent_item_of}
use Rattle.btr_items.specs.Item.{body_fits, form_of, item_fits}
use Rattle.btr_items.specs.Key.{key_fits}
use Rattle.btr_items.specs.Types.{extent_item, metadata_item}
use Rattle.btr_items.specs.declared.extent_item.ExtentItem.{ExtentItem}
use Rattle.btr_items.specs.declared.fault.ItemFault.{ItemFault}
use Rattle.btr_volume.specs.Tree.{last, tree_of}
use Rattle.btr_scrub.proofs.Gathering.{among-append}
use Rattle.btr_scrub.proofs.Placed.{placed, sector_fits}
use Rattle.btr_scrub.proofs.Ends.{Ends, Holds, Yields, each_ends, ends_as, ends_bind, ends_looks, holds_of}

module _ (lo hi : Key) where
  -- an item isn't before the first key
  abbrev pub Within : TreeItem → Type 0
  Within item = key_le lo item.key ≡ true

  -- the items of a leaf are none before the first key
  yields_all : (addr : ℕ) (items : List Item) (rest : RangeProg) → Yields Within rest → Yields Within (emit_all (items_within lo hi addr items) rest)
  yields_all addr [] rest y = y
  yields_all addr (item ∷ items) rest y = by (is_within lo hi item) refl (yields_all addr items rest y)
    where
      -- so it is with one item more, whether it is in the range or not
      by : (b : Bool) → is_within lo hi item ≡ b → Yields Within (emit_all (items_within lo hi addr items) rest)
          → Yields Within (emit_all (map (tree_item addr) (cond b (item ∷ filter (is_within lo hi) items) (filter (is_within lo hi) items))) rest)
      by true e r = ((and_parts (key_le lo item.key) (key_le item.key hi) e).0, r)
      by false e r = r

  -- so it is with a leaf's
  yields_leaf : (pointer : BlockPointer) (rest : RangeProg) (o : Option Node) → Yields Within rest → Yields Within (range_leaf lo hi pointer rest o)
  yields_leaf pointer rest (Some (Leaf items)) y = yields_all pointer.addr items rest y
  yields_leaf pointer rest o y = tt

  -- with those below pointers
  yields_over : (child : BlockPointer → RangeProg → RangeProg)
      → ((pointer : BlockPointer) (rest : RangeProg) → Yields Within rest → Yields Within (child pointer rest))
      → (pointers : List KeyPointer) (up : Option Key) (rest : RangeProg) → Yields Within rest → Yields Within (over lo hi child pointers up rest)
  yields_over child h [] up rest y = y
  yields_over child h (p ∷ ps) up rest y = by (meets lo hi p.key (up_of ps up)) (yields_over child h ps up rest y)
    where
      -- so it is with one pointer more, whether keys of the range are below it or not
      by : (b : Bool) → Yields Within (over lo hi child ps up rest)
          → Yields Within (cond b (child (below p (up_of ps up)) (over lo hi child ps up rest)) (over lo hi child ps up rest))
      by true r = h (below p (up_of ps up)) (over lo hi child ps up rest) r
      by false r = r

  -- with those below an inner node
  yields_inner : (child : BlockPointer → RangeProg → RangeProg)
      → ((pointer : BlockPointer) (rest : RangeProg) → Yields Within rest → Yields Within (child pointer rest))
      → (pointer : BlockPointer) (rest : RangeProg) (o : Option Node) → Yields Within rest → Yields Within (range_inner lo hi child pointer rest o)
  yields_inner child h pointer rest (Some (Inner pointers)) y = yields_over child h pointers pointer.up rest y
  yields_inner child h pointer rest o y = tt

  -- and with those below any block
  yields_at : (n : ℕ) (pointer : BlockPointer) (rest : RangeProg) → Yields Within rest → Yields Within (range_at lo hi n pointer rest)
  yields_at zero pointer rest y = λ block. yields_leaf pointer rest (judged 0 pointer block) y
  yields_at (suc n) pointer rest y = λ block. yields_inner (range_at lo hi n) (yields_at n) pointer rest (judged (suc n) pointer block) y

  -- a range has no item before its first key
  pub yields_range : (root : RootPlace) → Yields Within (range lo hi root)
  yields_range root = yields_at root.level (root_pointer root) (Return tt) tt

-- ---- blocks one behind another

module _ (layout : Layout) where
  -- blocks behind an address are behind an earlier one
  pub between_from : (a b c : ℕ) (ws : List Want) → a ≤ b → AreBetween layout b c ws → AreBetween layout a c ws
  between_from a b c [] le h = omega (arith, le, h)
  between_from a b c (w ∷ ws) le h = (omega (arith, le, h.0), h.1, h.2)

  -- blocks behind others are between the ends of both
  pub between_more : (a b c : ℕ) (xs ys : List Want) → AreBetween layout a b xs → AreBetween layout b c ys → AreBetween layout a c (xs ++ ys)
  between_more a b c [] ys h g = between_from a b c ys h g
  between_more a b c (x ∷ xs) ys h g = (h.0, h.1, between_more (addr_of x + len_of layout.setting x) b c xs ys h.2 g)

  -- blocks before an address are before a later one
  pub between_to : (a b c : ℕ) (xs : List Want) → AreBetween layout a b xs → b ≤ c → AreBetween layout a c xs
  between_to a b c [] h le = omega (arith, h, le)
  between_to a b c (x ∷ xs) h le = (h.0, h.1, between_to (addr_of x + len_of layout.setting x) b c xs h.2 le)

  -- blocks that are apart behind an address are so behind an earlier one
  pub apart_from : (a b : ℕ) (ws : List Want) → a ≤ b → AreApart layout b ws → AreApart layout a ws
  apart_from a b [] le h = tt
  apart_from a b (w ∷ ws) le h = (omega (arith, le, h.0), h.1, h.2)

  -- blocks behind others are apart with them
  pub apart_more : (a b : ℕ) (xs ys : List Want) → AreBetween layout a b xs → AreApart layout b ys → AreApart layout a (xs ++ ys)
  apart_more a b [] ys h g = apart_from a b ys h g
  apart_more a b (x ∷ xs) ys h g = (h.0, h.1, apart_more (addr_of x + len_of layout.setting x) b xs ys h.2 g)

  -- blocks one behind another are apart
  pub between_apart : (a b : ℕ) (xs : List Want) → AreBetween layout a b xs → AreApart layout a xs
  between_apart a b [] h = tt
  between_apart a b (x ∷ xs) h = (h.0, h.1, between_apart (addr_of x + len_of layout.setting x) b xs h.2)

-- ---- one chunk

module _ (s : Super) (layout : Layout) (table : IsTable layout.chunks) (node : s.nodesize ≡ layout.setting.nodesize) (some : 0 < s.nodesize) (B : Map)
    (sums : Option TreeRoot) (number : ℕ) (chunk : Chunk) (there : slice_get layout.chunks number ≡ Some chunk) where
  -- what a chunk of the table keeps
  f : Facts chunk
  f = facts chunk (table.sound number chunk there).0

  -- some blocks that are met, from an address on
  abbrev Apart : ℕ → List Met → Type 0
  Apart from ys = AreApart layout from (wants_among ys)

  -- blocks that are met lie one behind another between two addresses
  abbrev Between : ℕ → ℕ → List Met → Type 0
  Between from to ys = AreBetween layout from to (wants_among ys)

  -- one sector lies between its ends
  one_sector : (addr : ℕ) → addr % 4096 ≡ 0 → chunk.start ≤ addr → addr + 4096 ≤ chunk.start + chunk.length
      → Ends B (sector s sums addr) (λ ys u. Between addr (addr + 4096) ys) (Apart addr)
  one_sector addr aligned from to =
      ends_looks B (sum_at (kind_in s) sums addr) (λ sum. Emit (sector_met addr sum) (Return tt)) (λ ys u. Between addr (addr + 4096) ys) (Apart addr) tt by
    where
      -- so it is with a checksum and without one
      by : (sum : Option Sum) → Between addr (addr + 4096) (sector_met addr sum ∷ [])
      by None = (
        omega arith,
        placed layout table number chunk there (Plain addr) from (omega (arith, to)) (sector_fits layout table number chunk there addr aligned from to),
        omega arith,
      )
      by (Some sum) = (
        omega arith,
        placed layout table number chunk there (Sector addr sum) from (omega (arith, to)) (sector_fits layout table number chunk there addr aligned from to),
        omega arith,
      )

  -- sectors one behind another lie between their ends
  pub all_sectors : (n addr : ℕ) → addr % 4096 ≡ 0 → chunk.start ≤ addr → addr + n * 4096 ≤ chunk.start + chunk.length
      → Ends B (sectors s sums n addr) (λ ys u. Between addr (addr + n * 4096) ys) (Apart addr)
  all_sectors zero addr aligned from to = omega arith
  all_sectors (suc n) addr aligned from to =
      ends_bind B (sector s sums addr) (λ _. sectors s sums n (addr + 4096)) (λ ys u. Between addr (addr + 4096) ys)
      (λ ys u. Between addr (addr + suc n * 4096) ys) (Apart addr) (one_sector addr aligned from (omega (arith, to)))
      (λ u xs q. ends_as B (sectors s sums n (addr + 4096)) (λ ys v. Between (addr + 4096) (addr + 4096 + n * 4096) ys)
      (λ ys v. Between addr (addr + suc n * 4096) (xs ++ ys)) (Apart (addr + 4096)) (λ ys. Apart addr (xs ++ ys))
      (λ ys v h. subst (AreBetween layout addr (addr + suc n * 4096)) (sym (among-append xs ys))
      (between_more layout addr (addr + 4096) (addr + suc n * 4096) (wants_among xs) (wants_among ys) q
      (between_to layout (addr + 4096) (addr + 4096 + n * 4096) (addr + suc n * 4096) (wants_among ys) h (omega arith))))
      (λ ys h. subst (AreApart layout addr) (sym (among-append xs ys)) (apart_more layout addr (addr + 4096) (wants_among xs) (wants_among ys) q h))
      (all_sectors n (addr + 4096) (omega (arith, aligned)) (omega (arith, from)) (omega (arith, to))))

  -- an extent that keeps the rules
  record IsSound (extent : Extent) : Type 0 where
    aligned : extent.addr % 4096 ≡ 0
    from : chunk.start ≤ extent.addr
    to : extent.addr + extent.len ≤ chunk.start + chunk.length
    node_long : is_some extent.level ≡ true → extent.len ≡ s.nodesize
    uncrossed : is_some extent.level ≡ true → crosses chunk extent.addr extent.len ≡ false

  -- the blocks of an extent lie between its ends
  all_blocks : (extent : Extent) → IsSound extent → (level : Option ℕ) → extent.level ≡ level
      → Ends B (blocks_of s sums extent level) (λ ys u. Between extent.addr (extent.addr + extent.len) ys) (Apart extent.addr)
  all_blocks extent is (Some level) e =
      let long = is.node_long (ap is_some e) in
      let len : extent.len ≡ layout.setting.nodesize = long ∙ node in (
        omega arith,
        placed layout table number chunk there (Tree extent.addr extent.generation level) is.from (omega (arith, is.to, long, some))
            (subst (λ n. crosses chunk extent.addr n ≡ false) len (is.uncrossed (ap is_some e))),
        omega (arith, len),
      )
  all_blocks extent is None e =
      let n = extent.len / 4096 in
      ends_as B (sectors s sums n extent.addr) (λ ys u. Between extent.addr (extent.addr + n * 4096) ys)
      (λ ys u. Between extent.addr (extent.addr + extent.len) ys) (Apart extent.addr) (Apart extent.addr)
      (λ ys u h. between_to layout extent.addr (extent.addr + n * 4096) (extent.addr + extent.len) (wants_among ys) h (omega arith)) (λ ys h. h)
      (all_sectors n extent.addr is.aligned is.from (omega (arith, is.to)))

  -- what holds of the blocks so far, behind an extent that ends at `end`
  pub record SoFar (xs : List Met) (end : ℕ) : Type 0 where
    pub to : ℕ
    pub between : AreBetween layout chunk.start to (wants_among xs)
    pub low : to ≤ chunk.start + (end - chunk.start)
    pub high : to ≤ chunk.start + chunk.length

  -- behind the blocks so far these come, up to where an extent ends
  abbrev Grows : ℕ → List Met → ℕ → Type 0
  Grows end ys end' = (xs : List Met) → SoFar xs end → SoFar (xs ++ ys) end'

  -- behind the blocks so far these are apart with them
  abbrev Far : ℕ → List Met → Type 0
  Far end ys = (xs : List Met) → SoFar xs end → Apart chunk.start (xs ++ ys)

  -- the blocks so far are apart
  so_apart : (xs : List Met) (end : ℕ) → SoFar xs end → Apart chunk.start xs
  so_apart xs end so = between_apart layout chunk.start so.to (wants_among xs) so.between

  -- with no more blocks they are apart still
  none_more : (end : ℕ) → Far end []
  none_more end xs so = subst (Apart chunk.start) (sym (append-nil xs)) (so_apart xs end so)

  -- an extent that keeps the rules, behind the one before
  module _ (end : ℕ) (extent : Extent) (is : IsSound extent) (le : end ≤ extent.addr) where
    -- what is met of the extent
    abbrev blocks : Meeting (Unit {0})
    blocks = blocks_of s sums extent extent.level

    -- blocks that are apart from the extent on are apart with those before
    far : (ys : List Met) → Apart extent.addr ys → Far end ys
    far ys h xs so = subst (AreApart layout chunk.start) (sym (among-append xs ys)) (apart_more layout chunk.start so.to (wants_among xs) (wants_among ys)
        so.between (apart_from layout so.to extent.addr (wants_among ys) (omega (arith, so.low, is.from, le)) h))

    -- blocks between the ends of the extent come behind those before
    grows : (ys : List Met) → Between extent.addr (extent.addr + extent.len) ys → Grows end ys (extent.addr + extent.len)
    grows ys q xs so = record {
      to = extent.addr + extent.len;
      between = subst (AreBetween layout chunk.start (extent.addr + extent.len)) (sym (among-append xs ys))
          (between_more layout chunk.start so.to (extent.addr + extent.len) (wants_among xs) (wants_among ys) so.between
          (between_from layout so.to extent.addr (extent.addr + extent.len) (wants_among ys) (omega (arith, so.low, is.from, le)) q));
      low = omega (arith, is.from);
      high = is.to;
    }

    -- all that is met of the extent comes behind those before, or is apart with them at a fault
    done : Ends B (bind blocks (λ _. Return (extent.addr + extent.len))) (Grows end) (Far end)
    done =
        ends_bind B blocks (λ _. Return (extent.addr + extent.len)) (λ ys u. Between extent.addr (extent.addr + extent.len) ys) (Grows end) (Far end)
        (ends_as B blocks (λ ys u. Between extent.addr (extent.addr + extent.len) ys) (λ ys u. Between extent.addr (extent.addr + extent.len) ys)
        (Apart extent.addr) (Far end) (λ ys u q. q) far (all_blocks extent is extent.level refl))
        (λ u ys q xs so. subst (λ zs. SoFar (xs ++ zs) (extent.addr + extent.len)) (sym (append-nil ys)) (grows ys q xs so))

  -- an extent that is met begins behind those before, and ends in the chunk
  met_extent : (end leaf : ℕ) (extent : Extent) → (is_malformed s end extent ≡ false → is_crossing chunk extent ≡ false → IsSound extent
      × (end ≤ extent.addr)) → Ends B (extent_met s sums chunk end leaf (Some extent)) (Grows end) (Far end)
  met_extent end leaf extent h = by (is_malformed s end extent) refl
    where
      -- an extent that isn't malformed is met, or it crosses and ends all
      or : (c : Bool) → is_malformed s end extent ≡ false → is_crossing chunk extent ≡ c
          → Ends B (cond c (Stop (Crosses extent.addr)) (bind (blocks_of s sums extent extent.level) (λ _. Return (extent.addr + extent.len))))
          (Grows end) (Far end)
      or true m e = none_more end
      or false m e = let k = h m e in done end extent k.0 k.1

      -- a malformed extent ends all
      by : (b : Bool) → is_malformed s end extent ≡ b
          → Ends B (cond b (Stop (Malformed leaf)) (cond (is_crossing chunk extent) (Stop (Crosses extent.addr))
          (bind (blocks_of s sums extent extent.level) (λ _. Return (extent.addr + extent.len))))) (Grows end) (Far end)
      by true e = none_more end
      by false e = or (is_crossing chunk extent) e refl

  -- ---- the extent of an item

  -- a key with this kind keeps these rules
  key_of : (kind : ℕ) (key : Key) → key.kind ≡ kind → key ≡ record { objectid = key.objectid; kind = kind; offset = key.offset }
  key_of kind key e = ap (λ k. record { objectid = key.objectid; kind = k; offset = key.offset }) e

  -- an item that isn't before a chunk's first key has an objectid that isn't before the chunk
  in_order : (k : Key) → key_le (key chunk.start 0 0) k ≡ true → k.kind < 256 → k.offset < 2 ^ 64 → chunk.start ≤ k.objectid
  in_order k e small few = let le = leb-true (key_number (key chunk.start 0 0)) (key_number k) e in omega (arith, le, small, few)

  -- whatever an extent's item states
  extent_is : (item : TreeItem) (extent : Extent) (end : ℕ) → key_le (key chunk.start 0 0) item.key ≡ true → is_extent item.key ≡ true
      → extent_of s item ≡ Some extent → is_malformed s end extent ≡ false → is_crossing chunk extent ≡ false → IsSound extent × (end ≤ extent.addr)
  extent_is item extent end lo is e fine uncrossed = by_fits (item_fits (kind_in s) item.key item.body) refl e
    where
      -- it doesn't begin before the end of the last extent, and as a tree block it has a node's size
      parts : (ltb extent.addr end ≡ false) × ((is_some extent.level && not (eqb extent.len s.nodesize)) ≡ false)
      parts = or_parts (ltb extent.addr end) (is_some extent.level && not (eqb extent.len s.nodesize)) fine

      -- it doesn't end behind the chunk, and as a tree block it crosses no end of an element
      crossings : (ltb (chunk.start + chunk.length) (extent.addr + extent.len) ≡ false)
          × ((is_some extent.level && crosses chunk extent.addr extent.len) ≡ false)
      crossings = or_parts (ltb (chunk.start + chunk.length) (extent.addr + extent.len))
          (is_some extent.level && crosses chunk extent.addr extent.len) uncrossed

      -- it ends in the chunk
      ends : extent.addr + extent.len ≤ chunk.start + chunk.length
      ends = ltb-false (chunk.start + chunk.length) (extent.addr + extent.len) crossings.0

      -- where its address is aligned and not before the chunk, it keeps the rules
      sound_at : extent.addr % 4096 ≡ 0 → chunk.start ≤ extent.addr → IsSound extent × (end ≤ extent.addr)
      sound_at aligned from = (
        record {
          aligned = aligned;
          from = from;
          to = ends;
          node_long = λ l. eqb-true extent.len s.nodesize (not-false (eqb extent.len s.nodesize) (rw l at parts.1));
          uncrossed = λ l. rw l at crossings.1;
        },
        ltb-false extent.addr end parts.0,
      )

      -- so it is where it lies at the item's address
      sound_by : item.key.objectid ≡ extent.addr → item.key.objectid % 4096 ≡ 0 → item.key.kind < 256 → item.key.offset < 2 ^ 64
          → IsSound extent × (end ≤ extent.addr)
      sound_by addr aligned small few =
          let from = in_order item.key lo small few in sound_at (ap (λ n. n % 4096) (sym addr) ∙ aligned) (omega (arith, from, addr))

      -- an extent that an item states keeps the rules, where the item's key does
      by_read : (r : Result ExtentItem ItemFault) → if_stated s.nodesize item.key r ≡ Some extent → key_fits item.key ≡ true → IsSound extent
          × (end ≤ extent.addr)
      by_read (Err x) e fit = cc
      by_read (Ok x) e fit =
          let same : stated_extent s.nodesize item.key x ≡ extent = same_Some (stated_extent s.nodesize item.key x) extent e in
          elim (or_cases (eqb item.key.kind extent_item) (eqb item.key.kind metadata_item) is) [
            | inl plain_one ↦
                let k = eqb-true item.key.kind 168 plain_one in
                let as_key = key_of 168 item.key k in
                let stated : record { addr = item.key.objectid; len = item.key.offset; generation = x.generation; level = x.level } ≡ extent = ap
                (λ (q : Key). stated_extent s.nodesize q x) (sym as_key) ∙ same in
                let both = and_parts (eqb (item.key.objectid % 4096) 0) (eqb (item.key.offset % 4096) 0) (ap key_fits (sym as_key) ∙ fit) in
                sound_by (ap (λ (q : Extent). q.addr) stated) (eqb-true (item.key.objectid % 4096) 0 both.0) (omega (arith, k))
                (omega (arith, ends, ap (λ (q : Extent). q.len) stated, ap (λ (q : Extent). q.addr) stated, f.in_range))
            | inr tree ↦
                let k = eqb-true item.key.kind 169 tree in
                let as_key = key_of 169 item.key k in
                let stated : record { addr = item.key.objectid; len = s.nodesize; generation = x.generation; level = Some item.key.offset } ≡ extent = ap
                (λ (q : Key). stated_extent s.nodesize q x) (sym as_key) ∙ same in
                let both = and_parts (eqb (item.key.objectid % 4096) 0) (leb item.key.offset 7) (ap key_fits (sym as_key) ∙ fit) in
                sound_by (ap (λ (q : Extent). q.addr) stated) (eqb-true (item.key.objectid % 4096) 0 both.0) (omega (arith, k))
                (omega (arith, leb-true item.key.offset 7 both.1))
          ]

      -- so it is where the item fits its form
      by_fits : (b : Bool) → item_fits (kind_in s) item.key item.body ≡ b
          → cond b (if_stated s.nodesize item.key (extent_item_of item.key.kind item.body)) None ≡ Some extent → IsSound extent × (end ≤ extent.addr)
      by_fits false q e = cc
      by_fits true q e = by_read (extent_item_of item.key.kind item.body) e
          (and_parts (key_fits item.key) (body_fits (form_of item.key.kind) (kind_in s) item.key item.body) q).0

  -- so it is with an item
  one_item : (end : ℕ) (item : TreeItem) → key_le (key chunk.start 0 0) item.key ≡ true → Ends B (item_met s sums chunk end item) (Grows end) (Far end)
  one_item end item lo = by (is_extent item.key) refl
    where
      -- an extent item's blocks come behind those before, or it ends all
      met : is_extent item.key ≡ true → (o : Option Extent) → extent_of s item ≡ o → Ends B (extent_met s sums chunk end item.leaf o) (Grows end) (Far end)
      met is None e = none_more end
      met is (Some extent) e = met_extent end item.leaf extent (λ fine uncrossed. extent_is item extent end lo is e fine uncrossed)

      -- so it is with any item: one that is no extent adds nothing
      by : (b : Bool) → is_extent item.key ≡ b → Ends B (cond b (extent_met s sums chunk end item.leaf (extent_of s item)) (Return end)) (Grows end) (Far end)
      by true is = met is (extent_of s item) refl
      by false is = λ xs so. subst (λ zs. SoFar zs end) (sym (append-nil xs)) so

  -- no block was met before the first item
  first : SoFar [] 0
  first = record { to = chunk.start; between = omega arith; low = omega arith; high = omega arith }

  -- the blocks of the chunk lie in it, one behind another
  pub chunk_ends : (extents : TreeRoot)
      → Ends B (in_chunk s sums chunk extents) (λ ys u. Between chunk.start (chunk.start + chunk.length) ys) (Apart chunk.start)
  chunk_ends extents =
      let lo = key chunk.start 0 0 in
      let hi = key (chunk.start + chunk.length - 1) 255 last in
      ends_as B (in_chunk s sums chunk extents) (Grows 0) (λ ys u. Between chunk.start (chunk.start + chunk.length) ys) (Far 0) (Apart chunk.start)
      (λ ys end all. let so = all [] first in between_to layout chunk.start so.to (chunk.start + chunk.length) (wants_among ys) so.between so.high)
      (λ ys far. far [] first)
      (each_ends B (item_met s sums chunk) (Within lo hi) SoFar (Apart chunk.start) so_apart one_item (range lo hi extents.place)
      (yields_range lo hi extents.place) 0)

  -- those that were met by reads that came to the end
  pub chunk_lies : (extents : TreeRoot) (ms : List Met) (end : ℕ)
      → (ms ≡ steps_of (exec B (in_chunk s sums chunk extents)).marks) × ((exec B (in_chunk s sums chunk extents)).ending ≡ Ok end)
      → Between chunk.start (chunk.start + chunk.length) ms
  chunk_lies extents ms end f =
      let run = exec B (in_chunk s sums chunk extents) in
      subst (Between chunk.start (chunk.start + chunk.length)) (sym f.0)
      (subst (Holds (λ ys u. Between chunk.start (chunk.start + chunk.length) ys) (Apart chunk.start) (steps_of run.marks)) f.1 (chunk_ends extents))

-- ---- all chunks

-- what is left of a list begins at a number
head_at : (xs : List Chunk) (i : ℕ) (x : Chunk) (ys : List Chunk) → drop i xs ≡ x ∷ ys → slice_get xs i ≡ Some x
head_at [] zero x ys e = cc
head_at [] (suc i) x ys e = cc
head_at (y ∷ xs) zero x ys e = cc
head_at (y ∷ xs) (suc i) x ys e = head_at xs i x ys e

-- and goes on behind it
tail_at : (xs : List Chunk) (i : ℕ) (x : Chunk) (ys : List Chunk) → drop i xs ≡ x ∷ ys → drop (i + 1) xs ≡ ys
tail_at xs i x ys e = sym (drop-drop 1 i xs) ∙ ap (drop 1) e

-- the chunks from one on, in the order of the table
module _ (s : Super) (layout : Layout) (table : IsTable layout.chunks) (node : s.nodesize ≡ layout.setting.nodesize) (some : 0 < s.nodesize) (B : Map) where
  -- blocks that are met have a position and are apart, from an address on
  abbrev ApartFrom : ℕ → List Met → Type 0
  ApartFrom from ys = AreApart layout from (wants_among ys)

  -- the blocks of chunks one behind another are apart
  chunks_end : (sums : Option TreeRoot) (extents : TreeRoot) (chunks : List Chunk) (i from : ℕ) → drop i layout.chunks ≡ chunks
      → ((j : ℕ) (c : Chunk) → i ≤ j → slice_get layout.chunks j ≡ Some c → from ≤ c.start)
      → Ends B (in_chunks s sums extents chunks) (λ ys u. ApartFrom from ys) (ApartFrom from)
  chunks_end sums extents [] i from e behind = tt
  chunks_end sums extents (chunk ∷ chunks) i from e behind =
      let there = head_at layout.chunks i chunk chunks e in
      let end = chunk.start + chunk.length in
      let low = behind i chunk (omega arith) there in
      let more = λ (xs : List Met) (q : AreBetween layout chunk.start end (wants_among xs)) (ys : List Met) (h : ApartFrom end ys).
      subst (AreApart layout from) (sym (among-append xs ys)) (apart_from layout from chunk.start (wants_among xs ++ wants_among ys) low
      (apart_more layout chunk.start end (wants_among xs) (wants_among ys) q h)) in
      ends_bind B (in_chunk s sums chunk extents) (λ _. in_chunks s sums extents chunks) (λ ys u. AreBetween layout chunk.start end (wants_among ys))
      (λ ys u. ApartFrom from ys) (ApartFrom from)
      (ends_as B (in_chunk s sums chunk extents) (λ ys u. AreBetween layout chunk.start end (wants_among ys))
      (λ ys u. AreBetween layout chunk.start end (wants_among ys)) (ApartFrom chunk.start) (ApartFrom from) (λ ys u q. q)
      (λ ys h. apart_from layout from chunk.start (wants_among ys) low h) (chunk_ends s layout table node some B sums i chunk there extents))
      (λ _ xs q. ends_as B (in_chunks s sums extents chunks) (λ ys u. ApartFrom end ys) (λ ys u. ApartFrom from (xs ++ ys)) (ApartFrom end)
      (λ ys. ApartFrom from (xs ++ ys)) (λ ys u. more xs q ys) (more xs q)
      (chunks_end sums extents chunks (i + 1) end (tail_at layout.chunks i chunk chunks e)
      (λ j c le at. (table.apart i j chunk c (omega (arith, le)) there at).0)))

  -- so are those of all chunks, where there is an extent tree
  with_extents_end : (o : Option TreeRoot) → Ends B (with_extents s layout.chunks o) (λ ys u. ApartFrom 0 ys) (ApartFrom 0)
  with_extents_end None = tt
  with_extents_end (Some extents) =
      ends_looks B (tree_of s 7) (λ sums. in_chunks s sums extents layout.chunks) (λ ys u. ApartFrom 0 ys) (ApartFrom 0) tt
      (λ sums. chunks_end sums extents layout.chunks 0 0 refl (λ j c le at. omega arith))

  -- the checked blocks that are met, however that ends, have a position and are apart
  pub units_apart : ApartFrom 0 (steps_of (exec B (units_in s layout.chunks)).marks)
  units_apart =
      holds_of (ApartFrom 0) (steps_of (exec B (units_in s layout.chunks)).marks) (exec B (units_in s layout.chunks)).ending
      (ends_looks B (tree_of s 2) (with_extents s layout.chunks) (λ ys u. ApartFrom 0 ys) (ApartFrom 0) tt with_extents_end)

-- Restore only shows the bytes of sectors without a checksum: the parts that it is made of.
use Rattle.std.proofs.Common.{◌≡◌, ℕ, zero, suc, ◌+◌, ◌-◌, Bool, true, false, cond, not, List, [], ◌∷◌, ◌++◌, Option, Some, None, Result, Ok, Err, refl, subst}
use Rattle.std.specs.Prelude.{nat_eq, nat_le, take}
use Rattle.btr_base.specs.declared.key.Key.{Key}
use Rattle.btr_base.specs.declared.kind.SumKind.{SumKind}
use Rattle.btr_items.specs.declared.fault.ItemFault.{ItemFault}
use Rattle.btr_items.specs.declared.shape.Shape.{Shape}
use Rattle.btr_items.specs.declared.shape.Shape.TheVariants.{Inline, Regular, Prealloc}
use Rattle.btr_node.specs.Block.{KeyPointer}
use Rattle.btr_node.specs.declared.node.Node.{Node}
use Rattle.btr_node.specs.declared.node.Node.TheVariants.{Leaf, Inner}
use Rattle.btr_prog.specs.Prog.{Return, Need, Emit, bind}
use Rattle.btr_prog.specs.Thread.{thread}
use Rattle.btr_read.specs.declared.want.Want.TheVariants.{Plain}
use Rattle.btr_super.specs.declared.superblock.Super.{Super}
use Rattle.btr_walk.specs.declared.place.RootPlace.{RootPlace}
use Rattle.btr_walk.specs.declared.block_pointer.BlockPointer.{BlockPointer}
use Rattle.btr_walk.specs.Le.{TreeItem, want_of, root_pointer, below, up_of, le_child, le_leaf, go_down, le_inner, le_at, le}
use Rattle.btr_prog.specs.Quiet.{quiet}
use Rattle.btr_walk.specs.Folds.{Next, Go, End, Broken, next_prog, folded}
use Rattle.btr_walk.specs.Range.{RangeProg, meets, emit_all, items_within, over, range_leaf, range_inner, range_at, range}
use Rattle.btr_walk.specs.BlockPointer.{judged}
use Rattle.btr_volume.specs.declared.root.TreeRoot.{TreeRoot}
use Rattle.btr_volume.specs.Lookup.{Program, Lookup, looks, formed, each}
use Rattle.btr_volume.specs.Start.{Start}
use Rattle.btr_volume.specs.Table.{table_scan, table_step, whole_table, first_key, chunk_root}
use Rattle.btr_volume.specs.Tree.{key, last, root_root, named_root, described, is_root_of, root_found, tree_of}
use Rattle.btr_base.specs.Key.{last_key}
use Rattle.btr_files.specs.declared.clearness.Survey.{Survey}
use Rattle.btr_files.specs.declared.clearness.Survey.TheVariants.{Clear, Compressed, Encoded}
use Rattle.btr_read.specs.Fate.{is_plain}
use Rattle.btr_files.specs.Content.{Piece, Bytes, Gap, want_by, gap, sector_want, sectors, sector_count, on_at, shaped, if_clear, piece, pieces, content}
use Rattle.btr_files.specs.Entries.{entries, entry_of}
use Rattle.btr_files.specs.Extents.{Extent, extent, extents, in_order, survey}
use Rattle.btr_files.specs.Extents as extents
use Rattle.btr_items.specs.FileExtent.{end_of}
use Rattle.btr_files.specs.Names.{Link, Mount, inode_in, links, links_of, is_link, linked, mounts, mount_of, is_mount, mounted}
use Rattle.btr_items.specs.RootItem.{root_item_of}
use Rattle.btr_items.specs.RootRef.{root_ref_of}
use Rattle.btr_items.specs.Inode.{inode_of}
use Rattle.btr_items.specs.Entry.{index_entry_of}
use Rattle.btr_items.specs.FileExtent.{file_extent_of}
use Rattle.btr_items.specs.SumRun.{sum_run_of}
use Rattle.btr_items.specs.Types.{root_item, inode_item, inode_ref, inode_extref, root_backref, dir_index, extent_data, extent_csum}
use Rattle.btr_files.specs.Sums.{sum_at, sum_found, is_sums, sum_in, sums_objectid}
use Rattle.btr_prog.specs.Shows.{AreAlike, OnlyShows}
use Rattle.btr_prog.proofs.Showing.{alike_refl, shows_bind, shows_thread, shows_quiet}

-- the same step, and any two
abbrev pub same : {S : Type 0} → S → S → Type 0
same s t = s ≡ t

-- any two steps
abbrev pub always : {S : Type 0} → S → S → Type 0
always s t = Unit {0}

not_true : false ≡ true → ⊥
not_true e = absurd (cc)

module _ {S A : Type 0} (R : S → S → Type 0) where
  -- a program that only shows the bytes of sectors without a checksum
  abbrev pub Shows : Program S A → Type 0
  Shows p = OnlyShows R is_plain p

  -- either of two programs only shows such bytes, where each does
  pub if_shows : (b : Bool) (p q : Program S A) → Shows p → Shows q → Shows (cond b p q)
  if_shows true p q h g = h
  if_shows false p q h g = g

  -- a block of a tree is wanted with a test, so what is shown may hang on its bytes
  block_shows : (level : ℕ) (pointer : BlockPointer) (k : List ℕ → Program S A) → ((b : List ℕ) → Shows (k b)) → Shows (Need (want_of level pointer) k)
  block_shows level pointer k h = (h, λ t b c. absurd (not_true t))

  -- an item by its form only shows such bytes, where what follows does
  pub formed_shows : {X : Type 0} (item : TreeItem) (r : Result X ItemFault) (k : X → Program S A) → ((x : X) → Shows (k x)) → Shows (formed item r k)
  formed_shows item (Ok x) k h = h x
  formed_shows item (Err f) k h = tt

-- a range of a tree
module _ (lo hi : Key) where
  abbrev Ranges : RangeProg → Type 0
  Ranges p = Shows same p

  -- items that are given before the rest of a range hang on no such bytes
  emits_show : (items : List TreeItem) (rest : RangeProg) → Ranges rest → Ranges (emit_all items rest)
  emits_show [] rest h = h
  emits_show (item ∷ items) rest h = emits_show items rest h

  -- the items of a leaf in a range hang on no such bytes
  leaf_shows : (pointer : BlockPointer) (rest : RangeProg) (o : Option Node) → Ranges rest → Ranges (range_leaf lo hi pointer rest o)
  leaf_shows pointer rest None h = tt
  leaf_shows pointer rest (Some (Leaf items)) h = emits_show (items_within lo hi pointer.addr items) rest h
  leaf_shows pointer rest (Some (Inner pointers)) h = tt

  -- the children of a node in a range hang on no such bytes
  over_shows : (child : BlockPointer → RangeProg → RangeProg) → ((pointer : BlockPointer) (rest : RangeProg) → Ranges rest → Ranges (child pointer rest))
      → (pointers : List KeyPointer) (up : Option Key) (rest : RangeProg) → Ranges rest → Ranges (over lo hi child pointers up rest)
  over_shows child h [] up rest g = g
  over_shows child h (key_pointer ∷ pointers) up rest g =
      if_shows same (meets lo hi key_pointer.key (up_of pointers up)) (child (below key_pointer (up_of pointers up)) (over lo hi child pointers up rest))
      (over lo hi child pointers up rest)
      (h (below key_pointer (up_of pointers up)) (over lo hi child pointers up rest) (over_shows child h pointers up rest g))
      (over_shows child h pointers up rest g)

  -- an inner node of a range hangs on no such bytes
  inner_shows : (child : BlockPointer → RangeProg → RangeProg) → ((pointer : BlockPointer) (rest : RangeProg) → Ranges rest → Ranges (child pointer rest))
      → (pointer : BlockPointer) (rest : RangeProg) (o : Option Node) → Ranges rest → Ranges (range_inner lo hi child pointer rest o)
  inner_shows child h pointer rest None g = tt
  inner_shows child h pointer rest (Some (Leaf items)) g = tt
  inner_shows child h pointer rest (Some (Inner pointers)) g = over_shows child h pointers pointer.up rest g

  -- the part of a range below a pointer hangs on no such bytes
  at_shows : (n : ℕ) (pointer : BlockPointer) (rest : RangeProg) → Ranges rest → Ranges (range_at lo hi n pointer rest)
  at_shows zero pointer rest h = block_shows same 0 pointer (λ block. range_leaf lo hi pointer rest (judged 0 pointer block))
      (λ block. leaf_shows pointer rest (judged 0 pointer block) h)
  at_shows (suc n) pointer rest h = block_shows same (suc n) pointer (λ block. range_inner lo hi (range_at lo hi n) pointer rest (judged (suc n) pointer block))
      (λ block. inner_shows (range_at lo hi n) (at_shows n) pointer rest (judged (suc n) pointer block) h)

  -- a range of a tree hangs on the bytes of no sector without a checksum
  pub range_shows : (root : RootPlace) → Ranges (range lo hi root)
  range_shows root = at_shows root.level (root_pointer root) (Return tt) tt

-- the greatest item at or below a key
module _ (key : Key) where
  abbrev Finds : Lookup (Option TreeItem) → Type 0
  Finds p = Shows same p

  -- a lookup in a leaf hangs on no such bytes
  le_leaf_shows : (pointer : BlockPointer) (o : Option Node) → Finds (le_leaf key pointer o)
  le_leaf_shows pointer None = tt
  le_leaf_shows pointer (Some (Leaf items)) = tt
  le_leaf_shows pointer (Some (Inner pointers)) = tt

  -- a lookup's way down to a child, if there is one, hangs on no such bytes
  down_shows : (k : BlockPointer → Lookup (Option TreeItem)) → ((pointer : BlockPointer) → Finds (k pointer)) → (o : Option BlockPointer) → Finds (go_down k o)
  down_shows k h None = tt
  down_shows k h (Some pointer) = h pointer

  -- a lookup's way down from an inner node hangs on no such bytes
  le_inner_shows : (k : BlockPointer → Lookup (Option TreeItem)) → ((pointer : BlockPointer) → Finds (k pointer)) → (pointer : BlockPointer) (o : Option Node)
      → Finds (le_inner k key pointer o)
  le_inner_shows k h pointer None = tt
  le_inner_shows k h pointer (Some (Leaf items)) = tt
  le_inner_shows k h pointer (Some (Inner pointers)) = down_shows k h (le_child key pointers pointer.up)

  -- a lookup's way down from a pointer hangs on no such bytes
  le_at_shows : (n : ℕ) (pointer : BlockPointer) → Finds (le_at n key pointer)
  le_at_shows zero pointer =
      block_shows same 0 pointer (λ block. le_leaf key pointer (judged 0 pointer block)) (λ block. le_leaf_shows pointer (judged 0 pointer block))
  le_at_shows (suc n) pointer = block_shows same (suc n) pointer (λ block. le_inner (le_at n key) key pointer (judged (suc n) pointer block))
      (λ block. le_inner_shows (le_at n key) (le_at_shows n) pointer (judged (suc n) pointer block))

  -- the lookup of the greatest item at or below a key hangs on no such bytes
  pub le_shows : (root : RootPlace) → Finds (le root key)
  le_shows root = le_at_shows root.level (root_pointer root)

-- lookups one after another, and a lookup before a program
pub then_shows : {A C : Type 0} (p : Lookup A) (k : A → Lookup C) → Shows same p → ((a : A) → Shows same (k a)) → Shows same (bind p k)
then_shows p k h g = shows_bind same (λ s. refl) is_plain p k h g

-- a lookup that hangs on no such bytes, before a program that only shows them, leaves it one
pub looks_shows : {S A C : Type 0} (R : S → S → Type 0) (all : (s : S) → R s s) (p : Lookup A) (k : A → Program S C) → Shows same p
    → ((a : A) → Shows R (k a)) → Shows R (looks p k)
looks_shows R all p k h g = shows_bind R all is_plain (quiet p) k (shows_quiet same R is_plain p h) g

module _ {S T : Type 0} (R : S → S → Type 0) (all : (s : S) → R s s) where
  -- treating the steps of a program that wants only what is tested
  pub thread_shows : {A St X : Type 0} (body : St → T → Program S (Result St X)) (done : St → A → X) (st : St) (p : Program T A)
      → ((a : St) (t : T) → Shows R (body a t)) → Shows same p → Shows R (thread body done st p)
  thread_shows body done st p h e = shows_thread same R all body done is_plain h
      (λ a t u q. subst (λ x. AreAlike R (body a t) (body a x)) q (alike_refl R all (body a t))) st p e

  -- a program that hangs on no such bytes, with each step treated by one that only shows them, only shows them
  pub each_shows : {A : Type 0} (treat : A → T → Program S A) (st : A) (p : Program T (Unit {0})) → ((a : A) (t : T) → Shows R (treat a t))
      → Shows same p → Shows R (each treat st p)
  each_shows treat st p h e = thread_shows (λ a t. bind (treat a t) (λ b. Return (Ok b))) (λ a u. a) st p
      (λ a t. shows_bind R all is_plain (treat a t) (λ b. Return (Ok b)) (h a t) (λ b. tt)) e

-- what is made of the items of a range
next_shows : {St R : Type 0} (leaf : ℕ) (n : Next St R) → Shows same (next_prog leaf n)
next_shows leaf (Go st) = tt
next_shows leaf (End r) = tt
next_shows leaf Broken = tt

-- a fold of a tree's items hangs on no such bytes
pub folded_shows : {St R : Type 0} (step : St → TreeItem → Next St R) (answer : St → R) (state : St) (root : RootPlace) (lo hi : Key)
    → Shows same (folded step answer state root lo hi)
folded_shows step answer state root lo hi =
    thread_shows same (λ s. refl) (λ st item. next_prog item.leaf (step st item)) (λ st u. answer st) state (range lo hi root)
    (λ st item. next_shows item.leaf (step st item)) (range_shows lo hi root)

-- the chunk tree and the roots
pub scan_shows : (start : Start) → Shows same (table_scan start)
scan_shows start = folded_shows table_step whole_table start.array (chunk_root start.sup) first_key last_key

-- what is made of the item of a root hangs on no such bytes
found_shows : (id : ℕ) (o : Option TreeItem) → Shows same (root_found id o)
found_shows id None = tt
found_shows id (Some item) =
    if_shows same (is_root_of id item.key) _ (Return None) (formed_shows same item (root_item_of item.body)
    (λ root. Return (Some (described item.key root))) (λ root. tt)) tt

-- the lookup of a tree's root hangs on no such bytes
pub tree_shows : (s : Super) (id : ℕ) → Shows same (tree_of s id)
tree_shows s id =
    let deeper = then_shows (le (root_root s) (key id root_item last)) (root_found id) (le_shows (key id root_item last) (root_root s)) (found_shows id) in
    if_shows same (nat_eq id 1) (Return (Some (named_root 1 (root_root s)))) _ tt
    (if_shows same (nat_eq id 3) (Return (Some (named_root 3 (chunk_root s)))) _ tt deeper)

-- names and inodes
pub inode_shows : (tree : TreeRoot) (ino : ℕ) → Shows same (inode_in tree ino)
inode_shows tree ino =
    thread_shows same (λ s. refl) _ (λ u v. None) tt (range (key ino inode_item 0) (key ino inode_item 0) tree.place)
    (λ u item. formed_shows same item (inode_of item.body) (λ inode. Return (Err (Some inode))) (λ inode. tt))
    (range_shows (key ino inode_item 0) (key ino inode_item 0) tree.place)

-- the lookup of all names of an inode hangs on no such bytes
pub links_show : (tree : TreeRoot) (ino : ℕ) → Shows same (links tree ino)
links_show tree ino =
    each_shows same (λ s. refl) _ [] (range (key ino inode_ref 0) (key ino inode_extref last) tree.place)
    (λ found item. formed_shows same item (links_of item.key item.body) (λ more. Return (found ++ more)) (λ more. tt))
    (range_shows (key ino inode_ref 0) (key ino inode_extref last) tree.place)

-- the lookup of all names of a subvolume hangs on no such bytes
pub mounts_show : (s : Super) (id : ℕ) → Shows same (mounts s id)
mounts_show s id =
    each_shows same (λ s. refl) _ [] (range (key id root_backref 0) (key id root_backref last) (root_root s))
    (λ found item. formed_shows same item (root_ref_of item.body) (λ part. Return (found ++ mount_of item.key item.body part ∷ [])) (λ part. tt))
    (range_shows (key id root_backref 0) (key id root_backref last) (root_root s))

-- whether an inode has the one name hangs on no such bytes
pub linked_shows : (wanted : Link) (tree : TreeRoot) (ino : ℕ) → Shows same (linked wanted tree ino)
linked_shows wanted tree ino = then_shows (links tree ino) (λ found. Return (is_link wanted found)) (links_show tree ino) (λ found. tt)

-- whether a subvolume has the one name hangs on no such bytes
pub mounted_shows : (wanted : Mount) (s : Super) (id : ℕ) → Shows same (mounted wanted s id)
mounted_shows wanted s id = then_shows (mounts s id) (λ found. Return (is_mount wanted found)) (mounts_show s id) (λ found. tt)

-- entries and extents
pub entries_show : (tree : TreeRoot) (dirid : ℕ) → Shows same (entries tree dirid)
entries_show tree dirid =
    each_shows same (λ s. refl) _ tt (range (key dirid dir_index 0) (key dirid dir_index last) tree.place)
    (λ u item. formed_shows same item (index_entry_of item.body) (λ entry. Emit (entry_of item entry) (Return tt)) (λ entry. tt))
    (range_shows (key dirid dir_index 0) (key dirid dir_index last) tree.place)

-- an extent by its order hangs on no such bytes
order_shows : (end : ℕ) (x : Extent) → Shows same (in_order end x)
order_shows end x = if_shows same (nat_le end x.start) (Emit x (Return (Ok (end_of x.start x.fields)))) _ tt tt

-- the extents of a file hang on no such bytes
pub extents_show : (tree : TreeRoot) (ino : ℕ) → Shows same (extents tree ino)
extents_show tree ino =
    thread_shows same (λ s. refl) _ (λ end u. u) 0 (range (key ino extent_data 0) (key ino extent_data last) tree.place)
    (λ end item. formed_shows same item (file_extent_of item.key.offset item.body) (λ fields. in_order end (extent item fields))
    (λ fields. order_shows end (extent item fields))) (range_shows (key ino extent_data 0) (key ino extent_data last) tree.place)

-- the survey of a file's extents hangs on no such bytes
pub survey_shows : (tree : TreeRoot) (ino : ℕ) → Shows same (survey tree ino)
survey_shows tree ino = thread_shows same (λ s. refl) (λ u (x : Extent). Return (extents.if_clear (extents.judged x.fields))) (λ u v. Clear) tt
    (extents tree ino) (λ u x. tt) (extents_show tree ino)

-- checksums and sectors
sum_found_shows : (kind : SumKind) (addr : ℕ) (o : Option TreeItem) → Shows same (sum_found kind addr o)
sum_found_shows kind addr None = tt
sum_found_shows kind addr (Some item) =
    if_shows same (is_sums item.key) _ (Return None) (formed_shows same item (sum_run_of kind item.key item.body)
    (λ run. Return (sum_in kind addr item.body run)) (λ run. tt)) tt

-- the lookup of a sector's checksum hangs on no such bytes
sum_shows : (kind : SumKind) (sums : Option TreeRoot) (addr : ℕ) → Shows same (sum_at kind sums addr)
sum_shows kind None addr = tt
sum_shows kind (Some sums) addr = then_shows (le sums.place (key sums_objectid extent_csum addr)) (sum_found kind addr)
    (le_shows (key sums_objectid extent_csum addr) sums.place) (sum_found_shows kind addr)

-- pieces that differ only in their bytes
abbrev pub alike_pieces : Piece → Piece → Type 0
alike_pieces (Bytes bytes summed) (Bytes others summed') = summed ≡ summed'
alike_pieces (Gap n) (Gap m) = n ≡ m
alike_pieces p q = ⊥

-- a piece differs from itself in nothing
pub each_alike : (p : Piece) → alike_pieces p p
each_alike (Bytes bytes summed) = refl
each_alike (Gap n) = refl

module _ (kind : SumKind) (sums : Option TreeRoot) (nosum : Bool) where
  -- the lookup of a sector's want hangs on no such bytes
  pub want_shows : (addr : ℕ) → Shows same (sector_want kind sums nosum addr)
  want_shows addr = if_shows same nosum (Return (Plain addr)) _ tt
      (then_shows (sum_at kind sums addr) (λ sum. Return (want_by addr sum)) (sum_shows kind sums addr) (λ sum. tt))

  -- sectors one after another only show the bytes of those without a checksum
  sectors_show : (n addr left : ℕ) → Shows alike_pieces (sectors kind sums nosum n addr left)
  sectors_show zero addr left = tt
  sectors_show (suc n) addr left =
      let rest = sectors kind sums nosum n (addr + 4096) (left - 4096) in
      looks_shows alike_pieces each_alike (sector_want kind sums nosum addr)
      (λ want. Need want (λ bytes. Emit (Bytes (take left bytes) (not (is_plain want))) rest)) (want_shows addr)
      (λ want. (λ bytes. sectors_show n (addr + 4096) (left - 4096), λ t b c. (refl, alike_refl alike_pieces each_alike rest)))

  module _ (size : ℕ) where
    -- zeros before a program that only shows such bytes leave it one
    gap_shows : {A : Type 0} (n : ℕ) (rest : Program Piece A) → Shows alike_pieces rest → Shows alike_pieces (gap n rest)
    gap_shows n rest h = if_shows alike_pieces (nat_eq n 0) rest (Emit (Gap n) rest) h h

    -- an extent that begins before the size only shows such bytes, whatever its shape
    shaped_shows : (at : ℕ) (x : Extent) (shape : Shape) → Shows alike_pieces (shaped kind sums nosum size at x shape)
    shaped_shows at x (Inline len) =
        let rest : Program Piece (Result ℕ ℕ) = Emit (Bytes (take (size - x.start) x.inline) true) (Return (on_at size (end_of x.start x.fields))) in
        if_shows alike_pieces (nat_eq len 0) (Return (Ok at)) (gap (x.start - at) rest) tt (gap_shows (x.start - at) rest tt)
    shaped_shows at x (Regular addr disk_len skip len) =
        let inside = sectors kind sums nosum (sector_count size x.start len) (addr + skip) (size - x.start) in
        let rest : Unit {0} → Program Piece (Result ℕ ℕ) = λ u. Return (on_at size (end_of x.start x.fields)) in
        if_shows alike_pieces (nat_eq addr 0) (Return (Ok at)) (gap (x.start - at) (bind inside rest)) tt
        (gap_shows (x.start - at) (bind inside rest) (shows_bind alike_pieces each_alike is_plain inside rest
        (sectors_show (sector_count size x.start len) (addr + skip) (size - x.start)) (λ u. tt)))
    shaped_shows at x (Prealloc addr disk_len skip len) = tt

    -- a program that only shows such bytes does so behind a test of clearness too
    clear_shows : (x : Extent) (found : Survey) (rest : Program Piece (Result ℕ ℕ)) → Shows alike_pieces rest → Shows alike_pieces (if_clear x found rest)
    clear_shows x Clear rest h = h
    clear_shows x Compressed rest h = tt
    clear_shows x Encoded rest h = tt

    -- any extent of a file only shows such bytes
    piece_shows : (at : ℕ) (x : Extent) → Shows alike_pieces (piece kind sums nosum size at x)
    piece_shows at x =
        clear_shows x (extents.judged x.fields) _ (if_shows alike_pieces (nat_le size x.start) (Return (Err at))
        (shaped kind sums nosum size at x x.fields.shape) tt (shaped_shows at x x.fields.shape))

    -- the content of a file only shows the bytes of its sectors without a checksum
    pub content_shows : (tree : TreeRoot) (ino : ℕ) → Shows alike_pieces (content kind sums nosum size tree ino)
    content_shows tree ino =
        if_shows alike_pieces (nat_eq size 0) (Return tt) (pieces kind sums nosum size 0 (extents tree ino)) tt
        (shows_bind alike_pieces each_alike is_plain (thread (piece kind sums nosum size) (λ at u. at) 0 (extents tree ino)) (λ at. gap (size - at) (Return tt))
        (thread_shows alike_pieces each_alike (piece kind sums nosum size) (λ at u. at) 0 (extents tree ino) piece_shows (extents_show tree ino))
        (λ at. gap_shows (size - at) (Return tt) tt))

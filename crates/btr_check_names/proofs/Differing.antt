-- A tree that has most of its items from a settled one.
use Rattle.std.proofs.Common.{◌≡◌, ℕ, ◌+◌, ◌*◌, Bool, true, false, not, cond, if◌then◌else◌, ◌==◌, ◌&&◌, ◌||◌, List, [], ◌∷◌, ◌++◌, length, filter, map, All}
use Rattle.std.proofs.Common.{None, flat_map, refl, sym, ap, ◌∙◌, subst, true≢false, ne_eqb, eqb-true, append-nil, arith}
use Rattle.std.proofs.lemmas.List.Elements.{All-filter, All-nil, filter-append}
use Rattle.std.specs.List.{AllByRecursion}
use Rattle.btr_base.specs.declared.key.Key.{Key}
use Rattle.btr_items.specs.Entry.{entries_of, index_entry_of}
use Rattle.btr_items.specs.ExtRef.{ext_refs_of}
use Rattle.btr_items.specs.Inode.{inode_of}
use Rattle.btr_items.specs.InodeRef.{inode_refs_of}
use Rattle.btr_items.specs.Types.{inode_item, inode_ref, inode_extref, orphan_item, dir_item, dir_index}
use Rattle.btr_tour.specs.Tour.{Mark, items_met}
use Rattle.btr_walk.specs.Le.{TreeItem}
use Rattle.btr_check_names.specs.declared.claim.Claim.{Claim}
use Rattle.btr_check_names.specs.declared.inode_at.InodeAt.{InodeAt}
use Rattle.btr_check_names.specs.Differences.{DifferenceLaw, compared_of, inode_of_key, items_of, others}
use Rattle.btr_check_names.specs.Entry.{Entry, NameRef}
use Rattle.btr_check_names.specs.Halves.{ClaimedHalf, IsBalanced, entry_halves, link_halves, format_at, is_gone_in, index_half, hash_half, asked_half, ref_half}
use Rattle.btr_check_names.specs.Inodes.{is_counted, are_settled}
use Rattle.btr_check_names.specs.Items.{all_read, entry_with, inode_with, ref_with, ext_ref_with, inodes_in, indexed_in, hashed_in, refs_in, orphans_in}
use Rattle.btr_check_names.specs.Names.{Names, format_of, is_among, is_unlinked, links_of, names_in, names_size, no_names, under_hash}
use Rattle.btr_check_names.specs.Pairs.{are_met, entry_claim}
use Rattle.btr_check_names.specs.Settled.{AreSettled, is_kept}
use Rattle.btr_check_names.specs.Subvolumes.{leads_to_root}
use Rattle.btr_check_names.specs.Unpaired.{are_whole, compared, unpaired_of}
use Rattle.btr_check_names.proofs.Counting.{All-both, All-part, any_own, sum_nothing, sum_own, sum_split}
use Rattle.btr_check_names.proofs.Claims.{two_hold}
use Rattle.btr_check_names.proofs.Halves.{by_hash, by_index, by_link, by_ref, entries_are, entry_times, given, half, IsThis, link_times, links_are, not_given}
use Rattle.btr_check_names.proofs.Meeting as meeting
use Rattle.btr_check_names.proofs.MetInodes.{IsKept, all_settled}
use Rattle.btr_check_names.proofs.MetNames.{Holds, after_tour, entries_balanced, inodes_kept, link_times_then, links_balanced, marks_hold, nothing, toured}
use Rattle.btr_check_names.proofs.Owing.{owes_more}

-- what names say of some inodes, by their numbers, whatever the tree's own number
abbrev pub part : (ℕ → Bool) → Names → Names
part own names = record {
  tree = 0;
  dirid = names.dirid;
  inodes = filter (λ (at : InodeAt). own at.number) names.inodes;
  indexed = filter (λ (entry : Entry). own entry.dir) names.indexed;
  hashed = filter (λ (entry : Entry). own entry.dir) names.hashed;
  refs = filter (λ (ref : NameRef). own ref.inode) names.refs;
  orphans = filter own names.orphans;
}

-- what is said of an inode is said in the part that has it
module _ (own : ℕ → Bool) (n : ℕ) (is : own n ≡ true) where
  -- an inode that is set aside isn't this one
  differs : (a : ℕ) → own a ≡ false → a ≡ n → ⊥
  differs a aside same = true≢false (sym is ∙ sym (ap own same) ∙ aside)

  -- a directory is there without links just where the part that has it says so
  gone_part : (inodes : List InodeAt) → is_gone_in inodes n ≡ is_gone_in (filter (λ at. own at.number) inodes) n
  gone_part inodes = any_own (λ at. own at.number) (λ at. (at.number == n) && is_unlinked at)
      (λ at aside. ap (λ b. b && is_unlinked at) (ne_eqb at.number n (differs at.number aside))) inodes

  -- the kind in an inode's mode is the one that the part with it says
  format_part : (inodes : List InodeAt) → format_at inodes n ≡ format_at (filter (λ at. own at.number) inodes) n
  format_part [] = refl
  format_part (at ∷ inodes) = by (own at.number) refl (format_part inodes)
    where
      by : (b : Bool) → own at.number ≡ b → format_at inodes n ≡ format_at (filter (λ one. own one.number) inodes) n
          → format_at (at ∷ inodes) n ≡ format_at (cond b (at ∷ filter (λ one. own one.number) inodes) (filter (λ one. own one.number) inodes)) n
      by true has rest = ap (λ f. if at.number == n then format_of at.inode else f) rest
      by false aside rest = ap (λ b. if b then format_of at.inode else format_at inodes n) (ne_eqb at.number n (differs at.number aside)) ∙ rest

  -- an inode has as many references as the part with it has of it
  links_part : (refs : List NameRef) → links_of refs n ≡ links_of (filter (λ ref. own ref.inode) refs) n
  links_part refs = sum_own (λ ref. own ref.inode) (λ ref. cond (ref.inode == n) 1 0)
      (λ ref aside. ap (λ b. cond b 1 0) (ne_eqb ref.inode n (differs ref.inode aside))) refs

  -- the names in a directory are as long as the part with it says
  size_part : (indexed : List Entry) → names_size indexed n ≡ names_size (filter (λ entry. own entry.dir) indexed) n
  size_part indexed = sum_own (λ entry. own entry.dir) (λ entry. cond (entry.dir == n) (2 * length entry.name) 0)
      (λ entry aside. ap (λ b. cond b (2 * length entry.name) 0) (ne_eqb entry.dir n (differs entry.dir aside))) indexed

  -- an inode is an orphan just where the part with it says so
  among_part : (orphans : List ℕ) → is_among orphans n ≡ is_among (filter own orphans) n
  among_part orphans = any_own own (λ number. n == number) (λ number aside. ne_eqb n number (λ same. differs number aside (sym same))) orphans

module _ (own : ℕ → Bool) (names : Names) where
  -- an inode states what there is of it just where it does by its part alone
  kept_part : (at : InodeAt) → own at.number ≡ true → is_kept names at ≡ is_kept (part own names) at
  kept_part at is =
      λ i. is_counted (record { at = at; links = links_part own at.number is names.refs i; names = size_part own at.number is names.indexed i })
      && (not (at.inode.nlink == 0) || among_part own at.number is names.orphans i)

  module _ (k : Claim) (s : Bool) (n : List ℕ) where
    -- what a tree gives is what its parts give
    entries_split : entry_times k s n names ≡ entry_times k s n (part own names) + entry_times k s n (part (others own) names)
    entries_split =
        let same : (p : ℕ → Bool) (e : Entry) → p e.dir ≡ true → by_index k s n names.inodes e ≡ by_index k s n (part p names).inodes e =
        λ p e is. ap (λ b. given k s n (index_half b e)) (gone_part p e.dir is names.inodes) in
        let alike : (p : ℕ → Bool) (e : Entry) → p e.dir ≡ true → by_hash k s n names.inodes e ≡ by_hash k s n (part p names).inodes e =
        λ p e is. ap (λ b. given k s n (hash_half b e)) (gone_part p e.dir is names.inodes) in
        omega (
          arith,
          sum_split (λ (e : Entry). own e.dir) (by_index k s n names.inodes) (by_index k s n (part own names).inodes)
              (by_index k s n (part (others own) names).inodes) (same own) (same (others own)) names.indexed,
          sum_split (λ (e : Entry). own e.dir) (by_hash k s n names.inodes) (by_hash k s n (part own names).inodes)
              (by_hash k s n (part (others own) names).inodes) (alike own) (alike (others own)) names.hashed,
        )

    -- what the links of a tree give is what those of its parts give
    links_split : link_times k s n names ≡ link_times k s n (part own names) + link_times k s n (part (others own) names)
    links_split =
        let same : (p : ℕ → Bool) (e : Entry) → p e.dir ≡ true → by_link k s n names.inodes e ≡ by_link k s n (part p names).inodes e =
        λ p e is. ap (λ b. given k s n (asked_half b e)) (gone_part p e.dir is names.inodes) in
        let alike : (p : ℕ → Bool) (r : NameRef) → p r.inode ≡ true
        → by_ref k s n names.dirid names.inodes r ≡ by_ref k s n names.dirid (part p names).inodes r =
        λ p r is. ap (λ f. given k s n (ref_half names.dirid f r)) (format_part p r.inode is names.inodes) in
        omega (
          arith,
          sum_split (λ (e : Entry). own e.dir) (by_link k s n names.inodes) (by_link k s n (part own names).inodes)
              (by_link k s n (part (others own) names).inodes) (same own) (same (others own)) names.indexed,
          sum_split (λ (r : NameRef). own r.inode) (by_ref k s n names.dirid names.inodes) (by_ref k s n names.dirid (part own names).inodes)
              (by_ref k s n names.dirid (part (others own) names).inodes) (alike own) (alike (others own)) names.refs,
        )

    -- a part has no entries of a directory that isn't in it
    entries_apart : own k.dir ≡ false → entry_times k s n (part own names) ≡ 0
    entries_apart aside =
        let inodes = (part own names).inodes in
        let differs : (one : ClaimedHalf) → own one.claim.dir ≡ true → IsThis k s n one → ⊥ =
        λ one is it. true≢false (sym is ∙ ap (λ (c : Claim). own c.dir) it.claim ∙ aside) in
        λ i. sum_nothing (λ (e : Entry). own e.dir) (by_index k s n inodes)
        (λ e is. not_given k s n (is_gone_in inodes e.dir) (half (entry_claim (under_hash e)) true e.name)
        (differs (half (entry_claim (under_hash e)) true e.name) is)) names.indexed i
        + sum_nothing (λ (e : Entry). own e.dir) (by_hash k s n inodes)
        (λ e is. not_given k s n (is_gone_in inodes e.dir) (half (entry_claim e) false e.name) (differs (half (entry_claim e) false e.name) is)) names.hashed i

-- the entries of some inodes are balanced where those of all are
part_balanced : (own : ℕ → Bool) (names : Names) → IsBalanced (entry_halves names) → (k : Claim) (n : List ℕ)
    → entry_times k true n (part (others own) names) ≡ entry_times k false n (part (others own) names)
part_balanced own names balanced k n = by (own k.dir) refl
  where
    by : (b : Bool) → own k.dir ≡ b → entry_times k true n (part (others own) names) ≡ entry_times k false n (part (others own) names)
    by true is = entries_apart (others own) names k true n (ap not is) ∙ sym (entries_apart (others own) names k false n (ap not is))
    by false is =
        omega (
          arith,
          balanced k n,
          entries_are k true n names,
          entries_are k false n names,
          entries_split own names k true n,
          entries_split own names k false n,
          entries_apart own names k true n is,
          entries_apart own names k false n is,
        )

-- names that say of all inodes but some what settled ones say of them, where what they say of these is balanced by itself,
-- and their links with those of the others, the sides exchanged
module _ (own : ℕ → Bool) (before after : Names) (settled : AreSettled before) (alike : part (others own) before ≡ part (others own) after) where
  -- what names say of all other inodes
  abbrev rest : Names → Names
  rest names = part (others own) names

  -- the entries after are balanced where those of some inodes are and those of the others were before
  entries : IsBalanced (entry_halves (part own after)) → IsBalanced (entry_halves after)
  entries balanced k n =
      let shared : (s : Bool) → entry_times k s n (rest before) ≡ entry_times k s n (rest after) = λ s. ap (entry_times k s n) alike in
      omega (
        arith,
        balanced k n,
        entries_are k true n after,
        entries_are k false n after,
        entries_are k true n (part own after),
        entries_are k false n (part own after),
        entries_split own after k true n,
        entries_split own after k false n,
        part_balanced own before settled.entries k n,
        shared true,
        shared false,
      )

  -- the links after are balanced where those of some inodes are, together with those before on the other side
  links : ((k : Claim) (n : List ℕ) → link_times k true n (part own after) + link_times k false n (part own before)
      ≡ link_times k false n (part own after) + link_times k true n (part own before)) → IsBalanced (link_halves after)
  links balanced k n =
      let shared : (s : Bool) → link_times k s n (rest before) ≡ link_times k s n (rest after) = λ s. ap (link_times k s n) alike in
      omega (
        arith,
        balanced k n,
        settled.links k n,
        shared true,
        shared false,
        links_are k true n after,
        links_are k false n after,
        links_are k true n before,
        links_are k false n before,
        links_split own after k true n,
        links_split own after k false n,
        links_split own before k true n,
        links_split own before k false n,
      )

  -- each inode after states what there is of it where each of some inodes does
  inodes : All (λ at. is_kept (part own after) at ≡ true) (part own after).inodes → All (λ at. is_kept after at ≡ true) after.inodes
  inodes ours =
      let kept : Names → InodeAt → Type 0 = λ names at. is_kept names at ≡ true in
      let before_rest : All (kept (rest before)) (rest before).inodes = All-part (λ at. not (own at.number)) (kept before) (kept (rest before))
      (λ at is h. sym (kept_part (others own) before at is) ∙ h) before.inodes
      (All-filter (λ at. not (own at.number)) (kept before) before.inodes settled.inodes) in
      All-both (λ at. own at.number) (kept after) after.inodes
      (All-part (λ at. own at.number) (kept (part own after)) (kept after) (λ at is h. kept_part own after at is ∙ h) after.inodes ours)
      (All-part (λ at. not (own at.number)) (kept (rest after)) (kept after) (λ at is h. kept_part (others own) after at is ∙ h) after.inodes
      (subst (λ (names : Names). All (kept names) names.inodes) alike before_rest))

-- of things that all pass or all fail, a filter leaves all or none
all_or_none : {X : Type 0} (p : X → Bool) (b : Bool) (xs : List X) → AllByRecursion (λ x. p x ≡ b) xs → filter p xs ≡ cond b xs []
all_or_none p true [] all = refl
all_or_none p false [] all = refl
all_or_none p true (x ∷ xs) all = (λ i. cond (all.0 i) (x ∷ filter p xs) (filter p xs)) ∙ ap (λ l. x ∷ l) (all_or_none p true xs all.1)
all_or_none p false (x ∷ xs) all = (λ i. cond (all.0 i) (x ∷ filter p xs) (filter p xs)) ∙ all_or_none p false xs all.1

-- what items say of some inodes is what their items say
filter_flat : {X : Type 0} (h : TreeItem → List X) (p : X → Bool) (q : TreeItem → Bool) → ((item : TreeItem) → AllByRecursion (λ x. p x ≡ q item) (h item))
    → (items : List TreeItem) → filter p (flat_map h items) ≡ flat_map h (filter q items)
filter_flat h p q all [] = refl
filter_flat h p q all (item ∷ items) =
    filter-append p (h item) (flat_map h items)
    ∙ (λ i. all_or_none p (q item) (h item) (all item) i ++ filter_flat h p q all items i) ∙ by (q item)
  where
    by : (b : Bool) → cond b (h item) [] ++ flat_map h (filter q items) ≡ flat_map h (cond b (item ∷ filter q items) (filter q items))
    by true = refl
    by false = refl

-- what holds of each thing that a function makes holds of all that it makes of a list
all_mapped : {X Y : Type 0} (P : Y → Type 0) (f : X → Y) → ((x : X) → P (f x)) → (xs : List X) → AllByRecursion P (map f xs)
all_mapped P f is [] = tt
all_mapped P f is (x ∷ xs) = (is x, all_mapped P f is xs)

-- what stands only in items of a kind
all_if : {X : Type 0} (P : X → Type 0) (b : Bool) (xs ys : List X) → (b ≡ true → AllByRecursion P xs) → AllByRecursion P ys
    → AllByRecursion P (if b then xs else ys)
all_if P true xs ys one two = one refl
all_if P false xs ys one two = two

module _ (own : ℕ → Bool) (key : Key) where
  -- an item of another kind speaks of the inode of its objectid
  speaks : (kind : ℕ) → (kind == orphan_item) ≡ false → (key.kind == kind) ≡ true → own key.objectid ≡ own (inode_of_key key)
  speaks kind other is =
      sym (ap own (ap (λ b. if b then key.offset else key.objectid) (ap (λ k. k == orphan_item) (eqb-true key.kind kind is) ∙ other)))

  module _ (body : List ℕ) where
    -- an inode in an item is one of some just where the item speaks of one of them
    inodes_own : AllByRecursion (λ (at : InodeAt). own at.number ≡ own (inode_of_key key)) (inodes_in key body)
    inodes_own =
        let P : InodeAt → Type 0 = λ at. own at.number ≡ own (inode_of_key key) in
        all_if P (key.kind == inode_item) (map (inode_with key body) (all_read (inode_of body ∷ []))) []
        (λ is. all_mapped P (inode_with key body) (λ at. speaks inode_item refl is) (all_read (inode_of body ∷ []))) tt

    -- an entry at an index is of some directories just where its item speaks of one of them
    indexed_own : AllByRecursion (λ (e : Entry). own e.dir ≡ own (inode_of_key key)) (indexed_in key body)
    indexed_own =
        let P : Entry → Type 0 = λ e. own e.dir ≡ own (inode_of_key key) in
        all_if P (key.kind == dir_index) (map (entry_with key body) (all_read (index_entry_of body ∷ []))) []
        (λ is. all_mapped P (entry_with key body) (λ e. speaks dir_index refl is) (all_read (index_entry_of body ∷ []))) tt

    -- an entry under a hash is of some directories just where its item speaks of one of them
    hashed_own : AllByRecursion (λ (e : Entry). own e.dir ≡ own (inode_of_key key)) (hashed_in key body)
    hashed_own =
        let P : Entry → Type 0 = λ e. own e.dir ≡ own (inode_of_key key) in
        all_if P (key.kind == dir_item) (map (entry_with key body) (all_read (entries_of body))) []
        (λ is. all_mapped P (entry_with key body) (λ e. speaks dir_item refl is) (all_read (entries_of body))) tt

    -- a reference is of some inodes just where its item speaks of one of them
    refs_own : AllByRecursion (λ (r : NameRef). own r.inode ≡ own (inode_of_key key)) (refs_in key body)
    refs_own =
        let P : NameRef → Type 0 = λ r. own r.inode ≡ own (inode_of_key key) in
        let ext = map (ext_ref_with key body) (all_read (ext_refs_of body)) in
        all_if P (key.kind == inode_ref) (map (ref_with key body) (all_read (inode_refs_of body))) (if key.kind == inode_extref then ext else [])
        (λ is. all_mapped P (ref_with key body) (λ r. speaks inode_ref refl is) (all_read (inode_refs_of body)))
        (all_if P (key.kind == inode_extref) ext []
        (λ is. all_mapped P (ext_ref_with key body) (λ r. speaks inode_extref refl is) (all_read (ext_refs_of body))) tt)

  -- an orphan is one of some inodes just where its item speaks of one of them
  orphans_own : AllByRecursion (λ n. own n ≡ own (inode_of_key key)) (orphans_in key)
  orphans_own = all_if (λ n. own n ≡ own (inode_of_key key)) (key.kind == orphan_item) (key.offset ∷ []) []
      (λ is. (sym (ap own (ap (λ b. if b then key.offset else key.objectid) is)), tt)) tt

-- what the names of a tree say of some inodes is what the items that speak of these say
parted : (own : ℕ → Bool) (tree dirid : ℕ) (items : List TreeItem) → part own (names_in tree dirid items) ≡ names_in 0 dirid (items_of own items)
parted own tree dirid items =
    let q : TreeItem → Bool = λ item. own (inode_of_key item.key) in
    λ i. record {
      tree = 0;
      dirid = dirid;
      inodes = filter_flat (λ item. inodes_in item.key item.body) (λ at. own at.number) q (λ item. inodes_own own item.key item.body) items i;
      indexed = filter_flat (λ item. indexed_in item.key item.body) (λ e. own e.dir) q (λ item. indexed_own own item.key item.body) items i;
      hashed = filter_flat (λ item. hashed_in item.key item.body) (λ e. own e.dir) q (λ item. hashed_own own item.key item.body) items i;
      refs = filter_flat (λ item. refs_in item.key item.body) (λ r. own r.inode) q (λ item. refs_own own item.key item.body) items i;
      orphans = filter_flat (λ item. orphans_in item.key) own q (λ item. orphans_own own item.key) items i;
    }

-- where nothing of what passes one test passes another, the rest has all that passes it
filter_rest : {X : Type 0} (t q : X → Bool) (xs : List X) → filter t (filter q xs) ≡ [] → filter t xs ≡ filter t (filter (λ x. not (q x)) xs)
filter_rest t q [] none = refl
filter_rest {X} t q (x ∷ xs) none = by (q x) (filter q xs) (filter (λ y. not (q y)) xs) (filter_rest t q xs) none
  where
    aside : (c : Bool) (us vs ws : List X) → cond c (x ∷ us) us ≡ [] → (us ≡ [] → vs ≡ ws) → cond c (x ∷ vs) vs ≡ ws
    aside true us vs ws none rest = absurd (omega (arith, ap length none))
    aside false us vs ws none rest = rest none

    by : (b : Bool) (us vs : List X) → (filter t us ≡ [] → filter t xs ≡ filter t vs) → filter t (cond b (x ∷ us) us) ≡ []
        → cond (t x) (x ∷ filter t xs) (filter t xs) ≡ filter t (cond (not b) (x ∷ vs) vs)
    by true us vs rest none = aside (t x) (filter t us) (filter t xs) (filter t vs) none rest
    by false us vs rest none = ap (λ l. cond (t x) (x ∷ l) l) (rest none)

-- where two lists together are empty, each of them is
both_empty : {X : Type 0} (xs ys : List X) → xs ++ ys ≡ [] → (xs ≡ []) × (ys ≡ [])
both_empty [] ys h = (refl, h)
both_empty (x ∷ xs) ys h = absurd (omega (arith, ap length h))

-- a tour of the one tree, then one of the other
module _ (dirid : ℕ) (ours theirs : List Mark) where
  -- the names in what a tour met
  abbrev names_of : List Mark → Names
  names_of marks = names_in 0 dirid (items_met marks)

  -- what is kept where the second tour begins, if the first one left its inodes settled
  compared_holds : are_settled (unpaired_of dirid ours).inodes ≡ true
      → Holds (after_tour (unpaired_of dirid ours) (names_of ours)) (compared (unpaired_of dirid ours)) (no_names 0 dirid)
  compared_holds settled =
      let u = unpaired_of dirid ours in
      let h = toured 0 dirid ours in
      record {
        dirid = h.dirid;
        turned = refl;
        subvolumes = sym (append-nil u.subvolumes);
        last = λ right. record { inodes = refl; indexed = refl; hashed = refl; refs = refl };
        kept = All-nil (IsKept [] []);
        entries = λ straight. absurd (true≢false straight);
        links = λ right same. owes_more u.links None (link_times_then nothing (names_of ours))
            (link_times_then (after_tour u (names_of ours)) (no_names 0 dirid)) (λ k s m. refl) same (h.links (all_settled u.inodes settled).right same);
      }

  -- what is kept after two_hold tours, if the first one left its inodes settled
  both_toured : are_settled (unpaired_of dirid ours).inodes ≡ true
      → Holds (after_tour (unpaired_of dirid ours) (names_of ours)) (compared_of dirid ours theirs) (names_of theirs)
  both_toured settled =
      let old = after_tour (unpaired_of dirid ours) (names_of ours) in
      subst (Holds old (compared_of dirid ours theirs)) (meeting.names_law 0 dirid theirs)
      (marks_hold old theirs (compared (unpaired_of dirid ours)) (no_names 0 dirid) (compared_holds settled))

-- a tree that shares its items with a settled one, but for those of some inodes, is settled by tours of these alone
pub difference_law : DifferenceLaw
difference_law tree other dirid own before after ours theirs settled d =
    let a = names_in tree dirid before in
    let b = names_in other dirid after in
    let u = unpaired_of dirid ours in
    let v = compared_of dirid ours theirs in
    let h = toured 0 dirid ours in
    let whole = two_hold (are_settled u.inodes) (are_met u.entries) d.whole in
    let paired = two_hold (are_whole v) (are_met v.links) d.paired in
    let old = after_tour u (names_in 0 dirid (items_met ours)) in
    let two = both_toured dirid ours theirs whole.0 in
    let in_ours : names_in 0 dirid (items_met ours) ≡ part own b = ap (names_in 0 dirid) d.ours_met ∙ sym (parted own other dirid after) in
    let in_theirs : names_in 0 dirid (items_met theirs) ≡ part own a = ap (names_in 0 dirid) d.theirs_met ∙ sym (parted own tree dirid before) in
    let alike : part (others own) a ≡ part (others own) b =
    parted (others own) tree dirid before ∙ ap (names_in 0 dirid) d.shared ∙ sym (parted (others own) other dirid after) in
    let met = links_balanced old v (names_in 0 dirid (items_met theirs)) two (two_hold (are_settled v.inodes) (are_met v.entries) paired.0).0 paired.1 in
    let crossed : (k : Claim) (n : List ℕ) → link_times k true n (part own b) + link_times k false n (part own a)
    ≡ link_times k false n (part own b) + link_times k true n (part own a) =
    λ k n. omega (
      arith,
      met k n,
      ap (link_times k true n) in_ours,
      ap (link_times k false n) in_ours,
      ap (link_times k true n) in_theirs,
      ap (link_times k false n) in_theirs,
    ) in
    record {
      settled = record {
        entries = entries own a b settled alike (subst (λ (n : Names). IsBalanced (entry_halves n)) in_ours
            (entries_balanced nothing u (names_in 0 dirid (items_met ours)) h whole.0 refl whole.1));
        links = links own a b settled alike crossed;
        inodes = inodes own a b settled alike (subst (λ (n : Names). All (λ at. is_kept n at ≡ true) n.inodes) in_ours
            (inodes_kept nothing u (names_in 0 dirid (items_met ours)) h whole.0));
      };
      subvolumes = λ none.
          let apart = both_empty u.subvolumes (filter leads_to_root (names_in 0 dirid (items_met theirs)).indexed) (sym two.subvolumes ∙ none) in
          let roots : Names → List Entry = λ n. filter leads_to_root n.indexed in
          let in_b : roots (part own b) ≡ [] = ap roots (sym in_ours) ∙ sym h.subvolumes ∙ apart.0 in
          let in_a : roots (part own a) ≡ [] = ap roots (sym in_theirs) ∙ apart.1 in
          filter_rest leads_to_root (λ e. own e.dir) b.indexed in_b ∙ ap roots (sym alike)
          ∙ sym (filter_rest leads_to_root (λ e. own e.dir) a.indexed in_a);
    }

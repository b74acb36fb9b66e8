-- Where all names of a tree have met their counterparts, they are settled.
use Rattle.std.proofs.Common.{◌≡◌, ℕ, ◌+◌, ◌<◌, Bool, true, false, not, ◌&&◌, ◌||◌, List, [], ◌∷◌, ◌++◌, filter, fold, get_or, All}
use Rattle.std.proofs.Common.{refl, sym, ap, ◌∙◌, subst, append_assoc, append-nil, arith}
use Rattle.std.proofs.lemmas.List.Elements.{All-nil, All-weaker, filter-append}
use Rattle.std.proofs.lemmas.List.Sums.{sum_by_push}
use Rattle.btr_base.specs.declared.key.Key.{Key}
use Rattle.btr_tour.specs.Tour.{Mark, Block, Child, Item, Left, items_met}
use Rattle.btr_check_names.specs.declared.claim.Claim.{Claim}
use Rattle.btr_check_names.specs.declared.inode_at.InodeAt.{InodeAt}
use Rattle.btr_check_names.specs.declared.unpaired.Unpaired.{Unpaired}
use Rattle.btr_check_names.specs.Entry.{Entry, NameRef}
use Rattle.btr_check_names.specs.Halves.{IsBalanced, entry_halves, index_half, hash_half, asked_half, ref_half, is_gone_in, sided}
use Rattle.btr_check_names.specs.Inodes.{last_format, may_follow, is_gone, is_last, are_settled}
use Rattle.btr_check_names.specs.Items.{inodes_in, indexed_in, hashed_in, refs_in, orphans_in}
use Rattle.btr_check_names.specs.Names.{Names, no_names, names_in, names_with, names_step}
use Rattle.btr_check_names.specs.Pairs.{are_met}
use Rattle.btr_check_names.specs.Settled.{AreSettled, is_kept}
use Rattle.btr_check_names.specs.Subvolumes.{leads_to_root}
use Rattle.btr_check_names.specs.Unpaired.{nothing_unpaired, with_inode, with_indexed, with_hashed, with_ref, with_orphan, unpaired_with, unpaired_step}
use Rattle.btr_check_names.specs.Unpaired.{are_paired, are_whole, unpaired_of, UnpairedLaw}
use Rattle.btr_check_names.proofs.Counting.{holds_not, neither, sum_same}
use Rattle.btr_check_names.proofs.Claims.{two_hold}
use Rattle.btr_check_names.proofs.Halves.{given, given_sided, side, by_index, by_hash, by_link, by_ref, entry_times, link_times, entries_are, links_are}
use Rattle.btr_check_names.proofs.Meeting as meeting
use Rattle.btr_check_names.proofs.MetInodes.{add_inodes, add_indexed, add_hashed, add_refs, add_orphans, without_orphans, AreBelow, IsKept, LastMet}
use Rattle.btr_check_names.proofs.MetInodes.{below_next, inode_comes, ref_comes, name_comes, hash_comes, all_counted, format_before, gone_before, format_there}
use Rattle.btr_check_names.proofs.MetInodes.{gone_there, kept_more, orphan_comes, kept_orphan, all_settled}
use Rattle.btr_check_names.proofs.Owing.{Owes, balanced, met_all, owes_more, owes_nothing, same_before}
use Rattle.btr_check_names.proofs.Settling.{settled_law}

-- how often the entries of some names give a half
abbrev pub entries_of : Names → Claim → Bool → List ℕ → ℕ
entries_of names k s n = entry_times k s n names

-- what was kept before a tour, and whether its links count on the other side: how often links were given, and the entries that
-- lead to subvolumes
pub record Before : Type 0 where
  pub is_turned : Bool
  pub links : Claim → Bool → List ℕ → ℕ
  pub roots : List Entry

-- how often links are given then
abbrev pub link_times_then : Before → Names → Claim → Bool → List ℕ → ℕ
link_times_then old names k s n = old.links k s n + link_times k (side old.is_turned s) n names

-- what is kept of some names: of the inodes, of the entries where none differ, and of the links where none differ
pub record Holds (old : Before) (u : Unpaired) (names : Names) : Type 0 where
  pub dirid : u.dirid ≡ names.dirid
  pub turned : u.is_turned ≡ old.is_turned
  pub subvolumes : u.subvolumes ≡ old.roots ++ filter leads_to_root names.indexed
  pub last : u.inodes.is_wrong ≡ false → LastMet u.inodes.last (without_orphans names)
  pub kept : All (IsKept u.inodes.unlinked names.orphans) names.inodes
  pub entries : old.is_turned ≡ false → u.inodes.is_wrong ≡ false → u.entries.differ ≡ false → Owes u.entries (entries_of names)
  pub links : u.inodes.is_wrong ≡ false → u.links.differ ≡ false → Owes u.links (link_times_then old names)

-- with one more inode the names so far give what they gave
module _ (k : Claim) (s : Bool) (m : List ℕ) (n : Names) (at : InodeAt) (below : AreBelow at.number (without_orphans n)) where
  -- the inodes so far, and one more
  abbrev more : List InodeAt
  more = n.inodes ++ at ∷ []

  -- the entries so far give a half as often with one more inode
  entries_before : entry_times k s m n ≡ entry_times k s m (add_inodes n (at ∷ []))
  entries_before = λ i.
      sum_same (by_index k s m n.inodes) (by_index k s m more) n.indexed (All-weaker (λ (e : Entry). e.dir < at.number)
      (λ e. by_index k s m n.inodes e ≡ by_index k s m more e)
      (λ e h. ap (λ gone. given k s m (index_half gone e)) (sym (gone_before n.inodes at e.dir h))) n.indexed below.indexed) i
      + sum_same (by_hash k s m n.inodes) (by_hash k s m more) n.hashed (All-weaker (λ (e : Entry). e.dir < at.number)
      (λ e. by_hash k s m n.inodes e ≡ by_hash k s m more e)
      (λ e h. ap (λ gone. given k s m (hash_half gone e)) (sym (gone_before n.inodes at e.dir h))) n.hashed below.hashed) i

  -- the links so far give a half as often with one more inode
  links_before : link_times k s m n ≡ link_times k s m (add_inodes n (at ∷ []))
  links_before = λ i.
      sum_same (by_link k s m n.inodes) (by_link k s m more) n.indexed (All-weaker (λ (e : Entry). e.dir < at.number)
      (λ e. by_link k s m n.inodes e ≡ by_link k s m more e)
      (λ e h. ap (λ gone. given k s m (asked_half gone e)) (sym (gone_before n.inodes at e.dir h))) n.indexed below.indexed) i
      + sum_same (by_ref k s m n.dirid n.inodes) (by_ref k s m n.dirid more) n.refs (All-weaker (λ (r : NameRef). r.inode < at.number)
      (λ r. by_ref k s m n.dirid n.inodes r ≡ by_ref k s m n.dirid more r)
      (λ r h. ap (λ format. given k s m (ref_half n.dirid format r)) (sym (format_before n.inodes at r.inode h))) n.refs below.refs) i

-- an item of the last inode comes
module _ (u : Unpaired) (number : ℕ) (right : (u.inodes.is_wrong || not (is_last number u.inodes.last)) ≡ false) where
  -- no inode was wrong before
  before : u.inodes.is_wrong ≡ false
  before = (neither u.inodes.is_wrong (not (is_last number u.inodes.last)) right).0

  -- the item is of the last inode
  of_last : is_last number u.inodes.last ≡ true
  of_last = holds_not (is_last number u.inodes.last) (neither u.inodes.is_wrong (not (is_last number u.inodes.last)) right).1

module _ (old : Before) (u : Unpaired) (n : Names) (h : Holds old u n) where
  -- what is kept is of the names with one more inode
  inode_holds : (at : InodeAt) → Holds old (with_inode u at) (add_inodes n (at ∷ []))
  inode_holds at =
      let follows : (u.inodes.is_wrong || not (may_follow u.inodes.last at.number)) ≡ false → may_follow u.inodes.last at.number ≡ true =
      λ right. holds_not (may_follow u.inodes.last at.number) (neither u.inodes.is_wrong (not (may_follow u.inodes.last at.number)) right).1 in
      let was : (u.inodes.is_wrong || not (may_follow u.inodes.last at.number)) ≡ false → u.inodes.is_wrong ≡ false =
      λ right. (neither u.inodes.is_wrong (not (may_follow u.inodes.last at.number)) right).0 in
      record {
        dirid = h.dirid;
        turned = h.turned;
        subvolumes = h.subvolumes;
        last = λ right. inode_comes u.inodes.last at (without_orphans n) (follows right) (h.last (was right));
        kept = kept_more at u.inodes.unlinked n.orphans n.inodes h.kept;
        entries = λ straight right same k m.
            let below = below_next u.inodes.last (without_orphans n) at.number (follows right) (h.last (was right)) in
            omega (arith, entries_before k true m n at below, entries_before k false m n at below, h.entries straight (was right) same k m);
        links = λ right same k m.
            let below = below_next u.inodes.last (without_orphans n) at.number (follows right) (h.last (was right)) in
            omega (
              arith,
              links_before k (side old.is_turned true) m n at below,
              links_before k (side old.is_turned false) m n at below,
              h.links (was right) same k m,
            );
      }

  -- what is kept is of the names with one more entry at an index
  indexed_holds : (entry : Entry) → Holds old (with_indexed u entry) (add_indexed n (entry ∷ []))
  indexed_holds entry =
      let gone : (right : (u.inodes.is_wrong || not (is_last entry.dir u.inodes.last)) ≡ false)
      → is_gone entry.dir u.inodes.last ≡ is_gone_in n.inodes entry.dir =
      λ right. gone_there u.inodes.last (without_orphans n) entry.dir (of_last u entry.dir right) (h.last (before u entry.dir right)) in
      let half = index_half (u.is_turned || is_gone entry.dir u.inodes.last) entry in
      let ask = asked_half (is_gone entry.dir u.inodes.last) entry in
      record {
        dirid = h.dirid;
        turned = h.turned;
        subvolumes = ap (λ l. l ++ filter leads_to_root (entry ∷ [])) h.subvolumes
            ∙ append_assoc old.roots (filter leads_to_root n.indexed) (filter leads_to_root (entry ∷ []))
            ∙ ap (λ l. old.roots ++ l) (sym (filter-append leads_to_root n.indexed (entry ∷ [])));
        last = λ right. name_comes u.inodes.last entry (without_orphans n) (of_last u entry.dir right) (h.last (before u entry.dir right));
        kept = h.kept;
        entries = λ straight right same.
            let is : (k : Claim) (s : Bool) (m : List ℕ) → given k s m half ≡ given k s m (index_half (is_gone_in n.inodes entry.dir) entry) =
            λ k s m i. given k s m (index_half ((h.turned ∙ straight) i || gone right i) entry) in
            owes_more u.entries half (entries_of n) (entries_of (add_indexed n (entry ∷ [])))
            (λ k s m. omega (arith, sum_by_push (by_index k s m n.inodes) n.indexed entry, is k s m))
            same (h.entries straight (before u entry.dir right) (same_before u.entries half same));
        links = λ right same.
            let is : (k : Claim) (s : Bool) (m : List ℕ) → given k s m (sided u.is_turned ask) ≡ by_link k (side old.is_turned s) m n.inodes entry =
            λ k s m. given_sided k s m u.is_turned ask ∙ (λ i. given k (side (h.turned i) s) m (asked_half (gone right i) entry)) in
            owes_more u.links (sided u.is_turned ask) (link_times_then old n) (link_times_then old (add_indexed n (entry ∷ [])))
            (λ k s m. omega (arith, sum_by_push (by_link k (side old.is_turned s) m n.inodes) n.indexed entry, is k s m))
            same (h.links (before u entry.dir right) (same_before u.links (sided u.is_turned ask) same));
      }

  -- what is kept is of the names with one more entry under a hash
  hashed_holds : (entry : Entry) → Holds old (with_hashed u entry) (add_hashed n (entry ∷ []))
  hashed_holds entry =
      let half = hash_half (u.is_turned || is_gone entry.dir u.inodes.last) entry in
      record {
        dirid = h.dirid;
        turned = h.turned;
        subvolumes = h.subvolumes;
        last = λ right. hash_comes u.inodes.last entry (without_orphans n) (of_last u entry.dir right) (h.last (before u entry.dir right));
        kept = h.kept;
        entries = λ straight right same.
            let gone = gone_there u.inodes.last (without_orphans n) entry.dir (of_last u entry.dir right) (h.last (before u entry.dir right)) in
            let is : (k : Claim) (s : Bool) (m : List ℕ) → given k s m half ≡ given k s m (hash_half (is_gone_in n.inodes entry.dir) entry) =
            λ k s m i. given k s m (hash_half ((h.turned ∙ straight) i || gone i) entry) in
            owes_more u.entries half (entries_of n) (entries_of (add_hashed n (entry ∷ [])))
            (λ k s m. omega (arith, sum_by_push (by_hash k s m n.inodes) n.hashed entry, is k s m))
            same (h.entries straight (before u entry.dir right) (same_before u.entries half same));
        links = λ right same. h.links (before u entry.dir right) same;
      }

  -- what is kept is of the names with one more reference
  ref_holds : (ref : NameRef) → Holds old (with_ref u ref) (add_refs n (ref ∷ []))
  ref_holds ref =
      let half = ref_half u.dirid (last_format u.inodes.last) ref in
      record {
        dirid = h.dirid;
        turned = h.turned;
        subvolumes = h.subvolumes;
        last = λ right. ref_comes u.inodes.last ref (without_orphans n) (of_last u ref.inode right) (h.last (before u ref.inode right));
        kept = h.kept;
        entries = λ straight right same. h.entries straight (before u ref.inode right) same;
        links = λ right same.
            let format = format_there u.inodes.last (without_orphans n) ref.inode (of_last u ref.inode right) (h.last (before u ref.inode right)) in
            let is : (k : Claim) (s : Bool) (m : List ℕ) → given k s m (sided u.is_turned half) ≡ by_ref k (side old.is_turned s) m n.dirid n.inodes ref =
            λ k s m. given_sided k s m u.is_turned half ∙ (λ i. given k (side (h.turned i) s) m (ref_half (h.dirid i) (format i) ref)) in
            owes_more u.links (sided u.is_turned half) (link_times_then old n) (link_times_then old (add_refs n (ref ∷ [])))
            (λ k s m. omega (arith, sum_by_push (by_ref k (side old.is_turned s) m n.dirid n.inodes) n.refs ref, is k s m))
            same (h.links (before u ref.inode right) (same_before u.links (sided u.is_turned half) same));
      }

  -- what is kept is of the names with one more orphan
  orphan_holds : (number : ℕ) → Holds old (with_orphan u number) (add_orphans n (number ∷ []))
  orphan_holds number = record {
    dirid = h.dirid;
    turned = h.turned;
    subvolumes = h.subvolumes;
    last = h.last;
    kept = orphan_comes number u.inodes.unlinked n.orphans n.inodes h.kept;
    entries = h.entries;
    links = h.links;
  }

-- some things, one after another
module _ {X : Type 0} (old : Before) (step : Unpaired → X → Unpaired) (add : Names → List X → Names) (none : (n : Names) → add n [] ≡ n)
    (more : (n : Names) (x : X) (xs : List X) → add (add n (x ∷ [])) xs ≡ add n (x ∷ xs))
    (one : (u : Unpaired) (n : Names) → Holds old u n → (x : X) → Holds old (step u x) (add n (x ∷ []))) where
  -- what is kept is of the names with some more things, where it is so with each one
  some_hold : (xs : List X) (u : Unpaired) (n : Names) → Holds old u n → Holds old (fold step u xs) (add n xs)
  some_hold [] u n h = subst (Holds old u) (sym (none n)) h
  some_hold (x ∷ xs) u n h = subst (Holds old (fold step (step u x) xs)) (more n x xs) (some_hold xs (step u x) (add n (x ∷ [])) (one u n h x))

-- what is kept after an item is of the names with those in the item
item_holds : (old : Before) (u : Unpaired) (n : Names) (key : Key) (body : List ℕ) → Holds old u n
    → Holds old (unpaired_with u key body) (names_with n key body)
item_holds old u n key body h =
    let a = inodes_in key body in
    let b = indexed_in key body in
    let c = hashed_in key body in
    let d = refs_in key body in
    let e = orphans_in key in
    let u1 = fold with_inode u a in
    let u2 = fold with_indexed u1 b in
    let u3 = fold with_hashed u2 c in
    let u4 = fold with_ref u3 d in
    let n1 = add_inodes n a in
    let n2 = add_indexed n1 b in
    let n3 = add_hashed n2 c in
    let n4 = add_refs n3 d in
    let h1 : Holds old u1 n1 = some_hold old with_inode add_inodes
    (λ m. ap (λ l. record m { inodes = l }) (append-nil m.inodes)) (λ m x xs. ap (λ l. record m { inodes = l }) (append_assoc m.inodes (x ∷ []) xs))
    (inode_holds old) a u n h in
    let h2 : Holds old u2 n2 = some_hold old with_indexed add_indexed
    (λ m. ap (λ l. record m { indexed = l }) (append-nil m.indexed)) (λ m x xs. ap (λ l. record m { indexed = l }) (append_assoc m.indexed (x ∷ []) xs))
    (indexed_holds old) b u1 n1 h1 in
    let h3 : Holds old u3 n3 = some_hold old with_hashed add_hashed
    (λ m. ap (λ l. record m { hashed = l }) (append-nil m.hashed)) (λ m x xs. ap (λ l. record m { hashed = l }) (append_assoc m.hashed (x ∷ []) xs))
    (hashed_holds old) c u2 n2 h2 in
    let h4 : Holds old u4 n4 = some_hold old with_ref add_refs
    (λ m. ap (λ l. record m { refs = l }) (append-nil m.refs)) (λ m x xs. ap (λ l. record m { refs = l }) (append_assoc m.refs (x ∷ []) xs))
    (ref_holds old) d u3 n3 h3 in
    some_hold old with_orphan add_orphans
    (λ m. ap (λ l. record m { orphans = l }) (append-nil m.orphans)) (λ m x xs. ap (λ l. record m { orphans = l }) (append_assoc m.orphans (x ∷ []) xs))
    (orphan_holds old) e u4 n4 h4

-- what is kept after all that a tour meets is of the names with those that it met
pub marks_hold : (old : Before) (marks : List Mark) (u : Unpaired) (n : Names) → Holds old u n
    → Holds old (fold unpaired_step u marks) (fold names_step n marks)
marks_hold old [] u n h = h
marks_hold old (Block place block ∷ marks) u n h = marks_hold old marks u n h
marks_hold old (Child addr place ∷ marks) u n h = marks_hold old marks u n h
marks_hold old (Item item ∷ marks) u n h = marks_hold old marks (unpaired_with u item.key item.body) (names_with n item.key item.body)
    (item_holds old u n item.key item.body h)
marks_hold old (Left fault ∷ marks) u n h = marks_hold old marks u n h

-- nothing was kept before
abbrev pub nothing : Before
nothing = record { is_turned = false; links = λ k s n. 0; roots = [] }

-- a tour of a tree that had these names leaves this
abbrev pub after_tour : Unpaired → Names → Before
after_tour u names = record { is_turned = true; links = link_times_then nothing names; roots = u.subvolumes }

-- what is kept before any item is of no names
nothing_holds : (tree dirid : ℕ) → Holds nothing (nothing_unpaired dirid) (no_names tree dirid)
nothing_holds tree dirid = record {
  dirid = refl;
  turned = refl;
  subvolumes = refl;
  last = λ right. record { inodes = refl; indexed = refl; hashed = refl; refs = refl };
  kept = All-nil (IsKept [] []);
  entries = λ straight right same. owes_nothing (entries_of (no_names tree dirid)) (λ k s m. refl);
  links = λ right same. owes_nothing (link_times_then nothing (no_names tree dirid)) (λ k s m. refl);
}

-- what a tour leaves, and another one that follows it
pub toured : (tree dirid : ℕ) (marks : List Mark) → Holds nothing (unpaired_of dirid marks) (names_in tree dirid (items_met marks))
toured tree dirid marks =
    subst (Holds nothing (unpaired_of dirid marks)) (meeting.names_law tree dirid marks)
    (marks_hold nothing marks (nothing_unpaired dirid) (no_names tree dirid) (nothing_holds tree dirid))

module _ (old : Before) (u : Unpaired) (names : Names) (h : Holds old u names) (settled : are_settled u.inodes ≡ true) where
  -- where the inodes are settled, each states what there is of it, and has links or is an orphan
  pub inodes_kept : All (λ at. is_kept names at ≡ true) names.inodes
  inodes_kept =
      let inodes = all_settled u.inodes settled in
      let counted = all_counted u.inodes.last (without_orphans names) inodes.counted (h.last inodes.right) in
      λ i d below j. counted i d below j && kept_orphan u.inodes.unlinked names.orphans (get_or names.inodes i d) inodes.none (h.kept i d below) j

  -- of a tree whose sides aren't exchanged the entries are balanced where all have met their counterparts
  pub entries_balanced : old.is_turned ≡ false → are_met u.entries ≡ true → IsBalanced (entry_halves names)
  entries_balanced straight met k m =
      let entries = met_all u.entries met in
      let owes = h.entries straight (all_settled u.inodes settled).right entries.same in
      entries_are k true m names ∙ balanced u.entries (entries_of names) entries owes k m ∙ sym (entries_are k false m names)

  -- where all links are met, those before and those of these names together are balanced
  pub links_balanced : are_met u.links ≡ true → (k : Claim) (m : List ℕ) → link_times_then old names k true m ≡ link_times_then old names k false m
  links_balanced met =
      let links = met_all u.links met in
      balanced u.links (link_times_then old names) links (h.links (all_settled u.inodes settled).right links.same)

module _ (u : Unpaired) (names : Names) (h : Holds nothing u names) where
  -- names that are all paired are settled
  all_paired : are_paired u ≡ true → AreSettled names
  all_paired paired =
      let one = two_hold (are_whole u) (are_met u.links) paired in
      let two = two_hold (are_settled u.inodes) (are_met u.entries) one.0 in
      let links = links_balanced nothing u names h two.0 one.1 in
      record {
        entries = entries_balanced nothing u names h two.0 refl two.1;
        links = λ k m. omega (arith, links k m, links_are k true m names, links_are k false m names);
        inodes = inodes_kept nothing u names h two.0;
      }

-- where a tour leaves all names paired they are settled, and nothing is wrong with them
pub unpaired_law : UnpairedLaw
unpaired_law tree dirid marks =
    let u = unpaired_of dirid marks in
    let names = names_in tree dirid (items_met marks) in
    let there = toured tree dirid marks in
    record {
      settled = all_paired u names there;
      sound = λ paired. settled_law names (all_paired u names there paired);
      subvolumes = there.subvolumes;
    }

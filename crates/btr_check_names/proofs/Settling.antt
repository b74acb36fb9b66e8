-- Nothing is wrong with names that are settled.
use Rattle.std.proofs.Common.{◌≡◌, ℕ, ◌<◌, Bool, true, false, cond, not, ◌==◌, ◌&&◌, ◌||◌, List, [], ◌∷◌, ◌++◌, length, get_or, map, filter, filter_map}
use Rattle.std.proofs.Common.{sum_by, All, if◌then◌else◌, refl, sym, ap, ◌∙◌, true≢false, eqb-true, eq-eqb, arith}
use Rattle.std.proofs.lemmas.List.Elements.{All-weaker, recursion_from_All}
use Rattle.std.proofs.lemmas.List.Sums.{get_or-le-sum_by}
use Rattle.std.specs.List.{AllByRecursion, cons_option, list_any}
use Rattle.std.specs.Str.{bytes_eq}
use Rattle.btr_findings.specs.declared.finding.Finding.{Finding}
use Rattle.btr_findings.specs.declared.kind.Kind.{Kind}
use Rattle.btr_findings.specs.declared.kind.Kind.TheVariants as kind
use Rattle.btr_findings.specs.Findings.{found, unless, shown_sum}
use Rattle.btr_check_names.specs.declared.claim.Claim.{Claim}
use Rattle.btr_check_names.specs.declared.inode_at.InodeAt.{InodeAt}
use Rattle.btr_check_names.specs.Entry.{Entry, NameRef}
use Rattle.btr_check_names.specs.Halves.{IsBalanced, entry_halves, link_halves, format_at, is_gone_in}
use Rattle.btr_check_names.specs.Inodes.{is_counted}
use Rattle.btr_check_names.specs.Names.{Names, names_findings}
use Rattle.btr_check_names.specs.Names.{has_links, has_size, is_among, is_entry, is_removed, is_unlinked, is_free, leads_to_inode, mode_kept, ref_kept, ref_to}
use Rattle.btr_check_names.specs.Names.{removed_dirs, same_ref, asked, fits_mode, format_of, links_of, mode_of_kind, names_size, orphan_kept, under_hash}
use Rattle.btr_check_names.specs.Pairs.{entry_claim, link_claim, ref_claim}
use Rattle.btr_check_names.specs.Settled.{AreSettled, SettledLaw, counted_in, is_kept}
use Rattle.btr_check_names.proofs.Claims.{name_itself}
use Rattle.btr_check_names.proofs.Counting.{found_by, holds_not, neither, or_left, or_right, sum_none}
use Rattle.btr_check_names.proofs.Claims.{two_hold}
use Rattle.btr_check_names.proofs.Halves.{by_hash, by_index, by_link, by_ref, entries_are, gives_it, half, is_given, links_are, not_given}

itself : (x : ℕ) → (x == x) ≡ true
itself x = eq-eqb x x refl

-- an entry that claims the same by the same name stands for another
entry_by : (a b : Entry) → entry_claim b ≡ entry_claim a → b.name ≡ a.name → is_entry a b ≡ true
entry_by a b claims names =
    (λ i. (a.offset == (claims i).offset) && ((a.dir == (claims i).dir) &&
    ((a.location.objectid == (claims i).target.objectid) && (a.location.kind == (claims i).target.kind) &&
    (a.location.offset == (claims i).target.offset)) && (a.kind == (claims i).kind) && bytes_eq a.name (names i)))
    ∙ (λ i. itself a.offset i && (itself a.dir i && (itself a.location.objectid i && itself a.location.kind i && itself a.location.offset i) && itself
    a.kind i && name_itself a.name i))

-- a reference that claims the same by the same name stands for another
ref_by : (a b : NameRef) (f g : ℕ) → ref_claim g b ≡ ref_claim f a → b.name ≡ a.name → same_ref a b ≡ true
ref_by a b f g claims names =
    (λ i. (a.inode == (claims i).target.objectid) && (a.parent == (claims i).dir) && (a.index == (claims i).offset) && bytes_eq a.name (names i))
    ∙ (λ i. itself a.inode i && itself a.parent i && itself a.index i && name_itself a.name i)

-- a rule that keeps each of some things finds nothing on all of them
module _ {X : Type 0} (kept : X → Bool) (finding : X → Finding) where
  nothing_by : (xs : List X) → AllByRecursion (λ x. kept x ≡ true) xs → filter_map (λ x. unless (kept x) (finding x)) xs ≡ []
  nothing_by [] all = refl
  nothing_by (x ∷ xs) all = ap (λ b. cons_option (unless b (finding x)) (filter_map (λ y. unless (kept y) (finding y)) xs)) all.0 ∙ nothing_by xs all.1

  -- there are no findings where the rule is kept for all of some things
  none_found : (xs : List X) → All (λ x. kept x ≡ true) xs → filter_map (λ x. unless (kept x) (finding x)) xs ≡ []
  none_found xs all = nothing_by xs (recursion_from_All (λ x. kept x ≡ true) xs all)

-- a directory without links is named by an orphan item too, where each inode without links is
removed_if : (directory unlinked named : Bool) → (not unlinked || named) ≡ true → (directory && unlinked) ≡ true → ((directory && unlinked) && named) ≡ true
removed_if true true named kept is = kept
removed_if true false named kept is = absurd (true≢false (sym is))
removed_if false unlinked named kept is = absurd (true≢false (sym is))

-- a directory without links that is there is the first inode, or one behind it
gone_first : (orphans : List ℕ) (at : InodeAt) (inodes : List InodeAt) (dir : ℕ) (is_it removed : Bool) → ((at.number == dir) && is_unlinked at) ≡ is_it
    → is_removed orphans at ≡ removed → orphan_kept orphans at ≡ true → (is_gone_in inodes dir ≡ true → is_among (removed_dirs orphans inodes) dir ≡ true)
    → (is_it || is_gone_in inodes dir) ≡ true
    → is_among (map (λ (one : InodeAt). one.number) (cond removed (at ∷ filter (is_removed orphans) inodes) (filter (is_removed orphans) inodes))) dir ≡ true
gone_first orphans at inodes dir true true it is kept rest gone =
    or_left (dir == at.number) (is_among (removed_dirs orphans inodes) dir)
    (eq-eqb dir at.number (sym (eqb-true at.number dir (two_hold (at.number == dir) (is_unlinked at) it).0)))
gone_first orphans at inodes dir true false it is kept rest gone =
    absurd (true≢false (sym (removed_if (format_of at.inode == 0o040000) (at.inode.nlink == 0) (is_among orphans at.number) kept
    (two_hold (at.number == dir) (is_unlinked at) it).1) ∙ is))
gone_first orphans at inodes dir false true it is kept rest gone = or_right (dir == at.number) (is_among (removed_dirs orphans inodes) dir) (rest gone)
gone_first orphans at inodes dir false false it is kept rest gone = rest gone

-- where each inode without links is an orphan, such directories are those that are being removed
gone_removed : (orphans : List ℕ) (inodes : List InodeAt) (dir : ℕ) → AllByRecursion (λ at. orphan_kept orphans at ≡ true) inodes
    → is_gone_in inodes dir ≡ true → is_among (removed_dirs orphans inodes) dir ≡ true
gone_removed orphans [] dir kept gone = gone
gone_removed orphans (at ∷ inodes) dir kept gone =
    gone_first orphans at inodes dir ((at.number == dir) && is_unlinked at) (is_removed orphans at) refl refl kept.0
    (gone_removed orphans inodes dir kept.1) gone

-- the mode of an entry's kind is the mode of some inode
some_mode : (kind : ℕ) → mode_of_kind kind ≡ 0 → ⊥
some_mode kind = by (kind == 1) (kind == 2) (kind == 3) (kind == 4) (kind == 5) (kind == 6)
  where
    by : (a b c d e f : Bool) → ◌≡◌ {A = ℕ} (if a then 0o100000 else if b then 0o040000 else if c then 0o020000 else if d then 0o060000
        else if e then 0o010000 else if f then 0o140000 else 0o120000) 0 → ⊥
    by true b c d e f h = absurd (omega arith)
    by false true c d e f h = absurd (omega arith)
    by false false true d e f h = absurd (omega arith)
    by false false false true e f h = absurd (omega arith)
    by false false false false true f h = absurd (omega arith)
    by false false false false false true h = absurd (omega arith)
    by false false false false false false h = absurd (omega arith)

-- where the inode that an entry leads to has the mode of the entry's kind, one that fits the entry is there
fits_there : (e : Entry) (inodes : List InodeAt) → mode_of_kind e.kind ≡ format_at inodes e.location.objectid → list_any (fits_mode e) inodes ≡ true
fits_there e [] is = absurd (some_mode e.kind is)
fits_there e (at ∷ inodes) is = by (at.number == e.location.objectid) refl (fits_there e inodes) is
  where
    by : (b : Bool) → (at.number == e.location.objectid) ≡ b
        → (mode_of_kind e.kind ≡ format_at inodes e.location.objectid → list_any (fits_mode e) inodes ≡ true)
        → mode_of_kind e.kind ≡ (if b then format_of at.inode else format_at inodes e.location.objectid)
        → (fits_mode e at || list_any (fits_mode e) inodes) ≡ true
    by true same rest mode =
        let number = eq-eqb e.location.objectid at.number (sym (eqb-true at.number e.location.objectid same)) in
        let format = eq-eqb (mode_of_kind e.kind) (format_of at.inode) mode in
        or_left (fits_mode e at) (list_any (fits_mode e) inodes) (λ i. number i && format i)
    by false same rest mode = or_right (fits_mode e at) (list_any (fits_mode e) inodes) (rest mode)

-- tests over what is made of a list
any_map : {X Y : Type 0} (f : X → Y) (t : Y → Bool) (xs : List X) → list_any (λ x. t (f x)) xs ≡ list_any t (map f xs)
any_map f t [] = refl
any_map f t (x ∷ xs) = ap (λ b. t (f x) || b) (any_map f t xs)

-- a test on the references that some entries ask for is one on the entries that lead to inodes
any_asked : (t : NameRef → Bool) (xs : List Entry) → list_any (λ (e : Entry). leads_to_inode e && t (ref_to e)) xs ≡ list_any t (asked xs)
any_asked t [] = refl
any_asked t (e ∷ xs) = by (leads_to_inode e) (any_asked t xs)
  where
    by : (b : Bool) → list_any (λ (one : Entry). leads_to_inode one && t (ref_to one)) xs ≡ list_any t (asked xs)
        → ((b && t (ref_to e)) || list_any (λ (one : Entry). leads_to_inode one && t (ref_to one)) xs)
        ≡ list_any t (map ref_to (cond b (e ∷ filter leads_to_inode xs) (filter leads_to_inode xs)))
    by true rest = ap (λ b. t (ref_to e) || b) rest
    by false rest = rest

both_of : (b c rest all : Bool) → (rest ≡ true → (all ≡ true) × (c ≡ true)) → ((b && c) || rest) ≡ true → ((b || all) ≡ true) × (c ≡ true)
both_of true true rest all two h = (refl, refl)
both_of true false rest all two h = (refl, (two h).1)
both_of false c rest all two h = two h

-- where something passes two tests, the second the same for all, something passes the first, and the second holds
any_both : {X : Type 0} (t : X → Bool) (c : Bool) (xs : List X) → list_any (λ x. t x && c) xs ≡ true → (list_any t xs ≡ true) × (c ≡ true)
any_both t c [] h = absurd (true≢false (sym h))
any_both t c (x ∷ xs) h = both_of (t x) c (list_any (λ y. t y && c) xs) (list_any t xs) (any_both t c xs) h

-- a directory without links or of the right size is being removed or of the right size, where each inode without links is an orphan
sized : (directory unlinked named fits : Bool) → (not unlinked || named) ≡ true → ((directory && unlinked) || fits) ≡ true
    → (((directory && unlinked) && named) || fits) ≡ true
sized true true named fits kept h = or_left named fits kept
sized true false named fits kept h = h
sized false unlinked named fits kept h = h

module _ (names : Names) where
  -- entries at indexes and those under hashes are as many, at each claim and name; so are links and references
  pub as_hashed : IsBalanced (entry_halves names) → (k : Claim) (n : List ℕ)
      → sum_by (by_index k true n names.inodes) names.indexed ≡ sum_by (by_hash k false n names.inodes) names.hashed
  as_hashed balanced k n =
      omega (
        arith,
        balanced k n,
        entries_are k true n names,
        entries_are k false n names,
        sum_none (by_hash k true n names.inodes) names.hashed (λ i d below. not_given k true n _ _ (λ is. true≢false (sym is.side))),
        sum_none (by_index k false n names.inodes) names.indexed (λ i d below. not_given k false n _ _ (λ is. true≢false is.side)),
      )

  -- entries that ask for references are as many as the references, at each claim and name
  pub as_referred : IsBalanced (link_halves names) → (k : Claim) (n : List ℕ)
      → sum_by (by_link k true n names.inodes) names.indexed ≡ sum_by (by_ref k false n names.dirid names.inodes) names.refs
  as_referred balanced k n =
      omega (
        arith,
        balanced k n,
        links_are k true n names,
        links_are k false n names,
        sum_none (by_ref k true n names.dirid names.inodes) names.refs (λ i d below. not_given k true n _ _ (λ is. true≢false (sym is.side))),
        sum_none (by_link k false n names.inodes) names.indexed (λ i d below. not_given k false n _ _ (λ is. true≢false is.side)),
      )

  -- what gives a half stands for what asks for it
  hash_stands : (a x : Entry) → 0 < by_hash (entry_claim a) false a.name names.inodes x → is_entry a x ≡ true
  hash_stands a x some =
      let it = (is_given (entry_claim a) false a.name (is_gone_in names.inodes x.dir) (half (entry_claim x) false x.name) some).0 in
      entry_by a x it.claim it.name

  -- an entry at an index that gives what an entry asks for is that one, under its name's hash
  index_stands : (a x : Entry) → 0 < by_index (entry_claim a) true a.name names.inodes x → is_entry a (under_hash x) ≡ true
  index_stands a x some =
      let it = (is_given (entry_claim a) true a.name (is_gone_in names.inodes x.dir) (half (entry_claim (under_hash x)) true x.name) some).0 in
      entry_by a (under_hash x) it.claim it.name

  -- an entry that gives what a reference asks for leads to an inode, by that reference
  link_stands : (f : ℕ) (r : NameRef) (e : Entry) → 0 < by_link (ref_claim f r) true r.name names.inodes e → (leads_to_inode e && same_ref r (ref_to e)) ≡ true
  link_stands f r e some =
      let it = is_given (ref_claim f r) true r.name (is_gone_in names.inodes e.dir || not (leads_to_inode e)) (half (link_claim e) true e.name) some in
      let leads = holds_not (leads_to_inode e) (neither (is_gone_in names.inodes e.dir) (not (leads_to_inode e)) it.1).1 in
      λ i. leads i && ref_by r (ref_to e) f (mode_of_kind e.kind) it.0.claim it.0.name i

  -- a reference that an entry asks for is of an inode that fits the entry
  ref_stands : (e : Entry) (r : NameRef) → 0 < by_ref (link_claim e) false e.name names.dirid names.inodes r
      → (same_ref (ref_to e) r && list_any (fits_mode e) names.inodes) ≡ true
  ref_stands e r some =
      let format = format_at names.inodes r.inode in
      let it = (is_given (link_claim e) false e.name (is_free names.dirid r) (half (ref_claim format r) false r.name) some).0 in
      let mode = fits_there e names.inodes (sym (ap (λ (c : Claim). c.kind) it.claim)
      ∙ ap (λ n. format_at names.inodes n) (ap (λ (c : Claim). c.target.objectid) it.claim)) in
      λ i. ref_by (ref_to e) r (mode_of_kind e.kind) format it.claim it.name i && mode i

module _ (names : Names) (settled : AreSettled names) where
  -- the directories that are being removed
  abbrev removed : List ℕ
  removed = removed_dirs names.orphans names.inodes

  -- a directory of a number is there, and has no links
  abbrev gone : ℕ → Bool
  gone dir = is_gone_in names.inodes dir

  -- each inode has links, or is an orphan
  orphans : All (λ at. orphan_kept names.orphans at ≡ true) names.inodes
  orphans = All-weaker (λ at. is_kept names at ≡ true) (λ at. orphan_kept names.orphans at ≡ true)
      (λ at h. (two_hold (is_counted (counted_in names at)) (orphan_kept names.orphans at) h).1) names.inodes settled.inodes

  -- a rule that speaks of entries but for those of directories that are being removed
  unless_gone : (dir : ℕ) (b kept : Bool) → gone dir ≡ b → (b ≡ false → kept ≡ true) → (is_among removed dir || kept) ≡ true
  unless_gone dir true kept is h =
      or_left (is_among removed dir) kept
      (gone_removed names.orphans names.inodes dir (recursion_from_All (λ at. orphan_kept names.orphans at ≡ true) names.inodes orphans) is)
  unless_gone dir false kept is h = or_right (is_among removed dir) kept (h refl)

  -- each entry at an index has one under its name's hash, unless its directory is being removed
  item_there : All (λ e. (is_among removed e.dir || list_any (is_entry (under_hash e)) names.hashed) ≡ true) names.indexed
  item_there i d below =
      let e = get_or names.indexed i d in
      let k = entry_claim (under_hash e) in
      unless_gone e.dir (gone e.dir) (list_any (is_entry (under_hash e)) names.hashed) refl
      (λ stays. found_by (by_hash k false e.name names.inodes) (is_entry (under_hash e)) (hash_stands names (under_hash e)) names.hashed
      (omega (
        arith,
        gives_it k true e.name (gone e.dir) stays,
        get_or-le-sum_by (by_index k true e.name names.inodes) names.indexed i d below,
        as_hashed names settled.entries k e.name,
      )))

  -- each entry under a hash has one at an index, unless its directory is being removed
  index_there : All (λ e. (is_among removed e.dir || list_any (is_entry e) (map under_hash names.indexed)) ≡ true) names.hashed
  index_there i d below =
      let e = get_or names.hashed i d in
      let k = entry_claim e in
      unless_gone e.dir (gone e.dir) (list_any (is_entry e) (map under_hash names.indexed)) refl
      (λ stays. sym (any_map under_hash (is_entry e) names.indexed)
      ∙ found_by (by_index k true e.name names.inodes) (λ x. is_entry e (under_hash x)) (index_stands names e) names.indexed
      (omega (
        arith,
        gives_it k false e.name (gone e.dir) stays,
        get_or-le-sum_by (by_hash k false e.name names.inodes) names.hashed i d below,
        as_hashed names settled.entries k e.name,
      )))

  -- where an entry asks for a reference of an inode, one is there, and the inode fits
  asked_there : (i : ℕ) (d : Entry) → i < length names.indexed → (leads : Bool) → leads_to_inode (get_or names.indexed i d) ≡ leads
      → gone (get_or names.indexed i d).dir ≡ false
      → ((not leads || list_any (same_ref (ref_to (get_or names.indexed i d))) names.refs) ≡ true)
      × ((not leads || list_any (fits_mode (get_or names.indexed i d)) names.inodes) ≡ true)
  asked_there i d below false leads stays = (refl, refl)
  asked_there i d below true leads stays =
      let e = get_or names.indexed i d in
      let k = link_claim e in
      any_both (same_ref (ref_to e)) (list_any (fits_mode e) names.inodes) names.refs
      (found_by (by_ref k false e.name names.dirid names.inodes) (λ r. same_ref (ref_to e) r && list_any (fits_mode e) names.inodes)
      (ref_stands names e) names.refs
      (omega (
        arith,
        gives_it k true e.name (gone e.dir || not (leads_to_inode e)) (λ j. stays j || not (leads j)),
        get_or-le-sum_by (by_link k true e.name names.inodes) names.indexed i d below,
        as_referred names settled.links k e.name,
      )))

  -- the inode that an entry leads to has its reference, unless the entry's directory is being removed
  ref_there : All (λ e. (is_among removed e.dir || ref_kept names.refs e) ≡ true) names.indexed
  ref_there i d below =
      let e = get_or names.indexed i d in
      unless_gone e.dir (gone e.dir) (ref_kept names.refs e) refl (λ stays. (asked_there i d below (leads_to_inode e) refl stays).0)

  -- the inode that an entry leads to is there and of its kind, unless the entry's directory is being removed
  mode_there : All (λ e. (is_among removed e.dir || mode_kept names.inodes e) ≡ true) names.indexed
  mode_there i d below =
      let e = get_or names.indexed i d in
      unless_gone e.dir (gone e.dir) (mode_kept names.inodes e) refl (λ stays. (asked_there i d below (leads_to_inode e) refl stays).1)

  -- each reference has its entry, but for that of the first directory to itself
  entry_there : All (λ r. (is_free names.dirid r || list_any (same_ref r) (asked names.indexed)) ≡ true) names.refs
  entry_there i d below = by (is_free names.dirid (get_or names.refs i d)) refl
    where
      by : (free : Bool) → is_free names.dirid (get_or names.refs i d) ≡ free
          → (free || list_any (same_ref (get_or names.refs i d)) (asked names.indexed)) ≡ true
      by true is = refl
      by false is =
          let r = get_or names.refs i d in
          let f = format_at names.inodes r.inode in
          let k = ref_claim f r in
          sym (any_asked (same_ref r) names.indexed)
          ∙ found_by (by_link k true r.name names.inodes) (λ e. leads_to_inode e && same_ref r (ref_to e)) (link_stands names f r) names.indexed
          (omega (
            arith,
            gives_it k false r.name (is_free names.dirid r) is,
            get_or-le-sum_by (by_ref k false r.name names.dirid names.inodes) names.refs i d below,
            as_referred names settled.links k r.name,
          ))

  -- an inode states how many references it has, and its size if it is a directory with links
  abbrev Counted : InodeAt → Type 0
  Counted at = (has_links at (links_of names.refs at.number) && (is_unlinked at || has_size at (names_size names.indexed at.number))) ≡ true

  -- each inode is counted so
  counted : All Counted names.inodes
  counted = All-weaker (λ at. is_kept names at ≡ true) Counted
      (λ at h. (two_hold (is_counted (counted_in names at)) (orphan_kept names.orphans at) h).0) names.inodes settled.inodes

  -- each inode states how many references it has
  links_there : All (λ at. has_links at (links_of names.refs at.number) ≡ true) names.inodes
  links_there = All-weaker Counted (λ at. has_links at (links_of names.refs at.number) ≡ true)
      (λ at h. (two_hold (has_links at (links_of names.refs at.number)) (is_unlinked at || has_size at (names_size names.indexed at.number)) h).0)
      names.inodes counted

  -- each directory states its size, unless it is being removed
  size_there : All (λ at. (is_removed names.orphans at || has_size at (names_size names.indexed at.number)) ≡ true) names.inodes
  size_there i d below =
      let at = get_or names.inodes i d in
      let size = has_size at (names_size names.indexed at.number) in
      sized (format_of at.inode == 0o040000) (at.inode.nlink == 0) (is_among names.orphans at.number) size (orphans i d below)
      (two_hold (has_links at (links_of names.refs at.number)) (is_unlinked at || size) (counted i d below)).1

  -- settled names have no findings
  pub nothing_wrong : names_findings names ≡ []
  nothing_wrong =
      let at_entry : Kind → Entry → Finding = λ which e. found which (names.tree ∷ e.dir ∷ e.offset ∷ []) in
      λ i. none_found (λ e. is_among removed e.dir || list_any (is_entry (under_hash e)) names.hashed) (at_entry kind.EntryItem) names.indexed item_there i
      ++ none_found (λ e. is_among removed e.dir || list_any (is_entry e) (map under_hash names.indexed)) (at_entry kind.EntryIndex) names.hashed index_there i
      ++ none_found (λ e. is_among removed e.dir || ref_kept names.refs e) (at_entry kind.EntryRef) names.indexed ref_there i
      ++ none_found (λ r. is_free names.dirid r || list_any (same_ref r) (asked names.indexed))
      (λ r. found kind.RefEntry (names.tree ∷ r.inode ∷ r.parent ∷ r.index ∷ [])) names.refs entry_there i
      ++ none_found (λ e. is_among removed e.dir || mode_kept names.inodes e) (at_entry kind.EntryMode) names.indexed mode_there i
      ++ none_found (λ at. has_links at (links_of names.refs at.number))
      (λ at. found kind.LinkCount (names.tree ∷ at.number ∷ at.inode.nlink ∷ shown_sum (links_of names.refs at.number) ∷ [])) names.inodes links_there i
      ++ none_found (λ at. is_removed names.orphans at || has_size at (names_size names.indexed at.number))
      (λ at. found kind.DirSize (names.tree ∷ at.number ∷ at.inode.size ∷ shown_sum (names_size names.indexed at.number) ∷ [])) names.inodes size_there i
      ++ none_found (λ at. orphan_kept names.orphans at) (λ at. found kind.Orphan (names.tree ∷ at.number ∷ [])) names.inodes orphans i

-- nothing is wrong with the names of a tree where they are settled
pub settled_law : SettledLaw
settled_law names settled = nothing_wrong names settled

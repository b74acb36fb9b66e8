-- How often halves are given, item by item.
use Rattle.std.proofs.Common.{◌≡◌, ℕ, ◌+◌, ◌<◌, Bool, true, false, cond, not, ◌&&◌, List, [], ◌∷◌, filter_map, sum_by, Option, Some, None}
use Rattle.std.proofs.Common.{if◌then◌else◌, refl, sym, ap, ◌∙◌, subst, true≢false, arith}
use Rattle.std.proofs.lemmas.List.Sums.{sum_by-append, sum_by-cons}
use Rattle.std.specs.List.{cons_option}
use Rattle.std.specs.Ordering.{is_eq}
use Rattle.std.specs.Str.{bytes_eq}
use Rattle.btr_check_names.specs.declared.claim.Claim.{Claim}
use Rattle.btr_check_names.specs.declared.inode_at.InodeAt.{InodeAt}
use Rattle.btr_check_names.specs.Entry.{Entry, NameRef}
use Rattle.btr_check_names.specs.Halves.{ClaimedHalf, gives, times, sided, index_half, hash_half, asked_half, ref_half, is_gone_in, format_at}
use Rattle.btr_check_names.specs.Halves.{entry_halves, link_halves}
use Rattle.btr_check_names.specs.Names.{Names}
use Rattle.btr_check_names.specs.Pairs.{claim_cmp}
use Rattle.btr_check_names.proofs.Claims.{claim_itself, name_itself, same_claim, same_names}
use Rattle.btr_check_names.proofs.Claims.{two_hold}

-- a half counts once where it is this one
abbrev pub given : Claim → Bool → List ℕ → Option ClaimedHalf → ℕ
given k s n None = 0
given k s n (Some half) = cond (gives k s n half) 1 0

-- the half of a claim, a side and a name
abbrev pub half : Claim → Bool → List ℕ → ClaimedHalf
half k s n = record { claim = k; is_first = s; name = n }

-- unless it is set aside
abbrev pub unless_aside : Bool → ClaimedHalf → Option ClaimedHalf
unless_aside aside one = if aside then None else Some one

-- sides that agree are the same
same_side : (a b : Bool) → cond a b (not b) ≡ true → a ≡ b
same_side true true h = refl
same_side true false h = absurd (true≢false (sym h))
same_side false true h = absurd (true≢false (sym h))
same_side false false h = refl

side_itself : (s : Bool) → cond s s (not s) ≡ true
side_itself true = refl
side_itself false = refl

-- what it is that a half is this one
pub record IsThis (k : Claim) (s : Bool) (n : List ℕ) (one : ClaimedHalf) : Type 0 where
  pub claim : one.claim ≡ k
  pub side : one.is_first ≡ s
  pub name : one.name ≡ n

-- a half that counts as this one has its claim, its side and its name
this : (k : Claim) (s : Bool) (n : List ℕ) (one : ClaimedHalf) → gives k s n one ≡ true → IsThis k s n one
this k s n one h =
    let first = two_hold (is_eq (claim_cmp k one.claim)) (cond one.is_first s (not s) && bytes_eq one.name n) h in
    let two = two_hold (cond one.is_first s (not s)) (bytes_eq one.name n) first.1 in
    record { claim = sym (same_claim k one.claim first.0); side = same_side one.is_first s two.0; name = same_names one.name n two.1 }

-- a half isn't this one where its claim or its side is another
gives_other : (k : Claim) (s : Bool) (n : List ℕ) (one : ClaimedHalf) (b : Bool) → gives k s n one ≡ b → (IsThis k s n one → ⊥) → b ≡ false
gives_other k s n one true is differs = absurd (differs (this k s n one is))
gives_other k s n one false is differs = refl

module _ (k : Claim) (s : Bool) (n : List ℕ) where
  -- a half is given once where it isn't set aside
  pub gives_it : (aside : Bool) → aside ≡ false → 0 < given k s n (unless_aside aside (half k s n))
  gives_it aside is =
      subst (λ b. 0 < given k s n (unless_aside b (half k s n))) (sym is)
      (subst (λ b. 0 < cond b 1 0) (sym (λ i. claim_itself k i && (side_itself s i && name_itself n i))) (omega arith))

  -- what is given is this, and not set aside
  pub is_given : (aside : Bool) (one : ClaimedHalf) → 0 < given k s n (unless_aside aside one) → IsThis k s n one × (aside ≡ false)
  is_given true one some = absurd (omega arith)
  is_given false one some = (by (gives k s n one) refl some, refl)
    where
      by : (b : Bool) → gives k s n one ≡ b → 0 < cond b 1 0 → IsThis k s n one
      by true is some = this k s n one is
      by false is some = absurd (omega arith)

  -- a half that isn't this one isn't given as it, set aside or not
  pub not_given : (aside : Bool) (one : ClaimedHalf) → (IsThis k s n one → ⊥) → given k s n (unless_aside aside one) ≡ 0
  not_given true one differs = refl
  not_given false one differs = ap (λ b. cond b 1 0) (gives_other k s n one (gives k s n one) refl differs)

module _ (k : Claim) (s : Bool) (n : List ℕ) where
  -- how often a half is given, where one more may come before the others
  times_first : (o : Option ClaimedHalf) (halves : List ClaimedHalf) → times (cons_option o halves) k s n ≡ given k s n o + times halves k s n
  times_first None halves = omega arith
  times_first (Some half) halves = sum_by-cons (λ one. cond (gives k s n one) 1 0) half halves

  -- how often some things give a half is the sum of what each of them gives
  pub times_of : {X : Type 0} (f : X → Option ClaimedHalf) (xs : List X) → times (filter_map f xs) k s n ≡ sum_by (λ x. given k s n (f x)) xs
  times_of f [] = refl
  times_of f (x ∷ xs) =
      times_first (f x) (filter_map f xs) ∙ ap (λ t. given k s n (f x) + t) (times_of f xs) ∙ sym (sum_by-cons (λ y. given k s n (f y)) x xs)

  -- what each thing adds, with some inodes
  abbrev pub by_index : List InodeAt → Entry → ℕ
  by_index inodes entry = given k s n (index_half (is_gone_in inodes entry.dir) entry)

  -- how often an entry under a hash gives the half
  abbrev pub by_hash : List InodeAt → Entry → ℕ
  by_hash inodes entry = given k s n (hash_half (is_gone_in inodes entry.dir) entry)

  -- how often an entry gives the half as it asks for a reference of an inode
  abbrev pub by_link : List InodeAt → Entry → ℕ
  by_link inodes entry = given k s n (asked_half (is_gone_in inodes entry.dir) entry)

  -- how often a reference of an inode gives the half
  abbrev pub by_ref : ℕ → List InodeAt → NameRef → ℕ
  by_ref dirid inodes ref = given k s n (ref_half dirid (format_at inodes ref.inode) ref)

  -- how often the names of a tree give a half
  abbrev pub entry_times : Names → ℕ
  entry_times names = sum_by (by_index names.inodes) names.indexed + sum_by (by_hash names.inodes) names.hashed

  -- how often the links of a tree give a half
  abbrev pub link_times : Names → ℕ
  link_times names = sum_by (by_link names.inodes) names.indexed + sum_by (by_ref names.dirid names.inodes) names.refs

  -- how often a half is among those of a tree's entries is the sum over these
  pub entries_are : (names : Names) → times (entry_halves names) k s n ≡ entry_times names
  entries_are names =
      let gone : ℕ → Bool = is_gone_in names.inodes in
      sum_by-append (λ one. cond (gives k s n one) 1 0) (filter_map (λ (e : Entry). index_half (gone e.dir) e) names.indexed)
      (filter_map (λ (e : Entry). hash_half (gone e.dir) e) names.hashed)
      ∙ (λ i. times_of (λ (e : Entry). index_half (gone e.dir) e) names.indexed i + times_of (λ (e : Entry). hash_half (gone e.dir) e) names.hashed i)

  -- how often a half is among those of a tree's links is the sum over entries and references
  pub links_are : (names : Names) → times (link_halves names) k s n ≡ link_times names
  links_are names =
      let ask : Entry → Option ClaimedHalf = λ e. asked_half (is_gone_in names.inodes e.dir) e in
      let refer : NameRef → Option ClaimedHalf = λ r. ref_half names.dirid (format_at names.inodes r.inode) r in
      sum_by-append (λ one. cond (gives k s n one) 1 0) (filter_map ask names.indexed) (filter_map refer names.refs)
      ∙ (λ i. times_of ask names.indexed i + times_of refer names.refs i)

-- a half whose side is exchanged agrees with a side where the half itself agrees with the other one
turns : (a s : Bool) → cond (not a) s (not s) ≡ cond a (not s) (not (not s))
turns true true = refl
turns true false = refl
turns false true = refl
turns false false = refl

-- the side on which a half counts
abbrev pub side : Bool → Bool → Bool
side is_turned s = cond is_turned (not s) s

-- a half whose side may be exchanged is given as often as the half itself on the side where it counts
pub given_sided : (k : Claim) (s : Bool) (n : List ℕ) (is_turned : Bool) (half : Option ClaimedHalf)
    → given k s n (sided is_turned half) ≡ given k (side is_turned s) n half
given_sided k s n false half = refl
given_sided k s n true None = refl
given_sided k s n true (Some half) = λ i. cond (is_eq (claim_cmp k half.claim) && (turns half.is_first s i && bytes_eq half.name n)) 1 0

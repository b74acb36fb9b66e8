-- What waits in a list and in a map together.
use Rattle.std.proofs.Common.{◌≡◌, ◌==◌, ◌++◌, Bool, true, false, cond, ◌&&◌, List, [], ◌∷◌, length, Option, Some, None, refl, sym, ap, ◌∙◌, true≢false}
use Rattle.std.proofs.Common.{ne_eqb, arith}
use Rattle.std.specs.BTreeMap.{is_at}
use Rattle.std.specs.FinMap.{FinMap, empty, entries, find, get, get-empty, get-entries, get-from_entries, get-insert, get-remove, insert, len, len-entries}
use Rattle.std.specs.FinMap.{remove, same_map}
use Rattle.std.specs.Option.{is_some, option_map}
use Rattle.std.proofs.lemmas.Cmp.{eq_by_cmp_equiv}
use Rattle.btr_check_names.specs.declared.claim.Claim.{Claim}
use Rattle.btr_check_names.specs.Pairs.{WaitOnce, Half, SetsOnly, claim_cmp, joined, map_at as at}
use Rattle.btr_check_names.proofs.Claims.{claim_itself, claims_total, one_claim, same_claim}
use Rattle.btr_check_names.proofs.Slotted.{none_in, none_at}

-- what waits at claims, as a list
abbrev Entries : Type 0
Entries = List (Claim × Half)

-- the first of two, if it is there, and else the second
abbrev either : Option Half → Option Half → Option Half
either None y = y
either (Some h) y = Some h

either_by : (b : Bool) (h : Half) (x y z : Option Half) → z ≡ either x y → cond b (Some h) z ≡ either (cond b (Some h) x) y
either_by true h x y z is = refl
either_by false h x y z is = is

-- what is found in two lists, one behind the other, is found in the first, or else in the second
find_both : (es map : Entries) (q : Claim) → find claim_cmp q (es ++ map) ≡ either (find claim_cmp q es) (find claim_cmp q map)
find_both [] map q = refl
find_both (e ∷ es) map q = either_by (is_at (claim_cmp q) e.0) e.1 (find claim_cmp q es) (find claim_cmp q map) (find claim_cmp q (es ++ map))
    (find_both es map q)

-- what a search finds in a map is what the map has at the claim
find_at : (map : Entries) (q : Claim) → find claim_cmp q map ≡ at map q
find_at [] q = refl
find_at (e ∷ es) q = ap (cond (is_at (claim_cmp q) e.0) (Some e.1)) (find_at es q)

-- what waits at a claim waits in the list, or else in the map
get_joined : (list : FinMap claim_cmp Half) (map : Entries) (q : Claim) → get (joined list map) q ≡ either (get list q) (at map q)
get_joined list map q =
    get-from_entries claims_total (entries list ++ map) q ∙ find_both (entries list) map q
    ∙ (λ i. either (sym (get-entries list q) i) (find_at map q i))

-- where a map differs from another one at one claim, the claim may come first or last
turned : (k q : Claim) (x : Option Half) (old new : Entries) → at new q ≡ cond (is_at (claim_cmp k) q) x (at old q)
    → at new q ≡ cond (is_at (claim_cmp q) k) x (at old q)
turned k q x old new is = is ∙ ap (λ b. cond b x (at old q)) ((eq_by_cmp_equiv claims_total).symm k q)

-- what is let go in each of two is let go in both together
gone_by : (b : Bool) (x y : Option Half) → either (cond b None x) (cond b None y) ≡ cond b None (either x y)
gone_by true x y = refl
gone_by false x y = refl

-- what is put in the first is there in both together
added_by : (b : Bool) (h : Half) (x y : Option Half) → either (cond b (Some h) x) y ≡ cond b (Some h) (either x y)
added_by true h x y = refl
added_by false h x y = refl

-- what is put in the second is there in both together, where the first has nothing
put_by : (b : Bool) (h : Half) (x y : Option Half) → (b ≡ true → x ≡ None) → either x (cond b (Some h) y) ≡ cond b (Some h) (either x y)
put_by true h x y none = ap (λ o. either o (Some h)) (none refl)
put_by false h x y none = refl

some_is_none : (h : Half) → Some h ≡ None → ⊥
some_is_none h is = cc

-- what is left after one was let go was there before
left_some : (b : Bool) (x : Option Half) (h : Half) → cond b None x ≡ Some h → x ≡ Some h
left_some true x h is = absurd (some_is_none h (sym is))
left_some false x h is = is

-- where nothing was, nothing is left
none_left : (b : Bool) (x : Option Half) → x ≡ None → cond b None x ≡ None
none_left true x none = refl
none_left false x none = none

-- what waited at a claim is let go in both
module _ (list : FinMap claim_cmp Half) (old new : Entries) (k : Claim) (gone : SetsOnly old k None new) where
  -- what is let go in the list and in the map is let go in what waits in either
  pub let_go_of_both : joined (remove list k) new ≡ remove (joined list old) k
  let_go_of_both = same_map claims_total one_claim _ _ (λ q.
      get_joined (remove list k) new q
      ∙ (λ i. either (get-remove claims_total list k q i) (turned k q None old new (gone q) i))
      ∙ gone_by (is_at (claim_cmp q) k) (get list q) (at old q)
      ∙ sym (get-remove claims_total (joined list old) k q ∙ ap (cond (is_at (claim_cmp q) k) None) (get_joined list old q)))

  -- what waits in the list doesn't wait in the map, also after a claim was let go
  pub apart_after : WaitOnce list old → WaitOnce (remove list k) new
  apart_after apart q h is =
      let before = left_some (is_at (claim_cmp q) k) (get list q) h (sym (get-remove claims_total list k q) ∙ is) in
      gone q ∙ none_left (is_at (claim_cmp k) q) (at old q) (apart q h before)

-- what is let go in the list waited in no map
pub gone_from_list : (list : FinMap claim_cmp Half) (map : Entries) (k : Claim) (h : Half) → WaitOnce list map → get list k ≡ Some h
    → SetsOnly map k None map
gone_from_list list map k h apart is q = none_at (is_at (claim_cmp k) q) (at map q) (λ same. ap (at map) (sym (same_claim k q same)) ∙ apart k h is)

-- of an empty list nothing waits in a map
pub apart_empty : (map : Entries) → WaitOnce empty map
apart_empty map k h is = absurd (some_is_none h (sym is ∙ get-empty claim_cmp k))

-- the first of two gave an answer, or the second one does
pub found_first : (list : FinMap claim_cmp Half) (map : Entries) (k : Claim) (f : Half → Bool) (fit : Bool) → Some fit ≡ option_map f (get list k)
    → Some fit ≡ option_map f (get (joined list map) k)
found_first list map k f fit is = by (get list k) is ∙ ap (option_map f) (sym (get_joined list map k))
  where
    by : (x : Option Half) → Some fit ≡ option_map f x → Some fit ≡ option_map f (either x (at map k))
    by None is = absurd (true≢false (ap is_some is))
    by (Some h) is = is

-- the first gave no answer, and that of the second is the answer of both
pub found_then : (list : FinMap claim_cmp Half) (map : Entries) (k : Claim) (f : Half → Bool) (fit : Option Bool) → None ≡ option_map f (get list k)
    → fit ≡ option_map f (at map k) → fit ≡ option_map f (get (joined list map) k)
found_then list map k f fit none is = by (get list k) none ∙ ap (option_map f) (sym (get_joined list map k))
  where
    by : (x : Option Half) → None ≡ option_map f x → fit ≡ option_map f (either x (at map k))
    by None none = is
    by (Some h) none = absurd (true≢false (sym (ap is_some none)))

-- where a list had something, it had
pub had_one : (list : FinMap claim_cmp Half) (k : Claim) (f : Half → Bool) (fit : Bool) → Some fit ≡ option_map f (get list k)
    → (h : Half) × (get list k ≡ Some h)
had_one list k f fit is = by (get list k) is
  where
    by : (x : Option Half) → Some fit ≡ option_map f x → (h : Half) × (x ≡ Some h)
    by None is = absurd (true≢false (ap is_some is))
    by (Some h) is = (h, refl)

-- where the first of two, or else the second, is nothing, both are
neither_by : (x y : Option Half) → either x y ≡ None → (x ≡ None) × (y ≡ None)
neither_by None y is = (refl, is)
neither_by (Some h) y is = absurd (some_is_none h is)

-- where nothing waits at a claim, it waits in neither of both
pub in_neither : (list : FinMap claim_cmp Half) (map : Entries) (k : Claim) → get (joined list map) k ≡ None → (get list k ≡ None) × (at map k ≡ None)
in_neither list map k none = neither_by (get list k) (at map k) (sym (get_joined list map k) ∙ none)

-- a name more waits in the list, or in the map
module _ (list : FinMap claim_cmp Half) (map : Entries) (k : Claim) (half : Half) (none : get (joined list map) k ≡ None) (apart : WaitOnce list map) where
  -- a name put in the list waits in the list and the map together
  pub wait_in_list : joined (insert list k half) map ≡ insert (joined list map) k half
  wait_in_list = same_map claims_total one_claim _ _ (λ q.
      get_joined (insert list k half) map q ∙ ap (λ x. either x (at map q)) (get-insert claims_total list k half q)
      ∙ added_by (is_at (claim_cmp q) k) half (get list q) (at map q)
      ∙ sym (get-insert claims_total (joined list map) k half q ∙ ap (cond (is_at (claim_cmp q) k) (Some half)) (get_joined list map q)))

  by_list : (b : Bool) (q : Claim) (h : Half) → is_at (claim_cmp q) k ≡ b → cond b (Some half) (get list q) ≡ Some h → at map q ≡ None
  by_list true q h same is = ap (at map) (same_claim q k same) ∙ (in_neither list map k none).1
  by_list false q h same is = apart q h is

  -- what waits in the list, with one name more, doesn't wait in the map
  pub apart_in_list : WaitOnce (insert list k half) map
  apart_in_list q h is = by_list (is_at (claim_cmp q) k) q h refl (sym (get-insert claims_total list k half q) ∙ is)

  module _ (new : Entries) (put : SetsOnly map k (Some half) new) where
    -- a name put in the map waits in the list and the map together
    pub wait_in_map : joined list new ≡ insert (joined list map) k half
    wait_in_map = same_map claims_total one_claim _ _ (λ q.
        get_joined list new q ∙ ap (either (get list q)) (turned k q (Some half) map new (put q))
        ∙ put_by (is_at (claim_cmp q) k) half (get list q) (at map q) (λ same. ap (get list) (same_claim q k same) ∙ (in_neither list map k none).0)
        ∙ sym (get-insert claims_total (joined list map) k half q ∙ ap (cond (is_at (claim_cmp q) k) (Some half)) (get_joined list map q)))

    by_map : (b : Bool) (q : Claim) (h : Half) → is_at (claim_cmp k) q ≡ b → get list q ≡ Some h → cond b (Some half) (at map q) ≡ None
    by_map true q h same is = absurd (some_is_none h (sym is ∙ ap (get list) (sym (same_claim k q same)) ∙ (in_neither list map k none).0))
    by_map false q h same is = apart q h is

    -- what waits in the list doesn't wait in the map with one name more
    pub apart_in_map : WaitOnce list new
    apart_in_map q h is = put q ∙ by_map (is_at (claim_cmp k) q) q h refl is

-- two lists together are empty just where each of them is
both_none : (es map : Entries) → (length (es ++ map) == 0) ≡ ((length es == 0) && (length map == 0))
both_none [] map = refl
both_none (e ∷ es) map =
    ne_eqb (length (e ∷ (es ++ map))) 0 (λ none. absurd (omega (arith, none)))
    ∙ ap (λ b. b && (length map == 0)) (sym (ne_eqb (length (e ∷ es)) 0 (λ none. absurd (omega (arith, none)))))

-- nothing waits where nothing waits in either
pub none_joined : (list : FinMap claim_cmp Half) (map : Entries) → (len (joined list map) == 0) ≡ ((len list == 0) && (length map == 0))
none_joined list map = none_in (entries list ++ map) ∙ both_none (entries list) map ∙ ap (λ n. (n == 0) && (length map == 0)) (sym (len-entries list))

-- nothing waits in two that are empty
pub none_both : (list : FinMap claim_cmp Half) (map : Entries) → list ≡ empty → map ≡ [] → joined list map ≡ empty
none_both list map no_list no_map =
    (λ i. joined (no_list i) (no_map i))
    ∙ same_map claims_total one_claim _ _ (λ q. get_joined empty [] q ∙ ap (λ x. either x None) (get-empty claim_cmp q) ∙ sym (get-empty claim_cmp q))

-- where nothing waits at a claim, letting it go changes nothing
pub none_let_go : (m : FinMap claim_cmp Half) (k : Claim) (f : Half → Bool) → None ≡ option_map f (get m k) → (get m k ≡ None) × (remove m k ≡ m)
none_let_go m k f none =
    let nothing = by (get m k) none in (
      nothing,
      same_map claims_total one_claim _ _ (λ q.
          get-remove claims_total m k q ∙ sym (none_at (is_at (claim_cmp q) k) (get m q) (λ same. ap (get m) (same_claim q k same) ∙ nothing))),
    )
  where
    by : (x : Option Half) → None ≡ option_map f x → x ≡ None
    by None is = refl
    by (Some h) is = absurd (true≢false (sym (ap is_some is)))

-- what was let go waits no more
pub gone_now : (m : FinMap claim_cmp Half) (k : Claim) → get (remove m k) k ≡ None
gone_now m k = get-remove claims_total m k k ∙ ap (λ b. cond b None (get m k)) (claim_itself k)

-- One more copy, and the newest of all.
use Rattle.std.proofs.Common.{◌≡◌, ◌⊎◌, inl, inr, ⊎_elim, ℕ, zero, suc, ◌+◌, ◌<◌, ◌≤◌, true, false, cond, leb, List, [], ◌∷◌, ◌++◌, length, Option, Some, None}
use Rattle.std.proofs.Common.{Result, Ok, Err, refl, sym, ap, ◌∙◌, subst, arith}
use Rattle.std.specs.List.{slice_get, filter_map}
use Rattle.std.proofs.lemmas.List.{append-nil}
use Rattle.std.proofs.lemmas.List.Elements.{filter_map-append}
use Rattle.std.proofs.lemmas.Bool.Decides.{nat_tests}
use Rattle.std.specs.Option.{MatchOption, option_to_list}
use Rattle.std.specs.Result.{result_ok}
use Rattle.btr_base.specs.Field.{bytes_at}
use Rattle.btr_super.specs.Super.{superblock}
use Rattle.btr_super.specs.Newest.{IsNewest, newest}
use Rattle.btr_super.proofs.Maximum.{newest_is}
use Rattle.btr_super.specs.Slot.{IsSoFar, valid, sum_kind, standing, first_kind, kind_then, chosen, slot_answer}
use Rattle.btr_super.specs.declared.superblock.Super.{Super}
use Rattle.btr_super.specs.declared.fault.SuperFault.{SuperFault}
use Rattle.btr_super.specs.declared.fault.SuperFault.TheVariants.{Magic, Place, SumKind, Sum}

-- what is at most a number passes the test of it
leb_true : (a b : ℕ) → a ≤ b → leb a b ≡ true
leb_true a b le = grind (arith, nat_tests)

-- what is greater than a number fails the test of it
leb_false : (a b : ℕ) → b < a → leb a b ≡ false
leb_false a b lt = grind (arith, nat_tests)

module _ {X : Type 0} where
  -- what stands in a list stands below its length
  get_below : (xs : List X) (k : ℕ) (x : X) → slice_get xs k ≡ Some x → k < length xs
  get_below [] k x e = absurd (cc)
  get_below (y ∷ xs) zero x e = omega arith
  get_below (y ∷ xs) (suc k) x e = omega (arith, get_below xs k x e)

  -- what stands in a list stands there in a longer one
  get_front : (xs ys : List X) (k : ℕ) (x : X) → slice_get xs k ≡ Some x → slice_get (xs ++ ys) k ≡ Some x
  get_front [] ys k x e = absurd (cc)
  get_front (y ∷ xs) ys zero x e = e
  get_front (y ∷ xs) ys (suc k) x e = get_front xs ys k x e

  -- what is put behind a list stands at its length
  get_last : (xs : List X) (x : X) → slice_get (xs ++ x ∷ []) (length xs) ≡ Some x
  get_last [] x = refl
  get_last (y ∷ xs) x = get_last xs x

  -- of a list with one more, what stands there is the list's own or the last
  get_cases : (xs : List X) (x : X) (k : ℕ) (t : X) → slice_get (xs ++ x ∷ []) k ≡ Some t → (slice_get xs k ≡ Some t) ⊎ ((k ≡ length xs) × (t ≡ x))
  get_cases [] x zero t e = inr (refl, cc)
  get_cases [] x (suc k) t e = absurd (cc)
  get_cases (y ∷ xs) x zero t e = inl e
  get_cases (y ∷ xs) x (suc k) t e = ⊎_elim (λ old. inl old) (λ new. inr (ap suc new.0, new.1)) (get_cases xs x k t e)

-- a copy that is not newer than the newest leaves it the newest
kept : (xs : List Super) (n s : Super) → IsNewest xs n → s.generation ≤ n.generation → IsNewest (xs ++ s ∷ []) n
kept xs n s is le = record {
  index = is.index;
  stands = get_front xs (s ∷ []) is.index n is.stands;
  greatest = λ k t e. ⊎_elim (is.greatest k t) (λ same. subst (λ x. x.generation ≤ n.generation) (sym same.1) le) (get_cases xs s k t e);
  first = λ k t lt e. ⊎_elim (is.first k t lt) (λ same. absurd (omega (arith, same.0, get_below xs is.index n is.stands))) (get_cases xs s k t e);
}

-- a copy that is newer than the newest is the newest then
beaten : (xs : List Super) (n s : Super) → IsNewest xs n → n.generation < s.generation → IsNewest (xs ++ s ∷ []) s
beaten xs n s is lt = record {
  index = length xs;
  stands = get_last xs s;
  greatest = λ k t e. ⊎_elim (λ old. omega (arith, is.greatest k t old)) (λ same. subst (λ x. x.generation ≤ s.generation) (sym same.1) (omega arith))
      (get_cases xs s k t e);
  first = λ k t below e. ⊎_elim (λ old. omega (arith, is.greatest k t old)) (λ same. absurd (omega (arith, same.0))) (get_cases xs s k t e);
}

-- one superblock alone is the newest
alone : (s : Super) → IsNewest (s ∷ []) s
alone s = record {
  index = 0;
  stands = refl;
  greatest = λ k t e. ⊎_elim (λ old. absurd (cc)) (λ same. subst (λ x. x.generation ≤ s.generation) (sym same.1) (omega arith)) (get_cases [] s k t e);
  first = λ k t below e. absurd (omega arith);
}

-- what stands at a place: a superblock, or why there is none
abbrev pub Found : Type 0
Found = Result Super SuperFault

-- the copy is newer than all so far
abbrev pub Beats : Option Super → Super → Type 0
Beats None s = Unit {0}
Beats (Some n) s = n.generation < s.generation

-- one more valid copy that is not newer leaves the newest and the kind as they are
pub sofar_same : (found : List Found) (n s : Super) (k : Option ℕ) → s.generation ≤ n.generation → IsSoFar found (record { newest = Some n; kind = k })
    → IsSoFar (found ++ Ok s ∷ []) (record { newest = Some n; kind = k })
sofar_same found n s k le so = record {
  newest = subst (λ l. IsNewest l n) (sym (filter_map-append result_ok found (Ok s ∷ []))) (kept (valid found) n s so.newest le);
  kind = so.kind ∙ sym (ap (λ l. slice_get l 0) (filter_map-append sum_kind found (Ok s ∷ []) ∙ append-nil (filter_map sum_kind found)));
}

-- one more valid copy that is newer than all so far is the newest, and leaves the kind as it is
pub sofar_newer : (found : List Found) (o : Option Super) (s : Super) (k : Option ℕ) → Beats o s → IsSoFar found (record { newest = o; kind = k })
    → IsSoFar (found ++ Ok s ∷ []) (record { newest = Some s; kind = k })
sofar_newer found o s k beats so = record {
  newest = subst (λ l. IsNewest l s) (sym (filter_map-append result_ok found (Ok s ∷ []))) (new o beats so.newest);
  kind = so.kind ∙ sym (ap (λ l. slice_get l 0) (filter_map-append sum_kind found (Ok s ∷ []) ∙ append-nil (filter_map sum_kind found)));
}
  where
    -- the newer copy is the newest, whether there was one before or not
    new : (o : Option Super) → Beats o s → MatchOption o (valid found ≡ []) (IsNewest (valid found)) → IsNewest (valid found ++ s ∷ []) s
    new None b none = subst (λ l. IsNewest (l ++ s ∷ []) s) (sym none) (alone s)
    new (Some n) b is = beaten (valid found) n s is b

-- the first of a list with perhaps one more is the list's own, else that one
first_push : (ks : List ℕ) (o : Option ℕ) → slice_get (ks ++ option_to_list o) 0 ≡ kind_then (slice_get ks 0) o
first_push [] None = refl
first_push [] (Some n) = refl
first_push (k ∷ ks) o = refl

-- one more copy that is no superblock leaves the newest, and its checksum type counts if it is the first
pub sofar_refused : (found : List Found) (o : Option Super) (k : Option ℕ) (fault : SuperFault) → IsSoFar found (record { newest = o; kind = k })
    → IsSoFar (found ++ Err fault ∷ []) (record { newest = o; kind = kind_then k (sum_kind (Err fault)) })
sofar_refused found o k fault so = record {
  newest = subst (λ l. MatchOption o (l ≡ []) (IsNewest l)) (sym (filter_map-append result_ok found (Err fault ∷ []) ∙ append-nil (valid found))) so.newest;
  kind = ap (λ j. kind_then j (sum_kind (Err fault))) so.kind ∙ sym (first_push (filter_map sum_kind found) (sum_kind (Err fault)))
      ∙ sym (ap (λ l. slice_get l 0) (filter_map-append sum_kind found (Err fault ∷ []) ∙ ap (λ l. filter_map sum_kind found ++ l) (one fault)));
}
  where
    -- of one copy the checksum type that isn't supported is its own, if it has one
    one : (fault : SuperFault) → filter_map sum_kind (Err fault ∷ []) ≡ option_to_list (sum_kind (Err fault))
    one Magic = refl
    one Place = refl
    one (SumKind n) = refl
    one Sum = refl

-- one more place whose bytes lie in the image adds what stands there
pub standing_fits : (image : List ℕ) (before : List ℕ) (place : ℕ) → place + 4096 ≤ length image → standing image (before ++ place ∷ [])
    ≡ standing image before ++ superblock (bytes_at 4096 place image) place ∷ []
unfolding standing
standing_fits image [] place le = ap (λ b. cond b (superblock (bytes_at 4096 place image) place ∷ []) []) (leb_true (place + 4096) (length image) le)
standing_fits image (p ∷ before) place le =
    elim (leb (p + 4096) (length image)) as (λ b. cond b (superblock (bytes_at 4096 p image) p ∷ standing image (before ++ place ∷ []))
    (standing image (before ++ place ∷ [])) ≡ cond b (superblock (bytes_at 4096 p image) p ∷ standing image before) (standing image before)
    ++ superblock (bytes_at 4096 place image) place ∷ []) [
      | true ↦ ap (λ l. superblock (bytes_at 4096 p image) p ∷ l) (standing_fits image before place le)
      | false ↦ standing_fits image before place le
    ]

-- one more place that reaches past the image's end adds nothing
pub standing_past : (image : List ℕ) (before : List ℕ) (place : ℕ) → length image < place + 4096 → standing image (before ++ place ∷ []) ≡ standing image before
unfolding standing
standing_past image [] place lt = ap (λ b. cond b (superblock (bytes_at 4096 place image) place ∷ []) []) (leb_false (place + 4096) (length image) lt)
standing_past image (p ∷ before) place lt = ap (λ l. cond (leb (p + 4096) (length image)) (superblock (bytes_at 4096 p image) p ∷ l) l)
    (standing_past image before place lt)

-- the answer of what was found, by the newest and the first kind
pub answered : (found : List Found) (o : Option Super) (k : Option ℕ) → IsSoFar found (record { newest = o; kind = k }) → slot_answer found ≡ chosen o k
answered found None k so = ap (λ l. chosen (newest l) (first_kind found)) so.newest ∙ ap (chosen None) (sym so.kind)
answered found (Some s) k so = ap (λ o. chosen o (first_kind found)) (newest_is (valid found) s so.newest)

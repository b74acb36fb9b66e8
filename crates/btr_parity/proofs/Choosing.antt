-- Ways to come by a slice that read no wrong element.
use Rattle.std.proofs.Common.{◌≡◌, ℕ, ◌<◌, ◌≤◌, List, [], ◌∷◌, All, length, get_or, set, refl, sym, ap, ◌∙◌, subst, ⊎_elim, inr, ◌⊎◌, ◌≢◌, arith}
use Rattle.std.proofs.lemmas.Bool.{cases_eq, cases_lt}
use Rattle.std.proofs.lemmas.List.{length-set, set-get_or, ext_get_or, get_or-set_same, get_or-set_other}
use Rattle.std.proofs.lemmas.List.Elements.{All-nil, All-cons, All-get_or, All-contains}
use Rattle.btr_parity.specs.Slices.{IsSlice, zeros, plus, parity_p, parity_q}
use Rattle.btr_parity.specs.Solutions.{IsTheOne, FitsP, FitsQ, FitsBoth}
use Rattle.btr_parity.specs.Ways.{Element, Slice, ParityP, ParityQ, Way, AsItStands, ByP, ByQ, ByBoth, IsWay, UsesElement, Stripe, bytes_of}
use Rattle.btr_parity.specs.Ways.{IsConsistent, Gives}
use Rattle.btr_parity.specs.Ways.{SomeWayReadsNoneWrong, RightElementsGiveRightSlice, SomeWayGivesRightSlice}
use Rattle.btr_parity.proofs.Folding.{quotient_is_one, pair_is_one}
use Rattle.btr_parity.proofs.Lost.{lost_by_p, lost_by_q, lost_by_both, plus_slice, parity_p_slice, weighted_slice, cleared}

module _ (n k : ℕ) where
  -- the way does not read the element
  abbrev Unread : Way → Element → Type 0
  Unread way element = UsesElement n k way element → ⊥

  -- the way reads none of the wrong elements
  abbrev AllUnread : Way → List Element → Type 0
  AllUnread way wrong = All (Unread way) wrong

  -- where nothing is wrong, the slice is taken as it stands
  none_wrong : AllUnread AsItStands []
  none_wrong = All-nil (Unread AsItStands)

  -- a way that does not read the one wrong element reads none
  one_wrong : (way : Way) (e : Element) → Unread way e → AllUnread way (e ∷ [])
  one_wrong way e h = All-cons (Unread way) e [] h (All-nil (Unread way))

  -- a way that reads neither of two wrong elements reads none
  two_wrong : (way : Way) (e f : Element) → Unread way e → Unread way f → AllUnread way (e ∷ f ∷ [])
  two_wrong way e f h g = All-cons (Unread way) e (f ∷ []) h (one_wrong way f g)

  -- a way that there is, and that reads none of the wrong elements
  Choice : ℕ → List Element → Type 0
  Choice parity wrong = (way : Way) × IsWay n k parity way × AllUnread way wrong

  -- an element is the slice itself, or isn't read where the slice is taken as it stands
  cases_own : (e : Element) → (UsesElement n k AsItStands e) ⊎ Unread AsItStands e
  cases_own (Slice i) = cases_eq i k
  cases_own ParityP = inr (λ h. h)
  cases_own ParityQ = inr (λ h. h)

  -- the slice itself is not read where it is come by by P
  own_unread_by_p : (e : Element) → UsesElement n k AsItStands e → Unread ByP e
  own_unread_by_p (Slice i) own r = r.1 own
  own_unread_by_p ParityP own r = own
  own_unread_by_p ParityQ own r = own

  -- the slice itself is not read where it is come by by Q
  own_unread_by_q : (e : Element) → UsesElement n k AsItStands e → Unread ByQ e
  own_unread_by_q (Slice i) own r = r.1 own
  own_unread_by_q ParityP own r = own
  own_unread_by_q ParityQ own r = own

  -- the slice itself is not read where it is come by by both parities
  own_unread_by_both : (j : ℕ) (e : Element) → UsesElement n k AsItStands e → Unread (ByBoth j) e
  own_unread_by_both j (Slice i) own r = r.1 own
  own_unread_by_both j ParityP own r = own
  own_unread_by_both j ParityQ own r = own

  -- where the slice itself is wrong, and one more element
  Rebuilds : ℕ → Element → Type 0
  Rebuilds parity f = (way : Way) × IsWay n k parity way × Unread way f × ((e : Element) → UsesElement n k AsItStands e → Unread way e)

  -- with two parities, the slice is rebuilt without another slice
  beside_slice : (parity i : ℕ) → 2 ≤ parity → i ≢ k → Rebuilds parity (Slice i)
  unfolding Rebuilds
  beside_slice parity i enough ne =
      ⊎_elim (λ lt. (ByBoth i, (enough, lt, ne), (λ r. r.2 refl), own_unread_by_both i))
      (λ le. (ByP, omega arith, (λ r. let within : i < n = r.0 in absurd (omega arith)), own_unread_by_p)) (cases_lt i n)

  -- with two parities, the slice is rebuilt without any one other element
  beside : (parity : ℕ) (f : Element) → 2 ≤ parity → Rebuilds parity f
  unfolding Rebuilds
  beside parity (Slice i) enough = ⊎_elim (λ same. (ByP, omega arith, (λ r. r.1 same), own_unread_by_p)) (λ ne. beside_slice parity i enough ne) (cases_eq i k)
  beside parity ParityP enough = (ByQ, enough, (λ r. r), own_unread_by_q)
  beside parity ParityQ enough = (ByP, omega arith, (λ r. r), own_unread_by_p)

  -- with at most as many wrong elements as there is parity, a way reads none of them
  choose : (parity : ℕ) (wrong : List Element) → length wrong ≤ parity → parity ≤ 2 → Choice parity wrong
  unfolding Choice Rebuilds
  choose parity [] few most = (AsItStands, tt, none_wrong)
  choose parity (e ∷ []) few most =
      ⊎_elim (λ own. (ByP, omega arith, one_wrong ByP e (own_unread_by_p e own))) (λ other. (AsItStands, tt, one_wrong AsItStands e other)) (cases_own e)
  choose parity (e ∷ f ∷ []) few most =
      let enough : 2 ≤ parity = omega arith in
      ⊎_elim
      (λ own_e. let b = beside parity f enough in (b.0, b.1, two_wrong b.0 e f (b.3 e own_e) b.2))
      (λ other_e. ⊎_elim
      (λ own_f. let b = beside parity e enough in (b.0, b.1, two_wrong b.0 e f b.2 (b.3 f own_f)))
      (λ other_f. (AsItStands, tt, two_wrong AsItStands e f other_e other_f)) (cases_own f))
      (cases_own e)
  choose parity (e ∷ f ∷ g ∷ wrong) few most = absurd (omega arith)

-- where at most as many elements are wrong as there is parity, some way reads none of them
pub some_way_reads_none_wrong : SomeWayReadsNoneWrong
unfolding Choice
some_way_reads_none_wrong n k parity wrong lt most few = choose n k parity wrong few most

-- ---- the slice that a way gives

-- a slice that meets equations with one solution is that one
settled : (size : ℕ) (E : List ℕ → Type 0) (X Y : List ℕ) → IsTheOne size E Y → IsSlice size X → E X → IsTheOne size E X
settled size E X Y one slice meets = subst (λ Z. IsTheOne size E Z) (sym (one.only X slice meets)) one

-- equations that say the same have the same one solution
same_equations : (size : ℕ) (E F : List ℕ → Type 0) (X : List ℕ) → ((Z : List ℕ) → E Z → F Z) → ((Z : List ℕ) → F Z → E Z) → IsTheOne size E X
    → IsTheOne size F X
same_equations size E F X to from one = record { slice = one.slice; meets = to X one.meets; only = λ Z slice meets. one.only Z slice (from Z meets) }

module _ (size n k : ℕ) (held right : Stripe) (lt : k < n) (most : n ≤ 63) (count : length held.slices ≡ n) (whole : IsConsistent size n right) where
  -- the right slice
  abbrev slice : List ℕ
  slice = get_or right.slices k []

  -- the right stripe has a slice k
  abbrev here : k < length right.slices
  here = omega (arith, whole.count)

  -- the right slice is of the size
  slice_is : IsSlice size slice
  slice_is = All-get_or (IsSlice size) right.slices k [] (omega (arith, whole.count)) whole.sizes

  -- the right P is a slice of the size
  p_is : IsSlice size right.p
  p_is = subst (IsSlice size) whole.p (parity_p_slice size right.slices whole.sizes)

  -- the right Q is a slice of the size
  q_is : IsSlice size right.q
  q_is = subst (IsSlice size) whole.q (weighted_slice size 0 right.slices whole.sizes)

  -- where all other slices are right, the slices with Z in place k are the same
  with_one : ((i : ℕ) → i < n → i ≢ k → get_or held.slices i [] ≡ get_or right.slices i []) → (Z : List ℕ) → set held.slices k Z ≡ set right.slices k Z
  with_one same Z =
      ext_get_or [] (set held.slices k Z) (set right.slices k Z) (length-set held.slices k Z ∙ count ∙ sym whole.count ∙ sym (length-set right.slices k Z))
      (λ i h. let within : i < n = omega (arith, length-set held.slices k Z) in
      ⊎_elim (λ e. ap (λ m. get_or (set held.slices k Z) m []) e ∙ get_or-set_same held.slices k Z [] (omega arith)
      ∙ sym (ap (λ m. get_or (set right.slices k Z) m []) e ∙ get_or-set_same right.slices k Z [] (omega (arith, whole.count))))
      (λ ne. get_or-set_other held.slices k i Z [] ne ∙ same i within ne ∙ sym (get_or-set_other right.slices k i Z [] ne)) (cases_eq i k))

  -- where P and all other slices are right, P gives the right slice
  by_p : ((i : ℕ) → i < n → i ≢ k → get_or held.slices i [] ≡ get_or right.slices i []) → held.p ≡ right.p → Gives size held k ByP slice
  by_p same p =
      same_equations size (FitsP size right.slices right.p k) (FitsP size held.slices held.p k) slice
      (λ Z e. ap (parity_p size) (with_one same Z) ∙ e ∙ sym p) (λ Z e. ap (parity_p size) (sym (with_one same Z)) ∙ e ∙ p)
      (settled size (FitsP size right.slices right.p k) slice _ (lost_by_p size k right.slices right.p whole.sizes (omega (arith, whole.count)) p_is) slice_is
      (ap (parity_p size) (set-get_or right.slices k []) ∙ whole.p))

  -- where Q and all other slices are right, Q gives the right slice
  by_q : ((i : ℕ) → i < n → i ≢ k → get_or held.slices i [] ≡ get_or right.slices i []) → held.q ≡ right.q → Gives size held k ByQ slice
  by_q same q =
      let R = parity_q size (set right.slices k (zeros size)) in
      let hR = weighted_slice size 0 (set right.slices k (zeros size)) (cleared size k right.slices whole.sizes) in
      let found = quotient_is_one size k (plus right.q R) (omega arith) (plus_slice size right.q R q_is hR) in
      same_equations size (FitsQ size right.slices right.q k) (FitsQ size held.slices held.q k) slice
      (λ Z e. ap (parity_q size) (with_one same Z) ∙ e ∙ sym q) (λ Z e. ap (parity_q size) (sym (with_one same Z)) ∙ e ∙ q)
      (settled size (FitsQ size right.slices right.q k) slice found.0
      (lost_by_q size k right.slices right.q found.0 whole.sizes (omega (arith, whole.count)) q_is found.1) slice_is
      (ap (parity_q size) (set-get_or right.slices k []) ∙ whole.q))

  -- and where all but two are right, with any slices in both places
  with_two : (j : ℕ) → j < n → ((i : ℕ) → i < n → i ≢ k → i ≢ j → get_or held.slices i [] ≡ get_or right.slices i [])
      → (Y Z : List ℕ) → set (set held.slices j Y) k Z ≡ set (set right.slices j Y) k Z
  with_two j within same Y Z =
      ext_get_or [] (set (set held.slices j Y) k Z) (set (set right.slices j Y) k Z)
      (length-set (set held.slices j Y) k Z ∙ length-set held.slices j Y ∙ count ∙ sym whole.count
      ∙ sym (length-set (set right.slices j Y) k Z ∙ length-set right.slices j Y))
      (λ i h. let inside : i < n = omega (arith, length-set (set held.slices j Y) k Z, length-set held.slices j Y) in
      ⊎_elim
      (λ e. ap (λ m. get_or (set (set held.slices j Y) k Z) m []) e ∙ get_or-set_same (set held.slices j Y) k Z [] (omega (arith, length-set held.slices j Y))
      ∙ sym (ap (λ m. get_or (set (set right.slices j Y) k Z) m []) e
      ∙ get_or-set_same (set right.slices j Y) k Z [] (omega (arith, whole.count, length-set right.slices j Y))))
      (λ ne. get_or-set_other (set held.slices j Y) k i Z [] ne
      ∙ ⊎_elim
      (λ e. ap (λ m. get_or (set held.slices j Y) m []) e ∙ get_or-set_same held.slices j Y [] (omega arith)
      ∙ sym (ap (λ m. get_or (set right.slices j Y) m []) e ∙ get_or-set_same right.slices j Y [] (omega (arith, whole.count))))
      (λ other. get_or-set_other held.slices j i Y [] other ∙ same i inside ne other ∙ sym (get_or-set_other right.slices j i Y [] other)) (cases_eq i j)
      ∙ sym (get_or-set_other (set right.slices j Y) k i Z [] ne)) (cases_eq i k))

  -- where P, Q and all but two slices are right, both give the right slice
  by_both : (j : ℕ) → j < n → j ≢ k → ((i : ℕ) → i < n → i ≢ k → i ≢ j → get_or held.slices i [] ≡ get_or right.slices i []) → held.p ≡ right.p
      → held.q ≡ right.q
      → Gives size held k (ByBoth j) slice
  by_both j within differ same p q =
      let others = set (set right.slices j (zeros size)) k (zeros size) in
      let sizes : All (IsSlice size) others = cleared size k (set right.slices j (zeros size)) (cleared size j right.slices whole.sizes) in
      let R = parity_p size others in
      let S = parity_q size others in
      let ne : k ≢ j = λ e. differ (sym e) in
      let found = pair_is_one size k j (plus right.p R) (plus right.q S) (omega arith) (omega arith) ne
      (plus_slice size right.p R p_is (parity_p_slice size others sizes)) (plus_slice size right.q S q_is (weighted_slice size 0 others sizes)) in
      let Y = get_or right.slices j [] in
      let back : set (set right.slices j Y) k slice ≡ right.slices = ap (λ l. set l k slice) (set-get_or right.slices j []) ∙ set-get_or right.slices k [] in
      same_equations size (FitsBoth size right.slices right.p right.q k j) (FitsBoth size held.slices held.p held.q k j) slice
      (λ Z e. record {
        other = e.other;
        slice = e.slice;
        sum = ap (parity_p size) (with_two j within same e.other Z) ∙ e.sum ∙ sym p;
        weighted_sum = ap (parity_q size) (with_two j within same e.other Z) ∙ e.weighted_sum ∙ sym q;
      })
      (λ Z e. record {
        other = e.other;
        slice = e.slice;
        sum = ap (parity_p size) (sym (with_two j within same e.other Z)) ∙ e.sum ∙ p;
        weighted_sum = ap (parity_q size) (sym (with_two j within same e.other Z)) ∙ e.weighted_sum ∙ q;
      })
      (settled size (FitsBoth size right.slices right.p right.q k j) slice found.0
      (lost_by_both size k j right.slices right.p right.q found.0 whole.sizes (omega (arith, whole.count)) (omega (arith, whole.count)) ne p_is q_is
      found.1) slice_is
      (record {
        other = Y;
        slice = All-get_or (IsSlice size) right.slices j [] (omega (arith, whole.count)) whole.sizes;
        sum = ap (parity_p size) back ∙ whole.p;
        weighted_sum = ap (parity_q size) back ∙ whole.q;
      }))

  -- where all elements that a way reads are right, the way gives the right slice
  gives : (parity : ℕ) (way : Way) → IsWay n k parity way → ((element : Element) → UsesElement n k way element → bytes_of held element
      ≡ bytes_of right element) → Gives size held k way slice
  gives parity AsItStands is same = same (Slice k) refl
  gives parity ByP is same = by_p (λ i h ne. same (Slice i) (h, ne)) (same ParityP tt)
  gives parity ByQ is same = by_q (λ i h ne. same (Slice i) (h, ne)) (same ParityQ tt)
  gives parity (ByBoth j) is same = by_both j is.1 is.2 (λ i h ne other. same (Slice i) (h, ne, other)) (same ParityP tt) (same ParityQ tt)

-- a way that reads right elements gives the right slice
pub right_elements_give_right_slice : RightElementsGiveRightSlice
right_elements_give_right_slice size n k parity held right way lt most count whole is same = gives size n k held right lt most count whole parity way is same

-- where at most as many elements are wrong as there is parity, some way gives the right slice
pub some_way_gives_right_slice : SomeWayGivesRightSlice
some_way_gives_right_slice size n k parity held right wrong lt most enough few count whole same =
    let choice = some_way_reads_none_wrong n k parity wrong lt enough few in
    let way = choice.0 in (
      way,
      choice.1,
      right_elements_give_right_slice size n k parity held right way lt most count whole choice.1
          (λ element reads. same element (λ among. All-contains (λ e. UsesElement n k way e → ⊥) wrong element choice.2 among reads)),
    )

-- Lists in pages.
use Rattle.std.proofs.Common.{◌≡◌, ℕ, zero, suc, ◌+◌, ◌-◌, ◌*◌, ◌/◌, ◌%◌, ◌<◌, ◌≤◌, List, [], ◌∷◌, ◌++◌, length, Some, None, Result, Ok, Err, OnOk, OnErr, drop}
use Rattle.std.proofs.Common.{set, slice_get, take, Vec, refl, sym, ap, ◌∙◌, subst, arith, append_assoc, append-nil, length-append}
use Rattle.std.proofs.Math.Seq.{take-suc}
use Rattle.btr_scrub.proofs.Common.{Global, get_or_from_slice_get, items_in, length-drop, same_Some, slice_get_within}
use Rattle.std.proofs.lemmas.List.{get_or-drop, take_more_set}
use Rattle.btr_scrub.specs.Pages.{AreFull}

module _ {T : Type 0} where
  -- one more item
  pub pushed : (full : List (Vec T Global)) (last more : List T) → items_in full (last ++ more) ≡ items_in full last ++ more
  pushed [] last more = refl
  pushed (p ∷ ps) last more = ap (λ xs. p.items ++ xs) (pushed ps last more) ∙ sym (append_assoc p.items (items_in ps last) more)

  -- the last page goes to the others
  pub turned : (full : List (Vec T Global)) (page : Vec T Global) → items_in (full ++ page ∷ []) [] ≡ items_in full page.items
  turned [] page = append-nil page.items
  turned (p ∷ ps) page = ap (λ xs. p.items ++ xs) (turned ps page)

  -- a page with 4096 items can stand among the full ones
  pub turned_full : (full : List (Vec T Global)) (page : Vec T Global) → AreFull full → length page.items ≡ 4096 → AreFull (full ++ page ∷ [])
  turned_full [] page h e = (e, tt)
  turned_full (p ∷ ps) page h e = (h.0, turned_full ps page h.1 e)

-- an item of the first of two lists, and of the second
get_left : {T : Type 0} (xs ys : List T) (i : ℕ) → i < length xs → slice_get (xs ++ ys) i ≡ slice_get xs i
get_left [] ys i lt = absurd (omega (arith, lt))
get_left (x ∷ xs) ys zero lt = refl
get_left (x ∷ xs) ys (suc i) lt = get_left xs ys i (omega (arith, lt))

-- an item of the second of two lists lies behind the first
get_right : {T : Type 0} (xs ys : List T) (i : ℕ) → slice_get (xs ++ ys) (length xs + i) ≡ slice_get ys i
get_right [] ys i = ap (slice_get ys) (omega arith)
get_right (x ∷ xs) ys i =
    let next : suc (length xs) + i ≡ suc (length xs + i) = omega arith in
    ap (slice_get (x ∷ (xs ++ ys))) next ∙ get_right xs ys i

module _ {T : Type 0} where
  -- an item of a page
  pub in_page : (full : List (Vec T Global)) (last : List T) (page : Vec T Global) (k rest : ℕ) → AreFull full → slice_get full k ≡ Some page
      → rest < 4096 → slice_get (items_in full last) (k * 4096 + rest) ≡ slice_get page.items rest
  in_page [] last page k rest h e lt = absurd (none_some e)
    where
      none_some : None ≡ Some page → ⊥
      none_some e = cc
  in_page (p ∷ ps) last page zero rest h e lt =
      let on : 0 * 4096 + rest ≡ rest = omega arith in
      ap (slice_get (p.items ++ items_in ps last)) on ∙ get_left p.items (items_in ps last) rest (omega (arith, lt, h.0))
      ∙ ap (λ (v : Vec T Global). slice_get v.items rest) (same_Some p page e)
  in_page (p ∷ ps) last page (suc k) rest h e lt =
      let on : suc k * 4096 + rest ≡ length p.items + (k * 4096 + rest) = omega (arith, h.0) in
      ap (slice_get (p.items ++ items_in ps last)) on ∙ get_right p.items (items_in ps last) (k * 4096 + rest) ∙ in_page ps last page k rest h.1 e lt

  -- an item behind the pages
  pub behind_pages : (full : List (Vec T Global)) (last : List T) (i : ℕ) → AreFull full → slice_get (items_in full last) (length full * 4096 + i)
      ≡ slice_get last i
  behind_pages [] last i h = ap (slice_get last) (omega arith)
  behind_pages (p ∷ ps) last i h =
      let on : suc (length ps) * 4096 + i ≡ length p.items + (length ps * 4096 + i) = omega (arith, h.0) in
      ap (slice_get (p.items ++ items_in ps last)) on ∙ get_right p.items (items_in ps last) (length ps * 4096 + i) ∙ behind_pages ps last i h.1

  -- the last page was put to the others, or not for want of memory
  pub made_full : {E : Type 0} (full full' : List (Vec T Global)) (page : Vec T Global) (result : Result (Unit {0}) E) → AreFull full
      → OnOk result (full' ≡ full ++ page ∷ []) → OnErr result (full' ≡ full) → length page.items ≡ 4096 → AreFull full'
  made_full full full' page (Ok u) h grown refused long = subst AreFull (sym grown) (turned_full full page h long)
  made_full full full' page (Err e) h grown refused long = subst AreFull (sym refused) h

  -- an item of a full page is read there
  pub page_read : (full : List (Vec T Global)) (last : List T) (page : Vec T Global) (i : ℕ) → AreFull full → slice_get full (i / 4096) ≡ Some page
      → slice_get (items_in full last) i ≡ slice_get page.items (i % 4096)
  page_read full last page i h e =
      let is : i ≡ i / 4096 * 4096 + i % 4096 = omega arith in
      ap (slice_get (items_in full last)) is ∙ in_page full last page (i / 4096) (i % 4096) h e (omega arith)

  -- one behind the full pages is read from the last
  pub behind_read : (full : List (Vec T Global)) (last : List T) (n i : ℕ) → AreFull full → n ≡ length full → n ≤ i / 4096
      → slice_get (items_in full last) i ≡ slice_get last (i - n * 4096)
  behind_read full last n i h e le =
      let is : i ≡ length full * 4096 + (i - n * 4096) = omega (arith, e, le) in
      ap (slice_get (items_in full last)) is ∙ behind_pages full last (i - n * 4096) h

  -- the items with those behind the pages, and without
  pub counted : (full : List (Vec T Global)) (last : List T) → length (items_in full last) ≡ length (items_in full []) + length last
  counted full last = ap length (pushed full [] last) ∙ length-append (items_in full []) last

  -- there is one item more at most
  pub one_more : {E : Type 0} (full : List (Vec T Global)) (last last' : List T) (item : T) (result : Result (Unit {0}) E) (len : ℕ)
      → length (items_in full last) ≤ len → OnOk result (last' ≡ last ++ item ∷ []) → OnErr result (last' ≡ last) → length (items_in full last') ≤ len + 1
  one_more full last last' item (Ok u) len le grown refused =
      let is : length (items_in full last') ≡ length (items_in full last) + 1 =
      ap (λ xs. length (items_in full xs)) grown ∙ ap length (pushed full last (item ∷ [])) ∙ length-append (items_in full last) (item ∷ []) in
      omega (arith, is, le)
  one_more full last last' item (Err e) len le grown refused =
      let is : length (items_in full last') ≡ length (items_in full last) = ap (λ xs. length (items_in full xs)) refused in omega (arith, is, le)

  -- the items are those of the full pages, and those of the last one
  pub all_counted : (full : List (Vec T Global)) (last : List T) → AreFull full → length (items_in full last) ≡ length full * 4096 + length last
  all_counted [] last h = omega arith
  all_counted (p ∷ ps) last h =
      let more = all_counted ps last h.1 in
      let both = length-append p.items (items_in ps last) in
      omega (arith, more, both, h.0)

-- one item more is copied
pub copied_more : {T : Type 0} (out items : List T) (at i : ℕ) (x : T) → i < length out → take i out ≡ take i (drop at items)
    → slice_get items (at + i) ≡ Some x → take (i + 1) (set out i x) ≡ take (i + 1) (drop at items)
copied_more out items at i x lt same e =
    let there = slice_get_within items (at + i) x e in
    let long = length-drop at items in
    let within : i < length (drop at items) = omega (arith, there, long) in
    let next : i + 1 ≡ suc i = omega arith in
    take_more_set out i x lt
    ∙ ap (λ q. q ++ x ∷ []) same
    ∙ ap (λ q. take i (drop at items) ++ q ∷ []) (sym (get_or-drop at items i x ∙ get_or_from_slice_get items (at + i) x x e))
    ∙ sym (take-suc (drop at items) i x within)
    ∙ ap (λ n. take n (drop at items)) (sym next)

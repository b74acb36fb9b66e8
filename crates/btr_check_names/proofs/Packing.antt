-- Names in one buffer, one more at a time.
use Rattle.std.proofs.Common.{◌≡◌, ℕ, ◌+◌, ◌-◌, ◌≤◌, List, [], ◌∷◌, ◌++◌, length, map, take, drop, All, refl, ap, ◌∙◌, arith, length-drop}
use Rattle.std.proofs.lemmas.List.{take-append-le, drop-append-le, take_all, map-append}
use Rattle.std.proofs.lemmas.List.Elements.{All-head, All-tail}
use Rattle.std.proofs.Math.Seq.{drop-append_seam}
use Rattle.btr_check_names.specs.declared.name_place.NamePlace.{NamePlace}
use Rattle.btr_check_names.specs.Packed.{HasNameAt, name_in}

-- a name stays where it is as others come behind it
name_stays : (names more : List ℕ) (place : NamePlace) → HasNameAt names place → name_in (names ++ more) place ≡ name_in names place
name_stays names more place within =
    let begins : place.at ≤ length names = omega arith in
    let ends : (place.at + place.len) - place.at ≤ length (drop place.at names) = omega (arith, length-drop place.at names) in
    ap (take ((place.at + place.len) - place.at)) (drop-append-le place.at names more begins)
    ∙ take-append-le ((place.at + place.len) - place.at) (drop place.at names) more ends

-- the last name is the one that was put there
name_last : (names name : List ℕ) (place : NamePlace) → place.at ≡ length names → place.len ≡ length name → name_in (names ++ name) place ≡ name
name_last names name place at len =
    ap (λ n. take ((n + place.len) - n) (drop n (names ++ name))) at ∙ ap (take ((length names + place.len) - length names)) (drop-append_seam names name)
    ∙ take_all ((length names + place.len) - length names) name (omega arith)

module _ {R X : Type 0} (place : R → NamePlace) (make : R → List ℕ → X) where
  -- what a row says, with its name from the buffer
  abbrev row_shown : List ℕ → R → X
  row_shown names row = make row (name_in names (place row))

  -- what rows say stays as more names come behind theirs
  rows_stay : (names more : List ℕ) (rows : List R) → All (λ row. HasNameAt names (place row)) rows → map (row_shown (names ++ more)) rows
      ≡ map (row_shown names) rows
  rows_stay names more [] within = refl
  rows_stay names more (row ∷ rows) within =
      let P : R → Type 0 = λ r. HasNameAt names (place r) in
      let first : row_shown (names ++ more) row ≡ row_shown names row = ap (make row) (name_stays names more (place row) (All-head P row rows within)) in
      let rest : map (row_shown (names ++ more)) rows ≡ map (row_shown names) rows = rows_stay names more rows (All-tail P row rows within) in
      λ i. first i ∷ rest i

  -- one more row, and its name
  pub rows_more : (names new name : List ℕ) (rows all : List R) (row : R) → All (λ r. HasNameAt names (place r)) rows → new ≡ names ++ name → all
      ≡ rows ++ row ∷ []
      → (place row).at ≡ length names → (place row).len ≡ length name → map (λ r. make r (name_in new (place r))) all
      ≡ map (λ r. make r (name_in names (place r))) rows ++ make row name ∷ []
  rows_more names new name rows all row within is-new is-all at len =
      ap (λ n. map (row_shown n) all) is-new ∙ ap (map (row_shown (names ++ name))) is-all
      ∙ map-append (row_shown (names ++ name)) rows (row ∷ [])
      ∙ (λ i. rows_stay names name rows within i ++ make row (name_last names name (place row) at len i) ∷ [])

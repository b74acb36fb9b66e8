-- Texts of many lines, written one after another.
use Rattle.std.proofs.Common.{◌≡◌, ℕ, ◌+◌, ◌-◌, ◌*◌, ◌<◌, ◌≤◌, leb, eqb, true, false, cond, IsTrue, length, get_or, codes, List, [], ◌∷◌, ◌++◌, Option, Some}
use Rattle.std.proofs.Common.{None, Result, Ok, Err, refl, sym, ap, ◌∙◌, subst, arith}
use Rattle.std.proofs.lemmas.List.{append_assoc, append-nil}
use Rattle.std.proofs.lemmas.Bool.{and_parts, eqb-true, false≢true}
use Rattle.std.proofs.lemmas.List.Elements.{All-head, All-tail}
use Rattle.std.specs.List.{All, flat_map, range_with_len}
use Rattle.btr_base.specs.Field.{number_at}
use Rattle.btr_items.specs.ChunkItem.{has_chunk_size}
use Rattle.btr_items.specs.declared.fault.ItemFault.{ItemFault}
use Rattle.std.specs.Option.{IsSome}
use Rattle.std.specs.Result.{IfOk}
use Rattle.btr_node.specs.Block.{level_of, items, pointers, is_leaf, is_inner}
use Rattle.btr_node.specs.Node.{node_of}
use Rattle.btr_node.specs.declared.node.Node.TheVariants.{Leaf, Inner}
use Rattle.btr_node.proofs.Tables.{range_first}
use Rattle.btr_node.proofs.Leaves.{leaf_level}
use Rattle.btr_node.proofs.Inners.{inner_leaf}
use Rattle.btr_rack.specs.declared.error.SinkError.{SinkError}
use Rattle.btr_text.specs.Text.{Wrote, WasCut, WritesOut}
use Rattle.btr_text.proofs.Writing.{wrote_nothing, wrote_then, wrote_as, cut_then, cut_longer, cut_as, writes_then, writes_as}
use Rattle.btr_text.specs.Pieces.{bytes_text}
use Rattle.btr_block_text.specs.Items.{raw_line}
use Rattle.btr_block_text.specs.Read.{of_read}

-- a first part of a whole text was written, and the rest is still to come
pub record SoFar (old new : Option (List ℕ)) (waited waits rest whole : List ℕ) : Type 0 where
  pub written : List ℕ
  pub wrote : Wrote old new waited waits written
  pub all : written ++ rest ≡ whole

-- nothing was written yet
pub so_far_none : (out : Option (List ℕ)) (waits whole : List ℕ) → SoFar out out waits waits whole whole
so_far_none out waits whole = record { written = []; wrote = wrote_nothing out waits; all = refl }

-- the front was written
pub so_far_front : {old new : Option (List ℕ)} {waited waits front : List ℕ} (rest whole : List ℕ) → front ++ rest ≡ whole
    → Wrote old new waited waits front → SoFar old new waited waits rest whole
so_far_front {front = front} rest whole all wrote = record { written = front; wrote = wrote; all = all }

-- one line more
pub so_far_more : {old mid new : Option (List ℕ)} {waited between waits rest whole line : List ℕ} (next : List ℕ)
    → SoFar old mid waited between rest whole → rest ≡ line ++ next → Wrote mid new between waits line
    → SoFar old new waited waits next whole
so_far_more {line = line} next s is wrote = record {
  written = s.written ++ line;
  wrote = wrote_then s.wrote wrote;
  all = append_assoc s.written line next ∙ ap (λ l. s.written ++ l) (sym is) ∙ s.all;
}

-- nothing more, where the rest is the same
pub so_far_same : {old new : Option (List ℕ)} {waited waits rest whole : List ℕ} (next : List ℕ) → SoFar old new waited waits rest whole → rest ≡ next
    → SoFar old new waited waits next whole
so_far_same next s is = record { written = s.written; wrote = s.wrote; all = ap (λ l. s.written ++ l) (sym is) ∙ s.all }

-- a line was cut short
pub so_far_cut : {old mid new : Option (List ℕ)} {waited between waits rest whole line : List ℕ} (next : List ℕ)
    → SoFar old mid waited between rest whole → rest ≡ line ++ next → WasCut mid new between waits line
    → WasCut old new waited waits whole
so_far_cut {whole = whole} {line = line} next s is cut =
    cut_as whole (append_assoc s.written line next ∙ ap (λ l. s.written ++ l) (sym is) ∙ s.all) (cut_longer next (cut_then s.wrote cut))

-- all was written
pub so_far_ended : {old new : Option (List ℕ)} {waited waits rest whole : List ℕ} → SoFar old new waited waits rest whole → rest ≡ []
    → Wrote old new waited waits whole
so_far_ended {whole = whole} s none = wrote_as whole (sym (append-nil s.written) ∙ ap (λ l. s.written ++ l) (sym none) ∙ s.all) s.wrote

-- the texts of the numbers from i on: that of i, and the others
pub numbers_first : (f : ℕ → List ℕ) (i n : ℕ) → i < n → flat_map f (range_with_len i (n - i)) ≡ f i ++ flat_map f (range_with_len (i + 1) (n - (i + 1)))
numbers_first f i n lt = ap (flat_map f) (range_first i n lt)

-- at the end there are none
pub numbers_none : (f : ℕ → List ℕ) (i n : ℕ) → n ≤ i → flat_map f (range_with_len i (n - i)) ≡ []
numbers_none f i n le = let none : n - i ≡ 0 = omega arith in ap (λ k. flat_map f (range_with_len i k)) none

module _ {T X : Type 0} (line : X → List ℕ) (old new : Option (List ℕ)) (waited waits : List ℕ) (r : Result T SinkError) where
  -- the text of what was read
  pub writes_read : (read : Result X ItemFault) (found : X) → Ok found ≡ read → WritesOut old new waited waits (line found) r
      → WritesOut old new waited waits (of_read line read) r
  writes_read read found is = writes_as old new waited waits (line found) (of_read line read) r (ap (of_read line) is)

  -- of a fault nothing is written
  pub writes_fault : (read : Result X ItemFault) (fault : ItemFault) → Err fault ≡ read → WritesOut old new waited waits [] r
      → WritesOut old new waited waits (of_read line read) r
  writes_fault read fault is = writes_as old new waited waits [] (of_read line read) r (ap (of_read line) is)

-- the body of a CHUNK_ITEM has each of its stripes
pub chunk_holds : (body : List ℕ) → IsTrue (has_chunk_size body) → (n i : ℕ) → n ≡ number_at 2 44 body → i < n → 48 + 32 * (i + 1) ≤ length body
chunk_holds body fits n i is lt =
    let parts = and_parts (leb 48 (length body)) (eqb (length body) (48 + 32 * number_at 2 44 body)) fits in
    let size : length body ≡ 48 + 32 * number_at 2 44 body = eqb-true (length body) (48 + 32 * number_at 2 44 body) parts.1 in
    omega (arith, size)

-- what holds of each that was read holds of the first, and of the others
pub stand_first : {T : Type 0} (stands : T → Type 0) (reads : List (Result T ItemFault)) (read : Result T ItemFault)
    (rest : List (Result T ItemFault)) → reads ≡ read ∷ rest → All (λ r. IfOk r stands) reads
    → IfOk read stands × All (λ r. IfOk r stands) rest
stand_first stands reads read rest is all =
    let holds : All (λ r. IfOk r stands) (read ∷ rest) = subst (All (λ r. IfOk r stands)) is all in
    (All-head (λ r. IfOk r stands) read rest holds, All-tail (λ r. IfOk r stands) read rest holds)

-- the first of three texts was cut short
pub cut_first : {old new : Option (List ℕ)} {waited waits first : List ℕ} (second third : List ℕ) → WasCut old new waited waits first
    → WasCut old new waited waits ((first ++ second) ++ third)
cut_first second third cut = cut_longer third (cut_longer second cut)

-- the second was
pub cut_second : {old mid new : Option (List ℕ)} {waited between waits first second : List ℕ} (third : List ℕ) → Wrote old mid waited between first
    → WasCut mid new between waits second
    → WasCut old new waited waits ((first ++ second) ++ third)
cut_second third wrote cut = cut_longer third (cut_then wrote cut)

-- all three were written, or the third was cut short
pub writes_third : {T : Type 0} {old mid late : Option (List ℕ)} {waited between behind first second : List ℕ} (new : Option (List ℕ))
    (waits third : List ℕ) (r : Result T SinkError)
    → Wrote old mid waited between first → Wrote mid late between behind second → WritesOut late new behind waits third r
    → WritesOut old new waited waits ((first ++ second) ++ third) r
writes_third new waits third r one two three = writes_then new waits third r (wrote_then one two) three

-- what always holds of what was read
pub all_stand : {T : Type 0} (reads : List (Result T ItemFault)) → All (λ read. IfOk read (λ found. Unit {0})) reads
all_stand reads k d lt = elim (get_or reads k d) as (λ read. IfOk read (λ found. Unit {0})) [ Ok found ↦ tt | Err fault ↦ tt ]

-- a body that isn't empty, as it is
pub raw_some : (body : List ℕ) → eqb (length body) 0 ≡ false → codes "\t\traw " ++ bytes_text body ++ codes "\n" ≡ raw_line body
raw_some [] some = absurd (false≢true (sym some))
raw_some (b ∷ rest) some = refl

-- a block that holds something is a leaf at level 0, and an inner node above
pub is_leaf_at : (block : List ℕ) → IsSome (node_of block) → level_of block ≡ 0 → IsTrue (is_leaf block)
is_leaf_at block some level =
    elim (is_leaf block) as (λ leaf. IsSome (cond leaf (Some (Leaf (items block))) (cond (is_inner block) (Some (Inner (pointers block))) None))
    → IsTrue leaf) [
      | true ↦ λ _. refl
      | false ↦ λ is. absurd (false≢true (subst (λ inner. IsSome (cond inner (Some (Inner (pointers block))) None)) (inner_leaf block level) is))
    ] some

-- a block that holds something and has another level than 0 is an inner node
pub is_inner_at : (block : List ℕ) → IsSome (node_of block) → (level_of block ≡ 0 → ⊥) → IsTrue (is_inner block)
is_inner_at block some level =
    let other : IsSome (cond (is_inner block) (Some (Inner (pointers block))) None) =
    subst (λ leaf. IsSome (cond leaf (Some (Leaf (items block))) (cond (is_inner block) (Some (Inner (pointers block))) None)))
    (leaf_level block level) some in
    elim (is_inner block) as (λ inner. IsSome (cond inner (Some (Inner (pointers block))) None) → IsTrue inner)
    [ true ↦ λ _. refl | false ↦ λ is. absurd (false≢true is) ] other

-- Texts that follow runs.
use Rattle.std.proofs.Common.{◌≡◌, ℕ, zero, suc, ◌+◌, ◌-◌, true, false, ltb, List, [], ◌∷◌, ◌++◌, length, take, Option, Some, None, Result, Ok, Err, refl, sym}
use Rattle.std.proofs.Common.{ap, ◌∙◌, subst, arith}
use Rattle.std.proofs.lemmas.Bool.{ltb-true, ltb-false}
use Rattle.std.proofs.lemmas.List.{append-nil, take-append-le}
use Rattle.std.proofs.Math.Seq.{take-append-add}
use Rattle.std.specs.Option.{option_to_list}
use Rattle.btr_prog.specs.Prog.{Mark, Wants, Does, run, steps_of}
use Rattle.btr_prog.specs.Answers.{Broke, Leaves, Breaks, Follows, no_part}
use Rattle.btr_rack.specs.Out.{Adds}
use Rattle.btr_read.specs.Fate as fate
use Rattle.btr_read.specs.declared.want.Want.{Want}
use Rattle.btr_walk.specs.declared.fault.TreeFault.{TreeFault}
use Rattle.btr_walk.specs.declared.fault.TreeFault.TheVariants as tree
use Rattle.btr_walk.specs.Reading.{UnreadBlock, halt_of}
use Rattle.btr_dump.specs.Pieces.{Text}
use Rattle.btr_dump.specs.Showing.{part, whole, TextRun}

-- a first part of the pieces of some first marks, as marks that are broken off
pub breaks_at : {A : Type 0} (e : Result A fate.Fault) (behind : List (Mark Want Text)) (n : ℕ) (before : List (Mark Want Text))
    → (done : List Text) × (whole done ≡ take n (whole (steps_of before))) × Breaks {F = fate.Fault} part (λ ws. Unit {0}) (run (before ++ behind) e) done
breaks_at e behind n [] = ([], take_none n, record { before = []; behind = behind; left = None; place = refl; steps = refl; leaves = tt; holds = tt })
  where
    take_none : (n : ℕ) → let none : Text = [] in none ≡ take n none
    take_none zero = refl
    take_none (suc n) = refl
breaks_at e behind n (Wants w ∷ before) =
    let b = breaks_at e behind n before in (
      b.0,
      b.1,
      record {
        before = Wants w ∷ b.2.before;
        behind = b.2.behind;
        left = b.2.left;
        place = ap (λ ms. Wants w ∷ ms) b.2.place;
        steps = b.2.steps;
        leaves = b.2.leaves;
        holds = tt;
      },
    )
breaks_at {A} e behind n (Does s ∷ before) =
    elim (ltb n (length s)) as (λ short. ltb n (length s) ≡ short → (done : List Text) × (whole done ≡ take n (s ++ whole (steps_of before)))
    × Breaks {F = fate.Fault} part (λ ws. Unit {0}) (run (Does s ∷ (before ++ behind)) e) done) [
      | true ↦ λ is. (
        take n s ∷ [],
        append-nil (take n s) ∙ sym (take-append-le n s (whole (steps_of before)) (omega (arith, ltb-true n (length s) is))),
        record { before = []; behind = Does s ∷ (before ++ behind); left = Some (take n s); place = refl; steps = refl; leaves = (n, refl); holds = tt },
      )
      | false ↦ λ is.
          let b = breaks_at e behind (n - length s) before in
          let parts : length s + (n - length s) ≡ n = omega (arith, ltb-false n (length s) is) in (
            s ∷ b.0,
            ap (λ t. s ++ t) b.1 ∙ sym (take-append-add s (whole (steps_of before)) (n - length s)) ∙ ap (λ k. take k (s ++ whole (steps_of before))) parts,
            record {
              before = Does s ∷ b.2.before;
              behind = b.2.behind;
              left = b.2.left;
              place = ap (λ ms. Does s ∷ ms) b.2.place;
              steps = ap (λ x. s ∷ x) b.2.steps;
              leaves = b.2.leaves;
              holds = tt;
            },
          )
    ] refl

-- pieces that were done are those of some first marks
pub record IsDone {A : Type 0} (r : TextRun A) (done : List Text) : Type 0 where
  pub before : List (Mark Want Text)
  pub behind : List (Mark Want Text)
  pub place : r.marks ≡ before ++ behind
  pub steps : done ≡ steps_of before

-- all pieces of a run are those of some first marks
done_all : {A : Type 0} (r : TextRun A) (done : List Text) → done ≡ steps_of r.marks → IsDone r done
done_all r done is = record { before = r.marks; behind = []; place = sym (append-nil r.marks); steps = is }

-- where a block could not be read, the pieces that were done are those of some first marks
done_unread : {A : Type 0} (P : List Want → Type 0) (r : TextRun A) (done : List Text) → Breaks no_part P r done → IsDone r done
done_unread P r done b = by b.left b.steps b.leaves
  where
    -- where no piece is done in part, none is left so
    none_left : (t : Text) (ms : List (Mark Want Text)) → Leaves no_part (Some t) ms → ⊥
    none_left t [] l = l
    none_left t (Wants w ∷ ms) l = l
    none_left t (Does s ∷ ms) l = cc (l.1)

    by : (left : Option Text) → done ≡ steps_of b.before ++ option_to_list left → Leaves no_part left b.behind → IsDone r done
    by None steps l = record { before = b.before; behind = b.behind; place = b.place; steps = steps ∙ append-nil (steps_of b.before) }
    by (Some t) steps l = absurd (none_left t b.behind l)

module _ {A : Type 0} (Is : UnreadBlock → Want → Type 0) (r : TextRun A) (done : List Text) where
  -- where a run came to its value, the pieces that were done are those of some first marks
  pub done_value : (a : A) → Follows Is part [] r done (Ok a) → IsDone r done
  done_value a f = done_all r done f.0

  -- where a run came to a fault of a tree, the pieces that were done are those of some first marks
  pub done_fault : (f : TreeFault) → Follows Is part [] r done (Err (halt_of f)) → IsDone r done
  done_fault (tree.Lost a) f = done_all r done f.0
  done_fault (tree.Unread a slot) f = done_unread _ r done f
  done_fault (tree.Unmapped a) f = done_all r done f.0
  done_fault (tree.Crosses a) f = done_all r done f.0
  done_fault (tree.Malformed a) f = done_all r done f.0

-- a first part of the pieces of some first marks was put
pub broke_in : {A : Type 0} (Is : UnreadBlock → Want → Type 0) (r : TextRun A) (before behind : List (Mark Want Text)) (old new : Option Text) (n : ℕ)
    → r.marks ≡ before ++ behind → Adds old new (take n (whole (steps_of before)))
    → (done : List Text) × Adds old new (whole done) × Follows Is part [] r done (Err Broke)
broke_in Is r before behind old new n place adds =
    let b = breaks_at r.ending behind n before in (
      b.0,
      subst (Adds old new) (sym b.1) adds,
      record {
        before = b.2.before;
        behind = b.2.behind;
        left = b.2.left;
        place = place ∙ b.2.place;
        steps = b.2.steps;
        leaves = b.2.leaves;
        holds = tt;
      },
    )

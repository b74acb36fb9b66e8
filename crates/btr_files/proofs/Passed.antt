-- How far a scan of a file's items has come, past extents that have no bytes.
use Rattle.std.proofs.Common.{◌≡◌, ℕ, ◌≤◌, List, [], ◌++◌, Some, None, Ok, Err, refl, sym, subst, append-nil, append_assoc, arith}
use Rattle.btr_base.specs.declared.key.Key.{Key}
use Rattle.btr_base.specs.declared.kind.SumKind.{SumKind}
use Rattle.btr_items.specs.FileExtent.{inline_data}
use Rattle.btr_prog.specs.Prog.{prepend, exec, want_marks}
use Rattle.btr_prog.specs.Answers.{no_part}
use Rattle.btr_prog.proofs.Follow.{follows_as}
use Rattle.btr_read.specs.Store.{Blocks}
use Rattle.btr_read.specs.declared.want.Want.{Want}
use Rattle.btr_walk.specs.declared.fault.TreeFault.{TreeFault}
use Rattle.btr_walk.specs.declared.scan.Scan.{Scan}
use Rattle.btr_walk.specs.Going.{IsOn}
use Rattle.btr_walk.specs.Reading.{Map, UnreadBlock, halt_of}
use Rattle.btr_walk.specs.ScanEnds.{left_of, HoldsLeaf}
use Rattle.btr_walk.proofs.Marks.{behind_wants, past_both}
use Rattle.btr_files.specs.declared.extent.Ahead.{Ahead}
use Rattle.btr_files.specs.declared.progress.Source.{Source}
use Rattle.btr_files.specs.declared.progress.Todo.{Todo}
use Rattle.btr_files.specs.declared.progress.Todo.TheVariants.{Next, Inline, Sectors, Over}
use Rattle.btr_files.specs.Streaming.{todo_prog, Then, FitsTodo}
use Rattle.btr_files.specs.Ahead.{Onward, IsNextExtent}
use Rattle.btr_files.proofs.Onwards.{Pieces}

-- what is left behind an extent leads on to what is left behind a later one
pub record Passes (source : Source) (B : Map) (seen : List Want) (old new : Blocks) (scan scan' : Scan) (end end' : ℕ) : Type 0 where
  pub past : List Want
  pub goes : (kind : SumKind) (Bs : ℕ → Map) (at : ℕ) (q : Pieces) → Onward kind source Bs at end' (exec B (left_of B new scan')) q
      → Onward kind source Bs at end (exec B (left_of B old scan)) (prepend (want_marks past) q)
  pub on : IsOn scan.lo scan.hi B (seen ++ past) scan'.place
  pub held : HoldsLeaf B seen old scan → HoldsLeaf B (seen ++ past) new scan'

module _ (source : Source) (B : Map) (first : Blocks) (scan0 : Scan) (end0 : ℕ) where
  -- what is left after the first extent leads on to what is left after a later one, whatever was wanted before
  abbrev pub Gone : Blocks → Scan → ℕ → Type 0
  Gone store scan end = (seen : List Want) → IsOn scan0.lo scan0.hi B seen scan0.place → Passes source B seen first store scan0 scan end0 end

  -- what is left after the first extent leads to itself, where no other was passed
  pub gone_none : Gone first scan0 end0
  gone_none seen on = record {
    past = [];
    goes = λ kind Bs at q h. h;
    on = subst (λ (x : List Want). IsOn scan0.lo scan0.hi B x scan0.place) (sym (append-nil seen)) on;
    held = λ h. subst (λ (x : List Want). HoldsLeaf B x first scan0) (sym (append-nil seen)) h;
  }

  module _ (Was Is : UnreadBlock → Want → Type 0) (store : Blocks) (scan : Scan) (end : ℕ) (lo : scan.lo ≡ scan0.lo) (hi : scan.hi ≡ scan0.hi)
      (gone : Gone store scan end) where
    -- a scan that goes on by the first one's bounds does so by its own
    on_here : (seen : List Want) → IsOn scan0.lo scan0.hi B seen scan.place → IsOn scan.lo scan.hi B seen scan.place
    on_here seen on = subst (λ (k : Key). IsOn k scan.hi B seen scan.place) (sym lo) (subst (λ (k : Key). IsOn scan0.lo k B seen scan.place) (sym hi) on)

    -- a scan that goes on from there does so by the first one's bounds, behind all wants
    on_there : (seen xs ys : List Want) (scan' : Scan) → IsOn scan.lo scan.hi B ((seen ++ xs) ++ ys) scan'.place
        → IsOn scan0.lo scan0.hi B (seen ++ (xs ++ ys)) scan'.place
    on_there seen xs ys scan' on =
        subst (λ (z : List Want). IsOn scan0.lo scan0.hi B z scan'.place) (append_assoc seen xs ys)
        (subst (λ (k : Key). IsOn k scan0.hi B ((seen ++ xs) ++ ys) scan'.place) lo
        (subst (λ (k : Key). IsOn scan.lo k B ((seen ++ xs) ++ ys) scan'.place) hi on))

    -- the leaf in hand there is among all wants, however they are split
    held_there : (seen xs ys : List Want) (new : Blocks) (scan' : Scan) → HoldsLeaf B ((seen ++ xs) ++ ys) new scan'
        → HoldsLeaf B (seen ++ (xs ++ ys)) new scan'
    held_there seen xs ys new scan' h = subst (λ (z : List Want). HoldsLeaf B z new scan') (append_assoc seen xs ys) h

    module _ (new : Blocks) (scan' : Scan) where
      -- where an extent without bytes comes next, what is left leads on to what is left after that one
      pub gone_more : (ahead : Ahead) → ahead.todo ≡ Next → IsNextExtent source Was B store new scan scan' end (Ok (Some ahead)) → Gone new scan' ahead.end
      gone_more ahead is n seen on =
          let x = gone seen on in
          let y = n (seen ++ x.past) (on_here (seen ++ x.past) x.on) in
          record {
            past = x.past ++ y.past;
            goes = λ kind Bs at q h.
                let h' : Then kind source Bs (todo_prog kind source at ahead.end (inline_data y.item.body) ahead.todo) (exec B (left_of B new scan')) q = subst
                (λ (t : Todo). Then kind source Bs (todo_prog kind source at ahead.end (inline_data y.item.body) t) (exec B (left_of B new scan')) q)
                (sym is) h in
                subst (Onward kind source Bs at end0 (exec B (left_of B first scan0))) (past_both x.past y.past q)
                (x.goes kind Bs at (prepend (want_marks y.past) q) (y.goes kind Bs at q h'));
            on = on_there seen x.past y.past scan' y.on;
            held = λ h. held_there seen x.past y.past new scan' (y.held (x.held h));
          }

      -- the next extent behind those that were passed is the next one behind the first
      pub gone_some : (ahead : Ahead) → IsNextExtent source Was B store new scan scan' end (Ok (Some ahead))
          → IsNextExtent source Is B first new scan0 scan' end0 (Ok (Some ahead))
      gone_some ahead n seen on =
          let x = gone seen on in
          let y = n (seen ++ x.past) (on_here (seen ++ x.past) x.on) in
          record {
            past = x.past ++ y.past;
            item = y.item;
            goes = λ kind Bs at q h.
                subst (Onward kind source Bs at end0 (exec B (left_of B first scan0))) (past_both x.past y.past q)
                (x.goes kind Bs at (prepend (want_marks y.past) q) (y.goes kind Bs at q h));
            inline = y.inline;
            on = on_there seen x.past y.past scan' y.on;
            held = λ h. held_there seen x.past y.past new scan' (y.held (x.held h));
            met = y.met;
          }

      -- where no extent is left behind those that were passed, none with bytes is left behind the first
      pub gone_end : IsNextExtent source Was B store new scan scan' end (Ok None) → IsNextExtent source Is B first new scan0 scan' end0 (Ok None)
      gone_end n seen on =
          let x = gone seen on in
          let y = n (seen ++ x.past) (on_here (seen ++ x.past) x.on) in
          record {
            past = x.past ++ y.past;
            goes = λ kind Bs at q h.
                subst (Onward kind source Bs at end0 (exec B (left_of B first scan0))) (past_both x.past y.past q)
                (x.goes kind Bs at (prepend (want_marks y.past) q) (y.goes kind Bs at q h));
          }

      -- a fault behind the extents that were passed is one behind the first
      pub gone_err : (f : TreeFault) → ((u : UnreadBlock) (w : Want) → Was u w → Is u w) → IsNextExtent source Was B store new scan scan' end (Err f)
          → IsNextExtent source Is B first new scan0 scan' end0 (Err f)
      gone_err f weaker n seen on kind Bs at =
          let x = gone seen on in
          let y = n (seen ++ x.past) (on_here (seen ++ x.past) x.on) kind Bs at in (
            prepend (want_marks x.past) y.0,
            x.goes kind Bs at y.0 y.1,
            behind_wants Is seen x.past (prepend (want_marks x.past) y.0) no_part y.0 [] (Err (halt_of f)) refl
                (follows_as Was Is weaker no_part (seen ++ x.past) y.0 [] (Err (halt_of f)) y.2),
          )

-- an extent begins behind the end of an earlier one too
pub fits_lower : (size from from' end : ℕ) (todo : Todo) → from' ≤ from → FitsTodo size from end todo → FitsTodo size from' end todo
fits_lower size from from' end Next le h = omega (arith, le, h)
fits_lower size from from' end (Inline part) le h = (omega (arith, le, h.0), h.1, h.2, h.3)
fits_lower size from from' end (Sectors part) le h = (omega (arith, le, h.0), h.1, h.2, h.3, h.4, h.5)
fits_lower size from from' end Over le h = tt

-- A file gives its next piece.
use Rattle.std.proofs.Common.{◌≡◌, ℕ, ◌+◌, ◌-◌, ◌<◌, ◌≤◌, Bool, true, false, cond, List, [], ◌∷◌, ◌++◌, length, get_or, Option, Some, None, IsSomeAnd, Result}
use Rattle.std.proofs.Common.{Ok, Err, refl, sym, ap, ◌∙◌, subst, arith}
use Rattle.std.specs.Prelude.{nat_le, take, min, unwrap_or}
use Rattle.std.proofs.lemmas.List.{take_min, length-drop}
use Rattle.btr_base.specs.declared.kind.SumKind.{SumKind}
use Rattle.btr_items.specs.FileExtent.{inline_data}
use Rattle.btr_node.specs.Block.{Item, items}
use Rattle.btr_prog.specs.Prog.{Does, Return, Emit, Run, run, first, exec}
use Rattle.btr_prog.specs.Answers.{Unread, no_part}
use Rattle.btr_prog.specs.Goes.{GoesTo}
use Rattle.btr_prog.proofs.Choices.{goes_map}
use Rattle.btr_prog.proofs.Follow.{unread_here}
use Rattle.btr_read.specs.Fate as fate
use Rattle.btr_read.specs.Store.{Blocks, Lent, block_of}
use Rattle.btr_read.specs.declared.want.Want.{Want}
use Rattle.btr_walk.specs.declared.fault.TreeFault.{TreeFault}
use Rattle.btr_walk.specs.declared.fault.TreeFault.TheVariants as tree
use Rattle.btr_walk.specs.Le.{TreeItem}
use Rattle.btr_walk.specs.Reading.{Map, UnreadBlock}
use Rattle.btr_walk.specs.Rests.{rest_left, met_last, IsMetAgain}
use Rattle.btr_volume.specs.Lookup.{Program}
use Rattle.btr_files.specs.declared.progress.InlinePart.{InlinePart}
use Rattle.btr_files.specs.declared.progress.Progress.{Progress}
use Rattle.btr_files.specs.declared.progress.Source.{Source}
use Rattle.btr_files.specs.declared.progress.Todo.{Todo}
use Rattle.btr_files.specs.declared.progress.Todo.TheVariants.{Next, Inline, Sectors, Over}
use Rattle.btr_files.specs.declared.streaming.Shown.TheVariants as shown
use Rattle.btr_files.specs.declared.streaming.Span.TheVariants as span
use Rattle.btr_files.specs.Content.{Piece, Bytes, Gap, gap}
use Rattle.btr_files.specs.Streaming.{GivenUpTo, on_behind, inline_of, behind_bytes, todo_prog, zeros_to_end, Then, LeftBy, IsInline, IsGoing}
use Rattle.btr_files.specs.Giving.{zeros_at, given_up_to, after_zeros, after_end, body_at, IsGiven, IsNextStep}
use Rattle.btr_files.proofs.Nextward.{rest_more}
use Rattle.btr_files.proofs.Onwards.{Items, Pieces, then_of, of_then, then_past, then_halts}
use Rattle.btr_files.proofs.Extending.{some_test}

-- ---- zeros, if there are any
pub no_zeros : {A : Type 0} (n : ℕ) (p : Program Piece A) → n ≡ 0 → gap n p ≡ p
no_zeros n p e = ap (λ m. gap m p) e

-- where there are zeros, they come as a gap first
some_zeros : {A : Type 0} (n : ℕ) (p : Program Piece A) → 0 < n → gap n p ≡ Emit (Gap n) p
some_zeros n p h = ap (λ (b : Bool). cond b p (Emit (Gap n) p)) (some_test n h)

-- a step that comes first
pub goes_first : {A : Type 0} (Bs : ℕ → Map) (piece : Piece) (p p' : Program Piece A) (b : Run Want fate.Fault Piece A) → p ≡ Emit piece p'
    → GoesTo Bs p' b → GoesTo Bs p (first (Does piece) b)
goes_first Bs piece p p' b e h = subst (λ x. GoesTo Bs x (first (Does piece) b)) (sym e) (b, refl, h)

module _ (kind : SumKind) (source : Source) (Bs : ℕ → Map) (p : Progress) where
  abbrev B : Map
  B = Bs 0

  -- the run of the items that are still to come
  abbrev pub ahead : Items
  ahead = exec B (rest_left B p.rest)

  -- the inline bytes of the item that was met last
  abbrev pub inline : List ℕ
  inline = inline_of (met_last B p.rest)

  -- what is left, where what is to come of an extent is known
  pub left_as : (todo : Todo) (q : Pieces) → p.todo ≡ todo → Then kind source Bs (todo_prog kind source p.at p.end inline todo) ahead q
      → LeftBy kind source Bs B p q
  left_as todo q e h = subst (λ (t : Todo). Then kind source Bs (todo_prog kind source p.at p.end inline t) ahead q) (sym e) h

  -- where what is to come of an extent is known, a run of what is left is one of it and of the items behind it
  pub left_is : (todo : Todo) (q : Pieces) → p.todo ≡ todo → LeftBy kind source Bs B p q
      → Then kind source Bs (todo_prog kind source p.at p.end inline todo) ahead q
  left_is todo q e h = subst (λ (t : Todo). Then kind source Bs (todo_prog kind source p.at p.end inline t) ahead q) e h

  -- what is left behind all bytes of an extent, by whether it reaches the size
  end_by : (b : Bool) (q : Pieces) → LeftBy kind source Bs B (cond b (given_up_to p source.size Over) (given_up_to p p.end Next)) q
      → Then kind source Bs (Return (on_behind p.end (cond b (Err source.size) (Ok p.end)))) ahead q
  end_by true q h = h
  end_by false q h = h

  -- what is left behind all bytes of an extent
  pub left_end : (q : Pieces) → LeftBy kind source Bs B (after_end source.size p) q → Then kind source Bs (behind_bytes kind source p.end) ahead q
  left_end q h = end_by (nat_le source.size p.end) q h

  -- behind an extent the file can go on, by whether the extent reaches the size
  going_by : (seen more : List Want) (b : Bool) → IsGoing B seen p
      → IsGoing B (seen ++ more) (cond b (given_up_to p source.size Over) (given_up_to p p.end Next))
  going_by seen more true g = record { rest = rest_more B seen more p.rest g.rest; inline = tt }
  going_by seen more false g = record { rest = rest_more B seen more p.rest g.rest; inline = tt }

  -- behind all bytes of an extent the file can go on
  pub going_end : (seen more : List Want) → IsGoing B seen p → IsGoing B (seen ++ more) (after_end source.size p)
  going_end seen more g = going_by seen more (nat_le source.size p.end) g

  -- ---- zeros are given
  module _ (zeros : ℕ) (some : 0 < zeros) where
    -- the file after these zeros
    abbrev behind : Progress
    behind = after_zeros p zeros

    -- before the bytes of an extent
    gap_bytes : (start : ℕ) (x : Program Piece (Result GivenUpTo ℕ)) (q : Pieces) → zeros ≡ start - p.at
        → Then kind source Bs (gap (start - (p.at + zeros)) x) ahead q → Then kind source Bs (gap (start - p.at) x) ahead (first (Does (Gap zeros)) q)
    gap_bytes start x q is h =
        let none : start - (p.at + zeros) ≡ 0 = omega (arith, is) in
        let h' : Then kind source Bs x ahead q = subst (λ y. Then kind source Bs y ahead q) (no_zeros (start - (p.at + zeros)) x none) h in
        then_past kind source Bs (gap (start - p.at) x) x (Does (Gap zeros) ∷ []) ahead q
        (λ b go. goes_first Bs (Gap zeros) (gap (start - p.at) x) x b (ap (λ n. gap n x) (sym is) ∙ some_zeros zeros x some) go) h'

    -- up to the size
    gap_end : (q : Pieces) → zeros ≡ source.size - p.at → Then kind source Bs (Return (Err (p.at + zeros))) ahead q
        → Then kind source Bs (Return (Err p.at)) ahead (first (Does (Gap zeros)) q)
    gap_end q is h =
        let none : source.size - (p.at + zeros) ≡ 0 = omega (arith, is) in
        let h' : GoesTo Bs (zeros_to_end kind source (p.at + zeros)) q = of_then kind source Bs (Err (p.at + zeros)) ahead q h in
        let h'' : GoesTo Bs (Return tt) q =
        subst (λ (x : Program Piece (Unit {0})). GoesTo Bs x q) (no_zeros (source.size - (p.at + zeros)) (Return tt) none) h' in
        then_of kind source Bs (Err p.at) ahead (first (Does (Gap zeros)) q)
        (goes_first Bs (Gap zeros) (zeros_to_end kind source p.at) (Return tt) q (ap (λ n. gap n (Return tt)) (sym is) ∙ some_zeros zeros (Return tt) some) h'')

    -- the zeros before what is to come, or up to the size, are a gap of what is left
    gap_by : (todo : Todo) (q : Pieces) → p.todo ≡ todo → zeros ≡ zeros_at source.size p.at todo
        → Then kind source Bs (todo_prog kind source (p.at + zeros) p.end inline todo) ahead q
        → Then kind source Bs (todo_prog kind source p.at p.end inline todo) ahead (first (Does (Gap zeros)) q)
    gap_by Next q e is h = absurd (omega (arith, is, some))
    gap_by (Inline part) q e is h = gap_bytes part.start _ q is h
    gap_by (Sectors part) q e is h = gap_bytes part.start _ q is h
    gap_by Over q e is h = gap_end q is h

    -- the zeros before what is to come are given as the next piece
    pub zeros_given : (Is : UnreadBlock → Want → Type 0) (store : Blocks) → zeros ≡ zeros_at source.size p.at p.todo
        → IsNextStep kind source Is Bs p behind store (Ok (Some (shown.Gap zeros)))
    zeros_given Is store is seen g = record {
      past = [];
      goes = λ q h. gap_by p.todo q refl is h;
      on = record { rest = rest_more B seen [] p.rest g.rest; inline = g.inline };
    }

  -- ---- nothing is left
  pub nothing_left : (Is : UnreadBlock → Want → Type 0) (p' : Progress) (store : Blocks) → p.todo ≡ Over → source.size ≤ p.at
      → IsNextStep kind source Is Bs p p' store (Ok None)
  nothing_left Is p' store e le seen g =
      let q : Pieces = run [] (Ok tt) in
      let none : source.size - p.at ≡ 0 = omega (arith, le) in (
        q,
        left_as Over q e (then_of kind source Bs (Err p.at) ahead q
            (subst (λ (x : Program Piece (Unit {0})). GoesTo Bs x q) (sym (no_zeros (source.size - p.at) (Return tt) none)) refl)),
        (refl, refl),
      )

  -- ---- an inline extent
  module _ (Is : UnreadBlock → Want → Type 0) (part : InlinePart) (todo : p.todo ≡ Inline part) where
    -- its leaf could not be read again
    pub inline_err : (p' : Progress) (store store' : Blocks) (f : TreeFault) → IsMetAgain Is B p.rest store (Err f)
        → IsGiven kind source Is Bs p p' store' (Err f)
    inline_err p' store store' (tree.Lost a) h seen g = absurd (h seen g.rest)
    inline_err p' store store' (tree.Unread a slot) h seen g =
        let prog = todo_prog kind source p.at p.end inline p.todo in
        let u : UnreadBlock = record { addr = a; slot = slot } in
        then_halts kind source Bs Is seen prog ahead (Unread u) (exec B prog, goes_map Bs 0 prog, unread_here Is no_part seen u (exec B prog) (h seen g.rest))
    inline_err p' store store' (tree.Unmapped a) h seen g = absurd (h seen g.rest)
    inline_err p' store store' (tree.Crosses a) h seen g = absurd (h seen g.rest)
    inline_err p' store store' (tree.Malformed a) h seen g = absurd (h seen g.rest)

    module _ (store : Blocks) (loan : Lent) (at : ℕ) (block : List ℕ) (is : block_of store loan ≡ Some block)
        (met : IsMetAgain Is B p.rest store (Ok (record { loan = loan; at = at }))) where
      -- the item that was met last
      pub record IsItem (seen : List Want) : Type 0 where
        pub item : TreeItem
        pub last : met_last B p.rest ≡ Some item
        pub body : body_at block at ≡ item.body
        pub len : length item.body ≡ 21 + part.len

      -- where inline bytes are to come, their item was met last, if one was
      item_by : (seen : List Want) (o : Option TreeItem) → met_last B p.rest ≡ o → IsInline o (Inline part) → IsGoing B seen p → IsItem seen
      item_by seen None e i g = absurd i
      item_by seen (Some item) e i g =
          let m = subst (λ (x : Option (List ℕ)). IsSomeAnd x (λ b. (y : TreeItem) → met_last B p.rest ≡ Some y → (d : Item)
          → (get_or (items b) at d).body ≡ y.body)) is (met seen g.rest) in
          record { item = item; last = e; body = m item e _; len = i }

      -- where inline bytes are to come, their item was met last
      item_of : (seen : List Want) → IsGoing B seen p → IsItem seen
      item_of seen g = item_by seen (met_last B p.rest) refl (subst (IsInline (met_last B p.rest)) todo g.inline) g

      -- it isn't an inline extent of another length
      pub inline_other : (p' : Progress) (store' : Blocks) (f : TreeFault) → (length (body_at block at) ≡ 21 + part.len → ⊥)
          → IsGiven kind source Is Bs p p' store' (Err f)
      inline_other p' store' f other seen g = let i = item_of seen g in absurd (other (ap length i.body ∙ i.len))

      -- its bytes are given
      module _ (at_start : p.at ≡ part.start) (len : ℕ) (len_is : len ≡ min (source.size - part.start) part.len) where
        -- the piece of the item in the loan's block
        abbrev given_piece : Piece
        given_piece = Bytes (take len (inline_data (body_at block at))) true

        -- the bytes that the loan shows are the inline bytes up to the size
        same_bytes : (seen : List Want) → IsItem seen → take (source.size - part.start) inline ≡ take len (inline_data (body_at block at))
        same_bytes seen i =
            let all = inline_data i.item.body in
            let long : length all ≡ part.len = data_len i.item.body part.len i.len in
            ap (λ o. take (source.size - part.start) (inline_of o)) i.last
            ∙ sym (take_min (source.size - part.start) all)
            ∙ ap (λ n. take (min (source.size - part.start) n) all) long
            ∙ ap (λ n. take n all) (sym len_is)
            ∙ ap (λ b. take len (inline_data b)) (sym i.body)
          where
            -- the inline bytes of an item are those behind the first 21 of its body
            data_len : (body : List ℕ) (n : ℕ) → length body ≡ 21 + n → length (inline_data body) ≡ n
            data_len body n e = grind (arith, length-drop {A = ℕ})

        -- the bytes of an inline extent are given as the next piece
        pub inline_given : IsGiven kind source Is Bs p (after_end source.size p) store (Ok (shown.Bytes loan (span.Inline at len)))
        inline_given seen g =
            let i = item_of seen g in
            let none : part.start - p.at ≡ 0 = omega (arith, at_start) in
            let x : Program Piece (Result GivenUpTo ℕ) = behind_bytes kind source p.end in
            let piece = Bytes (take (source.size - part.start) inline) true in
            let same : piece ≡ given_piece = ap (λ b. Bytes b true) (same_bytes seen i) in
            record {
              past = [];
              goes = λ q h.
                  subst (λ b. LeftBy kind source Bs B p (first (Does (span_of b)) q)) (sym is)
                  (subst (λ (y : Piece). LeftBy kind source Bs B p (first (Does y) q)) same
                  (left_as (Inline part) _ todo
                  (then_past kind source Bs (gap (part.start - p.at) (Emit piece x)) x (Does piece ∷ []) ahead q
                  (λ b go. goes_first Bs piece (gap (part.start - p.at) (Emit piece x)) x b (no_zeros (part.start - p.at) (Emit piece x) none) go)
                  (left_end q h))));
              on = going_end seen [] g;
            }
          where
            span_of : Option (List ℕ) → Piece
            span_of o = Bytes (take len (inline_data (body_at (unwrap_or o []) at))) true

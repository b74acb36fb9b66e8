-- A file gives its next sector.
use Rattle.std.proofs.Common.{◌≡◌, ℕ, suc, ◌+◌, ◌-◌, ◌<◌, ◌≤◌, Bool, true, false, cond, not, List, [], ◌∷◌, ◌++◌, length, Option, Some, IsSomeAnd, Result, Ok}
use Rattle.std.proofs.Common.{Err, refl, sym, ap, ◌∙◌, subst, arith}
use Rattle.std.specs.Prelude.{nat_le, take, min, unwrap_or}
use Rattle.std.proofs.lemmas.Bool.Decides.{nat_tests}
use Rattle.std.proofs.lemmas.List.{take_min}
use Rattle.btr_base.specs.declared.kind.SumKind.{SumKind}
use Rattle.btr_prog.specs.Prog.{Mark, Wants, Does, Need, Emit, Run, first, prepend, exec, bind, wants_of, want_marks}
use Rattle.btr_prog.specs.Answers.{Follows, no_part}
use Rattle.btr_prog.specs.Goes.{goes_given, GoesTo, Goes, AfterTo}
use Rattle.btr_prog.specs.Quiet.{quiet, quiet_marks, quiet_run}
use Rattle.btr_prog.proofs.Choices.{goes_map, goes_bind, goes_then, goes_halt, goes_alone, goes_faults, goes_unread}
use Rattle.btr_prog.proofs.Quieting.{quiet_goes, quiet_follows, goes_quiet}
use Rattle.btr_read.specs.Fate as fate
use Rattle.btr_read.specs.Fate.{is_plain}
use Rattle.btr_read.specs.Store.{Blocks, Lent, block_of}
use Rattle.btr_read.specs.declared.want.Want.{Want}
use Rattle.btr_walk.specs.declared.fault.TreeFault.{TreeFault}
use Rattle.btr_walk.specs.declared.fault.TreeFault.TheVariants as tree
use Rattle.btr_walk.specs.Reading.{Map, UnreadBlock, halt_of}
use Rattle.btr_walk.proofs.Marks.{past_both}
use Rattle.btr_volume.specs.Lookup.{Program, Lookup, looks}
use Rattle.btr_files.specs.declared.progress.Progress.{Progress}
use Rattle.btr_files.specs.declared.progress.SectorPart.{SectorPart}
use Rattle.btr_files.specs.declared.progress.Source.{Source}
use Rattle.btr_files.specs.declared.progress.Todo.TheVariants.{Sectors}
use Rattle.btr_files.specs.declared.streaming.Shown.TheVariants as shown
use Rattle.btr_files.specs.declared.streaming.Span.TheVariants as span
use Rattle.btr_files.specs.Content.{Piece, Bytes, sector_want, sectors}
use Rattle.btr_files.specs.Streaming.{GivenUpTo, behind_bytes, todo_prog, Then, LeftBy, IsGoing}
use Rattle.btr_files.specs.Giving.{given_up_to, after_end, after_sector, SectorComes, IsGiven}
use Rattle.btr_files.proofs.Binds.{bind_assoc}
use Rattle.btr_files.proofs.Nextward.{rest_more}
use Rattle.btr_files.proofs.Onwards.{Pieces, then_past, then_halts}
use Rattle.btr_files.proofs.Stepping.{no_zeros, goes_first, ahead, inline, left_as, left_end, going_end}

-- a lookup's marks are wants
quiet_wants : (ms : List (Mark Want ⊥)) → quiet_marks {S = Piece} ms ≡ want_marks (wants_of ms)
quiet_wants [] = refl
quiet_wants (Wants w ∷ ms) = ap (λ x. Wants w ∷ x) (quiet_wants ms)
quiet_wants (Does s ∷ ms) = absurd s

at_most_one : (n : ℕ) → nat_le n 1 ≡ true → n ≤ 1
at_most_one n h = grind (arith, nat_tests)

module _ (kind : SumKind) (source : Source) (Bs : ℕ → Map) (p : Progress) (part : SectorPart) (todo : p.todo ≡ Sectors part) (at_start : p.at ≡ part.start)
    (some : 0 < part.count) where
  -- how many sectors come behind the first
  abbrev more : ℕ
  more = part.count - 1

  -- how many bytes of the file are left from the first sector on
  abbrev left : ℕ
  left = source.size - part.start

  -- the lookup of the first sector's want
  abbrev W : Lookup Want
  W = sector_want kind source.sums source.nosum part.addr

  -- what comes behind the extent's bytes
  abbrev X : Unit {0} → Program Piece (Result GivenUpTo ℕ)
  X u = behind_bytes kind source p.end

  -- so many sectors behind the first
  abbrev rest : ℕ → Program Piece (Unit {0})
  rest n = sectors kind source.sums source.nosum n (part.addr + 4096) (left - 4096)

  -- the sectors behind the first, and then what comes behind the extent
  abbrev S : Program Piece (Result GivenUpTo ℕ)
  S = bind (rest more) X

  -- the piece of the first sector
  abbrev piece_with : Want → List ℕ → Piece
  piece_with want bytes = Bytes (take left bytes) (not (is_plain want))

  -- the first sector by its want, and then all that is left of the extent
  abbrev K : Want → Program Piece (Result GivenUpTo ℕ)
  K want = Need want (λ bytes. Emit (piece_with want bytes) S)

  -- the first sector by its want, and then the other sectors
  abbrev one : Want → Program Piece (Unit {0})
  one want = Need want (λ bytes. Emit (piece_with want bytes) (rest more))

  -- the sectors of the extent are the first one and the others
  sectors_are : sectors kind source.sums source.nosum part.count part.addr left ≡ looks W one
  sectors_are = let e : part.count ≡ suc more = omega (arith, some) in ap (λ n. sectors kind source.sums source.nosum n part.addr left) e

  -- what is left is the first sector, and then the others
  abbrev whole : Program Piece (Result GivenUpTo ℕ)
  whole = todo_prog kind source p.at p.end (inline kind source Bs p) (Sectors part)

  -- what is left of the extent is the lookup of the first sector's want, and what comes by it
  whole_is : whole ≡ looks W K
  whole_is =
      let none : part.start - p.at ≡ 0 = omega (arith, at_start) in
      no_zeros (part.start - p.at) _ none ∙ ap (λ (x : Program Piece (Unit {0})). bind x X) sectors_are ∙ bind_assoc (quiet W) one X

  -- ---- what is left behind the first sector
  last_by : (n : ℕ) (q : Pieces) → n ≡ 0 → Then kind source Bs (X tt) (ahead kind source Bs p) q
      → Then kind source Bs (bind (rest n) X) (ahead kind source Bs p) q
  last_by n q e h = subst (λ (m : ℕ). Then kind source Bs (bind (rest m) X) (ahead kind source Bs p) q) (sym e) h

  -- the sectors behind the first, as what is still to come
  abbrev next_part : SectorPart
  next_part = record { start = part.start + 4096; addr = part.addr + 4096; count = more }

  -- what is left of the file behind the first sector, by whether it was the last one
  left_by : (b : Bool) (q : Pieces) → nat_le part.count 1 ≡ b
      → LeftBy kind source Bs (Bs 0) (cond b (after_end source.size p) (given_up_to p (part.start + 4096) (Sectors next_part))) q
      → Then kind source Bs S (ahead kind source Bs p) q
  left_by true q e h =
      let le = at_most_one part.count e in
      last_by more q (omega (arith, le)) (left_end kind source Bs p q h)
  left_by false q e h =
      let none : (part.start + 4096) - (part.start + 4096) ≡ 0 = omega arith in
      let same : source.size - (part.start + 4096) ≡ left - 4096 = omega arith in
      subst (λ (n : ℕ). Then kind source Bs (bind (sectors kind source.sums source.nosum more (part.addr + 4096) n) X) (ahead kind source Bs p) q) same
      (subst (λ (x : Program Piece (Result GivenUpTo ℕ)). Then kind source Bs x (ahead kind source Bs p) q)
      (no_zeros ((part.start + 4096) - (part.start + 4096)) _ none) h)

  -- what is left of the file behind the first sector are the other sectors and what comes behind them
  left_behind : (q : Pieces) → LeftBy kind source Bs (Bs 0) (after_sector source.size p part) q → Then kind source Bs S (ahead kind source Bs p) q
  left_behind q h = left_by (nat_le part.count 1) q refl h

  -- behind the first sector the file can go on, by whether it was the last one
  going_by : (seen past : List Want) (b : Bool) → IsGoing (Bs 0) seen p
      → IsGoing (Bs 0) (seen ++ past) (cond b (after_end source.size p) (given_up_to p (part.start + 4096) (Sectors next_part)))
  going_by seen past true g = going_end kind source Bs p seen past g
  going_by seen past false g = record { rest = rest_more (Bs 0) seen past p.rest g.rest; inline = tt }

  -- ---- the sector was wanted
  module _ (want : Want) (Was : UnreadBlock → Want → Type 0) (wanted : Follows {S = ⊥} Was no_part [] (exec (Bs 0) W) [] (Ok want)) where
    abbrev looked : Run Want fate.Fault ⊥ Want
    looked = exec (Bs 0) W

    -- the wants up to the sector itself
    abbrev past : List Want
    past = wants_of looked.marks ++ (want ∷ [])

    module _ (block : List ℕ) (n : ℕ) (came : Bs n want ≡ Ok block) where
      abbrev given : Piece
      given = piece_with want block

      -- the piece and what comes behind it make a run from the sector's want on
      goes_want : (b : Run Want fate.Fault Piece (Result GivenUpTo ℕ)) → GoesTo Bs (Emit given S) b → GoesTo Bs (K want) (first (Wants want) b)
      goes_want b h = (n, b, refl, subst (λ x. goes_given x (λ bytes. GoesTo Bs (Emit (piece_with want bytes) S)) b) (sym came) h)

      -- the piece and what comes behind it make a run of what is left of the extent
      goes_whole : (b : Run Want fate.Fault Piece (Result GivenUpTo ℕ)) → GoesTo Bs (Emit given S) b → GoesTo Bs whole (prepend (want_marks past) b)
      goes_whole b h =
          let r : Run Want fate.Fault Piece Want = quiet_run looked in
          let b1 = first (Wants want) b in
          let all : GoesTo Bs (looks W K) (prepend (quiet_marks looked.marks) b1) =
          goes_bind Bs K (quiet W) r (prepend (quiet_marks looked.marks) b1) (quiet_goes Piece Bs W looked (goes_map Bs 0 W))
          (subst (λ e. AfterTo (quiet_marks looked.marks) e (λ a. GoesTo Bs (K a)) (prepend (quiet_marks looked.marks) b1)) (sym wanted.1)
          (b1, refl, goes_want b h)) in
          subst (λ x. GoesTo Bs x (prepend (want_marks past) b)) (sym whole_is)
          (subst (GoesTo Bs (looks W K)) (ap (λ ms. prepend ms b1) (quiet_wants looked.marks) ∙ past_both (wants_of looked.marks) (want ∷ []) b) all)

      -- the wants, the sector's piece and what is left behind it are what was left of the file
      left_from : (q : Pieces) → LeftBy kind source Bs (Bs 0) (after_sector source.size p part) q
          → LeftBy kind source Bs (Bs 0) p (prepend (want_marks past) (first (Does given) q))
      left_from q h =
          left_as kind source Bs p (Sectors part) _ todo
          (then_past kind source Bs whole (Emit given S) (want_marks past) (ahead kind source Bs p) (first (Does given) q) goes_whole
          (then_past kind source Bs (Emit given S) S (Does given ∷ []) (ahead kind source Bs p) q
          (λ b go. goes_first Bs given (Emit given S) S b refl go) (left_behind q h)))

    -- its bytes are given
    module _ (Is : UnreadBlock → Want → Type 0) (store : Blocks) (loan : Lent) (block : List ℕ) (is : block_of store loan ≡ Some block) (len : ℕ)
        (verified : Bool) (crc : Option ℕ) (len_is : len ≡ min left (length block)) (verified_is : verified ≡ not (is_plain want)) where
      -- what is shown of the loan's block, if it has one
      abbrev shown_by : Option (List ℕ) → Piece
      shown_by o = Bytes (take len (unwrap_or o [])) verified

      -- the piece that the loan shows is that of the sector
      same_piece : piece_with want block ≡ shown_by (block_of store loan)
      same_piece =
          ap (λ b. Bytes b (not (is_plain want))) (sym (take_min left block) ∙ ap (λ m. take m block) (sym len_is))
          ∙ ap (Bytes (take len block)) (sym verified_is)
          ∙ ap shown_by (sym is)

      -- a sector that came is given as the next piece
      pub sector_given : SectorComes Is Bs want store (Ok loan)
          → IsGiven kind source Is Bs p (after_sector source.size p part) store (Ok (shown.Bytes loan (span.Sector len verified crc)))
      sector_given h seen g =
          let came : Bs h.0 want ≡ Ok block = subst (λ o. IsSomeAnd o (λ b. Bs h.0 want ≡ Ok b)) is h.1 in
          record {
            past = past;
            goes = λ q left_q. subst (λ (x : Piece). LeftBy kind source Bs (Bs 0) p (prepend (want_marks past) (first (Does x) q))) same_piece
                (left_from block h.0 came q left_q);
            on = going_by seen past (nat_le part.count 1) g;
          }

    -- it could not be had
    module _ (Is : UnreadBlock → Want → Type 0) (p' : Progress) (store store' : Blocks) where
      abbrev next : List ℕ → Program Piece (Result GivenUpTo ℕ)
      next bytes = Emit (piece_with want bytes) S

      -- where a sector didn't come, its want ends the run with the fault
      want_halts : (seen : List Want) (f : TreeFault) → SectorComes Is Bs want store (Err f) → Goes Is no_part seen Bs (K want) [] (Err (halt_of f))
      want_halts seen (tree.Lost a) h = goes_faults Bs Is no_part seen h.0 want (fate.Lost a) next h.1
      want_halts seen (tree.Unread a slot) h = goes_unread Bs Is no_part seen 0 (record { addr = a; slot = slot }) want next h
      want_halts seen (tree.Unmapped a) h = goes_faults Bs Is no_part seen h.0 want (fate.Unmapped a) next h.1
      want_halts seen (tree.Crosses a) h = goes_faults Bs Is no_part seen h.0 want (fate.Crosses a) next h.1
      want_halts seen (tree.Malformed a) h = absurd h

      -- where the sector didn't come, the step ends with its fault
      pub sector_lacked : (f : TreeFault) → SectorComes Is Bs want store (Err f) → IsGiven kind source Is Bs p p' store' (Err f)
      sector_lacked f h seen g =
          let r : Run Want fate.Fault Piece Want = quiet_run looked in
          let all : Goes Is no_part seen Bs (looks W K) [] (Err (halt_of f)) =
          goes_then Bs Is no_part seen (quiet W) K r want [] [] (Err (halt_of f)) (quiet_goes Piece Bs W looked (goes_map Bs 0 W))
          (quiet_follows Was no_part seen looked [] (Ok want) wanted) (want_halts (seen ++ wants_of r.marks) f h) in
          let e = then_halts kind source Bs Is seen whole (ahead kind source Bs p) (halt_of f)
          (subst (λ x. Goes Is no_part seen Bs x [] (Err (halt_of f))) (sym whole_is) all) in
          (e.0, left_as kind source Bs p (Sectors part) e.0 todo e.1, e.2)

  -- the sum of the sector could not be had
  pub sum_lacked : (Is : UnreadBlock → Want → Type 0) (p' : Progress) (store : Blocks) (f : TreeFault)
      → Follows {S = ⊥} Is no_part [] (exec (Bs 0) W) [] (Err (halt_of f)) → IsGiven kind source Is Bs p p' store (Err f)
  sum_lacked Is p' store f h seen g =
      let quietly : Goes Is no_part [] Bs (quiet W) [] (Err (halt_of f)) =
      goes_quiet Is no_part [] Bs W [] (Err (halt_of f)) (exec (Bs 0) W, goes_map Bs 0 W, h) in
      let all : Goes Is no_part seen Bs (looks W K) [] (Err (halt_of f)) =
      goes_halt Bs Is no_part seen (quiet W) K 0 [] (halt_of f) (goes_alone Bs Is no_part seen (quiet W) [] (Err (halt_of f)) quietly) in
      let e = then_halts kind source Bs Is seen whole (ahead kind source Bs p) (halt_of f)
      (subst (λ x. Goes Is no_part seen Bs x [] (Err (halt_of f))) (sym whole_is) all) in
      (e.0, left_as kind source Bs p (Sectors part) e.0 todo e.1, e.2)

-- less may be said of a sector that could not be read
pub comes_as : (Was Is : UnreadBlock → Want → Type 0) (Bs : ℕ → Map) (want : Want) (store : Blocks) (f : TreeFault)
    → ((u : UnreadBlock) (w : Want) → Was u w → Is u w) → SectorComes Was Bs want store (Err f) → SectorComes Is Bs want store (Err f)
comes_as Was Is Bs want store (tree.Lost a) weaker h = h
comes_as Was Is Bs want store (tree.Unread a slot) weaker h = weaker (record { addr = a; slot = slot }) want h
comes_as Was Is Bs want store (tree.Unmapped a) weaker h = h
comes_as Was Is Bs want store (tree.Crosses a) weaker h = h
comes_as Was Is Bs want store (tree.Malformed a) weaker h = h

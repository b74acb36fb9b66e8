-- What a block of a row gets, and what is written and counted for it.
use Rattle.std.proofs.Common.{◌≡◌, ℕ, ◌≤◌, ◌&&◌, ◌||◌, Bool, true, false, not, cond, List, [], ◌∷◌, length, map, take, nat_lt, Option, Some, None, is_none}
use Rattle.std.proofs.Common.{is_some, refl, sym, ap, ◌∙◌, arith, length-take}
use Rattle.btr_scrub_row.proofs.Common.{Doubts, Images, KnowsDoubts, Layout, LiesAt, Range, Row, Slice, SlicePiece, Target, Write, bytes_eq, common_steps}
use Rattle.btr_scrub_row.proofs.Common.{filter, flag_of, is_checked, is_on_behind, is_plain, is_sure, mending_writes, mirrors, new_bytes, option_map_or}
use Rattle.btr_scrub_row.proofs.Common.{range_of, range_with_len, same_Some, size_of}
use Rattle.std.specs.List.{cons_option}
use Rattle.std.specs.Option.{option_map}
use Rattle.btr_chunk.specs.declared.place.Part.TheVariants.{Mirror}
use Rattle.btr_read.specs.Candidates.{element}
use Rattle.btr_scrub_copies.specs.Blocks.{accepted, bad_parts, block_writes, copy_writes, is_good, is_lost, is_sound, own_parts}
use Rattle.btr_scrub_copies.specs.Fresh.{fresh, fresh_writes, is_stale, stale_beside, stale_parts}
use Rattle.btr_scrub_row.specs.Wanted.{is_lost_block, renewed, wrong_parts}
use Rattle.btr_scrub_row.specs.Rows.{has_doubtful}
use Rattle.btr_scrub_row.specs.Memory.{IsAccepted, IsRenewed, IsSettled}
use Rattle.btr_scrub_row.specs.declared.settling.Settled.{Settled}
use Rattle.btr_scrub_row.proofs.Doubting.{own_doubtful}
use Rattle.std.proofs.lemmas.Bool.Decides.{nat_tests}

-- bytes, written at a range
abbrev pub written_at : Range → List ℕ → Write
written_at range bytes = record { range = range; bytes = bytes }

-- each write of what a block gets is at one of its wrong places
pub mending_is : (images : Images) (row : Row) (t : Target) → mending_writes images row.failing t
    ≡ option_map_or (λ bytes. copy_writes t bytes (wrong_parts images row.failing t)) (new_bytes images row.failing t) []
mending_is images row t = by (is_plain t.want)
  where
    none_for : {X Y : Type 0} (f : X → List Y → List Write) → ((x : X) → f x [] ≡ []) → (parts : List Y) (o : Option X)
        → option_map_or (λ x. f x parts) o [] ≡ option_map_or (λ x. f x parts) (cond (nat_lt 0 (length parts)) o None) []
    none_for f none parts o = grind (arith, common_steps, nat_tests, none)

    by : (b : Bool) → cond b (fresh_writes images row.failing t) (block_writes images t)
        ≡ option_map_or (λ bytes. copy_writes t bytes (cond b (stale_parts images row.failing t) (bad_parts images t)))
        (cond b (renewed images row.failing t) (accepted images t)) []
    by true = none_for (copy_writes t) (λ bytes. refl) (stale_parts images row.failing t) (fresh images row.failing t)
    by false = refl

-- ---- of a row

module _ (images : Images) (t : Target) (none : mirrors t.chunk ≡ None) where
  -- a block in a chunk with parity has its slice as the only place of its own
  pub own : own_parts t ≡ Slice t.at.index ∷ []
  own = ap (λ o. option_map_or (λ copies. map Mirror (range_with_len 0 copies)) o (Slice t.at.index ∷ [])) none

  -- its slice is bad where it isn't good
  pub bad_are : bad_parts images t ≡ cond (not (is_good images t (Slice t.at.index))) (Slice t.at.index ∷ []) []
  bad_are = ap (filter (λ part. not (is_sound images t part))) own

-- ---- a plain sector

module _ (images : Images) (row : Row) (t : Target) (none : mirrors t.chunk ≡ None) where
  -- some are, and they are compared
  pub renewed_as : (block bytes : List ℕ) (same : Bool) → is_on_behind row.failing t (Slice t.at.index) ≡ true
      → fresh images row.failing t ≡ Some (take (size_of t) block) → bytes ≡ element images t (Slice t.at.index)
      → same ≡ bytes_eq bytes (take (size_of t) block) → IsRenewed images row t block (not same)
  renewed_as block bytes same behind is at compared = record {
    parts = ap (λ o. option_map_or (stale_beside images row.failing t) o []) is
        ∙ ap (filter (is_stale images row.failing t (take (size_of t) block))) (own images t none)
        ∙ ap (λ b. cond (b && not (bytes_eq (element images t (Slice t.at.index)) (take (size_of t) block))) (Slice t.at.index ∷ []) []) behind
        ∙ ap (λ b. cond (not b) (Slice t.at.index ∷ []) []) (ap (λ xs. bytes_eq xs (take (size_of t) block)) (sym at) ∙ sym compared);
    bytes = λ h. is;
  }

  -- what it gets
  pub settled_plain : (block : List ℕ) (stale : Bool) → is_plain t.want ≡ true → IsRenewed images row t block stale
      → IsSettled images row t block (record { good = not stale; given = stale })
  settled_plain block stale plain is = record {
    wrong = ap (λ b. cond b (stale_parts images row.failing t) (bad_parts images t)) plain ∙ is.parts ∙ turned stale;
    gets = ap (λ b. cond b (renewed images row.failing t) (accepted images t)) plain
        ∙ ap (λ parts. cond (nat_lt 0 (length parts)) (fresh images row.failing t) None) is.parts ∙ by stale is.bytes;
  }
    where
      turned : (b : Bool) → cond b (Slice t.at.index ∷ []) [] ≡ cond (not b) [] (Slice t.at.index ∷ [])
      turned b = grind arith

      by : (b : Bool) → (b ≡ true → fresh images row.failing t ≡ Some (take (size_of t) block))
          → cond (nat_lt 0 (length (cond b (Slice t.at.index ∷ []) []))) (fresh images row.failing t) None ≡ cond b (Some (take (size_of t) block)) None
      by true bytes = bytes refl
      by false bytes = refl

  -- ---- a checked block

  not_wrong : (b : Bool) → cond (not b) (Slice t.at.index ∷ []) [] ≡ cond b [] (Slice t.at.index ∷ [])
  not_wrong b = grind arith

  -- where a candidate passes, the block gets its bytes
  pub settled_accepted : (block : List ℕ) (good : Bool) → is_plain t.want ≡ false → IsAccepted images t block good
      → IsSettled images row t block (record { good = good; given = true })
  settled_accepted block good checked is = record {
    wrong = ap (λ b. cond b (stale_parts images row.failing t) (bad_parts images t)) checked ∙ bad_are images t none
        ∙ ap (λ b. cond (not b) (Slice t.at.index ∷ []) []) is.good ∙ not_wrong good;
    gets = ap (λ b. cond b (renewed images row.failing t) (accepted images t)) checked ∙ is.bytes;
  }

-- ---- what is counted, and written

module _ (images : Images) (row : Row) (t : Target) (block : List ℕ) (settled : Settled) (is : IsSettled images row t block settled) where
  by_cond : (b : Bool) → length (cond b [] (Slice t.at.index ∷ [])) ≡ cond (not b) 1 0
  by_cond b = grind (arith, common_steps)

  -- the block has one wrong place where something is wrong at its own
  pub length-wrong : length (wrong_parts images row.failing t) ≡ cond (not settled.good) 1 0
  length-wrong = ap length is.wrong ∙ by_cond settled.good

  -- one write where something is wrong and bytes are given, and none where not
  writes_as : mending_writes images row.failing t ≡ cond (not settled.good && settled.given) (copy_writes t (take (size_of t) block) (Slice t.at.index ∷ [])) []
  writes_as = mending_is images row t
      ∙ ap (λ parts. option_map_or (λ bytes. copy_writes t bytes parts) (new_bytes images row.failing t) []) is.wrong
      ∙ ap (λ o. option_map_or (λ bytes. copy_writes t bytes (cond settled.good [] (Slice t.at.index ∷ []))) o []) is.gets ∙ by settled.good settled.given
    where
      by : (good given : Bool) → option_map_or (λ bytes. copy_writes t bytes (cond good [] (Slice t.at.index ∷ [])))
          (cond given (Some (take (size_of t) block)) None) [] ≡ cond (not good && given) (copy_writes t (take (size_of t) block) (Slice t.at.index ∷ [])) []
      by good given = grind (arith, common_steps)

  -- a write is to be made unless the place is good, or nothing is given
  written_if : (good given : Bool) → (not good && given) ≡ not (good || not given)
  written_if good given = grind arith

  -- nothing is written where nothing is wrong, or nothing given
  pub writes_not : (settled.good || not settled.given) ≡ true → [] ≡ mending_writes images row.failing t
  writes_not h = sym (writes_as ∙ ap (λ b. cond b (copy_writes t (take (size_of t) block) (Slice t.at.index ∷ [])) [])
      (written_if settled.good settled.given ∙ ap not h))

  -- where the block's own place stands
  module _ (range : Range) (stands : range_of t (Slice t.at.index) ≡ Some range) where
    one : copy_writes t (take (size_of t) block) (Slice t.at.index ∷ []) ≡ written_at range (take (size_of t) block) ∷ []
    one = ap (λ o. cons_option (option_map (λ r. written_at r (take (size_of t) block)) o) []) stands

    -- one write is made where something is wrong and bytes are given
    pub writes_one : (settled.good || not settled.given) ≡ false → mending_writes images row.failing t ≡ written_at range (take (size_of t) block) ∷ []
    writes_one h = writes_as ∙ ap (λ b. cond b (copy_writes t (take (size_of t) block) (Slice t.at.index ∷ [])) [])
        (written_if settled.good settled.given ∙ ap not h) ∙ one

    -- where one write is made, one is counted, and else none
    pub length-writes : length (mending_writes images row.failing t) ≡ cond (not settled.good && settled.given) 1 0
    length-writes = ap length (writes_as ∙ ap (λ ws. cond (not settled.good && settled.given) ws []) one) ∙ by (not settled.good && settled.given)
      where
        by : (b : Bool) → length (cond b (written_at range (take (size_of t) block) ∷ []) []) ≡ cond b 1 0
        by b = grind (arith, common_steps)

  -- it is lost where it is a checked block and gets nothing
  pub lost_is : is_lost_block images t ≡ (is_checked t && not settled.given)
  lost_is = by (is_plain t.want) refl
    where
      none_is : (b : Bool) → is_none (cond b (Some (take (size_of t) block)) None) ≡ not b
      none_is b = grind arith

      by : (b : Bool) → is_plain t.want ≡ b → (not b && is_lost images t) ≡ (not b && not settled.given)
      by true e = refl
      by false e = ap is_none (sym (ap (λ b. cond b (renewed images row.failing t) (accepted images t)) e) ∙ is.gets) ∙ none_is settled.given

  -- what it gets is as long as it is
  pub long_is : size_of t ≤ length block → (bytes : List ℕ) → new_bytes images row.failing t ≡ Some bytes → length bytes ≡ size_of t
  long_is room bytes e = by settled.given (sym is.gets ∙ e)
    where
      by : (b : Bool) → cond b (Some (take (size_of t) block)) None ≡ Some bytes → length bytes ≡ size_of t
      by true h = let same : take (size_of t) block ≡ bytes = same_Some (take (size_of t) block) bytes h in
          omega (arith, ap length same, length-take (size_of t) block, room)
      by false h = cc

  -- what stands in its place in the new data is sure
  module _ (layout : Layout) (piece : SlicePiece) (doubts : Doubts) (at : LiesAt layout row t piece) (knows : KnowsDoubts layout row doubts) where
    some_is : (b : Bool) → is_some (cond b (Some (take (size_of t) block)) None) ≡ b
    some_is b = grind arith

    twice : (b : Bool) → not (not b) ≡ b
    twice b = grind arith

    -- what was computed to be sure is so by the definition
    pub sure_is : (settled.given || not (is_checked t) && (doubts.some && not (flag_of doubts.doubtful piece.index))) ≡ is_sure images layout row t
    sure_is =
        ap (λ b. b || not (is_checked t) && (doubts.some && not (flag_of doubts.doubtful piece.index))) (sym (ap is_some is.gets ∙ some_is settled.given))
        ∙ ap (λ b. is_some (new_bytes images row.failing t) || b && (doubts.some && not (flag_of doubts.doubtful piece.index))) (twice (is_plain t.want))
        ∙ ap (λ b. is_some (new_bytes images row.failing t) || is_plain t.want && (b && not (flag_of doubts.doubtful piece.index))) knows.some
        ∙ ap (λ b. is_some (new_bytes images row.failing t) || is_plain t.want && (has_doubtful layout.devices row.failing row.chunk && not b))
        (own_doubtful at knows)

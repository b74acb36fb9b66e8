-- Blocks are sifted one after another.
use Rattle.std.proofs.Common.{◌≡◌, ℕ, ◌+◌, Bool, true, false, cond, ◌||◌, leb, ltb, List, [], ◌∷◌, ◌++◌, length, Option, Some, None, is_none, IsSome, Result}
use Rattle.std.proofs.Common.{Ok, Err, refl, sym, ap, ◌∙◌, ◌⊎◌, ◌≢◌, get_or, slice_get, subst, inl, inr, arith, zero, suc, is_some, ◌*◌, ◌^◌, ◌<◌, ◌≤◌, not}
use Rattle.std.proofs.Common.{◌&&◌, IfSome, drop, append_assoc, append-nil}
use Rattle.std.proofs.Math.Nat.{suc-mul}
use Rattle.btr_scrub.proofs.Common.{AccountsMend, AddsAll, AreApart, AreOfKind, AreUpTo, CanSift, Chunk, Fault, Gathered, HasKeptOf, HasRooms, Images, In}
use Rattle.btr_scrub.proofs.Common.{IsFirstRefused, IsList, IsSought, IsTable, KeptBlocks, Layout, LiesInChunk, LiesInStripe, MendFault, Mended, Mirror, Range}
use Rattle.btr_scrub.proofs.Common.{Seen, ShareNoRow, Sifts, SiftsNext, Span, SumKind, Target, TreeFault, Want, addr_of, alone, and_from, and_parts, chunk_at}
use Rattle.btr_scrub.proofs.Common.{cons_option, false≢true, filter, first_missing, flagged, has_older, holds, in_either, in_left, in_right, is_checked}
use Rattle.btr_scrub.proofs.Common.{is_copy_needed, is_in_row, is_needed, is_plain, is_row_needed, kept_wants, le-leb, leb-true, len_of, length-drop, mended_of}
use Rattle.btr_scrub.proofs.Common.{mirrors, ok_or_none, option_map_or, plains_from, row_of, slice_get_within, sought, sought_of, stood, sum_by-cons, sum_size}
use Rattle.btr_scrub.proofs.Common.{targets}
use Rattle.std.proofs.lemmas.List.Elements.{filter-append}
use Rattle.std.proofs.lemmas.List.Sums.{sum_by-append}
use Rattle.std.specs.Prelude.{count_by}
use Rattle.btr_read.specs.declared.setting.Setting.{Setting}
use Rattle.btr_read.specs.declared.want.Want.TheVariants.{Block, Tree}
use Rattle.btr_scrub.specs.Listed.{AreRuns, IsOfKind, IsRun, PassesPlain, all_sectors, run_wants, sectors_from, sectors_of, trees_of, wants_of}
use Rattle.btr_scrub.specs.Order.{AreBetween}
use Rattle.btr_scrub.specs.declared.run.Run.{Run}
use Rattle.btr_scrub.specs.declared.run.RunKind.{RunKind}
use Rattle.btr_scrub.specs.declared.run.RunKind.TheVariants.{TreeBlock, Sectors, Unsummed}
use Rattle.btr_scrub.specs.declared.run.TreeMark.{TreeMark}
use Rattle.btr_scrub.specs.declared.sieve.Sieve.{Sieve}
use Rattle.btr_scrub.specs.declared.sifted.Sifted.{Sifted}
use Rattle.btr_scrub.proofs.Listing.{adds_list, both, times_sum}
use Rattle.btr_scrub.proofs.Scrubbing.{account_weaker, tell, told}
use Rattle.btr_scrub.proofs.Unitwise.{between_more}
use Rattle.std.proofs.Math.Bool.{and-false, and-true}
use Rattle.btr_scrub_copies.specs.Mending.{IsCopied, IsOfCopy}
use Rattle.btr_scrub.specs.Scanning.{IsSpanIn}
use Rattle.btr_scrub.specs.Sifting.{AreSifted, ContinuesList, Judges, PassesInert, is_left_out, is_unsound, kept_of, left_out, lies_in, needs, row_among}
use Rattle.btr_scrub.proofs.AcrossChunks.{sum_same}
use Rattle.btr_scrub.proofs.Agreeing.{filter_same}
use Rattle.btr_scrub.proofs.Blockwise.{all_behind, chunk_same, of_targets, part_is_given, target_sought, targets_both}
use Rattle.btr_scrub.proofs.RowNumbers.{IsParityChunk, row_is_not, sought_each}
use Rattle.btr_scrub.proofs.Sums.{sum_zero}
use Rattle.btr_scrub.proofs.Positions.{alone_lies, copy_in_stripe, find_at, is_sought, bounds_of}
use Rattle.btr_scrub.proofs.Lists.{any_at, at_in, in_of, some_if, some_of, in_more}
use Rattle.btr_scrub.proofs.Refusing.{refused_behind, upto_more}
use Rattle.btr_scrub.proofs.OneSector.{stored_again}
use Rattle.btr_scrub.proofs.Grouping.{filter_all, filter_first, filter_later, filter_none}

-- a block with copies all of which are given can be looked at
pub sought_copied : (layout : Layout) (want : Want) (t : Target) → IsTable layout.chunks → first_missing layout ≡ None → sought layout want ≡ Ok t
    → IsSome (mirrors t.chunk) → IsCopied layout want
sought_copied layout want t table given e copies = record {
  target = t;
  is_sought = e;
  copies = copies;
  stand = λ m has. part_is_given layout t (Mirror m) table (is_sought layout want t e) has given;
}

-- what lies in a stripe of a chunk of the table lies in a stripe
pub in_table : (layout : Layout) (number : ℕ) (chunk : Chunk) (range : Range) → slice_get layout.chunks number ≡ Some chunk
    → LiesInStripe (alone layout chunk) range → LiesInStripe layout range
in_table layout number chunk range there lies = any_at (λ chunk. LiesInChunk layout chunk range) layout.chunks number chunk
    (slice_get_within layout.chunks number chunk there) there (alone_lies layout chunk range lies)

-- a read that failed in a copy failed in a stripe
pub copies_in_stripe : {A : Type 0} (layout : Layout) (want : Want) (t : Target) (a b : Seen) (r : Result A MendFault) → IsTable layout.chunks
    → sought layout want ≡ Ok t → AccountsMend (IsOfCopy t) a b r → AccountsMend (LiesInStripe layout) a b r
copies_in_stripe layout want t a b r table e h =
    let is = is_sought layout want t e in
    account_weaker (IsOfCopy t) (LiesInStripe layout) a b r
    (λ range of. in_table layout is.number t.chunk range is.there (copy_in_stripe layout t range table is of)) h

-- what is needed, by what was found
module _ (images : Images) (layout : Layout) (t : Target) where
  -- a checked block is needed where a copy is bad, or all are lost
  pub needed_block : is_plain t.want ≡ false → (mended : Mended) → mended ≡ mended_of images t false
      → is_copy_needed images layout t ≡ (ltb 0 mended.bad || mended.lost)
  needed_block checked mended is = ap (λ b. cond b (has_older layout.devices t.chunk) (is_unsound images t)) checked
      ∙ sym (ap (λ (m : Mended). ltb 0 m.bad || m.lost) is)

  -- with copies it hangs on no other block
  pub needed_copy : (ts : List Target) → IsSome (mirrors t.chunk) → is_needed images layout ts t ≡ is_copy_needed images layout t
  needed_copy ts copies =
      let n = some_of (mirrors t.chunk) copies in
      ap (λ o. cond (is_none o) (is_row_needed images layout (row_among ts t)) (is_copy_needed images layout t)) n.1

  -- with parity it is needed where its full stripe is
  pub needed_row : (ts : List Target) (chunk : Chunk) (k : ℕ) → t.chunk ≡ chunk → t.at.row ≡ k → mirrors chunk ≡ None
      → is_needed images layout ts t ≡ is_row_needed images layout (row_of (flagged []) ts chunk k)
  needed_row ts chunk k mine row parity =
      ap (λ c. cond (is_none (mirrors c)) (is_row_needed images layout (row_of (flagged []) ts c t.at.row)) (is_copy_needed images layout t)) mine
      ∙ ap (λ n. cond (is_none (mirrors chunk)) (is_row_needed images layout (row_of (flagged []) ts chunk n)) (is_copy_needed images layout t)) row
      ∙ ap (λ o. cond (is_none o) (is_row_needed images layout (row_of (flagged []) ts chunk k)) (is_copy_needed images layout t)) parity

-- ---- lists of blocks

module _ (layout : Layout) where
  -- blocks between two addresses lie, in two parts, before and behind a third
  pub between_parts : (a c : ℕ) (xs ys : List Want) → AreBetween layout a c (xs ++ ys) → (b : ℕ) × AreBetween layout a b xs × AreBetween layout b c ys
  between_parts a c [] ys h = (a, omega arith, h)
  between_parts a c (x ∷ xs) ys h = let r = between_parts (addr_of x + len_of layout.setting x) c xs ys h.2 in (r.0, (h.0, h.1, r.1), r.2)

  -- blocks up to an address lie before it
  pub upto_between : (a b : ℕ) (xs : List Want) → AreUpTo layout a b xs → AreBetween layout a b xs
  upto_between a b [] h = omega (arith, h)
  upto_between a b (x ∷ xs) h = (h.0, h.1, upto_between (addr_of x + len_of layout.setting x) b xs h.2)

  -- a block that is refused is so before others
  pub refused_before : (a : ℕ) (xs ys : List Want) (f : TreeFault) → IsFirstRefused layout a xs f → IsFirstRefused layout a (xs ++ ys) f
  refused_before a [] ys f r = absurd r
  refused_before a (x ∷ xs) ys f (inl here) = inl here
  refused_before a (x ∷ xs) ys f (inr later) = inr (later.0, refused_before (addr_of x + len_of layout.setting x) xs ys f later.1)

  -- their ends are in order
  pub between_le : (a c : ℕ) (xs : List Want) → AreBetween layout a c xs → a ≤ c
  between_le a c [] h = h
  between_le a c (x ∷ xs) h = omega (arith, h.0, between_le (addr_of x + len_of layout.setting x) c xs h.2)

  -- each ends before the end of all
  pub upto_each : (a b : ℕ) (xs : List Want) → AreUpTo layout a b xs → (x : Want) → In x xs → (a ≤ addr_of x) × (addr_of x + len_of layout.setting x ≤ b)
  upto_each a b [] h x i = absurd i
  upto_each a b (y ∷ ys) h x (inl e) =
      let end = addr_of y + len_of layout.setting y in
      subst (λ w. (a ≤ addr_of w) × (addr_of w + len_of layout.setting w ≤ b)) e (h.0, between_le end b ys (upto_between end b ys h.2))
  upto_each a b (y ∷ ys) h x (inr i) =
      let r = upto_each (addr_of y + len_of layout.setting y) b ys h.2 x i in
      (omega (arith, h.0, r.0), r.1)

-- the position of a block is among those of its list
pub in_targets : (layout : Layout) (w : Want) (t : Target) (ws : List Want) → In w ws → sought layout w ≡ Ok t → In t (targets layout ws)
in_targets layout w t [] i e = absurd i
in_targets layout w t (v ∷ ws) (inl same) e = subst (In t) (sym (ap (λ r. cons_option (ok_or_none r) (targets layout ws)) (ap (sought layout) same ∙ e)))
    (inl refl)
in_targets layout w t (v ∷ ws) (inr i) e = in_more (ok_or_none (sought layout v)) t (targets layout ws) (in_targets layout w t ws i e)

-- ---- what is kept of a list

module _ (images : Images) (layout : Layout) (wants : List Want) where
  abbrev ts : List Target
  ts = targets layout wants

  -- where all are needed, all are kept
  kept_whole : ((t : Target) → In t ts → is_needed images layout ts t ≡ true) → kept_of images layout wants ≡ wants
  kept_whole all = filter_all (needs images layout ts) wants (λ w i. by w i (sought layout w) refl)
    where
      -- each want is needed, whether it has a position or not
      by : (w : Want) → In w wants → (r : Result Target Fault) → sought layout w ≡ r → needs images layout ts w ≡ true
      by w i (Err f) e = ap (λ r. option_map_or (is_needed images layout ts) (ok_or_none r) true) e
      by w i (Ok t) e = ap (λ r. option_map_or (is_needed images layout ts) (ok_or_none r) true) e ∙ all t (in_targets layout w t wants i e)

  -- and none is left out
  left_none : ((t : Target) → In t ts → is_needed images layout ts t ≡ true) → left_out images layout wants ≡ 0
  left_none all = sum_zero (λ t. cond (is_left_out images layout ts t) 1 0) ts (λ t i. ap (λ b. cond (is_checked t && not b) 1 0) (all t i)
      ∙ ap (λ b. cond b 1 0) (and-false (is_checked t)))

  module _ (none : (t : Target) → In t ts → is_needed images layout ts t ≡ false) where
    -- none is kept
    kept_none : ((w : Want) → In w wants → (t : Target) × (sought layout w ≡ Ok t)) → kept_of images layout wants ≡ []
    kept_none placed = filter_none (needs images layout ts) wants (λ w i.
        let t = placed w i in
        ap (λ r. option_map_or (is_needed images layout ts) (ok_or_none r) true) t.1 ∙ none t.0 (in_targets layout w t.0 wants i t.1))

    -- all that are checked are left out
    left_checked : left_out images layout wants ≡ count_by is_checked ts
    left_checked = sum_same (λ t. cond (is_left_out images layout ts t) 1 0) (λ t. cond (is_checked t) 1 0) ts
        (λ t i. ap (λ b. cond (is_checked t && not b) 1 0) (none t i) ∙ ap (λ b. cond b 1 0) (and-true (is_checked t)))

-- ---- lists that share no full stripe

module _ (layout : Layout) (table : IsTable layout.chunks) where
  -- whether a block is needed hangs on those of its full stripe
  alone_needed : (images : Images) (t : Target) (ts us : List Target)
      → (mirrors t.chunk ≡ None → filter (is_in_row t.chunk t.at.row) us ≡ filter (is_in_row t.chunk t.at.row) ts)
      → is_needed images layout us t ≡ is_needed images layout ts t
  alone_needed images t ts us same = by (mirrors t.chunk) refl
    where
      by : (o : Option ℕ) → mirrors t.chunk ≡ o → is_needed images layout us t ≡ is_needed images layout ts t
      by (Some n) e = needed_copy images layout t us (subst IsSome (sym e) refl) ∙ sym (needed_copy images layout t ts (subst IsSome (sym e) refl))
      by None e = ap (λ bs. cond (is_none (mirrors t.chunk))
          (is_row_needed images layout (record { chunk = t.chunk; number = t.at.row; blocks = bs; failing = flagged [] })) (is_copy_needed images layout t))
          (same e)

  -- a block that shares no full stripe with another doesn't lie in that of the other
  outside : (t u : Target) → IsSought layout t → IsSought layout u → mirrors t.chunk ≡ None → (t.chunk ≡ u.chunk → t.at.row ≢ u.at.row)
      → is_in_row t.chunk t.at.row u ≡ false
  outside t u is are none apart =
      let of : IsParityChunk layout is.number t.chunk = record { table = table; there = is.there; parity = none } in
      row_is_not of t.at.row u are (λ same row. apart (sym same) (sym row))

  module _ (images : Images) (xs ys : List Want) (share : ShareNoRow layout xs ys) where
    -- the blocks of both lists
    abbrev both_ts : List Target
    both_ts = targets layout (xs ++ ys)

    -- they are those of the first, and behind them those of the last
    are_both : both_ts ≡ targets layout xs ++ targets layout ys
    are_both = targets_both layout xs ys

    -- whether one of the first is needed hangs on the first alone
    first_needed : (t : Target) → In t (targets layout xs) → is_needed images layout both_ts t ≡ is_needed images layout (targets layout xs) t
    first_needed t i = ap (λ ts. is_needed images layout ts t) are_both
        ∙ alone_needed images t (targets layout xs) (targets layout xs ++ targets layout ys)
        (λ none. filter_first (is_in_row t.chunk t.at.row) (targets layout xs) (targets layout ys)
        (λ u j. outside t u (target_sought layout xs t i) (target_sought layout ys u j) none (λ same. share t u i j same none)))

    -- whether one of the last is hangs on the last
    later_needed : (t : Target) → In t (targets layout ys) → is_needed images layout both_ts t ≡ is_needed images layout (targets layout ys) t
    later_needed t i = ap (λ ts. is_needed images layout ts t) are_both
        ∙ alone_needed images t (targets layout ys) (targets layout xs ++ targets layout ys)
        (λ none. filter_later (is_in_row t.chunk t.at.row) (targets layout xs) (targets layout ys)
        (λ u j. outside t u (target_sought layout ys t i) (target_sought layout xs u j) none
        (λ same eq. share u t j i (sym same) (ap mirrors (sym same) ∙ none) (sym eq))))

    -- whether a want is needed is the same by both lists as by one, where it is so with that one's blocks
    needs_same : (ws : List Want) →
        ((t : Target) → In t (targets layout ws) → is_needed images layout both_ts t ≡ is_needed images layout (targets layout ws) t)
        → (w : Want) → In w ws → needs images layout both_ts w ≡ needs images layout (targets layout ws) w
    needs_same ws h w i = by (sought layout w) refl
      where
        by : (r : Result Target Fault) → sought layout w ≡ r → option_map_or (is_needed images layout both_ts) (ok_or_none r) true
            ≡ option_map_or (is_needed images layout (targets layout ws)) (ok_or_none r) true
        by (Err f) e = refl
        by (Ok t) e = h t (in_targets layout w t ws i e)

    -- what is kept of both is what is kept of each
    pub kept_both : kept_of images layout (xs ++ ys) ≡ kept_of images layout xs ++ kept_of images layout ys
    kept_both =
        filter-append (needs images layout both_ts) xs ys
        ∙ ap (λ ws. ws ++ filter (needs images layout both_ts) ys)
        (filter_same (needs images layout both_ts) (needs images layout (targets layout xs)) xs (needs_same xs first_needed))
        ∙ ap (λ ws. kept_of images layout xs ++ ws)
        (filter_same (needs images layout both_ts) (needs images layout (targets layout ys)) ys (needs_same ys later_needed))

    -- of one list as many are left out by both as by itself
    left_part : (ws : List Want) → ((t : Target) → In t (targets layout ws) → is_needed images layout both_ts t ≡ is_needed images layout (targets layout ws) t)
        → count_by (is_left_out images layout both_ts) (targets layout ws) ≡ left_out images layout ws
    left_part ws h = sum_same (λ t. cond (is_left_out images layout both_ts t) 1 0) (λ t. cond (is_left_out images layout (targets layout ws) t) 1 0)
        (targets layout ws) (λ t i. ap (λ b. cond (is_checked t && not b) 1 0) (h t i))

    -- so it is with those that are left out
    pub left_both : left_out images layout (xs ++ ys) ≡ left_out images layout xs + left_out images layout ys
    left_both =
        let one = left_part xs first_needed in
        let two = left_part ys later_needed in
        ap (count_by (is_left_out images layout both_ts)) are_both
        ∙ sum_by-append (λ t. cond (is_left_out images layout both_ts t) 1 0) (targets layout xs) (targets layout ys) ∙ omega (arith, one, two)

-- ---- what is sifted

module _ (layout : Layout) (held : Option Images) where
  -- nothing was sifted
  pub sifts_none : (x : Sifted) → CanSift layout x → Sifts layout held [] x x
  sifts_none x can = record {
    can = can;
    kind = refl;
    more = [];
    wants_are = sym (append-nil (kept_wants x.kept));
    within = λ from to h. h;
    needed = tell held (λ images. [] ≡ kept_of images layout []) (λ images e. refl);
    sound = tell held (λ images. (n : ℕ) → x.sound ≡ stood n → x.sound ≡ stood (n + left_out images layout [])) (λ images e n is. is ∙ ap stood (omega arith));
  }

  -- both lists were
  pub sifts_then : IsTable layout.chunks → (xs ys : List Want) (x y z : Sifted) → ShareNoRow layout xs ys → Sifts layout held xs x y → Sifts layout held ys y z
      → Sifts layout held (xs ++ ys) x z
  sifts_then table xs ys x y z share h g = record {
    can = g.can;
    kind = g.kind ∙ h.kind;
    more = h.more ++ g.more;
    wants_are = g.wants_are ∙ ap (λ ws. ws ++ g.more) h.wants_are ∙ append_assoc (kept_wants x.kept) h.more g.more;
    within = λ from to b. let p = between_parts layout from to xs ys b in between_more layout from p.0 to h.more g.more (h.within from p.0 p.1)
        (g.within p.0 to p.2);
    needed = tell held (λ images. h.more ++ g.more ≡ kept_of images layout (xs ++ ys)) (λ images e.
        ap (λ ws. ws ++ g.more) (told held (λ images. h.more ≡ kept_of images layout xs) images e h.needed)
        ∙ ap (λ ws. kept_of images layout xs ++ ws) (told held (λ images. g.more ≡ kept_of images layout ys) images e g.needed)
        ∙ sym (kept_both layout table images xs ys share));
    sound = tell held (λ images. (n : ℕ) → x.sound ≡ stood n → z.sound ≡ stood (n + left_out images layout (xs ++ ys))) (λ images e n is.
        let one = told held (λ images. (n : ℕ) → x.sound ≡ stood n → y.sound ≡ stood (n + left_out images layout xs)) images e h.sound n is in
        let two = told held (λ images. (n : ℕ) → y.sound ≡ stood n → z.sound ≡ stood (n + left_out images layout ys)) images e g.sound
        (n + left_out images layout xs) one in
        let whole : n + left_out images layout xs + left_out images layout ys ≡ n + left_out images layout (xs ++ ys) = omega
        (arith, left_both layout table images xs ys share) in
        two ∙ ap stood whole);
  }

  module _ (wants : List Want) (x y : Sifted) where
    abbrev blocks : List Target
    blocks = targets layout wants

    -- all are kept
    pub sifts_kept : CanSift layout x → IfSome held (λ images. (t : Target) → In t blocks → is_needed images layout blocks t ≡ true)
        → AddsAll x.kept y.kept wants → y.sound ≡ x.sound → y.nodesize ≡ x.nodesize → HasRooms layout y.room.buffer → Sifts layout held wants x y
    sifts_kept can needed a same nodesize rooms = record {
      can = record { is_list = a.is_list; nodesize = nodesize ∙ can.nodesize; large = omega (arith, can.large, nodesize); rooms = rooms };
      kind = a.kind;
      more = wants;
      wants_are = a.wants;
      within = λ from to h. h;
      needed = tell held (λ images. wants ≡ kept_of images layout wants) (λ images h. sym (kept_whole images layout wants (all images h)));
      sound = tell held (λ images. (n : ℕ) → x.sound ≡ stood n → y.sound ≡ stood (n + left_out images layout wants)) (λ images h n is.
          let none : n ≡ n + left_out images layout wants = omega (arith, left_none images layout wants (all images h)) in
          same ∙ is ∙ ap stood none);
    }
      where
        -- all blocks are needed, by the images that are told
        all : (images : Images) → held ≡ Some images → (t : Target) → In t blocks → is_needed images layout blocks t ≡ true
        all images h = told held (λ images. (t : Target) → In t blocks → is_needed images layout blocks t ≡ true) images h needed

    -- all are left out, and so many checked ones are counted
    pub sifts_out : ((w : Want) → In w wants → (t : Target) × (sought layout w ≡ Ok t)) → CanSift layout y → (more : ℕ)
        → IfSome held (λ images. more ≡ count_by is_checked blocks)
        → IfSome held (λ images. (t : Target) → In t blocks → is_needed images layout blocks t ≡ false) → y.kept ≡ x.kept
        → ((n : ℕ) → x.sound ≡ stood n → y.sound ≡ stood (n + more)) → Sifts layout held wants x y
    sifts_out placed can more counted needed same grows = record {
      can = can;
      kind = ap (λ (k : KeptBlocks). k.kind) same;
      more = [];
      wants_are = ap kept_wants same ∙ sym (append-nil (kept_wants x.kept));
      within = λ from to h. between_le layout from to wants h;
      needed = tell held (λ images. [] ≡ kept_of images layout wants) (λ images h. sym (kept_none images layout wants (none images h) placed));
      sound = tell held (λ images. (n : ℕ) → x.sound ≡ stood n → y.sound ≡ stood (n + left_out images layout wants)) (λ images h n is.
          grows n is ∙ ap (λ k. stood (n + k))
          (told held (λ images. more ≡ count_by is_checked blocks) images h counted ∙ sym (left_checked images layout wants (none images h))));
    }
      where
        -- no block is needed, by the images that are told
        none : (images : Images) → held ≡ Some images → (t : Target) → In t blocks → is_needed images layout blocks t ≡ false
        none images h = told held (λ images. (t : Target) → In t blocks → is_needed images layout blocks t ≡ false) images h needed

-- the only one of one
one_target : (layout : Layout) (want : Want) (t u : Target) → sought layout want ≡ Ok t → In u (targets layout (want ∷ [])) → t ≡ u
one_target layout want t u e i = by (subst (In u) (ap (λ r. cons_option (ok_or_none r) []) e) i)
  where
    by : In u (t ∷ []) → t ≡ u
    by (inl same) = same
    by (inr i) = absurd i

-- a block of a chunk with copies, as it is needed
pub one_needed : (layout : Layout) (held : Option Images) (want : Want) (t : Target) (b : Bool) → sought layout want ≡ Ok t → IsSome (mirrors t.chunk)
    → IfSome held (λ images. b ≡ is_copy_needed images layout t)
    → IfSome held (λ images. (u : Target) → In u (targets layout (want ∷ [])) → is_needed images layout (targets layout (want ∷ [])) u ≡ b)
one_needed layout held want t b e copies h = tell held
    (λ images. (u : Target) → In u (targets layout (want ∷ [])) → is_needed images layout (targets layout (want ∷ [])) u ≡ b)
    (λ images is u i. subst (λ v. is_needed images layout (targets layout (want ∷ [])) v ≡ b) (one_target layout want t u e i)
    (needed_copy images layout t (targets layout (want ∷ [])) copies ∙ sym (told held (λ images. b ≡ is_copy_needed images layout t) images is h)))

-- one that isn't needed is counted, if it is checked
pub one_out : (layout : Layout) (held : Option Images) (want : Want) (t : Target) (plain : Bool) (x y : Sifted) → sought layout want ≡ Ok t
    → IsSome (mirrors t.chunk) → is_plain want ≡ plain → IfSome held (λ images. false ≡ is_copy_needed images layout t) → CanSift layout y → y.kept ≡ x.kept
    → ((n : ℕ) → x.sound ≡ stood n → y.sound ≡ stood (n + cond (not plain) 1 0)) → Sifts layout held (want ∷ []) x y
one_out layout held want t plain x y e copies is needed can same grows = sifts_out layout held (want ∷ []) x y placed can (cond (not plain) 1 0)
    (tell held (λ images. cond (not plain) 1 0 ≡ count_by is_checked (targets layout (want ∷ []))) (λ images h. sym counted))
    (one_needed layout held want t false e copies needed) same grows
  where
    -- the block has its position
    placed : (w : Want) → In w (want ∷ []) → (t : Target) × (sought layout w ≡ Ok t)
    placed w (inl same) = (t, ap (sought layout) (sym same) ∙ e)
    placed w (inr i) = absurd i

    -- it is checked, or not
    counted : count_by is_checked (targets layout (want ∷ [])) ≡ cond (not plain) 1 0
    counted =
        let one : count_by is_checked (targets layout (want ∷ [])) ≡ cond (is_checked t) 1 0 =
        ap (λ r. count_by is_checked (cons_option (ok_or_none r) [])) e ∙ sum_by-cons (λ t. cond (is_checked t) 1 0) t [] ∙ omega arith in
        one ∙ ap (λ b. cond (not b) 1 0) (ap is_plain (sought_of layout want t e).want_is ∙ is)

-- ---- checksums of one kind

module _ (kind : SumKind) where
  -- two lists whose checksums are of a kind are so together
  pub of_kind_both : (xs ys : List Want) → AreOfKind kind xs → AreOfKind kind ys → AreOfKind kind (xs ++ ys)
  of_kind_both [] ys h g = g
  of_kind_both (x ∷ xs) ys h g = (h.0, of_kind_both xs ys h.1 g)

  -- the first of such a list are
  pub of_kind_first : (xs ys : List Want) → AreOfKind kind (xs ++ ys) → AreOfKind kind xs
  of_kind_first [] ys h = tt
  of_kind_first (x ∷ xs) ys h = (h.0, of_kind_first xs ys h.1)

  -- each of such a list is
  pub of_kind_at : (xs : List Want) (i : ℕ) (d : Want) → AreOfKind kind xs → i < length xs → IsOfKind kind (get_or xs i d)
  of_kind_at [] i d h lt = absurd (omega (arith, lt))
  of_kind_at (x ∷ xs) zero d h lt = h.0
  of_kind_at (x ∷ xs) (suc i) d h lt = of_kind_at xs i d h.1 (omega (arith, lt))

  -- the last of such a list are
  pub of_kind_behind : (xs ys : List Want) → AreOfKind kind (xs ++ ys) → AreOfKind kind ys
  of_kind_behind [] ys h = h
  of_kind_behind (x ∷ xs) ys h = of_kind_behind xs ys h.1

  -- the sectors of a run have checksums of the list's kind
  sectors_of_kind : (n addr : ℕ) (xs : List ℕ) → n * sum_size kind ≤ length xs → AreOfKind kind (sectors_from kind addr n xs)
  sectors_of_kind zero addr xs h = tt
  sectors_of_kind (suc n) addr xs h =
      let all = suc-mul n (sum_size kind) in
      let long = length-drop (sum_size kind) xs in
      (stored_again kind xs (omega (arith, h, all)), sectors_of_kind n (addr + 4096) (drop (sum_size kind) xs) (omega (arith, h, all, long)))

  -- sectors without a checksum are of any kind
  plains_of_kind : (n addr : ℕ) → addr + n * 4096 < 2 ^ 64 → AreOfKind kind (plains_from addr n)
  plains_of_kind zero addr h = tt
  plains_of_kind (suc n) addr h = (omega (arith, h), plains_of_kind n (addr + 4096) (omega (arith, h)))

  -- so is a whole run
  run_of_kind : (addr : ℕ) (k : RunKind) (xs : List ℕ) (ms : List TreeMark) → IsRun addr k → sectors_of k * sum_size kind ≤ length xs
      → AreOfKind kind (run_wants kind addr k xs ms)
  run_of_kind addr TreeBlock xs [] is h = tt
  run_of_kind addr TreeBlock xs (m ∷ ms) is h = (tt, tt)
  run_of_kind addr (Sectors n) xs ms is h = sectors_of_kind n addr xs h
  run_of_kind addr (Unsummed n) xs ms is h = plains_of_kind n addr is.1

  -- and so are all runs
  runs_of_kind : (runs : List Run) (xs : List ℕ) (ms : List TreeMark) → AreRuns runs → all_sectors runs * sum_size kind ≤ length xs
      → AreOfKind kind (wants_of kind runs xs ms)
  runs_of_kind [] xs ms are h = tt
  runs_of_kind (run ∷ runs) xs ms are h =
      let n = sectors_of run.kind * sum_size kind in
      let both = times_sum (sectors_of run.kind) (all_sectors runs) (sum_size kind) in
      let long = length-drop n xs in
      of_kind_both (run_wants kind run.addr run.kind xs ms) (wants_of kind runs (drop n xs) (drop (trees_of run.kind) ms))
      (run_of_kind run.addr run.kind xs ms are.0 (omega (arith, h, both)))
      (runs_of_kind runs (drop n xs) (drop (trees_of run.kind) ms) are.1 (omega (arith, h, both, long)))

-- those of a list are of its kind
pub list_of_kind : (kept : KeptBlocks) → IsList kept → AreOfKind kept.kind (kept_wants kept)
list_of_kind kept is = runs_of_kind kept.kind kept.runs kept.sums kept.marks is.runs_fit (omega (arith, is.sums_fit))

-- ---- lists one behind another

-- a list behind another has the blocks of both
pub is_behind : (whole more : KeptBlocks) → IsList whole → IsList more → more.kind ≡ whole.kind → (n m k : ℕ) → m ≡ k
    → ContinuesList (record { list = whole; unchecked = n }) (record { list = more; unchecked = m }) (record { list = both whole more; unchecked = k })
is_behind whole more is is_more same n m k e =
    let a = adds_list whole more is is_more same in record { is_list = a.is_list; kind = a.kind; wants = a.wants; unchecked = sym e }

-- ---- judging

module _ (layout : Layout) (held : Option Images) (whole more after : Gathered) (is : ContinuesList whole more after) where
  -- a sieve has what is kept of the list that continues, where it has what is kept of the wants of the two
  stands : (x : Sieve) → CanSift layout x.sifted → x.sifted.kept.kind ≡ whole.list.kind → x.unchecked ≡ more.unchecked
      → Judges layout held (kept_wants whole.list ++ kept_wants more.list) x x.refused → HasKeptOf layout held after x
  stands x can kind unchecked judged = record {
    is_whole = is.is_list;
    can = can;
    kind = kind ∙ sym is.kind;
    unchecked = unchecked ∙ sym is.unchecked;
    judged = subst (λ ws. Judges layout held ws x x.refused) (sym is.wants) judged;
  }

  -- one was refused before: it is so still
  pub stands_refused : (x : Sieve) → is_some x.refused ≡ true → HasKeptOf layout held whole x
      → HasKeptOf layout held after (record { sifted = x.sifted; unchecked = more.unchecked; end = x.end; refused = x.refused })
  stands_refused x is_refused h = stands now h.can h.kind refl (by x.refused is_refused h.judged)
    where
      now : Sieve
      now = record { sifted = x.sifted; unchecked = more.unchecked; end = x.end; refused = x.refused }

      by : (o : Option TreeFault) → is_some o ≡ true → Judges layout held (kept_wants whole.list) x o
          → Judges layout held (kept_wants whole.list ++ kept_wants more.list) now o
      by None r j = absurd (false≢true r)
      by (Some f) r j = refused_before layout 0 (kept_wants whole.list) (kept_wants more.list) f j

  module _ (x : Sieve) (none : x.refused ≡ None) (h : HasKeptOf layout held whole x) where
    -- those before were sifted
    was : AreSifted layout held (kept_wants whole.list) x
    was = subst (Judges layout held (kept_wants whole.list) x) none h.judged

    -- one is refused now
    pub stands_judged : (f : TreeFault) → IsFirstRefused layout x.end (kept_wants more.list) f
        → HasKeptOf layout held after (record { sifted = x.sifted; unchecked = more.unchecked; end = x.end; refused = Some f })
    stands_judged f r = stands (record { sifted = x.sifted; unchecked = more.unchecked; end = x.end; refused = Some f }) h.can h.kind refl
        (refused_behind layout 0 x.end (kept_wants whole.list) (kept_wants more.list) f was.apart r)

    -- they were sifted
    pub stands_more : IsTable layout.chunks → ShareNoRow layout (kept_wants whole.list) (kept_wants more.list) → (y : Sifted) (to : ℕ)
        → AreUpTo layout x.end to (kept_wants more.list) → Sifts layout held (kept_wants more.list) x.sifted y → HasKeptOf layout held after
        (record { sifted = y; unchecked = more.unchecked; end = to; refused = x.refused })
    stands_more table share y to upto s =
        let ws = kept_wants whole.list in
        let vs = kept_wants more.list in
        let now : Sieve = record { sifted = y; unchecked = more.unchecked; end = to; refused = x.refused } in
        stands now s.can (s.kind ∙ h.kind) refl (subst (Judges layout held (ws ++ vs) now) (sym none) (record {
          apart = upto_more layout 0 x.end to ws vs was.apart upto;
          kept_apart = subst (AreBetween layout 0 to) (sym s.wants_are) (between_more layout 0 x.end to (kept_wants x.sifted.kept) s.more was.kept_apart
              (s.within x.end to (upto_between layout x.end to vs upto)));
          needed = tell held (λ images. kept_wants y.kept ≡ kept_of images layout (ws ++ vs)) (λ images e.
              s.wants_are ∙ ap (λ ks. ks ++ s.more) (told held (λ images. kept_wants x.sifted.kept ≡ kept_of images layout ws) images e was.needed)
              ∙ ap (λ ks. kept_of images layout ws ++ ks) (told held (λ images. s.more ≡ kept_of images layout vs) images e s.needed)
              ∙ sym (kept_both layout table images ws vs share));
          sound = tell held (λ images. y.sound ≡ stood (left_out images layout (ws ++ vs))) (λ images e.
              told held (λ images. (n : ℕ) → x.sifted.sound ≡ stood n → y.sound ≡ stood (n + left_out images layout vs)) images e s.sound
              (left_out images layout ws) (told held (λ images. x.sifted.sound ≡ stood (left_out images layout ws)) images e was.sound)
              ∙ ap stood (sym (left_both layout table images ws vs share)));
        }))

-- what isn't there is missing
pub none_if : {X : Type 0} (o : Option X) → is_some o ≡ false → o ≡ None
none_if None e = refl
none_if (Some x) e = absurd (false≢true (sym e))

-- ---- blocks before a chunk, and in it

-- a block isn't empty
len_some : (setting : Setting) (want : Want) → 0 < setting.nodesize → 0 < len_of setting want
len_some setting (Tree addr generation level) some = some
len_some setting (Block addr) some = some
len_some setting want some = omega arith

-- blocks before a chunk and blocks in it have no full stripe in common
pub shares_none : (layout : Layout) (number : ℕ) (chunk : Chunk) (end to : ℕ) (xs ys : List Want) → IsTable layout.chunks → 0 < layout.setting.nodesize
    → slice_get layout.chunks number ≡ Some chunk → AreUpTo layout 0 end xs → end ≤ chunk.start → AreUpTo layout chunk.start to ys
    → to ≤ chunk.start + chunk.length → ShareNoRow layout xs ys
shares_none layout number chunk end to xs ys table some there before le inside most t u i j same none eq =
    let w = of_targets layout t xs i in
    let v = of_targets layout u ys j in
    let is = is_sought layout w.0 t w.2 in
    let is_u = is_sought layout v.0 u v.2 in
    let w_end = (upto_each layout 0 end xs before w.0 w.1).1 in
    let v_in = upto_each layout chunk.start to ys inside v.0 v.1 in
    let w_some = len_some layout.setting w.0 some in
    let v_some = len_some layout.setting v.0 some in
    let w_addr : addr_of t.want ≡ addr_of w.0 = ap addr_of (sought_of layout w.0 t w.2).want_is in
    let v_addr : addr_of u.want ≡ addr_of v.0 = ap addr_of (sought_of layout v.0 u v.2).want_is in
    let mine = same ∙ chunk_same layout table number chunk there u is_u (omega (arith, v_in.0, v_addr)) (omega (arith, v_in.1, v_some, v_addr, most)) in
    let held = ap (λ c. holds c (addr_of t.want)) (sym mine) ∙ is.held in
    omega (arith, (bounds_of chunk (addr_of t.want) held).0, w_addr, w_end, w_some, le)

-- the end of a list that lies in a span
pub in_span : (layout : Layout) (span : Span) (end to : ℕ) (wants : List Want) → end ≤ span.start → AreUpTo layout end to wants → lies_in wants span to ≡ true
    → to ≤ span.start + span.length
in_span layout span end to [] le upto e = omega (arith, le, upto)
in_span layout span end to (want ∷ wants) le upto e =
    leb-true to (span.start + span.length) (and_parts (leb span.start (addr_of want)) (leb to (span.start + span.length)) e).1

-- a list that doesn't lie in a span doesn't lie between its ends
pub outside_span : (layout : Layout) (span : Span) (end to : ℕ) (wants : List Want) → end ≤ span.start → AreUpTo layout end to wants
    → AreBetween layout span.start (span.start + span.length) wants → lies_in wants span to ≡ false → ⊥
outside_span layout span end to [] le upto between e = false≢true (sym e)
outside_span layout span end to (want ∷ wants) le upto between e =
    let most = upto_least (addr_of want + len_of layout.setting want) to (span.start + span.length) wants upto.2 between.2 in
    false≢true (sym e ∙ and_from (leb span.start (addr_of want)) (leb to (span.start + span.length)) (le-leb span.start (addr_of want) between.0)
    (le-leb to (span.start + span.length) most))
  where
    -- blocks end at or before an address before which they lie
    upto_least : (a b c : ℕ) (ws : List Want) → AreUpTo layout a b ws → AreBetween layout a c ws → b ≤ c
    upto_least a b c [] upto between = omega (arith, upto, between)
    upto_least a b c (w ∷ ws) upto between = upto_least (addr_of w + len_of layout.setting w) b c ws upto.2 between.2

-- one that lies in a chunk behind the blocks before shares no full stripe with them
pub shares_span : (layout : Layout) (held : Option Images) (whole : Gathered) (sieve : Sieve) → sieve.refused ≡ None → HasKeptOf layout held whole sieve
    → (span : Span) (to : ℕ) (wants : List Want) → IsTable layout.chunks → IsSpanIn layout span → sieve.end ≤ span.start → AreUpTo layout sieve.end to wants
    → lies_in wants span to ≡ true → ShareNoRow layout (kept_wants whole.list) wants
shares_span layout held whole sieve none h span to [] table in_table le upto inside = λ t u i j. absurd j
shares_span layout held whole sieve none h span to (want ∷ wants) table in_table le upto inside =
    let chunk = in_table.chunk in
    let at = at_in chunk layout.chunks (in_of chunk layout.chunks in_table.there) in
    let both = and_parts (leb span.start (addr_of want)) (leb to (span.start + span.length)) inside in
    let start : span.start ≡ chunk.start = ap (λ (s : Span). s.start) in_table.is in
    let length : span.length ≡ chunk.length = ap (λ (s : Span). s.length) in_table.is in
    let from = leb-true span.start (addr_of want) both.0 in
    let most = leb-true to (span.start + span.length) both.1 in
    let judged = subst (Judges layout held (kept_wants whole.list) sieve) none h.judged in
    shares_none layout at.0 chunk sieve.end to (kept_wants whole.list) (want ∷ wants) table (omega (arith, h.can.large, h.can.nodesize)) at.1 judged.apart
    (omega (arith, le, start)) (omega (arith, from, start), upto.1, upto.2) (omega (arith, most, start, length))

-- ---- plain sectors that are passed at once

-- those behind an address of a chunk with copies and without an older image, as far as they lie in it
pub passes_inert : (layout : Layout) (table : IsTable layout.chunks) (want : Want) (chunk : Chunk) (old new : List Want) → Some chunk ≡ chunk_at layout.chunks
    (addr_of want) → is_none (mirrors chunk) ≡ false → has_older layout.devices chunk ≡ false → PassesPlain old (chunk.start + chunk.length) new
    → PassesInert layout want old new
passes_inert layout table want chunk old new found copies young p =
    let at = find_at (λ (c : Chunk). holds c (addr_of want)) layout.chunks chunk (sym found) in
    let from = (bounds_of chunk (addr_of want) at.2).0 in
    record {
      past = p.past;
      split = p.split;
      plain = p.plain;
      inert = λ w t i le e.
          let of = sought_of layout w t e in
          let is = is_sought layout w t e in
          let addr : addr_of t.want ≡ addr_of w = ap addr_of of.want_is in
          let mine = chunk_same layout table at.0 chunk at.1 t is (omega (arith, from, le, addr)) (omega (arith, p.below w i, addr)) in
          (some_if (mirrors t.chunk) (ap (λ (c : Chunk). is_none (mirrors c)) mine ∙ copies), ap (has_older layout.devices) mine ∙ young);
    }

-- nothing is kept of them, and nothing counted
module _ (layout : Layout) (held : Option Images) (want : Want) (end : ℕ) (old new : List Want) (p : PassesInert layout want old new)
    (apart : AreApart layout end old) (le : addr_of want ≤ end) (x : Sifted) (can : CanSift layout x) where
  -- those that are passed and those that are left are apart
  apart_past : AreApart layout end (p.past ++ new)
  apart_past = subst (AreApart layout end) p.split apart

  -- each is a sector without a checksum of a chunk with copies and without an older image
  past_is : (t : Target) → In t (targets layout p.past) → (is_plain t.want ≡ true) × IsSome (mirrors t.chunk) × (has_older layout.devices t.chunk ≡ false)
  past_is t i =
      let w = of_targets layout t p.past i in
      let behind = all_behind layout end (p.past ++ new) apart_past w.0 (in_left w.0 p.past new w.1) in
      let c = p.inert w.0 t w.1 (omega (arith, le, behind)) w.2 in
      (ap is_plain (sought_of layout w.0 t w.2).want_is ∙ p.plain w.0 w.1, c.0, c.1)

  -- so they are left out
  pub sifts_inert : Sifts layout held p.past x x
  sifts_inert = sifts_out layout held p.past x x (λ w i. sought_each layout end (p.past ++ new) apart_past w (in_left w p.past new i)) can 0
      (tell held (λ images. 0 ≡ count_by is_checked (targets layout p.past)) (λ images h.
      sym (sum_zero (λ t. cond (is_checked t) 1 0) (targets layout p.past) (λ t i. ap (λ b. cond (not b) 1 0) (past_is t i).0))))
      (tell held (λ images. (t : Target) → In t (targets layout p.past) → is_needed images layout (targets layout p.past) t ≡ false) (λ images h t i.
      let c = past_is t i in
      needed_copy images layout t (targets layout p.past) c.1
      ∙ ap (λ b. cond b (has_older layout.devices t.chunk) (is_unsound images t)) c.0 ∙ c.2)) refl (λ n e. e ∙ ap stood (omega arith))

  -- a block of a chunk with copies, with them
  pub inert_next : IsTable layout.chunks → (before : Sifted) (t : Target) → sought layout want ≡ Ok t → IsSome (mirrors t.chunk)
      → Sifts layout held (want ∷ []) before x → SiftsNext layout held want old new before x
  inert_next table before t e copies s = record {
    more = p.past;
    split = p.split;
    sifts = sifts_then layout held table (want ∷ []) p.past before x x (λ t u i j same none. absurd (no_parity t none (one_is t i))) s sifts_inert;
    rows = λ u v i j same none. absurd (no_parity u none (each u (in_either u (targets layout (want ∷ [])) (targets layout p.past)
        (subst (In u) (targets_both layout (want ∷ []) p.past) i))));
  }
    where
      -- a chunk with copies isn't one without
      no_parity : (u : Target) → mirrors u.chunk ≡ None → IsSome (mirrors u.chunk) → ⊥
      no_parity u none some = false≢true (subst IsSome none some)

      -- the block lies in a chunk with copies
      one_is : (u : Target) → In u (targets layout (want ∷ [])) → IsSome (mirrors u.chunk)
      one_is u i = subst (λ v. IsSome (mirrors v.chunk)) (one_target layout want t u e i) copies

      -- so does each of it and those that are passed
      each : (u : Target) → In u (targets layout (want ∷ [])) ⊎ In u (targets layout p.past) → IsSome (mirrors u.chunk)
      each u (inl i) = one_is u i
      each u (inr i) = (past_is u i).1

-- ---- one more, with those that are judged with it

module _ (layout : Layout) (held : Option Images) (table : IsTable layout.chunks) (past : List Want) (want : Want) (old new : List Want)
    (first before after : Sifted) (share : ShareNoRow layout past (want ∷ old)) (s : SiftsNext layout held want old new before after) where
  -- the block and those that are judged with it
  abbrev mine : List Want
  mine = want ∷ s.more

  -- they and those that are left are all that there were
  among : (want ∷ old) ≡ mine ++ new
  among = ap (λ ws. want ∷ ws) s.split

  -- they share no full stripe with those before
  share_mine : ShareNoRow layout past mine
  share_mine t u i j = share t u i
      (subst (λ ws. In u (targets layout ws)) (sym among)
      (subst (In u) (sym (targets_both layout mine new)) (in_left u (targets layout mine) (targets layout new) j)))

  -- none that is left lies in a full stripe of those before
  pub share_left : ShareNoRow layout (past ++ mine) new
  share_left t u i j = by (in_either t (targets layout past) (targets layout mine) (subst (In t) (targets_both layout past mine) i))
    where
      by : In t (targets layout past) ⊎ In t (targets layout mine) → t.chunk ≡ u.chunk → mirrors t.chunk ≡ None → t.at.row ≢ u.at.row
      by (inl k) = share t u k
          (subst (λ ws. In u (targets layout ws)) (sym among)
          (subst (In u) (sym (targets_both layout mine new)) (in_right u (targets layout mine) (targets layout new) j)))
      by (inr k) = s.rows t u k j

  -- so they are sifted with those before
  pub sifts_more : Sifts layout held past first before → Sifts layout held (past ++ mine) first after
  sifts_more h = sifts_then layout held table past mine first before after share_mine h s.sifts

-- The blocks of a chunk with copies, one after another.
use Rattle.std.proofs.Common.{◌≡◌, ℕ, ◌+◌, ◌<◌, ◌≤◌, Bool, false, cond, List, ◌∷◌, ◌++◌, map, length, get_or, slice_get, Option, Some, None, IsSome, is_some}
use Rattle.std.proofs.Common.{[], Result, Ok, Err, IsOk, refl, sym, ap, ◌∙◌, subst, inl, inr, arith, append_assoc}
use Rattle.btr_scrub.proofs.Common.{AreApart, BeginsBehind, Blocks, Chunk, Failing, Fault, HasPart, HaveLengths, HaveOwnSlots, Images, In, IsPastChunk}
use Rattle.btr_scrub.proofs.Common.{IsSought, IsTable, Layout, MendFault, Mirror, Part, Scrubs, Seen, Serves, Stripe, Tally, Target, Want, addr_of, alone}
use Rattle.btr_scrub.proofs.Common.{cons_option, count_site, device_in, eq-eqb, eqb-true, facts, false_from_ne_true, false≢true, filter, first_missing}
use Rattle.btr_scrub.proofs.Common.{flat_map, get_or-map, in_either, is_in_chunk, len_of, length-map, mending_writes, mirrors, missing_stripes, ok_or_none}
use Rattle.btr_scrub.proofs.Common.{place_at, range_of, range_on, range_stands, same_Some, serving, sites_count, sites_in, sites_writes, size_of, sought}
use Rattle.btr_scrub.proofs.Common.{sought_of, stands_on, stripe_length, targets}
use Rattle.std.proofs.lemmas.Bool.{cases_order}
use Rattle.std.proofs.lemmas.List.Elements.{filter-append, filter_map-append}
use Rattle.btr_rack.specs.Rack.{IsRack, Slot, no_slot}
use Rattle.btr_scrub_copies.specs.Mending.{IsCopied}
use Rattle.btr_scrub.specs.Repair.{is_missing}
use Rattle.btr_scrub.proofs.Scrubbing.{IsUnmoved, scrubs_none, told}
use Rattle.btr_scrub.proofs.Positions.{is_sought, on_stripe, IsCopyByte, bounds_of, shares}
use Rattle.btr_scrub.proofs.CopyWrites.{site_stays, written_byte}
use Rattle.btr_scrub.proofs.Shorts.{site_short}
use Rattle.btr_scrub.proofs.Pasting.{unmoved_by}
use Rattle.btr_scrub.proofs.Lists.{some_of, some_if, in_flat, in_some, in_filter, of_filter_map}
use Rattle.btr_scrub.proofs.Itemwise.{one_cut, one_more, scrubs_steps}
use Rattle.btr_scrub.proofs.Grouping.{filter_all, filter_first}

-- some blocks of a chunk are past, and mended
pub record IsUnderway (fails : Failing) (layout : Layout) (write : Bool) (chunk : Chunk) (wants left : List Want) (marks marks' : List Bool)
    (old new : Seen) (tally tally' : Tally) : Type 0 where
  pub past : List Want
  pub split : wants ≡ past ++ left
  pub end : ℕ
  pub from : chunk.start ≤ end
  pub sound : (t : Target) → In t (targets layout past) → IsSought layout t × (t.chunk ≡ chunk) × (addr_of t.want + size_of t ≤ end)
  pub apart : AreApart layout end left
  pub done : Scrubs {A = Unit {0}} (alone layout chunk) write (sites_writes fails (targets layout past))
      (sites_count fails write (targets layout past)) marks marks' old new tally tally' (Ok tt)

-- ---- lists

-- a target of some wants is that of one of them
pub of_targets : (layout : Layout) (t : Target) (wants : List Want) → In t (targets layout wants) → (want : Want) × In want wants × (sought layout want ≡ Ok t)
of_targets layout t wants i = let f = of_filter_map (λ w. ok_or_none (sought layout w)) t wants i in (f.0, f.1, by (sought layout f.0) f.2)
  where
    by : (r : Result Target Fault) → ok_or_none r ≡ Some t → r ≡ Ok t
    by (Ok u) e = ap Ok (same_Some u t e)
    by (Err f) e = cc

-- the position of a block of a list is one that was sought
pub target_sought : (layout : Layout) (wants : List Want) (t : Target) → In t (targets layout wants) → IsSought layout t
target_sought layout wants t i = let w = of_targets layout t wants i in is_sought layout w.0 t w.2

-- the blocks of two lists are those of the first, and then those of the second
pub targets_both : (layout : Layout) (xs ys : List Want) → targets layout (xs ++ ys) ≡ targets layout xs ++ targets layout ys
targets_both layout xs ys = filter_map-append (λ w. ok_or_none (sought layout w)) xs ys

-- the targets with one more
pub one_target : (layout : Layout) (past : List Want) (want : Want) (t : Target) (rest : List Want) → sought layout want ≡ Ok t
    → targets layout (past ++ want ∷ rest) ≡ targets layout past ++ t ∷ targets layout rest
one_target layout past want t rest e =
    targets_both layout past (want ∷ rest)
    ∙ ap (λ r. targets layout past ++ cons_option (ok_or_none r) (targets layout rest)) e

-- each of some blocks that are apart begins behind where they may begin
pub all_behind : (layout : Layout) (end : ℕ) (wants : List Want) → AreApart layout end wants → (want : Want) → In want wants → end ≤ addr_of want
all_behind layout end [] apart want i = absurd i
all_behind layout end (w ∷ ws) apart want (inl e) = subst (λ x. end ≤ addr_of x) e apart.0
all_behind layout end (w ∷ ws) apart want (inr i) =
    let later = all_behind layout (addr_of w + len_of layout.setting w) ws apart.2 want i in omega (arith, apart.0, later)

-- blocks that are apart are so behind an address at which they begin
pub apart_past : (layout : Layout) (from end : ℕ) (wants : List Want) → BeginsBehind end wants → AreApart layout from wants → AreApart layout end wants
apart_past layout from end [] begins apart = tt
apart_past layout from end (want ∷ wants) begins apart = (begins, apart.1, apart.2)

-- ---- one chunk of the table

-- two chunks of a table that overlap are one
overlapping : (layout : Layout) → IsTable layout.chunks → (i j : ℕ) (c d : Chunk) → slice_get layout.chunks i ≡ Some c → slice_get layout.chunks j ≡ Some d
    → c.start < d.start + d.length → d.start < c.start + c.length → (i ≡ j) × (c ≡ d)
overlapping layout table i j c d at there before behind = elim (cases_order i j) [
  | inl same ↦ (same, same_Some c d (sym at ∙ ap (slice_get layout.chunks) same ∙ there))
  | inr (inl lt) ↦ absurd (omega (arith, (table.apart i j c d lt at there).0, behind))
  | inr (inr lt) ↦ absurd (omega (arith, (table.apart j i d c lt there at).0, before))
]

-- two chunks of a table that begin at one address are one
pub with_one_start : (layout : Layout) → IsTable layout.chunks → (i j : ℕ) (c d : Chunk) → slice_get layout.chunks i ≡ Some c
    → slice_get layout.chunks j ≡ Some d → c.start ≡ d.start → (i ≡ j) × (c ≡ d)
with_one_start layout table i j c d at there e = overlapping layout table i j c d at there (omega (arith, e, (facts d (table.sound j d there).0).some))
    (omega (arith, e, (facts c (table.sound i c at).0).some))

module _ (layout : Layout) (table : IsTable layout.chunks) (number : ℕ) (chunk : Chunk) (there : slice_get layout.chunks number ≡ Some chunk) where
  -- a block whose address the chunk has lies in it
  pub chunk_same : (t : Target) (is : IsSought layout t) → chunk.start ≤ addr_of t.want → addr_of t.want < chunk.start + chunk.length → t.chunk ≡ chunk
  chunk_same t is from to =
      let b = bounds_of t.chunk (addr_of t.want) is.held in
      (overlapping layout table is.number number t.chunk chunk is.there there (omega (arith, b.0, to)) (omega (arith, b.1, from))).1

  -- one with an address behind it doesn't
  behind_not : (t : Target) (is : IsSought layout t) → chunk.start + chunk.length ≤ addr_of t.want → is_in_chunk chunk t ≡ false
  behind_not t is behind = false_from_ne_true (is_in_chunk chunk t) (λ e.
      let same = (with_one_start layout table is.number number t.chunk chunk is.there there (eqb-true t.chunk.start chunk.start e)).1 in
      absurd (omega (arith, behind, (bounds_of t.chunk (addr_of t.want) is.held).1, ap (λ (c : Chunk). c.start + c.length) same)))

  -- the blocks of the chunk are those that are past
  pub blocks_are : (past left : List Want) → ((t : Target) → In t (targets layout past) → t.chunk ≡ chunk)
      → ((want : Want) → In want left → chunk.start + chunk.length ≤ addr_of want) → sites_in layout chunk (past ++ left) ≡ targets layout past
  blocks_are past left inside behind =
      ap (filter (is_in_chunk chunk)) (targets_both layout past left)
      ∙ filter_first (is_in_chunk chunk) (targets layout past) (targets layout left) (λ t i. let w = of_targets layout t left i in
      behind_not t (is_sought layout w.0 t w.2) (subst (λ x. chunk.start + chunk.length ≤ addr_of x) (sym (sought_of layout w.0 t w.2).want_is)
      (behind w.0 w.1)))
      ∙ filter_all (is_in_chunk chunk) (targets layout past) (λ t i. eq-eqb t.chunk.start chunk.start (ap (λ (c : Chunk). c.start) (inside t i)))

  -- the blocks of the chunk are those that are past, this one, and those of the rest
  pub blocks_begin : (past : List Want) (want : Want) (t : Target) (rest : List Want) → ((t : Target) → In t (targets layout past) → t.chunk ≡ chunk)
      → t.chunk ≡ chunk → sought layout want ≡ Ok t → sites_in layout chunk (past ++ want ∷ rest) ≡ targets layout past ++ t ∷ sites_in layout chunk rest
  blocks_begin past want t rest inside mine e =
      ap (filter (is_in_chunk chunk)) (one_target layout past want t rest e)
      ∙ filter-append (is_in_chunk chunk) (targets layout past) (t ∷ targets layout rest)
      ∙ ap (λ xs. xs ++ filter (is_in_chunk chunk) (t ∷ targets layout rest))
      (filter_all (is_in_chunk chunk) (targets layout past) (λ u i. eq-eqb u.chunk.start chunk.start (ap (λ (c : Chunk). c.start) (inside u i))))
      ∙ ap (λ b. targets layout past ++ cond b (t ∷ sites_in layout chunk rest) (sites_in layout chunk rest))
      (eq-eqb t.chunk.start chunk.start (ap (λ (c : Chunk). c.start) mine))

-- images have the lengths of the devices that the rack serves
pub have_lengths : (rack : Seen) (store : Blocks) → IsRack rack → Serves rack store → (images : Images) → rack.held ≡ Some images
    → HaveLengths images store.layout
have_lengths rack store is serves images held devid device given =
    let o = (serving rack store serves).are_open devid device given in
    let sized : map length images ≡ map (λ (slot : Slot). slot.len) rack.slots =
    told rack.held (λ images. map length images ≡ map (λ (slot : Slot). slot.len) rack.slots) images held is.sized in
    let few : length images ≡ length rack.slots = sym (length-map images length) ∙ ap length sized ∙ length-map rack.slots (λ (slot : Slot). slot.len) in
    sym (get_or-map length images device.slot [] 0 (omega (arith, o.slot, few))) ∙ ap (λ xs. get_or xs device.slot 0) sized
    ∙ get_or-map (λ (slot : Slot). slot.len) rack.slots device.slot no_slot 0 o.slot ∙ o.len

module _ (fails : Failing) (layout : Layout) (write : Bool) (chunk : Chunk) (n : ℕ) (copies : mirrors chunk ≡ Some n) (table : IsTable layout.chunks)
    (own : HaveOwnSlots layout.devices) where
  -- what is told of a block stays when those before it are mended
  unmoved : (past : List Want) (end : ℕ) (held : Option Images) (t : Target)
      → ((u : Target) → In u (targets layout past) → IsSought layout u × (u.chunk ≡ chunk) × (addr_of u.want + size_of u ≤ end))
      → IsSought layout t → t.chunk ≡ chunk → end ≤ addr_of t.want → ((images : Images) → held ≡ Some images → HaveLengths images layout)
      → IsUnmoved layout write (sites_writes fails (targets layout past)) (λ images. mending_writes images fails t)
      (λ images tally. count_site fails images write tally t) held
  unmoved past end held t sound is mine behind lengths images e =
      let l = lengths images e in
      let has = λ (u : Target) (i : In u (targets layout past)). ap mirrors (sound u i).1 ∙ copies in
      unmoved_by write images (mending_writes images fails) (targets layout past) (IsCopyByte layout t)
      (λ after. (mending_writes after fails t ≡ mending_writes images fails t)
      × ((x : Tally) → count_site fails after write x t ≡ count_site fails images write x t)) (λ u i. site_short images layout l u (sound u i).0 fails)
      (λ u i slot off h here.
      let b = written_byte fails images layout l u (sound u i).0 n (has u i) slot off h in
      let s = shares layout u t slot off table own (sound u i).0 is b here in
      omega (arith, s.same, s.below, (sound u i).2, behind))
      (λ after ranges keeps free. let a = site_stays fails images layout l t is n (ap mirrors mine ∙ copies) after ranges keeps free in
      (a.writes, a.counts write))

-- ---- which stripes stand

-- a list without a first member is empty
none_first : {X : Type 0} (xs : List X) → slice_get xs 0 ≡ None → xs ≡ []
none_first [] e = refl
none_first (x ∷ xs) e = absurd (false≢true (sym (ap is_some e)))

-- each stripe stands where no device is missing
pub stripe_stands : (layout : Layout) (i k : ℕ) (chunk : Chunk) (stripe : Stripe) → first_missing layout ≡ None → slice_get layout.chunks i ≡ Some chunk
    → slice_get chunk.stripes k ≡ Some stripe → IsSome (range_on stripe.offset (stripe_length chunk) (device_in layout.devices stripe.devid))
stripe_stands layout i k chunk stripe none there at =
    let missing = missing_stripes layout.devices in
    let test = is_missing layout.devices (stripe_length chunk) in
    some_if (range_on stripe.offset (stripe_length chunk) (device_in layout.devices stripe.devid)) (false_from_ne_true (test stripe) (λ e.
    subst (In stripe) (none_first (flat_map missing layout.chunks) none)
    (in_flat missing chunk stripe layout.chunks (in_some chunk layout.chunks i there)
    (in_filter test stripe chunk.stripes (in_some stripe chunk.stripes k at) e))))

-- each part of a block stands where no device is missing
pub part_is_given : (layout : Layout) (t : Target) (part : Part) → IsTable layout.chunks → IsSought layout t
    → HasPart t.chunk.profile (length t.chunk.stripes) part → first_missing layout ≡ None → IsSome (range_of t part)
part_is_given layout t part table is has none =
    let on = on_stripe layout t part table is has in
    let place = place_at t.chunk part t.at in
    let stands = stands_on on.stripe.offset (stripe_length t.chunk) (device_in layout.devices on.stripe.devid)
    (stripe_stands layout is.number on.number t.chunk on.stripe none is.there on.there) in
    let given : device_in t.devices place.devid ≡ Some stands.device =
    ap (λ ds. device_in ds place.devid) is.devices ∙ ap (device_in layout.devices) on.devid ∙ stands.there in
    ap is_some (range_stands place.offset (size_of t) (device_in t.devices place.devid) stands.device given (omega (arith, stands.within, on.end)))

-- ---- the next block

-- a block of the chunk comes next
pub record IsNext (layout : Layout) (chunk : Chunk) (end : ℕ) (want : Want) (rest : List Want) : Type 0 where
  pub target : Target
  pub is_sought : sought layout want ≡ Ok target
  pub is : IsSought layout target
  pub mine : target.chunk ≡ chunk
  pub behind : end ≤ addr_of target.want
  pub ends : addr_of target.want + size_of target ≡ addr_of want + len_of layout.setting want
  pub from : chunk.start ≤ addr_of want
  pub apart : AreApart layout (addr_of want + len_of layout.setting want) rest

-- what was answered well has a value
pub ok_of : (r : Result Target Fault) → IsOk r → (t : Target) × (r ≡ Ok t)
ok_of (Ok t) h = (t, refl)
ok_of (Err f) h = absurd (false≢true h)

-- a block that begins before the chunk's end lies in it
pub next_block : (layout : Layout) (table : IsTable layout.chunks) (number : ℕ) (chunk : Chunk) (there : slice_get layout.chunks number ≡ Some chunk)
    (end : ℕ) (want : Want) (rest : List Want)
    → chunk.start ≤ end → AreApart layout end (want ∷ rest) → addr_of want < chunk.start + chunk.length → IsNext layout chunk end want rest
next_block layout table number chunk there end want rest from apart below =
    let t = ok_of (sought layout want) apart.1 in
    let of = sought_of layout want t.0 t.1 in
    let is = is_sought layout want t.0 t.1 in
    let addr : addr_of t.0.want ≡ addr_of want = ap addr_of of.want_is in
    let size : size_of t.0 ≡ len_of layout.setting want = ap (λ s. len_of s t.0.want) of.setting_is ∙ ap (len_of layout.setting) of.want_is in
    record {
      target = t.0;
      is_sought = t.1;
      is = is;
      mine = chunk_same layout table number chunk there t.0 is (omega (arith, from, apart.0, addr)) (omega (arith, below, addr));
      behind = omega (arith, apart.0, addr);
      ends = omega (arith, addr, size);
      from = omega (arith, from, apart.0);
      apart = apart.2;
    }

-- a block of a chunk with copies none of whose devices is missing can be looked at
pub next_copied : (layout : Layout) (table : IsTable layout.chunks) (chunk : Chunk) (end : ℕ) (want : Want) (rest : List Want)
    → IsSome (mirrors chunk) → first_missing layout ≡ None → IsNext layout chunk end want rest → IsCopied layout want
next_copied layout table chunk end want rest copies none next = record {
  target = next.target;
  is_sought = next.is_sought;
  copies = subst (λ c. IsSome (mirrors c)) (sym next.mine) copies;
  stand = λ m has. part_is_given layout next.target (Mirror m) table next.is has none;
}

-- nothing is past yet
pub underway_first : (fails : Failing) (layout : Layout) (write : Bool) (chunk : Chunk) (wants : List Want) (m : List Bool) (a : Seen) (tally : Tally)
    → AreApart layout chunk.start wants → IsUnderway fails layout write chunk wants wants m m a a tally tally
underway_first fails layout write chunk wants m a tally apart = record {
  past = [];
  split = refl;
  end = chunk.start;
  from = omega arith;
  sound = λ t i. absurd i;
  apart = apart;
  done = scrubs_none (alone layout chunk) write m a tally tt;
}

module _ {fails : Failing} {layout : Layout} {write : Bool} {chunk : Chunk} {wants left : List Want} {m m' : List Bool} {a b : Seen} {tally tally' : Tally}
    (h : IsUnderway fails layout write chunk wants left m m' a b tally tally') where
  -- what was done for some blocks
  abbrev Over : List Target → List Bool → Seen → Tally → Result (Unit {0}) MendFault → Type 0
  Over ts n z u r = Scrubs {A = Unit {0}} (alone layout chunk) write (sites_writes fails ts) (sites_count fails write ts) m n a z tally u r

  -- those of the chunk are past
  pub past_chunk : BeginsBehind (chunk.start + chunk.length) left → IsPastChunk layout chunk wants left
  past_chunk begins = record {
    past = h.past;
    split = h.split;
    inside = λ t i. (h.sound t i).1;
    behind = apart_past layout h.end (chunk.start + chunk.length) left begins h.apart;
  }

  module _ (table : IsTable layout.chunks) (number : ℕ) (there : slice_get layout.chunks number ≡ Some chunk) where
    -- then all blocks of the chunk were mended
    pub chunk_mended : (left' : List Want) → IsPastChunk layout chunk wants left' → left' ≡ left → Over (sites_in layout chunk wants) m' b tally' (Ok tt)
    chunk_mended left' past same =
        let are : sites_in layout chunk wants ≡ targets layout h.past =
        ap (sites_in layout chunk) h.split ∙ blocks_are layout table number chunk there h.past left (λ t i. (h.sound t i).1)
        (λ w i. all_behind layout (chunk.start + chunk.length) left (subst (AreApart layout (chunk.start + chunk.length)) same past.behind) w i) in
        subst (λ ts. Over ts m' b tally' (Ok tt)) (sym are) h.done

    module _ (own : HaveOwnSlots layout.devices) (copies : IsSome (mirrors chunk)) (lengths : (images : Images) → a.held ≡ Some images
        → HaveLengths images layout) {want : Want} {rest : List Want} (is : left ≡ want ∷ rest) (next : IsNext layout chunk h.end want rest) where
      -- what was mended before leaves what is told of the next block
      same_before : IsUnmoved layout write (sites_writes fails (targets layout h.past)) (λ images. mending_writes images fails next.target)
          (λ images tally. count_site fails images write tally next.target) a.held
      same_before =
          let n = some_of (mirrors chunk) copies in
          unmoved fails layout write chunk n.0 n.1 table own h.past h.end a.held next.target h.sound next.is next.mine next.behind lengths

      -- what was done for it
      abbrev ForNext : List Bool → Seen → Tally → Result (Unit {0}) MendFault → Type 0
      ForNext m'' z tally'' r = Scrubs {A = Unit {0}} (alone layout chunk) write (λ images. mending_writes images fails next.target)
          (λ images tally. count_site fails images write tally next.target) m' m'' b z tally' tally'' r

      -- one more is past
      pub underway_more : {m'' : List Bool} {z : Seen} {tally'' : Tally} → ForNext m'' z tally'' (Ok tt)
          → IsUnderway fails layout write chunk wants rest m m'' a z tally tally''
      underway_more {m''} {z} {tally''} one =
          let ts : targets layout (h.past ++ want ∷ []) ≡ targets layout h.past ++ next.target ∷ [] =
          one_target layout h.past want next.target [] next.is_sought in
          record {
            past = h.past ++ want ∷ [];
            split = h.split ∙ ap (λ ws. h.past ++ ws) is ∙ sym (append_assoc h.past (want ∷ []) rest);
            end = addr_of want + len_of layout.setting want;
            from = omega (arith, next.from);
            sound = λ t i. elim (in_either t (targets layout h.past) (next.target ∷ []) (subst (In t) ts i)) [
              | inl j ↦ let s = h.sound t j in (s.0, s.1, omega (arith, s.2, next.behind, next.ends))
              | inr (inl e) ↦ subst (λ u. IsSought layout u × (u.chunk ≡ chunk)
                  × (addr_of u.want + size_of u ≤ addr_of want + len_of layout.setting want)) e (next.is, next.mine, omega (arith, next.ends))
              | inr (inr j) ↦ absurd j
            ];
            apart = next.apart;
            done = subst (λ us. Over us m'' z tally'' (Ok tt)) (sym ts)
                (one_more (scrubs_steps (alone layout chunk) write) (λ images. mending_writes images fails)
                (λ images. count_site fails images write) (targets layout h.past) next.target same_before h.done one);
          }

      -- it came to a halt
      pub underway_cut : {m'' : List Bool} {z : Seen} {tally'' : Tally} (fault : MendFault) → ForNext m'' z tally'' (Err fault)
          → Over (sites_in layout chunk wants) m'' z tally'' (Err fault)
      underway_cut {m''} {z} {tally''} fault one =
          let us = sites_in layout chunk rest in
          let are : sites_in layout chunk wants ≡ targets layout h.past ++ next.target ∷ us = ap (sites_in layout chunk) (h.split ∙ ap (λ ws. h.past ++ ws) is)
          ∙ blocks_begin layout table number chunk there h.past want next.target rest (λ t i. (h.sound t i).1) next.mine next.is_sought in
          subst (λ ts. Over ts m'' z tally'' (Err fault)) (sym are)
          (one_cut (scrubs_steps (alone layout chunk) write) (λ images. mending_writes images fails)
          (λ images. count_site fails images write) (targets layout h.past) next.target same_before h.done us fault one)

-- Plain sectors of a chunk no image of which is behind are passed at once.
use Rattle.std.proofs.Common.{◌≡◌, ℕ, ◌+◌, ◌<◌, Bool, true, false, List, [], ◌∷◌, ◌++◌, slice_get, Some, Ok, refl, sym, ap, ◌∙◌, subst, inl, inr, IsSome, None}
use Rattle.std.proofs.Common.{Option, arith}
use Rattle.std.specs.List.{fold}
use Rattle.btr_scrub.proofs.Common.{Chunk, Failing, HaveLengths, HaveOwnSlots, Images, In, IsOfScrub, IsTable, Layout, Scrubs, Seen, Tally, Target, Want, Write}
use Rattle.btr_scrub.proofs.Common.{addr_of, alone, count_site, counted_plain, has_behind, is_plain, mending_writes, mirrors, plain, sites_writes, sought_of}
use Rattle.btr_scrub.proofs.Common.{stood, targets, write_on, writes_if}
use Rattle.btr_scrub.specs.Listed.{PassesIf}
use Rattle.btr_scrub.proofs.Blockwise.{IsNext, IsUnderway, next_block, underway_more}
use Rattle.btr_scrub.proofs.Inert.{none_fresh, none_freshened, nothing}
use Rattle.btr_scrub.proofs.Tallying.{same_tally}
use Rattle.btr_scrub.proofs.Scrubbing.{held_after, scrubs_as, told, held_none, none_some, scrubs_none}

-- ---- counts with nothing more

-- to add nothing to what stands still leaves it
stood_twice : (n : ℕ) → stood (stood (n + 0) + 0) ≡ stood (n + 0)
stood_twice n = grind arith

-- to count nothing twice is to count it once
pub counted_twice : (u : Tally) → counted_plain (counted_plain u nothing) nothing ≡ counted_plain u nothing
counted_twice u = same_tally (counted_plain (counted_plain u nothing) nothing) (counted_plain u nothing) refl (stood_twice u.bad) (stood_twice u.repaired)
    refl refl refl

-- ---- a chunk no image of which is behind

module _ (fails : Failing) (layout : Layout) (write : Bool) (table : IsTable layout.chunks) (number : ℕ) (chunk : Chunk)
    (there : slice_get layout.chunks number ≡ Some chunk) (n : ℕ) (copies : mirrors chunk ≡ Some n)
    (inert : has_behind layout.devices fails chunk ≡ false) where
  -- the counts stand still when a plain sector of which nothing comes is counted
  abbrev Still : Seen → Tally → Type 0
  Still a tally = (images : Images) → a.held ≡ Some images → counted_plain tally nothing ≡ tally

  module _ (end : ℕ) (want : Want) (rest : List Want) (next : IsNext layout chunk end want rest) (is_bare : is_plain want ≡ true) where
    -- the block that comes next
    abbrev t : Target
    t = next.target

    -- the block's chunk has copies
    has : mirrors t.chunk ≡ Some n
    has = ap mirrors next.mine ∙ copies

    -- none of its images is behind
    inert_there : has_behind layout.devices fails t.chunk ≡ false
    inert_there = ap (has_behind layout.devices fails) next.mine ∙ inert

    -- the block is a sector without a checksum
    is_sector : is_plain t.want ≡ true
    is_sector = ap is_plain (sought_of layout want t next.is_sought).want_is ∙ is_bare

    -- so nothing is written for it
    none_written : (images : Images) → mending_writes images fails t ≡ []
    none_written images = rw is_sector (none_fresh fails layout t n table next.is has inert_there images)

    -- and it is counted as nothing
    none_counted : (images : Images) (u : Tally) → count_site fails images write u t ≡ counted_plain u nothing
    none_counted images u = rw is_sector (ap (counted_plain u) (none_freshened fails layout t n table next.is has inert_there images write))

    -- the counts with it stay as they are with another one
    pub settled : (p : Images → List Write) (c : Images → Tally → Tally) (m m' m'' : List Bool) (a b z : Seen) (tally tally' tally'' : Tally)
        → Scrubs {A = Unit {0}} (alone layout chunk) write p c m m' a b tally tally' (Ok tt)
        → Scrubs {A = Unit {0}} (alone layout chunk) write (λ images. mending_writes images fails t)
        (λ images tally. count_site fails images write tally t) m' m'' b z tally' tally'' (Ok tt) → Still a tally''
    settled p c m m' m'' a b z tally tally' tally'' before one images held =
        let after = held_after (IsOfScrub (alone layout chunk)) (λ i. writes_if write (p i)) [] [] (plain a) (plain b) tt images held before.does in
        let now = fold write_on images (writes_if write (p images)) in
        let is : tally'' ≡ counted_plain tally' nothing =
        told b.held (λ images. tally'' ≡ count_site fails images write tally' t) now after one.counts ∙ none_counted now tally' in
        ap (λ u. counted_plain u nothing) is ∙ counted_twice tally' ∙ sym is

  -- so one more is past
  one_passed : {wants : List Want} {m m' : List Bool} {a b : Seen} {tally tally' : Tally} (want : Want) (rest : List Want)
      (h : IsUnderway fails layout write chunk wants (want ∷ rest) m m' a b tally tally') → HaveOwnSlots layout.devices
      → ((images : Images) → a.held ≡ Some images → HaveLengths images layout) → Still a tally' → is_plain want ≡ true
      → addr_of want < chunk.start + chunk.length → IsUnderway fails layout write chunk wants rest m m' a b tally tally'
  one_passed {m'} {a} {b} {tally'} want rest h own lengths still bare below =
      let next = next_block layout table number chunk there h.end want rest h.from h.apart below in
      underway_more h table number there own (subst IsSome (sym copies) refl) lengths refl next
      (scrubs_as (alone layout chunk) write (scrubs_none (alone layout chunk) write m' b tally' tt) (λ images held. (
        sym (none_written h.end want rest next bare images),
        sym (none_counted h.end want rest next bare images tally' ∙ told_before images held),
      )))
    where
      -- where the images are told now they were before, so the counts stand still
      told_before : (images : Images) → b.held ≡ Some images → counted_plain tally' nothing ≡ tally'
      told_before images held = by a.held refl
        where
          by : (o : Option Images) → a.held ≡ o → counted_plain tally' nothing ≡ tally'
          by None none = absurd (none_some images (sym (held_none (IsOfScrub (alone layout chunk))
              (λ i. writes_if write (sites_writes fails (targets layout h.past) i)) [] [] (plain a) (plain b) tt none h.done.does) ∙ held))
          by (Some before) e = still before e

  -- so are all that follow
  some_passed : {wants : List Want} (past rest : List Want) {m m' : List Bool} {a b : Seen} {tally tally' : Tally}
      → IsUnderway fails layout write chunk wants (past ++ rest) m m' a b tally tally' → HaveOwnSlots layout.devices
      → ((images : Images) → a.held ≡ Some images → HaveLengths images layout) → Still a tally'
      → ((want : Want) → In want past → is_plain want ≡ true) → ((want : Want) → In want past → addr_of want < chunk.start + chunk.length)
      → IsUnderway fails layout write chunk wants rest m m' a b tally tally'
  some_passed [] rest h own lengths still bare below = h
  some_passed (want ∷ past) rest h own lengths still bare below =
      some_passed past rest (one_passed want (past ++ rest) h own lengths still (bare want (inl refl)) (below want (inl refl))) own lengths still
      (λ w i. bare w (inr i)) (λ w i. below w (inr i))

-- what follows a plain sector is passed, if that is wanted
pub passed_if : {fails : Failing} {layout : Layout} {write : Bool} {chunk : Chunk} {wants mid : List Want} {m m' : List Bool} {a b : Seen}
    {tally tally' : Tally} → IsUnderway fails layout write chunk wants mid m m' a b tally tally' → IsTable layout.chunks → (number : ℕ)
    → slice_get layout.chunks number ≡ Some chunk → (n : ℕ) → mirrors chunk ≡ Some n → HaveOwnSlots layout.devices
    → ((images : Images) → a.held ≡ Some images → HaveLengths images layout) → (wanted : Bool) (new : List Want) (end : ℕ)
    → (wanted ≡ true → (has_behind layout.devices fails chunk ≡ false) × ((images : Images) → a.held ≡ Some images → counted_plain tally' nothing ≡ tally'))
    → end ≡ chunk.start + chunk.length → PassesIf wanted mid end new → IsUnderway fails layout write chunk wants new m m' a b tally tally'
passed_if h table number there n copies own lengths false new end facts is p = rw p h
passed_if {fails} {layout} {write} h table number there n copies own lengths true new end facts is p =
    let q = facts refl in
    some_passed fails layout write table number _ there n copies q.0 p.past new (rw p.split at h) own lengths q.1 p.plain
    (λ w i. subst (λ e. addr_of w < e) is (p.below w i))

-- Flagging the images on which a block doesn't pass.
use Rattle.std.proofs.Common.{◌≡◌, ℕ, ◌+◌, ◌<◌, ◌≤◌, Bool, true, false, cond, ◌&&◌, ◌||◌, not, eqb, leb, List, [], ◌∷◌, ◌++◌, length, set, get_or, Option, Some}
use Rattle.std.proofs.Common.{None, IfSome, IsOk, IsOkAnd, inl, inr, Result, Ok, Err, refl, sym, ap, ◌∙◌, subst, arith}
use Rattle.std.proofs.Math.Bool.{or-false, and-false, or-true, or_assoc}
use Rattle.btr_scrub.proofs.Common.{AccountsMend, AreApart, Device, Flags, HasPart, Images, IsSought, IsTable, Layout, LiesInStripe, MendFault, Mirror, Part}
use Rattle.btr_scrub.proofs.Common.{Plain, Range, Seen, Target, Want, addr_of, device_in, eq-eqb, eqb-true, failing, fails_at, fails_on, false≢true, is_good}
use Rattle.btr_scrub.proofs.Common.{is_plain, len_of, list_any, list_any-false, mirrors, option_map_or, own_parts, passes, place_at, range_in, range_of}
use Rattle.btr_scrub.proofs.Common.{range_on, range_with_len, same_Some, size_of, sought, sought_of, targets}
use Rattle.std.proofs.lemmas.List.{append_assoc, append-nil, get_or-set_other, get_or-set_same}
use Rattle.std.proofs.lemmas.List.Folds.{list_any-append}
use Rattle.std.proofs.lemmas.Option.{IfSome_then}
use Rattle.btr_chunk.specs.declared.place.Part.TheVariants.{Slice}
use Rattle.btr_rack.specs.Rack.{Slot, bytes_of}
use Rattle.btr_read.specs.Candidates.{element}
use Rattle.btr_read.specs.Layout.{AreOpen}
use Rattle.btr_read.specs.declared.setting.Setting.{Setting}
use Rattle.btr_read.specs.declared.want.Want.TheVariants.{Block, Tree}
use Rattle.btr_read.proofs.Slots.{IsReadable, readable}
use Rattle.btr_scrub_row.proofs.Accepted.{the_target}
use Rattle.btr_scrub_copies.specs.Writes.{In}
use Rattle.btr_scrub.specs.Doubts.{is_on}
use Rattle.btr_scrub.specs.Judged.{FlagsBlock, HasOwn, IsOfPart}
use Rattle.btr_scrub.specs.Listed.{PassesIf}
use Rattle.btr_scrub.proofs.Blockwise.{one_target}
pub use Rattle.btr_scrub.proofs.Blockwise.{ok_of as the_sought}
use Rattle.btr_scrub.proofs.Positions.{in_stripe}
use Rattle.btr_scrub.proofs.Scrubbing.{account_weaker, tell}
use Rattle.btr_scrub.proofs.Lists.{any_map}
use Rattle.btr_scrub.proofs.OwnPlaces.{own_copies}
use Rattle.btr_scrub_row.proofs.Settled.{own as own_are}

-- ---- one part

-- a range that stands is as long as the block
length_on : (off len : ℕ) (o : Option Device) (range : Range) → range_on off len o ≡ Some range → range.len ≡ len
length_on off len None range e = cc
length_on off len (Some device) range e = by (leb (off + len) device.len) e
  where
    by : (b : Bool) → cond b (Some (range_in device.slot off len)) None ≡ Some range → range.len ≡ len
    by true e = ap (λ (r : Range). r.len) (sym (same_Some (range_in device.slot off len) range e))
    by false e = cc

-- a part's range is as long as the block
pub range_long : (layout : Layout) (want : Want) (t : Target) (part : Part) (range : Range) → sought layout want ≡ Ok t → range_of t part ≡ Some range
    → range.len ≡ len_of layout.setting want
range_long layout want t part range e is =
    let place = place_at t.chunk part t.at in
    let of = sought_of layout want t e in
    length_on place.offset (size_of t) (device_in t.devices place.devid) range is ∙ ap (λ s. len_of s t.want) of.setting_is
    ∙ ap (len_of layout.setting) of.want_is

-- whether the block passes there
pub good_there : (layout : Layout) (want : Want) (t : Target) (part : Part) (range : Range) (images : Images) → sought layout want ≡ Ok t
    → range_of t part ≡ Some range → passes layout.setting want (bytes_of images range.slot range.off range.len) ≡ is_good images t part
good_there layout want t part range images e is =
    let of = sought_of layout want t e in
    let bytes : element images t part ≡ bytes_of images range.slot range.off range.len =
    ap (λ o. option_map_or (λ (r : Range). bytes_of images r.slot r.off r.len) o []) is in
    sym (ap (passes t.setting t.want) bytes
    ∙ ap (λ s. passes s t.want (bytes_of images range.slot range.off range.len)) of.setting_is
    ∙ ap (λ w. passes layout.setting w (bytes_of images range.slot range.off range.len)) of.want_is)

-- flags stay where nothing fails
pub flags_none : (flags : List Bool) (none : ℕ → Bool) → ((slot : ℕ) → none slot ≡ false) → Flags flags none flags
flags_none flags none is slot = sym (ap (λ b. get_or flags slot false || b) (is slot) ∙ or-false (get_or flags slot false))

module _ (images : Images) (t : Target) (part : Part) (flags : List Bool) where
  -- the block passes there
  part_good : is_good images t part ≡ true → Flags flags (λ slot. fails_at images t slot part) flags
  part_good e = flags_none flags (λ slot. fails_at images t slot part) (λ slot. ap (λ b. is_on t slot part && not b) e ∙ and-false (is_on t slot part))

  -- it doesn't
  part_bad : (range : Range) → range_of t part ≡ Some range → range.slot < length flags → is_good images t part ≡ false
      → Flags flags (λ slot. fails_at images t slot part) (set flags range.slot true)
  part_bad range is lt bad slot =
      let test : fails_at images t slot part ≡ (eqb range.slot slot && true) =
      ap (λ o. option_map_or (λ (range : Range). eqb range.slot slot) o false && not (is_good images t part)) is ∙ ap (λ b. eqb range.slot slot && not b) bad in
      by (eqb range.slot slot) refl ∙ ap (λ b. get_or flags slot false || b) (sym test)
    where
      by : (b : Bool) → eqb range.slot slot ≡ b → get_or (set flags range.slot true) slot false ≡ (get_or flags slot false || (b && true))
      by true e =
          let same : range.slot ≡ slot = eqb-true range.slot slot e in
          ap (λ s. get_or (set flags range.slot true) s false) (sym same) ∙ get_or-set_same flags range.slot true false lt
          ∙ sym (or-true (get_or flags slot false))
      by false e =
          get_or-set_other flags range.slot slot true false (λ same. absurd (false≢true (sym e ∙ eq-eqb range.slot slot (sym same))))
          ∙ sym (or-false (get_or flags slot false))

-- ---- a part of a want

-- its range can be read, and is as long as the block
pub read_part : (layout : Layout) (want : Want) (slots : List Slot) (part : Part) (range : Range) → AreOpen slots layout.devices → HasOwn layout part want
    → ((t : Target) → sought layout want ≡ Ok t → Some range ≡ range_of t part) → IsReadable slots range × (range.len ≡ len_of layout.setting want)
read_part layout want slots part range open' own at =
    let f = the_target (sought layout want) (λ t. HasPart t.chunk.profile (length t.chunk.stripes) part) own in
    let of = sought_of layout want f.0 f.1 in
    let is = sym (at f.0 f.1) in
    (readable slots f.0 part range (subst (AreOpen slots) (sym of.devices_is) open') is, range_long layout want f.0 part range f.1 is)

-- each block fits a buffer of a node, and of a sector
pub want_fits : (setting : Setting) (want : Want) (n : ℕ) → setting.nodesize ≤ n → 4096 ≤ n → len_of setting want ≤ n
want_fits setting (Tree addr generation level) n node sector = node
want_fits setting (Block addr) n node sector = node
want_fits setting want n node sector = sector

module _ (layout : Layout) (want : Want) (t : Target) (part : Part) (range : Range) (held : Option Images) (flags : List Bool) (good : Bool)
    (e : sought layout want ≡ Ok t) (is : Some range ≡ range_of t part)
    (passing : IfSome held (λ images. good ≡ passes layout.setting want (bytes_of images range.slot range.off range.len))) where
  -- it passes there
  pub flags_good : good ≡ true → IfSome held (λ images. Flags flags (λ slot. fails_at images t slot part) flags)
  flags_good is_good' = IfSome_then held {P = λ images. good ≡ passes layout.setting want (bytes_of images range.slot range.off range.len)}
      {Q = λ images. Flags flags (λ slot. fails_at images t slot part) flags} passing
      (λ images h. part_good images t part flags (sym (good_there layout want t part range images e (sym is)) ∙ sym h ∙ is_good'))

  -- or not
  pub flags_bad : range.slot < length flags → good ≡ false
      → IfSome held (λ images. Flags flags (λ slot. fails_at images t slot part) (set flags range.slot true))
  flags_bad lt is_bad = IfSome_then held {P = λ images. good ≡ passes layout.setting want (bytes_of images range.slot range.off range.len)}
      {Q = λ images. Flags flags (λ slot. fails_at images t slot part) (set flags range.slot true)} passing
      (λ images h. part_bad images t part flags range (sym is) lt (sym (good_there layout want t part range images e (sym is)) ∙ sym h ∙ is_bad))

-- a part that a block's chunk has is one of its own
pub own_part : (layout : Layout) (want : Want) (part : Part) → IsOk (sought layout want)
    → ((t : Target) → sought layout want ≡ Ok t → HasPart t.chunk.profile (length t.chunk.stripes) part) → HasOwn layout part want
own_part layout want part ok has =
    let f = the_sought (sought layout want) ok in
    subst (λ r. IsOkAnd r (λ t. HasPart t.chunk.profile (length t.chunk.stripes) part)) (sym f.1) (has f.0 f.1)

-- a read that failed in a part failed in a stripe
pub parts_in_stripe : {A : Type 0} (layout : Layout) (t : Target) (old new : Seen) (r : Result A MendFault) → IsTable layout.chunks → IsSought layout t
    → AccountsMend (IsOfPart t) old new r → AccountsMend (LiesInStripe layout) old new r
parts_in_stripe layout t old new r table is h = account_weaker (IsOfPart t) (LiesInStripe layout) old new r (λ range lies.
    in_stripe layout t lies.part range range table is lies.has lies.at (record { slot = refl; from = omega arith; to = omega arith })) h

-- ---- one after another

-- flags that were set twice are those of both
pub flags_then : (old mid new : List Bool) (a b c : ℕ → Bool) → Flags old a mid → Flags mid b new → ((slot : ℕ) → (a slot || b slot) ≡ c slot) → Flags old c new
flags_then old mid new a b c one two is slot =
    two slot ∙ ap (λ x. x || b slot) (one slot) ∙ or_assoc (get_or old slot false) (a slot) (b slot) ∙ ap (λ x. get_or old slot false || x) (is slot)

-- the places of a block with copies, and of one in a slice
pub fails_copies : (images : Images) (t : Target) (n slot : ℕ) → mirrors t.chunk ≡ Some n
    → list_any (λ k. fails_at images t slot (Mirror k)) (range_with_len 0 n) ≡ fails_on images slot t
fails_copies images t n slot e =
    sym (ap (list_any (fails_at images t slot)) (own_copies t n e) ∙ any_map (fails_at images t slot) Mirror (range_with_len 0 n))

-- a block of a chunk with parity fails on an image where its own slice does
pub fails_slice : (images : Images) (t : Target) (slot : ℕ) → mirrors t.chunk ≡ None → fails_at images t slot (Slice t.at.index) ≡ fails_on images slot t
fails_slice images t slot e = sym (ap (list_any (fails_at images t slot)) (own_are images t e) ∙ or-false (fails_at images t slot (Slice t.at.index)))

-- ---- a sector without a checksum

-- any bytes pass as those of a sector without a checksum
pub passes_plain : (setting : Setting) (want : Want) (bytes : List ℕ) → is_plain want ≡ true → passes setting want bytes ≡ true
passes_plain setting (Plain addr) bytes e = refl
passes_plain setting want bytes e = absurd (false≢true e)

-- it fails nowhere, so no flag is needed for it
pub flags_plain : (layout : Layout) (want : Want) (t : Target) (held : Option Images) (flags : List Bool) → is_plain want ≡ true → sought layout want ≡ Ok t
    → IfSome held (λ images. Flags flags (λ slot. fails_on images slot t) flags)
flags_plain layout want t held flags bare e =
    tell held (λ images. Flags flags (λ slot. fails_on images slot t) flags)
    (λ images told. flags_none flags (λ slot. fails_on images slot t)
    (λ slot. list_any-false (fails_at images t slot) (own_parts t) (λ i part there. never images slot part)))
  where
    -- it fails on no image at any place
    never : (images : Images) (slot : ℕ) (part : Part) → fails_at images t slot part ≡ false
    never images slot part =
        ap (λ b. is_on t slot part && not b) (passes_plain t.setting t.want (element images t part) (ap is_plain (sought_of layout want t e).want_is ∙ bare))
        ∙ and-false (is_on t slot part)

-- ---- the blocks of a list

-- some blocks of a list are past, and the images were flagged on which one of them doesn't pass
pub record LookedAt (layout : Layout) (held : Option Images) (wants left : List Want) (old new : List Bool) : Type 0 where
  pub past : List Want
  pub split : wants ≡ past ++ left
  pub end : ℕ
  pub apart : AreApart layout end left
  pub flags : IfSome held (λ images. Flags old (failing images (targets layout past)) new)

-- what follows from two facts of the images follows from what is told of them
pub both_of : (held : Option Images) (P Q S : Images → Type 0) → ((images : Images) → P images → Q images → S images) → IfSome held P → IfSome held Q
    → IfSome held S
both_of None P Q S h p q = tt
both_of (Some images) P Q S h p q = h images p q

-- nothing was looked at yet
pub looked_first : (layout : Layout) (held : Option Images) (wants : List Want) (flags : List Bool) → AreApart layout 0 wants
    → LookedAt layout held wants wants flags flags
looked_first layout held wants flags apart = record {
  past = [];
  split = refl;
  end = 0;
  apart = apart;
  flags = tell held (λ images. Flags flags (failing images (targets layout [])) flags)
      (λ images told. flags_none flags (failing images (targets layout [])) (λ slot. refl));
}

module _ {layout : Layout} {held : Option Images} {wants left : List Want} {old new : List Bool} (h : LookedAt layout held wants left old new) where
  -- the next one has a position
  pub looks_next : {want : Want} {rest : List Want} → left ≡ want ∷ rest → IsOk (sought layout want)
  looks_next is = (subst (AreApart layout h.end) is h.apart).1

  -- one more was looked at
  pub looked_more : (want : Want) (rest : List Want) (t : Target) (last : List Bool) → left ≡ want ∷ rest → sought layout want ≡ Ok t
      → IfSome held (λ images. Flags new (λ slot. fails_on images slot t) last) → LookedAt layout held wants rest old last
  looked_more want rest t last is e flags = record {
    past = h.past ++ want ∷ [];
    split = h.split ∙ ap (λ xs. h.past ++ xs) is ∙ sym (append_assoc h.past (want ∷ []) rest);
    end = addr_of want + len_of layout.setting want;
    apart = (subst (AreApart layout h.end) is h.apart).2;
    flags = both_of held (λ images. Flags old (failing images (targets layout h.past)) new) (λ images. Flags new (λ slot. fails_on images slot t) last)
        (λ images. Flags old (failing images (targets layout (h.past ++ want ∷ []))) last)
        (λ images one two. flags_then old new last (failing images (targets layout h.past)) (λ slot. fails_on images slot t)
        (failing images (targets layout (h.past ++ want ∷ []))) one two (λ slot.
        sym (ap (list_any (fails_on images slot)) (one_target layout h.past want t [] e)
        ∙ list_any-append (fails_on images slot) (targets layout h.past) (t ∷ [])
        ∙ ap (λ b. list_any (fails_on images slot) (targets layout h.past) || b) (or-false (fails_on images slot t))))) h.flags flags;
  }

  -- all were looked at: the flags are those of the images that fail
  pub looked_done : left ≡ [] → IfSome held (λ images. Flags old (failing images (targets layout wants)) new)
  looked_done none =
      subst (λ ws. IfSome held (λ images. Flags old (failing images (targets layout ws)) new))
      (sym (h.split ∙ ap (λ xs. h.past ++ xs) none ∙ append-nil h.past)) h.flags

-- plain sectors are passed, which fail nowhere
looked_plain : (layout : Layout) (held : Option Images) (wants : List Want) (old new : List Bool) (past left rest : List Want) → left ≡ past ++ rest
    → ((want : Want) → In want past → is_plain want ≡ true) → LookedAt layout held wants left old new → LookedAt layout held wants rest old new
looked_plain layout held wants old new [] left rest e plain h = subst (λ ws. LookedAt layout held wants ws old new) e h
looked_plain layout held wants old new (want ∷ past) left rest e plain h =
    let t = the_sought (sought layout want) (looks_next h e) in
    looked_plain layout held wants old new past (past ++ rest) rest refl (λ w i. plain w (inr i))
    (looked_more h want (past ++ rest) t.0 new e t.1 (flags_plain layout want t.0 held new (plain want (inl refl)) t.1))

-- the same where some are to be passed
pub looked_passed : (layout : Layout) (held : Option Images) (wants : List Want) (old new : List Bool) (wanted : Bool) (left : List Want) (end : ℕ)
    (rest : List Want) → PassesIf wanted left end rest → LookedAt layout held wants left old new → LookedAt layout held wants rest old new
looked_passed layout held wants old new false left end rest p h = subst (λ ws. LookedAt layout held wants ws old new) (sym p) h
looked_passed layout held wants old new true left end rest p h = looked_plain layout held wants old new p.past left rest p.split p.plain h

-- flags by a test that says the same
pub flags_as : (layout : Layout) (want : Want) (rack : Seen) (f g : Images → Target → ℕ → Bool) (old new : List Bool) (r : Result (Unit {0}) MendFault)
    → ((t : Target) (images : Images) (slot : ℕ) → sought layout want ≡ Ok t → f images t slot ≡ g images t slot)
    → FlagsBlock layout want rack f old new r → FlagsBlock layout want rack g old new r
flags_as layout want rack f g old new (Err x) same h t e = tt
flags_as layout want rack f g old new (Ok u) same h t e =
    IfSome_then rack.held {P = λ images. Flags old (f images t) new} {Q = λ images. Flags old (g images t) new} (h t e)
    (λ images flags slot. flags slot ∙ ap (λ b. get_or old slot false || b) (same t images slot e))

-- Each block that images of bytes give is as long as it was wanted.
use Rattle.std.proofs.Common.{◌≡◌, ◌≢◌, ℕ, zero, suc, ◌+◌, ◌-◌, ◌<◌, ◌≤◌, Bool, true, false, cond, List, [], ◌∷◌, length, map, drop, get_or}
use Rattle.std.proofs.Common.{slice_get, Option, Some, None, IsSome, Result, Ok, Err, refl, sym, ap, ◌∙◌, subst, inl, inr, nat_le, arith}
use Rattle.std.proofs.lemmas.Bool.{false≢true, leb-true}
use Rattle.std.proofs.lemmas.List.Elements.{All-head, All-tail, All-nil, All-take, All-drop}
use Rattle.std.proofs.lemmas.List.FromFn.{get_or-range_with_len, length-range_with_len}
use Rattle.std.specs.List.{All, filter_map, cons_option, find, range_with_len}
use Rattle.std.specs.Option.{option_map_or}
use Rattle.btr_chunk.specs.declared.chunk.Chunk.{Chunk}
use Rattle.btr_chunk.specs.declared.mapping.MapFault.{MapFault}
use Rattle.btr_chunk.specs.declared.mapping.MapFault.TheVariants as map_fault
use Rattle.btr_chunk.specs.declared.place.Part.{Part}
use Rattle.btr_chunk.specs.declared.place.Part.TheVariants.{Mirror, Slice, P, Q}
use Rattle.btr_chunk.specs.declared.position.Elements.{Elements}
use Rattle.btr_chunk.specs.declared.profile.Profile.{Profile}
use Rattle.btr_chunk.specs.declared.profile.Profile.TheVariants.{Single, Dup, Raid0, Raid1, Raid1c3, Raid1c4, Raid10, Raid5, Raid6}
use Rattle.btr_chunk.specs.Chunk.{IsChunk, data_count, mirror_count}
use Rattle.btr_chunk.specs.Mapping.{IsPosition, crosses, elements_of, holds, place_at, position}
use Rattle.btr_chunk.specs.Table.{chunk_at}
use Rattle.btr_chunk.proofs.Bytes.{IsPosition-position}
use Rattle.btr_parity.specs.Slices.{IsSlice, parity_p, parity_q, plus}
use Rattle.btr_parity.proofs.Folding.{pair_is_one, quotient_is_one}
use Rattle.btr_parity.proofs.Lost.{parity_p_slice, plus_slice, weighted_slice, zeros_slice}
use Rattle.btr_rack.specs.Rack.{bytes_of, image_of, range_in}
use Rattle.btr_rack.specs.declared.place.Place.{Place as Range}
use Rattle.btr_read.specs.declared.candidate.Candidate.{Candidate}
use Rattle.btr_read.specs.declared.candidate.Candidate.TheVariants.{Read, ByP, ByQ, ByBoth}
use Rattle.btr_read.specs.declared.device.Device.{Device}
use Rattle.btr_read.specs.declared.device.Member.{Member}
use Rattle.btr_read.specs.declared.want.Want.{Want}
use Rattle.btr_read.specs.Candidates.{Target, candidates, copies, element, others, range_of, range_on, reading, readings, reads_slice, rebuilt}
use Rattle.btr_read.specs.Candidates.{size_of, slice_count, stands, value_of, ways}
use Rattle.btr_read.specs.Fate.{Fault, fate, fate_of, or_lost, passing, sought, sought_at, sought_in}
use Rattle.btr_read.specs.Gathering.{read_slices}
use Rattle.btr_read.specs.Layout.{Layout, device_in}
use Rattle.btr_read.specs.Want.{addr_of, len_of, passes}
use Rattle.btr_read.proofs.Fates.{sought_of}
use Rattle.btr_read.proofs.Ones.{In, at_in, in_below, in_either}
use Rattle.btr_read.proofs.Order.{in_ways, of_filter}
use Rattle.btr_read.proofs.Parts.{part_stands, slice_in}
use Rattle.btr_read.proofs.Pieces.{length-slice_range}
use Rattle.btr_read.proofs.Rebuilt.{at_slice, by_both, by_p, by_q, length-rs}
use Rattle.btr_read.proofs.Sums.{is_read, isnt_read, read_slice}
use Rattle.btr_send.specs.Sectors.{AreBytes}

-- each device is as long as the image in its slot
abbrev pub AreLong : List (List ℕ) → List Member → Type 0
AreLong images members = (devid : ℕ) (device : Device) → device_in members devid ≡ Some device → device.len ≡ length (image_of images device.slot)

-- each chunk keeps the rule
abbrev pub AreChunks : List Chunk → Type 0
AreChunks chunks = All IsChunk chunks

-- a number is a byte
abbrev IsByte : ℕ → Type 0
IsByte b = b < 256

-- each element, and what stands in place of one that isn't there
all_or : {X : Type 0} (Of : X → Type 0) (xs : List X) (k : ℕ) (d : X) → All Of xs → Of d → Of (get_or xs k d)
all_or Of [] k d h e = e
all_or Of (x ∷ xs) zero d h e = All-head Of x xs h
all_or Of (x ∷ xs) (suc k) d h e = all_or Of xs k d (All-tail Of x xs h) e

module _ (images : List (List ℕ)) (are : AreBytes images) where
  -- the image in a slot consists of bytes
  image_bytes : (slot : ℕ) → All IsByte (image_of images slot)
  image_bytes slot = all_or (All IsByte) images slot [] are (All-nil IsByte)

  -- a range within an image has as many bytes as it says
  range_bytes : (slot off len : ℕ) → off + len ≤ length (image_of images slot) → IsSlice len (bytes_of images slot off len)
  range_bytes slot off len h = record {
    long = length-slice_range (image_of images slot) off (off + len) h ∙ omega arith;
    bytes = All-take IsByte (off + len - off) (drop off (image_of images slot)) (All-drop IsByte off (image_of images slot) (image_bytes slot));
  }

module _ (images : List (List ℕ)) (are : AreBytes images) (t : Target)
    (lengths : AreLong images t.devices) where
  -- the bytes of a range, if there is one
  abbrev range_bytes_of : Option Range → List ℕ
  range_bytes_of o = option_map_or (λ range. bytes_of images range.slot range.off range.len) o []

  -- a range on a device that stands has as many bytes as are sought
  on_device : (off devid : ℕ) (o : Option Device) → device_in t.devices devid ≡ o → IsSome (range_on off (size_of t) o)
      → IsSlice (size_of t) (range_bytes_of (range_on off (size_of t) o))
  on_device off devid None e h = absurd (cc h)
  on_device off devid (Some device) e h = by (nat_le (off + size_of t) device.len) refl h
    where
      by : (b : Bool) → nat_le (off + size_of t) device.len ≡ b → IsSome (cond b (Some (range_in device.slot off (size_of t))) None)
          → IsSlice (size_of t) (range_bytes_of (cond b (Some (range_in device.slot off (size_of t))) None))
      by true fits h =
          range_bytes images are device.slot off (size_of t) (omega (arith, leb-true (off + size_of t) device.len fits, lengths devid device e))
      by false fits h = absurd (cc h)

  -- the bytes of a part that stands
  part_slice : (part : Part) → IsSome (range_of t part) → IsSlice (size_of t) (element images t part)
  part_slice part h =
      let place = place_at t.chunk part t.at in
      on_device place.offset place.devid (device_in t.devices place.devid) refl h

  module _ (c : Candidate) (st : stands t c ≡ true) where
    -- each slice of the row, with zeros for one that isn't read, is as long as what is sought
    slice_read : (j : ℕ) → j < slice_count t → IsSlice (size_of t) (read_slice images t c j)
    slice_read j lt = by (reads_slice t.at.index c j) refl
      where
        by : (b : Bool) → reads_slice t.at.index c j ≡ b → IsSlice (size_of t) (read_slice images t c j)
        by true e =
            subst (IsSlice (size_of t)) (sym (is_read images t c j e))
            (part_slice (Slice j) (part_stands t c (Slice j) st (slice_in (slice_count t) t.at.index c j lt e)))
        by false e = subst (IsSlice (size_of t)) (sym (isnt_read images t c j e)) (zeros_slice (size_of t))

    -- all slices of the row are as long as what is sought
    all_read : All (IsSlice (size_of t)) (read_slices images t c)
    all_read j d lt =
        let within : j < slice_count t = omega (arith, lt, length-rs images t c) in
        subst (IsSlice (size_of t)) (sym (at_slice images t c j d within)) (slice_read j within)

    -- what the parities leave of the slices that aren't read
    abbrev left_p : List ℕ
    left_p = plus (element images t P) (parity_p (size_of t) (read_slices images t c))

    -- what Q leaves of them
    abbrev left_q : List ℕ
    left_q = plus (element images t Q) (parity_q (size_of t) (read_slices images t c))

    -- what P leaves is as long as what is sought, if P is
    p_slice : IsSlice (size_of t) (element images t P) → IsSlice (size_of t) left_p
    p_slice whole =
        plus_slice (size_of t) (element images t P) (parity_p (size_of t) (read_slices images t c)) whole
        (parity_p_slice (size_of t) (read_slices images t c) all_read)

    -- what Q leaves is as long as what is sought, if Q is
    q_slice : IsSlice (size_of t) (element images t Q) → IsSlice (size_of t) left_q
    q_slice whole =
        plus_slice (size_of t) (element images t Q) (parity_q (size_of t) (read_slices images t c)) whole
        (weighted_slice (size_of t) 0 (read_slices images t c) all_read)

  -- a candidate gives as many bytes as are sought
  abbrev IsLong : Candidate → Type 0
  IsLong c = length (value_of images t c) ≡ size_of t

  -- a part that stands gives as many bytes as are sought
  with_part : (part : Part) → stands t (Read part) ≡ true → IsLong (Read part)
  with_part part st = (part_slice part (part_stands t (Read part) part st (inl refl))).long

  -- what is rebuilt by P has as many bytes as are sought
  with_p : t.at.index < slice_count t → stands t ByP ≡ true → IsLong ByP
  with_p lt st =
      let whole = part_slice P (part_stands t ByP P st (inl refl)) in
      ap length (by_p images t (left_p ByP st) lt (record { slices = all_read ByP st; whole = whole; sum = refl })) ∙ (p_slice ByP st whole).long

  -- what is rebuilt by Q has as many bytes as are sought, where there are at most 62 slices
  with_q : t.at.index < slice_count t → slice_count t ≤ 62 → stands t ByQ ≡ true → IsLong ByQ
  with_q lt few st =
      let whole = part_slice Q (part_stands t ByQ Q st (inl refl)) in
      let one = quotient_is_one (size_of t) t.at.index (left_q ByQ st) (omega (arith, lt, few)) (q_slice ByQ st whole) in
      ap length (by_q images t (left_q ByQ st) one.0 lt (record { slices = all_read ByQ st; whole = whole; sum = refl }) one.1) ∙ one.1.slice.long

  -- what is rebuilt by both parities has as many bytes as are sought, where there are at most 62 slices
  with_both : (j : ℕ) → t.at.index < slice_count t → slice_count t ≤ 62 → j < slice_count t → t.at.index ≢ j → stands t (ByBoth j) ≡ true
      → IsLong (ByBoth j)
  with_both j lt few lt_j ne st =
      let c = ByBoth j in
      let p_whole = part_slice P (part_stands t c P st (inl refl)) in
      let q_whole = part_slice Q (part_stands t c Q st (inr (inl refl))) in
      let one = pair_is_one (size_of t) t.at.index j (left_p c st) (left_q c st) (omega (arith, lt, few)) (omega (arith, lt_j, few)) ne
      (p_slice c st p_whole) (q_slice c st q_whole) in
      ap length (by_both images t j (left_p c st) (left_q c st) one.0 lt lt_j ne (record { slices = all_read c st; whole = p_whole; sum = refl })
      (record { slices = all_read c st; whole = q_whole; sum = refl }) one.1)
      ∙ one.1.slice.long

-- ---- which candidates there are

-- a candidate that needs Q
abbrev needs_q : Candidate → Bool
needs_q (Read part) = false
needs_q ByP = false
needs_q ByQ = true
needs_q (ByBoth j) = true

-- a copy needs no Q
of_copies : (c : Candidate) (xs : List ℕ) → In c (map (λ copy. Read (Mirror copy)) xs) → needs_q c ≡ false
of_copies c [] h = absurd h
of_copies c (x ∷ xs) (inl e) = sym (ap needs_q e)
of_copies c (x ∷ xs) (inr h) = of_copies c xs h

-- with one parity no candidate needs Q
of_one_parity : (c : Candidate) (i : ℕ) → In c (Read (Slice i) ∷ ByP ∷ []) → needs_q c ≡ false
of_one_parity c i (inl e) = sym (ap needs_q e)
of_one_parity c i (inr (inl e)) = sym (ap needs_q e)
of_one_parity c i (inr (inr h)) = absurd h

module _ (n i : ℕ) where
  -- the ways for slice i of a profile of n stripes
  abbrev ways_by : Profile → List Candidate
  ways_by p = option_map_or copies (mirror_count p n) (rebuilt p (data_count p n) i)

  -- only RAID6 has candidates that need Q
  by_raid6 : (p : Profile) (c : Candidate) → In c (ways_by p) → needs_q c ≡ true → p ≡ Raid6
  by_raid6 Single c h e = absurd (false≢true (sym (of_copies c (range_with_len 0 n) h) ∙ e))
  by_raid6 Dup c h e = absurd (false≢true (sym (of_copies c (range_with_len 0 n) h) ∙ e))
  by_raid6 Raid0 c h e = absurd (false≢true (sym (of_copies c (range_with_len 0 1) h) ∙ e))
  by_raid6 Raid1 c h e = absurd (false≢true (sym (of_copies c (range_with_len 0 n) h) ∙ e))
  by_raid6 Raid1c3 c h e = absurd (false≢true (sym (of_copies c (range_with_len 0 n) h) ∙ e))
  by_raid6 Raid1c4 c h e = absurd (false≢true (sym (of_copies c (range_with_len 0 n) h) ∙ e))
  by_raid6 Raid10 c h e = absurd (false≢true (sym (of_copies c (range_with_len 0 2) h) ∙ e))
  by_raid6 Raid5 c h e = absurd (false≢true (sym (of_one_parity c i h) ∙ e))
  by_raid6 Raid6 c h e = refl

-- candidates by both parities that are the same lack the same slice
same_other : (j k : ℕ) → (let c : Candidate = ByBoth j in c) ≡ ByBoth k → j ≡ k
same_other j k e = cc e

-- a candidate by both parities, among those that lack one of some slices, lacks one of them
in_both : (j : ℕ) (xs : List ℕ) → In (ByBoth j) (map ByBoth xs) → In j xs
in_both j [] h = absurd h
in_both j (x ∷ xs) (inl e) = inl (same_other x j e)
in_both j (x ∷ xs) (inr h) = inr (in_both j xs h)

-- a number of a range is from its start on and below its end
in_from : (a n j : ℕ) → In j (range_with_len a n) → (a ≤ j) × (j < a + n)
in_from a n j h =
    let r = at_in j (range_with_len a n) h in
    let lt : r.0 < n = omega (arith, r.1, length-range_with_len a n) in
    let at : j ≡ a + r.0 = omega (arith, r.2, get_or-range_with_len a n r.0 j lt) in
    (omega (arith, at), omega (arith, at, lt))

-- each other slice is one of the row, but not the one sought
in_others : (k i j : ℕ) → i < k → In j (others k i) → (j < k) × (i ≢ j)
in_others k i j lt h = elim (in_either j (range_with_len 0 i) (range_with_len (i + 1) (k - (i + 1))) h) [
  | inl before ↦ let below = in_below i j before in (omega (arith, below, lt), λ e. absurd (omega (arith, below, e)))
  | inr behind ↦ let from = in_from (i + 1) (k - (i + 1)) j behind in (omega (arith, from.1, lt), λ e. absurd (omega (arith, from.0, e)))
]

-- no candidate by both parities is without Q
no_way : {A : Type 0} (j : ℕ) (c : Candidate) → c ≡ ByBoth j → needs_q c ≡ false → A
no_way j c e f = absurd (false≢true (sym f ∙ ap needs_q e))

-- the candidate by Q is none by both parities
is_q : {A : Type 0} (j : ℕ) → (let c : Candidate = ByQ in c) ≡ ByBoth j → A
is_q j e = absurd (cc e)

-- what RAID6 rebuilds by both parities lacks another slice of the row than the one sought
of_both : (k i j : ℕ) → i < k → In (ByBoth j) (rebuilt Raid6 k i) → (j < k) × (i ≢ j)
of_both k i j lt (inl e) = no_way j (Read (Slice i)) e refl
of_both k i j lt (inr (inl e)) = no_way j ByP e refl
of_both k i j lt (inr (inr (inl e))) = is_q j e
of_both k i j lt (inr (inr (inr h))) = in_others k i j lt (in_both j (others k i) h)

module _ (images : List (List ℕ)) (are : AreBytes images) (t : Target)
    (lengths : AreLong images t.devices)
    (chunk : IsChunk t.chunk) (at : IsPosition t.chunk t.at) where
  -- how many stripes the chunk has
  abbrev count : ℕ
  count = length t.chunk.stripes

  -- a row of RAID6 has at most 62 data slices
  few_slices : t.chunk.profile ≡ Raid6 → slice_count t ≤ 62
  few_slices e = subst (λ p. data_count p count ≤ 62) (sym e) (omega (arith, chunk.few))

  -- a candidate of a RAID6 chunk is one that RAID6 has for that slice
  with_raid6 : (c : Candidate) → t.chunk.profile ≡ Raid6 → In c (ways t) → In c (rebuilt Raid6 (slice_count t) t.at.index)
  with_raid6 c e h =
      subst (λ p. In c (rebuilt Raid6 (data_count p count) t.at.index)) (sym e) (subst (λ p. In c (ways_by count t.at.index p)) e h)

  -- each candidate that stands gives as many bytes as are sought
  value_long : (c : Candidate) → In c (ways t) → stands t c ≡ true → length (value_of images t c) ≡ size_of t
  value_long (Read part) h st = with_part images are t lengths part st
  value_long ByP h st = with_p images are t lengths at.index st
  value_long ByQ h st = with_q images are t lengths at.index (few_slices (by_raid6 count t.at.index t.chunk.profile ByQ h refl)) st
  value_long (ByBoth j) h st =
      let six = by_raid6 count t.at.index t.chunk.profile (ByBoth j) h refl in
      let other = of_both (slice_count t) t.at.index j at.index (with_raid6 (ByBoth j) six h) in
      with_both images are t lengths j at.index (few_slices six) other.0 other.1 st

  -- ---- readings

  -- what is read by a candidate is what it gives, and it stands
  of_reading : (c : Candidate) (bytes : List ℕ) → reading images t c ≡ Some bytes → (stands t c ≡ true) × (value_of images t c ≡ bytes)
  of_reading c bytes e = by (stands t c) refl e
    where
      by : (b : Bool) → stands t c ≡ b → cond b (Some (value_of images t c)) None ≡ Some bytes
          → (stands t c ≡ true) × (value_of images t c ≡ bytes)
      by true st e = (st, cc e)
      by false st e = absurd (cc e)

  -- each reading by some of the candidates is as long as what is sought
  reading_long : (bytes : List ℕ) (cs : List Candidate) → ((c : Candidate) → In c cs → In c (ways t)) → In bytes (filter_map (reading images t) cs)
      → length bytes ≡ size_of t
  reading_long bytes [] within h = absurd h
  reading_long bytes (c ∷ cs) within h = by (reading images t c) refl h (reading_long bytes cs (λ d i. within d (inr i)))
    where
      by : (o : Option (List ℕ)) → reading images t c ≡ o → In bytes (cons_option o (filter_map (reading images t) cs))
          → (In bytes (filter_map (reading images t) cs) → length bytes ≡ size_of t) → length bytes ≡ size_of t
      by None e i rest = rest i
      by (Some value) e (inl same) rest =
          let of = of_reading c value e in
          ap length (sym same) ∙ sym (ap length of.1) ∙ value_long c (within c (inl refl)) of.0
      by (Some value) e (inr i) rest = rest i

  -- each reading that passes is as long as what is sought
  first_long : (bytes : List ℕ) → In bytes (passing images t) → length bytes ≡ size_of t
  first_long bytes h =
      reading_long bytes (candidates t) (in_ways t) (of_filter (passes t.setting t.want) bytes (readings images t) h)

-- ---- the chunk and the position of what is sought

-- what is found among things of which something holds is one of which it holds
find_all : {X : Type 0} (Of : X → Type 0) (p : X → Bool) (xs : List X) (x : X) → All Of xs → find p xs ≡ Some x → Of x
find_all Of p [] x h e = absurd (cc e)
find_all Of p (y ∷ ys) x h e = by (p y) e (find_all Of p ys x (All-tail Of y ys h))
  where
    by : (b : Bool) → cond b (Some y) (find p ys) ≡ Some x → (find p ys ≡ Some x → Of x) → Of x
    by true e rest = let same : y ≡ x = cc e in subst Of same (All-head Of y ys h)
    by false e rest = rest e

record IsPlaced (t : Target) : Type 0 where
  chunk : IsChunk t.chunk
  at : IsPosition t.chunk t.at

-- an address that is found in a chunk has a position there
placed_at : (chunk : Chunk) (addr len : ℕ) (at : Elements) → IsChunk chunk → elements_of chunk addr len ≡ Ok at → IsPosition chunk at
placed_at chunk addr len at is e = by (holds chunk addr) (crosses chunk addr len) refl e
  where
    by : (held over : Bool) → holds chunk addr ≡ held
        → cond held (cond over (Err map_fault.Crosses) (Ok (position chunk addr))) (Err map_fault.Unmapped) ≡ Ok at → IsPosition chunk at
    by true false held e = let same : position chunk addr ≡ at = cc e in subst (IsPosition chunk) same (IsPosition-position chunk addr is held)
    by true true held e = absurd (cc e)
    by false over held e = absurd (cc e)

module _ (layout : Layout) (want : Want) (t : Target) where
  -- what is sought in a chunk is placed: the chunk keeps the rule, and it has a position there
  sought_placed_at : (chunk : Chunk) (r : Result Elements MapFault) → IsChunk chunk
      → elements_of chunk (addr_of want) (len_of layout.setting want) ≡ r → sought_at layout want chunk r ≡ Ok t → IsPlaced t
  sought_placed_at chunk (Err map_fault.Unmapped) is found e = absurd (cc e)
  sought_placed_at chunk (Err map_fault.Crosses) is found e = absurd (cc e)
  sought_placed_at chunk (Ok at) is found e =
      let same : record { want = want; setting = layout.setting; chunk = chunk; at = at; devices = layout.devices } ≡ t = cc e in
      subst IsPlaced same (record { chunk = is; at = placed_at chunk (addr_of want) (len_of layout.setting want) at is found })

  -- what is sought in the chunk of its address, if there is one, is placed
  sought_placed_in : (o : Option Chunk) → chunk_at layout.chunks (addr_of want) ≡ o → AreChunks layout.chunks → sought_in layout want o ≡ Ok t → IsPlaced t
  sought_placed_in None found are e = absurd (cc e)
  sought_placed_in (Some chunk) found are e =
      sought_placed_at chunk (elements_of chunk (addr_of want) (len_of layout.setting want))
      (find_all IsChunk (λ chunk. holds chunk (addr_of want)) layout.chunks chunk are found) refl e

  -- what is sought where all chunks keep the rule is placed
  sought_placed : AreChunks layout.chunks → sought layout want ≡ Ok t → IsPlaced t
  sought_placed are e = sought_placed_in (chunk_at layout.chunks (addr_of want)) refl are e

-- the first of a list is in it
first_in : {X : Type 0} (xs : List X) (x : X) → slice_get xs 0 ≡ Some x → In x xs
first_in [] x e = absurd (cc e)
first_in (y ∷ ys) x e = inl (cc e)

-- what isn't lost was found
got : (addr : ℕ) (o : Option (List ℕ)) (bytes : List ℕ) → or_lost addr o ≡ Ok bytes → o ≡ Some bytes
got addr None bytes e = absurd (cc e)
got addr (Some value) bytes e = cc e

-- each block that images of bytes give is as long as it was wanted
pub long_law : (images : List (List ℕ)) (layout : Layout) (want : Want) (bytes : List ℕ) → AreBytes images → AreLong images layout.devices
    → AreChunks layout.chunks → fate images layout want ≡ Ok bytes → length bytes ≡ len_of layout.setting want
long_law images layout want bytes are lengths chunks had = by (sought layout want) refl had
  where
    by : (r : Result Target Fault) → sought layout want ≡ r → fate_of images (addr_of want) r ≡ Ok bytes → length bytes ≡ len_of layout.setting want
    by (Err fault) e h = absurd (cc h)
    by (Ok t) e h =
        let of = sought_of layout want t e in
        let placed = sought_placed layout want t chunks e in
        let same_lengths = subst (AreLong images) (sym of.devices_is) lengths in
        let long = first_long images are t same_lengths placed.chunk placed.at bytes
        (first_in (passing images t) bytes (got (addr_of want) (slice_get (passing images t) 0) bytes h)) in
        long ∙ ap (λ s. len_of s t.want) of.setting_is ∙ ap (len_of layout.setting) of.want_is

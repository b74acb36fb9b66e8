-- Sectors without a checksum that follow each other are listed at once.
use Rattle.std.proofs.Common.{◌≡◌, ℕ, zero, suc, ◌+◌, ◌-◌, ◌*◌, ◌^◌, ◌≤◌, ◌<◌, [], ◌∷◌, ◌++◌, Option, None, Result, Ok, Err, OnOk, refl, sym, ap, ◌∙◌, subst}
use Rattle.std.proofs.Common.{arith}
use Rattle.std.specs.Prelude.{fold, min}
use Rattle.btr_scrub.proofs.Common.{AddsAll, Follows, Gathered, Gathers, Lists, Map, OnlyReads, Plain, SameVolume, Scene, Seen, Serves, Sum, Super, Tells}
use Rattle.btr_scrub.proofs.Common.{TreeRoot, UnreadBlock, Volume, Want, bind, count_met, exec, exec-bind, kept_wants, kind_in, no_part, plains_from, quiet}
use Rattle.btr_scrub.proofs.Common.{scene, sector, sector_met, sectors, steps_of, sum_at, unread_by, wants_among}
use Rattle.btr_prog.proofs.Follow.{follows_then}
use Rattle.btr_prog.proofs.Quieting.{follows_quiet}
use Rattle.btr_files.specs.Gaps.{HaveNone}
use Rattle.btr_files.proofs.Binds.{bind_assoc, bind_same}
use Rattle.btr_scrub.specs.Gathering.{gap_met, sectors_met}
use Rattle.btr_scrub.proofs.Gathering.{gathers_then, gathers_told, gathers_value}
use Rattle.btr_scrub.proofs.OneSector.{met_of}
use Rattle.btr_files.proofs.AheadLooks.{no_steps}

-- ---- what is listed

-- what is met in a gap are sectors without a checksum
among_gap : (n addr : ℕ) → wants_among (gap_met n addr) ≡ plains_from addr n
among_gap zero addr = refl
among_gap (suc n) addr = ap (λ ws. Plain addr ∷ ws) (among_gap n (addr + 4096))

-- a count, which stands still at its type's end
abbrev capped : ℕ → ℕ
capped n = min n (2 ^ 64 - 1)

-- one more from a count that stood still stands as one more from the count itself
capped_next : (u : ℕ) → capped (capped u + 1) ≡ capped (u + 1)
capped_next u = grind arith

-- a count that stands still counts each sector of a gap
count_more : (n addr u : ℕ) → fold count_met (capped u) (gap_met n addr) ≡ capped (u + n)
count_more zero addr u = ap capped (omega arith)
count_more (suc n) addr u =
    let all : u + 1 + n ≡ u + suc n = omega arith in
    ap (λ m. fold count_met m (gap_met n (addr + 4096))) (capped_next u) ∙ count_more n (addr + 4096) (u + 1) ∙ ap capped all

-- so does any count, where the gap has a sector
count_gap : (n addr u : ℕ) → 1 ≤ n → fold count_met u (gap_met n addr) ≡ capped (u + n)
count_gap zero addr u some = absurd (omega (arith, some))
count_gap (suc n) addr u some = let all : u + 1 + n ≡ u + suc n = omega arith in count_more n (addr + 4096) (u + 1) ∙ ap capped all

-- a gap was listed behind what was listed before, if there was memory
pub lists_gap : {E : Type 0} (result : Result (Unit {0}) E) (x y : Gathered) (addr n : ℕ) → 1 ≤ n
    → OnOk result (AddsAll x.list y.list (plains_from addr n)) → y.unchecked ≡ min (x.unchecked + n) (2 ^ 64 - 1) → OnOk result (Lists x y (gap_met n addr))
lists_gap (Err f) x y addr n some h count = tt
lists_gap (Ok u) x y addr n some h count = record {
  is_list = h.is_list;
  kind = h.kind;
  wants = h.wants ∙ ap (λ ws. kept_wants x.list ++ ws) (sym (among_gap n addr));
  unchecked = count ∙ sym (count_gap n addr x.unchecked some);
}

-- ---- what sectors come to

module _ (Is : UnreadBlock → Want → Type 0) (B : Map) (s : Super) (sums : Option TreeRoot) where
  -- a sector was met, for which this was found
  follows_found : (addr : ℕ) (found : Option Sum) → (exec B (sum_at (kind_in s) sums addr)).ending ≡ Ok found
      → Follows Is no_part [] (exec B (sector s sums addr)) (sector_met addr found ∷ []) (Ok tt)
  follows_found addr found is =
      let p = sum_at (kind_in s) sums addr in
      subst (λ r. Follows Is no_part [] r (sector_met addr found ∷ []) (Ok tt)) (sym (exec-bind B (quiet p) (met_of addr)))
      (follows_then Is no_part [] (exec B (quiet p)) found (λ o. exec B (met_of addr o)) [] (sector_met addr found ∷ []) (Ok tt)
      (follows_quiet Is no_part [] B p [] (Ok found) (no_steps (steps_of (exec B p).marks), is)) (refl, refl))

  -- sectors were, for each of which it was found
  pub follows_sectors : (found : ℕ → Option Sum) (n addr : ℕ)
      → ((i : ℕ) → i < n → (exec B (sum_at (kind_in s) sums (addr + i * 4096))).ending ≡ Ok (found (addr + i * 4096)))
      → Follows Is no_part [] (exec B (sectors s sums n addr)) (sectors_met found n addr) (Ok tt)
  follows_sectors found zero addr all = (refl, refl)
  follows_sectors found (suc n) addr all =
      let Is_at = λ (a : ℕ). (exec B (sum_at (kind_in s) sums a)).ending ≡ Ok (found a) in
      let first : Is_at addr = subst Is_at (omega arith) (all 0 (omega arith)) in
      let rest = follows_sectors found n (addr + 4096) (λ i lt. subst Is_at (omega arith) (all (suc i) (omega (arith, lt)))) in
      subst (λ r. Follows Is no_part [] r (sectors_met found (suc n) addr) (Ok tt))
      (sym (exec-bind B (sector s sums addr) (λ u. sectors s sums n (addr + 4096))))
      (follows_then Is no_part [] (exec B (sector s sums addr)) tt (λ u. exec B (sectors s sums n (addr + 4096))) (sector_met addr (found addr) ∷ [])
      (sectors_met found n (addr + 4096)) (Ok tt) (follows_found addr (found addr) first) rest)

-- some sectors of a gap were listed
pub gathers_gap : (s : Super) (sums : Option TreeRoot) (addr n len : ℕ) (old new : Seen) (vol vol' : Volume) (x y : Gathered) → n ≤ len
    → Serves new vol'.store → OnlyReads old new → SameVolume vol vol' → Tells vol.store.layout old new (λ B. HaveNone (kind_in s) B sums addr len)
    → Lists x y (gap_met n addr) → Gathers (sectors s sums n addr) (scene old vol x) (scene new vol' y) (Ok tt)
gathers_gap s sums addr n len old new vol vol' x y few serves reads same told listed =
    gathers_told (sectors s sums n addr) (λ B. HaveNone (kind_in s) B sums addr len) old new vol vol' x y (gap_met n addr) (Ok tt) serves reads same listed
    (λ B none. follows_sectors (unread_by vol.store.layout old new) B s sums (λ a. None) n addr (λ i lt. none i (omega (arith, lt, few)))) told tt

-- one sector was listed
pub gathers_one : (s : Super) (sums : Option TreeRoot) (addr : ℕ) (x y : Scene) → Gathers (sector s sums addr) x y (Ok tt)
    → Gathers (sectors s sums 1 addr) x y (Ok tt)
gathers_one s sums addr x y h =
    gathers_then (sector s sums addr) (λ u. sectors s sums 0 (addr + 4096)) x y y tt (Ok tt) h (gathers_value tt y h.lists.is_list h.serves)

-- ---- some sectors, and more behind them

-- to list some sectors and more is to list these, and then those behind them
sectors_both : (s : Super) (sums : Option TreeRoot) (n m addr : ℕ) → sectors s sums (n + m) addr
    ≡ bind (sectors s sums n addr) (λ u. sectors s sums m (addr + n * 4096))
sectors_both s sums zero m addr =
    let all : 0 + m ≡ m = omega arith in
    let here : addr ≡ addr + 0 * 4096 = omega arith in
    ap (λ k. sectors s sums k addr) all ∙ ap (sectors s sums m) here
sectors_both s sums (suc n) m addr =
    let all : suc n + m ≡ suc (n + m) = omega arith in
    let behind : addr + 4096 + n * 4096 ≡ addr + suc n * 4096 = omega arith in
    ap (λ k. sectors s sums k addr) all
    ∙ bind_same (sector s sums addr) (λ u. sectors s sums (n + m) (addr + 4096))
    (λ u. bind (sectors s sums n (addr + 4096)) (λ v. sectors s sums m (addr + suc n * 4096)))
    (λ u. sectors_both s sums n m (addr + 4096) ∙ ap (λ a. bind (sectors s sums n (addr + 4096)) (λ v. sectors s sums m a)) behind)
    ∙ sym (bind_assoc (sector s sums addr) (λ u. sectors s sums n (addr + 4096)) (λ v. sectors s sums m (addr + suc n * 4096)))

-- what is left of sectors, behind some of them
pub sectors_some : (s : Super) (sums : Option TreeRoot) (count addr done n : ℕ) → done + n ≤ count → sectors s sums (count - done) (addr + done * 4096)
    ≡ bind (sectors s sums n (addr + done * 4096)) (λ u. sectors s sums (count - (done + n)) (addr + (done + n) * 4096))
sectors_some s sums count addr done n le =
    let parts : count - done ≡ n + (count - (done + n)) = omega (arith, le) in
    let behind : addr + done * 4096 + n * 4096 ≡ addr + (done + n) * 4096 = omega arith in
    ap (λ k. sectors s sums k (addr + done * 4096)) parts ∙ sectors_both s sums n (count - (done + n)) (addr + done * 4096)
    ∙ ap (λ a. bind (sectors s sums n (addr + done * 4096)) (λ u. sectors s sums (count - (done + n)) a)) behind

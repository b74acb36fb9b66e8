-- Sectors whose checksums are kept are listed at once.
use Rattle.std.proofs.Common.{◌≡◌, ℕ, zero, suc, ◌+◌, ◌-◌, ◌*◌, ◌/◌, ◌<◌, Bool, true, false, cond, List, [], ◌∷◌, ◌++◌, drop, length, Option, Some, None}
use Rattle.std.proofs.Common.{Result, Ok, Err, sym, ap, ◌∙◌, subst, arith, inl, inr}
use Rattle.btr_scrub.proofs.Common.{AddsTo, Gathered, Gathers, Lists, OnlyReads, Return, SameVolume, Scene, Sector, Seen, Serves, Sum, SumKind, Super, Tells}
use Rattle.btr_scrub.proofs.Common.{TreeRoot, Volume, cases_lt, exec, kind_in, scene, sector, sector_met, sectors, stored_sum, sum_at, sum_size, unread_by}
use Rattle.btr_volume.specs.declared.stop.Stop.{Stop as TheStop}
use Rattle.btr_files.specs.Aheads.{IsSummed, kept_sum}
use Rattle.btr_files.specs.Sums.{covers}
use Rattle.btr_files.specs.declared.sums_ahead.SumsAhead.{SumsAhead}
use Rattle.btr_scrub.specs.Gathering.{GathersSome, IsSumKept, ListsKept, sectors_met}
use Rattle.btr_scrub.proofs.Gaps.{follows_sectors}
use Rattle.btr_scrub.proofs.Gathering.{gathers_then, gathers_told, lists_added, lists_then}
use Rattle.btr_scrub.proofs.OneSector.{again}

-- a checksum that is kept is the same when it is stored again
kept_again : (ahead : SumsAhead) (addr : ℕ) (sum : Sum) → length sum.bytes ≡ 32 → kept_sum ahead addr ≡ Some sum → stored_sum ahead.kind sum.bytes ≡ sum
kept_again ahead addr sum long kept = of (covers ahead.run addr) kept
  where
    -- the bytes from the address's checksum on
    bytes : List ℕ
    bytes = drop ((addr - ahead.run.start) / 4096 * sum_size ahead.kind) ahead.bytes

    of : (b : Bool) → cond b (Some (stored_sum ahead.kind bytes)) None ≡ Some sum → stored_sum ahead.kind sum.bytes ≡ sum
    of true e = again ahead.kind bytes sum long (let is : stored_sum ahead.kind bytes ≡ sum = cc e in sym is)
    of false e = absurd (cc e)

-- one sector more is met behind the others
sectors_more : (found : ℕ → Option Sum) (n addr : ℕ)
    → sectors_met found (n + 1) addr ≡ sectors_met found n addr ++ sector_met (addr + n * 4096) (found (addr + n * 4096)) ∷ []
sectors_more found zero addr =
    let here : addr ≡ addr + 0 * 4096 = omega arith in ap (λ a. sector_met a (found a) ∷ []) here
sectors_more found (suc n) addr =
    let behind : addr + 4096 + n * 4096 ≡ addr + suc n * 4096 = omega arith in
    let all : suc n + 1 ≡ suc (n + 1) = omega arith in
    ap (λ k. sectors_met found k addr) all ∙ ap (λ met. sector_met addr (found addr) ∷ met) (sectors_more found n (addr + 4096)
    ∙ ap (λ a. sectors_met found n (addr + 4096) ++ sector_met a (found a) ∷ []) behind)

-- one more was
pub kept_more : (addr most : ℕ) (ahead : SumsAhead) (x y z : Gathered) (n : ℕ) (sum : Sum) → n < most → ListsKept addr most ahead x y n
    → ahead.kind ≡ x.list.kind → kept_sum ahead (addr + n * 4096) ≡ Some sum → length sum.bytes ≡ 32
    → AddsTo y.list z.list (Sector (addr + n * 4096) (stored_sum x.list.kind sum.bytes)) → z.unchecked ≡ y.unchecked → ListsKept addr most ahead x z (n + 1)
kept_more addr most ahead x y z n sum lt h kind kept long added count =
    let at = addr + n * 4096 in
    let same : stored_sum x.list.kind sum.bytes ≡ sum = subst (λ (k : SumKind). stored_sum k sum.bytes ≡ sum) kind (kept_again ahead at sum long kept) in
    let one : Lists y z (sector_met at (kept_sum ahead at) ∷ []) =
    subst (λ o. Lists y z (sector_met at o ∷ [])) (sym kept) (lists_added y z (Sector at sum)
    (subst (λ s. AddsTo y.list z.list (Sector at s)) same added) count) in
    record {
      few = omega (arith, lt);
      kept = λ i below. elim (cases_lt i n) [
        | inl before ↦ h.kept i before
        | inr behind ↦ subst (λ j. IsSumKept x.list.kind ahead (addr + j * 4096)) (let last : n ≡ i = omega (arith, below, behind) in last)
            (record { sum = sum; of_kind = kind; kept = kept })
      ];
      lists = subst (Lists x z) (sym (sectors_more (kept_sum ahead) n addr))
          (lists_then x y z (sectors_met (kept_sum ahead) n addr) (sector_met at (kept_sum ahead at) ∷ []) h.lists one);
    }

-- so many sectors were listed by a look-up, whose checksums it kept
pub gathers_kept : (s : Super) (sums : Option TreeRoot) (addr most n : ℕ) (old new : Seen) (vol vol' : Volume) (x y : Gathered) (none ahead : SumsAhead)
    → Serves new vol'.store → OnlyReads old new → SameVolume vol vol' → x.list.kind ≡ kind_in s → ((a : ℕ) → kept_sum none a ≡ None)
    → Tells vol.store.layout old new (λ B. IsSummed B sums none → IsSummed B sums ahead) → ListsKept addr most ahead x y n
    → Gathers (sectors s sums n addr) (scene old vol x) (scene new vol' y) (Ok tt)
gathers_kept s sums addr most n old new vol vol' x y none ahead serves reads same kind empty told h =
    gathers_told (sectors s sums n addr) (λ B. IsSummed B sums none → IsSummed B sums ahead) old new vol vol' x y (sectors_met (kept_sum ahead) n addr)
    (Ok tt) serves reads same h.lists (λ B keeps. follows_sectors (unread_by vol.store.layout old new) B s sums (kept_sum ahead) n addr (λ i lt.
    let k = h.kept i lt in
    let summed : IsSummed B sums ahead = keeps (λ other sum is. absurd (cc (sym (empty other) ∙ is))) in
    subst (λ (q : SumKind). (exec B (sum_at q sums (addr + i * 4096))).ending ≡ Ok (Some k.sum)) (k.of_kind ∙ kind)
    (summed (addr + i * 4096) k.sum k.kept) ∙ ap Ok (sym k.kept))) told tt

-- some were listed behind calls by which nothing was
pub some_behind : (s : Super) (sums : Option TreeRoot) (addr most : ℕ) (x y z : Scene) (r : Result ℕ TheStop) → Gathers {A = Unit {0}} (Return tt) x y (Ok tt)
    → GathersSome s sums addr most y z r → GathersSome s sums addr most x z r
some_behind s sums addr most x y z (Ok n) h g = (g.0, g.1, gathers_then (Return tt) (λ (u : Unit {0}). sectors s sums n addr) x y z tt (Ok tt) h g.2)
some_behind s sums addr most x y z (Err stop) h g = gathers_then (Return tt) (λ (u : Unit {0}). sector s sums addr) x y z tt (Err stop) h g

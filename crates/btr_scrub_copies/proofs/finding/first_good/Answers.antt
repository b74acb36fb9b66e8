use Rattle.std.proofs.Common.{◌≡◌, ℕ, ◌<◌, ◌≤◌, IfOk, length, Ok, Some, refl, ap, sym, ◌∙◌, arith}
use Rattle.btr_scrub_copies.proofs.Common.{IsOfCopy, Layout, Target, Want, candidates, mirrors, none_more, reads_more, same_held, sought, with_copies}
use Rattle.btr_read.specs.declared.mirror.TryFault.{TryFault}
use Rattle.btr_read.specs.declared.mirror.TryFault.TheVariants.{Failed}
use Rattle.btr_read.proofs.Order.{copy_in_order, length-candidates, length-copies}
use Rattle.btr_read.proofs.ReadsOn.{same_sure}
use Rattle.btr_read.proofs.Trials.{none_of_all}
use Rattle.btr_read.specs.Order.{IsWayAt}
use Rattle.btr_scrub_copies.proofs.Copied.{can_try, copied_same, copy_stands, differs_bad, has_mirror, missed_fails, not_absent, passed_good, same_loans_then}
use Rattle.btr_scrub_copies.proofs.Doing.{fails_after}
use Rattle.btr_scrub_copies.proofs.Firsts.{first_differs, first_passes}
use Rattle.btr_scrub_copies.proofs.finding.first_good.Goals as goal

-- the copy that is tried at a place in the order, of a block that is sought in the layout as it is now
record IsNext (now : Layout) (want : Want) (t : Target) (n k m : ℕ) : Type 0 where
  seeks : sought now want ≡ Ok t
  at : IsWayAt k m t
  below : m < n

next : {old now : Layout} (want : Want) (t : Target) (n k m : ℕ) → now ≡ old → sought old want ≡ Ok t → mirrors t.chunk ≡ Some n → k < n
    → IfOk (sought now want) (IsWayAt k m) → IsNext now want t n k m
next want t n k m same e has lt order =
    let seeks = ap (λ l. sought l want) same ∙ e in
    let at = rw seeks at order in
    record { seeks = seeks; at = at; below = (copy_in_order t n k m has lt at).0 }

pub loop-k-preserved : goal.loop-k-preserved
loop-k-preserved g c =
    let same = c.loop-k.invariant.same in
    let n = c.args.block.now.copies in
    let k = c.loop-k.k in
    let m = c.way_at-mirror.result in
    let copied = c.requires.copied in
    record {
      serves = c.try_mirror.ensures.serves;
      reads = reads_more c.loop-k.invariant.reads c.try_mirror.ensures.reads;
      same = same_loans_then _ _ _ same (rw c.in-Ok-Differs.field-0-is at c.in-Ok-Differs.ensures.lent);
      none = λ t images e told.
          let next = next c.args.block.now.want.now t n k m same.layout e (c.requires.copies t e) c.loop-k-test.true c.way_at-mirror.ensures in
          let fits = rw (next.seeks, c.in-Ok-Differs.field-0-is) at c.in-Ok-Differs.ensures.answer in
          first_differs images t n k m (c.requires.copies t e) c.loop-k-test.true next.at fits.0 (c.loop-k.invariant.none t images e told)
          (differs_bad t m images _ (same_held c.loop-k.invariant.reads ∙ told) fits.1);
      account = none_more _ _ _ c.loop-k.invariant.account
          (rw (ap (λ l. sought l c.args.block.now.want.now) same.layout ∙ copied.is_sought) at c.in-Ok-Differs.ensures.account);
    }

pub try_mirror-requires-clause-mirror : goal.try_mirror-requires-clause-mirror
try_mirror-requires-clause-mirror g c =
    let same = c.loop-k.invariant.same.layout in
    let want = c.args.block.now.want.now in
    let n = c.args.block.now.copies in
    let m = c.way_at-mirror.result in
    can_try c.loop-k.store.layout want m (copied_same _ _ _ same c.requires.copied) (λ t seeks.
    let e = sym (ap (λ l. sought l want) same) ∙ seeks in
    let next = next c.args.block.now.want.now t n c.loop-k.k m same e (c.requires.copies t e) c.loop-k-test.true c.way_at-mirror.ensures in
    has_mirror t n m (c.requires.copies t e) next.below)

pub returns-in-Ok-Passed-clause-found : goal.returns-in-Ok-Passed-clause-found
returns-in-Ok-Passed-clause-found g c t images e told =
    let n = c.args.block.now.copies in
    let k = c.loop-k.k in
    let m = c.way_at-mirror.result in
    let next = next c.args.block.now.want.now t n k m c.loop-k.invariant.same.layout e (c.requires.copies t e) c.loop-k-test.true c.way_at-mirror.ensures in
    let fits = rw (next.seeks, c.in-Ok-Passed.field-0-is) at c.in-Ok-Passed.ensures.answer in
    let good = passed_good t m images _ (same_held c.loop-k.invariant.reads ∙ told) c.try_mirror.new.store c.in-Ok-Passed.loan fits.1 in (
      first_passes images t n k m (c.requires.copies t e) c.loop-k-test.true next.at fits.0 (c.loop-k.invariant.none t images e told) good.0,
      good.1,
    )

pub returns-in-Ok-Passed-clause-below : goal.returns-in-Ok-Passed-clause-below
returns-in-Ok-Passed-clause-below g c =
    let t = c.requires.copied.target in
    let e = c.requires.copied.is_sought in
    let next = next c.args.block.now.want.now t _ c.loop-k.k _ c.loop-k.invariant.same.layout e (c.requires.copies t e) c.loop-k-test.true
    c.way_at-mirror.ensures in
    next.below

pub unreachable-requires : goal.unreachable-requires
unreachable-requires g c =
    let t = c.requires.copied.target in
    let e = c.requires.copied.is_sought in
    let n = c.args.block.now.copies in
    let m = c.way_at-mirror.result in
    let next = next c.args.block.now.want.now t n c.loop-k.k m c.loop-k.invariant.same.layout e (c.requires.copies t e) c.loop-k-test.true
    c.way_at-mirror.ensures in
    not_absent t m (copy_stands _ _ t m c.requires.copied e (has_mirror t n m (c.requires.copies t e) next.below))
    (rw (next.seeks, c.in-Ok-Absent.field-0-is) at c.in-Ok-Absent.ensures.answer)

the_slot : (f : TryFault) → (slot : ℕ) × (f ≡ Failed slot)
the_slot (Failed slot) = (slot, refl)

pub returns-in-Err-Failed-clause-account : goal.returns-in-Err-Failed-clause-account
returns-in-Err-Failed-clause-account g c t e =
    let n = c.args.block.now.copies in
    let m = c.way_at-mirror.result in
    let next = next c.args.block.now.want.now t n c.loop-k.k m c.loop-k.invariant.same.layout e (c.requires.copies t e) c.loop-k-test.true
    c.way_at-mirror.ensures in
    let fault = the_slot c.in-Err-Failed.field-0 in
    let is : c.in-Err-Failed.field-0 ≡ Failed fault.0 = fault.1 in
    rw is (fails_after (IsOfCopy t) fault.0 _ _ _ (same_sure c.loop-k.invariant.reads) c.loop-k.invariant.account
    (missed_fails t m fault.0 _ _ (has_mirror t n m (c.requires.copies t e) next.below) (rw (next.seeks, is) at c.in-Err-Failed.ensures.account)))

pub returns-clause-found : goal.returns-clause-found
returns-clause-found g c t images e told =
    let has = c.requires.copies t e in
    let le : length (candidates t) ≤ c.loop-k.k =
    omega (arith, c.loop-k-test.false, length-candidates t ∙ ap length (with_copies t c.args.block.now.copies has) ∙ length-copies c.args.block.now.copies) in
    none_of_all images t c.loop-k.k le (c.loop-k.invariant.none t images e told)

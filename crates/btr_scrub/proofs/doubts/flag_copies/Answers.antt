use Rattle.std.proofs.Common.{◌+◌, ◌||◌, false, get_or, IfSome, Err, take, refl, sym, ap, ◌∙◌, subst, arith, ◌≡◌, ℕ, Bool, ◌<◌}
use Rattle.btr_scrub.proofs.Common.{Flags, Mirror, err_from_is_err_and, fails_at, fails_on, has_mirror, list_any, range_with_len, reads_more, same_held, sought}
use Rattle.std.proofs.lemmas.List.{take_all}
use Rattle.std.proofs.lemmas.List.FromFn.{length-range_with_len, get_or-range_with_len}
use Rattle.btr_read.proofs.Keeping.{none_more}
use Rattle.btr_read.proofs.ReadsOn.{open_still, same_sure}
use Rattle.btr_scrub_copies.proofs.Doing.{account_then}
use Rattle.btr_scrub.specs.Judged.{IsOfPart}
use Rattle.btr_scrub.proofs.Doubting.{both_of, fails_copies, flags_none, flags_then, own_part, the_sought}
use Rattle.btr_scrub.proofs.Scrubbing.{tell}
use Rattle.std.proofs.lemmas.Option.{IfSome_then}
use Rattle.btr_scrub.proofs.doubts.flag_copies.Goals as goal
use Rattle.std.proofs.lemmas.List.Folds.{list_any_more}

-- one more slice, of n
slice_more : (f : ℕ → Bool) (n i : ℕ) → i < n → list_any f (take (i + 1) (range_with_len 0 n)) ≡ (list_any f (take i (range_with_len 0 n)) || f i)
slice_more f n i lt =
    list_any_more f (range_with_len 0 n) i 0 (omega (arith, lt, length-range_with_len 0 n))
    ∙ ap (λ j. list_any f (take i (range_with_len 0 n)) || f j) (get_or-range_with_len 0 n i 0 lt ∙ omega arith)

pub loop-mirror-init : goal.loop-mirror-init
loop-mirror-init g c = record {
  ready = c.requires.ready;
  reads = record { same = refl; later = omega arith; same_shut = refl };
  account = record { faults = refl; fresh = refl; missed = refl; last = refl; opening = refl; shut = refl };
  flags = λ t e. tell (g.R.Rack.seen c.args.rack.now).held
      (λ images. Flags c.args.probe.now.failing.items
      (λ slot. list_any (λ k. fails_at images t slot (Mirror k)) (take 0 (range_with_len 0 c.args.copies))) c.args.probe.now.failing.items)
      (λ images told. flags_none c.args.probe.now.failing.items
      (λ slot. list_any (λ k. fails_at images t slot (Mirror k)) (take 0 (range_with_len 0 c.args.copies))) (λ slot. refl));
}

pub flag_part-requires-clause-open : goal.flag_part-requires-clause-open
flag_part-requires-clause-open g c = open_still c.args.store.now.layout.devices c.loop-mirror.invariant.reads c.requires.open

pub flag_part-requires-clause-own : goal.flag_part-requires-clause-own
flag_part-requires-clause-own g c = own_part c.args.store.now.layout c.args.want.now (Mirror c.loop-mirror.mirror) c.requires.sought
    (λ t e. has_mirror t c.args.copies c.loop-mirror.mirror (c.requires.copies t e) c.loop-mirror-test.true)

pub loop-mirror-preserved : goal.loop-mirror-preserved
loop-mirror-preserved g c =
    let a = g.R.Rack.seen c.args.rack.now in
    let b = g.R.Rack.seen c.loop-mirror.rack in
    let d = g.R.Rack.seen c.flag_part.new.rack in
    let m = c.loop-mirror.mirror in
    let old = c.args.probe.now.failing.items in
    let mid = c.loop-mirror.probe.failing.items in
    let new = c.flag_part.new.probe.failing.items in
    let target = the_sought (sought c.args.store.now.layout c.args.want.now) c.requires.sought in
    record {
      ready = c.in_ok-flag_part.ensures.ready;
      reads = reads_more c.loop-mirror.invariant.reads c.in_ok-flag_part.ensures.reads;
      account = none_more a.account b.account d.account c.loop-mirror.invariant.account (c.in_ok-flag_part.ensures.account target.0 target.1);
      flags = λ t e.
          both_of a.held (λ images. Flags old (λ slot. list_any (λ k. fails_at images t slot (Mirror k)) (take m (range_with_len 0 c.args.copies))) mid)
          (λ images. Flags mid (λ slot. fails_at images t slot (Mirror m)) new)
          (λ images. Flags old (λ slot. list_any (λ k. fails_at images t slot (Mirror k)) (take (m + 1) (range_with_len 0 c.args.copies))) new)
          (λ images one two. flags_then old mid new (λ slot. list_any (λ k. fails_at images t slot (Mirror k)) (take m (range_with_len 0 c.args.copies)))
          (λ slot. fails_at images t slot (Mirror m))
          (λ slot. list_any (λ k. fails_at images t slot (Mirror k)) (take (m + 1) (range_with_len 0 c.args.copies))) one two
          (λ slot. sym (slice_more (λ k. fails_at images t slot (Mirror k)) c.args.copies m c.loop-mirror-test.true))) (c.loop-mirror.invariant.flags t e)
          (subst (λ held. IfSome held (λ images. Flags mid (λ slot. fails_at images t slot (Mirror m)) new))
          (same_held c.loop-mirror.invariant.reads) (c.in_ok-flag_part.ensures.flags t e));
    }

pub returns-in_err-flag_part-clause-reads : goal.returns-in_err-flag_part-clause-reads
returns-in_err-flag_part-clause-reads g c = reads_more c.loop-mirror.invariant.reads c.in_err-flag_part.ensures.reads

pub returns-in_err-flag_part-clause-account : goal.returns-in_err-flag_part-clause-account
returns-in_err-flag_part-clause-account g c t e =
    let p = err_from_is_err_and c.from_residual.result c.from_residual.ensures.1 in
    rw (p.1, p.2)
    (account_then {A = Unit {0}} (IsOfPart t) (g.R.Rack.seen c.args.rack.now) (g.R.Rack.seen c.loop-mirror.rack) (g.R.Rack.seen c.flag_part.new.rack)
    (Err c.in_err-flag_part.field-0.0) (same_sure c.loop-mirror.invariant.reads) c.loop-mirror.invariant.account (c.in_err-flag_part.ensures.account t e))

pub returns-clause-flags : goal.returns-clause-flags
returns-clause-flags g c t e =
    let old = c.args.probe.now.failing.items in
    let new = c.loop-mirror.probe.failing.items in
    let n = c.args.copies in
    IfSome_then (g.R.Rack.seen c.args.rack.now).held
    {P = λ images. Flags old (λ slot. list_any (λ k. fails_at images t slot (Mirror k)) (take c.loop-mirror.mirror (range_with_len 0 n))) new}
    {Q = λ images. Flags old (λ slot. fails_on images slot t) new} (c.loop-mirror.invariant.flags t e)
    (λ images h slot. h slot ∙ ap (λ b. get_or old slot false || b)
    (ap (list_any (λ k. fails_at images t slot (Mirror k)))
    (take_all c.loop-mirror.mirror (range_with_len 0 n) (omega (arith, length-range_with_len 0 n, c.loop-mirror-test.false)))
    ∙ fails_copies images t n slot (c.requires.copies t e)))

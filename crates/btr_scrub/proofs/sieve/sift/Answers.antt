use Rattle.std.proofs.Common.{◌∷◌, ◌++◌, [], Err, length, refl, sym, ap, ◌∙◌, subst, arith, append_assoc, append-nil, length-append}
use Rattle.btr_scrub.proofs.Common.{AccountsMend, AreApart, AreOfKind, Layout, LiesInStripe, ShareNoRow, Sifts, SiftsNext, err_from_is_err_and, reads_more}
use Rattle.btr_scrub.proofs.Common.{same_held, same_loans_then}
use Rattle.btr_read.proofs.Keeping.{none_more}
use Rattle.btr_read.proofs.ReadsOn.{same_sure}
use Rattle.btr_scrub_copies.proofs.Doing.{account_then}
use Rattle.btr_scrub.proofs.RowNumbers.{tail_apart}
use Rattle.btr_scrub.proofs.Sieving.{of_kind_behind, share_left, sifts_more, sifts_none}
use Rattle.btr_scrub.proofs.Unitwise.{apart_from}
use Rattle.btr_scrub.proofs.sieve.sift.Goals as goal

pub loop-want-init : goal.loop-want-init
loop-want-init g c = record {
  ready = c.requires.ready;
  loans = record { layout = refl; loans = refl };
  reads = record { same = refl; later = omega arith; same_shut = refl };
  none = record { faults = refl; fresh = refl; missed = refl; last = refl; opening = refl; shut = refl };
  past = [];
  split = refl;
  apart = c.requires.apart;
  of_kind = c.requires.of_kind;
  rows = λ t u i. absurd i;
  sifts = sifts_none c.args.store.now.layout (g.R.Rack.seen c.args.rack.now).held c.args.sifted.now c.requires.can;
}

pub sift_next-requires-clause-apart : goal.sift_next-requires-clause-apart
sift_next-requires-clause-apart g c =
    let h = c.loop-want.invariant in
    subst (λ (l : Layout). AreApart l 0 (c.in-Some.want ∷ c.next.new.self)) (sym h.loans.layout)
    (subst (AreApart c.args.store.now.layout 0) c.in-Some.ensures h.apart)

pub sift_next-requires-clause-can : goal.sift_next-requires-clause-can
sift_next-requires-clause-can g c = rw c.loop-want.invariant.loans.layout c.loop-want.invariant.sifts.can

pub sift_next-requires-clause-of_kind : goal.sift_next-requires-clause-of_kind
sift_next-requires-clause-of_kind g c = subst (AreOfKind c.loop-want.sifted.kept.kind) c.in-Some.ensures c.loop-want.invariant.of_kind

pub loop-want-smaller : goal.loop-want-smaller
loop-want-smaller g c =
    let s = c.in_ok-sift_next.ensures.sifts in
    omega (arith, ap length c.in-Some.ensures, ap length s.split, length-append s.more c.sift_next.new.blocks)

pub loop-want-preserved : goal.loop-want-preserved
loop-want-preserved g c =
    let layout = c.args.store.now.layout in
    let a = g.R.Rack.seen c.args.rack.now in
    let b = g.R.Rack.seen c.loop-want.rack in
    let d = g.R.Rack.seen c.sift_next.new.rack in
    let h = c.loop-want.invariant in
    let want = c.in-Some.want in
    let old = c.next.new.self in
    let new = c.sift_next.new.blocks in
    let before = c.loop-want.sifted in
    let after = c.sift_next.new.sifted in
    let s = subst (λ held. SiftsNext layout held want old new before after) (same_held h.reads)
    (subst (λ (l : Layout). SiftsNext l b.held want old new before after) h.loans.layout c.in_ok-sift_next.ensures.sifts) in
    let split = c.in-Some.ensures ∙ ap (λ ws. want ∷ ws) s.split in
    let share = subst (ShareNoRow layout h.past) c.in-Some.ensures h.rows in
    let tail = tail_apart layout 0 (want ∷ s.more) new (subst (AreApart layout 0) split h.apart) in
    record {
      ready = c.in_ok-sift_next.ensures.ready;
      loans = same_loans_then c.args.store.now c.loop-want.store c.sift_next.new.store h.loans c.in_ok-sift_next.ensures.loans;
      reads = reads_more h.reads c.in_ok-sift_next.ensures.reads;
      none = none_more a.account b.account d.account h.none c.in_ok-sift_next.ensures.account;
      past = h.past ++ want ∷ s.more;
      split = h.split ∙ ap (λ ws. h.past ++ ws) split ∙ sym (append_assoc h.past (want ∷ s.more) new);
      apart = apart_from layout 0 tail.0 new tail.1 tail.2;
      of_kind = of_kind_behind after.kept.kind (want ∷ s.more) new (subst (λ k. AreOfKind k ((want ∷ s.more) ++ new)) (sym s.sifts.kind)
          (subst (AreOfKind before.kept.kind) split h.of_kind));
      rows = share_left layout a.held c.requires.ready.table h.past want old new c.args.sifted.now before after share s;
      sifts = sifts_more layout a.held c.requires.ready.table h.past want old new c.args.sifted.now before after share s h.sifts;
    }

pub returns-in_err-sift_next-clause-account : goal.returns-in_err-sift_next-clause-account
returns-in_err-sift_next-clause-account g c =
    let a = g.R.Rack.seen c.args.rack.now in
    let b = g.R.Rack.seen c.loop-want.rack in
    let d = g.R.Rack.seen c.sift_next.new.rack in
    let h = c.loop-want.invariant in
    let p = err_from_is_err_and c.from_residual.result c.from_residual.ensures.1 in
    rw (p.1, p.2) (account_then {A = Unit {0}} (LiesInStripe c.args.store.now.layout) a b d (Err c.in_err-sift_next.field-0.0) (same_sure h.reads) h.none
    (subst (λ (l : Layout). AccountsMend {A = Unit {0}} (LiesInStripe l) b d
    (Err c.in_err-sift_next.field-0.0)) h.loans.layout c.in_err-sift_next.ensures.account))

pub returns-clause-sifts : goal.returns-clause-sifts
returns-clause-sifts g c =
    let h = c.loop-want.invariant in
    subst (λ ws. Sifts c.args.store.now.layout (g.R.Rack.seen c.args.rack.now).held ws c.args.sifted.now c.loop-want.sifted)
    (sym (h.split ∙ ap (λ ws. h.past ++ ws) c.in_default.ensures.0 ∙ append-nil h.past)) h.sifts

use Rattle.std.proofs.Common.{◌≡◌, false, length, length-set, ◌∙◌, subst, inl, inr, arith, refl}
use Rattle.btr_scrub_copies.proofs.Common.{cases_lt, get_or-set_other, none_more}
use Rattle.std.proofs.lemmas.List.{get_or_past}
use Rattle.btr_scrub_copies.specs.Syncing.{AreSynced, SyncsMarked}
use Rattle.btr_scrub_copies.proofs.Syncs.{behind_more, only_more, sync_account, synced_more, waits_behind, unmarked}
use Rattle.btr_scrub_copies.proofs.Doing.{passed}
use Rattle.btr_scrub_copies.proofs.Lists.{flag_more}
use Rattle.btr_scrub_copies.proofs.syncing.sync_marked.Goals as goal

pub loop-slot-preserved : goal.loop-slot-preserved
loop-slot-preserved g c =
    let inv = c.loop-slot.invariant in
    let one = c.in_ok-sync_one.ensures in
    let slot = c.loop-slot.slot in
    let marks = c.loop-slot.marks in
    record {
      only = only_more _ _ _ inv.only one.only;
      account = none_more _ _ _ inv.account one.account;
      synced = synced_more inv one;
      behind = behind_more inv one;
      stranded = one.synced.1 ∙ inv.stranded;
      taken = λ k lt. flag_more marks slot k false (λ k. false) (omega (arith, c.loop-slot-test.true, inv.long)) inv.taken refl lt;
      long = length-set marks slot false ∙ inv.long;
      left = λ k le. get_or-set_other marks slot k false false (λ same. absurd (omega (arith, le, same))) ∙ inv.left k (omega (arith, le));
    }

pub returns : goal.returns
returns g c =
    let a = g.R.Rack.seen c.args.rack.now in
    let b = g.R.Rack.seen c.loop-slot.rack in
    let slot = c.loop-slot.slot in
    let inv = c.loop-slot.invariant in
    let whole : slot ≡ length c.args.marks.now = omega arith in
    record {
      only = inv.only;
      account = inv.account;
      synced = (subst (λ n. AreSynced c.args.marks.now n a.unsynced b.unsynced) whole inv.synced, inv.stranded);
      unmarks = λ k. elim (cases_lt k slot) [
        | inl lt ↦ inv.taken k lt
        | inr le ↦ get_or_past c.loop-slot.marks k false (omega (arith, le, whole, inv.long))
      ];
    }

pub returns-in_err-sync_one : goal.returns-in_err-sync_one
returns-in_err-sync_one g c =
    let a = g.R.Rack.seen c.args.rack.now in
    let z = g.R.Rack.seen c.sync_one.new.rack in
    let inv = c.loop-slot.invariant in
    let one = c.in_err-sync_one.ensures in
    passed (λ r. SyncsMarked c.args.marks.now c.loop-slot.marks a z r) _ _ c.from_residual.ensures.1 (record {
      only = only_more _ _ _ inv.only one.only;
      account = sync_account inv one;
      synced = waits_behind inv one;
      unmarks = unmarked inv one;
    })

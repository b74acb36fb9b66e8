use Rattle.std.proofs.Common.{None, IsSome, sym, ap, ◌∙◌, subst}
use Rattle.std.proofs.lemmas.Bool.{false≢true}
use Rattle.std.proofs.lemmas.List.{get_or-set_other}
use Rattle.std.specs.Option.{is_some}
use Rattle.btr_read.specs.Store.{Blocks, Lent, loan_in, with_loan, IsLiveIn, IsLentBy}
use Rattle.btr_read.specs.declared.want.Want.{Want}
use Rattle.btr_read_tests.proofs.stores.lend_second.Goals as goal

-- a loan stays live while one that was live before it is given back
later_stays : (old new : Blocks) (want : Want) (loan other : Lent) → IsLentBy old new want loan → IsLiveIn old other
    → IsLiveIn (with_loan new other.slot None) loan
later_stays old new want loan other t live = record {
  live = subst IsSome (sym (get_or-set_other new.loans other.slot loan.slot None None
      (λ same. false≢true (sym (ap is_some t.free) ∙ ap (λ n. is_some (loan_in old n)) same ∙ live.live)))) t.live.live;
  fits = t.live.fits;
}

-- the second loan is live once the first is given back
pub is_slice-requires-3 : goal.is_slice-requires-3
is_slice-requires-3 g c = subst (λ store. IsLiveIn store c.lent-second.result) (sym c.give.ensures)
    (later_stays c.args.given.now.store c.lent-second.new.given.store c.plain.result c.lent-second.result c.args.first c.lent-second.ensures c.requires)

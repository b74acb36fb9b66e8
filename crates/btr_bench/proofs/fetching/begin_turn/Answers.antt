use Rattle.std.proofs.Common.{subst, sym}
use Rattle.btr_rack.specs.Rack.{Seen}
use Rattle.btr_read.specs.Store.{Blocks, without_kept}
use Rattle.btr_read.specs.Serves.{Serves}
use Rattle.std.proofs.Common.{refl}
use Rattle.btr_read.proofs.Serving.{serving, serves_anew}
use Rattle.btr_bench.proofs.fetching.begin_turn.Goals as goal

-- a store that keeps nothing is served too
forgotten : (rack : Seen) (store : Blocks) → Serves rack store → Serves rack (without_kept store)
forgotten rack store serves =
    let was = serving rack store serves in
    serves_anew rack (without_kept store) was.are_open was.own_slots refl

pub returns-clause-serves : goal.returns-clause-serves
returns-clause-serves c = λ rack serves. subst (Serves rack) (sym c.forget_kept.ensures) (forgotten rack c.args.store.now serves)

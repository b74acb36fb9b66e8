use Rattle.std.proofs.Common.{◌≡◌, ℕ, List, take, Result, Ok, Err, OnOk}
use Rattle.btr_pool.specs.Slots.{bytes_at}
use Rattle.btr_read.specs.declared.attempt.Unread.{Unread}
use Rattle.btr_read.specs.declared.candidate.Candidate.TheVariants.{ByP}
use Rattle.btr_read.specs.declared.parity.Parity.TheVariants as parity
use Rattle.btr_read.specs.Candidates.{size_of, value_of}
use Rattle.btr_read.specs.Gathering.{IsGathered}
use Rattle.btr_read.proofs.Trials.{told, telling}
use Rattle.btr_read.proofs.Rebuilt.{by_p}
use Rattle.btr_read.proofs.rebuilding.rebuild_by_p.Goals as goal

-- two facts of what was answered give a third
on_both : {A B C : Type 0} (r : Result (Unit {0}) Unread) → (A → B → C) → OnOk r A → OnOk r B → OnOk r C
on_both (Ok done) f a b = f a b
on_both (Err slot) f a b = tt

pub returns-clause-value : goal.returns-clause-value
returns-clause-value g c =
    let t = c.args.search.now in
    let held = (g.R.Rack.seen c.args.rack.now).held in
    let bytes : List ℕ = take (size_of t) (bytes_at c.gather.new.pool c.args.loan.now) in
    on_both c.gather.result (λ sought gathered. told held (λ images. value_of images t ByP ≡ bytes)
    (λ images is. by_p images t bytes sought.0 (telling held (λ images. IsGathered images t ByP parity.P bytes) gathered images is)))
    c.gather.ensures.sought c.gather.ensures.bytes

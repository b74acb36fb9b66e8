use Rattle.std.proofs.Common.{◌≡◌, count_by, None, Ok, refl, subst, sym, ap, ◌∙◌, arith}
use Rattle.std.specs.Option.{is_none}
use Rattle.btr_pool.specs.Slots.{loans_of}
use Rattle.btr_pool.proofs.Loans.{count_by-loans_of}
use Rattle.btr_read.specs.Comparing.{ComparesSought, IsCompared}
use Rattle.btr_read.specs.Fate.{sought}
use Rattle.btr_read.specs.Layout.{AreOpen}
use Rattle.btr_read.specs.Serves.{Serves}
use Rattle.btr_read.specs.Store.{kept_in}
use Rattle.btr_read.proofs.Compared.{compared_few, compared_none, compared_some}
use Rattle.btr_read.proofs.Fates.{located, sought_fits}
use Rattle.btr_read.proofs.Loans.{blocks}
use Rattle.btr_read.proofs.Nodes.{sound_kept}
use Rattle.btr_read.proofs.ReadsOn.{same_slots, same_held}
use Rattle.btr_read.proofs.Serving.{sought_open, serves_as, serves_still}
use Rattle.btr_read.proofs.comparing.compare_candidates.Given as given
use Rattle.btr_read.proofs.comparing.compare_candidates.Goals as goal
use Rattle.btr_read.proofs.comparing.compare_candidates.Goals.{In-Ok, After-compare}

-- what is sought is what `locate` found
seeks : (g : given.Over) (c : In-Ok g) → sought c.args.store.now.layout c.args.want.now ≡ Ok c.in-Ok.search
seeks g c =
    let s = c.store.inside in
    located s.chunks s.devices.items c.deref.result.now s.setting (loans_of s.pool) (kept_in s.setting s.kept.wants s.pool.bytes)
    c.args.store.now c.args.want.now c.in-Ok.search c.store.view_is c.deref.ensures.value c.in-Ok.ensures

pub returns-in_default-clause-serves : goal.returns-in_default-clause-serves
returns-in_default-clause-serves g c = serves_as (g.R.Rack.seen c.args.rack.now) (g.R.Rack.seen c.forget.new.self) c.args.store.now c.args.store.now
    (ap (λ s. s.slots) c.forget.ensures) (ap (λ s. s.held) c.forget.ensures) refl refl c.requires.serves

pub returns-then-candidate_count-lt2-clause-serves : goal.returns-then-candidate_count-lt2-clause-serves
returns-then-candidate_count-lt2-clause-serves g c = serves_as (g.R.Rack.seen c.args.rack.now) (g.R.Rack.seen c.forget.new.self) c.args.store.now
    c.args.store.now (ap (λ s. s.slots) c.forget.ensures) (ap (λ s. s.held) c.forget.ensures) refl refl c.requires.serves

pub returns-then-candidate_count-lt2-clause-answer : goal.returns-then-candidate_count-lt2-clause-answer
returns-then-candidate_count-lt2-clause-answer g c =
    let t = c.in-Ok.search in
    let old = g.R.Rack.seen c.args.rack.now in
    let mid = g.R.Rack.seen c.forget.new.self in
    subst (λ x. ComparesSought x old mid None) (sym (seeks g (goal.at.returns-then-candidate_count-lt2-clause-answer g c).In-Ok))
    (compared_few t old mid mid c.forget.ensures refl (omega (arith, c.if-candidate_count-lt2.true, c.candidate_count.ensures)))

pub compare-requires-clause-open : goal.compare-requires-clause-open
compare-requires-clause-open g c = subst (λ slots. AreOpen slots c.in-Ok.search.devices) (sym (ap (λ s. s.slots) c.forget.ensures))
    (sought_open (g.R.Rack.seen c.args.rack.now) c.args.store.now c.args.want.now c.in-Ok.search
    (seeks g (goal.at.compare-requires-clause-open g c).In-Ok) c.requires.serves)

pub compare-requires-clause-room : goal.compare-requires-clause-room
compare-requires-clause-room g c =
    let counted = ap (λ s. count_by is_none s.loans) c.store.view_is in
    omega (arith, count_by-loans_of c.store.inside.pool, counted, c.requires.room)

pub compare-requires-clause-fits : goal.compare-requires-clause-fits
compare-requires-clause-fits g c = sought_fits c.args.store.now.layout c.args.want.now c.in-Ok.search c.store.inside.pool c.store.inside.setting
    (sym (ap (λ s. s.layout.setting) c.store.view_is)) (seeks g (goal.at.compare-requires-clause-fits g c).In-Ok) c.store.invariant.store

-- the rack serves the store then
serves_then : (g : given.Over) (c : After-compare g) → let s = c.store.inside in
    let p = c.compare.new.pool in
    Serves (g.R.Rack.seen c.compare.new.rack) (blocks s.chunks s.devices.items s.setting (loans_of p) (kept_in s.setting c.compare.new.kept.wants p.bytes))
serves_then g c =
    let s = c.store.inside in
    let e = c.compare.ensures in
    serves_still s.chunks s.devices.items s.setting s.kept.wants c.compare.new.kept.wants s.pool c.compare.new.pool (g.R.Rack.seen c.args.rack.now)
    (g.R.Rack.seen c.compare.new.rack) c.args.store.now c.store.view_is (same_slots e.reads ∙ ap (λ s. s.slots) c.forget.ensures)
    (same_held e.reads ∙ ap (λ s. s.held) c.forget.ensures) e.kept c.requires.serves (loans_of c.compare.new.pool)

pub invariant_of-store : goal.invariant_of-store
invariant_of-store g c =
    let s = c.store.inside in
    let e = c.compare.ensures in
    sound_kept s.pool c.compare.new.pool s.kept.wants c.compare.new.kept.wants s.kept.nodes c.compare.new.kept.nodes s.setting e.shape e.kept e.nodes
    c.store.invariant

pub invariant_of-store-2 : goal.invariant_of-store-2
invariant_of-store-2 g c =
    let s = c.store.inside in
    let e = c.compare.ensures in
    sound_kept s.pool c.compare.new.pool s.kept.wants c.compare.new.kept.wants s.kept.nodes c.compare.new.kept.nodes s.setting e.shape e.kept e.nodes
    c.store.invariant

pub returns-in_err-place-clause-serves : goal.returns-in_err-place-clause-serves
returns-in_err-place-clause-serves g c = serves_then g (goal.at.returns-in_err-place-clause-serves g c).After-compare

pub returns-in_err-place-clause-answer : goal.returns-in_err-place-clause-answer
returns-in_err-place-clause-answer g c =
    let t = c.in-Ok.search in
    let old = g.R.Rack.seen c.args.rack.now in
    let mid = g.R.Rack.seen c.forget.new.self in
    let new = g.R.Rack.seen c.compare.new.rack in
    subst (λ x. ComparesSought x old new c.from_residual.result) (sym (seeks g (goal.at.returns-in_err-place-clause-answer g c).In-Ok))
    (subst (IsCompared t old new) (sym c.from_residual.ensures) (compared_none t old mid new c.forget.ensures c.in_err-place.ensures.other))

pub candidate-requires : goal.candidate-requires
candidate-requires g c = c.in_ok-place.ensures.other.there

pub returns-clause-serves : goal.returns-clause-serves
returns-clause-serves g c = serves_then g (goal.at.returns-clause-serves g c).After-compare

pub returns-clause-answer : goal.returns-clause-answer
returns-clause-answer g c =
    let t = c.in-Ok.search in
    let old = g.R.Rack.seen c.args.rack.now in
    let mid = g.R.Rack.seen c.forget.new.self in
    let new = g.R.Rack.seen c.compare.new.rack in
    subst (λ x. ComparesSought x old new c.least_slot.result) (sym (seeks g (goal.at.returns-clause-answer g c).In-Ok))
    (compared_some t old mid new c.forget.ensures c.in_ok-place.place c.candidate.result c.least_slot.result c.in_ok-place.ensures.other
    c.candidate.ensures.value c.least_slot.ensures)

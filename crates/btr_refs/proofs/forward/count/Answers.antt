use Rattle.std.proofs.Common.{◌≡◌, ◌∙◌, ap, slice_set}
use Rattle.btr_findings.proofs.Adding.{on_ok}
use Rattle.btr_refs.specs.Counts.{counted}
use Rattle.btr_refs.specs.Listed.{tallied}
use Rattle.btr_refs.proofs.Tallying.{counted_apart, counted_next, once, tallied_either}
use Rattle.btr_refs.proofs.Listing.{none}
use Rattle.btr_refs.proofs.forward.count.Goals as goal

pub returns-in-Some-clause-counted : goal.returns-in-Some-clause-counted
returns-in-Some-clause-counted c =
    let refs = c.args.stored.now in
    let times = c.args.times.now in
    let others = c.args.others.now.entries in
    let has = c.in-Some.ensures.found in
    on_ok c.count_again.result _ (tallied refs (slice_set times c.in-Some.at c.count_again.new.times) others
    ≡ counted (tallied refs times others) (once c.args.key))
    (counted_next refs times others c.in-Some.at none 0 c.count_again.new.times c.args.key c.requires.ordered has.below c.requires.beside
    (has.is none)) c.count_again.ensures.ok

pub returns-in-None-clause-kept : goal.returns-in-None-clause-kept
returns-in-None-clause-kept c =
    tallied_either c.args.stored.now c.args.times.now c.args.others.now.entries c.add.new.counts.entries c.args.key c.add.result c.requires
    c.in-None.ensures.absent c.add.ensures.ok c.add.ensures.err

pub returns-in-None-clause-counted : goal.returns-in-None-clause-counted
returns-in-None-clause-counted c =
    let refs = c.args.stored.now in
    let times = c.args.times.now in
    let others = c.args.others.now.entries in
    on_ok c.add.result (c.add.new.counts.entries ≡ counted others (once c.args.key))
    (tallied refs times c.add.new.counts.entries ≡ counted (tallied refs times others) (once c.args.key))
    (λ is. ap (tallied refs times) is ∙ counted_apart refs times others c.args.key c.requires.ordered) c.add.ensures.ok

use Rattle.std.proofs.Common.{slice_get, sym, ap, ◌∙◌}
use Rattle.btr_scrub.proofs.Common.{option_map, stripe_length}
use Rattle.btr_scrub.specs.Repair.{devid_of, is_missing}
use Rattle.btr_scrub.proofs.Firsts.{found_here, passed_over}
use Rattle.btr_scrub.proofs.missing.missing_in.Goals as goal

pub returns-then-is_missing : goal.returns-then-is_missing
returns-then-is_missing c =
    let devices = c.args.store.now.layout.devices in
    let chunk = c.args.chunk.now in
    let stripe = c.at-stripe.result in
    let yes = rw c.stripe_length-len.ensures at (sym c.is_missing.ensures ∙ c.if-is_missing.true) in
    sym (ap (option_map devid_of) (c.loop-i.invariant ∙ found_here (is_missing devices (stripe_length chunk)) chunk.stripes c.loop-i.i stripe
    c.at-stripe.ensures yes))

pub loop-i-preserved : goal.loop-i-preserved
loop-i-preserved c =
    let devices = c.args.store.now.layout.devices in
    let chunk = c.args.chunk.now in
    let stripe = c.at-stripe.result in
    let no = rw c.stripe_length-len.ensures at (sym c.is_missing.ensures ∙ c.if-is_missing.false) in
    c.loop-i.invariant ∙ ap (λ xs. slice_get xs 0) (passed_over (is_missing devices (stripe_length chunk)) chunk.stripes c.loop-i.i stripe
    c.at-stripe.ensures no)

use Rattle.std.proofs.Common.{◌≡◌, ◌++◌, ◌∷◌, [], map, take, sym, ap, ◌∙◌, append_assoc}
use Rattle.std.proofs.lemmas.List.{map-append}
use Rattle.btr_check_space.specs.Devices.{stripe_range}
use Rattle.btr_check_space.specs.declared.device_extent.DeviceExtent.{DeviceExtent}
use Rattle.btr_check_space.proofs.Elements.{taken_more}
use Rattle.btr_check_space.proofs.chunks.add_ranges.Goals as goal

-- the range of one more stripe
pub loop-i-preserved : goal.loop-i-preserved
loop-i-preserved c =
    let chunk = c.args.chunk.now in
    let stripe = c.at-stripe.result in
    let old = c.args.ranges.now.items in
    let ranges = map (stripe_range chunk) (take c.loop-i.i chunk.stripes) in
    let same : record { devid = stripe.devid; offset = stripe.offset; chunk = chunk.start; len = c.stripe_length-len.result } ≡ stripe_range chunk stripe =
    ap (λ n. record { devid = stripe.devid; offset = stripe.offset; chunk = chunk.start; len = n }) c.stripe_length-len.ensures in
    c.in_ok-push.ensures
    ∙ ap (λ (range : DeviceExtent). c.loop-i.ranges.items ++ range ∷ []) same
    ∙ ap (λ l. l ++ stripe_range chunk stripe ∷ []) c.loop-i.invariant
    ∙ append_assoc old ranges (stripe_range chunk stripe ∷ [])
    ∙ ap (λ l. old ++ l) (sym (map-append (stripe_range chunk) (take c.loop-i.i chunk.stripes) (stripe ∷ [])))
    ∙ ap (λ l. old ++ map (stripe_range chunk) l) (sym (taken_more chunk.stripes c.loop-i.i stripe c.at-stripe.ensures))

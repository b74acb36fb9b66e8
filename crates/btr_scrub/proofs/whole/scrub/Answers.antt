use Rattle.std.proofs.Common.{arith, sym, ◌∙◌}
use Rattle.btr_scrub.proofs.Scrubbed.{is_safe, scrubbed_given, scrubbed_lacking}
use Rattle.btr_scrub.proofs.whole.scrub.Goals as goal

pub returns-in-Some-clause-scrubbed : goal.returns-in-Some-clause-scrubbed
returns-in-Some-clause-scrubbed g c = scrubbed_lacking c.args.vol.now c.args.write (g.R.Rack.seen c.args.rack.now) c.in-Some.devid
    (sym c.in-Some.is ∙ c.missing_device.ensures.devid)

pub returns-in-None-clause-scrubbed : goal.returns-in-None-clause-scrubbed
returns-in-None-clause-scrubbed g c =
    (scrubbed_given c.args.vol.now c.missing_device.ensures.table (g.met.R.Rack.sound c.args.rack.now) c.requires.serves
    (sym c.in-None.is ∙ c.missing_device.ensures.devid) c.scrub_given.ensures.scrubs).0

pub returns-in-None-clause-slots : goal.returns-in-None-clause-slots
returns-in-None-clause-slots g c =
    (scrubbed_given c.args.vol.now c.missing_device.ensures.table (g.met.R.Rack.sound c.args.rack.now) c.requires.serves
    (sym c.in-None.is ∙ c.missing_device.ensures.devid) c.scrub_given.ensures.scrubs).1

pub returns-in-None-clause-safe : goal.returns-in-None-clause-safe
returns-in-None-clause-safe g c = is_safe c.args.vol.now c.missing_device.ensures.table (g.met.R.Rack.sound c.args.rack.now) c.requires.serves
    c.requires.nodesize (omega (arith, c.requires.large)) (returns-in-None-clause-scrubbed g c)

use Rattle.btr_scrub.proofs.Listing.{made, sector_begun, sector_lengthened}
use Rattle.std.proofs.Common.{◌++◌}
use Rattle.std.specs.Option.{option_to_list}
use Rattle.btr_scrub.proofs.listed.Listed.push_sector.Goals as goal

pub returns-in-Some-clause-added : goal.returns-in-Some-clause-added
returns-in-Some-clause-added c = sector_lengthened c.push_sum.result c.args.self.now c.requires c.self.inside.kind c.self.inside.runs
    c.self.inside.last c.self.inside.sums c.self.inside.marks c.in-Some.run' c.push_sum.new.sums c.args.sum.now.bytes c.args.addr c.ranges.addr.fits
    c.push_sum.ensures.long c.self.view_is c.in-Some.ensures c.push_sum.ensures.pushed

pub returns-in_ok-begin-in-None-clause-added : goal.returns-in_ok-begin-in-None-clause-added
returns-in_ok-begin-in-None-clause-added c = sector_begun c.push_sum-in-None.result c.args.self.now c.requires c.begin.new.self
    (made c.self-in-None.inside.kind (c.self-in-None.inside.runs ++ option_to_list c.self-in-None.inside.last) c.self-in-None.inside.sums
    c.self-in-None.inside.marks) c.push_sum-in-None.new.sums c.args.sum.now.bytes c.args.addr c.ranges.addr.fits c.push_sum-in-None.ensures.long
    c.in_ok-begin-in-None.ensures c.self-in-None.view_is c.push_sum-in-None.ensures.pushed

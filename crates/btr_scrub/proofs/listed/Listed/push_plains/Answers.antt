use Rattle.btr_scrub.proofs.Listing.{plain_begun, plain_lengthened}
use Rattle.btr_scrub.proofs.listed.Listed.push_plains.Goals as goal

pub returns-in-Some : goal.returns-in-Some
returns-in-Some c = plain_lengthened c.args.self.now c.requires.is_list c.self.inside.kind c.self.inside.runs c.self.inside.last c.self.inside.sums
    c.self.inside.marks c.in-Some.run' c.args.addr c.args.count c.requires.some c.requires.range c.self.view_is c.in-Some.ensures

pub returns-in-None : goal.returns-in-None
returns-in-None c = plain_begun c.begin.result c.args.self.now c.requires.is_list c.begin.new.self c.args.addr c.args.count c.requires.some
    c.requires.range c.begin.ensures

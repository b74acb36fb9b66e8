use Rattle.btr_scrub.proofs.Listing.{made, tree_pushed}
use Rattle.std.proofs.Common.{◌++◌}
use Rattle.std.specs.Option.{option_to_list}
use Rattle.btr_scrub.proofs.listed.Listed.push_tree.Goals as goal

pub returns : goal.returns
returns c = tree_pushed c.push.result c.args.self.now c.requires c.begin.new.self
    (made c.self.inside.kind (c.self.inside.runs ++ option_to_list c.self.inside.last) c.self.inside.sums c.self.inside.marks) c.push.new.self
    c.args.addr c.args.generation c.args.level c.in_ok-begin.ensures c.self.view_is c.push.ensures

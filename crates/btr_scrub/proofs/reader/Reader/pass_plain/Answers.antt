use Rattle.btr_scrub.proofs.Reading.{passes_plain}
use Rattle.btr_scrub.proofs.reader.Reader.pass_plain.Goals as goal

pub returns-in-Some : goal.returns-in-Some
returns-in-Some c = passes_plain c.args.self.now c.pass_from.new.self c.in-Some.addr c.args.end c.pass_from.result c.pass_from.ensures

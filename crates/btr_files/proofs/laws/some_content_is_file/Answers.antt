use Rattle.btr_files.proofs.Choosing.{some_content_is}
use Rattle.btr_files.proofs.laws.some_content_is_file.Goals as goal

pub returns : goal.returns
returns c = some_content_is

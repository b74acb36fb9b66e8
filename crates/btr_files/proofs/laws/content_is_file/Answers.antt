use Rattle.btr_files.proofs.Contents.{content_is}
use Rattle.btr_files.proofs.laws.content_is_file.Goals as goal

pub returns : goal.returns
returns c = content_is

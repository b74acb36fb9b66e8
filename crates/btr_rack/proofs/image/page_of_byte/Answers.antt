use Rattle.std.proofs.lemmas.List.{get_or-replicate}
use Rattle.btr_rack.proofs.image.page_of_byte.Goals as goal

pub returns : goal.returns
returns c = λ k lt. get_or-replicate 4096 k c.args.byte 0 lt

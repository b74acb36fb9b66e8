use Rattle.btr_rack.specs.Memory.{seen_of}
use Rattle.btr_files_tests.proofs.pieces.parts.Goals as goal

pub collect-collected-requires-clause-reading : goal.collect-collected-requires-clause-reading
collect-collected-requires-clause-reading c = c.new-file.ensures.reading (seen_of c.in_ok-filled.filled.scene.rack)
    c.in_ok-filled.filled.scene.vol.store c.in_ok-filled.ensures.serves

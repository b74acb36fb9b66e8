use Rattle.std.proofs.Common.{◌≤◌, length, arith}
use Rattle.btr_scrub.proofs.OneRow.{chunk_number}
use Rattle.btr_scrub_tests.proofs.one_row.mended.Goals as goal

pub mend_row-requires-clause-room : goal.mend_row-requires-clause-room
mend_row-requires-clause-room c row is =
    let n = chunk_number c.in-Ok.volume.store.layout c.in_ok-at.at.chunk c.in_ok-at.at.number row is.stripe in
    let few : length row.chunk.stripes ≤ 64 = (c.row_of_sector.ensures.table.sound n.0 row.chunk n.1).0.few in
    let room = c.in-Ok-new.ensures in
    record {
      elements = omega (arith, few, room.elements);
      slices = omega (arith, few, room.slices);
      p = room.p;
      q = room.q;
      block = room.block;
      spare = room.spare;
    }

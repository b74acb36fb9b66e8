use Rattle.btr_send.proofs.Encoding.{head_written, known_kept}
use Rattle.btr_send.proofs.buffer.write_head.Goals as goal

pub register_of-sum-requires : goal.register_of-sum-requires
register_of-sum-requires c = known_kept c.args.number c.args.len c.args.crc c.args.bytes.now c.write_at.new.bytes c.write_at-2.new.bytes
    c.to_le_bytes.result c.to_le_bytes-2.result c.requires.blank c.requires.long c.to_le_bytes.ensures c.to_le_bytes-2.ensures c.write_at.ensures
    c.write_at-2.ensures c.requires.known

pub returns : goal.returns
returns c = head_written c.args.number c.args.len c.register_of-sum.result c.args.bytes.now c.write_at.new.bytes c.write_at-2.new.bytes c.write_at-3.new.bytes
    c.to_le_bytes.result c.to_le_bytes-2.result c.to_le_bytes-3.result c.requires.blank c.requires.long
    c.to_le_bytes.ensures c.to_le_bytes-2.ensures c.to_le_bytes-3.ensures c.write_at.ensures c.write_at-2.ensures c.register_of-sum.ensures
    c.write_at-3.ensures

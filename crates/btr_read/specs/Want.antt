-- Which block is sought, and which bytes pass for it.
use Rattle.std.specs.Prelude.{ℕ, Bool, true, List, ◌==◌, ◌&&◌}
use Rattle.std.specs.Str.{bytes_eq}
use Rattle.btr_base.specs.Sum.{sum_of, is_summed}
use Rattle.btr_base.specs.Header.{header_of}
use Rattle.btr_base.specs.declared.stored.Sum.{Sum}
use Rattle.btr_base.specs.declared.header.Header.{Header}
use Rattle.btr_read.specs.declared.setting.Setting.{Setting}
use Rattle.btr_read.specs.declared.want.Want.{Want}
use Rattle.btr_read.specs.declared.want.Want.TheVariants.{Tree, Block, Sector, Plain}

-- the logical address of a want
abbrev pub addr_of : Want → ℕ
addr_of (Tree addr generation level) = addr
addr_of (Block addr) = addr
addr_of (Sector addr sum) = addr
addr_of (Plain addr) = addr

-- how many bytes it has: those of a node, or of a sector
abbrev pub len_of : Setting → Want → ℕ
len_of setting (Tree addr generation level) = setting.nodesize
len_of setting (Block addr) = setting.nodesize
len_of setting (Sector addr sum) = 4096
len_of setting (Plain addr) = 4096

-- bytes are the tree block of an address: the header has the address and the filesystem's id, and the checksum is right
abbrev pub is_block : Setting → ℕ → Header → List ℕ → Bool
is_block setting addr header bytes = (header.addr == addr) && bytes_eq header.fsid setting.fsid && is_summed setting.kind bytes

-- two checksums are equal
abbrev pub same_sum : Sum → Sum → Bool
same_sum a b = bytes_eq a.bytes b.bytes && (a.size == b.size)

-- a reading passes for a want
abbrev pub passes : Setting → Want → List ℕ → Bool
passes setting (Tree addr generation level) bytes =
    let header = header_of setting.kind bytes in
    (header.generation == generation) && (header.level == level) && is_block setting addr header bytes
passes setting (Block addr) bytes = is_block setting addr (header_of setting.kind bytes) bytes
passes setting (Sector addr sum) bytes = same_sum (sum_of setting.kind bytes) sum
passes setting (Plain addr) bytes = true

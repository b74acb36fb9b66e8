-- The kernels, by their names.
use Rattle.std.specs.Prelude.{ℕ, Bool, ◌&&◌, nat_le, nat_lt, List, codes, Option, Some, None, if◌then◌else◌}
use Rattle.std.specs.Str.{bytes_eq}
use Rattle.btr_bench.specs.declared.kernel.Kernel.{Kernel}
use Rattle.btr_bench.specs.declared.kernel.Kernel.TheVariants.{Crc, Xxh64, Sha256, P, Q, Rebuild, RebuildQ, Node}

-- the kernel of a name
abbrev pub kernel_of : List ℕ → Option Kernel
kernel_of name =
    if bytes_eq name (codes "crc") then Some Crc
    else if bytes_eq name (codes "xxh64") then Some Xxh64
    else if bytes_eq name (codes "sha256") then Some Sha256
    else if bytes_eq name (codes "p") then Some P
    else if bytes_eq name (codes "q") then Some Q
    else if bytes_eq name (codes "rebuild") then Some Rebuild
    else if bytes_eq name (codes "rebuild-q") then Some RebuildQ
    else if bytes_eq name (codes "node") then Some Node
    else None

-- whether a kernel can run over a piece of so many bytes
abbrev pub takes : Kernel → ℕ → Bool
takes Crc size = nat_lt 0 size
takes Xxh64 size = nat_lt 0 size
takes Sha256 size = nat_lt 0 size
takes P size = nat_le 8 size
takes Q size = nat_le 8 size
takes Rebuild size = nat_le 8 size
takes RebuildQ size = nat_le 8 size
takes Node size = nat_le 182 size && nat_le size 65536

-- how many hexadecimal digits a result has
abbrev pub digits_of : Kernel → ℕ
digits_of Crc = 8
digits_of _ = 16

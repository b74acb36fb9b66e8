-- Where a chunk's addresses lie, as far as its extents are judged by it.
use Rattle.std.specs.Prelude.{◌+◌, ◌-◌, ◌%◌, ◌&&◌, ◌||◌, Bool, is_some, nat_lt}
use Rattle.btr_chunk.specs.Chunk.{is_striped}
use Rattle.btr_chunk.specs.declared.chunk.Chunk.{Chunk}
use Rattle.btr_scrub.specs.declared.extent.Extent.{Extent}
use Rattle.btr_scrub.specs.declared.extent.Span.{Span}

-- where a chunk's addresses lie, and whether it is striped
abbrev pub span_of : Chunk → Span
span_of chunk = record { start = chunk.start; length = chunk.length; striped = is_striped chunk.profile }

-- an extent passes the end
abbrev pub passes_end : Span → Extent → Bool
passes_end span extent = nat_lt (span.start + span.length) (extent.addr + extent.len)

-- it passes the end, or is a tree block that crosses an element
abbrev pub crossing : Span → Extent → Bool
crossing span extent =
    passes_end span extent || is_some extent.level && (passes_end span extent || span.striped && nat_lt 65536 ((extent.addr - span.start) % 65536 + extent.len))

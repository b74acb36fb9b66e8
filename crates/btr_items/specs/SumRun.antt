-- EXTENT_CSUM: checksums of consecutive sectors.
use Rattle.std.specs.Prelude.{ℕ, ◌+◌, ◌*◌, ◌/◌, ◌%◌, ◌^◌, ◌==◌, ◌&&◌, nat_lt, List, length, Result}
use Rattle.btr_base.specs.Sum.{sum_size}
use Rattle.btr_base.specs.declared.key.Key.{Key}
use Rattle.btr_base.specs.declared.kind.SumKind.{SumKind}
use Rattle.btr_items.specs.Form.{fields_if}
use Rattle.btr_items.specs.Key.{key_fits}
use Rattle.btr_items.specs.Types.{extent_csum}
use Rattle.btr_items.specs.declared.fault.ItemFault.{ItemFault}
use Rattle.btr_items.specs.declared.sum_run.SumRun.{SumRun}

-- the run in an item: one or more whole sums, for sectors of 4096 bytes that end below 2^64
abbrev pub sum_run_of : SumKind → Key → List ℕ → Result SumRun ItemFault
sum_run_of kind key body =
    let count = length body / sum_size kind in
    fields_if ((key.kind == extent_csum) && key_fits key && nat_lt 0 (length body) && (length body % sum_size kind == 0)
    && nat_lt (key.offset + count * 4096) (2 ^ 64)) (record {
      start = key.offset;
      count = count;
    })

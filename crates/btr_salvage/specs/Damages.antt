-- Faults of blocks, as the code has them.
use Rattle.std.specs.Prelude.{Option, Some, None}
use Rattle.btr_read.specs.Fate as fate
use Rattle.btr_salvage.specs.declared.damage.Damage.{Damage}
use Rattle.btr_salvage.specs.declared.damage.Damage.TheVariants.{Lost, Unmapped, Crosses, Malformed}

-- the fault that a damage is
abbrev pub fault_by : Damage → fate.Fault
fault_by (Lost addr) = fate.Lost addr
fault_by (Unmapped addr) = fate.Unmapped addr
fault_by (Crosses addr) = fate.Crosses addr
fault_by (Malformed addr) = fate.Malformed addr

-- the fault that a damage is, if there is one
abbrev pub fault_in : Option Damage → Option fate.Fault
fault_in None = None
fault_in (Some damage) = Some (fault_by damage)

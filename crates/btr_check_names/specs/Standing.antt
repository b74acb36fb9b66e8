-- Names of subvolumes that don't stand everywhere, as they are looked up.
use Rattle.btr_findings.specs.Findings.{FoundSet, PutsRows}
use Rattle.std.specs.Prelude.{List, Result, OnOk}
use Rattle.btr_base.specs.declared.memory.Memory.{Memory}
use Rattle.btr_check_names.specs.declared.put_subvolumes.Standing.{Standing}
use Rattle.btr_check_names.specs.Subvolume.{NamedSubvolume}
use Rattle.btr_check_names.specs.Subvolumes.{Subvolumes, name_kept, HasNames}

-- by sets of all names, what is wrong with some names was put
abbrev pub PutsNames : Standing → List NamedSubvolume → FoundSet → FoundSet → Result (Unit {0}) Memory → Type 0
PutsNames standing list old new result =
    (names : Subvolumes) → HasNames names.refs standing.refs → HasNames names.backrefs standing.backrefs → HasNames names.entries standing.entries
    → OnOk result (PutsRows (name_kept names) list old new)

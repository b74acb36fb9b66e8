-- How the first refusal is answered.
use Rattle.std.specs.Prelude.{◌≡◌, Option, Some, None, Result, Ok, Err}
use Rattle.btr_volume.specs.declared.fault.OpenFault.{OpenFault}

-- the answer is a refusal, or there is none
abbrev pub IsRefusal : Option OpenFault → Result Unit OpenFault → Type 0
IsRefusal found (Ok u) = found ≡ None
IsRefusal found (Err refusal) = found ≡ Some refusal

-- All that is wrong with a filesystem.
use Rattle.std.specs.Prelude.{Bool, true, false, List, [], ◌∷◌, ◌++◌}
use Rattle.btr_findings.specs.declared.finding.Finding.{Finding}
use Rattle.btr_findings.specs.Findings.{in_order}
use Rattle.btr_check.specs.Data.{data_findings}
use Rattle.btr_check.specs.Families.{found_on_extents, found_on_devices, found_on_files}
use Rattle.btr_check.specs.Filesystem.{Filesystem}
use Rattle.btr_check.specs.Walks.{walk_findings}

-- what is lost of the data, where data is read
abbrev pub data_if : Bool → Filesystem → List Finding
data_if true fs = data_findings fs
data_if false fs = []

-- what is wrong with what the trees say
abbrev pub rule_findings : Bool → Filesystem → List Finding
rule_findings read_data fs = found_on_extents fs ++ found_on_devices fs ++ (data_if read_data fs ++ found_on_files fs)

-- where something is wrong with the trees themselves, that is all
abbrev pub or_rules : List Finding → List Finding → List Finding
or_rules [] rules = rules
or_rules (finding ∷ findings) rules = finding ∷ findings

-- all that is wrong with a filesystem: its trees first, and what the rules find where the trees are sound
abbrev pub all_findings : Bool → Filesystem → List Finding
all_findings read_data fs = or_rules (walk_findings fs) (rule_findings read_data fs)

-- the findings, each once, in ascending order; with those on data where data is read
unfoldable pub findings : Bool → Filesystem → List Finding
findings read_data fs = in_order (all_findings read_data fs)

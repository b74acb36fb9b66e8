-- The options of `restore`, of which `send` takes the id of a subvolume alone.
use Rattle.std.specs.Prelude.{◌≡◌, ℕ, Bool, true, false, ◌==◌, nat_le, ◌&&◌, ◌||◌, if◌then◌else◌, List, [], ◌∷◌, fold, flat_map, codes, Option, Some, None}
use Rattle.std.specs.Fmt.{decimal}
use Rattle.btr_files.specs.declared.plan.RestorePlan.{RestorePlan}
use Rattle.btr_send.specs.declared.plan.SendPlan.{SendPlan}
use Rattle.btr_run.specs.declared.options.Options.{Options}

-- the id of a tree that may be restored: the top one, or a subvolume
abbrev pub is_subvolume : ℕ → Bool
is_subvolume id = (id == 5) || (nat_le 256 id && nat_le id 18446744073709551360)

-- no option
abbrev pub no_options : Options
no_options = record { root = None; snapshots = false; verbose = false; dry = false; salvage = false }

-- all but an id: none of these may stand there any more
abbrev pub id_alone : Options
id_alone = record { root = None; snapshots = true; verbose = true; dry = true; salvage = true }

-- the options with an id, if it is that of a tree that may be restored
abbrev pub with_root : ℕ → Options → Option Options
with_root id given = if is_subvolume id then Some (record given { root = Some id }) else None

-- the options with snapshots, if they had none
abbrev pub with_snapshots : Options → Option Options
with_snapshots given = if given.snapshots then None else Some (record given { snapshots = true })

-- the options with verbose lines, if they had none
abbrev pub with_verbose : Options → Option Options
with_verbose given = if given.verbose then None else Some (record given { verbose = true })

-- the options with a dry run, if they have none and don't go on behind faults
abbrev pub with_dry : Options → Option Options
with_dry given = if given.dry || given.salvage then None else Some (record given { dry = true })

-- the options that go on behind faults, if they don't yet and have no dry run
abbrev pub with_salvage : Options → Option Options
with_salvage given = if given.dry || given.salvage then None else Some (record given { salvage = true })

-- the tree of an id, or the top one where there is no id
abbrev pub root_or_top : Option ℕ → ℕ
root_or_top None = 5
root_or_top (Some id) = id

-- what they ask for: without an id the top tree
abbrev pub plan_by : Options → RestorePlan
plan_by given = record { root = root_or_top given.root; snapshots = given.snapshots; verbose = given.verbose; dry = given.dry }

-- what they ask a send for
abbrev pub send_by : Options → SendPlan
send_by given = record { root = root_or_top given.root }

-- an option
pub data OneOption : Type 0 where
  Root : ℕ → OneOption
  Snapshots : OneOption
  Verbose : OneOption
  Dry : OneOption
  Salvage : OneOption

-- its words
abbrev pub option_words : OneOption → List (List ℕ)
option_words (Root id) = codes "-r" ∷ decimal id ∷ []
option_words Snapshots = codes "-s" ∷ []
option_words Verbose = codes "-v" ∷ []
option_words Dry = codes "-D" ∷ []
option_words Salvage = codes "-i" ∷ []

-- an option may stand behind some: it isn't among them, an id is that of a tree that may be restored, and a dry run and
-- one that goes on behind faults exclude each other
abbrev pub IsFree : Options → OneOption → Type 0
IsFree given (Root id) = (given.root ≡ None) × (is_subvolume id ≡ true)
IsFree given Snapshots = given.snapshots ≡ false
IsFree given Verbose = given.verbose ≡ false
IsFree given Dry = (given.dry ≡ false) × (given.salvage ≡ false)
IsFree given Salvage = (given.dry ≡ false) × (given.salvage ≡ false)

-- the options with one more
abbrev pub with_option : Options → OneOption → Options
with_option given (Root id) = record given { root = Some id }
with_option given Snapshots = record given { snapshots = true }
with_option given Verbose = record given { verbose = true }
with_option given Dry = record given { dry = true }
with_option given Salvage = record given { salvage = true }

-- these options may stand one behind another
abbrev pub AreFree : Options → List OneOption → Type 0
AreFree given [] = Unit {0}
AreFree given (option ∷ options) = IsFree given option × AreFree (with_option given option) options

-- the options with some more
abbrev pub with_options : Options → List OneOption → Options
with_options given options = fold with_option given options

-- the words of some options
abbrev pub options_words : List OneOption → List (List ℕ)
options_words options = flat_map option_words options

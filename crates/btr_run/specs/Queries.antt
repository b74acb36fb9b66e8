-- The queries: one case each.
pub mod Resolved
pub mod Restored
pub mod Salvaged
pub mod Sent
pub mod Trees
use Rattle.std.specs.Prelude.{◌≡◌, ◌<◌, false, [], get_or, length}
use Rattle.btr_send.specs.Names.{IsStreamName}
use Rattle.btr_run.specs.Queries.Resolved.{resolve_row}
use Rattle.btr_run.specs.Queries.Restored.{restore_row}
use Rattle.btr_run.specs.Rows.{Row}
use Rattle.btr_run.specs.Queries.Salvaged.{salvage_row}
use Rattle.btr_run.specs.Queries.Sent.{send_row}
use Rattle.btr_run.specs.Queries.Trees.{dump_row}
use Rattle.btr_run.specs.Words.{Words}
use Rattle.btr_run.specs.declared.query.Query.{Query}
use Rattle.btr_run.specs.declared.query.Query.TheVariants.{Dump, Resolve, Restore, Salvage, Send}

-- the row of a query of some words
abbrev pub query_row : Query → Words → Row
query_row (Dump choice) words = dump_row choice
query_row (Resolve addr) words = resolve_row addr
query_row (Restore dest plan) words = restore_row plan (get_or words dest [])
query_row (Salvage dest plan) words = salvage_row plan (get_or words dest [])
query_row (Send dest file plan) words = send_row plan (get_or words dest []) (get_or words file [])

-- what a query asks for of its words: those that it cites are there, and the one that names a file
-- is such a name; and one that goes on after faults isn't dry
abbrev pub IsQueryFit : Query → Words → Type 0
IsQueryFit (Dump choice) words = Unit {0}
IsQueryFit (Resolve addr) words = Unit {0}
IsQueryFit (Restore dest plan) words = dest < length words
IsQueryFit (Salvage dest plan) words = (dest < length words) × (plan.dry ≡ false)
IsQueryFit (Send dest file plan) words =
    (dest < length words) × (file < length words) × IsStreamName (get_or words file [])

-- The command `inspect-internal logical-resolve`.
use Rattle.std.specs.Prelude.{◌≡◌, ◌⊎◌, ℕ, List, map}
use Rattle.btr_listing.specs.Step.{Step, Line}
use Rattle.btr_prog.specs.Prog.{Run, exec}
use Rattle.btr_read.specs.Fate.{Fault, fate}
use Rattle.btr_read.specs.declared.want.Want.{Want}
use Rattle.btr_resolve.specs.Resolving.{resolved}
use Rattle.btr_volume.specs.Start.{Images}
use Rattle.btr_walk.specs.declared.fault.TreeFault.{TreeFault}
use Rattle.btr_run.specs.Faults.{tree_answer}
use Rattle.btr_run.specs.Filesystem.{Filesystem}
use Rattle.btr_run.specs.Listed.{ListsUpTo, lined, listed_by}
use Rattle.btr_run.specs.Outcomes.{Outcome}
use Rattle.btr_run.specs.Rows.{Row}
use Rattle.btr_run.specs.declared.answer.Answer.TheVariants.{Done}

-- no owner is left out
abbrev pub none_left_out : ℕ → ℕ
none_left_out owners = 0

-- the owners of an address in a filesystem, line by line
abbrev pub owners_run : ℕ → Images → Filesystem → Run Want Fault Step ℕ
owners_run addr images fs =
    lined (exec (fate images fs.layout) (resolved fs.sup fs.layout.chunks addr))

-- what resolving an address may come to, whatever its blocks are: lines, and
-- then its end, or a tree that can't be read on
pub record IsResolved (outcome : Outcome) : Type 0 where
  pub lines : List (List ℕ)
  pub are : outcome.steps ≡ map (λ line. Line line) lines
  pub ends : (outcome.answer ≡ Done 0)
      ⊎ ((fault : TreeFault) × (outcome.answer ≡ tree_answer fault))

-- the row of resolving an address: the owners, whole or up to a block that could not be read
abbrev pub resolve_row : ℕ → Row
resolve_row addr = record {
  whole = λ images fs. listed_by none_left_out (owners_run addr images fs);
  IsUpTo = λ images fs. ListsUpTo (owners_run addr images fs);
  MayBe = IsResolved;
  MayWant = λ out. Unit {0};
  CallsSink = ⊥;
}

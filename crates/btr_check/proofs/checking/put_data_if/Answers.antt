use Rattle.std.proofs.Common.{◌≡◌, inr, [], Ok, sym, ap, ◌∙◌}
use Rattle.btr_files.specs.Sums.{tree_behind}
use Rattle.btr_findings.proofs.Adding.{adds_none, adds_as}
use Rattle.btr_findings.specs.Findings.{Adds}
use Rattle.btr_check.specs.Counting.{Unless}
use Rattle.btr_check.specs.Data.{data_findings, sum_runs}
use Rattle.btr_check.specs.Families.{IsRunsOf}
use Rattle.btr_check.specs.Findings.{data_if}
use Rattle.btr_check.specs.Passes.{Lists, AddsFindings}
use Rattle.btr_check.specs.Running.{world, filesystem}
use Rattle.btr_check.specs.Trees.{last_of, tree_of}
use Rattle.btr_check.proofs.Passes.{unless_more}
use Rattle.btr_check.proofs.Runs.{ran_none, ran_within}
use Rattle.btr_check.proofs.Wholes.{behind_copied}
use Rattle.btr_check.proofs.checking.put_data_if.Goals as goal

pub returns-then-read_data : goal.returns-then-read_data
returns-then-read_data g c =
    let x = world (g.R.Rack.seen c.args.rack.now) c.args.vol.now in
    let y = world (g.R.Rack.seen c.put_data_findings.new.rack) c.put_data_findings.new.vol in
    let a = c.args.found.now in
    let b = c.put_data_findings.new.found in
    record {
      ran = ran_within (λ fs. c.as_slice.result.now ≡ sum_runs fs → tree_behind c.as_ref.result ≡ tree_of fs.sup fs.blocks 7
          → Unless (λ u. Adds (data_findings fs) a b) c.put_data_findings.result)
          (AddsFindings (λ fs. Lists c.args.listed.now fs × IsRunsOf fs c.args.runs.now)
          (data_if c.args.read_data) a b c.put_data_findings.result) x y c.put_data_findings.result c.put_data_findings.ensures.ran
          (λ B h known. unless_more (λ u. Adds (data_findings (filesystem c.args.vol.now B)) a b)
          (λ u. Adds (data_if c.args.read_data (filesystem c.args.vol.now B)) a b) c.put_data_findings.result
          (λ u adds. adds_as (data_findings (filesystem c.args.vol.now B)) (data_if c.args.read_data (filesystem c.args.vol.now B)) a b
          (ap (λ r. data_if r (filesystem c.args.vol.now B)) (sym c.if-read_data.true)) adds)
          (h (c.as_slice.ensures ∙ known.1) (behind_copied c.as_ref.result ∙ c.as_ref.ensures.value ∙ c.last_of-tree.ensures ∙ ap (last_of 7) known.0)))
          (λ B want w known. inr (
            c.if-read_data.true,
            w (c.as_slice.ensures ∙ known.1, behind_copied c.as_ref.result ∙ c.as_ref.ensures.value ∙ c.last_of-tree.ensures ∙ ap (last_of 7) known.0),
          ));
    }

pub returns-else-read_data : goal.returns-else-read_data
returns-else-read_data g c =
    let a = c.args.found.now in
    record {
      ran = ran_none (AddsFindings (λ fs. Lists c.args.listed.now fs × IsRunsOf fs c.args.runs.now) (data_if c.args.read_data) a a (Ok tt))
          (world (g.R.Rack.seen c.args.rack.now) c.args.vol.now) tt c.requires.ready
          (λ B known. adds_as [] (data_if c.args.read_data (filesystem c.args.vol.now B)) a a
          (ap (λ r. data_if r (filesystem c.args.vol.now B)) (sym c.if-read_data.false)) (adds_none a));
    }

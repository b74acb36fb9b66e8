use Rattle.btr_prog.proofs.Runs.{needs-bind, needs-stop}
use Rattle.btr_prog.proofs.running.needs_bind.Goals as goal

pub returns : goal.returns
returns g c = record { value = needs-bind; fault = needs-stop }

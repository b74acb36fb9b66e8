use Rattle.std.proofs.Common.{refl}
use Rattle.btr_send.proofs.laws.is_of_commands.Goals as goal

pub returns : goal.returns
returns c = record {
  subvol = λ name uuid transid. refl;
  mkfile = λ path. refl;
  mkdir = λ path. refl;
  write = λ path offset bytes. refl;
  truncate = λ path size. refl;
  end = refl;
}

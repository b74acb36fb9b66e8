-- Lists of findings that are added to a set.
use Rattle.std.proofs.Common.{ℕ, ◌+◌, ◌<◌, List, [], ◌∷◌, ◌++◌, length, take, get_or, sym}
use Rattle.std.proofs.lemmas.List.{take_more}
use Rattle.btr_findings.proofs.Adding.{adds_as, adds_then}
use Rattle.btr_findings.specs.declared.finding.Finding.{Finding}
use Rattle.btr_findings.specs.Findings.{Adds, FoundSet}

-- the first of some findings, one more
pub added_more : (list : List Finding) (i : ℕ) (d : Finding) (a b c : FoundSet) → i < length list → Adds (take i list) a b → Adds (get_or list i d ∷ []) b c
    → Adds (take (i + 1) list) a c
added_more list i d a b c below before here = adds_as (take i list ++ get_or list i d ∷ []) (take (i + 1) list) a c (sym (take_more list i d below))
    (adds_then (take i list) (get_or list i d ∷ []) a b c before here)

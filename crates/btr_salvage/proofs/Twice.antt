-- A file that could be read once can be written.
use Rattle.std.proofs.Common.{◌≡◌, ℕ, Bool, true, false, cond, List, IsOk, Result, Ok, Err, refl, sym, ap, ◌∙◌}
use Rattle.btr_prog.specs.Outcomes.{RunOutcome}
use Rattle.btr_prog.specs.Prog.{Return, Stop, Need, Emit, Run, given, exec, and_then}
use Rattle.btr_prog.specs.Trying.{Trying, Done, gathered, tried}
use Rattle.btr_prog.proofs.Tries.{tried-gathered, tried-then}
use Rattle.btr_read.specs.Fate.{Fault}
use Rattle.btr_read.specs.declared.want.Want.{Want}
use Rattle.btr_walk.specs.Reading.{Map}
use Rattle.btr_volume.specs.Lookup.{Program, each}
use Rattle.btr_files.specs.Content.{Piece, Gap, content}
use Rattle.btr_files.specs.Content as piece
use Rattle.btr_files.specs.Sums.{kind_in}
use Rattle.btr_listing.specs.Step.{Step}
use Rattle.btr_restore.specs.Journey.{has_no_sums, put}
use Rattle.btr_prog.specs.Attempts.{ending_of}
use Rattle.btr_salvage.specs.Laws.{ReadTwice}

module _ (B : Map) where
  -- how a program ends, tried
  ending_is : (p : Program Piece (Unit {0})) → (tried {S = Step} B (ending_of p)).ending ≡ Ok (exec B p).ending
  ending_is p =
      let handed : RunOutcome Fault Piece (Unit {0}) → Trying Want Fault Step (Result (Unit {0}) Fault) = λ o. Done o.ending in
      ap (λ (r : Run Want Fault Step (Result (Unit {0}) Fault)). r.ending)
      (tried-then B (gathered p) handed ∙ ap (λ r. and_then r (λ o. tried B (handed o))) (tried-gathered B p))

  -- behind a want pieces that come to their end are put to theirs, if so for all bytes of the want
  given_ends : (x : Result (List ℕ) Fault) (k : List ℕ → Program Piece (Unit {0})) (st : Bool)
      → ((bytes : List ℕ) → (exec B (k bytes)).ending ≡ Ok tt → IsOk (exec B (each put st (k bytes))).ending)
      → (given x (λ bytes. exec B (k bytes))).ending ≡ Ok tt → IsOk (given x (λ bytes. exec B (each put st (k bytes)))).ending
  given_ends (Ok bytes) k st ih e = ih bytes e
  given_ends (Err f) k st ih e = cc

  -- where the pieces come to their end, so does putting them
  each_ends : (p : Program Piece (Unit {0})) (st : Bool) → (exec B p).ending ≡ Ok tt → IsOk (exec B (each put st p)).ending
  each_ends (Return u) st e = refl
  each_ends (Stop f) st e = cc
  each_ends (Need w k) st e = given_ends (B w) k st (λ bytes h. each_ends (k bytes) st h) e
  each_ends (Emit (piece.Bytes bytes summed) p) st e = each_ends p _ e
  each_ends (Emit (Gap count) p) st e = each_ends p _ e

-- an ending that is handed on as a value
abbrev handed_on : {A F : Type 0} → Result A F → Result (Result A F) F
handed_on x = Ok x

-- endings that are handed on alike are the same
same_value : {A F : Type 0} (x y : Result A F) → handed_on x ≡ handed_on y → x ≡ y
same_value x y e = cc

-- pieces that can be put to their end come to it in a dry run too, which puts none
unless_dry : (B : Map) (dry : Bool) (p : Program Step Bool) → IsOk (exec B p).ending → IsOk (exec B (cond dry (Return false) p)).ending
unless_dry B true p h = refl
unless_dry B false p h = h

-- a file whose bytes could all be had when they were read first is written to its end
pub read_twice : ReadTwice
read_twice plan s sums B tree ino inode e =
    let p = content (kind_in s) sums (has_no_sums inode) inode.size tree ino in
    unless_dry B plan.dry (each put false p) (each_ends B p false (same_value (exec B p).ending (Ok tt) (sym (ending_is B p) ∙ e)))

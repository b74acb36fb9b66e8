use Rattle.std.proofs.Common.{◌≡◌, ℕ, ◌<◌, ◌≤◌, ◌||◌, false, get_or, length}
use Rattle.btr_scrub_row.proofs.Common.{meets_piece}
use Rattle.btr_scrub_row.proofs.judged.marked.Given as goal

abbrev pub invariant-loop-column : goal.invariant-loop-column
invariant-loop-column l = record {
  long : length l.flags ≡ 16;
  done : (k : ℕ) → k < l.column → get_or l.flags k false ≡ (get_or l.initial.flags k false || meets_piece k l.piece);
  rest : (k : ℕ) → l.column ≤ k → get_or l.flags k false ≡ get_or l.initial.flags k false;
}

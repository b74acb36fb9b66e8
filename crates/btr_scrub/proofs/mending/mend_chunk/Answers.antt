use Rattle.std.proofs.Common.{◌≡◌, true, false, is_none, sym, ◌∙◌, rules}
use Rattle.btr_scrub.proofs.Common.{chunk_count_for, chunk_writes_for, mirrors, rows_in}
use Rattle.btr_scrub.proofs.mending.mend_chunk.Goals as goal

pub returns-then-has_parity-clause-scrubs : goal.returns-then-has_parity-clause-scrubs
returns-then-has_parity-clause-scrubs g c chunk there =
    let yes : is_none (mirrors chunk) ≡ true = sym (rw there at c.has_parity.ensures) ∙ search rules in
    rw (yes, chunk_writes_for, chunk_count_for) (rw (yes, rows_in) at (c.mend_rows.ensures.scrubs chunk there))

pub returns-else-has_parity-clause-scrubs : goal.returns-else-has_parity-clause-scrubs
returns-else-has_parity-clause-scrubs g c chunk there =
    let no : is_none (mirrors chunk) ≡ false = sym (rw there at c.has_parity.ensures) ∙ search rules in
    rw (no, chunk_writes_for, chunk_count_for) (c.mend_blocks.ensures.scrubs chunk there)

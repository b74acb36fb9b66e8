use Rattle.std.proofs.Common.{◌≤◌, take}
use Rattle.btr_scrub_row.proofs.Common.{AreJudged, HoldsRow, Images, Row}
use Rattle.btr_scrub_row.specs.Memory.{IsWantedRow}
use Rattle.btr_scrub_row.proofs.judged.judge.Given as goal

abbrev pub invariant-loop-want : goal.invariant-loop-want
invariant-loop-want l = record {
  blocks : l.judged.blocks ≤ l.want-index;
  bad : l.judged.bad ≤ l.want-index;
  rebuilt : l.judged.rebuilt ≤ l.want-index;
  lost : l.judged.lost ≤ l.want-index;
  judged : (images : Images) (row : Row) → IsWantedRow l.view.store.now.layout l.view.wanted row → HoldsRow images l.view.store.now.layout row l.view.old.now
      → AreJudged images l.view.store.now.layout row (take l.want-index row.blocks) l.new l.judged;
}

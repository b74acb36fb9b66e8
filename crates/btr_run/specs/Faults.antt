-- The answers of the faults of trees, of opening a filesystem, and of commands over one.
use Rattle.btr_walk.specs.declared.fault.TreeFault.{TreeFault}
use Rattle.btr_walk.specs.declared.fault.TreeFault.TheVariants as tree
use Rattle.btr_volume.specs.declared.fault.OpenFault.{OpenFault}
use Rattle.btr_volume.specs.declared.fault.OpenFault.TheVariants as opening
use Rattle.btr_volume.specs.declared.stop.Stop.{Stop}
use Rattle.btr_volume.specs.declared.stop.Stop.TheVariants as stop
use Rattle.btr_run.specs.declared.answer.Answer.{Answer}
use Rattle.btr_run.specs.declared.answer.Answer.TheVariants.{Lost, Malformed, Unmapped, Crosses, NoSuper, SumKind, Foreign, Twin, Diverged, Unsupported}
use Rattle.btr_run.specs.declared.answer.Answer.TheVariants.{Geometry, LogPending, BadArray, BadChunk, Limit, NoTree, DeletionPending, BalancePending}
use Rattle.btr_run.specs.declared.answer.Answer.TheVariants.{MissingDevice, Unread, ImageFault, SinkFault, OutFault, Memory}

-- the answer of a fault of a tree
abbrev pub tree_answer : TreeFault → Answer
tree_answer (tree.Lost addr) = Lost addr
tree_answer (tree.Unread addr slot) = Unread addr slot
tree_answer (tree.Unmapped addr) = Unmapped addr
tree_answer (tree.Crosses addr) = Crosses addr
tree_answer (tree.Malformed addr) = Malformed addr

-- the answer of a fault of opening a filesystem
abbrev pub open_answer : OpenFault → Answer
open_answer (opening.ImageFault slot) = ImageFault slot
open_answer (opening.NoSuper slot) = NoSuper slot
open_answer (opening.SumKind kind) = SumKind kind
open_answer (opening.Foreign slot) = Foreign slot
open_answer (opening.Twin slot) = Twin slot
open_answer (opening.Diverged slot) = Diverged slot
open_answer (opening.Unsupported bits) = Unsupported bits
open_answer opening.Geometry = Geometry
open_answer opening.LogPending = LogPending
open_answer opening.BadArray = BadArray
open_answer (opening.BadChunk start) = BadChunk start
open_answer (opening.Limit which count) = Limit which count
open_answer (opening.Tree fault) = tree_answer fault
open_answer opening.Memory = Memory

-- the answer of a stop of a command over a filesystem
abbrev pub stop_answer : Stop → Answer
stop_answer (stop.NoTree id) = NoTree id
stop_answer (stop.Tree fault) = tree_answer fault
stop_answer (stop.Deletion id) = DeletionPending id
stop_answer stop.Balance = BalancePending
stop_answer (stop.Missing devid) = MissingDevice devid
stop_answer (stop.Image slot) = ImageFault slot
stop_answer stop.Sink = SinkFault
stop_answer stop.Out = OutFault
stop_answer stop.Memory = Memory

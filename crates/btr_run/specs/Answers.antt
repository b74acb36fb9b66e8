-- The answers: their exit statuses and their lines.
use Rattle.std.specs.Prelude.{ℕ, ◌==◌, if◌then◌else◌, List, [], ◌++◌, codes, Result, Ok, Err}
use Rattle.std.specs.Fmt.{decimal}
use Rattle.btr_rack.specs.declared.error.SinkError.{SinkError}
use Rattle.btr_rack.specs.declared.error.SinkError.TheVariants.{Failed, Memory as memory_fault}
use Rattle.btr_text.specs.Pieces.{hex_text}
use Rattle.btr_volume.specs.declared.which.Which.{Which}
use Rattle.btr_volume.specs.declared.which.Which.TheVariants.{Images, Stripes, Chunks}
use Rattle.btr_run.specs.declared.answer.Answer.{Answer}
use Rattle.btr_run.specs.declared.answer.Answer.TheVariants.{Done, Found, Lost, Malformed, Unmapped, Crosses, Usage, NoSuper, SumKind, Foreign, Twin, Diverged}
use Rattle.btr_run.specs.declared.answer.Answer.TheVariants.{Unsupported, Geometry, LogPending, BadArray, BadChunk, Limit, NoTree, DeletionPending}
use Rattle.btr_run.specs.declared.answer.Answer.TheVariants.{BalancePending, MissingDevice, Unread, ImageFault, SinkFault, OutFault, Memory}

-- the exit status
abbrev pub code_of : Answer → ℕ
code_of (Done skipped) = if skipped == 0 then 0 else 1
code_of (Found n) = 1
code_of (Lost addr) = 1
code_of (Malformed addr) = 1
code_of (Unmapped addr) = 1
code_of (Crosses addr) = 1
code_of (Usage at) = 2
code_of (NoSuper slot) = 3
code_of (SumKind kind) = 3
code_of (Foreign slot) = 3
code_of (Twin slot) = 3
code_of (Diverged slot) = 3
code_of (Unsupported bits) = 3
code_of Geometry = 3
code_of LogPending = 3
code_of BadArray = 3
code_of (BadChunk start) = 3
code_of (Limit which n) = 3
code_of (NoTree id) = 3
code_of (DeletionPending id) = 3
code_of BalancePending = 3
code_of (MissingDevice devid) = 3
code_of (Unread addr slot) = 4
code_of (ImageFault slot) = 4
code_of SinkFault = 4
code_of OutFault = 4
code_of Memory = 5

-- what there is too much of
abbrev pub which_text : Which → List ℕ
which_text Images = codes "images"
which_text Stripes = codes "stripes"
which_text Chunks = codes "chunks"

-- the line that is put last; none where the command was done or the output failed
abbrev pub error_line : Answer → List ℕ
error_line (Done skipped) = []
error_line (Found n) = []
error_line (Lost addr) = codes "error: lost block " ++ decimal addr ++ codes "\n"
error_line (Malformed addr) = codes "error: malformed block " ++ decimal addr ++ codes "\n"
error_line (Unmapped addr) = codes "error: unmapped address " ++ decimal addr ++ codes "\n"
error_line (Crosses addr) = codes "error: block " ++ decimal addr ++ codes " crosses a stripe element\n"
error_line (Usage at) = codes "error: usage error at word " ++ decimal at ++ codes "\n"
error_line (NoSuper slot) = codes "error: image " ++ decimal slot ++ codes " has no valid superblock\n"
error_line (SumKind kind) = codes "error: checksum type " ++ decimal kind ++ codes " is not supported\n"
error_line (Foreign slot) = codes "error: image " ++ decimal slot ++ codes " belongs to another filesystem\n"
error_line (Twin slot) = codes "error: image " ++ decimal slot ++ codes " repeats a device\n"
error_line (Diverged slot) = codes "error: image " ++ decimal slot ++ codes " has diverged\n"
error_line (Unsupported bits) = codes "error: unsupported features " ++ hex_text bits ++ codes "\n"
error_line Geometry = codes "error: unsupported geometry\n"
error_line LogPending = codes "error: a log tree is pending\n"
error_line BadArray = codes "error: the system chunk array is damaged\n"
error_line (BadChunk start) = codes "error: bad chunk " ++ decimal start ++ codes "\n"
error_line (Limit which n) = codes "error: too many " ++ which_text which ++ codes ": " ++ decimal n ++ codes "\n"
error_line (NoTree id) = codes "error: no tree " ++ decimal id ++ codes "\n"
error_line (DeletionPending id) = codes "error: tree " ++ decimal id ++ codes " is being deleted\n"
error_line BalancePending = codes "error: a balance is pending\n"
error_line (MissingDevice devid) = codes "error: device " ++ decimal devid ++ codes " is not given\n"
error_line (Unread addr slot) = codes "error: unread block " ++ decimal addr ++ codes " on image " ++ decimal slot ++ codes "\n"
error_line (ImageFault slot) = codes "error: image " ++ decimal slot ++ codes " failed\n"
error_line SinkFault = codes "error: the destination failed\n"
error_line OutFault = []
error_line Memory = codes "error: no memory\n"

-- the answer where the output refused a text
abbrev pub output_answer : SinkError → Answer
output_answer Failed = OutFault
output_answer memory_fault = Memory

-- the answer of what was done, or of what stopped it
abbrev pub answer_of : Result Answer Answer → Answer
answer_of (Ok answer) = answer
answer_of (Err answer) = answer

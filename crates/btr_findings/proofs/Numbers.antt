-- Kinds, by their numbers.
use Rattle.std.proofs.Common.{◌≡◌, ℕ, ◌-◌, List, [], ◌∷◌, get_or, refl, sym, ap, ◌∙◌}
use Rattle.btr_findings.specs.declared.kind.Kind.{Kind}
use Rattle.btr_findings.specs.declared.kind.Kind.TheVariants.{Lost, Malformed, Unmapped, Crosses, OutsideGroup, Overlap, RefCount, RefTotal}
use Rattle.btr_findings.specs.declared.kind.Kind.TheVariants.{ExtentKind, ExtentLength, ExtentLevel, SumMissing, SumOverlap, SumStray, EntryItem, EntryIndex}
use Rattle.btr_findings.specs.declared.kind.Kind.TheVariants.{EntryRef, RefEntry, EntryMode, LinkCount, DirSize, Orphan, RootRef, ChunkGroup}
use Rattle.btr_findings.specs.declared.kind.Kind.TheVariants.{GroupChunk, ChunkDevice, DeviceChunk, GroupUsed, DeviceUsed, TotalUsed, DataLost}
use Rattle.btr_findings.specs.Findings.{number_of}

-- all kinds, in their order
abbrev kinds : List Kind
kinds =
    Lost ∷ Malformed ∷ Unmapped ∷ Crosses ∷ OutsideGroup ∷ Overlap ∷ RefCount ∷ RefTotal ∷ ExtentKind ∷ ExtentLength ∷ ExtentLevel ∷ SumMissing ∷
    SumOverlap ∷ SumStray ∷ EntryItem ∷ EntryIndex ∷ EntryRef ∷ RefEntry ∷ EntryMode ∷ LinkCount ∷ DirSize ∷ Orphan ∷
    RootRef ∷ ChunkGroup ∷ GroupChunk ∷ ChunkDevice ∷ DeviceChunk ∷ GroupUsed ∷ DeviceUsed ∷ TotalUsed ∷ DataLost ∷ []

-- the kind of a number
abbrev kind_at : ℕ → Kind
kind_at number = get_or kinds (number - 1) Lost

-- a kind is the one that its number stands for
kind_is : (kind : Kind) → kind_at (number_of kind) ≡ kind
kind_is Lost = refl
kind_is Malformed = refl
kind_is Unmapped = refl
kind_is Crosses = refl
kind_is OutsideGroup = refl
kind_is Overlap = refl
kind_is RefCount = refl
kind_is RefTotal = refl
kind_is ExtentKind = refl
kind_is ExtentLength = refl
kind_is ExtentLevel = refl
kind_is SumMissing = refl
kind_is SumOverlap = refl
kind_is SumStray = refl
kind_is EntryItem = refl
kind_is EntryIndex = refl
kind_is EntryRef = refl
kind_is RefEntry = refl
kind_is EntryMode = refl
kind_is LinkCount = refl
kind_is DirSize = refl
kind_is Orphan = refl
kind_is RootRef = refl
kind_is ChunkGroup = refl
kind_is GroupChunk = refl
kind_is ChunkDevice = refl
kind_is DeviceChunk = refl
kind_is GroupUsed = refl
kind_is DeviceUsed = refl
kind_is TotalUsed = refl
kind_is DataLost = refl

-- kinds of one number are one
pub same_kind : (a b : Kind) → number_of a ≡ number_of b → a ≡ b
same_kind a b same = sym (kind_is a) ∙ ap kind_at same ∙ kind_is b

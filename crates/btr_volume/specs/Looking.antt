-- What a lookup in a volume answers, and what it leaves.
use Rattle.std.specs.Prelude.{◌≡◌, [], Result, Ok, Err}
use Rattle.btr_prog.specs.Prog.{Return, Stop, exec}
use Rattle.btr_prog.specs.Answers.{Follows, no_part}
use Rattle.btr_rack.specs.Rack.{Seen}
use Rattle.btr_read.specs.Fate as fate
use Rattle.btr_read.specs.Layout.{Layout}
use Rattle.btr_read.specs.Store.{SameLoans}
use Rattle.btr_walk.specs.Reading.{Tells, unread_by, answer_of}
use Rattle.btr_walk.specs.declared.fault.TreeFault.{TreeFault}
use Rattle.btr_walk.specs.declared.fault.TreeFault.TheVariants.{Lost, Unread, Unmapped, Crosses, Malformed}
use Rattle.btr_volume.specs.Lookup.{Lookup}
use Rattle.btr_volume.specs.declared.volume.Volume.{Volume}

-- so far as its calls were steady, what was answered follows a lookup
abbrev pub Looks : {A : Type 0} → Layout → Seen → Seen → Lookup A → Result A TreeFault → Type 0
Looks layout old new lookup result = Tells layout old new (λ B. Follows {S = ⊥} (unread_by layout old new) no_part [] (exec B lookup) [] (answer_of result))

-- what an item that was found comes to: a value, or its leaf is malformed; nothing more is read
abbrev pub Judges : {A : Type 0} → Lookup A → Result A TreeFault → Type 0
Judges lookup (Ok a) = lookup ≡ Return a
Judges lookup (Err (Malformed a)) = lookup ≡ Stop (fate.Malformed a)
Judges lookup (Err (Lost a)) = ⊥
Judges lookup (Err (Unread a slot)) = ⊥
Judges lookup (Err (Unmapped a)) = ⊥
Judges lookup (Err (Crosses a)) = ⊥

-- a volume after calls that only read: its superblock, layout and loans are as before
pub record SameVolume (old new : Volume) : Type 0 where
  pub sup : new.sup ≡ old.sup
  pub store : SameLoans old.store new.store

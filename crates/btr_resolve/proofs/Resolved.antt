-- The whole answer: an address that no chunk holds, and the subvolumes in a row.
use Rattle.std.proofs.Common.{◌≡◌, ℕ, true, false, List, [], Option, Some, None, Result, Ok, Err, Bor, refl, sym, ap, subst}
use Rattle.std.specs.Option.{is_some, option_copied}
use Rattle.btr_chunk.specs.Table.{chunk_at}
use Rattle.btr_chunk.specs.declared.chunk.Chunk.{Chunk}
use Rattle.btr_prog.specs.Prog.{Emit, Return, exec}
use Rattle.btr_prog.specs.Answers.{Fault, Follows}
use Rattle.btr_rack.proofs.Reading.{reads_none}
use Rattle.btr_read.specs.Fate as fate
use Rattle.btr_read.specs.Fate.{sought, sought_in}
use Rattle.btr_read.specs.declared.want.Want.TheVariants.{Block}
use Rattle.btr_super.specs.declared.superblock.Super.{Super}
use Rattle.btr_text.proofs.Writing.{adds_nothing}
use Rattle.btr_walk.specs.Reading.{unread_by}
use Rattle.btr_walk.specs.declared.fault.TreeFault.TheVariants as tree
use Rattle.btr_walk.proofs.Joined.{unread_on}
use Rattle.btr_volume.specs.Lookup.{Program, looks}
use Rattle.btr_volume.specs.declared.stop.Stop.{Stop as TheStop}
use Rattle.btr_volume.specs.declared.stop.Stop.TheVariants as stop
use Rattle.btr_resolve.specs.Lines.{total_line}
use Rattle.btr_resolve.specs.Resolving.{Line, all_told, resolved, resolved_in, subvolumes, subvolumes_told}
use Rattle.btr_volume.specs.Readable.{CanRead}
use Rattle.btr_resolve.specs.Running.{World, Ran, part}
use Rattle.btr_resolve.proofs.Rans.{ran_halt, ran_then}
use Rattle.btr_volume.proofs.Onward.{same_self}

-- a chunk that was sought, and the one that holds an address
none_at : (o : Option (Bor Chunk)) (at : Option Chunk) → option_copied o ≡ at → is_some o ≡ false → at ≡ None
none_at None at e h = sym e
none_at (Some chunk) at e h = cc

-- where a chunk was found, the owners are those in the subvolumes
some_at : (s : Super) (addr : ℕ) (o : Option (Bor Chunk)) (at : Option Chunk) → option_copied o ≡ at → is_some o ≡ true
    → resolved_in s addr at ≡ looks (subvolumes s) (all_told s addr)
some_at s addr None at e h = cc
some_at s addr (Some chunk) at e h = ap (resolved_in s addr) (sym e)

module _ (x : World) (ready : CanRead 4 x.rack x.vol) (addr : ℕ) (o : Option (Bor Chunk))
    (found : option_copied o ≡ chunk_at x.vol.store.layout.chunks addr) where
  -- the whole answer, by the superblock and the chunks of the volume
  abbrev told : Program Line ℕ
  told = resolved x.vol.sup x.vol.store.layout.chunks addr

  -- no chunk holds the address
  pub ran_unmapped : is_some o ≡ false → Ran told x x (Err (stop.Tree (tree.Unmapped addr)))
  ran_unmapped none =
      let layout = x.vol.store.layout in
      let is = unread_by layout x.rack x.rack in
      let at : chunk_at layout.chunks addr ≡ None = none_at o (chunk_at layout.chunks addr) found none in
      record {
        reads = reads_none x.rack;
        volume = same_self x.vol;
        ready = ready;
        lines = [];
        adds = adds_nothing x.text;
        content = unread_on layout (λ B. Follows is part [] (exec B told) [] (Err (Fault (fate.Unmapped addr))))
            (λ B. subst (λ (a : Option Chunk). Follows is part [] (exec B (resolved_in x.vol.sup addr a)) []
            (Err (Fault (fate.Unmapped addr)))) (sym at) (refl, refl));
        cause = (Block addr, ap (sought_in layout (Block addr)) at);
        calls = refl;
      }

  -- a chunk does
  pub ran_mapped : is_some o ≡ true → (z : World) (r : Result ℕ TheStop)
      → Ran (looks (subvolumes x.vol.sup) (all_told x.vol.sup addr)) x z r → Ran told x z r
  ran_mapped some z r h = subst (λ (p : Program Line ℕ). Ran p x z r)
      (sym (some_at x.vol.sup addr o (chunk_at x.vol.store.layout.chunks addr) found some)) h

-- all subvolumes were told, and then how many lines there are
module _ (s : Super) (addr : ℕ) (ids : List ℕ) (first : ℕ) (none : first ≡ 0) (x y : World) where
  -- the telling of the subvolumes begins with no line
  begun : (r : Result ℕ TheStop) → Ran (subvolumes_told s addr first ids) x y r → Ran (subvolumes_told s addr 0 ids) x y r
  begun r h = subst (λ n. Ran (subvolumes_told s addr n ids) x y r) none h

  -- all subvolumes were told, and then the last line was
  pub all_then : (count : ℕ) (z : World) (r : Result ℕ TheStop) → Ran (subvolumes_told s addr first ids) x y (Ok count)
      → Ran (Emit (total_line count) (Return count)) y z r → Ran (all_told s addr ids) x z r
  all_then count z r h g = ran_then (subvolumes_told s addr 0 ids) (λ n. Emit (total_line n) (Return n)) x y z count r (begun (Ok count) h) g

  -- where the telling of the subvolumes stopped, the whole did
  pub all_halt : (t : TheStop) → Ran (subvolumes_told s addr first ids) x y (Err t) → Ran (all_told s addr ids) x y (Err t)
  all_halt t h = ran_halt (subvolumes_told s addr 0 ids) (λ n. Emit (total_line n) (Return n)) x y t (begun (Err t) h)

-- The owners in a tree, told one after another.
use Rattle.std.proofs.Common.{◌≡◌, ℕ, List, [], ◌++◌, Option, Some, None, Result, Ok, Err, refl, subst}
use Rattle.btr_prog.specs.Answers.{Follows}
use Rattle.btr_prog.specs.Prog.{first, exec, and_then, wants_of}
use Rattle.btr_prog.proofs.Follow.{follows_alone, follows_as, follows_halt, follows_then}
use Rattle.btr_rack.specs.Out.{Adds, CallAccount}
use Rattle.btr_rack.specs.Rack.{Seen, OnlyReads}
use Rattle.btr_rack.proofs.Reading.{reads_more}
use Rattle.btr_read.specs.Layout.{Layout}
use Rattle.btr_read.specs.declared.want.Want.{Want}
use Rattle.btr_text.proofs.Writing.{adds_nothing}
use Rattle.btr_walk.specs.Reading.{Map, UnreadBlock, Tells, HasCause, unread_by, halt_of}
use Rattle.btr_walk.specs.declared.fault.TreeFault.{TreeFault}
use Rattle.btr_walk.proofs.Fetched.{since}
use Rattle.btr_walk.proofs.Joined.{drawn, joined}
use Rattle.btr_walk.proofs.Marks.{behind_wants}
use Rattle.btr_volume.specs.Looking.{SameVolume}
use Rattle.btr_volume.specs.Readable.{CanRead}
use Rattle.btr_volume.specs.Lookup.{Program, each}
use Rattle.btr_volume.specs.declared.root.TreeRoot.{TreeRoot}
use Rattle.btr_volume.specs.declared.stop.Stop.{Stop as TheStop}
use Rattle.btr_volume.specs.declared.stop.Stop.TheVariants as stop
use Rattle.btr_volume.specs.declared.volume.Volume.{Volume}
use Rattle.btr_files.proofs.Nextward.{rest_more}
use Rattle.btr_resolve.specs.Cursor.{owners_left, AreOn, LeadsOn, NextOwnerBy, TellsNext}
use Rattle.btr_resolve.specs.Owning.{owners}
use Rattle.btr_resolve.specs.Resolving.{Line, owner_told, tree_told}
use Rattle.btr_resolve.specs.Running.{IsResolveStop, World, world, Ran, ResolveStopCause, StopCounts, part, whole}
use Rattle.btr_volume.specs.Stops.{ended, stop_halt}
use Rattle.btr_volume.proofs.Onward.{behind_since, same_then}
use Rattle.btr_resolve.specs.declared.owner.Owner.{Owner}
use Rattle.btr_resolve.specs.declared.owners.Owners.{Owners}
use Rattle.btr_resolve.proofs.Rans.{adds_then, counts_then}
use Rattle.btr_resolve.proofs.Threads.{RunOf, body_of, each_turned, last_of, turn_ends, turn_halts}

-- the owners that are still to come, each told wholly
abbrev pub left_told : Map → ℕ → Owners → Program Line ℕ
left_told B count cursor = each owner_told count (owners_left B cursor)

-- these were told
pub record ToldFrom (count : ℕ) (cursor : Owners) (x y : World) (answer : Result ℕ TheStop) : Type 0 where
  pub reads : OnlyReads x.rack y.rack
  pub volume : SameVolume x.vol y.vol
  pub ready : CanRead 4 y.rack y.vol
  pub lines : List Line
  pub adds : Adds x.text y.text (whole lines)
  pub content :
      Tells x.vol.store.layout x.rack y.rack
      (λ B. (seen : List Want) → AreOn B seen cursor
      → Follows (unread_by x.vol.store.layout x.rack y.rack) part seen (exec B (left_told B count cursor)) lines (ended answer))
  pub cause : ResolveStopCause x.vol.store.layout x.rack y.rack answer
  pub calls : StopCounts x.calls y.calls answer

-- what is told of the owners that are left is told of all of a tree
abbrev pub LeadsFrom : ℕ → TreeRoot → ℕ → ℕ → Owners → World → World → Type 0
LeadsFrom addr tree first count cursor x y =
    (z : World) (answer : Result ℕ TheStop) → ToldFrom count cursor y z answer → Ran (tree_told addr first (Some tree)) x z answer

-- no owner was told yet
pub leads_first : (addr : ℕ) (tree : TreeRoot) (count : ℕ) (cursor : Owners) (x : World)
    → ((B : Map) → owners_left B cursor ≡ owners addr tree) → ((B : Map) → AreOn B [] cursor) → LeadsFrom addr tree count count cursor x x
leads_first addr tree count cursor x is on z answer t =
    let layout = x.vol.store.layout in
    let by = unread_by layout x.rack z.rack in
    record {
      reads = t.reads;
      volume = t.volume;
      ready = t.ready;
      lines = t.lines;
      adds = t.adds;
      content = drawn layout (λ B. (seen : List Want) → AreOn B seen cursor
          → Follows by part seen (exec B (left_told B count cursor)) t.lines (ended answer))
          (λ B. Follows by part [] (exec B (tree_told addr count (Some tree))) t.lines (ended answer))
          (λ B h. subst (λ p. Follows by part [] (exec B (each owner_told count p)) t.lines (ended answer)) (is B) (h [] (on B))) t.content;
      cause = t.cause;
      calls = t.calls;
    }

module _ (count : ℕ) (cursor cursor' : Owners) (rack rack' : Seen) (vol vol' : Volume) (text : Option (List ℕ))
    (calls : CallAccount) (reads : OnlyReads rack rack') (same : SameVolume vol vol') (ready : CanRead 4 rack' vol') where
  abbrev x : World
  x = world rack vol text calls

  abbrev y : World
  y = world rack' vol' text calls

  abbrev layout : Layout
  layout = vol.store.layout

  -- which want is the one that couldn't be read
  abbrev by : UnreadBlock → Want → Type 0
  by = unread_by layout rack rack'

  -- the run of what is left to be told
  abbrev from : Map → RunOf Line ℕ
  from B = exec B (left_told B count cursor)

  -- there was no owner any more
  pub told_end : TellsNext vol rack rack' cursor cursor' (Ok None) → ToldFrom count cursor x y (Ok count)
  told_end next = record {
    reads = reads;
    volume = same;
    ready = ready;
    lines = [];
    adds = adds_nothing text;
    content = drawn layout (λ B. (seen : List Want) → AreOn B seen cursor → NextOwnerBy by B seen cursor cursor' (Ok None))
        (λ B. (seen : List Want) → AreOn B seen cursor → Follows by part seen (from B) [] (Ok count))
        (λ B n seen on. turn_ends B (body_of B owner_told) (last_of B owner_told) by part seen count (owners_left B cursor) (n seen on)) next;
    cause = tt;
    calls = refl;
  }

  -- the tree could not be read on
  pub told_fault : (f : TreeFault) → HasCause {A = Option Owner} layout rack rack' (Err f)
      → TellsNext vol rack rack' cursor cursor' (Err f) → ToldFrom count cursor x y (Err (stop.Tree f))
  told_fault f cause next = record {
    reads = reads;
    volume = same;
    ready = ready;
    lines = [];
    adds = adds_nothing text;
    content = drawn layout (λ B. (seen : List Want) → AreOn B seen cursor → NextOwnerBy by B seen cursor cursor' (Err f))
        (λ B. (seen : List Want) → AreOn B seen cursor → Follows by part seen (from B) [] (Err (halt_of f)))
        (λ B n seen on. turn_halts B (body_of B owner_told) (last_of B owner_told) by part seen count (owners_left B cursor)
        (halt_of f) (n seen on)) next;
    cause = cause;
    calls = refl;
  }

  module _ (owner : Owner) (next : TellsNext vol rack rack' cursor cursor' (Ok (Some owner))) (z : World) where
    -- the run of the lines of the owner
    abbrev told : Map → RunOf Line ℕ
    told B = exec B (owner_told count owner)

    -- the run of what is left to be told behind the owner
    abbrev rest : Map → ℕ → RunOf Line ℕ
    rest B n = exec B (left_told B n cursor')

    -- an owner was told to a stop
    pub told_stop : (s : TheStop) → Ran (owner_told count owner) y z (Err s) → ToldFrom count cursor x z (Err s)
    told_stop s h =
        let is = unread_by layout rack z.rack in
        let later = unread_by vol'.store.layout rack' z.rack in
        record {
          reads = reads_more reads h.reads;
          volume = same_then same h.volume;
          ready = h.ready;
          lines = h.lines;
          adds = h.adds;
          content = joined (λ B. (seen : List Want) → AreOn B seen cursor → LeadsOn B seen cursor cursor' owner)
              (λ B. Follows later part [] (told B) h.lines (Err (stop_halt s)))
              (λ B. (seen : List Want) → AreOn B seen cursor → Follows is part seen (from B) h.lines (Err (stop_halt s))) same.store.layout
              (λ B n t seen on.
              let g = n seen on in
              behind_wants is seen g.past (from B) part (and_then (told B) (rest B)) h.lines (Err (stop_halt s))
              (each_turned B owner_told (owners_left B cursor) (owners_left B cursor') owner g.past count g.is)
              (follows_halt is part (seen ++ g.past) (told B) (rest B) h.lines (stop_halt s)
              (follows_alone is part (seen ++ g.past) (told B) h.lines (Err (stop_halt s))
              (follows_as later is (since layout vol'.store.layout same.store.layout reads) part [] (told B) h.lines (Err (stop_halt s)) t))))
              next h.content;
          cause = behind_since IsResolveStop {C = ℕ} z.rack layout vol'.store.layout (Err s) same.store.layout reads h.cause;
          calls = h.calls;
        }

    -- an owner was told, and then the others
    pub told_more : (count' : ℕ) → Ran (owner_told count owner) y z (Ok count') → (w : World) (answer : Result ℕ TheStop)
        → ToldFrom count' cursor' z w answer → ToldFrom count cursor x w answer
    told_more count' h w answer t =
        let is = unread_by layout rack w.rack in
        let early = unread_by layout rack z.rack in
        let later = unread_by z.vol.store.layout z.rack w.rack in
        let volume = same_then same h.volume in
        let reads' = reads_more reads h.reads in
        record {
          reads = reads_more reads' t.reads;
          volume = same_then volume t.volume;
          ready = t.ready;
          lines = h.lines ++ t.lines;
          adds = adds_then text z.text w.text h.lines t.lines h.adds t.adds;
          content = joined (λ B. ((seen : List Want) → AreOn B seen cursor → LeadsOn B seen cursor cursor' owner) × Follows
              (unread_by vol'.store.layout rack' z.rack) part [] (told B) h.lines (Ok count'))
              (λ B. (seen : List Want) → AreOn B seen cursor' → Follows later part seen (rest B count') t.lines (ended answer))
              (λ B. (seen : List Want) → AreOn B seen cursor → Follows is part seen (from B) (h.lines ++ t.lines) (ended answer)) volume.store.layout
              (λ B n r seen on.
              let g = n.0 seen on in
              let marks = wants_of (told B).marks in
              behind_wants is seen g.past (from B) part (and_then (told B) (rest B)) (h.lines ++ t.lines) (ended answer)
              (each_turned B owner_told (owners_left B cursor) (owners_left B cursor') owner g.past count g.is)
              (follows_then is part (seen ++ g.past) (told B) count' (rest B) h.lines t.lines (ended answer) n.1
              (follows_as later is (since layout z.vol.store.layout volume.store.layout reads') part ((seen ++ g.past) ++ marks)
              (rest B count') t.lines (ended answer)
              (r ((seen ++ g.past) ++ marks) (rest_more B (seen ++ g.past) marks cursor'.rest g.on)))))
              (joined (λ B. (seen : List Want) → AreOn B seen cursor → LeadsOn B seen cursor cursor' owner)
              (λ B. Follows (unread_by vol'.store.layout rack' z.rack) part [] (told B) h.lines (Ok count'))
              (λ B. ((seen : List Want) → AreOn B seen cursor → LeadsOn B seen cursor cursor' owner) × Follows
              (unread_by vol'.store.layout rack' z.rack) part [] (told B) h.lines (Ok count')) same.store.layout (λ B n f. (n, f)) next h.content)
              t.content;
          cause = behind_since IsResolveStop w.rack layout z.vol.store.layout answer volume.store.layout reads' t.cause;
          calls = counts_then {A = ℕ} calls z.calls w.calls count' answer h.calls t.calls;
        }

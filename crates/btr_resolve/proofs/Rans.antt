-- Calls one after another.
use Rattle.std.proofs.Common.{◌≡◌, ℕ, Bool, true, false, cond, List, [], ◌∷◌, ◌++◌, Option, Result, Ok, Err, IsErrAnd, refl, sym, ap, subst}
use Rattle.std.specs.Prelude.{take}
use Rattle.std.proofs.lemmas.Grind.{flat_map-append}
use Rattle.std.proofs.lemmas.List.{append-nil}
use Rattle.btr_prog.specs.Answers.{Halt, Broke, Follows, no_part}
use Rattle.btr_prog.specs.Prog.{Return, Emit, run, exec, bind, wants_of}
use Rattle.btr_prog.specs.Quiet.{quiet}
use Rattle.btr_prog.proofs.Follow.{follows_then, follows_halt, follows_alone, follows_as, broke_here, step_done, step_broke}
use Rattle.btr_prog.proofs.Quieting.{follows_quiet}
use Rattle.btr_prog.proofs.Runs.{exec-bind}
use Rattle.btr_rack.specs.Out.{Adds, CallAccount, Counts}
use Rattle.btr_rack.specs.Rack.{Seen, OnlyReads}
use Rattle.btr_rack.specs.declared.error.SinkError.{SinkError}
use Rattle.btr_rack.specs.declared.error.SinkError.TheVariants as sink
use Rattle.btr_rack.proofs.Reading.{reads_none, reads_more}
use Rattle.btr_read.specs.Fate as fate
use Rattle.btr_read.specs.Layout.{Layout}
use Rattle.btr_read.specs.Serves.{Serves}
use Rattle.btr_text.proofs.Writing.{adds_nothing, adds_twice}
use Rattle.btr_walk.specs.Reading.{Map, UnreadBlock, Tells, HasCause, unread_by, answer_of}
use Rattle.btr_base.specs.declared.memory.Memory.{Memory}
use Rattle.btr_walk.specs.Folding.{FoldCause, fold_answer}
use Rattle.btr_walk.specs.declared.fault.TreeFault.{TreeFault}
use Rattle.btr_walk.specs.declared.folder.FoldFault.{FoldFault}
use Rattle.btr_walk.specs.declared.folder.FoldFault.TheVariants as fold
use Rattle.btr_walk.proofs.Fetched.{since}
use Rattle.btr_walk.proofs.Joined.{drawn, joined, on_all, unread_on}
use Rattle.btr_volume.specs.Looking.{Looks, SameVolume}
use Rattle.btr_volume.specs.Readable.{CanRead}
use Rattle.btr_volume.specs.Lookup.{Lookup, Program, looks}
use Rattle.btr_volume.specs.declared.stop.Stop.{Stop as TheStop}
use Rattle.btr_volume.specs.declared.stop.Stop.TheVariants as stop
use Rattle.btr_volume.specs.declared.volume.Volume.{Volume}
use Rattle.btr_resolve.specs.Resolving.{Line}
use Rattle.btr_resolve.specs.Running.{IsResolveStop, World, world, Ran, ResolveStopCause, StopCounts, counted, part, whole}
use Rattle.btr_volume.specs.Stops.{ended, stop_halt, stops_out}
use Rattle.btr_volume.proofs.Onward.{behind_since, reads_on, same_self, same_then, stop_passed}

-- the account after a call and then another
pub counts_then : {A C : Type 0} (a b c : CallAccount) (v : A) (r : Result C TheStop) → StopCounts a b (Ok v) → StopCounts b c r → StopCounts a c r
counts_then a b c v r e h = subst (λ (x : CallAccount). StopCounts x c r) e h

-- the text of some lines, and of more, is that of all of them
pub whole-append : (a b : List Line) → whole (a ++ b) ≡ whole a ++ whole b
whole-append a b = flat_map-append (λ (line : Line). line) a b

-- lines that were put, and then others
pub adds_then : (a b c : Option (List ℕ)) (xs ys : List Line) → Adds a b (whole xs) → Adds b c (whole ys) → Adds a c (whole (xs ++ ys))
adds_then a b c xs ys h g = subst (Adds a c) (sym (whole-append xs ys)) (adds_twice a b c (whole xs) (whole ys) h g)

-- what holds of all maps
pub told_all : (layout : Layout) (a b : Seen) → OnlyReads a b → (Q : Map → Type 0) → ((B : Map) → Q B) → Tells layout a b Q
told_all layout a b reads Q f =
    record { calls = record { same = ap (λ (s : Seen). s.held) reads.same; later = reads.later; content = λ sure c. on_all layout Q f sure a.held } }

module _ {A C : Type 0} (p : Program Line A) (k : A → Program Line C) (x y : World) where
  -- one program was run to its value, and then what it goes on with
  pub ran_then : (z : World) (a : A) (r : Result C TheStop) → Ran p x y (Ok a) → Ran (k a) y z r → Ran (bind p k) x z r
  ran_then z a r h g =
      let is = unread_by x.vol.store.layout x.rack z.rack in
      let later = unread_by y.vol.store.layout y.rack z.rack in
      record {
        reads = reads_more h.reads g.reads;
        volume = same_then h.volume g.volume;
        ready = g.ready;
        lines = h.lines ++ g.lines;
        adds = adds_then x.text y.text z.text h.lines g.lines h.adds g.adds;
        content = joined (λ B. Follows (unread_by x.vol.store.layout x.rack y.rack) part [] (exec B p) h.lines (Ok a))
            (λ B. Follows later part [] (exec B (k a)) g.lines (ended r))
            (λ B. Follows is part [] (exec B (bind p k)) (h.lines ++ g.lines) (ended r)) h.volume.store.layout
            (λ B one two. subst (λ q. Follows is part [] q (h.lines ++ g.lines) (ended r)) (sym (exec-bind B p k))
            (follows_then is part [] (exec B p) a (λ a. exec B (k a)) h.lines g.lines (ended r) one
            (follows_alone is part (wants_of (exec B p).marks) (exec B (k a)) g.lines (ended r)
            (follows_as later is (since x.vol.store.layout y.vol.store.layout h.volume.store.layout h.reads) part []
            (exec B (k a)) g.lines (ended r) two))))
            h.content g.content;
        cause = behind_since IsResolveStop z.rack x.vol.store.layout y.vol.store.layout r h.volume.store.layout h.reads g.cause;
        calls = counts_then x.calls y.calls z.calls a r h.calls g.calls;
      }

  -- where one program stopped, what it goes on with stopped with it
  pub ran_halt : (s : TheStop) → Ran p x y (Err s) → Ran (bind p k) x y (Err s)
  ran_halt s h =
      let is = unread_by x.vol.store.layout x.rack y.rack in
      record {
        reads = h.reads;
        volume = h.volume;
        ready = h.ready;
        lines = h.lines;
        adds = h.adds;
        content = drawn x.vol.store.layout (λ B. Follows is part [] (exec B p) h.lines (Err (stop_halt s)))
            (λ B. Follows is part [] (exec B (bind p k)) h.lines (Err (stop_halt s)))
            (λ B one. subst (λ q. Follows is part [] q h.lines (Err (stop_halt s))) (sym (exec-bind B p k))
            (follows_halt is part [] (exec B p) (λ a. exec B (k a)) h.lines (stop_halt s) one)) h.content;
        cause = h.cause;
        calls = h.calls;
      }

-- a stop that is passed on
pub ran_passed : {A : Type 0} {p : Program Line A} {x y : World} {s : TheStop} (r : Result A TheStop) → IsErrAnd r (λ e. e ≡ s)
    → Ran p x y (Err s) → Ran p x y r
ran_passed {p = p} {x = x} {y = y} {s = s} r is h = stop_passed (λ q. Ran p x y q) r s is h

-- a stop that is passed on is one beside a count too
pub counted_passed : (count : ℕ) (r : Result (Unit {0}) TheStop) (s : TheStop) → IsErrAnd r (λ e. e ≡ s) → IsErrAnd (counted count r) (λ e. e ≡ s)
counted_passed count (Ok u) s is = absurd is
counted_passed count (Err e) s is = is

-- nothing was done: that is the end of a program, or a stop that may come anywhere
module _ {A : Type 0} (x : World) (ready : CanRead 4 x.rack x.vol) where
  -- where nothing is done, a program that is at its end has run
  pub ran_none : (a : A) → Ran (Return a) x x (Ok a)
  ran_none a = record {
    reads = reads_none x.rack;
    volume = same_self x.vol;
    ready = ready;
    lines = [];
    adds = adds_nothing x.text;
    content = unread_on x.vol.store.layout
        (λ B. Follows (unread_by x.vol.store.layout x.rack x.rack) part [] (exec B (Return a)) [] (Ok a)) (λ B. (refl, refl));
    cause = tt;
    calls = refl;
  }

  -- where nothing is done, any program may have stopped for want of memory
  pub ran_memory : (p : Program Line A) → Ran p x x (Err stop.Memory)
  ran_memory p = record {
    reads = reads_none x.rack;
    volume = same_self x.vol;
    ready = ready;
    lines = [];
    adds = adds_nothing x.text;
    content = unread_on x.vol.store.layout
        (λ B. Follows (unread_by x.vol.store.layout x.rack x.rack) part [] (exec B p) [] (Err Broke))
        (λ B. broke_here (unread_by x.vol.store.layout x.rack x.rack) part [] (exec B p));
    cause = tt;
    calls = refl;
  }

-- a lookup
module _ {A : Type 0} (p : Lookup A) (old new : Seen) (vol after : Volume) (text : Option (List ℕ)) (calls : CallAccount) where
  -- what is told of a lookup is told of it as a program with lines
  quiet_told : (r : Result A TreeFault) → Looks vol.store.layout old new p r
      → Tells vol.store.layout old new (λ B. Follows (unread_by vol.store.layout old new) part [] (exec B (quiet p)) [] (answer_of r))
  quiet_told r looks =
      let is = unread_by vol.store.layout old new in
      drawn vol.store.layout (λ B. Follows {S = ⊥} is no_part [] (exec B p) [] (answer_of r))
      (λ B. Follows is part [] (exec B (quiet p)) [] (answer_of r)) (λ B h. follows_quiet is part [] B p [] (answer_of r) h) looks

  -- a lookup that came to a value has run
  pub ran_found : (a : A) → CanRead 4 old vol → Serves new after.store → OnlyReads old new → SameVolume vol after
      → Looks vol.store.layout old new p (Ok a) → Ran (quiet p) (world old vol text calls) (world new after text calls) (Ok a)
  ran_found a ready serves reads same looks = record {
    reads = reads;
    volume = same;
    ready = reads_on new vol after ready serves same;
    lines = [];
    adds = adds_nothing text;
    content = quiet_told (Ok a) looks;
    cause = tt;
    calls = refl;
  }

  -- a lookup that came to a fault of a tree has run
  pub ran_fault : (f : TreeFault) → CanRead 4 old vol → Serves new after.store → OnlyReads old new → SameVolume vol after
      → HasCause {A = A} vol.store.layout old new (Err f) → Looks vol.store.layout old new p (Err f)
      → Ran (quiet p) (world old vol text calls) (world new after text calls) (Err (stop.Tree f))
  ran_fault f ready serves reads same cause looks = record {
    reads = reads;
    volume = same;
    ready = reads_on new vol after ready serves same;
    lines = [];
    adds = adds_nothing text;
    content = quiet_told (Err f) looks;
    cause = cause;
    calls = refl;
  }

  -- there was no memory for what it found
  pub ran_unfilled : CanRead 4 old vol → Serves new after.store → OnlyReads old new → SameVolume vol after
      → Ran (quiet p) (world old vol text calls) (world new after text calls) (Err stop.Memory)
  ran_unfilled ready serves reads same =
      let is = unread_by vol.store.layout old new in
      record {
        reads = reads;
        volume = same;
        ready = reads_on new vol after ready serves same;
        lines = [];
        adds = adds_nothing text;
        content = told_all vol.store.layout old new reads (λ B. Follows is part [] (exec B (quiet p)) [] (Err Broke))
            (λ B. broke_here is part [] (exec B (quiet p)));
        cause = tt;
        calls = refl;
      }

-- a lookup that is folded, for which there may be no memory
abbrev pub stop_folded : {A : Type 0} → Result A (FoldFault Memory) → Result A TheStop
stop_folded (Ok a) = Ok a
stop_folded (Err (fold.Tree f)) = Err (stop.Tree f)
stop_folded (Err (fold.Own memory)) = Err stop.Memory

-- a lookup that was folded has run, also where memory was wanting
pub folded_ran : {A : Type 0} (p : Lookup A) (old new : Seen) (vol after : Volume) (text : Option (List ℕ))
    (calls : CallAccount) (r : Result A (FoldFault Memory)) → CanRead 4 old vol → Serves new after.store → OnlyReads old new
    → SameVolume vol after → FoldCause vol.store.layout old new r
    → Tells vol.store.layout old new
    (λ B. Follows {S = ⊥} (unread_by vol.store.layout old new) no_part [] (exec B p) [] (fold_answer r))
    → Ran (quiet p) (world old vol text calls) (world new after text calls) (stop_folded r)
folded_ran p old new vol after text calls (Ok a) ready serves reads same cause told =
    ran_found p old new vol after text calls a ready serves reads same told
folded_ran p old new vol after text calls (Err (fold.Tree f)) ready serves reads same cause told =
    ran_fault p old new vol after text calls f ready serves reads same cause told
folded_ran p old new vol after text calls (Err (fold.Own memory)) ready serves reads same cause told =
    ran_unfilled p old new vol after text calls ready serves reads same

-- a lookup by its answer, and then a program by its value
module _ {A C : Type 0} (p : Lookup A) (k : A → Program Line C) (x y : World) (result : Result A TheStop) where
  -- a lookup ran to a value, and then the program went on by it
  pub look_then : (z : World) (a : A) (r : Result C TheStop) → Ran (quiet p) x y result → result ≡ Ok a → Ran (k a) y z r → Ran (looks p k) x z r
  look_then z a r h e g = ran_then (quiet p) k x y z a r (subst (λ (b : Result A TheStop). Ran (quiet p) x y b) e h) g

  -- where a lookup stopped, the program stopped with it
  pub look_halt : (s : TheStop) → Ran (quiet p) x y result → result ≡ Err s → Ran (looks p k) x y (Err s)
  look_halt s h e = ran_halt (quiet p) k x y s (subst (λ (b : Result A TheStop). Ran (quiet p) x y b) e h)

-- a line that was put, or one that was broken off
broke_of : (e : SinkError) → stop_halt (stops_out e) ≡ Broke
broke_of sink.Failed = refl
broke_of sink.Memory = refl

-- a refusal of the output needs no cause in the blocks
cause_of : (A : Type 0) (layout : Layout) (a b : Seen) (e : SinkError) → ResolveStopCause {A = A} layout a b (Err (stops_out e))
cause_of A layout a b sink.Failed = tt
cause_of A layout a b sink.Memory = tt

-- the account of the output after a refusal is the one after its stop
counts_of : (A : Type 0) (a b : CallAccount) (e : SinkError) → Counts {T = Unit {0}} a b (Err e) → StopCounts {A = A} a b (Err (stops_out e))
counts_of A a b sink.Failed h = h
counts_of A a b sink.Memory h = h.1

-- a line that was put is a text of one line
adds_line : (old new : Option (List ℕ)) (line : Line) → Adds old new line → Adds old new (whole (line ∷ []))
adds_line old new line h = subst (Adds old new) (sym (append-nil line)) h

module _ {A : Type 0} (line : Line) (rack : Seen) (vol : Volume) (ready : CanRead 4 rack vol) (old new : Option (List ℕ))
    (calls calls' : CallAccount) where
  -- a line was put, and the program was at its end
  pub ran_line : (v : A) → Adds old new line → calls' ≡ calls
      → Ran (Emit line (Return v)) (world rack vol old calls) (world rack vol new calls') (Ok v)
  ran_line v adds same =
      let is = unread_by vol.store.layout rack rack in
      record {
        reads = reads_none rack;
        volume = same_self vol;
        ready = ready;
        lines = line ∷ [];
        adds = adds_line old new line adds;
        content = unread_on vol.store.layout (λ B. Follows is part [] (exec B (Emit line (Return v))) (line ∷ []) (Ok v))
            (λ B. step_done is part [] line (run [] (Ok v)) [] (Ok v) (refl, refl));
        cause = tt;
        calls = same;
      }

  -- a line was broken off as the output refused, and the program stopped there
  pub ran_broken : (p : Program Line A) (e : SinkError) → ((n : ℕ) × Adds old new (take n line))
      → Counts {T = Unit {0}} calls calls' (Err e) → Ran (Emit line p) (world rack vol old calls) (world rack vol new calls') (Err (stops_out e))
  ran_broken p e cut counts =
      let is = unread_by vol.store.layout rack rack in
      record {
        reads = reads_none rack;
        volume = same_self vol;
        ready = ready;
        lines = take cut.0 line ∷ [];
        adds = adds_line old new (take cut.0 line) cut.1;
        content = unread_on vol.store.layout (λ B. Follows is part [] (exec B (Emit line p)) (take cut.0 line ∷ []) (Err (stop_halt (stops_out e))))
            (λ B. subst (λ (h : Halt fate.Fault UnreadBlock). Follows is part [] (exec B (Emit line p)) (take cut.0 line ∷ [])
            (Err h)) (sym (broke_of e)) (step_broke is part [] line (take cut.0 line) cut.0 (exec B p) refl));
        cause = cause_of A vol.store.layout rack rack e;
        calls = counts_of A calls calls' e counts;
      }

-- where a test decides
module _ {A : Type 0} (p q : Program Line A) (x y : World) (r : Result A TheStop) where
  -- where the test holds, the first of two programs ran
  pub ran_if : (b : Bool) → b ≡ true → Ran p x y r → Ran (cond b p q) x y r
  ran_if true e h = h
  ran_if false e h = cc

  -- where the test doesn't hold, the second of two programs ran
  pub ran_else : (b : Bool) → b ≡ false → Ran q x y r → Ran (cond b p q) x y r
  ran_else true e h = cc
  ran_else false e h = h

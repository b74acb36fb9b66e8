-- One block, and its text.
use Rattle.std.proofs.Common.{◌≡◌, ℕ, ◌≤◌, leb, true, cond, length, List, [], ◌∷◌, ◌++◌, Option, Some, None, IfSome, IsSomeAnd, Result, Ok, Err, refl, sym, ap}
use Rattle.std.proofs.Common.{◌∙◌, subst, arith}
use Rattle.btr_prog.specs.Prog.{Prog, Need, Wants, Does, given, exec, wants_of}
use Rattle.btr_prog.specs.Answers.{Halt, Follows}
use Rattle.btr_prog.specs.Calls as calls
use Rattle.btr_prog.specs.Calls.{Sure, First, Any}
use Rattle.btr_prog.proofs.Successive.{calls_as}
use Rattle.btr_prog.proofs.Follow.{want_came, want_faults, want_unread, follows_alone}
use Rattle.btr_base.specs.declared.kind.SumKind.{SumKind}
use Rattle.std.proofs.lemmas.List.{append-nil}
use Rattle.btr_block_text.specs.Block.{block_text}
use Rattle.std.proofs.lemmas.Bool.Decides.{nat_tests}
use Rattle.btr_node.specs.Node.{node_of}
use Rattle.btr_node.specs.declared.node.Node.{Node}
use Rattle.btr_rack.specs.declared.error.SinkError.{SinkError}
use Rattle.btr_rack.specs.declared.error.SinkError.TheVariants as sink
use Rattle.btr_text.specs.Text.{WasCut}
use Rattle.btr_dump.specs.Stops.{stop_of}
use Rattle.btr_rack.specs.Rack.{Seen, OnlyReads}
use Rattle.btr_read.specs.Fate as fate
use Rattle.btr_read.specs.Fate.{fate as fate_at, fate_of}
use Rattle.btr_read.specs.Fetch.{IsFetched, FitsFetch}
use Rattle.btr_read.specs.Layout.{Layout}
use Rattle.btr_read.specs.Reading.{OnMap, shown}
use Rattle.btr_read.specs.Store.{Blocks, Lent, block_of}
use Rattle.btr_read.specs.declared.fault.ReadFault.{ReadFault}
use Rattle.btr_read.specs.declared.fault.ReadFault.TheVariants as read
use Rattle.btr_read.specs.declared.want.Want.{Want}
use Rattle.btr_read.specs.declared.want.Want.TheVariants.{Block}
use Rattle.btr_read.proofs.ReadsOn.{same_held}
use Rattle.btr_text.proofs.Writing.{wrote_nothing, cut_as}
use Rattle.btr_walk.specs.Blocks.{TreeBlock}
use Rattle.btr_walk.specs.declared.fault.TreeFault.{TreeFault}
use Rattle.btr_walk.specs.declared.fault.TreeFault.TheVariants as tree
use Rattle.btr_walk.specs.Reading.{Map, UnreadBlock, FaultCause, unread_by, tree_fault, halt_of}
use Rattle.btr_volume.specs.declared.stop.Stop.{Stop}
use Rattle.btr_volume.specs.declared.stop.Stop.TheVariants.{NoTree, Tree, Deletion, Balance, Missing, Image, Sink, Out, Memory}
use Rattle.btr_dump.specs.Pieces.{Text, held_block, held_in, block_shown, met_block}
use Rattle.btr_dump.specs.Showing.{part, BlockAgreed, TellsBlock, CutIn, WroteAll, ShowsText}

-- where the images are told, one fact about them gives another
map_some : (held : Option (List (List ℕ))) (P Q : List (List ℕ) → Type 0) → ((images : List (List ℕ)) → P images → Q images) → IfSome held P → IfSome held Q
map_some None P Q f p = tt
map_some (Some images) P Q f p = f images p

-- what holds of any images holds where some are told
if_all : (held : Option (List (List ℕ))) (P : List (List ℕ) → Type 0) → ((images : List (List ℕ)) → P images) → IfSome held P
if_all None P f = tt
if_all (Some images) P f = f images

-- where the images are told, two facts about them give a third
both_some : (held : Option (List (List ℕ))) (P Q R : List (List ℕ) → Type 0) → ((images : List (List ℕ)) → P images → Q images → R images)
    → IfSome held P → IfSome held Q → IfSome held R
both_some None P Q R f p q = tt
both_some (Some images) P Q R f p q = f images p q

le_leb : (m n : ℕ) → m ≤ n → leb m n ≡ true
le_leb m n le = grind (arith, nat_tests)

-- the output refused within the text of a good block
pub held_cut : (layout : Layout) (before now : Seen) (seen : List Want) (B : Map) (kind : SumKind) (addr : ℕ) (block : List ℕ) (node : Option Node)
    (found : Node) (old new : Option Text) (waited waits : Text) (e : SinkError) → Some found ≡ node
    → WasCut old new waited waits (block_text kind addr block)
    → ShowsText (unread_by layout before now) seen (exec B (held_block kind addr block node)) old new waited waits (Err (stop_of e))
unfolding held_block
held_cut layout before now seen B kind addr block node found old new waited waits e is cut =
    subst (λ n. ShowsText (unread_by layout before now) seen (exec B (held_block kind addr block n)) old new waited waits (Err (stop_of e))) is (by e)
  where
    -- the output refused within the block's one piece
    within : CutIn (exec B (held_block kind addr block (Some found))) old new waited waits
    within = record {
      before = Does (block_text kind addr block) ∷ [];
      behind = [];
      place = refl;
      cut = cut_as (block_text kind addr block ++ []) (sym (append-nil (block_text kind addr block))) cut;
    }

    by : (e : SinkError) → ShowsText (unread_by layout before now) seen (exec B (held_block kind addr block (Some found))) old new waited waits
        (Err (stop_of e))
    by sink.Failed = within
    by sink.Memory = within

-- what a block with a header holds
pub held_long : (block : List ℕ) (found : Node) → 101 ≤ length block → Some found ≡ node_of block → Some found ≡ held_in block
held_long block found long is = is ∙ ap (λ b. cond b (node_of block) None) (sym (le_leb 101 (length block) long))

-- a block's text wants nothing
pub held_wants_none : (B : Map) (kind : SumKind) (addr : ℕ) (block : List ℕ) → wants_of (exec B (held_block kind addr block (held_in block))).marks ≡ []
unfolding held_block
held_wants_none B kind addr block = by (held_in block)
  where
    by : (node : Option Node) → wants_of (exec B (held_block kind addr block node)).marks ≡ []
    by None = refl
    by (Some found) = refl

-- what was written behind a want whose bytes came
pub writes_came : {A : Type 0} (Is : UnreadBlock → Want → Type 0) (B : Map) (w : Want) (bytes : List ℕ) (k : List ℕ → Prog Want fate.Fault Text A)
    (old new : Option Text) (waited waits : Text) (result : Result A Stop) → B w ≡ Ok bytes
    → ShowsText Is [] (exec B (k bytes)) old new waited waits result → ShowsText Is [] (exec B (Need w k)) old new waited waits result
writes_came {A} Is B w bytes k old new waited waits result is = by result
  where
    -- what was written with an answer behind the want, was written with it from the want on
    behind : (answer : Result A (Halt fate.Fault UnreadBlock)) → WroteAll Is [] (exec B (k bytes)) old new waited waits answer
        → WroteAll Is [] (exec B (Need w k)) old new waited waits answer
    behind answer h = record {
      done = h.done;
      wrote = h.wrote;
      follows = want_came Is part [] B w bytes k h.done answer is
          (follows_alone Is part (w ∷ []) (exec B (k bytes)) h.done answer h.follows);
    }

    -- a refusal of the output behind the want is one from the want on
    cut : CutIn (exec B (k bytes)) old new waited waits → CutIn (exec B (Need w k)) old new waited waits
    cut h = record {
      before = Wants w ∷ h.before;
      behind = h.behind;
      place = ap (λ x. Wants w ∷ (given x (λ b. exec B (k b))).marks) is ∙ ap (λ ms. Wants w ∷ ms) h.place;
      cut = h.cut;
    }

    by : (result : Result A Stop) → ShowsText Is [] (exec B (k bytes)) old new waited waits result
        → ShowsText Is [] (exec B (Need w k)) old new waited waits result
    by (Ok a) h = behind (Ok a) h
    by (Err (Tree f)) h = behind (Err (halt_of f)) h
    by (Err Out) h = cut h
    by (Err Memory) h = cut h
    by (Err (NoTree n)) h = absurd h
    by (Err (Deletion n)) h = absurd h
    by (Err Balance) h = absurd h
    by (Err (Missing n)) h = absurd h
    by (Err (Image slot)) h = absurd h
    by (Err Sink) h = absurd h

module _ (layout : Layout) (old new : Seen) (kind : SumKind) (addr : ℕ) (reads : OnlyReads old new) where
  -- which want is the one that couldn't be read
  abbrev Is : UnreadBlock → Want → Type 0
  Is = unread_by layout old new

  -- by a block map, what was written, and the answer, follow the text of the block at the address
  abbrev Told : Option Text → Option Text → Text → Text → Result (Unit {0}) Stop → Map → Type 0
  Told was now waited waits result B = ShowsText Is [] (exec B (block_shown kind addr)) was now waited waits result

  -- the block couldn't be had: nothing was written
  pub block_failed : (text : Option Text) (waits : Text) (store : Blocks) (fault : ReadFault)
      → FitsFetch layout (Block addr) old new store (Err fault) → TellsBlock layout addr old new (Told text text waits waits (Err (Tree (tree_fault fault))))
  block_failed text waits store fault fits = record { calls = record { same = same_held reads; later = reads.later; content = λ sure s. content fault fits } }
    where
      -- where a fault follows the run with nothing done, so does writing nothing
      none : (f : TreeFault) (B : Map) → Follows Is part [] (exec B (block_shown kind addr)) [] (Err (halt_of f)) → Told text text waits waits (Err (Tree f)) B
      none f B h = record { done = []; wrote = wrote_nothing text waits; follows = h }

      -- where the images are told, nothing was written, and the fault is that of the block's want
      content : (fault : ReadFault) → FitsFetch layout (Block addr) old new store (Err fault)
          → OnMap layout (Told text text waits waits (Err (Tree (tree_fault fault)))) First old.held
      content (read.Lost a) f = map_some old.held _ _ (λ images e. none (tree.Lost a) (fate_at images layout)
          (want_faults Is part [] (fate_at images layout) (Block addr) (fate.Lost a) (λ b. held_block kind addr b (held_in b)) e)) f.2
      content (read.Unread a slot) f =
          if_all old.held _ (λ images. none (tree.Unread a slot) (fate_at images layout)
          (want_unread Is part [] (record { addr = a; slot = slot }) (Block addr) _ f))
      content (read.Unmapped a) f =
          if_all old.held _ (λ images. none (tree.Unmapped a) (fate_at images layout)
          (want_faults Is part [] (fate_at images layout) (Block addr) (fate.Unmapped a) (λ b. held_block kind addr b (held_in b))
          (ap (fate_of images addr) f)))
      content (read.Crosses a) f =
          if_all old.held _ (λ images. none (tree.Crosses a) (fate_at images layout)
          (want_faults Is part [] (fate_at images layout) (Block addr) (fate.Crosses a) (λ b. held_block kind addr b (held_in b))
          (ap (fate_of images addr) f)))

  -- the block came, and what was written is its text
  pub block_came : (was now : Option Text) (waited waits : Text) (store : Blocks) (loan : Lent) (block : List ℕ) (result : Result (Unit {0}) Stop)
      → FitsFetch layout (Block addr) old new store (Ok loan) → block_of store loan ≡ Some block
      → ((B : Map) → ShowsText Is [] (exec B (held_block kind addr block (held_in block))) was now waited waits result)
      → TellsBlock layout addr old new (Told was now waited waits result)
  block_came was now waited waits store loan block result fits is written =
      record { calls = record { same = same_held reads; later = reads.later; content = content } }
    where
      -- the bytes behind the loan are those that were fetched
      fetched : IsFetched layout (Block addr) old new block
      fetched = subst (λ o. IsSomeAnd o (IsFetched layout (Block addr) old new)) is fits.1

      -- where the block map has the block's bytes, what was written is its text
      came : (B : Map) → B (Block addr) ≡ Ok block → Told was now waited waits result B
      came B e = writes_came Is B (Block addr) block (λ b. held_block kind addr b (held_in b)) was now waited waits result e (written B)

      -- so far as what was read can be told, what was written is the block's text
      content : (sure : Sure) → calls.CanTell (BlockAgreed layout addr) sure (shown old) (shown new)
          → OnMap layout (Told was now waited waits result) sure old.held
      content First s = map_some old.held _ _ (λ images e. came (fate_at images layout) e) (fetched.first (omega (arith, s), omega (arith, s)))
      content Any s = both_some old.held _ _ _ (λ images a f. came (fate_at images layout) (f a)) s fetched.agreed

  -- the fault has its cause
  pub block_cause : (store : Blocks) (fault : ReadFault) → FitsFetch layout (Block addr) old new store (Err fault)
      → FaultCause layout old new (tree_fault fault)
  block_cause store (read.Lost a) fits = (Block addr, fits.2)
  block_cause store (read.Unread a slot) fits = (Block addr, fits)
  block_cause store (read.Unmapped a) fits = (Block addr, fits)
  block_cause store (read.Crosses a) fits = (Block addr, fits)

-- what follows of a call
pub tells_drawn : (layout : Layout) (addr : ℕ) (old new : Seen) (P Q : Map → Type 0) → ((B : Map) → P B → Q B) → TellsBlock layout addr old new P
    → TellsBlock layout addr old new Q
tells_drawn layout addr old new P Q f t = record { calls = calls_as (λ sure held p. on held p) t.calls }
  where
    on : (held : Option (List (List ℕ))) → IfSome held (λ images. P (fate_at images layout)) → IfSome held (λ images. Q (fate_at images layout))
    on None p = tt
    on (Some images) p = f (fate_at images layout) p

-- a block of a tree wants nothing more
pub met_wants_none : (B : Map) (kind : SumKind) (met : TreeBlock) → wants_of (exec B (met_block kind met)).marks ≡ []
unfolding met_block
met_wants_none B kind met = held_wants_none B kind met.addr met.bytes

-- what was written of it
pub met_written : (Is : UnreadBlock → Want → Type 0) (seen : List Want) (B : Map) (kind : SumKind) (met : TreeBlock) (old new : Option Text)
    (waited waits : Text) (result : Result (Unit {0}) Stop)
    → ShowsText Is seen (exec B (held_block kind met.addr met.bytes (held_in met.bytes))) old new waited waits result
    → ShowsText Is seen (exec B (met_block kind met)) old new waited waits result
unfolding met_block
met_written Is seen B kind met old new waited waits result w = w

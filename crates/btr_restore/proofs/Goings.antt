-- What the runs of calls do, one after another.
use Rattle.std.proofs.Common.{◌≡◌, ℕ, List, [], ◌∷◌, ◌++◌, Option, Some, None, IfSome, Result, Ok, Err, refl, sym, ap, ◌∙◌, subst}
use Rattle.std.specs.Prelude.{fold}
use Rattle.btr_prog.specs.Answers.{Halt, Follows, no_part}
use Rattle.btr_prog.specs.Calls.{Sure, First, Any}
use Rattle.btr_prog.specs.Goes.{Goes}
use Rattle.btr_prog.specs.Maps.{Each}
use Rattle.btr_prog.specs.Prog.{bind, exec, needs}
use Rattle.btr_prog.specs.Quiet.{quiet}
use Rattle.btr_prog.proofs.Choices.{goes_some, goes_halt}
use Rattle.btr_prog.proofs.Follow.{follows_as}
use Rattle.btr_prog.proofs.Quieting.{follows_quiet}
use Rattle.btr_prog.proofs.Successive.{calls_then, calls_as, calls_none}
use Rattle.btr_rack.specs.Rack.{Seen, OnlyReads}
use Rattle.btr_rack.specs.Sink.{Sink}
use Rattle.btr_read.specs.Fate as fate
use Rattle.btr_read.specs.Layout.{Layout}
use Rattle.btr_read.specs.declared.want.Want.{Want}
use Rattle.btr_walk.specs.Reading.{Map, UnreadBlock, unread_by, answer_of}
use Rattle.btr_walk.specs.declared.fault.TreeFault.{TreeFault}
use Rattle.btr_walk.proofs.Fetched.{since}
use Rattle.btr_volume.specs.Looking.{Looks}
use Rattle.btr_volume.specs.Lookup.{Program, Lookup}
use Rattle.btr_files.proofs.AllMaps.{choices-zero}
use Rattle.btr_restore.specs.Restoring.{sink_after, text_after, Scene, scene, Does, Emits}
use Rattle.btr_listing.specs.Step.{Step, part}
use Rattle.btr_restore.proofs.Doing.{goes_on, fold-append, text_then}
use Rattle.btr_restore.proofs.Emitting.{text_none}
use Rattle.btr_restore.specs.Listing.{maps_of}

-- what holds of a value, if there is one
pub if_some : {X : Type 0} (P : X → Type 0) (o : Option X) → ((x : X) → P x) → IfSome o P
if_some P None f = tt
if_some P (Some x) f = f x

-- what follows of something that holds of a value, if there is one
pub if_map : {X : Type 0} (P Q : X → Type 0) (o : Option X) → ((x : X) → P x → Q x) → IfSome o P → IfSome o Q
if_map P Q None f h = tt
if_map P Q (Some x) f h = f x h

-- what follows of two things that hold of a value, if there is one
pub if_both : {X : Type 0} (P Q R : X → Type 0) (o : Option X) → ((x : X) → P x → Q x → R x) → IfSome o P → IfSome o Q → IfSome o R
if_both P Q R None f h g = tt
if_both P Q R (Some x) f h g = f x h g

-- the first map of some images says what they hold
pub first_map : (layout : Layout) (sure : Sure) (images : List (List ℕ)) (want : Want) → maps_of layout sure images 0 want ≡ fate.fate images layout want
first_map layout First images want = refl
first_map layout Any images want = choices-zero images layout want

-- what holds of all
pub each_all : {W : Type 0} (P : W → Type 0) (ws : List W) → ((w : W) → P w) → Each P ws
each_all P [] f = tt
each_all P (w ∷ ws) f = (f w, each_all P ws f)

-- a lookup that was answered by the images is one where blocks may come to more
pub goes_look : {A : Type 0} (layout : Layout) (sure : Sure) (images : List (List ℕ)) (Is : UnreadBlock → Want → Type 0) (p : Lookup A)
    (ans : Result A (Halt fate.Fault UnreadBlock)) → Follows {S = ⊥} Is no_part [] (exec (fate.fate images layout) p) [] ans
    → Goes Is part [] (maps_of layout sure images) (quiet {S = Step} p) [] ans
goes_look layout sure images Is p ans f = (
  exec (fate.fate images layout) (quiet {S = Step} p),
  goes_some (maps_of layout sure images) (fate.fate images layout) (quiet {S = Step} p)
      (each_all (λ w. (i : ℕ) × (maps_of layout sure images i w ≡ fate.fate images layout w)) (needs (fate.fate images layout) (quiet {S = Step} p))
      (λ w. (0, first_map layout sure images w))),
  follows_quiet Is part [] (fate.fate images layout) p [] ans f,
)

-- less may be said of the want that could not be read
pub goes_as : {A : Type 0} (One Is : UnreadBlock → Want → Type 0) (Bs : ℕ → Map) (p : Program Step A) (done : List Step)
    (ans : Result A (Halt fate.Fault UnreadBlock)) → ((u : UnreadBlock) (w : Want) → One u w → Is u w) → Goes One part [] Bs p done ans
    → Goes Is part [] Bs p done ans
goes_as One Is Bs p done ans f h = (h.0, h.1, follows_as One Is f part [] h.0 done ans h.2)

module _ {A : Type 0} where
  -- a call that reads nothing, beside a rack
  pub does_emits : (layout : Layout) (rack : Seen) (p : Program Step A) (s s' : Sink) (told told' : Option (List ℕ))
      (ans : Result A (Halt fate.Fault UnreadBlock)) → Emits p s s' told told' ans → Does layout p (scene rack s told) (scene rack s' told') ans
  does_emits layout rack p s s' told told' ans e = record {
    done = e.done;
    sink = e.sink;
    text = e.text;
    content = record {
      calls = calls_none (λ sure. if_some (λ images. Goes (unread_by layout rack rack) part [] (maps_of layout sure images) p e.done ans)
          rack.held (λ images. e.goes layout rack rack (maps_of layout sure images)));
    };
  }

  -- a lookup, which does no step
  pub does_look : (layout : Layout) (old new : Seen) (p : Lookup A) (s : Sink) (told : Option (List ℕ)) (result : Result A TreeFault)
      → Looks layout old new p result → Does layout (quiet p) (scene old s told) (scene new s told) (answer_of result)
  does_look layout old new p s told result l = record {
    done = [];
    sink = refl;
    text = text_none told;
    content = record {
      calls = calls_as (λ sure h f.
          if_map (λ images. Follows {S = ⊥} (unread_by layout old new) no_part [] (exec (fate.fate images layout) p) [] (answer_of result))
          (λ images. Goes (unread_by layout old new) part [] (maps_of layout sure images) (quiet p) [] (answer_of result)) h
          (λ images g. goes_look layout sure images (unread_by layout old new) p (answer_of result) g) f) l.calls;
    };
  }

  module _ {C : Type 0} (layout layout' : Layout) (same : layout' ≡ layout) (p : Program Step A) (k : A → Program Step C) (x y z : Scene) where
    -- what a call did, and then the next, is what their programs do in a row
    pub does_then : (a : A) (ans : Result C (Halt fate.Fault UnreadBlock)) → OnlyReads x.rack y.rack → Does layout p x y (Ok a)
        → Does layout' (k a) y z ans → Does layout (bind p k) x z ans
    does_then a ans reads h g =
        let g' = subst (λ (l : Layout). Does l (k a) y z ans) same g in
        record {
          done = h.done ++ g'.done;
          sink = g'.sink ∙ (ap (λ (s : Sink). fold sink_after s g'.done) h.sink ∙ sym (fold-append sink_after x.sink h.done g'.done));
          text = g'.text ∙ (ap (λ t. text_after t g'.done) h.text ∙ text_then x.text h.done g'.done);
          content = record {
            calls = calls_then (λ sure held f f'.
                if_both (λ images. Goes (unread_by layout x.rack y.rack) part [] (maps_of layout sure images) p h.done (Ok a))
                (λ images. Goes (unread_by layout y.rack z.rack) part [] (maps_of layout sure images) (k a) g'.done ans)
                (λ images. Goes (unread_by layout x.rack z.rack) part [] (maps_of layout sure images) (bind p k) (h.done ++ g'.done) ans) held
                (λ images one two. goes_on (maps_of layout sure images) (unread_by layout x.rack y.rack) (unread_by layout x.rack z.rack) p k a h.done
                g'.done ans one
                (goes_as (unread_by layout y.rack z.rack) (unread_by layout x.rack z.rack) (maps_of layout sure images) (k a) g'.done ans
                (λ u w i. since layout layout refl reads u w i) two)) f f')
                h.content.calls g'.content.calls;
          };
        }

    -- a call that was halted did what its program and another behind it do
    pub does_halt : (halt : Halt fate.Fault UnreadBlock) → Does layout p x y (Err halt) → Does layout (bind p k) x y (Err halt)
    does_halt halt h = record {
      done = h.done;
      sink = h.sink;
      text = h.text;
      content = record {
        calls = calls_as (λ sure held f.
            if_map (λ images. Goes (unread_by layout x.rack y.rack) part [] (maps_of layout sure images) p h.done (Err halt))
            (λ images. Goes (unread_by layout x.rack y.rack) part [] (maps_of layout sure images) (bind p k) h.done (Err halt)) held
            (λ images g. goes_halt (maps_of layout sure images) (unread_by layout x.rack y.rack) part [] p k 0 h.done halt g) f) h.content.calls;
      };
    }

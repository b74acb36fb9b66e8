-- Marks that are met, one after another.
use Rattle.std.proofs.Common.{◌≡◌, List, [], ◌∷◌, ◌++◌, fold, IsSomeAnd, Some, None, Result, Ok, Err, Bool, true, false, Option, refl, sym, ap, ◌∙◌, subst}
use Rattle.std.proofs.Common.{append-nil, append_assoc}
use Rattle.std.proofs.lemmas.List.Sums.{fold-append}
use Rattle.btr_base.specs.Key.{last_key}
use Rattle.btr_prog.specs.Prog as prog
use Rattle.btr_prog.specs.Prog.{Run, run, first, prepend, steps_of, wants_of, want_marks}
use Rattle.btr_prog.specs.Trying.{tried}
use Rattle.btr_prog.specs.Answers.{Follows, no_part}
use Rattle.btr_prog.proofs.Runs.{prepend-prepend, steps_of-append, wants_of-append}
use Rattle.btr_prog.proofs.Tries.{steps_of-marks, wants_of-marks}
use Rattle.btr_prog.proofs.Follow.{follows_as, follows_behind}
use Rattle.btr_rack.specs.Rack.{Seen}
use Rattle.btr_read.specs.Fate as fate
use Rattle.btr_read.specs.Layout.{Layout}
use Rattle.btr_read.specs.Store.{Blocks}
use Rattle.btr_read.specs.declared.want.Want.{Want}
use Rattle.btr_tour.specs.Steps.{reason, left, Meets}
use Rattle.btr_tour.specs.Program.{tour_prog}
use Rattle.btr_tour.specs.Tour as marks
use Rattle.btr_tour.specs.Tour.{Mark, first_key}
use Rattle.btr_tour.specs.TourEnds.{left_of, IsUnderway, HoldsLeaf, TourNextBy}
use Rattle.btr_tour.specs.declared.met.Met.{Met}
use Rattle.btr_tour.specs.declared.met.Met.TheVariants.{Block, Child, Item, Fault}
use Rattle.btr_tour.specs.declared.scope.Scope.{Scope}
use Rattle.btr_tour.specs.declared.tour.Tour.{Tour}
use Rattle.btr_walk.specs.Le.{want_of}
use Rattle.btr_walk.specs.Reading.{Map, UnreadBlock, CauseOf, FaultCause, halt_of}
use Rattle.btr_walk.specs.Showing.{item_of}
use Rattle.btr_walk.specs.declared.fault.TreeFault.{TreeFault}
use Rattle.btr_walk.specs.declared.fault.TreeFault.TheVariants as tree
use Rattle.btr_walk.specs.declared.folder.FoldFault.{FoldFault}
use Rattle.btr_walk.specs.declared.folder.FoldFault.TheVariants.{Tree, Own}
use Rattle.btr_walk.specs.declared.place.RootPlace.{RootPlace}
use Rattle.btr_tour.specs.Visits.{ShowsMark, IsTaken, Goes, MeetsBy, IsMet, TreatsUpTo, IsRun, Visits}
use Rattle.btr_tour.proofs.Programs.{marks_law}
use Rattle.btr_walk.specs.Going.{IsAlong}

-- what a step leaves, behind what came before it
past_then : {A : Type 0} (old now : Run Want fate.Fault Mark A) (ps qs : List (prog.Mark Want Mark)) (new : Run Want fate.Fault Mark A) → old
    ≡ prepend ps now → now ≡ prepend qs new → old ≡ prepend (ps ++ qs) new
past_then old now ps qs new e f = e ∙ ap (prepend ps) f ∙ prepend-prepend ps qs new

-- marks that were treated, and then others, were treated one after another
treated_then : {St : Type 0} (step : St → Mark → St) (old now new : St) (ps qs : List (prog.Mark Want Mark)) → now ≡ fold step old (steps_of ps) → new
    ≡ fold step now (steps_of qs) → new ≡ fold step old (steps_of (ps ++ qs))
treated_then step old now new ps qs e f = f ∙ ap (λ s. fold step s (steps_of qs)) e ∙ sym (fold-append step old (steps_of ps) (steps_of qs))
    ∙ ap (fold step old) (sym (steps_of-append ps qs))

-- the marks of some wants and one step behind them
behind_wants : (past : List Want) (mark : Mark) → (steps_of (want_marks past ++ prog.Does mark ∷ []) ≡ mark ∷ [])
    × (wants_of (want_marks past ++ prog.Does mark ∷ []) ≡ past)
behind_wants past mark = (
  steps_of-append (want_marks past) (prog.Does mark ∷ []) ∙ ap (λ xs. xs ++ mark ∷ []) (steps_of-marks Mark past),
  wants_of-append (want_marks past) (prog.Does mark ∷ []) ∙ append-nil (wants_of (want_marks {S = Mark} past)) ∙ wants_of-marks Mark past,
)

module _ (Is : UnreadBlock → Want → Type 0) (B : Map) (seen : List Want) (old new : Blocks) (tour tour' : Tour) (same : tour'.scope ≡ tour.scope) where
  -- what was left are some wants, and a mark that is shown, and then what is left
  pub record Next (met : Met) : Type 0 where
    pub past : List Want
    pub mark : Mark
    pub shown : ShowsMark met mark
    pub first : tried B (left_of B old tour) ≡ prepend (want_marks past) (first (prog.Does mark) (tried B (left_of B new tour')))
    pub on : IsUnderway B (seen ++ past) tour'
    pub held : HoldsLeaf B (seen ++ past) new tour'

  -- what is left at the place behind the step is what the tour has then still to meet
  left_is : left tour.scope.lo tour.scope.hi B new tour'.place tour'.leaf ≡ left_of B new tour'
  left_is = ap (λ (s : Scope). left s.lo s.hi B new tour'.place tour'.leaf) (sym same)

  -- a place on the way is where the tour is then on its way
  on_is : (then : List Want) → IsAlong tour.scope.lo tour.scope.hi B then tour'.place → IsUnderway B then tour'
  on_is then on = subst (λ (s : Scope). IsAlong s.lo s.hi B then tour'.place) (sym same) on

  -- a mark that was met, and is what was shown, is the next one
  by_meets : (met : Met) (mark : Mark) → ShowsMark met mark → Meets tour.scope.lo tour.scope.hi B seen (left_of B old tour) new tour'.place tour'.leaf
      mark → Next met
  by_meets met mark shown h =
      record {
        past = h.past;
        mark = mark;
        shown = shown;
        first = h.met
            ∙ ap (λ p. prepend (want_marks h.past) (first (prog.Does mark) (tried B p))) left_is;
        on = on_is (seen ++ h.past) h.on;
        held = h.held;
      }

  -- what a tour answers that it met is its next mark, behind some wants
  pub next_is : (met : Met) → TourNextBy Is B seen old new tour tour' (Ok (Some met)) → Next met
  next_is (Block place header) h = record {
    past = want_of place.level h.pointer ∷ [];
    mark = marks.Block place h.block;
    shown = (tour.scope.sums, (h.block, h.header_is, refl));
    first = h.met ∙ ap (λ p. first (prog.Wants (want_of place.level h.pointer)) (first (prog.Does (marks.Block place h.block)) (tried B p))) left_is;
    on = on_is (seen ++ want_of place.level h.pointer ∷ []) h.on;
    held = h.held;
  }
  next_is (Child block place) h = by_meets (Child block place) (marks.Child block place) refl h
  next_is (Item found) h = by_meets (Item found) (marks.Item (item_of found)) refl h
  next_is (Fault f) h = by (reason f) refl h
    where
      by : (r : Option fate.Fault) → reason f ≡ r → IsSomeAnd r
          (λ fault. Meets tour.scope.lo tour.scope.hi B seen (left_of B old tour) new tour'.place tour'.leaf (marks.Left fault)) → Next (Fault f)
      by None is m = absurd m
      by (Some fault) is m = by_meets (Fault f) (marks.Left fault) (subst (λ r. IsSomeAnd r (λ x. marks.Left fault ≡ marks.Left x)) (sym is) refl) m

  module _ {St : Type 0} (step : St → Mark → St) (state state' : St) where
    -- where the next mark was treated, the visit went on behind it
    goes_next : (met : Met) (n : Next met) → state' ≡ step state n.mark → Goes step Is B seen old new tour tour' state state'
    goes_next met n taken = record {
      past = want_marks n.past ++ prog.Does n.mark ∷ [];
      is = n.first ∙ prepend-prepend (want_marks n.past) (prog.Does n.mark ∷ []) (tried B (left_of B new tour'));
      treated = taken ∙ ap (fold step state) (sym (behind_wants n.past n.mark).0);
      on = subst (λ (ws : List Want). IsUnderway B (seen ++ ws) tour') (sym (behind_wants n.past n.mark).1) n.on;
      held = subst (λ (ws : List Want). HoldsLeaf B (seen ++ ws) new tour') (sym (behind_wants n.past n.mark).1) n.held;
    }

    -- a call that met a mark and treated it went on behind it
    pub met_some : {E : Type 0} (met : Met) (result : Result Bool (FoldFault E)) → IsTaken step state met state' result
        → TourNextBy Is B seen old new tour tour' (Ok (Some met)) → MeetsBy step Is B seen old new tour tour' state state' result
    met_some met (Ok true) taken h = let n = next_is met h in goes_next met n (taken n.mark n.shown)
    met_some met (Ok false) taken h = absurd taken
    met_some met (Err (Tree f)) taken h = absurd taken
    met_some met (Err (Own e)) taken h = tt

module _ {St : Type 0} (step : St → Mark → St) (B : Map) (store : Blocks) (tour : Tour) (state : St) where
  -- how far a visit has come; what is said of blocks that could not be read doesn't count here
  abbrev pub Led : (UnreadBlock → Want → Type 0) → Blocks → Tour → St → Type 0
  Led Is store' tour' state' = (seen : List Want) → IsUnderway B seen tour → HoldsLeaf B seen store tour
      → Goes step Is B seen store store' tour tour' state state'

  -- a visit that met nothing yet has come to where it began
  pub led_none : (Is : UnreadBlock → Want → Type 0) → Led Is store tour state
  led_none Is seen on held = record {
    past = [];
    is = refl;
    treated = refl;
    on = subst (λ (ws : List Want). IsUnderway B ws tour) (sym (append-nil seen)) on;
    held = subst (λ (ws : List Want). HoldsLeaf B ws store tour) (sym (append-nil seen)) held;
  }

  module _ (Was Is : UnreadBlock → Want → Type 0) (now : Blocks) (tour-now : Tour) (state-now : St) where
    -- a visit that came so far, and then met and treated one mark more, came farther
    pub led_more : (E : Type 0) (Now : UnreadBlock → Want → Type 0) (store' : Blocks) (tour' : Tour) (state' : St) → Led Was now tour-now state-now
        → IsMet step Now B {E = E} now store' tour-now tour' state-now state' (Ok true) → Led Is store' tour' state'
    led_more E Now store' tour' state' led met seen on held =
        let seen_then : (ps qs : List (prog.Mark Want Mark)) → (seen ++ wants_of ps) ++ wants_of qs ≡ seen ++ wants_of (ps ++ qs) =
        λ ps qs. append_assoc seen (wants_of ps) (wants_of qs) ∙ ap (λ ws. seen ++ ws) (sym (wants_of-append ps qs)) in
        let before = led seen on held in
        let after = met (seen ++ wants_of before.past) before.on before.held in
        record {
          past = before.past ++ after.past;
          is = past_then (tried B (left_of B store tour)) (tried B (left_of B now tour-now)) before.past after.past (tried B (left_of B store' tour'))
              before.is after.is;
          treated = treated_then step state state-now state' before.past after.past before.treated after.treated;
          on = subst (λ (ws : List Want). IsUnderway B ws tour') (seen_then before.past after.past) after.on;
          held = subst (λ (ws : List Want). HoldsLeaf B ws store' tour') (seen_then before.past after.past) after.held;
        }

    -- a visit that came so far, and has nothing left to meet, treated all that there was
    pub led_ends : (E : Type 0) (Now : UnreadBlock → Want → Type 0) (store' : Blocks) (tour' : Tour) (state' : St) → Led Was now tour-now state-now
        → IsMet step Now B {E = E} now store' tour-now tour' state-now state' (Ok false) → IsRun step Is B {E = E} store tour state state' (Ok tt)
    led_ends E Now store' tour' state' led met seen on held =
        let before = led seen on held in
        let after = met (seen ++ wants_of before.past) before.on before.held in
        let all : tried B (left_of B store tour) ≡ prepend before.past (run [] (Ok tt)) = before.is ∙ ap (λ p. prepend before.past (tried B p)) after.0 in
        after.1 ∙ before.treated ∙ ap (λ ms. fold step state (steps_of ms)) (sym (append-nil before.past))
        ∙ ap (λ (r : Run Want fate.Fault Mark (Unit {0})). fold step state (steps_of r.marks)) (sym all)

    -- a visit that came so far, and then could not read a block, treated the marks before it
    pub led_halts : (E : Type 0) (Now : UnreadBlock → Want → Type 0) (store' : Blocks) (tour' : Tour) (state' : St) (f : TreeFault)
        → ((u : UnreadBlock) (w : Want) → Now u w → Is u w) → Led Was now tour-now state-now
        → IsMet step Now B {E = E} now store' tour-now tour' state-now state' (Err (Tree f)) → IsRun step Is B {E = E} store tour state state' (Err (Tree f))
    led_halts E Now store' tour' state' f weaker led met seen on held =
        let before = led seen on held in
        let after = met (seen ++ wants_of before.past) before.on before.held in
        let rest : Run Want fate.Fault Mark (Unit {0}) = tried B (left_of B now tour-now) in
        record {
          done = steps_of before.past;
          treated = after.1 ∙ before.treated;
          refused = subst (λ r. Follows Is no_part seen r (steps_of before.past) (Err (halt_of f))) (sym before.is)
              (subst (λ (done : List Mark). Follows Is no_part seen (prepend before.past rest) done (Err (halt_of f))) (append-nil (steps_of before.past))
              (follows_behind Is no_part seen before.past rest [] (Err (halt_of f))
              (follows_as Now Is weaker no_part (seen ++ wants_of before.past) rest [] (Err (halt_of f)) after.0)));
        }

    -- a visit that came so far, and then ends in a fault, treated what was met as far as the fault says
    pub any_fault : (E : Type 0) (Now : UnreadBlock → Want → Type 0) (store' : Blocks) (tour' : Tour) (state' : St) (fault : FoldFault E)
        → ((u : UnreadBlock) (w : Want) → Now u w → Is u w) → Led Was now tour-now state-now
        → IsMet step Now B {E = E} now store' tour-now tour' state-now state' (Err fault) → IsRun step Is B {E = E} store tour state state' (Err fault)
    any_fault E Now store' tour' state' (Tree f) weaker led met = led_halts E Now store' tour' state' f weaker led met
    any_fault E Now store' tour' state' (Own e) weaker led met = λ seen on held. tt

-- a visit from the beginning
module _ {St : Type 0} (E : Type 0) (step : St → Mark → St) (Is : UnreadBlock → Want → Type 0) (B : Map) (store : Blocks) (tour : Tour) (root : RootPlace)
    (old new : St) (all : left_of B store tour ≡ tour_prog first_key last_key root) (on : IsUnderway B [] tour) (held : HoldsLeaf B [] store tour) where
  -- a visit of all that a tour meets from the root on is a visit of the tree
  pub visit_begun : (result : Result (Unit {0}) (FoldFault E)) → IsRun step Is B {E = E} store tour old new result
      → Visits step Is B {E = E} root old new result
  visit_begun (Ok u) h = h [] on held ∙ ap (λ p. fold step old (steps_of (tried B p).marks)) all ∙ ap (fold step old) (marks_law B root first_key last_key)
  visit_begun (Err (Tree f)) h = subst (λ p. TreatsUpTo step Is B [] (tried B p) old new f) all (h [] on held)
  visit_begun (Err (Own e)) h = tt

-- the cause of what was to be read next is a cause
pub cause_is : (layout : Layout) (before now : Seen) (o : Option Want) (f : TreeFault) → IsSomeAnd o (λ want. CauseOf layout want before now f)
    → FaultCause layout before now f
cause_is layout before now None f h = absurd h
cause_is layout before now (Some w) (tree.Lost a) h = (w, h)
cause_is layout before now (Some w) (tree.Unread a slot) h = (w, h)
cause_is layout before now (Some w) (tree.Unmapped a) h = (w, h)
cause_is layout before now (Some w) (tree.Crosses a) h = (w, h)
cause_is layout before now (Some w) (tree.Malformed a) h = tt

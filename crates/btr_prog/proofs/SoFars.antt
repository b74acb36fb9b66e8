-- How far a loop has come in a run.
use Rattle.std.proofs.Common.{◌≡◌, ℕ, List, [], ◌∷◌, ◌++◌, Option, Result, Ok, Err, refl, sym, ap, ◌∙◌, subst, append-nil, append_assoc}
use Rattle.btr_prog.specs.Prog.{BlockMap, Prog, Mark, Wants, Does, Run, run, first, prepend, exec, after, steps_of, wants_of}
use Rattle.btr_prog.specs.Thread.{thread, go_on_run, thread_run}
use Rattle.btr_prog.specs.Answers.{Halt, Follows}
use Rattle.btr_prog.specs.Goes.{GoesTo, AfterTo, GoOnTo, ThreadsTo}
use Rattle.btr_prog.proofs.Runs.{steps_of-append, wants_of-append, prepend-prepend}
use Rattle.btr_prog.proofs.Threads.{exec-thread}
use Rattle.btr_prog.proofs.Follow.{follows_behind, follows_halt}
use Rattle.btr_prog.proofs.Choices.{goes_map}

-- Of a run that Whole allows some first marks are past: `seen` are their wants, and exactly their steps are done.
-- What comes then is any run that Rest allows.
pub record SoFar {W F S A : Type 0} (Whole Rest : Run W F S A → Type 0) (seen : List W) (done : List S) : Type 0 where
  pub before : List (Mark W S)
  pub wants : seen ≡ wants_of before
  pub steps : done ≡ steps_of before
  pub goes : (q : Run W F S A) → Rest q → Whole (prepend before q)

module _ {W F S A : Type 0} where
  -- nothing is past yet
  pub so_far_none : (Whole : Run W F S A → Type 0) → SoFar Whole Whole [] []
  so_far_none Whole = record { before = []; wants = refl; steps = refl; goes = λ q h. h }

  -- some more marks are past
  pub so_far_more : (Whole Rest Then : Run W F S A → Type 0) (seen : List W) (done : List S) (ms : List (Mark W S))
      → ((q : Run W F S A) → Then q → Rest (prepend ms q)) → SoFar Whole Rest seen done → SoFar Whole Then (seen ++ wants_of ms) (done ++ steps_of ms)
  so_far_more Whole Rest Then seen done ms f s = record {
    before = s.before ++ ms;
    wants = ap (λ x. x ++ wants_of ms) s.wants ∙ sym (wants_of-append s.before ms);
    steps = ap (λ x. x ++ steps_of ms) s.steps ∙ sym (steps_of-append s.before ms);
    goes = λ q h. subst Whole (prepend-prepend s.before ms q) (s.goes (prepend ms q) (f q h));
  }

  -- what is answered of the rest is answered of the whole
  pub so_far_ends : {U : Type 0} (Is : U → W → Type 0) (part : S → ℕ → Option S) (Whole Rest : Run W F S A → Type 0) (seen : List W)
      (done more : List S) (ans : Result A (Halt F U)) → SoFar Whole Rest seen done → (q : Run W F S A) × Rest q × Follows Is part seen q more ans
      → (r : Run W F S A) × Whole r × Follows Is part [] r (done ++ more) ans
  so_far_ends Is part Whole Rest seen done more ans s h = (
    prepend s.before h.0,
    s.goes h.0 h.1,
    subst (λ (x : List S). Follows Is part [] (prepend s.before h.0) (x ++ more) ans) (sym s.steps)
        (follows_behind Is part [] s.before h.0 more ans (subst (λ (x : List W). Follows Is part x h.0 more ans) s.wants h.2)),
  )

-- a run that Whole allows has the answer
abbrev pub Answers : {W F S A U : Type 0} → (U → W → Type 0) → (S → ℕ → Option S) → (Run W F S A → Type 0) → List S → Result A (Halt F U) → Type 0
Answers Is part Whole done ans = (r : Run _ _ _ _) × Whole r × Follows Is part [] r done ans

module _ {W F S A T St R : Type 0} (Body : St → S → Run W F T (Result St R) → Type 0) (fin : St → A → R) (ms : List (Mark W S)) (e : Result A F) where
  -- the run treats the items that are left, from a state
  abbrev Left : St → Run W F T R → Type 0
  Left st = ThreadsTo Body fin st ms e

  -- the run treats one item from a state, and then those that are left
  abbrev LeftFrom : St → S → Run W F T R → Type 0
  LeftFrom st s = ThreadsTo Body fin st (Does s ∷ ms) e

  -- the marks of a body that gave a new state stand before a run that treats what is left
  treated : (st' : St) (marks : List (Mark W T)) (x : Result (Result St R) F) (q : Run W F T R) → x ≡ Ok (Ok st') → Left st' q
      → AfterTo marks x (GoOnTo Left) (prepend marks q)
  treated st' marks x q i h = subst (λ y. AfterTo marks y (GoOnTo Left) (prepend marks q)) (sym i) (q, refl, h)

  -- an item was treated by a run of its body, and the next is to come
  pub so_far_step : {U : Type 0} (Is : U → W → Type 0) (part : T → ℕ → Option T) (Whole : Run W F T R → Type 0) (seen : List W) (done more : List T)
      (st st' : St) (s : S) (b : Run W F T (Result St R)) → Body st s b → Follows Is part seen b more (Ok (Ok st'))
      → SoFar Whole (LeftFrom st s) seen done → SoFar Whole (Left st') (seen ++ wants_of b.marks) (done ++ more)
  so_far_step Is part Whole seen done more st st' s b g f sofar =
      subst (λ (x : List T). SoFar Whole (Left st') (seen ++ wants_of b.marks) (done ++ x)) (sym f.0)
      (so_far_more Whole (LeftFrom st s) (Left st') seen done b.marks (λ q h. (b, g, treated st' b.marks b.ending q f.1 h)) sofar)

  -- an item was treated, and ends the whole
  pub so_far_early : {U : Type 0} (Is : U → W → Type 0) (part : T → ℕ → Option T) (Whole : Run W F T R → Type 0) (seen : List W) (done more : List T)
      (st : St) (x : R) (s : S) (b : Run W F T (Result St R)) → Body st s b → Follows Is part seen b more (Ok (Err x))
      → SoFar Whole (LeftFrom st s) seen done → Answers Is part Whole (done ++ more) (Ok x)
  so_far_early Is part Whole seen done more st x s b g f sofar =
      let q = run b.marks (Ok x) in
      so_far_ends Is part Whole (LeftFrom st s) seen done more (Ok x) sofar (
        q,
        (b, g, subst (λ y. AfterTo b.marks y (GoOnTo Left) q) (sym f.1) (run [] (Ok x), ap (λ y. run y (Ok x)) (sym (append-nil b.marks)), refl)),
        (f.0, refl),
      )

  -- a body of any ending goes on by some run
  after_some : (k : St → Run W F T R) → ((st : St) → Left st (k st)) → (marks : List (Mark W T)) (x : Result (Result St R) F)
      → AfterTo marks x (GoOnTo Left) (after marks x (go_on_run k))
  after_some k h marks (Ok (Ok st)) = (k st, refl, h st)
  after_some k h marks (Ok (Err y)) = (run [] (Ok y), refl, refl)
  after_some k h marks (Err f) = refl

  -- an item was not treated to its end, which ends the whole; k is how it might have gone on
  pub so_far_halts : {U : Type 0} (Is : U → W → Type 0) (part : T → ℕ → Option T) (Whole : Run W F T R → Type 0) (seen : List W) (done more : List T)
      (st : St) (s : S) (b : Run W F T (Result St R)) (halt : Halt F U) (k : St → Run W F T R) → ((st' : St) → Left st' (k st')) → Body st s b
      → Follows Is part seen b more (Err halt) → SoFar Whole (LeftFrom st s) seen done → Answers Is part Whole (done ++ more) (Err halt)
  so_far_halts Is part Whole seen done more st s b halt k h g f sofar =
      so_far_ends Is part Whole (LeftFrom st s) seen done more (Err halt) sofar
      (after b.marks b.ending (go_on_run k), (b, g, after_some k h b.marks b.ending), follows_halt Is part seen b (go_on_run k) more halt f)

module _ {W F S A T St R : Type 0} (Body : St → S → Run W F T (Result St R) → Type 0) (fin : St → A → R) where
  -- all items were treated
  pub so_far_ended : {U : Type 0} (Is : U → W → Type 0) (part : T → ℕ → Option T) (Whole : Run W F T R → Type 0) (seen : List W) (done : List T)
      (st : St) (a : A) → SoFar Whole (ThreadsTo Body fin st [] (Ok a)) seen done → Answers Is part Whole done (Ok (fin st a))
  so_far_ended Is part Whole seen done st a sofar =
      subst (λ (x : List T). Answers Is part Whole x (Ok (fin st a))) (append-nil done)
      (so_far_ends Is part Whole (ThreadsTo Body fin st [] (Ok a)) seen done [] (Ok (fin st a)) sofar (run [] (Ok (fin st a)), refl, (refl, refl)))

-- Where the items that are left are known, and not the wants between them: the next item, or the end
module _ {W F S A T St R : Type 0} (Body : St → S → Run W F T (Result St R) → Type 0) (fin : St → A → R) (e : Result A F) (Whole : Run W F T R → Type 0)
    (done : List T) (st : St) where
  -- so far some wants are past, and a run that treats these marks is to come
  abbrev Ahead : List (Mark W S) → List W → Type 0
  Ahead ms seen = SoFar Whole (ThreadsTo Body fin st ms e) seen done

  -- some more wants are past, and an item comes next, with the others behind it
  abbrev pub Next : S → List S → List W → Type 0
  Next s items seen = (more : List W) × (ms : List (Mark W S)) × (steps_of ms ≡ items) × Ahead (Does s ∷ ms) (seen ++ more)

  -- some more wants are past, and no item is left
  abbrev pub Last : List W → Type 0
  Last seen = (more : List W) × Ahead [] (seen ++ more)

  -- a want that comes first is past
  past_want : (w : W) (ms : List (Mark W S)) (seen : List W) → Ahead (Wants w ∷ ms) seen → Ahead ms (seen ++ (w ∷ []))
  past_want w ms seen s = subst (λ (x : List T). SoFar Whole (ThreadsTo Body fin st ms e) (seen ++ (w ∷ [])) x) (append-nil done)
      (so_far_more Whole (ThreadsTo Body fin st (Wants w ∷ ms) e) (ThreadsTo Body fin st ms e) seen done (Wants w ∷ []) (λ q h. (q, refl, h)) s)

  -- no more wants are past
  here : (ms : List (Mark W S)) (seen : List W) → Ahead ms seen → Ahead ms (seen ++ [])
  here ms seen s = subst (Ahead ms) (sym (append-nil seen)) s

  -- where an item is left, it comes next behind some wants
  pub so_far_next : (ms : List (Mark W S)) (s : S) (items : List S) (seen : List W) → steps_of ms ≡ s ∷ items → Ahead ms seen → Next s items seen
  so_far_next [] s items seen i sofar = cc
  so_far_next (Wants w ∷ ms) s items seen i sofar =
      let n = so_far_next ms s items (seen ++ (w ∷ [])) i (past_want w ms seen sofar) in
      (w ∷ n.0, n.1, n.2, subst (Ahead (Does s ∷ n.1)) (append_assoc seen (w ∷ []) n.0) n.3)
  so_far_next (Does t ∷ ms) s items seen i sofar =
      let same : t ≡ s = cc in
      let rest : steps_of ms ≡ items = cc in
      ([], ms, rest, here (Does s ∷ ms) seen (subst (λ x. Ahead (Does x ∷ ms) seen) same sofar))

  -- where no item is left, only wants are, and they are past
  pub so_far_last : (ms : List (Mark W S)) (seen : List W) → steps_of ms ≡ [] → Ahead ms seen → Last seen
  so_far_last [] seen i sofar = ([], here [] seen sofar)
  so_far_last (Wants w ∷ ms) seen i sofar =
      let n = so_far_last ms (seen ++ (w ∷ [])) i (past_want w ms seen sofar) in
      (w ∷ n.0, subst (Ahead []) (append_assoc seen (w ∷ []) n.0) n.1)
  so_far_last (Does t ∷ ms) seen i sofar = cc

module _ {W F S A T St R I : Type 0} (Bs : I → BlockMap W F) (i : I) (body : St → S → Prog W F T (Result St R)) (fin : St → A → R) where
  -- the run that treats these marks by the runs of one of the maps
  abbrev pub some_run : St → List (Mark W S) → Result A F → Run W F T R
  some_run st ms e = thread_run (λ st' s. exec (Bs i) (body st' s)) fin st ms e

  -- a run of the body, by any of the maps
  abbrev Goings : St → S → Run W F T (Result St R) → Type 0
  Goings st s b = GoesTo Bs (body st s) b

  -- what comes after a body can be a run by one of the maps
  after_map : (ms : List (Mark W S)) (e : Result A F) → ((st : St) → ThreadsTo Goings fin st ms e (some_run st ms e))
      → (marks : List (Mark W T)) (x : Result (Result St R) F)
      → AfterTo marks x (GoOnTo (λ st. ThreadsTo Goings fin st ms e)) (after marks x (go_on_run (λ st. some_run st ms e)))
  after_map ms e h marks (Ok (Ok st)) = (some_run st ms e, refl, h st)
  after_map ms e h marks (Ok (Err y)) = (run [] (Ok y), refl, refl)
  after_map ms e h marks (Err f) = refl

  -- items can be treated in some way
  pub threads_map : (st : St) (ms : List (Mark W S)) (e : Result A F) → ThreadsTo Goings fin st ms e (some_run st ms e)
  threads_map st [] e = refl
  threads_map st (Wants w ∷ ms) e = (some_run st ms e, refl, threads_map st ms e)
  threads_map st (Does s ∷ ms) e =
      let b = exec (Bs i) (body st s) in
      (b, goes_map Bs i (body st s), after_map ms e (λ st'. threads_map st' ms e) b.marks b.ending)

module _ {W F S A T St R : Type 0} (B : BlockMap W F) (body : St → S → Prog W F T (Result St R)) (fin : St → A → R) where
  -- a run of the body under the map B
  abbrev Exec : St → S → Run W F T (Result St R) → Type 0
  Exec st s b = b ≡ exec B (body st s)

  -- where each run that goes on is known, what comes after a body is one run
  after_one : (ms : List (Mark W T)) (e : Result (Result St R) F) (K : St → Run W F T R → Type 0) (k : St → Run W F T R) (r : Run W F T R)
      → ((st : St) (q : Run W F T R) → K st q → q ≡ k st) → AfterTo ms e (GoOnTo K) r → r ≡ after ms e (go_on_run k)
  after_one ms (Ok (Ok st)) K k r f h = h.1 ∙ ap (prepend ms) (f st h.0 h.2)
  after_one ms (Ok (Err x)) K k r f h = h.1 ∙ ap (prepend ms) h.2
  after_one ms (Err x) K k r f h = h

  -- where each body has one run, treating these marks has one
  threads_one : (st : St) (ms : List (Mark W S)) (e : Result A F) (r : Run W F T R) → ThreadsTo Exec fin st ms e r → r
      ≡ thread_run (λ st' s. exec B (body st' s)) fin st ms e
  threads_one st [] e r h = h
  threads_one st (Wants w ∷ ms) e r h = h.1 ∙ ap (first (Wants w)) (threads_one st ms e h.0 h.2)
  threads_one st (Does s ∷ ms) e r h =
      let b = exec B (body st s) in
      after_one b.marks b.ending (λ st'. ThreadsTo Exec fin st' ms e) (λ st'. thread_run (λ st'' s'. exec B (body st'' s')) fin st' ms e) r
      (λ st' q g. threads_one st' ms e q g)
      (subst (λ (x : Run W F T (Result St R)). AfterTo x.marks x.ending (GoOnTo (λ st'. ThreadsTo Exec fin st' ms e)) r) h.1 h.2)

  -- where each body has one run, treating a program's items has one
  pub threads_exec : (st : St) (p : Prog W F S A) (r : Run W F T R) → ThreadsTo Exec fin st (exec B p).marks (exec B p).ending r → r
      ≡ exec B (thread body fin st p)
  threads_exec st p r h = threads_one st (exec B p).marks (exec B p).ending r h ∙ sym (exec-thread B body fin st p)

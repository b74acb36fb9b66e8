-- Programs that only show bytes, put together of such programs.
use Rattle.std.proofs.Common.{◌≡◌, ℕ, Bool, List, ◌∷◌, Result, Ok, Err, refl, ap, subst}
use Rattle.btr_prog.specs.Prog.{BlockMap, Prog, Return, Stop, Need, Emit, given, exec, needs, bind, wants_of}
use Rattle.btr_prog.specs.Thread.{thread, go_on}
use Rattle.btr_prog.specs.Blind.{SameWants, IsBlind}
use Rattle.btr_prog.specs.Stages.{Staged, Early, Late, renamed, unless_refused, staged}
use Rattle.btr_prog.specs.Quiet.{quiet}
use Rattle.btr_prog.specs.Shows.{AreAlike, OnlyShows}

module _ {W F S A : Type 0} (R : S → S → Type 0) where
  -- two programs want the same under a map and end alike
  abbrev Same : BlockMap W F → Prog W F S A → Prog W F S A → Type 0
  Same B p q = (needs B p ≡ needs B q) × ((exec B p).ending ≡ (exec B q).ending)

  -- of one want: where what follows wants the same and ends alike, so does the whole
  given_same : (B : BlockMap W F) (w : W) (x : Result (List ℕ) F) (k l : List ℕ → Prog W F S A) → ((b : List ℕ) → Same B (k b) (l b))
      → ((w ∷ wants_of (given x (λ b. exec B (k b))).marks) ≡ (w ∷ wants_of (given x (λ b. exec B (l b))).marks))
      × ((given x (λ b. exec B (k b))).ending ≡ (given x (λ b. exec B (l b))).ending)
  given_same B w (Ok b) k l h = (ap (λ ws. w ∷ ws) (h b).0, (h b).1)
  given_same B w (Err f) k l h = (refl, refl)

  -- alike programs want the same and end alike
  pub alike_wants : (p q : Prog W F S A) → AreAlike R p q → SameWants p q
  alike_wants (Return a) (Return b) e B = (refl, ap Ok e)
  alike_wants (Stop f) (Stop g) e B = (refl, ap Err e)
  alike_wants (Need w k) (Need v l) h B =
      subst (λ u. Same B (Need w k) (Need u l)) h.0 (given_same B w (B w) k l (λ b. alike_wants (k b) (l b) (h.1 b) B))
  alike_wants (Emit s p) (Emit t q) h B = alike_wants p q h.1 B
  alike_wants p q h B = absurd h

  -- so a program that only shows what may differ is blind to it
  pub shows_blind : (plain : W → Bool) (p : Prog W F S A) → OnlyShows R plain p → IsBlind plain p
  shows_blind plain (Return a) h = tt
  shows_blind plain (Stop f) h = tt
  shows_blind plain (Need w k) h = (λ b. shows_blind plain (k b) (h.0 b), λ t b c. alike_wants (k b) (k c) (h.1 t b c))
  shows_blind plain (Emit s p) h = shows_blind plain p h

  -- where each step is alike itself, a program is alike itself
  pub alike_refl : ((s : S) → R s s) → (p : Prog W F S A) → AreAlike R p p
  alike_refl r (Return a) = refl
  alike_refl r (Stop f) = refl
  alike_refl r (Need w k) = (refl, λ b. alike_refl r (k b))
  alike_refl r (Emit s p) = (r s, alike_refl r p)

module _ {W F S A C : Type 0} (R : S → S → Type 0) where
  -- alike programs, and then alike ones by their value, are alike
  pub alike_bind : (p q : Prog W F S A) (k l : A → Prog W F S C) → AreAlike R p q → ((a : A) → AreAlike R (k a) (l a)) → AreAlike R (bind p k) (bind q l)
  alike_bind (Return a) (Return b) k l e h = subst (λ x. AreAlike R (k a) (l x)) e (h a)
  alike_bind (Stop f) (Stop g) k l e h = e
  alike_bind (Need w g) (Need v f) k l e h = (e.0, λ b. alike_bind (g b) (f b) k l (e.1 b) h)
  alike_bind (Emit s p) (Emit t q) k l e h = (e.0, alike_bind p q k l e.1 h)
  alike_bind p q k l e h = absurd e

  module _ (all : (s : S) → R s s) (plain : W → Bool) where
    -- one program that only shows, and then another
    pub shows_bind : (p : Prog W F S A) (k : A → Prog W F S C) → OnlyShows R plain p → ((a : A) → OnlyShows R plain (k a)) → OnlyShows R plain (bind p k)
    shows_bind (Return a) k h g = g a
    shows_bind (Stop f) k h g = tt
    shows_bind (Need w f) k h g = (λ b. shows_bind (f b) k (h.0 b) g, λ t b c. alike_bind (f b) (f c) k k (h.1 t b c) (λ a. alike_refl R all (k a)))
    shows_bind (Emit s p) k h g = shows_bind p k h g

module _ {W F S T A St X : Type 0} (R : S → S → Type 0) (Q : T → T → Type 0) (all : (t : T) → Q t t) (body : St → S → Prog W F T (Result St X))
    (done : St → A → X) where
  -- on by the state or to the early end: alike programs stay alike
  alike_on : (k l : St → Prog W F T X) → ((st : St) → AreAlike Q (k st) (l st)) → (r : Result St X) → AreAlike Q (go_on k r) (go_on l r)
  alike_on k l h (Ok st) = h st
  alike_on k l h (Err x) = refl

  -- treating the steps of alike programs, by a body that is alike for alike steps, is alike
  pub alike_thread : ((st : St) (s t : S) → R s t → AreAlike Q (body st s) (body st t)) → (st : St) (p q : Prog W F S A) → AreAlike R p q
      → AreAlike Q (thread body done st p) (thread body done st q)
  alike_thread g st (Return a) (Return b) e = ap (done st) e
  alike_thread g st (Stop f) (Stop h) e = e
  alike_thread g st (Need w k) (Need v l) e = (e.0, λ b. alike_thread g st (k b) (l b) (e.1 b))
  alike_thread g st (Emit s p) (Emit t q) e =
      alike_bind Q (body st s) (body st t) (go_on (λ st'. thread body done st' p)) (go_on (λ st'. thread body done st' q)) (g st s t e.0)
      (alike_on (λ st'. thread body done st' p) (λ st'. thread body done st' q) (λ st'. alike_thread g st' p q e.1))
  alike_thread g st p q e = absurd e

  module _ (plain : W → Bool) where
    -- on by the state or to the early end: a program that only shows still does
    shows_on : (k : St → Prog W F T X) → ((st : St) → OnlyShows Q plain (k st)) → (r : Result St X) → OnlyShows Q plain (go_on k r)
    shows_on k h (Ok st) = h st
    shows_on k h (Err x) = tt

    -- treating the steps of a program that only shows, by a body that only shows
    pub shows_thread : ((st : St) (s : S) → OnlyShows Q plain (body st s)) → ((st : St) (s t : S) → R s t → AreAlike Q (body st s) (body st t))
        → (st : St) (p : Prog W F S A) → OnlyShows R plain p → OnlyShows Q plain (thread body done st p)
    shows_thread h g st (Return a) e = tt
    shows_thread h g st (Stop f) e = tt
    shows_thread h g st (Need w k) e = (λ b. shows_thread h g st (k b) (e.0 b), λ t b c. alike_thread g st (k b) (k c) (e.1 t b c))
    shows_thread h g st (Emit s p) e = shows_bind Q all plain (body st s) (go_on (λ st'. thread body done st' p)) (h st s)
        (shows_on (λ st'. thread body done st' p) (λ st'. shows_thread h g st' p e))

module _ {W F S A : Type 0} (R : ⊥ → ⊥ → Type 0) (Q : S → S → Type 0) where
  -- alike programs without steps are alike as parts
  pub alike_quiet : (p q : Prog W F ⊥ A) → AreAlike R p q → AreAlike Q (quiet p) (quiet q)
  alike_quiet (Return a) (Return b) e = e
  alike_quiet (Stop f) (Stop g) e = e
  alike_quiet (Need w k) (Need v l) e = (e.0, λ b. alike_quiet (k b) (l b) (e.1 b))
  alike_quiet (Emit s p) q e = absurd s
  alike_quiet p q e = absurd e

  -- a program without steps that only shows does so as a part
  pub shows_quiet : (plain : W → Bool) (p : Prog W F ⊥ A) → OnlyShows R plain p → OnlyShows Q plain (quiet p)
  shows_quiet plain (Return a) h = tt
  shows_quiet plain (Stop f) h = tt
  shows_quiet plain (Need w k) h = (λ b. shows_quiet plain (k b) (h.0 b), λ t b c. alike_quiet (k b) (k c) (h.1 t b c))
  shows_quiet plain (Emit s p) h = absurd s

module _ {V W F S A : Type 0} (f : V → W) (R : S → S → Type 0) where
  -- alike programs are alike where their wants go by other names
  pub alike_renamed : (p q : Prog V F S A) → AreAlike R p q → AreAlike R (renamed f p) (renamed f q)
  alike_renamed (Return a) (Return b) e = e
  alike_renamed (Stop x) (Stop y) e = e
  alike_renamed (Need w k) (Need v l) e = (ap f e.0, λ b. alike_renamed (k b) (l b) (e.1 b))
  alike_renamed (Emit s p) (Emit t q) e = (e.0, alike_renamed p q e.1)
  alike_renamed p q e = absurd e

  -- a program that only shows does so where its wants go by other names
  pub shows_renamed : (plain : W → Bool) (p : Prog V F S A) → OnlyShows R (λ v. plain (f v)) p → OnlyShows R plain (renamed f p)
  shows_renamed plain (Return a) h = tt
  shows_renamed plain (Stop x) h = tt
  shows_renamed plain (Need w k) h = (λ b. shows_renamed plain (k b) (h.0 b), λ t b c. alike_renamed (k b) (k c) (h.1 t b c))
  shows_renamed plain (Emit s p) h = shows_renamed plain p h

module _ {T X W F S A : Type 0} (R : S → S → Type 0) (all : (s : S) → R s s) (plain : Staged T W → Bool) (refused : X → A) where
  -- the rest under any table, or the refusal, only shows
  shows_rest : (k : T → Prog W F S A) → ((t : T) → OnlyShows R (λ w. plain (Late t w)) (k t)) → (x : Result T X)
      → OnlyShows R plain (unless_refused refused (λ (t : T). renamed (Late t) (k t)) x)
  shows_rest k h (Ok t) = shows_renamed (Late t) R plain (k t) (h t)
  shows_rest k h (Err x) = tt

  -- two parts, each of which only shows
  pub shows_staged : (p : Prog W F S (Result T X)) (k : T → Prog W F S A) → OnlyShows R (λ w. plain (Early w)) p
      → ((t : T) → OnlyShows R (λ w. plain (Late t w)) (k t)) → OnlyShows R plain (staged refused p k)
  shows_staged p k h g = shows_bind R all plain (renamed Early p) (unless_refused refused (λ (t : T). renamed (Late t) (k t)))
      (shows_renamed Early R plain p h) (shows_rest k g)

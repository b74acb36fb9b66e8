-- Two programs over the same blocks, side by side: where the first comes to a value, so does the other.
use Rattle.std.proofs.Common.{◌≡◌, ℕ, List, [], ◌∷◌, ◌++◌, Result, Ok, Err, refl, sym, ap, ◌∙◌, subst, append-nil, append_assoc}
use Rattle.std.specs.Prelude.{fold}
use Rattle.btr_prog.specs.Prog.{BlockMap, Prog, Return, Stop, Need, Emit, Run, prepend, given, exec, steps, steps_of, bind, after}
use Rattle.btr_prog.specs.Quiet.{quiet}
use Rattle.btr_prog.specs.Thread.{thread, go_on}
use Rattle.btr_prog.proofs.Runs.{exec-bind, after-ok, steps_of-append}
use Rattle.btr_listing.proofs.Decidings.{Gives}
use Rattle.btr_restore.proofs.Doing.{fold-append}

-- what holds of one value of a result holds of another, as it has but one
same_value : {A F : Type 0} (P : A → Type 0) (a b : A) (x : Result A F) → x ≡ Ok a → x ≡ Ok b → P a → P b
same_value P a b x d e h = let is : a ≡ b = cc (d, e) in subst P is h

-- a fault is no value
no_value : {A F : Type 0} (f : F) (a : A) → Err f ≡ Ok a → ⊥
no_value f a e = cc e

module _ {W F S M : Type 0} (step_after : M → S → M) (B : BlockMap W F) where
  -- what holds of both states and both values
  abbrev pub Claim : Type 0 → Type 0 → Type 1
  Claim A C = M → M → A → C → Type 0

  -- a program comes to a value
  abbrev pub Ends : {A : Type 0} → Prog W F S A → A → Type 0
  Ends p a = (exec B p).ending ≡ Ok a

  -- what the steps of a program make of a state
  abbrev pub after_all : {A : Type 0} → M → Prog W F S A → M
  after_all m p = fold step_after m (steps B p)

  -- where the first comes to a value, the other does too, and the claim holds of what their steps made
  abbrev pub Both : {A C : Type 0} → Claim A C → M → M → Prog W F S A → Prog W F S C → Type 0
  Both {A} {C} K m t p q = (a : A) → Ends p a → (c : C) × Ends q c × K (after_all m p) (after_all t q) a c

  -- where a run and what comes after it end with a value, the run ended with one from which that comes
  after_value : {A C : Type 0} (r : Run W F S A) (e : Result A F) (k : A → Run W F S C) (c : C) → (after r.marks e k).ending ≡ Ok c
      → (a : A) × (e ≡ Ok a) × ((k a).ending ≡ Ok c)
  after_value r (Ok a) k c h = (a, refl, h)
  after_value r (Err f) k c h = absurd (no_value f c h)

  -- a program that came to a value, and then another
  pub bind_value : {A C : Type 0} (p : Prog W F S A) (k : A → Prog W F S C) (c : C) → Ends (bind p k) c → (a : A) × Ends p a × Ends (k a) c
  bind_value p k c h =
      let r = exec B p in
      after_value r r.ending (λ a. exec B (k a)) c (sym (ap (λ (r : Run W F S _). r.ending) (exec-bind B p k)) ∙ h)

  -- the run of a program that came to a value, and then that of the next
  bind_run : {A C : Type 0} (p : Prog W F S A) (k : A → Prog W F S C) (a : A) → Ends p a → exec B (bind p k) ≡ prepend (exec B p).marks (exec B (k a))
  bind_run p k a e = exec-bind B p k ∙ after-ok (exec B p) a (λ x. exec B (k x)) e

  -- two programs in a row come to a value, if the first comes to one from which the second comes to it
  pub bind_ends : {A C : Type 0} (p : Prog W F S A) (k : A → Prog W F S C) (a : A) (c : C) → Ends p a → Ends (k a) c → Ends (bind p k) c
  bind_ends p k a c e h = ap (λ (r : Run W F S _). r.ending) (bind_run p k a e) ∙ h

  -- what two programs in a row make is what the second makes of what the first made
  bind_after : {A C : Type 0} (m : M) (p : Prog W F S A) (k : A → Prog W F S C) (a : A) → Ends p a → after_all m (bind p k) ≡ after_all (after_all m p) (k a)
  bind_after m p k a e =
      ap (λ (r : Run W F S _). fold step_after m (steps_of r.marks)) (bind_run p k a e)
      ∙ (ap (fold step_after m) (steps_of-append (exec B p).marks (exec B (k a)).marks) ∙ fold-append step_after m (steps B p) (steps B (k a)))

  module _ {A C A' C' : Type 0} (J : Claim A C) (K : Claim A' C') where
    -- two programs in a row on both sides, if the second ones go on from what the first ones lead to
    pub both_bind : (m t : M) (p : Prog W F S A) (q : Prog W F S C) (k : A → Prog W F S A') (l : C → Prog W F S C') → Both J m t p q
        → ((m t : M) (a : A) (c : C) → J m t a c → Both K m t (k a) (l c)) → Both K m t (bind p k) (bind q l)
    both_bind m t p q k l h g a' e =
        let one = bind_value p k a' e in
        let two = h one.0 one.1 in
        let three = g (after_all m p) (after_all t q) one.0 two.0 two.2 a' one.2 in (
          three.0,
          bind_ends q l two.0 three.0 two.1 three.1,
          subst (λ x. K x (after_all t (bind q l)) a' three.0) (sym (bind_after m p k one.0 one.1))
              (subst (λ x. K (after_all (after_all m p) (k one.0)) x a' three.0) (sym (bind_after t q l two.0 two.1)) three.2),
        )

  -- what only the other does then
  pub both_then : {A C D : Type 0} (J : Claim A C) (K : Claim A D) (m t : M) (p : Prog W F S A) (q : Prog W F S C) (l : C → Prog W F S D) → Both J m t p q
      → ((m t : M) (a : A) (c : C) → J m t a c → Both K m t (Return a) (l c)) → Both K m t p (bind q l)
  both_then J K m t p q l h g a e =
      let two = h a e in
      let three = g (after_all m p) (after_all t q) a two.0 two.2 a refl in
      (three.0, bind_ends q l two.0 three.0 two.1 three.1, subst (λ x. K (after_all m p) x a three.0) (sym (bind_after t q l two.0 two.1)) three.2)

  -- two values of which the claim holds
  pub both_return : {A C : Type 0} (K : Claim A C) (m t : M) (a : A) (c : C) → K m t a c → Both K m t (Return a) (Return c)
  both_return K m t a c h b e = (c, refl, same_value (λ x. K m t x c) a b (exec {S = S} B (Return a)).ending refl e h)

  -- whatever is lost, there is no value
  both_given : {A C : Type 0} (K : Claim A C) (m t : M) (x : Result (List ℕ) F) (k : List ℕ → Prog W F S A) (l : List ℕ → Prog W F S C)
      → ((bytes : List ℕ) → Both K m t (k bytes) (l bytes)) → (a : A) → (given x (λ bytes. exec B (k bytes))).ending ≡ Ok a
      → (c : C) × ((given x (λ bytes. exec B (l bytes))).ending ≡ Ok c)
      × K (fold step_after m (steps_of (given x (λ bytes. exec B (k bytes))).marks)) (fold step_after t (steps_of (given x (λ bytes. exec B
      (l bytes))).marks)) a c
  both_given K m t (Ok bytes) k l h a e = h bytes a e
  both_given K m t (Err f) k l h a e = absurd (no_value f a e)

  -- the same block
  pub both_need : {A C : Type 0} (K : Claim A C) (m t : M) (w : W) (k : List ℕ → Prog W F S A) (l : List ℕ → Prog W F S C)
      → ((bytes : List ℕ) → Both K m t (k bytes) (l bytes)) → Both K m t (Need w k) (Need w l)
  both_need K m t w k l h a e = both_given K m t (B w) k l h a e

  -- the same lookup
  pub both_looks : {X A C : Type 0} (K : Claim A C) (Q : X → Type 0) (m t : M) (p : Prog W F ⊥ X) (k : X → Prog W F S A) (l : X → Prog W F S C)
      → Gives Q p → ((x : X) → Q x → Both K m t (k x) (l x)) → Both K m t (bind (quiet p) k) (bind (quiet p) l)
  both_looks K Q m t (Return x) k l g h = h x g
  both_looks K Q m t (Stop f) k l g h = λ a e. absurd (no_value f a e)
  both_looks K Q m t (Need w p) k l g h =
      both_need K m t w (λ bytes. bind (quiet (p bytes)) k) (λ bytes. bind (quiet (p bytes)) l) (λ bytes. both_looks K Q m t (p bytes) k l (g bytes) h)
  both_looks K Q m t (Emit step p) k l g h = absurd step

  -- two lookups that go on from the same one
  pub both_from : {X Y Z A C : Type 0} (K : Claim A C) (m t : M) (p : Prog W F ⊥ X) (f : X → Prog W F ⊥ Y) (g : X → Prog W F ⊥ Z) (k : Y
      → Prog W F S A) (l : Z → Prog W F S C)
      → ((x : X) → Both K m t (bind (quiet (f x)) k) (bind (quiet (g x)) l)) → Both K m t (bind (quiet (bind p f)) k) (bind (quiet (bind p g)) l)
  both_from K m t (Return x) f g k l h = h x
  both_from K m t (Stop e) f g k l h = λ a o. absurd (no_value e a o)
  both_from K m t (Need w p) f g k l h =
      both_need K m t w (λ bytes. bind (quiet (bind (p bytes) f)) k) (λ bytes. bind (quiet (bind (p bytes) g)) l) (λ bytes. both_from K m t (p bytes) f g k l h)
  both_from K m t (Emit step p) f g k l h = absurd step

  -- the items of two programs that are treated one after another, over the same items
  module _ {T A C : Type 0} (f : A → T → Prog W F S A) (g : C → T → Prog W F S C) (inv : List T → Claim A C) (all : List T) where
    -- an item is treated, and its value is the one to go on with
    abbrev by : {X : Type 0} → (X → T → Prog W F S X) → X → T → Prog W F S (Result X X)
    by h x t = bind (h x t) (λ y. Return (Ok y))

    -- the value behind the last item
    abbrev last : {X : Type 0} → X → Unit {0} → X
    last x u = x

    -- what holds behind some of all items holds behind one more
    abbrev pub Stepwise : Type 0
    Stepwise =
        (done : List T) (item : T) (rest : List T) → all ≡ done ++ (item ∷ rest) → (m t : M) (a : A) (c : C) → inv done m t a c
        → Both (inv (done ++ item ∷ [])) m t (f a item) (g c item)

    -- both sides go on, with values of which the claim holds
    abbrev Either : List T → Claim (Result A A) (Result C C)
    Either done m t (Ok a) (Ok c) = inv done m t a c
    Either done m t (Ok a) (Err c) = ⊥
    Either done m t (Err a) r = ⊥

    -- the items of a program are treated on both sides, and the claim holds behind all of them
    abbrev Each : A → C → M → M → Prog W F T (Unit {0}) → Type 0
    Each a c m t p = Both (inv all) m t (thread (by f) last a p) (thread (by g) last c p)

    -- items behind a want are treated on both sides, if so for all bytes of the want
    each_given : (x : Result (List ℕ) F) (k : List ℕ → Prog W F T (Unit {0})) (done : List T) (m t : M) (a : A) (c : C)
        → ((bytes : List ℕ) → all ≡ done ++ steps B (k bytes) → Each a c m t (k bytes))
        → all ≡ done ++ steps_of (given x (λ bytes. exec B (k bytes))).marks
        → (v : A) → (given x (λ bytes. exec B (thread (by f) last a (k bytes)))).ending ≡ Ok v
        → (z : C) × ((given x (λ bytes. exec B (thread (by g) last c (k bytes)))).ending ≡ Ok z)
        × inv all (fold step_after m (steps_of (given x (λ bytes. exec B (thread (by f) last a (k bytes)))).marks))
        (fold step_after t (steps_of (given x (λ bytes. exec B (thread (by g) last c (k bytes)))).marks)) v z
    each_given (Ok bytes) k done m t a c h e v o = h bytes e v o
    each_given (Err x) k done m t a c h e v o = absurd (no_value x v o)

    module _ (stepwise : Stepwise) where
      -- behind an item both sides go on, if they do so from values of which the claim holds
      mutual_on : (done : List T) (k : A → Prog W F S A) (l : C → Prog W F S C) → ((m t : M) (a : A) (c : C) → inv done m t a c
          → Both (inv all) m t (k a) (l c))
          → (m t : M) (r : Result A A) (z : Result C C) → Either done m t r z → Both (inv all) m t (go_on k r) (go_on l z)
      mutual_on done k l h m t (Ok a) (Ok c) i = h m t a c i
      mutual_on done k l h m t (Ok a) (Err c) i = absurd i
      mutual_on done k l h m t (Err a) z i = absurd i

      -- what holds behind some items, and behind each one more, holds behind all items on both sides
      pub both_each : (done : List T) (m t : M) (a : A) (c : C) (p : Prog W F T (Unit {0})) → all ≡ done ++ steps B p → inv done m t a c → Each a c m t p
      both_each done m t a c (Return u) e i = both_return (inv all) m t a c (subst (λ x. inv x m t a c) (sym (e ∙ append-nil done)) i)
      both_each done m t a c (Stop x) e i = λ v o. absurd (no_value x v o)
      both_each done m t a c (Need w k) e i = λ v o. each_given (B w) k done m t a c (λ bytes d. both_each done m t a c (k bytes) d i) e v o
      both_each done m t a c (Emit item p) e i =
          let next = done ++ item ∷ [] in
          both_bind (Either next) (inv all) m t (by f a item) (by g c item) (go_on (λ x. thread (by f) last x p)) (go_on (λ x. thread (by g) last x p))
          (both_bind (inv next) (Either next) m t (f a item) (g c item) (λ y. Return (Ok y)) (λ y. Return (Ok y)) (stepwise done item (steps B p) e m t a c i)
          (λ m t a c j. both_return (Either next) m t (Ok a) (Ok c) j))
          (mutual_on next (λ x. thread (by f) last x p) (λ x. thread (by g) last x p)
          (λ m t a c j. both_each next m t a c p (e ∙ sym (append_assoc done (item ∷ []) (steps B p))) j))

  -- where all items were treated, they came to their end
  module _ {T A : Type 0} (f : A → T → Prog W F S A) where
    -- an item is treated, and what it came to is the value to go on with
    abbrev item_by : A → T → Prog W F S (Result A A)
    item_by a t = bind (f a t) (λ y. Return (Ok y))

    -- what the last item came to
    abbrev last_by : A → Unit {0} → A
    last_by a u = a

    -- where items behind a want were treated to a value, the want's program came to its end, if so for all bytes
    ends_given : (x : Result (List ℕ) F) (k : List ℕ → Prog W F T (Unit {0})) (a v : A)
        → ((bytes : List ℕ) → Ends (thread item_by last_by a (k bytes)) v → (exec B (k bytes)).ending ≡ Ok tt)
        → (given x (λ bytes. exec B (thread item_by last_by a (k bytes)))).ending ≡ Ok v → (given x (λ bytes. exec B (k bytes))).ending ≡ Ok tt
    ends_given (Ok bytes) k a v h o = h bytes o
    ends_given (Err x) k a v h o = absurd (no_value x v o)

    -- where the items behind one were treated to a value, they came to their end
    ends_on : (a v : A) (item : T) (k : A → Prog W F S A) (e : Result (Unit {0}) F) → ((b : A) → Ends (k b) v → e ≡ Ok tt)
        → (r : Result A A) → Ends (item_by a item) r → Ends (go_on k r) v → e ≡ Ok tt
    ends_on a v item k e h (Ok b) i o = h b o
    ends_on a v item k e h (Err b) i o =
        let one = bind_value (f a item) (λ y. Return (Ok y)) (Err b) i in
        let never : ⊥ = cc (one.2) in absurd never

    -- where all items of a program were treated to a value, the program came to its end
    pub each_ends : (a v : A) (p : Prog W F T (Unit {0})) → Ends (thread item_by last_by a p) v → (exec B p).ending ≡ Ok tt
    each_ends a v (Return u) o = refl
    each_ends a v (Stop x) o = absurd (no_value x v o)
    each_ends a v (Need w k) o = ends_given (B w) k a v (λ bytes i. each_ends a v (k bytes) i) o
    each_ends a v (Emit item p) o =
        let one = bind_value (item_by a item) (go_on (λ x. thread item_by last_by x p)) v o in
        ends_on a v item (λ x. thread item_by last_by x p) (exec B p).ending (λ b i. each_ends b v p i) one.0 one.1 one.2

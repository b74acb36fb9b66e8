-- What holds of the steps of a run, by how it ends.
use Rattle.std.proofs.Common.{ℕ, List, [], ◌∷◌, ◌++◌, Result, Ok, Err, sym, subst, append-nil, append_assoc}
use Rattle.btr_scrub.proofs.Common.{Emit, Return, bind, exec, quiet, steps_of}
use Rattle.btr_prog.specs.Prog.{BlockMap, Prog, Stop, Need, given}
use Rattle.btr_prog.specs.Thread.{go_on, thread}

module _ {F S A : Type 0} where
  -- Q of the steps and the value at the end, or P of the steps before a fault
  abbrev pub Holds : (List S → A → Type 0) → (List S → Type 0) → List S → Result A F → Type 0
  Holds Q P xs (Ok a) = Q xs a
  Holds Q P xs (Err f) = P xs

  -- what holds at an end may be made less, that of a value and that of a fault
  holds_as : (Q R : List S → A → Type 0) (P T : List S → Type 0) → ((xs : List S) (a : A) → Q xs a → R xs a) → ((xs : List S) → P xs → T xs)
      → (xs : List S) (r : Result A F) → Holds Q P xs r → Holds R T xs r
  holds_as Q R P T one other xs (Ok a) h = one xs a h
  holds_as Q R P T one other xs (Err f) h = other xs h

  -- the same at either
  pub holds_of : (P : List S → Type 0) (xs : List S) (r : Result A F) → Holds (λ ys a. P ys) P xs r → P xs
  holds_of P xs (Ok a) h = h
  holds_of P xs (Err f) h = h

module _ {W F S : Type 0} (B : BlockMap W F) where
  -- a program's run ends so
  abbrev pub Ends : {A : Type 0} → Prog W F S A → (List S → A → Type 0) → (List S → Type 0) → Type 0
  Ends p Q P = Holds Q P (steps_of (exec B p).marks) (exec B p).ending

  -- what ends in one way ends in a weaker one
  pub ends_as : {A : Type 0} (p : Prog W F S A) (Q R : List S → A → Type 0) (P T : List S → Type 0) → ((xs : List S) (a : A) → Q xs a → R xs a)
      → ((xs : List S) → P xs → T xs) → Ends p Q P → Ends p R T
  ends_as p Q R P T one other h = holds_as Q R P T one other (steps_of (exec B p).marks) (exec B p).ending h

  -- a want, and what comes behind it
  pub ends_need : {A : Type 0} (w : W) (g : List ℕ → Prog W F S A) (Q : List S → A → Type 0) (P : List S → Type 0) → P []
      → ((bytes : List ℕ) → Ends (g bytes) Q P) → Ends (Need w g) Q P
  ends_need w g Q P none h = by (B w)
    where
      by : (r : Result (List ℕ) F) → Holds Q P (steps_of (given r (λ bytes. exec B (g bytes))).marks) (given r (λ bytes. exec B (g bytes))).ending
      by (Ok bytes) = h bytes
      by (Err f) = none

  -- a lookup, and what comes behind it
  pub ends_looks : {A C : Type 0} (p : Prog W F ⊥ A) (k : A → Prog W F S C) (Q : List S → C → Type 0) (P : List S → Type 0) → P []
      → ((a : A) → Ends (k a) Q P) → Ends (bind (quiet p) k) Q P
  ends_looks (Return a) k Q P none h = h a
  ends_looks (Stop f) k Q P none h = none
  ends_looks (Need w g) k Q P none h = ends_need w (λ bytes. bind (quiet (g bytes)) k) Q P none (λ bytes. ends_looks (g bytes) k Q P none h)
  ends_looks (Emit s p) k Q P none h = absurd s

  -- a program, and then another by its value
  pub ends_bind : {A C : Type 0} (p : Prog W F S A) (k : A → Prog W F S C) (Q : List S → A → Type 0) (R : List S → C → Type 0) (P : List S → Type 0)
      → Ends p Q P → ((a : A) (xs : List S) → Q xs a → Ends (k a) (λ ys c. R (xs ++ ys) c) (λ ys. P (xs ++ ys))) → Ends (bind p k) R P
  ends_bind (Return a) k Q R P h g = g a [] h
  ends_bind (Stop f) k Q R P h g = h
  ends_bind (Need w f) k Q R P h g = by (B w) h (λ bytes i. ends_bind (f bytes) k Q R P i g)
    where
      by : (r : Result (List ℕ) F) → Holds Q P (steps_of (given r (λ bytes. exec B (f bytes))).marks) (given r (λ bytes. exec B (f bytes))).ending
          → ((bytes : List ℕ) → Ends (f bytes) Q P → Ends (bind (f bytes) k) R P)
          → Holds R P (steps_of (given r (λ bytes. exec B (bind (f bytes) k))).marks) (given r (λ bytes. exec B (bind (f bytes) k))).ending
      by (Ok bytes) h rest = rest bytes h
      by (Err x) h rest = h
  ends_bind (Emit s p) k Q R P h g = ends_bind p k (λ xs a. Q (s ∷ xs) a) (λ zs c. R (s ∷ zs) c) (λ zs. P (s ∷ zs)) h (λ a xs q. g a (s ∷ xs) q)

-- a program yields steps of which something holds
abbrev pub Yields : {W F T A : Type 0} → (T → Type 0) → Prog W F T A → Type 0
Yields Is (Return a) = Unit {0}
Yields Is (Stop f) = Unit {0}
Yields Is (Need w k) = (bytes : List ℕ) → Yields Is (k bytes)
Yields Is (Emit s p) = Is s × Yields Is p

-- each step of a program treated keeps what holds of all before, or leaves what holds before a fault
module _ {W F S T St : Type 0} (B : BlockMap W F) (treat : St → T → Prog W F S St) (Is : T → Type 0) (Inv : List S → St → Type 0) (Far : List S → Type 0)
    (so : (xs : List S) (st : St) → Inv xs st → Far xs)
    (one : (st : St) (s : T) → Is s → Ends B (treat st s) (λ ys st'. (xs : List S) → Inv xs st → Inv (xs ++ ys) st')
    (λ ys. (xs : List S) → Inv xs st → Far (xs ++ ys))) where
  -- what holds of all steps before and a state holds with these steps and the state behind them
  abbrev grows : St → List S → St → Type 0
  grows st ys st' = (xs : List S) → Inv xs st → Inv (xs ++ ys) st'

  -- what holds of all steps before and a state leaves with these steps what holds before a fault
  abbrev far : St → List S → Type 0
  far st ys = (xs : List S) → Inv xs st → Far (xs ++ ys)

  -- the same of what an item leaves, which is always a state to go on with
  abbrev kept : St → List S → Result St St → Type 0
  kept st ys (Ok st') = grows st ys st'
  kept st ys (Err r) = ⊥

  -- an item treated, which is gone on from with the state that it leaves
  abbrev body : St → T → Prog W F S (Result St St)
  body st s = bind (treat st s) (λ st'. Return (Ok st'))

  -- one item that is treated ends so
  once : (st : St) (s : T) → Is s → Ends B (body st s) (kept st) (far st)
  once st s is = ends_bind B (treat st s) (λ st'. Return (Ok st')) (grows st) (kept st) (far st) (one st s is)
      (λ st' ys q xs i. subst (λ zs. Inv (xs ++ zs) st') (sym (append-nil ys)) (q xs i))

  -- without a step more, what holds of all before leaves what holds before a fault
  none_yet : (st : St) → far st []
  none_yet st xs i = subst Far (sym (append-nil xs)) (so xs st i)

  -- a program that treats each item ends as its steps do
  pub each_ends : (p : Prog W F T (Unit {0})) → Yields Is p → (st : St) → Ends B (thread body (λ st u. st) st p) (grows st) (far st)
  each_ends (Return u) y st = λ xs i. subst (λ zs. Inv zs st) (sym (append-nil xs)) i
  each_ends (Stop f) y st = none_yet st
  each_ends (Need w k) y st = ends_need B w (λ bytes. thread body (λ st u. st) st (k bytes)) (grows st) (far st) (none_yet st)
      (λ bytes. each_ends (k bytes) (y bytes) st)
  each_ends (Emit s p) y st =
      ends_bind B (body st s) (go_on (λ st'. thread body (λ st u. st) st' p)) (kept st) (grows st) (far st) (once st s y.0)
      (λ r zs q. then r zs q (λ st'. each_ends p y.1 st'))
    where
      -- behind the steps of the first item the rest ends so
      then : (r : Result St St) (zs : List S) → kept st zs r → ((st' : St) → Ends B (thread body (λ st u. st) st' p) (grows st') (far st'))
          → Ends B (go_on (λ st'. thread body (λ st u. st) st' p) r) (λ ys st''. grows st (zs ++ ys) st'') (λ ys. far st (zs ++ ys))
      then (Ok st') zs q rest =
          ends_as B (thread body (λ st u. st) st' p) (grows st') (λ ys st''. grows st (zs ++ ys) st'') (far st') (λ ys. far st (zs ++ ys))
          (λ ys st'' h xs i. subst (λ l. Inv l st'') (append_assoc xs zs ys) (h (xs ++ zs) (q xs i)))
          (λ ys h xs i. subst Far (append_assoc xs zs ys) (h (xs ++ zs) (q xs i))) (rest st')
      then (Err r) zs q rest = absurd q

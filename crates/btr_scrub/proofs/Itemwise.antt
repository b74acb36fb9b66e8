-- Items mended one after another.
use Rattle.std.proofs.Common.{◌≡◌, List, [], ◌∷◌, ◌++◌, Bool, Some, Result, Ok, Err, refl, sym, ap, ◌∙◌, append_assoc, append-nil}
use Rattle.std.proofs.lemmas.Grind.{flat_map-append}
use Rattle.std.proofs.lemmas.List.Sums.{fold-append}
use Rattle.btr_scrub.proofs.Common.{Images, Layout, MendFault, Scrubs, Seen, Tally, Write, flat_map, fold}
use Rattle.btr_scrub.proofs.Scrubbing.{IsUnmoved, scrubs_as, scrubs_cut, scrubs_then}

-- Works can be said otherwise, one goes on behind another that leaves what it does, and one that came to a halt was cut short before others.
pub record AreSteps (layout : Layout) (write : Bool) {M : Type 0} (Goes : (Images → List Write) → (Images → Tally → Tally) → M → M → Seen → Seen → Tally
    → Tally → Result (Unit {0}) MendFault → Type 0) : Type 0 where
  pub said : (f g : Images → List Write) (c d : Images → Tally → Tally) (m n : M) (a b : Seen) (t u : Tally) (r : Result (Unit {0}) MendFault)
      → ((images : Images) → a.held ≡ Some images → (f images ≡ g images) × (c images t ≡ d images t)) → Goes f c m n a b t u r → Goes g d m n a b t u r
  pub next : (f g : Images → List Write) (c d : Images → Tally → Tally) (m n o : M) (a b z : Seen) (t u v : Tally) (r : Result (Unit {0}) MendFault)
      → IsUnmoved layout write f g d a.held → Goes f c m n a b t u (Ok tt) → Goes g d n o b z u v r → Goes (λ i. f i ++ g i) (λ i y. d i (c i y)) m o a z t v r
  pub cut : (f g : Images → List Write) (c d : Images → Tally → Tally) (m n : M) (a b : Seen) (t u : Tally) (fault : MendFault)
      → Goes f c m n a b t u (Err fault) → Goes (λ i. f i ++ g i) d m n a b t u (Err fault)

-- what is mended without syncs are such works
pub scrubs_steps : (layout : Layout) (write : Bool) → AreSteps layout write (λ f c m n a b t u r. Scrubs {A = Unit {0}} layout write f c m n a b t u r)
scrubs_steps layout write = record {
  said = λ f g c d m n a b t u r same h. scrubs_as layout write h same;
  next = λ f g c d m n o a b z t u v r. scrubs_then layout write (Unit {0}) (Unit {0}) f g c d m n o a b z t u v tt r;
  cut = scrubs_cut layout write (Unit {0}) (Unit {0});
}

-- some were mended, and left what comes of one more
module _ {X M : Type 0} {layout : Layout} {write : Bool} {Goes : (Images → List Write) → (Images → Tally → Tally) → M → M → Seen → Seen → Tally → Tally
    → Result (Unit {0}) MendFault → Type 0} (steps : AreSteps layout write Goes) (f : Images → X → List Write) (c : Images → Tally → X → Tally)
    {m n o : M} {a b z : Seen} {t u v : Tally} (xs : List X) (x : X)
    (unmoved : IsUnmoved layout write (λ i. flat_map (f i) xs) (λ i. f i x) (λ i y. c i y x) a.held)
    (before : Goes (λ i. flat_map (f i) xs) (λ i y. fold (c i) y xs) m n a b t u (Ok tt)) where
  -- one more was done behind those before
  together : (r : Result (Unit {0}) MendFault) → Goes (λ i. f i x) (λ i y. c i y x) n o b z u v r
      → Goes (λ i. flat_map (f i) xs ++ f i x) (λ i y. c i (fold (c i) y xs) x) m o a z t v r
  together r one = steps.next (λ i. flat_map (f i) xs) (λ i. f i x) (λ i y. fold (c i) y xs) (λ i y. c i y x) m n o a b z t u v r unmoved before one

  -- that was mended too
  pub one_more : Goes (λ i. f i x) (λ i y. c i y x) n o b z u v (Ok tt)
      → Goes (λ i. flat_map (f i) (xs ++ x ∷ [])) (λ i y. fold (c i) y (xs ++ x ∷ [])) m o a z t v (Ok tt)
  one_more one =
      steps.said (λ i. flat_map (f i) xs ++ f i x) (λ i. flat_map (f i) (xs ++ x ∷ [])) (λ i y. c i (fold (c i) y xs) x) (λ i y. fold (c i) y (xs ++ x ∷ []))
      m o a z t v (Ok tt)
      (λ i e. (
        ap (λ ws. flat_map (f i) xs ++ ws) (sym (append-nil (f i x))) ∙ sym (flat_map-append (f i) xs (x ∷ [])),
        sym (fold-append (c i) t xs (x ∷ [])),
      )) (together (Ok tt) one)

  -- or it came to a halt, before others
  pub one_cut : (ys : List X) (fault : MendFault) → Goes (λ i. f i x) (λ i y. c i y x) n o b z u v (Err fault)
      → Goes (λ i. flat_map (f i) (xs ++ x ∷ ys)) (λ i y. fold (c i) y (xs ++ x ∷ ys)) m o a z t v (Err fault)
  one_cut ys fault one =
      let all = λ (i : Images) (y : Tally). fold (c i) y (xs ++ x ∷ ys) in
      steps.said (λ i. (flat_map (f i) xs ++ f i x) ++ flat_map (f i) ys) (λ i. flat_map (f i) (xs ++ x ∷ ys)) all all m o a z t v (Err fault)
      (λ i e. (append_assoc (flat_map (f i) xs) (f i x) (flat_map (f i) ys) ∙ sym (flat_map-append (f i) xs (x ∷ ys)), refl))
      (steps.cut (λ i. flat_map (f i) xs ++ f i x) (λ i. flat_map (f i) ys) (λ i y. c i (fold (c i) y xs) x) all m o a z t v fault (together (Err fault) one))

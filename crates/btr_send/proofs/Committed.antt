-- Where what was had of each block is what was committed, a whole stream makes what restore makes of the committed blocks.
use Rattle.std.proofs.Common.{◌≡◌, ◌⊎◌, inl, inr, ℕ, Bool, true, false, cond, eqb, List, [], ◌∷◌, length, Result, Ok, Err, refl, sym, ap, ◌∙◌, subst}
use Rattle.std.proofs.lemmas.Bool.{eqb-true, eq-eqb}
use Rattle.btr_files.specs.FileAt.{IsSectorLong}
use Rattle.btr_files.specs.declared.counts.Counts.{Counts}
use Rattle.btr_listing.specs.Step.{Step}
use Rattle.btr_prog.specs.Maps.{Each, EndsWell, IsWhole, IsWithin, Loses}
use Rattle.btr_prog.specs.Prog.{Run, exec, needs, steps_of, wants_of}
use Rattle.btr_prog.proofs.Lost.{lost_law}
use Rattle.btr_prog.proofs.Runs.{whole_law}
use Rattle.btr_prog.proofs.Wells.{well_needs}
use Rattle.btr_read.specs.Fate.{Fault, Lost}
use Rattle.btr_read.specs.declared.want.Want.{Want}
use Rattle.btr_read.specs.declared.want.Want.TheVariants.{Tree, Block, Sector, Plain}
use Rattle.btr_restore.specs.Outcome.{tree_after}
use Rattle.btr_volume.specs.Lookup.{Program}
use Rattle.btr_walk.specs.Reading.{Map}
use Rattle.btr_send.specs.Restored.{GivesSectors, IsSent, IsStreamOf, SentCommitted, members_of_rows, restores, sends}
use Rattle.btr_send.proofs.Sent.{sent_law}

-- what came to counts came to no fault
no_loss : {A : Type 0} (x : Result Counts Fault) (counts : Counts) (f : Fault) → x ≡ Ok counts → x ≡ Err f → A
no_loss x counts f e h = absurd (cc (e, h))

-- what follows of two things that hold of each of some wants holds of each of them
each_both : (P Q R : Want → Type 0) → ((w : Want) → P w → Q w → R w) → (ws : List Want) → Each P ws → Each Q ws → Each R ws
each_both P Q R f [] p q = tt
each_both P Q R f (w ∷ ws) p q = (f w p.0 q.0, each_both P Q R f ws p.1 q.1)

-- data has the length of a sector
abbrev is_long : Want → List ℕ → Bool
is_long (Tree addr generation level) bytes = true
is_long (Block addr) bytes = true
is_long (Sector addr sum) bytes = eqb (length bytes) 4096
is_long (Plain addr) bytes = eqb (length bytes) 4096

-- data that has the length of a sector is found so
long_is : (w : Want) (bytes : List ℕ) → IsSectorLong w bytes → is_long w bytes ≡ true
long_is (Tree addr generation level) bytes h = refl
long_is (Block addr) bytes h = refl
long_is (Sector addr sum) bytes h = eq-eqb (length bytes) 4096 h
long_is (Plain addr) bytes h = eq-eqb (length bytes) 4096 h

-- data that is found to have the length of a sector has it
is_long_so : (w : Want) (bytes : List ℕ) → is_long w bytes ≡ true → IsSectorLong w bytes
is_long_so (Tree addr generation level) bytes h = tt
is_long_so (Block addr) bytes h = tt
is_long_so (Sector addr sum) bytes h = eqb-true (length bytes) 4096 h
is_long_so (Plain addr) bytes h = eqb-true (length bytes) 4096 h

-- a block, but for data that hasn't that length
abbrev if_long : Want → Result (List ℕ) Fault → Result (List ℕ) Fault
if_long w (Ok bytes) = cond (is_long w bytes) (Ok bytes) (Err (Lost 0))
if_long w (Err f) = Err f

-- where data of another length is left out, a want comes to its bytes or to none
long_within : (w : Want) (x : Result (List ℕ) Fault) → IsWithin (if_long w x) x
long_within w (Ok bytes) = by (is_long w bytes)
  where
    by : (b : Bool) → IsWithin (cond b (Ok bytes) (Err (Lost 0))) (let x : Result (List ℕ) Fault = Ok bytes in x)
    by true = refl
    by false = tt
long_within w (Err f) = tt

-- where data of another length is left out, what is given has the length of a sector
long_given : (w : Want) (x : Result (List ℕ) Fault) (bytes : List ℕ) → if_long w x ≡ Ok bytes → IsSectorLong w bytes
long_given w (Ok block) bytes e = by (is_long w block) refl e
  where
    by : (b : Bool) → is_long w block ≡ b → cond b (Ok block) (Err (Lost 0)) ≡ Ok bytes → IsSectorLong w bytes
    by true long e = let same : block ≡ bytes = cc e in subst (IsSectorLong w) same (is_long_so w block long)
    by false long e = absurd (cc e)
long_given w (Err f) bytes e = absurd (cc e)

module _ (B C : Map) (sectors : GivesSectors B) where
  -- the committed blocks, without data of another length than a sector
  abbrev longs : Map
  longs w = if_long w (C w)

  -- they give data by whole sectors
  longs_give : GivesSectors longs
  longs_give w bytes e = long_given w (C w) bytes e

  -- each of some wants comes to its committed bytes in them, or to none
  longs_within : (ws : List Want) → Each (λ w. IsWithin (longs w) (C w)) ws
  longs_within [] = tt
  longs_within (w ∷ ws) = (long_within w (C w), longs_within ws)

  -- what was had is as long
  long_there : (w : Want) → IsWithin (B w) (C w) → EndsWell (λ f. ⊥) (B w) → IsWhole (longs w)
  long_there w within well = by (B w) refl within well
    where
      by : (x : Result (List ℕ) Fault) → B w ≡ x → IsWithin x (C w) → EndsWell (λ f. ⊥) x → IsWhole (longs w)
      by (Ok bytes) had within well =
          let whole : if_long w (Ok bytes) ≡ Ok bytes = ap (λ b. cond b (Ok bytes) (Err (Lost 0))) (long_is w bytes (sectors w bytes had)) in
          subst IsWhole (sym (ap (if_long w) within ∙ whole)) tt
      by (Err f) had within well = absurd well

-- where what was had of each block is what was committed, the stream makes the committed directories and files
pub sent_committed : SentCommitted
sent_committed B C s id dest name counts sectors good within ok = by_fate (lost_law B C p within)
  where
    -- the sending of the subvolume
    p : Program Step Counts
    p = sends s id dest name

    -- the restore of the subvolume by the rules of send
    q : Program Step Counts
    q = restores s id dest name

    -- the sending had all that it needs of the committed blocks, since without it there are no counts
    by_fate : (exec B p ≡ exec C p) ⊎ Loses B (exec C p) (exec B p) → IsSent s id dest name B C counts
    by_fate (inr loses) = no_loss (exec B p).ending counts loses.fault ok loses.ending
    by_fate (inl same) =
        let D = longs B C sectors in
        let well = well_needs (λ f. ⊥) B p (subst (EndsWell (λ f. ⊥)) (sym ok) tt) in
        let there = subst (λ (r : Run Want Fault Step Counts). Each (λ w. EndsWell (λ f. ⊥) (B w)) (wants_of r.marks)) same well in
        let whole = each_both (λ w. IsWithin (B w) (C w)) (λ w. EndsWell (λ f. ⊥) (B w)) (λ w. IsWhole (D w)) (long_there B C sectors) (needs C p)
        within there in
        let as_C : exec D p ≡ exec C p = whole_law D C p (longs_within B C sectors (needs C p)) whole in
        let as_B : exec D p ≡ exec B p = as_C ∙ sym same in
        let h = sent_law D s id dest name counts (longs_give B C sectors) good (ap (λ (r : Run Want Fault Step Counts). r.ending) as_B ∙ ok) in
        by_restore h as_B (lost_law D C q (longs_within B C sectors (needs C q)))
      where
        -- the restore had all that it needs of data of a sector's length, since without it there are no counts
        by_restore : IsSent s id dest name (longs B C sectors) (longs B C sectors) counts → exec (longs B C sectors) p ≡ exec B p
            → (exec (longs B C sectors) q ≡ exec C q) ⊎ Loses (longs B C sectors) (exec C q) (exec (longs B C sectors) q)
            → IsSent s id dest name B C counts
        by_restore h as_B (inr loses) = no_loss (exec (longs B C sectors) q).ending counts loses.fault h.restored loses.ending
        by_restore h as_B (inl as_C) = record {
          restored = ap (λ (r : Run Want Fault Step Counts). r.ending) (sym as_C) ∙ h.restored;
          stream =
              subst (λ (r : Run Want Fault Step Counts). IsStreamOf dest name (tree_after (steps_of (exec B p).marks)).rows
              (members_of_rows (tree_after (steps_of r.marks)).rows)) as_C
              (subst (λ (r : Run Want Fault Step Counts). IsStreamOf dest name (tree_after (steps_of r.marks)).rows
              (members_of_rows (tree_after (steps_of (exec (longs B C sectors) q).marks)).rows)) as_B h.stream);
        }

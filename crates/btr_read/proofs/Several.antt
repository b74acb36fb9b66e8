-- Several slots that are written.
use Rattle.std.proofs.Common.{◌≡◌, ◌≢◌, ℕ, true, false, List, [], ◌∷◌, get_or, set, Option, Some, None, refl, sym, ap, ◌∙◌, subst, arith}
use Rattle.std.proofs.Common.{length}
use Rattle.std.proofs.lemmas.List.{length-set, get_or-set_other, set-get_or, set-set, get_or_default}
use Rattle.std.proofs.lemmas.Bool.{false≢true}
use Rattle.btr_pool.specs.Slots.{Slots, IsLive, IsFree, bytes_at, with_bytes, with_lent, with_free}
use Rattle.btr_pool.proofs.Loans.{free_below, apart, live_after_take, live_after_give, live_when_lent}
use Rattle.btr_read.specs.declared.want.Want.{Want}
use Rattle.btr_read.specs.Writing.{OnlyWrites, OnlyWritesIn, AreThreeLoans, AreFour, StillKept, IsNoneOf}
use Rattle.btr_read.proofs.Serving.{known_apart, forgotten_at}

-- one of the slots was written
pub writes_one : (old new : Slots) (k : ℕ) (ks : List ℕ) → ((j : ℕ) → IsNoneOf ks j → j ≢ k) → (written : List ℕ) × (new ≡ with_bytes old k written)
    → OnlyWritesIn ks old new
writes_one old new k ks among h = subst (OnlyWritesIn ks old) (sym h.1) (record {
  size = refl;
  lent = refl;
  count = length-set old.bytes k h.0;
  others = λ j none. get_or-set_other old.bytes k j h.0 [] (among j none);
})

-- where nothing changes only these slots were written
pub writes_none : (pool : Slots) (ks : List ℕ) → OnlyWritesIn ks pool pool
writes_none pool ks = record { size = refl; lent = refl; count = refl; others = λ j none. refl }

-- two steps that write only these slots write only them together
pub writes_more : (a b c : Slots) (ks : List ℕ) → OnlyWritesIn ks a b → OnlyWritesIn ks b c → OnlyWritesIn ks a c
writes_more a b c ks h g = record {
  size = g.size ∙ h.size;
  lent = g.lent ∙ h.lent;
  count = g.count ∙ h.count;
  others = λ j none. g.others j none ∙ h.others j none;
}

-- the loans stay live and apart
pub live_still : (a b : Slots) (ks : List ℕ) (j : ℕ) → OnlyWritesIn ks a b → IsLive a j → IsLive b j
live_still a b ks j h live = record { there = omega (arith, h.count, live.there); lent = ap (λ lent. get_or lent j false) h.lent ∙ live.lent }

-- three live loans stay live and apart where only some slots are written
pub apart_still : (a b : Slots) (ks : List ℕ) (x y z : ℕ) → OnlyWritesIn ks a b → AreThreeLoans a x y z → AreThreeLoans b x y z
apart_still a b ks x y z h are = record {
  a_live = live_still a b ks x h are.a_live;
  b_live = live_still a b ks y h are.b_live;
  c_live = live_still a b ks z h are.c_live;
  ab = are.ab;
  ac = are.ac;
  bc = are.bc;
}

-- four live loans stay live and apart where only some slots are written
pub four_still : (a b : Slots) (ks : List ℕ) (w x y z : ℕ) → OnlyWritesIn ks a b → AreFour a w x y z → AreFour b w x y z
four_still a b ks w x y z h are = record {
  first = apart_still a b ks w x y h are.first;
  d_live = live_still a b ks z h are.d_live;
  ad = are.ad;
  bd = are.bd;
  cd = are.cd;
}

-- ---- slots that are taken, written and given back

-- what was live before a slot was taken
live_on : (old new : Slots) (a j : ℕ) → new ≡ with_lent old a → IsLive old j → IsLive new j
live_on old new a j taken live = subst (λ p. IsLive p j) (sym taken) (live_after_take old j a live)

-- the slot that was taken
live_taken : (old new : Slots) (a : ℕ) → new ≡ with_lent old a → IsFree old a → IsLive new a
live_taken old new a taken free = subst (λ p. IsLive p a) (sym taken) (live_when_lent old a free)

-- and what is live once a slot is given back
live_given : (old new : Slots) (a j : ℕ) → new ≡ with_free old a → j ≢ a → IsLive old j → IsLive new j
live_given old new a j given ne live = subst (λ p. IsLive p j) (sym given) (live_after_give old j a ne live)

-- the loans stay as they are, and only some of them, and slots that are free, change their bytes
record WritesLive (ks : List ℕ) (old new : Slots) : Type 0 where
  size : new.size ≡ old.size
  lent : new.lent ≡ old.lent
  count : length new.bytes ≡ length old.bytes
  others : (j : ℕ) → IsNoneOf ks j → get_or old.lent j false ≡ true → bytes_at new j ≡ bytes_at old j

-- only slots that are live were written
all_live : (a b : ℕ) (ks : List ℕ) (old new : Slots) → OnlyWritesIn (b ∷ a ∷ ks) old new → WritesLive (a ∷ b ∷ ks) old new
all_live a b ks old new h =
    record { size = h.size; lent = h.lent; count = h.count; others = λ j none live. h.others j (none.1.0, (none.0, none.1.1)) }

-- one of them alone
one_live : (k : ℕ) (old new : Slots) → WritesLive (k ∷ []) old new → OnlyWrites k old new
one_live k old new h = record { size = h.size; lent = h.lent; count = h.count; others = λ j ne live. h.others j (ne, tt) live }

-- a slot that was taken is given back
given_back : (p0 p1 p2 p3 : Slots) (a : ℕ) (ks : List ℕ) → IsFree p0 a → p1 ≡ with_lent p0 a → WritesLive (a ∷ ks) p1 p2 → p3 ≡ with_free p2 a
    → WritesLive ks p0 p3
given_back p0 p1 p2 p3 a ks free taken writes given =
    let h : WritesLive (a ∷ ks) (with_lent p0 a) p2 = subst (λ p. WritesLive (a ∷ ks) p p2) taken writes in
    subst (WritesLive ks p0) (sym given) (record {
      size = h.size;
      lent = ap (λ l. set l a false) h.lent ∙ set-set p0.lent a true false ∙ ap (set p0.lent a) (sym free.free) ∙ set-get_or p0.lent a true;
      count = h.count;
      others = λ j none live.
          let ne : j ≢ a = λ e. false≢true (sym (get_or_default p0.lent a false true (free_below p0.lent a free.free) ∙ free.free)
          ∙ ap (λ n. get_or p0.lent n false) (sym e) ∙ live) in
          h.others j (ne, none) (get_or-set_other p0.lent a j true false ne ∙ live);
    })

-- a slot was taken, written and given back, while another is lent
pub one_back : (p0 p1 p2 p3 : Slots) (k o : ℕ) → IsFree p0 o → p1 ≡ with_lent p0 o → OnlyWrites o p1 p2 → p3 ≡ with_free p2 o → OnlyWrites k p0 p3
one_back p0 p1 p2 p3 k o free taken h given =
    let first : WritesLive (o ∷ []) p1 p2 =
    record { size = h.size; lent = h.lent; count = h.count; others = λ j none live. h.others j none.0 live } in
    let all = given_back p0 p1 p2 p3 o [] free taken first given in
    record { size = all.size; lent = all.lent; count = all.count; others = λ j ne live. all.others j tt live }

-- what stands in a slot that wasn't forgotten
not_forgotten : (ws ws' : List (Option Want)) (n j : ℕ) (want : Want) → ws' ≡ set ws n None → get_or ws' j None ≡ Some want
    → (j ≢ n) × (get_or ws j None ≡ Some want)
not_forgotten ws ws' n j want e there = (ne, sym (get_or-set_other ws n j None None ne) ∙ is)
  where
    is : get_or (set ws n None) j None ≡ Some want
    is = ap (λ ws. get_or ws j None) (sym e) ∙ there

    -- a slot of which a want is known isn't the one that was forgotten
    ne : j ≢ n
    ne = known_apart (set ws n None) n j want (forgotten_at ws n) is

-- a live loan, and two slots taken one after the other
module _ {p0 p1 p2 : Slots} {k q s : ℕ} (live : IsLive p0 k) (free_q : IsFree p0 q) (lent_q : p1 ≡ with_lent p0 q) (free_s : IsFree p1 s)
    (lent_s : p2 ≡ with_lent p1 s) where
  -- the three are live, each a slot of its own
  pub both_taken : AreThreeLoans p2 k q s
  both_taken =
      let live_k = live_on p0 p1 q k lent_q live in
      let live_q = live_taken p0 p1 q lent_q free_q in
      record {
        a_live = live_on p1 p2 s k lent_s live_k;
        b_live = live_on p1 p2 s q lent_s live_q;
        c_live = live_taken p1 p2 s lent_s free_s;
        ab = apart p0 k q live free_q;
        ac = apart p1 k s live_k free_s;
        bc = apart p1 q s live_q free_s;
      }

  -- all three were written, and the two given back
  module _ {p3 : Slots} (h : OnlyWritesIn (q ∷ s ∷ k ∷ []) p2 p3) where
    -- the slot taken last may be given back
    pub second_live : IsLive p3 s
    second_live = live_still p2 p3 (q ∷ s ∷ k ∷ []) s h both_taken.c_live

    module _ {p4 : Slots} (back_s : p4 ≡ with_free p3 s) where
      -- and then the one taken first
      pub first_live : IsLive p4 q
      first_live = live_given p3 p4 s q back_s both_taken.bc (live_still p2 p3 (q ∷ s ∷ k ∷ []) q h both_taken.b_live)

      module _ {p5 : Slots} (back_q : p5 ≡ with_free p4 q) where
        -- the loans are as before, and only the loan's slot was written
        pub both_back : OnlyWrites k p0 p5
        both_back = one_live k p0 p5 (given_back p0 p1 p4 p5 q (k ∷ []) free_q lent_q
            (given_back p1 p2 p3 p4 s (q ∷ k ∷ []) free_s lent_s (all_live s q (k ∷ []) p2 p3 h) back_s) back_q)

        -- what is known of the other slots still stands
        pub both_forgotten : (w0 w1 w2 : List (Option Want)) → get_or w0 k None ≡ None → w1 ≡ set w0 q None → w2 ≡ set w1 s None → StillKept w0 w2 p0 p5
        both_forgotten w0 w1 w2 forgotten of_q of_s j want there =
            let a = not_forgotten w1 w2 s j want of_s there in
            let b = not_forgotten w0 w1 q j want of_q a.1 in
            let before : p2.bytes ≡ p0.bytes = ap (λ (x : Slots). x.bytes) lent_s ∙ ap (λ (x : Slots). x.bytes) lent_q in
            let after : p5.bytes ≡ p3.bytes = ap (λ (x : Slots). x.bytes) back_q ∙ ap (λ (x : Slots). x.bytes) back_s in (
              b.1,
              ap (λ bytes. get_or bytes j []) after ∙ h.others j (b.0, (a.0, (known_apart w0 k j want forgotten b.1, tt)))
                  ∙ ap (λ bytes. get_or bytes j []) before,
            )

-- a live loan, and three slots taken one after the other
module _ {p0 p1 p2 p3 : Slots} {k p q s : ℕ} (live : IsLive p0 k) (free_p : IsFree p0 p) (lent_p : p1 ≡ with_lent p0 p) (free_q : IsFree p1 q)
    (lent_q : p2 ≡ with_lent p1 q) (free_s : IsFree p2 s) (lent_s : p3 ≡ with_lent p2 s) where
  -- the four are live, each a slot of its own
  pub four_taken : AreFour p3 k p q s
  four_taken =
      let three = both_taken live free_p lent_p free_q lent_q in
      record {
        first = record {
          a_live = live_on p2 p3 s k lent_s three.a_live;
          b_live = live_on p2 p3 s p lent_s three.b_live;
          c_live = live_on p2 p3 s q lent_s three.c_live;
          ab = three.ab;
          ac = three.ac;
          bc = three.bc;
        };
        d_live = live_taken p2 p3 s lent_s free_s;
        ad = apart p2 k s three.a_live free_s;
        bd = apart p2 p s three.b_live free_s;
        cd = apart p2 q s three.c_live free_s;
      }

  -- all were written, and the three given back
  module _ {p4 : Slots} (h : OnlyWritesIn (q ∷ s ∷ p ∷ k ∷ []) p3 p4) where
    four_written : AreFour p4 k p q s
    four_written = four_still p3 p4 (q ∷ s ∷ p ∷ k ∷ []) k p q s h four_taken

    -- the slot taken last may be given back
    pub spare_live : IsLive p4 s
    spare_live = four_written.d_live

    module _ {p5 : Slots} (back_s : p5 ≡ with_free p4 s) where
      -- then the one taken before it
      pub q_live : IsLive p5 q
      q_live = live_given p4 p5 s q back_s four_written.cd four_written.first.c_live

      module _ {p6 : Slots} (back_q : p6 ≡ with_free p5 q) where
        -- and then the one taken first
        pub p_live : IsLive p6 p
        p_live = live_given p5 p6 q p back_q four_written.first.bc (live_given p4 p5 s p back_s four_written.bd four_written.first.b_live)

        module _ {p7 : Slots} (back_p : p7 ≡ with_free p6 p) where
          -- the loans are as before, and only the loan's slot was written
          pub three_back : OnlyWrites k p0 p7
          three_back = one_live k p0 p7 (given_back p0 p1 p6 p7 p (k ∷ []) free_p lent_p (given_back p1 p2 p5 p6 q (p ∷ k ∷ []) free_q lent_q
              (given_back p2 p3 p4 p5 s (q ∷ p ∷ k ∷ []) free_s lent_s (all_live s q (p ∷ k ∷ []) p3 p4 h) back_s) back_q) back_p)

          -- what is known of the other slots still stands
          pub three_forgotten : (w0 w1 w2 w3 : List (Option Want)) → get_or w0 k None ≡ None → w1 ≡ set w0 p None → w2 ≡ set w1 q None → w3 ≡ set w2 s None
              → StillKept w0 w3 p0 p7
          three_forgotten w0 w1 w2 w3 forgotten of_p of_q of_s j want there =
              let a = not_forgotten w2 w3 s j want of_s there in
              let b = not_forgotten w1 w2 q j want of_q a.1 in
              let d = not_forgotten w0 w1 p j want of_p b.1 in
              let of = λ (x : Slots). x.bytes in
              let before : p3.bytes ≡ p0.bytes = ap of lent_s ∙ ap of lent_q ∙ ap of lent_p in
              let after : p7.bytes ≡ p4.bytes = ap of back_p ∙ ap of back_q ∙ ap of back_s in (
                d.1,
                ap (λ bytes. get_or bytes j []) after ∙ h.others j (b.0, (a.0, (d.0, (known_apart w0 k j want forgotten d.1, tt))))
                    ∙ ap (λ bytes. get_or bytes j []) before,
              )

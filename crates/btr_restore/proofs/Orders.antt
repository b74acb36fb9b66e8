-- Over honest images what restore did follows the committed journey.
use Rattle.std.proofs.Common.{◌≡◌, ◌⊎◌, inl, inr, ℕ, Bool, List, [], ◌∷◌, Result, Err, sym, ap, ◌∙◌, subst}
use Rattle.btr_chunk.specs.declared.chunk.Chunk.{Chunk}
use Rattle.btr_files.specs.declared.counts.Counts.{Counts}
use Rattle.btr_files.specs.declared.plan.RestorePlan.{RestorePlan}
use Rattle.btr_prog.specs.Answers.{Fault as halt_fault}
use Rattle.btr_prog.specs.Blind.{IsAlike, Drops}
use Rattle.btr_prog.specs.Goes.{GoesTo, Goes}
use Rattle.btr_prog.specs.Maps.{Each, IsWithin}
use Rattle.btr_prog.specs.Prog.{Run, Wants, needs, steps_of, wants_of}
use Rattle.btr_prog.proofs.Blinds.{goes_held, blind_law}
use Rattle.btr_prog.proofs.Runs.{wants_of-append}
use Rattle.btr_prog.proofs.TwoParts.{each_there}
use Rattle.btr_rack.specs.Rack.{Seen}
use Rattle.btr_read.specs.Fate.{Fault, Lost, is_plain, choices}
use Rattle.btr_read.specs.Want.{addr_of}
use Rattle.btr_volume.specs.declared.fault.OpenFault.{OpenFault}
use Rattle.btr_volume.specs.Maps.{VolumeWant, volume_map}
use Rattle.btr_volume.specs.Start.{Images, Start, layout_by}
use Rattle.btr_restore.specs.Committed.{Commit, IsHonest, EndsInOrder, IsClosed, committed, committed_choices, want_of}
use Rattle.btr_restore.specs.InOrder.{Answer, unread_in, Follows, LostAt, CommittedOrder}
use Rattle.btr_restore.specs.Journey.{journey}
use Rattle.btr_listing.specs.Step.{Step, part}
use Rattle.btr_restore.proofs.Held.{each_as, each_of, alike_there, lost_there, all_within, all_well}
use Rattle.btr_restore.proofs.Journeys.{journey_blind}

module _ (plan : RestorePlan) (dest : List ℕ) (images : Images) (start : Start) (C : Commit) (table : List Chunk)
    (honest : IsHonest C images (layout_by start table)) (closed : IsClosed plan dest images start C table) where
  -- a want of a volume makes no test
  abbrev plain : VolumeWant → Bool
  plain want = is_plain (want_of want)

  -- the wants of the committed journey
  abbrev Needs : List VolumeWant
  Needs = needs (volume_map start (committed C images)) (journey plan dest start)

  -- each want of the committed journey comes to the same by each choice, but for its bytes where there is no test
  all_alike : Each (λ want. (j : ℕ) → IsAlike (plain want) (volume_map start (committed_choices C images j) want)
      (volume_map start (committed C images) want)) Needs
  all_alike = each_of (λ want. (j : ℕ) → IsAlike (plain want) (volume_map start (committed_choices C images j) want)
      (volume_map start (committed C images) want)) (λ want j. alike_there plan dest images start C j want) Needs

  -- what a choice of the images has of a want of the committed journey, some choice of the committed blocks has too
  some_within : Each (λ want. (i : ℕ) → (j : ℕ) × IsWithin (volume_map start (choices images i) want)
      (volume_map start (committed_choices C images j) want)) Needs
  some_within =
      each_as (λ want. (n : ℕ) → IsWithin (volume_map start (choices images n) want) (volume_map start (committed_choices C images n) want))
      (λ want. (i : ℕ) → (j : ℕ) × IsWithin (volume_map start (choices images i) want) (volume_map start (committed_choices C images j) want))
      (λ want h i. (i, h i)) Needs (all_within plan dest images start C table honest closed)

  module _ (old new : Seen) (done : List Step) (answer : Answer) where
    -- where a committed run was cut at a want that a choice of the images lacks, the call stopped there, and the want is lost
    dropped : (q r : Run VolumeWant Fault Step (Result Counts OpenFault))
        → GoesTo (λ j. volume_map start (committed_choices C images j)) (journey plan dest start) q
        → (m : Drops (λ i. volume_map start (choices images i)) q r) → done ≡ steps_of m.before → answer ≡ Err (halt_fault m.fault)
        → LostAt plan dest images start C done answer
    dropped q r goes m steps is =
        let wants = (blind_law plain (λ j. volume_map start (committed_choices C images j)) (volume_map start (committed C images)) (journey plan dest start) q
        (journey_blind plan dest start) all_alike goes).0 in
        let well : EndsInOrder (volume_map start (committed C images) m.want) =
        each_there (λ w. EndsInOrder (volume_map start (committed C images) w)) (wants_of m.before) (wants_of m.behind) m.want
        (subst (Each (λ w. EndsInOrder (volume_map start (committed C images) w)))
        (sym wants ∙ (ap wants_of m.place ∙ wants_of-append m.before (Wants m.want ∷ m.behind))) (all_well plan dest images start C table honest closed)) in
        let lost : m.fault ≡ Lost (addr_of (want_of m.want)) = lost_there plan dest images start C m.choice m.want m.fault well m.lost in
        record {
          run = q;
          goes = goes;
          want = m.want;
          before = m.before;
          behind = m.behind;
          place = m.place;
          choice = m.choice;
          lost = m.lost ∙ ap Err lost;
          steps = steps;
          is = is ∙ ap (λ f. Err (halt_fault f)) lost;
        }

    -- what was done follows the committed journey, or it stopped at a want of it that the images lack
    abbrev Carried : Type 0
    Carried = Follows plan dest start old new (committed_choices C images) done answer ⊎ LostAt plan dest images start C done answer

    -- what was done by a committed run, or by one cut at a want that the images lack, is in the committed order
    carried : Goes (unread_in start old new) part [] (λ j. volume_map start (committed_choices C images j)) (journey plan dest start) done answer
        ⊎ ((q : Run VolumeWant Fault Step (Result Counts OpenFault)) × (r : Run VolumeWant Fault Step (Result Counts OpenFault))
        × GoesTo (λ j. volume_map start (committed_choices C images j)) (journey plan dest start) q
        × (m : Drops (λ i. volume_map start (choices images i)) q r) × (done ≡ steps_of m.before) × (answer ≡ Err (halt_fault m.fault))) → Carried
    carried (inl h) = inl h
    carried (inr h) = inr (dropped h.0 h.1 h.2 h.3 h.4 h.5)

-- over honest images restore did what the committed journey does, or stopped at a want of it that the images lack
pub committed_order : CommittedOrder
committed_order plan dest images start C table old new done answer honest closed follows =
    carried plan dest images start C table honest closed old new done answer
    (goes_held 0 (λ i. volume_map start (choices images i)) (λ j. volume_map start (committed_choices C images j)) (unread_in start old new) part []
    (journey plan dest start) done (λ (w : VolumeWant). is_plain (want_of w)) (volume_map start (committed C images)) answer
    (journey_blind plan dest start) (all_alike plan dest images start C table honest closed) (some_within plan dest images start C table honest closed) follows)

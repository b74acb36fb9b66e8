-- What is read in a body, one more part at a time.
use Rattle.std.proofs.Common.{◌≡◌, List, [], ◌∷◌, ◌++◌, map, fold, Result, Ok, Err, sym, ap, ◌∙◌, append_assoc}
use Rattle.btr_items.specs.declared.fault.ItemFault.{ItemFault}
use Rattle.btr_check_names.specs.Items.{all_read}

module _ {P X : Type 0} (make : P → X) where
  -- a part that was read is kept behind the others
  pub part_more : (old new all : List X) (parts rest : List (Result P ItemFault)) (read : Result P ItemFault) (part : P) → parts ≡ read ∷ rest → read
      ≡ Ok part → new ≡ old ++ make part ∷ []
      → old ++ map make (all_read parts) ≡ all → new ++ map make (all_read rest) ≡ all
  part_more old new all parts rest read part first is put before =
      ap (λ l. l ++ map make (all_read rest)) put ∙ append_assoc old (make part ∷ []) (map make (all_read rest))
      ∙ ap (λ r. old ++ map make (all_read (r ∷ rest))) (sym is) ∙ ap (λ l. old ++ map make (all_read l)) (sym first) ∙ before

  -- one that is broken is left out
  pub part_left_out : (old all : List X) (parts rest : List (Result P ItemFault)) (read : Result P ItemFault) (fault : ItemFault) → parts
      ≡ read ∷ rest → read ≡ Err fault
      → old ++ map make (all_read parts) ≡ all → old ++ map make (all_read rest) ≡ all
  part_left_out old all parts rest read fault first is before =
      ap (λ r. old ++ map make (all_read (r ∷ rest))) (sym is) ∙ ap (λ l. old ++ map make (all_read l)) (sym first) ∙ before

-- the same, where each part that was read makes one step of a state
module _ {P X S : Type 0} (make : P → X) (step : S → X → S) where
  -- a part that was read makes a step, before those of the rest
  pub step_more : (old new all : S) (parts rest : List (Result P ItemFault)) (read : Result P ItemFault) (part : P) → parts ≡ read ∷ rest → read
      ≡ Ok part → new ≡ step old (make part)
      → fold step old (map make (all_read parts)) ≡ all → fold step new (map make (all_read rest)) ≡ all
  step_more old new all parts rest read part first is made before =
      ap (λ s. fold step s (map make (all_read rest))) made ∙ ap (λ r. fold step old (map make (all_read (r ∷ rest)))) (sym is)
      ∙ ap (λ l. fold step old (map make (all_read l))) (sym first) ∙ before

  -- a part that is broken makes no step
  pub step_left_out : (old all : S) (parts rest : List (Result P ItemFault)) (read : Result P ItemFault) (fault : ItemFault) → parts ≡ read ∷ rest
      → read ≡ Err fault
      → fold step old (map make (all_read parts)) ≡ all → fold step old (map make (all_read rest)) ≡ all
  step_left_out old all parts rest read fault first is before =
      ap (λ r. fold step old (map make (all_read (r ∷ rest)))) (sym is) ∙ ap (λ l. fold step old (map make (all_read l))) (sym first) ∙ before

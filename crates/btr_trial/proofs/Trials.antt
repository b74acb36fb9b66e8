-- A whole trial, step by step.
use Rattle.std.proofs.Common.{◌≡◌, ◌∙◌, ℕ, ◌+◌, ◌%◌, Bool, Option, ap}
use Rattle.btr_volume.specs.Start.{Images}
use Rattle.btr_trial.specs.Sure.{spoiled_at}
use Rattle.btr_trial.specs.Trial.{findings_of, lost_of, mended, once_spoiled, restored_same, scrubbed, trial_of, twice_spoiled}
use Rattle.btr_trial.specs.declared.tried.Tried.{Tried}

-- what the steps came to, each over the images that the one before left, is what the trial of the volume comes to
pub all_tried : (number : ℕ) (h0 h1 h2 h3 h4 h5 : Images) (findings : Option ℕ) (first : Option Bool) (lost : Option ℕ) (second : Option Bool)
    → findings ≡ findings_of h0 → h1 ≡ h0 → h2 ≡ spoiled_at h1 (number % 3) → first ≡ restored_same number h2 → h3 ≡ h2 → lost ≡ lost_of h3 → h4 ≡ scrubbed h3
    → h5 ≡ spoiled_at h4 ((number + 1) % 3) → second ≡ restored_same number h5
    → ◌≡◌ {A = Tried} (record { findings = findings; first = first; lost = lost; second = second }) (trial_of h0 number)
all_tried number h0 h1 h2 h3 h4 h5 findings first lost second is_findings kept spoiled is_first kept_too is_lost mends spoiled_too is_second =
    let once : h2 ≡ once_spoiled h0 number = spoiled ∙ ap (λ (h : Images). spoiled_at h (number % 3)) kept in
    let mend : h4 ≡ mended h0 number = mends ∙ ap scrubbed (kept_too ∙ once) in
    let twice : h5 ≡ twice_spoiled h0 number = spoiled_too ∙ ap (λ (h : Images). spoiled_at h ((number + 1) % 3)) mend in
    λ i. record {
      findings = is_findings i;
      first = (is_first ∙ ap (restored_same number) once) i;
      lost = (is_lost ∙ ap lost_of (kept_too ∙ once)) i;
      second = (is_second ∙ ap (restored_same number) twice) i;
    }

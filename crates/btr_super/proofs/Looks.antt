-- One more place of an image.
use Rattle.std.proofs.Common.{◌≡◌, ◌≢◌, ℕ, ◌+◌, ◌<◌, ◌≤◌, List, [], ◌∷◌, ◌++◌, length, map, get_or, take, Option, Some, None, Result, Err, sym, ap, ◌∙◌, subst}
use Rattle.std.proofs.Common.{arith}
use Rattle.std.specs.Option.{IfSome}
use Rattle.std.proofs.lemmas.List.{get_or-map, length-map, take_all}
use Rattle.btr_rack.specs.Rack.{Slot, image_of, len_of, no_slot}
use Rattle.btr_base.specs.Field.{bytes_at}
use Rattle.btr_super.specs.Super.{superblock}
use Rattle.btr_super.specs.Slot.{IsSoFar, standing, places, image_super, slot_answer}
use Rattle.btr_super.proofs.Copies.{Found, standing_fits, standing_past}
use Rattle.btr_super.specs.declared.seen.Seen.{Seen}
use Rattle.btr_super.specs.declared.superblock.Super.{Super}
use Rattle.btr_super.specs.declared.fault.SlotFault.{SlotFault}
use Rattle.btr_super.specs.declared.fault.SlotFault.TheVariants.{Failed}

-- an image is as long as its slot says
image_len : (images : List (List ℕ)) (slots : List Slot) (slot : ℕ) → map length images ≡ map (λ s. s.len) slots → slot < length slots
    → length (image_of images slot) ≡ len_of slots slot
image_len images slots slot sized lt =
    let same : length images ≡ length slots = sym (length-map images (λ (i : List ℕ). length i)) ∙ ap length sized ∙ length-map slots (λ s. s.len) in
    sym (get_or-map (λ (i : List ℕ). length i) images slot [] 0 (omega arith)) ∙ ap (λ l. get_or l slot 0) sized
    ∙ get_or-map (λ s. s.len) slots slot no_slot 0 lt

-- where bytes are told, what was seen of some places of the image is seen of them and this one
abbrev Goes : Option (List (List ℕ)) → ℕ → ℕ → Seen → Seen → Type 0
Goes held slot place seen after = IfSome held (λ images. (before : List ℕ) → IsSoFar (standing (image_of images slot) before) seen
    → IsSoFar (standing (image_of images slot) (before ++ place ∷ [])) after)

-- where bytes are told, each image has the length of its slot
abbrev Sized : Option (List (List ℕ)) → List Slot → Type 0
Sized held slots = IfSome held (λ images. map length images ≡ map (λ s. s.len) slots)

-- a place that reaches past the image's end was looked at, and nothing changes
pub goes_past : (held : Option (List (List ℕ))) (slots : List Slot) (slot place : ℕ) (seen : Seen) → Sized held slots → slot < length slots
    → len_of slots slot < place + 4096 → Goes held slot place seen seen
goes_past None slots slot place seen sized lt past = tt
goes_past (Some images) slots slot place seen sized lt past = λ before so.
    subst (λ l. IsSoFar l seen) (sym (standing_past (image_of images slot) before place (omega (arith, image_len images slots slot sized lt)))) so

-- a place whose bytes lie in the image was looked at, and what stands there counts
pub goes_on : (held : Option (List (List ℕ))) (slots : List Slot) (slot place : ℕ) (seen after : Seen) (found : Found) → Sized held slots
    → slot < length slots → place + 4096 ≤ len_of slots slot
    → IfSome held (λ images. found ≡ superblock (bytes_at 4096 place (image_of images slot)) place)
    → ((before : List Found) → IsSoFar before seen → IsSoFar (before ++ found ∷ []) after) → Goes held slot place seen after
goes_on None slots slot place seen after found sized lt fits is step = tt
goes_on (Some images) slots slot place seen after found sized lt fits is step = λ before so.
    subst (λ l. IsSoFar l after)
    (sym (standing_fits (image_of images slot) before place (omega (arith, image_len images slots slot sized lt))
    ∙ ap (λ x. standing (image_of images slot) before ++ x ∷ []) (sym is)))
    (step (standing (image_of images slot) before) so)

-- before the first place nothing was seen
pub begins : (held : Option (List (List ℕ))) (slot : ℕ) → IfSome held
    (λ images. IsSoFar (standing (image_of images slot) []) (record { newest = None; kind = None }))
unfolding standing
begins None slot = tt
begins (Some images) slot = record { newest = λ i. []; kind = λ i. None }

-- where all three places were looked at and no read failed, the answer is the image's superblock
pub ends : (held : Option (List (List ℕ))) (slot n : ℕ) (seen : Seen) (result : Result Super SlotFault) → 3 ≤ n
    → IfSome held (λ images. IsSoFar (standing (image_of images slot) (take n places)) seen)
    → ((found : List Found) → IsSoFar found seen → slot_answer found ≡ result)
    → IfSome held (λ images. result ≢ Err Failed → image_super (image_of images slot) ≡ result)
ends None slot n seen result all so answers = tt
ends (Some images) slot n seen result all so answers = λ read. answers _
    (subst (λ l. IsSoFar (standing (image_of images slot) l) seen) (take_all n places all) so)

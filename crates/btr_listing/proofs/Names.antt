-- Names that a destination can have.
use Rattle.std.proofs.Common.{◌≡◌, ℕ, true, false, not, ◌||◌, List, ap, ◌∙◌}
use Rattle.std.specs.Str.{IsUtf8, is_utf8}
use Rattle.std.proofs.lemmas.Bool.{false_from_ne_true}
use Rattle.std.proofs.lemmas.Str.{IsUtf8-from_is_utf8, is_utf8-from_IsUtf8}
use Rattle.btr_rack.specs.Name.{is_bad, is_reserved, is_split}

-- bytes that are no text
pub bad_text : (name : List ℕ) → (IsUtf8 name → ⊥) → is_bad name ≡ true
bad_text name none = ap (λ b. not b || is_reserved name || is_split name) (false_from_ne_true (is_utf8 name) (λ e. none (IsUtf8-from_is_utf8 name e)))

-- a text that stands for nothing, and has one part
pub good_text : (name : List ℕ) → IsUtf8 name → is_reserved name ≡ false → is_split name ≡ false → is_bad name ≡ false
good_text name is reserved split =
    ap (λ b. not b || is_reserved name || is_split name) (is_utf8-from_IsUtf8 name is)
    ∙ (ap (λ b. b || is_split name) reserved ∙ split)

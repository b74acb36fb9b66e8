-- What rules find, one more thing at a time, and one rule after another.
use Rattle.std.proofs.Common.{◌≡◌, ℕ, ◌+◌, ◌<◌, Bool, true, false, ◌||◌, List, [], ◌∷◌, length, take, get_or, filter_map, Option, Some, None, refl, sym, ap}
use Rattle.std.proofs.Common.{◌∙◌}
use Rattle.std.proofs.lemmas.List.Folds.{list_any_more}
use Rattle.std.specs.Option.{option_to_list}
use Rattle.std.specs.List.{list_any, cons_option}
use Rattle.btr_findings.specs.Findings.{is_row, is_shown, has, is_same, is_one_of, Adds, FoundSet, PutsRows}
use Rattle.btr_findings.specs.declared.finding.Finding.{Finding}
use Rattle.btr_findings.proofs.Adding.{or_none}

pub or_turns : (a b c : Bool) → (a || (b || c)) ≡ ((b || a) || c)
or_turns true true c = refl
or_turns true false c = refl
or_turns false true c = refl
or_turns false false c = refl

-- what was found, if anything was
one_shown : (o : Option Finding) (one : Finding) → is_one_of (option_to_list o) one ≡ is_shown one o
one_shown None one = refl
one_shown (Some finding) one = or_none (is_same one finding)

module _ {X : Type 0} (rule : X → Option Finding) where
  -- the next was judged, by its index
  pub rule_next : (old new first : FoundSet) (xs : List X) (n : ℕ) (d : X) (judged : Option Finding) → n < length xs → judged ≡ rule (get_or xs n d)
      → Adds (option_to_list judged) old new
      → ((one : Finding) → has old one ≡ (list_any (is_row rule one) (take n xs) || has first one)) → (one : Finding) → has new one
      ≡ (list_any (is_row rule one) (take (n + 1) xs) || has first one)
  rule_next old new first xs n d judged below is put before one =
      put one ∙ ap (λ b. b || has old one) (one_shown judged one) ∙ ap (λ o. is_shown one o || has old one) is
      ∙ ap (λ b. is_row rule one (get_or xs n d) || b) (before one)
      ∙ or_turns (is_row rule one (get_or xs n d)) (list_any (is_row rule one) (take n xs)) (has first one)
      ∙ ap (λ b. b || has first one) (sym (list_any_more (is_row rule one) xs n d below))

  -- the findings of a rule on some things
  pub rows-any : (one : Finding) (xs : List X) → is_one_of (filter_map rule xs) one ≡ list_any (is_row rule one) xs
  rows-any one [] = refl
  rows-any one (x ∷ xs) = by (rule x) (rows-any one xs)
    where
      -- one thing more, by what the rule finds of it
      by : (o : Option Finding) → is_one_of (filter_map rule xs) one ≡ list_any (is_row rule one) xs
          → is_one_of (cons_option o (filter_map rule xs)) one ≡ (is_shown one o || list_any (is_row rule one) xs)
      by None rest = rest
      by (Some finding) rest = ap (λ b. is_same one finding || b) rest

  -- what a rule adds are its findings
  pub adds_rows : (xs : List X) (old new : FoundSet) → PutsRows rule xs old new → Adds (filter_map rule xs) old new
  adds_rows xs old new by one = by one ∙ ap (λ b. b || has old one) (sym (rows-any one xs))

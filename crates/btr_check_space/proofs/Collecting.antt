-- Lists that are made of the items that are met.
use Rattle.std.proofs.Common.{◌≡◌, List, [], ◌∷◌, ◌++◌, fold, filter_map, option_to_list, Option, Some, None, refl, sym, ap, ◌∙◌, append_assoc, append-nil}
use Rattle.std.specs.List.{cons_option}
use Rattle.btr_tour.specs.Tour.{Mark, Block, Child, Item, Left, items_met}
use Rattle.btr_walk.specs.Le.{TreeItem}
use Rattle.btr_check_space.specs.Items.{with_mark, Collects}

module _ {X : Type 0} (read : TreeItem → Option X) where
  first_of_rest : (o : Option X) (rest : List X) → option_to_list o ++ rest ≡ cons_option o rest
  first_of_rest None rest = refl
  first_of_rest (Some x) rest = refl

  -- a list has in the end what it had, and behind it what the items say
  collected : (list : List X) (marks : List Mark) → fold (with_mark read) list marks ≡ list ++ filter_map read (items_met marks)
  collected list [] = sym (append-nil list)
  collected list (Block place block ∷ marks) = collected list marks
  collected list (Child addr place ∷ marks) = collected list marks
  collected list (Item item ∷ marks) =
      collected (list ++ option_to_list (read item)) marks
      ∙ append_assoc list (option_to_list (read item)) (filter_map read (items_met marks))
      ∙ ap (λ l. list ++ l) (first_of_rest (read item) (filter_map read (items_met marks)))
  collected list (Left fault ∷ marks) = collected list marks

  -- a list that begins empty has in the end what the items say
  pub collects : Collects read
  collects marks = collected [] marks

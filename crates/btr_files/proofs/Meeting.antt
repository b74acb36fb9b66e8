-- Names that are met one by one, and the list of all names.
use Rattle.std.proofs.Common.{◌≡◌, ◌≢◌, ◌==◌, ℕ, suc, List, [], ◌∷◌, length, map, All, Option, Some, None, Bool, true, false, cond, Result, Ok, Err, refl, sym}
use Rattle.std.proofs.Common.{ap, ◌∙◌, subst, arith}
use Rattle.std.specs.Prelude.{nat_lt, ◌&&◌, filter_map}
use Rattle.std.proofs.lemmas.Bool.Decides.{nat_tests}
use Rattle.std.specs.List.{fold, list_all}
use Rattle.std.specs.Result.{is_ok, result_ok}
use Rattle.btr_base.specs.declared.key.Key.{Key}
use Rattle.btr_items.specs.ExtRef.{ext_refs_of}
use Rattle.btr_items.specs.InodeRef.{inode_refs_of}
use Rattle.btr_items.specs.Form.{fields_if, map_ok}
use Rattle.btr_items.specs.declared.fault.ItemFault.{ItemFault}
use Rattle.btr_files.specs.declared.met.Met.{Met}
use Rattle.btr_files.specs.declared.met.Met.TheVariants as met
use Rattle.btr_files.specs.Names.{Link, Mount, inode_link, ext_link, parts_of, links_of, same_link, same_mount, is_link, is_mount}
use Rattle.btr_files.specs.Steps.{met_more, met_links, links_met, is_one, parts_met}

module _ (wanted : Link) where
  -- where several names were met there isn't one, however many come behind them
  several_stay : (links : List Link) → is_one (met_links wanted met.Several links) ≡ false
  several_stay [] = refl
  several_stay (link ∷ links) = several_stay links

  -- what was met of all names says whether they are the one
  pub one_is_link : (links : List Link) → is_one (met_links wanted met.None links) ≡ is_link wanted links
  one_is_link [] = refl
  one_is_link (link ∷ []) = refl
  one_is_link (link ∷ (other ∷ more)) = several_stay more

  module _ {T : Type 0} (of : T → Link) where
    -- the names of the parts, where each has its form
    abbrev pub met_if : Met → Bool → List Link → Option Met
    met_if seen true links = Some (met_links wanted seen links)
    met_if seen false links = None

    -- the names of parts that are met one by one are those of all parts, if each has its form
    pub parts_are_met : (seen : Met) (parts : List (Result T ItemFault))
        → parts_met wanted of seen parts ≡ met_if seen (list_all is_ok parts) (map of (filter_map result_ok parts))
    parts_are_met seen [] = refl
    parts_are_met seen (Ok part ∷ parts) = parts_are_met (met_more seen (same_link (of part) wanted)) parts ∙ more (list_all is_ok parts)
      where
        more : (b : Bool) → met_if (met_more seen (same_link (of part) wanted)) b (map of (filter_map result_ok parts))
            ≡ met_if seen b (of part ∷ map of (filter_map result_ok parts))
        more true = refl
        more false = refl
    parts_are_met seen (Err fault ∷ parts) = refl

    -- one part more was looked at
    pub part_more : (seen next : Met) (parts rest : List (Result T ItemFault)) (read : Result T ItemFault) (part : T) → parts ≡ read ∷ rest → read ≡ Ok part
        → next ≡ met_more seen (same_link (of part) wanted) → parts_met wanted of next rest ≡ parts_met wanted of seen parts
    part_more seen next parts rest read part e r n =
        ap (λ (m : Met). parts_met wanted of m rest) n ∙ sym (ap (parts_met wanted of seen) (e ∙ ap (λ x. x ∷ rest) r))

    -- what was met of all parts, by whether each has its form
    by_test : (seen : Met) (links : List T) (b : Bool) → met_if seen b (map of links) ≡ links_met wanted seen (map_ok (map of) (fields_if b links))
    by_test seen links true = refl
    by_test seen links false = refl

    some_is : (body : List ℕ) → (length body == 0) ≡ false → nat_lt 0 (length body) ≡ true
    some_is body h = grind (arith, nat_tests)

    -- what was met of the parts of a body that isn't empty
    pub names_are : (seen : Met) (body : List ℕ) (parts : List (Result T ItemFault)) → (length body == 0) ≡ false
        → parts_met wanted of seen parts ≡ links_met wanted seen (map_ok (map of) (parts_of body parts))
    names_are seen body parts h =
        parts_are_met seen parts
        ∙ by_test seen (filter_map result_ok parts) (list_all is_ok parts)
        ∙ ap (λ b. links_met wanted seen (map_ok (map of) (fields_if (b && list_all is_ok parts) (filter_map result_ok parts)))) (sym (some_is body h))

    none_is : (body : List ℕ) → (length body == 0) ≡ true → nat_lt 0 (length body) ≡ false
    none_is body h = grind (arith, nat_tests)

    -- an empty body has no names
    pub names_empty : (seen : Met) (body : List ℕ) (parts : List (Result T ItemFault)) → (length body == 0) ≡ true
        → links_met wanted seen (map_ok (map of) (parts_of body parts)) ≡ None
    names_empty seen body parts h = ap (λ b. links_met wanted seen
        (map_ok (map of) (fields_if (b && list_all is_ok parts) (filter_map result_ok parts)))) (none_is body h)

  -- an item that breaks its form as an INODE_REF and as an INODE_EXTREF breaks it whatever it is
  by_kind : (seen : Met) (b : Bool) (refs exts : Result (List Link) ItemFault) → links_met wanted seen refs ≡ None → links_met wanted seen exts ≡ None
      → None ≡ links_met wanted seen (cond b refs exts)
  by_kind seen true refs exts h k = sym h
  by_kind seen false refs exts h k = sym k

  -- an empty item breaks its form
  pub links_empty : (seen : Met) (key : Key) (body : List ℕ) → (length body == 0) ≡ true → None ≡ links_met wanted seen (links_of key body)
  links_empty seen key body h =
      by_kind seen (key.kind == 12) (map_ok (map (inode_link key.offset body)) (parts_of body (inode_refs_of body)))
      (map_ok (map (ext_link body)) (parts_of body (ext_refs_of body)))
      (names_empty (inode_link key.offset body) seen body (inode_refs_of body) h) (names_empty (ext_link body) seen body (ext_refs_of body) h)

  is_ref : (key : Key) → key.kind ≡ 12 → (key.kind == 12) ≡ true
  is_ref key h = grind (arith, nat_tests)

  is_ext : (key : Key) → key.kind ≢ 12 → (key.kind == 12) ≡ false
  is_ext key h = grind (arith, nat_tests)

  -- the names of an item, by its type
  pub by_refs : (seen : Met) (key : Key) (body : List ℕ) → key.kind ≡ 12
      → links_met wanted seen (map_ok (map (inode_link key.offset body)) (parts_of body (inode_refs_of body))) ≡ links_met wanted seen (links_of key body)
  by_refs seen key body h =
      ap (λ (b : Bool). links_met wanted seen (cond b (map_ok (map (inode_link key.offset body)) (parts_of body (inode_refs_of body)))
      (map_ok (map (ext_link body)) (parts_of body (ext_refs_of body))))) (sym (is_ref key h))

  -- what is met of an item that is no INODE_REF is what its parts as an INODE_EXTREF have
  pub by_exts : (seen : Met) (key : Key) (body : List ℕ) → key.kind ≢ 12
      → links_met wanted seen (map_ok (map (ext_link body)) (parts_of body (ext_refs_of body))) ≡ links_met wanted seen (links_of key body)
  by_exts seen key body h =
      ap (λ (b : Bool). links_met wanted seen (cond b (map_ok (map (inode_link key.offset body)) (parts_of body (inode_refs_of body)))
      (map_ok (map (ext_link body)) (parts_of body (ext_refs_of body))))) (sym (is_ext key h))

  -- what holds of each part holds of the rest
  pub all_rest : {T : Type 0} (P : T → Type 0) (xs rest : List T) (x : T) → xs ≡ x ∷ rest → All P xs → All P rest
  all_rest {T} P xs rest x e h = λ k d lt. let g : All P (x ∷ rest) = subst (All P) e h in g (suc k) d (omega (arith, lt))

-- the same of names of subvolumes
abbrev pub met_mounts : Mount → Met → List Mount → Met
met_mounts wanted = fold (λ seen found. met_more seen (same_mount found wanted))

module _ (wanted : Mount) where
  -- where several names of a subvolume were met there isn't one, however many come behind them
  many_stay : (mounts : List Mount) → is_one (met_mounts wanted met.Several mounts) ≡ false
  many_stay [] = refl
  many_stay (mount ∷ mounts) = many_stay mounts

  -- what was met of all names of a subvolume says whether they are the one
  pub one_is_mount : (mounts : List Mount) → is_one (met_mounts wanted met.None mounts) ≡ is_mount wanted mounts
  one_is_mount [] = refl
  one_is_mount (mount ∷ []) = refl
  one_is_mount (mount ∷ (other ∷ more)) = many_stay more

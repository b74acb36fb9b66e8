-- An owner, told by one name after another, and subvolumes one after another.
use Rattle.std.proofs.Common.{Bool, false, ◌≡◌, ℕ, ◌+◌, ◌<◌, ◌≤◌, suc, List, [], ◌∷◌, ◌++◌, length}
use Rattle.std.proofs.Common.{drop, get_or, None, Result, Ok, Err, refl, sym, ap, ◌∙◌, subst, arith}
use Rattle.std.proofs.Math.ListN.{drop_of_length-le}
use Rattle.std.proofs.Math.Seq.{drop-cons}
use Rattle.std.specs.Result.{OnOk, is_err}
use Rattle.btr_prog.specs.Quiet.{quiet}
use Rattle.btr_super.specs.declared.superblock.Super.{Super}
use Rattle.btr_volume.specs.Lookup.{Lookup, Program}
use Rattle.btr_volume.specs.declared.stop.Stop.{Stop as TheStop}
use Rattle.btr_files.specs.Names.{Link, link}
use Rattle.btr_resolve.specs.Climbing.{led}
use Rattle.btr_resolve.specs.Lines.{path_if}
use Rattle.btr_resolve.specs.Paths.{Path, name_path}
use Rattle.btr_resolve.specs.Resolving.{Line, each_told, name_told, names_told, path_told, subvolume_told, subvolumes_told}
use Rattle.btr_volume.specs.Readable.{CanRead}
use Rattle.btr_resolve.specs.Running.{World, Ran, pathed}
use Rattle.btr_resolve.specs.declared.owner.Owner.{Owner}
use Rattle.btr_resolve.proofs.Rans.{look_halt, look_then, ran_none}
use Rattle.btr_resolve.proofs.Upward.{Leads, leads_halt, leads_then, led_name, pathed_is}

-- the path of a name was looked up on the way from its directory
module _ (owner : Owner) (count : ℕ) (name : Link) (below path : List ℕ) (is_below : below ≡ 47 ∷ name.name ++ []) (x y : World) where
  -- the way up from a name's directory comes to the path of the name
  looked : (answer : Result Path TheStop) → Ran (quiet (led 512 owner.tree name.parent below)) x y answer
      → Ran (quiet (name_path owner.tree name)) x y answer
  looked answer h = subst (λ (p : Lookup Path). Ran (quiet p) x y answer) (ap (led 512 owner.tree name.parent) is_below ∙ led_name owner.tree name) h

  -- the path of the name was looked up, and then the owner was told by it
  pub name_then : (is_found : Bool) (z : World) (r : Result ℕ TheStop)
      → Ran (quiet (led 512 owner.tree name.parent below)) x y (pathed path (Ok is_found))
      → Ran (path_told owner count (path_if is_found path)) y z r → Ran (name_told owner count name) x z r
  name_then is_found z r h g = look_then (name_path owner.tree name) (path_told owner count) x y (pathed path (Ok is_found)) z
      (path_if is_found path) r (looked (pathed path (Ok is_found)) h) (pathed_is path is_found) g

  -- where the way up stopped, so did the telling of the name
  pub name_stop : (s : TheStop) → Ran (quiet (led 512 owner.tree name.parent below)) x y (Err s) → Ran (name_told owner count name) x y (Err s)
  name_stop s h = look_halt (name_path owner.tree name) (path_told owner count) x y (Err s) s (looked (Err s) h) refl

-- what holds of a call that was done
pub done_holds : {A E : Type 0} (r : Result A E) (P : Type 0) → false ≡ is_err r → OnOk r P → P
done_holds (Ok a) P h p = p
done_holds (Err e) P h p = let z : ⊥ = cc in absurd z

-- any name
abbrev some_name : Link
some_name = link 0 0 []

module _ (owner : Owner) (names : List Link) (at count : ℕ) (whole : Program Line ℕ) (x y z : World)
    (leads : Leads {A = ℕ} whole (each_told owner count (drop at names)) x y) where
  -- all names were told
  pub names_end : CanRead 4 y.rack y.vol → length names ≤ at → Ran whole x y (Ok count)
  names_end ready over = leads y (Ok count)
      (subst (λ (ns : List Link). Ran (each_told owner count ns) y y (Ok count)) (sym (drop_of_length-le names over)) (ran_none y ready count))

  module _ (there : at < length names) where
    -- the names that are left are the next one and those behind it
    here : Leads whole (each_told owner count (get_or names at some_name ∷ drop (suc at) names)) x y
    here = subst (λ (ns : List Link). Leads whole (each_told owner count ns) x y) (drop-cons names at some_name there) leads

    -- one more was told
    pub names_more : (count' : ℕ) → ((d : Link) → Ran (name_told owner count (get_or names at d)) y z (Ok count'))
        → Leads whole (each_told owner count' (drop (at + 1) names)) x z
    names_more count' h =
        let next : suc at ≡ at + 1 = omega arith in
        subst (λ (n : ℕ). Leads whole (each_told owner count' (drop n names)) x z) next
        (leads_then whole x y z (name_told owner count (get_or names at some_name))
        (λ n. each_told owner n (drop (suc at) names)) count' here (h some_name))

    -- where the telling of a name stopped, the whole did
    pub names_stop : (s : TheStop) → ((d : Link) → Ran (name_told owner count (get_or names at d)) y z (Err s)) → Ran whole x z (Err s)
    names_stop s h = leads_halt whole x y z (name_told owner count (get_or names at some_name))
        (λ n. each_told owner n (drop (suc at) names)) s here (h some_name)

-- an owner that has no name, and one that has some
pub told_none : (owner : Owner) (count : ℕ) (names : List Link) → length names ≡ 0 → names_told owner count names ≡ path_told owner count None
told_none owner count [] none = refl
told_none owner count (name ∷ names) none = let z : ⊥ = omega (arith, none) in absurd z

-- an owner that has names is told by each of them
pub told_some : (owner : Owner) (count : ℕ) (names : List Link) → (length names ≡ 0 → ⊥) → names_told owner count names ≡ each_told owner count names
told_some owner count [] some = absurd (some refl)
told_some owner count (name ∷ names) some = refl

module _ (s : Super) (addr : ℕ) (ids : List ℕ) (at count : ℕ) (whole : Program Line ℕ) (x y z : World)
    (leads : Leads {A = ℕ} whole (subvolumes_told s addr count (drop at ids)) x y) where
  -- all subvolumes were told
  pub ids_end : CanRead 4 y.rack y.vol → length ids ≤ at → Ran whole x y (Ok count)
  ids_end ready over = leads y (Ok count)
      (subst (λ (xs : List ℕ). Ran (subvolumes_told s addr count xs) y y (Ok count)) (sym (drop_of_length-le ids over)) (ran_none y ready count))

  module _ (id : ℕ) (there : at < length ids) (is : get_or ids at 0 ≡ id) where
    -- the subvolumes that are left are that of the next id and those behind it
    ids_here : Leads whole (subvolumes_told s addr count (id ∷ drop (suc at) ids)) x y
    ids_here = subst (λ (xs : List ℕ). Leads whole (subvolumes_told s addr count xs) x y)
        (drop-cons ids at 0 there ∙ ap (λ n. n ∷ drop (suc at) ids) is) leads

    -- one more was told
    pub ids_more : (count' : ℕ) → Ran (subvolume_told s addr count id) y z (Ok count')
        → Leads whole (subvolumes_told s addr count' (drop (at + 1) ids)) x z
    ids_more count' h =
        let next : suc at ≡ at + 1 = omega arith in
        subst (λ (n : ℕ). Leads whole (subvolumes_told s addr count' (drop n ids)) x z) next
        (leads_then whole x y z (subvolume_told s addr count id) (λ n. subvolumes_told s addr n (drop (suc at) ids)) count' ids_here h)

    -- where the telling of a subvolume stopped, the whole did
    pub ids_stop : (t : TheStop) → Ran (subvolume_told s addr count id) y z (Err t) → Ran whole x z (Err t)
    ids_stop t h = leads_halt whole x y z (subvolume_told s addr count id) (λ n. subvolumes_told s addr n (drop (suc at) ids)) t ids_here h

-- The lookups of inodes and names are what their code folds.
use Rattle.std.proofs.Common.{◌≡◌, ℕ, List, [], ◌∷◌, ◌++◌, Option, Some, None, Result, Ok, Err, refl, sym, ap, ◌∙◌}
use Rattle.std.proofs.lemmas.List.Sums.{fold-append}
use Rattle.btr_items.specs.Inode.{inode_of}
use Rattle.btr_items.specs.RootRef.{root_ref_of}
use Rattle.btr_items.specs.declared.fault.ItemFault.{ItemFault}
use Rattle.btr_items.specs.declared.inode.Inode.{Inode}
use Rattle.btr_items.specs.declared.root_ref.RootRef.{RootRef}
use Rattle.btr_prog.specs.Prog.{Return, bind}
use Rattle.btr_prog.specs.Thread.{thread}
use Rattle.btr_walk.specs.Folds.{Next, Go, End, folded_over, next_prog}
use Rattle.btr_walk.specs.Le.{TreeItem}
use Rattle.btr_walk.specs.Range.{RangeProg}
use Rattle.btr_volume.specs.Lookup.{Lookup, formed, each}
use Rattle.btr_files.specs.declared.finding.InodeSearch.{InodeSearch}
use Rattle.btr_files.specs.declared.met.Met.{Met}
use Rattle.btr_files.specs.declared.met.Met.TheVariants as met
use Rattle.btr_files.specs.declared.met.Wanted.{Wanted}
use Rattle.btr_files.specs.declared.naming.LinkSearch.{LinkSearch}
use Rattle.btr_files.specs.declared.naming.MountSearch.{MountSearch}
use Rattle.btr_files.specs.Names.{Link, Mount, links_of, mount_of, same_link, same_mount, is_link, is_mount}
use Rattle.btr_files.specs.Steps.{formed_next, inode_step, link_in, link_step, met_more, met_links, is_one, mount_step}
use Rattle.btr_files.proofs.Folding.{bind-return, fold_as, formed_is, formed_map}
use Rattle.btr_files.proofs.Meeting.{one_is_link, one_is_mount, met_mounts}

abbrev inode_next : Unit {0} → TreeItem → Next (Unit {0}) (Option Inode)
inode_next u item = formed_next (inode_of item.body) (λ inode. End (Some inode))

abbrev searching : Unit {0} → InodeSearch
searching u = record {}

-- the inode
pub inode_as : (p : RangeProg) → thread (λ (u : Unit {0}) (item : TreeItem). formed item (inode_of item.body)
    (λ (inode : Inode). Return (Err (Some inode)))) (λ u v. None) tt p ≡ folded_over inode_step (λ s. None) (record {}) p
inode_as p =
    sym (bind-return (thread (λ (u : Unit {0}) (item : TreeItem). formed item (inode_of item.body) (λ (inode : Inode). Return (Err (Some inode))))
    (λ u v. None) tt p))
    ∙ fold_as (λ (u : Unit {0}) (item : TreeItem). formed item (inode_of item.body) (λ (inode : Inode). Return (Err (Some inode)))) (λ u v. None)
    inode_next inode_step (λ s. None) searching (λ r. r)
    (λ u item. formed_is item (λ (inode : Inode). Return (Err (Some inode))) (λ inode. End (Some inode)) (inode_of item.body) (λ inode. refl))
    (λ u item. formed_map searching (λ r. r) (λ (inode : Inode). End (Some inode)) (λ inode. End (Some inode)) (inode_of item.body) (λ inode. refl))
    (λ u. refl) p tt

module _ (wanted : Wanted) where
  abbrev link_next : List Link → TreeItem → Next (List Link) (List Link)
  link_next found item = formed_next (links_of item.key item.body) (λ more. Go (found ++ more))

  -- the search that stands for the names that were found
  abbrev link_search : List Link → LinkSearch
  link_search found = record { wanted = wanted; met = met_links (link_in wanted) met.None found }

  abbrev link_body : List Link → TreeItem → Lookup (Result (List Link) (List Link))
  link_body found item = bind (formed item (links_of item.key item.body) (λ more. Return (found ++ more))) (λ st. Return (Ok st))

  -- an item's names are added in the definition as in the code, by their form
  link_body_is : (found : List Link) (item : TreeItem) (r : Result (List Link) ItemFault) →
      let p : Lookup (Result (List Link) (List Link)) =
      bind (formed item r (λ more. Return (found ++ more))) (λ st. Return (Ok st)) in p ≡ next_prog item.leaf (formed_next r (λ more. Go (found ++ more)))
  link_body_is found item (Ok more) = refl
  link_body_is found item (Err fault) = refl

  -- whether all names of an inode are the one
  pub linked_as : (p : RangeProg) → bind (each (λ found (item : TreeItem). formed item (links_of item.key item.body) (λ more. Return (found ++ more)))
      [] p) (λ found. Return (is_link (link_in wanted) found))
      ≡ folded_over link_step (λ s. is_one s.met) (record { wanted = wanted; met = met.None }) p
  linked_as p =
      fold_as link_body (λ found u. found) link_next link_step (λ s. is_one s.met) link_search (is_link (link_in wanted))
      (λ found item. link_body_is found item (links_of item.key item.body))
      (λ found item. formed_map link_search (is_link (link_in wanted)) (λ more. Go (found ++ more))
      (λ more. Go (record { wanted = wanted; met = met_links (link_in wanted) (met_links (link_in wanted) met.None found) more }))
      (links_of item.key item.body)
      (λ more. ap (λ (m : Met). Go (record { wanted = wanted; met = m }))
      (sym (fold-append (λ seen found'. met_more seen (same_link found' (link_in wanted))) met.None found more))))
      (λ found. one_is_link (link_in wanted) found) p []

module _ (tree : ℕ) (wanted : Wanted) where
  abbrev Wants : Mount
  Wants = record { tree = tree; link = link_in wanted }

  abbrev mount_next : List Mount → TreeItem → Next (List Mount) (List Mount)
  mount_next found item = formed_next (root_ref_of item.body) (λ part. Go (found ++ mount_of item.key item.body part ∷ []))

  -- the search that stands for the names of a subvolume that were found
  abbrev mount_search : List Mount → MountSearch
  mount_search found = record { tree = tree; wanted = wanted; met = met_mounts Wants met.None found }

  abbrev mount_body : List Mount → TreeItem → Lookup (Result (List Mount) (List Mount))
  mount_body found item = bind (formed item (root_ref_of item.body) (λ part. Return (found ++ mount_of item.key item.body part ∷ []))) (λ st. Return (Ok st))

  -- the name in a ROOT_BACKREF is added in the definition as in the code, by its form
  mount_body_is : (found : List Mount) (item : TreeItem) (r : Result RootRef ItemFault) →
      let p : Lookup (Result (List Mount) (List Mount)) =
      bind (formed item r (λ part. Return (found ++ mount_of item.key item.body part ∷ []))) (λ st. Return (Ok st)) in
      p ≡ next_prog item.leaf (formed_next r (λ part. Go (found ++ mount_of item.key item.body part ∷ [])))
  mount_body_is found item (Ok part) = refl
  mount_body_is found item (Err fault) = refl

  -- whether all names of a subvolume are the one
  pub mounted_as : (p : RangeProg) → bind (each (λ found (item : TreeItem). formed item (root_ref_of item.body)
      (λ part. Return (found ++ mount_of item.key item.body part ∷ []))) [] p) (λ found. Return (is_mount Wants found))
      ≡ folded_over mount_step (λ s. is_one s.met) (record { tree = tree; wanted = wanted; met = met.None }) p
  mounted_as p =
      fold_as mount_body (λ found u. found) mount_next mount_step (λ s. is_one s.met) mount_search (is_mount Wants)
      (λ found item. mount_body_is found item (root_ref_of item.body))
      (λ found item. formed_map mount_search (is_mount Wants) (λ part. Go (found ++ mount_of item.key item.body part ∷ []))
      (λ part. Go (record {
        tree = tree;
        wanted = wanted;
        met = met_more (met_mounts Wants met.None found)
            (same_mount (mount_of item.key item.body part) Wants);
      })) (root_ref_of item.body)
      (λ part. ap (λ (m : Met). Go (record { tree = tree; wanted = wanted; met = m }))
      (sym (fold-append (λ seen found'. met_more seen (same_mount found' Wants)) met.None found (mount_of item.key item.body part ∷ [])))))
      (λ found. one_is_mount Wants found) p []

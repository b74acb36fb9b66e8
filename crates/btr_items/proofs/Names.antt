-- The names of what is read lie in the body.
use Rattle.std.proofs.Common.{◌≡◌, ℕ, ◌+◌, ◌≤◌, Bool, true, false, ◌&&◌, leb, List, length, refl, arith}
use Rattle.std.specs.Result.{IfOk}
use Rattle.std.proofs.lemmas.Bool.Decides.{nat_tests}
use Rattle.btr_base.specs.Field.{number_at}
use Rattle.btr_items.specs.Entry.{entry_at}
use Rattle.btr_items.specs.ExtRef.{ext_ref_at}
use Rattle.btr_items.specs.Form.{fields_if, HasName}
use Rattle.btr_items.specs.InodeRef.{inode_ref_at}
use Rattle.btr_items.specs.declared.entry.Entry.{Entry}
use Rattle.btr_items.specs.declared.ext_ref.ExtRef.{ExtRef}
use Rattle.btr_items.specs.declared.inode_ref.InodeRef.{InodeRef}

-- what lies before an end that is within the body is within it, where the last rule says so
named : {T : Type 0} (last : T → ℕ) (others : Bool) (end size : ℕ) (fields : T) → last fields ≤ end
    → IfOk (fields_if (others && leb end size) fields) (λ part. last part ≤ size)
named last false end size fields before = tt
named last true end size fields before =
    elim (leb end size) as (λ fits. leb end size ≡ fits → IfOk (fields_if fits fields) (λ part. last part ≤ size)) [
      | true ↦ λ fits. grind (arith, nat_tests)
      | false ↦ λ fits. tt
    ] refl

-- the name of an entry that was read lies in the body
pub entry_named : (at : ℕ) (body : List ℕ) → IfOk (entry_at at body) (λ (part : Entry). HasName body part.name_at part.name_len)
entry_named at body = named (λ (part : Entry). part.name_at + part.name_len) _ (at + 30 + number_at 2 (at + 27) body + number_at 2 (at + 25) body)
    (length body) _ (omega arith)

-- the name of an INODE_REF's part that was read lies in the body
pub inode_ref_named : (at : ℕ) (body : List ℕ) → IfOk (inode_ref_at at body) (λ (part : InodeRef). HasName body part.name_at part.name_len)
inode_ref_named at body = named (λ (part : InodeRef). part.name_at + part.name_len) _ (at + 10 + number_at 2 (at + 8) body) (length body) _ (omega arith)

-- the name of an INODE_EXTREF's part that was read lies in the body
pub ext_ref_named : (at : ℕ) (body : List ℕ) → IfOk (ext_ref_at at body) (λ (part : ExtRef). HasName body part.name_at part.name_len)
ext_ref_named at body = named (λ (part : ExtRef). part.name_at + part.name_len) _ (at + 18 + number_at 2 (at + 16) body) (length body) _ (omega arith)

-- Each entry or reference ends behind its beginning and within its body.
use Rattle.std.proofs.Common.{◌≡◌, ℕ, ◌+◌, ◌<◌, ◌≤◌, Bool, true, false, cond, ◌&&◌, leb, ltb, List, length, get_or, Option, Some, None, Result, Ok}
use Rattle.std.proofs.Common.{Err, refl, arith}
use Rattle.std.proofs.lemmas.Bool.Decides.{nat_tests}
use Rattle.btr_base.specs.Field.{number_at}
use Rattle.btr_items.specs.Entry.{entry_at}
use Rattle.btr_items.specs.ExtRef.{ext_ref_at}
use Rattle.btr_items.specs.Form.{fields_if}
use Rattle.btr_items.specs.InlineRef.{inline_ref_at, inline_ref_of}
use Rattle.btr_items.specs.InodeRef.{inode_ref_at}
use Rattle.btr_items.specs.Link.{data_size, offset_size}
use Rattle.btr_items.specs.declared.entry.Entry.{Entry}
use Rattle.btr_items.specs.declared.ext_ref.ExtRef.{ExtRef}
use Rattle.btr_items.specs.declared.fault.ItemFault.{ItemFault}
use Rattle.btr_items.specs.declared.inline_ref.InlineRef.{InlineRef}
use Rattle.btr_items.specs.declared.inode_ref.InodeRef.{InodeRef}

-- a comparison that came out true, as an order
below : (end size : ℕ) → leb end size ≡ true → end ≤ size
below end size holds = grind (arith, nat_tests)

-- where the last rule is that the end is within the body, what is answered ends there
answered : {T : Type 0} (end_of : T → ℕ) (others : Bool) (size : ℕ) (fields part : T) → fields_if (others && leb (end_of fields) size) fields ≡ Ok part
    → (end_of part ≡ end_of fields) × (end_of part ≤ size)
answered end_of false size fields part is = absurd (cc)
answered end_of true size fields part is =
    elim (leb (end_of fields) size) as (λ b. leb (end_of fields) size ≡ b → fields_if b fields ≡ Ok part → (end_of part ≡ end_of fields)
    × (end_of part ≤ size)) [
      | true ↦ λ holds same. let whole : fields ≡ part = cc in
          (cc, let e : end_of part ≡ end_of fields = cc in let b = below (end_of fields) size holds in omega arith)
      | false ↦ λ holds same. absurd (cc)
    ] refl is

-- an entry of a directory ends after its beginning and within its body
pub entry_ends : (at : ℕ) (body : List ℕ) (part : Entry) → entry_at at body ≡ Ok part → (at < part.end) × (part.end ≤ length body)
entry_ends at body part is =
    let ends : (part.end ≡ at + 30 + number_at 2 (at + 27) body + number_at 2 (at + 25) body) × (part.end ≤ length body) =
    answered (λ (e : Entry). e.end) _ (length body) _ part is in
    (omega arith, ends.1)

-- a name in an INODE_REF ends after its beginning and within its body
pub inode_ref_ends : (at : ℕ) (body : List ℕ) (part : InodeRef) → inode_ref_at at body ≡ Ok part → (at < part.end) × (part.end ≤ length body)
inode_ref_ends at body part is =
    let ends : (part.end ≡ at + 10 + number_at 2 (at + 8) body) × (part.end ≤ length body) = answered (λ (r : InodeRef). r.end) _ (length body) _ part is in
    (omega arith, ends.1)

-- a name in an INODE_EXTREF ends after its beginning and within its body
pub ext_ref_ends : (at : ℕ) (body : List ℕ) (part : ExtRef) → ext_ref_at at body ≡ Ok part → (at < part.end) × (part.end ≤ length body)
ext_ref_ends at body part is =
    let ends : (part.end ≡ at + 18 + number_at 2 (at + 16) body) × (part.end ≤ length body) = answered (λ (r : ExtRef). r.end) _ (length body) _ part is in
    (omega arith, ends.1)

-- an inline reference of a kind whose data has a known size ends within its body
inline_of_ends : (kind : ℕ) (size : Option ℕ) (at : ℕ) (body : List ℕ) (part : InlineRef) → inline_ref_of kind size at body ≡ Ok part → (at ≤ part.end)
    × (part.end ≤ length body)
inline_of_ends kind None at body part is = absurd (cc)
inline_of_ends kind (Some size) at body part is =
    let ends : (part.end ≡ at + offset_size kind + size) × (part.end ≤ length body) = answered (λ (r : InlineRef). r.end) true (length body) _ part is in
    (omega arith, ends.1)

-- what was read under a condition was read
read_of : (b : Bool) (read : Result InlineRef ItemFault) (part : InlineRef) → cond b read (Err (record {})) ≡ Ok part → read ≡ Ok part
read_of true read part is = is
read_of false read part is = absurd (cc)

-- an inline reference ends after its beginning and within its body
pub inline_ref_ends : (at : ℕ) (body : List ℕ) (part : InlineRef) → inline_ref_at at body ≡ Ok part → (at < part.end) × (part.end ≤ length body)
inline_ref_ends at body part is =
    let ends : (at + 1 ≤ part.end) × (part.end ≤ length body) =
    inline_of_ends (get_or body at 0) (data_size (get_or body at 0)) (at + 1) body part
    (read_of (ltb at (length body)) (inline_ref_of (get_or body at 0) (data_size (get_or body at 0)) (at + 1) body) part is) in
    (omega arith, ends.1)

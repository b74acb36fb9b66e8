use Rattle.std.proofs.Common.{◌≡◌, ◌∙◌, ℕ, List, Option, Some, None, sym, ap, Ok, Err, rules}
use Rattle.btr_base.specs.Field.{number_at}
use Rattle.btr_base.specs.Sum.{kind_of_type}
use Rattle.btr_base.specs.declared.kind.SumKind.{SumKind as Kind}
use Rattle.btr_super.specs.declared.fault.SuperFault.TheVariants.{SumKind}
use Rattle.btr_super.proofs.Reading.{no_magic, misplaced, other_kind, no_sum, good}
use Rattle.btr_super.proofs.superblock.Super.read.Goals as goal

-- the kind that the field names
kind_is : (bytes : List ℕ) (n : ℕ) (o p : Option Kind) → n ≡ number_at 2 0xc4 bytes → o ≡ kind_of_type n → o ≡ p → kind_of_type (number_at 2 0xc4 bytes) ≡ p
kind_is bytes n o p at of is = ap kind_of_type (sym at) ∙ sym of ∙ is

pub returns-then-ne : goal.returns-then-ne
returns-then-ne c = sym (no_magic c.args.bytes.now c.args.place (search rules))

pub returns-then-u64_at-place : goal.returns-then-u64_at-place
returns-then-u64_at-place c = sym (misplaced c.args.bytes.now c.args.place (search rules) (λ e. c.if-u64_at-place.true (c.u64_at.ensures ∙ e)))

pub returns-in-None : goal.returns-in-None
returns-in-None c =
    ap (λ n. Err (SumKind n)) c.u16_at-csum_type.ensures
    ∙ sym (other_kind c.args.bytes.now c.args.place (search rules) (sym c.u64_at.ensures ∙ c.if-u64_at-place.false)
    (kind_is c.args.bytes.now c.u16_at-csum_type.result c.from_type.result None c.u16_at-csum_type.ensures c.from_type.ensures c.in-None.is))

pub returns-in-Some : goal.returns-in-Some
returns-in-Some c =
    ap Ok c.fields.ensures
    ∙ sym (good c.args.bytes.now c.args.place (search rules) (sym c.u64_at.ensures ∙ c.if-u64_at-place.false) c.in-Some.kind
    (kind_is c.args.bytes.now c.u16_at-csum_type.result c.from_type.result (Some c.in-Some.kind) c.u16_at-csum_type.ensures c.from_type.ensures
    c.in-Some.is) (sym c.is_summed.ensures ∙ c.if-is_summed.true))

pub returns-in-Some-2 : goal.returns-in-Some-2
returns-in-Some-2 c =
    sym (no_sum c.args.bytes.now c.args.place (search rules) (sym c.u64_at.ensures ∙ c.if-u64_at-place.false) c.in-Some.kind
    (kind_is c.args.bytes.now c.u16_at-csum_type.result c.from_type.result (Some c.in-Some.kind) c.u16_at-csum_type.ensures c.from_type.ensures
    c.in-Some.is) (sym c.is_summed.ensures ∙ c.if-is_summed.false))

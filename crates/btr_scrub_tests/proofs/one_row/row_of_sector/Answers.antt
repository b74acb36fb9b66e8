use Rattle.std.proofs.Common.{◌≡◌, ◌+◌, ◌*◌, ◌≤◌, ◌∷◌, [], false, Option, Some, None, is_some, refl, sym, ap, ◌∙◌, subst}
use Rattle.std.proofs.lemmas.List.Elements.{All-cons, All-nil}
use Rattle.btr_chunk.specs.Chunk.{mirrors, stripe_length}
use Rattle.btr_chunk.specs.Table.{chunk_at}
use Rattle.btr_chunk.specs.declared.position.Elements.{Elements}
use Rattle.btr_rack.specs.Memory.{seen_of}
use Rattle.btr_read.specs.Fate.{sought_at, sought_in, target}
use Rattle.btr_read.specs.declared.want.Want.{Want}
use Rattle.btr_read.specs.declared.want.Want.TheVariants.{Sector}
use Rattle.btr_read.proofs.Serving.{serving}
use Rattle.btr_scrub_row.specs.Mending.{IsOn}
use Rattle.btr_scrub_row.specs.Rows.{Row}
use Rattle.btr_scrub.specs.Repair.{first_missing}
use Rattle.btr_scrub.proofs.AcrossChunks.{element_stands}
use Rattle.btr_scrub.proofs.Positions.{is_sought}
use Rattle.btr_scrub.proofs.RowNumbers.{IsWholeChunk, row_fits, start_there}
use Rattle.btr_scrub.proofs.Scrubbed.{all_given}
use Rattle.btr_scrub_tests.proofs.one_row.row_of_sector.Goals as goal

none_of : {X : Type 0} (o : Option X) → false ≡ is_some o → o ≡ None
none_of None e = refl
none_of (Some x) e = cc

pub returns-in-Ok-clause-row : goal.returns-in-Ok-clause-row
returns-in-Ok-clause-row c =
    let layout = c.args.store.now.layout in
    let want : Want = Sector c.args.addr c.args.sum in
    let chunk = c.in_ok-chunk.chunk.now in
    let found = sym (c.in_ok-chunk.ensures.chunk ∙ ap (λ cs. chunk_at cs c.args.addr) c.chunks.ensures) in
    let at = sym c.elements.ensures.value ∙ c.in-Ok.is in
    let t = target layout want chunk c.in-Ok.at in
    let has = ap (sought_in layout want) found ∙ ap (sought_at layout want chunk) at in
    let is = is_sought layout want t has in
    let parity : mirrors chunk ≡ None = sym c.mirrors.ensures ∙ none_of c.mirrors.result (sym c.if-is_some-2.false ∙ c.is_some-2.ensures) in
    let missing = none_of c.missing_device.result (sym c.if-is_some.false ∙ c.is_some.ensures) in
    let given = all_given (first_missing layout) (sym missing ∙ c.missing_device.ensures.devid) in
    let table = c.missing_device.ensures.table in
    let own = (serving (seen_of c.args.rack.now) c.args.store.now c.requires).own_slots in
    let whole : IsWholeChunk layout is.number chunk =
    record { of = record { table = table; there = is.there; parity = parity }; own = own; given = given } in
    let row : Row = record { chunk = chunk; number = c.in-Ok.at.row; blocks = t ∷ []; failing = λ slot. false } in
    let inside : row.number * 65536 + 65536 ≤ stripe_length chunk =
    subst (λ (e : Elements). e.row * 65536 + 65536 ≤ stripe_length chunk) (sym is.at)
    (row_fits whole.of c.args.addr is.held) in
    record {
      row = row;
      is = record {
        stripe = record {
          chunk = start_there whole.of;
          number_is = refl;
          parity = parity;
          inside = inside;
          stand = λ q part. element_stands whole (λ slot. false) [] row.number q inside part;
        };
        blocks = ap (λ s. s ∷ []) has;
        lie = All-cons (IsOn row) t [] (record { chunk = refl; number = refl }) (All-nil (IsOn row));
      };
    }

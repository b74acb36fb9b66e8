use Rattle.btr_scrub_row.proofs.mending.wanted_row.Goals as goal

pub returns-clause-there : goal.returns-clause-there
returns-clause-there c =
    let r = c.requires.row in
    let of = c.full_stripe-stripe.ensures r.row r.is.stripe in
    record { stripe = record { row = r.row; of = of }; is = record { stripe = of.is; blocks = r.is.blocks; lie = r.is.lie } }

-- What is seen of the ends of a listing.
use Rattle.std.specs.Prelude.{◌≡◌, ℕ, List, Option}
use Rattle.btr_rack.specs.Out.{CallAccount}
use Rattle.btr_rack.specs.Rack.{Seen}
use Rattle.btr_rack.specs.Sink.{Sink}
use Rattle.btr_restore.specs.declared.endpoints.Endpoints.{Endpoints}
use Rattle.btr_restore.specs.Running.{World, outside_of, world}

-- what is seen of the ends of a listing, each by what its calls show
abbrev pub world_of : {R T O : Type 0} → (R → Seen) → (T → Sink) → (T → CallAccount) → (O → Option (List ℕ)) → (O → CallAccount)
    → Endpoints R T O → World
world_of seen sink sink_calls text out_calls ends =
    world (seen ends.rack.now) ends.vol.now (outside_of sink sink_calls text out_calls ends.tree.now ends.out.now)

-- the ends of a listing are still the same places
pub record SameEnds {R T O : Type 0} (old new : Endpoints R T O) : Type 0 where
  pub rack : new.rack.ghost_name ≡ old.rack.ghost_name
  pub vol : new.vol.ghost_name ≡ old.vol.ghost_name
  pub tree : new.tree.ghost_name ≡ old.tree.ghost_name
  pub out : new.out.ghost_name ≡ old.out.ghost_name

-- A file that is being written.
use Rattle.std.specs.Prelude.{◌≡◌, ℕ, List, ◌++◌, take}
use Rattle.btr_rack.specs.History.{Event, replay, resized}

-- what was asked of the file, and where the next byte is to be stored
pub record Growing : Type 0 where
  pub history : List Event
  pub position : ℕ

-- the bytes up to there: where the file is shorter, zeros stand between
abbrev pub written : Growing → List ℕ
written file = resized file.position (replay file.history)

-- with the bytes that wait in the buffer: all that was put
abbrev pub contents : Growing → List ℕ → List ℕ
contents file buffer = written file ++ buffer

-- a first part of these bytes was put
abbrev pub PutsPart : Growing → List ℕ → Growing → List ℕ → List ℕ → Type 0
PutsPart old buffer new buffer' bytes = (n : ℕ) × (contents new buffer' ≡ contents old buffer ++ take n bytes)

-- Bytes that are put behind others, into a room of a fixed length. Assumes nothing.
use Rattle.std.specs.Prelude.{List, ◌++◌, ℕ, take}

-- what a room of a length holds and more bytes behind them, as far as the room goes
abbrev pub appended : ℕ → List ℕ → List ℕ → List ℕ
appended room held s = take room (held ++ s)

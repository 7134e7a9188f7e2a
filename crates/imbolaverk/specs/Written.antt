-- What a call leaves in a lent output.
use Rattle.std.specs.Prelude.{List, ℕ}
use Rattle.std.proofs.lemmas.List.Edits.{sets}

-- the values from the front on, the rest kept; no values: unchanged
abbrev pub written : List ℕ → List ℕ → List ℕ
written values old = sets old 0 values

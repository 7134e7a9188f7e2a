-- What is loaded: the entries of a table that have a word above 0 in its area.
use Rattle.std.specs.Prelude.{Bool, List, ℕ, ltb}
use Rattle.store.specs.declared.area.Area.{Area}
use Rattle.store.specs.Area.{at}

-- what is loaded has a word above 0 in its area; past its end an area reads 0, so it is in range too
unfoldable pub loaded : Area → List ℕ → ℕ → Bool
loaded a w i = ltb 0 (at a i w)

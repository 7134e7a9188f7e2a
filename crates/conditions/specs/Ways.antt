-- Finding a term under a link by its place, so that nothing is kept between the terms.
use Rattle.std.specs.Prelude.{List, [], ◌∷◌, ◌++◌, ◌≡◌, ℕ, ◌+◌, ◌≤◌, ◌<◌, min, length, get_or}
use Rattle.conditions.specs.Dnf.{linked, term_of}
use Rattle.store.specs.Limits.{nodes, most_terms}
use Rattle.conditions.specs.declared.dnf.Way.{Way}
use Rattle.conditions.specs.declared.dnf.Way.TheVariants.{Leaf, One, Two}

-- the counts of the terms under the links below one, 65 standing for all that are above 64
abbrev pub CountedBelow : List ℕ → ℕ → List ℕ → Type 0
CountedBelow w link counts = (c : ℕ) → c < link → get_or counts c 0 ≡ min (most_terms + 1) (length (linked w c))

-- the same for every link
abbrev pub Tallied : List ℕ → List ℕ → Type 0
Tallied w counts = (c : ℕ) → c ≤ nodes → get_or counts c 0 ≡ min (most_terms + 1) (length (linked w c))

-- there is a term i under the link, and no more than the limit
pub record Asked (w : List ℕ) (c i : ℕ) : Type 0 where
  pub inside : c ≤ nodes
  pub there : i < length (linked w c)
  pub few : length (linked w c) ≤ most_terms

-- the same for all n terms
pub record AllAsked (w : List ℕ) (c n : ℕ) : Type 0 where
  pub inside : c ≤ nodes
  pub all : n ≡ length (linked w c)
  pub few : n ≤ most_terms

-- what a way says: its parts are terms under smaller links, and put together they are the term
abbrev pub Good : List ℕ → ℕ → ℕ → Way → Type 0
Good w c i (Leaf v) = term_of w c i ≡ v ∷ []
Good w c i (One t) = (t.link < c) × Asked w t.link t.index × (term_of w c i ≡ term_of w t.link t.index)
Good w c i (Two t u) = (t.link < c) × Asked w t.link t.index × (u.link < c) × Asked w u.link u.index × (term_of w c i ≡ term_of w t.link t.index ++ term_of w u.link u.index)

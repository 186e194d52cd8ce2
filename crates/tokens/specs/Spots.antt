-- A token as the code knows it: its kind, its place and its end.
use Rattle.std.specs.Prelude.{◌-◌, ◌<◌, ◌≤◌, ◌∷◌, ◌≡◌}
use Rattle.common.specs.Words.{ℕ, cond, List, [], length}
use Rattle.common.specs.Stores.{part}
use Rattle.tokens.specs.declared.Spot.{Spot}
use Rattle.words.specs.Kinds.{ENDED}
use Rattle.words.specs.Same.{same_kind}
use Rattle.tokens.specs.Tokens.{Token, token, from}

-- the token that it is
abbrev pub token_of : List ℕ → Spot → Token
token_of p s = token s.kind s.start (part p s.start (s.end - s.start))

-- the tokens from it on
unfoldable pub behind : List ℕ → Spot → List Token
behind p s = cond (same_kind s.kind ENDED) [] (from p s.end)

-- what the code says of the token that stands first from a place on
pub record Stands (p : List ℕ) (at : ℕ) (s : Spot) : Type 0 where
  pub tokens : from p at ≡ token_of p s ∷ behind p s
  pub forward : s.start ≤ s.end
  pub empty : s.kind ≡ ENDED → s.end ≡ s.start
  pub wide : (s.kind ≡ ENDED → ⊥) → s.start < s.end
  pub within : (s.kind ≡ ENDED → ⊥) → s.end ≤ length p

-- Keys and what they mean: a name is what is spelled at its place.
use Rattle.std.specs.Prelude.{◌+◌, ◌*◌, ◌%◌, ◌<◌, ◌&&◌, ◌∷◌}
use Rattle.common.specs.Words.{ℕ, Bool, cond, List, [], eqb, take, drop}
use Rattle.words.specs.Letters.{same}
use Rattle.tokens.specs.Tokens.{run, in_name, letter, digit}
use Rattle.keys.specs.declared.Key.{Key}
use Rattle.keys.specs.declared.Lanes.{Lanes}

-- the name at a place of a plain text: letters, digits and underscores
unfoldable pub spelled : List ℕ → ℕ → List ℕ
spelled p i = take (run letter digit (drop i p)) (drop i p)

abbrev pub key : ℕ → ℕ → ℕ → ℕ → ℕ → Key
key s w a b c = record { sort = s; within = w; first = a; second = b; third = c }

-- a key with its names spelled out
pub record Meaning : Type 0 where
  pub sort : ℕ
  pub within : ℕ
  pub first : List ℕ
  pub second : List ℕ
  pub third : List ℕ

abbrev pub meaning : ℕ → ℕ → List ℕ → List ℕ → List ℕ → Meaning
meaning s w a b c = record { sort = s; within = w; first = a; second = b; third = c }

unfoldable pub meant : List ℕ → Key → Meaning
meant p k = meaning k.sort k.within (spelled p k.first) (spelled p k.second) (spelled p k.third)

-- whether two keys mean the same
unfoldable pub same_meaning : Meaning → Meaning → Bool
same_meaning a b =
    eqb a.sort b.sort && (eqb a.within b.within
    && (same a.first b.first && (same a.second b.second && same a.third b.third)))

-- ## A number for each meaning

abbrev pub prime : ℕ
prime = 2147483647

abbrev pub low_factor : ℕ
low_factor = 742938285

abbrev pub high_factor : ℕ
high_factor = 950706376

-- both lanes of a hash are below the prime
abbrev pub Below : Lanes → Type 0
Below l = (l.low < prime) × (l.high < prime)

-- one lane with one number more, by a factor; what the other lane has counts with the number
unfoldable pub turned : ℕ → ℕ → ℕ → ℕ → ℕ
turned f own other n =
    let more = other + n % prime in
    let x = (own * f + more + 1) % prime in
    (x * x + more) % prime

-- both lanes with one number more
unfoldable pub stirred : Lanes → ℕ → Lanes
stirred l n = record { low = turned low_factor l.low l.high n; high = turned high_factor l.high l.low n }

-- one name more; its end counts as a byte 0, so that it matters where one name ends and the next begins
unfoldable pub named : Lanes → List ℕ → Lanes
named l [] = stirred l 0
named l (b ∷ bs) = named (stirred l b) bs

-- all parts of a meaning
unfoldable pub lanes_of : Meaning → Lanes
lanes_of m = named (named (named (stirred (stirred (record { low = 0; high = 0 }) m.sort) m.within) m.first) m.second) m.third

-- two lanes side by side: meanings that have the same number agree in both
unfoldable pub hash_of : Meaning → ℕ
hash_of m = (lanes_of m).low + prime * (lanes_of m).high

-- ## Names byte by byte

-- a byte that can stand in a name, 0 for any other
unfoldable pub name_byte : ℕ → ℕ
name_byte b = cond (in_name b) b 0

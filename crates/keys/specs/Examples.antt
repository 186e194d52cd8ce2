-- Names and hashes of a short text, reckoned.
use Rattle.std.specs.Prelude.{◌≡◌}
use Rattle.common.specs.Words.{refl, [], true, false}
use Rattle.words.specs.Letters.{letters, same}
use Rattle.tokens.specs.Tokens.{sort_of, run}
use Rattle.keys.specs.Keys.{spelled, key, meaning, meant, same_meaning, turned, stirred, named, lanes_of, hash_of}

-- a name ends before a blank or a sign, and none stands at a sign or behind the end
pub name_stands : spelled (letters "end a_1;") 4 ≡ letters "a_1"
unfolding spelled run sort_of
name_stands = refl

pub none_stands : spelled (letters "end a_1;") 7 ≡ []
unfolding spelled run sort_of
none_stands = refl

pub none_behind : spelled (letters "end a_1;") 8 ≡ []
unfolding spelled run sort_of
none_behind = refl

-- the same name at another place is the same key, one that goes on is not
pub spelled_alike : same_meaning (meant (letters "a1 a1 a12") (key 5 0 0 0 0)) (meant (letters "a1 a1 a12") (key 5 0 3 0 0)) ≡ true
unfolding spelled run sort_of meant same_meaning same
spelled_alike = refl

pub spelled_apart : same_meaning (meant (letters "a1 a1 a12") (key 5 0 0 0 0)) (meant (letters "a1 a1 a12") (key 5 0 6 0 0)) ≡ false
unfolding spelled run sort_of meant same_meaning same
spelled_apart = refl

-- where a name ends makes a difference
pub hash_one : hash_of (meaning 3 0 (letters "sensor") (letters "impl") []) ≡ 2504427993914211857
unfolding hash_of lanes_of named stirred turned
hash_one = refl

pub hash_other : hash_of (meaning 3 0 (letters "sensori") (letters "mpl") []) ≡ 1114086487474233842
unfolding hash_of lanes_of named stirred turned
hash_other = refl

-- The rules of one token at a token that the code has found.
use Rattle.std.specs.Prelude.{◌-◌, ◌≡◌}
use Rattle.common.specs.Words.{ℕ, arith, Bool, true, false, cond, List, length, ap}
use Rattle.words.specs.declared.kinds.Kind.{Kind}
use Rattle.words.specs.Words.{is_name, NAME}
use Rattle.words.specs.Same.{kind_same, kind_differs, name_there}
use Rattle.words.specs.Kinds.{ENDED}
use Rattle.common.specs.Stores.{part, part_length}
use Rattle.words.specs.Letters.{same}
use Rattle.words.specs.Found.{same_length}
use Rattle.tokens.specs.Tokens.{Token, from}
use Rattle.tokens.specs.Spots.{Stands, token_of, behind}
use Rattle.tokens.specs.declared.Spot.{Spot}
use Rattle.steps.specs.declared.faults.Rule.TheVariants.{Unfit}
use Rattle.steps.specs.declared.faults.Why.{Why}
use Rattle.steps.specs.Faults.{fault}
use Rattle.steps.specs.Steps.{On, Stop, any, the, name, own, its_own}

module _ (p : List ℕ) (at : ℕ) (s : Spot) (here : Stands p at s) where
  pub any_end : s.kind ≡ ENDED → On (from p at) ≡ any (from p at)
  unfolding any
  any_end e = rw (here.tokens, kind_same s.kind ENDED e)

  pub any_on : (s.kind ≡ ENDED → ⊥) → On (from p s.end) ≡ any (from p at)
  unfolding any behind
  any_on n = rw (here.tokens, kind_differs s.kind ENDED n)

  pub the_off : (kind : Kind) → (s.kind ≡ kind → ⊥) → Stop (fault Unfit s.start (Why.Expected kind)) ≡ the kind (from p at)
  unfolding the
  the_off kind n = rw (here.tokens, kind_differs s.kind kind n)

  pub the_on : (kind : Kind) → s.kind ≡ kind → any (from p at) ≡ the kind (from p at)
  unfolding the
  the_on kind e = rw (here.tokens, kind_same s.kind kind e)

  pub name_off : is_name s.kind ≡ false → Stop (fault Unfit s.start (Why.Expected NAME)) ≡ name (from p at)
  unfolding name
  name_off l = rw (here.tokens, l)

  pub name_on : is_name s.kind ≡ true → any (from p at) ≡ name (from p at)
  unfolding name
  name_on l = rw (here.tokens, l)

  pub own_name_lem : (k : Token) → is_name s.kind ≡ false → Stop (fault Unfit s.start its_own) ≡ own k (from p at)
  unfolding own
  own_name_lem k l = rw (here.tokens, l)

  pub own_by : (k : Token) (b : Bool) → is_name s.kind ≡ true → same (token_of p s).letters k.letters ≡ b →
      cond b (any (from p at)) (Stop (fault Unfit s.start its_own)) ≡ own k (from p at)
  unfolding own
  own_by k b l e = rw (here.tokens, l, e)

-- a token has a byte at least, the text's end none, so that their bytes are not the same
pub end_differs : (p : List ℕ) (at by : ℕ) (s e : Spot) → Stands p at s → Stands p by e → is_name s.kind ≡ true → e.kind ≡ ENDED →
    same (token_of p s).letters (token_of p e).letters ≡ false
end_differs p at by s e h g n k =
    let r = name_there s.kind n in
    let x = part_length p s.start s.end h.forward (h.within r) in
    let z : e.end - e.start ≡ 0 = omega (arith, g.empty k) in
    same_length (token_of p s).letters (token_of p e).letters (λ l.
    omega (arith, h.wide r, x, l, ap (λ (m : ℕ). length (part p e.start m)) z))

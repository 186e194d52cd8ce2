-- AADL.md, section 4: times. "NUMBER and a unit, a NAME, ms or sec", in ticks of 1 ms.
use Rattle.std.specs.Prelude.{◌+◌, ◌-◌, ◌*◌, ◌&&◌, ◌∷◌}
use Rattle.common.specs.Words.{ℕ, zero, suc, min, Bool, true, false, cond, List, [], eqb, drop}
use Rattle.words.specs.Words.{is_name}
use Rattle.words.specs.Kinds.{NUMBER, MS, SEC}
use Rattle.tokens.specs.Tokens.{Token}
use Rattle.steps.specs.declared.faults.Fault.{Fault}
use Rattle.steps.specs.declared.faults.Rule.TheVariants.{NoTime}
use Rattle.steps.specs.declared.faults.Why.{Why}
use Rattle.words.specs.Same.{same_kind}
use Rattle.steps.specs.Faults.{fault}
use Rattle.steps.specs.Steps.{Step, On, head, unfit}
use Rattle.times.specs.declared.Sum.{Sum}

-- a number as its bytes are read: the ticks so far, how many more places behind the point are ticks, whether the point came, and whether
-- what follows those places is 0
abbrev pub sum : ℕ → ℕ → Bool → Bool → Sum
sum n places point whole = record { ticks = n; places = places; point = point; whole = whole }

-- one digit more: the places behind the point are used up first, then a digit has to be 0
abbrev pub with_digit : (ℕ → ℕ → ℕ) → Sum → ℕ → Sum
with_digit grow s d =
    cond s.point
    (cond (eqb s.places 0) (sum s.ticks 0 true (s.whole && eqb d 0)) (sum (grow s.ticks d) (s.places - 1) true s.whole))
    (sum (grow s.ticks d) s.places false s.whole)

-- one byte more: underscores say nothing
unfoldable pub with_byte : (ℕ → ℕ → ℕ) → Sum → ℕ → Sum
with_byte grow s b = cond (eqb b 0x5f) s (cond (eqb b 0x2e) (sum s.ticks s.places true s.whole) (with_digit grow s (b - 0x30)))

unfoldable pub with_bytes : (ℕ → ℕ → ℕ) → Sum → List ℕ → Sum
with_bytes grow s [] = s
with_bytes grow s (b ∷ bs) = with_bytes grow (with_byte grow s b) bs

abbrev pub tenfold : ℕ → ℕ → ℕ
tenfold n d = n * 10 + d

-- the places that no digit came for
unfoldable pub filled : (ℕ → ℕ → ℕ) → ℕ → ℕ → ℕ
filled grow n zero = n
filled grow n (suc k) = filled grow (grow n 0) k

-- "It has no upper bound here .. and nothing overflows": a time above this counts as this, which planning refuses
abbrev pub most : ℕ
most = 1_000_000_000_000

-- what a form says: how the text goes on, the property's value, and the faults that are noted
pub record Formed : Type 0 where
  pub went : Step
  pub value : ℕ
  pub notes : List Fault

abbrev pub formed : Step → ℕ → List Fault → Formed
formed w v ns = record { went = w; value = v; notes = ns }

-- a number's value: 1 where it has a fault, "A time with 22 is there"; else the number, of a time its ticks, and 2
abbrev pub odd : ℕ
odd = 1

abbrev pub valued : ℕ → ℕ
valued n = 2 + n

-- what is wrong with a time: it is not whole, its unit is unknown, it has none
abbrev pub not_whole : Why
not_whole = Why.NotWhole

abbrev pub unit_unknown : Why
unit_unknown = Why.UnitUnknown

abbrev pub unit_missing : Why
unit_missing = Why.UnitMissing

-- "at the NUMBER, where .. the time is not whole"; a second has three places more
unfoldable pub time_of : Token → ℕ → Step → Formed
time_of k places w =
    let s = with_bytes tenfold (sum 0 places false true) k.letters in
    cond s.whole (formed w (valued (min most (filled tenfold s.ticks s.places))) []) (formed w odd (fault NoTime k.start not_whole ∷ []))

-- "22 while reading: at the unit, where it is not ms or sec; at the NUMBER, where no NAME follows"
unfoldable pub time : List Token → Formed
time ts =
    let n = head ts in
    let u = head (drop 1 ts) in
    let behind = On (drop 2 ts) in
    cond (same_kind n.kind NUMBER)
    (cond (is_name u.kind)
    (cond (same_kind u.kind MS) (time_of n 0 behind)
    (cond (same_kind u.kind SEC) (time_of n 3 behind)
    (formed behind odd (fault NoTime u.start unit_unknown ∷ []))))
    (formed (On (drop 1 ts)) odd (fault NoTime n.start unit_missing ∷ [])))
    (formed (unfit (Why.Expected NUMBER) ts) 0 [])

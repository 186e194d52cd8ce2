-- Laws of times: sums that stop at the most are the exact ones as far as the most, the forms that the code reads are those of the definition,
-- and a time goes on by a token at least.
use Rattle.std.specs.Prelude.{◌+◌, ◌-◌, ◌<◌, ◌&&◌, ◌∷◌, ◌≡◌, Result, Ok, Err, Some}
use Rattle.common.specs.Words.{ℕ, zero, suc, min, arith, Bool, true, false, cond, List, [], drop, refl, sym, ap, true≢false, ◌∙◌, eqb}
use Rattle.common.specs.Stores.{part}
use Rattle.words.specs.Words.{is_name}
use Rattle.words.specs.Kinds.{ENDED, NUMBER, MS, SEC}
use Rattle.tokens.specs.Tokens.{Token, from}
use Rattle.tokens.specs.Spots.{Stands, token_of, behind}
use Rattle.tokens.specs.declared.Spot.{Spot}
use Rattle.tokens.specs.Laws.{either, cases}
use Rattle.steps.specs.declared.faults.Fault.{Fault}
use Rattle.steps.specs.declared.faults.Rule.TheVariants.{Unfit, NoTime}
use Rattle.steps.specs.declared.faults.Why.{Why}
use Rattle.words.specs.declared.kinds.Kind.{Kind}
use Rattle.words.specs.Same.{same_kind, kind_is, kind_apart, kind_differs, name_real}
use Rattle.steps.specs.Faults.{fault, no_fault, worse, worst}
use Rattle.steps.specs.Steps.{Step, On, head, next, any}
use Rattle.steps.specs.Lifted.{lift}
use Rattle.steps.specs.Laws.{Moved, stopped, moved_any, moved_then, moves_any}
use Rattle.times.specs.declared.Sum.{Sum}
use Rattle.times.specs.Times.{sum, with_digit, with_byte, with_bytes, tenfold, filled, most, Formed, odd, not_whole, unit_unknown, unit_missing}
use Rattle.times.specs.Times.{time_of, time}
use Rattle.times.specs.Sums.{grown, counted, Forms, form_from, unformed, odd_at}

-- ## Sums that stop at the most

grown_capped : (n d : ℕ) → grown (min most n) d ≡ min most (tenfold n d)
grown_capped n d = omega arith

-- a sum as far as the most
abbrev pub capped : Sum → Sum
capped s = sum (min most s.ticks) s.places s.point s.whole

digit_capped : (s : Sum) (d : ℕ) → with_digit grown (capped s) d ≡ capped (with_digit tenfold s d)
digit_capped s d = go s.point (eqb s.places 0)
  where
    e : grown (min most s.ticks) d ≡ min most (tenfold s.ticks d)
    e = grown_capped s.ticks d

    -- the sum with the digit by its two tests, from the ticks as they were and one digit more
    by : ℕ → ℕ → Bool → Bool → Sum
    by same more point none =
        cond point (cond none (sum same 0 true (s.whole && eqb d 0)) (sum more (s.places - 1) true s.whole))
        (sum more s.places false s.whole)

    go : (point none : Bool) →
        by (min most s.ticks) (grown (min most s.ticks) d) point none ≡ capped (by s.ticks (tenfold s.ticks d) point none)
    go true true = refl
    go true false = ap (λ (n : ℕ). sum n (s.places - 1) true s.whole) e
    go false none = ap (λ (n : ℕ). sum n s.places false s.whole) e

byte_capped : (s : Sum) (b : ℕ) → with_byte grown (capped s) b ≡ capped (with_byte tenfold s b)
unfolding with_byte
byte_capped s b = go (eqb b 0x5f) (eqb b 0x2e)
  where
    go : (under dot : Bool) →
        cond under (capped s) (cond dot (sum (min most s.ticks) s.places true s.whole) (with_digit grown (capped s) (b - 0x30)))
        ≡ capped (cond under s (cond dot (sum s.ticks s.places true s.whole) (with_digit tenfold s (b - 0x30))))
    go true dot = refl
    go false true = refl
    go false false = digit_capped s (b - 0x30)

bytes_capped : (s : Sum) (bs : List ℕ) → with_bytes grown (capped s) bs ≡ capped (with_bytes tenfold s bs)
unfolding with_bytes
bytes_capped s [] = refl
bytes_capped s (b ∷ bs) = rw (byte_capped s b) (bytes_capped (with_byte tenfold s b) bs)

pub counted_capped : (bs : List ℕ) (places : ℕ) → counted bs places ≡ capped (with_bytes tenfold (sum 0 places false true) bs)
counted_capped bs places = bytes_capped (sum 0 places false true) bs

pub filled_capped : (n k : ℕ) → filled grown (min most n) k ≡ min most (filled tenfold n k)
unfolding filled
filled_capped n zero = refl
filled_capped n (suc k) = rw (grown_capped n 0) (filled_capped (tenfold n 0) k)

-- a place that is filled before the rest is one of the places
pub filled_more : (grow : ℕ → ℕ → ℕ) (n k : ℕ) → 0 < k → filled grow (grow n 0) (k - 1) ≡ filled grow n k
unfolding filled
filled_more grow n zero h = absurd (omega arith)
filled_more grow n (suc k) h = let e : suc k - 1 ≡ k = omega arith in rw e

-- ## The forms that the code reads

-- a number with its places, of which the code has reckoned s; the definition's own sum is exact
module _ (p : List ℕ) (n : Spot) (places : ℕ) (s : Sum) (reckoned : s ≡ counted (part p n.start (n.end - n.start)) places) where
  abbrev pub exact : Sum
  exact = with_bytes tenfold (sum 0 places false true) (part p n.start (n.end - n.start))

  pub is_capped : s ≡ capped exact
  is_capped = reckoned ∙ counted_capped (part p n.start (n.end - n.start)) places

  -- with its unit
  module _ (w : Result ℕ Fault) where
    pub time_whole : (v : ℕ) → s.whole ≡ true → v ≡ filled grown s.ticks s.places →
        Forms p (record { went = w; value = v + 2; fault = no_fault }) (time_of (token_of p n) places (lift p w))
    unfolding time_of worst
    time_whole v h e =
        let t : exact.whole ≡ true = sym (ap (λ (u : Sum). u.whole) is_capped) ∙ h in
        let f : v ≡ min most (filled tenfold exact.ticks exact.places) =
        e ∙ ap (λ (u : Sum). filled grown u.ticks u.places) is_capped ∙ filled_capped exact.ticks exact.places in
        rw t (record { went = refl; value = omega arith; fault = refl })

    pub time_not_whole : s.whole ≡ false →
        Forms p (record { went = w; value = odd; fault = Some (fault NoTime n.start not_whole) }) (time_of (token_of p n) places (lift p w))
    unfolding time_of worst worse
    time_not_whole h =
        let t : exact.whole ≡ false = sym (ap (λ (u : Sum). u.whole) is_capped) ∙ h in
        rw t (record { went = refl; value = refl; fault = refl })

-- where a rule before it has stopped
pub stopped_before : (p : List ℕ) (form : List Token → Formed) (w : Result ℕ Fault) (f : Fault) → w ≡ Err f →
    Forms p (unformed w) (form_from form (lift p w))
unfolding worst
stopped_before p form w f e = rw e (record { went = refl; value = refl; fault = refl })

-- a NUMBER is not the text's end
pub number_there : (k : Kind) → same_kind k NUMBER ≡ true → same_kind k ENDED ≡ false
number_there k e = kind_differs k ENDED (λ x. kind_apart NUMBER ENDED refl (sym (kind_is k NUMBER e) ∙ x))

-- a token that is no NUMBER
pub time_unfit : (p : List ℕ) (at : ℕ) (n : Spot) → Stands p at n → same_kind n.kind NUMBER ≡ false →
    Forms p (unformed (Err (fault Unfit n.start (Why.Expected NUMBER)))) (time (from p at))
unfolding time worst
time_unfit p at n here other = rw (here.tokens, other) (record { went = refl; value = refl; fault = refl })

-- a NUMBER, and what follows it
module _ (p : List ℕ) (at : ℕ) (n u : Spot) (here : Stands p at n) (number : same_kind n.kind NUMBER ≡ true) (follows : Stands p n.end u) where
  -- the NUMBER is passed, and the unit
  first : from p at ≡ token_of p n ∷ from p n.end
  unfolding behind
  first = rw (number_there n.kind number) at here.tokens

  two : is_name u.kind ≡ true → from p at ≡ token_of p n ∷ token_of p u ∷ from p u.end
  unfolding behind
  two h = first ∙ ap (λ (ts : List Token). token_of p n ∷ ts) (rw (name_real u.kind h) at follows.tokens)

  pub time_missing : is_name u.kind ≡ false → Forms p (odd_at (Ok n.end) NoTime n.start unit_missing) (time (from p at))
  unfolding time worst worse
  time_missing h =
      rw (first, follows.tokens, number, h)
      (record { went = ap On follows.tokens; value = refl; fault = refl })

  pub time_ms : same_kind u.kind MS ≡ true → time (from p at) ≡ time_of (token_of p n) 0 (On (from p u.end))
  unfolding time
  time_ms e =
      let h : is_name u.kind ≡ true = ap is_name (kind_is u.kind MS e) in
      rw (two h, number, h, e)

  pub time_sec : same_kind u.kind SEC ≡ true → time (from p at) ≡ time_of (token_of p n) 3 (On (from p u.end))
  unfolding time
  time_sec e =
      let k : u.kind ≡ SEC = kind_is u.kind SEC e in
      let h : is_name u.kind ≡ true = ap is_name k in
      rw (two h, number, h, kind_differs u.kind MS (λ x. kind_apart SEC MS refl (sym k ∙ x)), e)

  pub time_unknown : is_name u.kind ≡ true → same_kind u.kind MS ≡ false → same_kind u.kind SEC ≡ false →
      Forms p (odd_at (Ok u.end) NoTime u.start unit_unknown) (time (from p at))
  unfolding time worst worse
  time_unknown h a b =
      rw (two h, number, h, a, b)
      (record { went = refl; value = refl; fault = refl })

-- ## How far a time goes

-- a token is passed, and two
pub one_moves : (ts : List Token) → same_kind (next ts) ENDED ≡ false → Moved 1 ts (On (drop 1 ts))
unfolding any
one_moves ts n = rw n at (moved_any ts n)

two_moves : (ts : List Token) → same_kind (next ts) ENDED ≡ false → same_kind (next (drop 1 ts)) ENDED ≡ false → Moved 1 ts (On (drop 2 ts))
unfolding any
two_moves [] a b = absurd (true≢false a)
two_moves (k ∷ ts) a b = rw (a, b) at (moved_then (moved_any (k ∷ ts) a) moves_any)

-- whether it is whole or not
time_of_went : (k : Token) (places : ℕ) (w : Step) → (time_of k places w).went ≡ w
unfolding time_of
time_of_went k places w =
    either (λ (f : Formed). f.went ≡ w) (with_bytes tenfold (sum 0 places false true) k.letters).whole refl refl

-- where it goes on it has passed its NUMBER
pub time_moves : (ts : List Token) → Moved 1 ts (time ts).went
unfolding time
time_moves ts =
    let P : Formed → Type 0 = λ (f : Formed). Moved 1 ts f.went in
    let u = next (drop 1 ts) in
    cases P (same_kind (next ts) NUMBER)
    (λ e. let a = number_there (next ts) e in
    cases P (is_name u)
    (λ f. let m = two_moves ts a (name_real u f) in
    either P (same_kind u MS) (rw (time_of_went (head ts) 0 (On (drop 2 ts))) m)
    (either P (same_kind u SEC) (rw (time_of_went (head ts) 3 (On (drop 2 ts))) m) m))
    (λ _. one_moves ts a))
    (λ _. stopped)

-- Laws of rules: rules in a row, choices and loops as the code takes them, and that a rule goes on by as many tokens as it reads.
use Rattle.std.specs.Prelude.{◌+◌, ◌<◌, ◌≤◌, ◌∷◌, ◌≡◌, Result, Ok, Err}
use Rattle.common.specs.Words.{ℕ, zero, suc, arith, Bool, true, false, true≢false, cond, List, [], refl, sym, ap, ◌∙◌}
use Rattle.common.specs.Words.{length, drop, drop-drop, length-drop}
use Rattle.words.specs.declared.kinds.Kind.{Kind}
use Rattle.words.specs.Words.{is_name}
use Rattle.words.specs.Same.{same_kind, kind_is, kind_apart, name_real}
use Rattle.words.specs.Letters.{same}
use Rattle.words.specs.Kinds.{ENDED, THREAD, PORT, ARROW, DELAYING}
use Rattle.tokens.specs.Tokens.{Token, from}
use Rattle.tokens.specs.Laws.{either, cases, start_of, from_first}
use Rattle.steps.specs.declared.faults.Fault.{Fault}
use Rattle.steps.specs.Steps.{Step, On, Stop, ◌⟫◌, head, next, is, any, the, name, own, optional, many_by, many}
use Rattle.steps.specs.Lifted.{lift, first, first_kind, holds, size}

-- rules in a row
pub then_then : (s : Step) (f g : List Token → Step) → (s ⟫ f) ⟫ g ≡ s ⟫ (λ ts. f ts ⟫ g)
then_then (On ts) f g = refl
then_then (Stop x) f g = refl

-- a choice, where the code knows how its test comes out
module _ (b : List Token → Bool) (f g : List Token → Step) where
  pub choose_on : (s : Step) → holds b s ≡ true → s ⟫ f ≡ s ⟫ (λ ts. cond (b ts) (f ts) (g ts))
  choose_on (On ts) h = rw h
  choose_on (Stop x) h = refl

  pub choose_off : (s : Step) → holds b s ≡ false → s ⟫ g ≡ s ⟫ (λ ts. cond (b ts) (f ts) (g ts))
  choose_off (On ts) h = rw h
  choose_off (Stop x) h = refl

pub optional_on : (b : List Token → Bool) (f : List Token → Step) (s : Step) → holds b s ≡ true → s ⟫ f ≡ s ⟫ optional b f
unfolding optional
optional_on b f s h = choose_on b f On s h

pub optional_off : (b : List Token → Bool) (f : List Token → Step) (s : Step) → holds b s ≡ false → s ≡ s ⟫ optional b f
unfolding optional
optional_off b f (On ts) h = rw h
optional_off b f (Stop x) h = refl

-- a test of the next token's kind, as the code makes it
pub kind_on : (t : Kind → Bool) (s : Step) → t ENDED ≡ false → t (first_kind s) ≡ true → holds (λ ts. t (next ts)) s ≡ true
kind_on t (On ts) e h = h
kind_on t (Stop x) e h = absurd (true≢false (sym h ∙ e))

pub kind_off : (t : Kind → Bool) (s : Step) → t (first_kind s) ≡ false → holds (λ ts. t (next ts)) s ≡ false
kind_off t (On ts) h = h
kind_off t (Stop x) h = refl

pub is_on : (kind : Kind) (s : Step) → same_kind ENDED kind ≡ false → same_kind (first_kind s) kind ≡ true → holds (is kind) s ≡ true
is_on kind s n e = kind_on (λ k. same_kind k kind) s n e

pub is_off : (kind : Kind) (s : Step) → same_kind (first_kind s) kind ≡ false → holds (is kind) s ≡ false
is_off kind s n = kind_off (λ k. same_kind k kind) s n

-- whether no rule has stopped; none had before then either
abbrev pub going : Step → Bool
going s = holds (λ ts. true) s

pub going_before : (s : Step) (rule : List Token → Step) → going (s ⟫ rule) ≡ true → going s ≡ true
going_before (On ts) rule h = refl
going_before (Stop f) rule h = h

-- the token that a name stands as, by its place
pub token_there : (p : List ℕ) (w : Result ℕ Fault) → going (lift p w) ≡ true → head (from p (first (lift p w)).start) ≡ first (lift p w)
token_there p (Ok at) h = ap head (ap (from p) (sym (its_start (from p at))) ∙ from_first p at)
  where
    its_start : (ts : List Token) → start_of ts ≡ (head ts).start
    its_start [] = refl
    its_start (k ∷ ts) = refl
token_there p (Err f) h = absurd (true≢false (sym h))

-- ## How far a rule goes

-- a token's weight: its bytes, as far as its kind tells
abbrev pub weight_of : Kind → ℕ
weight_of kind =
    cond (same_kind kind ENDED) 0
    (cond (same_kind kind THREAD) 6 (cond (same_kind kind PORT) 4 (cond (same_kind kind ARROW) 2 (cond (same_kind kind DELAYING) 2 1))))

unfoldable pub weight : List Token → ℕ
weight [] = 0
weight (k ∷ ts) = weight_of k.kind + weight ts

-- so many tokens were passed, of this weight at least
pub record Goes (n : ℕ) (ts rest : List Token) : Type 0 where
  pub passed : ℕ
  pub left : drop passed ts ≡ rest
  pub heavy : n + weight rest ≤ weight ts

-- what a rule says of tokens is no step back; it has passed this weight at least where it goes on
pub data Moved (n : ℕ) (ts : List Token) : Step → Type 0 where
  went : {rest : List Token} → Goes n ts rest → Moved n ts (On rest)
  stopped : {f : Fault} → Moved n ts (Stop f)

abbrev pub Moves : ℕ → (List Token → Step) → Type 0
Moves n rule = (ts : List Token) → Moved n ts (rule ts)

pub goes_none : (ts : List Token) → Goes 0 ts ts
goes_none ts = record { passed = 0; left = refl; heavy = omega arith }

pub goes_on : {n m : ℕ} {a b c : List Token} → Goes n a b → Goes m b c → Goes (n + m) a c
goes_on {n} {m} {a} {b} {c} f g = record {
  passed = f.passed + g.passed;
  left = sym (drop-drop g.passed f.passed a) ∙ ap (drop g.passed) f.left ∙ g.left;
  heavy = omega (arith, f.heavy, g.heavy);
}

pub goes_less : {n : ℕ} (m : ℕ) {a b : List Token} → m ≤ n → Goes n a b → Goes m a b
goes_less m h g = record { passed = g.passed; left = g.left; heavy = omega (arith, g.heavy) }

-- no rule goes back
pub goes_length : {n : ℕ} {a b : List Token} → Goes n a b → length b ≤ length a
goes_length {a = a} g = rw (← g.left) (simp length-drop (omega arith))

pub goes_shorter : {n : ℕ} {a b : List Token} → Goes (suc n) a b → length b < length a
unfolding weight
goes_shorter {a = a} {b = b} g = go g.passed a g.left (omega (arith, g.heavy))
  where
    go : (k : ℕ) (a : List Token) → drop k a ≡ b → weight b < weight a → length b < length a
    go zero a e h = absurd (omega (arith, ap weight e))
    go (suc k) [] e h = absurd (omega arith)
    go (suc k) (x ∷ a) e h = rw (← e) (simp length-drop (omega arith))

-- ## The rules

pub moved_either : {n : ℕ} {ts : List Token} (b : Bool) {x y : Step} → Moved n ts x → Moved n ts y → Moved n ts (cond b x y)
moved_either true p q = p
moved_either false p q = q

-- a token is passed
goes_one : (n : ℕ) (k : Token) (ts : List Token) → n ≤ weight_of k.kind → Goes n (k ∷ ts) ts
unfolding weight
goes_one n k ts h = record { passed = 1; left = refl; heavy = omega arith }

-- a token that is not the text's end has a byte at least
pub weighs : (kind : Kind) → same_kind kind ENDED ≡ false → 1 ≤ weight_of kind
weighs kind n = rw n (go (same_kind kind THREAD) (same_kind kind PORT) (same_kind kind ARROW) (same_kind kind DELAYING))
  where
    go : (a b c d : Bool) → 1 ≤ cond a 6 (cond b 4 (cond c 2 (cond d 2 1)))
    go true b c d = omega arith
    go false true c d = omega arith
    go false false true d = omega arith
    go false false false true = omega arith
    go false false false false = omega arith

pub moves_any : Moves 0 any
unfolding any
moves_any [] = went (goes_none [])
moves_any (k ∷ ts) = went (either (λ (r : List Token). Goes 0 (k ∷ ts) r)
    (same_kind k.kind ENDED) (goes_none (k ∷ ts)) (goes_one 0 k ts (omega arith)))

-- where it is not the text's end
pub moved_any : (ts : List Token) → same_kind (next ts) ENDED ≡ false → Moved 1 ts (any ts)
unfolding any
moved_any [] n = absurd (true≢false n)
moved_any (k ∷ ts) n = rw n (went (goes_one 1 k ts (weighs k.kind n)))

pub moves_the : (kind : Kind) → same_kind kind ENDED ≡ false → Moves (weight_of kind) (the kind)
unfolding any the
moves_the kind n [] =
    cases (Moved (weight_of kind) []) (same_kind ENDED kind) (λ e. absurd (kind_apart kind ENDED n (sym (kind_is ENDED kind e)))) (λ _. stopped)
moves_the kind n (k ∷ ts) =
    cases (Moved (weight_of kind) (k ∷ ts)) (same_kind k.kind kind)
    (λ e. let h : k.kind ≡ kind = kind_is k.kind kind e in
    rw (rw (← h) at n) (went (goes_one (weight_of kind) k ts (rw h (omega arith)))))
    (λ _. stopped)

pub moves_name : Moves 1 name
unfolding any name
moves_name [] = stopped
moves_name (k ∷ ts) =
    cases (Moved 1 (k ∷ ts)) (is_name k.kind)
    (λ e. let h = name_real k.kind e in rw h (went (goes_one 1 k ts (weighs k.kind h))))
    (λ _. stopped)

pub moves_own : (n : Token) → Moves 1 (own n)
unfolding any own
moves_own n [] = stopped
moves_own n (k ∷ ts) =
    cases (Moved 1 (k ∷ ts)) (is_name k.kind)
    (λ e. let h = name_real k.kind e in
    moved_either (same k.letters n.letters) (rw h (went (goes_one 1 k ts (weighs k.kind h)))) stopped)
    (λ _. stopped)

pub moved_on : {n m : ℕ} {ts rest : List Token} {s : Step} → Goes n ts rest → Moved m rest s → Moved (n + m) ts s
moved_on x (went y) = went (goes_on x y)
moved_on x stopped = stopped

pub moved_then : {n m : ℕ} {ts : List Token} {s : Step} {g : List Token → Step} → Moved n ts s → Moves m g → Moved (n + m) ts (s ⟫ g)
moved_then (went x) h = moved_on x (h _)
moved_then stopped h = stopped

pub moved_less : {n : ℕ} (m : ℕ) {ts : List Token} {s : Step} → m ≤ n → Moved n ts s → Moved m ts s
moved_less m h (went x) = went (goes_less m h x)
moved_less m h stopped = stopped

pub moves_optional : {n : ℕ} (b : List Token → Bool) {f : List Token → Step} → Moves n f → Moves 0 (optional b f)
unfolding optional
moves_optional b h ts = moved_either (b ts) (moved_less 0 (omega arith) (h ts)) (went (goes_none ts))

-- ## { rule }

-- a rule that goes on by a token at least where it begins
abbrev pub Advances : (List Token → Bool) → (List Token → Step) → Type 0
Advances b r = (ts : List Token) → b ts ≡ true → Moved 1 ts (r ts)

pub advances : {n : ℕ} (b : List Token → Bool) {r : List Token → Step} → Moves (suc n) r → Advances b r
advances b h ts e = moved_less 1 (omega arith) (h ts)

-- rules that agree on what is left
then_same : {ts : List Token} {s : Step} {f g : List Token → Step} → Moved 1 ts s →
    ((rest : List Token) → length rest < length ts → f rest ≡ g rest) → s ⟫ f ≡ s ⟫ g
then_same (went x) h = h _ (goes_shorter x)
then_same stopped h = refl

module _ (b : List Token → Bool) (r : List Token → Step) where
  many_by_moves : Advances b r → (n : ℕ) → Moves 0 (many_by n b r)
  unfolding many_by
  many_by_moves h zero ts = went (goes_none ts)
  many_by_moves h (suc n) ts =
      cases (Moved 0 ts) (b ts) (λ e. moved_less 0 (omega arith) (moved_then (h ts e) (many_by_moves h n))) (λ _. went (goes_none ts))

  pub moves_many : Advances b r → Moves 0 (many b r)
  unfolding many
  moves_many h ts = many_by_moves h (suc (length ts)) ts

  -- as often as there are tokens is often enough
  many_enough : Advances b r → (n m : ℕ) (ts : List Token) → length ts < n → length ts < m → many_by n b r ts ≡ many_by m b r ts
  unfolding many_by
  many_enough h zero m ts x y = absurd (omega arith)
  many_enough h (suc n) zero ts x y = absurd (omega arith)
  many_enough h (suc n) (suc m) ts x y = go (b ts) refl (λ rest l. many_enough h n m rest (omega arith) (omega arith))
    where
      go : (t : Bool) → b ts ≡ t → ((rest : List Token) → length rest < length ts → many_by n b r rest ≡ many_by m b r rest) →
          cond t (r ts ⟫ many_by n b r) (On ts) ≡ cond t (r ts ⟫ many_by m b r) (On ts)
      go true e f = then_same (h ts e) f
      go false e f = refl

  pub many_step : Advances b r → (ts : List Token) → many b r ts ≡ cond (b ts) (r ts ⟫ many b r) (On ts)
  unfolding many many_by
  many_step h ts = go (b ts) refl
    where
      go : (t : Bool) → b ts ≡ t → cond t (r ts ⟫ many_by (length ts) b r) (On ts)
          ≡ cond t (r ts ⟫ (λ us. many_by (suc (length us)) b r us)) (On ts)
      go true e = then_same (h ts e) (λ rest l. many_enough h (length ts) (suc (length rest)) rest (omega arith) (omega arith))
      go false e = refl

  -- a loop's turn, its end and its measure
  pub many_on : Advances b r → (s : Step) → holds b s ≡ true → (s ⟫ r) ⟫ many b r ≡ s ⟫ many b r
  many_on h (On ts) e = sym (many_step h ts ∙ rw e)
  many_on h (Stop x) e = refl

  pub many_off : Advances b r → (s : Step) → holds b s ≡ false → s ≡ s ⟫ many b r
  many_off h (On ts) e = sym (many_step h ts ∙ rw e)
  many_off h (Stop x) e = refl

  pub many_less : Advances b r → (s : Step) → holds b s ≡ true → size (s ⟫ r) < size s
  many_less h (On ts) e = go (r ts) (h ts e)
    where
      go : (s : Step) → Moved 1 ts s → size s < suc (length ts)
      go (On rest) (went x) = omega (arith, goes_shorter x)
      go (Stop f) stopped = omega arith
  many_less h (Stop x) e = absurd (true≢false (sym e))

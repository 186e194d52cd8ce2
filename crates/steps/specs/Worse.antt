-- Laws of the least fault: it is one of those that it is taken from, none of them lies before it, and it does not matter how they are grouped.
use Rattle.std.specs.Prelude.{◌<◌, ◌≤◌, ◌∷◌, ◌⊎◌, ◌≡◌, Option, None, Some}
use Rattle.common.specs.Words.{arith, Bool, true, false, true≢false, cond, List, [], inl, inr, ⊎_elim, refl, sym, ap, ◌∙◌}
use Rattle.common.specs.Words.{ltb, lt-ltb, le-ltb, ltb-true, ltb-false}
use Rattle.common.specs.Tests.{lt_or_le, true_or_false, clash}
use Rattle.steps.specs.declared.faults.Fault.{Fault}
use Rattle.steps.specs.Faults.{number_of, no_fault, before, worse, worst}

pub worse_by : (a b : Fault) → worse (Some a) (Some b) ≡ cond (before b a) (Some b) (Some a)
unfolding worse
worse_by a b = refl

-- that a fault lies before another, as a fact
abbrev pub Before : Fault → Fault → Type 0
Before b a = (b.place < a.place) ⊎ ((b.place ≡ a.place) × (number_of b.rule < number_of a.rule))

pub before_is : (b a : Fault) → before b a ≡ true → Before b a
unfolding before
before_is b a h = one (ltb b.place a.place) refl h
  where
    two : (t : Bool) → ltb a.place b.place ≡ t → a.place ≤ b.place →
        cond t false (ltb (number_of b.rule) (number_of a.rule)) ≡ true → Before b a
    two true e l h = absurd (true≢false (sym h))
    two false e l h = inr (omega (arith, ltb-false a.place b.place e), ltb-true (number_of b.rule) (number_of a.rule) h)

    one : (t : Bool) → ltb b.place a.place ≡ t →
        cond t true (cond (ltb a.place b.place) false (ltb (number_of b.rule) (number_of a.rule))) ≡ true → Before b a
    one true e h = inl (ltb-true b.place a.place e)
    one false e h = two (ltb a.place b.place) refl (ltb-false b.place a.place e) h

pub before_of : (b a : Fault) → Before b a → before b a ≡ true
unfolding before
before_of b a (inl l) = rw (lt-ltb b.place a.place l)
before_of b a (inr e) =
    rw (e.0, le-ltb a.place a.place (omega arith), lt-ltb (number_of b.rule) (number_of a.rule) e.1)

pub before_trans : (c b a : Fault) → Before c b → Before b a → Before c a
before_trans c b a (inl l) (inl k) = inl (omega arith)
before_trans c b a (inl l) (inr e) = inl (omega (arith, e.0))
before_trans c b a (inr e) (inl k) = inl (omega (arith, e.0))
before_trans c b a (inr e) (inr f) = inr (omega (arith, e.0, f.0), omega (arith, e.1, f.1))

-- what lies before a lies before b, or b lies before a
pub before_between : (c b a : Fault) → Before c a → Before c b ⊎ Before b a
before_between c b a h =
    ⊎_elim (λ (x : c.place < b.place). inl (inl x)) (λ (x : b.place ≤ c.place). two x h) (lt_or_le c.place b.place)
  where
    two : b.place ≤ c.place → Before c a → Before c b ⊎ Before b a
    two l (inl k) = inr (inl (omega arith))
    two l (inr e) =
        ⊎_elim (λ (x : b.place < a.place). inr (inl x))
        (λ (x : a.place ≤ b.place).
        ⊎_elim (λ (y : number_of c.rule < number_of b.rule). inl (inr (omega (arith, e.0), y)))
        (λ (y : number_of b.rule ≤ number_of c.rule). inr (inr (omega (arith, e.0), omega (arith, e.1))))
        (lt_or_le (number_of c.rule) (number_of b.rule)))
        (lt_or_le b.place a.place)

pub worse_none : (a : Option Fault) → worse a no_fault ≡ a
unfolding worse
worse_none a = refl

pub none_worse : (b : Option Fault) → worse no_fault b ≡ b
unfolding worse
none_worse None = refl
none_worse (Some b) = refl

pub worse_assoc : (a b c : Option Fault) → worse (worse a b) c ≡ worse a (worse b c)
unfolding worse
worse_assoc a b None = refl
worse_assoc None None (Some c) = refl
worse_assoc None (Some b) (Some c) = sym (none_worse (cond (before c b) (Some c) (Some b)))
worse_assoc (Some a) None (Some c) = refl
worse_assoc (Some a) (Some b) (Some c) = go (before b a) (before c b) refl refl
  where
    go : (x y : Bool) → before b a ≡ x → before c b ≡ y →
        worse (cond x (Some b) (Some a)) (Some c) ≡ worse (Some a) (cond y (Some c) (Some b))
    go true true e f = rw (f, before_of c a (before_trans c b a (before_is c b f) (before_is b a e)))
    go true false e f = rw (e, f)
    go false true e f = refl
    go false false e f =
        rw e
        (⊎_elim (λ (t : before c a ≡ true).
        absurd (⊎_elim (λ (p : Before c b). clash (before_of c b p) f)
        (λ (p : Before b a). clash (before_of b a p) e) (before_between c b a (before_is c a t))))
        (λ (t : before c a ≡ false). rw t) (true_or_false (before c a)))

worst_move : (a b : Option Fault) (ns : List Fault) → worse a (worst b ns) ≡ worst (worse a b) ns
unfolding worst
worst_move a b [] = refl
worst_move a b (n ∷ ns) = worst_move a (worse b (Some n)) ns ∙ ap (λ (f : Option Fault). worst f ns) (sym (worse_assoc a b (Some n)))

-- the least of a list may be taken first
pub worst_first : (a : Option Fault) (ns : List Fault) → worse a (worst no_fault ns) ≡ worst a ns
worst_first a ns = worst_move a no_fault ns ∙ ap (λ (f : Option Fault). worst f ns) (worse_none a)

-- Promise 1: the first place decides. A refusal (number, place) means that no fault stands at an earlier place and none with a lower number
-- at the same one; a table means that there is no fault.
use Rattle.std.specs.Prelude.{◌<◌, ◌∷◌, ◌⊎◌, ◌≡◌, Option, None, Some}
use Rattle.common.specs.Words.{ℕ, zero, suc, arith, Bool, true, false, cond, List, [], inl, inr, ⊎_elim, refl, sym, subst, ◌∙◌, length}
use Rattle.common.specs.Words.{get_or}
use Rattle.common.specs.Tests.{clash}
use Rattle.steps.specs.declared.faults.Fault.{Fault}
use Rattle.steps.specs.Faults.{no_fault, before, worse, worst}
use Rattle.steps.specs.Worse.{Before, worse_by, before_is, before_of, before_trans, before_between}
use Rattle.findings.specs.declared.Table.{Table}
use Rattle.findings.specs.Findings.{Answer, sound, refused, number_of}
use Rattle.reader.specs.Reader.{faults_of, answer_by, answer_plain, read_of}

-- ## The least fault of a list

not_itself : (f : Fault) → Before f f → ⊥
not_itself f (inl l) = omega arith
not_itself f (inr e) = omega (arith, e.1)

-- the worse of a and b, and the least of a fault and a list
better : Fault → Fault → Fault
better a b = cond (before b a) b a

least : Fault → List Fault → Fault
least f [] = f
least f (g ∷ gs) = least (better f g) gs

worse_better : (a b : Fault) → worse (Some a) (Some b) ≡ Some (better a b)
unfolding better
worse_better a b = worse_by a b ∙ go (before b a)
  where
    go : (x : Bool) → ◌≡◌ {A = Option Fault} (cond x (Some b) (Some a)) (Some (cond x b a))
    go true = refl
    go false = refl

worst_least : (f : Fault) (fs : List Fault) → worst (Some f) fs ≡ Some (least f fs)
unfolding worst least
worst_least f [] = refl
worst_least f (g ∷ gs) = rw (worse_better f g) (worst_least (better f g) gs)

-- of a and b, neither lies before the worse of them
not_first : (a b : Fault) → Before a (better a b) → ⊥
unfolding better
not_first a b h = go (before b a) refl h
  where
    go : (x : Bool) → before b a ≡ x → Before a (cond x b a) → ⊥
    go true e k = not_itself a (before_trans a b a k (before_is b a e))
    go false e k = not_itself a k

not_second : (a b : Fault) → Before b (better a b) → ⊥
unfolding better
not_second a b h = go (before b a) refl h
  where
    go : (x : Bool) → before b a ≡ x → Before b (cond x b a) → ⊥
    go true e k = not_itself b k
    go false e k = clash (before_of b a k) e

not_begin : (f : Fault) (fs : List Fault) → Before f (least f fs) → ⊥
unfolding least
not_begin f [] h = not_itself f h
not_begin f (g ∷ gs) h =
    ⊎_elim (λ (x : Before f (better f g)). not_first f g x) (λ (x : Before (better f g) (least (better f g) gs)). not_begin (better f g) gs x)
    (before_between f (better f g) (least (better f g) gs) h)

none_before : (d f : Fault) (fs : List Fault) (i : ℕ) → i < length fs → Before (get_or fs i d) (least f fs) → ⊥
unfolding least
none_before d f [] i l h = omega arith
none_before d f (g ∷ gs) zero l h =
    ⊎_elim (λ (x : Before g (better f g)). not_second f g x) (λ (x : Before (better f g) (least (better f g) gs)). not_begin (better f g) gs x)
    (before_between g (better f g) (least (better f g) gs) h)
none_before d f (g ∷ gs) (suc i) l h = none_before d (better f g) gs i (omega arith) h

-- it is one of them; d stands for any that is not there
abbrev OneOf : Fault → Fault → List Fault → Type 0
OneOf d x fs = (i : ℕ) × ((i < length fs) × (get_or fs i d ≡ x))

one_of : (d f : Fault) (fs : List Fault) → (least f fs ≡ f) ⊎ OneOf d (least f fs) fs
unfolding least better
one_of d f [] = inl refl
one_of d f (g ∷ gs) = ⊎_elim here (λ (x : OneOf d (least (better f g) gs) gs).
    inr (suc x.0, (omega (arith, x.1.0), x.1.1))) (one_of d (better f g) gs)
  where
    here : least (better f g) gs ≡ better f g → (least (better f g) gs ≡ f) ⊎ OneOf d (least (better f g) gs) (g ∷ gs)
    here e = go (before g f) refl
      where
        go : (x : Bool) → better f g ≡ cond x g f → (least (better f g) gs ≡ f) ⊎ OneOf d (least (better f g) gs) (g ∷ gs)
        go true k = inr (0, (omega arith, sym (e ∙ k)))
        go false k = inl (e ∙ k)

-- ## The answer

abbrev pub document_number : Fault → ℕ
document_number f = number_of f.rule

said : Option Fault → Answer
said None = sound
said (Some f) = refused f

read_said : (text : List ℕ) → (read_of text).answer ≡ said (worst no_fault (faults_of text))
unfolding read_of answer_plain faults_of answer_by said
read_said text = by (worst no_fault (faults_of text)) _
  where
    by : (f : Option Fault) (t : Table) → (answer_by f t).answer ≡ said f
    by None t = refl
    by (Some f) t = refl

none_said : (fs : List Fault) → said (worst no_fault fs) ≡ sound → fs ≡ []
unfolding said worst worse
none_said [] h = refl
none_said (f ∷ fs) h = absurd (let e = rw (worst_least f fs) at h in cc)

-- of a refusal x, which stands for any that is not there
module _ (x : Fault) where
  least_said : (f : Fault) (fs : List Fault) → said (worst no_fault (f ∷ fs)) ≡ refused x → least f fs ≡ x
  unfolding said worst worse
  least_said f fs h = let e = rw (worst_least f fs) at h in cc

  one_said : (fs : List Fault) → said (worst no_fault fs) ≡ refused x → OneOf x x fs
  unfolding said worst
  one_said [] h = absurd (cc)
  one_said (f ∷ fs) h =
      ⊎_elim (λ (e : least f fs ≡ f). (0, (omega arith, sym e ∙ least_said f fs h)))
      (λ (o : OneOf x (least f fs) fs). (suc o.0, (omega (arith, o.1.0), o.1.1 ∙ least_said f fs h))) (one_of x f fs)

  first_said : (fs : List Fault) → said (worst no_fault fs) ≡ refused x → (i : ℕ) → i < length fs → Before (get_or fs i x) x → ⊥
  first_said [] h i l b = omega arith
  first_said (f ∷ fs) h zero l b = not_begin f fs (subst (λ (y : Fault). Before f y) (sym (least_said f fs h)) b)
  first_said (f ∷ fs) h (suc i) l b =
      none_before x f fs i (omega arith) (subst (λ (y : Fault). Before (get_or fs i x) y) (sym (least_said f fs h)) b)

-- ## The promise

module _ (text : List ℕ) where
  -- a table: no fault
  pub sound_no_fault : (read_of text).answer ≡ sound → faults_of text ≡ []
  sound_no_fault h = none_said (faults_of text) (sym (read_said text) ∙ h)

  module _ (x : Fault) (h : (read_of text).answer ≡ refused x) where
    abbrev pub fault_at : ℕ → Fault
    fault_at i = get_or (faults_of text) i x

    -- a refusal is a fault of the text
    pub refused_fault : (i : ℕ) × ((i < length (faults_of text)) × (fault_at i ≡ x))
    refused_fault = one_said x (faults_of text) (sym (read_said text) ∙ h)

    -- none stands at an earlier place, and none with a lower number at the same one
    pub refused_first : (i : ℕ) → i < length (faults_of text) →
        (((fault_at i).place < x.place) ⊎ (((fault_at i).place ≡ x.place) × (document_number (fault_at i) < number_of x.rule))) → ⊥
    refused_first i l b = first_said x (faults_of text) (sym (read_said text) ∙ h) i l b

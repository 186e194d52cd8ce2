-- A chain of refusals read as facts. Either every line passed, and the good answer is given, or the first line that applies stopped the
-- call, and its refusal is given. A call's answer, state and memory are each chosen by the same lines, so the verdict on the lines
-- decides all three.
use Rattle.std.specs.Prelude.{◌∷◌, ◌++◌, ◌⊎◌, ◌≡◌, Ok, Err}
use Rattle.common.specs.Words.{ℕ, arith, Bool, true, false, cond, List, [], inl, inr, refl, ap, ◌∙◌}
use Rattle.plan.specs.Refusals.{Line, judged}
pub use Rattle.plan.specs.Refusals.{Stopped, Verdict, clear, verdict}
use Rattle.plan.specs.declared.refusal.Refusal.{Refusal}

-- no line applies
abbrev pub Passed : List Line → Type 0
Passed [] = Unit {0}
Passed (line ∷ lines) = (line.applies ≡ false) × Passed lines

pub passed_or_stopped : (lines : List Line) → Passed lines ⊎ ((r : Refusal) × Stopped lines r)
passed_or_stopped [] = inl tt
passed_or_stopped (line ∷ lines) = go line.applies refl (passed_or_stopped lines)
  where
    go : (b : Bool) → line.applies ≡ b → Passed lines ⊎ ((r : Refusal) × Stopped lines r) →
        Passed (line ∷ lines) ⊎ ((r : Refusal) × Stopped (line ∷ lines) r)
    go true e rest = inr (line.given, inl (e, refl))
    go false e (inl rest) = inl (e, rest)
    go false e (inr rest) = inr (rest.0, inr (e, rest.1))

-- ## What they give

pub passed_good : {A : Type 0} (lines : List Line) (refused : Refusal → A) (good : A) → Passed lines → judged lines refused good ≡ good
passed_good [] refused good h = refl
passed_good (line ∷ lines) refused good h = rw h.0 (passed_good lines refused good h.1)

pub stopped_refused : {A : Type 0} (lines : List Line) (r : Refusal) (refused : Refusal → A) (good : A) → Stopped lines r →
    judged lines refused good ≡ refused r
stopped_refused [] r refused good h = absurd h
stopped_refused (line ∷ lines) r refused good (inl h) = rw h.0 (ap refused h.1)
stopped_refused (line ∷ lines) r refused good (inr h) = rw h.0 (stopped_refused lines r refused good h.1)

-- an answer that is no refusal is the good one, and no line applied
module _ {A : Type 0} (refused : Refusal → A) (good answer : A) (other : (r : Refusal) → refused r ≡ answer → ⊥) where
  pub judged_good : (lines : List Line) → judged lines refused good ≡ answer → Passed lines × (good ≡ answer)
  judged_good lines e = go (passed_or_stopped lines)
    where
      go : Passed lines ⊎ ((r : Refusal) × Stopped lines r) → Passed lines × (good ≡ answer)
      go (inl h) = (h, cc (passed_good lines refused good h))
      go (inr h) = absurd (other h.0 (cc (stopped_refused lines h.0 refused good h.1)))

-- what is made of the answer is chosen by the same lines
pub judged_map : {A B : Type 0} (f : A → B) (lines : List Line) (refused : Refusal → A) (good : A) →
    f (judged lines refused good) ≡ judged lines (λ r. f (refused r)) (f good)
judged_map f [] refused good = refl
judged_map {A} {B} f (line ∷ lines) refused good = go line.applies (judged_map f lines refused good)
  where
    go : (b : Bool) → f (judged lines refused good) ≡ judged lines (λ r. f (refused r)) (f good) →
        f (cond b (refused line.given) (judged lines refused good))
        ≡ cond b (f (refused line.given)) (judged lines (λ r. f (refused r)) (f good))
    go true e = refl
    go false e = e

-- ## The verdict is all that a choice by the lines looks at

abbrev pub outcome : {A : Type 0} → Verdict → (Refusal → A) → A → A
outcome (Ok x) refused good = good
outcome (Err r) refused good = refused r

pub by_verdict : {A : Type 0} (lines : List Line) (refused : Refusal → A) (good : A) →
    judged lines refused good ≡ outcome (verdict lines) refused good
by_verdict lines refused good = go (passed_or_stopped lines)
  where
    go : Passed lines ⊎ ((r : Refusal) × Stopped lines r) → judged lines refused good ≡ outcome (verdict lines) refused good
    go (inl h) = rw (passed_good lines refused good h, passed_good lines Err clear h)
    go (inr h) = rw (stopped_refused lines h.0 refused good h.1, stopped_refused lines h.0 Err clear h.1)

pub by_refusal : {A : Type 0} (lines : List Line) (refused : Refusal → A) (good : A) (r : Refusal) →
    verdict lines ≡ Err r → judged lines refused good ≡ refused r
by_refusal lines refused good r e = by_verdict lines refused good ∙ ap (λ (v : Verdict). outcome v refused good) e

pub by_clear : {A : Type 0} (lines : List Line) (refused : Refusal → A) (good : A) →
    verdict lines ≡ clear → judged lines refused good ≡ good
by_clear lines refused good e = by_verdict lines refused good ∙ ap (λ (v : Verdict). outcome v refused good) e

pub verdict_stopped : (lines : List Line) (r : Refusal) → verdict lines ≡ Err r → Stopped lines r
verdict_stopped [] r e = absurd (let z : ◌≡◌ {A = ℕ} 0 1 = cc in omega arith)
verdict_stopped (line ∷ lines) r e = go line.applies refl e (verdict_stopped lines r)
  where
    go : (b : Bool) → line.applies ≡ b → cond b (Err line.given) (verdict lines) ≡ Err r →
        (verdict lines ≡ Err r → Stopped lines r) → Stopped (line ∷ lines) r
    go true a e rest = let same : line.given ≡ r = cc in inl (a, same)
    go false a e rest = inr (a, rest e)

pub stopped_verdict : (lines : List Line) (r : Refusal) → Stopped lines r → verdict lines ≡ Err r
stopped_verdict lines r h = stopped_refused lines r Err clear h

pub clear_passed : (lines : List Line) → verdict lines ≡ clear → Passed lines
clear_passed lines e =
    (judged_good {A = Verdict} Err clear clear (λ r h. let z : ◌≡◌ {A = ℕ} 0 1 = cc in omega arith) lines e).0

pub passed_clear : (lines : List Line) → Passed lines → verdict lines ≡ clear
passed_clear lines h = passed_good lines Err clear h

-- of two lists in a row the second counts where the first is passed
pub stops : (a b : List Line) (r : Refusal) → verdict a ≡ Err r → verdict (a ++ b) ≡ Err r
stops a b r e = stopped_verdict (a ++ b) r (on a (verdict_stopped a r e))
  where
    on : (a : List Line) → Stopped a r → Stopped (a ++ b) r
    on [] h = absurd h
    on (line ∷ a) (inl h) = inl h
    on (line ∷ a) (inr h) = inr (h.0, on a h.1)

pub goes_on : (a b : List Line) → verdict a ≡ clear → verdict (a ++ b) ≡ verdict b
goes_on a b e = on a (clear_passed a e)
  where
    on : (a : List Line) → Passed a → verdict (a ++ b) ≡ verdict b
    on [] h = refl
    on (line ∷ a) h = rw h.0 (on a h.1)

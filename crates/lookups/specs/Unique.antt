-- The contracts determine the answers: two results that both meet a lookup's contract are equal. Lookups have no state and no memory.
use Rattle.std.specs.Prelude.{◌≡◌, Result}
use Rattle.common.specs.Words.{ℕ, sym, ◌∙◌}
use Rattle.lookups.specs.Types.{Job, Number, Plan, Refusal, Origin, Window}
use Rattle.lookups.specs.Lookups.{numbered_of, origins_of, window_of}

abbrev pub NumberGives : Plan → ℕ → ℕ → Job → Result Number Refusal → Type 0
NumberGives p q i k r = r ≡ numbered_of p q i k

pub number_of_unique : (p : Plan) (q i : ℕ) (k : Job) (r s : Result Number Refusal) → NumberGives p q i k r → NumberGives p q i k s → r ≡ s
number_of_unique p q i k r s a b = a ∙ sym b

abbrev pub WayBackGives : Plan → ℕ → Number → Result Origin Refusal → Type 0
WayBackGives p q n r = r ≡ origins_of p q n

pub way_back_unique : (p : Plan) (q : ℕ) (n : Number) (r s : Result Origin Refusal) → WayBackGives p q n r → WayBackGives p q n s → r ≡ s
way_back_unique p q n r s a b = a ∙ sym b

abbrev pub WindowGives : Plan → ℕ → Job → Result Window Refusal → Type 0
WindowGives p q m r = r ≡ window_of p q m

pub window_of_unique : (p : Plan) (q : ℕ) (m : Job) (r s : Result Window Refusal) → WindowGives p q m r → WindowGives p q m s → r ≡ s
window_of_unique p q m r s a b = a ∙ sym b

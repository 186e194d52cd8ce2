-- Histories and lists of calls are the same thing: each list is a history, and each history comes from a list.
use Rattle.std.specs.Prelude.{◌∷◌, ◌++◌, ◌≡◌}
use Rattle.common.specs.Words.{List, [], refl, ap, ◌∙◌}
use Rattle.history.specs.History.{Call, History, start, ◌then◌, ◌⊑◌, same, more, go_on, history}

pub go_on_append : (H : History) (cs ds : List Call) → go_on H (cs ++ ds) ≡ go_on (go_on H cs) ds
go_on_append H [] ds = refl
go_on_append H (c ∷ cs) ds = go_on_append (H then c) cs ds

pub goes_on : (H : History) (cs : List Call) → H ⊑ go_on H cs
goes_on H cs = far same cs
  where
    far : {H K : History} → H ⊑ K → (cs : List Call) → H ⊑ go_on K cs
    far r [] = r
    far r (c ∷ cs) = far (more r) cs

pub listed : (H : History) → (cs : List Call) × (history cs ≡ H)
listed start = ([], refl)
listed (H then c) = let l = listed H in (l.0 ++ (c ∷ []), go_on_append start l.0 (c ∷ []) ∙ ap (λ (K : History). K then c) l.1)

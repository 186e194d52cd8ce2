-- Other declarations declare nothing, so nothing has to be paid for them.
use Rattle.std.specs.Prelude.{◌∷◌, ◌≡◌}
use Rattle.common.specs.Words.{ℕ, Bool, List, [], refl}
use Rattle.tokens.specs.Tokens.{Token}
use Rattle.tokens.specs.Laws.{cases}
use Rattle.steps.specs.declared.faults.Fault.{Fault}
use Rattle.steps.specs.Steps.{next}
use Rattle.steps.specs.Laws.{moves_any}
use Rattle.rows.specs.Said.{Said, quiet}
use Rattle.rows.specs.Pays.{Pays, paid_moved, paid_silent, pays_quiet, paid_onward}
use Rattle.others.specs.Others.{outside_kind, waiting_after, last_kind, passing, path_end, other}
use Rattle.others.specs.Laws.{passing_moves, path_end_moves}

pub passing_silent : (o : Bool) (w : List Fault) (ps : List ℕ) (ts : List Token) →
    ((passing o w ps ts).rows ≡ []) × ((passing o w ps ts).props ≡ ps)
unfolding passing
passing_silent o w ps [] = (refl, refl)
passing_silent o w ps (k ∷ ts) =
    cases (λ (s : Said). (s.rows ≡ []) × (s.props ≡ ps)) (last_kind k.kind) (λ _. (refl, refl)) (λ _. passing_silent o
    (waiting_after o w k.kind (next ts) k.start) ps ts)

pub passing_pays : (o : Bool) (w : List Fault) → Pays 0 0 (passing o w)
passing_pays o w ps ts = paid_silent (passing o w ps ts) (passing_silent o w ps ts).0 (passing_moves o w ps ts)

pub other_pays : Pays 0 3 other
unfolding other
other_pays ps ts =
    paid_onward _ (quiet path_end) (paid_onward _ (passing (outside_kind (next ts)) [])
    (paid_moved (moves_any ts)) (passing_pays (outside_kind (next ts)) []))
    (pays_quiet path_end path_end_moves)

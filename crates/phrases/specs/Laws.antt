-- Laws of phrases: how far each rule goes, and rules in a row and choices as the code makes them.
use Rattle.words.specs.Same.{kind_differs}
use Rattle.words.specs.Same.{same_kind}
use Rattle.words.specs.declared.kinds.Kind.{Kind}
use Rattle.std.specs.Prelude.{◌≡◌}
use Rattle.common.specs.Words.{arith, true, false, true≢false, List, refl, sym, ◌∙◌}
use Rattle.words.specs.Kinds.{ENDED, COLON, SCOPE, DOT, COMMA, SEMICOLON, OPEN_BRACE, ANNEXED, ARROW, DELAYING, ANNEX, DATA, EVENT, IN, NONE, OUT}
use Rattle.words.specs.Kinds.{PORT}
use Rattle.tokens.specs.Tokens.{Token}
use Rattle.steps.specs.Steps.{Step, On, Stop, ◌⟫◌, next, is, named, any, the, name, optional, many}
use Rattle.steps.specs.Lifted.{first_kind, second_kind, holds}
use Rattle.steps.specs.Laws.{Moved, Moves, Advances, advances, moves_any, moved_any, moved_then, moved_less, moved_either, moves_the, moves_name}
use Rattle.steps.specs.Laws.{moves_optional, moves_many, optional_off, is_off, kind_on}
use Rattle.values.specs.Values.{block}
use Rattle.values.specs.Laws.{block_moves}
use Rattle.phrases.specs.Phrases.{rest_kind, rest, begins_scope, scope, scopes, point, dotted, classifier, join_kind, joint, path, another, paths}
use Rattle.phrases.specs.Phrases.{annex, direction, port_kind, link_kind, place, arrow, nothing, section_kind, skip_kind, skipped, label, maybe_label}
use Rattle.phrases.specs.Phrases.{maybe_classifier, word_and_rest}

-- ## How far each rule goes

-- a loop over any tokens stops at the text's end
rest_not_ended : (k : Kind) → rest_kind k ≡ true → same_kind k ENDED ≡ false
unfolding rest_kind
rest_not_ended k h = kind_differs k ENDED (λ e. true≢false (sym h ∙ rw e))

pub rest_advances : Advances (λ ts. rest_kind (next ts)) any
rest_advances ts h = moved_any ts (rest_not_ended (next ts) h)

pub rest_moves : Moves 1 rest
unfolding rest
rest_moves ts =
    moved_then (moved_then (moves_many _ any rest_advances ts) (moves_optional (is OPEN_BRACE) block_moves)) (moves_the SEMICOLON refl)

pub scope_advances : Advances begins_scope scope
scope_advances = advances begins_scope (λ ts. moved_then (moves_name ts) (moves_the SCOPE refl))

pub scopes_moves : Moves 0 scopes
unfolding scopes
scopes_moves = moves_many begins_scope scope scope_advances

pub dotted_moves : Moves 0 dotted
unfolding dotted
dotted_moves = moves_optional (is DOT) (λ ts. moved_then (moves_the DOT refl ts) moves_name)

pub classifier_moves : Moves 1 classifier
unfolding classifier
classifier_moves ts = moved_then (moved_then (scopes_moves ts) moves_name) dotted_moves

pub joint_advances : Advances (λ ts. join_kind (next ts)) joint
joint_advances = advances _ (λ ts. moved_then (moves_any ts) moves_name)

pub path_moves : Moves 1 path
unfolding path
path_moves ts = moved_then (moves_name ts) (moves_many _ joint joint_advances)

pub another_advances : Advances (is COMMA) another
another_advances = advances (is COMMA) (λ ts. moved_then (moves_the COMMA refl ts) path_moves)

pub paths_moves : Moves 2 paths
unfolding paths
paths_moves ts = moved_then (moved_then (path_moves ts) (moves_many (is COMMA) another another_advances)) (moves_the SEMICOLON refl)

pub annex_moves : Moves 4 annex
unfolding annex
annex_moves ts =
    moved_then (moved_then (moved_then (moves_the ANNEX refl ts) moves_name) (moves_the ANNEXED refl))
    (moves_the SEMICOLON refl)

pub direction_moves : Moves 1 direction
unfolding direction
direction_moves ts =
    moved_either (is IN ts) (moved_then (moves_the IN refl ts) (moves_optional (is OUT) (moves_the OUT refl)))
    (moves_the OUT refl ts)

pub port_kind_moves : Moves 5 port_kind
unfolding port_kind
port_kind_moves ts =
    moved_either (is DATA ts) (moved_then (moves_the DATA refl ts) (moves_the PORT refl))
    (moved_then (moved_then (moves_the EVENT refl ts) (moves_optional (is DATA) (moves_the DATA refl)))
    (moves_the PORT refl))

pub link_kind_moves : Moves 4 link_kind
unfolding link_kind
link_kind_moves ts = moved_either (is PORT ts) (moves_the PORT refl ts) (moved_less 4 (omega arith) (port_kind_moves ts))

pub place_moves : Moves 1 place
unfolding place
place_moves ts = moved_then (moves_name ts) dotted_moves

pub arrow_moves : Moves 2 arrow
unfolding arrow
arrow_moves ts = moved_either (is DELAYING ts) (moves_the DELAYING refl ts) (moves_the ARROW refl ts)

pub nothing_moves : Moves 2 nothing
unfolding nothing
nothing_moves ts = moved_then (moves_the NONE refl ts) (moves_the SEMICOLON refl)

skip_not_ended : (k : Kind) → skip_kind k ≡ true → same_kind k ENDED ≡ false
unfolding skip_kind section_kind
skip_not_ended k h = kind_differs k ENDED (λ e. true≢false (sym h ∙ rw e))

pub skip_advances : Advances (λ ts. skip_kind (next ts)) any
skip_advances ts h = moved_any ts (skip_not_ended (next ts) h)

-- its first token is any: at the text's end it stays
pub skipped_moves : (ts : List Token) → same_kind (next ts) ENDED ≡ false → Moved 1 ts (skipped ts)
unfolding skipped
skipped_moves ts n = moved_then (moved_any ts n) (moves_many _ any skip_advances)

-- ## Rules in a row

pub rest_then : (s : Step) → (s ⟫ many (λ ts. rest_kind (next ts)) any) ⟫ optional (is OPEN_BRACE) block ⟫ the SEMICOLON ≡ s ⟫ rest
unfolding rest
rest_then (On ts) = refl
rest_then (Stop f) = refl

pub classifier_then : (s : Step) → s ⟫ scopes ⟫ name ⟫ dotted ≡ s ⟫ classifier
unfolding classifier
classifier_then (On ts) = refl
classifier_then (Stop f) = refl

pub path_then : (s : Step) → (s ⟫ name) ⟫ many (λ ts. join_kind (next ts)) joint ≡ s ⟫ path
unfolding path
path_then (On ts) = refl
path_then (Stop f) = refl

pub paths_then : (s : Step) → ((s ⟫ path) ⟫ many (is COMMA) another) ⟫ the SEMICOLON ≡ s ⟫ paths
unfolding paths
paths_then (On ts) = refl
paths_then (Stop f) = refl

pub annex_then : (s : Step) → s ⟫ the ANNEX ⟫ name ⟫ the ANNEXED ⟫ the SEMICOLON ≡ s ⟫ annex
unfolding annex
annex_then (On ts) = refl
annex_then (Stop f) = refl

pub place_then : (s : Step) → s ⟫ name ⟫ dotted ≡ s ⟫ place
unfolding place
place_then (On ts) = refl
place_then (Stop f) = refl

pub nothing_then : (s : Step) → s ⟫ the NONE ⟫ the SEMICOLON ≡ s ⟫ nothing
unfolding nothing
nothing_then (On ts) = refl
nothing_then (Stop f) = refl

pub skipped_then : (s : Step) → (s ⟫ any) ⟫ many (λ ts. skip_kind (next ts)) any ≡ s ⟫ skipped
unfolding skipped
skipped_then (On ts) = refl
skipped_then (Stop f) = refl

-- ## Choices as the code makes them

-- a part that a token of this kind begins; where a rule has stopped, both sides stop, whatever the kind
module _ (kind : Kind) (f : List Token → Step) where
  pub maybe_on : (s : Step) → same_kind (first_kind s) kind ≡ true → s ⟫ f ≡ s ⟫ optional (is kind) f
  unfolding optional
  maybe_on (On ts) e = rw e
  maybe_on (Stop x) e = refl

  pub maybe_off : (s : Step) → same_kind (first_kind s) kind ≡ false → s ≡ s ⟫ optional (is kind) f
  maybe_off s n = optional_off (is kind) f s (is_off kind s n)

pub dotted_on : (s : Step) → same_kind (first_kind s) DOT ≡ true → s ⟫ the DOT ⟫ name ≡ s ⟫ dotted
unfolding dotted optional
dotted_on (On ts) e = rw e
dotted_on (Stop f) e = refl

pub dotted_off : (s : Step) → same_kind (first_kind s) DOT ≡ false → s ≡ s ⟫ dotted
unfolding dotted
dotted_off = maybe_off DOT point

pub direction_in : (s : Step) → same_kind (first_kind s) IN ≡ true → s ⟫ the IN ⟫ optional (is OUT) (the OUT) ≡ s ⟫ direction
unfolding direction
direction_in (On ts) e = rw e
direction_in (Stop f) e = refl

pub direction_out : (s : Step) → same_kind (first_kind s) IN ≡ false → s ⟫ the OUT ≡ s ⟫ direction
unfolding direction
direction_out (On ts) n = rw n
direction_out (Stop f) n = refl

pub port_data : (s : Step) → same_kind (first_kind s) DATA ≡ true → s ⟫ the DATA ⟫ the PORT ≡ s ⟫ port_kind
unfolding port_kind
port_data (On ts) e = rw e
port_data (Stop f) e = refl

pub port_event : (s : Step) → same_kind (first_kind s) DATA ≡ false → s ⟫ the EVENT ⟫ optional (is DATA) (the DATA) ⟫ the PORT ≡
    s ⟫ port_kind
unfolding port_kind
port_event (On ts) n = rw n
port_event (Stop f) n = refl

pub link_port : (s : Step) → same_kind (first_kind s) PORT ≡ true → s ⟫ the PORT ≡ s ⟫ link_kind
unfolding link_kind
link_port (On ts) e = rw e
link_port (Stop f) e = refl

pub link_other : (s : Step) → same_kind (first_kind s) PORT ≡ false → s ⟫ port_kind ≡ s ⟫ link_kind
unfolding link_kind
link_other (On ts) n = rw n
link_other (Stop f) n = refl

pub arrow_delaying : (s : Step) → same_kind (first_kind s) DELAYING ≡ true → s ⟫ the DELAYING ≡ s ⟫ arrow
unfolding arrow
arrow_delaying (On ts) e = rw e
arrow_delaying (Stop f) e = refl

pub arrow_plain : (s : Step) → same_kind (first_kind s) DELAYING ≡ false → s ⟫ the ARROW ≡ s ⟫ arrow
unfolding arrow
arrow_plain (On ts) n = rw n
arrow_plain (Stop f) n = refl

-- a loop's tests, as the code makes them
module _ (s : Step) where
  pub rest_on : rest_kind (first_kind s) ≡ true → holds (λ ts. rest_kind (next ts)) s ≡ true
  unfolding rest_kind
  rest_on = kind_on rest_kind s refl

  pub join_on : join_kind (first_kind s) ≡ true → holds (λ ts. join_kind (next ts)) s ≡ true
  unfolding join_kind
  join_on = kind_on join_kind s refl

  pub skip_on : skip_kind (first_kind s) ≡ true → holds (λ ts. skip_kind (next ts)) s ≡ true
  unfolding skip_kind section_kind
  skip_on = kind_on skip_kind s refl

pub scope_on : (s : Step) → same_kind (second_kind s) SCOPE ≡ true → holds begins_scope s ≡ true
scope_on (On ts) e = e
scope_on (Stop f) e = absurd (true≢false (sym e))

pub scope_off : (s : Step) → same_kind (second_kind s) SCOPE ≡ false → holds begins_scope s ≡ false
scope_off (On ts) n = n
scope_off (Stop f) n = refl

-- ## Labels, and a word and its rest

pub label_then : (s : Step) → s ⟫ name ⟫ the COLON ≡ s ⟫ label
unfolding label
label_then (On ts) = refl
label_then (Stop f) = refl

pub label_moves : Moves 2 label
unfolding label
label_moves ts = moved_then (moves_name ts) (moves_the COLON refl)

pub word_then : (s : Step) → s ⟫ any ⟫ rest ≡ s ⟫ word_and_rest
unfolding word_and_rest
word_then (On ts) = refl
word_then (Stop f) = refl

pub word_moves : Moves 1 word_and_rest
unfolding word_and_rest
word_moves ts = moved_then (moves_any ts) rest_moves

pub maybe_label_moves : Moves 0 maybe_label
unfolding maybe_label
maybe_label_moves = moves_optional named label_moves

pub maybe_classifier_moves : Moves 0 maybe_classifier
unfolding maybe_classifier
maybe_classifier_moves = moves_optional named classifier_moves

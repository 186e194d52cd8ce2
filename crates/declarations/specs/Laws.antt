-- Laws of declarations: what the code does one after another is what the rules say, and how far they go.
use Rattle.words.specs.Same.{same_kind}
use Rattle.words.specs.declared.kinds.Kind.{Kind}
use Rattle.std.specs.Prelude.{◌≡◌}
use Rattle.common.specs.Words.{ℕ, true, false, List, refl, ap, ◌∙◌}
use Rattle.words.specs.Kinds.{ENDED, THREAD, PROCESS, IMPLEMENTATION, EXTENDS, END, DOT, SEMICOLON}
use Rattle.tokens.specs.Tokens.{Token}
use Rattle.steps.specs.Steps.{Step, On, Stop, ◌⟫◌, head, is, the, name, own}
use Rattle.steps.specs.Lifted.{first, first_kind}
use Rattle.steps.specs.Laws.{going, going_before, Moves, moved_then, moved_less, moves_the, moves_name, moves_own, moves_optional, weighs}
use Rattle.steps.specs.Laws.{optional_on, optional_off, is_on, is_off}
use Rattle.phrases.specs.Phrases.{classifier}
use Rattle.phrases.specs.Laws.{classifier_moves}
use Rattle.rows.specs.Rows.{a_process, a_type, an_implementation, process_row, type_row, implementation_row}
use Rattle.rows.specs.Said.{Said, Rule, quiet, onward, ◌⨟◌, put}
use Rattle.rows.specs.States.{State, does}
use Rattle.rows.specs.Laws.{MovesOn, by_went, moved_onward, moves_quiet, moves_put, does_then, does_then_at, does_then_going}
use Rattle.declarations.specs.Sections.{sections}
use Rattle.declarations.specs.SectionLaws.{sections_moves}
use Rattle.declarations.specs.Declarations.{extension, maybe_extends, type_name, parent_in, type_head, type_end, thread_type, first_name, second_name}
use Rattle.declarations.specs.Declarations.{implementation_head, implementation_end, implementation, thread_implementation, process_implementation}

-- ## In a row

pub extends_on : (s : Step) → same_kind (first_kind s) EXTENDS ≡ true → s ⟫ the EXTENDS ⟫ classifier ≡ s ⟫ maybe_extends
unfolding maybe_extends
extends_on s e = then_extension s ∙ optional_on (is EXTENDS) extension s (is_on EXTENDS s refl e)
  where
    then_extension : (s : Step) → s ⟫ the EXTENDS ⟫ classifier ≡ s ⟫ extension
    then_extension (On ts) = refl
    then_extension (Stop f) = refl

pub extends_off : (s : Step) → same_kind (first_kind s) EXTENDS ≡ false → s ≡ s ⟫ maybe_extends
unfolding maybe_extends
extends_off s n = optional_off (is EXTENDS) extension s (is_off EXTENDS s n)

pub type_head_then : (s : Step) → s ⟫ the THREAD ⟫ name ⟫ maybe_extends ≡ s ⟫ type_head
unfolding type_head
type_head_then (On ts) = refl
type_head_then (Stop f) = refl

pub type_end_then : (k : Token) (s : Step) → s ⟫ the END ⟫ own k ⟫ the SEMICOLON ≡ s ⟫ type_end k
unfolding type_end
type_end_then k (On ts) = refl
type_end_then k (Stop f) = refl

pub implementation_head_then : (word : Kind) (s : Step) →
    s ⟫ the word ⟫ the IMPLEMENTATION ⟫ name ⟫ the DOT ⟫ name ≡ s ⟫ implementation_head word
unfolding implementation_head
implementation_head_then word (On ts) = refl
implementation_head_then word (Stop f) = refl

pub implementation_end_then : (k l : Token) (s : Step) →
    s ⟫ the END ⟫ own k ⟫ the DOT ⟫ own l ⟫ the SEMICOLON ≡ s ⟫ implementation_end k l
unfolding implementation_end
implementation_end_then k l (On ts) = refl
implementation_end_then k l (Stop f) = refl

-- ## One after another

onward_going : (s : Said) (g : Rule) → going (s ⨟ g).went ≡ true → going s.went ≡ true
onward_going s g = go s.went
  where
    go : (w : Step) → going (onward w s g).went ≡ true → going w ≡ true
    go (On ts) h = refl
    go (Stop f) h = h

-- a rule that looks at the tokens that it begins with
does_at : (s : State) (f : Rule) (g : List Token → Rule) → ((ts : List Token) → s.went ≡ On ts → f ≡ g ts) →
    does s f ≡ does s (λ ps ts. g ts ps ts)
unfolding does
does_at s f g =
    by_went (λ (s : State). ((ts : List Token) → s.went ≡ On ts → f ≡ g ts) → does s f ≡ does s (λ ps ts. g ts ps ts))
    (λ ts qs x t h. rw (h ts refl)) (λ f qs x t h. refl) s

-- the names after its "end" are its own: the tokens that the code finds are those that the rule knows, if its head was read
module _ (s : State) where
  pub type_does : (k : Token) (n e : ℕ) → n ≡ (type_name s.went).start → e ≡ parent_in s.went →
      (going (s.went ⟫ the THREAD) ≡ true → k ≡ type_name s.went) →
      does (does (does (does s (quiet type_head)) (sections a_type n)) (quiet (type_end k))) (put (λ qs. type_row n e qs)) ≡ does s thread_type
  unfolding thread_type type_head
  type_does k n e x y h =
      ap (λ (t : State). does (does t (quiet (type_end k))) (put (λ qs. type_row n e qs)))
      (does_then_at s (quiet type_head) (sections a_type n) (λ ts. sections a_type (type_name (On ts)).start)
      (λ ts w. ap (sections a_type) (x ∙ ap (λ (u : Step). (type_name u).start) w)))
      ∙ ap (λ (t : State). does t (put (λ qs. type_row n e qs)))
      (does_then_going s (λ ps ts. quiet type_head ps ts ⨟ sections a_type (type_name (On ts)).start)
      (quiet (type_end k)) (λ ts. quiet (type_end (type_name (On ts))))
      (λ ts w g. ap (λ (t : Token). quiet (type_end t))
      (h (rw w (going_before (the THREAD ts) name (going_before (the THREAD ts ⟫ name) maybe_extends
      (onward_going (quiet type_head s.props ts) (sections a_type (type_name (On ts)).start) g))))
      ∙ ap type_name w)))
      ∙ does_then_at s (λ ps ts. quiet type_head ps ts ⨟ sections a_type (type_name (On ts)).start ⨟ quiet (type_end (type_name (On ts))))
      (put (λ qs. type_row n e qs))
      (λ ts. put (λ qs. type_row (type_name (On ts)).start (parent_in (On ts)) qs)) (λ ts w. rw (x, y, w))

  pub implementation_does : (word : Kind) (of place : ℕ) (k l : Token) →
      (going (s.went ⟫ the word ⟫ the IMPLEMENTATION) ≡ true → k ≡ first_name word s.went) →
      (going (s.went ⟫ the word ⟫ the IMPLEMENTATION ⟫ name ⟫ the DOT) ≡ true → l ≡ second_name word s.went) →
      does (does (does s (quiet (implementation_head word))) (sections of place)) (quiet (implementation_end k l))
      ≡ does s (implementation word of place)
  unfolding implementation implementation_head
  implementation_does word of place k l x y =
      ap (λ (t : State). does t (quiet (implementation_end k l))) (does_then s (quiet (implementation_head word)) (sections of place))
      ∙ does_then_going s (λ ps ts. quiet (implementation_head word) ps ts ⨟ sections of place) (quiet (implementation_end k l))
      (λ ts. quiet (implementation_end (first_name word (On ts)) (second_name word (On ts))))
      (λ ts w g.
      let two = going_before (the word ts ⟫ the IMPLEMENTATION ⟫ name ⟫ the DOT) name
      (onward_going (quiet (implementation_head word) s.props ts) (sections of place) g) in
      let one = going_before (the word ts ⟫ the IMPLEMENTATION) name (going_before (the word ts ⟫ the IMPLEMENTATION ⟫ name) (the DOT) two) in
      rw (x (rw w one), y (rw w two), w))

  pub thread_implementation_does : (t n : ℕ) → t ≡ (first_name THREAD s.went).start → n ≡ (second_name THREAD s.went).start →
      does (does s (implementation THREAD an_implementation 0)) (put (λ qs. implementation_row t n qs)) ≡ does s thread_implementation
  unfolding thread_implementation
  thread_implementation_does t n x y =
      does_then_at s (implementation THREAD an_implementation 0) (put (λ qs. implementation_row t n qs))
      (λ ts. put (λ qs. implementation_row (first_name THREAD (On ts)).start (second_name THREAD (On ts)).start qs)) (λ ts w. rw (x, y, w))

  pub process_does : (p : ℕ) → p ≡ (first s.went).start →
      does (does s (implementation PROCESS a_process p)) (put (λ qs. process_row p)) ≡ does s process_implementation
  unfolding process_implementation
  process_does p x =
      does_then s (implementation PROCESS a_process p) (put (λ qs. process_row p))
      ∙ does_at s (λ ps ts. implementation PROCESS a_process p ps ts ⨟ put (λ qs. process_row p))
      (λ us ps ts. implementation PROCESS a_process (head us).start ps ts ⨟ put (λ qs. process_row (head us).start))
      (λ ts w. ap {B = Rule} (λ (q : ℕ) (ps : List ℕ) (us : List Token). implementation PROCESS a_process q ps us ⨟ put
      (λ qs. process_row q))
      (x ∙ ap (λ (u : Step). (first u).start) w))

-- ## How far they go

pub type_head_moves : Moves 7 type_head
unfolding type_head maybe_extends
type_head_moves ts =
    moved_then (moved_then (moves_the THREAD refl ts) moves_name)
    (moves_optional (is EXTENDS) (λ us. moved_then (moves_the EXTENDS refl us) classifier_moves))

pub type_end_moves : (k : Token) → Moves 3 (type_end k)
unfolding type_end
type_end_moves k ts = moved_then (moved_then (moves_the END refl ts) (moves_own k)) (moves_the SEMICOLON refl)

pub thread_type_moves : MovesOn 10 thread_type
unfolding thread_type
thread_type_moves ps ts =
    moved_onward _ (put (λ qs. type_row (type_name (On ts)).start (parent_in (On ts)) qs))
    (moved_onward _ (quiet (type_end (type_name (On ts)))) (moved_onward _ (sections a_type (type_name (On ts)).start)
    (type_head_moves ts) (sections_moves a_type (type_name (On ts)).start))
    (moves_quiet (type_end (type_name (On ts))) (type_end_moves (type_name (On ts)))))
    (moves_put (λ qs. type_row (type_name (On ts)).start (parent_in (On ts)) qs))

pub implementation_head_moves : (word : Kind) → same_kind word ENDED ≡ false → Moves 5 (implementation_head word)
unfolding implementation_head
implementation_head_moves word n ts =
    moved_then (moved_then (moved_then (moved_then (moved_less 1 (weighs word n) (moves_the word n ts))
    (moves_the IMPLEMENTATION refl)) moves_name)
    (moves_the DOT refl)) moves_name

pub implementation_end_moves : (k l : Token) → Moves 5 (implementation_end k l)
unfolding implementation_end
implementation_end_moves k l ts =
    moved_then (moved_then (moved_then (moved_then (moves_the END refl ts) (moves_own k))
    (moves_the DOT refl)) (moves_own l))
    (moves_the SEMICOLON refl)

pub implementation_moves : (word : Kind) (of place : ℕ) → same_kind word ENDED ≡ false → MovesOn 10 (implementation word of place)
unfolding implementation
implementation_moves word of place n ps ts =
    moved_onward _ (quiet (implementation_end (first_name word (On ts)) (second_name word (On ts))))
    (moved_onward _ (sections of place) (implementation_head_moves word n ts) (sections_moves of place))
    (moves_quiet (implementation_end (first_name word (On ts)) (second_name word (On ts)))
    (implementation_end_moves (first_name word (On ts)) (second_name word (On ts))))

pub thread_implementation_moves : MovesOn 10 thread_implementation
unfolding thread_implementation
thread_implementation_moves ps ts =
    moved_onward _ (put (λ qs. implementation_row (first_name THREAD (On ts)).start (second_name THREAD (On ts)).start qs))
    (implementation_moves THREAD an_implementation 0 refl ps ts)
    (moves_put (λ qs. implementation_row (first_name THREAD (On ts)).start (second_name THREAD (On ts)).start qs))

pub process_moves : MovesOn 10 process_implementation
unfolding process_implementation
process_moves ps ts =
    moved_onward _ (put (λ qs. process_row (head ts).start)) (implementation_moves PROCESS a_process (head ts).start refl ps ts)
    (moves_put (λ qs. process_row (head ts).start))

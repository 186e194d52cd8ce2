-- Answering lines one after another. The desk and the memory together are the console, which answers a line and is changed by it.
use Rattle.std.specs.Prelude.{◌∷◌, ◌++◌, ◌≡◌}
use Rattle.common.specs.Words.{ℕ, List, [], append_assoc, refl, sym, ap, ◌∙◌}
use Rattle.desk.specs.declared.Desk.{Desk}
use Rattle.desk.specs.Desk.{line_turn}

pub record Console : Type 0 where
  pub desk : Desk
  pub memory : List ℕ

abbrev pub console_of : Desk → List ℕ → Console
console_of d m = record { desk = d; memory = m }

-- one line: the console after it, and the bytes that answer it
abbrev pub next : Console → List ℕ → Console
next w line = let t = line_turn w.desk w.memory line in record { desk = t.desk; memory = t.memory }

abbrev pub reply : Console → List ℕ → List ℕ
reply w line = (line_turn w.desk w.memory line).answer

-- lines one after another
unfoldable pub console_after : Console → List (List ℕ) → Console
console_after w [] = w
console_after w (l ∷ ls) = console_after (next w l) ls

unfoldable pub answers_to : Console → List (List ℕ) → List ℕ
answers_to w [] = []
answers_to w (l ∷ ls) = reply w l ++ answers_to (next w l) ls

pub console_append : (w : Console) (ks ls : List (List ℕ)) → console_after w (ks ++ ls) ≡ console_after (console_after w ks) ls
unfolding console_after
console_append w [] ls = refl
console_append w (k ∷ ks) ls = console_append (next w k) ks ls

pub answers_append : (w : Console) (ks ls : List (List ℕ)) → answers_to w (ks ++ ls) ≡ answers_to w ks ++ answers_to (console_after w ks) ls
unfolding console_after answers_to
answers_append w [] ls = refl
answers_append w (k ∷ ks) ls =
    ap (λ (x : List ℕ). reply w k ++ x) (answers_append (next w k) ks ls)
    ∙ sym (append_assoc (reply w k) (answers_to (next w k) ks) (answers_to (console_after (next w k) ks) ls))

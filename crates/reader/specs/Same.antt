-- Promises 2 and 3: letter case makes no difference, nor do comments but to places.
use Rattle.std.specs.Prelude.{◌≤◌, ◌∷◌, ◌≡◌}
use Rattle.common.specs.Words.{ℕ, zero, suc, List, [], map, refl, ap, ◌∙◌, sym, ltb, length, take, take_all, arith}
use Rattle.plain.specs.Plain.{lower, plain_of}
use Rattle.plain.specs.Case.{plain_lower, lower_length}
use Rattle.plain.specs.Comments.{blanked, blanked_length, comments_blank}
use Rattle.reader.specs.Reader.{most_bytes, plain_text, answer_plain, read_of}

take_lower : (n : ℕ) (t : List ℕ) → take n (map lower t) ≡ map lower (take n t)
take_lower zero t = refl
take_lower (suc n) [] = refl
take_lower (suc n) (b ∷ t) = ap (λ (l : List ℕ). lower b ∷ l) (take_lower n t)

-- what is read decides, and whether there is more
same : (p q : List ℕ) (n m : ℕ) → p ≡ q → n ≡ m → answer_plain p (ltb most_bytes n) ≡ answer_plain q (ltb most_bytes m)
same p q n m e f = rw (e, f)

-- a text with every letter in lower case gives the same answer, place and all
pub case_aside : (text : List ℕ) → read_of (map lower text) ≡ read_of text
unfolding read_of
case_aside text =
    same (plain_text (map lower text)) (plain_text text) (length (map lower text)) (length text)
    (ap plain_of (take_lower most_bytes text) ∙ plain_lower (take most_bytes text)) (lower_length text)

-- a text with each comment overwritten by blanks gives the same answer, place and all
pub comments_aside : (text : List ℕ) → length text ≤ most_bytes → read_of (blanked text) ≡ read_of text
unfolding read_of
comments_aside text l =
    same (plain_text (blanked text)) (plain_text text) (length (blanked text)) (length text)
    (ap plain_of (take_all most_bytes (blanked text) (omega (arith, blanked_length text)))
    ∙ comments_blank text ∙ ap plain_of (sym (take_all most_bytes text l)))
    (blanked_length text)

-- Plain texts that were reckoned by hand.
use Rattle.std.specs.Prelude.{◌∷◌, ◌++◌, ◌≡◌}
use Rattle.common.specs.Words.{refl}
use Rattle.words.specs.Letters.{letters}
use Rattle.plain.specs.Plain.{lower, two, three, string_by, close_by, annex_rest, begun, step_of, plain_by, mark_rest, plain_of}
use Rattle.plain.specs.Comments.{blanked_by, blanked}

-- capitals, and the bytes beside them
capitals : plain_of (letters "Thread A@Z[z{`") ≡ letters "thread a@z[z{`"
unfolding lower two three string_by close_by annex_rest begun step_of plain_by mark_rest plain_of
capitals = refl

-- a comment to the line's end, and one to the text's; hyphens apart, and an arrow, begin none
comments : plain_of (letters "A--b \"{\nC - -D->E --") ≡ letters "a      \nc - -d->e   "
unfolding lower two three string_by close_by annex_rest begun step_of plain_by mark_rest plain_of
comments = refl

-- a string, hyphens and a doubled quote in it
strings : plain_of (letters "A=>\"b--\"\"C\";--") ≡ letters "a=>\"       ;  "
unfolding lower two three string_by close_by annex_rest begun step_of plain_by mark_rest plain_of
strings = refl

-- no quote ends a string in the first line; in the second none ends one behind the doubled quote, so that the first two are a string
quotes : plain_of (letters "A\"B\n\"\"\" C\n") ≡ letters "a\"b\n\" \" c\n"
unfolding lower two three string_by close_by annex_rest begun step_of plain_by mark_rest plain_of
quotes = refl

-- the first `**}` closes an annex, in another line too; that of `{**}` is its own, and stands open
annexes : plain_of (letters "{** A--\n\"**}B**}{**}C") ≡ letters "A           b**}{**}c"
unfolding lower two three string_by close_by annex_rest begun step_of plain_by mark_rest plain_of
annexes = refl

-- nothing closes it: a brace by itself, and what follows counts
unclosed : plain_of (letters "{** A \"b\" **--}") ≡ letters "{** a \"   **   "
unfolding lower two three string_by close_by annex_rest begun step_of plain_by mark_rest plain_of
unclosed = refl

-- the mark where a text begins with it, and elsewhere
marks : plain_of (0xef ∷ 0xbb ∷ 0xbf ∷ letters "--A\nB" ++ (0xef ∷ 0xbb ∷ 0xbf ∷ letters "C"))
    ≡ letters "      \nb" ++ (0xef ∷ 0xbb ∷ 0xbf ∷ letters "c")
unfolding lower two three string_by close_by annex_rest begun step_of plain_by mark_rest plain_of
marks = refl

-- comments overwritten, and nothing else
overwritten : blanked (letters "A--b\nC\"d--\"\"e\" {**--**}--\"") ≡ letters "A   \nC\"d--\"\"e\" {**--**}   "
unfolding lower two three string_by close_by annex_rest begun step_of mark_rest blanked_by blanked
overwritten = refl

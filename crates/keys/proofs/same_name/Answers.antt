-- `keys::same_name`: what is left of the two names decides.
use Rattle.std.specs.Prelude.{◌≡◌, ◌<◌}
use Rattle.common.specs.Words.{rules, ℕ, refl, sym, ap, ◌∙◌, length, get_or, eqb, eq-eqb}
use Rattle.words.specs.Letters.{same_refl}
use Rattle.keys.specs.Keys.{spelled, name_byte}
use Rattle.keys.specs.Laws.{byte_behind, byte_inside, same_apart, same_none, same_onward}
use Rattle.keys.proofs.same_name.Goals as goal

pub returns-then-a-b : goal.returns-then-a-b
returns-then-a-b c = rw c.if-a-b.true (sym (same_refl (spelled c.args.text.now c.args.b)))

pub loop-i-init : goal.loop-i-init
loop-i-init c = refl

pub returns-then-letter-letter_at : goal.returns-then-letter-letter_at
returns-then-letter-letter_at c =
    let l = c in
    let p = l.args.text.now in
    sym (same_apart p l.loop-i.i l.loop-i.j (rw (← c.letter_at-letter.ensures, ← c.letter_at.ensures)
    c.if-letter-letter_at.true)) ∙ l.loop-i.invariant

pub returns-then-letter-eq0 : goal.returns-then-letter-eq0
returns-then-letter-eq0 c =
    let l = c in
    let p = l.args.text.now in
    let none : name_byte (get_or p l.loop-i.i 0) ≡ 0 = sym c.letter_at-letter.ensures ∙ c.if-letter-eq0.true in
    let too : name_byte (get_or p l.loop-i.j 0) ≡ 0 = sym c.letter_at.ensures
    ∙ sym c.if-letter-letter_at.false ∙ c.if-letter-eq0.true in
    sym (same_none p l.loop-i.i l.loop-i.j none ∙ eq-eqb _ 0 too) ∙ l.loop-i.invariant

pub overflow_add-j : goal.overflow_add-j
overflow_add-j c =
    let l = c in
    let p = l.args.text.now in
    let s : l.loop-i.j < length p =
    byte_inside p l.loop-i.j (rw (← c.letter_at.ensures, ← c.if-letter-letter_at.false) c.if-letter-eq0.false) in
    search rules

pub loop-i-preserved : goal.loop-i-preserved
loop-i-preserved c =
    let l = c in
    let p = l.args.text.now in
    same_onward p l.loop-i.i l.loop-i.j (rw (← c.letter_at-letter.ensures) c.if-letter-eq0.false)
    (rw (← c.letter_at-letter.ensures, ← c.letter_at.ensures) c.if-letter-letter_at.false) ∙ l.loop-i.invariant

pub returns : goal.returns
returns c =
    let l = c in
    let p = l.args.text.now in
    ap (λ (b : ℕ). eqb b 0) c.letter_at-2.ensures
    ∙ sym (same_none p l.loop-i.i l.loop-i.j (byte_behind p l.loop-i.i (search rules))) ∙ l.loop-i.invariant

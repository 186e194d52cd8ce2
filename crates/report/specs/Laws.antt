-- Points behind bytes.
use Rattle.std.specs.Prelude.{◌+◌, ◌≤◌, ◌<◌, ◌∷◌, ◌++◌, ◌≡◌}
use Rattle.common.specs.Words.{ℕ, min, arith, add-one, Bool, true, false, cond, eqb, leb, leb-true, leb-false, List, [], length, get_or, take}
use Rattle.common.specs.Words.{take-suc, take_all, length-take, refl, ◌∙◌, sym, ap}
use Rattle.report.specs.declared.found.Point.{Point}
use Rattle.report.specs.Places.{past, first, behind}

pub behind_more : (p : Point) (bytes : List ℕ) (b : ℕ) → behind p (bytes ++ (b ∷ [])) ≡ past (behind p bytes) b
unfolding behind
behind_more p [] b = refl
behind_more p (a ∷ bytes) b = behind_more (past p a) bytes b

pub point_more : (text : List ℕ) (i : ℕ) → i < length text →
    past (behind first (take i text)) (get_or text i 0) ≡ behind first (take (i + 1) text)
point_more text i h = sym (behind_more first (take i text) (get_or text i 0)) ∙ rw (add-one i, take-suc text i 0 h)

-- one byte more adds one at most
past_low : (p : Point) (b n : ℕ) → p.line ≤ n → p.column ≤ n → ((past p b).line ≤ n + 1) × ((past p b).column ≤ n + 1)
past_low p b n h k = go (eqb b 0x0a)
  where
    either : Bool → Point
    either t = cond t (record { line = p.line + 1; column = 1 }) (record { line = p.line; column = p.column + 1 })

    go : (t : Bool) → ((either t).line ≤ n + 1) × ((either t).column ≤ n + 1)
    go true = (omega (arith, h), omega arith)
    go false = (omega (arith, h), omega (arith, k))

behind_low : (bytes : List ℕ) (p : Point) (n : ℕ) → p.line ≤ n → p.column ≤ n →
    ((behind p bytes).line ≤ n + length bytes) × ((behind p bytes).column ≤ n + length bytes)
unfolding behind
behind_low [] p n h k = (omega (arith, h), omega (arith, k))
behind_low (b ∷ bytes) p n h k =
    let s = past_low p b n h k in
    let r = behind_low bytes (past p b) (n + 1) s.0 s.1 in
    (omega (arith, r.0), omega (arith, r.1))

-- neither is more than the bytes passed, and one
pub point_low : (text : List ℕ) (i : ℕ) → ((behind first (take i text)).line ≤ i + 1) × ((behind first (take i text)).column ≤ i + 1)
point_low text i =
    let r = behind_low (take i text) first 1 (omega arith) (omega arith) in
    (omega (arith, r.0, length-take i text), omega (arith, r.1, length-take i text))

pub take_least : (n : ℕ) (text : List ℕ) → take (min n (length text)) text ≡ take n text
take_least n text = go (leb n (length text)) refl
  where
    go : (t : Bool) → leb n (length text) ≡ t → take (min n (length text)) text ≡ take n text
    go true e = let m : min n (length text) ≡ n = omega (arith, leb-true n (length text) e) in ap (λ (k : ℕ). take k text) m
    go false e =
        let h = leb-false n (length text) e in
        take_all (min n (length text)) text (omega (arith, h)) ∙ sym (take_all n text (omega (arith, h)))

-- Laws of the reader: what ends a reading, what the state after a reading says, and the answer by the least fault.
use Rattle.std.specs.Prelude.{◌<◌, ◌≤◌, ◌&&◌, ◌∷◌, ◌++◌, ◌≡◌, Result, Ok, Err, Option, None, Some}
use Rattle.common.specs.Words.{ℕ, zero, suc, min, arith, ⊎_elim, Bool, true, false, true≢false, List, [], refl, sym, ap, ◌∙◌}
use Rattle.common.specs.Words.{leb, leb-true, ltb, length, length-append, take, take_all, length-take-le, get_or, get_or-replicate}
use Rattle.common.specs.Tests.{lt_or_le}
use Rattle.plain.specs.Plain.{plain_of}
use Rattle.plain.specs.Case.{plain_length}
use Rattle.tokens.specs.Tokens.{from}
use Rattle.steps.specs.declared.faults.Fault.{Fault}
use Rattle.steps.specs.Faults.{no_fault, worse, worst}
use Rattle.steps.specs.Lifted.{lift}
use Rattle.rows.specs.Rows.{store, with_rows}
use Rattle.rows.specs.Wide.{wide, wide_low}
use Rattle.rows.specs.declared.Reading.{Reading}
use Rattle.rows.specs.Said.{no_props}
use Rattle.rows.specs.States.{State, state_of, does, begun}
use Rattle.rows.specs.Laws.{worst_append}
use Rattle.index.specs.Index.{rows_in}
use Rattle.texts.specs.Texts.{whole_text}
use Rattle.texts.specs.Pays.{room}
use Rattle.texts.specs.Wide.{whole_wide}
use Rattle.verdict.specs.Verdict.{judged}
use Rattle.kit.specs.Kit.{table_of, Ranked}
use Rattle.kit.specs.Priorities.{priorities_fit}
use Rattle.findings.specs.declared.Table.{Table}
use Rattle.findings.specs.Findings.{sound, refused, no_room, no_table, answered}
use Rattle.reader.specs.Reader.{most_bytes, most_rows, tree_room, rows_room, plain_text, read_from, end_faults, long_faults, faults_in}
use Rattle.reader.specs.Reader.{answer_by, answer_read, answer_plain, read_of, enough, answer, Fitting}
use Rattle.reader.specs.StoredRows.{Held, stored_held}

-- ## What ends a reading

module _ (p : List ℕ) (x : Option Fault) (fs : List Fault) (long : Bool) where
  pub end_stopped : (w : Result ℕ Fault) (f : Fault) → w ≡ Err f → worse x (Some f) ≡ worst x (end_faults (lift p w) long fs)
  unfolding worst
  end_stopped w f e = rw e

  pub end_long : (w : Result ℕ Fault) (at : ℕ) → w ≡ Ok at → long ≡ true → x ≡ worst x (end_faults (lift p w) long fs)
  unfolding worst
  end_long w at e h = rw (e, h)

  pub end_judged : (w : Result ℕ Fault) (at : ℕ) → w ≡ Ok at → long ≡ false → worst x fs ≡ worst x (end_faults (lift p w) long fs)
  end_judged w at e h = rw (e, h)

-- ## The answer

-- by the least fault, which the code finds in two steps
module _ (p m : List ℕ) (r : Reading) (long : Bool) {noted least : Option Fault} (e : noted ≡ worst r.fault (long_faults long))
    (g : least ≡ worst noted (end_faults (lift p r.went) long (judged p (rows_in r.count m)))) where
  pub answer_refused : (f : Fault) → least ≡ Some f → answered (refused f) no_table ≡ answer_read p m r long
  unfolding answer_read answer_by
  answer_refused f h = rw (← e, ← g, h)

  pub answer_sound : least ≡ None → {t : Table} → t ≡ table_of p (rows_in r.count m) → answered sound t ≡ answer_read p m r long
  unfolding answer_read answer_by
  answer_sound h f = rw (← e, ← g, h, f)

-- ## What the state after a reading says

abbrev Ended : List ℕ → Reading → List ℕ → List ℕ → Type 0
Ended p r m n = state_of p r n ≡ does (state_of p begun m) whole_text

-- its rows have all their columns, and no Priority over 255
read_wide : (p : List ℕ) → wide (read_from p).rows ≡ true
unfolding read_from
read_wide p = (whole_wide no_props (from p 0)).all (omega arith)

module _ (p : List ℕ) (r : Reading) (m n : List ℕ) (e : Ended p r m n) where
  pub read_went : lift p r.went ≡ (read_from p).went
  unfolding does read_from
  read_went = ap (λ (s : State). s.went) e

  pub read_fault : r.fault ≡ worst no_fault (read_from p).notes
  unfolding does read_from
  read_fault = ap (λ (s : State). s.fault) e

  read_store : store n r.count ≡ with_rows (store m 0) (read_from p).rows
  unfolding does read_from
  read_store = ap (λ (s : State). s.store) e

  module _ (l : length p ≤ most_bytes) (h : rows_room ≤ length m) where
    read_held : Held m 0 (read_from p).rows (store n r.count)
    unfolding read_from
    read_held = rw (read_store) (stored_held (read_from p).rows m 0 (read_wide p) (omega (arith, room p, l, h)))

    pub read_rows : rows_in r.count n ≡ (read_from p).rows
    unfolding rows_in
    read_rows = read_held.rows

    pub read_few : r.count ≤ most_rows
    unfolding read_from
    read_few = omega (arith, room p, l, read_held.count)

    pub read_ranked : Ranked (rows_in r.count n)
    read_ranked = rw read_rows (record { low = wide_low (read_from p).rows (read_wide p) })

    pub read_size : length n ≡ length m
    read_size = read_held.size

-- the answer of a plain text, as the code comes to it
pub read_answer : (p : List ℕ) (r : Reading) (m n : List ℕ) (long : Bool) → Ended p r m n → length p ≤ most_bytes →
    rows_room ≤ length m → answer_read p n r long ≡ answer_plain p long
unfolding answer_read answer_plain faults_in
read_answer p r m n long e l h =
    let s = read_from p in
    let ends = end_faults s.went long (judged p s.rows) in
    let q : worst no_fault (s.notes ++ long_faults long ++ ends) ≡ worst (worst (worst no_fault s.notes) (long_faults long)) ends =
    worst_append no_fault (s.notes ++ long_faults long) ends ∙ ap (λ (f : Option Fault). worst f ends)
    (worst_append no_fault s.notes (long_faults long)) in
    rw (read_rows p r m n e l h, read_went p r m n e, read_fault p r m n e, q)

-- ## Room

both : (a b : Bool) → (a && b) ≡ true → (a ≡ true) × (b ≡ true)
both true b h = (refl, h)
both false b h = absurd (true≢false (sym h))

pub fitting : (n plain : ℕ) (rows declared connected queued types : List ℕ) →
    enough plain (length rows) (length declared) (length connected) (length queued) (length types) ≡ true → n ≤ most_rows →
    Ranked (rows_in n rows) → Fitting n rows declared connected queued types
unfolding enough
fitting n plain rows declared connected queued types h l ranked =
    let a : Bool = leb rows_room (length rows) in
    let b : Bool = leb tree_room (length declared) in
    let c : Bool = leb tree_room (length connected) in
    let d : Bool = leb tree_room (length queued) in
    let e : Bool = leb most_rows (length types) in
    let g = both (leb most_bytes plain) (a && (b && (c && (d && e)))) h in
    let i = both a (b && (c && (d && e))) g.1 in
    let j = both b (c && (d && e)) i.1 in
    let k = both c (d && e) j.1 in
    let q = both d e k.1 in
    record {
      held = omega (arith, leb-true rows_room (length rows) i.0, l);
      few = omega (arith, l);
      named = omega (arith, leb-true tree_room (length declared) j.0, l);
      joined = omega (arith, leb-true tree_room (length connected) k.0, l);
      lined = omega (arith, leb-true tree_room (length queued) q.0, l);
      typed = omega (arith, leb-true most_rows (length types) q.1, l);
      ranked = ranked;
    }

-- the plain text fits, and so do the rows
pub fitting_plain : (plain rows declared connected queued types : ℕ) → enough plain rows declared connected queued types ≡ true →
    (most_bytes ≤ plain) × (rows_room ≤ rows)
unfolding enough
fitting_plain plain rows declared connected queued types h =
    let c : Bool = leb tree_room declared && (leb tree_room connected && (leb tree_room queued && leb most_rows types)) in
    let a = both (leb most_bytes plain) (leb rows_room rows && c) h in
    let b = both (leb rows_room rows) c a.1 in
    (leb-true most_bytes plain a.0, leb-true rows_room rows b.0)

-- rows that were read fit
pub fitting_read : (p : List ℕ) (r : Reading) (m n declared connected queued types : List ℕ) → Ended p r m n → length p ≤ most_bytes →
    enough most_bytes (length m) (length declared) (length connected) (length queued) (length types) ≡ true →
    Fitting r.count n declared connected queued types
fitting_read p r m n declared connected queued types e l h =
    let k = (fitting_plain most_bytes (length m) (length declared) (length connected) (length queued) (length types) h).1 in
    fitting r.count most_bytes n declared connected queued types (rw (read_size p r m n e l k) h)
    (read_few p r m n e l k) (read_ranked p r m n e l k)

-- ## The plain text at the front of its memory

front : (x y : List ℕ) (n : ℕ) → length x ≡ n → take n (x ++ y) ≡ x
front [] y zero e = refl
front [] y (suc n) e = absurd (omega arith)
front (a ∷ x) y zero e = absurd (omega arith)
front (a ∷ x) y (suc n) e = ap (λ (l : List ℕ). a ∷ l) (front x y n (omega arith))

-- what is read of a text
read_part : (text : List ℕ) (n : ℕ) → n ≡ min most_bytes (length text) → take n text ≡ take most_bytes text
read_part text n e =
    ⊎_elim (λ (h : most_bytes < length text). let q : n ≡ most_bytes = omega arith in ap (λ (k : ℕ). take k text) q)
    (λ (h : length text ≤ most_bytes). take_all n text (omega arith) ∙ sym (take_all most_bytes text h)) (lt_or_le most_bytes (length text))

pub plain_front : (text x y : List ℕ) (n : ℕ) → n ≡ min most_bytes (length text) → x ≡ plain_of (take n text) →
    (n ≤ most_bytes) × (n ≤ length (x ++ y)) × (take n (x ++ y) ≡ plain_text text)
plain_front text x y n e f =
    let l : length x ≡ n = ap length f ∙ plain_length (take n text) ∙ length-take-le n text (omega arith) in
    (omega arith, omega (arith, length-append x y), front x y n l ∙ f ∙ ap plain_of (read_part text n e))

-- ## The whole call

pub answer_none : (room : Bool) (text : List ℕ) → room ≡ false → answered no_room no_table ≡ answer room text
unfolding answer
answer_none room text h = rw h

pub answer_some : (room : Bool) (text p : List ℕ) → room ≡ true → p ≡ plain_text text →
    answer_plain p (ltb most_bytes (length text)) ≡ answer room text
unfolding answer read_of
answer_some room text p h e = rw (h, e)

-- memory that is enough is so whatever of it the plain text has
pub enough_plain : (plain rows declared connected queued types : ℕ) → enough plain rows declared connected queued types ≡ true →
    enough most_bytes rows declared connected queued types ≡ true
unfolding enough
enough_plain plain rows declared connected queued types h =
    (both (leb most_bytes plain) (leb rows_room rows && (leb tree_room declared
    && (leb tree_room connected && (leb tree_room queued && leb most_rows types)))) h).1

-- ## A text's priorities fit a byte

pub priorities_low : (text : List ℕ) (i : ℕ) → i < 16 → get_or (read_of text).table.priority i 0 ≤ 255
unfolding read_of answer_plain answer_by table_of
priorities_low text i l = by (worst no_fault (faults_in p (ltb most_bytes (length text))))
  where
    p : List ℕ
    p = plain_text text

    by : (f : Option Fault) → get_or (answer_by f (table_of p (read_from p).rows)).table.priority i 0 ≤ 255
    by None = priorities_fit p (read_from p).rows (record { low = wide_low (read_from p).rows (read_wide p) }) i l
    by (Some f) = rw (get_or-replicate {A = ℕ} _ i 0 0 l) (omega arith)

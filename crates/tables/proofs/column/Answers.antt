-- `tables::column`: the values up to the count, and zeros behind them, are the definition's rows.
use Rattle.std.specs.Prelude.{◌-◌, ◌<◌, ◌≤◌, ◌≡◌, ◌++◌}
use Rattle.std.proofs.lemmas.List.{get_or-append_right}
use Rattle.common.specs.Words.{ℕ, List, arith, min, length, get_or, take, drop, ext_get_or, get_or-append, get_or-take, length-append, length-take}
use Rattle.common.specs.Words.{length-drop}
use Rattle.common.specs.Words.{lt-ltb, le-ltb, sym, ◌∙◌, ⊎_elim}
use Rattle.common.specs.Tests.{lt_or_le}
use Rattle.common.specs.Table.{table, table_length, table_at}
use Rattle.tables.specs.Table.{value_within}
use Rattle.tables.proofs.column.Goals as goal

module _ {A : Type 0} (n limit m : ℕ) (values rows beyond : List A) (zero : A) where
  abbrev filled : List A
  filled = take m values ++ (rows ++ beyond)

  module _ (long : length values ≡ limit) (at : m ≡ min n limit) (rest : length rows ≡ limit - m)
      (none : length beyond ≡ 0) (zeros : (k : ℕ) → k < limit - m → get_or rows k zero ≡ zero) where
    front : length (take m values) ≡ m
    front = omega (arith, length-take m values)

    all : length filled ≡ limit
    all = omega (arith, front, length-append (take m values) (rows ++ beyond), length-append rows beyond)

    row : (i : ℕ) → i < limit → get_or filled i zero ≡ value_within n values zero i
    row i l =
        ⊎_elim (λ (b : i < m).
        get_or-append (take m values) (rows ++ beyond) zero i (omega (arith, front)) ∙ get_or-take m values i zero b
        ∙ rw (lt-ltb i n (omega arith)))
        (λ (b : m ≤ i).
        get_or-append_right (take m values) (rows ++ beyond) m i zero front b
        ∙ get_or-append rows beyond zero (i - m) (omega arith)
        ∙ zeros (i - m) (omega arith)
        ∙ rw (le-ltb i n (omega arith)))
        (lt_or_le i m)

    rows_are : filled ≡ table (value_within n values zero) limit
    rows_are = ext_get_or zero filled _ (all ∙ sym (table_length _ limit))
        (λ i l. row i (omega (arith, all)) ∙ sym (table_at _ limit i zero (omega (arith, all))))

pub returns : goal.returns
returns g c =
    let values = c.args.values.now in
    let m = c.min.result in
    let k = length values - m in
    let long : length c.loop-row.row-items ≡ g.row.N - m =
    omega (arith, c.loop-row.auto.row-items, length-take k (drop m values), length-drop m values) in
    rows_are c.args.count g.row.N m values c.loop-row.row-items _ c.args.zero c.told-values c.min.ensures long
    (omega (arith, length-drop k (drop m values), length-drop m values))
    (λ i l. c.loop-row.invariant i (omega (arith, c.loop-row-test.false, c.loop-row.auto.row-items)))

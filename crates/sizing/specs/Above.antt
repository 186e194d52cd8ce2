-- What a message asks for, row by row: the messages up to it without those up to the horizon.
use Rattle.std.specs.Prelude.{◌+◌, ◌-◌, ◌<◌, ◌≤◌, ◌≡◌}
use Rattle.common.specs.Words.{ℕ, arith, le_trans, Bool, true, false, cond, refl, sym, ◌∙◌}
use Rattle.common.specs.Totals.{only, sum, sum_add, sum_ext}
use Rattle.model.specs.Model.{Queue, Valid, count, precedes, row_up_to, up_to}
use Rattle.model.proofs.Count.{count_mono}
use Rattle.model.proofs.Order.{period_pos}
use Rattle.counting.specs.Until.{row_until, until_on, until_off, until_near}

-- row j's messages up to row i's, which is due in the tick after b, and after the horizon h
abbrev pub row_above : Queue → ℕ → ℕ → ℕ → ℕ → ℕ
row_above q h b i j = row_until q b i j - row_up_to q h j

-- of a row that sends it is the difference of two counts
pub above_on : (q : Queue) (h b i j t : ℕ) → q.sends j ≡ true → t ≡ cond (precedes q i j) b (b + 1) →
    row_above q h b i j ≡ count (q.period j) (q.deadline j) t - count (q.period j) (q.deadline j) h
above_on q h b i j t on e = rw (until_on q b i j t on e, on)

pub above_off : (q : Queue) (h b i j : ℕ) → q.sends j ≡ false → row_above q h b i j ≡ 0
above_off q h b i j off = omega (arith, until_off q b i j off)

only_mono : (on : Bool) (m n : ℕ) → m ≤ n → only on m ≤ only on n
only_mono true m n h = h
only_mono false m n h = omega arith

module _ (q : Queue) (v : Valid q) (h b i : ℕ) (g : h ≤ b) where
  row_above_lem : (j : ℕ) → j < q.rows → row_above q h b i j + row_up_to q h j ≡ row_until q b i j
  row_above_lem j row =
      let late = le_trans g (until_near q b i j _ refl).0 in
      let m = count_mono (q.period j) (q.deadline j) (period_pos q v j row) h _ late in
      omega (arith, only_mono (q.sends j) _ _ m)

  pub above_all : sum (row_above q h b i) q.rows + up_to q h ≡ sum (row_until q b i) q.rows
  unfolding up_to
  above_all = sym (sum_add (row_above q h b i) (row_up_to q h) q.rows) ∙ sum_ext _ _ q.rows row_above_lem

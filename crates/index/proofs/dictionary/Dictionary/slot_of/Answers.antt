-- `Dictionary::slot_of`: what is left of the search ends where the whole does.
use Rattle.std.specs.Prelude.{◌≡◌, ◌<◌}
use Rattle.common.specs.Words.{rules, ℕ, sym, ◌∙◌, arith, pos_of_ne-zero}
use Rattle.index.specs.Trees.{left_all, left_free}
use Rattle.index.specs.Laws.{entry_within, entry_rises, search_here, search_on}
use Rattle.index.proofs.dictionary.Dictionary.slot_of.Goals as goal

some : (e f : ℕ) → e ≡ f → (f ≡ 0 → ⊥) → 0 < e
some e f i n = omega (arith, pos_of_ne-zero n)

pub loop-slot-init : goal.loop-slot-init
loop-slot-init g c = (rw c.hash_of-hash.ensures (left_all _ _ _), search rules)

pub overflow_sub-entry : goal.overflow_sub-entry
overflow_sub-entry g c = some _ _ c.wide-entry.ensures.0 c.loop-slot-test.true

pub key_at-requires : goal.key_at-requires
key_at-requires g c =
    let low = entry_within c.args.self.now.indexed c.loop-slot.invariant.0 c.wide-entry.ensures.0 in
    let up = some _ _ c.wide-entry.ensures.0 c.loop-slot-test.true in
    search rules

pub returns-then-same_key : goal.returns-then-same_key
returns-then-same_key g c =
    let found = sym (rw c.key_at.ensures at c.same_key.ensures) ∙ c.if-same_key.true in (
      search_here c.args.self.now.indexed c.loop-slot.invariant.0 c.wide-entry.ensures.0
          (some _ _ c.wide-entry.ensures.0 c.loop-slot-test.true) found,
      c.loop-slot.invariant.1,
    )

pub loop-slot-smaller : goal.loop-slot-smaller
loop-slot-smaller g c =
    let up = entry_rises c.args.self.now.indexed c.loop-slot.invariant.0 c.wide-entry.ensures.0
    (some _ _ c.wide-entry.ensures.0 c.loop-slot-test.true) in
    search rules

pub loop-slot-preserved : goal.loop-slot-preserved
loop-slot-preserved g c =
    let other = sym (rw c.key_at.ensures at c.same_key.ensures) ∙ c.if-same_key.false in
    let low = entry_within c.args.self.now.indexed c.loop-slot.invariant.0 c.wide-entry.ensures.0 in (
      search_on c.args.self.now.indexed c.loop-slot.invariant.0 c.wide-entry.ensures.0
          (some _ _ c.wide-entry.ensures.0 c.loop-slot-test.true) other,
      search rules,
    )

pub returns : goal.returns
returns g c = (left_free _ _ _ _ _ c.loop-slot.invariant.0 c.loop-slot-test.false, c.loop-slot.invariant.1)

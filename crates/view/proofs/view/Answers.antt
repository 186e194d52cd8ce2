-- `view`: one law for each way out, over the answer and the two references.
use Rattle.std.specs.Prelude.{◌≡◌, ◌&&◌, ◌+◌, ◌*◌, ◌-◌, ◌<◌, ◌≤◌}
use Rattle.common.specs.Words.{refl, ap, ◌∙◌, Bool, true, false, cond, List, [], ℕ, arith, length, take, drop, ne_eqb, eq-eqb, lt-leb, le-leb}
use denote.Ref.{Bor}
use Rattle.common.specs.Tests.{tests}
use Rattle.calendar.specs.declared.Number.{Number}
use Rattle.calendar.specs.declared.Slot.{Slot}
use Rattle.plan.specs.Limits.{payload_bytes, slot_bytes}
use Rattle.slots.specs.Slots.{slot_at, payload_in}
use Rattle.running.specs.View.{view_of, place_of, place_behind, slot_inside, filler_fits}
use Rattle.running.specs.declared.Received.{Received}
use Rattle.view.proofs.view.Goals as goal

-- a filler that does not fit
unfit : (a : Received) (m f : Bor (List ℕ)) → filler_fits f.now ≡ false → ([] ≡ view_of a m.now f.now) × (f.ref_ptr ≡ place_of a m f)
unfolding view_of place_of
unfit (Received.Message n s) m f e = (rw e, rw e)
unfit (Received.Gap n row) m f e = (rw e, refl)
unfit Received.Empty m f e = (refl, refl)
unfit (Received.Refused r) m f e = (refl, refl)

-- an answer that is neither a message nor a gap
rest : (a : Received) (m f : Bor (List ℕ)) → ((n : Number) (s : Slot) → a ≡ Received.Message n s → ⊥) →
    ((n : Number) (row : ℕ) → a ≡ Received.Gap n row → ⊥) → ([] ≡ view_of a m.now f.now) × (f.ref_ptr ≡ place_of a m f)
unfolding view_of place_of
rest (Received.Message n s) m f k l = absurd (k n s refl)
rest (Received.Gap n row) m f k l = absurd (l n row refl)
rest Received.Empty m f k l = (refl, refl)
rest (Received.Refused r) m f k l = (refl, refl)

module _ (a : Received) (n : Number) (s : Slot) (m f : Bor (List ℕ)) (is : a ≡ Received.Message n s) where
  -- a message whose slot lies outside the memory
  outside : length m.now < slot_at payload_bytes s.0 + slot_bytes → ([] ≡ view_of a m.now f.now) × (f.ref_ptr ≡ place_of a m f)
  unfolding view_of place_of
  outside h = rw is (go (filler_fits f.now))
    where
      go : (b : Bool) → ([] ≡ cond (b && slot_inside m.now s.0) (payload_in payload_bytes m.now s.0) [])
          × (f.ref_ptr ≡ cond (b && slot_inside m.now s.0) (place_behind m (slot_at payload_bytes s.0 + 8)) f.ref_ptr)
      go true = let e = lt-leb _ _ h in (rw e, rw e)
      go false = (refl, refl)

  inside : length f.now ≡ payload_bytes → slot_at payload_bytes s.0 + slot_bytes ≤ length m.now →
      (payload_in payload_bytes m.now s.0 ≡ view_of a m.now f.now) × (place_behind m (slot_at payload_bytes s.0 + 8) ≡ place_of a m f)
  unfolding view_of place_of
  inside d e = rw (is, eq-eqb _ _ d, le-leb _ _ e) (refl, refl)

pub returns-then-filler-ne-PAYLOAD_BYTES : goal.returns-then-filler-ne-PAYLOAD_BYTES
returns-then-filler-ne-PAYLOAD_BYTES c =
    let a = c.args in
    unfit a.answer a.memory a.filler (ne_eqb _ _ c.if-filler-ne-PAYLOAD_BYTES.true)

pub returns-then-memory-s : goal.returns-then-memory-s
returns-then-memory-s c =
    let a = c.args in
    let g = c.in-Message in
    outside a.answer g.field-0 g.slot a.memory a.filler g.is (omega arith)

pub returns-in-Message : goal.returns-in-Message
returns-in-Message c =
    let a = c.args in
    let g = c.in-Message in
    let s = g.slot.0 in
    let n : s * 32 + 32 - (s * 32 + 8) ≡ 24 = omega arith in
    let i = inside a.answer g.field-0 g.slot a.memory a.filler g.is c.if-filler-ne-PAYLOAD_BYTES.false (omega arith) in
    (ap (λ (k : ℕ). take k (drop (s * 32 + 8) a.memory.now)) n ∙ i.0, i.1)

pub returns-in-Gap : goal.returns-in-Gap
unfolding view_of place_of
returns-in-Gap c = search (tests, c.in-Gap.is)

pub returns : goal.returns
returns c = rest c.args.answer c.args.memory c.args.filler c.in_default.not-Message c.in_default-answer.not-Gap

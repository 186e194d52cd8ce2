-- The view's contract determines its bytes and where they lie: two results that both meet it have the same bytes at the same place.
use Rattle.std.specs.Prelude.{◌≡◌}
use Rattle.common.specs.Words.{List, sym, ◌∙◌, ℕ}
use Rattle.std.specs.Borrow.{Bor}
use Rattle.running.specs.View.{view_of, place_of}
use Rattle.running.specs.declared.Received.{Received}

abbrev pub ViewGives : Received → Bor (List ℕ) → Bor (List ℕ) → Bor (List ℕ) → Type 0
ViewGives answer m f r = (r.now ≡ view_of answer m.now f.now) × (r.ref_ptr ≡ place_of answer m f)

pub view_unique : (answer : Received) (m f r s : Bor (List ℕ)) →
    ViewGives answer m f r → ViewGives answer m f s → (r.now ≡ s.now) × (r.ref_ptr ≡ s.ref_ptr)
view_unique answer m f r s a b = (a.0 ∙ sym b.0, a.1 ∙ sym b.1)

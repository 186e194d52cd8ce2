-- Kinds of tokens told apart by numbers: whether two kinds are one, as `==` says it in the code.
use Rattle.std.specs.Prelude.{◌≡◌, ◌+◌, ◌-◌, ◌∷◌}
use Rattle.common.specs.Words.{ℕ, arith, Bool, true, false, not, true≢false, cond, List, [], inl, inr, ⊎_elim, refl, sym, ap, subst, ◌∙◌}
use Rattle.common.specs.Words.{get_or}
use Rattle.common.specs.Words.{eqb, ltb, eqb-true, eq-eqb, le-ltb}
use Rattle.common.specs.Tests.{true_or_false}
use Rattle.std.proofs.Math.Nat.{add-sub_cancel_left}
use Rattle.words.specs.declared.kinds.Kind.{Kind}
use Rattle.words.specs.contracts.kinds.Kind.{enum, as_values}
use Rattle.words.specs.contracts.kinds.KindPartialEq.TheImpl.{ghosts}
use Rattle.words.specs.contracts.kinds.KindEq.TheImpl.Laws.{laws-law}
use Rattle.words.specs.Words.{kinds, NAME, is_name}
use denote.Struct.Field.{Field}
use denote.Struct.Values.{Values}
use denote.Enum.Compared.{Each, by}
use denote.Enum.Declared.{Choice, values_one}

-- a number for each kind
abbrev pub mark : Kind → ℕ
mark Kind.Ended = 0x100
mark Kind.Number = 0x101
mark Kind.Becomes = 0x102
mark Kind.Adds = 0x103
mark Kind.Arrow = 0x104
mark Kind.Delaying = 0x105
mark Kind.BothWays = 0x106
mark Kind.Scope = 0x107
mark Kind.Dots = 0x108
mark (Kind.Sign b) = 0x300 + b
mark Kind.Abstract = 0x200
mark Kind.Access = 0x201
mark Kind.Annex = 0x202
mark Kind.And = 0x203
mark Kind.Applies = 0x204
mark Kind.Binding = 0x205
mark Kind.Bus = 0x206
mark Kind.Calls = 0x207
mark Kind.Classifier = 0x208
mark Kind.Compute = 0x209
mark Kind.Connections = 0x20a
mark Kind.Constant = 0x20b
mark Kind.Data = 0x20c
mark Kind.Delta = 0x20d
mark Kind.Device = 0x20e
mark Kind.End = 0x20f
mark Kind.Event = 0x210
mark Kind.Extends = 0x211
mark Kind.False = 0x212
mark Kind.Feature = 0x213
mark Kind.Features = 0x214
mark Kind.Flow = 0x215
mark Kind.Flows = 0x216
mark Kind.Group = 0x217
mark Kind.Implementation = 0x218
mark Kind.In = 0x219
mark Kind.Inherit = 0x21a
mark Kind.Initial = 0x21b
mark Kind.Inverse = 0x21c
mark Kind.Is = 0x21d
mark Kind.List = 0x21e
mark Kind.Memory = 0x21f
mark Kind.Mode = 0x220
mark Kind.Modes = 0x221
mark Kind.None = 0x222
mark Kind.Not = 0x223
mark Kind.Of = 0x224
mark Kind.Or = 0x225
mark Kind.Out = 0x226
mark Kind.Package = 0x227
mark Kind.Parameter = 0x228
mark Kind.Path = 0x229
mark Kind.Port = 0x22a
mark Kind.Private = 0x22b
mark Kind.Process = 0x22c
mark Kind.Processor = 0x22d
mark Kind.Properties = 0x22e
mark Kind.Property = 0x22f
mark Kind.Prototypes = 0x230
mark Kind.Provides = 0x231
mark Kind.Public = 0x232
mark Kind.Range = 0x233
mark Kind.Record = 0x234
mark Kind.Reference = 0x235
mark Kind.Refined = 0x236
mark Kind.Renames = 0x237
mark Kind.Requires = 0x238
mark Kind.SelfWord = 0x239
mark Kind.Set = 0x23a
mark Kind.Subcomponents = 0x23b
mark Kind.Subprogram = 0x23c
mark Kind.System = 0x23d
mark Kind.Thread = 0x23e
mark Kind.To = 0x23f
mark Kind.True = 0x240
mark Kind.Type = 0x241
mark Kind.Units = 0x242
mark Kind.Virtual = 0x243
mark Kind.With = 0x244
mark Kind.Period = 0x245
mark Kind.Deadline = 0x246
mark Kind.DispatchProtocol = 0x247
mark Kind.DispatchOffset = 0x248
mark Kind.Priority = 0x249
mark Kind.Timing = 0x24a
mark Kind.TimingProperties = 0x24b
mark Kind.ThreadProperties = 0x24c
mark Kind.CommunicationProperties = 0x24d
mark Kind.Ms = 0x24e
mark Kind.Sec = 0x24f
mark Kind.Periodic = 0x250
mark Kind.Delayed = 0x251
mark Kind.Name = 0x2ff

abbrev pub same_kind : Kind → Kind → Bool
same_kind a b = eqb (mark a) (mark b)

-- the kind of a number
tokens : List Kind
tokens =
    Kind.Ended ∷ Kind.Number ∷ Kind.Becomes ∷ Kind.Adds ∷ Kind.Arrow ∷ Kind.Delaying ∷ Kind.BothWays ∷ Kind.Scope ∷ Kind.Dots ∷ []

with_mark : ℕ → Kind
with_mark n =
    cond (ltb n 0x200) (get_or tokens (n - 0x100) NAME) (cond (ltb n 0x300) (get_or kinds (n - 0x200) NAME) (Kind.Sign (n - 0x300)))

sign_marked : (b : ℕ) → with_mark (0x300 + b) ≡ Kind.Sign b
unfolding with_mark
sign_marked b =
    let e : 0x300 + b - 0x300 ≡ b = add-sub_cancel_left 0x300 b in
    rw (le-ltb (0x300 + b) 0x200 (omega arith), le-ltb (0x300 + b) 0x300 (omega arith), e)

marked : (k : Kind) → with_mark (mark k) ≡ k
unfolding with_mark tokens kinds
marked Kind.Ended = refl
marked Kind.Number = refl
marked Kind.Becomes = refl
marked Kind.Adds = refl
marked Kind.Arrow = refl
marked Kind.Delaying = refl
marked Kind.BothWays = refl
marked Kind.Scope = refl
marked Kind.Dots = refl
marked (Kind.Sign b) = sign_marked b
marked Kind.Abstract = refl
marked Kind.Access = refl
marked Kind.Annex = refl
marked Kind.And = refl
marked Kind.Applies = refl
marked Kind.Binding = refl
marked Kind.Bus = refl
marked Kind.Calls = refl
marked Kind.Classifier = refl
marked Kind.Compute = refl
marked Kind.Connections = refl
marked Kind.Constant = refl
marked Kind.Data = refl
marked Kind.Delta = refl
marked Kind.Device = refl
marked Kind.End = refl
marked Kind.Event = refl
marked Kind.Extends = refl
marked Kind.False = refl
marked Kind.Feature = refl
marked Kind.Features = refl
marked Kind.Flow = refl
marked Kind.Flows = refl
marked Kind.Group = refl
marked Kind.Implementation = refl
marked Kind.In = refl
marked Kind.Inherit = refl
marked Kind.Initial = refl
marked Kind.Inverse = refl
marked Kind.Is = refl
marked Kind.List = refl
marked Kind.Memory = refl
marked Kind.Mode = refl
marked Kind.Modes = refl
marked Kind.None = refl
marked Kind.Not = refl
marked Kind.Of = refl
marked Kind.Or = refl
marked Kind.Out = refl
marked Kind.Package = refl
marked Kind.Parameter = refl
marked Kind.Path = refl
marked Kind.Port = refl
marked Kind.Private = refl
marked Kind.Process = refl
marked Kind.Processor = refl
marked Kind.Properties = refl
marked Kind.Property = refl
marked Kind.Prototypes = refl
marked Kind.Provides = refl
marked Kind.Public = refl
marked Kind.Range = refl
marked Kind.Record = refl
marked Kind.Reference = refl
marked Kind.Refined = refl
marked Kind.Renames = refl
marked Kind.Requires = refl
marked Kind.SelfWord = refl
marked Kind.Set = refl
marked Kind.Subcomponents = refl
marked Kind.Subprogram = refl
marked Kind.System = refl
marked Kind.Thread = refl
marked Kind.To = refl
marked Kind.True = refl
marked Kind.Type = refl
marked Kind.Units = refl
marked Kind.Virtual = refl
marked Kind.With = refl
marked Kind.Period = refl
marked Kind.Deadline = refl
marked Kind.DispatchProtocol = refl
marked Kind.DispatchOffset = refl
marked Kind.Priority = refl
marked Kind.Timing = refl
marked Kind.TimingProperties = refl
marked Kind.ThreadProperties = refl
marked Kind.CommunicationProperties = refl
marked Kind.Ms = refl
marked Kind.Sec = refl
marked Kind.Periodic = refl
marked Kind.Delayed = refl
marked Kind.Name = refl

-- kinds that are the same are one kind, and others are not
pub kind_is : (a b : Kind) → same_kind a b ≡ true → a ≡ b
kind_is a b h = sym (marked a) ∙ ap with_mark (eqb-true (mark a) (mark b) h) ∙ marked b

pub kind_same : (a b : Kind) → a ≡ b → same_kind a b ≡ true
kind_same a b e = eq-eqb (mark a) (mark b) (ap mark e)

pub kind_apart : (a b : Kind) → same_kind a b ≡ false → a ≡ b → ⊥
kind_apart a b h e = true≢false (sym (kind_same a b e) ∙ h)

pub kind_differs : (a b : Kind) → (a ≡ b → ⊥) → same_kind a b ≡ false
kind_differs a b n =
    ⊎_elim (λ (e : same_kind a b ≡ true). absurd (n (kind_is a b e))) (λ (e : same_kind a b ≡ false). e) (true_or_false (same_kind a b))

-- what is one kind is no other
pub kind_not : (a b c : Kind) → same_kind a b ≡ true → same_kind b c ≡ false → same_kind a c ≡ false
kind_not a b c h g = ap (λ (n : ℕ). eqb n (mark c)) (eqb-true (mark a) (mark b) h) ∙ g

-- a name is not the text's end
pub name_there : (k : Kind) → is_name k ≡ true → k ≡ Kind.Ended → ⊥
name_there k h e = true≢false (sym h ∙ ap is_name e)

pub name_real : (k : Kind) → is_name k ≡ true → same_kind k Kind.Ended ≡ false
name_real k h = kind_differs k Kind.Ended (name_there k h)

-- ## What `==` says

-- each test of two values' fields holds of equal ones alone
abbrev Exact : (Fss : List (List Field)) → Each Bool Fss → Type 0
Exact [] each = Unit {0}
Exact ([] ∷ Fss) each = Exact Fss each.1
Exact ((F ∷ Fs) ∷ Fss) each = ((x y : Values (F ∷ Fs)) → each.0 x y ≡ true → x ≡ y) × Exact Fss each.1

by_true : (Fss : List (List Field)) (each : Each Bool Fss) → Exact Fss each →
    (c d : Choice Fss) → by false false Fss each c d ≡ true → c ≡ d
by_true [] each x c d h = absurd c
by_true ([] ∷ Fss) each x (inl a) (inl b) h = refl
by_true ([] ∷ Fss) each x (inl a) (inr d) h = absurd (true≢false (sym h))
by_true ([] ∷ Fss) each x (inr c) (inl b) h = absurd (true≢false (sym h))
by_true ([] ∷ Fss) each x (inr c) (inr d) h = ap inr (by_true Fss each.1 x c d h)
by_true ((F ∷ Fs) ∷ Fss) each x (inl a) (inl b) h = ap inl (x.0 a b h)
by_true ((F ∷ Fs) ∷ Fss) each x (inl a) (inr d) h = absurd (true≢false (sym h))
by_true ((F ∷ Fs) ∷ Fss) each x (inr c) (inl b) h = absurd (true≢false (sym h))
by_true ((F ∷ Fs) ∷ Fss) each x (inr c) (inr d) h = ap inr (by_true Fss each.1 x.1 c d h)

eq_is : (a b : Kind) → ghosts.eq a b ≡ true → a ≡ b
eq_is a b h =
    values_one enum a b (by_true enum.parts _ (λ x y e. ap (λ (n : ℕ). (n, tt)) (eqb-true x.0 y.0 e), tt) (as_values a) (as_values b) h)

eq_same : (a b : Kind) → a ≡ b → ghosts.eq a b ≡ true
eq_same a b e = subst (λ (x : Kind). ghosts.eq x b ≡ true) (sym e) (laws-law.refl b)

-- what a test by `==`, or by `!=`, has answered
pub kind_eq : {t : Bool} (a b : Kind) → t ≡ ghosts.eq a b → same_kind a b ≡ t
kind_eq {t = true} a b h = kind_same a b (eq_is a b (sym h))
kind_eq {t = false} a b h = kind_differs a b (λ e. true≢false (sym (eq_same a b e) ∙ sym h))

turned : (t x : Bool) → t ≡ not x → not t ≡ x
turned true true h = sym h
turned true false h = refl
turned false true h = refl
turned false false h = sym h

pub kind_ne : {t : Bool} (a b : Kind) → t ≡ not (ghosts.eq a b) → same_kind a b ≡ not t
kind_ne {t = t} a b h = kind_eq {t = not t} a b (turned t (ghosts.eq a b) h)

-- the same of a kind that a call has given
pub told_eq : {t : Bool} {k a : Kind} (b : Kind) → k ≡ a → t ≡ ghosts.eq k b → same_kind a b ≡ t
told_eq {k = k} {a = a} b e h = ap (λ (x : Kind). same_kind x b) (sym e) ∙ kind_eq k b h

pub told_ne : {t : Bool} {k a : Kind} (b : Kind) → k ≡ a → t ≡ not (ghosts.eq k b) → same_kind a b ≡ not t
told_ne {k = k} {a = a} b e h = ap (λ (x : Kind). same_kind x b) (sym e) ∙ kind_ne k b h

-- AADL.md, section 1: the reserved words, and the words that are names with a meaning of their own (section 4).
use Rattle.std.specs.Prelude.{◌+◌, ◌∷◌, ◌++◌}
use Rattle.common.specs.Words.{ℕ, Bool, true, false, cond, List, [], get_or}
use Rattle.words.specs.Letters.{letters, words_by, same}
use Rattle.words.specs.declared.kinds.Kind.{Kind}

-- "Reserved words", and behind them the names that section 4 knows
unfoldable pub listed : List (List ℕ)
unfolding words_by
listed = words_by [] (letters "abstract access annex and applies binding bus calls classifier compute connections constant data delta device "
    ++ (letters "end event extends false feature features flow flows group implementation in inherit initial inverse is list memory mode "
    ++ (letters "modes none not of or out package parameter path port private process processor properties property prototypes provides "
    ++ (letters "public range record reference refined renames requires self set subcomponents subprogram system thread to true type "
    ++ (letters "units virtual with period deadline dispatch_protocol dispatch_offset priority timing timing_properties "
    ++ letters "thread_properties communication_properties ms sec periodic delayed")))))

-- a word's number in a list whose first has the number k
unfoldable pub rank : List (List ℕ) → ℕ → ℕ → List ℕ → ℕ
rank [] k other w = other
rank (v ∷ vs) k other w = let next = rank vs (k + 1) other w in cond (same v w) k next

-- the kinds of the words, one for each
unfoldable pub kinds : List Kind
kinds =
    Kind.Abstract ∷ Kind.Access ∷ Kind.Annex ∷ Kind.And ∷ Kind.Applies ∷ Kind.Binding ∷ Kind.Bus ∷ Kind.Calls ∷ Kind.Classifier ∷
    Kind.Compute ∷ Kind.Connections ∷ Kind.Constant ∷ Kind.Data ∷ Kind.Delta ∷ Kind.Device ∷ Kind.End ∷ Kind.Event ∷
    Kind.Extends ∷ Kind.False ∷ Kind.Feature ∷ Kind.Features ∷ Kind.Flow ∷ Kind.Flows ∷ Kind.Group ∷ Kind.Implementation ∷
    Kind.In ∷ Kind.Inherit ∷ Kind.Initial ∷ Kind.Inverse ∷ Kind.Is ∷ Kind.List ∷ Kind.Memory ∷ Kind.Mode ∷ Kind.Modes ∷
    Kind.None ∷ Kind.Not ∷ Kind.Of ∷ Kind.Or ∷ Kind.Out ∷ Kind.Package ∷ Kind.Parameter ∷ Kind.Path ∷ Kind.Port ∷ Kind.Private ∷
    Kind.Process ∷ Kind.Processor ∷ Kind.Properties ∷ Kind.Property ∷ Kind.Prototypes ∷ Kind.Provides ∷ Kind.Public ∷ Kind.Range ∷
    Kind.Record ∷ Kind.Reference ∷ Kind.Refined ∷ Kind.Renames ∷ Kind.Requires ∷ Kind.SelfWord ∷ Kind.Set ∷ Kind.Subcomponents ∷
    Kind.Subprogram ∷ Kind.System ∷ Kind.Thread ∷ Kind.To ∷ Kind.True ∷ Kind.Type ∷ Kind.Units ∷ Kind.Virtual ∷ Kind.With ∷
    Kind.Period ∷ Kind.Deadline ∷ Kind.DispatchProtocol ∷ Kind.DispatchOffset ∷ Kind.Priority ∷ Kind.Timing ∷ Kind.TimingProperties ∷
    Kind.ThreadProperties ∷ Kind.CommunicationProperties ∷ Kind.Ms ∷ Kind.Sec ∷ Kind.Periodic ∷ Kind.Delayed ∷ []

-- the kind of a name that does not stand in the list
abbrev pub NAME : Kind
NAME = Kind.Name

unfoldable pub kind_of : List ℕ → Kind
kind_of w = get_or kinds (rank listed 0 82 w) NAME

-- "A reserved word is no NAME"
abbrev pub is_name : Kind → Bool
is_name Kind.Period = true
is_name Kind.Deadline = true
is_name Kind.DispatchProtocol = true
is_name Kind.DispatchOffset = true
is_name Kind.Priority = true
is_name Kind.Timing = true
is_name Kind.TimingProperties = true
is_name Kind.ThreadProperties = true
is_name Kind.CommunicationProperties = true
is_name Kind.Ms = true
is_name Kind.Sec = true
is_name Kind.Periodic = true
is_name Kind.Delayed = true
is_name Kind.Name = true
is_name _ = false

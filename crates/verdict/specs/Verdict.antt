-- AADL.md, section 6, the table: what a text that was read to its end is judged by. Each row that was declared has its faults; the place
-- of each is the one that the table names.
use Rattle.std.specs.Prelude.{◌-◌, ◌&&◌, ◌∷◌, ◌++◌}
use Rattle.common.specs.Words.{ℕ, zero, suc, Bool, true, not, cond, List, [], eqb, length, get_or}
use Rattle.keys.specs.Keys.{key}
use Rattle.steps.specs.declared.faults.Rule.{Rule}
use Rattle.steps.specs.declared.faults.Rule.TheVariants.{Unfit, Unknown, Twice}
use Rattle.steps.specs.declared.faults.Why.{Why}
use Rattle.steps.specs.declared.faults.Fault.{Fault}
use Rattle.steps.specs.Faults.{fault}
use Rattle.rows.specs.Rows.{Row, a_process, a_thread, a_link}
use Rattle.index.specs.Index.{key_by}
use Rattle.index.specs.Index.{cell}
use Rattle.ways.specs.Ways.{look, above, implementation_of, thread_named, property_of, port_of, ends_of}

-- what is wrong, for people
abbrev pub no_process : Why
no_process = Why.NoProcess

abbrev pub declared_before : Why
declared_before = Why.DeclaredBefore

abbrev pub no_such_type : Why
no_such_type = Why.NoSuchType

abbrev pub no_period : Why
no_period = Why.NoPeriod

abbrev pub not_periodic : Why
not_periodic = Why.NotPeriodic

abbrev pub has_offset : Why
has_offset = Why.HasOffset

abbrev pub no_such_thread : Why
no_such_thread = Why.NoSuchThread

abbrev pub connected_before : Why
connected_before = Why.ConnectedBefore

abbrev pub no_such_port : Why
no_such_port = Why.NoSuchPort

abbrev pub wrong_direction : Why
wrong_direction = Why.WrongDirection

abbrev pub not_delayed : Why
not_delayed = Why.NotDelayed

-- a fault, where something is the case
abbrev pub fault_if : Bool → Rule → ℕ → Why → List Fault
fault_if wrong rule place why = cond wrong (fault rule place why ∷ []) []

abbrev pub none : ℕ → Bool
none n = eqb n 0

-- the directions of a port, and what a property says that is not the one wanted: Periodic, Delayed
abbrev pub only_in : ℕ
only_in = 1

abbrev pub only_out : ℕ
only_out = 2

abbrev pub right : ℕ
right = 1

abbrev pub wrong : ℕ
wrong = 2

-- "the first": a row's number is that of the first row with its key
abbrev pub is_first : List ℕ → ℕ → List Row → ℕ → Bool
is_first p role rows k = eqb (look p role rows (key_by role (get_or rows k []))) (suc k)

-- 20 at its "process": a second process implementation; at the second's NAME: a thread type, .. "that was declared before". A connection
-- without a NAME has place 0 for it
unfoldable pub again_faults : List ℕ → List Row → ℕ → List Fault
again_faults p rows k = fault_if (not (none (cell rows k 2)) && not (is_first p 0 rows k)) Unfit (cell rows k 2) declared_before

-- 21 at "the classifier's type NAME": "neither its type nor the implementation that it names stands in the text"; 20 at "the thread's
-- NAME": "no Period; a Dispatch_Protocol other than Periodic; a Dispatch_Offset"
unfoldable pub thread_faults : List ℕ → List Row → ℕ → List Fault
thread_faults p rows k =
    fault_if (none (above p rows k) && none (implementation_of p rows k)) Unknown (cell rows k 3) no_such_type
    ++ fault_if (none (property_of p rows k 5)) Unfit (cell rows k 2) no_period
    ++ fault_if (eqb (property_of p rows k 7) wrong) Unfit (cell rows k 2) not_periodic
    ++ fault_if (not (none (property_of p rows k 8))) Unfit (cell rows k 2) has_offset

-- "A connection's Timing: from its block; else Delayed where its arrow is `->>`; else from its output port"
abbrev pub timing_by : List Row → ℕ → ℕ → ℕ
timing_by rows k port = cond (none (cell rows k 8)) (cell rows (port - 1) 4) (cell rows k 8)

-- 21 at "the port's NAME in the connection": "An output port that is not found is 21, and the Timing is then not judged"; 20: "an output
-- port that is not out or in out, or a Timing that is not Delayed or not there". The port's number is given
unfoldable pub out_faults : List Row → ℕ → ℕ → List Fault
out_faults rows k port =
    cond (none port) (fault_if true Unknown (cell rows k 5) no_such_port)
    (fault_if (eqb (cell rows (port - 1) 3) only_in) Unfit (cell rows k 5) wrong_direction
    ++ fault_if (not (eqb (timing_by rows k port) right)) Unfit (cell rows k 5) not_delayed)

-- "An input port that is not found is 21 if every type on the way stands in the text and the way ends within the 8"; 20: "an input port
-- that is not in or in out"
unfoldable pub in_faults : List Row → ℕ → ℕ → Bool → List Fault
in_faults rows k port ends =
    cond (none port) (fault_if ends Unknown (cell rows k 7) no_such_port)
    (fault_if (eqb (cell rows (port - 1) 3) only_out) Unfit (cell rows k 7) wrong_direction)

-- 24 at "the connection's first token": "its sending thread and its receiving port are an earlier connection's"
unfoldable pub twice_faults : List ℕ → List Row → ℕ → List Fault
twice_faults p rows k = fault_if (not (is_first p 1 rows k)) Twice (cell rows k 3) connected_before

-- of a connection between threads that are both there, by their rows
unfoldable pub join_faults : List ℕ → List Row → ℕ → ℕ → ℕ → List Fault
join_faults p rows k sender receiver =
    twice_faults p rows k
    ++ out_faults rows k (port_of p rows sender (cell rows k 5))
    ++ in_faults rows k (port_of p rows receiver (cell rows k 7)) (ends_of p rows receiver)

-- 21 at "the thread's NAME in the connection": "no such thread". "Of a connection with an unknown thread only its name and its threads are
-- judged, not its ports, nor 24". The threads' numbers are given
unfoldable pub end_faults : List ℕ → List Row → ℕ → ℕ → ℕ → List Fault
end_faults p rows k sender receiver =
    fault_if (none sender) Unknown (cell rows k 4) no_such_thread
    ++ fault_if (none receiver) Unknown (cell rows k 6) no_such_thread
    ++ cond (none sender) [] (cond (none receiver) [] (join_faults p rows k (sender - 1) (receiver - 1)))

unfoldable pub link_faults : List ℕ → List Row → ℕ → List Fault
link_faults p rows k = end_faults p rows k (thread_named p rows (cell rows k 1) (cell rows k 4)) (thread_named p rows (cell rows k 1) (cell rows k 6))

unfoldable pub row_faults : List ℕ → List Row → ℕ → List Fault
row_faults p rows k =
    again_faults p rows k ++ cond (eqb (cell rows k 0) a_thread) (thread_faults p rows k)
    (cond (eqb (cell rows k 0) a_link) (link_faults p rows k) [])

-- those of the first n rows
unfoldable pub faults_below : List ℕ → List Row → ℕ → List Fault
faults_below p rows zero = []
faults_below p rows (suc n) = faults_below p rows n ++ row_faults p rows n

-- 20 at the text's end: "no process implementation"
unfoldable pub process_faults : List ℕ → List Row → List Fault
process_faults p rows = fault_if (none (look p 0 rows (key a_process 0 0 0 0))) Unfit (length p) no_process

unfoldable pub judged : List ℕ → List Row → List Fault
judged p rows = process_faults p rows ++ faults_below p rows (length rows)

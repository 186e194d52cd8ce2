-- AADL.md, section 2: connections of a process implementation.
use Rattle.words.specs.Same.{same_kind}
use Rattle.words.specs.declared.kinds.Kind.{Kind}
use Rattle.std.specs.Prelude.{◌&&◌, ◌≡◌}
use Rattle.common.specs.Words.{ℕ, Bool, true, false, cond, List, eqb, get_or}
use Rattle.words.specs.Words.{is_name}
use Rattle.words.specs.Kinds.{DOT, SEMICOLON, DELAYING, DATA, ACCESS, BUS, VIRTUAL, SUBPROGRAM, FEATURE, PARAMETER, PORT, EVENT}
use Rattle.steps.specs.Steps.{Step, On, ◌⟫◌, head, next, second, the, name}
use Rattle.steps.specs.Lifted.{lift, first, first_kind}
use Rattle.links.specs.declared.Ends.{Ends}
use Rattle.phrases.specs.Phrases.{link_kind, place, arrow, maybe_label, word_and_rest}
use Rattle.rows.specs.Rows.{Row, link_row}
use Rattle.rows.specs.Said.{Rule, quiet, ◌⨟◌, optionally, repeat, put, apart}
use Rattle.properties.specs.Properties.{of_port, timing, maybe_block_in}

-- where a port connection's ends begin, where its arrow stands, and where it goes on behind them
abbrev pub sending : Step → Step
sending s = s ⟫ link_kind

abbrev pub pointing : Step → Step
pointing s = s ⟫ link_kind ⟫ place

abbrev pub receiving : Step → Step
receiving s = s ⟫ link_kind ⟫ place ⟫ arrow

unfoldable pub ends : Step → Step
ends s = s ⟫ link_kind ⟫ place ⟫ arrow ⟫ place

-- the port's NAME of an end, and whether it has one: "between threads where both its places have a point"
abbrev pub port_in : Step → ℕ
port_in s = (first (s ⟫ name ⟫ the DOT)).start

abbrev pub pointed : Step → Bool
pointed s = same_kind (first_kind (s ⟫ name)) DOT

-- "A connection's Timing: from its block; else Delayed where its arrow is `->>`": 1 Delayed, 2 another, 0 not said here
unfoldable pub timing_by : ℕ → Bool → ℕ
timing_by in_block delayed = cond (eqb in_block 0) (cond delayed 1 0) in_block

abbrev pub linked : ℕ → ℕ → ℕ → Step → List ℕ → Row
linked process start n s qs =
    link_row process n start (first (sending s)).start (port_in (sending s)) (first (receiving s)).start (port_in (receiving s))
    (timing_by (get_or qs timing 0) (same_kind (first_kind (pointing s)) DELAYING))

-- "any other is passed over"
unfoldable pub declared : ℕ → ℕ → ℕ → Step → Rule
declared process start n s = optionally (λ us. pointed (sending s) && pointed (receiving s)) (put (linked process start n s))

-- port_kind place ( "->" | "->>" ) place [ block ] ";"
unfoldable pub link : ℕ → ℕ → ℕ → Rule
link process start n ps ts = quiet (λ us. ends (On us)) ps ts ⨟ maybe_block_in of_port ⨟ quiet (the SEMICOLON) ⨟ declared process start n
    (On ts)

-- other_kind = "data" "access" | "bus" | "virtual" | "subprogram" | "feature" | "parameter", by its first two words
unfoldable pub other_kind : Kind → Kind → Bool
other_kind k l =
    cond (same_kind k DATA) (same_kind l ACCESS)
    (cond (same_kind k BUS) true
    (cond (same_kind k VIRTUAL) true
    (cond (same_kind k SUBPROGRAM) true
    (cond (same_kind k FEATURE) true
    (cond (same_kind k PARAMETER) true false)))))

-- connection = [ NAME ":" ] ( port_kind .. ";" | other_kind rest )
unfoldable pub connection_of : ℕ → ℕ → ℕ → Rule
connection_of process start n ps ts =
    let between = apart (link process start n) ps ts in cond (other_kind (next ts) (second ts)) (quiet word_and_rest ps ts) between

unfoldable pub label_in : Step → ℕ
label_in s = cond (is_name (first_kind s)) (first s).start 0

unfoldable pub connection : ℕ → Rule
connection process ps ts = quiet maybe_label ps ts ⨟ connection_of process (head ts).start (label_in (On ts))

-- what a connection may begin with
unfoldable pub connection_kind : Kind → Bool
connection_kind k =
    cond (same_kind k PORT) true
    (cond (same_kind k EVENT) true
    (cond (same_kind k DATA) true
    (cond (same_kind k BUS) true
    (cond (same_kind k VIRTUAL) true
    (cond (same_kind k SUBPROGRAM) true
    (cond (same_kind k FEATURE) true
    (cond (same_kind k PARAMETER) true (is_name k))))))))

-- { connection }
unfoldable pub connections : ℕ → Rule
connections process = repeat (λ ts. connection_kind (next ts)) (connection process)

-- the ends of a port connection as the code knows them
pub record EndsAt (p : List ℕ) (s : Step) (r : Ends) : Type 0 where
  pub went : lift p r.went ≡ ends s
  pub sender : r.sender ≡ (first (sending s)).start
  pub out : r.out ≡ port_in (sending s)
  pub receiver : r.receiver ≡ (first (receiving s)).start
  pub into : r.into ≡ port_in (receiving s)
  pub both : r.pointed ≡ (pointed (sending s) && pointed (receiving s))
  pub delayed : r.delayed ≡ same_kind (first_kind (pointing s)) DELAYING

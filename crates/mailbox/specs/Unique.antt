-- Uniqueness: two outcomes of a call that both meet its contract are the same. Each `..Gives` is the contract itself, of what a call hands
-- back and of the memory after it.
use Rattle.std.specs.Prelude.{◌≡◌}
use Rattle.common.specs.Words.{List, sym, ◌∙◌, ℕ}
use Rattle.mailbox.specs.Types.{Plan, State, Starting, Sending, Receiving}
use Rattle.mailbox.specs.Calls.{StartGives, SendGives, ReceiveGives}

one : {A : Type 0} {x y z : A} → x ≡ z → y ≡ z → x ≡ y
one a b = a ∙ sym b

pub start_unique : (p : Plan) (m : List ℕ) (r r' : Starting) (memory memory' : List ℕ) →
    StartGives p m r memory → StartGives p m r' memory' → (r ≡ r') × (memory ≡ memory')
start_unique p m r r' memory memory' a b = (one a.0 b.0, one a.1 b.1)

pub send_unique : (s : State) (p : Plan) (m : List ℕ) (q i t : ℕ) (payload : List ℕ) (r r' : Sending) (memory memory' : List ℕ) →
    SendGives s p m q i t payload r memory → SendGives s p m q i t payload r' memory' → (r ≡ r') × (memory ≡ memory')
send_unique s p m q i t payload r r' memory memory' a b = (one a.0 b.0, one a.1 b.1)

pub receive_unique : (s : State) (p : Plan) (m : List ℕ) (q t : ℕ) (r r' : Receiving) →
    ReceiveGives s p m q t r → ReceiveGives s p m q t r' → r ≡ r'
receive_unique s p m q t r r' a b = one a b

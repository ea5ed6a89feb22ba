-- What one octet does to a message, and when it is taken.
use Rattle.octets.specs.Prelude.{◌≡◌, refl, List, [], ◌∷◌, true, false, ℕ, suc, ◌-◌, ◌≤◌, ◌<◌, add-one, set, lt-ltb, le-ltb}
use Rattle.messages.specs.Wire.{header_size}
use Rattle.ring.specs.Reading.{whole, with_octet, received, Message}

-- the message with these parts
abbrev pub parts : List ℕ → List ℕ → ℕ → Message
parts header payload taken = record { header = header; payload = payload; taken = taken }

-- one octet into the header, or into the payload
pub with-header : (m : Message) (x : ℕ) → m.taken < header_size
    → with_octet m x ≡ parts (set m.header m.taken x) m.payload (suc m.taken)
unfolding with_octet
with-header m x h = rw (lt-ltb m.taken header_size h, add-one m.taken) refl

pub with-payload : (m : Message) (x : ℕ) → header_size ≤ m.taken
    → with_octet m x ≡ parts m.header (set m.payload (m.taken - header_size) x) (suc m.taken)
unfolding with_octet
with-payload m x h = rw (le-ltb m.taken header_size h, add-one m.taken) refl

pub received_none : (m : Message) → received [] m ≡ m
unfolding received
received_none m = refl

-- a message that is not whole takes the first octet
pub received-next : (x : ℕ) (xs : List ℕ) (m : Message) → whole m ≡ false → received (x ∷ xs) m ≡ received xs (with_octet m x)
unfolding received
received-next x xs m w = rw w refl

-- a whole message takes no octet
pub received-whole : (xs : List ℕ) (m : Message) → whole m ≡ true → received xs m ≡ m
unfolding received
received-whole [] m w = refl
received-whole (x ∷ xs) m w = rw w refl

-- What readers ask of the packet question, over the definitions alone.
use Rattle.octets.specs.Prelude.{◌≡◌, refl, sym, ap, ◌∙◌, List, ◌++◌, Bool, true, false, cond, ℕ, ◌%◌, ◌≤◌, ◌<◌, mod-lt, arith, length, get_or}
use Rattle.toeplitz.specs.Hash.{published_hash}
use Rattle.packet.specs.Packets.{PacketType, no_type, hash_type, is_ipv4, is_fragment, kind_of, input_of, ipv4_source, ipv4_destination}
use Rattle.packet.proofs.Fragments.{fragment-plain, addresses-input}
use Rattle.steering.specs.Steering.{is_set, plain_type, type_used, queue_of, Choice, unhashed, hashed, queue_in, hashed_to}
use Rattle.steering.specs.Steering.{chosen, steered, choice_of}
use Rattle.toeplitz.specs.declared.HashType.{HashType}
use Rattle.toeplitz.proofs.Types.{type-named, type-named-back}
use Rattle.steering.specs.declared.Steered.{Steered}
use Rattle.steering.specs.declared.Steered.TheVariants.{NoType, Hashed}

-- a queue chosen is below q, where each entry of the table is
pub queue-below : (flags : ℕ) (key table packet : List ℕ) (q : ℕ) → 1 ≤ q → 1 ≤ length table → ((i : ℕ) → i < length table → get_or table i 0 < q)
    → queue_in (steered flags key table packet) < q
unfolding chosen queue_of
queue-below flags key table packet q some entry each = below (type_used flags (kind_of packet))
  where
    below : (k : PacketType) → queue_in (chosen key table packet k) < q
    below no_type = some
    below (hash_type t) =
        let hash = published_hash key (input_of t packet) in
        each (hash % length table) (mod-lt hash entry)

-- a type is used only where its flag is set
pub used-is-set : (flags t : ℕ) (k : PacketType) → type_used flags k ≡ hash_type t → is_set flags t ≡ true
unfolding type_used
used-is-set flags t no_type e = let z : ◌≡◌ {A = ℕ} 0 1 = cc in absurd (omega arith)
used-is-set flags t (hash_type u) e = by (is_set flags u) (is_set flags (plain_type u)) refl refl e
  where
    by : (a b : Bool) → is_set flags u ≡ a → is_set flags (plain_type u) ≡ b
        → cond a (hash_type u) (cond b (hash_type (plain_type u)) no_type) ≡ hash_type t → is_set flags t ≡ true
    by true b p q h = let same : u ≡ t = cc in rw (← same) p
    by false true p q h = let same : plain_type u ≡ t = cc in rw (← same) q
    by false false p q h = let z : ◌≡◌ {A = ℕ} 0 1 = cc in absurd (omega arith)

-- the hash answered is the published hash of the input of the type answered, and the queue is the entry at that hash
pub answered-together : (flags : ℕ) (key table packet : List ℕ) (t hash queue : ℕ) → steered flags key table packet ≡ hashed t hash queue
    → (type_used flags (kind_of packet) ≡ hash_type t) × (hash ≡ published_hash key (input_of t packet)) × (queue ≡ queue_of table hash)
unfolding chosen
answered-together flags key table packet t hash queue e = together (type_used flags (kind_of packet)) e
  where
    together : (k : PacketType) → chosen key table packet k ≡ hashed t hash queue
        → (k ≡ hash_type t) × (hash ≡ published_hash key (input_of t packet)) × (queue ≡ queue_of table hash)
    together no_type h = let z : ◌≡◌ {A = ℕ} 0 1 = cc in absurd (omega arith)
    together (hash_type u) h = (cc, cc, cc)

-- the answer for a fragment of an IPv4 datagram is settled by its addresses: its type is the plain one, or none
fragment-answer : (flags : ℕ) (key table p : List ℕ) → is_ipv4 p ≡ true → is_fragment p ≡ true
    → steered flags key table p ≡ cond (is_set flags 0) (hashed_to 0 (published_hash key (ipv4_source p ++ ipv4_destination p)) table) (unhashed 0)
unfolding type_used chosen
fragment-answer flags key table p four fragment = rw (fragment-plain p four fragment, ← addresses-input p) (by (is_set flags 0))
  where
    by : (s : Bool) → chosen key table p (cond s (hash_type 0) (cond s (hash_type 0) no_type))
        ≡ cond s (hashed_to 0 (published_hash key (input_of 0 p)) table) (unhashed 0)
    by true = refl
    by false = refl

-- fragments with the same source and destination get the same type, hash and queue, whatever else is in them
pub fragments-together : (flags : ℕ) (key table p q : List ℕ) → is_ipv4 p ≡ true → is_fragment p ≡ true → is_ipv4 q ≡ true → is_fragment q ≡ true
    → ipv4_source p ≡ ipv4_source q → ipv4_destination p ≡ ipv4_destination q → steered flags key table p ≡ steered flags key table q
fragments-together flags key table p q four fragment four' fragment' source destination =
    fragment-answer flags key table p four fragment ∙ rw (source, destination) (sym (fragment-answer flags key table q four' fragment'))

-- the reading of an answer keeps answers apart, so the contract leaves no choice
answer-of : Choice → Steered
answer-of (unhashed queue) = NoType queue
answer-of (hashed t hash queue) = Hashed (type-named t) hash queue

answer_back : (r : Steered) → answer-of (choice_of r) ≡ r
unfolding answer-of
answer_back (NoType queue) = refl
answer_back (Hashed t hash queue) = ap (λ (u : HashType). Hashed u hash queue) (type-named-back t)

pub steered-determined : (r s : Steered) → choice_of r ≡ choice_of s → r ≡ s
steered-determined r s e = sym (answer_back r) ∙ ap answer-of e ∙ answer_back s

-- The octets that are read of the present message.
use Rattle.octets.specs.Prelude.{◌≡◌, sym, ap, ap₂, ◌∙◌, List, ◌++◌, false, ℕ, ◌-◌, ◌≤◌, arith, length, length-append}
use Rattle.page.specs.Page.{area_size, requests_at, less, advanced, octets_in}
use Rattle.ring.specs.Reading.{received, received_from}
use Rattle.ring.specs.Streams.{begins_whole, present_part, Holding}
use Rattle.page.proofs.Places.{octets-length, octets-take}
use Rattle.ring.proofs.Sides.{less-advanced}
use Rattle.ring.proofs.Holdings.{holding-received, present-most, present-prefix}
use Rattle.interface.specs.States.{Good, HostState}
use Rattle.interface.specs.Events.{read_in}

-- the octets read on the way from s to t
abbrev pub read_to : HostState → List ℕ → HostState → List ℕ
read_to s page t = octets_in requests_at page s.incoming.cons (less t.incoming.cons s.incoming.cons)

-- of n octets in the area, where `present` is held of the message so far
module _ (s : HostState) (page : List ℕ) (n : ℕ) (present : List ℕ) (good : Good s) where
  module _ (held : Holding s.incoming.message present) (part : begins_whole present ≡ false) (most : n ≤ area_size) where
    abbrev fresh : List ℕ
    fresh = octets_in requests_at page s.incoming.cons n

    pub read_held : Holding (read_in s page n).incoming.message (present_part (present ++ fresh))
    unfolding read_in received_from
    read_held = holding-received fresh s.incoming.message present held part

    -- as many octets are read as the present message then has more
    abbrev more : ℕ
    more = length (present_part (present ++ fresh)) - length present

    more-most : more ≤ n
    more-most =
        let size : length fresh ≡ n = octets-length requests_at page s.incoming.cons n in
        omega (arith, present-most (present ++ fresh), length-append present fresh)

    read_count : less (read_in s page n).incoming.cons s.incoming.cons ≡ more
    unfolding read_in received_from
    read_count =
        let c = s.incoming.cons in
        let count : (received fresh s.incoming.message).taken - s.incoming.message.taken ≡ more =
        ap₂ (λ (a b : ℕ). a - b) read_held.count held.count in
        ap (λ (k : ℕ). less (advanced c k) c) count ∙ less-advanced c more good.incoming.count (omega (arith, more-most))

    -- and with them the message is what the stream has of it
    pub read-octets : present ++ read_to s page (read_in s page n) ≡ present_part (present ++ fresh)
    read-octets =
        rw (read_count, ← (octets-take requests_at page s.incoming.cons more n more-most)) (sym (present-prefix present fresh part))

-- The fields of a guest stored at their places: what is then held is its state with those values.
use Rattle.octets.specs.Prelude.{◌≡◌, refl, ap, ℕ}
use Rattle.ring.specs.Writing.{outgoing_of}
use Rattle.guest_steps.specs.declared.Guest.{Guest}
use Rattle.guest_steps.specs.Guest.{outstanding, guest_of, state_of, with_outgoing}

module _ (g : Guest) where
  -- octets of the request written and own req_prod
  pub stored-outgoing : (written prod : ℕ)
      → state_of (record g { outgoing = record g.outgoing { written = written; prod = prod } })
      ≡ with_outgoing (state_of g) (outgoing_of g.request g.outgoing.length written prod)
  stored-outgoing written prod = refl

  -- a request of n octets outstanding, of which nothing is written
  pub stored-begun : (n : ℕ)
      → state_of (record g { phase = outstanding; outgoing = record g.outgoing { length = n; written = 0 } })
      ≡ guest_of outstanding g.request n 0 g.outgoing.prod g.header g.payload g.incoming.taken g.incoming.cons
  stored-begun n = refl

  -- phase, octets taken of the ack and own rsp_cons, put into their places
  pub stored-kept : (phase taken cons : ℕ) (g' : Guest)
      → g' ≡ record g { phase = phase; incoming = record { taken = taken; cons = cons } }
      → state_of g'
      ≡ guest_of phase g.request g.outgoing.length g.outgoing.written g.outgoing.prod g.header g.payload taken cons
  stored-kept phase taken cons g' keeps = ap state_of keeps

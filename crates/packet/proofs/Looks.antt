-- What is told of a packet that has passed the tests of a kind.
use Rattle.octets.specs.Prelude.{◌≡◌, refl, List, true, false, not, ℕ}
use Rattle.packet.specs.Packets.{is_ipv4, is_ipv6, is_tcp, is_fragment, is_ipv4_tcp, kind_of, none, typed, look_at}

module _ (p : List ℕ) where
  -- with octet 9 and the length of TCP, a packet is TCP unless it is a fragment
  pub tcp-unless-fragment : is_tcp 9 24 p ≡ true → not (is_fragment p) ≡ is_ipv4_tcp p
  unfolding is_ipv4_tcp
  tcp-unless-fragment tcp = rw tcp refl

  pub not-tcp : is_tcp 9 24 p ≡ false → false ≡ is_ipv4_tcp p
  unfolding is_ipv4_tcp
  not-tcp plain = rw plain refl

  pub found-ipv4-tcp : is_ipv4 p ≡ true → is_ipv4_tcp p ≡ true → typed 1 12 20 24 ≡ look_at (kind_of p)
  unfolding kind_of look_at
  found-ipv4-tcp four tcp = rw (four, tcp) refl

  pub found-ipv4 : is_ipv4 p ≡ true → is_ipv4_tcp p ≡ false → typed 0 12 20 20 ≡ look_at (kind_of p)
  unfolding kind_of look_at
  found-ipv4 four plain = rw (four, plain) refl

  pub found-ipv6-tcp : is_ipv4 p ≡ false → is_ipv6 p ≡ true → is_tcp 6 44 p ≡ true → typed 3 8 40 44 ≡ look_at (kind_of p)
  unfolding kind_of look_at
  found-ipv6-tcp not-four six tcp = rw (not-four, six, tcp) refl

  pub found-ipv6 : is_ipv4 p ≡ false → is_ipv6 p ≡ true → is_tcp 6 44 p ≡ false → typed 2 8 40 40 ≡ look_at (kind_of p)
  unfolding kind_of look_at
  found-ipv6 not-four six plain = rw (not-four, six, plain) refl

  pub found_none : is_ipv4 p ≡ false → is_ipv6 p ≡ false → none ≡ look_at (kind_of p)
  unfolding kind_of look_at
  found_none not-four not-six = rw (not-four, not-six) refl

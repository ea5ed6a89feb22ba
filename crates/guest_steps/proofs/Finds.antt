-- What a call finds on a page with good counts, by whether an ack was refused.
use Rattle.octets.specs.Prelude.{◌≡◌, refl, List, ℕ, ◌-◌, ◌≤◌, length, eq-eqb, ne_eqb, le-leb}
use Rattle.octets.specs.Outcome.{value, refused}
use Rattle.page.specs.Page.{page_size, area_size}
use Rattle.guest_messages.specs.Refusals.{not_an_ack}
use Rattle.guest_steps.specs.Guest.{GuestState, failed}
use Rattle.guest_steps.specs.Calls.{unread_requests, unread_acks, found}

module _ (g : GuestState) (page : List ℕ) where
  module _ (n : ℕ) (size : length page ≡ page_size) (requests : n ≡ unread_requests g page) where
    module _ (m : ℕ) (few : n ≤ area_size) (acks : m ≡ unread_acks g page) where
      pub found-failed : m ≤ area_size → g.phase ≡ failed → refused not_an_ack ≡ found g page
      unfolding found
      found-failed some p = rw (eq-eqb _ _ size, ← requests, le-leb _ _ few, ← acks, le-leb _ _ some, eq-eqb _ _ p) refl

      pub found-counts : m ≤ area_size → (g.phase ≡ failed → ⊥) → value (record { room = area_size - n; unread = m }) ≡ found g page
      unfolding found
      found-counts some p = rw (eq-eqb _ _ size, ← requests, le-leb _ _ few, ← acks, le-leb _ _ some, ne_eqb _ _ p) refl

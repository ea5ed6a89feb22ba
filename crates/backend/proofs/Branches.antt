-- The ways that an event can go, each with what is known there.
use Rattle.octets.specs.Prelude.{◌≡◌, List, true, false, ℕ}
use Rattle.octets.proofs.Truth.{by-test}
use Rattle.page.proofs.Tests.{RefusedBy, by_tests}
use Rattle.ring.specs.Reading.{whole}
use Rattle.interface.specs.States.{HostState}
use Rattle.interface.specs.Events.{After, waiting, unread, unread_acks, refused_with, answered_with, owes, responded, carried_over, after_read}
use Rattle.interface.specs.Events.{proceeded, event_of}
use Rattle.backend.specs.Rules.{Accepted, room, after_reading}

-- a refusal by 3, 4 or 5
abbrev pub Stopped : HostState → List ℕ → ℕ → Type 0
Stopped s page k = RefusedBy page (unread s page) (unread_acks s page) k

module _ (s : HostState) (page : List ℕ) (P : After → Type 0) where
  pub proceeded-cases :
      (owes s ≡ true → P (responded s page (room s page)))
      → (owes s ≡ false → whole (after_reading s page).incoming.message ≡ false → P (answered_with waiting (after_reading s page) page))
      → (owes s ≡ false → whole (after_reading s page).incoming.message ≡ true
      → P (responded (carried_over (after_reading s page)) page (room s page)))
      → P (proceeded s page (unread s page) (room s page))
  unfolding proceeded after_read
  proceeded-cases owing part all =
      by-test P (owes s) _ _ owing (λ idle. by-test P (whole (after_reading s page).incoming.message) _ _ (all idle) (part idle))

  -- refused by 3, 4 or 5, or accepted
  pub event-ways : ((k : ℕ) → Stopped s page k → P (refused_with k s page))
      → (Accepted s page → P (proceeded s page (unread s page) (room s page))) → P (event_of s page)
  unfolding event_of
  event-ways stopped go =
      by_tests page (unread s page) (unread_acks s page) P (λ k. refused_with k s page) _ stopped
      (λ size few some. go (record { size = size; requests = few; responses = some }))

  pub event-cases : ((k : ℕ) → Stopped s page k → P (refused_with k s page))
      → (Accepted s page → owes s ≡ true → P (responded s page (room s page)))
      → (Accepted s page → owes s ≡ false → whole (after_reading s page).incoming.message ≡ false
      → P (answered_with waiting (after_reading s page) page))
      → (Accepted s page → owes s ≡ false → whole (after_reading s page).incoming.message ≡ true
      → P (responded (carried_over (after_reading s page)) page (room s page)))
      → P (event_of s page)
  event-cases stopped owing part all = event-ways stopped (λ ok. proceeded-cases (owing ok) (part ok) (all ok))

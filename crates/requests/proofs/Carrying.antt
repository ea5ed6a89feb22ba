-- A request carried out leaves its settings and its ack, and the next request begins.
use Rattle.std.specs.Prelude.{Result, Ok, Err, IsErrAnd}
use Rattle.octets.specs.Prelude.{◌≡◌, refl, ap, List, ℕ}
use Rattle.messages.specs.Settings.{Settings}
use Rattle.messages.specs.Requests.{Request, get_flags, set_flags, set_key, set_mapping, none, named, status_told, Carried}
use Rattle.messages.specs.Inner.{Leaves}
use Rattle.messages.specs.declared.Refusal.{Refusal}
use Rattle.messages.specs.declared.Refusal.TheVariants.{NotSupported}
use Rattle.messages.proofs.Statuses.{none-supported}
use Rattle.messages.proofs.Effects.{carried-refused}
use Rattle.messages.specs.declared.Ack.{Ack}
use Rattle.ring.specs.Reading.{Incoming}
use Rattle.ring.specs.Writing.{Outgoing}
use Rattle.interface.specs.States.{HostState}
use Rattle.interface.specs.Events.{carried_in, carried_over}

abbrev over : Settings → Ack → Incoming → Outgoing → HostState
over settings ack incoming outgoing =
    let m = incoming.message in
    record {
      settings = settings;
      incoming = record { message = record { header = m.header; payload = m.payload; taken = 0 }; cons = incoming.cons };
      outgoing = record { octets = ack.octets; length = ack.length; written = 0; prod = outgoing.prod };
    }

pub carried-stored : (s : HostState) (settings : Settings) (ack : Ack) (incoming : Incoming) (outgoing : Outgoing)
    → ◌≡◌ {A = Carried} (record { settings = settings; ack = ack }) (carried_in s) → incoming ≡ s.incoming → outgoing ≡ s.outgoing
    → over settings ack incoming outgoing ≡ carried_over s
unfolding carried_over
carried-stored s settings ack incoming outgoing e i o = rw (i, o) (ap (λ (c : Carried). over c.settings c.ack s.incoming s.outgoing) e)

-- a type that names no request is refused, and the settings stay
unnamed-refusal : (r : Request) (e : Refusal) → Err e ≡ named r → (r ≡ none) × (e ≡ NotSupported)
unnamed-refusal get_flags e h = absurd cc
unnamed-refusal set_flags e h = absurd cc
unnamed-refusal set_key e h = absurd cc
unnamed-refusal set_mapping e h = absurd cc
unnamed-refusal none e h = (refl, cc)

pub unnamed : (q : Request) (r : Result Unit Refusal) (e : Refusal) → Err e ≡ named q → IsErrAnd r (λ f. f ≡ e)
    → (s : Settings) (n : ℕ) (p : List ℕ) → Leaves q s n p (status_told r) s
unnamed q (Ok u) e h same s n p = absurd same
unnamed q (Err f) e h same s n p =
    let none = unnamed-refusal q e h in
    rw (same, none.0, none.1) (carried-refused _ s n p 0 (none-supported s.queues n p))

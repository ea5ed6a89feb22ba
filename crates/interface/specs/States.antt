-- The state of an interface: what setup answers, what holds of every state from then on, and the packet question.
use Rattle.std.specs.Prelude.{Result, Ok, Err, ◌≡◌, ◌&&◌, ◌<◌}
use Rattle.octets.specs.Prelude.{List, cond, ℕ, replicate, leb}
use Rattle.octets.specs.Outcome.{Outcome, value, refused, done}
use Rattle.toeplitz.specs.Hash.{key_length}
use Rattle.messages.specs.Wire.{max_payload}
use Rattle.messages.specs.Requests.{max_ack}
use Rattle.messages.specs.Settings.{Settings, max_queues, max_entries, table_of, settings_of, settings_at_setup, Good as GoodSettings}
use Rattle.steering.specs.Steering.{Choice, steered}
use Rattle.ring.specs.Reading.{Incoming, incoming_in, incoming_at_setup, GoodIncoming}
use Rattle.ring.specs.Writing.{Outgoing, outgoing_in, outgoing_at_setup, owed, GoodOutgoing}
use Rattle.interface.specs.declared.Interface.{Interface}
use Rattle.interface.specs.declared.QueuesWrong.{QueuesWrong}

-- refusal 6: setup with 0 or more than 64 queues
abbrev pub queues_wrong : ℕ
queues_wrong = 6

-- the state of an interface, as the rules speak of it: its settings, and the two sides of its ring
pub record HostState : Type 0 where
  pub settings : Settings
  pub incoming : Incoming
  pub outgoing : Outgoing

-- how it is stored: the settings that the struct of an interface holds, and its state
abbrev pub settings_in : Interface → Settings
settings_in i = settings_of i.queues i.flags i.key i.entries i.entry_count

abbrev pub state_of : Interface → HostState
state_of i =
    record {
      settings = settings_in i;
      incoming = incoming_in i.incoming i.header i.payload;
      outgoing = outgoing_in i.outgoing i.ack;
    }

-- before setup: every number 0, and every array zeros
abbrev pub interface_of_zeros : HostState
interface_of_zeros =
    record {
      settings = settings_of 0 0 (replicate key_length 0) (replicate max_entries 0) 0;
      incoming = incoming_at_setup;
      outgoing = outgoing_at_setup;
    }

-- a new interface: the settings at setup, nothing read, no ack, both own counts 0
abbrev pub interface_at_setup : ℕ → HostState
interface_at_setup queues =
    record { settings = settings_at_setup queues; incoming = incoming_at_setup; outgoing = outgoing_at_setup }

-- what setup answers
unfoldable pub set_up_outcome : ℕ → Outcome HostState
set_up_outcome queues = cond (leb 1 queues && leb queues max_queues) (value (interface_at_setup queues)) (refused queues_wrong)

-- the number that setup answers
abbrev pub set_up_number : Result Unit QueuesWrong → ℕ
set_up_number (Ok u) = done
set_up_number (Err e) = queues_wrong

-- a good state: what holds of the state of an interface from setup on
pub record Good (s : HostState) : Type 0 where
  pub settings : GoodSettings s.settings
  pub incoming : GoodIncoming max_payload s.incoming
  pub outgoing : GoodOutgoing max_ack s.outgoing
  -- while ack octets are owed, nothing of a following request has been read
  pub in-turn : 0 < owed s.outgoing → s.incoming.message.taken ≡ 0

-- the choice for a packet under the settings of an interface
abbrev pub steered_by : Settings → List ℕ → Choice
steered_by s packet = steered s.flags s.key (table_of s.mapping) packet

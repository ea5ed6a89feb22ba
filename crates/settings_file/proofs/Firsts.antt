-- What carrying out the first message of some octets leaves.
use Rattle.octets.specs.Prelude.{◌≡◌, sym, ap, ◌∙◌, List, [], true, ℕ, ◌+◌, ◌-◌, ◌≤◌, ◌<◌, arith, length, take, drop, length-drop, drop-drop}
use Rattle.octets.specs.Prelude.{get_or-take, le-leb, lt-leb}
use Rattle.octets.specs.Outcome.{refused}
use Rattle.octets.specs.Numbers.{number_at}
use Rattle.octets.proofs.Numbers.{number_same}
use Rattle.messages.specs.Wire.{header_size, field_size, type_in, size_in, success}
use Rattle.messages.specs.Settings.{Settings, Good}
use Rattle.messages.specs.Requests.{ack_status, carried_message}
use Rattle.messages.proofs.Theorems.{good-stays-good, status-in-place}
use Rattle.ring.specs.Reading.{message_length}
use Rattle.ring.specs.Streams.{begins_whole, first_message}
use Rattle.ring.proofs.Holdings.{size-take}
use Rattle.interface.specs.States.{HostState}
use Rattle.interface.specs.Events.{carried_in, carried_over}
use Rattle.settings_file.specs.Loading.{settings_wrong, settings_from}
use Rattle.settings_file.specs.Inner.{GoesOn, Keeps}
use Rattle.settings_file.proofs.Loads.{from_cut, from-refused, from_next, first-carried}

-- the header that stands at the start, and its message's size
module _ (xs header rest : List ℕ) (size : ℕ) (head : header ≡ take header_size xs) (behind : rest ≡ drop header_size xs)
    (sized : size ≡ size_in header)
  where
    size-told : size ≡ size_in xs
    size-told = sized ∙ ap size_in head ∙ size-take xs

    left-behind : length rest ≡ length xs - header_size
    left-behind = ap length behind ∙ length-drop header_size xs

    -- a message that is cut short
    pub first-cut : (s : Settings) → 0 < length xs → length rest < size → settings_from s xs ≡ refused settings_wrong
    first-cut s some short = from_cut s xs some (lt-leb (message_length xs) (length xs) (omega (arith, left-behind, size-told)))

    -- a whole message that stands in the state before, with what is kept of its payload
    module _ (before : HostState) (long : header_size ≤ length xs) (fits : size ≤ length rest)
        (same : before.incoming.message.header ≡ header) (keeps : Keeps (take size rest) before.incoming.message.payload)
        (good : Good before.settings) (after : HostState) (over : after ≡ carried_over before)
      where
        whole : begins_whole xs ≡ true
        whole = le-leb (message_length xs) (length xs) (omega (arith, left-behind, size-told))

        kind : type_in before.incoming.message.header ≡ type_in xs
        kind = ap type_in (same ∙ head) ∙ number_same 4 (take header_size xs) xs 0 0 (λ k l. get_or-take header_size xs (0 + k) 0 (omega arith))

        carried : carried_in before ≡ carried_message before.settings (first_message xs) []
        carried =
            let kept = rw (size-told, behind) at keeps in
            rw (kind, same, ← sized, size-told) (first-carried before.settings xs before.incoming.message.payload whole kept)

        settings : after.settings ≡ (carried_in before).settings
        unfolding carried_over
        settings = ap (λ (x : HostState). x.settings) over

        status : number_at field_size after.outgoing.octets header_size ≡ ack_status (carried_message before.settings (first_message xs) [])
        unfolding carried_over
        status =
            let m = before.incoming.message in
            ap (λ (x : HostState). number_at field_size x.outgoing.octets header_size) over
            ∙ status-in-place before.settings (type_in m.header) (size_in m.header) m.payload ∙ ap ack_status carried

        pub good-left : Good after.settings
        good-left =
            let m = before.incoming.message in
            rw settings (good-stays-good before.settings (type_in m.header) (size_in m.header) m.payload good (omega (arith, keeps.size)))

        pub first-refused : (number_at field_size after.outgoing.octets header_size ≡ success → ⊥)
            → settings_from before.settings xs ≡ refused settings_wrong
        first-refused h = from-refused before.settings xs whole (λ e. h (status ∙ e))

        pub first-done : number_at field_size after.outgoing.octets header_size ≡ success → GoesOn before.settings xs after.settings (drop size rest)
        first-done e =
            record {
              fewer = omega (arith, length-drop size rest, left-behind);
              same = rw (settings, carried, behind, size-told, drop-drop (size_in xs) header_size xs)
                  (from_next before.settings xs whole (sym status ∙ e));
            }

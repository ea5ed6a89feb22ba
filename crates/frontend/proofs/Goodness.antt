-- Setup gives a good guest, and so does every call on a good one.
use Rattle.std.specs.Prelude.{Result}
use Rattle.guest_steps.specs.declared.Progress.{Progress}
use Rattle.guest_steps.specs.declared.Refusal.{Refusal}
use Rattle.octets.specs.Prelude.{◌≡◌, refl, sym, ap, subst, ◌∙◌, List, ◌++◌, false, ℕ, ◌^◌, ◌≤◌, ◌<◌, arith, length, drop, length-append}
use Rattle.octets.specs.Prelude.{length-drop, eqb, leb, eqb-true, ltb-false}
use Rattle.octets.specs.Numbers.{octets_of}
use Rattle.octets.specs.Outcome.{Outcome, value, refused}
use Rattle.octets.proofs.Outcomes.{value_same, value-not-refused, test-value, test-refused}
use Rattle.toeplitz.specs.Hash.{key_length}
use Rattle.toeplitz.specs.Refusals.{key_length_wrong}
use Rattle.messages.specs.Wire.{field_size, message, set_flags_type, set_key_type, set_mapping_type, all_flags}
use Rattle.messages.specs.Settings.{is_listed}
use Rattle.messages.proofs.Powers.{listed-parts}
use Rattle.page.specs.Page.{responses_at, octets_in}
use Rattle.ring.specs.Reading.{received_from}
use Rattle.ring.proofs.Sides.{grown, none-waits, good-received, good-sent}
use Rattle.guest_messages.specs.Refusals.{value_not_listed, buffer_too_short}
use Rattle.guest_messages.specs.Writer.{fields_of, get_flags_message, set_flags_message, set_key_message, set_mapping_message}
use Rattle.guest_steps.specs.Guest.{idle, failed, max_request, max_ack_payload, incoming, owes, guest_at_setup, Good, GuestState}
use Rattle.guest_steps.specs.Calls.{After, unread_acks, begun, wrote_on, start_of, done_with, read_on, event_of, left}
use Rattle.frontend.specs.Rules.{Asked, gets_flags, sets_flags, sets_key, sets_mapping, room, after_reading}
use Rattle.guest_messages.proofs.Theorems.{message-lengths}
use Rattle.frontend.proofs.Ways.{Way, leaves, writes, event-ways, read-ways, start-ways}

-- the writer's messages have their place
pub short-get-flags : (m : List ℕ) → get_flags_message ≡ value m → length m ≤ max_request
short-get-flags m e = rw (← value_same _ _ e) (omega (arith, message-lengths.0))

pub short-set-flags : (flags : ℕ) (m : List ℕ) → set_flags_message flags ≡ value m → length m ≤ max_request
short-set-flags flags m e =
    let x = test-value (leb flags all_flags) (message set_flags_type (octets_of field_size flags)) m _ e in
    rw (← x.1) (omega (arith, message-lengths.1 flags))

pub short-set-key : (key m : List ℕ) → set_key_message key ≡ value m → length m ≤ max_request
short-set-key key m e =
    let x = test-value (eqb (length key) key_length) (message set_key_type key) m _ e in
    rw (← x.1) (omega (arith, message-lengths.2 key (eqb-true _ _ x.0)))

pub short-set-mapping : (entries m : List ℕ) → set_mapping_message entries ≡ value m → length m ≤ max_request
short-set-mapping entries m e =
    let x = test-value (is_listed (length entries)) (message set_mapping_type (fields_of entries)) m _ e in
    let few = ((listed-parts (length entries)).0 x.0).1 in
    rw (← x.1) (omega (arith, message-lengths.3 entries, few))

abbrev pub Fits : Outcome (List ℕ) → Type 0
Fits request = (m : List ℕ) → request ≡ value m → length m ≤ max_request

pub asked-fits : (request : Outcome (List ℕ)) → Asked request → Fits request
asked-fits _ gets_flags = short-get-flags
asked-fits _ (sets_flags flags) = short-set-flags flags
asked-fits _ (sets_key key) = short-set-key key
asked-fits _ (sets_mapping entries) = short-set-mapping entries

pub good-at-setup : Good guest_at_setup
good-at-setup =
    record {
      phase = omega arith;
      request = record { size = refl; within = omega arith; short = omega arith; count = omega arith };
      ack = record { header = refl; payload = refl; waiting = none-waits guest_at_setup.header; count = omega arith };
      at_rest = λ e. refl;
      in-turn = λ h. refl;
    }

-- octets of the request written on
good-wrote : (g : GuestState) (page : List ℕ) (room : ℕ) → Good g → Good (wrote_on g page room).state
unfolding wrote_on
good-wrote g page room good =
    record {
      phase = good.phase;
      request = good-sent _ room max_request good.request;
      ack = good.ack;
      at_rest = good.at_rest;
      in-turn = λ h. good.in-turn (omega arith);
    }

-- a request begun by a guest without one
pub good-begun : (g : GuestState) (m : List ℕ) → length m ≤ max_request → g.phase ≡ idle → Good g → Good (begun g m)
good-begun g m short rest good =
    let size : length (m ++ drop (length m) g.request) ≡ max_request =
    length-append m (drop (length m) g.request) ∙ omega (arith, length-drop (length m) g.request, good.request.size) in
    record {
      phase = omega arith;
      request = record { size = size; within = omega arith; short = short; count = good.request.count };
      ack = good.ack;
      at_rest = λ e. good.at_rest rest;
      in-turn = λ h. good.at_rest rest;
    }

-- the writer refuses by 8 or 11
abbrev pub WriterRefuses : ℕ → Type 0
WriterRefuses k = (key_length_wrong ≤ k) × (k ≤ value_not_listed) × (k ≡ buffer_too_short → ⊥)

pub asked-refused : (request : Outcome (List ℕ)) → Asked request → (k : ℕ) → request ≡ refused k → WriterRefuses k
asked-refused _ gets_flags k e = absurd (value-not-refused _ k e)
asked-refused _ (sets_flags flags) k e = let x = (test-refused (leb flags all_flags) _ _ k e).1 in omega arith
asked-refused _ (sets_key key) k e = let x = (test-refused (eqb (length key) key_length) _ _ k e).1 in omega arith
asked-refused _ (sets_mapping entries) k e = let x = (test-refused (is_listed (length entries)) _ _ k e).1 in omega arith

-- a start
pub good-started : (o : Outcome (List ℕ)) (g : GuestState) (page : List ℕ) → Fits o → Good g → Good (start_of o g page).state
good-started o g page short good =
    start-ways g page o (λ (a : After). Good a.state) (λ k s. good) (λ ok f. good) (λ ok w b. good) (λ ok i k e. good)
    (λ ok i m e. good-wrote (begun g m) page (room g page) (good-begun g m (short m e) i good))

pub start-way : (request : Outcome (List ℕ)) (g : GuestState) (page : List ℕ)
    → Way g page (Asked request × Good g) ⊥ (start_of request g page)
start-way request g page =
    start-ways g page request (Way g page (Asked request × Good g) ⊥) (λ k s. leaves k (omega arith)) (λ ok f. leaves _ (omega arith))
    (λ ok w b. leaves _ (omega arith)) (λ ok i k e. leaves k (λ a. let x = asked-refused request a.0 k e in omega arith))
    (λ ok i m e. writes (begun g m) ok.size refl refl (λ a. good-begun g m (asked-fits request a.0 m e) i a.1))

-- octets of the ack read: part of it, or all, which ends it
module _ (g : GuestState) (page : List ℕ) (good : Good g) (busy : g.phase ≡ idle → ⊥) (none : owes g ≡ false) where
  good-done : (phase rsp_cons : ℕ) → phase ≤ failed → rsp_cons < 2 ^ 32 → Good (done_with g (after_reading g page).message phase rsp_cons)
  unfolding received_from
  good-done phase rsp_cons known small =
      let x = grown (octets_in responses_at page g.rsp_cons (unread_acks g page)) (incoming g).message in
      record {
        phase = known;
        request = good.request;
        ack = record {
          header = x.header ∙ good.ack.header;
          payload = x.payload ∙ good.ack.payload;
          waiting = none-waits (after_reading g page).message.header;
          count = small;
        };
        at_rest = λ e. refl;
        in-turn = λ h. refl;
      }

  read_small : (after_reading g page).cons < 2 ^ 32
  unfolding received_from
  read_small = omega arith

  good-read : Good (read_on g page (unread_acks g page)).state
  good-read =
      read-ways g page (λ (a : After). Good a.state)
      (λ waits. record {
        phase = good.phase;
        request = good.request;
        ack = good-received responses_at page (incoming g) (unread_acks g page) max_ack_payload good.ack waits;
        at_rest = λ e. absurd (busy e);
        in-turn = λ h. absurd (let l = ltb-false g.written g.length none in omega arith);
      })
      (λ r w a. good-done idle (after_reading g page).cons (omega arith) read_small)
      (good-done failed g.rsp_cons (omega arith) good.ack.count)

pub good-event : (g : GuestState) (page : List ℕ) → Good g → Good (event_of g page).state
good-event g page good =
    event-ways g page (λ (a : After). Good a.state) (λ k s. good) (λ ok f. good) (λ ok i. good)
    (λ ok w b o. good-wrote g page (room g page) good) (λ ok w b o. good-read g page good b o)

-- what a call in place leaves is good where what the definition leaves is
pub left-good : (x a : After) → x ≡ a → Good a.state → Good x.state
left-good x a e = subst Good (sym (ap (λ (y : After). y.state) e))

pub event-leaves-good : (r : Result Progress Refusal) (g h : GuestState) (page octets : List ℕ) → Good g → left r h octets ≡ event_of g page
    → (left r h octets ≡ event_of g page) × Good h
event-leaves-good r g h page octets good e = (e, left-good _ _ e (good-event g page good))

pub start-leaves-good : (o : Outcome (List ℕ)) (x : After) (g : GuestState) (page : List ℕ) → Asked o → Good g → x ≡ start_of o g page
    → (x ≡ start_of o g page) × Good x.state
start-leaves-good o x g page asked good e = (e, left-good x _ e (good-started o g page (asked-fits o asked) good))

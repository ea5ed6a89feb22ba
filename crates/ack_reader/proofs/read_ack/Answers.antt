-- `ack_reader::read_ack` meets its contract where the ack has flags: each test on the way to them is one of what an ack asks for.
use Rattle.octets.specs.Prelude.{◌≡◌, sym, ap, ◌∙◌, true, ℕ, ◌+◌, length, arith}
use Rattle.octets.specs.Outcome.{value}
use Rattle.messages.specs.Wire.{success, header_size, status_in, size_in}
use Rattle.messages.specs.Requests.{request_of, carries_flags}
use Rattle.guest_messages.specs.Reader.{status_and_flags}
use Rattle.guest_messages.proofs.Accepts.{accept-flags}
use Rattle.ack_reader.proofs.read_ack.Goals as goal

pub returns-then-carries_flags : goal.returns-then-carries_flags
returns-then-carries_flags c =
    let m = c.args.message.now in
    let flags = c.read_u64-flags.ensures in
    let size = c.read_u32-size.ensures in
    let carries : carries_flags (request_of c.args.kind) (status_in m) ≡ true =
    sym (rw c.read_u64-status.ensures at c.carries_flags.ensures) ∙ c.if-carries_flags.true in
    let long : length m ≡ header_size + size_in m = omega (arith, c.if-message.false, c.if-message-size.false, size) in
    let type = sym c.read_u32.ensures ∙ c.if-read_u32-ne-ACK_TYPE.false in
    ap (λ (x : ℕ). value (status_and_flags success x)) flags
    ∙ accept-flags c.args.kind m carries long type (sym size ∙ c.if-size.false) (rw flags at c.if-flags.false)

-- Where the two ends stand between their turns, while a request is under way.
use Rattle.octets.specs.Prelude.{◌≡◌, List, ◌++◌, false, ℕ, ◌-◌, ◌^◌, ◌<◌, length, take, drop}
use Rattle.messages.specs.Wire.{header_size}
use Rattle.page.specs.Page.{page_size, req_cons_at, req_prod_at, rsp_cons_at, rsp_prod_at, requests_at, responses_at, count_in, advanced, octets_in}
use Rattle.ring.specs.Streams.{Holding}
use Rattle.interface.specs.Events.{owes as host_owes}
use Rattle.guest_steps.specs.Guest.{max_ack_payload, outstanding, GuestState}
use Rattle.ends.specs.Ends.{Ends}

-- the guest has written n octets of the request m, and read nothing of an ack
pub record Asking (m : List ℕ) (n : ℕ) (g : GuestState) : Type 0 where
  pub phase : g.phase ≡ outstanding
  pub rest : List ℕ
  pub request : g.request ≡ m ++ rest
  pub long : g.length ≡ length m
  pub written : g.written ≡ n
  pub nothing_read : g.taken ≡ 0
  pub header : length g.header ≡ header_size
  pub payload : length g.payload ≡ max_ack_payload
  pub prod : g.req_prod < 2 ^ 32
  pub cons : g.rsp_cons < 2 ^ 32

-- before the guest writes on: the host has read the n octets too, and the page says so
pub record Ready (m : List ℕ) (n : ℕ) (e : Ends) : Type 0 where
  pub guest : Asking m n e.guest
  pub size : length e.page ≡ page_size
  pub no-ack : host_owes e.host ≡ false
  pub held : Holding e.host.incoming.message (take n m)
  pub requests : e.host.incoming.cons ≡ e.guest.req_prod
  pub responses : e.host.outgoing.prod ≡ e.guest.rsp_cons
  pub req-cons : count_in e.page req_cons_at ≡ e.guest.req_prod
  pub rsp-prod : count_in e.page rsp_prod_at ≡ e.guest.rsp_cons

-- before the host reads: of the n octets it has read r, the others stand in the request area, and the page says so
pub record Sent (m : List ℕ) (r n : ℕ) (e : Ends) : Type 0 where
  pub guest : Asking m n e.guest
  pub size : length e.page ≡ page_size
  pub no-ack : host_owes e.host ≡ false
  pub held : Holding e.host.incoming.message (take r m)
  pub count : e.host.incoming.cons < 2 ^ 32
  pub moved : e.guest.req_prod ≡ advanced e.host.incoming.cons (n - r)
  pub responses : e.host.outgoing.prod ≡ e.guest.rsp_cons
  pub req-prod : count_in e.page req_prod_at ≡ e.guest.req_prod
  pub rsp-cons : count_in e.page rsp_cons_at ≡ e.guest.rsp_cons
  pub octets : octets_in requests_at e.page e.host.incoming.cons (n - r) ≡ take (n - r) (drop r m)

-- before the guest reads the ack: the request is read and carried out, and the ack stands in the response area
pub record Answered (m ack : List ℕ) (e : Ends) : Type 0 where
  pub guest : Asking m (length m) e.guest
  pub size : length e.page ≡ page_size
  pub no-ack : host_owes e.host ≡ false
  pub nothing_read : e.host.incoming.message.taken ≡ 0
  pub requests : e.host.incoming.cons ≡ e.guest.req_prod
  pub responses : e.host.outgoing.prod ≡ advanced e.guest.rsp_cons (length ack)
  pub req-cons : count_in e.page req_cons_at ≡ e.guest.req_prod
  pub rsp-prod : count_in e.page rsp_prod_at ≡ e.host.outgoing.prod
  pub octets : octets_in responses_at e.page e.guest.rsp_cons (length ack) ≡ ack

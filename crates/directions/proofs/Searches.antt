-- What the two searches of `two_way` say of the verdict.
use Rattle.octets.specs.Prelude.{◌≡◌, sym, ap, ◌∙◌, List, ℕ, ◌+◌, ◌*◌, ◌-◌, ◌≤◌, ◌<◌, dec_lt, arith}
use Rattle.toeplitz.specs.Hash.{window_at}
use Rattle.toeplitz.specs.TwoWay.{input_size, address_size, port_size, tells_apart, agree, differ_at, verdict}
use Rattle.directions.specs.Inner.{FoundIn}
use Rattle.std.specs.Prelude.{Option, None, Some}
use Rattle.toeplitz.proofs.Mirror.{mirror1, mirror2, mirror3, mirror4}
use Rattle.toeplitz.proofs.Lowest.{differ-exactly}
use Rattle.toeplitz.proofs.TwoWays.{mirror_window, SameWindow, test-same, test-other, same-agree}

-- what the search in the two addresses says, of the address size x, and that in the two ports of size y behind them
abbrev pub InAddresses : List ℕ → ℕ → Option ℕ → Type 0
InAddresses key x r = FoundIn key 0 ((0 + x) * 8) (x * 8) r

abbrev pub InPorts : List ℕ → ℕ → ℕ → Option ℕ → Type 0
InPorts key x y r = FoundIn key (x * 2 * 8) ((x * 2 + y) * 8) (y * 8) r

module _ (key : List ℕ) (t : ℕ) where
  abbrev a : ℕ
  a = address_size t

  abbrev p : ℕ
  p = port_size t

  -- the searched windows are those at a bit and at its mirror
  address : (k : ℕ) → k < a * 8 → (window_at key (0 + k) ≡ window_at key k) × (window_at key ((0 + a) * 8 + k) ≡ mirror_window key t k)
  address k h = (ap (window_at key) (omega arith), ap (window_at key) (omega (arith, mirror1 (a * 8) (p * 8) k h)))

  port : (k : ℕ) → k < p * 8 → window_at key ((a * 2 + p) * 8 + k) ≡ mirror_window key t (a * 2 * 8 + k)
  port k h = ap (window_at key) (omega (arith, mirror3 (a * 8) (p * 8) (a * 2 * 8 + k) (omega arith) (omega arith)))

  addresses-same : InAddresses key a None → (b : ℕ) → b < a * 8 + a * 8 → SameWindow key t b
  addresses-same s b h =
      elim (dec_lt b (a * 8)) [
        | yes l ↦ sym (address b l).0 ∙ s b l ∙ (address b l).1
        | no n ↦
            ap (window_at key) (omega arith) ∙ sym (s (b - a * 8) (omega arith))
            ∙ ap (window_at key) (omega (arith, mirror2 (a * 8) (p * 8) b (omega arith) h))
      ]

  ports-same : InPorts key a p None → (b : ℕ) → a * 8 + a * 8 ≤ b → b < input_size t * 8 → SameWindow key t b
  ports-same s b g h =
      elim (dec_lt b (a * 8 + a * 8 + p * 8)) [
        | yes l ↦
            ap (window_at key) (omega arith) ∙ s (b - a * 2 * 8) (omega arith)
            ∙ ap (window_at key) (omega (arith, mirror3 (a * 8) (p * 8) b g l))
        | no n ↦
            ap (window_at key) (omega arith) ∙ sym (s (b - a * 2 * 8 - p * 8) (omega arith))
            ∙ ap (window_at key) (omega (arith, mirror4 (a * 8) (p * 8) b (omega arith)))
      ]

  -- a difference in the addresses is the lowest
  pub in-addresses : (b : ℕ) → InAddresses key a (Some b) → verdict key t ≡ differ_at b
  unfolding verdict
  in-addresses b f =
      (differ-exactly (tells_apart key t) (input_size t * 8) b).1 (
        omega arith,
        test-other key t b (omega arith) (λ e. f.1 ((address b f.0).0 ∙ e ∙ sym (address b f.0).1)),
        λ k l. test-same key t k (omega arith) (sym (address k (omega arith)).0 ∙ f.2 k l ∙ (address k (omega arith)).1),
      )

  -- a difference in the ports is the lowest where the addresses have none
  pub in-ports : (b : ℕ) → InAddresses key a None → InPorts key a p (Some b) → verdict key t ≡ differ_at (a * 16 + b)
  unfolding verdict
  in-ports b s f =
      let i : a * 16 + b ≡ a * 2 * 8 + b = omega arith in
      rw i
      ((differ-exactly (tells_apart key t) (input_size t * 8) (a * 2 * 8 + b)).1 (
        omega arith,
        test-other key t (a * 2 * 8 + b) (omega arith) (λ e. f.1 (e ∙ sym (port b f.0))),
        λ k l. elim (dec_lt k (a * 8 + a * 8)) [
          | yes m ↦ test-same key t k (omega arith) (addresses-same s k m)
          | no n ↦
              let o : ℕ = k - a * 2 * 8 in
              let j : k ≡ a * 2 * 8 + o = omega arith in
              rw j (test-same key t (a * 2 * 8 + o) (omega arith) (f.2 o (omega arith) ∙ port o (omega arith)))
        ],
      ))

  -- no difference in either: the directions agree
  pub nowhere : InAddresses key a None → InPorts key a p None → verdict key t ≡ agree
  nowhere s u =
      same-agree key t
      (λ k l. elim (dec_lt k (a * 8 + a * 8)) [ yes m ↦ addresses-same s k m | no n ↦ ports-same u k (omega arith) l ])

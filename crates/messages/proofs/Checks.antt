-- Checks one after another: when all of them pass, and when two runs of checks give one status.
use Rattle.octets.specs.Prelude.{◌≡◌, refl, Bool, true, false, cond, ℕ, suc, ◌≤◌, arith}
use Rattle.messages.specs.Requests.{check}

pub check-passed : (t : Bool) (status further : ℕ) → check t (suc status) further ≡ 0 → (t ≡ true) × (further ≡ 0)
check-passed true status further e = (refl, e)
check-passed false status further e = absurd (omega arith)

pub check-same : {A : Type 0} (t : Bool) (c a b : A) → (t ≡ true → a ≡ b) → cond t a c ≡ cond t b c
check-same true c a b h = h refl
check-same false c a b h = refl

pub check-most : (t : Bool) (most status further : ℕ) → status ≤ most → further ≤ most → check t status further ≤ most
check-most true most status further h l = l
check-most false most status further h l = h

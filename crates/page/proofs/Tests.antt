-- The three tests of a page with which a call of either end begins, and what its refusal by 3, 4 or 5 says.
use Rattle.octets.specs.Prelude.{◌≡◌, List, ◌↔◌, cond, ℕ, ◌≤◌, ◌<◌, arith, length, eqb, leb, eqb-true, eqb-false, leb-true, leb-false}
use Rattle.octets.proofs.Truth.{by-test}
use Rattle.page.specs.Refusals.{page_wrong, requests_wrong, responses_wrong}
use Rattle.page.specs.Page.{page_size, area_size}

module _ (page : List ℕ) (requests responses : ℕ) where
  -- 3, 4 and 5 are answered exactly where their condition is the first that holds
  pub record RefusesExactly (answer : ℕ) : Type 0 where
    pub wrong-page : (answer ≡ page_wrong) ↔ (length page ≡ page_size → ⊥)
    pub wrong-requests : (answer ≡ requests_wrong) ↔ ((length page ≡ page_size) × (area_size < requests))
    pub wrong-responses : (answer ≡ responses_wrong) ↔ ((length page ≡ page_size) × (requests ≤ area_size) × (area_size < responses))

  -- a refusal by k, which is one of the three
  pub record RefusedBy (k : ℕ) : Type 0 where
    pub least : page_wrong ≤ k
    pub most : k ≤ responses_wrong
    pub exactly : RefusesExactly k
    pub not-passed : length page ≡ page_size → requests ≤ area_size → responses ≤ area_size → ⊥

  pub by_tests : {A : Type 0} (P : A → Type 0) (refusal : ℕ → A) (go : A)
      → ((k : ℕ) → RefusedBy k → P (refusal k))
      → (length page ≡ page_size → requests ≤ area_size → responses ≤ area_size → P go)
      → P (cond (eqb (length page) page_size)
      (cond (leb requests area_size) (cond (leb responses area_size) go (refusal responses_wrong)) (refusal requests_wrong))
      (refusal page_wrong))
  by_tests P refusal go stop pass =
      by-test P (eqb (length page) page_size) _ _
      (λ e. let size = eqb-true (length page) page_size e in
      by-test P (leb requests area_size) _ _
      (λ r. let few = leb-true requests area_size r in
      by-test P (leb responses area_size) _ _ (λ a. pass size few (leb-true _ _ a))
      (λ a. let many = leb-false responses area_size a in stop responses_wrong (omega arith)))
      (λ r. let many = leb-false requests area_size r in stop requests_wrong (omega arith)))
      (λ e. let wrong = eqb-false (length page) page_size e in stop page_wrong (omega arith))

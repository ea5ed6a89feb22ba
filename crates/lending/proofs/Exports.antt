-- An exported function that takes a struct behind a `&mut` as its first parameter, lends its parts to one call, in front of its
-- other parameters as they came, and returns what that returns, meets the contract of that call, read through the struct.
--     passing, passing_shr     what the call binds, for the author to hand to its theorem, where the parts are passed as `&mut`s and as `&`s
--     followed         a function whose code does what a course says meets its contract, if what it has gives what the course asks
--     forwarded        so does one that only forwards to a call, if what it has gives what the call leaves
--     exported         so does one that lends the parts of a struct behind a `&mut` at its first lifetime, where the call meets its own
--     looked           the same of a struct behind a `&`
--     concluded        a proof over the function's MIR that cites one callee, as the statement about the function
--     lent             both, where all parts of a struct of simple fields are lent
-- It names no struct and no function of any crate. Assumes `Logic`.
use types.Logic.{Logic, sem}
use denote.Ref.{Bor, MutBor}
use Rattle.lending.proofs.Walks.{◌≡◌, sym, subst, ap, ◌∙◌, ℕ, zero, suc, List, [], ◌∷◌, ◌++◌, T, Ura, full_share, Callee, Ty, Local, local, Fn}
use Rattle.lending.proofs.Walks.{return, Val, vptr, WT, has_ty, SProp, ent, sep, id⊢, via, mono_r, guard_i, Lft, Share, Fml, Memory, Model}
use Rattle.lending.proofs.Walks.{Routine, WpFn, Tables, Closed, Lfts, Shares, AllOutlive, Lowered, signature_of, toks, Fun}
use Rattle.lending.proofs.Walks.{fact, fact_i, fact_use, Running, tables, tables_of, fm_of, RattleType, Denots, Valss}
use Rattle.lending.proofs.Walks.{mirs, owns, flat, Typed, Is, valss, shows, yes, Signature, Slot, Matches, mut_ref_to, shr_ref_to, plain, type_at}
use Rattle.lending.proofs.Walks.{types_at, at_last, Ended, Clauses, ensured, closing, Args, Vals, alive, on_entry, Kepts, Fins, outs}
use Rattle.lending.proofs.Walks.{lasts_of, Spec, Meets, triple_of, Triple, entered, cited, Are, Ises}
use prog.Routine.{Env}
use Rattle.lending.proofs.Forward.{Course, gives, asks, Blocks, frame_of, result_of, EachTyped, Entered, Follows, Forwards, Does, follow, once}
use Rattle.lending.proofs.Spelt.{Spelt, Spelts, told, all_tell, all_typed, a-shr}
use Rattle.lending.proofs.Lending.{Part, Values, Names, Refs, Ptrs, Lasts, refs, ptrs, firsts, lastly, saids, pointers, ownss, Opens}
use Rattle.lending.proofs.Lending.{After, fits, lends-to, spelled}
use Rattle.lending.proofs.Looking
use Rattle.lending.proofs.Looking.{Looks, looks-to}
use Rattle.lending.proofs.Structs.{Flat, opens}
-- for those who cite this
pub use Rattle.lending.proofs.Walks.{refl, named, w32, w64, u8, u32, u64}
pub use Rattle.lending.proofs.Spelt.{a-number, a_unit, a-mut, a-mut-slice, a-shr-slice}
pub use Rattle.lending.proofs.Structs.{row_by, parts_of, values_of}

abbrev pub tail : {X : Type 2} → List X → List X
tail [] = []
tail (x ∷ xs) = xs

-- what the call binds: the lifetime ν first, the whole of its token, and the references to the parts first
abbrev pub passing : {Ks Qs Z X Y : Type 0} (ps : List Part) → (Z → Values ps) → Lft × Ks → Share × Qs → MutBor Z → X → Y → ℕ
    → Names ps
    → (Lft × Ks) × (Share × Qs) × Unit {0} × Refs ps X × Ptrs ps Y
passing {X = X} {Y = Y} ps parts κs qs ref x us ν γs = (
  (ν ∷ [], κs.1),
  (full_share, qs.1),
  tt,
  refs ref.ref_ptr.0 ref.ref_ptr.1 ps (parts ref.now) γs X x,
  ptrs ref.ref_ptr.0 ref.ref_ptr.1 ps Y us,
)

-- the same where the references are `&`s, which have no names
abbrev pub passing_shr : {Ks Qs Z X Y : Type 0} (ps : List Part) → (Z → Values ps) → Lft × Ks → Share × Qs → Bor Z → X → Y → ℕ
    → (Lft × Ks) × (Share × Qs) × Unit {0} × Looking.Refs ps X × Ptrs ps Y
passing_shr {X = X} {Y = Y} ps parts κs qs ref x us ν = (
  (ν ∷ [], κs.1),
  (full_share, qs.1),
  tt,
  Looking.refs ref.ref_ptr.0 ref.ref_ptr.1 ps (parts ref.now) X x,
  ptrs ref.ref_ptr.0 ref.ref_ptr.1 ps Y us,
)

-- where the call asks for less
pub asking : {M : Type 1} (𝓤 : Ura M) (φ ψ : Type 0) (P : SProp 𝓤) {Q : SProp 𝓤} → (φ → ψ) → ent 𝓤 (sep 𝓤 P (fact 𝓤 ψ)) Q
    → ent 𝓤 (sep 𝓤 P (fact 𝓤 φ)) Q
asking 𝓤 φ ψ P h k = via 𝓤 (sep 𝓤 P (fact 𝓤 ψ))
    (mono_r 𝓤 P (fact_use 𝓤 φ (id⊢ 𝓤 (fact 𝓤 φ)) (λ x. fact_i 𝓤 ψ (fact 𝓤 φ) (h x)))) k

-- ---- values of the types that MIR has for a function's parameters fit its locals
abbrev tys_of : ℕ → List Local → List Ty
tys_of k ls = (signature_of (record { lifetimes = 0; outlives = []; ty_params = []; givens = 0; params = k; locals = ls; body = return })).2

abbrev is-cons : List Ty → Type 0
is-cons [] = ⊥
is-cons (τ ∷ τs) = Unit {0}

abbrev heads : Ty → List Ty → Ty
heads σ [] = σ
heads σ (τ ∷ τs) = τ

abbrev tails : List Ty → List Ty
tails [] = []
tails (τ ∷ τs) = τs

each_typed : (k : ℕ) (ls : List Local) (bs : Blocks ls) (vs : List Val) → Typed (tys_of k ls) vs → EachTyped (frame_of ls bs) vs
each_typed k ls bs [] x = tt
each_typed k [] bs (v ∷ vs) x = absurd x
each_typed zero (local τ h ∷ ls) bs (v ∷ []) x = (x.0, tt)
each_typed zero (local τ h ∷ ls) bs (v ∷ w ∷ vs) x = absurd x.1
each_typed (suc k) (local τ h ∷ ls) bs (v ∷ vs) x = (x.0, each_typed k ls bs.1 vs x.1)

none-typed : (E : List (Ty × ℕ)) (vs : List Val) → Typed [] vs → EachTyped E vs
none-typed E [] x = tt
none-typed E (v ∷ vs) x = absurd x

params_typed : (k : ℕ) (ls : List Local) (bs : Blocks ls) (τ : Ty) (τs : List Ty) (vs : List Val) → τ ∷ τs ≡ tys_of k ls → Typed τs vs
    → Entered (frame_of ls bs) vs
params_typed k [] bs τ τs vs e x = absurd (subst is-cons e tt)
params_typed zero (local σ h ∷ ls) bs τ τs vs e x = none-typed (frame_of ls bs.1) vs (subst (λ (σs : List Ty). Typed σs vs) (ap tails e) x)
params_typed (suc k) (local σ h ∷ ls) bs τ τs vs e x = each_typed k ls bs.1 vs (subst (λ (σs : List Ty). Typed σs vs) (ap tails e) x)

result-type : (k : ℕ) (ls : List Local) (τ : Ty) (τs : List Ty) → τ ∷ τs ≡ tys_of k ls → τ ≡ result_of ls
result-type k [] τ τs e = absurd (subst is-cons e tt)
result-type k (local σ h ∷ ls) τ τs e = ap (heads τ) e

-- ---- a function whose code does what a course says, whatever its parameters are. Its result is of one MIR type τ, and its MIR has the
-- signature's types
module _ (S : Ended) {M : Type 1} {𝓤 : Ura M} (𝓛 : Logic 𝓤) (c : Clauses 𝓤 S) (𝓣 : Tables 𝓤 𝓛.H) (fn : Fn)
    (spelt : (κs : Lfts S.signature.lifetimes) → Spelts (types_at S.signature.params κs)) {τ : Ty}
    (one : (κs : Lfts S.signature.lifetimes) → (type_at S.signature.result κs).mir ≡ τ ∷ []) (matches : Matches S.signature fn) where
  open 𝓛 use {H}

  module _ (κs : Lfts S.signature.lifetimes) where
    abbrev Ts : List RattleType
    Ts = types_at S.signature.params κs

    mir-Ts : τ ∷ mirs Ts ≡ (signature_of fn).2
    mir-Ts = sym (ap (λ (τs : List Ty). τs ++ mirs Ts) (one κs)) ∙ ap (λ (s : Lowered). s.2) (matches κs)

    module _ (a : Args S.signature κs) where
      abbrev vals : Vals S.signature κs
      vals = valss Ts (told Ts (spelt κs)) a

      abbrev in_a_row : List Val
      in_a_row = flat Ts vals

      module _ (qs : Shares S.signature.lifetimes) (bounds : AllOutlive S.signature.lifetimes S.signature.outlives κs)
          (g : (c κs a).ghost) where
        abbrev Before : SProp 𝓤
        Before = sep 𝓤 (on_entry 𝓛 S.signature κs qs a vals) ((c κs a).requires g)

        abbrev Behind : Val → SProp 𝓤
        Behind = (triple_of 𝓛 S.signature (closing 𝓛 S c)).post ((κs, qs, bounds, a, vals), g)

  pub followed : (t : (κs : Lfts S.signature.lifetimes) → Args S.signature κs → Course)
      → ((κs : Lfts S.signature.lifetimes) (a : Args S.signature κs) → Follows fn (in_a_row κs a) (t κs a))
      → ((κs : Lfts S.signature.lifetimes) (qs : Shares S.signature.lifetimes)
      (bounds : AllOutlive S.signature.lifetimes S.signature.outlives κs) (a : Args S.signature κs) (g : (c κs a).ghost)
      → Are (Ts κs) (Ises (Ts κs)) a (vals κs a)
      → ent 𝓤 (Before κs a qs bounds g) (Does 𝓤 H 𝓣.C (Behind κs a qs bounds g) (t κs a)))
      → Meets 𝓛 S.signature (WpFn 𝓤 H 𝓣.C 𝓣.Λ fn) (closing 𝓛 S c)
  followed t goes met = spelled 𝓛 S.signature (closing 𝓛 S c) (WpFn 𝓤 H 𝓣.C 𝓣.Λ fn)
      (λ κs. told (Ts κs) (spelt κs)) (λ κs. all_tell (Ts κs) (spelt κs)) (λ κs qs bounds a g are.
      via 𝓤 _ (met κs qs bounds a g are) (follow 𝓛 𝓣.C 𝓣.Λ (fm_of 𝓤 H 𝓛.laws 𝓣) (Behind κs a qs bounds g) fn (in_a_row κs a) (t κs a)
      (goes κs a) (λ bs. params_typed fn.params fn.locals bs τ (mirs (Ts κs)) (in_a_row κs a) (mir-Ts κs)
      (all_typed (Ts κs) (spelt κs) a are))))

  -- the MIR passes us to one call, and that gives what is ensured
  pub forwarded : (res : (κs : Lfts S.signature.lifetimes) → Spelt (type_at S.signature.result κs)) (callee : Callee)
      (us : (κs : Lfts S.signature.lifetimes) → Args S.signature κs → List Val)
      → ((κs : Lfts S.signature.lifetimes) (a : Args S.signature κs) → Forwards fn (in_a_row κs a) callee (us κs a))
      → ((κs : Lfts S.signature.lifetimes) (qs : Shares S.signature.lifetimes)
      (bounds : AllOutlive S.signature.lifetimes S.signature.outlives κs) (a : Args S.signature κs) (g : (c κs a).ghost)
      → ent 𝓤 (Before κs a qs bounds g) (H.⇛ (𝓣.C callee (us κs a) (Behind κs a qs bounds g))))
      → Meets 𝓛 S.signature (WpFn 𝓤 H 𝓣.C 𝓣.Λ fn) (closing 𝓛 S c)
  forwarded res callee us goes met = followed (λ κs a. asks callee (us κs a) (result_of fn.locals) gives) goes (λ κs qs bounds a g are.
      let R : RattleType = type_at S.signature.result κs in
      let own : R.Denot → Val → Fml = λ r v. R.own_val r (v ∷ []) in
      via 𝓤 _ (met κs qs bounds a g) (once 𝓛 𝓣.C 𝓣.Λ (fm_of 𝓤 H 𝓛.laws 𝓣) (Behind κs a qs bounds g) callee (us κs a)
      (result_of fn.locals)
      (fits 𝓛 (alive 𝓛 S.signature κs qs) R.Denot own (ensured 𝓛 S c κs a g) (λ v. T (has_ty (result_of fn.locals) v) × WT v)
      (λ r v. fact_use 𝓤 (Is R r (v ∷ [])) (shows 𝓛 R r (v ∷ [])) (λ is. guard_i 𝓤 _ (sem 𝓛 (own r v))
      (subst (λ (σ : Ty). T (has_ty σ v) × WT v) (result-type fn.params fn.locals τ (mirs (Ts κs)) (mir-Ts κs))
      (subst (λ (τs : List Ty). Typed τs (v ∷ [])) (one κs) ((res κs).typed r (v ∷ []) is)).0))))))

-- ---- a struct behind a reference, and other parameters
module _ (row : RattleType) (ps : List Part) (m : ℕ) (rest : List (Slot (suc m))) (ks : Kepts rest) (result : Slot (suc m)) where
  abbrev Shape : Slot (suc m) → Ended
  Shape first = record { signature = record { lifetimes = suc m; outlives = []; params = first ∷ rest; result = result }; kept = (yes, ks) }

  -- behind a `&mut`, and behind a `&`
  abbrev pub Changed : Ended
  Changed = Shape (mut_ref_to (0 ∷ []) tt (plain (λ _. row)))

  abbrev pub Looked : Ended
  Looked = Shape (shr_ref_to (0 ∷ []) tt (plain (λ _. row)))

  module _ {M : Type 1} {𝓤 : Ura M} (𝓛 : Logic 𝓤) (𝓣 : Tables 𝓤 𝓛.H) (fn : Fn) (callee : Callee)
      (spelt : (κs : Lfts (suc m)) → Spelts (types_at rest κs)) where
    -- the other parameters' machine values in a row
    open 𝓛 use {H, A}

    abbrev others : (κs : Lfts (suc m)) → Denots (types_at rest κs) → List Val
    others κs x = flat (types_at rest κs) (valss (types_at rest κs) (told (types_at rest κs) (spelt κs)) x)

    abbrev Passes : Type 0
    Passes = (κs : Lfts (suc m)) (x : Denots (types_at rest κs)) (b o : ℕ)
        → Forwards fn (vptr b o ∷ others κs x) callee (pointers b o ps (others κs x))

    -- the call meets its contract, at the lifetimes κs, a struct at a place, and the other parameters x, whose machine values are us:
    -- from what is asked it leaves what is ensured, over the parts
    module _ (κs : Lfts (suc m)) (qs : Shares (suc m)) (at : ℕ × ℕ) (x : Denots (types_at rest κs)) (us : Valss (types_at rest κs))
      where
        abbrev Met : (ν : ℕ) → Fml → SProp 𝓤 → (Y : Type 0) → (Y → Fml) → ((type_at result κs).Denot → Y → SProp 𝓤) → Type 1
        Met ν passed asked Y lasts ensures =
            ent 𝓤 (sep 𝓤 (sep 𝓤 (sep 𝓤 (A.lft (ν ∷ []) full_share) (toks 𝓛 m κs.1 qs.1)) (sem 𝓛 passed)) asked)
            (𝓣.C callee (pointers at.0 at.1 ps (flat (types_at rest κs) us)) (After 𝓛 (toks 𝓛 m κs.1 qs.1)
            (type_at result κs).Denot (λ r v. (type_at result κs).own_val r (v ∷ [])) (A.lft (ν ∷ []) full_share) Y lasts ensures))

    -- at all of these, where the struct opens
    abbrev Lends : (S : Opens 𝓛 row ps) → Clauses 𝓤 Changed → Type 1
    Lends S c = (κs : Lfts (suc m)) (qs : Shares (suc m)) (ref : MutBor row.Denot) (x : Denots (types_at rest κs)) (us : Valss (types_at rest κs))
        (g : (c κs (ref, x)).ghost) (ν : ℕ) (γs : Names ps) → Met κs qs ref.ref_ptr x us ν
        (ownss ref.ref_ptr.0 ref.ref_ptr.1 (named 0) (ν ∷ []) ps (S.parts ref.now) γs (owns (types_at rest κs) x us))
        ((c κs (ref, x)).requires g)
        (Lasts ps (Fins κs rest ks x)) (saids ref.ref_ptr.0 ref.ref_ptr.1 (ν ∷ []) ps γs (Fins κs rest ks x) (lasts_of κs rest ks x))
        (λ r zs. (c κs (ref, x)).ensures g r (
          at_last ref (S.of (firsts ps (Fins κs rest ks x) zs)),
          outs κs rest ks x (lastly ps (Fins κs rest ks x) zs),
        ))

    pub exported : (S : Opens 𝓛 row ps) (c : Clauses 𝓤 Changed) (τ : Ty) (res : (κs : Lfts (suc m)) → Spelt (type_at result κs))
        → ((κs : Lfts (suc m)) → (type_at result κs).mir ≡ τ ∷ []) → Matches Changed.signature fn → Passes → Lends S c
        → Meets 𝓛 Changed.signature (WpFn 𝓤 H 𝓣.C 𝓣.Λ fn) (closing 𝓛 Changed c)
    exported S c τ res one matches goes met = forwarded Changed 𝓛 c 𝓣 fn (λ κs. (a-mut (named 0) κs.0 row, spelt κs)) one matches res callee
        (λ κs a. pointers a.0.ref_ptr.0 a.0.ref_ptr.1 ps (others κs a.1)) (λ κs a. goes κs a.1 a.0.ref_ptr.0 a.0.ref_ptr.1)
        (λ κs qs bounds a g.
        let ref : MutBor row.Denot = a.0 in
        let x : Denots (types_at rest κs) = a.1 in
        let us : Valss (types_at rest κs) = valss (types_at rest κs) (told (types_at rest κs) (spelt κs)) x in
        let vs : List Val = pointers ref.ref_ptr.0 ref.ref_ptr.1 ps (others κs x) in
        lends-to 𝓛 (toks 𝓛 m κs.1 qs.1) (type_at result κs).Denot (λ r v. (type_at result κs).own_val r (v ∷ [])) row ps S
        (named 0) (named 0)
        κs.0 qs.0 ref.ref_ptr.0 ref.ref_ptr.1 ref.ghost_name ref.now (owns (types_at rest κs) x us) (Fins κs rest ks x)
        (lasts_of κs rest ks x)
        ((c κs a).requires g) (λ r w ws. (c κs a).ensures g r (at_last ref w, outs κs rest ks x ws)) (𝓣.C callee vs)
        (fm_of 𝓤 H 𝓛.laws 𝓣 callee vs)
        (met κs qs ref x us g))

    pub looked : (S : Looks 𝓛 row ps) (c : Clauses 𝓤 Looked) (τ : Ty) (res : (κs : Lfts (suc m)) → Spelt (type_at result κs))
        → ((κs : Lfts (suc m)) → (type_at result κs).mir ≡ τ ∷ []) → Matches Looked.signature fn → Passes
        → ((κs : Lfts (suc m)) (qs : Shares (suc m)) (ref : Bor row.Denot) (x : Denots (types_at rest κs)) (us : Valss (types_at rest κs))
        (g : (c κs (ref, x)).ghost) (ν : ℕ) → Met κs qs ref.ref_ptr x us ν
        (Looking.ownss ref.ref_ptr.0 ref.ref_ptr.1 (named 0) (ν ∷ []) ps (S.parts ref.now) (owns (types_at rest κs) x us))
        ((c κs (ref, x)).requires g)
        (Looking.Lasts ps (Fins κs rest ks x)) (Looking.saids ps (Fins κs rest ks x) (lasts_of κs rest ks x))
        (λ r zs. (c κs (ref, x)).ensures g r (ref, outs κs rest ks x (Looking.lastly ps (Fins κs rest ks x) zs))))
        → Meets 𝓛 Looked.signature (WpFn 𝓤 H 𝓣.C 𝓣.Λ fn) (closing 𝓛 Looked c)
    looked S c τ res one matches goes met = forwarded Looked 𝓛 c 𝓣 fn (λ κs. (a-shr (named 0) κs.0 row, spelt κs)) one matches res callee
        (λ κs a. pointers a.0.ref_ptr.0 a.0.ref_ptr.1 ps (others κs a.1)) (λ κs a. goes κs a.1 a.0.ref_ptr.0 a.0.ref_ptr.1)
        (λ κs qs bounds a g.
        let ref : Bor row.Denot = a.0 in
        let x : Denots (types_at rest κs) = a.1 in
        let us : Valss (types_at rest κs) = valss (types_at rest κs) (told (types_at rest κs) (spelt κs)) x in
        let vs : List Val = pointers ref.ref_ptr.0 ref.ref_ptr.1 ps (others κs x) in
        looks-to 𝓛 (toks 𝓛 m κs.1 qs.1) (type_at result κs).Denot (λ r v. (type_at result κs).own_val r (v ∷ [])) row ps S
        (named 0) (named 0)
        κs.0 qs.0 ref.ref_ptr.0 ref.ref_ptr.1 ref.now (owns (types_at rest κs) x us) (Fins κs rest ks x)
        (lasts_of κs rest ks x)
        ((c κs a).requires g) (λ r ws. (c κs a).ensures g r (ref, outs κs rest ks x ws)) (𝓣.C callee vs) (fm_of 𝓤 H 𝓛.laws 𝓣 callee vs)
        (met κs qs ref x us g))

-- ---- as the statement about the function
module _ {M : Type 1} {𝓤 : Ura M} (𝓛 : Logic 𝓤) (𝓜 : Model 𝓤 𝓛.H) (𝓡 : Running 𝓤 𝓛.H 𝓜)
    (S S' : Signature)
    (c : (Memory → SProp 𝓤) → (Routine → Fun 𝓤) → Spec 𝓤 S)
    (c' : (Memory → SProp 𝓤) → (Routine → Fun 𝓤) → Spec 𝓤 S')
  where
    open 𝓛 use {H}

    pub concluded : (env : Env) (key : Callee) (fn : Fn) → Closed 𝓤 H (tables 𝓤 H 𝓜 𝓡 env).C (tables 𝓤 H 𝓜 𝓡 env).Λ key fn
        → (callee : Callee) (r : Routine) → env callee ≡ r → Meets 𝓛 S' (𝓡.run r) (c' 𝓜.mem 𝓡.returns)
        → ((𝓣 : Tables 𝓤 H) → Triple 𝓤 (𝓣.C callee) (triple_of 𝓛 S' (c' 𝓜.mem 𝓡.returns))
        → Meets 𝓛 S (WpFn 𝓤 H 𝓣.C 𝓣.Λ fn) (c 𝓜.mem 𝓡.returns))
        → Meets 𝓛 S (𝓡.run (env key)) (c 𝓜.mem 𝓡.returns)
    unfolding tables_of
    concluded env key fn unfolded callee r calls met meets =
        entered 𝓤 H (triple_of 𝓛 S (c 𝓜.mem 𝓡.returns)) (tables 𝓤 H 𝓜 𝓡 env).C
        (tables 𝓤 H 𝓜 𝓡 env).Λ key fn unfolded
        (meets (tables_of 𝓤 H 𝓜 (tables 𝓤 H 𝓜 𝓡 env))
        (cited 𝓤 H (triple_of 𝓛 S' (c' 𝓜.mem 𝓡.returns)) 𝓜 𝓡 env callee r calls met))

-- ---- both, for a struct of simple fields all of whose parts are lent
module _ (F : Flat) (m : ℕ) (rest : List (Slot (suc m))) (ks : Kepts rest) (result : Slot (suc m))
    {M : Type 1} {𝓤 : Ura M} (𝓛 : Logic 𝓤) (𝓜 : Model 𝓤 𝓛.H) (𝓡 : Running 𝓤 𝓛.H 𝓜) where
  open 𝓛 use {H}

  abbrev Lent : Ended
  Lent = Changed (row_by F) (parts_of F) m rest ks result

  pub lent : (c : Clauses 𝓤 Lent) (S' : Signature) (c' : Spec 𝓤 S') (env : Env) (key : Callee) (fn : Fn)
      → Closed 𝓤 H (tables 𝓤 H 𝓜 𝓡 env).C (tables 𝓤 H 𝓜 𝓡 env).Λ key fn
      → (callee : Callee) (r : Routine) → env callee ≡ r → Meets 𝓛 S' (𝓡.run r) c'
      → (spelt : (κs : Lfts (suc m)) → Spelts (types_at rest κs)) {τ : Ty} (res : (κs : Lfts (suc m)) → Spelt (type_at result κs))
      → ((κs : Lfts (suc m)) → (type_at result κs).mir ≡ τ ∷ []) → Matches Lent.signature fn
      → ((𝓣 : Tables 𝓤 H) → Passes (row_by F) (parts_of F) m rest ks result 𝓛 𝓣 fn callee spelt)
      → ((𝓣 : Tables 𝓤 H) → Triple 𝓤 (𝓣.C callee) (triple_of 𝓛 S' c')
      → Lends (row_by F) (parts_of F) m rest ks result 𝓛 𝓣 fn callee spelt
      (opens F 𝓛) c)
      → Meets 𝓛 Lent.signature (𝓡.run (env key)) (closing 𝓛 Lent c)
  lent c S' c' env key fn unfolded callee r calls met spelt {τ} res one matches goes knows =
      concluded 𝓛 𝓜 𝓡 Lent.signature S' (λ _ _. closing 𝓛 Lent c) (λ _ _. c') env key fn unfolded callee r calls met
      (λ 𝓣 known. exported (row_by F) (parts_of F) m rest ks result 𝓛 𝓣 fn callee spelt
      (opens F 𝓛) c τ res one matches (goes 𝓣) (knows 𝓣 known))

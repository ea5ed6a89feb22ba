-- What proofs by hand of the functions over a `Reader` share, which the check finds itself now. The code of each does what a course says
-- (`Forward.antt` of the crate `lending`).
--     D, L, B          the struct's type at a signature's one lifetime: as declared, its laws, and as a row
--     Step             what a reader gives at a place, as a row
--     a-reader         how a `Reader` is spelled
--     reader-typed, step_typed     the machine value of a `Reader`, whatever name the lifetime has, and of a `Step` has its type
--     number           what a `usize` owns is a fact alone, so it is had for nothing
--     Told             a callee's contract, by its clauses
--     answered         a call: what meets it is had; then there is what the result owns and the tokens again, and what the callee says of it
--     ends             a result with the tokens, and what is ensured of it, is what a contract asks at the end that says nothing of parameters
-- The laws and the steps take `Logic`. The rest assumes nothing.
use Rattle.lending.proofs.Walks.{refl, ℕ, zero, suc, ◌<◌, ◌^◌, List, [], ◌∷◌, T as Holds, Ura, w64, Ty, Callee, Val, WT, has_ty, vint, SProp, ent}
use Rattle.lending.proofs.Walks.{sep, emp, id⊢, emp∗, guard, via, snd∗, ex_e, Fml, ftrue, fsep, Lfts, fact, Item, ‵, raw, ◌⊛◌}
use Rattle.lending.proofs.Walks.{some, later, pop, Goal, Step as KStep, ◌$◌, ◌∵◌, !, qed, by, move, split, use0, use1, pick, await, check, updating}
use Rattle.lending.proofs.Walks.{at_once, show, frame, RattleType, Is, shows, uint_Makes, usize, NamedLft, named_lft, type_at, owned, peeks, heard}
use Rattle.lending.proofs.Walks.{Declared, Ended, Clauses, AtExit, Lasts, at_exit, lasts, closing, ensured, Args, alive, triple_of, Contract, Triple}
use Rattle.lending.proofs.Walks.{◌≡◌, Model, Running, Fn, Closed, tables, tables_of, types_at, Matches, valss, flat, Shares, AllOutlive}
use Rattle.lending.proofs.Walks.{Are, Ises, on_entry, entered, cited, fst∗, Routine}
use prog.Routine.{Env}
use denote.Struct.Laws as LL
use Rattle.lending.proofs.Spelt.{Spelt, Spelts, told}
use Rattle.lending.proofs.Forward.{Course, asks, Follows, Does}
use Rattle.lending.proofs.Exports.{followed}
use Rattle.capture.specs.declared.reader.Reader.{Reader}
use Rattle.capture.specs.contracts.reader.Reader as T
use Rattle.capture.specs.contracts.Record as S
use Rattle.capture.specs.contracts.RecordWrong as W
use Rattle.std.specs.contracts.option.Option.{the_row as OptionOf}
use Rattle.std.specs.contracts.result.Result.{the_row as ResultOf}
use Rattle.std.proofs.option.Option.TheLaws.{the_row_laws as option_laws}
use Rattle.std.proofs.result.Result.TheLaws.{the_row_laws as result_laws}
use denote.Param.{layout}
use Rattle.capture.proofs.reader.Reader.TheLaws as T'
use Rattle.capture.proofs.Record.TheLaws as S'
use Rattle.capture.proofs.RecordWrong.TheLaws as W'
use types.Logic.{Logic, sem}

abbrev pub D : Lfts 1 → Declared
D κs = T.the_type (named_lft 1 0 tt κs)

abbrev pub L : (κs : Lfts 1) → LL.Laws (D κs)
L κs = T'.the_laws (named_lft 1 0 tt κs)

abbrev pub B : Lfts 1 → RattleType
B κs = T.the_row (named_lft 1 0 tt κs)

-- a record or that it is wrong, and what a reader gives at a place: one of these, or nothing
abbrev pub Tried : RattleType
Tried = ResultOf S.the_row W.the_row

abbrev pub Step : RattleType
Step = OptionOf Tried

-- what is said of n parameters at exit of which nothing is said
abbrev trues : ℕ → Fml
trues zero = ftrue
trues (suc n) = fsep ftrue (trues n)

module _ {M : Type 1} {𝓤 : Ura M} (𝓛 : Logic 𝓤) where
  pub reader-typed : (α : NamedLft) (d : Reader) (u : Val) → Is (T.the_row α) d (u ∷ []) → Holds (has_ty (T'.mir α.mir) u) × WT u
  reader-typed α d u is = ((LL.lawful (T.the_type α) (T'.the_laws α) 𝓛).typed d (u ∷ []) is).0

  pub step_typed : (r : Step.Denot) (u : Val) → Is Step r (u ∷ []) → Holds (has_ty (layout Step) u) × WT u
  step_typed r u is =
      (((option_laws Tried (result_laws S.the_row W.the_row S'.the_row_laws W'.the_row_laws)).lawful 𝓛).typed r (u ∷ []) is).0

  abbrev pub a-reader : (κs : Lfts 1) → Spelt (B κs)
  a-reader κs = record { vals = LL.vals (D κs) (L κs); tells = LL.tells (D κs) (L κs); typed = (LL.lawful (D κs) (L κs) 𝓛).typed }

  -- of a callee that requires nothing
  pub asked : (P : SProp 𝓤) → ent 𝓤 P (sep 𝓤 P (emp 𝓤))
  asked P = pop 𝓛 (raw P) []

  pub silent : (n : ℕ) → ent 𝓤 (emp 𝓤) (sem 𝓛 (trues n))
  silent zero = id⊢ 𝓤 (emp 𝓤)
  silent (suc n) = via 𝓤 (sem 𝓛 (trues n)) (silent n) (emp∗ 𝓤 (sem 𝓛 (trues n)))

module _ {M : Type 1} {𝓤 : Ura M} {𝓛 : Logic 𝓤} {K : Type 0} {Γ : List (Item 𝓤)} {G : Goal 𝓤 𝓛.H} where
  pub number : K → (n : ℕ) → n < 2 ^ 64 → KStep K 𝓛 (‵ (usize.own_val n (vint w64 n ∷ [])) ∷ Γ) G Γ G
  number t n ok = owned t usize (Is usize) (uint_Makes 𝓛 w64) n (vint w64 n ∷ []) (refl, ok)

module _ {M : Type 1} {𝓤 : Ura M} (𝓛 : Logic 𝓤) (𝓜 : Model 𝓤 𝓛.H) (𝓡 : Running 𝓤 𝓛.H 𝓜) (T : Ended) (c : Clauses 𝓤 T) where
  open 𝓛 use {H}

  abbrev pub Told : Contract 𝓤
  Told = triple_of 𝓛 T.signature (closing 𝓛 T c)

  -- at y, which is all that the contract binds
  module _ (y : Told.Ghost) where
    abbrev κs : Lfts T.signature.lifetimes
    κs = y.0.0

    abbrev a : Args T.signature κs
    a = y.0.3

    abbrev R : RattleType
    R = type_at T.signature.result κs

    abbrev Tokens : SProp 𝓤
    Tokens = alive 𝓛 T.signature κs y.0.1

    pub ends : (u : Val) (r : R.Denot) (ws : Lasts T κs a) → ent 𝓤 (emp 𝓤) (sem 𝓛 (lasts T κs a ws))
        → ((P : SProp 𝓤) → ent 𝓤 P ((c κs a).ensures y.1 r (at_exit T κs a ws)))
        → ent 𝓤 (sep 𝓤 Tokens (sem 𝓛 (R.own_val r (u ∷ [])))) (Told.post y u)
    ends u r ws quiet ensures =
        qed 𝓛 ((raw Tokens ⊛ ‵ (R.own_val r (u ∷ []))) ∷ []) ∵ updating ! $ at_once ! $
        show ! (λ (r' : R.Denot). sep 𝓤 (sep 𝓤 Tokens (sem 𝓛 (R.own_val r' (u ∷ [])))) (ensured 𝓛 T c κs a y.1 r')) r $ frame ! $
        show ! (λ (ws' : Lasts T κs a). sep 𝓤 (sem 𝓛 (lasts T κs a ws')) ((c κs a).ensures y.1 r (at_exit T κs a ws'))) ws $
        use0 𝓛 (‵ (lasts T κs a ws)) quiet $ frame ! $ by ! (ensures _)

    pub answered : (env : Env) (f : Callee) (routine : Routine) → env f ≡ routine → Triple 𝓤 (𝓡.run routine) Told
        → (τ : Ty) → ((r : R.Denot) (u : Val) → Is R r (u ∷ []) → Holds (has_ty τ u) × WT u)
        → (φ : R.Denot → Type 0) → ((r : R.Denot) (e : AtExit T κs) → ent 𝓤 ((c κs a).ensures y.1 r e) (fact 𝓤 (φ r)))
        → {P : SProp 𝓤} → ent 𝓤 P (Told.pre y) → (Q : Val → SProp 𝓤) (more : Val → Course)
        → ((u : Val) (r : R.Denot) → φ r → ent 𝓤 (sep 𝓤 Tokens (sem 𝓛 (R.own_val r (u ∷ [])))) (Does 𝓤 H (tables 𝓤 H 𝓜 𝓡 env).C Q (more u)))
        → ent 𝓤 P (Does 𝓤 H (tables 𝓤 H 𝓜 𝓡 env).C Q (asks f (Told.args y) τ more))
    unfolding tables_of
    answered env f routine calls met τ typed φ says {P} goes Q more k =
        let 𝓣 = tables_of 𝓤 H 𝓜 (tables 𝓤 H 𝓜 𝓡 env) in
        let K : Val → SProp 𝓤 = λ u. H.⇛ (guard 𝓤 (Holds (has_ty τ u) × WT u) (Does 𝓤 H 𝓣.C Q (more u))) in
        via 𝓤 (𝓣.C f (Told.args y) K) (via 𝓤 (𝓣.C f (Told.args y) (Told.post y))
        (via 𝓤 (Told.pre y) goes (cited 𝓤 H Told 𝓜 𝓡 env f routine calls met y)) (𝓣.mono f (Told.args y) (Told.post y) K (λ u.
        qed 𝓛 (later (some (λ (r : R.Denot). (raw Tokens ⊛ ‵ (R.own_val r (u ∷ []))) ⊛ raw (ensured 𝓛 T c κs a y.1 r))) ∷ []) ∵
        updating ! $ await ! tt $ pick ! (λ r. split ! $ move ! (1 ∷ []) $
        use1 𝓛 (raw (fact 𝓤 (φ r))) (ex_e 𝓤 _ (λ ws. via 𝓤 _ (snd∗ 𝓤 (sem 𝓛 (lasts T κs a ws)) _) (says r _))) $
        heard ! (φ r) (λ e. split ! $ move ! (1 ∷ []) $ peeks ! R (Is R) (shows 𝓛 R) r (u ∷ []) (λ is.
        at_once ! $ check ! (typed r u is) $ move ! (1 ∷ 0 ∷ []) $ by ! (k u r e)))))))
        (𝓛.laws.⇛_intro _)

  -- of a function that requires nothing
  pub concluded : (env : Env) (key : Callee) (fn : Fn) → Closed 𝓤 H (tables 𝓤 H 𝓜 𝓡 env).C (tables 𝓤 H 𝓜 𝓡 env).Λ key fn
      → (spelt : (κs : Lfts T.signature.lifetimes) → Spelts (types_at T.signature.params κs)) {τ : Ty}
      → ((κs : Lfts T.signature.lifetimes) → (type_at T.signature.result κs).mir ≡ τ ∷ []) → Matches T.signature fn
      → (t : (κs : Lfts T.signature.lifetimes) → Args T.signature κs → Course)
      → ((κs : Lfts T.signature.lifetimes) (a : Args T.signature κs) → let ss = types_at T.signature.params κs in
      Follows fn (flat ss (valss ss (told ss (spelt κs)) a)) (t κs a))
      → ((κs : Lfts T.signature.lifetimes) (qs : Shares T.signature.lifetimes)
      (bounds : AllOutlive T.signature.lifetimes T.signature.outlives κs) (a : Args T.signature κs) (g : (c κs a).ghost)
      → let ss = types_at T.signature.params κs in let vs = valss ss (told ss (spelt κs)) a in Are ss (Ises ss) a vs
      → ent 𝓤 (on_entry 𝓛 T.signature κs qs a vs)
      (Does 𝓤 H (tables 𝓤 H 𝓜 𝓡 env).C (Told.post ((κs, qs, bounds, a, vs), g)) (t κs a)))
      → Triple 𝓤 ((tables 𝓤 H 𝓜 𝓡 env).C key) Told
  unfolding tables_of
  concluded env key fn closed spelt one matches t follows met =
      entered 𝓤 H Told (tables 𝓤 H 𝓜 𝓡 env).C (tables 𝓤 H 𝓜 𝓡 env).Λ key fn closed
      (followed T 𝓛 c (tables_of 𝓤 H 𝓜 (tables 𝓤 H 𝓜 𝓡 env)) fn spelt one matches t follows
      (λ κs qs bounds a g are. via 𝓤 _ (fst∗ 𝓤 _ ((c κs a).requires g)) (met κs qs bounds a g are)))

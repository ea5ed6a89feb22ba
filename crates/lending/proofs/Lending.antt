-- A struct behind a `&mut` is taken apart, each part is lent as a `&mut` to one call, in front of whatever else is passed, the
-- parts come back, the struct is put together, and its borrow is shut. It names no struct and no function of any crate.
--     Part             a part's type, and where it lies in a struct at o
--     Opens row ps     a struct of the type row in memory is its parts ps side by side, and back
--     After            what a call leaves: the tokens, its result, and the last values with what is ensured of them
--     lends-to         a call that meets a contract over the parts meets the contract over the struct
--     fits             a result is one of its type
--     spelled          a contract is met, from a proof at the parameters' machine values written out
-- Assumes `Logic`.
use types.Logic.{Logic, sem}
use denote.Ref.{MutBor}
use Rattle.lending.proofs.Walks.{ℕ, List, [], ◌∷◌, Ura, full_share, Lifetime, Val, vptr, SProp, ent, sep, ex, wand, guard, via, comm∗, mono_l}
use Rattle.lending.proofs.Walks.{wand_i, apply∗, Lft, GName, Share, Fml, ftrue, fsep, fdead, flft, flent, fres, fobs, fauth, fbor, fobor}
use Rattle.lending.proofs.Walks.{Lfts, Shares, AllOutlive, Fun, ‵, raw, ◌⊛◌, some, later, given, ⋆, ◌$◌, ◌∵◌, !, qed, by, move}
use Rattle.lending.proofs.Walks.{keep, use1, use2, use3, drop, split, join, pick, learn, check, fsplit, fsplit3, fjoin, await, updating}
use Rattle.lending.proofs.Walks.{at_once, show, frame, done, open_ref, close_ref, lft_new, lft_end, RattleType, flat, Are, Ises, Spells, valss}
use Rattle.lending.proofs.Walks.{Tellss, Signature, types_at, part_at, mem, MutRef, lends_ref, ref_back, said, Args, Vals, on_entry, Spec}
use Rattle.lending.proofs.Walks.{Meets, triple_of}
use types.SemTy.{Body}

pub record Part : Type 2 where
  pub row : RattleType
  pub at : ℕ → ℕ

abbrev pub Values : List Part → Type 0
Values [] = Unit {0}
Values (p ∷ ps) = p.row.Denot × Values ps

abbrev pub Names : List Part → Type 0
Names [] = Unit {0}
Names (p ∷ ps) = GName × Names ps

-- ---- in front of what else is passed, Y: the references, their machine values, what they own; and their last values
abbrev pub Refs : List Part → Type 0 → Type 0
Refs [] Y = Y
Refs (p ∷ ps) Y = MutBor p.row.Denot × Refs ps Y

abbrev pub Ptrs : List Part → Type 0 → Type 0
Ptrs [] Y = Y
Ptrs (p ∷ ps) Y = List Val × Ptrs ps Y

abbrev pub Lasts : List Part → Type 0 → Type 0
Lasts [] Y = Y
Lasts (p ∷ ps) Y = p.row.Denot × Lasts ps Y

abbrev pub firsts : (ps : List Part) (Y : Type 0) → Lasts ps Y → Values ps
firsts [] Y zs = tt
firsts (p ∷ ps) Y zs = (zs.0, firsts ps Y zs.1)

abbrev pub lastly : (ps : List Part) (Y : Type 0) → Lasts ps Y → Y
lastly [] Y zs = zs
lastly (p ∷ ps) Y zs = lastly ps Y zs.1

module _ (b o : ℕ) where
  abbrev pub refs : (ps : List Part) → Values ps → Names ps → (Y : Type 0) → Y → Refs ps Y
  refs [] a γs Y y = y
  refs (p ∷ ps) a γs Y y = (record { ref_ptr = (b, p.at o); ghost_name = γs.0; now = a.0 }, refs ps a.1 γs.1 Y y)

  abbrev pub ptrs : (ps : List Part) (Y : Type 0) → Y → Ptrs ps Y
  ptrs [] Y y = y
  ptrs (p ∷ ps) Y y = (vptr b (p.at o) ∷ [], ptrs ps Y y)

  -- the machine values in a row
  abbrev pub pointers : List Part → List Val → List Val
  pointers [] us = us
  pointers (p ∷ ps) us = vptr b (p.at o) ∷ pointers ps us

  abbrev pub lie : Share → (ps : List Part) → Values ps → Fml
  lie t [] a = ftrue
  lie t (p ∷ ps) a = fsep (part_at p.row t a.0 b (p.at o)) (lie t ps a.1)

  -- what each `&mut` at κ leaves: its last value, and its borrow, shut
  abbrev pub saids : Lft → (ps : List Part) → Names ps → (Y : Type 0) → (Y → Fml) → Lasts ps Y → Fml
  saids κ [] γs Y F zs = F zs
  saids κ (p ∷ ps) γs Y F zs =
      fsep (fsep (fres γs.0 (p.row.coded.code zs.0)) (fbor κ (Body (mem p.row) b (p.at o) γs.0))) (saids κ ps γs.1 Y F zs.1)

  module _ (ℓ : Lifetime) (κ : Lft) where
    abbrev pub ownss : (ps : List Part) → Values ps → Names ps → Fml → Fml
    ownss [] a γs B = B
    ownss (p ∷ ps) a γs B =
        fsep ((MutRef ℓ κ p.row).own_val (record { ref_ptr = (b, p.at o); ghost_name = γs.0; now = a.0 }) (vptr b (p.at o) ∷ []))
        (ownss ps a.1 γs.1 B)

    abbrev loans : (ps : List Part) → Names ps → Fml
    loans [] γs = ftrue
    loans (p ∷ ps) γs = fsep (flent κ (Body (mem p.row) b (p.at o) γs.0)) (loans ps γs.1)

    module _ {M : Type 1} {𝓤 : Ura M} (𝓛 : Logic 𝓤) where
      open 𝓛 use {H, A}

      abbrev Lent : (ps : List Part) → Values ps → Fml → Names ps → SProp 𝓤
      Lent ps a B γs = sep 𝓤 (sem 𝓛 (ownss ps a γs B)) (sem 𝓛 (loans ps γs))

      lends-all : (ps : List Part) (a : Values ps) (B : Fml) → ent 𝓤 (sep 𝓤 (sem 𝓛 (lie full_share ps a)) (sem 𝓛 B))
          (H.⇛ (ex 𝓤 (Lent ps a B)))
      lends-all [] a B = qed 𝓛 (‵ ftrue ∷ ‵ B ∷ []) ∵ updating ! $ at_once ! $ show ! (Lent [] a B) tt $ move ! (1 ∷ 0 ∷ []) $ done !
      lends-all (p ∷ ps) a B =
          qed 𝓛 (‵ (lie full_share (p ∷ ps) a) ∷ ‵ B ∷ []) ∵ updating ! $ fsplit ! $
          use1 𝓛 (later (some (λ (γ : GName). ‵ ((MutRef ℓ κ p.row).own_val (record { ref_ptr = (b, p.at o); ghost_name = γ; now = a.0 })
          (vptr b (p.at o) ∷ [])) ⊛ ‵ (flent κ (Body (mem p.row) b (p.at o) γ)))))
          (lends_ref 𝓛 p.row ℓ κ a.0 b (p.at o)) $ await ! tt $ pick ! (λ γ. split ! $ move ! (2 ∷ 3 ∷ []) $
          use2 𝓛 (later (some (λ (γs : Names ps). ‵ (ownss ps a.1 γs B) ⊛ ‵ (loans ps γs)))) (lends-all ps a.1 B) $
          await ! tt $ pick ! (λ γs. split ! $
          -- [the other references; the other loans; the first reference; the first loan]
          at_once ! $ show ! (Lent (p ∷ ps) a B) (γ, γs) $ move ! (2 ∷ 0 ∷ []) $ fjoin ! $ frame ! $ move ! (1 ∷ 0 ∷ []) $ fjoin ! $ done
          !))

      all_back : (ps : List Part) (γs : Names ps) (Y : Type 0) (F : Y → Fml) (zs : Lasts ps Y)
          → ent 𝓤 (sep 𝓤 (A.dead κ) (sep 𝓤 (sem 𝓛 (loans ps γs)) (sem 𝓛 (saids κ ps γs Y F zs))))
          (H.⇛ (sep 𝓤 (sem 𝓛 (lie full_share ps (firsts ps Y zs))) (sem 𝓛 (F (lastly ps Y zs)))))
      all_back [] γs Y F zs = qed 𝓛 (‵ (fdead κ) ∷ ‵ ftrue ∷ ‵ (F zs) ∷ []) ∵ updating ! $ at_once ! $ keep ! (1 ∷ 2 ∷ []) $ done
          !
      all_back (p ∷ ps) γs Y F zs =
          qed 𝓛 (‵ (fdead κ) ∷ ‵ (loans (p ∷ ps) γs) ∷ ‵ (saids κ (p ∷ ps) γs Y F zs) ∷ []) ∵ updating ! $
          use1 𝓛 (‵ (fdead κ) ⊛ ‵ (fdead κ)) (𝓛.lfts.dead_dup κ) $ split ! $ move ! (2 ∷ []) $ fsplit ! $ move ! (4 ∷ []) $ fsplit ! $ fsplit ! $
          -- [the first's last value; its borrow; the others' last values; the first loan; the others; dead; dead]
          move ! (1 ∷ []) $ drop ! $ move ! (4 ∷ 2 ∷ 0 ∷ []) $ use3 𝓛 (later (‵ (part_at p.row full_share zs.0 b (p.at o))))
          (ref_back 𝓛 p.row κ γs.0 zs.0 b (p.at o)) $ await ! tt $
          move ! (3 ∷ 2 ∷ 1 ∷ []) $ use3 𝓛 (later (‵ (lie full_share ps (firsts ps Y zs.1)) ⊛ ‵ (F (lastly ps Y zs.1))))
          (all_back ps γs.1 Y F zs.1) $ await ! tt $ split ! $ at_once ! $ move ! (2 ∷ 0 ∷ []) $ fjoin ! $ done !

-- ---- a struct in memory is its parts side by side, and back
pub record Opens {M : Type 1} {𝓤 : Ura M} (𝓛 : Logic 𝓤) (row : RattleType) (ps : List Part) : Type 2 where
  pub parts : row.Denot → Values ps
  pub of : Values ps → row.Denot
  pub Rejoins : ℕ → ℕ → SProp 𝓤
  pub apart : (g : row.Denot) (b o : ℕ) → ent 𝓤 (sem 𝓛 (part_at row full_share g b o))
      (sep 𝓤 (sem 𝓛 (lie b o full_share ps (parts g))) (Rejoins b o))
  pub rejoin : (a : Values ps) (b o : ℕ) → ent 𝓤 (sep 𝓤 (sem 𝓛 (lie b o full_share ps a)) (Rejoins b o))
      (sem 𝓛 (part_at row full_share (of a) b o))

module _ {M : Type 1} {𝓤 : Ura M} (𝓛 : Logic 𝓤) where
  open 𝓛 use {H, A}

  module _ (Others : SProp 𝓤) (Res : Type 0) (result : Res → Val → Fml) where
    -- what a call leaves: a token beside the others, its result, and some last values, with what is said and ensured of them
    abbrev pub Left : SProp 𝓤 → (Y : Type 0) → (Y → Fml) → (Res → Y → SProp 𝓤) → Val → Res → SProp 𝓤
    Left token Y lasts ensures v r = sep 𝓤 (sep 𝓤 (sep 𝓤 token Others) (sem 𝓛 (result r v)))
        (ex 𝓤 (λ (ys : Y). sep 𝓤 (sem 𝓛 (lasts ys)) (ensures r ys)))

    abbrev pub After : SProp 𝓤 → (Y : Type 0) → (Y → Fml) → (Res → Y → SProp 𝓤) → Val → SProp 𝓤
    After token Y lasts ensures v = H.⇛ (ex 𝓤 (Left token Y lasts ensures v))

    -- the struct g behind the reference at (b, o) under the name γ; what else is passed owns B, and leaves what F says
    module _ (row : RattleType) (ps : List Part) (S : Opens 𝓛 row ps) (ℓ ℓ' : Lifetime) (κ : Lft) (q : Share) (b o : ℕ) (γ : GName)
        (g : row.Denot) (B : Fml) (Y : Type 0) (F : Y → Fml) (Asked : SProp 𝓤) (ensures : Res → row.Denot → Y → SProp 𝓤) where
      -- what the `&mut` leaves
      abbrev shut : row.Denot → Fml
      shut w = fsep (fres γ (row.coded.code w)) (fbor κ (Body (mem row) b o γ))

      abbrev over-struct : Val → SProp 𝓤
      over-struct = After (A.lft κ q) (row.Denot × Y) (λ ws. fsep (shut ws.0) (F ws.1))
          (λ r ws. ensures r ws.0 ws.1)

      abbrev over-parts : ℕ → Names ps → Val → SProp 𝓤
      over-parts ν γs = After (A.lft (ν ∷ []) full_share) (Lasts ps Y) (saids b o (ν ∷ []) ps γs Y F)
          (λ r zs. ensures r (S.of (firsts ps Y zs)) (lastly ps Y zs))

      abbrev Kept : ℕ → Names ps → SProp 𝓤
      Kept ν γs = ⋆ 𝓛 (‵ (loans b o ℓ' (ν ∷ []) ps γs) ∷ raw (S.Rejoins b o) ∷ ‵ (fobor κ q (Body (mem row) b o γ))
          ∷ ‵ (fobs γ (row.coded.code g)) ∷ ‵ (fauth γ (row.coded.code g)) ∷ [])

      comes_back : (ν : ℕ) (γs : Names ps) (v : Val) → ent 𝓤 (sep 𝓤 (over-parts ν γs v) (Kept ν γs)) (over-struct v)
      comes_back ν γs v =
          qed 𝓛 (later (some (λ (r : Res). ((‵ (flft (ν ∷ []) full_share) ⊛ raw Others) ⊛ ‵ (result r v)) ⊛ some (λ (zs : Lasts ps Y).
          ‵ (saids b o (ν ∷ []) ps γs Y F zs) ⊛ raw (ensures r (S.of (firsts ps Y zs)) (lastly ps Y zs)))))
          ∷ ‵ (loans b o ℓ' (ν ∷ []) ps γs) ∷ raw (S.Rejoins b o) ∷ ‵ (fobor κ q (Body (mem row) b o γ))
          ∷ ‵ (fobs γ (row.coded.code g)) ∷ ‵ (fauth γ (row.coded.code g)) ∷ []) ∵ updating ! $ await ! tt $ pick ! (λ r. split ! $
          move ! (1 ∷ []) $ pick ! (λ zs. split ! $ move ! (2 ∷ []) $ split ! $ split ! $
          let g' : row.Denot = S.of (firsts ps Y zs) in
          -- [the lifetime; the other tokens; the result; the last values; what is ensured; the loans; the way back; the open borrow; obs; auth]
          lft_end ! tt $ move ! (0 ∷ 5 ∷ 3 ∷ []) $ use3 𝓛 (later (‵ (lie b o full_share ps (firsts ps Y zs)) ⊛ ‵ (F (lastly ps Y zs))))
          (all_back b o ℓ' (ν ∷ []) 𝓛 ps γs Y F zs) $ await ! tt $ split ! $ move ! (0 ∷ 5 ∷ []) $
          use2 𝓛 (‵ (part_at row full_share g' b o)) (S.rejoin (firsts ps Y zs) b o) $ move ! (0 ∷ 5 ∷ 6 ∷ 7 ∷ []) $
          close_ref ! tt (mem row) g' {b = b} {o = o} $
          -- [obs; the borrow; the token; the others' last values; the other tokens; the result; what is ensured]
          use1 𝓛 (‵ (fres γ (row.coded.code g'))) (𝓛.names.obs-res γ (row.coded.code g')) $ fjoin ! $ at_once ! $
          show ! (Left (A.lft κ q) (row.Denot × Y) (λ ws. fsep (shut ws.0) (F ws.1)) (λ r' ws. ensures r' ws.0 ws.1) v) r $
          move ! (1 ∷ 3 ∷ []) $ join ! $ move ! (0 ∷ 3 ∷ []) $ join ! $ frame ! $
          show !
          (λ (ws : row.Denot × Y). sep 𝓤 (sem 𝓛 (fsep (shut ws.0) (F ws.1))) (ensures r ws.0 ws.1))
          (g', lastly ps Y zs) $ fjoin ! $ done !))

      -- run is a call, which meets its contract whatever names the references have
      pub lends-to : (run : (Val → SProp 𝓤) → SProp 𝓤)
          → ((K K' : Val → SProp 𝓤) (R : SProp 𝓤) → ((v : Val) → ent 𝓤 (sep 𝓤 (K v) R) (K' v))
          → ent 𝓤 (sep 𝓤 (run K) R) (run K'))
          → ((ν : ℕ) (γs : Names ps) → ent 𝓤 (sep 𝓤 (sep 𝓤 (sep 𝓤 (A.lft (ν ∷ []) full_share) Others)
          (sem 𝓛 (ownss b o ℓ' (ν ∷ []) ps (S.parts g) γs B))) Asked) (run (over-parts ν γs)))
          → ent 𝓤 (sep 𝓤 (sep 𝓤 (sep 𝓤 (A.lft κ q) Others)
          (sem 𝓛 (fsep ((MutRef ℓ κ row).own_val (record { ref_ptr = (b, o); ghost_name = γ; now = g }) (vptr b o ∷ [])) B))) Asked)
          (H.⇛ (run over-struct))
      lends-to run framed known =
          qed 𝓛 (((‵ (flft κ q) ⊛ raw Others) ⊛ ‵
          (fsep ((MutRef ℓ κ row).own_val (record { ref_ptr = (b, o); ghost_name = γ; now = g }) (vptr b o ∷ [])) B))
          ∷ raw Asked ∷ []) ∵ updating ! $ split ! $ split ! $ move ! (2 ∷ []) $ fsplit ! $ fsplit3 ! $ drop ! $ move ! (0 ∷ 1 ∷ 3 ∷ [])
          $
          open_ref ! tt (mem row) {b = b} {o = o} $
          use1 𝓛 (‵ (lie b o full_share ps (S.parts g)) ⊛ raw (S.Rejoins b o)) (S.apart g b o) $ split ! $
          -- [the parts; the way back; the open borrow; obs; auth; B; the other tokens; what is asked]
          lft_new ! tt (λ ν. move ! (1 ∷ 6 ∷ []) $
          use2 𝓛 (later
          (some (λ (γs : Names ps). ‵ (ownss b o ℓ' (ν ∷ []) ps (S.parts g) γs B) ⊛ ‵ (loans b o ℓ' (ν ∷ []) ps γs))))
          (lends-all b o ℓ' (ν ∷ []) 𝓛 ps (S.parts g) B) $ await ! tt $ pick ! (λ γs. split ! $
          -- [what is passed; the loans; the lifetime; the way back; the open borrow; obs; auth; the other tokens; what is asked]
          move ! (2 ∷ 7 ∷ []) $ join ! $ join ! $ move ! (0 ∷ 6 ∷ []) $ use2 𝓛 (raw (run (over-parts ν γs))) (known ν γs) $ at_once ! $
          by ! (framed (over-parts ν γs) over-struct (Kept ν γs) (comes_back ν γs))))

  -- a result is one of its type, whatever stands beside it
  pub fits : (P : SProp 𝓤) (Res : Type 0) (result : Res → Val → Fml) (X : Res → SProp 𝓤) (φ : Val → Type 0)
      → ((r : Res) (v : Val) → ent 𝓤 (sem 𝓛 (result r v)) (guard 𝓤 (φ v) (sem 𝓛 (result r v)))) → (v : Val)
      → ent 𝓤 (H.⇛ (ex 𝓤 (λ (r : Res). sep 𝓤 (sep 𝓤 P (sem 𝓛 (result r v))) (X r))))
      (H.⇛ (guard 𝓤 (φ v) (H.⇛ (ex 𝓤 (λ (r : Res). sep 𝓤 (sep 𝓤 P (sem 𝓛 (result r v))) (X r))))))
  fits P Res result X φ typed v =
      qed 𝓛 (later (some (λ (r : Res). (raw P ⊛ ‵ (result r v)) ⊛ raw (X r))) ∷ []) ∵ updating ! $ await ! tt $
      pick ! (λ r. split ! $ split ! $ move ! (1 ∷ []) $ use1 𝓛 (given (φ v) (‵ (result r v))) (typed r v) $ learn ! (λ ok.
      at_once ! $ check ! ok $ updating ! $ at_once ! $ show ! (λ (r' : Res). sep 𝓤 (sep 𝓤 P (sem 𝓛 (result r' v))) (X r')) r $
      move ! (1 ∷ 0 ∷ []) $ join ! $ frame ! $ done !))

  -- `Denote/Triple/Walked.antt`'s `walked`, for the contract itself
  module _ (S : Signature) (c : Spec 𝓤 S) (run : Fun 𝓤) where
    pub spelled : (sp : (κs : Lfts S.lifetimes) → Spells (types_at S.params κs))
        → ((κs : Lfts S.lifetimes) → Tellss (types_at S.params κs) (Ises (types_at S.params κs)) (sp κs))
        → ((κs : Lfts S.lifetimes) (qs : Shares S.lifetimes) (bounds : AllOutlive S.lifetimes S.outlives κs) (a : Args S κs)
        (g : (c κs a).ghost)
        → Are (types_at S.params κs) (Ises (types_at S.params κs)) a (valss (types_at S.params κs) (sp κs) a)
        → ent 𝓤 (sep 𝓤 (on_entry 𝓛 S κs qs a (valss (types_at S.params κs) (sp κs) a)) ((c κs a).requires g))
        (run (flat (types_at S.params κs) (valss (types_at S.params κs) (sp κs) a))
        ((triple_of 𝓛 S c).post ((κs, qs, bounds, a, valss (types_at S.params κs) (sp κs) a), g))))
        → Meets 𝓛 S run c
    spelled sp tl k y =
        let κs : Lfts S.lifetimes = y.0.0 in
        let R : SProp 𝓤 = (c κs y.0.3).requires y.1 in
        let Q : Vals S κs → SProp 𝓤 = λ us. run (flat (types_at S.params κs) us)
        ((triple_of 𝓛 S c).post ((κs, y.0.1, y.0.2, y.0.3, us), y.1)) in
        via 𝓤 (sep 𝓤 R (wand 𝓤 R (Q y.0.4)))
        (via 𝓤 (sep 𝓤 (wand 𝓤 R (Q y.0.4)) R)
        (mono_l 𝓤 R (said 𝓛 S κs y.0.1 (sp κs) (tl κs) y.0.3 (λ us. wand 𝓤 R (Q us)) y.0.4
        (λ are. wand_i 𝓤 _ R _ (k κs y.0.1 y.0.2 y.0.3 y.1 are))))
        (comm∗ 𝓤 (wand 𝓤 R (Q y.0.4)) R))
        (apply∗ 𝓤 R (Q y.0.4))

-- The same as `Lending.antt` of a struct behind a `&`: each part is passed as a `&`, and the struct stays as it is.
--     Looks row ps     a share of a struct of the type row in memory holds that share of its parts ps, which may be some of them, and takes them
--                      back; and what a `&` to the struct holds, at any lifetime, gives what a `&` to each of those parts holds
--     looks-to         a call that meets a contract over the parts meets the contract over the struct
-- It names no struct and no function of any crate. Assumes `Logic`.
use Rattle.lending.proofs.Walks.{ℕ, List, [], ◌∷◌, ◌++◌, refl, Ura, full_share, Lifetime, Val, vptr, SProp, ent, sep, wand, id⊢, via, snd∗, Lft}
use Rattle.lending.proofs.Walks.{Share, Fml, ftrue, fsep, flft, flent, fshr_bor, Halves, ‵, raw, ◌⊛◌, some}
use Rattle.lending.proofs.Walks.{later, ◌$◌, ◌∵◌, !, qed, by, move, use0, use1, use2, drop, split, join, pick, fsplit, fjoin, feq_l, feq_i}
use Rattle.lending.proofs.Walks.{await, updating, at_once, show, frame, done, lft_new, lft_end, bor_new, bor_fracture}
use Rattle.lending.proofs.Walks.{lent_back, before, before-Incl, before_lent}
use Rattle.lending.proofs.Walks.{RattleType, RowLaws, part_at, shared_of, hidden_shr, Bor, ShrRef, nothing, meet_⊑_left}
use Rattle.lending.proofs.Lending.{Part, Values, lie, Left, After}
use types.Logic.{Logic, sem}

-- in front of what else is passed, Y: the references. Their machine values are those of `Lending.antt`'s `ptrs`
abbrev pub Refs : List Part → Type 0 → Type 0
Refs [] Y = Y
Refs (p ∷ ps) Y = Bor p.row.Denot × Refs ps Y

-- nothing is bound or said of a `&`
abbrev pub Lasts : List Part → Type 0 → Type 0
Lasts [] Y = Y
Lasts (p ∷ ps) Y = Unit {0} × Lasts ps Y

abbrev pub lastly : (ps : List Part) (Y : Type 0) → Lasts ps Y → Y
lastly [] Y zs = zs
lastly (p ∷ ps) Y zs = lastly ps Y zs.1

abbrev pub saids : (ps : List Part) (Y : Type 0) → (Y → Fml) → Lasts ps Y → Fml
saids [] Y F zs = F zs
saids (p ∷ ps) Y F zs = fsep ftrue (saids ps Y F zs.1)

module _ (b o : ℕ) where
  abbrev pub refs : (ps : List Part) → Values ps → (Y : Type 0) → Y → Refs ps Y
  refs [] a Y y = y
  refs (p ∷ ps) a Y y = (record { ref_ptr = (b, p.at o); now = a.0 }, refs ps a.1 Y y)

  module _ (ℓ : Lifetime) (κ : Lft) where
    abbrev pub ownss : (ps : List Part) → Values ps → Fml → Fml
    ownss [] a B = B
    ownss (p ∷ ps) a B =
        fsep ((ShrRef ℓ κ p.row).own_val (record { ref_ptr = (b, p.at o); now = a.0 }) (vptr b (p.at o) ∷ []))
        (ownss ps a.1 B)

  -- what a `&` to each part holds
  abbrev pub seen : Lft → (ps : List Part) → Values ps → Fml
  seen κ [] a = ftrue
  seen κ (p ∷ ps) a = fsep (hidden_shr p.row κ a.0 b (p.at o)) (seen κ ps a.1)

  module _ (ℓ : Lifetime) (κ : Lft) {M : Type 1} {𝓤 : Ura M} (𝓛 : Logic 𝓤) where
    refers : (ps : List Part) (a : Values ps) (B : Fml) → ent 𝓤 (sep 𝓤 (sem 𝓛 (seen κ ps a)) (sem 𝓛 B)) (sem 𝓛 (ownss ℓ κ ps a B))
    refers [] a B = qed 𝓛 (‵ ftrue ∷ ‵ B ∷ []) ∵ drop ! $ done !
    refers (p ∷ ps) a B =
        qed 𝓛 (‵ (seen κ (p ∷ ps) a) ∷ ‵ B ∷ []) ∵ fsplit ! $ move ! (1 ∷ 2 ∷ []) $
        use2 𝓛 (‵ (ownss ℓ κ ps a.1 B)) (refers ps a.1 B) $ move ! (1 ∷ []) $
        feq_i ! (List Val) (vptr b (p.at o) ∷ []) (vptr b (p.at o) ∷ []) refl $ fjoin ! $ fjoin ! $ done !

pub record Looks {M : Type 1} {𝓤 : Ura M} (𝓛 : Logic 𝓤) (row : RattleType) (ps : List Part) : Type 2 where
  pub parts : row.Denot → Values ps
  pub halves : (g : row.Denot) (b o : ℕ) → Halves 𝓤 𝓛.H 𝓛.A (λ t. part_at row t g b o)
  pub apart : (t : Share) (g : row.Denot) (b o : ℕ) → ent 𝓤 (sem 𝓛 (part_at row t g b o))
      (sep 𝓤 (sem 𝓛 (lie b o t ps (parts g))) (wand 𝓤 (sem 𝓛 (lie b o t ps (parts g))) (sem 𝓛 (part_at row t g b o))))
  -- what a `&` holds has its laws, and holds what a `&` to each part does
  pub shr_laws : RowLaws row
  pub shares : (κ : Lft) (g : row.Denot) (b o : ℕ) → ent 𝓤 (sem 𝓛 (shared_of row g b o κ)) (sem 𝓛 (seen b o κ ps (parts g)))

module _ {M : Type 1} {𝓤 : Ura M} (𝓛 : Logic 𝓤) (Others : SProp 𝓤) (Res : Type 0)
    (result : Res → Val → Fml) where
  open 𝓛 use {H, A}

  alone : (ps : List Part) (Y : Type 0) (F : Y → Fml) (zs : Lasts ps Y)
      → ent 𝓤 (sem 𝓛 (saids ps Y F zs)) (sem 𝓛 (F (lastly ps Y zs)))
  alone [] Y F zs = id⊢ 𝓤 (sem 𝓛 (F zs))
  alone (p ∷ ps) Y F zs = via 𝓤 (sem 𝓛 (saids ps Y F zs.1)) (snd∗ 𝓤 (sem 𝓛 ftrue) (sem 𝓛 (saids ps Y F zs.1)))
      (alone ps Y F zs.1)

  module _ (row : RattleType) (ps : List Part) (S : Looks 𝓛 row ps) (ℓ ℓ' : Lifetime) (κ : Lft) (q : Share) (b o : ℕ)
      (g : row.Denot) (B : Fml) (Y : Type 0) (F : Y → Fml) (Asked : SProp 𝓤) (ensures : Res → Y → SProp 𝓤) where
    abbrev over-struct : Val → SProp 𝓤
    over-struct = After 𝓛 Others Res result (A.lft κ q) (Unit {0} × Y) (λ ws. fsep ftrue (F ws.1)) (λ r ws. ensures r ws.1)

    abbrev over-parts : ℕ → Val → SProp 𝓤
    over-parts ν = After 𝓛 Others Res result (A.lft (ν ∷ []) full_share) (Lasts ps Y) (saids ps Y F)
        (λ r zs. ensures r (lastly ps Y zs))

    -- the token of κ is lent for ν, so ν ends no later than κ
    abbrev Kept : ℕ → SProp 𝓤
    Kept ν = A.lent (ν ∷ []) (flft κ q)

    earlier : (ν : ℕ) → ent 𝓤 (A.shr_bor (ν ∷ []) (λ t. flft κ t)) (sem 𝓛 (before (ν ∷ []) κ))
    earlier ν =
        qed 𝓛 (‵ (fshr_bor (ν ∷ []) (λ t. flft κ t)) ∷ []) ∵
        use0 𝓛 (‵ (before (κ ++ (ν ∷ [])) κ)) (before-Incl 𝓛 (κ ++ (ν ∷ [])) κ (meet_⊑_left κ (ν ∷ []))) $ move ! (1 ∷ 0 ∷ []) $
        by ! (before_lent 𝓛 (ν ∷ []) κ κ)

    comes_back : (ν : ℕ) (v : Val) → ent 𝓤 (sep 𝓤 (over-parts ν v) (Kept ν)) (over-struct v)
    comes_back ν v =
        qed 𝓛 (later (some (λ (r : Res). ((‵ (flft (ν ∷ []) full_share) ⊛ raw Others) ⊛ ‵ (result r v)) ⊛ some (λ (zs : Lasts ps Y).
        ‵ (saids ps Y F zs) ⊛ raw (ensures r (lastly ps Y zs)))))
        ∷ ‵ (flent (ν ∷ []) (flft κ q)) ∷ []) ∵ updating ! $ await ! tt $
        pick ! (λ r. split ! $ move ! (1 ∷ []) $ pick ! (λ zs. split ! $ move ! (2 ∷ []) $ split ! $ split ! $
        -- [the lifetime; the other tokens; the result; the last values; what is ensured; the lent token]
        lft_end ! tt $ move ! (0 ∷ 5 ∷ []) $ lent_back ! tt $ at_once ! $
        -- [the token; the other tokens; the result; the last values; what is ensured]
        show ! (Left 𝓛 Others Res result (A.lft κ q) (Unit {0} × Y) (λ ws. fsep ftrue (F ws.1)) (λ r' ws. ensures r' ws.1) v)
        r $
        join ! $ join ! $ frame ! $
        show ! (λ (ws : Unit {0} × Y). sep 𝓤 (sem 𝓛 (fsep ftrue (F ws.1))) (ensures r ws.1)) (tt, lastly ps Y zs) $
        use1 𝓛 (‵ (F (lastly ps Y zs))) (alone ps Y F zs) $ nothing ! $ fjoin ! $ done !))

    pub looks-to : (run : (Val → SProp 𝓤) → SProp 𝓤)
        → ((K K' : Val → SProp 𝓤) (R : SProp 𝓤) → ((v : Val) → ent 𝓤 (sep 𝓤 (K v) R) (K' v))
        → ent 𝓤 (sep 𝓤 (run K) R) (run K'))
        → ((ν : ℕ) → ent 𝓤 (sep 𝓤 (sep 𝓤 (sep 𝓤 (A.lft (ν ∷ []) full_share) Others)
        (sem 𝓛 (ownss b o ℓ' (ν ∷ []) ps (S.parts g) B))) Asked) (run (over-parts ν)))
        → ent 𝓤 (sep 𝓤 (sep 𝓤 (sep 𝓤 (A.lft κ q) Others)
        (sem 𝓛 (fsep ((ShrRef ℓ κ row).own_val (record { ref_ptr = (b, o); now = g }) (vptr b o ∷ [])) B))) Asked)
        (H.⇛ (run over-struct))
    looks-to run framed known =
        qed 𝓛 (((‵ (flft κ q) ⊛ raw Others) ⊛ ‵
        (fsep ((ShrRef ℓ κ row).own_val (record { ref_ptr = (b, o); now = g }) (vptr b o ∷ [])) B))
        ∷ raw Asked ∷ []) ∵ updating ! $ split ! $ split ! $ move ! (2 ∷ []) $ fsplit ! $ fsplit ! $ feq_l ! (λ _. move ! (2 ∷ []) $
        -- [the token; what the `&` holds; B; the other tokens; what is asked]
        lft_new ! tt (λ ν. move ! (1 ∷ []) $ bor_new ! tt (ν ∷ []) $ bor_fracture ! tt (λ t. flft κ t) q $
        use1 𝓛 (‵ (before (ν ∷ []) κ)) (earlier ν) $ move ! (0 ∷ 3 ∷ []) $
        use2 𝓛 (‵ (shared_of row g b o (ν ∷ []))) ((S.shr_laws g b o).mono M 𝓤 𝓛 (ν ∷ []) κ) $
        use1 𝓛 (‵ (seen b o (ν ∷ []) ps (S.parts g))) (S.shares (ν ∷ []) g b o) $
        -- [what a `&` to each part holds; the lent token; the lifetime; B; the other tokens; what is asked]
        move ! (0 ∷ 3 ∷ []) $ use2 𝓛 (‵ (ownss b o ℓ' (ν ∷ []) ps (S.parts g) B)) (refers b o ℓ' (ν ∷ []) 𝓛 ps (S.parts g) B) $
        -- [what is passed; the lent token; the lifetime; the other tokens; what is asked]
        move ! (2 ∷ 3 ∷ []) $ join ! $ join ! $ move ! (0 ∷ 2 ∷ []) $ use2 𝓛 (raw (run (over-parts ν))) (known ν) $ at_once ! $
        by ! (framed (over-parts ν) over-struct (Kept ν) (comes_back ν))))

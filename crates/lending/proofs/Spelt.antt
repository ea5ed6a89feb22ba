-- Types whose values tell their machine values, as the parameters of an exported function have: numbers, references and slices.
--     Spelt R          how a value of R is spelled, that R's relation tells it, and that what it tells is of R's MIR types
--     a-number, a_unit, a-mut, a-shr, a-mut-slice, a-shr-slice     each of those
--     Spelts, told, all_tell, all_typed    for a list of types
-- It names no struct and no function of any crate. Assumes nothing.
use denote.Slice.{shr_slice_vals, mut_slice_vals}
use denote.Ref.{shr_vals, mut_vals}
use Rattle.lending.proofs.Walks.{sym, subst, List, [], ◌∷◌, ◌++◌, eqb_refl, Ty, Lifetime, Width, ty_int, ty_unit, Val, bytes, Lft, RattleType}
use Rattle.lending.proofs.Walks.{Denots, mirs, flat, Typed, Is, Ises, Are, Tells, Tellss, Spells, valss, UInt, uint_vals, uint_Tells, Nothing}
use Rattle.lending.proofs.Walks.{nothing_vals, Nothing-Tells, MutRef, ShrRef, mut_Tells, shr_Tells, MutSlice, ShrSlice}
use Rattle.lending.proofs.Walks.{mut_slice_Tells, shr_slice_Tells}

pub record Spelt (R : RattleType) : Type 1 where
  pub vals : R.Denot → List Val
  pub tells : Tells R (Is R) vals
  pub typed : (x : R.Denot) (vs : List Val) → Is R x vs → Typed R.mir vs

abbrev pub a-number : (w : Width) → Spelt (UInt w)
a-number w = record {
  vals = uint_vals w;
  tells = uint_Tells w;
  typed = λ n vs p. subst (Typed (ty_int w ∷ [])) (sym p.0) ((eqb_refl (bytes w), record { fits = p.1 }), tt);
}

abbrev pub a_unit : Spelt Nothing
a_unit = record { vals = nothing_vals; tells = Nothing-Tells; typed = λ u vs p. subst (Typed (ty_unit ∷ [])) (sym p) ((tt, tt), tt) }

module _ (ℓ : Lifetime) (κ : Lft) (R : RattleType) where
  abbrev pub a-mut : Spelt (MutRef ℓ κ R)
  a-mut = record { vals = mut_vals; tells = mut_Tells ℓ κ R; typed = λ x vs p. subst (Typed (MutRef ℓ κ R).mir) (sym p.0) ((tt, tt), tt) }

  abbrev pub a-shr : Spelt (ShrRef ℓ κ R)
  a-shr = record { vals = shr_vals; tells = shr_Tells ℓ κ R; typed = λ x vs p. subst (Typed (ShrRef ℓ κ R).mir) (sym p.0) ((tt, tt), tt) }

  abbrev pub a-mut-slice : Spelt (MutSlice ℓ κ R)
  a-mut-slice = record {
    vals = mut_slice_vals;
    tells = mut_slice_Tells ℓ κ R;
    typed = λ x vs p. subst (Typed (MutSlice ℓ κ R).mir) (sym p.0.0) ((tt, (tt, (record { fits = p.0.1.0 }, tt))), tt);
  }

  abbrev pub a-shr-slice : Spelt (ShrSlice ℓ κ R)
  a-shr-slice = record {
    vals = shr_slice_vals;
    tells = shr_slice_Tells ℓ κ R;
    typed = λ x vs p. subst (Typed (ShrSlice ℓ κ R).mir) (sym p.0.0) ((tt, (tt, (record { fits = p.0.1.0 }, tt))), tt);
  }

abbrev pub Spelts : List RattleType → Type 1
Spelts [] = Unit {1}
Spelts (R ∷ Rs) = Spelt R × Spelts Rs

abbrev pub told : (Rs : List RattleType) → Spelts Rs → Spells Rs
told [] ss = tt
told (R ∷ Rs) ss = (ss.0.vals, told Rs ss.1)

pub all_tell : (Rs : List RattleType) (ss : Spelts Rs) → Tellss Rs (Ises Rs) (told Rs ss)
all_tell [] ss = tt
all_tell (R ∷ Rs) ss = (ss.0.tells, all_tell Rs ss.1)

both_typed : (τs σs : List Ty) (vs us : List Val) → Typed τs vs → Typed σs us → Typed (τs ++ σs) (vs ++ us)
both_typed [] σs [] us x y = y
both_typed [] σs (v ∷ vs) us x y = absurd x
both_typed (τ ∷ τs) σs [] us x y = absurd x
both_typed (τ ∷ τs) σs (v ∷ vs) us x y = (x.0, both_typed τs σs vs us x.1 y)

pub all_typed : (Rs : List RattleType) (ss : Spelts Rs) (x : Denots Rs) → Are Rs (Ises Rs) x (valss Rs (told Rs ss) x)
    → Typed (mirs Rs) (flat Rs (valss Rs (told Rs ss) x))
all_typed [] ss x are = tt
all_typed (R ∷ Rs) ss x are =
    both_typed R.mir (mirs Rs) (ss.0.vals x.0) (flat Rs (valss Rs (told Rs ss.1) x.1))
    (ss.0.typed x.0 (ss.0.vals x.0) are.0) (all_typed Rs ss.1 x.1 are.1)

-- A function that only passes values on: each statement sets a local, that holds nothing yet, to a number, to the address of a field
-- behind a reference, to a struct made of such, to a copy of a local or of its field, or to what a call returns; then it returns. Such
-- code reads no memory but its own locals.
--     Follows fn vs t        by computation: fn called with the values vs does t: it calls functions one after the other, and returns
--     Does C Q t, follow     what is to be had for t, and that it gives `WpFn fn vs Q`
--     Forwards fn vs f us    fn calls f with the values us, and returns what that returned
--     once                   then what gives `C f us Q`, after an update of ghost state, is enough
-- It names no struct and no function of any crate. Assumes `Logic`, and that the table of calls is monotone under a frame.
use Rattle.lending.proofs.Walks.{◌≡◌, refl, sym, subst, ap, ◌∙◌, ℕ, zero, suc, ◌+◌, Bool, true, false, List, [], ◌∷◌, T, get_or, Ura, full_share}
use Rattle.lending.proofs.Walks.{Callee, Sym, Ty, Tys, ty_int, ty_bool, ty_float, ty_ptr, ty_ref, ty_array, ty_unit, ty_struct}
use Rattle.lending.proofs.Walks.{ty_enum, ty_named, ttnil, PStep, deref, field, variant, Place, place, Operand, copy, int, int_neg}
use Rattle.lending.proofs.Walks.{int_big, float, opd_true, opd_false}
use Rattle.lending.proofs.Walks.{opd_unit, ptr_const, RValue, rv_opd, op2, op1, addr_of, aggregate, repeat, Body, skip, seq, assign, block, loop}
use Rattle.lending.proofs.Walks.{cond, switch, exit, return, call, Local, local, Fn, Val, vunit, vbool, vint, vfloat, vptr, vstruct, vnil}
use Rattle.lending.proofs.Walks.{vcons, of_list, WT, WTs, has_ty, get_v, SProp, ent, sep, emp, guard, id⊢, via, comm∗, assoc∗, assoc', mono_r}
use Rattle.lending.proofs.Walks.{emp∗, fst∗, wand_i, all_i, fat, froom, fdies, field_of, field_at, Heap, Calls, Loops, WpFn, Wp, Env, alloc}
use Rattle.lending.proofs.Walks.{params, pass, release, at_return, FmC, Item, ‵, raw, ◌⊛◌, given, later, mean, ⋆, nth, put, push}
use Rattle.lending.proofs.Walks.{pop, runs, at_ret, Go, Goal, Sq, ◌$◌, ◌∵◌, !, qed, by, move, use1, split, frame, assume, check, await, learn}
use Rattle.lending.proofs.Walks.{join, group, Reads, Walks, Opd, Opds, Rv, look, init, stop, hop, fld, from, load, addr, no_more, and_then}
use Rattle.lending.proofs.Walks.{of_opd, exec, agg, whole, sub, look_in, ltb, lit<, ◌^◌, bits, nextᴼ, returnsᴼ, after_seq, post, Post, prop}
use Rattle.lending.proofs.Walks.{any_q, updating, at_once, first, assigns_last, land_last, returns_within, lit, calls_from_last}
use mathlib.Core.Option.{Option, none, some}
use mir.Val.{Vals, vcode}
use mir.Syntax.{ty_param, ty_const, ty_array_p, size_of, align_of, num_of, fn_addr, vtable, repeat_p, select, unreachable, call_v, lend_static}
use types.Logic.{Logic}
use types.Part.{Part}

-- a function's locals: their types and blocks
abbrev Frame : Type 0
Frame = List (Ty × ℕ)

abbrev ty_at : Frame → ℕ → Ty
ty_at E i = (get_or E i (ty_enum [] ttnil, zero)).0

abbrev block_at : Frame → ℕ → ℕ
block_at E i = (get_or E i (ty_enum [] ttnil, zero)).1

-- what each local holds, if it holds something
abbrev Cells : Frame → Type 0
Cells [] = Unit {0}
Cells (e ∷ E) = Option Val × Cells E

abbrev empty : (E : Frame) → Cells E
empty [] = tt
empty (e ∷ E) = (none, empty E)

abbrev passed_in : (E : Frame) → List Val → Cells E
passed_in [] vs = tt
passed_in (e ∷ E) [] = (none, empty E)
passed_in (e ∷ E) (v ∷ vs) = (some v, passed_in E vs)

abbrev val_of : (E : Frame) → Cells E → ℕ → Option Val
val_of [] cs i = none
val_of (e ∷ E) cs zero = cs.0
val_of (e ∷ E) cs (suc i) = val_of E cs.1 i

abbrev set_at : (E : Frame) → Cells E → ℕ → Val → Cells E
set_at [] cs i v = tt
set_at (e ∷ E) cs zero v = (some v, cs.1)
set_at (e ∷ E) cs (suc i) v = (cs.0, set_at E cs.1 i v)

abbrev is_none : Option Val → Bool
is_none none = true
is_none (some v) = false

abbrev free_at : (E : Frame) → Cells E → ℕ → Bool
free_at [] cs i = false
free_at (e ∷ E) cs zero = is_none cs.0
free_at (e ∷ E) cs (suc i) = free_at E cs.1 i

abbrev wt : Option Val → Type 0
wt none = Unit {0}
wt (some v) = WT v

abbrev AllWt : (E : Frame) → Cells E → Type 0
AllWt [] cs = Unit {0}
AllWt (e ∷ E) cs = wt cs.0 × AllWt E cs.1

-- ---- what the code computes. Each is ⊥ at a form that is none of the above
abbrev OnSome : {X : Type 0} → Option X → (X → Type 0) → Type 0
OnSome none k = ⊥
OnSome (some x) k = k x

abbrev OnTrue : Bool → Type 0 → Type 0
OnTrue false X = ⊥
OnTrue true X = X

-- a pointer, the fields of a struct, and the type of one
abbrev ptr_of : (v : Val) → Option ((b : ℕ) × (o : ℕ) × (v ≡ vptr b o))
ptr_of vunit = none
ptr_of (vbool b) = none
ptr_of (vint w n) = none
ptr_of (vfloat f x) = none
ptr_of (vptr b o) = some (b, o, refl)
ptr_of (vstruct vs) = none
ptr_of (vcode t) = none

abbrev fields_of : (v : Val) → Option ((vs : Vals) × (v ≡ vstruct vs))
fields_of vunit = none
fields_of (vbool b) = none
fields_of (vint w n) = none
fields_of (vfloat f x) = none
fields_of (vptr b o) = none
fields_of (vstruct vs) = some (vs, refl)
fields_of (vcode t) = none

abbrev struct_of : (τ : Ty) → Option ((ν : Sym) × (τs : Tys) × (τ ≡ ty_struct ν τs))
struct_of (ty_int w) = none
struct_of ty_bool = none
struct_of (ty_float f) = none
struct_of ty_ptr = none
struct_of (ty_ref κ μ τ) = none
struct_of (ty_array τ n) = none
struct_of ty_unit = none
struct_of (ty_struct ν τs) = some (ν, τs, refl)
struct_of (ty_enum ν τss) = none
struct_of (ty_param n) = none
struct_of (ty_const n) = none
struct_of (ty_array_p τ n) = none
struct_of (ty_named h τs) = none

-- the fields st of a τ that begins at o
abbrev Down : Ty → ℕ → List PStep → (ℕ → Type 0) → Type 0
Down τ o [] k = k o
Down τ o (deref τ' ∷ st) k = ⊥
Down τ o (field n ∷ st) k = OnSome (field_of τ n) (λ f. Down f.0 (o + f.1) st k)
Down τ o (variant n ∷ st) k = ⊥

module _ (E : Frame) (cs : Cells E) where
  -- field n of the struct in the local i
  abbrev InField : ℕ → ℕ → (Val → Type 0) → Type 0
  InField i n k = OnSome (val_of E cs i) (λ v. OnSome (fields_of v) (λ s. OnSome (struct_of (ty_at E i)) (λ z.
      OnSome (field_at zero z.1 n) (λ f. k (get_v s.0 n)))))

  -- st of what a pointer v to a τ points to
  abbrev Behind : Val → Ty → List PStep → (Val → Type 0) → Type 0
  Behind v τ st k = OnSome (ptr_of v) (λ a. Down τ a.1 st (λ o. k (vptr a.0 o)))

  abbrev AtPlace : ℕ → List PStep → (Val → Type 0) → Type 0
  AtPlace i [] k = OnSome (val_of E cs i) k
  AtPlace i (deref τ ∷ st) k = ⊥
  AtPlace i (field n ∷ []) k = InField i n k
  AtPlace i (field n ∷ s ∷ st) k = ⊥
  AtPlace i (variant n ∷ st) k = ⊥

  abbrev OkOpd : Operand → (Val → Type 0) → Type 0
  OkOpd (copy (place i st)) k = AtPlace i st k
  OkOpd (int w n) k = OnTrue (ltb n (2 ^ bits w)) (k (vint w n))
  OkOpd (int_neg w n) k = ⊥
  OkOpd (int_big w n) k = ⊥
  OkOpd (float f n) k = ⊥
  OkOpd opd_true k = ⊥
  OkOpd opd_false k = ⊥
  OkOpd opd_unit k = ⊥
  OkOpd (ptr_const n) k = ⊥
  OkOpd (size_of τ) k = ⊥
  OkOpd (align_of τ) k = ⊥
  OkOpd (num_of w τ) k = ⊥
  OkOpd (fn_addr f ς) k = ⊥
  OkOpd (vtable τ ss) k = ⊥

  abbrev OkOpds : List Operand → (List Val → Type 0) → Type 0
  OkOpds [] k = k []
  OkOpds (x ∷ xs) k = OkOpd x (λ v. OkOpds xs (λ vs. k (v ∷ vs)))

  -- the address of a place behind a reference, or behind a slice's pointer
  abbrev Address : ℕ → List PStep → (Val → Type 0) → Type 0
  Address i [] k = ⊥
  Address i (deref τ ∷ st) k = OnSome (val_of E cs i) (λ v. Behind v τ st k)
  Address i (field n ∷ []) k = ⊥
  Address i (field n ∷ deref τ ∷ st) k = InField i n (λ v. Behind v τ st k)
  Address i (field n ∷ field m ∷ st) k = ⊥
  Address i (field n ∷ variant m ∷ st) k = ⊥
  Address i (variant n ∷ st) k = ⊥

  abbrev OkRv : RValue → (Val → Type 0) → Type 0
  OkRv (rv_opd x) k = OkOpd x k
  OkRv (op2 o x y) k = ⊥
  OkRv (op1 o x) k = ⊥
  OkRv (addr_of (place i st)) k = Address i st k
  OkRv (aggregate xs) k = OkOpds xs (λ vs. k (vstruct (of_list vs)))
  OkRv (repeat x n) k = ⊥
  OkRv (repeat_p x n) k = ⊥
  OkRv (select m x y) k = ⊥

-- the place is a whole local
abbrev OnLocal : Place → (ℕ → Type 0) → Type 0
OnLocal (place j []) k = k j
OnLocal (place j (s ∷ st)) k = ⊥

-- what code does: it returns a value; or it calls a function, whose result is stored as a value of a type, and goes on
pub data Course : Type 0 where
  gives : Val → Course
  asks : Callee → List Val → Ty → (Val → Course) → Course

abbrev OnAsks : Course → (Callee → List Val → Ty → (Val → Course) → Type 0) → Type 0
OnAsks (gives v) k = ⊥
OnAsks (asks f us τ more) k = k f us τ more

-- the code does t from here on; k is asked where it goes on behind it
abbrev OkBody : (E : Frame) → Body → Cells E → Course → (Cells E → Course → Type 0) → Type 0
OkBody E skip cs t k = ⊥
OkBody E (seq a b) cs t k = OkBody E a cs t (λ cs' t'. OkBody E b cs' t' k)
OkBody E (assign p r) cs t k =
    OnLocal p (λ j. OkRv E cs r (λ v. OnTrue (free_at E cs j) (OnTrue (has_ty (ty_at E j) v) (k (set_at E cs j v) t))))
OkBody E (block b) cs t k = ⊥
OkBody E (loop b) cs t k = ⊥
OkBody E (cond c a b) cs t k = ⊥
OkBody E (switch c arms) cs t k = ⊥
OkBody E (exit n) cs t k = ⊥
OkBody E unreachable cs t k = ⊥
OkBody E (call_v f ς xs d) cs t k = ⊥
OkBody E (lend_static p τ c) cs t k = ⊥
OkBody E return cs t k = OnSome (val_of E cs zero) (λ v. t ≡ gives v)
OkBody E (call f xs d) cs t k = OnLocal d (λ j. OnAsks t (λ f' us τ more. OnTrue (free_at E cs j) (OkOpds E cs xs (λ us'.
    (f ≡ f') × (us' ≡ us) × (τ ≡ ty_at E j) × ((r : Val) → k (set_at E cs j r) (more r))))))

-- ---- the frame of a function, for any blocks
abbrev pub Blocks : List Local → Type 0
Blocks [] = Unit {0}
Blocks (l ∷ ls) = ℕ × Blocks ls

abbrev pub frame_of : (ls : List Local) → Blocks ls → List (Ty × ℕ)
frame_of [] bs = []
frame_of (local τ h ∷ ls) bs = (τ, bs.0) ∷ frame_of ls bs.1

-- the first local is the result's, and holds nothing yet
abbrev at_entry : (E : Frame) → List Val → Cells E
at_entry [] vs = tt
at_entry (e ∷ E) vs = (none, passed_in E vs)

-- each value is one of its parameter's type
abbrev pub EachTyped : Frame → List Val → Type 0
EachTyped E [] = Unit {0}
EachTyped [] (v ∷ vs) = ⊥
EachTyped (e ∷ E) (v ∷ vs) = (T (has_ty e.0 v) × WT v) × EachTyped E vs

abbrev pub Entered : List (Ty × ℕ) → List Val → Type 0
Entered [] vs = ⊥
Entered (e ∷ E) vs = EachTyped E vs

-- by computation: fn called with vs does t; and all that it does is to call f with us
abbrev pub Follows : Fn → List Val → Course → Type 0
Follows fn vs t = (bs : Blocks fn.locals) →
    OkBody (frame_of fn.locals bs) fn.body (at_entry (frame_of fn.locals bs) vs) t (λ cs t'. ⊥)

-- the type of the result's local
abbrev pub result_of : List Local → Ty
result_of [] = ty_enum [] ttnil
result_of (local τ h ∷ ls) = τ

abbrev pub Forwards : Fn → List Val → Callee → List Val → Type 0
Forwards fn vs f us = Follows fn vs (asks f us (result_of fn.locals) gives)

-- ---- the forms, taken apart with their equations
on_some : {X : Type 0} (c : Option X) (k : X → Type 0) → OnSome c k → {G : Type 1} → ((x : X) → c ≡ some x → k x → G) → G
on_some none k z g = absurd z
on_some (some x) k z g = g x refl z

on-true : (c : Bool) (X : Type 0) → OnTrue c X → T c × X
on-true false X z = absurd z
on-true true X z = (tt, z)

-- ---- values in range
abbrev is_some : Option Val → Type 0
is_some none = ⊥
is_some (some v) = Unit {0}

wt-get : (vs : Vals) (k : ℕ) → WTs vs → WT (get_v vs k)
wt-get vnil k ws = tt
wt-get (vcons v vs) zero ws = ws.0
wt-get (vcons v vs) (suc k) ws = wt-get vs k ws.1

wt_at : (E : Frame) (cs : Cells E) (i : ℕ) (v : Val) → AllWt E cs → val_of E cs i ≡ some v → WT v
wt_at [] cs i v ws e = absurd (subst is_some (sym e) tt)
wt_at (x ∷ E) cs zero v ws e = subst wt e ws.0
wt_at (x ∷ E) cs (suc i) v ws e = wt_at E cs.1 i v ws.1 e

wt-set : (E : Frame) (cs : Cells E) (i : ℕ) (v : Val) → AllWt E cs → WT v → AllWt E (set_at E cs i v)
wt-set [] cs i v ws w = tt
wt-set (x ∷ E) cs zero v ws w = (w, ws.1)
wt-set (x ∷ E) cs (suc i) v ws w = (ws.0, wt-set E cs.1 i v ws.1 w)

wt-empty : (E : Frame) → AllWt E (empty E)
wt-empty [] = tt
wt-empty (e ∷ E) = (tt, wt-empty E)

wt-passed : (E : Frame) (vs : List Val) → EachTyped E vs → AllWt E (passed_in E vs)
wt-passed [] vs x = tt
wt-passed (e ∷ E) [] x = (tt, wt-empty E)
wt-passed (e ∷ E) (v ∷ vs) x = (x.0.1, wt-passed E vs x.1)

-- what is to be had for what code does, where Q is asked of its result
module _ {M : Type 1} (𝓤 : Ura M) (H : Heap 𝓤) (C : Calls 𝓤 H) (Q : Val → SProp 𝓤) where
  abbrev pub Does : Course → SProp 𝓤
  Does (gives v) = Q v
  Does (asks f us τ more) = H.⇛ (C f us (λ r. H.⇛ (guard 𝓤 (T (has_ty τ r) × WT r) (Does (more r)))))

-- the local i stands at pos i in the context
abbrev pos : ℕ → ℕ
pos zero = zero
pos (suc i) = suc (suc (pos i))

module _ {M : Type 1} {𝓤 : Ura M} (𝓛 : Logic 𝓤) where
  open 𝓛 use {H}

  abbrev cell : Ty × ℕ → Option Val → Item 𝓤
  cell e none = ‵ (froom e.0 e.1 zero)
  cell e (some v) = ‵ (fat full_share e.0 e.1 zero v)

  abbrev held : (E : Frame) → Cells E → List (Item 𝓤)
  held [] cs = []
  held (e ∷ E) cs = cell e cs.0 ∷ ‵ (fdies e.0 e.1) ∷ held E cs.1

  abbrev own : (E : Frame) → Cells E → SProp 𝓤
  own [] cs = emp 𝓤
  own (e ∷ E) cs = sep 𝓤 (sep 𝓤 (mean 𝓛 (cell e cs.0)) (H.dies e.0 e.1)) (own E cs.1)

  to_held : (E : Frame) (cs : Cells E) → ent 𝓤 (own E cs) (⋆ 𝓛 (held E cs))
  to_held [] cs = id⊢ 𝓤 (emp 𝓤)
  to_held (e ∷ E) cs =
      let c = mean 𝓛 (cell e cs.0) in
      let d = H.dies e.0 e.1 in
      let Γ = held E cs.1 in
      via 𝓤 (sep 𝓤 (sep 𝓤 c d) (⋆ 𝓛 Γ)) (mono_r 𝓤 (sep 𝓤 c d) (to_held E cs.1))
      (via 𝓤 (sep 𝓤 c (sep 𝓤 d (⋆ 𝓛 Γ))) (assoc∗ 𝓤 c d (⋆ 𝓛 Γ))
      (mono_r 𝓤 c (push 𝓛 (‵ (fdies e.0 e.1)) Γ)))

  from-held : (E : Frame) (cs : Cells E) → ent 𝓤 (⋆ 𝓛 (held E cs)) (own E cs)
  from-held [] cs = id⊢ 𝓤 (emp 𝓤)
  from-held (e ∷ E) cs =
      let c = mean 𝓛 (cell e cs.0) in
      let d = H.dies e.0 e.1 in
      let Γ = held E cs.1 in
      via 𝓤 (sep 𝓤 c (sep 𝓤 d (⋆ 𝓛 Γ))) (mono_r 𝓤 c (pop 𝓛 (‵ (fdies e.0 e.1)) Γ))
      (via 𝓤 (sep 𝓤 (sep 𝓤 c d) (⋆ 𝓛 Γ)) (assoc' 𝓤 c d (⋆ 𝓛 Γ)) (mono_r 𝓤 (sep 𝓤 c d) (from-held E cs.1)))

  at-val : (E : Frame) (cs : Cells E) (i : ℕ) (v : Val) → val_of E cs i ≡ some v
      → nth 𝓛 (pos i) (held E cs) ≡ ‵ (fat full_share (ty_at E i) (block_at E i) zero v)
  at-val [] cs i v e = absurd (subst is_some (sym e) tt)
  at-val (x ∷ E) cs zero v e = ap (cell x) e
  at-val (x ∷ E) cs (suc i) v e = at-val E cs.1 i v e

  is-room : (x : Ty × ℕ) (c : Option Val) → T (is_none c) → cell x c ≡ ‵ (froom x.0 x.1 zero)
  is-room x none z = refl
  is-room x (some v) z = absurd z

  at-free : (E : Frame) (cs : Cells E) (i : ℕ) → T (free_at E cs i)
      → nth 𝓛 (pos i) (held E cs) ≡ ‵ (froom (ty_at E i) (block_at E i) zero)
  at-free [] cs i z = absurd z
  at-free (x ∷ E) cs zero z = is-room x cs.0 z
  at-free (x ∷ E) cs (suc i) z = at-free E cs.1 i z

  put-val : (E : Frame) (cs : Cells E) (i : ℕ) (v : Val)
      → put 𝓛 (pos i) (‵ (fat full_share (ty_at E i) (block_at E i) zero v)) (held E cs) ≡ held E (set_at E cs i v)
  put-val [] cs i v = refl
  put-val (x ∷ E) cs zero v = refl
  put-val (x ∷ E) cs (suc i) v = ap (λ (Γ : List (Item 𝓤)). cell x cs.0 ∷ ‵ (fdies x.0 x.1) ∷ Γ) (put-val E cs.1 i v)

  module _ where
    recontext : {Γ Γ' : List (Item 𝓤)} {g : Goal 𝓤 H} → Γ ≡ Γ' → Sq 𝓛 Γ' g → Sq 𝓛 Γ g
    recontext {Γ} {Γ'} {g} e s = subst (λ (Δ : List (Item 𝓤)). Sq 𝓛 Δ g) (sym e) s

    module _ (i₀ : Item 𝓤) (E : Frame) (cs : Cells E) where
      abbrev Γ : List (Item 𝓤)
      Γ = i₀ ∷ held E cs

      abbrev ReadsAt : Ty → ℕ → ℕ → Val → Type 2
      ReadsAt = Reads (Go {0}) 𝓛 Γ

      reads_at : (i : ℕ) (v : Val) → val_of E cs i ≡ some v → ReadsAt (ty_at E i) (block_at E i) zero v
      reads_at i v e = look ! (suc (pos i)) (at-val E cs i v e)

      module _ (ws : AllWt E cs) where
        field-go : (i n : ℕ) (k : Val → Type 0) → InField E cs i n k → {G : Type 1}
            → ((v : Val) → WT v → (τ : Ty) (d : ℕ) → field_of (ty_at E i) n ≡ some (τ, d) → ReadsAt τ (block_at E i) (zero + d) v
            → k v → G) → G
        field-go i n k x g = on_some (val_of E cs i) _ x (λ v e x₁. on_some (fields_of v) _ x₁ (λ s es x₂.
            on_some (struct_of (ty_at E i)) _ x₂ (λ z ez x₃. on_some (field_at zero z.1 n) _ x₃ (λ f ef x₄.
            let whole-at : Item 𝓤 = ‵ (fat full_share (ty_struct z.0 z.1) (block_at E i) zero (vstruct s.0)) in
            let is : nth 𝓛 (pos i) (held E cs) ≡ whole-at =
            at-val E cs i v e ∙ (ap (λ (u : Val). ‵ (fat full_share (ty_at E i) (block_at E i) zero u)) s.1
            ∙ ap (λ (τ : Ty). ‵ (fat full_share τ (block_at E i) zero (vstruct s.0))) z.2) in
            g (get_v s.0 n) (wt-get s.0 n (subst WT s.1 (wt_at E cs i v ws e))) f.0 f.1 (ap (λ (τ : Ty). field_of τ n) z.2 ∙ ef)
            (look_in ! (suc (pos i))
            (sub ! n ef (subst (λ (j : Item 𝓤). Part (Go {0}) 𝓛 j full_share (ty_struct z.0 z.1) (block_at E i) zero (vstruct s.0)
            (λ u. ‵ (fat full_share (ty_struct z.0 z.1) (block_at E i) zero u))) (sym is) (whole !)))) x₄))))

        place-go : (i : ℕ) (st : List PStep) (k : Val → Type 0) → AtPlace E cs i st k → {G : Type 1}
            → ((v : Val) → WT v → Opd (Go {0}) 𝓛 Γ E (copy (place i st)) v → k v → G) → G
        place-go i [] k x g = on_some (val_of E cs i) k x (λ v e y. g v (wt_at E cs i v ws e) (load ! (from ! (stop !)) (reads_at i v e)) y)
        place-go i (deref τ ∷ st) k x g = absurd x
        place-go i (field n ∷ []) k x g = field-go i n k x (λ v w τ d e r y. g v w (load ! (from ! (fld ! e (stop !))) r) y)
        place-go i (field n ∷ s ∷ st) k x g = absurd x
        place-go i (variant n ∷ st) k x g = absurd x

        opd-go : (x : Operand) (k : Val → Type 0) → OkOpd E cs x k → {G : Type 1}
            → ((v : Val) → WT v → Opd (Go {0}) 𝓛 Γ E x v → k v → G) → G
        opd-go (copy (place i st)) k x g = place-go i st k x g
        opd-go (int w n) k x g = let t = on-true (ltb n (2 ^ bits w)) _ x in g (vint w n) (record { fits = lit< t.0 }) (lit ! t.0) t.1
        opd-go (int_neg w n) k x g = absurd x
        opd-go (int_big w n) k x g = absurd x
        opd-go (float f n) k x g = absurd x
        opd-go opd_true k x g = absurd x
        opd-go opd_false k x g = absurd x
        opd-go opd_unit k x g = absurd x
        opd-go (ptr_const n) k x g = absurd x
        opd-go (size_of τ) k x g = absurd x
        opd-go (align_of τ) k x g = absurd x
        opd-go (num_of w τ) k x g = absurd x
        opd-go (fn_addr f ς) k x g = absurd x
        opd-go (vtable τ ss) k x g = absurd x

        opds-go : (xs : List Operand) (k : List Val → Type 0) → OkOpds E cs xs k → {G : Type 1}
            → ((vs : List Val) → WTs (of_list vs) → Opds (Go {0}) 𝓛 Γ E xs vs → k vs → G) → G
        opds-go [] k x g = g [] tt (no_more !) x
        opds-go (o ∷ os) k x g = opd-go o _ x (λ v w read y. opds-go os (λ vs. k (v ∷ vs)) y (λ vs ws' reads z.
            g (v ∷ vs) (w, ws') (and_then ! read reads) z))

        down-go : (st : List PStep) (τ : Ty) (b o : ℕ) (k : ℕ → Type 0) → Down τ o st k → {G : Type 1}
            → ((τ' : Ty) (o' : ℕ) → Walks (Go {0}) 𝓛 Γ E (τ, b, o) st (τ', b, o') → k o' → G) → G
        down-go [] τ b o k x g = g τ o (stop !) x
        down-go (deref τ' ∷ st) τ b o k x g = absurd x
        down-go (field n ∷ st) τ b o k x g = on_some (field_of τ n) _ x (λ f e y.
            down-go st f.0 b (o + f.1) k y (λ τ' o' w z. g τ' o' (fld ! e w) z))
        down-go (variant n ∷ st) τ b o k x g = absurd x

        address-go : (i : ℕ) (st : List PStep) (k : Val → Type 0) → Address E cs i st k → {G : Type 1}
            → ((v : Val) → WT v → Rv (Go {0}) 𝓛 Γ E (addr_of (place i st)) v → k v → G) → G
        address-go i [] k x g = absurd x
        address-go i (deref τ ∷ st) k x g = on_some (val_of E cs i) _ x (λ v e y. on_some (ptr_of v) _ y (λ a ea z.
            down-go st τ a.0 a.1 _ z (λ τ' o' w u.
            g (vptr a.0 o') tt (addr ! (from ! (hop ! (reads_at i (vptr a.0 a.1) (e ∙ ap some a.2)) w))) u)))
        address-go i (field n ∷ []) k x g = absurd x
        address-go i (field n ∷ deref τ ∷ st) k x g = field-go i n _ x (λ v wv τ₀ d e r y. on_some (ptr_of v) _ y (λ a ea z.
            down-go st τ a.0 a.1 _ z (λ τ' o' w u. g (vptr a.0 o') tt
            (addr ! (from ! (fld ! e (hop ! (subst (λ (x : Val). ReadsAt τ₀ (block_at E i) (zero + d) x) a.2 r) w)))) u)))
        address-go i (field n ∷ field m ∷ st) k x g = absurd x
        address-go i (field n ∷ variant m ∷ st) k x g = absurd x
        address-go i (variant n ∷ st) k x g = absurd x

        rv-go : (r : RValue) (k : Val → Type 0) → OkRv E cs r k → {G : Type 1} → ((v : Val) → WT v → Rv (Go {0}) 𝓛 Γ E r v → k v → G)
            → G
        rv-go (rv_opd o) k x g = opd-go o k x (λ v w read y. g v w (of_opd ! read) y)
        rv-go (op2 o a b) k x g = absurd x
        rv-go (op1 o a) k x g = absurd x
        rv-go (addr_of (place i st)) k x g = address-go i st k x g
        rv-go (aggregate os) k x g = opds-go os _ x (λ vs w reads y. g (vstruct (of_list vs)) w (agg ! reads) y)
        rv-go (repeat o n) k x g = absurd x
        rv-go (repeat_p o n) k x g = absurd x
        rv-go (select m o o') k x g = absurd x

    -- ---- all locals are freed, beside R
    cell_room : (x : Ty × ℕ) (c : Option Val) → ent 𝓤 (mean 𝓛 (cell x c)) (H.room x.0 x.1 zero)
    cell_room x none = id⊢ 𝓤 (H.room x.0 x.1 zero)
    cell_room x (some v) = 𝓛.laws.at_room x.0 x.1 zero v

    free : (E : Frame) (cs : Cells E) (R : SProp 𝓤) → ent 𝓤 (sep 𝓤 R (own E cs)) (release 𝓤 H E R)
    free [] cs R = fst∗ 𝓤 R (emp 𝓤)
    free (x ∷ E) cs R =
        qed 𝓛 (raw R ∷ (((cell x cs.0) ⊛ ‵ (fdies x.0 x.1)) ⊛ raw (own E cs.1)) ∷ []) ∵ move ! (1 ∷ []) $ split ! $ split !
        $
        use1 𝓛 (‵ (froom x.0 x.1 zero)) (cell_room x cs.0) $ join ! $ frame ! $ move ! (1 ∷ []) $ by ! (free E cs.1 R)

    -- each argument is stored
    store-all : (E : Frame) (vs : List Val) → EachTyped E vs → (R G : SProp 𝓤) → ent 𝓤 (sep 𝓤 R (own E (passed_in E vs))) G
        → ent 𝓤 (sep 𝓤 R (own E (empty E))) (pass 𝓤 H E vs G)
    store-all [] [] ok R G h = h
    store-all [] (v ∷ vs) ok R G h = absurd ok
    store-all (x ∷ E) [] ok R G h = h
    store-all (x ∷ E) (v ∷ vs) ok R G h =
        let d = H.dies x.0 x.1 in
        let c = H.at full_share x.0 x.1 zero v in
        qed 𝓛 (raw R ∷ ((‵ (froom x.0 x.1 zero) ⊛ ‵ (fdies x.0 x.1)) ⊛ raw (own E (empty E))) ∷ []) ∵ check ! ok.0 $
        move ! (1 ∷ []) $ split ! $ split ! $ frame ! $ assume ! (‵ (fat full_share x.0 x.1 zero v)) $
        -- [the cell; what frees it; the other locals; R]
        move ! (3 ∷ 0 ∷ 1 ∷ []) $ group ! 3 $ by ! (store-all E vs ok.1 (sep 𝓤 R (sep 𝓤 c d)) G
        (via 𝓤 (sep 𝓤 R (sep 𝓤 (sep 𝓤 c d) (own E (passed_in E vs)))) (assoc∗ 𝓤 R (sep 𝓤 c d) (own E (passed_in E vs))) h))

    -- all locals are allocated
    make-all : (ls : List Local) (R : SProp 𝓤) (G : Env 𝓤 H → SProp 𝓤)
        → ((bs : Blocks ls) → ent 𝓤 (sep 𝓤 R (own (frame_of ls bs) (empty (frame_of ls bs)))) (G (frame_of ls bs)))
        → ent 𝓤 R (alloc 𝓤 H ls G)
    make-all [] R G h = via 𝓤 (sep 𝓤 R (emp 𝓤)) (via 𝓤 (sep 𝓤 (emp 𝓤) R) (emp∗ 𝓤 R) (comm∗ 𝓤 (emp 𝓤) R)) (h tt)
    make-all (local τ z ∷ ls) R G h = all_i 𝓤 _ (λ b.
        let c = sep 𝓤 (H.room τ b zero) (H.dies τ b) in
        wand_i 𝓤 R c _ (make-all ls (sep 𝓤 R c) (λ E. G ((τ, b) ∷ E)) (λ bs.
        let others = own (frame_of ls bs) (empty (frame_of ls bs)) in
        via 𝓤 (sep 𝓤 R (sep 𝓤 c others)) (assoc∗ 𝓤 R c others) (h (b, bs)))))

    module _ (C : Calls 𝓤 H) (Λ : Loops 𝓤 H) (fm : FmC 𝓤 H 𝓛.laws C) (Q : Val → SProp 𝓤) where
      run-go : (E : Frame) (q : Post 𝓤 H) → post 𝓤 H q returnsᴼ ≡ at_return 𝓤 H E Q returnsᴼ → (b : Body) (cs : Cells E) → AllWt E cs
          → (t : Course) (k : Cells E → Course → Type 0) → OkBody E b cs t k
          → ((cs' : Cells E) (t' : Course) → AllWt E cs' → k cs' t' → Sq 𝓛 (raw (Does 𝓤 H C Q t') ∷ held E cs') (prop (post 𝓤 H q nextᴼ)))
          → Sq 𝓛 (raw (Does 𝓤 H C Q t) ∷ held E cs) (runs C Λ E b q)
      run-go E q e skip cs ws t k x go = absurd x
      run-go E q e (seq a b) cs ws t k x go = first ! $ run-go E (any_q (after_seq 𝓤 H (Wp 𝓤 H C Λ E b (post 𝓤 H q)) (post 𝓤 H q))) e a cs ws t _ x
          (λ cs' t' ws' y. exec ! C Λ E b q $ run-go E q e b cs' ws' t' k y go)
      run-go E q e (assign (place j []) r) cs ws t k x go = rv-go (raw (Does 𝓤 H C Q t)) E cs ws r _ x (λ v w value y.
          let free-j = on-true (free_at E cs j) _ y in
          let typed = on-true (has_ty (ty_at E j) v) _ free-j.1 in
          assigns_last ! value (from ! (stop !)) (init ! (suc (pos j)) (at-free E cs j free-j.0) (typed.0, w)) $
          recontext (ap (λ (Δ : List (Item 𝓤)). raw (Does 𝓤 H C Q t) ∷ Δ) (put-val E cs j v))
          (go (set_at E cs j v) t (wt-set E cs j v ws w) typed.1))
      run-go E q e (assign (place j (z ∷ st)) r) cs ws t k x go = absurd x
      run-go E q e (block b) cs ws t k x go = absurd x
      run-go E q e (loop b) cs ws t k x go = absurd x
      run-go E q e (cond c a b) cs ws t k x go = absurd x
      run-go E q e (switch c arms) cs ws t k x go = absurd x
      run-go E q e (exit n) cs ws t k x go = absurd x
      run-go E q e unreachable cs ws t k x go = absurd x
      run-go E q e (call_v f ς xs d) cs ws t k x go = absurd x
      run-go E q e (lend_static p τ c) cs ws t k x go = absurd x
      run-go E q e return cs ws t k x go = on_some (val_of E cs zero) _ x (λ v ev y.
          subst (λ (t' : Course). Sq 𝓛 (raw (Does 𝓤 H C Q t') ∷ held E cs) (runs C Λ E return q)) (sym y) (
          returns_within ! Q e (reads_at (raw (Q v)) E cs zero v ev) $
          by ! (via 𝓤 (sep 𝓤 (Q v) (⋆ 𝓛 (held E cs))) (pop 𝓛 (raw (Q v)) (held E cs))
          (via 𝓤 (sep 𝓤 (Q v) (own E cs)) (mono_r 𝓤 (Q v) (from-held E cs)) (free E cs (Q v))))))
      run-go E q e (call g xs (place j (z ∷ st))) cs ws t k x go = absurd x
      run-go E q e (call g xs (place j [])) cs ws (gives v) k x go = absurd x
      run-go E q e (call g xs (place j [])) cs ws (asks f us τ more) k x go =
          let K : Val → SProp 𝓤 = λ r. H.⇛ (guard 𝓤 (T (has_ty τ r) × WT r) (Does 𝓤 H C Q (more r))) in
          let free-j = on-true (free_at E cs j) _ x in
          use1 𝓛 (later (raw (C f us K))) (id⊢ 𝓤 _) $ await ! tt $
          opds-go (raw (C f us K)) E cs ws xs _ free-j.1 (λ vs _ reads y.
          let at : ent 𝓤 (C f us K) (C g vs K) = subst (λ (h : Callee). ent 𝓤 (C f us K) (C h vs K)) (sym y.0)
          (subst (λ (ys : List Val). ent 𝓤 (C f us K) (C f ys K)) (sym y.1) (id⊢ 𝓤 (C f us K))) in
          calls_from_last ! fm (raw (C f us K)) vs K at reads (λ r.
          use1 𝓛 (later (given (T (has_ty τ r) × WT r) (raw (Does 𝓤 H C Q (more r))))) (id⊢ 𝓤 _) $ await ! tt $ learn ! (λ ok.
          land_last ! (from ! (stop !)) (init ! (suc (pos j)) (at-free E cs j free-j.0)
          (subst (λ (σ : Ty). T (has_ty σ r) × WT r) y.2 ok)) $
          recontext (ap (λ (Δ : List (Item 𝓤)). raw (Does 𝓤 H C Q (more r)) ∷ Δ) (put-val E cs j r))
          (go (set_at E cs j r) (more r) (wt-set E cs j r ws ok.1) (y.3 r)))))

      frame-go : (E : Frame) (b : Body) (vs : List Val) (t : Course) → Entered E vs → OkBody E b (at_entry E vs) t (λ cs t'. ⊥)
          → ent 𝓤 (sep 𝓤 (Does 𝓤 H C Q t) (own E (empty E))) (params 𝓤 H E vs (Wp 𝓤 H C Λ E b (at_return 𝓤 H E Q)))
      frame-go [] b vs t ok x = absurd ok
      frame-go (e ∷ E) b vs t ok x =
          let P = Does 𝓤 H C Q t in
          let r = sep 𝓤 (H.room e.0 e.1 zero) (H.dies e.0 e.1) in
          let G = Wp 𝓤 H C Λ (e ∷ E) b (at_return 𝓤 H (e ∷ E) Q) in
          let cs : Cells (e ∷ E) = (none, passed_in E vs) in
          via 𝓤 (sep 𝓤 (sep 𝓤 P r) (own E (empty E))) (assoc' 𝓤 P r (own E (empty E)))
          (store-all E vs ok (sep 𝓤 P r) G (via 𝓤 (sep 𝓤 P (own (e ∷ E) cs)) (assoc∗ 𝓤 P r (own E (passed_in E vs)))
          (via 𝓤 (sep 𝓤 P (⋆ 𝓛 (held (e ∷ E) cs))) (mono_r 𝓤 P (to_held (e ∷ E) cs))
          (run-go (e ∷ E) (at_ret (e ∷ E) Q) refl b cs (tt, wt-passed E vs ok) t _ x (λ cs' t' ws' z. absurd z)).prf)))

      pub follow : (fn : Fn) (vs : List Val) (t : Course) → Follows fn vs t → ((bs : Blocks fn.locals) → Entered (frame_of fn.locals bs) vs)
          → ent 𝓤 (Does 𝓤 H C Q t) (WpFn 𝓤 H C Λ fn vs Q)
      unfolding WpFn
      follow fn vs t ok entered = make-all fn.locals (Does 𝓤 H C Q t) (λ E. params 𝓤 H E vs (Wp 𝓤 H C Λ E fn.body (at_return 𝓤 H E Q)))
          (λ bs. frame-go (frame_of fn.locals bs) fn.body vs t (entered bs) (ok bs))

      -- one call, whose result is one of a type
      pub once : (f : Callee) (us : List Val) (τ : Ty) → ((v : Val) → ent 𝓤 (Q v) (H.⇛ (guard 𝓤 (T (has_ty τ v) × WT v) (Q v))))
          → ent 𝓤 (H.⇛ (C f us Q)) (Does 𝓤 H C Q (asks f us τ gives))
      once f us τ fits = qed 𝓛 (later (raw (C f us Q)) ∷ []) ∵ updating ! $ await ! tt $ at_once ! $
          by ! (via 𝓤 _ (pop 𝓛 (raw (C f us Q)) []) (fm f us Q _ (⋆ 𝓛 []) (λ r. via 𝓤 (Q r) (fst∗ 𝓤 (Q r) (⋆ 𝓛 [])) (fits r))))

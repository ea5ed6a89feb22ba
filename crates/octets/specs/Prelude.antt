-- The names of the logic's own libraries that most files use, passed on under one name: equality, lists, numbers, tests, and
-- for proofs their usual laws and the tactics' rule sets. Nothing is defined here.
pub use Rattle.std.specs.Prelude.{◌≡◌, refl, ◌↔◌, ◌⊎◌, Bool, true, false, cond, not, ◌&&◌, ◌||◌, List, [], ◌∷◌, ◌++◌, ℕ, zero, suc, ◌+◌, ◌-◌, ◌*◌, ◌/◌, ◌%◌, ◌^◌, ◌≤◌, ◌<◌, min, eqb, leb, ltb, T, length, take, drop, get_or, set, replicate}
pub use Rattle.std.proofs.Common.{sym, ◌∙◌, ap, ap₂, subst, inl, inr, ⊎_elim, append-nil, append_assoc, lit≤, length-take, length-drop, length-append, length-set, drop_of_length-le, take-append-drop, length-take-le, take_all, take_at, drop_at, take-add, drop-drop, drop-cons, get_or-take, get_or-drop, get_or-set_same, get_or-set_other, add-zero, zero-add, add_assoc, pow-suc, mod-lt, add-one, arith, rules, eq-eqb, ne_eqb, eqb-true, le-leb, leb-true, leb-false, lt-ltb, le-ltb, ltb-true, ltb-false}
pub use Rattle.std.proofs.lemmas.Bool.{false≢true, eqb-false, lt-leb, not-true, not-false}
pub use Rattle.std.proofs.lemmas.List.{length-replicate, take-append-le, drop-append-le}
pub use Rattle.std.proofs.Math.ListN.{get_or-append as List·get_d-append}
pub use Rattle.std.proofs.lemmas.List.Edits.{sets, sets-eq}
pub use Rattle.std.proofs.Math.Seq.{length-sets, take-append_seam, take-append-add}
pub use Rattle.std.specs.Int.Bits.{bit_xor, bit_and, xor_zero_r}
pub use Rattle.std.proofs.Math.Decide.{dec_lt, ℕ_discrete}

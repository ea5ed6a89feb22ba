-- A struct whose fields are numbers and arrays of numbers is its fields in memory, side by side, and back: once, over any such
-- struct that is declared. `Lending.antt` takes it so behind a `&mut`, and `Looking.antt` some of its fields behind a `&`.
--     part                       a part by its type and its place
--     members, fields_in, Again, together    a struct's fields as the logic has them in memory, and the way back
--     Simple F, number, array, array_row    a field whose values are the part's as they stand, and the kinds of those
--     Flat                       a struct of simple fields, by what is declared of it
--     row_by, parts_of, values_of, struct_by    its type, its parts, each where the layout puts its field, their values, and back
--     opens                      it opens into its parts, and is joined again from any values of them
--     sift, sifted, looks        a share of it holds that share of the parts that a row of `true` and `false` chooses, in their order; and a `&` to
--                                it is a `&` to each of those
-- It names no struct and no function of any crate. Assumes `Logic`.
use Rattle.lending.proofs.Walks.{by, id⊢, snd∗, mono∗, mono_r, Lft}
use Rattle.lending.proofs.Walks.{◌≡◌, PathP, refl, sym, ap, subst, ◌∙◌, ℕ, ◌+◌, Bool, true, false, List, [], ◌∷◌, map-id, Ura, full_share}
use Rattle.lending.proofs.Walks.{Width, SProp, ent, sep, wand, via, comm∗, wand_e, all_e, Fml, Share, fsep, ftrue, size, align, up}
use Rattle.lending.proofs.Walks.{‵, raw, ◌⊛◌, ◌$◌, ◌∵◌, !, qed, move, keep, use1, use2, split, fsplit, fjoin, assume, frame, done}
use Rattle.lending.proofs.Walks.{RattleType, Denots, Is, Lawfuls, shows, part_at, part_of, lone, nothing, Field, rows, uint_field}
use Rattle.lending.proofs.Walks.{array_field, Held, intos, Record, Propositions, declared, Declared, row, Struct, Member, row_of, rows_of}
use Rattle.lending.proofs.Walks.{parts_at, shape_of, PartsBack, Struct-parts}
use denote.Struct.Laws as LL
use Rattle.lending.proofs.Lending.{Part, Values, lie, Opens}
use Rattle.lending.proofs.Looking.{Looks, seen}
use types.Logic.{Logic, sem}
use types.Share.{PartsLaws}
use base.Share
use base.Share.{halves}
use denote.Memory.{mem, shares, share_laws, shared_of, hidden_shr, fields_shared}
use denote.Array.{Array}
use denote.Plain.{UInt}
use denote.Struct.Field.{row_field}
use denote.Struct.Struct.{Struct-row_laws}
use denote.Struct.Declared.{shape}

abbrev pub part : RattleType → (ℕ → ℕ) → Part
part R at = record { row = R; at = at }

-- ---- a struct's fields as the logic has them, and in memory
abbrev pub member : Field → Member
member F = record { row = F.row; ty = lone F.row.mir }

abbrev pub members : List Field → List Member
members [] = []
members (F ∷ Fs) = member F ∷ members Fs

abbrev pub Fields : Declared → Type 0
Fields D = Denots (rows_of (members D.parts))

module _ (t : Share) (D : Declared) (b o : ℕ) where
  abbrev pub fields_in : Fields D → Fml
  fields_in a = parts_at t (members D.parts) 0 a b o

  abbrev pub joined : Fields D → Fml
  joined a = part_at (Struct (shape_of D.name (members D.parts))) t a b o

  module _ {M : Type 1} {𝓤 : Ura M} (𝓛 : Logic 𝓤) where
    -- the fields, at any values, give the struct again
    abbrev pub Again : SProp 𝓤
    Again = PartsBack 𝓛 t D.name (members D.parts) b o

    pub together : (a : Fields D) → ent 𝓤 (sep 𝓤 (sem 𝓛 (fields_in a)) Again) (sem 𝓛 (joined a))
    together a =
        via 𝓤 (sep 𝓤 Again (sem 𝓛 (fields_in a))) (comm∗ 𝓤 (sem 𝓛 (fields_in a)) Again)
        (wand_e 𝓤 Again (sem 𝓛 (fields_in a)) (sem 𝓛 (joined a))
        (all_e 𝓤 (λ (a' : Fields D). wand 𝓤 (sem 𝓛 (fields_in a')) (sem 𝓛 (joined a'))) a))

-- ---- a field of one MIR type, whose values are the part's
pub record Simple (F : Field) : Type 0 where
  pub value : F.Value → F.row.Denot
  pub back : F.row.Denot → F.Value
  pub same : (x : F.Value) → value x ≡ F.into x
  pub again : (y : F.row.Denot) → value (back y) ≡ y
  pub one : F.row.mir ≡ lone F.row.mir ∷ []

abbrev pub number : (w : Width) → Simple (uint_field w)
number w = record { value = λ x. x; back = λ y. y; same = λ x. refl; again = λ y. refl; one = refl }

abbrev pub array : (w : Width) (n : ℕ) → Simple (array_field (uint_field w) n)
array w n = record { value = λ xs. xs; back = λ ys. ys; same = λ xs. sym (map-id xs); again = λ ys. refl; one = refl }

-- as a struct's module has an array today: a field at the array's own row
abbrev pub array_row : (w : Width) (n : ℕ) → Simple (row_field (Array (UInt w) n))
array_row w n = record { value = λ xs. xs; back = λ ys. ys; same = λ xs. refl; again = λ ys. refl; one = refl }

abbrev pub Simples : List Field → Type 0
Simples [] = Unit {0}
Simples (F ∷ Fs) = Simple F × Simples Fs

-- ---- the parts of fields of which e octets lie before the first; their values, as the struct holds them, and back
abbrev pub start : Field → ℕ → ℕ
start F e = up (align (lone F.row.mir)) e

abbrev pub after : Field → ℕ → ℕ
after F e = start F e + size (lone F.row.mir)

abbrev pub parts_from : List Field → ℕ → List Part
parts_from [] e = []
parts_from (F ∷ Fs) e = part F.row (λ o. o + start F e) ∷ parts_from Fs (after F e)

abbrev pub reads : (Fs : List Field) → Simples Fs → (e : ℕ) → Held Fs → Values (parts_from Fs e)
reads [] ss e xs = tt
reads (F ∷ Fs) ss e xs = (ss.0.value xs.0, reads Fs ss.1 (after F e) xs.1)

abbrev pub holds : (Fs : List Field) → Simples Fs → (e : ℕ) → Values (parts_from Fs e) → Held Fs
holds [] ss e a = tt
holds (F ∷ Fs) ss e a = (ss.0.back a.0, holds Fs ss.1 (after F e) a.1)

reads-again : (Fs : List Field) (ss : Simples Fs) (e : ℕ) (a : Values (parts_from Fs e)) → reads Fs ss e (holds Fs ss e a) ≡ a
reads-again [] ss e a = refl
reads-again (F ∷ Fs) ss e a = λ i. (ss.0.again a.0 i, reads-again Fs ss.1 (after F e) a.1 i)

-- ---- the fields' types and values, as the members'
abbrev row_same : (F : Field) → Simple F → F.row ≡ row_of (member F)
row_same F s i = record {
  Denot = F.row.Denot;
  mir = s.one i;
  written = F.row.written;
  reaches = F.row.reaches;
  lives = F.row.lives;
  own_val = F.row.own_val;
  exit = F.row.exit;
  coded = F.row.coded;
  shr_at = F.row.shr_at;
}

abbrev rows_same : (Fs : List Field) → Simples Fs → rows Fs ≡ rows_of (members Fs)
rows_same [] ss = refl
rows_same (F ∷ Fs) ss = λ i. row_same F ss.0 i ∷ rows_same Fs ss.1 i

abbrev intos_in : (Fs : List Field) → Held Fs → Denots (rows_of (members Fs))
intos_in [] xs = tt
intos_in (F ∷ Fs) xs = (F.into xs.0, intos_in Fs xs.1)

intos-same : (Fs : List Field) (ss : Simples Fs) (xs : Held Fs) → PathP (λ i. Denots (rows_same Fs ss i)) (intos Fs xs) (intos_in Fs xs)
intos-same [] ss xs = refl
intos-same (F ∷ Fs) ss xs = λ i. (F.into xs.0, intos-same Fs ss.1 xs.1 i)

parts_same : (t : Share) (b o : ℕ) (Fs : List Field) (ss : Simples Fs) (e : ℕ) (xs : Held Fs)
    → lie b o t (parts_from Fs e) (reads Fs ss e xs) ≡ parts_at t (members Fs) e (intos_in Fs xs) b o
parts_same t b o [] ss e xs = refl
parts_same t b o (F ∷ Fs) ss e xs = λ i.
    fsep (part_at (row_same F ss.0 i) t (ss.0.same xs.0 i) b (o + start F e)) (parts_same t b o Fs ss.1 (after F e) xs.1 i)

module _ (κ : Lft) (b o : ℕ) {M : Type 1} {𝓤 : Ura M} (𝓛 : Logic 𝓤) where
  -- what a `&` to each field holds, at its part
  fields-seen : (Fs : List Field) (ss : Simples Fs) (e : ℕ) (xs : Held Fs)
      → ent 𝓤 (sem 𝓛 (fields_shared (rows Fs) e (intos Fs xs) b o κ)) (sem 𝓛 (seen b o κ (parts_from Fs e) (reads Fs ss e xs)))
  fields-seen [] ss e xs = id⊢ 𝓤 (sem 𝓛 ftrue)
  fields-seen (F ∷ Fs) ss e xs =
      let held : F.row.Denot → SProp 𝓤 = λ y. sem 𝓛 (shared_of F.row y b (o + start F e) κ) in
      mono∗ 𝓤 (subst (λ (y : F.row.Denot). ent 𝓤 (held (F.into xs.0)) (held y)) (sym (ss.0.same xs.0)) (id⊢ 𝓤 (held (F.into xs.0))))
      (fields-seen Fs ss.1 (after F e) xs.1)

-- ---- the parts that a row of `true` and `false` chooses, and those that it leaves
abbrev pub sift : List Bool → List Part → List Part
sift [] ps = []
sift (c ∷ cs) [] = []
sift (true ∷ cs) (p ∷ ps) = p ∷ sift cs ps
sift (false ∷ cs) (p ∷ ps) = sift cs ps

abbrev pub sifted : (cs : List Bool) (ps : List Part) → Values ps → Values (sift cs ps)
sifted [] ps a = tt
sifted (c ∷ cs) [] a = tt
sifted (true ∷ cs) (p ∷ ps) a = (a.0, sifted cs ps a.1)
sifted (false ∷ cs) (p ∷ ps) a = sifted cs ps a.1

module _ (t : Share) (b o : ℕ) where
  abbrev chosen : (cs : List Bool) (ps : List Part) → Values ps → Fml
  chosen cs ps a = lie b o t (sift cs ps) (sifted cs ps a)

  abbrev left : List Bool → (ps : List Part) → Values ps → Fml
  left [] ps a = lie b o t ps a
  left (c ∷ cs) [] a = ftrue
  left (true ∷ cs) (p ∷ ps) a = left cs ps a.1
  left (false ∷ cs) (p ∷ ps) a = fsep (part_at p.row t a.0 b (p.at o)) (left cs ps a.1)

  module _ {M : Type 1} {𝓤 : Ura M} (𝓛 : Logic 𝓤) where
    chooses : (cs : List Bool) (ps : List Part) (a : Values ps)
        → ent 𝓤 (sem 𝓛 (lie b o t ps a)) (sep 𝓤 (sem 𝓛 (chosen cs ps a)) (sem 𝓛 (left cs ps a)))
    chooses [] ps a = qed 𝓛 (‵ (lie b o t ps a) ∷ []) ∵ nothing ! $ frame ! $ done !
    chooses (c ∷ cs) [] a = qed 𝓛 (‵ ftrue ∷ []) ∵ nothing ! $ frame ! $ done !
    chooses (true ∷ cs) (p ∷ ps) a =
        qed 𝓛 (‵ (lie b o t (p ∷ ps) a) ∷ []) ∵ fsplit ! $ move ! (1 ∷ []) $
        use1 𝓛 (‵ (chosen cs ps a.1) ⊛ ‵ (left cs ps a.1)) (chooses cs ps a.1) $ split ! $
        -- [the others that are chosen; those that are left; the first]
        move ! (2 ∷ 0 ∷ []) $ fjoin ! $ frame ! $ done !
    chooses (false ∷ cs) (p ∷ ps) a =
        qed 𝓛 (‵ (lie b o t (p ∷ ps) a) ∷ []) ∵ fsplit ! $ move ! (1 ∷ []) $
        use1 𝓛 (‵ (chosen cs ps a.1) ⊛ ‵ (left cs ps a.1)) (chooses cs ps a.1) $ split ! $
        frame ! $ move ! (1 ∷ 0 ∷ []) $ fjoin ! $ done !

    -- a `&` to each is a `&` to each that is chosen
    chosen-seen : (κ : Lft) (cs : List Bool) (ps : List Part) (a : Values ps)
        → ent 𝓤 (sem 𝓛 (seen b o κ ps a)) (sem 𝓛 (seen b o κ (sift cs ps) (sifted cs ps a)))
    chosen-seen κ [] ps a = qed 𝓛 (‵ (seen b o κ ps a) ∷ []) ∵ nothing ! $ keep ! (0 ∷ []) $ done !
    chosen-seen κ (c ∷ cs) [] a = id⊢ 𝓤 (sem 𝓛 ftrue)
    chosen-seen κ (true ∷ cs) (p ∷ ps) a = mono_r 𝓤 (sem 𝓛 (hidden_shr p.row κ a.0 b (p.at o))) (chosen-seen κ cs ps a.1)
    chosen-seen κ (false ∷ cs) (p ∷ ps) a =
        via 𝓤 (sem 𝓛 (seen b o κ ps a.1)) (snd∗ 𝓤 (sem 𝓛 (hidden_shr p.row κ a.0 b (p.at o))) (sem 𝓛 (seen b o κ ps a.1))) (chosen-seen κ cs ps a.1)

    unites : (cs : List Bool) (ps : List Part) (a : Values ps)
        → ent 𝓤 (sep 𝓤 (sem 𝓛 (chosen cs ps a)) (sem 𝓛 (left cs ps a))) (sem 𝓛 (lie b o t ps a))
    unites [] ps a = qed 𝓛 (‵ ftrue ∷ ‵ (lie b o t ps a) ∷ []) ∵ keep ! (1 ∷ []) $ done !
    unites (c ∷ cs) [] a = qed 𝓛 (‵ ftrue ∷ ‵ ftrue ∷ []) ∵ keep ! (1 ∷ []) $ done !
    unites (true ∷ cs) (p ∷ ps) a =
        qed 𝓛 (‵ (chosen (true ∷ cs) (p ∷ ps) a) ∷ ‵ (left cs ps a.1) ∷ []) ∵ fsplit ! $ move ! (1 ∷ 2 ∷ []) $
        use2 𝓛 (‵ (lie b o t ps a.1)) (unites cs ps a.1) $ move ! (1 ∷ 0 ∷ []) $ fjoin ! $ done !
    unites (false ∷ cs) (p ∷ ps) a =
        qed 𝓛 (‵ (chosen cs ps a.1) ∷ ‵ (left (false ∷ cs) (p ∷ ps) a) ∷ []) ∵ move ! (1 ∷ []) $ fsplit ! $ move ! (2 ∷ 1 ∷ [])
        $
        use2 𝓛 (‵ (lie b o t ps a.1)) (unites cs ps a.1) $ move ! (1 ∷ 0 ∷ []) $ fjoin ! $ done !

-- ---- a struct of simple fields; `free`: its ghost fields, if it has any, hold of all values
pub record Flat : Type 2 where
  pub struct : Record
  pub propositions : Propositions struct
  pub laws : LL.Laws (declared struct propositions)
  pub copy : LL.Copyables struct.parts
  pub simple : Simples struct.parts
  pub free : (xs : Held struct.parts) → struct.Ghost xs

module _ (S : Flat) where
  abbrev X : Type 0
  X = S.struct.D

  abbrev Fs : List Field
  Fs = S.struct.parts

  abbrev type : Declared
  type = declared S.struct S.propositions

  abbrev pub row_by : RattleType
  row_by = row type

  abbrev pub parts_of : List Part
  parts_of = parts_from Fs 0

  abbrev pub values_of : X → Values parts_of
  values_of d = reads Fs S.simple 0 (S.struct.as_values d)

  abbrev pub struct_by : Values parts_of → X
  struct_by a = S.struct.make (holds Fs S.simple 0 a) (S.free (holds Fs S.simple 0 a))

  values-by : (a : Values parts_of) → values_of (struct_by a) ≡ a
  values-by a =
      let xs : Held Fs = holds Fs S.simple 0 a in
      ap (reads Fs S.simple 0) (S.struct.beta xs (S.free xs)) ∙ reads-again Fs S.simple 0 a

  -- the fields' values as the logic has them
  abbrev fields : X → Fields type
  fields d = intos_in Fs (S.struct.as_values d)

  struct-same : (t : Share) (d : X) (b o : ℕ) → part_at row_by t d b o ≡ joined t type b o (fields d)
  unfolding part_of
  struct-same t d b o = λ i.
      part_at (Struct (record { name = S.struct.name; args = []; types = []; fields = rows_same Fs S.simple i })) t
      (intos-same Fs S.simple (S.struct.as_values d) i) b o

  module _ {M : Type 1} {𝓤 : Ura M} (𝓛 : Logic 𝓤) where
    module _ (t : Share) (b o : ℕ) where
      abbrev Whole : X → SProp 𝓤
      Whole d = sem 𝓛 (part_at row_by t d b o)

      abbrev Parted : Values parts_of → SProp 𝓤
      Parted a = sem 𝓛 (lie b o t parts_of a)

      abbrev Back : SProp 𝓤
      Back = Again t type b o 𝓛

      -- one way and the other, what is shown of the fields is turned into the parts, and into the struct as it is declared
      turned : (d : X) (K : SProp 𝓤 → SProp 𝓤 → Type 1)
          → K (sem 𝓛 (joined t type b o (fields d))) (sem 𝓛 (fields_in t type b o (fields d)))
          → K (Whole d) (Parted (values_of d))
      turned d K k =
          subst (λ (F : Fml). K (sem 𝓛 F) (Parted (values_of d))) (sym (struct-same t d b o))
          (subst (λ (F : Fml). K (sem 𝓛 (joined t type b o (fields d))) (sem 𝓛 F))
          (sym (parts_same t b o Fs S.simple 0 (S.struct.as_values d))) k)

      pub apart : (d : X) → ent 𝓤 (Whole d) (sep 𝓤 (Parted (values_of d)) Back)
      apart d =
          turned d (λ P Q. ent 𝓤 P (sep 𝓤 Q Back)) (Struct-parts 𝓛 t S.struct.name (members Fs)
          (subst (Lawfuls 𝓛) (rows_same Fs S.simple) (LL.lawfuls 𝓛 Fs S.laws)) (fields d) b o)

      rejoin : (d : X) → ent 𝓤 (sep 𝓤 (Parted (values_of d)) Back) (Whole d)
      rejoin d = turned d (λ P Q. ent 𝓤 (sep 𝓤 Q Back) P) (together t type b o 𝓛 (fields d))

      pub rejoin-by : (a : Values parts_of) → ent 𝓤 (sep 𝓤 (Parted a) Back) (Whole (struct_by a))
      rejoin-by a = subst (λ (a' : Values parts_of). ent 𝓤 (sep 𝓤 (Parted a') Back) (Whole (struct_by a))) (values-by a)
          (rejoin (struct_by a))

    abbrev pub opens : Opens 𝓛 row_by parts_of
    opens = record {
      parts = values_of;
      of = struct_by;
      Rejoins = Back full_share;
      apart = λ d b o. apart full_share b o d;
      rejoin = λ a b o. rejoin-by full_share b o a;
    }

    -- some of the parts
    module _ (cs : List Bool) where
      abbrev some : Share → ℕ → ℕ → X → Fml
      some t b o d = chosen t b o cs parts_of (values_of d)

      pub some-apart : (t : Share) (d : X) (b o : ℕ)
          → ent 𝓤 (Whole t b o d) (sep 𝓤 (sem 𝓛 (some t b o d)) (wand 𝓤 (sem 𝓛 (some t b o d)) (Whole t b o d)))
      some-apart t d b o =
          qed 𝓛 (‵ (part_at row_by t d b o) ∷ []) ∵
          use1 𝓛 (‵ (lie b o t parts_of (values_of d)) ⊛ raw (Back t b o)) (apart t b o d) $ split ! $
          use1 𝓛 (‵ (some t b o d) ⊛ ‵ (left t b o cs parts_of (values_of d))) (chooses t b o 𝓛 cs parts_of (values_of d)) $ split ! $
          frame ! $
          -- [those that are left; the way back]
          assume ! (‵ (some t b o d)) $ use2 𝓛 (‵ (lie b o t parts_of (values_of d))) (unites t b o 𝓛 cs parts_of (values_of d)) $
          use2 𝓛 (‵ (part_at row_by t d b o)) (rejoin t b o d) $ done !

      pub some-shares : (κ : Lft) (d : X) (b o : ℕ)
          → ent 𝓤 (sem 𝓛 (shared_of row_by d b o κ)) (sem 𝓛 (seen b o κ (sift cs parts_of) (sifted cs parts_of (values_of d))))
      some-shares κ d b o =
          qed 𝓛 (‵ (shared_of row_by d b o κ) ∷ []) ∵ fsplit ! $ keep ! (0 ∷ []) $
          use1 𝓛 (‵ (seen b o κ parts_of (values_of d))) (fields-seen κ b o 𝓛 Fs S.simple 0 (S.struct.as_values d)) $
          by ! (chosen-seen full_share b o 𝓛 κ cs parts_of (values_of d))

      abbrev laws : PartsLaws 𝓛 (mem row_by) (shares row_by)
      laws = share_laws 𝓛 row_by (Is row_by) (shows 𝓛 row_by) (LL.vals type S.laws) (LL.tells type S.laws) (LL.copy type S.copy 𝓛)

      abbrev pub looks : Looks 𝓛 row_by (sift cs parts_of)
      looks = record {
        parts = λ d. sifted cs parts_of (values_of d);
        halves = λ d b o. record {
          cut = λ q. laws.cut q (Share.left q) (Share.right q) (halves q) d b o;
          join = λ q. laws.join q (Share.left q) (Share.right q) (halves q) d b o;
        };
        apart = some-apart;
        shr_laws = λ d. Struct-row_laws (shape type) (LL.copy_row_laws Fs S.copy) (type.to d);
        shares = λ κ d b o. some-shares κ d b o;
      }

-- An interface and a guest in memory are their parts, side by side, and back, as `Structs.antt` of the crate `lending` has it.
-- The two sides of a ring are a part each: the numbers of one, in a row. No proof of a function cites this.
use Rattle.octets.specs.Prelude.{List, [], ◌∷◌, Bool, true, false, refl}
use mir.Syntax.{w8, w64}
use denote.Struct.Declared.{field}
use Rattle.ring.specs.contracts.receiving.Receiving as R
use Rattle.ring.specs.contracts.sending.Sending as S
use Rattle.interface.specs.contracts.Interface as T
use Rattle.interface.proofs.Interface.TheLaws as T'
use Rattle.guest_steps.specs.contracts.Guest as G
use Rattle.guest_steps.proofs.Guest.TheLaws as G'
use Rattle.lending.proofs.Structs.{Flat, Simple, number, array_row}

-- a side of a ring as a field: its values are its numbers, in a row
abbrev receiving : Simple (field R.the_type)
receiving = record {
  value = λ s. (s.taken, (s.cons, tt));
  back = λ y. record { taken = y.0; cons = y.1.0 };
  same = λ s. refl;
  again = λ y. refl;
  one = refl;
}

abbrev sending : Simple (field S.the_type)
sending = record {
  value = λ s. (s.length, (s.written, (s.prod, tt)));
  back = λ y. record { length = y.0; written = y.1.0; prod = y.1.1.0 };
  same = λ s. refl;
  again = λ y. refl;
  one = refl;
}

abbrev pub interface : Flat
interface = record {
  struct = T.struct;
  propositions = T.the_propositions;
  laws = T'.the_laws;
  copy = T'.the_copy;
  simple =
      let octets = array_row w8 in
      (number w64, (number w64, (number w64, (receiving, (sending, (octets 8, (octets 1024, (octets 24, (octets 40, (octets 128, tt))))))))));
  free = λ xs. tt;
}

-- the numbers, the key and the entries
abbrev pub steering : List Bool
steering = true ∷ true ∷ true ∷ true ∷ true ∷ false ∷ false ∷ false ∷ true ∷ true ∷ []

abbrev pub guest : Flat
guest = record {
  struct = G.struct;
  propositions = G.the_propositions;
  laws = G'.the_laws;
  copy = G'.the_copy;
  simple = (number w64, (sending, (receiving, (array_row w8 1032, (array_row w8 8, (array_row w8 16, tt))))));
  free = λ xs. tt;
}

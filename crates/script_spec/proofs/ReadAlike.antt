-- Lines that are spelled in other ways than the canonical one.
use Rattle.std.proofs.Common.{[], ◌∷◌, refl, inr, arith}
use Rattle.std.specs.Prelude.{codes}
use Rattle.std.specs.Str.Parse.{IsNumeral}
use Rattle.edif_spelling_spec.specs.Grammar.{IsCodes, SpellsString}
use Rattle.edif_spelling_spec.proofs.IntegerLemmas.{digits_from_test}
use Rattle.edif_spelling_spec.proofs.RowLemmas.{identifier-from_is_name}
use Rattle.script_spec.specs.ExampleLines.{AreReadAlike}

seven : IsNumeral 10 (codes "007")
seven = (omega arith, digits_from_test (codes "007") refl)

percent : IsCodes (codes "37") (37 ∷ [])
percent = ([], codes "37", [], refl, refl, (omega arith, digits_from_test (codes "37") refl), refl, omega arith, tt, refl)

text : SpellsString (codes "\"a b%37%\"") (codes "a b%")
text = (codes "a b%37%", refl, refl, ((37 ∷ []) ∷ [], (codes "a b", codes "37", [], [], refl, refl, percent, refl, (refl, refl))))

pub read_alike : AreReadAlike
read_alike = record {
  zeros = inr (refl, (refl, ((seven, refl, omega arith, omega arith), tt)));
  string = (
    (
      refl,
      (
        (refl, identifier-from_is_name (codes "w") refl),
        (
          (refl, identifier-from_is_name (codes "A") refl),
          (
            refl,
            ((refl, identifier-from_is_name (codes "K") refl), (refl, (text, tt))),
          ),
        ),
      ),
    ),
    (refl, refl),
  );
  commented = refl;
}

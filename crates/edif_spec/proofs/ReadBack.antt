-- What is written reads back.
use Rattle.std.proofs.Common.{◌≡◌, List, subst}
use Prim.Native.Nat.{ℕ}
use Rattle.netlist_schema.specs.Valid.{IsValid}
use Rattle.edif_spelling_spec.specs.Spelling.{Spells}
use Rattle.edif_spelling_spec.specs.Tree.{Bare}
use Rattle.edif_spelling_spec.proofs.SpelledTokens.{same_tree}
use Rattle.edif_spec.specs.Arranged.{arranged, canonical_text}
use Rattle.edif_spec.specs.Canonical.{tree_of}
use Rattle.edif_spec.specs.Design.{Design}
use Rattle.edif_spec.specs.Means.{MeansFile}
use Rattle.edif_spec.proofs.Arrange.{arranged_valid}
use Rattle.edif_spec.proofs.ArrangeOrder.{arranged_defined, defined_stays}
use Rattle.edif_spec.proofs.Defined.{defined_before}
use Rattle.edif_spec.proofs.Fine.{text_spelled}
use Rattle.edif_spec.proofs.OnceFile.{file_once}
use Rattle.edif_spec.proofs.Whole.{tree_meant}

-- a text that spells a tree that means a design means no other
pub one_text_meaning : (bytes : List ℕ) (s t : Bare) (d e : Design) → Spells bytes s → MeansFile s d → Spells bytes t → MeansFile t e → e ≡ d
one_text_meaning bytes s t d e spells_s means_s spells_t means_t =
    file_once s e d (subst (λ (u : Bare). MeansFile u e) (same_tree bytes t s spells_t spells_s) means_t) means_s

pub text_spelled_back : (d : Design) → IsValid d → Spells (canonical_text d) (tree_of (arranged d))
text_spelled_back d valid = text_spelled (arranged d) (arranged_valid d valid)

pub text_meant_back : (d : Design) → IsValid d → MeansFile (tree_of (arranged d)) (arranged d)
text_meant_back d valid = tree_meant (arranged d) (arranged_valid d valid) (arranged_defined d valid)

pub meant_stays : (t : Bare) (d : Design) → MeansFile t d → arranged d ≡ d
meant_stays t d means = defined_stays d means.valid (defined_before t d means)

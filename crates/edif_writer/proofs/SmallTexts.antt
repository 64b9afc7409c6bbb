-- The texts of small forms with a fixed number of arguments.
use Rattle.std.proofs.Common.{◌≡◌, ℕ, suc, ℤ, pos, true, false, List, [], ◌∷◌, ◌++◌, Option, Some, None, refl, ap, sym, ◌∙◌, append_assoc, append-nil}
use Rattle.std.specs.Prelude.{codes, cond}
use Rattle.std.specs.Fmt.{signed_decimal}
use Rattle.edif_spelling_spec.specs.Tree.{word}
use Rattle.edif_spec.specs.Canonical.{layout, make, name_tree, port_name_tree, kind_word, name_with, number_tree, value_tree, name_text, string_text}
use Rattle.edif_spec.specs.Design as design
use Rattle.netlist_bus_spec.specs.Runs.{array_name}
use Rattle.netlist_bus_spec.specs.Same.{same_bytes}
use Rattle.edif_writer.specs.Lines.{enclosed}
use Rattle.edif_spec.specs.declared.keyword.Keyword.TheVariants as keywords
use Rattle.netlist_schema.specs.declared.cell.CellKind.TheVariants as kinds
use Rattle.netlist_schema.specs.declared.property.Num.TheVariants as numbers
use Rattle.netlist_schema.specs.declared.property.Value.TheVariants as values

pub rename_text : (level : ℕ) (id : List ℕ) (shown : Option (List ℕ)) (text : List ℕ) → shown ≡ Some text
    → codes "(rename " ++ (name_text id ++ (codes " " ++ (string_text text ++ codes ")"))) ≡ layout level (name_with id shown)
rename_text level id shown text e = rw e (simp (append_assoc, append-nil))

-- the name of an array, whose text is the identifier or another
pub plain_text : (level : ℕ) (d text : List ℕ) → same_bytes d text ≡ true → name_text d ≡ layout level (name_tree (array_name d text))
plain_text level d text e = ap (λ b. layout level (name_with d (cond b None (Some text)))) (sym e)

pub other_text : (level : ℕ) (d text : List ℕ) → same_bytes d text ≡ false
    → codes "(rename " ++ (name_text d ++ (codes " " ++ (string_text text ++ codes ")"))) ≡ layout level (name_tree (array_name d text))
other_text level d text e = rename_text level d (Some text) text refl ∙ ap (λ b. layout level (name_with d (cond b None (Some text)))) (sym e)

pub scaled_text : (level : ℕ) (n : design.Num) (m x : ℤ) → n ≡ numbers.Scaled m x
    → codes "(e " ++ (signed_decimal m ++ (codes " " ++ (signed_decimal x ++ codes ")"))) ≡ layout level (number_tree n)
scaled_text level n m x e = rw e (simp (append_assoc, append-nil))

pub integer_text : (level : ℕ) (v : design.Value) (z : ℤ) → v ≡ values.Integer z → codes "(integer " ++ (signed_decimal z ++ codes ")") ≡ layout level (value_tree v)
integer_text level v z e = rw e (simp append-nil)

pub number_text : (level : ℕ) (v : design.Value) (n : design.Num) → v ≡ values.Number n → codes "(number " ++ (layout (suc level) (number_tree n) ++ codes ")") ≡ layout level (value_tree v)
number_text level v n e = rw e (simp append-nil)

pub text_text : (level : ℕ) (v : design.Value) (text : List ℕ) → v ≡ values.Text text → codes "(string " ++ (string_text text ++ codes ")") ≡ layout level (value_tree v)
text_text level v text e = rw e (simp (append_assoc, append-nil))

pub enclosed_text : (opening : List ℕ) (o : Option (List ℕ)) (text : List ℕ) → o ≡ Some text → opening ++ (string_text text ++ codes ")") ≡ enclosed opening o
enclosed_text opening o text e = rw e refl

pub scalar_text : (level : ℕ) (name : design.Name) (array : Option ℕ) → array ≡ None → layout level (name_tree name) ≡ layout level (port_name_tree name array)
scalar_text level name array e = rw e refl

pub array_text : (level : ℕ) (name : design.Name) (array : Option ℕ) (n : ℕ) → array ≡ Some n
    → codes "(array " ++ (layout (suc level) (name_tree name) ++ (codes " " ++ (signed_decimal (pos n) ++ codes ")"))) ≡ layout level (port_name_tree name array)
array_text level name array n e = rw e (simp (append_assoc, append-nil))

pub kind_text : (kind : design.CellKind) → codes "(cellType " ++ (kind_word kind ++ codes ")") ≡ layout 4 (make keywords.CellType (word (kind_word kind) ∷ []))
kind_text kinds.Generic = refl
kind_text kinds.Tie = refl
kind_text kinds.Ripper = refl

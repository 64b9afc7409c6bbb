use Rattle.std.proofs.Common.{◌≡◌, ◌∙◌, [], ℤ, pos, ap, sym, subst, Some, get_or, arith}
use Rattle.std.specs.Int.{w64}
use Rattle.std.specs.Prelude.{FitsSigned}
use Rattle.std.proofs.lemmas.Int.{to_z-of_z}
use Rattle.edif_tree.specs.Nodes.{FormOf, IntegerOf, StringOf, WordOf, Stores}
use Rattle.edif_tree.specs.Ranges.{ids_of}
use Rattle.edif_tree.specs.declared.stored.StoredKind.TheVariants as kinds
use Rattle.edif_tree.proofs.NodeLemmas.{looked, read_got, read_within}
use Rattle.edif_tree.proofs.rows.Rows.shape.Goals as goal

pub get-requires : goal.get-requires
get-requires c =
    let s : Stores = record { arguments = c.self.inside.arguments.lists; words = c.self.inside.words; integers = c.self.inside.integers.items; strings = c.self.inside.strings } in
    (looked s c.self.inside.nodes.items c.args.self.now c.args.id.0 c.index.result.now (kinds.Form c.in-Form.at) c.self.view_is c.requires c.index.ensures (sym c.unpack.ensures ∙ c.in-Form.is) c.self.invariant).within

pub returns-in-Form : goal.returns-in-Form
returns-in-Form c =
    let s : Stores = record { arguments = c.self.inside.arguments.lists; words = c.self.inside.words; integers = c.self.inside.integers.items; strings = c.self.inside.strings } in
    (looked s c.self.inside.nodes.items c.args.self.now c.args.id.0 c.index.result.now (kinds.Form c.in-Form.at) c.self.view_is c.requires c.index.ensures (sym c.unpack.ensures ∙ c.in-Form.is) c.self.invariant).shape
    ∙ ap (λ v. Some (FormOf v)) (read_got [] (ids_of c.get.result) c.self.inside.arguments.lists c.in-Form.at c.get.ensures)

pub name-requires : goal.name-requires
name-requires c =
    let s : Stores = record { arguments = c.self.inside.arguments.lists; words = c.self.inside.words; integers = c.self.inside.integers.items; strings = c.self.inside.strings } in
    (looked s c.self.inside.nodes.items c.args.self.now c.args.id.0 c.index.result.now (kinds.Word c.in-Word.at) c.self.view_is c.requires c.index.ensures (sym c.unpack.ensures ∙ c.in-Word.is) c.self.invariant).within

pub returns-in-Word : goal.returns-in-Word
returns-in-Word c =
    let s : Stores = record { arguments = c.self.inside.arguments.lists; words = c.self.inside.words; integers = c.self.inside.integers.items; strings = c.self.inside.strings } in
    (looked s c.self.inside.nodes.items c.args.self.now c.args.id.0 c.index.result.now (kinds.Word c.in-Word.at) c.self.view_is c.requires c.index.ensures (sym c.unpack.ensures ∙ c.in-Word.is) c.self.invariant).shape
    ∙ ap (λ v. Some (WordOf v)) (read_got [] c.name.result.now c.self.inside.words c.in-Word.at c.name.ensures)

pub index-requires-in-Integer : goal.index-requires-in-Integer
index-requires-in-Integer c =
    let s : Stores = record { arguments = c.self.inside.arguments.lists; words = c.self.inside.words; integers = c.self.inside.integers.items; strings = c.self.inside.strings } in
    let within = (looked s c.self.inside.nodes.items c.args.self.now c.args.id.0 c.index.result.now (kinds.Integer c.in-Integer.at) c.self.view_is c.requires c.index.ensures (sym c.unpack.ensures ∙ c.in-Integer.is) c.self.invariant).within.0 in
    let ok = c.self.inside.integers.ok.0 in
    omega arith

pub returns-in-Integer : goal.returns-in-Integer
returns-in-Integer c =
    let s : Stores = record { arguments = c.self.inside.arguments.lists; words = c.self.inside.words; integers = c.self.inside.integers.items; strings = c.self.inside.strings } in
    let at = looked s c.self.inside.nodes.items c.args.self.now c.args.id.0 c.index.result.now (kinds.Integer c.in-Integer.at) c.self.view_is c.requires c.index.ensures (sym c.unpack.ensures ∙ c.in-Integer.is) c.self.invariant in
    let value = c.index-in-Integer.result.now in
    let same : value ≡ get_or c.self.inside.integers.items c.in-Integer.at (pos 0) = c.index-in-Integer.ensures ∙ read_within (pos 0) value c.self.inside.integers.items c.in-Integer.at at.within.0 in
    let F : ℤ → Type 0 = FitsSigned w64 in
    at.shape ∙ ap (λ v. Some (IntegerOf v)) (sym (to_z-of_z w64 value (subst F (sym same) at.within.1) ∙ same))

pub get-requires-in-String : goal.get-requires-in-String
get-requires-in-String c =
    let s : Stores = record { arguments = c.self.inside.arguments.lists; words = c.self.inside.words; integers = c.self.inside.integers.items; strings = c.self.inside.strings } in
    (looked s c.self.inside.nodes.items c.args.self.now c.args.id.0 c.index.result.now (kinds.String c.in-String.at) c.self.view_is c.requires c.index.ensures (sym c.unpack.ensures ∙ c.in-String.is) c.self.invariant).within

pub returns-in-String : goal.returns-in-String
returns-in-String c =
    let s : Stores = record { arguments = c.self.inside.arguments.lists; words = c.self.inside.words; integers = c.self.inside.integers.items; strings = c.self.inside.strings } in
    let at = looked s c.self.inside.nodes.items c.args.self.now c.args.id.0 c.index.result.now (kinds.String c.in-String.at) c.self.view_is c.requires c.index.ensures (sym c.unpack.ensures ∙ c.in-String.is) c.self.invariant in
    at.shape ∙ ap (λ v. Some (StringOf v)) (read_got [] c.get-in-String.result.now c.self.inside.strings c.in-String.at c.get-in-String.ensures)

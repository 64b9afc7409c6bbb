use Rattle.std.proofs.Common.{◌≡◌, ◌≤◌, ◌∙◌, ℕ, List, [], Some, refl, subst}
use Rattle.std.specs.Prelude.{codes}
use Rattle.netlist_schema.specs.Types.{Lib, Name, Note, Property}
use Rattle.netlist_schema.specs.Valid.{IsValid}
use Rattle.flat_spec.specs.ExampleParts.{named, id_of}
use Rattle.gen_spec.specs.Generated.{generated}
use Rattle.design_gen.proofs.Valid.{generated_is_valid}
use Rattle.design_gen.proofs.design.gen_design.Goals as goal

parts_are_valid : (n : ℕ) (title name : Name) (libs : List Lib) (properties : List Property) (notes : List Note) → n ≤ 4096 → title ≡ named (codes "gen") → libs ≡ (generated n).libs → name ≡ named (codes "gen") → properties ≡ [] → notes ≡ []
    → IsValid (record { title = title; libs = libs; top = Some (record { name = name; cell = id_of 1 1; properties = properties }); notes = notes })
parts_are_valid n title name libs properties notes few t l m p s =
    let same : generated n ≡ record { title = title; libs = libs; top = Some (record { name = name; cell = id_of 1 1; properties = properties }); notes = notes } = rw (t, l, m, p, s) refl in
    subst IsValid same (generated_is_valid n few)

pub of-requires-3 : goal.of-requires-3
of-requires-3 c = parts_are_valid c.args.count c.in_ok-title.title c.in_ok-name.field-0 c.in_ok-libs.libs c.of.result c.of-2.result c.requires.1 c.in_ok-title.ensures c.in_ok-libs.ensures c.in_ok-name.ensures (c.of.ensures ∙ c.new.ensures.items) (c.of-2.ensures ∙ c.new-2.ensures.items)

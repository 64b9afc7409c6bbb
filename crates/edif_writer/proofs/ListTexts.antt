-- The texts of forms with lists of arguments.
use Rattle.std.proofs.Common.{◌≡◌, ℕ, suc, List, [], ◌∷◌, ◌++◌, map, Option, Some, None, refl, ap, sym, ◌∙◌, append_assoc, append-nil}
use Rattle.std.specs.Prelude.{codes}
use Rattle.edif_spelling_spec.specs.Tree.{word}
use Rattle.edif_spec.specs.Canonical.{layout, make, new_line, contents_tree, name_tree, port_name_tree, direction_tree, port_tree, interface_tree, view_tree, cell_tree, kind_word, value_tree, property_tree, perhaps, text_tree}
use Rattle.edif_spec.specs.Design as design
use Rattle.edif_spec.specs.declared.keyword.Keyword.TheVariants as keywords
use Rattle.edif_writer.specs.Lines.{spaced, lined, enclosed}
use Rattle.edif_writer.proofs.FormTexts.{small_form, large_form, spaced-append, lined-append}
use Rattle.edif_writer.proofs.SmallTexts.{kind_text}

owner_text : (level : ℕ) (o : Option (List ℕ)) → enclosed (codes " (owner ") o ≡ spaced level (perhaps (text_tree keywords.Owner) o)
owner_text level None = refl
owner_text level (Some text) = simp (append_assoc, append-nil)

after_two : (a b s e : List ℕ) → codes " " ++ (a ++ (codes " " ++ (b ++ (s ++ e)))) ≡ ((32 ∷ a) ++ ((32 ∷ b) ++ s)) ++ e
after_two a b s e = simp append_assoc

pub property_text : (level : ℕ) (p : design.Property) → codes "(property " ++ (layout (suc level) (name_tree p.key) ++ (codes " " ++ (layout (suc level) (value_tree p.value) ++ (enclosed (codes " (owner ") p.owner ++ codes ")")))) ≡ layout level (property_tree p)
property_text level p =
    let a = layout (suc level) (name_tree p.key) in
    let b = layout (suc level) (value_tree p.value) in
    let owner = perhaps (text_tree keywords.Owner) p.owner in
    ap (λ v. codes "(property " ++ (a ++ (codes " " ++ (b ++ (v ++ codes ")"))))) (owner_text level p.owner)
    ∙ (ap (λ v. codes "(property" ++ v) (after_two a b (spaced level owner) (codes ")"))
    ∙ sym (small_form level keywords.Property (name_tree p.key ∷ value_tree p.value ∷ owner) refl))

pub designator_text : (level : ℕ) (o : Option (List ℕ)) → enclosed (codes " (designator ") o ≡ spaced level (perhaps (text_tree keywords.Designator) o)
designator_text level None = refl
designator_text level (Some text) = simp (append_assoc, append-nil)

port_parts : (a d g p e : List ℕ) → codes " " ++ (a ++ (d ++ (g ++ (p ++ e)))) ≡ ((32 ∷ a) ++ (d ++ (g ++ p))) ++ e
port_parts a d g p e = simp append_assoc

pub port_text : (level : ℕ) (p : design.Port) → codes "(port " ++ (layout (suc level) (port_name_tree p.name p.array) ++ (spaced level (perhaps direction_tree p.direction)
    ++ (enclosed (codes " (designator ") p.designator ++ (spaced level (map property_tree p.properties) ++ codes ")")))) ≡ layout level (port_tree p)
port_text level p =
    let a = layout (suc level) (port_name_tree p.name p.array) in
    let direction = perhaps direction_tree p.direction in
    let designator = perhaps (text_tree keywords.Designator) p.designator in
    let properties = map property_tree p.properties in
    ap (λ v. codes "(port " ++ (a ++ (spaced level direction ++ (v ++ (spaced level properties ++ codes ")"))))) (designator_text level p.designator)
    ∙ (ap (λ v. codes "(port" ++ v) (port_parts a (spaced level direction) (spaced level designator) (spaced level properties) (codes ")"))
    ∙ (ap (λ v. codes "(port" ++ (((32 ∷ a) ++ (spaced level direction ++ v)) ++ codes ")")) (sym (spaced-append level designator properties))
    ∙ (ap (λ v. codes "(port" ++ (((32 ∷ a) ++ v) ++ codes ")")) (sym (spaced-append level direction (designator ++ properties)))
    ∙ sym (small_form level keywords.Port (port_name_tree p.name p.array ∷ (direction ++ (designator ++ properties))) refl))))

pub interface_text : (c : design.CellBody) → codes "(interface" ++ (lined 5 (map port_tree c.ports) ++ (lined 5 (map property_tree c.interface_properties) ++ codes ")")) ≡ layout 5 (interface_tree c)
interface_text c =
    let ports = map port_tree c.ports in
    let properties = map property_tree c.interface_properties in
    ap (λ v. codes "(interface" ++ v) (sym (append_assoc (lined 5 ports) (lined 5 properties) (codes ")")))
    ∙ (ap (λ v. codes "(interface" ++ (v ++ codes ")")) (sym (lined-append 5 ports properties))
    ∙ sym (large_form 5 keywords.Interface [] (ports ++ properties) refl))

view_parts : (s a t n i p c e : List ℕ) → s ++ (a ++ (t ++ (n ++ (i ++ (p ++ (c ++ e)))))) ≡ (((s ++ a) ++ (t ++ [])) ++ ((n ++ i) ++ (p ++ c))) ++ e
view_parts s a t n i p c e = simp (append_assoc, append-nil)

-- the text of a view
pub view_text : (libs : List design.Lib) (c : design.CellBody)
    → codes "(view " ++ (layout 5 (name_tree c.view) ++ (codes " (viewType NETLIST)\n    " ++ (layout 5 (interface_tree c) ++ (lined 4 (map property_tree c.view_properties)
    ++ (lined 4 (perhaps (contents_tree libs c.ports) c.contents) ++ codes ")"))))) ≡ layout 4 (view_tree libs c)
view_text libs c =
    let a = layout 5 (name_tree c.view) in
    let i = layout 5 (interface_tree c) in
    let properties = map property_tree c.view_properties in
    let inside = perhaps (contents_tree libs c.ports) c.contents in
    ap (λ v. codes "(view" ++ v) (view_parts (codes " ") a (codes " (viewType NETLIST)") (new_line 4) i (lined 4 properties) (lined 4 inside) (codes ")"))
    ∙ (ap (λ v. codes "(view" ++ ((((32 ∷ a) ++ (codes " (viewType NETLIST)" ++ [])) ++ ((new_line 4 ++ i) ++ v)) ++ codes ")")) (sym (lined-append 4 properties inside))
    ∙ sym (large_form 4 keywords.View (name_tree c.view ∷ make keywords.ViewType (word (codes "NETLIST") ∷ []) ∷ []) (interface_tree c ∷ (properties ++ inside)) refl))

cell_parts : (s a k p n v e : List ℕ) → s ++ (a ++ (s ++ (k ++ (p ++ (n ++ (v ++ e)))))) ≡ (((s ++ a) ++ ((s ++ k) ++ [])) ++ (p ++ ((n ++ v) ++ []))) ++ e
cell_parts s a k p n v e = simp (append_assoc, append-nil)

kind_parts : (k e : List ℕ) → codes "(cellType " ++ (k ++ (codes ")" ++ e)) ≡ (codes "(cellType " ++ (k ++ codes ")")) ++ e
kind_parts k e = ap (λ v. codes "(cellType " ++ v) (sym (append_assoc k (codes ")") e))

-- the text of a cell
pub cell_text : (libs : List design.Lib) (c : design.CellBody)
    → codes "(cell " ++ (layout 4 (name_tree c.name) ++ (codes " (cellType " ++ (kind_word c.kind ++ (codes ")" ++ (lined 3 (map property_tree c.properties)
    ++ (codes "\n   " ++ (layout 4 (view_tree libs c) ++ codes ")"))))))) ≡ layout 3 (cell_tree libs c)
cell_text libs c =
    let a = layout 4 (name_tree c.name) in
    let properties = map property_tree c.properties in
    let v = layout 4 (view_tree libs c) in
    let kind = make keywords.CellType (word (kind_word c.kind) ∷ []) in
    ap (λ w. codes "(cell " ++ (a ++ (codes " " ++ w))) (kind_parts (kind_word c.kind) (lined 3 properties ++ (codes "\n   " ++ (v ++ codes ")"))) ∙ ap (λ k. k ++ (lined 3 properties ++ (codes "\n   " ++ (v ++ codes ")")))) (kind_text c.kind))
    ∙ (ap (λ w. codes "(cell" ++ w) (cell_parts (codes " ") a (layout 4 kind) (lined 3 properties) (new_line 3) v (codes ")"))
    ∙ (ap (λ w. codes "(cell" ++ ((((32 ∷ a) ++ ((32 ∷ layout 4 kind) ++ [])) ++ w) ++ codes ")")) (sym (lined-append 3 properties (view_tree libs c ∷ [])))
    ∙ sym (large_form 3 keywords.Cell (name_tree c.name ∷ kind ∷ []) (properties ++ view_tree libs c ∷ []) refl)))

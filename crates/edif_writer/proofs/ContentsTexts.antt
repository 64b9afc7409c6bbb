-- The texts of references, instances, nets, contents, notes and the top.
use Rattle.std.proofs.Common.{◌≡◌, ℕ, suc, pos, List, [], ◌∷◌, ◌++◌, map, Option, Some, None, refl, ap, sym, ◌∙◌, append_assoc, append-nil, slice_get}
use Rattle.std.specs.Prelude.{codes, option_map, unwrap_or}
use Rattle.std.specs.Fmt.{signed_decimal}
use Rattle.edif_spelling_spec.specs.Tree.{Bare, word}
use Rattle.edif_spec.specs.Canonical.{head_of, large_forms, layout, make, new_line, name_text, name_tree, perhaps, text_tree, property_tree, bit_tree, bits_tree, inst_tree, cell_ref_tree, port_name_tree, ports_of_end, end_tree, net_tree, contents_tree, note_tree, design_tree}
use Rattle.edif_spec.specs.Design as design
use Rattle.edif_spec.specs.Keyword.{spelling_of}
use Rattle.edif_spec.specs.Nets.{NetForm, Stretch, bit_of, net_forms, whole_of}
use Rattle.edif_spec.specs.declared.keyword.Keyword.{Keyword}
use Rattle.edif_spec.specs.declared.keyword.Keyword.TheVariants as keywords
use Rattle.edif_writer.specs.Joined.{stretch_of}
use Rattle.edif_writer.specs.Lines.{spaced, lined, enclosed, instance_ref_tree}
use Rattle.edif_writer.proofs.FormTexts.{small_form, large_form, spaced-append, lined-append}
use Rattle.edif_writer.proofs.ListTexts.{designator_text}

-- a form of one identifier
word_text : (level : ℕ) (k : Keyword) (w : List ℕ) → head_of large_forms (spelling_of k) ≡ None
    → 40 ∷ (name_text (spelling_of k) ++ (codes " " ++ (name_text w ++ codes ")"))) ≡ layout level (make k (word w ∷ []))
word_text level k w e =
    ap (λ v. 40 ∷ (name_text (spelling_of k) ++ (v ++ codes ")"))) (sym (append-nil (codes " " ++ name_text w))) ∙ sym (small_form level k (word w ∷ []) e)

ref_parts : (b c l e f : List ℕ) → b ++ (c ++ (b ++ (l ++ (e ++ f)))) ≡ ((b ++ c) ++ ((b ++ (l ++ e)) ++ [])) ++ f
ref_parts b c l e f = simp (append_assoc, append-nil)

-- a reference to a cell
pub cell_ref_text : (level : ℕ) (cell lib : List ℕ)
    → codes "(cellRef " ++ (name_text cell ++ (codes " (libraryRef " ++ (name_text lib ++ codes "))"))) ≡ layout level (make keywords.CellRef (word cell ∷ make keywords.LibraryRef (word lib ∷ []) ∷ []))
cell_ref_text level cell lib =
    let library = make keywords.LibraryRef (word lib ∷ []) in
    ap (λ v. codes "(cellRef" ++ v) (ref_parts (codes " ") (name_text cell) (codes "(libraryRef " ++ name_text lib) (codes ")") (codes ")"))
    ∙ (ap (λ v. codes "(cellRef" ++ (((32 ∷ name_text cell) ++ ((32 ∷ v) ++ [])) ++ codes ")")) (word_text (suc level) keywords.LibraryRef lib refl)
    ∙ sym (small_form level keywords.CellRef (word cell ∷ library ∷ []) refl))

view_ref_text : (level : ℕ) (view : List ℕ) (cell : Bare)
    → codes "(viewRef " ++ (name_text view ++ (codes " " ++ (layout (suc level) cell ++ codes ")"))) ≡ layout level (make keywords.ViewRef (word view ∷ cell ∷ []))
view_ref_text level view cell = simp (append_assoc, append-nil)

view_ref_parts : (v r e : List ℕ) → codes " (viewRef " ++ (v ++ (codes " " ++ (r ++ (codes ")" ++ e)))) ≡ codes " " ++ ((codes "(viewRef " ++ (v ++ (codes " " ++ (r ++ codes ")")))) ++ e)
view_ref_parts v r e = simp append_assoc

inst_parts : (a v d p e : List ℕ) → codes " " ++ (a ++ (codes " " ++ (v ++ (d ++ (p ++ e))))) ≡ ((32 ∷ a) ++ ((32 ∷ v) ++ (d ++ p))) ++ e
inst_parts a v d p e = simp append_assoc

-- an instance
pub inst_text : (level : ℕ) (libs : List design.Lib) (i : design.Inst)
    → codes "(instance " ++ (layout (suc level) (name_tree i.name) ++ (codes " (viewRef " ++ (name_text (design.view_id libs i.of) ++ (codes " " ++ (layout (suc (suc level)) (cell_ref_tree libs i.of)
    ++ (codes ")" ++ (enclosed (codes " (designator ") i.designator ++ (spaced level (map property_tree i.properties) ++ codes ")")))))))) ≡ layout level (inst_tree libs i)
inst_text level libs i =
    let a = layout (suc level) (name_tree i.name) in
    let cell = cell_ref_tree libs i.of in
    let view = make keywords.ViewRef (word (design.view_id libs i.of) ∷ cell ∷ []) in
    let designator = perhaps (text_tree keywords.Designator) i.designator in
    let properties = map property_tree i.properties in
    let T : List ℕ → List ℕ = λ v. codes "(instance " ++ (a ++ v) in
    ap T (view_ref_parts (name_text (design.view_id libs i.of)) (layout (suc (suc level)) cell) (enclosed (codes " (designator ") i.designator ++ (spaced level properties ++ codes ")")))
    ∙ (ap (λ v. T (codes " " ++ (v ++ (enclosed (codes " (designator ") i.designator ++ (spaced level properties ++ codes ")"))))) (view_ref_text (suc level) (design.view_id libs i.of) cell)
    ∙ (ap (λ v. T (codes " " ++ (layout (suc level) view ++ (v ++ (spaced level properties ++ codes ")"))))) (designator_text level i.designator)
    ∙ (ap (λ v. codes "(instance" ++ v) (inst_parts a (layout (suc level) view) (spaced level designator) (spaced level properties) (codes ")"))
    ∙ (ap (λ v. codes "(instance" ++ (((32 ∷ a) ++ ((32 ∷ layout (suc level) view) ++ v)) ++ codes ")")) (sym (spaced-append level designator properties))
    ∙ sym (small_form level keywords.Instance (name_tree i.name ∷ view ∷ (designator ++ properties)) refl)))))

-- a bit of an array port
pub member_text : (level : ℕ) (port : List ℕ) (array : Option ℕ) (n bit : ℕ) → array ≡ Some n
    → codes "(member " ++ (name_text port ++ (codes " " ++ (signed_decimal (pos bit) ++ codes ")"))) ≡ layout level (bit_tree port array bit)
member_text level port array n bit e = rw e (simp (append_assoc, append-nil))

-- a reference to an instance
inst_ref_text : (level : ℕ) (insts : List design.Inst) (place : ℕ) (i : design.Inst) → slice_get insts place ≡ Some i
    → codes "(instanceRef " ++ (name_text i.name.id ++ codes ")") ≡ layout level (instance_ref_tree insts place)
inst_ref_text level insts place i e =
    ap (λ o. codes "(instanceRef " ++ (name_text (unwrap_or (option_map (λ (x : design.Inst). x.name.id) o) []) ++ codes ")")) (sym e)
    ∙ word_text level keywords.InstanceRef (design.inst_id insts place) refl

-- and the end of the form that has it
pub closed_ref_text : (level : ℕ) (insts : List design.Inst) (place : ℕ) (i : design.Inst) → slice_get insts place ≡ Some i
    → codes " (instanceRef " ++ (name_text i.name.id ++ codes "))") ≡ (32 ∷ layout level (instance_ref_tree insts place)) ++ codes ")"
closed_ref_text level insts place i e =
    ap (λ v. codes " (instanceRef " ++ v) (sym (append_assoc (name_text i.name.id) (codes ")") (codes ")")))
    ∙ ap (λ v. (32 ∷ v) ++ codes ")") (inst_ref_text level insts place i e)

pub end_inst_text : (level : ℕ) (insts : List design.Inst) (o : Option ℕ) (place : ℕ) → o ≡ Some place
    → codes " " ++ layout (suc level) (instance_ref_tree insts place) ≡ spaced level (perhaps (instance_ref_tree insts) o)
end_inst_text level insts o place e =
    sym (append-nil (codes " " ++ layout (suc level) (instance_ref_tree insts place))) ∙ ap (λ v. spaced level (perhaps (instance_ref_tree insts) v)) (sym e)

end_parts : (a r e : List ℕ) → codes " " ++ (a ++ (r ++ e)) ≡ ((32 ∷ a) ++ r) ++ e
end_parts a r e = simp append_assoc

-- what a net with or without an array joins of a port
end_text : (level : ℕ) (libs : List design.Lib) (own : List design.Port) (insts : List design.Inst) (array : Option ℕ) (s : Stretch)
    → codes "(portRef " ++ (layout (suc level) (bits_tree array (slice_get (ports_of_end libs own insts s.inst) s.port) s.first) ++ (spaced level (perhaps (instance_ref_tree insts) s.inst) ++ codes ")")) ≡ layout level (end_tree libs own insts array s)
end_text level libs own insts array s =
    let port = bits_tree array (slice_get (ports_of_end libs own insts s.inst) s.port) s.first in
    let inst = perhaps (instance_ref_tree insts) s.inst in
    ap (λ v. codes "(portRef" ++ v) (end_parts (layout (suc level) port) (spaced level inst) (codes ")")) ∙ sym (small_form level keywords.PortRef (port ∷ inst) refl)

-- what a net with an array of some width, or with none, joins at an end
pub joined_text : (level : ℕ) (libs : List design.Lib) (own : List design.Port) (insts : List design.Inst) (array : Option ℕ) (e : design.End)
    → codes "(portRef " ++ (layout (suc level) (bits_tree array (slice_get (ports_of_end libs own insts e.inst) e.port) e.bit) ++ (spaced level (perhaps (instance_ref_tree insts) e.inst) ++ codes ")")) ≡ layout level (end_tree libs own insts array (stretch_of array e))
joined_text level libs own insts None e = end_text level libs own insts None (bit_of e)
joined_text level libs own insts (Some width) e = end_text level libs own insts (Some width) (whole_of width e)

joined_parts : (s e : List ℕ) → codes " (joined" ++ (s ++ (codes ")" ++ e)) ≡ codes " " ++ ((codes "(joined" ++ (s ++ codes ")")) ++ e)
joined_parts s e = simp append_assoc

net_parts : (a j p e : List ℕ) → codes " " ++ (a ++ (codes " " ++ (j ++ (p ++ e)))) ≡ ((32 ∷ a) ++ ((32 ∷ j) ++ p)) ++ e
net_parts a j p e = simp append_assoc

-- a net as it is written
pub net_text : (level : ℕ) (libs : List design.Lib) (own : List design.Port) (insts : List design.Inst) (f : NetForm)
    → codes "(net " ++ (layout (suc level) (port_name_tree f.name f.array) ++ (codes " (joined" ++ (spaced (suc level) (map (end_tree libs own insts f.array) f.joined) ++ (codes ")" ++ (spaced level (map property_tree f.properties) ++ codes ")")))))
    ≡ layout level (net_tree libs own insts f)
net_text level libs own insts f =
    let a = layout (suc level) (port_name_tree f.name f.array) in
    let ends = map (end_tree libs own insts f.array) f.joined in
    let joined = make keywords.Joined ends in
    let properties = map property_tree f.properties in
    ap (λ v. codes "(net " ++ (a ++ v)) (joined_parts (spaced (suc level) ends) (spaced level properties ++ codes ")"))
    ∙ (ap (λ v. codes "(net " ++ (a ++ (codes " " ++ (v ++ (spaced level properties ++ codes ")"))))) (sym (small_form (suc level) keywords.Joined ends refl))
    ∙ (ap (λ v. codes "(net" ++ v) (net_parts a (layout (suc level) joined) (spaced level properties) (codes ")"))
    ∙ sym (small_form level keywords.Net (port_name_tree f.name f.array ∷ joined ∷ properties) refl)))

contents_text : (libs : List design.Lib) (own : List design.Port) (c : design.Contents)
    → codes "(contents" ++ (lined 5 (map (inst_tree libs) c.insts) ++ (lined 5 (map (net_tree libs own c.insts) (net_forms (ports_of_end libs own c.insts) c.nets)) ++ codes ")")) ≡ layout 5 (contents_tree libs own c)
contents_text libs own c =
    let insts = map (inst_tree libs) c.insts in
    let nets = map (net_tree libs own c.insts) (net_forms (ports_of_end libs own c.insts) c.nets) in
    ap (λ v. codes "(contents" ++ v) (sym (append_assoc (lined 5 insts) (lined 5 nets) (codes ")")))
    ∙ (ap (λ v. codes "(contents" ++ (v ++ codes ")")) (sym (lined-append 5 insts nets))
    ∙ sym (large_form 5 keywords.Contents [] (insts ++ nets) refl))

-- contents on a line of their own
pub contents_line_text : (libs : List design.Lib) (own : List design.Port) (o : Option design.Contents) (c : design.Contents) → o ≡ Some c
    → codes "\n    (contents" ++ (lined 5 (map (inst_tree libs) c.insts) ++ (lined 5 (map (net_tree libs own c.insts) (net_forms (ports_of_end libs own c.insts) c.nets)) ++ codes ")"))
    ≡ lined 4 (perhaps (contents_tree libs own) o)
contents_line_text libs own o c e =
    ap (λ v. new_line 4 ++ v) (contents_text libs own c)
    ∙ (sym (append-nil (new_line 4 ++ layout 5 (contents_tree libs own c))) ∙ ap (λ v. lined 4 (perhaps (contents_tree libs own) v)) (sym e))

path_parts : (s p e : List ℕ) → codes " (path" ++ (s ++ (codes ") " ++ (p ++ e))) ≡ codes " " ++ ((codes "(path" ++ (s ++ codes ")")) ++ (codes " " ++ (p ++ e)))
path_parts s p e = simp append_assoc

note_parts : (b a s p e : List ℕ) → b ++ (a ++ (b ++ (s ++ (b ++ (p ++ e))))) ≡ ((b ++ a) ++ ((b ++ s) ++ ((b ++ p) ++ []))) ++ e
note_parts b a s p e = simp (append_assoc, append-nil)

-- a note
pub note_text : (level : ℕ) (n : design.Note)
    → codes "(userData netdb_note (path" ++ (spaced (suc level) (map word n.path) ++ (codes ") " ++ (layout (suc level) (property_tree n.property) ++ codes ")"))) ≡ layout level (note_tree n)
note_text level n =
    let path = make keywords.Path (map word n.path) in
    let p = layout (suc level) (property_tree n.property) in
    ap (λ v. codes "(userData netdb_note" ++ v) (path_parts (spaced (suc level) (map word n.path)) p (codes ")"))
    ∙ (ap (λ v. codes "(userData netdb_note " ++ (v ++ (codes " " ++ (p ++ codes ")")))) (sym (small_form (suc level) keywords.Path (map word n.path) refl))
    ∙ (ap (λ v. codes "(userData" ++ v) (note_parts (codes " ") (codes "netdb_note") (layout (suc level) path) p (codes ")"))
    ∙ sym (small_form level keywords.UserData (word (codes "netdb_note") ∷ path ∷ property_tree n.property ∷ []) refl)))

top_parts : (b a r p n e : List ℕ) → b ++ (a ++ (b ++ (r ++ (p ++ (n ++ e))))) ≡ (((b ++ a) ++ ((b ++ r) ++ [])) ++ (p ++ n)) ++ e
top_parts b a r p n e = simp (append_assoc, append-nil)

top_text : (libs : List design.Lib) (notes : List design.Note) (t : design.TopHead)
    → codes "(design " ++ (layout 3 (name_tree t.name) ++ (codes " " ++ (layout 3 (cell_ref_tree libs t.cell) ++ (lined 2 (map property_tree t.properties) ++ (lined 2 (map note_tree notes) ++ codes ")")))))
    ≡ layout 2 (design_tree libs notes t)
top_text libs notes t =
    let a = layout 3 (name_tree t.name) in
    let cell = cell_ref_tree libs t.cell in
    let properties = map property_tree t.properties in
    let ns = map note_tree notes in
    ap (λ v. codes "(design" ++ v) (top_parts (codes " ") a (layout 3 cell) (lined 2 properties) (lined 2 ns) (codes ")"))
    ∙ (ap (λ v. codes "(design" ++ ((((32 ∷ a) ++ ((32 ∷ layout 3 cell) ++ [])) ++ v) ++ codes ")")) (sym (lined-append 2 properties ns))
    ∙ sym (large_form 2 keywords.Design (name_tree t.name ∷ cell ∷ []) (properties ++ ns) refl))

-- the top on a line of its own
pub top_line_text : (libs : List design.Lib) (notes : List design.Note) (o : Option design.TopHead) (t : design.TopHead) → o ≡ Some t
    → codes "\n (design " ++ (layout 3 (name_tree t.name) ++ (codes " " ++ (layout 3 (cell_ref_tree libs t.cell) ++ (lined 2 (map property_tree t.properties) ++ (lined 2 (map note_tree notes) ++ codes ")")))))
    ≡ lined 1 (perhaps (design_tree libs notes) o)
top_line_text libs notes o t e =
    ap (λ v. new_line 1 ++ v) (top_text libs notes t)
    ∙ (sym (append-nil (new_line 1 ++ layout 2 (design_tree libs notes t))) ∙ ap (λ v. lined 1 (perhaps (design_tree libs notes) v)) (sym e))

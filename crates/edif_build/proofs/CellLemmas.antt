-- Types of cells and of views, views and cells, from their parts.
use Rattle.std.proofs.Common.{◌≡◌, ℕ, List, [], ◌∷◌, ◌++◌, map, length, refl, ap, sym, ◌∙◌, subst, inl, inr, Bool, true, false, Option, Some, None, arith}
use Rattle.std.specs.Prelude.{IsTrue, cond, slice_get}
use Rattle.std.specs.List.{All, AllByRecursion}
use Rattle.netlist_schema.specs.Design.{insts_of, nets_of, insts_in, nets_in}
use Rattle.netlist_schema.specs.Names.{AreDistinct, HasDistinctKeys}
use Rattle.netlist_schema.specs.Typed.{IsTypedName, IsTypedProperty}
use Rattle.edif_spelling_spec.specs.Tree.{Bare, Placed, Word', bare}
use Rattle.edif_spec.specs.Keyword.{same, row, Takes, Choice, Follower, name_definition, identifier, the}
use Rattle.edif_spec.specs.Rows.{has_keyword, those, IsFormOf, Each, Perhaps, Just}
use Rattle.edif_spec.specs.Canonical.{kind_word}
use Rattle.edif_spec.specs.Design as design
use Rattle.edif_spec.specs.Means.{IsNetlist, MeansCell, MeansContents, MeansKind, MeansName, MeansPort, MeansProperties, MeansView}
use Rattle.edif_spec.specs.Faults.{AtTwo, Among, place_of, arguments, defined, followers, name_of, those_of, token_kind}
use Rattle.edif_spec.specs.Stands.{CellTypeFault, ContentsFault, TypeFault, ViewFault, CellFault, is_cell_type, is_netlist}
use Rattle.edif_spec.specs.Stands as stands
use Rattle.edif_spec.specs.declared.keyword.Keyword.{Keyword}
use Rattle.edif_spec.specs.declared.keyword.Keyword.TheVariants as keywords
use Rattle.edif_spec.specs.declared.fault.ClashKind.TheVariants.{SecondView}
use Rattle.edif_spec.specs.declared.fault.Kind.TheVariants.{BadForm, NotNetlist}
use Rattle.edif_spec.specs.declared.fault.MeaningFault.{MeaningFault}
use Rattle.edif_spec.specs.declared.fault.MeaningFault.TheVariants.{At, Clash}
use Rattle.edif_spec.proofs.FaultForms.{filter_bare}
use Rattle.edif_spec.proofs.KnownCells.{FineInside, parts_bare, nothing_inside}
use Rattle.edif_spec.proofs.KnownRows.{follow_none}
use Rattle.edif_tree.specs.Nodes as nodes
use Rattle.edif_tree.specs.Handles.{here, all}
use Rattle.edif_tree.specs.declared.node.Node.{Node}
use Rattle.edif_build.specs.Cells.{IsSoundCell, OneNode, ReadCell, ReadOnce, ReadView, ViewsFault, body_of}
use Rattle.edif_grammar.specs.Forms.{ArePartsOf}
use Rattle.edif_contents.specs.Insides.{ReadContents}
use Rattle.edif_build.specs.declared.cells.CellAt.{CellAt}
use Rattle.edif_build.specs.declared.cells.View.{View}
use Rattle.edif_grammar.specs.declared.lent.Form.{Form}
use Rattle.edif_parts.specs.declared.names.NameAt.{NameAt}
use Rattle.edif_grammar.proofs.FormLemmas.{are_plain, fit3, fit_cell}
use Rattle.edif_grammar.proofs.Misplaced.{place_is}
use Rattle.edif_parts.proofs.PartLemmas.{Argument, TwoNodes, same_at, two_of}
use Rattle.edif_parts.proofs.Steps.{here_first, those_keep, those_skip}

-- types
pub kind_means : (t a : Placed) (w : List ℕ) (p : ℕ) (k : design.CellKind) → IsFormOf keywords.CellType (bare t) (bare a ∷ []) (map bare (followers keywords.CellType t)) → a ≡ Word' p w → IsTrue (same w (kind_word k)) → MeansKind (bare t) k
kind_means t a w p k f e h =
    let g : IsFormOf keywords.CellType (bare t) (bare a ∷ []) [] = follow_none keywords.CellType (identifier ∷ []) (bare t) (bare a ∷ []) (map bare (followers keywords.CellType t)) refl f in
    let P : Placed → Type 0 = λ v. IsFormOf keywords.CellType (bare t) (bare v ∷ []) [] in
    (w, subst P e g, h)

pub kind_fails : (t a : Placed) (w : List ℕ) (p : ℕ) → slice_get (arguments t) 0 ≡ Some a → a ≡ Word' p w → is_cell_type w ≡ false → CellTypeFault t (At BadForm p)
kind_fails t a w p g e n = stands.other_cell_type (a, g, (w, p, e, n, refl))

pub netlist_means : (t a : Placed) (w : List ℕ) (p : ℕ) → IsFormOf keywords.ViewType (bare t) (bare a ∷ []) (map bare (followers keywords.ViewType t)) → a ≡ Word' p w → is_netlist w ≡ true → IsNetlist (bare t)
netlist_means t a w p f e h =
    let g : IsFormOf keywords.ViewType (bare t) (bare a ∷ []) [] = follow_none keywords.ViewType (identifier ∷ []) (bare t) (bare a ∷ []) (map bare (followers keywords.ViewType t)) refl f in
    let P : Placed → Type 0 = λ v. IsFormOf keywords.ViewType (bare t) (bare v ∷ []) [] in
    (w, subst P e g, h)

pub netlist_fails : (t a : Placed) (w : List ℕ) (p : ℕ) → slice_get (arguments t) 0 ≡ Some a → a ≡ Word' p w → is_netlist w ≡ false → TypeFault t (At NotNetlist p)
netlist_fails t a w p g e n = stands.other_view_type (a, g, (w, p, e, n, refl))

-- the three fixed arguments
pub record ThreeNodes (k : Keyword) (c d e : List Choice) (t : Placed) (p : Form) : Type 0 where
  pub count : length (all p.fixed) ≡ 3
  pub third : Placed
  pub at_third : slice_get (all p.fixed) 2 ≡ Some third
  pub a : (u : Placed) → slice_get (all p.fixed) 0 ≡ Some u → Argument 0 c t u
  pub b : (u : Placed) → slice_get (all p.fixed) 1 ≡ Some u → Argument 1 d t u
  pub x : (u : Placed) → slice_get (all p.fixed) 2 ≡ Some u → Argument 2 e t u
  pub form : (u v w : Placed) → slice_get (all p.fixed) 0 ≡ Some u → slice_get (all p.fixed) 1 ≡ Some v → slice_get (all p.fixed) 2 ≡ Some w → IsFormOf k (bare t) (bare u ∷ bare v ∷ bare w ∷ []) (map bare (followers k t))

pub three_nodes : (k : Keyword) (c d e : List Choice) (fs : List Follower) (t : Placed) (p : Form) → row k ≡ Takes (c ∷ d ∷ e ∷ []) fs → token_kind k ≡ BadForm → are_plain fs ≡ true → ArePartsOf k t p → ThreeNodes k c d e t p
three_nodes k c d e fs t p r b q h =
    let y = fit3 k c d e fs t r b q h.fits in
    let us : List Placed = y.a ∷ y.b ∷ y.x ∷ [] in
    let z : all p.fixed ≡ us = h.fixed ∙ y.fixed in
    let is_a : (u : Placed) → slice_get (all p.fixed) 0 ≡ Some u → y.a ≡ u = λ u g. same_at (all p.fixed) us 0 y.a u z refl g in
    let is_b : (u : Placed) → slice_get (all p.fixed) 1 ≡ Some u → y.b ≡ u = λ u g. same_at (all p.fixed) us 1 y.b u z refl g in
    let is_x : (u : Placed) → slice_get (all p.fixed) 2 ≡ Some u → y.x ≡ u = λ u g. same_at (all p.fixed) us 2 y.x u z refl g in
    record {
      count = ap length z;
      third = y.x;
      at_third = ap (λ v. slice_get v 2) z;
      a = λ u g. subst (λ v. Argument 0 c t v) (is_a u g) (record { at = y.at_a; is = y.is_a });
      b = λ u g. subst (λ v. Argument 1 d t v) (is_b u g) (record { at = y.at_b; is = y.is_b });
      x = λ u g. subst (λ v. Argument 2 e t v) (is_x u g) (record { at = y.at_x; is = y.is_x });
      form = λ u v w g i j. (let F : List Bare → Type 0 = λ bs. IsFormOf k (bare t) bs (map bare (followers k t)) in subst F (λ n. bare (is_a u g n) ∷ bare (is_b v i n) ∷ bare (is_x w j n) ∷ []) y.form);
    }

-- those of a cell with one view
pub cell_nodes : (t u : Placed) (p : Form) → ArePartsOf keywords.Cell t p → those_of keywords.View (followers keywords.Cell t) ≡ u ∷ [] → TwoNodes keywords.Cell name_definition (the keywords.CellType) t p
cell_nodes t u p h e =
    let one : length (those_of keywords.View (followers keywords.Cell t)) ≡ 1 = ap length e in
    let y = fit_cell t h.fits (omega (arith, one)) in
    two_of keywords.Cell name_definition (the keywords.CellType) t p y (h.fixed ∙ y.fixed)

-- one form among others, or none
pub read_none : {A : Type 0} (R : Placed → A → Type 0) (us : List Placed) → us ≡ [] → ReadOnce R us None
read_none R us e = let P : List Placed → Type 0 = λ v. ReadOnce R v None in subst P (sym e) tt

pub read_one : {A : Type 0} (R : Placed → A → Type 0) (us : List Placed) (t : Placed) (x : A) → us ≡ t ∷ [] → R t x → ReadOnce R us (Some x)
read_one R us t x e r = let P : List Placed → Type 0 = λ v. ReadOnce R v (Some x) in subst P (sym e) r

-- the view of a cell, as its followers are gone over
pub first_view : (before : List Placed) (node : Node) → OneNode (those_of keywords.View before) None → has_keyword keywords.View (bare (here node)) ≡ true → OneNode (those_of keywords.View (before ++ here node ∷ [])) (Some node)
first_view before node o h = those_keep keywords.View before (here node) h ∙ ap (λ v. v ++ here node ∷ []) o

pub no_view : (before : List Placed) (t : Placed) (o : Option Node) → OneNode (those_of keywords.View before) o → has_keyword keywords.View (bare t) ≡ false → OneNode (those_of keywords.View (before ++ t ∷ [])) o
no_view before t o h n = let P : List Placed → Type 0 = λ v. OneNode v o in subst P (sym (those_skip keywords.View before t n)) h

pub second_view : (ts before us rest : List Placed) (t : Placed) (first : Node) (at place earlier : ℕ) → ts ≡ before ++ us → us ≡ t ∷ rest → OneNode (those_of keywords.View before) (Some first) → has_keyword keywords.View (bare t) ≡ true
    → place ≡ nodes.place_of t → earlier ≡ nodes.place_of (here first) → ViewsFault (those_of keywords.View ts) at (Clash SecondView place earlier)
second_view ts before us rest t first at place earlier e f o h p q =
    let w : those_of keywords.View ts ≡ here first ∷ t ∷ those_of keywords.View rest = here_first keywords.View ts before us rest t e f h ∙ ap (λ v. v ++ t ∷ those_of keywords.View rest) o in
    let a : place ≡ place_of t = p ∙ place_is t in
    let b : earlier ≡ place_of (here first) = q ∙ place_is (here first) in
    let P : List Placed → Type 0 = λ v. AtTwo (λ x y. Clash SecondView place earlier ≡ Clash SecondView (place_of y) (place_of x)) v in
    inl (subst P (sym w) (inl (inl (λ j. Clash SecondView (a j) (b j)))))

-- what is among the views is a view
those_views : (ts : List Placed) → AllByRecursion (λ u. has_keyword keywords.View (bare u) ≡ true) (those_of keywords.View ts)
those_views [] = tt
those_views (t ∷ ts) = go (has_keyword keywords.View (bare t)) refl (those_views ts)
  where
    go : (b : Bool) → has_keyword keywords.View (bare t) ≡ b → AllByRecursion (λ u. has_keyword keywords.View (bare u) ≡ true) (those_of keywords.View ts)
        → AllByRecursion (λ u. has_keyword keywords.View (bare u) ≡ true) (cond b (t ∷ those_of keywords.View ts) (those_of keywords.View ts))
    go true e h = (e, h)
    go false e h = h

pub is_view : (ts : List Placed) (u : Placed) → those_of keywords.View ts ≡ u ∷ [] → has_keyword keywords.View (bare u) ≡ true
is_view ts u e = let P : List Placed → Type 0 = λ v. AllByRecursion (λ u. has_keyword keywords.View (bare u) ≡ true) v in let h = subst P e (those_views ts) in h.0

-- what is wrong with the views is wrong with the cell
pub views_fail : (libs : List design.Lib) (own : Option ℕ) (t : Placed) (place : ℕ) (f : MeaningFault) → place ≡ place_of t → ViewsFault (those_of keywords.View (followers keywords.Cell t)) place f → CellFault libs own t f
views_fail libs own t place f e (inl b) = stands.cell_row (inr (inr (inl b)))
views_fail libs own t place f e (inr b) = stands.without_view b.0 (b.1 ∙ ap (λ v. At BadForm v) e)

pub view_fails_there : (libs : List design.Lib) (own : Option ℕ) (t u : Placed) (f : MeaningFault) → those_of keywords.View (followers keywords.Cell t) ≡ u ∷ [] → ViewFault libs own u f → CellFault libs own t f
view_fails_there libs own t u f e b = let P : List Placed → Type 0 = λ v. Among (ViewFault libs own) v f in stands.cell_view (subst P (sym e) (inl b))

-- what is wrong with the contents is wrong with the view
pub inside_fails : (libs : List design.Lib) (own : Option ℕ) (t u : Placed) (ports : List design.Port) (f : MeaningFault) → slice_get (arguments t) 2 ≡ Some u → IsTrue (has_keyword keywords.Interface (bare u)) → Each MeansPort (those keywords.Port (map bare (followers keywords.Interface u))) ports
    → Among (ContentsFault libs own ports) (those_of keywords.Contents (followers keywords.View t)) f → ViewFault libs own t f
inside_fails libs own t u ports f g k m b =
    let P : List Bare → Type 0 = λ v. Each MeansPort v ports in
    stands.view_contents (record { interface = u; ports = ports; there = g; is_interface = k; means = subst P (sym (parts_bare keywords.Interface keywords.Port u)) m; fault = b })

-- what is inside a cell
inside_means : (libs : List design.Lib) (own : Option ℕ) (ports : List design.Port) (us : List Placed) (o : Option design.Contents) → ReadOnce (ReadContents libs own ports) us o → Perhaps (MeansContents libs own ports) (map bare us) o
inside_means libs own ports [] None h = tt
inside_means libs own ports [] (Some x) h = absurd h
inside_means libs own ports (t ∷ []) None h = absurd h
inside_means libs own ports (t ∷ []) (Some x) h = h.mean
inside_means libs own ports (t ∷ u ∷ us) None h = absurd h
inside_means libs own ports (t ∷ u ∷ us) (Some x) h = absurd h

inside_fine : (libs : List design.Lib) (own : Option ℕ) (ports : List design.Port) (us : List Placed) (o : Option design.Contents) → ReadOnce (ReadContents libs own ports) us o → FineInside (insts_in o) (nets_in o)
inside_fine libs own ports us None h = nothing_inside
inside_fine libs own ports [] (Some x) h = absurd h
inside_fine libs own ports (t ∷ u ∷ us) (Some x) h = absurd h
inside_fine libs own ports (t ∷ []) (Some x) h = record {
  insts_count = h.insts;
  nets_count = h.nets;
  ends_count = h.ends;
  inst_names = h.inst_names;
  net_names = h.net_names;
  inst_keys = h.inst_keys;
  net_keys = h.net_keys;
  joined_once = h.joined_once;
  insts_typed = h.typed.insts;
  nets_typed = h.typed.nets;
}

-- A view says the same of its cell whatever the cell's name, type and properties.
pub view_means : (libs : List design.Lib) (own : Option ℕ) (u : Placed) (v : View) (n : design.Name) (k : design.CellKind) (ps : List design.Property) → ReadView libs own u v → MeansView libs own (bare u) (body_of v n k ps)
view_means libs own u v n k ps r =
    let P : List Bare → Type 0 = λ w. Perhaps (MeansContents libs own v.body.interface.ports) w v.body.inside in
    record {
      name_part = bare r.name_part;
      type_part = bare r.type_part;
      interface_part = bare r.interface_part;
      inner = map bare (followers keywords.View u);
      form = r.form;
      name = r.heading.name.0;
      netlist = r.netlist;
      interface = record { inner = map bare (followers keywords.Interface r.interface_part); form = r.body.interface.form; ports = r.body.interface.ports; properties = r.body.interface.properties };
      contents = subst P (filter_bare (has_keyword keywords.Contents) (followers keywords.View u)) (inside_means libs own v.body.interface.ports (those_of keywords.Contents (followers keywords.View u)) v.body.inside r.body.inside);
      properties = r.heading.properties.0;
    }

-- the names of the instances of a cell differ
pub insts_differ : (libs : List design.Lib) (own : Option ℕ) (u : Placed) (v : View) → ReadView libs own u v → AreDistinct (design.inst_ids (insts_in v.body.inside))
insts_differ libs own u v r = (inside_fine libs own v.body.interface.ports (those_of keywords.Contents (followers keywords.View u)) v.body.inside r.body.inside).inst_names

sound_body : (libs : List design.Lib) (own : Option ℕ) (u : Placed) (v : View) (n : design.Name) (k : design.CellKind) (ps : List design.Property) → ReadView libs own u v → IsTypedName n → All IsTypedProperty ps → HasDistinctKeys ps → IsSoundCell (body_of v n k ps)
sound_body libs own u v n k ps r tn tp d =
    let i : FineInside (insts_of (body_of v n k ps)) (nets_of (body_of v n k ps)) = inside_fine libs own v.body.interface.ports (those_of keywords.Contents (followers keywords.View u)) v.body.inside r.body.inside in
    record {
      typed = record { name = tn; properties = tp; view = r.heading.name.1; view_properties = r.heading.properties.1; interface_properties = r.body.interface.typed_properties; ports = r.body.interface.typed; insts = i.insts_typed; nets = i.nets_typed };
      limits = record { ports = r.body.interface.count; bits = r.body.interface.bits; insts = i.insts_count; nets = i.nets_count; ends = i.ends_count };
      names = record {
        ports = r.body.interface.distinct;
        insts = i.inst_names;
        nets = i.net_names;
        properties = d;
        view_properties = r.heading.properties.2;
        interface_properties = r.body.interface.keys;
        port_properties = r.body.interface.port_keys;
        inst_properties = i.inst_keys;
        net_properties = i.net_keys;
      };
      joined_once = i.joined_once;
    }

-- a cell, from its parts
pub cell_means : (libs : List design.Lib) (own : Option ℕ) (t u a b : Placed) (n : NameAt) (k : design.CellKind) (ps : List design.Property) (v : View) (c : CellAt)
    → IsFormOf keywords.Cell (bare t) (bare a ∷ bare b ∷ []) (map bare (followers keywords.Cell t)) → MeansName (bare a) n.name × IsTypedName n.name × (name_of a ≡ Some (n.name.id, n.place)) → MeansKind (bare b) k → those_of keywords.View (followers keywords.Cell t) ≡ u ∷ [] → ReadView libs own u v
    → MeansProperties (map bare (followers keywords.Cell t)) ps × All IsTypedProperty ps × HasDistinctKeys ps → defined t ≡ Some (n.name.id, n.place) → c.cell ≡ body_of v n.name k ps → c.place ≡ n.place → ReadCell libs own t c
cell_means libs own t u a b n k ps v c form nm km e r pm d ce pe =
    let body : design.CellBody = body_of v n.name k ps in
    let P : List Bare → Type 0 = λ w. Just (λ x b. MeansView libs own x b) w body in
    let Q : design.CellBody → Type 0 = λ w. MeansCell libs own (bare t) w in
    let R : design.CellBody → Type 0 = IsSoundCell in
    let w : bare u ∷ [] ≡ those keywords.View (map bare (followers keywords.Cell t)) = ap (map bare) (sym e) ∙ filter_bare (has_keyword keywords.View) (followers keywords.Cell t) in
    let m : MeansCell libs own (bare t) body = record {
      name_part = bare a;
      kind_part = bare b;
      inner = map bare (followers keywords.Cell t);
      form = form;
      name = nm.0;
      kind = km;
      view = subst P w (view_means libs own u v n.name k ps r);
      properties = pm.0;
    } in
    record {
      mean = subst Q (sym ce) m;
      sound = subst R (sym ce) (sound_body libs own u v n.name k ps r nm.1 pm.1 pm.2);
      place = d ∙ (λ i. Some (name_is i, sym pe i));
    }
  where
    name_is : n.name.id ≡ c.cell.name.id
    name_is = sym (ap (λ (b : design.CellBody). b.name.id) ce)

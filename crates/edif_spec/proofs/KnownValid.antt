-- What libraries mean, where no limit is passed and names differ, is valid.
use Rattle.std.proofs.Common.{◌≡◌, ℕ, zero, suc, ◌+◌, ◌*◌, ◌<◌, ◌≤◌, List, [], ◌∷◌, ◌++◌, map, length, refl, ap, sym, ◌∙◌, subst, ◌⊎◌, inl, inr, Option, Some, None, arith, append-nil, slice_index_or}
use Rattle.std.specs.Prelude.{slice_get, IsSome, IsSomeAnd, is_some, take, option_map, unwrap_or}
use Rattle.std.specs.List.{AllByRecursion, Contains, flat_map}
use Rattle.std.specs.Option.{option_map_or}
use Rattle.std.proofs.lemmas.List.Elements.{All-from_recursion, recursion_from_All}
use Rattle.std.proofs.lemmas.Option.{slice_get_within}
use Rattle.netlist_schema.specs.Design.{insts_of, ends_of, port_width, insts_in as insts_inside, nets_in as nets_inside}
use Rattle.netlist_schema.specs.Hierarchy.{IsCell, HasInst, insts_at, NoCellIsBelowItself, Resolves}
use Rattle.netlist_schema.specs.Ident.{IsIdentifier}
use Rattle.netlist_schema.specs.Typed.{IsTypedCell, IsTypedInst}
use Rattle.netlist_schema.specs.Valid.{IsValidCell, HasBit, IsEndAt, IsEndOf, IsNoteBelow}
use Rattle.netlist_schema.proofs.Cells.{cell_of_inst, ranked_has_no_cycle}
use Rattle.netlist_schema.proofs.Lists.{some_of, all_weaker, all_at, all_append}
use Rattle.edif_spelling_spec.specs.Tree.{Bare}
use Rattle.edif_spec.proofs.CellPlaces.{lib_of_cell}
use Rattle.edif_spec.specs.Rows.{those, Each, EachAfter, Perhaps, Just}
use Rattle.edif_spec.specs.Canonical.{ports_of_end}
use Rattle.edif_spec.specs.Nets.{NetForm, Stretch, end_of as bit_at, net_at, nets_of, row_size}
use Rattle.edif_spec.proofs.RowForms.{all_numbered}
use Rattle.edif_spec.specs.Means.{width_at, MeansInstRef, MeansBits, MeansEnd, MeansNet, MeansContents, MeansView, MeansCell, MeansLibrary, MeansPath, MeansNote}
use Rattle.edif_spec.specs.Design as design
use Rattle.edif_spec.specs.declared.keyword.Keyword.TheVariants as keywords
use Rattle.edif_spec.proofs.Defined.{meant_there, name_there, insts_defined, view_defined}
use Rattle.edif_spec.proofs.CellFaultsApart.{FineCell}
use Rattle.edif_spec.proofs.KnownFile.{FineLib, FineNote, NamesFit}

pub regroup : {A : Type 0} (xs ys zs : List A) → (xs ++ ys) ++ zs ≡ xs ++ (ys ++ zs)
regroup [] ys zs = refl
regroup (x ∷ xs) ys zs = ap (λ v. x ∷ v) (regroup xs ys zs)

-- the tree of each value, with the values before it
each_after_at : {A : Type 0} (R : List A → Bare → A → Type 0) (before : List A) (ts : List Bare) (xs : List A) → EachAfter R before ts xs → (i : ℕ) (x : A) → slice_get xs i ≡ Some x → (t : Bare) × R (before ++ take i xs) t x
each_after_at R before [] [] h i x e = absurd (cc e)
each_after_at R before [] (y ∷ ys) h i x e = absurd h
each_after_at R before (t ∷ ts) [] h i x e = absurd h
each_after_at {A} R before (t ∷ ts) (y ∷ ys) h zero x e = let w : y ≡ x = cc e in let P : List A → A → Type 0 = λ b v. R b t v in (t, subst (λ v. P (before ++ []) v) w (subst (λ b. P b y) (sym (append-nil before)) h.0))
each_after_at {A} R before (t ∷ ts) (y ∷ ys) h (suc i) x e =
    let r = each_after_at R (before ++ y ∷ []) ts ys h.1 i x e in
    let P : List A → Type 0 = λ b. R b r.0 x in
    (r.0, subst P (regroup before (y ∷ []) (take i ys)) r.1)

-- the libraries that a cell sees: those before its own, and its own with the cells before it
abbrev Scope : List design.Lib → ℕ → design.Lib → ℕ → List design.Lib
Scope libs i l j = take i libs ++ record { head = l.head; cells = take j l.cells } ∷ []

get_take : {A : Type 0} (n : ℕ) (xs : List A) (i : ℕ) (x : A) → slice_get (take n xs) i ≡ Some x → (slice_get xs i ≡ Some x) × (i < n)
get_take zero xs i x e = absurd (cc e)
get_take (suc n) [] i x e = absurd (cc e)
get_take (suc n) (y ∷ xs) zero x e = (e, omega arith)
get_take (suc n) (y ∷ xs) (suc i) x e = let r = get_take n xs i x e in (r.0, (let l : i < n = r.1 in omega (arith, l)))

scope_lib : (libs : List design.Lib) (i : ℕ) (l x : design.Lib) (k : ℕ) (m : design.Lib) → slice_get libs i ≡ Some l → slice_get (take i libs ++ x ∷ []) k ≡ Some m → ((k < i) × (slice_get libs k ≡ Some m)) ⊎ ((k ≡ i) × (m ≡ x))
scope_lib [] i l x k m e f = absurd (cc e)
scope_lib (y ∷ libs) zero l x zero m e f = let w : x ≡ m = cc f in inr (refl, sym w)
scope_lib (y ∷ libs) zero l x (suc k) m e f = absurd (cc f)
scope_lib (y ∷ libs) (suc i) l x zero m e f = inl ((omega arith), f)
scope_lib (y ∷ libs) (suc i) l x (suc k) m e f = elim (scope_lib libs i l x k m e f) [ inl r ↦ inl ((let n : k < i = r.0 in omega (arith, n)), r.1) | inr r ↦ inr (ap suc r.0, r.1) ]

-- a cell is before a place
abbrev Before : ℕ → ℕ → design.CellId → Type 0
Before i j id = (id.lib.0 < i) ⊎ ((id.lib.0 ≡ i) × (id.slot < j))

scope_cell : (libs : List design.Lib) (i : ℕ) (l : design.Lib) (j : ℕ) (id : design.CellId) (c : design.CellBody) → slice_get libs i ≡ Some l → design.cell_at (Scope libs i l j) id ≡ Some c → (design.cell_at libs id ≡ Some c) × Before i j id
scope_cell libs i l j id c e f =
    let m = lib_of_cell (Scope libs i l j) id c f in
    elim (scope_lib libs i l (record { head = l.head; cells = take j l.cells }) id.lib.0 m.0 e m.1) [
      | inl r ↦ (ap (λ (o : Option design.Lib). slice_get (option_map_or (λ lib. lib.cells) o []) id.slot) r.1 ∙ m.2, inl r.0)
      | inr r ↦ (let g : slice_get (take j l.cells) id.slot ≡ Some c = sym (ap (λ (v : design.Lib). slice_get v.cells id.slot) r.1) ∙ m.2 in
          let t = get_take j l.cells id.slot c g in
          (ap (λ (o : Option design.Lib). slice_get (option_map_or (λ lib. lib.cells) o []) id.slot) (ap (slice_get libs) r.0 ∙ e) ∙ t.0, inr (r.0, t.1)))
    ]

pub front_cell : (libs : List design.Lib) (n : ℕ) (id : design.CellId) (c : design.CellBody) → design.cell_at (take n libs) id ≡ Some c → design.cell_at libs id ≡ Some c
front_cell libs n id c f =
    let m = lib_of_cell (take n libs) id c f in
    let t = get_take n libs id.lib.0 m.0 m.1 in
    ap (λ (o : Option design.Lib). slice_get (option_map_or (λ lib. lib.cells) o []) id.slot) t.0 ∙ m.2

-- the form of each cell, with the libraries that it sees
pub record KnownCell (libs : List design.Lib) (id : design.CellId) (body : design.CellBody) : Type 0 where
  pub lib : design.Lib
  pub at : slice_get libs id.lib.0 ≡ Some lib
  pub own : Option ℕ
  pub tree : Bare
  pub mean : MeansCell (Scope libs id.lib.0 lib id.slot) own tree body
  pub fine : FineCell body
  pub typed : IsTypedCell body
  pub low : id.slot < 65536

pub cell_form : (libs : List design.Lib) (ts : List Bare) → EachAfter MeansLibrary [] ts libs → AllByRecursion FineLib libs → (id : design.CellId) (body : design.CellBody) → design.cell_at libs id ≡ Some body → KnownCell libs id body
cell_form libs ts h v id body e =
    let m = lib_of_cell libs id body e in
    let r = each_after_at MeansLibrary [] ts libs h id.lib.0 m.0 m.1 in
    let f : FineLib m.0 = all_at FineLib libs id.lib.0 m.0 v m.1 in
    let k = each_after_at (λ cells. MeansCell (take id.lib.0 libs ++ record { head = m.0.head; cells = cells } ∷ []) (Some (length (take id.lib.0 libs)))) [] (those keywords.Cell r.1.inner) m.0.cells r.1.cells id.slot body m.2 in
    let n : id.slot < length m.0.cells = slice_get_within m.0.cells id.slot body m.2 in
    let c : length m.0.cells ≤ 65536 = f.count in
    record { lib = m.0; at = m.1; own = Some (length (take id.lib.0 libs)); tree = k.0; mean = k.1; fine = all_at FineCell m.0.cells id.slot body f.cells m.2; typed = all_at IsTypedCell m.0.cells id.slot body f.typed m.2; low = omega (arith, n, c) }

-- the cells that a cell places
placed_before : (libs : List design.Lib) (id : design.CellId) (body : design.CellBody) → KnownCell libs id body → AllByRecursion (λ (i : design.Inst). IsSome (design.cell_at libs i.of) × Before id.lib.0 id.slot i.of) (insts_of body)
placed_before libs id body k =
    let d = view_defined (Scope libs id.lib.0 k.lib id.slot) k.own body (those keywords.View k.mean.inner) k.mean.view in
    all_weaker (λ (i : design.Inst). IsSome (design.cell_at (Scope libs id.lib.0 k.lib id.slot) i.of)) (λ (i : design.Inst). IsSome (design.cell_at libs i.of) × Before id.lib.0 id.slot i.of) (insts_of body)
    (λ i s. let c = some_of (design.cell_at (Scope libs id.lib.0 k.lib id.slot) i.of) s in
    let r = scope_cell libs id.lib.0 k.lib id.slot i.of c.0 k.at c.1 in
    (ap is_some r.0, r.1)) d

-- Ends.
has_bit_below : (o : Option design.Port) (bit : ℕ) → bit < unwrap_or (option_map port_width o) 0 → IsSomeAnd o (λ p. bit < port_width p)
has_bit_below None bit l = absurd (omega arith)
has_bit_below (Some p) bit l = l

bits_there : (ports : List design.Port) (t : Bare) (port first width k : ℕ) → MeansBits ports t port first width → k < width → HasBit ports port (k + first)
bits_there ports t port first width k (inl h) l = let z : first ≡ 0 = h.3 in let w : width ≡ width_at ports port = h.4 in has_bit_below (slice_get ports port) (k + first) (omega (arith, z, w, l))
bits_there ports t port first width k (inr h) l = let b : first < width_at ports port = h.3 in let w : width ≡ 1 = h.4 in has_bit_below (slice_get ports port) (k + first) (omega (arith, b, w, l))

-- an end is at the cell's own port, or at one of the cell that an instance places
abbrev EndAt : List design.Lib → List design.Port → List design.Inst → Option ℕ → ℕ → ℕ → Type 0
EndAt libs ports insts None port bit = HasBit ports port bit
EndAt libs ports insts (Some k) port bit = IsSomeAnd (slice_get insts k) (λ inst. IsSomeAnd (design.cell_at libs inst.of) (λ of. HasBit of.ports port bit))

-- what is seen in a scope is there in all
abbrev Within : List design.Lib → List design.Lib → Type 0
Within scope libs = (id : design.CellId) (c : design.CellBody) → design.cell_at scope id ≡ Some c → design.cell_at libs id ≡ Some c

and_some : {A : Type 0} (o : Option A) (x : A) (P : A → Type 0) → o ≡ Some x → P x → IsSomeAnd o P
and_some {A} o x P e p = let Q : Option A → Type 0 = λ v. IsSomeAnd v P in subst Q (sym e) p

end_at : (scope libs : List design.Lib) (ports : List design.Port) (insts : List design.Inst) → Within scope libs → AllByRecursion (λ (i : design.Inst). IsSome (design.cell_at scope i.of)) insts
    → (ts : List Bare) (o : Option ℕ) (port first width j : ℕ) (t : Bare) → Perhaps (MeansInstRef insts) ts o → MeansBits (ports_of_end scope ports insts o) t port first width → j < width → EndAt libs ports insts o port (j + first)
end_at scope libs ports insts sub d ts None port first width j t h b l = bits_there ports t port first width j b l
end_at scope libs ports insts sub d [] (Some k) port first width j t h b l = absurd h
end_at scope libs ports insts sub d (u ∷ v ∷ ts) (Some k) port first width j t h b l = absurd h
end_at scope libs ports insts sub d (u ∷ []) (Some k) port first width j t h b l =
    let x = some_of (slice_get insts k) (name_there (λ (i : design.Inst). i.name.id) insts k (meant_there (design.inst_ids insts) h.0 k h.2)) in
    let s : IsSome (design.cell_at scope x.0.of) = all_at (λ (i : design.Inst). IsSome (design.cell_at scope i.of)) insts k x.0 d x.1 in
    let c = some_of (design.cell_at scope x.0.of) s in
    let p : ports_of_end scope ports insts (Some k) ≡ c.0.ports = ap (λ o. unwrap_or (option_map (λ (y : design.Inst). design.ports_at scope y.of) o) []) x.1 ∙ ap (λ o. unwrap_or (option_map (λ (y : design.CellBody). y.ports) o) []) c.1 in
    let g : HasBit c.0.ports port (j + first) = bits_there c.0.ports t port first width j (subst (λ v. MeansBits v t port first width) p b) l in
    and_some (slice_get insts k) x.0 (λ inst. IsSomeAnd (design.cell_at libs inst.of) (λ of. HasBit of.ports port (j + first))) x.1 (and_some (design.cell_at libs x.0.of) c.0 (λ of. HasBit of.ports port (j + first)) (sub x.0.of c.0 c.1) g)

abbrev Ends : List design.Lib → List design.Port → List design.Inst → List design.End → Type 0
Ends libs ports insts es = AllByRecursion (λ (e : design.End). EndAt libs ports insts e.inst e.port e.bit) es

ends_at : (scope libs : List design.Lib) (ports : List design.Port) (insts : List design.Inst) → Within scope libs → AllByRecursion (λ (i : design.Inst). IsSome (design.cell_at scope i.of)) insts
    → (size j : ℕ) → j < size → (ts : List Bare) (ss : List Stretch) → Each (MeansEnd scope ports insts) ts ss → AllByRecursion (λ (s : Stretch). s.width ≡ size) ss → Ends libs ports insts (map (bit_at j) ss)
ends_at scope libs ports insts sub d size j l [] [] h w = tt
ends_at scope libs ports insts sub d size j l [] (s ∷ ss) h w = absurd h
ends_at scope libs ports insts sub d size j l (t ∷ ts) [] h w = absurd h
ends_at scope libs ports insts sub d size j l (t ∷ ts) (s ∷ ss) h w =
    let e : s.width ≡ size = w.0 in
    (end_at scope libs ports insts sub d (those keywords.InstanceRef h.0.inner) s.inst s.port s.first s.width j h.0.bits_part h.0.inst h.0.bits (omega (arith, l, e)), ends_at scope libs ports insts sub d size j l ts ss h.1 w.1)

nets_at : (scope libs : List design.Lib) (ports : List design.Port) (insts : List design.Inst) → Within scope libs → AllByRecursion (λ (i : design.Inst). IsSome (design.cell_at scope i.of)) insts
    → (ts : List Bare) (ns : List NetForm) → Each (MeansNet scope ports insts) ts ns → AllByRecursion (λ (x : design.Net). Ends libs ports insts x.ends) (flat_map nets_of ns)
nets_at scope libs ports insts sub d [] [] h = tt
nets_at scope libs ports insts sub d [] (n ∷ ns) h = absurd h
nets_at scope libs ports insts sub d (t ∷ ts) [] h = absurd h
nets_at scope libs ports insts sub d (t ∷ ts) (n ∷ ns) h =
    let size : ℕ = row_size n.array in
    all_append (λ (x : design.Net). Ends libs ports insts x.ends) (nets_of n) (flat_map nets_of ns)
    (all_numbered (λ (x : design.Net). Ends libs ports insts x.ends) (net_at n) 0 size size (omega arith) (λ j l. ends_at scope libs ports insts sub d size j l h.0.refs n.joined h.0.ends h.0.wide))
    (nets_at scope libs ports insts sub d ts ns h.1)

all_ends : (libs : List design.Lib) (ports : List design.Port) (insts : List design.Inst) (ns : List design.Net) → AllByRecursion (λ (x : design.Net). Ends libs ports insts x.ends) ns → Ends libs ports insts (flat_map (λ (n : design.Net). n.ends) ns)
all_ends libs ports insts [] h = tt
all_ends libs ports insts (n ∷ ns) h = all_append (λ (e : design.End). EndAt libs ports insts e.inst e.port e.bit) n.ends (flat_map (λ (n : design.Net). n.ends) ns) h.0 (all_ends libs ports insts ns h.1)

contents_at : (scope libs : List design.Lib) (own : Option ℕ) (ports : List design.Port) → Within scope libs → (ts : List Bare) (o : Option design.Contents) → Perhaps (MeansContents scope own ports) ts o
    → Ends libs ports (insts_inside o) (flat_map (λ (n : design.Net). n.ends) (nets_inside o))
contents_at scope libs own ports sub [] None h = tt
contents_at scope libs own ports sub [] (Some x) h = absurd h
contents_at scope libs own ports sub (t ∷ []) None h = absurd h
contents_at scope libs own ports sub (t ∷ []) (Some x) h =
    let P : List design.Net → Type 0 = λ v. AllByRecursion (λ (n : design.Net). Ends libs ports x.insts n.ends) v in
    all_ends libs ports x.insts x.nets (subst P (sym h.nets) (nets_at scope libs ports x.insts sub (insts_defined scope own (those keywords.Instance h.inner) x.insts h.insts) (those keywords.Net h.inner) h.rows h.written))
contents_at scope libs own ports sub (t ∷ u ∷ ts) o h = absurd h

view_at : (scope libs : List design.Lib) (own : Option ℕ) → Within scope libs → (ts : List Bare) (c : design.CellBody) → Just (λ v b. MeansView scope own v b) ts c → Ends libs c.ports (insts_of c) (ends_of c)
view_at scope libs own sub [] c h = absurd h
view_at scope libs own sub (t ∷ []) c h = contents_at scope libs own c.ports sub (those keywords.Contents h.inner) c.contents h.contents
view_at scope libs own sub (t ∷ u ∷ ts) c h = absurd h

end_of : (d : design.Design) (body : design.CellBody) (o : Option ℕ) (port bit : ℕ) → EndAt d.libs body.ports (insts_of body) o port bit → IsEndAt d body o port bit
end_of d body None port bit h = h
end_of d body (Some k) port bit h = h

-- Cells.
pub valid_cell : (d : design.Design) (id : design.CellId) (body : design.CellBody) → KnownCell d.libs id body → IsValidCell d id body
valid_cell d id body k =
    let p = placed_before d.libs id body k in
    let es = view_at (Scope d.libs id.lib.0 k.lib id.slot) d.libs k.own (λ x c e. (scope_cell d.libs id.lib.0 k.lib id.slot x c k.at e).0) (those keywords.View k.mean.inner) body k.mean.view in
    record {
      limits = k.fine.limits;
      names = k.fine.names;
      placed = All-from_recursion (λ (i : design.Inst). IsCell d i.of) (insts_of body) (all_weaker (λ (i : design.Inst). IsSome (design.cell_at d.libs i.of) × Before id.lib.0 id.slot i.of) (λ (i : design.Inst). IsCell d i.of) (insts_of body) (λ i h. h.0) p);
      not_later = All-from_recursion (λ (i : design.Inst). i.of.lib.0 ≤ id.lib.0) (insts_of body) (all_weaker (λ (i : design.Inst). IsSome (design.cell_at d.libs i.of) × Before id.lib.0 id.slot i.of) (λ (i : design.Inst). i.of.lib.0 ≤ id.lib.0) (insts_of body)
          (λ i h. elim (h.1) [ inl l ↦ (let m : i.of.lib.0 < id.lib.0 = l in omega (arith, m)) | inr l ↦ (let m : i.of.lib.0 ≡ id.lib.0 = l.0 in omega (arith, m)) ]) p);
      ends = All-from_recursion (IsEndOf d body) (ends_of body) (all_weaker (λ (e : design.End). EndAt d.libs body.ports (insts_of body) e.inst e.port e.bit) (IsEndOf d body) (ends_of body) (λ e h. end_of d body e.inst e.port e.bit h) es);
      joined_once = k.fine.joined_once;
    }

abbrev rank : design.CellId → ℕ
rank id = 65536 * id.lib.0 + id.slot

all_contains : {A : Type 0} (P : A → Type 0) (xs : List A) (x : A) → AllByRecursion P xs → Contains xs x → P x
all_contains {A} P xs x h c = let Q : A → Type 0 = P in subst Q c.2 (All-from_recursion P xs h c.0 x c.1)

pub no_cycle : (d : design.Design) → ((id : design.CellId) (body : design.CellBody) → design.cell_at d.libs id ≡ Some body → KnownCell d.libs id body) → NoCellIsBelowItself d
no_cycle d k = ranked_has_no_cycle d rank falls
  where
    falls : (id : design.CellId) (inst : design.Inst) → HasInst d id inst → rank inst.of < rank id
    falls id inst has =
        let b = cell_of_inst d id inst has in
        let p = all_contains (λ (i : design.Inst). IsSome (design.cell_at d.libs i.of) × Before id.lib.0 id.slot i.of) (insts_of b.0) inst (placed_before d.libs id b.0 (k id b.0 b.1)) b.2 in
        let c = some_of (design.cell_at d.libs inst.of) p.0 in
        let low : inst.of.slot < 65536 = (k inst.of c.0 c.1).low in
        elim (p.1) [ inl l ↦ (let m : inst.of.lib.0 < id.lib.0 = l in omega (arith, m, low)) | inr l ↦ (let m : inst.of.lib.0 ≡ id.lib.0 = l.0 in let n : inst.of.slot < id.slot = l.1 in omega (arith, m, n)) ]

-- the names of instances are identifiers
pub names_fit : (libs : List design.Lib) (ts : List Bare) → EachAfter MeansLibrary [] ts libs → AllByRecursion FineLib libs → NamesFit libs
names_fit libs ts h v id i x e = go (design.cell_at libs id) refl e
  where
    go : (o : Option design.CellBody) → design.cell_at libs id ≡ o → slice_get (unwrap_or (option_map insts_of o) []) i ≡ Some x → IsIdentifier x.name.id
    go None f g = absurd (cc g)
    go (Some c) f g =
        let k = cell_form libs ts h v id c f in
        let t : IsTypedInst x = all_at IsTypedInst (insts_of c) i x (recursion_from_All IsTypedInst (insts_of c) k.typed.insts) g in
        t.name.id

-- Notes.
found_index : {A : Type 0} (xs : List A) (i : ℕ) (x : A) → slice_get xs i ≡ Some x → slice_index_or xs i x ≡ x
found_index [] i x e = absurd (cc e)
found_index (y ∷ xs) zero x e = let w : y ≡ x = cc e in w
found_index (y ∷ xs) (suc i) x e = found_index xs i x e

pub resolved : (d : design.Design) (scope : List design.Lib) → Within scope d.libs → (id : design.CellId) (ts : List Bare) (ns : List (List ℕ)) → MeansPath scope id ts ns → Resolves d id ns
resolved d scope sub id [] [] h = tt
resolved d scope sub id [] (n ∷ ns) h = absurd h
resolved d scope sub id (t ∷ ts) [] h = absurd h
resolved d scope sub id (t ∷ ts) (n ∷ ns) h = (h.2, go (design.cell_at scope id) refl h.5, sym h.6, resolved d scope sub h.2.of ts ns h.7)
  where
    go : (o : Option design.CellBody) → design.cell_at scope id ≡ o → slice_get (unwrap_or (option_map insts_of o) []) h.1 ≡ Some h.2 → HasInst d id h.2
    go None f g = absurd (cc g)
    go (Some c) f g =
        let e : insts_of c ≡ insts_at d id = sym (ap (λ o. option_map_or insts_of o []) (sub id c f)) in
        let P : List design.Inst → Type 0 = λ v. Contains v h.2 in
        subst P e (h.1, slice_get_within (insts_of c) h.1 h.2 g, found_index (insts_of c) h.1 h.2 g)

pub notes_below : (d : design.Design) (scope : List design.Lib) → Within scope d.libs → (top : design.CellId) (ts : List Bare) (ns : List design.Note) → Each (MeansNote scope top) ts ns → AllByRecursion FineNote ns → AllByRecursion (IsNoteBelow d top) ns
notes_below d scope sub top [] [] h v = tt
notes_below d scope sub top [] (n ∷ ns) h v = absurd h
notes_below d scope sub top (t ∷ ts) [] h v = absurd h
notes_below d scope sub top (t ∷ ts) (n ∷ ns) h v = (record { has_step = v.0.some_step; resolves = resolved d scope sub top h.0.steps n.path h.0.path }, notes_below d scope sub top ts ns h.1 v.1)

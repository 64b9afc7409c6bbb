-- The arranged design of a valid one is valid.
use Rattle.std.proofs.Common.{◌≡◌, ◌≢◌, ℕ, zero, suc, ◌+◌, ◌<◌, ◌≤◌, List, [], ◌∷◌, ◌++◌, map, length, refl, ap, sym, ◌∙◌, subst, ◌⊎◌, ⊎_elim, Bool, true, false, Option, Some, None, arith, slice_get, slice_index_or}
use Rattle.std.specs.Prelude.{IsSome, is_some, IsSomeAnd, IfSome, IfNone, cond, ◌||◌, option_map, unwrap_or, nat_eq}
use Rattle.std.specs.List.{All, AllByRecursion, Contains, list_any, flat_map}
use Rattle.std.specs.Option.{option_map_or}
use Rattle.std.proofs.lemmas.Bool.{eqb-true, eq-eqb, cases_order, or_parts}
use Rattle.std.proofs.lemmas.List.{length-map}
use Rattle.std.proofs.lemmas.List.Elements.{All-from_recursion, All-map, All-weaker}
use Rattle.std.proofs.lemmas.Option.{get_or_from_slice_get, slice_get-map, slice_get_within}
use Rattle.std.proofs.Math.ListN.{get_or-map}
use Rattle.netlist_schema.specs.Design.{insts_in, nets_in, nets_of, ends_of}
use Rattle.netlist_schema.specs.Hierarchy.{IsCell, HasInst, insts_at, NoCellIsBelowItself, Resolves}
use Rattle.netlist_schema.specs.Limits.{IsCellWithinLimits, IsWithinLimits}
use Rattle.netlist_schema.specs.Names.{AreDistinct, HasDistinctKeys, HasDistinctNames, HasDistinctNamesInCell, cell_names, lib_names}
use Rattle.netlist_schema.specs.Typed.{IsTyped, IsTypedCell, IsTypedInst, IsTypedName, IsTypedNet, IsTypedProperty}
use Rattle.netlist_schema.specs.Valid.{HasBit, IsEndAt, IsEndOf, IsValidCell, IsNoteBelow, IsValid}
use Rattle.netlist_schema.proofs.Cells.{All-slice_get, All-cell_at, cell_of_inst, ranked_has_no_cycle}
use Rattle.netlist_schema.proofs.Ranks.{valid_is_ranked}
use Rattle.netlist_schema.proofs.Lists.{all_from_places, some_of}
use Rattle.edif_spec.specs.Arranged.{first_ready, order_from, order_of, orders_from, place_in, new_id, new_inst, new_contents, new_cell, new_top, new_cells, new_libs, arranged}
use Rattle.edif_spec.specs.Defined.{AllAfter}
use Rattle.edif_spec.specs.Design as design
use Rattle.edif_spec.proofs.CellPlaces.{some_and, lib_of_cell, cell_found}
use Rattle.netlist_order_spec.proofs.Ready.{StepReady, order_covers, order_ready}
use Rattle.netlist_order_spec.proofs.WholeOrder.{IsNew, new_after, valid_rank, id_at}

-- each slot of the order has a cell
abbrev pub AllThere : List design.CellBody → List ℕ → Type 0
AllThere cells o = AllByRecursion (λ k. (c : design.CellBody) × (slice_get cells k ≡ Some c)) o

pub there_from : (own : ℕ) (cells : List design.CellBody) (before o : List ℕ) → AllAfter (StepReady own cells) before o → AllThere cells o
there_from own cells before [] h = tt
there_from own cells before (k ∷ o) h = ((h.0.0, h.0.1), there_from own cells (before ++ k ∷ []) o h.1)

-- the order has each slot, each once, and each has a cell
pub record IsWhole (own : ℕ) (cells : List design.CellBody) : Type 0 where
  pub covers : (s : ℕ) → s < length cells → list_any (nat_eq s) (order_of own cells) ≡ true
  pub there : AllThere cells (order_of own cells)
  pub new : IsNew (order_of own cells)

abbrev pub AreWhole : List design.Lib → Type 0
AreWhole libs = (own : ℕ) (l : design.Lib) → slice_get libs own ≡ Some l → IsWhole own l.cells

pub valid_whole : (d : design.Design) → IsValid d → AreWhole d.libs
valid_whole d v own l e =
    let r = valid_rank d own l v e in
    let ready = order_ready own l.cells (length l.cells) [] in
    record { covers = order_covers own l.cells r.0 r.1; there = there_from own l.cells [] (order_of own l.cells) ready; new = (new_after own l.cells [] (order_of own l.cells) ready).0 }

-- a slot that is in the order is at its place, and at no other
pub place_found : (s : ℕ) (o : List ℕ) → list_any (nat_eq s) o ≡ true → slice_get o (place_in s o) ≡ Some s
place_found s [] h = absurd (cc h)
place_found s (k ∷ o) h = go (nat_eq s k) refl h (place_found s o)
  where
    go : (b : Bool) → nat_eq s k ≡ b → (b || list_any (nat_eq s) o) ≡ true → (list_any (nat_eq s) o ≡ true → slice_get o (place_in s o) ≡ Some s) → slice_get (k ∷ o) (cond b 0 (suc (place_in s o))) ≡ Some s
    go true e h more = ap Some (sym (eqb-true s k e))
    go false e h more = more h

any_at : (o : List ℕ) (p s : ℕ) → slice_get o p ≡ Some s → list_any (nat_eq s) o ≡ true
any_at [] p s e = absurd (cc e)
any_at (k ∷ o) zero s e = let q : k ≡ s = cc e in ap (λ b. b || list_any (nat_eq s) o) (eq-eqb s k (sym q))
any_at (k ∷ o) (suc p) s e = go (nat_eq s k) (any_at o p s e)
  where
    go : (b : Bool) → list_any (nat_eq s) o ≡ true → (b || list_any (nat_eq s) o) ≡ true
    go true h = refl
    go false h = h

place_at : (o : List ℕ) (p s : ℕ) → IsNew o → slice_get o p ≡ Some s → place_in s o ≡ p
place_at [] p s n e = absurd (cc e)
place_at (k ∷ o) zero s n e = let q : k ≡ s = cc e in ap (λ b. cond b 0 (suc (place_in s o))) (eq-eqb s k (sym q))
place_at (k ∷ o) (suc p) s n e = go (nat_eq s k) refl (place_at o p s n.1 e)
  where
    go : (b : Bool) → nat_eq s k ≡ b → place_in s o ≡ p → cond b 0 (suc (place_in s o)) ≡ suc p
    go true f more =
        let q : s ≡ k = eqb-true s k f in
        let g : true ≡ false = sym (any_at o p s e) ∙ (ap (λ v. list_any (nat_eq v) o) q ∙ n.0) in absurd (cc g)
    go false f more = ap suc more

-- the cell at a place of the order, and the place of a cell
pub new_there : (orders : List (List ℕ)) (cells : List design.CellBody) (o : List ℕ) (p k : ℕ) (c : design.CellBody) → AllThere cells o → slice_get o p ≡ Some k → slice_get cells k ≡ Some c → slice_get (new_cells orders cells o) p ≡ Some (new_cell orders c)
new_there orders cells [] p k c h e f = absurd (cc e)
new_there orders cells (j ∷ o) zero k c h e f =
    let q : j ≡ k = cc e in
    let g : slice_get cells j ≡ Some c = ap (slice_get cells) q ∙ f in
    rw g refl
new_there orders cells (j ∷ o) (suc p) k c h e f = rw h.0.1 (new_there orders cells o p k c h.1 e f)

old_there : (orders : List (List ℕ)) (cells : List design.CellBody) (o : List ℕ) (p : ℕ) (n : design.CellBody) → AllThere cells o → slice_get (new_cells orders cells o) p ≡ Some n →
    (k : ℕ) × (c : design.CellBody) × (slice_get o p ≡ Some k) × (slice_get cells k ≡ Some c) × (n ≡ new_cell orders c)
old_there orders cells [] p n h e = absurd (cc e)
old_there orders cells (j ∷ o) p n h e = go p (rw h.0.1 at e) (λ q f. old_there orders cells o q n h.1 f)
  where
    go : (p : ℕ) → slice_get (new_cell orders h.0.0 ∷ new_cells orders cells o) p ≡ Some n → ((q : ℕ) → slice_get (new_cells orders cells o) q ≡ Some n → (k : ℕ) × (c : design.CellBody) × (slice_get o q ≡ Some k) × (slice_get cells k ≡ Some c) × (n ≡ new_cell orders c)) →
        (k : ℕ) × (c : design.CellBody) × (slice_get (j ∷ o) p ≡ Some k) × (slice_get cells k ≡ Some c) × (n ≡ new_cell orders c)
    go zero f more = (j, h.0.0, refl, h.0.1, cc f)
    go (suc q) f more = more q f

-- the libraries
abbrev pub new_lib : List (List ℕ) → ℕ → design.Lib → design.Lib
new_lib orders own l = record { head = l.head; cells = new_cells orders l.cells (order_of own l.cells) }

new_lib_at : (orders : List (List ℕ)) (own : ℕ) (libs : List design.Lib) (i : ℕ) (l : design.Lib) → slice_get libs i ≡ Some l → slice_get (new_libs orders own libs) i ≡ Some (new_lib orders (own + i) l)
new_lib_at orders own [] i l e = absurd (cc e)
new_lib_at orders own (x ∷ libs) zero l e = let w : x ≡ l = cc e in let z : own ≡ own + 0 = omega arith in
    ap (λ (v : design.Lib). Some (new_lib orders own v)) w ∙ ap (λ k. Some (new_lib orders k l)) z
new_lib_at orders own (x ∷ libs) (suc i) l e = new_lib_at orders (suc own) libs i l e ∙ (let z : suc own + i ≡ own + suc i = omega arith in ap (λ k. Some (new_lib orders k l)) z)

old_lib_at : (orders : List (List ℕ)) (own : ℕ) (libs : List design.Lib) (i : ℕ) (n : design.Lib) → slice_get (new_libs orders own libs) i ≡ Some n → (l : design.Lib) × (slice_get libs i ≡ Some l) × (n ≡ new_lib orders (own + i) l)
old_lib_at orders own [] i n e = absurd (cc e)
old_lib_at orders own (x ∷ libs) zero n e = let w : new_lib orders own x ≡ n = cc e in let z : own ≡ own + 0 = omega arith in (x, refl, sym w ∙ ap (λ k. new_lib orders k x) z)
old_lib_at orders own (x ∷ libs) (suc i) n e =
    let r = old_lib_at orders (suc own) libs i n e in
    let z : suc own + i ≡ own + suc i = omega arith in
    (r.0, r.1, r.2 ∙ ap (λ k. new_lib orders k r.0) z)

pub order_at : (own : ℕ) (libs : List design.Lib) (i : ℕ) (l : design.Lib) → slice_get libs i ≡ Some l → slice_get (orders_from own libs) i ≡ Some (order_of (own + i) l.cells)
order_at own [] i l e = absurd (cc e)
order_at own (x ∷ libs) zero l e = let w : x ≡ l = cc e in let z : own ≡ own + 0 = omega arith in ap (λ (v : design.Lib). Some (order_of own v.cells)) w ∙ ap (λ k. Some (order_of k l.cells)) z
order_at own (x ∷ libs) (suc i) l e = order_at (suc own) libs i l e ∙ (let z : suc own + i ≡ own + suc i = omega arith in ap (λ k. Some (order_of k l.cells)) z)

pub own_order : (libs : List design.Lib) (i : ℕ) (l : design.Lib) → slice_get libs i ≡ Some l → slice_get (orders_from 0 libs) i ≡ Some (order_of i l.cells)
own_order libs i l e = let z : 0 + i ≡ i = omega arith in order_at 0 libs i l e ∙ ap (λ k. Some (order_of k l.cells)) z

own_new_lib : (libs : List design.Lib) (i : ℕ) (l : design.Lib) → slice_get libs i ≡ Some l → slice_get (new_libs (orders_from 0 libs) 0 libs) i ≡ Some (new_lib (orders_from 0 libs) i l)
own_new_lib libs i l e = let z : 0 + i ≡ i = omega arith in new_lib_at (orders_from 0 libs) 0 libs i l e ∙ ap (λ k. Some (new_lib (orders_from 0 libs) k l)) z

own_old_lib : (libs : List design.Lib) (i : ℕ) (n : design.Lib) → slice_get (new_libs (orders_from 0 libs) 0 libs) i ≡ Some n → (l : design.Lib) × (slice_get libs i ≡ Some l) × (n ≡ new_lib (orders_from 0 libs) i l)
own_old_lib libs i n e =
    let r = old_lib_at (orders_from 0 libs) 0 libs i n e in
    let z : 0 + i ≡ i = omega arith in
    (r.0, r.1, r.2 ∙ ap (λ k. new_lib (orders_from 0 libs) k r.0) z)

-- a cell stands at its new id
pub cell_moved : (libs : List design.Lib) (id : design.CellId) (c : design.CellBody) → AreWhole libs → design.cell_at libs id ≡ Some c → design.cell_at (new_libs (orders_from 0 libs) 0 libs) (new_id (orders_from 0 libs) id) ≡ Some (new_cell (orders_from 0 libs) c)
cell_moved libs id c r e =
    let l = lib_of_cell libs id c e in
    let whole = r id.lib.0 l.0 l.1 in
    let full = whole.covers id.slot (slice_get_within l.0.cells id.slot c l.2) in
    let at_place = new_there (orders_from 0 libs) l.0.cells (order_of id.lib.0 l.0.cells) (place_in id.slot (order_of id.lib.0 l.0.cells)) id.slot c whole.there (place_found id.slot (order_of id.lib.0 l.0.cells) full) l.2 in
    rw (own_new_lib libs id.lib.0 l.0 l.1) (rw (own_order libs id.lib.0 l.0 l.1) at_place)

pub moved_some : (libs : List design.Lib) (id : design.CellId) → AreWhole libs → IsSome (design.cell_at libs id) → IsSome (design.cell_at (new_libs (orders_from 0 libs) 0 libs) (new_id (orders_from 0 libs) id))
moved_some libs id r h = let c = some_of (design.cell_at libs id) h in ap is_some (cell_moved libs id c.0 r c.1)

-- and each cell of the arranged libraries comes from one
record ComesFrom (libs : List design.Lib) (id : design.CellId) (n : design.CellBody) : Type 0 where
  pub old_id : design.CellId
  pub old : design.CellBody
  pub found : design.cell_at libs old_id ≡ Some old
  pub at : id ≡ new_id (orders_from 0 libs) old_id
  pub is : n ≡ new_cell (orders_from 0 libs) old

cell_from : (libs : List design.Lib) (id : design.CellId) (n : design.CellBody) → AreWhole libs → design.cell_at (new_libs (orders_from 0 libs) 0 libs) id ≡ Some n → ComesFrom libs id n
cell_from libs id n r e =
    let k = lib_of_cell (new_libs (orders_from 0 libs) 0 libs) id n e in
    let l = own_old_lib libs id.lib.0 k.0 k.1 in
    let whole = r id.lib.0 l.0 l.1 in
    let in_new : slice_get (new_cells (orders_from 0 libs) l.0.cells (order_of id.lib.0 l.0.cells)) id.slot ≡ Some n = ap (λ (v : design.Lib). slice_get v.cells id.slot) (sym l.2) ∙ k.2 in
    let c = old_there (orders_from 0 libs) l.0.cells (order_of id.lib.0 l.0.cells) id.slot n whole.there in_new in
    let place : place_in c.0 (order_of id.lib.0 l.0.cells) ≡ id.slot = place_at (order_of id.lib.0 l.0.cells) id.slot c.0 whole.new c.2 in
    let slot : unwrap_or (option_map (place_in c.0) (slice_get (orders_from 0 libs) id.lib.0)) c.0 ≡ id.slot = ap (λ v. unwrap_or (option_map (place_in c.0) v) c.0) (own_order libs id.lib.0 l.0 l.1) ∙ place in
    record { old_id = id_at id.lib.0 c.0; old = c.1; found = cell_found libs id.lib.0 c.0 l.0 c.1 l.1 c.3; at = λ i. record { lib = id.lib; slot = sym slot i }; is = c.4 }

-- instances and nets of a cell that is renumbered
pub insts_new : (orders : List (List ℕ)) (c : design.CellBody) → design.insts_of (new_cell orders c) ≡ map (new_inst orders) (design.insts_of c)
insts_new orders c = go c.contents
  where
    go : (o : Option design.Contents) → insts_in (option_map (new_contents orders) o) ≡ map (new_inst orders) (insts_in o)
    go None = refl
    go (Some x) = refl

nets_new : (orders : List (List ℕ)) (c : design.CellBody) → nets_of (new_cell orders c) ≡ nets_of c
nets_new orders c = go c.contents
  where
    go : (o : Option design.Contents) → nets_in (option_map (new_contents orders) o) ≡ nets_in o
    go None = refl
    go (Some x) = refl

ends_new : (orders : List (List ℕ)) (c : design.CellBody) → ends_of (new_cell orders c) ≡ ends_of c
ends_new orders c = ap (λ (nets : List design.Net). flat_map (λ net. net.ends) nets) (nets_new orders c)

inst_names_new : (orders : List (List ℕ)) (is : List design.Inst) → map (λ (i : design.Inst). i.name.id) (map (new_inst orders) is) ≡ map (λ (i : design.Inst). i.name.id) is
inst_names_new orders [] = refl
inst_names_new orders (i ∷ is) = ap (λ v. i.name.id ∷ v) (inst_names_new orders is)

-- what holds of each instance holds of each that is renumbered
all_insts : (P : design.Inst → Type 0) (orders : List (List ℕ)) (c : design.CellBody) → All (λ i. P (new_inst orders i)) (design.insts_of c) → All P (design.insts_of (new_cell orders c))
all_insts P orders c h = subst (λ (is : List design.Inst). All P is) (sym (insts_new orders c)) (All-map P (new_inst orders) (design.insts_of c) h)

all_nets : (P : design.Net → Type 0) (orders : List (List ℕ)) (c : design.CellBody) → All P (nets_of c) → All P (nets_of (new_cell orders c))
all_nets P orders c h = subst (λ (nets : List design.Net). All P nets) (sym (nets_new orders c)) h

typed_cell : (orders : List (List ℕ)) (c : design.CellBody) → IsTypedCell c → IsTypedCell (new_cell orders c)
typed_cell orders c h = record {
  name = h.name;
  properties = h.properties;
  view = h.view;
  view_properties = h.view_properties;
  interface_properties = h.interface_properties;
  ports = h.ports;
  insts = all_insts IsTypedInst orders c (All-weaker IsTypedInst (λ i. IsTypedInst (new_inst orders i)) (λ i w. record { name = w.name; designator = w.designator; properties = w.properties }) (design.insts_of c) h.insts);
  nets = all_nets IsTypedNet orders c h.nets;
}

cell_limits : (orders : List (List ℕ)) (c : design.CellBody) → IsCellWithinLimits c → IsCellWithinLimits (new_cell orders c)
cell_limits orders c h = record {
  ports = h.ports;
  bits = h.bits;
  insts = (let n : length (design.insts_of (new_cell orders c)) ≡ length (design.insts_of c) = ap length (insts_new orders c) ∙ length-map (design.insts_of c) (new_inst orders) in let l = h.insts in omega (arith, n, l));
  nets = subst (λ (nets : List design.Net). length nets ≤ 1048576) (sym (nets_new orders c)) h.nets;
  ends = subst (λ (ends : List design.End). length ends ≤ 4194304) (sym (ends_new orders c)) h.ends;
}

cell_names_differ : (orders : List (List ℕ)) (c : design.CellBody) → HasDistinctNamesInCell c → HasDistinctNamesInCell (new_cell orders c)
cell_names_differ orders c h = record {
  ports = h.ports;
  insts = subst (λ (ns : List (List ℕ)). AreDistinct ns) (sym (ap (map (λ (i : design.Inst). i.name.id)) (insts_new orders c) ∙ inst_names_new orders (design.insts_of c))) h.insts;
  nets = subst (λ (nets : List design.Net). AreDistinct (map (λ (net : design.Net). net.name.id) nets)) (sym (nets_new orders c)) h.nets;
  properties = h.properties;
  view_properties = h.view_properties;
  interface_properties = h.interface_properties;
  port_properties = h.port_properties;
  inst_properties = all_insts (λ (i : design.Inst). HasDistinctKeys i.properties) orders c h.inst_properties;
  net_properties = all_nets (λ (net : design.Net). HasDistinctKeys net.properties) orders c h.net_properties;
}

-- an end is at the same bit
and_some : {A : Type 0} (o : Option A) (x : A) (P : A → Type 0) → o ≡ Some x → P x → IsSomeAnd o P
and_some o x P e h = subst (λ v. IsSomeAnd v P) (sym e) h

end_moved : (d : design.Design) (c : design.CellBody) (inst : Option ℕ) (port bit : ℕ) → AreWhole d.libs → IsEndAt d c inst port bit → IsEndAt (arranged d) (new_cell (orders_from 0 d.libs) c) inst port bit
end_moved d c None port bit r h = h
end_moved d c (Some place) port bit r h =
    let x = some_and (slice_get (design.insts_of c) place) (λ inst. IsSomeAnd (design.cell_at d.libs inst.of) (λ of. HasBit of.ports port bit)) h in
    let of = some_and (design.cell_at d.libs x.0.of) (λ of. HasBit of.ports port bit) x.2 in
    let there : slice_get (design.insts_of (new_cell (orders_from 0 d.libs) c)) place ≡ Some (new_inst (orders_from 0 d.libs) x.0) =
    ap (λ is. slice_get is place) (insts_new (orders_from 0 d.libs) c) ∙ (slice_get-map (new_inst (orders_from 0 d.libs)) (design.insts_of c) place ∙ ap (option_map (new_inst (orders_from 0 d.libs))) x.1) in
    and_some (slice_get (design.insts_of (new_cell (orders_from 0 d.libs) c)) place) (new_inst (orders_from 0 d.libs) x.0) (λ inst. IsSomeAnd (design.cell_at (new_libs (orders_from 0 d.libs) 0 d.libs) inst.of) (λ of. HasBit of.ports port bit)) there
    (and_some (design.cell_at (new_libs (orders_from 0 d.libs) 0 d.libs) (new_id (orders_from 0 d.libs) x.0.of)) (new_cell (orders_from 0 d.libs) of.0) (λ of. HasBit of.ports port bit) (cell_moved d.libs x.0.of of.0 r of.1) of.2)

valid_cell_moved : (d : design.Design) (id : design.CellId) (c : design.CellBody) → AreWhole d.libs → IsValidCell d id c → IsValidCell (arranged d) (new_id (orders_from 0 d.libs) id) (new_cell (orders_from 0 d.libs) c)
valid_cell_moved d id c r v =
    let orders = orders_from 0 d.libs in
    record {
      limits = cell_limits (orders_from 0 d.libs) c v.limits;
      names = cell_names_differ (orders_from 0 d.libs) c v.names;
      placed = all_insts (λ i. IsCell (arranged d) i.of) (orders_from 0 d.libs) c (All-weaker (λ (i : design.Inst). IsCell d i.of) (λ i. IsCell (arranged d) (new_id (orders_from 0 d.libs) i.of)) (λ i h. moved_some d.libs i.of r h) (design.insts_of c) v.placed);
      not_later = all_insts (λ i. i.of.lib.0 ≤ id.lib.0) (orders_from 0 d.libs) c v.not_later;
      ends = subst (λ (ends : List design.End). All (IsEndOf (arranged d) (new_cell (orders_from 0 d.libs) c)) ends) (sym (ends_new (orders_from 0 d.libs) c))
          (All-weaker (IsEndOf d c) (IsEndOf (arranged d) (new_cell (orders_from 0 d.libs) c)) (λ e h. end_moved d c e.inst e.port e.bit r h) (ends_of c) v.ends);
      joined_once = subst (λ (ends : List design.End). AreDistinct ends) (sym (ends_new (orders_from 0 d.libs) c)) v.joined_once;
    }

valid_cell_from : (d : design.Design) (id : design.CellId) (n : design.CellBody) → IsValid d → AreWhole d.libs → design.cell_at (arranged d).libs id ≡ Some n → IsValidCell (arranged d) id n
valid_cell_from d id n v r e =
    let f = cell_from d.libs id n r e in
    subst (λ (k : design.CellId). IsValidCell (arranged d) k n) (sym f.at)
    (subst (λ (c : design.CellBody). IsValidCell (arranged d) (new_id (orders_from 0 d.libs) f.old_id) c) (sym f.is) (valid_cell_moved d f.old_id f.old r (v.cells f.old_id f.old f.found)))

-- names of cells in another order differ
abbrev Differ : List (List ℕ) → Type 0
Differ [] = Unit {0}
Differ (n ∷ ns) = AllByRecursion (λ m. n ≢ m) ns × Differ ns

differ_distinct : (ns : List (List ℕ)) → Differ ns → AreDistinct ns
differ_distinct [] h i j d l m = absurd (omega arith)
differ_distinct (n ∷ ns) h i zero d l m = absurd (omega arith)
differ_distinct (n ∷ ns) h zero (suc j) d l m = All-from_recursion (λ v. n ≢ v) ns h.0 j d (omega arith)
differ_distinct (n ∷ ns) h (suc i) (suc j) d l m = differ_distinct ns h.1 i j d (omega arith) (omega arith)

apart : (ns : List (List ℕ)) (i j : ℕ) (a b : List ℕ) → AreDistinct ns → slice_get ns i ≡ Some a → slice_get ns j ≡ Some b → i ≢ j → a ≢ b
apart ns i j a b h e f n = λ same. ⊎_elim
    (λ (q : i ≡ j). n q)
    (λ (q : (i < j) ⊎ (j < i)). ⊎_elim
    (λ (l : i < j). h i j a l (slice_get_within ns j b f) (get_or_from_slice_get ns i a a e ∙ (same ∙ sym (get_or_from_slice_get ns j b a f))))
    (λ (l : j < i). h j i a l (slice_get_within ns i a e) (get_or_from_slice_get ns j b a f ∙ (sym same ∙ sym (get_or_from_slice_get ns i a a e)))) q)
    (cases_order i j)

name_at : (cells : List design.CellBody) (k : ℕ) (c : design.CellBody) → slice_get cells k ≡ Some c → slice_get (cell_names cells) k ≡ Some c.name.id
name_at cells k c e = slice_get-map (λ (c : design.CellBody). c.name.id) cells k ∙ ap (option_map (λ (c : design.CellBody). c.name.id)) e

none_named : (orders : List (List ℕ)) (cells : List design.CellBody) (k : ℕ) (c : design.CellBody) (o : List ℕ) → AreDistinct (cell_names cells) → slice_get cells k ≡ Some c → AllThere cells o → list_any (nat_eq k) o ≡ false → AllByRecursion (λ m. c.name.id ≢ m) (cell_names (new_cells orders cells o))
none_named orders cells k c [] d e h n = tt
none_named orders cells k c (j ∷ o) d e h n =
    let t = or_parts (nat_eq k j) (list_any (nat_eq k) o) n in
    let other : k ≢ j = λ q. (let g : true ≡ false = sym (eq-eqb k j q) ∙ t.0 in absurd (cc g)) in
    rw h.0.1 (apart (cell_names cells) k j c.name.id h.0.0.name.id d (name_at cells k c e) (name_at cells j h.0.0 h.0.1) other, none_named orders cells k c o d e h.1 t.1)

names_differ : (orders : List (List ℕ)) (cells : List design.CellBody) (o : List ℕ) → AreDistinct (cell_names cells) → AllThere cells o → IsNew o → Differ (cell_names (new_cells orders cells o))
names_differ orders cells [] d h n = tt
names_differ orders cells (k ∷ o) d h n = rw h.0.1 (none_named orders cells k h.0.0 o d h.0.1 h.1 n.0, names_differ orders cells o d h.1 n.1)

-- the libraries of the arranged design
all_libs : (P : design.Lib → Type 0) (libs : List design.Lib) → ((i : ℕ) (l : design.Lib) → slice_get libs i ≡ Some l → P (new_lib (orders_from 0 libs) i l)) → All P (new_libs (orders_from 0 libs) 0 libs)
all_libs P libs f = All-from_recursion P (new_libs (orders_from 0 libs) 0 libs) (all_from_places P (new_libs (orders_from 0 libs) 0 libs) (λ i n e.
    let l = own_old_lib libs i n e in subst P (sym l.2) (f i l.0 l.1)))

length_new : (orders : List (List ℕ)) (cells : List design.CellBody) (o : List ℕ) → AllThere cells o → length (new_cells orders cells o) ≡ length o
length_new orders cells [] h = refl
length_new orders cells (k ∷ o) h = rw h.0.1 (ap suc (length_new orders cells o h.1))

order_short : (own : ℕ) (cells : List design.CellBody) (fuel : ℕ) (written : List ℕ) → length (order_from own cells fuel written) ≤ fuel
order_short own cells zero written = omega arith
order_short own cells (suc fuel) written = go (first_ready own written 0 cells) (λ k. order_short own cells fuel (written ++ k ∷ []))
  where
    go : (o : Option ℕ) → ((k : ℕ) → length (order_from own cells fuel (written ++ k ∷ [])) ≤ fuel) → length (unwrap_or (option_map (λ slot. slot ∷ order_from own cells fuel (written ++ slot ∷ [])) o) []) ≤ suc fuel
    go None more = omega arith
    go (Some k) more = let r = more k in omega (arith, r)

pub libs_length : (orders : List (List ℕ)) (own : ℕ) (libs : List design.Lib) → length (new_libs orders own libs) ≡ length libs
libs_length orders own [] = refl
libs_length orders own (l ∷ libs) = ap suc (libs_length orders (suc own) libs)

lib_names_same : (orders : List (List ℕ)) (own : ℕ) (libs : List design.Lib) → lib_names (new_libs orders own libs) ≡ lib_names libs
lib_names_same orders own [] = refl
lib_names_same orders own (l ∷ libs) = ap (λ v. l.head.name.id ∷ v) (lib_names_same orders (suc own) libs)

typed_arranged : (d : design.Design) → IsValid d → AreWhole d.libs → IsTyped (arranged d)
typed_arranged d v r = record {
  title = v.typed.title;
  libs = all_libs (λ (l : design.Lib). IsTypedName l.head.name) d.libs (λ i l e. All-slice_get (λ (l : design.Lib). IsTypedName l.head.name) d.libs i l v.typed.libs e);
  cells = all_libs (λ (l : design.Lib). All IsTypedCell l.cells) d.libs (λ i l e. All-from_recursion IsTypedCell (new_cells (orders_from 0 d.libs) l.cells (order_of i l.cells)) (all_from_places IsTypedCell (new_cells (orders_from 0 d.libs) l.cells (order_of i l.cells)) (λ p n f.
      let c = old_there (orders_from 0 d.libs) l.cells (order_of i l.cells) p n (r i l e).there f in
      let typed : IsTypedCell c.1 = All-cell_at IsTypedCell d (id_at i c.0) c.1 v.typed.cells (cell_found d.libs i c.0 l c.1 e c.3) in
      subst IsTypedCell (sym c.4) (typed_cell (orders_from 0 d.libs) c.1 typed))));
  top = go d.top v.typed.top;
  notes = v.typed.notes;
}
  where
    go : (o : Option design.TopHead) → IfSome o (λ t. IsTypedName t.name × All IsTypedProperty t.properties) → IfSome (option_map (new_top (orders_from 0 d.libs)) o) (λ t. IsTypedName t.name × All IsTypedProperty t.properties)
    go None h = tt
    go (Some t) h = h

limits_arranged : (d : design.Design) → IsValid d → AreWhole d.libs → IsWithinLimits (arranged d)
limits_arranged d v r = record {
  libs = (let n = libs_length (orders_from 0 d.libs) 0 d.libs in let l = v.limits.libs in omega (arith, n, l));
  cells = all_libs (λ (l : design.Lib). length l.cells ≤ 65536) d.libs (λ i l e.
      let n = length_new (orders_from 0 d.libs) l.cells (order_of i l.cells) (r i l e).there in
      let s : length (order_of i l.cells) ≤ length l.cells = order_short i l.cells (length l.cells) [] in
      let m : length l.cells ≤ 65536 = All-slice_get (λ (l : design.Lib). length l.cells ≤ 65536) d.libs i l v.limits.cells e in
      omega (arith, n, s, m));
  notes = v.limits.notes;
}

names_arranged : (d : design.Design) → IsValid d → AreWhole d.libs → HasDistinctNames (arranged d)
names_arranged d v r = record {
  libs = subst (λ (ns : List (List ℕ)). AreDistinct ns) (sym (lib_names_same (orders_from 0 d.libs) 0 d.libs)) v.names.libs;
  cells = all_libs (λ (l : design.Lib). AreDistinct (cell_names l.cells)) d.libs (λ i l e.
      differ_distinct (cell_names (new_cells (orders_from 0 d.libs) l.cells (order_of i l.cells)))
      (names_differ (orders_from 0 d.libs) l.cells (order_of i l.cells) (All-slice_get (λ (l : design.Lib). AreDistinct (cell_names l.cells)) d.libs i l v.names.cells e) (r i l e).there (r i l e).new));
}

-- instances are carried along, and back
contains_map : (orders : List (List ℕ)) (is : List design.Inst) (i : design.Inst) → Contains is i → Contains (map (new_inst orders) is) (new_inst orders i)
contains_map orders is i h = (h.0, (let n : length (map (new_inst orders) is) ≡ length is = length-map is (new_inst orders) in let l = h.1 in omega (arith, n, l)), get_or-map (new_inst orders) is h.0 i ∙ ap (new_inst orders) h.2)

contains_unmap : (orders : List (List ℕ)) (is : List design.Inst) (n : design.Inst) → Contains (map (new_inst orders) is) n → (i : design.Inst) × Contains is i × (n ≡ new_inst orders i)
contains_unmap orders is n h = at is h.0 h.1 h.2
  where
    at : (is : List design.Inst) (k : ℕ) → k < length (map (new_inst orders) is) → slice_index_or (map (new_inst orders) is) k n ≡ n → (i : design.Inst) × Contains is i × (n ≡ new_inst orders i)
    at [] k l e = absurd (omega arith)
    at (i ∷ is) zero l e = (i, (0, omega arith, refl), sym e)
    at (i ∷ is) (suc k) l e = let r = at is k (omega arith) e in (r.0, (suc r.1.0, (let l = r.1.1 in omega (arith, l)), r.1.2), r.2)

inst_moved : (d : design.Design) (id : design.CellId) (i : design.Inst) → AreWhole d.libs → HasInst d id i → HasInst (arranged d) (new_id (orders_from 0 d.libs) id) (new_inst (orders_from 0 d.libs) i)
inst_moved d id i r h =
    let c = cell_of_inst d id i h in
    let there : insts_at (arranged d) (new_id (orders_from 0 d.libs) id) ≡ map (new_inst (orders_from 0 d.libs)) (design.insts_of c.0) = ap (λ o. option_map_or design.insts_of o []) (cell_moved d.libs id c.0 r c.1) ∙ insts_new (orders_from 0 d.libs) c.0 in
    subst (λ is. Contains is (new_inst (orders_from 0 d.libs) i)) (sym there) (contains_map (orders_from 0 d.libs) (design.insts_of c.0) i c.2)

resolves_moved : (d : design.Design) (id : design.CellId) (path : List (List ℕ)) → AreWhole d.libs → Resolves d id path → Resolves (arranged d) (new_id (orders_from 0 d.libs) id) path
resolves_moved d id [] r h = tt
resolves_moved d id (n ∷ path) r h = (new_inst (orders_from 0 d.libs) h.0, inst_moved d id h.0 r h.1, h.2, resolves_moved d h.0.of path r h.3)

-- the id that a cell had
abbrev slot_before : Option (List ℕ) → ℕ → ℕ
slot_before None p = p
slot_before (Some o) p = unwrap_or (slice_get o p) p

abbrev id_before : List (List ℕ) → design.CellId → design.CellId
id_before orders id = record { lib = id.lib; slot = slot_before (slice_get orders id.lib.0) id.slot }

before_new : (libs : List design.Lib) (id : design.CellId) → AreWhole libs → IsSome (design.cell_at libs id) → id_before (orders_from 0 libs) (new_id (orders_from 0 libs) id) ≡ id
before_new libs id r h =
    let c = some_of (design.cell_at libs id) h in
    let l = lib_of_cell libs id c.0 c.1 in
    let o = own_order libs id.lib.0 l.0 l.1 in
    let full = (r id.lib.0 l.0 l.1).covers id.slot (slice_get_within l.0.cells id.slot c.0 l.2) in
    let slot : slot_before (slice_get (orders_from 0 libs) id.lib.0) (unwrap_or (option_map (place_in id.slot) (slice_get (orders_from 0 libs) id.lib.0)) id.slot) ≡ id.slot =
    ap (λ v. slot_before v (unwrap_or (option_map (place_in id.slot) v) id.slot)) o ∙ ap (λ v. unwrap_or v (place_in id.slot (order_of id.lib.0 l.0.cells))) (place_found id.slot (order_of id.lib.0 l.0.cells) full) in
    λ i. record { lib = id.lib; slot = slot i }

-- no cell of the arranged design is below itself: cells keep their ranks
acyclic_arranged : (d : design.Design) → IsValid d → AreWhole d.libs → NoCellIsBelowItself (arranged d)
acyclic_arranged d v r =
    let ranked = valid_is_ranked d v in
    ranked_has_no_cycle (arranged d) (λ id. ranked.0 (id_before (orders_from 0 d.libs) id)) (λ id n h.
    let c = cell_of_inst (arranged d) id n h in
    let f = cell_from d.libs id c.0 r c.1 in
    let insts : design.insts_of c.0 ≡ map (new_inst (orders_from 0 d.libs)) (design.insts_of f.old) = ap design.insts_of f.is ∙ insts_new (orders_from 0 d.libs) f.old in
    let i = contains_unmap (orders_from 0 d.libs) (design.insts_of f.old) n (subst (λ is. Contains is n) insts c.2) in
    let has : HasInst d f.old_id i.0 = subst (λ is. Contains is i.0) (sym (ap (λ o. option_map_or design.insts_of o []) f.found)) i.1 in
    let less : ranked.0 i.0.of < ranked.0 f.old_id = ranked.1 f.old_id i.0 has in
    let there : IsSome (design.cell_at d.libs f.old_id) = ap is_some f.found in
    let outer : ranked.0 (id_before (orders_from 0 d.libs) id) ≡ ranked.0 f.old_id = ap (λ k. ranked.0 (id_before (orders_from 0 d.libs) k)) f.at ∙ ap ranked.0 (before_new d.libs f.old_id r there) in
    let of_there : IsSome (design.cell_at d.libs i.0.of) = placed_there d f.old_id f.old i.0 v f.found i.1 in
    let inner : ranked.0 (id_before (orders_from 0 d.libs) n.of) ≡ ranked.0 i.0.of = ap (λ (x : design.Inst). ranked.0 (id_before (orders_from 0 d.libs) x.of)) i.2 ∙ ap ranked.0 (before_new d.libs i.0.of r of_there) in
    omega (arith, less, outer, inner))
  where
    placed_there : (d : design.Design) (id : design.CellId) (c : design.CellBody) (i : design.Inst) → IsValid d → design.cell_at d.libs id ≡ Some c → Contains (design.insts_of c) i → IsSome (design.cell_at d.libs i.of)
    placed_there d id c i v e h = subst (λ (x : design.Inst). IsCell d x.of) h.2 ((v.cells id c e).placed h.0 i h.1)

pub arranged_valid : (d : design.Design) → IsValid d → IsValid (arranged d)
arranged_valid d v =
    let r = valid_whole d v in
    record {
      typed = typed_arranged d v r;
      limits = limits_arranged d v r;
      names = names_arranged d v r;
      cells = λ id n e. valid_cell_from d id n v r e;
      no_cycle = acyclic_arranged d v r;
      top = top d.top v.top r;
      notes = notes d.top v.notes r;
      notes_need_top = need d.top v.notes_need_top;
      notes_differ = v.notes_differ;
    }
  where
    top : (o : Option design.TopHead) → IfSome o (λ t. IsCell d t.cell × HasDistinctKeys t.properties) → AreWhole d.libs → IfSome (option_map (new_top (orders_from 0 d.libs)) o) (λ t. IsCell (arranged d) t.cell × HasDistinctKeys t.properties)
    top None h r = tt
    top (Some t) h r = (moved_some d.libs t.cell r h.0, h.1)

    notes : (o : Option design.TopHead) → IfSome o (λ t. All (IsNoteBelow d t.cell) d.notes) → AreWhole d.libs → IfSome (option_map (new_top (orders_from 0 d.libs)) o) (λ t. All (IsNoteBelow (arranged d) t.cell) d.notes)
    notes None h r = tt
    notes (Some t) h r = All-weaker (IsNoteBelow d t.cell) (IsNoteBelow (arranged d) (new_id (orders_from 0 d.libs) t.cell)) (λ n w. record { has_step = w.has_step; resolves = resolves_moved d t.cell n.path r w.resolves }) d.notes h

    need : (o : Option design.TopHead) → IfNone o (d.notes ≡ []) → IfNone (option_map (new_top (orders_from 0 d.libs)) o) (d.notes ≡ [])
    need None h = h
    need (Some t) h = h

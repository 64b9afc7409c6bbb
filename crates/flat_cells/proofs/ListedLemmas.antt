-- The cells of the libraries, one library after another, are each behind the cells of their instances.
use Rattle.std.proofs.Common.{◌≡◌, ◌<◌, ◌≤◌, ◌⊎◌, ℕ, zero, suc, List, [], ◌∷◌, ◌++◌, length, map, sym, ap, subst, ◌∙◌, inl, inr, arith, append-nil, append_assoc}
use Rattle.std.specs.List.{Contains}
use Rattle.std.specs.Option.{option_map_or}
use Rattle.std.proofs.lemmas.Bool.{cases_eq}
use Rattle.std.proofs.lemmas.List.{map-append}
use Rattle.std.proofs.lemmas.Option.{slice_get_within}
use Rattle.netlist_schema.specs.Design.{Design, cell_at, cells_in, insts_of}
use Rattle.netlist_schema.specs.Hierarchy.{HasInst, IsCell, insts_at}
use Rattle.netlist_schema.specs.Types.{CellBody, CellId, Inst, Lib, LibId}
use Rattle.netlist_schema.specs.Valid.{IsValid}
use Rattle.netlist_schema.proofs.Cells.{cell_of_inst}
use Rattle.netlist_schema.proofs.Lists.{some_of}
use Rattle.netlist_order_spec.specs.After.{AllAfter}
use Rattle.netlist_order_spec.specs.InTime.{ComesInTime}
use Rattle.netlist_order_spec.specs.Order.{order_of}
use Rattle.netlist_order_spec.proofs.Places.{lib_of_cell}
use Rattle.netlist_order_spec.proofs.Ready.{order_covers}
use Rattle.netlist_order_spec.proofs.WholeOrder.{contains_from_any, order_in_time, valid_rank}
use Rattle.flat_spec.proofs.ListLemmas.{Member, Member-append_left, Member-append_right, Member-append_cases, Member-map, Member-from_map, Contains-member, Member-contains}
use Rattle.flat_cells.specs.Below.{AreCells, ComesBehind, cells_of, cells_upto}

-- the id of a cell
abbrev id_of : LibId → ℕ → CellId
id_of lib slot = record { lib = lib; slot = slot }

pub after_append : {A : Type 0} (P : List A → A → Type 0) (before xs ys : List A) → AllAfter P before xs → AllAfter P (before ++ xs) ys → AllAfter P before (xs ++ ys)
after_append P before [] ys h k = subst (λ v. AllAfter P v ys) (append-nil before) k
after_append P before (x ∷ xs) ys h k =
    (h.0, after_append P (before ++ x ∷ []) xs ys h.1 (subst (λ v. AllAfter P v ys) (sym (append_assoc before (x ∷ []) xs)) k))

-- an instance of a cell: it is of a cell that is there, in a library that is not later
pub inst_there : (d : Design) (c : CellId) (inst : Inst) → IsValid d → HasInst d c inst → IsCell d inst.of × (inst.of.lib.0 ≤ c.lib.0)
inst_there d c inst valid has =
    let found = cell_of_inst d c inst has in
    let placed = (valid.cells c found.0 found.1).placed found.2.0 inst found.2.1 in
    let early = (valid.cells c found.0 found.1).not_later found.2.0 inst found.2.1 in
    (subst (λ (i : Inst). IsCell d i.of) found.2.2 placed, subst (λ (i : Inst). i.of.lib.0 ≤ c.lib.0) found.2.2 early)

module _ (d : Design) (valid : IsValid d) where
  -- the cells of the first libraries are of these
  upto_low : (n : ℕ) (c : CellId) → Member (cells_upto d n) c → c.lib.0 < n
  upto_low zero c m = absurd m
  upto_low (suc n) c m = go (Member-append_cases (cells_upto d n) (cells_of d (record { 0 = n })) c m) (upto_low n c)
    where
      go : Member (cells_upto d n) c ⊎ Member (cells_of d (record { 0 = n })) c → (Member (cells_upto d n) c → c.lib.0 < n) → c.lib.0 < suc n
      go (inl early) low = let l = low early in omega (arith, l)
      go (inr here) low =
          let from = Member-from_map (id_of (record { 0 = n })) (order_of n (cells_in d (record { 0 = n }))) c here in
          let same : n ≡ c.lib.0 = ap (λ (v : CellId). v.lib.0) from.2 in
          omega (arith, same)

  -- a cell stands among those of its library
  in_library : (c : CellId) → IsCell d c → Member (cells_of d c.lib) c
  in_library c is =
      let body = some_of (cell_at d c) is in
      let lib = lib_of_cell d c body.0 body.1 in
      let rank = valid_rank d c.lib.0 lib.0 valid lib.1 in
      let listed = contains_from_any c.slot (order_of c.lib.0 lib.0.cells) (order_covers c.lib.0 lib.0.cells rank.0 rank.1 c.slot (slice_get_within lib.0.cells c.slot body.0 lib.2)) in
      let cells : cells_in d c.lib ≡ lib.0.cells = ap (λ o. option_map_or (λ (l : Lib). l.cells) o []) lib.1 in
      subst (λ v. Member (map (id_of c.lib) (order_of c.lib.0 v)) c) (sym cells)
      (Member-map (id_of c.lib) (order_of c.lib.0 lib.0.cells) c.slot (Contains-member (order_of c.lib.0 lib.0.cells) c.slot listed))

  upto_whole : (n : ℕ) (c : CellId) → IsCell d c → c.lib.0 < n → Member (cells_upto d n) c
  upto_whole zero c is less = absurd (omega arith)
  upto_whole (suc n) c is less = go (cases_eq c.lib.0 n) (upto_whole n c is)
    where
      go : (c.lib.0 ≡ n) ⊎ (c.lib.0 ≡ n → ⊥) → (c.lib.0 < n → Member (cells_upto d n) c) → Member (cells_upto d (suc n)) c
      go (inl here) early =
          let same : c.lib ≡ record { 0 = n } = λ i. record { 0 = here i } in
          Member-append_right (cells_upto d n) (cells_of d (record { 0 = n })) c (subst (λ v. Member (cells_of d v) c) same (in_library c is))
      go (inr other) early = Member-append_left (cells_upto d n) (cells_of d (record { 0 = n })) c (early (omega (arith, less, other)))

  module _ (n : ℕ) where
    cells : List CellBody
    cells = cells_in d (record { 0 = n })

    -- a cell that comes in time in its library comes behind the cells of its instances
    one_behind : (earlier : List ℕ) (slot : ℕ) → ComesInTime n (cells_in d (record { 0 = n })) earlier slot
        → ComesBehind d (cells_upto d n ++ map (id_of (record { 0 = n })) earlier) (id_of (record { 0 = n }) slot)
    one_behind earlier slot t = record {
      new = λ has. elim (Member-append_cases (cells_upto d n) (map (id_of (record { 0 = n })) earlier) (id_of (record { 0 = n }) slot)
          (Contains-member (cells_upto d n ++ map (id_of (record { 0 = n })) earlier) (id_of (record { 0 = n }) slot) has)) [
            | inl early ↦ let low = upto_low n (id_of (record { 0 = n }) slot) early in absurd (omega (arith, low))
            | inr here ↦
                let from = Member-from_map (id_of (record { 0 = n })) earlier (id_of (record { 0 = n }) slot) here in
                t.new (Member-contains earlier slot (subst (λ v. Member earlier v) (ap (λ (v : CellId). v.slot) from.2) from.1))
          ];
      children = λ inst has.
          let there = inst_there d (id_of (record { 0 = n }) slot) inst valid has in
          Member-contains (cells_upto d n ++ map (id_of (record { 0 = n })) earlier) inst.of (elim (cases_eq inst.of.lib.0 n) [
            | inl same ↦
                let found = has_found inst has in
                let before : Contains earlier inst.of.slot = found_before inst found same in
                let id : id_of (record { 0 = n }) inst.of.slot ≡ inst.of = λ i. record { lib = record { 0 = sym same i }; slot = inst.of.slot } in
                Member-append_right (cells_upto d n) (map (id_of (record { 0 = n })) earlier) inst.of
                (subst (λ v. Member (map (id_of (record { 0 = n })) earlier) v) id (Member-map (id_of (record { 0 = n })) earlier inst.of.slot (Contains-member earlier inst.of.slot before)))
            | inr other ↦
                let l = there.1 in
                Member-append_left (cells_upto d n) (map (id_of (record { 0 = n })) earlier) inst.of (upto_whole n inst.of there.0 (omega (arith, l, other)))
          ]);
    }
      where
        has_found : (inst : Inst) → HasInst d (id_of (record { 0 = n }) slot) inst → Contains (insts_of t.cell) inst
        has_found inst has =
            let same : insts_at d (id_of (record { 0 = n }) slot) ≡ insts_of t.cell = ap (λ o. option_map_or insts_of o []) t.there in
            subst (λ v. Contains v inst) same has

        found_before : (inst : Inst) → Contains (insts_of t.cell) inst → inst.of.lib.0 ≡ n → Contains earlier inst.of.slot
        found_before inst found same =
            (subst (λ (i : Inst). i.of.lib.0 ≡ n → Contains earlier i.of.slot) found.2 (t.children found.0 inst found.1)) same

    library_behind : (earlier slots : List ℕ) → AllAfter (ComesInTime n (cells_in d (record { 0 = n }))) earlier slots
        → AllAfter (ComesBehind d) (cells_upto d n ++ map (id_of (record { 0 = n })) earlier) (map (id_of (record { 0 = n })) slots)
    library_behind earlier [] h = tt
    library_behind earlier (s ∷ slots) h = (
      one_behind earlier s h.0,
      subst (λ v. AllAfter (ComesBehind d) v (map (id_of (record { 0 = n })) slots))
          (ap (λ v. cells_upto d n ++ v) (map-append (id_of (record { 0 = n })) earlier (s ∷ []))
          ∙ sym (append_assoc (cells_upto d n) (map (id_of (record { 0 = n })) earlier) (id_of (record { 0 = n }) s ∷ [])))
          (library_behind (earlier ++ s ∷ []) slots h.1),
    )

  upto_behind : (n : ℕ) → AllAfter (ComesBehind d) [] (cells_upto d n)
  upto_behind zero = tt
  upto_behind (suc n) =
      after_append (ComesBehind d) [] (cells_upto d n) (cells_of d (record { 0 = n })) (upto_behind n)
      (subst (λ v. AllAfter (ComesBehind d) v (cells_of d (record { 0 = n }))) (append-nil (cells_upto d n))
      (library_behind n [] (order_of n (cells_in d (record { 0 = n }))) (order_in_time n (cells_in d (record { 0 = n })))))

  pub upto_all : AreCells d (cells_upto d (length d.libs))
  upto_all = record {
    whole = λ c is.
        let body = some_of (cell_at d c) is in
        let lib = lib_of_cell d c body.0 body.1 in
        Member-contains (cells_upto d (length d.libs)) c (upto_whole (length d.libs) c is (slice_get_within d.libs c.lib.0 lib.0 lib.1));
    behind = upto_behind (length d.libs);
  }

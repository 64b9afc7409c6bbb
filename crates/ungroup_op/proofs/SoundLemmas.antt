-- The contents of a cell of a valid design.
use Rattle.std.proofs.Common.{◌≡◌, ◌<◌, ◌≤◌, inl, inr, ℕ, suc, arith, List, [], ◌∷◌, length, refl, sym, ap, subst, Option, Some, None, slice_get}
use Rattle.std.specs.Prelude.{IfSome, IsSomeAnd, flat_map}
use Rattle.std.specs.List.{All}
use Rattle.std.specs.Option.{option_map_or}
use Rattle.std.proofs.lemmas.Option.{slice_get_within}
use Rattle.netlist_schema.specs.Design.{Design, cell_at, ends_of, insts_in, insts_of, nets_in, nets_of}
use Rattle.netlist_schema.specs.Types.{CellBody, CellId, Contents, End, Inst, Net}
use Rattle.netlist_schema.specs.Valid.{HasBit, IsEndAt, IsEndOf, IsValid, IsValidCell}
use Rattle.edit_rules_spec.specs.Seen.{contents_at}
use Rattle.flat_spec.proofs.ListLemmas.{Ascends, Contains-member, Member}
use Rattle.flat_spec.proofs.PinLemmas.{AllPairs-ascends, ends-member, joined_once}
use Rattle.ungroup_spec.specs.Groups.{ends_of_net}
use Rattle.ungroup_spec.proofs.FreshLemmas.{All-member, member-All}
use Rattle.ungroup_spec.proofs.AtLemmas.{contents-body}
use Rattle.ungroup_plans.specs.Heads.{AreSound, IsLow}

found : (nets : List Net) (n : ℕ) (e : End) → Member (ends_of_net nets n) e → (net : Net) × (slice_get nets n ≡ Some net) × Member net.ends e
found nets n e m = go (slice_get nets n) m
  where
    go : (o : Option Net) → Member (option_map_or (λ (net : Net). net.ends) o []) e → (net : Net) × (o ≡ Some net) × Member net.ends e
    go None m = absurd m
    go (Some net) m = (net, refl, m)

place_of_member : (nets : List Net) (net : Net) → Member nets net → (k : ℕ) × (slice_get nets k ≡ Some net)
place_of_member [] net m = absurd m
place_of_member (x ∷ nets) net m = elim m [
  | inl same ↦ (0, ap (λ v. Some v) same)
  | inr rest ↦ let h = place_of_member nets net rest in (suc h.0, h.1)
]

pub sound_at : (d : Design) (id : CellId) (c : Contents) → IsValid d → contents_at d id ≡ Some c → AreSound c
sound_at d id c valid is =
    let b = contents-body (cell_at d id) c is in
    let body = b.0 in
    let good : IsValidCell d id body = valid.cells id body b.1 in
    let insts : insts_of body ≡ c.insts = ap insts_in b.2 in
    let nets : nets_of body ≡ c.nets = ap nets_in b.2 in
    let few : length c.insts ≤ 1048576 = subst (λ (xs : List Inst). length xs ≤ 1048576) insts good.limits.insts in
    let once = subst (λ (xs : List Net). Ascends (λ (x y : End). x ≡ y → ⊥) (flat_map (λ (n : Net). n.ends) xs)) nets (AllPairs-ascends (λ (x y : End). x ≡ y → ⊥) (ends_of body) good.joined_once) in
    let low : (e : End) → Member (flat_map (λ (n : Net). n.ends) c.nets) e → IsLow e =
    λ e m. end_low body e insts few (member-All (IsEndOf d body) (ends_of body) e good.ends (subst (λ (xs : List Net). Member (flat_map (λ (n : Net). n.ends) xs) e) (sym nets) m)) in
    record {
      few_insts = few;
      few_nets = subst (λ (xs : List Net). length xs ≤ 1048576) nets good.limits.nets;
      low = All-member (λ (net : Net). All IsLow net.ends) c.nets (λ net m.
          let at = place_of_member c.nets net m in
          All-member IsLow net.ends (λ e k. low e (ends-member c.nets at.0 net e at.1 k)));
      once = λ m n e p q.
          let x = found c.nets m e (Contains-member (ends_of_net c.nets m) e p) in
          let y = found c.nets n e (Contains-member (ends_of_net c.nets n) e q) in
          joined_once c.nets e once m n x.0 y.0 x.1 y.1 x.2 y.2;
    }
  where
    end_low : (body : CellBody) (e : End) → insts_of body ≡ c.insts → length c.insts ≤ 1048576 → IsEndOf d body e → IsLow e
    end_low body e insts few good = go e.inst good
      where
        go : (i : Option ℕ) → IsEndAt d body i e.port e.bit → IfSome i (λ k. k < 1048576)
        go None good = tt
        go (Some k) good =
            let within : k < length (insts_of body) = there (slice_get (insts_of body) k) refl (λ inst. IsSomeAnd (cell_at d inst.of) (λ of. HasBit of.ports e.port e.bit)) good in
            omega (arith, within, few, ap length insts)
          where
            there : (o : Option Inst) → slice_get (insts_of body) k ≡ o → (P : Inst → Type 0) → IsSomeAnd o P → k < length (insts_of body)
            there None is P some = absurd some
            there (Some inst) is P some = slice_get_within (insts_of body) k inst is

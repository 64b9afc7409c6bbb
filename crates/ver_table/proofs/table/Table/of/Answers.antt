use Rattle.std.proofs.Common.{◌≡◌, [], map, refl, ap, ◌∙◌, subst, sym, arith}
use Rattle.std.specs.Arc.{arc_value}
use Rattle.std.specs.FinMap.{empty}
use Rattle.std.proofs.lemmas.Result.{IfOk-weaker}
use Rattle.ver_table.specs.Entries.{pairs_of, IsInOrder}
use Rattle.ver_table.specs.Rows.{Lists, numbered, set_all}
use Rattle.ver_table.proofs.Listed.{Lists-empty, Lists-set_all, numbered_sorted}
use Rattle.ver_table.proofs.table.Table.of.Goals as goal

pub put_all-requires : goal.put_all-requires
put_all-requires g c =
    let items = map arc_value c.args.items.items in
    let entries : pairs_of c.as_slice.result.now ≡ numbered 0 items = ap pairs_of c.as_slice.ensures.value ∙ c.in_ok-entries.ensures in
    (omega arith, subst IsInOrder (sym entries) (numbered_sorted 0 items))

pub returns : goal.returns
returns g c =
    let items = map arc_value c.args.items.items in
    let entries : pairs_of c.as_slice.result.now ≡ numbered 0 items = ap pairs_of c.as_slice.ensures.value ∙ c.in_ok-entries.ensures in
    let all : set_all c.new.result (pairs_of c.as_slice.result.now) ≡ set_all empty (numbered 0 items) = ap (λ m. set_all m (pairs_of c.as_slice.result.now)) c.new.ensures ∙ ap (set_all empty) entries in
    IfOk-weaker c.put_all-2.result (λ table. table ≡ set_all c.new.result (pairs_of c.as_slice.result.now)) (λ table. Lists table items)
    (λ table e. subst (λ t. Lists t items) (sym (e ∙ all)) (Lists-set_all items empty [] 0 refl Lists-empty)) c.put_all-2.ensures

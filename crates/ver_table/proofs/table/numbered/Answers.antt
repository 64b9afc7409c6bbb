use Rattle.std.proofs.Common.{◌≡◌, ℕ, ◌+◌, ◌++◌, ◌∷◌, [], map, length, sym, ap, ◌∙◌, arith}
use Rattle.std.specs.Arc.{arc_value}
use Rattle.std.proofs.lemmas.List.{map-append, length-map, length_push}
use Rattle.ver_table.specs.declared.entries.Entry.{Entry}
use Rattle.ver_table.specs.Entries.{pairs_of}
use Rattle.ver_table.specs.Rows.{numbered}
use Rattle.ver_table.proofs.Listed.{numbered-push}
use Rattle.ver_table.proofs.table.numbered.Goals as goal

pub loop-item-preserved : goal.loop-item-preserved
loop-item-preserved g c =
    let more = length_push c.loop-item.yielded c.in-Some.item in
    let pair : Entry g.row.T.Denot → ℕ × g.row.T.Denot = λ e. (e.slot, arc_value e.item) in
    let slot : c.loop-item.slot ≡ 0 + length (map arc_value c.loop-item.yielded) = omega (arith, c.loop-item.invariant.0, length-map c.loop-item.yielded arc_value) in (
      omega (arith, more, c.loop-item.invariant.0),
      ap pairs_of c.in_ok-push.ensures.items
          ∙ map-append pair c.loop-item.entries.items (record { slot = c.loop-item.slot; item = c.in-Some.item } ∷ [])
          ∙ ap (λ ps. ps ++ (c.loop-item.slot, arc_value c.in-Some.item) ∷ []) c.loop-item.invariant.1
          ∙ ap (λ n. numbered 0 (map arc_value c.loop-item.yielded) ++ (n, arc_value c.in-Some.item) ∷ []) slot
          ∙ sym (numbered-push 0 (map arc_value c.loop-item.yielded) (arc_value c.in-Some.item))
          ∙ ap (numbered 0) (sym (map-append arc_value c.loop-item.yielded (c.in-Some.item ∷ []))),
    )

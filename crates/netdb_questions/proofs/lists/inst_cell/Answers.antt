use Rattle.std.proofs.Common.{List, ◌∙◌, ap, arith, slice_get, sym}
use Rattle.std.specs.Option.{option_map}
use Rattle.std.proofs.lemmas.Option.{slice_get_within}
use Rattle.netlist_schema.specs.Types.{Inst}
use Rattle.netdb_questions.proofs.lists.inst_cell.Goals as goal

pub returns-in-Some-clause-found : goal.returns-in-Some-clause-found
returns-in-Some-clause-found c =
    ap (option_map (λ (i : Inst). i.of)) (c.in-Some.ensures ∙ ap (λ (v : List Inst). slice_get v c.args.place) c.insts_there-insts.ensures.value)

pub returns-in-Some-clause-room : goal.returns-in-Some-clause-room
returns-in-Some-clause-room c = λ is.
    let within = slice_get_within c.insts_there-insts.result c.args.place c.in-Some.inst.now (sym c.in-Some.ensures) in
    omega (arith, within, c.insts_there-insts.ensures.limit)

pub returns-in-None-clause-found : goal.returns-in-None-clause-found
returns-in-None-clause-found c =
    ap (option_map (λ (i : Inst). i.of)) (c.in-None.ensures ∙ ap (λ (v : List Inst). slice_get v c.args.place) c.insts_there-insts.ensures.value)

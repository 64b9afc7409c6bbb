use Rattle.std.proofs.Common.{ℕ, List, Option, Result, Some, subst, sym}
use Rattle.flat_spec.specs.Types.{Item}
use Rattle.netdb_questions.specs.Lists.{Gives, Takes, insts_left, left_of, nets_left}
use Rattle.netdb_questions.specs.declared.lists.Begun.{Begun}
use Rattle.netdb_questions.specs.declared.lists.NextError.{NextError}
use Rattle.netdb_questions.proofs.ListLemmas.{gives, takes}
use Rattle.netdb_questions.proofs.lists.next_of.Goals as goal

pub returns-in-Pins : goal.returns-in-Pins
returns-in-Pins c =
    let new = c.next.new.self in
    let e = c.next.ensures in
    subst (λ (l : Begun). Gives (left_of c.args.ask.now l) (Some new) c.given.result) (sym c.in-Pins.is)
    (subst (λ (r : Result (Option Item) NextError). Gives (Some c.in-Pins.pins) (Some new) r) (sym c.given.ensures)
    (gives c.in-Pins.pins new c.next.result (takes c.in-Pins.pins new c.next.result e.none e.some e.err)))

pub returns-in-Insts : goal.returns-in-Insts
returns-in-Insts c =
    let d = c.args.ask.now in
    let old = insts_left d c.in-Insts.path c.in-Insts.place in
    let new = insts_left d c.in-Insts.path c.next_inst.new.place in
    subst (λ (l : Begun). Gives (left_of d l) (Some new) c.given-in-Insts.result) (sym c.in-Insts.is)
    (subst (λ (r : Result (Option Item) NextError). Gives (Some old) (Some new) r) (sym c.given-in-Insts.ensures)
    (gives old new c.next_inst.result (subst (λ (p : List ℕ). Takes (insts_left d p c.in-Insts.place) (insts_left d p c.next_inst.new.place) c.next_inst.result) c.as_slice.ensures.value c.next_inst.ensures)))

pub returns-in-Nets : goal.returns-in-Nets
returns-in-Nets c =
    let d = c.args.ask.now in
    let old = nets_left d c.in-Nets.path c.in-Nets.place in
    let new = nets_left d c.in-Nets.path c.next_net.new.place in
    subst (λ (l : Begun). Gives (left_of d l) (Some new) c.given-in-Nets.result) (sym c.in-Nets.is)
    (subst (λ (r : Result (Option Item) NextError). Gives (Some old) (Some new) r) (sym c.given-in-Nets.ensures)
    (gives old new c.next_net.result
    (subst (λ (p : List ℕ). Takes (nets_left d p c.in-Nets.place) (nets_left d p c.next_net.new.place) c.next_net.result) c.as_slice-in-Nets.ensures.value c.next_net.ensures)))

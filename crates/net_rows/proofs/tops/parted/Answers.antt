use Rattle.std.proofs.Common.{◌∙◌, ℕ, List, Some, ap, arith, get_or, length, map, sym}
use Rattle.std.specs.Prelude.{nat_eq}
use Rattle.std.specs.Option.{option_eq}
use Rattle.std.proofs.lemmas.List.{get_or_default}
use Rattle.net_rows.specs.Tops.{bit_is_in}
use Rattle.net_rows.specs.declared.tops.OwnBit.{OwnBit}
use Rattle.net_rows.proofs.ListLemmas.{all_parted, more_parted, none_yet}
use Rattle.net_rows.proofs.TopLemmas.{bit_test}
use Rattle.net_ways.specs.Ways.{firsts_in}
use Rattle.net_rows.proofs.tops.parted.Goals as goal

abbrev none : OwnBit
none = record { port = 0; bit = 0 }

pub loop-own-init : goal.loop-own-init
loop-own-init c =
    none_yet (λ list. list.items) (bit_is_in c.args.role c.args.classes.now c.args.top c.args.body.now) (length (firsts_in c.args.classes.now c.args.top)) c.args.bits.now c.in_ok-lists.lists.items
    (c.in_ok-lists.ensures.long ∙ ap length c.firsts.ensures) c.in_ok-lists.ensures.none

pub loop-own-preserved : goal.loop-own-preserved
loop-own-preserved c =
    let k : ℕ = c.loop-own.own-index in
    let bits : List OwnBit = c.args.bits.now in
    let own : OwnBit = get_or bits k none in
    let test = bit_is_in c.args.role c.args.classes.now c.args.top c.args.body.now in
    more_parted test (length (firsts_in c.args.classes.now c.args.top)) bits k own c.loop-own-test.true (get_or_default bits k own none c.loop-own-test.true) c.first_of-first.result
    (λ f. bit_test c.args.role c.args.classes.now c.args.top c.args.body.now own f ∙ ap (λ o. option_eq nat_eq o (Some f)) (sym c.first_of-first.ensures))
    (map (λ list. list.items) c.loop-own.lists.items) (map (λ list. list.items) c.add_to.new.lists.items) c.in_ok-add_to.ensures c.loop-own.invariant

pub returns : goal.returns
returns c =
    all_parted (bit_is_in c.args.role c.args.classes.now c.args.top c.args.body.now) (length (firsts_in c.args.classes.now c.args.top)) c.args.bits.now c.loop-own.own-index
    (map (λ list. list.items) c.loop-own.lists.items) (λ less. omega (arith, less, c.loop-own-test.false)) c.loop-own.invariant

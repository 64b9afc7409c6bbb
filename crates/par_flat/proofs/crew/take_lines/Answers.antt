use Rattle.std.proofs.Common.{rules, ◌≡◌, ◌<◌, ◌≤◌, ◌∙◌, ℕ, List, ap, arith, get_or, length, subst, sym, take}
use Rattle.std.specs.Prelude.{IfOk}
use Rattle.par_flat.specs.Desks.{AreParts, text_of}
use Rattle.par_flat.specs.Lines.{IsRound}
use Rattle.par_flat.specs.declared.desks.Lines.{Lines}
use Rattle.par_flat.proofs.CrewLemmas.{given_few, given_parts}
use Rattle.par_flat.proofs.crew.take_lines.Goals as goal

pub front_of-requires-clause-few : goal.front_of-requires-clause-few
front_of-requires-clause-few c = λ w lines within.
    let same : c.as_slice.result.now ≡ c.exchange.new.waiting.items = search rules in
    let long : length c.exchange.new.waiting.items ≡ length c.args.crew.now.desks.items = c.exchange.ensures.waiting_len ∙ c.requires.len in
    let inside : w < length c.exchange.new.waiting.items = (let e = ap length same in omega (arith, within, e)) in
    subst (λ (all : List Lines). IfOk (get_or all w lines).made (λ count. count ≤ c.args.most.items)) (sym same)
    (given_few c.args.most.items c.args.crew.now.desks.items c.exchange.new.waiting.items long c.exchange.ensures.given c.requires.few w lines inside)

pub returns-clause-crew : goal.returns-clause-crew
returns-clause-crew c = λ d were.
    let same : c.as_slice.result.now ≡ c.exchange.new.waiting.items = search rules in
    let long : length c.exchange.new.waiting.items ≡ length c.args.crew.now.desks.items = c.exchange.ensures.waiting_len ∙ c.requires.len in
    record {
      desks_len = c.exchange.ensures.desks_len;
      desks = c.exchange.ensures.desks d were;
      waiting_len = long;
      ready = (let e = ap length same in let within = c.in_ok-front.ensures.within in omega (arith, e, long, within));
    }

pub returns-clause-round : goal.returns-clause-round
returns-clause-round c = λ d items made.
    let same : c.as_slice.result.now ≡ c.exchange.new.waiting.items = search rules in
    let long : length c.exchange.new.waiting.items ≡ length c.args.crew.now.desks.items = c.exchange.ensures.waiting_len ∙ c.requires.len in
    let parts = given_parts d items c.args.most c.args.crew.now.desks.items c.exchange.new.waiting.items long c.exchange.ensures.given made in
    subst (λ (n : ℕ). IsRound d items c.args.most n c.in_ok-front.front.items) (ap length same ∙ long)
    (c.in_ok-front.ensures.round d items (subst (λ (all : List Lines). AreParts d items c.args.most all) (sym same) parts))

pub returns-clause-text : goal.returns-clause-text
returns-clause-text c = λ d items made.
    let same : c.as_slice.result.now ≡ c.exchange.new.waiting.items = search rules in
    let long : length c.exchange.new.waiting.items ≡ length c.args.crew.now.desks.items = c.exchange.ensures.waiting_len ∙ c.requires.len in
    let parts = given_parts d items c.args.most c.args.crew.now.desks.items c.exchange.new.waiting.items long c.exchange.ensures.given made in
    ap (λ (all : List Lines). text_of (take c.in_ok-front.front.workers all)) (sym same)
    ∙ c.in_ok-front.ensures.text d items (subst (λ (all : List Lines). AreParts d items c.args.most all) (sym same) parts)

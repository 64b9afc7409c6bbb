use Rattle.std.proofs.Common.{rules, ◌≡◌, ◌≤◌, ◌+◌, ◌∙◌, ℕ, Ok, ap, arith, length, subst, sym, take}
use Rattle.flat_lines_spec.specs.Lines.{item_lines}
use Rattle.par_flat.specs.Desks.{text_of}
use Rattle.par_flat.specs.Lines.{IsRound}
use Rattle.par_flat.specs.declared.desks.Lines.{Lines}
use Rattle.par_flat.proofs.TextLemmas.{count_few, next_made, one_taken, stopped_early}
use Rattle.par_flat.proofs.crew.front_of.Goals as goal

pub returns-then-count-most-clause-round : goal.returns-then-count-most-clause-round
returns-then-count-most-clause-round c = λ d items are.
    let count : ℕ = c.in_ok-count.count in
    let made : c.lines-item.result.made ≡ Ok count = search rules in
    subst (λ (n : ℕ). IsRound d items c.args.most (length c.args.waiting.now) (n + count)) (sym c.loop-lines.invariant.items)
    (stopped_early d items c.args.most c.args.waiting.now are c.loop-lines.lines-index c.loop-lines-test.true c.lines-item.result count c.lines-item.is made c.if-count-most.true)

pub returns-then-count-most-clause-text : goal.returns-then-count-most-clause-text
returns-then-count-most-clause-text c = λ d items are.
    let count : ℕ = c.in_ok-count.count in
    let made : c.lines-item.result.made ≡ Ok count = search rules in
    ap (λ (n : ℕ). text_of (take (n + 1) c.args.waiting.now)) c.loop-lines.invariant.workers
    ∙ one_taken d items c.args.most c.args.waiting.now are c.loop-lines.lines-index c.loop-lines-test.true c.lines-item.result count c.lines-item.is made c.loop-lines.invariant.taken
    ∙ ap (λ (n : ℕ). item_lines d (take (n + count) items)) (sym c.loop-lines.invariant.items)

pub loop-lines-preserved : goal.loop-lines-preserved
loop-lines-preserved c =
    let i : ℕ = c.loop-lines.lines-index in
    let most : ℕ = c.args.most.items in
    let count : ℕ = c.in_ok-count.count in
    let lines : Lines = c.lines-item.result in
    let made : lines.made ≡ Ok count = search rules in
    let low : count ≤ most = count_few c.args.waiting.now i most count lines c.lines-item.is made (c.requires.few i lines c.loop-lines-test.true) in
    let high : most ≤ count = let no = c.if-count-most.false in omega (arith, no) in
    let more = next_made i most count c.loop-lines.items c.loop-lines.invariant.items low high in
    record {
      workers = ap (λ (n : ℕ). n + 1) c.loop-lines.invariant.workers;
      items = more;
      taken = λ d items are.
          one_taken d items c.args.most c.args.waiting.now are i c.loop-lines-test.true lines count c.lines-item.is made c.loop-lines.invariant.taken
          ∙ ap (λ (n : ℕ). item_lines d (take n items)) (ap (λ (n : ℕ). n + count) (sym c.loop-lines.invariant.items) ∙ more);
    }

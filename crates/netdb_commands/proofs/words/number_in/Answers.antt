use Rattle.std.proofs.Common.{◌≡◌, ◌∙◌, sym, ap, true, false}
use Rattle.std.specs.Prelude.{not}
use Rattle.std.specs.Cmp.Lexicographic.{bytes_decides}
use Rattle.std.specs.Fmt.{decimal}
use Rattle.netdb_commands.proofs.WordLemmas.{read_number}
use Rattle.netdb_commands.proofs.words.number_in.Goals as goal

pub returns-in_default : goal.returns-in_default
returns-in_default c = λ n small is.
    let read = read_number c.args.word.now n c.parse.result small is c.parse.ensures.value.0 in
    let bad = c.in_default.is in
    cc

pub returns-then-ne : goal.returns-then-ne
returns-then-ne c = λ n small is.
    let read = read_number c.args.word.now n c.parse.result small is c.parse.ensures.value.0 in
    let good = c.in-Ok.is in
    let same : c.in-Ok.number ≡ n = cc (read, good) in
    let shown : c.format.result.now ≡ c.args.word.now = c.format.ensures.text ∙ (ap decimal same ∙ sym is) in
    let alike = (bytes_decides c.format.result.now c.args.word.now).1 shown in
    let wrong : true ≡ false = sym c.if-ne.true ∙ (c.ne.ensures ∙ ap not alike) in
    cc

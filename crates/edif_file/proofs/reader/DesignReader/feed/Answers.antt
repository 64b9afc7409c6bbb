use Rattle.std.proofs.Common.{sym, subst}
use Rattle.edif_file.specs.Reader.{Reader, WasFed}
use Rattle.edif_file.proofs.ReaderLemmas.{fed_on, stopped_on}
use Rattle.edif_file.proofs.reader.DesignReader.feed.Goals as goal
use Rattle.edif_file.proofs.reader.DesignReader.feed.Goals.{in-Ok, in-Err-At, in-Err-NoMemory}

pub returns : goal.returns
returns c =
    let old : Reader = record { lexer = c.self.inside.lexer; maker = c.self.inside.maker } in
    let new : Reader = record { lexer = c.feed_to.new.self; maker = c.feed_to.new.out } in
    elim c.match-feed_to.branch [
      | in-Ok w ↦
          let found = w.in-Ok.ensures in
          rw w.result-is (λ fed was. (let W : Reader → Type 0 = λ r. WasFed r fed in fed_on old new fed c.args.piece.now found.read.0 found.read.2 (λ error e. absurd (let both = (found.again error e).0 in cc both)) found.read.1 (subst W (sym c.self.view_is) was)))
      | in-Err-At w ↦
          let found = rw w.in-Err-At.field-0-is at w.in-Err-At.ensures in
          rw w.result-is (λ fed was. (let W : Reader → Type 0 = λ r. WasFed r fed in stopped_on old new fed c.args.piece.now found.read.0 w.in-Err-At.field-0-0 w.in-Err-At.field-0-1 found.read.2 found.err (λ error e. (let both = (found.again error e).0 in cc both)) (subst W (sym c.self.view_is) was)))
      | in-Err-NoMemory w ↦ rw w.result-is tt
    ]

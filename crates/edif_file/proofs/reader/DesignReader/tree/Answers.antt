use Rattle.std.proofs.Common.{◌++◌, List, ℕ, Ok, Err, sym, subst}
use Rattle.edif_spelling_spec.specs.TreeFaults.{IsFile}
use Rattle.edif_spelling_spec.specs.declared.token.Token.{Token}
use Rattle.edif_spec.specs.Files.{IsWrong}
use Rattle.edif_file.specs.Reader.{Reader, WasFed}
use Rattle.edif_file.specs.Steps.{Says, said_by_lexer, said_by_tree}
use Rattle.edif_file.proofs.ReaderLemmas.{end_fault, ended, handed_all, passed, tree_wrong}
use Rattle.edif_file.proofs.reader.DesignReader.tree.Goals as goal

pub returns-in_err-end-clause-fault : goal.returns-in_err-end-clause-fault
returns-in_err-end-clause-fault c =
    let r : Reader = record { lexer = c.self.inside.lexer; maker = c.self.inside.maker } in
    let error = c.in_err-end.field-0.0 in
    let found = c.in_err-end.ensures in
    passed (said_by_lexer error) c.from_residual.result (λ e. (fed : List ℕ) → WasFed c.args.self fed → Says (IsWrong fed) e) c.from_residual.ensures.1
    (λ fed was. (let W : Reader → Type 0 = λ r. WasFed r fed in end_fault r fed found.read.0 error (record { read = found.read.2; again = λ error e. (found.again error e).0 }) (subst W (sym c.self.view_is) was)))

pub returns-in_err-finish-clause-fault : goal.returns-in_err-finish-clause-fault
returns-in_err-finish-clause-fault c =
    let r : Reader = record { lexer = c.self.inside.lexer; maker = c.self.inside.maker } in
    let error = c.in_err-finish.field-0.0 in
    let found = c.in_ok-end.ensures in
    passed (said_by_tree error) c.from_residual-in_err-finish.result (λ e. (fed : List ℕ) → WasFed c.args.self fed → Says (IsWrong fed) e) c.from_residual-in_err-finish.ensures.1
    (λ fed was.
    let W : Reader → Type 0 = λ r. WasFed r fed in
    let read = ended r fed found.read.0 c.in_ok-end.end (record { read = found.read.2; again = λ error e. (found.again error e).0 }) (subst W (sym c.self.view_is) was) in
    tree_wrong fed (read.handed ++ found.read.0) c.in_ok-end.end error read.none read.all read.size
    (handed_all c.finish_to.new.out (read.handed ++ found.read.0) c.in_ok-end.end (Err error) c.in_err-finish.ensures.fed c.in_err-finish.ensures.again (found.read.1 read.handed read.taken)))

pub returns-clause-tree : goal.returns-clause-tree
returns-clause-tree c fed was =
    let r : Reader = record { lexer = c.self.inside.lexer; maker = c.self.inside.maker } in
    let found = c.in_ok-end.ensures in
    let W : Reader → Type 0 = λ r. WasFed r fed in
    let read = ended r fed found.read.0 c.in_ok-end.end (record { read = found.read.2; again = λ error e. (found.again error e).0 }) (subst W (sym c.self.view_is) was) in
    let made = handed_all c.finish_to.new.out (read.handed ++ found.read.0) c.in_ok-end.end (Ok c.in_ok-finish.field-0) c.in_ok-finish.ensures.fed c.in_ok-finish.ensures.again (found.read.1 read.handed read.taken) in
    let F : List Token → Type 0 = λ ts. IsFile ts made.1.0 in
    (made.1.0, made.1.1, subst F (sym read.all) made.1.2)

use Rattle.std.proofs.Common.{rules, None, Some, sym}
use Rattle.std.proofs.lemmas.Bool.{cond-true}
use Rattle.netlist_schema.specs.Ident.{IsIdentifier}
use Rattle.edif_spelling_spec.specs.Names.{is_name}
use Rattle.edif_spelling_spec.proofs.RowLemmas.{is_name-from_identifier}
use Rattle.edif_lexer.proofs.words.name.Goals as goal

pub returns-then-all-clause-value : goal.returns-then-all-clause-value
returns-then-all-clause-value c =
    let named : IsIdentifier c.args.bytes.now = search rules in
    sym (cond-true (is_name c.args.bytes.now) (Some c.args.bytes.now) None (is_name-from_identifier c.args.bytes.now named))

use Rattle.std.proofs.Common.{List, ℕ}
use Rattle.edif_spec.specs.Files.{IsWrong}
use Rattle.edif_file.specs.Reader.{WasFed}
use Rattle.edif_file.specs.Steps.{Says, said_by_reader}
use Rattle.edif_spec.proofs.BytesLemmas.{file_of}
use Rattle.edif_file.proofs.ReaderLemmas.{passed, reader_wrong}
use Rattle.edif_file.proofs.reader.DesignReader.finish.Goals as goal

pub returns-in_err-read_design-clause-fault : goal.returns-in_err-read_design-clause-fault
returns-in_err-read_design-clause-fault c =
    let error = c.in_err-read_design.field-0.0 in
    passed (said_by_reader error) c.from_residual-in_err-read_design.result (λ e. (fed : List ℕ) → WasFed c.args.self fed → Says (IsWrong fed) e) c.from_residual-in_err-read_design.ensures.1
    (λ fed was.
    let read = c.in_ok-tree.ensures.tree fed was in
    reader_wrong fed read.0 error (c.in_ok-tree.ensures.none fed was) read.2 (c.in_err-read_design.ensures.reads read.0 read.1))

pub returns-clause-design : goal.returns-clause-design
returns-clause-design c fed was size =
    let read = c.in_ok-tree.ensures.tree fed was in
    file_of fed read.0 c.in_ok-read_design.field-0 size (c.in_ok-tree.ensures.none fed was) read.2 (c.in_ok-read_design.ensures.reads read.0 read.1)

use Rattle.std.proofs.Common.{rules, ◌∙◌}
use Rattle.netdb_desk.proofs.Lines.{bad_line, no_op}
use Rattle.netdb_desk.proofs.line.op_of.Goals as goal

pub returns-in-Ok-parse : goal.returns-in-Ok-parse
returns-in-Ok-parse c =
    (search rules, no_op c.args.line.now c.as_slice.result.now c.in-Ok-parse.script c.lines.result.now (c.as_slice.ensures.value ∙ c.in-Ok.ensures) c.lines.ensures.value c.in-Ok-parse.ensures.ok c.in-None.ensures)

pub returns-in-Err-BadLine : goal.returns-in-Err-BadLine
returns-in-Err-BadLine c = (
  search rules,
  bad_line c.script_or_bad.ensures c.args.line.now c.as_slice.result.now c.in-Err-BadLine.field-0-0 (c.as_slice.ensures.value ∙ c.in-Ok.ensures)
      (c.in-Err-BadLine.ensures.bad c.in-Err-BadLine.field-0-0 c.in-Err-BadLine.field-0-is),
)

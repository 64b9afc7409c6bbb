use Rattle.std.proofs.Common.{◌≡◌, ◌+◌, ◌*◌, ◌/◌, ℕ, length, take, true, subst, arith}
use Rattle.std.specs.List.{list_all}
use Rattle.netlist_schema.specs.Ident.{is_identifier_byte}
use Rattle.byte_lanes.proofs.LaneLemmas.{joined_fronts}
use Rattle.edif_lexer.proofs.runs.name_bytes.Goals as goal

pub returns-then-run-lt-LANES-clause-all : goal.returns-then-run-lt-LANES-clause-all
returns-then-run-lt-LANES-clause-all c = joined_fronts is_identifier_byte (c.loop-block.block * 16) c.name_run-run.result c.args.bytes.now c.loop-block.invariant c.name_run-run.ensures.1

pub loop-block-preserved : goal.loop-block-preserved
loop-block-preserved c =
    let P : ℕ → Type 0 = λ n. list_all is_identifier_byte (take n c.args.bytes.now) ≡ true in
    let e : c.loop-block.block * 16 + c.name_run-run.result ≡ (c.loop-block.block + 1) * 16 = omega (arith, c.if-run-lt-LANES.false, c.name_run-run.ensures.0) in
    subst P e (joined_fronts is_identifier_byte (c.loop-block.block * 16) c.name_run-run.result c.args.bytes.now c.loop-block.invariant c.name_run-run.ensures.1)

pub returns-clause-all : goal.returns-clause-all
returns-clause-all c =
    let P : ℕ → Type 0 = λ n. list_all is_identifier_byte (take (n * 16) c.args.bytes.now) ≡ true in
    let e : c.loop-block.block ≡ length c.args.bytes.now / 16 = omega (arith, c.loop-block.auto.block-end, c.loop-block-test.false) in
    joined_fronts is_identifier_byte (length c.args.bytes.now / 16 * 16) c.few_names.result c.args.bytes.now (subst P e c.loop-block.invariant) c.few_names.ensures.all

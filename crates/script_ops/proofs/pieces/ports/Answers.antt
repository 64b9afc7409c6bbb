use Rattle.std.proofs.Common.{List, [], map}
use Rattle.edit_spec.specs.declared.ops.PortDecl.{PortDecl}
use Rattle.script_spec.specs.Lines.{port_piece}
use Rattle.script_spec.specs.Pieces.{SpellPieces}
use Rattle.script_words.specs.Reading.{lent}
use Rattle.script_words.proofs.Answering.{hand_on}
use Rattle.script_ops.proofs.PieceLemmas.{all_made, leaves_more, makes_more, no_port}
use Rattle.script_ops.proofs.pieces.ports.Goals as goal

pub returns-in_err-port : goal.returns-in_err-port
returns-in_err-port c =
    hand_on (λ (decls : List PortDecl). SpellPieces (lent c.args.words.now) (map port_piece decls)) ((decls : List PortDecl) → ¬ SpellPieces (lent c.args.words.now) (map port_piece decls))
    c.from_residual.result c.in_err-port.field-0.0 c.from_residual.ensures.1
    (λ b. no_port c.args.words.now c.loop-word.word-index (record { ref_ptr = (0, 0); now = [] }) c.loop-word-test.true c.loop-word.invariant.back (c.in_err-port.ensures b))

pub loop-word-preserved : goal.loop-word-preserved
loop-word-preserved c = record {
  make = makes_more c.args.words.now c.loop-word.word-index (record { ref_ptr = (0, 0); now = [] }) c.loop-word.decls.items c.push.new.self.items c.in_ok-port.field-0 c.loop-word-test.true c.in_ok-push.ensures.items
      c.in_ok-port.ensures c.loop-word.invariant.make;
  back = leaves_more c.args.words.now c.loop-word.word-index (record { ref_ptr = (0, 0); now = [] }) c.loop-word-test.true c.loop-word.invariant.back;
}

pub returns : goal.returns
returns c = all_made c.args.words.now c.loop-word.word-index c.loop-word.decls.items c.of.result c.loop-word-test.false c.of.ensures c.loop-word.invariant.make

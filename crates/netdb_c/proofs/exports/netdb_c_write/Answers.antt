use Rattle.std.proofs.Common.{◌∙◌, ap}
use Rattle.std.proofs.lemmas.Int.{to_z-of_z}
use Rattle.std.specs.Int.{w32}
use Rattle.netdb_calls.specs.Descriptors.{fresh}
use Rattle.netdb_c.proofs.exports.netdb_c_write.Goals as goal

pub returns-clause-answers : goal.returns-clause-answers
returns-clause-answers c = record {
  first = c.new-out.result;
  last = c.write_held.new.out;
  status = c.write_held.result;
  begun = c.new-out.ensures ∙ ap fresh (to_z-of_z w32 c.args.descriptor c.ranges.descriptor);
  wrote = c.write_held.ensures.wrote;
  refused = c.write_held.ensures.wrong_use;
  fault = c.write_held.ensures.fault;
  number = c.number.ensures;
}

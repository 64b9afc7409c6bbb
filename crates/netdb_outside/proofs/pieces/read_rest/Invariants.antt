use Rattle.std.proofs.Common.{◌≡◌, ◌<◌, ◌+◌, ℕ, List, length, vec_len}
use Rattle.netdb_outside.specs.Outside.{SameFiles, Takes}
use Rattle.netdb_outside.specs.Pieces.{TakesIn}
use Rattle.netdb_outside.proofs.VisitLemmas.{IsReadSoFar}
use Rattle.netdb_outside.proofs.pieces.read_rest.Given as goal

abbrev pub invariant-loop-n : goal.invariant-loop-n
invariant-loop-n g l = record {
  files : SameFiles (g.F.Files.told l.fn.files) (g.F.Files.told l.files);
  bytes : (bytes : List ℕ) × (length bytes + l.left ≡ l.limit) × Takes (g.F.Files.told l.fn.files) (g.F.Files.told l.files) bytes × TakesIn (g.T.Taker.took l.fn.taker) (g.T.Taker.took l.taker) bytes;
  faults : g.F.Files.faults l.files ≡ g.F.Files.faults l.fn.files;
  room : 0 < vec_len l.buf;
  visits : IsReadSoFar (g.F.Files.visits l.fn.files) (g.F.Files.visits l.files) l.left l.limit;
}

abbrev pub decreases-loop-n : goal.decreases-loop-n
decreases-loop-n g l = l.left

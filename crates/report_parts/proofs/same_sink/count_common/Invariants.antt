use Rattle.std.proofs.Common.{◌≡◌, ◌≤◌, length, take}
use Rattle.report_parts.proofs.same_sink.count_common.Given as goal

-- the bytes so far are the same
abbrev pub invariant-loop-at : goal.invariant-loop-at
invariant-loop-at l = record {
  in_text : l.at ≤ length l.text;
  in_piece : l.at ≤ length l.piece;
  same : take l.at l.text ≡ take l.at l.piece;
}

use Rattle.std.proofs.Common.{◌≡◌, ◌<◌, ◌≤◌, ◌⊎◌, ℕ, true, length, get_or}
use Rattle.design_model.specs.Labels.{near}
use Rattle.design_model.proofs.labels.least_label.Given as goal

abbrev pub invariant-loop-other : goal.invariant-loop-other
invariant-loop-other g l = record {
  own : l.least ≤ get_or l.labels l.place 0;
  least : (k : ℕ) → k < l.other → near (g.S.Shown.design l.design) l.root l.nets l.place k ≡ true → l.least ≤ get_or l.labels k 0;
  reached : (k : ℕ) × (k < length l.nets) × ((k ≡ l.place) ⊎ (near (g.S.Shown.design l.design) l.root l.nets l.place k ≡ true)) × (l.least ≡ get_or l.labels k 0);
}

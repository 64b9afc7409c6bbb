-- The text of a summary, piece by piece.
use Rattle.std.specs.Prelude.{ℕ, List, [], ◌∷◌, ◌++◌, codes}
use Rattle.std.specs.Fmt.{decimal}
use Rattle.gen_spec.specs.declared.summary.Walked.{Walked}
use Rattle.gen_spec.specs.declared.summary.Summary.{Summary}

abbrev pub walk_pieces : Walked → List ℕ
walk_pieces w =
    codes "version " ++ (decimal w.version
    ++ (codes " instances " ++ (decimal w.counts.instances
    ++ (codes " nets " ++ (decimal w.counts.nets
    ++ (codes " pins " ++ (decimal w.counts.pins
    ++ (codes " properties " ++ (decimal w.counts.properties ++ 10 ∷ [])))))))))

-- with the lines of the walks
abbrev pub summary_pieces : Summary → List ℕ → List ℕ → List ℕ
summary_pieces s first last =
    codes "gen " ++ (decimal s.number
    ++ (10 ∷ codes "commits " ++ (decimal s.commits
    ++ (10 ∷ codes "collected " ++ (decimal s.collected
    ++ (10 ∷ codes "events " ++ (decimal s.events ++ (10 ∷ [] ++ (first ++ last)))))))))

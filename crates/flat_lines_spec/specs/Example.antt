-- Worked designs, flattened and shown.
use Rattle.std.specs.Prelude.{◌≡◌, ℕ, List, [], ◌∷◌, ◌++◌, Some, None, codes}
use Rattle.std.specs.List.{flat_map}
use Rattle.flat_spec.specs.ExampleCounter.{counter}
use Rattle.flat_spec.specs.ExampleFeedthrough.{board}
use Rattle.flat_spec.specs.ExampleNotes.{pair}
use Rattle.flat_lines_spec.specs.Lines.{flattening_text}

-- lines, each with a line feed at its end
abbrev pub lines : List (List ℕ) → List ℕ
lines = flat_map (λ line. line ++ 10 ∷ [])

-- the counter: its top with three nets and three bits of ports, and two leaves
abbrev pub CounterIsShown : Type 0
CounterIsShown = flattening_text counter None ≡ lines (
    codes "inst / work counter part=\"xc7a35t\""
    ∷ codes "net / clk / clk"
    ∷ codes "net / q_0_ / q_0_"
    ∷ codes "net / p_0_in / p_0_in"
    ∷ codes "pin / clk 0 / clk"
    ∷ codes "pin / q 0 -"
    ∷ codes "pin / q 1 / q_0_"
    ∷ codes "inst /q_reg_0_ hdi_primitives FDRE INIT=\"1'b0\""
    ∷ codes "pin /q_reg_0_ Q 0 / q_0_"
    ∷ codes "pin /q_reg_0_ C 0 / clk"
    ∷ codes "pin /q_reg_0_ D 0 / p_0_in"
    ∷ codes "inst /q_i_1 hdi_primitives LUT1 INIT=\"2'h1\""
    ∷ codes "pin /q_i_1 O 0 / p_0_in"
    ∷ codes "pin /q_i_1 I0 0 / q_0_"
    ∷ codes "end"
    ∷ [])

-- of its fourteen items the first two and `more`, where two are the limit, and all and `end`, where fourteen are
abbrev pub CounterIsCut : Type 0
CounterIsCut = flattening_text counter (Some 2) ≡ lines (
    codes "inst / work counter part=\"xc7a35t\""
    ∷ codes "net / clk / clk"
    ∷ codes "more"
    ∷ [])

abbrev pub CounterIsNotCut : Type 0
CounterIsNotCut = flattening_text counter (Some 14) ≡ flattening_text counter None

-- the board with a feedthrough: all its nets are one
abbrev pub BoardIsShown : Type 0
BoardIsShown = flattening_text board None ≡ lines (
    codes "inst / w board"
    ∷ codes "net / left / left"
    ∷ codes "net / right / left"
    ∷ codes "inst /u w bridge"
    ∷ codes "net /u through / left"
    ∷ codes "inst /v w socket"
    ∷ codes "net /v feed / left"
    ∷ codes "inst /v/l w lamp"
    ∷ codes "pin /v/l a 0 / left"
    ∷ codes "end"
    ∷ [])

-- the pair: the note gives the table in u1 another value than that in u3
abbrev pub PairIsShown : Type 0
PairIsShown = flattening_text pair None ≡ lines (
    codes "inst / w pair"
    ∷ codes "inst /u1 w block"
    ∷ codes "inst /u1/u2 w table INIT=\"1\""
    ∷ codes "inst /u3 w block"
    ∷ codes "inst /u3/u2 w table INIT=\"0\""
    ∷ codes "end"
    ∷ [])

-- Worked tables and fields.
use Rattle.std.specs.Prelude.{◌≡◌, [], ◌∷◌, ◌++◌, codes}
use Rattle.flat_spec.specs.ExampleCounter.{counter}
use Rattle.flat_lines_spec.specs.Example.{lines}
use Rattle.flat_csv_spec.specs.Fields.{row}
use Rattle.flat_csv_spec.specs.PinTable.{pin_table}

-- the counter: its top with two ports of three bits, one of which no net joins, and two leaves
abbrev pub CounterTableIsShown : Type 0
CounterTableIsShown = pin_table counter ≡ lines (
    codes "path,port,bit,net_path,net"
    ∷ codes "/,clk,0,/,clk"
    ∷ codes "/,q,0,,"
    ∷ codes "/,q,1,/,q_0_"
    ∷ codes "/q_reg_0_,Q,0,/,q_0_"
    ∷ codes "/q_reg_0_,C,0,/,clk"
    ∷ codes "/q_reg_0_,D,0,/,p_0_in"
    ∷ codes "/q_i_1,O,0,/,p_0_in"
    ∷ codes "/q_i_1,I0,0,/,q_0_"
    ∷ [])

-- a plain field, one with a comma, and one with a quote
abbrev pub FieldsAreQuoted : Type 0
FieldsAreQuoted = row (codes "a b" ∷ codes "a,b" ∷ codes "\"" ∷ []) ≡ codes "a b,\"a,b\",\"\"\"\"" ++ 10 ∷ []

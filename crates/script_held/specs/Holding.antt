-- What a script holds between two of its lines, in the code and in its session.
use Rattle.std.specs.Prelude.{Bool, true, false, Option, Some, None, Result, Ok, Err}
use Rattle.edit_tx.specs.Facts.{PinFacts}
use Rattle.netlist_pages.specs.declared.memory.NoMemory.{NoMemory}
use Rattle.script_spec.specs.Session.{Held as SessionHeld, Nothing, OnPin, OffPin, InBlock}
use Rattle.db_share.specs.Passes.{Shared, Pass, HasPin}
use Rattle.script_held.specs.declared.held.Block.{Block}
use Rattle.script_held.specs.declared.held.Held.{Held}
use Rattle.script_held.specs.declared.held.Held.TheVariants as held
use Rattle.script_held.specs.declared.held.Stop.{Stop}
use Rattle.script_held.specs.declared.held.Stop.TheVariants.{LogFull, NoMemory as StopNoMemory}

-- a transaction on its pin and version, with the retries left and the operations so far
abbrev pub block_of : Block → SessionHeld
block_of block = InBlock block.tx.pin.number block.tx.pin.version block.retries block.tx.ops

-- what is held, as the session has it
abbrev pub held_of : Held → SessionHeld
held_of held.Nothing = Nothing
held_of (held.OnPin pin) = OnPin pin.number pin.version
held_of held.OffPin = OffPin
held_of (held.InBlock block) = block_of block

-- the pin that is held, where one is
abbrev pub pin_held : Held → Option PinFacts
pin_held held.Nothing = None
pin_held (held.OnPin pin) = Some pin
pin_held held.OffPin = None
pin_held (held.InBlock block) = Some block.tx.pin

-- the pin that is held is a live one of the pass
abbrev pub IsHeldBy : Shared → Pass → Held → Type 0
IsHeldBy db pass held.Nothing = Unit {0}
IsHeldBy db pass (held.OnPin pin) = HasPin db pass pin
IsHeldBy db pass held.OffPin = Unit {0}
IsHeldBy db pass (held.InBlock block) = HasPin db pass block.tx.pin

-- what is held behind a line, whose words were said or not
abbrev pub held_after : {A E : Type 0} → Result A E → Held → Result Held Stop
held_after (Ok a) held = Ok held
held_after (Err e) held = Err (StopNoMemory held)

-- the end by a full log, whose word was said or not
abbrev pub filled : {A E : Type 0} → Result A E → Held → Stop
filled (Ok a) held = LogFull held
filled (Err e) held = StopNoMemory held

-- what is still held where the lines have ended
abbrev pub left_held : Result Held Stop → Held
left_held (Ok held) = held
left_held (Err (LogFull held)) = held
left_held (Err (StopNoMemory held)) = held

-- whether the log was full, where memory was not refused
abbrev pub ended_full : Result Held Stop → Result Bool NoMemory
ended_full (Ok held) = Ok false
ended_full (Err (LogFull held)) = Ok true
ended_full (Err (StopNoMemory held)) = Err (record {})

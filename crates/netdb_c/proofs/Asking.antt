-- What asking for the length of a text tells.
use Rattle.std.proofs.Common.{◌≡◌, ap, ◌∙◌, length, Option, None, Some}
use Rattle.netdb_calls.specs.declared.calls.Call.TheVariants as asks
use Rattle.call_status.specs.declared.told.Told.{Told}
use Rattle.netdb_calls.specs.declared.opened.Opened.{Opened}
use Rattle.netdb_c.specs.Exports.{HasAsked, text_of}

pub measured : (old new : Option Opened) (answer : Told) → HasAsked asks.Length old new answer → (new ≡ old) × (answer.number ≡ length (text_of old))
measured None new answer is = (is.0, ap (λ (a : Told). a.number) is.1)
measured (Some opened) new answer is = (is.1 ∙ ap Some is.2.0, ap (λ (a : Told). a.number) is.2.1)

-- Which words are a command.
use Rattle.std.specs.Prelude.{◌≡◌, ◌≤◌, ◌<◌, ◌^◌, ℕ, List, [], ◌∷◌, Some, None, length, map, codes, string_bytes, String}
use Rattle.std.specs.Fmt.{decimal}
use Rattle.std.specs.declared.alloc.Global.{Global}
use Rattle.netdb_spec.specs.declared.command.Command.{Command}
use Rattle.netdb_spec.specs.declared.command.Command.TheVariants as commands
use Rattle.netdb_spec.specs.declared.command.Wanted.{Wanted}
use Rattle.netdb_spec.specs.declared.command.Wanted.TheVariants.{Text, Items, Pins, Used, Spread, Findings}
use Rattle.netdb_spec.specs.declared.limits.TheConstants.{MOST_WORKERS}
use Rattle.gen_spec.specs.declared.limits.TheConstants.{MOST_SIZE}
use Rattle.script_spec.specs.declared.limits.TheConstants.{MOST_SCRIPTS}

-- the words, as bytes
abbrev pub spelled : List (String Global) → List (List ℕ)
spelled words = map string_bytes words

-- what is asked for
pub data Request : Type 0 where
  -- a text that is made of the design of the file of this name
  Show : List ℕ → Wanted → Request
  -- the report of a run of the scripts of the files of these names, on the design of the file of the first name
  Run : List ℕ → List (List ℕ) → Request
  -- the summary of the generated design and run of this size
  Generate : ℕ → Request
  -- the report of such a run, and behind it the uses of its last version
  Uses : List ℕ → List (List ℕ) → Request
  -- whether the bytes of the file of the second name are the report of a run of the scripts of the files behind it, on the design of the
  -- file of the first
  Check : List ℕ → List ℕ → List (List ℕ) → Request

-- a number of items that may be given as a limit
abbrev pub IsLimit : ℕ → Type 0
IsLimit n = (1 ≤ n) × (n < 2 ^ 32)

-- a number of workers that may be given
abbrev pub AreWorkers : ℕ → Type 0
AreWorkers n = (1 ≤ n) × (n ≤ MOST_WORKERS)

-- a size of a generated design
abbrev pub IsSize : ℕ → Type 0
IsSize n = (1 ≤ n) × (n ≤ MOST_SIZE)

-- as many scripts as a run may have
abbrev pub IsCrew : List (List ℕ) → Type 0
IsCrew scripts = (1 ≤ length scripts) × (length scripts ≤ MOST_SCRIPTS)

-- the number of workers is as it may be, where one is given
abbrev pub IsGoodWanted : Wanted → Type 0
IsGoodWanted (Spread workers) = AreWorkers workers
IsGoodWanted wanted = Unit {0}

-- the numbers of a request are as they may be, and so is the number of its scripts
abbrev pub IsGood : Request → Type 0
IsGood (Show name (Items (Some limit))) = IsLimit limit
IsGood (Show name wanted) = IsGoodWanted wanted
IsGood (Run name scripts) = IsCrew scripts
IsGood (Generate n) = IsSize n
IsGood (Uses name scripts) = IsCrew scripts
IsGood (Check name report scripts) = IsCrew scripts

-- The words of a request. Behind `write`, `flat`, `csv` and `erc` stands the name of a file: its text, the items of its flattening, its
-- pin table, what an electrical check finds. `used` behind `write` and a name asks for the text without what the top does not use;
-- `limit` and a number behind `flat` and a name for at most so many items; `workers` and a number for all of them, made by so many
-- workers. Behind `run` and `uses` stand the name of a design file and those of scripts; behind `check` the name of a report stands
-- between these. Behind `gen` stands a size. Numbers are in decimal digits, without a sign and without a zero before them.
abbrev pub words_of : Request → List (List ℕ)
words_of (Show name Text) = codes "write" ∷ name ∷ []
words_of (Show name (Items None)) = codes "flat" ∷ name ∷ []
words_of (Show name (Items (Some limit))) = codes "flat" ∷ name ∷ codes "limit" ∷ decimal limit ∷ []
words_of (Show name Pins) = codes "csv" ∷ name ∷ []
words_of (Show name Used) = codes "write" ∷ name ∷ codes "used" ∷ []
words_of (Show name (Spread workers)) = codes "flat" ∷ name ∷ codes "workers" ∷ decimal workers ∷ []
words_of (Show name Findings) = codes "erc" ∷ name ∷ []
words_of (Run name scripts) = codes "run" ∷ name ∷ scripts
words_of (Generate n) = codes "gen" ∷ decimal n ∷ []
words_of (Uses name scripts) = codes "uses" ∷ name ∷ scripts
words_of (Check name report scripts) = codes "check" ∷ name ∷ report ∷ scripts

-- the words ask for this: it is as it may be, and they are its words
abbrev pub Asks : List (List ℕ) → Request → Type 0
Asks words request = IsGood request × (words ≡ words_of request)

-- the words are a command
abbrev pub IsCommand : List (List ℕ) → Type 0
IsCommand words = (request : Request) × Asks words request

-- what a command asks for
abbrev pub request_of : Command → Request
request_of (commands.Show name wanted) = Show name.now wanted
request_of (commands.Run name scripts) = Run name.now (spelled scripts.now)
request_of (commands.Generate size) = Generate size
request_of (commands.Uses name scripts) = Uses name.now (spelled scripts.now)
request_of (commands.Check name report scripts) = Check name.now report.now (spelled scripts.now)

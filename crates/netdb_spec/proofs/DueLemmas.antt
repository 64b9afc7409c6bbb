-- The status comes that the files ask for.
use Rattle.std.proofs.Common.{◌≡◌, ◌≤◌, ◌<◌, ◌+◌, ◌⊎◌, inl, inr, List, [], ◌∷◌, ◌++◌, length, Option, None, Some, refl, ap, sym, ◌∙◌, subst, arith, append_assoc, append-nil}
use Prim.Native.Nat.{ℕ, suc}
use Rattle.std.specs.Prelude.{IfSome, IsSomeAnd, codes, option_map}
use Rattle.std.specs.List.{All}
use Rattle.netlist_schema.specs.declared.limits.TheConstants.{MOST_FILE_BYTES}
use Rattle.netdb_outside.specs.Outside.{Folder, SameFiles, file_named}
use Rattle.edif_spec.specs.Design.{Design}
use Rattle.script_spec.specs.Headline.{IsFull, IsWhole, RoomSuffices, SomeFull}
use Rattle.script_spec.specs.Laws.{OneBadLine, ScriptOrBad}
use Rattle.script_spec.specs.Report.{SessionResult}
use Rattle.script_spec.specs.ScriptText.{Parts, IsFirstBad, steps_of}
use Rattle.script_spec.specs.Session.{Ending, Whole, Full}
use Rattle.script_spec.specs.declared.script.Step.{Step}
use Rattle.script_spec.proofs.OneScript.{one_script}
use Rattle.edif_spec.specs.Files.{IsDesignFile, IsNoDesignFile, IsWrong}
use Rattle.edif_spec.proofs.BytesLemmas.{not_wrong, one_design}
use Rattle.netdb_spec.specs.Command.{Request, Show, Run, Generate, Uses, Check}
use Rattle.netdb_spec.specs.Due.{AreDueOf, Comes, Files, IsBadFile, IsDue, IsDueIn, IsDueOf, IsDueOfCheck, IsDueOfDesign, IsDueOfFile, IsDueOfReport, IsDueOfRun, IsExcuse, IsServed}
use Rattle.netdb_spec.specs.Checked.{CheckGives, VerdictGives}
use Rattle.netdb_spec.specs.Gives.{OutputGives, RunGives, SummaryGives, TextGives, UsesGive}
use Rattle.netdb_spec.specs.Outcome.{Gives, ReportGives, ScriptsGive}
use Rattle.netdb_spec.specs.Refusals.{RefusesDesign, RefusesFile, RefusesScript, RefusesScripts}
use Rattle.netdb_spec.specs.Told.{AreRead, IsBadScript, IsLarge, IsScriptFile}
use Rattle.netdb_spec.specs.declared.limits.TheConstants.{MOST_REPORT_BYTES}
use Rattle.script_spec.specs.declared.limits.TheConstants.{MOST_SCRIPT_BYTES}
use Rattle.netdb_spec.specs.declared.command.Wanted.{Wanted}
use Rattle.netdb_spec.specs.declared.status.Status.{Status}
use Rattle.netdb_spec.specs.declared.status.Status.TheVariants as status

-- what is known of scripts: a text is a script or has a bad line, it has one first bad line, and scripts that have room meet no full log
record Known : Type 0 where
  apart : ScriptOrBad
  once : OneBadLine
  room : RoomSuffices

-- ---- what an excuse leaves

excused_output : (wanted : Wanted) (d : Design) (result : Status) → IsExcuse result → IsDueOf wanted d result
excused_output wanted d result h = record { no_top = λ lacks. inr h; served = λ has. inr (inr h) }

excused_run : (d : Design) (scripts : List (List Step)) (result : Status) → IsExcuse result → IsDueOfRun d scripts result
excused_run d scripts result h = record { no_top = λ some none. inr h; served = λ can room. inr (inr h); run = λ can. inr (inr (inr h)) }

excused_check : (d : Design) (scripts : List (List Step)) (result : Status) → IsExcuse result → IsDueOfCheck d scripts result
excused_check d scripts result h = record { no_top = λ some none. inr h; served = λ can. inr (inr h) }

excused_file : (found : Option (List ℕ)) (word limit : ℕ) (Within : List ℕ → Type 0) (result : Status) → IsExcuse result → ((bytes : List ℕ) → Within bytes) → IsDueOfFile found word limit Within result
excused_file None word limit Within result h all = inr h
excused_file (Some bytes) word limit Within result h all = (λ large. inr h, λ size. all bytes)

excused_scripts : (files : Files) (Then : List (List Step) → Type 0) (before : List (List Step)) (names : List (List ℕ)) (word : ℕ) (result : Status) → IsExcuse result → ((scripts : List (List Step)) → Then scripts)
    → AreDueOf files Then before names word result
excused_scripts files Then before [] word result h all = all before
excused_scripts files Then before (name ∷ names) word result h all =
    excused_file (file_named files name) word MOST_SCRIPT_BYTES
    (λ bytes. ((line : ℕ) → IsBadScript line bytes → Comes (status.BadScript word line) result)
    × ((steps : List Step) → IsScriptFile bytes steps → AreDueOf files Then (before ++ steps ∷ []) names (word + 1) result))
    result h (λ bytes. (λ line bad. inr h, λ steps file. excused_scripts files Then (before ++ steps ∷ []) names (word + 1) result h all))

excused_report : (files : Files) (d : Design) (report : List ℕ) (names : List (List ℕ)) (result : Status) → IsExcuse result → IsDueOfReport files d report names result
excused_report files d report names result h =
    excused_file (file_named files report) 2 MOST_REPORT_BYTES (λ bytes. AreDueOf files (λ scripts. IsDueOfCheck d scripts result) [] names 3 result) result h
    (λ bytes. excused_scripts files (λ scripts. IsDueOfCheck d scripts result) [] names 3 result h (λ scripts. excused_check d scripts result h))

-- ---- one file

missing_file : (found : Option (List ℕ)) (word limit : ℕ) (Within : List ℕ → Type 0) (w : ℕ) → w ≡ word → found ≡ None → IsDueOfFile found word limit Within (status.Missing w)
missing_file None word limit Within w same none = inl (ap (λ (v : ℕ). status.Missing v) same)
missing_file (Some bytes) word limit Within w same none = absurd (cc none)

large_file : (found : Option (List ℕ)) (word limit : ℕ) (Within : List ℕ → Type 0) (w : ℕ) → w ≡ word → IsSomeAnd found (IsLarge limit) → IsDueOfFile found word limit Within (status.TooLarge w)
large_file None word limit Within w same large = absurd large
large_file (Some bytes) word limit Within w same large = (λ also. inl (ap (λ (v : ℕ). status.TooLarge v) same), λ size. absurd (omega (arith, large, size)))

small_file : (found : Option (List ℕ)) (word limit : ℕ) (P Within : List ℕ → Type 0) (result : Status) → IsSomeAnd found (λ bytes. (length bytes ≤ limit) × P bytes)
    → ((bytes : List ℕ) → P bytes → Within bytes) → IsDueOfFile found word limit Within result
small_file None word limit P Within result h f = absurd h
small_file (Some bytes) word limit P Within result h f = (λ large. absurd (small_is_not_large h.0 large), λ size. f bytes h.1)
  where
    small_is_not_large : length bytes ≤ limit → limit < length bytes → ⊥
    small_is_not_large size large = absurd (omega (arith, size, large))

file_refused : (folder : Folder) (name : List ℕ) (word limit : ℕ) (Within : List ℕ → Type 0) (result : Status) → RefusesFile (Some folder) name word limit result
    → (IsExcuse result → (bytes : List ℕ) → Within bytes) → IsDueOfFile (file_named folder.files name) word limit Within result
file_refused folder name word limit Within status.Ok h all = absurd h
file_refused folder name word limit Within status.Usage h all = absurd h
file_refused folder name word limit Within (status.Missing w) h all = missing_file (file_named folder.files name) word limit Within w h.0 h.1
file_refused folder name word limit Within (status.ReadFault w) h all = excused_file (file_named folder.files name) word limit Within (status.ReadFault w) tt (all tt)
file_refused folder name word limit Within status.WriteFault h all = absurd h
file_refused folder name word limit Within (status.BadEdif fault) h all = absurd h
file_refused folder name word limit Within (status.BadScript w line) h all = absurd h
file_refused folder name word limit Within (status.TooLarge w) h all = large_file (file_named folder.files name) word limit Within w h.0 h.1
file_refused folder name word limit Within status.NoTop h all = absurd h
file_refused folder name word limit Within status.LogFull h all = absurd h
file_refused folder name word limit Within status.NoMemory h all = excused_file (file_named folder.files name) word limit Within status.NoMemory tt (all tt)

-- ---- the design file

-- what the bytes of a design file ask for
abbrev Asked : (Design → Type 0) → Status → List ℕ → Type 0
Asked Then result bytes = (IsNoDesignFile bytes → IsBadFile result ⊎ IsExcuse result) × ((d : Design) → IsDesignFile bytes d → Then d)

sized : (found : Option (List ℕ)) (d : Design) → IsSomeAnd found (λ bytes. IsDesignFile bytes d) → IsSomeAnd found (λ bytes. (length bytes ≤ MOST_FILE_BYTES) × IsDesignFile bytes d)
sized None d h = h
sized (Some bytes) d h = (h.size, h)

design_due : (files : Files) (name : List ℕ) (Then : Design → Type 0) (d : Design) (result : Status) → IsSomeAnd (file_named files name) (λ bytes. IsDesignFile bytes d) → Then d
    → IsDueOfDesign files name Then result
design_due files name Then d result file holds =
    small_file (file_named files name) 1 MOST_FILE_BYTES (λ bytes. IsDesignFile bytes d) (Asked Then result) result (sized (file_named files name) d file)
    (λ bytes h. (λ none. absurd (none d h), λ e other. subst Then (one_design bytes d e h other) holds))

excused_design : (Then : Design → Type 0) (result : Status) → IsExcuse result → ((d : Design) → Then d) → (bytes : List ℕ) → Asked Then result bytes
excused_design Then result h all bytes = (λ none. inr h, λ d file. all d)

design_refused : (folder : Folder) (name : List ℕ) (Then : Design → Type 0) (result : Status) → RefusesDesign (Some folder) name result
    → (IsExcuse result → (d : Design) → Then d) → IsDueOfDesign folder.files name Then result
design_refused folder name Then status.Ok h all = absurd h
design_refused folder name Then status.Usage h all = absurd h
design_refused folder name Then (status.Missing w) h all = file_refused folder name 1 MOST_FILE_BYTES (Asked Then (status.Missing w)) (status.Missing w) h (λ none. absurd none)
design_refused folder name Then (status.ReadFault w) h all =
    file_refused folder name 1 MOST_FILE_BYTES (Asked Then (status.ReadFault w)) (status.ReadFault w) h (λ e. excused_design Then (status.ReadFault w) e (all e))
design_refused folder name Then status.WriteFault h all = absurd h
design_refused folder name Then (status.BadEdif fault) h all =
    small_file (file_named folder.files name) 1 MOST_FILE_BYTES (λ bytes. IsWrong bytes fault) (Asked Then (status.BadEdif fault)) (status.BadEdif fault) h.0
    (λ bytes wrong. (λ none. inl tt, λ d file. absurd (not_wrong bytes d fault file wrong)))
design_refused folder name Then (status.BadScript w line) h all = absurd h
design_refused folder name Then (status.TooLarge w) h all = file_refused folder name 1 MOST_FILE_BYTES (Asked Then (status.TooLarge w)) (status.TooLarge w) h (λ none. absurd none)
design_refused folder name Then status.NoTop h all = absurd h
design_refused folder name Then status.LogFull h all = absurd h
design_refused folder name Then status.NoMemory h all =
    file_refused folder name 1 MOST_FILE_BYTES (Asked Then status.NoMemory) status.NoMemory h (λ e. excused_design Then status.NoMemory e (all e))

-- ---- scripts

-- what the bytes of a script's file ask for
abbrev AskedBy : ℕ → (List Step → Type 0) → Status → List ℕ → Type 0
AskedBy word Then result bytes = ((line : ℕ) → IsBadScript line bytes → Comes (status.BadScript word line) result) × ((steps : List Step) → IsScriptFile bytes steps → Then steps)

script_sized : (found : Option (List ℕ)) (steps : List Step) → IsSomeAnd found (λ bytes. IsScriptFile bytes steps) → IsSomeAnd found (λ bytes. (length bytes ≤ MOST_SCRIPT_BYTES) × IsScriptFile bytes steps)
script_sized None steps h = h
script_sized (Some bytes) steps h = (h.size, h)

-- a file is the text of one script
one_text : (bytes : List ℕ) (a b : List Step) → IsScriptFile bytes a → IsScriptFile bytes b → a ≡ b
one_text bytes a b h k = h.are ∙ (ap (λ (script : Parts). steps_of script.lines) (one_script bytes h.script k.script h.text k.text) ∙ sym k.are)

script_due : Known → (files : Files) (name : List ℕ) (word : ℕ) (Then : List Step → Type 0) (steps : List Step) (result : Status) → IsSomeAnd (file_named files name) (λ bytes. IsScriptFile bytes steps) → Then steps
    → IsDueOfFile (file_named files name) word MOST_SCRIPT_BYTES (AskedBy word Then result) result
script_due known files name word Then steps result file holds =
    small_file (file_named files name) word MOST_SCRIPT_BYTES (λ bytes. IsScriptFile bytes steps) (AskedBy word Then result) result (script_sized (file_named files name) steps file)
    (λ bytes h. (λ line bad. absurd (known.apart bytes h.script line h.text bad.1), λ other also. subst Then (one_text bytes steps other h also) holds))

script_refused : Known → (folder : Folder) (name : List ℕ) (word : ℕ) (Then : List Step → Type 0) (result : Status) → RefusesScript (Some folder) name word result
    → (IsExcuse result → (steps : List Step) → Then steps) → IsDueOfFile (file_named folder.files name) word MOST_SCRIPT_BYTES (AskedBy word Then result) result
script_refused known folder name word Then status.Ok h all = absurd h
script_refused known folder name word Then status.Usage h all = absurd h
script_refused known folder name word Then (status.Missing w) h all = file_refused folder name word MOST_SCRIPT_BYTES (AskedBy word Then (status.Missing w)) (status.Missing w) h (λ none. absurd none)
script_refused known folder name word Then (status.ReadFault w) h all =
    file_refused folder name word MOST_SCRIPT_BYTES (AskedBy word Then (status.ReadFault w)) (status.ReadFault w) h (λ e bytes. (λ line bad. inr e, λ steps file. all e steps))
script_refused known folder name word Then status.WriteFault h all = absurd h
script_refused known folder name word Then (status.BadEdif fault) h all = absurd h
script_refused known folder name word Then (status.BadScript w line) h all =
    small_file (file_named folder.files name) word MOST_SCRIPT_BYTES (λ bytes. IsFirstBad bytes line) (AskedBy word Then (status.BadScript w line)) (status.BadScript w line) h.1
    (λ bytes bad. (λ other also. inl (ap (λ (x : ℕ × ℕ). status.BadScript x.0 x.1) (λ i. (h.0 i, known.once bytes line other bad also.1 i))), λ steps file. absurd (known.apart bytes file.script line file.text bad)))
script_refused known folder name word Then (status.TooLarge w) h all = file_refused folder name word MOST_SCRIPT_BYTES (AskedBy word Then (status.TooLarge w)) (status.TooLarge w) h (λ none. absurd none)
script_refused known folder name word Then status.NoTop h all = absurd h
script_refused known folder name word Then status.LogFull h all = absurd h
script_refused known folder name word Then status.NoMemory h all =
    file_refused folder name word MOST_SCRIPT_BYTES (AskedBy word Then status.NoMemory) status.NoMemory h (λ e bytes. (λ line bad. inr e, λ steps file. all e steps))

scripts_refused : Known → (folder : Folder) (Then : List (List Step) → Type 0) (before : List (List Step)) (names : List (List ℕ)) (word : ℕ) (result : Status) → RefusesScripts (Some folder) names word result
    → (IsExcuse result → (scripts : List (List Step)) → Then scripts) → AreDueOf folder.files Then before names word result
scripts_refused known folder Then before [] word result h all = absurd h
scripts_refused known folder Then before (name ∷ names) word result (inl h) all =
    script_refused known folder name word (λ steps. AreDueOf folder.files Then (before ++ steps ∷ []) names (word + 1) result) result h
    (λ e steps. excused_scripts folder.files Then (before ++ steps ∷ []) names (word + 1) result e (all e))
scripts_refused known folder Then before (name ∷ names) word result (inr h) all =
    script_due known folder.files name word (λ steps. AreDueOf folder.files Then (before ++ steps ∷ []) names (word + 1) result) h.0 result h.1
    (scripts_refused known folder Then (before ++ h.0 ∷ []) names (word + 1) result h.2 all)

scripts_read : Known → (folder : Folder) (Then : List (List Step) → Type 0) (before : List (List Step)) (names : List (List ℕ)) (scripts : List (List Step)) (word : ℕ) (result : Status) → AreRead (Some folder) names scripts
    → Then (before ++ scripts) → AreDueOf folder.files Then before names word result
scripts_read known folder Then before [] [] word result h due = subst Then (append-nil before) due
scripts_read known folder Then before [] (steps ∷ scripts) word result h due = absurd h
scripts_read known folder Then before (name ∷ names) [] word result h due = absurd h
scripts_read known folder Then before (name ∷ names) (steps ∷ scripts) word result h due =
    script_due known folder.files name word (λ steps. AreDueOf folder.files Then (before ++ steps ∷ []) names (word + 1) result) steps result h.0
    (scripts_read known folder Then (before ++ steps ∷ []) names scripts (word + 1) result h.1 (subst Then (sym (append_assoc before (steps ∷ []) scripts)) due))

-- ---- what was written

output_due : (wanted : Wanted) (d : Design) (old new : Option (List ℕ)) (result : Status) → OutputGives wanted d old new result → IsDueOf wanted d result
output_due wanted d old new status.Ok h = record { no_top = λ lacks. absurd (h.0 lacks); served = λ has. inr (inl refl) }
output_due wanted d old new status.Usage h = absurd h.1
output_due wanted d old new (status.Missing word) h = absurd h.1
output_due wanted d old new (status.ReadFault word) h = absurd h.1
output_due wanted d old new status.WriteFault h = record { no_top = λ lacks. absurd (h.0 lacks); served = λ has. inl refl }
output_due wanted d old new (status.BadEdif fault) h = absurd h.1
output_due wanted d old new (status.BadScript word line) h = absurd h.1
output_due wanted d old new (status.TooLarge word) h = absurd h.1
output_due wanted d old new status.NoTop h = record { no_top = λ lacks. inl refl; served = λ has. absurd (has h.0) }
output_due wanted d old new status.LogFull h = absurd h.1
output_due wanted d old new status.NoMemory h = excused_output wanted d status.NoMemory tt

-- no script that ended by its last line met a full log
not_full : (results : List SessionResult) → All (λ came. IsWhole came.ending) results → SomeFull results → ⊥
not_full [] whole full = full
not_full (came ∷ results) whole (inl full) = whole_is_not_full came.ending (whole 0 came (omega arith)) full
  where
    whole_is_not_full : (ending : Ending) → IsWhole ending → IsFull ending → ⊥
    whole_is_not_full Whole h full = full
    whole_is_not_full (Full places) h full = absurd (cc h)
not_full (came ∷ results) whole (inr full) = not_full results (λ k x less. whole (suc k) x (omega (arith, less))) full

run_due : Known → (d : Design) (scripts : List (List Step)) (old new : Option (List ℕ)) (result : Status) → RunGives d scripts old new result → IsDueOfRun d scripts result
run_due known d scripts old new status.Ok h = record { no_top = λ some none. absurd (h.0 some none); served = λ can room. inr (inl refl); run = λ can. inr (inr (inl refl)) }
run_due known d scripts old new status.Usage h = absurd h
run_due known d scripts old new (status.Missing word) h = absurd h
run_due known d scripts old new (status.ReadFault word) h = absurd h
run_due known d scripts old new status.WriteFault h = record { no_top = λ some none. absurd (h.0 some none); served = λ can room. inl refl; run = λ can. inr (inl refl) }
run_due known d scripts old new (status.BadEdif fault) h = absurd h
run_due known d scripts old new (status.BadScript word line) h = absurd h
run_due known d scripts old new (status.TooLarge word) h = absurd h
run_due known d scripts old new status.NoTop h = record { no_top = λ some none. inl refl; served = λ can room. absurd (can h.0 h.1); run = λ can. absurd (can h.0 h.1) }
run_due known d scripts old new status.LogFull h =
    let report = h.1.1.report in record {
      no_top = λ some none. absurd (h.0 some none);
      served = λ can room. absurd (not_full report.prints.results (known.room d scripts h.1.0 report.history room report.prints) report.full);
      run = λ can. inl refl;
    }
run_due known d scripts old new status.NoMemory h = excused_run d scripts status.NoMemory tt

uses_due : Known → (d : Design) (scripts : List (List Step)) (old new : Option (List ℕ)) (result : Status) → UsesGive d scripts old new result → IsDueOfRun d scripts result
uses_due known d scripts old new status.Ok h = record { no_top = λ some none. absurd (h.0 some none); served = λ can room. inr (inl refl); run = λ can. inr (inr (inl refl)) }
uses_due known d scripts old new status.Usage h = absurd h
uses_due known d scripts old new (status.Missing word) h = absurd h
uses_due known d scripts old new (status.ReadFault word) h = absurd h
uses_due known d scripts old new status.WriteFault h = record { no_top = λ some none. absurd (h.0 some none); served = λ can room. inl refl; run = λ can. inr (inl refl) }
uses_due known d scripts old new (status.BadEdif fault) h = absurd h
uses_due known d scripts old new (status.BadScript word line) h = absurd h
uses_due known d scripts old new (status.TooLarge word) h = absurd h
uses_due known d scripts old new status.NoTop h = record { no_top = λ some none. inl refl; served = λ can room. absurd (can h.0 h.1); run = λ can. absurd (can h.0 h.1) }
uses_due known d scripts old new status.LogFull h =
    let uses = h.1.1 in
    let report = uses.told.report in record {
      no_top = λ some none. absurd (h.0 some none);
      served = λ can room. absurd (not_full report.prints.results (known.room d scripts uses.report report.history room report.prints) report.full);
      run = λ can. inl refl;
    }
uses_due known d scripts old new status.NoMemory h = excused_run d scripts status.NoMemory tt

-- a verdict is no other status
no_verdict : (d : Design) (scripts : List (List Step)) (report : List ℕ) (old new : Option (List ℕ)) (result : Status) → ((text : List ℕ) → TextGives text old new result → ⊥) → VerdictGives d scripts report old new result → ⊥
no_verdict d scripts report old new result none (inl h) = none (codes "yes" ++ 10 ∷ []) h.1
no_verdict d scripts report old new result none (inr h) = none (codes "no" ++ 10 ∷ []) h.1

check_due : (d : Design) (scripts : List (List Step)) (report : List ℕ) (old new : Option (List ℕ)) (result : Status) → CheckGives d scripts report old new result → IsDueOfCheck d scripts result
check_due d scripts report old new status.Ok h = record { no_top = λ some none. absurd (h.0 some none); served = λ can. inr (inl refl) }
check_due d scripts report old new status.Usage h = absurd (no_verdict d scripts report old new status.Usage (λ text none. none) h.1)
check_due d scripts report old new (status.Missing word) h = absurd (no_verdict d scripts report old new (status.Missing word) (λ text none. none) h.1)
check_due d scripts report old new (status.ReadFault word) h = absurd (no_verdict d scripts report old new (status.ReadFault word) (λ text none. none) h.1)
check_due d scripts report old new status.WriteFault h = record { no_top = λ some none. absurd (h.0 some none); served = λ can. inl refl }
check_due d scripts report old new (status.BadEdif fault) h = absurd (no_verdict d scripts report old new (status.BadEdif fault) (λ text none. none) h.1)
check_due d scripts report old new (status.BadScript word line) h = absurd (no_verdict d scripts report old new (status.BadScript word line) (λ text none. none) h.1)
check_due d scripts report old new (status.TooLarge word) h = absurd (no_verdict d scripts report old new (status.TooLarge word) (λ text none. none) h.1)
check_due d scripts report old new status.NoTop h = record { no_top = λ some none. inl refl; served = λ can. absurd (can h.0 h.1) }
check_due d scripts report old new status.LogFull h = absurd (no_verdict d scripts report old new status.LogFull (λ text none. none) h.1)
check_due d scripts report old new status.NoMemory h = excused_check d scripts status.NoMemory tt

summary_due : (n : ℕ) (old new : Option (List ℕ)) (result : Status) → SummaryGives n old new result → IsServed result
summary_due n old new result (inl h) = subst IsServed (sym h.0) (inr (inr tt))
summary_due n old new result (inr h) = go result h.2
  where
    go : (result : Status) → TextGives h.0 old new result → IsServed result
    go status.Ok k = inr (inl refl)
    go status.Usage k = absurd k
    go (status.Missing word) k = absurd k
    go (status.ReadFault word) k = absurd k
    go status.WriteFault k = inl refl
    go (status.BadEdif fault) k = absurd k
    go (status.BadScript word line) k = absurd k
    go (status.TooLarge word) k = absurd k
    go status.NoTop k = absurd k
    go status.LogFull k = absurd k
    go status.NoMemory k = inr (inr tt)

-- ---- a request

show_due : (folder : Folder) (name : List ℕ) (wanted : Wanted) (old new : Option (List ℕ)) (result : Status) → Gives (Show name wanted) (Some folder) old new result
    → IsDueOfDesign folder.files name (λ d. IsDueOf wanted d result) result
show_due folder name wanted old new result (inl h) = design_refused folder name (λ d. IsDueOf wanted d result) result h.0 (λ e d. excused_output wanted d result e)
show_due folder name wanted old new result (inr h) = design_due folder.files name (λ d. IsDueOf wanted d result) h.0 result h.1.file (output_due wanted h.0 old new result h.3)

-- scripts of a request ask for what their outcome is
read_due : Known → (folder : Folder) (Then Done : List (List Step) → Type 0) (names : List (List ℕ)) (word : ℕ) (old new : Option (List ℕ)) (result : Status) → (IsExcuse result → (scripts : List (List Step)) → Then scripts)
    → ((scripts : List (List Step)) → Done scripts → Then scripts) → ScriptsGive names word Done (Some folder) old new result → AreDueOf folder.files Then [] names word result
read_due known folder Then Done names word old new result excused due (inl h) = scripts_refused known folder Then [] names word result h.0 excused
read_due known folder Then Done names word old new result excused due (inr h) = scripts_read known folder Then [] names h.0 word result h.1 (due h.0 h.3)

run_asks : Known → (folder : Folder) (name : List ℕ) (names : List (List ℕ)) (old new : Option (List ℕ)) (result : Status) → Gives (Run name names) (Some folder) old new result → IsDueIn folder.files (Run name names) result
run_asks known folder name names old new result (inl h) =
    design_refused folder name (λ d. AreDueOf folder.files (λ scripts. IsDueOfRun d scripts result) [] names 2 result) result h.0
    (λ e d. excused_scripts folder.files (λ scripts. IsDueOfRun d scripts result) [] names 2 result e (λ scripts. excused_run d scripts result e))
run_asks known folder name names old new result (inr h) =
    design_due folder.files name (λ d. AreDueOf folder.files (λ scripts. IsDueOfRun d scripts result) [] names 2 result) h.0 result h.1.file
    (read_due known folder (λ scripts. IsDueOfRun h.0 scripts result) (λ scripts. RunGives h.0 scripts old new result) names 2 old new result (λ e scripts. excused_run h.0 scripts result e)
    (λ scripts gives. run_due known h.0 scripts old new result gives) h.2)

uses_ask : Known → (folder : Folder) (name : List ℕ) (names : List (List ℕ)) (old new : Option (List ℕ)) (result : Status) → Gives (Uses name names) (Some folder) old new result → IsDueIn folder.files (Uses name names) result
uses_ask known folder name names old new result (inl h) =
    design_refused folder name (λ d. AreDueOf folder.files (λ scripts. IsDueOfRun d scripts result) [] names 2 result) result h.0
    (λ e d. excused_scripts folder.files (λ scripts. IsDueOfRun d scripts result) [] names 2 result e (λ scripts. excused_run d scripts result e))
uses_ask known folder name names old new result (inr h) =
    design_due folder.files name (λ d. AreDueOf folder.files (λ scripts. IsDueOfRun d scripts result) [] names 2 result) h.0 result h.1.file
    (read_due known folder (λ scripts. IsDueOfRun h.0 scripts result) (λ scripts. UsesGive h.0 scripts old new result) names 2 old new result (λ e scripts. excused_run h.0 scripts result e)
    (λ scripts gives. uses_due known h.0 scripts old new result gives) h.2)

-- a report that is there is within its limit
report_there : (found : Option (List ℕ)) (report : List ℕ) → length report ≤ MOST_REPORT_BYTES → IsSomeAnd found (λ bytes. bytes ≡ report) → IsSomeAnd found (λ bytes. (length bytes ≤ MOST_REPORT_BYTES) × (bytes ≡ report))
report_there None report size h = h
report_there (Some bytes) report size h = (omega (arith, size, ap length h), h)

report_asks : Known → (folder : Folder) (d : Design) (name : List ℕ) (names : List (List ℕ)) (old new : Option (List ℕ)) (result : Status) → ReportGives d name names (Some folder) old new result
    → IsDueOfReport folder.files d name names result
report_asks known folder d name names old new result (inl h) =
    file_refused folder name 2 MOST_REPORT_BYTES (λ bytes. AreDueOf folder.files (λ scripts. IsDueOfCheck d scripts result) [] names 3 result) result h.0
    (λ e bytes. excused_scripts folder.files (λ scripts. IsDueOfCheck d scripts result) [] names 3 result e (λ scripts. excused_check d scripts result e))
report_asks known folder d name names old new result (inr h) =
    small_file (file_named folder.files name) 2 MOST_REPORT_BYTES (λ bytes. bytes ≡ h.0) (λ bytes. AreDueOf folder.files (λ scripts. IsDueOfCheck d scripts result) [] names 3 result) result
    (report_there (file_named folder.files name) h.0 h.1.0 h.1.1)
    (λ bytes is. read_due known folder (λ scripts. IsDueOfCheck d scripts result) (λ scripts. CheckGives d scripts h.0 old new result) names 3 old new result (λ e scripts. excused_check d scripts result e)
    (λ scripts gives. check_due d scripts h.0 old new result gives) h.2)

check_asks : Known → (folder : Folder) (name report : List ℕ) (names : List (List ℕ)) (old new : Option (List ℕ)) (result : Status) → Gives (Check name report names) (Some folder) old new result
    → IsDueIn folder.files (Check name report names) result
check_asks known folder name report names old new result (inl h) =
    design_refused folder name (λ d. IsDueOfReport folder.files d report names result) result h.0 (λ e d. excused_report folder.files d report names result e)
check_asks known folder name report names old new result (inr h) =
    design_due folder.files name (λ d. IsDueOfReport folder.files d report names result) h.0 result h.1.file (report_asks known folder h.0 report names old new result h.2)

due_now : Known → (told : Option Folder) (request : Request) (old new : Option (List ℕ)) (result : Status) → Gives request told old new result → IsDue told request result
due_now known None (Show name wanted) old new result h = tt
due_now known None (Run name names) old new result h = tt
due_now known None (Uses name names) old new result h = tt
due_now known None (Check name report names) old new result h = tt
due_now known told (Generate n) old new result h = summary_due n old new result h
due_now known (Some folder) (Show name wanted) old new result h = show_due folder name wanted old new result h
due_now known (Some folder) (Run name names) old new result h = run_asks known folder name names old new result h
due_now known (Some folder) (Uses name names) old new result h = uses_ask known folder name names old new result h
due_now known (Some folder) (Check name report names) old new result h = check_asks known folder name report names old new result h

-- what is asked for depends on the files alone
abbrev DueIn : Option Files → Request → Status → Type 0
DueIn told (Generate n) result = IsServed result
DueIn told request result = IfSome told (λ files. IsDueIn files request result)

abbrev files_of : Option Folder → Option Files
files_of told = option_map (λ (folder : Folder). folder.files) told

to_files : (told : Option Folder) (request : Request) (result : Status) → IsDue told request result → DueIn (files_of told) request result
to_files None (Show name wanted) result h = tt
to_files None (Run name names) result h = tt
to_files None (Uses name names) result h = tt
to_files None (Check name report names) result h = tt
to_files None (Generate n) result h = h
to_files (Some folder) (Show name wanted) result h = h
to_files (Some folder) (Run name names) result h = h
to_files (Some folder) (Uses name names) result h = h
to_files (Some folder) (Check name report names) result h = h
to_files (Some folder) (Generate n) result h = h

of_files : (told : Option Folder) (request : Request) (result : Status) → DueIn (files_of told) request result → IsDue told request result
of_files None (Show name wanted) result h = tt
of_files None (Run name names) result h = tt
of_files None (Uses name names) result h = tt
of_files None (Check name report names) result h = tt
of_files None (Generate n) result h = h
of_files (Some folder) (Show name wanted) result h = h
of_files (Some folder) (Run name names) result h = h
of_files (Some folder) (Uses name names) result h = h
of_files (Some folder) (Check name report names) result h = h
of_files (Some folder) (Generate n) result h = h

-- the status comes that the files ask for, as they were told before
pub is_due : ScriptOrBad → OneBadLine → RoomSuffices → (before told : Option Folder) (request : Request) (old new : Option (List ℕ)) (result : Status) → SameFiles before told → Gives request told old new result → IsDue before request result
is_due apart once room before told request old new result same h =
    let known : Known = record { apart = apart; once = once; room = room } in
    of_files before request result
    (subst (λ (files : Option Files). DueIn files request result) same (to_files told request result (due_now known told request old new result h)))

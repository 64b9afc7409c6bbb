-- The type of what is found under a short name, for definitions of other crates.
use Rattle.erc_spec.specs.declared.finding.Finding as finding_type

-- what is found of a net or of a pin
abbrev pub Finding : Type 0
Finding = finding_type.Finding

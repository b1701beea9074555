-- The keys by which findings are found: joined to Distinct by proofs/KeyLaws.
use Rattle.std.specs.Prelude.{◌≡◌, ℕ, map}
use Rattle.std.specs.List.{AllZip}
use Rattle.cx_base.specs.declared.finding.Finding.{Finding}
use Rattle.cx_base.specs.declared.finding.Word.{Word}
use Rattle.cx_base.specs.declared.finding.Word.TheVariants.{Text, Number}
use Rattle.cx_base.specs.declared.place.Place.{Place}
use Rattle.cx_finding.specs.declared.key.FindingKey.{FindingKey}
use Rattle.cx_finding.specs.declared.key.WordKey.{WordKey}
use Rattle.cx_finding.specs.declared.key.WordKey.TheVariants as key
use Rattle.cx_finding.specs.Distinct.{number_of}

abbrev pub place_key : Place → ℕ × ℕ × ℕ
place_key place = (place.file, place.line, place.column)

abbrev pub IsWordKey : Word → WordKey → Type 0
IsWordKey (Text text) (key.Text bytes) = bytes.items ≡ text
IsWordKey (Text text) (key.Number other) = ⊥
IsWordKey (Number number) (key.Number other) = other ≡ number
IsWordKey (Number number) (key.Text bytes) = ⊥

pub record IsKeyOf (f : Finding) (k : FindingKey) : Type 0 where
  pub kind : k.kind ≡ number_of f.id
  pub place : k.place ≡ place_key f.place
  pub others : k.others.items ≡ map place_key f.others
  pub words : AllZip IsWordKey f.words k.words.items

-- What holds of any text, whoever reads it.
use Rattle.std.specs.Prelude.{ℕ, ◌≡◌, List}
use Rattle.vetx_json.specs.KeptUnits.{VetxEntry}
use Rattle.vetx_json.specs.VetxTexts.{IsVetxText}

-- a text keeps one package at most
abbrev pub OnePackage : Type 0
OnePackage = (text : List ℕ) (v w : VetxEntry) → IsVetxText text v → IsVetxText text w → v ≡ w

-- What is read of the members of a unit.
use Rattle.std.proofs.Common.{◌≡◌, ℕ, Bool, false, List, Option, Some, bytes_eq, codes, refl, sym, ◌∙◌}
use Rattle.serde_json.specs.Data.{Data, Members, put}
use Rattle.serde_json.specs.Find.{get_member}
use Rattle.json_reading.proofs.ObjectKeys.{set, kept, other_key}
use Rattle.unit_config.specs.UnitRead.{AreTextsRead, HasUnitMembers}
use Rattle.unit_config.specs.UnitValues.{Texts, bool_under, filled_under, strings_under}

-- Putting one more member

module _ (P : Option Data → Type 0) (key : List ℕ) (value : Data) (ms : Members) where
  here : (k : List ℕ) → key ≡ k → P (Some value) → P (get_member k (put key value ms))
  here k same h = set P k key value ms same h

  beside : (k other : List ℕ) → key ≡ k → false ≡ bytes_eq k other → P (get_member other ms)
      → P (get_member other (put key value ms))
  beside k other same apart h = kept P other key value ms (λ f. other_key k other apart (sym same ∙ f)) h

  far : (other : List ℕ) → false ≡ bytes_eq key other → P (get_member other ms)
      → P (get_member other (put key value ms))
  far other apart h = kept P other key value ms (other_key key other apart) h

module _ (key : List ℕ) (value : Data) (ms : Members) (id folder path output : Option (List ℕ)) (files : Option (List (List ℕ))) (imports told : Option Texts) (is_silent : Option Bool)
    (h : HasUnitMembers id folder path output files imports told is_silent ms) where
  pub id_put : (found : Option (List ℕ)) → key ≡ codes "ID" → found ≡ filled_under (Some value)
      → HasUnitMembers found folder path output files imports told is_silent (put key value ms)
  id_put found same e = record {
    id_under = here (λ o. found ≡ filled_under o) key value ms (codes "ID") same e;
    folder_under = beside (λ o. folder ≡ filled_under o) key value ms (codes "ID") (codes "Dir") same refl h.folder_under;
    path_under = beside (λ o. path ≡ filled_under o) key value ms (codes "ID") (codes "ImportPath") same refl h.path_under;
    files_under = beside (λ o. files ≡ strings_under o) key value ms (codes "ID") (codes "GoFiles") same refl h.files_under;
    imports_under = beside (λ o. AreTextsRead o imports) key value ms (codes "ID") (codes "ImportMap") same refl h.imports_under;
    told_under = beside (λ o. AreTextsRead o told) key value ms (codes "ID") (codes "PackageVetx") same refl h.told_under;
    silent_under = beside (λ o. is_silent ≡ bool_under o) key value ms (codes "ID") (codes "VetxOnly") same refl h.silent_under;
    output_under = beside (λ o. output ≡ filled_under o) key value ms (codes "ID") (codes "VetxOutput") same refl h.output_under;
  }

  pub folder_put : (found : Option (List ℕ)) → key ≡ codes "Dir" → found ≡ filled_under (Some value)
      → HasUnitMembers id found path output files imports told is_silent (put key value ms)
  folder_put found same e = record {
    id_under = beside (λ o. id ≡ filled_under o) key value ms (codes "Dir") (codes "ID") same refl h.id_under;
    folder_under = here (λ o. found ≡ filled_under o) key value ms (codes "Dir") same e;
    path_under = beside (λ o. path ≡ filled_under o) key value ms (codes "Dir") (codes "ImportPath") same refl h.path_under;
    files_under = beside (λ o. files ≡ strings_under o) key value ms (codes "Dir") (codes "GoFiles") same refl h.files_under;
    imports_under = beside (λ o. AreTextsRead o imports) key value ms (codes "Dir") (codes "ImportMap") same refl h.imports_under;
    told_under = beside (λ o. AreTextsRead o told) key value ms (codes "Dir") (codes "PackageVetx") same refl h.told_under;
    silent_under = beside (λ o. is_silent ≡ bool_under o) key value ms (codes "Dir") (codes "VetxOnly") same refl h.silent_under;
    output_under = beside (λ o. output ≡ filled_under o) key value ms (codes "Dir") (codes "VetxOutput") same refl h.output_under;
  }

  pub path_put : (found : Option (List ℕ)) → key ≡ codes "ImportPath" → found ≡ filled_under (Some value)
      → HasUnitMembers id folder found output files imports told is_silent (put key value ms)
  path_put found same e = record {
    id_under = beside (λ o. id ≡ filled_under o) key value ms (codes "ImportPath") (codes "ID") same refl h.id_under;
    folder_under = beside (λ o. folder ≡ filled_under o) key value ms (codes "ImportPath") (codes "Dir") same refl h.folder_under;
    path_under = here (λ o. found ≡ filled_under o) key value ms (codes "ImportPath") same e;
    files_under = beside (λ o. files ≡ strings_under o) key value ms (codes "ImportPath") (codes "GoFiles") same refl h.files_under;
    imports_under = beside (λ o. AreTextsRead o imports) key value ms (codes "ImportPath") (codes "ImportMap") same refl h.imports_under;
    told_under = beside (λ o. AreTextsRead o told) key value ms (codes "ImportPath") (codes "PackageVetx") same refl h.told_under;
    silent_under = beside (λ o. is_silent ≡ bool_under o) key value ms (codes "ImportPath") (codes "VetxOnly") same refl h.silent_under;
    output_under = beside (λ o. output ≡ filled_under o) key value ms (codes "ImportPath") (codes "VetxOutput") same refl h.output_under;
  }

  pub files_put : (found : Option (List (List ℕ))) → key ≡ codes "GoFiles" → found ≡ strings_under (Some value)
      → HasUnitMembers id folder path output found imports told is_silent (put key value ms)
  files_put found same e = record {
    id_under = beside (λ o. id ≡ filled_under o) key value ms (codes "GoFiles") (codes "ID") same refl h.id_under;
    folder_under = beside (λ o. folder ≡ filled_under o) key value ms (codes "GoFiles") (codes "Dir") same refl h.folder_under;
    path_under = beside (λ o. path ≡ filled_under o) key value ms (codes "GoFiles") (codes "ImportPath") same refl h.path_under;
    files_under = here (λ o. found ≡ strings_under o) key value ms (codes "GoFiles") same e;
    imports_under = beside (λ o. AreTextsRead o imports) key value ms (codes "GoFiles") (codes "ImportMap") same refl h.imports_under;
    told_under = beside (λ o. AreTextsRead o told) key value ms (codes "GoFiles") (codes "PackageVetx") same refl h.told_under;
    silent_under = beside (λ o. is_silent ≡ bool_under o) key value ms (codes "GoFiles") (codes "VetxOnly") same refl h.silent_under;
    output_under = beside (λ o. output ≡ filled_under o) key value ms (codes "GoFiles") (codes "VetxOutput") same refl h.output_under;
  }

  pub imports_put : (found : Option Texts) → key ≡ codes "ImportMap" → AreTextsRead (Some value) found
      → HasUnitMembers id folder path output files found told is_silent (put key value ms)
  imports_put found same e = record {
    id_under = beside (λ o. id ≡ filled_under o) key value ms (codes "ImportMap") (codes "ID") same refl h.id_under;
    folder_under = beside (λ o. folder ≡ filled_under o) key value ms (codes "ImportMap") (codes "Dir") same refl h.folder_under;
    path_under = beside (λ o. path ≡ filled_under o) key value ms (codes "ImportMap") (codes "ImportPath") same refl h.path_under;
    files_under = beside (λ o. files ≡ strings_under o) key value ms (codes "ImportMap") (codes "GoFiles") same refl h.files_under;
    imports_under = here (λ o. AreTextsRead o found) key value ms (codes "ImportMap") same e;
    told_under = beside (λ o. AreTextsRead o told) key value ms (codes "ImportMap") (codes "PackageVetx") same refl h.told_under;
    silent_under = beside (λ o. is_silent ≡ bool_under o) key value ms (codes "ImportMap") (codes "VetxOnly") same refl h.silent_under;
    output_under = beside (λ o. output ≡ filled_under o) key value ms (codes "ImportMap") (codes "VetxOutput") same refl h.output_under;
  }

  pub told_put : (found : Option Texts) → key ≡ codes "PackageVetx" → AreTextsRead (Some value) found
      → HasUnitMembers id folder path output files imports found is_silent (put key value ms)
  told_put found same e = record {
    id_under = beside (λ o. id ≡ filled_under o) key value ms (codes "PackageVetx") (codes "ID") same refl h.id_under;
    folder_under = beside (λ o. folder ≡ filled_under o) key value ms (codes "PackageVetx") (codes "Dir") same refl h.folder_under;
    path_under = beside (λ o. path ≡ filled_under o) key value ms (codes "PackageVetx") (codes "ImportPath") same refl h.path_under;
    files_under = beside (λ o. files ≡ strings_under o) key value ms (codes "PackageVetx") (codes "GoFiles") same refl h.files_under;
    imports_under = beside (λ o. AreTextsRead o imports) key value ms (codes "PackageVetx") (codes "ImportMap") same refl h.imports_under;
    told_under = here (λ o. AreTextsRead o found) key value ms (codes "PackageVetx") same e;
    silent_under = beside (λ o. is_silent ≡ bool_under o) key value ms (codes "PackageVetx") (codes "VetxOnly") same refl h.silent_under;
    output_under = beside (λ o. output ≡ filled_under o) key value ms (codes "PackageVetx") (codes "VetxOutput") same refl h.output_under;
  }

  pub silent_put : (found : Option Bool) → key ≡ codes "VetxOnly" → found ≡ bool_under (Some value)
      → HasUnitMembers id folder path output files imports told found (put key value ms)
  silent_put found same e = record {
    id_under = beside (λ o. id ≡ filled_under o) key value ms (codes "VetxOnly") (codes "ID") same refl h.id_under;
    folder_under = beside (λ o. folder ≡ filled_under o) key value ms (codes "VetxOnly") (codes "Dir") same refl h.folder_under;
    path_under = beside (λ o. path ≡ filled_under o) key value ms (codes "VetxOnly") (codes "ImportPath") same refl h.path_under;
    files_under = beside (λ o. files ≡ strings_under o) key value ms (codes "VetxOnly") (codes "GoFiles") same refl h.files_under;
    imports_under = beside (λ o. AreTextsRead o imports) key value ms (codes "VetxOnly") (codes "ImportMap") same refl h.imports_under;
    told_under = beside (λ o. AreTextsRead o told) key value ms (codes "VetxOnly") (codes "PackageVetx") same refl h.told_under;
    silent_under = here (λ o. found ≡ bool_under o) key value ms (codes "VetxOnly") same e;
    output_under = beside (λ o. output ≡ filled_under o) key value ms (codes "VetxOnly") (codes "VetxOutput") same refl h.output_under;
  }

  pub output_put : (found : Option (List ℕ)) → key ≡ codes "VetxOutput" → found ≡ filled_under (Some value)
      → HasUnitMembers id folder path found files imports told is_silent (put key value ms)
  output_put found same e = record {
    id_under = beside (λ o. id ≡ filled_under o) key value ms (codes "VetxOutput") (codes "ID") same refl h.id_under;
    folder_under = beside (λ o. folder ≡ filled_under o) key value ms (codes "VetxOutput") (codes "Dir") same refl h.folder_under;
    path_under = beside (λ o. path ≡ filled_under o) key value ms (codes "VetxOutput") (codes "ImportPath") same refl h.path_under;
    files_under = beside (λ o. files ≡ strings_under o) key value ms (codes "VetxOutput") (codes "GoFiles") same refl h.files_under;
    imports_under = beside (λ o. AreTextsRead o imports) key value ms (codes "VetxOutput") (codes "ImportMap") same refl h.imports_under;
    told_under = beside (λ o. AreTextsRead o told) key value ms (codes "VetxOutput") (codes "PackageVetx") same refl h.told_under;
    silent_under = beside (λ o. is_silent ≡ bool_under o) key value ms (codes "VetxOutput") (codes "VetxOnly") same refl h.silent_under;
    output_under = here (λ o. found ≡ filled_under o) key value ms (codes "VetxOutput") same e;
  }

  pub other_put : false ≡ bytes_eq key (codes "ID")
      → false ≡ bytes_eq key (codes "Dir")
      → false ≡ bytes_eq key (codes "ImportPath")
      → false ≡ bytes_eq key (codes "GoFiles")
      → false ≡ bytes_eq key (codes "ImportMap")
      → false ≡ bytes_eq key (codes "PackageVetx")
      → false ≡ bytes_eq key (codes "VetxOnly")
      → false ≡ bytes_eq key (codes "VetxOutput")
      → HasUnitMembers id folder path output files imports told is_silent (put key value ms)
  other_put no_id no_folder no_path no_files no_imports no_told no_silent no_output = record {
    id_under = far (λ o. id ≡ filled_under o) key value ms (codes "ID") no_id h.id_under;
    folder_under = far (λ o. folder ≡ filled_under o) key value ms (codes "Dir") no_folder h.folder_under;
    path_under = far (λ o. path ≡ filled_under o) key value ms (codes "ImportPath") no_path h.path_under;
    files_under = far (λ o. files ≡ strings_under o) key value ms (codes "GoFiles") no_files h.files_under;
    imports_under = far (λ o. AreTextsRead o imports) key value ms (codes "ImportMap") no_imports h.imports_under;
    told_under = far (λ o. AreTextsRead o told) key value ms (codes "PackageVetx") no_told h.told_under;
    silent_under = far (λ o. is_silent ≡ bool_under o) key value ms (codes "VetxOnly") no_silent h.silent_under;
    output_under = far (λ o. output ≡ filled_under o) key value ms (codes "VetxOutput") no_output h.output_under;
  }

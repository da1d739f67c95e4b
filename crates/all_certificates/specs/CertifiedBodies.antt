-- The certificates of the bodies of files: of each body whose paths are followed the least one, by what is known of
-- functions, and by what may be relied on of the literals of its file. A body without variables has one, with a `goto`
-- too: it has an empty row for each node.
use Rattle.std.specs.Prelude.{ℕ, ◌+◌, ◌≡◌, ◌⊎◌, Bool, List, [], ◌∷◌, ◌++◌, None}
use Rattle.certificate_json.specs.Certificates.{BodyEntry}
use Rattle.certificates.specs.Least.{IsLeastOf}
use Rattle.meaning.specs.BodyEvents.{bodies_of, unfollowed_faults}
use Rattle.meaning.specs.Mentions.{BodyPlace}
use Rattle.meaning.specs.Uses.{Callee, Seen}
use Rattle.meaning_packages.specs.CallsFlags.{FileWithCredits}
use Rattle.meaning_packages.specs.Credits.{Credits, promises_in}
use Rattle.meaning_packages.specs.PathFaults.{paths_of}
use Rattle.table_json.specs.TableValues.{if_fits}

-- Of one body

module _ (calls : Callee → ℕ → Bool) (credits : Credits) (number : ℕ) (seen : Seen) (b : BodyPlace) where
  -- it is the body's least certificate
  pub record IsEntry (entry : BodyEntry) : Type 0 where
    pub is_file : entry.file ≡ number
    pub is_place : entry.at ≡ b.at
    pub is_followed : unfollowed_faults seen b ≡ []
    pub is_least : IsLeastOf (paths_of seen (promises_in calls credits b.at) b) entry.states

  -- its paths are not followed, or no certificate can have the number of its file
  abbrev pub HasNoEntry : Type 0
  HasNoEntry = (unfollowed_faults seen b ≡ [] → ⊥) ⊎ (if_fits number ≡ None)

  abbrev pub AreOfBody : List BodyEntry → Type 0
  AreOfBody [] = HasNoEntry
  AreOfBody (entry ∷ []) = IsEntry entry
  AreOfBody (entry ∷ other ∷ entries) = ⊥

-- Of bodies and files, one after the other

-- what each item has, one after the other
pub data InTurn {A B : Type 0} (Has : A → List B → Type 0) : List A → List B → Type 0 where
  no_item : InTurn Has [] []
  item_and : {a : A} {others : List A} {own rest : List B}
      → Has a own
      → InTurn Has others rest
      → InTurn Has (a ∷ others) (own ++ rest)

abbrev pub AreOfFile : (Callee → ℕ → Bool) → ℕ → FileWithCredits → List BodyEntry → Type 0
AreOfFile calls number file = InTurn (AreOfBody calls file.credits number file.seen) (bodies_of file.seen)

-- where the first of these files has that number
pub data AreOfFiles (calls : Callee → ℕ → Bool) : ℕ → List FileWithCredits → List BodyEntry → Type 0 where
  no_file : {number : ℕ} → AreOfFiles calls number [] []
  file_and : {number : ℕ} {file : FileWithCredits} {files : List FileWithCredits} {own rest : List BodyEntry}
      → AreOfFile calls number file own
      → AreOfFiles calls (number + 1) files rest
      → AreOfFiles calls number (file ∷ files) (own ++ rest)

-- What is declared of given packages plays no part: what follows from what was told does so whatever is declared of
-- these.
use Rattle.std.proofs.Common.{◌≡◌, ℕ, Bool, true, false, List, [], ◌∷◌, refl, sym, ap, ◌∙◌, bytes_eq}
use Rattle.std.proofs.lemmas.Slice.Eq.{bytes_eq-Decides}
use Rattle.accepting.specs.Findings.{FoundEntry}
use Rattle.declared_json.specs.DeclaredPackages.{PackageEntry, table_at}
use Rattle.explanations.specs.Units.{NotesFollow}
use Rattle.gathering.specs.Results.{FollowsFromTold, HasFinding, HaveTold, IsNotGiven, IsSaidBy, IsToldBy, Told, Tellings}
use Rattle.inputs.specs.KnownPackages.{all_known, known_beside}
use Rattle.unit_reports.specs.Units.{HoldsOfUnit}
use Rattle.library_facts.specs.Beside.{but_given}
use Rattle.meaning_reports.specs.Loaded.{LoadedPackage, Tables}
use Rattle.meaning_reports.specs.PackageReports.{Said, by_paths, IsFindingBy, of_whole, of_import, of_dot, of_files}
use Rattle.one_package.specs.declared.judged.Judged.{Judged}
use Rattle.report.specs.Entries.{Entry}
use Rattle.report.specs.declared.notes.ExplainedPackage.{ExplainedPackage}
use Rattle.tree.specs.declared.edition.Edition.{Edition}
use Rattle.tree.specs.declared.edition.Edition.TheVariants.{First, Second}
use Rattle.vet_units.specs.QuietUnits.{known_by}

module _ (ps : List LoadedPackage) (tables : Tables) where
  finding_so : (d e : Tables) {i : ℕ} {x : Entry} → IsFindingBy (by_paths d) ps tables i x → IsFindingBy (by_paths e) ps tables i x
  finding_so d e (of_whole h) = of_whole h
  finding_so d e (of_import j number spec x none there needed h) = of_import j number spec x none there needed (finding_so d e h)
  finding_so d e (of_dot file dot none out) = of_dot file dot none out
  finding_so d e (of_files none says) = of_files none says

  has_so : (d e : Tables) (i : ℕ) → HasFinding (by_paths d) ps tables i → HasFinding (by_paths e) ps tables i
  has_so d e i f = record { entry = f.entry; is_finding = finding_so d e f.is_finding }

  told_so : (d e : Tables) (j : ℕ) (q : LoadedPackage) (one : Told) → IsToldBy (by_paths d) ps tables j q one
      → IsToldBy (by_paths e) ps tables j q one
  told_so d e j q one h = record {
    is_table = h.is_table;
    is_verdict = (λ no. has_so d e j (h.is_verdict.0 no), λ f. h.is_verdict.1 (has_so e d j f));
  }

  pub have_so : (d e : Tables) (i : ℕ) (told : Tellings) → ((path : List ℕ) → IsNotGiven ps path → d path ≡ e path)
      → HaveTold (by_paths d) ps tables i told
      → HaveTold (by_paths e) ps tables i told
  have_so d e i told agree h = record {
    of_told = λ j q one im is its. told_so d e j q one (h.of_told j q one im is its);
    of_unranked = h.of_unranked;
    of_others = λ path none. h.of_others path none ∙ agree path none;
  }

  pub said_so : (d e : Tables) (i : ℕ) (p : LoadedPackage) (said : Said) → IsSaidBy (by_paths d) ps tables i p said
      → IsSaidBy (by_paths e) ps tables i p said
  said_so d e i p said h = record {
    is_path = h.is_path;
    is_table = h.is_table;
    are_findings = record {
      in_order = h.are_findings.in_order;
      each = λ x. (λ c. finding_so d e ((h.are_findings.each x).0 c), λ f. (h.are_findings.each x).1 (finding_so e d f));
    };
    are_fields = h.are_fields;
  }

pub follows_so : (d e : Tables) (ps : List LoadedPackage) (i : ℕ) (p : LoadedPackage) (told : Tellings) (said : Said)
    → ((path : List ℕ) → IsNotGiven ps path → d path ≡ e path)
    → FollowsFromTold (by_paths e) ps i p told said
    → FollowsFromTold (by_paths d) ps i p told said
follows_so d e ps i p told said agree f tables have =
    said_so ps tables e d i p said (f tables (have_so ps tables d e i told agree have))

pub notes_so : (d e : Tables) (ps : List LoadedPackage) (i : ℕ) (p : LoadedPackage) (told : Tellings) (x : ExplainedPackage)
    → ((path : List ℕ) → IsNotGiven ps path → d path ≡ e path)
    → NotesFollow e ps i p told x
    → NotesFollow d ps i p told x
notes_so d e ps i p told x agree f tables have = f tables (have_so ps tables d e i told agree have)

pub holds_so : (judged : Judged) (A B : ExplainedPackage → Type 0) (holds : FoundEntry → Type 0) → ((x : ExplainedPackage) → A x → B x)
    → (b : Bool)
    → HoldsOfUnit b judged A holds
    → HoldsOfUnit b judged B holds
holds_so judged A B holds f false h = h
holds_so judged A B holds f true h =
    record { explained = h.explained; is_same = h.is_same; are_notes = f h.explained h.are_notes; so = h.so }

-- Without what is declared of one path, the same is declared of others

module _ (own path : List ℕ) (other : own ≡ path → ⊥) where
  beside_same : (known : List PackageEntry) → table_at path (but_given (own ∷ []) known) ≡ table_at path known
  beside_same [] = refl
  beside_same (k ∷ ks) = by (bytes_eq k.path own) refl (bytes_eq k.path path) refl (beside_same ks)
    where
      by : (b : Bool) → bytes_eq k.path own ≡ b → (c : Bool) → bytes_eq k.path path ≡ c
          → table_at path (but_given (own ∷ []) ks) ≡ table_at path ks
          → table_at path (but_given (own ∷ []) (k ∷ ks)) ≡ table_at path (k ∷ ks)
      by true e true f rest =
          absurd (other (sym ((bytes_eq-Decides k.path own).0 e) ∙ (bytes_eq-Decides k.path path).0 f))
      by true e false f rest = rw (e, f) rest
      by false e true f rest = rw (e, f) refl
      by false e false f rest = rw (e, f) rest

  pub known_same : (edition : Edition) (without_library : Bool) (declared known : List PackageEntry)
      → known_by edition without_library declared ≡ known
      → table_at path known ≡ table_at path (known_beside edition without_library (own ∷ []) declared)
  known_same First without_library declared known e = ap (table_at path) (sym e)
  known_same Second without_library declared known e =
      ap (table_at path) (sym e) ∙ sym (beside_same (all_known without_library declared))

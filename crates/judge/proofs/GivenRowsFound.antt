-- The certificates of a package's files give the rows of the least certificate of each body.
use Rattle.std.proofs.Common.{◌≡◌, ℕ, zero, suc, ◌+◌, inl, inr, Bool, true, false, ◌&&◌, List, [], ◌∷◌, Some, None, Contains, refl, sym, ap, ◌∙◌, subst, arith}
use Rattle.std.specs.Prelude.{◌==◌, if◌then◌else◌, slice_get}
use Rattle.std.proofs.lemmas.Bool.{and_parts, and_from, false≢true}
use Rattle.std.proofs.lemmas.Bool.Decides.{Decides-eqb}
use Rattle.std.proofs.lemmas.List.Elements.{Contains-append_cases, Contains-append_left, Contains-append_right}
use Rattle.std.proofs.lemmas.Option.{none-some, same_Some}
use Rattle.judge.specs.AgreementLaws.{GivesLeast}
use Rattle.all_certificates.specs.CertifiedBodies.{IsEntry, AreOfBody, InTurn, no_item, item_and, AreOfFile, AreOfFiles, no_file, file_and}
use Rattle.certificate_json.specs.Certificates.{BodyEntry, PackageEntry}
use Rattle.certificates.specs.Least.{IsLeastOf}
use Rattle.meaning.proofs.Membership.{contains_nil, contains_here, contains_there, contains_cases}
use Rattle.meaning.specs.BodyEvents.{opened_in, bodies_of, unfollowed_faults}
use Rattle.meaning.specs.Mentions.{BodyPlace}
use Rattle.meaning.specs.Uses.{Callee, Seen}
use Rattle.meaning_packages.proofs.BodyPlaces.{placed_only}
use Rattle.meaning_packages.specs.CallsFlags.{FileWithCredits}
use Rattle.meaning_packages.specs.Credits.{Credits, promises_in}
use Rattle.meaning_packages.specs.PathFaults.{paths_of}
use Rattle.table_json.specs.TableValues.{if_fits}
use Rattle.verifier.specs.GivenViews.{rows_in, given_of}

-- The first entry at a place

record FoundThere (es : List BodyEntry) (number at : ℕ) : Type 0 where
  entry : BodyEntry
  is_among : Contains es entry
  is_file : entry.file ≡ number
  is_place : entry.at ≡ at
  is_found : rows_in es number at ≡ Some entry.states

rows_found : (es : List BodyEntry) (number at : ℕ) (e : BodyEntry) → Contains es e → e.file ≡ number → e.at ≡ at
    → FoundThere es number at
rows_found [] number at e h file place = absurd (contains_nil e h)
rows_found (x ∷ xs) number at e h file place =
    by ((x.file == number) && (x.at == at)) refl (λ later. rows_found xs number at e later file place)
  where
    by : (b : Bool) → ((x.file == number) && (x.at == at)) ≡ b
        → (Contains xs e → FoundThere xs number at)
        → FoundThere (x ∷ xs) number at
    by true q go =
        let both = and_parts (x.file == number) (x.at == at) q in
        record {
          entry = x;
          is_among = contains_here x xs;
          is_file = (Decides-eqb x.file number).0 both.0;
          is_place = (Decides-eqb x.at at).0 both.1;
          is_found = ap (λ b. if b then Some x.states else rows_in xs number at) q;
        }
    by false q go =
        elim (contains_cases x e xs h) [
          | inl same ↦
              let its_file = (Decides-eqb x.file number).1 (ap (λ (y : BodyEntry). y.file) same ∙ file) in
              let its_place = (Decides-eqb x.at at).1 (ap (λ (y : BodyEntry). y.at) same ∙ place) in
              absurd (false≢true (sym q ∙ and_from (x.file == number) (x.at == at) its_file its_place))
          | inr later ↦
              let w = go later in
              record {
                entry = w.entry;
                is_among = contains_there x w.entry xs w.is_among;
                is_file = w.is_file;
                is_place = w.is_place;
                is_found = ap (λ b. if b then Some x.states else rows_in xs number at) q ∙ w.is_found;
              }
        ]

-- What each item has

record HasOwn {A B : Type 0} (Has : A → List B → Type 0) (items : List A) (b : B) : Type 0 where
  item : A
  is_item : Contains items item
  own : List B
  has : Has item own
  is_own : Contains own b

turn_from : {A B : Type 0} (Has : A → List B → Type 0) (items : List A) (bs : List B) → InTurn Has items bs
    → (b : B) → Contains bs b
    → HasOwn Has items b
turn_from Has items bs no_item b h = absurd (contains_nil b h)
turn_from Has items bs (item_and {a = a} {others = others} {own = own} {rest = rest} has more) b h =
    elim (Contains-append_cases own rest b h) [
      | inl here ↦ record { item = a; is_item = contains_here a others; own = own; has = has; is_own = here }
      | inr later ↦
          let w = turn_from Has others rest more b later in
          record {
            item = w.item;
            is_item = contains_there a w.item others w.is_item;
            own = w.own;
            has = w.has;
            is_own = w.is_own;
          }
    ]

record OwnAmong {A B : Type 0} (Has : A → List B → Type 0) (a : A) (bs : List B) : Type 0 where
  own : List B
  has : Has a own
  are_among : (b : B) → Contains own b → Contains bs b

turn_to : {A B : Type 0} (Has : A → List B → Type 0) (items : List A) (bs : List B) → InTurn Has items bs
    → (a : A) → Contains items a
    → OwnAmong Has a bs
turn_to Has items bs no_item a h = absurd (contains_nil a h)
turn_to Has items bs (item_and {a = x} {others = others} {own = own} {rest = rest} has more) a h =
    elim (contains_cases x a others h) [
      | inl same ↦ record {
        own = own;
        has = subst (λ y. Has y own) same has;
        are_among = λ b k. Contains-append_left own rest b k;
      }
      | inr later ↦
          let w = turn_to Has others rest more a later in
          record { own = w.own; has = w.has; are_among = λ b k. Contains-append_right own rest b (w.are_among b k) }
    ]

module _ (calls : Callee → ℕ → Bool) where
  record FileHasOwn (n : ℕ) (files : List FileWithCredits) (e : BodyEntry) : Type 0 where
    place : ℕ
    file : FileWithCredits
    is_file : slice_get files place ≡ Some file
    own : List BodyEntry
    are_of : AreOfFile calls (n + place) file own
    is_own : Contains own e

  files_from : (n : ℕ) (files : List FileWithCredits) (es : List BodyEntry) → AreOfFiles calls n files es
      → (e : BodyEntry) → Contains es e
      → FileHasOwn n files e
  files_from n files es no_file e h = absurd (contains_nil e h)
  files_from n files es (file_and {file = f} {files = fs} {own = own} {rest = rest} are more) e h =
      elim (Contains-append_cases own rest e h) [
        | inl here ↦
            let same : n ≡ n + 0 = omega arith in
            record {
              place = 0;
              file = f;
              is_file = refl;
              own = own;
              are_of = subst (λ m. AreOfFile calls m f own) same are;
              is_own = here;
            }
        | inr later ↦
            let w = files_from (n + 1) fs rest more e later in
            let same : (n + 1) + w.place ≡ n + suc w.place = omega arith in
            record {
              place = suc w.place;
              file = w.file;
              is_file = w.is_file;
              own = w.own;
              are_of = subst (λ m. AreOfFile calls m w.file w.own) same w.are_of;
              is_own = w.is_own;
            }
      ]

  record FileOwnAmong (number : ℕ) (file : FileWithCredits) (es : List BodyEntry) : Type 0 where
    own : List BodyEntry
    are_of : AreOfFile calls number file own
    are_among : (e : BodyEntry) → Contains own e → Contains es e

  files_to : (n : ℕ) (files : List FileWithCredits) (es : List BodyEntry) → AreOfFiles calls n files es
      → (k : ℕ) (file : FileWithCredits) → slice_get files k ≡ Some file
      → FileOwnAmong (n + k) file es
  files_to n files es no_file k file e = absurd (none-some file e)
  files_to n files es (file_and {file = f} {files = fs} {own = own} {rest = rest} are more) zero file e =
      let same : n ≡ n + 0 = omega arith in
      record {
        own = own;
        are_of =
            subst (λ m. AreOfFile calls m file own) same (subst (λ g. AreOfFile calls n g own) (same_Some f file e) are);
        are_among = λ x k. Contains-append_left own rest x k;
      }
  files_to n files es (file_and {file = f} {files = fs} {own = own} {rest = rest} are more) (suc k) file e =
      let w = files_to (n + 1) fs rest more k file e in
      let same : (n + 1) + k ≡ n + suc k = omega arith in
      record {
        own = w.own;
        are_of = subst (λ m. AreOfFile calls m file w.own) same w.are_of;
        are_among = λ x h. Contains-append_right own rest x (w.are_among x h);
      }

  module _ (credits : Credits) (number : ℕ) (seen : Seen) (b : BodyPlace) where
    entry_of : (own : List BodyEntry) (e : BodyEntry) → AreOfBody calls credits number seen b own → Contains own e
        → IsEntry calls credits number seen b e
    entry_of [] e are h = absurd (contains_nil e h)
    entry_of (x ∷ []) e are h =
        elim (contains_cases x e [] h) [
          | inl same ↦ subst (IsEntry calls credits number seen b) same are
          | inr none ↦ absurd (contains_nil e none)
        ]
    entry_of (x ∷ y ∷ ys) e are h = absurd are

    record HasEntry (own : List BodyEntry) : Type 0 where
      entry : BodyEntry
      is_among : Contains own entry
      is_entry : IsEntry calls credits number seen b entry

    has_entry : (own : List BodyEntry) → AreOfBody calls credits number seen b own
        → unfollowed_faults seen b ≡ []
        → (if_fits number ≡ None → ⊥)
        → HasEntry own
    has_entry [] (inl unfollowed) followed fits = absurd (unfollowed followed)
    has_entry [] (inr unfit) followed fits = absurd (fits unfit)
    has_entry (x ∷ []) are followed fits = record { entry = x; is_among = contains_here x []; is_entry = are }
    has_entry (x ∷ y ∷ ys) are followed fits = absurd are

  -- the least rows are those of the same body, wherever it was found
  moved : (file other : FileWithCredits) (b c : BodyPlace) (rows : List (List ℕ)) → other ≡ file → c ≡ b
      → IsLeastOf (paths_of other.seen (promises_in calls other.credits c.at) c) rows
      → IsLeastOf (paths_of file.seen (promises_in calls file.credits b.at) b) rows
  moved file other b c rows same_file same_body h =
      subst (λ (x : BodyPlace). IsLeastOf (paths_of file.seen (promises_in calls file.credits x.at) x) rows) same_body
      (subst (λ (f : FileWithCredits). IsLeastOf (paths_of f.seen (promises_in calls f.credits c.at) c) rows) same_file h)

  one_file : (files : List FileWithCredits) (k n : ℕ) (f g : FileWithCredits) → slice_get files k ≡ Some f
      → slice_get files n ≡ Some g
      → k ≡ n
      → f ≡ g
  one_file files k n f g is is_too same = same_Some f g (sym is ∙ (ap (slice_get files) same ∙ is_too))

  same_at : (x a b : ℕ) → x ≡ a → x ≡ b → a ≡ b
  same_at x a b e d = sym e ∙ d

  one_place : (file k n : ℕ) → file ≡ 0 + k → file ≡ n → k ≡ n
  one_place file k n e d = omega (arith, e, d)

  pub gives_least : (p : PackageEntry) (files : List FileWithCredits) → AreOfFiles calls 0 files p.bodies
      → (number : ℕ) (file : FileWithCredits) → slice_get files number ≡ Some file
      → (if_fits number ≡ None → ⊥)
      → ((b c : BodyPlace) → Contains (opened_in file.seen.marks) b → Contains (opened_in file.seen.marks) c → b.at ≡ c.at
      → b ≡ c)
      → GivesLeast (given_of (Some p)) calls number file
  gives_least p files are number file is fits one_each b among followed =
      let zero_more : 0 + number ≡ number = omega arith in
      let its = files_to 0 files p.bodies are number file is in
      let of_file = subst (λ n. AreOfFile calls n file its.own) zero_more its.are_of in
      let body = turn_to (AreOfBody calls file.credits number file.seen) (bodies_of file.seen) its.own of_file b among in
      let has = has_entry file.credits number file.seen b body.own body.has followed fits in
      let there = its.are_among has.entry (body.are_among has.entry has.is_among) in
      let first = rows_found p.bodies number b.at has.entry there has.is_entry.is_file has.is_entry.is_place in
      let from = files_from 0 files p.bodies are first.entry first.is_among in
      let one = turn_from (AreOfBody calls from.file.credits (0 + from.place) from.file.seen) (bodies_of from.file.seen)
      from.own from.are_of first.entry from.is_own in
      let entry = entry_of from.file.credits (0 + from.place) from.file.seen one.item one.own first.entry one.has one.is_own in
      let same_file = one_file files from.place number from.file file from.is_file is
      (one_place first.entry.file from.place number entry.is_file first.is_file) in
      let in_file = subst (λ (f : FileWithCredits). Contains (bodies_of f.seen) one.item) same_file one.is_item in
      let same_body = one_each one.item b (placed_only (opened_in file.seen.marks) one.item in_file)
      (placed_only (opened_in file.seen.marks) b among) (same_at first.entry.at one.item.at b.at entry.is_place first.is_place) in
      record {
        rows = first.entry.states;
        are_given = first.is_found;
        are_least = moved file from.file b one.item first.entry.states same_file same_body entry.is_least;
      }

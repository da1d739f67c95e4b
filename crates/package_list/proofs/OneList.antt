-- A text has one answer.
use Rattle.std.proofs.Common.{◌≡◌, ◌≢◌, inl, inr, ℕ, ◌∷◌, [], List, Some, None, refl, sym, ap, subst, ◌∙◌}
use Rattle.std.specs.List.{AllZip}
use Rattle.serde_json.specs.Data.{Data}
use Rattle.json_reading.specs.Standing.{SomeIs}
use Rattle.package_list.specs.declared.fault.ListFault.{ListFault}
use Rattle.package_list.specs.declared.fault.ListFault.TheVariants.{NotJson, WrongShape, Incomplete, Empty, OutOfMemory}
use Rattle.package_list.specs.ListedValues.{PackageEntry}
use Rattle.package_list.specs.ListLaws.{OneAnswer}
use Rattle.package_list.specs.ListTexts.{first_incomplete, AreListedIn, IsJsonOf, IsListFault, IsNoJson, IsNoPackage, IsPackage}
use Rattle.package_list.specs.Pieces.{pieces}

some_same : {A : Type 0} {a b : A} → Some a ≡ Some b → a ≡ b
some_same e = cc

some_none : {A : Type 0} {a : A} → Some a ≡ None → ⊥
some_none e = absurd (cc)

module _ {A B : Type 0} (Is : A → B → Type 0) where
  -- one list at most stands for a list, where one thing at most stands for each of its elements
  one_zip : ((a : A) (b c : B) → Is a b → Is a c → b ≡ c)
      → (xs : List A) (bs cs : List B)
      → AllZip Is xs bs
      → AllZip Is xs cs
      → bs ≡ cs
  one_zip one [] [] [] h k = refl
  one_zip one [] (b ∷ bs) cs h k = absurd h
  one_zip one [] [] (c ∷ cs) h k = absurd k
  one_zip one (x ∷ xs) [] cs h k = absurd h
  one_zip one (x ∷ xs) (b ∷ bs) [] h k = absurd k
  one_zip one (x ∷ xs) (b ∷ bs) (c ∷ cs) h k = λ i. one x b c h.0 k.0 i ∷ one_zip one xs bs cs h.1 k.1 i

  -- and none stands for a list of whose elements one has none
  none_zip : (IsNone : A → Type 0)
      → ((a : A) (b : B) → IsNone a → Is a b → ⊥)
      → (xs : List A) (bs : List B)
      → SomeIs IsNone xs
      → AllZip Is xs bs
      → ⊥
  none_zip IsNone none [] bs some h = some
  none_zip IsNone none (x ∷ xs) [] some h = h
  none_zip IsNone none (x ∷ xs) (b ∷ bs) (inl is) h = none x b is h.0
  none_zip IsNone none (x ∷ xs) (b ∷ bs) (inr some) h = none_zip IsNone none xs bs some h.1

one_value : (piece : List ℕ) (v w : Data) → IsJsonOf piece v → IsJsonOf piece w → v ≡ w
one_value piece v w h k = some_same (sym h.is_json ∙ k.is_json)

one_package : (value : Data) (p q : PackageEntry) → IsPackage value p → IsPackage value q → p ≡ q
one_package value p q h k = some_same (sym h ∙ k)

no_value : (piece : List ℕ) (v : Data) → IsNoJson piece → IsJsonOf piece v → ⊥
no_value piece v (inl other) h = other h.is_utf8
no_value piece v (inr none) h = some_none (sym h.is_json ∙ none)

no_package : (value : Data) (p : PackageEntry) → IsNoPackage value → IsPackage value p → ⊥
no_package value p none h = some_none (sym h ∙ none)

module _ (text : List ℕ) (entries : List PackageEntry) (h : AreListedIn text entries) where
  -- these are the packages of any values of the text
  packages_of : (values : List Data) → AllZip IsJsonOf (pieces text) values → AllZip IsPackage values entries
  packages_of values each =
      subst (λ vs. AllZip IsPackage vs entries)
      (one_zip IsJsonOf one_value (pieces text) h.values values h.are_values each) h.are_packages

  one_list : (others : List PackageEntry) → AreListedIn text others → others ≡ entries
  one_list others k =
      one_zip IsPackage one_package k.values others entries k.are_packages (packages_of k.values k.are_values)

  no_fault : (fault : ListFault) → entries ≢ [] → first_incomplete entries ≡ None → IsListFault text fault → fault ≡ OutOfMemory
  no_fault NotJson some complete is =
      absurd (none_zip IsJsonOf IsNoJson no_value (pieces text) h.values is h.are_values)
  no_fault WrongShape some complete is =
      absurd (none_zip IsPackage IsNoPackage no_package is.0 entries is.2 (packages_of is.0 is.1))
  no_fault (Incomplete path) some complete is =
      absurd (some_none (sym is.2 ∙ ap first_incomplete (one_list is.0 is.1) ∙ complete))
  no_fault Empty some complete is = absurd (some (sym (one_list [] is)))
  no_fault OutOfMemory some complete is = refl

pub one_answer : OneAnswer
one_answer = record {
  one_list = λ text entries others h k. one_list text entries h others k;
  no_fault = λ text entries fault h some complete is. no_fault text entries h fault some complete is;
}

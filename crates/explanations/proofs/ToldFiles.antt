-- What is told of the files of a package, one file after the other.
use Rattle.std.proofs.Common.{◌≡◌, ℕ, ◌+◌, ◌<◌, Bool, inl, inr, List, [], ◌∷◌, ◌++◌, length, Some, sym, ap, ◌∙◌, subst, arith}
use Rattle.std.specs.Prelude.{slice_get}
use Rattle.std.proofs.lemmas.List.{length-append}
use Rattle.std.proofs.lemmas.Option.{none-some, same_Some, slice_get_within}
use Rattle.body_ways.specs.BodyWays.{ToldWay}
use Rattle.calls_flags.specs.FilesBodies.{TellAll, TellsWithCredits}
use Rattle.calls_flags.specs.declared.file_bodies.FileBodies.{FileBodies}
use Rattle.explanations.specs.Ways.{AreToldOf, TellWays}
use Rattle.meaning.specs.BodyEvents.{bodies_of}
use Rattle.meaning.specs.Uses.{Callee}
use Rattle.meaning_packages.specs.CallsFlags.{FileWithCredits}
use Rattle.path_faults.proofs.Places.{element_at}
use Rattle.silent_files.proofs.OneMore.{last_or_before}

module _ (calls : Callee → ℕ → Bool) (files : List FileBodies) where
  -- the files before that place are told
  pub record AreTold (count : ℕ) (ways : List (List ToldWay)) : Type 0 where
    pub are_as_many : length ways ≡ count
    pub each : (i : ℕ) (k : FileBodies) (told : List ToldWay) → slice_get files i ≡ Some k
        → slice_get ways i ≡ Some told
        → (f : FileWithCredits)
        → TellsWithCredits i f k
        → AreToldOf calls f (bodies_of f.seen) told

  pub none_told : (ways : List (List ToldWay)) → ways ≡ [] → AreTold 0 ways
  none_told ways none = record {
    are_as_many = ap length none;
    each = λ i k told is is_told. absurd (none-some told (ap (λ ws. slice_get ws i) (sym none) ∙ is_told));
  }

  pub one_told : (count : ℕ) (ways next : List (List ToldWay)) (k : FileBodies) (told : List ToldWay)
      → slice_get files count ≡ Some k
      → next ≡ ways ++ told ∷ []
      → ((number : ℕ) (f : FileWithCredits) → TellsWithCredits number f k → AreToldOf calls f (bodies_of f.seen) told)
      → AreTold count ways
      → AreTold (count + 1) next
  one_told count ways next k told is_there is_next so h = record {
    are_as_many = ap length is_next ∙ (length-append ways (told ∷ []) ∙ ap (λ n. n + 1) h.are_as_many);
    each = λ i j w is is_w f tells.
        elim (last_or_before ways told i w (ap (λ ws. slice_get ws i) (sym is_next) ∙ is_w)) [
          | inl before ↦ h.each i j w is before f tells
          | inr last ↦
              let same : j ≡ k = same_Some j k (sym is ∙ ap (slice_get files) (last.0 ∙ h.are_as_many) ∙ is_there) in
              subst (AreToldOf calls f (bodies_of f.seen)) last.1
              (so i f (subst (TellsWithCredits i f) same tells))
        ];
  }

  pub all_told : (count : ℕ) (ways : List (List ToldWay)) → length files ≡ count → AreTold count ways
      → (fs : List FileWithCredits)
      → TellAll fs files
      → TellWays calls fs ways
  all_told count ways size h fs tell = record {
    are_as_many = h.are_as_many ∙ (sym size ∙ sym tell.are_as_many);
    each = λ i f told is is_told.
        let within : i < length files =
        (let l = slice_get_within ways i told is_told in omega (arith, l, size, h.are_as_many)) in
        let k = element_at files i within in
        h.each i k.0 told k.2 is_told f (tell.each i f k.0 is k.2);
  }

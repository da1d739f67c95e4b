use Rattle.std.proofs.Common.{◌≡◌, ◌+◌, ◌++◌, false, true, List, ◌∷◌, map, drop, rules, subst, sym, ◌∙◌}
use Rattle.std.proofs.lemmas.List.{append-nil}
use Rattle.command_line.specs.KeptWords.{ends_options, IsKeptSo}
use Rattle.command_line.specs.Words.{named_after, named_by, only_packages, texts_of}
use Rattle.command_line.proofs.WordsKept.{named_behind, texts_left}
use Rattle.command_line.proofs.kept.kept_words.Goals as goal

pub loop-place-preserved : goal.loop-place-preserved
loop-place-preserved g c =
    let text = g.S.AsStr.text in
    let words = c.args.words.now in
    let place = c.loop-place.place in
    let this = c.index-words-place.result in
    let word = c.as_str-word.result.now in
    let rest = map text (drop (place + 1) words) in
    let all = named_by (map text words) in
    let same : text this ≡ word = search rules in
    let is_kept : ends_options c.loop-place.awaited word ≡ false = search rules in
    let left : map text (drop place words) ≡ word ∷ rest
    = texts_left text words place this c.loop-place-test.true c.index-words-place.is word same in
    c.in_ok-awaited.ensures is_kept rest all
    (subst (λ ws. IsKeptSo c.loop-place.kept (named_after c.loop-place.awaited ws) all) left c.loop-place.invariant)

pub returns-then-ends_options : goal.returns-then-ends_options
returns-then-ends_options g c =
    let text = g.S.AsStr.text in
    let words = c.args.words.now in
    let place = c.loop-place.place in
    let awaited = c.loop-place.awaited in
    let kept = c.loop-place.kept in
    let this = c.index-words-place.result in
    let word = c.as_str-word.result.now in
    let rest = map text (drop (place + 1) words) in
    let all = named_by (map text words) in
    let same : text this ≡ word = search rules in
    let ends : ends_options awaited word ≡ true = search rules in
    let left : map text (drop place words) ≡ word ∷ rest
    = texts_left text words place this c.loop-place-test.true c.index-words-place.is word same in
    let so : IsKeptSo kept (only_packages rest) all
    = subst (λ n. IsKeptSo kept n all) (named_behind awaited word rest ends)
    (subst (λ ws. IsKeptSo kept (named_after awaited ws) all) left c.loop-place.invariant) in
    let added : texts_of c.add_all.new.kept.items ≡ texts_of kept.packages.items ++ rest = search rules in
    record {
      files = sym (append-nil (texts_of kept.files.items)) ∙ so.files;
      facts = sym (append-nil (texts_of kept.facts.items)) ∙ so.facts;
      baselines = sym (append-nil (texts_of kept.baselines.items)) ∙ so.baselines;
      lists = sym (append-nil (texts_of kept.lists.items)) ∙ so.lists;
      formats = sym (append-nil (texts_of kept.formats.items)) ∙ so.formats;
      editions = sym (append-nil (texts_of kept.editions.items)) ∙ so.editions;
      numbers = sym (append-nil (texts_of kept.numbers.items)) ∙ so.numbers;
      whys = sym (append-nil (texts_of kept.whys.items)) ∙ so.whys;
      accepted = sym (append-nil (texts_of kept.accepted.items)) ∙ so.accepted;
      quiet = sym (append-nil (texts_of kept.quiet.items)) ∙ so.quiet;
      without_library = sym (append-nil (texts_of kept.without_library.items)) ∙ so.without_library;
      packages = added ∙ so.packages;
    }

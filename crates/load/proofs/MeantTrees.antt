-- The trees of files whose imports are of the paths that are meant.
use Rattle.std.proofs.Common.{◌≡◌, ℕ, List, [], ◌∷◌, Ok, Err, refl, sym, subst}
use Rattle.lexer.specs.declared.source.Source.{Source}
use Rattle.tree.specs.declared.edition.Edition.{Edition}
use Rattle.tree.specs.Syntax.{SourceFile}
use Rattle.tree.specs.View.{file_syntax}
use Rattle.meaning_reports.specs.MeantImports.{Meant, IsTreeButForImports}
use Rattle.whole_packages.specs.declared.loaded_package.Reading.{Reading as KeptReading}
use Rattle.whole_packages.specs.declared.loaded_package.Reading.TheVariants.{Tree, NoTokens, NoTree}
use Rattle.load.specs.MeantPaths.{meant_path, IsMeantTree, MeantPath}
use Rattle.load.specs.Readings.{reading_of, trees_of, IsKeptWith, IsMeantWith, IsParsed, MeansImports, Parsed}

-- such a tree is that of the text but for its imports
pub of_meant : (edition : Edition) (paths : List MeantPath) (text : List ℕ) (tree : SourceFile)
    → IsMeantTree edition paths text tree
    → IsTreeButForImports edition text tree
of_meant edition paths text tree h = record {
  meant = meant_path edition paths;
  written = h.written;
  is_tree = h.is_tree;
  same = h.same;
}

no_tree_meant : (edition : Edition) (paths : List MeantPath) (text : List ℕ) (reading : KeptReading)
    → IsKeptWith edition text reading []
    → IsMeantWith edition paths text reading []
no_tree_meant edition paths text Tree h = absurd h
no_tree_meant edition paths text (NoTokens at why) h = h
no_tree_meant edition paths text (NoTree at why) h = h

-- what became of the text, with the imports that are meant
pub means_so : (edition : Edition) (paths : List MeantPath) (source : Source) (parsed meant : Parsed)
    → IsParsed edition source parsed
    → MeansImports (meant_path edition paths) parsed meant
    → IsMeantWith edition paths source.bytes.items (reading_of meant) (trees_of meant)
means_so edition paths source (Ok tree) (Ok other) is means =
    record { written = file_syntax tree; is_tree = is; same = sym means }
means_so edition paths source (Ok tree) (Err reading) is means = absurd means
means_so edition paths source (Err reading) (Ok tree) is means = absurd means
means_so edition paths source (Err reading) (Err other) is means =
    no_tree_meant edition paths source.bytes.items other
    (subst (λ r. IsKeptWith edition source.bytes.items r []) (sym means) is)

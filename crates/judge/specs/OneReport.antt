-- Given packages have one report where the same is declared of others: one verdict however it is told, always; where
-- each file that has tokens has a tree, the same counts in all forms, and one text in each. Of a file that has tokens
-- and no tree the definitions leave open which reason is given, and where; so what is told of such a file may differ.
use Rattle.std.specs.Prelude.{◌≡◌, List, Contains}
use Rattle.lexer.specs.declared.source.Source.{Source}
use Rattle.lexer.specs.declared.token.Token.{Token}
use Rattle.lexer.specs.Tokens.{IsTokens}
use Rattle.tree.specs.Syntax.{SourceFile}
use Rattle.meaning.specs.TreeOfText.{IsTreeOf}
use Rattle.load.specs.declared.packages.GivenPackage.{GivenPackage}
use Rattle.declared_json.specs.DeclaredPackages.{PackageEntry}
use Rattle.accepting.specs.Found.{unasked_of}
use Rattle.accepting.specs.declared.telling.Telling.{Telling}
use Rattle.judge.specs.Reports.{Report, IsReport}
use Rattle.told_reports.specs.Reports.{known_in}

-- each file that has tokens has a tree
abbrev pub HaveTrees : List GivenPackage → Type 0
HaveTrees given = (g : GivenPackage) (s : Source) (tokens : List Token)
    → Contains given g
    → Contains g.sources.items s
    → IsTokens s.bytes.items tokens
    → (tree : SourceFile) × IsTreeOf g.edition s.bytes.items tree

-- by both the same is accepted, of the same packages
pub record AcceptTheSame (one other : Telling) : Type 0 where
  pub wording : one.wording ≡ other.wording
  pub stale : one.tells_stale ≡ other.tells_stale
  pub known : known_in one ≡ known_in other
  pub unasked : unasked_of one ≡ unasked_of other

pub record GivenPackagesHaveOneReport : Type 0 where
  pub one_verdict : (telling telling_too : Telling) (outside : List PackageEntry) (given : List GivenPackage)
      (one other : Report)
      → IsReport telling outside given one
      → IsReport telling_too outside given other
      → one.yes ≡ other.yes
  pub same_counts : (telling telling_too : Telling) (outside : List PackageEntry) (given : List GivenPackage)
      (one other : Report)
      → HaveTrees given
      → AcceptTheSame telling telling_too
      → IsReport telling outside given one
      → IsReport telling_too outside given other
      → (one.counts ≡ other.counts) × (one.passes ≡ other.passes)
  pub one_text : (telling : Telling) (outside : List PackageEntry) (given : List GivenPackage) (one other : Report)
      → HaveTrees given
      → IsReport telling outside given one
      → IsReport telling outside given other
      → one.text.items ≡ other.text.items

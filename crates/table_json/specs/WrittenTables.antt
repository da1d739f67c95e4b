-- What is written of a table, in whatever order it stands: the functions of which anything is told but their names, in
-- the order of their names, each with its positions in their order.
use Rattle.std.specs.Prelude.{ℕ, ◌≡◌, ◌==◌, not, ◌&&◌, Bool, true, List, length, IsPermutation}
use Rattle.std.specs.List.{AllZip, filter, list_all}
use Rattle.std.specs.List.Sorted.{IsSortedByKey}
use Rattle.std.specs.declared.cmp.Ordering.{Ordering}
use Rattle.std.specs.Ordering.{nat_cmp}
use Rattle.serde_json.specs.Written.{compact_text}
use Rattle.table_json.specs.Tables.{Entry, itself, position_of, name_of, by_bytes, IsInOrder}
use Rattle.table_json.specs.TableTexts.{IsTableText}
use Rattle.table_json.specs.TableValues.{table_value}

-- the same, in the order of the keys
pub record IsOrdered {A K : Type 0} (cmp : K → K → Ordering) (key : A → K) (given kept : List A) : Type 0 where
  pub same : IsPermutation given kept
  pub in_order : IsSortedByKey key cmp kept

-- anything is told but the name
abbrev pub says_something : Entry → Bool
says_something f = not ((length f.gives == 0) && (length f.causes == 0) && (length f.params == 0))

pub record IsWrittenAs (f written : Entry) : Type 0 where
  pub is_name : written.name ≡ f.name
  pub are_gives : IsOrdered nat_cmp itself f.gives written.gives
  pub are_causes : IsOrdered nat_cmp itself f.causes written.causes
  pub are_params : IsOrdered nat_cmp position_of f.params written.params

pub record AreWritten (table written : List Entry) : Type 0 where
  pub told : List Entry
  pub are_told : IsOrdered by_bytes name_of (filter says_something table) told
  pub each : AllZip IsWrittenAs told written

-- the text of what is written of the table; where no name comes twice in that, and no position among the results or the
-- parameters of a function, it reads back as that
pub record IsWrittenText (table : List Entry) (text : List ℕ) : Type 0 where
  pub written : List Entry
  pub are_written : AreWritten table written
  pub is_text : text ≡ compact_text (table_value written)
  pub reads_back : IsInOrder written → IsTableText text written

-- a table that is in order, and tells something of each function, is written as it stands
abbrev pub TablesInOrderAreWritten : Type 0
TablesInOrderAreWritten = (table written : List Entry)
    → AreWritten table written
    → IsInOrder table
    → list_all says_something table ≡ true
    → written ≡ table

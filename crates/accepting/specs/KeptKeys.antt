-- What the program keeps of keys: how many of each are left. It counts in 64 bits, and so no further than these hold.
use Rattle.std.specs.Prelude.{◌≡◌, ℕ, ◌+◌, ◌-◌, ◌^◌, ◌++◌, ◌&&◌, Bool, if◌then◌else◌, min, List, [], ◌∷◌, count_by}
use Rattle.std.specs.Option.{unwrap_or}
use Rattle.indexmap.specs.IndexMap.{get_by}
use Rattle.baseline_json.specs.BaselineValues.{BaselineEntry}
use Rattle.lexer.specs.declared.source.Source.{Source}
use Rattle.accepting.specs.declared.keys.FindingKey.{FindingKey}
use Rattle.accepting.specs.declared.keys.KeyCounts.{KeyCounts}
use Rattle.accepting.specs.ByBaseline.{Key, is_key, key_in, key_of, open_keys, is_open, has_more, accepted_if, findings_by_baseline}
use Rattle.accepting.specs.Findings.{FindingEntry, FoundEntry}
use Rattle.accepting.specs.Gone.{is_gone}

abbrev pub key_view : FindingKey → Key
key_view k = record { file = k.file.now; code = k.code.now; name = k.name.now }

abbrev pub left_of : KeyCounts → Key → ℕ
left_of counts key = unwrap_or (get_by (λ k. is_key key (key_view k)) counts.counts) 0

-- the most that is counted, and one more, as far as is counted
abbrev pub most : ℕ
most = 2 ^ 64 - 1

abbrev pub one_more : ℕ → ℕ
one_more n = min (n + 1) most

abbrev pub one_less : ℕ → ℕ
one_less n = n - 1

-- how many of a key are left, where that of one key changed so
abbrev pub left_after : (ℕ → ℕ) → KeyCounts → Key → Key → ℕ
left_after change counts changed key =
    if is_key key changed then change (left_of counts key) else left_of counts key

-- of each key as many are left as are known, less those that stood before
pub record AreLeft (known before : List Key) (counts : KeyCounts) : Type 0 where
  pub are_left : (key : Key)
      → left_of counts key ≡ min (count_by (is_key key) known) most - count_by (is_key key) before

-- a finding behind others with these keys, told so
pub record IsTold
    (known before : List Key) (sources : List Source) (f told : FindingEntry) (counts : KeyCounts)
    : Type 0 where
  pub is_told : told ≡ accepted_if (is_open f && has_more known before (key_of sources f)) f
  pub left : AreLeft known (before ++ open_keys sources (f ∷ [])) counts

-- the findings of a package
pub record AreTold
    (known before : List Key) (sources : List Source) (fs told : List FindingEntry) (counts : KeyCounts)
    : Type 0 where
  pub are_told : told ≡ findings_by_baseline known before sources fs
  pub left : AreLeft known (before ++ open_keys sources fs) counts

-- a package
pub record IsPackageTold (known before : List Key) (p told : FoundEntry) (counts : KeyCounts) : Type 0 where
  pub is_told : told ≡ record p { findings = findings_by_baseline known before p.sources p.findings }
  pub left : AreLeft known (before ++ open_keys p.sources p.findings) counts

-- a finding of the baseline behind others with these keys: whether it is gone, and what is left of those of the run
pub record IsGoneBy (run before : List Key) (e : BaselineEntry) (is : Bool) (counts : KeyCounts) : Type 0 where
  pub is_so : is ≡ is_gone run before e
  pub left : AreLeft run (before ++ key_in e ∷ []) counts

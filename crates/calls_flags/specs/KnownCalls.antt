-- What is known of the functions of a package and of its imports, put together.
use Rattle.std.specs.Prelude.{ℕ, Bool}
use Rattle.meaning.specs.Uses.{Callee}
use Rattle.meaning_packages.specs.CallsFlags.{calls_by}
use Rattle.called_parameters.specs.Called.{is_called, flags_by_path}
use Rattle.calls_flags.specs.declared.known_calls.KnownCalls.{KnownCalls}

abbrev pub known_calls : KnownCalls → Callee → ℕ → Bool
known_calls known = calls_by (is_called known.own.now) (flags_by_path known.imported.now)

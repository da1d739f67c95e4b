-- How many threads share some work.
use Rattle.std.specs.Prelude.{ℕ}
use Rattle.workers.specs.declared.count.Workers.{Workers}

abbrev pub count_of : Workers → ℕ
count_of workers = workers.count
